-- What the space rule lacks is at most what a point counts as missing, and just that for volumes that use what they claim.
use Rattle.std.proofs.Common.{◌≡◌, ℕ, zero, suc, ◌+◌, ◌-◌, ◌*◌, ◌<◌, ◌≤◌, max, true, length, refl, sym, ap, subst, ◌∙◌, arith}
use Rattle.std.specs.Prelude.{Option, Some, None, IfSome, nat_le, nat_lt, sum_by}
use Rattle.std.specs.List.{range_with_len}
use Rattle.std.specs.Option.{option_map, option_map_or}
use Rattle.std.proofs.lemmas.Bool.Decides.{nat_tests}
use Rattle.std.proofs.lemmas.List.Sums.{sum_by-cons}
use Rattle.fv_disk.specs.Shown.{Image}
use Rattle.fv_bits.proofs.Counts.{passing_le}
use Rattle.fv_model.specs.declared.commands.Kind.{Kind}
use Rattle.fv_model.specs.declared.commands.Kind.TheVariants.{Volume as Whole, File as ByFile, Thin}
use Rattle.fv_model.specs.Machines.{first_block}
use Rattle.fv_model.specs.Space.{charge, commit, need, overhead, promised, use_of}
use Rattle.fv_laws.specs.Positions.{HasNoReserve}
use Rattle.fv_laws.proofs.PathCharges.{no_need}
use Rattle.fv_image.specs.Containers.{most_entries}
use Rattle.fv_image.specs.Views.{Head, View, slots, overheads}
use Rattle.fv_image.specs.Volumes.{volume_told, volume_with}
use Rattle.fv_image.specs.Seen.{VolumeSeen, seen, volume_seen}
use Rattle.fv_image.specs.Soundness.{AreTables}
use Rattle.fv_image.specs.VolumeRules.{commits_seen, has_use_in_size, uses_seen}
use Rattle.fv_image.proofs.Points.{within_third}
use Rattle.fv_image.proofs.SameSeen.{of_volume, seen_at}
use Rattle.fv_delay.specs.Delay.{delayed_of, is_delayed}
use Rattle.fv_delay.specs.Holding.{Holding, all_delayed}
use Rattle.fv_delay.proofs.AllVolumes.{counts_total}
use Rattle.fv_pool.specs.declared.pool.Pool.{Pool}
use Rattle.fv_volume.specs.declared.state.VolumeState.{VolumeState}
use Rattle.fv_volume.specs.Files.{AreStates, IsState}
use Rattle.fv_volume.specs.States.{States, head_in, state_at, view_over}
use Rattle.fv_volume.specs.Trees.{no_trees}
use Rattle.fv_volumes.proofs.Standings.{active_is}
use Rattle.fv_cp.specs.Choosing.{greatest_number, holdings, claimed, claimed_by, missing_for}
use Rattle.fv_cp.proofs.Sums.{over_slots}

-- ---- sums

-- they are the third where the parts are
both_are : (a b c : ℕ → ℕ) (from count : ℕ) → ((k : ℕ) → from ≤ k → k < from + count → 2 * a k + b k ≡ c k) → 2 * sum_by a (range_with_len from count) + sum_by b (range_with_len from count) ≡ sum_by c (range_with_len from count)
both_are a b c from zero each = refl
both_are a b c from (suc count) each =
    let first = sum_by-cons a from (range_with_len (from + 1) count) in
    let third = sum_by-cons c from (range_with_len (from + 1) count) in
    omega (arith, first, sum_by-cons b from (range_with_len (from + 1) count), third, each from (omega arith) (omega arith), both_are a b c (from + 1) count (λ k low high. each k (omega (arith, low)) (omega (arith, high))))

-- a sum of numbers that are at most those of a container's entries
sum_few : (f : ℕ → ℕ) (from count : ℕ) → ((k : ℕ) → f k ≤ most_entries) → sum_by f (range_with_len from count) ≤ most_entries * count
sum_few f from zero each = omega arith
sum_few f from (suc count) each = omega (arith, sum_by-cons f from (range_with_len (from + 1) count), each from, sum_few f (from + 1) count each)

-- ---- what volumes use

-- a slot without a head shows no volume
pub none_seen : (w : View) (s : ℕ) → s < 64 → w.head s ≡ None → (seen w).volume s ≡ None
unfolding seen
none_seen w s inside e = let low : nat_lt s 64 ≡ true = grind (arith, nat_tests, inside) in rw (low, e) refl

-- All overheads twice and what all volumes use are at most what they commit.
module _ (w : View) (tables : AreTables (seen w)) where
  use_promised : (s : ℕ) (h : Head) → s < 64 → w.head s ≡ Some h → 2 * overhead h.span + use_of (volume_told w s h) ≤ commit (volume_told w s h)
  unfolding volume_with has_use_in_size volume_seen
  use_promised s h inside is =
      let size : nat_le (use_of (volume_told w s h)) h.size ≡ true = of_volume w (λ s x. nat_le (use_of x.volume) x.head.size) s h tables.sizes inside is in
      let fits : use_of (volume_told w s h) ≤ h.size = grind (arith, nat_tests, size) in
      so h.kind refl fits
    where
      so : (kind : Kind) → h.kind ≡ kind → use_of (volume_told w s h) ≤ h.size → 2 * overhead h.span + use_of (volume_told w s h) ≤ 2 * overhead h.span + promised (volume_told w s h) h.kind
      so Whole e fits = let p : promised (volume_told w s h) h.kind ≡ h.size = ap (promised (volume_told w s h)) e in omega (arith, fits, p)
      so ByFile e fits = let p : promised (volume_told w s h) h.kind ≡ use_of (volume_told w s h) = ap (promised (volume_told w s h)) e in omega (arith, p)
      so Thin e fits = let p : promised (volume_told w s h) h.kind ≡ use_of (volume_told w s h) = ap (promised (volume_told w s h)) e in omega (arith, p)

  pub uses_promised : 2 * overheads w + uses_seen (seen w) ≤ commits_seen (seen w)
  unfolding overheads uses_seen commits_seen slots volume_seen
  uses_promised = within_third (λ s. option_map_or (λ h. overhead h.span) (w.head s) 0) (λ s. option_map_or (λ x. use_of x.volume) ((seen w).volume s) 0) (λ s. option_map_or (λ x. commit x.volume) ((seen w).volume s) 0) 0 64
      (λ s low high. so s (omega (arith, high)) (w.head s) refl)
    where
      so : (s : ℕ) → s < 64 → (o : Option Head) → w.head s ≡ o
          → 2 * option_map_or (λ h. overhead h.span) (w.head s) 0 + option_map_or (λ x. use_of x.volume) ((seen w).volume s) 0 ≤ option_map_or (λ x. commit x.volume) ((seen w).volume s) 0
      so s inside None e =
          let a : option_map_or (λ h. overhead h.span) (w.head s) 0 ≡ 0 = ap (λ (o : Option Head). option_map_or (λ h. overhead h.span) o 0) e in
          let b : option_map_or (λ x. use_of x.volume) ((seen w).volume s) 0 ≡ 0 = ap (λ (o : Option VolumeSeen). option_map_or (λ x. use_of x.volume) o 0) (none_seen w s inside e) in
          omega (arith, a, b)
      so s inside (Some h) e =
          let a : option_map_or (λ h. overhead h.span) (w.head s) 0 ≡ overhead h.span = ap (λ (o : Option Head). option_map_or (λ h. overhead h.span) o 0) e in
          let b : option_map_or (λ x. use_of x.volume) ((seen w).volume s) 0 ≡ use_of (volume_told w s h) = ap (λ (o : Option VolumeSeen). option_map_or (λ x. use_of x.volume) o 0) (seen_at w s h inside e) in
          let c : option_map_or (λ x. commit x.volume) ((seen w).volume s) 0 ≡ commit (volume_told w s h) = ap (λ (o : Option VolumeSeen). option_map_or (λ x. commit x.volume) o 0) (seen_at w s h inside e) in
          omega (arith, a, b, c, use_promised s h inside e)

-- What the volumes of a view use, with all overheads twice, is what they claim by their ledgers: no file has a reserve.
module _ (pool : Pool) (states : States) (i : Image) (long : length states ≡ 64) (are : AreStates (view_over pool states i) no_trees states) where
  abbrev v : View
  v = view_over pool states i

  head_there : (s : ℕ) (x : VolumeState) → state_at states s ≡ Some x → v.head s ≡ Some (head_in x)
  unfolding view_over
  head_there s x there = ap (option_map head_in) there

  head_none : (s : ℕ) → state_at states s ≡ None → v.head s ≡ None
  unfolding view_over
  head_none s none = ap (option_map head_in) none

  -- a volume needs nothing for reserves
  pub none_needed : (s : ℕ) (x : VolumeState) → state_at states s ≡ Some x → IsState v no_trees s x → need (volume_told v s (head_in x)) ≡ 0
  unfolding volume_with
  none_needed s x is state = no_need (volume_told v s (head_in x)) (subst HasNoReserve (active_is v s (head_in x) (head_there s x is)) state.reserves)

  pub uses_claimed : 2 * overheads v + uses_seen (seen v) ≡ claimed states
  unfolding overheads uses_seen slots volume_seen
  uses_claimed = subst (λ (n : ℕ). 2 * overheads v + uses_seen (seen v) ≡ n) (sym (over_slots claimed_by states long))
      (both_are (λ s. option_map_or (λ h. overhead h.span) (v.head s) 0) (λ s. option_map_or (λ x. use_of x.volume) ((seen v).volume s) 0) (λ s. claimed_by (state_at states s)) 0 64 (λ s low high. so s (omega (arith, high)) (state_at states s) refl))
    where
      so : (s : ℕ) → s < 64 → (o : Option VolumeState) → state_at states s ≡ o
          → 2 * option_map_or (λ h. overhead h.span) (v.head s) 0 + option_map_or (λ x. use_of x.volume) ((seen v).volume s) 0 ≡ claimed_by (state_at states s)
      so s inside None e =
          let a : option_map_or (λ h. overhead h.span) (v.head s) 0 ≡ 0 = ap (λ (o : Option Head). option_map_or (λ h. overhead h.span) o 0) (head_none s e) in
          let b : option_map_or (λ x. use_of x.volume) ((seen v).volume s) 0 ≡ 0 = ap (λ (o : Option VolumeSeen). option_map_or (λ x. use_of x.volume) o 0) (none_seen v s inside (head_none s e)) in
          let c : claimed_by (state_at states s) ≡ 0 = ap claimed_by e in
          omega (arith, a, b, c)
      so s inside (Some x) e =
          let h : Head = head_in x in
          let state : IsState v no_trees s x = subst (λ (o : Option VolumeState). IfSome o (IsState v no_trees s)) e (are.each s) in
          let table = ap (volume_with v s h) (active_is v s h (head_there s x e)) in
          let a : option_map_or (λ h. overhead h.span) (v.head s) 0 ≡ overhead x.span = ap (λ (o : Option Head). option_map_or (λ h. overhead h.span) o 0) (head_there s x e) in
          let b : option_map_or (λ x. use_of x.volume) ((seen v).volume s) 0 ≡ use_of (volume_told v s h) = ap (λ (o : Option VolumeSeen). option_map_or (λ x. use_of x.volume) o 0) (seen_at v s h inside (head_there s x e)) in
          let c : claimed_by (state_at states s) ≡ 2 * overhead x.span + x.ledger.charge = ap claimed_by e in
          let d : x.ledger.charge ≡ charge (volume_told v s h) = state.ledger.charged ∙ ap charge table in
          let f : need (volume_told v s h) ≡ 0 = none_needed s x e state in
          omega (arith, a, b, c, d, f)

-- ---- what they have delayed

-- the delayed entries of volumes are at most all their entries
pub few_delayed : (volumes : ℕ → Option Holding) → ((s : ℕ) (x : Holding) → volumes s ≡ Some x → length x.container.entries ≤ most_entries) → all_delayed volumes ≤ most_entries * 64
unfolding all_delayed delayed_of slots
few_delayed volumes few = sum_few (λ s. option_map_or (λ x. delayed_of x.map x.container) (volumes s) 0) 0 64 (λ s. so s (volumes s) refl)
  where
    so : (s : ℕ) (o : Option Holding) → volumes s ≡ o → option_map_or (λ x. delayed_of x.map x.container) (volumes s) 0 ≤ most_entries
    so s None e = let none : option_map_or (λ x. delayed_of x.map x.container) (volumes s) 0 ≡ 0 = ap (λ (o : Option Holding). option_map_or (λ x. delayed_of x.map x.container) o 0) e in omega (arith, none)
    so s (Some x) e =
        let is : option_map_or (λ x. delayed_of x.map x.container) (volumes s) 0 ≡ delayed_of x.map x.container = ap (λ (o : Option Holding). option_map_or (λ x. delayed_of x.map x.container) o 0) e in
        let most = passing_le (is_delayed x.map x.container) 0 (length x.container.entries) in
        omega (arith, is, most, few s x e)

-- ---- what is missing

-- What the rule lacks for volumes that use so much is at most what is counted as missing for so much room or more, where it is a number of
-- 64 bits.
pub lacks_missing : (pool : Pool) (states : States) (want room used : ℕ) → used ≤ claimed states → max 256 room ≤ max 256 want → used + all_delayed (holdings pool.containers states) + max 256 room ≤ greatest_number
    → (used + all_delayed (holdings pool.containers states) + max 256 room) - (pool.found.blocks - first_block pool.found.blocks) ≤ missing_for pool states want
unfolding missing_for
lacks_missing pool states want room used needed more small =
    let same = counts_total (holdings pool.containers states) in
    omega (arith, needed, more, small, same)

-- It is that where the volumes use just what they claim.
pub missing_is : (pool : Pool) (states : States) (want used : ℕ) → used ≡ claimed states → used + all_delayed (holdings pool.containers states) + max 256 want ≤ greatest_number
    → missing_for pool states want ≡ (used + all_delayed (holdings pool.containers states) + max 256 want) - (pool.found.blocks - first_block pool.found.blocks)
unfolding missing_for
missing_is pool states want used needed small =
    let same = counts_total (holdings pool.containers states) in
    omega (arith, needed, small, same)
