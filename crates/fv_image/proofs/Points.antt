-- What a consistency point leaves: an image that keeps what its volumes' roots reach, in which each map is what its root reaches and the
-- aggregate map is what is held, is sound and tells the same machine. And the space rule, from what the volumes commit or use.
use Rattle.std.proofs.Common.{◌≡◌, ◌⊎◌, ℕ, zero, suc, ◌+◌, ◌-◌, ◌*◌, ◌<◌, ◌≤◌, Bool, true, List, [], ◌∷◌, refl, sym, ap, ap₂, subst, ◌∙◌, ⊎_elim, arith}
use Rattle.std.specs.Prelude.{Option, Some, None, ◌&&◌, nat_le, max, sum_by, count_by}
use Rattle.std.specs.List.{list_all, range_with_len}
use Rattle.std.specs.Option.{option_map_or}
use Rattle.std.proofs.lemmas.Bool.Decides.{nat_tests}
use Rattle.std.proofs.lemmas.List.Sums.{sum_by-cons}
use Rattle.fv_model.specs.declared.commands.Kind.{Kind}
use Rattle.fv_model.specs.declared.commands.Kind.TheVariants.{Volume as Whole, File as ByFile, Thin}
use Rattle.fv_model.specs.Machines.{first_block, capacity}
use Rattle.fv_model.specs.Space.{map_blocks, use_of, overhead, promised, commit}
use Rattle.fv_tables.specs.Reached.{Item, items, is_listed}
use Rattle.fv_tables.proofs.Lists.{all_of_range}
use Rattle.fv_image.specs.Layout.{block_bits}
use Rattle.fv_image.specs.Views.{Rooted, Head, View, slots, vvbns, volume_bit, is_own, own, delayed, overheads, leaves_room}
use Rattle.fv_image.specs.Held.{Layout}
use Rattle.fv_image.specs.BlockRules.{agree}
use Rattle.fv_image.specs.Volumes.{standing_of, volume_with, volume_told, told}
use Rattle.fv_image.specs.Seen.{VolumeSeen, roots_of, volume_seen, seen}
use Rattle.fv_image.specs.ReachRules.{is_reach, has_maps_of_reach, has_map_blocks, has_map_kinds}
use Rattle.fv_image.specs.VolumeRules.{has_bases, has_use_in_size, uses_seen, commits_seen, has_commits_in_capacity, has_distinct_names}
use Rattle.fv_image.specs.HintRules.{rests_on_base}
use Rattle.fv_image.specs.Staying.{items_of, own_items, StaysHeld}
use Rattle.fv_image.specs.Soundness.{AreBlocks, AreTables, IsSound}
use Rattle.fv_image.specs.WholeMachine.{has_form, has_no_reserves, is_built, machine_from}
use Rattle.fv_image.proofs.SameSeen.{left_listed, right_listed, same_reach, same_told, same_seen, seen_at, of_volume}
use Rattle.fv_image.proofs.SoundTests.{machine_told}
use Rattle.fv_image.proofs.Counts.{sums_within, le_of_test}
use Rattle.fv_image.proofs.Promises.{room_from}

-- ---- volume maps

-- In the second view the map of each root of a volume has the bits of what that root reaches in the first.
abbrev pub has_bits_of : View → View → ℕ → Head → Bool
has_bits_of w u s h = list_all (λ r. list_all (λ v. agree (volume_bit u s h.span r.0 v) (is_listed (items (standing_of w s r.1)) v)) (range_with_len 0 (block_bits * map_blocks h.span))) (roots_of h)

module _ (w u : View) (stays : StaysHeld w u) (bases : has_bases (seen w) ≡ true) (rests : rests_on_base (seen w) ≡ true) where
  reach_of : (s : ℕ) (h : Head) → s < 64 → w.head s ≡ Some h → (rs : List (ℕ × Rooted)) → ((v : ℕ) → is_listed (items_of w s rs) v ≡ true → is_listed (own_items w s h) v ≡ true)
      → list_all (is_reach u s h) rs ≡ list_all (λ r. list_all (λ v. agree (volume_bit u s h.span r.0 v) (is_listed (items (standing_of w s r.1)) v)) (range_with_len 0 (block_bits * map_blocks h.span))) rs
  reach_of s h inside is [] own = refl
  reach_of s h inside is (r ∷ rs) own = ap₂ (λ (es : List Item) (rest : Bool). list_all (λ v. agree (volume_bit u s h.span r.0 v) (is_listed es v)) (range_with_len 0 (block_bits * map_blocks h.span)) && rest)
      (same_reach w u stays bases rests s h r.1 inside is (λ v there. own v (left_listed (items (standing_of w s r.1)) (items_of w s rs) v there)))
      (reach_of s h inside is rs (λ v there. own v (right_listed (items (standing_of w s r.1)) (items_of w s rs) v there)))

  pub maps_from : ((s : ℕ) (h : Head) → s < 64 → w.head s ≡ Some h → has_bits_of w u s h ≡ true) → has_maps_of_reach u ≡ true
  unfolding has_maps_of_reach slots
  maps_from bits = all_of_range (λ s. option_map_or (λ h. list_all (is_reach u s h) (roots_of h)) (u.head s) true) 0 64 (λ s low high. so s (omega (arith, high)) (w.head s) refl)
    where
      so : (s : ℕ) → s < 64 → (o : Option Head) → w.head s ≡ o → option_map_or (λ h. list_all (is_reach u s h) (roots_of h)) (u.head s) true ≡ true
      so s inside None e = ap (λ (o : Option Head). option_map_or (λ h. list_all (is_reach u s h) (roots_of h)) o true) (stays.heads s ∙ e)
      so s inside (Some h) e = ap (λ (o : Option Head). option_map_or (λ h. list_all (is_reach u s h) (roots_of h)) o true) (stays.heads s ∙ e)
          ∙ reach_of s h inside e (roots_of h) (λ v there. there) ∙ bits s h inside e

-- ---- a point

-- A layout as a consistency point leaves it, over the view of the session: what roots reach stays, the maps are those of what is reached,
-- labels, containers and the aggregate map are right, and there is room.
pub record Ends (w : View) (y : Layout) : Type 0 where
  pub stays : StaysHeld w y.view
  pub blocks : AreBlocks y
  pub there : has_map_blocks y.view ≡ true
  pub bits : (s : ℕ) (h : Head) → s < 64 → w.head s ≡ Some h → has_bits_of w y.view s h ≡ true
  pub kinds : has_map_kinds y.view ≡ true
  pub names : has_distinct_names y ≡ true
  pub room : leaves_room y.view 0 ≡ true

-- a view that stays has the forms that it had
pub built_stays : (w u : View) → StaysHeld w u → has_bases (seen w) ≡ true → rests_on_base (seen w) ≡ true → is_built u ≡ is_built w
unfolding is_built
built_stays w u stays bases rests = λ i. list_all (λ s. option_map_or has_form (stays.heads s i) true) slots && has_no_reserves (same_seen w u stays bases rests i)

module _ (w : View) (y : Layout) (ends : Ends w y) (tables : AreTables (seen w)) where
  -- it is sound
  pub end_sound : IsSound y
  end_sound = record {
    blocks = ends.blocks;
    tables = subst AreTables (sym (same_seen w y.view ends.stays tables.bases tables.rests)) tables;
    maps = record {
      there = ends.there;
      reach = maps_from w y.view ends.stays tables.bases tables.rests ends.bits;
      kinds = ends.kinds;
    };
    names = ends.names;
    room = ends.room;
  }

  -- and tells the session's machine
  pub end_told : told y.view ≡ told w
  end_told = same_told w y.view ends.stays tables.bases tables.rests

  -- So the image stands for the session's machine.
  pub end_machine : is_built w ≡ true → machine_from y ≡ Some (told w)
  end_machine built = machine_told y (told w) (record { built = built_stays w y.view ends.stays tables.bases tables.rests ∙ built; sound = end_sound; machine = end_told })

-- ---- the space rule

-- no volume has more entries of its own than it uses
pub record UsesOwn (w : View) : Type 0 where
  pub own : (s : ℕ) (h : Head) → s < 64 → w.head s ≡ Some h → count_by (is_own w s h) (vvbns h.span) ≤ use_of (volume_told w s h)

-- So all volumes have at most as many entries of their own as they use together.
pub own_used : (w : View) → UsesOwn w → own w ≤ uses_seen (seen w)
unfolding own uses_seen slots volume_seen
own_used w uses = sums_within (λ s. option_map_or (λ h. count_by (is_own w s h) (vvbns h.span)) (w.head s) 0) (λ s. option_map_or (λ x. use_of x.volume) ((seen w).volume s) 0) 0 64 (λ s low high. so s (omega (arith, high)) (w.head s) refl)
  where
    so : (s : ℕ) → s < 64 → (o : Option Head) → w.head s ≡ o → option_map_or (λ h. count_by (is_own w s h) (vvbns h.span)) (w.head s) 0 ≤ option_map_or (λ x. use_of x.volume) ((seen w).volume s) 0
    so s inside None e = let none : option_map_or (λ h. count_by (is_own w s h) (vvbns h.span)) (w.head s) 0 ≡ 0 = ap (λ (o : Option Head). option_map_or (λ h. count_by (is_own w s h) (vvbns h.span)) o 0) e in omega (arith, none)
    so s inside (Some h) e =
        let a : option_map_or (λ h. count_by (is_own w s h) (vvbns h.span)) (w.head s) 0 ≡ count_by (is_own w s h) (vvbns h.span) = ap (λ (o : Option Head). option_map_or (λ h. count_by (is_own w s h) (vvbns h.span)) o 0) e in
        let b : option_map_or (λ x. use_of x.volume) ((seen w).volume s) 0 ≡ use_of (volume_told w s h) = ap (λ (o : Option VolumeSeen). option_map_or (λ x. use_of x.volume) o 0) (seen_at w s h inside e) in
        omega (arith, a, b, uses.own s h inside e)

-- Where there is room for what all volumes use, for what is delayed, and for all overheads twice, the space rule holds.
pub room_with_delayed : (w : View) → UsesOwn w → (room : ℕ) → 2 * overheads w + uses_seen (seen w) + delayed w + max 256 room ≤ w.blocks - first_block w.blocks → leaves_room w room ≡ true
room_with_delayed w uses room enough = room_from w room (omega (arith, own_used w uses, enough))

-- twice a sum and another are within a third where the parts are
pub within_third : (a b c : ℕ → ℕ) (from count : ℕ) → ((k : ℕ) → from ≤ k → k < from + count → 2 * a k + b k ≤ c k) → 2 * sum_by a (range_with_len from count) + sum_by b (range_with_len from count) ≤ sum_by c (range_with_len from count)
within_third a b c from zero each = omega arith
within_third a b c from (suc count) each = omega (arith, sum_by-cons a from (range_with_len (from + 1) count), sum_by-cons b from (range_with_len (from + 1) count), sum_by-cons c from (range_with_len (from + 1) count), each from (omega arith) (omega arith), within_third a b c (from + 1) count (λ k low high. each k (omega (arith, low)) (omega (arith, high))))

of_seen : (w : View) (s : ℕ) (h : Head) → commit (volume_seen w s h).volume ≡ commit (volume_told w s h)
unfolding volume_seen
of_seen w s h = refl

module _ (w : View) (tables : AreTables (seen w)) (uses : UsesOwn w) where
  -- what a volume commits counts its overhead twice and what it uses
  commit_holds : (s : ℕ) (h : Head) → s < 64 → w.head s ≡ Some h → 2 * overhead h.span + count_by (is_own w s h) (vvbns h.span) ≤ commit (volume_told w s h)
  unfolding volume_with has_use_in_size volume_seen
  commit_holds s h inside is =
      let size : nat_le (use_of (volume_told w s h)) h.size ≡ true = of_volume w (λ s x. nat_le (use_of x.volume) x.head.size) s h tables.sizes inside is in
      let fits : use_of (volume_told w s h) ≤ h.size = grind (arith, nat_tests, size) in
      so h.kind refl fits (uses.own s h inside is)
    where
      so : (kind : Kind) → h.kind ≡ kind → use_of (volume_told w s h) ≤ h.size → count_by (is_own w s h) (vvbns h.span) ≤ use_of (volume_told w s h)
          → 2 * overhead h.span + count_by (is_own w s h) (vvbns h.span) ≤ 2 * overhead h.span + promised (volume_told w s h) h.kind
      so Whole e fits used = let p : promised (volume_told w s h) h.kind ≡ h.size = ap (promised (volume_told w s h)) e in omega (arith, fits, used, p)
      so ByFile e fits used = let p : promised (volume_told w s h) h.kind ≡ use_of (volume_told w s h) = ap (promised (volume_told w s h)) e in omega (arith, used, p)
      so Thin e fits used = let p : promised (volume_told w s h) h.kind ≡ use_of (volume_told w s h) = ap (promised (volume_told w s h)) e in omega (arith, used, p)

  pub commits_hold : 2 * overheads w + own w ≤ commits_seen (seen w)
  unfolding overheads own commits_seen slots
  commits_hold = within_third (λ s. option_map_or (λ h. overhead h.span) (w.head s) 0) (λ s. option_map_or (λ h. count_by (is_own w s h) (vvbns h.span)) (w.head s) 0)
      (λ s. option_map_or (λ x. commit x.volume) ((seen w).volume s) 0) 0 64 (λ s low high. so s (omega (arith, high)) (w.head s) refl)
    where
      so : (s : ℕ) → s < 64 → (o : Option Head) → w.head s ≡ o
          → 2 * option_map_or (λ h. overhead h.span) (w.head s) 0 + option_map_or (λ h. count_by (is_own w s h) (vvbns h.span)) (w.head s) 0 ≤ option_map_or (λ x. commit x.volume) ((seen w).volume s) 0
      so s inside None e =
          let a : option_map_or (λ h. overhead h.span) (w.head s) 0 ≡ 0 = ap (λ (o : Option Head). option_map_or (λ h. overhead h.span) o 0) e in
          let b : option_map_or (λ h. count_by (is_own w s h) (vvbns h.span)) (w.head s) 0 ≡ 0 = ap (λ (o : Option Head). option_map_or (λ h. count_by (is_own w s h) (vvbns h.span)) o 0) e in
          omega (arith, a, b)
      so s inside (Some h) e =
          let a : option_map_or (λ h. overhead h.span) (w.head s) 0 ≡ overhead h.span = ap (λ (o : Option Head). option_map_or (λ h. overhead h.span) o 0) e in
          let b : option_map_or (λ h. count_by (is_own w s h) (vvbns h.span)) (w.head s) 0 ≡ count_by (is_own w s h) (vvbns h.span) = ap (λ (o : Option Head). option_map_or (λ h. count_by (is_own w s h) (vvbns h.span)) o 0) e in
          let c : option_map_or (λ x. commit x.volume) ((seen w).volume s) 0 ≡ commit (volume_told w s h) = ap (λ (o : Option VolumeSeen). option_map_or (λ x. commit x.volume) o 0) (seen_at w s h inside e) ∙ of_seen w s h in
          omega (arith, a, b, c, commit_holds s h inside e)

  capacity_fits : commits_seen (seen w) ≤ capacity w.blocks
  unfolding has_commits_in_capacity seen
  capacity_fits = le_of_test (commits_seen (seen w)) (capacity w.blocks) tables.commits

  -- Where no entry is delayed, the space rule holds by what is committed: all commits count the overheads twice and what the volumes use,
  -- and they fit the capacity, which leaves 256 blocks.
  pub room_from_commits : delayed w ≡ 0 → 256 ≤ w.blocks - first_block w.blocks → leaves_room w 0 ≡ true
  room_from_commits none large = room_from w 0 (omega (arith, none, large, commits_hold, capacity_fits))

  -- So it does with more room where the commits leave it in the capacity.
  pub room_beside_commits : (room : ℕ) → delayed w ≡ 0 → 256 ≤ w.blocks - first_block w.blocks → commits_seen (seen w) + room ≤ capacity w.blocks → leaves_room w (256 + room) ≡ true
  room_beside_commits room none large enough = room_from w (256 + room) (omega (arith, none, large, commits_hold, enough))

  -- Say that so many blocks were missing for the space rule with what was delayed before, and that so many were given back. Either these are
  -- enough, and the rule holds by what the volumes use. Or no entry is delayed any more, and it holds by what they commit.
  pub room_after : (room before taken missing : ℕ) → 256 ≤ w.blocks - first_block w.blocks → commits_seen (seen w) + room ≤ capacity w.blocks
      → delayed w + taken ≤ before → (2 * overheads w + uses_seen (seen w) + before + max 256 room) - (w.blocks - first_block w.blocks) ≤ missing
      → (missing ≤ taken) ⊎ (delayed w ≡ 0) → leaves_room w room ≡ true
  room_after room before taken missing large enough left lacks = ⊎_elim
      (λ (reached : missing ≤ taken). room_with_delayed w uses room (omega (arith, left, lacks, reached)))
      (λ (none : delayed w ≡ 0). room_from w room (omega (arith, none, large, commits_hold, enough)))

  -- So it holds without room, whatever the commits leave.
  pub room_without : (before taken missing : ℕ) → 256 ≤ w.blocks - first_block w.blocks
      → delayed w + taken ≤ before → (2 * overheads w + uses_seen (seen w) + before + 256) - (w.blocks - first_block w.blocks) ≤ missing
      → (missing ≤ taken) ⊎ (delayed w ≡ 0) → leaves_room w 0 ≡ true
  room_without before taken missing large left lacks = room_after 0 before taken missing large (omega (arith, capacity_fits)) left (omega (arith, lacks))
