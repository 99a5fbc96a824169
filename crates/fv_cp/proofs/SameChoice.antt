-- What the placing of files leaves of the choice of regions: they are those that are chosen by the entries of before and the maps of then.
use Rattle.std.proofs.Common.{◌≡◌, ◌<◌, ◌≤◌, ◌+◌, ◌-◌, ℕ, max, min, Bool, true, false, ◌&&◌, ◌||◌, List, [], ◌∷◌, length, take, map, filter, refl, sym, ap, subst, ◌∙◌, ⊎_elim, arith}
use Rattle.std.specs.Prelude.{Option, Some, None, IfSome, flat_map, slice_index_or}
use Rattle.std.specs.List.{range_with_len}
use Rattle.std.specs.Option.{option_map, option_map_or}
use Rattle.std.proofs.lemmas.Bool.{cases_lt}
use Rattle.fv_bits.specs.Members.{is_member}
use Rattle.fv_bits.proofs.Laws.{is_member_past}
use Rattle.fv_model.specs.Machines.{first_block}
use Rattle.fv_image.specs.Containers.{level_width}
use Rattle.fv_image.specs.Views.{entry_count, slots}
use Rattle.fv_image.proofs.Counts.{same_sum}
use Rattle.fv_container.specs.Chains.{container_at, own_entry}
use Rattle.fv_container.specs.Mapped.{Mapped, entry_under}
use Rattle.fv_volmap.specs.Slots.{IsVolume, Slot, Volume, active_of, has, stored_count, taken_in, snapshot_count}
use Rattle.fv_delay.specs.declared.counts.Count.{Count}
use Rattle.fv_delay.specs.Choice.{chosen, regions_counted, total}
use Rattle.fv_delay.specs.Delay.{is_delayed, is_held}
use Rattle.fv_delay.specs.Holding.{IsLeft, counted, counts_in, counts_of, has_some, held_by, regions_of}
use Rattle.fv_delay.proofs.Held.{active_long, held_below}
use Rattle.fv_delay.proofs.Left.{left_still, others_left}
use Rattle.fv_pool.specs.declared.pool.Pool.{Pool}
use Rattle.fv_volume.specs.declared.state.VolumeState.{VolumeState}
use Rattle.fv_volumes.specs.Housed.{as_written, settled_as}
use Rattle.fv_volume.specs.Loading.{Houses}
use Rattle.fv_volume.specs.States.{States, state_at}
use Rattle.fv_volumes.proofs.Settled.{settled_keeps}
use Rattle.fv_cp.specs.Choosing.{greatest_number, holding_with, holdings, marked_as, claimed, claimed_by, missing_for, regions_chosen}
use Rattle.fv_cp.specs.Placing.{but_placed, AreButPlaced, HasWholeMap, LeavesUnused}
use Rattle.fv_cp.proofs.Marking.{marked_same}
use Rattle.fv_cp.proofs.Sums.{over_slots}

-- ---- one volume

-- a number that a volume doesn't hold isn't in its active map
unheld : (m : Volume) (v : ℕ) → IsVolume m → is_held m v ≡ false → is_member (active_of m) v ≡ false
unheld m v is free = ⊎_elim
    (λ (below : v < m.span). subst (λ (s : Slot). has v s ≡ false) is.active (first m.slots (sym (held_below m v below) ∙ free)))
    (λ (past : m.span ≤ v). let long = active_long m is in is_member_past (active_of m) v (omega (arith, past, long)))
    (cases_lt v m.span)
  where
    left : (a b : Bool) → (a || b) ≡ false → a ≡ false
    left true b never = never
    left false b never = refl

    first : (ss : List Slot) → taken_in (take stored_count ss) v ≡ false → has v (slice_index_or ss 0 None) ≡ false
    first [] none = refl
    first (s ∷ ss) none = left (has v s) (taken_in (take snapshot_count ss) v) none

and_true : (b : Bool) → b ≡ (b && true)
and_true true = refl
and_true false = refl

-- its regions have as many delayed entries, where entries change under held numbers alone
module _ (m : Volume) (old new : Mapped) (long : length new.entries ≡ length old.entries) (same : (v : ℕ) → is_held m v ≡ false → entry_under new v ≡ entry_under old v) where
  still : IsLeft (λ r. false) (held_by m old) (held_by m new)
  still = left_still (λ r. false) (held_by m old) m old new (record { long = refl; delayed = λ v. and_true (is_delayed m old v) }) long same

  same_counts : (s : ℕ) → counts_in s (held_by m new) ≡ counts_in s (held_by m old)
  unfolding counts_in
  same_counts s =
      ap (λ (n : ℕ). filter has_some (map (counted s (held_by m new)) (range_with_len 0 (level_width n 0)))) long
      ∙ (λ k. filter has_some (map (λ (r : ℕ). count_of r (others_left (λ r. false) (held_by m old) (held_by m new) still r refl k)) (regions_of (held_by m old))))
    where
      count_of : ℕ → ℕ → Count
      count_of r n = record { slot = s; region = r; count = n }

-- a container houses a volume of that span
houses_like : (o p : Option VolumeState) (c : Option Mapped) → option_map but_placed o ≡ option_map but_placed p → Houses p c → Houses o c
houses_like None p c e h = tt
houses_like (Some x) None c e h = absurd cc
houses_like (Some x) (Some y) None e h = h
houses_like (Some x) (Some y) (Some m) e h = h ∙ ap (λ (o : Option VolumeState). option_map_or (λ (z : VolumeState). entry_count z.span) o 0) (sym e)

-- ---- all volumes

-- Files were placed.
module _ (pool : Pool) (states : States) (mid : Pool) (between : States) (found : mid.found ≡ pool.found) (others : AreButPlaced states between) (unused : LeavesUnused pool mid between)
    (whole : (s : ℕ) → HasWholeMap (state_at between s)) (first : (s : ℕ) → Houses (state_at states s) (container_at pool.containers s)) (now : (s : ℕ) → Houses (state_at between s) (container_at mid.containers s)) where
  counts_there : (s : ℕ) → option_map_or (counts_in s) (holdings mid.containers between s) [] ≡ option_map_or (counts_in s) (holdings pool.containers between s) []
  counts_there s =
      by (state_at between s) (container_at mid.containers s) (container_at pool.containers s) (whole s) (unused s) (now s)
      (houses_like (state_at between s) (state_at states s) (container_at pool.containers s) (others s) (first s))
    where
      by : (o : Option VolumeState) (c d : Option Mapped) → HasWholeMap o → IfSome o (λ y. (v : ℕ) → is_member (active_of y.map) v ≡ false → own_entry c v ≡ own_entry d v) → Houses o c → Houses o d
          → option_map_or (counts_in s) (holding_with o c) [] ≡ option_map_or (counts_in s) (holding_with o d) []
      by None c d is same one other = refl
      by (Some x) None d is same one other = absurd one
      by (Some x) (Some a) None is same one other = absurd other
      by (Some x) (Some a) (Some b) is same one other = same_counts x.map b a (one ∙ sym other) (λ v free. same v (unheld x.map v is free)) s

  counts_all : counts_of (holdings mid.containers between) ≡ counts_of (holdings pool.containers between)
  unfolding counts_of
  counts_all = λ k. flat_map (λ s. counts_there s k) slots

  pub chosen_before : (want : ℕ) → regions_chosen mid between want ≡ regions_chosen pool between want
  unfolding missing_for
  chosen_before want = λ k. regions_counted (chosen (counts_all k) (lacks k))
    where
      lacks : missing_for mid between want ≡ missing_for pool between want
      lacks = λ k. min ((max 256 want + claimed between) + total (counts_all k)) greatest_number - ((found k).blocks - first_block (found k).blocks)

-- what doesn't look at label, change and maps that wait is of a volume that was written as it was
written_same : {T : Type 0} (f : Option VolumeState → T) → ((x : VolumeState) → f (Some (record x { changed = true })) ≡ f (Some x)) → ((x : VolumeState) (label : ℕ) → f (Some (as_written x label)) ≡ f (Some x))
    → (label : ℕ) (b : Bool) (o : Option VolumeState) → f (option_map (settled_as label) (option_map (marked_as b) o)) ≡ f o
written_same f marked written label b o = settled (option_map (marked_as b) o) ∙ marked_same f marked b o
  where
    settled : (o : Option VolumeState) → f (option_map (settled_as label) o) ≡ f o
    settled None = refl
    settled (Some x) = settled_keeps (λ (y : VolumeState). f (Some y)) x label (written x label)

-- The same regions are chosen by the volumes that a point leaves and the entries of before.
module _ (pool : Pool) (states now : States) (label : ℕ → ℕ) (marks : ℕ → Bool) (is : (s : ℕ) → state_at now s ≡ option_map (settled_as (label s)) (option_map (marked_as (marks s)) (state_at states s)))
    (long : length states ≡ 64) (long_too : length now ≡ 64) where
  pub chosen_behind : (want : ℕ) → regions_chosen pool now want ≡ regions_chosen pool states want
  unfolding missing_for
  chosen_behind want = λ k. regions_counted (chosen (counts_of (held k)) (lacks k))
    where
      of_map : (c : Option Mapped) (x y : VolumeState) → x.map ≡ y.map → holding_with (Some x) c ≡ holding_with (Some y) c
      of_map None x y same = refl
      of_map (Some m) x y same = ap (λ (v : Volume). Some (held_by v m)) same

      held : holdings pool.containers now ≡ holdings pool.containers states
      held = λ k s. (ap (λ (o : Option VolumeState). holding_with o (container_at pool.containers s)) (is s)
          ∙ written_same (λ (o : Option VolumeState). holding_with o (container_at pool.containers s)) (λ x. of_map (container_at pool.containers s) (record x { changed = true }) x refl)
          (λ x place. of_map (container_at pool.containers s) (as_written x place) x refl) (label s) (marks s) (state_at states s)) k

      needed : claimed now ≡ claimed states
      needed = over_slots claimed_by now long_too
          ∙ same_sum (λ s. claimed_by (state_at now s)) (λ s. claimed_by (state_at states s)) 0 64
          (λ s low high. ap claimed_by (is s) ∙ written_same claimed_by (λ x. refl) (λ x place. refl) (label s) (marks s) (state_at states s))
          ∙ sym (over_slots claimed_by states long)

      lacks : missing_for pool now want ≡ missing_for pool states want
      lacks = λ k. min ((max 256 want + needed k) + total (counts_of (held k))) greatest_number - (pool.found.blocks - first_block pool.found.blocks)
