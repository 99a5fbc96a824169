-- What the volumes of a session sum up to, by slot and by view.
use Rattle.std.proofs.Common.{◌≡◌, ◌<◌, ◌≤◌, ◌+◌, ℕ, Bool, true, false, cond, [], ◌∷◌, length, Option, Some, None, sum_by, refl, sym, ap, ◌∙◌, ⊎_elim, arith}
use Rattle.std.specs.Prelude.{IfSome, replicate}
use Rattle.std.specs.Option.{option_map, option_map_or}
use Rattle.std.proofs.lemmas.Bool.{cases_lt}
use Rattle.std.proofs.lemmas.List.{get_or_past}
use Rattle.std.proofs.lemmas.List.Sums.{get_or-le-sum_by, sum_by-cons, sum_by-set}
use Rattle.fv_disk.specs.Shown.{Image}
use Rattle.fv_model.specs.Space.{overhead}
use Rattle.fv_image.specs.Views.{Head, View, slots, overheads}
use Rattle.fv_image.proofs.Counts.{none_sum, same_sum}
use Rattle.fv_cp.specs.Lent.{asked_all, asked_by, asked_of, blocks_asked, maps_waiting, waiting_by, HaveNoneWaiting}
use Rattle.fv_cp.specs.Placing.{core_of, pending_by, pending_files, HaveNoFiles, HasNoFiles, KeepCores}
use Rattle.fv_volmap.specs.Slots.{stored_count}
use Rattle.fv_pool.specs.declared.pool.Pool.{Pool}
use Rattle.fv_volume.specs.declared.state.VolumeState.{VolumeState}
use Rattle.fv_volume.specs.States.{States, head_in, state_at, view_over, with_state}
use Rattle.fv_volume.specs.Writing.{asked}
use Rattle.fv_volume.proofs.MapCounts.{settled_waits}
use Rattle.fv_aggregate.specs.Standing.{overhead_by, overheads_in}
-- a sum over all slots
pub use Rattle.fv_cp.proofs.Sums.{over_slots}

-- ---- overheads

-- the blocks that a consistency point asks for are overheads, and those of maps that wait
pub asked_within : (states : States) → blocks_asked states ≤ overheads_in states + maps_waiting states
asked_within states = row states
  where
    chosen : (b : Bool) (n : ℕ) → cond b n 0 ≤ n
    chosen true n = omega arith
    chosen false n = omega arith

    so : (x : Option VolumeState) → asked_by x ≤ overhead_by x + waiting_by x
    so None = omega arith
    so (Some x) = chosen x.changed (asked x)

    row : (xs : States) → sum_by asked_by xs ≤ sum_by overhead_by xs + sum_by waiting_by xs
    row [] = omega arith
    row (x ∷ xs) = omega (arith, so x, row xs, sum_by-cons asked_by x xs, sum_by-cons overhead_by x xs, sum_by-cons waiting_by x xs)

-- so are those that it asks for where each volume is written
pub all_within : (states : States) → asked_all states ≤ overheads_in states + maps_waiting states
all_within states = row states
  where
    so : (x : Option VolumeState) → asked_of x ≤ overhead_by x + waiting_by x
    so None = omega arith
    so (Some x) = omega arith

    row : (xs : States) → sum_by asked_of xs ≤ sum_by overhead_by xs + sum_by waiting_by xs
    row [] = omega arith
    row (x ∷ xs) = omega (arith, so x, row xs, sum_by-cons asked_of x xs, sum_by-cons overhead_by x xs, sum_by-cons waiting_by x xs)

-- the overheads of the volumes are those of what they show
pub overheads_are : (pool : Pool) (states : States) (i : Image) → length states ≡ 64 → overheads_in states ≡ overheads (view_over pool states i)
unfolding overheads slots view_over
overheads_are pool states i long = over_slots overhead_by states long ∙ same_sum (λ s. overhead_by (state_at states s)) (λ s. option_map_or (λ h. overhead h.span) (option_map head_in (state_at states s)) 0) 0 64 (λ k low high. so (state_at states k))
  where
    so : (x : Option VolumeState) → overhead_by x ≡ option_map_or (λ h. overhead h.span) (option_map head_in x) 0
    so None = refl
    so (Some x) = refl

-- what placing and points keep has the overheads
pub overheads_kept : (states stay : States) → length states ≡ 64 → length stay ≡ 64 → KeepCores states stay → overheads_in stay ≡ overheads_in states
overheads_kept states stay long long_too cores =
    over_slots overhead_by stay long_too ∙ same_sum (λ s. overhead_by (state_at stay s)) (λ s. overhead_by (state_at states s)) 0 64 (λ k low high. sym (so (state_at stay k)) ∙ ap overhead_by (cores k) ∙ so (state_at states k)) ∙ sym (over_slots overhead_by states long)
  where
    so : (x : Option VolumeState) → overhead_by (option_map core_of x) ≡ overhead_by x
    so None = refl
    so (Some x) = refl

-- the overheads depend on the heads alone
pub same_overheads : (v w : View) → ((s : ℕ) → s < 64 → v.head s ≡ w.head s) → overheads v ≡ overheads w
unfolding overheads slots
same_overheads v w same = same_sum _ _ 0 64 (λ k low high. ap (λ (h : Option Head). option_map_or (λ g. overhead g.span) h 0) (same k (omega (arith, high))))

-- ---- pending blocks of files

-- without a file in memory none is pending
pub none_pending : (states : States) → length states ≡ 64 → HaveNoFiles states → pending_files states ≡ 0
none_pending states long none = over_slots pending_by states long ∙ none_sum (λ s. pending_by (state_at states s)) 0 64 (λ k low high. by (state_at states k) (none k))
  where
    by : (o : Option VolumeState) → HasNoFiles o → pending_by o ≡ 0
    by None bare = refl
    by (Some x) bare = ap (λ f. pending_by (Some (record x { files = f }))) bare

-- those of one volume are among all
pub one_pending : (states : States) (s : ℕ) → pending_by (state_at states s) ≤ pending_files states
one_pending states s = ⊎_elim
    (λ (inside : s < length states). get_or-le-sum_by pending_by states s None inside)
    (λ (past : length states ≤ s). let none : pending_by (state_at states s) ≡ 0 = ap pending_by (get_or_past states s None past) in omega (arith, none))
    (cases_lt s (length states))

-- ---- maps that wait

pub none_waiting : (states : States) → length states ≡ 64 → HaveNoneWaiting states → maps_waiting states ≡ 0
none_waiting states long none = over_slots waiting_by states long ∙ none_sum (λ s. waiting_by (state_at states s)) 0 64 (λ k low high. by (state_at states k) (none k))
  where
    by : (o : Option VolumeState) → IfSome o (λ x. x.fresh ≡ replicate stored_count false) → waiting_by o ≡ 0
    by None is = refl
    by (Some x) is = settled_waits x is

-- ---- one volume more, or another in its slot

pub pending_with : (states : States) (s : ℕ) (o : Option VolumeState) → s < length states → pending_files (with_state states s o) + pending_by (state_at states s) ≡ pending_files states + pending_by o
pending_with states s o inside = sum_by-set pending_by states s o None inside

pub waiting_with : (states : States) (s : ℕ) (o : Option VolumeState) → s < length states → maps_waiting (with_state states s o) + waiting_by (state_at states s) ≡ maps_waiting states + waiting_by o
waiting_with states s o inside = sum_by-set waiting_by states s o None inside

pub overheads_in_with : (states : States) (s : ℕ) (o : Option VolumeState) → s < length states → overheads_in (with_state states s o) + overhead_by (state_at states s) ≡ overheads_in states + overhead_by o
overheads_in_with states s o inside = sum_by-set overhead_by states s o None inside
