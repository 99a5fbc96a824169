-- How much can be left to do in a session: of each volume at most 25 root pointers are unknown, and 128 in each block under its VVBNs.
use Rattle.std.proofs.Common.{◌≡◌, ◌≤◌, ◌+◌, ◌*◌, ℕ, zero, suc, Bool, true, false, cond, [], ◌∷◌, length, map, Option, Some, None, refl, ap, arith}
use Rattle.std.specs.Prelude.{IfSome, sum_by}
use Rattle.std.specs.List.{range_with_len}
use Rattle.std.proofs.lemmas.List.{length-map}
use Rattle.std.proofs.lemmas.List.Sums.{count_by-le-length, sum_by-cons}
use Rattle.fv_disk.specs.Shown.{Shown}
use Rattle.fv_model.specs.Machines.{Machine}
use Rattle.fv_image.specs.HintRules.{is_unknown}
use Rattle.fv_image.specs.Views.{Placed}
use Rattle.fv_places.specs.ByKind.{form_of}
use Rattle.fv_pool.specs.declared.pool.Pool.{Pool}
use Rattle.fv_volume.specs.declared.state.VolumeState.{VolumeState}
use Rattle.fv_volume.specs.Held.{IsHeldIn}
use Rattle.fv_snapshot.proofs.Full.{few_snaps}
use Rattle.fv_volume.specs.States.{States, head_in, state_at}
use Rattle.fv_cleaner.specs.Left.{left_in, unknown_inside}
use Rattle.fv_cleaner.specs.Searching.{lies_in, pointers_of, Lies}
use Rattle.fv_cleaner.specs.Stepping.{root_of_snap, roots_of}
use Rattle.fv_cleaner.proofs.Searched.{few_pointers}
use Rattle.fv_aggregate.specs.declared.session.Session.{Session}
use Rattle.fv_aggregate.specs.Standing.{StandsFor}
use Rattle.fv_aggregate.specs.Working.{todo, todo_at}

-- so much can be left: of 64 volumes, of 1,048,576 VVBNs each
abbrev pub most_left : ℕ
most_left = 134217753

abbrev pub most_todo : ℕ
most_todo = 8589936192

-- a label at most 25
few_roots : (d : Shown) (pool : Pool) (slot : ℕ) (x : VolumeState) → IsHeldIn d pool slot x → length (roots_of x) ≤ 25
few_roots d pool slot x held =
    let few = few_snaps (head_in x) x.snapshots refl held.ready.labelled.snapshots.slots in
    let same : length (map root_of_snap x.snapshots) ≡ length x.snapshots = length-map x.snapshots root_of_snap in
    omega (arith, few, same)

few_inside : (o : Option Placed) → unknown_inside o ≤ 128
few_inside None = omega arith
few_inside (Some z) = let all = count_by-le-length is_unknown (pointers_of z) in let most = few_pointers (form_of z.kind) z.block in omega (arith, all, most)

under_most : (at : Lies) (from count : ℕ) → sum_by (λ v. unknown_inside (at v)) (range_with_len from count) ≤ count * 128
under_most at from zero = omega arith
under_most at from (suc count) =
    let one = few_inside (at from) in
    let rest = under_most at (from + 1) count in
    let cons = sum_by-cons (λ v. unknown_inside (at v)) from (range_with_len (from + 1) count) in
    omega (arith, one, rest, cons)

left_most : (d : Shown) (pool : Pool) (slot : ℕ) (x : VolumeState) → IsHeldIn d pool slot x → left_in d.reads pool x ≤ most_left
unfolding left_in
left_most d pool slot x held =
    let roots = few_roots d pool slot x held in
    let among = count_by-le-length is_unknown (roots_of x) in
    let under = under_most (lies_in x.map pool x.slot d.reads) 0 x.map.span in
    let few = held.ready.lent.few in
    omega (arith, roots, among, under, few)

at_most : (d : Shown) (pool : Pool) (slot : ℕ) (o : Option VolumeState) → IfSome o (IsHeldIn d pool slot) → todo_at d.reads pool o ≤ most_left
at_most d pool slot None held = omega arith
at_most d pool slot (Some x) held = by x.known (left_most d pool slot x held)
  where
    by : (b : Bool) → left_in d.reads pool x ≤ most_left → cond b 0 (left_in d.reads pool x) ≤ most_left
    by true few = omega arith
    by false few = few

sum_most : (f : Option VolumeState → ℕ) (most : ℕ) (xs : States) → ((k : ℕ) → f (state_at xs k) ≤ most) → sum_by f xs ≤ length xs * most
sum_most f most [] few = omega arith
sum_most f most (x ∷ xs) few =
    let one = few 0 in
    let rest = sum_most f most xs (λ k. few (suc k)) in
    let cons = sum_by-cons f x xs in
    omega (arith, one, rest, cons)

pub todo_most : (d : Shown) (s : Session) → length s.volumes ≡ 64 → (last m : Machine) → StandsFor d s last m → todo d s ≤ most_todo
todo_most d s long last m stands =
    let all = sum_most (todo_at d.reads s.pool) most_left s.volumes (λ k. at_most d s.pool k (state_at s.volumes k) (stands.held.each k)) in
    let count : length s.volumes * most_left ≡ 64 * most_left = ap (λ (n : ℕ). n * most_left) long in
    omega (arith, all, count)
