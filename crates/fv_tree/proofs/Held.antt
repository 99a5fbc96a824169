-- Nodes that come into memory.
use Rattle.std.proofs.Common.{◌≡◌, ◌≢◌, ◌≤◌, ◌<◌, ◌==◌, if◌then◌else◌, subst, ℕ, ◌+◌, ◌-◌, ◌/◌, ◌%◌, ◌^◌, arith, ◌⊎◌, inl, inr, ◌&&◌, cond, List, Some, None, Result, Ok, Err, OnOk, OnErr, get_or, length, replicate, nat_eq, refl, sym, ap, ◌∙◌}
use Rattle.std.proofs.Math.Nat.{div-eq_of_lt}
use Rattle.std.proofs.lemmas.Bool.{cases_eq}
use Rattle.fv_codec.specs.declared.pointer.Pointer.{Pointer}
use Rattle.fv_model.specs.Trees.{fan}
use Rattle.fv_disk.specs.declared.fault.BlockFault.{BlockFault}
use Rattle.fv_tree.specs.declared.kept.Tree.{Tree}
use Rattle.fv_tree.specs.Spelled.{Under, Rooted, hole, pointers_at, pointers_in, pointer_at}
use Rattle.fv_tree.specs.Standing.{standing, node_in, IsSameBut}
use Rattle.fv_tree.specs.Keeping.{IsKept, Keeps, IsSame, KeepsBelow}
use Rattle.fv_tree.proofs.Below.{no_pointers, read_pointers}
use Rattle.fv_tree.proofs.Spots.{here, elsewhere}
use Rattle.fv_tree.proofs.Below.{range_above}
use Rattle.fv_tree.proofs.Ways.{nothing_there, own_way, same_cells}

pub empty_as : (t : Rooted) (level place : ℕ) (p : Pointer) → p.stamp ≡ 0 → (slot : ℕ) → get_or (replicate 128 hole) slot hole ≡ get_or (pointers_at t level place p) slot hole
empty_as t level place p e slot = nothing_there slot ∙ sym (ap (λ (xs : List Pointer). get_or xs slot hole) (no_pointers t level place p e))

pub read_as : (t : Rooted) (level place : ℕ) (p : Pointer) (xs : List Pointer) → p.stamp ≢ 0 → t.nodes level place ≡ None → pointers_in (t.under p.vvbn) ≡ xs → (slot : ℕ)
    → get_or xs slot hole ≡ get_or (pointers_at t level place p) slot hole
read_as t level place p xs some none is slot = sym (ap (λ (ys : List Pointer). get_or ys slot hole) (read_pointers t level place p some none ∙ is))

-- but for one node the tree stays
keeps_but : (old new : Under) → new ≡ old → (t u : Tree) (level place : ℕ) (p : Pointer) → IsSameBut t u → ((k q : ℕ) → (k ≢ level) ⊎ (q ≢ place) → node_in u k q ≡ node_in t k q)
    → (node_in u level place ≡ node_in t level place) ⊎ ((xs : List Pointer) × (node_in u level place ≡ Some xs) × (length xs ≡ 128) × ((slot : ℕ) → get_or xs slot hole ≡ get_or (pointers_at (standing old t) level place p) slot hole))
    → Keeps (standing old t) (standing new u) level place p
keeps_but old new under t u level place p same others own = record {
  under = under;
  owner = same.owner;
  levels = same.levels;
  root = same.root;
  cells = same_cells t u same.cells;
  others = others;
  own = own;
}

pub kept_as : (old new : Under) → new ≡ old → (t u : Tree) (level place : ℕ) (p : Pointer) (xs : List Pointer) (r : Result Unit BlockFault) → IsSameBut t u
    → OnOk r ((k q : ℕ) → node_in u k q ≡ cond (nat_eq k level && nat_eq q place) (Some xs) (node_in t k q))
    → OnErr r ((k q : ℕ) → node_in u k q ≡ node_in t k q)
    → length xs ≡ 128
    → ((slot : ℕ) → get_or xs slot hole ≡ get_or (pointers_at (standing old t) level place p) slot hole)
    → Keeps (standing old t) (standing new u) level place p
kept_as old new under t u level place p xs (Ok ys) same done failed long spelled = keeps_but old new under t u level place p same
    (λ k q other. done k q ∙ ap (λ b. cond b (Some xs) (node_in t k q)) (elsewhere k q level place other))
    (inr (xs, done level place ∙ ap (λ b. cond b (Some xs) (node_in t level place)) (here level place), long, spelled))
kept_as old new under t u level place p xs (Err e) same done failed long spelled = keeps_but old new under t u level place p same (λ k q other. failed k q) (inl (failed level place))

-- one step of the way down
pub next_pointer : (t : Rooted) (level i : ℕ) → 1 ≤ level → level ≤ t.levels → get_or (pointers_at t level (i / fan ^ level) (pointer_at t level (i / fan ^ level))) (i / fan ^ (level - 1) % fan) hole ≡ pointer_at t (level - 1) (i / fan ^ (level - 1))
next_pointer t level i low high =
    let n : (level - 1) + 1 ≡ level = omega arith in
    sym ((own_way t).down (level - 1) (i / fan ^ (level - 1)) (omega arith) ∙ (λ j. get_or (pointers_at t (n j) (range_above i level low j) (pointer_at t (n j) (range_above i level low j))) (i / fan ^ (level - 1) % fan) hole))

pub now_kept : (t u : Rooted) (level place : ℕ) (xs : List Pointer) → IsSame t u → u.nodes level place ≡ Some xs → length xs ≡ 128
    → ((slot : ℕ) → get_or xs slot hole ≡ get_or (pointers_at t level place (pointer_at t level place)) slot hole) → IsKept u level place
now_kept t u level place xs same node long spelled = record {
  pointers = xs;
  node = node;
  long = long;
  empty = λ e slot. spelled slot ∙ ap (λ (ys : List Pointer). get_or ys slot hole) (no_pointers t level place (pointer_at t level place) (ap (λ (p : Pointer). p.stamp) (sym (same.pointers level place)) ∙ e));
}

pub still_kept : (t u : Rooted) (level place : ℕ) → IsSame t u → u.nodes level place ≡ t.nodes level place → IsKept t level place → IsKept u level place
still_kept t u level place same nodes kept = record {
  pointers = kept.pointers;
  node = nodes ∙ kept.node;
  long = kept.long;
  empty = λ e slot. kept.empty (ap (λ (p : Pointer). p.stamp) (sym (same.pointers level place)) ∙ e) slot;
}

-- one more node of a way is in memory
pub kept_from : (t u : Rooted) (level i : ℕ) → 1 ≤ level → IsSame t u → KeepsBelow t u level → IsKept u level (i / fan ^ level)
    → ((k : ℕ) → level < k → k ≤ t.levels → IsKept t k (i / fan ^ k)) → (k : ℕ) → level - 1 < k → k ≤ t.levels → IsKept u k (i / fan ^ k)
kept_from t u level i low same others own above k lt le = elim (cases_eq k level) [
  | inl e ↦ subst (λ k. IsKept u k (i / fan ^ k)) (sym e) own
  | inr differs ↦ still_kept t u k (i / fan ^ k) same (others k (i / fan ^ k) differs) (above k (omega arith) le)
]

pub at_root : (t : Rooted) (i : ℕ) → i < fan ^ t.levels → t.root ≡ pointer_at t t.levels (i / fan ^ t.levels)
at_root t i lt =
    let none : i / fan ^ t.levels ≡ 0 = div-eq_of_lt lt in
    sym ((own_way t).top (i / fan ^ t.levels) ∙ ap (λ q. if q == 0 then t.root else hole) none)

pub same_self : (t : Rooted) → IsSame t t
same_self t = record { under = refl; owner = refl; levels = refl; root = refl; cells = refl; pointers = λ k q. refl; nodes = λ k q some none. none }

-- ---- a node that was put into memory, and the others

abbrev pub IsPut : Tree → Tree → ℕ → ℕ → List Pointer → Type 0
IsPut t u level place xs = (k q : ℕ) → node_in u k q ≡ cond (nat_eq k level && nat_eq q place) (Some xs) (node_in t k q)

pub put_there : (t u : Tree) (level place : ℕ) (xs : List Pointer) → IsPut t u level place xs → node_in u level place ≡ Some xs
put_there t u level place xs is = is level place ∙ ap (λ b. cond b (Some xs) (node_in t level place)) (here level place)

pub put_elsewhere : (t u : Tree) (level place : ℕ) (xs : List Pointer) → IsPut t u level place xs → (k q : ℕ) → (k ≢ level) ⊎ (q ≢ place) → node_in u k q ≡ node_in t k q
put_elsewhere t u level place xs is k q other = is k q ∙ ap (λ b. cond b (Some xs) (node_in t k q)) (elsewhere k q level place other)

pub but_then : (t u v : Tree) → IsSameBut t u → IsSameBut u v → IsSameBut t v
but_then t u v first second = record { owner = second.owner ∙ first.owner; levels = second.levels ∙ first.levels; root = second.root ∙ first.root; cells = second.cells ∙ first.cells }
