-- A node that is in memory, and what it spells.
use Rattle.std.proofs.Common.{◌≡◌, ◌≢◌, ℕ, true, false, ◌&&◌, cond, List, Option, Some, None, is_some, Result, Ok, Err, OnOk, get_or, length, nat_eq, refl, sym, ap}
use Rattle.std.specs.Option.{option_map}
use Rattle.fv_codec.specs.declared.pointer.Pointer.{Pointer}
use Rattle.fv_disk.specs.declared.fault.BlockFault.{BlockFault}
use Rattle.fv_tree.specs.declared.kept.Tree.{Tree}
use Rattle.fv_tree.specs.declared.kept.KeptNode.{KeptNode}
use Rattle.fv_tree.specs.Spelled.{Under, hole, pointers_at}
use Rattle.fv_tree.specs.Standing.{standing, node_in}
use Rattle.fv_tree.specs.Carried.{kept_at}
use Rattle.fv_tree.specs.Keeping.{Spells}
use Rattle.fv_tree.proofs.Below.{kept_pointers}
use Rattle.fv_tree.proofs.Cases.{false_is_true}
use Rattle.fv_tree.proofs.Held.{put_there}
use Rattle.fv_tree.proofs.Unlinked.{long_node}

pub not_there : {X : Type 0} (o : Option X) → is_some o ≡ false → o ≡ None
not_there None lacks = refl
not_there (Some x) lacks = false_is_true true lacks refl

pub not_held : (o : Option KeptNode) → is_some o ≡ false → option_map (λ (kept : KeptNode). kept.children) o ≡ None
not_held o lacks = ap (option_map (λ (kept : KeptNode). kept.children)) (not_there o lacks)

-- it was put there
pub spells_put : (told : Type 0) (old new : Under) (t u : Tree) (level place : ℕ) (p : Pointer) (xs : List Pointer) (r : Result Unit BlockFault)
    → OnOk r ((k q : ℕ) → node_in u k q ≡ cond (nat_eq k level && nat_eq q place) (Some xs) (node_in t k q)) → length xs ≡ 128
    → (told → (slot : ℕ) → get_or xs slot hole ≡ get_or (pointers_at (standing old t) level place p) slot hole) → OnOk r (Spells told (standing old t) (standing new u) level place p)
spells_put told old new t u level place p xs (Ok done) put long children = record { pointers = xs; node = put_there t u level place xs put; long = long; children = children }
spells_put told old new t u level place p xs (Err e) put long children = tt

-- it was there
pub spells_held : (told : Type 0) (old : Under) (t : Tree) (level place : ℕ) (p : Pointer) → p.stamp ≢ 0 → (o : Option KeptNode) → kept_at t level place ≡ o → is_some o ≡ true → Spells told (standing old t) (standing old t) level place p
spells_held told old t level place p some None at is = false_is_true false refl is
spells_held told old t level place p some (Some kept) at is = let node : node_in t level place ≡ Some kept.children = ap (option_map (λ (kept : KeptNode). kept.children)) at in record {
  pointers = kept.children;
  node = node;
  long = long_node t level place kept.children node;
  children = λ _ slot. sym (ap (λ (ys : List Pointer). get_or ys slot hole) (kept_pointers (standing old t) level place p kept.children some node));
}
