-- What stays under a VVBN through a flush, step by step.
use Rattle.std.proofs.Common.{◌≡◌, ◌≢◌, ◌≤◌, ℕ, inl, inr, Bool, true, List, Option, Some, is_some, refl, sym, ap, subst, ◌∙◌}
use Rattle.std.specs.Ordering.{nat_cmp}
use Rattle.std.specs.BTreeMap as tree
use Rattle.std.proofs.lemmas.Bool.{cases_eq}
use Rattle.fv_codec.specs.declared.pointer.Pointer.{Pointer}
use Rattle.fv_model.specs.Trees.{spot_cmp}
use Rattle.fv_tree.specs.declared.kept.Tree.{Tree}
use Rattle.fv_tree.specs.declared.kept.KeptNode.{KeptNode}
use Rattle.fv_tree.specs.declared.kept.KeptCell.{KeptCell}
use Rattle.fv_tree.specs.Spelled.{pointer_at}
use Rattle.fv_tree.specs.Sources.{Shown, Use}
use Rattle.fv_tree.specs.Flushing.{CameIntoUse, Flushes, IsPlaced, IsReplaced, KeepsOthers, Loaded, NamesUsed, Stands, Swaps, cell_changed, cell_placed, kind_for, loaded, node_changed, node_placed, pointer_in}
use Rattle.fv_tree.specs.Readying.{HasCell}
use Rattle.fv_tree.proofs.Cases.{bit, none_some}
use Rattle.fv_tree.proofs.Flushes.{placed_first, placed_second}
use Rattle.fv_tree.proofs.Gone.{changed_cell, spot_changed, cell_led, spot_led}
use Rattle.fv_tree.proofs.Hints.{right_some}
use Rattle.fv_tree.proofs.Moved.{names_used}
use Rattle.fv_tree.proofs.Unchanged.{IsMemory}

-- ---- one block

-- the VVBN of a block that was placed came into use, since the one that is named is another
pub swap_keeps : (old : Shown) (kind : ℕ) (content : List ℕ) (named known : Bool) (r : Pointer) (p : Pointer) (new : Shown) (stays : ℕ → Type 0)
    → r.stamp ≢ 0 → NamesUsed old named r → Swaps old kind content named known r.vvbn p new → ((v : ℕ) → p.vvbn ≢ v → stays v) → KeepsOthers stays old new
swap_keeps old kind content named known r p new stays some names swaps others v not_came = elim (cases_eq p.vvbn v) [
  | inr differs ↦ others v differs
  | inl same ↦ absurd (not_came (record {
    unused = ap old.used (sym same) ∙ swaps.unused;
    used = ap (λ w. is_some (new.used w)) (sym same) ∙ right_some kind p (new.used p.vvbn) (swaps.used (elim (bit named) [
      | inl none ↦ inl none
      | inr e ↦ inr (λ own. none_some (old.used r.vvbn) (ap old.used own ∙ swaps.unused) (names e some))
    ]));
  }))
]

pub names_cell : (old : Shown) (t : Tree) (q : ℕ) (cell : KeptCell) → Stands old t → tree.get nat_cmp t.cells q ≡ Some cell → cell.changed ≡ true → NamesUsed old cell.placed (pointer_in t 0 q)
names_cell old t q cell stands held changed = names_used old t 0 q cell.placed stands (changed_cell t 0 q refl ∙ ap cell_changed held ∙ changed) (sym (cell_led t 0 q refl ∙ ap cell_placed held))

-- the same of a cell that was found in memory
pub found_names : {content : List ℕ} {differs named : Bool} (old : Shown) (t : Tree) (q : ℕ) → Stands old t → HasCell (tree.get nat_cmp t.cells q) content differs named → differs ≡ true → NamesUsed old named (pointer_in t 0 q)
found_names old t q stands found changed = subst (λ b. NamesUsed old b (pointer_in t 0 q)) found.placed (names_cell old t q found.cell stands found.is (found.changed ∙ changed))

pub names_node : (old : Shown) (t : Tree) (k q : ℕ) (node : KeptNode) → Stands old t → tree.get spot_cmp t.nodes (k, q) ≡ Some node → 1 ≤ k → node.changed ≡ true → NamesUsed old node.placed (pointer_in t k q)
names_node old t k q node stands held low changed = names_used old t k q node.placed stands (spot_changed t k q low ∙ ap node_changed held ∙ changed) (sym (spot_led t k q low ∙ ap node_placed held))

-- ---- a flush

-- what came into use was placed
pub came_placed : {hides : Bool} (old new : Shown) (t u : Tree) → Stands old t → Flushes hides (loaded old t) old.used (loaded new u) new.used → (v : ℕ) → (IsPlaced (loaded old t) (loaded new u) v → ⊥) → CameIntoUse old new v → ⊥
came_placed old new t u stands flushes v not_placed came =
    let same = flushes.others v (λ (r : IsReplaced (loaded old t) (loaded new u) v).
    none_some (old.used v) came.unused (right_some (kind_for t.owner r.level) (pointer_at (loaded old t).tree r.level r.place) (old.used v) (stands.used r.level r.place v r.leads))) not_placed in
    none_some (new.used v) (same.1 ∙ came.unused) came.used

-- what stays where nothing came into use stays where nothing was placed
pub flush_keeps : {hides : Bool} (old new : Shown) (t u : Tree) (stays : ℕ → Type 0) → Stands old t → Flushes hides (loaded old t) old.used (loaded new u) new.used → KeepsOthers stays old new → (v : ℕ) → (IsPlaced (loaded old t) (loaded new u) v → ⊥) → stays v
flush_keeps old new t u stays stands flushes keeps v not_placed = keeps v (came_placed old new t u stands flushes v not_placed)

-- one flush after another
pub keeps_then : {hides : Bool} (s t u : Loaded) (before between after : ℕ → Option Use) → IsMemory t → Flushes hides s before t between → Flushes hides t between u after → (sooner later stays : ℕ → Type 0) → ((v : ℕ) → sooner v → later v → stays v)
    → ((v : ℕ) → (IsPlaced s t v → ⊥) → sooner v) → ((v : ℕ) → (IsPlaced t u v → ⊥) → later v) → (v : ℕ) → (IsPlaced s u v → ⊥) → stays v
keeps_then s t u before between after memory first second sooner later stays on keeps kept v not_placed =
    on v (keeps v (λ p. not_placed (placed_first s t u before between after memory first second v p))) (kept v (λ p. not_placed (placed_second s t u before between after memory first second v p)))
