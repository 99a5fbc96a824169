-- A tree of which nothing is in memory.
use Rattle.std.proofs.Common.{inl, inr, List, ◌≡◌, ◌≢◌, ℕ, true, false, Option, Some, is_some, refl, sym, ap, subst, ◌∙◌, arith}
use Rattle.std.specs.Option.{option_map}
use Rattle.std.specs.BTreeMap as tree
use Rattle.std.proofs.lemmas.Bool.{cases_eq}
use Rattle.fv_codec.specs.declared.pointer.Pointer.{Pointer}
use Rattle.fv_tree.specs.Sources.{Use}
use Rattle.fv_tree.specs.declared.kept.Tree.{Tree}
use Rattle.fv_tree.specs.declared.kept.KeptNode.{KeptNode}
use Rattle.fv_tree.specs.declared.kept.KeptCell.{KeptCell}
use Rattle.fv_tree.specs.Spelled.{Under, Rooted, pointer_at, stored}
use Rattle.fv_tree.specs.Standing.{standing, node_in, cell_in}
use Rattle.fv_tree.specs.Flushing.{Leads, IsRight, IsSound, ReachesOnce, loaded_over, changed_of, placed_of, node_changed, node_placed, cell_changed, cell_placed, kind_for}
use Rattle.fv_tree.proofs.Cases.{false_is_true, some_none}
use Rattle.fv_tree.proofs.Gone.{changed_cell, spot_changed, cell_led, spot_led}
use Rattle.fv_tree.proofs.Stepped.{no_cell, no_node}
use Rattle.fv_tree.proofs.Writes.{none_at}

module _ (t : Tree) (no_nodes : tree.btree_map_len t.nodes ≡ 0) (no_cells : tree.btree_map_len t.cells ≡ 0) where
  pub none_changed : (level place : ℕ) → changed_of t level place ≡ false
  none_changed level place = elim (cases_eq level 0) [
    | inl e ↦ changed_cell t level place e ∙ ap cell_changed (no_cell t no_cells place)
    | inr low ↦ spot_changed t level place (omega arith) ∙ ap node_changed (no_node t no_nodes level place)
  ]

  all_placed : (level place : ℕ) → placed_of t level place ≡ true
  all_placed level place = elim (cases_eq level 0) [
    | inl e ↦ cell_led t level place e ∙ ap cell_placed (no_cell t no_cells place)
    | inr low ↦ spot_led t level place (omega arith) ∙ ap node_placed (no_node t no_nodes level place)
  ]

  pub is_stored : (blocks : Under) → standing blocks t ≡ stored blocks t.owner t.levels t.root
  is_stored blocks = λ i. record {
    under = blocks;
    owner = t.owner;
    levels = t.levels;
    root = t.root;
    nodes = λ level place. option_map (λ (kept : KeptNode). kept.children) (no_node t no_nodes level place i);
    cells = λ index. option_map (λ (kept : KeptCell). kept.block.value) (no_cell t no_cells index i);
  }

  no_kept : {P : Type 0} (level place : ℕ) (xs : List Pointer) → node_in t level place ≡ Some xs → P
  no_kept level place xs e = some_none (node_in t level place) xs (ap (option_map (λ (kept : KeptNode). kept.children)) (no_node t no_nodes level place)) e

  module _ (blocks : Under) (used : ℕ → Option Use) where
    leads_to : (level place : ℕ) → (pointer_at (standing blocks t) level place).stamp ≢ 0 → Leads (loaded_over blocks t) level place (pointer_at (standing blocks t) level place).vvbn
    leads_to level place some = record { some = some; placed = all_placed level place; vvbn = refl }

    pub reaches : IsSound used (loaded_over blocks t) → ReachesOnce used (standing blocks t)
    reaches stands = record {
      once = λ level place k q one two same. stands.once level place k q (pointer_at (standing blocks t) level place).vvbn (leads_to level place one) (subst (Leads (loaded_over blocks t) k q) (sym same) (leads_to k q two));
      held = λ level place some. stands.held level place (pointer_at (standing blocks t) level place).vvbn (leads_to level place some);
      used = λ level place some. stands.used level place (pointer_at (standing blocks t) level place).vvbn (leads_to level place some);
    }

    pub stands_on : ReachesOnce used (standing blocks t) → IsSound used (loaded_over blocks t)
    stands_on is = record {
      once = λ level place k q v one two. is.once level place k q one.some two.some (one.vvbn ∙ sym two.vvbn);
      held = λ level place v leads. ap (λ v. is_some (blocks v)) (sym leads.vvbn) ∙ is.held level place leads.some;
      used = λ level place v leads. subst (λ v. IsRight (kind_for t.owner level) (pointer_at (standing blocks t) level place) (used v)) leads.vvbn (is.used level place leads.some);
      over = λ level place changed. false_is_true (changed_of t level place) (none_changed level place) changed;
      same = λ level place xs _ node. no_kept level place xs node;
      cells = λ index block cell. some_none (cell_in t index) block (ap (option_map (λ (kept : KeptCell). kept.block.value)) (no_cell t no_cells index)) cell;
      empty = λ level place _ _ _ xs node. no_kept level place xs node;
    }

-- a tree without a cell
pub hole_reaches : (used : ℕ → Option Use) (t : Rooted) → t.root.stamp ≡ 0 → ReachesOnce used t
hole_reaches used t none = record {
  once = λ level place _ _ some. absurd (some (none_at t none level place));
  held = λ level place some. absurd (some (none_at t none level place));
  used = λ level place some. absurd (some (none_at t none level place));
}
