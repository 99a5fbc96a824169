-- Cells that are ready stay so while levels grow over them.
use Rattle.std.proofs.Common.{◌≡◌, ◌≢◌, ◌≤◌, ◌<◌, ℕ, ◌+◌, ◌/◌, ◌%◌, ◌^◌, inl, inr, true, List, Option, None, is_some, get_or, refl, sym, ap, ◌∙◌, arith}
use Rattle.std.specs.Option.{option_map}
use Rattle.std.proofs.Math.Nat.{div-eq_of_lt, pow-le-pow_right}
use Rattle.std.proofs.lemmas.Bool.{cases_eq, cases_lt}
use Rattle.fv_codec.specs.declared.pointer.Pointer.{Pointer}
use Rattle.fv_model.specs.Trees.{fan}
use Rattle.fv_tree.specs.declared.kept.Tree.{Tree}
use Rattle.fv_tree.specs.declared.kept.KeptNode.{KeptNode}
use Rattle.fv_tree.specs.Spelled.{Under, hole}
use Rattle.fv_tree.specs.Standing.{node_in, cell_in, IsSameBut}
use Rattle.fv_tree.specs.Carried.{kept_at, BringsNew}
use Rattle.fv_tree.specs.Flushing.{child_of, pointer_in}
use Rattle.fv_tree.specs.Readying.{IsReady, KeepsReady}
use Rattle.fv_tree.proofs.Past.{Raises, more}
use Rattle.fv_tree.proofs.Readied.{pointer_low, pointer_top, ready_stands}
use Rattle.fv_tree.proofs.Stamped.{above}
use Rattle.fv_tree.proofs.StillReady.{cell_still, way_ready}
use Rattle.fv_tree.proofs.Ungrown.{kept_old}

nothing : Under
nothing v = None

-- new nodes alone came into memory
pub ungrown_ready : (t v : Tree) (i : ℕ) → fan ^ t.levels ≤ i → IsSameBut t v → BringsNew t v i → KeepsReady t v
ungrown_ready t v i far fields brings j ready =
    way_ready t v j fields.levels fields.root (cell_still t v j fields.cells ready.cell)
    (λ level low le. kept_old nothing t v i far brings level (j / fan ^ level) (ready_stands nothing t j ready level le)) ready

-- the tree got its new levels
module _ (t v : Tree) (i s : ℕ) (is : Raises t v i s) (some : s ≢ 0) (brings : BringsNew t v i)
    (cells : (j : ℕ) → is_some (cell_in t j) ≡ true → is_some (cell_in v j) ≡ true) where
  grows : t.levels < v.levels
  grows = more nothing t v i s is some

  module _ (j : ℕ) (ready : IsReady t j) where
    wider : (level : ℕ) → t.levels ≤ level → fan ^ t.levels ≤ fan ^ level
    wider level le = pow-le-pow_right {n = fan} (omega arith) {i = t.levels} {j = level} le

    first : (level : ℕ) → t.levels ≤ level → j / fan ^ level ≡ 0
    first level le = let up = wider level le in let covers = ready.covers in div-eq_of_lt (omega (arith, up, covers))

    rooted : t.root.stamp ≢ 0
    rooted none = ready.way t.levels (omega arith) (ap (λ (p : Pointer). p.stamp) (pointer_top t t.levels (j / fan ^ t.levels) refl (first t.levels (omega arith))) ∙ none)

    kept : (level : ℕ) → level ≤ t.levels → kept_at v level (j / fan ^ level) ≡ kept_at t level (j / fan ^ level)
    kept level le = kept_old nothing t v i is.far brings level (j / fan ^ level) (ready_stands nothing t j ready level le)

    low_pointer : (u : Tree) (level : ℕ) → level < u.levels → pointer_in u level (j / fan ^ level) ≡ child_of (node_in u (level + 1) (j / fan ^ (level + 1))) (j / fan ^ level % fan)
    low_pointer u level lt = pointer_low u level (j / fan ^ level) lt ∙ ap (λ q. child_of (node_in u (level + 1) q) (j / fan ^ level % fan)) (above j level)

    way_old : (level : ℕ) → level < t.levels → (pointer_in v level (j / fan ^ level)).stamp ≢ 0
    way_old level lt none = ready.way level (omega (arith, lt)) (ap (λ (p : Pointer). p.stamp) (low_pointer t level lt
        ∙ ap (λ (o : Option KeptNode). child_of (option_map (λ (kept : KeptNode). kept.children) o) (j / fan ^ level % fan)) (sym (kept (level + 1) (omega (arith, lt))))
        ∙ sym (low_pointer v level (omega (arith, lt, grows)))) ∙ none)

    way_new : (level : ℕ) → t.levels ≤ level → level < v.levels → (pointer_in v level (j / fan ^ level)).stamp ≢ 0
    way_new level le lt =
        let node = is.nodes.grown rooted (level + 1) (omega (arith, le)) (omega (arith, lt)) in
        let slot : j / fan ^ level % fan ≡ 0 = ap (λ q. q % fan) (first level le) in
        let at : pointer_in v level (j / fan ^ level) ≡ get_or node.pointers 0 hole = low_pointer v level lt ∙ ap (λ q. child_of (node_in v (level + 1) q) (j / fan ^ level % fan)) (first (level + 1) (omega (arith, le)))
        ∙ ap (λ (o : Option (List Pointer)). child_of o (j / fan ^ level % fan)) node.node ∙ ap (λ k. get_or node.pointers k hole) slot in
        elim (cases_eq level t.levels) [
          | inl same ↦ λ none. rooted (ap (λ (p : Pointer). p.stamp) (sym (at ∙ node.lowest (omega (arith, same)))) ∙ none)
          | inr differs ↦ λ none. some (ap (λ (p : Pointer). p.stamp) (sym (at ∙ node.higher (λ e. differs (omega (arith, e))))) ∙ none)
        ]

    way_up : (level : ℕ) → level ≤ v.levels → (pointer_in v level (j / fan ^ level)).stamp ≢ 0
    way_up level le = elim (cases_lt level v.levels) [
      | inl lt ↦ elim (cases_lt level t.levels) [
        | inl old ↦ way_old level old
        | inr new ↦ way_new level new lt
      ]
      | inr ge ↦ λ none. some (ap (λ (p : Pointer). p.stamp) (sym (pointer_top v level (j / fan ^ level) (omega (arith, le, ge)) (first level (omega (arith, ge, grows))) ∙ is.root)) ∙ none)
    ]

    pub grown_ready : IsReady v j
    grown_ready = record {
      covers = let up = wider v.levels (omega (arith, grows)) in let covers = ready.covers in omega (arith, up, covers);
      cell = cells j ready.cell;
      way = way_up;
    }
