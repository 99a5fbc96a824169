-- A cell in memory that is written, from the steps of the write.
use Rattle.std.proofs.Common.{◌≡◌, ◌≢◌, ◌≤◌, ◌<◌, ℕ, ◌/◌, ◌^◌, Bool, true, false, cond, List, Option, Some, is_some, nat_eq, refl, sym, ap, subst, ◌∙◌, arith}
use Rattle.std.specs.Ordering.{nat_cmp}
use Rattle.std.specs.BTreeMap as tree
use Rattle.fv_model.specs.Trees.{fan, Spot}
use Rattle.fv_tree.specs.declared.kept.Tree.{Tree}
use Rattle.fv_tree.specs.declared.kept.KeptNode.{KeptNode}
use Rattle.fv_tree.specs.Spelled.{Under, pointer_at}
use Rattle.fv_tree.specs.Sources.{Use}
use Rattle.fv_tree.specs.Standing.{standing, cell_in, children_in, IsSameButCells}
use Rattle.fv_tree.specs.Keeping.{IsKept}
use Rattle.fv_tree.specs.Writing.{IsWritten, Stamps}
use Rattle.fv_tree.specs.Flushing.{IsSound, loaded_over, cell_changed, cell_placed, placed_in}
use Rattle.fv_tree.specs.Carried.{Marks}
use Rattle.fv_tree.specs.Leading.{KeepsHints, LeadsNoMore}
use Rattle.fv_tree.specs.Readying.{IsReady}
use Rattle.fv_tree.specs.Altering.{Alters}
use Rattle.fv_tree.proofs.Altered.{way_alters}
use Rattle.fv_tree.proofs.Held.{same_self}
use Rattle.fv_tree.proofs.Marked.{IsMarked}
use Rattle.fv_tree.proofs.Readied.{ready_cell, ready_stands, stamps_lead, way_as, way_kept}
use Rattle.fv_tree.proofs.Ready.{cell_kept, marked_is}
use Rattle.fv_tree.proofs.Steps.{stamps_way, stamped_cells}
use Rattle.fv_tree.proofs.Within.{within_hints, within_leads, within_keeps, within_sound}
use Rattle.fv_tree.proofs.Writes.{within_base, written_is}

module _ (w v u : Tree) (i s : ℕ) (block : List ℕ) (ready : IsReady w i) (some : 1 ≤ s) (fields : IsSameButCells w v) (cell : (j : ℕ) → cell_in v j ≡ cond (nat_eq j i) (Some block) (cell_in w j))
    (changed : cell_changed (tree.get nat_cmp v.cells i) ≡ true) (own : cell_placed (tree.get nat_cmp v.cells i) ≡ cell_placed (tree.get nat_cmp w.cells i)) (others : (j : ℕ) → j ≢ i → tree.get nat_cmp v.cells j ≡ tree.get nat_cmp w.cells j) (stamps : Stamps v u i s) (marks : Marks v u i) where
  given : s ≢ 0
  given e = absurd (omega (arith, e, some))

  cells : (j : ℕ) → cell_in u j ≡ cond (nat_eq j i) (Some block) (cell_in w j)
  cells = stamped_cells w v u i s block cell stamps.cells

  kept : (blocks : Under) (level : ℕ) → 1 ≤ level → level ≤ w.levels → IsKept (standing blocks w) level (i / fan ^ level)
  kept blocks = way_kept blocks w i ready.covers ready.way

  pub rewritten : (blocks : Under) → IsWritten (standing blocks w) (standing blocks u) i s block
  rewritten blocks =
      written_is (standing blocks w) (standing blocks w) (standing blocks u) i s block
      (within_base (standing blocks w) (standing blocks w) i s (same_self (standing blocks w)) ready.covers (kept blocks))
      (stamps_way blocks w v u i s fields stamps) given cells

  covers : i < fan ^ v.levels
  covers = subst (λ n. i < fan ^ n) (sym fields.levels) ready.covers

  marked : (blocks : Under) → IsMarked (loaded_over blocks v) (loaded_over blocks u) i
  marked blocks = marked_is blocks v u i s stamps marks given covers (λ level low high. cell_kept blocks w v i true fields own others level (kept blocks level low (omega (arith, high, fields.levels)))) changed

  unnamed : (blocks : Under) → (pointer_at (standing blocks w) 0 i).stamp ≡ 0 → true ≡ false
  unnamed blocks none = absurd (ready_cell blocks w i ready none)

  unplaced : (blocks : Under) (level : ℕ) → 1 ≤ level → level ≤ w.levels → (pointer_at (standing blocks w) level (i / fan ^ level)).stamp ≡ 0 → placed_in w.nodes level (i / fan ^ level) ≡ false
  unplaced blocks level low high none = absurd (ready_stands blocks w i ready level high none)

  pub rewritten_leads : (blocks : Under) → LeadsNoMore (loaded_over blocks w) (loaded_over blocks u)
  rewritten_leads blocks = within_leads blocks w v u i true fields own others (unnamed blocks) (λ _. refl) (unplaced blocks) (marked blocks)

  pub rewritten_keeps : (blocks : Under) → LeadsNoMore (loaded_over blocks u) (loaded_over blocks w)
  rewritten_keeps blocks = within_keeps blocks w v u i true fields own others (unnamed blocks) (λ _. refl) (unplaced blocks) (marked blocks)

  pub rewritten_hints : (blocks : Under) → KeepsHints (loaded_over blocks w) (loaded_over blocks u)
  rewritten_hints blocks = within_hints blocks w v u i true fields own others (unnamed blocks) (λ _. refl) (unplaced blocks) (marked blocks)

  pub rewritten_sound : (blocks : Under) (used : ℕ → Option Use) → IsSound used (loaded_over blocks w) → IsSound used (loaded_over blocks u)
  rewritten_sound blocks = within_sound blocks w v u i true fields own others (unnamed blocks) (λ _. refl) (unplaced blocks) (marked blocks) covers

  pub rewritten_alters : (blocks : Under) → Alters s (loaded_over blocks w) (loaded_over blocks u)
  rewritten_alters blocks = way_alters blocks w v u i s true fields own others stamps marks given covers (λ level low high. cell_kept blocks w v i true fields own others level (kept blocks level low (omega (arith, high, fields.levels)))) changed

  pub still_ready : (j : ℕ) → IsReady w j → IsReady u j
  still_ready j was = record {
    covers = subst (λ n. j < fan ^ n) (sym (stamps.levels ∙ fields.levels)) was.covers;
    cell = ap is_some (cells j) ∙ chosen (nat_eq j i) (cell_in w j) was.cell;
    way = λ level le. stamps_lead v u i s level (j / fan ^ level) stamps given
        (way_as w v j fields.levels fields.root (λ level place. ap (λ (nodes : tree.BTreeMap Spot KeptNode). children_in nodes level place) fields.nodes) was.way level (omega (arith, le, stamps.levels)));
  }
    where
      chosen : (b : Bool) (o : Option (List ℕ)) → is_some o ≡ true → is_some (cond b (Some block) o) ≡ true
      chosen true o is = refl
      chosen false o is = is
