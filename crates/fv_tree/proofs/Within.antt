-- A cell within the levels that comes into memory, and the way to it that is marked: how the tree stands to its blocks then.
use Rattle.std.proofs.Common.{◌≡◌, ◌≢◌, ◌≤◌, ◌<◌, ℕ, ◌/◌, ◌^◌, Bool, true, false, ◌&&◌, Option, ap, ◌∙◌}
use Rattle.std.specs.Ordering.{nat_cmp}
use Rattle.std.specs.BTreeMap as tree
use Rattle.fv_model.specs.Trees.{fan}
use Rattle.fv_tree.specs.declared.kept.Tree.{Tree}
use Rattle.fv_tree.specs.Spelled.{Under, pointer_at}
use Rattle.fv_tree.specs.Sources.{Shown, Use}
use Rattle.fv_tree.specs.Standing.{standing, under, IsSameButCells}
use Rattle.fv_tree.specs.Flushing.{IsSound, loaded_over, placed_in, cell_placed}
use Rattle.fv_codec.specs.declared.pointer.Pointer.{Pointer}
use Rattle.fv_tree.specs.Leading.{KeepsHints, LeadsNoMore, Carries}
use Rattle.fv_tree.proofs.Leading.{leads_then}
use Rattle.fv_tree.proofs.Marked.{IsMarked, marked_hints, marked_leads, marked_keeps, marked_sound}
use Rattle.fv_tree.proofs.Ready.{cell_leads, cell_keeps, cell_pointers, way_unplaced, within_ready}

module _ (blocks : Under) (w v u : Tree) (i : ℕ) (named : Bool) (same : IsSameButCells w v)
    (own : cell_placed (tree.get nat_cmp v.cells i) ≡ (named && cell_placed (tree.get nat_cmp w.cells i))) (others : (j : ℕ) → j ≢ i → tree.get nat_cmp v.cells j ≡ tree.get nat_cmp w.cells j)
    (unnamed : (pointer_at (standing blocks w) 0 i).stamp ≡ 0 → named ≡ false) (names : (pointer_at (standing blocks w) 0 i).stamp ≢ 0 → named ≡ true)
    (unplaced : (level : ℕ) → 1 ≤ level → level ≤ w.levels → (pointer_at (standing blocks w) level (i / fan ^ level)).stamp ≡ 0 → placed_in w.nodes level (i / fan ^ level) ≡ false)
    (marked : IsMarked (loaded_over blocks v) (loaded_over blocks u) i) where
  pub within_leads : LeadsNoMore (loaded_over blocks w) (loaded_over blocks u)
  within_leads = leads_then (loaded_over blocks w) (loaded_over blocks v) (loaded_over blocks u) (cell_leads blocks w v i named same own others)
      (marked_leads (loaded_over blocks v) (loaded_over blocks u) i marked (way_unplaced blocks w v i named same own others unnamed unplaced))

  pub within_keeps : LeadsNoMore (loaded_over blocks u) (loaded_over blocks w)
  within_keeps = leads_then (loaded_over blocks u) (loaded_over blocks v) (loaded_over blocks w) (marked_keeps (loaded_over blocks v) (loaded_over blocks u) i marked)
      (cell_keeps blocks w v i named same own others names)

  pub within_hints : KeepsHints (loaded_over blocks w) (loaded_over blocks u)
  within_hints k q x led = marked_hints (loaded_over blocks v) (loaded_over blocks u) i marked k q x led ∙ ap (λ (p : Pointer). p.pvbn) (cell_pointers blocks w v i named same own others k q)

  pub within_sound : i < fan ^ v.levels → (used : ℕ → Option Use) → IsSound used (loaded_over blocks w) → IsSound used (loaded_over blocks u)
  within_sound covers used sound = marked_sound (loaded_over blocks v) (loaded_over blocks u) i marked used covers (within_ready blocks w v i named same own others unnamed unplaced used sound)

pub carries_within : (source : Shown) (w v u : Tree) (i : ℕ) (named : Bool) → IsSameButCells w v → cell_placed (tree.get nat_cmp v.cells i) ≡ (named && cell_placed (tree.get nat_cmp w.cells i))
    → ((j : ℕ) → j ≢ i → tree.get nat_cmp v.cells j ≡ tree.get nat_cmp w.cells j) → ((pointer_at (standing (under source) w) 0 i).stamp ≡ 0 → named ≡ false) → ((pointer_at (standing (under source) w) 0 i).stamp ≢ 0 → named ≡ true)
    → ((level : ℕ) → 1 ≤ level → level ≤ w.levels → (pointer_at (standing (under source) w) level (i / fan ^ level)).stamp ≡ 0 → placed_in w.nodes level (i / fan ^ level) ≡ false)
    → i < fan ^ v.levels → IsMarked (loaded_over (under source) v) (loaded_over (under source) u) i → Carries source source w u
carries_within source w v u i named same own others unnamed names unplaced covers marked = record {
  stands = within_sound (under source) w v u i named same own others unnamed names unplaced marked covers source.used;
  leads = within_leads (under source) w v u i named same own others unnamed names unplaced marked;
  keeps = within_keeps (under source) w v u i named same own others unnamed names unplaced marked;
  hints = within_hints (under source) w v u i named same own others unnamed names unplaced marked;
}
