-- The lines of a block by what is said of it and by what it spells.
use Rattle.std.proofs.Common.{◌≡◌, ℕ, Bool, true, false, List, [], ◌∷◌, ◌++◌, refl, sym, ap, subst, ◌∙◌}
use Rattle.std.specs.Prelude.{Some, None, Result, Ok, Err, not, ◌&&◌, ◌||◌, map, flat_map, ◌==◌, if◌then◌else◌}
use Rattle.std.proofs.lemmas.List.Folds.{flat_map-map}
use Rattle.fv_codec.specs.declared.shape.Shape.{Shape}
use Rattle.fv_codec.specs.declared.node.Node.{Node}
use Rattle.fv_codec.specs.declared.inode.InodeBlock.{InodeBlock}
use Rattle.fv_codec.specs.declared.inode.InodeRecord.{InodeRecord}
use Rattle.fv_codec.specs.Blocks.{greatest_word, node_at, inodes_at}
use Rattle.fv_tables.specs.Reached.{Item}
use Rattle.fv_image.specs.Views.{Placed}
use Rattle.fv_faults.specs.declared.fault.Fault.{Fault}
use Rattle.fv_faults.specs.declared.lines.Lines.{Lines}
use Rattle.fv_faults.specs.Lines.{line}
use Rattle.fv_faults.specs.Walks.{block_lines, shape_lines, node_lines, inodes_lines, name_lines, pointer_lines, file_root, children_of, files_of, files_under, pointers_under}
use Rattle.fv_scan.specs.declared.item.Judged.{Judged}
use Rattle.fv_scan.specs.Judging.{judged_node, judged_inodes}
use Rattle.fv_walk.specs.declared.limits.Limits.{Limits}
use Rattle.fv_walk.specs.declared.visit.Visit.{Visit}
use Rattle.fv_walk.specs.declared.below.Below.{Below}
use Rattle.fv_walk.specs.declared.below.Below.TheVariants.{Nothing}
use Rattle.fv_faults.specs.Walks.{Ground}
use Rattle.fv_walk.specs.declared.source.Found.{Found}
use Rattle.fv_walk.specs.Sources.{found_of}
use Rattle.fv_walk.specs.Limiting.{IsLimitsOf}
use Rattle.fv_walk.specs.Visits.{item_of, leads_on, visit_of}
use Rattle.fv_walk.specs.Sights.{node_in, inodes_in, spelled, pointers_in}
use Rattle.fv_walk.specs.Looks.{judged_of}
use Rattle.fv_walk.specs.Noting.{AddsAll}
use Rattle.fv_walk.specs.Blocks.{at_place, files_at, files_in, lines_in, shape_by, Outcome}
use Rattle.fv_walk.proofs.Spelled.{spelled_pointers}
use Rattle.fv_walk.proofs.Noting.{both, none_is, some_is}

-- ---- what a block spells

-- the files in it
pub spelled_files : (e : Item) (x : Placed) → files_at e (spelled e x.block) ≡ files_under e x
unfolding spelled files_under
spelled_files e x = so (e.level == 0) (e.owner == greatest_word) (inodes_at x.block) (node_at x.block)
  where
    so : (cell inodes : Bool) (b : Result InodeBlock Shape) (n : Result Node Shape)
        → files_at e (if cell then (if inodes then inodes_in b else Nothing) else node_in n) ≡ (if cell && inodes then files_of e.place b else [])
    so true true (Ok b) n = refl
    so true true (Err shape) n = refl
    so true false b n = refl
    so false inodes b (Ok n) = refl
    so false inodes b (Err shape) = refl

-- its shape and its position
pub shape_is : (e : Item) (x : Placed) → shape_by e x.pvbn (judged_of e.level x.block) (spelled e x.block) ≡ shape_lines e x
unfolding spelled shape_lines
shape_is e x = so (e.level == 0) (e.owner == greatest_word) (inodes_at x.block) (node_at x.block)
  where
    judged_by : Bool → Result InodeBlock Shape → Result Node Shape → Judged
    judged_by cell b n = if cell then judged_inodes b else judged_node n

    by : Bool → Bool → Judged → Below → List Fault
    by cell inodes judged Nothing = if not cell || inodes then line 1 x.pvbn judged.want judged.found ∷ [] else []
    by cell inodes judged below = shape_by e x.pvbn judged below

    so : (cell inodes : Bool) (b : Result InodeBlock Shape) (n : Result Node Shape)
        → by cell inodes (judged_by cell b n) (if cell then (if inodes then inodes_in b else Nothing) else node_in n)
        ≡ (if cell then (if inodes then inodes_lines x.pvbn e b else []) else node_lines x.pvbn e n)
    so true true (Ok b) n = refl
    so true true (Err shape) n = refl
    so true false b n = refl
    so false inodes b (Ok n) = refl
    so false inodes b (Err shape) = refl

-- ---- its lines

module _ (l : Limits) (met : List (ℕ × InodeRecord)) (e : Item) (place : ℕ) (body : List ℕ) where
  abbrev pub range_lines : List Visit → List Fault
  range_lines all = flat_map (λ (v : Visit). pointer_lines l.blocks l.span place v.pointer) all

  pub lines_are : (all : List Visit) → all ≡ map (λ (c : Item). visit_of (c, place)) (pointers_in e (spelled e body))
      → shape_by e place (judged_of e.level body) (spelled e body) ++ (range_lines all ++ name_lines place met (files_at e (spelled e body))) ≡ lines_in l met e place body
  unfolding block_lines
  lines_are all are =
      let x : Placed = at_place place body in
      let ranges : range_lines all ≡ flat_map (λ (c : Item). pointer_lines l.blocks l.span place c.pointer) (pointers_under e x) =
      ap range_lines are
      ∙ flat_map-map (λ (v : Visit). pointer_lines l.blocks l.span place v.pointer) (λ (c : Item). visit_of (c, place)) (pointers_in e (spelled e body))
      ∙ ap (flat_map (λ (c : Item). pointer_lines l.blocks l.span place c.pointer)) (spelled_pointers e x) in
      ap (λ ls. ls ++ (range_lines all ++ name_lines place met (files_at e (spelled e body)))) (shape_is e x)
      ∙ ap (λ ls. shape_lines e x ++ (ls ++ name_lines place met (files_at e (spelled e body)))) ranges
      ∙ ap (λ fs. shape_lines e x ++ (flat_map (λ (c : Item). pointer_lines l.blocks l.span place c.pointer) (pointers_under e x) ++ name_lines place met fs)) (spelled_files e x)

  -- noted one after another
  pub noted : (judged : Judged) (below : Below) (all : List Visit) (old one two new : Lines) (shape range fresh : Bool)
      → judged ≡ judged_of e.level body → below ≡ spelled e body → all ≡ map (λ (c : Item). visit_of (c, place)) (pointers_in e below)
      → AddsAll (shape_by e place judged below) old one shape → AddsAll (range_lines all) one two range
      → AddsAll (name_lines place met (files_at e below)) two new fresh → AddsAll (lines_in l met e place body) old new (shape && (range && fresh))
  noted judged below all old one two new shape range fresh says spells are a b c =
      let three : AddsAll (shape_by e place judged below ++ (range_lines all ++ name_lines place met (files_at e below))) old new (shape && (range && fresh)) =
      both (shape_by e place judged below) (range_lines all ++ name_lines place met (files_at e below)) old one new shape (range && fresh) a
      (both (range_lines all) (name_lines place met (files_at e below)) one two new range fresh b c) in
      let same : shape_by e place judged below ++ (range_lines all ++ name_lines place met (files_at e below)) ≡ lines_in l met e place body =
      ap (λ j. shape_by e place j below ++ (range_lines all ++ name_lines place met (files_at e below))) says
      ∙ ap (λ w. shape_by e place (judged_of e.level body) w ++ (range_lines all ++ name_lines place met (files_at e w))) spells
      ∙ lines_are all (are ∙ ap (λ w. map (λ (c : Item). visit_of (c, place)) (pointers_in e w)) spells) in
      subst (λ ls. AddsAll ls old new (shape && (range && fresh))) same three

  -- and where there are none, these are the pointers
  pub goes_on : (below : Below) (all : List Visit) (old new : Lines) (clean : Bool) → below ≡ spelled e body → all ≡ map (λ (c : Item). visit_of (c, place)) (pointers_in e below)
      → AddsAll (lines_in l met e place body) old new clean → clean ≡ true → Outcome l met e place body (Some all)
  goes_on below all old new clean spells are adds test = (
    none_is (lines_in l met e place body) (sym adds.clean ∙ test),
    are ∙ ap (λ w. map (λ (c : Item). visit_of (c, place)) (pointers_in e w)) spells ∙ ap (map (λ (c : Item). visit_of (c, place))) (spelled_pointers e (at_place place body)),
  )

  pub ends : (old new : Lines) (clean : Bool) → AddsAll (lines_in l met e place body) old new clean → clean ≡ false → Outcome l met e place body None
  ends old new clean adds test = some_is (lines_in l met e place body) (sym adds.clean ∙ test)

-- ---- a data block

-- it has no lines, no files and no pointers
module _ (v : Visit) (x : Placed) (quiet : leads_on v ≡ false) where
  cell_alone : (cell inodes : Bool) → (not cell || inodes) ≡ false → (cell ≡ true) × (inodes ≡ false)
  cell_alone true false e = (refl, refl)
  cell_alone true true e = absurd cc
  cell_alone false inodes e = absurd cc

  is_cell : ((v.level == 0) ≡ true) × ((v.owner == greatest_word) ≡ false)
  is_cell = cell_alone (v.level == 0) (v.owner == greatest_word) quiet

  pub no_files : files_under (item_of v) x ≡ []
  unfolding files_under
  no_files =
      ap (λ b. if b && (v.owner == greatest_word) then files_of v.place (inodes_at x.block) else []) is_cell.0
      ∙ ap (λ b. if true && b then files_of v.place (inodes_at x.block) else []) is_cell.1

  pub no_pointers : pointers_under (item_of v) x ≡ []
  unfolding pointers_under
  no_pointers =
      ap (λ b. if b then map (file_root (item_of v)) (files_under (item_of v) x) else children_of (item_of v) (node_at x.block)) is_cell.0
      ∙ ap (map (file_root (item_of v))) no_files

  no_shape_lines : shape_lines (item_of v) x ≡ []
  unfolding shape_lines
  no_shape_lines =
      ap (λ b. if b then (if v.owner == greatest_word then inodes_lines x.pvbn (item_of v) (inodes_at x.block) else []) else node_lines x.pvbn (item_of v) (node_at x.block)) is_cell.0
      ∙ ap (λ b. if b then inodes_lines x.pvbn (item_of v) (inodes_at x.block) else []) is_cell.1

  no_names : (at : ℕ) (met : List (ℕ × InodeRecord)) → name_lines at met [] ≡ []
  unfolding name_lines
  no_names at met = refl

  pub no_lines : (blocks span : ℕ) (met : List (ℕ × InodeRecord)) → block_lines blocks span met (item_of v) x ≡ []
  unfolding block_lines
  no_lines blocks span met =
      ap (λ ls. ls ++ (flat_map (λ (c : Item). pointer_lines blocks span x.pvbn c.pointer) (pointers_under (item_of v) x) ++ name_lines x.pvbn met (files_under (item_of v) x))) no_shape_lines
      ∙ ap (λ cs. flat_map (λ (c : Item). pointer_lines blocks span x.pvbn c.pointer) cs ++ name_lines x.pvbn met (files_under (item_of v) x)) no_pointers
      ∙ ap (name_lines x.pvbn met) no_files
      ∙ no_names x.pvbn met

-- ---- the kind of a block plays no part

pub same_lines : (blocks span : ℕ) (met : List (ℕ × InodeRecord)) (e : Item) (x : Placed) → block_lines blocks span met e (at_place x.pvbn x.block) ≡ block_lines blocks span met e x
unfolding block_lines shape_lines pointers_under files_under
same_lines blocks span met e x = refl

pub same_files : (e : Item) (x : Placed) → files_in e x.block ≡ files_under e x
unfolding files_under
same_files e x = refl

pub same_pointers : (e : Item) (x : Placed) → pointers_under e (at_place x.pvbn x.block) ≡ pointers_under e x
unfolding pointers_under files_under
same_pointers e x = refl

-- the lines of a block that was read are those of the block there
pub block_of : (l : Limits) (g : Ground) (met : List (ℕ × InodeRecord)) (e : Item) (f : Found) (x : Placed) (body : List ℕ) → IsLimitsOf g l → f ≡ found_of x → body ≡ x.block
    → lines_in l met e f.pvbn body ≡ block_lines g.view.blocks g.span met e x
block_of l g met e f x body of found same =
    ap (λ (b : ℕ). block_lines b l.span met e (at_place f.pvbn body)) of.blocks
    ∙ ap (λ (n : ℕ). block_lines g.view.blocks n met e (at_place f.pvbn body)) of.span
    ∙ ap (λ (y : Found). block_lines g.view.blocks g.span met e (at_place y.pvbn body)) found
    ∙ ap (λ (b : List ℕ). block_lines g.view.blocks g.span met e (at_place x.pvbn b)) same
    ∙ same_lines g.view.blocks g.span met e x
