-- The walk of the check along the pointers of one root: depth first, children in order. It ends at a pointer whose VVBN the root has reached
-- before or that is a hole along its chain, and at a block that has a line itself.
use Rattle.std.specs.Prelude.{ℕ, zero, suc, ◌+◌, ◌-◌, ◌*◌, Bool, not, ◌&&◌, List, [], ◌∷◌, ◌++◌, map, flat_map, take, find, Option, Some, None, Result, Ok, Err, ◌==◌, if◌then◌else◌}
use Rattle.std.specs.List.{list_any, enumerate_from}
use Rattle.std.specs.Option.{option_map_or}
use Rattle.fv_codec.specs.declared.shape.Shape.{Shape}
use Rattle.fv_codec.specs.declared.pointer.Pointer.{Pointer}
use Rattle.fv_codec.specs.declared.node.Node.{Node}
use Rattle.fv_codec.specs.declared.inode.InodeRecord.{InodeRecord}
use Rattle.fv_codec.specs.declared.inode.InodeBlock.{InodeBlock}
use Rattle.fv_codec.specs.Blocks.{greatest_word, node_at, inodes_at}
use Rattle.fv_model.specs.Trees.{fan}
use Rattle.fv_model.specs.Spelling.{is_same_name}
use Rattle.fv_tables.specs.Spelled.{hole}
use Rattle.fv_tables.specs.Told.{records_each}
use Rattle.fv_tables.specs.Reached.{Item}
use Rattle.fv_image.specs.Views.{Placed, Rooted, View}
use Rattle.fv_image.specs.Chains.{place}
use Rattle.fv_faults.specs.declared.fault.Fault.{Fault}
use Rattle.fv_faults.specs.Lines.{line, expects, within, leads}

-- a step of the walk
pub record Step : Type 0 where
  pub item : Item
  -- the block in which the pointer stands
  pub block : ℕ
  -- whether the root reaches its VVBN for the first time
  pub new : Bool
  -- where its VVBN is found along the chain of bases
  pub at : Option Placed
  -- what rules 1, 2, 4 and 5 say of it; the walk goes below where they say nothing
  pub lines : List Fault

-- ---- what stands in a block, as the one of a position

-- a pointer of a level that isn't a hole, with its position
abbrev pub child_of : Item → ℕ × Pointer → Item
child_of e c = record { owner = e.owner; levels = e.levels; level = e.level - 1; place = fan * e.place + c.0; pointer = c.1; holder = e.pointer }

abbrev pub file_root : Item → ℕ × InodeRecord → Item
file_root e f = record { owner = f.0; levels = f.1.levels; level = f.1.levels; place = 0; pointer = f.1.root; holder = e.pointer }

-- the used records of an inode block, with their files' numbers
unfoldable pub used_from : ℕ → List InodeRecord → List (ℕ × InodeRecord)
used_from n [] = []
used_from n (r ∷ rs) = if r.name_length == 0 then used_from (n + 1) rs else (n, r) ∷ used_from (n + 1) rs

abbrev pub files_of : ℕ → Result InodeBlock Shape → List (ℕ × InodeRecord)
files_of place (Ok b) = used_from (records_each * place) b.files
files_of place (Err fault) = []

abbrev pub children_of : Item → Result Node Shape → List Item
children_of e (Ok n) = map (child_of e) (enumerate_from 0 n.children)
children_of e (Err fault) = []

-- an inode block, and not a data block, is what a cell of the inode file leads to
abbrev pub is_inode_cell : Item → Bool
is_inode_cell e = (e.level == 0) && (e.owner == greatest_word)

-- the files whose records stand in the block to which a pointer leads
unfoldable pub files_under : Item → Placed → List (ℕ × InodeRecord)
files_under e x = if is_inode_cell e then files_of e.place (inodes_at x.block) else []

-- the pointers in that block, holes among them
unfoldable pub pointers_under : Item → Placed → List Item
pointers_under e x = if e.level == 0 then map (file_root e) (files_under e x) else children_of e (node_at x.block)

-- ---- what rules say of a block

-- Rule 2, ranges: a pointer's VVBN is below the span, and its PVBN is unknown or lies where a block of a volume can.
abbrev pub pointer_lines : ℕ → ℕ → ℕ → Pointer → List Fault
pointer_lines blocks span block p = if p.stamp == 0 then [] else
    within block 0 (span - 1) p.vvbn ++ (if p.pvbn == 0 then [] else leads blocks block p.pvbn)

-- Rules 1 and 4: the block has the shape of its kind, and is the one of its position.
abbrev pub node_lines : ℕ → Item → Result Node Shape → List Fault
node_lines at e (Err shape) = line 1 at shape.want shape.found ∷ []
node_lines at e (Ok n) = expects 4 at e.level n.level ++ (expects 4 at e.owner n.owner ++ expects 4 at e.place n.place)

abbrev pub inodes_lines : ℕ → Item → Result InodeBlock Shape → List Fault
inodes_lines at e (Err shape) = line 1 at shape.want shape.found ∷ []
inodes_lines at e (Ok b) = expects 4 at e.place b.index

unfoldable pub shape_lines : Item → Placed → List Fault
shape_lines e x = if e.level == 0
    then (if e.owner == greatest_word then inodes_lines x.pvbn e (inodes_at x.block) else [])
    else node_lines x.pvbn e (node_at x.block)

-- whether two files have one name
abbrev pub same_file : ℕ × InodeRecord → ℕ × InodeRecord → Bool
same_file f g = is_same_name (take f.1.name_length f.1.name) (take g.1.name_length g.1.name)

-- a line of an element and the first before it that is the same
abbrev pub twin_line : (ℕ × InodeRecord → ℕ × InodeRecord → Fault) → Option (ℕ × InodeRecord) → ℕ × InodeRecord → List Fault
twin_line f None g = []
twin_line f (Some first) g = f first g ∷ []

-- Rule 4, names: no file has the name of one that was met before. Each is held against the first of them.
unfoldable pub name_lines : ℕ → List (ℕ × InodeRecord) → List (ℕ × InodeRecord) → List Fault
name_lines at before [] = []
name_lines at before (f ∷ fs) =
    twin_line (λ g f. line 4 at g.0 f.0) (find (λ g. same_file g f) before) f ++ name_lines at (before ++ (f ∷ [])) fs

-- ---- steps

-- what a block says, where a step comes to it for the first time
unfoldable pub block_lines : ℕ → ℕ → List (ℕ × InodeRecord) → Item → Placed → List Fault
block_lines blocks span before e x =
    shape_lines e x
    ++ (flat_map (λ c. pointer_lines blocks span x.pvbn c.pointer) (pointers_under e x)
    ++ name_lines x.pvbn before (files_under e x))

-- the files that a step meets: those of the block that it comes to. It comes to none where the root has reached the VVBN before.
abbrev pub met_in : Step → List (ℕ × InodeRecord)
met_in s = if s.new then option_map_or (files_under s.item) s.at [] else []

abbrev pub has_reached : List Step → ℕ → Bool
has_reached done v = list_any (λ s. s.item.pointer.vvbn == v) done

-- Rule 5: a root reaches no VVBN twice, and none that is a hole along its chain.
unfoldable pub step_lines : ℕ → ℕ → List Step → Item → ℕ → Option Placed → List Fault
step_lines blocks span done e block at =
    if has_reached done e.pointer.vvbn then line 5 block 1 2 ∷ []
    else option_map_or (block_lines blocks span (flat_map met_in done) e) at (line 5 block 1 0 ∷ [])

-- the volume in which a walk goes
pub record Ground : Type 0 where
  pub view : View
  pub slot : ℕ
  pub span : ℕ

unfoldable pub step : Ground → List Step → Item → ℕ → Step
step g done e block = record {
  item = e;
  block = block;
  new = not (has_reached done e.pointer.vvbn);
  at = place g.view g.slot e.pointer.vvbn;
  lines = step_lines g.view.blocks g.span done e block (place g.view g.slot e.pointer.vvbn);
}

-- ---- the walk

-- what goes on from the steps that were made
abbrev pub Going : Type 0
Going = List Step → List Step

-- one after another
abbrev pub each : {X : Type 0} → (X → Going) → List X → Going
each go [] done = done
each go (x ∷ xs) done = each go xs (go x done)

-- below a step where it has no line
abbrev pub below_if : (Placed → Going) → List Fault → Option Placed → Going
below_if below [] (Some x) after = below x after
below_if below [] None after = after
below_if below (f ∷ fs) at after = after

abbrev pub onward : (Placed → Going) → Step → Going
onward below s done = below_if below s.lines s.at (done ++ (s ∷ []))

-- along a pointer that isn't a hole
abbrev pub along_one : Ground → (Item → Placed → Going) → Item → ℕ → Going
along_one g below e block done = if e.pointer.stamp == 0 then done else onward (below e) (step g done e block) done

-- along a pointer to a position of a level: below it are the pointers of its node, and below a cell what is said of cells
unfoldable pub go : Ground → (Item → Placed → Going) → ℕ → Item → ℕ → Going
go g cell zero e block done = along_one g cell e block done
go g cell (suc level) e block done =
    along_one g (λ e x. each (λ c. go g cell level c x.pvbn) (pointers_under e x)) e block done

abbrev pub nothing : Item → Placed → Going
nothing e x done = done

-- along the trees of the files whose records stand in an inode block
abbrev pub into_files : Ground → Item → Placed → Going
into_files g e x = each (λ c. go g nothing c.levels c x.pvbn) (pointers_under e x)

-- the pointer of a root, which stands in the label
abbrev pub root_item : Rooted → Item
root_item r = record { owner = greatest_word; levels = r.levels; level = r.levels; place = 0; pointer = r.root; holder = hole }

-- the steps of a root
unfoldable pub steps : Ground → ℕ → Rooted → List Step
steps g label r = go g (into_files g) r.levels (root_item r) label []
