-- The lines of a block, as the one to which a pointer leads.
use Rattle.std.specs.Prelude.{◌≡◌, ◌≢◌, ◌<◌, ℕ, ◌*◌, not, ◌||◌, List, [], ◌∷◌, ◌++◌, map, Option, Some, None, ◌==◌, if◌then◌else◌}
use Rattle.fv_codec.specs.declared.inode.InodeRecord.{InodeRecord}
use Rattle.fv_codec.specs.Blocks.{greatest_word}
use Rattle.fv_tables.specs.Told.{records_each}
use Rattle.fv_tables.specs.Reached.{Item}
use Rattle.fv_image.specs.Views.{Placed}
use Rattle.fv_faults.specs.declared.fault.Fault.{Fault}
use Rattle.fv_faults.specs.Lines.{line, expects}
use Rattle.fv_faults.specs.Walks.{block_lines, files_under, pointers_under, used_from}
use Rattle.fv_scan.specs.declared.item.Judged.{Judged}
use Rattle.fv_walk.specs.declared.limits.Limits.{Limits}
use Rattle.fv_walk.specs.declared.visit.Visit.{Visit}
use Rattle.fv_walk.specs.declared.below.Below.{Below}
use Rattle.fv_walk.specs.declared.below.Below.TheVariants.{Nothing, Node, Inodes}
use Rattle.fv_walk.specs.Visits.{visit_of}

-- a block at a place; its kind plays no part in its lines
abbrev pub at_place : ℕ → List ℕ → Placed
at_place place body = record { pvbn = place; kind = 0; block = body }

abbrev pub lines_in : Limits → List (ℕ × InodeRecord) → Item → ℕ → List ℕ → List Fault
lines_in l met e place body = block_lines l.blocks l.span met e (at_place place body)

-- rules 1 and 4 of a block by what is said of it and by what it spells
abbrev pub no_shape : Item → ℕ → Judged → List Fault
no_shape e at judged = if not (e.level == 0) || (e.owner == greatest_word) then line 1 at judged.want judged.found ∷ [] else []

abbrev pub shape_by : Item → ℕ → Judged → Below → List Fault
shape_by e at judged Nothing = no_shape e at judged
shape_by e at judged (Node n) = expects 4 at e.level n.level ++ (expects 4 at e.owner n.owner ++ expects 4 at e.place n.place)
shape_by e at judged (Inodes b) = expects 4 at e.place b.index

abbrev pub files_in : Item → List ℕ → List (ℕ × InodeRecord)
files_in e body = files_under e (at_place 0 body)

-- the files in what a block spells
abbrev pub files_at : Item → Below → List (ℕ × InodeRecord)
files_at e Nothing = []
files_at e (Node n) = []
files_at e (Inodes b) = used_from (records_each * e.place) b.files

-- the pointers in a block without lines
abbrev pub Outcome : Limits → List (ℕ × InodeRecord) → Item → ℕ → List ℕ → Option (List Visit) → Type 0
Outcome l met e place body None = lines_in l met e place body ≢ []
Outcome l met e place body (Some all) =
    (lines_in l met e place body ≡ []) × (all ≡ map (λ c. visit_of (c, place)) (pointers_under e (at_place place body)))

-- a pointer's VVBN is one of the volume
abbrev pub IsInRange : Limits → Visit → Type 0
IsInRange l v = v.pointer.stamp ≢ 0 → v.pointer.vvbn < l.span
