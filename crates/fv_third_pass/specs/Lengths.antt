-- What rule 10 says of a cell, by the records that were seen last before it.
use Rattle.std.specs.Prelude.{ℕ, ◌/◌, ◌%◌, List, [], ◌++◌, ◌∷◌, get_or, nat_lt, Option, None, Some, ◌==◌, if◌then◌else◌}
use Rattle.fv_tables.specs.Told.{free_record, records_each}
use Rattle.fv_faults.specs.declared.fault.Fault.{Fault}
use Rattle.fv_faults.specs.Lines.{line, unless}
use Rattle.fv_faults.specs.ThirdPass.{before}
use Rattle.fv_walk.specs.declared.below.Below.{Below}
use Rattle.fv_walk.specs.declared.below.Below.TheVariants.{Nothing, Node, Inodes}
use Rattle.fv_walk.specs.declared.visit.Visit.{Visit}
use Rattle.fv_walk.specs.Sights.{Sight}
use Rattle.fv_walk.specs.Visits.{leads_on}
use Rattle.fv_third_pass.specs.declared.lengths.Records.{Records}

-- of the cell of a place, where the length of its file is known
abbrev pub length_line : ℕ → ℕ → ℕ → List Fault
length_line block place n = unless (nat_lt place n) (line 10 block (before n) place)

abbrev pub length_if : ℕ → ℕ → Option ℕ → List Fault
length_if block place None = []
length_if block place (Some n) = length_line block place n

-- the length of the file of a number, where its record stands among these
abbrev pub length_in : Option Records → ℕ → Option ℕ
length_in None k = None
length_in (Some r) k = if k / records_each == r.place then Some (get_or r.block.files (k % records_each) free_record).length else None

-- of a pointer, by records; one that leads on isn't to a cell
abbrev pub cell_lines : Option Records → Visit → List Fault
cell_lines r v = if leads_on v then [] else length_if v.block v.place (length_in r v.owner)

-- the records that are seen last, once this is seen
abbrev pub records_after : Option Records → Visit → Below → Option Records
records_after r v Nothing = r
records_after r v (Node n) = r
records_after r v (Inodes b) = Some (record { place = v.place; block = b })

abbrev pub records_behind : Option Records → List Sight → Option Records
records_behind r [] = r
records_behind r (s ∷ ss) = records_behind (records_after r s.visit s.below) ss

-- of several, each by the records before it
abbrev pub lengths_along : Option Records → List Sight → List Fault
lengths_along r [] = []
lengths_along r (s ∷ ss) = cell_lines r s.visit ++ lengths_along (records_after r s.visit s.below) ss
