-- Fault lines: their order, and how rules make them.
use Rattle.std.specs.Prelude.{ℕ, ◌-◌, Bool, List, [], ◌∷◌, Ok, Err, ◌==◌, if◌then◌else◌}
use Rattle.std.specs.declared.cmp.Ordering.{Ordering}
use Rattle.std.specs.Ordering.{nat_cmp, on, then_cmp}
use Rattle.std.specs.BTreeSet.{insert_key}
use Rattle.fv_codec.specs.Fields.{Verdict, in_range}
use Rattle.fv_model.specs.Machines.{first_block}
use Rattle.fv_faults.specs.declared.fault.Fault.{Fault}

-- ---- the order of lines

-- by rule, then by block, wanted and found number
abbrev pub fault_cmp : Fault → Fault → Ordering
fault_cmp =
    then_cmp (on (λ (f : Fault). f.rule) nat_cmp)
    (then_cmp (on (λ (f : Fault). f.block) nat_cmp)
    (then_cmp (on (λ (f : Fault). f.want) nat_cmp) (on (λ (f : Fault). f.found) nat_cmp)))

-- a line at its place among others, unless it stands there
abbrev pub put : Fault → List Fault → List Fault
put f fs = insert_key fault_cmp fs f

-- the lines in their order, equal ones once
unfoldable pub ordered : List Fault → List Fault
ordered [] = []
ordered (f ∷ fs) = put f (ordered fs)

-- the lines that are found, or where there are none those that are looked for next
abbrev pub or_next : List Fault → List Fault → List Fault
or_next [] next = next
or_next (f ∷ fs) next = f ∷ fs

-- ---- how rules make lines

abbrev pub line : ℕ → ℕ → ℕ → ℕ → Fault
line rule block want found = record { rule = rule; block = block; want = want; found = found }

-- a line where a test doesn't hold
abbrev pub unless : Bool → Fault → List Fault
unless good f = if good then [] else f ∷ []

-- a line of what a verdict says of a block
abbrev pub says : ℕ → ℕ → Verdict → List Fault
says rule block (Ok fine) = []
says rule block (Err shape) = line rule block shape.want shape.found ∷ []

-- a line where a number isn't the one that is wanted
abbrev pub expects : ℕ → ℕ → ℕ → ℕ → List Fault
expects rule block want found = unless (want == found) (line rule block want found)

-- a line of rule 2 where a number in a block passes its bounds
abbrev pub within : ℕ → ℕ → ℕ → ℕ → List Fault
within block least greatest found = says 2 block (in_range least greatest found)

-- a line of rule 2 where a number in a block leads to no place of a volume's block, in an aggregate of so many blocks
abbrev pub leads : ℕ → ℕ → ℕ → List Fault
leads blocks block p = within block (first_block blocks) (blocks - 1) p
