-- The names that a walk met.
use Rattle.std.specs.Prelude.{◌≡◌, ℕ, List, [], ◌∷◌, take, find, Option, Some, None, cond}
use Rattle.std.specs.Option.{option_map, option_or}
use Rattle.std.specs.BTreeMap as maps
use Rattle.fv_codec.specs.declared.inode.InodeRecord.{InodeRecord}
use Rattle.fv_model.specs.Spelling.{name_cmp, is_same_name}
use Rattle.fv_faults.specs.declared.fault.Fault.{Fault}
use Rattle.fv_faults.specs.Lines.{line}
use Rattle.fv_walk.specs.declared.names.Names.{Names}

abbrev pub name_of : InodeRecord → List ℕ
name_of r = take r.name_length r.name

-- the number of the first of some files that has a name
abbrev pub first_named : List (ℕ × InodeRecord) → List ℕ → Option ℕ
first_named met name = option_map (λ f. f.0) (find (λ f. is_same_name (name_of f.1) name) met)

-- each name of the files has the number of the first of them
abbrev pub IsNames : List (ℕ × InodeRecord) → Names → Type 0
IsNames met names = (name : List ℕ) → maps.get name_cmp names.firsts name ≡ first_named met name

-- the line of a name that another file had first
abbrev pub twins : ℕ → ℕ → Option ℕ → List Fault
twins block number None = []
twins block number (Some first) = line 4 block first number ∷ []

-- a name that none had has this number now, and all else is as before
abbrev pub IsNamed : Names → List ℕ → ℕ → Names → Type 0
IsNamed old name number new =
    (n : List ℕ) → maps.get name_cmp new.firsts n ≡ option_or (maps.get name_cmp old.firsts n) (cond (is_same_name name n) (Some number) None)
