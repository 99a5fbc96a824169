-- What rules 9 and 10 say of a pointer by itself: the kind of its entry, the stamps under a mark, the levels of the files whose records stand
-- in its block, and the volume's last stamp.
use Rattle.std.specs.Prelude.{ℕ, max, Bool, List, [], ◌++◌, flat_map, fold, nat_le, Option, if◌then◌else◌}
use Rattle.std.specs.Option.{option_map_or}
use Rattle.fv_codec.specs.declared.pointer.Pointer.{Pointer}
use Rattle.fv_codec.specs.Fields.{in_range}
use Rattle.fv_image.specs.ReachRules.{kind_of}
use Rattle.fv_faults.specs.declared.fault.Fault.{Fault}
use Rattle.fv_faults.specs.Lines.{line, unless, says, expects}
use Rattle.fv_faults.specs.Walks.{Step}
use Rattle.fv_faults.specs.ThirdPass.{kind_lines, mark_lines, file_level_lines, stamp_lines}
use Rattle.fv_walk.specs.declared.source.Found.{Found}
use Rattle.fv_walk.specs.declared.below.Below.{Below}
use Rattle.fv_walk.specs.declared.below.Below.TheVariants.{Nothing, Node, Inodes}
use Rattle.fv_walk.specs.Sights.{Sight}
use Rattle.fv_walk.specs.Visits.{item_of}
use Rattle.fv_third_pass.specs.Files.{levels_of}

-- the kind of the entry at which a VVBN is found, 0 for a hole
abbrev pub kind_found : Option Found → ℕ
kind_found at = option_map_or (λ f. f.kind) at 0

abbrev pub kinds_of : Sight → List Fault
kinds_of s = expects 9 s.visit.block (kind_of (item_of s.visit)) (kind_found s.at)

-- the greatest stamp of some pointers
abbrev pub greatest : List Pointer → ℕ
greatest ps = fold (λ n (p : Pointer). max n p.stamp) 0 ps

abbrev pub marks_in : ℕ → ℕ → Below → List Fault
marks_in block stamp Nothing = []
marks_in block stamp (Node n) = unless (nat_le (greatest n.children) stamp) (line 10 block (greatest n.children) stamp)
marks_in block stamp (Inodes b) = []

abbrev pub marks_of : Sight → List Fault
marks_of s = marks_in s.visit.block s.visit.pointer.stamp s.below

abbrev pub stamps_of : ℕ → Sight → List Fault
stamps_of now s = says 10 s.visit.block (in_range 0 now s.visit.pointer.stamp)

-- what is said of a pointer in a table of the volume itself alone
abbrev pub own_lines : Bool → Sight → List Fault
own_lines own s = if own then kinds_of s ++ (marks_of s ++ levels_of s) else []

-- Of a pointer in a base table the stamp alone is judged.
abbrev pub judged : Bool → ℕ → Sight → List Fault
judged own last s = own_lines own s ++ stamps_of last s

abbrev pub judged_lines : Bool → ℕ → List Step → List Fault
judged_lines own last ss = (if own then flat_map kind_lines ss ++ (flat_map mark_lines ss ++ flat_map file_level_lines ss) else []) ++ flat_map (stamp_lines last) ss
