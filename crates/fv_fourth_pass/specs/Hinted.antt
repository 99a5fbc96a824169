-- What rules 11 and 12 say of a pointer by itself: whether it leads to the place of its VVBN, and whether its block holds unknown pointers.
use Rattle.std.specs.Prelude.{ℕ, Bool, false, not, ◌&&◌, ◌||◌, List, ◌++◌, flat_map, count_by, Option, ◌==◌}
use Rattle.std.specs.Option.{option_map_or}
use Rattle.fv_codec.specs.declared.inode.InodeRecord.{InodeRecord}
use Rattle.fv_image.specs.HintRules.{is_known, is_unknown}
use Rattle.fv_faults.specs.declared.fault.Fault.{Fault}
use Rattle.fv_faults.specs.Lines.{line, unless}
use Rattle.fv_faults.specs.Walks.{Step}
use Rattle.fv_faults.specs.FourthPass.{hint_lines, unknown_lines}
use Rattle.fv_walk.specs.declared.source.Found.{Found}
use Rattle.fv_walk.specs.declared.below.Below.{Below}
use Rattle.fv_walk.specs.declared.below.Below.TheVariants.{Nothing, Node, Inodes}
use Rattle.fv_walk.specs.Sights.{Sight}

-- the place at which a VVBN is found, 0 for a hole
abbrev pub place_found : Option Found → ℕ
place_found at = option_map_or (λ f. f.pvbn) at 0

-- a hint that is right where it is known
abbrev pub is_right : ℕ → Option Found → Bool
is_right pvbn at = (pvbn == 0) || option_map_or (λ f. f.pvbn == pvbn) at false

abbrev pub hints_of : Sight → List Fault
hints_of s = unless (is_right s.visit.pointer.pvbn s.at) (line 11 s.visit.block (place_found s.at) s.visit.pointer.pvbn)

-- a used record of which the root is unknown
abbrev pub has_unknown_root : InodeRecord → Bool
has_unknown_root r = not (r.name_length == 0) && is_unknown r.root

-- how many unknown pointers stand in a block
abbrev pub unknown_in : Below → ℕ
unknown_in Nothing = 0
unknown_in (Node n) = count_by is_unknown n.children
unknown_in (Inodes b) = count_by has_unknown_root b.files

abbrev pub unknowns_of : Sight → List Fault
unknowns_of s = unless (not (is_known s.visit.pointer) || (unknown_in s.below == 0)) (line 12 s.visit.block 0 (unknown_in s.below))

abbrev pub judged : Sight → List Fault
judged s = hints_of s ++ unknowns_of s

-- what both rules say of steps
abbrev pub hinted_lines : List Step → List Fault
hinted_lines ss = flat_map hint_lines ss ++ flat_map unknown_lines ss
