-- The maps of a volume: rule 6, and rule 9 of their blocks. Rule 2 of its span.
use Rattle.std.specs.Prelude.{◌≡◌, ℕ, ◌+◌, ◌/◌, nat_le, Bool, List, [], ◌++◌, flat_map, get_or, Some, ◌==◌, if◌then◌else◌}
use Rattle.std.specs.List.{range_with_len}
use Rattle.fv_disk.specs.Shown.{Image}
use Rattle.fv_bits.specs.Members.{is_member}
use Rattle.fv_codec.specs.declared.label.SnapRecord.{SnapRecord}
use Rattle.fv_model.specs.Space.{map_blocks}
use Rattle.fv_image.specs.Views.{Snap, View, block_in, map_kind, map_vvbn, snaps_from}
use Rattle.fv_faults.specs.declared.fault.Fault.{Fault}
use Rattle.fv_faults.specs.Lines.{expects, line, unless}
use Rattle.fv_faults.specs.Walks.{Step, has_reached}
use Rattle.fv_faults.specs.ThirdPass.{pvbn_at}
use Rattle.fv_first_pass.specs.Passed.{spelled}
use Rattle.fv_third_pass.specs.Bits.{differing}

-- a row has the word of each entry of a slot, in an image
pub record HasWords (i : Image) (w : View) (s : ℕ) (row : List ℕ) : Type 0 where
  pub entries : (v : ℕ) → w.entry s v ≡ spelled i (get_or row v 0)

-- a set is the VVBNs that steps reach
pub record IsReachOf (ss : List Step) (reach : List Bool) : Type 0 where
  pub each : (v : ℕ) → is_member reach v ≡ has_reached ss v

-- rule 6 of block k of a map, by the word of its entry
abbrev pub block_lines : Image → ℕ → List Bool → ℕ → List Fault
block_lines i word reach k = differing 6 (Some (pvbn_at (spelled i word))) reach k (block_in (spelled i word))

-- of the first so many blocks of the map of a slot
unfoldable pub reach_to : Image → List ℕ → ℕ → ℕ → List Bool → ℕ → List Fault
reach_to i row span slot reach n = flat_map (λ k. block_lines i (get_or row (map_vvbn span slot k) 0) reach k) (range_with_len 0 n)

-- rule 9 of the first so many blocks of the map of a slot
unfoldable pub kinds_to : List ℕ → ℕ → ℕ → ℕ → ℕ → List Fault
kinds_to row label span slot n = flat_map (λ k. expects 9 label map_kind (get_or row (map_vvbn span slot k) 0 / 16777216)) (range_with_len 0 n)

-- of all blocks of the map of a snapshot, where a label's record names one
abbrev pub kinds_if : List ℕ → ℕ → ℕ → ℕ → SnapRecord → List Fault
kinds_if row label span slot r = if r.name_length == 0 then [] else kinds_to row label span slot (map_blocks span)

-- of the active map, and of those of the first so many records
abbrev pub kinds_with : List ℕ → ℕ → ℕ → List SnapRecord → List Fault
kinds_with row label span rs =
    kinds_to row label span 0 (map_blocks span) ++ flat_map (λ (p : Snap). kinds_to row label span p.slot (map_blocks span)) (snaps_from 1 rs)

-- rule 2 of a span, by the greatest size of its volume and the number of its base's ids
abbrev pub room_lines : ℕ → ℕ → ℕ → ℕ → List Fault
room_lines label most ids span = unless (nat_le (most + (ids + 256)) span) (line 2 label (most + (ids + 256)) span)
