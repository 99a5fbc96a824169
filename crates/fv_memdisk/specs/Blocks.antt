-- The images that blocks by their numbers stand for.
use Rattle.std.specs.Prelude.{◌≡◌, ◌==◌, ℕ, List, Option, Some, replicate, unwrap_or, if◌then◌else◌}
use Rattle.std.specs.Option.{option_map}
use Rattle.std.specs.Ordering.{nat_cmp}
use Rattle.std.specs.BTreeMap as tree
use Rattle.fv_disk.specs.Shown.{Image}
use Rattle.fv_memdisk.specs.declared.blocks.Blocks.{Blocks}
use Rattle.fv_memdisk.specs.declared.kept.Kept.{Kept}
use Rattle.fv_memdisk.specs.Story.{Story}

-- the zero block
abbrev pub zeros : List ℕ
zeros = replicate 4096 0

-- the block under a number, if there is one
unfoldable pub found : Blocks → ℕ → Option (List ℕ)
found blocks a = option_map (λ b. b.value) (tree.get nat_cmp blocks.map a)

-- one block is put in its place
abbrev pub Puts : Blocks → Blocks → ℕ → List ℕ → Type 0
Puts old new at block = (a : ℕ) → found new a ≡ (if a == at then Some block else found old a)

-- the blocks that there are, and what lies below
abbrev pub over : Blocks → Image → Image
over blocks below a = unwrap_or (found blocks a) (below a)

-- zero where there is no block
abbrev pub disk_of : Blocks → Image
disk_of blocks = over blocks (λ a. zeros)

abbrev pub told : Blocks → Blocks → List Kept → ℕ → List ℕ → List (ℕ × ℕ) → Story
told base current past run given places = record { base = disk_of base; reads = over current (disk_of base); past = past; run = run; given = given; places = places }
