-- The nodes of a container from one on: their lines, and the entries that they spell.
use Rattle.std.specs.Prelude.{ℕ, zero, suc, ◌+◌, ◌*◌, ◌/◌, ◌%◌, ◌^◌, List, [], flat_map, Option, nat_lt, if◌then◌else◌}
use Rattle.std.specs.List.{range_with_len}
use Rattle.std.specs.Option.{option_map_or}
use Rattle.fv_disk.specs.Shown.{Image}
use Rattle.fv_codec.specs.declared.container.ContainerInner.{ContainerInner}
use Rattle.fv_codec.specs.Blocks.{leaf_at, inner_at}
use Rattle.fv_image.specs.Containers.{fan, level_width, shaped, lying, child_in, entry_in}
use Rattle.fv_image.specs.Views.{entry_count}
use Rattle.fv_image.specs.Held.{lying_at}
use Rattle.fv_faults.specs.declared.fault.Fault.{Fault}
use Rattle.fv_faults.specs.Lines.{or_next}
use Rattle.fv_faults.specs.FirstPass.{leaf_lines, inner_lines}
use Rattle.fv_first_pass.specs.declared.site.Site.{Site}
use Rattle.fv_first_pass.specs.Sites.{bare}

-- where a node of a level and a number lies, by the node over it; past the level's width there is none
abbrev pub child_at : Site → ℕ → Option ContainerInner → ℕ → ℕ
child_at site level node q = if nat_lt q (level_width (entry_count site.label.span) level) then child_in node (q % fan) else 0

-- The lines of the node of a level and a number that lies at a place, and where it has none those below it.
unfoldable pub below : Image → Site → ℕ → ℕ → ℕ → List Fault
below i site zero number at = option_map_or (λ x. leaf_lines (bare site.blocks) site.label number x.place (leaf_at x.block)) (lying_at i at) []
below i site (suc level) number at = option_map_or (λ x.
    or_next (inner_lines (bare site.blocks) site.label (suc level) number x.place (inner_at x.block))
    (flat_map (λ q. below i site level q (child_at site level (shaped (inner_at x.block)) q)) (range_with_len (fan * number) fan)))
    (lying_at i at) []

-- the entry of a VVBN, as PVBN and kind, by the node of a level that covers it and lies at a place
unfoldable pub entry_under : Image → Site → ℕ → ℕ → ℕ → ℕ × ℕ
entry_under i site zero at v = entry_in (lying leaf_at i at) (v % fan)
entry_under i site (suc level) at v = entry_under i site level (child_at site level (lying inner_at i at) (v / fan ^ suc level)) v

-- an entry as one word: its kind above the 24 bits of its place; 0 for a hole
abbrev pub entry_word : ℕ × ℕ → ℕ
entry_word e = e.1 * 16777216 + e.0
