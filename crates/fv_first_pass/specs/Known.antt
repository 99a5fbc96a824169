-- What a check knows of a volume once its container was read.
use Rattle.std.specs.Prelude.{◌≡◌, ◌<◌, ℕ, List, [], length, get_or, Some}
use Rattle.fv_disk.specs.Shown.{Image}
use Rattle.fv_image.specs.Containers.{height_of, container_entry}
use Rattle.fv_image.specs.NewerRoot.{Taken}
use Rattle.fv_image.specs.Views.{entry_count}
use Rattle.fv_image.specs.Held.{label_in, label_lying, layout_at}
use Rattle.fv_faults.specs.FirstPass.{node_below}
use Rattle.fv_first_pass.specs.declared.site.Site.{Site}
use Rattle.fv_first_pass.specs.Below.{entry_word}

-- the label is that of its slot under a root
pub record IsLabelOf (t : Taken) (i : Image) (site : Site) : Type 0 where
  pub blocks : t.blocks ≡ site.blocks
  pub label : label_in (label_lying t i site.slot) ≡ Some site.label

-- Where the nodes of the container have no line and it has its height, the row has the word of each of its entries.
pub record HasEntries (t : Taken) (i : Image) (site : Site) (row : List ℕ) : Type 0 where
  pub long : length row ≡ entry_count site.label.span
  pub words : node_below (layout_at t i) site.slot site.label site.label.height 0 ≡ [] → site.label.height ≡ height_of (entry_count site.label.span)
      → (v : ℕ) → v < entry_count site.label.span
      → get_or row v 0 ≡ entry_word (container_entry i site.label.container site.label.height (entry_count site.label.span) v)
