-- What a row of entries holds after the nodes below one were read.
use Rattle.std.specs.Prelude.{true, ◌≡◌, ◌≢◌, ◌<◌, ◌≤◌, ℕ, suc, ◌+◌, ◌*◌, ◌/◌, ◌^◌, List, [], flat_map, length, get_or, Option, Some, None, Result, Ok}
use Rattle.fv_disk.specs.Shown.{Image}
use Rattle.fv_codec.specs.declared.shape.Shape.{Shape}
use Rattle.fv_codec.specs.declared.container.ContainerLeaf.{ContainerLeaf}
use Rattle.fv_codec.specs.declared.container.ContainerInner.{ContainerInner}
use Rattle.fv_image.specs.Containers.{fan, entry_in}
use Rattle.fv_image.specs.Views.{entry_count}
use Rattle.std.specs.List.{range_with_len}
use Rattle.std.specs.Option.{is_some}
use Rattle.fv_faults.specs.declared.fault.Fault.{Fault}
use Rattle.fv_faults.specs.declared.lines.Lines.{Lines}
use Rattle.fv_faults.specs.Adding.{Adds}
use Rattle.fv_first_pass.specs.declared.site.Site.{Site}
use Rattle.fv_first_pass.specs.Below.{below, child_at, entry_under, entry_word}

-- the entries of a leaf with this number are kept, and no other changed; of a leaf without its shape none is
pub record FillsLeaf (number : ℕ) (leaf : Option ContainerLeaf) (old new : List ℕ) : Type 0 where
  pub long : length new ≡ length old
  pub kept : is_some leaf ≡ true → (c : ℕ) → c < fan → fan * number + c < length old → get_or new (fan * number + c) 0 ≡ entry_word (entry_in leaf c)
  pub outside : (v : ℕ) → v / fan ≢ number → get_or new v 0 ≡ get_or old v 0

-- a number that a node of a level can have: there are at most 65,536 leaves
pub record IsNumber (level number : ℕ) : Type 0 where
  pub leaf : level ≡ 0 → number ≤ 65535
  pub inner : level ≢ 0 → number ≤ 255
  pub top : level ≡ 2 → number ≡ 0

-- Where the nodes from that of a level and a number on have no line, the entries that they cover are kept, over ones that were holes; and no
-- entry changed that they don't cover.
pub record Fills (i : Image) (site : Site) (level number at : ℕ) (old new : List ℕ) : Type 0 where
  pub long : length new ≡ length old
  pub kept : below i site level number at ≡ [] → (v : ℕ) → v / fan ^ suc level ≡ number → v < length old → get_or old v 0 ≡ 0
      → get_or new v 0 ≡ entry_word (entry_under i site level at v)
  pub outside : (v : ℕ) → v / fan ^ suc level ≢ number → get_or new v 0 ≡ get_or old v 0

-- the node that a block spells is answered where it has no line, and none where it has
pub record Judges (lines : List Fault) (block : Result ContainerInner Shape) (answer : Option ContainerInner) : Type 0 where
  pub clean : (node : ContainerInner) → answer ≡ Some node → (lines ≡ []) × (block ≡ Ok node)
  pub faulty : answer ≡ None → lines ≢ []

-- ---- the children of a node, up to one of them

-- the lines of the first so many children of a node with this number, whose children are of a level
abbrev pub lines_to : Image → Site → ℕ → ℕ → ContainerInner → ℕ → List Fault
lines_to i site level number node c = flat_map (λ q. below i site level q (child_at site level (Some node) q)) (range_with_len (fan * number) c)

abbrev pub BelowTo : Image → Site → ℕ → ℕ → ContainerInner → ℕ → Lines → Lines → Type 0
BelowTo i site level number node c = Adds (lines_to i site level number node c)

-- their entries are kept where they have no line, and no other entry changed
pub record FillsTo (i : Image) (site : Site) (level number : ℕ) (node : ContainerInner) (c : ℕ) (old new : List ℕ) : Type 0 where
  pub long : length new ≡ length old
  pub kept : lines_to i site level number node c ≡ [] → (v : ℕ) → v / fan ^ suc (suc level) ≡ number → v / fan ^ suc level < fan * number + c → v < length old → get_or old v 0 ≡ 0
      → get_or new v 0 ≡ entry_word (entry_under i site level (child_at site level (Some node) (v / fan ^ suc level)) v)
  pub later : (v : ℕ) → v / fan ^ suc (suc level) ≡ number → fan * number + c ≤ v / fan ^ suc level → get_or new v 0 ≡ get_or old v 0
  pub outside : (v : ℕ) → v / fan ^ suc (suc level) ≢ number → get_or new v 0 ≡ get_or old v 0

-- Where the nodes of a volume's container have no line, a row has the word of each of its entries.
pub record IsRead (i : Image) (site : Site) (row : List ℕ) : Type 0 where
  pub long : length row ≡ entry_count site.label.span
  pub words : below i site site.label.height 0 site.label.container ≡ [] → (v : ℕ) → v / fan ^ suc site.label.height ≡ 0 → v < entry_count site.label.span
      → get_or row v 0 ≡ entry_word (entry_under i site site.label.height site.label.container v)
