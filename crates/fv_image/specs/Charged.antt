-- Which VVBNs a volume isn't charged for.
use Rattle.std.specs.Prelude.{List, [], Option, Some, None, if◌then◌else◌}
use Rattle.fv_tables.specs.Reached.{Item}
use Rattle.fv_image.specs.Views.{Footing, View}
use Rattle.fv_image.specs.Staying.{base_items}

-- what the base table of a volume reaches, as far as the volume isn't charged for it: all, unless it is being split from its base
abbrev pub out_items : View → Option Footing → List Item
out_items w None = []
out_items w (Some b) = if b.splitting then [] else base_items w (Some b)
