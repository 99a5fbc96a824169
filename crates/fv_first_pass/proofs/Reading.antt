-- A container that was read from its root on, against the layout of the image.
use Rattle.std.proofs.Common.{◌≡◌, ℕ, ◌<◌, ◌≤◌, List, sym, ap, subst, ◌∙◌, arith}
use Rattle.fv_disk.specs.Shown.{Image}
use Rattle.fv_image.specs.NewerRoot.{Taken}
use Rattle.fv_image.specs.Views.{entry_count}
use Rattle.fv_image.specs.Held.{layout_at}
use Rattle.fv_faults.specs.declared.lines.Lines.{Lines}
use Rattle.fv_faults.specs.Adding.{Adds}
use Rattle.fv_faults.specs.FirstPass.{node_below}
use Rattle.fv_first_pass.specs.declared.site.Site.{Site}
use Rattle.fv_first_pass.specs.Sites.{IsSite}
use Rattle.fv_first_pass.specs.Below.{below, entry_word}
use Rattle.fv_first_pass.specs.Filled.{IsRead}
use Rattle.fv_first_pass.specs.Known.{IsLabelOf, HasEntries}
use Rattle.fv_first_pass.proofs.Linked.{below_is, root_lies}
use Rattle.fv_first_pass.proofs.Entries.{entry_is, high_enough}

module _ (t : Taken) (i : Image) (site : Site) (of : IsLabelOf t i site) (is : IsSite site) where
  some : 0 < entry_count site.label.span
  some = let least = is.span_least in omega (arith, least)

  few : entry_count site.label.span ≤ 1049376
  few = let greatest = is.span_greatest in omega (arith, greatest)

  nodes_are : node_below (layout_at t i) site.slot site.label site.label.height 0 ≡ below i site site.label.height 0 site.label.container
  nodes_are = below_is t i site of.blocks of.label site.label.height 0 site.label.container (root_lies t i site of.blocks of.label some)

  pub nodes_added : (old new : Lines) → Adds (below i site site.label.height 0 site.label.container) old new → Adds (node_below (layout_at t i) site.slot site.label site.label.height 0) old new
  nodes_added old new adds = subst (λ ls. Adds ls old new) (sym nodes_are) adds

  pub entries_had : (row : List ℕ) → IsRead i site row → HasEntries t i site row
  entries_had row read = record {
    long = read.long;
    words = λ quiet high v inside.
        let tall = high_enough (entry_count site.label.span) site.label.height v few high inside in
        read.words (sym nodes_are ∙ quiet) v tall.1 inside ∙ ap entry_word (entry_is i site site.label.container v inside site.label.height tall.0 tall.1);
  }
