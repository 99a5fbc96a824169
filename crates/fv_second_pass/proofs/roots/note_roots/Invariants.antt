use Rattle.std.proofs.Common.{◌≡◌, ◌+◌, length}
use Rattle.fv_image.specs.Views.{head_of}
use Rattle.fv_image.specs.Seen.{roots_of}
use Rattle.fv_faults.specs.Adding.{Adds}
use Rattle.fv_walk.specs.Limiting.{IsLimitsOf}
use Rattle.fv_second_pass.specs.Told.{AreWithin}
use Rattle.fv_second_pass.specs.Reaching.{AreReached, root_lines}
use Rattle.fv_second_pass.proofs.RootSteps.{roots_to}
use Rattle.fv_second_pass.proofs.roots.note_roots.Given as goal

abbrev pub invariant-loop-slot : goal.invariant-loop-slot
invariant-loop-slot g l = record {
  reads : g.S.Source.reads l.fn.source l.source;
  cause : g.S.Source.faults l.source ≡ g.S.Source.faults l.fn.source;
  long : length l.maps.items ≡ l.slot + 1;
  lines : g.S.Source.fits l.fn.source → IsLimitsOf (g.S.Source.volume l.fn.source) l.limits → AreWithin l.limits.span (roots_of (head_of l.label))
      → Adds (root_lines (g.S.Source.volume l.fn.source) l.at (roots_to l.label l.slot)) l.fn.lines l.lines;
  reach : g.S.Source.fits l.fn.source → IsLimitsOf (g.S.Source.volume l.fn.source) l.limits → AreWithin l.limits.span (roots_of (head_of l.label))
      → AreReached (g.S.Source.volume l.fn.source) l.at (roots_to l.label l.slot) l.maps.items;
}
