use Rattle.std.proofs.Common.{◌≡◌, take}
use Rattle.std.specs.Prelude.{map}
use Rattle.fv_faults.specs.Adding.{Adds}
use Rattle.fv_third_pass.specs.Volumes.{AreClean, root_of}
use Rattle.fv_fourth_pass.specs.Tallying.{Gains}
use Rattle.fv_fourth_pass.specs.Noted.{hinted_roots}
use Rattle.fv_fourth_pass.proofs.tables.note_tables.Given as goal

abbrev pub invariant-loop-k : goal.invariant-loop-k
invariant-loop-k g l = record {
  reads : g.S.Source.reads l.fn.source l.source;
  cause : g.S.Source.faults l.source ≡ g.S.Source.faults l.fn.source;
  adds : g.S.Source.fits l.fn.source → AreClean (g.S.Source.volume l.fn.source) l.label l.roots
      → Adds (hinted_roots (g.S.Source.volume l.fn.source) l.label (take l.k l.roots)) l.fn.both.first.lines l.both.first.lines;
  gains : g.S.Source.fits l.fn.source → Gains (g.S.Source.volume l.fn.source) l.label (map root_of (take l.k l.roots)) l.fn.both.second l.both.second;
}
