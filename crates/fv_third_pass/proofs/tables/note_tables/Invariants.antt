use Rattle.std.proofs.Common.{◌≡◌, take}
use Rattle.fv_faults.specs.Adding.{Adds}
use Rattle.fv_third_pass.specs.TwinJudges.{Twins}
use Rattle.fv_third_pass.specs.Volumes.{AreClean, own_tables, shown}
use Rattle.fv_third_pass.proofs.tables.note_tables.Given as goal

abbrev pub invariant-loop-k : goal.invariant-loop-k
invariant-loop-k g l = record {
  reads : g.S.Source.reads l.fn.source l.source;
  cause : g.S.Source.faults l.source ≡ g.S.Source.faults l.fn.source;
  adds : g.S.Source.fits l.fn.source → AreClean (g.S.Source.volume l.fn.source) l.label l.roots
      → Adds (own_tables (g.S.Source.volume l.fn.source) l.label l.last (take l.k l.roots)) l.fn.lines l.walked.lines;
  saw : g.S.Source.fits l.fn.source → Twins l.fn.judge (shown (g.S.Source.volume l.fn.source) l.label (take l.k l.roots)) l.walked.visitor;
}
