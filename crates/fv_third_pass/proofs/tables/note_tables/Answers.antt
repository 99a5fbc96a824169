use Rattle.std.proofs.Common.{◌≡◌, ◌<◌, ◌∙◌, length, arith, refl}
use Rattle.fv_faults.specs.Walks.{Ground}
use Rattle.fv_third_pass.proofs.OwnTables.{tables_all, tables_first, tables_next}
use Rattle.fv_third_pass.proofs.Showing.{shown_all, shown_first, shown_near}
use Rattle.fv_third_pass.proofs.tables.note_tables.Goals as goal

pub loop-k-init : goal.loop-k-init
loop-k-init g c = record {
  reads = g.met.S.Source.reads_nothing c.args.source.now;
  cause = refl;
  adds = λ fits clean. tables_first (g.S.Source.volume c.args.source.now) c.args.label c.args.last c.args.roots.now c.args.lines;
  saw = λ fits. shown_first (g.S.Source.volume c.args.source.now) c.args.label c.args.roots.now c.args.judge;
}

pub loop-k-preserved : goal.loop-k-preserved
loop-k-preserved g c =
    let volume : Ground = g.S.Source.volume c.args.source.now in
    let low : c.loop-k.k < length c.args.roots.now = (let test = c.loop-k-test.true in let end = c.loop-k.auto.k-end in omega (arith, test, end)) in
    let near : g.S.Source.volume c.loop-k.source ≡ volume = g.met.S.Source.same_volume c.args.source.now c.loop-k.source c.loop-k.invariant.reads in
    record {
      reads = g.met.S.Source.reads_on c.args.source.now c.loop-k.source c.note_table.new.source c.loop-k.invariant.reads c.in_ok-walked.ensures.reads;
      cause = c.in_ok-walked.ensures.cause ∙ c.loop-k.invariant.cause;
      adds = λ fits clean.
          tables_next volume c.args.label c.args.last c.args.roots.now c.loop-k.k _ c.args.lines c.loop-k.walked.lines _ (g.S.Source.volume c.loop-k.source) near low clean (c.loop-k.invariant.adds fits clean)
          (c.in_ok-walked.ensures.adds (g.met.S.Source.fits_on c.args.source.now c.loop-k.source c.loop-k.invariant.reads fits));
      saw = λ fits.
          shown_near volume c.args.label c.args.roots.now c.loop-k.k _ c.args.judge c.loop-k.walked.visitor _ (g.S.Source.volume c.loop-k.source) near low (c.loop-k.invariant.saw fits)
          (c.in_ok-walked.ensures.saw (g.met.S.Source.fits_on c.args.source.now c.loop-k.source c.loop-k.invariant.reads fits));
    }

pub returns-clause-adds : goal.returns-clause-adds
returns-clause-adds g c = λ fits clean.
    tables_all (g.S.Source.volume c.args.source.now) c.args.label c.args.last c.args.roots.now c.loop-k.k c.args.lines c.loop-k.walked.lines
    (let past = c.loop-k-test.false in let end = c.loop-k.auto.k-end in omega (arith, past, end)) (c.loop-k.invariant.adds fits clean)

pub returns-clause-saw : goal.returns-clause-saw
returns-clause-saw g c = λ fits.
    shown_all (g.S.Source.volume c.args.source.now) c.args.label c.args.roots.now c.loop-k.k c.args.judge c.loop-k.walked.visitor
    (let past = c.loop-k-test.false in let end = c.loop-k.auto.k-end in omega (arith, past, end)) (c.loop-k.invariant.saw fits)
