use Rattle.std.proofs.Common.{◌≡◌, ◌<◌, ◌∙◌, length, arith, refl}
use Rattle.fv_faults.specs.Walks.{Ground}
use Rattle.fv_fourth_pass.proofs.Gaining.{gains_all, gains_next, gains_none}
use Rattle.fv_fourth_pass.proofs.WalkedRoots.{hinted_all, hinted_next, hinted_none}
use Rattle.fv_fourth_pass.proofs.tables.note_tables.Goals as goal

pub loop-k-init : goal.loop-k-init
loop-k-init g c = record {
  reads = g.met.S.Source.reads_nothing c.args.source.now;
  cause = refl;
  adds = λ fits clean. hinted_none (g.S.Source.volume c.args.source.now) c.args.label c.args.roots.now c.args.both.now.first.lines;
  gains = λ fits. gains_none (g.S.Source.volume c.args.source.now) c.args.label c.args.both.now.second;
}

pub loop-k-preserved : goal.loop-k-preserved
loop-k-preserved g c =
    let volume : Ground = g.S.Source.volume c.args.source.now in
    let low : c.loop-k.k < length c.args.roots.now = (let test = c.loop-k-test.true in let end = c.loop-k.auto.k-end in omega (arith, test, end)) in
    let near : g.S.Source.volume c.loop-k.source ≡ volume = g.met.S.Source.same_volume c.args.source.now c.loop-k.source c.loop-k.invariant.reads in
    record {
      reads = g.met.S.Source.reads_on c.args.source.now c.loop-k.source c.show_root.new.source c.loop-k.invariant.reads c.in_ok-show_root.ensures.reads;
      cause = c.in_ok-show_root.ensures.cause ∙ c.loop-k.invariant.cause;
      adds = λ fits clean.
          hinted_next volume c.args.label c.args.roots.now c.loop-k.k _ c.args.both.now.first.lines c.loop-k.both.first c.show_root.new.both.first (g.S.Source.volume c.loop-k.source) near low clean
          (c.loop-k.invariant.adds fits clean)
          (c.in_ok-show_root.ensures.saw (g.met.S.Source.fits_on c.args.source.now c.loop-k.source c.loop-k.invariant.reads fits));
      gains = λ fits.
          gains_next volume c.args.label c.args.roots.now c.loop-k.k _ c.args.both.now.second c.loop-k.both.second c.show_root.new.both.second (g.S.Source.volume c.loop-k.source) near low (c.loop-k.invariant.gains fits)
          (c.in_ok-show_root.ensures.gains (g.met.S.Source.fits_on c.args.source.now c.loop-k.source c.loop-k.invariant.reads fits));
    }

pub returns-clause-adds : goal.returns-clause-adds
returns-clause-adds g c = λ fits clean.
    hinted_all (g.S.Source.volume c.args.source.now) c.args.label c.args.roots.now c.loop-k.k c.args.both.now.first.lines c.loop-k.both.first.lines
    (let past = c.loop-k-test.false in let end = c.loop-k.auto.k-end in omega (arith, past, end)) (c.loop-k.invariant.adds fits clean)

pub returns-clause-gains : goal.returns-clause-gains
returns-clause-gains g c = λ fits.
    gains_all (g.S.Source.volume c.args.source.now) c.args.label c.args.roots.now c.loop-k.k c.args.both.now.second c.loop-k.both.second
    (let past = c.loop-k-test.false in let end = c.loop-k.auto.k-end in omega (arith, past, end)) (c.loop-k.invariant.gains fits)
