use Rattle.std.proofs.Common.{rules, ◌≡◌, ◌+◌, ◌<◌, [], length, arith, get_or, refl, sym, subst, ◌∙◌}
use Rattle.std.proofs.lemmas.List.{length_push}
use Rattle.fv_faults.specs.Walks.{Ground}
use Rattle.fv_faults.specs.Adding.{Adds}
use Rattle.fv_first_pass.specs.Records.{free}
use Rattle.fv_walk.specs.Limiting.{IsLimitsOf}
use Rattle.fv_second_pass.specs.Reaching.{ReachesIf, root_lines, roots_if}
use Rattle.fv_second_pass.proofs.RootSteps.{adds_all, adds_first, adds_more, reached_all, reached_first, reached_more, within_active, within_one}
use Rattle.fv_second_pass.proofs.roots.note_roots.Goals as goal

pub loop-slot-init : goal.loop-slot-init
loop-slot-init g c =
    let volume = g.S.Source.volume c.args.source.now in
    let none : c.in_ok-maps.maps.items ≡ [] = search rules in
    record {
      reads = c.in_ok-first.ensures.reads;
      cause = c.in_ok-first.ensures.cause;
      long = rw (c.in_ok-add.ensures, none) refl;
      lines = λ fits of within.
          adds_first volume c.args.at c.args.label.now c.args.lines.now c.note_table.new.lines (c.in_ok-first.ensures.lines fits of (within_active c.args.label.now c.args.limits.now.span within));
      reach = λ fits of within.
          reached_first volume c.args.at c.args.label.now c.in_ok-first.first c.in_ok-maps.maps.items c.add.new.maps.items none c.in_ok-add.ensures
          (c.in_ok-first.ensures.reach fits of (within_active c.args.label.now c.args.limits.now.span within));
    }

pub loop-slot-preserved : goal.loop-slot-preserved
loop-slot-preserved g c =
    let volume : Ground = g.S.Source.volume c.args.source.now in
    let test = c.loop-slot-test.true in
    let size = c.requires.long in
    let low : c.loop-slot.slot < length c.args.label.now.snapshots = omega (arith, test, size) in
    let near : g.S.Source.volume c.loop-slot.source ≡ volume = g.met.S.Source.same_volume c.args.source.now c.loop-slot.source c.loop-slot.invariant.reads in
    record {
      reads = g.met.S.Source.reads_on c.args.source.now c.loop-slot.source c.note_snapshot.new.source c.loop-slot.invariant.reads c.in_ok-reach.ensures.reads;
      cause = c.in_ok-reach.ensures.cause ∙ c.loop-slot.invariant.cause;
      long = rw c.in_ok-add-2.ensures (length_push c.loop-slot.maps.items c.in_ok-reach.reach ∙ (let long = c.loop-slot.invariant.long in omega (arith, long)));
      lines = λ fits of within.
          adds_more volume c.args.at c.args.label.now c.loop-slot.slot c.args.lines.now c.loop-slot.lines c.note_snapshot.new.lines low (c.loop-slot.invariant.lines fits of within)
          (subst (λ (k : Ground). Adds (root_lines k c.args.at (roots_if (1 + c.loop-slot.slot) (get_or c.args.label.now.snapshots c.loop-slot.slot free))) c.loop-slot.lines c.note_snapshot.new.lines) near
          (c.in_ok-reach.ensures.lines (1 + c.loop-slot.slot) (g.met.S.Source.fits_on c.args.source.now c.loop-slot.source c.loop-slot.invariant.reads fits)
          (subst (λ (k : Ground). IsLimitsOf k c.args.limits.now) (sym near) of) (within_one c.args.label.now c.loop-slot.slot c.args.limits.now.span low within)));
      reach = λ fits of within.
          reached_more volume c.args.at c.args.label.now c.loop-slot.slot c.loop-slot.maps.items c.add-in-loop-slot.new.maps.items c.in_ok-reach.reach low c.loop-slot.invariant.long c.in_ok-add-2.ensures
          (c.loop-slot.invariant.reach fits of within)
          (subst (λ (k : Ground). ReachesIf k c.args.at (roots_if (1 + c.loop-slot.slot) (get_or c.args.label.now.snapshots c.loop-slot.slot free)) c.in_ok-reach.reach) near
          (c.in_ok-reach.ensures.reach (1 + c.loop-slot.slot) (g.met.S.Source.fits_on c.args.source.now c.loop-slot.source c.loop-slot.invariant.reads fits)
          (subst (λ (k : Ground). IsLimitsOf k c.args.limits.now) (sym near) of) (within_one c.args.label.now c.loop-slot.slot c.args.limits.now.span low within)));
    }

pub returns-clause-lines : goal.returns-clause-lines
returns-clause-lines g c = λ fits of within.
    let past = c.loop-slot-test.false in
    let size = c.requires.long in
    adds_all (g.S.Source.volume c.args.source.now) c.args.at c.args.label.now c.loop-slot.slot c.args.lines.now c.loop-slot.lines (omega (arith, past, size)) (c.loop-slot.invariant.lines fits of within)

pub returns-clause-reach : goal.returns-clause-reach
returns-clause-reach g c = λ fits of within.
    let past = c.loop-slot-test.false in
    let size = c.requires.long in
    reached_all (g.S.Source.volume c.args.source.now) c.args.at c.args.label.now c.loop-slot.slot c.loop-slot.maps.items (omega (arith, past, size)) (c.loop-slot.invariant.reach fits of within)
