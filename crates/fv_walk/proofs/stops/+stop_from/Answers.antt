use Rattle.std.proofs.Common.{◌≡◌, ◌++◌, ◌∷◌, [], ◌<◌, ◌+◌, List, length, get_or, take, sym, ap, subst, ◌∙◌, arith}
use Rattle.std.specs.Prelude.{Vec, Option, Some, IfSome}
use Rattle.std.specs.List.{All}
use Rattle.std.specs.Option.{option_map}
use Rattle.std.specs.declared.alloc.Global.{Global}
use Rattle.std.proofs.lemmas.List.{take_all}
use Rattle.fv_faults.specs.declared.lines.Lines.{Lines}
use Rattle.fv_faults.specs.Walks.{Ground, Step}
use Rattle.fv_walk.specs.declared.visit.Visit.{Visit}
use Rattle.fv_walk.specs.Visits.{IsUnder}
use Rattle.fv_walk.specs.Blocks.{IsInRange}
use Rattle.fv_walk.specs.Goings.{StepsTo, Tracks}
use Rattle.fv_walk.specs.declared.limits.Limits.{Limits}
use Rattle.fv_walk.specs.declared.state.State.{State}
use Rattle.fv_walk.specs.Limiting.{IsReady}
use Rattle.fv_walk.specs.Gathering.{AreBlocks, IsKindOf}
use Rattle.fv_walk.proofs.Gatherings.{is_within}
use Rattle.fv_walk.proofs.Along.{here, along, all_visits, falls, going_hole, going_ends, going_cell, going_block, limits_stay, range_stays, tracks_as, tracks_more}
use Rattle.fv_walk.proofs.stops.+stop_from.Goals.{then-leads_on+in_ok-stop_from, else-leads_on+in_ok-step_to_data}
use Rattle.fv_walk.proofs.stops.+stop_from.Goals as goal

-- stands in where there is no pointer
abbrev blank : Visit
blank = record { owner = 0; levels = 0; level = 0; place = 0; pointer = record { vvbn = 0; pvbn = 0; stamp = 0 }; holder = record { vvbn = 0; pvbn = 0; stamp = 0 }; block = 0 }

pub returns-then-visit-eq0-clause-tracks : goal.returns-then-visit-eq0-clause-tracks
returns-then-visit-eq0-clause-tracks g t c = λ fits of ahead before done tracks.
    subst (λ (d : List Step). Tracks (g.S.Source.volume c.args.source.now) before d c.args.state.now c.args.lines.now)
    (going_hole (g.S.Source.volume c.args.source.now) c.args.of_inodes c.args.visit.now done c.if-visit-eq0.true) tracks

pub returns-in_default-clause-tracks : goal.returns-in_default-clause-tracks
returns-in_default-clause-tracks g t c = λ fits of ahead before done tracks.
    let volume : Ground = g.S.Source.volume c.args.source.now in
    subst (λ (d : List Step). Tracks volume before d c.take_step.new.state c.take_step.new.lines)
    (going_ends volume c.args.of_inodes c.args.visit.now done c.if-visit-eq0.false
    (subst (λ (o : Option (Vec Visit Global)). StepsTo (here volume c.args.of_inodes c.args.visit.now done) (option_map (λ (all : Vec Visit Global). all.items) o)) c.in_default.is
    (c.in_ok-children.ensures.steps_to fits of ahead before done tracks)))
    (c.in_ok-children.ensures.tracks fits of ahead before done tracks)

pub returns-then-ends-clause-tracks : goal.returns-then-ends-clause-tracks
returns-then-ends-clause-tracks g t c = λ fits of ahead before done tracks.
    let volume : Ground = g.S.Source.volume c.args.source.now in
    subst (λ (d : List Step). Tracks volume before d c.take_step.new.state c.take_step.new.lines)
    (going_cell volume c.args.of_inodes c.args.visit.now done c.in-Some.children.items c.if-visit-eq0.false
    (subst (λ (o : Option (Vec Visit Global)). StepsTo (here volume c.args.of_inodes c.args.visit.now done) (option_map (λ (all : Vec Visit Global). all.items) o)) c.in-Some.is
    (c.in_ok-children.ensures.steps_to fits of ahead before done tracks)) (sym c.ends.ensures ∙ c.if-ends.true))
    (c.in_ok-children.ensures.tracks fits of ahead before done tracks)

pub returns-clause-tracks : goal.returns-clause-tracks
returns-clause-tracks g t c = λ fits of ahead before done tracks.
    let volume : Ground = g.S.Source.volume c.args.source.now in
    let v : Visit = c.args.visit.now in
    let first : List Step = done ++ (here volume c.args.of_inodes v done ∷ []) in
    subst (λ (d : List Step). Tracks volume before d c.loop-slot.state c.loop-slot.lines)
    (going_block volume c.args.of_inodes v done c.as_slice-visits.result.now c.if-visit-eq0.false (c.loop-slot.invariant.goes fits of ahead before done tracks) (sym c.ends.ensures ∙ c.if-ends.false))
    (subst (λ (vs : List Visit). Tracks volume before (along volume c.args.of_inodes v done vs first) c.loop-slot.state c.loop-slot.lines)
    (take_all c.loop-slot.slot c.as_slice-visits.result.now (omega (arith, c.loop-slot-test.false))) (c.loop-slot.invariant.tracks fits of ahead before done tracks))

pub gather-requires-clause-visits : goal.gather-requires-clause-visits
gather-requires-clause-visits g t c =
    let v : Visit = c.args.visit.now in
    let l : Limits = c.args.state.now.limits in
    let under : All (λ (w : Visit). IsUnder v w × IsInRange l w) c.in-Some.children.items =
    subst (λ (o : Option (Vec Visit Global)). IfSome o (λ (all : Vec Visit Global). All (λ (w : Visit). IsUnder v w × IsInRange l w) all.items)) c.in-Some.is c.in_ok-children.ensures.under in
    all_visits v l c.take_step.new.state.limits c.as_slice-visits.result.now c.in_ok-children.ensures.limits
    (subst (All (λ (w : Visit). IsUnder v w × IsInRange l w)) (sym c.as_slice-visits.ensures.value) under)

pub loop-slot-init : goal.loop-slot-init
loop-slot-init g t c =
    let volume : Ground = g.S.Source.volume c.args.source.now in
    let v : Visit = c.args.visit.now in
    let l : Limits = c.args.state.now.limits in
    let under : All (λ (w : Visit). IsUnder v w × IsInRange l w) c.in-Some.children.items =
    subst (λ (o : Option (Vec Visit Global)). IfSome o (λ (all : Vec Visit Global). All (λ (w : Visit). IsUnder v w × IsInRange l w) all.items)) c.in-Some.is c.in_ok-children.ensures.under in
    record {
      limits = c.in_ok-children.ensures.limits;
      ready = c.in_ok-children.ensures.ready;
      reads = g.met.S.Source.reads_on c.args.source.now c.take_step.new.source c.gather.new.source c.in_ok-children.ensures.reads c.in_ok-gathered.ensures.reads;
      cause = c.in_ok-gathered.ensures.cause ∙ c.in_ok-children.ensures.cause;
      under = subst (All (λ (w : Visit). IsUnder v w × IsInRange l w)) (sym c.as_slice-visits.ensures.value) under;
      goes = λ fits of ahead before done tracks.
          subst (λ (vs : List Visit). StepsTo (here volume c.args.of_inodes v done) (Some vs)) (sym c.as_slice-visits.ensures.value)
          (subst (λ (o : Option (Vec Visit Global)). StepsTo (here volume c.args.of_inodes v done) (option_map (λ (all : Vec Visit Global). all.items) o)) c.in-Some.is
          (c.in_ok-children.ensures.steps_to fits of ahead before done tracks));
      tracks = λ fits of ahead before done tracks. c.in_ok-children.ensures.tracks fits of ahead before done tracks;
    }

pub at-next-requires-clause-slot : goal.at-next-requires-clause-slot
at-next-requires-clause-slot g t c = let long = c.in_ok-gathered.ensures.gathered.kinds.long in omega (arith, long, c.loop-slot-test.true)

pub at-next-requires-clause-within : goal.at-next-requires-clause-within
at-next-requires-clause-within g t c =
    let low : c.loop-slot.slot < length c.as_slice-visits.result.now = omega (arith, c.loop-slot-test.true) in λ o.
    is_within IsKindOf c.in_ok-gathered.gathered.items.items (get_or c.as_slice-visits.result.now c.loop-slot.slot blank) (get_or c.in_ok-gathered.gathered.slots.items c.loop-slot.slot o)
    (c.in_ok-gathered.ensures.gathered.kinds.each c.loop-slot.slot low blank o)

pub stop_from-requires : goal.stop_from-requires
stop_from-requires g t c κs within =
    let measure = c.decreases in
    let low : c.loop-slot.slot < length c.as_slice-visits.result.now = omega (arith, c.loop-slot-test.true) in
    let child : Visit = get_or c.as_slice-visits.result.now c.loop-slot.slot blank in
    let under : IsUnder c.args.visit.now child × IsInRange c.args.state.now.limits child = c.loop-slot.invariant.under c.loop-slot.slot blank low in
    let lower = falls c.args.of_inodes c.stays-inside.result c.args.visit.now child c.stays-inside.ensures (sym c.ends.ensures ∙ c.if-ends.false) under.0 in (
      omega (arith, measure, lower),
      (
        within,
        (
          under.0.is,
          (
            sym c.leads_on.ensures ∙ c.if-leads_on.true,
            (
              range_stays c.args.state.now.limits c.loop-slot.state.limits child c.loop-slot.invariant.limits under.1,
              (c.loop-slot.invariant.ready, c.at-next.ensures.judged child (λ o. c.in_ok-gathered.ensures.gathered.kinds.each c.loop-slot.slot low blank o)),
            ),
          ),
        ),
      ),
    )

pub loop-slot-preserved : goal.loop-slot-preserved
loop-slot-preserved g t c =
    let volume : Ground = g.S.Source.volume c.args.source.now in
    let v : Visit = c.args.visit.now in
    let visits = c.as_slice-visits.result.now in
    let slot = c.loop-slot.slot in
    let child : Visit = get_or visits slot blank in
    let low : slot < length visits = omega (arith, c.loop-slot-test.true) in
    let near : g.S.Source.volume c.loop-slot.source ≡ volume = g.met.S.Source.same_volume c.args.source.now c.loop-slot.source c.loop-slot.invariant.reads in
    record {
      limits = elim c.if-leads_on.branch [
        | then-leads_on+in_ok-stop_from w ↦ ap (λ (s : State). s.limits) w.state-is ∙ w.in_ok-stop_from.ensures.limits ∙ c.loop-slot.invariant.limits
        | else-leads_on+in_ok-step_to_data w ↦ ap (λ (s : State). s.limits) w.state-is ∙ w.in_ok-step_to_data.ensures.limits ∙ c.loop-slot.invariant.limits
      ];
      ready = elim c.if-leads_on.branch [
        | then-leads_on+in_ok-stop_from w ↦ subst IsReady (sym w.state-is) w.in_ok-stop_from.ensures.ready
        | else-leads_on+in_ok-step_to_data w ↦ subst IsReady (sym w.state-is) w.in_ok-step_to_data.ensures.ready
      ];
      reads = elim c.if-leads_on.branch [
        | then-leads_on+in_ok-stop_from w ↦
            subst (g.S.Source.reads c.args.source.now) (sym w.source-is)
            (g.met.S.Source.reads_on c.args.source.now c.loop-slot.source w.stop_from.new.source c.loop-slot.invariant.reads w.in_ok-stop_from.ensures.reads)
        | else-leads_on+in_ok-step_to_data w ↦ subst (g.S.Source.reads c.args.source.now) (sym w.source-is) c.loop-slot.invariant.reads
      ];
      cause = elim c.if-leads_on.branch [
        | then-leads_on+in_ok-stop_from w ↦ ap g.S.Source.faults w.source-is ∙ w.in_ok-stop_from.ensures.cause ∙ c.loop-slot.invariant.cause
        | else-leads_on+in_ok-step_to_data w ↦ ap g.S.Source.faults w.source-is ∙ c.loop-slot.invariant.cause
      ];
      under = c.loop-slot.invariant.under;
      goes = c.loop-slot.invariant.goes;
      tracks = λ fits of ahead before done tracks.
          let from : List Step = done ++ (here volume c.args.of_inodes v done ∷ []) in
          let after : List Step = along volume c.args.of_inodes v done (take (slot + 1) visits) from in
          let more = λ (new : State) (left : Lines). tracks_more volume c.args.of_inodes v done (g.S.Source.volume c.loop-slot.source) c.stays-inside.result before c.loop-slot.state new c.loop-slot.lines left
          visits slot blank from near c.stays-inside.ensures low in
          let fits_now = g.met.S.Source.fits_on c.args.source.now c.loop-slot.source c.loop-slot.invariant.reads fits in
          let of_now = limits_stay volume (g.S.Source.volume c.loop-slot.source) c.args.state.now.limits c.loop-slot.state.limits near c.loop-slot.invariant.limits of in
          let so_far = c.loop-slot.invariant.tracks fits of ahead before done tracks in
          elim c.if-leads_on.branch [
            | then-leads_on+in_ok-stop_from w ↦
                let step : g.S.Source.volume c.take_step.new.source ≡ volume = g.met.S.Source.same_volume c.args.source.now c.take_step.new.source c.in_ok-children.ensures.reads in
                let blocks : AreBlocks (g.S.Source.volume c.loop-slot.source) visits c.in_ok-gathered.gathered =
                subst (λ (k : Ground). AreBlocks k visits c.in_ok-gathered.gathered) (step ∙ sym near)
                (c.in_ok-gathered.ensures.blocks (g.met.S.Source.fits_on c.args.source.now c.take_step.new.source c.in_ok-children.ensures.reads fits)) in
                tracks_as volume before after w.stop_from.new.state c.if-leads_on.state w.stop_from.new.lines c.if-leads_on.lines w.state-is w.lines-is
                (more w.stop_from.new.state w.stop_from.new.lines
                (w.in_ok-stop_from.ensures.tracks fits_now of_now (w.at-next.ensures.block (g.S.Source.volume c.loop-slot.source) child (λ o. blocks.each slot low blank o)) before _) so_far)
            | else-leads_on+in_ok-step_to_data w ↦
                tracks_as volume before after w.step_to_data.new.state c.if-leads_on.state w.step_to_data.new.lines c.if-leads_on.lines w.state-is w.lines-is
                (more w.step_to_data.new.state w.step_to_data.new.lines (w.in_ok-step_to_data.ensures.tracks fits_now of_now c.stays-inside.result before _) so_far)
          ];
    }

pub step_to_data-requires-clause-range : goal.step_to_data-requires-clause-range
step_to_data-requires-clause-range g t c =
    let low : c.loop-slot.slot < length c.as_slice-visits.result.now = omega (arith, c.loop-slot-test.true) in
    let child : Visit = get_or c.as_slice-visits.result.now c.loop-slot.slot blank in
    range_stays c.args.state.now.limits c.loop-slot.state.limits child c.loop-slot.invariant.limits (c.loop-slot.invariant.under c.loop-slot.slot blank low).1
