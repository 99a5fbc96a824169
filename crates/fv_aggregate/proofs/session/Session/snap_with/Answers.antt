use Rattle.std.proofs.Common.{◌≡◌, ℕ, Option, Some, rules, inr, Err, sym, ap, subst, ◌∙◌, arith}
use Rattle.fv_volume.specs.declared.state.VolumeState.{VolumeState}
use Rattle.fv_aggregate.specs.Answers.{answer}
use Rattle.fv_aggregate.specs.Looking.{HasSnapped}
use Rattle.fv_aggregate.specs.Snapping.{snap_blocks}
use Rattle.fv_aggregate.proofs.Answered.{fails}
use Rattle.fv_aggregate.proofs.Holes.{keeps_limit, passes_limit}
use Rattle.fv_aggregate.specs.Commands.{room_by}
use Rattle.fv_aggregate.specs.Reclaiming.{HasMadeRoom}
use Rattle.fv_aggregate.proofs.MadeRoom.{always, calm_roomy, failed_roomy, room_read, none_roomy}
use Rattle.fv_aggregate.proofs.Rooms.{room_most}
use Rattle.fv_aggregate.proofs.SnapCommands.{aimed_room, snap_low}
use Rattle.fv_aggregate.proofs.SnapLost.{needs_none, room_needs}
use Rattle.fv_aggregate.proofs.SnapRoom.{room_places, snap_roomless, snap_roomy, still_beside, still_granted, still_room_by, still_snap_aimed}
use Rattle.fv_aggregate.proofs.session.Session.snap_with.Goals.{then-granted-eq0-via-then-granted-eq0, then-granted-eq0-via-else-granted-eq0+then-has_room}
use Rattle.fv_aggregate.proofs.session.Session.snap_with.Goals as goal

pub returns-then-granted-eq0-clause-roomy : goal.returns-then-granted-eq0-clause-roomy
returns-then-granted-eq0-clause-roomy g c =
    let s = c.args.self.now in let d = g.D.Disk.shown c.args.disk.now in let room = room_by s.volumes c.args.command.now in
    let exact = c.requires.granted.room ∙ aimed_room s.volumes c.args.slot c.args.command.now c.requires.aimed in
    elim c.then-granted-eq0.branch [
      | then-granted-eq0-via-then-granted-eq0 w ↦ none_roomy room d s (g.D.Disk.shown c.snap_now.new.disk) (answer c.snap_now.new.into c.snap_now.result) (sym exact ∙ w.if-granted-eq0.true)
      | then-granted-eq0-via-else-granted-eq0+then-has_room w ↦ calm_roomy room d s (g.D.Disk.shown c.snap_now.new.disk) (answer c.snap_now.new.into c.snap_now.result)
          (λ past. let low = keeps_limit s.pending c.args.granted.room _ w.has_room.ensures w.if-has_room.true in omega (arith, exact, low, past))
    ]

pub returns-in_err-make_room : goal.returns-in_err-make_room
returns-in_err-make_room g c =
    let room = c.args.granted.room in let aimed = c.requires.aimed in let command = c.args.command.now in
    let d = g.D.Disk.shown c.args.disk.now in let e = g.D.Disk.shown c.make_room.new.disk in let s = c.args.self.now in
    let past = passes_limit s.pending room _ c.has_room.ensures c.if-has_room.false in
    let failed : answer c.args.into.now c.from_residual.result ≡ Err c.in_err-make_room.field-0.0 = fails c.args.into.now c.from_residual.result c.in_err-make_room.field-0.0 (search rules) in
    let made = c.in_err-make_room.ensures in
    let same : room ≡ snap_blocks (Some aimed.state) command = c.requires.granted.room ∙ ap (λ (o : Option VolumeState). snap_blocks o command) aimed.there in
    record {
      snapped = subst (HasSnapped d c.args.disk.now s command e c.make_room.new.disk c.make_room.new.self) (sym failed)
          (snap_roomless d c.args.disk.now s command room past c.if-granted-eq0.false (c.requires.granted.room ∙ aimed_room s.volumes c.args.slot command aimed)
          (room_places aimed.state aimed.state.name command aimed.snaps (λ none. c.if-granted-eq0.false (same ∙ none))) e c.make_room.new.disk c.make_room.new.self c.in_err-make_room.field-0.0
          made.runs.goes made.runs.goes_for made.runs.damage made.runs.numbers);
      needs = needs_none s.volumes command _ (room_needs aimed.state aimed.state.name command aimed.snaps (λ none. c.if-granted-eq0.false (same ∙ none)));
      roomy = failed_roomy (room_by s.volumes command) d s e c.in_err-make_room.field-0.0 (answer c.args.into.now c.from_residual.result) failed;
    }

pub snap_now-requires-2 : goal.snap_now-requires-2
snap_now-requires-2 g c =
    let room = c.args.granted.room in
    let s = c.args.self.now in
    let n = c.make_room.new.self in
    let aimed = c.requires.aimed in
    let command = c.args.command.now in
    let made = c.in_ok-make_room.ensures in
    let past = passes_limit s.pending room _ c.has_room.ensures c.if-has_room.false in
    let exact = c.requires.granted.room ∙ aimed_room s.volumes c.args.slot command aimed in
    let most = room_most (g.D.Disk.shown c.args.disk.now) s c.requires.stands command in
    let low = snap_low aimed.state.name command aimed.snaps in
    let few = made.few in
    record {
      fresh = made.runs.goes.done.goes_on;
      stands = made.runs.goes.stands made.runs.goes.done.goes_on;
      aimed = still_snap_aimed s.volumes n.volumes made.cores c.args.slot command aimed;
      others = c.requires.others ∙ sym (still_beside s.volumes n.volumes made.cores c.args.slot);
      most = c.requires.most;
      few = inr (omega (arith, exact, most, low, few));
      granted = still_granted s.volumes n.volumes made.cores c.args.slot s.pool.found.blocks n.pool.found.blocks c.args.others (made.pointed past).blocks command aimed c.args.granted c.requires.granted;
    }

pub returns : goal.returns
returns g c =
    let room = c.args.granted.room in let aimed = c.requires.aimed in let command = c.args.command.now in
    let d = g.D.Disk.shown c.args.disk.now in let e = g.D.Disk.shown c.make_room.new.disk in let s = c.args.self.now in
    let past = passes_limit s.pending room _ c.has_room.ensures c.if-has_room.false in
    let made = c.in_ok-make_room.ensures in
    let did = c.snap_now-2.ensures in
    let same : room ≡ snap_blocks (Some aimed.state) command = c.requires.granted.room ∙ ap (λ (o : Option VolumeState). snap_blocks o command) aimed.there in
    record {
      snapped = snap_roomy d c.args.disk.now s command room past c.if-granted-eq0.false (c.requires.granted.room ∙ aimed_room s.volumes c.args.slot command aimed)
          (room_places aimed.state aimed.state.name command aimed.snaps (λ none. c.if-granted-eq0.false (same ∙ none))) e c.make_room.new.disk c.make_room.new.self c.in_ok-make_room.field-0
          (still_room_by s.volumes c.make_room.new.self.volumes made.cores c.args.slot command aimed) made.runs.goes made.pending made.runs.goes_for (made.pointed past) made.runs.numbers (g.D.Disk.shown c.snap_now-2.new.disk) c.snap_now-2.new.disk c.snap_now-2.new.self (answer c.snap_now-2.new.into c.snap_now-2.result) (record { snapped = did.snapped; only_reads = did.only_reads; placed = did.placed; accepted = did.accepted });
      needs = needs_none s.volumes command _ (room_needs aimed.state aimed.state.name command aimed.snaps (λ none. c.if-granted-eq0.false (same ∙ none)));
      roomy = λ tells last m stands some over.
          let exact = c.requires.granted.room ∙ aimed_room s.volumes c.args.slot command aimed in
          always _ (subst (λ (k : ℕ). HasMadeRoom k s (g.D.Disk.shown c.snap_now-2.new.disk) m) exact (room_read room s e (g.D.Disk.shown c.snap_now-2.new.disk) c.make_room.new.self m did.only_reads (made.runs.goes.stands made.runs.goes.done.goes_on) (made.reclaimed tells last m stands past))) (answer c.snap_now-2.new.into c.snap_now-2.result);
    }
