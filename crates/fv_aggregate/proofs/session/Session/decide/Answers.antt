use Rattle.std.proofs.Common.{◌≡◌, rules, None, Ok, Err, refl, sym, subst, arith, false}
use Rattle.std.specs.Prelude.{IsSome}
use Rattle.fv_model.specs.declared.answers.Reply.{Reply}
use Rattle.fv_aggregate.specs.Answers.{answer}
use Rattle.fv_aggregate.specs.Commands.{AsksTable, file_room}
use Rattle.fv_aggregate.specs.Looking.{HasJudged, Makes}
use Rattle.fv_aggregate.proofs.Answered.{fails}
use Rattle.fv_aggregate.proofs.Changing.{judged_refusal}
use Rattle.fv_aggregate.proofs.Holes.{passes_limit}
use Rattle.fv_aggregate.proofs.PointFirst.{aimed_read, judged_pending, judged_refused, judging_failed, made_after, room_failed, still_aimed}
use Rattle.fv_aggregate.specs.Reclaiming.{MakesRoom}
use Rattle.fv_aggregate.proofs.MadeRoom.{failed_roomy, refused_roomy, roomy_judged}
use Rattle.fv_aggregate.proofs.session.Session.decide.Goals as goal

pub returns-in_err-judge-clause-makes : goal.returns-in_err-judge-clause-makes
returns-in_err-judge-clause-makes g c =
    judging_failed c.args.slot (g.D.Disk.shown c.args.disk.now) c.args.self.now c.args.command.now (g.D.Disk.shown c.judge.new.disk) c.judge.new.self c.in_err-judge.field-0.0 c.in_err-judge.ensures.judged
    (answer c.judge.new.into c.from_residual.result) (fails c.judge.new.into c.from_residual.result c.in_err-judge.field-0.0 (search rules))

pub returns-in-Some-clause-makes : goal.returns-in-Some-clause-makes
returns-in-Some-clause-makes g c =
    let d = g.D.Disk.shown c.args.disk.now in let e = g.D.Disk.shown c.judge.new.disk in
    let is = judged_refusal c.judge.new.into c.in-Some.field-0 (sym c.in-Some.ensures) in
    subst (λ (y : Reply). Makes file_room (AsksTable c.args.slot None false) d c.args.self.now c.args.command.now e c.judge.new.self (Ok y)) (sym is)
    (judged_refused c.args.slot d c.args.self.now c.args.command.now e c.judge.new.self c.in-Some.field-0
    (subst (λ (y : Reply). HasJudged c.args.slot d c.args.self.now c.args.command.now e c.judge.new.self (Ok y)) is c.in_ok-judge.ensures.judged))

pub returns-in_err-make_room-in-None-clause-makes : goal.returns-in_err-make_room-in-None-clause-makes
returns-in_err-make_room-in-None-clause-makes g c =
    let d = g.D.Disk.shown c.args.disk.now in let e = g.D.Disk.shown c.judge.new.disk in let h = g.D.Disk.shown c.make_room.new.disk in
    let s = c.args.self.now in let aimed = c.requires.aimed in
    let past = passes_limit s.pending 16 _ c.has_room.ensures c.if-has_room.false in
    let failed : answer c.judge.new.into c.from_residual-in_err-make_room-in-None.result ≡ Err c.in_err-make_room-in-None.field-0.0 = fails c.judge.new.into c.from_residual-in_err-make_room-in-None.result c.in_err-make_room-in-None.field-0.0 (search rules) in
    subst (Makes file_room (AsksTable c.args.slot None false) d s c.args.command.now h c.make_room.new.self) (sym failed)
    (room_failed d s c.args.command.now past c.requires.fresh c.args.slot (subst IsSome (sym aimed.there) refl) e c.judge.new.self c.judge.new.into c.in_ok-judge.ensures.judged h c.make_room.new.self c.in_err-make_room-in-None.field-0.0
    c.in_err-make_room-in-None.ensures.runs.goes c.in_err-make_room-in-None.ensures.runs.goes_for)

pub carry_out-requires-in-None-clause-aimed : goal.carry_out-requires-in-None-clause-aimed
carry_out-requires-in-None-clause-aimed g c =
    still_aimed c.judge.new.self.volumes c.make_room.new.self.volumes c.args.slot c.args.command.now c.in_ok-make_room-in-None.ensures.cores
    (aimed_read (g.D.Disk.shown c.args.disk.now) c.args.self.now (g.D.Disk.shown c.judge.new.disk) c.judge.new.self c.args.slot c.args.command.now c.in_ok-judge.ensures.judged.read c.requires.aimed)

pub returns-in-None-clause-makes : goal.returns-in-None-clause-makes
returns-in-None-clause-makes g c =
    let d = g.D.Disk.shown c.args.disk.now in let e = g.D.Disk.shown c.judge.new.disk in let h = g.D.Disk.shown c.make_room.new.disk in
    let k = g.D.Disk.shown c.carry_out-in-None.new.disk in let s = c.args.self.now in let aimed = c.requires.aimed in
    let past = passes_limit s.pending 16 _ c.has_room.ensures c.if-has_room.false in
    made_after d s c.args.command.now past c.requires.fresh c.args.slot (subst IsSome (sym aimed.there) refl) e c.judge.new.self c.judge.new.into c.in_ok-judge.ensures.judged h c.make_room.new.self
    aimed.state.name aimed.change (sym c.in-None.ensures) tt c.in_ok-make_room-in-None.ensures.runs.goes c.in_ok-make_room-in-None.ensures.pending c.in_ok-make_room-in-None.ensures.runs.goes_for k c.carry_out-in-None.new.self (c.in_ok-make_room-in-None.ensures.pointed (let same = judged_pending c.args.slot d s c.args.command.now e c.judge.new.self c.judge.new.into c.in_ok-judge.ensures.judged in omega (arith, past, same)))
    (answer c.carry_out-in-None.new.into c.carry_out-in-None.result) c.carry_out-in-None.ensures.damage c.carry_out-in-None.ensures.makes

pub returns-in_err-judge-clause-roomy : goal.returns-in_err-judge-clause-roomy
returns-in_err-judge-clause-roomy g c =
    failed_roomy file_room (g.D.Disk.shown c.args.disk.now) c.args.self.now (g.D.Disk.shown c.judge.new.disk) c.in_err-judge.field-0.0 (answer c.judge.new.into c.from_residual.result)
    (fails c.judge.new.into c.from_residual.result c.in_err-judge.field-0.0 (search rules))

pub returns-in-Some-clause-roomy : goal.returns-in-Some-clause-roomy
returns-in-Some-clause-roomy g c =
    let d = g.D.Disk.shown c.args.disk.now in let e = g.D.Disk.shown c.judge.new.disk in
    let is = judged_refusal c.judge.new.into c.in-Some.field-0 (sym c.in-Some.ensures) in
    subst (λ (y : Reply). MakesRoom file_room d c.args.self.now e (Ok y)) (sym is) (refused_roomy file_room d c.args.self.now e c.in-Some.field-0)

pub returns-in_err-make_room-in-None-clause-roomy : goal.returns-in_err-make_room-in-None-clause-roomy
returns-in_err-make_room-in-None-clause-roomy g c =
    failed_roomy file_room (g.D.Disk.shown c.args.disk.now) c.args.self.now (g.D.Disk.shown c.make_room.new.disk) c.in_err-make_room-in-None.field-0.0 (answer c.judge.new.into c.from_residual-in_err-make_room-in-None.result)
    (fails c.judge.new.into c.from_residual-in_err-make_room-in-None.result c.in_err-make_room-in-None.field-0.0 (search rules))

pub returns-in-None-clause-roomy : goal.returns-in-None-clause-roomy
returns-in-None-clause-roomy g c =
    let made = c.in_ok-make_room-in-None.ensures in
    roomy_judged c.args.slot (g.D.Disk.shown c.args.disk.now) c.args.self.now c.args.command.now (g.D.Disk.shown c.judge.new.disk) c.judge.new.self c.judge.new.into c.in_ok-judge.ensures.judged
    file_room (g.D.Disk.shown c.make_room.new.disk) c.make_room.new.self (made.runs.goes.stands made.runs.goes.done.goes_on) made.reclaimed
    (g.D.Disk.shown c.carry_out-in-None.new.disk) c.carry_out-in-None.ensures.reads (answer c.carry_out-in-None.new.into c.carry_out-in-None.result)

pub returns-in_err-judge-clause-unmade : goal.returns-in_err-judge-clause-unmade
returns-in_err-judge-clause-unmade g c = λ low. let past = passes_limit c.args.self.now.pending 16 _ c.has_room.ensures c.if-has_room.false in absurd (omega (arith, past, low))

pub returns-in-Some-clause-unmade : goal.returns-in-Some-clause-unmade
returns-in-Some-clause-unmade g c = λ low. let past = passes_limit c.args.self.now.pending 16 _ c.has_room.ensures c.if-has_room.false in absurd (omega (arith, past, low))

pub returns-in_err-make_room-in-None-clause-unmade : goal.returns-in_err-make_room-in-None-clause-unmade
returns-in_err-make_room-in-None-clause-unmade g c = λ low. let past = passes_limit c.args.self.now.pending 16 _ c.has_room.ensures c.if-has_room.false in absurd (omega (arith, past, low))

pub returns-in-None-clause-unmade : goal.returns-in-None-clause-unmade
returns-in-None-clause-unmade g c = λ low. let past = passes_limit c.args.self.now.pending 16 _ c.has_room.ensures c.if-has_room.false in absurd (omega (arith, past, low))
