use Rattle.std.proofs.Common.{◌≡◌, rules, refl, sym, ap, subst, arith}
use Rattle.std.specs.Prelude.{IsSome}
use Rattle.fv_aggregate.specs.Answers.{answer}
use Rattle.fv_aggregate.specs.declared.session.Session.{Session}
use Rattle.fv_aggregate.proofs.Answered.{fails}
use Rattle.fv_aggregate.proofs.Numbered.{make_numbered, make_unnumbered}
use Rattle.fv_aggregate.proofs.PointFirst.{aimed_read}
use Rattle.fv_aggregate.specs.Commands.{file_room}
use Rattle.fv_aggregate.proofs.MadeRoom.{failed_roomy, roomy_numbered}
use Rattle.fv_aggregate.proofs.Unmade.{unmade_fails, unmade_then}
use Rattle.fv_aggregate.proofs.session.Session.change_at.Goals as goal

pub returns-in_err-read_numbers-clause-makes : goal.returns-in_err-read_numbers-clause-makes
returns-in_err-read_numbers-clause-makes g c =
    make_unnumbered c.args.slot (g.D.Disk.shown c.args.disk.now) c.args.self.now c.args.command.now (g.D.Disk.shown c.read_numbers.new.disk) c.read_numbers.new.self c.in_err-read_numbers.field-0.0
    c.in_err-read_numbers.ensures.numbered (answer c.args.into.now c.from_residual.result) (fails c.args.into.now c.from_residual.result c.in_err-read_numbers.field-0.0 (search rules))

pub decide-requires-clause-aimed : goal.decide-requires-clause-aimed
decide-requires-clause-aimed g c =
    aimed_read (g.D.Disk.shown c.args.disk.now) c.args.self.now (g.D.Disk.shown c.read_numbers.new.disk) c.read_numbers.new.self c.args.slot c.args.command.now c.in_ok-read_numbers.ensures.numbered.read c.requires.aimed

pub returns-clause-makes : goal.returns-clause-makes
returns-clause-makes g c =
    let d = g.D.Disk.shown c.args.disk.now in let e = g.D.Disk.shown c.read_numbers.new.disk in let of = c.requires.aimed in
    make_numbered d c.args.self.now c.args.command.now c.requires.fresh c.args.slot (subst IsSome (sym of.there) refl) e c.read_numbers.new.self tt c.in_ok-read_numbers.ensures.numbered
    (g.D.Disk.shown c.decide.new.disk) c.decide.new.self (answer c.decide.new.into c.decide.result) c.decide.ensures.makes

pub returns-in_err-read_numbers-clause-roomy : goal.returns-in_err-read_numbers-clause-roomy
returns-in_err-read_numbers-clause-roomy g c =
    failed_roomy file_room (g.D.Disk.shown c.args.disk.now) c.args.self.now (g.D.Disk.shown c.read_numbers.new.disk) c.in_err-read_numbers.field-0.0 (answer c.args.into.now c.from_residual.result)
    (fails c.args.into.now c.from_residual.result c.in_err-read_numbers.field-0.0 (search rules))

pub returns-clause-roomy : goal.returns-clause-roomy
returns-clause-roomy g c =
    roomy_numbered c.args.slot (g.D.Disk.shown c.args.disk.now) c.args.self.now c.args.command.now (g.D.Disk.shown c.read_numbers.new.disk) c.read_numbers.new.self c.in_ok-read_numbers.ensures.numbered
    file_room (g.D.Disk.shown c.decide.new.disk) (answer c.decide.new.into c.decide.result) c.decide.ensures.roomy

pub returns-in_err-read_numbers-clause-unmade : goal.returns-in_err-read_numbers-clause-unmade
returns-in_err-read_numbers-clause-unmade g c = λ low.
    unmade_fails (g.D.Disk.shown c.args.disk.now) c.args.self.now c.args.slot (g.D.Disk.shown c.read_numbers.new.disk) c.read_numbers.new.self c.in_err-read_numbers.ensures.unmade (answer c.args.into.now c.from_residual.result)

pub returns-clause-unmade : goal.returns-clause-unmade
returns-clause-unmade g c = λ low.
    let same : c.read_numbers.new.self.pending ≡ c.args.self.now.pending = ap (λ (k : Session). k.pending) c.in_ok-read_numbers.ensures.numbered.read.same in
    unmade_then (g.D.Disk.shown c.args.disk.now) c.args.self.now c.args.slot (g.D.Disk.shown c.read_numbers.new.disk) c.read_numbers.new.self (g.D.Disk.shown c.decide.new.disk) c.decide.new.self
    c.in_ok-read_numbers.ensures.unmade (answer c.decide.new.into c.decide.result) (c.decide.ensures.unmade (omega (arith, low, same)))
