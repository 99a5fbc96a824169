use Rattle.std.proofs.Common.{◌≡◌, ◌≤◌, ◌<◌, ◌+◌, ℕ, rules, sym, subst, arith}
use Rattle.std.specs.Prelude.{IsTrue}
use Rattle.fv_model.specs.declared.commands.Command.TheVariants.{VolCreate}
use Rattle.fv_model.specs.Machines.{capacity}
use Rattle.fv_model.specs.Refusals.{next}
use Rattle.fv_model.specs.Space.{commits, overhead}
use Rattle.fv_aggregate.specs.declared.fault.Fault.TheVariants.{Memory}
use Rattle.fv_aggregate.specs.Answers.{answer}
use Rattle.fv_aggregate.proofs.Answered.{fails}
use Rattle.fv_aggregate.proofs.Applied.{own_room}
use Rattle.fv_aggregate.proofs.Created.{created_becomes, room_for}
use Rattle.fv_aggregate.proofs.MakingSteps.{with_room, without_memory, without_room}
use Rattle.fv_aggregate.proofs.session.Session.make.Goals as goal

pub make_room-requires-clause-some : goal.make_room-requires-clause-some
make_room-requires-clause-some g c =
    let room : c.from-room.result ≡ overhead c.args.admitted.span = search rules in
    subst (λ (k : ℕ). 0 < k) (sym room) (own_room c.args.admitted.span)

pub add-requires-clause-admitted : goal.add-requires-clause-admitted
add-requires-clause-admitted g c = c.in_ok-make_room.ensures.admits c.args.name.now c.args.size c.args.kind c.args.admitted.slot c.args.admitted.span c.requires.admitted

pub returns-in_err-make_room-clause-made : goal.returns-in_err-make_room-clause-made
returns-in_err-make_room-clause-made g c =
    let room : c.from-room.result ≡ overhead c.args.admitted.span = search rules in
    let f = c.in_err-make_room.field-0.0 in
    without_room g.D.Disk.shown c.args.disk.now c.args.self.now c.make_room.new.disk c.make_room.new.self c.from-room.result (λ m. next m (VolCreate c.args.name.now c.args.size c.args.kind)) c.make_room.ensures.calm
    (overhead c.args.admitted.span) (answer c.args.into.now c.from_residual.result) f room (fails c.args.into.now c.from_residual.result f (search rules)) c.in_err-make_room.ensures.runs

pub returns-in_err-add-clause-made : goal.returns-in_err-add-clause-made
returns-in_err-add-clause-made g c =
    let room : c.from-room.result ≡ overhead c.args.admitted.span = search rules in
    without_memory g.D.Disk.shown c.args.disk.now c.args.self.now c.make_room.new.disk c.make_room.new.self c.from-room.result (λ m. next m (VolCreate c.args.name.now c.args.size c.args.kind)) c.make_room.ensures.calm c.in_ok-make_room.ensures.runs
    c.add.new.self (overhead c.args.admitted.span) (answer c.args.into.now c.from_residual-in_err-add.result) room (fails c.args.into.now c.from_residual-in_err-add.result Memory (search rules)) c.in_err-add.ensures.same

pub returns-clause-made : goal.returns-clause-made
returns-clause-made g c =
    let old = g.D.Disk.shown c.args.disk.now in let mid = g.D.Disk.shown c.make_room.new.disk in
    let s = c.args.self.now in let n = c.make_room.new.self in
    let made = c.in_ok-make_room.ensures in let created = c.in_ok-add.ensures.added in
    let room : c.from-room.result ≡ overhead c.args.admitted.span = search rules in
    with_room g.D.Disk.shown c.args.disk.now c.args.self.now c.make_room.new.disk c.make_room.new.self c.from-room.result (λ m. next m (VolCreate c.args.name.now c.args.size c.args.kind)) c.make_room.ensures.calm made.runs
    made.pending made.few made.holding made.reclaimed created.volume c.add.new.self created.added c.in_ok-add.ensures.pending
    (λ tells last m stands.
    let fits : commits m + c.from-room.result ≤ capacity m.blocks = omega (arith, room, room_for old s last m c.requires.long stands c.args.name.now c.args.size c.args.kind c.args.admitted.slot c.args.admitted.span c.requires.admitted) in (
      made.room tells last m stands fits,
      λ point is. created_becomes n c.args.name.now c.args.size c.args.kind c.from-room.result c.add.new.self created mid point m is (subst IsTrue (sym made.runs.goes.ends.tells) tells) (made.runs.goes.stands made.runs.goes.done.goes_on).stands.cache,
    ))
    (overhead c.args.admitted.span) c.done.new.into room c.done.ensures
