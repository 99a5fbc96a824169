use Rattle.std.proofs.Common.{◌≡◌, ◌≤◌, ◌<◌, ◌+◌, ℕ, ⊎_elim, rules, sym, ap, subst, arith}
use Rattle.std.proofs.lemmas.Bool.{cases_lt}
use Rattle.fv_model.specs.declared.commands.Command.TheVariants.{CloneCreate}
use Rattle.fv_model.specs.Machines.{capacity}
use Rattle.fv_model.specs.Refusals.{next}
use Rattle.fv_model.specs.Space.{commits, overhead}
use Rattle.fv_aggregate.specs.declared.fault.Fault.TheVariants.{Memory}
use Rattle.fv_aggregate.specs.declared.session.Session.{Session}
use Rattle.fv_aggregate.specs.Answers.{answer}
use Rattle.fv_aggregate.proofs.Answered.{fails}
use Rattle.fv_aggregate.proofs.Applied.{own_room}
use Rattle.fv_aggregate.proofs.Cloned.{clone_accepted, clone_room, cloned_becomes, span_for}
use Rattle.fv_aggregate.proofs.MakingSteps.{with_room, without_memory, without_room}
use Rattle.fv_aggregate.proofs.StillAdmitted.{makes_still}
use Rattle.fv_clone.proofs.Asked.{can_make}
use Rattle.fv_aggregate.proofs.session.Session.make_clone.Goals as goal

pub make_room-requires-clause-some : goal.make_room-requires-clause-some
make_room-requires-clause-some g c =
    let room : c.from-room.result ≡ overhead c.args.admitted.span = search rules in
    subst (λ (k : ℕ). 0 < k) (sym room) (own_room c.args.admitted.span)

pub add_clone-requires-clause-admitted : goal.add_clone-requires-clause-admitted
add_clone-requires-clause-admitted g c =
    let old = c.args.self.now in let mid = c.make_room.new.self in
    let room : c.from-room.result ≡ overhead c.args.admitted.span = search rules in
    let blocks : mid.pool.found.blocks ≡ old.pool.found.blocks = ⊎_elim
    (λ (past : 256 < old.pending + c.from-room.result). (c.in_ok-make_room.ensures.pointed past).blocks)
    (λ (low : old.pending + c.from-room.result ≤ 256). ap (λ (s : Session). s.pool.found.blocks) (c.in_ok-make_room.ensures.calm low).1)
    (cases_lt 256 (old.pending + c.from-room.result)) in
    makes_still old mid c.in_ok-make_room.ensures.cores blocks c.args.name.now c.args.size c.args.kind c.args.admitted
    (can_make old.volumes old.pool.found.blocks c.args.name.now c.args.size c.args.kind c.args.admitted c.requires.admitted)

pub returns-in_err-make_room-clause-made : goal.returns-in_err-make_room-clause-made
returns-in_err-make_room-clause-made g c =
    let room : c.from-room.result ≡ overhead c.args.admitted.span = search rules in
    let f = c.in_err-make_room.field-0.0 in
    without_room g.D.Disk.shown c.args.disk.now c.args.self.now c.make_room.new.disk c.make_room.new.self c.from-room.result (λ m. next m (CloneCreate c.args.name.now c.args.admitted.base.name c.args.admitted.base.snapshot c.args.size c.args.kind)) c.make_room.ensures.calm
    (overhead c.args.admitted.span) (answer c.args.into.now c.from_residual.result) f room (fails c.args.into.now c.from_residual.result f (search rules)) c.in_err-make_room.ensures.runs

pub returns-in_err-add_clone-clause-made : goal.returns-in_err-add_clone-clause-made
returns-in_err-add_clone-clause-made g c =
    let room : c.from-room.result ≡ overhead c.args.admitted.span = search rules in
    without_memory g.D.Disk.shown c.args.disk.now c.args.self.now c.make_room.new.disk c.make_room.new.self c.from-room.result (λ m. next m (CloneCreate c.args.name.now c.args.admitted.base.name c.args.admitted.base.snapshot c.args.size c.args.kind)) c.make_room.ensures.calm c.in_ok-make_room.ensures.runs
    c.add_clone.new.self (overhead c.args.admitted.span) (answer c.args.into.now c.from_residual-in_err-add_clone.result) room (fails c.args.into.now c.from_residual-in_err-add_clone.result Memory (search rules)) c.in_err-add_clone.ensures.same

pub returns-clause-made : goal.returns-clause-made
returns-clause-made g c =
    let old = g.D.Disk.shown c.args.disk.now in let mid = g.D.Disk.shown c.make_room.new.disk in
    let s = c.args.self.now in let n = c.make_room.new.self in
    let made = c.in_ok-make_room.ensures in let created = c.in_ok-add_clone.ensures.added in
    let room : c.from-room.result ≡ overhead c.args.admitted.span = search rules in
    with_room g.D.Disk.shown c.args.disk.now c.args.self.now c.make_room.new.disk c.make_room.new.self c.from-room.result (λ m. next m (CloneCreate c.args.name.now c.args.admitted.base.name c.args.admitted.base.snapshot c.args.size c.args.kind)) c.make_room.ensures.calm made.runs
    made.pending made.few made.holding made.reclaimed created.cloned.state c.add_clone.new.self created.added c.in_ok-add_clone.ensures.pending
    (λ tells last m stands.
    let fits : commits m + c.from-room.result ≤ capacity m.blocks = omega (arith, room, clone_room old s last m c.requires.long stands c.args.name.now c.args.size c.args.kind c.args.admitted c.requires.admitted) in (
      made.room tells last m stands fits,
      λ point is. cloned_becomes n c.args.name.now c.args.size c.args.kind c.args.admitted c.from-room.result c.add_clone.new.self created mid point m is
          (span_for old s last m c.requires.long stands c.args.name.now c.args.size c.args.kind c.args.admitted c.requires.admitted) (clone_accepted old s last m c.requires.long stands c.args.name.now c.args.size c.args.kind c.args.admitted c.requires.admitted),
    ))
    (overhead c.args.admitted.span) c.done.new.into room c.done.ensures
