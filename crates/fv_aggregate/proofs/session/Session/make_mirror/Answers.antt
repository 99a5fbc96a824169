use Rattle.std.proofs.Common.{◌≡◌, ◌≤◌, ◌<◌, ◌+◌, ℕ, Ok, Err, ⊎_elim, rules, sym, ap, subst, arith}
use Rattle.std.proofs.lemmas.Bool.{cases_lt}
use Rattle.std.specs.Prelude.{IsTrue}
use Rattle.fv_model.specs.declared.answers.Reply.{Reply}
use Rattle.fv_model.specs.declared.answers.Reply.TheVariants.{Done}
use Rattle.fv_model.specs.declared.commands.Command.TheVariants.{Mirror}
use Rattle.fv_model.specs.Refusals.{next}
use Rattle.fv_model.specs.Space.{overhead}
use Rattle.fv_aggregate.specs.declared.session.Session.{Session}
use Rattle.fv_aggregate.specs.Answers.{answer}
use Rattle.fv_aggregate.proofs.Answered.{fails}
use Rattle.fv_aggregate.proofs.Applied.{own_room}
use Rattle.fv_aggregate.proofs.Mirrored.{mirror_accepted, mirror_count, mirror_room}
use Rattle.fv_aggregate.proofs.MirroredMade.{can_be_copied, made_stands, still_stands}
use Rattle.fv_aggregate.proofs.MirroredRoom.{room_behind}
use Rattle.fv_aggregate.proofs.MirroredSteps.{mirrored, said, unmirrored, unroomed}
use Rattle.fv_aggregate.proofs.StillAdmitted.{mirrors_still}
use Rattle.fv_mirror.proofs.Made.{can_make}
use Rattle.fv_aggregate.proofs.session.Session.make_mirror.Goals as goal

pub make_room-requires-clause-some : goal.make_room-requires-clause-some
make_room-requires-clause-some g c = let some = own_room c.args.admitted.span in let room = c.room_of-room.ensures in omega (arith, some, room)

-- a point, or none, leaves the aggregate's size
same_blocks : (old mid : Session) (room : ℕ) → (256 < old.pending + room → mid.pool.found.blocks ≡ old.pool.found.blocks) → (old.pending + room ≤ 256 → mid ≡ old) → mid.pool.found.blocks ≡ old.pool.found.blocks
same_blocks old mid room past calm = ⊎_elim past (λ low. ap (λ (s : Session). s.pool.found.blocks) (calm low)) (cases_lt 256 (old.pending + room))

pub add_mirror-requires-clause-admitted : goal.add_mirror-requires-clause-admitted
add_mirror-requires-clause-admitted g c =
    let old = c.args.self.now in let mid = c.make_room.new.self in let made = c.in_ok-make_room.ensures in
    mirrors_still old mid made.cores (same_blocks old mid c.room_of-room.result (λ past. (made.pointed past).blocks) (λ low. (c.make_room.ensures.calm low).1)) c.args.name.now c.args.size c.args.kind c.args.admitted
    (can_make old.volumes old.pool.found.blocks c.args.name.now c.args.size c.args.kind c.args.admitted c.requires.admitted)

pub add_mirror-requires-clause-stands : goal.add_mirror-requires-clause-stands
add_mirror-requires-clause-stands g c = let goes = c.in_ok-make_room.ensures.runs.goes in goes.stands goes.done.goes_on

pub add_mirror-requires-clause-fresh : goal.add_mirror-requires-clause-fresh
add_mirror-requires-clause-fresh g c = c.in_ok-make_room.ensures.runs.goes.done.goes_on

pub returns-in_err-make_room-clause-made : goal.returns-in_err-make_room-clause-made
returns-in_err-make_room-clause-made g c =
    let f = c.in_err-make_room.field-0.0 in
    let a = c.args.admitted in
    said g.D.Disk.shown c.args.disk.now c.args.self.now c.make_room.new.disk c.make_room.new.self c.room_of-room.result (overhead a.span + a.count) a (λ m. next m (Mirror a.source.name a.source.snapshot c.args.name.now c.args.size c.args.kind))
    (answer c.args.into.now c.from_residual.result) (Err f) c.room_of-room.ensures (fails c.args.into.now c.from_residual.result f (search rules))
    (unroomed g.D.Disk.shown c.args.disk.now (g.met.D.Disk.laws c.args.disk.now) c.args.self.now c.requires.fresh c.make_room.new.disk c.make_room.new.self c.room_of-room.result a (λ m. next m (Mirror a.source.name a.source.snapshot c.args.name.now c.args.size c.args.kind))
    c.make_room.ensures.calm f c.in_err-make_room.ensures.runs)

pub returns-in_err-add_mirror-clause-made : goal.returns-in_err-add_mirror-clause-made
returns-in_err-add_mirror-clause-made g c =
    let failed : c.from_residual-in_err-add_mirror.result ≡ Err c.in_err-add_mirror.field-0.0 = search rules in
    let f = c.in_err-add_mirror.field-0.0 in
    let a = c.args.admitted in
    let s = c.args.self.now in
    let n = c.make_room.new.self in
    let made = c.in_ok-make_room.ensures in
    let can = mirrors_still s n made.cores (same_blocks s n c.room_of-room.result (λ past. (made.pointed past).blocks) (λ low. (c.make_room.ensures.calm low).1)) c.args.name.now c.args.size c.args.kind a
    (can_make s.volumes s.pool.found.blocks c.args.name.now c.args.size c.args.kind a c.requires.admitted) in
    said g.D.Disk.shown c.args.disk.now s c.add_mirror.new.disk c.add_mirror.new.self c.room_of-room.result (overhead a.span + a.count) a (λ m. next m (Mirror a.source.name a.source.snapshot c.args.name.now c.args.size c.args.kind))
    (answer c.args.into.now c.from_residual-in_err-add_mirror.result) (Err f) c.room_of-room.ensures (fails c.args.into.now c.from_residual-in_err-add_mirror.result f failed)
    (unmirrored g.D.Disk.shown c.args.disk.now (g.met.D.Disk.laws c.args.disk.now) s c.requires.fresh c.make_room.new.disk n c.room_of-room.result a (λ m. next m (Mirror a.source.name a.source.snapshot c.args.name.now c.args.size c.args.kind))
    c.make_room.ensures.calm made.runs c.make_room.ensures.pending c.add_mirror.new.disk c.add_mirror.new.self c.add_mirror.ensures.leaves f c.in_err-add_mirror.ensures.added
    (λ point m tells last stood there. can_be_copied (g.D.Disk.shown c.make_room.new.disk) n c.args.name.now c.args.size c.args.kind a c.room_of-room.result (g.D.Disk.shown c.add_mirror.new.disk) c.add_mirror.new.self c.add_mirror.ensures.leaves point m there f c.in_err-add_mirror.ensures.added can
    (record { is = mirror_count (g.D.Disk.shown c.args.disk.now) s last m c.requires.long stood c.args.name.now c.args.size c.args.kind a c.requires.admitted }) c.room_of-room.ensures
    (made.room tells last m stood (let most = mirror_room (g.D.Disk.shown c.args.disk.now) s last m c.requires.long stood c.args.name.now c.args.size c.args.kind a c.requires.admitted in let room = c.room_of-room.ensures in omega (arith, most, room))))
    (λ point m tells there alive. let told = subst IsTrue (sym made.runs.goes.ends.tells) tells in
    still_stands (g.D.Disk.shown c.make_room.new.disk) n c.args.name.now c.args.size c.args.kind a c.room_of-room.result (g.D.Disk.shown c.add_mirror.new.disk) c.add_mirror.new.self c.add_mirror.ensures.leaves point m there f c.in_err-add_mirror.ensures.added can
    (g.met.D.Disk.laws c.make_room.new.disk) told alive (c.add_mirror.ensures.settled told alive))
    made.pointed)

pub returns-clause-made : goal.returns-clause-made
returns-clause-made g c =
    let a = c.args.admitted in
    let s = c.args.self.now in
    let n = c.make_room.new.self in
    let made = c.in_ok-make_room.ensures in
    let added = c.in_ok-add_mirror.ensures.added in
    said g.D.Disk.shown c.args.disk.now s c.add_mirror.new.disk c.add_mirror.new.self c.room_of-room.result (overhead a.span + a.count) a (λ m. next m (Mirror a.source.name a.source.snapshot c.args.name.now c.args.size c.args.kind))
    (Ok c.done.new.into) (Ok Done) c.room_of-room.ensures (ap (λ (r : Reply). Ok r) c.done.ensures)
    (mirrored g.D.Disk.shown c.args.disk.now (g.met.D.Disk.laws c.args.disk.now) s c.requires.fresh c.make_room.new.disk n c.room_of-room.result a (λ m. next m (Mirror a.source.name a.source.snapshot c.args.name.now c.args.size c.args.kind))
    c.make_room.ensures.calm made.runs c.make_room.ensures.pending c.add_mirror.new.disk c.add_mirror.new.self c.add_mirror.ensures.leaves c.args.name.now c.args.size c.args.kind added made.pointed
    (λ tells last m stood point there. let told = subst IsTrue (sym made.runs.goes.ends.tells) tells in
    made_stands (g.D.Disk.shown c.make_room.new.disk) n c.args.name.now c.args.size c.args.kind a c.room_of-room.result (g.D.Disk.shown c.add_mirror.new.disk) c.add_mirror.new.self c.add_mirror.ensures.leaves point m there added
    (g.met.D.Disk.laws c.make_room.new.disk) told (record { is = mirror_count (g.D.Disk.shown c.args.disk.now) s last m c.requires.long stood c.args.name.now c.args.size c.args.kind a c.requires.admitted })
    (c.add_mirror.ensures.settled told added.goes_on)
    (made.room tells last m stood (let most = mirror_room (g.D.Disk.shown c.args.disk.now) s last m c.requires.long stood c.args.name.now c.args.size c.args.kind a c.requires.admitted in let room = c.room_of-room.ensures in omega (arith, most, room)))
    (mirror_accepted (g.D.Disk.shown c.args.disk.now) s last m c.requires.long stood c.args.name.now c.args.size c.args.kind a c.requires.admitted))
    (λ tells last m stood past. let told = subst IsTrue (sym made.runs.goes.ends.tells) tells in
    room_behind (g.D.Disk.shown c.make_room.new.disk) n c.args.name.now c.args.size c.args.kind a c.room_of-room.result (g.D.Disk.shown c.add_mirror.new.disk) c.add_mirror.new.self c.add_mirror.ensures.leaves added
    (g.met.D.Disk.laws c.make_room.new.disk) told (c.add_mirror.ensures.settled told added.goes_on) c.room_of-room.result s m (made.reclaimed tells last m stood past)))
