use Rattle.std.proofs.Common.{◌≡◌, Bool, Err, Result, rules, sym, subst}
use Rattle.fv_aggregate.specs.declared.fault.Fault.{Fault}
use Rattle.fv_aggregate.specs.Working.{WorksOnce}
use Rattle.fv_aggregate.proofs.WorkedCalls.{backs_unroomed}
use Rattle.fv_aggregate.proofs.WorkedSince.{left_unpointed, room_made, still_reads, unplaced_work, unworked, worked_once}
use Rattle.fv_aggregate.proofs.session.Session.work_step.Goals as goal

pub returns-in_err-make_room : goal.returns-in_err-make_room
returns-in_err-make_room g c =
    let d = g.D.Disk.shown c.args.disk.now in let e = g.D.Disk.shown c.make_room.new.disk in
    let s = c.args.self.now in let n = c.make_room.new.self in
    let f = c.in_err-make_room.field-0.0 in
    let failed : c.from_residual.result ≡ Err f = search rules in
    let made = c.in_err-make_room.ensures in
    subst (λ (k : Result Bool Fault). WorksOnce d s e n k) (sym failed)
    (unworked d s e n f (backs_unroomed d s c.requires.fresh e n f made.pending made.runs)
    (λ none still. left_unpointed d s e n (made.undone still) none)
    (λ within. still_reads g.D.Disk.shown c.args.disk.now c.make_room.new.disk (made.calm within).0))

pub returns-in_err-place_all : goal.returns-in_err-place_all
returns-in_err-place_all g c =
    let s = c.args.self.now in let n = c.make_room.new.self in let o = c.place_all.new.self in
    let f = c.in_err-place_all.field-0.0 in
    let failed : c.from_residual-in_err-place_all.result ≡ Err f = search rules in
    let did = c.in_ok-make_room.ensures in
    let made = room_made g.D.Disk.shown c.args.disk.now s c.make_room.new.disk n tt c.requires.fresh did.pending did.runs did.left did.files did.cores did.calm did.pointed did.reclaimed did.shown in
    subst (λ (k : Result Bool Fault). WorksOnce (g.D.Disk.shown c.args.disk.now) s (g.D.Disk.shown c.place_all.new.disk) o k) (sym failed)
    (unplaced_work g.D.Disk.shown c.args.disk.now c.make_room.new.disk c.place_all.new.disk s n o f made c.in_err-place_all.ensures)

pub returns : goal.returns
returns g c =
    let s = c.args.self.now in let n = c.make_room.new.self in let o = c.place_all.new.self in
    let did = c.in_ok-make_room.ensures in
    let made = room_made g.D.Disk.shown c.args.disk.now s c.make_room.new.disk n tt c.requires.fresh did.pending did.runs did.left did.files did.cores did.calm did.pointed did.reclaimed did.shown in
    worked_once g.D.Disk.shown c.args.disk.now c.make_room.new.disk c.place_all.new.disk s n o made c.in_ok-place_all.ensures
    (g.met.D.Disk.laws c.make_room.new.disk) c.seek_step.new.disk c.seek_step.new.self c.seek_step.result c.seek_step.ensures
