use Rattle.std.proofs.Common.{◌≡◌, Ok, rules, refl, sym, ap, subst}
use Rattle.fv_aggregate.specs.Applying.{HasApplied}
use Rattle.fv_model.specs.declared.answers.Reply.{Reply}
use Rattle.fv_model.specs.declared.answers.Reply.TheVariants.{Names}
use Rattle.fv_model.specs.declared.commands.Command.TheVariants.{VolGuarantee, VolResize, VolStat}
use Rattle.fv_aggregate.specs.Answers.{answer}
use Rattle.fv_aggregate.specs.declared.fault.Fault.TheVariants.{Memory}
use Rattle.fv_aggregate.specs.declared.session.Session.{Session}
use Rattle.fv_aggregate.specs.Commands.{changed_by, takes_steps, volume_asked}
use Rattle.fv_aggregate.specs.Telling.{names_from}
use Rattle.fv_aggregate.proofs.Answered.{fails}
use Rattle.fv_aggregate.proofs.Applied.{list_no_point, list_after, list_done, list_fails, list_replies, no_files}
use Rattle.fv_aggregate.proofs.Applying.{booked_each}
use Rattle.fv_aggregate.proofs.MadeRoom.{list_room, snaps_room}
use Rattle.fv_aggregate.proofs.Removed.{removed_applied}
use Rattle.fv_aggregate.proofs.Serving.{own_applied, rests_answers, rests_lacks}
use Rattle.fv_aggregate.proofs.SnapListed.{snaps_after, snaps_done, snaps_fail, snaps_no_point, snaps_replies}
use Rattle.fv_aggregate.proofs.session.Session.manage.Goals as goal

pub returns-in_err-names_of-in-VolList : goal.returns-in_err-names_of-in-VolList
returns-in_err-names_of-in-VolList g c =
    let d = g.D.Disk.shown c.args.disk.now in
    rests_lacks c.args.command.now d c.args.disk.now c.args.self.now c.args.steps.now (g.met.D.Disk.laws c.args.disk.now) c.requires.fresh c.requires.stands (no_files c.args.command.now (ap volume_asked c.in-VolList.is) (ap changed_by c.in-VolList.is)) (ap takes_steps c.in-VolList.is) (list_no_point _ c.args.command.now c.in-VolList.is) (list_room c.args.self.now.volumes c.args.command.now c.in-VolList.is)
    (list_fails c.args.command.now c.in-VolList.is d c.args.disk.now c.args.self.now) (answer c.args.into.now c.from_residual.result) (fails c.args.into.now c.from_residual.result Memory (search rules))

pub returns-in-VolList : goal.returns-in-VolList
returns-in-VolList g c =
    let d = g.D.Disk.shown c.args.disk.now in
    let listed = subst (λ (k : Session). c.in_ok-names_of-in-VolList.field-0 ≡ names_from k.volumes 0 64) c.self.view_is c.in_ok-names_of-in-VolList.ensures in
    subst (λ (z : Reply). HasApplied c.args.command.now d c.args.disk.now c.args.self.now c.args.steps.now d c.args.disk.now c.args.self.now c.args.steps.now (Ok z)) (sym c.list.ensures)
    (rests_answers c.args.command.now d c.args.disk.now c.args.self.now c.args.steps.now (g.met.D.Disk.laws c.args.disk.now) (Names c.in_ok-names_of-in-VolList.field-0) c.requires.fresh c.requires.stands (no_files c.args.command.now (ap volume_asked c.in-VolList.is) (ap changed_by c.in-VolList.is)) (ap takes_steps c.in-VolList.is) (list_no_point _ c.args.command.now c.in-VolList.is) (list_room c.args.self.now.volumes c.args.command.now c.in-VolList.is)
    (λ m. list_after c.args.command.now m c.in-VolList.is) (λ tells last m stands. list_replies c.args.command.now c.in-VolList.is d c.args.self.now last m stands c.in_ok-names_of-in-VolList.field-0 listed)
    (list_done c.args.command.now c.in-VolList.is d c.args.disk.now c.args.self.now c.in_ok-names_of-in-VolList.field-0 listed))

pub returns-in_err-snapshots-in-SnapList : goal.returns-in_err-snapshots-in-SnapList
returns-in_err-snapshots-in-SnapList g c =
    let d = g.D.Disk.shown c.args.disk.now in
    rests_lacks c.args.command.now d c.args.disk.now c.args.self.now c.args.steps.now (g.met.D.Disk.laws c.args.disk.now) c.requires.fresh c.requires.stands (no_files c.args.command.now (ap volume_asked c.in-SnapList.is) (ap changed_by c.in-SnapList.is)) (ap takes_steps c.in-SnapList.is) (snaps_no_point c.args.command.now c.in-SnapList.volume c.in-SnapList.is _) (snaps_room c.args.self.now.volumes c.args.command.now c.in-SnapList.volume c.in-SnapList.is)
    (snaps_fail c.args.command.now c.in-SnapList.volume c.in-SnapList.is d c.args.disk.now c.args.self.now) (answer c.snapshots.new.into c.from_residual-in_err-snapshots-in-SnapList.result) (fails c.snapshots.new.into c.from_residual-in_err-snapshots-in-SnapList.result Memory (search rules))

pub returns-in-SnapList : goal.returns-in-SnapList
returns-in-SnapList g c =
    let d = g.D.Disk.shown c.args.disk.now in
    let reply = c.snapshots.new.into in
    let long = c.requires.fits.housed.long in
    rests_answers c.args.command.now d c.args.disk.now c.args.self.now c.args.steps.now (g.met.D.Disk.laws c.args.disk.now) reply c.requires.fresh c.requires.stands (no_files c.args.command.now (ap volume_asked c.in-SnapList.is) (ap changed_by c.in-SnapList.is)) (ap takes_steps c.in-SnapList.is) (snaps_no_point c.args.command.now c.in-SnapList.volume c.in-SnapList.is _) (snaps_room c.args.self.now.volumes c.args.command.now c.in-SnapList.volume c.in-SnapList.is)
    (snaps_after c.args.command.now c.in-SnapList.volume c.in-SnapList.is) (λ tells last m stands. snaps_replies c.args.command.now c.in-SnapList.volume c.in-SnapList.is d c.args.self.now long last m stands reply c.in_ok-snapshots-in-SnapList.ensures)
    (snaps_done c.args.command.now c.in-SnapList.volume c.in-SnapList.is d c.args.disk.now c.args.self.now reply c.in_ok-snapshots-in-SnapList.ensures)

pub returns-in-VolDestroy : goal.returns-in-VolDestroy
returns-in-VolDestroy g c =
    removed_applied c.in-VolDestroy.volume c.args.command.now c.in-VolDestroy.is (g.D.Disk.shown c.args.disk.now) (g.D.Disk.shown c.destroy.new.disk) (g.met.D.Disk.laws c.args.disk.now) c.args.disk.now c.destroy.new.disk c.args.self.now
    c.requires.fits c.requires.fresh c.requires.stands c.args.steps.now c.destroy.new.self _ c.destroy.ensures

pub returns-in-VolResize : goal.returns-in-VolResize
returns-in-VolResize g c =
    own_applied (VolResize c.in-VolResize.volume c.in-VolResize.size) c.args.command.now c.in-VolResize.is (g.D.Disk.shown c.args.disk.now) (g.met.D.Disk.laws c.args.disk.now) c.args.disk.now c.args.self.now
    c.requires.fits c.requires.fresh c.requires.stands c.args.steps.now c.resize.new.self c.resize.new.into c.resize.ensures refl refl refl refl refl

pub returns-in-VolGuarantee : goal.returns-in-VolGuarantee
returns-in-VolGuarantee g c =
    own_applied (VolGuarantee c.in-VolGuarantee.volume c.in-VolGuarantee.kind) c.args.command.now c.in-VolGuarantee.is (g.D.Disk.shown c.args.disk.now) (g.met.D.Disk.laws c.args.disk.now) c.args.disk.now c.args.self.now
    c.requires.fits c.requires.fresh c.requires.stands c.args.steps.now c.guarantee.new.self c.guarantee.new.into c.guarantee.ensures refl refl refl refl refl

pub returns-in-VolStat : goal.returns-in-VolStat
returns-in-VolStat g c =
    own_applied (VolStat c.in-VolStat.volume) c.args.command.now c.in-VolStat.is (g.D.Disk.shown c.args.disk.now) (g.met.D.Disk.laws c.args.disk.now) c.args.disk.now c.args.self.now
    c.requires.fits c.requires.fresh c.requires.stands c.args.steps.now c.args.self.now c.stat.new.into c.stat.ensures refl refl refl refl refl

pub resize-requires-clause-booked : goal.resize-requires-clause-booked
resize-requires-clause-booked g c =
    booked_each (g.D.Disk.shown c.args.disk.now) c.args.self.now c.requires.stands

pub guarantee-requires-clause-booked : goal.guarantee-requires-clause-booked
guarantee-requires-clause-booked g c =
    booked_each (g.D.Disk.shown c.args.disk.now) c.args.self.now c.requires.stands

pub serve-requires-clause-served : goal.serve-requires-clause-served
serve-requires-clause-served g c =
    let at = c.in_default in
    record {
      there = c.requires.there;
      not_destroy = at.not-VolDestroy;
      not_resize = at.not-VolResize;
      not_guarantee = at.not-VolGuarantee;
      not_list = at.not-VolList;
      not_stat = at.not-VolStat;
      not_names = at.not-SnapList;
    }

pub returns-in_default : goal.returns-in_default
returns-in_default g c = c.serve.ensures
