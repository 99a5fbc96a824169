use Rattle.std.proofs.Common.{◌≡◌, length, refl, sym, ap, subst}
use Rattle.std.specs.Prelude.{IsNone, Some}
use Rattle.fv_aggregate.specs.Applying.{HasApplied}
use Rattle.fv_model.specs.declared.commands.Command.{Command}
use Rattle.fv_aggregate.specs.Answers.{answer}
use Rattle.fv_aggregate.specs.declared.session.Session.{Session}
use Rattle.fv_model.specs.declared.commands.Command.TheVariants.{VolCreate, CloneCreate}
use Rattle.fv_aggregate.specs.Commands.{changed_by, managed_by, room_by, volume_asked}
use Rattle.fv_aggregate.proofs.Aimed.{fits_over}
use Rattle.fv_aggregate.proofs.Added.{not_refused}
use Rattle.fv_aggregate.proofs.Applied.{cp_asks, cp_built, cp_goes, cp_goes_for, cp_no_files, cp_no_list, cp_no_names, cp_no_snap, cp_no_steps, cp_no_whole, cp_replies, no_files}
use Rattle.fv_aggregate.proofs.Applying.{asks_none, no_step, not_dead, pointed_same, rests_as}
use Rattle.fv_aggregate.specs.Deciding.{makes_volume}
use Rattle.fv_aggregate.proofs.Decided.{undecided}
use Rattle.fv_aggregate.proofs.Keeping.{keeps_but}
use Rattle.fv_aggregate.proofs.LeftByCalls.{left_by_point}
use Rattle.fv_aggregate.proofs.Making.{create_makes, made_applied, making_clone, making_create}
use Rattle.fv_aggregate.proofs.MirrorApplied.{mirror_applied}
use Rattle.fv_aggregate.proofs.MadeRoom.{cp_room, none_roomy}
use Rattle.fv_aggregate.proofs.Ready.{stands_ready}
use Rattle.fv_aggregate.proofs.Serving.{failed_applied}
use Rattle.fv_aggregate.proofs.StepsApplied.{clean_applied, work_applied}
use Rattle.fv_aggregate.proofs.session.Session.apply_into.Goals as goal

pub returns-in-Some : goal.returns-in-Some
returns-in-Some g c =
    failed_applied c.args.command.now (g.D.Disk.shown c.args.disk.now) c.args.disk.now c.args.self.now c.args.steps.now (g.met.D.Disk.laws c.args.disk.now) c.in-Some.faults
    (subst (λ (k : Session). k.failed ≡ Some c.in-Some.faults) c.self.view_is c.in-Some.is)

pub returns-in-VolCreate : goal.returns-in-VolCreate
returns-in-VolCreate g c =
    let s = c.args.self.now in let n = c.create.new.self in let r = answer c.create.new.into c.create.result in let e = c.create.ensures in
    let fresh : IsNone s.failed = subst (λ (k : Session). IsNone k.failed) c.self.view_is (subst IsNone (sym c.in_default.is) refl) in
    subst (λ (k : Command). HasApplied k (g.D.Disk.shown c.args.disk.now) c.args.disk.now s c.args.steps.now (g.D.Disk.shown c.create.new.disk) c.create.new.disk n c.args.steps.now r) (sym c.in-VolCreate.is)
    (made_applied g.D.Disk.shown (VolCreate c.in-VolCreate.volume c.in-VolCreate.size c.in-VolCreate.kind) (making_create c.in-VolCreate.volume c.in-VolCreate.size c.in-VolCreate.kind) c.args.disk.now s c.create.new.disk n r
    (record { fresh = fresh; makes = create_makes g.D.Disk.shown c.in-VolCreate.volume c.in-VolCreate.size c.in-VolCreate.kind c.args.disk.now s c.create.new.disk n r e.made; reply = e.reply; decides = e.decides; refused = e.refused }) c.args.steps.now)

pub returns-in-CloneCreate : goal.returns-in-CloneCreate
returns-in-CloneCreate g c =
    let s = c.args.self.now in let n = c.clone_volume.new.self in let r = answer c.clone_volume.new.into c.clone_volume.result in let e = c.clone_volume.ensures in
    let fresh : IsNone s.failed = subst (λ (k : Session). IsNone k.failed) c.self.view_is (subst IsNone (sym c.in_default.is) refl) in
    subst (λ (k : Command). HasApplied k (g.D.Disk.shown c.args.disk.now) c.args.disk.now s c.args.steps.now (g.D.Disk.shown c.clone_volume.new.disk) c.clone_volume.new.disk n c.args.steps.now r) (sym c.in-CloneCreate.is)
    (made_applied g.D.Disk.shown (CloneCreate c.in-CloneCreate.clone c.in-CloneCreate.parent c.in-CloneCreate.snapshot c.in-CloneCreate.size c.in-CloneCreate.kind) (making_clone c.in-CloneCreate.clone c.in-CloneCreate.parent c.in-CloneCreate.snapshot c.in-CloneCreate.size c.in-CloneCreate.kind) c.args.disk.now s c.clone_volume.new.disk n r
    (record { fresh = fresh; makes = e.made; reply = e.reply; decides = e.decides; refused = e.refused }) c.args.steps.now)

pub clone_volume-requires-clause-stands : goal.clone_volume-requires-clause-stands
clone_volume-requires-clause-stands g c =
    let fresh : IsNone c.args.self.now.failed = subst (λ (s : Session). IsNone s.failed) c.self.view_is (subst IsNone (sym c.in_default.is) refl) in
    stands_ready (g.D.Disk.shown c.args.disk.now) _ _ c.self.view_is c.self.invariant.2 c.requires.stands fresh

pub mirror_volume-requires-clause-stands : goal.mirror_volume-requires-clause-stands
mirror_volume-requires-clause-stands g c =
    let fresh : IsNone c.args.self.now.failed = subst (λ (s : Session). IsNone s.failed) c.self.view_is (subst IsNone (sym c.in_default.is) refl) in
    stands_ready (g.D.Disk.shown c.args.disk.now) _ _ c.self.view_is c.self.invariant.2 c.requires.stands fresh

pub returns-in-Mirror : goal.returns-in-Mirror
returns-in-Mirror g c =
    let s = c.args.self.now in let n = c.mirror_volume.new.self in let r = answer c.mirror_volume.new.into c.mirror_volume.result in
    let fresh : IsNone s.failed = subst (λ (k : Session). IsNone k.failed) c.self.view_is (subst IsNone (sym c.in_default.is) refl) in
    let long = subst (λ (k : Session). length k.volumes ≡ 64) c.self.view_is (c.self.invariant.0 (subst IsNone (sym c.in_default.is) refl)).housed.long in
    subst (λ (k : Command). HasApplied k (g.D.Disk.shown c.args.disk.now) c.args.disk.now s c.args.steps.now (g.D.Disk.shown c.mirror_volume.new.disk) c.mirror_volume.new.disk n c.args.steps.now r) (sym c.in-Mirror.is)
    (mirror_applied g.D.Disk.shown g.met.D.Disk.laws c.args.disk.now s fresh (stands_ready (g.D.Disk.shown c.args.disk.now) _ _ c.self.view_is c.self.invariant.2 c.requires.stands fresh) long c.in-Mirror.volume c.in-Mirror.size c.in-Mirror.kind c.args.steps.now
    c.in-Mirror.source c.in-Mirror.snapshot c.mirror_volume.new.disk n r c.mirror_volume.ensures)

pub clean_volume-requires-clause-stands : goal.clean_volume-requires-clause-stands
clean_volume-requires-clause-stands g c =
    let fresh : IsNone c.args.self.now.failed = subst (λ (s : Session). IsNone s.failed) c.self.view_is (subst IsNone (sym c.in_default.is) refl) in
    stands_ready (g.D.Disk.shown c.args.disk.now) _ _ c.self.view_is c.self.invariant.2 c.requires.stands fresh

pub returns-in-Clean : goal.returns-in-Clean
returns-in-Clean g c =
    let s = c.args.self.now in let n = c.clean_volume.new.self in let r = answer c.clean_volume.new.into c.clean_volume.result in
    let d = g.D.Disk.shown c.args.disk.now in let e = g.D.Disk.shown c.clean_volume.new.disk in
    let fresh : IsNone s.failed = subst (λ (k : Session). IsNone k.failed) c.self.view_is (subst IsNone (sym c.in_default.is) refl) in
    subst (λ (k : Command). HasApplied k d c.args.disk.now s c.args.steps.now e c.clean_volume.new.disk n c.args.steps.now r) (sym c.in-Clean.is)
    (clean_applied d c.args.disk.now s fresh e c.clean_volume.new.disk n r (rests_as g.D.Disk.shown c.args.disk.now c.clean_volume.new.disk) c.args.steps.now c.in-Clean.volume c.clean_volume.ensures)

pub work_steps-requires-clause-stands : goal.work_steps-requires-clause-stands
work_steps-requires-clause-stands g c =
    let fresh : IsNone c.args.self.now.failed = subst (λ (s : Session). IsNone s.failed) c.self.view_is (subst IsNone (sym c.in_default.is) refl) in
    stands_ready (g.D.Disk.shown c.args.disk.now) _ _ c.self.view_is c.self.invariant.2 c.requires.stands fresh

pub returns-in-Work : goal.returns-in-Work
returns-in-Work g c =
    let s = c.args.self.now in let n = c.work_steps.new.self in let r = answer c.work_steps.new.into c.work_steps.result in
    let d = g.D.Disk.shown c.args.disk.now in let e = g.D.Disk.shown c.work_steps.new.disk in
    let fresh : IsNone s.failed = subst (λ (k : Session). IsNone k.failed) c.self.view_is (subst IsNone (sym c.in_default.is) refl) in
    subst (λ (k : Command). HasApplied k d c.args.disk.now s c.args.steps.now e c.work_steps.new.disk n c.args.steps.now r) (sym c.in-Work.is)
    (work_applied d c.args.disk.now s fresh e c.work_steps.new.disk n r (rests_as g.D.Disk.shown c.args.disk.now c.work_steps.new.disk) c.args.steps.now c.in-Work.steps c.work_steps.ensures)

pub returns-in-Cp : goal.returns-in-Cp
returns-in-Cp g c =
    let d = g.D.Disk.shown c.args.disk.now in let e = g.D.Disk.shown c.reclaim.new.disk in let s = c.args.self.now in
    let n = c.reclaim.new.self in let command = c.args.command.now in
    let fresh : IsNone s.failed = subst (λ (k : Session). IsNone k.failed) c.self.view_is (subst IsNone (sym c.in_default.is) refl) in
    record {
      goes = cp_goes command c.in-Cp.is d s e n (answer c.reclaim.new.into c.reclaim.result) c.reclaim.ensures.runs.goes;
      asks = λ none once. cp_asks command c.in-Cp.is d s e n c.reclaim.ensures.runs.asks;
      goes_for = λ tells last m stands. cp_goes_for command c.in-Cp.is d last m e n (answer c.reclaim.new.into c.reclaim.result) (c.reclaim.ensures.runs.goes_for tells last m stands);
      reply = λ tells last m stands. cp_replies command c.in-Cp.is m (answer c.reclaim.new.into c.reclaim.result) c.reclaim.ensures.reply;
      plain = λ plain. record {
        refused = not_refused _ (answer c.reclaim.new.into c.reclaim.result) c.reclaim.ensures.reply;
        calm = λ other. absurd (other c.in-Cp.is);
        idle = λ other. absurd (other c.in-Cp.is);
        map = λ other. absurd (other c.in-Cp.is);
        wanting = λ other. absurd (other c.in-Cp.is);
        damage = λ once. c.reclaim.ensures.runs.damage;
        unbuilt = λ fresh none. cp_built _ command c.in-Cp.is none;
        listed = λ list. cp_no_list _ command c.in-Cp.is list;
        untouched = λ list. cp_no_list _ command c.in-Cp.is list;
        pointed = λ cp. c.reclaim.ensures.points.left;
        unpointed = λ cp. c.reclaim.ensures.points.undone;
        managed = λ fresh name of stays. cp_no_whole _ command c.in-Cp.is name of;
        removed = λ fresh name its. cp_no_whole _ command c.in-Cp.is name (ap managed_by its);
        snapped = λ fresh name of. cp_no_snap _ command c.in-Cp.is name of;
        snapshots = λ fresh name names. cp_no_names _ command c.in-Cp.is name names;
        made = undecided s.volumes s.pool.found.blocks command (ap makes_volume c.in-Cp.is) (answer c.reclaim.new.into c.reclaim.result);
      };
      on_files = λ files. cp_no_files _ command c.in-Cp.is files;
      point = λ tells last m stands cp. c.reclaim.ensures.points.point tells last m stands;
      sides = λ tells last m stands cp. c.reclaim.ensures.points.sides tells last m stands;
      roomy = λ once. none_roomy (room_by s.volumes command) d s e (answer c.reclaim.new.into c.reclaim.result) (cp_room s.volumes command c.in-Cp.is);
      calm = λ other. absurd (other c.in-Cp.is);
      entries = λ other. absurd (other c.in-Cp.is);
      stepped = λ takes. cp_no_steps _ command c.in-Cp.is takes;
      left = λ tells last m stands bare. left_by_point command d s e n (answer c.reclaim.new.into c.reclaim.result) (c.reclaim.ensures.left tells last m stands bare)
          (c.reclaim.ensures.tables tells last m stands bare) c.reclaim.ensures.points.left;
      files = λ tells none once without. c.reclaim.ensures.files tells;
      same = λ tells none once stays places same. pointed_same d s n (answer c.reclaim.new.into c.reclaim.result) c.reclaim.ensures.points.left tells;
      steps = record { other = λ none. refl; known = λ tells last m stands knows. no_step (answer c.reclaim.new.into c.reclaim.result) c.args.steps.now; path = λ tells last m stands name of. asks_none _ command name (no_files command (ap volume_asked c.in-Cp.is) (ap changed_by c.in-Cp.is)) of; dead = λ failed. refl };
      numbers = λ alive. keeps_but _ s.volumes n.volumes (c.reclaim.ensures.runs.numbers alive);
      dead = λ failed. not_dead _ s fresh failed;
    }

pub create-requires-clause-stands : goal.create-requires-clause-stands
create-requires-clause-stands g c =
    let fresh : IsNone c.args.self.now.failed = subst (λ (s : Session). IsNone s.failed) c.self.view_is (subst IsNone (sym c.in_default.is) refl) in
    stands_ready (g.D.Disk.shown c.args.disk.now) _ _ c.self.view_is c.self.invariant.2 c.requires.stands fresh

pub reclaim-requires-clause-stands : goal.reclaim-requires-clause-stands
reclaim-requires-clause-stands g c =
    let fresh : IsNone c.args.self.now.failed = subst (λ (s : Session). IsNone s.failed) c.self.view_is (subst IsNone (sym c.in_default.is) refl) in
    stands_ready (g.D.Disk.shown c.args.disk.now) _ _ c.self.view_is c.self.invariant.2 c.requires.stands fresh

pub manage-requires-clause-stands : goal.manage-requires-clause-stands
manage-requires-clause-stands g c =
    let fresh : IsNone c.args.self.now.failed = subst (λ (s : Session). IsNone s.failed) c.self.view_is (subst IsNone (sym c.in_default.is) refl) in
    stands_ready (g.D.Disk.shown c.args.disk.now) _ _ c.self.view_is c.self.invariant.2 c.requires.stands fresh

pub manage-requires-clause-fits : goal.manage-requires-clause-fits
manage-requires-clause-fits g c =
    let fresh : IsNone c.args.self.now.failed = subst (λ (s : Session). IsNone s.failed) c.self.view_is (subst IsNone (sym c.in_default.is) refl) in
    fits_over _ _ c.self.view_is fresh c.self.invariant.0

pub manage-requires-clause-there : goal.manage-requires-clause-there
manage-requires-clause-there g c =
    let at = c.in_default-command in
    record {
      not_create = at.not-VolCreate;
      not_clone = at.not-CloneCreate;
      not_mirror = at.not-Mirror;
      not_clean = at.not-Clean;
      not_work = at.not-Work;
      not_point = at.not-Cp;
    }

pub returns-in_default-command : goal.returns-in_default-command
returns-in_default-command g c = c.manage.ensures
