use Rattle.std.proofs.Common.{◌≡◌, ◌≤◌, Err, rules, sym, subst, ap, ◌∙◌, arith}
use Rattle.fv_model.specs.Numbers.{most_changes}
use Rattle.std.specs.Prelude.{IfSome}
use Rattle.fv_model.specs.declared.commands.Command.TheVariants.{Remove}
use Rattle.fv_tables.specs.Told.{Standing}
use Rattle.fv_inode.specs.Files.{Finds, IsFirst}
use Rattle.fv_volume.specs.declared.state.VolumeState.{VolumeState}
use Rattle.fv_pool.specs.Causes.{of_block}
use Rattle.fv_pool.specs.Lending.{lent_for}
use Rattle.fv_volume.specs.OneVolume.{home_in, standing_for}
use Rattle.fv_volume.specs.declared.admitting.Removing.{Removing}
use Rattle.fv_pool.specs.Calls.{CallCause}
use Rattle.fv_volume.specs.Changing.{FitsLedger}
use Rattle.fv_volume.specs.Asking.{TellsActive}
use Rattle.fv_volume.specs.declared.tables.TableAsked.TheVariants.{Active}
use Rattle.fv_volume.proofs.Asked.{first_info}
use Rattle.fv_volume.proofs.RightTables.{active_tells, known_after}
use Rattle.fv_volume.proofs.Calling.{no_refusal, if_err_is}
use Rattle.fv_volume.proofs.Charged.{cause_before, removal_before, refused_before}
use Rattle.fv_pool.proofs.CallCauses.{failed_cause}
use Rattle.fv_volume.proofs.JudgedCut.{rm_counted, rm_missing}
use Rattle.fv_volume.proofs.removing.judge_removal.Goals as goal

pub returns-in_err-info-clause-refused : goal.returns-in_err-info-clause-refused
returns-in_err-info-clause-refused g c = λ is. if_err_is _ (of_block c.in_err-info.field-0.0) c.from_residual.result (search rules) (λ m has. no_refusal (Unit {0}) m _ c.in_err-info.field-0.0)

pub returns-in_err-info-clause-cause : goal.returns-in_err-info-clause-cause
returns-in_err-info-clause-cause g c = failed_cause (TellsActive (g.D.Disk.shown c.args.disk.now) c.args.pool.now c.args.volume.now) (standing_for (g.D.Disk.shown c.args.disk.now) c.args.pool.now c.args.volume.now) (lent_for c.args.pool.now c.args.volume.now.map (g.D.Disk.shown c.args.disk.now) 0 (home_in c.args.volume.now) 0) (g.D.Disk.shown c.find_file.new.disk).faults c.in_err-info.field-0.0 c.from_residual.result (search rules) c.in_err-info.ensures.cause

pub returns-in_default-clause-refused : goal.returns-in_default-clause-refused
returns-in_default-clause-refused g c = λ is m has. rm_missing (g.D.Disk.shown c.args.disk.now) c.args.pool.now c.args.volume.now c.args.file.now (subst (Finds (standing_for (g.D.Disk.shown c.args.disk.now) c.args.pool.now c.args.volume.now).inode c.args.file.now) c.in_default.is (c.in_ok-info.ensures.found (active_tells (g.D.Disk.shown c.args.disk.now) c.args.pool.now c.args.volume.now is))) m has.there

pub returns-clause-more : goal.returns-clause-more
returns-clause-more g c = (let now : c.find_file.new.volume.now ≡ c.args.volume.now.now = ap (λ (z : VolumeState). z.now) c.find_file.ensures.same in omega (arith, now, c.if-volume-ge-MOST_CHANGES.false))

pub returns-then-volume-ge-MOST_CHANGES-clause-refused : goal.returns-then-volume-ge-MOST_CHANGES-clause-refused
returns-then-volume-ge-MOST_CHANGES-clause-refused g c = λ is m has. let all : most_changes ≤ c.args.volume.now.now = (let now : c.find_file.new.volume.now ≡ c.args.volume.now.now = ap (λ (z : VolumeState). z.now) c.find_file.ensures.same in omega (arith, now, c.if-volume-ge-MOST_CHANGES.true)) in rm_counted (g.D.Disk.shown c.args.disk.now) c.args.pool.now c.args.volume.now is c.args.file.now c.in-Some.info (subst (Finds (standing_for (g.D.Disk.shown c.args.disk.now) c.args.pool.now c.args.volume.now).inode c.args.file.now) c.in-Some.is (c.in_ok-info.ensures.found (active_tells (g.D.Disk.shown c.args.disk.now) c.args.pool.now c.args.volume.now is))) all m has.there

pub admit_removal-requires-clause-more : goal.admit_removal-requires-clause-more
admit_removal-requires-clause-more g c = omega (arith, c.if-volume-ge-MOST_CHANGES.false)

pub admit_removal-requires-clause-first : goal.admit_removal-requires-clause-first
admit_removal-requires-clause-first g c = known_after (g.D.Disk.shown c.args.disk.now) (g.D.Disk.shown c.find_file.new.disk) c.args.pool.now c.find_file.new.pool c.find_file.ensures.reads c.args.volume.now Active c.find_file.new.volume c.find_file.ensures.same (λ (s : Standing). IsFirst s.inode c.args.file.now c.in-Some.info) (λ told. (subst (Finds (standing_for (g.D.Disk.shown c.args.disk.now) c.args.pool.now c.args.volume.now).inode c.args.file.now) c.in-Some.is (c.in_ok-info.ensures.found told)))

pub returns-in_err-delta-clause-refused : goal.returns-in_err-delta-clause-refused
returns-in_err-delta-clause-refused g c = λ is. if_err_is _ c.in_err-delta.field-0.0 c.from_residual-in_err-delta.result (search rules) (refused_before (g.D.Disk.shown c.args.disk.now) (g.D.Disk.shown c.find_file.new.disk) c.args.pool.now c.find_file.new.pool c.find_file.ensures.reads c.args.volume.now c.find_file.new.volume c.find_file.ensures.same c.args.others (λ v. Remove v c.args.file.now) c.in_err-delta.field-0.0 c.in_err-delta.ensures.refused is)

pub returns-in_err-delta-clause-cause : goal.returns-in_err-delta-clause-cause
returns-in_err-delta-clause-cause g c = let failed : c.from_residual-in_err-delta.result ≡ Err c.in_err-delta.field-0.0 = search rules in subst (λ r. CallCause {T = Removing} (TellsActive (g.D.Disk.shown c.args.disk.now) c.args.pool.now c.args.volume.now) (standing_for (g.D.Disk.shown c.args.disk.now) c.args.pool.now c.args.volume.now) (lent_for c.args.pool.now c.args.volume.now.map (g.D.Disk.shown c.args.disk.now) 0 (home_in c.args.volume.now) 0) (g.D.Disk.shown c.admit_removal.new.disk).faults r) (sym failed) (cause_before (g.D.Disk.shown c.args.disk.now) (g.D.Disk.shown c.find_file.new.disk) c.args.pool.now c.find_file.new.pool c.find_file.ensures.reads c.args.volume.now c.find_file.new.volume c.find_file.ensures.same c.in_ok-info.ensures.cause (g.D.Disk.shown c.admit_removal.new.disk).faults c.in_err-delta.field-0.0 c.in_err-delta.ensures.cause)

pub returns-clause-accepted : goal.returns-clause-accepted
returns-clause-accepted g c = removal_before (g.D.Disk.shown c.args.disk.now) (g.D.Disk.shown c.find_file.new.disk) c.args.pool.now c.find_file.new.pool c.find_file.ensures.reads c.args.volume.now c.find_file.new.volume c.find_file.ensures.same c.args.others c.args.file.now c.in-Some.info c.in_ok-delta.delta c.in_ok-delta.ensures.accepted

pub returns-clause-fits : goal.returns-clause-fits
returns-clause-fits g c = subst (λ (z : VolumeState). IfSome c.in_ok-delta.delta (FitsLedger z)) c.find_file.ensures.same c.in_ok-delta.ensures.fits

pub returns-clause-cause : goal.returns-clause-cause
returns-clause-cause g c = c.in_ok-delta.ensures.cause ∙ c.in_ok-info.ensures.cause

pub returns-clause-found : goal.returns-clause-found
returns-clause-found g c = λ told. first_info (standing_for (g.D.Disk.shown c.args.disk.now) c.args.pool.now c.args.volume.now).inode c.args.file.now c.in-Some.info (subst (Finds (standing_for (g.D.Disk.shown c.args.disk.now) c.args.pool.now c.args.volume.now).inode c.args.file.now) c.in-Some.is (c.in_ok-info.ensures.found told))
