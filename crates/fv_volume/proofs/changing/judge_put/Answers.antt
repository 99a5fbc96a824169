use Rattle.std.proofs.Common.{◌≡◌, ◌<◌, ◌≤◌, ◌+◌, Ok, Err, true, false, rules, subst, ap, ◌∙◌, arith}
use Rattle.fv_model.specs.Numbers.{is_index, most_changes}
use Rattle.fv_tables.specs.Told.{Standing}
use Rattle.fv_inode.specs.Files.{Finds}
use Rattle.fv_volume.specs.declared.state.VolumeState.{VolumeState}
use Rattle.fv_pool.specs.Causes.{of_block}
use Rattle.fv_pool.specs.Lending.{lent_for}
use Rattle.fv_volume.specs.OneVolume.{home_in, standing_for}
use Rattle.fv_volume.specs.Asking.{TellsActive}
use Rattle.fv_volume.specs.declared.tables.TableAsked.TheVariants.{Active}
use Rattle.fv_volume.proofs.RightTables.{active_tells, known_after}
use Rattle.fv_volume.proofs.Calling.{no_refusal, if_err_is}
use Rattle.fv_volume.proofs.OneVolumes.{reads_then}
use Rattle.fv_charge.specs.declared.ledger.Ledger.{Ledger}
use Rattle.fv_charge.specs.Changes.{IsChanged}
use Rattle.std.specs.Prelude.{Some}
use Rattle.fv_model.specs.Tables.{File}
use Rattle.fv_model.specs.Volumes.{Volume}
use Rattle.fv_laws.specs.Paths.{put_path}
use Rattle.fv_laws.specs.Positions.{added_by, staying}
use Rattle.fv_tables.specs.Told.{file_in, table_told}
use Rattle.fv_volume.proofs.Charged.{told_before}
use Rattle.fv_files.specs.Tables.{IsInfoOf}
use Rattle.fv_volume.proofs.Asked.{first_info}
use Rattle.fv_volume.proofs.CallCauses.{failed_change_cause}
use Rattle.fv_pool.proofs.CallCauses.{failed_cause, refused_cause}
use Rattle.fv_volume.proofs.Judged.{more_fits, put_accepted, put_counted, put_full, put_missing, put_too_far, said_of, more_is}
use Rattle.fv_volume.proofs.changing.judge_put.Goals as goal

pub returns-then-not-in_index-clause-refused : goal.returns-then-not-in_index-clause-refused
returns-then-not-in_index-clause-refused g c = λ is block. let far : is_index c.args.index ≡ false = search rules in put_too_far (g.D.Disk.shown c.args.disk.now) c.args.pool.now c.args.volume.now c.args.others c.args.file.now c.args.index block far

pub returns-in_err-info-clause-refused : goal.returns-in_err-info-clause-refused
returns-in_err-info-clause-refused g c = λ is. if_err_is _ (of_block c.in_err-info.field-0.0) c.from_residual.result (search rules) (λ block m has. no_refusal (Unit {0}) m _ c.in_err-info.field-0.0)

pub returns-in_err-info-clause-cause : goal.returns-in_err-info-clause-cause
returns-in_err-info-clause-cause g c = failed_cause (TellsActive (g.D.Disk.shown c.args.disk.now) c.args.pool.now c.args.volume.now) (standing_for (g.D.Disk.shown c.args.disk.now) c.args.pool.now c.args.volume.now) (lent_for c.args.pool.now c.args.volume.now.map (g.D.Disk.shown c.args.disk.now) 0 (home_in c.args.volume.now) 0) (g.D.Disk.shown c.find_file.new.disk).faults c.in_err-info.field-0.0 c.from_residual.result (search rules) c.in_err-info.ensures.cause

pub returns-in_default-clause-refused : goal.returns-in_default-clause-refused
returns-in_default-clause-refused g c = λ is block. let near : is_index c.args.index ≡ true = search rules in put_missing (g.D.Disk.shown c.args.disk.now) c.args.pool.now c.args.volume.now c.args.others c.args.file.now c.args.index block near (subst (Finds (standing_for (g.D.Disk.shown c.args.disk.now) c.args.pool.now c.args.volume.now).inode c.args.file.now) c.in_default.is (c.in_ok-info.ensures.found (active_tells (g.D.Disk.shown c.args.disk.now) c.args.pool.now c.args.volume.now is)))

pub returns-then-volume-ge-MOST_CHANGES-clause-refused : goal.returns-then-volume-ge-MOST_CHANGES-clause-refused
returns-then-volume-ge-MOST_CHANGES-clause-refused g c = λ is block. let near : is_index c.args.index ≡ true = search rules in let all : most_changes ≤ c.args.volume.now.now = (let now : c.find_file.new.volume.now ≡ c.args.volume.now.now = ap (λ (z : VolumeState). z.now) c.find_file.ensures.same in omega (arith, now, c.if-volume-ge-MOST_CHANGES.true)) in put_counted (g.D.Disk.shown c.args.disk.now) c.args.pool.now c.args.volume.now c.args.others is c.args.file.now c.args.index near c.in-Some.info (subst (Finds (standing_for (g.D.Disk.shown c.args.disk.now) c.args.pool.now c.args.volume.now).inode c.args.file.now) c.in-Some.is (c.in_ok-info.ensures.found (active_tells (g.D.Disk.shown c.args.disk.now) c.args.pool.now c.args.volume.now is))) block all

pub count_put-requires-clause-there : goal.count_put-requires-clause-there
count_put-requires-clause-there g c = known_after (g.D.Disk.shown c.args.disk.now) (g.D.Disk.shown c.find_file.new.disk) c.args.pool.now c.find_file.new.pool c.find_file.ensures.reads c.args.volume.now Active c.find_file.new.volume c.find_file.ensures.same (λ (s : Standing). IsInfoOf s.inode c.in-Some.info) (λ told. first_info (standing_for (g.D.Disk.shown c.args.disk.now) c.args.pool.now c.args.volume.now).inode c.args.file.now c.in-Some.info (subst (Finds (standing_for (g.D.Disk.shown c.args.disk.now) c.args.pool.now c.args.volume.now).inode c.args.file.now) c.in-Some.is (c.in_ok-info.ensures.found told)))

pub returns-in_err-count-clause-refused : goal.returns-in_err-count-clause-refused
returns-in_err-count-clause-refused g c = λ is. if_err_is _ (of_block c.in_err-count.field-0.0) c.from_residual-in_err-count.result (search rules) (λ block m has. no_refusal (Unit {0}) m _ c.in_err-count.field-0.0)

pub returns-in_err-count-clause-cause : goal.returns-in_err-count-clause-cause
returns-in_err-count-clause-cause g c = failed_change_cause (g.D.Disk.shown c.args.disk.now) (g.D.Disk.shown c.find_file.new.disk) c.args.pool.now c.find_file.new.pool c.find_file.ensures.reads c.args.volume.now c.find_file.new.volume c.find_file.ensures.same c.in_ok-info.ensures.cause (g.D.Disk.shown c.count_put.new.disk).faults c.in_err-count.field-0.0 c.from_residual-in_err-count.result (search rules) c.in_err-count.ensures.cause

pub returns-in_err-admit_change-clause-refused : goal.returns-in_err-admit_change-clause-refused
returns-in_err-admit_change-clause-refused g c = λ is. let made = c.more_blocks-delta.ensures in let more = more_is c.args.volume.now c.count_put.new.volume (c.count_put.ensures.same ∙ c.find_file.ensures.same) c.in_ok-count.count c.more_blocks-delta.result made.charge made.need made.size made.kind made.fits in let few : c.args.volume.now.now < most_changes = (let now : c.find_file.new.volume.now ≡ c.args.volume.now.now = ap (λ (z : VolumeState). z.now) c.find_file.ensures.same in omega (arith, now, c.if-volume-ge-MOST_CHANGES.false)) in let near : is_index c.args.index ≡ true = search rules in if_err_is _ c.in_err-admit_change.field-0.0 c.from_residual-in_err-admit_change.result (search rules) (put_full (g.D.Disk.shown c.args.disk.now) c.args.pool.now c.args.volume.now c.args.others is c.args.file.now c.args.index near c.in-Some.info (subst (Finds (standing_for (g.D.Disk.shown c.args.disk.now) c.args.pool.now c.args.volume.now).inode c.args.file.now) c.in-Some.is (c.in_ok-info.ensures.found (active_tells (g.D.Disk.shown c.args.disk.now) c.args.pool.now c.args.volume.now is))) few c.more_blocks-delta.result c.in_ok-count.count c.requires.ready (told_before (g.D.Disk.shown c.args.disk.now) (g.D.Disk.shown c.find_file.new.disk) c.args.pool.now c.find_file.new.pool c.find_file.ensures.reads c.args.volume.now c.find_file.new.volume c.find_file.ensures.same (λ (s : Standing) (v : Volume). (f : File) → file_in s c.in-Some.info.number ≡ Some f → c.in_ok-count.count ≡ added_by f.tree c.args.index + staying v (put_path (table_told s) c.in-Some.info.number f c.args.index)) c.in_ok-count.ensures.costs is) more.charge more.need more.size more.kind c.in_err-admit_change.field-0.0 (said_of (g.D.Disk.shown c.args.disk.now) (g.D.Disk.shown c.count_put.new.disk) c.args.pool.now c.count_put.new.pool (reads_then (g.D.Disk.shown c.args.disk.now) (g.D.Disk.shown c.find_file.new.disk) (g.D.Disk.shown c.count_put.new.disk) c.args.pool.now c.find_file.new.pool c.count_put.new.pool c.find_file.ensures.reads c.count_put.ensures.reads) c.args.volume.now c.count_put.new.volume (c.count_put.ensures.same ∙ c.find_file.ensures.same) c.args.others c.more_blocks-delta.result (Err c.in_err-admit_change.field-0.0) c.in_err-admit_change.ensures.machine))

pub returns-in_err-admit_change-clause-cause : goal.returns-in_err-admit_change-clause-cause
returns-in_err-admit_change-clause-cause g c = refused_cause (TellsActive (g.D.Disk.shown c.args.disk.now) c.args.pool.now c.args.volume.now) (standing_for (g.D.Disk.shown c.args.disk.now) c.args.pool.now c.args.volume.now) (lent_for c.args.pool.now c.args.volume.now.map (g.D.Disk.shown c.args.disk.now) 0 (home_in c.args.volume.now) 0) (g.D.Disk.shown c.count_put.new.disk).faults c.in_err-admit_change.field-0.0 c.from_residual-in_err-admit_change.result (search rules) c.in_err-admit_change.ensures.refusal (c.in_ok-count.ensures.cause ∙ c.in_ok-info.ensures.cause)

pub returns-clause-accepted : goal.returns-clause-accepted
returns-clause-accepted g c = λ is. let made = c.more_blocks-delta.ensures in let more = more_is c.args.volume.now c.count_put.new.volume (c.count_put.ensures.same ∙ c.find_file.ensures.same) c.in_ok-count.count c.more_blocks-delta.result made.charge made.need made.size made.kind made.fits in let few : c.args.volume.now.now < most_changes = (let now : c.find_file.new.volume.now ≡ c.args.volume.now.now = ap (λ (z : VolumeState). z.now) c.find_file.ensures.same in omega (arith, now, c.if-volume-ge-MOST_CHANGES.false)) in let near : is_index c.args.index ≡ true = search rules in put_accepted (g.D.Disk.shown c.args.disk.now) c.args.pool.now c.args.volume.now c.args.others is c.args.file.now c.args.index near c.in-Some.info (subst (Finds (standing_for (g.D.Disk.shown c.args.disk.now) c.args.pool.now c.args.volume.now).inode c.args.file.now) c.in-Some.is (c.in_ok-info.ensures.found (active_tells (g.D.Disk.shown c.args.disk.now) c.args.pool.now c.args.volume.now is))) few c.more_blocks-delta.result c.in_ok-count.count c.requires.ready (told_before (g.D.Disk.shown c.args.disk.now) (g.D.Disk.shown c.find_file.new.disk) c.args.pool.now c.find_file.new.pool c.find_file.ensures.reads c.args.volume.now c.find_file.new.volume c.find_file.ensures.same (λ (s : Standing) (v : Volume). (f : File) → file_in s c.in-Some.info.number ≡ Some f → c.in_ok-count.count ≡ added_by f.tree c.args.index + staying v (put_path (table_told s) c.in-Some.info.number f c.args.index)) c.in_ok-count.ensures.costs is) more.charge more.need more.size more.kind (said_of (g.D.Disk.shown c.args.disk.now) (g.D.Disk.shown c.count_put.new.disk) c.args.pool.now c.count_put.new.pool (reads_then (g.D.Disk.shown c.args.disk.now) (g.D.Disk.shown c.find_file.new.disk) (g.D.Disk.shown c.count_put.new.disk) c.args.pool.now c.find_file.new.pool c.count_put.new.pool c.find_file.ensures.reads c.count_put.ensures.reads) c.args.volume.now c.count_put.new.volume (c.count_put.ensures.same ∙ c.find_file.ensures.same) c.args.others c.more_blocks-delta.result (Ok tt) c.in_ok-admit_change.ensures.machine)

pub returns-clause-fits : goal.returns-clause-fits
returns-clause-fits g c = let made = c.more_blocks-delta.ensures in let more = more_is c.args.volume.now c.count_put.new.volume (c.count_put.ensures.same ∙ c.find_file.ensures.same) c.in_ok-count.count c.more_blocks-delta.result made.charge made.need made.size made.kind made.fits in let few : c.args.volume.now.now < most_changes = (let now : c.find_file.new.volume.now ≡ c.args.volume.now.now = ap (λ (z : VolumeState). z.now) c.find_file.ensures.same in omega (arith, now, c.if-volume-ge-MOST_CHANGES.false)) in more_fits (g.D.Disk.shown c.args.disk.now) c.args.pool.now c.args.volume.now c.more_blocks-delta.result c.in_ok-count.count c.requires.ready few more.can more.need more.size more.kind (subst (λ (z : VolumeState). (l : Ledger) → IsChanged z.ledger c.more_blocks-delta.result l → l.charge + l.need ≤ l.size) (c.count_put.ensures.same ∙ c.find_file.ensures.same) c.in_ok-admit_change.ensures.within)

pub returns-clause-found : goal.returns-clause-found
returns-clause-found g c = λ told. first_info (standing_for (g.D.Disk.shown c.args.disk.now) c.args.pool.now c.args.volume.now).inode c.args.file.now c.in-Some.info (subst (Finds (standing_for (g.D.Disk.shown c.args.disk.now) c.args.pool.now c.args.volume.now).inode c.args.file.now) c.in-Some.is (c.in_ok-info.ensures.found told))
