use Rattle.std.proofs.Common.{◌≡◌, ◌≤◌, ◌+◌, Ok, Err, rules, subst, ◌∙◌}
use Rattle.fv_tables.specs.Told.{Standing}
use Rattle.fv_volume.specs.declared.state.VolumeState.{VolumeState}
use Rattle.fv_pool.specs.Causes.{of_block}
use Rattle.fv_pool.specs.Lending.{lent_for}
use Rattle.fv_volume.specs.OneVolume.{home_in, standing_for}
use Rattle.fv_volume.specs.Asking.{TellsActive}
use Rattle.fv_volume.proofs.Calling.{no_refusal, if_err_is}
use Rattle.fv_volume.proofs.OneVolumes.{reads_then}
use Rattle.fv_charge.specs.declared.ledger.Ledger.{Ledger}
use Rattle.fv_charge.specs.Changes.{IsChanged}
use Rattle.fv_model.specs.Tables.{inode_cell}
use Rattle.fv_model.specs.Volumes.{Volume}
use Rattle.fv_laws.specs.Paths.{new_path}
use Rattle.fv_laws.specs.Positions.{added_by, staying}
use Rattle.fv_tables.specs.Told.{table_told}
use Rattle.fv_inode.specs.Files.{IsLeastFree}
use Rattle.fv_volume.proofs.Charged.{told_before}
use Rattle.fv_volume.proofs.CallCauses.{failed_change_cause}
use Rattle.fv_pool.proofs.CallCauses.{refused_cause}
use Rattle.fv_volume.proofs.Judged.{more_fits, said_of, more_is}
use Rattle.fv_volume.proofs.JudgedNew.{new_accepted, new_full}
use Rattle.fv_volume.proofs.changing.judge_new.Goals as goal

pub returns-in_err-number-clause-refused : goal.returns-in_err-number-clause-refused
returns-in_err-number-clause-refused g c = λ is. if_err_is _ c.in_err-number.field-0.0 c.from_residual.result (search rules) (c.in_err-number.ensures.refused is c.args.others)

pub returns-in_err-count-clause-refused : goal.returns-in_err-count-clause-refused
returns-in_err-count-clause-refused g c = λ is. if_err_is _ (of_block c.in_err-count.field-0.0) c.from_residual-in_err-count.result (search rules) (λ m has. no_refusal (Unit {0}) m _ c.in_err-count.field-0.0)

pub returns-in_err-count-clause-cause : goal.returns-in_err-count-clause-cause
returns-in_err-count-clause-cause g c = failed_change_cause (g.D.Disk.shown c.args.disk.now) (g.D.Disk.shown c.judge_name.new.disk) c.args.pool.now c.judge_name.new.pool c.judge_name.ensures.reads c.args.volume.now c.judge_name.new.volume c.judge_name.ensures.same c.in_ok-number.ensures.cause (g.D.Disk.shown c.count_new.new.disk).faults c.in_err-count.field-0.0 c.from_residual-in_err-count.result (search rules) c.in_err-count.ensures.cause

pub returns-in_err-admit_change-clause-refused : goal.returns-in_err-admit_change-clause-refused
returns-in_err-admit_change-clause-refused g c = λ is. let made = c.more_blocks-delta.ensures in let more = more_is c.args.volume.now c.count_new.new.volume (c.count_new.ensures.same ∙ c.judge_name.ensures.same) c.in_ok-count.count c.more_blocks-delta.result made.charge made.need made.size made.kind made.fits in if_err_is _ c.in_err-admit_change.field-0.0 c.from_residual-in_err-admit_change.result (search rules) (let names = c.in_ok-number.ensures.accepted is in new_full (g.D.Disk.shown c.args.disk.now) c.args.pool.now c.args.volume.now c.args.others c.args.file.now c.args.reserve names.near names.none is c.in_ok-number.ensures.none c.in_ok-number.number c.in_ok-number.ensures.low names.free c.in_ok-number.ensures.more c.more_blocks-delta.result c.in_ok-count.count c.requires.ready (told_before (g.D.Disk.shown c.args.disk.now) (g.D.Disk.shown c.judge_name.new.disk) c.args.pool.now c.judge_name.new.pool c.judge_name.ensures.reads c.args.volume.now c.judge_name.new.volume c.judge_name.ensures.same (λ (s : Standing) (v : Volume). IsLeastFree s.inode c.in_ok-number.number → c.in_ok-count.count ≡ added_by (table_told s).inode (inode_cell c.in_ok-number.number) + staying v (new_path (table_told s))) c.in_ok-count.ensures.costs is) more.charge more.need more.size more.kind c.in_err-admit_change.field-0.0 (said_of (g.D.Disk.shown c.args.disk.now) (g.D.Disk.shown c.count_new.new.disk) c.args.pool.now c.count_new.new.pool (reads_then (g.D.Disk.shown c.args.disk.now) (g.D.Disk.shown c.judge_name.new.disk) (g.D.Disk.shown c.count_new.new.disk) c.args.pool.now c.judge_name.new.pool c.count_new.new.pool c.judge_name.ensures.reads c.count_new.ensures.reads) c.args.volume.now c.count_new.new.volume (c.count_new.ensures.same ∙ c.judge_name.ensures.same) c.args.others c.more_blocks-delta.result (Err c.in_err-admit_change.field-0.0) c.in_err-admit_change.ensures.machine))

pub returns-in_err-admit_change-clause-cause : goal.returns-in_err-admit_change-clause-cause
returns-in_err-admit_change-clause-cause g c = refused_cause (TellsActive (g.D.Disk.shown c.args.disk.now) c.args.pool.now c.args.volume.now) (standing_for (g.D.Disk.shown c.args.disk.now) c.args.pool.now c.args.volume.now) (lent_for c.args.pool.now c.args.volume.now.map (g.D.Disk.shown c.args.disk.now) 0 (home_in c.args.volume.now) 0) (g.D.Disk.shown c.count_new.new.disk).faults c.in_err-admit_change.field-0.0 c.from_residual-in_err-admit_change.result (search rules) c.in_err-admit_change.ensures.refusal (c.in_ok-count.ensures.cause ∙ c.in_ok-number.ensures.cause)

pub returns-clause-accepted : goal.returns-clause-accepted
returns-clause-accepted g c = λ is. let made = c.more_blocks-delta.ensures in let more = more_is c.args.volume.now c.count_new.new.volume (c.count_new.ensures.same ∙ c.judge_name.ensures.same) c.in_ok-count.count c.more_blocks-delta.result made.charge made.need made.size made.kind made.fits in let names = c.in_ok-number.ensures.accepted is in new_accepted (g.D.Disk.shown c.args.disk.now) c.args.pool.now c.args.volume.now c.args.others c.args.file.now c.args.reserve names.near names.none is c.in_ok-number.ensures.none c.in_ok-number.number c.in_ok-number.ensures.low names.free c.in_ok-number.ensures.more c.more_blocks-delta.result c.in_ok-count.count c.requires.ready (told_before (g.D.Disk.shown c.args.disk.now) (g.D.Disk.shown c.judge_name.new.disk) c.args.pool.now c.judge_name.new.pool c.judge_name.ensures.reads c.args.volume.now c.judge_name.new.volume c.judge_name.ensures.same (λ (s : Standing) (v : Volume). IsLeastFree s.inode c.in_ok-number.number → c.in_ok-count.count ≡ added_by (table_told s).inode (inode_cell c.in_ok-number.number) + staying v (new_path (table_told s))) c.in_ok-count.ensures.costs is) more.charge more.need more.size more.kind (said_of (g.D.Disk.shown c.args.disk.now) (g.D.Disk.shown c.count_new.new.disk) c.args.pool.now c.count_new.new.pool (reads_then (g.D.Disk.shown c.args.disk.now) (g.D.Disk.shown c.judge_name.new.disk) (g.D.Disk.shown c.count_new.new.disk) c.args.pool.now c.judge_name.new.pool c.count_new.new.pool c.judge_name.ensures.reads c.count_new.ensures.reads) c.args.volume.now c.count_new.new.volume (c.count_new.ensures.same ∙ c.judge_name.ensures.same) c.args.others c.more_blocks-delta.result (Ok tt) c.in_ok-admit_change.ensures.machine)

pub returns-clause-fits : goal.returns-clause-fits
returns-clause-fits g c = let made = c.more_blocks-delta.ensures in let more = more_is c.args.volume.now c.count_new.new.volume (c.count_new.ensures.same ∙ c.judge_name.ensures.same) c.in_ok-count.count c.more_blocks-delta.result made.charge made.need made.size made.kind made.fits in more_fits (g.D.Disk.shown c.args.disk.now) c.args.pool.now c.args.volume.now c.more_blocks-delta.result c.in_ok-count.count c.requires.ready c.in_ok-number.ensures.more more.can more.need more.size more.kind (subst (λ (z : VolumeState). (l : Ledger) → IsChanged z.ledger c.more_blocks-delta.result l → l.charge + l.need ≤ l.size) (c.count_new.ensures.same ∙ c.judge_name.ensures.same) c.in_ok-admit_change.ensures.within)

pub returns-clause-free : goal.returns-clause-free
returns-clause-free g c = c.in_ok-number.ensures.free
