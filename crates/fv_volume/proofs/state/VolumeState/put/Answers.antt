use Rattle.std.proofs.Common.{Ok, rules, ap, ◌∙◌}
use Rattle.fv_tables.specs.Told.{Standing}
use Rattle.fv_files.specs.Tables.{IsInfoOf}
use Rattle.fv_model.specs.declared.commands.Command.TheVariants.{Put}
use Rattle.fv_volume.specs.declared.state.VolumeState.{VolumeState}
use Rattle.fv_volume.specs.Calls.{HasBeside}
use Rattle.fv_volume.specs.OneVolume.{volume_for}
use Rattle.fv_volume.specs.declared.tables.TableAsked.TheVariants.{Active}
use Rattle.fv_volume.proofs.RightTables.{known_after}
use Rattle.fv_volume.proofs.CallCauses.{failed_change_cause}
use Rattle.fv_volume.proofs.Calling.{failed_told, onerr_so, refused_told, counted_all, counted_table, kept_numbers, left_table, left_fits, failed_changes, failed_head, refused_changes, refused_head, done_head, done_ready, Parts, parts_of, refused_standing, refused_table, failed_stands, left_ready}
use Rattle.fv_volume.proofs.MadePut.{put_is, put_stands}
use Rattle.fv_volume.proofs.state.VolumeState.put.Given as given
use Rattle.fv_volume.proofs.state.VolumeState.put.Goals as goal

pub returns-in_err-admission-clause-changes : goal.returns-in_err-admission-clause-changes
returns-in_err-admission-clause-changes g c = λ is. refused_changes (g.D.Disk.shown c.args.disk.now) (g.D.Disk.shown c.judge_put.new.disk) c.args.pool.now c.judge_put.new.pool c.judge_put.ensures.reads c.args.self.now c.judge_put.new.volume c.judge_put.ensures.same (HasBeside c.args.self.now.name (volume_for (g.D.Disk.shown c.args.disk.now) c.args.pool.now c.args.self.now) c.args.others c.args.pool.now.found.blocks) (Put c.args.self.now.name c.args.file.now c.args.index c.args.block.now) c.from_residual.result c.in_err-admission.field-0.0 (search rules) (c.in_err-admission.ensures.refused is c.args.block.now)

pub returns-in_err-admission-clause-standing : goal.returns-in_err-admission-clause-standing
returns-in_err-admission-clause-standing g c = λ is. refused_standing (g.D.Disk.shown c.args.disk.now) (g.D.Disk.shown c.judge_put.new.disk) c.args.pool.now c.judge_put.new.pool c.judge_put.ensures.reads c.args.self.now c.judge_put.new.volume c.judge_put.ensures.same is

pub returns-in_err-admission-clause-table : goal.returns-in_err-admission-clause-table
returns-in_err-admission-clause-table g c = λ is. refused_table (g.D.Disk.shown c.args.disk.now) (g.D.Disk.shown c.judge_put.new.disk) c.args.pool.now c.judge_put.new.pool c.judge_put.ensures.reads c.args.self.now c.judge_put.new.volume c.judge_put.ensures.same

pub returns-in_err-write_block-clause-changes : goal.returns-in_err-write_block-clause-changes
returns-in_err-write_block-clause-changes g c = λ is. failed_changes (g.D.Disk.shown c.args.disk.now) (g.D.Disk.shown c.judge_put.new.disk) (g.D.Disk.shown c.write_block.new.disk) c.args.pool.now c.judge_put.new.pool c.write_block.new.pool c.judge_put.ensures.reads c.args.self.now c.judge_put.new.volume c.write_block.new.volume c.judge_put.ensures.same c.in_err-write_block.field-0.0 c.in_err-write_block.ensures.alters is (HasBeside c.args.self.now.name (volume_for (g.D.Disk.shown c.args.disk.now) c.args.pool.now c.args.self.now) c.args.others c.args.pool.now.found.blocks) (Put c.args.self.now.name c.args.file.now c.args.index c.args.block.now) c.from_residual-in_err-write_block.result (search rules)

pub returns-in_err-write_block-clause-standing : goal.returns-in_err-write_block-clause-standing
returns-in_err-write_block-clause-standing g c = λ is. failed_stands (g.D.Disk.shown c.args.disk.now) (g.D.Disk.shown c.judge_put.new.disk) (g.D.Disk.shown c.write_block.new.disk) c.args.pool.now c.judge_put.new.pool c.write_block.new.pool c.judge_put.ensures.reads c.args.self.now c.judge_put.new.volume c.write_block.new.volume c.judge_put.ensures.same c.in_err-write_block.field-0.0 c.in_err-write_block.ensures.alters is

pub returns-in_err-write_block-clause-ready : goal.returns-in_err-write_block-clause-ready
returns-in_err-write_block-clause-ready g c = left_ready (g.D.Disk.shown c.args.disk.now) (g.D.Disk.shown c.judge_put.new.disk) (g.D.Disk.shown c.write_block.new.disk) c.args.pool.now c.judge_put.new.pool c.write_block.new.pool c.judge_put.ensures.reads c.args.self.now c.judge_put.new.volume c.write_block.new.volume c.judge_put.ensures.same _ c.in_err-write_block.ensures.alters c.requires.ready

pub returns-clause-table : goal.returns-clause-table
returns-clause-table g c = λ is. counted_table (g.D.Disk.shown c.args.disk.now) c.args.pool.now c.args.self.now (g.D.Disk.shown c.write_block.new.disk) c.write_block.new.pool c.write_block.new.volume c.count_change.new.volume (counted_all c.write_block.new.volume c.count_change.new.volume c.count_change.ensures.others) (left_table (g.D.Disk.shown c.args.disk.now) (g.D.Disk.shown c.judge_put.new.disk) (g.D.Disk.shown c.write_block.new.disk) c.args.pool.now c.judge_put.new.pool c.write_block.new.pool c.judge_put.ensures.reads c.args.self.now c.judge_put.new.volume c.write_block.new.volume c.judge_put.ensures.same (Ok tt) c.in_ok-write_block.ensures.alters is)

pub returns-in_err-write_block-clause-cause : goal.returns-in_err-write_block-clause-cause
returns-in_err-write_block-clause-cause g c = failed_change_cause (g.D.Disk.shown c.args.disk.now) (g.D.Disk.shown c.judge_put.new.disk) c.args.pool.now c.judge_put.new.pool c.judge_put.ensures.reads c.args.self.now c.judge_put.new.volume c.judge_put.ensures.same c.in_ok-admission.ensures.cause (g.D.Disk.shown c.write_block.new.disk).faults c.in_err-write_block.field-0.0 c.from_residual-in_err-write_block.result (search rules) c.in_err-write_block.ensures.cause

-- the parts of a change that was made
parts : (g : given.Over) (c : goal.After-count_change g) → Parts {T = Unit {0}} (g.D.Disk.shown c.args.disk.now) (g.D.Disk.shown c.judge_put.new.disk) (g.D.Disk.shown c.write_block.new.disk) c.args.pool.now c.judge_put.new.pool c.write_block.new.pool c.args.self.now c.judge_put.new.volume c.write_block.new.volume c.count_change.new.volume (Ok tt) c.in_ok-admission.admission.delta
parts g c = parts_of c.judge_put.ensures.reads c.judge_put.ensures.same c.in_ok-write_block.ensures.alters (counted_all c.write_block.new.volume c.count_change.new.volume c.count_change.ensures.others) c.count_change.ensures.now c.count_change.ensures.ledger c.count_change.ensures.machine

pub count_change-requires : goal.count_change-requires
count_change-requires g c = record { fits = left_fits (g.D.Disk.shown c.args.disk.now) (g.D.Disk.shown c.judge_put.new.disk) (g.D.Disk.shown c.write_block.new.disk) c.args.pool.now c.judge_put.new.pool c.write_block.new.pool c.judge_put.ensures.reads c.args.self.now c.judge_put.new.volume c.write_block.new.volume c.judge_put.ensures.same (Ok tt) c.in_ok-write_block.ensures.alters c.in_ok-admission.admission.delta c.in_ok-admission.ensures.fits }

pub returns-in_err-admission-clause-head : goal.returns-in_err-admission-clause-head
returns-in_err-admission-clause-head g c = refused_head (g.D.Disk.shown c.args.disk.now) (g.D.Disk.shown c.judge_put.new.disk) c.args.pool.now c.judge_put.new.pool c.judge_put.ensures.reads c.args.self.now c.judge_put.new.volume c.judge_put.ensures.same c.from_residual.result c.in_err-admission.field-0.0 (search rules)

pub write_block-requires-clause-there : goal.write_block-requires-clause-there
write_block-requires-clause-there g c = known_after (g.D.Disk.shown c.args.disk.now) (g.D.Disk.shown c.judge_put.new.disk) c.args.pool.now c.judge_put.new.pool c.judge_put.ensures.reads c.args.self.now Active c.judge_put.new.volume c.judge_put.ensures.same (λ (s : Standing). IsInfoOf s.inode c.in_ok-admission.admission.info) c.in_ok-admission.ensures.found

pub returns-clause-changes : goal.returns-clause-changes
returns-clause-changes g c = λ is. put_is (g.D.Disk.shown c.args.disk.now) (g.D.Disk.shown c.judge_put.new.disk) (g.D.Disk.shown c.write_block.new.disk) c.args.pool.now c.judge_put.new.pool c.write_block.new.pool c.args.self.now c.judge_put.new.volume c.write_block.new.volume c.count_change.new.volume c.in_ok-admission.admission.delta (parts g c) is c.requires.ready c.args.others c.args.file.now c.args.index c.args.block.now c.in_ok-admission.admission.info (c.in_ok-admission.ensures.accepted is) c.in_ok-write_block.ensures.written (ap (λ (z : VolumeState). z.numbers) c.count_change.ensures.others)

pub returns-in_err-write_block-clause-head : goal.returns-in_err-write_block-clause-head
returns-in_err-write_block-clause-head g c = failed_head (g.D.Disk.shown c.args.disk.now) (g.D.Disk.shown c.judge_put.new.disk) (g.D.Disk.shown c.write_block.new.disk) c.args.pool.now c.judge_put.new.pool c.write_block.new.pool c.judge_put.ensures.reads c.args.self.now c.judge_put.new.volume c.write_block.new.volume c.judge_put.ensures.same c.in_err-write_block.field-0.0 c.in_err-write_block.ensures.alters c.from_residual-in_err-write_block.result (search rules)

pub returns-clause-standing : goal.returns-clause-standing
returns-clause-standing g c = λ is. put_stands (g.D.Disk.shown c.args.disk.now) (g.D.Disk.shown c.judge_put.new.disk) (g.D.Disk.shown c.write_block.new.disk) c.args.pool.now c.judge_put.new.pool c.write_block.new.pool c.args.self.now c.judge_put.new.volume c.write_block.new.volume c.count_change.new.volume c.in_ok-admission.admission.delta (parts g c) is c.requires.ready c.args.others c.args.file.now c.args.index c.args.block.now c.in_ok-admission.admission.info (c.in_ok-admission.ensures.accepted is) c.in_ok-write_block.ensures.written (ap (λ (z : VolumeState). z.numbers) c.count_change.ensures.others)

pub returns-clause-ready : goal.returns-clause-ready
returns-clause-ready g c = done_ready (g.D.Disk.shown c.args.disk.now) (g.D.Disk.shown c.judge_put.new.disk) (g.D.Disk.shown c.write_block.new.disk) c.args.pool.now c.judge_put.new.pool c.write_block.new.pool c.args.self.now c.judge_put.new.volume c.write_block.new.volume c.count_change.new.volume (Ok tt) c.in_ok-admission.admission.delta (parts g c) c.requires.ready (left_fits (g.D.Disk.shown c.args.disk.now) (g.D.Disk.shown c.judge_put.new.disk) (g.D.Disk.shown c.write_block.new.disk) c.args.pool.now c.judge_put.new.pool c.write_block.new.pool c.judge_put.ensures.reads c.args.self.now c.judge_put.new.volume c.write_block.new.volume c.judge_put.ensures.same (Ok tt) c.in_ok-write_block.ensures.alters c.in_ok-admission.admission.delta c.in_ok-admission.ensures.fits)

pub returns-clause-head : goal.returns-clause-head
returns-clause-head g c = done_head (g.D.Disk.shown c.args.disk.now) (g.D.Disk.shown c.judge_put.new.disk) (g.D.Disk.shown c.write_block.new.disk) c.args.pool.now c.judge_put.new.pool c.write_block.new.pool c.args.self.now c.judge_put.new.volume c.write_block.new.volume c.count_change.new.volume (Ok tt) c.in_ok-admission.admission.delta (parts g c)

pub returns-in_err-write_block-clause-numbers : goal.returns-in_err-write_block-clause-numbers
returns-in_err-write_block-clause-numbers g c = kept_numbers c.args.self.now c.judge_put.new.volume c.write_block.new.volume c.judge_put.ensures.same c.in_err-write_block.ensures.alters.same

pub returns-clause-numbers : goal.returns-clause-numbers
returns-clause-numbers g c = ap (λ (z : VolumeState). z.numbers) c.count_change.ensures.others ∙ kept_numbers c.args.self.now c.judge_put.new.volume c.write_block.new.volume c.judge_put.ensures.same c.in_ok-write_block.ensures.alters.same

pub returns-in_err-admission-clause-told : goal.returns-in_err-admission-clause-told
returns-in_err-admission-clause-told g c = λ tells. onerr_so _ c.from_residual.result (refused_told (g.D.Disk.shown c.args.disk.now) (g.D.Disk.shown c.judge_put.new.disk) c.args.pool.now c.judge_put.new.pool c.judge_put.ensures.reads c.args.self.now c.judge_put.new.volume c.judge_put.ensures.same)

pub returns-in_err-write_block-clause-told : goal.returns-in_err-write_block-clause-told
returns-in_err-write_block-clause-told g c = λ tells. onerr_so _ c.from_residual-in_err-write_block.result (failed_told (g.D.Disk.shown c.args.disk.now) (g.D.Disk.shown c.judge_put.new.disk) (g.D.Disk.shown c.write_block.new.disk) c.args.pool.now c.judge_put.new.pool c.write_block.new.pool c.judge_put.ensures.reads c.args.self.now c.judge_put.new.volume c.write_block.new.volume c.judge_put.ensures.same c.in_err-write_block.field-0.0 c.in_err-write_block.ensures.alters tells)
