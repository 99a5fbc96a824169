use Rattle.std.proofs.Common.{ℕ, Ok, rules, subst}
use Rattle.fv_tables.specs.Told.{Standing}
use Rattle.fv_files.specs.Tables.{IsInfoOf}
use Rattle.fv_model.specs.declared.commands.Command.TheVariants.{Remove}
use Rattle.fv_charge.specs.declared.ledger.Ledger.{Ledger}
use Rattle.fv_volume.specs.Calls.{HasWithin}
use Rattle.fv_pool.specs.Causes.{of_block}
use Rattle.fv_volume.specs.OneVolume.{volume_for}
use Rattle.fv_volume.specs.declared.tables.TableAsked.TheVariants.{Active}
use Rattle.fv_volume.proofs.RightTables.{known_after}
use Rattle.fv_volume.proofs.CallCauses.{failed_change_cause}
use Rattle.fv_volume.proofs.Calling.{failed_told, onerr_so, refused_told, counted_table, left_fits, left_table, left_ledger, left_more, failed_changes, no_refusal, failed_head, left_ready, refused_changes, refused_head, done_head, done_ready, parts_of, Parts, if_err_is, refused_standing, refused_table, failed_stands}
use Rattle.fv_volume.specs.Changing.{IsDeltaBy}
use Rattle.fv_volume.proofs.JudgedCut.{each_fits, removal_fits}
use Rattle.fv_volume.proofs.MadeRemoval.{rm_is, rm_stands}
use Rattle.fv_volume.proofs.state.VolumeState.remove.Goals as goal

pub returns-in_err-removing-clause-changes : goal.returns-in_err-removing-clause-changes
returns-in_err-removing-clause-changes g c = λ is. refused_changes (g.D.Disk.shown c.args.disk.now) (g.D.Disk.shown c.judge_removal.new.disk) c.args.pool.now c.judge_removal.new.pool c.judge_removal.ensures.reads c.args.self.now c.judge_removal.new.volume c.judge_removal.ensures.same (HasWithin c.args.self.now.name (volume_for (g.D.Disk.shown c.args.disk.now) c.args.pool.now c.args.self.now) c.args.others c.args.pool.now.found.blocks) (Remove c.args.self.now.name c.args.file.now) c.from_residual.result c.in_err-removing.field-0.0 (search rules) (λ m has. c.in_err-removing.ensures.refused is m has.beside)

pub returns-in_err-removing-clause-standing : goal.returns-in_err-removing-clause-standing
returns-in_err-removing-clause-standing g c = λ is. refused_standing (g.D.Disk.shown c.args.disk.now) (g.D.Disk.shown c.judge_removal.new.disk) c.args.pool.now c.judge_removal.new.pool c.judge_removal.ensures.reads c.args.self.now c.judge_removal.new.volume c.judge_removal.ensures.same is

pub returns-in_err-removing-clause-table : goal.returns-in_err-removing-clause-table
returns-in_err-removing-clause-table g c = λ is. refused_table (g.D.Disk.shown c.args.disk.now) (g.D.Disk.shown c.judge_removal.new.disk) c.args.pool.now c.judge_removal.new.pool c.judge_removal.ensures.reads c.args.self.now c.judge_removal.new.volume c.judge_removal.ensures.same

pub returns-in_err-count-clause-changes : goal.returns-in_err-count-clause-changes
returns-in_err-count-clause-changes g c = λ is. failed_changes (g.D.Disk.shown c.args.disk.now) (g.D.Disk.shown c.judge_removal.new.disk) (g.D.Disk.shown c.drop_file.new.disk) c.args.pool.now c.judge_removal.new.pool c.drop_file.new.pool c.judge_removal.ensures.reads c.args.self.now c.judge_removal.new.volume c.drop_file.new.volume c.judge_removal.ensures.same c.in_err-count.field-0.0 c.in_err-count.ensures.alters is (HasWithin c.args.self.now.name (volume_for (g.D.Disk.shown c.args.disk.now) c.args.pool.now c.args.self.now) c.args.others c.args.pool.now.found.blocks) (Remove c.args.self.now.name c.args.file.now) c.from_residual-in_err-count.result (search rules)

pub returns-in_err-count-clause-standing : goal.returns-in_err-count-clause-standing
returns-in_err-count-clause-standing g c = λ is. failed_stands (g.D.Disk.shown c.args.disk.now) (g.D.Disk.shown c.judge_removal.new.disk) (g.D.Disk.shown c.drop_file.new.disk) c.args.pool.now c.judge_removal.new.pool c.drop_file.new.pool c.judge_removal.ensures.reads c.args.self.now c.judge_removal.new.volume c.drop_file.new.volume c.judge_removal.ensures.same c.in_err-count.field-0.0 c.in_err-count.ensures.alters is

pub returns-in_err-count-clause-ready : goal.returns-in_err-count-clause-ready
returns-in_err-count-clause-ready g c = left_ready (g.D.Disk.shown c.args.disk.now) (g.D.Disk.shown c.judge_removal.new.disk) (g.D.Disk.shown c.drop_file.new.disk) c.args.pool.now c.judge_removal.new.pool c.drop_file.new.pool c.judge_removal.ensures.reads c.args.self.now c.judge_removal.new.volume c.drop_file.new.volume c.judge_removal.ensures.same _ c.in_err-count.ensures.alters c.requires.ready

pub returns-clause-table : goal.returns-clause-table
returns-clause-table g c = λ is. counted_table (g.D.Disk.shown c.args.disk.now) c.args.pool.now c.args.self.now (g.D.Disk.shown c.drop_file.new.disk) c.drop_file.new.pool c.drop_file.new.volume c.count_removed.new.volume c.count_removed.ensures.others (left_table (g.D.Disk.shown c.args.disk.now) (g.D.Disk.shown c.judge_removal.new.disk) (g.D.Disk.shown c.drop_file.new.disk) c.args.pool.now c.judge_removal.new.pool c.drop_file.new.pool c.judge_removal.ensures.reads c.args.self.now c.judge_removal.new.volume c.drop_file.new.volume c.judge_removal.ensures.same (Ok c.in_ok-count.count) c.in_ok-count.ensures.alters is)

pub returns-in_err-count-clause-cause : goal.returns-in_err-count-clause-cause
returns-in_err-count-clause-cause g c = failed_change_cause (g.D.Disk.shown c.args.disk.now) (g.D.Disk.shown c.judge_removal.new.disk) c.args.pool.now c.judge_removal.new.pool c.judge_removal.ensures.reads c.args.self.now c.judge_removal.new.volume c.judge_removal.ensures.same c.in_ok-removing.ensures.cause (g.D.Disk.shown c.drop_file.new.disk).faults c.in_err-count.field-0.0 c.from_residual-in_err-count.result (search rules) c.in_err-count.ensures.cause

pub returns-in_err-removing-clause-refused : goal.returns-in_err-removing-clause-refused
returns-in_err-removing-clause-refused g c = λ is. if_err_is _ c.in_err-removing.field-0.0 c.from_residual.result (search rules) (c.in_err-removing.ensures.refused is)

pub returns-clause-changes : goal.returns-clause-changes
returns-clause-changes g c = λ is. let parts : Parts {T = ℕ} (g.D.Disk.shown c.args.disk.now) (g.D.Disk.shown c.judge_removal.new.disk) (g.D.Disk.shown c.drop_file.new.disk) c.args.pool.now c.judge_removal.new.pool c.drop_file.new.pool c.args.self.now c.judge_removal.new.volume c.drop_file.new.volume c.count_removed.new.volume (Ok c.in_ok-count.count) c.removal_delta-delta.result = parts_of c.judge_removal.ensures.reads c.judge_removal.ensures.same c.in_ok-count.ensures.alters c.count_removed.ensures.others c.count_removed.ensures.now c.count_removed.ensures.ledger c.count_removed.ensures.machine in rm_is (g.D.Disk.shown c.args.disk.now) (g.D.Disk.shown c.judge_removal.new.disk) (g.D.Disk.shown c.drop_file.new.disk) c.args.pool.now c.judge_removal.new.pool c.drop_file.new.pool c.args.self.now c.judge_removal.new.volume c.drop_file.new.volume c.count_removed.new.volume c.removal_delta-delta.result c.in_ok-count.count parts is c.requires.ready c.args.others c.args.file.now c.in_ok-removing.removing.info c.in_ok-removing.removing.delta (c.in_ok-removing.ensures.accepted is) c.in_ok-count.ensures.removed c.in_ok-count.ensures.counted (subst (λ (l : Ledger). IsDeltaBy l c.in_ok-removing.removing.delta c.in_ok-count.count c.removal_delta-delta.result) (left_ledger c.args.self.now c.judge_removal.new.volume c.drop_file.new.volume c.judge_removal.ensures.same c.in_ok-count.ensures.alters.same) c.removal_delta-delta.ensures.by) c.count_removed.ensures.lacks

pub count_removed-requires : goal.count_removed-requires
count_removed-requires g c = record { fits = removal_fits (g.D.Disk.shown c.drop_file.new.disk) c.drop_file.new.pool c.drop_file.new.volume (left_ready (g.D.Disk.shown c.args.disk.now) (g.D.Disk.shown c.judge_removal.new.disk) (g.D.Disk.shown c.drop_file.new.disk) c.args.pool.now c.judge_removal.new.pool c.drop_file.new.pool c.judge_removal.ensures.reads c.args.self.now c.judge_removal.new.volume c.drop_file.new.volume c.judge_removal.ensures.same (Ok c.in_ok-count.count) c.in_ok-count.ensures.alters c.requires.ready) (left_more c.args.self.now c.judge_removal.new.volume c.drop_file.new.volume c.judge_removal.ensures.same c.in_ok-count.ensures.alters.same c.in_ok-removing.ensures.more) c.in_ok-removing.removing.delta c.in_ok-count.count c.removal_delta-delta.result c.removal_delta-delta.ensures.by (each_fits c.in_ok-removing.removing.delta c.args.self.now c.drop_file.new.volume (λ by. left_fits (g.D.Disk.shown c.args.disk.now) (g.D.Disk.shown c.judge_removal.new.disk) (g.D.Disk.shown c.drop_file.new.disk) c.args.pool.now c.judge_removal.new.pool c.drop_file.new.pool c.judge_removal.ensures.reads c.args.self.now c.judge_removal.new.volume c.drop_file.new.volume c.judge_removal.ensures.same (Ok c.in_ok-count.count) c.in_ok-count.ensures.alters by) c.in_ok-removing.ensures.fits) }

pub returns-in_err-removing-clause-head : goal.returns-in_err-removing-clause-head
returns-in_err-removing-clause-head g c = refused_head (g.D.Disk.shown c.args.disk.now) (g.D.Disk.shown c.judge_removal.new.disk) c.args.pool.now c.judge_removal.new.pool c.judge_removal.ensures.reads c.args.self.now c.judge_removal.new.volume c.judge_removal.ensures.same c.from_residual.result c.in_err-removing.field-0.0 (search rules)

pub returns-clause-standing : goal.returns-clause-standing
returns-clause-standing g c = λ is. let parts : Parts {T = ℕ} (g.D.Disk.shown c.args.disk.now) (g.D.Disk.shown c.judge_removal.new.disk) (g.D.Disk.shown c.drop_file.new.disk) c.args.pool.now c.judge_removal.new.pool c.drop_file.new.pool c.args.self.now c.judge_removal.new.volume c.drop_file.new.volume c.count_removed.new.volume (Ok c.in_ok-count.count) c.removal_delta-delta.result = parts_of c.judge_removal.ensures.reads c.judge_removal.ensures.same c.in_ok-count.ensures.alters c.count_removed.ensures.others c.count_removed.ensures.now c.count_removed.ensures.ledger c.count_removed.ensures.machine in rm_stands (g.D.Disk.shown c.args.disk.now) (g.D.Disk.shown c.judge_removal.new.disk) (g.D.Disk.shown c.drop_file.new.disk) c.args.pool.now c.judge_removal.new.pool c.drop_file.new.pool c.args.self.now c.judge_removal.new.volume c.drop_file.new.volume c.count_removed.new.volume c.removal_delta-delta.result c.in_ok-count.count parts is c.requires.ready c.args.others c.args.file.now c.in_ok-removing.removing.info c.in_ok-removing.removing.delta (c.in_ok-removing.ensures.accepted is) c.in_ok-count.ensures.removed c.in_ok-count.ensures.counted (subst (λ (l : Ledger). IsDeltaBy l c.in_ok-removing.removing.delta c.in_ok-count.count c.removal_delta-delta.result) (left_ledger c.args.self.now c.judge_removal.new.volume c.drop_file.new.volume c.judge_removal.ensures.same c.in_ok-count.ensures.alters.same) c.removal_delta-delta.ensures.by) c.count_removed.ensures.lacks

pub returns-in_err-count-clause-refused : goal.returns-in_err-count-clause-refused
returns-in_err-count-clause-refused g c = λ is. if_err_is _ (of_block c.in_err-count.field-0.0) c.from_residual-in_err-count.result (search rules) (λ m has. no_refusal (Unit {0}) m _ c.in_err-count.field-0.0)

pub returns-in_err-count-clause-head : goal.returns-in_err-count-clause-head
returns-in_err-count-clause-head g c = failed_head (g.D.Disk.shown c.args.disk.now) (g.D.Disk.shown c.judge_removal.new.disk) (g.D.Disk.shown c.drop_file.new.disk) c.args.pool.now c.judge_removal.new.pool c.drop_file.new.pool c.judge_removal.ensures.reads c.args.self.now c.judge_removal.new.volume c.drop_file.new.volume c.judge_removal.ensures.same c.in_err-count.field-0.0 c.in_err-count.ensures.alters c.from_residual-in_err-count.result (search rules)

pub returns-clause-ready : goal.returns-clause-ready
returns-clause-ready g c = let parts : Parts {T = ℕ} (g.D.Disk.shown c.args.disk.now) (g.D.Disk.shown c.judge_removal.new.disk) (g.D.Disk.shown c.drop_file.new.disk) c.args.pool.now c.judge_removal.new.pool c.drop_file.new.pool c.args.self.now c.judge_removal.new.volume c.drop_file.new.volume c.count_removed.new.volume (Ok c.in_ok-count.count) c.removal_delta-delta.result = parts_of c.judge_removal.ensures.reads c.judge_removal.ensures.same c.in_ok-count.ensures.alters c.count_removed.ensures.others c.count_removed.ensures.now c.count_removed.ensures.ledger c.count_removed.ensures.machine in done_ready (g.D.Disk.shown c.args.disk.now) (g.D.Disk.shown c.judge_removal.new.disk) (g.D.Disk.shown c.drop_file.new.disk) c.args.pool.now c.judge_removal.new.pool c.drop_file.new.pool c.args.self.now c.judge_removal.new.volume c.drop_file.new.volume c.count_removed.new.volume (Ok c.in_ok-count.count) c.removal_delta-delta.result parts c.requires.ready (removal_fits (g.D.Disk.shown c.drop_file.new.disk) c.drop_file.new.pool c.drop_file.new.volume (left_ready (g.D.Disk.shown c.args.disk.now) (g.D.Disk.shown c.judge_removal.new.disk) (g.D.Disk.shown c.drop_file.new.disk) c.args.pool.now c.judge_removal.new.pool c.drop_file.new.pool c.judge_removal.ensures.reads c.args.self.now c.judge_removal.new.volume c.drop_file.new.volume c.judge_removal.ensures.same (Ok c.in_ok-count.count) c.in_ok-count.ensures.alters c.requires.ready) (left_more c.args.self.now c.judge_removal.new.volume c.drop_file.new.volume c.judge_removal.ensures.same c.in_ok-count.ensures.alters.same c.in_ok-removing.ensures.more) c.in_ok-removing.removing.delta c.in_ok-count.count c.removal_delta-delta.result c.removal_delta-delta.ensures.by (each_fits c.in_ok-removing.removing.delta c.args.self.now c.drop_file.new.volume (λ by. left_fits (g.D.Disk.shown c.args.disk.now) (g.D.Disk.shown c.judge_removal.new.disk) (g.D.Disk.shown c.drop_file.new.disk) c.args.pool.now c.judge_removal.new.pool c.drop_file.new.pool c.judge_removal.ensures.reads c.args.self.now c.judge_removal.new.volume c.drop_file.new.volume c.judge_removal.ensures.same (Ok c.in_ok-count.count) c.in_ok-count.ensures.alters by) c.in_ok-removing.ensures.fits))

pub returns-clause-head : goal.returns-clause-head
returns-clause-head g c = let parts : Parts {T = ℕ} (g.D.Disk.shown c.args.disk.now) (g.D.Disk.shown c.judge_removal.new.disk) (g.D.Disk.shown c.drop_file.new.disk) c.args.pool.now c.judge_removal.new.pool c.drop_file.new.pool c.args.self.now c.judge_removal.new.volume c.drop_file.new.volume c.count_removed.new.volume (Ok c.in_ok-count.count) c.removal_delta-delta.result = parts_of c.judge_removal.ensures.reads c.judge_removal.ensures.same c.in_ok-count.ensures.alters c.count_removed.ensures.others c.count_removed.ensures.now c.count_removed.ensures.ledger c.count_removed.ensures.machine in done_head (g.D.Disk.shown c.args.disk.now) (g.D.Disk.shown c.judge_removal.new.disk) (g.D.Disk.shown c.drop_file.new.disk) c.args.pool.now c.judge_removal.new.pool c.drop_file.new.pool c.args.self.now c.judge_removal.new.volume c.drop_file.new.volume c.count_removed.new.volume (Ok c.in_ok-count.count) c.removal_delta-delta.result parts

pub drop_file-requires-clause-there : goal.drop_file-requires-clause-there
drop_file-requires-clause-there g c = known_after (g.D.Disk.shown c.args.disk.now) (g.D.Disk.shown c.judge_removal.new.disk) c.args.pool.now c.judge_removal.new.pool c.judge_removal.ensures.reads c.args.self.now Active c.judge_removal.new.volume c.judge_removal.ensures.same (λ (s : Standing). IsInfoOf s.inode c.in_ok-removing.removing.info) c.in_ok-removing.ensures.found

pub returns-in_err-removing-clause-told : goal.returns-in_err-removing-clause-told
returns-in_err-removing-clause-told g c = λ tells. onerr_so _ c.from_residual.result (refused_told (g.D.Disk.shown c.args.disk.now) (g.D.Disk.shown c.judge_removal.new.disk) c.args.pool.now c.judge_removal.new.pool c.judge_removal.ensures.reads c.args.self.now c.judge_removal.new.volume c.judge_removal.ensures.same)

pub returns-in_err-count-clause-told : goal.returns-in_err-count-clause-told
returns-in_err-count-clause-told g c = λ tells. onerr_so _ c.from_residual-in_err-count.result (failed_told (g.D.Disk.shown c.args.disk.now) (g.D.Disk.shown c.judge_removal.new.disk) (g.D.Disk.shown c.drop_file.new.disk) c.args.pool.now c.judge_removal.new.pool c.drop_file.new.pool c.judge_removal.ensures.reads c.args.self.now c.judge_removal.new.volume c.drop_file.new.volume c.judge_removal.ensures.same c.in_err-count.field-0.0 c.in_err-count.ensures.alters tells)
