use Rattle.std.proofs.Common.{ℕ, Ok, rules, subst, ap, ◌∙◌}
use Rattle.fv_tables.specs.Told.{Standing}
use Rattle.fv_files.specs.Tables.{IsInfoOf}
use Rattle.fv_model.specs.declared.commands.Command.TheVariants.{Cut}
use Rattle.fv_charge.specs.declared.ledger.Ledger.{Ledger}
use Rattle.fv_volume.specs.declared.state.VolumeState.{VolumeState}
use Rattle.fv_volume.specs.Calls.{HasWithin}
use Rattle.fv_pool.specs.Causes.{of_block}
use Rattle.fv_volume.specs.OneVolume.{volume_for}
use Rattle.fv_volume.specs.declared.tables.TableAsked.TheVariants.{Active}
use Rattle.fv_volume.proofs.RightTables.{known_after}
use Rattle.fv_volume.proofs.CallCauses.{failed_change_cause}
use Rattle.fv_volume.proofs.Calling.{failed_told, onerr_so, refused_told, counted_all, counted_table, kept_numbers, left_fits, left_table, left_ledger, left_more, failed_changes, no_refusal, failed_head, left_ready, refused_changes, refused_head, done_head, done_ready, parts_of, Parts, if_err_is, refused_standing, refused_table, failed_stands}
use Rattle.fv_volume.specs.Changing.{IsDeltaBy}
use Rattle.fv_volume.proofs.JudgedCut.{each_fits, removal_fits}
use Rattle.fv_volume.proofs.MadeCut.{cut_is, cut_stands}
use Rattle.fv_volume.proofs.state.VolumeState.cut.Goals as goal

pub returns-in_err-removing-clause-changes : goal.returns-in_err-removing-clause-changes
returns-in_err-removing-clause-changes g c = λ is. refused_changes (g.D.Disk.shown c.args.disk.now) (g.D.Disk.shown c.judge_cut.new.disk) c.args.pool.now c.judge_cut.new.pool c.judge_cut.ensures.reads c.args.self.now c.judge_cut.new.volume c.judge_cut.ensures.same (HasWithin c.args.self.now.name (volume_for (g.D.Disk.shown c.args.disk.now) c.args.pool.now c.args.self.now) c.args.others c.args.pool.now.found.blocks) (Cut c.args.self.now.name c.args.file.now c.args.length) c.from_residual.result c.in_err-removing.field-0.0 (search rules) (λ m has. c.in_err-removing.ensures.refused is m has.beside)

pub returns-in_err-removing-clause-standing : goal.returns-in_err-removing-clause-standing
returns-in_err-removing-clause-standing g c = λ is. refused_standing (g.D.Disk.shown c.args.disk.now) (g.D.Disk.shown c.judge_cut.new.disk) c.args.pool.now c.judge_cut.new.pool c.judge_cut.ensures.reads c.args.self.now c.judge_cut.new.volume c.judge_cut.ensures.same is

pub returns-in_err-removing-clause-table : goal.returns-in_err-removing-clause-table
returns-in_err-removing-clause-table g c = λ is. refused_table (g.D.Disk.shown c.args.disk.now) (g.D.Disk.shown c.judge_cut.new.disk) c.args.pool.now c.judge_cut.new.pool c.judge_cut.ensures.reads c.args.self.now c.judge_cut.new.volume c.judge_cut.ensures.same

pub returns-in_err-count-clause-changes : goal.returns-in_err-count-clause-changes
returns-in_err-count-clause-changes g c = λ is. failed_changes (g.D.Disk.shown c.args.disk.now) (g.D.Disk.shown c.judge_cut.new.disk) (g.D.Disk.shown c.cut_blocks.new.disk) c.args.pool.now c.judge_cut.new.pool c.cut_blocks.new.pool c.judge_cut.ensures.reads c.args.self.now c.judge_cut.new.volume c.cut_blocks.new.volume c.judge_cut.ensures.same c.in_err-count.field-0.0 c.in_err-count.ensures.alters is (HasWithin c.args.self.now.name (volume_for (g.D.Disk.shown c.args.disk.now) c.args.pool.now c.args.self.now) c.args.others c.args.pool.now.found.blocks) (Cut c.args.self.now.name c.args.file.now c.args.length) c.from_residual-in_err-count.result (search rules)

pub returns-in_err-count-clause-standing : goal.returns-in_err-count-clause-standing
returns-in_err-count-clause-standing g c = λ is. failed_stands (g.D.Disk.shown c.args.disk.now) (g.D.Disk.shown c.judge_cut.new.disk) (g.D.Disk.shown c.cut_blocks.new.disk) c.args.pool.now c.judge_cut.new.pool c.cut_blocks.new.pool c.judge_cut.ensures.reads c.args.self.now c.judge_cut.new.volume c.cut_blocks.new.volume c.judge_cut.ensures.same c.in_err-count.field-0.0 c.in_err-count.ensures.alters is

pub returns-in_err-count-clause-ready : goal.returns-in_err-count-clause-ready
returns-in_err-count-clause-ready g c = left_ready (g.D.Disk.shown c.args.disk.now) (g.D.Disk.shown c.judge_cut.new.disk) (g.D.Disk.shown c.cut_blocks.new.disk) c.args.pool.now c.judge_cut.new.pool c.cut_blocks.new.pool c.judge_cut.ensures.reads c.args.self.now c.judge_cut.new.volume c.cut_blocks.new.volume c.judge_cut.ensures.same _ c.in_err-count.ensures.alters c.requires.ready

pub returns-clause-table : goal.returns-clause-table
returns-clause-table g c = λ is. counted_table (g.D.Disk.shown c.args.disk.now) c.args.pool.now c.args.self.now (g.D.Disk.shown c.cut_blocks.new.disk) c.cut_blocks.new.pool c.cut_blocks.new.volume c.count_change.new.volume (counted_all c.cut_blocks.new.volume c.count_change.new.volume c.count_change.ensures.others) (left_table (g.D.Disk.shown c.args.disk.now) (g.D.Disk.shown c.judge_cut.new.disk) (g.D.Disk.shown c.cut_blocks.new.disk) c.args.pool.now c.judge_cut.new.pool c.cut_blocks.new.pool c.judge_cut.ensures.reads c.args.self.now c.judge_cut.new.volume c.cut_blocks.new.volume c.judge_cut.ensures.same (Ok c.in_ok-count.count) c.in_ok-count.ensures.alters is)

pub returns-in_err-count-clause-cause : goal.returns-in_err-count-clause-cause
returns-in_err-count-clause-cause g c = failed_change_cause (g.D.Disk.shown c.args.disk.now) (g.D.Disk.shown c.judge_cut.new.disk) c.args.pool.now c.judge_cut.new.pool c.judge_cut.ensures.reads c.args.self.now c.judge_cut.new.volume c.judge_cut.ensures.same c.in_ok-removing.ensures.cause (g.D.Disk.shown c.cut_blocks.new.disk).faults c.in_err-count.field-0.0 c.from_residual-in_err-count.result (search rules) c.in_err-count.ensures.cause

pub returns-in_err-removing-clause-refused : goal.returns-in_err-removing-clause-refused
returns-in_err-removing-clause-refused g c = λ is. if_err_is _ c.in_err-removing.field-0.0 c.from_residual.result (search rules) (c.in_err-removing.ensures.refused is)

pub returns-clause-changes : goal.returns-clause-changes
returns-clause-changes g c = λ is. let parts : Parts {T = ℕ} (g.D.Disk.shown c.args.disk.now) (g.D.Disk.shown c.judge_cut.new.disk) (g.D.Disk.shown c.cut_blocks.new.disk) c.args.pool.now c.judge_cut.new.pool c.cut_blocks.new.pool c.args.self.now c.judge_cut.new.volume c.cut_blocks.new.volume c.count_change.new.volume (Ok c.in_ok-count.count) c.removal_delta-delta.result = parts_of c.judge_cut.ensures.reads c.judge_cut.ensures.same c.in_ok-count.ensures.alters (counted_all c.cut_blocks.new.volume c.count_change.new.volume c.count_change.ensures.others) c.count_change.ensures.now c.count_change.ensures.ledger c.count_change.ensures.machine in cut_is (g.D.Disk.shown c.args.disk.now) (g.D.Disk.shown c.judge_cut.new.disk) (g.D.Disk.shown c.cut_blocks.new.disk) c.args.pool.now c.judge_cut.new.pool c.cut_blocks.new.pool c.args.self.now c.judge_cut.new.volume c.cut_blocks.new.volume c.count_change.new.volume c.removal_delta-delta.result c.in_ok-count.count parts is c.requires.ready c.args.others c.args.file.now c.args.length c.in_ok-removing.removing.info c.in_ok-removing.removing.delta (c.in_ok-removing.ensures.accepted is) c.in_ok-count.ensures.cut c.in_ok-count.ensures.counted (subst (λ (l : Ledger). IsDeltaBy l c.in_ok-removing.removing.delta c.in_ok-count.count c.removal_delta-delta.result) (left_ledger c.args.self.now c.judge_cut.new.volume c.cut_blocks.new.volume c.judge_cut.ensures.same c.in_ok-count.ensures.alters.same) c.removal_delta-delta.ensures.by) (ap (λ (z : VolumeState). z.numbers) c.count_change.ensures.others)

pub count_change-requires : goal.count_change-requires
count_change-requires g c = record { fits = removal_fits (g.D.Disk.shown c.cut_blocks.new.disk) c.cut_blocks.new.pool c.cut_blocks.new.volume (left_ready (g.D.Disk.shown c.args.disk.now) (g.D.Disk.shown c.judge_cut.new.disk) (g.D.Disk.shown c.cut_blocks.new.disk) c.args.pool.now c.judge_cut.new.pool c.cut_blocks.new.pool c.judge_cut.ensures.reads c.args.self.now c.judge_cut.new.volume c.cut_blocks.new.volume c.judge_cut.ensures.same (Ok c.in_ok-count.count) c.in_ok-count.ensures.alters c.requires.ready) (left_more c.args.self.now c.judge_cut.new.volume c.cut_blocks.new.volume c.judge_cut.ensures.same c.in_ok-count.ensures.alters.same c.in_ok-removing.ensures.more) c.in_ok-removing.removing.delta c.in_ok-count.count c.removal_delta-delta.result c.removal_delta-delta.ensures.by (each_fits c.in_ok-removing.removing.delta c.args.self.now c.cut_blocks.new.volume (λ by. left_fits (g.D.Disk.shown c.args.disk.now) (g.D.Disk.shown c.judge_cut.new.disk) (g.D.Disk.shown c.cut_blocks.new.disk) c.args.pool.now c.judge_cut.new.pool c.cut_blocks.new.pool c.judge_cut.ensures.reads c.args.self.now c.judge_cut.new.volume c.cut_blocks.new.volume c.judge_cut.ensures.same (Ok c.in_ok-count.count) c.in_ok-count.ensures.alters by) c.in_ok-removing.ensures.fits) }

pub returns-in_err-removing-clause-head : goal.returns-in_err-removing-clause-head
returns-in_err-removing-clause-head g c = refused_head (g.D.Disk.shown c.args.disk.now) (g.D.Disk.shown c.judge_cut.new.disk) c.args.pool.now c.judge_cut.new.pool c.judge_cut.ensures.reads c.args.self.now c.judge_cut.new.volume c.judge_cut.ensures.same c.from_residual.result c.in_err-removing.field-0.0 (search rules)

pub returns-clause-standing : goal.returns-clause-standing
returns-clause-standing g c = λ is. let parts : Parts {T = ℕ} (g.D.Disk.shown c.args.disk.now) (g.D.Disk.shown c.judge_cut.new.disk) (g.D.Disk.shown c.cut_blocks.new.disk) c.args.pool.now c.judge_cut.new.pool c.cut_blocks.new.pool c.args.self.now c.judge_cut.new.volume c.cut_blocks.new.volume c.count_change.new.volume (Ok c.in_ok-count.count) c.removal_delta-delta.result = parts_of c.judge_cut.ensures.reads c.judge_cut.ensures.same c.in_ok-count.ensures.alters (counted_all c.cut_blocks.new.volume c.count_change.new.volume c.count_change.ensures.others) c.count_change.ensures.now c.count_change.ensures.ledger c.count_change.ensures.machine in cut_stands (g.D.Disk.shown c.args.disk.now) (g.D.Disk.shown c.judge_cut.new.disk) (g.D.Disk.shown c.cut_blocks.new.disk) c.args.pool.now c.judge_cut.new.pool c.cut_blocks.new.pool c.args.self.now c.judge_cut.new.volume c.cut_blocks.new.volume c.count_change.new.volume c.removal_delta-delta.result c.in_ok-count.count parts is c.requires.ready c.args.others c.args.file.now c.args.length c.in_ok-removing.removing.info c.in_ok-removing.removing.delta (c.in_ok-removing.ensures.accepted is) c.in_ok-count.ensures.cut c.in_ok-count.ensures.counted (subst (λ (l : Ledger). IsDeltaBy l c.in_ok-removing.removing.delta c.in_ok-count.count c.removal_delta-delta.result) (left_ledger c.args.self.now c.judge_cut.new.volume c.cut_blocks.new.volume c.judge_cut.ensures.same c.in_ok-count.ensures.alters.same) c.removal_delta-delta.ensures.by) (ap (λ (z : VolumeState). z.numbers) c.count_change.ensures.others)

pub returns-in_err-count-clause-refused : goal.returns-in_err-count-clause-refused
returns-in_err-count-clause-refused g c = λ is. if_err_is _ (of_block c.in_err-count.field-0.0) c.from_residual-in_err-count.result (search rules) (λ m has. no_refusal (Unit {0}) m _ c.in_err-count.field-0.0)

pub returns-in_err-count-clause-head : goal.returns-in_err-count-clause-head
returns-in_err-count-clause-head g c = failed_head (g.D.Disk.shown c.args.disk.now) (g.D.Disk.shown c.judge_cut.new.disk) (g.D.Disk.shown c.cut_blocks.new.disk) c.args.pool.now c.judge_cut.new.pool c.cut_blocks.new.pool c.judge_cut.ensures.reads c.args.self.now c.judge_cut.new.volume c.cut_blocks.new.volume c.judge_cut.ensures.same c.in_err-count.field-0.0 c.in_err-count.ensures.alters c.from_residual-in_err-count.result (search rules)

pub returns-clause-ready : goal.returns-clause-ready
returns-clause-ready g c = let parts : Parts {T = ℕ} (g.D.Disk.shown c.args.disk.now) (g.D.Disk.shown c.judge_cut.new.disk) (g.D.Disk.shown c.cut_blocks.new.disk) c.args.pool.now c.judge_cut.new.pool c.cut_blocks.new.pool c.args.self.now c.judge_cut.new.volume c.cut_blocks.new.volume c.count_change.new.volume (Ok c.in_ok-count.count) c.removal_delta-delta.result = parts_of c.judge_cut.ensures.reads c.judge_cut.ensures.same c.in_ok-count.ensures.alters (counted_all c.cut_blocks.new.volume c.count_change.new.volume c.count_change.ensures.others) c.count_change.ensures.now c.count_change.ensures.ledger c.count_change.ensures.machine in done_ready (g.D.Disk.shown c.args.disk.now) (g.D.Disk.shown c.judge_cut.new.disk) (g.D.Disk.shown c.cut_blocks.new.disk) c.args.pool.now c.judge_cut.new.pool c.cut_blocks.new.pool c.args.self.now c.judge_cut.new.volume c.cut_blocks.new.volume c.count_change.new.volume (Ok c.in_ok-count.count) c.removal_delta-delta.result parts c.requires.ready (removal_fits (g.D.Disk.shown c.cut_blocks.new.disk) c.cut_blocks.new.pool c.cut_blocks.new.volume (left_ready (g.D.Disk.shown c.args.disk.now) (g.D.Disk.shown c.judge_cut.new.disk) (g.D.Disk.shown c.cut_blocks.new.disk) c.args.pool.now c.judge_cut.new.pool c.cut_blocks.new.pool c.judge_cut.ensures.reads c.args.self.now c.judge_cut.new.volume c.cut_blocks.new.volume c.judge_cut.ensures.same (Ok c.in_ok-count.count) c.in_ok-count.ensures.alters c.requires.ready) (left_more c.args.self.now c.judge_cut.new.volume c.cut_blocks.new.volume c.judge_cut.ensures.same c.in_ok-count.ensures.alters.same c.in_ok-removing.ensures.more) c.in_ok-removing.removing.delta c.in_ok-count.count c.removal_delta-delta.result c.removal_delta-delta.ensures.by (each_fits c.in_ok-removing.removing.delta c.args.self.now c.cut_blocks.new.volume (λ by. left_fits (g.D.Disk.shown c.args.disk.now) (g.D.Disk.shown c.judge_cut.new.disk) (g.D.Disk.shown c.cut_blocks.new.disk) c.args.pool.now c.judge_cut.new.pool c.cut_blocks.new.pool c.judge_cut.ensures.reads c.args.self.now c.judge_cut.new.volume c.cut_blocks.new.volume c.judge_cut.ensures.same (Ok c.in_ok-count.count) c.in_ok-count.ensures.alters by) c.in_ok-removing.ensures.fits))

pub returns-clause-head : goal.returns-clause-head
returns-clause-head g c = let parts : Parts {T = ℕ} (g.D.Disk.shown c.args.disk.now) (g.D.Disk.shown c.judge_cut.new.disk) (g.D.Disk.shown c.cut_blocks.new.disk) c.args.pool.now c.judge_cut.new.pool c.cut_blocks.new.pool c.args.self.now c.judge_cut.new.volume c.cut_blocks.new.volume c.count_change.new.volume (Ok c.in_ok-count.count) c.removal_delta-delta.result = parts_of c.judge_cut.ensures.reads c.judge_cut.ensures.same c.in_ok-count.ensures.alters (counted_all c.cut_blocks.new.volume c.count_change.new.volume c.count_change.ensures.others) c.count_change.ensures.now c.count_change.ensures.ledger c.count_change.ensures.machine in done_head (g.D.Disk.shown c.args.disk.now) (g.D.Disk.shown c.judge_cut.new.disk) (g.D.Disk.shown c.cut_blocks.new.disk) c.args.pool.now c.judge_cut.new.pool c.cut_blocks.new.pool c.args.self.now c.judge_cut.new.volume c.cut_blocks.new.volume c.count_change.new.volume (Ok c.in_ok-count.count) c.removal_delta-delta.result parts

pub cut_blocks-requires-clause-there : goal.cut_blocks-requires-clause-there
cut_blocks-requires-clause-there g c = known_after (g.D.Disk.shown c.args.disk.now) (g.D.Disk.shown c.judge_cut.new.disk) c.args.pool.now c.judge_cut.new.pool c.judge_cut.ensures.reads c.args.self.now Active c.judge_cut.new.volume c.judge_cut.ensures.same (λ (s : Standing). IsInfoOf s.inode c.in_ok-removing.removing.info) c.in_ok-removing.ensures.found

pub returns-in_err-count-clause-numbers : goal.returns-in_err-count-clause-numbers
returns-in_err-count-clause-numbers g c = kept_numbers c.args.self.now c.judge_cut.new.volume c.cut_blocks.new.volume c.judge_cut.ensures.same c.in_err-count.ensures.alters.same

pub returns-clause-numbers : goal.returns-clause-numbers
returns-clause-numbers g c = ap (λ (z : VolumeState). z.numbers) c.count_change.ensures.others ∙ kept_numbers c.args.self.now c.judge_cut.new.volume c.cut_blocks.new.volume c.judge_cut.ensures.same c.in_ok-count.ensures.alters.same

pub returns-in_err-removing-clause-told : goal.returns-in_err-removing-clause-told
returns-in_err-removing-clause-told g c = λ tells. onerr_so _ c.from_residual.result (refused_told (g.D.Disk.shown c.args.disk.now) (g.D.Disk.shown c.judge_cut.new.disk) c.args.pool.now c.judge_cut.new.pool c.judge_cut.ensures.reads c.args.self.now c.judge_cut.new.volume c.judge_cut.ensures.same)

pub returns-in_err-count-clause-told : goal.returns-in_err-count-clause-told
returns-in_err-count-clause-told g c = λ tells. onerr_so _ c.from_residual-in_err-count.result (failed_told (g.D.Disk.shown c.args.disk.now) (g.D.Disk.shown c.judge_cut.new.disk) (g.D.Disk.shown c.cut_blocks.new.disk) c.args.pool.now c.judge_cut.new.pool c.cut_blocks.new.pool c.judge_cut.ensures.reads c.args.self.now c.judge_cut.new.volume c.cut_blocks.new.volume c.judge_cut.ensures.same c.in_err-count.field-0.0 c.in_err-count.ensures.alters tells)
