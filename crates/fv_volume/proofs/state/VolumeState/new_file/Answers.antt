use Rattle.std.proofs.Common.{Ok, rules}
use Rattle.fv_tables.specs.Told.{Standing}
use Rattle.fv_inode.specs.Files.{IsLeastFree}
use Rattle.fv_model.specs.declared.commands.Command.TheVariants.{New}
use Rattle.fv_volume.specs.Calls.{HasBeside}
use Rattle.fv_volume.specs.OneVolume.{volume_for}
use Rattle.fv_volume.specs.declared.tables.TableAsked.TheVariants.{Active}
use Rattle.fv_volume.proofs.RightTables.{known_after}
use Rattle.fv_volume.proofs.CallCauses.{failed_change_cause}
use Rattle.fv_volume.proofs.Calling.{failed_told, onerr_so, refused_told, counted_table, left_table, left_fits, failed_changes, failed_head, refused_changes, refused_head, done_head, done_ready, Parts, parts_of, refused_standing, refused_table, failed_stands, left_ready}
use Rattle.fv_volume.proofs.MadeNew.{new_is, new_stands}
use Rattle.fv_volume.proofs.state.VolumeState.new_file.Given as given
use Rattle.fv_volume.proofs.state.VolumeState.new_file.Goals as goal

pub returns-in_err-making-clause-changes : goal.returns-in_err-making-clause-changes
returns-in_err-making-clause-changes g c = λ is. refused_changes (g.D.Disk.shown c.args.disk.now) (g.D.Disk.shown c.judge_new.new.disk) c.args.pool.now c.judge_new.new.pool c.judge_new.ensures.reads c.args.self.now c.judge_new.new.volume c.judge_new.ensures.same (HasBeside c.args.self.now.name (volume_for (g.D.Disk.shown c.args.disk.now) c.args.pool.now c.args.self.now) c.args.others c.args.pool.now.found.blocks) (New c.args.self.now.name c.args.file.now c.args.reserve) c.from_residual.result c.in_err-making.field-0.0 (search rules) (c.in_err-making.ensures.refused is)

pub returns-in_err-making-clause-standing : goal.returns-in_err-making-clause-standing
returns-in_err-making-clause-standing g c = λ is. refused_standing (g.D.Disk.shown c.args.disk.now) (g.D.Disk.shown c.judge_new.new.disk) c.args.pool.now c.judge_new.new.pool c.judge_new.ensures.reads c.args.self.now c.judge_new.new.volume c.judge_new.ensures.same is

pub returns-in_err-making-clause-table : goal.returns-in_err-making-clause-table
returns-in_err-making-clause-table g c = λ is. refused_table (g.D.Disk.shown c.args.disk.now) (g.D.Disk.shown c.judge_new.new.disk) c.args.pool.now c.judge_new.new.pool c.judge_new.ensures.reads c.args.self.now c.judge_new.new.volume c.judge_new.ensures.same

pub returns-in_err-create_file-clause-cause : goal.returns-in_err-create_file-clause-cause
returns-in_err-create_file-clause-cause g c = failed_change_cause (g.D.Disk.shown c.args.disk.now) (g.D.Disk.shown c.judge_new.new.disk) c.args.pool.now c.judge_new.new.pool c.judge_new.ensures.reads c.args.self.now c.judge_new.new.volume c.judge_new.ensures.same c.in_ok-making.ensures.cause (g.D.Disk.shown c.create_file.new.disk).faults c.in_err-create_file.field-0.0 c.from_residual-in_err-create_file.result (search rules) c.in_err-create_file.ensures.cause

pub returns-in_err-create_file-clause-changes : goal.returns-in_err-create_file-clause-changes
returns-in_err-create_file-clause-changes g c = λ is. failed_changes (g.D.Disk.shown c.args.disk.now) (g.D.Disk.shown c.judge_new.new.disk) (g.D.Disk.shown c.create_file.new.disk) c.args.pool.now c.judge_new.new.pool c.create_file.new.pool c.judge_new.ensures.reads c.args.self.now c.judge_new.new.volume c.create_file.new.volume c.judge_new.ensures.same c.in_err-create_file.field-0.0 c.in_err-create_file.ensures.alters is (HasBeside c.args.self.now.name (volume_for (g.D.Disk.shown c.args.disk.now) c.args.pool.now c.args.self.now) c.args.others c.args.pool.now.found.blocks) (New c.args.self.now.name c.args.file.now c.args.reserve) c.from_residual-in_err-create_file.result (search rules)

pub returns-clause-table : goal.returns-clause-table
returns-clause-table g c = λ is. counted_table (g.D.Disk.shown c.args.disk.now) c.args.pool.now c.args.self.now (g.D.Disk.shown c.create_file.new.disk) c.create_file.new.pool c.create_file.new.volume c.count_made.new.volume c.count_made.ensures.others (left_table (g.D.Disk.shown c.args.disk.now) (g.D.Disk.shown c.judge_new.new.disk) (g.D.Disk.shown c.create_file.new.disk) c.args.pool.now c.judge_new.new.pool c.create_file.new.pool c.judge_new.ensures.reads c.args.self.now c.judge_new.new.volume c.create_file.new.volume c.judge_new.ensures.same (Ok tt) c.in_ok-create_file.ensures.alters is)

pub returns-in_err-create_file-clause-standing : goal.returns-in_err-create_file-clause-standing
returns-in_err-create_file-clause-standing g c = λ is. failed_stands (g.D.Disk.shown c.args.disk.now) (g.D.Disk.shown c.judge_new.new.disk) (g.D.Disk.shown c.create_file.new.disk) c.args.pool.now c.judge_new.new.pool c.create_file.new.pool c.judge_new.ensures.reads c.args.self.now c.judge_new.new.volume c.create_file.new.volume c.judge_new.ensures.same c.in_err-create_file.field-0.0 c.in_err-create_file.ensures.alters is

pub returns-in_err-create_file-clause-ready : goal.returns-in_err-create_file-clause-ready
returns-in_err-create_file-clause-ready g c = left_ready (g.D.Disk.shown c.args.disk.now) (g.D.Disk.shown c.judge_new.new.disk) (g.D.Disk.shown c.create_file.new.disk) c.args.pool.now c.judge_new.new.pool c.create_file.new.pool c.judge_new.ensures.reads c.args.self.now c.judge_new.new.volume c.create_file.new.volume c.judge_new.ensures.same _ c.in_err-create_file.ensures.alters c.requires.ready

-- the parts of a change that was made
parts : (g : given.Over) (c : goal.After-count_made g) → Parts {T = Unit {0}} (g.D.Disk.shown c.args.disk.now) (g.D.Disk.shown c.judge_new.new.disk) (g.D.Disk.shown c.create_file.new.disk) c.args.pool.now c.judge_new.new.pool c.create_file.new.pool c.args.self.now c.judge_new.new.volume c.create_file.new.volume c.count_made.new.volume (Ok tt) c.in_ok-making.making.delta
parts g c = parts_of c.judge_new.ensures.reads c.judge_new.ensures.same c.in_ok-create_file.ensures.alters c.count_made.ensures.others c.count_made.ensures.now c.count_made.ensures.ledger c.count_made.ensures.machine

pub count_made-requires : goal.count_made-requires
count_made-requires g c = record { fits = left_fits (g.D.Disk.shown c.args.disk.now) (g.D.Disk.shown c.judge_new.new.disk) (g.D.Disk.shown c.create_file.new.disk) c.args.pool.now c.judge_new.new.pool c.create_file.new.pool c.judge_new.ensures.reads c.args.self.now c.judge_new.new.volume c.create_file.new.volume c.judge_new.ensures.same (Ok tt) c.in_ok-create_file.ensures.alters c.in_ok-making.making.delta c.in_ok-making.ensures.fits }

pub returns-in_err-making-clause-head : goal.returns-in_err-making-clause-head
returns-in_err-making-clause-head g c = refused_head (g.D.Disk.shown c.args.disk.now) (g.D.Disk.shown c.judge_new.new.disk) c.args.pool.now c.judge_new.new.pool c.judge_new.ensures.reads c.args.self.now c.judge_new.new.volume c.judge_new.ensures.same c.from_residual.result c.in_err-making.field-0.0 (search rules)

pub returns-clause-changes : goal.returns-clause-changes
returns-clause-changes g c = λ is. new_is (g.D.Disk.shown c.args.disk.now) (g.D.Disk.shown c.judge_new.new.disk) (g.D.Disk.shown c.create_file.new.disk) c.args.pool.now c.judge_new.new.pool c.create_file.new.pool c.args.self.now c.judge_new.new.volume c.create_file.new.volume c.count_made.new.volume c.in_ok-making.making.delta (parts g c) is c.requires.ready c.args.others c.args.file.now c.args.reserve c.in_ok-making.making.number c.in_ok-making.ensures.none (c.in_ok-making.ensures.accepted is) c.in_ok-create_file.ensures.made c.count_made.ensures.tells

pub returns-in_err-create_file-clause-head : goal.returns-in_err-create_file-clause-head
returns-in_err-create_file-clause-head g c = failed_head (g.D.Disk.shown c.args.disk.now) (g.D.Disk.shown c.judge_new.new.disk) (g.D.Disk.shown c.create_file.new.disk) c.args.pool.now c.judge_new.new.pool c.create_file.new.pool c.judge_new.ensures.reads c.args.self.now c.judge_new.new.volume c.create_file.new.volume c.judge_new.ensures.same c.in_err-create_file.field-0.0 c.in_err-create_file.ensures.alters c.from_residual-in_err-create_file.result (search rules)

pub returns-clause-standing : goal.returns-clause-standing
returns-clause-standing g c = λ is. new_stands (g.D.Disk.shown c.args.disk.now) (g.D.Disk.shown c.judge_new.new.disk) (g.D.Disk.shown c.create_file.new.disk) c.args.pool.now c.judge_new.new.pool c.create_file.new.pool c.args.self.now c.judge_new.new.volume c.create_file.new.volume c.count_made.new.volume c.in_ok-making.making.delta (parts g c) is c.requires.ready c.args.others c.args.file.now c.args.reserve c.in_ok-making.making.number c.in_ok-making.ensures.none (c.in_ok-making.ensures.accepted is) c.in_ok-create_file.ensures.made c.count_made.ensures.tells

pub returns-clause-ready : goal.returns-clause-ready
returns-clause-ready g c = done_ready (g.D.Disk.shown c.args.disk.now) (g.D.Disk.shown c.judge_new.new.disk) (g.D.Disk.shown c.create_file.new.disk) c.args.pool.now c.judge_new.new.pool c.create_file.new.pool c.args.self.now c.judge_new.new.volume c.create_file.new.volume c.count_made.new.volume (Ok tt) c.in_ok-making.making.delta (parts g c) c.requires.ready (left_fits (g.D.Disk.shown c.args.disk.now) (g.D.Disk.shown c.judge_new.new.disk) (g.D.Disk.shown c.create_file.new.disk) c.args.pool.now c.judge_new.new.pool c.create_file.new.pool c.judge_new.ensures.reads c.args.self.now c.judge_new.new.volume c.create_file.new.volume c.judge_new.ensures.same (Ok tt) c.in_ok-create_file.ensures.alters c.in_ok-making.making.delta c.in_ok-making.ensures.fits)

pub returns-clause-head : goal.returns-clause-head
returns-clause-head g c = done_head (g.D.Disk.shown c.args.disk.now) (g.D.Disk.shown c.judge_new.new.disk) (g.D.Disk.shown c.create_file.new.disk) c.args.pool.now c.judge_new.new.pool c.create_file.new.pool c.args.self.now c.judge_new.new.volume c.create_file.new.volume c.count_made.new.volume (Ok tt) c.in_ok-making.making.delta (parts g c)

pub create_file-requires-clause-free : goal.create_file-requires-clause-free
create_file-requires-clause-free g c = known_after (g.D.Disk.shown c.args.disk.now) (g.D.Disk.shown c.judge_new.new.disk) c.args.pool.now c.judge_new.new.pool c.judge_new.ensures.reads c.args.self.now Active c.judge_new.new.volume c.judge_new.ensures.same (λ (s : Standing). IsLeastFree s.inode c.in_ok-making.making.number) c.in_ok-making.ensures.free

pub returns-in_err-making-clause-told : goal.returns-in_err-making-clause-told
returns-in_err-making-clause-told g c = λ tells. onerr_so _ c.from_residual.result (refused_told (g.D.Disk.shown c.args.disk.now) (g.D.Disk.shown c.judge_new.new.disk) c.args.pool.now c.judge_new.new.pool c.judge_new.ensures.reads c.args.self.now c.judge_new.new.volume c.judge_new.ensures.same)

pub returns-in_err-create_file-clause-told : goal.returns-in_err-create_file-clause-told
returns-in_err-create_file-clause-told g c = λ tells. onerr_so _ c.from_residual-in_err-create_file.result (failed_told (g.D.Disk.shown c.args.disk.now) (g.D.Disk.shown c.judge_new.new.disk) (g.D.Disk.shown c.create_file.new.disk) c.args.pool.now c.judge_new.new.pool c.create_file.new.pool c.judge_new.ensures.reads c.args.self.now c.judge_new.new.volume c.create_file.new.volume c.judge_new.ensures.same c.in_err-create_file.field-0.0 c.in_err-create_file.ensures.alters tells)
