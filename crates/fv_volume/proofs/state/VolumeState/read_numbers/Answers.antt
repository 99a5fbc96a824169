use Rattle.std.proofs.Common.{Some, sym, subst}
use Rattle.fv_volume.specs.declared.state.VolumeState.{VolumeState}
use Rattle.fv_volume.specs.OneVolume.{IsReady, IsStanding}
use Rattle.fv_volume.proofs.Calling.{refused_standing}
use Rattle.fv_volume.proofs.Numbered.{ready_with, standing_with}
use Rattle.fv_volume.proofs.OneVolumes.{still_ready, still_standing}
use Rattle.fv_volume.proofs.state.VolumeState.read_numbers.Goals as goal

pub returns-in_err-numbers-clause-standing : goal.returns-in_err-numbers-clause-standing
returns-in_err-numbers-clause-standing g c = refused_standing (g.D.Disk.shown c.args.disk.now) (g.D.Disk.shown c.count_files.new.disk) c.args.pool.now c.count_files.new.pool c.count_files.ensures.reads c.args.self.now c.count_files.new.volume c.count_files.ensures.same

pub returns-clause-standing : goal.returns-clause-standing
returns-clause-standing g c = λ is.
    let d = g.D.Disk.shown c.args.disk.now in
    let e = g.D.Disk.shown c.count_files.new.disk in
    let numbers = Some c.in_ok-numbers.numbers in
    subst (λ (z : VolumeState). IsStanding e c.count_files.new.pool (record z { numbers = numbers })) (sym c.count_files.ensures.same)
    (still_standing d e c.args.pool.now c.count_files.new.pool c.count_files.ensures.reads (record c.args.self.now { numbers = numbers }) (standing_with d c.args.pool.now c.args.self.now numbers is (c.in_ok-numbers.ensures.numbers is)))

pub returns-clause-ready : goal.returns-clause-ready
returns-clause-ready g c =
    let d = g.D.Disk.shown c.args.disk.now in
    let e = g.D.Disk.shown c.count_files.new.disk in
    let numbers = Some c.in_ok-numbers.numbers in
    subst (λ (z : VolumeState). IsReady e c.count_files.new.pool (record z { numbers = numbers })) (sym c.count_files.ensures.same)
    (still_ready d e c.args.pool.now c.count_files.new.pool c.count_files.ensures.reads (record c.args.self.now { numbers = numbers }) (ready_with d c.args.pool.now c.args.self.now numbers c.requires.ready))
