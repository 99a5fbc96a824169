use Rattle.fv_volume.proofs.Promised.{guarantee_promises}
use Rattle.fv_volume.proofs.state.VolumeState.guarantee.Goals as goal

pub returns : goal.returns
returns c = guarantee_promises c.args.self.now c.args.blocks c.args.others c.requires.labelled c.args.kind c.promise.new.volume c.promise.result
    c.promise.ensures.done c.promise.ensures.stays c.promise.ensures.fits c.promise.ensures.machine
