use Rattle.std.proofs.Common.{sym, ◌∙◌}
use Rattle.fv_volume.proofs.Promised.{resize_promises, resize_refused}
use Rattle.fv_volume.proofs.state.VolumeState.resize.Goals as goal

pub returns-then-not-is_within : goal.returns-then-not-is_within
returns-then-not-is_within c = resize_refused c.args.self.now c.args.blocks c.args.others c.requires.labelled c.args.size (sym c.is_within.ensures ∙ c.if-not-is_within.true)

pub returns : goal.returns
returns c = resize_promises c.args.self.now c.args.blocks c.args.others c.requires.labelled c.args.size c.promise.new.volume c.promise.result
    (sym c.is_within.ensures ∙ c.if-not-is_within.false) c.promise.ensures.done c.promise.ensures.stays c.promise.ensures.fits c.promise.ensures.machine
