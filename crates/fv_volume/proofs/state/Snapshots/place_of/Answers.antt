use Rattle.std.proofs.Common.{◌∙◌}
use Rattle.fv_volume.proofs.Positions.{first_of, last_of}
use Rattle.fv_volume.proofs.state.Snapshots.place_of.Goals as goal

pub returns-in-Some-clause-place : goal.returns-in-Some-clause-place
returns-in-Some-clause-place c = first_of _ c.args.self.now c.in-Some.place c.in-Some.ensures

pub returns-in-None-clause-place : goal.returns-in-None-clause-place
returns-in-None-clause-place c = c.len.ensures ∙ last_of _ c.args.self.now c.in-None.ensures
