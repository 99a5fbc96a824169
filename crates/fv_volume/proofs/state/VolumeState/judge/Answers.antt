use Rattle.fv_volume.proofs.Commanded.{accepted_within, of_cut, of_put, of_removal, refused_beside}
use Rattle.fv_volume.proofs.state.VolumeState.judge.Goals as goal

pub returns-in-Err-judge_put-clause-agrees : goal.returns-in-Err-judge_put-clause-agrees
returns-in-Err-judge_put-clause-agrees g c = λ is m has.
    refused_beside c.args.self.now.name _ c.args.others c.args.pool.now.found.blocks _ c.args.command.now (of_put c.args.command.now c.args.self.now.name _ _ _ _ c.in-Put.is c.requires.change)
    c.in-Err-judge_put.fault (c.in-Err-judge_put.ensures.refused is _) m has

pub returns-in-Ok-judge_cut-clause-agrees : goal.returns-in-Ok-judge_cut-clause-agrees
returns-in-Ok-judge_cut-clause-agrees g c = λ is m has.
    accepted_within c.args.self.now.name _ c.args.others c.args.pool.now.found.blocks _ c.args.command.now (of_cut c.args.command.now c.args.self.now.name _ _ _ c.in-Cut.is c.requires.change)
    (c.in-Ok-judge_cut.ensures.accepted is).accepted m has

pub returns-in-Ok-judge_removal-clause-agrees : goal.returns-in-Ok-judge_removal-clause-agrees
returns-in-Ok-judge_removal-clause-agrees g c = λ is m has.
    accepted_within c.args.self.now.name _ c.args.others c.args.pool.now.found.blocks _ c.args.command.now (of_removal c.args.command.now c.args.self.now.name _ _ c.in-Remove.is c.requires.change)
    (c.in-Ok-judge_removal.ensures.accepted is).accepted m has
