use Rattle.fv_volume.proofs.Loaded.{head_from}
use Rattle.fv_volume.proofs.state.VolumeState.of_label.Goals as goal

pub returns-clause-head : goal.returns-clause-head
returns-clause-head c = head_from c.args.label.now c.name_of.result c.kind_of-kind.result c.base_of.result c.args.snapshots c.name_of.ensures.name c.kind_of-kind.ensures c.base_of.ensures.said c.requires.said
