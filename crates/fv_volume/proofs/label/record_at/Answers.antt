use Rattle.std.proofs.Common.{◌∙◌, None, Some}
use Rattle.fv_volume.proofs.SnapRecords.{record_found}
use Rattle.fv_volume.proofs.label.record_at.Goals as goal

pub returns-in-Some : goal.returns-in-Some
returns-in-Some c = c.record_of.ensures ∙ record_found c.args.snaps.now c.args.slot (Some c.in-Some.snap.now) c.in-Some.ensures

pub returns-in-None : goal.returns-in-None
returns-in-None c = record_found c.args.snaps.now c.args.slot None c.in-None.ensures
