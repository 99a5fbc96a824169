use Rattle.fv_laws.proofs.Sound.{room}
use Rattle.fv_laws.proofs.laws.reserves_hold.Goals as goal

pub returns : goal.returns
returns c = room
