use Rattle.fv_laws.proofs.Alike.{isolated}
use Rattle.fv_laws.proofs.laws.home_alone_decides.Goals as goal

pub returns : goal.returns
returns c = isolated
