use Rattle.fv_root.proofs.Finding.{said_in_range}
use Rattle.fv_root.proofs.find.read_root.Goals as goal

pub returns-clause-root : goal.returns-clause-root
returns-clause-root g c = said_in_range _ _ _ c.in_ok-root_in.ensures
