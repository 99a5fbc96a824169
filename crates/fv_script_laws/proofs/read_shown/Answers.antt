use Rattle.fv_script_laws.proofs.Shown.{read_as}
use Rattle.fv_script_laws.proofs.read_shown.Goals as goal

pub returns : goal.returns
returns c = λ command can range is. read_as _ command _ c.read_line.ensures can range is
