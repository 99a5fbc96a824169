use Rattle.std.proofs.Common.{sym, ◌∙◌, arith}
use Rattle.fv_script.proofs.Generating.{one_left}
use Rattle.fv_script.proofs.generate.Generator.next_into.Goals as goal

pub returns : goal.returns
returns c = sym c.self.view_is ∙ one_left c.self.inside.opened c.self.inside.left c.self.inside.state c.command.new.state c.command.new.into
    (omega (arith, c.if-self-le-FILES.false)) c.self.invariant (omega (arith, c.if-self-eq0.false)) c.command.ensures
