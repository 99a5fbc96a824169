use Rattle.std.proofs.Common.{◌+◌, ap, refl}
use Rattle.fv_third_pass.specs.Volumes.{root_of}
use Rattle.fv_fourth_pass.proofs.Gaining.{gains_one}
use Rattle.fv_fourth_pass.proofs.tables.show_root.Goals as goal

pub returns-clause-gains : goal.returns-clause-gains
returns-clause-gains g c = λ fits.
    gains_one (g.S.Source.volume c.args.source.now) c.args.label (root_of c.args.root.now) c.args.both.now.second _ c.walk.new.visitor.second refl refl (ap (λ n. n + 1) c.from.ensures)
    (c.in_ok-walk.ensures.saw fits).1
