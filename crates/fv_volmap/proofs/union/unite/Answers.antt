use Rattle.fv_volmap.proofs.Rows.{unites_bare}
use Rattle.fv_volmap.proofs.union.unite.Goals as goal

pub returns-in_default-clause-unites : goal.returns-in_default-clause-unites
returns-in_default-clause-unites c = unites_bare c.args.active.now c.args.others.now c.args.union.now c.in_default.is c.requires.bare
