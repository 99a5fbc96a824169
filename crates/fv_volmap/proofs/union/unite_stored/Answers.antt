use Rattle.std.proofs.Common.{length}
use Rattle.fv_volmap.specs.Kept.{union_or}
use Rattle.fv_volmap.proofs.Rows.{front_bare, front_long, stored_unites}
use Rattle.fv_volmap.proofs.union.unite_stored.Goals as goal

pub unite-requires-clause-others : goal.unite-requires-clause-others
unite-requires-clause-others c = front_long (length c.args.active.now) c.args.used c.args.others.now c.requires.others

pub unite-requires-clause-bare : goal.unite-requires-clause-bare
unite-requires-clause-bare c = front_bare c.args.others.now c.args.used c.args.union.now c.requires.bare

pub returns-clause-unites : goal.returns-clause-unites
returns-clause-unites c = stored_unites c.args.active.now c.args.others.now c.args.used (union_or c.args.active.now c.unite.new.union) c.requires.used c.unite.ensures.unites
