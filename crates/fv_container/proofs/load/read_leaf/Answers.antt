use Rattle.fv_container.proofs.Nodes.{leaf_entries, leaf_range, no_entries, no_range, shaped_leaf}
use Rattle.fv_container.proofs.load.read_leaf.Goals as goal

pub returns-then-at-eq0-clause-entries : goal.returns-then-at-eq0-clause-entries
returns-then-at-eq0-clause-entries g c = λ tells n. rw (c.no_entries.ensures.pvbns, c.no_entries.ensures.kinds) (no_entries (g.D.Disk.shown c.args.disk.now).reads c.args.at n c.if-at-eq0.true)

pub returns-then-at-eq0-clause-range : goal.returns-then-at-eq0-clause-range
returns-then-at-eq0-clause-range g c = λ n inside. rw (c.no_entries.ensures.pvbns, c.no_entries.ensures.kinds) (no_range n)

pub returns-clause-entries : goal.returns-clause-entries
returns-clause-entries g c = λ tells. leaf_entries (g.D.Disk.shown c.args.disk.now).reads c.args.at c.in_ok-block.block c.in_ok-leaf.leaf c.if-at-eq0.false (c.in_ok-block.ensures.value tells) c.in_ok-leaf.ensures.said

pub returns-clause-range : goal.returns-clause-range
returns-clause-range g c = leaf_range c.in_ok-leaf.leaf c.in_ok-leaf.ensures.range c.in_ok-leaf.ensures.pvbns c.in_ok-leaf.ensures.kinds

pub returns-clause-said : goal.returns-clause-said
returns-clause-said g c = λ tells some. shaped_leaf (g.D.Disk.shown c.args.disk.now).reads c.args.at c.in_ok-block.block c.in_ok-leaf.leaf (c.in_ok-block.ensures.value tells) c.in_ok-leaf.ensures.said
