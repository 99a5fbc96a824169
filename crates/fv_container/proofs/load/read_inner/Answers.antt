use Rattle.std.proofs.Common.{arith}
use Rattle.fv_container.proofs.Nodes.{inner_children, no_children, shaped_inner, inner_bounded, zeros_at}
use Rattle.fv_container.proofs.load.read_inner.Goals as goal

pub returns-then-at-eq0-clause-children : goal.returns-then-at-eq0-clause-children
returns-then-at-eq0-clause-children g c = λ tells n. rw c.no_children.ensures (no_children (g.D.Disk.shown c.args.disk.now).reads c.args.at n c.if-at-eq0.true)

pub returns-clause-children : goal.returns-clause-children
returns-clause-children g c = λ tells. inner_children (g.D.Disk.shown c.args.disk.now).reads c.args.at c.in_ok-block.block c.in_ok-node.node c.if-at-eq0.false (c.in_ok-block.ensures.value tells) c.in_ok-node.ensures.said

pub returns-clause-said : goal.returns-clause-said
returns-clause-said g c = λ tells some. shaped_inner (g.D.Disk.shown c.args.disk.now).reads c.args.at c.in_ok-block.block c.in_ok-node.node (c.in_ok-block.ensures.value tells) c.in_ok-node.ensures.said

pub returns-then-at-eq0-clause-bounded : goal.returns-then-at-eq0-clause-bounded
returns-then-at-eq0-clause-bounded g c = λ n. rw c.no_children.ensures (let zero = zeros_at 256 n in omega (arith, zero))

pub returns-clause-bounded : goal.returns-clause-bounded
returns-clause-bounded g c = inner_bounded c.in_ok-node.node c.in_ok-node.ensures.range
