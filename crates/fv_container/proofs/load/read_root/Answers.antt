use Rattle.std.proofs.Common.{◌≡◌, refl, arith}
use Rattle.fv_container.proofs.Trees.{root_low, root_high}
use Rattle.fv_container.proofs.Whole.{inner_as}
use Rattle.fv_container.proofs.load.read_root.Goals as goal

pub returns-then-height-eq1-clause-inner : goal.returns-then-height-eq1-clause-inner
returns-then-height-eq1-clause-inner g c = λ tells q within.
    root_low (g.D.Disk.shown c.args.disk.now).reads c.args.places.now c.args.leaves c.args.root c.args.height q c.requires.levels.zeros (omega (arith, c.requires.levels.within)) c.if-height-eq1.true

pub returns-clause-inner : goal.returns-clause-inner
returns-clause-inner g c = λ tells q within.
    let i = (g.D.Disk.shown c.args.disk.now).reads in
    root_high i i c.fill_children.new.places c.in_ok-node.node.children c.args.leaves c.args.inner c.args.root c.args.height q refl c.fill_children.ensures.filled (c.in_ok-node.ensures.children tells) within c.requires.levels.few (omega (arith, c.requires.least, c.requires.greatest, c.if-height-eq1.false))

pub returns-clause-whole : goal.returns-clause-whole
returns-clause-whole g c = λ tells is high some. record { node = c.in_ok-node.node; said = c.in_ok-node.ensures.said tells some; own = c.is_inner_as.ensures.whole is some }

pub returns-clause-kept : goal.returns-clause-kept
returns-clause-kept g c = λ tells stands.
    let high : c.args.height ≡ 2 = omega (arith, c.requires.least, c.requires.greatest, c.if-height-eq1.false) in
    c.is_inner_as.ensures.kept (λ some. inner_as (g.D.Disk.shown c.args.disk.now).reads c.args.root 2 0 c.args.inner c.in_ok-node.node (c.in_ok-node.ensures.said tells some) (stands high some))
