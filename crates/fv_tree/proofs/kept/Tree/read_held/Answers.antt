use Rattle.std.proofs.Common.{ap, sym, ◌∙◌, ℕ, List, nat_cmp}
use Rattle.std.specs.FinMap as fin
use Rattle.std.proofs.lemmas.Result.{IfOk-weaker}
use Rattle.fv_tree.specs.Spelled.{block_at, pointer_at}
use Rattle.fv_tree.specs.Standing.{standing, under}
use Rattle.fv_tree.proofs.Causes.{pointed_fails}
use Rattle.fv_tree.proofs.Readied.{has_way}
use Rattle.fv_tree.proofs.Right.{cell_loads, right_on}
use Rattle.fv_tree.proofs.kept.Tree.read_held.Goals as goal

pub returns-clause-cell : goal.returns-clause-cell
returns-clause-cell g c = λ told.
    IfOk-weaker c.read_pointed.result _ _ (λ place is. ap (λ (held : fin.FinMap nat_cmp (List ℕ)). block_at (standing (λ v. fin.get held v) c.args.self.now) c.args.index) (sym c.find_held.ensures.loads.untouched.held) ∙ is) (c.read_pointed.ensures.cell told)

pub returns-clause-cause : goal.returns-clause-cause
returns-clause-cause g c =
    let path = c.in_ok-pointer.ensures in
    let read = c.read_pointed.ensures in
    pointed_fails g.B.Blocks.told (g.B.Blocks.shown c.args.blocks.now) (g.B.Blocks.shown c.find_held.new.blocks) (g.B.Blocks.shown c.read_pointed.new.blocks) c.args.self.now c.args.index c.in_ok-pointer.pointer c.read_pointed.result path.loads.counts.calm c.find_held.ensures.loads.untouched.held
    path.pointer read.held read.cause

pub returns-in_err-pointer-clause-held : goal.returns-in_err-pointer-clause-held
returns-in_err-pointer-clause-held g c = λ ready. absurd (c.in_err-pointer.ensures.held (has_way c.args.self.now c.args.index ready.way))

pub read_pointed-requires-clause-right : goal.read_pointed-requires-clause-right
read_pointed-requires-clause-right g c = λ told.
    let mid = g.B.Blocks.shown c.find_held.new.blocks in
    let path = c.in_ok-pointer.ensures in
    cell_loads mid c.args.self.now c.args.index c.in_ok-pointer.pointer
    (path.pointer told ∙ ap (λ (held : fin.FinMap nat_cmp (List ℕ)). pointer_at (standing (λ v. fin.get held v) c.args.self.now) 0 c.args.index) (sym path.loads.untouched.held))
    (right_on (g.B.Blocks.shown c.args.blocks.now) mid c.args.self.now path.loads.untouched (c.requires.right told))
