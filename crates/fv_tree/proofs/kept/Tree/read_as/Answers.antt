use Rattle.std.proofs.Common.{◌≡◌, true, arith, ap, sym, ◌∙◌, ℕ, List, nat_cmp}
use Rattle.std.specs.BTreeMap as tree
use Rattle.std.specs.FinMap as fin
use Rattle.std.proofs.lemmas.Result.{IfOk-weaker, on_ok_weaker}
use Rattle.fv_tree.specs.Spelled.{block_at, pointer_at}
use Rattle.fv_tree.specs.Standing.{standing, under}
use Rattle.fv_tree.specs.Flushing.{cell_changed}
use Rattle.fv_tree.specs.Places.{IsReadable}
use Rattle.fv_tree.proofs.Causes.{read_fails}
use Rattle.fv_tree.proofs.Costly.{found_costs}
use Rattle.fv_tree.proofs.Right.{cell_empty, readable_on}
use Rattle.fv_tree.proofs.kept.Tree.read_as.Goals as goal

pub read_stored_as-requires-clause-right : goal.read_stored_as-requires-clause-right
read_stored_as-requires-clause-right g c = λ told. readable_on (g.B.Blocks.shown c.args.blocks.now) (g.B.Blocks.shown c.find.new.blocks) c.args.self.now c.in_ok-pointer.ensures.loads.untouched (c.requires.right told)

pub read_stored_as-requires-clause-pointer : goal.read_stored_as-requires-clause-pointer
read_stored_as-requires-clause-pointer g c = λ told.
    let path = c.in_ok-pointer.ensures in
    path.pointer told ∙ ap (λ (held : fin.FinMap nat_cmp (List ℕ)). pointer_at (standing (λ v. fin.get held v) c.args.self.now) 0 c.args.index) (sym path.loads.untouched.held)

pub returns-clause-cell : goal.returns-clause-cell
returns-clause-cell g c = λ told.
    IfOk-weaker c.read_stored_as.result _ _ (λ place is. ap (λ (held : fin.FinMap nat_cmp (List ℕ)). block_at (standing (λ v. fin.get held v) c.args.self.now) c.args.index) (sym c.find.ensures.loads.untouched.held) ∙ is) (c.read_stored_as.ensures.cell told)

pub returns-clause-cause : goal.returns-clause-cause
returns-clause-cause g c =
    let old = g.B.Blocks.shown c.args.blocks.now in
    let mid = g.B.Blocks.shown c.find.new.blocks in
    let t = c.args.self.now in
    let path = c.in_ok-pointer.ensures in
    let read = c.read_stored_as.ensures in
    let readable : g.B.Blocks.told → IsReadable mid t = λ told. readable_on old mid t path.loads.untouched (c.requires.right told) in
    let at : g.B.Blocks.told → c.in_ok-pointer.pointer ≡ pointer_at (standing (under mid) t) 0 c.args.index = λ told. path.pointer told ∙ ap (λ (held : fin.FinMap nat_cmp (List ℕ)). pointer_at (standing (λ v. fin.get held v) t) 0 c.args.index) (sym path.loads.untouched.held) in
    read_fails g.B.Blocks.told old mid (g.B.Blocks.shown c.read_stored_as.new.blocks) t c.args.index c.in_ok-pointer.pointer (cell_changed (tree.get nat_cmp t.cells c.args.index) ≡ true) c.read_stored_as.result path.loads.counts.calm path.loads.untouched.held path.pointer
    (λ told. cell_empty mid t (readable told) c.args.index c.in_ok-pointer.pointer (at told)) read.changed read.cause

pub returns-clause-spent : goal.returns-clause-spent
returns-clause-spent g c = λ told.
    let old = g.B.Blocks.shown c.args.blocks.now in
    let path = c.in_ok-pointer.ensures in
    let first = path.spent told in
    let same = found_costs old.cost (g.B.Blocks.shown c.find.new.blocks).cost (under old) c.args.self.now c.args.index c.in_ok-pointer.pointer path.loads.untouched.cost (path.pointer told) in
    on_ok_weaker c.read_stored_as.result (λ more. omega (arith, first, same, more)) c.read_stored_as.ensures.spent
