use Rattle.std.proofs.Common.{◌≡◌, ◌+◌, sym, ap, subst, ◌∙◌}
use Rattle.std.specs.Prelude.{cond, Some, None, IfOk, OnOk}
use Rattle.fv_tables.specs.Spelled.{block_at, stored}
use Rattle.fv_tree.specs.Beside.{unread}
use Rattle.fv_tree.specs.Flushing.{loaded}
use Rattle.fv_tree.specs.Lookups.{way_cost}
use Rattle.fv_tree.specs.Standing.{under, standing}
use Rattle.fv_tree.proofs.Costly.{ways_alike}
use Rattle.fv_tree.proofs.Stays.{unchanged}
use Rattle.fv_files.specs.Right.{known_loaded}
use Rattle.fv_files.specs.Tables.{tree_in}
use Rattle.fv_files.proofs.Tables.{stored_known, stored_cause}
use Rattle.fv_files.proofs.Right.{readable_kept, readable_stored}
use Rattle.fv_files.proofs.read.read_cell.Goals as goal

pub returns-in-None-clause-cell : goal.returns-in-None-clause-cell
returns-in-None-clause-cell g c = λ told.
    let blocks = under (g.B.Blocks.shown c.args.blocks.now) in
    subst (λ t. IfOk c.read_tree-in-None.result (λ there. block_at t c.args.index ≡ cond there (Some c.read_tree-in-None.new.into) None))
    (c.stored_tree-tree.ensures.stored blocks ∙ sym (stored_known blocks c.args.files.now c.args.info.now (sym c.in-None.ensures.value))) (c.read_tree-in-None.ensures.cell told)

pub returns-in-None-clause-cause : goal.returns-in-None-clause-cause
returns-in-None-clause-cause g c =
    stored_cause g.B.Blocks.told (g.B.Blocks.shown c.args.blocks.now) (g.B.Blocks.shown c.read_tree-in-None.new.blocks) c.args.files.now c.args.info.now (standing (under (g.B.Blocks.shown c.args.blocks.now)) c.stored_tree-tree.result) c.read_tree-in-None.result
    (c.stored_tree-tree.ensures.stored (under (g.B.Blocks.shown c.args.blocks.now))) (sym c.in-None.ensures.value) c.read_tree-in-None.ensures.cause

pub returns-in-None-clause-spent : goal.returns-in-None-clause-spent
returns-in-None-clause-spent g c = λ told.
    let old = g.B.Blocks.shown c.args.blocks.now in
    let info = c.args.info.now in
    let t = c.stored_tree-tree.result in
    let none : tree_in c.args.files.now info.number ≡ None = sym c.in-None.ensures.value in
    subst (λ n. OnOk c.read_tree-in-None.result ((g.B.Blocks.shown c.read_tree-in-None.new.blocks).spent ≡ old.spent + n))
    (ways_alike old.cost (loaded old t) (unread (stored (under old) info.number info.levels info.root)) (unchanged t c.stored_tree-tree.ensures.pending) (c.stored_tree-tree.ensures.stored (under old)) c.args.index
    ∙ ap (λ o. way_cost old.cost (known_loaded (under old) info o) c.args.index) (sym none))
    (c.read_tree-in-None.ensures.spent told)

pub returns-in-Some-clause-spent : goal.returns-in-Some-clause-spent
returns-in-Some-clause-spent g c = λ told.
    let old = g.B.Blocks.shown c.args.blocks.now in
    subst (λ n. OnOk c.read_tree.result ((g.B.Blocks.shown c.read_tree.new.blocks).spent ≡ old.spent + n))
    (ap (λ o. way_cost old.cost (known_loaded (under old) c.args.info.now o) c.args.index) c.in-Some.ensures.value) (c.read_tree.ensures.spent told)

pub read_tree-requires : goal.read_tree-requires
read_tree-requires g c = record { right = λ told. readable_kept (g.B.Blocks.shown c.args.blocks.now) c.args.files.now c.args.info.now (c.requires.right told) c.in-Some.tree.now (sym c.in-Some.ensures.value) }

pub read_tree-requires-in-None : goal.read_tree-requires-in-None
read_tree-requires-in-None g c = record { right = λ told. readable_stored (g.B.Blocks.shown c.args.blocks.now) c.args.files.now c.args.info.now c.stored_tree-tree.result (c.requires.right told) (sym c.in-None.ensures.value) (c.stored_tree-tree.ensures.stored (under (g.B.Blocks.shown c.args.blocks.now))) }
