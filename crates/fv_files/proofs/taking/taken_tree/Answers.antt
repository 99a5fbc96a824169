use Rattle.std.proofs.Common.{Some, nat_le, sym, ap, subst, ◌∙◌}
use Rattle.std.proofs.lemmas.Result.{IfOk-weaker}
use Rattle.fv_tree.specs.Erasing.{HoldsCells}
use Rattle.fv_tree.specs.Standing.{under, standing}
use Rattle.fv_tree.specs.Taking.{gone_with}
use Rattle.fv_files.specs.Taking.{staying_where}
use Rattle.fv_files.proofs.Stays.{known_is}
use Rattle.fv_files.proofs.Tables.{kept_known, stored_known, stored_loads}
use Rattle.fv_files.proofs.TakenCells.{stored_with}
use Rattle.fv_files.proofs.Right.{right_kept, right_stored}
use Rattle.fv_files.proofs.taking.taken_tree.Goals as goal

pub returns-in-Some-clause-gone : goal.returns-in-Some-clause-gone
returns-in-Some-clause-gone g c = λ told holds.
    let old = g.B.Blocks.shown c.args.blocks.now in
    let same = kept_known (under old) c.args.files.now c.args.info.now c.in-Some.tree.now (sym c.in-Some.ensures.value) in
    IfOk-weaker c.taken.result _ _ (λ taken is. is.gone ∙ ap (λ t. gone_with t (nat_le c.args.length)) (sym same)) (c.taken.ensures.taken told (subst HoldsCells same holds))

pub returns-in-Some-clause-staying : goal.returns-in-Some-clause-staying
returns-in-Some-clause-staying g c = λ told holds.
    let old = g.B.Blocks.shown c.args.blocks.now in
    let same = kept_known (under old) c.args.files.now c.args.info.now c.in-Some.tree.now (sym c.in-Some.ensures.value) in
    let known = known_is (under old) c.args.files.now c.args.info.now (Some c.in-Some.tree.now) (c.requires.known.there told) (sym c.in-Some.ensures.value) in
    IfOk-weaker c.taken.result _ _ (λ taken is. is.staying ∙ ap (λ o. staying_where o (g.B.Sharing.shared c.args.blocks.now) (nat_le c.args.length)) (sym known)) (c.taken.ensures.taken told (subst HoldsCells same holds))

pub returns-in-None-clause-gone : goal.returns-in-None-clause-gone
returns-in-None-clause-gone g c = λ told holds.
    let old = g.B.Blocks.shown c.args.blocks.now in
    let same = c.stored_tree-tree.ensures.stored (under old) ∙ sym (stored_known (under old) c.args.files.now c.args.info.now (sym c.in-None.ensures.value)) in
    IfOk-weaker c.taken-in-None.result _ _ (λ taken is. is.gone ∙ ap (λ t. gone_with t (nat_le c.args.length)) same) (c.taken-in-None.ensures.taken told (subst HoldsCells (sym same) holds))

pub returns-in-None-clause-staying : goal.returns-in-None-clause-staying
returns-in-None-clause-staying g c = λ told holds.
    let old = g.B.Blocks.shown c.args.blocks.now in
    let same = c.stored_tree-tree.ensures.stored (under old) ∙ sym (stored_known (under old) c.args.files.now c.args.info.now (sym c.in-None.ensures.value)) in
    IfOk-weaker c.taken-in-None.result _ _ (λ taken is. stored_with (under old) c.args.files.now c.args.info.now c.stored_tree-tree.result (g.B.Sharing.shared c.args.blocks.now) (nat_le c.args.length) taken.staying (c.requires.known.there told) (sym c.in-None.ensures.value)
    (c.stored_tree-tree.ensures.stored (under old)) c.stored_tree-tree.ensures.pending is.staying) (c.taken-in-None.ensures.taken told (subst HoldsCells (sym same) holds))

pub returns-in-None-clause-loads : goal.returns-in-None-clause-loads
returns-in-None-clause-loads g c =
    stored_loads g.B.Blocks.told (g.B.Blocks.shown c.args.blocks.now) (g.B.Blocks.shown c.taken-in-None.new.blocks) c.args.files.now c.args.info.now (standing (under (g.B.Blocks.shown c.args.blocks.now)) c.stored_tree-tree.result) c.taken-in-None.result
    (c.stored_tree-tree.ensures.stored (under (g.B.Blocks.shown c.args.blocks.now))) (sym c.in-None.ensures.value) c.taken-in-None.ensures.untouched c.taken-in-None.ensures.reads c.taken-in-None.ensures.counts c.taken-in-None.ensures.cause

pub taken-requires : goal.taken-requires
taken-requires g c = record { right = λ told. right_kept (g.B.Blocks.shown c.args.blocks.now) c.args.files.now c.args.info.now (c.requires.right told) c.in-Some.tree.now (sym c.in-Some.ensures.value) }

pub taken-requires-in-None : goal.taken-requires-in-None
taken-requires-in-None g c = record { right = λ told. right_stored (g.B.Blocks.shown c.args.blocks.now) c.args.files.now c.args.info.now c.stored_tree-tree.result (c.requires.right told) (sym c.in-None.ensures.value) (c.stored_tree-tree.ensures.stored (under (g.B.Blocks.shown c.args.blocks.now))) }
