use Rattle.std.proofs.Common.{◌+◌, get_or, is_some, List, ap, sym, ◌∙◌, arith}
use Rattle.fv_codec.specs.declared.pointer.Pointer.{Pointer}
use Rattle.fv_tree.specs.Spelled.{hole}
use Rattle.fv_tree.specs.Standing.{standing, under, node_in}
use Rattle.fv_tree.specs.Flushing.{changed_in}
use Rattle.fv_tree.proofs.Below.{no_pointers, own_child}
use Rattle.fv_tree.proofs.Costly.{hole_costs, changed_costs, loads_costs}
use Rattle.fv_tree.proofs.way.changed_or_loaded.Goals as goal

pub returns-then-pointer-eq0-clause-child : goal.returns-then-pointer-eq0-clause-child
returns-then-pointer-eq0-clause-child g c = λ told.
    sym (ap (λ (xs : List Pointer). get_or xs c.args.slot hole) (no_pointers (standing (under (g.B.Blocks.shown c.args.blocks.now)) c.args.tree.now) c.args.level c.args.place c.args.pointer.now c.if-pointer-eq0.true))

pub returns-in-Some-clause-child : goal.returns-in-Some-clause-child
returns-in-Some-clause-child g c = λ told.
    own_child (standing (under (g.B.Blocks.shown c.args.blocks.now)) c.args.tree.now) c.args.level c.args.place c.args.slot c.args.pointer.now c.in-Some.child c.if-pointer-eq0.false c.in-Some.ensures.some

pub returns-in_ok-child-in-None-clause-child : goal.returns-in_ok-child-in-None-clause-child
returns-in_ok-child-in-None-clause-child g c = λ told.
    sym (ap (λ (xs : List Pointer). get_or xs c.args.slot hole) (c.requires.same told (sym c.in-None.ensures.changed) c.if-pointer-eq0.false) ∙ c.in_ok-child-in-None.ensures.child told)

pub returns-then-pointer-eq0-clause-spent : goal.returns-then-pointer-eq0-clause-spent
returns-then-pointer-eq0-clause-spent g c =
    let old = g.B.Blocks.shown c.args.blocks.now in
    let none = hole_costs old.cost (changed_in c.args.tree.now.nodes c.args.level c.args.place) c.args.pointer.now c.if-pointer-eq0.true in
    omega (arith, none)

pub returns-in-Some-clause-spent : goal.returns-in-Some-clause-spent
returns-in-Some-clause-spent g c =
    let old = g.B.Blocks.shown c.args.blocks.now in
    let none = changed_costs old.cost (changed_in c.args.tree.now.nodes c.args.level c.args.place) c.args.pointer.now (sym c.in-Some.ensures.changed) in
    omega (arith, none)

pub returns-in_ok-child-in-None-clause-spent : goal.returns-in_ok-child-in-None-clause-spent
returns-in_ok-child-in-None-clause-spent g c =
    let old = g.B.Blocks.shown c.args.blocks.now in
    c.in_ok-child-in-None.ensures.spent ∙ ap (λ n. old.spent + n) (sym (loads_costs old.cost (changed_in c.args.tree.now.nodes c.args.level c.args.place) c.args.pointer.now (sym c.in-None.ensures.changed) c.if-pointer-eq0.false))
