use Rattle.std.proofs.Common.{get_or, List, ap, sym, ◌∙◌}
use Rattle.std.specs.Option.{option_map}
use Rattle.fv_codec.specs.declared.pointer.Pointer.{Pointer}
use Rattle.fv_tree.specs.Spelled.{hole}
use Rattle.fv_tree.specs.Standing.{standing, under}
use Rattle.fv_tree.proofs.Below.{no_pointers, kept_pointers, read_pointers}
use Rattle.fv_tree.proofs.way.child.Goals as goal

pub returns-then-pointer-eq0-clause-child : goal.returns-then-pointer-eq0-clause-child
returns-then-pointer-eq0-clause-child g c = λ told.
    sym (ap (λ (xs : List Pointer). get_or xs c.args.slot hole) (no_pointers (standing (under (g.B.Blocks.shown c.args.blocks.now)) c.args.tree.now) c.args.level c.args.place c.args.pointer.now c.if-pointer-eq0.true))

pub returns-in-Some-clause-child : goal.returns-in-Some-clause-child
returns-in-Some-clause-child g c = λ told.
    sym (ap (λ (xs : List Pointer). get_or xs c.args.slot hole) (kept_pointers (standing (under (g.B.Blocks.shown c.args.blocks.now)) c.args.tree.now) c.args.level c.args.place c.args.pointer.now _ c.if-pointer-eq0.false (sym (ap (option_map (λ kept. kept.children)) c.in-Some.ensures.value))))

pub returns-in_ok-child-in-None-clause-child : goal.returns-in_ok-child-in-None-clause-child
returns-in_ok-child-in-None-clause-child g c = λ told.
    sym (ap (λ (xs : List Pointer). get_or xs c.args.slot hole) (read_pointers (standing (under (g.B.Blocks.shown c.args.blocks.now)) c.args.tree.now) c.args.level c.args.place c.args.pointer.now c.if-pointer-eq0.false (sym (ap (option_map (λ kept. kept.children)) c.in-None.ensures.value))) ∙ c.in_ok-child-in-None.ensures.child told)
