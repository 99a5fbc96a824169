use Rattle.std.proofs.Common.{◌≡◌, ◌-◌, ◌/◌, ◌%◌, ℕ, get_or, refl, sym, ap, ◌∙◌, arith}
use Rattle.std.proofs.lemmas.Result.{err_from_is_err_and}
use Rattle.std.proofs.lemmas.Option.{IfSome_then}
use Rattle.fv_codec.specs.declared.pointer.Pointer.{Pointer}
use Rattle.fv_model.specs.Trees.{fan}
use Rattle.fv_tree.specs.Spelled.{hole, pointer_at}
use Rattle.fv_tree.specs.Standing.{standing, under}
use Rattle.fv_tree.proofs.Causes.{node_fails}
use Rattle.fv_tree.proofs.Seeking.{child_is, if_none}
use Rattle.fv_tree.proofs.Right.{node_loads}
use Rattle.fv_tree.proofs.next.first_child.Given as given
use Rattle.fv_tree.proofs.next.first_child.Goals as goal

pub returns-in_err-children-clause-cause : goal.returns-in_err-children-clause-cause
returns-in_err-children-clause-cause g c =
    let old = g.B.Blocks.shown c.args.blocks.now in
    let new = g.B.Blocks.shown c.children_of.new.blocks in
    let p = err_from_is_err_and c.from_residual.result c.from_residual.ensures.1 in
    rw (p.1, p.2) (node_fails g.B.Blocks.told (standing (under old) c.args.tree.now) old new c.args.level (c.args.first / fan) c.args.pointer.now c.in_err-children.field-0.0 refl c.requires.low c.requires.high (λ told. sym (c.requires.pointer told)) (λ _. c.in_err-children.ensures.held) c.in_err-children.ensures.cause)

pub returns-clause-found : goal.returns-clause-found
returns-clause-found g c = IfSome_then c.first_led.result c.first_led.ensures.found (λ led is. (is.low, is.high, is.some))

-- the pointer to a child is one of the node's
child : (g : given.Over) (c : goal.After-first_led g) → g.B.Blocks.told → (q : ℕ) → q / fan ≡ c.args.first / fan → get_or c.in_ok-children.children (q % fan) hole ≡ pointer_at (standing (under (g.B.Blocks.shown c.args.blocks.now)) c.args.tree.now) (c.args.level - 1) q
child g c told =
    child_is (standing (under (g.B.Blocks.shown c.args.blocks.now)) c.args.tree.now) c.args.level (c.args.first / fan) c.args.pointer.now c.in_ok-children.children c.requires.low c.requires.high (c.requires.pointer told) (c.in_ok-children.ensures.children told)

pub returns-clause-child : goal.returns-clause-child
returns-clause-child g c = λ told.
    IfSome_then c.first_led.result c.first_led.ensures.found (λ led is. record {
      pointer = is.pointer ∙ child g c told led.0 is.high;
      before = λ r low lt. let high = is.high in ap (λ (p : Pointer). p.stamp) (sym (child g c told r (omega (arith, low, lt, high)))) ∙ is.before r low lt;
    })

pub returns-clause-none : goal.returns-clause-none
returns-clause-none g c = λ told.
    if_none c.first_led.result _ _ (λ holes r low up. ap (λ (p : Pointer). p.stamp) (sym (child g c told r up)) ∙ holes r low up) c.first_led.ensures.none

pub children_of-requires-clause-right : goal.children_of-requires-clause-right
children_of-requires-clause-right g c = λ told. node_loads (g.B.Blocks.shown c.args.blocks.now) c.args.tree.now c.args.level (c.args.first / fan) c.args.pointer.now c.requires.low (c.requires.pointer told) (c.requires.right told)
