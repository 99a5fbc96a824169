use Rattle.std.proofs.Common.{sym, ap, ◌∙◌, arith}
use Rattle.std.specs.Prelude.{map}
use Rattle.std.specs.List.{enumerate_from}
use Rattle.std.proofs.lemmas.List.{take_all}
use Rattle.std.proofs.lemmas.Simd.{map-map}
use Rattle.fv_tables.specs.Reached.{Item}
use Rattle.fv_faults.specs.Walks.{child_of}
use Rattle.fv_walk.specs.Visits.{item_of, visit_of}
use Rattle.fv_walk.proofs.Lists.{child_at}
use Rattle.fv_walk.proofs.children.node_children.Goals as goal

pub returns-clause-are : goal.returns-clause-are
returns-clause-are c =
    let long = c.loop-slot.invariant.long in
    c.loop-slot.invariant.are
    ∙ ap (λ cs. map (child_at c.args.visit.now c.args.block) (enumerate_from 0 cs)) (take_all c.loop-slot.slot c.args.pointers.now (omega (arith, long, c.loop-slot-test.false)))
    ∙ sym (map-map (λ (e : Item). visit_of (e, c.args.block)) (child_of (item_of c.args.visit.now)) (enumerate_from 0 c.args.pointers.now))
