use Rattle.std.proofs.Common.{sym, ap, ◌∙◌, ◌*◌, arith}
use Rattle.std.specs.Prelude.{map}
use Rattle.std.proofs.lemmas.List.{take_all}
use Rattle.std.proofs.lemmas.Simd.{map-map}
use Rattle.fv_tables.specs.Reached.{Item}
use Rattle.fv_faults.specs.Walks.{file_root, used_from}
use Rattle.fv_walk.specs.Visits.{IsUnder, item_of, visit_of}
use Rattle.fv_walk.proofs.Lists.{root_at, no_roots, none_holds}
use Rattle.fv_walk.proofs.children.file_roots.Goals as goal

pub loop-slot-init : goal.loop-slot-init
loop-slot-init c = record {
  long = c.told-files;
  are = c.new-all.ensures.items ∙ no_roots c.args.visit.now c.args.block (16 * c.args.visit.now.place);
  under = none_holds (IsUnder c.args.visit.now) c.new-all.result.items c.new-all.ensures.items;
}

pub returns-clause-are : goal.returns-clause-are
returns-clause-are c =
    let long = c.loop-slot.invariant.long in
    c.loop-slot.invariant.are
    ∙ ap (λ fs. map (root_at c.args.visit.now c.args.block) (used_from (16 * c.args.visit.now.place) fs)) (take_all c.loop-slot.slot c.args.files.now (omega (arith, long, c.loop-slot-test.false)))
    ∙ sym (map-map (λ (e : Item). visit_of (e, c.args.block)) (file_root (item_of c.args.visit.now)) (used_from (16 * c.args.visit.now.place) c.args.files.now))
