use Rattle.std.proofs.Common.{rules, ◌≡◌, ◌≢◌, ◌%◌, ◌++◌, ◌∷◌, [], subst, ap, ◌∙◌}
use Rattle.std.specs.Prelude.{IsTrue}
use Rattle.fv_disk.specs.Shown.{Image}
use Rattle.fv_image.specs.Containers.{fan}
use Rattle.fv_third_pass.specs.Nodes.{over}
use Rattle.fv_third_pass.proofs.Levels.{next_over, level_more}
use Rattle.fv_third_pass.proofs.nodes.read_level.Given as given
use Rattle.fv_third_pass.proofs.nodes.read_level.Goals as goal

told : (g : given.Over) (c : goal.In_ok-add g) → IsTrue (g.D.Disk.shown c.args.disk.now).tells → IsTrue (g.D.Disk.shown c.loop-number.disk).tells
told g c tells = rw c.loop-number.invariant.only_reads.stays.tells tells

-- the node over this one
here : (g : given.Over) (c : goal.In_ok-add g) → IsTrue (g.D.Disk.shown c.args.disk.now).tells
    → c.go_over.new.node ≡ over (g.D.Disk.shown c.args.disk.now).reads c.args.above.now c.loop-number.number
here g c tells =
    subst (λ (i : Image). (c.loop-number.number % fan ≢ 0 → c.loop-number.node ≡ over i c.args.above.now c.loop-number.number)
    → c.go_over.new.node ≡ over i c.args.above.now c.loop-number.number) c.loop-number.invariant.only_reads.stays.reads
    (c.in_ok-go_over.ensures.value (told g c tells)) (c.loop-number.invariant.node tells)

pub loop-number-preserved : goal.loop-number-preserved
loop-number-preserved g c = record {
  places = λ tells.
      c.in_ok-add.ensures ∙ ap (λ p. c.loop-number.places.items ++ p ∷ []) c.child_in.ensures
      ∙ level_more (g.D.Disk.shown c.args.disk.now).reads c.args.above.now c.loop-number.number c.go_over.new.node c.loop-number.places.items (here g c tells)
      (c.loop-number.invariant.places tells);
  node = λ tells inside. next_over (g.D.Disk.shown c.args.disk.now).reads c.args.above.now c.loop-number.number c.go_over.new.node (here g c tells) inside;
  only_reads = search rules;
  faults = search rules;
}
