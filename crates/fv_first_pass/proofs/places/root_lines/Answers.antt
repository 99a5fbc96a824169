use Rattle.std.proofs.Common.{◌≡◌, ◌++◌, get_or, subst, arith}
use Rattle.fv_first_pass.specs.Passed.{place_lines, places_to}
use Rattle.fv_first_pass.proofs.Ranges.{row_first, row_step}
use Rattle.fv_first_pass.proofs.places.root_lines.Goals as goal

pub loop-slot-init : goal.loop-slot-init
loop-slot-init c = record { said = row_first (λ s. place_lines c.args.found.now.blocks c.args.at (get_or c.args.found.now.root.labels s 0)) _ }

pub loop-slot-preserved : goal.loop-slot-preserved
loop-slot-preserved c = record {
  said = row_step (λ s. place_lines c.args.found.now.blocks c.args.at (get_or c.args.found.now.root.labels s 0)) c.loop-slot.slot _ _ _
      c.loop-slot.invariant.said c.in_ok-place_lines.ensures;
}

pub returns : goal.returns
unfolding places_to
returns c = subst (λ n. c.loop-slot.said.items ≡ c.args.said.now.items ++ places_to c.args.found.now.blocks c.args.at c.args.found.now.root.labels n)
    (let past = c.loop-slot-test.false in let end = c.loop-slot.auto.slot-end in let e : c.loop-slot.slot ≡ 64 = omega (arith, past, end) in e) c.loop-slot.invariant.said
