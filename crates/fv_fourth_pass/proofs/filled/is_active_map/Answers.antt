use Rattle.std.proofs.Common.{◌≡◌, ◌+◌, true, false, ◌&&◌, arith, sym, ap, ◌∙◌}
use Rattle.std.specs.Prelude.{nat_le, nat_lt}
use Rattle.std.proofs.lemmas.Bool.Decides.{nat_tests}
use Rattle.fv_model.specs.Space.{map_blocks}
use Rattle.fv_image.specs.Views.{head_of}
use Rattle.fv_fourth_pass.proofs.filled.is_active_map.Goals as goal

pub returns-then-span-vvbn : goal.returns-then-span-vvbn
unfolding head_of
returns-then-span-vvbn c =
    let span = c.args.label.now.span in
    let test : nat_le span c.args.vvbn ≡ true = (let is = c.if-span-vvbn.true in grind (arith, nat_tests, is)) in
    ap (λ n. nat_lt c.args.vvbn (span + n)) c.map_blocks.ensures ∙ sym (ap (λ b. b && nat_lt c.args.vvbn (span + map_blocks span)) test)

pub returns-else-span-vvbn : goal.returns-else-span-vvbn
unfolding head_of
returns-else-span-vvbn c =
    let span = c.args.label.now.span in
    let test : nat_le span c.args.vvbn ≡ false = (let is = c.if-span-vvbn.false in grind (arith, nat_tests, is)) in
    test ∙ sym (ap (λ b. b && nat_lt c.args.vvbn (span + map_blocks span)) test)
