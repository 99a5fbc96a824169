use Rattle.std.proofs.Common.{◌≡◌, ◌≤◌, false, sym, ◌∙◌, arith}
use Rattle.std.specs.Prelude.{nat_lt, length}
use Rattle.std.proofs.lemmas.Bool.Decides.{nat_tests}
use Rattle.fv_bits.proofs.Laws.{is_member_past}
use Rattle.fv_pool.proofs.blocks.has_member.Goals as goal

pub returns-else-vvbn-len : goal.returns-else-vvbn-len
returns-else-vvbn-len c =
    let past : c.len.result ≤ c.args.vvbn = omega (arith, c.if-vvbn-len.false) in
    let long : length c.args.map.now ≤ c.args.vvbn = omega (arith, past, c.len.ensures) in
    let no : nat_lt c.args.vvbn c.len.result ≡ false = grind (arith, nat_tests, past) in
    no ∙ sym (is_member_past c.args.map.now c.args.vvbn long)
