use Rattle.std.proofs.Common.{◌≡◌, ◌*◌, ◌+◌, subst, ap, ◌∙◌, arith, Bool, ℕ}
use Rattle.std.specs.Prelude.{flat_map}
use Rattle.std.specs.List.{range_with_len}
use Rattle.fv_bits.specs.Bits.{bit_of_bytes, block_bits}
use Rattle.fv_faults.specs.Adding.{Adds}
use Rattle.fv_faults.specs.ThirdPass.{bit_lines}
use Rattle.fv_third_pass.specs.Bits.{differing, differs, said_of}
use Rattle.fv_third_pass.proofs.Bitwise.{bits_next}
use Rattle.fv_third_pass.proofs.bits.note_each.Goals as goal

-- the line that was noted
line_is : (c : goal.In_ok-note_bit)
    → bit_lines c.args.saying.rule c.said_of-block.result c.bit_of.result c.bit_of-in-loop-bit.result
    ≡ bit_lines c.args.saying.rule (said_of c.args.saying.at (block_bits * c.args.k + c.loop-bit.bit)) (bit_of_bytes c.args.wanted.now c.loop-bit.bit) (bit_of_bytes c.args.found.now c.loop-bit.bit)
line_is c =
    ap (λ (n : ℕ). bit_lines c.args.saying.rule n c.bit_of.result c.bit_of-in-loop-bit.result) c.said_of-block.ensures
    ∙ ap (λ (b : Bool). bit_lines c.args.saying.rule (said_of c.args.saying.at (block_bits * c.args.k + c.loop-bit.bit)) b c.bit_of-in-loop-bit.result) c.bit_of.ensures
    ∙ ap (λ (b : Bool). bit_lines c.args.saying.rule (said_of c.args.saying.at (block_bits * c.args.k + c.loop-bit.bit)) (bit_of_bytes c.args.wanted.now c.loop-bit.bit) b) c.bit_of-in-loop-bit.ensures

pub loop-bit-preserved : goal.loop-bit-preserved
loop-bit-preserved c = record {
  adds = λ set is. bits_next c.args.saying.rule c.args.saying.at set c.args.k c.args.wanted.now c.args.found.now is c.loop-bit.bit c.args.lines.now c.loop-bit.lines c.note_bit.new.lines
      (let low = c.loop-bit-test.true in omega (arith, low)) (c.loop-bit.invariant.adds set is)
      (subst (λ ls. Adds ls c.loop-bit.lines c.note_bit.new.lines) (line_is c) c.in_ok-note_bit.ensures);
}

pub returns : goal.returns
unfolding differing
returns c = λ set is.
    subst (λ n. Adds (flat_map (differs c.args.saying.rule c.args.saying.at set c.args.found.now) (range_with_len (block_bits * c.args.k) n)) c.args.lines.now c.loop-bit.lines)
    (let past = c.loop-bit-test.false in let end = c.loop-bit.auto.bit-end in let e : c.loop-bit.bit ≡ 32768 = omega (arith, past, end) in e)
    (c.loop-bit.invariant.adds set is)
