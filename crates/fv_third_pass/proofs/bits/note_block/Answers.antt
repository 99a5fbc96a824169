use Rattle.std.proofs.Common.{sym, ◌∙◌}
use Rattle.std.specs.Cmp.Lexicographic.{same_text}
use Rattle.fv_third_pass.proofs.Bitwise.{same_block}
use Rattle.fv_third_pass.proofs.bits.note_block.Goals as goal

pub returns-then-eq : goal.returns-then-eq
returns-then-eq c =
    same_block c.args.saying.rule c.args.saying.at c.args.set.now c.args.k c.to_block.new.into c.args.found.now c.to_block.ensures
    (same_text c.to_block.new.into c.args.found.now (sym c.if-eq.true ∙ c.eq.ensures)) c.args.lines.now
