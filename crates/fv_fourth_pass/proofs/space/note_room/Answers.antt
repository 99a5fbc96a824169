use Rattle.std.proofs.Common.{ℕ, ◌+◌, ◌*◌, ◌-◌, ap, subst, ◌∙◌}
use Rattle.std.specs.Prelude.{nat_le}
use Rattle.fv_model.specs.Machines.{first_block}
use Rattle.fv_faults.specs.Adding.{Adds}
use Rattle.fv_faults.specs.Lines.{line, unless}
use Rattle.fv_fourth_pass.proofs.Totals.{room_added}
use Rattle.fv_fourth_pass.proofs.space.note_room.Goals as goal

pub returns : goal.returns
returns c = λ y are size mine late.
    let left = c.args.blocks - first_block c.args.blocks - c.args.filled.own - c.args.filled.delayed in
    room_added y c.args.labels.now are c.args.blocks c.args.root c.args.filled.own c.args.filled.delayed c.args.lines.now c.note_least.new.lines size mine late
    (subst (λ (n : ℕ). Adds (unless (nat_le (2 * n + 256) left) (line 14 c.args.root (2 * n + 256) left)) c.args.lines.now c.note_least.new.lines) c.overheads.ensures.exact
    (subst (λ (n : ℕ). Adds (unless (nat_le (2 * c.overheads.result + 256) n) (line 14 c.args.root (2 * c.overheads.result + 256) n)) c.args.lines.now c.note_least.new.lines)
    (c.saturating_sub-left.ensures
    ∙ ap (λ n. n - c.args.filled.delayed) (c.saturating_sub.ensures ∙ ap (λ n. n - c.args.filled.own) (c.from-volume_blocks.ensures ∙ ap (λ n. c.args.blocks - n) c.first_block.ensures)))
    c.in_ok-note_least.ensures))
