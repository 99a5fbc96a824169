use Rattle.std.proofs.Common.{ℕ, subst, sym}
use Rattle.fv_image.specs.Views.{head_of}
use Rattle.fv_faults.specs.Adding.{Adds}
use Rattle.fv_faults.specs.ThirdPass.{span_lines}
use Rattle.fv_third_pass.specs.Maps.{room_lines}
use Rattle.fv_third_pass.proofs.span.note_span.Goals as goal

pub returns : goal.returns
unfolding span_lines head_of
returns c = λ w s is.
    subst (λ (n : ℕ). Adds (room_lines c.args.at c.args.label.now.most n c.args.label.now.span) c.args.lines.now c.note_room.new.lines) (sym is) c.in_ok-note_room.ensures
