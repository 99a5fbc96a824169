use Rattle.std.proofs.Common.{◌++◌, ℕ, sym, ap, subst, ◌∙◌}
use Rattle.std.specs.Prelude.{◌&&◌}
use Rattle.fv_faults.specs.Lines.{expects}
use Rattle.fv_walk.specs.Noting.{AddsAll}
use Rattle.fv_walk.proofs.Noting.{both}
use Rattle.fv_walk.proofs.block.note_position.Goals as goal

pub returns : goal.returns
returns c =
    let at = c.args.block in
    let v = c.args.visit.now in
    let n = c.args.node.now in
    let level : AddsAll (expects 4 at v.level n.level) c.args.lines.now c.expect.new.lines c.in_ok-level.level =
    subst (λ (want : ℕ). AddsAll (expects 4 at want n.level) c.args.lines.now c.expect.new.lines c.in_ok-level.level) c.from.ensures
    (subst (λ (found : ℕ). AddsAll (expects 4 at c.from.result found) c.args.lines.now c.expect.new.lines c.in_ok-level.level) c.from-2.ensures c.in_ok-level.ensures) in
    subst (AddsAll (expects 4 at v.level n.level ++ (expects 4 at v.owner n.owner ++ expects 4 at v.place n.place)) c.args.lines.now c.expect-3.new.lines)
    (sym (c.both.ensures ∙ ap (λ b. c.in_ok-level.level && b) c.both-rest.ensures))
    (both (expects 4 at v.level n.level) (expects 4 at v.owner n.owner ++ expects 4 at v.place n.place) c.args.lines.now c.expect.new.lines c.expect-3.new.lines
    c.in_ok-level.level (c.in_ok-owner.owner && c.in_ok-place.place) level
    (both (expects 4 at v.owner n.owner) (expects 4 at v.place n.place) c.expect.new.lines c.expect-2.new.lines c.expect-3.new.lines
    c.in_ok-owner.owner c.in_ok-place.place c.in_ok-owner.ensures c.in_ok-place.ensures))
