use Rattle.std.proofs.Common.{◌+◌, ◌∙◌, ℕ, Some, sym, ap}
use Rattle.fv_volume.proofs.Committed.{sum_with}
use Rattle.fv_volumes.proofs.PromisedOne.{inside_row, span_within}
use Rattle.fv_volumes.proofs.volumes.Volumes.resize_at.Goals as goal

pub commit-requires : goal.commit-requires
commit-requires c = span_within c.args.self.now c.args.slot c.in-Some.state.now (sym c.in-Some.ensures.state) c.requires.labelled _ _ _ _ _ c.resize-made.new.self c.resize-made.result c.resize-made.ensures

pub returns-in-Some-clause-sum : goal.returns-in-Some-clause-sum
returns-in-Some-clause-sum c =
    let there = sym c.in-Some.ensures.state in
    ap (λ (n : ℕ). c.commits_beside-others.result + n) c.commit.ensures.exact
    ∙ sum_with c.args.self.now c.args.slot (inside_row c.args.self.now c.args.slot c.in-Some.state.now there) (Some c.resize-made.new.self) c.commits_beside-others.result c.commits_beside-others.ensures
