use Rattle.std.proofs.Common.{◌∙◌, length, sym, ap, subst}
use Rattle.fv_volume.specs.States.{States}
use Rattle.fv_volume.specs.Slots.{HaveSpans, sum_of}
use Rattle.fv_volumes.proofs.Made.{commits_are, have_spans}
use Rattle.fv_volumes.proofs.volumes.Volumes.commits.Goals as goal

pub sum_commits-requires-clause-spans : goal.sum_commits-requires-clause-spans
sum_commits-requires-clause-spans c = subst HaveSpans (sym (c.deref.ensures.value ∙ c.self.view_is)) (have_spans c.args.self.now c.requires)

pub returns-clause-exact : goal.returns-clause-exact
returns-clause-exact c = c.sum_commits.ensures.sum ∙ ap (λ (s : States). sum_of s) (c.deref.ensures.value ∙ c.self.view_is)

pub returns-clause-machine : goal.returns-clause-machine
returns-clause-machine c = λ pool trees i are. returns-clause-exact c ∙ sym (commits_are pool c.args.self.now trees i (ap (λ (s : States). length s) (sym c.self.view_is) ∙ c.self.invariant) are)
