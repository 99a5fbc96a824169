use Rattle.std.proofs.Common.{◌≡◌, ◌-◌, length, sym, ap, subst, ◌∙◌}
use Rattle.std.specs.Prelude.{IsNone}
use Rattle.fv_model.specs.declared.answers.Reply.{Reply}
use Rattle.fv_charge.specs.Ledgers.{committed}
use Rattle.fv_volume.specs.Slots.{committed_by, sum_of}
use Rattle.fv_volume.specs.States.{state_at}
use Rattle.fv_volume.specs.declared.state.VolumeState.{VolumeState}
use Rattle.fv_aggregate.specs.declared.session.Session.{Session}
use Rattle.fv_aggregate.specs.Answers.{answer}
use Rattle.fv_aggregate.proofs.Carried.{change_lent, judged_lent}
use Rattle.fv_aggregate.proofs.Commits.{commits_most, commits_same}
use Rattle.fv_aggregate.proofs.Looked.{fit_lent}
use Rattle.fv_aggregate.proofs.Keeping.{replied_volumes}
use Rattle.fv_aggregate.proofs.Ready.{set_lent}
use Rattle.fv_aggregate.proofs.Returned.{ready_lent, volumes_lent}
use Rattle.fv_aggregate.proofs.session.Session.judge.Goals as goal

pub commits_beside-others-requires-clause-few : goal.commits_beside-others-requires-clause-few
commits_beside-others-requires-clause-few g c =
    let fresh = subst (λ (n : Session). IsNone n.failed) (sym c.self.view_is) c.requires.fresh in
    commits_most (g.D.Disk.shown c.args.disk.now) c.args.self.now.pool c.args.self.now.volumes (subst (λ (n : Session). length n.volumes ≡ 64) c.self.view_is (c.self.invariant.0 fresh).housed.long) c.requires.stands.ready

pub judge-judged-requires-clause-ready : goal.judge-judged-requires-clause-ready
judge-judged-requires-clause-ready g c = ready_lent (g.D.Disk.shown c.args.disk.now) _ _ c.self.view_is c.requires.stands c.args.slot c.volume_at-state.result.now c.volume_at-state.ensures.state

pub judge-judged-requires-clause-change : goal.judge-judged-requires-clause-change
judge-judged-requires-clause-change g c = change_lent _ _ c.self.view_is c.args.slot c.volume_at-state.result.now c.volume_at-state.ensures.state c.args.command.now c.requires.aimed

pub invariant_of-self : goal.invariant_of-self
invariant_of-self g c = (
  λ none. fit_lent (g.D.Disk.shown c.args.disk.now) (g.D.Disk.shown c.judge-judged.new.disk) c.self.inside.pool c.judge-judged.new.pool c.judge-judged.ensures.reads
      c.self.inside.volumes c.args.slot c.volume_at-state.result.now c.judge-judged.new.self c.volume_at-state.ensures.state c.judge-judged.ensures.same (c.self.invariant.0 none),
  λ none.
      c.self.invariant.1 none ∙ sym (commits_same c.self.inside.volumes (c.self.invariant.0 none).housed.long c.args.slot c.volume_at-state.result.now c.judge-judged.new.self c.volume_at-state.ensures.state (ap (λ (z : VolumeState). committed z.ledger) c.judge-judged.ensures.same)),
  λ none.
      set_lent (g.D.Disk.shown c.args.disk.now) (g.D.Disk.shown c.judge-judged.new.disk) _ _ c.self.view_is c.requires.stands c.judge-judged.new.pool c.judge-judged.ensures.reads
      c.args.slot c.volume_at-state.result.now c.judge-judged.new.self c.volume_at-state.ensures.state c.judge-judged.ensures.same,
)

pub returns-clause-judged : goal.returns-clause-judged
returns-clause-judged g c =
    let said = c.judge-judged.ensures in
    judged_lent (g.D.Disk.shown c.args.disk.now) (g.D.Disk.shown c.judge-judged.new.disk) (g.met.D.Disk.laws c.args.disk.now) _ _ c.self.view_is c.self.invariant.0 c.requires.fresh c.requires.stands c.args.command.now c.args.slot
    c.volume_at-state.result.now c.volume_at-state.ensures.state c.commits_beside-others.result (subst (λ (n : Session). c.commits_beside-others.result ≡ sum_of n.volumes - committed_by (state_at n.volumes c.args.slot)) (sym c.self.view_is) c.commits_beside-others.ensures.sum) c.judge-judged.new.pool c.judge-judged.new.self c.judge-judged.result (answer c.done.new.into c.judge-judged.result) (ap (λ (z : Reply). answer z c.judge-judged.result) c.done.ensures)
    c.replied.new.self (answer c.replied.new.into c.replied.result) said.same (record { reads = said.reads; agrees = said.agrees; cause = said.cause }) c.replied.ensures

-- it leaves the volumes
pub returns-clause-volumes : goal.returns-clause-volumes
returns-clause-volumes g c =
    replied_volumes (g.D.Disk.shown c.judge-judged.new.disk) (answer c.done.new.into c.judge-judged.result) _ c.replied.new.self (answer c.replied.new.into c.replied.result) c.replied.ensures
    ∙ volumes_lent _ _ c.self.view_is c.args.slot c.volume_at-state.result.now c.volume_at-state.ensures.state c.judge-judged.new.self c.judge-judged.ensures.same
