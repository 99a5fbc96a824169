use Rattle.std.proofs.Common.{◌≡◌, None, sym, ap, ◌∙◌}
use Rattle.fv_charge.specs.Ledgers.{committed}
use Rattle.fv_volume.specs.declared.state.VolumeState.{VolumeState}
use Rattle.fv_volume.specs.Asking.{table_named}
use Rattle.fv_aggregate.specs.Answers.{answer}
use Rattle.fv_aggregate.specs.Commands.{snapshot_asked}
use Rattle.fv_aggregate.proofs.Asked.{asks_lent, counts_lent, known_lent, looks_lent}
use Rattle.fv_aggregate.proofs.Commits.{commits_same}
use Rattle.fv_aggregate.proofs.Looked.{fit_lent}
use Rattle.fv_aggregate.proofs.Lost.{lost_lent, replied_only}
use Rattle.fv_aggregate.proofs.Keeping.{replied_volumes}
use Rattle.fv_aggregate.proofs.Ready.{set_lent}
use Rattle.fv_aggregate.proofs.Returned.{lent_has, ready_lent, volumes_lent}
use Rattle.fv_aggregate.proofs.session.Session.ask.Goals as goal

pub ask_state-asked-requires-clause-ready : goal.ask_state-asked-requires-clause-ready
ask_state-asked-requires-clause-ready g c = ready_lent (g.D.Disk.shown c.args.disk.now) _ _ c.self.view_is c.requires.stands c.args.slot c.volume_at-state.result.now c.volume_at-state.ensures.state

pub ask_state-asked-requires-clause-asks : goal.ask_state-asked-requires-clause-asks
ask_state-asked-requires-clause-asks g c = asks_lent _ _ c.self.view_is c.args.slot c.volume_at-state.result.now c.volume_at-state.ensures.state c.args.command.now c.requires.asked

pub invariant_of-self : goal.invariant_of-self
invariant_of-self g c = (
  λ none. fit_lent (g.D.Disk.shown c.args.disk.now) (g.D.Disk.shown c.ask_state-asked.new.disk) c.self.inside.pool c.ask_state-asked.new.pool c.ask_state-asked.ensures.asks.reads
      c.self.inside.volumes c.args.slot c.volume_at-state.result.now c.ask_state-asked.new.state c.volume_at-state.ensures.state c.ask_state-asked.ensures.same (c.self.invariant.0 none),
  λ none.
      c.self.invariant.1 none ∙ sym (commits_same c.self.inside.volumes (c.self.invariant.0 none).housed.long c.args.slot c.volume_at-state.result.now c.ask_state-asked.new.state c.volume_at-state.ensures.state (ap (λ (z : VolumeState). committed z.ledger) c.ask_state-asked.ensures.same)),
  λ none.
      set_lent (g.D.Disk.shown c.args.disk.now) (g.D.Disk.shown c.ask_state-asked.new.disk) _ _ c.self.view_is c.requires.stands c.ask_state-asked.new.pool c.ask_state-asked.ensures.asks.reads
      c.args.slot c.volume_at-state.result.now c.ask_state-asked.new.state c.volume_at-state.ensures.state c.ask_state-asked.ensures.same,
)

pub returns-clause-looks : goal.returns-clause-looks
returns-clause-looks g c = looks_lent (g.D.Disk.shown c.args.disk.now) (g.D.Disk.shown c.ask_state-asked.new.disk) (g.met.D.Disk.laws c.args.disk.now) _ _ c.self.view_is c.self.invariant.0 c.requires.fresh c.requires.stands
    c.args.command.now c.args.slot c.volume_at-state.result.now c.volume_at-state.ensures.state c.requires.asked c.ask_state-asked.new.pool c.ask_state-asked.new.state c.ask_state-asked.ensures.same c.args.steps.now
    c.ask_state-asked.new.steps (answer c.ask_state-asked.new.into c.ask_state-asked.result) c.ask_state-asked.ensures.asks c.replied.new.self (answer c.replied.new.into c.replied.result) c.replied.ensures
    (λ none. (c.ask_state-asked.ensures.lost c.requires.asked.near none).answer)

pub returns-clause-known : goal.returns-clause-known
returns-clause-known g c = λ tells. known_lent (g.D.Disk.shown c.args.disk.now) (g.D.Disk.shown c.ask_state-asked.new.disk) (g.met.D.Disk.laws c.args.disk.now) _ _ c.self.view_is c.self.invariant.0 c.requires.fresh c.requires.stands
    c.args.command.now c.args.slot c.volume_at-state.result.now c.volume_at-state.ensures.state c.requires.asked c.ask_state-asked.new.pool c.ask_state-asked.new.state c.ask_state-asked.ensures.same c.args.steps.now
    c.ask_state-asked.new.steps (answer c.ask_state-asked.new.into c.ask_state-asked.result) c.ask_state-asked.ensures.asks c.replied.new.self (answer c.replied.new.into c.replied.result) c.replied.ensures

pub returns-clause-counts : goal.returns-clause-counts
returns-clause-counts g c = λ tells. counts_lent (g.D.Disk.shown c.args.disk.now) (g.D.Disk.shown c.ask_state-asked.new.disk) (g.met.D.Disk.laws c.args.disk.now) _ _ c.self.view_is c.self.invariant.0 c.requires.fresh c.requires.stands
    c.args.command.now c.args.slot c.volume_at-state.result.now c.volume_at-state.ensures.state c.requires.asked c.ask_state-asked.new.pool c.ask_state-asked.new.state c.ask_state-asked.ensures.same c.args.steps.now
    c.ask_state-asked.new.steps (answer c.ask_state-asked.new.into c.ask_state-asked.result) c.ask_state-asked.ensures.asks c.replied.new.self (answer c.replied.new.into c.replied.result) c.replied.ensures

-- it leaves the volumes
pub returns-clause-volumes : goal.returns-clause-volumes
returns-clause-volumes g c =
    replied_volumes (g.D.Disk.shown c.ask_state-asked.new.disk) (answer c.ask_state-asked.new.into c.ask_state-asked.result) _ c.replied.new.self (answer c.replied.new.into c.replied.result) c.replied.ensures
    ∙ volumes_lent _ _ c.self.view_is c.args.slot c.volume_at-state.result.now c.volume_at-state.ensures.state c.ask_state-asked.new.state c.ask_state-asked.ensures.same

pub returns-clause-lost : goal.returns-clause-lost
returns-clause-lost g c = λ near.
    lost_lent c.args.disk.now c.ask_state-asked.new.disk (g.D.Disk.shown c.ask_state-asked.new.disk) _ _ c.self.view_is c.args.slot c.volume_at-state.result.now c.volume_at-state.ensures.state c.args.command.now
    c.ask_state-asked.new.pool c.ask_state-asked.new.state c.ask_state-asked.ensures.same (answer c.ask_state-asked.new.into c.ask_state-asked.result) (c.ask_state-asked.ensures.lost near) c.replied.new.self (answer c.replied.new.into c.replied.result) c.replied.ensures

pub returns-clause-only : goal.returns-clause-only
returns-clause-only g c = λ said.
    let refused = replied_only (g.D.Disk.shown c.ask_state-asked.new.disk) (answer c.ask_state-asked.new.into c.ask_state-asked.result) _ c.replied.new.self (answer c.replied.new.into c.replied.result) c.ask_state-asked.ensures.told c.replied.ensures said in
    lent_has _ _ c.self.view_is c.args.slot c.volume_at-state.result.now c.volume_at-state.ensures.state (λ z. table_named z (snapshot_asked c.args.command.now) ≡ None) (c.ask_state-asked.ensures.only refused)
