use Rattle.std.proofs.Common.{sym, ap, subst, ◌∙◌}
use Rattle.fv_charge.specs.Ledgers.{committed}
use Rattle.fv_volume.specs.declared.state.VolumeState.{VolumeState}
use Rattle.fv_aggregate.specs.declared.session.Session.{Session}
use Rattle.fv_aggregate.specs.Known.{KnowsNumbers}
use Rattle.fv_aggregate.proofs.Commits.{commits_same}
use Rattle.fv_aggregate.proofs.NumbersRead.{as_left, done_lent, failed_lent, fit_numbered, knows_lent}
use Rattle.fv_aggregate.proofs.Ready.{set_changed}
use Rattle.fv_aggregate.proofs.Returned.{breaks_beside, lent_there, ready_lent, volumes_lent}
use Rattle.fv_aggregate.proofs.Unmade.{unmade_read, unmade_unread}
use Rattle.fv_aggregate.proofs.session.Session.read_numbers.Goals as goal

pub read_numbers-read-requires : goal.read_numbers-read-requires
read_numbers-read-requires g c = record { ready = ready_lent (g.D.Disk.shown c.args.disk.now) _ _ c.self.view_is c.requires.stands c.args.slot c.volume_at-state.result.now c.volume_at-state.ensures.state }

pub invariant_of-self : goal.invariant_of-self
invariant_of-self g c = (
  λ none.
      let said = c.read_numbers-read.ensures in
      fit_numbered (g.D.Disk.shown c.args.disk.now) (g.D.Disk.shown c.read_numbers-read.new.disk) c.self.inside.pool c.read_numbers-read.new.pool c.self.inside.volumes c.args.slot c.volume_at-state.result.now
      c.read_numbers-read.new.self c.volume_at-state.ensures.state said.reads said.same said.ready (c.self.invariant.0 none),
  λ none.
      c.self.invariant.1 none ∙ sym (commits_same c.self.inside.volumes (c.self.invariant.0 none).housed.long c.args.slot c.volume_at-state.result.now c.read_numbers-read.new.self c.volume_at-state.ensures.state (ap (λ (z : VolumeState). committed z.ledger) c.read_numbers-read.ensures.same)),
  λ none.
      let said = c.read_numbers-read.ensures in
      set_changed (g.D.Disk.shown c.args.disk.now) (g.D.Disk.shown c.read_numbers-read.new.disk) _ _ c.self.view_is c.requires.stands c.read_numbers-read.new.pool said.reads
      c.args.slot c.volume_at-state.result.now c.read_numbers-read.new.self c.volume_at-state.ensures.state (as_left c.volume_at-state.result.now c.read_numbers-read.new.self said.same) said.ready (c.self.invariant.0 none).housed.long,
)

pub invariant_of-self-in-Err : goal.invariant_of-self-in-Err
invariant_of-self-in-Err g c = (
  λ none.
      let said = c.read_numbers-read.ensures in
      fit_numbered (g.D.Disk.shown c.args.disk.now) (g.D.Disk.shown c.read_numbers-read.new.disk) c.self.inside.pool c.read_numbers-read.new.pool c.self.inside.volumes c.args.slot c.volume_at-state.result.now
      c.read_numbers-read.new.self c.volume_at-state.ensures.state said.reads said.same said.ready (c.self.invariant.0 none),
  λ none.
      c.self.invariant.1 none ∙ sym (commits_same c.self.inside.volumes (c.self.invariant.0 none).housed.long c.args.slot c.volume_at-state.result.now c.read_numbers-read.new.self c.volume_at-state.ensures.state (ap (λ (z : VolumeState). committed z.ledger) c.read_numbers-read.ensures.same)),
  λ none.
      let said = c.read_numbers-read.ensures in
      set_changed (g.D.Disk.shown c.args.disk.now) (g.D.Disk.shown c.read_numbers-read.new.disk) _ _ c.self.view_is c.requires.stands c.read_numbers-read.new.pool said.reads
      c.args.slot c.volume_at-state.result.now c.read_numbers-read.new.self c.volume_at-state.ensures.state (as_left c.volume_at-state.result.now c.read_numbers-read.new.self said.same) said.ready (c.self.invariant.0 none).housed.long,
)

pub returns-in-Ok-clause-numbered : goal.returns-in-Ok-clause-numbered
returns-in-Ok-clause-numbered g c =
    let said = c.read_numbers-read.ensures in
    done_lent (g.D.Disk.shown c.args.disk.now) (g.D.Disk.shown c.read_numbers-read.new.disk) (g.met.D.Disk.laws c.args.disk.now) _ _ c.self.view_is c.self.invariant.0 c.requires.fresh c.requires.stands c.read_numbers-read.new.pool
    c.args.slot c.volume_at-state.result.now c.read_numbers-read.new.self c.volume_at-state.ensures.state
    (record { reads = said.reads; there = c.in-Ok.ensures.there; same = said.same; idle = λ known. (said.idle known).1.1; kept = tt; standing = said.standing; ready = said.ready; cause = c.in-Ok.ensures.cause })

pub returns-in-Err-clause-numbered : goal.returns-in-Err-clause-numbered
returns-in-Err-clause-numbered g c =
    let said = c.read_numbers-read.ensures in
    failed_lent (g.D.Disk.shown c.args.disk.now) (g.D.Disk.shown c.read_numbers-read.new.disk) (g.met.D.Disk.laws c.args.disk.now) _ _ c.self.view_is c.self.invariant.0 c.requires.fresh c.requires.stands c.read_numbers-read.new.pool
    c.args.slot c.volume_at-state.result.now c.read_numbers-read.new.self c.volume_at-state.ensures.state c.in-Err.fault
    (record { reads = said.reads; there = tt; same = said.same; idle = λ known. (said.idle known).1.1; kept = c.in-Err.ensures.kept; standing = said.standing; ready = said.ready; cause = c.in-Err.ensures.cause })
    c.from.result c.from.ensures c.fault_of.new.self c.fault_of.result c.fault_of.ensures

pub returns-in-Ok-clause-unmade : goal.returns-in-Ok-clause-unmade
returns-in-Ok-clause-unmade g c =
    let said = c.read_numbers-read.ensures in
    unmade_read (g.D.Disk.shown c.args.disk.now) (g.D.Disk.shown c.read_numbers-read.new.disk) _ _ c.self.view_is c.self.invariant.0 c.requires.fresh c.read_numbers-read.new.pool
    c.args.slot c.volume_at-state.result.now c.read_numbers-read.new.self c.volume_at-state.ensures.state said.reads said.same said.standing

pub returns-in-Err-clause-unmade : goal.returns-in-Err-clause-unmade
returns-in-Err-clause-unmade g c =
    let said = c.read_numbers-read.ensures in
    unmade_unread (g.D.Disk.shown c.args.disk.now) (g.D.Disk.shown c.read_numbers-read.new.disk) _ _ c.self.view_is c.self.invariant.0 c.requires.fresh c.read_numbers-read.new.pool
    c.args.slot c.volume_at-state.result.now c.read_numbers-read.new.self c.volume_at-state.ensures.state said.reads said.same said.standing
    c.from.result c.fault_of.new.self c.fault_of.result c.fault_of.ensures

pub returns-in-Ok-clause-there : goal.returns-in-Ok-clause-there
returns-in-Ok-clause-there g c =
    let said = c.read_numbers-read.ensures in
    knows_lent (g.D.Disk.shown c.args.disk.now) (g.D.Disk.shown c.read_numbers-read.new.disk) (g.met.D.Disk.laws c.args.disk.now) _ _ c.self.view_is c.self.invariant.0 c.requires.fresh c.requires.stands c.read_numbers-read.new.pool
    c.args.slot c.volume_at-state.result.now c.read_numbers-read.new.self c.volume_at-state.ensures.state said.reads said.same said.ready c.in-Ok.ensures.there

pub returns-in-Ok-clause-idle : goal.returns-in-Ok-clause-idle
returns-in-Ok-clause-idle g c = λ known.
    let lent = c.volume_at-state.ensures.state in
    let same = c.read_numbers-read.ensures.idle (subst KnowsNumbers (lent_there _ _ c.self.view_is c.args.slot c.volume_at-state.result.now lent) known) in
    (same.0, (same.1.0 ∙ ap (λ (n : Session). n.pool) c.self.view_is, volumes_lent _ _ c.self.view_is c.args.slot c.volume_at-state.result.now lent c.read_numbers-read.new.self same.1.1))

pub returns-in-Err-clause-idle : goal.returns-in-Err-clause-idle
returns-in-Err-clause-idle g c = λ known.
    let lent = c.volume_at-state.ensures.state in
    let same = c.read_numbers-read.ensures.idle (subst KnowsNumbers (lent_there _ _ c.self.view_is c.args.slot c.volume_at-state.result.now lent) known) in
    let broke = breaks_beside (g.D.Disk.shown c.read_numbers-read.new.disk) c.from.result _ c.fault_of.new.self c.fault_of.result c.fault_of.ensures in
    (same.0, (broke.0 ∙ same.1.0 ∙ ap (λ (n : Session). n.pool) c.self.view_is, broke.1 ∙ volumes_lent _ _ c.self.view_is c.args.slot c.volume_at-state.result.now lent c.read_numbers-read.new.self same.1.1))
