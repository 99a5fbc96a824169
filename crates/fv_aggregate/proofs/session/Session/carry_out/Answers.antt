use Rattle.std.proofs.Common.{◌≡◌, ◌+◌, ◌-◌, ℕ, false, Some, length, sym, ap, subst, ◌∙◌, arith}
use Rattle.std.specs.Prelude.{IsNone, min}
use Rattle.fv_model.specs.declared.answers.Reply.{Reply}
use Rattle.fv_volume.specs.Changing.{keeps_numbers}
use Rattle.fv_pool.specs.Tables.{pending_of}
use Rattle.fv_volume.specs.Slots.{committed_by, sum_of}
use Rattle.fv_volume.specs.States.{state_at, with_state}
use Rattle.fv_aggregate.specs.Answers.{answer}
use Rattle.fv_aggregate.specs.declared.session.Session.{Session}
use Rattle.fv_aggregate.specs.Known.{KeepsNumbersBut, KnowsNumbers}
use Rattle.fv_aggregate.proofs.Carried.{bad_lent, change_lent, makes_lent}
use Rattle.fv_aggregate.proofs.Changed.{counted, fit_changed}
use Rattle.fv_aggregate.proofs.Commits.{commits_most, commits_with}
use Rattle.fv_aggregate.proofs.Keeping.{keeps_with, replied_volumes}
use Rattle.fv_aggregate.proofs.Ready.{set_changed}
use Rattle.fv_aggregate.proofs.Returned.{keeps_changed, lent_there, long_lent, ready_lent}
use Rattle.fv_aggregate.proofs.Unmade.{unmade_lent}
use Rattle.fv_aggregate.proofs.session.Session.carry_out.Goals as goal

pub commits_beside-others-requires-clause-few : goal.commits_beside-others-requires-clause-few
commits_beside-others-requires-clause-few g c =
    let fresh = subst (λ (n : Session). IsNone n.failed) (sym c.self.view_is) c.requires.fresh in
    commits_most (g.D.Disk.shown c.args.disk.now) c.args.self.now.pool c.args.self.now.volumes (subst (λ (n : Session). length n.volumes ≡ 64) c.self.view_is (c.self.invariant.0 fresh).housed.long) c.requires.stands.ready

pub change-made-requires-clause-ready : goal.change-made-requires-clause-ready
change-made-requires-clause-ready g c = ready_lent (g.D.Disk.shown c.args.disk.now) _ _ c.self.view_is c.requires.stands c.args.slot c.volume_at-state.result.now c.volume_at-state.ensures.state

pub change-made-requires-clause-change : goal.change-made-requires-clause-change
change-made-requires-clause-change g c = change_lent _ _ c.self.view_is c.args.slot c.volume_at-state.result.now c.volume_at-state.ensures.state c.args.command.now c.requires.aimed

pub invariant_of-self : goal.invariant_of-self
invariant_of-self g c = (
  λ none.
      let fit = c.self.invariant.0 none in
      let said = c.change-made.ensures in
      fit_changed (g.D.Disk.shown c.args.disk.now) (g.D.Disk.shown c.change-made.new.disk) c.self.inside.pool c.change-made.new.pool c.self.inside.volumes c.args.slot c.volume_at-state.result.now c.change-made.new.self
      c.volume_at-state.ensures.state said.reads said.head.same said.ready fit.housed.long fit,
  λ none.
      ap (λ (n : ℕ). c.commits_beside-others.result + n) c.commit.ensures.exact
      ∙ commits_with c.self.inside.volumes (c.self.invariant.0 none).housed.long c.args.slot c.volume_at-state.result.now c.change-made.new.self c.volume_at-state.ensures.state c.commits_beside-others.result (subst (λ (n : Session). c.commits_beside-others.result ≡ sum_of n.volumes - committed_by (state_at n.volumes c.args.slot)) (sym c.self.view_is) c.commits_beside-others.ensures.sum),
  λ none.
      let said = c.change-made.ensures in
      set_changed (g.D.Disk.shown c.args.disk.now) (g.D.Disk.shown c.change-made.new.disk) _ _ c.self.view_is c.requires.stands c.change-made.new.pool said.reads
      c.args.slot c.volume_at-state.result.now c.change-made.new.self c.volume_at-state.ensures.state said.head.same said.ready (c.self.invariant.0 none).housed.long,
)

pub returns-clause-makes : goal.returns-clause-makes
returns-clause-makes g c =
    let said = c.change-made.ensures in
    let x = c.volume_at-state.result.now in
    let y = c.change-made.new.self in
    let more : c.added-more.result ≡ counted (pending_of x.files) (pending_of y.files) = c.added-more.ensures ∙ (λ j. min (c.pending.ensures j - c.pending-before.ensures j) 16) in
    makes_lent (g.D.Disk.shown c.args.disk.now) (g.D.Disk.shown c.change-made.new.disk) (g.met.D.Disk.laws c.args.disk.now) _ _ c.self.view_is c.self.invariant.0 c.requires.fresh c.requires.stands c.args.command.now c.args.slot
    x c.volume_at-state.ensures.state c.commits_beside-others.result (subst (λ (n : Session). c.commits_beside-others.result ≡ sum_of n.volumes - committed_by (state_at n.volumes c.args.slot)) (sym c.self.view_is) c.commits_beside-others.ensures.sum) c.change-made.new.pool y c.change-made.result (answer c.done.new.into c.change-made.result) (ap (λ (z : Reply). answer z c.change-made.result) c.done.ensures) c.replied.new.self (answer c.replied.new.into c.replied.result)
    c.added-more.result more (let few = c.requires.few in omega (arith, few)) (change_lent _ _ c.self.view_is c.args.slot x c.volume_at-state.ensures.state c.args.command.now c.requires.aimed)
    (record { reads = said.reads; changes = said.changes; standing = said.standing; table = said.table; ready = said.ready; head = said.head; numbers = said.numbers; cause = said.cause }) c.replied.ensures

pub returns-clause-damage : goal.returns-clause-damage
returns-clause-damage g c =
    let said = c.change-made.ensures in
    let x = c.volume_at-state.result.now in
    let y = c.change-made.new.self in
    let more : c.added-more.result ≡ counted (pending_of x.files) (pending_of y.files) = c.added-more.ensures ∙ (λ j. min (c.pending.ensures j - c.pending-before.ensures j) 16) in
    bad_lent (g.D.Disk.shown c.args.disk.now) (g.D.Disk.shown c.change-made.new.disk) (g.met.D.Disk.laws c.args.disk.now) _ _ c.self.view_is c.self.invariant.0 c.requires.fresh c.requires.stands c.args.command.now c.args.slot
    x c.volume_at-state.ensures.state c.commits_beside-others.result (subst (λ (n : Session). c.commits_beside-others.result ≡ sum_of n.volumes - committed_by (state_at n.volumes c.args.slot)) (sym c.self.view_is) c.commits_beside-others.ensures.sum) c.change-made.new.pool y c.change-made.result (answer c.done.new.into c.change-made.result) (ap (λ (z : Reply). answer z c.change-made.result) c.done.ensures) c.replied.new.self (answer c.replied.new.into c.replied.result)
    c.added-more.result more (let few = c.requires.few in omega (arith, few)) (change_lent _ _ c.self.view_is c.args.slot x c.volume_at-state.ensures.state c.args.command.now c.requires.aimed)
    (record { reads = said.reads; changes = said.changes; standing = said.standing; table = said.table; ready = said.ready; head = said.head; numbers = said.numbers; cause = said.cause }) c.replied.ensures

pub returns-clause-reads : goal.returns-clause-reads
returns-clause-reads g c = c.change-made.ensures.reads.only_reads

pub returns-clause-kept : goal.returns-clause-kept
returns-clause-kept g c =
    let s = c.args.self.now in
    let slot = c.args.slot in
    let y = c.change-made.new.self in
    let command = c.args.command.now in
    let x = c.volume_at-state.result.now in
    let there = lent_there _ _ c.self.view_is slot x c.volume_at-state.ensures.state in
    let long = subst (λ (n : Session). length n.volumes ≡ 64) c.self.view_is (long_lent _ _ c.self.view_is c.self.invariant.0 c.requires.fresh) in
    let volumes : c.replied.new.self.volumes ≡ with_state s.volumes slot (Some y) =
    replied_volumes (g.D.Disk.shown c.change-made.new.disk) (answer c.done.new.into c.change-made.result) _ c.replied.new.self (answer c.replied.new.into c.replied.result) c.replied.ensures ∙ ap (λ (n : Session). with_state n.volumes slot (Some y)) c.self.view_is in
    subst (KeepsNumbersBut (λ k. (k ≡ slot) × (keeps_numbers command ≡ false)) s.volumes) (sym volumes)
    (keeps_with _ s.volumes slot (Some y) (let low = c.requires.aimed.within in omega (arith, low, long)) (λ known stays. keeps_changed command x y slot c.change-made.ensures.numbers (subst KnowsNumbers there known) stays))

pub returns-clause-unmade : goal.returns-clause-unmade
returns-clause-unmade g c =
    let said = c.change-made.ensures in
    let x = c.volume_at-state.result.now in
    let y = c.change-made.new.self in
    unmade_lent (g.D.Disk.shown c.args.disk.now) (g.D.Disk.shown c.change-made.new.disk) _ _ c.self.view_is c.self.invariant.0 c.requires.fresh c.change-made.new.pool c.args.slot x y c.volume_at-state.ensures.state
    c.commits_beside-others.result c.args.command.now c.replied.new.self (answer c.replied.new.into c.replied.result) c.added-more.result
    c.change-made.result (answer c.done.new.into c.change-made.result) (ap (λ (z : Reply). answer z c.change-made.result) c.done.ensures)
    (record { reads = said.reads; changes = said.changes; standing = said.standing; table = said.table; ready = said.ready; head = said.head; numbers = said.numbers; cause = said.cause }) c.replied.ensures
