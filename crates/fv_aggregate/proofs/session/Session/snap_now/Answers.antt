use Rattle.std.proofs.Common.{◌≡◌, ◌≤◌, ◌+◌, ◌-◌, ◌⊎◌, ℕ, cond, Option, None, Some, is_some, sym, ap, subst, ◌∙◌}
use Rattle.std.specs.Prelude.{IfSome, IsNone}
use Rattle.fv_volume.specs.OneVolume.{IsReady}
use Rattle.std.specs.Result.{is_ok}
use Rattle.std.proofs.lemmas.Option.{same_Some}
use Rattle.fv_model.specs.declared.answers.Reply.{Reply}
use Rattle.fv_volume.specs.Slots.{HasName, committed_by, sum_of}
use Rattle.fv_volume.specs.States.{state_at}
use Rattle.fv_aggregate.specs.Answers.{answer}
use Rattle.fv_aggregate.specs.declared.session.Session.{Session}
use Rattle.fv_aggregate.specs.Calls.{NeedsSnapshot}
use Rattle.fv_aggregate.specs.Commands.{dirty_limit, snapped_by}
use Rattle.fv_aggregate.specs.Looking.{IsSnapAimed}
use Rattle.fv_volume.specs.declared.state.VolumeState.{VolumeState}
use Rattle.fv_volume.specs.States.{States, with_state}
use Rattle.fv_charge.specs.Ledgers.{committed}
use Rattle.fv_cp.specs.Lent.{FitTogether}
use Rattle.fv_aggregate.specs.Parts.{AreSet}
use Rattle.fv_aggregate.specs.Snapping.{HasGrant}
use Rattle.fv_aggregate.proofs.Commits.{commits_with}
use Rattle.fv_aggregate.proofs.Returned.{ready_lent, same_there}
use Rattle.fv_aggregate.specs.Standing.{StandsReady}
use Rattle.fv_aggregate.proofs.SnapAt.{put_in}
use Rattle.fv_aggregate.proofs.SnapDone.{IsCarried}
use Rattle.fv_aggregate.proofs.SnapFits.{fits_after, set_after, snap_reads}
use Rattle.fv_aggregate.proofs.SnapNow.{carried_now}
use Rattle.fv_aggregate.proofs.SnapLost.{needs_now}
use Rattle.fv_aggregate.proofs.session.Session.snap_now.Goals as goal
use Rattle.fv_aggregate.proofs.session.Session.snap_now.Goals.{then-is_ok, else-is_ok}

pub change_snaps-made-requires-clause-aimed : goal.change_snaps-made-requires-clause-aimed
change_snaps-made-requires-clause-aimed g c = subst (λ (n : Session). IsSnapAimed n.volumes c.args.slot c.args.command.now) (sym c.self.view_is) c.requires.aimed

pub change_snaps-made-requires-clause-ready : goal.change_snaps-made-requires-clause-ready
change_snaps-made-requires-clause-ready g c =
    let v : Session = record { volumes = c.self.inside.volumes; pool = c.self.inside.pool; delays = c.self.inside.delays; pending = c.self.inside.pending; failed = c.self.inside.failed } in
    let aimed = subst (λ (n : Session). IsSnapAimed n.volumes c.args.slot c.args.command.now) (sym c.self.view_is) c.requires.aimed in
    subst (λ (o : Option VolumeState). IfSome o (IsReady (g.D.Disk.shown c.args.disk.now) c.self.inside.pool)) (sym aimed.there) (ready_lent (g.D.Disk.shown c.args.disk.now) v _ c.self.view_is c.requires.stands c.args.slot aimed.state aimed.there)

pub change_snaps-made-requires-clause-granted : goal.change_snaps-made-requires-clause-granted
change_snaps-made-requires-clause-granted g c = subst (λ (n : Session). HasGrant (state_at n.volumes c.args.slot) n.pool.found.blocks c.args.others c.args.command.now c.args.granted) (sym c.self.view_is) c.requires.granted

pub volume_in-requires-clause-there : goal.volume_in-requires-clause-there
volume_in-requires-clause-there g c = ap is_some (put_in c.self.inside.volumes c.change_snaps-made.new.volumes c.args.slot c.change_snaps-made.ensures.snaps.state c.change_snaps-made.ensures.snaps.now c.change_snaps-made.ensures.snaps.row c.change_snaps-made.ensures.snaps.there)

pub invariant_of-self : goal.invariant_of-self
invariant_of-self g c = (
  λ none.
      let v : Session = record { volumes = c.self.inside.volumes; pool = c.self.inside.pool; delays = c.self.inside.delays; pending = c.self.inside.pending; failed = c.self.inside.failed } in
      let x = c.change_snaps-made.ensures.snaps.state in
      let aimed = subst (λ (n : Session). IsSnapAimed n.volumes c.args.slot c.args.command.now) (sym c.self.view_is) c.requires.aimed in
      let of : snapped_by c.args.command.now ≡ Some x.name = aimed.snaps ∙ ap (λ (z : VolumeState). Some z.name) (same_there _ _ _ aimed.there c.change_snaps-made.ensures.snaps.there) in
      subst (FitTogether c.change_snaps-made.new.pool) (sym c.change_snaps-made.ensures.snaps.row) (fits_after (g.D.Disk.shown c.args.disk.now) (g.D.Disk.shown c.change_snaps-made.new.disk) (snap_reads g.D.Disk.shown c.args.disk.now c.change_snaps-made.new.disk c.self.inside.pool c.self.inside.volumes c.args.slot x c.args.others c.change_snaps-made.new.pool c.change_snaps-made.ensures.snaps.now c.change_snaps-made.result c.args.command.now of c.change_snaps-made.ensures.kept c.change_snaps-made.ensures.snaps.did) v (c.self.invariant.0 none) c.args.slot c.args.command.now x c.change_snaps-made.ensures.snaps.there of c.args.others c.change_snaps-made.new.pool c.change_snaps-made.ensures.snaps.now c.change_snaps-made.ensures.snaps.ready c.change_snaps-made.result c.change_snaps-made.ensures.snaps.did),
  λ none.
      ap (λ (n : ℕ). c.args.others + n) (c.commit.ensures.exact ∙ ap (λ (z : VolumeState). committed z.ledger) (same_Some _ _ (sym c.volume_in.ensures ∙ put_in c.self.inside.volumes c.change_snaps-made.new.volumes c.args.slot c.change_snaps-made.ensures.snaps.state c.change_snaps-made.ensures.snaps.now c.change_snaps-made.ensures.snaps.row c.change_snaps-made.ensures.snaps.there)))
      ∙ commits_with c.self.inside.volumes (c.self.invariant.0 none).housed.long c.args.slot c.change_snaps-made.ensures.snaps.state c.change_snaps-made.ensures.snaps.now c.change_snaps-made.ensures.snaps.there c.args.others
      (subst (λ (n : Session). c.args.others ≡ sum_of n.volumes - committed_by (state_at n.volumes c.args.slot)) (sym c.self.view_is) c.requires.others)
      ∙ ap (λ (n : States). sum_of n) (sym c.change_snaps-made.ensures.snaps.row),
  λ none.
      let v : Session = record { volumes = c.self.inside.volumes; pool = c.self.inside.pool; delays = c.self.inside.delays; pending = c.self.inside.pending; failed = c.self.inside.failed } in
      let x = c.change_snaps-made.ensures.snaps.state in
      let aimed = subst (λ (n : Session). IsSnapAimed n.volumes c.args.slot c.args.command.now) (sym c.self.view_is) c.requires.aimed in
      let of : snapped_by c.args.command.now ≡ Some x.name = aimed.snaps ∙ ap (λ (z : VolumeState). Some z.name) (same_there _ _ _ aimed.there c.change_snaps-made.ensures.snaps.there) in
      subst (AreSet c.change_snaps-made.new.pool) (sym c.change_snaps-made.ensures.snaps.row) (set_after (g.D.Disk.shown c.args.disk.now) (g.D.Disk.shown c.change_snaps-made.new.disk) (snap_reads g.D.Disk.shown c.args.disk.now c.change_snaps-made.new.disk c.self.inside.pool c.self.inside.volumes c.args.slot x c.args.others c.change_snaps-made.new.pool c.change_snaps-made.ensures.snaps.now c.change_snaps-made.result c.args.command.now of c.change_snaps-made.ensures.kept c.change_snaps-made.ensures.snaps.did) v (c.self.invariant.0 none) (subst (StandsReady (g.D.Disk.shown c.args.disk.now)) (sym c.self.view_is) c.requires.stands) c.args.slot c.args.command.now x c.change_snaps-made.ensures.snaps.there of
      c.args.others c.change_snaps-made.new.pool c.change_snaps-made.ensures.snaps.now c.change_snaps-made.ensures.snaps.ready c.change_snaps-made.result c.change_snaps-made.ensures.snaps.did),
)

pub invariant_of-self-else-is_ok : goal.invariant_of-self-else-is_ok
invariant_of-self-else-is_ok g c = (
  λ none.
      let v : Session = record { volumes = c.self.inside.volumes; pool = c.self.inside.pool; delays = c.self.inside.delays; pending = c.self.inside.pending; failed = c.self.inside.failed } in
      let x = c.change_snaps-made.ensures.snaps.state in
      let aimed = subst (λ (n : Session). IsSnapAimed n.volumes c.args.slot c.args.command.now) (sym c.self.view_is) c.requires.aimed in
      let of : snapped_by c.args.command.now ≡ Some x.name = aimed.snaps ∙ ap (λ (z : VolumeState). Some z.name) (same_there _ _ _ aimed.there c.change_snaps-made.ensures.snaps.there) in
      subst (FitTogether c.change_snaps-made.new.pool) (sym c.change_snaps-made.ensures.snaps.row) (fits_after (g.D.Disk.shown c.args.disk.now) (g.D.Disk.shown c.change_snaps-made.new.disk) (snap_reads g.D.Disk.shown c.args.disk.now c.change_snaps-made.new.disk c.self.inside.pool c.self.inside.volumes c.args.slot x c.args.others c.change_snaps-made.new.pool c.change_snaps-made.ensures.snaps.now c.change_snaps-made.result c.args.command.now of c.change_snaps-made.ensures.kept c.change_snaps-made.ensures.snaps.did) v (c.self.invariant.0 none) c.args.slot c.args.command.now x c.change_snaps-made.ensures.snaps.there of c.args.others c.change_snaps-made.new.pool c.change_snaps-made.ensures.snaps.now c.change_snaps-made.ensures.snaps.ready c.change_snaps-made.result c.change_snaps-made.ensures.snaps.did),
  λ none.
      ap (λ (n : ℕ). c.args.others + n) (c.commit.ensures.exact ∙ ap (λ (z : VolumeState). committed z.ledger) (same_Some _ _ (sym c.volume_in.ensures ∙ put_in c.self.inside.volumes c.change_snaps-made.new.volumes c.args.slot c.change_snaps-made.ensures.snaps.state c.change_snaps-made.ensures.snaps.now c.change_snaps-made.ensures.snaps.row c.change_snaps-made.ensures.snaps.there)))
      ∙ commits_with c.self.inside.volumes (c.self.invariant.0 none).housed.long c.args.slot c.change_snaps-made.ensures.snaps.state c.change_snaps-made.ensures.snaps.now c.change_snaps-made.ensures.snaps.there c.args.others
      (subst (λ (n : Session). c.args.others ≡ sum_of n.volumes - committed_by (state_at n.volumes c.args.slot)) (sym c.self.view_is) c.requires.others)
      ∙ ap (λ (n : States). sum_of n) (sym c.change_snaps-made.ensures.snaps.row),
  λ none.
      let v : Session = record { volumes = c.self.inside.volumes; pool = c.self.inside.pool; delays = c.self.inside.delays; pending = c.self.inside.pending; failed = c.self.inside.failed } in
      let x = c.change_snaps-made.ensures.snaps.state in
      let aimed = subst (λ (n : Session). IsSnapAimed n.volumes c.args.slot c.args.command.now) (sym c.self.view_is) c.requires.aimed in
      let of : snapped_by c.args.command.now ≡ Some x.name = aimed.snaps ∙ ap (λ (z : VolumeState). Some z.name) (same_there _ _ _ aimed.there c.change_snaps-made.ensures.snaps.there) in
      subst (AreSet c.change_snaps-made.new.pool) (sym c.change_snaps-made.ensures.snaps.row) (set_after (g.D.Disk.shown c.args.disk.now) (g.D.Disk.shown c.change_snaps-made.new.disk) (snap_reads g.D.Disk.shown c.args.disk.now c.change_snaps-made.new.disk c.self.inside.pool c.self.inside.volumes c.args.slot x c.args.others c.change_snaps-made.new.pool c.change_snaps-made.ensures.snaps.now c.change_snaps-made.result c.args.command.now of c.change_snaps-made.ensures.kept c.change_snaps-made.ensures.snaps.did) v (c.self.invariant.0 none) (subst (StandsReady (g.D.Disk.shown c.args.disk.now)) (sym c.self.view_is) c.requires.stands) c.args.slot c.args.command.now x c.change_snaps-made.ensures.snaps.there of
      c.args.others c.change_snaps-made.new.pool c.change_snaps-made.ensures.snaps.now c.change_snaps-made.ensures.snaps.ready c.change_snaps-made.result c.change_snaps-made.ensures.snaps.did),
)

pub returns : goal.returns
returns g c =
    let d = g.D.Disk.shown c.args.disk.now in
    let e = g.D.Disk.shown c.change_snaps-made.new.disk in
    let slot = c.args.slot in
    let command = c.args.command.now in
    let room = c.args.granted.room in
    let q = c.change_snaps-made.new.pool in
    let y = c.change_snaps-made.ensures.snaps.now in
    let r = c.change_snaps-made.result in
    let x = c.change_snaps-made.ensures.snaps.state in
    let v : Session = record { volumes = c.self.inside.volumes; pool = c.self.inside.pool; delays = c.self.inside.delays; pending = c.self.inside.pending; failed = c.self.inside.failed } in
    let back = sym c.self.view_is in
    let fresh : IsNone v.failed = subst (λ (n : Session). IsNone n.failed) back c.requires.fresh in
    let stands : StandsReady d v = subst (StandsReady d) back c.requires.stands in
    let aimed : IsSnapAimed v.volumes slot command = subst (λ (n : Session). IsSnapAimed n.volumes slot command) back c.requires.aimed in
    let of : snapped_by command ≡ Some x.name = aimed.snaps ∙ ap (λ (z : VolumeState). Some z.name) (same_there _ _ _ aimed.there c.change_snaps-made.ensures.snaps.there) in
    let others : c.args.others ≡ sum_of v.volumes - committed_by (state_at v.volumes slot) = subst (λ (n : Session). c.args.others ≡ sum_of n.volumes - committed_by (state_at n.volumes slot)) back c.requires.others in
    let few : (room ≡ 0) ⊎ (v.pending + room ≤ dirty_limit) = subst (λ (n : Session). (room ≡ 0) ⊎ (n.pending + room ≤ dirty_limit)) back c.requires.few in
    let grant : HasGrant (state_at v.volumes slot) v.pool.found.blocks c.args.others command c.args.granted = subst (λ (n : Session). HasGrant (state_at n.volumes slot) n.pool.found.blocks c.args.others command c.args.granted) back c.requires.granted in
    let before : c.if-is_ok.self ≡ record v { volumes = with_state v.volumes slot (Some y); pool = q; pending = cond (is_ok r) (v.pending + room) v.pending } = elim c.if-is_ok.branch [
      | then-is_ok w ↦ w.self-is ∙ (λ j. record v { volumes = c.change_snaps-made.ensures.snaps.row j; pool = q; pending = cond (w.if-is_ok.ensures.value j) (v.pending + room) v.pending })
      | else-is_ok w ↦ w.self-is ∙ (λ j. record v { volumes = c.change_snaps-made.ensures.snaps.row j; pool = q; pending = cond (w.if-is_ok.ensures.value j) (v.pending + room) v.pending })
    ] in
    let only = snap_reads g.D.Disk.shown c.args.disk.now c.change_snaps-made.new.disk v.pool v.volumes slot x c.args.others q y r command of c.change_snaps-made.ensures.kept c.change_snaps-made.ensures.snaps.did in
    let carried = carried_now g.D.Disk.shown c.args.disk.now c.change_snaps-made.new.disk (g.met.D.Disk.laws c.args.disk.now) only v fresh stands (c.self.invariant.0 fresh) slot command aimed x c.change_snaps-made.ensures.snaps.there of c.args.others others c.args.granted few grant (λ none. c.change_snaps-made.ensures.idle (subst (λ (o : Option VolumeState). IfSome o (λ z. z.files ≡ None)) (sym c.change_snaps-made.ensures.snaps.there) none))
    q y c.change_snaps-made.ensures.snaps.ready r c.change_snaps-made.ensures.kept c.change_snaps-made.ensures.refused c.change_snaps-made.ensures.snaps.did c.if-is_ok.self before (answer c.done.new.into c.change_snaps-made.result) (ap (λ (z : Reply). answer z c.change_snaps-made.result) c.done.ensures) c.replied.new.self (answer c.replied.new.into c.replied.result) c.replied.ensures in
    let it = subst (λ (n : Session). IsCarried d c.args.disk.now n command room e c.change_snaps-made.new.disk c.replied.new.self (answer c.replied.new.into c.replied.result)) c.self.view_is carried in
    let needs = needs_now v slot x c.change_snaps-made.ensures.snaps.there aimed.within (subst (λ (z : VolumeState). HasName v.volumes slot z.name) (same_there _ _ _ aimed.there c.change_snaps-made.ensures.snaps.there) aimed.named) command
    d e v.pool q y c.args.others r c.change_snaps-made.ensures.snaps.did e (answer c.done.new.into c.change_snaps-made.result) (ap (λ (z : Reply). answer z c.change_snaps-made.result) c.done.ensures) c.if-is_ok.self c.replied.new.self (answer c.replied.new.into c.replied.result) c.replied.ensures in
    record { snapped = it.snapped; only_reads = only; placed = it.placed; accepted = it.accepted; needs = subst (λ (n : Session). NeedsSnapshot n.volumes command (answer c.replied.new.into c.replied.result)) c.self.view_is needs }
