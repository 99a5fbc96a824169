-- A command on snapshots was carried out by the call on the volume of the slot at which it is aimed.
use Rattle.std.proofs.Common.{◌≡◌, ◌≤◌, ◌+◌, ◌⊎◌, ℕ, cond, Option, None, Some, Result, Ok, Err, refl, ap, subst, ◌∙◌}
use Rattle.std.specs.Prelude.{false, IfErr, IfSome, IsNone}
use Rattle.std.specs.Result.{is_ok}
use Rattle.fv_disk.specs.Shown.{IsDisk, Shown}
use Rattle.fv_disk.specs.DiskCalls.{OnlyReads}
use Rattle.fv_model.specs.declared.answers.Refusal.{Refusal}
use Rattle.fv_model.specs.declared.answers.Reply.{Reply}
use Rattle.fv_model.specs.declared.commands.Command.{Command}
use Rattle.fv_pool.specs.declared.fault.VolumeFault.{VolumeFault}
use Rattle.fv_pool.specs.declared.fault.VolumeFault.TheVariants as volume
use Rattle.fv_pool.specs.declared.pool.Pool.{Pool}
use Rattle.fv_volume.specs.declared.state.VolumeState.{VolumeState}
use Rattle.fv_volume.specs.Files.{IsLabelled}
use Rattle.fv_volume.specs.Slots.{HasName}
use Rattle.fv_volume.specs.States.{state_at, with_state}
use Rattle.fv_cp.specs.Lent.{FitTogether}
use Rattle.fv_aggregate.specs.declared.fault.Fault.{Fault}
use Rattle.fv_aggregate.specs.declared.session.Session.{Session}
use Rattle.fv_aggregate.specs.Commands.{places_files, snapped_by}
use Rattle.fv_aggregate.specs.Looking.{done_as, IsSnapAimed, Replied, SnapsState}
use Rattle.fv_snapshot.specs.declared.creating.Granted.{Granted}
use Rattle.fv_volume.specs.OneVolume.{IsReady}
use Rattle.fv_aggregate.specs.Snapping.{snap_blocks, HasGrant, IsAccepted}
use Rattle.fv_aggregate.specs.Standing.{StandsReady}
use Rattle.fv_aggregate.proofs.Changed.{beside}
use Rattle.fv_aggregate.proofs.Returned.{same_there}
use Rattle.fv_aggregate.proofs.SnapCarried.{carried_by, pending_after}
use Rattle.fv_aggregate.proofs.SnapCommands.{aimed_room}
use Rattle.fv_aggregate.proofs.SnapDone.{IsCarried}

module _ {D : Type 0} (shown : D → Shown) (disk left : D) (laws : IsDisk (shown disk)) (reads : OnlyReads (shown disk) (shown left)) (s : Session) (fresh : IsNone s.failed) (stands : StandsReady (shown disk) s) (fit : FitTogether s.pool s.volumes) (slot : ℕ) (c : Command) (aimed : IsSnapAimed s.volumes slot c)
    (x : VolumeState) (there : state_at s.volumes slot ≡ Some x) (of : snapped_by c ≡ Some x.name)
    (others : ℕ) (others_are : others ≡ beside s.volumes slot) (granted : Granted) (few : (granted.room ≡ 0) ⊎ (s.pending + granted.room ≤ 256)) (grant : HasGrant (state_at s.volumes slot) s.pool.found.blocks others c granted)
    (idle : x.files ≡ None → left ≡ disk) where
  abbrev d : Shown
  d = shown disk

  abbrev e : Shown
  e = shown left

  pub carried_now : (q : Pool) (y : VolumeState) → IsReady e q y → (r : Result Unit VolumeFault) → (places_files c ≡ false → left ≡ disk) → IfErr r (λ f. (w : Refusal) → f ≡ volume.Refused w → left ≡ disk) → SnapsState d s.pool s.volumes slot x others c e q y r
      → (before : Session) → before ≡ record s { volumes = with_state s.volumes slot (Some y); pool = q; pending = cond (is_ok r) (s.pending + granted.room) s.pending } → (asked : Result Reply VolumeFault) → asked ≡ done_as r → (new : Session) (result : Result Reply Fault) → Replied e asked before new result → IsCarried d disk s c granted.room e left new result
  carried_now q y ready r kept quiet did before before_is asked asked_is new result replied =
      carried_by shown disk left laws reads s fresh stands fit slot x there slot_is named granted.room idle c of q y r ready kept quiet (subst (λ (n : ℕ). SnapsState d s.pool s.volumes slot x n c e q y r) others_are did)
      (grant.room ∙ ap (λ (o : Option VolumeState). snap_blocks o c) there) few (grant.room ∙ aimed_room s.volumes slot c aimed)
      (subst (λ (n : ℕ). IsAccepted (Some x) s.pool.found.blocks n c) others_are (subst (λ (o : Option VolumeState). IsAccepted o s.pool.found.blocks others c) there grant.accepted))
      new result (subst (λ (n : Session). Replied e (done_as r) n new result) (before_is ∙ as_said) (subst (λ (a : Result Reply VolumeFault). Replied e a before new result) asked_is replied))
    where
      slot_is : x.slot ≡ slot
      slot_is = (subst (λ (o : Option VolumeState). IfSome o (IsLabelled slot)) there (fit.housed.volumes slot)).slot_is

      named : HasName s.volumes slot x.name
      named = subst (λ (z : VolumeState). HasName s.volumes slot z.name) (same_there _ _ _ aimed.there there) aimed.named

      counted : (r : Result Unit VolumeFault) → cond (is_ok r) (s.pending + granted.room) s.pending ≡ pending_after shown disk left laws reads s fresh stands fit slot x there slot_is named granted.room idle r
      counted (Ok u) = refl
      counted (Err f) = refl

      as_said : ◌≡◌ {A = Session} (record s { volumes = with_state s.volumes slot (Some y); pool = q; pending = cond (is_ok r) (s.pending + granted.room) s.pending }) (record s { volumes = with_state s.volumes slot (Some y); pool = q; pending = pending_after shown disk left laws reads s fresh stands fit slot x there slot_is named granted.room idle r })
      as_said = λ j. record s { volumes = with_state s.volumes slot (Some y); pool = q; pending = counted r j }
