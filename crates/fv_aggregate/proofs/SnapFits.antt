-- What a session's parts are after a command on snapshots, whatever the disk tells: they fit together, and calls can be made on each volume.
use Rattle.std.proofs.Common.{◌≡◌, ℕ, false, List, Option, Some, Result, Ok, Err, refl, sym, subst}
use Rattle.std.specs.Prelude.{IfSome}
use Rattle.fv_disk.specs.Shown.{Shown}
use Rattle.fv_disk.specs.DiskCalls.{OnlyReads}
use Rattle.fv_model.specs.declared.commands.Command.{Command}
use Rattle.fv_pool.specs.declared.fault.VolumeFault.{VolumeFault}
use Rattle.fv_pool.specs.declared.pool.Pool.{Pool}
use Rattle.fv_volume.specs.declared.state.VolumeState.{VolumeState}
use Rattle.fv_volume.specs.Files.{IsLabelled}
use Rattle.fv_volume.specs.OneVolume.{IsReady}
use Rattle.fv_volume.specs.States.{States, state_at, with_state}
use Rattle.fv_cp.specs.Lent.{FitTogether}
use Rattle.fv_cp.specs.Placing.{AreReady}
use Rattle.fv_snapshot.specs.Creating.{Creates, TellsCreation}
use Rattle.fv_snapshot.specs.Deleting.{Deletes, is_used}
use Rattle.fv_snapshot.specs.Restoring.{Restores}
use Rattle.fv_aggregate.specs.declared.session.Session.{Session}
use Rattle.fv_aggregate.specs.Commands.{places_files, snapped_by}
use Rattle.fv_aggregate.specs.Looking.{SnapsState}
use Rattle.fv_aggregate.specs.Parts.{AreSet}
use Rattle.fv_aggregate.specs.Standing.{StandsReady}
use Rattle.fv_aggregate.proofs.Calls.{reads_itself}
use Rattle.fv_aggregate.proofs.Looked.{reads_alone, ready_read}
use Rattle.fv_aggregate.proofs.Ready.{ready_set}
use Rattle.fv_aggregate.proofs.Returned.{put_back}
use Rattle.fv_aggregate.proofs.SnapCommands.{snap_cases}
use Rattle.fv_aggregate.proofs.SnapSessions.{placed_fit, placed_ready, snapped_fit, snapped_stands}
use Rattle.fv_aggregate.proofs.SnapSteps.{restored_step, snapped_step, unsnapped_step}
use Rattle.fv_aggregate.proofs.Stepped.{fit_stepped, ready_stepped}

module _ (d e : Shown) (reads : OnlyReads d e) (s : Session) (fit : FitTogether s.pool s.volumes) (slot : ℕ) (x : VolumeState) (there : state_at s.volumes slot ≡ Some x) (slot_is : x.slot ≡ slot) (others : ℕ) (q : Pool) (y : VolumeState) (ready : IsReady e q y) where
  abbrev stay : States
  stay = with_state s.volumes slot (Some y)

  create_fits : (name : List ℕ) (r : Result Unit VolumeFault) → Creates d s.pool x others name e q y r → TellsCreation s.pool x others name y r → FitTogether q stay
  create_fits name (Ok u) did tells = snapped_fit d e s q slot x did.done.mid y there slot_is fit did.done.placed (snapped_step d s.pool x e q name y did.done tells.waits) ready 0
  create_fits name (Err f) did tells = placed_fit d e s q slot x y there slot_is fit did.failed

  delete_fits : (name : List ℕ) (r : Result Unit VolumeFault) → Deletes d s.pool x (is_used s.volumes slot name) name e q y r → FitTogether q stay
  delete_fits name (Ok u) did = snapped_fit d e s q slot x did.done.mid y there slot_is fit did.done.placed (unsnapped_step d s.pool x e q name y did.done) ready 0
  delete_fits name (Err f) did = placed_fit d e s q slot x y there slot_is fit did.failed

  restore_fits : (name : List ℕ) (r : Result Unit VolumeFault) → q ≡ s.pool → Restores d s.pool x others name y r → FitTogether q stay
  restore_fits name (Ok u) same did = subst (λ (p : Pool). FitTogether p stay) (sym same)
      (fit_stepped e s.pool s.volumes fit.housed.long slot x y there (restored_step x name y did.done) (subst (λ (p : Pool). IsReady e p y) same ready) fit)
  restore_fits name (Err f) same did =
      subst (λ (p : Pool). FitTogether p stay) (sym same) (subst (FitTogether s.pool) (sym (put_back s.volumes slot x y there did.failed)) fit)

  pub snap_fits : (c : Command) → snapped_by c ≡ Some x.name → (r : Result Unit VolumeFault) → SnapsState d s.pool s.volumes slot x others c e q y r → FitTogether q stay
  snap_fits c of r = snap_cases (λ (k : Command). SnapsState d s.pool s.volumes slot x others k e q y r → FitTogether q stay) (λ v name did. create_fits name r did.1.0 did.1.1) (λ v name did. delete_fits name r did.1) (λ v name did. restore_fits name r did.1.0 did.1.1) x.name c of

  -- ---- and calls can be made

  module _ (stands : StandsReady d s) where
    -- over the disk that was read they can be made, too
    ready_over : AreReady e s.pool s.volumes
    ready_over = ready_read d e s.pool s.pool (reads_alone d e s.pool reads stands.stands.cache) s.volumes stands.ready

    create_ready : (name : List ℕ) (r : Result Unit VolumeFault) → Creates d s.pool x others name e q y r → TellsCreation s.pool x others name y r → AreReady e q stay
    create_ready name (Ok u) did tells = (snapped_stands d e s q slot x did.done.mid y there slot_is fit did.done.placed (snapped_step d s.pool x e q name y did.done tells.waits) ready 0 stands).ready
    create_ready name (Err f) did tells = placed_ready d e s q slot x y there slot_is fit did.failed stands.ready

    delete_ready : (name : List ℕ) (r : Result Unit VolumeFault) → Deletes d s.pool x (is_used s.volumes slot name) name e q y r → AreReady e q stay
    delete_ready name (Ok u) did = (snapped_stands d e s q slot x did.done.mid y there slot_is fit did.done.placed (unsnapped_step d s.pool x e q name y did.done) ready 0 stands).ready
    delete_ready name (Err f) did = placed_ready d e s q slot x y there slot_is fit did.failed stands.ready

    restore_ready : (name : List ℕ) (r : Result Unit VolumeFault) → q ≡ s.pool → Restores d s.pool x others name y r → AreReady e q stay
    restore_ready name (Ok u) same did = subst (λ (p : Pool). AreReady e p stay) (sym same)
        (ready_stepped e s.pool s.volumes fit.housed.long slot x y there (restored_step x name y did.done) (subst (λ (p : Pool). IsReady e p y) same ready) slot_is (λ k differ. ready_over k))
    restore_ready name (Err f) same did = subst (λ (p : Pool). AreReady e p stay) (sym same) (subst (AreReady e s.pool) (sym (put_back s.volumes slot x y there did.failed)) ready_over)

    pub snap_ready : (c : Command) → snapped_by c ≡ Some x.name → (r : Result Unit VolumeFault) → SnapsState d s.pool s.volumes slot x others c e q y r → AreReady e q stay
    snap_ready c of r = snap_cases (λ (k : Command). SnapsState d s.pool s.volumes slot x others k e q y r → AreReady e q stay) (λ v name did. create_ready name r did.1.0 did.1.1) (λ v name did. delete_ready name r did.1) (λ v name did. restore_ready name r did.1.0 did.1.1) x.name c of

-- Such a call on a volume only read the disk.
pub snap_reads : {D : Type 0} (shown : D → Shown) (disk left : D) (p : Pool) (states : States) (slot : ℕ) (x : VolumeState) (others : ℕ) (q : Pool) (y : VolumeState) (r : Result Unit VolumeFault) (c : Command) → snapped_by c ≡ Some x.name → (places_files c ≡ false → left ≡ disk) → SnapsState (shown disk) p states slot x others c (shown left) q y r → OnlyReads (shown disk) (shown left)
snap_reads {D} shown disk left p states slot x others q y r c of = snap_cases (λ (k : Command). (places_files k ≡ false → left ≡ disk) → SnapsState (shown disk) p states slot x others k (shown left) q y r → OnlyReads (shown disk) (shown left))
    (λ v name kept did. made name r did.1.0) (λ v name kept did. gone name r did.1) (λ v name kept did. subst (λ (l : D). OnlyReads (shown disk) (shown l)) (sym (kept refl)) (reads_itself (shown disk))) x.name c of
  where
    made : (name : List ℕ) (r : Result Unit VolumeFault) → Creates (shown disk) p x others name (shown left) q y r → OnlyReads (shown disk) (shown left)
    made name (Ok u) did = did.done.placed.goes.goes.goes.only_reads
    made name (Err f) did = did.failed.goes.goes.goes.only_reads

    gone : (name : List ℕ) (r : Result Unit VolumeFault) → Deletes (shown disk) p x (is_used states slot name) name (shown left) q y r → OnlyReads (shown disk) (shown left)
    gone name (Ok u) did = did.done.placed.goes.goes.goes.only_reads
    gone name (Err f) did = did.failed.goes.goes.goes.only_reads

-- So they are by what the call on the volume did at which a command is aimed.
pub fits_after : (d e : Shown) → OnlyReads d e → (s : Session) → FitTogether s.pool s.volumes → (slot : ℕ) (c : Command) (x : VolumeState) → state_at s.volumes slot ≡ Some x → snapped_by c ≡ Some x.name → (others : ℕ) (q : Pool) (y : VolumeState) → IsReady e q y → (r : Result Unit VolumeFault)
    → SnapsState d s.pool s.volumes slot x others c e q y r → FitTogether q (with_state s.volumes slot (Some y))
fits_after d e reads s fit slot c x there of others q y ready r did =
    let slot_is = (subst (λ (o : Option VolumeState). IfSome o (IsLabelled slot)) there (fit.housed.volumes slot)).slot_is in
    snap_fits d e reads s fit slot x there slot_is others q y ready c of r did

pub set_after : (d e : Shown) → OnlyReads d e → (s : Session) → FitTogether s.pool s.volumes → StandsReady d s → (slot : ℕ) (c : Command) (x : VolumeState) → state_at s.volumes slot ≡ Some x → snapped_by c ≡ Some x.name → (others : ℕ) (q : Pool) (y : VolumeState) → IsReady e q y
    → (r : Result Unit VolumeFault) → SnapsState d s.pool s.volumes slot x others c e q y r → AreSet q (with_state s.volumes slot (Some y))
set_after d e reads s fit stands slot c x there of others q y ready r did =
    let slot_is = (subst (λ (o : Option VolumeState). IfSome o (IsLabelled slot)) there (fit.housed.volumes slot)).slot_is in
    ready_set e q (with_state s.volumes slot (Some y)) (snap_ready d e reads s fit slot x there slot_is others q y ready stands c of r did)
