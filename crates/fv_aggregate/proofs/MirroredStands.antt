-- A session with a mirror more, or with none, over a disk of which free blocks were written: for which machine it stands, and that its blocks have room.
use Rattle.std.proofs.Common.{◌≡◌, ◌≤◌, ◌<◌, ◌+◌, ℕ, List, Some, None, sym, ap, subst, ◌∙◌, arith}
use Rattle.std.specs.Prelude.{IsTrue}
use Rattle.fv_disk.specs.Shown.{IsDisk, IsSettled, Shown}
use Rattle.fv_aggmap.specs.Space.{free_blocks}
use Rattle.fv_model.specs.declared.commands.Kind.{Kind}
use Rattle.fv_model.specs.Machines.{Machine}
use Rattle.fv_model.specs.Space.{overhead}
use Rattle.fv_image.specs.Held.{view_at}
use Rattle.fv_image.specs.Views.{overheads}
use Rattle.fv_root.specs.declared.find.Found.{Found}
use Rattle.fv_root.specs.Finding.{root_found}
use Rattle.fv_volume.specs.declared.state.VolumeState.{VolumeState}
use Rattle.fv_volume.specs.States.{state_at, with_state}
use Rattle.fv_mirror.specs.declared.admitting.Admitted.{Admitted}
use Rattle.fv_mirror.specs.Making.{IsUnmade}
use Rattle.fv_cp.specs.Held.{machine_held, IsHeld}
use Rattle.fv_cp.specs.Known.{AreKnown}
use Rattle.fv_cp.specs.Lent.{maps_waiting}
use Rattle.fv_cp.specs.Placing.{pending_files}
use Rattle.fv_cp.proofs.Known.{known_same}
use Rattle.fv_aggregate.specs.declared.session.Session.{Session}
use Rattle.fv_aggregate.specs.Adding.{HasRoom, IsYetToWrite}
use Rattle.fv_aggregate.specs.Mirroring.{IsMirrorAdded, LeavesCopies}
use Rattle.fv_aggregate.specs.Standing.{clear_blocks, overheads_in, taken_since, unwritten, StandsFor}
use Rattle.fv_aggregate.proofs.Applied.{own_room}
use Rattle.fv_aggregate.proofs.Asking.{overheads_added, pending_added, waiting_added}
use Rattle.fv_aggregate.proofs.Clear.{clear_stays, free_and_placed}
use Rattle.fv_aggregate.proofs.MirroredDisk.{view_free, writes_free}
use Rattle.fv_aggregate.proofs.MirroredVolume.{mirror_yet, span_is}

-- As many blocks are free as are copied, where room was made for them.
pub copies_fit : (disk : Shown) (session : Session) (point m : Machine) → StandsFor disk session point m → (a : Admitted) (room : ℕ) → room ≡ overhead a.span + a.count → HasRoom disk session room → a.count ≤ free_blocks session.pool.map
copies_fit disk session point m stands a room room_is enough =
    let parts = free_and_placed session.pool.map in
    let least : unwritten session ≤ session.pending = stands.files in
    omega (arith, room_is, parts, least, enough)

module _ (disk : Shown) (session : Session) (after : Shown) (new : Session) (leaves : LeavesCopies disk session after new) (laws : IsDisk disk) (tells : IsTrue disk.tells) (settled : IsSettled after) (point m : Machine) (stands : StandsFor disk session point m) where
  view_same : view_at (root_found new.pool.found) after.reads ≡ view_at (root_found session.pool.found) disk.reads
  view_same = ap (λ (f : Found). view_at (root_found f) after.reads) leaves.others.found
      ∙ view_free disk session.pool session.volumes point stands.held after (writes_free disk session.pool after new.pool leaves.others) laws tells

  over_same : overheads (view_at (root_found new.pool.found) after.reads) ≡ overheads (view_at (root_found session.pool.found) disk.reads)
  over_same = ap overheads view_same

  clear_same : clear_blocks new.pool.map ≡ clear_blocks session.pool.map
  clear_same = clear_stays session.pool.map new.pool.map leaves.others.committed

  known : AreKnown after.reads new.pool.found new.delays
  known = subst (AreKnown after.reads new.pool.found) (sym leaves.delays) (known_same disk.reads after.reads session.pool.found new.pool.found session.delays view_same stands.delays)

  -- None was made: so the session stands for what it stood for.
  pub none_stands : IsUnmade session.volumes session.pool new.volumes new.pool → new.pending ≡ session.pending → IsHeld after new.pool new.volumes point → machine_held after new.pool new.volumes ≡ m → StandsFor after new point m
  none_stands unmade pending held machine =
      let files : pending_files new.volumes ≡ pending_files session.volumes = ap pending_files unmade.states in
      let maps : maps_waiting new.volumes ≡ maps_waiting session.volumes = ap maps_waiting unmade.states in
      let taken : taken_since new.pool.map ≡ taken_since session.pool.map = ap taken_since unmade.map in
      let free : free_blocks new.pool.map ≡ free_blocks session.pool.map = ap free_blocks unmade.map in
      let over : overheads_in new.volumes ≡ overheads_in session.volumes = ap overheads_in unmade.states in
      record {
        held = held;
        machine = machine;
        settled = settled;
        delays = known;
        pending = omega (arith, files, maps, taken, over, over_same, pending, stands.pending);
        files = omega (arith, files, maps, taken, pending, stands.files);
        few = omega (arith, files, stands.few);
        free = omega (arith, files, free, stands.free);
        room = omega (arith, over_same, clear_same, pending, stands.room);
      }

  module _ (name : List ℕ) (size : ℕ) (kind : Kind) (a : Admitted) (room : ℕ) (added : IsMirrorAdded disk session name size kind a room after new) where
    abbrev x : VolumeState
    x = added.mirrored.state

    yet : IsYetToWrite x
    yet = mirror_yet disk session.volumes session.pool name size kind a after new.volumes new.pool added.mirrored added.fit.housed added.few

    slot_is : x.slot ≡ a.slot
    slot_is = added.mirrored.is.slot_is

    row_is : new.volumes ≡ with_state session.volumes x.slot (Some x)
    row_is = added.mirrored.row ∙ ap (λ (n : ℕ). with_state session.volumes n (Some x)) (sym slot_is)

    within : x.slot < 64
    within = let low = added.mirrored.admits.free.within in omega (arith, low, slot_is)

    free_slot : state_at session.volumes x.slot ≡ None
    free_slot = ap (state_at session.volumes) slot_is ∙ added.mirrored.admits.free.free

    files_same : pending_files new.volumes ≡ pending_files session.volumes
    files_same = ap pending_files row_is ∙ pending_added session.volumes x added.fit.housed.long within free_slot yet

    maps_same : maps_waiting new.volumes ≡ maps_waiting session.volumes
    maps_same = ap maps_waiting row_is ∙ waiting_added session.volumes x added.fit.housed.long within free_slot yet

    over_more : overheads_in new.volumes ≡ overheads_in session.volumes + overhead x.span
    over_more = ap overheads_in row_is ∙ overheads_added session.volumes x added.fit.housed.long within free_slot yet

    span_same : overhead x.span ≡ overhead a.span
    span_same = ap overhead (span_is disk session.volumes session.pool name size kind a after new.volumes new.pool added.mirrored added.fit.housed added.few)

    -- The mirror was made: so many blocks were taken at most, and there was room for them. It stands for the machine that it is of.
    pub mirror_stands : (next : Machine) → free_blocks session.pool.map ≤ free_blocks new.pool.map + a.count → HasRoom disk session room → IsHeld after new.pool new.volumes point → machine_held after new.pool new.volumes ≡ next
        → StandsFor after new point next
    mirror_stands next spent enough held machine =
        let room_is = added.room_is in
        let pending = added.pending in
        let old_parts = free_and_placed session.pool.map in
        let new_parts = free_and_placed new.pool.map in
        let some = own_room a.span in
        let taken : taken_since new.pool.map ≤ taken_since session.pool.map + a.count = omega (arith, spent, old_parts, new_parts, clear_same) in
        let all : overheads (view_at (root_found session.pool.found) disk.reads) + (session.pending + room) ≤ clear_blocks session.pool.map = omega (arith, enough) in
        let least : unwritten session ≤ session.pending = stands.files in
        let left : pending_files session.volumes + a.count < free_blocks session.pool.map = omega (arith, all, least, room_is, some, old_parts) in
        record {
          held = held;
          machine = machine;
          settled = settled;
          delays = known;
          pending = omega (arith, files_same, maps_same, taken, over_more, span_same, over_same, pending, room_is, stands.pending);
          files = omega (arith, files_same, maps_same, taken, pending, room_is, stands.files);
          few = omega (arith, files_same, stands.few);
          free = omega (arith, files_same, left, spent);
          room = omega (arith, over_same, clear_same, pending, enough);
        }
