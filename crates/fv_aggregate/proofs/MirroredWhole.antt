-- What a mirror copies in a session that stands for a machine can be copied, and it is as many blocks as were counted.
use Rattle.std.proofs.Common.{◌≡◌, ◌≤◌, ℕ, true, List, length, Option, Some, sym, ap, subst, ◌∙◌, arith}
use Rattle.std.specs.Prelude.{IfSome}
use Rattle.std.specs.FinMap as fin
use Rattle.fv_disk.specs.Shown.{Shown}
use Rattle.fv_bits.specs.Members.{is_member}
use Rattle.fv_aggmap.specs.Space.{free_blocks}
use Rattle.fv_container.specs.Chains.{IsSlots, container_at}
use Rattle.fv_container.specs.Spelled.{names}
use Rattle.fv_model.specs.declared.commands.Kind.{Kind}
use Rattle.fv_model.specs.Machines.{Machine}
use Rattle.fv_model.specs.Tables.{Table}
use Rattle.fv_model.specs.Volumes.{Volume}
use Rattle.fv_tables.specs.Told.{table_told}
use Rattle.fv_copies.specs.Copying.{copies_below}
use Rattle.fv_pool.specs.BlocksOver.{tree_in}
use Rattle.fv_pool.specs.declared.pool.Pool.{Pool}
use Rattle.fv_volmap.specs.Slots.{IsVolume}
use Rattle.fv_volume.specs.declared.state.Base.{Base}
use Rattle.fv_volume.specs.declared.state.Snap.{Snap}
use Rattle.fv_volume.specs.declared.state.VolumeState.{VolumeState}
use Rattle.fv_volume.specs.OneVolume.{blocks_in, standing_kept, volume_for}
use Rattle.fv_volume.specs.States.{States, state_at}
use Rattle.fv_mirror.specs.declared.admitting.Admitted.{Admitted}
use Rattle.fv_mirror.specs.Admitting.{CanMake}
use Rattle.fv_mirror.specs.Making.{source_bits, CanCopy}
use Rattle.fv_mirror.proofs.Copyable as copyable
use Rattle.fv_mirror.proofs.Made.{source_there as volume_there}
use Rattle.fv_mirror.proofs.Source.{nodes_held}
use Rattle.fv_mirror.proofs.Told.{snapshot_told}
use Rattle.fv_cp.specs.Held.{machine_held, IsHeld}
use Rattle.fv_cp.specs.Lent.{FitTogether}
use Rattle.fv_aggregate.specs.declared.session.Session.{Session}
use Rattle.fv_aggregate.specs.Standing.{StandsFor}
use Rattle.fv_aggregate.proofs.HeldMachine.{is_there}
use Rattle.fv_aggregate.proofs.MirroredHeld.{HasCountIn}

module _ (disk : Shown) (session : Session) (fit : FitTogether session.pool session.volumes) (few : IsSlots session.pool.containers) (name : List ℕ) (size : ℕ) (kind : Kind) (a : Admitted)
    (can : CanMake session.volumes session.pool.found.blocks name size kind a) (maps : IfSome (state_at session.volumes a.source.parent) (λ y. IsVolume y.map)) (point m : Machine) (stands : StandsFor disk session point m) (count : HasCountIn m a) where
  abbrev pool : Pool
  pool = session.pool

  abbrev states : States
  states = session.volumes

  abbrev y : VolumeState
  y = can.asked.source.home.volume

  abbrev q : Snap
  q = can.asked.source.snap

  abbrev table : Table
  table = table_told (standing_kept (blocks_in disk pool y) q)

  abbrev old : Volume
  old = volume_for disk pool y

  held : IsHeld disk pool states point
  held = stands.held

  there : state_at states a.source.parent ≡ Some y
  there = volume_there states pool name size kind a can fit.housed.volumes

  y_maps : IsVolume y.map
  y_maps = subst (λ (o : Option VolumeState). IfSome o (λ z. IsVolume z.map)) there maps

  nodes : (s b : ℕ) → names (tree_in (container_at pool.containers s)) b ≡ true → is_member pool.map.next b ≡ true
  nodes = nodes_held disk.reads pool.found pool states few held.slots held.spaced

  source_in_m : fin.get m.volumes a.source.name ≡ Some old
  source_in_m = subst (λ (k : Machine). fin.get k.volumes a.source.name ≡ Some old) stands.machine
      (ap (fin.get (machine_held disk pool states).volumes) (ap (λ (b : Base). b.name) can.source_is) ∙ is_there disk pool states fit.housed.long point held a.source.parent y there)

  snap_in_m : fin.get old.snapshots a.source.snapshot ≡ Some table
  snap_in_m = snapshot_told disk pool y a.source.snapshot q can.asked.source.found

  -- As many blocks are copied as were counted.
  pub bits_counted : length (copies_below (source_bits y a.source.slot) (length (source_bits y a.source.slot))) ≡ a.count
  bits_counted = copyable.copies_told disk pool states name size kind a can fit.housed.volumes held.each nodes y_maps ∙ sym (count.is old table source_in_m snap_in_m)

  -- So it can be copied, where so many are free.
  pub can_copy : a.count ≤ free_blocks pool.map → CanCopy disk states pool a
  can_copy fits = copyable.can_copy disk pool states name size kind a can fit.housed.volumes held.each nodes (omega (arith, bits_counted, fits))
