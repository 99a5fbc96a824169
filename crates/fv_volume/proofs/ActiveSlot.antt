-- The active map of a volume is slot 0 of its maps.
use Rattle.std.proofs.Common.{◌≡◌, ℕ, Some, None, refl, sym}
use Rattle.std.specs.Prelude.{cond}
use Rattle.fv_disk.specs.Shown.{Shown as Disk}
use Rattle.fv_bits.specs.Members.{is_member}
use Rattle.fv_bits.proofs.Laws.{is_member-replicate}
use Rattle.fv_volmap.specs.Slots.{Slot, Volume as Maps, active_of, has, map_or_empty, slot_at}
use Rattle.fv_pool.specs.declared.pool.Pool.{Pool}
use Rattle.fv_volume.specs.declared.state.VolumeState.{VolumeState}
use Rattle.fv_pool.specs.BlocksOver.{held_entry}
use Rattle.fv_pool.specs.Lending.{use_of}
use Rattle.fv_volume.specs.OneVolume.{shows, uses_in}

-- the active map has what slot 0 has
pub active_has : (m : Maps) (v : ℕ) → has v (slot_at m 0) ≡ is_member (active_of m) v
active_has m v = by (slot_at m 0)
  where
    by : (o : Slot) → has v o ≡ is_member (map_or_empty m.span o) v
    by None = sym (is_member-replicate m.span v)
    by (Some map) = refl

-- what is in use of it is what slot 0 has in use
pub active_uses : (d : Disk) (p : Pool) (x : VolumeState) → uses_in p x 0 ≡ (shows d p x).used
active_uses d p x = λ i v. cond (active_has x.map v i) (Some (use_of (held_entry x.map p.containers x.slot v))) None
