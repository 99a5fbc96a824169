-- A mirror that can be made can be copied, where the volumes of a session are held and as many blocks are free.
use Rattle.std.proofs.Common.{◌≡◌, ◌≤◌, ℕ, true, List, length, Option, Some, sym, subst, ◌∙◌}
use Rattle.std.specs.Prelude.{IfSome}
use Rattle.std.specs.FinSet as set
use Rattle.fv_disk.specs.Shown.{Shown as Disk}
use Rattle.fv_bits.specs.Members.{is_member}
use Rattle.fv_aggmap.specs.Space.{free_blocks}
use Rattle.fv_container.specs.Chains.{container_at}
use Rattle.fv_container.specs.Spelled.{names}
use Rattle.fv_copies.specs.Copying.{IsSource, IsWhole, copies_below}
use Rattle.fv_laws.proofs.Lists.{In, in_right}
use Rattle.fv_model.specs.declared.commands.Kind.{Kind}
use Rattle.fv_model.specs.Places.{ids_of}
use Rattle.fv_tables.specs.Told.{table_told}
use Rattle.fv_volmap.specs.Slots.{IsVolume}
use Rattle.fv_pool.specs.declared.pool.Pool.{Pool}
use Rattle.fv_pool.specs.BlocksOver.{tree_in}
use Rattle.fv_volume.specs.declared.state.Snap.{Snap}
use Rattle.fv_volume.specs.declared.state.VolumeState.{VolumeState}
use Rattle.fv_volume.specs.Cloning.{count_in}
use Rattle.fv_volume.specs.Files.{IsLabelled}
use Rattle.fv_volume.specs.Held.{IsHeldIn}
use Rattle.fv_volume.specs.OneVolume.{base_table, blocks_in, standing_kept, tables_of}
use Rattle.fv_volume.specs.States.{States, state_at}
use Rattle.fv_volume.proofs.IdsCounted.{slot_ids}
use Rattle.fv_volume.proofs.SnapFinds.{named_there}
use Rattle.fv_mirror.specs.declared.admitting.Admitted.{Admitted}
use Rattle.fv_mirror.specs.Admitting.{CanMake}
use Rattle.fv_mirror.specs.Making.{source_bits, CanCopy}
use Rattle.fv_mirror.proofs.Counted.{copies_counted}
use Rattle.fv_clone.proofs.Source.{home_slot, snap_slot}
use Rattle.fv_mirror.proofs.Made.{of_asked, snap, source, source_there}
use Rattle.fv_mirror.proofs.Source.{kept_there, tells_source}
use Rattle.fv_mirror.proofs.Whole.{source_whole}

module _ (disk : Disk) (pool : Pool) (states : States) (name : List ℕ) (size : ℕ) (kind : Kind) (a : Admitted) (admits : CanMake states pool.found.blocks name size kind a) (labelled : (s : ℕ) → IfSome (state_at states s) (IsLabelled s))
    (each : (s : ℕ) → IfSome (state_at states s) (IsHeldIn disk pool s)) (nodes : (s b : ℕ) → names (tree_in (container_at pool.containers s)) b ≡ true → is_member pool.map.next b ≡ true) where
  abbrev y : VolumeState
  y = source states pool name size kind a admits labelled

  abbrev q : Snap
  q = snap states pool name size kind a admits labelled

  y_there : state_at states a.source.parent ≡ Some y
  y_there = source_there states pool name size kind a admits labelled

  y_slot : y.slot ≡ a.source.parent
  y_slot = home_slot (of_asked states pool name size kind a admits labelled)

  q_slot : a.source.slot ≡ q.slot
  q_slot = snap_slot (of_asked states pool name size kind a admits labelled)

  y_held : IsHeldIn disk pool a.source.parent y
  y_held = subst (λ (o : Option VolumeState). IfSome o (IsHeldIn disk pool a.source.parent)) y_there (each a.source.parent)

  q_there : In q (tables_of y)
  q_there = in_right q (base_table y.base) y.snapshots (named_there a.source.snapshot y.snapshots q admits.asked.source.found).0

  tells : IsSource disk pool a.source.parent (source_bits y a.source.slot)
  tells = subst (λ (s : ℕ). IsSource disk pool s (source_bits y a.source.slot)) y_slot
      (subst (λ (k : ℕ). IsSource disk pool y.slot (source_bits y k)) (sym q_slot) (tells_source disk pool y y_held.stands q q_there nodes))

  whole : IsWhole disk pool a.source.parent (source_bits y a.source.slot)
  whole = subst (λ (s : ℕ). IsWhole disk pool s (source_bits y a.source.slot)) y_slot
      (subst (λ (k : ℕ). IsWhole disk pool y.slot (source_bits y k)) (sym q_slot) (source_whole disk pool y y_held.stands q q_there))

  -- It can be, where its copies have room,
  pub can_copy : length (copies_below (source_bits y a.source.slot) (length (source_bits y a.source.slot))) ≤ free_blocks pool.map → CanCopy disk states pool a
  can_copy room = record {
    tells = subst (λ (o : Option VolumeState). IfSome o (λ y. IsSource disk pool a.source.parent (source_bits y a.source.slot))) (sym y_there) tells;
    whole = subst (λ (o : Option VolumeState). IfSome o (λ y. IsWhole disk pool a.source.parent (source_bits y a.source.slot))) (sym y_there) whole;
    room = subst (λ (o : Option VolumeState). IfSome o (λ y. length (copies_below (source_bits y a.source.slot) (length (source_bits y a.source.slot))) ≤ free_blocks pool.map)) (sym y_there) room;
  }

  -- and there are as many of them as the snapshot's table has ids.
  pub copies_told : IsVolume y.map → length (copies_below (source_bits y a.source.slot) (length (source_bits y a.source.slot))) ≡ set.len (ids_of (table_told (standing_kept (blocks_in disk pool y) q)))
  copies_told maps =
      copies_counted y a.source.slot maps ∙ (λ i. count_in y (q_slot i))
      ∙ slot_ids disk pool y maps y_held.stands.shared q q_there (kept_there disk pool y y_held.stands q q_there).1
