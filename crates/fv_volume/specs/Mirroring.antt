-- A mirror of a snapshot of a volume as it is made in memory, whatever the disk tells.
use Rattle.std.specs.Prelude.{◌≡◌, ◌*◌, ℕ, Bool, true, false, List, [], length, None, Some}
use Rattle.fv_bits.specs.Members.{is_member}
use Rattle.fv_charge.specs.declared.ledger.Ledger.{Ledger}
use Rattle.fv_image.specs.Views.{Head}
use Rattle.fv_model.specs.declared.commands.Kind.{Kind}
use Rattle.fv_model.specs.Spelling.{is_name}
use Rattle.fv_tables.specs.Alike.{hintless}
use Rattle.fv_pool.specs.declared.rooted.Rooted.{Rooted}
use Rattle.fv_volmap.specs.Slots.{Slot, Volume as Maps, empty_volume, has, slot_at, with_slot}
use Rattle.fv_volume.specs.declared.state.Base.{Base}
use Rattle.fv_volume.specs.declared.state.VolumeState.{VolumeState}
use Rattle.fv_volume.specs.States.{head_in, table_in, IsAtFirst}

-- a table at a place that isn't known
abbrev pub mirror_table : Rooted → Rooted
mirror_table t = record { levels = t.levels; root = hintless t.root }

-- the head of a mirror that is made, after as many changes as its source
abbrev pub mirror_head : List ℕ → ℕ → Kind → ℕ → ℕ → Rooted → Head
mirror_head name size kind span now t = record {
  name = name;
  kind = kind;
  size = size;
  most = 2 * size;
  span = span;
  now = now;
  base = None;
  known = false;
  active = table_in (mirror_table t);
  snapshots = [];
}

-- what a mirror commits, charged for so many blocks
abbrev pub ledger_of_mirror : ℕ → ℕ → Kind → ℕ → Ledger
ledger_of_mirror count size kind span = record { charge = count; need = 0; size = size; kind = kind; span = span }

-- Maps of a span: the active slot has what a slot of another volume has, and the others are free.
pub record AreMapsOf (from : Slot) (span : ℕ) (maps : Maps) : Type 0 where
  pub map : List Bool
  pub slots : maps ≡ with_slot (empty_volume span) 0 (Some map)
  pub long : length map ≡ span
  pub members : (v : ℕ) → is_member map v ≡ has v from

-- A new mirror of a volume's snapshot, which a consistency point has yet to write: its active table is the snapshot's, at a place that isn't known,
-- so many blocks are charged, nothing of files is in memory, and no label lies anywhere.
pub record IsMirrorOf (y : VolumeState) (b : Base) (count slot : ℕ) (name : List ℕ) (size : ℕ) (kind : Kind) (span : ℕ) (x : VolumeState) : Type 0 where
  pub slot_is : x.slot ≡ slot
  pub head : head_in x ≡ mirror_head name size kind span y.now b.table
  pub based : x.base ≡ None
  pub active : x.active ≡ mirror_table b.table
  pub snapshots : x.snapshots ≡ []
  pub maps : AreMapsOf (slot_at y.map b.slot) span x.map
  pub ledger : x.ledger ≡ ledger_of_mirror count size kind span
  pub label : x.label ≡ 0
  pub changed : x.changed ≡ true
  pub rests : IsAtFirst x
  pub named : is_name name ≡ true
