-- A clone of a snapshot of a volume as it is made in memory, whatever the disk tells.
use Rattle.std.specs.Prelude.{◌≡◌, ◌*◌, ℕ, Bool, true, false, count_by, List, [], length, Some}
use Rattle.std.specs.List.{range_with_len}
use Rattle.fv_bits.specs.Members.{is_member}
use Rattle.fv_image.specs.Views.{Head}
use Rattle.fv_model.specs.declared.commands.Kind.{Kind}
use Rattle.fv_model.specs.Spelling.{is_name}
use Rattle.fv_volmap.specs.Slots.{Slot, Volume as Maps, empty_volume, has, slot_at, slot_of_base, with_slot}
use Rattle.fv_volume.specs.declared.state.Base.{Base}
use Rattle.fv_volume.specs.declared.state.Snap.{Snap}
use Rattle.fv_volume.specs.declared.state.VolumeState.{VolumeState}
use Rattle.fv_volume.specs.States.{footing_in, head_in, ledger_of_empty, table_in, IsAtFirst}

-- what a clone of a volume's snapshot stands on
abbrev pub base_on : VolumeState → Snap → Base
base_on y q = record { parent = y.slot; slot = q.slot; splitting = false; name = y.name; snapshot = q.name; table = q.table }

-- how many numbers a slot of a volume's maps has: as many as the table in it has ids
abbrev pub count_in : VolumeState → ℕ → ℕ
count_in y k = count_by (λ v. has v (slot_at y.map k)) (range_with_len 0 y.map.span)

-- the head of a clone that is made, after as many changes as its parent
abbrev pub clone_head : List ℕ → ℕ → Kind → ℕ → ℕ → Base → Head
clone_head name size kind span now b = record {
  name = name;
  kind = kind;
  size = size;
  most = 2 * size;
  span = span;
  now = now;
  base = Some (footing_in b);
  known = true;
  active = table_in b.table;
  snapshots = [];
}

-- Maps of a span: the active slot and that of the base have what a slot of another volume has, and the others are free.
pub record AreMapsOn (from : Slot) (span : ℕ) (maps : Maps) : Type 0 where
  pub map : List Bool
  pub slots : maps ≡ with_slot (with_slot (empty_volume span) slot_of_base (Some map)) 0 (Some map)
  pub long : length map ≡ span
  pub members : (v : ℕ) → is_member map v ≡ has v from

-- A new clone of a volume's snapshot, which a consistency point has yet to write: its active table is the snapshot's, nothing is charged, nothing of
-- files is in memory, and no label lies anywhere.
pub record IsCloneOf (y : VolumeState) (b : Base) (slot : ℕ) (name : List ℕ) (size : ℕ) (kind : Kind) (span : ℕ) (x : VolumeState) : Type 0 where
  pub slot_is : x.slot ≡ slot
  pub head : head_in x ≡ clone_head name size kind span y.now b
  pub based : x.base ≡ Some b
  pub active : x.active ≡ b.table
  pub snapshots : x.snapshots ≡ []
  pub maps : AreMapsOn (slot_at y.map b.slot) span x.map
  pub ledger : x.ledger ≡ ledger_of_empty size kind span
  pub label : x.label ≡ 0
  pub changed : x.changed ≡ true
  pub rests : IsAtFirst x
  pub named : is_name name ≡ true
