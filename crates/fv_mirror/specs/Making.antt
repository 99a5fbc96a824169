-- What making a mirror leaves.
use Rattle.std.specs.Prelude.{◌≡◌, ◌≢◌, ◌≤◌, ◌⊎◌, ℕ, Bool, true, false, List, length, None, Some, Result, Ok, Err, IfSome}
use Rattle.std.specs.FinMap as fin
use Rattle.fv_disk.specs.Shown.{Shown as Disk}
use Rattle.fv_bits.specs.Members.{is_member}
use Rattle.fv_aggmap.specs.Space.{IsFree, free_blocks}
use Rattle.fv_container.specs.declared.entry.Entry.{Entry}
use Rattle.fv_container.specs.Chains.{chain_entry, paged_at, with_container, with_parent}
use Rattle.fv_container.specs.Clean.{IsCleanOn}
use Rattle.fv_container.specs.Mapped.{Mapped, entry_under}
use Rattle.fv_container.specs.Paged.{Paged}
use Rattle.fv_container.specs.Spelled.{names}
use Rattle.fv_image.specs.Views.{entry_count}
use Rattle.fv_model.specs.declared.commands.Kind.{Kind}
use Rattle.fv_places.specs.ByKind.{form_of, shape_in}
use Rattle.fv_places.specs.Changed.{Blanks}
use Rattle.fv_pool.specs.declared.fault.VolumeFault.{VolumeFault}
use Rattle.fv_pool.specs.declared.fault.VolumeFault.TheVariants.{Refused, DiskFault, Damaged, Memory}
use Rattle.fv_pool.specs.declared.pool.Pool.{Pool}
use Rattle.fv_pool.specs.Keeping.{seen}
use Rattle.fv_copies.specs.Copying.{IsSource, IsWhole, LeavesTaken, copies_below}
use Rattle.fv_copies.specs.Landings.{LeadsTo}
use Rattle.fv_volmap.specs.Slots.{map_or_empty, slot_at}
use Rattle.fv_volume.specs.declared.state.VolumeState.{VolumeState}
use Rattle.fv_volume.specs.Mirroring.{IsMirrorOf}
use Rattle.fv_volume.specs.States.{States, state_at, with_state}
use Rattle.fv_clone.specs.Admitting.{IsBaseNamed}
use Rattle.fv_mirror.specs.declared.admitting.Admitted.{Admitted}
use Rattle.fv_mirror.specs.Admitting.{Admits, CanMake, Refuses}

-- the numbers of the snapshot that a mirror is of
abbrev pub source_bits : VolumeState → ℕ → List Bool
source_bits y slot = map_or_empty y.map.span (slot_at y.map slot)

-- What a mirror copies lies still while free blocks are written, where the disk tells what it reads.
abbrev pub TellsSource : Disk → States → Pool → Admitted → Type 0
TellsSource disk states pool a = IfSome (state_at states a.source.parent) (λ y. IsSource disk pool a.source.parent (source_bits y a.source.slot))

-- It is whole, too, and as many blocks are free. So no damage is answered.
pub record CanCopy (disk : Disk) (states : States) (pool : Pool) (a : Admitted) : Type 0 where
  pub tells : TellsSource disk states pool a
  pub whole : IfSome (state_at states a.source.parent) (λ y. IsWhole disk pool a.source.parent (source_bits y a.source.slot))
  pub room : IfSome (state_at states a.source.parent) (λ y. length (copies_below (source_bits y a.source.slot) (length (source_bits y a.source.slot))) ≤ free_blocks pool.map)

-- The block under a number of the source was copied: it has the shape of its kind, the new container leads to a block of the same kind that was free
-- and isn't kept, and what the disk reads there is the source's block with each place in it unknown.
pub record HasCopy (disk : Disk) (pool : Pool) (source : ℕ) (container : Mapped) (after : Disk) (left : Pool) (v : ℕ) : Type 0 where
  pub from : Entry
  pub entry : Entry
  pub there : chain_entry pool.containers source v ≡ Some from
  pub here : entry_under container v ≡ Some entry
  pub kind : entry.kind ≡ from.kind
  pub free : IsFree pool.map entry.pvbn
  pub taken : is_member left.map.next entry.pvbn ≡ true
  pub unkept : fin.get left.kept entry.pvbn ≡ None
  pub shaped : shape_in (form_of from.kind) (seen pool.kept disk.reads from.pvbn) ≡ Ok tt
  pub blank : Blanks (form_of from.kind) (seen pool.kept disk.reads from.pvbn) (after.reads entry.pvbn)

-- Where the disk tells: so it is with each number of the source, each in a block of its own, and under each other number there is a hole.
pub record HasCopies (disk : Disk) (pool : Pool) (source : ℕ) (bits : List Bool) (container : Paged) (after : Disk) (left : Pool) : Type 0 where
  pub copies : (v : ℕ) → is_member bits v ≡ true → HasCopy disk pool source container.map after left v
  pub holes : (v : ℕ) → is_member bits v ≡ false → entry_under container.map v ≡ None
  pub apart : (v w : ℕ) → w ≢ v → (e f : Entry) → entry_under container.map v ≡ Some e → entry_under container.map w ≡ Some f → f.pvbn ≢ e.pvbn
  pub clean : IsCleanOn after.reads container
  -- the next root holds these blocks, and the others as before
  pub stay : (b : ℕ) → is_member pool.map.next b ≡ true → is_member left.map.next b ≡ true
  pub come : (b : ℕ) → is_member left.map.next b ≡ true → (is_member pool.map.next b ≡ true) ⊎ LeadsTo container b

-- A mirror that was admitted is in its slot, with a container of its own and no parent; the other slots are as before.
pub record IsMirrored (disk : Disk) (old : States) (pool : Pool) (name : List ℕ) (size : ℕ) (kind : Kind) (a : Admitted) (after : Disk) (new : States) (left : Pool) : Type 0 where
  pub admits : CanMake old pool.found.blocks name size kind a
  pub state : VolumeState
  pub is : IsMirrorOf admits.asked.source.home.volume a.source a.count a.slot name size kind a.span state
  pub row : new ≡ with_state old a.slot (Some state)
  pub container : Paged
  pub there : paged_at left.containers a.slot ≡ Some container
  pub containers : left.containers ≡ with_parent (with_container pool.containers a.slot (Some container)) a.slot None
  pub long : length container.map.entries ≡ entry_count a.span
  pub nowhere : (b : ℕ) → names container.map.tree b ≡ false
  pub copied : IsSource disk pool a.source.parent (source_bits admits.asked.source.home.volume a.source.slot)
      → HasCopies disk pool a.source.parent (source_bits admits.asked.source.home.volume a.source.slot) container after left

-- What is left of pool and disk, also after a fault: but for the containers, each block that isn't free is as before, in what is read, and in what
-- a crash now or at any moment of the call leaves, and no bytes are given out. What was held is held.
abbrev pub LeavesOthers : Disk → Pool → Disk → Pool → Type 0
LeavesOthers disk pool after left = LeavesTaken (Unit {0}) disk pool after (record left { containers = pool.containers })

-- Where none is made, the volumes, the map of free blocks, and the containers are as before.
pub record IsUnmade (old : States) (pool : Pool) (new : States) (left : Pool) : Type 0 where
  pub states : new ≡ old
  pub map : left.map ≡ pool.map
  pub containers : left.containers ≡ pool.containers

-- ---- judged and made

-- A mirror of a snapshot that is asked by its name is in this slot, with the span that was admitted.
pub record Imports (disk : Disk) (old : States) (pool : Pool) (source snapshot name : List ℕ) (size : ℕ) (kind : Kind) (after : Disk) (new : States) (left : Pool) (slot : ℕ) : Type 0 where
  pub admitted : Admitted
  pub slot_is : admitted.slot ≡ slot
  pub named : IsBaseNamed source snapshot admitted.source
  pub admits : Admits old pool.found.blocks name size kind admitted
  pub mirrored : IsMirrored disk old pool name size kind admitted after new left

-- One that was admitted can't be copied as it should.
pub record CanNotCopy (disk : Disk) (old : States) (pool : Pool) (source snapshot name : List ℕ) (size : ℕ) (kind : Kind) : Type 0 where
  pub admitted : Admitted
  pub named : IsBaseNamed source snapshot admitted.source
  pub admits : Admits old pool.found.blocks name size kind admitted
  pub not : CanCopy disk old pool admitted → ⊥

-- Why none is made: it is refused; or one that is admitted can't be copied; or a call of the disk failed, or memory ran out.
abbrev pub IsImportFault : Disk → States → Pool → List ℕ → List ℕ → List ℕ → ℕ → Kind → VolumeFault → Type 0
IsImportFault disk states pool source snapshot name size kind (Refused r) = Refuses states pool.found.blocks source snapshot name size kind r
IsImportFault disk states pool source snapshot name size kind DiskFault = Unit {0}
IsImportFault disk states pool source snapshot name size kind (Damaged at want found) = CanNotCopy disk states pool source snapshot name size kind
IsImportFault disk states pool source snapshot name size kind Memory = Unit {0}

-- The count of failed writes and barriers stays where nothing of the disk failed, and never falls: `HasWriteCause`, of a volume's faults.
abbrev pub HasVolumeWriteCause : {T : Type 0} → ℕ → ℕ → Result T VolumeFault → Type 0
HasVolumeWriteCause before now (Ok x) = now ≡ before
HasVolumeWriteCause before now (Err (Refused r)) = now ≡ before
HasVolumeWriteCause before now (Err DiskFault) = before ≤ now
HasVolumeWriteCause before now (Err (Damaged at want found)) = now ≡ before
HasVolumeWriteCause before now (Err Memory) = now ≡ before
