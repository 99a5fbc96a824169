-- What the active table of a volume shares with those of its snapshots stays so by a change, and by a flush.
use Rattle.std.proofs.Common.{◌≡◌, ◌<◌, ◌+◌, ◌⊎◌, ℕ, true, inl, inr, List, Option, Some, None, refl, arith}
use Rattle.std.specs.Prelude.{slice_index_or, All}
use Rattle.std.proofs.lemmas.Bool.{cases_eq}
use Rattle.fv_disk.specs.Shown.{Shown as Disk}
use Rattle.fv_laws.specs.WellFormed.{IsWellTable}
use Rattle.fv_tables.specs.Spelled.{Under}
use Rattle.fv_tables.specs.Told.{table_told}
use Rattle.fv_tree.specs.Flushing.{Loaded}
use Rattle.fv_tree.specs.Standing.{under}
use Rattle.fv_files.specs.declared.files.Files.{Files}
use Rattle.fv_files.specs.Apart.{Trees}
use Rattle.fv_volmap.specs.Slots.{Volume as Maps}
use Rattle.fv_files.specs.Altering.{AltersIn, AltersTrees, PlacesIn, PlacesTrees}
use Rattle.fv_pool.specs.declared.pool.Pool.{Pool}
use Rattle.fv_volume.specs.declared.state.Snap.{Snap}
use Rattle.fv_volume.specs.declared.state.VolumeState.{VolumeState}
use Rattle.fv_pool.specs.Tables.{AreLaidBy, trees_by}
use Rattle.fv_volume.specs.OneVolume.{shows, standing_kept, trees_for}
use Rattle.fv_volume.specs.Sharing.{differs_in, pointer_in, trees_kept, AreShared, SharesWith, StandsInBlock}
use Rattle.fv_volume.proofs.KeptStamps.{stored_stamp}
use Rattle.fv_volume.proofs.Shared.{changed_unshared, placed_unshared, shared_by, shares_by, IsAlike, IsUnshared}

-- What the next change of a volume did to the places of its trees, over these maps: each has its stamp or is as before, and those in memory are
-- as their files' records say or their inode blocks have changed.
pub record PlacesAltered (disk : Disk) (pool : Pool) (x : VolumeState) (map : Maps) (files : Option Files) : Type 0 where
  pub alters : AltersTrees (x.now + 1) (trees_for disk pool x) (trees_by (under (shows disk pool (record x { map = map }))) x.active files)
  pub laid : AreLaidBy (under (shows disk pool (record x { map = map }))) files

-- ---- by a change

-- a place has the stamp of a change, and differs from its block
record IsStamped (stamp : ℕ) (new : Option Loaded) (level place : ℕ) : Type 0 where
  stamped : (pointer_in new level place).stamp ≡ stamp
  differs : differs_in new level place ≡ true

-- a change leaves a place of a table so
altered : (stamp : ℕ) (s t : Option Loaded) → AltersIn stamp s t → (level place : ℕ) → ((pointer_in t level place).stamp ≡ 0) ⊎ (IsStamped stamp t level place ⊎ IsAlike s t level place)
altered stamp s None alters level place = inl refl
altered stamp None (Some t) alters level place = inl (alters level place)
altered stamp (Some s) (Some t) alters level place = elim (alters level place) [
  | inl none ↦ inl none
  | inr (inl now) ↦ inr (inl (record { stamped = now.stamped; differs = now.changed }))
  | inr (inr was) ↦ inr (inr (record { pointer = was.pointer; differs = was.changed }))
]

-- A change of a table, with a stamp that is later than all of another, leaves what it shares with that.
pub shares_altered : (stamp : ℕ) (a b c : Trees) → AltersTrees stamp a c → ((o : Option ℕ) (level place : ℕ) → (pointer_in (b o) level place).stamp < stamp) → SharesWith a b → SharesWith c b
shares_altered stamp a b c alters later is = shares_by a b c is (λ o level place. elim (altered stamp (a o) (c o) (alters o) level place) [
  | inl none ↦ inl none
  | inr (inl now) ↦ inr (inl (changed_unshared c b o level place stamp now.stamped now.differs (later o level place)))
  | inr (inr was) ↦ inr (inr was)
])

-- ---- by a flush

-- a place that differed from its block was placed, under the stamp that it had
record IsMoved (free : ℕ → Type 0) (old new : Option Loaded) (level place : ℕ) : Type 0 where
  stamp : (pointer_in new level place).stamp ≡ (pointer_in old level place).stamp
  was : differs_in old level place ≡ true
  fresh : free (pointer_in new level place).vvbn

moved : (free : ℕ → Type 0) (s t : Option Loaded) → PlacesIn free s t → (level place : ℕ) → ((pointer_in t level place).stamp ≡ 0) ⊎ (IsMoved free s t level place ⊎ IsAlike s t level place)
moved free None None places level place = inl refl
moved free None (Some t) places level place = absurd places
moved free (Some s) None places level place = inl refl
moved free (Some s) (Some t) places level place = elim (places level place) [
  | inl none ↦ inl none
  | inr (inl now) ↦ inr (inl (record { stamp = now.stamp; was = now.was; fresh = now.fresh }))
  | inr (inr was) ↦ inr (inr (record { pointer = was.pointer; differs = was.changed }))
]

-- A flush of a table that gives new blocks VVBNs in which another table stands nowhere leaves what it shares with that.
pub shares_placed : (free : ℕ → Type 0) (a b c : Trees) → PlacesTrees free a c → ((v : ℕ) → free v → (u : Option ℕ) (k q : ℕ) → StandsInBlock (b u) k q v → ⊥) → SharesWith a b → SharesWith c b
shares_placed free a b c places apart is = shares_by a b c is (λ o level place. elim (moved free (a o) (c o) (places o) level place) [
  | inl none ↦ inl none
  | inr (inl now) ↦ placed o level place now
  | inr (inr was) ↦ inr (inr was)
])
  where
    placed : (o : Option ℕ) (level place : ℕ) → IsMoved free (a o) (c o) level place → ((pointer_in (c o) level place).stamp ≡ 0) ⊎ (IsUnshared c b o level place ⊎ IsAlike (a o) (c o) level place)
    placed o level place now = elim (cases_eq (pointer_in (c o) level place).stamp 0) [
      | inl none ↦ inl none
      | inr some ↦ inr (inl (placed_unshared a b c is o level place some now.stamp now.was (apart (pointer_in (c o) level place).vvbn now.fresh)))
    ]

-- ---- with each snapshot

-- Stamps that are later than the changes that a volume counted are later than those of its snapshots.
pub shared_altered : (now stamp : ℕ) (a c : Trees) (blocks : ℕ → Under) (snaps : List Snap) → now < stamp → All (λ (q : Snap). IsWellTable now (table_told (standing_kept blocks q))) snaps → AltersTrees stamp a c → AreShared a blocks snaps → AreShared c blocks snaps
shared_altered now stamp a c blocks snaps later well alters is = shared_by a c blocks snaps is (λ n q lt. shares_altered stamp a (trees_kept blocks (slice_index_or snaps n q)) c alters (below (slice_index_or snaps n q) (well n q lt)))
  where
    below : (q : Snap) → IsWellTable now (table_told (standing_kept blocks q)) → (o : Option ℕ) (level place : ℕ) → (pointer_in (trees_kept blocks q o) level place).stamp < stamp
    below q told o level place = let past = stored_stamp now (blocks q.slot) q.table.levels q.table.root told o level place in omega (arith, past, later)

pub shared_placed : (free : ℕ → Type 0) (a c : Trees) (blocks : ℕ → Under) (snaps : List Snap) → All (λ (q : Snap). (v : ℕ) → free v → (u : Option ℕ) (k i : ℕ) → StandsInBlock (trees_kept blocks q u) k i v → ⊥) snaps → PlacesTrees free a c
    → AreShared a blocks snaps → AreShared c blocks snaps
shared_placed free a c blocks snaps apart places is = shared_by a c blocks snaps is (λ n q lt. shares_placed free a (trees_kept blocks (slice_index_or snaps n q)) c places (apart n q lt))
