-- What the active table of a volume shares with those of its snapshots, once its trees were placed.
use Rattle.std.proofs.Common.{◌≡◌, ℕ, Bool, true, false, cond, Option, Some, None, is_some, refl, ap, subst}
use Rattle.std.specs.Prelude.{slice_index_or}
use Rattle.std.specs.Option.{option_map}
use Rattle.fv_disk.specs.Shown.{Shown as Disk}
use Rattle.fv_codec.specs.declared.inode.InodeRecord.{InodeRecord}
use Rattle.fv_codec.specs.Blocks.{greatest_word}
use Rattle.fv_tables.specs.Spelled.{stored}
use Rattle.fv_tables.specs.Told.{file_at}
use Rattle.fv_tree.specs.Beside.{unread}
use Rattle.fv_tree.specs.Standing.{under}
use Rattle.fv_files.specs.declared.files.Files.{Files}
use Rattle.fv_files.specs.Apart.{Trees}
use Rattle.fv_files.specs.Tables.{loaded_trees}
use Rattle.fv_volmap.specs.Slots.{has, slot_at}
use Rattle.fv_files.specs.Altering.{AreLaid, PlacesTrees}
use Rattle.fv_pool.specs.declared.pool.Pool.{Pool}
use Rattle.fv_volume.specs.declared.state.Snap.{Snap}
use Rattle.fv_volume.specs.declared.state.VolumeState.{VolumeState}
use Rattle.fv_pool.specs.BlocksOver.{held_block}
use Rattle.fv_pool.specs.Tables.{AreLaidBy, trees_by}
use Rattle.fv_volume.specs.OneVolume.{blocks_in, shows, IsKeptTable, IsStanding, tables_of}
use Rattle.fv_pool.specs.Placing.{IsInNoSnap}
use Rattle.fv_volume.specs.Sharing.{trees_kept, AreShared, StandsInBlock}
use Rattle.fv_volume.proofs.SharedChanges.{shared_placed}

module _ (d : Disk) (p : Pool) (x : VolumeState) (f : Files) (held : x.files ≡ Some f) (is : IsStanding d p x) where
  -- a snapshot's table stands in blocks of its slot
  stands_held : (q : Snap) → IsKeptTable d p x q → (u : Option ℕ) (k i v : ℕ) → StandsInBlock (trees_kept (blocks_in d p x) q u) k i v → is_some (blocks_in d p x q.slot v) ≡ true
  stands_held q kept None k i v stands = subst (λ (n : ℕ). is_some (blocks_in d p x q.slot n) ≡ true) stands.vvbn (kept.1.trees.inode.held k i stands.some)
  stands_held q kept (Some n) k i v stands = by (file_at (stored (blocks_in d p x q.slot) greatest_word q.table.levels q.table.root) n) refl stands
    where
      by : (o : Option InodeRecord) → file_at (stored (blocks_in d p x q.slot) greatest_word q.table.levels q.table.root) n ≡ o → StandsInBlock (option_map (λ r. unread (stored (blocks_in d p x q.slot) n r.levels r.root)) o) k i v
          → is_some (blocks_in d p x q.slot v) ≡ true
      by None e stands = absurd (stands.some refl)
      by (Some r) e stands = subst (λ (n : ℕ). is_some (blocks_in d p x q.slot n) ≡ true) stands.vvbn ((kept.1.trees.files n r e).held k i stands.some)

  -- so in none that was free
  stands_apart : (q : Snap) → IsKeptTable d p x q → (v : ℕ) → IsInNoSnap d p x.map x.slot v → (u : Option ℕ) (k i : ℕ) → StandsInBlock (trees_kept (blocks_in d p x) q u) k i v → ⊥
  stands_apart q kept v free u k i stands = by (has v (slot_at x.map q.slot)) refl (stands_held q kept u k i v stands)
    where
      by : (b : Bool) → has v (slot_at x.map q.slot) ≡ b → is_some (cond b (held_block x.map p x.slot d.reads v) None) ≡ true → ⊥
      by true member some = let none : is_some (held_block x.map p x.slot d.reads v) ≡ false = ap is_some (free q.slot kept.0 member) in cc
      by false member some = cc

  pub placed_shared : (c : Trees) → PlacesTrees (IsInNoSnap d p x.map x.slot) (loaded_trees (under (shows d p x)) f) c → AreShared c (blocks_in d p x) (tables_of x)
  placed_shared c places = shared_placed (IsInNoSnap d p x.map x.slot) (loaded_trees (under (shows d p x)) f) c (blocks_in d p x) (tables_of x) (λ n q lt. stands_apart (slice_index_or (tables_of x) n q) (is.kept n q lt)) places
      (subst (λ (o : Option Files). AreShared (trees_by (under (shows d p x)) x.active o) (blocks_in d p x) (tables_of x)) held is.shared)

  pub was_laid : AreLaid (under (shows d p x)) f
  was_laid = subst (AreLaidBy (under (shows d p x))) held is.laid
