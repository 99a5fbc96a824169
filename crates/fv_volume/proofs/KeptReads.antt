-- What a read of a table finds that a command asks, a snapshot's among them: each of its trees stands whole on the blocks that the volume holds.
use Rattle.std.proofs.Common.{◌≡◌, ◌≤◌, ℕ, List, [], ◌∷◌, Option, Some, None, refl, sym, ap, subst, ◌∙◌}
use Rattle.std.specs.Prelude.{All, map, unwrap_or, Result, Err}
use Rattle.std.specs.Option.{option_map}
use Rattle.std.proofs.lemmas.List.Elements.{All-cons, All-head, All-nil, All-tail}
use Rattle.fv_disk.specs.Shown.{Shown as Disk}
use Rattle.fv_disk.specs.declared.fault.BlockFault.{BlockFault}
use Rattle.fv_codec.specs.declared.inode.InodeRecord.{InodeRecord}
use Rattle.fv_codec.specs.declared.pointer.Pointer.{Pointer}
use Rattle.fv_codec.specs.Blocks.{greatest_word, IsPointer}
use Rattle.fv_model.specs.Spelling.{is_same_name}
use Rattle.fv_tables.specs.Kept.{AgreeOnTree}
use Rattle.fv_tables.specs.Spelled.{Rooted as Spelled, Under, pointer_at, stored}
use Rattle.fv_tables.specs.Told.{Standing, file_at, standing_at}
use Rattle.fv_tables.proofs.Tables.{same_record}
use Rattle.fv_tree.specs.Beside.{loaded_on, unread, IsLaid}
use Rattle.fv_tree.specs.Flushing.{Leads, IsSound, ReachesOnce}
use Rattle.fv_tree.specs.Sources.{Use}
use Rattle.fv_tree.specs.Standing.{under}
use Rattle.fv_tree.proofs.Beside.{beside_alike, beside_sound, unread_laid, unread_sound}
use Rattle.fv_inode.proofs.Indexed.{alike_indexes}
use Rattle.fv_files.specs.Apart.{IsAsSaid, StoredIn}
use Rattle.fv_pool.specs.declared.pool.Pool.{Pool}
use Rattle.fv_pool.specs.declared.rooted.Rooted.{Rooted}
use Rattle.fv_volume.specs.declared.state.Snap.{Snap}
use Rattle.fv_volume.specs.declared.state.VolumeState.{VolumeState}
use Rattle.fv_volume.specs.declared.tables.TableAsked.{TableAsked}
use Rattle.fv_volume.specs.declared.tables.TableAsked.TheVariants.{Active, Kept}
use Rattle.fv_volume.specs.Asking.{root_asked, snap_named, standing_asked, standing_of, standing_read, table_named, IsTableOf}
use Rattle.fv_pool.specs.Calls.{CallCause, Reads, TableFails}
use Rattle.fv_pool.specs.Causes.{of_block}
use Rattle.fv_pool.specs.declared.fault.VolumeFault.{VolumeFault}
use Rattle.fv_pool.proofs.CallCauses.{failed_cause}
use Rattle.fv_pool.proofs.OverBlocks.{tree_stored}
use Rattle.fv_pool.specs.Lending.{lent_for}
use Rattle.fv_volume.specs.OneVolume.{blocks_in, home_in, shows, standing_for, uses_in, IsKeptTable, IsReady, IsStanding}
use Rattle.fv_volume.specs.Placing.{IsStoredWell}
use Rattle.fv_volume.specs.SnapRecords.{IsSayableSnap}
use Rattle.fv_volume.specs.States.{snap_in}
use Rattle.fv_volume.proofs.OneVolumes.{levels_fit, root_fits, still_standing, still_table, still_under}
use Rattle.fv_volume.proofs.SnapReads.{found_among, slot_held}
use Rattle.fv_volume.proofs.Undamaged.{active_holds, HoldsWell, TableHolds}
use Rattle.fv_volume.proofs.TablesOf.{snaps_all}

-- ---- the table of a snapshot

-- A table under another root than the active one is that of a snapshot, which has what each of them has.
pub record IsOfSnap (P : Snap → Type 0) (root : Rooted) : Type 0 where
  pub snap : Snap
  pub table : snap.table ≡ root
  pub has : P snap

pub of_snap : (x : VolumeState) (P : Snap → Type 0) → All P x.snapshots → (root : Rooted) → IsTableOf x (Kept root) → IsOfSnap P root
of_snap x P all root (None, none) = absurd cc
of_snap x P all root (Some name, named) = by (snap_named x.snapshots name) refl named
  where
    same_root : (a b : Rooted) → ◌≡◌ {A = Option TableAsked} (Some (Kept a)) (Some (Kept b)) → a ≡ b
    same_root a b e = cc

    by : (o : Option Snap) → snap_named x.snapshots name ≡ o → option_map (λ (q : Snap). Kept q.table) o ≡ Some (Kept root) → IsOfSnap P root
    by None is at = absurd cc
    by (Some q) is at = record { snap = q; table = same_root q.table root at; has = found_among P (λ (q : Snap). is_same_name name q.name) x.snapshots all q is }

-- what a label says of each snapshot
pub each_sayable : (snaps : List Snap) → All IsSayableSnap (map snap_in snaps) → All (λ (q : Snap). IsSayableSnap (snap_in q)) snaps
each_sayable [] all = All-nil (λ (q : Snap). IsSayableSnap (snap_in q))
each_sayable (q ∷ qs) all = All-cons (λ (q : Snap). IsSayableSnap (snap_in q)) q qs (All-head IsSayableSnap (snap_in q) (map snap_in qs) all) (each_sayable qs (All-tail IsSayableSnap (snap_in q) (map snap_in qs) all))

module _ (disk : Disk) (pool : Pool) (x : VolumeState) (ready : IsReady disk pool x) (root : Rooted) (of : IsTableOf x (Kept root)) where
  abbrev said : IsOfSnap (λ (q : Snap). IsSayableSnap (snap_in q)) root
  said = of_snap x (λ (q : Snap). IsSayableSnap (snap_in q)) (each_sayable x.snapshots ready.labelled.snapshots.each) root of

  -- its root fits a pointer
  pub kept_root_fits : IsPointer root.root
  kept_root_fits = subst (λ (r : Rooted). IsPointer r.root) said.table said.has.root

  pub kept_levels_fit : root.levels ≤ 2
  kept_levels_fit = subst (λ (r : Rooted). r.levels ≤ 2) said.table said.has.levels

-- the root of the table that is asked fits a pointer, too
pub asked_root_fits : (d : Disk) (p : Pool) (x : VolumeState) → IsReady d p x → (t : TableAsked) → IsTableOf x t → IsPointer (root_asked x.active t).root
asked_root_fits d p x ready Active of = root_fits d p x ready
asked_root_fits d p x ready (Kept root) of = kept_root_fits d p x ready root of

pub asked_levels_fit : (d : Disk) (p : Pool) (x : VolumeState) → IsReady d p x → (t : TableAsked) → IsTableOf x t → (root_asked x.active t).levels ≤ 2
asked_levels_fit d p x ready Active of = levels_fit d p x ready
asked_levels_fit d p x ready (Kept root) of = kept_levels_fit d p x ready root of

-- A tree that stands whole on the blocks of a slot does so on all that the volume holds.
module _ (d : Disk) (p : Pool) (x : VolumeState) (k owner levels : ℕ) (root : Pointer) (reaches : ReachesOnce (uses_in p x k) (stored (blocks_in d p x k) owner levels root))
    (is : IsAsSaid x.known (unread (stored (blocks_in d p x k) owner levels root))) where
  abbrev blocks : Under
  blocks = under (shows d p x)

  abbrev own : Spelled
  own = stored (blocks_in d p x k) owner levels root

  sound : IsSound (uses_in p x k) (unread own)
  sound = unread_sound (uses_in p x k) own (λ level place. refl) (λ index. refl) reaches

  laid : IsLaid (unread own)
  laid = unread_laid own

  stay : (level place v : ℕ) → Leads (unread own) level place v → blocks v ≡ blocks_in d p x k v
  stay level place v leads = slot_held d p x k v (sound.held level place v leads)

  slot_tree : HoldsWell x.known blocks (uses_in p x k) (stored blocks owner levels root)
  slot_tree = record {
    loaded = loaded_on blocks (unread own);
    tree = refl;
    on = refl;
    sound = beside_sound (unread own) blocks laid stay (uses_in p x k) (uses_in p x k) (λ level place v leads. refl) sound;
    laid = unread_laid (stored blocks owner levels root);
    well = tree_stored (blocks_in d p x k) blocks owner levels root (λ level place some. slot_held d p x k (pointer_at own level place).vvbn (reaches.held level place some)) x.known is;
  }

module _ (d : Disk) (p : Pool) (x : VolumeState) (q : Snap) (is : IsKeptTable d p x q) where
  abbrev whole : Under
  whole = under (shows d p x)

  abbrev its : Under
  its = blocks_in d p x q.slot

  abbrev inode : Spelled
  inode = stored its greatest_word q.table.levels q.table.root

  agree : AgreeOnTree inode whole
  agree level place some = slot_held d p x q.slot (pointer_at inode level place).vvbn (is.1.trees.inode.held level place some)

  in_slot : (n : ℕ) (r : InodeRecord) → file_at (stored whole greatest_word q.table.levels q.table.root) n ≡ Some r → file_at inode n ≡ Some r
  in_slot n r there = sym (same_record inode whole agree n) ∙ there

  inode_leads : (level place v : ℕ) → Leads (unread inode) level place v → whole v ≡ its v
  inode_leads level place v leads = slot_held d p x q.slot v ((unread_sound (uses_in p x q.slot) inode (λ level place. refl) (λ index. refl) is.1.trees.inode).held level place v leads)

  -- So does each tree of a snapshot's table.
  pub kept_holds : TableHolds x.known whole (uses_in p x q.slot) (standing_at whole q.table.levels q.table.root)
  kept_holds = record {
    inode = slot_tree d p x q.slot greatest_word q.table.levels q.table.root is.1.trees.inode (is.1.well.trees None);
    files = λ n r there. slot_tree d p x q.slot n r.levels r.root (is.1.trees.files n r (in_slot n r there))
        (subst (λ (o : Option InodeRecord). StoredIn x.known (option_map (λ r. unread (stored its n r.levels r.root)) o)) (in_slot n r there) (is.1.well.trees (Some n)));
    names = alike_indexes inode (stored whole greatest_word q.table.levels q.table.root) (beside_alike (unread inode) whole (unread_laid inode) inode_leads) is.1.well.inodes;
  }

module _ (d : Disk) (p : Pool) (x : VolumeState) (is : IsStanding d p x) where
  module _ (root : Rooted) (of : IsTableOf x (Kept root)) where
    abbrev pub kept : IsOfSnap (IsKeptTable d p x) root
    kept = of_snap x (IsKeptTable d p x) (snaps_all (IsKeptTable d p x) x is.kept) root of

    abbrev table : Standing
    table = standing_of d p x (Kept root)

    pub root_holds : TableHolds x.known (under (shows d p x)) (uses_in p x kept.snap.slot) table
    root_holds = subst (λ (r : Rooted). TableHolds x.known (under (shows d p x)) (uses_in p x kept.snap.slot) (standing_of d p x (Kept r))) kept.table (kept_holds d p x kept.snap kept.has)

  -- ---- the table that is asked

  -- A table stands whole on the blocks that the volume holds, some of which are in use.
  pub record HoldsTable (t : Standing) : Type 0 where
    pub uses : ℕ → Option Use
    pub holds : TableHolds x.known (under (shows d p x)) uses t

  module _ (well : IsStoredWell d p x) where
    of_holds : (t : TableAsked) → IsTableOf x t → HoldsTable (standing_of d p x t)
    of_holds Active of = record { uses = (shows d p x).used; holds = active_holds d p x is well }
    of_holds (Kept root) of = record { uses = uses_in p x (kept root of).snap.slot; holds = root_holds root of }

    -- the table of each command does
    pub read_holds : (s : Option (List ℕ)) → HoldsTable (standing_read d p x s)
    read_holds s = by (table_named x s) refl
      where
        by : (o : Option TableAsked) → table_named x s ≡ o → HoldsTable (unwrap_or (option_map (standing_of d p x) o) (standing_for d p x))
        by None named = of_holds Active (None, refl)
        by (Some t) named = of_holds t (s, named)

-- ---- by what is asked

module _ (d : Disk) (p : Pool) (x : VolumeState) (s : Option (List ℕ)) where
  pub asked_none : table_named x s ≡ None → standing_asked d p x s ≡ None
  asked_none none = ap (option_map (standing_of d p x)) none

  module _ (t : TableAsked) (named : table_named x s ≡ Some t) where
    pub asked_is : standing_asked d p x s ≡ Some (standing_of d p x t)
    asked_is = ap (option_map (standing_of d p x)) named

    pub read_is : standing_of d p x t ≡ standing_read d p x s
    read_is = sym (ap (λ (o : Option Standing). unwrap_or o (standing_for d p x)) asked_is)

    -- the cause of a call that a fault of blocks of this table ended
    pub asked_cause : (Told : TableAsked → Type 0) {T : Type 0} (steps left : ℕ) (e : BlockFault) (r : Result T VolumeFault) → r ≡ Err (of_block e)
        → TableFails (Told t) (standing_of d p x t) (lent_for p x.map d steps (home_in x) 0) left e → CallCause (Told (unwrap_or (table_named x s) Active)) (standing_read d p x s) (lent_for p x.map d steps (home_in x) 0) left r
    asked_cause Told steps left e r failed cause = subst (λ (u : TableAsked). CallCause (Told u) (standing_read d p x s) (lent_for p x.map d steps (home_in x) 0) left r) (sym (ap (λ (o : Option TableAsked). unwrap_or o Active) named))
        (subst (λ (u : Standing). CallCause (Told t) u (lent_for p x.map d steps (home_in x) 0) left r) read_is
        (failed_cause (Told t) (standing_of d p x t) (lent_for p x.map d steps (home_in x) 0) left e r failed cause))

-- ---- after reads

module _ (d e : Disk) (p q : Pool) (reads : Reads d p e q) (x : VolumeState) (t : TableAsked) where
  -- each table is seen as before
  pub still_of : standing_of e q x t ≡ standing_of d p x t
  still_of = by t
    where
      by : (t : TableAsked) → standing_of e q x t ≡ standing_of d p x t
      by Active = still_table d e p q reads x
      by (Kept root) = ap (λ (u : Under). standing_at u root.levels root.root) (still_under d e p q reads x)

  -- what was said after them of a volume that they left is so of it before
  pub of_before : (y : VolumeState) → y ≡ x → (says : Standing → Type 0) → (IsStanding e q y → says (standing_of e q y t)) → IsStanding d p x → says (standing_of d p x t)
  of_before y same says made is = subst says still_of (subst (λ (z : VolumeState). IsStanding e q z → says (standing_of e q z t)) same made (still_standing d e p q reads x is))
