-- The roots of a volume, of whose active table nothing is in memory: what each shares with each, itself too.
use Rattle.std.proofs.Common.{◌≡◌, ◌≢◌, ℕ, List, [], ◌∷◌, inl, inr, Option, Some, None, refl, sym, ap, subst, ◌∙◌}
use Rattle.std.specs.Prelude.{All}
use Rattle.std.specs.Option.{option_map}
use Rattle.fv_disk.specs.Shown.{Shown as Disk}
use Rattle.fv_codec.specs.declared.inode.InodeRecord.{InodeRecord}
use Rattle.fv_codec.specs.declared.pointer.Pointer.{Pointer}
use Rattle.fv_codec.specs.Blocks.{greatest_word}
use Rattle.fv_laws.proofs.Lists.{In}
use Rattle.fv_tables.specs.Spelled.{Under, stored}
use Rattle.fv_tables.specs.Told.{file_at, standing_at, table_told}
use Rattle.fv_tree.specs.Beside.{unread}
use Rattle.fv_tree.specs.Sources.{Use}
use Rattle.fv_tree.specs.Standing.{under}
use Rattle.fv_files.specs.declared.files.Files.{Files}
use Rattle.fv_files.specs.Apart.{LeadsFrom, LeadsIn, Trees, stored_trees}
use Rattle.fv_files.specs.Sharing.{owner_in}
use Rattle.fv_files.specs.Tables.{AreReached}
use Rattle.fv_files.proofs.Beside.{same_or}
use Rattle.fv_pool.specs.declared.pool.Pool.{Pool}
use Rattle.fv_volmap.specs.Slots.{slot_at, slot_of_base}
use Rattle.fv_pool.specs.declared.rooted.Rooted.{Rooted}
use Rattle.fv_volume.specs.declared.state.Snap.{Snap}
use Rattle.fv_volume.specs.declared.state.VolumeState.{VolumeState}
use Rattle.fv_volume.specs.OneVolume.{base_table, base_told_by, blocks_in, shows, table_for, tables_of, trees_for, uses_in, IsKeptTable, RootStands}
use Rattle.fv_volume.specs.Sharing.{pointer_in, trees_kept, AreShared, IsOnePlace, SharesWith, StandsInBlock}
use Rattle.fv_pool.specs.Tables.{trees_by}
use Rattle.fv_volume.proofs.ActiveRoot.{agrees, root_table}
use Rattle.fv_volume.proofs.EachRoot.{all_among, all_in}
use Rattle.fv_pool.proofs.OverBlocks.{same_place}
use Rattle.fv_volume.proofs.SlotMoves.{blocks_move, root_moves}
use Rattle.fv_volume.proofs.TablesOf.{base_all, base_slot}
use Rattle.fv_volume.proofs.Shared.{shares_back, shares_by, IsAlike}
use Rattle.fv_volume.proofs.SharedRoots.{stored_place, stored_same}

-- ---- a table with itself

module _ (blocks : Under) (uses : ℕ → Option Use) (levels : ℕ) (root : Pointer) (is : AreReached blocks uses levels root) where
  abbrev trees : Trees
  trees = stored_trees blocks levels root

  -- the VVBN of a block in which a place stands is led to from its tree
  led : (o : Option ℕ) (level place v : ℕ) → StandsInBlock (trees o) level place v → LeadsFrom trees o v
  led None level place v stands = record { level = level; place = place; leads = record { some = stands.some; placed = refl; vvbn = stands.vvbn } }
  led (Some n) level place v stands = by (file_at (stored blocks greatest_word levels root) n) stands
    where
      by : (o : Option InodeRecord) → StandsInBlock (option_map (λ r. unread (stored blocks n r.levels r.root)) o) level place v → LeadsIn (option_map (λ r. unread (stored blocks n r.levels r.root)) o) v
      by None stands = absurd (stands.some refl)
      by (Some r) stands = record { level = level; place = place; leads = record { some = stands.some; placed = refl; vvbn = stands.vvbn } }

  -- one tree has one place that stands in a block
  once : (o : Option ℕ) (level place k q v : ℕ) → StandsInBlock (trees o) level place v → StandsInBlock (trees o) k q v → (level ≡ k) × (place ≡ q)
  once None level place k q v first second = is.inode.once level place k q first.some second.some (first.vvbn ∙ sym second.vvbn)
  once (Some n) level place k q v first second = by (file_at (stored blocks greatest_word levels root) n) refl first second
    where
      by : (o : Option InodeRecord) → file_at (stored blocks greatest_word levels root) n ≡ o → StandsInBlock (option_map (λ r. unread (stored blocks n r.levels r.root)) o) level place v
          → StandsInBlock (option_map (λ r. unread (stored blocks n r.levels r.root)) o) k q v → (level ≡ k) × (place ≡ q)
      by None e first second = absurd (first.some refl)
      by (Some r) e first second = (is.files n r e).once level place k q first.some second.some (first.vvbn ∙ sym second.vvbn)

  -- A table of which nothing is in memory shares with itself as two do.
  pub shares_itself : SharesWith trees trees
  shares_itself = record { same = λ o level place some stamp. record { vvbn = (pointer_in (trees o) level place).vvbn; first = stood o level place some; second = stood o level place some }; back = back }
    where
      stood : (o : Option ℕ) (level place : ℕ) → (pointer_in (trees o) level place).stamp ≢ 0 → StandsInBlock (trees o) level place (pointer_in (trees o) level place).vvbn
      stood o level place some = record { some = some; same = stored_same blocks levels root o level place; vvbn = refl }

      back : (o u : Option ℕ) (level place k q v : ℕ) → StandsInBlock (trees o) level place v → StandsInBlock (trees u) k q v → IsOnePlace trees trees o level place u k q
      back o u level place k q v first second = elim (same_or o u) [
        | inl e ↦ (
            let at = once u level place k q v (subst (λ (t : Option ℕ). StandsInBlock (trees t) level place v) e first) second in
            record { tree = e; level_is = at.0; place_is = at.1; stamp = λ i. (pointer_in (trees (e i)) (at.0 i) (at.1 i)).stamp })
        | inr differ ↦ absurd (is.apart o u v differ (led o level place v first) (led u k q v second))
      ]

-- ---- the roots of a volume

-- the active root, as one that stands in slot 0
abbrev pub active_root : VolumeState → Snap
active_root x = record { slot = 0; name = []; table = x.active }

-- it and those of the snapshots
abbrev pub roots : VolumeState → List Snap
roots x = active_root x ∷ tables_of x

-- each of some roots shares with each, over the blocks of their slots
abbrev pub EachShares : Disk → Pool → VolumeState → List Snap → Type 0
EachShares d p x some = (q r : Snap) → In q some → In r some → SharesWith (trees_kept (blocks_in d p x) q) (trees_kept (blocks_in d p x) r)

-- so do those of the snapshots, whatever of the active table is in memory
pub kept_share : (d : Disk) (p : Pool) (x : VolumeState) → AreShared (trees_for d p x) (blocks_in d p x) (tables_of x) → EachShares d p x (tables_of x)
kept_share d p x is q r one two =
    all_in (λ (s : Snap). SharesWith (trees_kept (blocks_in d p x) q) (trees_kept (blocks_in d p x) s)) (tables_of x)
    (all_in (λ (s : Snap). All (λ (t : Snap). SharesWith (trees_kept (blocks_in d p x) s) (trees_kept (blocks_in d p x) t)) (tables_of x)) (tables_of x) is.kept q one) r two

module _ (d : Disk) (p : Pool) (x : VolumeState) (none : x.files ≡ None) (root : RootStands d p x 0 x.active) where
  abbrev held : Under
  held = under (shows d p x)

  abbrev over_held : Trees
  over_held = stored_trees held x.active.levels x.active.root

  abbrev kept : Snap → Trees
  kept = trees_kept (blocks_in d p x)

  -- its trees, where none of its files is in memory
  trees_are : trees_for d p x ≡ over_held
  trees_are = ap (λ (o : Option Files). trees_by held x.active o) none

  -- slot 0 has the places of the active table that all blocks of the volume have
  alike : (o : Option ℕ) (level place : ℕ) → IsAlike (over_held o) (kept (active_root x) o) level place
  alike o level place = record {
    pointer =
        stored_place (blocks_in d p x 0) x.active.levels x.active.root o level place
        ∙ sym (same_place (blocks_in d p x 0) held x.active.levels x.active.root (agrees d p x root) (owner_in o) level place)
        ∙ sym (stored_place held x.active.levels x.active.root o level place);
    differs = stored_same (blocks_in d p x 0) x.active.levels x.active.root o level place ∙ sym (stored_same held x.active.levels x.active.root o level place);
  }

  -- so what the active table shares it shares by slot 0, too
  to_slot : (b : Trees) → SharesWith (trees_for d p x) b → SharesWith (kept (active_root x)) b
  to_slot b is = shares_by over_held b (kept (active_root x)) (subst (λ (t : Trees). SharesWith t b) trees_are is) (λ o level place. inr (inr (alike o level place)))

  -- and the other way round
  from_slot : (b : Trees) → SharesWith (kept (active_root x)) b → SharesWith (trees_for d p x) b
  from_slot b is = subst (λ (t : Trees). SharesWith t b) (sym trees_are)
      (shares_by (kept (active_root x)) b over_held is (λ o level place. inr (inr (record { pointer = sym (alike o level place).pointer; differs = sym (alike o level place).differs }))))

  -- Where the tables of a volume share as they have to, each root shares with each,
  pub each_shares : AreShared (trees_for d p x) (blocks_in d p x) (tables_of x) → EachShares d p x (roots x)
  each_shares is q r one two = by one two
    where
      with_active : (r : Snap) → In r (tables_of x) → SharesWith (kept (active_root x)) (kept r)
      with_active r there = to_slot (kept r) (all_in (λ (q : Snap). SharesWith (trees_for d p x) (kept q)) (tables_of x) is.active r there)

      by : In q (roots x) → In r (roots x) → SharesWith (kept q) (kept r)
      by (inl e) (inl f) = subst (λ (s : Snap). SharesWith (kept s) (kept r)) e
          (subst (λ (s : Snap). SharesWith (kept (active_root x)) (kept s)) f (shares_itself (blocks_in d p x 0) (uses_in p x 0) x.active.levels x.active.root root.trees))
      by (inl e) (inr there) = subst (λ (s : Snap). SharesWith (kept s) (kept r)) e (with_active r there)
      by (inr here) (inl f) = subst (λ (s : Snap). SharesWith (kept q) (kept s)) f (shares_back (kept (active_root x)) (kept q) (with_active q here))
      by (inr here) (inr there) = kept_share d p x is q r here there

  -- and where each root does, the tables do.
  pub are_shared : EachShares d p x (roots x) → AreShared (trees_for d p x) (blocks_in d p x) (tables_of x)
  are_shared each = record {
    active = all_among (λ (q : Snap). SharesWith (trees_for d p x) (kept q)) (tables_of x) (λ q there. from_slot (kept q) (each (active_root x) q (inl refl) (inr there)));
    kept = all_among (λ (q : Snap). All (λ (r : Snap). SharesWith (kept q) (kept r)) (tables_of x)) (tables_of x)
        (λ q one. all_among (λ (r : Snap). SharesWith (kept q) (kept r)) (tables_of x) (λ r two. each q r (inr one) (inr two)));
  }

-- ---- roots that were a volume's before

-- The table of a root lies in its slot as that of one of some roots of a volume lay in its.
pub record WasRoot (d : Disk) (p : Pool) (x y : VolumeState) (some : List Snap) (q : Snap) : Type 0 where
  pub root : Snap
  pub there : In root some
  pub trees : trees_kept (blocks_in d p y) q ≡ trees_kept (blocks_in d p x) root

module _ (d : Disk) (p : Pool) (x y : VolumeState) (same : y.slot ≡ x.slot) (some : List Snap) where
  -- A root is one that was, with the same table, where its slot has that one's numbers.
  pub root_moved : (q r : Snap) → q.table ≡ r.table → In r some → slot_at y.map q.slot ≡ slot_at x.map r.slot → WasRoot d p x y some q
  root_moved q r table there at = record {
    root = r;
    there = there;
    trees = ap (λ (t : Rooted). stored_trees (blocks_in d p y q.slot) t.levels t.root) table
        ∙ ap (λ (u : Under). stored_trees u r.table.levels r.table.root) (blocks_move d p x y same q.slot r.slot at);
  }

  -- So each is, where the active one is and those of the tables that are kept are.
  pub roots_moved : WasRoot d p x y some (active_root y) → All (WasRoot d p x y some) (tables_of y) → (q : Snap) → In q (roots y) → WasRoot d p x y some q
  roots_moved first later q (inl e) = subst (WasRoot d p x y some) e first
  roots_moved first later q (inr there) = all_in (WasRoot d p x y some) (tables_of y) later q there

-- Where no file is in memory, a volume with the same active root, whose slot 0 has the same numbers, has the same table.
pub table_moves : (d : Disk) (p : Pool) (x y : VolumeState) → y.slot ≡ x.slot → y.active ≡ x.active → x.files ≡ None → y.files ≡ None → RootStands d p x 0 x.active → RootStands d p y 0 y.active → slot_at y.map 0 ≡ slot_at x.map 0
    → table_for d p y ≡ table_for d p x
table_moves d p x y same active none none_now was now at =
    root_table d p y now none_now
    ∙ ap (λ (t : Rooted). table_told (standing_at (blocks_in d p y 0) t.levels t.root)) active
    ∙ ap (λ (u : Under). table_told (standing_at u x.active.levels x.active.root)) (blocks_move d p x y same 0 0 at)
    ∙ sym (root_table d p x was none)

-- So what each of those shared each shares.
pub shares_again : (d : Disk) (p : Pool) (x y : VolumeState) (some : List Snap) → ((q : Snap) → In q (roots y) → WasRoot d p x y some q) → EachShares d p x some → EachShares d p y (roots y)
shares_again d p x y some was each q r one two =
    let first = was q one in
    let second = was r two in
    subst (λ (t : Trees). SharesWith t (trees_kept (blocks_in d p y) r)) (sym first.trees)
    (subst (λ (t : Trees). SharesWith (trees_kept (blocks_in d p x) first.root) t) (sym second.trees) (each first.root second.root first.there second.there))

-- ---- the base

-- Where the slot of the base has the same numbers, the base table lies in it as before, and is told as before.
module _ (d : Disk) (p : Pool) (x y : VolumeState) (same : y.slot ≡ x.slot) (now : y.now ≡ x.now) (at : slot_at y.map slot_of_base ≡ slot_at x.map slot_of_base) where
  pub base_kept : y.known ≡ x.known → All (IsKeptTable d p x) (tables_of x) → All (IsKeptTable d p y) (base_table x.base)
  base_kept known all = base_slot (IsKeptTable d p x) (IsKeptTable d p y) (λ q here is. (is.0, root_moves d p x y same q.slot q.slot (ap (slot_at y.map) here ∙ at ∙ sym (ap (slot_at x.map) here)) now known q.table is.1))
      x.base (base_all (IsKeptTable d p x) x all)

  pub base_told : base_told_by (blocks_in d p y) x.base ≡ base_told_by (blocks_in d p x) x.base
  base_told = ap (λ (u : Under). base_told_by (λ k. u) x.base) (blocks_move d p x y same slot_of_base slot_of_base at)

  pub base_was : (some : List Snap) → ((q : Snap) → In q (base_table x.base) → In q some) → All (WasRoot d p x y some) (base_table x.base)
  base_was some among = base_slot (λ (q : Snap). In q (base_table x.base)) (WasRoot d p x y some)
      (λ q here one. root_moved d p x y same some q q refl (among q one) (ap (slot_at y.map) here ∙ at ∙ sym (ap (slot_at x.map) here)))
      x.base (all_among (λ (q : Snap). In q (base_table x.base)) (base_table x.base) (λ q one. one))
