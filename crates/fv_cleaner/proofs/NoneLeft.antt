-- Where no root pointer of a volume is unknown nothing is left to do. So a clean step answers false exactly there.
use Rattle.std.proofs.Common.{◌≡◌, ◌≢◌, ℕ, zero, suc, ◌+◌, ◌≤◌, Bool, true, false, [], map, Option, Some, None, inl, inr, refl, sym, ap, ap₂, subst, ◌∙◌, arith}
use Rattle.std.specs.Prelude.{All, IfSome, ◌||◌, sum_by}
use Rattle.std.specs.List.{list_any, range_with_len}
use Rattle.std.specs.Option.{option_map}
use Rattle.std.proofs.lemmas.Bool.{both_ways}
use Rattle.std.proofs.lemmas.List.Sums.{sum_by-cons}
use Rattle.fv_disk.specs.Shown.{Shown as Disk}
use Rattle.fv_codec.specs.declared.inode.InodeRecord.{InodeRecord}
use Rattle.fv_codec.specs.declared.pointer.Pointer.{Pointer}
use Rattle.fv_codec.specs.Blocks.{greatest_word}
use Rattle.fv_laws.proofs.Lists.{In}
use Rattle.fv_tables.specs.Spelled.{Rooted as Tree, Under, pointer_at, stored}
use Rattle.fv_tables.specs.Told.{Standing, file_at, file_told, standing_at, tree_of}
use Rattle.fv_tables.proofs.Tables.{files_told}
use Rattle.fv_tree.specs.Beside.{unread}
use Rattle.fv_tree.specs.Flushing.{IsRight, ReachesOnce, kind_for}
use Rattle.fv_tree.specs.Sources.{Use}
use Rattle.fv_files.specs.Apart.{IsAsSaid, LeadsFrom, LeadsIn, StoredIn, stored_trees}
use Rattle.fv_image.specs.HintRules.{is_unknown}
use Rattle.fv_image.specs.Mapped.{root_at}
use Rattle.fv_image.specs.Views.{Placed}
use Rattle.fv_volmap.specs.Slots.{Slot, has, slot_at}
use Rattle.fv_pool.specs.declared.pool.Pool.{Pool}
use Rattle.fv_pool.specs.declared.rooted.Rooted.{Rooted}
use Rattle.fv_volume.specs.declared.state.Base.{Base}
use Rattle.fv_volume.specs.declared.state.Snap.{Snap}
use Rattle.fv_volume.specs.declared.state.VolumeState.{VolumeState}
use Rattle.fv_volume.specs.Held.{IsHeldIn}
use Rattle.fv_volume.specs.OneVolume.{blocks_in, uses_in, IsKeptTable, IsTableIn}
use Rattle.fv_volume.specs.States.{States, head_in, snap_in, state_at, table_in}
use Rattle.fv_volume.proofs.ActiveRoot.{unlisted}
use Rattle.fv_volume.proofs.AllRoots.{roots}
use Rattle.fv_volume.proofs.EachRoot.{all_among, all_in, each_root, root_there}
use Rattle.fv_volume.proofs.Lookups.{told_by}
use Rattle.fv_volume.proofs.TablesOf.{snaps_all}
use Rattle.fv_volumes.specs.Footing.{AreFooted, IsFooted, IsOnBase}
use Rattle.fv_volumes.proofs.SlotRoots.{snap_rooted}
use Rattle.fv_places.specs.ByKind.{form_of, pointers_by}
use Rattle.fv_cleaner.specs.Left.{left_in, unknown_among, unknown_inside, unknown_under}
use Rattle.fv_cleaner.specs.Searching.{Lies, holds_unknown, lies_in, pointers_of}
use Rattle.fv_cleaner.specs.Stepping.{root_of_snap, roots_of}
use Rattle.fv_cleaner.proofs.Finished.{kept_known, not_unknown}
use Rattle.fv_cleaner.proofs.Known.{all_known, root_known, IsKnownRoot}
use Rattle.fv_cleaner.proofs.Lowers.{none_counted}
use Rattle.fv_cleaner.proofs.Ruled.{led_unknown}
use Rattle.fv_cleaner.proofs.SlotTables.{block_under, root_over, root_stands, use_under}
use Rattle.fv_cleaner.proofs.Stays.{few_levels, told_levels}

-- ---- sums

sum_none : (f : ℕ → ℕ) → ((w : ℕ) → f w ≡ 0) → (from count : ℕ) → sum_by f (range_with_len from count) ≡ 0
sum_none f none from zero = refl
sum_none f none from (suc count) = sum_by-cons f from (range_with_len (from + 1) count) ∙ ap₂ (λ (m n : ℕ). m + n) (none from) (sum_none f none (from + 1) count)

-- ---- a table with a known root

module _ (known : Bool) (blocks : Under) (uses : ℕ → Option Use) (slot : Slot) (count : ℕ) (root : Rooted) (lies : IsTableIn known blocks uses slot count root) (tells : IsKnownRoot root.root) (v : ℕ) (z : Placed) (there : blocks v ≡ Some z.block)
    (used : uses v ≡ Some (record { pvbn = z.pvbn; kind = z.kind })) (unknown : holds_unknown z ≡ true) where
  abbrev st : Standing
  st = standing_at blocks root.levels root.root

  abbrev t : Tree
  t = stored blocks greatest_word root.levels root.root

  -- nothing in one of its trees leads to a block with an unknown pointer
  no_pointer : (owner lv : ℕ) (top : Pointer) → ReachesOnce uses (stored blocks owner lv top) → IsAsSaid true (unread (stored blocks owner lv top)) → (owner ≡ greatest_word → lv ≤ 2) → (owner ≢ greatest_word → lv ≤ 3)
      → (level p : ℕ) → (pointer_at (stored blocks owner lv top) level p).stamp ≢ 0 → (pointer_at (stored blocks owner lv top) level p).vvbn ≡ v → ⊥
  no_pointer owner lv top reached said inode file level p some at =
      let kind : z.kind ≡ kind_for owner level = (subst (IsRight (kind_for owner level) (pointer_at (stored blocks owner lv top) level p)) (ap uses at ∙ used) (reached.used level p some)).1 in
      said.places refl level p v (record { some = some; placed = refl; vvbn = at })
      (led_unknown blocks owner lv top said.leads level p z.block inode file some (ap blocks at ∙ there) (subst (λ (k : ℕ). list_any is_unknown (pointers_by (form_of k) z.block) ≡ true) kind unknown))

  all_said : (a : Option ℕ) → StoredIn true (stored_trees blocks root.levels root.root a)
  all_said = by known lies
    where
      by : (b : Bool) → IsTableIn b blocks uses slot count root → (a : Option ℕ) → StoredIn true (stored_trees blocks root.levels root.root a)
      by true is = is.well.trees
      by false is = (all_known blocks root.levels root.root tells is.well).trees

  nobody : (a : Option ℕ) → LeadsFrom (stored_trees blocks root.levels root.root) a v → ⊥
  nobody None leads = no_pointer greatest_word root.levels root.root lies.trees.inode (all_said None) (λ e. few_levels count st lies.table) (λ ne. absurd (ne refl)) leads.level leads.place leads.leads.some leads.leads.vvbn
  nobody (Some k) leads = by (file_at t k) refl (all_said (Some k)) leads
    where
      by : (o : Option InodeRecord) → file_at t k ≡ o → StoredIn true (option_map (λ r. unread (stored blocks k r.levels r.root)) o) → LeadsIn (option_map (λ r. unread (stored blocks k r.levels r.root)) o) v → ⊥
      by None found said led = led
      by (Some f) found said led =
          let file = files_told st k ∙ told_by st [] k f found in
          let small = lies.table.numbers k (file_told (tree_of st k f) f) file in
          let low = told_levels (tree_of st k f) f (lies.table.files k (file_told (tree_of st k f) f) file).levels in
          no_pointer k f.levels f.root (lies.trees.files k f found) said (λ e. absurd (omega (arith, small, e))) (λ ne. low) led.level led.place led.leads.some led.leads.vvbn

  -- so its slot hasn't its VVBN
  pub not_had : has v slot ≡ false
  not_had = lies.reach v ∙ unlisted blocks root.levels root.root v nobody

-- ---- the root that a clone stands on

-- It is known, as a snapshot's of a volume of which all places are known.
pub base_known : (disk : Disk) (pool : Pool) (states : States) (slot : ℕ) (x : VolumeState) → state_at states slot ≡ Some x → ((s : ℕ) → IfSome (state_at states s) (IsHeldIn disk pool s)) → AreFooted states pool.containers
    → IfSome x.base (λ b. IsKnownRoot b.table.root)
base_known disk pool states slot x there each footed = by x.base (subst (λ (o : Option VolumeState). IfSome o (λ z. IfSome z.base (λ b. IsFooted states z b × IsOnBase pool.containers z))) there (footed.each slot))
  where
    by : (o : Option Base) → IfSome o (λ b. IsFooted states x b × IsOnBase pool.containers x) → IfSome o (λ b. IsKnownRoot b.table.root)
    by None is = tt
    by (Some b) is =
        let parent : IsHeldIn disk pool b.parent is.0.parent = subst (λ (o : Option VolumeState). IfSome o (IsHeldIn disk pool b.parent)) is.0.there (each b.parent) in
        let kept = snaps_all (IsKeptTable disk pool is.0.parent) is.0.parent parent.stands.kept in
        let roots : All (λ (q : Snap). q.slot ≢ 0 → IsKnownRoot q.table.root) is.0.parent.snapshots =
        all_among (λ (q : Snap). q.slot ≢ 0 → IsKnownRoot q.table.root) is.0.parent.snapshots
        (λ q one above. let its = all_in (IsKeptTable disk pool is.0.parent) is.0.parent.snapshots kept q one in
        root_known (blocks_in disk pool is.0.parent q.slot) q.table.levels q.table.root
        (subst (λ (k : Bool). IsTableIn k (blocks_in disk pool is.0.parent q.slot) (uses_in pool is.0.parent q.slot) (slot_at is.0.parent.map q.slot) is.0.parent.now q.table) is.0.known its.1).well) in
        let rooted : root_at (head_in is.0.parent) b.slot ≡ Some (snap_in is.0.snap).table = snap_rooted (head_in is.0.parent) b.slot (snap_in is.0.snap) is.0.above is.0.found in
        let one = each_root is.0.parent (λ k r. k ≢ 0 → IsKnownRoot r.root) (λ never. absurd (never refl)) roots b.slot (table_in is.0.snap.table) (root_there (head_in is.0.parent) b.slot (table_in is.0.snap.table) rooted) is.0.above in
        subst (λ (r : Rooted). IsKnownRoot r.root) (sym is.0.table) one

-- ---- a volume

module _ (disk : Disk) (pool : Pool) (slot : ℕ) (x : VolumeState) (held : IsHeldIn disk pool slot x) (files : x.files ≡ None) (none : list_any is_unknown (roots_of x) ≡ false) (base : IfSome x.base (λ b. IsKnownRoot b.table.root)) where
  abbrev at : Lies
  at = lies_in x.map pool x.slot disk.reads

  first : is_unknown x.active.root ≡ false
  first = left (is_unknown x.active.root) (list_any is_unknown (map root_of_snap x.snapshots)) none
    where
      left : (a b : Bool) → (a || b) ≡ false → a ≡ false
      left true b e = absurd cc
      left false b e = refl

  root_tells : (q : Snap) → In q (roots x) → IsKnownRoot q.table.root
  root_tells q (inl e) = subst (λ (s : Snap). IsKnownRoot s.table.root) e (not_unknown x.active.root first)
  root_tells q (inr one) = kept_known disk pool slot x held files none base q one

  -- each block holds no unknown pointer
  clear : (v : ℕ) (z : Placed) → at v ≡ Some z → holds_unknown z ≡ false
  clear v z lie = by (holds_unknown z) refl
    where
      by : (b : Bool) → holds_unknown z ≡ b → holds_unknown z ≡ false
      by false e = e
      by true e =
          let over = root_over disk pool slot x held files v z lie in
          let k = over.root.slot in
          absurd (both_ways (has v (slot_at x.map k)) (not_had x.known (blocks_in disk pool x k) (uses_in pool x k) (slot_at x.map k) x.now over.root.table (root_stands disk pool slot x held files over.root over.one) (root_tells over.root over.one) v z
          (block_under disk pool x k v z over.member lie) (use_under disk pool x k v z over.member lie) e) over.member)

  -- So nothing is left to do.
  pub none_left : left_in disk.reads pool x ≡ 0
  unfolding left_in
  none_left =
      let roots : unknown_among (roots_of x) ≡ 0 = none_counted is_unknown (roots_of x) none in
      let blocks : unknown_under at x.map.span ≡ 0 = sum_none (λ w. unknown_inside (at w)) (λ w. inside w (at w) refl) 0 x.map.span in
      omega (arith, roots, blocks)
    where
      inside : (w : ℕ) (o : Option Placed) → at w ≡ o → unknown_inside o ≡ 0
      inside w None e = refl
      inside w (Some z) e = none_counted is_unknown (pointers_of z) (clear w z e)
