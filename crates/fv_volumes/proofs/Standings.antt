-- From a volume of a session's view to one volume with nothing of it in memory, and back.
use Rattle.std.proofs.Common.{◌≡◌, ◌≢◌, ◌≤◌, ℕ, Bool, true, false, ◌&&◌, List, [], ◌∷◌, ◌++◌, Option, Some, None, is_some, inl, inr, refl, sym, ap, ap₂, subst, ◌∙◌, arith}
use Rattle.std.specs.Prelude.{All, IsTrue, map, nat_le, nat_lt, slice_index_or}
use Rattle.std.specs.List.{list_all}
use Rattle.std.specs.Option.{option_map, option_map_or}
use Rattle.std.specs.FinMap as fin
use Rattle.std.proofs.lemmas.Bool.{and_parts}
use Rattle.std.proofs.lemmas.Bool.Decides.{nat_tests}
use Rattle.std.proofs.lemmas.List.Elements.{All-head, All-tail}
use Rattle.fv_disk.specs.Shown.{Shown as Disk}
use Rattle.fv_bits.specs.Members.{is_member}
use Rattle.fv_codec.specs.declared.pointer.Pointer.{Pointer}
use Rattle.fv_codec.specs.declared.inode.InodeRecord.{InodeRecord}
use Rattle.fv_codec.specs.Blocks.{greatest_word}
use Rattle.fv_model.specs.Places.{Owner, InodeFile, OfFile}
use Rattle.fv_model.specs.Spelling.{name_cmp}
use Rattle.fv_model.specs.Tables.{Table, empty_table}
use Rattle.fv_laws.specs.WellFormed.{IsWellTable}
use Rattle.fv_laws.specs.Positions.{HasNoReserve}
use Rattle.fv_laws.proofs.Lists.{In, in_map}
use Rattle.fv_laws.proofs.Tests.{from_all}
use Rattle.fv_tables.specs.Spelled.{Rooted as Tree, Under, hole, stored, pointer_at}
use Rattle.fv_tables.specs.Told.{file_at, standing_at, table_told}
use Rattle.fv_tables.specs.Kept.{AgreeOnTable}
use Rattle.fv_tables.specs.Reached.{Item, items}
use Rattle.fv_tables.proofs.TablePlaces.{pointer_in as place_in}
use Rattle.fv_tables.proofs.Tables.{kept_table}
use Rattle.fv_tree.specs.Beside.{unread}
use Rattle.fv_tree.specs.Sources.{Shown, Use}
use Rattle.fv_tree.specs.Standing.{under as blocks_of}
use Rattle.fv_files.specs.declared.files.Files.{Files}
use Rattle.fv_files.specs.Apart.{LeadsFrom, LeadsIn, stored_trees}
use Rattle.fv_files.specs.Sharing.{owner_in}
use Rattle.fv_files.specs.Tables.{AreReached}
use Rattle.fv_image.specs.Chains.{under}
use Rattle.fv_image.specs.Mapped.{stored_slots}
use Rattle.fv_image.specs.ReachRules.{are_distinct}
use Rattle.fv_image.specs.Seen.{roots_of, volume_seen}
use Rattle.fv_image.specs.TableRules.{all_items, has_stamps_past}
use Rattle.fv_image.specs.VolumeRules.{has_distinct_snapshots}
use Rattle.fv_image.specs.Views.{Head, Rooted as Root, Snap, View}
use Rattle.fv_image.specs.Volumes.{base_from, snap_told, standing_of, table_at, volume_with}
use Rattle.fv_image.proofs.SameSeen.{of_volume}
use Rattle.fv_image.proofs.WellRoots.{well_root}
use Rattle.fv_charge.specs.Ledgers.{IsLedgerOf}
use Rattle.fv_container.specs.Chains.{AreCleanOn, parent_at}
use Rattle.fv_volmap.specs.Slots.{IsVolume, active_of, has, slot_at, slot_of_base}
use Rattle.fv_files.specs.Numbering.{AreNumbersIf}
use Rattle.fv_pool.specs.declared.pool.Pool.{Pool}
use Rattle.fv_pool.specs.declared.rooted.Rooted.{Rooted}
use Rattle.fv_volume.specs.declared.state.Base.{Base}
use Rattle.fv_volume.specs.declared.state.Snap.{Snap as Kept}
use Rattle.fv_volume.specs.declared.state.VolumeState.{VolumeState}
use Rattle.fv_pool.specs.BlocksOver.{AreApart}
use Rattle.fv_volume.specs.Files.{IsLabelled, IsState}
use Rattle.fv_pool.specs.Tables.{standing_by, AreLaidBy, AreSoundBy, AreLedBy, AreStoredBy, trees_by}
use Rattle.fv_volume.specs.OneVolume.{blocks_in, shows, snap_by, snaps_by, standing_kept, table_for, uses_in, volume_as, volume_for, IsKeptTable, IsStanding, RootStands, base_by, base_table, base_told_by, tables_of}
use Rattle.fv_volume.specs.NewClone.{RestsOn}
use Rattle.fv_volume.specs.Placing.{IsLedTo, IsStoredWell}
use Rattle.fv_volume.specs.Sharing.{AreShared, SharesWith}
use Rattle.fv_volume.specs.States.{States, footing_in, head_in, parent_in, rooted_as, snap_in, state_at, table_in, view_over}
use Rattle.fv_volume.specs.Trees.{active_in, no_trees}
use Rattle.fv_volume.proofs.TablesOf.{snaps_all}
use Rattle.fv_volume.proofs.Based.{based_blocks, based_root}
use Rattle.fv_volume.proofs.EachRoot.{all_among, root_there}
use Rattle.fv_volumes.specs.Footing.{AreFooted, IsFooted}
use Rattle.fv_volumes.proofs.Agreed.{held_there, slot_there}
use Rattle.fv_volumes.proofs.BaseTold.{footed_at, footed_base, footed_root}
use Rattle.fv_volumes.proofs.LoadedStored.{stands_indexes, stands_stored}
use Rattle.fv_volumes.proofs.LoadedTables.{StandsInView, here as view_here, led, led_is, stands_file, stands_inode, stands_led, stands_once, stands_reach, stands_reserves, stands_told, stands_well}
use Rattle.fv_pool.proofs.OverBlocks.{same_place, over_keeps, over_reached, over_stored}
use Rattle.fv_volume.proofs.KeptSlots.{root_few}
use Rattle.fv_volume.proofs.ActiveSlot.{active_has, active_uses}
use Rattle.fv_volume.proofs.SharedRoots.{AreAmong, base_among, roots_among, same_number, shares_alike, stored_place, stored_same, tables_one}
use Rattle.fv_pool.proofs.Shows.{use_none}
use Rattle.fv_volume.proofs.SnapNames.{names_in}
use Rattle.fv_volume.proofs.SnapReads.{kept_by, slot_held}
use Rattle.fv_volumes.proofs.OnChains.{rests_on, stands_on}
use Rattle.fv_volumes.proofs.Told.{head_there}

-- ---- the volume of a head

-- a volume's table is that of its head's root
pub active_is : (w : View) (s : ℕ) (h : Head) → w.head s ≡ Some h → active_in w no_trees s ≡ table_at w s h.active
active_is w s h there = ap (λ (o : Option Head). option_map_or (λ h. table_at w s h.active) o empty_table) there

-- ---- the volume of a view

module _ (w : View) (s : ℕ) (blocks : ℕ → Under) where
  -- where the view tells each snapshot's table as it lies over the blocks of its slot
  abbrev TellsSnap : Kept → Type 0
  TellsSnap q = table_at w s (table_in q.table) ≡ table_told (standing_kept blocks q)

  snaps_told : (snaps : List Kept) → All TellsSnap snaps → map (snap_told w s) (map snap_in snaps) ≡ map (snap_by blocks) snaps
  snaps_told [] all = refl
  snaps_told (q ∷ qs) all = ap₂ (λ e es. e ∷ es) (ap (λ (t : Table). (q.name, t)) (All-head TellsSnap q qs all)) (snaps_told qs (All-tail TellsSnap q qs all))

  -- and what the volume stands on as the slot of its base does, it tells the volume by any active table
  volume_by_snaps : (x : VolumeState) → base_from w (head_in x).base ≡ base_by blocks x.base → All TellsSnap x.snapshots → (active : Table)
      → volume_with w s (head_in x) active ≡ volume_as x (record { active = active; snapshots = snaps_by blocks x.snapshots; base = base_told_by blocks x.base })
  unfolding volume_with
  volume_by_snaps x based all active = λ i. record {
    kind = x.kind;
    size = x.size;
    most = x.most;
    span = x.span;
    now = x.now;
    active = active;
    snapshots = fin.from_entries {R = name_cmp} (snaps_told x.snapshots all i);
    base = based i;
    known = x.known;
  }

-- ---- to the view

module _ (disk : Disk) (pool : Pool) (states : States) (x : VolumeState) (there : state_at states x.slot ≡ Some x) (parents : (s : ℕ) → parent_at pool.containers s ≡ parent_in (state_at states s)) (whole : IsVolume x.map) (span : x.map.span ≡ x.span) where
  abbrev u : View
  u = view_over pool states disk.reads

  abbrev shown : Shown
  shown = shows disk pool x

  here : u.head x.slot ≡ Some (head_in x)
  here = head_there pool states disk.reads x.slot x there

  -- what is held has the same block in the view
  same_there : (v : ℕ) → is_some (blocks_of shown v) ≡ true → under u x.slot v ≡ blocks_of shown v
  same_there = held_there disk pool states parents x there whole span

  -- The tables of its snapshots are told as they lie in their slots, and so is the volume by any active table.
  pub seen_volume : base_from u (head_in x).base ≡ base_by (blocks_in disk pool x) x.base → All (IsKeptTable disk pool x) x.snapshots → (active : Table)
      → volume_with u x.slot (head_in x) active ≡ volume_as x (record { active = active; snapshots = snaps_by (blocks_in disk pool x) x.snapshots; base = base_told_by (blocks_in disk pool x) x.base })
  seen_volume based kept = volume_by_snaps u x.slot (blocks_in disk pool x) x based
      (λ n q lt. kept_by disk pool x (slice_index_or x.snapshots n q) (kept n q lt) (under u x.slot) (slot_there disk pool states parents x there whole span (slice_index_or x.snapshots n q).slot))

  -- ---- where nothing is in memory

  module _ (is : IsStanding disk pool x) (none : x.files ≡ None) where
    pub standing_reached : AreReached (blocks_of shown) shown.used x.active.levels x.active.root
    standing_reached = subst (AreSoundBy (blocks_of shown) shown.used x.active) none is.trees

    pub agree : AgreeOnTable (blocks_of shown) (under u x.slot) x.active.levels x.active.root
    agree = record {
      inode = λ level place some. same_there (pointer_at (stored (blocks_of shown) greatest_word x.active.levels x.active.root) level place).vvbn (standing_reached.inode.held level place some);
      files = λ number r found level place some. same_there (pointer_at (stored (blocks_of shown) number r.levels r.root) level place).vvbn ((standing_reached.files number r found).held level place some);
    }

    -- The view tells the table of the volume,
    pub standing_table : active_in u no_trees x.slot ≡ table_for disk pool x
    standing_table =
        active_is u x.slot (head_in x) here
        ∙ kept_table (blocks_of shown) (under u x.slot) x.active.levels x.active.root agree
        ∙ sym (ap (λ (o : Option Files). table_told (standing_by (blocks_of shown) x.active o)) none)

    -- so the volume that it stands for, where it tells what this stands on.
    pub standing_volume : base_from u (head_in x).base ≡ base_by (blocks_in disk pool x) x.base → volume_with u x.slot (head_in x) (active_in u no_trees x.slot) ≡ volume_for disk pool x
    standing_volume based = ap (volume_with u x.slot (head_in x)) standing_table ∙ seen_volume based (snaps_all (IsKeptTable disk pool x) x is.kept) (table_for disk pool x)

    -- The volume is one of the machine that the view tells.
    pub standing_state : base_from u (head_in x).base ≡ base_by (blocks_in disk pool x) x.base → IsLabelled x.slot x → IsState u no_trees x.slot x
    standing_state based labelled = record {
      labelled = labelled;
      table = subst (IsWellTable x.now) (sym standing_table) is.table;
      reserves = subst HasNoReserve (sym standing_table) is.reserves;
      ledger = subst (λ v. IsLedgerOf v x.ledger) (sym (standing_volume based)) is.ledger;
    }

-- ---- from the view

module _ (disk : Disk) (pool : Pool) (states : States) (x : VolumeState) (is : StandsInView disk pool states x) where
  -- ---- one of its roots

  module _ (k : ℕ) (r : Root) (one : In {X = ℕ × Root} (k, r) (roots_of (head_in x))) where
    abbrev blocks : Under
    blocks = blocks_in disk pool x k

    abbrev inodes : Tree
    inodes = stored blocks greatest_word r.levels r.root

    -- a place of one of its trees that leads to a VVBN
    record LedAt (a : Option ℕ) (v : ℕ) : Type 0 where
      level : ℕ
      index : ℕ
      some : (led disk pool states x is k r one (owner_in a) level index).stamp ≢ 0
      vvbn : (led disk pool states x is k r one (owner_in a) level index).vvbn ≡ v

    led_at : (a : Option ℕ) (v : ℕ) → LeadsFrom (stored_trees blocks r.levels r.root) a v → LedAt a v
    led_at None v leads = record { level = leads.level; index = leads.place; some = leads.leads.some; vvbn = leads.leads.vvbn }
    led_at (Some n) v leads = by (file_at inodes n) refl leads
      where
        by : (o : Option InodeRecord) → file_at inodes n ≡ o → LeadsIn (option_map (λ f. unread (stored blocks n f.levels f.root)) o) v → LedAt (Some n) v
        by None e leads = absurd leads
        by (Some f) e leads =
            let at : led disk pool states x is k r one (OfFile n) leads.level leads.place ≡ pointer_at (stored blocks n f.levels f.root) leads.level leads.place =
            ap (λ (o : Option InodeRecord). option_map_or (λ f. pointer_at (stored blocks n f.levels f.root) leads.level leads.place) o hole) e in
            record {
              level = leads.level;
              index = leads.place;
              some = subst (λ (p : Pointer). p.stamp ≢ 0) (sym at) leads.leads.some;
              vvbn = ap (λ (p : Pointer). p.vvbn) at ∙ leads.leads.vvbn;
            }

    -- Each of its trees stands on its blocks,
    seen_reached : AreReached blocks (uses_in pool x k) r.levels r.root
    seen_reached = record {
      inode = stands_inode disk pool states x is k r one;
      files = stands_file disk pool states x is k r one;
      apart = λ a b v other first second.
          let here = led_at a v first in
          let there = led_at b v second in
          other (same_number a b (stands_once disk pool states x is k r one (owner_in a) (owner_in b) here.level here.index there.level there.index here.some there.some (there.vvbn ∙ sym here.vvbn)).0);
    }

    -- so its table lies whole in its slot.
    pub seen_root : RootStands disk pool x k (rooted_as r)
    seen_root = record {
      table = stands_well disk pool states x is k r one;
      reserves = stands_reserves disk pool states x is k r one;
      trees = seen_reached;
      well = record { trees = stands_stored disk pool states x is k r one; inodes = stands_indexes disk pool states x is k r one };
      reach = stands_reach disk pool states x is k r one;
    }

    -- a place that leads to a VVBN is one of a tree of the table
    leads_from : (o : Owner) (level index v : ℕ) → (led disk pool states x is k r one o level index).stamp ≢ 0 → (led disk pool states x is k r one o level index).vvbn ≡ v → (a : Option ℕ) × LeadsFrom (stored_trees blocks r.levels r.root) a v
    leads_from InodeFile level index v some at = (None, record { level = level; place = index; leads = record { some = some; placed = refl; vvbn = at } })
    leads_from (OfFile n) level index v some at = by (file_at inodes n) refl
      where
        by : (o : Option InodeRecord) → file_at inodes n ≡ o → (a : Option ℕ) × LeadsFrom (stored_trees blocks r.levels r.root) a v
        by None e = absurd (some (ap (λ (o : Option InodeRecord). (option_map_or (λ f. pointer_at (stored blocks n f.levels f.root) level index) o hole).stamp) e))
        by (Some f) e =
            let same : led disk pool states x is k r one (OfFile n) level index ≡ pointer_at (stored blocks n f.levels f.root) level index =
            ap (λ (o : Option InodeRecord). option_map_or (λ f. pointer_at (stored blocks n f.levels f.root) level index) o hole) e in (
              Some n,
              subst (λ (o : Option InodeRecord). LeadsIn (option_map (λ f. unread (stored blocks n f.levels f.root)) o) v) (sym e)
                  (record { level = level; place = index; leads = record { some = subst (λ (p : Pointer). p.stamp ≢ 0) same some; placed = refl; vvbn = sym (ap (λ (p : Pointer). p.vvbn) same) ∙ at } }),
            )

    -- Each number of its slot is led to.
    slot_led : (v : ℕ) → has v (slot_at x.map k) ≡ true → (a : Option ℕ) × LeadsFrom (stored_trees blocks r.levels r.root) a v
    slot_led v member = let at = stands_led disk pool states x is k r one v member in leads_from at.owner at.level at.index v at.some at.vvbn

module _ (disk : Disk) (pool : Pool) (states : States) (x : VolumeState) (is : StandsInView disk pool states x) where
  abbrev w : View
  w = view_over pool states disk.reads

  abbrev source : Shown
  source = shows disk pool x

  -- ---- two of its tables

  -- A root lies in some blocks as the view has it: one of the volume's in its own slot, that of its base in the parent's.
  record LiesIn (blocks : Under) (r : Root) : Type 0 where
    slot : ℕ
    among : AreAmong w x.slot (head_in x) slot r
    few : r.levels ≤ 2
    same : (o : Owner) (level index : ℕ) → place_in blocks r.levels r.root o level index ≡ place_in (under w slot) r.levels r.root o level index

  root_lies : (k : ℕ) (r : Root) → In {X = ℕ × Root} (k, r) (roots_of (head_in x)) → LiesIn (blocks_in disk pool x k) r
  root_lies k r one = record { slot = x.slot; among = roots_among w x.slot (head_in x) k r one; few = root_few (head_in x) is.numbers k r one; same = led_is disk pool states x is k r one }

  -- So the pointers of two are one to one, and they share what they may.
  seen_shares : (n m : Under) (r q : Root) → LiesIn n r → LiesIn m q → SharesWith (stored_trees n r.levels r.root) (stored_trees m q.levels q.root)
  seen_shares n m r q one two = shares_alike (stored_trees n r.levels r.root) (stored_trees m q.levels q.root)
      (λ o. place_in (under w one.slot) r.levels r.root (owner_in o)) (λ o. place_in (under w two.slot) q.levels q.root (owner_in o))
      (λ o level index. stored_place n r.levels r.root o level index ∙ one.same (owner_in o) level index) (λ o level index. stored_place m q.levels q.root o level index ∙ two.same (owner_in o) level index)
      (stored_same n r.levels r.root) (stored_same m q.levels q.root)
      (tables_one w x.slot (head_in x) is.small (view_here disk pool states x is) is.tables.ids one.slot r one.among two.slot q two.among one.few two.few)

  -- ---- its snapshots

  snap_root : (q : Kept) → In q x.snapshots → In {X = ℕ × Root} (q.slot, table_in q.table) (roots_of (head_in x))
  snap_root q there = inr (in_map (λ (p : Snap). (p.slot, p.table)) (snap_in q) (head_in x).snapshots (in_map snap_in q x.snapshots there))

  -- Their names differ.
  seen_names : are_distinct (map (λ (q : Kept). q.name) x.snapshots) ≡ true
  unfolding has_distinct_snapshots volume_seen
  seen_names = ap are_distinct (names_in x.snapshots) ∙ of_volume w (λ s y. are_distinct (map (λ p. p.name) y.head.snapshots)) x.slot (head_in x) is.tables.snapshots is.small (view_here disk pool states x is)

  each_kept : (q : Kept) → In q x.snapshots → IsKeptTable disk pool x q
  each_kept q there =
      let snap : In (snap_in q) (head_in x).snapshots = in_map snap_in q x.snapshots there in
      let bounds = and_parts (nat_le 1 q.slot) _ (from_all (λ (p : Snap). nat_le 1 p.slot && nat_lt p.slot stored_slots) (head_in x).snapshots is.slots.1.within (snap_in q) snap) in
      (later q.slot bounds.0, seen_root disk pool states x is q.slot (table_in q.table) (snap_root q there))
    where
      later : (n : ℕ) → nat_le 1 n ≡ true → n ≢ 0
      later n test = grind (arith, nat_tests, test)

  -- the view tells its table,
  snap_seen : (q : Kept) → In q x.snapshots → TellsSnap w x.slot (blocks_in disk pool x) q
  snap_seen q there = sym (stands_told disk pool states x is q.slot (table_in q.table) (snap_root q there))

  -- So the view tells the volume by any active table, where it tells what this stands on.
  seen_as : base_from w (head_in x).base ≡ base_by (blocks_in disk pool x) x.base → (active : Table)
      → volume_with w x.slot (head_in x) active ≡ volume_as x (record { active = active; snapshots = snaps_by (blocks_in disk pool x) x.snapshots; base = base_told_by (blocks_in disk pool x) x.base })
  seen_as based = volume_by_snaps w x.slot (blocks_in disk pool x) x based (all_among (TellsSnap w x.slot (blocks_in disk pool x)) x.snapshots snap_seen)

  -- ---- its active table, over all blocks that it holds

  active : RootStands disk pool x 0 x.active
  active = seen_root disk pool states x is 0 (table_in x.active) (inl refl)

  held_agrees : AgreeOnTable (blocks_in disk pool x 0) (blocks_of source) x.active.levels x.active.root
  held_agrees = record {
    inode = λ level place some. slot_held disk pool x 0 (pointer_at (stored (blocks_in disk pool x 0) greatest_word x.active.levels x.active.root) level place).vvbn (active.trees.inode.held level place some);
    files = λ n f found level place some. slot_held disk pool x 0 (pointer_at (stored (blocks_in disk pool x 0) n f.levels f.root) level place).vvbn ((active.trees.files n f found).held level place some);
  }

  active_reached : AreReached (blocks_of source) source.used x.active.levels x.active.root
  active_reached = over_reached (blocks_in disk pool x 0) (blocks_of source) x.active.levels x.active.root held_agrees source.used
      (subst (λ (uses : ℕ → Option Use). AreReached (blocks_in disk pool x 0) uses x.active.levels x.active.root) (active_uses disk pool x) active.trees)

  active_lies : LiesIn (blocks_of source) (table_in x.active)
  active_lies = record {
    slot = x.slot;
    among = roots_among w x.slot (head_in x) 0 (table_in x.active) (inl refl);
    few = root_few (head_in x) is.numbers 0 (table_in x.active) (inl refl);
    same = λ o level index. same_place (blocks_in disk pool x 0) (blocks_of source) x.active.levels x.active.root held_agrees o level index ∙ led_is disk pool states x is 0 (table_in x.active) (inl refl) o level index;
  }

  module _ (none : x.files ≡ None) where
    -- The table of the volume is told as by the view.
    pub seen_table : table_for disk pool x ≡ table_at w x.slot (head_in x).active
    seen_table =
        ap (λ (o : Option Files). table_told (standing_by (blocks_of source) x.active o)) none
        ∙ kept_table (blocks_in disk pool x 0) (blocks_of source) x.active.levels x.active.root held_agrees
        ∙ stands_told disk pool states x is 0 (table_in x.active) (inl refl)

    -- What is in use is led to.
    pub seen_led : IsLedTo disk pool x
    seen_led = subst (AreLedBy (blocks_of source) source.used x.active) (sym none) (λ v nobody. by v nobody (is_member (active_of x.map) v) refl)
      where
        by : (v : ℕ) → ((a : Option ℕ) → LeadsFrom (stored_trees (blocks_of source) x.active.levels x.active.root) a v → ⊥) → (b : Bool) → is_member (active_of x.map) v ≡ b → source.used v ≡ None
        by v nobody false e = use_none x.map pool.containers x.slot v e
        by v nobody true e =
            let tree = slot_led disk pool states x is 0 (table_in x.active) (inl refl) v (active_has x.map v ∙ e) in
            absurd (nobody tree.0 (over_keeps (blocks_in disk pool x 0) (blocks_of source) x.active.levels x.active.root held_agrees tree.0 v tree.1))

    -- What it leads to is stored well.
    pub seen_well : IsStoredWell disk pool x
    seen_well = subst (AreStoredBy x.known (blocks_of source) x.active) (sym none) (over_stored (blocks_in disk pool x 0) (blocks_of source) x.active.levels x.active.root held_agrees x.known active.well)

  -- ---- what it stands on

  module _ (footed : AreFooted states pool.containers) (others : (t : ℕ) (y : VolumeState) → state_at states t ≡ Some y → (y.slot ≡ t) × StandsInView disk pool states y) where
    module _ (b : Base) (based : x.base ≡ Some b) where
      abbrev on : IsFooted states x b
      on = stands_on states pool.containers is.parents footed x.slot is.small x refl is.there b based

      abbrev y : VolumeState
      y = on.parent

      abbrev root : Root
      root = table_in on.snap.table

      abbrev its : (y.slot ≡ b.parent) × StandsInView disk pool states y
      its = others b.parent y on.there

      rests : RestsOn pool.containers x slot_of_base y b.slot
      rests = rests_on states pool.containers is.parents footed x.slot is.small x refl is.there b based y its.0 on.there

      one : In {X = ℕ × Root} (b.slot, root) (roots_of (head_in y))
      one = root_there (head_in y) b.slot root (footed_at pool states disk.reads x b on)

      same_blocks : blocks_in disk pool x slot_of_base ≡ blocks_in disk pool y b.slot
      same_blocks = based_blocks disk pool x slot_of_base y b.slot rests

      among : AreAmong w x.slot (head_in x) b.parent root
      among = base_among w x.slot (head_in x) (footing_in b) root (ap (option_map footing_in) based) (footed_root pool states disk.reads x b on)

      -- its stamps are none above the volume's last, so the table is well-formed after its changes
      in_time : (n : ℕ) → b.parent ≡ n → list_all (λ (e : Item). nat_le e.pointer.stamp x.now) (items (standing_of w n root)) ≡ true
      unfolding has_stamps_past volume_seen
      in_time n at = subst (λ (n : ℕ). list_all (λ (e : Item). nat_le e.pointer.stamp x.now) (items (standing_of w n root)) ≡ true) at
          (among (λ (e : Item). nat_le e.pointer.stamp x.now) (of_volume w (λ s y. list_all (λ (e : Item). nat_le e.pointer.stamp y.head.now) (all_items y)) x.slot (head_in x) is.tables.stamps is.small (view_here disk pool states x is)))

      well : IsWellTable x.now (table_told (standing_at (blocks_in disk pool y b.slot) root.levels root.root))
      well = subst (IsWellTable x.now) (sym (stands_told disk pool states y its.1 b.slot root one))
          (well_root w is.tables is.whole y.slot (head_in y) its.1.small (view_here disk pool states y its.1) (b.slot, root) one x.now (in_time y.slot (sym its.0)) (root_few (head_in y) its.1.numbers b.slot root one))

      -- The base table lies whole in the slot of the base,
      base_stands : RootStands disk pool x slot_of_base b.table
      base_stands = subst (RootStands disk pool x slot_of_base) (sym on.table) (based_root disk pool x slot_of_base y b.slot rests (λ all. on.known) on.snap.table (seen_root disk pool states y its.1 b.slot root one) well)

      -- as the view has it in the parent's.
      base_lies : LiesIn (blocks_in disk pool x slot_of_base) (table_in b.table)
      base_lies = subst (λ (t : Rooted). LiesIn (blocks_in disk pool x slot_of_base) (table_in t)) (sym on.table) (subst (λ (u : Under). LiesIn u root) (sym same_blocks) (record {
        slot = b.parent;
        among = among;
        few = root_few (head_in y) its.1.numbers b.slot root one;
        same = λ o level index. led_is disk pool states y its.1 b.slot root one o level index ∙ ap (λ (n : ℕ). place_in (under w n) root.levels root.root o level index) its.0;
      }))

      base_is_told : base_from w (Some (footing_in b)) ≡ base_by (blocks_in disk pool x) (Some b)
      base_is_told = footed_base pool states disk.reads x b on (blocks_in disk pool x)
          (ap (λ (n : ℕ). table_at w n root) (sym its.0) ∙ sym (stands_told disk pool states y its.1 b.slot root one)
          ∙ ap (λ (u : Under). table_told (standing_at u root.levels root.root)) (sym same_blocks) ∙ (λ j. table_told (standing_at (blocks_in disk pool x slot_of_base) (sym on.table j).levels (sym on.table j).root)))

    -- what holds of its base table, and of those of its snapshots, holds of all that it keeps
    of_tables : (P : Kept → Type 0) → ((b : Base) → x.base ≡ Some b → P (record { slot = slot_of_base; name = b.snapshot; table = b.table })) → ((q : Kept) → In q x.snapshots → P q) → (q : Kept) → In q (tables_of x) → P q
    of_tables P stood each q = by x.base refl
      where
        by : (o : Option Base) → x.base ≡ o → In q (base_table o ++ x.snapshots) → P q
        by None e there = each q there
        by (Some b) e (inl same) = subst P same (stood b e)
        by (Some b) e (inr there) = each q there

    all_kept : All (IsKeptTable disk pool x) (tables_of x)
    all_kept = all_among (IsKeptTable disk pool x) (tables_of x) (of_tables (IsKeptTable disk pool x) (λ b based. ((λ e. wrong e), base_stands b based)) each_kept)
      where
        wrong : slot_of_base ≡ 0 → ⊥
        wrong e = omega (arith, e)

    each_lies : (q : Kept) → In q (tables_of x) → LiesIn (blocks_in disk pool x q.slot) (table_in q.table)
    each_lies = of_tables (λ (q : Kept). LiesIn (blocks_in disk pool x q.slot) (table_in q.table)) base_lies (λ q there. root_lies q.slot (table_in q.table) (snap_root q there))

    -- The active table shares with those that are kept what it may, and they with one another.
    all_shared : AreShared (stored_trees (blocks_of source) x.active.levels x.active.root) (blocks_in disk pool x) (tables_of x)
    all_shared = record {
      active = all_among _ (tables_of x) (λ q there. seen_shares (blocks_of source) (blocks_in disk pool x q.slot) (table_in x.active) (table_in q.table) active_lies (each_lies q there));
      kept = all_among _ (tables_of x) (λ q there. all_among _ (tables_of x) (λ p here. seen_shares (blocks_in disk pool x q.slot) (blocks_in disk pool x p.slot) (table_in q.table) (table_in p.table) (each_lies q there) (each_lies p here)));
    }

    base_told_now : base_from w (head_in x).base ≡ base_by (blocks_in disk pool x) x.base
    base_told_now = by x.base refl
      where
        by : (o : Option Base) → x.base ≡ o → base_from w (option_map footing_in o) ≡ base_by (blocks_in disk pool x) o
        by None e = refl
        by (Some b) e = base_is_told b e

    -- The volume stands for the one of the view.
    pub seen_standing : (none : x.files ≡ None) → IsTrue disk.tells → AreApart pool x.map x.slot → AreCleanOn disk.reads pool.containers → IsState w no_trees x.slot x → AreNumbersIf x.numbers (table_for disk pool x) → IsStanding disk pool x
    seen_standing none tells apart clean state numbered =
        let told : active_in w no_trees x.slot ≡ table_for disk pool x = active_is w x.slot (head_in x) (head_there pool states disk.reads x.slot x is.there) ∙ sym (seen_table none) in
        record {
          told = (tells, apart, clean);
          table = subst (IsWellTable x.now) told state.table;
          reserves = subst HasNoReserve told state.reserves;
          kept = all_kept;
          names = seen_names;
          shared = subst (λ (o : Option Files). AreShared (trees_by (blocks_of source) x.active o) (blocks_in disk pool x) (tables_of x)) (sym none) all_shared;
          ledger = subst (λ v. IsLedgerOf v x.ledger) (ap (volume_with w x.slot (head_in x)) told ∙ seen_as base_told_now (table_for disk pool x)) state.ledger;
          trees = subst (AreSoundBy (blocks_of source) source.used x.active) (sym none) active_reached;
          laid = subst (AreLaidBy (blocks_of source)) (sym none) tt;
          numbers = numbered;
        }
