-- A volume of a session that has nothing in memory: with all its roots it keeps the rules of soundness, and what a view tells of it is the volume.
use Rattle.std.proofs.Common.{◌≡◌, ◌≢◌, ◌⊎◌, ℕ, ◌+◌, ◌<◌, ◌≤◌, Bool, true, false, not, ◌&&◌, ◌||◌, List, [], ◌∷◌, Option, Some, None, inl, inr, is_some, refl, sym, ap, subst, ◌∙◌, arith, length}
use Rattle.std.specs.Prelude.{IfSome, nat_le, nat_lt, map, take, ◌==◌}
use Rattle.std.specs.List.{list_all}
use Rattle.std.specs.Option.{is_none, option_map, option_map_or}
use Rattle.std.specs.FinSet as set
use Rattle.std.proofs.lemmas.Bool.{and_from, and_parts}
use Rattle.std.proofs.lemmas.Bool.Decides.{nat_tests}
use Rattle.std.proofs.lemmas.List.Folds.{list_all-map}
use Rattle.fv_disk.specs.Shown.{Shown}
use Rattle.fv_codec.specs.declared.inode.InodeRecord.{InodeRecord}
use Rattle.fv_codec.specs.declared.pointer.Pointer.{Pointer}
use Rattle.fv_codec.specs.Blocks.{greatest_word}
use Rattle.fv_model.specs.Machines.{capacity, first_block}
use Rattle.fv_model.specs.Space.{base_ids, commits, use_of}
use Rattle.fv_model.specs.Tables.{empty_table}
use Rattle.fv_model.specs.Volumes.{Base as ModelBase, Volume}
use Rattle.fv_tables.specs.Reached.{Item, is_listed, items}
use Rattle.fv_tables.specs.Spelled.{Under, hole, pointer_at, stored}
use Rattle.fv_tables.specs.Told.{file_at, file_told, records, standing_at, table_told}
use Rattle.fv_tables.proofs.Lists.{all_of_range}
use Rattle.fv_tables.proofs.Items.{kept_items}
use Rattle.fv_tables.proofs.Tables.{kept_records}
use Rattle.fv_files.specs.Numbering.{AreNumbersIf}
use Rattle.fv_laws.proofs.Lists.{In}
use Rattle.fv_laws.specs.WellFormed.{IsWellTable}
use Rattle.fv_image.specs.Chains.{under}
use Rattle.fv_image.specs.Held.{Layout, layout_at}
use Rattle.fv_image.specs.ReachRules.{all_volumes, are_distinct}
use Rattle.fv_image.specs.Seen.{Based, Reached, Root, VolumeSeen, base_root as base_root_of, reached_at, root_seen, roots_of, seen, volume_seen}
use Rattle.fv_image.specs.Soundness.{AreTables}
use Rattle.fv_image.specs.BlockRules.{agree}
use Rattle.fv_image.specs.HintRules.{is_based, is_copied, is_in_label, is_known, is_splitting}
use Rattle.fv_image.specs.TableRules.{all_items, are_levels, has_same_id, is_cell_of}
use Rattle.fv_image.specs.VolumeRules.{comes_to_end, commits_seen, has_commits_in_capacity, has_footing, has_use_in_size, has_wide_spans}
use Rattle.fv_image.specs.Views.{Footing, Head, Rooted, Snap as HeadSnap, View, slots}
use Rattle.fv_image.specs.Volumes.{active_at, base_from, named_with, standing_of, table_at, volume_told, volume_with}
use Rattle.fv_image.proofs.Committed.{commits_told}
use Rattle.fv_image.proofs.SameSeen.{seen_at}
use Rattle.fv_root.specs.Finding.{root_found}
use Rattle.fv_container.specs.declared.entry.Entry.{Entry}
use Rattle.fv_container.specs.Chains.{container_at}
use Rattle.fv_volmap.specs.Slots.{IsVolume, slot_of_base}
use Rattle.fv_pool.specs.declared.pool.Pool.{Pool}
use Rattle.fv_pool.specs.BlocksOver.{held_entry}
use Rattle.fv_volume.specs.declared.state.Base.{Base as StateBase}
use Rattle.fv_volume.specs.declared.state.Snap.{Snap}
use Rattle.fv_volume.specs.declared.state.VolumeState.{VolumeState}
use Rattle.fv_volume.specs.Files.{AreStates, IsState}
use Rattle.fv_volume.specs.Numbering.{AreNumbersSeen}
use Rattle.fv_volume.specs.OneVolume.{IsReady, IsStanding, RootStands, base_by, blocks_in, table_for, volume_for}
use Rattle.fv_volume.specs.Placing.{IsLedTo, IsStoredWell}
use Rattle.fv_volume.specs.Sharing.{differs_in, pointer_in, trees_kept}
use Rattle.fv_volume.specs.Slots.{sum_of}
use Rattle.fv_volume.specs.States.{States, footing_in, head_in, rooted_as, state_at, table_in, view_over}
use Rattle.fv_volume.specs.Trees.{active_in, no_trees}
use Rattle.fv_volumes.proofs.Distinct.{same_names}
use Rattle.fv_volumes.proofs.Made.{commits_are}
use Rattle.fv_volume.proofs.AllRoots.{active_root, each_shares, roots, EachShares}
use Rattle.fv_volume.proofs.BasedRules as rule_on
use Rattle.fv_volume.proofs.EachRoot.{all_among, each_root}
use Rattle.fv_volume.proofs.Ruled as rule
use Rattle.fv_volume.proofs.TablesOf.{is_whole}
use Rattle.fv_volume.proofs.ActiveStands.{roots_stand}
use Rattle.fv_volumes.proofs.Reached.{standing_reach}
use Rattle.fv_volume.proofs.SharedRoots.{alike_shares, stored_place, stored_same}
use Rattle.fv_volume.proofs.SnapNames.{names_in}
use Rattle.fv_volumes.proofs.Agreed.{root_agrees}
use Rattle.fv_volumes.specs.Footing.{AreFooted}
use Rattle.fv_volumes.proofs.FootedSeen.{base_seen}
use Rattle.fv_volumes.proofs.HeldBase.{base_borne, base_found, base_kept, base_leaves, base_rests, base_same, base_stands, based_at, root_low, snap_kept}
use Rattle.fv_volumes.proofs.LoadedBase.{loaded_ends}
use Rattle.fv_volumes.proofs.Standings.{standing_state, standing_table, standing_volume}
use Rattle.fv_volumes.proofs.Told.{head_there, is_inside}
use Rattle.fv_volumes.proofs.Trees.{unchanged_machine}
use Rattle.fv_volumes.proofs.Facts.{are_ruled, led_by, led_place}
use Rattle.fv_volumes.proofs.Records.{all_records, cell_below, file_levels, file_there, inode_levels, names_apart}
use Rattle.fv_volume.proofs.Ruled.{AreOneToOne, AreRuled, IsRuled, of_roots, owner_number}
use Rattle.fv_disk.specs.Shown.{Image}
use Rattle.fv_volume.specs.Held.{named_held, HasWholeMap, IsHeldIn}
use Rattle.fv_volumes.specs.Housed.{AreHoused, ReachesAll}
use Rattle.fv_volume.specs.Files.{IsLabelled}
use Rattle.fv_volume.specs.Stored.{AreSpacedIn}
use Rattle.fv_image.proofs.SameSeen.{of_volume}
use Rattle.fv_model.specs.Space.{charge}
use Rattle.fv_model.specs.Tables.{Table}

at_most : (a b : ℕ) → a ≤ b → nat_le a b ≡ true
at_most a b le = grind (arith, nat_tests, le)

at_least : (a b : ℕ) → nat_le a b ≡ true → a ≤ b
at_least a b test = grind (arith, nat_tests, test)

-- ---- the volumes of the slots

module _ (states : States) (labelled : (s : ℕ) → IfSome (state_at states s) (IsLabelled s)) where
  -- what holds of a slot without a volume, and of each volume in its slot, holds of all slots
  pub of_each : (P : ℕ → Option VolumeState → Type 0) → ((s : ℕ) → P s None) → ((x : VolumeState) → state_at states x.slot ≡ Some x → P x.slot (Some x)) → (s : ℕ) → P s (state_at states s)
  of_each P nothing some s = by (state_at states s) refl (labelled s)
    where
      by : (o : Option VolumeState) → state_at states s ≡ o → IfSome o (IsLabelled s) → P s o
      by None e is = nothing s
      by (Some x) e is = subst (λ (n : ℕ). P n (Some x)) is.slot_is (some x (ap (state_at states) is.slot_is ∙ e))

  -- what holds of each volume holds of all that a view over them tells
  pub all_seen : (pool : Pool) (i : Image) (test : ℕ → VolumeSeen → Bool) → ((x : VolumeState) → state_at states x.slot ≡ Some x → test x.slot (volume_seen (view_over pool states i) x.slot (head_in x)) ≡ true) → all_volumes (seen (view_over pool states i)) test ≡ true
  unfolding slots seen view_over
  all_seen pool i test each = all_of_range (λ s. option_map_or (test s) ((seen (view_over pool states i)).volume s) true) 0 64 (λ s low high.
      of_each (λ s o. state_at states s ≡ o → s < 64 → option_map_or (test s) ((seen (view_over pool states i)).volume s) true ≡ true) without with s refl (omega (arith, high)))
    where
      without : (s : ℕ) → state_at states s ≡ None → s < 64 → option_map_or (test s) ((seen (view_over pool states i)).volume s) true ≡ true
      without s e low = let inside : nat_lt s 64 ≡ true = grind (arith, nat_tests, low) in rw (inside, e) refl

      with : (x : VolumeState) → state_at states x.slot ≡ Some x → state_at states x.slot ≡ Some x → x.slot < 64 → option_map_or (test x.slot) ((seen (view_over pool states i)).volume x.slot) true ≡ true
      with x there e low =
          ap (λ (o : Option VolumeSeen). option_map_or (test x.slot) o true) (seen_at (view_over pool states i) x.slot (head_in x) low (head_there pool states i x.slot x there)) ∙ each x there

-- all that volumes of a view commit
pub commits_in_view : (pool : Pool) (states : States) (i : Image) → length states ≡ 64 → AreStates (view_over pool states i) no_trees states → commits_seen (seen (view_over pool states i)) ≡ sum_of states
unfolding view_over
commits_in_view pool states i long are =
    let y : Layout = record (layout_at (root_found pool.found) i) { view = view_over pool states i } in
    sym (commits_told y (same_names (view_over pool states i) y (λ s. refl) states (λ s. refl) are.names)) ∙ ap commits (sym (unchanged_machine pool states no_trees i (λ s. refl))) ∙ commits_are pool states no_trees i long are

-- ---- a volume with nothing of it in memory

module _ (disk : Shown) (pool : Pool) (states : States) (housed : AreHoused pool.containers states) (spaced : AreSpacedIn pool.found.blocks pool.map.next (state_at states) (container_at pool.containers)) (footed : AreFooted states pool.containers)
    (each : (s : ℕ) → IfSome (state_at states s) (IsHeldIn disk pool s)) (maps : (s : ℕ) → HasWholeMap (state_at states s))
    (x : VolumeState) (there : state_at states x.slot ≡ Some x) (one : IsHeldIn disk pool x.slot x) (no_files : x.files ≡ None) (whole : IsVolume x.map) where
  abbrev w : View
  w = view_over pool states disk.reads

  abbrev h : Head
  h = head_in x

  abbrev s : ℕ
  s = x.slot

  span : x.map.span ≡ x.span
  span = one.ready.labelled.map

  here : w.head s ≡ Some h
  here = head_there pool states disk.reads s x there

  inside : s < 64
  inside = is_inside states s x housed.long there

  -- the next root holds the block of each entry that is held, so that can be allocated
  within : (v : ℕ) (e : Entry) → held_entry x.map pool.containers s v ≡ Some e → (first_block pool.found.blocks ≤ e.pvbn) × (e.pvbn < pool.found.blocks)
  within v e held = let its = spaced.set e.pvbn (one.stands.told.1.held v e held) in (spaced.held its.0 e.pvbn its.1 its.2).1

  -- ---- its roots

  abbrev IsRoot : ℕ → Rooted → Type 0
  IsRoot k r = In {X = ℕ × Rooted} (k, r) (roots_of h)

  stood : (k : ℕ) (r : Rooted) → IsRoot k r → RootStands disk pool x k (rooted_as r)
  stood = roots_stand disk pool x one.stands no_files one.led one.well

  abbrev pub led : ℕ → Rooted → Option ℕ → ℕ → ℕ → Pointer
  led k r = led_by (blocks_in disk pool x k) (rooted_as r)

  pub ruled : (k : ℕ) (r : Rooted) → IsRoot k r → AreRuled w s h r (led k r)
  ruled k r is = are_ruled disk pool states x k (rooted_as r) (stood k r is) there housed.parents whole span within

  -- ---- what they share

  shared : EachShares disk pool x (roots x)
  shared = each_shares disk pool x no_files (stood 0 h.active (inl refl)) one.stands.shared

  abbrev kept_led : Snap → Option ℕ → ℕ → ℕ → Pointer
  kept_led q = led_by (blocks_in disk pool x q.slot) q.table

  -- the pointers of two tables that are kept are one to one,
  kept_one : (p q : Snap) → In p (roots x) → In q (roots x) → AreOneToOne (kept_led p) (kept_led q)
  kept_one p q first second = alike_shares (trees_kept (blocks_in disk pool x) p) (trees_kept (blocks_in disk pool x) q) (kept_led p) (kept_led q) (place p) (place q) (same p) (same q) (shared p q first second)
    where
      place : (q : Snap) (o : Option ℕ) (level index : ℕ) → pointer_in (trees_kept (blocks_in disk pool x) q o) level index ≡ kept_led q o level index
      place q o level index = stored_place (blocks_in disk pool x q.slot) q.table.levels q.table.root o level index ∙ led_place (blocks_in disk pool x q.slot) q.table o level index

      same : (q : Snap) (o : Option ℕ) (level index : ℕ) → differs_in (trees_kept (blocks_in disk pool x) q o) level index ≡ false
      same q = stored_same (blocks_in disk pool x q.slot) q.table.levels q.table.root

  -- and so are those of a root with those of any that is kept,
  root_one : (k : ℕ) (r : Rooted) → IsRoot k r → (q : Snap) → In q (roots x) → AreOneToOne (led k r) (kept_led q)
  root_one k r is q there = each_root x (λ k r. AreOneToOne (led_by (blocks_in disk pool x k) r) (kept_led q)) (kept_one (active_root x) q (inl refl) there)
      (all_among (λ (p : Snap). AreOneToOne (kept_led p) (kept_led q)) x.snapshots (λ p here. kept_one p q (inr (snap_kept x p here)) there)) k r is

  -- so some that are with all that are kept are with those of any root
  with_roots : (places : Option ℕ → ℕ → ℕ → Pointer) → ((q : Snap) → In q (roots x) → AreOneToOne places (kept_led q)) → (k : ℕ) (r : Rooted) → IsRoot k r → AreOneToOne places (led k r)
  with_roots places with = each_root x (λ k r. AreOneToOne places (led_by (blocks_in disk pool x k) r)) (with (active_root x) (inl refl))
      (all_among (λ (p : Snap). AreOneToOne places (kept_led p)) x.snapshots (λ p here. with p (inr (snap_kept x p here))))

  -- Pointers of two roots lead to one VVBN exactly where they have one id.
  pub one_to_one : (k : ℕ) (r : Rooted) (j : ℕ) (q : Rooted) → IsRoot k r → IsRoot j q → AreOneToOne (led k r) (led j q)
  one_to_one k r j q one two = with_roots (led k r) (root_one k r one) j q two

  -- The names of its snapshots differ.
  pub names_rule : are_distinct (map (λ (p : HeadSnap). p.name) h.snapshots) ≡ true
  names_rule = ap are_distinct (sym (names_in x.snapshots)) ∙ one.stands.names

  -- ---- the table of a root

  module _ (k : ℕ) (r : Rooted) (is : IsRoot k r) where
    abbrev blocks : Under
    blocks = blocks_in disk pool x k

    root : RootStands disk pool x k (rooted_as r)
    root = stood k r is

    told_table : IsWellTable x.now (table_told (standing_at blocks r.levels r.root))
    told_table = root.table

    same_records : records (standing_of w s r) ≡ records (standing_at blocks r.levels r.root)
    same_records = kept_records blocks (under w s) r.levels r.root (root_agrees disk pool states housed.parents x there whole span k (rooted_as r) root.trees)

    -- what holds of each record holds of all that the view has
    of_records : (p : ℕ × InodeRecord → Bool) → ((n : ℕ) (f : InodeRecord) → file_at (stored blocks greatest_word r.levels r.root) n ≡ Some f → p (n, f) ≡ true) → list_all p (records (standing_of w s r)) ≡ true
    of_records p each = subst (λ (rs : List (ℕ × InodeRecord)). list_all p rs ≡ true) (sym same_records) (all_records x.now blocks r.levels r.root told_table p each)

    names_there : are_distinct (map (λ (f : ℕ × InodeRecord). take f.1.name_length f.1.name) (records (standing_of w s r))) ≡ true
    names_there = subst (λ (rs : List (ℕ × InodeRecord)). are_distinct (map (λ (f : ℕ × InodeRecord). take f.1.name_length f.1.name) rs) ≡ true) (sym same_records) (names_apart x.now blocks r.levels r.root told_table)

    levels_there : (are_levels 0 r.levels r.root.stamp && list_all (λ (f : ℕ × InodeRecord). are_levels f.1.reserve f.1.levels f.1.root.stamp) (records (standing_of w s r))) ≡ true
    levels_there = and_from (are_levels 0 r.levels r.root.stamp) _ (inode_levels x.now blocks r.levels r.root told_table)
        (of_records (λ f. are_levels f.1.reserve f.1.levels f.1.root.stamp) (λ n f found. file_levels x.now blocks r.levels r.root told_table n f found))

    -- a cell of a file lies below its length
    cell_there : (n : ℕ) (f : InodeRecord) → file_at (stored blocks greatest_word r.levels r.root) n ≡ Some f → (e : Item) → IsRuled w s h (led k r) e → (not (is_cell_of n e) || nat_lt e.place f.length) ≡ true
    cell_there n f found e known = by (is_cell_of n e) refl
      where
        below : (a b : ℕ) → a < b → nat_lt a b ≡ true
        below a b low = grind (arith, nat_tests, low)

        meant : (a b : ℕ) → (a == b) ≡ true → a ≡ b
        meant a b e = grind (arith, nat_tests, e)

        lies : (a : Option ℕ) → owner_number a ≡ n → e.pointer ≡ led k r a 0 e.place → e.place < f.length
        lies None same at = let few = told_table.numbers n _ (file_there x.now blocks r.levels r.root told_table n f found) in absurd (omega (arith, few, same))
        lies (Some m) same at =
            let p : Pointer = pointer_at (stored blocks n f.levels f.root) 0 e.place in
            let is : e.pointer ≡ p = at ∙ ap (λ (i : ℕ). led k r (Some i) 0 e.place) same ∙ ap (λ (o : Option InodeRecord). option_map_or (λ (f : InodeRecord). pointer_at (stored blocks n f.levels f.root) 0 e.place) o hole) found in
            let some : p.stamp ≢ 0 = subst (λ (q : Pointer). q.stamp ≢ 0) is known.some in
            cell_below x.now blocks r.levels r.root told_table n f found e.place some ((root.trees.files n f found).held 0 e.place some)

        by : (b : Bool) → is_cell_of n e ≡ b → (not b || nat_lt e.place f.length) ≡ true
        by false isnt = refl
        by true is =
            let parts = and_parts (e.owner == n) (e.level == 0) is in
            below e.place f.length (lies known.from (sym known.owner ∙ meant e.owner n parts.0) (known.stands ∙ ap (λ (l : ℕ). led k r known.from l e.place) (meant e.level 0 parts.1)))

    cells_there : list_all (λ (f : ℕ × InodeRecord). list_all (λ (e : Reached). not (is_cell_of f.0 e.item) || nat_lt e.item.place f.1.length) (map (reached_at w s) (items (standing_of w s r)))) (records (standing_of w s r)) ≡ true
    cells_there = of_records (λ f. list_all (λ (e : Reached). not (is_cell_of f.0 e.item) || nat_lt e.item.place f.1.length) (map (reached_at w s) (items (standing_of w s r))))
        (λ n f found. list_all-map (λ (e : Reached). not (is_cell_of n e.item) || nat_lt e.item.place f.length) (reached_at w s) (items (standing_of w s r))
        ∙ (ruled k r is).each (λ e. not (is_cell_of n e) || nat_lt e.place f.length) (cell_there n f found))

    reserves_there : list_all (λ (f : ℕ × InodeRecord). f.1.reserve == 0) (records (standing_of w s r)) ≡ true
    unfolding file_told
    reserves_there = of_records (λ f. f.1.reserve == 0) (λ n f found.
        let none : f.reserve ≡ 0 = root.reserves n _ (file_there x.now blocks r.levels r.root told_table n f found) in
        grind (arith, nat_tests, none))

  -- ---- the rules on its tables

  pub files_rule : list_all (λ (r : Root). are_distinct (map (λ (f : ℕ × InodeRecord). take f.1.name_length f.1.name) r.files)) (volume_seen w s h).roots ≡ true
  unfolding root_seen
  files_rule = of_roots w s h led ruled (λ (r : Root). are_distinct (map (λ (f : ℕ × InodeRecord). take f.1.name_length f.1.name) r.files)) names_there

  pub levels_rule : list_all (λ (r : Root). are_levels 0 r.rooted.levels r.rooted.root.stamp && list_all (λ (f : ℕ × InodeRecord). are_levels f.1.reserve f.1.levels f.1.root.stamp) r.files) (volume_seen w s h).roots ≡ true
  unfolding root_seen
  levels_rule = of_roots w s h led ruled (λ (r : Root). are_levels 0 r.rooted.levels r.rooted.root.stamp && list_all (λ (f : ℕ × InodeRecord). are_levels f.1.reserve f.1.levels f.1.root.stamp) r.files) levels_there

  pub cells_rule : list_all (λ (r : Root). list_all (λ (f : ℕ × InodeRecord). list_all (λ (e : Reached). not (is_cell_of f.0 e.item) || nat_lt e.item.place f.1.length) r.reached) r.files) (volume_seen w s h).roots ≡ true
  unfolding root_seen
  cells_rule = of_roots w s h led ruled (λ (r : Root). list_all (λ (f : ℕ × InodeRecord). list_all (λ (e : Reached). not (is_cell_of f.0 e.item) || nat_lt e.item.place f.1.length) r.reached) r.files) cells_there

  pub reserve_rule : list_all (λ (r : Root). list_all (λ (f : ℕ × InodeRecord). f.1.reserve == 0) r.files) (volume_seen w s h).roots ≡ true
  unfolding root_seen
  reserve_rule = of_roots w s h led ruled (λ (r : Root). list_all (λ (f : ℕ × InodeRecord). f.1.reserve == 0) r.files) reserves_there

  -- the volume that the view tells
  table_is : active_in w no_trees s ≡ table_at w s h.active
  table_is = ap (λ (o : Option Head). option_map_or (λ h. table_at w s h.active) o empty_table) here

  -- each volume has the tables that it keeps, and its maps
  others : (t : ℕ) (y : VolumeState) → state_at states t ≡ Some y → (y.slot ≡ t) × (IsStanding disk pool y × (IsVolume y.map × (y.map.span ≡ y.span)))
  others t y here =
      let its : IsHeldIn disk pool t y = subst (λ (o : Option VolumeState). IfSome o (IsHeldIn disk pool t)) here (each t) in
      (its.slot, (its.stands, (subst HasWholeMap here (maps t), its.ready.labelled.map)))

  -- what it stands on is told as it knows it
  based : base_from w h.base ≡ base_by (blocks_in disk pool x) x.base
  based = base_seen disk pool states housed.parents footed s inside x refl there others

  volume_is : volume_told w s h ≡ volume_for disk pool x
  volume_is = ap (volume_with w s h) (sym table_is) ∙ standing_volume disk pool states x there housed.parents whole span one.stands no_files based

  pub wide_rule : nat_le (h.most + (set.len (base_ids (volume_told w s h).base) + 256)) h.span ≡ true
  wide_rule = at_most (h.most + (set.len (base_ids (volume_told w s h).base) + 256)) h.span
      (subst (λ (v : Volume). x.most + (set.len (base_ids v.base) + 256) ≤ x.span) (sym volume_is) one.wide)

  pub size_rule : nat_le (use_of (volume_told w s h)) h.size ≡ true
  size_rule =
      let same : use_of (volume_told w s h) ≡ use_of (volume_for disk pool x) = ap use_of volume_is in
      let charged = one.stands.ledger.charged in
      let needed = one.stands.ledger.needed in
      let nothing = one.ready.booked.need in
      let fits = one.within in
      at_most (use_of (volume_told w s h)) h.size (omega (arith, same, charged, needed, nothing, fits))

  -- ---- the rules on what it stands on

  footing_rule : comes_to_end (seen w) 64 s ≡ true
  footing_rule = loaded_ends disk pool states housed.long 64 s ∙ footed.ends s inside

  -- without a base, and with one that isn't being split
  by_base : {P : Type 0} → (h.base ≡ None → P) → ((b : StateBase) → x.base ≡ Some b → h.base ≡ Some (footing_in b) → b.splitting ≡ false → P) → P
  by_base {P} none some = by x.base refl
    where
      by : (o : Option StateBase) → x.base ≡ o → P
      by None e = none (ap (option_map footing_in) e)
      by (Some b) e = some b e (ap (option_map footing_in) e) (subst (λ (o : Option StateBase). IfSome o (λ b. b.splitting ≡ false)) e (is_whole s x one.ready.labelled))

  module _ (b : StateBase) (on : x.base ≡ Some b) where
    abbrev base_root : Rooted
    base_root = table_in b.table

    abbrev IsTable : ℕ → Rooted → Type 0
    IsTable k r = In {X = ℕ × Rooted} (k, r) ((slot_of_base, base_root) ∷ roots_of h)

    abbrev es : List Item
    es = items (standing_of w s base_root)

    table_found : base_root_of w (footing_in b) ≡ Some base_root
    table_found = base_found disk pool states housed.parents footed x inside there others b on

    table_same : items (standing_of w b.parent base_root) ≡ es
    table_same = base_same disk pool states housed.parents footed x inside there others b on

    table_ruled : AreRuled w s h base_root (led slot_of_base base_root)
    table_ruled = are_ruled disk pool states x slot_of_base b.table (base_stands disk pool states housed.parents footed x inside there others b on) there housed.parents whole span within

    in_roots : In (based_at b) (roots x)
    in_roots = inr (base_kept x b on)

    table_one : (k : ℕ) (r : Rooted) → IsTable k r → (q : Snap) → In q (roots x) → AreOneToOne (led k r) (kept_led q)
    table_one k r (inl e) q there = subst (λ (p : ℕ × Rooted). AreOneToOne (led p.0 p.1) (kept_led q)) e (kept_one (based_at b) q in_roots there)
    table_one k r (inr is) q there = root_one k r is q there

    table_pairs : (k : ℕ) (r : Rooted) (j : ℕ) (q : Rooted) → IsTable k r → IsTable j q → AreOneToOne (led k r) (led j q)
    table_pairs k r j q one (inl e) = subst (λ (p : ℕ × Rooted). AreOneToOne (led k r) (led p.0 p.1)) e (table_one k r one (based_at b) in_roots)
    table_pairs k r j q one (inr two) = with_roots (led k r) (table_one k r one) j q two

    -- what a root reaches rests on an entry of its own or on the base table
    table_rests : (k : ℕ) (r : Rooted) → IsRoot k r → (v : ℕ) → is_listed (items (standing_of w s r)) v ≡ true → (is_some (w.entry s v) ≡ true) ⊎ (is_listed es v ≡ true)
    table_rests k r is v listed = base_rests disk pool states housed.parents footed x inside there others b on k v (root_low h one.ready.labelled.snapshots.slots k r is)
        ((stood k r is).reach v
        ∙ sym (ap (λ (es : List Item). is_listed es v) (kept_items (blocks_in disk pool x k) (under w s) r.levels r.root (root_agrees disk pool states housed.parents x there whole span k (rooted_as r) (stood k r is).trees)))
        ∙ listed)

  pub bases_rule : (comes_to_end (seen w) 64 s && option_map_or (has_footing (seen w) (volume_seen w s h)) h.base true) ≡ true
  bases_rule = and_from (comes_to_end (seen w) 64 s) _ footing_rule (by_base
      (λ none. ap (λ (o : Option Footing). option_map_or (has_footing (seen w) (volume_seen w s h)) o true) none)
      (λ b e on whole. ap (λ (o : Option Footing). option_map_or (has_footing (seen w) (volume_seen w s h)) o true) on ∙ base_borne disk pool states housed.parents footed x inside there others b e))

  pub ids_rule : list_all (λ a. list_all (λ b. agree (has_same_id a b) (a.pointer.vvbn == b.pointer.vvbn)) (all_items (volume_seen w s h))) (all_items (volume_seen w s h)) ≡ true
  ids_rule = by_base
      (λ none. rule.ids w s h led ruled none one_to_one)
      (λ b e on whole. rule_on.ids w s h led ruled (footing_in b) on whole (base_root b e) (table_found b e) (table_same b e) (table_ruled b e) (table_pairs b e))

  pub stamps_rule : list_all (λ e. nat_le e.pointer.stamp h.now) (all_items (volume_seen w s h)) ≡ true
  stamps_rule = by_base
      (λ none. rule.stamps w s h led ruled none)
      (λ b e on whole. rule_on.stamps w s h led ruled (footing_in b) on whole (base_root b e) (table_found b e) (table_same b e) (table_ruled b e))

  pub split_rule : list_all (λ (r : Root). not (is_splitting h.base) || list_all (λ (e : Reached). not (is_known e.item.pointer)
      || not (is_in_label e.item || (is_copied (volume_seen w s h) r e.item.pointer.vvbn || is_copied (volume_seen w s h) r e.item.holder.vvbn))) r.reached) (volume_seen w s h).roots ≡ true
  split_rule = by_base
      (λ none. rule.split w s h led ruled none split)
      (λ b e on whole. rule_on.split w s h led ruled (footing_in b) on whole (base_root b e) (table_found b e) (table_same b e) (table_ruled b e) split)
    where
      split : Root → Bool
      split r = list_all (λ (e : Reached). not (is_known e.item.pointer) || not (is_in_label e.item || (is_copied (volume_seen w s h) r e.item.pointer.vvbn || is_copied (volume_seen w s h) r e.item.holder.vvbn))) r.reached

  pub leaves_rule : list_all (λ (b : Based). not b.own) (volume_seen w s h).base ≡ true
  leaves_rule = by_base
      (λ none. rule.leaves w s h led ruled none)
      (λ b e on whole. rule_on.leaves w s h led ruled (footing_in b) on whole (base_root b e) (table_found b e) (table_same b e) (table_ruled b e)
      (base_leaves disk pool states housed.parents footed x inside there others b e))

  pub rests_rule : list_all (λ (r : Root). is_none h.base || list_all (λ (e : Reached). e.own || is_based (volume_seen w s h) e.item.pointer.vvbn) r.reached) (volume_seen w s h).roots ≡ true
  rests_rule = by_base
      (λ none. rule.rests w s h led ruled none (λ r. list_all (λ (e : Reached). e.own || is_based (volume_seen w s h) e.item.pointer.vvbn) r.reached))
      (λ b e on whole. rule_on.rests w s h led ruled (footing_in b) on whole (base_root b e) (table_found b e) (table_same b e) (table_ruled b e) (table_rests b e))

  -- ---- the volume in the view

  -- the view tells its table
  pub table_seen : active_in w no_trees s ≡ table_for disk pool x
  table_seen = standing_table disk pool states x there housed.parents whole span one.stands no_files

  -- which has the numbers of its files in memory,
  pub numbers_seen : AreNumbersSeen w s (Some x)
  numbers_seen = subst (AreNumbersIf x.numbers) (sym table_seen) one.stands.numbers

  -- and it as it is,
  pub state_is : IsState w no_trees s x
  state_is = standing_state disk pool states x there housed.parents whole span one.stands no_files based one.ready.labelled

  -- with what it reaches,
  pub reach_is : ReachesAll w s x
  reach_is = standing_reach disk pool states x there housed.parents whole span one.stands no_files one.led

  -- and with its name
  pub named_is : named_held disk pool (Some x) ≡ named_with w (active_at w) s (Some h)
  named_is =
      let volume : volume_with w s h (active_at w s) ≡ volume_for disk pool x = ap (volume_with w s h) table_is ∙ volume_is in
      ap (λ (v : Volume). (x.name, v) ∷ []) (sym volume)

-- ---- a volume that a sound view tells

module _ (pool : Pool) (states : States) (i : Image) (long : length states ≡ 64) (tables : AreTables (seen (view_over pool states i))) (s : ℕ) (x : VolumeState) (there : state_at states s ≡ Some x) (state : IsState (view_over pool states i) no_trees s x) where
  abbrev seen_by : View
  seen_by = view_over pool states i

  abbrev head : Head
  head = head_in x

  small : s < 64
  small = is_inside states s x long there

  stands : seen_by.head s ≡ Some head
  stands = head_there pool states i s x there

  -- its span is wide enough for all that it may grow to beside what its base has, where the view tells this
  seen_wide : (base : Option ModelBase) → base_from seen_by head.base ≡ base → x.most + (set.len (base_ids base) + 256) ≤ x.span
  unfolding has_wide_spans volume_seen volume_with
  seen_wide base told = subst (λ (b : Option ModelBase). x.most + (set.len (base_ids b) + 256) ≤ x.span) told
      (at_least (x.most + (set.len (base_ids (volume_told seen_by s head).base) + 256)) x.span
      (of_volume seen_by (λ s y. nat_le (y.head.most + (set.len (base_ids y.volume.base) + 256)) y.head.span) s head tables.spans small stands))

  -- and it uses at most its size
  seen_within : x.ledger.charge ≤ x.size
  unfolding has_use_in_size volume_seen
  seen_within =
      let fits = at_least (use_of (volume_told seen_by s head)) x.size (of_volume seen_by (λ s y. nat_le (use_of y.volume) y.head.size) s head tables.sizes small stands) in
      let table : active_in seen_by no_trees s ≡ table_at seen_by s head.active = ap (λ (o : Option Head). option_map_or (λ h. table_at seen_by s h.active) o empty_table) stands in
      let charged : x.ledger.charge ≡ charge (volume_told seen_by s head) = state.ledger.charged ∙ ap (λ (t : Table). charge (volume_with seen_by s head t)) table in
      omega (arith, fits, charged)

  -- So it is what it is between points, where the view tells its base, calls can be made on it and it stands for one of the machine.
  seen_held : (disk : Shown) → base_from seen_by head.base ≡ base_by (blocks_in disk pool x) x.base → IsReady disk pool x → IsStanding disk pool x → IsLedTo disk pool x → IsStoredWell disk pool x → IsHeldIn disk pool s x
  seen_held disk told ready stand leads stored_so = record { slot = state.labelled.slot_is; ready = ready; stands = stand; led = leads; well = stored_so; wide = seen_wide (base_by (blocks_in disk pool x) x.base) told; within = seen_within }

-- ---- all that a sound view tells

module _ (pool : Pool) (states : States) (i : Image) (long : length states ≡ 64) (tables : AreTables (seen (view_over pool states i))) (are : AreStates (view_over pool states i) no_trees states) where
  -- so is each of them,
  pub each_held : (disk : Shown) (s : ℕ) → IfSome (state_at states s) (λ x. base_from (view_over pool states i) (head_in x).base ≡ base_by (blocks_in disk pool x) x.base) → IfSome (state_at states s) (IsReady disk pool) → IfSome (state_at states s) (IsStanding disk pool) → IfSome (state_at states s) (IsLedTo disk pool) → IfSome (state_at states s) (IsStoredWell disk pool)
      → IfSome (state_at states s) (IsHeldIn disk pool s)
  each_held disk s = by (state_at states s) refl
    where
      by : (o : Option VolumeState) → state_at states s ≡ o → IfSome o (λ x. base_from (view_over pool states i) (head_in x).base ≡ base_by (blocks_in disk pool x) x.base) → IfSome o (IsReady disk pool) → IfSome o (IsStanding disk pool) → IfSome o (IsLedTo disk pool) → IfSome o (IsStoredWell disk pool) → IfSome o (IsHeldIn disk pool s)
      by None there told a b c d = tt
      by (Some x) there told a b c d = seen_held pool states i long tables s x there (subst (λ (o : Option VolumeState). IfSome o (IsState (view_over pool states i) no_trees s)) there (are.each s)) disk told a b c d

  -- and what they commit fits
  pub commits_fit : sum_of states ≤ capacity pool.found.blocks
  unfolding has_commits_in_capacity seen view_over
  commits_fit =
      let fits = at_least (commits_seen (seen (view_over pool states i))) (capacity pool.found.blocks) tables.commits in
      let same = commits_in_view pool states i long are in
      omega (arith, fits, same)
