-- What is known of each pointer that the table of a root of a volume reaches, of which nothing is in memory and which lies whole in its slot.
use Rattle.std.proofs.Common.{◌≡◌, ◌≢◌, ◌⊎◌, ℕ, ◌+◌, ◌<◌, ◌≤◌, ◌/◌, ◌%◌, Bool, true, false, not, ◌||◌, List, Option, Some, None, Ok, is_some, get_or, inl, inr, refl, sym, ap, subst, ◌∙◌, arith, ⊎_elim}
use Rattle.std.specs.Prelude.{nat_lt, ◌==◌, if◌then◌else◌, cond, min}
use Rattle.std.specs.List.{list_all}
use Rattle.std.specs.Option.{option_map, option_map_or}
use Rattle.std.specs.FinMap as fin
use Rattle.std.proofs.lemmas.Bool.{cases_eq}
use Rattle.std.proofs.lemmas.Bool.Decides.{nat_tests}
use Rattle.fv_disk.specs.Shown.{Shown as Disk}
use Rattle.fv_codec.specs.declared.inode.InodeRecord.{InodeRecord}
use Rattle.fv_codec.specs.declared.pointer.Pointer.{Pointer}
use Rattle.fv_codec.specs.Blocks.{greatest_word, inodes_at, node_at}
use Rattle.fv_codec.specs.Fields.{in_range, verdict_of}
use Rattle.fv_model.specs.Machines.{first_block}
use Rattle.fv_model.specs.Numbers.{most_files}
use Rattle.fv_model.specs.Trees.{fan}
use Rattle.fv_laws.specs.WellFormed.{IsTree, IsWellTable}
use Rattle.fv_tables.specs.Reached.{Item, holder_of, item_of, items}
use Rattle.fv_tables.specs.Spelled.{Rooted as Tree, Under, hole, pointer_at, position, stored}
use Rattle.fv_tables.specs.Told.{Standing, file_at, file_in, file_told, records_each, standing_at, table_told, tree_of, tree_told}
use Rattle.fv_tables.specs.Kept.{AgreeOnTable}
use Rattle.fv_tables.proofs.Items.{from_trees, kept_items}
use Rattle.fv_tables.proofs.Pointers.{none_under}
use Rattle.fv_tables.proofs.TablePlaces.{pointer_in}
use Rattle.fv_tables.proofs.Tables.{files_told, stamps_told}
use Rattle.fv_tree.specs.Beside.{unread}
use Rattle.fv_tree.specs.Flushing.{IsRight, NamesPosition, ReachesOnce, kind_for}
use Rattle.fv_tree.specs.Sources.{Use}
use Rattle.fv_tree.specs.Unknown.{LeadsUnknown}
use Rattle.fv_inode.specs.Files.{IsInodesOf}
use Rattle.fv_files.specs.Apart.{LeadsFrom, LeadsIn, stored_trees}
use Rattle.fv_files.specs.Sharing.{owner_in}
use Rattle.fv_files.specs.Tables.{AreReached, IsStoredUnder}
use Rattle.fv_files.proofs.Stored.{inodes_under, known_under, leads_under, node_under}
use Rattle.fv_image.specs.Chains.{place, under}
use Rattle.fv_image.specs.ReachRules.{inodes_are, is_of_position, node_is, shape_for}
use Rattle.fv_image.specs.BlockRules.{is_fine}
use Rattle.fv_image.specs.Views.{Head, Placed, View}
use Rattle.fv_image.specs.Volumes.{standing_of}
use Rattle.fv_image.proofs.WellTrees.{in_node}
use Rattle.fv_container.specs.declared.entry.Entry.{Entry}
use Rattle.fv_container.specs.Chains.{Slots, parent_at}
use Rattle.fv_volmap.specs.Slots.{IsVolume, Volume as Maps, has, slot_at}
use Rattle.fv_pool.specs.declared.pool.Pool.{Pool}
use Rattle.fv_pool.specs.declared.rooted.Rooted.{Rooted}
use Rattle.fv_volume.specs.declared.state.VolumeState.{VolumeState}
use Rattle.fv_pool.specs.BlocksOver.{held_entry}
use Rattle.fv_pool.specs.Keeping.{seen}
use Rattle.fv_pool.specs.Lending.{use_of}
use Rattle.fv_volume.specs.OneVolume.{blocks_in, uses_in, RootStands}
use Rattle.fv_volume.specs.States.{States, head_in, parent_in, state_at, table_in, view_over}
use Rattle.fv_pool.proofs.Shows.{slot_below}
use Rattle.fv_volumes.proofs.Agreed.{place_held, root_agrees}
use Rattle.fv_volumes.proofs.Holders.{held_unknown, root_unknown, top_of, IsHeldUnknown}
use Rattle.fv_volume.proofs.KeptStamps.{stamp_some}
use Rattle.fv_volume.proofs.Ruled.{AreRuled, IsRuled, owner_number}

-- ---- what a block says

range_itself : (a : ℕ) → in_range a a a ≡ Ok tt
range_itself a = let test : nat_lt a a ≡ false = grind (arith, nat_tests) in rw test refl

some_same : (a b : List ℕ) → ◌≡◌ {A = Option (List ℕ)} (Some a) (Some b) → a ≡ b
some_same a b e = cc

used_in : (map : Maps) (slots : Slots) (slot k v : ℕ) → is_some (cond (has v (slot_at map k)) (Some (use_of (held_entry map slots slot v))) None) ≡ true → has v (slot_at map k) ≡ true
used_in map slots slot k v some = from (has v (slot_at map k)) some
  where
    from : (t : Bool) → is_some (cond t (Some (use_of (held_entry map slots slot v))) None) ≡ true → t ≡ true
    from true some = refl
    from false some = some

kind_least : (owner level : ℕ) → 1 ≤ kind_for owner level
kind_least owner level = by (owner == greatest_word)
  where
    by : (b : Bool) → 1 ≤ (if b then 5 + min level 2 else 1 + level)
    by true = omega arith
    by false = omega arith

right_some : (kind : ℕ) (p : Pointer) (o : Option Use) → IsRight kind p o → is_some o ≡ true
right_some kind p None right = absurd right
right_some kind p (Some x) right = refl

-- what is known of the block that a pointer of a tree leads to, where `all` says whether every place is known
record IsStoredAt (all : Bool) (t : Tree) (level place : ℕ) : Type 0 where
  known : all ≡ true → (pointer_at t level place).pvbn ≢ 0
  node : 1 ≤ level → NamesPosition t level place
  inodes : (block : List ℕ) → level ≡ 0 → t.owner ≡ greatest_word → t.under (pointer_at t level place).vvbn ≡ Some block → IsInodesOf place block

module _ (all : Bool) (top : Pointer) (t : Tree) (block : List ℕ) where
  high : (level : ℕ) → (level == 0) ≡ false → 1 ≤ level
  high level test = grind (arith, nat_tests, test)

  low_level : (level : ℕ) → (level == 0) ≡ true → level ≡ 0
  low_level level test = grind (arith, nat_tests, test)

  shape_at : (level index : ℕ) → IsStoredAt all t level index → t.under (pointer_at t level index).vvbn ≡ Some block → is_fine (shape_for (item_of top t level index) block) ≡ true
  shape_at level index well lies = by (level == 0) refl (t.owner == greatest_word) refl
    where
      by : (z : Bool) → (level == 0) ≡ z → (b : Bool) → (t.owner == greatest_word) ≡ b → is_fine (if z then (if b then verdict_of (inodes_at block) else Ok tt) else verdict_of (node_at block)) ≡ true
      by false level_is b e =
          let node = well.node (high level level_is) in
          let same : node.block ≡ block = some_same node.block block (sym node.lies ∙ lies) in
          ap (λ (b : List ℕ). is_fine (verdict_of (node_at b))) (sym same) ∙ ap (λ r. is_fine (verdict_of r)) node.spells
      by true level_is false e = refl
      by true level_is true e =
          ap (λ r. is_fine (verdict_of r)) (well.inodes block (low_level level level_is) (grind (arith, nat_tests, e)) lies).spells

  position_at : (level index : ℕ) → IsStoredAt all t level index → t.under (pointer_at t level index).vvbn ≡ Some block → is_of_position (item_of top t level index) block ≡ true
  position_at level index well lies = by (level == 0) refl (t.owner == greatest_word) refl
    where
      fine : (children : List Pointer) → is_fine (position t.owner level index (record { level = level; owner = t.owner; place = index; children = children })) ≡ true
      fine children = rw (range_itself level, range_itself t.owner, range_itself index) refl

      by : (z : Bool) → (level == 0) ≡ z → (b : Bool) → (t.owner == greatest_word) ≡ b → (if z then (not b || inodes_are (item_of top t level index) (inodes_at block)) else node_is (item_of top t level index) (node_at block)) ≡ true
      by false level_is b e =
          let node = well.node (high level level_is) in
          let same : node.block ≡ block = some_same node.block block (sym node.lies ∙ lies) in
          ap (λ (b : List ℕ). node_is (item_of top t level index) (node_at b)) (sym same) ∙ ap (node_is (item_of top t level index)) node.spells ∙ fine node.children
      by true level_is false e = refl
      by true level_is true e =
          ap (inodes_are (item_of top t level index)) (well.inodes block (low_level level level_is) (grind (arith, nat_tests, e)) lies).spells ∙ ap is_fine (range_itself index)

-- ---- stamps

module _ (now start : ℕ) (cells : List ℕ) (t : Tree) (is : IsTree now start cells (tree_told t)) where
  stamp_at : (level index : ℕ) → (pointer_at t level index).stamp ≢ 0 → (pointer_at t level index).stamp ≤ now
  stamp_at level index some = is.stamps (level, index) (pointer_at t level index).stamp (stamps_told t level index ∙ stamp_some (pointer_at t level index) some)

  above : (level index : ℕ) → level < t.levels → (pointer_at t level index).stamp ≢ 0 → (pointer_at t (level + 1) (index / fan)).stamp ≢ 0
  above level index low some none = some (ap (λ (p : Pointer). p.stamp) (in_node t level index low)
      ∙ ap (λ (xs : List Pointer). (get_or xs (index % fan) hole).stamp) (none_under t (level + 1) (index / fan) (pointer_at t (level + 1) (index / fan)) none))

  mark_at : (top : Pointer) (level index : ℕ) → (pointer_at t level index).stamp ≢ 0 → level < t.levels → (pointer_at t level index).stamp ≤ (item_of top t level index).holder.stamp
  mark_at top level index some low =
      let test : nat_lt level t.levels ≡ true = grind (arith, nat_tests, low) in
      let over = above level index low some in
      let rises = is.rises level index (pointer_at t level index).stamp (pointer_at t (level + 1) (index / fan)).stamp (stamps_told t level index ∙ stamp_some (pointer_at t level index) some)
      (stamps_told t (level + 1) (index / fan) ∙ stamp_some (pointer_at t (level + 1) (index / fan)) over) in
      subst (λ (b : Bool). (pointer_at t level index).stamp ≤ (if b then pointer_at t (level + 1) (index / fan) else top).stamp) (sym test) rises

-- ---- the table of one root

-- the pointer of each place of each tree
abbrev pub led_by : Under → Rooted → Option ℕ → ℕ → ℕ → Pointer
led_by blocks root None level index = pointer_at (stored blocks greatest_word root.levels root.root) level index
led_by blocks root (Some n) level index = option_map_or (λ (r : InodeRecord). pointer_at (stored blocks n r.levels r.root) level index) (file_at (stored blocks greatest_word root.levels root.root) n) hole

pub led_place : (blocks : Under) (root : Rooted) (a : Option ℕ) (level index : ℕ) → pointer_in blocks root.levels root.root (owner_in a) level index ≡ led_by blocks root a level index
led_place blocks root None level index = refl
led_place blocks root (Some n) level index = refl

module _ (disk : Disk) (pool : Pool) (states : States) (x : VolumeState) (k : ℕ) (root : Rooted) (is : RootStands disk pool x k root) (there : state_at states x.slot ≡ Some x) (parents : (s : ℕ) → parent_at pool.containers s ≡ parent_in (state_at states s)) (whole : IsVolume x.map) (span : x.map.span ≡ x.span)
    (within : (v : ℕ) (e : Entry) → held_entry x.map pool.containers x.slot v ≡ Some e → (first_block pool.found.blocks ≤ e.pvbn) × (e.pvbn < pool.found.blocks)) where
  -- the blocks of blocks slot, and what is in use there
  abbrev blocks : Under
  blocks = blocks_in disk pool x k

  abbrev uses : ℕ → Option Use
  uses = uses_in pool x k

  abbrev y : Standing
  y = standing_at blocks root.levels root.root

  abbrev inodes : Tree
  inodes = stored blocks greatest_word root.levels root.root

  abbrev file_tree : ℕ → InodeRecord → Tree
  file_tree n r = stored blocks n r.levels r.root

  abbrev places : Option ℕ → ℕ → ℕ → Pointer
  places = led_by blocks root

  abbrev s : ℕ
  s = x.slot

  abbrev h : Head
  h = head_in x

  abbrev w : View
  w = view_over pool states disk.reads

  told_table : IsWellTable x.now (table_told y)
  told_table = is.table

  reached : AreReached blocks uses root.levels root.root
  reached = is.trees

  well_stored : IsStoredUnder x.known blocks root.levels root.root
  well_stored = is.well

  blocks_is : w.blocks ≡ pool.found.blocks
  unfolding view_over
  blocks_is = refl

  -- what a place leads to
  record IsPlace (kind : ℕ) (p : Pointer) : Type 0 where
    low : p.vvbn < x.span
    entry : Entry
    stands : held_entry x.map pool.containers s p.vvbn ≡ Some entry
    lies : place w s p.vvbn ≡ Some (record { pvbn = entry.pvbn; kind = entry.kind; block = seen pool.kept disk.reads entry.pvbn })
    block : blocks p.vvbn ≡ Some (seen pool.kept disk.reads entry.pvbn)
    right : IsRight kind p (Some (use_of (Some entry)))

  place_at : (kind : ℕ) (p : Pointer) → 1 ≤ kind → IsRight kind p (uses p.vvbn) → is_some (blocks p.vvbn) ≡ true → under w s p.vvbn ≡ blocks p.vvbn → IsPlace kind p
  unfolding under
  place_at kind p least right held same = by (held_entry x.map pool.containers s p.vvbn) refl (subst (IsRight kind p) (ap (λ (t : Bool). cond t (Some (use_of (held_entry x.map pool.containers s p.vvbn))) None) member) right)
    where
      member : has p.vvbn (slot_at x.map k) ≡ true
      member = used_in x.map pool.containers s k p.vvbn (right_some kind p (uses p.vvbn) right)

      by : (o : Option Entry) → held_entry x.map pool.containers s p.vvbn ≡ o → IsRight kind p (Some (use_of (held_entry x.map pool.containers s p.vvbn))) → IsPlace kind p
      by None e right = let zero_kind : 0 ≡ kind = sym (ap (λ (o : Option Entry). (use_of o).kind) e) ∙ right.1 in absurd (omega (arith, least, zero_kind))
      by (Some e) at right =
          let lies : place w s p.vvbn ≡ Some (record { pvbn = e.pvbn; kind = e.kind; block = seen pool.kept disk.reads e.pvbn }) = place_held disk pool states parents x there whole span p.vvbn e at in
          record {
            low = (let below = slot_below x.map whole k p.vvbn member in omega (arith, below, span));
            entry = e;
            stands = at;
            lies = lies;
            block = sym same ∙ ap (option_map (λ (q : Placed). q.block)) lies;
            right = subst (λ (o : Option Entry). IsRight kind p (Some (use_of o))) at right;
          }

  agreed : AgreeOnTable blocks (under w s) root.levels root.root
  agreed = root_agrees disk pool states parents x there whole span k root is.trees

  inode_tree : (cells : List ℕ) × IsTree x.now 0 cells (tree_told inodes)
  unfolding table_told
  inode_tree = (_, told_table.inode)

  file_there : (n : ℕ) (r : InodeRecord) → file_at inodes n ≡ Some r → fin.get (table_told y).files n ≡ Some (file_told (file_tree n r) r)
  unfolding file_in
  file_there n r found = files_told y n ∙ ap (λ (o : Option InodeRecord). option_map (λ r. file_told (tree_of y n r) r) o) found

  file_is_tree : (n : ℕ) (r : InodeRecord) → file_at inodes n ≡ Some r → (start : ℕ) × ((cells : List ℕ) × IsTree x.now start cells (tree_told (file_tree n r)))
  unfolding file_told
  file_is_tree n r found = (_, (_, (told_table.files n (file_told (file_tree n r) r) (file_there n r found)).tree))

  -- what is known of a place of a tree
  ruled : (from : Option ℕ) (top : Pointer) (t : Tree) → t.owner ≡ owner_number from → t.under ≡ blocks → ((level index : ℕ) → places from level index ≡ pointer_at t level index) → ReachesOnce uses t
      → ((level index : ℕ) → (pointer_at t level index).stamp ≢ 0 → under w s (pointer_at t level index).vvbn ≡ blocks (pointer_at t level index).vvbn)
      → ((level index : ℕ) → (pointer_at t level index).stamp ≢ 0 → IsStoredAt x.known t level index)
      → ((level index : ℕ) → (pointer_at t level index).stamp ≢ 0 → (pointer_at t level index).pvbn ≡ 0 → IsHeldUnknown (holder_of top t level index)) → (start : ℕ) (cells : List ℕ) → IsTree x.now start cells (tree_told t)
      → (level index : ℕ) → (pointer_at t level index).stamp ≢ 0 → IsRuled w s h places (item_of top t level index)
  ruled from top t owner over led once seen_alike well held start cells tree level index some =
      let p = pointer_at t level index in
      let stored_at = well level index some in
      let one = place_at (kind_for t.owner level) p (kind_least t.owner level) (once.used level index some) (subst (λ (u : Under). is_some (u p.vvbn) ≡ true) over (once.held level index some)) (seen_alike level index some) in
      let lies : t.under p.vvbn ≡ Some (seen pool.kept disk.reads one.entry.pvbn) = ap (λ (u : Under). u p.vvbn) over ∙ one.block in
      let allocatable = within p.vvbn one.entry one.stands in
      record {
        from = from;
        owner = owner;
        stands = sym (led level index);
        some = some;
        low = one.low;
        at = record { pvbn = one.entry.pvbn; kind = one.entry.kind; block = seen pool.kept disk.reads one.entry.pvbn };
        lies = one.lies;
        kind = one.right.1;
        known = stored_at.known;
        unknown = held level index some;
        hint = one.right.0;
        least = subst (λ (n : ℕ). first_block n ≤ one.entry.pvbn) (sym blocks_is) allocatable.0;
        greatest = subst (λ (n : ℕ). one.entry.pvbn < n) (sym blocks_is) allocatable.1;
        shape = shape_at x.known top t (seen pool.kept disk.reads one.entry.pvbn) level index stored_at lies;
        position = position_at x.known top t (seen pool.kept disk.reads one.entry.pvbn) level index stored_at lies;
        stamp = stamp_at x.now start cells t tree level index some;
        mark = mark_at x.now start cells t tree top level index some;
      }

  inode_well : (level index : ℕ) → (pointer_at inodes level index).stamp ≢ 0 → IsStoredAt x.known inodes level index
  inode_well level index some = record {
    known = λ all. known_under x.known blocks root.levels root.root well_stored None inodes refl all level index some;
    node = λ low. node_under x.known blocks root.levels root.root well_stored None inodes refl level index low some;
    inodes = λ block zero owner lies. inodes_under x.known blocks root.levels root.root well_stored index block
        (subst (λ (l : ℕ). (pointer_at inodes l index).stamp ≢ 0) zero some) (subst (λ (l : ℕ). inodes.under (pointer_at inodes l index).vvbn ≡ Some block) zero lies);
  }

  file_well : (n : ℕ) (r : InodeRecord) → file_at inodes n ≡ Some r → (level index : ℕ) → (pointer_at (file_tree n r) level index).stamp ≢ 0 → IsStoredAt x.known (file_tree n r) level index
  file_well n r found level index some =
      let is : stored_trees blocks root.levels root.root (Some n) ≡ Some (unread (file_tree n r)) = ap (option_map (λ r. unread (file_tree n r))) found in
      record {
        known = λ all. known_under x.known blocks root.levels root.root well_stored (Some n) (file_tree n r) is all level index some;
        node = λ low. node_under x.known blocks root.levels root.root well_stored (Some n) (file_tree n r) is level index low some;
        inodes = λ block zero owner lies. (let few = told_table.numbers n (file_told (file_tree n r) r) (file_there n r found) in absurd (omega (arith, few, owner)));
      }

  -- what leads to the block in which an unknown pointer stands
  inode_leads : LeadsUnknown (unread inodes)
  inode_leads = leads_under x.known blocks root.levels root.root well_stored None inodes refl

  inode_held : (level index : ℕ) → (pointer_at inodes level index).stamp ≢ 0 → (pointer_at inodes level index).pvbn ≡ 0 → IsHeldUnknown (holder_of hole inodes level index)
  inode_held = held_unknown hole inodes inode_leads (λ some none. inl refl)

  file_held : (n : ℕ) (r : InodeRecord) → file_at inodes n ≡ Some r → (level index : ℕ) → (pointer_at (file_tree n r) level index).stamp ≢ 0 → (pointer_at (file_tree n r) level index).pvbn ≡ 0
      → IsHeldUnknown (holder_of (top_of blocks root.levels root.root n) (file_tree n r) level index)
  file_held n r found =
      let is : stored_trees blocks root.levels root.root (Some n) ≡ Some (unread (file_tree n r)) = ap (option_map (λ r. unread (file_tree n r))) found in
      held_unknown (top_of blocks root.levels root.root n) (file_tree n r) (leads_under x.known blocks root.levels root.root well_stored (Some n) (file_tree n r) is)
      (λ some none. inr (root_unknown blocks root.levels root.root inode_leads n r found some none))

  led_file : (n : ℕ) (r : InodeRecord) → file_at inodes n ≡ Some r → (level index : ℕ) → places (Some n) level index ≡ pointer_at (file_tree n r) level index
  led_file n r found level index = ap (λ (o : Option InodeRecord). option_map_or (λ r. pointer_at (file_tree n r) level index) o hole) found

  each_ruled : (test : Item → Bool) → ((e : Item) → IsRuled w s h places e → test e ≡ true) → list_all test (items (standing_of w s (table_in root))) ≡ true
  each_ruled test f = subst (λ (es : List Item). list_all test es ≡ true) (sym (kept_items blocks (under w s) root.levels root.root agreed))
      (from_trees test y
      (λ level index some. f _ (ruled None hole inodes refl refl (λ level index. refl) reached.inode agreed.inode inode_well inode_held 0 inode_tree.0 inode_tree.1 level index some))
      (λ n r found level index some. let tree = file_is_tree n r found in
      f _ (ruled (Some n) (pointer_at inodes 0 (n / records_each)) (file_tree n r) refl refl (led_file n r found) (reached.files n r found) (agreed.files n r found) (file_well n r found) (file_held n r found) tree.0 tree.1.0 tree.1.1 level index some)))

  -- a place with a pointer is one of a tree
  leads : (a : Option ℕ) (level index : ℕ) → (places a level index).stamp ≢ 0 → LeadsFrom (stored_trees blocks root.levels root.root) a (places a level index).vvbn
  leads None level index some = record { level = level; place = index; leads = record { some = some; placed = refl; vvbn = refl } }
  leads (Some n) level index some = by (file_at inodes n) refl
    where
      by : (o : Option InodeRecord) → file_at inodes n ≡ o → LeadsFrom (stored_trees blocks root.levels root.root) (Some n) (places (Some n) level index).vvbn
      by None e = absurd (some (ap (λ (o : Option InodeRecord). (option_map_or (λ r. pointer_at (file_tree n r) level index) o hole).stamp) e))
      by (Some r) e =
          let at = led_file n r e level index in
          subst (λ (o : Option InodeRecord). LeadsIn (option_map (λ r. unread (file_tree n r)) o) (places (Some n) level index).vvbn) (sym e)
          (record { level = level; place = index; leads = record { some = subst (λ (p : Pointer). p.stamp ≢ 0) at some; placed = refl; vvbn = ap (λ (p : Pointer). p.vvbn) (sym at) } })

  once_in : (a : Option ℕ) (level index k j : ℕ) → (places a level index).stamp ≢ 0 → (places a k j).stamp ≢ 0 → (places a level index).vvbn ≡ (places a k j).vvbn → (level ≡ k) × (index ≡ j)
  once_in None level index k j first second alike = reached.inode.once level index k j first second alike
  once_in (Some n) level index k j first second alike = by (file_at inodes n) refl
    where
      by : (o : Option InodeRecord) → file_at inodes n ≡ o → (level ≡ k) × (index ≡ j)
      by None e = absurd (first (ap (λ (o : Option InodeRecord). (option_map_or (λ r. pointer_at (file_tree n r) level index) o hole).stamp) e))
      by (Some r) e =
          let one = led_file n r e level index in
          let two = led_file n r e k j in
          (reached.files n r e).once level index k j (subst (λ (p : Pointer). p.stamp ≢ 0) one first) (subst (λ (p : Pointer). p.stamp ≢ 0) two second)
          (ap (λ (p : Pointer). p.vvbn) (sym one) ∙ alike ∙ ap (λ (p : Pointer). p.vvbn) two)

  same_tree : (a b : Option ℕ) → (a ≡ b) ⊎ (a ≢ b)
  same_tree None None = inl refl
  same_tree None (Some n) = inr (λ e. cc)
  same_tree (Some n) None = inr (λ e. cc)
  same_tree (Some n) (Some k) = ⊎_elim (λ (e : n ≡ k). inl (ap (λ (m : ℕ). Some m) e)) (λ (differ : n ≢ k). inr (λ e. let same : n ≡ k = cc in differ same)) (cases_eq n k)

  few_files : (n level index : ℕ) → (places (Some n) level index).stamp ≢ 0 → n < most_files
  few_files n level index some = by (file_at inodes n) refl
    where
      by : (o : Option InodeRecord) → file_at inodes n ≡ o → n < most_files
      by None e = absurd (some (ap (λ (o : Option InodeRecord). (option_map_or (λ r. pointer_at (file_tree n r) level index) o hole).stamp) e))
      by (Some r) e = told_table.numbers n (file_told (file_tree n r) r) (file_there n r e)

  -- So the rules have what they ask for.
  pub are_ruled : AreRuled w s h (table_in root) places
  are_ruled = record {
    each = each_ruled;
    once = λ a b level index k j first second alike. ⊎_elim
        (λ (e : a ≡ b).
        let at : places a k j ≡ places b k j = ap (λ (c : Option ℕ). places c k j) e in
        (e, once_in a level index k j first (subst (λ (p : Pointer). p.stamp ≢ 0) (sym at) second) (alike ∙ ap (λ (p : Pointer). p.vvbn) (sym at))))
        (λ (differ : a ≢ b). absurd (reached.apart a b (places a level index).vvbn differ (leads a level index first) (subst (λ (v : ℕ). LeadsFrom (stored_trees blocks root.levels root.root) b v) (sym alike) (leads b k j second))))
        (same_tree a b);
    numbers = λ n level index some same. (let few = few_files n level index some in absurd (omega (arith, few, same)));
  }
