-- What each root of a volume leads to is stored well, where nothing of the volume is in memory and the session's view keeps the rules of soundness.
use Rattle.std.proofs.Common.{◌≡◌, ◌≢◌, ℕ, ◌≤◌, Bool, true, false, not, ◌&&◌, ◌||◌, List, Option, Some, None, refl, sym, ap, subst, ◌∙◌, arith}
use Rattle.std.specs.Prelude.{Result, Ok, Err, nat_lt, ◌==◌, if◌then◌else◌}
use Rattle.std.specs.List.{list_all}
use Rattle.std.specs.Option.{option_map, option_map_or}
use Rattle.std.proofs.lemmas.Bool.Decides.{nat_tests}
use Rattle.fv_disk.specs.Shown.{Shown as Disk}
use Rattle.fv_codec.specs.declared.inode.InodeBlock.{InodeBlock}
use Rattle.fv_codec.specs.declared.inode.InodeRecord.{InodeRecord}
use Rattle.fv_codec.specs.declared.node.Node.{Node}
use Rattle.fv_codec.specs.declared.pointer.Pointer.{Pointer}
use Rattle.fv_codec.specs.declared.shape.Shape.{Shape}
use Rattle.fv_codec.specs.Blocks.{greatest_word, inodes_at, node_at}
use Rattle.fv_codec.specs.Fields.{Verdict, ◌then◌, in_range, verdict_of}
use Rattle.fv_model.specs.Places.{Owner, InodeFile, OfFile}
use Rattle.fv_laws.proofs.Lists.{In}
use Rattle.fv_tables.specs.Reached.{Item, items}
use Rattle.fv_tables.specs.Spelled.{Rooted as Tree, block_at, hole, pointer_at, stored}
use Rattle.fv_tables.specs.Told.{file_at, standing_at}
use Rattle.fv_tables.proofs.Items.{kept_items}
use Rattle.fv_tree.specs.Beside.{unread}
use Rattle.fv_tree.specs.Flushing.{IsNodeOf}
use Rattle.fv_inode.specs.Files.{IsInodesOf, NamesIndexes}
use Rattle.fv_files.specs.Apart.{AreStoredWell, StoredIn, stored_trees}
use Rattle.fv_image.specs.Chains.{place, under}
use Rattle.fv_image.specs.HintRules.{has_known_places, is_unknown, leads_unknown}
use Rattle.fv_image.specs.ReachRules.{block_is, has_reached_positions, has_reached_shapes, inodes_are, is_of_position, node_is, shape_for}
use Rattle.fv_image.specs.Seen.{roots_of, volume_seen}
use Rattle.fv_image.specs.BlockRules.{is_fine}
use Rattle.fv_image.specs.Views.{Placed, Rooted, View}
use Rattle.fv_image.specs.Volumes.{standing_of}
use Rattle.fv_tables.proofs.TablePlaces.{at_place, number}
use Rattle.fv_image.proofs.RootTables.{led_entry, of_root}
use Rattle.fv_image.proofs.SameSeen.{of_volume}
use Rattle.fv_pool.specs.declared.pool.Pool.{Pool}
use Rattle.fv_volume.specs.declared.state.VolumeState.{VolumeState}
use Rattle.fv_volume.specs.States.{States, head_in, view_over}
use Rattle.fv_volumes.proofs.Holders.{file_leads, inode_leads, is_led}
use Rattle.fv_volumes.proofs.LoadedTables.{StandsInView, agree, at, blocks, few, here, led, led_is, low_at, member_at, same_block, some_at}

-- ---- what a block says of its position

some_same : (a b : List ℕ) → ◌≡◌ {A = Option (List ℕ)} (Some a) (Some b) → a ≡ b
some_same a b e = cc

fine_then : (v u : Verdict) → is_fine (v then u) ≡ true → (is_fine v ≡ true) × (is_fine u ≡ true)
fine_then (Ok done) u fine = (refl, fine)
fine_then (Err fault) u fine = let wrong : false ≡ true = fine in cc

in_place : (a n : ℕ) → is_fine (in_range a a n) ≡ true → n ≡ a
in_place a n fine = by (nat_lt n a) refl (nat_lt a n) refl fine
  where
    by : (s : Bool) → nat_lt n a ≡ s → (t : Bool) → nat_lt a n ≡ t → is_fine (if s then Err (record { want = a; found = n }) else if t then Err (record { want = a; found = n }) else Ok tt) ≡ true → n ≡ a
    by true low t high fine = let wrong : false ≡ true = fine in cc
    by false low true high fine = let wrong : false ≡ true = fine in cc
    by false low false high fine = grind (arith, nat_tests, low, high)

module _ (e : Item) (block : List ℕ) (shape : is_fine (shape_for e block) ≡ true) (position_is : is_of_position e block ≡ true) where
  -- a node's
  named_node : (e.level == 0) ≡ false → IsNodeOf e.owner e.level e.place (Some block)
  named_node high =
      by (node_at block) refl
      (sym (ap (λ (b : Bool). is_fine (if b then (if e.owner == greatest_word then verdict_of (inodes_at block) else Ok tt) else verdict_of (node_at block))) high) ∙ shape)
      (sym (ap (λ (b : Bool). if b then (not (e.owner == greatest_word) || inodes_are e (inodes_at block)) else node_is e (node_at block)) high) ∙ position_is)
    where
      by : (r : Result Node Shape) → node_at block ≡ r → is_fine (verdict_of r) ≡ true → node_is e r ≡ true → IsNodeOf e.owner e.level e.place (Some block)
      by (Err fault) spells fine named = let wrong : false ≡ true = fine in cc
      by (Ok n) spells fine named =
          let first = fine_then (in_range e.level e.level n.level) _ named in
          let second = fine_then (in_range e.owner e.owner n.owner) _ first.1 in
          let level_is = in_place e.level n.level first.0 in
          let owner_is = in_place e.owner n.owner second.0 in
          let place_is = in_place e.place n.place second.1 in
          record { block = block; lies = refl; children = n.children; spells = spells ∙ (λ j. Ok (record { level = level_is j; owner = owner_is j; place = place_is j; children = n.children })) }

  -- and an inode block's
  named_inodes : (e.level == 0) ≡ true → (e.owner == greatest_word) ≡ true → IsInodesOf e.place block
  named_inodes low inode =
      by (inodes_at block) refl
      (sym (λ j. is_fine (if low j then (if inode j then verdict_of (inodes_at block) else Ok tt) else verdict_of (node_at block))) ∙ shape)
      (sym (λ j. if low j then (not (inode j) || inodes_are e (inodes_at block)) else node_is e (node_at block)) ∙ position_is)
    where
      by : (r : Result InodeBlock Shape) → inodes_at block ≡ r → is_fine (verdict_of r) ≡ true → inodes_are e r ≡ true → IsInodesOf e.place block
      by (Err fault) spells fine named = let wrong : false ≡ true = fine in cc
      by (Ok b) spells fine named =
          let place_is = in_place e.place b.index named in
          record { files = b.files; spells = spells ∙ (λ j. Ok (record { index = place_is j; files = b.files })) }

-- a pointer that isn't unknown, where it leads to a block
known_one : (p : Pointer) → not (is_unknown p) ≡ true → p.stamp ≢ 0 → p.pvbn ≢ 0
known_one p told some none =
    let first : (p.stamp == 0) ≡ false = grind (arith, nat_tests, some) in
    let second : (p.pvbn == 0) ≡ true = grind (arith, nat_tests, none) in
    let wrong : false ≡ true = sym (λ j. not (not (first j) && second j)) ∙ told in
    cc

-- ---- one root of a volume

module _ (disk : Disk) (pool : Pool) (states : States) (x : VolumeState) (is : StandsInView disk pool states x) (k : ℕ) (r : Rooted) (one : In {X = ℕ × Rooted} (k, r) (roots_of (head_in x))) where
  abbrev w : View
  w = view_over pool states disk.reads

  abbrev s : ℕ
  s = x.slot

  abbrev there : w.head s ≡ Some (head_in x)
  there = here disk pool states x is

  abbrev reached_items : List Item
  reached_items = items (standing_of w s r)

  all_shapes : list_all (λ e. block_is (λ block. is_fine (shape_for e block)) (place w s e.pointer.vvbn)) reached_items ≡ true
  unfolding has_reached_shapes
  all_shapes = of_root w s (head_in x) is.small there is.tables k r one (λ y r e. block_is (λ block. is_fine (shape_for e.item block)) e.at)
      (of_volume w (λ s y. list_all (λ r. list_all (λ e. block_is (λ block. is_fine (shape_for e.item block)) e.at) r.reached) y.roots) s (head_in x) is.tables.shapes is.small there)

  all_positions : list_all (λ e. block_is (is_of_position e) (place w s e.pointer.vvbn)) reached_items ≡ true
  unfolding has_reached_positions
  all_positions = of_root w s (head_in x) is.small there is.tables k r one (λ y r e. block_is (is_of_position e.item) e.at)
      (of_volume w (λ s y. list_all (λ r. list_all (λ e. block_is (is_of_position e.item) e.at) r.reached) y.roots) s (head_in x) is.tables.positions is.small there)

  all_led : list_all is_led reached_items ≡ true
  unfolding leads_unknown
  all_led = of_root w s (head_in x) is.small there is.tables k r one (λ y r e. is_led e.item)
      (of_volume w (λ s y. list_all (λ r. list_all (λ e. is_led e.item) r.reached) y.roots) s (head_in x) is.tables.unknown is.small there)

  all_known : list_all (λ e. not x.known || not (is_unknown e.pointer)) reached_items ≡ true
  unfolding has_known_places volume_seen
  all_known = of_root w s (head_in x) is.small there is.tables k r one (λ y r e. not y.head.known || not (is_unknown e.item.pointer))
      (of_volume w (λ s y. list_all (λ r. list_all (λ e. not y.head.known || not (is_unknown e.item.pointer)) r.reached) y.roots) s (head_in x) is.tables.known is.small there)

  module _ (o : Owner) (level index : ℕ) (some : (at disk pool states x is k r one o level index).stamp ≢ 0) where
    abbrev p : Pointer
    p = at disk pool states x is k r one o level index

    abbrev owner : ℕ
    owner = number (under w s) r.levels r.root o

    abbrev item : ℕ → Pointer → Item
    item levels holder = record { owner = owner; levels = levels; level = level; place = index; pointer = p; holder = holder }

    -- a test of all that is reached, at this place
    record Passes (test : Item → Bool) : Type 0 where
      levels : ℕ
      holder : Pointer
      passes : test (item levels holder) ≡ true

    passes_here : (test : Item → Bool) → list_all test reached_items ≡ true → Passes test
    passes_here test all =
        let stood = at_place (under w s) r.levels r.root test all o level index some in
        record {
          levels = stood.item.levels;
          holder = stood.item.holder;
          passes = subst (λ (e : Item). test e ≡ true)
              (λ j. record { owner = stood.owner j; levels = stood.item.levels; level = stood.level_is j; place = stood.place_is j; pointer = stood.pointer j; holder = stood.item.holder }) stood.passes;
        }

    -- the block that it leads to
    entry : (e : Placed) × (place w s p.vvbn ≡ Some e)
    entry = let led_to = led_entry w s (head_in x) is.small there is.tables k r one o level index some in (led_to.0, led_to.1.0)

    lies : place w s p.vvbn ≡ Some entry.0
    lies = entry.1

    block_lies : blocks disk pool states x is k r one p.vvbn ≡ Some entry.0.block
    unfolding under
    block_lies = same_block disk pool states x is k r one p.vvbn (low_at disk pool states x is k r one o level index some) (member_at disk pool states x is k r one o level index some)
        ∙ ap (option_map (λ (q : Placed). q.block)) lies

    node_here : 1 ≤ level → IsNodeOf owner level index (blocks disk pool states x is k r one p.vvbn)
    node_here low =
        let shape = passes_here (λ e. block_is (λ block. is_fine (shape_for e block)) (place w s e.pointer.vvbn)) all_shapes in
        let position_is = passes_here (λ e. block_is (is_of_position e) (place w s e.pointer.vvbn)) all_positions in
        let high : (level == 0) ≡ false = grind (arith, nat_tests, low) in
        subst (IsNodeOf owner level index) (sym block_lies)
        (named_node (item shape.levels shape.holder) entry.0.block
        (sym (ap (block_is (λ block. is_fine (shape_for (item shape.levels shape.holder) block))) lies) ∙ shape.passes)
        (sym (ap (block_is (is_of_position (item position_is.levels position_is.holder))) lies) ∙ position_is.passes)
        high)

    inodes_here : level ≡ 0 → owner ≡ greatest_word → (block : List ℕ) → blocks disk pool states x is k r one p.vvbn ≡ Some block → IsInodesOf index block
    inodes_here low inode block is_block =
        let shape = passes_here (λ e. block_is (λ block. is_fine (shape_for e block)) (place w s e.pointer.vvbn)) all_shapes in
        let position_is = passes_here (λ e. block_is (is_of_position e) (place w s e.pointer.vvbn)) all_positions in
        let first : (level == 0) ≡ true = grind (arith, nat_tests, low) in
        let second : (owner == greatest_word) ≡ true = grind (arith, nat_tests, inode) in
        subst (IsInodesOf index) (some_same entry.0.block block (sym block_lies ∙ is_block))
        (named_inodes (item shape.levels shape.holder) entry.0.block
        (sym (ap (block_is (λ block. is_fine (shape_for (item shape.levels shape.holder) block))) lies) ∙ shape.passes)
        (sym (ap (block_is (is_of_position (item position_is.levels position_is.holder))) lies) ∙ position_is.passes)
        first second)

    known_here : x.known ≡ true → p.pvbn ≢ 0
    known_here all =
        let told = passes_here (λ e. not x.known || not (is_unknown e.pointer)) all_known in
        known_one p (sym (ap (λ (b : Bool). not b || not (is_unknown p)) all) ∙ told.passes) some

  -- ---- its trees

  abbrev inodes : Tree
  inodes = stored (blocks disk pool states x is k r one) greatest_word r.levels r.root

  node_led : (o : Owner) (level index : ℕ) → (led disk pool states x is k r one o level index).stamp ≢ 0 → 1 ≤ level
      → IsNodeOf (number (under w s) r.levels r.root o) level index (blocks disk pool states x is k r one (led disk pool states x is k r one o level index).vvbn)
  node_led o level index some low = subst (λ (p : Pointer). IsNodeOf (number (under w s) r.levels r.root o) level index (blocks disk pool states x is k r one p.vvbn)) (sym (led_is disk pool states x is k r one o level index))
      (node_here o level index (some_at disk pool states x is k r one o level index some) low)

  known_led : x.known ≡ true → (o : Owner) (level index : ℕ) → (led disk pool states x is k r one o level index).stamp ≢ 0 → (led disk pool states x is k r one o level index).pvbn ≢ 0
  known_led all o level index some = subst (λ (p : Pointer). p.pvbn ≢ 0) (sym (led_is disk pool states x is k r one o level index)) (known_here o level index (some_at disk pool states x is k r one o level index some) all)

  -- the blocks of its slot have what the view has there
  led_here : list_all is_led (items (standing_at (blocks disk pool states x is k r one) r.levels r.root)) ≡ true
  led_here = subst (λ (es : List Item). list_all is_led es ≡ true) (sym (kept_items (under w s) (blocks disk pool states x is k r one) r.levels r.root (agree disk pool states x is k r one))) all_led

  -- So each of its trees is stored well.
  pub stands_stored : AreStoredWell x.known (stored_trees (blocks disk pool states x is k r one) r.levels r.root)
  stands_stored None = record {
    positions = λ level place v low leads. subst (λ (n : ℕ). IsNodeOf greatest_word level place (blocks disk pool states x is k r one n)) leads.vvbn (node_led InodeFile level place leads.some low);
    leads = inode_leads (blocks disk pool states x is k r one) r.levels r.root (few disk pool states x is k r one) led_here;
    places = λ all level place v leads. known_led all InodeFile level place leads.some;
  }
  stands_stored (Some n) = by (file_at inodes n) refl
    where
      by : (o : Option InodeRecord) → file_at inodes n ≡ o → StoredIn x.known (option_map (λ f. unread (stored (blocks disk pool states x is k r one) n f.levels f.root)) o)
      by None found = tt
      by (Some f) found =
          let same : (level index : ℕ) → led disk pool states x is k r one (OfFile n) level index ≡ pointer_at (stored (blocks disk pool states x is k r one) n f.levels f.root) level index =
          λ level index. ap (λ (o : Option InodeRecord). option_map_or (λ f. pointer_at (stored (blocks disk pool states x is k r one) n f.levels f.root) level index) o hole) found in record {
            positions = λ level place v low leads. subst (λ (v : ℕ). IsNodeOf n level place (blocks disk pool states x is k r one v)) (ap (λ (p : Pointer). p.vvbn) (same level place) ∙ leads.vvbn)
                (node_led (OfFile n) level place (subst (λ (p : Pointer). p.stamp ≢ 0) (sym (same level place)) leads.some) low);
            leads = file_leads (blocks disk pool states x is k r one) r.levels r.root (few disk pool states x is k r one) led_here n f found;
            places = λ all level place v leads. subst (λ (p : Pointer). p.pvbn ≢ 0) (same level place) (known_led all (OfFile n) level place (subst (λ (p : Pointer). p.stamp ≢ 0) (sym (same level place)) leads.some));
          }

  -- and each inode block names its index
  pub stands_indexes : NamesIndexes inodes
  unfolding block_at
  stands_indexes index block lies = by ((pointer_at inodes 0 index).stamp == 0) refl lies
    where
      q : Pointer
      q = led disk pool states x is k r one InodeFile 0 index

      by : (b : Bool) → ((pointer_at inodes 0 index).stamp == 0) ≡ b → (if b then None else blocks disk pool states x is k r one (pointer_at inodes 0 index).vvbn) ≡ Some block → IsInodesOf index block
      by true hole_is at_block = let wrong : ◌≡◌ {A = Option (List ℕ)} None (Some block) = at_block in absurd cc
      by false some_is at_block =
          let some : (led disk pool states x is k r one InodeFile 0 index).stamp ≢ 0 = λ none. let is_hole : ((pointer_at inodes 0 index).stamp == 0) ≡ true = grind (arith, nat_tests, none) in let wrong : true ≡ false = sym is_hole ∙ some_is in cc in
          inodes_here InodeFile 0 index (some_at disk pool states x is k r one InodeFile 0 index some) refl refl block
          (ap (λ (p : Pointer). blocks disk pool states x is k r one p.vvbn) (sym (led_is disk pool states x is k r one InodeFile 0 index)) ∙ at_block)
