-- The table of a root whose pointer gets its place lies whole in its slot as before, where the block under the root holds no unknown pointer.
use Rattle.std.proofs.Common.{◌≡◌, ◌≢◌, ℕ, ◌+◌, ◌/◌, ◌%◌, ◌<◌, ◌≤◌, Bool, true, false, List, [], get_or, Option, Some, None, inr, refl, sym, ap, subst, ◌∙◌, arith, ⊎_elim}
use Rattle.std.specs.Prelude.{◌&&◌, ◌==◌, if◌then◌else◌, is_some, min, map}
use Rattle.std.specs.List.{list_any}
use Rattle.std.specs.Option.{option_map}
use Rattle.std.proofs.lemmas.Bool.{both_ways, cases_lt}
use Rattle.std.proofs.lemmas.Bool.Decides.{nat_tests}
use Rattle.std.proofs.lemmas.Option.{same_Some}
use Rattle.fv_codec.specs.declared.form.Form.{Form}
use Rattle.fv_codec.specs.declared.pointer.Pointer.{Pointer}
use Rattle.fv_codec.specs.declared.inode.InodeRecord.{InodeRecord}
use Rattle.fv_codec.specs.Blocks.{greatest_word}
use Rattle.fv_model.specs.Trees.{fan}
use Rattle.fv_laws.specs.Positions.{HasNoReserve}
use Rattle.fv_laws.specs.WellFormed.{IsWellTable}
use Rattle.fv_tables.specs.Alike.{hintless, AreAlike}
use Rattle.fv_tables.specs.Reached.{is_listed, items}
use Rattle.fv_tables.specs.Spelled.{Under, Rooted as Tree, stored, hole, pointers_in, pointers_at, pointer_at, block_at}
use Rattle.fv_tables.specs.Told.{file_at, free_record, used_record, records_each, records_in, standing_at, table_told}
use Rattle.fv_tables.proofs.AlikeTables.{alike_reach, alike_table, inode_pointer, stands}
use Rattle.fv_tree.specs.Beside.{unread}
use Rattle.fv_tree.specs.Flushing.{IsNodeOf, IsRight, has_unknown_root, kind_for}
use Rattle.fv_tree.specs.Sources.{Use}
use Rattle.fv_files.specs.Apart.{IsAsSaid, LeadsFrom, LeadsIn, StoredIn, stored_trees}
use Rattle.fv_files.specs.Tables.{AreReached, IsStoredUnder}
use Rattle.fv_image.specs.Views.{Placed}
use Rattle.fv_image.specs.HintRules.{is_unknown}
use Rattle.fv_image.proofs.WellTrees.{in_node}
use Rattle.fv_volmap.specs.Slots.{Slot}
use Rattle.fv_pool.specs.declared.rooted.Rooted.{Rooted}
use Rattle.fv_volume.specs.OneVolume.{IsTableIn}
use Rattle.fv_volume.specs.Sharing.{pointer_in}
use Rattle.fv_places.specs.ByKind.{form_of, pointers_by}
use Rattle.fv_places.proofs.Descents.{over_stands, within, root_at, only_root}
use Rattle.fv_cleaner.specs.Searching.{holds_unknown, pointers_of}
use Rattle.fv_cleaner.proofs.Moving.{is_without, node_form, none_at}
use Rattle.fv_cleaner.proofs.Stays.{any_roots, few_levels, listed_bare}

-- what lies under a root whose place is filled in
pub record LiesUnder (blocks : Under) (uses : ℕ → Option Use) (p : Pointer) (z : Placed) : Type 0 where
  pub there : blocks p.vvbn ≡ Some z.block
  pub used : uses p.vvbn ≡ Some (record { pvbn = z.pvbn; kind = z.kind })
  pub none : holds_unknown z ≡ false

-- the table of a root with a pointer
abbrev pub with_pointer : Rooted → Pointer → Rooted
with_pointer r q = record { levels = r.levels; root = q }

-- A table that is rooted anew lies whole in its slot, is told as before, and its pointers are the same but for places.
pub record RootedAgain (blocks : Under) (uses : ℕ → Option Use) (slot : Slot) (count : ℕ) (root fresh : Rooted) : Type 0 where
  pub lies : IsTableIn false blocks uses slot count fresh
  pub told : table_told (standing_at blocks fresh.levels fresh.root) ≡ table_told (standing_at blocks root.levels root.root)
  pub pointers : (o : Option ℕ) (level place : ℕ) → hintless (pointer_in (stored_trees blocks fresh.levels fresh.root o) level place) ≡ hintless (pointer_in (stored_trees blocks root.levels root.root o) level place)

module _ (blocks : Under) (uses : ℕ → Option Use) (slot : Slot) (count : ℕ) (root : Rooted) (lies : IsTableIn false blocks uses slot count root) (z : Placed) (under : LiesUnder blocks uses root.root z) where
  abbrev lv : ℕ
  lv = root.levels

  abbrev p : Pointer
  p = root.root

  abbrev q : Pointer
  q = record { vvbn = p.vvbn; pvbn = z.pvbn; stamp = p.stamp }

  abbrev t : Tree
  t = stored blocks greatest_word lv p

  abbrev u : Tree
  u = stored blocks greatest_word lv q

  few : lv ≤ 2
  few = few_levels count (standing_at blocks lv p) lies.table

  alike : AreAlike blocks blocks lv p
  alike = record { nodes = λ level place low some. refl; inodes = λ place some. refl; file_nodes = λ k f found level place low some. refl; cells = λ k f found index some. refl }

  same : (level place : ℕ) → hintless (pointer_at u level place) ≡ hintless (pointer_at t level place)
  same = inode_pointer blocks blocks lv p q refl alike

  same_stamp : (level place : ℕ) → (pointer_at u level place).stamp ≡ (pointer_at t level place).stamp
  same_stamp level place = ap (λ (a : Pointer). a.stamp) (same level place)

  same_vvbn : (level place : ℕ) → (pointer_at u level place).vvbn ≡ (pointer_at t level place).vvbn
  same_vvbn level place = ap (λ (a : Pointer). a.vvbn) (same level place)

  some_old : (level place : ℕ) → (pointer_at u level place).stamp ≢ 0 → (pointer_at t level place).stamp ≢ 0
  some_old level place some none = some (same_stamp level place ∙ none)

  -- below the root nothing changed
  same_below : (level place : ℕ) → level < lv → pointer_at u level place ≡ pointer_at t level place
  unfolding pointers_at
  same_below level place low =
      in_node u level place low
      ∙ (λ i. get_or (if same_stamp (level + 1) (place / fan) i == 0 then [] else pointers_in (blocks (same_vvbn (level + 1) (place / fan) i))) (place % fan) hole)
      ∙ sym (in_node t level place low)

  block_same : (place : ℕ) → block_at u place ≡ block_at t place
  unfolding block_at
  block_same place = λ i. if same_stamp 0 place i == 0 then None else blocks (same_vvbn 0 place i)

  file_same : (k : ℕ) → file_at u k ≡ file_at t k
  unfolding file_at
  file_same k = λ i. used_record (get_or (records_in (block_same (k / records_each) i)) (k % records_each) free_record)

  -- a pointer at the level of the root is the root
  at_root : (level place : ℕ) → lv ≤ level → (pointer_at t level place).stamp ≢ 0 → (level ≡ lv) × ((pointer_at t level place ≡ p) × (pointer_at u level place ≡ q))
  at_root level place high some =
      let low = within t level place some in
      let level_is : level ≡ lv = omega (arith, low, high) in
      let first : place ≡ 0 = only_root t place (subst (λ (n : ℕ). (pointer_at t n place).stamp ≢ 0) level_is some) in
      (level_is, ((λ i. pointer_at t (level_is i) (first i)) ∙ root_at t, (λ i. pointer_at u (level_is i) (first i)) ∙ root_at u))

  kind_is : (level place : ℕ) → (pointer_at t level place).stamp ≢ 0 → pointer_at t level place ≡ p → z.kind ≡ kind_for greatest_word level
  kind_is level place some is = (subst (IsRight (kind_for greatest_word level) (pointer_at t level place)) (ap (λ (a : Pointer). uses a.vvbn) is ∙ under.used) (lies.trees.inode.used level place some)).1

  right_now : (level place : ℕ) → (pointer_at u level place).stamp ≢ 0 → IsRight (kind_for greatest_word level) (pointer_at u level place) (uses (pointer_at u level place).vvbn)
  right_now level place some = ⊎_elim
      (λ (low : level < lv). subst (λ (a : Pointer). IsRight (kind_for greatest_word level) a (uses a.vvbn)) (sym (same_below level place low)) (lies.trees.inode.used level place (some_old level place some)))
      (λ (high : lv ≤ level).
      let stood = some_old level place some in
      let is = at_root level place high stood in
      subst (λ (a : Pointer). IsRight (kind_for greatest_word level) a (uses a.vvbn)) (sym is.1.1)
      (subst (IsRight (kind_for greatest_word level) q) (sym under.used) (inr refl, kind_is level place stood is.1.0)))
      (cases_lt level lv)

  leads_was : (a : Option ℕ) (n : ℕ) → LeadsFrom (stored_trees blocks lv q) a n → LeadsFrom (stored_trees blocks lv p) a n
  leads_was None n leads = record {
    level = leads.level;
    place = leads.place;
    leads = record { some = some_old leads.level leads.place leads.leads.some; placed = refl; vvbn = sym (same_vvbn leads.level leads.place) ∙ leads.leads.vvbn };
  }
  leads_was (Some k) n leads = subst (λ (o : Option InodeRecord). LeadsIn (option_map (λ r. unread (stored blocks k r.levels r.root)) o) n) (file_same k) leads

  trees_now : AreReached blocks uses lv q
  trees_now = record {
    inode = record {
      once = λ level place k r some other alike. lies.trees.inode.once level place k r (some_old level place some) (some_old k r other) (sym (same_vvbn level place) ∙ alike ∙ same_vvbn k r);
      held = λ level place some. subst (λ (n : ℕ). is_some (blocks n) ≡ true) (sym (same_vvbn level place)) (lies.trees.inode.held level place (some_old level place some));
      used = right_now;
    };
    files = λ k r found. lies.trees.files k r (sym (file_same k) ∙ found);
    apart = λ a b n other first second. lies.trees.apart a b n other (leads_was a n first) (leads_was b n second);
  }

  -- ---- unknown pointers

  said : IsAsSaid false (unread t)
  said = lies.well.trees None

  -- none stands under the root: in a node,
  none_in_node : (level place : ℕ) → level + 1 ≡ lv → (pointer_at t level place).stamp ≢ 0 → (pointer_at t level place).pvbn ≡ 0 → ⊥
  unfolding pointers_at
  none_in_node level place up some none =
      let low : level < lv = omega (arith, up) in
      let over = over_stands t level place low some in
      let is = at_root (level + 1) (place / fan) (omega (arith, up)) over in
      let kind = kind_is (level + 1) (place / fan) over is.1.0 in
      let form = node_form greatest_word (level + 1) (omega arith) (λ e. omega (arith, up, few)) (λ ne. absurd (ne refl)) in
      let test : ((pointer_at t (level + 1) (place / fan)).stamp == 0) ≡ false = grind (arith, nat_tests, over) in
      let at : pointer_at t level place ≡ get_or (pointers_of z) (place % fan) hole =
      in_node t level place low
      ∙ ap (λ (b : Bool). get_or (if b then [] else pointers_in (blocks (pointer_at t (level + 1) (place / fan)).vvbn)) (place % fan) hole) test
      ∙ ap (λ (o : Option (List ℕ)). get_or (pointers_in o) (place % fan) hole) (ap (λ (a : Pointer). blocks a.vvbn) is.1.0 ∙ under.there)
      ∙ ap (λ (o : Option Form). get_or (pointers_by o z.block) (place % fan) hole) (sym (ap form_of kind ∙ form.0)) in
      both_ways (is_unknown (pointer_at t level place)) (ap is_unknown at ∙ none_at (pointers_of z) under.none (place % fan)) (is_without (pointer_at t level place) some none)

  -- and in an inode block
  none_in_inodes : (place : ℕ) (b : List ℕ) → lv ≡ 0 → (pointer_at t 0 place).stamp ≢ 0 → block_at t place ≡ Some b → has_unknown_root greatest_word b ≡ true → ⊥
  none_in_inodes place b flat some held unknown =
      let is = at_root 0 place (omega (arith, flat)) some in
      let word : (greatest_word == greatest_word) ≡ true = grind (arith, nat_tests) in
      let kind : z.kind ≡ 5 = kind_is 0 place some is.1.0 ∙ ap (λ (c : Bool). if c then 5 + min 0 2 else 1 + 0) word in
      let block : z.block ≡ b = same_Some z.block b (sym (ap (λ (a : Pointer). blocks a.vvbn) is.1.0 ∙ under.there) ∙ sym (stands t place some refl) ∙ held) in
      let any : list_any (λ (r : InodeRecord). is_unknown r.root) (records_in (Some b)) ≡ true = sym (ap (λ (c : Bool). c && list_any (λ (r : InodeRecord). is_unknown r.root) (records_in (Some b))) word) ∙ unknown in
      both_ways (list_any (λ (r : InodeRecord). is_unknown r.root) (records_in (Some b)))
      (sym (any_roots (records_in (Some b))) ∙ ap (λ (c : List ℕ). list_any is_unknown (map (λ (r : InodeRecord). r.root) (records_in (Some c)))) (sym block)
      ∙ ap (λ (o : Option Form). list_any is_unknown (pointers_by o z.block)) (sym (ap form_of kind)) ∙ under.none) any

  nodes_now : (level place : ℕ) → (pointer_at u level place).stamp ≢ 0 → (pointer_at u level place).pvbn ≡ 0 → level < lv → (pointer_at u (level + 1) (place / fan)).pvbn ≡ 0
  nodes_now level place some none low =
      let stood = some_old level place some in
      let was : (pointer_at t level place).pvbn ≡ 0 = ap (λ (a : Pointer). a.pvbn) (sym (same_below level place low)) ∙ none in
      ⊎_elim
      (λ (below : level + 1 < lv). ap (λ (a : Pointer). a.pvbn) (same_below (level + 1) (place / fan) below) ∙ said.leads.nodes level place stood was low refl)
      (λ (top : lv ≤ level + 1). absurd (none_in_node level place (omega (arith, low, top)) stood was))
      (cases_lt (level + 1) lv)

  roots_now : (place : ℕ) (b : List ℕ) → (pointer_at u 0 place).stamp ≢ 0 → block_at u place ≡ Some b → has_unknown_root greatest_word b ≡ true → (pointer_at u 0 place).pvbn ≡ 0
  roots_now place b some held unknown =
      let stood = some_old 0 place some in
      let was : block_at t place ≡ Some b = sym (block_same place) ∙ held in
      ⊎_elim
      (λ (below : 0 < lv). ap (λ (a : Pointer). a.pvbn) (same_below 0 place below) ∙ said.leads.roots place b stood refl was unknown)
      (λ (top : lv ≤ 0). absurd (none_in_inodes place b (omega (arith, top)) stood was unknown))
      (cases_lt 0 lv)

  well_now : IsStoredUnder false blocks lv q
  well_now = record { trees = each; inodes = λ index b held. lies.well.inodes index b (sym (block_same index) ∙ held) }
    where
      wrong : false ≡ true → ⊥
      wrong e = cc

      each : (a : Option ℕ) → StoredIn false (stored_trees blocks lv q a)
      each None = record {
        positions = λ level place n low led. subst (λ (k : ℕ). IsNodeOf greatest_word level place (blocks k)) (sym (same_vvbn level place) ∙ led.vvbn)
            (said.positions level place (pointer_at t level place).vvbn low (record { some = some_old level place led.some; placed = refl; vvbn = refl }));
        leads = record { nodes = λ level place some none low still. nodes_now level place some none low; roots = λ place b some still held unknown. roots_now place b some held unknown };
        places = λ all. absurd (wrong all);
      }
      each (Some k) = subst (λ (o : Option InodeRecord). StoredIn false (option_map (λ r. unread (stored blocks k r.levels r.root)) o)) (sym (file_same k)) (lies.well.trees (Some k))

  told_now : table_told (standing_at blocks lv q) ≡ table_told (standing_at blocks lv p)
  told_now = alike_table blocks blocks lv p q refl alike

  pub rooted_again : RootedAgain blocks uses slot count root (with_pointer root q)
  rooted_again = record {
    lies = record {
      table = subst (IsWellTable count) (sym told_now) lies.table;
      reserves = subst HasNoReserve (sym told_now) lies.reserves;
      trees = trees_now;
      well = well_now;
      reach = λ w. lies.reach w ∙ sym (listed_bare (items (standing_at blocks lv p)) w) ∙ ap (λ es. is_listed es w) (sym (alike_reach blocks blocks lv p q refl alike)) ∙ listed_bare (items (standing_at blocks lv q)) w;
    };
    told = told_now;
    pointers = pointers;
  }
    where
      pointers : (o : Option ℕ) (level place : ℕ) → hintless (pointer_in (stored_trees blocks lv q o) level place) ≡ hintless (pointer_in (stored_trees blocks lv p o) level place)
      pointers None level place = same level place
      pointers (Some k) level place = ap (λ (o : Option InodeRecord). hintless (pointer_in (option_map (λ r. unread (stored blocks k r.levels r.root)) o) level place)) (file_same k)
