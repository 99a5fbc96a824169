-- A table that lies whole in a slot, of which each block was copied without places: it lies whole in the copies, from the root without its place.
use Rattle.std.proofs.Common.{◌≡◌, ◌≢◌, ℕ, zero, suc, ◌+◌, ◌*◌, ◌/◌, ◌%◌, ◌^◌, ◌<◌, ◌≤◌, Bool, true, false, ◌||◌, List, [], ◌∷◌, refl, sym, ap, subst, ◌∙◌, arith, ⊎_elim, get_or}
use Rattle.std.specs.Prelude.{Option, Some, None, ◌==◌, if◌then◌else◌, map, min}
use Rattle.std.specs.List.{list_any}
use Rattle.std.specs.Option.{option_map}
use Rattle.std.proofs.lemmas.Bool.{cases_eq}
use Rattle.std.proofs.lemmas.Bool.Decides.{nat_tests}
use Rattle.fv_codec.specs.declared.form.Form.TheVariants.{Node as OfNode}
use Rattle.fv_codec.specs.declared.inode.InodeRecord.{InodeRecord}
use Rattle.fv_codec.specs.declared.pointer.Pointer.{Pointer}
use Rattle.fv_codec.specs.Blocks.{greatest_word}
use Rattle.fv_laws.specs.Positions.{HasNoReserve}
use Rattle.fv_laws.specs.WellFormed.{IsWellTable}
use Rattle.fv_model.specs.Trees.{fan}
use Rattle.fv_tables.specs.Alike.{hintless, hintless_item, hintless_record, AreAlike, HasAlikeNodes, RecordAlike}
use Rattle.fv_tables.specs.Reached.{Item, is_listed, items}
use Rattle.fv_tables.specs.Spelled.{Under, Rooted as Tree, stored, pointer_at}
use Rattle.fv_tables.specs.Told.{Standing, file_at, file_told, free_record, records_each, records_in, standing_at, table_told, tree_of, tree_told}
use Rattle.fv_tables.proofs.AlikeTables.{alike_reach, alike_record, alike_table, stands}
use Rattle.fv_tables.proofs.Items.{listed_file, listed_inode, number_within}
use Rattle.fv_tables.proofs.Pointers.{no_block}
use Rattle.fv_tables.proofs.Tables.{files_told}
use Rattle.fv_tree.specs.Beside.{unread, LeadsTo}
use Rattle.fv_tree.specs.Flushing.{kind_for, ReachesOnce}
use Rattle.fv_tree.specs.Sources.{Use}
use Rattle.fv_inode.specs.Files.{NamesIndexes}
use Rattle.fv_files.specs.Apart.{IsAsSaid, LeadsFrom, LeadsIn, StoredIn, stored_trees}
use Rattle.fv_files.specs.Tables.{AreReached}
use Rattle.fv_volmap.specs.Slots.{Slot, has}
use Rattle.fv_pool.specs.declared.rooted.Rooted.{Rooted}
use Rattle.fv_places.specs.ByKind.{form_of}
use Rattle.fv_places.proofs.Descents.{record_at}
use Rattle.fv_volume.specs.Mirroring.{mirror_table}
use Rattle.fv_volume.specs.OneVolume.{IsTableIn}
use Rattle.fv_volume.proofs.Lookups.{told_by}
use Rattle.fv_volume.proofs.SettledTables.{few_levels}
use Rattle.fv_mirror.proofs.CopiedTrees.{alike_nodes, indexed_again, leads_as, one_kind, reached_again, right_kind, root_zero, said_again, same_vvbn, says, stood, IsCopied}

-- ---- what is listed

listed_bare : (es : List Item) (v : ℕ) → is_listed es v ≡ list_any (λ (e : Item). e.pointer.vvbn == v) (map hintless_item es)
listed_bare [] v = refl
listed_bare (e ∷ es) v = ap (λ (b : Bool). (e.pointer.vvbn == v) || b) (listed_bare es v)

listed_same : (es fs : List Item) (v : ℕ) → map hintless_item es ≡ map hintless_item fs → is_listed es v ≡ is_listed fs v
listed_same es fs v same = listed_bare es v ∙ ap (λ (xs : List Item). list_any (λ (e : Item). e.pointer.vvbn == v) xs) same ∙ sym (listed_bare fs v)

-- ---- kinds of nodes

pub file_form : (level : ℕ) → 1 ≤ level → level ≤ 3 → form_of (1 + level) ≡ Some OfNode
file_form zero low high = absurd (omega (arith, low))
file_form (suc zero) low high = refl
file_form (suc (suc zero)) low high = refl
file_form (suc (suc (suc zero))) low high = refl
file_form (suc (suc (suc (suc l)))) low high = absurd (omega (arith, high))

pub inode_form : (level : ℕ) → 1 ≤ level → level ≤ 2 → form_of (5 + min level 2) ≡ Some OfNode
inode_form zero low high = absurd (omega (arith, low))
inode_form (suc zero) low high = refl
inode_form (suc (suc zero)) low high = refl
inode_form (suc (suc (suc l))) low high = absurd (omega (arith, high))

-- the levels that a table tells of a file are those of its tree
told_levels : (t : Tree) (r : InodeRecord) → (file_told t r).tree.levels ≤ 3 → t.levels ≤ 3
unfolding file_told tree_told
told_levels t r few = few

-- ---- a table that lies whole in a slot

module _ (known : Bool) (m : Under) (old : ℕ → Option Use) (slot : Slot) (now : ℕ) (root : Rooted) (is : IsTableIn known m old slot now root) where
  abbrev told : Standing
  told = standing_at m root.levels root.root

  pub root_few : root.levels ≤ 2
  root_few = few_levels now m root.levels root.root is.table

  module _ (k : ℕ) (r : InodeRecord) (there : file_at told.inode k ≡ Some r) where
    -- a file's number is not the one of the inode file
    file_small : (k == greatest_word) ≡ false
    file_small = by root.levels root_few (number_within (λ (e : Item). true) told k r there)
      where
        by : (l : ℕ) → l ≤ 2 → k < records_each * fan ^ l → (k == greatest_word) ≡ false
        by zero le lt = grind (arith, nat_tests)
        by (suc zero) le lt = grind (arith, nat_tests)
        by (suc (suc zero)) le lt = grind (arith, nat_tests)
        by (suc (suc (suc l))) le lt = absurd (omega (arith, le))

    pub file_kind : (level : ℕ) → kind_for k level ≡ 1 + level
    file_kind level = ap (λ (b : Bool). if b then 5 + min level 2 else 1 + level) file_small

    pub file_few : r.levels ≤ 3
    file_few = told_levels (tree_of told k r) r (is.table.files k (file_told (tree_of told k r) r) (files_told told k ∙ told_by told [] k r there)).levels

-- ---- and its copies

module _ (known : Bool) (m n : Under) (old uses : ℕ → Option Use) (slot here : Slot) (now : ℕ) (root : Rooted) (is : IsTableIn known m old slot now root) (same : (v : ℕ) → has v here ≡ has v slot)
    (copies : (v : ℕ) → has v slot ≡ true → IsCopied m n old uses v) where
  abbrev x : Standing
  x = standing_at m root.levels root.root

  abbrev new : Pointer
  new = hintless root.root

  abbrev y : Standing
  y = standing_at n root.levels new

  -- ---- the inode file

  inode_copied : (level place : ℕ) → (pointer_at x.inode level place).stamp ≢ 0 → IsCopied m n old uses (pointer_at x.inode level place).vvbn
  inode_copied level place some = copies (pointer_at x.inode level place).vvbn (is.reach (pointer_at x.inode level place).vvbn ∙ listed_inode x level place some)

  inode_kinds : (level place : ℕ) (some : (pointer_at x.inode level place).stamp ≢ 0) → (inode_copied level place some).kind ≡ kind_for greatest_word level
  inode_kinds level place some =
      let v = (pointer_at x.inode level place).vvbn in
      one_kind (inode_copied level place some).kind (kind_for greatest_word level) (old v) (inode_copied level place some).was
      (right_kind (kind_for greatest_word level) (pointer_at x.inode level place) (old v) (is.trees.inode.used level place some))

  inode_forms : (level : ℕ) → 1 ≤ level → level ≤ root.levels → form_of (kind_for greatest_word level) ≡ Some OfNode
  inode_forms level low high = (let few = root_few known m old slot now root is in inode_form level low (omega (arith, high, few)))

  inode_stood : (level place : ℕ) → (pointer_at y.inode level place).stamp ≢ 0 → (pointer_at x.inode level place).stamp ≢ 0
  inode_stood = stood m n old uses greatest_word root.levels root.root new refl refl inode_copied inode_kinds inode_forms

  inode_vvbn : (level place : ℕ) → (pointer_at y.inode level place).vvbn ≡ (pointer_at x.inode level place).vvbn
  inode_vvbn = same_vvbn m n old uses greatest_word root.levels root.root new refl refl inode_copied inode_kinds inode_forms

  -- ---- the files

  module _ (k : ℕ) (r : InodeRecord) (there : file_at x.inode k ≡ Some r) where
    file_copied : (level place : ℕ) → (pointer_at (stored m k r.levels r.root) level place).stamp ≢ 0 → IsCopied m n old uses (pointer_at (stored m k r.levels r.root) level place).vvbn
    file_copied level place some = copies (pointer_at (stored m k r.levels r.root) level place).vvbn
        (is.reach (pointer_at (stored m k r.levels r.root) level place).vvbn ∙ listed_file x k r there level place some)

    file_kinds : (level place : ℕ) (some : (pointer_at (stored m k r.levels r.root) level place).stamp ≢ 0) → (file_copied level place some).kind ≡ kind_for k level
    file_kinds level place some =
        let p = pointer_at (stored m k r.levels r.root) level place in
        one_kind (file_copied level place some).kind (kind_for k level) (old p.vvbn) (file_copied level place some).was
        (right_kind (kind_for k level) p (old p.vvbn) ((is.trees.files k r there).used level place some))

    file_forms : (level : ℕ) → 1 ≤ level → level ≤ r.levels → form_of (kind_for k level) ≡ Some OfNode
    file_forms level low high = (let few = file_few known m old slot now root is k r there in ap form_of (file_kind known m old slot now root is k r there level) ∙ file_form level low (omega (arith, high, few)))

    file_nodes : HasAlikeNodes (stored m k r.levels r.root) n
    file_nodes = alike_nodes m n old uses k r.levels r.root (hintless r.root) refl refl file_copied file_kinds file_forms

    file_cells : (index : ℕ) → (pointer_at (stored m k r.levels r.root) 0 index).stamp ≢ 0
        → n (pointer_at (stored m k r.levels r.root) 0 index).vvbn ≡ m (pointer_at (stored m k r.levels r.root) 0 index).vvbn
    file_cells index some =
        let v = (pointer_at (stored m k r.levels r.root) 0 index).vvbn in
        let c = file_copied 0 index some in
        c.here ∙ ap (λ (b : List ℕ). Some b) ((says m n old uses v c).cells (file_kinds 0 index some ∙ file_kind known m old slot now root is k r there 0)) ∙ sym c.there

  -- ---- the table

  inode_records : (place : ℕ) → (pointer_at x.inode 0 place).stamp ≢ 0 → RecordAlike (m (pointer_at x.inode 0 place).vvbn) (n (pointer_at x.inode 0 place).vvbn)
  inode_records place some =
      let v = (pointer_at x.inode 0 place).vvbn in
      let c = inode_copied 0 place some in
      (λ i. map hintless_record (records_in (c.here i))) ∙ (says m n old uses v c).inodes (inode_kinds 0 place some) ∙ (λ i. map hintless_record (records_in (sym c.there i)))

  -- Its blocks stand alike in the copies.
  pub alike : AreAlike m n root.levels root.root
  alike = record {
    nodes = alike_nodes m n old uses greatest_word root.levels root.root new refl refl inode_copied inode_kinds inode_forms;
    inodes = inode_records;
    file_nodes = file_nodes;
    cells = file_cells;
  }

  -- So it is told as it was.
  pub table_same : table_told y ≡ table_told x
  table_same = alike_table m n root.levels root.root new refl alike

  records_same : (k : ℕ) → option_map hintless_record (file_at y.inode k) ≡ option_map hintless_record (file_at x.inode k)
  records_same = alike_record m n root.levels root.root new refl alike

  reach_same : (v : ℕ) → is_listed (items y) v ≡ is_listed (items x) v
  reach_same v = listed_same (items y) (items x) v (alike_reach m n root.levels root.root new refl alike)

  -- ---- a file of it

  module _ (k : ℕ) (r q : InodeRecord) (there : file_at x.inode k ≡ Some r) (found : file_at y.inode k ≡ Some q) where
    both : ◌≡◌ {A = Option InodeRecord} (Some (hintless_record q)) (Some (hintless_record r)) → hintless_record q ≡ hintless_record r
    both e = cc

    as_one : hintless_record q ≡ hintless_record r
    as_one = both (sym (ap (option_map hintless_record) found) ∙ records_same k ∙ ap (option_map hintless_record) there)

    same_levels : q.levels ≡ r.levels
    same_levels = ap (λ (z : InodeRecord). z.levels) as_one

    same_root : hintless q.root ≡ hintless r.root
    same_root = ap (λ (z : InodeRecord). z.root) as_one

    -- the root of a file stands in an inode block, in which no place is known
    root_unknown : q.root.pvbn ≡ 0
    root_unknown =
        let record_is = record_at n root.levels new k q found in
        let was = inode_stood 0 (k / records_each) record_is.0 in
        let v = (pointer_at x.inode 0 (k / records_each)).vvbn in
        ap (λ (z : InodeRecord). z.root.pvbn) record_is.1
        ∙ ap (λ (w : ℕ). (get_or (records_in (n w)) (k % records_each) free_record).root.pvbn) (inode_vvbn 0 (k / records_each))
        ∙ root_zero m n old uses v (inode_copied 0 (k / records_each) was) (inode_kinds 0 (k / records_each) was) (k % records_each)

    file_reached : ReachesOnce uses (stored n k q.levels q.root)
    file_reached = subst (λ (l : ℕ). ReachesOnce uses (stored n k l q.root)) (sym same_levels)
        (reached_again m n old uses k r.levels r.root q.root same_root root_unknown (file_copied k r there) (file_kinds k r there) (file_forms k r there) (is.trees.files k r there))

    file_said : IsAsSaid known (unread (stored m k r.levels r.root)) → IsAsSaid false (unread (stored n k q.levels q.root))
    file_said said = subst (λ (l : ℕ). IsAsSaid false (unread (stored n k l q.root))) (sym same_levels)
        (said_again m n old uses k r.levels r.root q.root same_root root_unknown (file_copied k r there) (file_kinds k r there) (file_forms k r there) known said)

    file_leads : (v : ℕ) → LeadsTo (unread (stored n k q.levels q.root)) v → LeadsTo (unread (stored m k r.levels r.root)) v
    file_leads v leads = leads_as m n old uses k r.levels r.root q.root same_root root_unknown (file_copied k r there) (file_kinds k r there) (file_forms k r there) v
        (subst (λ (l : ℕ). LeadsTo (unread (stored n k l q.root)) v) same_levels leads)

  -- a file of it was one
  was_file : (k : ℕ) (q : InodeRecord) → file_at y.inode k ≡ Some q → (r : InodeRecord) × (file_at x.inode k ≡ Some r)
  was_file k q found = by (file_at x.inode k) refl
    where
      lost : ◌≡◌ {A = Option InodeRecord} None (Some (hintless_record q)) → ⊥
      lost e = cc

      by : (o : Option InodeRecord) → file_at x.inode k ≡ o → (r : InodeRecord) × (file_at x.inode k ≡ Some r)
      by None at = absurd (lost (sym (ap (option_map hintless_record) at) ∙ sym (records_same k) ∙ ap (option_map hintless_record) found))
      by (Some r) at = (r, at)

  -- ---- it stands on the copies

  led_before : (a : Option ℕ) (v : ℕ) → LeadsFrom (stored_trees n root.levels new) a v → LeadsFrom (stored_trees m root.levels root.root) a v
  led_before None v leads = leads_as m n old uses greatest_word root.levels root.root new refl refl inode_copied inode_kinds inode_forms v leads
  led_before (Some k) v leads = by (file_at y.inode k) refl leads
    where
      by : (o : Option InodeRecord) → file_at y.inode k ≡ o → LeadsIn (option_map (λ q. unread (stored n k q.levels q.root)) o) v → LeadsFrom (stored_trees m root.levels root.root) (Some k) v
      by None at leads = absurd leads
      by (Some q) at leads =
          let was = was_file k q at in
          subst (λ (o : Option InodeRecord). LeadsIn (option_map (λ r. unread (stored m k r.levels r.root)) o) v) (sym was.1) (file_leads k was.0 q was.1 at v leads)

  trees_again : AreReached n uses root.levels new
  trees_again = record {
    inode = reached_again m n old uses greatest_word root.levels root.root new refl refl inode_copied inode_kinds inode_forms is.trees.inode;
    files = λ k q found. let was = was_file k q found in file_reached k was.0 q was.1 found;
    apart = λ a b v other one two. is.trees.apart a b v other (led_before a v one) (led_before b v two);
  }

  -- ---- and is stored well in them

  each_said : (a : Option ℕ) → StoredIn false (stored_trees n root.levels new a)
  each_said None = said_again m n old uses greatest_word root.levels root.root new refl refl inode_copied inode_kinds inode_forms known (is.well.trees None)
  each_said (Some k) = by (file_at y.inode k) refl
    where
      by : (o : Option InodeRecord) → file_at y.inode k ≡ o → StoredIn false (option_map (λ q. unread (stored n k q.levels q.root)) o)
      by None at = tt
      by (Some q) at =
          let was = was_file k q at in
          file_said k was.0 q was.1 at (subst (λ (o : Option InodeRecord). StoredIn known (option_map (λ r. unread (stored m k r.levels r.root)) o)) was.1 (is.well.trees (Some k)))

  indexes_again : NamesIndexes y.inode
  indexes_again index block at = ⊎_elim
      (λ (none : (pointer_at y.inode 0 index).stamp ≡ 0). absurd (lost (sym (no_block y.inode index none) ∙ at)))
      (λ (some : (pointer_at y.inode 0 index).stamp ≢ 0).
      let was = inode_stood 0 index some in
      let v = (pointer_at x.inode 0 index).vvbn in
      let c = inode_copied 0 index was in
      let here_is : n v ≡ Some block = ap n (sym (inode_vvbn 0 index)) ∙ sym (stands y.inode index some refl) ∙ at in
      indexed_again m n old uses v c (inode_kinds 0 index was) index c.from block c.there (is.well.inodes index c.from (stands x.inode index was refl ∙ c.there)) here_is)
      (cases_eq (pointer_at y.inode 0 index).stamp 0)
    where
      lost : ◌≡◌ {A = Option (List ℕ)} None (Some block) → ⊥
      lost e = cc

  -- So it lies whole in the copies, where no place has to be known.
  pub copied_table : IsTableIn false n uses here now (mirror_table root)
  copied_table = record {
    table = subst (IsWellTable now) (sym table_same) is.table;
    reserves = subst HasNoReserve (sym table_same) is.reserves;
    trees = trees_again;
    well = record { trees = each_said; inodes = indexes_again };
    reach = λ v. same v ∙ is.reach v ∙ sym (reach_same v);
  }
