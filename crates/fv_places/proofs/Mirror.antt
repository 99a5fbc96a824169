-- A mirror spells the table of the root that it copies, and all its pointers are unknown.
use Rattle.std.proofs.Common.{◌≡◌, ◌≢◌, ℕ, ◌+◌, ◌/◌, ◌%◌, ◌<◌, ◌≤◌, Bool, true, false, List, [], refl, sym, ap, subst, ◌∙◌, arith, ⊎_elim, get_or}
use Rattle.std.specs.Prelude.{Option, Some, None, ◌==◌, nat_lt, if◌then◌else◌}
use Rattle.std.specs.List.{list_all}
use Rattle.std.specs.Option.{option_map, option_map_or}
use Rattle.std.proofs.lemmas.Bool.{cases_lt}
use Rattle.std.proofs.lemmas.Bool.Decides.{nat_tests}
use Rattle.fv_codec.specs.declared.pointer.Pointer.{Pointer}
use Rattle.fv_codec.specs.declared.inode.InodeRecord.{InodeRecord}
use Rattle.fv_codec.specs.Blocks.{greatest_word}
use Rattle.fv_model.specs.Trees.{fan}
use Rattle.fv_tables.specs.Spelled.{Rooted as Tree, stored, hole, pointers_in, pointers_at, pointer_at}
use Rattle.fv_tables.specs.Told.{Standing, standing_at, file_at, records_each, records_in, free_record}
use Rattle.fv_tables.specs.Reached.{Item, items, is_listed}
use Rattle.fv_tables.specs.Alike.{hintless, hintless_record, SpellAlike, RecordAlike, AreAlike}
use Rattle.fv_tables.proofs.Items.{from_trees, listed_inode, listed_file}
use Rattle.fv_tables.proofs.AlikeTables.{alike_table, inode_pointer, file_pointer, alike_record}
use Rattle.fv_image.specs.Views.{Placed, Rooted, Head, View, kind_at}
use Rattle.fv_image.specs.Chains.{along, span_at, place, under}
use Rattle.fv_image.specs.Volumes.{standing_of, table_at}
use Rattle.fv_image.specs.Moves.{FitsRoot}
use Rattle.fv_image.proofs.WellTrees.{in_node}
use Rattle.fv_places.specs.Mirrors.{Copies, Mirrors}
use Rattle.fv_places.proofs.Descents.{over_stands, top_is, record_at}
use Rattle.fv_places.proofs.Fitting.{in_node_block, in_inode_block, no_leaf, inode_kind, file_kind, file_node}

module _ (w u : View) (s t : ℕ) (r : Rooted) (g : Head) (mirrors : Mirrors w u s t r g) (fits : FitsRoot w s r) where
  abbrev x : Standing
  x = standing_of w s r

  abbrev y : Standing
  y = standing_at (under u t) r.levels g.active.root

  -- each VVBN that the root reaches is found at the copy
  pub found : (v : ℕ) → is_listed (items x) v ≡ true → (c : Copies w s u t v) × (place u t v ≡ Some c.copy)
  unfolding place along
  found v listed =
      let c = mirrors.copies v listed in
      let low : v < g.span = mirrors.wide v listed in
      let span : span_at u t ≡ g.span = ap (λ (o : Option Head). option_map_or (λ (h : Head). h.span) o 0) mirrors.head in
      let test : nat_lt v (span_at u t) ≡ true = grind (arith, nat_tests) in
      (c, rw (test, c.here) (refl {a = Some c.copy}))

  -- with the blocks of both
  under_copy : (v : ℕ) → is_listed (items x) v ≡ true
      → (c : Copies w s u t v) × ((under u t v ≡ Some c.copy.block) × (under w s v ≡ Some c.from.block))
  unfolding under
  under_copy v listed =
      let f = found v listed in (f.0, (ap (option_map (λ (z : Placed). z.block)) f.1, ap (option_map (λ (z : Placed). z.block)) f.0.there))

  -- the copy of a block has the kind that the block has
  copy_kind : (v kind : ℕ) → kind_at (place w s v) ≡ kind → (c : Copies w s u t v) → c.from.kind ≡ kind
  copy_kind v kind is c = sym (ap kind_at c.there) ∙ is

  -- a node of the copy says the same but for hints
  spells : (v : ℕ) → is_listed (items x) v ≡ true → ((c : Copies w s u t v) → (c.from.kind ≢ 1) × (c.from.kind ≢ 5))
      → SpellAlike (under w s v) (under u t v)
  spells v listed kind = let f = under_copy v listed in
      subst (λ (o : Option (List ℕ)). SpellAlike o (under u t v)) (sym f.1.1)
      (subst (λ (o : Option (List ℕ)). SpellAlike (Some f.0.from.block) o) (sym f.1.0) (f.0.says.nodes (kind f.0).0 (kind f.0).1))

  -- so the blocks of the copy stand alike
  pub alike : AreAlike (under w s) (under u t) r.levels r.root
  alike = record {
    nodes =
        λ level p low some. spells _ (listed_inode x level p some)
        (λ c. no_leaf level c.from.kind low (copy_kind _ _ (inode_kind w s r fits level p some) c));
    inodes = λ p some. let f = under_copy _ (listed_inode x 0 p some) in
        subst (λ (o : Option (List ℕ)). RecordAlike o (under u t (pointer_at x.inode 0 p).vvbn)) (sym f.1.1)
        (subst (λ (o : Option (List ℕ)). RecordAlike (Some f.0.from.block) o) (sym f.1.0)
        (f.0.says.inodes (copy_kind _ 5 (inode_kind w s r fits 0 p some) f.0)));
    file_nodes = λ k f is level p low some. spells _ (listed_file x k f is level p some)
        (λ c. let kinds = file_node w s r fits k f is level p low some in
        (λ e. kinds.0 (ap kind_at c.there ∙ e), λ e. kinds.1 (ap kind_at c.there ∙ e)));
    cells =
        λ k f is p some. let c = under_copy _ (listed_file x k f is 0 p some) in
        c.1.0 ∙ ap (λ (b : List ℕ). Some b) (c.0.says.cells (copy_kind _ 1 (file_kind w s r fits k f is 0 p some) c.0)) ∙ sym c.1.1;
  }

  -- The copy spells the same table.
  pub mirror_table : table_at u t g.active ≡ table_at w s r
  mirror_table =
      ap (λ (l : ℕ). table_at u t (record { levels = l; root = g.active.root })) mirrors.levels
      ∙ alike_table (under w s) (under u t) r.levels r.root g.active.root mirrors.root alike

  -- ---- all its pointers are unknown

  -- a node of the copy has no known place
  node_blank : (v : ℕ) → is_listed (items x) v ≡ true → ((c : Copies w s u t v) → (c.from.kind ≢ 1) × (c.from.kind ≢ 5)) → (i : ℕ)
      → (get_or (pointers_in (under u t v)) i hole).pvbn ≡ 0
  node_blank v listed kind i = let f = under_copy v listed in
      ap (λ (o : Option (List ℕ)). (get_or (pointers_in o) i hole).pvbn) f.1.0
      ∙ f.0.blank _ (in_node_block f.0.copy i (λ e. (kind f.0).0 (sym f.0.kind ∙ e)) (λ e. (kind f.0).1 (sym f.0.kind ∙ e)))

  -- nor has an inode block
  inode_blank : (v : ℕ) → is_listed (items x) v ≡ true → ((c : Copies w s u t v) → c.from.kind ≡ 5) → (i : ℕ)
      → (get_or (records_in (under u t v)) i free_record).root.pvbn ≡ 0
  inode_blank v listed kind i = let f = under_copy v listed in
      ap (λ (o : Option (List ℕ)). (get_or (records_in o) i free_record).root.pvbn) f.1.0
      ∙ f.0.blank _ (in_inode_block f.0.copy i (f.0.kind ∙ kind f.0))

  -- so each pointer of a tree is unknown whose root is
  tree_blank : (owner lv : ℕ) (root : Pointer) → root.pvbn ≡ 0
      → ((level place i : ℕ) → 1 ≤ level → (pointer_at (stored (under u t) owner lv root) level place).stamp ≢ 0
      → (get_or (pointers_in (under u t (pointer_at (stored (under u t) owner lv root) level place).vvbn)) i hole).pvbn ≡ 0)
      → (level place : ℕ) → (pointer_at (stored (under u t) owner lv root) level place).stamp ≢ 0
      → (pointer_at (stored (under u t) owner lv root) level place).pvbn ≡ 0
  unfolding pointers_at
  tree_blank owner lv root start blank level place some = ⊎_elim
      (λ (low : level < lv).
      let z : Tree = stored (under u t) owner lv root in
      let p : Pointer = pointer_at z (level + 1) (place / fan) in
      let there : p.stamp ≢ 0 = over_stands z level place low some in
      let test : (p.stamp == 0) ≡ false = grind (arith, nat_tests) in
      ap (λ (q : Pointer). q.pvbn) (in_node z level place low)
      ∙ ap (λ (b : Bool). (get_or (if b then [] else pointers_in (under u t p.vvbn)) (place % fan) hole).pvbn) test
      ∙ blank (level + 1) (place / fan) (place % fan) (omega arith) there)
      (λ high. ap (λ (q : Pointer). q.pvbn) (top_is (stored (under u t) owner lv root) level place high some) ∙ start)
      (cases_lt level lv)

  -- a pointer of the copy stands where one of the root stood
  inode_one : (level p : ℕ) → hintless (pointer_at y.inode level p) ≡ hintless (pointer_at x.inode level p)
  inode_one level p = inode_pointer (under w s) (under u t) r.levels r.root g.active.root mirrors.root alike level p

  inode_stood : (level p : ℕ) → (pointer_at y.inode level p).stamp ≢ 0 → (pointer_at x.inode level p).stamp ≢ 0
  inode_stood level p some e = some (ap (λ (q : Pointer). q.stamp) (inode_one level p) ∙ e)

  -- so each pointer of the inode file is unknown
  inode_zero : (level p : ℕ) → (pointer_at y.inode level p).stamp ≢ 0 → (pointer_at y.inode level p).pvbn ≡ 0
  inode_zero = tree_blank greatest_word r.levels g.active.root mirrors.start (λ level p i low some.
      let stood = inode_stood level p some in
      ap (λ (v : ℕ). (get_or (pointers_in (under u t v)) i hole).pvbn) (ap (λ (q : Pointer). q.vvbn) (inode_one level p))
      ∙ node_blank _ (listed_inode x level p stood)
      (λ c. no_leaf level c.from.kind low (copy_kind _ _ (inode_kind w s r fits level p stood) c)) i)

  -- as a test
  zero_test : (n : ℕ) → n ≡ 0 → (n == 0) ≡ true
  zero_test n e = grind (arith, nat_tests)

  -- and so is each of a file, whose root stands in an inode block
  file_zero : (k : ℕ) (a b : InodeRecord) → file_at x.inode k ≡ Some a → file_at y.inode k ≡ Some b → (level p : ℕ)
      → (pointer_at (stored (under u t) k b.levels b.root) level p).stamp ≢ 0
      → (pointer_at (stored (under u t) k b.levels b.root) level p).pvbn ≡ 0
  file_zero k a b was now = tree_blank k b.levels b.root zero (λ level p i low some.
      let one = file_pointer (under w s) (under u t) r.levels r.root g.active.root mirrors.root alike k a b was same level p in
      let stood : (pointer_at (stored (under w s) k a.levels a.root) level p).stamp ≢ 0 =
      λ e. some (ap (λ (q : Pointer). q.stamp) one ∙ e) in
      let kinds = file_node w s r fits k a was level p low stood in
      ap (λ (v : ℕ). (get_or (pointers_in (under u t v)) i hole).pvbn) (ap (λ (q : Pointer). q.vvbn) one)
      ∙ node_blank _ (listed_file x k a was level p stood)
      (λ c. (λ e. kinds.0 (ap kind_at c.there ∙ e), λ e. kinds.1 (ap kind_at c.there ∙ e))) i)
    where
      both : ◌≡◌ {A = Option InodeRecord} (Some (hintless_record b)) (Some (hintless_record a)) → hintless_record b ≡ hintless_record a
      both e = cc

      same : hintless_record b ≡ hintless_record a
      same =
          both (sym (ap (option_map hintless_record) now)
          ∙ alike_record (under w s) (under u t) r.levels r.root g.active.root mirrors.root alike k
          ∙ ap (option_map hintless_record) was)

      zero : b.root.pvbn ≡ 0
      zero =
          let record_is = record_at (under u t) r.levels g.active.root k b now in
          let stood = inode_stood 0 (k / records_each) record_is.0 in
          ap (λ (z : InodeRecord). z.root.pvbn) record_is.1
          ∙ ap (λ (v : ℕ). (get_or (records_in (under u t v)) (k % records_each) free_record).root.pvbn)
          (ap (λ (q : Pointer). q.vvbn) (inode_one 0 (k / records_each)))
          ∙ inode_blank _ (listed_inode x 0 (k / records_each) stood) (copy_kind _ 5 (inode_kind w s r fits 0 (k / records_each) stood))
          (k % records_each)

  -- Every pointer of the new volume is unknown.
  pub mirror_unknown : list_all (λ (e : Item). e.pointer.pvbn == 0) (items y) ≡ true
  mirror_unknown = from_trees (λ (e : Item). e.pointer.pvbn == 0) y
      (λ level p some. zero_test _ (inode_zero level p some))
      (λ k b now level p some. of_file k (file_at x.inode k) refl b now level p some)
    where
      of_file : (k : ℕ) (o : Option InodeRecord) → file_at x.inode k ≡ o → (b : InodeRecord) → file_at y.inode k ≡ Some b → (level p : ℕ)
          → (pointer_at (stored (under u t) k b.levels b.root) level p).stamp ≢ 0
          → ((pointer_at (stored (under u t) k b.levels b.root) level p).pvbn == 0) ≡ true
      of_file k None was b now level p some =
          absurd (lost (sym (ap (option_map hintless_record) was)
          ∙ sym (alike_record (under w s) (under u t) r.levels r.root g.active.root mirrors.root alike k)
          ∙ ap (option_map hintless_record) now))
        where
          lost : ◌≡◌ {A = Option InodeRecord} None (Some (hintless_record b)) → ⊥
          lost e = cc
      of_file k (Some a) was b now level p some = zero_test _ (file_zero k a b was now level p some)
