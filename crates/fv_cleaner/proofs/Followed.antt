-- A table that lies whole in a slot can be followed: each block that it reaches has the shape of its kind, and each unknown pointer of one
-- leads to a block of a lower kind, which has a place.
--
-- An example: an inode block, of kind 5, has an unknown pointer to the root of a file of two levels. That root is a node of kind 3.
use Rattle.std.proofs.Common.{◌≡◌, ◌≢◌, ℕ, zero, suc, ◌+◌, ◌*◌, ◌/◌, ◌%◌, ◌<◌, ◌≤◌, Bool, true, false, List, [], map, length, drop, get_or, Option, Some, None, Result, Ok, refl, sym, ap, subst, ◌∙◌, arith}
use Rattle.std.specs.Prelude.{is_some, ◌==◌, if◌then◌else◌, min}
use Rattle.std.specs.Option.{option_map}
use Rattle.std.proofs.lemmas.Bool.Decides.{nat_tests}
use Rattle.std.proofs.lemmas.List.{length-map}
use Rattle.std.proofs.lemmas.Option.{same_Some}
use Rattle.fv_codec.specs.declared.shape.Shape.{Shape}
use Rattle.fv_codec.specs.declared.form.Form.{Form}
use Rattle.fv_codec.specs.declared.form.Form.TheVariants.{Node as OfNode, Inodes as OfInodes}
use Rattle.fv_codec.specs.declared.pointer.Pointer.{Pointer}
use Rattle.fv_codec.specs.declared.inode.InodeBlock.{InodeBlock}
use Rattle.fv_codec.specs.declared.inode.InodeRecord.{InodeRecord}
use Rattle.fv_codec.specs.Bytes.{byte_at, word_at}
use Rattle.fv_codec.specs.Fields.{each, items, up_to, verdict_of, verdicts}
use Rattle.fv_codec.specs.Blocks.{asks_file, asks_pointer, file_fields, file_of, greatest_word, inodes_at, inodes_fields, is_used, node_at, pointer_fields, pointer_of}
use Rattle.fv_codec.proofs.Ranges.{as_said, reading_ok, then_ok, within as in_bounds}
use Rattle.fv_codec.proofs.Renewed.{sixteen_of}
use Rattle.fv_model.specs.Trees.{fan}
use Rattle.fv_tables.specs.Spelled.{Under, Rooted as Tree, stored, hole, pointer_at, block_at}
use Rattle.fv_tables.specs.Told.{Standing, file_at, file_told, free_record, records_each, records_in, records_of, standing_at, tree_of, used_record}
use Rattle.fv_tables.proofs.AlikeTables.{stands}
use Rattle.fv_tables.proofs.Tables.{files_told}
use Rattle.fv_tree.specs.Beside.{unread}
use Rattle.fv_tree.specs.Flushing.{IsRight, Loaded, ReachesOnce, kind_for}
use Rattle.fv_tree.specs.Sources.{Use}
use Rattle.fv_tree.specs.Stored.{IsStoredWell}
use Rattle.fv_files.specs.Apart.{StoredIn, stored_trees}
use Rattle.fv_image.specs.Views.{Placed}
use Rattle.fv_image.specs.HintRules.{is_unknown}
use Rattle.fv_volmap.specs.Slots.{Slot, has}
use Rattle.fv_pool.specs.declared.rooted.Rooted.{Rooted}
use Rattle.fv_volume.specs.OneVolume.{IsTableIn}
use Rattle.fv_volume.specs.Sharing.{pointer_in}
use Rattle.fv_volume.proofs.Lookups.{told_by}
use Rattle.fv_volume.proofs.SettledTables.{listed_at}
use Rattle.fv_places.specs.ByKind.{form_of, shape_in, pointers_by}
use Rattle.fv_places.proofs.Descents.{root_at, within}
use Rattle.fv_cleaner.specs.Searching.{LeadBelow, LeadsBelow, Lies, pointers_of}
use Rattle.fv_cleaner.proofs.Moving.{node_form}
use Rattle.fv_cleaner.proofs.Ruled.{child_at, pointer_unknown}
use Rattle.fv_cleaner.proofs.Searched.{few_pointers}
use Rattle.fv_cleaner.proofs.Stays.{few_levels, get_root, told_levels}

-- ---- a free record of an inode block has no root

abbrev HasNoRoot : InodeRecord → Type 0
HasNoRoot r = r.name_length ≡ 0 → r.root.stamp ≡ 0

free_bare : (item : List ℕ) → asks_file item ≡ Ok tt → HasNoRoot (file_of item)
unfolding asks_file file_of asks_pointer pointer_of
free_bare item said free =
    let file = as_said (file_fields item) item said in
    let pointer = as_said (pointer_fields (is_used (byte_at 0 item)) (drop 96 item)) (drop 96 item) file.1.1.1.1.1.1.0 in
    let few = (in_bounds 0 (up_to (is_used (byte_at 0 item)) greatest_word) (word_at 16 (drop 96 item)) pointer.1.1.0).1 in
    let none : word_at 16 (drop 96 item) ≤ 0 = subst (λ (n : ℕ). word_at 16 (drop 96 item) ≤ up_to (is_used n) greatest_word) free few in
    omega (arith, none)

each_bare : (n : ℕ) (bytes : List ℕ) → each n 240 asks_file bytes ≡ Ok tt → (i : ℕ) → HasNoRoot (get_or (items n 240 file_of bytes) i free_record)
unfolding each items
each_bare zero bytes said zero free = refl
each_bare zero bytes said (suc i) free = refl
each_bare (suc n) bytes said zero free = free_bare bytes (then_ok (asks_file bytes) (each n 240 asks_file (drop 240 bytes)) said).0 free
each_bare (suc n) bytes said (suc i) free = each_bare n (drop 240 bytes) (then_ok (asks_file bytes) (each n 240 asks_file (drop 240 bytes)) said).1 i free

records_bare : (block : List ℕ) (b : InodeBlock) → inodes_at block ≡ Ok b → (i : ℕ) → HasNoRoot (get_or b.files i free_record)
unfolding inodes_at
records_bare block b at i =
    let read = reading_ok (verdicts inodes_fields block) _ b at in
    subst (λ (c : InodeBlock). HasNoRoot (get_or c.files i free_record)) read.1 (each_bare 16 (drop 256 block) (as_said inodes_fields block read.0).1.1.1.0 i)

-- ---- kinds

-- a node is of a higher kind than what stands under it
lower_kind : (owner level : ℕ) → (owner ≡ greatest_word → suc level ≤ 2) → kind_for owner level < kind_for owner (suc level)
lower_kind owner level inode = by (owner == greatest_word) refl
  where
    in_inode : (n : ℕ) → suc n ≤ 2 → 5 + min n 2 < 5 + min (suc n) 2
    in_inode zero low = omega arith
    in_inode (suc zero) low = omega arith
    in_inode (suc (suc n)) low = absurd (omega (arith, low))

    by : (b : Bool) → (owner == greatest_word) ≡ b → (if b then 5 + min level 2 else 1 + level) < (if b then 5 + min (suc level) 2 else 1 + suc level)
    by true e = in_inode level (inode (grind (arith, nat_tests, e)))
    by false e = omega arith

-- the root of an inode file is below kind 8
inode_kind : (level : ℕ) → level ≤ 2 → kind_for greatest_word level < 8
inode_kind level low = subst (λ (b : Bool). (if b then 5 + min level 2 else 1 + level) < 8) (sym same) (few level low)
  where
    same : (greatest_word == greatest_word) ≡ true
    same = grind (arith, nat_tests)

    few : (n : ℕ) → n ≤ 2 → 5 + min n 2 < 8
    few zero low = omega arith
    few (suc zero) low = omega arith
    few (suc (suc zero)) low = omega arith
    few (suc (suc (suc n))) low = absurd (omega (arith, low))

five : kind_for greatest_word 0 ≡ 5
five = let same : (greatest_word == greatest_word) ≡ true = grind (arith, nat_tests) in ap (λ (b : Bool). if b then 5 + min 0 2 else 1 + 0) same

file_kind : (owner level : ℕ) → owner ≢ greatest_word → kind_for owner level ≡ 1 + level
file_kind owner level other = let test : (owner == greatest_word) ≡ false = grind (arith, nat_tests, other) in ap (λ (b : Bool). if b then 5 + min level 2 else 1 + level) test

-- ---- what lies under the VVBNs that a slot has

-- what a slot has under a VVBN lies there, at a place
pub record LiesAs (at : Lies) (blocks : Under) (uses : ℕ → Option Use) (v : ℕ) : Type 0 where
  pub block : Placed
  pub there : at v ≡ Some block
  pub held : blocks v ≡ Some block.block
  pub used : uses v ≡ Some (record { pvbn = block.pvbn; kind = block.kind })
  pub some : block.pvbn ≢ 0

-- a block can be followed
pub record IsFollowed (at : Lies) (z : Placed) : Type 0 where
  pub shaped : shape_in (form_of z.kind) z.block ≡ Ok tt
  pub below : LeadBelow at z.kind (pointers_of z)

followed_by : (at : Lies) (z : Placed) (f : Option Form) → form_of z.kind ≡ f → shape_in f z.block ≡ Ok tt → LeadBelow at z.kind (pointers_by f z.block)
    → IsFollowed at z
followed_by at z f is shaped below = record {
  shaped = subst (λ (g : Option Form). shape_in g z.block ≡ Ok tt) (sym is) shaped;
  below = subst (λ (g : Option Form). LeadBelow at z.kind (pointers_by g z.block)) (sym is) below;
}

module _ (at : Lies) (blocks : Under) (uses : ℕ → Option Use) (each_lies : (v : ℕ) → is_some (blocks v) ≡ true → LiesAs at blocks uses v) where
  -- ---- a tree

  module _ (owner lv : ℕ) (top : Pointer) (reached : ReachesOnce uses (stored blocks owner lv top)) where
    abbrev t : Tree
    t = stored blocks owner lv top

    -- what a position leads to
    its : (level p : ℕ) → (pointer_at t level p).stamp ≢ 0 → LiesAs at blocks uses (pointer_at t level p).vvbn
    its level p some = each_lies (pointer_at t level p).vvbn (reached.held level p some)

    its_kind : (level p : ℕ) (some : (pointer_at t level p).stamp ≢ 0) → (its level p some).block.kind ≡ kind_for owner level
    its_kind level p some = (subst (IsRight (kind_for owner level) (pointer_at t level p)) (its level p some).used (reached.used level p some)).1

    leads_at : (level p kind : ℕ) → (pointer_at t level p).stamp ≢ 0 → kind_for owner level < kind → LeadsBelow at kind (pointer_at t level p).vvbn
    leads_at level p kind some low =
        let is = its_kind level p some in
        record { block = (its level p some).block; there = (its level p some).there; some = (its level p some).some; lower = omega (arith, is, low) }

    node_followed : IsStoredWell (unread t) → (owner ≡ greatest_word → lv ≤ 2) → (owner ≢ greatest_word → lv ≤ 3)
        → (level p : ℕ) (some : (pointer_at t (suc level) p).stamp ≢ 0) → IsFollowed at (its (suc level) p some).block
    node_followed positions few_inode few_file level p some =
        let high = within t (suc level) p some in
        let kind = its_kind (suc level) p some in
        let node = positions (suc level) p v (omega arith) (record { some = some; placed = refl; vvbn = refl }) in
        let same : node.block ≡ z.block = same_Some node.block z.block (sym node.lies ∙ held) in
        let in_inode : owner ≡ greatest_word → suc level ≤ 2 = (λ e. let few = few_inode e in omega (arith, high, few)) in
        let in_file : owner ≢ greatest_word → suc level ≤ 3 = (λ e. let few = few_file e in omega (arith, high, few)) in
        let form = (node_form owner (suc level) (omega arith) in_inode in_file).0 in
        let low = lower_kind owner level in_inode in
        followed_by at z (Some OfNode) (ap form_of kind ∙ form) (ap verdict_of (ap node_at (sym same) ∙ node.spells)) (λ i inside unknown.
        let small = few_pointers (Some OfNode) z.block in
        let child = child_at blocks owner lv top level p i z.block (omega (arith, inside, small)) some high held in
        let stood = (pointer_unknown (pointer_at t level (fan * p + i)) (ap is_unknown child ∙ unknown)).0 in
        subst (λ (q : Pointer). LeadsBelow at z.kind q.vvbn) child (leads_at level (fan * p + i) z.kind stood (omega (arith, kind, low))))
      where
        v : ℕ
        v = (pointer_at t (suc level) p).vvbn

        z : Placed
        z = (its (suc level) p some).block

        held : blocks v ≡ Some z.block
        held = (its (suc level) p some).held

    cell_followed : owner ≢ greatest_word → (p : ℕ) (some : (pointer_at t 0 p).stamp ≢ 0) → IsFollowed at (its 0 p some).block
    cell_followed other p some =
        followed_by at (its 0 p some).block None (ap form_of (its_kind 0 p some ∙ file_kind owner 0 other)) refl
        (λ i inside unknown. absurd (omega (arith, inside)))

  -- ---- a table

  module _ (known : Bool) (slot : Slot) (count : ℕ) (root : Rooted) (lies : IsTableIn known blocks uses slot count root) where
    abbrev st : Standing
    st = standing_at blocks root.levels root.root

    abbrev inode : Tree
    inode = stored blocks greatest_word root.levels root.root

    few : root.levels ≤ 2
    few = few_levels count st lies.table

    small : (k : ℕ) (f : InodeRecord) → file_at inode k ≡ Some f → k ≢ greatest_word
    small k f found same =
        let low = lies.table.numbers k (file_told (tree_of st k f) f) (files_told st k ∙ told_by st [] k f found) in omega (arith, low, same)

    few_file : (k : ℕ) (f : InodeRecord) → file_at inode k ≡ Some f → f.levels ≤ 3
    few_file k f found = told_levels (tree_of st k f) f
        (lies.table.files k (file_told (tree_of st k f) f) (files_told st k ∙ told_by st [] k f found)).levels

    -- what a position of its inode file leads to
    abbrev in_inode : (level p : ℕ) → (pointer_at inode level p).stamp ≢ 0 → LiesAs at blocks uses (pointer_at inode level p).vvbn
    in_inode = its greatest_word root.levels root.root lies.trees.inode

    -- the root of the table leads below kind 8
    pub root_leads : is_unknown root.root ≡ true → LeadsBelow at 8 root.root.vvbn
    root_leads unknown =
        let top = root_at inode in
        let stood = (pointer_unknown (pointer_at inode root.levels 0) (ap is_unknown top ∙ unknown)).0 in
        subst (λ (q : Pointer). LeadsBelow at 8 q.vvbn) top
        (leads_at greatest_word root.levels root.root lies.trees.inode root.levels 0 8 stood (inode_kind root.levels few))

    -- an unknown root of a record leads below the kind of an inode block
    record_leads : (p i : ℕ) (block : List ℕ) (b : InodeBlock) → (pointer_at inode 0 p).stamp ≢ 0 → blocks (pointer_at inode 0 p).vvbn ≡ Some block
        → inodes_at block ≡ Ok b → i < 16 → is_unknown (get_or b.files i free_record).root ≡ true → LeadsBelow at 5 (get_or b.files i free_record).root.vvbn
    unfolding file_at records_in
    record_leads p i block b some held spells inside unknown =
        let kind = file_kind k r.levels (small k r found) in
        let low = few_file k r found in
        let top = root_at (stored blocks k r.levels r.root) in
        subst (λ (q : Pointer). LeadsBelow at 5 q.vvbn) top
        (leads_at k r.levels r.root (lies.trees.files k r found) r.levels 0 5
        (λ none. stood (sym (ap (λ (q : Pointer). q.stamp) top) ∙ none)) (omega (arith, kind, low)))
      where
        k : ℕ
        k = records_each * p + i

        r : InodeRecord
        r = get_or b.files i free_record

        stood : r.root.stamp ≢ 0
        stood = (pointer_unknown r.root unknown).0

        found : file_at inode k ≡ Some r
        found =
            let one : k / records_each ≡ p = omega (arith, inside) in
            let two : k % records_each ≡ i = omega (arith, inside) in
            let filled : r.name_length ≢ 0 = λ free. stood (records_bare block b spells i free) in
            let test : (r.name_length == 0) ≡ false = grind (arith, nat_tests, filled) in
            (λ j. used_record (get_or (records_in (block_at inode (one j))) (two j) free_record))
            ∙ ap (λ (o : Option (List ℕ)). used_record (get_or (records_in o) i free_record)) (stands inode p some refl ∙ held)
            ∙ ap (λ (c : Result InodeBlock Shape). used_record (get_or (records_of c) i free_record)) spells
            ∙ ap (λ (c : Bool). if c then None else Some r) test

    inode_followed : (p : ℕ) (some : (pointer_at inode 0 p).stamp ≢ 0) → IsFollowed at (in_inode 0 p some).block
    unfolding records_in
    inode_followed p some =
        let kind : z.kind ≡ 5 = its_kind greatest_word root.levels root.root lies.trees.inode 0 p some ∙ five in
        let indexed = lies.well.inodes p z.block (stands inode p some refl ∙ held) in
        let same : rs ≡ indexed.files = ap records_of indexed.spells in
        let sixteen : length rs ≡ 16 = ap (λ (qs : List InodeRecord). length qs) same ∙ sixteen_of z.block _ indexed.spells in
        followed_by at z (Some OfInodes) (ap form_of kind) (ap verdict_of indexed.spells) (λ i inside unknown.
        let long = length-map rs (λ (r : InodeRecord). r.root) in
        let root_is : (get_or indexed.files i free_record).root ≡ get_or (map (λ (r : InodeRecord). r.root) rs) i hole =
        ap (λ (qs : List InodeRecord). (get_or qs i free_record).root) (sym same) ∙ get_root rs i in
        let leads = record_leads p i z.block _ some held indexed.spells (omega (arith, inside, long, sixteen)) (ap is_unknown root_is ∙ unknown) in
        subst (λ (n : ℕ). LeadsBelow at n (get_or (map (λ (r : InodeRecord). r.root) rs) i hole).vvbn) (sym kind)
        (subst (λ (q : Pointer). LeadsBelow at 5 q.vvbn) root_is leads))
      where
        z : Placed
        z = (in_inode 0 p some).block

        rs : List InodeRecord
        rs = records_in (Some z.block)

        held : blocks (pointer_at inode 0 p).vvbn ≡ Some z.block
        held = (in_inode 0 p some).held

    -- What its slot has can be followed.
    module _ (v : ℕ) (z : Placed) (lie : at v ≡ Some z) where
      here : (w : ℕ) (one : LiesAs at blocks uses w) → w ≡ v → IsFollowed at one.block → IsFollowed at z
      here w one same is = subst (IsFollowed at) (same_Some one.block z (sym one.there ∙ ap at same ∙ lie)) is

      of_inode : (level p : ℕ) → (pointer_at inode level p).stamp ≢ 0 → (pointer_at inode level p).vvbn ≡ v → IsFollowed at z
      of_inode zero p some same = here _ (in_inode 0 p some) same (inode_followed p some)
      of_inode (suc level) p some same = here _ (in_inode (suc level) p some) same
          (node_followed greatest_word root.levels root.root lies.trees.inode (lies.well.trees None).positions (λ e. few) (λ ne. absurd (ne refl)) level p some)

      module _ (k : ℕ) (f : InodeRecord) (found : file_at inode k ≡ Some f) (positions : IsStoredWell (unread (stored blocks k f.levels f.root))) where
        of_file : (level p : ℕ) → (pointer_at (stored blocks k f.levels f.root) level p).stamp ≢ 0
            → (pointer_at (stored blocks k f.levels f.root) level p).vvbn ≡ v → IsFollowed at z
        of_file zero p some same = here _ (its k f.levels f.root (lies.trees.files k f found) 0 p some) same
            (cell_followed k f.levels f.root (lies.trees.files k f found) (small k f found) p some)
        of_file (suc level) p some same = here _ (its k f.levels f.root (lies.trees.files k f found) (suc level) p some) same
            (node_followed k f.levels f.root (lies.trees.files k f found) positions (λ e. absurd (small k f found e)) (λ ne. few_file k f found) level p some)

      abbrev Loads : ℕ → Option InodeRecord → Option Loaded
      Loads k o = option_map (λ r. unread (stored blocks k r.levels r.root)) o

      pub table_followed : has v slot ≡ true → IsFollowed at z
      table_followed had =
          let led = listed_at blocks root.levels root.root few v (sym (lies.reach v) ∙ had) in by led.owner led.level led.index led.some led.vvbn
        where
          in_file : (k level p : ℕ) (o : Option InodeRecord) → file_at inode k ≡ o → StoredIn known (Loads k o) → (pointer_in (Loads k o) level p).stamp ≢ 0
              → (pointer_in (Loads k o) level p).vvbn ≡ v → IsFollowed at z
          in_file k level p None found said some same = absurd (some refl)
          in_file k level p (Some f) found said some same = of_file k f found said.positions level p some same

          by : (o : Option ℕ) (level p : ℕ) → (pointer_in (stored_trees blocks root.levels root.root o) level p).stamp ≢ 0
              → (pointer_in (stored_trees blocks root.levels root.root o) level p).vvbn ≡ v → IsFollowed at z
          by None level p some same = of_inode level p some same
          by (Some k) level p some same = in_file k level p (file_at inode k) refl (lies.well.trees (Some k)) some same
