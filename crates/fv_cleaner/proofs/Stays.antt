-- The table of a root that lies whole in a slot lies whole in it after a block of the slot was cleaned, and is told as before.
use Rattle.std.proofs.Common.{◌≡◌, ◌≢◌, ℕ, zero, suc, ◌+◌, ◌/◌, ◌%◌, ◌≤◌, Bool, true, false, List, [], ◌∷◌, map, get_or, Option, Some, None, inl, refl, sym, ap, subst, ◌∙◌, arith, ⊎_elim}
use Rattle.std.specs.Prelude.{◌&&◌, ◌||◌, ◌==◌, if◌then◌else◌, min}
use Rattle.std.specs.List.{list_any}
use Rattle.std.specs.Option.{option_map}
use Rattle.std.proofs.lemmas.Bool.{cases_eq, both_ways}
use Rattle.std.proofs.lemmas.Bool.Decides.{nat_tests}
use Rattle.std.proofs.lemmas.Option.{none-some, same_Some}
use Rattle.fv_codec.specs.declared.form.Form.{Form}
use Rattle.fv_codec.specs.declared.form.Form.TheVariants.{Inodes as OfInodes}
use Rattle.fv_codec.specs.declared.pointer.Pointer.{Pointer}
use Rattle.fv_codec.specs.declared.inode.InodeRecord.{InodeRecord}
use Rattle.fv_codec.specs.Blocks.{greatest_word}
use Rattle.fv_laws.specs.Positions.{HasNoReserve}
use Rattle.fv_laws.specs.WellFormed.{IsWellTable}
use Rattle.fv_tables.specs.Alike.{hintless, hintless_item, hintless_record, AreAlike, RecordAlike}
use Rattle.fv_tables.specs.Reached.{Item, is_listed, items}
use Rattle.fv_tables.specs.Spelled.{Under, Rooted as Tree, stored, hole, pointer_at, block_at}
use Rattle.fv_tables.specs.Told.{Standing, file_at, file_told, free_record, records_each, records_in, standing_at, table_told, tree_of, tree_told}
use Rattle.fv_tables.proofs.AlikeTables.{alike_reach, alike_record, alike_table, stands}
use Rattle.fv_tables.proofs.Pointers.{no_block}
use Rattle.fv_tables.proofs.Tables.{files_told}
use Rattle.fv_tree.specs.Beside.{unread}
use Rattle.fv_tree.specs.Flushing.{IsRight, ReachesOnce, has_unknown_root, kind_for}
use Rattle.fv_tree.specs.Sources.{Use}
use Rattle.fv_inode.specs.Files.{IsInodesOf, NamesIndexes}
use Rattle.fv_files.specs.Apart.{IsAsSaid, LeadsFrom, LeadsIn, StoredIn, stored_trees}
use Rattle.fv_files.specs.Tables.{AreReached, IsStoredUnder}
use Rattle.fv_image.specs.Views.{Placed}
use Rattle.fv_image.specs.HintRules.{is_unknown}
use Rattle.fv_volmap.specs.Slots.{Slot, has}
use Rattle.fv_pool.specs.declared.rooted.Rooted.{Rooted}
use Rattle.fv_volume.specs.OneVolume.{IsTableIn}
use Rattle.fv_volume.specs.Sharing.{pointer_in}
use Rattle.fv_volume.proofs.Lookups.{told_by}
use Rattle.fv_places.specs.ByKind.{form_of, pointers_by}
use Rattle.fv_places.specs.Changed.{KeepsPosition}
use Rattle.fv_places.proofs.Descents.{record_at}
use Rattle.fv_places.proofs.Positions.{read_inodes}
use Rattle.fv_cleaner.specs.Searching.{Lies, holds_unknown, pointers_of}
use Rattle.fv_cleaner.specs.Staying.{CleansUnder, StaysInSlot, TableStays}
use Rattle.fv_cleaner.proofs.Moving.{From, Got, alike_nodes, from_block, got_clear, kind_is, origin, reached_now, said_now, same_pointer}

-- ---- lists

pub get_root : (rs : List InodeRecord) (i : ℕ) → (get_or rs i free_record).root ≡ get_or (map (λ (r : InodeRecord). r.root) rs) i hole
get_root [] zero = refl
get_root [] (suc i) = refl
get_root (r ∷ rs) zero = refl
get_root (r ∷ rs) (suc i) = get_root rs i

pub any_roots : (rs : List InodeRecord) → list_any is_unknown (map (λ (r : InodeRecord). r.root) rs) ≡ list_any (λ (r : InodeRecord). is_unknown r.root) rs
any_roots [] = refl
any_roots (r ∷ rs) = ap (λ (b : Bool). is_unknown r.root || b) (any_roots rs)

pub listed_bare : (es : List Item) (w : ℕ) → is_listed (map hintless_item es) w ≡ is_listed es w
listed_bare [] w = refl
listed_bare (e ∷ es) w = ap (λ (b : Bool). (e.pointer.vvbn == w) || b) (listed_bare es w)

-- ---- bounds that a well-formed table has

pub few_levels : (now : ℕ) (x : Standing) → IsWellTable now (table_told x) → x.inode.levels ≤ 2
unfolding table_told tree_told
few_levels now x well = well.levels

pub told_levels : (u : Tree) (r : InodeRecord) → (file_told u r).tree.levels ≤ 3 → u.levels ≤ 3
unfolding file_told tree_told
told_levels u r few = few

module _ (at : Lies) (old new : Under) (uses now : ℕ → Option Use) (v place : ℕ) (x : Placed) (block : List ℕ) (cleans : CleansUnder at old uses v x new now place block)
    (slot : Slot) (count : ℕ) (root : Rooted) (lies : IsTableIn false old uses slot count root) where
  abbrev st : Standing
  st = standing_at old root.levels root.root

  abbrev t : Tree
  t = stored old greatest_word root.levels root.root

  abbrev u : Tree
  u = stored new greatest_word root.levels root.root

  few : root.levels ≤ 2
  few = few_levels count st lies.table

  same_word : (greatest_word == greatest_word) ≡ true
  same_word = grind (arith, nat_tests)

  five : kind_for greatest_word 0 ≡ 5
  five = ap (λ (b : Bool). if b then 5 + min 0 2 else 1 + 0) same_word

  -- ---- files

  small : (k : ℕ) (f : InodeRecord) → file_at t k ≡ Some f → k ≢ greatest_word
  small k f found same = let low = lies.table.numbers k (file_told (tree_of st k f) f) (files_told st k ∙ told_by st [] k f found) in omega (arith, low, same)

  few_file : (k : ℕ) (f : InodeRecord) → file_at t k ≡ Some f → f.levels ≤ 3
  few_file k f found = told_levels (tree_of st k f) f (lies.table.files k (file_told (tree_of st k f) f) (files_told st k ∙ told_by st [] k f found)).levels

  said_file : (k : ℕ) (f : InodeRecord) → file_at t k ≡ Some f → IsAsSaid false (unread (stored old k f.levels f.root))
  said_file k f found = subst (λ (o : Option InodeRecord). StoredIn false (option_map (λ r. unread (stored old k r.levels r.root)) o)) found (lies.well.trees (Some k))

  one : (k : ℕ) (f : InodeRecord) → file_at t k ≡ Some f → k ≡ greatest_word → f.levels ≤ 2
  one k f found same = absurd (small k f found same)

  -- ---- the inode file

  inode_pointers : (level p : ℕ) → hintless (pointer_at u level p) ≡ hintless (pointer_at t level p)
  inode_pointers = same_pointer at old new uses now v place x block cleans greatest_word root.levels root.root root.root refl (inl refl) lies.trees.inode (λ e. few) (λ ne. absurd (ne refl)) (lies.well.trees None)

  inode_stamp : (level p : ℕ) → (pointer_at u level p).stamp ≢ 0 → (pointer_at t level p).stamp ≢ 0
  inode_stamp level p some none = some (ap (λ (q : Pointer). q.stamp) (inode_pointers level p) ∙ none)

  inode_vvbn : (level p : ℕ) → (pointer_at u level p).vvbn ≡ (pointer_at t level p).vvbn
  inode_vvbn level p = ap (λ (q : Pointer). q.vvbn) (inode_pointers level p)

  inode_kind : (level p : ℕ) → (pointer_at t level p).stamp ≢ 0 → (pointer_at t level p).vvbn ≡ v → x.kind ≡ kind_for greatest_word level
  inode_kind = kind_is at old new uses now v place x block cleans greatest_word root.levels root.root root.root refl (inl refl) lies.trees.inode (λ e. few) (λ ne. absurd (ne refl)) (lies.well.trees None)

  -- an inode block that was cleaned
  inode_form : (p : ℕ) → (pointer_at t 0 p).stamp ≢ 0 → (pointer_at t 0 p).vvbn ≡ v → form_of x.kind ≡ Some OfInodes
  inode_form p some same = ap form_of (inode_kind 0 p some same ∙ five)

  records_alike : (p : ℕ) → (pointer_at t 0 p).stamp ≢ 0 → RecordAlike (old (pointer_at t 0 p).vvbn) (new (pointer_at t 0 p).vvbn)
  records_alike p some = ⊎_elim
      (λ (same : (pointer_at t 0 p).vvbn ≡ v). subst (λ (n : ℕ). RecordAlike (old n) (new n)) (sym same) (subst (λ (o : Option (List ℕ)). RecordAlike o (new v)) (sym cleans.there) (subst (λ (o : Option (List ℕ)). RecordAlike (Some x.block) o) (sym cleans.here)
      (cleans.fills.says.inodes (inode_kind 0 p some same ∙ five)))))
      (λ other. subst (λ (o : Option (List ℕ)). RecordAlike (old (pointer_at t 0 p).vvbn) o) (sym (cleans.others (pointer_at t 0 p).vvbn other)) refl)
      (cases_eq (pointer_at t 0 p).vvbn v)

  pub alike : AreAlike old new root.levels root.root
  alike = record {
    nodes = alike_nodes at old new uses now v place x block cleans greatest_word root.levels root.root root.root refl (inl refl) lies.trees.inode (λ e. few) (λ ne. absurd (ne refl)) (lies.well.trees None);
    inodes = records_alike;
    file_nodes = λ k f found. alike_nodes at old new uses now v place x block cleans k f.levels f.root f.root refl (inl refl) (lies.trees.files k f found) (one k f found) (λ ne. few_file k f found) (said_file k f found);
    cells = λ k f found index some. cleans.others _ (λ same.
        let kind = kind_is at old new uses now v place x block cleans k f.levels f.root f.root refl (inl refl) (lies.trees.files k f found) (one k f found) (λ ne. few_file k f found) (said_file k f found) 0 index some same in
        let test : (k == greatest_word) ≡ false = (let ne = small k f found in grind (arith, nat_tests, ne)) in
        let is : kind_for k 0 ≡ 1 = ap (λ (b : Bool). if b then 5 + min 0 2 else 1 + 0) test in
        let least = cleans.next.unclear.least in
        omega (arith, kind, is, least));
  }

  told_now : table_told (standing_at new root.levels root.root) ≡ table_told st
  told_now = alike_table old new root.levels root.root root.root refl alike

  -- ---- a file's root

  record Was (k : ℕ) (g : InodeRecord) : Type 0 where
    file : InodeRecord
    found : file_at t k ≡ Some file
    same : hintless_record g ≡ hintless_record file

  was_file : (k : ℕ) (g : InodeRecord) → file_at u k ≡ Some g → Was k g
  was_file k g found = by (file_at t k) refl (sym (alike_record old new root.levels root.root root.root refl alike k) ∙ ap (option_map hintless_record) found)
    where
      by : (o : Option InodeRecord) → file_at t k ≡ o → option_map hintless_record o ≡ Some (hintless_record g) → Was k g
      by None at e = absurd cc
      by (Some f) at e = record { file = f; found = at; same = sym (same_Some (hintless_record f) (hintless_record g) e) }

  from_root : (k : ℕ) (g : InodeRecord) → file_at u k ≡ Some g → (f : InodeRecord) → file_at t k ≡ Some f → From at old new uses now v place x block cleans f.root g.root
  from_root k g now_there f there = ⊎_elim
      (λ (same : (pointer_at t 0 (k / records_each)).vvbn ≡ v).
      let form = inode_form (k / records_each) was.0 same in
      let first : f.root ≡ get_or (pointers_of x) (k % records_each) hole =
      ap (λ (r : InodeRecord). r.root) was.1 ∙ ap (λ (o : Option (List ℕ)). (get_or (records_in o) (k % records_each) free_record).root) (ap old same ∙ cleans.there) ∙ get_root (records_in (Some x.block)) (k % records_each)
      ∙ ap (λ (o : Option Form). get_or (pointers_by o x.block) (k % records_each) hole) (sym form) in
      let second : g.root ≡ get_or (pointers_by (form_of x.kind) block) (k % records_each) hole =
      ap (λ (r : InodeRecord). r.root) is ∙ ap (λ (o : Option (List ℕ)). (get_or (records_in o) (k % records_each) free_record).root) (ap new same ∙ cleans.here) ∙ get_root (records_in (Some block)) (k % records_each)
      ∙ ap (λ (o : Option Form). get_or (pointers_by o block) (k % records_each) hole) (sym form) in
      subst (λ (a : Pointer). From at old new uses now v place x block cleans a g.root) (sym first)
      (subst (From at old new uses now v place x block cleans (get_or (pointers_of x) (k % records_each) hole)) (sym second) (from_block at old new uses now v place x block cleans (k % records_each))))
      (λ other. inl (ap (λ (r : InodeRecord). r.root) (is ∙ ap (λ (o : Option (List ℕ)). get_or (records_in o) (k % records_each) free_record) (cleans.others (pointer_at t 0 (k / records_each)).vvbn other) ∙ sym was.1)))
      (cases_eq (pointer_at t 0 (k / records_each)).vvbn v)
    where
      was : ((pointer_at t 0 (k / records_each)).stamp ≢ 0) × (f ≡ get_or (records_in (old (pointer_at t 0 (k / records_each)).vvbn)) (k % records_each) free_record)
      was = record_at old root.levels root.root k f there

      is : g ≡ get_or (records_in (new (pointer_at t 0 (k / records_each)).vvbn)) (k % records_each) free_record
      is = (record_at new root.levels root.root k g now_there).1 ∙ ap (λ (n : ℕ). get_or (records_in (new n)) (k % records_each) free_record) (inode_vvbn 0 (k / records_each))

  levels_same : (f g : InodeRecord) → hintless_record g ≡ hintless_record f → g.levels ≡ f.levels
  levels_same f g same = ap (λ (r : InodeRecord). r.levels) same

  root_same : (f g : InodeRecord) → hintless_record g ≡ hintless_record f → hintless g.root ≡ hintless f.root
  root_same f g same = ap (λ (r : InodeRecord). r.root) same

  -- ---- its trees stand on the blocks

  file_reached : (k : ℕ) (g : InodeRecord) → file_at u k ≡ Some g → ReachesOnce now (stored new k g.levels g.root)
  file_reached k g found =
      let w = was_file k g found in
      subst (λ (l : ℕ). ReachesOnce now (stored new k l g.root)) (sym (levels_same w.file g w.same))
      (reached_now at old new uses now v place x block cleans k w.file.levels w.file.root g.root (root_same w.file g w.same) (from_root k g found w.file w.found) (lies.trees.files k w.file w.found) (one k w.file w.found) (λ ne. few_file k w.file w.found) (said_file k w.file w.found))

  file_pointers : (k : ℕ) (g : InodeRecord) (found : file_at u k ≡ Some g) (w : Was k g) (level p : ℕ) → hintless (pointer_at (stored new k g.levels g.root) level p) ≡ hintless (pointer_at (stored old k w.file.levels w.file.root) level p)
  file_pointers k g found w level p = ap (λ (l : ℕ). hintless (pointer_at (stored new k l g.root) level p)) (levels_same w.file g w.same)
      ∙ same_pointer at old new uses now v place x block cleans k w.file.levels w.file.root g.root (root_same w.file g w.same) (from_root k g found w.file w.found) (lies.trees.files k w.file w.found) (one k w.file w.found) (λ ne. few_file k w.file w.found) (said_file k w.file w.found) level p

  leads_was : (a : Option ℕ) (n : ℕ) → LeadsFrom (stored_trees new root.levels root.root) a n → LeadsFrom (stored_trees old root.levels root.root) a n
  leads_was None n leads = record {
    level = leads.level;
    place = leads.place;
    leads = record { some = inode_stamp leads.level leads.place leads.leads.some; placed = refl; vvbn = sym (inode_vvbn leads.level leads.place) ∙ leads.leads.vvbn };
  }
  leads_was (Some k) n leads = by (file_at u k) refl leads
    where
      by : (o : Option InodeRecord) → file_at u k ≡ o → LeadsIn (option_map (λ r. unread (stored new k r.levels r.root)) o) n → LeadsIn (option_map (λ r. unread (stored old k r.levels r.root)) (file_at t k)) n
      by None found led = absurd led
      by (Some g) found led =
          let w = was_file k g found in
          let same = file_pointers k g found w led.level led.place in
          subst (λ (o : Option InodeRecord). LeadsIn (option_map (λ r. unread (stored old k r.levels r.root)) o) n) (sym w.found) (record {
            level = led.level;
            place = led.place;
            leads = record { some = λ none. led.leads.some (ap (λ (q : Pointer). q.stamp) same ∙ none); placed = refl; vvbn = sym (ap (λ (q : Pointer). q.vvbn) same) ∙ led.leads.vvbn };
          })

  pub trees_now : AreReached new now root.levels root.root
  trees_now = record {
    inode = reached_now at old new uses now v place x block cleans greatest_word root.levels root.root root.root refl (inl refl) lies.trees.inode (λ e. few) (λ ne. absurd (ne refl)) (lies.well.trees None);
    files = file_reached;
    apart = λ a b n other first second. lies.trees.apart a b n other (leads_was a n first) (leads_was b n second);
  }

  -- ---- they are stored well

  -- an inode block, before
  block_was : (p : ℕ) (b : List ℕ) → (pointer_at t 0 p).stamp ≢ 0 → old (pointer_at t 0 p).vvbn ≡ Some b → block_at t p ≡ Some b
  block_was p b some there = stands t p some refl ∙ there

  roots_now : (p : ℕ) (b : List ℕ) → (pointer_at u 0 p).stamp ≢ 0 → block_at u p ≡ Some b → has_unknown_root greatest_word b ≡ true → (pointer_at u 0 p).pvbn ≡ 0
  roots_now p b some held unknown = ⊎_elim
      (λ (same : (pointer_at t 0 p).vvbn ≡ v).
      let is : block ≡ b = same_Some block b (sym cleans.here ∙ sym (ap new same) ∙ there) in
      let none : list_any is_unknown (map (λ (r : InodeRecord). r.root) (records_in (Some block))) ≡ false = ap (λ (o : Option Form). list_any is_unknown (pointers_by o block)) (sym (inode_form p stood same)) ∙ cleans.fills.known in
      absurd (both_ways (list_any (λ (r : InodeRecord). is_unknown r.root) (records_in (Some b))) (sym (any_roots (records_in (Some b))) ∙ ap (λ (c : List ℕ). list_any is_unknown (map (λ (r : InodeRecord). r.root) (records_in (Some c)))) (sym is) ∙ none) any))
      (λ (other : (pointer_at t 0 p).vvbn ≢ v).
      let was : old (pointer_at t 0 p).vvbn ≡ Some b = sym (cleans.others (pointer_at t 0 p).vvbn other) ∙ there in
      let above : (pointer_at t 0 p).pvbn ≡ 0 = (lies.well.trees None).leads.roots p b stood refl (block_was p b stood was) unknown in
      ⊎_elim
      (λ (stays : pointer_at u 0 p ≡ pointer_at t 0 p). ap (λ (q : Pointer). q.pvbn) stays ∙ above)
      (λ (got : Got at old new uses now v place x block cleans (pointer_at t 0 p) (pointer_at u 0 p)). absurd (never got was))
      (origin at old new uses now v place x block cleans greatest_word root.levels root.root root.root refl (inl refl) lies.trees.inode (λ e. few) (λ ne. absurd (ne refl)) (lies.well.trees None) 0 p stood))
      (cases_eq (pointer_at t 0 p).vvbn v)
    where
      stood : (pointer_at t 0 p).stamp ≢ 0
      stood = inode_stamp 0 p some

      there : new (pointer_at t 0 p).vvbn ≡ Some b
      there = ap new (sym (inode_vvbn 0 p)) ∙ sym (stands u p some refl) ∙ held

      any : list_any (λ (r : InodeRecord). is_unknown r.root) (records_in (Some b)) ≡ true
      any = sym (ap (λ (c : Bool). c && list_any (λ (r : InodeRecord). is_unknown r.root) (records_in (Some b))) same_word) ∙ unknown

      never : Got at old new uses now v place x block cleans (pointer_at t 0 p) (pointer_at u 0 p) → old (pointer_at t 0 p).vvbn ≡ Some b → ⊥
      never got was =
          let used = cleans.lies (pointer_at t 0 p).vvbn got.gets.block got.gets.there (lies.trees.inode.held 0 p stood) in
          let kind : got.gets.block.kind ≡ 5 = (subst (IsRight (kind_for greatest_word 0) (pointer_at t 0 p)) used.1 (lies.trees.inode.used 0 p stood)).1 ∙ five in
          let clear = got_clear at old new uses now v place x block cleans (pointer_at t 0 p) (pointer_at u 0 p) got (omega (arith, kind, got.gets.lower)) in
          let same : clear.block ≡ got.gets.block = same_Some clear.block got.gets.block (sym clear.there ∙ got.gets.there) in
          let none : holds_unknown got.gets.block ≡ false = ap holds_unknown (sym same) ∙ clear.none in
          let is : got.gets.block.block ≡ b = same_Some got.gets.block.block b (sym used.0 ∙ was) in
          both_ways (list_any (λ (r : InodeRecord). is_unknown r.root) (records_in (Some b)))
          (sym (any_roots (records_in (Some b))) ∙ ap (λ (c : List ℕ). list_any is_unknown (map (λ (r : InodeRecord). r.root) (records_in (Some c)))) (sym is)
          ∙ ap (λ (o : Option Form). list_any is_unknown (pointers_by o got.gets.block.block)) (sym (ap form_of kind)) ∙ none) any

  indexes_now : NamesIndexes u
  indexes_now index b held = ⊎_elim
      (λ (none : (pointer_at u 0 index).stamp ≡ 0). absurd (none-some b (sym (no_block u index none) ∙ held)))
      (λ (some : (pointer_at u 0 index).stamp ≢ 0).
      let stood = inode_stamp 0 index some in
      let there : new (pointer_at t 0 index).vvbn ≡ Some b = ap new (sym (inode_vvbn 0 index)) ∙ sym (stands u index some refl) ∙ held in ⊎_elim
      (λ (same : (pointer_at t 0 index).vvbn ≡ v).
      let was = lies.well.inodes index x.block (block_was index x.block stood (ap old same ∙ cleans.there)) in
      let keeps : KeepsPosition (Some OfInodes) x.block block = subst (λ (f : Option Form). KeepsPosition f x.block block) (inode_form index stood same) cleans.fills.position in
      let now_is = read_inodes x.block _ (record { index = index; files = was.files }) keeps was.spells in
      subst (IsInodesOf index) (same_Some block b (sym cleans.here ∙ sym (ap new same) ∙ there)) (record { files = now_is.0; spells = now_is.1 }))
      (λ (other : (pointer_at t 0 index).vvbn ≢ v). lies.well.inodes index b (block_was index b stood (sym (cleans.others (pointer_at t 0 index).vvbn other) ∙ there)))
      (cases_eq (pointer_at t 0 index).vvbn v))
      (cases_eq (pointer_at u 0 index).stamp 0)

  no_roots : (k : ℕ) (b : List ℕ) → k ≢ greatest_word → has_unknown_root k b ≡ true → ⊥
  no_roots k b other unknown =
      let test : (k == greatest_word) ≡ false = grind (arith, nat_tests, other) in
      let wrong : false ≡ true = sym (ap (λ (c : Bool). c && list_any (λ (r : InodeRecord). is_unknown r.root) (records_in (Some b))) test) ∙ unknown in cc

  file_said : (k : ℕ) (g : InodeRecord) → file_at u k ≡ Some g → IsAsSaid false (unread (stored new k g.levels g.root))
  file_said k g found =
      let w = was_file k g found in
      subst (λ (l : ℕ). IsAsSaid false (unread (stored new k l g.root))) (sym (levels_same w.file g w.same))
      (said_now at old new uses now v place x block cleans k w.file.levels w.file.root g.root (root_same w.file g w.same) (from_root k g found w.file w.found) (lies.trees.files k w.file w.found) (one k w.file w.found) (λ ne. few_file k w.file w.found) (said_file k w.file w.found)
      (λ p b some held unknown. absurd (no_roots k b (small k w.file w.found) unknown)))

  pub well_now : IsStoredUnder false new root.levels root.root
  well_now = record { trees = each; inodes = indexes_now }
    where
      each : (a : Option ℕ) → StoredIn false (stored_trees new root.levels root.root a)
      each None = said_now at old new uses now v place x block cleans greatest_word root.levels root.root root.root refl (inl refl) lies.trees.inode (λ e. few) (λ ne. absurd (ne refl)) (lies.well.trees None) roots_now
      each (Some k) = by (file_at u k) refl
        where
          by : (o : Option InodeRecord) → file_at u k ≡ o → StoredIn false (option_map (λ r. unread (stored new k r.levels r.root)) o)
          by None found = tt
          by (Some g) found = file_said k g found

  -- ---- the slot has what it reaches

  reach_now : (w : ℕ) → has w slot ≡ is_listed (items (standing_at new root.levels root.root)) w
  reach_now w = lies.reach w ∙ sym (listed_bare (items st) w) ∙ ap (λ (es : List Item). is_listed es w) (sym (alike_reach old new root.levels root.root root.root refl alike)) ∙ listed_bare (items (standing_at new root.levels root.root)) w

  -- ---- each pointer is the same but for its place

  trees_alike : (o : Option ℕ) (level p : ℕ) → hintless (pointer_in (stored_trees new root.levels root.root o) level p) ≡ hintless (pointer_in (stored_trees old root.levels root.root o) level p)
  trees_alike None level p = inode_pointers level p
  trees_alike (Some k) level p = by (file_at u k) refl
    where
      by : (o : Option InodeRecord) → file_at u k ≡ o → hintless (pointer_in (option_map (λ r. unread (stored new k r.levels r.root)) o) level p) ≡ hintless (pointer_in (option_map (λ r. unread (stored old k r.levels r.root)) (file_at t k)) level p)
      by None found = none (file_at t k) (sym (alike_record old new root.levels root.root root.root refl alike k) ∙ ap (option_map hintless_record) found)
        where
          none : (o : Option InodeRecord) → option_map hintless_record o ≡ None → hintless hole ≡ hintless (pointer_in (option_map (λ r. unread (stored old k r.levels r.root)) o) level p)
          none None e = refl
          none (Some f) e = absurd (none-some (hintless_record f) (sym e))
      by (Some g) found =
          let w = was_file k g found in
          file_pointers k g found w level p ∙ sym (ap (λ (o : Option InodeRecord). hintless (pointer_in (option_map (λ r. unread (stored old k r.levels r.root)) o) level p)) w.found)

  pub stays_now : TableStays old new now slot count root
  stays_now = record {
    lies = record {
      table = subst (IsWellTable count) (sym told_now) lies.table;
      reserves = subst HasNoReserve (sym told_now) lies.reserves;
      trees = trees_now;
      well = well_now;
      reach = reach_now;
    };
    told = told_now;
    pointers = trees_alike;
  }

-- So a table stays in its slot.
pub stays_in_slot : StaysInSlot
stays_in_slot at old new uses now v place x block cleans slot count root lies = stays_now at old new uses now v place x block cleans slot count root lies
