-- The roots of files in an inode block: their places are known, where every place is known and all that the files' trees lead to is as their
-- pointers say.
--
-- An example: the record of file 3 has the root with VVBN 9. Nothing of file 3 is in memory, and each pointer of its tree tells its place.
-- The first of those is the root itself.
use Rattle.std.proofs.Common.{◌≡◌, ◌≢◌, ◌<◌, ◌+◌, ◌*◌, ℕ, suc, inl, inr, Bool, true, false, not, ◌&&◌, ◌||◌, ◌==◌, length, get_or, drop, Ok, Err, Result, refl, sym, ap, subst, ◌∙◌, arith}
use Rattle.std.specs.Prelude.{List, [], ◌∷◌, Some, None, IfOk, is_ok, if◌then◌else◌}
use Rattle.std.specs.Option.{option_map}
use Rattle.std.specs.List.{list_any}
use Rattle.std.proofs.lemmas.Bool.{cases_eq}
use Rattle.std.proofs.lemmas.Bool.Decides.{nat_tests}
use Rattle.fv_codec.specs.declared.shape.Shape.{Shape}
use Rattle.fv_codec.specs.declared.pointer.Pointer.{Pointer}
use Rattle.fv_codec.specs.declared.inode.InodeRecord.{InodeRecord}
use Rattle.fv_codec.specs.declared.inode.InodeBlock.{InodeBlock}
use Rattle.fv_codec.specs.Bytes.{byte_at, word_at}
use Rattle.fv_codec.specs.Fields.{up_to}
use Rattle.fv_codec.specs.Blocks.{greatest_word, pointer_fields, asks_pointer, pointer_of, is_used, file_fields, asks_file, file_of, inodes_at}
use Rattle.fv_codec.proofs.Ranges.{as_said, within}
use Rattle.fv_codec.proofs.Picked.{record_of, record_said}
use Rattle.fv_codec.proofs.Renewed.{sixteen_of}
use Rattle.fv_tables.specs.Spelled.{Rooted, pointer_at, stored}
use Rattle.fv_tables.specs.Told.{free_record, records_in, used_record, records_of, file_at}
use Rattle.fv_tree.specs.Sources.{Shown}
use Rattle.fv_tree.specs.Standing.{under}
use Rattle.fv_tree.specs.Flushing.{Loaded, loaded, has_unknown_root, is_unknown}
use Rattle.fv_tree.specs.Beside.{unread}
use Rattle.fv_tree.specs.Stored.{TellsPlaces}
use Rattle.fv_tree.specs.Unknown.{KnowsRoots}
use Rattle.fv_tree.proofs.Ways.{own_way}
use Rattle.fv_inode.specs.Files.{rooted}
use Rattle.fv_inode.proofs.Slots.{file_is}
use Rattle.fv_files.specs.declared.files.Files.{Files}
use Rattle.fv_files.specs.Apart.{IsAsSaid, StoredIn}
use Rattle.fv_files.specs.Tables.{tree_in, file_loaded, loaded_trees, IsStored}

-- ---- tests

and_false : (b : Bool) → (b && false) ≡ false
and_false true = refl
and_false false = refl

pub not_unknown : (p : Pointer) → (p.stamp ≢ 0 → p.pvbn ≢ 0) → is_unknown p ≡ false
not_unknown p known = elim (cases_eq p.stamp 0) [
  | inl none ↦ ap (λ k. not (k == 0) && (p.pvbn == 0)) none
  | inr some ↦
      let there : p.pvbn ≢ 0 = known some in
      let test : (p.pvbn == 0) ≡ false = grind (arith, nat_tests, there) in
      ap (λ b. not (p.stamp == 0) && b) test ∙ and_false (not (p.stamp == 0))
]

none_by : (test : InodeRecord → Bool) (xs : List InodeRecord) (d : InodeRecord) → ((k : ℕ) → k < length xs → test (get_or xs k d) ≡ false) → list_any test xs ≡ false
none_by test [] d each = refl
none_by test (x ∷ xs) d each = ap (λ b. b || list_any test xs) (each 0 (omega arith)) ∙ none_by test xs d (λ k lt. each (suc k) (omega (arith, lt)))

-- ---- a tree that isn't an inode file

pub file_roots : (s : Loaded) → s.tree.owner ≢ greatest_word → KnowsRoots s
file_roots s other place block changed at =
    let test : (s.tree.owner == greatest_word) ≡ false = grind (arith, nat_tests, other) in
    ap (λ b. b && list_any (λ (r : InodeRecord). is_unknown r.root) (records_in (Some block))) test

-- ---- an inode block

-- the root of a free record is a hole
free_hole : (item : List ℕ) → asks_file item ≡ Ok tt → (file_of item).name_length ≡ 0 → (file_of item).root.stamp ≡ 0
unfolding asks_file file_of asks_pointer pointer_of
free_hole item said free =
    let used = is_used (byte_at 0 item) in
    let fields = as_said (file_fields item) item said in
    let root = as_said (pointer_fields used (drop 96 item)) (drop 96 item) fields.1.1.1.1.1.1.0 in
    let most : up_to (is_used (byte_at 0 item)) greatest_word ≡ 0 = ap (λ k. up_to (is_used k) greatest_word) free in
    let range = (within 0 (up_to (is_used (byte_at 0 item)) greatest_word) (word_at 16 (drop 96 item)) root.1.1.0).1 in
    omega (arith, range, most)

free_in : (block : List ℕ) (b : InodeBlock) (k : ℕ) → inodes_at block ≡ Ok b → k < 16 → (get_or b.files k free_record).name_length ≡ 0 → (get_or b.files k free_record).root.stamp ≡ 0
free_in block b k spells lt =
    let item = drop (256 + 240 * k) block in
    let is : get_or b.files k free_record ≡ file_of item = subst (λ o. IfOk o (λ c. get_or c.files k free_record ≡ file_of item)) spells (record_of block k (file_of item) lt refl free_record) in
    subst (λ (r : InodeRecord). r.name_length ≡ 0 → r.root.stamp ≡ 0) (sym is) (free_hole item (record_said block k lt (ap is_ok spells)))

-- where each record in use has a known root, each record has
pub block_roots : (owner : ℕ) (block : List ℕ) → ((k : ℕ) (r : InodeRecord) → k < 16 → used_record (get_or (records_in (Some block)) k free_record) ≡ Some r → r.root.stamp ≢ 0 → r.root.pvbn ≢ 0) → has_unknown_root owner block ≡ false
unfolding records_in
block_roots owner block known = ap (λ b. (owner == greatest_word) && b) (by (inodes_at block) refl) ∙ and_false (owner == greatest_word)
  where
    by : (o : Result InodeBlock Shape) → inodes_at block ≡ o → list_any (λ (r : InodeRecord). is_unknown r.root) (records_of (inodes_at block)) ≡ false
    by (Err fault) at = ap (λ o. list_any (λ (r : InodeRecord). is_unknown r.root) (records_of o)) at
    by (Ok b) at = ap (λ o. list_any (λ (r : InodeRecord). is_unknown r.root) (records_of o)) at ∙ none_by (λ (r : InodeRecord). is_unknown r.root) b.files free_record (λ k lt.
        let long = sixteen_of block b at in
        let low : k < 16 = omega (arith, lt, long) in
        let r = get_or b.files k free_record in
        elim (cases_eq r.name_length 0) [
          | inl free ↦ not_unknown r.root (λ some. absurd (some (free_in block b k at low free)))
          | inr used ↦
              let test : (r.name_length == 0) ≡ false = grind (arith, nat_tests, used) in
              not_unknown r.root (known k r low (ap (λ o. used_record (get_or (records_of o) k free_record)) at ∙ ap (λ c. if c then None else Some r) test))
        ])

-- ---- a table of which no file's tree is in memory

-- a tree that tells its places tells that of its root
root_known : (t : Rooted) → TellsPlaces (unread t) → t.root.stamp ≢ 0 → t.root.pvbn ≢ 0
root_known t tells some none =
    let top : pointer_at t t.levels 0 ≡ t.root = (own_way t).top 0 in
    tells t.levels 0 (pointer_at t t.levels 0).vvbn (record { some = λ e. some (sym (ap (λ (p : Pointer). p.stamp) top) ∙ e); placed = refl; vvbn = refl }) (ap (λ (p : Pointer). p.pvbn) top ∙ none)

pub table_roots : (source : Shown) (f : Files) → ((n : ℕ) → tree_in f n ≡ None) → IsStored true source f → KnowsRoots (loaded source f.inode.tree)
table_roots source f none well place block changed at = block_roots f.inode.tree.owner block (λ k r lt used.
    let n = 16 * place + k in
    let there : file_at (rooted source f.inode) n ≡ Some r = file_is (rooted source f.inode) place k lt ∙ ap (λ b. used_record (get_or (records_in b) k free_record)) at ∙ used in
    let is : loaded_trees (under source) f (Some n) ≡ Some (unread (stored (under source) n r.levels r.root)) = (λ j. option_map (λ r. file_loaded (under source) n r (none n j)) (there j)) in
    let own : IsAsSaid true (unread (stored (under source) n r.levels r.root)) = subst (StoredIn true) is (well.trees (Some n)) in
    root_known (stored (under source) n r.levels r.root) (own.places refl))
