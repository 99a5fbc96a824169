-- The records of an inode block by the numbers of their files.
use Rattle.std.proofs.Common.{◌≡◌, ◌≢◌, ℕ, ◌+◌, ◌-◌, ◌*◌, ◌/◌, ◌%◌, ◌^◌, ◌<◌, ◌≤◌, Bool, true, false, List, [], ◌∷◌, length, get_or, replicate, refl, sym, ap, ◌∙◌, arith, ⊎_elim, zero, suc}
use Rattle.std.specs.Prelude.{Option, Some, None, Result, Ok, Err, IfOk, is_ok, is_some, ◌==◌, ◌&&◌, slice_set, if◌then◌else◌}
use Rattle.std.specs.Option.{option_map}
use Rattle.std.proofs.Math.Nat.{div-add-mod}
use Rattle.std.proofs.lemmas.Nat.{le-div, pow-add}
use Rattle.std.proofs.lemmas.Bool.{cases_lt, both_ways}
use Rattle.std.proofs.lemmas.Bool.Decides.{nat_tests}
use Rattle.std.proofs.lemmas.List.{get_or-set_same, get_or-replicate, get_or_default, length-set}
use Rattle.fv_codec.specs.declared.shape.Shape.{Shape}
use Rattle.fv_codec.specs.declared.inode.InodeRecord.{InodeRecord}
use Rattle.fv_codec.specs.declared.inode.InodeBlock.{InodeBlock}
use Rattle.fv_codec.specs.Blocks.{all_free, inodes_at, IsInodeRecord}
use Rattle.fv_model.specs.Trees.{fan}
use Rattle.fv_tables.specs.Spelled.{Rooted, pointer_at, stamp_in, block_or, block_at}
use Rattle.fv_tables.specs.Told.{records_each, records_of, records_in, free_record, used_record, file_at}
use Rattle.fv_tables.proofs.Tables.{no_file}
use Rattle.fv_tables.proofs.Pointers.{past, no_block}
use Rattle.fv_codec.specs.declared.pointer.Pointer.{Pointer}
use Rattle.fv_inode.specs.Files.{AreRecords, blank_record}
use Rattle.fv_tree.specs.Writing.{IsAlike}
use Rattle.fv_tree.specs.Flushing.{Loaded}
use Rattle.fv_tree.specs.Lookups.{load_cost, place_cost, cost_below, way_cost}
use Rattle.fv_tree.proofs.Levels.{fan_pos}
use Rattle.fv_codec.specs.Fields.{name_filled, all_name, all_zero}

-- ---- numbers

pub cell_of : (cell k : ℕ) → k < 16 → (16 * cell + k) / 16 ≡ cell
cell_of cell k lt = omega (arith, lt)

pub slot_of : (cell k : ℕ) → k < 16 → (16 * cell + k) % 16 ≡ k
slot_of cell k lt = omega (arith, lt)

pub number_of : (n : ℕ) → 16 * (n / 16) + n % 16 ≡ n
number_of n = div-add-mod n 16

-- ---- records

pub file_is : (t : Rooted) (cell k : ℕ) → k < 16 → file_at t (16 * cell + k) ≡ used_record (get_or (records_in (block_at t cell)) k free_record)
unfolding file_at
file_is t cell k lt = λ i. used_record (get_or (records_in (block_at t (cell_of cell k lt i))) (slot_of cell k lt i) free_record)

-- the records of a block that is an inode block
pub inodes_of : (block : List ℕ) (b : InodeBlock) → inodes_at block ≡ Ok b → records_in (Some block) ≡ b.files
unfolding records_in
inodes_of block b is = ap records_of is

no_record : (k : ℕ) → used_record (get_or (records_in None) k free_record) ≡ None
unfolding records_in
no_record k = refl

-- one of its records, which was read alone
pub own_file : (block : List ℕ) (slot : ℕ) (r : InodeRecord) → true ≡ is_ok (inodes_at block) → ((d : InodeRecord) → IfOk (inodes_at block) (λ b. get_or b.files slot d ≡ r)) → get_or (records_in (Some block)) slot free_record ≡ r
unfolding records_in
own_file block slot r ok is = by (inodes_at block) ok (is free_record)
  where
    by : (o : Result InodeBlock Shape) → true ≡ is_ok o → IfOk o (λ b. get_or b.files slot free_record ≡ r) → get_or (records_of o) slot free_record ≡ r
    by (Ok b) ok is = is
    by (Err shape) ok is = absurd cc

-- the record of a number by that of its block
pub own_used : (t : Rooted) (n : ℕ) (o : Option (List ℕ)) (r : InodeRecord) → block_at t (n / 16) ≡ o → get_or (records_in o) (n % 16) free_record ≡ r → used_record r ≡ file_at t n
unfolding file_at
own_used t n o r at is = sym (ap (λ b. used_record (get_or (records_in b) (n % records_each) free_record)) at ∙ ap used_record is)

-- a number without a block has no file
pub own_none : (t : Rooted) (n : ℕ) (r : InodeRecord) → block_at t (n / 16) ≡ None → r ≡ blank_record → used_record r ≡ file_at t n
unfolding file_at
own_none t n r none is = ap used_record is ∙ sym (ap (λ b. used_record (get_or (records_in b) (n % records_each) free_record)) none ∙ no_record (n % records_each))

-- the records of a block that stands at a cell
pub records_are : (t : Rooted) (cell : ℕ) (o : Option (List ℕ)) (files : List InodeRecord) → block_at t cell ≡ o → records_in o ≡ files → AreRecords t cell files
records_are t cell o files at is k lt = sym (file_is t cell k lt ∙ ap (λ b. used_record (get_or (records_in b) k free_record)) at ∙ ap (λ (rs : List InodeRecord). used_record (get_or rs k free_record)) is)

-- a cell that isn't there has free records
pub none_are : (t : Rooted) (cell : ℕ) (files : List InodeRecord) → block_at t cell ≡ None → files ≡ replicate 16 blank_record → AreRecords t cell files
none_are t cell files none is k lt =
    ap (λ (rs : List InodeRecord). used_record (get_or rs k free_record)) is
    ∙ ap used_record (get_or-replicate 16 k blank_record free_record lt)
    ∙ sym (file_is t cell k lt ∙ ap (λ b. used_record (get_or (records_in b) k free_record)) none ∙ no_record k)

-- the record of a number among those of its inode block
pub own_record : (t : Rooted) (n : ℕ) (files : List InodeRecord) → AreRecords t (n / 16) files → used_record (get_or files (n % 16) free_record) ≡ file_at t n
own_record t n files are = are (n % 16) (omega arith) ∙ ap (file_at t) (number_of n)

-- ---- numbers of files

is_there : {X : Type 0} (o : Option X) → is_some o ≡ true → o ≡ None → ⊥
is_there (Some x) is none = absurd (grind (arith, ap is_some none))
is_there None is none = absurd (grind (arith, is))

-- a file's inode cell lies within the levels
pub cell_within : (t : Rooted) (n : ℕ) → is_some (file_at t n) ≡ true → n / 16 < fan ^ t.levels
cell_within t n some = ⊎_elim
    (λ (lt : n < 16 * fan ^ t.levels). omega (arith, lt))
    (λ far. absurd (is_there (file_at t n) some (no_file t n far)))
    (cases_lt n (16 * fan ^ t.levels))

-- no cell lies past the levels
pub no_cell : (t : Rooted) (cell : ℕ) → fan ^ t.levels ≤ cell → block_at t cell ≡ None
no_cell t cell far =
    let whole : fan ^ (t.levels - 0) ≡ fan ^ t.levels = ap (λ k. fan ^ k) (let e : t.levels - 0 ≡ t.levels = omega arith in e) in
    no_block t cell (ap (λ (p : Pointer). p.stamp) (past t 0 cell (omega (arith, far, whole))))

-- nor does a way to one cost a look-up
hole_cost : (cost : Pointer → ℕ) (changed : Bool) (p : Pointer) → p.stamp ≡ 0 → load_cost cost changed p ≡ 0
hole_cost cost true p none = refl
hole_cost cost false p none = let test : (p.stamp == 0) ≡ true = grind (arith, nat_tests, none) in rw test refl

pub no_way : (cost : Pointer → ℕ) (s : Loaded) (cell : ℕ) → fan ^ s.tree.levels ≤ cell → way_cost cost s cell ≡ 0
unfolding cost_below
no_way cost s cell far = below (suc s.tree.levels) (omega arith)
  where
    none : (level : ℕ) → level ≤ s.tree.levels → place_cost cost s level (cell / fan ^ level) ≡ 0
    none level low =
        let whole : (s.tree.levels - level) + level ≡ s.tree.levels = omega (arith, low) in
        let parts : fan ^ (s.tree.levels - level) * fan ^ level ≡ fan ^ s.tree.levels = sym (pow-add fan (s.tree.levels - level) level) ∙ ap (λ k. fan ^ k) whole in
        let wide : fan ^ (s.tree.levels - level) ≤ cell / fan ^ level = le-div (fan ^ (s.tree.levels - level)) cell (fan ^ level) (fan_pos level) (omega (arith, parts, far)) in
        hole_cost cost (s.changed level (cell / fan ^ level)) (pointer_at s.tree level (cell / fan ^ level)) (ap (λ (p : Pointer). p.stamp) (past s.tree level (cell / fan ^ level) wide))

    below : (k : ℕ) → k ≤ suc s.tree.levels → cost_below cost s cell k ≡ 0
    below zero le = refl
    below (suc k) le = λ i. none k (omega (arith, le)) i + below k (omega (arith, le)) i

-- a blank record is in range
pub blank_fits : IsInodeRecord blank_record
unfolding name_filled all_name all_zero
blank_fits = record {
  name_length = omega arith;
  name_long = refl;
  name = refl;
  length = omega arith;
  reserve = omega arith;
  levels = omega arith;
  root = record { vvbn = omega arith; pvbn = omega arith; stamp = omega arith };
}

-- a tree that has the same cells has the same files
pub alike_files : (old new : Rooted) → IsAlike old new → (n : ℕ) → file_at new n ≡ file_at old n
unfolding file_at
alike_files old new alike n = ap (λ b. used_record (get_or (records_in b) (n % records_each) free_record)) (alike.blocks (n / records_each))

-- ---- blocks with a record in use

pub used_name : (r : InodeRecord) → is_some (used_record r) ≡ true → r.name_length ≢ 0
used_name r some none = let test : (r.name_length == 0) ≡ true = grind (arith, nat_tests, none) in absurd (both_ways (is_some (used_record r)) (rw test refl) some)

-- another record of the same name
abbrev pub KeepsName : (InodeRecord → InodeRecord) → Type 0
KeepsName f = (r : InodeRecord) → (f r).name_length ≡ r.name_length

changed_record : (f : InodeRecord → InodeRecord) → KeepsName f → (r : InodeRecord) → used_record (f r) ≡ option_map f (used_record r)
changed_record f keeps r = ap (λ n. if n == 0 then None else Some (f r)) (keeps r) ∙ so (r.name_length == 0)
  where
    so : (b : Bool) → (if b then None else Some (f r)) ≡ option_map f (if b then None else Some r)
    so true = refl
    so false = refl

pub some_used : (files : List InodeRecord) (slot : ℕ) → slot < length files → (get_or files slot free_record).name_length ≢ 0 → all_free files ≡ false
some_used [] slot lt used = absurd (omega (arith, lt))
some_used (r ∷ rs) zero lt used = let test : (r.name_length == 0) ≡ false = grind (arith, nat_tests, used) in rw test refl
some_used (r ∷ rs) (suc slot) lt used = so (r.name_length == 0) (some_used rs slot (omega (arith, lt)) used)
  where
    so : (b : Bool) → all_free rs ≡ false → (b && all_free rs) ≡ false
    so true e = e
    so false e = refl

-- a block in which a record in use was put
pub put_used : (fs : List InodeRecord) (slot : ℕ) (r : InodeRecord) → slot < length fs → is_some (used_record r) ≡ true → all_free (slice_set fs slot r) ≡ false
put_used fs slot r lt some = some_used (slice_set fs slot r) slot (omega (arith, lt, length-set fs slot r)) (λ none. used_name r some (ap (λ (q : InodeRecord). q.name_length) (sym (get_or-set_same fs slot r free_record lt)) ∙ none))

-- a record with other numbers in place of a file's
pub changed_is : (t : Rooted) (n : ℕ) (fs : List InodeRecord) (f : InodeRecord → InodeRecord) → KeepsName f → (r d : InodeRecord) → length fs ≡ 16 → AreRecords t (n / 16) fs → r ≡ f (get_or fs (n % 16) d)
    → used_record r ≡ option_map f (file_at t n)
changed_is t n fs f keeps r d long are is =
    ap used_record is
    ∙ changed_record f keeps (get_or fs (n % 16) d)
    ∙ ap (option_map f) (ap used_record (get_or_default fs (n % 16) d free_record (omega (arith, long))) ∙ own_record t n fs are)

pub still_some : {X Y : Type 0} (f : X → Y) (o : Option X) → is_some (option_map f o) ≡ is_some o
still_some f None = refl
still_some f (Some x) = refl

-- a record in use is one of its block's
pub used_all : (fs : List InodeRecord) (n : ℕ) (d : InodeRecord) → length fs ≡ 16 → (get_or fs (n % 16) d).name_length ≢ 0 → all_free fs ≡ false
used_all fs n d long used =
    some_used fs (n % 16) (omega (arith, long)) (λ none. used (ap (λ (q : InodeRecord). q.name_length) (get_or_default fs (n % 16) d free_record (omega (arith, long))) ∙ none))

-- and it stays in use with other numbers
pub still_used : (fs : List InodeRecord) (n : ℕ) (f : InodeRecord → InodeRecord) → KeepsName f → (r d : InodeRecord) → length fs ≡ 16 → r ≡ f (get_or fs (n % 16) d) → (get_or fs (n % 16) d).name_length ≢ 0
    → all_free (slice_set fs (n % 16) r) ≡ false
still_used fs n f keeps r d long is used =
    some_used (slice_set fs (n % 16) r) (n % 16) (omega (arith, long, length-set fs (n % 16) r))
    (λ none. used (sym (keeps (get_or fs (n % 16) d)) ∙ ap (λ (q : InodeRecord). q.name_length) (sym is ∙ sym (get_or-set_same fs (n % 16) r free_record (omega (arith, long)))) ∙ none))

-- a free record is that of no file
pub no_such : {P : Type 0} (t : Rooted) (n : ℕ) (fs : List InodeRecord) (d : InodeRecord) → length fs ≡ 16 → AreRecords t (n / 16) fs → (get_or fs (n % 16) d).name_length ≡ 0 → is_some (file_at t n) ≡ true → P
no_such t n fs d long are none some =
    let free : used_record (get_or fs (n % 16) d) ≡ None = rw none refl in
    absurd (is_there (file_at t n) some (sym (ap used_record (get_or_default fs (n % 16) d free_record (omega (arith, long))) ∙ own_record t n fs are) ∙ free))

-- and one in use is that of one
pub such : (t : Rooted) (n : ℕ) (fs : List InodeRecord) (d : InodeRecord) → length fs ≡ 16 → AreRecords t (n / 16) fs → (get_or fs (n % 16) d).name_length ≢ 0 → is_some (file_at t n) ≡ true
such t n fs d long are some =
    ap is_some (sym (ap used_record (get_or_default fs (n % 16) d free_record (omega (arith, long))) ∙ own_record t n fs are))
    ∙ (let test : ((get_or fs (n % 16) d).name_length == 0) ≡ false = grind (arith, nat_tests) in ap (λ b. is_some (if b then None else Some (get_or fs (n % 16) d))) test)

-- records of a block that isn't there
pub none_used : {P : Type 0} (fs : List InodeRecord) → fs ≡ replicate 16 blank_record → all_free fs ≡ false → P
none_used fs is some = absurd (both_ways (all_free fs) some (ap all_free is))

-- ---- a file's inode cell stands

some_block : (k : ℕ) (o : Option (List ℕ)) → is_some (used_record (get_or (records_in o) k free_record)) ≡ true → is_some o ≡ true
some_block k None some = absurd (is_there (used_record (get_or (records_in None) k free_record)) some (no_record k))
some_block k (Some block) some = refl

pub block_there : (t : Rooted) (n : ℕ) → is_some (file_at t n) ≡ true → is_some (block_at t (n / 16)) ≡ true
unfolding file_at
block_there t n some = some_block (n % 16) (block_at t (n / 16)) some

pub cell_there : (t : Rooted) (cell : ℕ) → is_some (block_at t cell) ≡ true → is_some (stamp_in (pointer_at t 0 cell)) ≡ true
unfolding block_at
cell_there t cell some = so ((pointer_at t 0 cell).stamp == 0) some
  where
    so : (b : Bool) → is_some (if b then None else block_or (t.cells cell) (t.under (pointer_at t 0 cell).vvbn)) ≡ true → is_some (if b then None else Some (pointer_at t 0 cell).stamp) ≡ true
    so true e = e
    so false e = refl
