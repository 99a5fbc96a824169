-- A table of which all that it reaches is sound is one of the machine's.
use Rattle.std.proofs.Common.{◌≡◌, ◌≢◌, ℕ, zero, suc, ◌+◌, ◌*◌, ◌/◌, ◌%◌, ◌^◌, ◌<◌, ◌≤◌, Bool, true, false, not, List, [], ◌∷◌, ◌++◌, length, refl, sym, ap, subst, ◌∙◌, arith, ⊎_elim, get_or, Result, Ok, Err}
use Rattle.std.specs.Prelude.{Option, Some, None, ◌||◌, ◌==◌, map, flat_map, take, if◌then◌else◌}
use Rattle.std.specs.List.{All, list_any, range_with_len}
use Rattle.std.specs.Option.{is_some, option_map}
use Rattle.std.specs.FinMap as fin
use Rattle.std.proofs.lemmas.Bool.{cases_eq, cases_lt, and_parts, both_ways, not-true}
use Rattle.std.proofs.lemmas.Bool.Decides.{nat_tests}
use Rattle.std.proofs.lemmas.Cmp.{nat_cmp_total, eq_by_cmp_equiv}
use Rattle.std.proofs.lemmas.List.{length-append}
use Rattle.std.proofs.lemmas.List.Elements.{All-head, All-tail}
use Rattle.std.proofs.lemmas.Nat.{div-mul-add}
use Rattle.std.proofs.Math.Nat.{pow-le-pow_right}
use Rattle.fv_codec.specs.declared.shape.Shape.{Shape}
use Rattle.fv_codec.specs.declared.pointer.Pointer.{Pointer}
use Rattle.fv_codec.specs.declared.inode.InodeRecord.{InodeRecord}
use Rattle.fv_codec.specs.declared.inode.InodeBlock.{InodeBlock}
use Rattle.fv_codec.specs.Fields.{verdict_of, up_to}
use Rattle.fv_codec.specs.Blocks.{greatest_word, inodes_at, is_used, all_free, IsInodeRecord, IsInodeBlock}
use Rattle.fv_codec.proofs.Decoded.{inodes_in_range}
use Rattle.fv_model.specs.Spelling.{is_same_name}
use Rattle.fv_model.specs.Trees.{fan, least_levels}
use Rattle.fv_model.specs.Tables.{File, inode_cell}
use Rattle.fv_laws.specs.WellFormed.{IsTree, IsWellFile, IsWellTable}
use Rattle.fv_laws.proofs.Orders.{name_total}
use Rattle.fv_laws.proofs.Lists.{In, in_map, from_map}
use Rattle.fv_laws.proofs.Levels.{in_all}
use Rattle.fv_laws.proofs.Tables.{key_there, there_key}
use Rattle.fv_tables.specs.Spelled.{Under, hole, stored, pointer_at, block_at}
use Rattle.fv_tables.specs.Told.{entry_or, listed, tree_told, cells_told, records_each, free_record, records_of, records_in, used_record, file_at, Standing, standing_at, tree_of, file_told, file_in, numbers, records, table_told}
use Rattle.fv_tables.proofs.Lists.{any_in_part}
use Rattle.fv_tables.proofs.Pointers.{no_block}
use Rattle.fv_tables.proofs.Tables.{files_told}
use Rattle.fv_tables.proofs.Items.{number_within}
use Rattle.fv_image.specs.BlockRules.{is_fine}
use Rattle.fv_image.specs.ReachRules.{are_distinct}
use Rattle.fv_image.proofs.Counting.{len_within}
use Rattle.fv_image.proofs.WellTrees.{StandsAt, well_tree}
use Rattle.fv_image.proofs.WellNodes.{IsSoundTree, some_used, files_of, noded, cell_block, from_cells, well_cells}

-- ---- records

within : (b : Bool) (n : ℕ) → up_to b n ≤ n
within true n = omega arith
within false n = omega arith

some_record : (rs : List InodeRecord) → all_free rs ≡ false → (j : ℕ) × ((j < length rs) × ((get_or rs j free_record).name_length ≢ 0))
some_record rs e = some_used (λ (r : InodeRecord). r.name_length) free_record all_free refl (λ r qs. refl) rs e

record_in_range : (rs : List InodeRecord) (j : ℕ) → All IsInodeRecord rs → (get_or rs j free_record).name_length ≢ 0 → IsInodeRecord (get_or rs j free_record)
record_in_range [] j all some = absurd (some refl)
record_in_range (r ∷ rs) zero all some = All-head IsInodeRecord r rs all
record_in_range (r ∷ rs) (suc j) all some = record_in_range rs j (All-tail IsInodeRecord r rs all) some

used_is : (q r : InodeRecord) → used_record q ≡ Some r → (q.name_length ≢ 0) × (q ≡ r)
used_is q r e = so (q.name_length == 0) refl e
  where
    so : (b : Bool) → (q.name_length == 0) ≡ b → (if b then None else Some q) ≡ Some r → (q.name_length ≢ 0) × (q ≡ r)
    so true test e = absurd cc
    so false test e = (let some : q.name_length ≢ 0 = grind (arith, nat_tests, test) in some, cc)

-- ---- names

abbrev name_of : ℕ × InodeRecord → List ℕ
name_of f = take f.1.name_length f.1.name

any_name : (test : List ℕ → Bool) (fs : List (ℕ × InodeRecord)) → list_any test (map name_of fs) ≡ list_any (λ f. test (name_of f)) fs
any_name test [] = refl
any_name test (f ∷ fs) = ap (λ b. test (name_of f) || b) (any_name test fs)

itself : (name : List ℕ) → is_same_name name name ≡ true
itself name = (eq_by_cmp_equiv name_total).refl name

no_record : (r : InodeRecord) → ◌≡◌ {A = Option InodeRecord} None (Some r) → ⊥
no_record r e = cc

one_record : (p r : InodeRecord) → Some p ≡ Some r → p ≡ r
one_record p r e = cc

module _ (f : ℕ → Option InodeRecord) where
  name_listed : (from count k : ℕ) (q : InodeRecord) (name : List ℕ) → from ≤ k → k < from + count → f k ≡ Some q → name ≡ name_of (k, q) → list_any (is_same_name name) (map name_of (listed f (range_with_len from count))) ≡ true
  unfolding listed
  name_listed from count k q name low high is same =
      any_name (is_same_name name) (flat_map (λ k. entry_or k (f k)) (range_with_len from count))
      ∙ any_in_part (λ e. is_same_name name (name_of e)) (λ k. entry_or k (f k)) k from count low high
      (ap (λ (o : Option InodeRecord). list_any (λ e. is_same_name name (name_of e)) (entry_or k o)) is ∙ ap (λ (b : Bool). b || false) (subst (λ (m : List ℕ). is_same_name name m ≡ true) same (itself name)))

  -- files of one name aren't distinct
  apart : (from count : ℕ) → are_distinct (map name_of (listed f (range_with_len from count))) ≡ true → (n k : ℕ) (r q : InodeRecord) → from ≤ n → n < k → k < from + count
      → f n ≡ Some r → f k ≡ Some q → name_of (n, r) ≡ name_of (k, q) → ⊥
  unfolding listed
  apart from zero distinct n k r q low less high is too same = absurd (omega (arith, low, less, high))
  apart from (suc count) distinct n k r q low less high is too same =
      so (f from) refl distinct (λ d ne. apart (from + 1) count d n k r q (omega (arith, low, ne)) less (omega (arith, high)) is too same)
    where
      so : (o : Option InodeRecord) → f from ≡ o → are_distinct (map name_of (entry_or from o ++ listed f (range_with_len (from + 1) count))) ≡ true
          → (are_distinct (map name_of (listed f (range_with_len (from + 1) count))) ≡ true → n ≢ from → ⊥) → ⊥
      so None e distinct rest = ⊎_elim
          (λ (here : n ≡ from). no_record r (sym e ∙ ap f (sym here) ∙ is))
          (λ (ne : n ≢ from). rest distinct ne)
          (cases_eq n from)
      so (Some p) e distinct rest =
          let parts = and_parts (not (list_any (is_same_name (name_of (from, p))) (map name_of (listed f (range_with_len (from + 1) count))))) _ distinct in ⊎_elim
          (λ (here : n ≡ from).
          let pr : p ≡ r = one_record p r (sym e ∙ ap f (sym here) ∙ is) in
          let there = name_listed (from + 1) count k q (name_of (from, p)) (omega (arith, here, less)) (omega (arith, high)) too (ap (λ (r : InodeRecord). take r.name_length r.name) pr ∙ same) in
          both_ways _ (not-true _ parts.0) there)
          (λ (ne : n ≢ from). rest parts.1 ne)
          (cases_eq n from)

few_listed : {X : Type 0} (g : ℕ → Option X) (keys : List ℕ) → length (listed g keys) ≤ length keys
unfolding listed
few_listed g [] = omega arith
few_listed {X} g (k ∷ ks) = let rest = few_listed g ks in let both = length-append (entry_or k (g k)) (listed g ks) in let one = at_most_one (g k) in omega (arith, rest, both, one)
  where
    at_most_one : (o : Option X) → length (entry_or k o) ≤ 1
    at_most_one None = omega arith
    at_most_one (Some x) = omega arith

range_length : (from count : ℕ) → length (range_with_len from count) ≡ count
range_length from zero = refl
range_length from (suc count) = let rest = range_length (from + 1) count in omega (arith, rest)

-- ---- a table

pub record IsSoundTable (now : ℕ) (under : Under) (levels : ℕ) (root : Pointer) : Type 0 where
  pub inode : IsSoundTree now 0 hole (stored under greatest_word levels root)
  pub files : (n : ℕ) (r : InodeRecord) → file_at (stored under greatest_word levels root) n ≡ Some r → IsSoundTree now r.reserve (pointer_at (stored under greatest_word levels root) 0 (n / records_each)) (stored under n r.levels r.root)
  pub names : are_distinct (map name_of (records (standing_at under levels root))) ≡ true
  pub cells : (n : ℕ) (r : InodeRecord) → file_at (stored under greatest_word levels root) n ≡ Some r → (i : ℕ) → StandsAt (stored under n r.levels r.root) 0 i → i < r.length
  pub few : levels ≤ 2

-- an inode block that is reached, as it reads
pub record ReadsAs (block : List ℕ) : Type 0 where
  pub inodes : InodeBlock
  pub is : inodes_at block ≡ Ok inodes
  pub shape : IsInodeBlock inodes

module _ (now : ℕ) (under : Under) (levels : ℕ) (root : Pointer) (is : IsSoundTable now under levels root) where
  abbrev x : Standing
  x = standing_at under levels root

  reads : (c : ℕ) (some : StandsAt x.inode 0 c) → ReadsAs (is.inode.blocks 0 c some).block
  reads c some = so (is.inode.blocks 0 c some).block (is.inode.blocks 0 c some).long (inodes_at (is.inode.blocks 0 c some).block) refl (is.inode.blocks 0 c some).shape
    where
      so : (block : List ℕ) → length block ≡ 4096 → (r : Result InodeBlock Shape) → inodes_at block ≡ r → is_fine (verdict_of r) ≡ true → ReadsAs block
      so block long (Ok b) e fine = record { inodes = b; is = e; shape = inodes_in_range block (Ok b) long (sym e) }
      so block long (Err fault) e fine = absurd cc

  -- the record of a number by its block
  record_in : (n c : ℕ) (some : StandsAt x.inode 0 c) → n / records_each ≡ c → file_at x.inode n ≡ used_record (get_or (reads c some).inodes.files (n % records_each) free_record)
  unfolding file_at records_in
  record_in n c some at =
      ap (λ (k : ℕ). used_record (get_or (records_in (block_at x.inode k)) (n % records_each) free_record)) at
      ∙ ap (λ (o : Option (List ℕ)). used_record (get_or (records_in o) (n % records_each) free_record)) (cell_block now 0 hole under greatest_word levels root is.inode c some)
      ∙ ap (λ (r : Result InodeBlock Shape). used_record (get_or (records_of r) (n % records_each) free_record)) (reads c some).is

  -- a file's record lies in a block that stands
  stands_of : (n : ℕ) (r : InodeRecord) → file_at x.inode n ≡ Some r → StandsAt x.inode 0 (n / records_each)
  unfolding file_at records_in
  stands_of n r there none = no_record r (sym (ap (λ (o : Option (List ℕ)). used_record (get_or (records_in o) (n % records_each) free_record)) (no_block x.inode (n / records_each) none)) ∙ there)

  -- and it is in range
  record_well : (n : ℕ) (r : InodeRecord) → file_at x.inode n ≡ Some r → IsInodeRecord r
  record_well n r there =
      let some = stands_of n r there in
      let b = reads (n / records_each) some in
      let used = used_is (get_or b.inodes.files (n % records_each) free_record) r (sym (record_in n (n / records_each) some refl) ∙ there) in
      subst IsInodeRecord used.1 (record_in_range b.inodes.files (n % records_each) b.shape.files used.0)

  file_of_number : (n : ℕ) (f : File) → fin.get (table_told x).files n ≡ Some f → (r : InodeRecord) × ((file_at x.inode n ≡ Some r) × (file_told (stored under n r.levels r.root) r ≡ f))
  unfolding file_in
  file_of_number n f e = so (file_at x.inode n) refl (sym (files_told x n) ∙ e)
    where
      so : (o : Option InodeRecord) → file_at x.inode n ≡ o → option_map (λ r. file_told (tree_of x n r) r) o ≡ Some f → (r : InodeRecord) × ((file_at x.inode n ≡ Some r) × (file_told (stored under n r.levels r.root) r ≡ f))
      so None there e = absurd cc
      so (Some r) there e = (r, (there, cc))

  well_file : (n : ℕ) (r : InodeRecord) → file_at x.inode n ≡ Some r → IsWellFile now (file_told (stored under n r.levels r.root) r)
  unfolding file_told tree_told
  well_file n r there =
      let good : IsInodeRecord r = record_well n r there in
      let t = is.files n r there in
      let length_most = within (is_used r.name_length) 2097152 in
      let levels_most = within (is_used r.name_length) 3 in
      let reserve : r.reserve ≤ 2097152 = omega (arith, good.reserve, length_most) in
      let range : r.length ≤ 2097152 = omega (arith, good.length, length_most) in
      record {
        reserve = grind (arith, nat_tests, reserve);
        range = grind (arith, nat_tests, range);
        tree = well_cells now r.reserve (pointer_at x.inode 0 (n / records_each)) under n r.levels r.root t;
        levels = omega (arith, good.levels, levels_most);
        length = in_all (λ i. i < r.length) (fin.keys (cells_told (stored under n r.levels r.root))) (λ i inside. is.cells n r there i (from_cells now r.reserve (pointer_at x.inode 0 (n / records_each)) under n r.levels r.root t i inside));
      }

  -- ---- the inode file has a cell exactly where files are

  some_is : {X Y : Type 0} (f : X → Y) (o : Option X) → is_some (option_map f o) ≡ true → is_some o ≡ true
  some_is f None e = absurd cc
  some_is f (Some x) e = refl

  has_record : (n : ℕ) → is_some (file_at x.inode n) ≡ true → StandsAt x.inode 0 (n / records_each)
  has_record n e = so (file_at x.inode n) refl e
    where
      so : (o : Option InodeRecord) → file_at x.inode n ≡ o → is_some o ≡ true → StandsAt x.inode 0 (n / records_each)
      so None there e = absurd cc
      so (Some r) there e = stands_of n r there

  from_files : (c : ℕ) → In c (map inode_cell (fin.keys (table_told x).files)) → StandsAt x.inode 0 c
  unfolding file_in
  from_files c there =
      let key = from_map inode_cell c (fin.keys (table_told x).files) there in
      let some : is_some (file_in x key.0) ≡ true = sym (ap (λ (o : Option File). is_some o) (files_told x key.0)) ∙ key_there (table_told x).files key.0 key.1 in
      subst (StandsAt x.inode 0) key.2 (has_record key.0 (some_is (λ r. file_told (tree_of x key.0 r) r) (file_at x.inode key.0) some))

  to_files : (c : ℕ) → StandsAt x.inode 0 c → In c (map inode_cell (fin.keys (table_told x).files))
  unfolding file_in
  to_files c some =
      let b = reads c some in
      let one = some_record b.inodes.files b.shape.some in
      let sixteen = files_of (is.inode.blocks 0 c some).block b.inodes b.is in
      let low : one.0 < length b.inodes.files = one.1.0 in
      let inside : one.0 < 16 = omega (arith, low, sixteen) in
      let n : ℕ = c * 16 + one.0 in
      let div : n / 16 ≡ c = div-mul-add c 16 one.0 inside in
      let rem : n % 16 ≡ one.0 = omega (arith, inside) in
      let filled : (get_or b.inodes.files (n % 16) free_record).name_length ≢ 0 = λ none. one.1.1 (sym (ap (λ (j : ℕ). (get_or b.inodes.files j free_record).name_length) rem) ∙ none) in
      let there : is_some (file_at x.inode n) ≡ true = ap (λ (o : Option InodeRecord). is_some o) (record_in n c some div) ∙ is_used_one (get_or b.inodes.files (n % 16) free_record) filled in
      let key : In n (fin.keys (table_told x).files) = there_key (table_told x).files n (ap (λ (o : Option File). is_some o) (files_told x n) ∙ mapped (λ r. file_told (tree_of x n r) r) (file_at x.inode n) there) in
      subst (λ (c : ℕ). In c (map inode_cell (fin.keys (table_told x).files))) div (in_map inode_cell n (fin.keys (table_told x).files) key)
    where
      mapped : {X Y : Type 0} (f : X → Y) (o : Option X) → is_some o ≡ true → is_some (option_map f o) ≡ true
      mapped f None e = e
      mapped f (Some x) e = refl

      is_used_one : (r : InodeRecord) → r.name_length ≢ 0 → is_some (used_record r) ≡ true
      is_used_one r filled = let test : (r.name_length == 0) ≡ false = grind (arith, nat_tests, filled) in ap (λ (b : Bool). is_some (if b then None else Some r)) test

  -- ---- the table

  no_levels : least_levels 0 ≡ 0
  unfolding least_levels
  no_levels = refl

  few_numbers : records_each * fan ^ levels ≤ 262144
  few_numbers = let wide : fan ^ levels ≤ fan ^ 2 = pow-le-pow_right {n = fan} (omega arith) {i = levels} {j = 2} is.few in omega (arith, wide)

  one_name : (n k : ℕ) (r q : InodeRecord) → file_at x.inode n ≡ Some r → file_at x.inode k ≡ Some q → name_of (n, r) ≡ name_of (k, q) → n < k → ⊥
  unfolding records
  one_name n k r q at also same less =
      let inside : k < records_each * fan ^ levels = number_within (λ e. true) x k q also in
      apart (file_at x.inode) 0 (records_each * fan ^ levels) is.names n k r q (omega arith) less (omega (arith, inside)) at also same

  same_number : (n k : ℕ) (r q : InodeRecord) → file_at x.inode n ≡ Some r → file_at x.inode k ≡ Some q → name_of (n, r) ≡ name_of (k, q) → n ≡ k
  same_number n k r q at also same = ⊎_elim
      (λ (e : n ≡ k). e)
      (λ (ne : n ≢ k). ⊎_elim
      (λ (less : n < k). absurd (one_name n k r q at also same less))
      (λ (more : k ≤ n). absurd (one_name k n q r also at (sym same) (omega (arith, ne, more))))
      (cases_lt n k))
      (cases_eq n k)

  -- It is one of the machine's.
  pub well_table : IsWellTable now (table_told x)
  unfolding table_told tree_told file_told
  well_table = record {
    files = λ n f e. let at = file_of_number n f e in subst (IsWellFile now) at.1.1 (well_file n at.0 at.1.0);
    names = λ n k f g e d same.
        let first = file_of_number n f e in
        let second = file_of_number k g d in
        same_number n k first.0 second.0 first.1.0 second.1.0 (ap (λ (f : File). f.name) first.1.1 ∙ same ∙ sym (ap (λ (f : File). f.name) second.1.1));
    inode = subst (λ (start : ℕ). IsTree now start (map inode_cell (fin.keys (table_told x).files)) (tree_told x.inode)) no_levels
        (well_tree now (least_levels 0) x.inode (noded now 0 hole under greatest_word levels root is.inode) (map inode_cell (fin.keys (table_told x).files)) from_files to_files);
    levels = is.few;
    numbers = λ n f e.
        let at = file_of_number n f e in
        let inside : n < records_each * fan ^ levels = number_within (λ e. true) x n at.0 at.1.0 in
        let most = few_numbers in
        omega (arith, inside, most);
    count =
        let put = len_within nat_cmp_total (listed (file_in x) (numbers x)) in
        let some = few_listed (file_in x) (numbers x) in
        let all = range_length 0 (records_each * fan ^ levels) in
        let most = few_numbers in
        omega (arith, put, some, all, most);
  }
