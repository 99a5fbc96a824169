-- The records of a well-formed table keep the rules on files.
use Rattle.std.proofs.Common.{◌≡◌, ℕ, zero, suc, ◌+◌, ◌*◌, ◌^◌, ◌<◌, Bool, true, false, not, List, ◌++◌, Option, Some, None, is_some, inl, refl, sym, ap, ◌∙◌, arith, length, [], ◌∷◌, ◌≤◌, ◌≢◌}
use Rattle.std.specs.Prelude.{map, take, nat_le, ◌==◌, if◌then◌else◌}
use Rattle.std.specs.List.{list_all, list_any, range_with_len}
use Rattle.std.specs.Option.{option_map}
use Rattle.std.specs.FinMap as fin
use Rattle.std.proofs.lemmas.Bool.{and_from, false_from_ne_true, not_from_false, or_from}
use Rattle.std.proofs.lemmas.Bool.Decides.{nat_tests}
use Rattle.fv_codec.specs.declared.inode.InodeRecord.{InodeRecord}
use Rattle.fv_codec.specs.declared.pointer.Pointer.{Pointer}
use Rattle.fv_codec.specs.Blocks.{greatest_word}
use Rattle.fv_model.specs.Spelling.{is_same_name}
use Rattle.fv_model.specs.Trees.{fan, least_levels}
use Rattle.fv_laws.specs.WellFormed.{IsTree, IsWellFile, IsWellTable}
use Rattle.fv_laws.proofs.Changes.{same_name}
use Rattle.fv_tables.specs.Spelled.{block_at, pointer_at, Rooted as Tree, Under, stored}
use Rattle.fv_tables.specs.Told.{cells_told, Standing, entry_or, file_at, file_in, file_told, listed, records, records_each, standing_at, table_told, tree_of, tree_told}
use Rattle.fv_tables.proofs.Lists.{all_of_parts}
use Rattle.fv_tables.proofs.Tables.{blocks_told, files_told}
use Rattle.std.specs.Ordering.{nat_cmp}
use Rattle.fv_model.specs.Tables.{inode_cell}
use Rattle.fv_laws.proofs.Lists.{In}
use Rattle.fv_laws.proofs.Levels.{all_in}
use Rattle.fv_laws.proofs.Tables.{key_there, there_key}
use Rattle.fv_tables.proofs.Bare.{bare_file, none_at}
use Rattle.fv_tables.proofs.Pointers.{no_block}
use Rattle.fv_image.specs.TableRules.{are_levels}
use Rattle.fv_image.specs.ReachRules.{are_distinct}

abbrev name_of : ℕ × InodeRecord → List ℕ
name_of f = take f.1.name_length f.1.name

map_long : (f : ℕ → ℕ) (xs : List ℕ) → length (map f xs) ≡ length xs
map_long f [] = refl
map_long f (x ∷ xs) = ap suc (map_long f xs)

module _ (now : ℕ) (blocks : Under) (levels : ℕ) (root : Pointer) (told : IsWellTable now (table_told (standing_at blocks levels root))) where
  abbrev y : Standing
  y = standing_at blocks levels root

  abbrev inodes : Tree
  inodes = stored blocks greatest_word levels root

  pub file_there : (n : ℕ) (r : InodeRecord) → file_at inodes n ≡ Some r → fin.get (table_told y).files n ≡ Some (file_told (tree_of y n r) r)
  unfolding file_in
  file_there n r found = files_told y n ∙ ap (λ (o : Option InodeRecord). option_map (λ r. file_told (tree_of y n r) r) o) found

  pub well_file : (n : ℕ) (r : InodeRecord) → file_at inodes n ≡ Some r → IsWellFile now (file_told (tree_of y n r) r)
  well_file n r found = told.files n (file_told (tree_of y n r) r) (file_there n r found)

  -- what holds of each record holds of all
  pub all_records : (p : ℕ × InodeRecord → Bool) → ((n : ℕ) (r : InodeRecord) → file_at inodes n ≡ Some r → p (n, r) ≡ true) → list_all p (records y) ≡ true
  unfolding records listed
  all_records p each = all_of_parts p (λ n. entry_or n (file_at inodes n)) 0 (records_each * fan ^ levels) (λ n low high. so n (file_at inodes n) refl)
    where
      so : (n : ℕ) (o : Option InodeRecord) → file_at inodes n ≡ o → list_all p (entry_or n o) ≡ true
      so n None e = refl
      so n (Some r) e = and_from (p (n, r)) true (each n r e) refl

  -- no two records have one name
  none_same : (k : ℕ) (r : InodeRecord) → file_at inodes k ≡ Some r → (from count : ℕ) → k < from → list_any (is_same_name (name_of (k, r))) (map name_of (listed (file_at inodes) (range_with_len from count))) ≡ false
  unfolding listed file_told
  none_same k r e from zero low = refl
  none_same k r e from (suc count) low = so (file_at inodes from) refl (none_same k r e (from + 1) count (omega (arith, low)))
    where
      so : (o : Option InodeRecord) → file_at inodes from ≡ o → list_any (is_same_name (name_of (k, r))) (map name_of (listed (file_at inodes) (range_with_len (from + 1) count))) ≡ false
          → list_any (is_same_name (name_of (k, r))) (map name_of (entry_or from o ++ listed (file_at inodes) (range_with_len (from + 1) count))) ≡ false
      so None f rest = rest
      so (Some q) f rest = or_from (is_same_name (name_of (k, r)) (name_of (from, q))) _ (false_from_ne_true _ (λ same.
          let one : k ≡ from = told.names k from (file_told (tree_of y k r) r) (file_told (tree_of y from q) q) (file_there k r e) (file_there from q f) (same_name (name_of (k, r)) (name_of (from, q)) same) in
          omega (arith, low, one))) rest

  names_from : (from count : ℕ) → are_distinct (map name_of (listed (file_at inodes) (range_with_len from count))) ≡ true
  unfolding listed
  names_from from zero = refl
  names_from from (suc count) = so (file_at inodes from) refl (names_from (from + 1) count)
    where
      so : (o : Option InodeRecord) → file_at inodes from ≡ o → are_distinct (map name_of (listed (file_at inodes) (range_with_len (from + 1) count))) ≡ true
          → are_distinct (map name_of (entry_or from o ++ listed (file_at inodes) (range_with_len (from + 1) count))) ≡ true
      so None e rest = rest
      so (Some r) e rest = and_from (not (list_any (is_same_name (name_of (from, r))) (map name_of (listed (file_at inodes) (range_with_len (from + 1) count))))) _
          (not_from_false _ (none_same from r e (from + 1) count (omega arith))) rest

  pub names_apart : are_distinct (map name_of (records y)) ≡ true
  unfolding records
  names_apart = names_from 0 (records_each * fan ^ levels)

  -- ---- levels and cells

  no_keys : {X : Type 0} (m : fin.FinMap nat_cmp X) → ((i : ℕ) → fin.get m i ≡ None) → length (fin.keys m) ≡ 0
  no_keys m nothing = so (fin.keys m) (λ i h. wrong (sym (ap is_some (nothing i)) ∙ key_there m i h))
    where
      wrong : false ≡ true → ⊥
      wrong e = cc

      so : (ks : List ℕ) → ((i : ℕ) → In i ks → ⊥) → length ks ≡ 0
      so [] none = refl
      so (k ∷ ks) none = absurd (none k (inl refl))

  levels_right : (start : ℕ) (cells : List ℕ) (t : Tree) → IsTree now start cells (tree_told t) → (t.root.stamp ≡ 0 → length cells ≡ 0) → (if t.root.stamp == 0 then (t.levels == start) else nat_le start t.levels) ≡ true
  unfolding tree_told
  levels_right start cells t is bare = by (t.root.stamp == 0) refl
    where
      by : (b : Bool) → (t.root.stamp == 0) ≡ b → (if b then (t.levels == start) else nat_le start t.levels) ≡ true
      by true e = let same : t.levels ≡ start = is.shrinks (bare (grind (arith, nat_tests, e))) in grind (arith, nat_tests, same)
      by false e = let least : start ≤ t.levels = is.starts in grind (arith, nat_tests, least)

  pub inode_levels : are_levels 0 levels root.stamp ≡ true
  unfolding table_told least_levels file_in
  inode_levels = levels_right 0 _ inodes told.inode (λ bare. map_long inode_cell (fin.keys (table_told y).files)
      ∙ no_keys (table_told y).files (λ i. files_told y i ∙ ap (λ (o : Option InodeRecord). option_map (λ r. file_told (tree_of y i r) r) o) (bare_file inodes bare i)))

  pub file_levels : (n : ℕ) (r : InodeRecord) → file_at inodes n ≡ Some r → are_levels r.reserve r.levels r.root.stamp ≡ true
  unfolding file_told
  file_levels n r found =
      let t : Tree = stored blocks n r.levels r.root in
      levels_right (least_levels r.reserve) (fin.keys (cells_told t)) t (well_file n r found).tree (λ bare. no_keys (cells_told t) (λ i. blocks_told t i ∙ no_block t i (none_at t bare 0 i)))

  pub cell_below : (n : ℕ) (r : InodeRecord) → file_at inodes n ≡ Some r → (i : ℕ) → (pointer_at (stored blocks n r.levels r.root) 0 i).stamp ≢ 0 → is_some (blocks (pointer_at (stored blocks n r.levels r.root) 0 i).vvbn) ≡ true → i < r.length
  unfolding file_told block_at
  cell_below n r found i some held =
      let t : Tree = stored blocks n r.levels r.root in
      let test : ((pointer_at t 0 i).stamp == 0) ≡ false = grind (arith, nat_tests, some) in
      let there : is_some (block_at t i) ≡ true = rw test held in
      all_in (λ (i : ℕ). i < r.length) (fin.keys (cells_told t)) (well_file n r found).length i (there_key (cells_told t) i (ap is_some (blocks_told t i) ∙ there))
