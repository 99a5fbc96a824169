-- An inode file whose pointers tell no places where a later flush writes them.
use Rattle.std.proofs.Common.{◌≡◌, ◌==◌, ℕ, Bool, true, false, Some, None, if◌then◌else◌, refl, ◌/◌, ◌%◌, cond, map, List, Option, get_or, is_some, sym, ap, subst, ◌∙◌, arith}
use Rattle.std.specs.Ordering.{nat_cmp}
use Rattle.std.specs.Option.{option_map}
use Rattle.std.specs.BTreeMap as maps
use Rattle.fv_codec.specs.declared.pointer.Pointer.{Pointer}
use Rattle.fv_codec.specs.declared.inode.InodeRecord.{InodeRecord}
use Rattle.fv_tables.specs.Spelled.{Under, Rooted, stored, pointer_at, stamp_in, block_at}
use Rattle.fv_tables.specs.Alike.{hintless, hintless_record}
use Rattle.fv_tables.specs.Kept.{IsPlacedFile, IsPlacedTable}
use Rattle.fv_tables.specs.Told.{records_each, free_record, used_record, records_in, file_at, tree_of, tree_or, table_told, AreTold, Standing}
use Rattle.fv_tables.proofs.AlikeTables.{alike_stamp, alike_vvbn}
use Rattle.fv_tables.proofs.Tables.{placed_table}
use Rattle.fv_tree.specs.declared.kept.Tree.{Tree}
use Rattle.fv_tree.specs.declared.kept.KeptCell.{KeptCell}
use Rattle.fv_tree.specs.Standing.{standing, cell_in}
use Rattle.fv_tree.specs.Flushing.{changed_of, loaded_over}
use Rattle.fv_tree.specs.Blanking.{Blanks, WritesUnknown}
use Rattle.fv_tree.specs.Rooting.{hintless_spelled, BlanksBlock, BlanksPlace, BlanksRoots}
use Rattle.fv_tree.proofs.BlankedRoots.{still_used}
use Rattle.fv_tree.proofs.Blanking.{hintless_unknown}
use Rattle.fv_tree.proofs.Brought.{some_same}
use Rattle.fv_tree.proofs.Cases.{false_is_true}
use Rattle.fv_inode.specs.Blanking.{BlanksFiles}
use Rattle.fv_inode.specs.Files.{IsInodesOf, NamesIndexes}
use Rattle.fv_inode.specs.Readying.{HoldsFile}

-- an inode block names its index without places, too
named_block : (changed : Bool) (index : ℕ) (was now : List ℕ) → BlanksBlock changed was now → IsInodesOf index was → IsInodesOf index now
named_block false index was now is names = subst (IsInodesOf index) (sym (is.same refl)) names
named_block true index was now is names = record { files = map hintless_record names.files; spells = is.inodes refl ∙ ap hintless_spelled names.spells }

named_place : (changed : Bool) (index : ℕ) (was now : Option (List ℕ)) → BlanksPlace changed was now
    → ((block : List ℕ) → was ≡ Some block → IsInodesOf index block) → (block : List ℕ) → now ≡ Some block → IsInodesOf index block
named_place changed index None None is names block there = names block there
named_place changed index None (Some now) is names block there = absurd is
named_place changed index (Some was) None is names block there = absurd is
named_place changed index (Some was) (Some now) is names block there = subst (IsInodesOf index) (some_same now block there) (named_block changed index was now is (names was refl))

module _ (t v u : Tree) (first : Blanks t v) (second : BlanksRoots v u) where
  same_file : (held : Under) (n : ℕ) → file_at (standing held v) n ≡ file_at (standing held t) n
  unfolding file_at
  same_file held n = ap (λ (b : Option (List ℕ)). used_record (get_or (records_in b) (n % records_each) free_record)) ((first.alike held).blocks (n / records_each))

  files : (held : Under) (n : ℕ) → file_at (standing held u) n ≡ cond (changed_of t 0 (n / records_each)) (option_map hintless_record (file_at (standing held t) n)) (file_at (standing held t) n)
  files held n = second.files held n ∙ (λ j. cond (first.changed 0 (n / records_each) j) (option_map hintless_record (same_file held n j)) (same_file held n j))

  cell_same : (i : ℕ) → cell_in v i ≡ cell_in t i
  cell_same i = ap (λ (m : maps.BTreeMap ℕ KeptCell). option_map (λ (kept : KeptCell). kept.block.value) (maps.get nat_cmp m i)) first.cells

  ready : (n : ℕ) → HoldsFile t n → HoldsFile u n
  ready n is = record {
    way = second.keeps_ready (n / records_each) (first.keeps_ready (n / records_each) is.way);
    used = still_used v u second (n / records_each) (n % records_each)
        ∙ ap (λ (b : Option (List ℕ)). is_some (used_record (get_or (records_in b) (n % records_each) free_record))) (cell_same (n / records_each)) ∙ is.used;
  }

  indexes : (held : Under) → NamesIndexes (standing held t) → NamesIndexes (standing held u)
  indexes held names index block there =
      named_place (changed_of v 0 index) index (block_at (standing held v) index) (block_at (standing held u) index) (second.blocks held index)
      (λ was is. names index was (sym ((first.alike held).blocks index) ∙ is)) block there

  pub blanks_files : BlanksFiles t u
  blanks_files = record {
    owner = second.owner ∙ first.owner;
    levels = second.levels ∙ first.levels;
    root = second.root ∙ first.root;
    changed = λ level place. second.changed level place ∙ first.changed level place;
    placed = λ level place. second.placed level place ∙ first.placed level place;
    pending = second.pending ∙ first.pending;
    rises = let p = second.pending ∙ first.pending in let n = second.cells.len ∙ ap (λ (m : maps.BTreeMap ℕ KeptCell). maps.btree_map_len m) first.cells in record { pending = omega (arith, p); cells = omega (arith, n) };
    pointers = λ held level place. second.pointers held level place ∙ first.pointers held level place;
    stamps = λ held level place. ap stamp_in (second.pointers held level place) ∙ (first.alike held).stamps level place;
    files = files;
    sound = λ held used is. second.sound held used (first.sound held used is);
    leads = λ held level place w led. first.leads held level place w (second.leads held level place w led);
    keeps = λ held level place w led. second.keeps held level place w (first.keeps held level place w led);
    stored_well = λ held is. second.stored_well held (first.stored_well held is);
    leads_unknown = λ held is. second.leads_unknown held (first.leads_unknown held is);
    indexes = indexes;
    ready = ready;
  }

-- ---- what will be written

option_pvbn : Option InodeRecord → ℕ
option_pvbn None = 0
option_pvbn (Some r) = r.root.pvbn

root_of : (b : Bool) (o : Option InodeRecord) → b ≡ true → option_pvbn (cond b (option_map hintless_record o) o) ≡ 0
unfolding option_pvbn
root_of true None is = refl
root_of true (Some r) is = refl
root_of false o is = false_is_true false refl is

module _ (t u : Tree) (is : BlanksFiles t u) (held : Under) where
  -- each pointer that a later flush writes tells no place
  pub blanked_unknown : WritesUnknown (loaded_over held u)
  blanked_unknown = hintless_unknown (loaded_over held t) (loaded_over held u) is.levels is.changed (is.pointers held)

  -- nor does the root of a file in an inode block that it writes
  pub blanked_roots : (n : ℕ) (r : InodeRecord) → changed_of u 0 (n / records_each) ≡ true → file_at (standing held u) n ≡ Some r → r.root.pvbn ≡ 0
  unfolding option_pvbn
  blanked_roots n r now there =
      ap option_pvbn (sym there ∙ is.files held n) ∙ root_of (changed_of t 0 (n / records_each)) (file_at (standing held t) n) (sym (is.changed 0 (n / records_each)) ∙ now)

-- ---- the table

-- the tree that a root pointer leads to is told by its VVBNs and stamps alone
module _ (held : Under) (owner levels : ℕ) (root : Pointer) where
  abbrev before : Rooted
  before = stored held owner levels root

  abbrev after : Rooted
  after = stored held owner levels (hintless root)

  same_stamp : (level place : ℕ) → (pointer_at after level place).stamp ≡ (pointer_at before level place).stamp
  same_stamp = alike_stamp held held owner levels root (hintless root) refl (λ level place low some. refl)

  same_vvbn : (level place : ℕ) → (pointer_at after level place).vvbn ≡ (pointer_at before level place).vvbn
  same_vvbn = alike_vvbn held held owner levels root (hintless root) refl (λ level place low some. refl)

  same_block : (index : ℕ) → block_at after index ≡ block_at before index
  unfolding block_at
  same_block index = λ j. if same_stamp 0 index j == 0 then None else held (same_vvbn 0 index j)

  told_same : AreTold before after
  told_same = record {
    levels = refl;
    stamps = λ level place. ap (λ (n : ℕ). if n == 0 then None else Some n) (same_stamp level place);
    blocks = same_block;
  }

told_itself : (t : Rooted) → AreTold t t
told_itself t = record { levels = refl; stamps = λ level place. refl; blocks = λ index. refl }

module _ (t u : Tree) (is : BlanksFiles t u) (trees : ℕ → Option Rooted) (held : Under) where
  abbrev x : Standing
  x = record { inode = standing held t; trees = trees }

  abbrev y : Standing
  y = record { inode = standing held u; trees = trees }

  tree_same : (n : ℕ) (r : InodeRecord) (kept : Option Rooted) → AreTold (tree_or kept (stored held n r.levels r.root)) (tree_or kept (stored held n r.levels (hintless r.root)))
  tree_same n r None = told_same held n r.levels r.root
  tree_same n r (Some kept) = told_itself kept

  file_same : (n : ℕ) (b : Bool) (o : Option InodeRecord) → IsPlacedFile x y n o (cond b (option_map hintless_record o) o)
  file_same n true None = tt
  file_same n false None = tt
  file_same n true (Some r) = (record { name_length = refl; name = refl; length = refl; reserve = refl }, tree_same n r (trees n))
  file_same n false (Some r) = (record { name_length = refl; name = refl; length = refl; reserve = refl }, told_itself (tree_of x n r))

  -- the table is the same but for places, so it is told as before
  pub blanked_table : IsPlacedTable x y
  blanked_table = record {
    levels = is.levels;
    stamps = is.stamps held;
    files = λ n. subst (IsPlacedFile x y n (file_at x.inode n)) (sym (is.files held n)) (file_same n (changed_of t 0 (n / records_each)) (file_at x.inode n));
  }

  pub blanked_told : table_told y ≡ table_told x
  blanked_told = placed_table x y blanked_table
