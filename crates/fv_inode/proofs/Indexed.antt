-- Inode blocks name their indexes, also after an inode file changed.
use Rattle.std.proofs.Common.{◌≡◌, ◌≢◌, ℕ, ◌/◌, Bool, true, false, cond, List, refl, sym, ap, ◌∙◌, ⊎_elim}
use Rattle.std.specs.Prelude.{Option, Some, None, Ok}
use Rattle.std.proofs.lemmas.Bool.{cases_eq}
use Rattle.fv_codec.specs.declared.pointer.Pointer.{Pointer}
use Rattle.fv_codec.specs.declared.inode.InodeRecord.{InodeRecord}
use Rattle.fv_codec.specs.Blocks.{inodes_at}
use Rattle.fv_tables.specs.Spelled.{Rooted, block_at}
use Rattle.fv_tables.specs.Told.{records_each}
use Rattle.fv_tree.specs.Writing.{IsAlike}
use Rattle.fv_tree.specs.Erasing.{IsErased}
use Rattle.fv_tree.proofs.Cases.{some_none}
use Rattle.fv_tree.proofs.Writes.{block_none, none_at}
use Rattle.fv_inode.specs.Files.{IsInodesOf, NamesIndexes}
use Rattle.fv_inode.specs.Changing.{FillsFiles, Rewrites, SetsRoot, WritesFiles}

block_in : Option (List ℕ) → List ℕ → List ℕ
block_in None block = block
block_in (Some kept) block = kept

same_block : (one other : List ℕ) → Some one ≡ Some other → one ≡ other
unfolding block_in
same_block one other is = ap (λ o. block_in o one) is

pub alike_indexes : (t u : Rooted) → IsAlike t u → NamesIndexes t → NamesIndexes u
alike_indexes t u alike is index block at = is index block (sym (alike.blocks index) ∙ at)

-- one inode block became another, which names its index
module _ (t u : Rooted) (cell : ℕ) (block : List ℕ) (files : List InodeRecord) (spells : inodes_at block ≡ Ok (record { index = cell; files = files })) (now : block_at u cell ≡ Some block)
    (others : (index : ℕ) → index ≢ cell → block_at u index ≡ block_at t index) where
  pub one_indexes : NamesIndexes t → NamesIndexes u
  one_indexes is index got at = ⊎_elim
      (λ (same : index ≡ cell). record {
        files = files;
        spells = ap inodes_at (same_block got block (sym at ∙ ap (block_at u) same ∙ now)) ∙ spells ∙ ap (λ k. Ok (record { index = k; files = files })) (sym same);
      })
      (λ (differs : index ≢ cell). is index got (sym (others index differs) ∙ at))
      (cases_eq index cell)

pub written_indexes : (t u : Rooted) (cell s : ℕ) (files : List InodeRecord) → WritesFiles t u cell s files → NamesIndexes t → NamesIndexes u
written_indexes t u cell s files is = one_indexes t u cell is.block files is.spelled is.place_by_place.cell is.place_by_place.blocks

pub rewritten_indexes : (t u : Rooted) (n s : ℕ) (now : Option InodeRecord) → Rewrites t u n s now → NamesIndexes t → NamesIndexes u
rewritten_indexes t u n s now is = one_indexes t u (n / records_each) is.block is.inodes is.spelled is.place_by_place.cell is.place_by_place.blocks

pub filled_indexes : (t u : Rooted) (cell : ℕ) (files : List InodeRecord) → FillsFiles t u cell files → NamesIndexes t → NamesIndexes u
filled_indexes t u cell files is = one_indexes t u cell is.block files is.spelled is.place_by_place.cell is.place_by_place.blocks

pub rooted_indexes : (t u : Rooted) (n levels : ℕ) (root : Pointer) → SetsRoot t u n levels root → NamesIndexes t → NamesIndexes u
rooted_indexes t u n levels root is = filled_indexes t u (n / records_each) is.inodes is.fills

-- cells went
pub erased_indexes : (t u : Rooted) (gone : ℕ → Bool) (start s : ℕ) → IsErased t u gone start s → NamesIndexes t → NamesIndexes u
erased_indexes t u gone start s erased is index block at = by (gone index) refl
  where
    by : (b : Bool) → gone index ≡ b → IsInodesOf index block
    by true went = some_none (block_at u index) block (erased.blocks index ∙ ap (λ b. cond b None (block_at t index)) went) at
    by false stays = is index block (sym (erased.blocks index ∙ ap (λ b. cond b None (block_at t index)) stays) ∙ at)

-- a tree without a cell has no inode block
pub bare_indexes : (t : Rooted) → t.root.stamp ≡ 0 → NamesIndexes t
bare_indexes t none index block at = some_none (block_at t index) block (block_none t index (none_at t none 0 index)) at
