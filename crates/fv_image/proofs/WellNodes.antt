-- The nodes and cells of a tree of which all that it reaches is sound.
use Rattle.std.proofs.Common.{◌≡◌, ◌≢◌, ℕ, zero, suc, ◌+◌, ◌/◌, ◌<◌, ◌≤◌, Bool, true, false, List, [], ◌∷◌, length, refl, sym, ap, ◌∙◌, arith, get_or, Result, Ok, Err}
use Rattle.std.specs.Prelude.{Option, Some, None, ◌&&◌, ◌==◌, nat_le, drop, if◌then◌else◌}
use Rattle.std.specs.Option.{is_some}
use Rattle.std.specs.FinMap as fin
use Rattle.std.proofs.lemmas.Bool.{both_ways}
use Rattle.std.proofs.lemmas.Bool.Decides.{nat_tests}
use Rattle.fv_codec.specs.declared.shape.Shape.{Shape}
use Rattle.fv_codec.specs.declared.pointer.Pointer.{Pointer}
use Rattle.fv_codec.specs.declared.node.Node.{Node}
use Rattle.fv_codec.specs.declared.inode.InodeRecord.{InodeRecord}
use Rattle.fv_codec.specs.declared.inode.InodeBlock.{InodeBlock}
use Rattle.fv_codec.specs.Bytes.{word_at}
use Rattle.fv_codec.specs.Fields.{Verdict, items, reading, verdict_of, verdicts}
use Rattle.fv_codec.specs.Blocks.{greatest_word, node_fields, node_at, pointer_of, all_holes, IsNode, inodes_fields, inodes_at, file_of}
use Rattle.fv_codec.proofs.Decoded.{node_in_range}
use Rattle.fv_model.specs.Trees.{fan, least_levels}
use Rattle.fv_laws.specs.WellFormed.{IsTree}
use Rattle.fv_laws.proofs.Lists.{In}
use Rattle.fv_laws.proofs.Tables.{key_there, there_key}
use Rattle.fv_tables.specs.Spelled.{Under, Rooted, hole, pointers_of, pointers_in, stored, pointers_at, pointer_at, block_at}
use Rattle.fv_tables.specs.Told.{tree_told, cells_told}
use Rattle.fv_tables.specs.Reached.{item_of}
use Rattle.fv_tables.proofs.Pointers.{no_block}
use Rattle.fv_tables.proofs.Tables.{blocks_told}
use Rattle.fv_image.specs.BlockRules.{is_fine}
use Rattle.fv_image.specs.ReachRules.{shape_for}
use Rattle.fv_image.specs.TableRules.{are_levels}
use Rattle.fv_image.proofs.WellTrees.{StandsAt, IsNoded, well_tree}

-- ---- what blocks of their shape have

pub length_items : {X : Type 0} (n size : ℕ) (value : List ℕ → X) (bytes : List ℕ) → length (items n size value bytes) ≡ n
unfolding items
length_items zero size value bytes = refl
length_items (suc n) size value bytes = let rest = length_items n size value (drop size bytes) in omega (arith, rest)

children_of : (block : List ℕ) (n : Node) → node_at block ≡ Ok n → length n.children ≡ 128
unfolding node_at
children_of block n e = so (verdicts node_fields block) e
  where
    so : (v : Verdict) → reading v (record { level = word_at 8 block; owner = word_at 16 block; place = word_at 24 block; children = items 128 24 pointer_of (drop 1024 block) }) ≡ Ok n → length n.children ≡ 128
    so (Ok fine) e = let same : items 128 24 pointer_of (drop 1024 block) ≡ n.children = cc in ap (λ (ps : List Pointer). length ps) (sym same) ∙ length_items 128 24 pointer_of (drop 1024 block)
    so (Err fault) e = absurd cc

pub files_of : (block : List ℕ) (b : InodeBlock) → inodes_at block ≡ Ok b → length b.files ≡ 16
unfolding inodes_at
files_of block b e = so (verdicts inodes_fields block) e
  where
    so : (v : Verdict) → reading v (record { index = word_at 8 block; files = items 16 240 file_of (drop 256 block) }) ≡ Ok b → length b.files ≡ 16
    so (Ok fine) e = let same : items 16 240 file_of (drop 256 block) ≡ b.files = cc in ap (λ (rs : List InodeRecord). length rs) (sym same) ∙ length_items 16 240 file_of (drop 256 block)
    so (Err fault) e = absurd cc

-- where not all of a list are empty, one isn't
pub some_used : {A : Type 0} (number : A → ℕ) (absent : A) (none : List A → Bool) → none [] ≡ true → ((x : A) (xs : List A) → none (x ∷ xs) ≡ ((number x == 0) && none xs))
    → (xs : List A) → none xs ≡ false → (c : ℕ) × ((c < length xs) × (number (get_or xs c absent) ≢ 0))
some_used number absent none empty step [] e = absurd (both_ways (none []) e empty)
some_used number absent none empty step (x ∷ xs) e = so (number x == 0) refl (some_used number absent none empty step xs) (sym (step x xs) ∙ e)
  where
    so : (b : Bool) → (number x == 0) ≡ b → (none xs ≡ false → (c : ℕ) × ((c < length xs) × (number (get_or xs c absent) ≢ 0))) → (b && none xs) ≡ false → (c : ℕ) × ((c < length (x ∷ xs)) × (number (get_or (x ∷ xs) c absent) ≢ 0))
    so true test rest e = let one = rest e in let low : one.0 < length xs = one.1.0 in (suc one.0, (omega (arith, low), one.1.1))
    so false test rest e = (0, (omega arith, let some : number x ≢ 0 = grind (arith, nat_tests, test) in some))

some_pointer : (ps : List Pointer) → all_holes ps ≡ false → (c : ℕ) × ((c < length ps) × ((get_or ps c hole).stamp ≢ 0))
some_pointer ps e = some_used (λ (p : Pointer). p.stamp) hole all_holes refl (λ p qs. refl) ps e

-- a node of its shape has a pointer
node_has : (block : List ℕ) → length block ≡ 4096 → is_fine (verdict_of (node_at block)) ≡ true
    → (c : ℕ) × ((c < fan) × ((get_or (pointers_in (Some block)) c hole).stamp ≢ 0))
node_has block long shape = so (node_at block) refl shape
  where
    so : (r : Result Node Shape) → node_at block ≡ r → is_fine (verdict_of r) ≡ true → (c : ℕ) × ((c < fan) × ((get_or (pointers_in (Some block)) c hole).stamp ≢ 0))
    so (Err f) is shape = absurd cc
    so (Ok n) is shape =
        let node : IsNode n = node_in_range block (Ok n) long (sym is) in
        let one = some_pointer n.children node.some in
        let children = children_of block n is in
        let low : one.0 < length n.children = one.1.0 in
        let same : pointers_of (node_at block) ≡ n.children = ap pointers_of is in
        (one.0, (omega (arith, low, children), λ none. one.1.1 (sym (ap (λ (ps : List Pointer). (get_or ps one.0 hole).stamp) same) ∙ none)))

-- ---- a tree of which all that it reaches is sound

-- the block of a position, of its shape
pub record HasBlock (top : Pointer) (t : Rooted) (level place : ℕ) : Type 0 where
  pub block : List ℕ
  pub there : t.under (pointer_at t level place).vvbn ≡ Some block
  pub long : length block ≡ 4096
  pub shape : is_fine (shape_for (item_of top t level place) block) ≡ true

pub record IsSoundTree (now reserve : ℕ) (top : Pointer) (t : Rooted) : Type 0 where
  pub blocks : (level place : ℕ) → StandsAt t level place → HasBlock top t level place
  pub stamps : (level place : ℕ) → StandsAt t level place → (pointer_at t level place).stamp ≤ now
  pub marks : (level place : ℕ) → level < t.levels → StandsAt t level place → (pointer_at t level place).stamp ≤ (pointer_at t (level + 1) (place / fan)).stamp
  pub levels : are_levels reserve t.levels t.root.stamp ≡ true

-- the levels of a tree are at least their start, and just that without cells
starts_at : (reserve levels stamp : ℕ) → are_levels reserve levels stamp ≡ true → (least_levels reserve ≤ levels) × (stamp ≡ 0 → levels ≡ least_levels reserve)
starts_at reserve levels stamp e = so (stamp == 0) refl e
  where
    so : (b : Bool) → (stamp == 0) ≡ b → (if b then (levels == least_levels reserve) else nat_le (least_levels reserve) levels) ≡ true → (least_levels reserve ≤ levels) × (stamp ≡ 0 → levels ≡ least_levels reserve)
    so true test e = let same : levels ≡ least_levels reserve = grind (arith, nat_tests, e) in (omega (arith, same), λ none. same)
    so false test e = let low : least_levels reserve ≤ levels = grind (arith, nat_tests, e) in (low, λ none. absurd (let some : stamp ≢ 0 = grind (arith, nat_tests, test) in some none))

-- such a tree has its nodes
pub noded : (now reserve : ℕ) (top : Pointer) (under : Under) (owner levels : ℕ) (root : Pointer) → IsSoundTree now reserve top (stored under owner levels root) → IsNoded now (least_levels reserve) (stored under owner levels root)
unfolding pointers_at
noded now reserve top under owner levels root is = record {
  some = λ level place low some.
      let t : Rooted = stored under owner levels root in
      let b : HasBlock top t (level + 1) place = is.blocks (level + 1) place some in
      let above : (level + 1 == 0) ≡ false = grind (arith, nat_tests) in
      let shape : is_fine (verdict_of (node_at b.block)) ≡ true = sym (ap (λ (z : Bool). is_fine (if z then (if owner == greatest_word then verdict_of (inodes_at b.block) else Ok tt) else verdict_of (node_at b.block))) above) ∙ b.shape in
      let one = node_has b.block b.long shape in
      let stands : ((pointer_at t (level + 1) place).stamp == 0) ≡ false = grind (arith, nat_tests, some) in
      let same : pointers_at t (level + 1) place (pointer_at t (level + 1) place) ≡ pointers_in (Some b.block) =
      ap (λ (z : Bool). if z then [] else pointers_in (under (pointer_at t (level + 1) place).vvbn)) stands ∙ ap pointers_in b.there in
      (one.0, (one.1.0, λ none. one.1.1 (sym (ap (λ (ps : List Pointer). (get_or ps one.0 hole).stamp) same) ∙ none)));
  stamps = is.stamps;
  marks = is.marks;
  starts = (starts_at reserve levels root.stamp is.levels).0;
  bare = (starts_at reserve levels root.stamp is.levels).1;
}

-- ---- the cells of a file

module _ (now reserve : ℕ) (top : Pointer) (under : Under) (owner levels : ℕ) (root : Pointer) (is : IsSoundTree now reserve top (stored under owner levels root)) where
  abbrev t : Rooted
  t = stored under owner levels root

  -- a cell that stands has its block
  pub cell_block : (i : ℕ) → (some : StandsAt t 0 i) → block_at t i ≡ Some (is.blocks 0 i some).block
  unfolding block_at
  cell_block i some =
      let stands : ((pointer_at t 0 i).stamp == 0) ≡ false = grind (arith, nat_tests, some) in
      ap (λ (z : Bool). if z then None else under (pointer_at t 0 i).vvbn) stands ∙ (is.blocks 0 i some).there

  -- and what has a block stands
  pub stands_there : (i : ℕ) → is_some (block_at t i) ≡ true → StandsAt t 0 i
  stands_there i there none = absurd (wrong (sym (ap (λ (o : Option (List ℕ)). is_some o) (no_block t i none)) ∙ there))
    where
      wrong : false ≡ true → ⊥
      wrong e = cc

  pub from_cells : (i : ℕ) → In i (fin.keys (cells_told t)) → StandsAt t 0 i
  from_cells i there = stands_there i (sym (ap (λ (o : Option (List ℕ)). is_some o) (blocks_told t i)) ∙ key_there (cells_told t) i there)

  to_cells : (i : ℕ) → StandsAt t 0 i → In i (fin.keys (cells_told t))
  to_cells i some = there_key (cells_told t) i (ap (λ (o : Option (List ℕ)). is_some o) (blocks_told t i ∙ cell_block i some))

  pub well_cells : IsTree now (least_levels reserve) (fin.keys (cells_told t)) (tree_told t)
  well_cells = well_tree now (least_levels reserve) t (noded now reserve top under owner levels root is) (fin.keys (cells_told t)) from_cells to_cells
