-- Inode blocks: what was written is read again.
use Rattle.std.proofs.Common.{◌≡◌, ℕ, zero, suc, ◌<◌, ◌^◌, Bool, false, ◌&&◌, List, [], ◌∷◌, ◌++◌, length, drop, lit<, lit≤, Ok, refl, arith, ap, sym, ◌∙◌, append_assoc, append-nil, length-append}
use Rattle.std.specs.List.{flat_map, All, AllByRecursion}
use Rattle.std.proofs.lemmas.List.Elements.{All-head, All-tail}
use Rattle.fv_codec.specs.declared.inode.InodeRecord.{InodeRecord}
use Rattle.fv_codec.specs.declared.inode.InodeBlock.{InodeBlock}
use Rattle.fv_codec.specs.Bytes.{word, byte_at, zeros}
use Rattle.fv_codec.specs.Fields.{items, none_filled, up_to}
use Rattle.fv_codec.specs.Blocks.{greatest_word, most_cells, is_used, file_fields, asks_file, file_of, is_free_at, all_free, IsInodeRecord, inodes_fields, inodes_at, IsInodeBlock}
use Rattle.fv_codec.specs.Spelling.{pointer_bytes, file_bytes, inodes_bytes}
use Rattle.fv_codec.proofs.Numbers.{word_said, word_there, byte_said, byte_there, zeros_said, past, past_word, past_zeros, name_said, run_there, all_said, length-word, length-zeros, up_to-le}
use Rattle.fv_codec.proofs.Items.{ReadsBack, items_said, items_there}
use Rattle.fv_codec.proofs.Nodes.{pointer_again, length-pointer}

-- the items are empty where all of the records are free
pub free_alone : (n size : ℕ) (bytes : List ℕ) → none_filled n size is_free_at bytes ≡ all_free (items n size file_of bytes)
unfolding none_filled items file_of
free_alone zero size bytes = refl
free_alone (suc n) size bytes = ap (λ (b : Bool). is_free_at bytes && b) (free_alone n size (drop size bytes))

pub length-file : (r : InodeRecord) → length r.name ≡ 64 → length (file_bytes r) ≡ 240
unfolding file_bytes
length-file r long = simp (length-append, length-word, length-zeros, length-pointer, long) refl

-- the offsets of a record's parts, whatever follows
record Parts (r : InodeRecord) (rest : List ℕ) : Type 0 where
  d0 : file_bytes r ++ rest ≡ (r.name_length ∷ []) ++ (r.name ++ (zeros 7 ++ (word r.length ++ (word r.reserve ++ (word r.levels ++ (pointer_bytes r.root ++ (zeros 120 ++ rest)))))))
  d1 : drop 1 (file_bytes r ++ rest) ≡ r.name ++ (zeros 7 ++ (word r.length ++ (word r.reserve ++ (word r.levels ++ (pointer_bytes r.root ++ (zeros 120 ++ rest))))))
  d65 : drop 65 (file_bytes r ++ rest) ≡ zeros 7 ++ (word r.length ++ (word r.reserve ++ (word r.levels ++ (pointer_bytes r.root ++ (zeros 120 ++ rest)))))
  d72 : drop 72 (file_bytes r ++ rest) ≡ word r.length ++ (word r.reserve ++ (word r.levels ++ (pointer_bytes r.root ++ (zeros 120 ++ rest))))
  d80 : drop 80 (file_bytes r ++ rest) ≡ word r.reserve ++ (word r.levels ++ (pointer_bytes r.root ++ (zeros 120 ++ rest)))
  d88 : drop 88 (file_bytes r ++ rest) ≡ word r.levels ++ (pointer_bytes r.root ++ (zeros 120 ++ rest))
  d96 : drop 96 (file_bytes r ++ rest) ≡ pointer_bytes r.root ++ (zeros 120 ++ rest)
  d120 : drop 120 (file_bytes r ++ rest) ≡ zeros 120 ++ rest

parts : (r : InodeRecord) (rest : List ℕ) → length r.name ≡ 64 → Parts r rest
unfolding file_bytes
parts r rest long =
    let b = file_bytes r ++ rest in
    let d0 : b ≡ (r.name_length ∷ []) ++ (r.name ++ (zeros 7 ++ (word r.length ++ (word r.reserve ++ (word r.levels ++ (pointer_bytes r.root ++ (zeros 120 ++ rest))))))) = simp append_assoc in
    let d1 = past 0 1 (r.name_length ∷ []) b _ refl d0 in
    let d65 = past 1 64 r.name b _ long d1 in
    let d72 = past_zeros 65 7 b _ d65 in
    let d80 = past_word 72 r.length b _ d72 in
    let d88 = past_word 80 r.reserve b _ d80 in
    let d96 = past_word 88 r.levels b _ d88 in
    let d120 = past 96 24 (pointer_bytes r.root) b _ (length-pointer r.root) d96 in
    record { d0 = d0; d1 = d1; d65 = d65; d72 = d72; d80 = d80; d88 = d88; d96 = d96; d120 = d120 }

file_again : (r : InodeRecord) → IsInodeRecord r → ReadsBack 240 file_bytes asks_file file_of r
unfolding asks_file file_of
file_again r is =
    let used = is_used r.name_length in
    let most = up_to-le used most_cells in
    let three = up_to-le used 3 in
    let len : r.length < 2 ^ 64 = omega (arith, is.length, most) in
    let reserve : r.reserve < 2 ^ 64 = omega (arith, is.reserve, most) in
    let levels : r.levels < 2 ^ 64 = omega (arith, is.levels, three) in
    let root = pointer_again used r.root is.root in
    let whole : List ℕ → List ℕ = λ (rest : List ℕ). file_bytes r ++ rest in
    let d : (rest : List ℕ) → Parts r rest = λ rest. parts r rest is.name_long in
    let first : (rest : List ℕ) → byte_at 0 (whole rest) ≡ r.name_length = λ rest. byte_there 0 r.name_length (whole rest) _ (d rest).d0 in
    record {
      long = length-file r is.name_long;
      fine = λ rest. let b = whole rest in let p = d rest in all_said (file_fields b) b (
        byte_said 0 0 64 r.name_length b _ p.d0 (omega arith) is.name_length,
        (
          rw (first rest) (name_said 1 r.name_length r.name b _ p.d1 is.name_long is.name),
          (
            zeros_said 65 7 b _ p.d65,
            (
              rw (first rest) (word_said 72 0 (up_to used most_cells) r.length b _ p.d72 len (omega arith) is.length),
              (
                rw (first rest) (word_said 80 0 (up_to used most_cells) r.reserve b _ p.d80 reserve (omega arith) is.reserve),
                (
                  rw (first rest) (word_said 88 0 (up_to used 3) r.levels b _ p.d88 levels (omega arith) is.levels),
                  (
                    rw (first rest, p.d96) (root.fine (zeros 120 ++ rest)),
                    (zeros_said 120 120 b _ p.d120, tt),
                  ),
                ),
              ),
            ),
          ),
        ),
      );
      same = λ rest. let b = whole rest in let p = d rest in rw (first rest, run_there 1 64 r.name b _ p.d1 is.name_long, word_there 72 r.length b _ p.d72 len, word_there 80 r.reserve b _ p.d80 reserve, word_there 88 r.levels b _ p.d88 levels, p.d96, root.same (zeros 120 ++ rest)) refl;
    }

files_again : (rs : List InodeRecord) → All IsInodeRecord rs → AllByRecursion (ReadsBack 240 file_bytes asks_file file_of) rs
files_again [] are = tt
files_again (r ∷ rs) are = (file_again r (All-head IsInodeRecord r rs are), files_again rs (All-tail IsInodeRecord r rs are))

pub inodes_again : (b : InodeBlock) → IsInodeBlock b → b.index < 2 ^ 64 → length b.files ≡ 16 → inodes_at (inodes_bytes b) ≡ Ok b
unfolding inodes_at
inodes_again block is index long =
    let b = inodes_bytes block in
    let mark : ℕ = 0x4656494e4f444553 in
    let r256 = flat_map file_bytes block.files in
    let r16 = zeros 240 ++ r256 in
    let d8 = past_word 0 mark b (word block.index ++ r16) refl in
    let d16 = past_word 8 block.index b r16 d8 in
    let d256 = past_zeros 16 240 b r256 d16 ∙ sym (append-nil r256) in
    let files = files_again block.files is.files in
    let there = items_there 256 16 240 file_bytes asks_file file_of block.files b [] long files d256 in
    let some : none_filled 16 240 is_free_at (drop 256 b) ≡ false = free_alone 16 240 (drop 256 b) ∙ ap all_free there ∙ is.some in
    let all = all_said inodes_fields b (
      word_said 0 mark mark mark b _ refl (lit< tt) (lit≤ tt) (lit≤ tt),
      (
        word_said 8 0 greatest_word block.index b _ d8 index (omega arith) (omega (arith, index)),
        (
          zeros_said 16 240 b _ d16,
          (
            items_said 256 16 240 file_bytes asks_file file_of block.files b [] long files d256,
            (rw some refl, tt),
          ),
        ),
      ),
    ) in
    rw (all, word_there 8 block.index b _ d8 index, there) refl
