-- One record of an inode block, written in its place: the block spells the others as before.
use Rattle.std.proofs.Common.{◌≡◌, ℕ, zero, suc, ◌+◌, ◌-◌, ◌*◌, ◌<◌, ◌≤◌, ◌^◌, false, List, [], ◌∷◌, ◌++◌, length, take, drop, set, Result, Ok, Err, refl, ap, sym, ◌∙◌, arith, append_assoc}
use Rattle.std.specs.Prelude.{IfOk, slice_set}
use Rattle.std.specs.List.{flat_map, All, AllByRecursion}
use Rattle.std.proofs.Math.Seq.{take-append-add, drop-append-add}
use Rattle.std.proofs.lemmas.List.{take-append-drop, length-append, length-set, take_at}
use Rattle.std.proofs.lemmas.List.Elements.{All-set, All-head, All-tail}
use Rattle.std.proofs.lemmas.List.Concat.{flat_map-cons}
use Rattle.std.proofs.lemmas.Slice.{take-put_mid, drop-put_mid}
use borrow.Rule.Slice.PartMut.{put_mid}
use Rattle.fv_codec.specs.declared.shape.Shape.{Shape}
use Rattle.fv_codec.specs.declared.inode.InodeRecord.{InodeRecord}
use Rattle.fv_codec.specs.declared.inode.InodeBlock.{InodeBlock}
use Rattle.fv_codec.specs.Bytes.{word, zeros}
use Rattle.fv_codec.specs.Fields.{verdicts, items}
use Rattle.fv_codec.specs.Blocks.{all_free, file_of, inodes_at, inodes_fields, IsInodeBlock, IsInodeRecord}
use Rattle.fv_codec.specs.Spelling.{file_bytes, inodes_bytes}
use Rattle.fv_codec.proofs.Numbers.{length-word, length-zeros, past_word}
use Rattle.fv_codec.proofs.Ranges.{reading_ok}
use Rattle.fv_codec.proofs.Decoded.{inodes_in_range}
use Rattle.fv_codec.proofs.Inodes.{length-file, inodes_again}
use Rattle.fv_codec.proofs.Found.{IsBytes}
use Rattle.fv_codec.proofs.Laws.{inodes_spelled}

module _ {X : Type 0} (size : ℕ) (spell : X → List ℕ) where
  -- each of them is spelled by so many bytes
  abbrev Even : List X → Type 0
  Even xs = AllByRecursion (λ (x : X). length (spell x) ≡ size) xs

  -- items of which one is another, as they are spelled
  spelled_with : (xs : List X) (i : ℕ) (x : X) → Even xs → i < length xs
      → flat_map spell (set xs i x) ≡ take (size * i) (flat_map spell xs) ++ (spell x ++ drop (size * i + size) (flat_map spell xs))
  spelled_with [] i x even lt = absurd (omega (arith, lt))
  spelled_with (y ∷ ys) zero x even lt =
      let e : size * 0 ≡ 0 = omega arith in
      let plus : 0 + size ≡ size = omega arith in
      let rest : drop (0 + size) (flat_map spell (y ∷ ys)) ≡ flat_map spell ys = ap (λ (k : ℕ). drop k (flat_map spell (y ∷ ys))) plus ∙ drop_front y ys even.0 in
      flat_map-cons spell x ys
      ∙ ap (λ (bytes : List ℕ). spell x ++ bytes) (sym rest)
      ∙ ap (λ (k : ℕ). take k (flat_map spell (y ∷ ys)) ++ (spell x ++ drop (k + size) (flat_map spell (y ∷ ys)))) (sym e)
    where
      drop_front : (z : X) (zs : List X) → length (spell z) ≡ size → drop size (flat_map spell (z ∷ zs)) ≡ flat_map spell zs
      drop_front z zs long =
          let e : length (spell z) + 0 ≡ size = omega (arith, long) in
          sym (ap (λ (k : ℕ). drop k (flat_map spell (z ∷ zs))) e) ∙ ap (drop (length (spell z) + 0)) (flat_map-cons spell z zs) ∙ drop-append-add (spell z) (flat_map spell zs) 0
  spelled_with (y ∷ ys) (suc i) x even lt =
      let others = flat_map spell ys in
      let more : length (spell y) + size * i ≡ size * suc i = omega (arith, even.0) in
      let behind : length (spell y) + (size * i + size) ≡ size * suc i + size = omega (arith, even.0) in
      let front : take (size * suc i) (flat_map spell (y ∷ ys)) ≡ spell y ++ take (size * i) others =
      sym (ap (λ (k : ℕ). take k (flat_map spell (y ∷ ys))) more) ∙ ap (take (length (spell y) + size * i)) (flat_map-cons spell y ys) ∙ take-append-add (spell y) others (size * i) in
      let back : drop (size * suc i + size) (flat_map spell (y ∷ ys)) ≡ drop (size * i + size) others =
      sym (ap (λ (k : ℕ). drop k (flat_map spell (y ∷ ys))) behind) ∙ ap (drop (length (spell y) + (size * i + size))) (flat_map-cons spell y ys) ∙ drop-append-add (spell y) others (size * i + size) in
      flat_map-cons spell y (set ys i x) ∙ ap (λ (bytes : List ℕ). spell y ++ bytes) (spelled_with ys i x even.1 (omega arith))
      ∙ sym (append_assoc (spell y) (take (size * i) others) (spell x ++ drop (size * i + size) others))
      ∙ rw (front, back) refl

-- a run that was put into the midst of bytes
put_is : (a k : ℕ) (xs ys : List ℕ) → a + k ≤ length xs → length ys ≡ k → put_mid a k xs ys ≡ take a xs ++ (ys ++ drop (a + k) xs)
put_is a k xs ys fits long =
    sym (take-append-drop (a + k) (put_mid a k xs ys))
    ∙ rw (take-put_mid a k xs ys (a + k) (omega (arith, long)) (omega (arith, fits)), drop-put_mid a k xs ys (a + k) (omega arith) (omega (arith, fits)) long) (append_assoc (take a xs) ys (drop (a + k) xs))

files_even : (rs : List InodeRecord) → All IsInodeRecord rs → AllByRecursion (λ (r : InodeRecord). length (file_bytes r) ≡ 240) rs
files_even [] are = tt
files_even (r ∷ rs) are = (length-file r (All-head IsInodeRecord r rs are).name_long, files_even rs (All-tail IsInodeRecord r rs are))

-- records of which one is used aren't all free
some_used : (rs : List InodeRecord) (i : ℕ) (r : InodeRecord) → i < length rs → 1 ≤ r.name_length → all_free (set rs i r) ≡ false
some_used [] i r lt used = absurd (omega (arith, lt))
some_used (x ∷ rs) zero r lt used = grind arith
some_used (x ∷ rs) (suc i) r lt used = rw (some_used rs i r (omega arith) used) (grind arith)

length-items : {X : Type 0} (value : List ℕ → X) (size n : ℕ) (bytes : List ℕ) → length (items n size value bytes) ≡ n
unfolding items
length-items value size zero bytes = refl
length-items value size (suc n) bytes = ap suc (length-items value size n (drop size bytes))

-- an inode block has sixteen records
pub sixteen_of : (block : List ℕ) (b : InodeBlock) → inodes_at block ≡ Ok b → length b.files ≡ 16
unfolding inodes_at
sixteen_of block b at = ap (λ (x : InodeBlock). length x.files) (sym (reading_ok (verdicts inodes_fields block) _ b at).1) ∙ length-items file_of 240 16 (drop 256 block)

-- the bytes before the records
head_of : InodeBlock → List ℕ
head_of b = word 0x4656494e4f444553 ++ (word b.index ++ zeros 240)

head_long : (b : InodeBlock) → length (head_of b) ≡ 256
unfolding head_of
head_long b = simp (length-append, length-word, length-zeros) refl

head_is : (b : InodeBlock) → inodes_bytes b ≡ head_of b ++ flat_map file_bytes b.files
unfolding word head_of
head_is b = simp append_assoc

-- another index, where an inode block has its own
index_put : (b : InodeBlock) (index : ℕ) → put_mid 8 8 (inodes_bytes b) (word index) ≡ inodes_bytes (record { index = index; files = b.files })
index_put b index =
    let mark : ℕ = 0x4656494e4f444553 in
    let rest = zeros 240 ++ flat_map file_bytes b.files in
    let d8 = past_word 0 mark (inodes_bytes b) (word b.index ++ rest) refl in
    let d16 = past_word 8 b.index (inodes_bytes b) rest d8 in
    let t8 : take 8 (inodes_bytes b) ≡ word mark = take_at (word mark) (word b.index ++ rest) 8 (length-word mark) in
    let long : 16 ≤ length (inodes_bytes b) = omega (arith, length-append (word mark) (word b.index ++ rest), length-append (word b.index) rest, length-word mark, length-word b.index) in
    put_is 8 8 (inodes_bytes b) (word index) long (length-word index) ∙ rw (t8, d16) refl

-- a block of which one record was written anew
record_put : (b : InodeBlock) (slot : ℕ) (r : InodeRecord) → All IsInodeRecord b.files → length b.files ≡ 16 → slot < 16 → length (file_bytes r) ≡ 240 → length (inodes_bytes b) ≡ 4096
    → put_mid (256 + 240 * slot) 240 (inodes_bytes b) (file_bytes r) ≡ inodes_bytes (record { index = b.index; files = set b.files slot r })
unfolding head_of
record_put b slot r are long lt even whole =
    let files = flat_map file_bytes b.files in
    let h = head_of b in
    let first : length h + 240 * slot ≡ 256 + 240 * slot = omega (arith, head_long b) in
    let last : length h + (240 * slot + 240) ≡ 256 + 240 * slot + 240 = omega (arith, head_long b) in
    let front : take (256 + 240 * slot) (inodes_bytes b) ≡ h ++ take (240 * slot) files =
    sym (ap (λ (k : ℕ). take k (inodes_bytes b)) first) ∙ ap (take (length h + 240 * slot)) (head_is b) ∙ take-append-add h files (240 * slot) in
    let back : drop (256 + 240 * slot + 240) (inodes_bytes b) ≡ drop (240 * slot + 240) files =
    sym (ap (λ (k : ℕ). drop k (inodes_bytes b)) last) ∙ ap (drop (length h + (240 * slot + 240))) (head_is b) ∙ drop-append-add h files (240 * slot + 240) in
    put_is (256 + 240 * slot) 240 (inodes_bytes b) (file_bytes r) (omega (arith, whole, lt)) even
    ∙ rw (front, back) (append_assoc h (take (240 * slot) files) (file_bytes r ++ drop (240 * slot + 240) files))
    ∙ ap (λ (xs : List ℕ). h ++ xs) (sym (spelled_with 240 file_bytes b.files slot r (files_even b.files are) (omega (arith, lt, long))))
    ∙ sym (head_is (record { index = b.index; files = set b.files slot r }))

length-files : (rs : List InodeRecord) → All IsInodeRecord rs → length (flat_map file_bytes rs) ≡ length rs * 240
length-files [] are = omega arith
length-files (r ∷ rs) are =
    let e = ap length (flat_map-cons file_bytes r rs) in
    let s = length-append (file_bytes r) (flat_map file_bytes rs) in
    let n = length-file r (All-head IsInodeRecord r rs are).name_long in
    let i = length-files rs (All-tail IsInodeRecord r rs are) in
    omega arith

block_long : (b : InodeBlock) → All IsInodeRecord b.files → length b.files ≡ 16 → length (inodes_bytes b) ≡ 4096
block_long b are long = ap length (head_is b) ∙ omega (arith, length-append (head_of b) (flat_map file_bytes b.files), head_long b, length-files b.files are, long)

pub renewed : (block number run : List ℕ) (index slot : ℕ) (r : InodeRecord) → length block ≡ 4096 → IsBytes block → index < 2 ^ 64 → slot < 16 → IsInodeRecord r → 1 ≤ r.name_length → number ≡ word index → run ≡ file_bytes r
    → IfOk (inodes_at block) (λ b. inodes_at (put_mid (256 + 240 * slot) (256 + 240 * slot + 240 - (256 + 240 * slot)) (put_mid 8 8 block number) run) ≡ Ok (record { index = index; files = slice_set b.files slot r }))
renewed block number run index slot r long are fits lt is used numbered spells = by (inodes_at block) refl
  where
    k : ℕ
    k = 256 + 240 * slot + 240 - (256 + 240 * slot)

    few : k ≡ 240
    few = omega arith

    by : (o : Result InodeBlock Shape) → inodes_at block ≡ o → IfOk o (λ b. inodes_at (put_mid (256 + 240 * slot) k (put_mid 8 8 block number) run) ≡ Ok (record { index = index; files = slice_set b.files slot r }))
    by (Err fault) at = tt
    by (Ok b) at =
        let range : IsInodeBlock b = inodes_in_range block (Ok b) long (sym at) in
        let even = length-file r is.name_long in
        let sixteen : length b.files ≡ 16 = sixteen_of block b at in
        let other : InodeBlock = record { index = index; files = b.files } in
        let spelled : block ≡ inodes_bytes b = inodes_spelled block b (record { long = long; bytes = are }) at in
        let indexed : put_mid 8 8 block number ≡ inodes_bytes other = rw (spelled, numbered) (index_put b index) in
        ap inodes_at (
        ap (λ (n : ℕ). put_mid (256 + 240 * slot) n (put_mid 8 8 block number) run) few
        ∙ rw (indexed, spells) (record_put other slot r range.files sixteen lt even (block_long other range.files sixteen))
        )
        ∙ inodes_again (record { index = index; files = set b.files slot r }) (record {
          files = All-set IsInodeRecord b.files slot r is range.files;
          some = some_used b.files slot r (omega (arith, lt, sixteen)) used;
        }) fits (length-set b.files slot r ∙ sixteen)
