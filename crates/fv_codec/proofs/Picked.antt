-- One item of a block, read without its neighbours.
use Rattle.std.proofs.Common.{◌≡◌, ℕ, zero, suc, ◌+◌, ◌*◌, ◌<◌, ◌≤◌, List, length, get_or, drop, true, Result, Ok, Err, refl, ap, sym, subst, ◌∙◌, arith, drop-drop, length-drop}
use Rattle.std.specs.Prelude.{IfOk, is_ok}
use Rattle.fv_codec.specs.declared.shape.Shape.{Shape}
use Rattle.fv_codec.specs.declared.pointer.Pointer.{Pointer}
use Rattle.fv_codec.specs.declared.node.Node.{Node}
use Rattle.fv_codec.specs.declared.inode.InodeRecord.{InodeRecord}
use Rattle.fv_codec.specs.declared.inode.InodeBlock.{InodeBlock}
use Rattle.fv_codec.specs.Bytes.{word_at, byte_at}
use Rattle.fv_codec.specs.Fields.{Verdict, each, items, verdicts}
use Rattle.fv_codec.specs.Blocks.{pointer_of, node_fields, node_at, asks_file, file_of, is_used, most_cells, IsInodeRecord, inodes_fields, inodes_at}
use Rattle.fv_codec.specs.Forms.{hole}
use Rattle.fv_codec.proofs.Ranges.{then_ok, as_said, reading_ok}
use Rattle.fv_codec.proofs.Decoded.{file_is}
use Rattle.fv_codec.proofs.Numbers.{up_to-le}

-- the item in a place
item_there : {X : Type 0} (value : List ℕ → X) (size n i : ℕ) (d : X) (bytes : List ℕ) → i < n → get_or (items n size value bytes) i d ≡ value (drop (size * i) bytes)
unfolding items
item_there value size zero i d bytes lt = absurd (omega (arith, lt))
item_there value size (suc n) zero d bytes lt =
    let e : size * 0 ≡ 0 = omega arith in
    rw e refl
item_there value size (suc n) (suc i) d bytes lt =
    let e : size + size * i ≡ size * suc i = omega arith in
    item_there value size n i d (drop size bytes) (omega arith) ∙ ap value (drop-drop (size * i) size bytes ∙ ap (λ (k : ℕ). drop k bytes) e)

-- the item in a place is as said where all are
item_said : (asks : List ℕ → Verdict) (size n i : ℕ) (bytes : List ℕ) → i < n → each n size asks bytes ≡ Ok tt → asks (drop (size * i) bytes) ≡ Ok tt
unfolding each
item_said asks size zero i bytes lt said = absurd (omega (arith, lt))
item_said asks size (suc n) zero bytes lt said =
    let e : size * 0 ≡ 0 = omega arith in
    rw e (then_ok (asks bytes) (each n size asks (drop size bytes)) said).0
item_said asks size (suc n) (suc i) bytes lt said =
    let e : size + size * i ≡ size * suc i = omega arith in
    sym (ap asks (drop-drop (size * i) size bytes ∙ ap (λ (k : ℕ). drop k bytes) e)) ∙ item_said asks size n i (drop size bytes) (omega arith) (then_ok (asks bytes) (each n size asks (drop size bytes)) said).1

-- the bytes of an item behind an offset
behind : (at size i : ℕ) (bytes : List ℕ) → drop (size * i) (drop at bytes) ≡ drop (at + size * i) bytes
behind at size i bytes = drop-drop (size * i) at bytes

pub child_of : (block : List ℕ) (slot : ℕ) (p : Pointer) → slot < 128 → p ≡ pointer_of (drop (1024 + 24 * slot) block) → IfOk (node_at block) (λ n. get_or n.children slot hole ≡ p)
unfolding node_at
child_of block slot p lt is = by (node_at block) refl
  where
    by : (r : Result Node Shape) → node_at block ≡ r → IfOk r (λ n. get_or n.children slot hole ≡ p)
    by (Ok n) at =
        let there = reading_ok (verdicts node_fields block) _ n at in
        sym (ap (λ (x : Node). get_or x.children slot hole) there.1) ∙ item_there pointer_of 24 128 slot hole (drop 1024 block) lt ∙ ap pointer_of (behind 1024 24 slot block) ∙ sym is
    by (Err fault) at = tt

-- the numbers of a record that is as said fit into their types
pub length_fits : (bytes : List ℕ) → 240 ≤ length bytes → asks_file bytes ≡ Ok tt → word_at 72 bytes ≤ most_cells
unfolding file_of
length_fits bytes room said =
    let is = file_is bytes room said in
    let most = up_to-le (is_used (byte_at 0 bytes)) most_cells in
    omega (arith, is.length, most)

pub reserve_fits : (bytes : List ℕ) → 240 ≤ length bytes → asks_file bytes ≡ Ok tt → word_at 80 bytes ≤ most_cells
unfolding file_of
reserve_fits bytes room said =
    let is = file_is bytes room said in
    let most = up_to-le (is_used (byte_at 0 bytes)) most_cells in
    omega (arith, is.reserve, most)

pub levels_fit : (bytes : List ℕ) → 240 ≤ length bytes → asks_file bytes ≡ Ok tt → word_at 88 bytes ≤ 3
unfolding file_of
levels_fit bytes room said =
    let is = file_is bytes room said in
    let three = up_to-le (is_used (byte_at 0 bytes)) 3 in
    omega (arith, is.levels, three)

-- the record in a slot is as said
pub record_said : (block : List ℕ) (slot : ℕ) → slot < 16 → is_ok (inodes_at block) ≡ true → asks_file (drop (256 + 240 * slot) block) ≡ Ok tt
unfolding inodes_at
record_said block slot lt ok = by (inodes_at block) refl ok
  where
    by : (o : Result InodeBlock Shape) → inodes_at block ≡ o → is_ok o ≡ true → asks_file (drop (256 + 240 * slot) block) ≡ Ok tt
    by (Ok b) at ok = ap asks_file (sym (behind 256 240 slot block)) ∙ item_said asks_file 240 16 slot (drop 256 block) lt (as_said inodes_fields block (reading_ok (verdicts inodes_fields block) _ b at).0).1.1.1.0
    by (Err fault) at ok = absurd cc

-- and in range
pub record_fits : (block : List ℕ) (slot : ℕ) (r : InodeRecord) → length block ≡ 4096 → slot < 16 → is_ok (inodes_at block) ≡ true → r ≡ file_of (drop (256 + 240 * slot) block) → IsInodeRecord r
record_fits block slot r long lt ok is =
    let room : 240 ≤ length (drop (256 + 240 * slot) block) = omega (arith, length-drop (256 + 240 * slot) block) in
    subst IsInodeRecord (sym is) (file_is (drop (256 + 240 * slot) block) room (record_said block slot lt ok))

pub record_of : (block : List ℕ) (slot : ℕ) (r : InodeRecord) → slot < 16 → r ≡ file_of (drop (256 + 240 * slot) block) → (d : InodeRecord) → IfOk (inodes_at block) (λ b. get_or b.files slot d ≡ r)
unfolding inodes_at
record_of block slot r lt is d = by (inodes_at block) refl
  where
    by : (o : Result InodeBlock Shape) → inodes_at block ≡ o → IfOk o (λ b. get_or b.files slot d ≡ r)
    by (Ok b) at =
        let there = reading_ok (verdicts inodes_fields block) _ b at in
        sym (ap (λ (x : InodeBlock). get_or x.files slot d) there.1) ∙ item_there file_of 240 16 slot d (drop 256 block) lt ∙ ap file_of (behind 256 240 slot block) ∙ sym is
    by (Err fault) at = tt
