-- Two blocks of 4096 bytes that are read as one value are equal, since a block's bytes are the value's spelling.
use Rattle.std.proofs.Common.{◌≡◌, ℕ, ◌+◌, ◌*◌, ◌≤◌, Bool, true, List, [], ◌∷◌, ◌++◌, length, take, drop, Ok, refl, sym, ap, subst, ◌∙◌, arith, append_assoc}
use Rattle.std.specs.List.{flat_map, zip}
use Rattle.fv_codec.specs.declared.superblock.Super.{Super}
use Rattle.fv_codec.specs.declared.root.Root.{Root}
use Rattle.fv_codec.specs.declared.node.Node.{Node}
use Rattle.fv_codec.specs.declared.inode.InodeBlock.{InodeBlock}
use Rattle.fv_codec.specs.declared.label.Label.{Label}
use Rattle.fv_codec.specs.declared.container.ContainerLeaf.{ContainerLeaf}
use Rattle.fv_codec.specs.declared.container.ContainerInner.{ContainerInner}
use Rattle.fv_codec.specs.Bytes.{word_at, half_at, byte_at, word, half, zeros}
use Rattle.fv_codec.specs.Fields.{Field, verdicts, reading, in_range, all_zero, each, items}
use Rattle.fv_codec.specs.Blocks.{super_fields, super_at, asks_place, place_of, root_fields, root_at, asks_pointer, pointer_of, node_fields, node_at, is_used, file_fields, asks_file, file_of, inodes_fields, inodes_at, inner_fields, inner_at, asks_entry, greatest_kind, kind_of, leaf_fields, leaf_at, leaf_in, snap_fields, asks_snap, snap_of, label_fields, label_at}
use Rattle.fv_codec.specs.Spelling.{super_bytes, root_bytes, pointer_bytes, node_bytes, file_bytes, inodes_bytes, inner_bytes, entry_bytes, leaf_bytes, snap_bytes, label_bytes}
use Rattle.fv_codec.proofs.Ranges.{as_said, within, reading_ok}
use Rattle.fv_codec.proofs.Leaves.{entry_of, zip_items}
use Rattle.fv_codec.proofs.Numbers.{AllAsSaid}
use Rattle.fv_codec.proofs.Labels.{split}
use Rattle.fv_codec.proofs.Found.{IsBytes, run_back, word_back, half_back, byte_back, zeros_back, fixed, at_end, items_back, part_back, before}

-- a block as bytes
pub record IsBlock (block : List ℕ) : Type 0 where
  pub long : length block ≡ 4096
  pub bytes : IsBytes block

-- the mark that a block begins with
mark_back : (mark : ℕ) (b : List ℕ) → IsBlock b → (mark ≤ word_at 0 b) × (word_at 0 b ≤ mark) → b ≡ word mark ++ drop 8 b
mark_back mark b is range =
    let e : word_at 0 b ≡ mark = fixed mark (word_at 0 b) range in
    word_back 0 b is.bytes (omega (arith, is.long)) ∙ ap (λ (x : ℕ). word x ++ drop 8 b) e

-- ---- items

place_back : (b : List ℕ) → IsBytes b → 8 ≤ length b → asks_place b ≡ Ok tt → b ≡ word (place_of b) ++ drop 8 b
place_back b are room said = word_back 0 b are room

pointer_back : (used : Bool) (b : List ℕ) → IsBytes b → 24 ≤ length b → asks_pointer used b ≡ Ok tt → b ≡ pointer_bytes (pointer_of b) ++ drop 24 b
unfolding pointer_bytes pointer_of
pointer_back used b are room said =
    before (word (word_at 0 b)) (word_back 0 b are (omega arith)) (
    before (word (word_at 8 b)) (word_back 8 b are (omega arith)) (word_back 16 b are room))
    ∙ simp append_assoc

file_back : (b : List ℕ) → IsBytes b → 240 ≤ length b → asks_file b ≡ Ok tt → b ≡ file_bytes (file_of b) ++ drop 240 b
unfolding asks_file file_bytes file_of
file_back b are room said =
    let f = as_said (file_fields b) b said in
    before (byte_at 0 b ∷ []) (byte_back 0 b (omega arith)) (
    before (take 64 (drop 1 b)) (run_back 1 64 b) (
    before (zeros 7) (zeros_back 65 7 b (omega arith) f.1.1.0) (
    before (word (word_at 72 b)) (word_back 72 b are (omega arith)) (
    before (word (word_at 80 b)) (word_back 80 b are (omega arith)) (
    before (word (word_at 88 b)) (word_back 88 b are (omega arith)) (
    before (pointer_bytes (pointer_of (drop 96 b))) (part_back 24 pointer_bytes (asks_pointer (is_used (byte_at 0 b))) pointer_of (pointer_back (is_used (byte_at 0 b))) 96 b are (omega arith) f.1.1.1.1.1.1.0) (
    zeros_back 120 120 b room f.1.1.1.1.1.1.1.0)))))))
    ∙ simp append_assoc

entry_back : (b : List ℕ) → IsBytes b → 12 ≤ length b → asks_entry greatest_kind b ≡ Ok tt → b ≡ entry_bytes (entry_of b) ++ drop 12 b
unfolding entry_bytes
entry_back b are room said =
    before (word (word_at 0 b)) (word_back 0 b are (omega arith)) (half_back 8 b are room)
    ∙ sym (append_assoc (word (word_at 0 b)) (half (half_at 8 b)) (drop 12 b))

snap_back : (b : List ℕ) → IsBytes b → 128 ≤ length b → asks_snap b ≡ Ok tt → b ≡ snap_bytes (snap_of b) ++ drop 128 b
unfolding asks_snap snap_bytes snap_of
snap_back b are room said =
    let f = as_said (snap_fields b) b said in
    before (word (word_at 0 b)) (word_back 0 b are (omega arith)) (
    before (take 64 (drop 8 b)) (run_back 8 64 b) (
    before (word (word_at 72 b)) (word_back 72 b are (omega arith)) (
    before (pointer_bytes (pointer_of (drop 80 b))) (part_back 24 pointer_bytes (asks_pointer (is_used (word_at 0 b))) pointer_of (pointer_back (is_used (word_at 0 b))) 80 b are (omega arith) f.1.1.1.0) (
    zeros_back 104 24 b room f.1.1.1.1.0))))
    ∙ simp append_assoc

-- ---- parts of a block

-- a block is spelled by the bytes of what was read from it, where those of its fields are
spelled : {X : Type 0} (fields : List Field) (b : List ℕ) (x v : X) (spell : X → List ℕ) → reading (verdicts fields b) x ≡ Ok v → (AllAsSaid fields b → b ≡ spell x) → b ≡ spell v
spelled fields b x v spell said back =
    let p = reading_ok (verdicts fields b) x v said in
    subst (λ y. b ≡ spell y) p.1 (back (as_said fields b p.0))

word_then : (at : ℕ) (b : List ℕ) {rest : List ℕ} → IsBlock b → at + 8 ≤ 4096 → drop (at + 8) b ≡ rest → drop at b ≡ word (word_at at b) ++ rest
word_then at b is room rest = before (word (word_at at b)) (word_back at b is.bytes (omega (arith, is.long, room))) rest

four_then : (at : ℕ) (b : List ℕ) {rest : List ℕ} → IsBlock b → at + 32 ≤ 4096 → drop (at + 8 + 8 + 8 + 8) b ≡ rest
    → drop at b ≡ word (word_at at b) ++ (word (word_at (at + 8) b) ++ (word (word_at (at + 8 + 8) b) ++ (word (word_at (at + 8 + 8 + 8) b) ++ rest)))
four_then at b is room rest = word_then at b is (omega (arith, room)) (word_then (at + 8) b is (omega (arith, room)) (word_then (at + 8 + 8) b is (omega (arith, room)) (word_then (at + 8 + 8 + 8) b is (omega (arith, room)) rest)))

-- the mark that a block begins with, and the word behind it
head_then : (mark : ℕ) (b : List ℕ) {rest : List ℕ} → IsBlock b → in_range mark mark (word_at 0 b) ≡ Ok tt → drop 16 b ≡ rest → b ≡ word mark ++ (word (word_at 8 b) ++ rest)
head_then mark b is said rest = before (word mark) (mark_back mark b is (within mark mark (word_at 0 b) said)) (word_then 8 b is (omega arith) rest)

zeros_then : (at n : ℕ) (b : List ℕ) {rest : List ℕ} → IsBlock b → at + n ≤ 4096 → all_zero (take n (drop at b)) ≡ Ok tt → drop (at + n) b ≡ rest → drop at b ≡ zeros n ++ rest
zeros_then at n b is room said rest = before (zeros n) (zeros_back at n b (omega (arith, is.long, room)) said) rest

-- a last field, with nothing behind it
last : (n : ℕ) (front b : List ℕ) → IsBlock b → n ≡ 4096 → front ++ drop n b ≡ front
last n front b is all = at_end n front b (omega (arith, is.long, all))

zeros_last : (at n : ℕ) (b : List ℕ) → IsBlock b → at + n ≡ 4096 → all_zero (take n (drop at b)) ≡ Ok tt → drop at b ≡ zeros n
zeros_last at n b is all said = zeros_back at n b (omega (arith, is.long, all)) said ∙ last (at + n) (zeros n) b is all

-- the mark, two words, and places behind a gap, as a root and an inner node have them
placed : (mark gap n fill : ℕ) (b : List ℕ) → IsBlock b → 24 + gap + n * 8 + fill ≡ 4096 → in_range mark mark (word_at 0 b) ≡ Ok tt → all_zero (take gap (drop 24 b)) ≡ Ok tt
    → each n 8 asks_place (drop (24 + gap) b) ≡ Ok tt → all_zero (take fill (drop (24 + gap + n * 8) b)) ≡ Ok tt
    → b ≡ word mark ++ (word (word_at 8 b) ++ (word (word_at 16 b) ++ (zeros gap ++ (flat_map word (items n 8 place_of (drop (24 + gap) b)) ++ zeros fill))))
placed mark gap n fill b is all marked free are rest =
    head_then mark b is marked (word_then 16 b is (omega arith) (zeros_then 24 gap b is (omega (arith, all)) free (
    before (flat_map word (items n 8 place_of (drop (24 + gap) b))) (items_back 8 word asks_place place_of place_back (24 + gap) n b is.bytes (omega (arith, is.long, all)) are) (
    zeros_last (24 + gap + n * 8) fill b is all rest))))

-- ---- blocks: each is its value's spelling, so that two with one value are equal

pub super_spelled : (b : List ℕ) (v : Super) → IsBlock b → super_at b ≡ Ok v → b ≡ super_bytes v
unfolding super_at
super_spelled b v is said = spelled super_fields b _ v super_bytes said (λ f. head_then 0x4656414747523031 b is f.0 (zeros_last 16 4080 b is refl f.1.1.0))

pub super_only : (a b : List ℕ) (v : Super) → IsBlock a → IsBlock b → super_at a ≡ Ok v → super_at b ≡ Ok v → a ≡ b
super_only a b v is-a is-b said-a said-b = super_spelled a v is-a said-a ∙ sym (super_spelled b v is-b said-b)

pub root_spelled : (b : List ℕ) (v : Root) → IsBlock b → root_at b ≡ Ok v → b ≡ root_bytes v
unfolding root_at
root_spelled b v is said = spelled root_fields b _ v root_bytes said (λ f. placed 0x4656524f4f543030 40 64 3520 b is refl f.0 f.1.1.1.0 f.1.1.1.1.0 f.1.1.1.1.1.0)

pub root_only : (a b : List ℕ) (v : Root) → IsBlock a → IsBlock b → root_at a ≡ Ok v → root_at b ≡ Ok v → a ≡ b
root_only a b v is-a is-b said-a said-b = root_spelled a v is-a said-a ∙ sym (root_spelled b v is-b said-b)

pub inner_spelled : (b : List ℕ) (v : ContainerInner) → IsBlock b → inner_at b ≡ Ok v → b ≡ inner_bytes v
unfolding inner_at
inner_spelled b v is said = spelled inner_fields b _ v inner_bytes said (λ f. placed 0x465643494e4e4552 1000 256 1024 b is refl f.0 f.1.1.1.0 f.1.1.1.1.0 f.1.1.1.1.1.0)

pub inner_only : (a b : List ℕ) (v : ContainerInner) → IsBlock a → IsBlock b → inner_at a ≡ Ok v → inner_at b ≡ Ok v → a ≡ b
inner_only a b v is-a is-b said-a said-b = inner_spelled a v is-a said-a ∙ sym (inner_spelled b v is-b said-b)

pub node_spelled : (b : List ℕ) (v : Node) → IsBlock b → node_at b ≡ Ok v → b ≡ node_bytes v
unfolding node_at
node_spelled b v is said = spelled node_fields b _ v node_bytes said (λ f.
    head_then 0x46564e4f44453030 b is f.0 (word_then 16 b is (omega arith) (word_then 24 b is (omega arith) (zeros_then 32 992 b is (omega arith) f.1.1.1.1.0 (
    items_back 24 pointer_bytes (asks_pointer true) pointer_of (pointer_back true) 1024 128 b is.bytes (omega (arith, is.long)) f.1.1.1.1.1.0 ∙ last 4096 (flat_map pointer_bytes (items 128 24 pointer_of (drop 1024 b))) b is refl)))))

pub node_only : (a b : List ℕ) (v : Node) → IsBlock a → IsBlock b → node_at a ≡ Ok v → node_at b ≡ Ok v → a ≡ b
node_only a b v is-a is-b said-a said-b = node_spelled a v is-a said-a ∙ sym (node_spelled b v is-b said-b)

pub inodes_spelled : (b : List ℕ) (v : InodeBlock) → IsBlock b → inodes_at b ≡ Ok v → b ≡ inodes_bytes v
unfolding inodes_at
inodes_spelled b v is said = spelled inodes_fields b _ v inodes_bytes said (λ f.
    head_then 0x4656494e4f444553 b is f.0 (zeros_then 16 240 b is (omega arith) f.1.1.0 (
    items_back 240 file_bytes asks_file file_of file_back 256 16 b is.bytes (omega (arith, is.long)) f.1.1.1.0 ∙ last 4096 (flat_map file_bytes (items 16 240 file_of (drop 256 b))) b is refl)))

pub inodes_only : (a b : List ℕ) (v : InodeBlock) → IsBlock a → IsBlock b → inodes_at a ≡ Ok v → inodes_at b ≡ Ok v → a ≡ b
inodes_only a b v is-a is-b said-a said-b = inodes_spelled a v is-a said-a ∙ sym (inodes_spelled b v is-b said-b)

pub leaf_spelled : (b : List ℕ) (v : ContainerLeaf) → IsBlock b → leaf_at b ≡ Ok v → b ≡ leaf_bytes v
unfolding leaf_in
leaf_spelled b v is said = spelled (leaf_fields greatest_kind) b _ v leaf_bytes said (λ f.
    let entries = items_back 12 entry_bytes (asks_entry greatest_kind) entry_of entry_back 1024 256 b is.bytes (omega (arith, is.long)) f.1.1.1.0 in
    let apart = ap (λ (es : List (ℕ × ℕ)). flat_map entry_bytes es ++ drop 4096 b) (sym (zip_items 256 12 (drop 1024 b))) in
    head_then 0x4656434c45414630 b is f.0 (zeros_then 16 1008 b is (omega arith) f.1.1.0 (
    entries ∙ apart ∙ last 4096 (flat_map entry_bytes (zip (items 256 12 place_of (drop 1024 b)) (items 256 12 kind_of (drop 1024 b)))) b is refl)))

pub leaf_only : (a b : List ℕ) (v : ContainerLeaf) → IsBlock a → IsBlock b → leaf_at a ≡ Ok v → leaf_at b ≡ Ok v → a ≡ b
leaf_only a b v is-a is-b said-a said-b = leaf_spelled a v is-a said-a ∙ sym (leaf_spelled b v is-b said-b)

pub label_spelled : (b : List ℕ) (v : Label) → IsBlock b → label_at b ≡ Ok v → b ≡ label_bytes v
unfolding label_at
label_spelled b v is said = spelled (label_fields b) b _ v label_bytes said (λ f.
    let tail = f.1.1.1.1.1.1.1.1.1.1.1.1.1.1.1 in
    head_then 0x46564c4142454c30 b is f.0 (before (take 64 (drop 16 b)) (run_back 16 64 b) (
    four_then 80 b is (omega arith) (four_then 112 b is (omega arith) (four_then 144 b is (omega arith) (
    before (pointer_bytes (pointer_of (drop 176 b))) (part_back 24 pointer_bytes (asks_pointer true) pointer_of (pointer_back true) 176 b is.bytes (omega (arith, is.long)) tail.0) (
    zeros_then 200 56 b is (omega arith) tail.1.0 (
    before (flat_map snap_bytes (items 24 128 snap_of (drop 256 b))) (items_back 128 snap_bytes asks_snap snap_of snap_back 256 24 b is.bytes (omega (arith, is.long)) tail.1.1.0) (
    zeros_last 3328 768 b is refl tail.1.1.1.0)))))))) ∙ sym (split _))

pub label_only : (a b : List ℕ) (v : Label) → IsBlock a → IsBlock b → label_at a ≡ Ok v → label_at b ≡ Ok v → a ≡ b
label_only a b v is-a is-b said-a said-b = label_spelled a v is-a said-a ∙ sym (label_spelled b v is-b said-b)
