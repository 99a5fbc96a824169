-- Pointers and nodes: what was written is read again.
use Rattle.std.proofs.Common.{◌≡◌, ℕ, zero, suc, ◌<◌, ◌^◌, Bool, true, false, not, ◌==◌, ◌&&◌, List, [], ◌∷◌, ◌++◌, length, drop, lit<, lit≤, Ok, refl, arith, ap, sym, ◌∙◌, append_assoc, append-nil, length-append}
use Rattle.std.specs.List.{flat_map, All, AllByRecursion}
use Rattle.std.proofs.lemmas.List.Elements.{All-head, All-tail}
use Rattle.fv_codec.specs.declared.pointer.Pointer.{Pointer}
use Rattle.fv_codec.specs.declared.node.Node.{Node}
use Rattle.fv_codec.specs.Bytes.{word, word_at, zeros}
use Rattle.fv_codec.specs.Fields.{items, none_filled, up_to}
use Rattle.fv_codec.specs.Blocks.{node_at, node_fields, IsNode, IsPointerIf, pointed, pointer_fields, asks_pointer, pointer_of, is_hole_at, all_holes, greatest_word, last_place}
use Rattle.fv_codec.specs.Spelling.{node_bytes, pointer_bytes}
use Rattle.fv_codec.proofs.Numbers.{word_said, word_there, zeros_said, past_word, past_zeros, all_said, length-word, up_to-le}
use Rattle.fv_codec.proofs.Items.{ReadsBack, items_said, items_there}

-- the items are empty where all of the pointers are holes
pub holes_alone : (n size : ℕ) (bytes : List ℕ) → none_filled n size is_hole_at bytes ≡ all_holes (items n size pointer_of bytes)
unfolding none_filled items pointer_of
holes_alone zero size bytes = refl
holes_alone (suc n) size bytes = ap (λ (b : Bool). is_hole_at bytes && b) (holes_alone n size (drop size bytes))

pub length-pointer : (p : Pointer) → length (pointer_bytes p) ≡ 24
unfolding pointer_bytes
length-pointer p =
    let a = length-append (word p.vvbn) (word p.pvbn ++ word p.stamp) in
    let b = length-append (word p.pvbn) (word p.stamp) in
    omega (arith, length-word p.vvbn, length-word p.pvbn, length-word p.stamp)

pub pointer_again : (used : Bool) (p : Pointer) → IsPointerIf used p → ReadsBack 24 pointer_bytes (asks_pointer used) pointer_of p
unfolding asks_pointer pointer_of pointer_bytes
pointer_again used p is =
    let last = up_to-le (used && not (p.stamp == 0)) last_place in
    let most = up_to-le used greatest_word in
    let vvbn : p.vvbn < 2 ^ 64 = omega (arith, is.vvbn, last) in
    let pvbn : p.pvbn < 2 ^ 64 = omega (arith, is.pvbn, last) in
    let stamp : p.stamp < 2 ^ 64 = omega (arith, is.stamp, most) in
    let whole : List ℕ → List ℕ = λ (rest : List ℕ). pointer_bytes p ++ rest in
    let d0 : (rest : List ℕ) → drop 0 (whole rest) ≡ word p.vvbn ++ (word p.pvbn ++ (word p.stamp ++ rest)) = λ rest. simp append_assoc in
    let d8 : (rest : List ℕ) → drop 8 (whole rest) ≡ word p.pvbn ++ (word p.stamp ++ rest) = λ rest. past_word 0 p.vvbn (whole rest) _ (d0 rest) in
    let d16 : (rest : List ℕ) → drop 16 (whole rest) ≡ word p.stamp ++ rest = λ rest. past_word 8 p.pvbn (whole rest) _ (d8 rest) in
    let w16 : (rest : List ℕ) → word_at 16 (whole rest) ≡ p.stamp = λ rest. word_there 16 p.stamp (whole rest) rest (d16 rest) stamp in
    record {
      long = length-pointer p;
      fine = λ rest. all_said (pointer_fields used (whole rest)) (whole rest) (
        rw (w16 rest) (word_said 0 0 (pointed used p.stamp) p.vvbn (whole rest) _ (d0 rest) vvbn (omega arith) is.vvbn),
        (
          rw (w16 rest) (word_said 8 0 (pointed used p.stamp) p.pvbn (whole rest) _ (d8 rest) pvbn (omega arith) is.pvbn),
          (word_said 16 0 (up_to used greatest_word) p.stamp (whole rest) rest (d16 rest) stamp (omega arith) is.stamp, tt),
        ),
      );
      same = λ rest. rw (word_there 0 p.vvbn (whole rest) _ (d0 rest) vvbn, word_there 8 p.pvbn (whole rest) _ (d8 rest) pvbn, w16 rest) refl;
    }

pub pointers_again : (used : Bool) (ps : List Pointer) → All (IsPointerIf used) ps → AllByRecursion (ReadsBack 24 pointer_bytes (asks_pointer used) pointer_of) ps
pointers_again used [] are = tt
pointers_again used (p ∷ ps) are = (pointer_again used p (All-head (IsPointerIf used) p ps are), pointers_again used ps (All-tail (IsPointerIf used) p ps are))

pub node_again : (n : Node) → IsNode n → n.owner < 2 ^ 64 → n.place < 2 ^ 64 → length n.children ≡ 128 → node_at (node_bytes n) ≡ Ok n
unfolding node_at
node_again n is owner place long =
    let b = node_bytes n in
    let mark : ℕ = 0x46564e4f44453030 in
    let r1024 = flat_map pointer_bytes n.children in
    let r32 = zeros 992 ++ r1024 in
    let r24 = word n.place ++ r32 in
    let r16 = word n.owner ++ r24 in
    let d8 = past_word 0 mark b (word n.level ++ r16) refl in
    let d16 = past_word 8 n.level b r16 d8 in
    let d24 = past_word 16 n.owner b r24 d16 in
    let d32 = past_word 24 n.place b r32 d24 in
    let d1024 = past_zeros 32 992 b r1024 d32 ∙ sym (append-nil r1024) in
    let children = pointers_again true n.children is.children in
    let there = items_there 1024 128 24 pointer_bytes (asks_pointer true) pointer_of n.children b [] long children d1024 in
    let some : none_filled 128 24 is_hole_at (drop 1024 b) ≡ false = holes_alone 128 24 (drop 1024 b) ∙ ap all_holes there ∙ is.some in
    let all = all_said node_fields b (
      word_said 0 mark mark mark b _ refl (lit< tt) (lit≤ tt) (lit≤ tt),
      (
        word_said 8 1 3 n.level b _ d8 (omega (arith, is.greatest)) is.least is.greatest,
        (
          word_said 16 0 greatest_word n.owner b _ d16 owner (omega arith) (omega (arith, owner)),
          (
            word_said 24 0 greatest_word n.place b _ d24 place (omega arith) (omega (arith, place)),
            (
              zeros_said 32 992 b _ d32,
              (
                items_said 1024 128 24 pointer_bytes (asks_pointer true) pointer_of n.children b [] long children d1024,
                (rw some refl, tt),
              ),
            ),
          ),
        ),
      ),
    ) in
    rw (all, word_there 8 n.level b _ d8 (omega (arith, is.greatest)), word_there 16 n.owner b _ d16 owner, word_there 24 n.place b _ d24 place, there) refl
