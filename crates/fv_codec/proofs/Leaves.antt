-- A container's leaf that was written is read again.
use Rattle.std.proofs.Common.{◌≡◌, ℕ, zero, suc, ◌+◌, ◌≤◌, ◌<◌, ◌^◌, List, [], ◌∷◌, ◌++◌, length, map, get_or, take, drop, lit<, lit≤, Ok, refl, arith, ap, sym, ◌∙◌, append_assoc, append-nil, length-append}
use Rattle.std.specs.List.{flat_map, zip, All, AllByRecursion}
use Rattle.std.proofs.lemmas.List.{take_more, take_all}
use Rattle.std.proofs.lemmas.List.Concat.{flat_map-cons}
use Rattle.std.proofs.lemmas.Grind.{flat_map-append}
use Rattle.std.proofs.lemmas.List.Elements.{All-head, All-tail}
use Rattle.std.proofs.lemmas.Slice.Zip.{length-zip, get_or-zip}
use Rattle.fv_codec.specs.declared.container.ContainerLeaf.{ContainerLeaf}
use Rattle.fv_codec.specs.Bytes.{word, half, half_at, zeros}
use Rattle.fv_codec.specs.Fields.{items, up_to}
use Rattle.fv_codec.specs.Blocks.{greatest_kind, leaf_at, leaf_in, leaf_fields, IsEntry, IsContainerLeaf, greatest_word, last_place, is_used, entry_fields, asks_entry, place_of, kind_of}
use Rattle.fv_codec.specs.Spelling.{entry_bytes, leaf_bytes}
use Rattle.fv_codec.proofs.Numbers.{word_said, word_there, half_said, half_there, zeros_said, past_word, past_zeros, all_said, length-word, length-half, up_to-le}
use Rattle.fv_codec.proofs.Items.{ReadsBack, items_said, items_there}

-- ---- entries as two lists side by side

pub entries_more : (ps ks : List ℕ) (i : ℕ) → length ks ≡ length ps → i < length ps → flat_map entry_bytes (take (i + 1) (zip ps ks)) ≡ flat_map entry_bytes (take i (zip ps ks)) ++ entry_bytes (get_or ps i 0, get_or ks i 0)
entries_more ps ks i same lt =
    let z = zip ps ks in
    let long = length-zip ps ks in
    let x : get_or z i (0, 0) ≡ (get_or ps i 0, get_or ks i 0) = get_or-zip ps ks i (0, 0) lt (omega arith) in
    ap (flat_map entry_bytes) (take_more z i (0, 0) (omega arith))
    ∙ flat_map-append entry_bytes (take i z) (get_or z i (0, 0) ∷ [])
    ∙ ap (λ (ys : List ℕ). flat_map entry_bytes (take i z) ++ ys) (flat_map-cons entry_bytes (get_or z i (0, 0)) [] ∙ append-nil (entry_bytes (get_or z i (0, 0))) ∙ ap entry_bytes x)

pub entries_all : (ps ks : List ℕ) (i : ℕ) → length ks ≡ length ps → length ps ≤ i → take i (zip ps ks) ≡ zip ps ks
entries_all ps ks i same le =
    let long = length-zip ps ks in
    take_all i (zip ps ks) (omega arith)

firsts : (ps ks : List ℕ) → length ks ≡ length ps → map (λ (e : ℕ × ℕ). e.0) (zip ps ks) ≡ ps
firsts [] ks same = refl
firsts (p ∷ ps) [] same = absurd (omega arith)
firsts (p ∷ ps) (k ∷ ks) same =
    let less : length ks ≡ length ps = omega arith in
    rw (firsts ps ks less) refl

seconds : (ps ks : List ℕ) → length ks ≡ length ps → map (λ (e : ℕ × ℕ). e.1) (zip ps ks) ≡ ks
seconds [] [] same = refl
seconds [] (k ∷ ks) same = absurd (omega arith)
seconds (p ∷ ps) [] same = absurd (omega arith)
seconds (p ∷ ps) (k ∷ ks) same =
    let less : length ks ≡ length ps = omega arith in
    rw (seconds ps ks less) refl

abbrev pub entry_of : List ℕ → ℕ × ℕ
entry_of item = (place_of item, kind_of item)

places_of : (n size : ℕ) (bytes : List ℕ) → items n size place_of bytes ≡ map (λ (e : ℕ × ℕ). e.0) (items n size entry_of bytes)
unfolding items
places_of zero size bytes = refl
places_of (suc n) size bytes = rw (places_of n size (drop size bytes)) refl

kinds_of : (n size : ℕ) (bytes : List ℕ) → items n size kind_of bytes ≡ map (λ (e : ℕ × ℕ). e.1) (items n size entry_of bytes)
unfolding items
kinds_of zero size bytes = refl
kinds_of (suc n) size bytes = rw (kinds_of n size (drop size bytes)) refl

pub zip_items : (n size : ℕ) (bytes : List ℕ) → zip (items n size place_of bytes) (items n size kind_of bytes) ≡ items n size entry_of bytes
unfolding items
zip_items zero size bytes = refl
zip_items (suc n) size bytes = rw (zip_items n size (drop size bytes)) refl

-- ---- entries that were written

length-entry : (e : ℕ × ℕ) → length (entry_bytes e) ≡ 12
unfolding entry_bytes
length-entry e = simp (length-append, length-word, length-half) refl

entry_again : (e : ℕ × ℕ) → IsEntry e → ReadsBack 12 entry_bytes (asks_entry greatest_kind) entry_of e
unfolding asks_entry entry_bytes
entry_again e is =
    let last = up_to-le (is_used e.1) last_place in
    let pvbn : e.0 < 2 ^ 64 = omega (arith, is.0, last) in
    let kind : e.1 < 2 ^ 32 = omega (arith, is.1) in
    let whole : List ℕ → List ℕ = λ (rest : List ℕ). entry_bytes e ++ rest in
    let d0 : (rest : List ℕ) → drop 0 (whole rest) ≡ word e.0 ++ (half e.1 ++ rest) = λ rest. append_assoc (word e.0) (half e.1) rest in
    let d8 : (rest : List ℕ) → drop 8 (whole rest) ≡ half e.1 ++ rest = λ rest. past_word 0 e.0 (whole rest) _ (d0 rest) in
    let h8 : (rest : List ℕ) → half_at 8 (whole rest) ≡ e.1 = λ rest. half_there 8 e.1 (whole rest) rest (d8 rest) kind in
    record {
      long = length-entry e;
      fine = λ rest. all_said (entry_fields greatest_kind (whole rest)) (whole rest) (
        rw (h8 rest) (word_said 0 0 (up_to (is_used e.1) last_place) e.0 (whole rest) _ (d0 rest) pvbn (omega arith) is.0),
        (half_said 8 0 greatest_kind e.1 (whole rest) rest (d8 rest) kind (omega arith) is.1, tt),
      );
      same = λ rest. rw (word_there 0 e.0 (whole rest) _ (d0 rest) pvbn, h8 rest) refl;
    }

entries_again : (es : List (ℕ × ℕ)) → All IsEntry es → AllByRecursion (ReadsBack 12 entry_bytes (asks_entry greatest_kind) entry_of) es
entries_again [] are = tt
entries_again (e ∷ es) are = (entry_again e (All-head IsEntry e es are), entries_again es (All-tail IsEntry e es are))

pub leaf_again : (l : ContainerLeaf) → IsContainerLeaf l → l.index < 2 ^ 64 → length l.pvbns ≡ 256 → length l.kinds ≡ 256 → leaf_at (leaf_bytes l) ≡ Ok l
unfolding leaf_in
leaf_again l is index pvbns kinds =
    let b = leaf_bytes l in
    let mark : ℕ = 0x4656434c45414630 in
    let es = zip l.pvbns l.kinds in
    let same : length l.kinds ≡ length l.pvbns = omega arith in
    let long : length es ≡ 256 = omega (arith, length-zip l.pvbns l.kinds) in
    let r1024 = flat_map entry_bytes es in
    let r16 = zeros 1008 ++ r1024 in
    let d8 = past_word 0 mark b (word l.index ++ r16) refl in
    let d16 = past_word 8 l.index b r16 d8 in
    let d1024 = past_zeros 16 1008 b r1024 d16 ∙ sym (append-nil r1024) in
    let entries = entries_again es is.entries in
    let there = items_there 1024 256 12 entry_bytes (asks_entry greatest_kind) entry_of es b [] long entries d1024 in
    let ps : items 256 12 place_of (drop 1024 b) ≡ l.pvbns = places_of 256 12 (drop 1024 b) ∙ ap (map (λ (e : ℕ × ℕ). e.0)) there ∙ firsts l.pvbns l.kinds same in
    let ks : items 256 12 kind_of (drop 1024 b) ≡ l.kinds = kinds_of 256 12 (drop 1024 b) ∙ ap (map (λ (e : ℕ × ℕ). e.1)) there ∙ seconds l.pvbns l.kinds same in
    let all = all_said (leaf_fields greatest_kind) b (
      word_said 0 mark mark mark b _ refl (lit< tt) (lit≤ tt) (lit≤ tt),
      (
        word_said 8 0 greatest_word l.index b _ d8 index (omega arith) (omega (arith, index)),
        (
          zeros_said 16 1008 b _ d16,
          (items_said 1024 256 12 entry_bytes (asks_entry greatest_kind) entry_of es b [] long entries d1024, tt),
        ),
      ),
    ) in
    rw (all, word_there 8 l.index b _ d8 index, ps, ks) refl
