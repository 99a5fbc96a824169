-- Items one after the other, as a loop reads and writes them.
use Rattle.std.proofs.Common.{◌≡◌, ℕ, zero, suc, ◌+◌, ◌-◌, ◌*◌, ◌<◌, ◌≤◌, List, [], ◌∷◌, ◌++◌, length, take, drop, set, Ok, Err, refl, ap, sym, ◌∙◌, arith, drop-drop, append_assoc}
use Rattle.std.specs.Prelude.{IsErrAnd}
use Rattle.std.specs.List.{flat_map, AllByRecursion}
use Rattle.std.proofs.lemmas.List.{take_more_set, take_all, drop_at, length-append}
use Rattle.std.proofs.lemmas.Result.{err_from_is_err_and}
use Rattle.std.proofs.lemmas.List.Concat.{flat_map-cons}
use Rattle.fv_codec.specs.declared.shape.Shape.{Shape}
use Rattle.fv_codec.specs.Fields.{Verdict, each, items, items_in, verdict}
use Rattle.fv_codec.proofs.Numbers.{past}

-- the bytes of the next item
on : (size i : ℕ) (bytes : List ℕ) → drop size (drop (size * i) bytes) ≡ drop (size * (i + 1)) bytes
on size i bytes =
    let e : size * i + size ≡ size * (i + 1) = omega arith in
    drop-drop size (size * i) bytes ∙ ap (λ (n : ℕ). drop n bytes) e

-- what an item's own bytes say
pub own_says : (asks : List ℕ → Verdict) {own bytes : List ℕ} {says : Verdict} → own ≡ bytes → says ≡ asks own → asks bytes ≡ says
own_says asks own is = sym (is ∙ ap asks own)

-- an item that is as said: the verdict is that of the others
pub each_next : (n i size : ℕ) (asks : List ℕ → Verdict) (bytes : List ℕ) (total : Verdict) → i < n → asks (drop (size * i) bytes) ≡ Ok tt
    → total ≡ each (n - i) size asks (drop (size * i) bytes) → total ≡ each (n - (i + 1)) size asks (drop (size * (i + 1)) bytes)
unfolding each
each_next n i size asks bytes total lt fine so_far =
    let k : n - i ≡ suc (n - (i + 1)) = omega arith in
    so_far ∙ rw (k, fine, on size i bytes) refl

-- an item that isn't as said ends the reading
pub each_fails : (n i size : ℕ) (asks : List ℕ → Verdict) (bytes : List ℕ) (fault : Shape) (total : Verdict) → i < n → asks (drop (size * i) bytes) ≡ Err fault
    → total ≡ each (n - i) size asks (drop (size * i) bytes) → total ≡ Err fault
unfolding each
each_fails n i size asks bytes fault total lt wrong so_far =
    let k : n - i ≡ suc (n - (i + 1)) = omega arith in
    so_far ∙ rw (k, wrong) refl

pub each_ends : (n i size : ℕ) (asks : List ℕ → Verdict) (bytes : List ℕ) (total : Verdict) → n ≤ i → total ≡ each (n - i) size asks (drop (size * i) bytes) → total ≡ Ok tt
unfolding each
each_ends n i size asks bytes total le so_far =
    let k : n - i ≡ 0 = omega arith in
    so_far ∙ rw k refl

module _ {X : Type 0} (value : List ℕ → X) (size : ℕ) where
  -- one item more
  pub items_more : (i : ℕ) (bytes : List ℕ) → items (i + 1) size value bytes ≡ items i size value bytes ++ value (drop (size * i) bytes) ∷ []
  unfolding items
  items_more zero bytes =
      let e : size * 0 ≡ 0 = omega arith in
      rw e refl
  items_more (suc i) bytes =
      let n : suc i + 1 ≡ suc (i + 1) = omega arith in
      let e : size + size * i ≡ size * suc i = omega arith in
      let there : drop (size * i) (drop size bytes) ≡ drop (size * suc i) bytes = drop-drop (size * i) size bytes ∙ ap (λ (k : ℕ). drop k bytes) e in
      rw (n, items_more i (drop size bytes), there) refl

  -- an item that was read is written behind those before it
  pub items_next : (into : List X) (i : ℕ) (x : X) (bytes : List ℕ) → i < length into → x ≡ value (drop (size * i) bytes) → take i into ≡ items i size value bytes → take (i + 1) (set into i x) ≡ items (i + 1) size value bytes
  items_next into i x bytes lt is so_far = take_more_set into i x lt ∙ rw (so_far, is, items_more i bytes) refl

  pub items_all : (into : List X) (n i : ℕ) (bytes : List ℕ) → length into ≡ n → n ≤ i → i ≤ n → take i into ≡ items i size value bytes → into ≡ items n size value bytes
  items_all into n i bytes long le ge so_far =
      let e : i ≡ n = omega arith in
      sym (take_all i into (omega arith)) ∙ so_far ∙ ap (λ (k : ℕ). items k size value bytes) e

-- what a loop that reads items has found after so many of them
pub record ReadSoFar {X : Type 0} (size : ℕ) (asks : List ℕ → Verdict) (value : List ℕ → X) (n i : ℕ) (bytes : List ℕ) (into : List X) : Type 0 where
  pub verdict : each n size asks bytes ≡ each (n - i) size asks (drop (size * i) bytes)
  pub found : take i into ≡ items i size value bytes

module _ {X : Type 0} {size : ℕ} {asks : List ℕ → Verdict} {value : List ℕ → X} {n i : ℕ} {bytes own : List ℕ} {into : List X} where
  -- an item that is as said is written into its place
  pub reads_on : {x : X} → own ≡ drop (size * i) bytes → i < n → length into ≡ n → Ok tt ≡ asks own → x ≡ value own → ReadSoFar size asks value n i bytes into → ReadSoFar size asks value n (i + 1) bytes (set into i x)
  reads_on {x} is lt long said found so_far = record {
    verdict = each_next n i size asks bytes _ lt (own_says asks is said) so_far.verdict;
    found = items_next value size into i x bytes (omega (arith, lt, long)) (found ∙ ap value is) so_far.found;
  }

  -- the loop leaves with the verdict of an item that isn't as said
  pub leaves_with : {fault : Shape} {result : Verdict} → IsErrAnd result (λ y. y ≡ fault) → own ≡ drop (size * i) bytes → i < n → Err fault ≡ asks own → ReadSoFar size asks value n i bytes into → result ≡ each n size asks bytes
  leaves_with {fault} {result} left is lt said so_far =
      let p = err_from_is_err_and result left in
      rw (p.1, p.2) (sym (each_fails n i size asks bytes fault _ lt (own_says asks is said) so_far.verdict))

-- ---- items that were written are read again

-- an item's bytes, whatever follows them: as many as an item has, as said, and with the item's value
pub record ReadsBack {X : Type 0} (size : ℕ) (spell : X → List ℕ) (asks : List ℕ → Verdict) (value : List ℕ → X) (x : X) : Type 0 where
  pub long : length (spell x) ≡ size
  pub fine : (rest : List ℕ) → asks (spell x ++ rest) ≡ Ok tt
  pub same : (rest : List ℕ) → value (spell x ++ rest) ≡ x

module _ {X : Type 0} (size : ℕ) (spell : X → List ℕ) (asks : List ℕ → Verdict) (value : List ℕ → X) where
  one_first : (x : X) (xs : List X) (rest : List ℕ) → flat_map spell (x ∷ xs) ++ rest ≡ spell x ++ (flat_map spell xs ++ rest)
  one_first x xs rest = ap (λ (ys : List ℕ). ys ++ rest) (flat_map-cons spell x xs) ∙ append_assoc (spell x) (flat_map spell xs) rest

  each_again : (xs : List X) (rest : List ℕ) → AllByRecursion (ReadsBack size spell asks value) xs → each (length xs) size asks (flat_map spell xs ++ rest) ≡ Ok tt
  unfolding each
  each_again [] rest back = refl
  each_again (x ∷ xs) rest back =
      let others = flat_map spell xs ++ rest in
      ap (each (suc (length xs)) size asks) (one_first x xs rest) ∙ rw (back.0.fine others, drop_at (spell x) others size back.0.long) (each_again xs rest back.1)

  items_again : (xs : List X) (rest : List ℕ) → AllByRecursion (ReadsBack size spell asks value) xs → items (length xs) size value (flat_map spell xs ++ rest) ≡ xs
  unfolding items
  items_again [] rest back = refl
  items_again (x ∷ xs) rest back =
      let others = flat_map spell xs ++ rest in
      ap (items (suc (length xs)) size value) (one_first x xs rest) ∙ rw (back.0.same others, drop_at (spell x) others size back.0.long, items_again xs rest back.1) refl

  length-items : (xs : List X) → AllByRecursion (ReadsBack size spell asks value) xs → length (flat_map spell xs) ≡ length xs * size
  length-items [] back = omega arith
  length-items (x ∷ xs) back =
      let e = ap length (flat_map-cons spell x xs) in
      let s = length-append (spell x) (flat_map spell xs) in
      let i = length-items xs back.1 in
      let n = back.0.long in
      omega arith

-- so many items from an offset on
pub items_said : {X : Type 0} (at n size : ℕ) (spell : X → List ℕ) (asks : List ℕ → Verdict) (value : List ℕ → X) (xs : List X) (bytes rest : List ℕ) → length xs ≡ n → AllByRecursion (ReadsBack size spell asks value) xs → drop at bytes ≡ flat_map spell xs ++ rest → verdict (items_in at n size asks) bytes ≡ Ok tt
items_said at n size spell asks value xs bytes rest long back there = rw (there, ← long) (each_again size spell asks value xs rest back)

pub items_there : {X : Type 0} (at n size : ℕ) (spell : X → List ℕ) (asks : List ℕ → Verdict) (value : List ℕ → X) (xs : List X) (bytes rest : List ℕ) → length xs ≡ n → AllByRecursion (ReadsBack size spell asks value) xs → drop at bytes ≡ flat_map spell xs ++ rest → items n size value (drop at bytes) ≡ xs
items_there at n size spell asks value xs bytes rest long back there = rw (there, ← long) (items_again size spell asks value xs rest back)

pub past_items : {X : Type 0} (at n size : ℕ) (spell : X → List ℕ) (asks : List ℕ → Verdict) (value : List ℕ → X) (xs : List X) (bytes rest : List ℕ) → length xs ≡ n → AllByRecursion (ReadsBack size spell asks value) xs → drop at bytes ≡ flat_map spell xs ++ rest → drop (at + n * size) bytes ≡ rest
past_items at n size spell asks value xs bytes rest long back there = past at (n * size) (flat_map spell xs) bytes rest (length-items size spell asks value xs back ∙ ap (λ (k : ℕ). k * size) long) there
