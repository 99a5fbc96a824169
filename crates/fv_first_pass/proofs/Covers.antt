-- Which children of a node have the entries of map blocks under them.
use Rattle.std.proofs.Common.{◌≡◌, ◌⊎◌, ℕ, zero, suc, ◌+◌, ◌*◌, ◌/◌, ◌^◌, ◌<◌, ◌≤◌, Bool, true, false, List, [], ◌∷◌, ◌++◌, map, get_or, length, take, inl, inr, refl, sym, ap, ◌∙◌, arith, ⊎_elim}
use Rattle.std.specs.Prelude.{flat_map, max, min, ◌||◌, ◌==◌, nat_lt}
use Rattle.std.specs.List.{list_any, range_with_len}
use Rattle.std.proofs.lemmas.Bool.{cases_lt}
use Rattle.std.proofs.lemmas.Bool.Decides.{nat_tests}
use Rattle.std.proofs.lemmas.List.{take_all}
use Rattle.std.proofs.lemmas.List.Folds.{list_any-append}
use Rattle.fv_codec.specs.declared.label.SnapRecord.{SnapRecord}
use Rattle.fv_codec.specs.declared.label.Label.{Label}
use Rattle.fv_model.specs.Space.{map_blocks}
use Rattle.fv_image.specs.Containers.{fan}
use Rattle.fv_image.specs.Views.{Rooted, Snap, View, snaps_from, head_of, map_kind}
use Rattle.fv_image.specs.Seen.{roots_of}
use Rattle.fv_faults.specs.FirstPass.{covers, wanted}
use Rattle.fv_first_pass.specs.Records.{snap_if, any_in}
use Rattle.fv_first_pass.proofs.Snaps.{snaps_more}

-- ---- numbers in a row against a range of them

module _ (test : ℕ → Bool) (low high : ℕ) (some : low < high) (inside : (v : ℕ) → low ≤ v → v < high → test v ≡ true) (outside : (v : ℕ) → (v < low) ⊎ (high ≤ v) → test v ≡ false) where
  in_row : (count first : ℕ) → nat_lt (max first low) (min (first + count) high) ≡ list_any test (range_with_len first count)
  in_row zero first = grind (arith, nat_tests)
  in_row (suc n) first = ⊎_elim
      (λ (less : first < low). let same : nat_lt (max first low) (min (first + suc n) high) ≡ nat_lt (max (first + 1) low) (min (first + 1 + n) high) = grind (arith, nat_tests, less) in
      same ∙ in_row n (first + 1) ∙ sym (ap (λ (b : Bool). b || list_any test (range_with_len (first + 1) n)) (outside first (inl less))))
      (λ (least : low ≤ first). ⊎_elim
      (λ (less : first < high). let here : nat_lt (max first low) (min (first + suc n) high) ≡ true = grind (arith, nat_tests, least, less) in
      here ∙ sym (ap (λ (b : Bool). b || list_any test (range_with_len (first + 1) n)) (inside first least less)))
      (λ (past : high ≤ first). let none : nat_lt (max first low) (min (first + suc n) high) ≡ nat_lt (max (first + 1) low) (min (first + 1 + n) high) = grind (arith, nat_tests, past) in
      none ∙ in_row n (first + 1) ∙ sym (ap (λ (b : Bool). b || list_any test (range_with_len (first + 1) n)) (outside first (inr past))))
      (cases_lt first high))
      (cases_lt first low)

-- by levels
pub meets_is : (first count level number : ℕ) → level ≤ 2 → nat_lt (max first (number * fan ^ level)) (min (first + count) (number * fan ^ level + fan ^ level)) ≡ list_any (λ v. v / fan ^ level == number) (range_with_len first count)
meets_is first count zero number low = in_row (λ v. v / 1 == number) (number * 1) (number * 1 + 1) (omega arith) (λ v least less. grind (arith, nat_tests, least, less)) (λ v out. grind (arith, nat_tests, out)) count first
meets_is first count (suc zero) number low = in_row (λ v. v / 256 == number) (number * 256) (number * 256 + 256) (omega arith) (λ v least less. grind (arith, nat_tests, least, less)) (λ v out. grind (arith, nat_tests, out)) count first
meets_is first count (suc (suc zero)) number low = in_row (λ v. v / 65536 == number) (number * 65536) (number * 65536 + 65536) (omega arith) (λ v least less. grind (arith, nat_tests, least, less)) (λ v out. grind (arith, nat_tests, out)) count first
meets_is first count (suc (suc (suc level))) number low = absurd (omega (arith, low))

-- ---- map blocks of used slots

module _ (test : ℕ → Bool) (span m : ℕ) where
  any_map : (g : ℕ → ℕ) (at n k : ℕ) → ((k : ℕ) → g k ≡ at + k) → list_any test (map (λ (b : ℕ × ℕ). b.0) (map (λ k. (g k, map_kind)) (range_with_len k n))) ≡ list_any test (range_with_len (at + k) n)
  any_map g at zero k is = refl
  any_map g at (suc n) k is =
      ap (λ v. test v || list_any test (map (λ (b : ℕ × ℕ). b.0) (map (λ k. (g k, map_kind)) (range_with_len (k + 1) n)))) (is k)
      ∙ ap (λ (b : Bool). test (at + k) || b) (any_map g at n (k + 1) is ∙ ap (λ a. list_any test (range_with_len a n)) (let e : at + (k + 1) ≡ at + k + 1 = omega arith in e))

  any_map_0 : (slot : ℕ) → list_any test (map (λ (b : ℕ × ℕ). b.0) (map (λ k. (span + (slot * m + k), map_kind)) (range_with_len 0 m))) ≡ any_in test span m slot
  any_map_0 slot = any_map (λ k. span + (slot * m + k)) (span + slot * m) m 0 (λ k. omega arith) ∙ ap (λ a. list_any test (range_with_len a m)) (let e : span + slot * m + 0 ≡ span + slot * m = omega arith in e)

  map_append : (xs ys : List (ℕ × ℕ)) → map (λ (b : ℕ × ℕ). b.0) (xs ++ ys) ≡ map (λ (b : ℕ × ℕ). b.0) xs ++ map (λ (b : ℕ × ℕ). b.0) ys
  map_append [] ys = refl
  map_append (x ∷ xs) ys = ap (λ zs. x.0 ∷ zs) (map_append xs ys)

  abbrev blocks_of : ℕ × Rooted → List (ℕ × ℕ)
  blocks_of r = map (λ k. (span + (r.0 * m + k), map_kind)) (range_with_len 0 m)

  any_roots : (rs : List (ℕ × Rooted)) → list_any test (map (λ (b : ℕ × ℕ). b.0) (flat_map blocks_of rs)) ≡ list_any (λ (r : ℕ × Rooted). any_in test span m r.0) rs
  any_roots [] = refl
  any_roots (r ∷ rs) =
      ap (list_any test) (map_append (blocks_of r) (flat_map blocks_of rs))
      ∙ list_any-append test (map (λ (b : ℕ × ℕ). b.0) (blocks_of r)) (map (λ (b : ℕ × ℕ). b.0) (flat_map blocks_of rs))
      ∙ ap (λ (b : Bool). b || list_any test (map (λ (b : ℕ × ℕ). b.0) (flat_map blocks_of rs))) (any_map_0 r.0)
      ∙ ap (λ (b : Bool). any_in test span m r.0 || b) (any_roots rs)

  any_snaps : (ps : List Snap) → list_any (λ (r : ℕ × Rooted). any_in test span m r.0) (map (λ p. (p.slot, p.table)) ps) ≡ list_any (λ (p : Snap). any_in test span m p.slot) ps
  any_snaps [] = refl
  any_snaps (p ∷ ps) = ap (λ (b : Bool). any_in test span m p.slot || b) (any_snaps ps)

  -- of the active map and of those of so many records
  abbrev pub any_to : List SnapRecord → ℕ → Bool
  any_to rs j = any_in test span m 0 || list_any (λ (p : Snap). any_in test span m p.slot) (snaps_from 1 (take j rs))

  -- one record more
  pub any_more : (rs : List SnapRecord) (j : ℕ) (d : SnapRecord) → j < length rs → any_to rs (j + 1) ≡ (any_to rs j || list_any (λ (p : Snap). any_in test span m p.slot) (snap_if (1 + j) (get_or rs j d)))
  any_more rs j d low =
      ap (λ ps. any_in test span m 0 || list_any (λ (p : Snap). any_in test span m p.slot) ps) (snaps_more rs 1 j d low)
      ∙ ap (λ (b : Bool). any_in test span m 0 || b) (list_any-append (λ (p : Snap). any_in test span m p.slot) (snaps_from 1 (take j rs)) (snap_if (1 + j) (get_or rs j d)))
      ∙ apart (any_in test span m 0) (list_any (λ (p : Snap). any_in test span m p.slot) (snaps_from 1 (take j rs))) (list_any (λ (p : Snap). any_in test span m p.slot) (snap_if (1 + j) (get_or rs j d)))
    where
      apart : (a b c : Bool) → (a || (b || c)) ≡ ((a || b) || c)
      apart true b c = refl
      apart false b c = refl

  -- before the first record
  pub any_first : (rs : List SnapRecord) → list_any test (range_with_len span m) ≡ any_to rs 0
  unfolding snaps_from
  any_first rs =
      ap (λ a. list_any test (range_with_len a m)) (let e : span ≡ span + 0 * m = omega arith in e)
      ∙ alone (any_in test span m 0)
    where
      alone : (a : Bool) → a ≡ (a || false)
      alone true = refl
      alone false = refl

  -- a step, as the program makes it
  pub any_step : (rs : List SnapRecord) (j : ℕ) (any one : Bool) (d : SnapRecord) → j < length rs → any ≡ any_to rs j → one ≡ list_any (λ (p : Snap). any_in test span m p.slot) (snap_if (1 + j) (get_or rs j d))
      → (one || any) ≡ any_to rs (j + 1)
  any_step rs j any one d low is so = rw (is, so) (turned (list_any (λ (p : Snap). any_in test span m p.slot) (snap_if (1 + j) (get_or rs j d))) (any_to rs j) ∙ sym (any_more rs j d low))
    where
      turned : (a b : Bool) → (a || b) ≡ (b || a)
      turned true true = refl
      turned true false = refl
      turned false true = refl
      turned false false = refl

-- the VVBNs that have to have an entry, against a test
pub covers_is : (w : View) (l : Label) (level number : ℕ) → covers (wanted w l) level number ≡ (any_in (λ v. v / fan ^ level == number) l.span (map_blocks l.span) 0 || list_any (λ (p : Snap). any_in (λ v. v / fan ^ level == number) l.span (map_blocks l.span) p.slot) (snaps_from 1 l.snapshots))
unfolding head_of
covers_is w l level number =
    any_roots (λ v. v / fan ^ level == number) l.span (map_blocks l.span) (roots_of (head_of l))
    ∙ ap (λ (b : Bool). any_in (λ v. v / fan ^ level == number) l.span (map_blocks l.span) 0 || b) (any_snaps (λ v. v / fan ^ level == number) l.span (map_blocks l.span) (snaps_from 1 l.snapshots))

-- after the last record
pub any_last : (w : View) (l : Label) (level number : ℕ) → length l.snapshots ≡ 24 → any_to (λ v. v / fan ^ level == number) l.span (map_blocks l.span) l.snapshots 24 ≡ covers (wanted w l) level number
any_last w l level number long =
    ap (λ rs. any_in (λ v. v / fan ^ level == number) l.span (map_blocks l.span) 0 || list_any (λ (p : Snap). any_in (λ v. v / fan ^ level == number) l.span (map_blocks l.span) p.slot) (snaps_from 1 rs)) (take_all 24 l.snapshots (omega (arith, long)))
    ∙ sym (covers_is w l level number)
