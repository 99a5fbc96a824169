-- The pointers in a block, one after another.
use Rattle.std.proofs.Common.{◌≡◌, ◌≢◌, ℕ, suc, ◌+◌, ◌<◌, Bool, true, false, List, [], ◌∷◌, ◌++◌, length, get_or, take, refl, sym, ap, subst, ◌∙◌, add-zero, arith}
use Rattle.std.specs.Prelude.{map, ◌==◌, if◌then◌else◌}
use Rattle.std.specs.List.{All, enumerate_from}
use Rattle.std.proofs.lemmas.List.{append-nil, map-append, take_more, length-take-le}
use Rattle.std.proofs.lemmas.List.Elements.{All-push}
use Rattle.std.proofs.lemmas.Bool.Decides.{nat_tests}
use Rattle.fv_codec.specs.declared.pointer.Pointer.{Pointer}
use Rattle.fv_codec.specs.declared.inode.InodeRecord.{InodeRecord}
use Rattle.fv_faults.specs.Walks.{child_of, file_root, used_from}
use Rattle.fv_walk.specs.declared.visit.Visit.{Visit}
use Rattle.fv_walk.specs.Visits.{visit_of, item_of}

-- it holds of none
pub none_holds : {X : Type 0} (P : X → Type 0) (xs : List X) → xs ≡ [] → All P xs
none_holds P xs none = subst (All P) (sym none) (λ k d low. absurd (omega (arith, low)))

-- what holds of each holds with one more
pub all_more : {X : Type 0} (P : X → Type 0) (xs : List X) (x : X) → All P xs → P x → All P (xs ++ (x ∷ []))
all_more P xs x each one = All-push P xs x each one

-- ---- the used records, one after another

used_append : (n : ℕ) (rs ss : List InodeRecord) → used_from n (rs ++ ss) ≡ used_from n rs ++ used_from (n + length rs) ss
unfolding used_from
used_append n [] ss = ap (λ k. used_from k ss) (sym (add-zero n))
used_append n (r ∷ rs) ss =
    let later : n + 1 + length rs ≡ n + suc (length rs) = omega arith in
    so (used_append (n + 1) rs ss ∙ ap (λ k. used_from (n + 1) rs ++ used_from k ss) later) (r.name_length == 0)
  where
    so : used_from (n + 1) (rs ++ ss) ≡ used_from (n + 1) rs ++ used_from (n + suc (length rs)) ss → (b : Bool) → (if b then used_from (n + 1) (rs ++ ss) else (n, r) ∷ used_from (n + 1) (rs ++ ss))
        ≡ (if b then used_from (n + 1) rs else (n, r) ∷ used_from (n + 1) rs) ++ used_from (n + suc (length rs)) ss
    so rest true = rest
    so rest false = ap (λ xs. (n, r) ∷ xs) rest

pub used_more : (n i : ℕ) (d : InodeRecord) (rs : List InodeRecord) → i < length rs → used_from n (take (i + 1) rs) ≡ used_from n (take i rs) ++ used_from (n + i) (get_or rs i d ∷ [])
used_more n i d rs low =
    ap (used_from n) (take_more rs i d low)
    ∙ used_append n (take i rs) (get_or rs i d ∷ [])
    ∙ ap (λ k. used_from n (take i rs) ++ used_from (n + k) (get_or rs i d ∷ [])) (length-take-le i rs (omega (arith, low)))

-- a free record has no file, and a used one is its file
pub used_none : (n : ℕ) (r : InodeRecord) → r.name_length ≡ 0 → used_from n (r ∷ []) ≡ []
unfolding used_from
used_none n r free = let test : (r.name_length == 0) ≡ true = grind (arith, nat_tests, free) in ap (λ b. if b then [] else (n, r) ∷ []) test

pub used_one : (n : ℕ) (r : InodeRecord) → r.name_length ≢ 0 → used_from n (r ∷ []) ≡ (n, r) ∷ []
unfolding used_from
used_one n r used = let test : (r.name_length == 0) ≡ false = grind (arith, nat_tests, used) in ap (λ b. if b then [] else (n, r) ∷ []) test

-- ---- the pointers in a block

module _ (v : Visit) (block : ℕ) where
  abbrev pub child_at : ℕ × Pointer → Visit
  child_at c = visit_of (child_of (item_of v) c, block)

  abbrev pub root_at : ℕ × InodeRecord → Visit
  root_at f = visit_of (file_root (item_of v) f, block)

  numbered_append : {X : Type 0} (n : ℕ) (xs ys : List X) → enumerate_from n (xs ++ ys) ≡ enumerate_from n xs ++ enumerate_from (n + length xs) ys
  numbered_append n [] ys = ap (λ k. enumerate_from k ys) (sym (add-zero n))
  numbered_append n (x ∷ xs) ys =
      let later : n + 1 + length xs ≡ n + suc (length xs) = omega arith in
      ap (λ zs. (n, x) ∷ zs) (numbered_append (n + 1) xs ys ∙ ap (λ k. enumerate_from (n + 1) xs ++ enumerate_from k ys) later)

  numbered_more : {X : Type 0} (i : ℕ) (d : X) (xs : List X) → i < length xs → enumerate_from 0 (take (i + 1) xs) ≡ enumerate_from 0 (take i xs) ++ ((i, get_or xs i d) ∷ [])
  numbered_more i d xs low =
      ap (enumerate_from 0) (take_more xs i d low)
      ∙ numbered_append 0 (take i xs) (get_or xs i d ∷ [])
      ∙ ap (λ k. enumerate_from 0 (take i xs) ++ ((k, get_or xs i d) ∷ [])) (let long : length (take i xs) ≡ i = length-take-le i xs (omega (arith, low)) in omega (arith, long))

  -- a pointer more of a node
  pub child_more : (i : ℕ) (d : Pointer) (cs : List Pointer) → i < length cs
      → map child_at (enumerate_from 0 (take (i + 1) cs)) ≡ map child_at (enumerate_from 0 (take i cs)) ++ (child_at (i, get_or cs i d) ∷ [])
  child_more i d cs low = ap (map child_at) (numbered_more i d cs low) ∙ map-append child_at (enumerate_from 0 (take i cs)) ((i, get_or cs i d) ∷ [])

  -- no record of an inode block
  pub no_roots : (n : ℕ) → [] ≡ map root_at (used_from n [])
  unfolding used_from
  no_roots n = refl

  -- a record more of it
  root_more : (n i : ℕ) (d : InodeRecord) (rs : List InodeRecord) → i < length rs
      → map root_at (used_from n (take (i + 1) rs)) ≡ map root_at (used_from n (take i rs)) ++ map root_at (used_from (n + i) (get_or rs i d ∷ []))
  root_more n i d rs low = ap (map root_at) (used_more n i d rs low) ∙ map-append root_at (used_from n (take i rs)) (used_from (n + i) (get_or rs i d ∷ []))

  pub root_used : (n i : ℕ) (d : InodeRecord) (rs : List InodeRecord) → i < length rs → (get_or rs i d).name_length ≢ 0
      → map root_at (used_from n (take (i + 1) rs)) ≡ map root_at (used_from n (take i rs)) ++ (root_at (n + i, get_or rs i d) ∷ [])
  root_used n i d rs low used = root_more n i d rs low ∙ ap (λ fs. map root_at (used_from n (take i rs)) ++ map root_at fs) (used_one (n + i) (get_or rs i d) used)

  pub root_free : (n i : ℕ) (d : InodeRecord) (rs : List InodeRecord) → i < length rs → (get_or rs i d).name_length ≡ 0
      → map root_at (used_from n (take (i + 1) rs)) ≡ map root_at (used_from n (take i rs))
  root_free n i d rs low free =
      root_more n i d rs low
      ∙ ap (λ fs. map root_at (used_from n (take i rs)) ++ map root_at fs) (used_none (n + i) (get_or rs i d) free)
      ∙ append-nil (map root_at (used_from n (take i rs)))
