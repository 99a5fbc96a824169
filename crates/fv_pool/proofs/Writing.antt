-- Blocks that are written one after another.
use Rattle.std.proofs.Common.{◌≡◌, ◌≢◌, ℕ, Bool, true, false, cond, List, [], ◌∷◌, Some, None, Option, Less, refl, sym, ap, subst, ◌∙◌, ⊎_elim, arith, nat_eq}
use Rattle.std.specs.FinMap as fin
use Rattle.std.specs.FinMap.{find}
use Rattle.std.specs.Ordering.{nat_cmp, eq_by_cmp, is_eq}
use Rattle.std.specs.Cmp.{nat_cmp_total}
use Rattle.std.specs.BTreeMap as tree
use Rattle.std.specs.List.{AllByRecursion}
use Rattle.std.specs.List.Sorted.{IsStrictlySortedBy}
use Rattle.std.specs.Map.{keys_of, lookup}
use Rattle.std.proofs.lemmas.Bool.{cases_Bool}
use Rattle.std.proofs.lemmas.Bool.Decides.{nat_tests}
use Rattle.std.proofs.lemmas.Map.Made.{keys_of-map_values, lookup-map_values}
use Rattle.std.specs.Global.{Box}
use Rattle.std.specs.Option.{option_map}
use Rattle.std.specs.Prelude.{IsTrue, IsErr, Result, Ok, Err}
use Rattle.fv_disk.specs.declared.Failed.{Failed}
use Rattle.fv_disk.specs.Sparing.{Spares}
use Rattle.fv_disk.proofs.Sparing.{spares_then}
use Rattle.fv_disk.specs.Shown.{Image, Shown}
use Rattle.fv_disk.specs.DiskCalls.{Writes}
use Rattle.fv_store.specs.Boxed.{unboxed}
use Rattle.fv_pool.specs.Keeping.{IsUnkept, kept_in, kept_or, seen}

-- each of these entries has a PVBN that has a block in the whole
abbrev pub AreIn : List (ℕ × List ℕ) → List (ℕ × List ℕ) → Type 0
AreIn whole [] = Unit {0}
AreIn whole (e ∷ es) = (find nat_cmp e.0 whole ≢ None) × AreIn whole es

-- an image with another block
abbrev pub with_block : ℕ → List ℕ → Image → Image
with_block at block i a = cond (nat_eq a at) block (i a)

-- what is read after these were written in their order
unfoldable pub written : List (ℕ × List ℕ) → Image → Image
written [] i b = i b
written (e ∷ es) i b = written es (with_block e.0 e.1 i) b

none_some : {X : Type 0} (x : X) → Some x ≢ None
none_some x e = cc

in_more : (q : ℕ) (e : ℕ × List ℕ) (whole : List (ℕ × List ℕ)) → find nat_cmp q whole ≢ None → find nat_cmp q (e ∷ whole) ≢ None
in_more q e whole is = either (is_eq (nat_cmp q e.0))
  where
    either : (t : Bool) → cond t (Some e.1) (find nat_cmp q whole) ≢ None
    either true = none_some e.1
    either false = is

in_longer : (e : ℕ × List ℕ) (whole es : List (ℕ × List ℕ)) → AreIn whole es → AreIn (e ∷ whole) es
in_longer e whole [] is = tt
in_longer e whole (x ∷ xs) is = (in_more x.0 e whole is.0, in_longer e whole xs is.1)

equal_itself : (k : ℕ) → is_eq (nat_cmp k k) ≡ true
equal_itself k = grind (arith, nat_tests)

pub all_in : (es : List (ℕ × List ℕ)) → AreIn es es
all_in [] = tt
all_in (e ∷ es) = (λ none. none_some e.1 (sym (ap (λ t. cond t (Some e.1) (find nat_cmp e.0 es)) (equal_itself e.0)) ∙ none), in_longer e es es (all_in es))

same_test : (b k : ℕ) → nat_eq b k ≡ is_eq (nat_cmp b k)
same_test b k = grind (arith, nat_tests)

-- what none of them is stays
written_apart : (es : List (ℕ × List ℕ)) (i : Image) (b : ℕ) → find nat_cmp b es ≡ None → written es i b ≡ i b
unfolding written
written_apart [] i b none = refl
written_apart (e ∷ es) i b none = ⊎_elim
    (λ (there : is_eq (nat_cmp b e.0) ≡ true). absurd (none_some e.1 (sym (ap (λ t. cond t (Some e.1) (find nat_cmp b es)) there) ∙ none)))
    (λ (other : is_eq (nat_cmp b e.0) ≡ false).
    written_apart es (with_block e.0 e.1 i) b (sym (ap (λ t. cond t (Some e.1) (find nat_cmp b es)) other) ∙ none)
    ∙ ap (λ t. cond t e.1 (i b)) (same_test b e.0 ∙ other))
    (cases_Bool (is_eq (nat_cmp b e.0)))

below_all : (k : ℕ) (es : List (ℕ × List ℕ)) → AllByRecursion (λ y. nat_cmp k y ≡ Less) (keys_of es) → find nat_cmp k es ≡ None
below_all k [] h = refl
below_all k (e ∷ es) h = ap (λ r. cond (is_eq r) (Some e.1) (find nat_cmp k es)) h.0 ∙ below_all k es h.1

written_found : (es : List (ℕ × List ℕ)) (i : Image) (b : ℕ) → IsStrictlySortedBy nat_cmp (keys_of es) → written es i b ≡ kept_or (find nat_cmp b es) (i b)
unfolding written IsStrictlySortedBy
written_found [] i b sorted = refl
written_found (e ∷ es) i b sorted = ⊎_elim
    (λ (there : is_eq (nat_cmp b e.0) ≡ true).
    let same : b ≡ e.0 = grind (arith, nat_tests, there) in
    written_apart es (with_block e.0 e.1 i) b (ap (λ k. find nat_cmp k es) same ∙ below_all e.0 es sorted.0)
    ∙ ap (λ t. cond t e.1 (i b)) (same_test b e.0 ∙ there)
    ∙ sym (ap (λ t. kept_or (cond t (Some e.1) (find nat_cmp b es)) (i b)) there))
    (λ (other : is_eq (nat_cmp b e.0) ≡ false).
    written_found es (with_block e.0 e.1 i) b sorted.1
    ∙ ap (λ t. kept_or (find nat_cmp b es) (cond t e.1 (i b))) (same_test b e.0 ∙ other)
    ∙ sym (ap (λ t. kept_or (cond t (Some e.1) (find nat_cmp b es)) (i b)) other))
    (cases_Bool (is_eq (nat_cmp b e.0)))

-- blocks in the order of their PVBNs leave each PVBN with its block
pub written_seen : (es : List (ℕ × List ℕ)) (i : Image) (b : ℕ) → IsStrictlySortedBy nat_cmp (keys_of es) → written es i b ≡ seen (fin.from_entries es) i b
written_seen es i b sorted = written_found es i b sorted ∙ ap (λ f. kept_or f (i b)) (sym (fin.get-from_entries nat_cmp_total es b))

-- images that agree stay so
pub written_same : (es : List (ℕ × List ℕ)) (i j : Image) (b : ℕ) → ((a : ℕ) → i a ≡ j a) → written es i b ≡ written es j b
written_same es i j b same = ap (λ (k : Image). written es k b) (λ x. λ a. same a x)

-- a PVBN without a block is none of those that have one
pub unkept_elsewhere : (whole : List (ℕ × List ℕ)) (b at : ℕ) → find nat_cmp at whole ≢ None → IsUnkept (fin.from_entries whole) b → b ≢ at
unkept_elsewhere whole b at is unkept same = is (ap (λ k. find nat_cmp k whole) (sym same) ∙ sym (fin.get-from_entries nat_cmp_total whole b) ∙ unkept)

turned : (q k : ℕ) → eq_by_cmp nat_cmp q k ≡ is_eq (nat_cmp k q)
turned q k = grind (arith, nat_tests)

same_find : (es : List (ℕ × List ℕ)) (q : ℕ) → find nat_cmp q es ≡ lookup (λ k. is_eq (nat_cmp q k)) es
same_find [] q = refl
same_find (e ∷ es) q = ap (λ r. cond (is_eq (nat_cmp q e.0)) (Some e.1) r) (same_find es q)

abbrev Boxes : Type 0
Boxes = tree.BTreeMap ℕ (Box (List ℕ))

abbrev inside : Option (Box (List ℕ)) → Option (List ℕ)
inside = option_map (λ box. box.value)

inside_either : (b : Bool) (x y : Option (Box (List ℕ))) → inside (cond b x y) ≡ cond b (inside x) (inside y)
inside_either true x y = refl
inside_either false x y = refl

pub view_get : (m : Boxes) (q : ℕ) → fin.get (kept_in m) q ≡ inside (tree.get nat_cmp m q)
view_get m q = fin.get-from_entries nat_cmp_total (unboxed m.entries) q ∙ same_find (unboxed m.entries) q ∙ lookup-map_values (λ box. box.value) (λ k. is_eq (nat_cmp q k)) m.entries

-- what an update of a box makes of the blocks
updated : (m n : Boxes) (k : ℕ) (w : Option (Box (List ℕ))) → tree.Updates nat_cmp m n k w → (q : ℕ) → fin.get (kept_in n) q ≡ cond (eq_by_cmp nat_cmp q k) (inside w) (fin.get (kept_in m) q)
updated m n k w updates q =
    view_get n q ∙ ap inside (updates.0 q) ∙ inside_either (is_eq (nat_cmp k q)) w (tree.get nat_cmp m q)
    ∙ ap (λ b. cond b (inside w) (inside (tree.get nat_cmp m q))) (sym (turned q k)) ∙ ap (cond (eq_by_cmp nat_cmp q k) (inside w)) (sym (view_get m q))

pub view_insert : (m n : Boxes) (k : ℕ) (box : Box (List ℕ)) → tree.Updates nat_cmp m n k (Some box) → kept_in n ≡ fin.insert (kept_in m) k box.value
view_insert m n k box updates = fin.same_map nat_cmp_total fin.nat_cmp-IsAntisymmetric (kept_in n) (fin.insert (kept_in m) k box.value)
    (λ q. updated m n k (Some box) updates q ∙ sym (fin.get-insert nat_cmp_total (kept_in m) k box.value q))

pub view_remove : (m n : Boxes) (k : ℕ) → tree.Updates nat_cmp m n k None → kept_in n ≡ fin.remove (kept_in m) k
view_remove m n k updates = fin.same_map nat_cmp_total fin.nat_cmp-IsAntisymmetric (kept_in n) (fin.remove (kept_in m) k)
    (λ q. updated m n k None updates q ∙ sym (fin.get-remove nat_cmp_total (kept_in m) k q))

-- the blocks stand in the order of their boxes
pub unboxed_ordered : (m : Boxes) → IsStrictlySortedBy nat_cmp (keys_of m.entries) → IsStrictlySortedBy nat_cmp (keys_of (unboxed m.entries))
unboxed_ordered m ordered = subst (IsStrictlySortedBy nat_cmp) (sym (keys_of-map_values (λ box. box.value) m.entries)) ordered

-- a write in front of others
pub wrote : (rest : List (ℕ × List ℕ)) (old : Shown) (at : ℕ) (block : List ℕ) (new : Shown) (b : ℕ) → IsTrue old.tells → Writes old at block new (Ok tt) → written rest new.reads b ≡ written ((at, block) ∷ rest) old.reads b
unfolding written
wrote rest old at block new b tells w = written_same rest new.reads (with_block at block old.reads) b (λ a. ⊎_elim
    (λ (here : nat_eq a at ≡ true).
    let same : a ≡ at = grind (arith, nat_tests, here) in
    ap new.reads same ∙ w.written tells ∙ sym (ap (λ t. cond t block (old.reads a)) here))
    (λ (other : nat_eq a at ≡ false).
    let apart : a ≢ at = grind (arith, nat_tests, other) in
    w.others tells a apart ∙ sym (ap (λ t. cond t block (old.reads a)) other))
    (cases_Bool (nat_eq a at)))

pub written_none : (i : Image) (b : ℕ) → i b ≡ written [] i b
unfolding written
written_none i b = refl

-- a write that failed after others, whatever name its error has
pub failed_then : (spared : ℕ → Type 0) (old mid new : Shown) (fault : Failed) (result : Result (Unit {0}) Failed) → Spares spared old mid (Ok tt) → Spares spared mid new (Err fault) → IsErr result → Spares spared old new result
failed_then spared old mid new fault (Ok x) first second is = absurd (cc)
failed_then spared old mid new fault (Err f) first second is = spares_then spared old mid new (Err f) first second
