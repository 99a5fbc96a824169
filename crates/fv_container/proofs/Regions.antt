-- The entries of a leaf.
use Rattle.std.proofs.Common.{◌≡◌, ◌≢◌, ℕ, suc, Bool, not, ◌||◌, ◌==◌, [], ◌∷◌, ◌+◌, ◌*◌, ◌<◌, ◌≤◌, List, length, get_or, take, drop, true, false, Option, Some, None, refl, sym, ap, subst, ◌∙◌, arith, ⊎_elim, length-drop}
use Rattle.std.specs.Prelude.{IfSome}
use Rattle.std.specs.Option.{is_some}
use Rattle.std.specs.Global.{Box}
use Rattle.std.specs.List.{list_any, zip}
use Rattle.std.proofs.lemmas.Bool.{cases_eq, cases_lt, true≢false}
use Rattle.std.proofs.lemmas.Bool.Decides.{nat_tests}
use Rattle.std.proofs.lemmas.List.{get_or-take, get_or-drop, get_or_past, length-take}
use Rattle.std.proofs.lemmas.List.Folds.{list_any_at, list_any_none}
use Rattle.std.proofs.lemmas.List.Elements.{All-from_get_or}
use Rattle.std.proofs.lemmas.Slice.Zip.{length-zip, get_or-zip}
use Rattle.fv_codec.specs.declared.container.ContainerLeaf.{ContainerLeaf}
use Rattle.fv_codec.specs.Blocks.{IsContainerLeaf, IsEntry}
use Rattle.fv_container.specs.declared.entry.Entry.{Entry}
use Rattle.fv_container.specs.Mapped.{IsHeld}
use Rattle.fv_container.specs.Paged.{IsLeafFor, is_as_said}
use Rattle.fv_container.specs.Spelled.{pair_of}
use Rattle.fv_container.specs.Written.{has_entry, is_full}
use Rattle.fv_container.proofs.Tests.{said_as}

get_region : (es : List (Option Entry)) (k c : ℕ) → c < 256 → get_or (take 256 (drop (256 * k) es)) c None ≡ get_or es (256 * k + c) None
get_region es k c lt = get_or-take 256 (drop (256 * k) es) c None lt ∙ get_or-drop (256 * k) es c None

pub found_entry : (es : List (Option Entry)) (k c : ℕ) → c < 256 → 256 * k + c < length es → is_some (get_or es (256 * k + c) None) ≡ true → has_entry es k ≡ true
unfolding has_entry
found_entry es k c lt within here =
    list_any_at is_some (take 256 (drop (256 * k) es)) c None (omega (arith, length-take 256 (drop (256 * k) es), length-drop (256 * k) es, lt, within)) (ap is_some (get_region es k c lt) ∙ here)

pub no_entry : (es : List (Option Entry)) (k : ℕ) → ((c : ℕ) → c < 256 → is_some (get_or es (256 * k + c) None) ≡ false) → has_entry es k ≡ false
unfolding has_entry
no_entry es k none =
    let region = take 256 (drop (256 * k) es) in
    list_any_none is_some region (All-from_get_or (λ e. is_some e ≡ false) region None (λ c lt.
    let few : c < 256 = omega (arith, lt, length-take 256 (drop (256 * k) es)) in
    ap is_some (get_region es k c few) ∙ none c few))

pub hole_in : (es : List (Option Entry)) (k c : ℕ) → has_entry es k ≡ false → c < 256 → get_or es (256 * k + c) None ≡ None
hole_in es k c none lt = ⊎_elim
    (λ (inside : 256 * k + c < length es). by_entry (get_or es (256 * k + c) None) refl inside)
    (λ (past : length es ≤ 256 * k + c). get_or_past es (256 * k + c) None past)
    (cases_lt (256 * k + c) (length es))
  where
    by_entry : (e : Option Entry) → get_or es (256 * k + c) None ≡ e → 256 * k + c < length es → get_or es (256 * k + c) None ≡ None
    by_entry None is inside = is
    by_entry (Some e) is inside = absurd (true≢false (sym (found_entry es k c lt inside (ap is_some is)) ∙ none))

pub leaf_in_range : (leaf : ContainerLeaf) → length leaf.pvbns ≡ 256 → length leaf.kinds ≡ 256 → ((c : ℕ) → c < 256 → IsEntry (get_or leaf.pvbns c 0, get_or leaf.kinds c 0)) → IsContainerLeaf leaf
leaf_in_range leaf pvbns kinds range = record {
  entries = All-from_get_or IsEntry (zip leaf.pvbns leaf.kinds) (0, 0) (λ c lt.
      let few : c < 256 = omega (arith, lt, length-zip leaf.pvbns leaf.kinds, pvbns, kinds) in
      subst IsEntry (sym (get_or-zip leaf.pvbns leaf.kinds c (0, 0) (omega (arith, few, pvbns)) (omega (arith, few, kinds)))) (range c few));
}

-- ---- a leaf in memory that is as some entries say

has_kind : (leaf : ContainerLeaf) (c : ℕ) → length leaf.kinds ≡ 256 → c < 256 → get_or leaf.kinds c 0 ≢ 0 → list_any (λ kind. not (kind == 0)) leaf.kinds ≡ true
has_kind leaf c long lt some =
    let test : (get_or leaf.kinds c 0 == 0) ≡ false = grind (arith, nat_tests, some) in
    list_any_at (λ kind. not (kind == 0)) leaf.kinds c 0 (omega (arith, long, lt)) (ap not test)

-- a kind of a list that has one that isn't 0
pub some_kind : (kinds : List ℕ) → list_any (λ kind. not (kind == 0)) kinds ≡ true → (c : ℕ) × (c < length kinds) × (get_or kinds c 0 ≢ 0)
some_kind [] is = absurd (true≢false (sym is))
some_kind (k ∷ ks) is = ⊎_elim
    (λ (none : k ≡ 0).
    let test : (k == 0) ≡ true = grind (arith, nat_tests, none) in
    let rest = some_kind ks (sym (ap (λ (t : Bool). not t || list_any (λ kind. not (kind == 0)) ks) test) ∙ is) in
    (suc rest.0, omega (arith, rest.1), rest.2))
    (λ (some : k ≢ 0). (0, omega arith, some))
    (cases_eq k 0)

-- no kind of a list is set, where none of its numbers is
pub bare_row : (kinds : List ℕ) → ((c : ℕ) → c < length kinds → get_or kinds c 0 ≡ 0) → list_any (λ kind. not (kind == 0)) kinds ≡ false
bare_row kinds zeros = not_true (list_any (λ kind. not (kind == 0)) kinds) (λ is. let one = some_kind kinds is in one.2 (zeros one.0 one.1))
  where
    not_true : (t : Bool) → (t ≡ true → ⊥) → t ≡ false
    not_true true wrong = absurd (wrong refl)
    not_true false wrong = refl

entry_of_kind : (e : Option Entry) (p k : ℕ) → (p, k) ≡ pair_of e → k ≢ 0 → is_some e ≡ true
entry_of_kind None p k is some = absurd (some (ap (λ (x : ℕ × ℕ). x.1) is))
entry_of_kind (Some e) p k is some = refl

hole_of_kind : (e : Option Entry) (p k : ℕ) → IfSome e IsHeld → (p, k) ≡ pair_of e → k ≡ 0 → e ≡ None
hole_of_kind None p k held is none = refl
hole_of_kind (Some e) p k held is none = (let z : 0 ≡ e.kind = sym none ∙ ap (λ (x : ℕ × ℕ). x.1) is in absurd (omega (arith, z, held.kind_least)))

-- one that is full has an entry, by what they say
pub full_has : (es : List (Option Entry)) (k : ℕ) (b : Option (Box ContainerLeaf)) → is_as_said es k b ≡ true → IfSome b (λ x. IsLeafFor k x.value) → is_full b ≡ true → has_entry es k ≡ true
full_has es k None said well full = absurd (true≢false (sym full))
full_has es k (Some b) said well full =
    let one = some_kind b.value.kinds full in
    let c = one.0 in
    let lt : c < 256 = omega (arith, one.1, well.kinds) in
    let here = entry_of_kind (get_or es (256 * k + c) None) (get_or b.value.pvbns c 0) (get_or b.value.kinds c 0) (said_as es k b said c lt) one.2 in
    found_entry es k c lt (within c here) here
  where
    within : (c : ℕ) → is_some (get_or es (256 * k + c) None) ≡ true → 256 * k + c < length es
    within c here = ⊎_elim
        (λ (inside : 256 * k + c < length es). inside)
        (λ (past : length es ≤ 256 * k + c). absurd (true≢false (sym here ∙ ap is_some (get_or_past es (256 * k + c) None past))))
        (cases_lt (256 * k + c) (length es))

-- and one that isn't has holes
pub bare_holes : (es : List (Option Entry)) (k : ℕ) (b : Option (Box ContainerLeaf)) → is_some b ≡ true → is_as_said es k b ≡ true → IfSome b (λ x. IsLeafFor k x.value) → is_full b ≡ false → ((v : ℕ) → IfSome (get_or es v None) IsHeld)
    → (c : ℕ) → c < 256 → get_or es (256 * k + c) None ≡ None
bare_holes es k None there said well bare held c lt = absurd (true≢false (sym there))
bare_holes es k (Some b) there said well bare held c lt = ⊎_elim
    (λ (none : get_or b.value.kinds c 0 ≡ 0). hole_of_kind (get_or es (256 * k + c) None) (get_or b.value.pvbns c 0) (get_or b.value.kinds c 0) (held (256 * k + c)) (said_as es k b said c lt) none)
    (λ (some : get_or b.value.kinds c 0 ≢ 0). absurd (true≢false (sym (has_kind b.value c well.kinds lt some) ∙ bare)))
    (cases_eq (get_or b.value.kinds c 0) 0)
