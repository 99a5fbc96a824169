-- Rule 10, ids and VVBNs: each later pointer held against the first that is the same finds a fault exactly where some two differ.
use Rattle.std.proofs.Common.{◌≡◌, ℕ, Bool, true, false, List, [], ◌∷◌, ◌++◌, inl, inr, refl, sym, ap, subst, ◌∙◌, arith, ⊎_elim}
use Rattle.std.specs.Prelude.{Option, Some, None, flat_map, find, ◌&&◌, ◌==◌, if◌then◌else◌}
use Rattle.std.specs.List.{list_all}
use Rattle.std.specs.Option.{option_map_or}
use Rattle.std.proofs.lemmas.Bool.{and_parts, and_from}
use Rattle.std.proofs.lemmas.Bool.Decides.{nat_tests}
use Rattle.std.proofs.lemmas.List.{append_assoc, append-nil}
use Rattle.fv_laws.proofs.Lists.{In, in_left, in_right, in_either}
use Rattle.fv_laws.proofs.Tests.{to_all, from_all}
use Rattle.fv_tables.specs.Reached.{Item}
use Rattle.fv_image.specs.BlockRules.{agree}
use Rattle.fv_image.specs.ReachRules.{is_same_position}
use Rattle.fv_image.specs.TableRules.{has_same_id}
use Rattle.fv_faults.specs.declared.fault.Fault.{Fault}
use Rattle.fv_faults.specs.Lines.{line, unless}
use Rattle.fv_faults.specs.Walks.{Step}
use Rattle.fv_faults.specs.ThirdPass.{twins, same_id, same_vvbn, id_lines, vvbn_lines, one_to_one_lines}
use Rattle.fv_faults.proofs.Clean.{parts_nil, nil_parts}

pub record IsSame {X : Type 0} (same : X → X → Bool) : Type 0 where
  pub itself : (a : X) → same a a ≡ true
  pub turned : (a b : X) → same a b ≡ true → same b a ≡ true
  pub over : (a b c : X) → same a b ≡ true → same b c ≡ true → same a c ≡ true

module _ {X : Type 0} (same like : X → X → Bool) (is_same : IsSame same) (is_like : IsSame like) where
  -- those that are the same are alike
  abbrev pub Agree : List X → Type 0
  Agree xs = (a b : X) → In a xs → In b xs → same a b ≡ true → like a b ≡ true

  abbrev Finds : X → List X → Option X → Type 0
  Finds x ys None = (b : X) → In b ys → same b x ≡ true → ⊥
  Finds x ys (Some f) = In f ys × (same f x ≡ true)

  -- what a look for one that is the same finds
  found_first : (x : X) (ys : List X) (o : Option X) → find (λ y. same y x) ys ≡ o → Finds x ys o
  found_first x [] None e = λ b here is. here
  found_first x [] (Some f) e = absurd cc
  found_first x (y ∷ ys) o e = so (λ o e. found_first x ys o e) (same y x) refl o e
    where
      different : false ≡ true → ⊥
      different e = cc

      more : (o : Option X) → same y x ≡ false → Finds x ys o → Finds x (y ∷ ys) o
      more (Some f) test rest = (inr rest.0, rest.1)
      more None test rest = λ b here is. ⊎_elim
          (λ (eq : y ≡ b). different (sym test ∙ ap (λ z. same z x) eq ∙ is))
          (λ there. rest b there is)
          here

      so : ((o : Option X) → find (λ y. same y x) ys ≡ o → Finds x ys o) → (t : Bool) → same y x ≡ t → (o : Option X) → (if t then Some y else find (λ y. same y x) ys) ≡ o → Finds x (y ∷ ys) o
      so rest true test None e = absurd cc
      so rest true test (Some f) e = let eq : y ≡ f = cc in (inl eq, ap (λ z. same z x) (sym eq) ∙ test)
      so rest false test o e = more o test (rest o e)

  -- one more that is like the first before it that is the same
  agree_more : (x : X) (ys : List X) → Agree ys → ((f : X) → find (λ y. same y x) ys ≡ Some f → like f x ≡ true) → Agree (ys ++ (x ∷ []))
  agree_more x ys alike first = λ a b at bt is. ⊎_elim
      (λ a_in. ⊎_elim (λ b_in. alike a b a_in b_in is) (λ b_new. with_new a b a_in (only b b_new) is) (in_either b ys (x ∷ []) bt))
      (λ a_new. ⊎_elim
      (λ b_in. is_like.turned b a (with_new b a b_in (only a a_new) (is_same.turned a b is)))
      (λ b_new. subst (λ z. like z b ≡ true) (sym (only a a_new)) (subst (λ z. like x z ≡ true) (sym (only b b_new)) (is_like.itself x)))
      (in_either b ys (x ∷ []) bt))
      (in_either a ys (x ∷ []) at)
    where
      only : (z : X) → In z (x ∷ []) → z ≡ x
      only z here = ⊎_elim (λ e. sym e) (λ no. absurd no) here

      found : (a : X) → In a ys → same a x ≡ true → (o : Option X) → find (λ y. same y x) ys ≡ o → like a x ≡ true
      found a at is None e = absurd (found_first x ys None e a at is)
      found a at is (Some f) e =
          let there = found_first x ys (Some f) e in
          is_like.over a f x (alike a f at there.0 (is_same.over a x f is (is_same.turned f x there.1))) (first f e)

      with_new : (a b : X) → In a ys → b ≡ x → same a b ≡ true → like a b ≡ true
      with_new a b at e is = subst (λ z. like a z ≡ true) (sym e) (found a at (subst (λ z. same a z ≡ true) e is) (find (λ y. same y x) ys) refl)

  module _ (lines : X × X → List Fault) (says : (p : X × X) → lines p ≡ [] → like p.0 p.1 ≡ true) (silent : (p : X × X) → like p.0 p.1 ≡ true → lines p ≡ []) where
    first_like : (x : X) (o : Option X) → flat_map lines (option_map_or (λ first. (first, x) ∷ []) o []) ≡ [] → (f : X) → o ≡ Some f → like f x ≡ true
    first_like x None none f e = absurd cc
    first_like x (Some g) none f e = let eq : f ≡ g = cc in ap (λ z. like z x) eq ∙ says (g, x) (parts_nil (lines (g, x)) [] none).0

    flat_parts : (xs ys : List (X × X)) → flat_map lines (xs ++ ys) ≡ [] → (flat_map lines xs ≡ []) × (flat_map lines ys ≡ [])
    flat_parts [] ys none = (refl, none)
    flat_parts (p ∷ xs) ys none =
        let parts = parts_nil (lines p) (flat_map lines (xs ++ ys)) none in
        let rest = flat_parts xs ys parts.1 in
        (nil_parts (lines p) (flat_map lines xs) parts.0 rest.0, rest.1)

    pub agree_from : (before xs : List X) → Agree before → flat_map lines (twins same before xs) ≡ [] → Agree (before ++ xs)
    unfolding twins
    agree_from before [] alike none = subst Agree (sym (append-nil before)) alike
    agree_from before (x ∷ xs) alike none =
        let parts = flat_parts (option_map_or (λ first. (first, x) ∷ []) (find (λ y. same y x) before) []) (twins same (before ++ (x ∷ [])) xs) none in
        subst Agree (append_assoc before (x ∷ []) xs) (agree_from (before ++ (x ∷ [])) xs (agree_more x before alike (first_like x (find (λ y. same y x) before) parts.0)) parts.1)

    flat_both : (xs ys : List (X × X)) → flat_map lines xs ≡ [] → flat_map lines ys ≡ [] → flat_map lines (xs ++ ys) ≡ []
    flat_both [] ys none last = last
    flat_both (p ∷ xs) ys none last =
        let parts = parts_nil (lines p) (flat_map lines xs) none in
        nil_parts (lines p) (flat_map lines (xs ++ ys)) parts.0 (flat_both xs ys parts.1 last)

    pub silent_from : (before xs : List X) → Agree (before ++ xs) → flat_map lines (twins same before xs) ≡ []
    unfolding twins
    silent_from before [] alike = refl
    silent_from before (x ∷ xs) alike =
        flat_both (option_map_or (λ first. (first, x) ∷ []) (find (λ y. same y x) before) []) (twins same (before ++ (x ∷ [])) xs)
        (first_silent (find (λ y. same y x) before) refl)
        (silent_from (before ++ (x ∷ [])) xs (subst Agree (sym (append_assoc before (x ∷ []) xs)) alike))
      where
        first_silent : (o : Option X) → find (λ y. same y x) before ≡ o → flat_map lines (option_map_or (λ first. (first, x) ∷ []) o []) ≡ []
        first_silent None e = refl
        first_silent (Some f) e =
            let there = found_first x before (Some f) e in
            nil_parts (lines (f, x)) [] (silent (f, x) (alike f x (in_left f before (x ∷ xs) there.0) (in_right x before (x ∷ xs) (inl refl)) there.1)) refl

-- ---- ids and VVBNs

equal : (a b : ℕ) → (a == b) ≡ true → a ≡ b
equal a b e = grind (arith, nat_tests, e)

equal_to : (a b : ℕ) → a ≡ b → (a == b) ≡ true
equal_to a b e = grind (arith, nat_tests, e)

pub vvbns_same : IsSame same_vvbn
vvbns_same = record {
  itself = λ a. equal_to _ _ refl;
  turned = λ a b e. equal_to _ _ (sym (equal _ _ e));
  over = λ a b c d e. equal_to _ _ (equal _ _ d ∙ equal _ _ e);
}

-- what makes an id
pub record IsOneId (a b : Item) : Type 0 where
  pub owner : a.owner ≡ b.owner
  pub level : a.level ≡ b.level
  pub place : a.place ≡ b.place
  pub stamp : a.pointer.stamp ≡ b.pointer.stamp

pub one_id : (a b : Item) → has_same_id a b ≡ true → IsOneId a b
one_id a b e =
    let p = and_parts (is_same_position a b) _ e in
    let q = and_parts (a.owner == b.owner) _ p.0 in
    let r = and_parts (a.level == b.level) _ q.1 in
    record { owner = equal _ _ q.0; level = equal _ _ r.0; place = equal _ _ r.1; stamp = equal _ _ p.1 }

pub same_from : (a b : Item) → IsOneId a b → has_same_id a b ≡ true
same_from a b is = and_from (is_same_position a b) _ (and_from (a.owner == b.owner) _ (equal_to _ _ is.owner) (and_from (a.level == b.level) _ (equal_to _ _ is.level) (equal_to _ _ is.place))) (equal_to _ _ is.stamp)

pub ids_same : IsSame same_id
ids_same = record {
  itself = λ a. same_from a.item a.item (record { owner = refl; level = refl; place = refl; stamp = refl });
  turned = λ a b e. let is = one_id a.item b.item e in same_from b.item a.item (record { owner = sym is.owner; level = sym is.level; place = sym is.place; stamp = sym is.stamp });
  over = λ a b c d e. let is = one_id a.item b.item d in let also = one_id b.item c.item e in
      same_from a.item c.item (record { owner = is.owner ∙ also.owner; level = is.level ∙ also.level; place = is.place ∙ also.place; stamp = is.stamp ∙ also.stamp });
}

vvbn_says : (p : Step × Step) → vvbn_lines p ≡ [] → same_vvbn p.0 p.1 ≡ true
vvbn_says p none = so (p.0.item.pointer.vvbn == p.1.item.pointer.vvbn) none
  where
    so : (t : Bool) → unless t (line 10 p.1.block p.0.item.pointer.vvbn p.1.item.pointer.vvbn) ≡ [] → t ≡ true
    so true e = refl
    so false e = absurd cc

vvbn_silent : (p : Step × Step) → same_vvbn p.0 p.1 ≡ true → vvbn_lines p ≡ []
vvbn_silent p is = rw is refl

id_says : (p : Step × Step) → id_lines p ≡ [] → same_id p.0 p.1 ≡ true
id_says p none = so (p.0.item.pointer.stamp == p.1.item.pointer.stamp) (p.0.item.place == p.1.item.place) (p.0.item.level == p.1.item.level) (p.0.item.owner == p.1.item.owner) none
  where
    so : (s q l o : Bool) → (if s then (if q then (if l then unless o (line 10 p.1.block p.0.item.owner p.1.item.owner) else line 10 p.1.block p.0.item.level p.1.item.level ∷ []) else line 10 p.1.block p.0.item.place p.1.item.place ∷ []) else line 10 p.1.block p.0.item.pointer.stamp p.1.item.pointer.stamp ∷ []) ≡ []
        → ((o && (l && q)) && s) ≡ true
    so true true true true e = refl
    so true true true false e = absurd cc
    so true true false o e = absurd cc
    so true false l o e = absurd cc
    so false q l o e = absurd cc

id_silent : (p : Step × Step) → same_id p.0 p.1 ≡ true → id_lines p ≡ []
id_silent p is =
    let one = one_id p.0.item p.1.item is in
    rw (equal_to _ _ one.stamp, equal_to _ _ one.place, equal_to _ _ one.level, equal_to _ _ one.owner) refl

-- whether ids and VVBNs of a list are one to one, as soundness tests it
abbrev pub are_one_to_one : List Step → Bool
are_one_to_one all = list_all (λ a. list_all (λ b. agree (same_id a b) (same_vvbn a b)) all) all

agree_from_both : (a b : Bool) → (a ≡ true → b ≡ true) → (b ≡ true → a ≡ true) → agree a b ≡ true
agree_from_both true b there back = there refl
agree_from_both false true there back = back refl
agree_from_both false false there back = refl

both_from_agree : (a b : Bool) → agree a b ≡ true → (a ≡ true → b ≡ true) × (b ≡ true → a ≡ true)
both_from_agree true true e = ((λ e. e), (λ e. e))
both_from_agree true false e = absurd cc
both_from_agree false true e = absurd cc
both_from_agree false false e = ((λ e. e), (λ e. e))

pub one_to_one_from : (all : List Step) → one_to_one_lines all ≡ [] → are_one_to_one all ≡ true
unfolding one_to_one_lines
one_to_one_from all none =
    let parts = parts_nil (flat_map vvbn_lines (twins same_id [] all)) (flat_map id_lines (twins same_vvbn [] all)) none in
    let ids = agree_from same_id same_vvbn ids_same vvbns_same vvbn_lines vvbn_says vvbn_silent [] all (λ a b at bt is. absurd at) parts.0 in
    let vvbns = agree_from same_vvbn same_id vvbns_same ids_same id_lines id_says id_silent [] all (λ a b at bt is. absurd at) parts.1 in
    to_all (λ a. list_all (λ b. agree (same_id a b) (same_vvbn a b)) all) all (λ a at. to_all (λ b. agree (same_id a b) (same_vvbn a b)) all (λ b bt. agree_from_both (same_id a b) (same_vvbn a b) (ids a b at bt) (vvbns a b at bt)))

pub no_one_to_one_lines : (all : List Step) → are_one_to_one all ≡ true → one_to_one_lines all ≡ []
unfolding one_to_one_lines
no_one_to_one_lines all are =
    let each = λ (a b : Step) (at : In a all) (bt : In b all). both_from_agree (same_id a b) (same_vvbn a b) (from_all (λ b. agree (same_id a b) (same_vvbn a b)) all (from_all (λ a. list_all (λ b. agree (same_id a b) (same_vvbn a b)) all) all are a at) b bt) in
    nil_parts (flat_map vvbn_lines (twins same_id [] all)) (flat_map id_lines (twins same_vvbn [] all))
    (silent_from same_id same_vvbn ids_same vvbns_same vvbn_lines vvbn_says vvbn_silent [] all (λ a b at bt. (each a b at bt).0))
    (silent_from same_vvbn same_id vvbns_same ids_same id_lines id_says id_silent [] all (λ a b at bt. (each a b at bt).1))
