-- The first pointers with each id and with each VVBN, as pointers are shown.
use Rattle.std.proofs.Common.{◌≡◌, ℕ, Bool, true, false, List, [], ◌∷◌, ◌++◌, cond, refl, sym, ap, ◌∙◌, arith, Less, Equal, Greater}
use Rattle.std.specs.Prelude.{flat_map, find, Option, Some, None, ◌&&◌, ◌==◌, if◌then◌else◌}
use Rattle.std.specs.declared.cmp.Ordering.{Ordering}
use Rattle.std.specs.Ordering.{nat_cmp, is_eq, ordering_then}
use Rattle.std.specs.Option.{option_map, option_map_or, option_or}
use Rattle.std.specs.FinMap as fin
use Rattle.std.specs.BTreeMap as maps
use Rattle.std.proofs.lemmas.Bool.Decides.{nat_tests}
use Rattle.std.proofs.lemmas.List.{append-nil}
use Rattle.std.proofs.lemmas.List.Folds.{find-append}
use Rattle.fv_laws.proofs.Orders.{both_equal}
use Rattle.fv_faults.specs.declared.fault.Fault.{Fault}
use Rattle.fv_faults.specs.ThirdPass.{twins}
use Rattle.fv_walk.specs.declared.visit.Visit.{Visit}
use Rattle.fv_third_pass.specs.declared.twins.Id.{Id}
use Rattle.fv_third_pass.specs.declared.twins.IdJudge.{IdJudge}
use Rattle.fv_third_pass.specs.Twinned.{HasFirsts, HasSeen, IsKept, id_against, id_cmp, id_line, id_of, same_id, same_vvbn, twin_lines, vvbn_against, vvbn_line, vvbn_of}

-- ids that aren't told apart are one
pub id_ties : (x y : Id) → id_cmp x y ≡ Equal → x ≡ y
id_ties x y e =
    let a : (nat_cmp x.owner y.owner ≡ Equal) × _ = both_equal _ _ e in
    let b : (nat_cmp x.level y.level ≡ Equal) × _ = both_equal _ _ a.1 in
    let c : (nat_cmp x.place y.place ≡ Equal) × (nat_cmp x.stamp y.stamp ≡ Equal) = both_equal _ _ b.1 in
    λ i. record {
      owner = fin.nat_cmp-IsAntisymmetric x.owner y.owner a.0 i;
      level = fin.nat_cmp-IsAntisymmetric x.level y.level b.0 i;
      place = fin.nat_cmp-IsAntisymmetric x.place y.place c.0 i;
      stamp = fin.nat_cmp-IsAntisymmetric x.stamp y.stamp c.1 i;
    }

equal : (r : Ordering) → is_eq r ≡ true → r ≡ Equal
equal Less e = absurd cc
equal Equal e = refl
equal Greater e = absurd cc

-- ---- one pointer more

module _ {K V : Type 0} (cmp : K → K → Ordering) (ties : (x y : K) → cmp x y ≡ Equal → x ≡ y) where
  or_none : (o : Option V) → o ≡ option_or o None
  or_none None = refl
  or_none (Some x) = refl

  -- a key that one had keeps its first
  pub kept_before : (m : maps.BTreeMap K V) (k : K) (first x : V) → maps.get cmp m k ≡ Some first → IsKept cmp k x m m
  kept_before m k first x is n = so (is_eq (cmp k n)) refl
    where
      so : (b : Bool) → is_eq (cmp k n) ≡ b → maps.get cmp m n ≡ option_or (maps.get cmp m n) (cond b (Some x) None)
      so false test = or_none (maps.get cmp m n)
      so true test =
          let has : maps.get cmp m n ≡ Some first = ap (maps.get cmp m) (sym (ties k n (equal (cmp k n) test))) ∙ is in
          has ∙ sym (ap (λ o. option_or o (Some x)) has)

  -- another one has this one
  pub kept_first : (old new : maps.BTreeMap K V) (k : K) (x : V) → maps.get cmp old k ≡ None → ((n : K) → maps.get cmp new n ≡ cond (is_eq (cmp k n)) (Some x) (maps.get cmp old n)) → IsKept cmp k x old new
  kept_first old new k x free set n = set n ∙ so (is_eq (cmp k n)) refl
    where
      so : (b : Bool) → is_eq (cmp k n) ≡ b → cond b (Some x) (maps.get cmp old n) ≡ option_or (maps.get cmp old n) (cond b (Some x) None)
      so false test = or_none (maps.get cmp old n)
      so true test =
          let none : maps.get cmp old n ≡ None = ap (maps.get cmp old) (sym (ties k n (equal (cmp k n) test))) ∙ free in
          sym (ap (λ o. option_or o (Some x)) none)

module _ {K V : Type 0} (cmp : K → K → Ordering) (key : Visit → K) (value : Visit → V) where
  map_or : (v : Visit) (o : Option Visit) (b : Bool) → option_map value (option_or o (cond b (Some v) None)) ≡ option_or (option_map value o) (cond b (Some (value v)) None)
  map_or v None true = refl
  map_or v None false = refl
  map_or v (Some x) true = refl
  map_or v (Some x) false = refl

  pub firsts_more : (done : List Visit) (v : Visit) (old new : maps.BTreeMap K V) → HasFirsts cmp key value done old → IsKept cmp (key v) (value v) old new → HasFirsts cmp key value (done ++ v ∷ []) new
  firsts_more done v old new has kept k =
      kept k
      ∙ ap (λ o. option_or o (cond (is_eq (cmp (key v) k)) (Some (value v)) None)) (has k)
      ∙ sym (ap (option_map value) (find-append (λ (u : Visit). is_eq (cmp (key u) k)) done (v ∷ [])) ∙ map_or v (find (λ (u : Visit). is_eq (cmp (key u) k)) done) (is_eq (cmp (key v) k)))

pub seen_more : (done : List Visit) (v : Visit) (old new : IdJudge) → HasSeen done old → IsKept id_cmp (id_of v) (vvbn_of v) old.ids new.ids → IsKept nat_cmp (vvbn_of v) (id_of v) old.vvbns new.vvbns → HasSeen (done ++ v ∷ []) new
seen_more done v old new has ids vvbns = record {
  ids = firsts_more id_cmp id_of vvbn_of done v old.ids new.ids has.ids ids;
  vvbns = firsts_more nat_cmp vvbn_of id_of done v old.vvbns new.vvbns has.vvbns vvbns;
}

-- ---- its lines

number_same : (a b : ℕ) → is_eq (nat_cmp a b) ≡ (a == b)
number_same a b = grind (arith, nat_tests)

both_same : (r s : Ordering) → is_eq (ordering_then r s) ≡ (is_eq r && is_eq s)
both_same Less s = refl
both_same Equal s = refl
both_same Greater s = refl

id_same : (u v : Visit) → is_eq (id_cmp (id_of u) (id_of v)) ≡ same_id u v
id_same u v =
    both_same (nat_cmp u.owner v.owner) _
    ∙ ap (λ b. is_eq (nat_cmp u.owner v.owner) && b) (both_same (nat_cmp u.level v.level) _)
    ∙ ap (λ b. is_eq (nat_cmp u.owner v.owner) && (is_eq (nat_cmp u.level v.level) && b)) (both_same (nat_cmp u.place v.place) (nat_cmp u.pointer.stamp v.pointer.stamp))
    ∙ (λ i. number_same u.owner v.owner i && (number_same u.level v.level i && (number_same u.place v.place i && number_same u.pointer.stamp v.pointer.stamp i)))
    ∙ so (u.owner == v.owner) (u.level == v.level) (u.place == v.place) (u.pointer.stamp == v.pointer.stamp)
  where
    so : (a b c d : Bool) → (a && (b && (c && d))) ≡ ((a && (b && c)) && d)
    so true true c d = refl
    so true false c d = refl
    so false b c d = refl

find_same : (p q : Visit → Bool) → ((v : Visit) → p v ≡ q v) → (vs : List Visit) → find p vs ≡ find q vs
find_same p q same [] = refl
find_same p q same (v ∷ vs) = λ i. if same v i then Some v else find_same p q same vs i

twin_one : (f : Visit × Visit → List Fault) (v : Visit) (o : Option Visit) → flat_map f (option_map_or (λ first. (first, v) ∷ []) o [] ++ []) ≡ option_map_or (λ first. f (first, v)) o []
twin_one f v None = refl
twin_one f v (Some x) = append-nil (f (x, v))

pub lines_are : (done : List Visit) (v : Visit) (judge : IdJudge) → HasSeen done judge
    → vvbn_against v.block v.pointer.vvbn (maps.get id_cmp judge.ids (id_of v)) ++ id_against v.block (id_of v) (maps.get nat_cmp judge.vvbns v.pointer.vvbn) ≡ twin_lines done (v ∷ [])
unfolding twins
lines_are done v judge has = λ i. first i ++ second i
  where
    vvbns : (o : Option Visit) → vvbn_against v.block v.pointer.vvbn (option_map vvbn_of o) ≡ option_map_or (λ first. vvbn_line (first, v)) o []
    vvbns None = refl
    vvbns (Some x) = refl

    ids : (o : Option Visit) → id_against v.block (id_of v) (option_map id_of o) ≡ option_map_or (λ first. id_line (first, v)) o []
    ids None = refl
    ids (Some x) = refl

    first : vvbn_against v.block v.pointer.vvbn (maps.get id_cmp judge.ids (id_of v)) ≡ flat_map vvbn_line (twins same_id done (v ∷ []))
    first =
        ap (vvbn_against v.block v.pointer.vvbn) (has.ids (id_of v) ∙ ap (option_map vvbn_of) (find_same (λ u. is_eq (id_cmp (id_of u) (id_of v))) (λ u. same_id u v) (λ u. id_same u v) done))
        ∙ vvbns (find (λ u. same_id u v) done)
        ∙ sym (twin_one vvbn_line v (find (λ u. same_id u v) done))

    second : id_against v.block (id_of v) (maps.get nat_cmp judge.vvbns v.pointer.vvbn) ≡ flat_map id_line (twins same_vvbn done (v ∷ []))
    second =
        ap (id_against v.block (id_of v)) (has.vvbns v.pointer.vvbn ∙ ap (option_map id_of) (find_same (λ u. is_eq (nat_cmp (vvbn_of u) v.pointer.vvbn)) (λ u. same_vvbn u v) (λ u. number_same u.pointer.vvbn v.pointer.vvbn) done))
        ∙ ids (find (λ u. same_vvbn u v) done)
        ∙ sym (twin_one id_line v (find (λ u. same_vvbn u v) done))
