-- Marks tell pointers apart, and as many marks are kept as pointers are counted, each once.
use Rattle.std.proofs.Common.{◌≡◌, ℕ, ◌+◌, Bool, true, false, not, ◌&&◌, List, [], ◌∷◌, map, length, refl, sym, ap, ◌∙◌, arith, rules, Less, Equal, Greater}
use Rattle.std.proofs.Math.Bool.{and-true}
use Rattle.std.specs.Prelude.{Option, filter, ◌||◌, ◌==◌, if◌then◌else◌}
use Rattle.std.specs.declared.cmp.Ordering.{Ordering}
use Rattle.std.specs.Ordering.{eq_by_cmp, is_eq, nat_cmp, ordering_then}
use Rattle.std.specs.Cmp.{IsTotalOrder}
use Rattle.std.specs.Cmp.Rules.{comparing}
use Rattle.std.specs.FinMap as fin
use Rattle.std.specs.List.{list_any}
use Rattle.std.specs.List.Sorted.{IsStrictlySortedBy}
use Rattle.std.proofs.lemmas.Bool.Decides.{nat_tests}
use Rattle.fv_laws.proofs.Orders.{both_equal}
use Rattle.fv_tables.specs.Reached.{Item, items}
use Rattle.fv_image.specs.Views.{Rooted}
use Rattle.fv_image.specs.Volumes.{standing_of}
use Rattle.fv_image.specs.HintRules.{is_in_label}
use Rattle.fv_image.specs.Places.{Held, is_one_pointer}
use Rattle.fv_faults.specs.Met.{met}
use Rattle.fv_faults.specs.Walks.{Ground}
use Rattle.fv_faults.proofs.TableMembers.{reached_from, reached_to}
use Rattle.fv_fourth_pass.specs.declared.tally.Mark.{Mark}
use Rattle.fv_fourth_pass.specs.Tallied.{among, counts, how_many_in, is_marked, mark_cmp, mark_of, met_marked, reached_by}
use Rattle.fv_fourth_pass.proofs.Once.{any_filtered, any_is, any_mapped, any_spread, kept_counted, once_counted}

pub mark_total : IsTotalOrder mark_cmp
mark_total = search (comparing, rules) depth 9

pub mark_ties : (x y : Mark) → mark_cmp x y ≡ Equal → x ≡ y
mark_ties x y e =
    let a : (nat_cmp x.root y.root ≡ Equal) × _ = both_equal _ _ e in
    let b : (nat_cmp x.vvbn y.vvbn ≡ Equal) × _ = both_equal _ _ a.1 in
    let c : (nat_cmp x.owner y.owner ≡ Equal) × _ = both_equal _ _ b.1 in
    let d : (nat_cmp x.level y.level ≡ Equal) × (nat_cmp x.place y.place ≡ Equal) = both_equal _ _ c.1 in
    λ i. record {
      root = fin.nat_cmp-IsAntisymmetric x.root y.root a.0 i;
      vvbn = fin.nat_cmp-IsAntisymmetric x.vvbn y.vvbn b.0 i;
      owner = fin.nat_cmp-IsAntisymmetric x.owner y.owner c.0 i;
      level = fin.nat_cmp-IsAntisymmetric x.level y.level d.0 i;
      place = fin.nat_cmp-IsAntisymmetric x.place y.place d.1 i;
    }

-- ---- marks and pointers

number_same : (a b : ℕ) → is_eq (nat_cmp a b) ≡ (a == b)
number_same a b = grind (arith, nat_tests)

both_same : (r s : Ordering) → is_eq (ordering_then r s) ≡ (is_eq r && is_eq s)
both_same Less s = refl
both_same Equal s = refl
both_same Greater s = refl

abbrev both : Mark → Mark → Bool
both a b = (a.root == b.root) && ((a.vvbn == b.vvbn) && ((a.owner == b.owner) && ((a.level == b.level) && (a.place == b.place))))

marks_same : (a b : Mark) → eq_by_cmp mark_cmp a b ≡ both a b
marks_same a b =
    both_same (nat_cmp a.root b.root) _
    ∙ ap (λ t. is_eq (nat_cmp a.root b.root) && t) (both_same (nat_cmp a.vvbn b.vvbn) _)
    ∙ ap (λ t. is_eq (nat_cmp a.root b.root) && (is_eq (nat_cmp a.vvbn b.vvbn) && t)) (both_same (nat_cmp a.owner b.owner) _)
    ∙ ap (λ t. is_eq (nat_cmp a.root b.root) && (is_eq (nat_cmp a.vvbn b.vvbn) && (is_eq (nat_cmp a.owner b.owner) && t))) (both_same (nat_cmp a.level b.level) (nat_cmp a.place b.place))
    ∙ (λ i. number_same a.root b.root i && (number_same a.vvbn b.vvbn i && (number_same a.owner b.owner i && (number_same a.level b.level i && number_same a.place b.place i))))

abbrev pub marked : Held → Mark
marked p = mark_of (p.map + 1) p.item

abbrev in_label : ℕ → Mark
in_label root = record { root = root; vvbn = 0; owner = 0; level = 0; place = 0 }

abbrev in_block : Item → Mark
in_block e = record { root = 0; vvbn = e.holder.vvbn; owner = e.owner; level = e.level; place = e.place }

pub one_pointer : (a b : Held) → is_one_pointer a b ≡ eq_by_cmp mark_cmp (marked a) (marked b)
one_pointer a b = so (is_in_label a.item) (is_in_label b.item) ∙ sym (marks_same (marked a) (marked b))
  where
    so : (s t : Bool) → (if s then t && (a.map == b.map) else (not t && ((a.item.holder.vvbn == b.item.holder.vvbn) && ((a.item.owner == b.item.owner) && ((a.item.level == b.item.level) && (a.item.place == b.item.place))))))
        ≡ both (if s then in_label (a.map + 1) else in_block a.item) (if t then in_label (b.map + 1) else in_block b.item)
    so true true = let more : (a.map == b.map) ≡ ((a.map + 1) == (b.map + 1)) = grind (arith, nat_tests) in more ∙ sym (and-true ((a.map + 1) == (b.map + 1)))
    so true false = let apart : ((a.map + 1) == 0) ≡ false = grind (arith, nat_tests) in sym (ap (λ t. t && ((0 == b.item.holder.vvbn) && ((0 == b.item.owner) && ((0 == b.item.level) && (0 == b.item.place))))) apart)
    so false true = let apart : (0 == (b.map + 1)) ≡ false = grind (arith, nat_tests) in sym (ap (λ t. t && ((a.item.holder.vvbn == 0) && ((a.item.owner == 0) && ((a.item.level == 0) && (a.item.place == 0))))) apart)
    so false false = refl

-- ---- what walks meet is what roots reach

same_truth : (a b : Bool) → (a ≡ true → b ≡ true) → (b ≡ true → a ≡ true) → a ≡ b
same_truth true true to from = refl
same_truth true false to from = sym (to refl)
same_truth false true to from = from refl
same_truth false false to from = refl

module _ (g : Ground) (label : ℕ) (copies : Option (List Bool)) (k : Mark) where
  one_root : (r : ℕ × Rooted) → met_marked copies k (r.0 + 1) (met g label r.1) ≡ list_any (is_marked copies (r.0 + 1) k) (items (standing_of g.view g.slot r.1))
  one_root r =
      any_is (λ p. is_marked copies (r.0 + 1) k p.0) (met g label r.1)
      ∙ ap not (same_truth _ _ (reached_from (λ e. not (is_marked copies (r.0 + 1) k e)) g r.1 label) (reached_to (λ e. not (is_marked copies (r.0 + 1) k e)) g r.1 label))
      ∙ sym (any_is (is_marked copies (r.0 + 1) k) (items (standing_of g.view g.slot r.1)))

  abbrev has : Held → Bool
  has p = is_marked copies (p.map + 1) k p.item

  abbrev held_of : ℕ × Rooted → List Held
  held_of r = map (λ (e : Item). record { map = r.0; item = e }) (items (standing_of g.view g.slot r.1))

  each_root : (rs : List (ℕ × Rooted)) → among g label copies k rs ≡ list_any (λ r. list_any has (held_of r)) rs
  each_root [] = refl
  each_root (r ∷ rs) = λ i. (one_root r ∙ sym (any_mapped has (λ (e : Item). record { map = r.0; item = e }) (items (standing_of g.view g.slot r.1)))) i || each_root rs i

  pub among_is : (rs : List (ℕ × Rooted)) → among g label copies k rs ≡ list_any (eq_by_cmp mark_cmp k) (map marked (filter (λ (p : Held). counts copies p.item) (reached_by g rs)))
  among_is rs =
      each_root rs
      ∙ sym (any_spread has held_of rs)
      ∙ sym (any_filtered (λ p. eq_by_cmp mark_cmp k (marked p)) (λ (p : Held). counts copies p.item) (reached_by g rs))
      ∙ sym (any_mapped (eq_by_cmp mark_cmp k) marked (filter (λ (p : Held). counts copies p.item) (reached_by g rs)))

-- As many marks are kept as there are pointers.
pub marks_counted : (g : Ground) (label : ℕ) (copies : Option (List Bool)) (rs : List (ℕ × Rooted)) (ks : List Mark) → IsStrictlySortedBy mark_cmp ks
    → ((k : Mark) → list_any (eq_by_cmp mark_cmp k) ks ≡ among g label copies k rs) → length ks ≡ how_many_in g copies rs
unfolding how_many_in
marks_counted g label copies rs ks sorted are =
    kept_counted mark_total mark_ties ks (map marked (filter (λ (p : Held). counts copies p.item) (reached_by g rs))) sorted (λ k. are k ∙ among_is g label copies k rs)
    ∙ sym (once_counted mark_total mark_ties marked is_one_pointer one_pointer (filter (λ (p : Held). counts copies p.item) (reached_by g rs)))
