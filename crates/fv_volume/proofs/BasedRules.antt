-- What the rules of soundness ask of a volume that stands on another and isn't being split: the table of its base counts as one root more, in
-- the slot of the base.
use Rattle.std.proofs.Common.{◌≡◌, ◌⊎◌, ℕ, ◌≤◌, Bool, true, false, not, ◌&&◌, ◌||◌, List, [], ◌∷◌, map, flat_map, Option, Some, is_some, inl, inr, ⊎_elim, refl, ap, subst, ◌∙◌, arith}
use Rattle.std.specs.Prelude.{nat_le, ◌==◌}
use Rattle.std.specs.List.{list_all, list_any}
use Rattle.std.specs.Option.{is_none, option_map_or}
use Rattle.std.proofs.lemmas.Bool.{and_from, or_left, or_right}
use Rattle.std.proofs.lemmas.Bool.Decides.{nat_tests}
use Rattle.std.proofs.lemmas.List.Folds.{list_all-append, list_all-map}
use Rattle.fv_codec.specs.declared.pointer.Pointer.{Pointer}
use Rattle.fv_laws.proofs.Lists.{In}
use Rattle.fv_laws.proofs.Tests.{to_all, to_any}
use Rattle.fv_tables.specs.Reached.{Item, is_listed, items}
use Rattle.fv_tables.proofs.Lists.{all_flat}
use Rattle.fv_image.specs.HintRules.{is_based, is_splitting}
use Rattle.fv_image.specs.Seen.{Based, Reached, Root, base_root, base_seen, based_at, based_on, reached_at, root_seen, roots_of, volume_seen}
use Rattle.fv_image.specs.BlockRules.{agree}
use Rattle.fv_image.specs.TableRules.{all_items, has_same_id}
use Rattle.fv_image.specs.Views.{Footing, Head, Rooted, View}
use Rattle.fv_image.specs.Volumes.{standing_of}
use Rattle.fv_volmap.specs.Slots.{slot_of_base}
use Rattle.fv_volume.proofs.Ruled.{AreOneToOne, AreRuled, of_roots, same_id}

module _ (w : View) (s : ℕ) (h : Head) (led : ℕ → Rooted → Option ℕ → ℕ → ℕ → Pointer) (is : (k : ℕ) (r : Rooted) → In {X = ℕ × Rooted} (k, r) (roots_of h) → AreRuled w s h r (led k r))
    (b : Footing) (based : h.base ≡ Some b) (whole : b.splitting ≡ false) (root : Rooted) (found : base_root w b ≡ Some root) (same : items (standing_of w b.parent root) ≡ items (standing_of w s root))
    (its : AreRuled w s h root (led slot_of_base root)) where
  abbrev es : List Item
  es = items (standing_of w s root)

  -- a root of the volume, or that of its base table
  abbrev IsTable : ℕ → Rooted → Type 0
  IsTable k r = In {X = ℕ × Rooted} (k, r) ((slot_of_base, root) ∷ roots_of h)

  base_is : (volume_seen w s h).base ≡ map (based_at w s b.splitting) es
  unfolding volume_seen base_seen
  base_is = ap (λ (o : Option Footing). option_map_or (λ (c : Footing). option_map_or (based_on w s c) (base_root w c) []) o []) based
      ∙ ap (λ (o : Option Rooted). option_map_or (based_on w s b) o []) found ∙ ap (map (based_at w s b.splitting)) same

  -- what holds of each pointer of each root and of the base table holds of all items
  of_tables : (test : Item → Bool) → ((k : ℕ) (r : Rooted) → IsTable k r → list_all test (items (standing_of w s r)) ≡ true) → list_all test (all_items (volume_seen w s h)) ≡ true
  unfolding root_seen
  of_tables test f =
      list_all-append test (flat_map (λ (r : Root). map (λ (e : Reached). e.item) r.reached) (volume_seen w s h).roots) (map (λ (b : Based). b.item) (volume_seen w s h).base)
      ∙ and_from _ _
      (all_flat test (λ (r : Root). map (λ (e : Reached). e.item) r.reached) (volume_seen w s h).roots ∙ of_roots w s h led is (λ (r : Root). list_all test (map (λ (e : Reached). e.item) r.reached)) (λ k r one.
      list_all-map test (λ (e : Reached). e.item) (map (reached_at w s) (items (standing_of w s r))) ∙ list_all-map (λ (e : Reached). test e.item) (reached_at w s) (items (standing_of w s r)) ∙ f k r (inr one)))
      (list_all-map test (λ (b : Based). b.item) (volume_seen w s h).base ∙ ap (list_all (λ (b : Based). test b.item)) base_is
      ∙ list_all-map (λ (b : Based). test b.item) (based_at w s b.splitting) es ∙ f slot_of_base root (inl refl))

  ruled : (k : ℕ) (r : Rooted) → IsTable k r → AreRuled w s h r (led k r)
  ruled k r (inl e) = subst (λ (p : ℕ × Rooted). AreRuled w s h p.1 (led p.0 p.1)) e its
  ruled k r (inr there) = is k r there

  pub ids : ((k : ℕ) (r : Rooted) (j : ℕ) (q : Rooted) → IsTable k r → IsTable j q → AreOneToOne (led k r) (led j q))
      → list_all (λ a. list_all (λ b. agree (has_same_id a b) (a.pointer.vvbn == b.pointer.vvbn)) (all_items (volume_seen w s h))) (all_items (volume_seen w s h)) ≡ true
  ids pairs = of_tables (λ a. list_all (λ b. agree (has_same_id a b) (a.pointer.vvbn == b.pointer.vvbn)) (all_items (volume_seen w s h)))
      (λ k r one. (ruled k r one).each _ (λ a first. of_tables (λ b. agree (has_same_id a b) (a.pointer.vvbn == b.pointer.vvbn))
      (λ j q two. (ruled j q two).each (λ b. agree (has_same_id a b) (a.pointer.vvbn == b.pointer.vvbn))
      (λ b second. same_id w s h (led k r) (led j q) a b first second (ruled k r one).numbers (ruled j q two).numbers (pairs k r j q one two)))))

  pub stamps : list_all (λ e. nat_le e.pointer.stamp h.now) (all_items (volume_seen w s h)) ≡ true
  stamps = of_tables (λ e. nat_le e.pointer.stamp h.now) (λ k r one. (ruled k r one).each (λ e. nat_le e.pointer.stamp h.now) (λ e known. at_most e.pointer.stamp h.now known.stamp))
    where
      at_most : (a b : ℕ) → a ≤ b → nat_le a b ≡ true
      at_most a b le = grind (arith, nat_tests, le)

  pub split : (test : Root → Bool) → list_all (λ (r : Root). not (is_splitting h.base) || test r) (volume_seen w s h).roots ≡ true
  split test = of_roots w s h led is (λ (r : Root). not (is_splitting h.base) || test r) (λ k r one. ap (λ (o : Option Footing). not (is_splitting o) || test (root_seen w s k r)) based ∙ ap (λ (t : Bool). not t || test (root_seen w s k r)) whole)

  -- no entry of its own lies under what the base table reaches
  pub leaves : ((v : ℕ) → is_listed es v ≡ true → is_some (w.entry s v) ≡ false) → list_all (λ (b : Based). not b.own) (volume_seen w s h).base ≡ true
  leaves holes = ap (list_all (λ (b : Based). not b.own)) base_is ∙ list_all-map (λ (b : Based). not b.own) (based_at w s b.splitting) es
      ∙ to_all (λ (e : Item). not (not b.splitting && is_some (w.entry s e.pointer.vvbn))) es (λ e there. (λ i. not (not b.splitting && holes e.pointer.vvbn (listed e there) i)) ∙ last b.splitting)
    where
      itself : (n : ℕ) → (n == n) ≡ true
      itself n = grind (arith, nat_tests)

      listed : (e : Item) → In e es → is_listed es e.pointer.vvbn ≡ true
      listed e there = to_any (λ (a : Item). a.pointer.vvbn == e.pointer.vvbn) e es there (itself e.pointer.vvbn)

      last : (t : Bool) → not (not t && false) ≡ true
      last true = refl
      last false = refl

  -- what a root reaches has an entry of its own, or is reached by the base table
  pub rests : ((k : ℕ) (r : Rooted) → In {X = ℕ × Rooted} (k, r) (roots_of h) → (v : ℕ) → is_listed (items (standing_of w s r)) v ≡ true → (is_some (w.entry s v) ≡ true) ⊎ (is_listed es v ≡ true))
      → list_all (λ (r : Root). is_none h.base || list_all (λ (e : Reached). e.own || is_based (volume_seen w s h) e.item.pointer.vvbn) r.reached) (volume_seen w s h).roots ≡ true
  unfolding root_seen
  rests lent = of_roots w s h led is (λ (r : Root). is_none h.base || list_all (λ (e : Reached). e.own || is_based (volume_seen w s h) e.item.pointer.vvbn) r.reached)
      (λ k r one. or_right (is_none h.base) _ (list_all-map (λ (e : Reached). e.own || is_based (volume_seen w s h) e.item.pointer.vvbn) (reached_at w s) (items (standing_of w s r))
      ∙ to_all (λ (e : Item). is_some (w.entry s e.pointer.vvbn) || is_based (volume_seen w s h) e.pointer.vvbn) (items (standing_of w s r)) (λ e there. ⊎_elim
      (λ own. or_left (is_some (w.entry s e.pointer.vvbn)) _ own)
      (λ out. or_right (is_some (w.entry s e.pointer.vvbn)) _ (based_is e.pointer.vvbn ∙ out))
      (lent k r one e.pointer.vvbn (listed (items (standing_of w s r)) e there)))))
    where
      itself : (n : ℕ) → (n == n) ≡ true
      itself n = grind (arith, nat_tests)

      listed : (xs : List Item) (e : Item) → In e xs → is_listed xs e.pointer.vvbn ≡ true
      listed xs e there = to_any (λ (a : Item). a.pointer.vvbn == e.pointer.vvbn) e xs there (itself e.pointer.vvbn)

      mapped : (v : ℕ) (xs : List Item) → list_any (λ (b : Based). b.item.pointer.vvbn == v) (map (based_at w s b.splitting) xs) ≡ is_listed xs v
      mapped v [] = refl
      mapped v (x ∷ xs) = ap (λ (t : Bool). (x.pointer.vvbn == v) || t) (mapped v xs)

      based_is : (v : ℕ) → is_based (volume_seen w s h) v ≡ is_listed es v
      based_is v = ap (list_any (λ (b : Based). b.item.pointer.vvbn == v)) base_is ∙ mapped v es
