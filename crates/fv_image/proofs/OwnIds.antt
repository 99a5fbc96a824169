-- Each VVBN that the roots of a volume reach has an id of its own in what the volume is charged for.
use Rattle.std.proofs.Common.{◌≡◌, ◌≢◌, ℕ, ◌≤◌, Bool, true, false, refl, sym, ap, ◌∙◌, arith}
use Rattle.std.specs.Prelude.{◌&&◌, ◌==◌, if◌then◌else◌}
use Rattle.std.specs.List.{list_all}
use Rattle.std.specs.Ordering.{eq_by_cmp}
use Rattle.std.specs.FinSet as set
use Rattle.std.proofs.lemmas.Bool.{and_parts, false_from_ne_true}
use Rattle.std.proofs.lemmas.Bool.Decides.{nat_tests}
use Rattle.fv_codec.specs.Blocks.{greatest_word}
use Rattle.fv_model.specs.Places.{InodeFile, OfFile, Id, Ids, id_cmp, ids_of}
use Rattle.fv_laws.proofs.Orders.{id_ties}
use Rattle.fv_laws.proofs.Tests.{to_all}
use Rattle.fv_tables.specs.Reached.{Item, items}
use Rattle.fv_tables.specs.Ids.{owner_of, id_of}
use Rattle.fv_tables.proofs.Lists.{tied}
use Rattle.fv_tables.proofs.Listed.{in_ids}
use Rattle.fv_tables.proofs.IdsTold.{ids_told}
use Rattle.fv_image.specs.Views.{View, Rooted as Root}
use Rattle.fv_image.specs.Chains.{under}
use Rattle.fv_image.specs.Volumes.{standing_of, table_at}
use Rattle.fv_image.specs.BlockRules.{agree}
use Rattle.fv_image.specs.TableRules.{has_same_id}
use Rattle.fv_image.proofs.SoundFacts.{agree_same}

-- All that a table reaches has its id there.
pub all_ids : (w : View) (s : ℕ) (r : Root) → r.levels ≤ 2 → list_all (λ e. set.contains (ids_of (table_at w s r)) (id_of e)) (items (standing_of w s r)) ≡ true
all_ids w s r few = to_all (λ e. set.contains (ids_of (table_at w s r)) (id_of e)) (items (standing_of w s r))
    (λ e there. ap (λ (i : Ids). set.contains i (id_of e)) (ids_told (under w s) r.levels r.root few) ∙ in_ids (items (standing_of w s r)) e there)

-- ---- two items of which rule 10 is kept

same_owner : (a b : ℕ) → owner_of a ≡ owner_of b → a ≡ b
same_owner a b e = so (a == greatest_word) refl (b == greatest_word) refl e
  where
    so : (x : Bool) → (a == greatest_word) ≡ x → (y : Bool) → (b == greatest_word) ≡ y → (if x then InodeFile else OfFile a) ≡ (if y then InodeFile else OfFile b) → a ≡ b
    so true p true q e = grind (arith, nat_tests, p, q)
    so true p false q e = absurd cc
    so false p true q e = absurd cc
    so false p false q e = cc

module _ (a b : Item) (one : agree (has_same_id a b) (a.pointer.vvbn == b.pointer.vvbn) ≡ true) where
  -- equal VVBNs have equal ids
  pub one_id : a.pointer.vvbn ≡ b.pointer.vvbn → id_of a ≡ id_of b
  one_id same =
      let equal : (a.pointer.vvbn == b.pointer.vvbn) ≡ true = grind (arith, nat_tests, same) in
      let id : has_same_id a b ≡ true = agree_same (has_same_id a b) (a.pointer.vvbn == b.pointer.vvbn) one ∙ equal in
      let parts = and_parts ((a.owner == b.owner) && ((a.level == b.level) && (a.place == b.place))) (a.pointer.stamp == b.pointer.stamp) id in
      let first = and_parts (a.owner == b.owner) _ parts.0 in
      let second = and_parts (a.level == b.level) (a.place == b.place) first.1 in
      let owner : a.owner ≡ b.owner = grind (arith, nat_tests, first.0) in
      let level : a.level ≡ b.level = grind (arith, nat_tests, second.0) in
      let place : a.place ≡ b.place = grind (arith, nat_tests, second.1) in
      let stamp : a.pointer.stamp ≡ b.pointer.stamp = grind (arith, nat_tests, parts.1) in
      λ i. (record { owner = owner_of (owner i); level = level i; index = place i }, stamp i)

  -- and equal ids equal VVBNs
  pub one_vvbn : id_of a ≡ id_of b → a.pointer.vvbn ≡ b.pointer.vvbn
  one_vvbn same =
      let owner : a.owner ≡ b.owner = same_owner a.owner b.owner (ap (λ (i : Id). i.0.owner) same) in
      let level : a.level ≡ b.level = ap (λ (i : Id). i.0.level) same in
      let place : a.place ≡ b.place = ap (λ (i : Id). i.0.index) same in
      let stamp : a.pointer.stamp ≡ b.pointer.stamp = ap (λ (i : Id). i.1) same in
      let id : has_same_id a b ≡ true = rw (owner, level, place, stamp) (itself b.owner b.level b.place b.pointer.stamp) in
      let equal : (a.pointer.vvbn == b.pointer.vvbn) ≡ true = sym (agree_same (has_same_id a b) (a.pointer.vvbn == b.pointer.vvbn) one) ∙ id in
      grind (arith, nat_tests, equal)
    where
      itself : (n k q t : ℕ) → (((n == n) && ((k == k) && (q == q))) && (t == t)) ≡ true
      itself n k q t = grind (arith, nat_tests)

pub apart_ids : (a b : Item) → agree (has_same_id a b) (a.pointer.vvbn == b.pointer.vvbn) ≡ true → a.pointer.vvbn ≢ b.pointer.vvbn → eq_by_cmp id_cmp (id_of b) (id_of a) ≡ false
apart_ids a b one differ = false_from_ne_true _ (λ e. differ (one_vvbn a b one (sym (tied id_cmp id_ties (id_of b) (id_of a) e))))
