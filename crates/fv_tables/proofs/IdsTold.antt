-- A table that stands in its blocks has the ids of what it reaches, and no others.
use Rattle.std.proofs.Common.{◌≡◌, ◌≢◌, ℕ, ◌≤◌, Bool, true, false, not, List, refl, sym, ap, subst, ◌∙◌, arith}
use Rattle.std.specs.Prelude.{Some, None, ◌==◌, if◌then◌else◌}
use Rattle.std.specs.List.{list_all}
use Rattle.std.specs.Ordering.{eq_by_cmp}
use Rattle.std.specs.FinMap as fin
use Rattle.std.specs.FinSet as set
use Rattle.std.proofs.lemmas.Bool.{and_parts, both_ways, not-true, not_from_false}
use Rattle.std.proofs.lemmas.Bool.Decides.{nat_tests}
use Rattle.std.proofs.lemmas.Cmp.{eq_by_cmp_equiv}
use Rattle.fv_codec.specs.declared.pointer.Pointer.{Pointer}
use Rattle.fv_codec.specs.Blocks.{greatest_word}
use Rattle.fv_model.specs.Places.{Owner, InodeFile, OfFile, placed, Id, id_cmp, ids_of, stamps_of}
use Rattle.fv_laws.proofs.Orders.{id_total, id_ties}
use Rattle.fv_laws.proofs.Ids.{contains-ids}
use Rattle.fv_laws.proofs.Paths.{stamp_is as stamp_there}
use Rattle.fv_laws.proofs.Lists.{In}
use Rattle.fv_laws.proofs.Stamps.{get-stamps_of}
use Rattle.fv_laws.proofs.Tests.{iff, from_all, to_all}
use Rattle.fv_tables.specs.Spelled.{Under, stamp_in}
use Rattle.fv_tables.specs.Told.{standing_at, table_told}
use Rattle.fv_tables.specs.Reached.{Item, items}
use Rattle.fv_tables.specs.Ids.{owner_of, id_of, ids_in}
use Rattle.fv_tables.proofs.Lists.{tied}
use Rattle.fv_tables.proofs.Listed.{in_ids, from_ids}
use Rattle.fv_tables.proofs.TablePlaces.{pointer_in, number, at_place, stamp_is, owner_is, is_placed, all_placed}

-- a pointer with a stamp has just that
stamp_of : (p : Pointer) (s : ℕ) → stamp_in p ≡ Some s → (p.stamp ≢ 0) × (p.stamp ≡ s)
stamp_of p s e = so (p.stamp == 0) refl e
  where
    so : (b : Bool) → (p.stamp == 0) ≡ b → (if b then None else Some p.stamp) ≡ Some s → (p.stamp ≢ 0) × (p.stamp ≡ s)
    so true zero e = absurd cc
    so false some e = ((λ none. absurd (let stands : (p.stamp == 0) ≡ true = grind (arith, nat_tests, none) in both_ways (p.stamp == 0) some stands)), cc)

module _ (u : Under) (levels : ℕ) (root : Pointer) (few : levels ≤ 2) where
  abbrev es : List Item
  es = items (standing_at u levels root)

  -- the number of an owner of what is reached names that owner
  pub owner_back : (o : Owner) (level place : ℕ) → (pointer_in u levels root o level place).stamp ≢ 0 → owner_of (number u levels root o) ≡ o
  owner_back InodeFile level place some = ap (λ (b : Bool). if b then InodeFile else OfFile greatest_word) (itself greatest_word)
    where
      itself : (n : ℕ) → (n == n) ≡ true
      itself n = grind (arith, nat_tests)
  owner_back (OfFile n) level place some = owner_is u levels root few n level place some

  -- an id of the table is that of an item
  back : (q : Id) → set.contains (ids_of (table_told (standing_at u levels root))) q ≡ true → set.contains (ids_in es) q ≡ true
  back q there = so (set.contains (ids_in es) q) refl
    where
      at : fin.get (stamps_of (table_told (standing_at u levels root))) q.0 ≡ Some q.1
      at = stamp_there q.1 _ (sym (contains-ids (stamps_of (table_told (standing_at u levels root))) q.0 q.1) ∙ there)

      pointer : stamp_in (pointer_in u levels root q.0.owner q.0.level q.0.index) ≡ Some q.1
      pointer = sym (stamp_is u levels root q.0.owner q.0.level q.0.index) ∙ sym (get-stamps_of (table_told (standing_at u levels root)) q.0.owner (q.0.level, q.0.index)) ∙ at

      other : Item → Bool
      other e = not (eq_by_cmp id_cmp q (id_of e))

      so : (b : Bool) → set.contains (ids_in es) q ≡ b → b ≡ true
      so true e = refl
      so false e =
          let some = stamp_of (pointer_in u levels root q.0.owner q.0.level q.0.index) q.1 pointer in
          let all : list_all other es ≡ true = to_all other es (λ d listed. not_from_false _ (differs d listed e)) in
          let stood = at_place u levels root other all q.0.owner q.0.level q.0.index some.0 in
          let owner : owner_of stood.item.owner ≡ q.0.owner = ap owner_of stood.owner ∙ owner_back q.0.owner q.0.level q.0.index some.0 in
          let stamp : stood.item.pointer.stamp ≡ q.1 = ap (λ (p : Pointer). p.stamp) stood.pointer ∙ some.1 in
          let same : id_of stood.item ≡ q = λ i. (placed (owner i) (stood.level_is i, stood.place_is i), stamp i) in
          absurd (both_ways (eq_by_cmp id_cmp q (id_of stood.item)) (not-true _ stood.passes) (ap (eq_by_cmp id_cmp q) same ∙ (eq_by_cmp_equiv id_total).refl q))
        where
          differs : (d : Item) → In d es → set.contains (ids_in es) q ≡ false → eq_by_cmp id_cmp q (id_of d) ≡ false
          differs d listed none = test (eq_by_cmp id_cmp q (id_of d)) refl
            where
              test : (b : Bool) → eq_by_cmp id_cmp q (id_of d) ≡ b → b ≡ false
              test false e = refl
              test true e = absurd (both_ways (set.contains (ids_in es) q) none (subst (λ (k : Id). set.contains (ids_in es) k ≡ true) (sym (tied id_cmp id_ties q (id_of d) e)) (in_ids es d listed)))

  -- Its ids are those of what it reaches.
  pub ids_told : ids_of (table_told (standing_at u levels root)) ≡ ids_in es
  ids_told = set.same_set id_total id_ties _ _ (λ q. iff _ _ (back q)
      (λ there. let found = from_ids es q there in
      subst (λ (k : Id). set.contains (ids_of (table_told (standing_at u levels root))) k ≡ true) found.1.1
      (and_parts _ (set.contains (ids_of (table_told (standing_at u levels root))) (id_of found.0)) (from_all (is_placed u levels root few) es (all_placed u levels root few) found.0 found.1.0)).1))
