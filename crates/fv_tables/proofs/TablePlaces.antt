-- A table that stands in its blocks, place by place: what stands at a place is an item, and each item is at its place.
use Rattle.std.proofs.Common.{◌≡◌, ◌≢◌, ℕ, ◌*◌, ◌/◌, ◌^◌, ◌<◌, ◌≤◌, Bool, true, false, refl, sym, ap, subst, ◌∙◌, arith}
use Rattle.std.specs.Prelude.{Option, Some, None, ◌&&◌, ◌==◌, if◌then◌else◌}
use Rattle.std.specs.List.{list_all}
use Rattle.std.specs.Option.{option_map, option_map_or, option_and_then}
use Rattle.std.specs.FinMap as fin
use Rattle.std.specs.FinSet as set
use Rattle.std.proofs.Math.Nat.{pow-le-pow_right}
use Rattle.std.proofs.lemmas.Bool.Decides.{nat_tests}
use Rattle.fv_codec.specs.declared.pointer.Pointer.{Pointer}
use Rattle.fv_codec.specs.declared.inode.InodeRecord.{InodeRecord}
use Rattle.fv_codec.specs.Blocks.{greatest_word}
use Rattle.fv_model.specs.Trees.{fan}
use Rattle.fv_model.specs.Tables.{File}
use Rattle.fv_model.specs.Places.{Owner, InodeFile, OfFile, Place, placed, Stamps, ids_of, stamps_of}
use Rattle.fv_laws.proofs.Orders.{place_total}
use Rattle.fv_laws.proofs.Ids.{contains-ids}
use Rattle.fv_laws.proofs.Paths.{is_there}
use Rattle.fv_laws.proofs.Lists.{In}
use Rattle.fv_laws.proofs.Room.{entry_there}
use Rattle.fv_laws.proofs.Stamps.{stands, get-stamps_of}
use Rattle.fv_tables.specs.Spelled.{Under, hole, pointer_at, stamp_in}
use Rattle.fv_tables.specs.Told.{Standing, standing_at, records_each, file_at, file_told, file_in, tree_of, table_told}
use Rattle.fv_tables.specs.Reached.{Item, items, item_of, is_listed}
use Rattle.fv_tables.specs.Ids.{owner_of, id_of}
use Rattle.fv_tables.proofs.Tables.{stamps_told, files_told}
use Rattle.fv_tables.proofs.Items.{number_within, from_trees, at_inode, at_file, listed_inode, listed_file}

module _ (u : Under) (levels : ℕ) (root : Pointer) where
  abbrev pub x : Standing
  x = standing_at u levels root

  -- the pointer at a place
  abbrev pub pointer_in : Owner → ℕ → ℕ → Pointer
  pointer_in InodeFile level place = pointer_at x.inode level place
  pointer_in (OfFile n) level place = option_map_or (λ r. pointer_at (tree_of x n r) level place) (file_at x.inode n) hole

  -- its stamp is the place's
  pub stamp_is : (o : Owner) (level place : ℕ) → stands (table_told x) o (level, place) ≡ stamp_in (pointer_in o level place)
  unfolding table_told file_in file_told
  stamp_is InodeFile level place = stamps_told x.inode level place
  stamp_is (OfFile n) level place = ap (λ (o : Option File). option_and_then (λ f. fin.get f.tree.stamps (level, place)) o) (files_told x n) ∙ so (file_at x.inode n)
    where
      so : (o : Option InodeRecord) → option_and_then (λ f. fin.get f.tree.stamps (level, place)) (option_map (λ r. file_told (tree_of x n r) r) o) ≡ stamp_in (option_map_or (λ r. pointer_at (tree_of x n r) level place) o hole)
      so None = refl
      so (Some r) = stamps_told (tree_of x n r) level place

  -- the number of an owner in nodes
  abbrev pub number : Owner → ℕ
  number InodeFile = greatest_word
  number (OfFile n) = n

  -- an item at a place
  pub record Stood (test : Item → Bool) (o : Owner) (level place : ℕ) : Type 0 where
    pub item : Item
    pub passes : test item ≡ true
    pub pointer : item.pointer ≡ pointer_in o level place
    pub owner : item.owner ≡ number o
    pub level_is : item.level ≡ level
    pub place_is : item.place ≡ place

  no_hole : hole.stamp ≢ 0 → ⊥
  no_hole some = some refl

  -- what all that is reached passes, the item at a place does
  pub at_place : (test : Item → Bool) → list_all test (items x) ≡ true → (o : Owner) (level place : ℕ) → (pointer_in o level place).stamp ≢ 0 → Stood test o level place
  at_place test all InodeFile level place some = record {
    item = item_of hole x.inode level place;
    passes = at_inode test x all level place some;
    pointer = refl;
    owner = refl;
    level_is = refl;
    place_is = refl;
  }
  at_place test all (OfFile n) level place some = so (file_at x.inode n) refl some
    where
      so : (o : Option InodeRecord) → file_at x.inode n ≡ o → (option_map_or (λ r. pointer_at (tree_of x n r) level place) o hole).stamp ≢ 0 → Stood test (OfFile n) level place
      so None e some = absurd (no_hole some)
      so (Some r) e some = record {
        item = item_of (pointer_at x.inode 0 (n / records_each)) (tree_of x n r) level place;
        passes = at_file test x all n r e level place some;
        pointer = sym (ap (λ (o : Option InodeRecord). option_map_or (λ r. pointer_at (tree_of x n r) level place) o hole) e);
        owner = refl;
        level_is = refl;
        place_is = refl;
      }

  pub listed_place : (o : Owner) (level place : ℕ) → (pointer_in o level place).stamp ≢ 0 → is_listed (items x) (pointer_in o level place).vvbn ≡ true
  listed_place InodeFile level place some = listed_inode x level place some
  listed_place (OfFile n) level place some = so (file_at x.inode n) refl some
    where
      so : (o : Option InodeRecord) → file_at x.inode n ≡ o → (option_map_or (λ r. pointer_at (tree_of x n r) level place) o hole).stamp ≢ 0 → is_listed (items x) (option_map_or (λ r. pointer_at (tree_of x n r) level place) o hole).vvbn ≡ true
      so None e some = absurd (no_hole some)
      so (Some r) e some = listed_file x n r e level place some

  -- ---- places and VVBNs

  abbrev pub m : Stamps
  m = stamps_of (table_told x)

  -- a place with a stamp has a pointer that leads somewhere
  pub some_pointer : (e : Place × ℕ) → In e (fin.entries m) → (pointer_in e.0.owner e.0.level e.0.index).stamp ≢ 0
  some_pointer e h none =
      let at : stamp_in (pointer_in e.0.owner e.0.level e.0.index) ≡ Some e.1 = sym (stamp_is e.0.owner e.0.level e.0.index) ∙ sym (get-stamps_of (table_told x) e.0.owner (e.0.level, e.0.index)) ∙ entry_there place_total m e h in
      let test : ((pointer_in e.0.owner e.0.level e.0.index).stamp == 0) ≡ true = grind (arith, nat_tests, none) in
      absurd (none_is e.1 (sym (ap (λ (b : Bool). if b then None else Some (pointer_in e.0.owner e.0.level e.0.index).stamp) test) ∙ at))
    where
      none_is : (s : ℕ) → ◌≡◌ {A = Option ℕ} None (Some s) → ⊥
      none_is s e = cc

  -- what a pointer leads to has its id in the table
  pub contained : (o : Owner) (level place : ℕ) → (pointer_in o level place).stamp ≢ 0 → set.contains (ids_of (table_told x)) (placed o (level, place), (pointer_in o level place).stamp) ≡ true
  contained o level place some =
      let stands_is : (stamp_in (pointer_in o level place)) ≡ Some (pointer_in o level place).stamp = ap (λ (b : Bool). if b then None else Some (pointer_in o level place).stamp) (let test : ((pointer_in o level place).stamp == 0) ≡ false = grind (arith, nat_tests, some) in test) in
      contains-ids m (placed o (level, place)) (pointer_in o level place).stamp
      ∙ is_there (pointer_in o level place).stamp (fin.get m (placed o (level, place))) (get-stamps_of (table_told x) o (level, place) ∙ stamp_is o level place ∙ stands_is)

  module _ (few : levels ≤ 2) where
    pub small_number : (n level place : ℕ) → (pointer_in (OfFile n) level place).stamp ≢ 0 → n < greatest_word
    small_number n level place some = so (file_at x.inode n) refl some
      where
        so : (o : Option InodeRecord) → file_at x.inode n ≡ o → (option_map_or (λ r. pointer_at (tree_of x n r) level place) o hole).stamp ≢ 0 → n < greatest_word
        so None e some = absurd (no_hole some)
        so (Some r) e some =
            let inside : n < records_each * fan ^ levels = number_within (λ e. true) x n r e in
            let wide : fan ^ levels ≤ fan ^ 2 = pow-le-pow_right {n = fan} (omega arith) {i = levels} {j = 2} few in
            omega (arith, inside, wide)

    pub one_owner : (o k : Owner) (level place : ℕ) → (pointer_in o level place).stamp ≢ 0 → (pointer_in k level place).stamp ≢ 0 → number o ≡ number k → o ≡ k
    one_owner InodeFile InodeFile level place some other e = refl
    one_owner InodeFile (OfFile n) level place some other e = absurd (omega (arith, e, small_number n level place other))
    one_owner (OfFile n) InodeFile level place some other e = absurd (omega (arith, e, small_number n level place some))
    one_owner (OfFile n) (OfFile k) level place some other e = ap OfFile e

    -- each item is at its place
    pub owner_is : (n level place : ℕ) → (pointer_in (OfFile n) level place).stamp ≢ 0 → owner_of n ≡ OfFile n
    owner_is n level place some = let low = small_number n level place some in ap (λ (b : Bool). if b then InodeFile else OfFile n) (let other : (n == greatest_word) ≡ false = grind (arith, nat_tests, low) in other)

    abbrev pub is_placed : Item → Bool
    is_placed e = (e.pointer.vvbn == (pointer_in (owner_of e.owner) e.level e.place).vvbn) && set.contains (ids_of (table_told x)) (id_of e)

    both : (a b : Bool) → a ≡ true → b ≡ true → (a && b) ≡ true
    both a b e d = λ i. e i && d i

    itself : (n : ℕ) → (n == n) ≡ true
    itself n = grind (arith, nat_tests)

    pub all_placed : list_all is_placed (items x) ≡ true
    all_placed = from_trees is_placed x
        (λ level place some. both _ _ (itself (pointer_at x.inode level place).vvbn) (contained InodeFile level place some))
        (λ n r is level place some.
        let at : pointer_in (OfFile n) level place ≡ pointer_at (tree_of x n r) level place = ap (λ (o : Option InodeRecord). option_map_or (λ r. pointer_at (tree_of x n r) level place) o hole) is in
        let stands : (pointer_in (OfFile n) level place).stamp ≢ 0 = subst (λ (p : Pointer). p.stamp ≢ 0) (sym at) some in
        let owner = owner_is n level place stands in
        both _ _
        (ap (λ (p : Pointer). (pointer_at (tree_of x n r) level place).vvbn == p.vvbn) (ap (λ (o : Owner). pointer_in o level place) owner ∙ at) ∙ itself (pointer_at (tree_of x n r) level place).vvbn)
        (subst (λ (p : Pointer). set.contains (ids_of (table_told x)) (placed (owner_of n) (level, place), p.stamp) ≡ true) at
        (subst (λ (o : Owner). set.contains (ids_of (table_told x)) (placed o (level, place), (pointer_in (OfFile n) level place).stamp) ≡ true) (sym owner) (contained (OfFile n) level place stands))))
