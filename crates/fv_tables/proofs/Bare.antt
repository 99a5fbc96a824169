-- A tree and a table of which the root is a hole have nothing and reach nothing.
use Rattle.std.proofs.Common.{◌≡◌, ℕ, zero, suc, ◌-◌, ◌/◌, ◌%◌, Bool, true, false, List, [], ◌∷◌, ◌++◌, refl, ap, ◌∙◌}
use Rattle.std.specs.Prelude.{Option, None, ◌==◌, nat_le, flat_map, if◌then◌else◌, get_or}
use Rattle.std.specs.Option.{option_map}
use Rattle.std.specs.Ordering.{nat_cmp}
use Rattle.std.specs.FinMap as fin
use Rattle.fv_codec.specs.declared.pointer.Pointer.{Pointer}
use Rattle.fv_model.specs.Trees.{fan, Spot, spot_cmp}
use Rattle.fv_tables.specs.Spelled.{Rooted, hole, pointer_below, pointer_at}
use Rattle.fv_tables.specs.Told.{entry_or, listed, spots, stamp_at, tree_told, records_each, records_in, free_record, used_record, file_at, Standing, tree_of, file_told, file_in, numbers, records, table_told}
use Rattle.fv_tables.specs.Reached.{item_of, reached_one, tree_items, file_items, items}
use Rattle.fv_tables.proofs.Pointers.{none_under, no_stamp, no_block}

-- nothing is listed of a function without values
listed_none : {K X : Type 0} (f : K → Option X) (keys : List K) → ((k : K) → f k ≡ None) → listed f keys ≡ []
unfolding listed
listed_none f [] none = refl
listed_none f (k ∷ ks) none = ap (λ o. entry_or k o ++ listed f ks) (none k) ∙ listed_none f ks none

no_parts : {X Y : Type 0} (part : X → List Y) (xs : List X) → ((x : X) → part x ≡ []) → flat_map part xs ≡ []
no_parts part [] none = refl
no_parts part (x ∷ xs) none = ap (λ ys. ys ++ flat_map part xs) (none x) ∙ no_parts part xs none

-- ---- a tree

module _ (t : Rooted) (bare : t.root.stamp ≡ 0) where
  none_below : (steps place : ℕ) → (pointer_below t steps place).stamp ≡ 0
  unfolding pointer_below
  none_below zero place = so (place == 0)
    where
      so : (b : Bool) → (if b then t.root else hole).stamp ≡ 0
      so true = bare
      so false = refl
  none_below (suc steps) place =
      ap (λ (xs : List Pointer). (get_or xs (place % fan) hole).stamp) (none_under t (t.levels - steps) (place / fan) (pointer_below t steps (place / fan)) (none_below steps (place / fan)))

  pub none_at : (level place : ℕ) → (pointer_at t level place).stamp ≡ 0
  unfolding pointer_at
  none_at level place = so (nat_le level t.levels)
    where
      so : (b : Bool) → (if b then pointer_below t (t.levels - level) place else hole).stamp ≡ 0
      so true = none_below (t.levels - level) place
      so false = refl

  -- it is told without a stamp
  pub bare_tree : tree_told t ≡ record { levels = t.levels; stamps = fin.empty }
  unfolding tree_told
  bare_tree = ap (λ es. record { levels = t.levels; stamps = fin.from_entries {R = spot_cmp} es }) (listed_none (stamp_at t) (spots t.levels) (λ spot. no_stamp (pointer_at t spot.0 spot.1) (none_at spot.0 spot.1)))

  pub bare_items : (top : Pointer) → tree_items top t ≡ []
  unfolding tree_items
  bare_items top = no_parts (λ (spot : Spot). reached_one (item_of top t spot.0 spot.1)) (spots t.levels) (λ spot. so spot)
    where
      so : (spot : Spot) → reached_one (item_of top t spot.0 spot.1) ≡ []
      so spot = let test : ((pointer_at t spot.0 spot.1).stamp == 0) ≡ true = ap (λ (n : ℕ). n == 0) (none_at spot.0 spot.1) in rw test refl

  pub bare_file : (n : ℕ) → file_at t n ≡ None
  unfolding file_at records_in
  bare_file n = ap (λ b. used_record (get_or (records_in b) (n % records_each) free_record)) (no_block t (n / records_each) (none_at 0 (n / records_each)))

-- ---- a table

module _ (x : Standing) (bare : x.inode.root.stamp ≡ 0) where
  no_file_in : (n : ℕ) → file_in x n ≡ None
  unfolding file_in
  no_file_in n = ap (option_map (λ r. file_told (tree_of x n r) r)) (bare_file x.inode bare n)

  pub bare_table : table_told x ≡ record { files = fin.empty; inode = record { levels = x.inode.levels; stamps = fin.empty } }
  unfolding table_told
  bare_table = λ i. record {
    files = fin.from_entries {R = nat_cmp} (listed_none (file_in x) (numbers x) no_file_in i);
    inode = bare_tree x.inode bare i;
  }

  pub bare_reach : items x ≡ []
  unfolding items
  bare_reach = λ i. bare_items x.inode bare hole i ++ no_parts (λ n. file_items x n (file_at x.inode n)) (numbers x) (λ n. ap (file_items x n) (bare_file x.inode bare n)) i

  pub bare_records : records x ≡ []
  unfolding records
  bare_records = listed_none (file_at x.inode) (numbers x) (bare_file x.inode bare)
