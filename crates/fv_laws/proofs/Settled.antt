-- What of a path stays charged, or wasn't charged, is counted place by place: over the cell of the file, and over its cell of the inode file.
use Rattle.std.proofs.Common.{◌≡◌, ◌≢◌, ℕ, ◌+◌, ◌-◌, ◌/◌, ◌^◌, ◌<◌, ◌≤◌, Bool, true, false, not, ◌&&◌, ◌||◌, List, ◌++◌, map, filter, flat_map, Option, Some, None, refl, sym, ap, subst, ◌∙◌, arith, ⊎_elim, is_some}
use Rattle.std.specs.Prelude.{nat_lt, nat_le, count_by}
use Rattle.std.specs.List.{range_with_len}
use Rattle.std.specs.Option.{option_map_or}
use Rattle.std.specs.Ordering.{eq_by_cmp}
use Rattle.std.specs.Cmp.{Equal-is}
use Rattle.std.specs.FinMap as fin
use Rattle.std.specs.FinSet as set
use Rattle.std.proofs.lemmas.Bool.{and_parts, or_cases, or_left, or_right, false_from_ne_true}
use Rattle.std.proofs.lemmas.Bool.Decides.{nat_tests}
use Rattle.std.proofs.lemmas.Cmp.{eq_by_cmp_equiv}
use Rattle.fv_model.specs.Trees.{fan, Spot, Tree, levels_with, spots_over, spots_grown, written_spots, holds_one}
use Rattle.fv_model.specs.Tables.{File, inode_cell, free_number}
use Rattle.fv_model.specs.Places.{Owner, InodeFile, OfFile, placed, Place, Id, id_cmp, Ids, stamps_of}
use Rattle.fv_model.specs.Volumes.{Volume}
use Rattle.fv_laws.specs.WellFormed.{IsTree, IsWellTable}
use Rattle.fv_laws.specs.Positions.{settled_ids, id_at, staying}
use Rattle.fv_laws.specs.Paths.{inode_path, new_path, put_path}
use Rattle.fv_laws.specs.Settled.{is_settled, settled_over}
use Rattle.fv_laws.proofs.Orders.{id_total, id_ties}
use Rattle.fv_laws.proofs.Lists.{In, in_left, in_right, in_either, any_in, in_any, in_filter, from_filter, in_map, from_map, in_flat_map, from_flat_map, in_range, from_range}
use Rattle.fv_laws.proofs.Counts.{len_union}
use Rattle.fv_laws.proofs.Exact.{Found, count_exact}
use Rattle.fv_laws.proofs.Levels.{with_grows}
use Rattle.fv_laws.proofs.Stamps.{stamp_in, get-stamps_of}
use Rattle.fv_laws.proofs.Charges.{in_id, id_in}
use Rattle.fv_laws.proofs.Tests.{iff}

module _ (x : Volume) where
  abbrev pub S : Ids
  S = settled_ids x

  abbrev pub stamp_at : Place → Option ℕ
  stamp_at p = fin.get (stamps_of x.active) p

  -- the ids of a path that are settled
  abbrev pub kept : List Place → List Id
  kept path = filter (set.contains S) (flat_map (id_at x.active) path)

  abbrev pub St : List Place → Ids
  St path = set.from_list {R = id_cmp} (kept path)

  pub from_st : (path : List Place) (q : Id) → set.contains (St path) q ≡ true → In q.0 path × ((stamp_at q.0 ≡ Some q.1) × (set.contains S q ≡ true))
  from_st path q there =
      let one = from_filter (set.contains S) q (flat_map (id_at x.active) path) (any_in id_ties q (kept path) (sym (set.contains-from_list id_total (kept path) q) ∙ there)) in
      let place = from_flat_map (id_at x.active) q path one.0 in
      let id = in_id x.active place.0 q place.2 in
      (subst (λ (p : Place). In p path) id.0 place.1, (id.1, one.1))

  pub in_st : (path : List Place) (q : Id) → In q.0 path → stamp_at q.0 ≡ Some q.1 → set.contains S q ≡ true → set.contains (St path) q ≡ true
  in_st path q one stood settled = set.contains-from_list id_total (kept path) q
      ∙ in_any id_total q (kept path) (in_filter (set.contains S) q (flat_map (id_at x.active) path) (in_flat_map (id_at x.active) q.0 q path one (id_in x.active q stood)) settled)

  -- at a place with a settled id a stamp stands
  pub stood : (p : Place) → is_settled x p ≡ true → (s : ℕ) × ((stamp_at p ≡ Some s) × (set.contains S (p, s) ≡ true))
  stood p is = so (stamp_at p) refl is
    where
      so : (o : Option ℕ) → stamp_at p ≡ o → option_map_or (λ s. set.contains S (p, s)) o false ≡ true → (s : ℕ) × ((stamp_at p ≡ Some s) × (set.contains S (p, s) ≡ true))
      so None e is = absurd cc
      so (Some s) e is = (s, (e, is))

  module _ (path : List Place) (f : ℕ → Place) (count : ℕ) (apart : (v k : ℕ) → v < k → f k ≢ f v) (inside : (k : ℕ) → k < count → In (f k) path)
      (found : (p : Place) → In p path → is_settled x p ≡ true → (k : ℕ) × ((k < count) × (f k ≡ p))) where
    abbrev key : ℕ → Id
    key k = (f k, option_map_or (λ s. s) (stamp_at (f k)) 0)

    -- Where different places of the path are all that have settled ids, these are counted.
    pub staying_is : staying x path ≡ count_by (λ k. is_settled x (f k)) (range_with_len 0 count)
    unfolding staying
    staying_is = sym (count_exact id_total (λ k. is_settled x (f k)) key id_ties differ 0 count (St path) each all)
      where
        key_is : (k s : ℕ) → stamp_at (f k) ≡ Some s → key k ≡ (f k, s)
        key_is k s e = ap (λ (o : Option ℕ). (f k, option_map_or (λ s. s) o 0)) e

        differ : (v k : ℕ) → is_settled x (f v) ≡ true → is_settled x (f k) ≡ true → v < k → eq_by_cmp id_cmp (key k) (key v) ≡ false
        differ v k a b lt = false_from_ne_true _ (λ e. absurd (apart v k lt (ap (λ (q : Id). q.0) (id_ties (key k) (key v) ((Equal-is (id_cmp (key k) (key v))).0 e)))))

        each : (v : ℕ) → 0 ≤ v → v < 0 + count → is_settled x (f v) ≡ true → set.contains (St path) (key v) ≡ true
        each v low high is =
            let s = stood (f v) is in
            subst (λ (q : Id). set.contains (St path) q ≡ true) (sym (key_is v s.0 s.1.0)) (in_st path (f v, s.0) (inside v (omega (arith, high))) s.1.0 s.1.1)

        all : (q : Id) → set.contains (St path) q ≡ true → Found id_cmp (λ k. is_settled x (f k)) key 0 count q
        all q there =
            let one = from_st path q there in
            let is : is_settled x q.0 ≡ true = ap (λ (o : Option ℕ). option_map_or (λ s. set.contains S (q.0, s)) o false) one.1.0 ∙ one.1.1 in
            let k = found q.0 one.0 is in
            let low = k.1.0 in
            record {
              at = k.0;
              low = omega arith;
              high = omega (arith, low);
              passes = ap (is_settled x) k.1.1 ∙ is;
              same = ap (eq_by_cmp id_cmp q) (key_is k.0 q.1 (ap (λ (p : Place). stamp_at p) k.1.1 ∙ one.1.0) ∙ ap (λ (p : Place). (p, q.1)) k.1.1) ∙ (eq_by_cmp_equiv id_total).refl q;
            }

  -- Paths without a place of both are counted one after the other.
  pub staying_append : (p q : List Place) → ((d : Place) → In d p → In d q → ⊥) → staying x (p ++ q) ≡ staying x p + staying x q
  unfolding staying
  staying_append p q apart = ap set.len whole ∙ len_union id_total id_ties (St p) (St q) ∙ ap (λ (s : Ids). set.len (St p) + set.len s) rest
    where
      there : (k : Id) → set.contains (St (p ++ q)) k ≡ true → (set.contains (St p) k || set.contains (St q) k) ≡ true
      there k h =
          let one = from_st (p ++ q) k h in
          ⊎_elim
          (λ first. or_left (set.contains (St p) k) (set.contains (St q) k) (in_st p k first one.1.0 one.1.1))
          (λ second. or_right (set.contains (St p) k) (set.contains (St q) k) (in_st q k second one.1.0 one.1.1))
          (in_either k.0 p q one.0)

      back : (k : Id) → (set.contains (St p) k || set.contains (St q) k) ≡ true → set.contains (St (p ++ q)) k ≡ true
      back k h = ⊎_elim
          (λ (first : set.contains (St p) k ≡ true). let one = from_st p k first in in_st (p ++ q) k (in_left k.0 p q one.0) one.1.0 one.1.1)
          (λ second. let one = from_st q k second in in_st (p ++ q) k (in_right k.0 p q one.0) one.1.0 one.1.1)
          (or_cases (set.contains (St p) k) (set.contains (St q) k) h)

      whole : St (p ++ q) ≡ set.union (St p) (St q)
      whole = set.same_set id_total id_ties _ _ (λ k. iff _ _ (there k) (back k) ∙ sym (set.contains-union id_total (St p) (St q) k))

      only : (k : Id) (a b : Bool) → set.contains (St q) k ≡ a → set.contains (St p) k ≡ b → (a && not b) ≡ a
      only k false b e f = refl
      only k true false e f = refl
      only k true true e f = absurd (apart k.0 (from_st p k f).0 (from_st q k e).0)

      rest : set.difference (St q) (St p) ≡ St q
      rest = set.same_set id_total id_ties _ _ (λ k. set.contains-difference id_total (St q) (St p) k ∙ only k (set.contains (St q) k) (set.contains (St p) k) refl refl)

  -- ---- the places over a cell

  module _ (o : Owner) (t : Tree) (is : (p : Spot) → stamp_at (placed o p) ≡ fin.get t.stamps p) (within : (p : Spot) → is_some (fin.get t.stamps p) ≡ true → p.0 ≤ t.levels) where
    settled_low : (p : Spot) → is_settled x (placed o p) ≡ true → p.0 ≤ t.levels
    settled_low p e = let s = stood (placed o p) e in within p (ap is_some (sym (is p) ∙ s.1.0))

    over : (i k levels : ℕ) → k ≤ levels → In (k, i / fan ^ k) (spots_over levels i)
    unfolding spots_over
    over i k levels low = in_map (λ k. (k, i / fan ^ k)) k (range_with_len 0 (levels + 1)) (in_range 0 (levels + 1) k (omega arith) (omega (arith, low)))

    from_over : (i levels : ℕ) (p : Spot) → In p (spots_over levels i) → (p.0, i / fan ^ p.0) ≡ p
    unfolding spots_over
    from_over i levels p one = let k = from_map (λ k. (k, i / fan ^ k)) p (range_with_len 0 (levels + 1)) one in ap (λ (q : Spot). (q.0, i / fan ^ q.0)) (sym k.2) ∙ k.2

    no_grown : (any : Bool) (after : ℕ) (p : Spot) → In p (spots_grown any t.levels after) → p.0 ≤ t.levels → ⊥
    unfolding spots_grown
    no_grown false after p one low = absurd one
    no_grown true after p one low =
        let k = from_map (λ k. (k, 0)) p (range_with_len (t.levels + 1) (after - t.levels)) one in
        let bounds = from_range (t.levels + 1) (after - t.levels) k.0 k.1 in
        let least = bounds.0 in
        let level : k.0 ≡ p.0 = ap (λ (q : Spot). q.0) k.2 in
        absurd (omega (arith, least, level, low))

    apart : (i v k : ℕ) → v < k → placed o (k, i / fan ^ k) ≢ placed o (v, i / fan ^ v)
    apart i v k lt = (λ e. absurd (let level : k ≡ v = ap (λ (p : Place). p.level) e in omega (arith, lt, level)))

    -- of a write, whatever levels it makes
    pub written_staying : (i : ℕ) → staying x (map (placed o) (written_spots t i)) ≡ settled_over x o t.levels i
    written_staying i = staying_is (map (placed o) (written_spots t i)) (λ k. placed o (k, i / fan ^ k)) (t.levels + 1) (apart i)
        (λ k lt. in_map (placed o) (k, i / fan ^ k) (written_spots t i) (in_left (k, i / fan ^ k) (spots_over (levels_with t.levels i) i) grown (over i k (levels_with t.levels i) (let grows = with_grows t.levels i in omega (arith, lt, grows)))))
        found
      where
        grown : List Spot
        grown = spots_grown (nat_lt 0 (fin.len t.stamps)) t.levels (levels_with t.levels i)

        found : (p : Place) → In p (map (placed o) (written_spots t i)) → is_settled x p ≡ true → (k : ℕ) × ((k < t.levels + 1) × (placed o (k, i / fan ^ k) ≡ p))
        found p one settled =
            let spot = from_map (placed o) p (written_spots t i) one in
            let low = settled_low spot.0 (ap (is_settled x) spot.2 ∙ settled) in
            ⊎_elim
            (λ path. (spot.0.0, (omega (arith, low), ap (placed o) (from_over i (levels_with t.levels i) spot.0 path) ∙ spot.2)))
            (λ more. absurd (no_grown (nat_lt 0 (fin.len t.stamps)) (levels_with t.levels i) spot.0 more low))
            (in_either spot.0 (spots_over (levels_with t.levels i) i) grown spot.1)

    -- of a removal of a cell
    pub over_staying : (i : ℕ) → staying x (map (placed o) (spots_over t.levels i)) ≡ settled_over x o t.levels i
    over_staying i = staying_is (map (placed o) (spots_over t.levels i)) (λ k. placed o (k, i / fan ^ k)) (t.levels + 1) (apart i)
        (λ k lt. in_map (placed o) (k, i / fan ^ k) (spots_over t.levels i) (over i k t.levels (omega (arith, lt))))
        (λ p one settled.
        let spot = from_map (placed o) p (spots_over t.levels i) one in
        let low = settled_low spot.0 (ap (is_settled x) spot.2 ∙ settled) in
        (spot.0.0, (omega (arith, low), ap (placed o) (from_over i t.levels spot.0 spot.1) ∙ spot.2)))

  -- ---- the changes of a table

  pub tree_within : (now start : ℕ) (cells : List ℕ) (t : Tree) → IsTree now start cells t → (p : Spot) → is_some (fin.get t.stamps p) ≡ true → p.0 ≤ t.levels
  tree_within now start cells t well p some = let test = (and_parts (nat_le p.0 t.levels) (holds_one cells p) (sym (well.exact p) ∙ some)).0 in grind (arith, nat_tests, test)

  module _ (now : ℕ) (well : IsWellTable now x.active) where
    pub inode_staying : (i : ℕ) → staying x (map (placed InodeFile) (written_spots x.active.inode i)) ≡ settled_over x InodeFile x.active.inode.levels i
    inode_staying i = written_staying InodeFile x.active.inode (λ p. get-stamps_of x.active InodeFile p)
        (tree_within now 0 (map inode_cell (fin.keys x.active.files)) x.active.inode well.inode) i

    file_staying : (n : ℕ) (f : File) → fin.get x.active.files n ≡ Some f → (i : ℕ) → staying x (map (placed (OfFile n)) (written_spots f.tree i)) ≡ settled_over x (OfFile n) f.tree.levels i
    file_staying n f there i = written_staying (OfFile n) f.tree (λ p. get-stamps_of x.active (OfFile n) p ∙ ap (stamp_in p) there) (tree_within now _ _ f.tree (well.files n f there).tree) i

    pub not_both : (n : ℕ) (p q : List Spot) (d : Place) → In d (map (placed (OfFile n)) p) → In d (map (placed InodeFile) q) → ⊥
    not_both n p q d one two =
        let a = from_map (placed (OfFile n)) d p one in
        let b = from_map (placed InodeFile) d q two in
        absurd (wrong (ap (λ (d : Place). d.owner) (b.2 ∙ sym a.2)))
      where
        wrong : InodeFile ≡ OfFile n → ⊥
        wrong e = cc

    -- A `put` replaces what is settled over its cell, and over its file's cell of the inode file;
    pub put_staying : (n : ℕ) (f : File) (i : ℕ) → fin.get x.active.files n ≡ Some f → staying x (put_path x.active n f i) ≡ settled_over x (OfFile n) f.tree.levels i + settled_over x InodeFile x.active.inode.levels (inode_cell n)
    put_staying n f i there = staying_append (map (placed (OfFile n)) (written_spots f.tree i)) (inode_path x.active n) (not_both n (written_spots f.tree i) (written_spots x.active.inode (inode_cell n)))
        ∙ (λ j. file_staying n f there i j + inode_staying (inode_cell n) j)

    -- a `new` what is over its cell of the inode file.
    pub new_staying : staying x (new_path x.active) ≡ settled_over x InodeFile x.active.inode.levels (inode_cell (free_number x.active))
    new_staying = inode_staying (inode_cell (free_number x.active))
