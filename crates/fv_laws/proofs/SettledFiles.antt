-- What of a whole file stays charged, or wasn't charged, is counted level by level.
use Rattle.std.proofs.Common.{◌≡◌, ℕ, zero, suc, ◌+◌, ◌-◌, ◌*◌, ◌/◌, ◌^◌, ◌<◌, ◌≤◌, true, false, List, map, flat_map, Option, Some, is_some, sym, ap, ap₂, subst, ◌∙◌, arith}
use Rattle.std.specs.Prelude.{nat_le, count_by, sum_by}
use Rattle.std.specs.List.{range_with_len}
use Rattle.std.specs.Option.{option_map_or}
use Rattle.std.specs.FinMap as fin
use Rattle.std.specs.FinSet as set
use Rattle.std.proofs.Math.Nat.{div-lt_iff_lt-mul, mul_assoc, one-le-pow, pow-suc}
use Rattle.std.proofs.lemmas.Bool.{and_parts}
use Rattle.std.proofs.lemmas.Bool.Decides.{nat_tests}
use Rattle.std.proofs.lemmas.List.Sums.{sum_by-cons}
use Rattle.fv_model.specs.Trees.{fan, Spot, Tree, spots_over, holds_one}
use Rattle.fv_model.specs.Tables.{File, inode_cell}
use Rattle.fv_model.specs.Places.{Owner, InodeFile, OfFile, placed, Place, Id, id_cmp}
use Rattle.fv_model.specs.Volumes.{Volume}
use Rattle.fv_laws.specs.WellFormed.{IsTree, IsWellTable}
use Rattle.fv_laws.specs.Positions.{rm_places, staying}
use Rattle.fv_laws.specs.Paths.{rm_path}
use Rattle.fv_laws.specs.Settled.{is_settled, settled_all, settled_over}
use Rattle.fv_laws.proofs.Orders.{id_total, id_ties, spot_total, spot_ties}
use Rattle.fv_laws.proofs.Lists.{In, any_in, in_any, in_map, from_map, in_flat_map, from_flat_map, in_range, from_range}
use Rattle.fv_laws.proofs.Levels.{all_in, from_holds}
use Rattle.fv_laws.proofs.Stamps.{stamp_in, get-stamps_of}
use Rattle.fv_laws.proofs.Settled.{S, St, stamp_at, from_st, in_st, stood, staying_is, staying_append, over_staying, not_both, tree_within}
use Rattle.fv_laws.proofs.Tests.{iff}

widths : (a k : ℕ) → fan ^ (a + k) ≡ fan ^ a * fan ^ k
widths a zero = let none : a + 0 ≡ a = omega arith in ap (λ n. fan ^ n) none ∙ (let one : fan ^ a ≡ fan ^ a * 1 = omega arith in one)
widths a (suc k) =
    let up : a + suc k ≡ suc (a + k) = omega arith in
    ap (λ n. fan ^ n) up ∙ pow-suc fan (a + k) ∙ ap (λ n. n * fan) (widths a k) ∙ mul_assoc (fan ^ a) (fan ^ k) fan ∙ ap (λ n. fan ^ a * n) (sym (pow-suc fan k))

pub below : (i levels k : ℕ) → k ≤ levels → i < fan ^ levels → i / fan ^ k < fan ^ (levels - k)
below i levels k le lt =
    let up : levels - k + k ≡ levels = omega (arith, le) in
    let wide : fan ^ levels ≡ fan ^ (levels - k) * fan ^ k = sym (ap (λ n. fan ^ n) up) ∙ widths (levels - k) k in
    (div-lt_iff_lt-mul {k = fan ^ k} (one-le-pow k fan (omega arith))).1 (omega (arith, lt, wide))

module _ (x : Volume) where
  settled_id : (k : Id) → stamp_at x k.0 ≡ Some k.1 → set.contains (S x) k ≡ true → is_settled x k.0 ≡ true
  settled_id k at there = ap (λ (o : Option ℕ). option_map_or (λ s. set.contains (S x) (k.0, s)) o false) at ∙ there

  same_ids : (p q : List Place) → ((d : Place) → In d p → is_settled x d ≡ true → In d q) → (k : Id) → set.contains (St x p) k ≡ true → set.contains (St x q) k ≡ true
  same_ids p q there k h = let one = from_st x p k h in in_st x q k (there k.0 one.0 (settled_id k one.1.0 one.1.1)) one.1.0 one.1.1

  -- Paths with the same settled places have as many.
  staying_same : (p q : List Place) → ((d : Place) → In d p → is_settled x d ≡ true → In d q) → ((d : Place) → In d q → is_settled x d ≡ true → In d p) → staying x p ≡ staying x q
  unfolding staying
  staying_same p q there back = ap set.len (set.same_set id_total id_ties (St x p) (St x q) (λ k. iff _ _ (same_ids p q there k) (same_ids q p back k)))

  module _ (o : Owner) (levels : ℕ) where
    abbrev at : ℕ → ℕ → Place
    at k p = placed o (k, p)

    -- the places of a level
    abbrev level_path : ℕ → List Place
    level_path k = map (at k) (range_with_len 0 (fan ^ (levels - k)))

    level_is : (k : ℕ) (d : Place) → In d (level_path k) → d.level ≡ k
    level_is k d one = let p = from_map (at k) d (range_with_len 0 (fan ^ (levels - k))) one in sym (ap (λ (d : Place). d.level) p.2)

    in_level : (k p : ℕ) → p < fan ^ (levels - k) → In (at k p) (level_path k)
    in_level k p lt = in_map (at k) p (range_with_len 0 (fan ^ (levels - k))) (in_range 0 (fan ^ (levels - k)) p (omega arith) (omega (arith, lt)))

    level_staying : (k : ℕ) → staying x (level_path k) ≡ count_by (λ p. is_settled x (at k p)) (range_with_len 0 (fan ^ (levels - k)))
    level_staying k = staying_is x (level_path k) (at k) (fan ^ (levels - k))
        (λ v p lt same. absurd (let e : p ≡ v = ap (λ (d : Place). d.index) same in omega (arith, lt, e)))
        (in_level k)
        found
      where
        found : (d : Place) → In d (level_path k) → is_settled x d ≡ true → (p : ℕ) × ((p < fan ^ (levels - k)) × (at k p ≡ d))
        found d one settled =
            let p = from_map (at k) d (range_with_len 0 (fan ^ (levels - k))) one in
            let high = (from_range 0 (fan ^ (levels - k)) p.0 p.1).1 in
            (p.0, (omega (arith, high), p.2))

    abbrev all_path : ℕ → ℕ → List Place
    all_path a count = flat_map level_path (range_with_len a count)

    all_staying : (a count : ℕ) → staying x (all_path a count) ≡ sum_by (λ k. count_by (λ p. is_settled x (at k p)) (range_with_len 0 (fan ^ (levels - k)))) (range_with_len a count)
    unfolding staying
    all_staying a zero = set.len-empty id_cmp
    all_staying a (suc count) = staying_append x (level_path a) (all_path (a + 1) count) apart ∙ ap₂ (λ m n. m + n) (level_staying a) (all_staying (a + 1) count)
        ∙ sym (sum_by-cons (λ k. count_by (λ p. is_settled x (at k p)) (range_with_len 0 (fan ^ (levels - k)))) a (range_with_len (a + 1) count))
      where
        apart : (d : Place) → In d (level_path a) → In d (all_path (a + 1) count) → ⊥
        apart d one two =
            let k = from_flat_map level_path d (range_with_len (a + 1) count) two in
            let low = (from_range (a + 1) count k.0 k.1).0 in
            let first = level_is a d one in
            let second = level_is k.0 d k.2 in
            absurd (omega (arith, low, first, second))

  -- ---- all places of a tree

  module _ (o : Owner) (t : Tree) (is : (p : Spot) → stamp_at x (placed o p) ≡ fin.get t.stamps p) (now start : ℕ) (cells : List ℕ) (well : IsTree now start cells t) where
    inside : (p : Spot) → is_some (fin.get t.stamps p) ≡ true → (p.0 ≤ t.levels) × (p.1 < fan ^ (t.levels - p.0))
    inside p some =
        let tests = and_parts (nat_le p.0 t.levels) (holds_one cells p) (sym (well.exact p) ∙ some) in
        let low : p.0 ≤ t.levels = grind (arith, nat_tests, tests.0) in
        let cell = from_holds cells p tests.1 in
        let small = below cell.0 t.levels p.0 low (all_in (λ i. i < fan ^ t.levels) cells well.covers cell.0 cell.1) in
        let place = cell.2 in
        (low, omega (arith, small, place))

    in_keys : (p : Spot) → is_some (fin.get t.stamps p) ≡ true → In p (fin.keys t.stamps)
    in_keys p some = any_in spot_ties p (fin.keys t.stamps) (sym (fin.contains_key-keys t.stamps p) ∙ some)

    keys_there : (p : Spot) → In p (fin.keys t.stamps) → is_some (fin.get t.stamps p) ≡ true
    keys_there p one = fin.contains_key-keys t.stamps p ∙ in_any spot_total p (fin.keys t.stamps) one

    out : (d : Place) → In d (map (placed o) (fin.keys t.stamps)) → is_settled x d ≡ true → In d (all_path o t.levels 0 (t.levels + 1))
    out d one settled =
        let p = from_map (placed o) d (fin.keys t.stamps) one in
        let there = inside p.0 (keys_there p.0 p.1) in
        let low = there.0 in
        subst (λ (d : Place). In d (all_path o t.levels 0 (t.levels + 1))) p.2
        (in_flat_map (level_path o t.levels) p.0.0 (placed o p.0) (range_with_len 0 (t.levels + 1)) (in_range 0 (t.levels + 1) p.0.0 (omega arith) (omega (arith, low))) (in_level o t.levels p.0.0 p.0.1 there.1))

    back : (d : Place) → In d (all_path o t.levels 0 (t.levels + 1)) → is_settled x d ≡ true → In d (map (placed o) (fin.keys t.stamps))
    back d one settled =
        let k = from_flat_map (level_path o t.levels) d (range_with_len 0 (t.levels + 1)) one in
        let p = from_map (λ p. placed o (k.0, p)) d (range_with_len 0 (fan ^ (t.levels - k.0))) k.2 in
        let s = stood x d settled in
        let some : is_some (fin.get t.stamps (k.0, p.0)) ≡ true = ap is_some (sym (is (k.0, p.0)) ∙ ap (λ (d : Place). stamp_at x d) p.2 ∙ s.1.0) in
        subst (λ (d : Place). In d (map (placed o) (fin.keys t.stamps))) p.2 (in_map (placed o) (k.0, p.0) (fin.keys t.stamps) (in_keys (k.0, p.0) some))

    pub tree_staying : staying x (map (placed o) (fin.keys t.stamps)) ≡ settled_all x o t.levels
    tree_staying = staying_same (map (placed o) (fin.keys t.stamps)) (all_path o t.levels 0 (t.levels + 1)) out back ∙ all_staying o t.levels 0 (t.levels + 1)

  -- The removal of a file lets go what is settled of all its places, and replaces what is over its cell of the inode file.
  pub rm_staying : (now : ℕ) → IsWellTable now x.active → (n : ℕ) (f : File) → fin.get x.active.files n ≡ Some f
      → staying x (rm_places x.active n f) ≡ settled_all x (OfFile n) f.tree.levels + settled_over x InodeFile x.active.inode.levels (inode_cell n)
  rm_staying now well n f there =
      staying_append x (map (placed (OfFile n)) (fin.keys f.tree.stamps)) (rm_path x.active n) (not_both x now well n (fin.keys f.tree.stamps) (spots_over x.active.inode.levels (inode_cell n)))
      ∙ ap₂ (λ a b. a + b)
      (tree_staying (OfFile n) f.tree (λ p. get-stamps_of x.active (OfFile n) p ∙ ap (stamp_in p) there) now _ _ (well.files n f there).tree)
      (over_staying x InodeFile x.active.inode (λ p. get-stamps_of x.active InodeFile p) (tree_within x now 0 (map inode_cell (fin.keys x.active.files)) x.active.inode well.inode) (inode_cell n))
