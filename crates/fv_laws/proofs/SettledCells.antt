-- What of the places over cells that go stays charged, or wasn't charged, is counted level by level; and so is how many of them go.
use Rattle.std.proofs.Common.{◌≡◌, ℕ, ◌+◌, ◌-◌, ◌^◌, ◌<◌, Bool, true, false, not, ◌&&◌, nat_le, List, [], ◌∷◌, inl, inr, map, filter, flat_map, Option, Some, None, is_some, refl, sym, ap, ap₂, subst, ◌∙◌, arith}
use Rattle.std.specs.Option.{option_map_or}
use Rattle.std.specs.FinMap as fin
use Rattle.std.specs.FinSet as set
use Rattle.std.proofs.lemmas.Bool.{and_parts, and_from}
use Rattle.fv_model.specs.Trees.{fan, Spot, spot_cmp, Tree, spots_over, written_spots, holds_one, least_levels, erased}
use Rattle.fv_model.specs.Tables.{File, Table, inode_cell}
use Rattle.fv_model.specs.Places.{Owner, InodeFile, OfFile, placed, Place, Id}
use Rattle.fv_model.specs.Volumes.{Volume}
use Rattle.fv_laws.specs.WellFormed.{IsTree, IsWellTable}
use Rattle.fv_laws.specs.Positions.{cells_cut, cells_left, staying, taken_by, taken_by_cut, taken_by_rm, taken_over}
use Rattle.fv_laws.specs.Paths.{cut_path, inode_path}
use Rattle.fv_laws.specs.Settled.{is_settled, settled_over, settled_with}
use Rattle.fv_laws.proofs.Orders.{id_total, id_ties, spot_total, spot_ties}
use Rattle.fv_laws.proofs.Lists.{In, any_in, in_any, in_map, from_map, in_filter, from_filter, in_flat_map, from_flat_map}
use Rattle.fv_laws.proofs.Removals.{erased_len}
use Rattle.fv_laws.proofs.Tables.{there_key}
use Rattle.fv_laws.proofs.Trees.{erased_tree}
use Rattle.fv_laws.proofs.Levels.{all_in, from_holds, holds, over, is_over}
use Rattle.fv_laws.proofs.ExactLevels.{levels_exact}
use Rattle.fv_laws.proofs.Settled.{S, St, stamp_at, from_st, in_st, stood, staying_append, inode_staying, not_both}
use Rattle.fv_laws.proofs.SettledFiles.{below}

-- ---- how many go

module _ (t : Tree) (gone left : List ℕ) (within : (i : ℕ) → In i gone → i < fan ^ t.levels) where
  abbrev lost : List Spot
  lost = filter (λ p. not (holds_one left p)) (flat_map (spots_over t.levels) gone)

  abbrev goes : ℕ → ℕ → Bool
  goes k p = holds_one gone (k, p) && not (holds_one left (k, p))

  -- Of the places of which a removal takes the cells: those over cells that go, and over none that is left.
  pub taken_levels : taken_by t gone left ≡ taken_over t.levels gone left
  unfolding taken_by
  taken_levels = levels_exact spot_total spot_ties goes (λ k. fan ^ (t.levels - k)) (λ k p. (k, p)) (λ k p l q e. ap (λ (s : Spot). s.0) e) (λ k p q e. ap (λ (s : Spot). s.1) e)
      0 (t.levels + 1) (set.from_list {R = spot_cmp} lost)
      (λ k p low high lt is.
      let both = and_parts (holds_one gone (k, p)) (not (holds_one left (k, p))) is in
      let cell = from_holds gone (k, p) both.0 in
      set.contains-from_list spot_total lost (k, p)
      ∙ in_any spot_total (k, p) lost (in_filter (λ p. not (holds_one left p)) (k, p) (flat_map (spots_over t.levels) gone)
      (in_flat_map (spots_over t.levels) cell.0 (k, p) gone cell.1 (is_over t.levels cell.0 (k, p) (omega (arith, high)) cell.2)) both.1))
      (λ s there.
      let one = from_filter (λ p. not (holds_one left p)) s (flat_map (spots_over t.levels) gone) (any_in spot_ties s lost (sym (set.contains-from_list spot_total lost s) ∙ there)) in
      let cell = from_flat_map (spots_over t.levels) s gone one.0 in
      let at = over t.levels cell.0 s cell.2 in
      let low = at.0 in
      let small = below cell.0 t.levels s.0 low (within cell.0 cell.1) in
      let place = at.1 in
      record { level = s.0; place = s.1; low = omega arith; high = omega (arith, low); within = omega (arith, small, place); passes = and_from (holds_one gone s) (not (holds_one left s)) (holds gone s cell.0 cell.1 at.1) one.1; same = refl })

-- ---- how many stay charged

module _ (x : Volume) (o : Owner) (t : Tree) (gone : List ℕ) (within : (i : ℕ) → In i gone → i < fan ^ t.levels) where
  abbrev path : List Place
  path = map (placed o) (flat_map (spots_over t.levels) gone)

  abbrev test : ℕ → ℕ → Bool
  test k p = holds_one gone (k, p) && is_settled x (placed o (k, p))

  abbrev id : ℕ → ℕ → Id
  id k p = (placed o (k, p), option_map_or (λ s. s) (stamp_at x (placed o (k, p))) 0)

  id_is : (k p s : ℕ) → stamp_at x (placed o (k, p)) ≡ Some s → id k p ≡ (placed o (k, p), s)
  id_is k p s e = ap (λ (stamp : Option ℕ). (placed o (k, p), option_map_or (λ s. s) stamp 0)) e

  pub cells_staying : staying x path ≡ settled_with x o t.levels gone
  unfolding staying
  cells_staying = levels_exact id_total id_ties test (λ k. fan ^ (t.levels - k)) id (λ k p l q e. ap (λ (i : Id). i.0.level) e) (λ k p q e. ap (λ (i : Id). i.0.index) e)
      0 (t.levels + 1) (St x path)
      (λ k p low high lt is.
      let both = and_parts (holds_one gone (k, p)) (is_settled x (placed o (k, p))) is in
      let cell = from_holds gone (k, p) both.0 in
      let s = stood x (placed o (k, p)) both.1 in
      subst (λ (i : Id). set.contains (St x path) i ≡ true) (sym (id_is k p s.0 s.1.0))
      (in_st x path (placed o (k, p), s.0) (in_map (placed o) (k, p) (flat_map (spots_over t.levels) gone) (in_flat_map (spots_over t.levels) cell.0 (k, p) gone cell.1 (is_over t.levels cell.0 (k, p) (omega (arith, high)) cell.2))) s.1.0 s.1.1))
      (λ q there.
      let one = from_st x path q there in
      let spot = from_map (placed o) q.0 (flat_map (spots_over t.levels) gone) one.0 in
      let cell = from_flat_map (spots_over t.levels) spot.0 gone spot.1 in
      let at = over t.levels cell.0 spot.0 cell.2 in
      let low = at.0 in
      let small = below cell.0 t.levels spot.0.0 low (within cell.0 cell.1) in
      let place = at.1 in
      let stamp : stamp_at x (placed o spot.0) ≡ Some q.1 = ap (stamp_at x) spot.2 ∙ one.1.0 in
      record {
        level = spot.0.0;
        place = spot.0.1;
        low = omega arith;
        high = omega (arith, low);
        within = omega (arith, small, place);
        passes = and_from (holds_one gone spot.0) (is_settled x (placed o spot.0)) (holds gone spot.0 cell.0 cell.1 at.1)
            (ap (λ (stamp : Option ℕ). option_map_or (λ s. set.contains (S x) (placed o spot.0, s)) stamp false) stamp ∙ ap (λ (p : Place). set.contains (S x) (p, q.1)) spot.2 ∙ one.1.1);
        same = id_is spot.0.0 spot.0.1 q.1 stamp ∙ ap (λ (p : Place). (p, q.1)) spot.2;
      })

-- ---- a cut

module _ (t : Table) (now : ℕ) (well : IsWellTable now t) (n : ℕ) (f : File) (there : fin.get t.files n ≡ Some f) (length : ℕ) where
  -- the cells that go lie in the range of the levels
  pub cut_within : (i : ℕ) → In i (cells_cut f length) → i < fan ^ f.tree.levels
  cut_within i one = all_in (λ i. i < fan ^ f.tree.levels) (fin.keys f.blocks) (well.files n f there).tree.covers i (from_filter (λ i. nat_le length i) i (fin.keys f.blocks) one).0

  -- how many places it takes
  pub cut_levels : taken_by_cut f length ≡ taken_over f.tree.levels (cells_cut f length) (cells_left f length)
  cut_levels = taken_levels f.tree (cells_cut f length) (cells_left f length) cut_within

-- A cut lets go or replaces what is settled over the cells that go, and replaces what is over its file's cell of the inode file.
pub cut_staying : (x : Volume) (now : ℕ) → IsWellTable now x.active → (n : ℕ) (f : File) → fin.get x.active.files n ≡ Some f → (length : ℕ)
    → staying x (cut_path x.active n f length) ≡ settled_with x (OfFile n) f.tree.levels (cells_cut f length) + settled_over x InodeFile x.active.inode.levels (inode_cell n)
cut_staying x now well n f there length =
    staying_append x (map (placed (OfFile n)) (flat_map (spots_over f.tree.levels) (cells_cut f length))) (inode_path x.active n) (not_both x now well n (flat_map (spots_over f.tree.levels) (cells_cut f length)) (written_spots x.active.inode (inode_cell n)))
    ∙ ap₂ (λ a b. a + b) (cells_staying x (OfFile n) f.tree (cells_cut f length) (cut_within x.active now well n f there length)) (inode_staying x now well (inode_cell n))

-- ---- a removal

-- A tree of which no cell is left loses all of its places.
module _ (now start : ℕ) (cells : List ℕ) (t : Tree) (is : IsTree now start cells t) where
  abbrev after : Tree
  after = erased now start cells [] t

  none_left : fin.len after.stamps ≡ 0
  none_left =
      let tree : IsTree now start [] after = erased_tree now start cells [] cells t now is (λ j h. absurd h) (omega arith) in
      ap fin.len (fin.same_map spot_total spot_ties after.stamps fin.empty (λ p. absent (fin.get after.stamps p) (tree.exact p ∙ and_false (nat_le p.0 after.levels)) ∙ sym (fin.get-empty spot_cmp p)))
      ∙ fin.len-empty spot_cmp ℕ
    where
      and_false : (a : Bool) → (a && false) ≡ false
      and_false true = refl
      and_false false = refl

      absent : (o : Option ℕ) → is_some o ≡ false → o ≡ None
      absent None e = refl
      absent (Some u) e = absurd cc

  pub all_taken : taken_by t cells [] ≡ fin.len t.stamps
  all_taken = let sum = erased_len now start cells [] cells t now is (λ j h. absurd h) (λ j h. h) (λ j h. inr h) (omega arith) in let none = none_left in omega (arith, sum, none)

module _ (t : Table) (now : ℕ) (well : IsWellTable now t) (n : ℕ) (f : File) (there : fin.get t.files n ≡ Some f) where
  cell_within : (i : ℕ) → In i (inode_cell n ∷ []) → i < fan ^ t.inode.levels
  cell_within i (inl same) = subst (λ c. c < fan ^ t.inode.levels) same (all_in (λ i. i < fan ^ t.inode.levels) (map inode_cell (fin.keys t.files)) well.inode.covers (inode_cell n) (in_map inode_cell n (fin.keys t.files) (there_key t.files n (ap is_some there))))
  cell_within i (inr h) = absurd h

  file_within : (i : ℕ) → In i (fin.keys f.blocks) → i < fan ^ f.tree.levels
  file_within i one = all_in (λ i. i < fan ^ f.tree.levels) (fin.keys f.blocks) (well.files n f there).tree.covers i one

  -- The removal of a file takes all of its places, and those of the inode file that no other file needs.
  pub rm_levels : taken_by_rm t n f ≡ taken_over f.tree.levels (fin.keys f.blocks) [] + taken_over t.inode.levels (inode_cell n ∷ []) (map inode_cell (fin.keys (fin.remove t.files n)))
  rm_levels = ap₂ (λ a b. a + b)
      (sym (all_taken now (least_levels f.reserve) (fin.keys f.blocks) f.tree (well.files n f there).tree) ∙ taken_levels f.tree (fin.keys f.blocks) [] file_within)
      (taken_levels t.inode (inode_cell n ∷ []) (map inode_cell (fin.keys (fin.remove t.files n))) cell_within)
