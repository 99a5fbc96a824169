-- Each change of a table goes along its path: the places of the path get its stamp or go, and all others stay.
use Rattle.std.proofs.Common.{◌⊎◌, ◌≡◌, ◌≢◌, ℕ, ◌≤◌, Bool, true, false, cond, ◌&&◌, ◌||◌, nat_le, List, [], ◌∷◌, ◌++◌, map, filter, flat_map, Option, Some, None, is_some, inl, inr, ⊎_elim, refl, sym, ap, subst, ◌∙◌, arith}
use Rattle.std.specs.List.{list_any}
use Rattle.std.specs.Option.{option_and_then}
use Rattle.std.specs.Ordering.{nat_cmp, eq_by_cmp, is_eq}
use Rattle.std.specs.Cmp.{Equal-is, tied_itself, nat_cmp_total}
use Rattle.std.specs.FinMap as fin
use Rattle.std.proofs.lemmas.Bool.Decides.{nat_tests}
use Rattle.std.proofs.lemmas.List.{append-nil}
use Rattle.fv_model.specs.Trees.{Spot, spot_cmp, Tree, least_levels, spots_over, written, written_spots, erased, holds_one}
use Rattle.fv_model.specs.Tables.{File, Table, inode_cell, free_number, file_put, file_cut, new, put, cut, rm}
use Rattle.fv_model.specs.Places.{Owner, InodeFile, OfFile, rank, place_cmp, placed}
use Rattle.fv_laws.specs.WellFormed.{IsTree, IsWellTable}
use Rattle.fv_laws.specs.Paths.{new_path, put_path, cut_path}
use Rattle.fv_laws.specs.Positions.{IsAlong, cells_cut, cells_left, rm_places}
use Rattle.fv_laws.proofs.Orders.{spot_total, spot_ties}
use Rattle.fv_laws.proofs.Lists.{In, any_in, in_any, in_filter, in_flat_map}
use Rattle.fv_laws.proofs.Levels.{from_holds, holds, is_over}
use Rattle.fv_laws.proofs.Tables.{free_is_free}
use Rattle.fv_laws.proofs.Stamps.{stands, get-stamps_of, get-stamp_spots, any_append, any_there, any_elsewhere}
use Rattle.fv_laws.proofs.Moves.{all_cut, all_rm}

-- ---- trees

-- a change of a tree along these spots
record TreeAlong (s : ℕ) (spots : List Spot) (before after : Spot → Option ℕ) : Type 0 where
  on : (p : Spot) (u : ℕ) → list_any (eq_by_cmp spot_cmp p) spots ≡ true → after p ≡ Some u → u ≡ s
  off : (p : Spot) → list_any (eq_by_cmp spot_cmp p) spots ≡ false → after p ≡ before p

written_along : (s i : ℕ) (t : Tree) → TreeAlong s (written_spots t i) (fin.get t.stamps) (fin.get (written s i t).stamps)
unfolding written
written_along s i t = record {
  on = λ p u h e. some_is (sym (ap (λ b. cond b (Some s) (fin.get t.stamps p)) h) ∙ sym (get-stamp_spots s (written_spots t i) t.stamps p) ∙ e);
  off = λ p h. get-stamp_spots s (written_spots t i) t.stamps p ∙ ap (λ b. cond b (Some s) (fin.get t.stamps p)) h;
}
  where
    some_is : {u : ℕ} → Some s ≡ Some u → u ≡ s
    some_is e = cc

module _ (now start : ℕ) (cells left gone : List ℕ) (t : Tree) (s : ℕ) (is : IsTree now start cells t) (all : (j : ℕ) → In j cells → In j left ⊎ In j gone) where
  abbrev way : List Spot
  way = flat_map (spots_over t.levels) gone

  abbrev marks : List Spot
  marks = filter (holds_one left) way

  got : (p : Spot) → fin.get (erased s start gone left t).stamps p ≡ cond (list_any (eq_by_cmp spot_cmp p) marks) (Some s) (cond (holds_one left p) (fin.get t.stamps p) None)
  unfolding erased
  got p = get-stamp_spots s marks (fin.retain_keys t.stamps (holds_one left)) p ∙ ap (cond (list_any (eq_by_cmp spot_cmp p) marks) (Some s)) (fin.get-retain_keys t.stamps (holds_one left) p (λ q e. ap (holds_one left) (sym (spot_ties p q e))))

  marked : (p : Spot) → list_any (eq_by_cmp spot_cmp p) way ≡ true → holds_one left p ≡ true → list_any (eq_by_cmp spot_cmp p) marks ≡ true
  marked p h held = in_any spot_total p marks (in_filter (holds_one left) p way (any_in spot_ties p way h) held)

  unmarked : (p : Spot) → list_any (eq_by_cmp spot_cmp p) way ≡ false → (b : Bool) → list_any (eq_by_cmp spot_cmp p) marks ≡ b → b ≡ false
  unmarked p h false e = refl
  unmarked p h true e = sym (in_any spot_total p way (inside p way (any_in spot_ties p marks e))) ∙ h
    where
      inside : (p : Spot) (xs : List Spot) → In p (filter (holds_one left) xs) → In p xs
      inside p [] h = h
      inside p (x ∷ xs) h = so (holds_one left x) (inside p xs) h
        where
          so : (b : Bool) → (In p (filter (holds_one left) xs) → In p xs) → In p (cond b (x ∷ filter (holds_one left) xs) (filter (holds_one left) xs)) → (x ≡ p) ⊎ In p xs
          so true rest (inl e) = inl e
          so true rest (inr h) = inr (rest h)
          so false rest h = inr (rest h)

  -- a spot off the paths over cells that go stands with a cell that is left, or doesn't stand
  none_off : (p : Spot) → list_any (eq_by_cmp spot_cmp p) way ≡ false → holds_one left p ≡ false → fin.get t.stamps p ≡ None
  none_off p off none = so (fin.get t.stamps p) refl
    where
      so : (o : Option ℕ) → fin.get t.stamps p ≡ o → o ≡ None
      so None e = refl
      so (Some u) e =
          let stood : (nat_le p.0 t.levels && holds_one cells p) ≡ true = sym (is.exact p) ∙ ap is_some e in
          let two = parts (nat_le p.0 t.levels) (holds_one cells p) stood in
          let low : p.0 ≤ t.levels = (let test : nat_le p.0 t.levels ≡ true = two.0 in grind (arith, nat_tests, test)) in
          let cell = from_holds cells p two.1 in ⊎_elim
          (λ stays. absurd (differ (sym none ∙ holds left p cell.0 stays cell.2)))
          (λ goes. absurd (differ (sym off ∙ in_any spot_total p way (in_flat_map (spots_over t.levels) cell.0 p gone goes (is_over t.levels cell.0 p low cell.2)))))
          (all cell.0 cell.1)
        where
          parts : (a b : Bool) → (a && b) ≡ true → (a ≡ true) × (b ≡ true)
          parts true b e = (refl, e)
          parts false b e = absurd cc

          differ : false ≡ true → ⊥
          differ e = cc

  erased_along : TreeAlong s way (fin.get t.stamps) (fin.get (erased s start gone left t).stamps)
  erased_along = record { on = λ p u h e. stamp p u h (holds_one left p) refl (sym (got p) ∙ e); off = λ p h. stays p h (holds_one left p) refl }
    where
      is_stamp : (u : ℕ) (b : Bool) (o : Option ℕ) → b ≡ true → cond b (Some s) o ≡ Some u → u ≡ s
      is_stamp u true o h e = cc
      is_stamp u false o h e = absurd cc

      no_stamp : (u : ℕ) (b : Bool) (o : Option ℕ) → o ≡ None → cond b (Some s) o ≡ Some u → u ≡ s
      no_stamp u true o h e = cc
      no_stamp u false o h e = absurd cc

      stamp : (p : Spot) (u : ℕ) → list_any (eq_by_cmp spot_cmp p) way ≡ true → (b : Bool) → holds_one left p ≡ b → cond (list_any (eq_by_cmp spot_cmp p) marks) (Some s) (cond (holds_one left p) (fin.get t.stamps p) None) ≡ Some u → u ≡ s
      stamp p u h true held e = is_stamp u (list_any (eq_by_cmp spot_cmp p) marks) _ (marked p h held) e
      stamp p u h false held e = no_stamp u (list_any (eq_by_cmp spot_cmp p) marks) _ (ap (λ b. cond b (fin.get t.stamps p) None) held) e

      stays : (p : Spot) → list_any (eq_by_cmp spot_cmp p) way ≡ false → (b : Bool) → holds_one left p ≡ b → fin.get (erased s start gone left t).stamps p ≡ fin.get t.stamps p
      stays p h true held = got p ∙ (λ i. cond (unmarked p h (list_any (eq_by_cmp spot_cmp p) marks) refl i) (Some s) (cond (held i) (fin.get t.stamps p) None))
      stays p h false held = got p ∙ (λ i. cond (unmarked p h (list_any (eq_by_cmp spot_cmp p) marks) refl i) (Some s) (cond (held i) (fin.get t.stamps p) None)) ∙ sym (none_off p h held)

-- ---- tables

-- one file and the inode file of a table change along these spots, and no other file does
record Pieces (s n : ℕ) (file inode : List Spot) (before after : Table) : Type 0 where
  inode_along : TreeAlong s inode (fin.get before.inode.stamps) (fin.get after.inode.stamps)
  file_along : TreeAlong s file (stands before (OfFile n)) (stands after (OfFile n))
  others : (k : ℕ) → k ≢ n → (p : Spot) → stands after (OfFile k) p ≡ stands before (OfFile k) p

or_false : (a b : Bool) → b ≡ false → (a || b) ≡ a
or_false true b e = refl
or_false false b e = e

no_rank : (k : ℕ) → rank InodeFile ≢ rank (OfFile k)
no_rank k e = absurd (omega (arith, e))

in_path : (n : ℕ) (file inode : List Spot) (p : Spot) → list_any (eq_by_cmp place_cmp (placed InodeFile p)) (map (placed (OfFile n)) file ++ map (placed InodeFile) inode) ≡ list_any (eq_by_cmp spot_cmp p) inode
in_path n file inode p =
    any_append (placed InodeFile p) (map (placed (OfFile n)) file) (map (placed InodeFile) inode)
    ∙ (λ i. any_elsewhere InodeFile (OfFile n) p (no_rank n) file i || any_there InodeFile p inode i)

file_path : (n : ℕ) (file inode : List Spot) (p : Spot) → list_any (eq_by_cmp place_cmp (placed (OfFile n) p)) (map (placed (OfFile n)) file ++ map (placed InodeFile) inode) ≡ list_any (eq_by_cmp spot_cmp p) file
file_path n file inode p =
    any_append (placed (OfFile n) p) (map (placed (OfFile n)) file) (map (placed InodeFile) inode)
    ∙ or_false _ _ (any_elsewhere (OfFile n) InodeFile p (λ e. no_rank n (sym e)) inode) ∙ any_there (OfFile n) p file

other_path : (n k : ℕ) (file inode : List Spot) (p : Spot) → k ≢ n → list_any (eq_by_cmp place_cmp (placed (OfFile k) p)) (map (placed (OfFile n)) file ++ map (placed InodeFile) inode) ≡ false
other_path n k file inode p other =
    any_append (placed (OfFile k) p) (map (placed (OfFile n)) file) (map (placed InodeFile) inode)
    ∙ (λ i. any_elsewhere (OfFile k) (OfFile n) p (λ e. other (let same : k ≡ n = omega (arith, e) in same)) file i || any_elsewhere (OfFile k) InodeFile p (λ e. no_rank k (sym e)) inode i)

is_number : (k n : ℕ) (P : Type 0) → (k ≡ n → P) → (k ≢ n → P) → P
is_number k n P same other = so (eq_by_cmp nat_cmp k n) refl
  where
    so : (b : Bool) → eq_by_cmp nat_cmp k n ≡ b → P
    so true e = same (fin.nat_cmp-IsAntisymmetric k n ((Equal-is (nat_cmp k n)).0 e))
    so false e = other (λ d. let is : eq_by_cmp nat_cmp k n ≡ true = ap (eq_by_cmp nat_cmp k) (sym d) ∙ ap is_eq (tied_itself nat_cmp_total k) in let wrong : false ≡ true = sym e ∙ is in absurd cc)

along : (s n : ℕ) (file inode : List Spot) (before after : Table) → Pieces s n file inode before after → IsAlong s (map (placed (OfFile n)) file ++ map (placed InodeFile) inode) before after
along s n file inode before after is = record { on = λ p u h e. on p.owner (p.level, p.index) u h (sym (get-stamps_of after p.owner (p.level, p.index)) ∙ e); off = λ p h. get-stamps_of after p.owner (p.level, p.index) ∙ off p.owner (p.level, p.index) h ∙ sym (get-stamps_of before p.owner (p.level, p.index)) }
  where
    on : (o : Owner) (p : Spot) (u : ℕ) → list_any (eq_by_cmp place_cmp (placed o p)) (map (placed (OfFile n)) file ++ map (placed InodeFile) inode) ≡ true → stands after o p ≡ Some u → u ≡ s
    on InodeFile p u h e = is.inode_along.on p u (sym (in_path n file inode p) ∙ h) e
    on (OfFile k) p u h e = is_number k n (u ≡ s)
        (λ same. is.file_along.on p u (sym (file_path n file inode p) ∙ ap (λ (j : ℕ). list_any (eq_by_cmp place_cmp (placed (OfFile j) p)) (map (placed (OfFile n)) file ++ map (placed InodeFile) inode)) (sym same) ∙ h) (ap (λ (j : ℕ). stands after (OfFile j) p) (sym same) ∙ e))
        (λ other. let wrong : false ≡ true = sym (other_path n k file inode p other) ∙ h in absurd cc)

    off : (o : Owner) (p : Spot) → list_any (eq_by_cmp place_cmp (placed o p)) (map (placed (OfFile n)) file ++ map (placed InodeFile) inode) ≡ false → stands after o p ≡ stands before o p
    off InodeFile p h = is.inode_along.off p (sym (in_path n file inode p) ∙ h)
    off (OfFile k) p h = is_number k n (stands after (OfFile k) p ≡ stands before (OfFile k) p)
        (λ same. ap (λ (j : ℕ). stands after (OfFile j) p) same ∙ is.file_along.off p (sym (file_path n file inode p) ∙ ap (λ (j : ℕ). list_any (eq_by_cmp place_cmp (placed (OfFile j) p)) (map (placed (OfFile n)) file ++ map (placed InodeFile) inode)) (sym same) ∙ h) ∙ ap (λ (j : ℕ). stands before (OfFile j) p) (sym same))
        (λ other. is.others k other p)

-- ---- the four changes

abbrev stamp_of : Spot → Option File → Option ℕ
stamp_of p file = option_and_then (λ f. fin.get f.tree.stamps p) file

here : (files : fin.FinMap nat_cmp File) (n : ℕ) (g : File) → fin.get (fin.insert files n g) n ≡ Some g
here files n g = fin.get-insert nat_cmp_total files n g n ∙ ap (λ r. cond (is_eq r) (Some g) (fin.get files n)) (tied_itself nat_cmp_total n)

elsewhere : (files : fin.FinMap nat_cmp File) (n : ℕ) (g : File) (k : ℕ) → k ≢ n → fin.get (fin.insert files n g) k ≡ fin.get files k
elsewhere files n g k other = fin.get-insert nat_cmp_total files n g k ∙ so (eq_by_cmp nat_cmp k n) refl
  where
    so : (b : Bool) → eq_by_cmp nat_cmp k n ≡ b → cond b (Some g) (fin.get files k) ≡ fin.get files k
    so true e = absurd (other (fin.nat_cmp-IsAntisymmetric k n ((Equal-is (nat_cmp k n)).0 e)))
    so false e = refl

-- a file with another tree in place of one
one_tree : (s n : ℕ) (spots : List Spot) (files : fin.FinMap nat_cmp File) (f g : File) → fin.get files n ≡ Some f → TreeAlong s spots (fin.get f.tree.stamps) (fin.get g.tree.stamps)
    → TreeAlong s spots (λ p. stamp_of p (fin.get files n)) (λ p. stamp_of p (fin.get (fin.insert files n g) n))
one_tree s n spots files f g there is = record {
  on = λ p u h e. is.on p u h (sym (ap (stamp_of p) (here files n g)) ∙ e);
  off = λ p h. ap (stamp_of p) (here files n g) ∙ is.off p h ∙ sym (ap (stamp_of p) there);
}

pub put_along : (t : Table) (n : ℕ) (f : File) (i : ℕ) (block : List ℕ) (s : ℕ) → fin.get t.files n ≡ Some f → IsAlong s (put_path t n f i) t (put t n f i block s)
unfolding put
put_along t n f i block s there = along s n (written_spots f.tree i) (written_spots t.inode (inode_cell n)) t (put t n f i block s) (record {
  inode_along = written_along s (inode_cell n) t.inode;
  file_along = one_tree s n (written_spots f.tree i) t.files f (file_put f i block s) there (written_along s i f.tree);
  others = λ k other p. ap (stamp_of p) (elsewhere t.files n (file_put f i block s) k other);
})

pub new_along : (t : Table) (name : List ℕ) (reserve s : ℕ) → IsAlong s (new_path t) t (new t name reserve s)
unfolding new
new_along t name reserve s = along s (free_number t) [] (written_spots t.inode (inode_cell (free_number t))) t (new t name reserve s) (record {
  inode_along = written_along s (inode_cell (free_number t)) t.inode;
  file_along = record {
    on = λ p u h e. absurd (none h);
    off = λ p h. ap (stamp_of p) (here t.files (free_number t) file) ∙ fin.get-empty spot_cmp p ∙ sym (ap (stamp_of p) (free (fin.get t.files (free_number t)) (free_is_free t)));
  };
  others = λ k other p. ap (stamp_of p) (elsewhere t.files (free_number t) file k other);
})
  where
    file : File
    file = record { name = name; length = 0; reserve = reserve; blocks = fin.empty; tree = record { levels = least_levels reserve; stamps = fin.empty } }

    none : false ≡ true → ⊥
    none e = cc

    free : (o : Option File) → is_some o ≡ false → o ≡ None
    free None e = refl
    free (Some f) e = absurd cc

module _ (now s : ℕ) (t : Table) (is : IsWellTable now t) (n : ℕ) (f : File) (there : fin.get t.files n ≡ Some f) where
  pub cut_along : (length : ℕ) → IsAlong s (cut_path t n f length) t (cut t n f length s)
  unfolding cut
  cut_along length = along s n (flat_map (spots_over f.tree.levels) (cells_cut f length)) (written_spots t.inode (inode_cell n)) t (cut t n f length s) (record {
    inode_along = written_along s (inode_cell n) t.inode;
    file_along = one_tree s n (flat_map (spots_over f.tree.levels) (cells_cut f length)) t.files f (file_cut f length s) there
        (erased_along now (least_levels f.reserve) (fin.keys f.blocks) (cells_left f length) (cells_cut f length) f.tree s (is.files n f there).tree (all_cut now s t is f length));
    others = λ k other p. ap (stamp_of p) (elsewhere t.files n (file_cut f length s) k other);
  })

  pub rm_along : IsAlong s (rm_places t n f) t (rm t n s)
  unfolding rm
  rm_along = subst (λ (spots : List Spot). IsAlong s (map (placed (OfFile n)) (fin.keys f.tree.stamps) ++ map (placed InodeFile) spots) t (rm t n s)) (append-nil (spots_over t.inode.levels (inode_cell n)))
      (along s n (fin.keys f.tree.stamps) (flat_map (spots_over t.inode.levels) (inode_cell n ∷ [])) t (rm t n s) (record {
        inode_along = erased_along now 0 (map inode_cell (fin.keys t.files)) (map inode_cell (fin.keys (fin.remove t.files n))) (inode_cell n ∷ []) t.inode s is.inode (all_rm now s t is n);
        file_along = record {
          on = λ p u h e. absurd (none_left p u (sym (ap (stamp_of p) gone) ∙ e));
          off = λ p h. ap (stamp_of p) gone ∙ sym (ap (stamp_of p) there ∙ unkeyed p h);
        };
        others = λ k other p. ap (stamp_of p) (stays k other);
      }))
    where
      gone : fin.get (fin.remove t.files n) n ≡ None
      gone = fin.get-remove nat_cmp_total t.files n n ∙ ap (λ r. cond (is_eq r) None (fin.get t.files n)) (tied_itself nat_cmp_total n)

      none_left : (p : Spot) (u : ℕ) → ◌≡◌ {A = Option ℕ} None (Some u) → ⊥
      none_left p u e = cc

      unkeyed : (p : Spot) → list_any (eq_by_cmp spot_cmp p) (fin.keys f.tree.stamps) ≡ false → fin.get f.tree.stamps p ≡ None
      unkeyed p h = so (fin.get f.tree.stamps p) (fin.contains_key-keys f.tree.stamps p ∙ h)
        where
          so : (o : Option ℕ) → is_some o ≡ false → o ≡ None
          so None e = refl
          so (Some u) e = absurd cc

      stays : (k : ℕ) → k ≢ n → fin.get (fin.remove t.files n) k ≡ fin.get t.files k
      stays k other = fin.get-remove nat_cmp_total t.files n k ∙ so (eq_by_cmp nat_cmp k n) refl
        where
          so : (b : Bool) → eq_by_cmp nat_cmp k n ≡ b → cond b None (fin.get t.files k) ≡ fin.get t.files k
          so true e = absurd (other (fin.nat_cmp-IsAntisymmetric k n ((Equal-is (nat_cmp k n)).0 e)))
          so false e = refl
