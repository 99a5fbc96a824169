-- The stamps of a table, one place at a time, and what a write does to them.
use Rattle.std.proofs.Common.{◌≡◌, ◌≢◌, ℕ, suc, Bool, true, false, cond, ◌||◌, List, [], ◌∷◌, ◌++◌, map, flat_map, Option, Some, None, refl, sym, ap, subst, ◌∙◌, arith, T, Less, Equal, Greater}
use Rattle.std.specs.List.{list_any}
use Rattle.std.specs.declared.cmp.Ordering.{Ordering}
use Rattle.std.specs.Option.{option_and_then}
use Rattle.std.specs.Ordering.{nat_cmp, eq_by_cmp, is_eq, ordering_then}
use Rattle.std.specs.Cmp.{Equal-is, tied_itself, nat_cmp_total}
use Rattle.std.specs.FinMap as fin
use Rattle.std.specs.FinMap.{find, is_sorted}
use Rattle.std.specs.FinMap.Entries.{below_all}
use Rattle.fv_model.specs.Trees.{Spot, spot_cmp, stamp_spots, written, written_spots}
use Rattle.fv_model.specs.Tables.{File, Table, inode_cell, file_put, put}
use Rattle.fv_model.specs.Places.{Owner, InodeFile, OfFile, rank, Place, place_cmp, placed, Stamps, tree_entries, stamps_of}
use Rattle.fv_laws.proofs.Orders.{place_total, place_ties, spot_total}
use Rattle.fv_laws.proofs.Maps.{first, second, less}

-- ---- orders of places
one_owner : (r : Ordering) (a b : Ordering) → r ≡ Equal → is_eq (ordering_then r (ordering_then a (ordering_then b Equal))) ≡ is_eq (ordering_then a b)
one_owner r a b e = rw e (by a b)
  where
    by : (a b : Ordering) → is_eq (ordering_then a (ordering_then b Equal)) ≡ is_eq (ordering_then a b)
    by Less b = refl
    by Greater b = refl
    by Equal Less = refl
    by Equal Equal = refl
    by Equal Greater = refl

pub at_owner : (o : Owner) (p q : Spot) → eq_by_cmp place_cmp (placed o p) (placed o q) ≡ eq_by_cmp spot_cmp p q
at_owner o p q = one_owner (nat_cmp (rank o) (rank o)) (nat_cmp p.0 q.0) (nat_cmp p.1 q.1) (tied_itself nat_cmp_total (rank o))

two_owners : (r a : Ordering) → r ≢ Equal → is_eq (ordering_then r a) ≡ false
two_owners Less a ne = refl
two_owners Greater a ne = refl
two_owners Equal a ne = absurd (ne refl)

pub apart : (o u : Owner) (p q : Spot) → rank o ≢ rank u → eq_by_cmp place_cmp (placed o p) (placed u q) ≡ false
apart o u p q ne = two_owners (nat_cmp (rank o) (rank u)) _ (λ e. ne (fin.nat_cmp-IsAntisymmetric (rank o) (rank u) e))

-- ---- what a list of entries has at a place
abbrev pub or_else : {X : Type 0} → Option X → Option X → Option X
or_else None y = y
or_else (Some x) y = Some x

cond_else : {X : Type 0} (b : Bool) (x : X) (o p : Option X) → cond b (Some x) (or_else o p) ≡ or_else (cond b (Some x) o) p
cond_else true x o p = refl
cond_else false x o p = refl

pub found_append : (p : Place) (es fs : List (Place × ℕ)) → find place_cmp p (es ++ fs) ≡ or_else (find place_cmp p es) (find place_cmp p fs)
found_append p [] fs = refl
found_append p (e ∷ es) fs = ap (cond (eq_by_cmp place_cmp p e.0) (Some e.1)) (found_append p es fs) ∙ cond_else (eq_by_cmp place_cmp p e.0) e.1 (find place_cmp p es) (find place_cmp p fs)

pub found_in_tree : (o : Owner) (p : Spot) (es : List (Spot × ℕ)) → find place_cmp (placed o p) (map (λ e. (placed o e.0, e.1)) es) ≡ find spot_cmp p es
found_in_tree o p [] = refl
found_in_tree o p (e ∷ es) = λ i. cond (at_owner o p e.0 i) (Some e.1) (found_in_tree o p es i)

not_in_tree : (o u : Owner) (p : Spot) → rank o ≢ rank u → (es : List (Spot × ℕ)) → find place_cmp (placed o p) (map (λ e. (placed u e.0, e.1)) es) ≡ None
not_in_tree o u p ne [] = refl
not_in_tree o u p ne (e ∷ es) = λ i. cond (apart o u p e.0 ne i) (Some e.1) (not_in_tree o u p ne es i)

abbrev pub files_entries : List (ℕ × File) → List (Place × ℕ)
files_entries es = flat_map (λ e. tree_entries (OfFile e.0) e.1.tree) es

differ : (n k : ℕ) (r : Ordering) → nat_cmp n k ≡ r → r ≢ Equal → suc n ≢ suc k
differ n k r e ne s = let same : n ≡ k = omega arith in ne (sym e ∙ ap (λ j. nat_cmp j k) same ∙ tied_itself nat_cmp_total k)

less_not : Less ≢ Equal
less_not e = cc

greater_not : Greater ≢ Equal
greater_not e = cc

pub no_inode : (p : Spot) (es : List (ℕ × File)) → find place_cmp (placed InodeFile p) (files_entries es) ≡ None
no_inode p [] = refl
no_inode p (e ∷ es) =
    found_append (placed InodeFile p) (tree_entries (OfFile e.0) e.1.tree) (files_entries es)
    ∙ (λ i. or_else (not_in_tree InodeFile (OfFile e.0) p (λ s. absurd (omega arith)) (fin.entries e.1.tree.stamps) i) (no_inode p es i))

pub not_in_files : (n : ℕ) (p : Spot) (es : List (ℕ × File)) → T (below_all nat_cmp n es) → find place_cmp (placed (OfFile n) p) (files_entries es) ≡ None
not_in_files n p [] h = refl
not_in_files n p (e ∷ es) h =
    found_append (placed (OfFile n) p) (tree_entries (OfFile e.0) e.1.tree) (files_entries es)
    ∙ (λ i. or_else (not_in_tree (OfFile n) (OfFile e.0) p (differ n e.0 Less (less _ (first _ _ h)) less_not) (fin.entries e.1.tree.stamps) i) (not_in_files n p es (second _ _ h) i))

or_none : {X : Type 0} (o p : Option X) → p ≡ None → or_else o p ≡ o
or_none None p e = e
or_none (Some x) p e = refl

abbrev pub stamp_in : Spot → Option File → Option ℕ
stamp_in p file = option_and_then (λ f. fin.get f.tree.stamps p) file

in_files : (n : ℕ) (p : Spot) (es : List (ℕ × File)) → T (is_sorted nat_cmp es) → find place_cmp (placed (OfFile n) p) (files_entries es) ≡ stamp_in p (find nat_cmp n es)
in_files n p [] h = refl
in_files n p (e ∷ es) h =
    found_append (placed (OfFile n) p) (tree_entries (OfFile e.0) e.1.tree) (files_entries es)
    ∙ elim (nat_cmp n e.0) as (λ r. nat_cmp n e.0 ≡ r → or_else (find place_cmp (placed (OfFile n) p) (tree_entries (OfFile e.0) e.1.tree)) (find place_cmp (placed (OfFile n) p) (files_entries es)) ≡ stamp_in p (cond (is_eq r) (Some e.1) (find nat_cmp n es))) [
      | Less ↦ λ d. (λ i. or_else (not_in_tree (OfFile n) (OfFile e.0) p (differ n e.0 Less d less_not) (fin.entries e.1.tree.stamps) i) (in_files n p es (second _ _ h) i))
      | Greater ↦ λ d. (λ i. or_else (not_in_tree (OfFile n) (OfFile e.0) p (differ n e.0 Greater d greater_not) (fin.entries e.1.tree.stamps) i) (in_files n p es (second _ _ h) i))
      | Equal ↦ λ d.
          let same : n ≡ e.0 = fin.nat_cmp-IsAntisymmetric n e.0 d in
          let here : find place_cmp (placed (OfFile n) p) (tree_entries (OfFile e.0) e.1.tree) ≡ fin.get e.1.tree.stamps p =
          ap (λ (k : ℕ). find place_cmp (placed (OfFile k) p) (tree_entries (OfFile e.0) e.1.tree)) same ∙ found_in_tree (OfFile e.0) p (fin.entries e.1.tree.stamps) ∙ sym (fin.get-entries e.1.tree.stamps p) in
          or_none _ _ (not_in_files n p es (subst (λ (k : ℕ). T (below_all nat_cmp k es)) (sym same) (first _ _ h))) ∙ here
    ] refl

-- the stamp that stands at a place of a table
abbrev pub stands : Table → Owner → Spot → Option ℕ
stands t InodeFile p = fin.get t.inode.stamps p
stands t (OfFile n) p = stamp_in p (fin.get t.files n)

pub get-stamps_of : (t : Table) (o : Owner) (p : Spot) → fin.get (stamps_of t) (placed o p) ≡ stands t o p
unfolding stamps_of
get-stamps_of t InodeFile p =
    fin.get-from_entries place_total (tree_entries InodeFile t.inode ++ files_entries (fin.entries t.files)) (placed InodeFile p)
    ∙ found_append (placed InodeFile p) (tree_entries InodeFile t.inode) (files_entries (fin.entries t.files))
    ∙ or_none _ _ (no_inode p (fin.entries t.files)) ∙ found_in_tree InodeFile p (fin.entries t.inode.stamps) ∙ sym (fin.get-entries t.inode.stamps p)
get-stamps_of t (OfFile n) p =
    fin.get-from_entries place_total (tree_entries InodeFile t.inode ++ files_entries (fin.entries t.files)) (placed (OfFile n) p)
    ∙ found_append (placed (OfFile n) p) (tree_entries InodeFile t.inode) (files_entries (fin.entries t.files))
    ∙ (λ i. or_else (not_in_tree (OfFile n) InodeFile p (λ s. absurd (omega arith)) (fin.entries t.inode.stamps) i) (in_files n p (fin.entries t.files) (fin.entries_sorted t.files) i))
    ∙ ap (stamp_in p) (sym (fin.get-entries t.files n))

-- ---- stamps given one after another
unfoldable pub stamp_all : ℕ → List Place → Stamps → Stamps
stamp_all s [] m = m
stamp_all s (p ∷ ps) m = stamp_all s ps (fin.insert m p s)

either : (a b : Bool) (s : ℕ) (o : Option ℕ) → cond b (Some s) (cond a (Some s) o) ≡ cond (a || b) (Some s) o
either true true s o = refl
either true false s o = refl
either false b s o = refl

get-stamp_all : (s : ℕ) (ps : List Place) (m : Stamps) (q : Place) → fin.get (stamp_all s ps m) q ≡ cond (list_any (eq_by_cmp place_cmp q) ps) (Some s) (fin.get m q)
unfolding stamp_all
get-stamp_all s [] m q = refl
get-stamp_all s (p ∷ ps) m q =
    get-stamp_all s ps (fin.insert m p s) q ∙ ap (cond (list_any (eq_by_cmp place_cmp q) ps) (Some s)) (fin.get-insert place_total m p s q) ∙ either (eq_by_cmp place_cmp q p) (list_any (eq_by_cmp place_cmp q) ps) s (fin.get m q)

pub get-stamp_spots : (s : ℕ) (ps : List Spot) (m : fin.FinMap spot_cmp ℕ) (q : Spot) → fin.get (stamp_spots s ps m) q ≡ cond (list_any (eq_by_cmp spot_cmp q) ps) (Some s) (fin.get m q)
unfolding stamp_spots
get-stamp_spots s [] m q = refl
get-stamp_spots s (p ∷ ps) m q =
    get-stamp_spots s ps (fin.insert m p s) q ∙ ap (cond (list_any (eq_by_cmp spot_cmp q) ps) (Some s)) (fin.get-insert spot_total m p s q) ∙ either (eq_by_cmp spot_cmp q p) (list_any (eq_by_cmp spot_cmp q) ps) s (fin.get m q)

-- ---- a write
abbrev pub put_places : Table → ℕ → File → ℕ → List Place
put_places t n f i = map (placed (OfFile n)) (written_spots f.tree i) ++ map (placed InodeFile) (written_spots t.inode (inode_cell n))

pub any_append : (q : Place) (ps qs : List Place) → list_any (eq_by_cmp place_cmp q) (ps ++ qs) ≡ (list_any (eq_by_cmp place_cmp q) ps || list_any (eq_by_cmp place_cmp q) qs)
any_append q [] qs = refl
any_append q (p ∷ ps) qs = ap (λ b. eq_by_cmp place_cmp q p || b) (any_append q ps qs) ∙ grouped (eq_by_cmp place_cmp q p) _ _
  where
    grouped : (a b c : Bool) → (a || (b || c)) ≡ ((a || b) || c)
    grouped true b c = refl
    grouped false b c = refl

pub any_there : (o : Owner) (p : Spot) (ps : List Spot) → list_any (eq_by_cmp place_cmp (placed o p)) (map (placed o) ps) ≡ list_any (eq_by_cmp spot_cmp p) ps
any_there o p [] = refl
any_there o p (q ∷ ps) = λ i. at_owner o p q i || any_there o p ps i

pub any_elsewhere : (o u : Owner) (p : Spot) → rank o ≢ rank u → (ps : List Spot) → list_any (eq_by_cmp place_cmp (placed o p)) (map (placed u) ps) ≡ false
any_elsewhere o u p ne [] = refl
any_elsewhere o u p ne (q ∷ ps) = λ i. apart o u p q ne i || any_elsewhere o u p ne ps i

or_false : (a b : Bool) → b ≡ false → (a || b) ≡ a
or_false true b e = refl
or_false false b e = e

-- at each place a write leaves its stamp, or what was there
stands_put : (t : Table) (n : ℕ) (f : File) (i : ℕ) (block : List ℕ) (s : ℕ) → fin.get t.files n ≡ Some f → (o : Owner) (p : Spot) → stands (put t n f i block s) o p ≡ cond (list_any (eq_by_cmp place_cmp (placed o p)) (put_places t n f i)) (Some s) (stands t o p)
unfolding put written
stands_put t n f i block s there InodeFile p =
    get-stamp_spots s (written_spots t.inode (inode_cell n)) t.inode.stamps p
    ∙ ap (λ b. cond b (Some s) (fin.get t.inode.stamps p)) (sym (any_append (placed InodeFile p) (map (placed (OfFile n)) (written_spots f.tree i)) (map (placed InodeFile) (written_spots t.inode (inode_cell n)))
    ∙ (λ j. any_elsewhere InodeFile (OfFile n) p (λ s. absurd (omega arith)) (written_spots f.tree i) j || any_there InodeFile p (written_spots t.inode (inode_cell n)) j)))
stands_put t n f i block s there (OfFile k) p =
    ap (stamp_in p) (fin.get-insert nat_cmp_total t.files n (file_put f i block s) k)
    ∙ elim (eq_by_cmp nat_cmp k n) as (λ b. eq_by_cmp nat_cmp k n ≡ b → stamp_in p (cond b (Some (file_put f i block s)) (fin.get t.files k)) ≡ cond (list_any (eq_by_cmp place_cmp (placed (OfFile k) p)) (put_places t n f i)) (Some s) (stamp_in p (fin.get t.files k))) [
      | true ↦ λ e.
          let same : k ≡ n = fin.nat_cmp-IsAntisymmetric k n ((Equal-is (nat_cmp k n)).0 e) in
          get-stamp_spots s (written_spots f.tree i) f.tree.stamps p
          ∙ (λ j. cond (sym (in_file k same) j) (Some s) (stamp_in p (sym (ap (fin.get t.files) same ∙ there) j)))
      | false ↦ λ e. sym (ap (λ b. cond b (Some s) (stamp_in p (fin.get t.files k))) (off_file k (λ d. two k e d)))
    ] refl
  where
    two : (k : ℕ) → eq_by_cmp nat_cmp k n ≡ false → suc k ≡ suc n → ⊥
    two k e d = let same : k ≡ n = omega arith in let yes : eq_by_cmp nat_cmp k n ≡ true = ap (λ j. eq_by_cmp nat_cmp k j) (sym same) ∙ ap is_eq (tied_itself nat_cmp_total k) in let no : true ≡ false = sym yes ∙ e in cc

    in_file : (k : ℕ) → k ≡ n → list_any (eq_by_cmp place_cmp (placed (OfFile k) p)) (put_places t n f i) ≡ list_any (eq_by_cmp spot_cmp p) (written_spots f.tree i)
    in_file k same =
        ap (λ (j : ℕ). list_any (eq_by_cmp place_cmp (placed (OfFile j) p)) (put_places t n f i)) same
        ∙ any_append (placed (OfFile n) p) (map (placed (OfFile n)) (written_spots f.tree i)) (map (placed InodeFile) (written_spots t.inode (inode_cell n)))
        ∙ or_false _ _ (any_elsewhere (OfFile n) InodeFile p (λ s. absurd (omega arith)) (written_spots t.inode (inode_cell n)))
        ∙ any_there (OfFile n) p (written_spots f.tree i)

    off_file : (k : ℕ) → suc k ≢ suc n → list_any (eq_by_cmp place_cmp (placed (OfFile k) p)) (put_places t n f i) ≡ false
    off_file k ne =
        any_append (placed (OfFile k) p) (map (placed (OfFile n)) (written_spots f.tree i)) (map (placed InodeFile) (written_spots t.inode (inode_cell n)))
        ∙ (λ j. any_elsewhere (OfFile k) (OfFile n) p ne (written_spots f.tree i) j || any_elsewhere (OfFile k) InodeFile p (λ s. absurd (omega arith)) (written_spots t.inode (inode_cell n)) j)

-- the stamps after a write
pub stamps-put : (t : Table) (n : ℕ) (f : File) (i : ℕ) (block : List ℕ) (s : ℕ) → fin.get t.files n ≡ Some f → stamps_of (put t n f i block s) ≡ stamp_all s (put_places t n f i) (stamps_of t)
stamps-put t n f i block s there = fin.same_map place_total place_ties _ _ (λ q.
    get-stamps_of (put t n f i block s) q.owner (q.level, q.index) ∙ stands_put t n f i block s there q.owner (q.level, q.index)
    ∙ ap (cond (list_any (eq_by_cmp place_cmp q) (put_places t n f i)) (Some s)) (sym (get-stamps_of t q.owner (q.level, q.index)))
    ∙ sym (get-stamp_all s (put_places t n f i) (stamps_of t) q))
