-- A change adds at most the ids of its path, and the charge is at most the ids of all tables with the maps.
use Rattle.std.proofs.Common.{◌⊎◌, ◌≡◌, ℕ, ◌+◌, ◌*◌, ◌≤◌, Bool, true, false, cond, not, ◌&&◌, ◌||◌, nat_le, nat_lt, List, [], ◌∷◌, ◌++◌, length, map, filter, flat_map, sum_by, Option, Some, None, inl, inr, ⊎_elim, refl, sym, ap, subst, ◌∙◌, arith}
use Rattle.std.specs.List.{list_any}
use Rattle.std.specs.Option.{option_and_then}
use Rattle.std.specs.Ordering.{nat_cmp, eq_by_cmp, is_eq}
use Rattle.std.specs.Cmp.{Equal-is, tied_itself, nat_cmp_total}
use Rattle.std.specs.FinMap as fin
use Rattle.std.specs.FinSet as set
use Rattle.std.proofs.lemmas.List.{append-nil}
use Rattle.std.proofs.lemmas.List.Sums.{sum_by-cons}
use Rattle.fv_model.specs.Trees.{Spot, spot_cmp, Tree, least_levels, spots_over, written, written_spots, erased, holds_one}
use Rattle.fv_model.specs.Tables.{File, Table, inode_cell, free_number, file_put, file_cut, new, put, cut, rm}
use Rattle.fv_model.specs.Places.{Owner, InodeFile, OfFile, Place, placed, Id, id_cmp, Ids, ids_of, stamps_of}
use Rattle.fv_model.specs.Volumes.{Volume}
use Rattle.fv_model.specs.Space.{map_blocks, ids_in_any, ids_left_out, kept_ids, charge}
use Rattle.fv_model.specs.Effects.{stamped}
use Rattle.fv_laws.specs.Paths.{inode_path, new_path, put_path, cut_path, rm_path, ids_and_maps}
use Rattle.fv_laws.proofs.Orders.{spot_ties, id_total, id_ties}
use Rattle.fv_laws.proofs.Lists.{In, any_in, in_any, in_left, in_right, in_map, from_filter}
use Rattle.fv_laws.proofs.Ids.{is_stamp, contains-ids, nat_same}
use Rattle.fv_laws.proofs.Stamps.{stands, get-stamps_of, get-stamp_spots}
use Rattle.fv_laws.proofs.SetCounts.{IsPart, or_true, len_part}
use Rattle.fv_laws.proofs.Counts.{len_union, len_difference, len_list}

-- what stands after a change has its stamp and lies on its path, or stood there before
record Adds (s : ℕ) (path : List Place) (t after : Table) : Type 0 where
  only : (o : Owner) (p : Spot) (u : ℕ) → stands after o p ≡ Some u → ((u ≡ s) × In (placed o p) path) ⊎ (stands t o p ≡ Some u)

-- ---- trees
chosen : (b : Bool) (s u : ℕ) (o : Option ℕ) → cond b (Some s) o ≡ Some u → ((b ≡ true) × (u ≡ s)) ⊎ (o ≡ Some u)
chosen true s u o e = let same : u ≡ s = cc in inl (refl, same)
chosen false s u o e = inr e

if_kept : (b : Bool) (o : Option ℕ) (u : ℕ) → cond b o None ≡ Some u → o ≡ Some u
if_kept true o u e = e
if_kept false o u e = absurd cc

written_only : (s c : ℕ) (t : Tree) (p : Spot) (u : ℕ) → fin.get (written s c t).stamps p ≡ Some u → ((u ≡ s) × In p (written_spots t c)) ⊎ (fin.get t.stamps p ≡ Some u)
unfolding written
written_only s c t p u e =
    ⊎_elim (λ l. inl (l.1, any_in spot_ties p (written_spots t c) l.0)) (λ r. inr r)
    (chosen (list_any (eq_by_cmp spot_cmp p) (written_spots t c)) s u (fin.get t.stamps p) (sym (get-stamp_spots s (written_spots t c) t.stamps p) ∙ e))

erased_only : (s start : ℕ) (gone left : List ℕ) (t : Tree) (p : Spot) (u : ℕ) → fin.get (erased s start gone left t).stamps p ≡ Some u → ((u ≡ s) × In p (flat_map (spots_over t.levels) gone)) ⊎ (fin.get t.stamps p ≡ Some u)
unfolding erased
erased_only s start gone left t p u e =
    let marks = filter (holds_one left) (flat_map (spots_over t.levels) gone) in
    let kept = fin.retain_keys t.stamps (holds_one left) in
    ⊎_elim
    (λ l. inl (l.1, (from_filter (holds_one left) p (flat_map (spots_over t.levels) gone) (any_in spot_ties p marks l.0)).0))
    (λ r. inr (if_kept (holds_one left p) (fin.get t.stamps p) u (sym (fin.get-retain_keys t.stamps (holds_one left) p (λ q e. ap (holds_one left) (sym (spot_ties p q e)))) ∙ r)))
    (chosen (list_any (eq_by_cmp spot_cmp p) marks) s u (fin.get kept p) (sym (get-stamp_spots s marks kept p) ∙ e))

-- ---- tables
abbrev stamp_of : Spot → Option File → Option ℕ
stamp_of p file = option_and_then (λ f. fin.get f.tree.stamps p) file

-- one file in place of what stood under its number
put_file : (files : fin.FinMap nat_cmp File) (n : ℕ) (g : File) (k : ℕ) (p : Spot) (u : ℕ) → stamp_of p (fin.get (fin.insert files n g) k) ≡ Some u → ((k ≡ n) × (fin.get g.tree.stamps p ≡ Some u)) ⊎ (stamp_of p (fin.get files k) ≡ Some u)
put_file files n g k p u e =
    elim (eq_by_cmp nat_cmp k n) as (λ b. eq_by_cmp nat_cmp k n ≡ b → stamp_of p (cond b (Some g) (fin.get files k)) ≡ Some u → ((k ≡ n) × (fin.get g.tree.stamps p ≡ Some u)) ⊎ (stamp_of p (fin.get files k) ≡ Some u)) [
      | true ↦ λ d h. inl (fin.nat_cmp-IsAntisymmetric k n ((Equal-is (nat_cmp k n)).0 d), h)
      | false ↦ λ d h. inr h
    ] refl (ap (stamp_of p) (sym (fin.get-insert nat_cmp_total files n g k)) ∙ e)

in_inode : (t : Table) (n : ℕ) (s : ℕ) (p : Spot) (u : ℕ) → fin.get (written s (inode_cell n) t.inode).stamps p ≡ Some u → ((u ≡ s) × In (placed InodeFile p) (inode_path t n)) ⊎ (fin.get t.inode.stamps p ≡ Some u)
in_inode t n s p u e = ⊎_elim (λ l. inl (l.0, in_map (placed InodeFile) p (written_spots t.inode (inode_cell n)) l.1)) (λ r. inr r) (written_only s (inode_cell n) t.inode p u e)

new_adds : (t : Table) (name : List ℕ) (reserve s : ℕ) → Adds s (new_path t) t (new t name reserve s)
unfolding new
new_adds t name reserve s = record { only = by }
  where
    by : (o : Owner) (p : Spot) (u : ℕ) → stands (new t name reserve s) o p ≡ Some u → ((u ≡ s) × In (placed o p) (new_path t)) ⊎ (stands t o p ≡ Some u)
    by InodeFile p u e = in_inode t (free_number t) s p u e
    by (OfFile k) p u e = ⊎_elim
        (λ l. let wrong : None ≡ Some u = sym (fin.get-empty spot_cmp p) ∙ l.1 in absurd cc)
        (λ r. inr r)
        (put_file t.files (free_number t) (record { name = name; length = 0; reserve = reserve; blocks = fin.empty; tree = record { levels = least_levels reserve; stamps = fin.empty } }) k p u e)

in_file : (t : Table) (n k : ℕ) (f : File) (s : ℕ) (p : Spot) (u : ℕ) (spots : List Spot) → fin.get t.files n ≡ Some f → k ≡ n → ((u ≡ s) × In p spots) ⊎ (fin.get f.tree.stamps p ≡ Some u) → ((u ≡ s) × In (placed (OfFile k) p) (map (placed (OfFile n)) spots ++ inode_path t n)) ⊎ (stamp_of p (fin.get t.files k) ≡ Some u)
in_file t n k f s p u spots there same = ⊎_elim
    (λ l. inl (l.0, subst (λ (j : ℕ). In (placed (OfFile j) p) (map (placed (OfFile n)) spots ++ inode_path t n)) (sym same) (in_left (placed (OfFile n) p) (map (placed (OfFile n)) spots) (inode_path t n) (in_map (placed (OfFile n)) p spots l.1))))
    (λ r. inr (ap (stamp_of p) (ap (fin.get t.files) same ∙ there) ∙ r))

after_file : (t : Table) (n : ℕ) (p : Spot) (u s : ℕ) (spots : List Spot) → ((u ≡ s) × In (placed InodeFile p) (inode_path t n)) ⊎ (fin.get t.inode.stamps p ≡ Some u) → ((u ≡ s) × In (placed InodeFile p) (map (placed (OfFile n)) spots ++ inode_path t n)) ⊎ (fin.get t.inode.stamps p ≡ Some u)
after_file t n p u s spots = ⊎_elim (λ l. inl (l.0, in_right (placed InodeFile p) (map (placed (OfFile n)) spots) (inode_path t n) l.1)) (λ r. inr r)

put_adds : (t : Table) (n : ℕ) (f : File) (i : ℕ) (block : List ℕ) (s : ℕ) → fin.get t.files n ≡ Some f → Adds s (put_path t n f i) t (put t n f i block s)
unfolding put
put_adds t n f i block s there = record { only = by }
  where
    by : (o : Owner) (p : Spot) (u : ℕ) → stands (put t n f i block s) o p ≡ Some u → ((u ≡ s) × In (placed o p) (put_path t n f i)) ⊎ (stands t o p ≡ Some u)
    by InodeFile p u e = after_file t n p u s (written_spots f.tree i) (in_inode t n s p u e)
    by (OfFile k) p u e = ⊎_elim
        (λ l. in_file t n k f s p u (written_spots f.tree i) there l.0 (written_only s i f.tree p u l.1))
        (λ r. inr r)
        (put_file t.files n (file_put f i block s) k p u e)

cut_adds : (t : Table) (n : ℕ) (f : File) (length s : ℕ) → fin.get t.files n ≡ Some f → Adds s (cut_path t n f length) t (cut t n f length s)
unfolding cut
cut_adds t n f length s there = record { only = by }
  where
    by : (o : Owner) (p : Spot) (u : ℕ) → stands (cut t n f length s) o p ≡ Some u → ((u ≡ s) × In (placed o p) (cut_path t n f length)) ⊎ (stands t o p ≡ Some u)
    by InodeFile p u e = after_file t n p u s (flat_map (spots_over f.tree.levels) (filter (λ i. nat_le length i) (fin.keys f.blocks))) (in_inode t n s p u e)
    by (OfFile k) p u e = ⊎_elim
        (λ l. in_file t n k f s p u (flat_map (spots_over f.tree.levels) (filter (λ i. nat_le length i) (fin.keys f.blocks))) there l.0 (erased_only s (least_levels f.reserve) (filter (λ i. nat_le length i) (fin.keys f.blocks)) (fin.keys (fin.retain_keys f.blocks (λ i. nat_lt i length))) f.tree p u l.1))
        (λ r. inr r)
        (put_file t.files n (file_cut f length s) k p u e)

rm_adds : (t : Table) (n s : ℕ) → Adds s (rm_path t n) t (rm t n s)
unfolding rm
rm_adds t n s = record { only = by }
  where
    gone : (b : Bool) (k : ℕ) (p : Spot) (u : ℕ) → stamp_of p (cond b None (fin.get t.files k)) ≡ Some u → stamp_of p (fin.get t.files k) ≡ Some u
    gone true k p u e = absurd cc
    gone false k p u e = e

    by : (o : Owner) (p : Spot) (u : ℕ) → stands (rm t n s) o p ≡ Some u → ((u ≡ s) × In (placed o p) (rm_path t n)) ⊎ (stands t o p ≡ Some u)
    by InodeFile p u e = ⊎_elim
        (λ l. inl (l.0, in_map (placed InodeFile) p (spots_over t.inode.levels (inode_cell n)) (subst (In p) (append-nil (spots_over t.inode.levels (inode_cell n))) l.1)))
        (λ r. inr r)
        (erased_only s 0 (inode_cell n ∷ []) (map inode_cell (fin.keys (fin.remove t.files n))) t.inode p u e)
    by (OfFile k) p u e = inr (gone (eq_by_cmp nat_cmp k n) k p u (ap (stamp_of p) (sym (fin.get-remove nat_cmp_total t.files n k)) ∙ e))

-- ---- ids
abbrev with_stamp : ℕ → Place → Id
with_stamp s p = (p, s)

abbrev new_ids : ℕ → List Place → Ids
new_ids s path = set.from_list (map (with_stamp s) path)

pub stamp_is : (u : ℕ) (at : Option ℕ) → is_stamp u at ≡ true → at ≡ Some u
stamp_is u None e = absurd cc
stamp_is u (Some w) e = ap Some (sym (nat_same u w e))

pub is_there : (u : ℕ) (at : Option ℕ) → at ≡ Some u → is_stamp u at ≡ true
is_there u at e = ap (is_stamp u) e ∙ ap is_eq (tied_itself nat_cmp_total u)

old_or_new : (s : ℕ) (path : List Place) (t after : Table) → Adds s path t after → (q : Id) → set.contains (ids_of after) q ≡ true → (set.contains (ids_of t) q || set.contains (new_ids s path) q) ≡ true
old_or_new s path t after adds q h =
    let p = q.0 in let u = q.1 in
    let at : stands after p.owner (p.level, p.index) ≡ Some u = sym (get-stamps_of after p.owner (p.level, p.index)) ∙ stamp_is u (fin.get (stamps_of after) p) (sym (contains-ids (stamps_of after) p u) ∙ h) in
    ⊎_elim
    (λ l. ap (λ b. set.contains (ids_of t) q || b) (set.contains-from_list id_total (map (with_stamp s) path) q ∙ in_any id_total q (map (with_stamp s) path) (subst (λ (w : ℕ). In (with_stamp w p) (map (with_stamp s) path)) (sym l.0) (in_map (with_stamp s) p path l.1))) ∙ or_true (set.contains (ids_of t) q))
    (λ r. ap (λ b. b || set.contains (new_ids s path) q) (contains-ids (stamps_of t) p u ∙ is_there u (fin.get (stamps_of t) p) (get-stamps_of t p.owner (p.level, p.index) ∙ r)))
    (adds.only p.owner (p.level, p.index) u at)

charged_or_new : (a' a n k e : Bool) → (a' ≡ true → (a || n) ≡ true) → ((a' || k) && not e) ≡ true → (((a || k) && not e) || n) ≡ true
charged_or_new a' true n k true more h = absurd (wrong a' k h)
  where
    wrong : (a k : Bool) → ((a || k) && not true) ≡ true → ⊥
    wrong true k h = cc
    wrong false true h = cc
    wrong false false h = cc
charged_or_new a' true n k false more h = refl
charged_or_new true false n k e more h = ap (λ b. (k && not e) || b) (more refl) ∙ or_true _
charged_or_new false false n k e more h = ap (λ b. b || n) h

length_map : (s : ℕ) (path : List Place) → length (map (with_stamp s) path) ≡ length path
length_map s [] = refl
length_map s (p ∷ path) = let rest = length_map s path in omega (arith, rest)

-- a change adds at most the ids of its path
adds_path : (x : Volume) (table : ℕ → Table) (path : List Place) → Adds (x.now + 1) path x.active (table (x.now + 1)) → charge (stamped x table) ≤ charge x + length path
unfolding charge
adds_path x table path adds =
    let s = x.now + 1 in
    let after : Ids = set.difference (set.union (ids_of (table s)) (kept_ids x)) (ids_left_out x.base) in
    let before : Ids = set.difference (set.union (ids_of x.active) (kept_ids x)) (ids_left_out x.base) in
    let part : IsPart after (set.union before (new_ids s path)) = λ q h.
    set.contains-union id_total before (new_ids s path) q
    ∙ ap (λ b. b || set.contains (new_ids s path) q) (set.contains-difference id_total (set.union (ids_of x.active) (kept_ids x)) (ids_left_out x.base) q ∙ ap (λ b. b && not (set.contains (ids_left_out x.base) q)) (set.contains-union id_total (ids_of x.active) (kept_ids x) q))
    ∙ charged_or_new (set.contains (ids_of (table s)) q) (set.contains (ids_of x.active) q) (set.contains (new_ids s path) q) (set.contains (kept_ids x) q) (set.contains (ids_left_out x.base) q) (old_or_new s path x.active (table s) adds q)
    (sym (set.contains-difference id_total (set.union (ids_of (table s)) (kept_ids x)) (ids_left_out x.base) q ∙ ap (λ b. b && not (set.contains (ids_left_out x.base) q)) (set.contains-union id_total (ids_of (table s)) (kept_ids x) q)) ∙ h) in
    let most : set.len after ≤ set.len (set.union before (new_ids s path)) = len_part id_total id_ties after (set.union before (new_ids s path)) part in
    let both : set.len (set.union before (new_ids s path)) ≡ set.len before + set.len (set.difference (new_ids s path) before) = len_union id_total id_ties before (new_ids s path) in
    let rest : set.len (set.difference (new_ids s path) before) + set.len (set.intersection (new_ids s path) before) ≡ set.len (new_ids s path) = len_difference id_total id_ties (new_ids s path) before in
    let few : set.len (new_ids s path) ≤ length (map (with_stamp s) path) = len_list id_total id_ties (map (with_stamp s) path) in
    let same = length_map s path in
    more (set.len after) (set.len before) (map_blocks x.span * fin.len x.snapshots) (length path) (omega (arith, most, both, rest, few, same))
  where
    more : (a b m l : ℕ) → a ≤ b + l → a + m ≤ (b + m) + l
    more a b m l le = omega arith

pub new_adds_path : (x : Volume) (name : List ℕ) (reserve : ℕ) → charge (stamped x (new x.active name reserve)) ≤ charge x + length (new_path x.active)
new_adds_path x name reserve = adds_path x (new x.active name reserve) (new_path x.active) (new_adds x.active name reserve (x.now + 1))

pub put_adds_path : (x : Volume) (n : ℕ) (f : File) (i : ℕ) (block : List ℕ) → fin.get x.active.files n ≡ Some f → charge (stamped x (put x.active n f i block)) ≤ charge x + length (put_path x.active n f i)
put_adds_path x n f i block e = adds_path x (put x.active n f i block) (put_path x.active n f i) (put_adds x.active n f i block (x.now + 1) e)

pub cut_adds_path : (x : Volume) (n : ℕ) (f : File) (most : ℕ) → fin.get x.active.files n ≡ Some f → charge (stamped x (cut x.active n f most)) ≤ charge x + length (cut_path x.active n f most)
cut_adds_path x n f most e = adds_path x (cut x.active n f most) (cut_path x.active n f most) (cut_adds x.active n f most (x.now + 1) e)

pub rm_adds_path : (x : Volume) (n : ℕ) → charge (stamped x (rm x.active n)) ≤ charge x + length (rm_path x.active n)
rm_adds_path x n = adds_path x (rm x.active n) (rm_path x.active n) (rm_adds x.active n (x.now + 1))

-- ---- all ids of a volume
all_kept : (ts : List Table) → set.len (ids_in_any ts) ≤ sum_by (λ t. set.len (ids_of t)) ts
all_kept [] = let none : set.len (set.empty {R = id_cmp}) ≡ 0 = set.len-empty id_cmp in omega (arith, none)
all_kept (t ∷ ts) =
    let rest = all_kept ts in
    let both : set.len (set.union (ids_of t) (ids_in_any ts)) ≡ set.len (ids_of t) + set.len (set.difference (ids_in_any ts) (ids_of t)) = len_union id_total id_ties (ids_of t) (ids_in_any ts) in
    let less : set.len (set.difference (ids_in_any ts) (ids_of t)) + set.len (set.intersection (ids_in_any ts) (ids_of t)) ≡ set.len (ids_in_any ts) = len_difference id_total id_ties (ids_in_any ts) (ids_of t) in
    let sum = sum_by-cons (λ t. set.len (ids_of t)) t ts in
    omega (arith, rest, both, less, sum)

pub charge_within : (x : Volume) → charge x ≤ ids_and_maps x
unfolding charge
charge_within x =
    let kept = all_kept (fin.values x.snapshots) in
    let all : set.len (set.union (ids_of x.active) (kept_ids x)) ≡ set.len (ids_of x.active) + set.len (set.difference (kept_ids x) (ids_of x.active)) = len_union id_total id_ties (ids_of x.active) (kept_ids x) in
    let some : set.len (set.difference (kept_ids x) (ids_of x.active)) + set.len (set.intersection (kept_ids x) (ids_of x.active)) ≡ set.len (kept_ids x) = len_difference id_total id_ties (kept_ids x) (ids_of x.active) in
    let less : set.len (set.difference (set.union (ids_of x.active) (kept_ids x)) (ids_left_out x.base)) + set.len (set.intersection (set.union (ids_of x.active) (kept_ids x)) (ids_left_out x.base)) ≡ set.len (set.union (ids_of x.active) (kept_ids x)) = len_difference id_total id_ties (set.union (ids_of x.active) (kept_ids x)) (ids_left_out x.base) in
    within _ _ _ (map_blocks x.span * fin.len x.snapshots) (omega (arith, kept, all, some, less))
  where
    within : (a b c m : ℕ) → a ≤ b + c → a + m ≤ (b + c) + m
    within a b c m le = omega arith
