-- What a volume is charged after a change, with snapshots and bases; and that without them a removal is never refused for space.
use Rattle.std.proofs.Common.{◌≡◌, ℕ, ◌+◌, ◌≤◌, Bool, true, false, cond, ◌||◌, nat_lt, List, [], ◌∷◌, filter, flat_map, sum_by, count_by, Option, Some, None, inl, inr, refl, sym, ap, ◌∙◌, arith}
use Rattle.std.specs.Option.{option_map_or}
use Rattle.std.specs.Ordering.{nat_cmp, eq_by_cmp}
use Rattle.std.specs.Cmp.{nat_cmp_total}
use Rattle.std.specs.FinMap as fin
use Rattle.std.specs.FinSet as set
use Rattle.std.proofs.lemmas.Bool.Decides.{nat_tests}
use Rattle.std.proofs.lemmas.List.Sums.{sum_by-cons}
use Rattle.fv_model.specs.Tables.{File, Table, inode_cell, free_number, file_put, file_cut, new, put, cut, rm}
use Rattle.fv_model.specs.Places.{Place, Id, id_cmp, stamps_of}
use Rattle.fv_model.specs.Volumes.{Volume}
use Rattle.fv_model.specs.Machines.{Machine}
use Rattle.fv_model.specs.Space.{ids_left_out, kept_ids, shared_ids, charge, reserved_places, needs_block, is_file_kind, need, use_of, IsAdmitted}
use Rattle.fv_model.specs.Effects.{Becomes, changed, stamped}
use Rattle.fv_model.specs.Refusals.{is_volume_full, is_aggregate_full}
use Rattle.fv_laws.specs.WellFormed.{IsWellTable, IsWellVolume}
use Rattle.fv_laws.specs.Paths.{new_path, put_path, cut_path}
use Rattle.fv_laws.specs.Positions.{positions, added_by, taken_by_cut, taken_by_rm, IsAlone, HasNoReserve, settled_ids, id_at, rm_places, IsNextNew, staying}
use Rattle.fv_laws.proofs.Orders.{id_total}
use Rattle.fv_laws.proofs.Lists.{In}
use Rattle.fv_laws.proofs.Commits.{HasBudgetOf, now_there, is_within, uses_less}
use Rattle.fv_laws.proofs.Reserve.{kept_shared, out_shared}
use Rattle.fv_laws.proofs.Sound.{sound}
use Rattle.fv_laws.proofs.Room.{entry_there}
use Rattle.fv_laws.proofs.Charges.{charge_after, kept_none, out_none}
use Rattle.fv_laws.proofs.Moves.{new_positions, put_positions, cut_positions, rm_positions, cut_charge, rm_charge}
use Rattle.fv_laws.proofs.Along.{new_along, put_along, cut_along, rm_along}

-- ---- every volume

none_of : (a b : Bool) → (a ≡ true → b ≡ true) → b ≡ false → a ≡ false
none_of true b h e = sym (h refl) ∙ e
none_of false b h e = refl

-- the stamp of the next change is new
pub next_new : (x : Volume) → IsWellVolume x → IsNextNew x
next_new x is p =
    let old = (sound x is).old p (x.now + 1) (omega arith) in
    set.contains-union id_total (kept_ids x) (ids_left_out x.base) (p, x.now + 1)
    ∙ (λ i. none_of (set.contains (kept_ids x) (p, x.now + 1)) (set.contains (shared_ids x) (p, x.now + 1)) (kept_shared x (p, x.now + 1)) old i
    || none_of (set.contains (ids_left_out x.base) (p, x.now + 1)) (set.contains (shared_ids x) (p, x.now + 1)) (out_shared x (p, x.now + 1)) old i)

-- In a volume alone nothing stays.
pub none_stay : (x : Volume) → IsAlone x → (path : List Place) → staying x path ≡ 0
unfolding staying
none_stay x alone path = ap (λ ids. set.len (set.from_list {R = id_cmp} ids)) (so (flat_map (id_at x.active) path)) ∙ set.len-empty id_cmp
  where
    none : (q : Id) → set.contains (settled_ids x) q ≡ false
    none q = set.contains-union id_total (kept_ids x) (ids_left_out x.base) q ∙ (λ i. kept_none x alone q i || out_none x alone q i)

    so : (ids : List Id) → filter (set.contains (settled_ids x)) ids ≡ []
    so [] = refl
    so (q ∷ ids) = ap (λ b. cond b (q ∷ filter (set.contains (settled_ids x)) ids) (filter (set.contains (settled_ids x)) ids)) (none q) ∙ so ids

added : (c p d q a st : ℕ) → d + p ≡ c + q + st → q ≡ p + a → d ≡ c + a + st
added c p d q a st e f = omega (arith, e, f)

taken : (c p d q a st : ℕ) → d + p ≡ c + q + st → q + a ≡ p → d + a ≡ c + st
taken c p d q a st e f = omega (arith, e, f)

module _ (x : Volume) (is : IsWellVolume x) where
  abbrev t : Table
  t = x.active

  abbrev s : ℕ
  s = x.now + 1

  pub new_charged : (name : List ℕ) (reserve : ℕ) → charge (stamped x (new t name reserve)) ≡ charge x + added_by t.inode (inode_cell (free_number t)) + staying x (new_path t)
  new_charged name reserve = added (charge x) (positions t) (charge (stamped x (new t name reserve))) (positions (new t name reserve s)) (added_by t.inode (inode_cell (free_number t))) (staying x (new_path t))
      (charge_after x (new t name reserve) (new_path t) (new_along t name reserve s) (next_new x is)) (new_positions x.now s t is.active name reserve)

  pub put_charged : (n : ℕ) (f : File) (i : ℕ) (block : List ℕ) → fin.get t.files n ≡ Some f → charge (stamped x (put t n f i block)) ≡ charge x + added_by f.tree i + staying x (put_path t n f i)
  put_charged n f i block there = added (charge x) (positions t) (charge (stamped x (put t n f i block))) (positions (put t n f i block s)) (added_by f.tree i) (staying x (put_path t n f i))
      (charge_after x (put t n f i block) (put_path t n f i) (put_along t n f i block s there) (next_new x is)) (put_positions x.now s t is.active n f i block there)

  pub cut_charged : (n : ℕ) (f : File) (most : ℕ) → fin.get t.files n ≡ Some f → charge (stamped x (cut t n f most)) + taken_by_cut f most ≡ charge x + staying x (cut_path t n f most)
  cut_charged n f most there = taken (charge x) (positions t) (charge (stamped x (cut t n f most))) (positions (cut t n f most s)) (taken_by_cut f most) (staying x (cut_path t n f most))
      (charge_after x (cut t n f most) (cut_path t n f most) (cut_along x.now s t is.active n f there most) (next_new x is)) (cut_positions x.now s t is.active (omega arith) n f most there)

  pub rm_charged : (n : ℕ) (f : File) → fin.get t.files n ≡ Some f → charge (stamped x (rm t n)) + taken_by_rm t n f ≡ charge x + staying x (rm_places t n f)
  rm_charged n f there = taken (charge x) (positions t) (charge (stamped x (rm t n))) (positions (rm t n s)) (taken_by_rm t n f) (staying x (rm_places t n f))
      (charge_after x (rm t n) (rm_places t n f) (rm_along x.now s t is.active n f there) (next_new x is)) (rm_positions x.now s t is.active (omega arith) n f there)

-- ---- no reserves

abbrev needed_by : Volume → ℕ × File → ℕ
needed_by x e = count_by (needs_block (shared_ids x) (stamps_of x.active)) (reserved_places x.active.inode.levels e.0 e.1)

-- Without reserves nothing is needed.
pub no_need : (x : Volume) → HasNoReserve x.active → need x ≡ 0
unfolding need reserved_places
no_need x none = so (is_file_kind x.kind)
  where
    nothing : (e : ℕ × File) → e.1.reserve ≡ 0 → needed_by x e ≡ 0
    nothing e zero_is = rw (let no : nat_lt 0 e.1.reserve ≡ false = grind (arith, nat_tests, zero_is) in no) refl

    all : (es : List (ℕ × File)) → ((e : ℕ × File) → In e es → In e (fin.entries x.active.files)) → sum_by (needed_by x) es ≡ 0
    all [] part = refl
    all (e ∷ es) part =
        let rest : sum_by (needed_by x) es ≡ 0 = all es (λ y h. part y (inr h)) in
        let here : needed_by x e ≡ 0 = nothing e (none e.0 e.1 (entry_there nat_cmp_total x.active.files e (part e (inl refl)))) in
        omega (arith, sum_by-cons (needed_by x) e es, rest, here)

    so : (b : Bool) → cond b (sum_by (needed_by x) (fin.entries x.active.files)) 0 ≡ 0
    so true = all (fin.entries x.active.files) (λ e h. h)
    so false = refl

replaced : (files : fin.FinMap nat_cmp File) (n : ℕ) (g : File) → g.reserve ≡ 0 → ((k : ℕ) (f : File) → fin.get files k ≡ Some f → f.reserve ≡ 0) → (k : ℕ) (f : File) → fin.get (fin.insert files n g) k ≡ Some f → f.reserve ≡ 0
replaced files n g none each k f e = so (eq_by_cmp nat_cmp k n) (sym (fin.get-insert nat_cmp_total files n g k) ∙ e)
  where
    so : (b : Bool) → cond b (Some g) (fin.get files k) ≡ Some f → f.reserve ≡ 0
    so true e = let same : f ≡ g = cc in ap (λ (f : File). f.reserve) same ∙ none
    so false e = each k f e

module _ (t : Table) (none : HasNoReserve t) where
  pub new_unreserved : (name : List ℕ) (s : ℕ) → HasNoReserve (new t name 0 s)
  unfolding new
  new_unreserved name s = replaced t.files (free_number t) _ refl none

  pub put_unreserved : (n : ℕ) (f : File) (i : ℕ) (block : List ℕ) (s : ℕ) → fin.get t.files n ≡ Some f → HasNoReserve (put t n f i block s)
  unfolding put
  put_unreserved n f i block s there = replaced t.files n (file_put f i block s) (none n f there) none

  pub cut_unreserved : (n : ℕ) (f : File) (most s : ℕ) → fin.get t.files n ≡ Some f → HasNoReserve (cut t n f most s)
  unfolding cut
  cut_unreserved n f most s there = replaced t.files n (file_cut f most s) (none n f there) none

  pub rm_unreserved : (n s : ℕ) → HasNoReserve (rm t n s)
  unfolding rm
  rm_unreserved n s k f e = so (eq_by_cmp nat_cmp k n) (sym (fin.get-remove nat_cmp_total t.files n k) ∙ e)
    where
      so : (b : Bool) → cond b None (fin.get t.files k) ≡ Some f → f.reserve ≡ 0
      so true e = absurd cc
      so false e = none k f e

-- ---- a removal is never refused for space

-- A volume that becomes one of the same span, kind and size that uses no more is never full for it, nor is the aggregate.
pub never_full : (m : Machine) (v : List ℕ) (x y : Volume) → IsAdmitted m → fin.get m.volumes v ≡ Some x → HasBudgetOf x y → use_of y ≤ use_of x → (is_volume_full (changed m (Becomes v y)) v ≡ false) × (is_aggregate_full (changed m (Becomes v y)) ≡ false)
never_full m v x y ok there budget less =
    let left : IsAdmitted (changed m (Becomes v y)) = uses_less m v x y there budget less ok in
    let fits : use_of y ≤ y.size = left.volumes v y (now_there m v y) in (
      ap (λ (o : Option Volume). option_map_or (λ (w : Volume). nat_lt w.size (use_of w)) o false) (now_there m v y) ∙ (let no : nat_lt y.size (use_of y) ≡ false = grind (arith, nat_tests, fits) in no),
      is_within (changed m (Becomes v y)) left.aggregate,
    )

module _ (x : Volume) (alone : IsAlone x) (is : IsWellTable x.now x.active) (none : HasNoReserve x.active) where
  pub cut_uses_less : (n : ℕ) (f : File) (most : ℕ) → fin.get x.active.files n ≡ Some f → use_of (stamped x (cut x.active n f most)) ≤ use_of x
  cut_uses_less n f most there =
      let y = stamped x (cut x.active n f most) in
      omega (arith, cut_charge x alone is n f most there, no_need x none, no_need y (cut_unreserved x.active none n f most (x.now + 1) there))

  pub rm_uses_less : (n : ℕ) (f : File) → fin.get x.active.files n ≡ Some f → use_of (stamped x (rm x.active n)) ≤ use_of x
  rm_uses_less n f there =
      let y = stamped x (rm x.active n) in
      omega (arith, rm_charge x alone is n f there, no_need x none, no_need y (rm_unreserved x.active none n (x.now + 1)))
