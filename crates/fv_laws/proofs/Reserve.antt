-- A write below a reserve uses no more.
use Rattle.std.proofs.Common.{◌⊎◌, ◌≡◌, ℕ, ◌+◌, ◌-◌, ◌*◌, ◌/◌, ◌^◌, ◌<◌, ◌≤◌, Bool, true, false, cond, ◌||◌, nat_lt, List, [], ◌∷◌, ◌++◌, map, filter, flat_map, Option, Some, None, sum_by, count_by, inl, inr, ⊎_elim, refl, sym, ap, subst, ◌∙◌, arith, Less, Equal, Greater}
use Rattle.std.specs.List.{range_with_len}
use Rattle.std.specs.Option.{option_map_or}
use Rattle.std.specs.Ordering.{nat_cmp, is_eq}
use Rattle.std.specs.Cmp.{nat_cmp_total}
use Rattle.std.specs.FinMap as fin
use Rattle.std.specs.FinMap.{find}
use Rattle.std.specs.FinSet as set
use Rattle.std.proofs.Math.Nat.{div-mul-le_self, div-le_self}
use Rattle.std.proofs.lemmas.List.{append-nil}
use Rattle.std.proofs.lemmas.Bool.Decides.{nat_tests}
use Rattle.fv_model.specs.Trees.{fan, Spot, Tree, levels_with, spots_over, spots_grown, written, written_spots}
use Rattle.fv_model.specs.Tables.{File, Table, inode_cell, file_put, put}
use Rattle.fv_model.specs.Places.{id_cmp, InodeFile, OfFile, Place, placed, Stamps, Ids, ids_of, stamps_of}
use Rattle.fv_model.specs.Volumes.{Base, Volume}
use Rattle.fv_model.specs.Space.{map_blocks, base_ids, ids_left_out, kept_ids, charge, reserved_at, reserved_places, needs_block, shared_ids, is_file_kind, need, use_of}
use Rattle.fv_model.specs.Effects.{stamped}
use Rattle.fv_laws.proofs.Orders.{id_total}
use Rattle.fv_laws.proofs.Lists.{In, in_left, in_right, in_either, in_filter, in_map, from_map, in_flat_map, in_range}
use Rattle.fv_laws.proofs.Maps.{sum-insert}
use Rattle.fv_laws.proofs.Ids.{charged}
use Rattle.fv_laws.proofs.Need.{needed, both_step}
use Rattle.fv_laws.proofs.Stamps.{stamp_all, put_places, stamps-put}
use Rattle.fv_laws.proofs.SetCounts.{IsPart, or_true}

-- the levels of each file reach its reserve, those of the inode file reach each file's cell, and no id that a snapshot or
-- the base has is newer than the volume's last change
pub record IsSound (x : Volume) : Type 0 where
  pub reaches : (n : ℕ) (f : File) → fin.get x.active.files n ≡ Some f → f.reserve ≤ fan ^ f.tree.levels
  pub holds : (n : ℕ) (f : File) → fin.get x.active.files n ≡ Some f → inode_cell n < fan ^ x.active.inode.levels
  pub old : (p : Place) (s : ℕ) → x.now < s → set.contains (shared_ids x) (p, s) ≡ false

-- ---- one stamp after another
both_steps : {E : Type 0} (places : E → List Place) (shared : Ids) (es : List E) (m : Stamps) (ps : List Place) (s : ℕ) (kept out : Ids) (e : E) → IsPart kept shared → IsPart out shared → ((q : Place) → set.contains shared (q, s) ≡ false) → In e es → ((q : Place) → In q ps → In q (places e)) →
    set.len (charged (stamp_all s ps m) kept out) + needed places shared es (stamp_all s ps m) ≤ set.len (charged m kept out) + needed places shared es m
unfolding stamp_all
both_steps places shared es m [] s kept out e in_kept in_out fresh there within = omega arith
both_steps places shared es m (p ∷ ps) s kept out e in_kept in_out fresh there within =
    let first = both_step places shared es m p s kept out e in_kept in_out (fresh p) there (within p (inl refl)) in
    let rest = both_steps places shared es (fin.insert m p s) ps s kept out e in_kept in_out fresh there (λ q h. within q (inr h)) in
    omega (arith, first, rest)

-- ---- the places of a write below the reserve are reserved
pub no_growth : (levels i : ℕ) → i < fan ^ levels → levels_with levels i ≡ levels
unfolding levels_with
no_growth levels i below = let yes : nat_lt i (fan ^ levels) ≡ true = grind (arith, nat_tests) in rw yes refl

none_grown : (any : Bool) (levels : ℕ) → spots_grown any levels levels ≡ []
unfolding spots_grown
none_grown any levels = let zero_is : levels - levels ≡ 0 = omega arith in rw zero_is (by any)
  where
    by : (b : Bool) → ◌≡◌ {A = List Spot} (cond b [] []) []
    by true = refl
    by false = refl

pub written_over : (t : Tree) (i : ℕ) → i < fan ^ t.levels → written_spots t i ≡ spots_over t.levels i
written_over t i below =
    (λ j. spots_over (no_growth t.levels i below j) i ++ spots_grown (nat_lt 0 (fin.len t.stamps)) t.levels (no_growth t.levels i below j))
    ∙ ap (λ (g : List Spot). spots_over t.levels i ++ g) (none_grown (nat_lt 0 (fin.len t.stamps)) t.levels) ∙ append-nil (spots_over t.levels i)

-- the range over cell i of a level
reserved_one : (n reserve i k : ℕ) → i < reserve → In (placed (OfFile n) (k, i / fan ^ k)) (reserved_at n reserve k)
unfolding reserved_at
reserved_one n reserve i k below =
    let start : i / fan ^ k * fan ^ k ≤ i = div-mul-le_self i (fan ^ k) in
    let small : i / fan ^ k ≤ i = div-le_self i (fan ^ k) in
    in_map (λ p. record { owner = OfFile n; level = k; index = p }) (i / fan ^ k) (filter (λ p. nat_lt (p * fan ^ k) reserve) (range_with_len 0 reserve))
    (in_filter (λ p. nat_lt (p * fan ^ k) reserve) (i / fan ^ k) (range_with_len 0 reserve) (in_range 0 reserve (i / fan ^ k) (omega arith) (omega arith)) (grind (arith, nat_tests)))

in_file : (n reserve levels i : ℕ) → i < reserve → (q : Place) → In q (map (placed (OfFile n)) (spots_over levels i)) → In q (flat_map (reserved_at n reserve) (range_with_len 0 (levels + 1)))
unfolding spots_over
in_file n reserve levels i below q h =
    let spot = from_map (placed (OfFile n)) q (map (λ k. (k, i / fan ^ k)) (range_with_len 0 (levels + 1))) h in
    let level = from_map (λ (k : ℕ). (k, i / fan ^ k)) spot.0 (range_with_len 0 (levels + 1)) spot.1 in
    in_flat_map (reserved_at n reserve) level.0 q (range_with_len 0 (levels + 1)) level.1
    (subst (λ z. In z (reserved_at n reserve level.0)) (ap (placed (OfFile n)) level.2 ∙ spot.2) (reserved_one n reserve i level.0 below))

all_reserved : (t : Table) (n : ℕ) (f : File) (i : ℕ) → i < f.reserve → f.reserve ≤ fan ^ f.tree.levels → inode_cell n < fan ^ t.inode.levels → (q : Place) → In q (put_places t n f i) → In q (reserved_places t.inode.levels n f)
unfolding reserved_places
all_reserved t n f i below reaches holds q h =
    let some : nat_lt 0 f.reserve ≡ true = grind (arith, nat_tests) in
    rw some (⊎_elim
    (λ l. in_left q (flat_map (reserved_at n f.reserve) (range_with_len 0 (f.tree.levels + 1))) _ (in_file n f.reserve f.tree.levels i below q (subst (λ (ps : List Spot). In q (map (placed (OfFile n)) ps)) (written_over f.tree i (omega arith)) l)))
    (λ r. in_right q (flat_map (reserved_at n f.reserve) (range_with_len 0 (f.tree.levels + 1))) _ (subst (λ (ps : List Spot). In q (map (placed InodeFile) ps)) (written_over t.inode (inode_cell n) holds) r))
    (in_either q (map (placed (OfFile n)) (written_spots f.tree i)) (map (placed InodeFile) (written_spots t.inode (inode_cell n))) h))

-- ---- an entry of a map is among its entries
found_in : {X : Type 0} (n : ℕ) (x : X) (es : List (ℕ × X)) → find nat_cmp n es ≡ Some x → In (n, x) es
found_in n x [] e = absurd cc
found_in n x (y ∷ es) e =
    elim (nat_cmp n y.0) as (λ r. nat_cmp n y.0 ≡ r → cond (is_eq r) (Some y.1) (find nat_cmp n es) ≡ Some x → (y ≡ (n, x)) ⊎ In (n, x) es) [
      | Less ↦ λ d h. inr (found_in n x es h)
      | Greater ↦ λ d h. inr (found_in n x es h)
      | Equal ↦ λ d h. let value : y.1 ≡ x = cc in let key : n ≡ y.0 = fin.nat_cmp-IsAntisymmetric n y.0 d in inl (λ i. (sym key i, value i))
    ] refl e

pub among : {X : Type 0} (m : fin.FinMap nat_cmp X) (n : ℕ) (x : X) → fin.get m n ≡ Some x → In (n, x) (fin.entries m)
among m n x e = found_in n x (fin.entries m) (sym (fin.get-entries m n) ∙ e)

-- ---- what is kept and what is left out is shared
pub kept_shared : (x : Volume) → IsPart (kept_ids x) (shared_ids x)
kept_shared x q h = set.contains-union id_total (kept_ids x) (base_ids x.base) q ∙ ap (λ b. b || set.contains (base_ids x.base) q) h

out_in_base : (base : Option Base) → IsPart (ids_left_out base) (base_ids base)
out_in_base None q h = h
out_in_base (Some b) q h = by b.splitting h
  where
    by : (s : Bool) → set.contains (cond s set.empty (ids_of b.table)) q ≡ true → set.contains (ids_of b.table) q ≡ true
    by true h = let no : false ≡ true = sym (set.contains-empty id_cmp q) ∙ h in absurd cc
    by false h = h

pub out_shared : (x : Volume) → IsPart (ids_left_out x.base) (shared_ids x)
out_shared x q h = set.contains-union id_total (kept_ids x) (base_ids x.base) q ∙ ap (λ b. set.contains (kept_ids x) q || b) (out_in_base x.base q h) ∙ or_true (set.contains (kept_ids x) q)

-- ---- the need after the write
same_levels : (t : Table) (n : ℕ) (f : File) (i : ℕ) (block : List ℕ) (s : ℕ) → inode_cell n < fan ^ t.inode.levels → (put t n f i block s).inode.levels ≡ t.inode.levels
unfolding put written
same_levels t n f i block s holds = no_growth t.inode.levels (inode_cell n) holds

same_files : (t : Table) (n : ℕ) (f : File) (i : ℕ) (block : List ℕ) (s : ℕ) → (put t n f i block s).files ≡ fin.insert t.files n (file_put f i block s)
unfolding put
same_files t n f i block s = refl

same_reserved : (levels n : ℕ) (f : File) (i : ℕ) (block : List ℕ) (s : ℕ) → i < fan ^ f.tree.levels → reserved_places levels n (file_put f i block s) ≡ reserved_places levels n f
unfolding reserved_places written
same_reserved levels n f i block s below =
    λ j. cond (nat_lt 0 f.reserve) (flat_map (reserved_at n f.reserve) (range_with_len 0 (no_growth f.tree.levels i below j + 1)) ++ map (placed InodeFile) (spots_over levels (inode_cell n))) []

abbrev reserves : Ids → Stamps → ℕ → fin.FinMap nat_cmp File → ℕ
reserves shared m levels files = sum_by (λ (e : ℕ × File). count_by (needs_block shared m) (reserved_places levels e.0 e.1)) (fin.entries files)

cancel : (a b c d : ℕ) → c ≡ d → a + c ≡ b + d → a ≡ b
cancel a b c d e h = omega arith

same_sum : (shared : Ids) (m : Stamps) (levels : ℕ) (files : fin.FinMap nat_cmp File) (n : ℕ) (f g : File) → fin.get files n ≡ Some f → reserved_places levels n g ≡ reserved_places levels n f → reserves shared m levels (fin.insert files n g) ≡ reserves shared m levels files
same_sum shared m levels files n f g there same =
    cancel _ _ _ _ (ap (count_by (needs_block shared m)) (sym same))
    (ap (λ (o : Option File). reserves shared m levels (fin.insert files n g) + option_map_or (λ w. count_by (needs_block shared m) (reserved_places levels n w)) o 0) (sym there)
    ∙ sum-insert nat_cmp_total fin.nat_cmp-IsAntisymmetric (λ (e : ℕ × File). count_by (needs_block shared m) (reserved_places levels e.0 e.1)) files n g)

with_maps : (c c' maps r r' : ℕ) (b : Bool) → b ≡ true → c' + r' ≤ c + r → (c' + maps) + cond b r' 0 ≤ (c + maps) + cond b r 0
with_maps c c' maps r r' b is le = rw is (omega arith)

-- a write below the reserve of a file uses no more: where it takes a block, that was needed
pub put_below : (x : Volume) → IsSound x → is_file_kind x.kind ≡ true → (n : ℕ) (f : File) → fin.get x.active.files n ≡ Some f → (i : ℕ) → i < f.reserve → (block : List ℕ) → use_of (stamped x (put x.active n f i block)) ≤ use_of x
unfolding charge need
put_below x sound kind n f there i below block =
    let t = x.active in
    let s = x.now + 1 in
    let after = put t n f i block s in
    let places = λ (e : ℕ × File). reserved_places t.inode.levels e.0 e.1 in
    let reaches = sound.reaches n f there in
    let holds = sound.holds n f there in
    let stamps : stamps_of after ≡ stamp_all s (put_places t n f i) (stamps_of t) = stamps-put t n f i block s there in
    let steps = both_steps places (shared_ids x) (fin.entries t.files) (stamps_of t) (put_places t n f i) s (kept_ids x) (ids_left_out x.base) (n, f) (kept_shared x) (out_shared x) (λ q. sound.old q s (omega arith)) (among t.files n f there) (all_reserved t n f i below reaches holds) in
    let charge_is = ap (λ (m : Stamps). set.len (charged m (kept_ids x) (ids_left_out x.base))) stamps in
    let need_is : reserves (shared_ids x) (stamps_of after) after.inode.levels after.files ≡ reserves (shared_ids x) (stamp_all s (put_places t n f i) (stamps_of t)) t.inode.levels t.files =
    (λ j. reserves (shared_ids x) (stamps j) (same_levels t n f i block s holds j) (same_files t n f i block s j))
    ∙ same_sum (shared_ids x) (stamp_all s (put_places t n f i) (stamps_of t)) t.inode.levels t.files n f (file_put f i block s) there (same_reserved t.inode.levels n f i block s (omega arith)) in
    with_maps _ _ (map_blocks x.span * fin.len x.snapshots) _ _ (is_file_kind x.kind) kind
    (subst (λ (c : ℕ). c + reserves (shared_ids x) (stamps_of after) after.inode.levels after.files ≤ set.len (charged (stamps_of t) (kept_ids x) (ids_left_out x.base)) + reserves (shared_ids x) (stamps_of t) t.inode.levels t.files) (sym charge_is)
    (subst (λ (r : ℕ). set.len (charged (stamp_all s (put_places t n f i) (stamps_of t)) (kept_ids x) (ids_left_out x.base)) + r ≤ set.len (charged (stamps_of t) (kept_ids x) (ids_left_out x.base)) + reserves (shared_ids x) (stamps_of t) t.inode.levels t.files) (sym need_is) steps))
