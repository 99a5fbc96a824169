-- What a volume uses doesn't rise when a snapshot goes, when its split ends, or when its places become known, and a volume
-- without files uses nothing.
use Rattle.std.proofs.Common.{◌≡◌, ◌≤◌, ◌+◌, ◌-◌, ◌*◌, ℕ, Bool, true, false, cond, not, ◌&&◌, ◌||◌, List, [], ◌∷◌, ◌++◌, map, flat_map, length, sum_by, count_by, refl, sym, ap, subst, ◌∙◌, arith, Less, Equal, Greater, Option, Some, None}
use Rattle.std.specs.declared.cmp.Ordering.{Ordering}
use Rattle.std.specs.Ordering.{nat_cmp, eq_by_cmp, is_eq}
use Rattle.std.specs.Cmp.{IsTotalOrder, Equal-is, tied_itself}
use Rattle.std.specs.Option.{option_map_or}
use Rattle.std.specs.List.{list_any}
use Rattle.std.proofs.lemmas.List.Sums.{sum_by-cons}
use Rattle.std.proofs.Math.Nat.{mul-le-mul_left}
use Rattle.std.specs.FinMap as fin
use Rattle.std.specs.FinMap.{find, put}
use Rattle.std.specs.FinMap.Entries.{by_order}
use Rattle.std.specs.FinSet as set
use Rattle.fv_model.specs.declared.commands.Kind.{Kind}
use Rattle.fv_model.specs.Spelling.{name_cmp}
use Rattle.fv_model.specs.Trees.{Spot, spot_cmp}
use Rattle.fv_model.specs.Tables.{File, Table, empty_table}
use Rattle.fv_model.specs.Places.{Id, Ids, Place, placed, place_cmp, InodeFile, OfFile, Stamps, id_cmp, tree_entries, stamps_of, ids, ids_of}
use Rattle.fv_model.specs.Volumes.{Base, Volume}
use Rattle.fv_model.specs.Space.{map_blocks, ids_in_any, base_ids, ids_left_out, kept_ids, shared_ids, charge, need, use_of, reserved_places, needs_block, is_file_kind, span_of}
use Rattle.fv_model.specs.Effects.{empty_volume}
use Rattle.fv_laws.proofs.Orders.{name_total, name_ties, id_total, id_ties}
use Rattle.fv_laws.proofs.SetCounts.{IsPart, either, or_true, len_part, part_union, part_difference}

no_length : {A : Type 0} (es : List A) → length es ≡ 0 → es ≡ []
no_length [] e = refl
no_length (x ∷ es) e = absurd (omega arith)

at_most : (b : Bool) (n : ℕ) → cond b (n - 1) n ≤ n
at_most true n = omega arith
at_most false n = omega arith

sum_le : {a b c d : ℕ} → a ≤ b → c ≤ d → a + c ≤ b + d
sum_le first second = omega (arith, first, second)

one_le : (a b : Bool) → (a ≡ true → b ≡ true) → cond a 1 0 ≤ cond b 1 0
one_le true b more = rw (more refl) (omega arith)
one_le false b more = omega arith

sums_le : {X : Type 0} (f g : X → ℕ) → ((x : X) → f x ≤ g x) → (xs : List X) → sum_by f xs ≤ sum_by g xs
sums_le f g each [] = omega arith
sums_le f g each (x ∷ xs) =
    let here : f x ≤ g x = each x in
    let later : sum_by f xs ≤ sum_by g xs = sums_le f g each xs in
    omega (arith, here, later, sum_by-cons f x xs, sum_by-cons g x xs)

counts_le : {X : Type 0} (p q : X → Bool) → ((x : X) → p x ≡ true → q x ≡ true) → (xs : List X) → count_by p xs ≤ count_by q xs
counts_le p q more xs = sums_le (λ x. cond (p x) 1 0) (λ x. cond (q x) 1 0) (λ x. one_le (p x) (q x) (more x)) xs

-- ---- maps: what goes can be put back, and adds values
module _ {K X : Type 0} (R : K → K → Ordering) where
  no_less : (p : X → Bool) (k : K) (v : X) (es : List (K × X)) → find R k es ≡ None → list_any p (map (λ e. e.1) es) ≡ true → list_any p (map (λ e. e.1) (put R k v es)) ≡ true
  no_less p k v [] none one = cc
  no_less p k v (e ∷ es) none one =
      elim (R k e.0) as (λ r. cond (is_eq r) (Some e.1) (find R k es) ≡ None → list_any p (map (λ e. e.1) (by_order r ((k, v) ∷ e ∷ es) ((e.0, v) ∷ es) (e ∷ put R k v es))) ≡ true) [
        | Less ↦ λ none. rw one (or_true (p v))
        | Equal ↦ λ none. cc
        | Greater ↦ λ none. either (p e.1) (list_any p (map (λ e. e.1) es)) _ (λ here. rw here refl) (λ later. rw (no_less p k v es none later) (or_true (p e.1))) one
      ] none

  pub no_entries : fin.entries (fin.empty {K = K} {X = X} {R = R}) ≡ []
  no_entries = no_length _ (sym (fin.len-entries (fin.empty {K = K} {X = X} {R = R})) ∙ fin.len-empty R X)

module _ {K X : Type 0} {R : K → K → Ordering} (o : IsTotalOrder R) (same : fin.IsAntisymmetric R) where
  back : (m : fin.FinMap R X) (k : K) (v : X) (q : K) (b : Bool) → fin.get m k ≡ Some v → eq_by_cmp R q k ≡ b → cond b (Some v) (cond b None (fin.get m q)) ≡ fin.get m q
  back m k v q true there tie = sym there ∙ ap (fin.get m) (sym (same q k ((Equal-is (R q k)).0 tie)))
  back m k v q false there tie = refl

  put_back : (m : fin.FinMap R X) (k : K) (v : X) → fin.get m k ≡ Some v → fin.insert (fin.remove m k) k v ≡ m
  put_back m k v there = fin.same_map o same _ m (λ q.
      fin.get-insert o (fin.remove m k) k v q ∙ ap (λ (x : Option X). cond (eq_by_cmp R q k) (Some v) x) (fin.get-remove o m k q) ∙ back m k v q (eq_by_cmp R q k) there refl)

  absent : (m : fin.FinMap R X) (k q : K) (b : Bool) → fin.get m k ≡ None → eq_by_cmp R q k ≡ b → cond b None (fin.get m q) ≡ fin.get m q
  absent m k q true missing tie = sym missing ∙ ap (fin.get m) (sym (same q k ((Equal-is (R q k)).0 tie)))
  absent m k q false missing tie = refl

  none_removed : (m : fin.FinMap R X) (k : K) → fin.get m k ≡ None → fin.remove m k ≡ m
  none_removed m k none = fin.same_map o same _ m (λ q. fin.get-remove o m k q ∙ absent m k q (eq_by_cmp R q k) none refl)

  gone : (m : fin.FinMap R X) (k : K) → find R k (fin.entries (fin.remove m k)) ≡ None
  gone m k = sym (fin.get-entries (fin.remove m k) k) ∙ fin.get-remove o m k k ∙ ap (λ r. cond (is_eq r) None (fin.get m k)) (tied_itself o k)

  -- a value that is left was there
  was_there : (p : X → Bool) (m : fin.FinMap R X) (k : K) → list_any p (fin.values (fin.remove m k)) ≡ true → list_any p (fin.values m) ≡ true
  was_there p m k one =
      elim (fin.get m k) as (λ v. fin.get m k ≡ v → list_any p (fin.values m) ≡ true) [
        | None ↦ λ none. ap (λ (n : fin.FinMap R X). list_any p (fin.values n)) (sym (none_removed m k none)) ∙ one
        | Some v ↦ λ there.
            ap (λ (n : fin.FinMap R X). list_any p (fin.values n)) (sym (put_back m k v there))
            ∙ ap (λ (es : List (K × X)). list_any p (map (λ e. e.1) es)) (fin.entries-insert o (fin.remove m k) k v)
            ∙ no_less R p k v (fin.entries (fin.remove m k)) (gone m k) one
      ] refl

  no_longer : (m : fin.FinMap R X) (k : K) → fin.len (fin.remove m k) ≤ fin.len m
  no_longer m k = subst (λ (n : ℕ). n ≤ fin.len m) (sym (fin.len-remove o m k)) (at_most (fin.contains_key m k) (fin.len m))

-- ---- ids
pub in_any : (ts : List Table) (q : Id) → set.contains (ids_in_any ts) q ≡ list_any (λ t. set.contains (ids_of t) q) ts
in_any [] q = set.contains-empty id_cmp q
in_any (t ∷ ts) q = set.contains-union id_total (ids_of t) (ids_in_any ts) q ∙ ap (λ b. set.contains (ids_of t) q || b) (in_any ts q)

kept_less : (m : fin.FinMap name_cmp Table) (s : List ℕ) → IsPart (ids_in_any (fin.values (fin.remove m s))) (ids_in_any (fin.values m))
kept_less m s q one =
    in_any (fin.values m) q ∙ was_there name_total name_ties (λ t. set.contains (ids_of t) q) m s (sym (in_any (fin.values (fin.remove m s)) q) ∙ one)

all_of : (s : Ids) → IsPart s s
all_of s q one = one

of_none : (s : Ids) → IsPart set.empty s
of_none s q one = let wrong : false ≡ true = sym (set.contains-empty id_cmp q) ∙ one in cc

-- a base that is being split from isn't left out
nothing_left_out : (base : Option Base) → option_map_or (λ b. b.splitting) base false ≡ true → IsPart (ids_left_out base) set.empty
nothing_left_out None splits = cc
nothing_left_out (Some b) splits = subst (λ (x : Bool). IsPart (cond x set.empty (ids_of b.table)) set.empty) (sym splits) (all_of set.empty)

-- ---- charge and need
charge_less : (active kept kept' out out' : Ids) (maps n n' : ℕ) → IsPart kept' kept → IsPart out out' → n' ≤ n →
    set.len (set.difference (set.union active kept') out') + maps * n' ≤ set.len (set.difference (set.union active kept) out) + maps * n
charge_less active kept kept' out out' maps n n' fewer more le =
    sum_le (len_part id_total id_ties _ _ (part_difference id_total id_ties (set.union active kept') (set.union active kept) out out' (part_union id_total id_ties active active kept' kept (all_of active) fewer) more)) (mul-le-mul_left maps le)

stands_less : (s s' : Ids) → IsPart s' s → (p : Place) (stamp : Option ℕ) → option_map_or (λ n. set.contains s' (p, n)) stamp true ≡ true → option_map_or (λ n. set.contains s (p, n)) stamp true ≡ true
stands_less s s' part p None one = refl
stands_less s s' part p (Some n) one = part (p, n) one

needs_less : (s s' : Ids) (stamps : Stamps) → IsPart s' s → (p : Place) → needs_block s' stamps p ≡ true → needs_block s stamps p ≡ true
unfolding needs_block
needs_less s s' stamps part p = stands_less s s' part p (fin.get stamps p)

abbrev reserves : Ids → Table → ℕ
reserves shared active = sum_by (λ e. count_by (needs_block shared (stamps_of active)) (reserved_places active.inode.levels e.0 e.1)) (fin.entries active.files)

reserves_less : (s s' : Ids) (t : Table) → IsPart s' s → reserves s' t ≤ reserves s t
reserves_less s s' t part =
    sums_le _ _ (λ (e : ℕ × File). counts_le (needs_block s' (stamps_of t)) (needs_block s (stamps_of t)) (needs_less s s' (stamps_of t) part) (reserved_places t.inode.levels e.0 e.1)) (fin.entries t.files)

need_less : (b : Bool) (s s' : Ids) (t : Table) → IsPart s' s → cond b (reserves s' t) 0 ≤ cond b (reserves s t) 0
need_less true s s' t part = reserves_less s s' t part
need_less false s s' t part = omega arith

-- ---- the laws
pub use_without_snapshot : (v : Volume) (s : List ℕ) → use_of (record v { snapshots = fin.remove v.snapshots s }) ≤ use_of v
unfolding charge need
use_without_snapshot v s =
    let kept' : Ids = ids_in_any (fin.values (fin.remove v.snapshots s)) in
    sum_le
    (charge_less (ids_of v.active) (kept_ids v) kept' (ids_left_out v.base) (ids_left_out v.base) (map_blocks v.span) (fin.len v.snapshots) (fin.len (fin.remove v.snapshots s)) (kept_less v.snapshots s) (all_of _) (no_longer name_total name_ties v.snapshots s))
    (need_less (is_file_kind v.kind) (shared_ids v) (set.union kept' (base_ids v.base)) v.active (part_union id_total id_ties kept' (kept_ids v) (base_ids v.base) (base_ids v.base) (kept_less v.snapshots s) (all_of _)))

pub use_once_split : (v : Volume) → option_map_or (λ b. b.splitting) v.base false ≡ true → use_of (record v { base = None }) ≤ use_of v
unfolding charge need
use_once_split v splits =
    sum_le
    (charge_less (ids_of v.active) (kept_ids v) (kept_ids v) (ids_left_out v.base) set.empty (map_blocks v.span) (fin.len v.snapshots) (fin.len v.snapshots) (all_of _) (nothing_left_out v.base splits) (omega arith))
    (need_less (is_file_kind v.kind) (shared_ids v) (set.union (kept_ids v) set.empty) v.active (part_union id_total id_ties (kept_ids v) (kept_ids v) set.empty (base_ids v.base) (all_of _) (of_none _)))

pub use_once_clean : (v : Volume) → use_of (record v { known = true }) ≡ use_of v
unfolding charge need
use_once_clean v = refl

-- ---- a volume without files
no_ids : ids_of empty_table ≡ set.empty
unfolding ids stamps_of
no_ids =
    (λ i. set.from_list {R = id_cmp} (fin.entries (fin.from_entries {R = place_cmp} (map (λ (e : Spot × ℕ). (placed InodeFile e.0, e.1)) (no_entries spot_cmp i) ++ flat_map (λ (e : ℕ × File). tree_entries (OfFile e.0) e.1.tree) (no_entries nat_cmp i)))))
    ∙ ap (λ (es : List Id). set.from_list {R = id_cmp} es) (no_entries place_cmp)

abbrev nothing : Ids
nothing = set.difference (set.union set.empty set.empty) set.empty

nothing_has : (q : Id) → set.contains nothing q ≡ false
nothing_has q =
    set.contains-difference id_total (set.union set.empty set.empty) set.empty q
    ∙ ap (λ b. b && not (set.contains (set.empty {R = id_cmp}) q)) (set.contains-union id_total set.empty set.empty q ∙ ap (λ b. b || b) (set.contains-empty id_cmp q))

nothing_is : nothing ≡ set.empty
nothing_is = set.same_set id_total id_ties nothing set.empty (λ q. nothing_has q ∙ sym (set.contains-empty id_cmp q))

no_charge : set.len (set.difference (set.union (ids_of empty_table) (ids_in_any (fin.values (fin.empty {R = name_cmp})))) set.empty) ≡ 0
no_charge =
    (λ i. set.len (set.difference (set.union (no_ids i) (ids_in_any (map (λ (e : List ℕ × Table). e.1) (no_entries name_cmp i)))) set.empty))
    ∙ ap set.len nothing_is ∙ set.len-empty id_cmp

zeros : (maps : ℕ) (b : Bool) → (0 + maps * 0) + cond b 0 0 ≡ 0
zeros maps true = omega arith
zeros maps false = omega arith

pub use_when_empty : (size : ℕ) (kind : Kind) → use_of (empty_volume size kind) ≡ 0
unfolding charge need
use_when_empty size kind =
    (λ i. (no_charge i + map_blocks (span_of size 0 0) * fin.len-empty name_cmp Table i) + cond (is_file_kind kind) (sum_by (λ (e : ℕ × File). count_by (needs_block (shared_ids (empty_volume size kind)) (stamps_of empty_table)) (reserved_places 0 e.0 e.1)) (no_entries nat_cmp i)) 0)
    ∙ zeros (map_blocks (span_of size 0 0)) (is_file_kind kind)
