-- A volume without files and snapshots uses nothing.
use Rattle.std.proofs.Common.{◌≡◌, ℕ, List, [], ◌∷◌, ◌++◌, ap₂, length, Bool, true, false, cond, refl, rules, sym, ap, ◌∙◌, arith, Less, Equal, Greater, get_or, ◌*◌, ◌+◌}
use Rattle.std.specs.Prelude.{map, flat_map, sum_by, count_by, not, ◌&&◌, ◌||◌}
use Rattle.std.specs.declared.cmp.Ordering.{Ordering}
use Rattle.std.specs.Ordering.{nat_cmp, ordering_then}
use Rattle.std.specs.Cmp.{IsTotalOrder}
use Rattle.std.specs.Cmp.Rules.{comparing}
use Rattle.std.specs.FinMap as fin
use Rattle.std.specs.FinSet as set
use Rattle.fv_model.specs.Spelling.{name_cmp}
use Rattle.fv_model.specs.Trees.{Spot, spot_cmp}
use Rattle.fv_model.specs.Tables.{File, Table, empty_table}
use Rattle.fv_model.specs.Places.{Owner, InodeFile, OfFile, Id, Ids, Stamps, placed, tree_entries, rank, numbers, place_cmp, id_cmp, ids, ids_of, stamps_of}
use Rattle.fv_model.specs.Space.{charge, need, use_of, kept_ids, ids_in_any, is_file_kind, needs_block, shared_ids, reserved_places, commit, overhead, promised}
use Rattle.fv_image.specs.Views.{Head}
use Rattle.fv_image.specs.Volumes.{empty_volume_of}
use Rattle.fv_model.specs.declared.commands.Kind.TheVariants.{Volume as Whole, File as ByFile, Thin}
use Rattle.fv_model.specs.declared.commands.Kind.{Kind}

-- ---- maps without entries

no_length : {A : Type 0} (es : List A) → length es ≡ 0 → es ≡ []
no_length [] e = refl
no_length (x ∷ es) e = absurd (omega arith)

module _ {K X : Type 0} (R : K → K → Ordering) where
  pub no_entries : fin.entries (fin.empty {K = K} {X = X} {R = R}) ≡ []
  no_entries = no_length _ (sym (fin.len-entries (fin.empty {K = K} {X = X} {R = R})) ∙ fin.len-empty R X)

  no_values : fin.values (fin.empty {K = K} {X = X} {R = R}) ≡ []
  no_values = ap (map (λ (e : K × X). e.1)) no_entries

-- ---- ids

both_equal : (r s : Ordering) → ordering_then r s ≡ Equal → (r ≡ Equal) × (s ≡ Equal)
both_equal Less s e = (e, cc)
both_equal Equal s e = (refl, e)
both_equal Greater s e = (e, cc)

same_owner : (o p : Owner) → rank o ≡ rank p → o ≡ p
same_owner InodeFile InodeFile e = refl
same_owner InodeFile (OfFile n) e = absurd (omega arith)
same_owner (OfFile n) InodeFile e = absurd (omega arith)
same_owner (OfFile n) (OfFile m) e = let k : n ≡ m = omega arith in ap OfFile k

place_ties : fin.IsAntisymmetric place_cmp
place_ties x y e =
    let same : numbers x ≡ numbers y = fin.slice_cmp-IsAntisymmetric fin.nat_cmp-IsAntisymmetric (numbers x) (numbers y) e in
    let owner : x.owner ≡ y.owner = same_owner x.owner y.owner (ap (λ (l : List ℕ). get_or l 0 0) same) in
    λ i. record { owner = owner i; level = ap (λ (l : List ℕ). get_or l 1 0) same i; index = ap (λ (l : List ℕ). get_or l 2 0) same i }

id_total : IsTotalOrder id_cmp
id_total = search (comparing, rules)

id_ties : fin.IsAntisymmetric id_cmp
id_ties x y e =
    let both : (place_cmp x.0 y.0 ≡ Equal) × (nat_cmp x.1 y.1 ≡ Equal) = both_equal _ _ e in
    λ i. (place_ties x.0 y.0 both.0 i, fin.nat_cmp-IsAntisymmetric x.1 y.1 both.1 i)

no_ids : (s : Ids) → ((q : Id) → set.contains s q ≡ false) → set.len s ≡ 0
no_ids s none = ap set.len (set.same_set id_total id_ties s set.empty (λ q. none q ∙ sym (set.contains-empty id_cmp q))) ∙ set.len-empty id_cmp

-- the empty table has none
no_stamps : stamps_of empty_table ≡ fin.empty
unfolding stamps_of
no_stamps =
    ap (λ (a : List (Spot × ℕ)). fin.from_entries {R = place_cmp} (map (λ e. (placed InodeFile e.0, e.1)) a ++ flat_map (λ e. tree_entries (OfFile e.0) e.1.tree) (fin.entries empty_table.files))) (no_entries spot_cmp)
    ∙ ap (λ (b : List (ℕ × File)). fin.from_entries {R = place_cmp} ([] ++ flat_map (λ e. tree_entries (OfFile e.0) e.1.tree) b)) (no_entries nat_cmp)

none_of_empty : (q : Id) → set.contains (ids_of empty_table) q ≡ false
unfolding ids
none_of_empty q =
    ap (λ (m : Stamps). set.contains (set.from_list {R = id_cmp} (fin.entries m)) q) no_stamps
    ∙ ap (λ (es : List Id). set.contains (set.from_list {R = id_cmp} es) q) (no_entries place_cmp)
    ∙ set.contains-from_list id_total [] q

-- ---- uses

module _ (h : Head) where
  none_kept : (q : Id) → set.contains (kept_ids (empty_volume_of h)) q ≡ false
  unfolding empty_volume_of
  none_kept q = ap (λ (ts : List Table). set.contains (ids_in_any ts) q) (no_values name_cmp) ∙ set.contains-empty id_cmp q

  charges_nothing : charge (empty_volume_of h) ≡ 0
  unfolding charge empty_volume_of
  charges_nothing =
      let a : Ids = ids_of empty_table in
      let k : Ids = kept_ids (empty_volume_of h) in
      let none : (q : Id) → set.contains (set.difference (set.union a k) set.empty) q ≡ false = λ q.
      set.contains-difference id_total (set.union a k) set.empty q
      ∙ ap (λ (b : Bool). b && not (set.contains (set.empty {R = id_cmp}) q)) (set.contains-union id_total a k q ∙ ap₂ (λ (x y : Bool). x || y) (none_of_empty q) (none_kept q)) in
      let count : set.len (set.difference (set.union a k) set.empty) ≡ 0 = no_ids _ none in
      let maps : fin.len (fin.empty {K = List ℕ} {X = Table} {R = name_cmp}) ≡ 0 = fin.len-empty name_cmp Table in
      rw (count, maps) (omega arith)

  needs_nothing : need (empty_volume_of h) ≡ 0
  unfolding need empty_volume_of
  needs_nothing =
      ap (λ (es : List (ℕ × File)). cond (is_file_kind h.kind) (sum_by (λ e. count_by (needs_block (shared_ids (empty_volume_of h)) (stamps_of empty_table)) (reserved_places 0 e.0 e.1)) es) 0) (no_entries nat_cmp)
      ∙ same (is_file_kind h.kind)
    where
      same : (b : Bool) → ◌≡◌ {A = ℕ} (cond b 0 0) 0
      same true = refl
      same false = refl

  pub uses_nothing : use_of (empty_volume_of h) ≡ 0
  uses_nothing = rw (charges_nothing, needs_nothing) refl

-- what is promised to an empty volume: its size by kind `volume`, else nothing
abbrev pub promised_size : Kind → ℕ → ℕ
promised_size Whole size = size
promised_size ByFile size = 0
promised_size Thin size = 0

pub commit_is : (h : Head) → commit (empty_volume_of h) ≡ 2 * overhead h.span + promised_size h.kind h.size
unfolding empty_volume_of
commit_is h = ap (λ (n : ℕ). 2 * overhead h.span + n) (so h.kind)
  where
    so : (kind : Kind) → promised (empty_volume_of h) kind ≡ promised_size kind h.size
    so Whole = refl
    so ByFile = uses_nothing h
    so Thin = uses_nothing h
