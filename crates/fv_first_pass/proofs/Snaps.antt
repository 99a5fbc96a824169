-- The snapshots that a label's records name, record by record.
use Rattle.std.proofs.Common.{◌≡◌, ℕ, ◌+◌, ◌<◌, ◌≤◌, Bool, true, false, List, [], ◌∷◌, ◌++◌, length, get_or, take, refl, sym, ap, ◌∙◌, arith}
use Rattle.std.specs.Prelude.{Option, Some, None, find, flat_map, ◌==◌, if◌then◌else◌}
use Rattle.std.proofs.lemmas.List.{take_more, take_all, length-take-le, append_assoc, append-nil}
use Rattle.std.proofs.lemmas.Grind.{flat_map-append}
use Rattle.std.proofs.lemmas.List.Folds.{find-append}
use Rattle.std.specs.Option.{option_map, option_map_or, option_or}
use Rattle.fv_model.specs.Spelling.{is_same_name}
use Rattle.fv_codec.specs.declared.label.Label.{Label}
use Rattle.fv_faults.specs.declared.fault.Fault.{Fault}
use Rattle.fv_faults.specs.Lines.{line}
use Rattle.fv_faults.specs.FirstPass.{snap_names}
use Rattle.fv_codec.specs.declared.label.SnapRecord.{SnapRecord}
use Rattle.fv_image.specs.Views.{Snap, head_of, snaps_from}
use Rattle.fv_first_pass.specs.Records.{free, snap_in, snap_if}

snaps_split : (xs ys : List SnapRecord) (j : ℕ) → snaps_from j (xs ++ ys) ≡ snaps_from j xs ++ snaps_from (j + length xs) ys
unfolding snaps_from
snaps_split [] ys j = ap (λ k. snaps_from k ys) (let e : j ≡ j + 0 = omega arith in e)
snaps_split (r ∷ rs) ys j = so (snaps_split rs ys (j + 1) ∙ ap (λ k. snaps_from (j + 1) rs ++ snaps_from k ys) (let e : j + 1 + length rs ≡ j + length (r ∷ rs) = omega arith in e)) (r.name_length == 0)
  where
    so : snaps_from (j + 1) (rs ++ ys) ≡ snaps_from (j + 1) rs ++ snaps_from (j + length (r ∷ rs)) ys → (b : Bool) → (if b then snaps_from (j + 1) (rs ++ ys) else snap_in j r ∷ snaps_from (j + 1) (rs ++ ys))
        ≡ (if b then snaps_from (j + 1) rs else snap_in j r ∷ snaps_from (j + 1) rs) ++ snaps_from (j + length (r ∷ rs)) ys
    so later true = later
    so later false = ap (λ ps. snap_in j r ∷ ps) later

one_record : (j : ℕ) (r : SnapRecord) → snaps_from j (r ∷ []) ≡ snap_if j r
unfolding snaps_from
one_record j r = refl

-- so many records, and one more
pub snaps_more : (rs : List SnapRecord) (j i : ℕ) (d : SnapRecord) → i < length rs → snaps_from j (take (i + 1) rs) ≡ snaps_from j (take i rs) ++ snap_if (j + i) (get_or rs i d)
snaps_more rs j i d low =
    ap (snaps_from j) (take_more rs i d low)
    ∙ snaps_split (take i rs) (get_or rs i d ∷ []) j
    ∙ ap (λ k. snaps_from j (take i rs) ++ snaps_from k (get_or rs i d ∷ [])) (let long : length (take i rs) ≡ i = length-take-le i rs (omega (arith, low)) in let e : j + length (take i rs) ≡ j + i = omega (arith, long) in e)
    ∙ ap (λ ps. snaps_from j (take i rs) ++ ps) (one_record (j + i) (get_or rs i d))

-- ---- parts of a list for each snapshot

module _ {A : Type 0} (f : Snap → List A) (rs : List SnapRecord) where
  pub parts_first : (old : List A) → old ≡ old ++ flat_map f (snaps_from 1 (take 0 rs))
  unfolding snaps_from
  parts_first old = sym (append-nil old)

  pub parts_step : (j : ℕ) (old now next : List A) → j < length rs → now ≡ old ++ flat_map f (snaps_from 1 (take j rs)) → next ≡ now ++ flat_map f (snap_if (1 + j) (get_or rs j free))
      → next ≡ old ++ flat_map f (snaps_from 1 (take (j + 1) rs))
  parts_step j old now next low is one =
      one
      ∙ ap (λ ls. ls ++ flat_map f (snap_if (1 + j) (get_or rs j free))) is
      ∙ append_assoc old (flat_map f (snaps_from 1 (take j rs))) (flat_map f (snap_if (1 + j) (get_or rs j free)))
      ∙ ap (λ ls. old ++ ls) (sym (ap (flat_map f) (snaps_more rs 1 j free low) ∙ flat_map-append f (snaps_from 1 (take j rs)) (snap_if (1 + j) (get_or rs j free))))

  pub parts_all : (j : ℕ) (old now : List A) → length rs ≤ j → now ≡ old ++ flat_map f (snaps_from 1 (take j rs)) → now ≡ old ++ flat_map f (snaps_from 1 rs)
  parts_all j old now past is = is ∙ ap (λ xs. old ++ flat_map f (snaps_from 1 xs)) (take_all j rs past)

-- ---- the first of them that passes a test, by its slot

module _ (p : Snap → Bool) (rs : List SnapRecord) where
  pub finds_first : None ≡ option_map (λ (q : Snap). q.slot) (find p (snaps_from 1 (take 0 rs)))
  unfolding snaps_from
  finds_first = refl

  pub finds_step : (k : ℕ) (first next : Option ℕ) → k < length rs → first ≡ option_map (λ (q : Snap). q.slot) (find p (snaps_from 1 (take k rs)))
      → next ≡ option_map (λ (q : Snap). q.slot) (find p (snap_if (1 + k) (get_or rs k free)))
      → option_or first next ≡ option_map (λ (q : Snap). q.slot) (find p (snaps_from 1 (take (k + 1) rs)))
  finds_step k first next low is one =
      rw (is, one) (either (find p (snaps_from 1 (take k rs))) (find p (snap_if (1 + k) (get_or rs k free)))
      ∙ sym (ap (option_map (λ (q : Snap). q.slot)) (ap (find p) (snaps_more rs 1 k free low) ∙ find-append p (snaps_from 1 (take k rs)) (snap_if (1 + k) (get_or rs k free)))))
    where
      either : (a b : Option Snap) → option_or (option_map (λ (q : Snap). q.slot) a) (option_map (λ (q : Snap). q.slot) b) ≡ option_map (λ (q : Snap). q.slot) (option_or a b)
      either None b = refl
      either (Some q) b = refl

-- ---- lines of their names

names_split : (at : ℕ) (before ps qs : List Snap) → snap_names at before (ps ++ qs) ≡ snap_names at before ps ++ snap_names at (before ++ ps) qs
unfolding snap_names
names_split at before [] qs = ap (λ bs. snap_names at bs qs) (sym (append-nil before))
names_split at before (p ∷ ps) qs =
    ap (λ ls. option_map_or (λ first. line 4 at first.slot p.slot ∷ []) (find (λ q. is_same_name q.name p.name) before) [] ++ ls)
    (names_split at (before ++ (p ∷ [])) ps qs ∙ ap (λ bs. snap_names at (before ++ (p ∷ [])) ps ++ snap_names at bs qs) (append_assoc before (p ∷ []) ps))
    ∙ sym (append_assoc (option_map_or (λ first. line 4 at first.slot p.slot ∷ []) (find (λ q. is_same_name q.name p.name) before) []) (snap_names at (before ++ (p ∷ [])) ps) (snap_names at (before ++ (p ∷ ps)) qs))

module _ (at : ℕ) (rs : List SnapRecord) where
  pub names_first : (old : List Fault) → old ≡ old ++ snap_names at [] (snaps_from 1 (take 0 rs))
  unfolding snaps_from snap_names
  names_first old = sym (append-nil old)

  pub names_step : (j : ℕ) (old now next : List Fault) → j < length rs → now ≡ old ++ snap_names at [] (snaps_from 1 (take j rs))
      → next ≡ now ++ snap_names at (snaps_from 1 (take j rs)) (snap_if (1 + j) (get_or rs j free)) → next ≡ old ++ snap_names at [] (snaps_from 1 (take (j + 1) rs))
  names_step j old now next low is one =
      one
      ∙ ap (λ ls. ls ++ snap_names at (snaps_from 1 (take j rs)) (snap_if (1 + j) (get_or rs j free))) is
      ∙ append_assoc old (snap_names at [] (snaps_from 1 (take j rs))) (snap_names at (snaps_from 1 (take j rs)) (snap_if (1 + j) (get_or rs j free)))
      ∙ ap (λ ls. old ++ ls) (sym (ap (snap_names at []) (snaps_more rs 1 j free low) ∙ names_split at [] (snaps_from 1 (take j rs)) (snap_if (1 + j) (get_or rs j free))))

pub names_all : (at : ℕ) (l : Label) (j : ℕ) (old now : List Fault) → length l.snapshots ≤ j → now ≡ old ++ snap_names at [] (snaps_from 1 (take j l.snapshots)) → now ≡ old ++ snap_names at [] (head_of l).snapshots
unfolding head_of
names_all at l j old now past is = is ∙ ap (λ rs. old ++ snap_names at [] (snaps_from 1 rs)) (take_all j l.snapshots past)
