-- The walks along the roots of a label, record by record.
use Rattle.std.proofs.Common.{◌≡◌, ◌≢◌, ℕ, zero, suc, ◌+◌, ◌-◌, ◌<◌, ◌≤◌, Bool, true, false, List, [], ◌∷◌, ◌++◌, length, get_or, take, refl, sym, ap, subst, ◌∙◌, arith, inl, inr, ⊎_elim}
use Rattle.std.specs.Prelude.{Option, Some, None, map, ◌==◌, if◌then◌else◌}
use Rattle.std.proofs.lemmas.Bool.Decides.{nat_tests}
use Rattle.std.proofs.lemmas.List.{take_all, get_or_push, append-nil, map-append}
use Rattle.std.proofs.lemmas.List.Concat.{flat_map-append}
use Rattle.fv_codec.specs.declared.label.SnapRecord.{SnapRecord}
use Rattle.fv_codec.specs.declared.label.Label.{Label}
use Rattle.fv_laws.proofs.Lists.{In, in_either, in_left, in_right}
use Rattle.fv_image.specs.Views.{Rooted, head_of, snaps_from}
use Rattle.fv_image.specs.Seen.{roots_of}
use Rattle.fv_faults.specs.declared.lines.Lines.{Lines}
use Rattle.fv_faults.specs.Adding.{Adds}
use Rattle.fv_faults.specs.Walks.{Ground, Step, steps}
use Rattle.fv_faults.proofs.Adding.{adds_none, adds_then}
use Rattle.fv_first_pass.specs.Records.{free, snap_if, snap_in}
use Rattle.fv_first_pass.proofs.Snaps.{snaps_more}
use Rattle.fv_second_pass.specs.Told.{AreWithin, IsWithin}
use Rattle.fv_second_pass.specs.Reaching.{AreReached, HasReach, IsReach, ReachesIf, root_lines, root_of, roots_if, walk_lines}

-- the root of the active table, and those of the first so many records
unfoldable pub roots_to : Label → ℕ → List (ℕ × Rooted)
roots_to l n = (0, record { levels = l.levels; root = l.root }) ∷ map root_of (snaps_from 1 (take n l.snapshots))

pub roots_more : (l : Label) (n : ℕ) → n < length l.snapshots → roots_to l (n + 1) ≡ roots_to l n ++ roots_if (1 + n) (get_or l.snapshots n free)
unfolding roots_to
roots_more l n low =
    ap (λ ps. (0, record { levels = l.levels; root = l.root }) ∷ map root_of ps) (snaps_more l.snapshots 1 n free low)
    ∙ ap (λ rs. (0, record { levels = l.levels; root = l.root }) ∷ rs) (map-append root_of (snaps_from 1 (take n l.snapshots)) (snap_if (1 + n) (get_or l.snapshots n free)))

pub roots_all : (l : Label) (n : ℕ) → length l.snapshots ≤ n → roots_to l n ≡ roots_of (head_of l)
unfolding head_of roots_to
roots_all l n past = ap (λ rs. (0, record { levels = l.levels; root = l.root }) ∷ map root_of (snaps_from 1 rs)) (take_all n l.snapshots past)

roots_later : (l : Label) (n k : ℕ) (r : ℕ × Rooted) → n + k ≤ length l.snapshots → In r (roots_to l n) → In r (roots_to l (n + k))
roots_later l n zero r fits there = subst (λ m. In r (roots_to l m)) (let e : n ≡ n + 0 = omega arith in e) there
roots_later l n (suc k) r fits there =
    subst (λ m. In r (roots_to l m)) (let e : n + k + 1 ≡ n + suc k = omega arith in e)
    (subst (In r) (sym (roots_more l (n + k) (omega (arith, fits)))) (in_left r (roots_to l (n + k)) (roots_if (1 + (n + k)) (get_or l.snapshots (n + k) free)) (roots_later l n k r (omega (arith, fits)) there)))

-- a record's root is one of the label's
pub within_one : (l : Label) (n span : ℕ) → n < length l.snapshots → AreWithin span (roots_of (head_of l)) → AreWithin span (roots_if (1 + n) (get_or l.snapshots n free))
within_one l n span low within r there =
    let fits : n + 1 + (length l.snapshots - (n + 1)) ≤ length l.snapshots = omega (arith, low) in
    let all : length l.snapshots ≤ n + 1 + (length l.snapshots - (n + 1)) = omega (arith, low) in
    within r (subst (In r) (roots_all l (n + 1 + (length l.snapshots - (n + 1))) all)
    (roots_later l (n + 1) (length l.snapshots - (n + 1)) r fits (subst (In r) (sym (roots_more l n low)) (in_right r (roots_to l n) (roots_if (1 + n) (get_or l.snapshots n free)) there))))

pub within_active : (l : Label) (span : ℕ) → AreWithin span (roots_of (head_of l)) → IsWithin span l.root
unfolding head_of
within_active l span within = within (0, record { levels = l.levels; root = l.root }) (inl refl)

-- ---- one record

none_if : (j : ℕ) (r : SnapRecord) → r.name_length ≡ 0 → roots_if j r ≡ []
none_if j r free = ap (λ n. map root_of (if n == 0 then [] else snap_in j r ∷ [])) free

some_if : (j : ℕ) (r : SnapRecord) → r.name_length ≢ 0 → roots_if j r ≡ (j, record { levels = r.levels; root = r.root }) ∷ []
some_if j r used = let test : (r.name_length == 0) ≡ false = grind (arith, nat_tests, used) in ap (λ (b : Bool). map root_of (if b then [] else snap_in j r ∷ [])) test

slot_is : (j : ℕ) (s : SnapRecord) (r : ℕ × Rooted) → In r (roots_if j s) → r.0 ≡ j
slot_is j s r there = so (s.name_length == 0) there
  where
    so : (b : Bool) → In r (map root_of (if b then [] else snap_in j s ∷ [])) → r.0 ≡ j
    so true never = absurd never
    so false (inl is) = sym (ap (λ (q : ℕ × Rooted). q.0) is)
    so false (inr never) = absurd never

module _ (g : Ground) (label : ℕ) where
  alone : (r : ℕ × Rooted) → root_lines g label (r ∷ []) ≡ walk_lines g label r.1
  alone r = append-nil (walk_lines g label r.1)

  module _ (j : ℕ) (s : SnapRecord) where
    abbrev table : Rooted
    table = record { levels = s.levels; root = s.root }

    pub free_adds : s.name_length ≡ 0 → (x : Lines) → Adds (root_lines g label (roots_if j s)) x x
    free_adds free x = subst (λ rs. Adds (root_lines g label rs) x x) (sym (none_if j s free)) (adds_none x x refl)

    pub free_reaches : s.name_length ≡ 0 → (reach : Option (List Bool)) → ReachesIf g label (roots_if j s) reach
    free_reaches free reach r there = absurd (subst (In r) (none_if j s free) there)

    pub used_within : s.name_length ≢ 0 → (span : ℕ) → AreWithin span (roots_if j s) → IsWithin span s.root
    used_within used span within = within (j, table) (subst (In (j, table)) (sym (some_if j s used)) (inl refl))

    pub used_adds : s.name_length ≢ 0 → (old new : Lines) → Adds (walk_lines g label table) old new → Adds (root_lines g label (roots_if j s)) old new
    used_adds used old new adds = subst (λ ls. Adds ls old new) (sym (ap (root_lines g label) (some_if j s used) ∙ alone (j, table))) adds

    pub used_reaches : s.name_length ≢ 0 → (reach : List Bool) → IsReach g (steps g label table) reach → ReachesIf g label (roots_if j s) (Some reach)
    used_reaches used reach is r there = so (subst (In r) (some_if j s used) there)
      where
        so : In r ((j, table) ∷ []) → HasReach g (steps g label r.1) (Some reach)
        so (inl same) = subst (λ (q : ℕ × Rooted). HasReach g (steps g label q.1) (Some reach)) same is
        so (inr never) = absurd never

  -- ---- record by record

  module _ (l : Label) where
    abbrev active : Rooted
    active = record { levels = l.levels; root = l.root }

    first_is : roots_to l 0 ≡ (0, active) ∷ []
    unfolding snaps_from roots_to
    first_is = refl

    pub adds_first : (old new : Lines) → Adds (walk_lines g label active) old new → Adds (root_lines g label (roots_to l 0)) old new
    adds_first old new adds = subst (λ ls. Adds ls old new) (sym (ap (root_lines g label) first_is ∙ alone (0, active))) adds

    pub adds_more : (n : ℕ) (old mid new : Lines) → n < length l.snapshots → Adds (root_lines g label (roots_to l n)) old mid
        → Adds (root_lines g label (roots_if (1 + n) (get_or l.snapshots n free))) mid new → Adds (root_lines g label (roots_to l (n + 1))) old new
    adds_more n old mid new low one two =
        subst (λ ls. Adds ls old new)
        (sym (ap (root_lines g label) (roots_more l n low) ∙ flat_map-append (λ (r : ℕ × Rooted). walk_lines g label r.1) (roots_to l n) (roots_if (1 + n) (get_or l.snapshots n free))))
        (adds_then (root_lines g label (roots_to l n)) (root_lines g label (roots_if (1 + n) (get_or l.snapshots n free))) old mid new one two)

    pub adds_all : (n : ℕ) (old new : Lines) → length l.snapshots ≤ n → Adds (root_lines g label (roots_to l n)) old new → Adds (root_lines g label (roots_of (head_of l))) old new
    adds_all n old new past adds = subst (λ rs. Adds (root_lines g label rs) old new) (roots_all l n past) adds

    pub reached_first : (reach : List Bool) (maps now : List (Option (List Bool))) → maps ≡ [] → now ≡ maps ++ Some reach ∷ [] → IsReach g (steps g label active) reach → AreReached g label (roots_to l 0) now
    reached_first reach maps now none pushed is = record { each = λ r there. so r (subst (In r) first_is there) }
      where
        first : get_or now 0 None ≡ Some reach
        first = ap (λ (ms : List (Option (List Bool))). get_or ms 0 None) (pushed ∙ ap (λ (ms : List (Option (List Bool))). ms ++ Some reach ∷ []) none)

        so : (r : ℕ × Rooted) → In r ((0, active) ∷ []) → HasReach g (steps g label r.1) (get_or now r.0 None)
        so r (inl same) = subst (λ (q : ℕ × Rooted). HasReach g (steps g label q.1) (get_or now q.0 None)) same (subst (HasReach g (steps g label active)) (sym first) is)
        so r (inr never) = absurd never

    kept : (done : List Step) (maps : List (Option (List Bool))) (m : Option (List Bool)) (n : ℕ) → HasReach g done (get_or maps n None) → HasReach g done (get_or (maps ++ m ∷ []) n None)
    kept done [] m n has = absurd has
    kept done (x ∷ xs) m zero has = has
    kept done (x ∷ xs) m (suc n) has = kept done xs m n has

    pub reached_more : (n : ℕ) (maps now : List (Option (List Bool))) (m : Option (List Bool)) → n < length l.snapshots → length maps ≡ n + 1 → now ≡ maps ++ m ∷ []
        → AreReached g label (roots_to l n) maps → ReachesIf g label (roots_if (1 + n) (get_or l.snapshots n free)) m → AreReached g label (roots_to l (n + 1)) now
    reached_more n maps now m low long pushed are one = record {
      each = λ r there. subst (λ (ms : List (Option (List Bool))). HasReach g (steps g label r.1) (get_or ms r.0 None)) (sym pushed)
          (⊎_elim
          (λ before. kept (steps g label r.1) maps m r.0 (are.each r before))
          (λ new.
          let slot : r.0 ≡ 1 + n = slot_is (1 + n) (get_or l.snapshots n free) r new in
          subst (HasReach g (steps g label r.1)) (sym (get_or_push maps m None r.0 (omega (arith, long, slot)))) (one r new))
          (in_either r (roots_to l n) (roots_if (1 + n) (get_or l.snapshots n free)) (subst (In r) (roots_more l n low) there)));
    }

    pub reached_all : (n : ℕ) (maps : List (Option (List Bool))) → length l.snapshots ≤ n → AreReached g label (roots_to l n) maps → AreReached g label (roots_of (head_of l)) maps
    reached_all n maps past are = subst (λ rs. AreReached g label rs maps) (roots_all l n past) are
