-- Regions without delayed entries, which a walk over a volume passes over.
use Rattle.std.proofs.Common.{◌≡◌, ℕ, zero, suc, ◌+◌, ◌-◌, ◌*◌, ◌%◌, ◌<◌, ◌≤◌, Bool, true, false, ◌&&◌, List, get_or, length, sym, ap, ◌∙◌, ⊎_elim, arith}
use Rattle.std.specs.Prelude.{nat_lt}
use Rattle.std.proofs.lemmas.Bool.{and_left, cases_lt}
use Rattle.std.proofs.lemmas.Bool.Decides.{nat_tests}
use Rattle.fv_image.specs.Containers.{fan, level_width}
use Rattle.fv_aggmap.specs.Space.{Space}
use Rattle.fv_container.specs.Loading.{HasNoRegionFrom, IsNextRegion, entries_in_region}
use Rattle.fv_container.specs.Mapped.{Mapped}
use Rattle.fv_container.specs.Paged.{Paged, is_sure}
use Rattle.fv_volmap.specs.Slots.{Volume}
use Rattle.fv_delay.specs.declared.threshold.Threshold.{Threshold}
use Rattle.fv_delay.specs.Delay.{AreSure, IsSureIn, delayed_in, is_delayed, region_of}
use Rattle.fv_delay.specs.Holding.{Holding, held_by}
use Rattle.fv_delay.specs.Reclaims.{HasStayed, goes_with}
use Rattle.fv_delay.specs.ByThreshold.{behind, counts_front, passed, taken_in, takes}
use Rattle.fv_delay.proofs.Left.{left_by, others_left}
use Rattle.fv_delay.proofs.Parts.{none_behind, none_passes, none_there}
use Rattle.fv_delay.proofs.Reclaimed.{reclaimed_going}
use Rattle.fv_delay.proofs.TakenRegions.{HasAsked, up_to}
use Rattle.fv_delay.proofs.Walking.{front_none}

-- a region without entries has none that is delayed, where it is known which of its entries are holes, and that is sure
bare_none : (map : Volume) (paged : Paged) (k : ℕ) → IsSureIn paged k → (is_sure paged k ≡ true → entries_in_region paged.map k ≡ 0) → delayed_in map paged.map k ≡ 0
bare_none map paged k sure bare = ⊎_elim
    (λ (inside : fan * k < length paged.map.entries). none_there map paged.map k (bare (sure inside)))
    (λ (past : length paged.map.entries ≤ fan * k). none_behind map paged.map k past)
    (cases_lt (fan * k) (length paged.map.entries))

-- so it is in front of the next region that has some,
pub next_bare : (map : Volume) (paged : Paged) (from r : ℕ) → AreSure paged → IsNextRegion paged from r → (k : ℕ) → from ≤ k → k < r → delayed_in map paged.map k ≡ 0
next_bare map paged from r sure next k low high = bare_none map paged k (sure k) (next.before k low high)

-- and where there is no other one.
pub last_bare : (map : Volume) (paged : Paged) (from end : ℕ) → AreSure paged → HasNoRegionFrom paged from → (k : ℕ) → from ≤ k → k < end → delayed_in map paged.map k ≡ 0
last_bare map paged from end sure none k low high = bare_none map paged k (sure k) (none.none k low)

-- the next region is one of those that there are
pub next_within : (paged : Paged) (from r entries : ℕ) → length paged.map.entries ≡ entries → IsNextRegion paged from r → r + 1 ≤ level_width entries 0
next_within paged from r entries long next = omega (arith, next.within, long)

-- ---- the counts in front of a region

pub front_skips : (s : ℕ) (x : Holding) (from r : ℕ) → from ≤ r → ((k : ℕ) → from ≤ k → k < r → delayed_in x.map x.container k ≡ 0) → counts_front s x r ≡ counts_front s x from
front_skips s x from r le none = ap (counts_front s x) (let at : r ≡ from + (r - from) = omega (arith, le) in at) ∙ so (r - from) (omega (arith, le))
  where
    so : (n : ℕ) → from + n ≤ r → counts_front s x (from + n) ≡ counts_front s x from
    so zero within = ap (counts_front s x) (let at : from + 0 ≡ from = omega arith in at)
    so (suc n) within =
        let at : from + suc n ≡ (from + n) + 1 = omega arith in
        ap (counts_front s x) at ∙ front_none s x (from + n) (none (from + n) (omega arith) (omega (arith, within))) ∙ so n (omega (arith, within))

-- ---- a region without

-- It isn't taken.
pub bare_taken : (t : Threshold) (x : Holding) (k : ℕ) → delayed_in x.map x.container k ≡ 0 → taken_in t x k ≡ false
unfolding taken_in
bare_taken t x k none =
    let test : nat_lt 0 (delayed_in x.map x.container k) ≡ false = grind (arith, nat_tests, none) in
    and_left (nat_lt 0 (delayed_in x.map x.container k)) (takes (behind t (counts_front 0 x k)) (delayed_in x.map x.container k)) test

-- ---- a walk that reclaims

-- where an entry stands in its region
region_parts : (v : ℕ) → (fan * region_of v + v % fan ≡ v) × (v % fan < fan)
region_parts v = (omega arith, omega arith)

-- no entry of a region goes with it, where none is delayed
none_goes : (map : Volume) (container : Mapped) (v : ℕ) → delayed_in map container (region_of v) ≡ 0 → is_delayed map container v ≡ false
unfolding delayed_in
none_goes map container v none =
    let at = region_parts v in
    ap (is_delayed map container) (sym at.0) ∙ none_passes (is_delayed map container) (fan * region_of v) fan (v % fan) at.1 none

module _ (map : Volume) (old : Paged) (start threshold : Threshold) (from r : ℕ) (space meanwhile : Space) (mid : Paged) (is_left : Bool) (le : from ≤ r)
    (was : HasAsked map old start from threshold space mid meanwhile is_left) where
  abbrev taken : ℕ → Bool
  taken = taken_in start (held_by map old.map)

  -- Regions that have none now had none.
  had_none : (k : ℕ) → from ≤ k → delayed_in map mid.map k ≡ 0 → delayed_in map old.map k ≡ 0
  had_none k low none =
      let test : nat_lt k from ≡ false = grind (arith, nat_tests, low) in
      sym (others_left (up_to taken from) (held_by map old.map) (held_by map mid.map) (left_by map (up_to taken from) space meanwhile old mid was.reclaimed) k (and_left (nat_lt k from) (taken k) test)) ∙ none

  -- They needn't be asked of.
  skipped : ((k : ℕ) → from ≤ k → k < r → delayed_in map old.map k ≡ 0) → HasAsked map old start r threshold space mid meanwhile is_left
  skipped none = record {
    passed = was.passed ∙ ap (behind start) (sym (front_skips 0 (held_by map old.map) from r le none));
    reclaimed = reclaimed_going map (up_to taken from) (up_to taken r) old mid space meanwhile goes was.reclaimed;
    rest = λ off k lt some. ⊎_elim
        (λ (low : k < from). was.rest off k low some)
        (λ (high : from ≤ k). absurd (omega (arith, some, none k high lt)))
        (cases_lt k from);
    left = λ on all. was.left on (λ k low some. all k (omega (arith, low, le)) some);
  }
    where
      same : (v : ℕ) → nat_lt (region_of v) r ≡ nat_lt (region_of v) from → goes_with map old.map (up_to taken r) v ≡ goes_with map old.map (up_to taken from) v
      same v e = ap (λ (t : Bool). is_delayed map old.map v && (t && taken (region_of v))) e

      goes : (v : ℕ) → goes_with map old.map (up_to taken r) v ≡ goes_with map old.map (up_to taken from) v
      goes v = ⊎_elim
          (λ (low : region_of v < from). same v (let e : nat_lt (region_of v) r ≡ nat_lt (region_of v) from = grind (arith, nat_tests, low, le) in e))
          (λ (high : from ≤ region_of v). ⊎_elim
          (λ (lt : region_of v < r).
          let off = none_goes map old.map v (none (region_of v) high lt) in
          ap (λ (t : Bool). t && up_to taken r (region_of v)) off ∙ sym (ap (λ (t : Bool). t && up_to taken from (region_of v)) off))
          (λ (past : r ≤ region_of v). same v (let e : nat_lt (region_of v) r ≡ nat_lt (region_of v) from = grind (arith, nat_tests, past, high) in e))
          (cases_lt (region_of v) r))
          (cases_lt (region_of v) from)

-- what is sure stays so
sure_now : (old mid : Paged) → AreSure old → HasStayed old mid → AreSure mid
sure_now old mid sure stays k some = ap (λ (l : List Bool). get_or l k false) stays.sure ∙ sure k (omega (arith, some, stays.long))

-- So the walk goes on with the next one that has entries,
pub asked_next : (map : Volume) (old : Paged) (start threshold : Threshold) (from r : ℕ) (space meanwhile : Space) (mid : Paged) (is_left : Bool) → AreSure old → HasStayed old mid → IsNextRegion mid from r
    → HasAsked map old start from threshold space mid meanwhile is_left → HasAsked map old start r threshold space mid meanwhile is_left
asked_next map old start threshold from r space meanwhile mid is_left sure stays next was =
    skipped map old start threshold from r space meanwhile mid is_left next.after was (λ k low high.
    had_none map old start threshold from r space meanwhile mid is_left next.after was k low (next_bare map mid from r (sure_now old mid sure stays) next k low high))

-- and is at its end where there is none.
pub asked_last : (map : Volume) (old : Paged) (start threshold : Threshold) (from end : ℕ) (space meanwhile : Space) (mid : Paged) (is_left : Bool) → AreSure old → HasStayed old mid → HasNoRegionFrom mid from → from ≤ end
    → HasAsked map old start from threshold space mid meanwhile is_left → HasAsked map old start end threshold space mid meanwhile is_left
asked_last map old start threshold from end space meanwhile mid is_left sure stays none le was =
    skipped map old start threshold from end space meanwhile mid is_left le was (λ k low high.
    had_none map old start threshold from end space meanwhile mid is_left le was k low (last_bare map mid from end (sure_now old mid sure stays) none k low high))
