-- A walk over the regions of a volume, of which a threshold is asked one after another.
use Rattle.std.proofs.Common.{◌≡◌, ◌≢◌, ℕ, ◌+◌, ◌<◌, ◌≤◌, Bool, true, false, ◌&&◌, ◌||◌, ◌==◌, List, [], ◌∷◌, ◌++◌, length, refl, sym, ap, ap₂, subst, ◌∙◌, ⊎_elim, arith}
use Rattle.std.specs.Prelude.{nat_lt}
use Rattle.std.proofs.lemmas.Bool.{and_left, cases_eq, true≢false}
use Rattle.std.proofs.lemmas.Bool.Decides.{nat_tests}
use Rattle.fv_image.specs.Containers.{level_width}
use Rattle.fv_aggmap.specs.Space.{Space}
use Rattle.fv_container.specs.Paged.{Paged}
use Rattle.fv_volmap.specs.Slots.{Volume}
use Rattle.fv_delay.specs.declared.counts.Count.{Count}
use Rattle.fv_delay.specs.declared.threshold.Table.{Table}
use Rattle.fv_delay.specs.declared.threshold.Threshold.{Threshold}
use Rattle.fv_delay.specs.Delay.{delayed_in}
use Rattle.fv_delay.specs.Holding.{Holding, held_by}
use Rattle.fv_delay.specs.Reclaims.{HasReclaimed}
use Rattle.fv_delay.specs.ByThreshold.{IsTable, behind, counts_front, passed, taken_in, takes_delayed}
use Rattle.fv_delay.proofs.Left.{left_by, others_left}
use Rattle.fv_delay.proofs.Reclaimed.{reclaimed_none, reclaimed_same, reclaimed_then}
use Rattle.fv_delay.proofs.Walking.{behind_front, front_none, front_some}

-- a region of the volume of slot 0, with so many delayed entries
abbrev pub counted_as : ℕ → ℕ → Count
counted_as region count = record { slot = 0; region = region; count = count }

-- ---- numbers in front of one

-- those that pass a test, up to one
abbrev pub up_to : (ℕ → Bool) → ℕ → ℕ → Bool
up_to p end r = nat_lt r end && p r

or_false : (t : Bool) → t ≡ (t || false)
or_false true = refl
or_false false = refl

-- the next one passes
up_to_on : (p : ℕ → Bool) (end : ℕ) → p end ≡ true → (r : ℕ) → up_to p (end + 1) r ≡ (up_to p end r || (r == end))
up_to_on p end on r = ⊎_elim here other (cases_eq r end)
  where
    here : r ≡ end → up_to p (end + 1) r ≡ (up_to p end r || (r == end))
    here e =
        let within : nat_lt r (end + 1) ≡ true = grind (arith, nat_tests, e) in
        let past : nat_lt r end ≡ false = grind (arith, nat_tests, e) in
        let same : (r == end) ≡ true = grind (arith, nat_tests, e) in
        ap₂ (λ (s t : Bool). s && t) within (ap p e ∙ on) ∙ sym (ap₂ (λ (s t : Bool). (s && p r) || t) past same)

    other : r ≢ end → up_to p (end + 1) r ≡ (up_to p end r || (r == end))
    other ne =
        let still : nat_lt r (end + 1) ≡ nat_lt r end = grind (arith, nat_tests, ne) in
        let apart : (r == end) ≡ false = grind (arith, nat_tests, ne) in
        ap (λ (s : Bool). s && p r) still ∙ or_false (up_to p end r) ∙ sym (ap (λ (t : Bool). up_to p end r || t) apart)

-- it doesn't
up_to_off : (p : ℕ → Bool) (end : ℕ) → p end ≡ false → (r : ℕ) → up_to p (end + 1) r ≡ up_to p end r
up_to_off p end off r = ⊎_elim here other (cases_eq r end)
  where
    never : (t : Bool) → (t && false) ≡ false
    never true = refl
    never false = refl

    here : r ≡ end → up_to p (end + 1) r ≡ up_to p end r
    here e =
        let none : p r ≡ false = ap p e ∙ off in
        ap (λ (t : Bool). nat_lt r (end + 1) && t) none ∙ never (nat_lt r (end + 1)) ∙ sym (ap (λ (t : Bool). nat_lt r end && t) none ∙ never (nat_lt r end))

    other : r ≢ end → up_to p (end + 1) r ≡ up_to p end r
    other ne = (let still : nat_lt r (end + 1) ≡ nat_lt r end = grind (arith, nat_tests, ne) in ap (λ (s : Bool). s && p r) still)

-- ---- the walk

-- The regions in front of one were asked of: the threshold is behind them, those that are taken are reclaimed, and it is known whether others
-- have delayed entries.
pub record HasAsked (map : Volume) (old : Paged) (start : Threshold) (r : ℕ) (threshold : Threshold) (space : Space) (mid : Paged) (meanwhile : Space) (is_left : Bool) : Type 0 where
  pub passed : threshold ≡ behind start (counts_front 0 (held_by map old.map) r)
  pub reclaimed : HasReclaimed map (up_to (taken_in start (held_by map old.map)) r) old space mid meanwhile
  pub rest : is_left ≡ false → (k : ℕ) → k < r → 0 < delayed_in map old.map k → taken_in start (held_by map old.map) k ≡ true
  pub left : is_left ≡ true → ((k : ℕ) → k < r → 0 < delayed_in map old.map k → taken_in start (held_by map old.map) k ≡ true) → ⊥

-- a test that the other one follows from
pub and_so : (t h : Bool) → (t ≡ true → h ≡ true) → (t && h) ≡ t
and_so true h so = so refl
and_so false h so = refl

-- the second of two
pub and_second : (t h : Bool) → (t && h) ≡ true → h ≡ true
and_second true h is = is
and_second false h is = absurd (true≢false (sym is))

module _ (map : Volume) (old : Paged) (start : Threshold) where
  abbrev taken : ℕ → Bool
  taken = taken_in start (held_by map old.map)

  -- The threshold in front of a region, the regions that are taken being reclaimed as far as that.
  module _ (threshold : Threshold) (mid : Paged) (space between : Space) (r count : ℕ) (at : threshold ≡ behind start (counts_front 0 (held_by map old.map) r))
      (has : HasReclaimed map (up_to taken r) old space mid between) (counts : count ≡ delayed_in map mid.map r) where
    -- the region has what it had
    pub asked_count : count ≡ delayed_in map old.map r
    asked_count =
        let same : nat_lt r r ≡ false = grind (arith, nat_tests) in
        counts ∙ others_left (up_to taken r) (held_by map old.map) (held_by map mid.map) (left_by map (up_to taken r) space between old mid has) r (and_left (nat_lt r r) (taken r) same)

    -- so it is asked of rightly,
    pub asked_taken : takes_delayed threshold count ≡ taken r
    unfolding taken_in
    asked_taken = ap₂ takes_delayed at asked_count

    pub asked_passed : passed threshold count ≡ behind start (counts_front 0 (held_by map old.map) (r + 1))
    asked_passed = ap₂ passed at asked_count ∙ sym (behind_front start 0 (held_by map old.map) r)

    -- reclaimed where it is taken,
    pub asked_on : takes_delayed threshold count ≡ true → (new : Paged) (left : Space) → HasReclaimed map (λ k. k == r) mid between new left → HasReclaimed map (up_to taken (r + 1)) old space new left
    asked_on on new left then = reclaimed_then map (up_to taken r) (λ k. k == r) (up_to taken (r + 1)) (up_to_on taken r (sym asked_taken ∙ on)) old mid new space between left has then

    -- and left where it isn't.
    pub asked_off : takes_delayed threshold count ≡ false → HasReclaimed map (up_to taken (r + 1)) old space mid between
    asked_off off = reclaimed_same map (up_to taken r) (up_to taken (r + 1)) old mid space between (λ k lt. up_to_off taken r (sym asked_taken ∙ off) k) has

    -- Whether all with delayed entries are taken as far as the next one.
    pub asked_rest : ((k : ℕ) → k < r → 0 < delayed_in map old.map k → taken k ≡ true) → (0 < count → takes_delayed threshold count ≡ true) → (k : ℕ) → k < r + 1 → 0 < delayed_in map old.map k → taken k ≡ true
    asked_rest before here k lt some = ⊎_elim
        (λ (e : k ≡ r). ap taken e ∙ sym asked_taken ∙ here (subst (λ (n : ℕ). 0 < n) (ap (delayed_in map old.map) e ∙ sym asked_count) some))
        (λ (ne : k ≢ r). before k (omega (arith, lt, ne)) some)
        (cases_eq k r)

    -- Where the next one has delayed entries and isn't taken, not all are.
    pub asked_left : 0 < count → takes_delayed threshold count ≡ false → ((k : ℕ) → k < r + 1 → 0 < delayed_in map old.map k → taken k ≡ true) → ⊥
    asked_left some off all =
        let here : taken r ≡ true = all r (omega arith) (subst (λ (n : ℕ). 0 < n) asked_count some) in
        true≢false (sym here ∙ sym asked_taken ∙ off)

  -- No region is asked of yet.
  pub asked_none : (space : Space) → HasReclaimed map (up_to taken 0) old space old space
  asked_none space = reclaimed_same map (λ k. false) (up_to taken 0) old old space space (λ k lt. none k) (reclaimed_none map old space)
    where
      none : (k : ℕ) → up_to taken 0 k ≡ false
      none k = and_left (nat_lt k 0) (taken k) (let test : nat_lt k 0 ≡ false = grind (arith, nat_tests) in test)

  -- All are.
  pub asked_all : (new : Paged) (space left : Space) (end : ℕ) → level_width (length old.map.entries) 0 ≤ end → HasReclaimed map (up_to taken end) old space new left → HasReclaimed map taken old space new left
  asked_all new space left end past has = reclaimed_same map (up_to taken end) taken old new space left (λ k lt. all k (let below : k < end = omega (arith, past, lt) in below)) has
    where
      all : (k : ℕ) → k < end → taken k ≡ up_to taken end k
      all k lt = (let test : nat_lt k end ≡ true = grind (arith, nat_tests, lt) in sym (ap (λ (t : Bool). t && taken k) test))

-- ---- the table of a volume's regions

-- one region more, that has delayed entries
pub table_more : (table new : Table) (x : Holding) (r count : ℕ) → count ≡ delayed_in x.map x.container r → 0 < count → IsTable table (counts_front 0 x r)
    → ((counts : List Count) → IsTable table counts → IsTable new (counts ++ counted_as r count ∷ [])) → IsTable new (counts_front 0 x (r + 1))
table_more table new x r count is some before add = subst (IsTable new)
    (ap (λ (n : ℕ). counts_front 0 x r ++ counted_as r n ∷ []) is ∙ sym (front_some 0 x r (subst (λ (n : ℕ). 0 < n) is some)))
    (add (counts_front 0 x r) before)

-- one without
pub table_still : (table : Table) (x : Holding) (r count : ℕ) → count ≡ delayed_in x.map x.container r → count ≡ 0 → IsTable table (counts_front 0 x r) → IsTable table (counts_front 0 x (r + 1))
table_still table x r count is none before = subst (IsTable table) (sym (front_none 0 x r (sym is ∙ none))) before
