-- The steps of planning: tables of all slots, the table of all, and the plan by them.
use Rattle.std.proofs.Common.{◌≡◌, ◌≢◌, ℕ, ◌+◌, ◌<◌, ◌≤◌, Bool, true, false, List, [], ◌∷◌, ◌++◌, length, map, suc, zero, get_or, refl, sym, ap, subst, ◌∙◌, ⊎_elim, arith}
use Rattle.std.specs.Prelude.{Option, Some, None, flat_map, min, nat_lt, slice_set}
use Rattle.std.specs.List.{list_all, range_with_len}
use Rattle.std.proofs.lemmas.Grind.{flat_map-append}
use Rattle.std.proofs.lemmas.List.Folds.{flat_map-map}
use Rattle.std.proofs.lemmas.List.FromFn.{map-range_with_len_more}
use Rattle.std.proofs.lemmas.Bool.{cases_eq}
use Rattle.std.proofs.lemmas.Bool.Decides.{nat_tests}
use Rattle.std.proofs.lemmas.List.{append-nil, get_or-set_same, get_or-set_other}
use Rattle.fv_image.specs.Views.{slots}
use Rattle.fv_delay.specs.declared.counts.Count.{Count}
use Rattle.fv_delay.specs.declared.threshold.Table.{Table}
use Rattle.fv_delay.specs.declared.threshold.Threshold.{Threshold}
use Rattle.fv_delay.specs.ByThreshold.{IsTable, behind, counts_before, most_blocks, taken_by, takes_some}
use Rattle.fv_delay.specs.Choice.{total}
use Rattle.fv_delay.specs.Holding.{Holding, counts_of, has_some}
use Rattle.fv_delay.proofs.InVolume.{counts_some}
use Rattle.fv_delay.proofs.Passing.{none_counted}
use Rattle.fv_delay.proofs.Walking.{behind_slot}
use Rattle.fv_cp.specs.declared.planning.Plan.{Plan}
use Rattle.fv_cp.specs.Choosing.{counts_at}
use Rattle.fv_cp.specs.Planning.{AreTables, IsAdded, IsPlan, is_set, no_holding, no_table, no_threshold, start_at}

-- the regions of a slot that are counted have some
pub some_at : (s : ℕ) (o : Option Holding) → list_all has_some (counts_at s o) ≡ true
some_at s None = refl
some_at s (Some x) = counts_some s x

-- a table without blocks is one of no regions
pub empty_at : (table : Table) (s : ℕ) (o : Option Holding) (blocks : ℕ) → IsTable table (counts_at s o) → blocks ≡ min (total (counts_at s o)) most_blocks → nat_lt 0 blocks ≡ false → counts_at s o ≡ []
empty_at table s o blocks is are none = none_counted table (counts_at s o) is (some_at s o) (grind (arith, nat_tests, is.all ∙ sym are, none))

takes_nothing : (t : Threshold) → takes_some t [] ≡ false
unfolding taken_by
takes_nothing t = refl

behind_nothing : (t : Threshold) → behind t [] ≡ t
unfolding behind
behind_nothing t = refl

-- of a table without blocks a threshold takes nothing, and it stays
module _ (table : Table) (counts : List Count) (blocks : ℕ) (is : IsTable table counts) (some : list_all has_some counts ≡ true) (are : blocks ≡ min (total counts) most_blocks) (none : blocks ≡ 0) where
  no_region : counts ≡ []
  no_region = none_counted table counts is some (omega (arith, is.all, are, none))

  pub none_taken : (t : Threshold) → false ≡ takes_some t counts
  none_taken t = sym (ap (takes_some t) no_region ∙ takes_nothing t)

  pub none_passed : (t : Threshold) → t ≡ behind t counts
  none_passed t = sym (ap (behind t) no_region ∙ behind_nothing t)

-- what a list has at a place doesn't look at what it would have past its end
pub any_default : {X : Type 0} (xs : List X) (i : ℕ) (d e : X) → i < length xs → get_or xs i d ≡ get_or xs i e
any_default [] i d e lt = absurd (omega (arith, lt))
any_default (x ∷ xs) zero d e lt = refl
any_default (x ∷ xs) (suc i) d e lt = any_default xs i d e (omega (arith, lt))

-- ---- the tables

-- the tables of the first slots, and behind them those of no regions
pub record AreTablesTo (volumes : ℕ → Option Holding) (tables : List Table) (count : ℕ) : Type 0 where
  pub each : (s : ℕ) → s < count → IsTable (get_or tables s no_table) (counts_at s (volumes s))
  pub rest : (s : ℕ) → count ≤ s → s < 64 → IsTable (get_or tables s no_table) []

pub tables_none : (volumes : ℕ → Option Holding) (tables : List Table) → AreTables no_holding tables → AreTablesTo volumes tables 0
tables_none volumes tables empty = record { each = λ s low. absurd (omega (arith, low)); rest = λ s past low. empty s low }

module _ (volumes : ℕ → Option Holding) (tables now : List Table) (n : ℕ) (table : Table) (within : n < length tables) (is : now ≡ slice_set tables n table) where
  there : (s : ℕ) → s ≢ n → get_or tables s no_table ≡ get_or now s no_table
  there s other = sym (ap (λ (ts : List Table). get_or ts s no_table) is ∙ get_or-set_other tables n s table no_table other)

  -- one slot more
  pub tables_more : IsTable table (counts_at n (volumes n)) → AreTablesTo volumes tables n → AreTablesTo volumes now (n + 1)
  tables_more at was = record {
    each = λ s low. ⊎_elim
        (λ (here : s ≡ n). subst (λ (k : ℕ). IsTable (get_or now k no_table) (counts_at k (volumes k))) (sym here)
        (subst (λ (t : Table). IsTable t (counts_at n (volumes n))) (sym (ap (λ (ts : List Table). get_or ts n no_table) is ∙ get_or-set_same tables n table no_table within)) at))
        (λ (other : s ≢ n). subst (λ (t : Table). IsTable t (counts_at s (volumes s))) (there s other) (was.each s (omega (arith, low, other))))
        (cases_eq s n);
    rest = λ s past low. subst (λ (t : Table). IsTable t []) (there s (omega (arith, past))) (was.rest s (omega (arith, past)) low);
  }

-- ---- one slot

-- where none is counted the tables stay
pub added_none : (counts : List Count) (table all : Table) → counts ≡ [] → IsTable table [] → IsAdded counts table all all
added_none counts table all none is = record {
  own = subst (IsTable table) (sym none) is;
  all = λ others was. subst (IsTable all) (sym (ap (λ (cs : List Count). others ++ cs) none ∙ append-nil others)) was;
}

-- ---- the table of all

-- the regions of one slot more
pub before_more : (volumes : ℕ → Option Holding) (n : ℕ) → counts_before volumes (n + 1) ≡ counts_before volumes n ++ counts_at n (volumes n)
unfolding counts_before
before_more volumes n =
    let part : ℕ → List Count = λ s. counts_at s (volumes s) in
    let same : ℕ → ℕ = λ k. k in
    sym (flat_map-map part same (range_with_len 0 (n + 1)))
    ∙ ap (flat_map part) (map-range_with_len_more same 0 n n (omega arith))
    ∙ flat_map-append part (map same (range_with_len 0 n)) (n ∷ [])
    ∙ ap (λ (xs : List Count). xs ++ (part n ++ [])) (flat_map-map part same (range_with_len 0 n))
    ∙ ap (λ (xs : List Count). flat_map part (range_with_len 0 n) ++ xs) (append-nil (part n))

pub before_none : (volumes : ℕ → Option Holding) → counts_before volumes 0 ≡ []
unfolding counts_before
before_none volumes = refl

pub before_all : (volumes : ℕ → Option Holding) → counts_before volumes 64 ≡ counts_of volumes
unfolding counts_before counts_of slots
before_all volumes = refl

-- ---- the plan

-- the plan of the first slots, and the threshold behind them
pub record IsPlanTo (volumes : ℕ → Option Holding) (threshold : Threshold) (count : ℕ) (next : Threshold) (plan : Plan) : Type 0 where
  pub next_is : next ≡ behind threshold (counts_before volumes count)
  pub starts : (s : ℕ) → s < count → start_at plan s ≡ behind threshold (counts_before volumes s)
  pub due : (s : ℕ) → s < count → is_set plan.due s ≡ takes_some (behind threshold (counts_before volumes s)) (counts_at s (volumes s))
  pub delays : (s : ℕ) → s < count → get_or plan.delays s true ≡ false → counts_at s (volumes s) ≡ []

pub plan_begins : (volumes : ℕ → Option Holding) (threshold : Threshold) (plan : Plan) → IsPlanTo volumes threshold 0 threshold plan
plan_begins volumes threshold plan = record {
  next_is = sym (ap (behind threshold) (before_none volumes) ∙ behind_nothing threshold);
  starts = λ s low. absurd (omega (arith, low));
  due = λ s low. absurd (omega (arith, low));
  delays = λ s low. absurd (omega (arith, low));
}

pub plan_ends : (volumes : ℕ → Option Holding) (threshold : Threshold) (count : ℕ) (next : Threshold) (plan : Plan) → 64 ≤ count → IsPlanTo volumes threshold count next plan → IsPlan volumes threshold plan
plan_ends volumes threshold count next plan past is = record {
  starts = λ s low. is.starts s (omega (arith, low, past));
  due = λ s low. is.due s (omega (arith, low, past));
  delays = λ s low. is.delays s (omega (arith, low, past));
}

-- a list with one element changed
module _ {X : Type 0} (xs : List X) (n : ℕ) (x d : X) (within : n < length xs) where
  pub set_here : (s : ℕ) → s ≡ n → get_or (slice_set xs n x) s d ≡ x
  set_here s here = ap (λ (k : ℕ). get_or (slice_set xs n x) k d) here ∙ get_or-set_same xs n x d within

  pub set_there : (s : ℕ) → s ≢ n → get_or (slice_set xs n x) s d ≡ get_or xs s d
  set_there s other = get_or-set_other xs n s x d other

module _ (volumes : ℕ → Option Holding) (threshold : Threshold) (n : ℕ) (next after : Threshold) (plan now : Plan)
    (due some : Bool) (starts_long : n < length plan.starts) (due_long : n < length plan.due) (delays_long : n < length plan.delays)
    (starts_are : now.starts ≡ slice_set plan.starts n next) (due_are : now.due ≡ slice_set plan.due n due) (delays_are : now.delays ≡ slice_set plan.delays n some)
    (passes : due ≡ takes_some next (counts_at n (volumes n))) (passed : after ≡ behind next (counts_at n (volumes n))) (none : some ≡ false → counts_at n (volumes n) ≡ []) where
  -- one slot more
  pub plan_more : IsPlanTo volumes threshold n next plan → IsPlanTo volumes threshold (n + 1) after now
  plan_more was = record {
    next_is = passed ∙ ap (λ (t : Threshold). behind t (counts_at n (volumes n))) was.next_is ∙ sym (behind_slot volumes threshold n);
    starts = λ s low. ap (λ (ts : List Threshold). get_or ts s no_threshold) starts_are ∙ ⊎_elim
        (λ (here : s ≡ n). set_here plan.starts n next no_threshold starts_long s here ∙ was.next_is ∙ ap (λ (k : ℕ). behind threshold (counts_before volumes k)) (sym here))
        (λ (other : s ≢ n). set_there plan.starts n next no_threshold starts_long s other ∙ was.starts s (omega (arith, low, other)))
        (cases_eq s n);
    due = λ s low. ap (λ (bs : List Bool). get_or bs s false) due_are ∙ ⊎_elim
        (λ (here : s ≡ n). set_here plan.due n due false due_long s here ∙ passes ∙ ap (λ (t : Threshold). takes_some t (counts_at n (volumes n))) was.next_is
        ∙ ap (λ (k : ℕ). takes_some (behind threshold (counts_before volumes k)) (counts_at k (volumes k))) (sym here))
        (λ (other : s ≢ n). set_there plan.due n due false due_long s other ∙ was.due s (omega (arith, low, other)))
        (cases_eq s n);
    delays = λ s low off. ⊎_elim
        (λ (here : s ≡ n).
        subst (λ (k : ℕ). counts_at k (volumes k) ≡ []) (sym here) (none (sym (ap (λ (bs : List Bool). get_or bs s true) delays_are ∙ set_here plan.delays n some true delays_long s here) ∙ off)))
        (λ (other : s ≢ n). was.delays s (omega (arith, low, other)) (sym (ap (λ (bs : List Bool). get_or bs s true) delays_are ∙ set_there plan.delays n some true delays_long s other) ∙ off))
        (cases_eq s n);
  }
