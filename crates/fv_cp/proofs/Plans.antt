-- The plan of a point takes just the regions that are chosen.
use Rattle.std.proofs.Common.{◌≡◌, ◌≢◌, ℕ, ◌+◌, ◌<◌, ◌⊎◌, inl, inr, Bool, true, false, ◌&&◌, List, [], length, get_or, refl, sym, ap, subst, ◌∙◌, ⊎_elim, arith}
use Rattle.std.specs.Prelude.{Option, Some, None, slice_set}
use Rattle.std.proofs.lemmas.List.{get_or-set_same, get_or-set_other}
use Rattle.std.proofs.lemmas.Bool.{both_ways, cases_eq}
use Rattle.fv_image.specs.Containers.{level_width}
use Rattle.fv_delay.specs.declared.regions.Region.{Region}
use Rattle.fv_delay.specs.declared.threshold.Threshold.{Threshold}
use Rattle.fv_delay.specs.ByThreshold.{TakesAll, behind, counts_before, taken_in, takes_some, threshold_for}
use Rattle.fv_delay.specs.Choice.{chosen, regions_counted}
use Rattle.fv_delay.specs.Delay.{is_delayed, region_of}
use Rattle.fv_delay.specs.Holding.{Holding, counts_in, counts_of, has_region, held_by}
use Rattle.fv_cp.specs.declared.planning.Plan.{Plan}
use Rattle.fv_cp.specs.Choosing.{counts_at, has_slot}
use Rattle.fv_disk.specs.Shown.{Image}
use Rattle.fv_container.specs.Clean.{IsCleanOn}
use Rattle.fv_container.specs.Paged.{Paged}
use Rattle.fv_volume.specs.declared.state.VolumeState.{VolumeState}
use Rattle.fv_cp.specs.Course.{AreHereIn}
use Rattle.fv_cp.specs.Planning.{HasLeaves, IsReclaimable, IsPlan, LeaveDelays, LeavesDelays, TakesAllOf, is_set, start_at, taken, takes_of}
use Rattle.fv_cp.proofs.Counting.{none_delayed_in, some_there}
use Rattle.fv_cp.proofs.Marking.{none_chosen}
use Rattle.fv_delay.proofs.InVolume.{slot_chosen, taken_chosen}

module _ (volumes : ℕ → Option Holding) (missing : ℕ) (plan : Plan) (is : IsPlan volumes (threshold_for (counts_of volumes) missing) plan) where
  -- the regions that are chosen
  abbrev list : List Region
  list = regions_counted (chosen (counts_of volumes) missing)

  -- A volume is due just where it has one of them.
  pub due_chosen : (s : ℕ) (x : Holding) → s < 64 → volumes s ≡ Some x → is_set plan.due s ≡ has_slot list s
  due_chosen s x inside there =
      is.due s inside ∙ ap (λ (o : Option Holding). takes_some (behind (threshold_for (counts_of volumes) missing) (counts_before volumes s)) (counts_at s o)) there
      ∙ slot_chosen volumes s x missing there inside

  start_takes : (s : ℕ) (x : Holding) (r : ℕ) → s < 64 → volumes s ≡ Some x → r < level_width (length x.container.entries) 0 → taken_in (start_at plan s) x r ≡ has_region list s r
  start_takes s x r inside there within = ap (λ (t : Threshold). taken_in t x r) (is.starts s inside) ∙ taken_chosen volumes s x r missing there inside within

  -- So just these regions are taken of those that a volume has.
  pub taken_are : (s : ℕ) (x : Holding) (r : ℕ) → s < 64 → volumes s ≡ Some x → r < level_width (length x.container.entries) 0 → taken plan volumes s r ≡ has_region list s r
  taken_are s x r inside there within = ap (λ (o : Option Holding). takes_of plan s o r) there ∙ so (is_set plan.due s) refl
    where
      so : (t : Bool) → is_set plan.due s ≡ t → (t && taken_in (start_at plan s) x r) ≡ has_region list s r
      so true e = start_takes s x r inside there within
      so false e = sym (none_chosen list s r (sym (due_chosen s x inside there) ∙ e))

  -- Of a slot that isn't marked then each delayed entry lies in one of them.
  pub none_missed : (delays : List Bool) → LeaveDelays plan volumes 64 plan.delays delays → (s : ℕ) (x : Holding) → s < 64 → get_or delays s true ≡ false → volumes s ≡ Some x → (v : ℕ) → is_delayed x.map x.container v ≡ true → has_region list s (region_of v) ≡ true
  none_missed delays leave s x inside off there v is_delayed_there = ⊎_elim
      (λ (was : get_or plan.delays s true ≡ false).
      let none : counts_in s x ≡ [] = ap (counts_at s) (sym there) ∙ is.delays s inside was in
      absurd (both_ways _ (none_delayed_in x s v none) is_delayed_there))
      (λ (all : TakesAllOf plan s (volumes s)).
      let takes : TakesAllOf plan s (Some x) = subst (TakesAllOf plan s) there all in
      let at = some_there x v is_delayed_there in
      sym (start_takes s x (region_of v) inside there at.0) ∙ takes.1 (region_of v) at.0 at.1)
      (leave.done s inside off)

-- ---- one slot after another

-- nothing was reclaimed yet
pub delays_begin : (plan : Plan) (volumes : ℕ → Option Holding) (delays : List Bool) → LeaveDelays plan volumes 0 delays delays
delays_begin plan volumes delays = record { done = λ s low. absurd (omega (arith, low)); rest = λ s past. refl }

-- one slot more
pub delays_more : (plan : Plan) (volumes : ℕ → Option Holding) (s : ℕ) (volume : Option Holding) (first old new : List Bool) → volume ≡ volumes s → LeaveDelays plan volumes s first old → LeavesDelays plan s volume old new → LeaveDelays plan volumes (s + 1) first new
delays_more plan volumes s volume first old new same was is = record {
  done = λ k low off. ⊎_elim
      (λ (here : k ≡ s). at k here off)
      (λ (other : k ≢ s). was.done k (omega (arith, low, other)) (sym (is.others k other) ∙ off))
      (cases_eq k s);
  rest = λ k past. is.others k (λ e. omega (arith, past, e)) ∙ was.rest k (omega (arith, past));
}
  where
    at : (k : ℕ) → k ≡ s → get_or new k true ≡ false → (get_or first k true ≡ false) ⊎ TakesAllOf plan k (volumes k)
    at k here off = subst (λ (n : ℕ). (get_or first n true ≡ false) ⊎ TakesAllOf plan n (volumes n)) (sym here) (⊎_elim
        (λ (before : get_or old s true ≡ false). inl (sym (was.rest s (omega arith)) ∙ before))
        (λ (all : TakesAllOf plan s volume). inr (subst (TakesAllOf plan s) same all))
        (is.known (ap (λ (n : ℕ). get_or new n true) (sym here) ∙ off)))

-- a slot that is passed
pub delays_stay : (plan : Plan) (s : ℕ) (volume : Option Holding) (delays : List Bool) → LeavesDelays plan s volume delays delays
delays_stay plan s volume delays = record { known = λ off. inl off; others = λ k other. refl }

-- a slot whose regions were reclaimed, with the answer
pub delays_set : (plan : Plan) (s : ℕ) (x : Holding) (old : List Bool) (left : Bool) → s < length old → is_set plan.due s ≡ true → (left ≡ false → TakesAll (start_at plan s) x) → LeavesDelays plan s (Some x) old (slice_set old s left)
delays_set plan s x old left within due all = record {
  known = λ off. inr (due, all (sym (get_or-set_same old s left true within) ∙ off));
  others = λ k other. get_or-set_other old s k left true other;
}

-- The regions of a plan can be reclaimed where the container is clean, and what that needs is in memory.
pub reclaimable : (plan : Plan) (s : ℕ) (x : VolumeState) (paged : Paged) (i : Image) → IsCleanOn i paged → HasLeaves plan s x paged → AreHereIn (takes_of plan s (Some (held_by x.map paged.map))) paged → IsReclaimable plan s x.map paged
reclaimable plan s x paged i clean leaves here = record {
  sure = λ due region within. clean.known region (leaves.known due region within);
  taken = λ due region is. here region (ap (λ (t : Bool). t && taken_in (start_at plan s) (held_by x.map paged.map) region) due ∙ is);
}

-- ---- where nothing is reclaimed

takes_due : (plan : Plan) (s : ℕ) (volume : Option Holding) → TakesAllOf plan s volume → is_set plan.due s ≡ true
takes_due plan s None all = absurd all
takes_due plan s (Some x) all = all.0

-- a slot that isn't marked then wasn't marked by the plan
pub marks_left : (plan : Plan) (volumes : ℕ → Option Holding) (delays : List Bool) → LeaveDelays plan volumes 64 plan.delays delays → ((s : ℕ) → s < 64 → is_set plan.due s ≡ false) → (s : ℕ) → s < 64 → get_or delays s true ≡ false → get_or plan.delays s true ≡ false
marks_left plan volumes delays leave none s inside off = ⊎_elim
    (λ (was : get_or plan.delays s true ≡ false). was)
    (λ (all : TakesAllOf plan s (volumes s)). absurd (both_ways _ (none s inside) (takes_due plan s (volumes s) all)))
    (leave.done s inside off)
