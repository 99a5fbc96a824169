-- What a clean step leaves of a session, by what the call says.
use Rattle.std.proofs.Common.{◌≡◌, ◌≢◌, ℕ, Bool, [], ◌∷◌, Option, Some, None, refl, sym, ap, subst, ◌∙◌, ⊎_elim, get_or-set_other, get_or-set_same, arith, ◌<◌, length}
use Rattle.std.specs.Prelude.{IfSome}
use Rattle.std.proofs.lemmas.Bool.{cases_eq}
use Rattle.fv_disk.specs.Shown.{Shown as Disk}
use Rattle.fv_disk.specs.DiskCalls.{OnlyReads}
use Rattle.fv_model.specs.Volumes.{Volume}
use Rattle.fv_store.specs.Held.{StandsOn}
use Rattle.fv_pool.specs.declared.pool.Pool.{Pool}
use Rattle.fv_volume.specs.declared.state.VolumeState.{VolumeState}
use Rattle.fv_volume.specs.Held.{named_held, IsHeldIn}
use Rattle.fv_volume.specs.States.{States, state_at, with_state}
use Rattle.fv_cleaner.specs.Cleaning.{CleansAt, Steps, StepsIn}
use Rattle.fv_cleaner.specs.Staying.{MayBeCleaned, StandsCleaned}
use Rattle.fv_cleaner.proofs.Exact.{falls, Falls}
use Rattle.fv_cleaner.proofs.Step.{stands_after_step}

-- The volume of the slot was stepped on. The session stands, and there is less to do where the step answered true, and nothing where it answered false.
pub record StepsOn (disk : Disk) (pool : Pool) (states : States) (slot : ℕ) (x : VolumeState) (may : MayBeCleaned disk pool states slot x) (after : Disk) (left : Pool) (new : States) (took : Bool) : Type 0 where
  pub volume : VolumeState
  pub row : new ≡ with_state states slot (Some volume)
  pub stands : StandsCleaned disk pool states slot x after left volume
  pub less : Falls disk pool states slot x may left volume took

module _ (disk after : Disk) (pool left : Pool) (states new : States) (slot : ℕ) (x : VolumeState) (took : Bool) (may : MayBeCleaned disk pool states slot x) (cleans : CleansAt disk pool states slot left new took) (reads : OnlyReads disk after) (store : StandsOn after left.store.pairs) where
  steps : Steps disk pool states slot x left new took
  steps = subst (λ (o : Option VolumeState). StepsIn disk pool states slot o left new took) may.there cleans

  pub steps_on : StepsOn disk pool states slot x may after left new took
  steps_on = record {
    volume = steps.volume;
    row = steps.others;
    stands = stands_after_step disk after pool left states slot x steps.volume took may steps.cleans reads store;
    less = falls disk pool states slot x may left steps.volume took steps.cleans;
  }

  -- ---- the machine

  inside : slot < length states
  inside =
      let held : IsHeldIn disk pool slot x = subst (λ (o : Option VolumeState). IfSome o (IsHeldIn disk pool slot)) may.there (may.each slot) in
      let low = held.ready.lent.within in let at = held.slot in let long = may.housed.long in omega (arith, low, at, long)

  -- Each slot has the volume of the machine that it had, under its name.
  pub named_still : (k : ℕ) → named_held after left (state_at new k) ≡ named_held disk pool (state_at states k)
  named_still k = ⊎_elim
      (λ (e : k ≡ slot). ap (λ (n : ℕ). named_held after left (state_at new n)) e ∙ ap (named_held after left) here
      ∙ (λ i. (steps_on.stands.name i, steps_on.stands.volume i) ∷ []) ∙ sym (ap (named_held disk pool) may.there) ∙ sym (ap (λ (n : ℕ). named_held disk pool (state_at states n)) e))
      (λ (other : k ≢ slot). ap (named_held after left) (elsewhere other) ∙ by other (state_at states k) refl)
      (cases_eq k slot)
    where
      here : state_at new slot ≡ Some steps_on.volume
      here = ap (λ (r : States). state_at r slot) steps_on.row ∙ get_or-set_same states slot (Some steps_on.volume) None inside

      elsewhere : k ≢ slot → state_at new k ≡ state_at states k
      elsewhere other = ap (λ (r : States). state_at r k) steps_on.row ∙ get_or-set_other states slot k (Some steps_on.volume) None other

      by : k ≢ slot → (o : Option VolumeState) → state_at states k ≡ o → named_held after left o ≡ named_held disk pool o
      by other None at = refl
      by other (Some z) at = ap (λ (v : Volume). (z.name, v) ∷ []) (steps_on.stands.others.volume k z other at)
