-- Volumes that are settled one slot after another.
use Rattle.std.proofs.Common.{◌≡◌, ◌≢◌, ℕ, ◌+◌, ◌<◌, ◌≤◌, List, length, get_or, refl, sym, ap, subst, ◌∙◌, arith, ⊎_elim, length-set}
use Rattle.std.specs.Prelude.{Option, None}
use Rattle.std.specs.Option.{option_map}
use Rattle.std.proofs.lemmas.Bool.{cases_eq, cases_lt}
use Rattle.std.proofs.lemmas.List.{get_or_past, get_or-set_same, get_or-set_other}
use Rattle.fv_volume.specs.declared.state.VolumeState.{VolumeState}
use Rattle.fv_volume.specs.States.{States, state_at, with_state}
use Rattle.fv_volumes.specs.Housed.{AreSettledTo, settled_as, settled_at}

-- ---- slots that turn one after another

-- the slots before one have turned, and this one has now
pub record Turns (turn : ℕ → Option VolumeState → Option VolumeState) (states old new : States) (s : ℕ) : Type 0 where
  pub long : length new ≡ length old
  pub done : (k : ℕ) → k < s + 1 → state_at new k ≡ turn k (state_at states k)
  pub others : (k : ℕ) → s + 1 ≤ k → state_at new k ≡ state_at states k

pub turned_more : (turn : ℕ → Option VolumeState → Option VolumeState) (states old new : States) (s : ℕ) → s < length old → new ≡ with_state old s (turn s (state_at old s))
    → ((k : ℕ) → k < s → state_at old k ≡ turn k (state_at states k)) → ((k : ℕ) → s ≤ k → state_at old k ≡ state_at states k) → Turns turn states old new s
turned_more turn states old new s inside is done others = record {
  long = ap (λ (xs : States). length xs) is ∙ length-set old s (turn s (state_at old s));
  done = λ k low. ⊎_elim
      (λ (e : k ≡ s). subst (λ (n : ℕ). state_at new n ≡ turn n (state_at states n)) (sym e) there)
      (λ (other : k ≢ s). elsewhere k other ∙ done k (omega (arith, low, other)))
      (cases_eq k s);
  others = λ k high. elsewhere k (λ e. omega (arith, high, e)) ∙ others k (omega (arith, high));
}
  where
    there : state_at new s ≡ turn s (state_at states s)
    there = ap (λ (xs : States). state_at xs s) is ∙ get_or-set_same old s (turn s (state_at old s)) None inside ∙ ap (turn s) (others s (omega arith))

    elsewhere : (k : ℕ) → k ≢ s → state_at new k ≡ state_at old k
    elsewhere k other = ap (λ (xs : States). state_at xs k) is ∙ get_or-set_other old s k (turn s (state_at old s)) None other

-- once all slots have turned, all volumes have
pub turned_all : (turn : ℕ → Option VolumeState → Option VolumeState) (states now : States) (count : ℕ) → 64 ≤ count → length states ≡ 64 → length now ≡ 64 → ((k : ℕ) → turn k None ≡ None)
    → ((k : ℕ) → k < count → state_at now k ≡ turn k (state_at states k)) → (k : ℕ) → state_at now k ≡ turn k (state_at states k)
turned_all turn states now count all long same none done k = ⊎_elim
    (λ (inside : k < 64). done k (omega (arith, inside, all)))
    (λ (past : 64 ≤ k). get_or_past now k None (omega (arith, past, same)) ∙ sym (none k) ∙ ap (turn k) (sym (get_or_past states k None (omega (arith, past, long)))))
    (cases_lt k 64)

-- ---- volumes that are settled

pub settled_none : (states : States) (labels : List ℕ) → length states ≡ 64 → AreSettledTo states states labels 0
settled_none states labels long = record { long = long; done = λ s low. absurd (omega (arith, low)); others = λ s low. refl }

-- one slot more is settled
pub settled_more : (states old new : States) (labels : List ℕ) (s : ℕ) → s < 64 → AreSettledTo states old labels s → new ≡ with_state old s (option_map (settled_as (get_or labels s 0)) (state_at old s)) → AreSettledTo states new labels (s + 1)
settled_more states old new labels s inside are is =
    let step = turned_more (λ k o. option_map (settled_as (get_or labels k 0)) o) states old new s (omega (arith, inside, are.long)) is are.done are.others in
    record { long = step.long ∙ are.long; done = step.done; others = step.others }

-- once all slots are settled, all volumes are
pub settled_all : (states now : States) (labels : List ℕ) (count : ℕ) → 64 ≤ count → length states ≡ 64 → AreSettledTo states now labels count → (k : ℕ) → state_at now k ≡ settled_at labels states k
settled_all states now labels count all long are = turned_all (λ k o. option_map (settled_as (get_or labels k 0)) o) states now count all long are.long (λ k. refl) are.done
