-- How a run of calls goes on: what a crash at any moment of it leaves.
use Rattle.std.proofs.Common.{◌≡◌, ℕ, List, inl, inr, ⊎_elim, arith}
use Rattle.fv_disk.specs.Shown.{Image, Shown, IsDisk, Elapses}
use Rattle.fv_disk.specs.Crash.{Leaves}

-- before the first call
pub started : (disk : Shown) (P : Image → List ℕ → Type 0) → IsDisk disk → ((c : Image) → disk.images c → P c disk.given) → Leaves disk disk P
started disk P laws here = record {
  later = omega arith;
  each = λ c g left. let now = laws.only_now c g left in at_once disk P c g now.1 (here c now.0);
  before = λ t c g le left. inl left;
}
  where
    at_once : (disk : Shown) (P : Image → List ℕ → Type 0) (c : Image) (g : List ℕ) → g ≡ disk.given → P c disk.given → P c g
    at_once disk P c g same holds = rw same holds

-- one call more, after which each image of a crash has P with the bytes given by then
pub goes_on : (old mid new : Shown) (P : Image → List ℕ → Type 0) → Leaves old mid P → Elapses mid new → ((c : Image) → new.images c → P c new.given) → Leaves old new P
goes_on old mid new P so_far time here = record {
  later = omega (arith, so_far.later, time.later);
  each = λ c g left. ⊎_elim (so_far.each c g) (λ now. at_once now) (time.nothing_else old.moment c g so_far.later left);
  before = λ t c g le left. ⊎_elim (so_far.before t c g le) (λ now. inr (at_once now)) (time.nothing_else t c g (omega (arith, le, so_far.later)) left);
}
  where
    at_once : {c : Image} {g : List ℕ} → new.images c × (g ≡ new.given) → P c g
    at_once {c} {g} now = rw (now.1) (here c now.0)

-- one run after another
pub then : (old mid new : Shown) (P : Image → List ℕ → Type 0) → Leaves old mid P → Leaves mid new P → Leaves old new P
then old mid new P first second = record {
  later = omega (arith, first.later, second.later);
  each = λ c g left. ⊎_elim (first.each c g) (λ p. p) (second.before old.moment c g first.later left);
  before = λ t c g le left. ⊎_elim (first.before t c g le) (λ p. inr p) (second.before t c g (omega (arith, le, first.later)) left);
}

-- what is left has a weaker P too
pub weaken : (old new : Shown) (P Q : Image → List ℕ → Type 0) → ((c : Image) (g : List ℕ) → P c g → Q c g) → Leaves old new P → Leaves old new Q
weaken old new P Q weaker left = record {
  later = left.later;
  each = λ c g since. weaker c g (left.each c g since);
  before = λ t c g le since. ⊎_elim (λ old. inl old) (λ p. inr (weaker c g p)) (left.before t c g le since);
}
