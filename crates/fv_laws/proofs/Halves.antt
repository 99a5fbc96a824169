-- The refusals for want of space come last.
use Rattle.std.proofs.Common.{◌≡◌, Bool, true, false, cond, List, [], ◌∷◌, ◌++◌, refl, sym, ap, ◌∙◌, Option, Some, None}
use Rattle.std.specs.Option.{option_or}
use Rattle.fv_model.specs.declared.answers.Refusal.{Refusal}
use Rattle.fv_model.specs.declared.commands.Command.{Command}
use Rattle.fv_model.specs.declared.commands.Command.TheVariants.{VolCreate, VolDestroy, VolResize, VolGuarantee, VolList, VolStat, New, Put, Get, Len, Cut, Remove, Ls, SnapCreate, SnapDelete, SnapRestore, SnapList, CloneCreate, SplitStart, SplitFinish, Mirror, Clean, Probe, Work, Cp}
use Rattle.fv_model.specs.Machines.{Machine}
use Rattle.fv_model.specs.Refusals.{Condition, conditions, first_of, refusal}
use Rattle.fv_laws.specs.Halves.{before_space, for_space}

halves : (m : Machine) (c : Command) → conditions m c ≡ before_space m c ++ for_space m c
unfolding conditions
halves m (VolCreate v size kind) = refl
halves m (VolDestroy v) = refl
halves m (VolResize v size) = refl
halves m (VolGuarantee v kind) = refl
halves m VolList = refl
halves m (VolStat v) = refl
halves m (New v f reserve) = refl
halves m (Put v f i block) = refl
halves m (Get v s f i) = refl
halves m (Len v s f) = refl
halves m (Cut v f length) = refl
halves m (Remove v f) = refl
halves m (Ls v s) = refl
halves m (SnapCreate v s) = refl
halves m (SnapDelete v s) = refl
halves m (SnapRestore v s) = refl
halves m (SnapList v) = refl
halves m (CloneCreate c v s size kind) = refl
halves m (SplitStart c) = refl
halves m (SplitFinish c) = refl
halves m (Mirror v s w size kind) = refl
halves m (Clean v) = refl
halves m (Probe v f i) = refl
halves m (Work n) = refl
halves m Cp = refl

first_in_first : (rs ss : List Condition) (r : Refusal) → first_of rs ≡ Some r → first_of (rs ++ ss) ≡ Some r
first_in_first [] ss r e = cc
first_in_first (c ∷ rs) ss r e = elim c.1 as (λ b. cond b (Some c.0) (first_of rs) ≡ Some r → cond b (Some c.0) (first_of (rs ++ ss)) ≡ Some r) [
  | true ↦ λ e. e
  | false ↦ λ e. first_in_first rs ss r e
] e

first_in_second : (rs ss : List Condition) → first_of rs ≡ None → first_of (rs ++ ss) ≡ first_of ss
first_in_second [] ss e = refl
first_in_second (c ∷ rs) ss e = elim c.1 as (λ b. cond b (Some c.0) (first_of rs) ≡ None → cond b (Some c.0) (first_of (rs ++ ss)) ≡ first_of ss) [
  | true ↦ λ e. cc
  | false ↦ λ e. first_in_second rs ss e
] e

-- a refusal that comes before space is the refusal, and where none comes it is that for want of space
pub refused_before : (m : Machine) (c : Command) (r : Refusal) → first_of (before_space m c) ≡ Some r → refusal m c ≡ Some r
refused_before m c r e = ap first_of (halves m c) ∙ first_in_first (before_space m c) (for_space m c) r e

pub refused_for_space : (m : Machine) (c : Command) → first_of (before_space m c) ≡ None → refusal m c ≡ first_of (for_space m c)
refused_for_space m c e = ap first_of (halves m c) ∙ first_in_second (before_space m c) (for_space m c) e

-- where there is no refusal, there is none in either half
nothing_first : (rs ss : List Condition) → first_of (rs ++ ss) ≡ None → (first_of rs ≡ None) × (first_of ss ≡ None)
nothing_first [] ss e = (refl, e)
nothing_first (c ∷ rs) ss e = elim c.1 as (λ b. cond b (Some c.0) (first_of (rs ++ ss)) ≡ None → (cond b (Some c.0) (first_of rs) ≡ None) × (first_of ss ≡ None)) [
  | true ↦ λ e. cc
  | false ↦ λ e. nothing_first rs ss e
] e

pub accepted : (m : Machine) (c : Command) → refusal m c ≡ None → (first_of (before_space m c) ≡ None) × (first_of (for_space m c) ≡ None)
accepted m c e = nothing_first (before_space m c) (for_space m c) (sym (ap first_of (halves m c)) ∙ e)

-- a condition whose refusal didn't come doesn't hold
pub not_first : (b : Bool) (r : Refusal) (rest : Option Refusal) → cond b (Some r) rest ≡ None → (b ≡ false) × (rest ≡ None)
not_first true r rest e = cc
not_first false r rest e = (refl, e)

-- the conditions whose refusals didn't come
abbrev pub NoneHolds : List Condition → Type 0
NoneHolds [] = Unit
NoneHolds (c ∷ cs) = (c.1 ≡ false) × NoneHolds cs

pub none_holds : (cs : List Condition) → first_of cs ≡ None → NoneHolds cs
none_holds [] none = tt
none_holds (c ∷ cs) none = let first : (c.1 ≡ false) × (first_of cs ≡ None) = not_first c.1 c.0 (first_of cs) none in (first.0, none_holds cs first.1)

first_in_halves : (rs ss : List Condition) → first_of (rs ++ ss) ≡ option_or (first_of rs) (first_of ss)
first_in_halves [] ss = refl
first_in_halves (c ∷ rs) ss = elim c.1 as (λ b. cond b (Some c.0) (first_of (rs ++ ss)) ≡ option_or (cond b (Some c.0) (first_of rs)) (first_of ss)) [
  | true ↦ refl
  | false ↦ first_in_halves rs ss
]

pub in_halves : (m : Machine) (c : Command) → refusal m c ≡ option_or (first_of (before_space m c)) (first_of (for_space m c))
in_halves m c = ap first_of (halves m c) ∙ first_in_halves (before_space m c) (for_space m c)
