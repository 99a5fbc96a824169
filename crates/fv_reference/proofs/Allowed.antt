-- Which reply a machine allows, from whether the command is refused.
use Rattle.std.proofs.Common.{◌≡◌, ℕ, Bool, true, false, cond, Option, Some, None, refl, sym, ap, subst, ◌∙◌, is_some, arith}
use Rattle.fv_model.specs.declared.answers.Refusal.{Refusal}
use Rattle.fv_model.specs.declared.answers.Reply.{Reply}
use Rattle.fv_model.specs.declared.answers.Reply.TheVariants.{Number, Refused}
use Rattle.fv_model.specs.declared.commands.Command.{Command}
use Rattle.fv_model.specs.declared.commands.Command.TheVariants.{Probe}
use Rattle.fv_model.specs.Machines.{Machine, empty_machine}
use Rattle.fv_model.specs.Effects.{effect}
use Rattle.fv_model.specs.Refusals.{first_of, refusal, next}
use Rattle.fv_model.specs.Replies.{Allows, AllowsBy, IsAnswer, is_open, answer}
use Rattle.fv_laws.specs.Halves.{before_space, for_space}
use Rattle.fv_laws.specs.Within.{IsWithin}
use Rattle.fv_laws.proofs.Halves.{refused_before as before_is, refused_for_space as for_space_is}
use Rattle.fv_laws.proofs.Within.{effect_within, empty_within}

open_zero : (m : Machine) (c : Command) → is_open m c ≡ true → answer m c ≡ Number 0
unfolding answer
open_zero m (Probe v f i) e = refl
open_zero m c e = cc

is_answer : (b : Bool) (expected reply : Reply) → reply ≡ expected → (b ≡ true → expected ≡ Number 0) → IsAnswer b expected reply
is_answer false expected reply e z = e
is_answer true expected reply e z = (0, omega arith, e ∙ z refl)

-- a refused command is answered by its refusal, and the machine stays
refused : (m : Machine) (c : Command) (r : Refusal) → refusal m c ≡ Some r → Allows m c (Refused r)
refused m c r e = subst (λ (o : Option Refusal). AllowsBy o m c (Refused r)) (sym e) refl

stays : (m : Machine) (c : Command) (r : Refusal) → refusal m c ≡ Some r → m ≡ next m c
stays m c r e = ap (λ (o : Option Refusal). cond (is_some o) m (effect m c)) (sym e)

pub refused_before : (m : Machine) (c : Command) (r : Refusal) → Some r ≡ first_of (before_space m c) → Allows m c (Refused r)
refused_before m c r e = refused m c r (before_is m c r (sym e))

pub stays_before : (m : Machine) (c : Command) (o : Option Refusal) (r : Refusal) → o ≡ first_of (before_space m c) → o ≡ Some r → m ≡ next m c
stays_before m c o r e some = stays m c r (before_is m c r (sym e ∙ some))

pub refused_for_space : (m : Machine) (c : Command) (r : Refusal) → None ≡ first_of (before_space m c) → Some r ≡ first_of (for_space m c) → Allows m c (Refused r)
refused_for_space m c r none e = refused m c r (for_space_is m c (sym none) ∙ sym e)

pub stays_for_space : (m : Machine) (c : Command) (o : Option Refusal) (r : Refusal) → None ≡ first_of (before_space m c) → o ≡ first_of (for_space m c) → o ≡ Some r → m ≡ next m c
stays_for_space m c o r none e some = stays m c r (for_space_is m c (sym none) ∙ sym e ∙ some)

-- an accepted command is answered, and has its effect
accepted : (m : Machine) (c : Command) → None ≡ first_of (before_space m c) → None ≡ first_of (for_space m c) → None ≡ refusal m c
accepted m c none room = room ∙ sym (for_space_is m c (sym none))

pub answered : (m : Machine) (c : Command) (reply : Reply) → None ≡ first_of (before_space m c) → None ≡ first_of (for_space m c) → reply ≡ answer m c → Allows m c reply
answered m c reply none room is = subst (λ (o : Option Refusal). AllowsBy o m c reply) (accepted m c none room) (is_answer (is_open m c) (answer m c) reply is (open_zero m c))

pub becomes : (m after : Machine) (c : Command) → None ≡ first_of (before_space m c) → None ≡ first_of (for_space m c) → after ≡ effect m c → after ≡ next m c
becomes m after c none room effects = effects ∙ ap (λ (o : Option Refusal). cond (is_some o) m (effect m c)) (accepted m c none room)

-- and then no volume outgrows its size
pub still_within : (m after : Machine) (c : Command) → IsWithin m → None ≡ first_of (before_space m c) → None ≡ first_of (for_space m c) → after ≡ effect m c → IsWithin after
still_within m after c was none room effects = subst IsWithin (sym effects) (effect_within m c was (for_space_is m c (sym none) ∙ sym room))

pub none_yet : (m : Machine) (blocks : ℕ) → m ≡ empty_machine blocks → IsWithin m
none_yet m blocks is = subst IsWithin (sym is) (empty_within blocks)
