-- That what the host shows is a disk.
use Rattle.std.proofs.Common.{◌≡◌, ◌==◌, ◌-◌, ◌+◌, ◌||◌, ⊎_elim, ℕ, Bool, true, false, cond, List, [], ◌∷◌, ◌++◌, length, take, refl, sym, ap, ◌∙◌, subst, arith}
use Rattle.std.specs.Prelude.{slice_index}
use Rattle.std.proofs.lemmas.List.{take_all}
use Rattle.std.proofs.lemmas.Bool.{false≢true, cases_eq}
use Rattle.std.proofs.lemmas.Bool.Decides.{nat_tests}
use Rattle.fv_disk.specs.Shown.{Ends, Image, IsBlock, IsDisk}
use Rattle.fv_memdisk.specs.declared.kept.Event.{Event}
use Rattle.fv_memdisk.specs.declared.kept.Event.TheVariants.{Write, Torn, Barrier, Give}
use Rattle.fv_memdisk.specs.declared.kept.Kept.{Kept}
use Rattle.fv_memdisk.specs.Past.{is_among, noted, State, blank, step, replay, was_forgotten, is_open, IsLeft}
use Rattle.fv_memdisk.specs.Story.{Story, state_at, outputs, shown_at, IsSound}

pub is_among_push : (xs : List ℕ) (at a : ℕ) → is_among (xs ++ at ∷ []) a ≡ is_among xs a || (at == a)
is_among_push [] at a = elim (at == a) as (λ b. (b || false) ≡ b) [ true ↦ refl | false ↦ refl ]
is_among_push (x ∷ xs) at a = elim (x == a) as (λ b. (b || is_among (xs ++ at ∷ []) a) ≡ ((b || is_among xs a) || (at == a))) [ true ↦ refl | false ↦ is_among_push xs at a ]

pub or_false : (b c : Bool) → (b || c) ≡ false → (b ≡ false) × (c ≡ false)
or_false true c h = absurd (false≢true (sym h))
or_false false c h = (refl, h)

pub eq_flip : (x y : ℕ) → (x == y) ≡ (y == x)
eq_flip x y = grind (arith, nat_tests)

among_noted_by : (b : Bool) (xs : List ℕ) (at a : ℕ) → is_among xs at ≡ b → is_among (cond b xs (xs ++ at ∷ [])) a ≡ is_among xs a || (at == a)
among_noted_by true xs at a is = ⊎_elim (λ e. rw (← e) (is ∙ sym (ap (λ b. b || (at == at)) is))) (λ ne. let no : (at == a) ≡ false = grind (arith, nat_tests) in rw no (sym (or_nothing (is_among xs a)))) (cases_eq at a)
  where
    or_nothing : (b : Bool) → (b || false) ≡ b
    or_nothing true = refl
    or_nothing false = refl
among_noted_by false xs at a is = is_among_push xs at a

pub among_noted : (xs : List ℕ) (at a : ℕ) → is_among (noted xs at) a ≡ is_among xs a || (at == a)
unfolding noted
among_noted xs at a = among_noted_by (is_among xs at) xs at a refl

-- where a block isn't among the noted ones, it wasn't before, and is another than the last
pub noted_apart : (xs : List ℕ) (at a : ℕ) → is_among (noted xs at) a ≡ false → (is_among xs a ≡ false) × ((a == at) ≡ false)
noted_apart xs at a apart = let p = or_false (is_among xs a) (at == a) (sym (among_noted xs at a) ∙ apart) in (p.0, eq_flip a at ∙ p.1)

-- what wasn't written since the last barrier reads as it did then
abbrev pub Agrees : State → Type 0
Agrees s = (a : ℕ) → is_among s.written a ≡ false → s.reads a ≡ s.settled a

agrees_step : (s : State) (e : Event) → Agrees s → Agrees (step s e)
unfolding step
agrees_step s (Write at block) same = λ a apart. let p = noted_apart s.written at a apart in rw (p.1) (same a p.0)
agrees_step s (Torn at) same = λ a apart. same a (noted_apart s.written at a apart).0
agrees_step s Barrier same = λ a apart. refl
agrees_step s Give same = same

agrees_replay : (s : State) (ks : List Kept) → Agrees s → Agrees (replay s ks)
unfolding replay
agrees_replay s [] same = same
agrees_replay s (k ∷ ks) same = agrees_replay (step s k.event) ks (agrees_step s k.event same)

pub agrees : (base : Image) (past : List Kept) (i : ℕ) → Agrees (state_at base past i)
agrees base past i = agrees_replay (blank base) (take i past) (λ a _. refl)

pub not_written : (s : State) (places : List (ℕ × ℕ)) (a : ℕ) → is_open s places a ≡ false → is_among s.written a ≡ false
unfolding is_open
not_written s places a shut = (or_false (is_among s.written a) (was_forgotten places s.start s.count a) shut).0

pub is_disk : (s : Story) (faults write_faults : ℕ) (ends : Ends) → IsSound s → IsDisk (shown_at s faults write_faults ends)
is_disk s faults write_faults ends sound = record {
  read_is_image = λ _. record {
    blocks = λ a. subst IsBlock (sound.reads a) (sound.whole (length s.past) a);
    others = λ a shut. sym (sound.reads a) ∙ agrees s.base s.past (length s.past) a (not_written (state_at s.base s.past (length s.past)) s.places a shut);
  };
  counts_now = λ t c le left. record {
    moment = length s.past - s.run;
    later = le;
    reached = omega (arith, sound.run);
    image = subst (λ (n : ℕ). IsLeft (state_at s.base s.past n) s.places c) (sym now) left;
    output = sym (take_all (slice_index (outputs s.past s.run) (length s.past - s.run)) s.given (omega (arith, sound.full)));
  };
  only_now = λ c g left. let same : left.moment ≡ length s.past - s.run = omega (arith, sound.run, left.later, left.reached) in (
    subst (λ (n : ℕ). IsLeft (state_at s.base s.past n) s.places c) (ap (λ n. s.run + n) same ∙ now) left.image,
    left.output ∙ ap (λ n. take (slice_index (outputs s.past s.run) n) s.given) same ∙ take_all (slice_index (outputs s.past s.run) (length s.past - s.run)) s.given (omega (arith, sound.full)),
  );
  earlier = λ t u c g le left. record { moment = left.moment; later = omega (arith, le, left.later); reached = left.reached; image = left.image; output = left.output };
  blocks = λ t c g left. left.image.blocks;
}
  where
    now : s.run + (length s.past - s.run) ≡ length s.past
    now = omega (arith, sound.run)
