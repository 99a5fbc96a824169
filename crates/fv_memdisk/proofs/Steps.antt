-- What one call more does to the disk and to what a crash may leave of it.
use Rattle.std.proofs.Common.{◌≡◌, ◌≢◌, ◌==◌, ◌≤◌, ◌<◌, ◌+◌, ◌||◌, ◌&&◌, ⊎_elim, ℕ, Bool, true, false, cond, List, [], ◌∷◌, ◌++◌, length, take, refl, sym, ap, ◌∙◌, subst, arith, length-append}
use Rattle.std.proofs.Math.Bool.{or_assoc, or_comm}
use Rattle.std.specs.Prelude.{nat_le}
use Rattle.std.proofs.lemmas.List.{take_all, take-append-le, length-take-le}
use Rattle.std.proofs.lemmas.Bool.{false≢true, cases_eq}
use Rattle.std.proofs.lemmas.Bool.Decides.{nat_tests}
use Rattle.fv_disk.specs.Shown.{Image, IsBlock}
use Rattle.fv_disk.specs.Shown.{SameBut}
use Rattle.fv_memdisk.specs.declared.kept.Event.{Event}
use Rattle.fv_memdisk.specs.declared.kept.Event.TheVariants.{Write, Torn, Barrier, Give}
use Rattle.fv_memdisk.specs.declared.kept.Kept.{Kept}
use Rattle.fv_memdisk.specs.Past.{is_among, noted, put, State, blank, step, replay, was_forgotten, is_open, IsLeft}
use Rattle.fv_memdisk.specs.Story.{state_at, are_known}
use Rattle.fv_memdisk.specs.Laws.{or_false, among_noted, Agrees, agrees, not_written}

-- replaying one record more
pub replay_push : (s : State) (ks : List Kept) (k : Kept) → replay s (ks ++ k ∷ []) ≡ step (replay s ks) k.event
unfolding replay
replay_push s [] k = refl
replay_push s (l ∷ ks) k = replay_push (step s l.event) ks k

pub state_old : (base : Image) (past : List Kept) (k : Kept) (i : ℕ) → i ≤ length past → state_at base (past ++ k ∷ []) i ≡ state_at base past i
state_old base past k i le = ap (λ ks. replay (blank base) ks) (take-append-le i past (k ∷ []) le)

pub state_more : (base : Image) (past : List Kept) (k : Kept) (i : ℕ) → length past < i → state_at base (past ++ k ∷ []) i ≡ step (state_at base past (length past)) k.event
state_more base past k i lt =
    ap (λ ks. replay (blank base) ks) (take_all i (past ++ k ∷ []) (omega (arith, length-append past (k ∷ []))))
    ∙ replay_push (blank base) past k ∙ ap (λ ks. step (replay (blank base) ks) k.event) (sym (take_all (length past) past (omega arith)))

count_step : (s : State) (e : Event) → (step s e).count ≡ s.count + 1
unfolding step
count_step s (Write at block) = refl
count_step s (Torn at) = refl
count_step s Barrier = refl
count_step s Give = refl

count_replay : (s : State) (ks : List Kept) → (replay s ks).count ≡ s.count + length ks
unfolding replay
count_replay s [] = omega arith
count_replay s (k ∷ ks) = omega (arith, count_replay (step s k.event) ks, count_step s k.event)

pub count_at : (base : Image) (past : List Kept) (i : ℕ) → i ≤ length past → (state_at base past i).count ≡ i
count_at base past i le = omega (arith, count_replay (blank base) (take i past), length-take-le i past le)

start_step : (s : State) (e : Event) → s.start ≤ s.count → (step s e).start ≤ (step s e).count
unfolding step
start_step s (Write at block) le = omega arith
start_step s (Torn at) le = omega arith
start_step s Barrier le = omega arith
start_step s Give le = omega arith

start_replay : (s : State) (ks : List Kept) → s.start ≤ s.count → (replay s ks).start ≤ (replay s ks).count
unfolding replay
start_replay s [] le = le
start_replay s (k ∷ ks) le = start_replay (step s k.event) ks (start_step s k.event le)

pub start_at : (base : Image) (past : List Kept) (i : ℕ) → (state_at base past i).start ≤ (state_at base past i).count
start_at base past i = start_replay (blank base) (take i past) (omega arith)

pub and_true : (b c : Bool) → (b && c) ≡ true → (b ≡ true) × (c ≡ true)
and_true true c h = (refl, h)
and_true false c h = absurd (false≢true h)

-- a place that is known isn't one of a later count
later_none : (n start count at a : ℕ) → nat_le n count ≡ true → (nat_le start n && (nat_le n (count + 1) && (at == a))) ≡ (nat_le start n && (nat_le n count && (at == a)))
later_none n start count at a le = grind (arith, nat_tests)

pub forgotten_more : (places : List (ℕ × ℕ)) (start count a : ℕ) → are_known count places ≡ true → was_forgotten places start (count + 1) a ≡ was_forgotten places start count a
unfolding was_forgotten
forgotten_more [] start count a known = refl
forgotten_more (p ∷ places) start count a known =
    let k = and_true (nat_le p.0 count) (are_known count places) known in
    let here = later_none p.0 start count p.1 a k.0 in
    let there = forgotten_more places start count a k.1 in
    cc

pub forgotten_none : (places : List (ℕ × ℕ)) (count a : ℕ) → are_known count places ≡ true → was_forgotten places (count + 1) (count + 1) a ≡ false
unfolding was_forgotten
forgotten_none [] count a known = refl
forgotten_none (p ∷ places) count a known =
    let k = and_true (nat_le p.0 count) (are_known count places) known in
    let here : nat_le (count + 1) p.0 ≡ false = grind (arith, nat_tests) in
    rw here (forgotten_none places count a k.1)

-- one block more is open
abbrev pub Opens : (ℕ → Bool) → (ℕ → Bool) → ℕ → Type 0
Opens old new at = (a : ℕ) → new a ≡ old a || (at == a)

or_swap : (b c d : Bool) → ((b || c) || d) ≡ ((b || d) || c)
or_swap b c d = or_assoc b c d ∙ ap (λ (x : Bool). b || x) (or_comm c d) ∙ sym (or_assoc b d c)

opens_written : (s : State) (places : List (ℕ × ℕ)) (at a : ℕ) → are_known s.count places ≡ true
    → (is_among (noted s.written at) a || was_forgotten places s.start (s.count + 1) a) ≡ ((is_among s.written a || was_forgotten places s.start s.count a) || (at == a))
opens_written s places at a known =
    rw (among_noted s.written at a, forgotten_more places s.start s.count a known) (or_swap (is_among s.written a) (at == a) (was_forgotten places s.start s.count a))

pub opens_write : (s : State) (places : List (ℕ × ℕ)) (at : ℕ) (block : List ℕ) → are_known s.count places ≡ true → Opens (is_open s places) (is_open (step s (Write at block)) places) at
unfolding is_open step
opens_write s places at block known a = opens_written s places at a known

pub opens_torn : (s : State) (places : List (ℕ × ℕ)) (at : ℕ) → are_known s.count places ≡ true → Opens (is_open s places) (is_open (step s (Torn at)) places) at
unfolding is_open step
opens_torn s places at known a = opens_written s places at a known

forgotten_first : (s : State) (places : List (ℕ × ℕ)) (at a : ℕ) → s.start ≤ s.count → was_forgotten ((s.count, at) ∷ places) s.start s.count a ≡ (at == a) || was_forgotten places s.start s.count a
unfolding was_forgotten
forgotten_first s places at a le =
    let low : nat_le s.start s.count ≡ true = grind (arith, nat_tests) in let high : nat_le s.count s.count ≡ true = grind (arith, nat_tests) in
    rw (low, high) refl

pub opens_forgotten : (s : State) (places : List (ℕ × ℕ)) (at : ℕ) → s.start ≤ s.count → Opens (is_open s places) (is_open s ((s.count, at) ∷ places)) at
unfolding is_open
opens_forgotten s places at le a =
    rw (forgotten_first s places at a le) (ap (λ b. is_among s.written a || b) (or_comm (at == a) (was_forgotten places s.start s.count a)) ∙ sym (or_assoc (is_among s.written a) (was_forgotten places s.start s.count a) (at == a)))

-- a write that was forgotten later opens nothing before
pub opens_later : (s : State) (places : List (ℕ × ℕ)) (n at a : ℕ) → s.count < n → is_open s ((n, at) ∷ places) a ≡ is_open s places a
unfolding is_open was_forgotten
opens_later s places n at a lt =
    let high : nat_le n s.count ≡ false = grind (arith, nat_tests) in
    let shut : (nat_le s.start n && (false && (at == a))) ≡ false = and_nothing (nat_le s.start n) in
    rw (high, shut) refl
  where
    and_nothing : (b : Bool) → (b && false) ≡ false
    and_nothing true = refl
    and_nothing false = refl

pub open_give : (s : State) (places : List (ℕ × ℕ)) (a : ℕ) → are_known s.count places ≡ true → is_open (step s Give) places a ≡ is_open s places a
unfolding is_open step
open_give s places a known = ap (λ b. is_among s.written a || b) (forgotten_more places s.start s.count a known)

pub open_barrier : (s : State) (places : List (ℕ × ℕ)) (a : ℕ) → are_known s.count places ≡ true → is_open (step s Barrier) places a ≡ false
unfolding is_open step
open_barrier s places a known = forgotten_none places s.count a known

-- what a crash may leave once one block more is open, with the same content at the last barrier
module _ (s t : State) (p q : List (ℕ × ℕ)) (at : ℕ) (opens : Opens (is_open s p) (is_open t q) at) (same : (a : ℕ) → t.settled a ≡ s.settled a) where
  pub opened_no_more : ((a : ℕ) → IsBlock (s.settled a)) → (c : Image) → IsLeft t q c → (before : Image) × IsLeft s p before × SameBut at before c
  opened_no_more whole c left = (
    put c at (s.settled at),
    record {
      blocks = λ a. elim (a == at) as (λ b. IsBlock (cond b (s.settled at) (c a))) [ true ↦ whole at | false ↦ left.blocks a ];
      others = λ a shut. ⊎_elim (λ e. here a e) (λ ne. there a ne shut) (cases_eq a at);
    },
    λ a ne. sym (apart a ne),
  )
    where
      apart : (a : ℕ) → a ≢ at → put c at (s.settled at) a ≡ c a
      apart a ne = let no : (a == at) ≡ false = grind (arith, nat_tests) in rw no refl

      here : (a : ℕ) → a ≡ at → put c at (s.settled at) a ≡ s.settled a
      here a e = let yes : (a == at) ≡ true = grind (arith, nat_tests) in rw yes (ap s.settled (sym e))

      there : (a : ℕ) → a ≢ at → is_open s p a ≡ false → put c at (s.settled at) a ≡ s.settled a
      there a ne shut = let no : (at == a) ≡ false = grind (arith, nat_tests) in apart a ne ∙ left.others a (opens a ∙ rw (shut, no) refl) ∙ same a

  pub opened_no_fewer : (before c : Image) → IsLeft s p before → SameBut at before c → IsBlock (c at) → IsLeft t q c
  opened_no_fewer before c left but block = record {
    blocks = λ a. ⊎_elim (λ e. subst (λ (b : ℕ). IsBlock (c b)) (sym e) block) (λ ne. subst IsBlock (sym (but a ne)) (left.blocks a)) (cases_eq a at);
    others = λ a shut. let apart = or_false (is_open s p a) (at == a) (sym (opens a) ∙ shut) in but a (λ e. absurd (false≢true (sym apart.1 ∙ equal a e))) ∙ left.others a apart.0 ∙ sym (same a);
  }
    where
      equal : (a : ℕ) → a ≡ at → (at == a) ≡ true
      equal a e = grind (arith, nat_tests)

  pub opened_keeps : (c : Image) → IsLeft s p c → IsLeft t q c
  opened_keeps c left = record { blocks = left.blocks; others = λ a shut. left.others a (or_false (is_open s p a) (at == a) (sym (opens a) ∙ shut)).0 ∙ sym (same a) }

-- what a crash may leave stays where the same blocks are open
pub left_same : (s t : State) (p q : List (ℕ × ℕ)) → ((a : ℕ) → is_open t q a ≡ is_open s p a) → ((a : ℕ) → t.settled a ≡ s.settled a) → (c : Image) → IsLeft s p c → IsLeft t q c
left_same s t p q alike same c left = record { blocks = left.blocks; others = λ a shut. left.others a (sym (alike a) ∙ shut) ∙ sym (same a) }

pub barrier_settles : (s : State) (a : ℕ) → (step s Barrier).settled a ≡ s.reads a
unfolding step
barrier_settles s a = refl

-- after a barrier, what reads give and nothing else
pub left_barrier : (s : State) (places : List (ℕ × ℕ)) → are_known s.count places ≡ true → (c : Image) → IsLeft (step s Barrier) places c → (a : ℕ) → c a ≡ s.reads a
left_barrier s places known c left a = left.others a (open_barrier s places a known) ∙ barrier_settles s a

pub left_before : (s : State) (places : List (ℕ × ℕ)) → Agrees s → are_known s.count places ≡ true → (c : Image) → IsLeft (step s Barrier) places c → IsLeft s places c
left_before s places agrees known c left = record {
  blocks = left.blocks;
  others = λ a shut. left_barrier s places known c left a ∙ agrees a (not_written s places a shut);
}
