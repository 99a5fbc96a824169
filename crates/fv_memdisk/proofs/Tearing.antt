-- How the blocks of a crash come together.
use Rattle.std.proofs.Common.{◌≡◌, ◌==◌, ◌<◌, ◌+◌, ◌||◌, cond, not, ◌⊎◌, ⊎_elim, ℕ, Bool, true, false, List, [], ◌∷◌, ◌++◌, length, take, get_or, refl, sym, ap, ◌∙◌, subst, arith, Result, Ok, Err}
use Rattle.std.specs.Prelude.{unwrap_or, IfOk, OnOk, MatchResult}
use Rattle.std.specs.Ordering.{nat_cmp}
use Rattle.std.specs.BTreeSet as set
use Rattle.std.proofs.lemmas.List.{take_more, nil_from_length}
use Rattle.std.proofs.lemmas.Bool.{cases_eq, false≢true}
use Rattle.std.proofs.lemmas.Bool.Decides.{nat_tests}
use Rattle.fv_disk.specs.Shown.{Image}
use Rattle.fv_memdisk.specs.declared.blocks.Blocks.{Blocks}
use Rattle.fv_memdisk.specs.declared.kept.Event.{Event}
use Rattle.fv_memdisk.specs.declared.kept.Event.TheVariants.{Write, Torn, Barrier, Give}
use Rattle.fv_memdisk.specs.declared.kept.Kept.{Kept}
use Rattle.fv_memdisk.specs.Past.{is_among, noted, put, State, step, replay}
use Rattle.fv_memdisk.specs.Blocks.{found, Puts, disk_of, zeros}
use Rattle.fv_memdisk.specs.Tears.{Stands, StandsAt, IsUnsettled}
use Rattle.fv_memdisk.specs.Laws.{is_among_push, eq_flip}
use Rattle.fv_memdisk.proofs.Steps.{replay_push}
use Rattle.fv_memdisk.proofs.Sound.{turned, over_put}

abbrev pub Set : Type 0
Set = set.BTreeSet ℕ

pub replay_none : (s : State) → replay s [] ≡ s
unfolding replay
replay_none s = refl

pub replay_more : (s : State) (events : List Kept) (i : ℕ) (d : Kept) → i < length events → replay s (take (i + 1) events) ≡ step (replay s (take i events)) (get_or events i d).event
replay_more s events i d lt = ap (λ ks. replay s ks) (take_more events i d lt) ∙ replay_push s (take i events) (get_or events i d)

-- one write
put_write : (m n : Blocks) (at : ℕ) (block : List ℕ) → Puts m n at block → (s : State) → Stands m s → Stands n (step s (Write at block))
unfolding step
put_write m n at block updates s stands a = over_put m n (λ a. zeros) at block updates a ∙ ap (λ x. cond (a == at) block x) (stands a)

pub put_is : (m n : Blocks) (e : Event) (at : ℕ) (block : List ℕ) → e ≡ Write at block → Puts m n at block → (s : State) → Stands m s → Stands n (step s e)
put_is m n e at block is updates s stands = rw is (put_write m n at block updates s stands)

-- another call
reads_other : (e : Event) → ((at : ℕ) (block : List ℕ) → e ≡ Write at block → ⊥) → (s : State) (a : ℕ) → (step s e).reads a ≡ s.reads a
unfolding step
reads_other (Write at block) other s a = absurd (other at block refl)
reads_other (Torn at) other s a = refl
reads_other Barrier other s a = refl
reads_other Give other s a = refl

pub put_other : (m : Blocks) (e : Event) → ((at : ℕ) (block : List ℕ) → e ≡ Write at block → ⊥) → (s : State) → Stands m s → Stands m (step s e)
put_other m e other s stands a = stands a ∙ sym (reads_other e other s a)

-- the same at the chosen blocks
same_choice : (b : Bool) (x y z : List ℕ) → x ≡ y → cond b x z ≡ cond b y z
same_choice b x y z same = ap (λ w. cond b w z) same

put_write_at : (chosen : Set) (others : Image) (m n : Blocks) (at : ℕ) (block : List ℕ) → set.contains nat_cmp chosen at ≡ true → Puts m n at block → (s : State) → StandsAt chosen others m s → StandsAt chosen others n (step s (Write at block))
unfolding step
put_write_at chosen others m n at block is updates s stands a = over_put m n (λ a. zeros) at block updates a ∙ ap (λ x. cond (a == at) block x) (stands a) ∙ ⊎_elim (λ e. here e) (λ ne. there ne) (cases_eq a at)
  where
    here : a ≡ at → cond (a == at) block (cond (set.contains nat_cmp chosen a) (s.reads a) (others a)) ≡ cond (set.contains nat_cmp chosen a) (put s.reads at block a) (others a)
    here e = let yes : (a == at) ≡ true = grind (arith, nat_tests) in let among : set.contains nat_cmp chosen a ≡ true = ap (λ x. set.contains nat_cmp chosen x) e ∙ is in rw (yes, among) refl

    there : (a ≡ at → ⊥) → cond (a == at) block (cond (set.contains nat_cmp chosen a) (s.reads a) (others a)) ≡ cond (set.contains nat_cmp chosen a) (put s.reads at block a) (others a)
    there ne = let no' : (a == at) ≡ false = grind (arith, nat_tests) in rw no' refl

pub put_is_at : (chosen : Set) (others : Image) (m n : Blocks) (e : Event) (at : ℕ) (block : List ℕ) → e ≡ Write at block → set.contains nat_cmp chosen at ≡ true → Puts m n at block → (s : State) → StandsAt chosen others m s → StandsAt chosen others n (step s e)
put_is_at chosen others m n e at block is among updates s stands = rw is (put_write_at chosen others m n at block among updates s stands)

skip_write_at : (chosen : Set) (others : Image) (m : Blocks) (at : ℕ) (block : List ℕ) → set.contains nat_cmp chosen at ≡ false → (s : State) → StandsAt chosen others m s → StandsAt chosen others m (step s (Write at block))
unfolding step
skip_write_at chosen others m at block apart s stands a = stands a ∙ ⊎_elim (λ e. here e) (λ ne. there ne) (cases_eq a at)
  where
    here : a ≡ at → cond (set.contains nat_cmp chosen a) (s.reads a) (others a) ≡ cond (set.contains nat_cmp chosen a) (put s.reads at block a) (others a)
    here e = let none : set.contains nat_cmp chosen a ≡ false = ap (λ x. set.contains nat_cmp chosen x) e ∙ apart in rw none refl

    there : (a ≡ at → ⊥) → cond (set.contains nat_cmp chosen a) (s.reads a) (others a) ≡ cond (set.contains nat_cmp chosen a) (put s.reads at block a) (others a)
    there ne = let no' : (a == at) ≡ false = grind (arith, nat_tests) in rw no' refl

pub skip_is_at : (chosen : Set) (others : Image) (m : Blocks) (e : Event) (at : ℕ) (block : List ℕ) → e ≡ Write at block → set.contains nat_cmp chosen at ≡ false → (s : State) → StandsAt chosen others m s → StandsAt chosen others m (step s e)
skip_is_at chosen others m e at block is apart s stands = rw is (skip_write_at chosen others m at block apart s stands)

pub put_other_at : (chosen : Set) (others : Image) (m : Blocks) (e : Event) → ((at : ℕ) (block : List ℕ) → e ≡ Write at block → ⊥) → (s : State) → StandsAt chosen others m s → StandsAt chosen others m (step s e)
put_other_at chosen others m e other s stands a = stands a ∙ same_choice (set.contains nat_cmp chosen a) (s.reads a) ((step s e).reads a) (others a) (sym (reads_other e other s a))

-- one block more is filled
pub fill_more : (m n first : Blocks) (places : List ℕ) (i : ℕ) (fill : List ℕ) → i < length places → Puts m n (get_or places i 0) fill
    → ((a : ℕ) → disk_of m a ≡ cond (is_among (take i places) a) fill (disk_of first a)) → (a : ℕ) → disk_of n a ≡ cond (is_among (take (i + 1) places) a) fill (disk_of first a)
fill_more m n first places i fill lt updates so_far a =
    over_put m n (λ a. zeros) (get_or places i 0) fill updates a
    ∙ ap (λ x. cond (a == get_or places i 0) fill x) (so_far a)
    ∙ by_cases (a == get_or places i 0) (is_among (take i places) a)
    ∙ ap (λ b. cond b fill (disk_of first a)) (sym (ap (λ xs. is_among xs a) (take_more places i 0 lt) ∙ is_among_push (take i places) (get_or places i 0) a ∙ ap (λ b. is_among (take i places) a || b) (eq_flip (get_or places i 0) a)))
  where
    by_cases : (b c : Bool) → cond b fill (cond c fill (disk_of first a)) ≡ cond (c || b) fill (disk_of first a)
    by_cases true true = refl
    by_cases true false = refl
    by_cases false true = refl
    by_cases false false = refl

-- one block more is in the set
pub set_more : (m n : Set) (places : List ℕ) (i : ℕ) → i < length places → set.Updates nat_cmp m n (get_or places i 0) true
    → ((a : ℕ) → set.contains nat_cmp m a ≡ is_among (take i places) a) → (a : ℕ) → set.contains nat_cmp n a ≡ is_among (take (i + 1) places) a
set_more m n places i lt updates so_far a =
    updates.0 a
    ∙ ap (λ b. cond b true (set.contains nat_cmp m a)) (turned (get_or places i 0) a)
    ∙ ap (λ b. cond (a == get_or places i 0) true b) (so_far a)
    ∙ by_cases (a == get_or places i 0) (is_among (take i places) a)
    ∙ sym (ap (λ xs. is_among xs a) (take_more places i 0 lt) ∙ is_among_push (take i places) (get_or places i 0) a ∙ ap (λ b. is_among (take i places) a || b) (eq_flip (get_or places i 0) a))
  where
    by_cases : (b c : Bool) → cond b true c ≡ (c || b)
    by_cases true true = refl
    by_cases true false = refl
    by_cases false true = refl
    by_cases false false = refl

pub replayed_more : (P : State → Type 0) (s : State) (events : List Kept) (i : ℕ) (d : Kept) → i < length events → P (step (replay s (take i events)) (get_or events i d).event) → P (replay s (take (i + 1) events))
replayed_more P s events i d lt holds = subst P (sym (replay_more s events i d lt)) holds

-- what is unsettled after one call more
unsettled_note : (e : Event) (at : ℕ) → (e ≡ Torn at) ⊎ ((block : List ℕ) × (e ≡ Write at block)) → (start later : ℕ) (written more : List ℕ) → later ≡ start → more ≡ noted written at → (s : State) → IsUnsettled start written s → IsUnsettled later more (step s e)
unfolding step
unsettled_note e at is start later written more same noted_is s found = ⊎_elim
    (λ torn. rw torn (record { start_is = same ∙ found.start_is; written_is = noted_is ∙ ap (λ xs. noted xs at) found.written_is }))
    (λ write. rw (write.1) (record { start_is = same ∙ found.start_is; written_is = noted_is ∙ ap (λ xs. noted xs at) found.written_is }))
    is

pub unsettled_ok : {E : Type 0} (r : Result (Unit {0}) E) (e : Event) (at : ℕ) → (e ≡ Torn at) ⊎ ((block : List ℕ) × (e ≡ Write at block)) → (start later count : ℕ) (written more : List ℕ) → later ≡ start → OnOk r (more ≡ noted written at)
    → OnOk r ((s : State) → s.count ≡ count → IsUnsettled start written s → IsUnsettled later more (step s e))
unsettled_ok (Ok u) e at is start later count written more same noted_is = λ s counted found. unsettled_note e at is start later written more same noted_is s found
unsettled_ok (Err err) e at is start later count written more same noted_is = tt

pub unsettled_barrier : (e : Event) → e ≡ Barrier → (later count : ℕ) (more : List ℕ) → later ≡ count + 1 → length more ≡ 0 → (s : State) → s.count ≡ count → IsUnsettled later more (step s e)
unfolding step
unsettled_barrier e is later count more start none s counted = rw is (record { start_is = start ∙ ap (λ n. n + 1) (sym counted); written_is = nil_from_length more none })

pub unsettled_give : (e : Event) → e ≡ Give → (start : ℕ) (written : List ℕ) (s : State) → IsUnsettled start written s → IsUnsettled start written (step s e)
unfolding step
unsettled_give e is start written s found = rw is (record { start_is = found.start_is; written_is = found.written_is })

pub noted_new : (xs more : List ℕ) (at : ℕ) (added : Bool) → added ≡ not (is_among xs at) → added ≡ true → more ≡ xs ++ at ∷ [] → more ≡ noted xs at
unfolding noted
noted_new xs more at added is was same = let apart : is_among xs at ≡ false = not_true (is_among xs at) (sym is ∙ was) in rw apart same
  where
    not_true : (b : Bool) → not b ≡ true → b ≡ false
    not_true true h = absurd (false≢true h)
    not_true false h = refl

pub noted_old : (xs more : List ℕ) (at : ℕ) (added : Bool) → added ≡ not (is_among xs at) → added ≡ false → more ≡ xs → more ≡ noted xs at
unfolding noted
noted_old xs more at added is was same = let among : is_among xs at ≡ true = not_false (is_among xs at) (sym is ∙ was) in rw among same
  where
    not_false : (b : Bool) → not b ≡ false → b ≡ true
    not_false true h = refl
    not_false false h = absurd (false≢true (sym h))
