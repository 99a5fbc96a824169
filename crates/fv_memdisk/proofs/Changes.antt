-- What one call more does to what the host shows.
use Rattle.std.proofs.Common.{◌≡◌, cond, ◌==◌, ◌≤◌, ◌<◌, ◌-◌, ◌+◌, inl, inr, ⊎_elim, ℕ, true, false, List, [], ◌∷◌, ◌++◌, length, take, drop, map, refl, sym, ap, ◌∙◌, subst, arith, length-append}
use Rattle.std.specs.Prelude.{slice_index, nat_le}
use Rattle.std.proofs.lemmas.Bool.{cases_lt, cases_order}
use Rattle.std.proofs.lemmas.Bool.Decides.{nat_tests}
use Rattle.std.proofs.lemmas.List.{take_all, take-append-le, drop-append-le, map_push, length-map, length-drop, get_or_append_left, get_or_push, get_or_past}
use Rattle.fv_disk.specs.Shown.{Ends, Image, IsBlock, Elapses}
use Rattle.fv_memdisk.specs.declared.kept.Event.{Event}
use Rattle.fv_memdisk.specs.declared.kept.Event.TheVariants.{Write, Torn, Barrier, Give}
use Rattle.fv_memdisk.specs.declared.kept.Kept.{Kept}
use Rattle.fv_memdisk.specs.Past.{State, step, is_open, IsLeft}
use Rattle.fv_memdisk.specs.Story.{Story, state_at, outputs, are_known, IsLeftSince, shown_at, IsSound, read_after, Adds, Forgets}
use Rattle.fv_memdisk.proofs.Steps.{Opens, and_true, state_old, state_more, count_at, start_at, opens_forgotten, opens_later, opened_keeps, left_same}

-- the story with one call more
abbrev pub kept_of : Story → Event → List ℕ → Kept
kept_of s event bytes = record { event = event; output = length (s.given ++ bytes) }

abbrev pub added : Story → Event → List ℕ → Image → Story
added s event bytes reads = record { base = s.base; reads = reads; past = s.past ++ kept_of s event bytes ∷ []; run = s.run; given = s.given ++ bytes; places = s.places }

abbrev pub now_of : Story → State
now_of s = state_at s.base s.past (length s.past)

outputs_push : (past : List Kept) (run : ℕ) (k : Kept) → run ≤ length past → outputs (past ++ k ∷ []) run ≡ outputs past run ++ k.output ∷ []
outputs_push past run k le = ap (λ (ks : List Kept). 0 ∷ map (λ k. k.output) ks) (drop-append-le run past (k ∷ []) le) ∙ ap (λ ns. 0 ∷ ns) (map_push (λ k. k.output) (drop run past) k)

length-outputs : (past : List Kept) (run : ℕ) → run ≤ length past → length (outputs past run) ≡ length past - run + 1
length-outputs past run le = omega (arith, length-map (drop run past) (λ (k : Kept). k.output), length-drop run past)

output_old : (past : List Kept) (run : ℕ) (k : Kept) (m : ℕ) → run ≤ length past → run + m ≤ length past → slice_index (outputs (past ++ k ∷ []) run) m ≡ slice_index (outputs past run) m
output_old past run k m le reached = ap (λ ns. slice_index ns m) (outputs_push past run k le) ∙ get_or_append_left (outputs past run) (k.output ∷ []) 0 m (omega (arith, length-outputs past run le))

output_new : (past : List Kept) (run : ℕ) (k : Kept) → run ≤ length past → slice_index (outputs (past ++ k ∷ []) run) (length past + 1 - run) ≡ k.output
output_new past run k le = ap (λ ns. slice_index ns (length past + 1 - run)) (outputs_push past run k le) ∙ get_or_push (outputs past run) k.output 0 (length past + 1 - run) (omega (arith, length-outputs past run le))

reads_step : (st : State) (e : Event) (a : ℕ) → (step st e).reads a ≡ read_after e st.reads a
unfolding step
reads_step st (Write at block) a = refl
reads_step st (Torn at) a = refl
reads_step st Barrier a = refl
reads_step st Give a = refl

read_after_same : (e : Event) (r q : Image) (a : ℕ) → r a ≡ q a → read_after e r a ≡ read_after e q a
read_after_same (Write at block) r q a same = ap (λ x. cond (a == at) block x) same
read_after_same (Torn at) r q a same = same
read_after_same Barrier r q a same = same
read_after_same Give r q a same = same

-- a block that is written is a block
abbrev pub IsWhole : Event → Type 0
IsWhole (Write at block) = IsBlock block
IsWhole (Torn at) = Unit {0}
IsWhole Barrier = Unit {0}
IsWhole Give = Unit {0}

whole_after : (e : Event) (r : Image) (a : ℕ) → IsWhole e → IsBlock (r a) → IsBlock (read_after e r a)
whole_after (Write at block) r a whole is = elim (a == at) as (λ b. IsBlock (cond b block (r a))) [ true ↦ whole | false ↦ is ]
whole_after (Torn at) r a whole is = is
whole_after Barrier r a whole is = is
whole_after Give r a whole is = is

whole_settled_step : (st : State) (e : Event) (a : ℕ) → IsBlock (st.reads a) → IsBlock (st.settled a) → IsBlock ((step st e).settled a)
unfolding step
whole_settled_step st (Write at block) a r s = s
whole_settled_step st (Torn at) a r s = s
whole_settled_step st Barrier a r s = r
whole_settled_step st Give a r s = s

pub known_more : (count : ℕ) (places : List (ℕ × ℕ)) → are_known count places ≡ true → are_known (count + 1) places ≡ true
known_more count [] known = refl
known_more count (p ∷ places) known =
    let k = and_true (nat_le p.0 count) (are_known count places) known in
    let here : nat_le p.0 (count + 1) ≡ true = grind (arith, nat_tests) in
    rw here (known_more count places k.1)

module _ (s : Story) (e : Event) (bytes : List ℕ) (reads : Image) (sound : IsSound s) where
  longer : length (s.past ++ kept_of s e bytes ∷ []) ≡ length s.past + 1
  longer = omega (arith, length-append s.past (kept_of s e bytes ∷ []))

  full : slice_index (outputs (s.past ++ kept_of s e bytes ∷ []) s.run) (length s.past + 1 - s.run) ≡ length (s.given ++ bytes)
  full = output_new s.past s.run (kept_of s e bytes) sound.run

  within : (m : ℕ) → slice_index (outputs (s.past ++ kept_of s e bytes ∷ []) s.run) m ≤ length (s.given ++ bytes)
  within m = ⊎_elim (λ now. rw (now) (omega (arith, full))) (λ apart. ⊎_elim (λ old. before old) (λ beyond. past_end beyond) apart) (cases_order m (length s.past + 1 - s.run))
    where
      before : m < length s.past + 1 - s.run → slice_index (outputs (s.past ++ kept_of s e bytes ∷ []) s.run) m ≤ length (s.given ++ bytes)
      before lt = omega (arith, output_old s.past s.run (kept_of s e bytes) m sound.run (omega (arith, sound.run)), sound.within m, length-append s.given bytes)

      past_end : length s.past + 1 - s.run < m → slice_index (outputs (s.past ++ kept_of s e bytes ∷ []) s.run) m ≤ length (s.given ++ bytes)
      past_end lt = omega (arith, get_or_past (outputs (s.past ++ kept_of s e bytes ∷ []) s.run) m 0 (omega (arith, length-outputs (s.past ++ kept_of s e bytes ∷ []) s.run (omega (arith, longer, sound.run)), longer)))

  reads_more : (i a : ℕ) → length s.past < i → (state_at s.base (s.past ++ kept_of s e bytes ∷ []) i).reads a ≡ read_after e (now_of s).reads a
  reads_more i a lt = ap (λ (st : State). st.reads a) (state_more s.base s.past (kept_of s e bytes) i lt) ∙ reads_step (now_of s) e a

  whole_at : IsWhole e → (i a : ℕ) → IsBlock ((state_at s.base (s.past ++ kept_of s e bytes ∷ []) i).reads a)
  whole_at whole i a = ⊎_elim
      (λ lt. subst IsBlock (sym (reads_more i a lt)) (whole_after e (now_of s).reads a whole (sound.whole (length s.past) a)))
      (λ le. subst (λ (st : State). IsBlock (st.reads a)) (sym (state_old s.base s.past (kept_of s e bytes) i le)) (sound.whole i a))
      (cases_lt (length s.past) i)

  whole_settled_at : (i a : ℕ) → IsBlock ((state_at s.base (s.past ++ kept_of s e bytes ∷ []) i).settled a)
  whole_settled_at i a = ⊎_elim
      (λ lt. subst (λ (st : State). IsBlock (st.settled a)) (sym (state_more s.base s.past (kept_of s e bytes) i lt)) (whole_settled_step (now_of s) e a (sound.whole (length s.past) a) (sound.whole_settled (length s.past) a)))
      (λ le. subst (λ (st : State). IsBlock (st.settled a)) (sym (state_old s.base s.past (kept_of s e bytes) i le)) (sound.whole_settled i a))
      (cases_lt (length s.past) i)

  pub sound_added : IsWhole e → ((a : ℕ) → reads a ≡ read_after e s.reads a) → IsSound (added s e bytes reads)
  sound_added whole same = record {
    run = omega (arith, sound.run, longer);
    reads = λ a. reads_more (length (s.past ++ kept_of s e bytes ∷ [])) a (omega (arith, longer)) ∙ read_after_same e (now_of s).reads s.reads a (sound.reads a) ∙ sym (same a);
    whole = whole_at whole;
    whole_settled = whole_settled_at;
    within = within;
    full = rw longer full;
    known = rw longer (known_more (length s.past) s.places sound.known);
  }

  -- what a crash now may leave, by the state before the call
  pub left_to : (c : Image) → IsLeft (now_of (added s e bytes reads)) s.places c → IsLeft (step (now_of s) e) s.places c
  left_to c left = subst (λ (st : State). IsLeft st s.places c) (state_more s.base s.past (kept_of s e bytes) (length (s.past ++ kept_of s e bytes ∷ [])) (omega (arith, longer))) left

  pub left_of : (c : Image) → IsLeft (step (now_of s) e) s.places c → IsLeft (now_of (added s e bytes reads)) s.places c
  left_of c left = subst (λ (st : State). IsLeft st s.places c) (sym (state_more s.base s.past (kept_of s e bytes) (length (s.past ++ kept_of s e bytes ∷ [])) (omega (arith, longer)))) left

  same_output : (m : ℕ) → s.run + m ≤ length s.past → take (slice_index (outputs (s.past ++ kept_of s e bytes ∷ []) s.run) m) (s.given ++ bytes) ≡ take (slice_index (outputs s.past s.run) m) s.given
  same_output m reached = ap (λ n. take n (s.given ++ bytes)) (output_old s.past s.run (kept_of s e bytes) m sound.run reached) ∙ take-append-le (slice_index (outputs s.past s.run) m) s.given bytes (sound.within m)

  pub elapses_added : (f w f' w' : ℕ) (ends : Ends) → Elapses (shown_at s f w ends) (shown_at (added s e bytes reads) f' w' ends)
  elapses_added f w f' w' ends = record {
    later = omega (arith, longer);
    nothing_else = λ t c g le left. ⊎_elim (λ new. inr (newly t c g left new)) (λ old. inl (olden t c g left old)) (cases_lt (length s.past) (s.run + left.moment));
    keeps = λ t c g le left. record {
      moment = left.moment;
      later = left.later;
      reached = omega (arith, longer, left.reached);
      image = subst (λ (st : State). IsLeft st s.places c) (sym (state_old s.base s.past (kept_of s e bytes) (s.run + left.moment) left.reached)) left.image;
      output = left.output ∙ sym (same_output left.moment left.reached);
    };
  }
    where
      newly : (t : ℕ) (c : Image) (g : List ℕ) (left : IsLeftSince (added s e bytes reads) t c g) → length s.past < s.run + left.moment → IsLeft (now_of (added s e bytes reads)) s.places c × (g ≡ s.given ++ bytes)
      newly t c g left new =
          let end : s.run + left.moment ≡ length (s.past ++ kept_of s e bytes ∷ []) = omega (arith, longer, left.reached, new) in
          let at : left.moment ≡ length s.past + 1 - s.run = omega (arith, end, longer, sound.run) in (
            subst (λ (n : ℕ). IsLeft (state_at s.base (s.past ++ kept_of s e bytes ∷ []) n) s.places c) end left.image,
            left.output ∙ ap (λ m. take (slice_index (outputs (s.past ++ kept_of s e bytes ∷ []) s.run) m) (s.given ++ bytes)) at ∙ take_all (slice_index (outputs (s.past ++ kept_of s e bytes ∷ []) s.run) (length s.past + 1 - s.run)) (s.given ++ bytes) (omega (arith, full)),
          )

      olden : (t : ℕ) (c : Image) (g : List ℕ) (left : IsLeftSince (added s e bytes reads) t c g) → s.run + left.moment ≤ length s.past → IsLeftSince s t c g
      olden t c g left old = record {
        moment = left.moment;
        later = left.later;
        reached = old;
        image = subst (λ (st : State). IsLeft st s.places c) (state_old s.base s.past (kept_of s e bytes) (s.run + left.moment) old) left.image;
        output = left.output ∙ same_output left.moment old;
      }

-- The story with one forgotten write more.
abbrev pub without : Story → ℕ → Story
without s at = record { base = s.base; reads = s.reads; past = s.past; run = s.run; given = s.given; places = (length s.past, at) ∷ s.places }

module _ (s : Story) (at : ℕ) (sound : IsSound s) where
  pub opens_now : Opens (is_open (now_of s) s.places) (is_open (now_of s) ((length s.past, at) ∷ s.places)) at
  opens_now = subst (λ (n : ℕ). Opens (is_open (now_of s) s.places) (is_open (now_of s) ((n, at) ∷ s.places)) at) (count_at s.base s.past (length s.past) (omega arith)) (opens_forgotten (now_of s) s.places at (start_at s.base s.past (length s.past)))

  pub elapses_without : (f w f' w' : ℕ) (ends : Ends) → Elapses (shown_at s f w ends) (shown_at (without s at) f' w' ends)
  elapses_without f w f' w' ends = record {
    later = omega arith;
    nothing_else = λ t c g le left. ⊎_elim (λ old. inl (olden t c g left old)) (λ new. inr (newly t c g left new)) (cases_lt (s.run + left.moment) (length s.past));
    keeps = λ t c g le left. record { moment = left.moment; later = left.later; reached = left.reached; output = left.output; image = kept t c g left };
  }
    where
      before : (n : ℕ) → n < length s.past → (a : ℕ) → is_open (state_at s.base s.past n) ((length s.past, at) ∷ s.places) a ≡ is_open (state_at s.base s.past n) s.places a
      before n lt a = opens_later (state_at s.base s.past n) s.places (length s.past) at a (omega (arith, count_at s.base s.past n (omega arith)))

      olden : (t : ℕ) (c : Image) (g : List ℕ) (left : IsLeftSince (without s at) t c g) → s.run + left.moment < length s.past → IsLeftSince s t c g
      olden t c g left old = record {
        moment = left.moment;
        later = left.later;
        reached = left.reached;
        image = left_same (state_at s.base s.past (s.run + left.moment)) (state_at s.base s.past (s.run + left.moment)) ((length s.past, at) ∷ s.places) s.places (λ a. sym (before (s.run + left.moment) old a)) (λ a. refl) c left.image;
        output = left.output;
      }

      newly : (t : ℕ) (c : Image) (g : List ℕ) (left : IsLeftSince (without s at) t c g) → length s.past ≤ s.run + left.moment → IsLeft (now_of s) ((length s.past, at) ∷ s.places) c × (g ≡ s.given)
      newly t c g left new =
          let end : s.run + left.moment ≡ length s.past = omega (arith, left.reached, new) in
          let now : left.moment ≡ length s.past - s.run = omega (arith, end, sound.run) in (
            subst (λ (n : ℕ). IsLeft (state_at s.base s.past n) ((length s.past, at) ∷ s.places) c) end left.image,
            left.output ∙ ap (λ m. take (slice_index (outputs s.past s.run) m) s.given) now ∙ take_all (slice_index (outputs s.past s.run) (length s.past - s.run)) s.given (omega (arith, sound.full)),
          )

      kept : (t : ℕ) (c : Image) (g : List ℕ) (left : IsLeftSince s t c g) → IsLeft (state_at s.base s.past (s.run + left.moment)) ((length s.past, at) ∷ s.places) c
      kept t c g left = ⊎_elim
          (λ old. left_same (state_at s.base s.past (s.run + left.moment)) (state_at s.base s.past (s.run + left.moment)) s.places ((length s.past, at) ∷ s.places) (before (s.run + left.moment) old) (λ a. refl) c left.image)
          (λ new. at_end c left.image (omega (arith, left.reached, new)))
          (cases_lt (s.run + left.moment) (length s.past))
        where
          at_end : (c : Image) → IsLeft (state_at s.base s.past (s.run + left.moment)) s.places c → s.run + left.moment ≡ length s.past → IsLeft (state_at s.base s.past (s.run + left.moment)) ((length s.past, at) ∷ s.places) c
          at_end c is end =
              subst (λ (n : ℕ). IsLeft (state_at s.base s.past n) ((length s.past, at) ∷ s.places) c) (sym end)
              (opened_keeps (now_of s) (now_of s) s.places ((length s.past, at) ∷ s.places) at opens_now (λ a. refl) c (subst (λ (n : ℕ). IsLeft (state_at s.base s.past n) s.places c) end is))

pub added_is : (old new : Story) (e : Event) (bytes : List ℕ) → Adds old new e bytes → new ≡ added old e bytes new.reads
added_is old new e bytes adds = λ i. record { base = adds.base i; reads = new.reads; past = adds.past i; run = adds.run i; given = adds.given i; places = adds.places i }

pub without_is : (old new : Story) (at : ℕ) → Forgets old new at → new ≡ without old at
without_is old new at forgets = λ i. record { base = forgets.base i; reads = forgets.reads i; past = forgets.past i; run = forgets.run i; given = forgets.given i; places = forgets.places i }

pub sound_adds : (old new : Story) (e : Event) (bytes : List ℕ) → IsSound old → IsWhole e → Adds old new e bytes → IsSound new
sound_adds old new e bytes sound whole adds = subst IsSound (sym (added_is old new e bytes adds)) (sound_added old e bytes new.reads sound whole adds.reads)
