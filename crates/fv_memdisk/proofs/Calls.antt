-- What each call does, as the disk and the host promise it.
use Rattle.std.proofs.Common.{◌≡◌, ◌==◌, ◌<◌, ◌+◌, inl, ℕ, true, false, List, [], ◌∷◌, ◌++◌, length, take, drop, min, refl, sym, ap, ◌∙◌, subst, arith, Result, Ok, Err}
use Rattle.std.specs.Prelude.{OnOk, OnErr, is_err}
use Rattle.std.proofs.lemmas.List.{append-nil, take_all, take-append-drop, drop-drop, nil_from_length}
use Rattle.std.proofs.lemmas.Bool.{false≢true}
use Rattle.std.proofs.lemmas.Bool.Decides.{nat_tests}
use Rattle.fv_disk.specs.declared.Failed.{Failed}
use Rattle.fv_disk.specs.Shown.{Image, Ends, Elapses, SameBut, HasCause}
use Rattle.fv_disk.specs.DiskCalls.{Stays, Writes, Settles}
use Rattle.fv_disk.specs.HostCalls.{Takes, Gives}
use Rattle.fv_memdisk.specs.declared.kept.Event.TheVariants.{Write, Torn, Barrier, Give}
use Rattle.fv_memdisk.specs.Past.{State, put, step}
use Rattle.fv_memdisk.specs.Story.{Story, are_known, shown_at, IsSound, Adds, Forgets}
use Rattle.fv_memdisk.specs.Laws.{agrees}
use Rattle.fv_memdisk.proofs.Steps.{count_at, opens_write, opens_torn, open_give, opened_no_more, opened_no_fewer, left_same, left_barrier, left_before}
use Rattle.fv_memdisk.proofs.Changes.{added_is, without_is, added, now_of, without, left_to, left_of, elapses_added, elapses_without, opens_now}

pub elapses_same : (s : Story) (f w f' w' : ℕ) (ends ends' : Ends) → Elapses (shown_at s f w ends) (shown_at s f' w' ends')
elapses_same s f w f' w' ends ends' = record { later = omega arith; nothing_else = λ t c g le left. inl left; keeps = λ t c g le left. left }

pub stays_same : (s : Story) (f w f' w' : ℕ) (ends ends' : Ends) → Stays (shown_at s f w ends) (shown_at s f' w' ends')
stays_same s f w f' w' ends ends' = record { tells = refl; reads = refl; no_more = λ c left. left; no_fewer = λ c left. left }

-- the places are known at the present
known_now : (s : Story) → IsSound s → are_known (now_of s).count s.places ≡ true
known_now s sound = subst (λ (n : ℕ). are_known n s.places ≡ true) (sym (count_at s.base s.past (length s.past) (omega arith))) sound.known

settled_write : (s : State) (at : ℕ) (block : List ℕ) (a : ℕ) → (step s (Write at block)).settled a ≡ s.settled a
unfolding step
settled_write s at block a = refl

settled_torn : (s : State) (at a : ℕ) → (step s (Torn at)).settled a ≡ s.settled a
unfolding step
settled_torn s at a = refl

settled_give : (s : State) (a : ℕ) → (step s Give).settled a ≡ s.settled a
unfolding step
settled_give s a = refl

put_here : (image : Image) (at : ℕ) (block : List ℕ) → put image at block at ≡ block
put_here image at block = let same : (at == at) ≡ true = grind (arith, nat_tests) in rw same refl

put_there : (image : Image) (at : ℕ) (block : List ℕ) → SameBut at image (put image at block)
put_there image at block a ne = let other : (a == at) ≡ false = grind (arith, nat_tests) in rw other refl

on_ok : {P : Type 0} (r : Result Unit Failed) → P → OnOk r P
on_ok (Ok x) p = p
on_ok (Err e) p = tt

module _ (old : Story) (sound : IsSound old) (f w f' w' : ℕ) (ends : Ends) where
  abbrev s : State
  s = now_of old

  module _ (result : Result Unit Failed) (cause : HasCause f f' result) (write_cause : HasCause w w' result) where
    writes_added : (at : ℕ) (block : List ℕ) (reads : Image) → ((a : ℕ) → reads a ≡ put old.reads at block a) → Writes (shown_at old f w ends) at block (shown_at (added old (Write at block) [] reads) f' w' ends) result
    writes_added at block reads is =
        let opens = opens_write s old.places at block (known_now old sound) in record {
          tells = refl;
          written = λ _. on_ok result (is at ∙ put_here old.reads at block);
          others = λ _ a ne. is a ∙ put_there old.reads at block a ne;
          no_more = λ c left. opened_no_more s (step s (Write at block)) old.places old.places at opens (settled_write s at block) (sound.whole_settled (length old.past)) c (left_to old (Write at block) [] reads sound c left);
          no_fewer = λ before c left but block_is. left_of old (Write at block) [] reads sound c (opened_no_fewer s (step s (Write at block)) old.places old.places at opens (settled_write s at block) before c left but block_is);
          time = elapses_added old (Write at block) [] reads sound f w f' w' ends;
          given = append-nil old.given;
          ends = refl;
          cause = cause;
          write_cause = write_cause;
        }

    -- a write that was kept
    pub writes_kept : (new : Story) (at : ℕ) (block : List ℕ) → Adds old new (Write at block) [] → Writes (shown_at old f w ends) at block (shown_at new f' w' ends) result
    writes_kept new at block adds = subst (λ (n : Story). Writes (shown_at old f w ends) at block (shown_at n f' w' ends) result) (sym (added_is old new (Write at block) [] adds)) (writes_added at block new.reads adds.reads)

  module _ (e : Failed) (cause : HasCause {T = Unit {0}} {E = Failed} f f' (Err e)) (write_cause : HasCause {T = Unit {0}} {E = Failed} w w' (Err e)) where
    torn_added : (at : ℕ) (block : List ℕ) (reads : Image) → ((a : ℕ) → reads a ≡ old.reads a) → Writes (shown_at old f w ends) at block (shown_at (added old (Torn at) [] reads) f' w' ends) (Err e)
    torn_added at block reads is =
        let opens = opens_torn s old.places at (known_now old sound) in record {
          tells = refl;
          written = λ _. tt;
          others = λ _ a ne. is a;
          no_more = λ c left. opened_no_more s (step s (Torn at)) old.places old.places at opens (settled_torn s at) (sound.whole_settled (length old.past)) c (left_to old (Torn at) [] reads sound c left);
          no_fewer = λ before c left but block_is. left_of old (Torn at) [] reads sound c (opened_no_fewer s (step s (Torn at)) old.places old.places at opens (settled_torn s at) before c left but block_is);
          time = elapses_added old (Torn at) [] reads sound f w f' w' ends;
          given = append-nil old.given;
          ends = refl;
          cause = cause;
          write_cause = write_cause;
        }

    -- a write that failed and was kept
    pub writes_torn : (new : Story) (at : ℕ) (block : List ℕ) → Adds old new (Torn at) [] → Writes (shown_at old f w ends) at block (shown_at new f' w' ends) (Err e)
    writes_torn new at block adds = subst (λ (n : Story). Writes (shown_at old f w ends) at block (shown_at n f' w' ends) (Err e)) (sym (added_is old new (Torn at) [] adds)) (torn_added at block new.reads adds.reads)

    forgotten_added : (at : ℕ) (block : List ℕ) → Writes (shown_at old f w ends) at block (shown_at (without old at) f' w' ends) (Err e)
    forgotten_added at block = record {
      tells = refl;
      written = λ _. tt;
      others = λ _ a ne. refl;
      no_more = λ c left. opened_no_more s s old.places ((length old.past, at) ∷ old.places) at (opens_now old at sound) (λ a. refl) (sound.whole_settled (length old.past)) c left;
      no_fewer = λ before c left but block_is. opened_no_fewer s s old.places ((length old.past, at) ∷ old.places) at (opens_now old at sound) (λ a. refl) before c left but block_is;
      time = elapses_without old at sound f w f' w' ends;
      given = refl;
      ends = refl;
      cause = cause;
      write_cause = write_cause;
    }

    -- a write that failed and was forgotten
    pub writes_forgotten : (new : Story) (at : ℕ) (block : List ℕ) → Forgets old new at → Writes (shown_at old f w ends) at block (shown_at new f' w' ends) (Err e)
    writes_forgotten new at block forgets = subst (λ (n : Story). Writes (shown_at old f w ends) at block (shown_at n f' w' ends) (Err e)) (sym (without_is old new at forgets)) (forgotten_added at block)

    -- a barrier that failed
    pub settles_failed : (new : Story) → new ≡ old → Settles (shown_at old f w ends) (shown_at new f' w' ends) (Err e)
    settles_failed new same = subst (λ (n : Story). Settles (shown_at old f w ends) (shown_at n f' w' ends) (Err e)) (sym same) (record {
      tells = refl;
      reads = refl;
      durable = λ _. tt;
      no_more = λ c left. left;
      no_fewer = λ _ c left. left;
      time = elapses_same old f w f' w' ends ends;
      given = refl;
      ends = refl;
      cause = cause;
      write_cause = write_cause;
    })

  module _ (u : Unit {0}) (cause : HasCause {T = Unit {0}} {E = Failed} f f' (Ok u)) (write_cause : HasCause {T = Unit {0}} {E = Failed} w w' (Ok u)) where
    settles_added : (reads : Image) → ((a : ℕ) → reads a ≡ old.reads a) → Settles (shown_at old f w ends) (shown_at (added old Barrier [] reads) f' w' ends) (Ok u)
    settles_added reads is = record {
      tells = refl;
      reads = λ i a. is a i;
      durable = λ _ c left a. left_barrier s old.places (known_now old sound) c (left_to old Barrier [] reads sound c left) a ∙ sound.reads a ∙ sym (is a);
      no_more = λ c left. left_before s old.places (agrees old.base old.past (length old.past)) (known_now old sound) c (left_to old Barrier [] reads sound c left);
      no_fewer = λ failed. absurd (false≢true failed);
      time = elapses_added old Barrier [] reads sound f w f' w' ends;
      given = append-nil old.given;
      ends = refl;
      cause = cause;
      write_cause = write_cause;
    }

    -- a barrier that was kept
    pub settles_kept : (new : Story) → Adds old new Barrier [] → Settles (shown_at old f w ends) (shown_at new f' w' ends) (Ok u)
    settles_kept new adds = subst (λ (n : Story). Settles (shown_at old f w ends) (shown_at n f' w' ends) (Ok u)) (sym (added_is old new Barrier [] adds)) (settles_added new.reads adds.reads)

  -- a give that was kept
  module _ (bytes : List ℕ) (reads : Image) (is : (a : ℕ) → reads a ≡ old.reads a) where
    stays_added : Stays (shown_at old f w ends) (shown_at (added old Give bytes reads) f' w' ends)
    stays_added = record {
      tells = refl;
      reads = λ i a. is a i;
      no_more = λ c left. left_same (step s Give) s old.places old.places (λ a. sym (open_give s old.places a (known_now old sound))) (λ a. sym (settled_give s a)) c (left_to old Give bytes reads sound c left);
      no_fewer = λ c left. left_of old Give bytes reads sound c (left_same s (step s Give) old.places old.places (λ a. open_give s old.places a (known_now old sound)) (settled_give s) c left);
    }

  pub gives_stays : (new : Story) (bytes : List ℕ) → Adds old new Give bytes → Stays (shown_at old f w ends) (shown_at new f' w' ends)
  gives_stays new bytes adds = subst (λ (n : Story). Stays (shown_at old f w ends) (shown_at n f' w' ends)) (sym (added_is old new Give bytes adds)) (stays_added bytes new.reads adds.reads)

  pub gives_time : (new : Story) (bytes : List ℕ) → Adds old new Give bytes → Elapses (shown_at old f w ends) (shown_at new f' w' ends)
  gives_time new bytes adds = subst (λ (n : Story). Elapses (shown_at old f w ends) (shown_at n f' w' ends)) (sym (added_is old new Give bytes adds)) (elapses_added old Give bytes new.reads sound f w f' w' ends)

  -- a call that leaves the disk and the output as they were
  pub same_stays : (new : Story) → new ≡ old → Stays (shown_at old f w ends) (shown_at new f' w' ends)
  same_stays new same = subst (λ (n : Story). Stays (shown_at old f w ends) (shown_at n f' w' ends)) (sym same) (stays_same old f w f' w' ends ends)

-- the fact of the outcome that came
pub if_ok : {E P : Type 0} (r : Result (Unit {0}) E) → is_err r ≡ false → OnOk r P → P
if_ok (Ok u) was p = p
if_ok (Err e) was p = absurd (false≢true (sym was))

pub if_err : {E P : Type 0} (r : Result (Unit {0}) E) → is_err r ≡ true → OnErr r P → P
if_err (Ok u) was p = absurd (false≢true was)
if_err (Err e) was p = p

-- a write that failed, kept or forgotten
pub writes_failed : {E : Type 0} (kept : Result (Unit {0}) E) (old : Story) → IsSound old → (f w f' w' : ℕ) (ends : Ends) (e : Failed) → HasCause {T = Unit {0}} {E = Failed} f f' (Err e) → HasCause {T = Unit {0}} {E = Failed} w w' (Err e)
    → (new : Story) (at : ℕ) (block : List ℕ) → OnOk kept (Adds old new (Torn at) []) → OnErr kept (Forgets old new at) → Writes (shown_at old f w ends) at block (shown_at new f' w' ends) (Err e)
writes_failed (Ok u) old sound f w f' w' ends e cause write_cause new at block adds forgets = writes_torn old sound f w f' w' ends e cause write_cause new at block adds
writes_failed (Err e') old sound f w f' w' ends e cause write_cause new at block adds forgets = writes_forgotten old sound f w f' w' ends e cause write_cause new at block forgets

-- a give that was kept
pub gives_kept : (old : Story) → IsSound old → (f w : ℕ) (new : Story) (bytes : List ℕ) (ends : Ends) → Adds old new Give bytes → 0 < length bytes → Gives (shown_at old f w ends) bytes (shown_at new f w ends) (Ok (length bytes))
gives_kept old sound f w new bytes ends adds long = record {
  some = (long, omega arith);
  added = λ _. adds.given ∙ ap (λ bs. old.given ++ bs) (sym (take_all (length bytes) bytes (omega arith)));
  none = λ _. tt;
  rests = record { stays = gives_stays old sound f w f w ends new bytes adds; faults = refl; write_faults = refl };
  time = gives_time old sound f w f w ends new bytes adds;
  left = refl;
  source_faults = refl;
  cause = record { later = omega arith; calm = refl; rose = tt };
}

-- a source of which so many bytes were taken
abbrev pub ends_after : List ℕ → ℕ → ℕ → ℕ → Ends
ends_after source taken source_faults sink_faults = record { left = drop taken source; source_faults = source_faults; sink_faults = sink_faults }

-- a take that was done
pub takes_kept : (s : Story) (f w : ℕ) (source into : List ℕ) (taken count source_faults sink_faults : ℕ) → 0 < length into → count ≡ min (length (drop taken source)) (length into) → take count into ≡ take count (drop taken source)
    → Takes (shown_at s f w (ends_after source taken source_faults sink_faults)) into (shown_at s f w (ends_after source (taken + count) source_faults sink_faults)) (Ok count)
takes_kept s f w source into taken count source_faults sink_faults long is bytes = record {
  count = omega (arith, is);
  bytes = λ _. sym (take-append-drop count (drop taken source)) ∙ ap (λ front. front ++ drop count (drop taken source)) (sym bytes) ∙ ap (λ rest. take count into ++ rest) (drop-drop count taken source);
  end = λ _ none. nil_from_length (drop taken source) (omega (arith, is, long, zero_of none));
  none = λ _. tt;
  rests = record { stays = stays_same s f w f w (ends_after source taken source_faults sink_faults) (ends_after source (taken + count) source_faults sink_faults); faults = refl; write_faults = refl };
  time = elapses_same s f w f w (ends_after source taken source_faults sink_faults) (ends_after source (taken + count) source_faults sink_faults);
  given = refl;
  cause = record { later = omega arith; calm = refl; rose = tt };
  sink_faults = refl;
}
  where
    zero_of : ◌≡◌ {A = Result ℕ Failed} (Ok count) (Ok 0) → count ≡ 0
    zero_of none = cc

pub unless : {E P Q : Type 0} (r : Result (Unit {0}) E) → OnOk r P → OnErr r Q → ¬ Q → P
unless (Ok u) p q none = p
unless (Err e) p q none = absurd (none q)
