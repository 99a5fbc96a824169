-- What the command `clean` answers, and what it does: nothing without the volume, nothing where all its places are known, and else steps.
use Rattle.std.proofs.Common.{◌≡◌, ◌≤◌, ◌<◌, ℕ, Bool, true, false, cond, true≢false, List, [], ◌∷◌, length, Option, Some, None, Ok, Err, inl, ⊎_elim, refl, sym, ap, subst, ◌∙◌, arith}
use Rattle.std.specs.Prelude.{IsNone}
use Rattle.std.specs.Option.{is_none, option_map_or}
use Rattle.std.specs.FinMap as fin
use Rattle.std.proofs.lemmas.Bool.{cases_lt}
use Rattle.fv_disk.specs.Shown.{IsDisk, Shown}
use Rattle.fv_model.specs.declared.answers.Refusal.TheVariants.{NoVolume, VolumeInUse}
use Rattle.fv_model.specs.declared.answers.Reply.{Reply}
use Rattle.fv_model.specs.declared.answers.Reply.TheVariants.{Done, Refused}
use Rattle.fv_model.specs.declared.commands.Command.TheVariants.{Clean}
use Rattle.fv_model.specs.Machines.{Machine}
use Rattle.fv_model.specs.Refusals.{conditions, first_of, is_splitting, next, refusal}
use Rattle.fv_model.specs.Replies.{answer as reply_of, Allows}
use Rattle.fv_model.specs.Volumes.{Volume}
use Rattle.fv_laws.proofs.Changes.{same_name}
use Rattle.fv_container.specs.Chains.{slot_count}
use Rattle.fv_volume.specs.declared.state.VolumeState.{VolumeState}
use Rattle.fv_volume.specs.Slots.{is_named, HasName, NoneHasName}
use Rattle.fv_volume.specs.States.{States, state_at}
use Rattle.fv_aggregate.specs.declared.fault.Fault.{Fault}
use Rattle.fv_aggregate.specs.declared.session.Session.{Session}
use Rattle.fv_aggregate.specs.Cleaning.{Cleans, CleansNamed, KeepsSteps, Learns}
use Rattle.fv_aggregate.specs.Standing.{StandsFor, StandsReady}
use Rattle.fv_aggregate.specs.Working.{is_unclean}
use Rattle.fv_aggregate.proofs.Asked.{answer_allows}
use Rattle.fv_aggregate.proofs.Calls.{reads_itself, same_counts, same_ends}
use Rattle.fv_aggregate.proofs.CleanedKnown.{held_accepted, next_known}
use Rattle.fv_aggregate.proofs.HeldMachine.{not_there}
use Rattle.fv_aggregate.proofs.Keeping.{keeps_same}
use Rattle.fv_aggregate.proofs.Missing.{refused_allows, refused_next}
use Rattle.fv_aggregate.proofs.Standing.{rests_for_last}

-- ---- a session that stays

keeps_itself : (disk : Shown) (s : Session) (reply : Reply) → KeepsSteps {T = Reply} disk s disk s (Ok reply)
keeps_itself disk s reply = record { undone = λ tells last m stands none still. tt; calm = λ tells last m stands none few. reads_itself disk }

module _ {D : Type 0} (name : List ℕ) (disk : Shown) (laws : IsDisk disk) (at : D) (s : Session) (fresh : IsNone s.failed) (ready : StandsReady disk s) (reply : Reply)
    (same : (last m : Machine) → StandsFor disk s last m → (next m (Clean name) ≡ m) × Allows m (Clean name) reply) where
  stays_as : CleansNamed name disk disk at s at s (Ok reply) → Cleans name disk at s disk at s (Ok reply)
  stays_as cleans = record {
    goes = record { ends = same_ends disk; stands = λ none. ready; done = (fresh, (fresh, same_counts disk)); fault = tt; within = omega arith };
    numbers = λ none. keeps_same s.volumes s.volumes refl;
    goes_for = λ tells last m stands. record {
      any_moment = rests_for_last disk s last m (next m (Clean name)) laws stands;
      done = record { point = last; one = inl refl; stands = subst (λ (k : Machine). StandsFor disk s last k) (sym (same last m stands).0) stands };
      still = λ none. tt;
      whole = tt;
    };
    reply = λ tells last m stands. (same last m stands).1;
    cleans = cleans;
  }

-- ---- without the volume

no_clean : (m : Machine) (v : List ℕ) → fin.get m.volumes v ≡ None → refusal m (Clean v) ≡ Some NoVolume
unfolding conditions
no_clean m v none = ap (λ (o : Option Volume). first_of ((NoVolume, is_none o) ∷ (VolumeInUse, option_map_or is_splitting o false) ∷ [])) none

not_both : (states : States) (name : List ℕ) → NoneHasName states name → (slot : ℕ) → slot < slot_count → HasName states slot name → ⊥
not_both states name none slot low has = true≢false (sym has.named ∙ none.none slot low)

module _ {D : Type 0} (name : List ℕ) (disk : Shown) (laws : IsDisk disk) (at : D) (s : Session) (long : length s.volumes ≡ 64) (fresh : IsNone s.failed) (ready : StandsReady disk s) where
  pub cleans_missing : NoneHasName s.volumes name → Cleans name disk at s disk at s (Ok (Refused NoVolume))
  cleans_missing none = stays_as name disk laws at s fresh ready (Refused NoVolume)
      (λ last m stands.
      let refused : refusal m (Clean name) ≡ Some NoVolume = no_clean m name (ap (λ (k : Machine). fin.get k.volumes name) (sym stands.machine) ∙ not_there disk s.pool s.volumes long name none) in
      (refused_next m (Clean name) NoVolume refused, refused_allows m (Clean name) NoVolume refused))
      (record {
        missing = λ nowhere. (refl, (refl, refl));
        answered = λ slot low has. absurd (not_both s.volumes name none slot low has);
        idle = λ slot low has known. absurd (not_both s.volumes name none slot low has);
        keeps = keeps_itself disk s (Refused NoVolume);
      })

  -- ---- with it

  module _ (slot : ℕ) (low : slot < slot_count) (has : HasName s.volumes slot name) where
    -- no other slot has its name first
    one_slot : (k : ℕ) → HasName s.volumes k name → k ≡ slot
    one_slot k other = by
      where
        under : k < slot → ⊥
        under less = true≢false (sym other.named ∙ has.first k less)

        over : slot < k → ⊥
        over less = true≢false (sym has.named ∙ other.first slot less)

        by : k ≡ slot
        by = ⊎_elim (λ (less : k < slot). absurd (under less)) (λ (far : slot ≤ k). ⊎_elim (λ (more : slot < k). absurd (over more)) (λ (near : k ≤ slot). omega (arith, far, near)) (cases_lt slot k)) (cases_lt k slot)

    pub record IsAt : Type 0 where
      pub x : VolumeState
      pub is : state_at s.volumes slot ≡ Some x
      pub named : x.name ≡ name

    at_it : IsAt
    at_it = by (state_at s.volumes slot) refl has.named
      where
        by : (o : Option VolumeState) → state_at s.volumes slot ≡ o → is_named o name ≡ true → IsAt
        by None e named = absurd (true≢false (sym named))
        by (Some x) e named = record { x = x; is = e; named = same_name x.name name named }

    allowed : (last m : Machine) → StandsFor disk s last m → Allows m (Clean name) Done
    unfolding reply_of
    allowed last m stands = answer_allows m (Clean name) Done
        (subst (λ (n : List ℕ). refusal m (Clean n) ≡ None) at_it.named (subst (λ (k : Machine). refusal k (Clean at_it.x.name) ≡ None) stands.machine (held_accepted disk s.pool s.volumes long last stands.held slot at_it.x at_it.is))) refl refl

    -- where all its places are known nothing changes
    pub cleans_known : is_unclean (state_at s.volumes slot) ≡ false → Cleans name disk at s disk at s (Ok Done)
    cleans_known clean = stays_as name disk laws at s fresh ready Done
        (λ last m stands. (
          subst (λ (n : List ℕ). next m (Clean n) ≡ m) at_it.named (subst (λ (k : Machine). next k (Clean at_it.x.name) ≡ k) stands.machine (next_known disk s.pool s.volumes long last stands.held slot at_it.x at_it.is known)),
          allowed last m stands,
        ))
        (record {
          missing = λ none. absurd (not_both s.volumes name none slot low has);
          answered = λ k near other. (refl, ap (λ (n : ℕ). is_unclean (state_at s.volumes n)) (one_slot k other) ∙ clean);
          idle = λ k near other is. (refl, (refl, refl));
          keeps = keeps_itself disk s Done;
        })
      where
        known : at_it.x.known ≡ true
        known = by at_it.x.known refl
          where
            by : (b : Bool) → at_it.x.known ≡ b → at_it.x.known ≡ true
            by true e = e
            by false e = absurd (true≢false (sym (ap (λ (b : Bool). cond b false true) e) ∙ sym (ap is_unclean at_it.is) ∙ clean))

    -- else its steps were taken,
    module _ (unclean : is_unclean (state_at s.volumes slot) ≡ true) (shown : Shown) (after : D) (new : Session) where
      pub cleans_learned : Learns (λ m. next m (Clean name)) slot disk s shown new (Ok tt) → Cleans name disk at s shown after new (Ok Done)
      cleans_learned is = record {
        goes = record { ends = is.goes.ends; stands = is.goes.stands; done = is.goes.done; fault = tt; within = is.goes.within };
        numbers = is.numbers;
        goes_for = λ tells last m stands. let goes = is.goes_for tells last m stands in record { any_moment = goes.any_moment; done = goes.done; still = λ none. tt; whole = tt };
        reply = λ tells last m stands. allowed last m stands;
        cleans = record {
          missing = λ none. absurd (not_both s.volumes name none slot low has);
          answered = λ k near other. (refl, ap (λ (n : ℕ). is_unclean (state_at new.volumes n)) (one_slot k other) ∙ is.known);
          idle = λ k near other clean. absurd (true≢false (sym unclean ∙ ap (λ (n : ℕ). is_unclean (state_at s.volumes n)) (sym (one_slot k other)) ∙ clean));
          keeps = record { undone = λ tells last m stands none still. tt; calm = is.keeps.calm };
        };
      }

      -- or one failed
      pub cleans_failed : (f : Fault) → Learns (λ m. next m (Clean name)) slot disk s shown new (Err f) → Cleans name disk at s shown after new (Err f)
      cleans_failed f is = record {
        goes = record { ends = is.goes.ends; stands = is.goes.stands; done = tt; fault = is.goes.fault; within = is.goes.within };
        numbers = is.numbers;
        goes_for = λ tells last m stands. let goes = is.goes_for tells last m stands in record { any_moment = goes.any_moment; done = tt; still = goes.still; whole = goes.whole };
        reply = λ tells last m stands. tt;
        cleans = record {
          missing = λ none. absurd (not_both s.volumes name none slot low has);
          answered = λ k near other. tt;
          idle = λ k near other clean. absurd (true≢false (sym unclean ∙ ap (λ (n : ℕ). is_unclean (state_at s.volumes n)) (sym (one_slot k other)) ∙ clean));
          keeps = record { undone = is.keeps.undone; calm = is.keeps.calm };
        };
      }
