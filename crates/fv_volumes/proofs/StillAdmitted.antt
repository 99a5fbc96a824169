-- What was admitted before a consistency point is admitted after it.
use Rattle.std.proofs.Common.{◌≡◌, ◌+◌, ℕ, suc, List, [], ◌∷◌, length, Option, Some, None, refl, sym, ap, subst, ◌∙◌, arith}
use Rattle.std.specs.Prelude.{IsSome}
use Rattle.std.specs.Option.{option_map}
use Rattle.std.proofs.lemmas.List.Sums.{sum_by-cons}
use Rattle.fv_model.specs.declared.commands.Kind.{Kind}
use Rattle.fv_volume.specs.declared.state.VolumeState.{VolumeState}
use Rattle.fv_volumes.specs.Creating.{Admits}
use Rattle.fv_volume.specs.Slots.{committed_by, is_named, sum_of}
use Rattle.fv_volume.specs.States.{States, state_at}
use Rattle.fv_volumes.proofs.Settled.{settled_keeps}
use Rattle.fv_volumes.specs.Housed.{AreSettled, settled_as}

-- what a volume has in common with itself after a point: its name, its slot's use, and what it commits
still_named : (o : Option VolumeState) (label : ℕ) (name : List ℕ) → is_named (option_map (settled_as label) o) name ≡ is_named o name
still_named None label name = refl
still_named (Some x) label name = settled_keeps (λ (y : VolumeState). is_named (Some y) name) x label refl

still_commits : (o : Option VolumeState) (label : ℕ) → committed_by (option_map (settled_as label) o) ≡ committed_by o
still_commits None label = refl
still_commits (Some x) label = settled_keeps (λ (y : VolumeState). committed_by (Some y)) x label refl

still_used : (o : Option VolumeState) (label : ℕ) → IsSome o → IsSome (option_map (settled_as label) o)
still_used None label is = is
still_used (Some x) label is = is

pub same_sum : (xs ys : States) → length ys ≡ length xs → ((s : ℕ) → committed_by (state_at ys s) ≡ committed_by (state_at xs s)) → sum_of ys ≡ sum_of xs
same_sum [] [] long same = refl
same_sum [] (y ∷ ys) long same = absurd (omega (arith, long))
same_sum (x ∷ xs) [] long same = absurd (omega (arith, long))
same_sum (x ∷ xs) (y ∷ ys) long same =
    let rest : sum_of ys ≡ sum_of xs = same_sum xs ys (omega (arith, long)) (λ s. same (suc s)) in
    sum_by-cons committed_by y ys ∙ (λ i. same 0 i + rest i) ∙ sym (sum_by-cons committed_by x xs)

pub still_admitted : (old new : States) (blocks : ℕ) (name : List ℕ) (size : ℕ) (kind : Kind) (slot span : ℕ) → length new ≡ length old → AreSettled old new
    → Admits old blocks name size kind slot span → Admits new blocks name size kind slot span
still_admitted old new blocks name size kind slot span long settled is =
    let sum : sum_of new ≡ sum_of old = same_sum old new long (λ s. ap committed_by (settled s).1 ∙ still_commits (state_at old s) (settled s).0) in
    record {
      size_is = is.size_is;
      name_is = record { none = λ s within. ap (λ (o : Option VolumeState). is_named o name) (settled s).1 ∙ still_named (state_at old s) (settled s).0 name ∙ is.name_is.none s within };
      free = record {
        within = is.free.within;
        free = (settled slot).1 ∙ ap (option_map (settled_as (settled slot).0)) is.free.free;
        first = λ s lt. subst (λ (o : Option VolumeState). IsSome o) (sym (settled s).1) (still_used (state_at old s) (settled s).0 (is.free.first s lt));
      };
      span_is = is.span_is;
      most = is.most;
      room = omega (arith, sum, is.room);
    }
