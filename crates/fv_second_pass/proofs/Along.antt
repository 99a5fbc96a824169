-- Where a VVBN is found along a chain of bases, by what the first pass read.
use Rattle.std.proofs.Common.{◌≡◌, ℕ, suc, ◌+◌, ◌-◌, ◌<◌, ◌≤◌, Bool, true, false, get_or, refl, sym, ap, ◌∙◌, arith, Ok, Err}
use Rattle.std.specs.Prelude.{Option, Some, None, Result, nat_lt, ◌==◌, if◌then◌else◌}
use Rattle.std.specs.Option.{option_map, option_and_then, option_or}
use Rattle.std.proofs.lemmas.Bool.Decides.{nat_tests}
use Rattle.fv_disk.specs.Shown.{Image}
use Rattle.fv_codec.specs.declared.shape.Shape.{Shape}
use Rattle.fv_codec.specs.declared.label.Label.{Label}
use Rattle.fv_image.specs.NewerRoot.{Taken}
use Rattle.fv_image.specs.Chains.{parent_in as parent_of, along, place, span_at}
use Rattle.fv_image.specs.Views.{Footing, Head, View, head_of}
use Rattle.fv_image.specs.Held.{layout_at}
use Rattle.fv_first_pass.specs.declared.first.Known.{Known}
use Rattle.fv_first_pass.specs.Heads.{IsReadLabel, head_in, parent_in}
use Rattle.fv_first_pass.specs.Passed.{Spells, spelled, word_in}
use Rattle.fv_second_pass.specs.Told.{IsKnown}
use Rattle.fv_second_pass.proofs.Words.{hole_in, place_in}

-- the slot of a parent is one of 64
parent_low : (l : Label) → l.parent ≤ 64 → (p : ℕ) → option_map (λ (b : Footing). b.parent) (head_of l).base ≡ Some p → p < 64
unfolding head_of
parent_low l most p is = so (l.parent == 0) refl is
  where
    so : (b : Bool) → (l.parent == 0) ≡ b → option_map (λ (b : Footing). b.parent) (if b then None else Some (record { parent = l.parent - 1; slot = l.base_slot; splitting = l.splitting == 1 })) ≡ Some p → p < 64
    so true none is = absurd cc
    so false some is =
        let based : 1 ≤ l.parent = grind (arith, nat_tests, some) in
        let same : l.parent - 1 ≡ p = cc in
        omega (arith, based, most, same)

pub parent_slot : (known : Known) → IsKnown known → (s p : ℕ) → parent_in known.labels.items s ≡ Some p → p < 64
parent_slot known range s p is = so (get_or known.labels.items s None) (range.labels s) is
  where
    so : (o : Option (Result Label Shape)) → IsReadLabel o → option_map (λ (b : Footing). b.parent) (option_and_then (λ (h : Head). h.base) (head_in o)) ≡ Some p → p < 64
    so None read is = absurd cc
    so (Some (Ok l)) read is = parent_low l read.0.parent p is
    so (Some (Err fault)) read is = absurd cc

module _ (t : Taken) (i : Image) (known : Known) (spells : Spells t i known.labels.items known.rows.items) where
  abbrev w : View
  w = (layout_at t i).view

  abbrev word_at : ℕ → ℕ → ℕ
  word_at s v = word_in (get_or known.rows.items s None) v

  pub own_is : (s v : ℕ) → s < 64 → w.entry s v ≡ spelled i (word_at s v)
  own_is s v low = (spells.entries s low).entries v

  parent_is : (s : ℕ) → s < 64 → parent_of (w.head s) ≡ parent_in known.labels.items s
  parent_is s low = ap parent_of (spells.heads.heads s low) ∙ so (head_in (get_or known.labels.items s None))
    where
      so : (o : Option Head) → parent_of o ≡ option_map (λ (b : Footing). b.parent) (option_and_then (λ (h : Head). h.base) o)
      so None = refl
      so (Some h) = refl

  module _ (v : ℕ) where
    step_is : (k at : ℕ) → k < 64 → along w (64 - k) at v ≡ option_or (w.entry at v) (option_and_then (λ p. along w (64 - (k + 1)) p v) (parent_of (w.head at)))
    unfolding along
    step_is k at low = ap (λ n. along w n at v) (let e : 64 - k ≡ suc (64 - (k + 1)) = omega (arith, low) in e)

    -- an entry that isn't a hole
    pub ends_found : (k at word : ℕ) → k < 64 → at < 64 → word ≡ word_at at v → 16777216 ≤ word → spelled i word ≡ along w (64 - k) at v
    ends_found k at word low slot is high =
        place_in i word high
        ∙ sym (step_is k at low ∙ ap (λ o. option_or o (option_and_then (λ p. along w (64 - (k + 1)) p v) (parent_of (w.head at)))) (own_is at v slot ∙ ap (spelled i) (sym is) ∙ place_in i word high))

    hole_step : (k at word : ℕ) → k < 64 → at < 64 → word ≡ word_at at v → word < 16777216 → along w (64 - k) at v ≡ option_and_then (λ p. along w (64 - (k + 1)) p v) (parent_in known.labels.items at)
    hole_step k at word low slot is hole =
        step_is k at low
        ∙ ap (λ o. option_or o (option_and_then (λ p. along w (64 - (k + 1)) p v) (parent_of (w.head at)))) (own_is at v slot ∙ ap (spelled i) (sym is) ∙ hole_in i word hole)
        ∙ ap (option_and_then (λ p. along w (64 - (k + 1)) p v)) (parent_is at slot)

    -- a hole in a volume without a parent
    pub ends_alone : (k at word : ℕ) → k < 64 → at < 64 → word ≡ word_at at v → word < 16777216 → parent_in known.labels.items at ≡ None → spelled i 0 ≡ along w (64 - k) at v
    ends_alone k at word low slot is hole none =
        hole_in i 0 (omega arith) ∙ sym (hole_step k at word low slot is hole ∙ ap (option_and_then (λ p. along w (64 - (k + 1)) p v)) none)

    -- and in one with a parent
    pub goes_on : (k at word parent : ℕ) → k < 64 → at < 64 → word ≡ word_at at v → word < 16777216 → parent_in known.labels.items at ≡ Some parent
        → along w (64 - k) at v ≡ along w (64 - (k + 1)) parent v
    goes_on k at word parent low slot is hole some = hole_step k at word low slot is hole ∙ ap (option_and_then (λ p. along w (64 - (k + 1)) p v)) some

    pub ends_late : (k at : ℕ) → 64 ≤ k → spelled i 0 ≡ along w (64 - k) at v
    unfolding along
    ends_late k at past = hole_in i 0 (omega arith) ∙ ap (λ n. along w n at v) (let e : 0 ≡ 64 - k = omega (arith, past) in e)

    -- in the span, and behind it
    pub place_along : (s span word : ℕ) → span ≡ span_at w s → v < span → spelled i word ≡ along w 64 s v → spelled i word ≡ place w s v
    unfolding place
    place_along s span word wide inside is =
        let test : nat_lt v (span_at w s) ≡ true = grind (arith, nat_tests, wide, inside) in
        is ∙ sym (ap (λ (b : Bool). if b then along w 64 s v else w.entry s v) test)

    pub place_own : (s span word : ℕ) → s < 64 → span ≡ span_at w s → span ≤ v → word ≡ word_at s v → spelled i word ≡ place w s v
    unfolding place
    place_own s span word low wide behind is =
        let test : nat_lt v (span_at w s) ≡ false = grind (arith, nat_tests, wide, behind) in
        ap (spelled i) is ∙ sym (own_is s v low) ∙ sym (ap (λ (b : Bool). if b then along w 64 s v else w.entry s v) test)
