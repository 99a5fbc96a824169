-- Pass 1 on bases: rule 3 has no line exactly where soundness' test of bases holds.
use Rattle.std.proofs.Common.{◌≡◌, ℕ, ◌<◌, Bool, true, false, [], refl, sym, ap, ◌∙◌, arith}
use Rattle.std.specs.Prelude.{Option, Some, None, ◌&&◌, nat_lt, if◌then◌else◌}
use Rattle.std.specs.Option.{is_some, option_map, option_map_or, option_and_then}
use Rattle.std.proofs.lemmas.Bool.{and_parts, and_from}
use Rattle.std.proofs.lemmas.Bool.Decides.{nat_tests}
use Rattle.fv_image.specs.Views.{Footing, Head, View, head_of}
use Rattle.fv_image.specs.Held.{Lying, Layout, label_in}
use Rattle.fv_image.specs.Seen.{VolumeSeen, volume_seen, seen}
use Rattle.fv_image.specs.VolumeRules.{footing_in, comes_to_end, can_bear, has_footing}
use Rattle.fv_image.proofs.Counted.{HasHeads}
use Rattle.fv_faults.specs.Lines.{line, unless}
use Rattle.fv_faults.specs.FirstPass.{can_carry, stands_on, base_lines}
use Rattle.fv_faults.proofs.Clean.{holds_from, none_from}
use Rattle.fv_faults.proofs.EachVolume.{volume_is}

-- a slot with a head has a label
pub label_of : (y : Layout) → HasHeads y → (s : ℕ) (h : Head) → y.view.head s ≡ Some h → is_some (y.label s) ≡ true
unfolding label_in
label_of y heads s h head = so (y.label s) refl
  where
    no_head : ◌≡◌ {A = Option Head} None (Some h) → ⊥
    no_head e = cc

    so : (o : Option Lying) → y.label s ≡ o → is_some o ≡ true
    so None is = absurd (no_head (sym (ap (λ (o : Option Lying). option_map head_of (label_in o)) is) ∙ sym (heads.heads s) ∙ head))
    so (Some x) is = refl

module _ (y : Layout) (heads : HasHeads y) (s : ℕ) (h : Head) (low : s < 64) (head : y.view.head s ≡ Some h) where
  abbrev w : View
  w = y.view

  -- what soundness asks of the base of a volume
  abbrev pub stands : Bool
  stands = comes_to_end (seen w) 64 s && option_map_or (has_footing (seen w) (volume_seen w s h)) h.base true

  footing_is : footing_in (seen w) s ≡ h.base
  unfolding volume_seen
  footing_is = ap (option_and_then (λ (x : VolumeSeen). x.head.base)) (volume_is w s h low head)

  alone : h.base ≡ None → comes_to_end (seen w) 64 s ≡ true
  unfolding comes_to_end
  alone none = ap (λ (o : Option Footing). option_map_or (λ b. comes_to_end (seen w) 63 b.parent) o true) (footing_is ∙ none)

  -- the parent, by its slot
  pub bears : (b : Footing) (g : Head) → b.parent < 64 → w.head b.parent ≡ Some g → has_footing (seen w) (volume_seen w s h) b ≡ can_carry h b g
  unfolding volume_seen
  bears b g inside parent = ap (λ (o : Option VolumeSeen). option_map_or (can_bear (volume_seen w s h) b) o false) (volume_is w b.parent g inside parent)

  pub parent_seen : (b : Footing) → has_footing (seen w) (volume_seen w s h) b ≡ true → (b.parent < 64) × ((g : Head) × (w.head b.parent ≡ Some g))
  unfolding seen
  parent_seen b is = so (nat_lt b.parent 64) refl (w.head b.parent) refl is
    where
      so : (t : Bool) → nat_lt b.parent 64 ≡ t → (o : Option Head) → w.head b.parent ≡ o
          → option_map_or (can_bear (volume_seen w s h) b) (option_map (volume_seen w b.parent) (if t then o else None)) false ≡ true → (b.parent < 64) × ((g : Head) × (w.head b.parent ≡ Some g))
      so true e None p is = absurd cc
      so true e (Some g) p is = ((let inside : b.parent < 64 = grind (arith, nat_tests, e) in inside), (g, p))
      so false e o p is = absurd cc

  pub base_from : (at : ℕ) → ((p : ℕ) (x : Lying) → y.label p ≡ Some x → (p < 64) × ((g : Head) × (w.head p ≡ Some g))) → base_lines y s at h ≡ [] → stands ≡ true
  unfolding base_lines
  base_from at shaped none = so h.base refl none
    where
      so : (o : Option Footing) → h.base ≡ o → option_map_or (λ b. unless (stands_on y s h b) (line 3 at 1 0)) o [] ≡ [] → (comes_to_end (seen w) 64 s && option_map_or (has_footing (seen w) (volume_seen w s h)) o true) ≡ true
      so None is none = and_from (comes_to_end (seen w) 64 s) true (alone is) refl
      so (Some b) is none =
          let holds = and_parts (is_some (y.label b.parent)) _ (holds_from (stands_on y s h b) _ none) in
          let more = and_parts (option_map_or (can_carry h b) (w.head b.parent) true) _ holds.1 in
          and_from (comes_to_end (seen w) 64 s) _ more.1 (by_label (y.label b.parent) refl holds.0 more.0)
        where
          by_label : (o : Option Lying) → y.label b.parent ≡ o → is_some o ≡ true → option_map_or (can_carry h b) (w.head b.parent) true ≡ true → has_footing (seen w) (volume_seen w s h) b ≡ true
          by_label None lies some carries = absurd cc
          by_label (Some x) lies some carries =
              let parent = shaped b.parent x lies in
              bears b parent.1.0 parent.0 parent.1.1 ∙ sym (ap (λ (o : Option Head). option_map_or (can_carry h b) o true) parent.1.1) ∙ carries

  pub base_to : (at : ℕ) → stands ≡ true → base_lines y s at h ≡ []
  unfolding base_lines
  base_to at is = so h.base is
    where
      so : (o : Option Footing) → (comes_to_end (seen w) 64 s && option_map_or (has_footing (seen w) (volume_seen w s h)) o true) ≡ true → option_map_or (λ b. unless (stands_on y s h b) (line 3 at 1 0)) o [] ≡ []
      so None is = refl
      so (Some b) is =
          let both = and_parts (comes_to_end (seen w) 64 s) _ is in
          let parent = parent_seen b both.1 in
          none_from (stands_on y s h b) _
          (and_from (is_some (y.label b.parent)) _ (label_of y heads b.parent parent.1.0 parent.1.1)
          (and_from (option_map_or (can_carry h b) (w.head b.parent) true) _
          (ap (λ (o : Option Head). option_map_or (can_carry h b) o true) parent.1.1 ∙ sym (bears b parent.1.0 parent.0 parent.1.1) ∙ both.1) both.0))
