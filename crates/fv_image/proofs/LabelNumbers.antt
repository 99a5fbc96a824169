-- The numbers of a label of its shape are those that the count of own entries rests on.
use Rattle.std.proofs.Common.{◌≡◌, ℕ, ◌+◌, ◌≤◌, Bool, true, false, List, [], ◌∷◌, refl, sym, ap, subst, ◌∙◌, arith, Result, Ok, Err}
use Rattle.std.specs.Prelude.{Option, Some, None, nat_le, ◌==◌, if◌then◌else◌, length, take}
use Rattle.std.specs.List.{All, list_all}
use Rattle.std.specs.Option.{option_map}
use Rattle.std.proofs.lemmas.Bool.{and_from}
use Rattle.std.proofs.lemmas.Bool.Decides.{nat_tests}
use Rattle.std.proofs.lemmas.List.Elements.{All-head, All-tail}
use Rattle.fv_codec.specs.declared.shape.Shape.{Shape}
use Rattle.fv_codec.specs.declared.label.SnapRecord.{SnapRecord}
use Rattle.fv_codec.specs.declared.label.Label.{Label}
use Rattle.fv_codec.specs.Fields.{up_to}
use Rattle.fv_codec.specs.Blocks.{is_used, label_at, IsSnapRecord, IsLabel}
use Rattle.fv_codec.proofs.Decoded.{label_in_range}
use Rattle.fv_image.specs.Views.{Snap, Head, snaps_from, head_of}
use Rattle.fv_image.specs.Containers.{shaped}
use Rattle.fv_image.specs.Held.{Lying, Layout, label_in}
use Rattle.fv_image.specs.Soundness.{IsSound}
use Rattle.fv_image.proofs.Counted.{HasHeads}
use Rattle.fv_image.proofs.Points.{UsesOwn}
use Rattle.fv_image.proofs.OwnUses.{HasLabelNumbers}
use Rattle.fv_image.proofs.OwnBases.{uses_own}

-- a bound under a condition is no more than without
at_most : (b : Bool) (n : ℕ) → up_to b n ≤ n
at_most true n = omega arith
at_most false n = omega arith

few_levels : (j : ℕ) (rs : List SnapRecord) → All IsSnapRecord rs → list_all (λ (p : Snap). nat_le p.table.levels 2) (snaps_from j rs) ≡ true
unfolding snaps_from
few_levels j [] are = refl
few_levels j (r ∷ rs) are = so (r.name_length == 0) (few_levels (j + 1) rs (All-tail IsSnapRecord r rs are))
  where
    one : nat_le r.levels 2 ≡ true
    one = let range = (All-head IsSnapRecord r rs are).levels in let least = at_most (is_used r.name_length) 2 in let few : r.levels ≤ 2 = omega (arith, range, least) in grind (arith, nat_tests, few)

    so : (free : Bool) → list_all (λ (p : Snap). nat_le p.table.levels 2) (snaps_from (j + 1) rs) ≡ true
        → list_all (λ (p : Snap). nat_le p.table.levels 2) (if free then snaps_from (j + 1) rs else record { slot = j; name = take r.name_length r.name; table = record { levels = r.levels; root = r.root } } ∷ snaps_from (j + 1) rs) ≡ true
    so true rest = rest
    so false rest = and_from (nat_le r.levels 2) _ one rest

pub label_numbers : (l : Label) → IsLabel l → HasLabelNumbers (head_of l)
unfolding head_of
label_numbers l is = record {
  span = let least = is.span_least in omega (arith, least);
  active = is.levels;
  snapshots = few_levels 1 l.snapshots is.snapshots;
}

-- Of a sound layout whose labels lie in whole blocks, no volume has more entries of its own than it uses.
pub sound_uses_own : (y : Layout) → HasHeads y → ((s : ℕ) (x : Lying) → y.label s ≡ Some x → length x.block ≡ 4096) → IsSound y → UsesOwn y.view
unfolding label_in
sound_uses_own y heads long is = uses_own y.view is.tables is.maps (λ s h small there. by s (y.label s) refl h (sym (heads.heads s) ∙ there))
  where
    of_label : (x : Lying) → length x.block ≡ 4096 → (r : Result Label Shape) → r ≡ label_at x.block → (h : Head) → option_map head_of (shaped r) ≡ Some h → HasLabelNumbers h
    of_label x size (Ok l) e h there = let same : head_of l ≡ h = cc in subst HasLabelNumbers same (label_numbers l (label_in_range x.block (Ok l) size e))
    of_label x size (Err fault) e h there = absurd cc

    by : (s : ℕ) (o : Option Lying) → y.label s ≡ o → (h : Head) → option_map head_of (label_in (y.label s)) ≡ Some h → HasLabelNumbers h
    by s o e h there = with_label s o e h (sym (ap (λ (o : Option Lying). option_map head_of (label_in o)) e) ∙ there)
      where
        with_label : (s : ℕ) (o : Option Lying) → y.label s ≡ o → (h : Head) → option_map head_of (label_in o) ≡ Some h → HasLabelNumbers h
        with_label s None e h there = absurd (no_head h there)
          where
            no_head : (h : Head) → option_map head_of (label_in None) ≡ Some h → ⊥
            no_head h there = cc
        with_label s (Some x) e h there = of_label x (long s x e) (label_at x.block) refl h there
