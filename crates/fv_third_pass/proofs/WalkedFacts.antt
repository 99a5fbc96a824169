-- What holds of an aggregate in which the first two passes found nothing.
use Rattle.std.proofs.Common.{◌≡◌, ◌≢◌, ℕ, ◌-◌, ◌<◌, ◌≤◌, Bool, true, false, List, length, get_or, refl, sym, ap, ◌∙◌, arith, ⊎_elim, Result, Ok, Err}
use Rattle.std.specs.Prelude.{Option, Some, None, ◌&&◌, ◌==◌, nat_le, if◌then◌else◌}
use Rattle.std.specs.Option.{is_some, option_map_or}
use Rattle.std.proofs.lemmas.Bool.{and_parts, cases_lt}
use Rattle.std.proofs.lemmas.Bool.Decides.{nat_tests}
use Rattle.fv_disk.specs.Shown.{Image}
use Rattle.fv_bits.proofs.Laws.{is_member_past}
use Rattle.fv_codec.specs.declared.shape.Shape.{Shape}
use Rattle.fv_codec.specs.declared.label.Label.{Label}
use Rattle.fv_laws.proofs.Lists.{In, in_flat_map}
use Rattle.fv_tables.specs.Reached.{Item, items, is_listed}
use Rattle.fv_tables.proofs.Listed.{picked, picked_in}
use Rattle.fv_image.specs.Layout.{root_place}
use Rattle.fv_image.specs.NewerRoot.{Taken}
use Rattle.fv_image.specs.Views.{Footing, Head, Rooted, Snap, head_of}
use Rattle.fv_image.specs.Held.{Layout, Lying, layout_at, view_at}
use Rattle.fv_image.specs.Seen.{roots_of, seen, volume_seen}
use Rattle.fv_image.specs.Volumes.{snap_at, standing_of}
use Rattle.fv_image.specs.VolumeRules.{comes_to_end, has_bases, has_footing}
use Rattle.fv_faults.specs.FirstPass.{can_carry}
use Rattle.fv_faults.specs.Met.{IsClean}
use Rattle.fv_faults.specs.SecondPass.{ground}
use Rattle.fv_faults.specs.Walks.{has_reached, steps}
use Rattle.fv_faults.proofs.EachVolume.{volume_test}
use Rattle.fv_faults.proofs.First.{IsFirst, first_true}
use Rattle.fv_faults.proofs.FromLines.{is_read, low_label, roots_from}
use Rattle.fv_faults.proofs.Premises as premises
use Rattle.fv_faults.proofs.ReadBases.{bears, parent_seen}
use Rattle.fv_faults.proofs.Second.{AllClean, AreWalked, IsRead, clean_from, few_levels, second_true}
use Rattle.fv_first_pass.specs.declared.first.Known.{Known}
use Rattle.fv_first_pass.specs.Heads.{head_in}
use Rattle.fv_second_pass.specs.declared.reached.Reached as sets
use Rattle.fv_second_pass.specs.Reaching.{HasReach}
use Rattle.fv_second_pass.proofs.Listed.{reached_is}
use Rattle.fv_second_pass.proofs.Volumes.{head_is, head_there, label_there, lying}
use Rattle.fv_third_pass.specs.Volumes.{AreReachIn, IsReachIn, IsWalked, reach_at}

-- a set without a VVBN
not_listed : (es : List Item) (v : ℕ) → ((e : Item) → In e es → e.pointer.vvbn ≡ v → ⊥) → is_listed es v ≡ false
not_listed es v none = so (is_listed es v) refl
  where
    so : (b : Bool) → is_listed es v ≡ b → b ≡ false
    so true is = let found = picked_in es v is in absurd (none (picked es v) found.0 found.1)
    so false is = refl

-- a head that is read is a label's
record IsHeadOf (o : Option (Result Label Shape)) (g : Head) : Type 0 where
  pub label : Label
  pub read : o ≡ Some (Ok label)
  pub head : head_of label ≡ g

of_head : (o : Option (Result Label Shape)) (g : Head) → head_in o ≡ Some g → IsHeadOf o g
of_head None g is = absurd cc
of_head (Some (Ok l)) g is = record { label = l; read = refl; head = cc }
of_head (Some (Err shape)) g is = absurd cc

module _ (t : Taken) (i : Image) (long : (b : ℕ) → length (i b) ≡ 4096) (size : 1 ≤ t.blocks) (known : Known) (reached : sets.Reached) (walked : IsWalked t i known reached) where
  abbrev pub y : Layout
  y = layout_at t i

  pub some_blocks : 0 < (view_at t i).blocks
  unfolding view_at
  some_blocks = omega (arith, size)

  abbrev pub is : IsRead y
  is = is_read t i long some_blocks

  pub one : IsFirst t i long some_blocks (root_place t.slot)
  one = first_true t i long some_blocks (root_place t.slot) walked.passed.silent

  pub two : AreWalked y is
  two = second_true y is (roots_from t i long some_blocks (root_place t.slot) one) walked.silent

  pub clean : AllClean y is
  clean = clean_from y is walked.silent

  pub bases : has_bases (seen y.view) ≡ true
  unfolding layout_at
  bases = one.bases

  -- ---- a volume

  module _ (s : ℕ) (low : s < 64) (l : Label) (label : get_or known.labels.items s None ≡ Some (Ok l)) where
    abbrev pub h : Head
    h = head_of l

    abbrev pub at : ℕ
    at = get_or t.root.labels s 0

    abbrev place : Lying
    place = lying t i known walked.passed s low l label

    lies : y.label s ≡ Some place
    lies = label_there t i known walked.passed s low l label

    pub head : y.view.head s ≡ Some h
    head = head_there t i known walked.passed s low l label

    pub own_clean : (r : ℕ × Rooted) → In r (roots_of h) → IsClean (steps (ground y.view s h) at r.1)
    own_clean r there = premises.own_clean y is (low_label t i long some_blocks) clean two.ranges bases s place h low lies head r there

    pub few : (r : ℕ × Rooted) → In r (roots_of h) → r.1.levels ≤ 2
    few r there = few_levels y.view h (is.numbers s h head) r there

    pub own_below : (r : ℕ × Rooted) → In r (roots_of h) → (e : Item) → In e (items (standing_of y.view s r.1)) → e.pointer.vvbn < h.span
    own_below r there e one =
        premises.own_below y is (low_label t i long some_blocks) clean two.ranges bases s place h low lies head e
        (in_flat_map (λ (r : ℕ × Rooted). items (standing_of y.view s r.1)) r e (roots_of h) there one)

    span_is : h.span ≡ l.span
    unfolding head_of
    span_is = refl

    pub reach_in : AreReachIn l.span (λ r. steps (ground y.view s h) at r.1) (reach_at reached s) (roots_of h)
    reach_in r there = so (reach_at reached s r.0) ((walked.reach.each s low place h lies head).each r there)
      where
        none_past : (v : ℕ) → h.span ≤ v → has_reached (steps (ground y.view s h) at r.1) v ≡ false
        none_past v past =
            reached_is (ground y.view s h) at r.1 (own_clean r there) v
            ∙ not_listed (items (standing_of y.view s r.1)) v (λ e one same. let below = own_below r there e one in omega (arith, below, same, past))

        so : (o : Option (List Bool)) → HasReach (ground y.view s h) (steps (ground y.view s h) at r.1) o → IsReachIn l.span (steps (ground y.view s h) at r.1) o
        so None has = has
        so (Some reach) has = (
          has.size ∙ span_is,
          record {
            each = λ v. ⊎_elim
                (λ (inside : v < h.span). has.bits v inside)
                (λ (past : h.span ≤ v). is_member_past reach v (let long = has.size in omega (arith, long, past)) ∙ sym (none_past v past))
                (cases_lt v h.span);
          },
        )

    -- ---- its base

    abbrev pub foot : Footing
    foot = record { parent = l.parent - 1; slot = l.base_slot; splitting = l.splitting == 1 }

    pub base_none : l.parent ≡ 0 → h.base ≡ None
    unfolding head_of
    base_none none = ap (λ n. if n == 0 then None else Some foot) none

    pub base_some : l.parent ≢ 0 → h.base ≡ Some foot
    unfolding head_of
    base_some some = let test : (l.parent == 0) ≡ false = grind (arith, nat_tests, some) in ap (λ (b : Bool). if b then None else Some foot) test

    pub record IsBased : Type 0 where
      pub inside : l.parent - 1 < 64
      pub parent : Label
      pub read : get_or known.labels.items (l.parent - 1) None ≡ Some (Ok parent)
      pub snap : Snap
      pub found : snap_at (head_of parent) l.base_slot ≡ Some snap
      pub narrow : (head_of parent).span ≤ h.span

    pub based : l.parent ≢ 0 → IsBased
    unfolding has_bases volume_seen
    based some = record {
      inside = parent.0;
      parent = of.label;
      read = of.read;
      snap = there.0;
      found = ap (λ (g : Head). snap_at g l.base_slot) of.head ∙ there.1;
      narrow = let e : (head_of of.label).span ≡ parent.1.0.span = ap (λ (g : Head). g.span) of.head in omega (arith, e, below);
    }
      where
        stands : (comes_to_end (seen y.view) 64 s && option_map_or (has_footing (seen y.view) (volume_seen y.view s h)) h.base true) ≡ true
        stands = volume_test y.view (λ s x. comes_to_end (seen y.view) 64 s && option_map_or (has_footing (seen y.view) x) x.head.base true) bases s h low head

        has : has_footing (seen y.view) (volume_seen y.view s h) foot ≡ true
        has = sym (ap (λ (o : Option Footing). option_map_or (has_footing (seen y.view) (volume_seen y.view s h)) o true) (base_some some)) ∙ (and_parts (comes_to_end (seen y.view) 64 s) _ stands).1

        parent : (foot.parent < 64) × ((g : Head) × (y.view.head foot.parent ≡ Some g))
        parent = parent_seen y is.heads s h low head foot has

        carries : can_carry h foot parent.1.0 ≡ true
        carries = sym (bears y is.heads s h low head foot parent.1.0 parent.0 parent.1.1) ∙ has

        of : IsHeadOf (get_or known.labels.items foot.parent None) parent.1.0
        of = of_head (get_or known.labels.items foot.parent None) parent.1.0 (sym (head_is t i known walked.passed foot.parent parent.0) ∙ parent.1.1)

        below : parent.1.0.span ≤ h.span
        below = let test = (and_parts (nat_le parent.1.0.span h.span) _ (and_parts (is_some (snap_at parent.1.0 foot.slot)) _ carries).1).0 in grind (arith, nat_tests, test)

        there : (p : Snap) × (snap_at parent.1.0 l.base_slot ≡ Some p)
        there = so (snap_at parent.1.0 l.base_slot) refl (and_parts (is_some (snap_at parent.1.0 foot.slot)) _ carries).0
          where
            so : (o : Option Snap) → snap_at parent.1.0 l.base_slot ≡ o → is_some o ≡ true → (p : Snap) × (snap_at parent.1.0 l.base_slot ≡ Some p)
            so None found some = absurd cc
            so (Some p) found some = (p, found)
