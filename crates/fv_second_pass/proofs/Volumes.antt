-- What a volume is that walks go over, by what the first pass read. Later passes rest on this, too.
use Rattle.std.proofs.Common.{◌≡◌, ℕ, zero, suc, ◌<◌, ◌≤◌, Bool, true, false, [], length, get_or, refl, sym, ap, subst, ◌∙◌, arith, Ok, Err}
use Rattle.std.specs.Prelude.{IsTrue, Option, Some, None, Result, ◌||◌, ◌&&◌, ◌==◌, nat_lt, if◌then◌else◌}
use Rattle.std.specs.Option.{option_map_or}
use Rattle.std.proofs.lemmas.Bool.{and_parts}
use Rattle.std.proofs.lemmas.Bool.Decides.{nat_tests}
use Rattle.fv_disk.specs.Shown.{Image, IsDisk, Shown}
use Rattle.fv_codec.specs.declared.shape.Shape.{Shape}
use Rattle.fv_codec.specs.declared.label.Label.{Label}
use Rattle.fv_image.specs.Layout.{root_place}
use Rattle.fv_image.specs.NewerRoot.{Taken}
use Rattle.fv_image.specs.Chains.{span_at}
use Rattle.fv_image.specs.Views.{Head, head_of}
use Rattle.fv_image.specs.Held.{Layout, Lying, label_place, layout_at, lying_at, view_at}
use Rattle.fv_image.specs.Seen.{roots_of}
use Rattle.fv_faults.specs.FirstPass.{first_pass}
use Rattle.fv_faults.specs.SecondPass.{ground}
use Rattle.fv_faults.proofs.First.{first_true}
use Rattle.fv_faults.proofs.FromLines.{roots_from}
use Rattle.fv_first_pass.specs.declared.first.Known.{Known}
use Rattle.fv_first_pass.specs.Heads.{head_in, label_read}
use Rattle.fv_root.specs.Formatted.{IsSize}
use Rattle.fv_disk.proofs.Reading.{reads_whole}
use Rattle.fv_walk.specs.declared.limits.Limits.{Limits}
use Rattle.fv_walk.specs.Limiting.{IsLimitsOf}
use Rattle.fv_second_pass.specs.Told.{AreWithin, IsKnown, IsLabelled, IsPassed, IsVolume, ground_at, shaped_label}

-- ---- the pointers in labels, of which the first pass says nothing

module _ (t : Taken) (i : Image) (long : (b : ℕ) → length (i b) ≡ 4096) (some_blocks : 1 ≤ t.blocks) where
  there_are : 0 < (view_at t i).blocks
  unfolding view_at
  there_are = omega (arith, some_blocks)

  pub roots_within : first_pass (root_place t.slot) (layout_at t i) ≡ [] → (s : ℕ) (h : Head) → s < 64 → (layout_at t i).view.head s ≡ Some h → AreWithin h.span (roots_of h)
  roots_within none s h low head r there stands =
      let test = (roots_from t i long there_are (root_place t.slot) (first_true t i long there_are (root_place t.slot) none)).ranges s h low head r there in
      so (r.1.root.stamp == 0) refl _ test
    where
      so : (b : Bool) → (r.1.root.stamp == 0) ≡ b → (rest : Bool) → (b || (nat_lt r.1.root.vvbn h.span && rest)) ≡ true → r.1.root.vvbn < h.span
      so true hole rest test = absurd (stands (let none : r.1.root.stamp ≡ 0 = grind (arith, nat_tests, hole) in none))
      so false some rest test = let low = (and_parts (nat_lt r.1.root.vvbn h.span) rest test).0 in grind (arith, nat_tests, low)

-- ---- one slot

pub label_read_is : (o : Option (Result Label Shape)) (l : Label) → shaped_label o ≡ Some l → o ≡ Some (Ok l)
label_read_is None l is = absurd cc
label_read_is (Some (Ok k)) l is = let same : k ≡ l = cc in ap (λ (k : Label). Some (Ok k)) same
label_read_is (Some (Err fault)) l is = absurd cc

pub no_head_in : (o : Option (Result Label Shape)) → shaped_label o ≡ None → head_in o ≡ None
no_head_in None is = refl
no_head_in (Some (Ok k)) is = absurd cc
no_head_in (Some (Err fault)) is = refl

module _ (t : Taken) (i : Image) (known : Known) (passed : IsPassed t i known) (s : ℕ) (low : s < 64) where
  abbrev y : Layout
  y = layout_at t i

  pub head_is : y.view.head s ≡ head_in (get_or known.labels.items s None)
  head_is = passed.spells.heads.heads s low

  -- with a label
  module _ (l : Label) (is : get_or known.labels.items s None ≡ Some (Ok l)) where
    pub head_there : y.view.head s ≡ Some (head_of l)
    head_there = head_is ∙ ap head_in is

    lies_is : y.label s ≡ lying_at i (get_or t.root.labels s 0)
    unfolding layout_at label_place
    lies_is = let test : nat_lt s 64 ≡ true = grind (arith, nat_tests, low) in ap (λ (b : Bool). lying_at i (if b then get_or t.root.labels s 0 else 0)) test

    abbrev pub lying : Lying
    lying = record { place = get_or t.root.labels s 0; block = i (get_or t.root.labels s 0) }

    pub label_there : y.label s ≡ Some lying
    label_there = lies_is ∙ so (get_or t.root.labels s 0) (sym (ap label_read lies_is) ∙ sym (passed.spells.heads.reads s low) ∙ is)
      where
        so : (p : ℕ) → label_read (lying_at i p) ≡ Some (Ok l) → lying_at i p ≡ Some (record { place = p; block = i p })
        so zero e = absurd cc
        so (suc p) e = refl

    pub span_is : l.span ≡ span_at y.view s
    unfolding head_of
    span_is = sym (ap (λ (o : Option Head). option_map_or (λ (h : Head). h.span) o 0) head_there)

    pub ground_is : ground y.view s (head_of l) ≡ ground_at t i s l.span
    unfolding head_of
    ground_is = refl

-- ---- a volume that is walked

pub volume_is : (t : Taken) (disk : Shown) (known : Known) (s : ℕ) (l : Label) → s < 64 → IsTrue disk.tells → IsKnown known → IsLabelled t disk.reads known s l → IsVolume t disk known s l.span
volume_is t disk known s l low tells range is = record {
  tells = tells;
  spells = is.passed.spells;
  range = range;
  low = low;
  wide = span_is t disk.reads known is.passed s low l is.label;
}

pub limits_are : (t : Taken) (i : Image) (s span : ℕ) (limits : Limits) → limits.blocks ≡ t.blocks → limits.span ≡ span → IsLimitsOf (ground_at t i s span) limits
unfolding layout_at view_at
limits_are t i s span limits blocks wide = record { blocks = blocks; span = wide }

pub label_within : (t : Taken) (disk : Shown) (known : Known) (s : ℕ) (l : Label) → s < 64 → IsDisk disk → IsSize t.blocks → IsTrue disk.tells → IsLabelled t disk.reads known s l
    → (span : ℕ) → span ≡ l.span → AreWithin span (roots_of (head_of l))
unfolding head_of
label_within t disk known s l low laws size tells is span wide =
    let least = size.least in
    subst (λ n. AreWithin n (roots_of (head_of l))) (sym wide)
    (roots_within t disk.reads (reads_whole disk laws tells) (omega (arith, least)) is.passed.silent s (head_of l) low (head_there t disk.reads known is.passed s low l is.label))
