-- The labels of all slots, slot by slot.
use Rattle.std.proofs.Common.{◌≡◌, ℕ, zero, suc, ◌+◌, ◌<◌, Bool, true, List, [], ◌∷◌, ◌++◌, length, get_or, refl, sym, ap, subst, ◌∙◌, arith}
use Rattle.std.specs.Prelude.{Option, Some, None, Result, Ok, Err, nat_lt, if◌then◌else◌}
use Rattle.std.specs.Option.{option_map}
use Rattle.std.proofs.lemmas.Bool.Decides.{nat_tests}
use Rattle.std.proofs.lemmas.List.FromFn.{map-range_with_len_more, length-map-range_with_len, get_or-map-range_with_len}
use Rattle.fv_disk.specs.Shown.{Image}
use Rattle.fv_codec.specs.declared.shape.Shape.{Shape}
use Rattle.fv_codec.specs.declared.label.Label.{Label}
use Rattle.fv_codec.specs.declared.root.Root.{Root}
use Rattle.fv_codec.specs.Blocks.{label_at}
use Rattle.fv_image.specs.Containers.{shaped}
use Rattle.fv_image.specs.NewerRoot.{Taken}
use Rattle.fv_image.specs.Views.{head_of}
use Rattle.fv_image.specs.Held.{Lying, lying_at, label_in, label_lying, label_place, layout_at, view_at}
use Rattle.fv_image.proofs.Heads.{head_told}
use Rattle.fv_first_pass.specs.Heads.{IsReadLabel, HasLabels, head_in, label_read, labels_under}

pub one_label : (i : Image) (root : Root) (n : ℕ) (labels now : List (Option (Result Label Shape))) (read : Option (Result Label Shape))
    → labels ≡ labels_under i root n → read ≡ label_read (lying_at i (get_or root.labels n 0)) → now ≡ labels ++ read ∷ [] → now ≡ labels_under i root (n + 1)
one_label i root n labels now read is one pushed =
    pushed ∙ ap (λ ls. ls ++ read ∷ []) is ∙ ap (λ r. labels_under i root n ++ r ∷ []) one ∙ sym (map-range_with_len_more (λ s. label_read (lying_at i (get_or root.labels s 0))) 0 n n (omega arith))

pub one_range : (labels now : List (Option (Result Label Shape))) (read : Option (Result Label Shape)) → ((s : ℕ) → IsReadLabel (get_or labels s None)) → IsReadLabel read → now ≡ labels ++ read ∷ [] → (s : ℕ) → IsReadLabel (get_or now s None)
one_range labels now read each one pushed s = subst (λ ls. IsReadLabel (get_or ls s None)) (sym pushed) (so labels each s)
  where
    so : (labels : List (Option (Result Label Shape))) → ((s : ℕ) → IsReadLabel (get_or labels s None)) → (s : ℕ) → IsReadLabel (get_or (labels ++ read ∷ []) s None)
    so [] each zero = one
    so [] each (suc s) = tt
    so (l ∷ ls) each zero = each zero
    so (l ∷ ls) each (suc s) = so ls (λ s. each (suc s)) s

-- they are those of the layout
pub has_labels : (t : Taken) (i : Image) (labels : List (Option (Result Label Shape))) → labels ≡ labels_under i t.root 64 → HasLabels (layout_at t i) labels
unfolding layout_at label_place label_in
has_labels t i labels is = record {
  long = ap length is ∙ length-map-range_with_len (λ s. label_read (lying_at i (get_or t.root.labels s 0))) 0 64;
  reads = at;
  heads = λ s low. head_told t i s ∙ head (label_lying t i s) ∙ ap head_in (sym (at s low));
}
  where
    at : (s : ℕ) → s < 64 → get_or labels s None ≡ label_read (label_lying t i s)
    at s low =
        let test : nat_lt s 64 ≡ true = grind (arith, nat_tests, low) in
        ap (λ ls. get_or ls s None) is
        ∙ get_or-map-range_with_len (λ s. label_read (lying_at i (get_or t.root.labels s 0))) 0 64 s s None low (omega arith)
        ∙ ap (λ (b : Bool). label_read (lying_at i (if b then get_or t.root.labels s 0 else 0))) (sym test)

    shape : (r : Result Label Shape) → option_map head_of (shaped r) ≡ head_in (Some r)
    shape (Ok l) = refl
    shape (Err fault) = refl

    head : (o : Option Lying) → option_map head_of (label_in o) ≡ head_in (label_read o)
    head None = refl
    head (Some x) = shape (label_at x.block)
