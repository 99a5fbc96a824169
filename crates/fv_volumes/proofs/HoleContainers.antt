-- A container of holes leads nowhere: a volume with no label that has one has no block.
use Rattle.std.proofs.Common.{◌≡◌, ℕ, zero, suc, Bool, true, false, ◌||◌, None, refl, ap, ◌∙◌}
use Rattle.std.specs.Prelude.{replicate}
use Rattle.std.proofs.lemmas.Bool.{both_ways}
use Rattle.fv_container.specs.Mapped.{empty_map, entry_under, node_count}
use Rattle.fv_container.specs.Spelled.{is_at, names}
use Rattle.fv_container.proofs.Clean.{none_at}
use Rattle.fv_container.proofs.Leading.{any_in_range}
use Rattle.fv_container.proofs.Named.{at_none}
use Rattle.fv_image.specs.Views.{entry_count}
use Rattle.fv_volume.specs.declared.state.VolumeState.{VolumeState}
use Rattle.fv_volume.specs.Stored.{is_of, leads, place_in}

pub none_under : (n v : ℕ) → entry_under (empty_map n) v ≡ None
none_under n v = none_at n v

pub none_named_in : (n b : ℕ) → names (replicate n 0) b ≡ false
none_named_in zero b = refl
none_named_in (suc n) b = (λ i. at_none b i || none_named_in n b i)

pub none_led : (n entries b : ℕ) → leads (empty_map n) entries b ≡ false
unfolding leads
none_led n entries b = so (leads (empty_map n) entries b) refl
  where
    so : (r : Bool) → leads (empty_map n) entries b ≡ r → r ≡ false
    so false e = refl
    so true e =
        let one = any_in_range (λ v. is_at b (place_in (entry_under (empty_map n) v))) 0 entries e in
        absurd (both_ways _ (ap (λ o. is_at b (place_in o)) (none_under n one.0) ∙ at_none b) one.3)

pub none_of : (x : VolumeState) (n b : ℕ) → x.label ≡ 0 → is_of x x.label (empty_map n) b ≡ false
none_of x n b none = (λ i. is_at b (none i) || (names (empty_map n).tree b || leads (empty_map n) (entry_count x.span) b)) ∙ (λ i. at_none b i || (none_named_in (node_count n) b i || none_led n (entry_count x.span) b i))
