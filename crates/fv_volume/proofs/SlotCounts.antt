-- How many numbers a slot of a volume's maps has.
use Rattle.std.proofs.Common.{◌≡◌, ℕ, ◌-◌, ◌<◌, ◌≤◌, false, List, length, Some, None, refl, sym, ap, subst, ◌∙◌, arith, Bool}
use Rattle.std.specs.Prelude.{IfSome, count_by}
use Rattle.std.specs.List.{range_with_len}
use Rattle.fv_bits.specs.Members.{count_between, count_of, is_member}
use Rattle.fv_bits.proofs.Counts.{none_pass, passing_le}
use Rattle.fv_volmap.specs.Slots.{IsVolume, Slot, Volume as Maps, has, slot_at, slot_count}

-- a used slot has as many as its map has members,
pub counted : (maps : Maps) (k : ℕ) (map : List Bool) → IsVolume maps → k < slot_count → slot_at maps k ≡ Some map → count_of map ≡ count_by (λ v. has v (slot_at maps k)) (range_with_len 0 maps.span)
unfolding count_of count_between
counted maps k map is low at =
    let long : length map ≡ maps.span = subst (λ (o : Slot). IfSome o (λ m. length m ≡ maps.span)) at (is.long k None (let count = is.count in omega (arith, low, count))) in
    (let same : length map - 0 ≡ maps.span = omega (arith, long) in ap (λ (n : ℕ). count_by (is_member map) (range_with_len 0 n)) same)
    ∙ ap (λ (o : Slot). count_by (λ v. has v o) (range_with_len 0 maps.span)) (sym at)

-- a free one has none,
pub none_counted : (maps : Maps) (k : ℕ) → slot_at maps k ≡ None → 0 ≡ count_by (λ v. has v (slot_at maps k)) (range_with_len 0 maps.span)
none_counted maps k at = sym (none_pass (λ v. has v (slot_at maps k)) 0 maps.span (λ v least. ap (has v) at))

-- and none has more than the span.
pub counted_within : (maps : Maps) (k n : ℕ) → n ≡ count_by (λ v. has v (slot_at maps k)) (range_with_len 0 maps.span) → n ≤ maps.span
counted_within maps k n is = let le = passing_le (λ v. has v (slot_at maps k)) 0 maps.span in omega (arith, is, le)
