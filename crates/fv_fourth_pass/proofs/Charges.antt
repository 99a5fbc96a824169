-- What is counted of sets is what a volume is charged for and uses.
use Rattle.std.proofs.Common.{◌≡◌, ℕ, ◌+◌, ◌-◌, ◌*◌, Bool, true, false, not, List, [], ◌∷◌, length, refl, sym, ap, subst, ◌∙◌, arith}
use Rattle.std.specs.Prelude.{Option, Some, None, ◌&&◌, ◌==◌, cond, count_by, nat_le, if◌then◌else◌}
use Rattle.std.proofs.lemmas.List.Sums.{sum_by-cons}
use Rattle.fv_bits.specs.Members.{is_member, count_between, count_of}
use Rattle.fv_bits.proofs.Counts.{passing, passing_same}
use Rattle.fv_codec.specs.declared.label.SnapRecord.{SnapRecord}
use Rattle.fv_codec.specs.declared.label.Label.{Label}
use Rattle.fv_model.specs.Space.{map_blocks, charge, use_of}
use Rattle.fv_charge.specs.Counted.{is_apart, count_apart, charge_counted}
use Rattle.fv_image.specs.Views.{Head, View, head_of, snaps_from}
use Rattle.fv_image.specs.Volumes.{volume_told}
use Rattle.fv_image.proofs.CountedCharge.{charge_by_sets}
use Rattle.fv_faults.specs.declared.lines.Lines.{Lines}
use Rattle.fv_faults.specs.Adding.{Adds}
use Rattle.fv_faults.specs.Lines.{line, unless}
use Rattle.fv_faults.specs.FourthPass.{use_lines}
use Rattle.fv_first_pass.specs.Records.{snap_in}
use Rattle.fv_fourth_pass.specs.Used.{is_used, HasSets}

-- the records that name snapshots
snaps_counted : (j : ℕ) (rs : List SnapRecord) → length (snaps_from j rs) ≡ count_by is_used rs
unfolding snaps_from
snaps_counted j [] = refl
snaps_counted j (r ∷ rs) = so (snaps_counted (j + 1) rs) (r.name_length == 0) ∙ sym (sum_by-cons (λ r. cond (is_used r) 1 0) r rs)
  where
    so : length (snaps_from (j + 1) rs) ≡ count_by is_used rs → (b : Bool)
        → length (if b then snaps_from (j + 1) rs else snap_in j r ∷ snaps_from (j + 1) rs) ≡ cond (not b) 1 0 + count_by is_used rs
    so later true = let e : length (snaps_from (j + 1) rs) ≡ 0 + count_by is_used rs = omega (arith, later) in e
    so later false = let e : length (snap_in j r ∷ snaps_from (j + 1) rs) ≡ 1 + count_by is_used rs = omega (arith, later) in e

-- ---- a set without another

and_true : (b : Bool) → b ≡ (b && not false)
and_true true = refl
and_true false = refl

members : (held : List Bool) → count_of held ≡ passing (is_member held) 0 (length held)
unfolding count_of count_between
members held = ap (λ (n : ℕ). passing (is_member held) 0 n) (let e : length held - 0 ≡ length held = omega arith in e)

module _ (w : View) (s : ℕ) (h : Head) (held : List Bool) (long : length held ≡ h.span) where
  charged : (out : Option (List Bool)) → HasSets w s h held out → charge_counted held out (length h.snapshots) h.span ≡ charge (volume_told w s h)
  unfolding count_apart
  charged None sets =
      let counted = charge_by_sets w s h sets.low sets.head sets.numbers sets.parents sets.names sets.ids sets.ranges (is_member held) (λ v. false) sets.reached sets.based in
      let all : passing (is_member held) 0 (length held) ≡ passing (λ v. is_member held v && not false) 0 h.span = ap (passing (is_member held) 0) long ∙ passing_same (is_member held) (λ v. is_member held v && not false) 0 0 h.span (λ j lt. and_true (is_member held (0 + j))) in
      ap (λ (n : ℕ). n + map_blocks h.span * length h.snapshots) (members held ∙ all) ∙ sym counted
  charged (Some set) sets =
      ap (λ (n : ℕ). passing (is_apart held set) 0 n + map_blocks h.span * length h.snapshots) long
      ∙ sym (charge_by_sets w s h sets.low sets.head sets.numbers sets.parents sets.names sets.ids sets.ranges (is_member held) (is_member set) sets.reached sets.based)

-- ---- of a label

module _ (w : View) (s : ℕ) (l : Label) where
  pub charge_is : (held : List Bool) (out : Option (List Bool)) → length held ≡ l.span → HasSets w s (head_of l) held out
      → charge_counted held out (count_by is_used l.snapshots) l.span ≡ charge (volume_told w s (head_of l))
  unfolding head_of
  charge_is held out long sets = ap (λ n. charge_counted held out n l.span) (sym (snaps_counted 1 l.snapshots)) ∙ charged w s (head_of l) held long out sets

  pub use_added : (used place : ℕ) (old new : Lines) → used ≡ use_of (volume_told w s (head_of l)) → Adds (unless (nat_le used l.size) (line 14 place l.size used)) old new → Adds (use_lines w s place (head_of l)) old new
  unfolding use_lines head_of
  use_added used place old new is adds = subst (λ n. Adds (unless (nat_le n l.size) (line 14 place l.size n)) old new) is adds
