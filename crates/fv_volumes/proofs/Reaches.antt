-- The slots of a volume's maps against what its roots reach.
use Rattle.std.proofs.Common.{◌≡◌, ℕ, ◌==◌, Bool, true, false, Option, Some, None, refl, sym, subst, ◌∙◌, arith}
use Rattle.std.specs.Prelude.{find, if◌then◌else◌, map}
use Rattle.std.specs.Option.{option_map}
use Rattle.fv_bits.specs.Members.{is_member}
use Rattle.fv_tables.specs.Reached.{items, is_listed}
use Rattle.fv_image.specs.Mapped.{root_at}
use Rattle.fv_image.specs.Staying.{items_of, own_items}
use Rattle.fv_image.specs.Views.{Head, Rooted, Snap, View, volume_bit}
use Rattle.fv_image.specs.Volumes.{snap_at, standing_of}
use Rattle.fv_image.proofs.SameSeen.{left_listed, right_listed, snap_listed}
use Rattle.fv_volmap.specs.Slots.{Volume as Maps, active_of}
use Rattle.fv_volume.specs.declared.state.VolumeState.{VolumeState}
use Rattle.fv_volume.proofs.ActiveSlot.{active_has}
use Rattle.fv_volumes.specs.Housed.{ReachesAll}
use Rattle.fv_volume.specs.Loading.{HaveBits}
use Rattle.fv_volume.specs.States.{table_in}

-- the bits that are told of slot 0 are those of the active map
pub active_bits : (w : View) (s span : ℕ) (m : Maps) → HaveBits w s span m → (v : ℕ) → is_member (active_of m) v ≡ volume_bit w s span 0 v
active_bits w s span m bits v = sym (active_has m v) ∙ bits 0 v (omega arith)

-- so it has the numbers that the active table reaches
pub active_reaches : (w : View) (s : ℕ) (x : VolumeState) → ReachesAll w s x → (v : ℕ) → is_member (active_of x.map) v ≡ is_listed (items (standing_of w s (table_in x.active))) v
active_reaches w s x is v = sym (active_has x.map v) ∙ is 0 (table_in x.active) refl v

some_same : {X : Type 0} (a b : X) → Some a ≡ Some b → a ≡ b
some_same a b e = cc

none_some : {X : Type 0} (a : X) → ◌≡◌ {A = Option X} None (Some a) → ⊥
none_some a e = cc

-- what a root of a volume reaches is among what all of them do
pub root_listed : (w : View) (s : ℕ) (h : Head) (k : ℕ) (r : Rooted) → root_at h k ≡ Some r → (v : ℕ) → is_listed (items (standing_of w s r)) v ≡ true → is_listed (own_items w s h) v ≡ true
unfolding snap_at
root_listed w s h k r at v is = by (k == 0) at
  where
    rest : (o : Option Snap) → find (λ p. p.slot == k) h.snapshots ≡ o → option_map (λ (p : Snap). p.table) o ≡ Some r → is_listed (own_items w s h) v ≡ true
    rest None e at = absurd (none_some r at)
    rest (Some p) e at = right_listed (items (standing_of w s h.active)) (items_of w s (map (λ p. (p.slot, p.table)) h.snapshots)) v
        (snap_listed w s v k h.snapshots p e (subst (λ (t : Rooted). is_listed (items (standing_of w s t)) v ≡ true) (sym (some_same p.table r at)) is))

    by : (b : Bool) → (if b then Some h.active else option_map (λ (p : Snap). p.table) (find (λ p. p.slot == k) h.snapshots)) ≡ Some r → is_listed (own_items w s h) v ≡ true
    by true at = left_listed (items (standing_of w s h.active)) (items_of w s (map (λ p. (p.slot, p.table)) h.snapshots)) v
        (subst (λ (t : Rooted). is_listed (items (standing_of w s t)) v ≡ true) (sym (some_same h.active r at)) is)
    by false at = rest (find (λ p. p.slot == k) h.snapshots) refl at
