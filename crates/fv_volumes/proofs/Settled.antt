-- Volumes that are settled: what each keeps, and that they stay in order.
use Rattle.std.proofs.Common.{◌≡◌, ◌==◌, ℕ, Bool, true, false, cond, List, length, get_or, refl, sym, ap, subst, ◌∙◌}
use Rattle.std.specs.Prelude.{Option, Some, None, IfSome}
use Rattle.std.specs.List.{list_any}
use Rattle.std.specs.Option.{option_map}
use Rattle.fv_container.specs.Mapped.{Mapped}
use Rattle.fv_container.specs.Chains.{Slots, container_at}
use Rattle.fv_volume.specs.declared.state.VolumeState.{VolumeState}
use Rattle.fv_volume.specs.Files.{AreNamed, HasOwnSlots, IsLabelled}
use Rattle.fv_volumes.specs.Housed.{AreHoused, as_written, settled_as, settled_at}
use Rattle.fv_volume.specs.Labels.{label_said}
use Rattle.fv_volume.specs.Loading.{Houses}
use Rattle.fv_volume.specs.States.{States, head_in, parent_in, state_at}
use Rattle.fv_volume.proofs.StayingMaps.{no_waits}

-- ---- one volume

-- what holds of a volume as it was written where it changed, and as it is where it didn't, holds of it settled
pub settled_has : (P : VolumeState → Type 0) (x : VolumeState) (label : ℕ) → (x.changed ≡ true → P (as_written x label)) → (x.changed ≡ false → P x) → P (settled_as label x)
settled_has P x label written same = so x.changed refl
  where
    so : (t : Bool) → x.changed ≡ t → P (cond x.changed (as_written x label) x)
    so true e = subst (λ (t : Bool). P (cond t (as_written x label) x)) (sym e) (written e)
    so false e = subst (λ (t : Bool). P (cond t (as_written x label) x)) (sym e) (same e)

-- and the other way
pub settled_back : (P : VolumeState → Type 0) (x : VolumeState) (label : ℕ) → (P (as_written x label) → P x) → P (settled_as label x) → P x
settled_back P x label back = so x.changed
  where
    so : (t : Bool) → P (cond t (as_written x label) x) → P x
    so true is = back is
    so false is = is

-- what its writing leaves, stays
pub settled_keeps : {T : Type 0} (f : VolumeState → T) (x : VolumeState) (label : ℕ) → f (as_written x label) ≡ f x → f (settled_as label x) ≡ f x
settled_keeps f x label same = settled_has (λ (y : VolumeState). f y ≡ f x) x label (λ e. same) (λ e. refl)

-- a volume without a change is settled as it is,
pub settled_same : (o : Option VolumeState) (label : ℕ) → IfSome o (λ x. x.changed ≡ false) → option_map (settled_as label) o ≡ o
settled_same None label is = refl
settled_same (Some x) label is = ap (λ (t : Bool). Some (cond t (as_written x label) x)) is

-- and one that changed as it was written
pub settled_written : (o : Option VolumeState) (x : VolumeState) (label : ℕ) → o ≡ Some x → x.changed ≡ true → option_map (settled_as label) o ≡ Some (as_written x label)
settled_written o x label there changed = ap (option_map (settled_as label)) there ∙ ap (λ (t : Bool). Some (cond t (as_written x label) x)) changed

-- none has a change then
pub is_settled : (o : Option VolumeState) (label : ℕ) → IfSome (option_map (settled_as label) o) (λ x. x.changed ≡ false)
is_settled None label = tt
is_settled (Some x) label = settled_has (λ (y : VolumeState). y.changed ≡ false) x label (λ e. refl) (λ e. e)

-- each keeps its head
pub same_head : (o : Option VolumeState) (label : ℕ) → option_map head_in (option_map (settled_as label) o) ≡ option_map head_in o
same_head None label = refl
same_head (Some x) label = ap Some (settled_keeps head_in x label refl)

-- its label can be written as before, at another place, whether or not it changed, and whichever maps of its snapshots wait
pub relabelled : (s : ℕ) (x : VolumeState) (label : ℕ) (changed : Bool) (fresh : List Bool) → ((k : ℕ) → get_or fresh k false ≡ true → list_any (λ p. p.slot == k) (head_in x).snapshots ≡ true)
    → IsLabelled s x → IsLabelled s (record x { label = label; changed = changed; fresh = fresh })
unfolding label_said
relabelled s x label changed fresh waits is = record { slot_is = is.slot_is; form = is.form; span = is.span; map = is.map; snapshots = is.snapshots; slots = is.slots; waits = waits; counts = is.counts; levels = is.levels; named = is.named; label = is.label }

pub still_labelled : (s : ℕ) (x : VolumeState) (label : ℕ) → IsLabelled s x → IsLabelled s (as_written x label)
still_labelled s x label is = relabelled s x label false (as_written x label).fresh (no_waits (as_written x label) refl) is

settled_labelled : (s : ℕ) (o : Option VolumeState) (label : ℕ) → IfSome o (IsLabelled s) → IfSome (option_map (settled_as label) o) (IsLabelled s)
settled_labelled s None label is = tt
settled_labelled s (Some x) label is = settled_has (IsLabelled s) x label (λ e. still_labelled s x label is) (λ e. is)

-- its snapshots keep their slots
pub settled_slots : (s : ℕ) (o : Option VolumeState) (label : ℕ) → IfSome o (IsLabelled s) → IfSome (option_map (settled_as label) o) HasOwnSlots
settled_slots s None label is = tt
settled_slots s (Some x) label is = settled_has HasOwnSlots x label (λ e. (is.slots, is.snapshots.slots)) (λ e. (is.slots, is.snapshots.slots))

-- its maps keep its span
pub settled_span : (s : ℕ) (o : Option VolumeState) (label : ℕ) → IfSome o (IsLabelled s) → IfSome (option_map (settled_as label) o) (λ x. x.map.span ≡ x.span)
settled_span s None label is = tt
settled_span s (Some x) label is = settled_has (λ (y : VolumeState). y.map.span ≡ y.span) x label (λ e. is.map) (λ e. is.map)

-- and it keeps its container and its parent
settled_houses : (o : Option VolumeState) (label : ℕ) (c : Option Mapped) → Houses o c → Houses (option_map (settled_as label) o) c
settled_houses None label c is = tt
settled_houses (Some x) label None is = absurd is
settled_houses (Some x) label (Some map) is = settled_has (λ (y : VolumeState). Houses (Some y) (Some map)) x label (λ e. is) (λ e. is)

settled_parent : (o : Option VolumeState) (label : ℕ) → parent_in (option_map (settled_as label) o) ≡ parent_in o
settled_parent None label = refl
settled_parent (Some x) label = settled_keeps (λ (y : VolumeState). parent_in (Some y)) x label refl

settled_as_it_was : (o : Option VolumeState) (label : ℕ) → IfSome o (λ x. x.changed ≡ false → option_map (settled_as label) o ≡ Some x)
settled_as_it_was None label = tt
settled_as_it_was (Some x) label = λ unchanged. settled_same (Some x) label unchanged

-- ---- all volumes

module _ (states stay : States) (labels : List ℕ) (settled : (s : ℕ) → state_at stay s ≡ settled_at labels states s) where
  pub housed_after : (containers : Slots) → length stay ≡ 64 → AreHoused containers states → AreHoused containers stay
  housed_after containers long is = record {
    long = long;
    volumes = λ s. subst (λ (o : Option VolumeState). IfSome o (IsLabelled s)) (sym (settled s)) (settled_labelled s (state_at states s) (get_or labels s 0) (is.volumes s));
    each = λ s. subst (λ (o : Option VolumeState). Houses o (container_at containers s)) (sym (settled s)) (settled_houses (state_at states s) (get_or labels s 0) (container_at containers s) (is.each s));
    parents = λ s. is.parents s ∙ sym (ap parent_in (settled s) ∙ settled_parent (state_at states s) (get_or labels s 0));
  }

  pub heads_stay : (s : ℕ) → option_map head_in (state_at stay s) ≡ option_map head_in (state_at states s)
  heads_stay s = ap (option_map head_in) (settled s) ∙ same_head (state_at states s) (get_or labels s 0)

  pub same_stay : (s : ℕ) → IfSome (state_at states s) (λ x. x.changed ≡ false → state_at stay s ≡ Some x)
  same_stay s = subst (λ (new : Option VolumeState). IfSome (state_at states s) (λ x. x.changed ≡ false → new ≡ Some x)) (sym (settled s)) (settled_as_it_was (state_at states s) (get_or labels s 0))

  pub unchanged_stay : (s : ℕ) → IfSome (state_at stay s) (λ x. x.changed ≡ false)
  unchanged_stay s = subst (λ (o : Option VolumeState). IfSome o (λ x. x.changed ≡ false)) (sym (settled s)) (is_settled (state_at states s) (get_or labels s 0))

  -- names are those of the heads
  pub names_stay : AreNamed states → AreNamed stay
  names_stay named s k = subst (λ (o : Option VolumeState). IfSome o (λ x. IfSome (state_at stay k) (λ y. x.name ≡ y.name → s ≡ k))) (sym (settled s)) (subst (λ (p : Option VolumeState). IfSome (settled_at labels states s) (λ x. IfSome p (λ y. x.name ≡ y.name → s ≡ k))) (sym (settled k)) (by (state_at states s) (state_at states k) (named s k)))
    where
      named_as : (x : VolumeState) (label : ℕ) → (settled_as label x).name ≡ x.name
      named_as x label = settled_keeps (λ (y : VolumeState). y.name) x label refl

      by : (o p : Option VolumeState) → IfSome o (λ x. IfSome p (λ y. x.name ≡ y.name → s ≡ k)) → IfSome (option_map (settled_as (get_or labels s 0)) o) (λ x. IfSome (option_map (settled_as (get_or labels k 0)) p) (λ y. x.name ≡ y.name → s ≡ k))
      by None p is = tt
      by (Some x) None is = tt
      by (Some x) (Some y) is = λ same. is (sym (named_as x (get_or labels s 0)) ∙ same ∙ named_as y (get_or labels k 0))
