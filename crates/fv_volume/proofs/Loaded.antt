-- What is loaded from a label, as a volume.
use Rattle.std.proofs.Common.{◌≡◌, ℕ, Bool, nat_eq, map, subst, true, false, List, [], ◌∷◌, length, suc, ◌≢◌, ◌≤◌, Option, Some, None, refl, sym, ap, ◌∙◌, arith}
use Rattle.std.specs.Prelude.{IfSome, not, ◌==◌, ◌+◌, ◌-◌, ◌&&◌, take, replicate, if◌then◌else◌}
use Rattle.std.specs.Option.{option_map}
use Rattle.fv_image.specs.WholeMachine.{has_form}
use Rattle.fv_model.specs.Numbers.{most_snapshots}
use Rattle.fv_model.specs.declared.commands.Kind.{Kind}
use Rattle.fv_model.specs.Spelling.{is_name}
use Rattle.fv_codec.proofs.Numbers.{up_to-le}
use Rattle.fv_volume.specs.declared.state.Base.{Base}
use Rattle.fv_volume.specs.declared.state.Snap.{Snap as StateSnap}
use Rattle.fv_volume.specs.declared.state.VolumeState.{VolumeState}
use Rattle.fv_volmap.specs.Slots.{Volume as Maps, stored_count}
use Rattle.fv_volume.specs.Files.{HasSlotsOf, IsLabelled}
use Rattle.fv_volume.proofs.StayingMaps.{no_waits}
use Rattle.fv_volume.specs.States.{footing_in, head_in, snap_in, snaps_in}
use Rattle.std.proofs.lemmas.List.{length-map}
use Rattle.std.proofs.lemmas.Bool.Decides.{nat_tests}
use Rattle.fv_codec.specs.declared.label.Label.{Label}
use Rattle.fv_codec.specs.declared.label.SnapRecord.{SnapRecord}
use Rattle.fv_codec.specs.Blocks.{IsLabel, IsPointer, is_used}
use Rattle.fv_codec.specs.Fields.{up_to}
use Rattle.fv_image.specs.HintRules.{is_splitting}
use Rattle.fv_image.specs.Views.{Footing, Head, Snap, footing_of, head_of, kind_named, snaps_from}
use Rattle.fv_volume.specs.SnapRecords.{AreSayable}
use Rattle.fv_volume.proofs.Labels.{IsSayable, IsSayableBase, label_range}
use Rattle.fv_volume.proofs.SnapRecords.{label_sayable}
use Rattle.fv_volume.proofs.KeptSlots.{slots_read}
use Rattle.fv_volume.specs.SlotReads.{AreUsedBeside}
use Rattle.fv_image.proofs.LabelSlots.{label_slots}
use Rattle.fv_volume.specs.Loading.{form_in}

-- a label without the forms that can't be loaded
pub record IsBare (l : Label) : Type 0 where
  pub whole : (l.splitting == 0) ≡ true

pub bare : (l : Label) → form_in l ≡ None → IsBare l
unfolding form_in
bare l none = either (l.splitting == 0) refl none
  where
    either : (b : Bool) → (l.splitting == 0) ≡ b → if◌then◌else◌ {A = Option (ℕ × ℕ)} (not b) (Some (0, l.splitting)) None ≡ None → IsBare l
    either true is e = record { whole = is }
    either false is e = cc

-- it says no volume that is being split
is_whole : (l : Label) → IsBare l → is_splitting (footing_of l) ≡ false
is_whole l is = by (l.parent == 0)
  where
    by : (b : Bool) → is_splitting (if b then None else Some (record { parent = l.parent - 1; slot = l.base_slot; splitting = l.splitting == 1 })) ≡ false
    by true = refl
    by false = (let zero_is = is.whole in let same : (l.splitting == 1) ≡ false = grind (arith, nat_tests, zero_is) in same)

-- what it says that its volume stands on can be said again
base_sayable : (l : Label) → IsLabel l → IsBare l → IfSome (footing_of l) IsSayableBase
base_sayable l range is = by (l.parent == 0) refl
  where
    by : (b : Bool) → (l.parent == 0) ≡ b → IfSome (if b then None else Some (record { parent = l.parent - 1; slot = l.base_slot; splitting = l.splitting == 1 })) IsSayableBase
    by true e = tt
    by false e =
        let some : l.parent ≢ 0 = λ none. (let same : (l.parent == 0) ≡ true = grind (arith, nat_tests, none) in absurd (wrong (sym same ∙ e))) in
        let most = range.parent in
        let used : is_used l.parent ≡ true = ap not e in
        record {
          inside = omega (arith, some, most);
          least = subst (λ (t : Bool). up_to t 1 ≤ l.base_slot) used range.base_least;
          greatest = subst (λ (t : Bool). l.base_slot ≤ up_to t most_snapshots) used range.base_greatest;
          whole = (let zero_is = is.whole in let same : (l.splitting == 1) ≡ false = grind (arith, nat_tests, zero_is) in same);
        }
      where
        wrong : true ≡ false → ⊥
        wrong e = cc

-- such a label's head has a form that there is
pub head_bare : (l : Label) → IsLabel l → IsBare l → has_form (head_of l) ≡ true
unfolding head_of
head_bare l range is = (λ i. not (is_whole l is i))

-- the head of a volume that is made of such a label
abbrev pub head_with : Label → List ℕ → Kind → Option Base → List StateSnap → Head
head_with l name kind base snaps = record { name = name; kind = kind; size = l.size; most = l.most; span = l.span; now = l.now; base = option_map footing_in base; known = nat_eq l.known 1; active = record { levels = l.levels; root = l.root }; snapshots = map snap_in snaps }

pub head_from : (l : Label) (name : List ℕ) (kind : Kind) (base : Option Base) (snaps : List StateSnap) → name ≡ take l.name_length l.name → kind ≡ kind_named l.kind
    → option_map footing_in base ≡ footing_of l → map snap_in snaps ≡ snaps_from 1 l.snapshots → head_with l name kind base snaps ≡ head_of l
unfolding head_of
head_from l name kind base snaps called sort based said = λ i. record {
  name = called i;
  kind = sort i;
  size = l.size;
  most = l.most;
  span = l.span;
  now = l.now;
  base = based i;
  known = nat_eq l.known 1;
  active = record { levels = l.levels; root = l.root };
  snapshots = said i;
}

-- it can be said by a label again
sayable : (l : Label) → IsLabel l → IsBare l → length l.snapshots ≡ most_snapshots → (y : VolumeState) → head_in y ≡ head_of l → is_name y.name ≡ true → IsSayable y
unfolding head_of
sayable l range is long y head named =
    let size : y.size ≡ l.size = ap (λ h. h.size) head in
    let most : y.most ≡ l.most = ap (λ h. h.most) head in
    let span : y.span ≡ l.span = ap (λ h. h.span) head in
    let now : y.now ≡ l.now = ap (λ h. h.now) head in
    let levels : y.active.levels ≡ l.levels = ap (λ h. h.active.levels) head in
    let root : y.active.root ≡ l.root = ap (λ h. h.active.root) head in
    record {
      name = named;
      size_least = omega (arith, size, range.size_least);
      size_greatest = rw (size, most) range.size_greatest;
      most_least = omega (arith, most, range.most_least);
      most_greatest = omega (arith, most, range.most_greatest);
      span_least = omega (arith, span, range.span_least);
      span_greatest = omega (arith, span, range.span_greatest);
      span_step = rw span range.span_step;
      now = rw now range.now;
      levels = omega (arith, levels, range.levels);
      root = subst IsPointer (sym root) range.root;
      base = subst (λ (h : Head). IfSome h.base IsSayableBase) (sym head) (base_sayable l range is);
      snapshots = subst AreSayable (sym head) (label_sayable l range long);
    }

-- a volume with the head of such a label has its numbers and its name
pub labelled_from : (l : Label) → IsLabel l → length l.snapshots ≡ most_snapshots → form_in l ≡ None → (y : VolumeState) (slot : ℕ) → y.slot ≡ slot → head_in y ≡ head_of l → y.ledger.span ≡ l.span → is_name y.name ≡ true → y.map.span ≡ y.span → HasSlotsOf (head_in y) y.map → y.fresh ≡ replicate stored_count false → IsLabelled slot y
unfolding head_of
labelled_from l range long none y slot at head ledger named map slots settled =
    let same : y.span ≡ l.span = ap (λ h. h.span) head in
    let levels : y.active.levels ≡ l.levels = ap (λ h. h.active.levels) head in
    record {
      slot_is = at;
      form = ap has_form head ∙ head_bare l range (bare l none);
      span = omega (arith, same, range.span_greatest);
      map = map;
      snapshots = subst AreSayable (sym head) (label_sayable l range long);
      slots = slots;
      waits = no_waits y settled;
      counts = ledger ∙ sym same;
      levels = omega (arith, levels, range.levels);
      named = named;
      label = label_range y (sayable l range (bare l none) long y head named);
    }

-- records say at most as many snapshots as they are
few_said : (records : List SnapRecord) (j : ℕ) → length (snaps_from j records) ≤ length records
unfolding snaps_from
few_said [] j = omega arith
few_said (r ∷ rs) j = so (r.name_length == 0) (few_said rs (j + 1))
  where
    so : (b : Bool) → length (snaps_from (j + 1) rs) ≤ length rs
        → length (if b then snaps_from (j + 1) rs else record { slot = j; name = take r.name_length r.name; table = record { levels = r.levels; root = r.root } } ∷ snaps_from (j + 1) rs) ≤ suc (length rs)
    so true rest = omega (arith, rest)
    so false rest = omega (arith, rest)

pub few_snaps : (l : Label) (snaps : List StateSnap) → length l.snapshots ≡ most_snapshots → snaps_in snaps ≡ snaps_from 1 l.snapshots → length snaps ≤ most_snapshots
few_snaps l snaps long said =
    let same : length (snaps_in snaps) ≡ length snaps = length-map snaps snap_in in
    let equal : length (snaps_in snaps) ≡ length (snaps_from 1 l.snapshots) = ap (λ (ps : List Snap). length ps) said in
    let few = few_said l.snapshots 1 in
    omega (arith, same, equal, few, long)

-- the slots that were read are those of the label's snapshots, and that of its base is used where it has one
pub slots_loaded : (l : Label) (y : VolumeState) (snaps : List StateSnap) (m : Maps) → length l.snapshots ≡ most_snapshots → snaps_in snaps ≡ snaps_from 1 l.snapshots → head_in y ≡ head_of l → y.map ≡ m
    → AreUsedBeside snaps (footing_of l) m → HasSlotsOf (head_in y) y.map
unfolding head_of
slots_loaded l y snaps m long said head same used =
    subst (λ (h : Head). HasSlotsOf h y.map) (sym head) (subst (HasSlotsOf (head_of l)) (sym same) (slots_read (head_of l) snaps m said (label_slots l long) used))
