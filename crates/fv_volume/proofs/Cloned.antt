-- A clone as it's made: its maps, and its label.
use Rattle.std.proofs.Common.{◌≡◌, ◌≢◌, ◌<◌, ◌≤◌, ◌*◌, ℕ, Bool, true, false, not, ◌&&◌, List, [], Option, Some, None, refl, sym, ap, subst, ◌∙◌, ⊎_elim, arith}
use Rattle.std.specs.Prelude.{IfSome, is_some, replicate}
use Rattle.std.specs.Option.{option_map}
use Rattle.std.proofs.lemmas.Bool.{cases_eq, false≢true}
use Rattle.std.proofs.lemmas.Bool.Decides.{nat_tests}
use Rattle.std.proofs.lemmas.List.Elements.{All-nil}
use Rattle.std.proofs.lemmas.List.{get_or-set_other}
use Rattle.fv_codec.specs.Blocks.{IsPointer, most_stamps}
use Rattle.fv_container.specs.Chains.{slot_count}
use Rattle.fv_image.specs.Views.{Head}
use Rattle.fv_image.specs.WholeMachine.{has_form}
use Rattle.fv_model.specs.declared.commands.Kind.{Kind}
use Rattle.fv_model.specs.Numbers.{greatest_span, is_size}
use Rattle.fv_model.specs.Space.{span_of}
use Rattle.fv_model.specs.Spelling.{is_name}
use Rattle.fv_charge.specs.declared.ledger.Ledger.{Ledger}
use Rattle.fv_volmap.specs.Slots.{Slot, Volume as Maps, empty_volume, has, slot_at, slot_of_base, stored_count, taken_in, with_slot}
use Rattle.fv_pool.specs.declared.rooted.Rooted.{Rooted}
use Rattle.fv_volume.specs.declared.state.Base.{Base}
use Rattle.fv_volume.specs.declared.state.VolumeState.{VolumeState}
use Rattle.fv_volume.specs.Cloning.{clone_head, AreMapsOn, IsCloneOf}
use Rattle.fv_volume.specs.Files.{IsLabelled}
use Rattle.fv_volume.specs.SnapRecords.{AreSayable, IsSayableSnap}
use Rattle.fv_volume.specs.States.{footing_in, head_in, ledger_of_empty}
use Rattle.fv_volume.proofs.Labels.{IsSayable, IsSayableBase, label_range}
use Rattle.fv_volume.proofs.MapSlots.{no_snap, one_empty}
use Rattle.fv_volume.proofs.SettledTables.{taken_some}
use Rattle.fv_volume.proofs.StayingMaps.{no_waits}

-- ---- the maps

module _ (from : Slot) (span : ℕ) (maps : Maps) (is : AreMapsOn from span maps) where
  pub maps_span : maps.span ≡ span
  maps_span = ap (λ (m : Maps). m.span) is.slots

  -- the active slot and that of the base have one map,
  pub active_is : slot_at maps 0 ≡ Some is.map
  active_is = ap (λ (m : Maps). slot_at m 0) is.slots

  pub base_is : slot_at maps slot_of_base ≡ Some is.map
  base_is = ap (λ (m : Maps). slot_at m slot_of_base) is.slots

  -- and the others are free.
  pub free_else : (k : ℕ) → k ≢ 0 → k ≢ slot_of_base → slot_at maps k ≡ None
  free_else k other apart =
      ap (λ (m : Maps). slot_at m k) is.slots
      ∙ get_or-set_other (with_slot (empty_volume span) slot_of_base (Some is.map)).slots 0 k (Some is.map) None other
      ∙ get_or-set_other (empty_volume span).slots slot_of_base k (Some is.map) None apart
      ∙ one_empty span k other

  pub active_has : (v : ℕ) → has v (slot_at maps 0) ≡ has v from
  active_has v = ap (has v) active_is ∙ is.members v

  pub base_has : (v : ℕ) → has v (slot_at maps slot_of_base) ≡ has v from
  base_has v = ap (has v) base_is ∙ is.members v

  -- So a number that some slot has that of the base has.
  pub has_both : (k v : ℕ) → has v (slot_at maps k) ≡ true → has v (slot_at maps slot_of_base) ≡ true
  has_both k v here = ⊎_elim
      (λ (first : k ≡ 0). base_has v ∙ sym (active_has v) ∙ ap (λ (n : ℕ). has v (slot_at maps n)) (sym first) ∙ here)
      (λ (other : k ≢ 0). ⊎_elim
      (λ (last : k ≡ slot_of_base). ap (λ (n : ℕ). has v (slot_at maps n)) (sym last) ∙ here)
      (λ (apart : k ≢ slot_of_base). absurd (false≢true (sym (ap (has v) (free_else k other apart)) ∙ here)))
      (cases_eq k slot_of_base))
      (cases_eq k 0)

  pub taken_base : (v : ℕ) → taken_in maps.slots v ≡ true → has v (slot_at maps slot_of_base) ≡ true
  taken_base v taken = let at = taken_some maps.slots v taken in has_both at.0 v at.1

-- ---- its label

module _ (y : VolumeState) (b : Base) (slot : ℕ) (name : List ℕ) (size : ℕ) (kind : Kind) (span : ℕ) (x : VolumeState) (is : IsCloneOf y b slot name size kind span x) where
  -- its numbers
  pub size_is : x.size ≡ size
  size_is = ap (λ (h : Head). h.size) is.head

  pub kind_is : x.kind ≡ kind
  kind_is = ap (λ (h : Head). h.kind) is.head

  pub most_is : x.most ≡ 2 * size
  most_is = ap (λ (h : Head). h.most) is.head

  pub span_is : x.span ≡ span
  span_is = ap (λ (h : Head). h.span) is.head

  pub now_is : x.now ≡ y.now
  now_is = ap (λ (h : Head). h.now) is.head

  pub known_is : x.known ≡ true
  known_is = ap (λ (h : Head). h.known) is.head

  pub called : x.name ≡ name
  called = ap (λ (h : Head). h.name) is.head

  module _ (whole : b.splitting ≡ false) (inside : b.parent < slot_count) (least : 1 ≤ b.slot) (stored : b.slot < stored_count) (few : b.table.levels ≤ 2) (pointer : IsPointer b.table.root)
      (stamps : y.now ≤ most_stamps) (sized : is_size size ≡ true) (ids above : ℕ) (wide : span ≡ span_of size ids above) (fits : span ≤ greatest_span) where
    no_snaps : (head_in x).snapshots ≡ []
    no_snaps = ap (λ (h : Head). h.snapshots) is.head

    sayable : AreSayable (head_in x)
    sayable = subst AreSayable (sym is.head) (record { slots = record { within = refl; rising = refl }; each = All-nil IsSayableSnap })

    based_on : (head_in x).base ≡ Some (footing_in b)
    based_on = ap (λ (h : Head). h.base) is.head

    can_say : IsSayable x
    can_say =
        let small : 1 ≤ size = grind (arith, nat_tests, sized) in
        let large : size ≤ 500000 = grind (arith, nat_tests, sized) in
        record {
          name = ap is_name called ∙ is.named;
          size_least = omega (arith, size_is, small);
          size_greatest = omega (arith, size_is, most_is, large);
          most_least = omega (arith, most_is, small);
          most_greatest = omega (arith, most_is, large);
          span_least = omega (arith, span_is, wide, small);
          span_greatest = omega (arith, span_is, fits);
          span_step = omega (arith, span_is, wide);
          now = omega (arith, now_is, stamps);
          levels = subst (λ (r : Rooted). r.levels ≤ 2) (sym is.active) few;
          root = subst (λ (r : Rooted). IsPointer r.root) (sym is.active) pointer;
          base = subst (λ o. IfSome o IsSayableBase) (sym based_on) (record { inside = inside; least = least; greatest = omega (arith, stored); whole = whole });
          snapshots = sayable;
        }

    -- It can be written.
    pub clone_labelled : IsLabelled slot x
    clone_labelled = record {
      slot_is = is.slot_is;
      form = ap has_form is.head ∙ ap (λ (t : Bool). not t) whole;
      span = omega (arith, span_is, fits);
      map = maps_span (slot_at y.map b.slot) span x.map is.maps ∙ sym span_is;
      snapshots = sayable;
      slots = record {
        each = λ k other apart. ap is_some (free_else (slot_at y.map b.slot) span x.map is.maps k other apart) ∙ sym (no_snap (head_in x) no_snaps k);
        base = ap is_some (base_is (slot_at y.map b.slot) span x.map is.maps) ∙ sym (ap is_some based_on);
      };
      waits = no_waits x is.rests.fresh;
      counts = ap (λ (l : Ledger). l.span) is.ledger ∙ sym span_is;
      levels = subst (λ (r : Rooted). r.levels ≤ 2) (sym is.active) few;
      named = ap is_name called ∙ is.named;
      label = label_range x can_say;
    }
