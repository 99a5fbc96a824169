-- A mirror as it is made: its maps, its numbers, and its label.
use Rattle.std.proofs.Common.{◌≡◌, ◌≢◌, ◌≤◌, ◌*◌, ℕ, true, List, [], Some, None, refl, sym, ap, subst, ◌∙◌, ⊎_elim, arith}
use Rattle.std.specs.Prelude.{IfSome}
use Rattle.std.proofs.lemmas.Bool.{cases_eq, false≢true}
use Rattle.std.proofs.lemmas.Bool.Decides.{nat_tests}
use Rattle.std.proofs.lemmas.List.Elements.{All-nil}
use Rattle.std.proofs.lemmas.List.{get_or-set_other}
use Rattle.fv_codec.specs.Blocks.{IsPointer, most_stamps}
use Rattle.fv_image.specs.Views.{Head}
use Rattle.fv_image.specs.WholeMachine.{has_form}
use Rattle.fv_model.specs.declared.commands.Kind.{Kind}
use Rattle.fv_model.specs.Numbers.{greatest_span, is_size}
use Rattle.fv_model.specs.Space.{span_of}
use Rattle.fv_model.specs.Spelling.{is_name}
use Rattle.fv_charge.specs.declared.ledger.Ledger.{Ledger}
use Rattle.fv_volmap.specs.Slots.{Slot, Volume as Maps, empty_volume, has, slot_at, taken_in}
use Rattle.fv_pool.specs.declared.rooted.Rooted.{Rooted}
use Rattle.fv_volume.specs.declared.state.Base.{Base}
use Rattle.fv_volume.specs.declared.state.VolumeState.{VolumeState}
use Rattle.fv_volume.specs.Files.{IsLabelled, IsOneMap}
use Rattle.fv_volume.specs.Mirroring.{AreMapsOf, IsMirrorOf, mirror_table}
use Rattle.fv_volume.specs.SnapRecords.{AreSayable, IsSayableSnap}
use Rattle.fv_volume.specs.States.{head_in}
use Rattle.fv_volume.proofs.Labels.{IsSayable, IsSayableBase, label_range}
use Rattle.fv_volume.proofs.MapSlots.{one_empty, slots_of_one}
use Rattle.fv_volume.proofs.SettledTables.{taken_some}
use Rattle.fv_volume.proofs.StayingMaps.{no_waits}

-- ---- the maps

module _ (from : Slot) (span : ℕ) (maps : Maps) (is : AreMapsOf from span maps) where
  pub maps_span : maps.span ≡ span
  maps_span = ap (λ (m : Maps). m.span) is.slots

  -- The active slot is used,
  pub active_is : slot_at maps 0 ≡ Some is.map
  active_is = ap (λ (m : Maps). slot_at m 0) is.slots

  -- and the others are free.
  pub one_map : IsOneMap maps
  one_map k other = ap (λ (m : Maps). slot_at m k) is.slots ∙ get_or-set_other (empty_volume span).slots 0 k (Some is.map) None other ∙ one_empty span k other

  pub active_has : (v : ℕ) → has v (slot_at maps 0) ≡ has v from
  active_has v = ap (has v) active_is ∙ is.members v

  -- So what some slot has the active one has.
  pub taken_active : (v : ℕ) → taken_in maps.slots v ≡ true → has v from ≡ true
  taken_active v taken = let at = taken_some maps.slots v taken in ⊎_elim
      (λ (first : at.0 ≡ 0). sym (active_has v) ∙ ap (λ (n : ℕ). has v (slot_at maps n)) (sym first) ∙ at.1)
      (λ (other : at.0 ≢ 0). absurd (false≢true (sym (ap (has v) (one_map at.0 other)) ∙ at.1)))
      (cases_eq at.0 0)

-- ---- its label

module _ (y : VolumeState) (b : Base) (count slot : ℕ) (name : List ℕ) (size : ℕ) (kind : Kind) (span : ℕ) (x : VolumeState) (is : IsMirrorOf y b count slot name size kind span x) where
  pub called : x.name ≡ name
  called = ap (λ (h : Head). h.name) is.head

  module _ (few : b.table.levels ≤ 2) (pointer : IsPointer b.table.root) (stamps : y.now ≤ most_stamps) (sized : is_size size ≡ true) (above : ℕ) (wide : span ≡ span_of size 0 above) (fits : span ≤ greatest_span) where
    no_snaps : (head_in x).snapshots ≡ []
    no_snaps = ap (λ (h : Head). h.snapshots) is.head

    no_base : (head_in x).base ≡ None
    no_base = ap (λ (h : Head). h.base) is.head

    sayable : AreSayable (head_in x)
    sayable = subst AreSayable (sym is.head) (record { slots = record { within = refl; rising = refl }; each = All-nil IsSayableSnap })

    no_place : IsPointer (mirror_table b.table).root
    no_place = record { vvbn = pointer.vvbn; pvbn = omega arith; stamp = pointer.stamp }

    can_say : IsSayable x
    can_say =
        let size_is : x.size ≡ size = ap (λ (h : Head). h.size) is.head in
        let most_is : x.most ≡ 2 * size = ap (λ (h : Head). h.most) is.head in
        let span_is : x.span ≡ span = ap (λ (h : Head). h.span) is.head in
        let now_is : x.now ≡ y.now = ap (λ (h : Head). h.now) is.head in
        let small : 1 ≤ size = grind (arith, nat_tests, sized) in
        let large : size ≤ 500000 = grind (arith, nat_tests, sized) in
        record {
          name = ap is_name called ∙ is.named;
          size_least = omega (arith, size_is, small);
          size_greatest = omega (arith, size_is, most_is, large);
          most_least = omega (arith, most_is, small);
          most_greatest = omega (arith, most_is, large);
          span_least = omega (arith, span_is, wide, small);
          span_greatest = omega (arith, span_is, fits);
          span_step = omega (arith, span_is, wide);
          now = omega (arith, now_is, stamps);
          levels = subst (λ (r : Rooted). r.levels ≤ 2) (sym is.active) few;
          root = subst (λ (r : Rooted). IsPointer r.root) (sym is.active) no_place;
          base = subst (λ o. IfSome o IsSayableBase) (sym no_base) tt;
          snapshots = sayable;
        }

    -- It can be written.
    pub mirror_labelled : IsLabelled slot x
    mirror_labelled = record {
      slot_is = is.slot_is;
      form = ap has_form is.head;
      span = (let span_is : x.span ≡ span = ap (λ (h : Head). h.span) is.head in omega (arith, span_is, fits));
      map = maps_span (slot_at y.map b.slot) span x.map is.maps ∙ sym (ap (λ (h : Head). h.span) is.head);
      snapshots = sayable;
      slots = slots_of_one (head_in x) x.map no_base no_snaps (one_map (slot_at y.map b.slot) span x.map is.maps);
      waits = no_waits x is.rests.fresh;
      counts = ap (λ (l : Ledger). l.span) is.ledger ∙ sym (ap (λ (h : Head). h.span) is.head);
      levels = subst (λ (r : Rooted). r.levels ≤ 2) (sym is.active) few;
      named = ap is_name called ∙ is.named;
      label = label_range x can_say;
    }
