-- A clone that was made in a session is held as the other volumes are, and these stay; it stands for the machine's new volume.
use Rattle.std.proofs.Common.{◌≡◌, ◌≤◌, ◌+◌, ◌*◌, ℕ, List, Option, Some, None, refl, sym, ap, subst, ◌∙◌, arith}
use Rattle.std.specs.Prelude.{IfSome}
use Rattle.std.specs.FinMap as fin
use Rattle.std.specs.FinSet as set
use Rattle.std.proofs.lemmas.List.{length-replicate}
use Rattle.fv_disk.specs.Shown.{Shown as Disk}
use Rattle.fv_bits.specs.Members.{is_member}
use Rattle.fv_charge.specs.declared.ledger.Ledger.{Ledger}
use Rattle.fv_charge.specs.Ledgers.{committed}
use Rattle.fv_container.specs.Paged.{empty_paged}
use Rattle.fv_container.proofs.Clean.{clean_none}
use Rattle.fv_image.specs.Views.{entry_count}
use Rattle.fv_laws.proofs.Lists.{In, in_right}
use Rattle.fv_model.specs.declared.commands.Kind.{Kind}
use Rattle.fv_model.specs.Effects.{clone_of}
use Rattle.fv_model.specs.Machines.{capacity}
use Rattle.fv_model.specs.Places.{ids_of}
use Rattle.fv_model.specs.Space.{base_ids, span_of}
use Rattle.fv_model.specs.Tables.{Table}
use Rattle.fv_model.specs.Volumes.{Base as ModelBase}
use Rattle.fv_root.specs.Formatted.{IsSize}
use Rattle.fv_store.specs.Held.{StandsOn}
use Rattle.fv_tables.specs.Told.{table_told}
use Rattle.fv_pool.specs.declared.pool.Pool.{Pool}
use Rattle.fv_volume.specs.declared.state.Snap.{Snap}
use Rattle.fv_volume.specs.declared.state.VolumeState.{VolumeState}
use Rattle.fv_volume.specs.Files.{AreNamed}
use Rattle.fv_volume.specs.Held.{IsHeldIn}
use Rattle.fv_volume.specs.OneVolume.{base_table, blocks_in, standing_kept, tables_of, volume_for, IsBooked, IsReady, IsStanding}
use Rattle.fv_volume.specs.Placing.{StaysBeside}
use Rattle.fv_volume.specs.Slots.{sum_of}
use Rattle.fv_volume.specs.States.{States, ledger_of_empty, state_at}
use Rattle.fv_volume.proofs.Cloned.{called, kind_is, known_is, most_is, size_is}
use Rattle.fv_volume.proofs.NewClone.{based_on, new_led, new_standing, new_told, new_well}
use Rattle.fv_volumes.specs.Footing.{AreFooted}
use Rattle.fv_volumes.specs.Housed.{AreHoused}
use Rattle.fv_volumes.proofs.Added.{clean_put, commits_put, container_elsewhere, each_put, entry_held, held_still, is_other, named_put, parent_elsewhere, ready_put, IsPut}
use Rattle.fv_volumes.proofs.Beside.{beside_off, free_off}
use Rattle.fv_clone.specs.declared.admitting.Admitted.{Admitted}
use Rattle.fv_clone.specs.Creating.{IsCloned}
use Rattle.fv_clone.proofs.Placed.{base_called, base_named, home, home_there, made, made_labelled, made_span, new_clone, of_asked, put, source}
use Rattle.fv_clone.proofs.Source.{snap_there}

module _ (disk : Disk) (pool : Pool) (states : States) (name : List ℕ) (size : ℕ) (kind : Kind) (a : Admitted) (new : States) (left : Pool) (cloned : IsCloned states pool name size kind a new left)
    (housed : AreHoused pool.containers states) (footed : AreFooted states pool.containers) (each : (s : ℕ) → IfSome (state_at states s) (IsHeldIn disk pool s)) where
  abbrev x : VolumeState
  x = made pool states name size kind a new left cloned housed

  abbrev y : VolumeState
  y = home pool states name size kind a new left cloned housed

  abbrev q : Snap
  q = source pool states name size kind a new left cloned housed

  abbrev its : IsPut states pool.containers a.slot x (empty_paged (entry_count a.span)) (Some a.base.parent) new left.containers
  its = put pool states name size kind a new left cloned housed

  one : (s : ℕ) (z : VolumeState) → state_at states s ≡ Some z → IsHeldIn disk pool s z
  one s z there = subst (λ (o : Option VolumeState). IfSome o (IsHeldIn disk pool s)) there (each s)

  y_there : state_at states a.base.parent ≡ Some y
  y_there = home_there pool states name size kind a new left cloned housed

  y_held : IsHeldIn disk pool a.base.parent y
  y_held = one a.base.parent y y_there

  -- ---- the other volumes

  -- Each of them stands for what it stood for,
  pub stays : (s : ℕ) (z : VolumeState) → state_at states s ≡ Some z → StaysBeside disk pool disk left z
  stays s z there = beside_off disk disk pool left states a.slot (free_off states pool.containers housed footed a.slot cloned.admits.free.free) (container_elsewhere its) (parent_elsewhere its) refl refl
      z (ap (state_at states) at ∙ there) (λ e. is_other its s z there (sym at ∙ e))
      (λ k v w e other here own. ap (λ (p : Pool). fin.get p.kept e.pvbn) cloned.holes)
      (λ k v w e other here own. ap (λ (p : Pool). is_member p.map.next e.pvbn) cloned.holes ∙ entry_held disk pool k w (one k w here) v e own)
      (clean_put its disk.reads (clean_none disk.reads (entry_count a.span)) y_held.stands.told.2) (one s z there).stands
    where
      at : z.slot ≡ s
      at = (one s z there).slot

  pub volume_stays : (s : ℕ) (z : VolumeState) → state_at states s ≡ Some z → volume_for disk left z ≡ volume_for disk pool z
  volume_stays s z there = (stays s z there).volume

  store_is : StandsOn disk left.store.pairs
  store_is = subst (λ (p : Pool). StandsOn disk p.store.pairs) (sym cloned.holes) y_held.ready.lent.stands

  blocks_are : IsSize left.found.blocks
  blocks_are = subst (λ (p : Pool). IsSize p.found.blocks) (sym cloned.holes) y_held.ready.blocks

  -- ---- the clone

  y_now : IsStanding disk left y
  y_now = (stays a.base.parent y y_there).standing

  q_there : In q (tables_of y)
  q_there = in_right q (base_table y.base) y.snapshots (snap_there (of_asked pool states name size kind a new left cloned housed))

  abbrev table : Table
  table = table_told (standing_kept (blocks_in disk left y) q)

  pub made_stands : IsStanding disk left x
  made_stands = new_standing disk left x y q a.base (new_clone pool states name size kind a new left cloned housed footed) y_now q_there

  numbers_are : x.ledger ≡ ledger_of_empty size kind a.span
  numbers_are = cloned.is.ledger

  x_slot : x.slot ≡ a.slot
  x_slot = cloned.is.slot_is

  x_span : x.span ≡ a.span
  x_span = made_span pool states name size kind a new left cloned housed

  x_size : x.size ≡ size
  x_size = size_is y a.base a.slot name size kind a.span x cloned.is

  x_kind : x.kind ≡ kind
  x_kind = kind_is y a.base a.slot name size kind a.span x cloned.is

  x_most : x.most ≡ 2 * size
  x_most = most_is y a.base a.slot name size kind a.span x cloned.is

  made_booked : IsBooked x
  made_booked = record {
    size = ap (λ (l : Ledger). l.size) numbers_are ∙ sym x_size;
    kind = ap (λ (l : Ledger). l.kind) numbers_are ∙ sym x_kind;
    span = ap (λ (l : Ledger). l.span) numbers_are ∙ sym x_span;
    need = ap (λ (l : Ledger). l.need) numbers_are;
    charge = (let none : x.ledger.charge ≡ 0 = ap (λ (l : Ledger). l.charge) numbers_are in omega (arith, none));
  }

  pub made_ready : IsReady disk left x
  made_ready = ready_put disk disk pool left its store_is blocks_are (made_labelled pool states name size kind a new left cloned housed) made_booked cloned.is.changed
      (length-replicate (entry_count a.span) None ∙ ap entry_count (sym x_span))

  module _ (span_told : a.span ≡ span_of size (set.len (ids_of table)) y.span) where
    wide_now : x.most + (set.len (base_ids (volume_for disk left x).base) + 256) ≤ x.span
    wide_now =
        let base : set.len (base_ids (volume_for disk left x).base) ≡ set.len (ids_of table) = ap (λ (o : Option ModelBase). set.len (base_ids o)) (based_on disk left x y q a.base (new_clone pool states name size kind a new left cloned housed footed) y_now q_there) in
        omega (arith, base, x_most, x_span, span_told)

    -- It is held as the others are,
    pub made_held : IsHeldIn disk left a.slot x
    made_held = record {
      slot = x_slot;
      ready = made_ready;
      stands = made_stands;
      led = new_led disk left x y q a.base (new_clone pool states name size kind a new left cloned housed footed) y_now q_there;
      well = new_well disk left x y q a.base (new_clone pool states name size kind a new left cloned housed footed) y_now q_there;
      wide = wide_now;
      within = (let none : x.ledger.charge ≡ 0 = ap (λ (l : Ledger). l.charge) numbers_are in omega (arith, none));
    }

    -- and is told as the machine's clone.
    pub made_told : volume_for disk left x ≡ clone_of a.base.name (volume_for disk pool y) a.base.snapshot table size kind
    made_told =
        new_told disk left x y q a.base (new_clone pool states name size kind a new left cloned housed footed) y_now q_there size kind x_kind x_size x_most
        (known_is y a.base a.slot name size kind a.span x cloned.is) (x_span ∙ span_told)
        (base_named pool states name size kind a new left cloned housed) (base_called pool states name size kind a new left cloned housed)
        ∙ (λ i. clone_of (sym (base_named pool states name size kind a new left cloned housed) i) (volume_stays a.base.parent y y_there i) (sym (base_called pool states name size kind a new left cloned housed) i) table size kind)

    -- So each volume of the session is held.
    pub each_now : (s : ℕ) → IfSome (state_at new s) (IsHeldIn disk left s)
    each_now = each_put its (IsHeldIn disk left) made_held (λ s z there. held_still disk disk pool left its store_is blocks_are s z there (one s z there) (stays s z there))

  -- No two have one name, and all commit at most the capacity.
  pub named_now : AreNamed states → AreNamed new
  named_now = named_put its name cloned.admits.asked.name_is (called y a.base a.slot name size kind a.span x cloned.is)

  pub commits_now : sum_of new ≤ capacity pool.found.blocks
  commits_now = commits_put its (capacity pool.found.blocks) (subst (λ (l : Ledger). sum_of states + committed l ≤ capacity pool.found.blocks) (sym numbers_are) cloned.admits.room)
