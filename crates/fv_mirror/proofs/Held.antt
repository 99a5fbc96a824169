-- A mirror that was made in a session is held as the other volumes are, and these stay; it stands for the machine's new volume.
use Rattle.std.proofs.Common.{◌≡◌, ◌≤◌, ◌+◌, ◌*◌, ℕ, true, List, Option, Some, None, refl, sym, ap, subst, ◌∙◌, arith}
use Rattle.std.specs.Prelude.{IfSome, IsTrue}
use Rattle.std.specs.FinMap as fin
use Rattle.std.specs.FinSet as set
use Rattle.std.proofs.lemmas.Bool.Decides.{nat_tests}
use Rattle.fv_disk.specs.Shown.{Shown as Disk}
use Rattle.fv_bits.specs.Members.{is_member}
use Rattle.fv_charge.specs.declared.ledger.Ledger.{Ledger}
use Rattle.fv_charge.specs.Ledgers.{committed}
use Rattle.fv_container.specs.Clean.{IsCleanOn}
use Rattle.fv_container.specs.Paged.{Paged}
use Rattle.fv_container.specs.Spelled.{names}
use Rattle.fv_container.specs.Chains.{AreCleanOn, container_at, map_in, paged_at, parent_at}
use Rattle.fv_container.proofs.Clean.{clean_still}
use Rattle.fv_laws.proofs.Lists.{In, in_right}
use Rattle.fv_image.specs.Views.{Head, entry_count}
use Rattle.fv_model.specs.declared.commands.Kind.{Kind}
use Rattle.fv_model.specs.Effects.{mirror_of}
use Rattle.fv_model.specs.Machines.{capacity}
use Rattle.fv_model.specs.Places.{id_cmp, ids_of}
use Rattle.fv_model.specs.Space.{base_ids}
use Rattle.fv_model.specs.Tables.{Table}
use Rattle.fv_model.specs.Volumes.{Base as ModelBase}
use Rattle.fv_root.specs.Formatted.{IsSize}
use Rattle.fv_store.specs.Held.{StandsOn}
use Rattle.fv_tables.specs.Told.{table_told}
use Rattle.fv_pool.specs.declared.pool.Pool.{Pool}
use Rattle.fv_pool.specs.BlocksOver.{tree_in}
use Rattle.fv_pool.specs.Keeping.{kept_or, seen}
use Rattle.fv_volmap.specs.Slots.{has, slot_at}
use Rattle.fv_copies.specs.Copying.{IsSource}
use Rattle.fv_volume.specs.declared.state.Snap.{Snap}
use Rattle.fv_volume.specs.declared.state.VolumeState.{VolumeState}
use Rattle.fv_volume.specs.Files.{AreNamed}
use Rattle.fv_volume.specs.Held.{IsHeldIn}
use Rattle.fv_volume.specs.Mirroring.{ledger_of_mirror, mirror_table}
use Rattle.fv_volume.specs.OneVolume.{base_table, blocks_in, standing_kept, tables_of, volume_for, IsBooked, IsReady, IsStanding}
use Rattle.fv_volume.specs.Placing.{StaysBeside}
use Rattle.fv_volume.specs.Slots.{sum_of}
use Rattle.fv_volume.specs.States.{States, state_at}
use Rattle.fv_volumes.specs.Footing.{AreFooted}
use Rattle.fv_volumes.specs.Housed.{AreHoused}
use Rattle.fv_volumes.proofs.Added.{clean_put, commits_put, container_elsewhere, each_put, entry_held, held_still, is_other, named_put, parent_elsewhere, ready_put, IsPut}
use Rattle.fv_volumes.proofs.Beside.{beside_taken, free_off}
use Rattle.fv_clone.proofs.Source.{home_slot, snap_slot, snap_table, snap_there, IsOfAsked}
use Rattle.fv_mirror.specs.declared.admitting.Admitted.{Admitted}
use Rattle.fv_mirror.specs.Making.{source_bits, HasCopies, IsMirrored, LeavesOthers}
use Rattle.fv_mirror.proofs.Labelled.{active_has, called, taken_active}
use Rattle.fv_mirror.proofs.NewMirror.{new_led, new_standing, new_told, new_well, none_based, IsNewMirror}
use Rattle.fv_mirror.proofs.Placed.{home, home_there, made, made_labelled, made_span, of_asked, parent_here, put, source}
use Rattle.fv_mirror.proofs.Source.{next_taken, tells_source}

module _ (disk : Disk) (pool : Pool) (states : States) (name : List ℕ) (size : ℕ) (kind : Kind) (a : Admitted) (after : Disk) (new : States) (left : Pool) (mirrored : IsMirrored disk states pool name size kind a after new left)
    (housed : AreHoused pool.containers states) (footed : AreFooted states pool.containers) (each : (s : ℕ) → IfSome (state_at states s) (IsHeldIn disk pool s))
    (nodes : (s b : ℕ) → names (tree_in (container_at pool.containers s)) b ≡ true → is_member pool.map.next b ≡ true) (leaves : LeavesOthers disk pool after left) (cache : StandsOn after left.store.pairs) where
  abbrev x : VolumeState
  x = made disk pool states name size kind a after new left mirrored housed

  abbrev y : VolumeState
  y = home disk pool states name size kind a after new left mirrored housed

  abbrev q : Snap
  q = source disk pool states name size kind a after new left mirrored housed

  abbrev its : IsPut states pool.containers a.slot x mirrored.container None new left.containers
  its = put disk pool states name size kind a after new left mirrored housed

  abbrev its_source : IsOfAsked states a.source name size
  its_source = of_asked disk pool states name size kind a after new left mirrored housed

  one : (s : ℕ) (z : VolumeState) → state_at states s ≡ Some z → IsHeldIn disk pool s z
  one s z there = subst (λ (o : Option VolumeState). IfSome o (IsHeldIn disk pool s)) there (each s)

  y_there : state_at states a.source.parent ≡ Some y
  y_there = home_there disk pool states name size kind a after new left mirrored housed

  y_slot : y.slot ≡ a.source.parent
  y_slot = home_slot its_source

  q_slot : a.source.slot ≡ q.slot
  q_slot = snap_slot its_source

  y_held : IsHeldIn disk pool a.source.parent y
  y_held = one a.source.parent y y_there

  q_there : In q (tables_of y)
  q_there = in_right q (base_table y.base) y.snapshots (snap_there its_source)

  tells : IsTrue disk.tells
  tells = y_held.stands.told.0

  -- what was copied lay still
  pub source_told : IsSource disk pool a.source.parent (source_bits y a.source.slot)
  source_told = subst (λ (s : ℕ). IsSource disk pool s (source_bits y a.source.slot)) y_slot
      (subst (λ (k : ℕ). IsSource disk pool y.slot (source_bits y k)) (sym q_slot) (tells_source disk pool y y_held.stands q q_there nodes))

  pub copies : HasCopies disk pool a.source.parent (source_bits y a.source.slot) mirrored.container after left
  copies = mirrored.copied source_told

  -- ---- the other volumes

  tells_now : IsTrue after.tells
  tells_now = subst IsTrue (sym leaves.tells) tells

  reads_same : (b : ℕ) → is_member pool.map.next b ≡ true → after.reads b ≡ disk.reads b
  reads_same b held = leaves.reads tells b (next_taken pool.map b held)

  pub clean_now : AreCleanOn after.reads left.containers
  clean_now = clean_put its after.reads copies.clean (λ s. still s (paged_at pool.containers s) refl (y_held.stands.told.2 s))
    where
      still : (s : ℕ) (c : Option Paged) → paged_at pool.containers s ≡ c → IfSome c (IsCleanOn disk.reads) → IfSome c (IsCleanOn after.reads)
      still s None at clean = tt
      still s (Some paged) at clean = clean_still disk.reads after.reads paged (λ b named. reads_same b (nodes s b (ap (λ (o : Option Paged). names (tree_in (map_in o)) b) at ∙ named))) clean

  -- so it is seen as before
  seen_same : (b : ℕ) → is_member pool.map.next b ≡ true → seen left.kept after.reads b ≡ seen pool.kept disk.reads b
  seen_same b held =
      ap (λ (o : Option (List ℕ)). kept_or o (after.reads b)) (leaves.kept b (next_taken pool.map b held))
      ∙ ap (λ (block : List ℕ). kept_or (fin.get pool.kept b) block) (reads_same b held)

  -- Each of them stands for what it stood for,
  pub stays : (s : ℕ) (z : VolumeState) → state_at states s ≡ Some z → StaysBeside disk pool after left z
  stays s z there = beside_taken disk after pool left states a.slot (free_off states pool.containers housed footed a.slot mirrored.admits.free.free) (container_elsewhere its) (parent_elsewhere its) leaves.tells
      z (ap (state_at states) at ∙ there) (λ e. is_other its s z there (sym at ∙ e))
      (λ k v w e other here own. seen_same e.pvbn (entry_held disk pool k w (one k w here) v e own))
      (λ k v w e other here own. copies.stay e.pvbn (entry_held disk pool k w (one k w here) v e own))
      clean_now (one s z there).stands
    where
      at : z.slot ≡ s
      at = (one s z there).slot

  pub volume_stays : (s : ℕ) (z : VolumeState) → state_at states s ≡ Some z → volume_for after left z ≡ volume_for disk pool z
  volume_stays s z there = (stays s z there).volume

  blocks_are : IsSize left.found.blocks
  blocks_are = subst (λ f. IsSize f.blocks) (sym leaves.found) y_held.ready.blocks

  -- ---- the mirror

  abbrev table : Table
  table = table_told (standing_kept (blocks_in disk pool y) q)

  x_slot : x.slot ≡ a.slot
  x_slot = mirrored.is.slot_is

  x_span : x.span ≡ a.span
  x_span = made_span disk pool states name size kind a after new left mirrored housed

  x_size : x.size ≡ size
  x_size = ap (λ (h : Head). h.size) mirrored.is.head

  x_kind : x.kind ≡ kind
  x_kind = ap (λ (h : Head). h.kind) mirrored.is.head

  x_most : x.most ≡ 2 * size
  x_most = ap (λ (h : Head). h.most) mirrored.is.head

  numbers_are : x.ledger ≡ ledger_of_mirror a.count size kind a.span
  numbers_are = mirrored.is.ledger

  pub new_mirror : IsNewMirror disk pool y q after left x mirrored.container
  new_mirror = record {
    there = ap (paged_at left.containers) x_slot ∙ mirrored.there;
    alone = ap (parent_at left.containers) x_slot ∙ parent_here disk pool states name size kind a after new left mirrored housed;
    same = λ v. active_has (slot_at y.map a.source.slot) a.span x.map mirrored.is.maps v ∙ ap (λ (k : ℕ). has v (slot_at y.map k)) q_slot;
    only = λ v taken. sym (ap (λ (k : ℕ). has v (slot_at y.map k)) q_slot) ∙ taken_active (slot_at y.map a.source.slot) a.span x.map mirrored.is.maps v taken;
    active = mirrored.is.active ∙ ap mirror_table (snap_table its_source);
    based = mirrored.is.based;
    snapshots = mirrored.is.snapshots;
    now = ap (λ (h : Head). h.now) mirrored.is.head;
    known = ap (λ (h : Head). h.known) mirrored.is.head;
    files = mirrored.is.rests.files;
    numbers = mirrored.is.rests.numbers;
    copies = subst (λ (s : ℕ). HasCopies disk pool s (source_bits y q.slot) mirrored.container after left) (sym y_slot)
        (subst (λ (k : ℕ). HasCopies disk pool a.source.parent (source_bits y k) mirrored.container after left) q_slot copies);
  }

  sized : size ≤ 500000
  sized = let is = mirrored.admits.asked.size_is in grind (arith, nat_tests, is)

  made_booked : IsBooked x
  made_booked = record {
    size = ap (λ (l : Ledger). l.size) numbers_are ∙ sym x_size;
    kind = ap (λ (l : Ledger). l.kind) numbers_are ∙ sym x_kind;
    span = ap (λ (l : Ledger). l.span) numbers_are ∙ sym x_span;
    need = ap (λ (l : Ledger). l.need) numbers_are;
    charge = (let some : x.ledger.charge ≡ a.count = ap (λ (l : Ledger). l.charge) numbers_are in let fits = mirrored.admits.fits in let few = sized in omega (arith, some, fits, few));
  }

  pub made_ready : IsReady after left x
  made_ready = ready_put disk after pool left its cache blocks_are (made_labelled disk pool states name size kind a after new left mirrored housed) made_booked mirrored.is.changed (mirrored.long ∙ ap entry_count (sym x_span))

  -- It is charged for as many blocks as the snapshot's table has ids.
  module _ (counted : a.count ≡ set.len (ids_of table)) where
    ledger_is : x.ledger ≡ ledger_of_mirror (set.len (ids_of table)) x.size x.kind x.span
    ledger_is = numbers_are ∙ (λ i. ledger_of_mirror (counted i) (sym x_size i) (sym x_kind i) (sym x_span i))

    pub made_stands : IsStanding after left x
    made_stands = new_standing disk pool y q after left x mirrored.container new_mirror y_held.stands q_there tells_now clean_now ledger_is

    wide_now : x.most + (set.len (base_ids (volume_for after left x).base) + 256) ≤ x.span
    wide_now =
        let base : set.len (base_ids (volume_for after left x).base) ≡ 0 = ap (λ (o : Option ModelBase). set.len (base_ids o)) (none_based disk pool y q after left x mirrored.container new_mirror y_held.stands q_there) ∙ set.len-empty id_cmp in
        let span_told = mirrored.admits.span_is in
        omega (arith, base, x_most, x_span, span_told)

    -- It is held as the others are,
    pub made_held : IsHeldIn after left a.slot x
    made_held = record {
      slot = x_slot;
      ready = made_ready;
      stands = made_stands;
      led = new_led disk pool y q after left x mirrored.container new_mirror y_held.stands q_there;
      well = new_well disk pool y q after left x mirrored.container new_mirror y_held.stands q_there;
      wide = wide_now;
      within = (let some : x.ledger.charge ≡ a.count = ap (λ (l : Ledger). l.charge) numbers_are in let fits = mirrored.admits.fits in omega (arith, some, fits, x_size));
    }

    -- So each volume of the session is held.
    pub each_now : (s : ℕ) → IfSome (state_at new s) (IsHeldIn after left s)
    each_now = each_put its (IsHeldIn after left) made_held (λ s z there. held_still disk after pool left its cache blocks_are s z there (one s z there) (stays s z there))

  -- It is told as the machine's mirror.
  pub made_told : volume_for after left x ≡ mirror_of (volume_for disk pool y) table size kind
  made_told = new_told disk pool y q after left x mirrored.container new_mirror y_held.stands q_there size kind x_kind x_size x_most (x_span ∙ mirrored.admits.span_is)

  -- No two have one name, and all commit at most the capacity.
  pub named_now : AreNamed states → AreNamed new
  named_now = named_put its name mirrored.admits.asked.name_is (called y a.source a.count a.slot name size kind a.span x mirrored.is)

  pub commits_now : sum_of new ≤ capacity pool.found.blocks
  commits_now = commits_put its (capacity pool.found.blocks) (subst (λ (l : Ledger). sum_of states + committed l ≤ capacity pool.found.blocks) (sym numbers_are) mirrored.admits.room)
