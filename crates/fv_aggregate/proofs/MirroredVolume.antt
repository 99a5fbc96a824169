-- A mirror that was made, beside the volumes of a session: its label can be written, it fits together with the others, and calls can be made on it.
use Rattle.std.proofs.Common.{◌≡◌, ◌≢◌, ◌<◌, ◌≤◌, ◌*◌, ℕ, Bool, List, [], length, Option, Some, None, is_some, true≢false, refl, sym, ap, subst, ◌∙◌, ⊎_elim, arith, length-set}
use Rattle.std.specs.Prelude.{IfSome}
use Rattle.std.proofs.lemmas.Bool.{cases_eq}
use Rattle.std.proofs.lemmas.Bool.Decides.{nat_tests}
use Rattle.std.proofs.lemmas.List.{get_or-set_other, get_or-set_same}
use Rattle.std.proofs.lemmas.List.Elements.{All-nil}
use Rattle.fv_disk.specs.Shown.{Shown}
use Rattle.fv_charge.specs.declared.ledger.Ledger.{Ledger}
use Rattle.fv_codec.specs.Blocks.{IsPointer, most_stamps}
use Rattle.fv_container.specs.Chains.{IsSlots, Slots, container_at, map_in, paged_at, parent_at}
use Rattle.fv_container.specs.Mapped.{Mapped}
use Rattle.fv_container.specs.Paged.{Paged}
use Rattle.fv_image.specs.Views.{Head, entry_count}
use Rattle.fv_image.specs.WholeMachine.{has_form}
use Rattle.fv_laws.proofs.Lists.{In}
use Rattle.fv_model.specs.declared.commands.Kind.{Kind}
use Rattle.fv_model.specs.Spelling.{is_name}
use Rattle.fv_root.specs.declared.find.Found.{Found}
use Rattle.fv_root.specs.Finding.{IsInRange}
use Rattle.fv_root.specs.Formatted.{IsSize}
use Rattle.fv_volmap.specs.Slots.{Volume as Maps, empty_volume, slot_at, slot_of_base}
use Rattle.fv_pool.specs.declared.pool.Pool.{Pool}
use Rattle.fv_pool.specs.declared.rooted.Rooted.{Rooted}
use Rattle.fv_pool.specs.BlocksOver.{entries_in}
use Rattle.fv_pool.specs.Keeping.{IsUnkept}
use Rattle.fv_volume.specs.declared.state.Base.{Base}
use Rattle.fv_volume.specs.declared.state.Snap.{Snap}
use Rattle.fv_volume.specs.declared.state.VolumeState.{VolumeState}
use Rattle.fv_volume.specs.Files.{IsLabelled}
use Rattle.fv_volume.specs.Labels.{label_said}
use Rattle.fv_volume.specs.Loading.{Houses}
use Rattle.fv_volume.specs.OneVolume.{IsBooked, IsReady}
use Rattle.fv_volume.specs.SnapRecords.{AreSayable, IsSayableSnap}
use Rattle.fv_volume.specs.States.{States, head_in, parent_in, snap_in, state_at}
use Rattle.fv_volume.specs.Writing.{IsTaken, on_disk}
use Rattle.fv_volume.proofs.EachRoot.{all_in}
use Rattle.fv_volume.proofs.KeptReads.{each_sayable}
use Rattle.fv_volume.proofs.Labels.{IsSayable, IsSayableBase, label_range}
use Rattle.fv_volume.proofs.MapSlots.{no_snap, one_empty}
use Rattle.fv_volume.proofs.SnapFinds.{named_there}
use Rattle.fv_volume.proofs.StayingMaps.{no_waits}
use Rattle.fv_volumes.specs.Housed.{AreHoused}
use Rattle.fv_mirror.specs.declared.admitting.Admitted.{Admitted}
use Rattle.fv_mirror.specs.Making.{IsMirrored, IsUnmade, LeavesOthers}
use Rattle.fv_mirror.proofs.Made.{source_labelled}
use Rattle.fv_cp.specs.Lent.{FitTogether}
use Rattle.fv_cp.specs.Placing.{IsReadyIn}
use Rattle.fv_aggregate.specs.Adding.{IsYetToWrite}
use Rattle.fv_aggregate.specs.Parts.{silent, AreSet}
use Rattle.fv_aggregate.proofs.MirroredDisk.{on_disk_taken}
use Rattle.fv_aggregate.proofs.Ready.{stands_silent}

-- ---- what the copying leaves, whatever is answered

module _ (disk : Shown) (pool : Pool) (after : Shown) (left : Pool) (leaves : LeavesOthers disk pool after left) where
  -- what waits to be written lies still where it can
  pub kept_left : ((b : ℕ) → IsTaken (on_disk pool.map) b → IsUnkept pool.kept b) → (b : ℕ) → IsTaken (on_disk left.map) b → IsUnkept left.kept b
  kept_left kept b taken =
      let before : IsTaken (on_disk pool.map) b = subst (λ (c : List Bool). IsTaken (record { committed = c; next = c }) b) leaves.committed taken in
      leaves.kept b (on_disk_taken pool.map b before) ∙ kept b before

  pub fit_left : (states new : States) → FitTogether pool states → AreHoused left.containers new → FitTogether left new
  fit_left states new fit housed = record {
    range = subst IsInRange (sym leaves.found) fit.range;
    size = ap length leaves.committed ∙ fit.size ∙ sym (ap (λ (f : Found). f.blocks) leaves.found);
    version = leaves.version ∙ fit.version ∙ sym (ap (λ (f : Found). f.root.version) leaves.found);
    housed = housed;
    kept = kept_left fit.kept;
  }

  -- calls can be made still on a volume that keeps its container
  pub ready_left : (y : VolumeState) → container_at left.containers y.slot ≡ container_at pool.containers y.slot → IsReady silent pool y → IsReady silent left y
  ready_left y same ready = record {
    lent = record {
      within = ready.lent.within;
      stands = stands_silent left.store.pairs;
      few = ready.lent.few;
      entries = subst (λ (c : Option Mapped). y.map.span ≤ length (entries_in c)) (sym same) ready.lent.entries;
    };
    labelled = ready.labelled;
    booked = ready.booked;
    blocks = subst (λ (f : Found). IsSize f.blocks) (sym leaves.found) ready.blocks;
    changed = ready.changed;
    fresh = ready.fresh;
  }

  -- ---- none was made

  module _ (states new : States) (unmade : IsUnmade states pool new left) (fit : FitTogether pool states) (set : AreSet pool states) where
    pub fit_unmade : FitTogether left new
    fit_unmade = fit_left states new fit (subst (λ (xs : States). AreHoused left.containers xs) (sym unmade.states) (subst (λ (c : Slots). AreHoused c states) (sym unmade.containers) fit.housed))

    pub set_unmade : AreSet left new
    set_unmade = subst (AreSet left) (sym unmade.states) (λ s. by s (state_at states s) (set s))
      where
        by : (s : ℕ) (o : Option VolumeState) → IfSome o (IsReadyIn silent pool s) → IfSome o (IsReadyIn silent left s)
        by s None is = tt
        by s (Some y) is = record { slot = is.slot; ready = ready_left y (ap (λ (c : Slots). container_at c y.slot) unmade.containers) is.ready }

-- ---- the mirror

module _ (disk : Shown) (states : States) (pool : Pool) (name : List ℕ) (size : ℕ) (kind : Kind) (a : Admitted) (after : Shown) (new : States) (left : Pool) (made : IsMirrored disk states pool name size kind a after new left) (housed : AreHoused pool.containers states) (few : IsSlots pool.containers) where
  abbrev x : VolumeState
  x = made.state

  abbrev y : VolumeState
  y = made.admits.asked.source.home.volume

  abbrev q : Snap
  q = made.admits.asked.source.snap

  -- its numbers
  pub size_is : x.size ≡ size
  size_is = ap (λ (h : Head). h.size) made.is.head

  pub kind_is : x.kind ≡ kind
  kind_is = ap (λ (h : Head). h.kind) made.is.head

  most_is : x.most ≡ 2 * size
  most_is = ap (λ (h : Head). h.most) made.is.head

  pub span_is : x.span ≡ a.span
  span_is = ap (λ (h : Head). h.span) made.is.head

  now_is : x.now ≡ y.now
  now_is = ap (λ (h : Head). h.now) made.is.head

  pub called : x.name ≡ name
  called = ap (λ (h : Head). h.name) made.is.head

  -- ---- its label

  home_labelled : IsLabelled made.admits.asked.source.home.slot y
  home_labelled = source_labelled states pool name size kind a made.admits housed.volumes

  source_there : In q y.snapshots
  source_there = (named_there a.source.snapshot y.snapshots q made.admits.asked.source.found).0

  sayable_source : IsSayableSnap (snap_in q)
  sayable_source = all_in (λ (p : Snap). IsSayableSnap (snap_in p)) y.snapshots (each_sayable y.snapshots home_labelled.snapshots.each) q source_there

  table_is : a.source.table ≡ q.table
  table_is = ap (λ (b : Base). b.table) made.admits.source_is

  levels : a.source.table.levels ≤ 2
  levels = subst (λ (t : Rooted). t.levels ≤ 2) (sym table_is) sayable_source.levels

  pointer : IsPointer a.source.table.root
  pointer = subst (λ (t : Rooted). IsPointer t.root) (sym table_is) sayable_source.root

  stamps : y.now ≤ most_stamps
  unfolding label_said
  stamps = (home_labelled.label 0 1 (omega arith) (omega arith) (omega arith)).now

  maps_span : x.map.span ≡ a.span
  maps_span = ap (λ (m : Maps). m.span) made.is.maps.slots

  free_else : (k : ℕ) → k ≢ 0 → slot_at x.map k ≡ None
  free_else k other =
      ap (λ (m : Maps). slot_at m k) made.is.maps.slots
      ∙ get_or-set_other (empty_volume a.span).slots 0 k (Some made.is.maps.map) None other
      ∙ one_empty a.span k other

  no_snaps : (head_in x).snapshots ≡ []
  no_snaps = ap (λ (h : Head). h.snapshots) made.is.head

  alone : (head_in x).base ≡ None
  alone = ap (λ (h : Head). h.base) made.is.head

  sayable : AreSayable (head_in x)
  sayable = subst AreSayable (sym made.is.head) (record { slots = record { within = refl; rising = refl }; each = All-nil IsSayableSnap })

  fits_size : size ≤ 500000
  fits_size = let sized = made.admits.asked.size_is in grind (arith, nat_tests, sized)

  some_size : 1 ≤ size
  some_size = let sized = made.admits.asked.size_is in grind (arith, nat_tests, sized)

  active_levels : x.active.levels ≤ 2
  active_levels = subst (λ (r : Rooted). r.levels ≤ 2) (sym made.is.active) levels

  can_say : IsSayable x
  can_say =
      let wide = made.admits.span_is in
      let most = made.admits.most in
      record {
        name = ap is_name called ∙ made.is.named;
        size_least = omega (arith, size_is, some_size);
        size_greatest = omega (arith, size_is, most_is, fits_size);
        most_least = omega (arith, most_is, some_size);
        most_greatest = omega (arith, most_is, fits_size);
        span_least = omega (arith, span_is, wide, some_size);
        span_greatest = omega (arith, span_is, most);
        span_step = omega (arith, span_is, wide);
        now = omega (arith, now_is, stamps);
        levels = active_levels;
        root = subst (λ (r : Rooted). IsPointer r.root) (sym made.is.active) (record { vvbn = pointer.vvbn; pvbn = omega arith; stamp = pointer.stamp });
        base = subst (λ o. IfSome o IsSayableBase) (sym alone) tt;
        snapshots = sayable;
      }

  -- It can be written.
  pub mirror_labelled : IsLabelled a.slot x
  mirror_labelled = record {
    slot_is = made.is.slot_is;
    form = ap has_form made.is.head;
    span = (let most = made.admits.most in omega (arith, span_is, most));
    map = maps_span ∙ sym span_is;
    snapshots = sayable;
    slots = record {
      each = λ k other apart. ap is_some (free_else k other) ∙ sym (no_snap (head_in x) no_snaps k);
      base = ap is_some (free_else slot_of_base (λ (e : slot_of_base ≡ 0). omega (arith, e))) ∙ sym (ap is_some alone);
    };
    waits = no_waits x made.is.rests.fresh;
    counts = ap (λ (l : Ledger). l.span) made.is.ledger ∙ sym span_is;
    levels = active_levels;
    named = ap is_name called ∙ made.is.named;
    label = label_range x can_say;
  }

  pub mirror_booked : IsBooked x
  mirror_booked = record {
    size = ap (λ (l : Ledger). l.size) made.is.ledger ∙ sym size_is;
    kind = ap (λ (l : Ledger). l.kind) made.is.ledger ∙ sym kind_is;
    span = ap (λ (l : Ledger). l.span) made.is.ledger ∙ sym span_is;
    need = ap (λ (l : Ledger). l.need) made.is.ledger;
    charge = (let own : x.ledger.charge ≡ a.count = ap (λ (l : Ledger). l.charge) made.is.ledger in let fits = made.admits.fits in omega (arith, own, fits, fits_size));
  }

  -- It is one that a consistency point has yet to write.
  pub mirror_yet : IsYetToWrite x
  mirror_yet = record {
    labelled = subst (λ (n : ℕ). IsLabelled n x) (sym made.is.slot_is) mirror_labelled;
    booked = mirror_booked;
    label = made.is.label;
    changed = made.is.changed;
    snapshots = made.is.snapshots;
    files = made.is.rests.files;
  }

  -- ---- the slots

  pub slot_inside : a.slot < 64
  slot_inside = made.admits.free.within

  pub row_long : a.slot < length states
  row_long = let low = slot_inside in let long = housed.long in omega (arith, low, long)

  pub there_now : state_at new a.slot ≡ Some x
  there_now = ap (λ (xs : States). state_at xs a.slot) made.row ∙ get_or-set_same states a.slot (Some x) None row_long

  pub others_stay : (s : ℕ) → s ≢ a.slot → state_at new s ≡ state_at states s
  others_stay s other = ap (λ (xs : States). state_at xs s) made.row ∙ get_or-set_other states a.slot s (Some x) None other

  pub paged_elsewhere : (s : ℕ) → s ≢ a.slot → paged_at left.containers s ≡ paged_at pool.containers s
  paged_elsewhere s other = ap (λ (c : Slots). paged_at c s) made.containers ∙ get_or-set_other pool.containers.containers a.slot s (Some made.container) None other

  pub container_elsewhere : (s : ℕ) → s ≢ a.slot → container_at left.containers s ≡ container_at pool.containers s
  container_elsewhere s other = ap map_in (paged_elsewhere s other)

  parent_here : parent_at left.containers a.slot ≡ None
  parent_here = ap (λ (c : Slots). parent_at c a.slot) made.containers
      ∙ get_or-set_same pool.containers.parents a.slot None None (let low = slot_inside in let all = few.parents in omega (arith, low, all))

  parent_elsewhere : (s : ℕ) → s ≢ a.slot → parent_at left.containers s ≡ parent_at pool.containers s
  parent_elsewhere s other = ap (λ (c : Slots). parent_at c s) made.containers ∙ get_or-set_other pool.containers.parents a.slot s None None other

  own_parent : parent_in (Some x) ≡ None
  own_parent = ap (λ (o : Option Base). parent_in (Some (record x { base = o }))) made.is.based

  own_house : Houses (Some x) (container_at left.containers a.slot)
  own_house = subst (λ (c : Option Paged). Houses (Some x) (map_in c)) (sym made.there) (made.long ∙ ap entry_count (sym span_is))

  -- it is in order beside the others
  pub housed_now : AreHoused left.containers new
  housed_now = record {
    long = ap length made.row ∙ length-set states a.slot (Some x) ∙ housed.long;
    volumes = λ s. ⊎_elim
        (λ (e : s ≡ a.slot). subst (λ (k : ℕ). IfSome (state_at new k) (IsLabelled k)) (sym e) (subst (λ (o : Option VolumeState). IfSome o (IsLabelled a.slot)) (sym there_now) mirror_labelled))
        (λ (other : s ≢ a.slot). subst (λ (o : Option VolumeState). IfSome o (IsLabelled s)) (sym (others_stay s other)) (housed.volumes s))
        (cases_eq s a.slot);
    each = λ s. ⊎_elim
        (λ (e : s ≡ a.slot). subst (λ (k : ℕ). Houses (state_at new k) (container_at left.containers k)) (sym e)
        (subst (λ (o : Option VolumeState). Houses o (container_at left.containers a.slot)) (sym there_now) own_house))
        (λ (other : s ≢ a.slot). subst (λ (o : Option VolumeState). Houses o (container_at left.containers s)) (sym (others_stay s other))
        (subst (λ (c : Option Mapped). Houses (state_at states s) c) (sym (container_elsewhere s other)) (housed.each s)))
        (cases_eq s a.slot);
    parents = λ s. ⊎_elim
        (λ (e : s ≡ a.slot). ap (parent_at left.containers) e ∙ parent_here ∙ sym (ap (λ (k : ℕ). parent_in (state_at new k)) e ∙ ap parent_in there_now ∙ own_parent))
        (λ (other : s ≢ a.slot). parent_elsewhere s other ∙ housed.parents s ∙ ap parent_in (sym (others_stay s other)))
        (cases_eq s a.slot);
  }

  module _ (leaves : LeavesOthers disk pool after left) where
    pub fit_now : FitTogether pool states → FitTogether left new
    fit_now fit = fit_left disk pool after left leaves states new fit housed_now

    ready_new : IsSize pool.found.blocks → IsReady silent left x
    ready_new blocks = record {
      lent = record {
        within = subst (λ (n : ℕ). n < 64) (sym made.is.slot_is) slot_inside;
        stands = stands_silent left.store.pairs;
        few = (let most = made.admits.most in omega (arith, maps_span, most));
        entries = subst (λ (n : ℕ). x.map.span ≤ length (entries_in (container_at left.containers n))) (sym made.is.slot_is)
            (subst (λ (c : Option Paged). x.map.span ≤ length (entries_in (map_in c))) (sym made.there) (let long = made.long in omega (arith, long, maps_span)));
      };
      labelled = mirror_yet.labelled;
      booked = mirror_booked;
      blocks = subst (λ (f : Found). IsSize f.blocks) (sym leaves.found) blocks;
      changed = λ isnt. absurd (true≢false (sym made.is.changed ∙ isnt));
      fresh = λ isnt. made.is.rests.fresh;
    }

    pub set_now : IsSize pool.found.blocks → AreSet pool states → AreSet left new
    set_now blocks set s = ⊎_elim
        (λ (e : s ≡ a.slot). subst (λ (k : ℕ). IfSome (state_at new k) (IsReadyIn silent left k)) (sym e)
        (subst (λ (o : Option VolumeState). IfSome o (IsReadyIn silent left a.slot)) (sym there_now) (record { slot = made.is.slot_is; ready = ready_new blocks })))
        (λ (other : s ≢ a.slot). subst (λ (o : Option VolumeState). IfSome o (IsReadyIn silent left s)) (sym (others_stay s other)) (by s other (state_at states s) (set s)))
        (cases_eq s a.slot)
      where
        by : (s : ℕ) → s ≢ a.slot → (o : Option VolumeState) → IfSome o (IsReadyIn silent pool s) → IfSome o (IsReadyIn silent left s)
        by s other None is = tt
        by s other (Some z) is = record { slot = is.slot; ready = ready_left disk pool after left leaves z (container_elsewhere z.slot (λ e. other (sym is.slot ∙ e))) is.ready }
