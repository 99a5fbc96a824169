-- A volume that was put among those of a session, by either call that makes one: they fit together with it, and calls can be made on it.
use Rattle.std.proofs.Common.{◌≡◌, ℕ, List, [], ◌∷◌, map, length, Option, Some, None, refl, sym, ap, subst, ◌∙◌, arith}
use Rattle.std.specs.Prelude.{IfSome}
use Rattle.std.specs.Option.{option_map}
use Rattle.std.proofs.lemmas.List.{get_or-set_same}
use Rattle.std.proofs.lemmas.Option.{same_Some}
use Rattle.fv_disk.specs.Shown.{Shown}
use Rattle.fv_charge.specs.declared.ledger.Ledger.{Ledger}
use Rattle.fv_charge.specs.Ledgers.{committed}
use Rattle.fv_model.specs.declared.commands.Kind.{Kind}
use Rattle.fv_model.specs.Space.{overhead, span_of}
use Rattle.fv_container.specs.Chains.{IsSlots, paged_at}
use Rattle.fv_image.specs.Views.{Head}
use Rattle.fv_store.specs.Held.{StandsOn}
use Rattle.fv_pool.specs.declared.pool.Pool.{Pool}
use Rattle.fv_volume.specs.declared.state.Base.{Base}
use Rattle.fv_volume.specs.declared.state.Snap.{Snap}
use Rattle.fv_volume.specs.declared.state.VolumeState.{VolumeState}
use Rattle.fv_volume.specs.Files.{IsLabelled}
use Rattle.fv_volume.specs.Slots.{IsFirstFree, NoneHasName}
use Rattle.fv_volume.specs.States.{States, ledger_of_empty, parent_in, snap_in, state_at, with_state}
use Rattle.fv_volume.proofs.Cloned.{called, kind_is, size_is, span_is}
use Rattle.fv_volume.proofs.TablesOf.{no_footing}
use Rattle.fv_volumes.specs.Creating.{Admits, IsMade, IsNew, with_holes, with_holes_on}
use Rattle.fv_volumes.specs.Housed.{AreHoused}
use Rattle.fv_clone.specs.declared.admitting.Admitted.{Admitted}
use Rattle.fv_clone.specs.Creating as creating
use Rattle.fv_clone.proofs.Placed.{home, made_labelled}
use Rattle.fv_cp.specs.Lent.{FitTogether}
use Rattle.fv_cp.specs.Placing.{AreReady}
use Rattle.fv_aggregate.specs.declared.session.Session.{Session}
use Rattle.fv_aggregate.specs.Adding.{IsCloned, IsCreated, IsPutIn, IsYetToWrite}
use Rattle.fv_aggregate.specs.Parts.{silent}
use Rattle.fv_aggregate.proofs.Beside.{fit_beside, ready_beside}

-- ---- whatever made it

module _ (pool : Pool) (states : States) (x : VolumeState) (left : Pool) (new : States) (put : IsPutIn pool states x left new) (is : IsYetToWrite x) (fit : FitTogether pool states) (few : IsSlots pool.containers) where
  as_put : (P : Pool → States → Type 0) → P (with_holes_on pool x.slot x.span (parent_in (Some x))) (with_state states x.slot (Some x)) → P left new
  as_put P its = subst (λ (p : Pool). P p new) (sym put.holes) (subst (λ (xs : States). P (with_holes_on pool x.slot x.span (parent_in (Some x))) xs) (sym put.row) its)

  pub fit_put : FitTogether left new
  fit_put = as_put FitTogether (fit_beside silent pool states x fit few put.within put.free is)

  pub ready_put : (disk : Shown) → StandsOn disk pool.store.pairs → AreReady disk pool states → AreReady disk left new
  ready_put disk stands ready = as_put (AreReady disk) (ready_beside disk pool states x fit few put.within put.free is stands ready)

-- ---- an empty volume

no_snap : (ps : List Snap) → map snap_in ps ≡ [] → ps ≡ []
no_snap [] e = refl
no_snap (p ∷ ps) e = absurd (wrong e)
  where
    wrong : snap_in p ∷ map snap_in ps ≡ [] → ⊥
    wrong e = cc

module _ (pool : Pool) (states : States) (slot : ℕ) (name : List ℕ) (size : ℕ) (kind : Kind) (left : Pool) (new : States) (long : length states ≡ 64) (free : IsFirstFree states slot) (made : IsMade states slot name size kind new)
    (is : IsNew (state_at new slot) (paged_at left.containers slot) name size kind) (holes : left ≡ with_holes pool slot size) (each : (s : ℕ) → IfSome (state_at new s) (IsLabelled s)) where
  abbrev x : VolumeState
  x = is.volume

  labelled : IsLabelled slot x
  labelled = subst (λ (o : Option VolumeState). IfSome o (IsLabelled slot)) is.state_is (each slot)

  at : x.slot ≡ slot
  at = labelled.slot_is

  span : x.span ≡ span_of size 0 0
  span = ap (λ (h : Head). h.span) is.head

  bare : x.base ≡ None
  bare = no_footing x.base (ap (λ (h : Head). h.base) is.head)

  same : made.state ≡ x
  same = same_Some made.state x (sym (get_or-set_same states slot (Some made.state) None (let low = free.within in omega (arith, low, long))) ∙ ap (λ (xs : States). state_at xs slot) (sym made.states) ∙ is.state_is)

  pub new_put : IsPutIn pool states x left new
  new_put = record {
    within = (let low = free.within in omega (arith, low, at));
    free = ap (state_at states) at ∙ free.free;
    row = made.states ∙ (λ i. with_state states (sym at i) (Some (same i)));
    holes = holes ∙ (λ i. with_holes_on pool (sym at i) (sym span i) (option_map (λ (b : Base). b.parent) (sym bare i)));
  }

  pub new_yet : IsYetToWrite x
  new_yet = record {
    labelled = subst (λ (n : ℕ). IsLabelled n x) (sym at) labelled;
    booked = record {
      size = ap (λ (l : Ledger). l.size) is.ledger ∙ sym (ap (λ (h : Head). h.size) is.head);
      kind = ap (λ (l : Ledger). l.kind) is.ledger ∙ sym (ap (λ (h : Head). h.kind) is.head);
      span = labelled.counts;
      need = ap (λ (l : Ledger). l.need) is.ledger;
      charge = (let none : x.ledger.charge ≡ 0 = ap (λ (l : Ledger). l.charge) is.ledger in omega (arith, none));
    };
    label = is.label;
    changed = is.changed;
    snapshots = no_snap x.snapshots (ap (λ (h : Head). h.snapshots) is.head);
    files = is.files;
  }

-- So it was added to the session.
pub created_from : (old new : Session) (slot : ℕ) (name : List ℕ) (size : ℕ) (kind : Kind) (room : ℕ) → IsFirstFree old.volumes slot → IsMade old.volumes slot name size kind new.volumes
    → IsNew (state_at new.volumes slot) (paged_at new.pool.containers slot) name size kind → new.pool ≡ with_holes old.pool slot size → ((s : ℕ) → IfSome (state_at new.volumes s) (IsLabelled s))
    → (place wide : ℕ) → Admits old.volumes old.pool.found.blocks name size kind place wide → room ≡ overhead wide → FitTogether old.pool old.volumes → IsSlots old.pool.containers → new.failed ≡ old.failed → new.delays ≡ old.delays
    → IsCreated old name size kind room new
created_from old new slot name size kind room free made is holes each place wide admits room_is fit few failed delays = record {
  slot = place;
  span = wide;
  admits = admits;
  volume = is.volume;
  added = record {
    put = new_put old.pool old.volumes slot name size kind new.pool new.volumes fit.housed.long free made is holes each;
    is = new_yet old.pool old.volumes slot name size kind new.pool new.volumes fit.housed.long free made is holes each;
    name_is = subst (NoneHasName old.volumes) (sym (ap (λ (h : Head). h.name) is.head)) admits.name_is;
    commits = (let own : committed is.volume.ledger ≡ committed (ledger_of_empty size kind (span_of size 0 0)) = ap committed is.ledger in omega (arith, own, admits.room));
    room_is = room_is ∙ ap overhead (admits.span_is ∙ sym (ap (λ (h : Head). h.span) is.head));
    fit = fit;
    few = few;
    failed = failed;
    delays = delays;
  };
  head = is.head;
  map = is.map;
  ledger = is.ledger;
  numbers = is.numbers;
}

-- ---- a clone

module _ (pool : Pool) (states : States) (name : List ℕ) (size : ℕ) (kind : Kind) (a : Admitted) (left : Pool) (new : States) (cloned : creating.IsCloned states pool name size kind a new left) (housed : AreHoused pool.containers states) where
  abbrev z : VolumeState
  z = cloned.state

  abbrev y : VolumeState
  y = home pool states name size kind a new left cloned housed

  its_slot : z.slot ≡ a.slot
  its_slot = cloned.is.slot_is

  its_span : z.span ≡ a.span
  its_span = span_is y a.base a.slot name size kind a.span z cloned.is

  pub clone_put : IsPutIn pool states z left new
  clone_put = record {
    within = (let low = cloned.admits.free.within in omega (arith, low, its_slot));
    free = ap (state_at states) its_slot ∙ cloned.admits.free.free;
    row = cloned.row ∙ ap (λ (s : ℕ). with_state states s (Some z)) (sym its_slot);
    holes = cloned.holes ∙ (λ i. with_holes_on pool (sym its_slot i) (sym its_span i) (option_map (λ (b : Base). b.parent) (sym cloned.is.based i)));
  }

  pub clone_yet : IsYetToWrite z
  clone_yet = record {
    labelled = subst (λ (n : ℕ). IsLabelled n z) (sym its_slot) (made_labelled pool states name size kind a new left cloned housed);
    booked = record {
      size = ap (λ (l : Ledger). l.size) cloned.is.ledger ∙ sym (size_is y a.base a.slot name size kind a.span z cloned.is);
      kind = ap (λ (l : Ledger). l.kind) cloned.is.ledger ∙ sym (kind_is y a.base a.slot name size kind a.span z cloned.is);
      span = ap (λ (l : Ledger). l.span) cloned.is.ledger ∙ sym its_span;
      need = ap (λ (l : Ledger). l.need) cloned.is.ledger;
      charge = (let none : z.ledger.charge ≡ 0 = ap (λ (l : Ledger). l.charge) cloned.is.ledger in omega (arith, none));
    };
    label = cloned.is.label;
    changed = cloned.is.changed;
    snapshots = cloned.is.snapshots;
    files = cloned.is.rests.files;
  }

pub cloned_from : (old new : Session) (name : List ℕ) (size : ℕ) (kind : Kind) (a : Admitted) (room : ℕ) → creating.IsCloned old.volumes old.pool name size kind a new.volumes new.pool → room ≡ overhead a.span
    → FitTogether old.pool old.volumes → IsSlots old.pool.containers → new.failed ≡ old.failed → new.delays ≡ old.delays → IsCloned old name size kind a room new
cloned_from old new name size kind a room cloned room_is fit few failed delays = record {
  cloned = cloned;
  added = record {
    put = clone_put old.pool old.volumes name size kind a new.pool new.volumes cloned fit.housed;
    is = clone_yet old.pool old.volumes name size kind a new.pool new.volumes cloned fit.housed;
    name_is = subst (NoneHasName old.volumes) (sym (called (home old.pool old.volumes name size kind a new.volumes new.pool cloned fit.housed) a.base a.slot name size kind a.span cloned.state cloned.is)) cloned.admits.asked.name_is;
    commits = (let own : committed cloned.state.ledger ≡ committed (ledger_of_empty size kind a.span) = ap committed cloned.is.ledger in omega (arith, own, cloned.admits.room));
    room_is = room_is ∙ ap overhead (sym (span_is (home old.pool old.volumes name size kind a new.volumes new.pool cloned fit.housed) a.base a.slot name size kind a.span cloned.state cloned.is));
    fit = fit;
    few = few;
    failed = failed;
    delays = delays;
  };
}

-- ---- the session under another name

pub created_as : (was now new : Session) (name : List ℕ) (size : ℕ) (kind : Kind) (room : ℕ) → was ≡ now → IsCreated was name size kind room new → IsCreated now name size kind room new
created_as was now new name size kind room same = subst (λ (s : Session). IsCreated s name size kind room new) same

pub cloned_as : (was now new : Session) (name : List ℕ) (size : ℕ) (kind : Kind) (a : Admitted) (room : ℕ) → was ≡ now → IsCloned was name size kind a room new → IsCloned now name size kind a room new
cloned_as was now new name size kind a room same = subst (λ (s : Session). IsCloned s name size kind a room new) same
