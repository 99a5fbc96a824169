-- Calls can be made on each volume where one was made beside those that were.
use Rattle.std.proofs.Common.{◌≡◌, ◌≢◌, ◌<◌, ◌≤◌, ℕ, List, length, Option, Some, None, Result, Ok, Err, true, false, true≢false, sym, ap, subst, ◌∙◌, ⊎_elim, arith}
use Rattle.std.specs.Prelude.{IfOk, IfSome, OnErr, OnOk}
use Rattle.std.proofs.lemmas.Bool.{cases_eq}
use Rattle.std.proofs.lemmas.List.{get_or-set_other, length-replicate}
use Rattle.fv_disk.specs.Shown.{Shown as Disk}
use Rattle.fv_model.specs.declared.commands.Kind.{Kind}
use Rattle.fv_model.specs.Space.{span_of}
use Rattle.fv_root.specs.Formatted.{IsSize}
use Rattle.fv_image.specs.Views.{Head, entry_count}
use Rattle.fv_charge.specs.declared.ledger.Ledger.{Ledger}
use Rattle.fv_container.specs.Mapped.{Mapped, empty_map}
use Rattle.fv_container.specs.Paged.{Paged, empty_paged}
use Rattle.fv_container.specs.Chains.{container_at, map_in, paged_at, slot_count}
use Rattle.fv_store.specs.Held.{StandsOn}
use Rattle.fv_pool.specs.declared.pool.Pool.{Pool}
use Rattle.fv_pool.specs.BlocksOver.{entries_in}
use Rattle.fv_volume.specs.declared.state.VolumeState.{VolumeState}
use Rattle.fv_volume.specs.Files.{IsLabelled}
use Rattle.fv_volume.specs.OneVolume.{IsReady}
use Rattle.fv_volume.specs.Slots.{IsFirstFree}
use Rattle.fv_volume.specs.States.{States, state_at}
use Rattle.fv_volumes.specs.Creating.{IsMade, IsNew, with_holes}
use Rattle.fv_volume_rows.specs.Held.{AreHeld}

module _ (d : Disk) (p : Pool) (xs ys : States) (slot : ℕ) (name : List ℕ) (size : ℕ) (kind : Kind) (was : AreHeld d p xs) (first : slot < slot_count) (made : IsMade xs slot name size kind ys)
    (is : IsNew (state_at ys slot) (paged_at (with_holes p slot size).containers slot) name size kind) (each : (s : ℕ) → IfSome (state_at ys s) (IsLabelled s)) where
  abbrev q : Pool
  q = with_holes p slot size

  here : IsLabelled slot is.volume
  here = subst (λ (o : Option VolumeState). IfSome o (IsLabelled slot)) is.state_is (each slot)

  many : is.volume.map.span ≤ length (entries_in (container_at q.containers is.volume.slot))
  many = subst (λ (n : ℕ). is.volume.map.span ≤ length (entries_in (container_at q.containers n))) (sym here.slot_is)
      (subst (λ (c : Option Paged). is.volume.map.span ≤ length (entries_in (map_in c))) (sym is.holes)
      (let count : length (entries_in (Some (empty_map (entry_count is.volume.span)))) ≡ entry_count is.volume.span = length-replicate (entry_count is.volume.span) None in
      let span = here.map in omega (arith, count, span)))

  new_ready : IsReady d q is.volume
  new_ready = record {
    lent = record {
      within = (let at = here.slot_is in omega (arith, at, first));
      stands = was.stands;
      few = (let span = here.map in let most = here.span in omega (arith, span, most));
      entries = many;
    };
    labelled = subst (λ (n : ℕ). IsLabelled n is.volume) (sym here.slot_is) here;
    booked = record {
      size = ap (λ (l : Ledger). l.size) is.ledger ∙ sym (ap (λ (h : Head). h.size) is.head);
      kind = ap (λ (l : Ledger). l.kind) is.ledger ∙ sym (ap (λ (h : Head). h.kind) is.head);
      span = here.counts;
      need = ap (λ (l : Ledger). l.need) is.ledger;
      charge = (let none : is.volume.ledger.charge ≡ 0 = ap (λ (l : Ledger). l.charge) is.ledger in omega (arith, none));
    };
    blocks = was.size;
    changed = λ isnt. absurd (true≢false (sym is.changed ∙ isnt));
    fresh = λ isnt. absurd (true≢false (sym is.changed ∙ isnt));
  }

  elsewhere : (s : ℕ) → s ≢ slot → container_at q.containers s ≡ container_at p.containers s
  elsewhere s other = ap map_in (get_or-set_other p.containers.containers slot s (Some (empty_paged (entry_count (span_of size 0 0)))) None other)

  beside : (s : ℕ) → s ≢ slot → (o : Option VolumeState) → IfSome o (IsLabelled s) → IfSome o (IsReady d p) → IfSome o (IsReady d q)
  beside s other None labelled before = tt
  beside s other (Some w) labelled before = record {
    lent = record {
      within = before.lent.within;
      stands = was.stands;
      few = before.lent.few;
      entries = subst (λ (c : Option Mapped). w.map.span ≤ length (entries_in c)) (sym (elsewhere w.slot (λ at. other (sym labelled.slot_is ∙ at)))) before.lent.entries;
    };
    labelled = before.labelled;
    booked = before.booked;
    blocks = was.size;
    changed = before.changed;
    fresh = before.fresh;
  }

  beside_held : length ys ≡ slot_count → AreHeld d q ys
  beside_held long = record {
    long = long;
    size = was.size;
    stands = was.stands;
    labelled = each;
    ready = λ s. ⊎_elim
        (λ (at : s ≡ slot). subst (λ (k : ℕ). IfSome (state_at ys k) (IsReady d q)) (sym at) (subst (λ (o : Option VolumeState). IfSome o (IsReady d q)) (sym is.state_is) new_ready))
        (λ (other : s ≢ slot). subst (λ (o : Option VolumeState). IfSome o (IsReady d q)) (sym (ap (λ (zs : States). state_at zs s) made.states ∙ get_or-set_other xs slot s (Some made.state) None other))
        (beside s other (state_at xs s) (was.labelled s) (was.ready s)))
        (cases_eq s slot);
  }

-- A volume was made, or none.
pub made_held : {E : Type 0} (d : Disk) (p q : Pool) (xs ys : States) (name : List ℕ) (size : ℕ) (kind : Kind) (r : Result ℕ E) → AreHeld d p xs → IfOk r (IsFirstFree xs) → IfOk r (λ slot. IsMade xs slot name size kind ys)
    → IfOk r (λ slot. IsNew (state_at ys slot) (paged_at q.containers slot) name size kind) → IfOk r (λ slot. q ≡ with_holes p slot size) → length ys ≡ slot_count → OnOk r ((s : ℕ) → IfSome (state_at ys s) (IsLabelled s))
    → OnErr r ((ys ≡ xs) × (q ≡ p)) → AreHeld d q ys
made_held d p q xs ys name size kind (Ok slot) was first made new holes long each same = subst (λ (w : Pool). AreHeld d w ys) (sym holes)
    (beside_held d p xs ys slot name size kind was first.within made (subst (λ (w : Pool). IsNew (state_at ys slot) (paged_at w.containers slot) name size kind) holes new) each long)
made_held d p q xs ys name size kind (Err e) was first made new holes long each same = subst (λ (w : Pool). AreHeld d w ys) (sym same.1) (subst (λ (ss : States). AreHeld d p ss) (sym same.0) was)
