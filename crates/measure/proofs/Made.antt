-- Volumes that calls can be made on.
use Rattle.std.proofs.Common.{◌≡◌, ◌<◌, ◌≤◌, ℕ, List, length, Option, Some, None, true, false, sym, ap, subst, ◌∙◌, arith}
use Rattle.std.specs.Prelude.{IfSome}
use Rattle.std.proofs.lemmas.List.{length-replicate}
use Rattle.fv_disk.specs.Shown.{Shown as Disk}
use Rattle.fv_model.specs.declared.commands.Kind.{Kind}
use Rattle.fv_root.specs.Formatted.{IsSize}
use Rattle.fv_root.specs.declared.find.Found.{Found}
use Rattle.fv_image.specs.Views.{Head, entry_count}
use Rattle.fv_charge.specs.declared.ledger.Ledger.{Ledger}
use Rattle.fv_container.specs.Mapped.{empty_map}
use Rattle.fv_container.specs.Chains.{Slots, container_at, map_in, paged_at, slot_count}
use Rattle.fv_container.specs.Paged.{Paged}
use Rattle.fv_store.specs.Held.{StandsOn}
use Rattle.fv_pool.specs.declared.pool.Pool.{Pool}
use Rattle.fv_volume.specs.declared.state.VolumeState.{VolumeState}
use Rattle.fv_pool.specs.BlocksOver.{entries_in}
use Rattle.fv_volumes.specs.Creating.{IsNew, with_holes}
use Rattle.fv_volume.specs.Files.{IsLabelled}
use Rattle.fv_volume.specs.OneVolume.{IsReady}
use Rattle.fv_volume.specs.Slots.{IsFirstFree}
use Rattle.fv_volume.specs.States.{States, state_at}

module _ (p q : Pool) (old states : States) (slot size : ℕ) (name : List ℕ) (kind : Kind) (blocks : IsSize p.found.blocks)
    (first : IsFirstFree old slot) (holes : q ≡ with_holes p slot size) (is : IsNew (state_at states slot) (paged_at q.containers slot) name size kind)
    (labelled : (s : ℕ) → IfSome (state_at states s) (IsLabelled s)) (d : Disk) (stands : StandsOn d p.store.pairs) where
  here : IsLabelled slot is.volume
  here = subst (λ (o : Option VolumeState). IfSome o (IsLabelled slot)) is.state_is (labelled slot)

  both : true ≡ false → ⊥
  both e = cc

  many : is.volume.map.span ≤ length (entries_in (container_at q.containers is.volume.slot))
  many = subst (λ (n : ℕ). is.volume.map.span ≤ length (entries_in (container_at q.containers n))) (sym here.slot_is)
      (subst (λ (c : Option Paged). is.volume.map.span ≤ length (entries_in (map_in c))) (sym is.holes)
      (let count : length (entries_in (Some (empty_map (entry_count is.volume.span)))) ≡ entry_count is.volume.span = length-replicate (entry_count is.volume.span) None in
      let span = here.map in omega (arith, count, span)))

  ready : IsReady d q is.volume
  ready = record {
    lent = record {
      within = (let at = here.slot_is in omega (arith, at, first.within));
      stands = subst (λ (x : Pool). StandsOn d x.store.pairs) (sym holes) stands;
      few = (let span = here.map in let most = here.span in omega (arith, span, most));
      entries = many;
    };
    labelled = subst (λ (n : ℕ). IsLabelled n is.volume) (sym here.slot_is) here;
    booked = record {
      size = ap (λ (l : Ledger). l.size) is.ledger ∙ sym (ap (λ (h : Head). h.size) is.head);
      kind = ap (λ (l : Ledger). l.kind) is.ledger ∙ sym (ap (λ (h : Head). h.kind) is.head);
      span = here.counts;
      need = ap (λ (l : Ledger). l.need) is.ledger;
      charge = (let none : is.volume.ledger.charge ≡ 0 = ap (λ (l : Ledger). l.charge) is.ledger in omega (arith, none));
    };
    blocks = subst (λ (x : Pool). IsSize x.found.blocks) (sym holes) blocks;
    changed = λ isnt. absurd (both (sym is.changed ∙ isnt));
    fresh = λ isnt. absurd (both (sym is.changed ∙ isnt));
  }

  pub made_ready : IfSome (state_at states slot) (IsReady d q)
  made_ready = subst (λ (o : Option VolumeState). IfSome o (IsReady d q)) (sym is.state_is) ready

-- A volume stays one that calls can be made on where the blocks that were kept are written.
pub written_ready : (d e : Disk) (p q : Pool) (x : VolumeState) → IsReady d p x → q.containers ≡ p.containers → q.found ≡ p.found → StandsOn e q.store.pairs → IsReady e q x
written_ready d e p q x ready containers found stands = record {
  lent = record {
    within = ready.lent.within;
    stands = stands;
    few = ready.lent.few;
    entries = subst (λ (c : Slots). x.map.span ≤ length (entries_in (container_at c x.slot))) (sym containers) ready.lent.entries;
  };
  labelled = ready.labelled;
  booked = ready.booked;
  blocks = subst (λ (f : Found). IsSize f.blocks) (sym found) ready.blocks;
  changed = ready.changed;
  fresh = ready.fresh;
}
