-- Through the course of a point each entry that stays has its block, and each hole below a span stays one.
use Rattle.std.proofs.Common.{◌≡◌, ℕ, ◌<◌, true, false, Bool, List, get_or, refl, sym, ap, subst, ◌∙◌, arith}
use Rattle.std.specs.Prelude.{Option, Some, None, IfSome, if◌then◌else◌}
use Rattle.std.specs.FinMap as fin
use Rattle.std.proofs.lemmas.Option.{same_Some}
use Rattle.fv_disk.specs.Shown.{Image, Shown}
use Rattle.fv_model.specs.Machines.{Machine}
use Rattle.fv_container.specs.declared.entry.Entry.{Entry}
use Rattle.fv_container.specs.Chains.{Slots, container_at, map_in, own_entry, paged_at}
use Rattle.fv_container.specs.Mapped.{Mapped, entry_under}
use Rattle.fv_delay.specs.Reclaims.{goes_with}
use Rattle.fv_pool.specs.Keeping.{seen}
use Rattle.fv_pool.specs.declared.pool.Pool.{Pool}
use Rattle.fv_volume.specs.declared.state.VolumeState.{VolumeState}
use Rattle.fv_volume.specs.Files.{IsLabelled}
use Rattle.fv_volume.specs.States.{States, placed_in, state_at}
use Rattle.fv_volume.specs.Stored.{AreApartIn, stays}
use Rattle.fv_volume.proofs.StayingMaps.{stays_unwritten, written_low}
use Rattle.fv_volumes.proofs.LentSlots.{lent_apart}
use Rattle.fv_volumes.proofs.Reclaiming.{stays_left}
use Rattle.fv_volumes.proofs.Staying.{entry_kept}
use Rattle.fv_cp.specs.Course.{IsCourse, IsOnCourse, StaysFrom, as_lent, renewed}
use Rattle.fv_cp.specs.Lent.{FitTogether, IsLent}

module _ (regions : ℕ → ℕ → Bool) (disk : Shown) (pool : Pool) (states : States) (before : Machine) (lent : IsLent disk pool states before) (fit : FitTogether pool states) (labels : List ℕ) (next : List Bool) (containers : Slots) (i : Image)
    (is : IsCourse regions pool states (seen pool.kept disk.reads) 64 labels next containers i) where
  labelled : (s : ℕ) (x : VolumeState) → state_at states s ≡ Some x → IsLabelled s x
  labelled s x there = subst (λ (o : Option VolumeState). IfSome o (IsLabelled s)) there (fit.housed.volumes s)

  -- An entry that stays has its block,
  pub block_kept : (s v : ℕ) (x : VolumeState) → s < 64 → state_at states s ≡ Some x → stays x v ≡ true → placed_in fin.empty i (own_entry (container_at containers s) v) ≡ placed_in pool.kept disk.reads (own_entry (container_at pool.containers s) v)
  block_kept s v x inside there on = by (is.each s inside)
    where
      of_map : (map : Mapped) → container_at pool.containers s ≡ Some map → StaysFrom x map (seen pool.kept disk.reads) i → placed_in fin.empty i (entry_under map v) ≡ placed_in pool.kept disk.reads (entry_under map v)
      of_map map lies stay =
          let apart : AreApartIn x map = subst (λ (c : Option Mapped). IfSome c (AreApartIn x)) lies
          (subst (λ (o : Option VolumeState). IfSome o (λ y. IfSome (container_at pool.containers s) (AreApartIn y))) there (lent_apart disk.reads pool.found s (state_at states s) (paged_at pool.containers s) (lent.slots s inside))) in
          entry_kept map pool.kept disk.reads i v (apart.some v) (stay v on)

      of_container : (c : Option Mapped) → container_at pool.containers s ≡ c → ((map : Mapped) → container_at pool.containers s ≡ Some map → StaysFrom x map (seen pool.kept disk.reads) i) → placed_in fin.empty i (own_entry c v) ≡ placed_in pool.kept disk.reads (own_entry c v)
      of_container None lies stay = refl
      of_container (Some map) lies stay = of_map map lies (stay map lies)

      by : IsOnCourse regions pool states (seen pool.kept disk.reads) 64 s (is.now s) (get_or labels s 0) (paged_at containers s) i → placed_in fin.empty i (own_entry (container_at containers s) v) ≡ placed_in pool.kept disk.reads (own_entry (container_at pool.containers s) v)
      by (renewed y low here changed now r) =
          let same : y ≡ x = same_Some y x (sym here ∙ there) in
          let stay : stays y v ≡ true = ap (λ (z : VolumeState). stays z v) same ∙ on in
          let stayed : entry_under r.new.map v ≡ entry_under r.old.map v = r.stored.kept v (stays_unwritten y v stay) ∙ stays_left s y (labelled s y here) (regions s) r.old r.mid r.reclaimed v stay in
          ap (λ (c : Option Mapped). placed_in fin.empty i (own_entry c v)) (ap map_in r.now) ∙ ap (placed_in fin.empty i) stayed
          ∙ of_map r.old.map (ap map_in r.was) (subst (λ (z : VolumeState). StaysFrom z r.old.map (seen pool.kept disk.reads) i) same r.stay)
          ∙ sym (ap (λ (c : Option Mapped). placed_in pool.kept disk.reads (own_entry c v)) (ap map_in r.was))
      by (as_lent waits at) = ap (λ (c : Option Mapped). placed_in fin.empty i (own_entry c v)) (ap map_in at.lies) ∙ of_container (container_at pool.containers s) refl (λ map lies. at.stay x map there lies)

  -- and a hole below the span stays one.
  pub hole_kept : (s v : ℕ) (x : VolumeState) → s < 64 → state_at states s ≡ Some x → v < x.span → own_entry (container_at pool.containers s) v ≡ None → own_entry (container_at containers s) v ≡ None
  hole_kept s v x inside there low none = by (is.each s inside)
    where
      emptied : (t : Bool) (o : Option Entry) → o ≡ None → ◌≡◌ {A = Option Entry} (if t then None else o) None
      emptied true o is = refl
      emptied false o is = is

      by : IsOnCourse regions pool states (seen pool.kept disk.reads) 64 s (is.now s) (get_or labels s 0) (paged_at containers s) i → own_entry (container_at containers s) v ≡ None
      by (renewed y below here changed now r) =
          let same : x.span ≡ y.span = ap (λ (z : VolumeState). z.span) (sym (same_Some y x (sym here ∙ there))) in
          ap (λ (c : Option Mapped). own_entry c v) (ap map_in r.now) ∙ r.stored.kept v (written_low y v (omega (arith, low, same))) ∙ r.reclaimed.entries v
          ∙ emptied (goes_with y.map r.old.map (regions s) v) (entry_under r.old.map v) (sym (ap (λ (c : Option Mapped). own_entry c v) (ap map_in r.was)) ∙ none)
      by (as_lent waits at) = ap (λ (c : Option Mapped). own_entry c v) (ap map_in at.lies) ∙ none
