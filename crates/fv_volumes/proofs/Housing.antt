-- Volumes that are in order stay so with a new one beside them.
use Rattle.std.proofs.Common.{◌≡◌, ◌≢◌, ◌<◌, ◌≤◌, ℕ, List, length, Option, Some, None, refl, sym, ap, subst, ◌∙◌, ⊎_elim, arith, length-set}
use Rattle.std.specs.Prelude.{IfSome, slice_set}
use Rattle.std.specs.Option.{option_map}
use Rattle.std.proofs.lemmas.Bool.{cases_eq, cases_lt}
use Rattle.std.proofs.lemmas.List.{get_or-set_other, get_or-set_same, get_or_past, length-replicate}
use Rattle.fv_model.specs.declared.commands.Kind.{Kind}
use Rattle.fv_model.specs.Space.{span_of}
use Rattle.fv_image.specs.Views.{Head, entry_count}
use Rattle.fv_container.specs.Mapped.{Mapped}
use Rattle.fv_container.specs.Paged.{Paged, empty_paged}
use Rattle.fv_container.specs.Chains.{Slots, container_at, map_in, paged_at, parent_at, with_container}
use Rattle.fv_pool.specs.declared.pool.Pool.{Pool}
use Rattle.fv_volume.specs.declared.state.Base.{Base}
use Rattle.fv_volume.specs.declared.state.VolumeState.{VolumeState}
use Rattle.fv_volumes.specs.Creating.{IsMade, IsNew, with_holes}
use Rattle.fv_volume.specs.Loading.{Houses}
use Rattle.fv_volume.specs.Files.{IsLabelled}
use Rattle.fv_volume.specs.States.{States, footing_in, parent_in, state_at}
use Rattle.fv_volumes.specs.Housed.{AreHoused}

baseless : (b : Option Base) → option_map footing_in b ≡ None → option_map (λ (x : Base). x.parent) b ≡ None
baseless None is = refl
baseless (Some b) is = cc

new_houses : (x : Option VolumeState) (c : Option Paged) (name : List ℕ) (size : ℕ) (kind : Kind) → IsNew x c name size kind → Houses x (map_in c)
new_houses x c name size kind is = subst (λ (y : Option VolumeState). Houses y (map_in c)) (sym is.state_is)
    (subst (λ (d : Option Paged). Houses (Some is.volume) (map_in d)) (sym is.holes) (length-replicate (entry_count is.volume.span) None))

new_parent : (x : Option VolumeState) (c : Option Paged) (name : List ℕ) (size : ℕ) (kind : Kind) → IsNew x c name size kind → parent_in x ≡ None
new_parent x c name size kind is = ap parent_in is.state_is ∙ baseless is.volume.base (ap (λ (h : Head). h.base) is.head)

module _ (pool : Pool) (states new : States) (slot : ℕ) (name : List ℕ) (size : ℕ) (kind : Kind) (made : IsMade states slot name size kind new)
    (is : IsNew (state_at new slot) (paged_at (with_holes pool slot size).containers slot) name size kind) where
  abbrev after : Slots
  after = (with_holes pool slot size).containers

  state_elsewhere : (s : ℕ) → s ≢ slot → state_at new s ≡ state_at states s
  state_elsewhere s ne = ap (λ (xs : States). state_at xs s) made.states ∙ get_or-set_other states slot s (Some made.state) None ne

  container_elsewhere : (s : ℕ) → s ≢ slot → container_at after s ≡ container_at pool.containers s
  container_elsewhere s ne = ap map_in (get_or-set_other pool.containers.containers slot s (Some (empty_paged (entry_count (span_of size 0 0)))) None ne)

  parent_there : parent_at after slot ≡ None
  parent_there = ⊎_elim
      (λ (within : slot < length pool.containers.parents). get_or-set_same pool.containers.parents slot None None within)
      (λ (past : length pool.containers.parents ≤ slot).
      let long : length (slice_set pool.containers.parents slot None) ≡ length pool.containers.parents = length-set pool.containers.parents slot None in
      get_or_past (slice_set pool.containers.parents slot None) slot None (omega (arith, past, long)))
      (cases_lt slot (length pool.containers.parents))

  -- a new volume is in order beside those that were
  pub housed_with : ((s : ℕ) → IfSome (state_at new s) (IsLabelled s)) → AreHoused pool.containers states → AreHoused after new
  housed_with each was = record {
    long = ap (λ (xs : States). length xs) made.states ∙ length-set states slot (Some made.state) ∙ was.long;
    volumes = each;
    each = λ s. ⊎_elim
        (λ (here : s ≡ slot). subst (λ (k : ℕ). Houses (state_at new k) (container_at after k)) (sym here) (new_houses (state_at new slot) (paged_at after slot) name size kind is))
        (λ (other : s ≢ slot). subst (λ (x : Option VolumeState). Houses x (container_at after s)) (sym (state_elsewhere s other))
        (subst (λ (c : Option Mapped). Houses (state_at states s) c) (sym (container_elsewhere s other)) (was.each s)))
        (cases_eq s slot);
    parents = λ s. ⊎_elim
        (λ (here : s ≡ slot). ap (parent_at after) here ∙ parent_there ∙ sym (ap (λ (k : ℕ). parent_in (state_at new k)) here ∙ new_parent (state_at new slot) (paged_at after slot) name size kind is))
        (λ (other : s ≢ slot). get_or-set_other pool.containers.parents slot s None None other ∙ was.parents s ∙ ap parent_in (sym (state_elsewhere s other)))
        (cases_eq s slot);
  }

-- a container with as many entries may take the place of a volume's
pub housed_put : (containers : Slots) (states : States) (s : ℕ) (x : VolumeState) (paged : Paged) → s < length containers.containers → state_at states s ≡ Some x → length paged.map.entries ≡ entry_count x.span → AreHoused containers states → AreHoused (with_container containers s (Some paged)) states
housed_put containers states s x paged within there long is = record {
  long = is.long;
  volumes = is.volumes;
  each = λ k. ⊎_elim
      (λ (e : k ≡ s). subst (λ (n : ℕ). Houses (state_at states n) (container_at (with_container containers s (Some paged)) n)) (sym e) here)
      (λ (other : k ≢ s). subst (λ (c : Option Paged). Houses (state_at states k) (map_in c)) (sym (get_or-set_other containers.containers s k (Some paged) None other)) (is.each k))
      (cases_eq k s);
  parents = is.parents;
}
  where
    here : Houses (state_at states s) (container_at (with_container containers s (Some paged)) s)
    here = subst (λ (o : Option VolumeState). Houses o (container_at (with_container containers s (Some paged)) s)) (sym there)
        (subst (λ (c : Option Paged). Houses (Some x) (map_in c)) (sym (get_or-set_same containers.containers s (Some paged) None within)) long)
