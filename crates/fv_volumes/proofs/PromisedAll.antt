-- All volumes where one got another size or another kind of guarantee: each has the blocks and the files that it had, and calls can be made on each still.
use Rattle.std.proofs.Common.{◌≡◌, ◌≢◌, ⊎_elim, ℕ, ◌<◌, Bool, List, length, Option, Some, None, true≢false, refl, sym, ap, subst, ◌∙◌, arith, length-set}
use Rattle.std.specs.Prelude.{IfSome, sum_by}
use Rattle.std.proofs.lemmas.Bool.{cases_eq}
use Rattle.std.proofs.lemmas.List.{get_or-set_same, get_or-set_other}
use Rattle.std.proofs.lemmas.List.Sums.{sum_by-set}
use Rattle.fv_disk.specs.Shown.{Image, Shown}
use Rattle.fv_model.specs.declared.commands.Command.{Command}
use Rattle.fv_model.specs.declared.commands.Kind.{Kind}
use Rattle.fv_root.specs.declared.find.Found.{Found}
use Rattle.fv_container.specs.Mapped.{Mapped}
use Rattle.fv_container.specs.Paged.{Paged}
use Rattle.fv_container.specs.Chains.{Slots, container_at, paged_at, slot_count}
use Rattle.fv_pool.specs.declared.pool.Pool.{Pool}
use Rattle.fv_volume.specs.declared.state.VolumeState.{VolumeState}
use Rattle.fv_volume.specs.Files.{AreNamed, IsLabelled}
use Rattle.fv_volume.specs.Held.{IsHeldIn, IsReadyIn}
use Rattle.fv_volumes.specs.Housed.{AreHoused}
use Rattle.fv_volume.specs.Loading.{Houses}
use Rattle.fv_volume.specs.Promising.{IsPromised, promised}
use Rattle.fv_volume.specs.States.{States, parent_in, state_at, with_state}
use Rattle.fv_volume.specs.Stored.{AreSpacedIn, has_block}
use Rattle.fv_volumes.specs.UnderRoot.{IsLentAt}
use Rattle.fv_volumes.proofs.Made.{from_pairs, to_pair}
use Rattle.fv_volume.proofs.Promised.{promised_held, promised_ready}
use Rattle.fv_volumes.proofs.StandingMaps.{maps_still}
use Rattle.fv_volumes.proofs.PromisedOne.{inside_row}

module _ (old : States) (blocks : ℕ) (c : Command) (name : List ℕ) (size : VolumeState → ℕ) (kind : VolumeState → Kind) (new : States) (is : IsPromised old blocks c name size kind new) where
  abbrev x : VolumeState
  x = is.state

  abbrev y : VolumeState
  y = promised is.state (size is.state) (kind is.state)

  in_row : is.slot < length old
  in_row = inside_row old is.slot x is.there

  pub promised_here : state_at new is.slot ≡ Some y
  promised_here = ap (λ (s : States). state_at s is.slot) is.row ∙ get_or-set_same old is.slot (Some y) None in_row

  pub promised_elsewhere : (s : ℕ) → s ≢ is.slot → state_at new s ≡ state_at old s
  promised_elsewhere s differ = ap (λ (xs : States). state_at xs s) is.row ∙ get_or-set_other old is.slot s (Some y) None differ

  -- what the volume had it has
  same_at : {T : Type 0} (f : Option VolumeState → T) → f (Some y) ≡ f (Some x) → (s : ℕ) → f (state_at new s) ≡ f (state_at old s)
  same_at f same s = ⊎_elim
      (λ (here : s ≡ is.slot). ap f (ap (state_at new) here ∙ promised_here) ∙ same ∙ sym (ap f (ap (state_at old) here ∙ is.there)))
      (λ (differ : s ≢ is.slot). ap f (promised_elsewhere s differ))
      (cases_eq s is.slot)

  -- what is so of each slot is so, where it stays so of the one
  turned : (P : ℕ → Option VolumeState → Type 0) → ((s : ℕ) → s ≡ is.slot → P s (Some x) → P s (Some y)) → (s : ℕ) → P s (state_at old s) → P s (state_at new s)
  turned P turns s was = ⊎_elim
      (λ (here : s ≡ is.slot). subst (P s) (sym (ap (state_at new) here ∙ promised_here)) (turns s here (subst (P s) (ap (state_at old) here ∙ is.there) was)))
      (λ (differ : s ≢ is.slot). subst (P s) (sym (promised_elsewhere s differ)) was)
      (cases_eq s is.slot)

  pub each_promised : (P : ℕ → VolumeState → Type 0) → (P is.slot x → P is.slot y) → ((s : ℕ) → IfSome (state_at old s) (P s)) → (s : ℕ) → IfSome (state_at new s) (P s)
  each_promised P turns was s = turned (λ s o. IfSome o (P s)) (λ s here one. subst (λ (k : ℕ). P k y) (sym here) (turns (subst (λ (k : ℕ). P k x) here one))) s (was s)

  -- calls can be made on each
  pub ready_promised : (disk : Shown) (pool : Pool) → ((s : ℕ) → IfSome (state_at old s) (IsReadyIn disk pool s)) → (s : ℕ) → IfSome (state_at new s) (IsReadyIn disk pool s)
  ready_promised disk pool = each_promised (IsReadyIn disk pool) (λ one. record {
    slot = one.slot;
    ready = promised_ready x (size x) (kind x) disk pool (subst (λ (n : ℕ). IsLabelled n y) (sym one.slot) is.labelled) one.ready;
  })

  -- each is one of the session still
  pub held_promised : (disk : Shown) (pool : Pool) → ((s : ℕ) → IfSome (state_at old s) (IsHeldIn disk pool s)) → (s : ℕ) → IfSome (state_at new s) (IsHeldIn disk pool s)
  held_promised disk pool = each_promised (IsHeldIn disk pool) (λ one.
      promised_held x (size x) (kind x) disk pool is.slot (subst (λ (n : ℕ). IsLabelled n y) (sym one.slot) is.labelled) (let uses = is.uses in omega (arith, uses)) one)

  -- they are in order, under other names each, and spaced
  pub housed_promised : (containers : Slots) → AreHoused containers old → AreHoused containers new
  housed_promised containers was = record {
    long = ap (λ (s : States). length s) is.row ∙ length-set old is.slot (Some y) ∙ was.long;
    volumes = each_promised IsLabelled (λ one. is.labelled) was.volumes;
    each = λ s. turned (λ s o. Houses o (container_at containers s)) (λ s here. houses (container_at containers s)) s (was.each s);
    parents = λ s. was.parents s ∙ sym (same_at parent_in refl s);
  }
    where
      houses : (map : Option Mapped) → Houses (Some x) map → Houses (Some y) map
      houses None is = is
      houses (Some map) is = is

  pub names_promised : AreNamed old → AreNamed new
  names_promised named = from_pairs new (λ s k a b here also same.
      let one = was_there s a here in
      let two = was_there k b also in
      to_pair old named s k one.0 two.0 one.1 two.1 (one.2 ∙ same ∙ sym two.2))
    where
      was_there : (s : ℕ) (a : VolumeState) → state_at new s ≡ Some a → (o : VolumeState) × (state_at old s ≡ Some o) × (o.name ≡ a.name)
      was_there s a at = ⊎_elim
          (λ (here : s ≡ is.slot). (x, ap (state_at old) here ∙ is.there, name_of a (sym promised_here ∙ ap (state_at new) (sym here) ∙ at)))
          (λ (differ : s ≢ is.slot). (a, sym (promised_elsewhere s differ) ∙ at, refl))
          (cases_eq s is.slot)
        where
          name_of : (a : VolumeState) → ◌≡◌ {A = Option VolumeState} (Some y) (Some a) → x.name ≡ a.name
          name_of a e = cc

  pub spaced_promised : (many : ℕ) (next : List Bool) (container : ℕ → Option Mapped) → AreSpacedIn many next (state_at old) container → AreSpacedIn many next (state_at new) container
  spaced_promised many next container was = record {
    apart = λ s k b first second differ one other. was.apart s k b first second differ (sym (has s b) ∙ one) (sym (has k b) ∙ other);
    held = λ s b low its. was.held s b low (sym (has s b) ∙ its);
    set = λ b held. let found = was.set b held in (found.0, found.1, has found.0 b ∙ found.2);
  }
    where
      by : (map : Option Mapped) (b : ℕ) → has_block (Some y) map b ≡ has_block (Some x) map b
      by None b = refl
      by (Some map) b = refl

      has : (s b : ℕ) → has_block (state_at new s) (container s) b ≡ has_block (state_at old s) (container s) b
      has s b = same_at (λ (o : Option VolumeState). has_block o (container s) b) (by (container s) b) s

  -- each slot can be lent still
  pub lent_promised : (i : Image) (found : Found) (containers : Slots) → ((s : ℕ) → s < slot_count → IsLentAt i found s (state_at old s) (paged_at containers s)) → (s : ℕ) → s < slot_count → IsLentAt i found s (state_at new s) (paged_at containers s)
  lent_promised i found containers slots s low = turned (λ s o. IsLentAt i found s o (paged_at containers s)) (λ s here. by s (paged_at containers s)) s (slots s low)
    where
      by : (s : ℕ) (c : Option Paged) → IsLentAt i found s (Some x) c → IsLentAt i found s (Some y) c
      by s None lent = lent
      by s (Some paged) lent = record {
        label = lent.label;
        nodes = lent.nodes;
        clean = lent.clean;
        apart = record { some = lent.apart.some; entries = lent.apart.entries; nodes = lent.apart.nodes; label = lent.apart.label };
        maps = maps_still i found x y paged.map paged.map refl refl (λ k other. refl) refl (λ v past. refl) lent.maps;
        unchanged = λ isnt. absurd (true≢false isnt);
      }

  -- what each needs, all need together as before, where the one needs as much
  pub sum_promised : (f : Option VolumeState → ℕ) → f (Some y) ≡ f (Some x) → sum_by f new ≡ sum_by f old
  sum_promised f same =
      let sum = sum_by-set f old is.slot (Some y) None in_row in
      let row : sum_by f new ≡ sum_by f (with_state old is.slot (Some y)) = ap (λ (s : States). sum_by f s) is.row in
      let there : f (state_at old is.slot) ≡ f (Some x) = ap f is.there in
      omega (arith, sum, row, same, there)
