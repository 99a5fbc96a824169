-- A session after the end of cleaning: the volume is held, known, and stands for the volume that it stood for, known; the others stay.
use Rattle.std.proofs.Common.{◌≡◌, ◌≢◌, ◌<◌, ℕ, true, true≢false, length, Option, Some, None, refl, sym, ap, subst, ◌∙◌, ⊎_elim, arith, get_or-set_same, get_or-set_other, length-set}
use Rattle.std.specs.Prelude.{IfSome}
use Rattle.std.specs.Option.{option_map, option_and_then}
use Rattle.std.proofs.lemmas.Bool.{cases_eq}
use Rattle.std.proofs.lemmas.List.Sums.{sum_by-set}
use Rattle.std.proofs.lemmas.Option.{same_Some}
use Rattle.fv_disk.specs.Shown.{Shown as Disk}
use Rattle.fv_container.specs.Mapped.{Mapped}
use Rattle.fv_container.specs.Chains.{container_at, slot_count}
use Rattle.fv_image.specs.Views.{Footing}
use Rattle.fv_pool.specs.declared.pool.Pool.{Pool}
use Rattle.fv_volume.specs.declared.state.Base.{Base}
use Rattle.fv_volume.specs.declared.state.VolumeState.{VolumeState}
use Rattle.fv_volume.specs.Files.{AreNamed, IsLabelled}
use Rattle.fv_volume.specs.Held.{IsHeldIn}
use Rattle.fv_volume.specs.Loading.{Houses}
use Rattle.fv_volume.specs.OneVolume.{volume_for}
use Rattle.fv_volume.specs.Slots.{committed_by, sum_of}
use Rattle.fv_volume.specs.States.{States, footing_in, parent_in, state_at, with_state}
use Rattle.fv_volumes.specs.Footing.{AreFooted, IsFooted, IsOnBase, ends_in, footing_at}
use Rattle.fv_volumes.specs.Housed.{AreHoused}
use Rattle.fv_volumes.proofs.Footed.{each_stands, footed_beside}
use Rattle.fv_volumes.proofs.Made.{from_pairs, to_pair}
use Rattle.fv_cleaner.specs.Cleaning.{FinishesAt, FinishesIn, known_now}
use Rattle.fv_cleaner.specs.Left.{left_in}
use Rattle.fv_cleaner.specs.Staying.{MayBeCleaned}
use Rattle.fv_cleaner.proofs.Exact.{known_held, known_volume}

-- The volume of the slot is known now, and all stand.
pub record StandsKnown (disk : Disk) (pool : Pool) (states : States) (slot : ℕ) (x : VolumeState) (new : States) : Type 0 where
  pub row : new ≡ with_state states slot (Some (known_now x))
  pub each : (s : ℕ) → IfSome (state_at new s) (IsHeldIn disk pool s)
  pub volume : volume_for disk pool (known_now x) ≡ record (volume_for disk pool x) { known = true }
  pub others : (s : ℕ) → s ≢ slot → state_at new s ≡ state_at states s
  pub housed : AreHoused pool.containers new
  pub footed : AreFooted new pool.containers
  pub named : AreNamed states → AreNamed new
  pub commits : sum_of new ≡ sum_of states

module _ (disk : Disk) (pool : Pool) (states new : States) (slot : ℕ) (x : VolumeState) (may : MayBeCleaned disk pool states slot x) (none : left_in disk.reads pool x ≡ 0) (finishes : FinishesAt states slot new) where
  abbrev k : VolumeState
  k = known_now x

  row : new ≡ with_state states slot (Some k)
  row = subst (λ (o : Option VolumeState). FinishesIn states slot o new) may.there finishes

  held : IsHeldIn disk pool slot x
  held = subst (λ (o : Option VolumeState). IfSome o (IsHeldIn disk pool slot)) may.there (may.each slot)

  inside : slot < length states
  inside = let low = held.ready.lent.within in let at = held.slot in let long = may.housed.long in omega (arith, low, at, long)

  here : state_at new slot ≡ Some k
  here = ap (λ (r : States). state_at r slot) row ∙ get_or-set_same states slot (Some k) None inside

  others : (s : ℕ) → s ≢ slot → state_at new s ≡ state_at states s
  others s differ = ap (λ (r : States). state_at r s) row ∙ get_or-set_other states slot s (Some k) None differ

  k_held : IsHeldIn disk pool slot k
  k_held = known_held disk pool states slot x may none

  each_now : (s : ℕ) → IfSome (state_at new s) (IsHeldIn disk pool s)
  each_now s = ⊎_elim
      (λ (e : s ≡ slot). subst (λ (n : ℕ). IfSome (state_at new n) (IsHeldIn disk pool n)) (sym e) (subst (λ (o : Option VolumeState). IfSome o (IsHeldIn disk pool slot)) (sym here) k_held))
      (λ (other : s ≢ slot). subst (λ (o : Option VolumeState). IfSome o (IsHeldIn disk pool s)) (sym (others s other)) (may.each s))
      (cases_eq s slot)

  houses : (c : Option Mapped) → Houses (Some x) c → Houses (Some k) c
  houses None was = absurd was
  houses (Some m) was = was

  housed_now : AreHoused pool.containers new
  housed_now = record {
    long = ap (λ (r : States). length r) row ∙ length-set states slot (Some k) ∙ may.housed.long;
    volumes = λ s. ⊎_elim
        (λ (e : s ≡ slot). subst (λ (n : ℕ). IfSome (state_at new n) (IsLabelled n)) (sym e) (subst (λ (o : Option VolumeState). IfSome o (IsLabelled slot)) (sym here) (subst (λ (n : ℕ). IsLabelled n k) k_held.slot k_held.ready.labelled)))
        (λ (other : s ≢ slot). subst (λ (o : Option VolumeState). IfSome o (IsLabelled s)) (sym (others s other)) (may.housed.volumes s))
        (cases_eq s slot);
    each = λ s. ⊎_elim
        (λ (e : s ≡ slot). subst (λ (n : ℕ). Houses (state_at new n) (container_at pool.containers n)) (sym e) (subst (λ (o : Option VolumeState). Houses o (container_at pool.containers slot)) (sym here)
        (houses (container_at pool.containers slot) (subst (λ (o : Option VolumeState). Houses o (container_at pool.containers slot)) may.there (may.housed.each slot)))))
        (λ (other : s ≢ slot). subst (λ (o : Option VolumeState). Houses o (container_at pool.containers s)) (sym (others s other)) (may.housed.each s))
        (cases_eq s slot);
    parents = λ s. may.housed.parents s ∙ ⊎_elim
        (λ (e : s ≡ slot). ap (λ (n : ℕ). parent_in (state_at states n)) e ∙ ap parent_in may.there ∙ sym (ap parent_in here) ∙ sym (ap (λ (n : ℕ). parent_in (state_at new n)) e))
        (λ (other : s ≢ slot). ap parent_in (sym (others s other)))
        (cases_eq s slot);
  }

  -- no volume stood on it while it wasn't known
  not_on : (s : ℕ) (c : VolumeState) (b : Base) → state_at states s ≡ Some c → c.base ≡ Some b → b.parent ≢ slot
  not_on s c b at based up =
      let is = (each_stands states pool.containers may.footed s c b at based).0 in
      let this : is.parent ≡ x = same_Some is.parent x (sym is.there ∙ ap (state_at states) up ∙ may.there) in
      true≢false (sym is.known ∙ ap (λ (z : VolumeState). z.known) this ∙ may.unclean)

  each_footed : (s : ℕ) → IfSome (state_at new s) (λ c. IfSome c.base (λ b. IsFooted new c b × IsOnBase pool.containers c))
  each_footed s = ⊎_elim
      (λ (e : s ≡ slot). subst (λ (n : ℕ). IfSome (state_at new n) (λ c. IfSome c.base (λ b. IsFooted new c b × IsOnBase pool.containers c))) (sym e)
      (subst (λ (o : Option VolumeState). IfSome o (λ c. IfSome c.base (λ b. IsFooted new c b × IsOnBase pool.containers c))) (sym here) (mine x.base refl)))
      (λ (other : s ≢ slot). subst (λ (o : Option VolumeState). IfSome o (λ c. IfSome c.base (λ b. IsFooted new c b × IsOnBase pool.containers c))) (sym (others s other)) (theirs (state_at states s) refl))
      (cases_eq s slot)
    where
      mine : (o : Option Base) → x.base ≡ o → IfSome o (λ b. IsFooted new k b × IsOnBase pool.containers k)
      mine None based = tt
      mine (Some b) based =
          let is = each_stands states pool.containers may.footed slot x b may.there based in
          (footed_beside states new x k b refl (λ v. refl) (others b.parent (not_on slot x b may.there based)) is.0, record { leaves = is.1.leaves; rests = is.1.rests })

      theirs : (o : Option VolumeState) → state_at states s ≡ o → IfSome o (λ c. IfSome c.base (λ b. IsFooted new c b × IsOnBase pool.containers c))
      theirs None at = tt
      theirs (Some c) at = by c.base refl
        where
          by : (o : Option Base) → c.base ≡ o → IfSome o (λ b. IsFooted new c b × IsOnBase pool.containers c)
          by None based = tt
          by (Some b) based =
              let is = each_stands states pool.containers may.footed s c b at based in
              (footed_beside states new c c b refl (λ v. refl) (others b.parent (not_on s c b at based)) is.0, is.1)

  footing_same : footing_at new ≡ footing_at states
  footing_same = λ i s. one s i
    where
      one : (s : ℕ) → footing_at new s ≡ footing_at states s
      one s = ⊎_elim
          (λ (e : s ≡ slot). ap (footing_at new) e ∙ ap (option_and_then (λ (z : VolumeState). option_map footing_in z.base)) here ∙ sym (ap (footing_at states) e ∙ ap (option_and_then (λ (z : VolumeState). option_map footing_in z.base)) may.there))
          (λ (other : s ≢ slot). ap (option_and_then (λ (z : VolumeState). option_map footing_in z.base)) (others s other))
          (cases_eq s slot)

  footed_now : AreFooted new pool.containers
  footed_now = record { each = each_footed; ends = λ s low. ap (λ (f : ℕ → Option Footing). ends_in f slot_count s) footing_same ∙ may.footed.ends s low }

  record Named (s : ℕ) (c : VolumeState) : Type 0 where
    volume : VolumeState
    there_is : state_at states s ≡ Some volume
    same : c.name ≡ volume.name

  was_named : (s : ℕ) (c : VolumeState) → state_at new s ≡ Some c → Named s c
  was_named s c at = ⊎_elim
      (λ (e : s ≡ slot). record { volume = x; there_is = ap (state_at states) e ∙ may.there; same = ap (λ (z : VolumeState). z.name) (same_Some c k (sym at ∙ ap (state_at new) e ∙ here)) })
      (λ (other : s ≢ slot). record { volume = c; there_is = sym (others s other) ∙ at; same = refl })
      (cases_eq s slot)

  named_now : AreNamed states → AreNamed new
  named_now named = from_pairs new (λ s j c d first second same.
      let a = was_named s c first in
      let b = was_named j d second in
      to_pair states named s j a.volume b.volume a.there_is b.there_is (sym a.same ∙ same ∙ b.same))

  commits_now : sum_of new ≡ sum_of states
  commits_now =
      let sum = sum_by-set committed_by states slot (Some k) None inside in
      let was : committed_by (state_at states slot) ≡ committed_by (Some k) = ap committed_by may.there in
      let whole : sum_of new ≡ sum_of (with_state states slot (Some k)) = ap (λ (r : States). sum_of r) row in
      omega (arith, sum, was, whole)

  -- So the session stands.
  pub stands_known : StandsKnown disk pool states slot x new
  stands_known = record {
    row = row;
    each = each_now;
    volume = known_volume disk pool states slot x may none;
    others = others;
    housed = housed_now;
    footed = footed_now;
    named = named_now;
    commits = commits_now;
  }
