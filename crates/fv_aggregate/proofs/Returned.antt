-- A volume of a session was lent to a call, and is put back.
use Rattle.std.proofs.Common.{◌≡◌, ℕ, Bool, true, false, List, Option, Some, None, length, sym, ap, subst, refl, ◌∙◌}
use Rattle.std.specs.Prelude.{IfSome, IsNone}
use Rattle.std.specs.Option.{is_some}
use Rattle.std.proofs.lemmas.List.{set-get_or}
use Rattle.fv_disk.specs.Shown.{Shown}
use Rattle.fv_model.specs.declared.commands.Command.{Command}
use Rattle.fv_laws.proofs.Changes.{same_name}
use Rattle.fv_volume.specs.declared.state.VolumeState.{VolumeState}
use Rattle.fv_volume.specs.Changing.{keeps_numbers}
use Rattle.fv_volume.specs.Held.{IsReadyIn}
use Rattle.fv_volume.specs.OneVolume.{IsReady}
use Rattle.fv_volume.specs.Slots.{is_named}
use Rattle.fv_volume.specs.States.{States, state_at, with_state}
use Rattle.fv_pool.specs.declared.fault.VolumeFault.{VolumeFault}
use Rattle.fv_pool.specs.declared.fault.VolumeFault.TheVariants as volume
use Rattle.fv_cp.specs.Lent.{FitTogether}
use Rattle.fv_aggregate.specs.declared.fault.Fault.{Fault}
use Rattle.fv_aggregate.specs.Looking.{Breaks}
use Rattle.fv_aggregate.specs.declared.session.Session.{Session}
use Rattle.fv_aggregate.specs.Standing.{StandsReady}

-- one that is as it was leaves all as it was
pub put_back : (states : States) (slot : ℕ) (x y : VolumeState) → state_at states slot ≡ Some x → y ≡ x → with_state states slot (Some y) ≡ states
put_back states slot x y there same =
    ap (λ (z : VolumeState). with_state states slot (Some z)) same ∙ ap (λ (o : Option VolumeState). with_state states slot o) (sym there) ∙ set-get_or states slot None

-- calls can be made on it
ready_at : (d : Shown) (s : Session) → StandsReady d s → (slot : ℕ) (x : VolumeState) → state_at s.volumes slot ≡ Some x → IsReady d s.pool x
ready_at d s stands slot x there = (subst (λ (o : Option VolumeState). IfSome o (IsReadyIn d s.pool slot)) there (stands.ready slot)).ready

-- so it is of the session whose parts are these
pub ready_lent : (d : Shown) (v s : Session) → v ≡ s → StandsReady d s → (slot : ℕ) (x : VolumeState) → state_at v.volumes slot ≡ Some x → IsReady d v.pool x
ready_lent d v s same stands slot x there = ready_at d v (subst (StandsReady d) (sym same) stands) slot x there

-- its volumes are as many
pub long_lent : (v s : Session) → v ≡ s → (IsNone v.failed → FitTogether v.pool v.volumes) → IsNone s.failed → length v.volumes ≡ 64
long_lent v s same fit fresh = (fit (subst (λ (n : Session). IsNone n.failed) (sym same) fresh)).housed.long

module _ (v s : Session) (same : v ≡ s) (slot : ℕ) (x : VolumeState) (lent : state_at v.volumes slot ≡ Some x) where
  pub lent_there : state_at s.volumes slot ≡ Some x
  lent_there = subst (λ (n : Session). state_at n.volumes slot ≡ Some x) same lent

  -- what holds of it holds of the session's slot
  pub lent_has : (P : VolumeState → Type 0) → P x → IfSome (state_at s.volumes slot) P
  lent_has P holds = subst (λ (o : Option VolumeState). IfSome o P) (sym lent_there) holds

  -- one that is as it was leaves the session's volumes
  pub volumes_lent : (y : VolumeState) → y ≡ x → with_state v.volumes slot (Some y) ≡ s.volumes
  volumes_lent y still = put_back v.volumes slot x y lent still ∙ ap (λ (n : Session). n.volumes) same

-- it is the one that was there
pub same_there : (o : Option VolumeState) (x y : VolumeState) → o ≡ Some x → o ≡ Some y → x ≡ y
same_there o x y one other = cc

-- a name that the volume of a slot has is that volume's
pub named_there : (o : Option VolumeState) (name : List ℕ) → is_named o name ≡ true → (x : VolumeState) × ((o ≡ Some x) × (name ≡ x.name))
named_there None name named = absurd cc
named_there (Some x) name named = (x, (refl, sym (same_name x.name name named)))

-- it keeps the numbers of its files, unless one is made or removed
pub keeps_changed : (c : Command) (x y : VolumeState) (slot : ℕ) → (keeps_numbers c ≡ true → y.numbers ≡ x.numbers) → is_some x.numbers ≡ true → ((slot ≡ slot) × (keeps_numbers c ≡ false) → ⊥) → is_some y.numbers ≡ true
keeps_changed c x y slot same known stays = by (keeps_numbers c) refl
  where
    by : (b : Bool) → keeps_numbers c ≡ b → is_some y.numbers ≡ true
    by true is = ap (λ k. is_some k) (same is) ∙ known
    by false is = absurd (stays (refl, is))

-- what a session makes of a fault leaves its volumes and what they share
pub breaks_beside : (d : Shown) (f : VolumeFault) (old new : Session) (fault : Fault) → Breaks d f old new fault → (new.pool ≡ old.pool) × (new.volumes ≡ old.volumes)
breaks_beside d (volume.Refused r) old new fault is = (ap (λ (s : Session). s.pool) is.1.same, ap (λ (s : Session). s.volumes) is.1.same)
breaks_beside d volume.DiskFault old new fault is = (ap (λ (s : Session). s.pool) is.1.same, ap (λ (s : Session). s.volumes) is.1.same)
breaks_beside d (volume.Damaged at want found) old new fault is = (ap (λ (s : Session). s.pool) is.1, ap (λ (s : Session). s.volumes) is.1)
breaks_beside d volume.Memory old new fault is = (ap (λ (s : Session). s.pool) is.1, ap (λ (s : Session). s.volumes) is.1)

-- what is said of a session and its answer is said of what they are
pub as_told : {A : Type 0} (P : Session → A → Type 0) (new was : Session) (result told : A) → new ≡ was → result ≡ told → P was told → P new result
as_told P new was result told same is holds = subst (P new) (sym is) (subst (λ (n : Session). P n told) (sym same) holds)
