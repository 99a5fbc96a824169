-- The files of one volume of a session are placed: each clone stands on what it stood on.
use Rattle.std.proofs.Common.{◌≡◌, ◌≢◌, Option, Some, refl, sym, ap, subst, ◌∙◌, arith}
use Rattle.std.specs.Prelude.{IfSome}
use Rattle.fv_disk.specs.Shown.{Shown}
use Rattle.fv_volmap.specs.Slots.{slot_of_base}
use Rattle.fv_pool.specs.declared.pool.Pool.{Pool}
use Rattle.fv_pool.specs.Lending.{GoesOver, Lent, lent_by, lent_for}
use Rattle.fv_volume.specs.declared.state.VolumeState.{VolumeState}
use Rattle.fv_volume.specs.Files.{IsLabelled}
use Rattle.fv_volume.specs.Held.{IsPlacedAs}
use Rattle.fv_volume.specs.OneVolume.{home_in}
use Rattle.fv_volume.specs.States.{States, state_at, with_state}
use Rattle.fv_volumes.specs.Footing.{AreFooted}
use Rattle.fv_volumes.specs.Housed.{AreHoused}
use Rattle.fv_volumes.proofs.CalledFooted.{keeps_footing}
use Rattle.fv_volumes.proofs.Footed.{each_stands, footed_stay, other_goes, own_goes}
use Rattle.fv_volumes.proofs.PlacedIn.{here, other}

module _ (disk after : Shown) (pool left : Pool) (states stay : States) (x y : VolumeState) (there : state_at states x.slot ≡ Some x) (now : stay ≡ with_state states x.slot (Some y)) (housed : AreHoused pool.containers states) (placed : IsPlacedAs disk pool x after left y) where
  abbrev old : Lent
  old = lent_for pool x.map disk 0 (home_in x) placed.room

  abbrev new : Lent
  new = lent_by left y.map after placed.goes.steps (home_in x) placed.rest placed.goes.goes.strays placed.goes.goes.noted

  goes : GoesOver old new
  goes = placed.goes.goes.goes

  -- Only the numbers of its active table and the entries under those may be others.
  pub placed_footed : AreFooted states pool.containers → AreFooted stay left.containers
  placed_footed footed = footed_stay states stay x.slot x y there (here disk after pool left states stay x y there now housed placed) (other disk after pool left states stay x y there now housed placed) (λ k. k ≢ 0)
      (keeps_footing (λ k. k ≢ 0) x y slot (ap (λ (z : VolumeState). z.name) placed.keeps) (ap (λ (z : VolumeState). z.span) placed.keeps) (ap (λ (z : VolumeState). z.known) placed.keeps)
      (ap (λ (z : VolumeState). z.base) placed.keeps) (ap (λ (z : VolumeState). z.snapshots) placed.keeps) goes.snapshots (goes.snapshots slot_of_base (λ e. absurd (omega (arith, e)))))
      pool.containers left.containers
      (λ s c b at based up. (each_stands states pool.containers footed s c b at based).0.above)
      (own_goes old new goes x y refl slot refl refl)
      (λ s c differ at. other_goes old new goes x y refl slot refl refl c (λ same. differ (sym (subst (λ (o : Option VolumeState). IfSome o (IsLabelled s)) at (housed.volumes s)).slot_is ∙ same)))
      footed
    where
      slot : y.slot ≡ x.slot
      slot = ap (λ (z : VolumeState). z.slot) placed.keeps
