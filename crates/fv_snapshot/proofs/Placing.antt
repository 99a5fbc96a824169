-- What changed of a volume's files was placed: it is what it was between points. Nothing is placed of a volume that stays. And what placing fails
-- for.
use Rattle.std.proofs.Common.{◌≡◌, ◌+◌, ◌≤◌, ℕ, Bool, true, false, List, Option, Some, Err, is_some, refl, sym, ap, subst, ◌∙◌, arith}
use Rattle.std.proofs.lemmas.Bool.{true≢false}
use Rattle.fv_disk.specs.Shown.{Shown as Disk}
use Rattle.fv_charge.specs.declared.ledger.Ledger.{Ledger}
use Rattle.fv_files.specs.declared.files.Files.{Files}
use Rattle.fv_model.specs.declared.answers.Refusal.{Refusal}
use Rattle.fv_model.specs.declared.commands.Command.{Command}
use Rattle.fv_model.specs.Machines.{Machine}
use Rattle.std.specs.FinSet as set
use Rattle.fv_model.specs.Space.{base_ids}
use Rattle.fv_model.specs.Volumes.{Volume}
use Rattle.fv_pool.specs.declared.fault.VolumeFault.{VolumeFault}
use Rattle.fv_pool.specs.declared.fault.VolumeFault.TheVariants.{Refused, DiskFault, Damaged, Memory}
use Rattle.fv_pool.specs.declared.pool.Pool.{Pool}
use Rattle.fv_volume.specs.declared.state.VolumeState.{VolumeState}
use Rattle.fv_volume.specs.Calls.{Changes}
use Rattle.fv_volume.specs.Held.{IsHeldIn, IsPlaceFault, IsPlacedAs, MayFail}
use Rattle.fv_pool.specs.Lending.{lent_for, no_damage}
use Rattle.fv_pool.specs.LendingLaws.{goes_itself}
use Rattle.fv_volume.specs.OneVolume.{home_in, IsReady}
use Rattle.fv_snapshot.specs.Creating.{SnapFails}

-- A volume between points is one still where what changed of its files was placed.
pub placed_held : (d e : Disk) (p q : Pool) (x y : VolumeState) → IsPlacedAs d p x e q y → IsHeldIn d p x.slot x → IsHeldIn e q x.slot y
placed_held d e p q x y placed held =
    let ledger : y.ledger ≡ x.ledger = ap (λ (z : VolumeState). z.ledger) placed.keeps in
    let size : y.size ≡ x.size = ap (λ (z : VolumeState). z.size) placed.keeps in
    let charge : y.ledger.charge ≡ x.ledger.charge = ap (λ (l : Ledger). l.charge) ledger in
    let fits = held.within in
    record {
      slot = ap (λ (z : VolumeState). z.slot) placed.keeps;
      ready = placed.ready;
      stands = placed.standing held.stands;
      led = placed.led held.stands held.led;
      well = placed.well held.stands held.led held.well;
      wide = subst (λ (v : Volume). v.most + (set.len (base_ids v.base) + 256) ≤ v.span) (sym (placed.volume held.stands)) held.wide;
      within = omega (arith, charge, size, fits);
    }

-- And of a volume that stays nothing was placed.
pub none_placed : (d : Disk) (p : Pool) (x : VolumeState) → IsReady d p x → IsPlacedAs d p x d p x
none_placed d p x ready = record {
  keeps = refl;
  ready = ready;
  changed = λ some. by x.changed refl some;
  idle = λ none. (refl, refl);
  standing = λ is. is;
  volume = λ is. refl;
  led = λ is led. led;
  well = λ is led well. well;
  unused = λ is v none. refl;
  room = 0;
  rest = 0;
  goes = record { steps = 0; goes = record { strays = 0; noted = no_damage; goes = goes_itself (lent_for p x.map d 0 (home_in x) 0) } };
  spent = λ is numbers blocks. record { fewer = omega arith; numbers = omega arith; blocks = omega arith };
}
  where
    by : (b : Bool) → x.changed ≡ b → is_some x.files ≡ true → x.changed ≡ true
    by true e some = e
    by false e some = absurd (true≢false (sym some ∙ ap (λ (o : Option Files). is_some o) (ready.changed e)))

-- ---- why a step on snapshots wasn't done

-- Placing refuses nothing,
pub never_refused : (d e : Disk) (why : VolumeFault) → IsPlaceFault d e why → (r : Refusal) → why ≡ Refused r → ⊥
never_refused d e why cause r is = subst (IsPlaceFault d e) is cause

-- so what it fails for a step on snapshots fails for,
pub place_fails : (d e : Disk) (p : Pool) (x : VolumeState) (why : VolumeFault) → IsPlaceFault d e why → MayFail d p (Some x) why → SnapFails d e p x why
place_fails d e p x (Refused r) cause may = absurd cause
place_fails d e p x DiskFault cause may = (may, cause)
place_fails d e p x (Damaged at want found) cause may = (may, cause)
place_fails d e p x Memory cause may = cause

-- and no machine is asked.
pub place_changes : (has : Machine → Type 0) (command : Command) (name : List ℕ) (old new : Volume) (d e : Disk) (why : VolumeFault) → IsPlaceFault d e why → new ≡ old → Changes has command name old new (Err why)
place_changes has command name old new d e (Refused r) cause same = absurd cause
place_changes has command name old new d e DiskFault cause same = record { agrees = λ m is. tt; becomes = tt; stays = same }
place_changes has command name old new d e (Damaged at want found) cause same = record { agrees = λ m is. tt; becomes = tt; stays = same }
place_changes has command name old new d e Memory cause same = record { agrees = λ m is. tt; becomes = tt; stays = same }
