-- What the placing of one volume's files takes of its numbers and of the blocks.
use Rattle.std.proofs.Common.{◌≡◌, ℕ, ◌+◌, ◌<◌, ◌≤◌, true, is_some, Option, Some, None, refl, sym, ap, subst, arith, ⊎_elim}
use Rattle.std.specs.Prelude.{min, Result, Ok, Err, IfErr}
use Rattle.fv_disk.specs.Shown.{Shown}
use Rattle.fv_aggmap.specs.Space.{free_blocks}
use Rattle.fv_files.specs.declared.files.Files.{Files}
use Rattle.fv_pool.specs.declared.pool.Pool.{Pool}
use Rattle.fv_volume.specs.declared.state.VolumeState.{VolumeState}
use Rattle.fv_container.proofs.Damage.{none_damaged}
use Rattle.fv_pool.specs.BlocksOver.{free_numbers}
use Rattle.fv_pool.specs.Causes.{IsNoDamage}
use Rattle.fv_pool.specs.declared.fault.VolumeFault.{VolumeFault}
use Rattle.fv_pool.specs.declared.fault.VolumeFault.TheVariants.{Refused, DiskFault, Damaged, Memory}
use Rattle.fv_pool.specs.Lending.{lent_for, Lent}
use Rattle.fv_volume.specs.OneVolume.{home_in, IsStanding}
use Rattle.fv_pool.specs.Placing.{FlushCause, FlushFails, Goes}
use Rattle.fv_pool.specs.Tables.{pending_of}
use Rattle.fv_volume.specs.Held.{HasNumbers, HasPlaceCause, HasSpent, IsPlacedAs, LacksOneIn, MayFail}
use Rattle.fv_volume.specs.Placing.{TellsSound}

-- what was placed of a volume, by the room that there was for it
pub spends : (disk after : Shown) (pool : Pool) (x : VolumeState) (room : ℕ) (left : Pool) (y : VolumeState) (rest : ℕ) → room ≡ min (min (free_blocks pool.map) (pending_of x.files + 1)) (free_numbers x.map)
    → Goes (lent_for pool x.map disk 0 (home_in x) room) left y.map after rest → (pending_of y.files ≤ pending_of x.files) × (room + pending_of y.files ≤ rest + pending_of x.files)
    → pending_of x.files < free_numbers x.map → pending_of x.files < free_blocks pool.map → HasSpent pool x left y
spends disk after pool x room left y rest exact goes fits numbers blocks =
    let all : room ≡ pending_of x.files + 1 = omega (arith, exact, numbers, blocks) in
    let some : 0 < rest = omega (arith, all, fits.1) in
    let took = goes.goes.goes.spends some in
    record { fewer = fits.0; numbers = omega (arith, all, fits.1, took.numbers); blocks = omega (arith, all, fits.1, took.blocks) }

-- with files in memory or without them, where nothing changed
pub spends_held : (disk after : Shown) (pool : Pool) (x : VolumeState) (room : ℕ) (left : Pool) (y : VolumeState) (rest : ℕ) → (is_some x.files ≡ true → room ≡ min (min (free_blocks pool.map) (pending_of x.files + 1)) (free_numbers x.map))
    → (x.files ≡ None → (left ≡ pool) × (y ≡ x)) → Goes (lent_for pool x.map disk 0 (home_in x) room) left y.map after rest → (pending_of y.files ≤ pending_of x.files) × (room + pending_of y.files ≤ rest + pending_of x.files)
    → pending_of x.files < free_numbers x.map → pending_of x.files < free_blocks pool.map → HasSpent pool x left y
spends_held disk after pool x room left y rest exact idle goes fits numbers blocks = by x.files refl
  where
    by : (o : Option Files) → x.files ≡ o → HasSpent pool x left y
    by None none =
        let same = idle none in
        subst (λ (p : Pool). HasSpent pool x p y) (sym same.0) (subst (λ (z : VolumeState). HasSpent pool x pool z) (sym same.1) (record { fewer = omega arith; numbers = omega arith; blocks = omega arith }))
    by (Some f) some = spends disk after pool x room left y rest (exact (ap is_some some)) goes fits numbers blocks

-- with files in memory or without them: what was placed took no more than there is fewer pending, and there are numbers still
pub spent_one : (disk after : Shown) (pool left : Pool) (x y : VolumeState) → IsPlacedAs disk pool x after left y → IsStanding disk pool x → HasNumbers (Some x) → pending_of x.files < free_blocks pool.map → HasSpent pool x left y × HasNumbers (Some y)
spent_one disk after pool left x y placed stands numbers blocks = by x.files refl
  where
    below : pending_of x.files < free_numbers x.map → free_numbers x.map + pending_of y.files ≤ free_numbers y.map + pending_of x.files → pending_of y.files ≤ pending_of x.files → pending_of y.files < free_numbers y.map
    below some took fewer = omega (arith, some, took, fewer)

    by : (o : Option Files) → x.files ≡ o → HasSpent pool x left y × HasNumbers (Some y)
    by None none =
        let same = placed.idle none in
        subst (λ (p : Pool). HasSpent pool x p y × HasNumbers (Some y)) (sym same.0) (subst (λ (z : VolumeState). HasSpent pool x pool z × HasNumbers (Some z)) (sym same.1) (record { fewer = omega arith; numbers = omega arith; blocks = omega arith }, numbers))
    by (Some f) some =
        let room = numbers (ap is_some some) in
        let spent = placed.spent stands room blocks in
        (spent, λ more. below room spent.numbers spent.fewer)

-- ---- why nothing was placed

module _ (disk : Shown) (pool : Pool) (x : VolumeState) (room faults rest : ℕ) where
  abbrev old : Lent
  old = lent_for pool x.map disk 0 (home_in x) room

  lacks_one : (e : VolumeFault) → FlushFails (TellsSound disk pool x) old faults rest e → LacksOneIn disk pool x e
  lacks_one (Refused r) fails = tt
  lacks_one DiskFault fails = tt
  lacks_one (Damaged at want found) fails = λ told. ⊎_elim (λ out. out.1) (λ leaf. absurd (none_damaged disk.reads pool.containers at want found told.0.2 (leaf told.0.0))) (fails.1 told)
  lacks_one Memory fails = tt

  -- with all the room that there is
  pub may_fail : (r : Result Unit VolumeFault) → (is_some x.files ≡ true → pending_of x.files < free_numbers x.map → pending_of x.files < free_blocks pool.map → pending_of x.files ≤ room)
      → (TellsSound disk pool x → pending_of x.files ≤ room → IfErr r IsNoDamage) → IfErr r (λ e. is_some x.files ≡ true) → FlushCause (TellsSound disk pool x) old faults rest r → IfErr r (MayFail disk pool (Some x))
  may_fail (Ok done) exact enough filed cause = tt
  may_fail (Err e) exact enough filed cause = (filed, (λ told numbers blocks. enough told (exact filed numbers blocks), lacks_one e cause))

-- what the disk's count of faults tells
module _ (disk after : Shown) (pool : Pool) (x : VolumeState) (room rest : ℕ) where
  pub place_cause : (r : Result Unit VolumeFault) → FlushCause (TellsSound disk pool x) (lent_for pool x.map disk 0 (home_in x) room) after.faults rest r → HasPlaceCause disk after r
  place_cause (Ok done) cause = cause
  place_cause (Err (Refused r)) cause = cause
  place_cause (Err DiskFault) cause = cause
  place_cause (Err (Damaged at want found)) cause = cause.0
  place_cause (Err Memory) cause = cause
