-- A clean step answers false exactly where nothing is left to do, and makes less of it where it answers true. Where nothing is left the volume may be
-- called known: it is held, and stands for what it stood for, known.
use Rattle.std.proofs.Common.{◌≡◌, ◌<◌, ℕ, Bool, true, false, Option, refl, subst, arith}
use Rattle.std.specs.Prelude.{IfSome}
use Rattle.std.specs.List.{list_any}
use Rattle.fv_disk.specs.Shown.{Shown as Disk}
use Rattle.fv_container.specs.Chains.{TellsEntries}
use Rattle.fv_image.specs.HintRules.{is_unknown}
use Rattle.fv_pool.specs.declared.pool.Pool.{Pool}
use Rattle.fv_volume.specs.declared.state.VolumeState.{VolumeState}
use Rattle.fv_volume.specs.Held.{IsHeldIn}
use Rattle.fv_volume.specs.OneVolume.{volume_for}
use Rattle.fv_volume.specs.States.{States}
use Rattle.fv_cleaner.specs.Cleaning.{known_now}
use Rattle.fv_cleaner.specs.Left.{left_in}
use Rattle.fv_cleaner.specs.Staying.{MayBeCleaned}
use Rattle.fv_cleaner.specs.Stepping.{CleansVolume, roots_of}
use Rattle.fv_cleaner.proofs.Finished.{finished_held, finished_volume}
use Rattle.fv_cleaner.proofs.Lowers.{lowers, some_counted}
use Rattle.fv_cleaner.proofs.NoneLeft.{base_known, none_left}

-- where nothing is left no root is unknown
roots_clear : (disk : Disk) (pool : Pool) (x : VolumeState) → left_in disk.reads pool x ≡ 0 → list_any is_unknown (roots_of x) ≡ false
unfolding left_in
roots_clear disk pool x none = by (list_any is_unknown (roots_of x)) refl
  where
    by : (b : Bool) → list_any is_unknown (roots_of x) ≡ b → list_any is_unknown (roots_of x) ≡ false
    by false e = e
    by true e = let some = some_counted is_unknown (roots_of x) e in absurd (omega (arith, none, some))

module _ (disk : Disk) (pool : Pool) (states : States) (slot : ℕ) (x : VolumeState) (may : MayBeCleaned disk pool states slot x) where
  held : IsHeldIn disk pool slot x
  held = subst (λ (o : Option VolumeState). IfSome o (IsHeldIn disk pool slot)) may.there (may.each slot)

  told : TellsEntries disk pool.containers
  told = (held.stands.told.0, held.stands.told.2)

  -- what is left after a step
  abbrev pub Falls : Pool → VolumeState → Bool → Type 0
  Falls left y true = left_in disk.reads left y < left_in disk.reads pool x
  Falls left y false = left_in disk.reads pool x ≡ 0

  pub falls : (left : Pool) (y : VolumeState) (took : Bool) → CleansVolume disk pool x left y took → Falls left y took
  falls left y true cleans = lowers disk pool x left y told held.stands.told.1 cleans
  falls left y false cleans = none_left disk pool slot x held may.files cleans.roots.0 (base_known disk pool states slot x may.there may.each may.footed)

  -- So it answers false where nothing is left.
  pub false_there : (left : Pool) (y : VolumeState) (took : Bool) → CleansVolume disk pool x left y took → left_in disk.reads pool x ≡ 0 → took ≡ false
  false_there left y true cleans none = let less = lowers disk pool x left y told held.stands.told.1 cleans in absurd (omega (arith, less, none))
  false_there left y false cleans none = refl

  -- Then the volume may be called known.
  module _ (none : left_in disk.reads pool x ≡ 0) where
    pub known_held : IsHeldIn disk pool slot (known_now x)
    known_held = finished_held disk pool slot x held may.files (roots_clear disk pool x none) (base_known disk pool states slot x may.there may.each may.footed)

    pub known_volume : volume_for disk pool (known_now x) ≡ record (volume_for disk pool x) { known = true }
    known_volume = finished_volume disk pool slot x held may.files (roots_clear disk pool x none) (base_known disk pool states slot x may.there may.each may.footed)
