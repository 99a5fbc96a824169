-- Commands that are never refused for space.
use Rattle.std.specs.Prelude.{◌≡◌, ℕ, ◌≤◌, Bool, true, false, List, Some}
use Rattle.std.specs.FinMap as fin
use Rattle.fv_model.specs.declared.commands.Command.{Command}
use Rattle.fv_model.specs.declared.commands.Command.TheVariants.{VolDestroy, SnapDelete, SplitFinish, Clean}
use Rattle.fv_model.specs.Volumes.{Volume}
use Rattle.fv_model.specs.Machines.{Machine}
use Rattle.fv_model.specs.Space.{use_of, commits}

-- the four that give space back
abbrev pub is_release : Command → Bool
is_release (VolDestroy v) = true
is_release (SnapDelete v s) = true
is_release (SplitFinish c) = true
is_release (Clean v) = true
is_release c = false

-- each volume that is there after was there before with no smaller use, and all commit no more
pub record RaisesNothing (before after : Machine) : Type 0 where
  pub uses : (name : List ℕ) (y : Volume) → fin.get after.volumes name ≡ Some y → (x : Volume) × (fin.get before.volumes name ≡ Some x) × (use_of y ≤ use_of x)
  pub commits : commits after ≤ commits before
