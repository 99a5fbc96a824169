-- What a probe answers in a session, and what steps a `get` makes.
use Rattle.std.specs.Prelude.{ℕ}
use Rattle.fv_disk.specs.Shown.{Shown}
use Rattle.fv_model.specs.declared.answers.Reply.{Reply}
use Rattle.fv_model.specs.declared.answers.Reply.TheVariants.{Content, Number}
use Rattle.fv_model.specs.declared.commands.Command.{Command}
use Rattle.fv_model.specs.declared.commands.Command.TheVariants.{Get, Probe}
use Rattle.fv_pool.specs.declared.pool.Pool.{Pool}
use Rattle.fv_volume.specs.declared.state.VolumeState.{VolumeState}
use Rattle.fv_volume.specs.Asking.{standing_read, trees_read}
use Rattle.fv_volume.specs.OneVolume.{standing_for, trees_for}
use Rattle.fv_volume.specs.Paths.{StepsTo}
use Rattle.fv_volume.specs.Probing.{IsPath}

-- A number that answers a probe of a volume is how many unknown pointers lie on the path to the cell, in the active table.
abbrev pub TellsPath : Shown → Pool → VolumeState → Reply → Command → Type 0
TellsPath disk pool x (Number count) (Probe volume file index) = IsPath (standing_for disk pool x) (trees_for disk pool x) file index count
TellsPath disk pool x reply command = Unit {0}

-- The block that answers a `get` was read by as many steps as there are unknown pointers on the path to the cell, in the table that is asked.
abbrev pub CountsPath : Shown → Pool → VolumeState → ℕ → ℕ → Reply → Command → Type 0
CountsPath disk pool x start steps (Content block) (Get volume snapshot file index) = StepsTo (standing_read disk pool x snapshot) (trees_read disk pool x snapshot) file index start steps
CountsPath disk pool x start steps reply command = Unit {0}
