-- What a reserve is promised.
use Rattle.std.specs.Prelude.{◌≡◌, ◌≢◌, ℕ, ◌<◌, List, Some}
use Rattle.std.specs.FinMap as fin
use Rattle.fv_model.specs.declared.answers.Refusal.TheVariants.{VolumeFull, AggregateFull}
use Rattle.fv_model.specs.declared.commands.Kind.TheVariants.{File as ByFile}
use Rattle.fv_model.specs.declared.commands.Command.TheVariants.{Put}
use Rattle.fv_model.specs.Tables.{File, file_named}
use Rattle.fv_model.specs.Volumes.{Volume}
use Rattle.fv_model.specs.Machines.{Machine}
use Rattle.fv_model.specs.Refusals.{refusal}

-- a cell below the reserve of a file in a volume of kind `file`
pub record IsReserved (m : Machine) (v f : List ℕ) (i : ℕ) : Type 0 where
  pub volume : Volume
  pub number : ℕ
  pub file : File
  pub there : fin.get m.volumes v ≡ Some volume
  pub kind : volume.kind ≡ ByFile
  pub named : file_named volume.active f ≡ Some (number, file)
  pub below : i < file.reserve

-- the command isn't refused for space
abbrev pub HasRoom : Machine → List ℕ → List ℕ → ℕ → List ℕ → Type 0
HasRoom m v f i block = (refusal m (Put v f i block) ≢ Some VolumeFull) × (refusal m (Put v f i block) ≢ Some AggregateFull)
