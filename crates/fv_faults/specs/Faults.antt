-- The fault lines of an image: those of the first pass that finds any, in their order, each once.
use Rattle.std.specs.Prelude.{ℕ, List, [], ◌∷◌, ◌++◌, Option, Some, None, Result, Ok, Err}
use Rattle.fv_disk.specs.Shown.{Image}
use Rattle.fv_codec.specs.declared.shape.Shape.{Shape}
use Rattle.fv_codec.specs.declared.root.Root.{Root}
use Rattle.fv_image.specs.Layout.{root_place}
use Rattle.fv_image.specs.NewerRoot.{Taken, behind, root_of}
use Rattle.fv_image.specs.Held.{Layout, layout_at}
use Rattle.fv_faults.specs.declared.fault.Fault.{Fault}
use Rattle.fv_faults.specs.Lines.{line, ordered, or_next}
use Rattle.fv_faults.specs.FirstPass.{first_pass}
use Rattle.fv_faults.specs.SecondPass.{second_pass}
use Rattle.fv_faults.specs.ThirdPass.{third_pass}
use Rattle.fv_faults.specs.FourthPass.{fourth_pass}

-- of a layout whose root lies at a place
unfoldable pub passes : ℕ → Layout → List Fault
passes root y = or_next (first_pass root y) (or_next (second_pass y) (or_next (third_pass y) (fourth_pass root y)))

abbrev pub faults_at : ℕ → Layout → List Fault
faults_at root y = ordered (passes root y)

-- of a root behind an open gate
abbrev pub root_shape : ℕ → Option (Result Root Shape) → List Fault
root_shape at None = []
root_shape at (Some (Ok root)) = []
root_shape at (Some (Err shape)) = line 1 at shape.want shape.found ∷ []

abbrev pub faults_under : Image → Option Taken → List Fault
faults_under i (Some t) = faults_at (root_place t.slot) (layout_at t i)
faults_under i None = ordered (root_shape (root_place 0) (behind i 0) ++ root_shape (root_place 1) (behind i 1))

-- of an image with a superblock and an open gate
unfoldable pub faults : Image → List Fault
faults i = faults_under i (root_of i)
