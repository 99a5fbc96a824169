-- What soundness gives of the machine that is told: it is well-formed, so that each law of well-formed machines holds of it.
use Rattle.std.specs.Prelude.{◌≡◌, ℕ, length}
use Rattle.fv_disk.specs.Shown.{Image}
use Rattle.fv_laws.specs.WellFormed.{IsWell}
use Rattle.fv_image.specs.NewerRoot.{Taken}
use Rattle.fv_image.specs.Held.{layout_at, view_at}
use Rattle.fv_image.specs.Volumes.{told}
use Rattle.fv_image.specs.Soundness.{IsSound}

-- The machine of a sound image, whose blocks are whole, is well-formed: with files, snapshots, bases and unknown places.
abbrev pub MachinesAreWell : Type 0
MachinesAreWell = (t : Taken) (i : Image) → ((b : ℕ) → length (i b) ≡ 4096) → IsSound (layout_at t i) → IsWell (told (view_at t i))
