-- What makes images of empty volumes stand for a machine.
use Rattle.std.specs.Prelude.{◌≡◌, true, Some}
use Rattle.fv_disk.specs.Shown.{Image}
use Rattle.fv_model.specs.Machines.{Machine}
use Rattle.fv_image.specs.NewerRoot.{Taken, root_of}
use Rattle.fv_image.specs.Held.{Layout, layout_at}
use Rattle.fv_image_rows.specs.EmptyTold.{is_all_plain, empty_told}
use Rattle.fv_image_rows.specs.EmptySound.{IsEmptySound}

-- what makes a layout of empty volumes stand for a machine, by the definitions of those
pub record EmptyTells (y : Layout) (m : Machine) : Type 0 where
  pub plain : is_all_plain y.view ≡ true
  pub sound : IsEmptySound y
  pub machine : empty_told y.view ≡ m

-- an image stands for a machine under a root that counts
pub record EmptyStandsFor (i : Image) (m : Machine) : Type 0 where
  pub taken : Taken
  pub counts : root_of i ≡ Some taken
  pub tells : EmptyTells (layout_at taken i) m
