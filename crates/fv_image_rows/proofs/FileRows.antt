-- What is unknown and what is left to do in images with files, computed from their bytes.
use Rattle.std.specs.Prelude.{◌≡◌, Some}
use Rattle.std.specs.Option.{option_map}
use Rattle.std.proofs.Common.{refl}
use Rattle.fv_image.specs.Places.{once_each, pointers, path, path_of, todo_of, todo}
use Rattle.fv_image_rows.proofs.Computing.{views_compute, bits_compute}
use Rattle.fv_image_rows.proofs.FileVectors.{splitting_view, mirror_view}

-- the mirror's root and the pointer of its file are unknown, which an independent implementation counts as two left to do
mirror_todo : todo mirror_view ≡ 2
unfolding views_compute todo todo_of pointers once_each
mirror_todo = refl

-- and both lie on the way to its cell
mirror_path : option_map (λ h. path_of mirror_view 1 h 0 0) (mirror_view.head 1) ≡ Some 2
unfolding views_compute path
mirror_path = refl

-- a volume that is being split has both blocks of its base still to copy
splitting_todo : todo splitting_view ≡ 2
unfolding views_compute bits_compute todo todo_of pointers once_each
splitting_todo = refl
