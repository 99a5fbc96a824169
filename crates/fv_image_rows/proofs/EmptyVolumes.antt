-- A head without snapshots.
use Rattle.std.proofs.Common.{◌≡◌, true, List, [], ◌∷◌, refl}
use Rattle.fv_image.specs.Views.{Snap}
use Rattle.fv_image_rows.specs.EmptyTold.{has_none}

pub no_snaps : (ss : List Snap) → has_none ss ≡ true → ss ≡ []
no_snaps [] e = refl
no_snaps (x ∷ xs) e = absurd cc
