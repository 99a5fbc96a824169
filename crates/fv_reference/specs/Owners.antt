-- The owner of a place, from a file's number or none.
use Rattle.std.specs.Prelude.{ℕ, Option, Some, None}
use Rattle.fv_model.specs.Places.{Owner, InodeFile, OfFile}

abbrev pub owner_of : Option ℕ → Owner
owner_of None = InodeFile
owner_of (Some n) = OfFile n
