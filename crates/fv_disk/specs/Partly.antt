-- What a crash leaves while bytes are given out.
use Rattle.std.specs.Prelude.{◌≡◌, ℕ, List, ◌++◌, take, IsTrue}
use Rattle.fv_disk.specs.Shown.{Image, Shown}

-- an image of before, with a prefix of the bytes given
abbrev pub PartlyGiven : Shown → List ℕ → Image → List ℕ → Type 0
PartlyGiven old bytes c g = old.images c × (IsTrue old.tells → (k : ℕ) × (g ≡ old.given ++ take k bytes))
