-- A stored name is given back whole by its bytes.
use Rattle.std.proofs.Common.{◌≡◌, ℕ, ◌-◌, List, ◌++◌, length, take, replicate, sym}
use Rattle.fv_model.specs.Spelling.{IsStored}

pub stored_again : (bytes : List ℕ) (len : ℕ) → IsStored bytes len → (take len bytes ++ replicate (64 - length (take len bytes)) 0 ≡ bytes) × (length (take len bytes) ≡ len)
stored_again bytes len h = (sym h.filled, h.within)
