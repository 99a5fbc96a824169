-- A list cut at what passes a test: the front part, and what is cut behind it.
use Rattle.std.proofs.Common.{◌≡◌, ℕ, ◌+◌, Bool, true, false, List, [], ◌∷◌, take, drop, refl, arith}
use Rattle.std.specs.List.{slice_split, position_or_len}
use Rattle.std.proofs.lemmas.Grind.{common_steps}

-- the parts behind the first, from the place where it ends on
abbrev pub behind : (ℕ → Bool) → List ℕ → List (List ℕ)
behind cuts [] = []
behind cuts (b ∷ bytes) = slice_split cuts bytes

-- one more than a count, off a longer list
pub drop_one : (n b : ℕ) (bytes : List ℕ) → drop (1 + n) (b ∷ bytes) ≡ drop n bytes
drop_one n b bytes = grind (arith, common_steps)

pub take_one : (n b : ℕ) (bytes : List ℕ) → take (1 + n) (b ∷ bytes) ≡ b ∷ take n bytes
take_one n b bytes = grind (arith, common_steps)

abbrev Cut : (ℕ → Bool) → List ℕ → Type 0
Cut cuts bytes = slice_split cuts bytes ≡ take (position_or_len cuts bytes) bytes ∷ behind cuts (drop (position_or_len cuts bytes) bytes)

cut_more : (cuts : ℕ → Bool) (b : ℕ) (bytes : List ℕ) (t : Bool) → cuts b ≡ t → Cut cuts bytes → Cut cuts (b ∷ bytes)
cut_more cuts b bytes true e so_far = rw e refl
cut_more cuts b bytes false e so_far = rw (e, so_far, take_one (position_or_len cuts bytes) b bytes, drop_one (position_or_len cuts bytes) b bytes) refl

pub cut : (cuts : ℕ → Bool) (bytes : List ℕ) → Cut cuts bytes
cut cuts [] = refl
cut cuts (b ∷ bytes) = cut_more cuts b bytes (cuts b) refl (cut cuts bytes)
