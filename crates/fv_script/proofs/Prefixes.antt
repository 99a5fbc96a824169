-- Prefixes of what is given, over several pieces.
use Rattle.std.proofs.Common.{◌≡◌, ◌<◌, ℕ, ◌+◌, ◌++◌, List, length, take, min, ap, sym, ◌∙◌, arith, append_assoc, append-nil}
use Rattle.std.proofs.Math.Seq.{take-append-add}
use Rattle.std.proofs.lemmas.List.{length-append, take-append-le, take_all}

-- a prefix, and one that isn't the whole
abbrev pub IsPart : List ℕ → List ℕ → List ℕ → Type 0
IsPart old bytes given = (k : ℕ) × (given ≡ old ++ take k bytes)

abbrev pub IsCutShort : List ℕ → List ℕ → List ℕ → Type 0
IsCutShort old bytes given = (k : ℕ) × (k < length bytes) × (given ≡ old ++ take k bytes)

pub part_of : (old bytes given : List ℕ) → IsCutShort old bytes given → IsPart old bytes given
part_of old bytes given cut = (cut.0, cut.2)

pub none_of : (old bytes given : List ℕ) → given ≡ old → IsPart old bytes given
none_of old bytes given same = (0, same ∙ sym (append-nil old))

pub whole_of : (old bytes given : List ℕ) → given ≡ old ++ bytes → IsPart old bytes given
whole_of old bytes given same = (length bytes, same ∙ ap (λ (l : List ℕ). old ++ l) (sym (take_all (length bytes) bytes (omega arith))))

-- ---- a prefix of the first piece is one of both, and not the whole where the second has a byte

shorter : (k : ℕ) (first : List ℕ) → take (min k (length first)) first ≡ take k first
shorter k first = grind (arith, take_all)

front : (old first second given : List ℕ) → (part : IsPart old first given) → given ≡ old ++ take (min part.0 (length first)) (first ++ second)
front old first second given part =
    part.1 ∙ ap (λ (l : List ℕ). old ++ l) (sym (take-append-le (min part.0 (length first)) first second (omega arith) ∙ shorter part.0 first))

pub in_front : (old first second given : List ℕ) → IsPart old first given → IsPart old (first ++ second) given
in_front old first second given part = (min part.0 (length first), front old first second given part)

pub before : (old first second given : List ℕ) → 0 < length second → IsPart old first given → IsCutShort old (first ++ second) given
before old first second given some part = (min part.0 (length first), omega (arith, some, length-append first second), front old first second given part)

pub cut_in_front : (old first second given : List ℕ) → IsCutShort old first given → IsCutShort old (first ++ second) given
cut_in_front old first second given cut = (min cut.0 (length first), omega (arith, cut.1, length-append first second), front old first second given (cut.0, cut.2))

-- ---- a prefix of the second piece, behind the first

shifted : (old first second mid given : List ℕ) (k : ℕ) → mid ≡ old ++ first → given ≡ mid ++ take k second → given ≡ old ++ take (length first + k) (first ++ second)
shifted old first second mid given k so_far is =
    is ∙ ap (λ (l : List ℕ). l ++ take k second) so_far ∙ append_assoc old first (take k second) ∙ ap (λ (l : List ℕ). old ++ l) (sym (take-append-add first second k))

pub behind : (old first second mid given : List ℕ) → mid ≡ old ++ first → IsPart mid second given → IsPart old (first ++ second) given
behind old first second mid given so_far part = (length first + part.0, shifted old first second mid given part.0 so_far part.1)

pub cut_behind : (old first second mid given : List ℕ) → mid ≡ old ++ first → IsCutShort mid second given → IsCutShort old (first ++ second) given
cut_behind old first second mid given so_far cut = (length first + cut.0, omega (arith, cut.1, length-append first second), shifted old first second mid given cut.0 so_far cut.2)
