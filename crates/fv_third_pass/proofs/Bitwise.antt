-- The bits of a map's block, one by one.
use Rattle.std.proofs.Common.{◌≡◌, ℕ, ◌+◌, ◌*◌, ◌%◌, ◌<◌, ◌≤◌, Bool, true, false, List, [], ◌∷◌, refl, sym, ap, subst, ◌∙◌, arith}
use Rattle.std.specs.Prelude.{Option, flat_map}
use Rattle.std.specs.List.{range_with_len}
use Rattle.fv_laws.proofs.Lists.{from_range}
use Rattle.fv_bits.specs.Bits.{bit_of_bytes, block_bits}
use Rattle.fv_bits.specs.Members.{is_member, IsBlockOf}
use Rattle.fv_faults.specs.declared.fault.Fault.{Fault}
use Rattle.fv_faults.specs.declared.lines.Lines.{Lines}
use Rattle.fv_faults.specs.Adding.{Adds}
use Rattle.fv_faults.specs.ThirdPass.{bit_lines}
use Rattle.fv_third_pass.specs.Bits.{differing, differs, said_of}
use Rattle.fv_first_pass.proofs.Ranges.{same_parts}
use Rattle.fv_faults.proofs.Adding.{nothing_added}
use Rattle.fv_third_pass.proofs.Noting.{range_next}

-- bits that are the same have no line
pub same_bits : (rule block : ℕ) (a b : Bool) (x : Lines) → a ≡ b → Adds (bit_lines rule block a b) x x
same_bits rule block a b x same = nothing_added (bit_lines rule block a b) x (so a ∙ ap (λ (_ : Bool). []) same)
  where
    so : (c : Bool) → bit_lines rule block a b ≡ []
    so c = ap (λ c. bit_lines rule block a c) (sym same) ∙ one a
      where
        one : (c : Bool) → bit_lines rule block c c ≡ []
        one true = refl
        one false = refl

module _ (rule : ℕ) (at : Option ℕ) (set : List Bool) (k : ℕ) (wanted found : List ℕ) (is : IsBlockOf set k wanted) where
  -- the line of one bit
  one_bit : (bit : ℕ) → bit < block_bits
      → bit_lines rule (said_of at (block_bits * k + bit)) (bit_of_bytes wanted bit) (bit_of_bytes found bit) ≡ differs rule at set found (block_bits * k + bit)
  one_bit bit low =
      let rest : (32768 * k + bit) % 32768 ≡ bit = omega (arith, low) in
      ap (λ b. bit_lines rule (said_of at (block_bits * k + bit)) b (bit_of_bytes found bit)) (is.bits bit low)
      ∙ ap (λ c. bit_lines rule (said_of at (block_bits * k + bit)) (is_member set (block_bits * k + bit)) (bit_of_bytes found c)) (sym rest)

  pub bits_next : (bit : ℕ) (old mid new : Lines) → bit < block_bits → Adds (flat_map (differs rule at set found) (range_with_len (block_bits * k) bit)) old mid
      → Adds (bit_lines rule (said_of at (block_bits * k + bit)) (bit_of_bytes wanted bit) (bit_of_bytes found bit)) mid new
      → Adds (flat_map (differs rule at set found) (range_with_len (block_bits * k) (bit + 1))) old new
  bits_next bit old mid new low first one =
      range_next (differs rule at set found) (block_bits * k) bit (block_bits * k + bit) old mid new refl first (subst (λ ls. Adds ls mid new) (one_bit bit low) one)

  -- a block that is as it has to be
  pub same_block : wanted ≡ found → (x : Lines) → Adds (differing rule at set k found) x x
  unfolding differing
  same_block same x = nothing_added (differing rule at set k found) x
      (same_parts (differs rule at set found) (λ b. []) (range_with_len (block_bits * k) block_bits) (λ b there.
      let within = from_range (block_bits * k) block_bits b there in
      let low : 32768 * k ≤ b = within.0 in
      let high : b < 32768 * k + 32768 = within.1 in
      let bit = b % 32768 in
      let apart : 32768 * k + b % 32768 ≡ b = omega (arith, low, high) in
      let inside : b % 32768 < 32768 = omega arith in
      let set_is : bit_of_bytes wanted (b % 32768) ≡ is_member set b = is.bits (b % 32768) inside ∙ ap (is_member set) apart in
      none rule (said_of at b) (is_member set b) (bit_of_bytes found (b % block_bits)) (sym set_is ∙ ap (λ bs. bit_of_bytes bs (b % 32768)) same))
      ∙ no_parts (range_with_len (block_bits * k) block_bits))
    where
      one : (rule block : ℕ) (c : Bool) → bit_lines rule block c c ≡ []
      one rule block true = refl
      one rule block false = refl

      none : (rule block : ℕ) (a c : Bool) → a ≡ c → bit_lines rule block a c ≡ []
      none rule block a c same = ap (λ c. bit_lines rule block a c) (sym same) ∙ one rule block a

      no_parts : (xs : List ℕ) → flat_map {A = Fault} (λ b. []) xs ≡ []
      no_parts [] = refl
      no_parts (y ∷ ys) = no_parts ys
