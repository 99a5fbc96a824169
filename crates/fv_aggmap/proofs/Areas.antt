-- Blocks of a map area, and the numbers that they have.
use Rattle.std.proofs.Common.{◌≡◌, ◌≢◌, ℕ, ◌+◌, ◌-◌, ◌*◌, ◌/◌, ◌%◌, ◌<◌, ◌≤◌, List, length, Bool, true, false, refl, sym, ap, ◌∙◌, ⊎_elim, arith}
use Rattle.std.specs.Prelude.{nat_lt}
use Rattle.std.proofs.lemmas.Bool.{cases_eq, cases_lt}
use Rattle.std.proofs.lemmas.Bool.Decides.{nat_tests}
use Rattle.fv_disk.specs.Shown.{Image}
use Rattle.fv_bits.specs.Bits.{bit_of_bytes, bit_of_area}
use Rattle.fv_bits.specs.Members.{is_member, IsFirstPast, TakesBlock}
use Rattle.fv_bits.proofs.Laws.{is_member_past}
use Rattle.fv_image.specs.Layout.{area_blocks, area_place}
use Rattle.fv_image.specs.NewerRoot.{Taken}
use Rattle.fv_image.specs.Maps.{area_bits, map_bit}
use Rattle.fv_root.specs.declared.find.Found.{Found}
use Rattle.fv_root.specs.Finding.{root_found}
use Rattle.fv_aggmap.specs.Loading.{HasRead, IsLoaded, IsPastMap}

-- a number, from its block and its place there
place_of : (b k : ℕ) → b / 32768 ≡ k → 32768 * k + b % 32768 ≡ b
place_of b k is = omega arith

-- ---- a read

-- a bit of the map, in its block of the area
bit_in_block : (t : Taken) (i : Image) (k b : ℕ) → k < area_blocks t.blocks → b / 32768 ≡ k → map_bit t i b ≡ bit_of_bytes (i (area_place t.blocks t.slot k)) (b % 32768)
unfolding map_bit bit_of_area
bit_in_block t i k b within here =
    let inside : nat_lt b (area_bits t.blocks) ≡ true = grind (arith, nat_tests) in
    rw (inside, here) refl

past_bits : (t : Taken) (i : Image) (b : ℕ) → area_bits t.blocks ≤ b → map_bit t i b ≡ false
unfolding map_bit
past_bits t i b past =
    let outside : nat_lt b (area_bits t.blocks) ≡ false = grind (arith, nat_tests) in
    rw outside refl

pub read_more : (i : Image) (found : Found) (old new : List Bool) (k : ℕ) (block : List ℕ) → k < area_blocks found.blocks → block ≡ i (area_place found.blocks found.slot k) → HasRead i found k old → TakesBlock old new k block → HasRead i found (k + 1) new
read_more i found old new k block within is so_far taken = record {
  len = taken.len ∙ so_far.len;
  bits = λ b below. ⊎_elim
      (λ (e : b / 32768 ≡ k).
      let bit : is_member new b ≡ bit_of_bytes block (b % 32768) = ap (is_member new) (sym (place_of b k e)) ∙ taken.taken (b % 32768) (omega arith) in
      bit ∙ ap (λ (x : List ℕ). bit_of_bytes x (b % 32768)) is ∙ sym (bit_in_block (root_found found) i k b within e))
      (λ (ne : b / 32768 ≢ k). taken.others b ne ∙ so_far.bits b (omega arith))
      (cases_eq (b / 32768) k);
}

pub read_past : (i : Image) (found : Found) (old : List Bool) (k number : ℕ) (block : List ℕ) → k < area_blocks found.blocks → block ≡ i (area_place found.blocks found.slot k) → HasRead i found k old → IsFirstPast (length old) k block number
    → IsPastMap i found (area_place found.blocks found.slot k) (found.blocks - 1) number
read_past i found old k number block within is so_far past =
    let t : Taken = root_found found in
    let bit_of : (b : ℕ) → b / 32768 ≡ k → map_bit t i b ≡ bit_of_bytes block (b % 32768) = λ b here. bit_in_block t i k b within here ∙ ap (λ (x : List ℕ). bit_of_bytes x (b % 32768)) (sym is) in
    record {
      past = omega (arith, past.past, so_far.len);
      bit = bit_of number past.place ∙ past.bit;
      first = λ b low high. ⊎_elim
          (λ (e : b / 32768 ≡ k). bit_of b e ∙ past.before b (omega (arith, low, so_far.len)) high e)
          (λ (ne : b / 32768 ≢ k). sym (so_far.bits b (omega (arith, ne, high, past.place))) ∙ is_member_past old b (omega (arith, low, so_far.len)))
          (cases_eq (b / 32768) k);
      place = ap (area_place found.blocks found.slot) (sym past.place);
      last = refl;
    }

pub loaded : (i : Image) (found : Found) (committed next : List Bool) → HasRead i found (area_blocks found.blocks) committed → next ≡ committed → IsLoaded i found (record { committed = committed; next = next })
loaded i found committed next read same = record {
  len = read.len;
  bits = λ b. ⊎_elim
      (λ (inside : b < 32768 * area_blocks found.blocks). read.bits b inside)
      (λ (past : 32768 * area_blocks found.blocks ≤ b). is_member_past committed b (omega (arith, past, read.len)) ∙ sym (past_bits (root_found found) i b past))
      (cases_lt b (32768 * area_blocks found.blocks));
  same = same;
}
