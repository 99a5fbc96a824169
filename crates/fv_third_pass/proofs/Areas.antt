-- Rule 8: the lines of the blocks of the aggregate map are those of its bits.
use Rattle.std.proofs.Common.{◌≡◌, ℕ, ◌+◌, ◌*◌, ◌/◌, ◌%◌, ◌<◌, ◌≤◌, Bool, true, false, List, refl, sym, ap, subst, ◌∙◌, arith, ⊎_elim}
use Rattle.std.specs.Prelude.{None, flat_map, nat_lt, ◌&&◌, ◌==◌, cond}
use Rattle.std.specs.List.{range_with_len}
use Rattle.std.proofs.lemmas.Bool.{cases_lt}
use Rattle.std.proofs.lemmas.Bool.Decides.{nat_tests}
use Rattle.fv_disk.specs.Shown.{Image}
use Rattle.fv_laws.proofs.Lists.{In, in_range, from_range, in_flat_map, from_flat_map}
use Rattle.fv_bits.specs.Bits.{bit_of_bytes, bit_of_area, block_bits}
use Rattle.fv_bits.specs.Members.{is_member}
use Rattle.fv_bits.proofs.Laws.{is_member_past}
use Rattle.fv_image.specs.NewerRoot.{Taken}
use Rattle.fv_image.specs.Layout.{area_blocks, area_place}
use Rattle.fv_image.specs.Maps.{area_bits, map_bit}
use Rattle.fv_image.specs.Held.{Layout, layout_at, view_at, held, is_held}
use Rattle.fv_image.proofs.Replaced.{listed_tells}
use Rattle.fv_faults.specs.declared.fault.Fault.{Fault}
use Rattle.fv_faults.specs.declared.lines.Lines.{Lines}
use Rattle.fv_faults.specs.Adding.{Adds}
use Rattle.fv_faults.specs.ThirdPass.{bit_lines, holders, map_lines}
use Rattle.fv_third_pass.specs.declared.holders.Holders.{Holders}
use Rattle.fv_third_pass.specs.Tallied.{holds, further}
use Rattle.fv_third_pass.specs.Bits.{differing, differs, area_to}
use Rattle.fv_third_pass.specs.Counted.{IsCounted}
use Rattle.fv_faults.proofs.Adding.{same_added}
use Rattle.fv_third_pass.proofs.Repeated.{unlisted}

module _ (t : Taken) (i : Image) (h : Holders) (counted : IsCounted (layout_at t i) h) where
  abbrev y : Layout
  y = layout_at t i

  abbrev bit_line : ℕ → List Fault
  bit_line b = bit_lines 8 b (is_held y b) (y.bit b)

  abbrev block_line : ℕ → ℕ → List Fault
  block_line k b = differs 8 None h.held (i (area_place t.blocks t.slot k)) b

  -- a bit of the set and how often its block is held
  held_or_not : (b n : ℕ) → holds h b ≡ n → (1 ≤ n → is_member h.held b ≡ true) × (n ≡ 0 → is_member h.held b ≡ false)
  held_or_not b n is = so (is_member h.held b) refl is
    where
      so : (m : Bool) → is_member h.held b ≡ m → cond m (further h b + 1) 0 ≡ n → (1 ≤ n → is_member h.held b ≡ true) × (n ≡ 0 → is_member h.held b ≡ false)
      so true e n_is = ((λ some. e), λ none. absurd (omega (arith, n_is, none)))
      so false e n_is = ((λ some. absurd (omega (arith, n_is, some))), λ none. e)

  member_is : (b : ℕ) → is_member h.held b ≡ is_held y b
  member_is b = ⊎_elim
      (λ (low : b < y.view.blocks).
      let two = held_or_not b (holders y b) (counted.times b low) in ⊎_elim
      (λ (some : (is_held y b ≡ true) × (1 ≤ holders y b)). two.0 some.1 ∙ sym some.0)
      (λ (none : (is_held y b ≡ false) × (holders y b ≡ 0)). two.1 none.1 ∙ sym none.0)
      (listed_tells (λ x. x == b) (held y)))
      (λ (past : y.view.blocks ≤ b). is_member_past h.held b (let size = counted.size in omega (arith, past, size)) ∙ sym (never b past))
      (cases_lt b y.view.blocks)
    where
      never : (b : ℕ) → y.view.blocks ≤ b → is_held y b ≡ false
      never b past = so (is_held y b) refl
        where
          so : (m : Bool) → is_held y b ≡ m → is_held y b ≡ false
          so true e = let low = counted.within b (unlisted b (held y) e) in absurd (omega (arith, low, past))
          so false e = e

  same_line : (k b : ℕ) → block_bits * k ≤ b → b < block_bits * k + block_bits → k < area_blocks t.blocks → block_line k b ≡ bit_line b
  unfolding layout_at map_bit bit_of_area
  same_line k b from to inside =
      let low : 32768 * k ≤ b = from in
      let high : b < 32768 * k + 32768 = to in
      let over : k ≡ b / 32768 = omega (arith, low, high) in
      let test : nat_lt b (area_bits t.blocks) ≡ true = (let e : b < area_bits t.blocks = omega (arith, inside, high) in grind (arith, nat_tests, e)) in
      ap (λ m. bit_lines 8 b m (bit_of_bytes (i (area_place t.blocks t.slot k)) (b % block_bits))) (member_is b)
      ∙ ap (λ k. bit_lines 8 b (is_held y b) (bit_of_bytes (i (area_place t.blocks t.slot k)) (b % block_bits))) over
      ∙ sym (ap (λ (c : Bool). bit_lines 8 b (is_held y b) (c && bit_of_bytes (i (area_place t.blocks t.slot (b / block_bits))) (b % block_bits))) test)

  pub area_added : (old new : Lines) → Adds (area_to t i h.held (area_blocks t.blocks)) old new → Adds (map_lines y) old new
  unfolding area_to differing map_lines layout_at view_at
  area_added old new adds = same_added (area_to t i h.held (area_blocks t.blocks)) (map_lines y) old new
      (λ f there.
      let at = from_flat_map (λ k. flat_map (block_line k) (range_with_len (block_bits * k) block_bits)) f (range_with_len 0 (area_blocks t.blocks)) there in
      let inside : at.0 < 0 + area_blocks t.blocks = (from_range 0 (area_blocks t.blocks) at.0 at.1).1 in
      let bit = from_flat_map (block_line at.0) f (range_with_len (block_bits * at.0) block_bits) at.2 in
      let within = from_range (block_bits * at.0) block_bits bit.0 bit.1 in
      let high : bit.0 < 32768 * at.0 + 32768 = within.1 in
      in_flat_map bit_line bit.0 f (range_with_len 0 (area_bits t.blocks)) (in_range 0 (area_bits t.blocks) bit.0 (omega arith) (omega (arith, high, inside)))
      (subst (In f) (same_line at.0 bit.0 within.0 within.1 (omega (arith, inside))) bit.2))
      (λ f there.
      let bit = from_flat_map bit_line f (range_with_len 0 (area_bits t.blocks)) there in
      let inside : bit.0 < 0 + 32768 * area_blocks t.blocks = (from_range 0 (area_bits t.blocks) bit.0 bit.1).1 in
      let k = bit.0 / 32768 in
      let low : 32768 * (bit.0 / 32768) ≤ bit.0 = omega arith in
      let high : bit.0 < 32768 * (bit.0 / 32768) + 32768 = omega arith in
      let few : bit.0 / 32768 < area_blocks t.blocks = omega (arith, inside) in
      in_flat_map (λ k. flat_map (block_line k) (range_with_len (block_bits * k) block_bits)) (bit.0 / 32768) f (range_with_len 0 (area_blocks t.blocks)) (in_range 0 (area_blocks t.blocks) (bit.0 / 32768) (omega arith) (omega (arith, few)))
      (in_flat_map (block_line (bit.0 / 32768)) bit.0 f (range_with_len (block_bits * (bit.0 / 32768)) block_bits) (in_range (block_bits * (bit.0 / 32768)) block_bits bit.0 low high)
      (subst (In f) (sym (same_line (bit.0 / 32768) bit.0 low high few)) bit.2)))
      adds
