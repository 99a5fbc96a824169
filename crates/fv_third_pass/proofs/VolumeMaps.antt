-- Rule 6: the lines of the blocks of a map are those of its bits.
use Rattle.std.proofs.Common.{◌≡◌, ℕ, ◌+◌, ◌*◌, ◌/◌, ◌%◌, ◌<◌, ◌≤◌, Bool, true, false, List, [], length, get_or, replicate, sym, ap, subst, ◌∙◌, arith, ⊎_elim}
use Rattle.std.specs.Prelude.{Option, Some, None, flat_map, nat_lt, ◌&&◌, ◌==◌, slice_index, if◌then◌else◌}
use Rattle.std.specs.List.{list_any, range_with_len}
use Rattle.std.proofs.lemmas.Bool.{cases_lt}
use Rattle.std.proofs.lemmas.Bool.Decides.{nat_tests}
use Rattle.std.proofs.lemmas.List.{get_or-replicate, get_or_past, length-replicate}
use Rattle.fv_disk.specs.Shown.{Image}
use Rattle.fv_laws.proofs.Lists.{In, in_range, from_range, in_flat_map, from_flat_map}
use Rattle.fv_bits.specs.Bits.{bit_of_bytes, bit_of_area, bit_of_number, block_bits}
use Rattle.fv_bits.specs.Members.{is_member}
use Rattle.fv_model.specs.Space.{map_blocks}
use Rattle.fv_image.specs.Views.{Head, View, block_in, map_vvbn, volume_bit}
use Rattle.fv_faults.specs.declared.fault.Fault.{Fault}
use Rattle.fv_faults.specs.declared.lines.Lines.{Lines}
use Rattle.fv_faults.specs.Adding.{Adds}
use Rattle.fv_faults.specs.Walks.{Step, has_reached}
use Rattle.fv_faults.specs.ThirdPass.{bit_lines, pvbn_at, reach_lines}
use Rattle.fv_first_pass.specs.Passed.{spelled}
use Rattle.fv_third_pass.specs.Bits.{differing, differs, said_of}
use Rattle.fv_third_pass.specs.Maps.{HasWords, IsReachOf, reach_to}
use Rattle.fv_first_pass.proofs.Ranges.{same_parts}
use Rattle.fv_faults.proofs.Adding.{same_added}

-- ---- holes

zero_bytes : (v : ℕ) → ◌≡◌ {A = ℕ} (slice_index (replicate 4096 0) v) 0
zero_bytes v = ⊎_elim (λ (low : v < 4096). get_or-replicate {A = ℕ} 4096 v 0 0 low) (λ (past : 4096 ≤ v). get_or_past (replicate {A = ℕ} 4096 0) v 0 (let long : length (replicate {A = ℕ} 4096 0) ≡ 4096 = length-replicate {A = ℕ} 4096 0 in omega (arith, past, long))) (cases_lt v 4096)

-- a hole is a word whose kind is 0
hole_is : (i : Image) (word : ℕ) → word / 16777216 ≡ 0 → spelled i word ≡ None
hole_is i word none =
    let test : (word / 16777216 == 0) ≡ true = grind (arith, nat_tests, none) in
    ap (λ (t : Bool). if t then None else Some (record { pvbn = word % 16777216; kind = word / 16777216; block = i (word % 16777216) })) test

block_is : (i : Image) (word : ℕ) → 0 < word / 16777216 → spelled i word ≡ Some (record { pvbn = word % 16777216; kind = word / 16777216; block = i (word % 16777216) })
block_is i word some =
    let test : (word / 16777216 == 0) ≡ false = grind (arith, nat_tests, some) in
    ap (λ (t : Bool). if t then None else Some (record { pvbn = word % 16777216; kind = word / 16777216; block = i (word % 16777216) })) test

pub hole_bits : (i : Image) (word : ℕ) → word / 16777216 ≡ 0 → (b : ℕ) → bit_of_bytes (replicate 4096 0) b ≡ bit_of_bytes (block_in (spelled i word)) b
unfolding bit_of_bytes
hole_bits i word none b =
    ap (λ n. bit_of_number n (b % 8)) (zero_bytes (b / 8)) ∙ sym (ap (λ o. bit_of_bytes (block_in o) b) (hole_is i word none) ∙ ap (λ n. bit_of_number n (b % 8)) (no_bytes (b / 8)))
  where
    no_bytes : (v : ℕ) → ◌≡◌ {A = ℕ} (slice_index [] v) 0
    no_bytes v = get_or_past [] v 0 (omega arith)

pub block_bits_are : (i : Image) (word : ℕ) (block : List ℕ) → 0 < word / 16777216 → block ≡ i (word % 16777216) → (b : ℕ) → bit_of_bytes block b ≡ bit_of_bytes (block_in (spelled i word)) b
block_bits_are i word block some is b = ap (λ bs. bit_of_bytes bs b) is ∙ sym (ap (λ o. bit_of_bytes (block_in o) b) (block_is i word some))

pub hole_place : (i : Image) (word : ℕ) → word / 16777216 ≡ 0 → 0 ≡ pvbn_at (spelled i word)
hole_place i word none = sym (ap pvbn_at (hole_is i word none))

pub block_place : (i : Image) (word : ℕ) → 0 < word / 16777216 → word % 16777216 ≡ pvbn_at (spelled i word)
block_place i word some = sym (ap pvbn_at (block_is i word some))

-- blocks of the same bits have the same lines
pub same_lines : (rule : ℕ) (at : Option ℕ) (set : List Bool) (k : ℕ) (one two : List ℕ) → ((b : ℕ) → bit_of_bytes one b ≡ bit_of_bytes two b) → differing rule at set k one ≡ differing rule at set k two
unfolding differing
same_lines rule at set k one two same =
    same_parts (differs rule at set one) (differs rule at set two) (range_with_len (block_bits * k) block_bits) (λ b there.
    ap (λ (c : Bool). bit_lines rule (said_of at b) (is_member set b) c) (same (b % block_bits)))

-- ---- the map of a slot

module _ (i : Image) (w : View) (s : ℕ) (h : Head) (slot : ℕ) (ss : List Step) (row : List ℕ) (reach : List Bool)
    (words : HasWords i w s row) (is : IsReachOf ss reach) where
  abbrev word : ℕ → ℕ
  word k = get_or row (map_vvbn h.span slot k) 0

  abbrev bit_line : ℕ → List Fault
  bit_line v = bit_lines 6 (pvbn_at (w.entry s (map_vvbn h.span slot (v / block_bits)))) (list_any (λ st. st.item.pointer.vvbn == v) ss) (volume_bit w s h.span slot v)

  abbrev block_line : ℕ → ℕ → List Fault
  block_line k v = differs 6 (Some (pvbn_at (spelled i (word k)))) reach (block_in (spelled i (word k))) v

  same_line : (k v : ℕ) → block_bits * k ≤ v → v < block_bits * k + block_bits → k < map_blocks h.span → block_line k v ≡ bit_line v
  unfolding volume_bit bit_of_area
  same_line k v from to inside =
      let low : 32768 * k ≤ v = from in
      let high : v < 32768 * k + 32768 = to in
      let over : k ≡ v / 32768 = omega (arith, low, high) in
      let test : nat_lt v (block_bits * map_blocks h.span) ≡ true = (let e : v < 32768 * map_blocks h.span = omega (arith, inside, high) in grind (arith, nat_tests, e)) in
      let entry = words.entries (map_vvbn h.span slot (v / block_bits)) in
      ap (λ m. bit_lines 6 (pvbn_at (spelled i (word k))) m (bit_of_bytes (block_in (spelled i (word k))) (v % block_bits))) (is.each v)
      ∙ ap (λ k. bit_lines 6 (pvbn_at (spelled i (word k))) (has_reached ss v) (bit_of_bytes (block_in (spelled i (word k))) (v % block_bits))) over
      ∙ ap (λ o. bit_lines 6 (pvbn_at o) (has_reached ss v) (bit_of_bytes (block_in o) (v % block_bits))) (sym entry)
      ∙ sym (ap (λ (c : Bool). bit_lines 6 (pvbn_at (w.entry s (map_vvbn h.span slot (v / block_bits)))) (has_reached ss v) (c && bit_of_bytes (block_in (w.entry s (map_vvbn h.span slot (v / block_bits)))) (v % block_bits))) test)

  pub reach_added : (old new : Lines) → Adds (reach_to i row h.span slot reach (map_blocks h.span)) old new → Adds (reach_lines w s h slot ss) old new
  unfolding reach_to differing reach_lines
  reach_added old new adds = same_added (reach_to i row h.span slot reach (map_blocks h.span)) (reach_lines w s h slot ss) old new
      (λ f there.
      let at = from_flat_map (λ k. flat_map (block_line k) (range_with_len (block_bits * k) block_bits)) f (range_with_len 0 (map_blocks h.span)) there in
      let inside : at.0 < 0 + map_blocks h.span = (from_range 0 (map_blocks h.span) at.0 at.1).1 in
      let bit = from_flat_map (block_line at.0) f (range_with_len (block_bits * at.0) block_bits) at.2 in
      let within = from_range (block_bits * at.0) block_bits bit.0 bit.1 in
      let high : bit.0 < 32768 * at.0 + 32768 = within.1 in
      in_flat_map bit_line bit.0 f (range_with_len 0 (block_bits * map_blocks h.span)) (in_range 0 (block_bits * map_blocks h.span) bit.0 (omega arith) (omega (arith, high, inside)))
      (subst (In f) (same_line at.0 bit.0 within.0 within.1 (omega (arith, inside))) bit.2))
      (λ f there.
      let bit = from_flat_map bit_line f (range_with_len 0 (block_bits * map_blocks h.span)) there in
      let inside : bit.0 < 0 + 32768 * map_blocks h.span = (from_range 0 (block_bits * map_blocks h.span) bit.0 bit.1).1 in
      let low : 32768 * (bit.0 / 32768) ≤ bit.0 = omega arith in
      let high : bit.0 < 32768 * (bit.0 / 32768) + 32768 = omega arith in
      let few : bit.0 / 32768 < map_blocks h.span = omega (arith, inside) in
      in_flat_map (λ k. flat_map (block_line k) (range_with_len (block_bits * k) block_bits)) (bit.0 / 32768) f (range_with_len 0 (map_blocks h.span)) (in_range 0 (map_blocks h.span) (bit.0 / 32768) (omega arith) (omega (arith, few)))
      (in_flat_map (block_line (bit.0 / 32768)) bit.0 f (range_with_len (block_bits * (bit.0 / 32768)) block_bits) (in_range (block_bits * (bit.0 / 32768)) block_bits bit.0 low high)
      (subst (In f) (sym (same_line (bit.0 / 32768) bit.0 low high few)) bit.2)))
      adds
