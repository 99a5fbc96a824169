-- The blocks that the root on the disk leaves free, and those of them that were taken since the last point.
use Rattle.std.proofs.Common.{◌≡◌, ◌≤◌, ◌+◌, ◌-◌, ℕ, Bool, true, false, not, ◌||◌, cond, List, length, true≢false, refl, sym, ap, ◌∙◌, arith}
use Rattle.std.specs.Prelude.{count_by}
use Rattle.std.specs.List.{range_with_len}
use Rattle.std.proofs.lemmas.List.Sums.{sum_by-le-sum_by}
use Rattle.fv_disk.specs.Shown.{Image}
use Rattle.fv_bits.specs.Members.{is_member}
use Rattle.fv_model.specs.Machines.{first_block}
use Rattle.fv_image.specs.Maps.{map_bit}
use Rattle.fv_root.specs.declared.find.Found.{Found}
use Rattle.fv_root.specs.Finding.{root_found}
use Rattle.fv_aggmap.specs.Space.{Space, blocks_of, free_blocks, free_from, is_held}
use Rattle.fv_volumes.specs.UnderRoot.{IsMapOf}
use Rattle.fv_aggregate.specs.Asking.{free_under}
use Rattle.fv_aggregate.specs.Standing.{clear_blocks, taken_since}

-- what is free in memory is so under the root on the disk
pub free_within : (map : Space) → free_blocks map ≤ clear_blocks map
unfolding free_from
free_within map = sum_by-le-sum_by (λ b. cond (not (is_held map.committed map.next b)) 1 0) (λ b. cond (not (is_held map.committed map.committed b)) 1 0)
    (range_with_len (first_block (blocks_of map)) (blocks_of map - first_block (blocks_of map))) (λ b. by (is_member map.committed b) (is_member map.next b))
  where
    by : (c n : Bool) → cond {A = ℕ} (not (c || n)) 1 0 ≤ cond (not (c || c)) 1 0
    by true n = omega arith
    by false true = omega arith
    by false false = omega arith

pub free_and_placed : (map : Space) → free_blocks map + taken_since map ≡ clear_blocks map
free_and_placed map = omega (arith, free_within map)

-- a map whose next root holds what the root on the disk does has nothing placed
pub clear_is_free : (map : Space) → map.next ≡ map.committed → clear_blocks map ≡ free_blocks map
clear_is_free map same = ap (λ (next : List Bool). free_from map.committed next (first_block (blocks_of map))) (sym same)

pub none_placed : (map : Space) → map.next ≡ map.committed → taken_since map ≡ 0
none_placed map same = omega (arith, clear_is_free map same)

-- so it is where the next root holds no block that the root on the disk doesn't
pub none_taken : (map : Space) → ((b : ℕ) → is_member map.next b ≡ true → is_member map.committed b ≡ true) → taken_since map ≡ 0
unfolding free_from
none_taken map within =
    let same : free_blocks map ≡ clear_blocks map = λ j. count_by (λ b. not (held b j)) (range_with_len (first_block (blocks_of map)) (blocks_of map - first_block (blocks_of map))) in
    omega (arith, same)
  where
    by : (c n : Bool) → (n ≡ true → c ≡ true) → (c || n) ≡ (c || c)
    by true n is = refl
    by false true is = absurd (true≢false (sym (is refl)))
    by false false is = refl

    held : (b : ℕ) → is_held map.committed map.next b ≡ is_held map.committed map.committed b
    held b = by (is_member map.committed b) (is_member map.next b) (within b)

-- it holds no other block
pub none_held : (map : Space) → map.next ≡ map.committed → (b : ℕ) → is_member map.next b ≡ true → is_member map.committed b ≡ true
none_held map same b held = sym (ap (λ (next : List Bool). is_member next b) same) ∙ held

-- the root on the disk leaves as many blocks free while it stays
pub clear_stays : (old new : Space) → new.committed ≡ old.committed → clear_blocks new ≡ clear_blocks old
clear_stays old new same = ap (λ (committed : List Bool). free_from committed committed (first_block (length committed))) same

-- and the image as many
pub clear_is : (i : Image) (found : Found) (map : Space) → IsMapOf i found map → clear_blocks map ≡ free_under (root_found found) i
unfolding free_from free_under
clear_is i found map is = λ j. count_by (λ b. not (held b j)) (range_with_len (first_block (is.len j)) (is.len j - first_block (is.len j)))
  where
    twice : (b : Bool) → (b || b) ≡ b
    twice true = refl
    twice false = refl

    held : (b : ℕ) → is_held map.committed map.committed b ≡ map_bit (root_found found) i b
    held b = twice (is_member map.committed b) ∙ is.bits b
