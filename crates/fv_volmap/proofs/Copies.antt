-- Maps that are taken into longer ones, block by block.
use Rattle.std.proofs.Common.{◌≡◌, ℕ, ◌+◌, ◌*◌, ◌/◌, ◌%◌, ◌<◌, ◌≤◌, Bool, false, List, length, replicate, Option, Some, None, IfSome, IfNone, ap, sym, subst, ◌∙◌, ⊎_elim, arith}
use Rattle.std.proofs.lemmas.Bool.{cases_lt, true≢false}
use Rattle.fv_bits.specs.Bits.{block_bits}
use Rattle.fv_bits.specs.Members.{is_member, IsBlockOf, IsFirstPast, TakesBlock}
use Rattle.fv_bits.proofs.Laws.{is_member-replicate, is_member_past}
use Rattle.fv_volmap.specs.Slots.{Slot, Volume, slot_count, IsVolume, slot_at}

-- a block of a map that isn't longer has no bit past the length
refuses_none : (map : List Bool) (len index : ℕ) (block : List ℕ) (v : ℕ) → length map ≤ len → IsBlockOf map index block → IsFirstPast len index block v → ⊥
refuses_none map len index block v fits wrote past =
    let at : block_bits * index + v % block_bits ≡ v = omega (arith, past.place) in
    let out : length map ≤ v = omega (arith, fits, past.past) in
    true≢false (sym past.bit ∙ wrote.bits (v % block_bits) (omega arith) ∙ ap (is_member map) at ∙ is_member_past map v out)

-- so it is taken
pub is_taken : (map old new : List Bool) (index : ℕ) (block : List ℕ) (past : Option ℕ) → length map ≤ length old → IsBlockOf map index block → IfNone past (TakesBlock old new index block) → IfSome past (IsFirstPast (length old) index block) → TakesBlock old new index block
is_taken map old new index block None fits wrote took none = took
is_taken map old new index block (Some v) fits wrote took past = absurd (refuses_none map (length old) index block v fits wrote past)

-- the numbers of all blocks are all that a map has
pub took_all : (map from : List Bool) (count v : ℕ) → length from ≤ block_bits * count → ((k : ℕ) → k / block_bits < count → is_member map k ≡ is_member from k) → ((k : ℕ) → count ≤ k / block_bits → is_member map k ≡ false) → is_member map v ≡ is_member from v
took_all map from count v all taken rest = ⊎_elim
    (λ inside. taken v inside)
    (λ behind. let out : length from ≤ v = omega (arith, all, behind) in rest v behind ∙ sym (is_member_past from v out))
    (cases_lt (v / block_bits) count)

-- an empty map has no member
pub none_member : (len v : ℕ) → is_member (replicate len false) v ≡ false
none_member len v = is_member-replicate len v

-- the map of a used slot is as long as the span
pub slot_long : (volume : Volume) (slot span : ℕ) (map : List Bool) → IsVolume volume → slot < slot_count → slot_at volume slot ≡ Some map → volume.span ≤ span → length map ≤ span
slot_long volume slot span map is low at fits =
    let long : length map ≡ volume.span = subst (λ (o : Slot). IfSome o (λ m. length m ≡ volume.span)) at (is.long slot None (let count = is.count in omega (arith, low, count))) in
    omega (arith, long, fits)
