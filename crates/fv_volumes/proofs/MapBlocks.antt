-- A container that has the blocks of maps, one more after another.
use Rattle.std.proofs.Common.{◌≡◌, ◌≢◌, ℕ, ◌+◌, ◌*◌, ◌<◌, ◌≤◌, length, replicate, Bool, true, false, ◌||◌, ◌&&◌, cond, refl, sym, ap, ◌∙◌, arith, ⊎_elim, inl, inr, List, Option, Some, None}
use Rattle.std.specs.Prelude.{slice_index_or, slice_set}
use Rattle.std.proofs.lemmas.Bool.{both_ways, cases_eq, true≢false}
use Rattle.std.proofs.lemmas.List.{get_or-set_same, get_or-set_other, length-replicate}
use Rattle.fv_bits.specs.Bits.{block_bits}
use Rattle.fv_bits.specs.Members.{IsBlockOf, is_member}
use Rattle.fv_bits.proofs.Laws.{is_member-replicate, zero_block}
use Rattle.fv_disk.specs.Shown.{Image}
use Rattle.fv_container.specs.declared.entry.Entry.{Entry}
use Rattle.fv_container.specs.Mapped.{Mapped, entry_under}
use Rattle.fv_container.specs.Spelled.{is_at}
use Rattle.fv_aggmap.specs.Space.{Space, IsFree}
use Rattle.fv_volume.specs.declared.state.VolumeState.{VolumeState}
use Rattle.fv_volume.specs.Stored.{is_map_written, map_entry, map_index, map_slot, place_at, place_in, slot_map}
use Rattle.fv_volume.specs.Writing.{HasDrawn, HasMaps, StandBits, has_maps_at, map_writes}
use Rattle.fv_volumes.proofs.Drawing.{drawn_none, drawn_then, free_before, maps_at, maps_more, maps_none, or_false}
use Rattle.fv_volume.proofs.StayingMaps.{written_low, writes_more, writes_none}

-- a map without members has blocks of zeros
pub empty_block : (span index : ℕ) → IsBlockOf (replicate span false) index (replicate 4096 0)
empty_block span index = record { len = length-replicate {A = ℕ} 4096 0; bits = λ b low. zero_block 4096 b ∙ sym (is_member-replicate span (block_bits * index + b)) }

-- below the span no block is one of a map
pub no_maps : (x : VolumeState) (map : Mapped) → HasMaps x x.span map map
no_maps x map = record {
  maps = λ v lt is. absurd (both_ways _ (written_low x v lt) is);
  some = λ v lt is. absurd (both_ways _ (written_low x v lt) is);
  others = λ v out. refl;
  once = λ v w lt below is too. absurd (both_ways _ (written_low x w below) too);
}

pub no_bits : (x : VolumeState) (map : Mapped) (i : Image) → StandBits x x.span map i
no_bits x map i v lt is = absurd (both_ways _ (written_low x v lt) is)

-- ---- a block more

module _ (x : VolumeState) (k place : ℕ) (old new : Mapped) (within : k < length old.entries) (set_so : new.entries ≡ slice_set old.entries k (Some (map_entry place))) where
  there : entry_under new k ≡ Some (map_entry place)
  there = ap (λ (es : List (Option Entry)). slice_index_or es k None) set_so ∙ get_or-set_same old.entries k (Some (map_entry place)) None within

  elsewhere : (v : ℕ) → v ≢ k → entry_under new v ≡ entry_under old v
  elsewhere v other = ap (λ (es : List (Option Entry)). slice_index_or es v None) set_so ∙ get_or-set_other old.entries k v (Some (map_entry place)) None other

  place_there : place_at new k ≡ place
  place_there = ap place_in there

  place_elsewhere : (v : ℕ) → v ≢ k → place_at new v ≡ place_at old v
  place_elsewhere v other = ap place_in (elsewhere v other)

  module _ (first : Mapped) (space mid : Space) (has : HasMaps x k first old) (drawn : HasDrawn space (has_maps_at x old k) (map_writes x k) mid) (free : IsFree mid place) (here : is_map_written x k ≡ true) where
    not_yet : (j : ℕ) → j < k → is_map_written x j ≡ true → place_at old j ≢ place
    not_yet j lt is same =
        let some : place ≢ 0 = λ none. omega (arith, free.after, none) in
        let led : has_maps_at x old k place ≡ true = maps_at x old k j place lt is same some in
        true≢false (sym led ∙ (free_before space mid (has_maps_at x old k) (map_writes x k) place drawn free).1)

    pub map_more : HasMaps x (k + 1) first new
    map_more = record {
      maps = λ v lt is. ⊎_elim
          (λ (now : v ≡ k). rw now (there ∙ ap (λ (p : ℕ). Some (map_entry p)) (sym place_there)))
          (λ (other : v ≢ k).
          let before : v < k = omega (arith, lt, other) in
          elsewhere v other ∙ has.maps v before is ∙ ap (λ (p : ℕ). Some (map_entry p)) (sym (place_elsewhere v other)))
          (cases_eq v k);
      some = λ v lt is. ⊎_elim
          (λ (now : v ≡ k). rw (now, place_there) (omega (arith, free.after)))
          (λ (other : v ≢ k).
          let before : v < k = omega (arith, lt, other) in
          rw (place_elsewhere v other) (has.some v before is))
          (cases_eq v k);
      others = λ v out. ⊎_elim
          (λ (past : k + 1 ≤ v). elsewhere v (omega (arith, past)) ∙ has.others v (inl (omega (arith, past))))
          (λ (off : is_map_written x v ≡ false). elsewhere v (λ same. both_ways _ off (ap (is_map_written x) same ∙ here)) ∙ has.others v (inr off))
          out;
      once = λ v w lt below is too. ⊎_elim
          (λ (now : w ≡ k).
          let before : v < k = omega (arith, lt, now) in
          λ same. not_yet v before is (sym (place_elsewhere v (omega (arith, before))) ∙ same ∙ ap (place_at new) now ∙ place_there))
          (λ (other : w ≢ k).
          let before : w < k = omega (arith, below, other) in
          let first_other : v ≢ k = omega (arith, before, lt) in
          λ same. has.once v w lt before is too (sym (place_elsewhere v first_other) ∙ same ∙ place_elsewhere w other))
          (cases_eq w k);
    }

    test_there : (b : ℕ) → (is_map_written x k && is_at b (place_at new k)) ≡ is_at b place
    test_there b = ap (λ (t : Bool). t && is_at b (place_at new k)) here ∙ ap (is_at b) place_there

    pub drawn_more : (after : Space) → HasDrawn mid (λ b. is_at b place) 1 after → HasDrawn space (has_maps_at x new (k + 1)) (map_writes x (k + 1)) after
    drawn_more after one =
        let more : map_writes x (k + 1) ≡ map_writes x k + 1 = writes_more x k ∙ ap (λ (t : Bool). map_writes x k + cond t 1 0) here in
        rw more (drawn_then space mid after (has_maps_at x old k) (λ b. is_at b place) (has_maps_at x new (k + 1)) (map_writes x k) 1
        (λ b. maps_more x old new k b (λ j lt. place_elsewhere j (omega (arith, lt))) ∙ ap (λ (t : Bool). has_maps_at x old k b || t) (test_there b)) drawn one)

    pub bits_more : (i j : Image) → StandBits x k old i → ((b : ℕ) → b ≢ place → j b ≡ i b) → IsBlockOf (slot_map x (map_slot x.span k)) (map_index x.span k) (j place) → StandBits x (k + 1) new j
    bits_more i j before others now = λ v lt is. ⊎_elim
        (λ (same : v ≡ k). rw (same, place_there) now)
        (λ (other : v ≢ k).
        let below : v < k = omega (arith, lt, other) in
        rw (place_elsewhere v other, others (place_at old v) (not_yet v below is)) (before v below is))
        (cases_eq v k)

-- ---- a block that isn't one of a map that is written

module _ (x : VolumeState) (k : ℕ) (off : is_map_written x k ≡ false) where
  -- a block before the next is one before this
  before_it : (v : ℕ) → v < k + 1 → is_map_written x v ≡ true → v < k
  before_it v lt is = let other : v ≢ k = λ same. both_ways _ off (ap (is_map_written x) (sym same) ∙ is) in omega (arith, lt, other)

  pub map_passes : (first map : Mapped) → HasMaps x k first map → HasMaps x (k + 1) first map
  map_passes first map has = record {
    maps = λ v lt is. has.maps v (before_it v lt is) is;
    some = λ v lt is. has.some v (before_it v lt is) is;
    others = λ v out. has.others v (⊎_elim (λ (past : k + 1 ≤ v). inl (omega (arith, past))) (λ (none : is_map_written x v ≡ false). inr none) out);
    once = λ v w lt below is too. has.once v w lt (before_it w below too) is too;
  }

  pub drawn_passes : (map : Mapped) (space mid : Space) → HasDrawn space (has_maps_at x map k) (map_writes x k) mid → HasDrawn space (has_maps_at x map (k + 1)) (map_writes x (k + 1)) mid
  drawn_passes map space mid drawn =
      let more : map_writes x (k + 1) ≡ map_writes x k + 0 = writes_more x k ∙ ap (λ (t : Bool). map_writes x k + cond t 1 0) off in
      let same : (b : ℕ) → has_maps_at x map (k + 1) b ≡ has_maps_at x map k b = λ b. maps_more x map map k b (λ j lt. refl) ∙ ap (λ (t : Bool). has_maps_at x map k b || (t && is_at b (place_at map k))) off ∙ or_false (has_maps_at x map k b) in
      record {
        committed = drawn.committed;
        free = λ b is. drawn.free b (sym (same b) ∙ is);
        held = λ b. drawn.held b ∙ ap (λ (t : Bool). t || is_member space.next b) (sym (same b));
        fewer = omega (arith, drawn.fewer, more);
      }

  pub bits_pass : (map : Mapped) (i : Image) → StandBits x k map i → StandBits x (k + 1) map i
  bits_pass map i before v lt is = before v (before_it v lt is) is

-- before the first VVBN behind the span nothing is drawn
pub none_written : (x : VolumeState) (map : Mapped) (space : Space) → HasDrawn space (has_maps_at x map x.span) (map_writes x x.span) space
none_written x map space = rw (writes_none x) (drawn_none space (has_maps_at x map x.span) (maps_none x map))
