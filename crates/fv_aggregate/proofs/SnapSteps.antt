-- Each command on snapshots is a step of its volume: which maps stay where they stand, and how many blocks of maps wait.
use Rattle.std.proofs.Common.{◌≡◌, ◌≢◌, ◌<◌, ◌≤◌, ◌+◌, ◌-◌, ◌*◌, ℕ, zero, suc, Bool, true, false, not, cond, ◌||◌, List, length, get_or, None, is_some, ⊎_elim, true≢false, refl, sym, ap, subst, ◌∙◌, arith, get_or-set_other, get_or-set_same, set}
use Rattle.std.specs.Prelude.{◌&&◌, ◌==◌, nat_lt}
use Rattle.std.specs.List.{range_with_len}
use Rattle.std.proofs.Math.Nat.{mul-le-mul_right}
use Rattle.std.proofs.lemmas.Bool.{and_parts, cases_eq, cases_lt}
use Rattle.std.proofs.lemmas.List.{get_or_past, length-set}
use Rattle.std.proofs.lemmas.List.Sums.{sum_by-le-sum_by}
use Rattle.fv_disk.specs.Shown.{Image, Shown}
use Rattle.fv_bits.specs.Bits.{block_bits}
use Rattle.fv_bits.specs.Members.{is_member}
use Rattle.fv_bits.proofs.Counts.{passing, passing-suc, passing_same}
use Rattle.fv_model.specs.Space.{map_blocks}
use Rattle.fv_image.specs.Views.{map_vvbn}
use Rattle.fv_root.specs.declared.find.Found.{Found}
use Rattle.fv_container.specs.Mapped.{Mapped, entry_under}
use Rattle.fv_charge.specs.declared.ledger.Ledger.{Ledger}
use Rattle.fv_volmap.specs.Slots.{Slot, map_or_empty, slot_at, stored_count, with_slot}
use Rattle.fv_pool.specs.declared.pool.Pool.{Pool}
use Rattle.fv_pool.specs.declared.rooted.Rooted.{Rooted}
use Rattle.fv_volume.specs.declared.state.VolumeState.{VolumeState}
use Rattle.fv_volume.specs.Snaps.{turned_to, with_snapshot, without_snapshot}
use Rattle.fv_volume.specs.Snapshots.{IsLeastFree}
use Rattle.fv_volume.specs.Stored.{has_stored_map}
use Rattle.fv_volumes.specs.UnderRoot.{StandMaps}
use Rattle.fv_volume.specs.Writing.{map_count, map_wait}
use Rattle.fv_volumes.proofs.StandingMaps.{maps_still}
use Rattle.fv_snapshot.specs.Creating.{IsSnapped}
use Rattle.fv_snapshot.specs.Deleting.{IsUnsnapped}
use Rattle.fv_snapshot.specs.Restoring.{IsTurned}
use Rattle.fv_aggregate.proofs.Stepped.{IsStepped}

-- ---- maps that stay

-- Maps stand where those of another state of the volume do, if each that is to stay is one that stayed there, with the same bits.
maps_kept : (x y : VolumeState) → y.span ≡ x.span → y.map.span ≡ x.map.span → ((k : ℕ) → has_stored_map y k ≡ true → (has_stored_map x k ≡ true) × (slot_at y.map k ≡ slot_at x.map k))
    → (i : Image) (found : Found) (map : Mapped) → StandMaps i found x map → StandMaps i found y map
maps_kept x y span size was i found map stand k j on within =
    let one = stand k j (was k on).0 (subst (λ (n : ℕ). j < map_blocks n) span within) in
    record {
      place = one.place;
      some = one.some;
      there = ap (λ (n : ℕ). entry_under map (map_vvbn n k j)) span ∙ one.there;
      held = one.held;
      bits = λ b few. one.bits b few ∙ sym (λ a. is_member (map_or_empty (size a) ((was k on).1 a)) (block_bits * j + b));
    }

-- a map that waits doesn't stay
stored_waits : (x : VolumeState) (k : ℕ) → has_stored_map x k ≡ true → get_or x.fresh k false ≡ true → ⊥
stored_waits x k on waits = true≢false (sym (and_parts (is_some (slot_at x.map k)) _ (and_parts (nat_lt k stored_count) _ on).1).1 ∙ ap (λ (b : Bool). not ((k == 0) || b)) waits ∙ ap not (both (k == 0)))
  where
    both : (a : Bool) → (a || true) ≡ true
    both true = refl
    both false = refl

-- nor does one that isn't there
stored_there : (x : VolumeState) (k : ℕ) → has_stored_map x k ≡ true → slot_at x.map k ≡ None → ⊥
stored_there x k on none = true≢false (sym (and_parts (is_some (slot_at x.map k)) _ (and_parts (nat_lt k stored_count) _ on).1).0 ∙ ap is_some none)

-- with the same slot and the same mark it stays as before
stored_same : (x y : VolumeState) (k : ℕ) → slot_at y.map k ≡ slot_at x.map k → get_or y.fresh k false ≡ get_or x.fresh k false → has_stored_map y k ≡ has_stored_map x k
stored_same x y k slot waits = λ a. nat_lt k stored_count && (is_some (slot a) && not ((k == 0) || waits a))

-- ---- maps that wait

-- one more test that passes is counted once
count_more : (p q : ℕ → Bool) (slot : ℕ) → ((k : ℕ) → k ≢ slot → q k ≡ p k) → (a n : ℕ) → passing q a n ≤ passing p a n + 1
count_more p q slot same a zero = omega arith
count_more p q slot same a (suc n) = ⊎_elim
    (λ (at : a ≡ slot).
    let rest : passing q (a + 1) n ≡ passing p (a + 1) n = passing_same q p (a + 1) (a + 1) n (λ j low. same ((a + 1) + j) (λ e. absurd (omega (arith, e, at)))) in
    omega (arith, passing-suc q a n, passing-suc p a n, rest, at_most (q a)))
    (λ (differ : a ≢ slot).
    let first : cond {A = ℕ} (q a) 1 0 ≡ cond (p a) 1 0 = ap (λ (t : Bool). cond t 1 0) (same a differ) in
    omega (arith, passing-suc q a n, passing-suc p a n, first, count_more p q slot same (a + 1) n))
    (cases_eq a slot)
  where
    at_most : (t : Bool) → cond {A = ℕ} t 1 0 ≤ 1
    at_most true = omega arith
    at_most false = omega arith

marked_more : (fresh : List Bool) (slot : ℕ) → map_count (set fresh slot true) ≤ map_count fresh + 1
unfolding map_count
marked_more fresh slot = count_more (λ k. (k == 0) || get_or fresh k false) (λ k. (k == 0) || get_or (set fresh slot true) k false) slot
    (λ k differ. ap (λ (b : Bool). (k == 0) || b) (get_or-set_other fresh slot k true false differ)) 0 stored_count

-- where a mark is taken away none is counted more
set_off : (fresh : List Bool) (slot : ℕ) → get_or (set fresh slot false) slot false ≡ false
set_off fresh slot = ⊎_elim
    (λ (low : slot < length fresh). get_or-set_same fresh slot false false low)
    (λ (past : length fresh ≤ slot). get_or_past (set fresh slot false) slot false (let same = length-set fresh slot false in omega (arith, past, same)))
    (cases_lt slot (length fresh))

marked_less : (fresh : List Bool) (slot : ℕ) → map_count (set fresh slot false) ≤ map_count fresh
unfolding map_count
marked_less fresh slot = sum_by-le-sum_by (λ k. cond ((k == 0) || get_or (set fresh slot false) k false) 1 0) (λ k. cond ((k == 0) || get_or fresh k false) 1 0) (range_with_len 0 stored_count) (λ k. ⊎_elim
    (λ (at : k ≡ slot). off (k == 0) (get_or (set fresh slot false) k false) (get_or fresh k false) (ap (λ (n : ℕ). get_or (set fresh slot false) n false) at ∙ set_off fresh slot))
    (λ (differ : k ≢ slot). same (k == 0) (get_or (set fresh slot false) k false) (get_or fresh k false) (get_or-set_other fresh slot k false false differ))
    (cases_eq k slot))
  where
    off : (a b c : Bool) → b ≡ false → cond {A = ℕ} (a || b) 1 0 ≤ cond (a || c) 1 0
    off true b c is = omega arith
    off false b c is = let none : cond {A = ℕ} b 1 0 ≡ 0 = ap (λ (t : Bool). cond t 1 0) is in omega (arith, none)

    same : (a b c : Bool) → b ≡ c → cond {A = ℕ} (a || b) 1 0 ≤ cond (a || c) 1 0
    same a b c is = let one : cond {A = ℕ} (a || b) 1 0 ≡ cond (a || c) 1 0 = ap (λ (t : Bool). cond (a || t) 1 0) is in omega (arith, one)

-- ---- the steps

-- A snapshot was made: the map that was kept waits.
module _ (x : VolumeState) (slot : ℕ) (name : List ℕ) (waits : get_or (with_snapshot x slot name).fresh slot false ≡ true) where
  abbrev made : VolumeState
  made = with_snapshot x slot name

  pub made_step : IsStepped x made
  made_step = record {
    same = refl;
    marked = refl;
    maps = maps_kept x made refl refl (λ k on. ⊎_elim
        (λ (at : k ≡ slot). absurd (stored_waits made k on (ap (λ (n : ℕ). get_or made.fresh n false) at ∙ waits)))
        (λ (differ : k ≢ slot).
        let one : slot_at made.map k ≡ slot_at x.map k = get_or-set_other x.map.slots slot k _ None differ in
        (sym (stored_same x made k one (get_or-set_other x.fresh slot k true false differ)) ∙ on, one))
        (cases_eq k slot));
  }

-- so many blocks wait more at most
pub made_waits : (x : VolumeState) (slot : ℕ) (name : List ℕ) → map_wait (with_snapshot x slot name) ≤ map_wait x + map_blocks x.span
made_waits x slot name =
    let count : map_count (set x.fresh slot true) ≤ map_count x.fresh + 1 = marked_more x.fresh slot in
    let fewer : map_count (set x.fresh slot true) - 1 ≤ (map_count x.fresh - 1) + 1 = omega (arith, count) in
    let times : (map_count (set x.fresh slot true) - 1) * map_blocks x.span ≤ ((map_count x.fresh - 1) + 1) * map_blocks x.span = mul-le-mul_right (map_blocks x.span) fewer in
    let parts : ((map_count x.fresh - 1) + 1) * map_blocks x.span ≡ (map_count x.fresh - 1) * map_blocks x.span + map_blocks x.span = omega arith in
    omega (arith, times, parts)

-- A snapshot was removed: its slot has no map.
module _ (x : VolumeState) (at slot : ℕ) (ledger : Ledger) where
  abbrev removed : VolumeState
  removed = record (without_snapshot x at slot) { ledger = ledger }

  slot_off : slot_at removed.map slot ≡ None
  slot_off = ⊎_elim
      (λ (low : slot < length x.map.slots). get_or-set_same x.map.slots slot None None low)
      (λ (past : length x.map.slots ≤ slot). get_or_past removed.map.slots slot None (let same = length-set x.map.slots slot None in omega (arith, past, same)))
      (cases_lt slot (length x.map.slots))

  pub removed_step : IsStepped x removed
  removed_step = record {
    same = refl;
    marked = refl;
    maps = maps_kept x removed refl refl (λ k on. ⊎_elim
        (λ (here : k ≡ slot). absurd (stored_there removed k on (ap (slot_at removed.map) here ∙ slot_off)))
        (λ (differ : k ≢ slot).
        let one : slot_at removed.map k ≡ slot_at x.map k = get_or-set_other x.map.slots slot k None None differ in
        (sym (stored_same x removed k one (get_or-set_other x.fresh slot k false false differ)) ∙ on, one))
        (cases_eq k slot));
  }

  -- no block waits more
  pub removed_waits : map_wait removed ≤ map_wait x
  removed_waits =
      let count : map_count (set x.fresh slot false) ≤ map_count x.fresh = marked_less x.fresh slot in
      mul-le-mul_right (map_blocks x.span) (omega (arith, count))

-- The table of a snapshot became the active one: no map but the active one is another, and that is written.
pub turned_step : (x : VolumeState) (table : Rooted) (map : Slot) (ledger : Ledger) → IsStepped x (record (turned_to x table) { map = with_slot x.map 0 map; ledger = ledger })
turned_step x table map ledger = record {
  same = refl;
  marked = refl;
  maps = λ i found container stand. maps_still i found x (record (turned_to x table) { map = with_slot x.map 0 map; ledger = ledger }) container container refl refl (λ k differ. get_or-set_other x.map.slots 0 k map None differ) refl (λ v past. refl) stand;
}

-- ---- by what the commands leave

module _ (d : Shown) (p : Pool) (x : VolumeState) (e : Shown) (q : Pool) (name : List ℕ) (y : VolumeState) where
  -- files were placed, and then a snapshot was made,
  pub snapped_step : (did : IsSnapped d p x e q name y) → ((slot : ℕ) → IsLeastFree x.snapshots slot → get_or y.fresh slot false ≡ true) → IsStepped did.mid y
  snapped_step did waits = subst (IsStepped did.mid) (sym did.now) (made_step did.mid did.slot name (subst (λ (z : VolumeState). get_or z.fresh did.slot false ≡ true) did.now (waits did.slot did.free)))

  -- or one was removed,
  pub unsnapped_step : (did : IsUnsnapped d p x e q name y) → IsStepped did.mid y
  unsnapped_step did = subst (IsStepped did.mid) (sym did.now) (removed_step did.mid did.at did.snap.slot did.ledger)

-- or one is the active table now
pub restored_step : (x : VolumeState) (name : List ℕ) (y : VolumeState) → (did : IsTurned x name y) → IsStepped x y
restored_step x name y did = subst (IsStepped x) (sym did.now) (turned_step x did.snap.table (slot_at x.map did.snap.slot) did.ledger)
