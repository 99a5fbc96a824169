-- What a volume's maps hold, as the code asks for it and as an image shows it.
use Rattle.std.proofs.Common.{◌≡◌, ◌<◌, ◌≤◌, ℕ, Bool, true, false, not, ◌&&◌, get_or, length, take, None, Some, refl, subst, sym, ap, ◌∙◌, ⊎_elim, arith}
use Rattle.std.specs.Prelude.{◌==◌, IfSome, nat_lt, if◌then◌else◌}
use Rattle.std.specs.List.{list_any}
use Rattle.std.specs.Option.{is_some}
use Rattle.std.proofs.lemmas.Bool.{cases_lt, true≢false}
use Rattle.std.proofs.lemmas.Bool.Decides.{nat_tests}
use Rattle.std.proofs.lemmas.List.{get_or-take, get_or_past, length-take}
use Rattle.std.proofs.lemmas.List.Folds.{list_any_at}
use Rattle.fv_bits.specs.Members.{is_member}
use Rattle.fv_image.specs.Views.{Head, View, entry_count, is_held_in, map_slot, used_slots, volume_bit}
use Rattle.fv_image.specs.Views as views
use Rattle.fv_image.proofs.Behind.{slot_within}
use Rattle.fv_container.specs.Mapped.{Mapped, entry_under}
use Rattle.fv_volmap.specs.Slots.{IsVolume, Slot, Volume, active_of, has, stored_count, taken_in}
use Rattle.fv_delay.specs.Delay.{is_delayed, is_held, is_used, is_used_slot}
use Rattle.fv_delay.specs.Holding.{AreMapsOf, Holding, IsHoldingOf}

-- the active map has a bit for each number of the span
pub active_long : (map : Volume) → IsVolume map → length (active_of map) ≡ map.span
active_long map is = subst (λ (s : Slot). IfSome s (λ bits. length bits ≡ map.span)) is.active (is.long 0 None (omega (arith, is.count)))

-- a number of the span, and one behind it
pub held_below : (map : Volume) (v : ℕ) → v < map.span → is_held map v ≡ taken_in (take stored_count map.slots) v
unfolding is_held
held_below map v lt =
    let test : nat_lt v map.span ≡ true = grind (arith, nat_tests, lt) in
    ap (λ (t : Bool). if t then taken_in (take stored_count map.slots) v else is_used map (map_slot map.span v)) test

pub held_behind : (map : Volume) (v : ℕ) → map.span ≤ v → is_held map v ≡ is_used map (map_slot map.span v)
unfolding is_held
held_behind map v le =
    let test : nat_lt v map.span ≡ false = grind (arith, nat_tests, le) in
    ap (λ (t : Bool). if t then taken_in (take stored_count map.slots) v else is_used map (map_slot map.span v)) test

-- what the active map has is held
pub active_held : (map : Volume) → IsVolume map → (v : ℕ) → get_or (active_of map) v false ≡ true → is_held map v ≡ true
unfolding is_member
active_held map is v on = held_below map v within ∙ list_any_at (has v) (take stored_count map.slots) 0 None few (ap (has v) first ∙ on)
  where
    within : v < map.span
    within = ⊎_elim
        (λ (low : v < map.span). low)
        (λ (past : map.span ≤ v). absurd (true≢false (sym on ∙ get_or_past (active_of map) v false (omega (arith, past, active_long map is)))))
        (cases_lt v map.span)

    few : 0 < length (take stored_count map.slots)
    few = omega (arith, length-take stored_count map.slots, is.count)

    first : get_or (take stored_count map.slots) 0 None ≡ Some (active_of map)
    first = get_or-take stored_count map.slots 0 None (omega arith) ∙ is.active

-- The number of an entry is behind no slot of a base. So a VVBN that has an entry is held where some stored map has it, or where the slot is in
-- use of whose map it has a block.
pub held_within : (map : Volume) (v : ℕ) → v < entry_count map.span
    → is_held map v ≡ (if nat_lt v map.span then taken_in (take stored_count map.slots) v else is_used_slot map (map_slot map.span v))
held_within map v within = so (nat_lt v map.span) refl
  where
    so : (t : Bool) → nat_lt v map.span ≡ t → is_held map v ≡ (if t then taken_in (take stored_count map.slots) v else is_used_slot map (map_slot map.span v))
    so true below = held_below map v (grind (arith, nat_tests, below))
    so false behind =
        let past : map.span ≤ v = grind (arith, nat_tests, behind) in
        let stored : map_slot map.span v < stored_count = slot_within map.span v past within in
        let test : nat_lt (map_slot map.span v) stored_count ≡ true = grind (arith, nat_tests, stored) in
        held_behind map v past ∙ ap (λ (t : Bool). t && is_used_slot map (map_slot map.span v)) test

-- ---- an image's volume

-- maps of a volume that an image shows hold what the image says that the volume holds
pub held_seen : (w : View) (s : ℕ) (h : Head) (map : Volume) → AreMapsOf w s h map → (v : ℕ) → is_held map v ≡ is_held_in w s h v
unfolding is_held is_held_in
held_seen w s h map maps v =
    ap (λ (n : ℕ). if nat_lt v n then taken_in (take stored_count map.slots) v else is_used map (map_slot n v)) maps.span
    ∙ so (nat_lt v h.span) refl
  where
    so : (t : Bool) → nat_lt v h.span ≡ t
        → (if t then taken_in (take stored_count map.slots) v else is_used map (map_slot h.span v))
        ≡ (if t then list_any (λ slot. volume_bit w s h.span slot v) (used_slots h) else list_any (λ slot. slot == map_slot h.span v) (used_slots h))
    so true e = maps.bits v (let lt : v < h.span = grind (arith, nat_tests, e) in lt)
    so false e = maps.used (map_slot h.span v)

-- and where the container has an entry just where the image has one, the same entries are delayed
pub delayed_seen : (w : View) (s : ℕ) (h : Head) (map : Volume) (container : Mapped) → AreMapsOf w s h map → (v : ℕ) → is_some (entry_under container v) ≡ is_some (w.entry s v) → is_delayed map container v ≡ views.is_delayed w s h v
delayed_seen w s h map container maps v entry = λ i. entry i && not (held_seen w s h map maps v i)

-- So the volume is the image's, where its container has as many entries.
pub holding_of : (w : View) (s : ℕ) (h : Head) (x : Holding) → AreMapsOf w s h x.map → length x.container.entries ≡ entry_count h.span → ((v : ℕ) → is_some (entry_under x.container v) ≡ is_some (w.entry s v)) → IsHoldingOf w s h x
holding_of w s h x maps long entries = record { held = λ v within. held_seen w s h x.map maps v; long = long; entries = entries }
