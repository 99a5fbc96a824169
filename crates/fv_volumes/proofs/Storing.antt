-- The blocks of a volume after they were written, and after its label was.
use Rattle.std.proofs.Common.{◌≡◌, ◌≢◌, ℕ, ◌<◌, ◌-◌, List, length, Bool, true, false, not, ◌&&◌, ◌||◌, refl, sym, ap, subst, ◌∙◌, arith, Option, Some, None}
use Rattle.std.specs.Prelude.{slice_index_or, min, if◌then◌else◌}
use Rattle.std.specs.FinSet as set
use Rattle.std.proofs.lemmas.Bool.{or_right, true≢false}
use Rattle.std.proofs.lemmas.Bool.Decides.{nat_tests}
use Rattle.fv_bits.specs.Members.{is_member}
use Rattle.fv_disk.specs.Shown.{Image}
use Rattle.fv_model.specs.Machines.{first_block}
use Rattle.fv_image.specs.Containers.{height_of}
use Rattle.fv_image.specs.Views.{entry_count}
use Rattle.fv_container.specs.declared.entry.Entry.{Entry}
use Rattle.fv_container.specs.Mapped.{IsMapped, Mapped, entry_under}
use Rattle.fv_container.specs.Paged.{Paged}
use Rattle.fv_container.specs.Spelled.{names}
use Rattle.fv_container.specs.Clean.{AreAlone, IsCleanOn, StaysClean}
use Rattle.fv_container.proofs.Clean.{clean_alone, clean_still, over_still}
use Rattle.fv_container.specs.Flushed.{Exchanges, IsApart, IsFlushed, WasTaken}
use Rattle.fv_container.specs.Freeing.{Room}
use Rattle.fv_aggmap.specs.Freeing.{free_has, in_range, is_clear, room_of}
use Rattle.fv_aggmap.specs.Space.{Space, IsFree, blocks_of, is_held}
use Rattle.fv_volume.specs.declared.state.VolumeState.{VolumeState}
use Rattle.fv_volume.specs.Writing.{AreNext, CanFlush, HasBlocks, HasDrawn, HasMaps, IsRightMemory, IsTaken, Renews, StandBits, has_maps_at, map_writes}
use Rattle.fv_volume.specs.Stored.{is_map_written, map_entry, place_at, place_in}
use Rattle.fv_volumes.proofs.Drawing.{free_before, maps_at, maps_same, not_so, or_neither}
use Rattle.fv_volumes.proofs.Spelling.{flushed_still}

-- a block of the set of the free ones is free
pub free_in : (space : Space) (b : ℕ) → set.contains (room_of space).free b ≡ true → IsFree space b
free_in space b is =
    let both = parts (is_clear space b) (in_range (first_block (blocks_of space)) (min (blocks_of space) 1048576 - first_block (blocks_of space)) b) (sym (free_has space b) ∙ is) in
    let range = both.1 in
    record { after = grind (arith, nat_tests, range); within = grind (arith, nat_tests, range); free = turned (is_held space.committed space.next b) both.0 }
  where
    parts : (x y : Bool) → (x && y) ≡ true → (x ≡ true) × (y ≡ true)
    parts true y h = (refl, h)
    parts false y h = absurd (true≢false (sym h))

    turned : (t : Bool) → not t ≡ true → t ≡ false
    turned false h = refl
    turned true h = sym h

-- what couldn't be written before some blocks were taken isn't free after
pub was_taken : (space mid : Space) (taken : ℕ → Bool) (count b : ℕ) → HasDrawn space taken count mid → IsTaken space b → WasTaken (room_of mid) b
was_taken space mid taken count b drawn is = not_so (set.contains (room_of mid).free b) (λ free. is (free_before space mid taken count b drawn (free_in mid b free)).0)

module _ (old new : Mapped) (same : new.entries ≡ old.entries) where
  under : (v : ℕ) → entry_under new v ≡ entry_under old v
  under v = ap (λ (es : List (Option Entry)). slice_index_or es v None) same

  place_same : (v : ℕ) → place_at new v ≡ place_at old v
  place_same v = ap place_in (under v)

  maps_still : (x : VolumeState) (n b : ℕ) → has_maps_at x new n b ≡ has_maps_at x old n b
  maps_still x n b = maps_same x old new n b place_same

  map_same : (x : VolumeState) (n : ℕ) (first : Mapped) → HasMaps x n first old → HasMaps x n first new
  map_same x n first has = record {
    maps = λ v lt is. under v ∙ has.maps v lt is ∙ ap (λ (p : ℕ). Some (map_entry p)) (sym (place_same v));
    some = λ v lt is. rw (place_same v) (has.some v lt is);
    others = λ v out. under v ∙ has.others v out;
    once = λ v w lt below is too e. has.once v w lt below is too (sym (place_same v) ∙ e ∙ place_same w);
  }

-- what the next root is to hold isn't free
pub next_taken : (space : Space) (nodes : List ℕ) → AreNext space nodes → (b : ℕ) → names nodes b ≡ true → IsTaken space b
next_taken space nodes next b named free = true≢false (sym (next b named) ∙ (or_neither (is_member space.committed b) (is_member space.next b) free.free).1)

-- A flush renews the old tree, whose nodes are held, each at a place of its own where it is clean.
renews : (old : Room) (before : Mapped) (after : List ℕ) (new : Room) → AreAlone before → ((b : ℕ) → names before.tree b ≡ true → old.held b ≡ true) → Exchanges old before after new → Renews old before.tree after new
renews old before after new alone was is = record {
  fresh = is.free;
  held = λ apart b. is.held apart alone b ∙ same (names after b) (names before.tree b) (old.held b) (was b);
  committed = is.committed;
}
  where
    same : (a n h : Bool) → (n ≡ true → h ≡ true) → (if a then (not n || h) else (not n && h)) ≡ (a || (not n && h))
    same true true h on = on refl
    same true false h on = refl
    same false n h on = refl

module _ (x : VolumeState) (first : Paged) (space mid left : Space) (root : ℕ) (old new : Paged) (before after : Image)
    (map : HasMaps x (entry_count x.span) first.map old.map) (bits : StandBits x (entry_count x.span) old.map before) (drawn : HasDrawn space (has_maps_at x old.map (entry_count x.span)) (map_writes x (entry_count x.span)) mid)
    (tree : old.map.tree ≡ first.map.tree) (same : new.map.entries ≡ old.map.entries) (valid : IsMapped old.map) (exchanges : Exchanges (room_of mid) old.map new.map.tree (room_of left))
    (flushed : IsApart (room_of mid) old.map.tree → IsCleanOn before old → IsFlushed after root (height_of (length new.map.entries)) new.map) (over : IsApart (room_of mid) old.map.tree → IsCleanOn before old → IsCleanOn after new)
    (long : length new.map.entries ≡ entry_count x.span) (still : (b : ℕ) → WasTaken (room_of mid) b → after b ≡ before b)
    (start : Image) (can : CanFlush start space first) (stays : StaysClean first old) (since : (b : ℕ) → IsTaken space b → before b ≡ start b)
  where
    taken : (b : ℕ) → names first.map.tree b ≡ true → IsTaken space b
    taken = next_taken space first.map.tree can.next

    -- the clean nodes stand there still, since no block was written that wasn't free
    clean : IsCleanOn before old
    clean = stays before (clean_still start before first (λ b named. since b (taken b named)) can.clean)

    renewed : Renews (room_of mid) old.map.tree new.map.tree (room_of left)
    renewed = renews (room_of mid) old.map new.map.tree (room_of left) (clean_alone before old valid clean)
        (λ b named. drawn.held b ∙ or_right (has_maps_at x old.map (entry_count x.span) b) (is_member space.next b) (can.next b (ap (λ (t : List ℕ). names t b) (sym tree) ∙ named))) exchanges

    abbrev at_maps : Mapped → ℕ → Bool
    at_maps m b = has_maps_at x m (entry_count x.span) b

    from_mid : (b : ℕ) → IsFree mid b → IsFree space b × (at_maps old.map b ≡ false)
    from_mid b free = free_before space mid (has_maps_at x old.map (entry_count x.span)) (map_writes x (entry_count x.span)) b drawn free

    apart : IsApart (room_of mid) old.map.tree
    apart b free = not_so (names old.map.tree b) (λ named. taken b (ap (λ (t : List ℕ). names t b) (sym tree) ∙ named) (from_mid b (free_in mid b free)).0)

    node_free : (b : ℕ) → names new.map.tree b ≡ true → names first.map.tree b ≡ false → IsFree mid b
    node_free b named lacks = free_in mid b (renewed.fresh b named (ap (λ (t : List ℕ). names t b) tree ∙ lacks))

    map_free : (b : ℕ) → at_maps new.map b ≡ true → IsFree space b
    map_free b led = drawn.free b (sym (maps_still old.map new.map same x (entry_count x.span) b) ∙ led)

    map_apart : (b : ℕ) → at_maps new.map b ≡ true → names new.map.tree b ≡ false
    map_apart b led = not_so (names new.map.tree b) (λ named.
        let lacks = not_so (names first.map.tree b) (λ was. taken b was (map_free b led)) in
        true≢false (sym (sym (maps_still old.map new.map same x (entry_count x.span) b) ∙ led) ∙ (from_mid b (node_free b named lacks)).1))

    placed : (v : ℕ) → v < entry_count x.span → is_map_written x v ≡ true → at_maps old.map (place_at old.map v) ≡ true
    placed v lt is = maps_at x old.map (entry_count x.span) v (place_at old.map v) lt is refl (let some = map.some v lt is in λ none. omega (arith, some, none))

    bits_still : StandBits x (entry_count x.span) new.map after
    bits_still v lt is =
        let at : place_at new.map v ≡ place_at old.map v = place_same old.map new.map same v in
        let there : after (place_at old.map v) ≡ before (place_at old.map v) = still (place_at old.map v) (not_so _ (λ free. true≢false (sym (placed v lt is) ∙ (from_mid (place_at old.map v) (free_in mid _ free)).1))) in
        rw (at, there) (bits v lt is)

    held : (t l o m : Bool) → (l ≡ true → o ≡ false) → (t || (not o && (l || m))) ≡ ((t || l) || (m && not o))
    held true l o m off = refl
    held false true o m off = rw (off refl) refl
    held false false true true off = refl
    held false false true false off = refl
    held false false false true off = refl
    held false false false false off = refl

    pub blocks_written : HasBlocks x first.map space root new.map after left
    blocks_written = record {
      tree = subst (λ (k : ℕ). IsFlushed after root (height_of k) new.map) long (flushed apart clean);
      over = (over apart clean).over;
      map = map_same old.map new.map same x (entry_count x.span) first.map map;
      bits = bits_still;
      fresh_nodes = λ b named lacks. (from_mid b (node_free b named lacks)).0;
      fresh_maps = map_free;
      apart = map_apart;
      held = λ b.
          renewed.held apart b ∙ ap (λ t. names new.map.tree b || (not t && is_member mid.next b)) (ap (λ (t : List ℕ). names t b) tree)
          ∙ ap (λ t. names new.map.tree b || (not (names first.map.tree b) && t)) (drawn.held b ∙ ap (λ t. t || is_member space.next b) (sym (maps_still old.map new.map same x (entry_count x.span) b)))
          ∙ held (names new.map.tree b) (at_maps new.map b) (names first.map.tree b) (is_member space.next b) (λ led. not_so (names first.map.tree b) (λ named. taken b named (map_free b led)));
    }

    -- What is in memory afterwards is as the map says.
    pub memory_right : IsRightMemory new
    memory_right = let right = over apart clean in record { here = right.here; known = right.known }

-- the write of a taken block leaves them
pub blocks_still : (x : VolumeState) (first : Mapped) (space left : Space) (root label : ℕ) (new : Mapped) (before after : Image)
    → HasBlocks x first space root new before left → IsTaken space label → names first.tree label ≡ false → ((b : ℕ) → b ≢ label → after b ≡ before b) → HasBlocks x first space root new after left
blocks_still x first space left root label new before after has taken lacks others =
    let other : (b : ℕ) → IsFree space b → b ≢ label = λ b free e. taken (rw (← e) free) in
    let node : (b : ℕ) → names new.tree b ≡ true → b ≢ label = λ b named e. taken (has.fresh_nodes label (ap (names new.tree) (sym e) ∙ named) lacks) in
    record {
      tree = flushed_still before after root (height_of (entry_count x.span)) new has.tree (λ b named. others b (node b named));
      over = over_still before after new (λ b named. others b (node b named)) has.over;
      map = has.map;
      bits = λ v lt is.
          let some = has.map.some v lt is in
          let led : has_maps_at x new (entry_count x.span) (place_at new v) ≡ true = maps_at x new (entry_count x.span) v (place_at new v) lt is refl (λ none. omega (arith, some, none)) in
          rw (others (place_at new v) (other (place_at new v) (has.fresh_maps (place_at new v) led))) (has.bits v lt is);
      fresh_nodes = has.fresh_nodes;
      fresh_maps = has.fresh_maps;
      apart = has.apart;
      held = has.held;
    }
