-- The rooms of commands: by a session's volumes, in the machine for which it stands, and at most.
use Rattle.std.proofs.Common.{◌≡◌, ◌<◌, ◌≤◌, ◌+◌, ◌++◌, ⊎_elim, ℕ, zero, suc, Bool, true, false, cond, List, [], ◌∷◌, Option, Some, None, flat_map, true≢false, refl, sym, ap, subst, ◌∙◌, arith}
use Rattle.std.specs.Prelude.{if◌then◌else◌, IfSome, nat_le}
use Rattle.std.specs.List.{range_with_len}
use Rattle.std.specs.Option.{option_map, option_map_or}
use Rattle.std.specs.Ordering.{is_eq}
use Rattle.std.specs.FinMap as fin
use Rattle.std.specs.FinSet as set
use Rattle.std.specs.FinMap.{find}
use Rattle.std.proofs.lemmas.Bool.{cases_lt}
use Rattle.std.proofs.lemmas.Bool.Decides.{nat_tests}
use Rattle.fv_disk.specs.Shown.{Shown}
use Rattle.fv_model.specs.declared.commands.Command.{Command}
use Rattle.fv_model.specs.declared.commands.Command.TheVariants.{SnapCreate, CloneCreate, Mirror}
use Rattle.fv_model.specs.Machines.{Machine}
use Rattle.fv_model.specs.Numbers.{ceil_div, greatest_span}
use Rattle.fv_model.specs.Places.{ids_of}
use Rattle.fv_model.specs.Space.{leaves_by, map_blocks, nodes_above, overhead, span_of}
use Rattle.fv_model.specs.Tables.{Table}
use Rattle.fv_model.specs.Spelling.{is_same_name, name_cmp}
use Rattle.fv_model.specs.Volumes.{Volume}
use Rattle.fv_laws.proofs.Changes.{itself, same_name}
use Rattle.fv_laws.proofs.Lists.{In, in_right}
use Rattle.fv_laws.proofs.Orders.{name_total}
use Rattle.fv_tables.specs.Told.{table_told}
use Rattle.fv_image.specs.Views.{slots}
use Rattle.fv_container.specs.Chains.{slot_count}
use Rattle.fv_pool.specs.declared.pool.Pool.{Pool}
use Rattle.fv_volume.specs.declared.state.Snap.{Snap}
use Rattle.fv_volume.specs.declared.state.VolumeState.{VolumeState}
use Rattle.fv_volume.specs.Asking.{snap_named}
use Rattle.fv_volume.specs.Cloning.{count_in}
use Rattle.fv_volume.specs.Held.{IsHeldIn, IsReadyIn}
use Rattle.fv_volume.specs.OneVolume.{base_table, blocks_in, standing_kept, tables_of, volume_for, IsKeptTable}
use Rattle.fv_volume.specs.Slots.{is_named, HasName}
use Rattle.fv_volume.specs.States.{state_at, States}
use Rattle.fv_volume.proofs.EachRoot.{all_in}
use Rattle.fv_volume.proofs.IdsCounted.{slot_ids_most}
use Rattle.fv_volume.proofs.SnapFinds.{named_there, told_named}
use Rattle.fv_cp.specs.Held.{machine_held, named_held}
use Rattle.fv_aggregate.specs.declared.session.Session.{Session}
use Rattle.fv_aggregate.specs.Commands.{first_among, slot_named, changes_volume, copies_among, copies_at, copies_in, copies_on, copies_within, map_among, map_at, map_in, most_room, room_by, room_of, room_with, snap_room, span_among, span_at, span_in, span_on, span_within, wide_among, wide_at, wide_in}
use Rattle.fv_aggregate.specs.Standing.{StandsFor, StandsReady}

-- ---- by the maps and the spans

-- What holds of the blocks of maps, of the overheads of spans, of those of mirrors with their copies, and of each number with itself, holds of the rooms.
rooms_with : (R : ℕ → ℕ → Type 0) → ((n : ℕ) → R n n) → (f g : List ℕ → ℕ) (h k : List ℕ → List ℕ → ℕ → ℕ) (w x : List ℕ → ℕ → ℕ) (p q : List ℕ → List ℕ → ℕ → ℕ) → ((volume : List ℕ) → R (f volume) (g volume))
    → ((parent snapshot : List ℕ) (size : ℕ) → R (overhead (h parent snapshot size)) (overhead (k parent snapshot size)))
    → ((source snapshot : List ℕ) (size : ℕ) → R (overhead (w source size) + p source snapshot size) (overhead (x source size) + q source snapshot size)) → (c : Command) → R (room_with f h w p c) (room_with g k x q c)
unfolding room_with
rooms_with R same f g h k w x p q maps spans copies (SnapCreate volume snapshot) = maps volume
rooms_with R same f g h k w x p q maps spans copies (CloneCreate clone parent snapshot size kind) = spans parent snapshot size
rooms_with R same f g h k w x p q maps spans copies (Mirror source snapshot mirror size kind) = copies source snapshot size
rooms_with R same f g h k w x p q maps spans copies c = same (room_with f h w p c)

-- so many nodes lie above the leaves that a container can have
nodes_are : (n : ℕ) → n ≤ 4100 → nodes_above 8 n ≡ cond (nat_le n 256) 1 (ceil_div n 256 + 1)
unfolding nodes_above
nodes_are n most = ap (λ (b : Bool). cond (nat_le n 256) 1 (ceil_div n 256 + cond b 1 (ceil_div (ceil_div n 256) 256 + nodes_above 6 (ceil_div (ceil_div n 256) 256)))) few
  where
    few : nat_le (ceil_div n 256) 256 ≡ true
    few = let low : ceil_div n 256 ≤ 256 = omega (arith, most) in grind (arith, nat_tests, low)

nodes_grow : (n m : ℕ) → n ≤ m → m ≤ 4100 → nodes_above 8 n ≤ nodes_above 8 m
nodes_grow n m less most =
    let first = nodes_are n (omega (arith, less, most)) in
    let last = nodes_are m most in
    let between = by (nat_le n 256) (nat_le m 256) refl refl in
    omega (arith, first, last, between)
  where
    by : (a b : Bool) → nat_le n 256 ≡ a → nat_le m 256 ≡ b → cond a 1 (ceil_div n 256 + 1) ≤ cond b 1 (ceil_div m 256 + 1)
    by true true e f = omega arith
    by true false e f = omega arith
    by false true e f = absurd (let large : 256 < n = grind (arith, nat_tests, e) in let small : m ≤ 256 = grind (arith, nat_tests, f) in omega (arith, large, small, less))
    by false false e f = omega (arith, less)

-- a wider volume has no less overhead
pub overhead_grows : (a b : ℕ) → a ≤ b → b ≤ greatest_span → overhead a ≤ overhead b
unfolding overhead
overhead_grows a b less most =
    let above = nodes_grow (leaves_by 1 a) (leaves_by 1 b) (omega (arith, less)) (omega (arith, most)) in
    omega (arith, above, less)

-- ---- the first volume of a name

-- so much is told of it at most, as of each slot
first_few : (at : ℕ → ℕ) (most : ℕ) (states : States) → ((slot : ℕ) → at slot ≤ most) → (some name : List ℕ) → first_among at 0 states some name ≤ most
unfolding first_among
first_few at most states few [] name = omega arith
first_few at most states few (slot ∷ rest) name = by (is_named (state_at states slot) name) (first_few at most states few rest name)
  where
    by : (t : Bool) → first_among at 0 states rest name ≤ most → (if t then at slot else first_among at 0 states rest name) ≤ most
    by true left = few slot
    by false left = left

-- ---- the spans of clones

clipped : (span : ℕ) → span_within span ≤ greatest_span
clipped span = by (nat_le span greatest_span) refl
  where
    by : (b : Bool) → nat_le span greatest_span ≡ b → (if b then span else greatest_span) ≤ greatest_span
    by true e = grind (arith, nat_tests, e)
    by false e = omega arith

clipped_grows : (a b : ℕ) → a ≤ b → span_within a ≤ span_within b
clipped_grows a b less = by (nat_le a greatest_span) (nat_le b greatest_span) refl refl
  where
    by : (s t : Bool) → nat_le a greatest_span ≡ s → nat_le b greatest_span ≡ t → (if s then a else greatest_span) ≤ (if t then b else greatest_span)
    by true true e f = less
    by true false e f = grind (arith, nat_tests, e)
    by false true e f = absurd (let large : greatest_span < a = grind (arith, nat_tests, e) in let small : b ≤ greatest_span = grind (arith, nat_tests, f) in omega (arith, large, small, less))
    by false false e f = omega arith

-- none is greater than a volume can have
span_few : (o : Option VolumeState) (snapshot : List ℕ) (size : ℕ) → span_at o snapshot size ≤ greatest_span
span_few None snapshot size = omega arith
span_few (Some x) snapshot size = by (snap_named x.snapshots snapshot)
  where
    by : (o : Option Snap) → option_map_or (λ q. span_within (span_of size (count_in x q.slot) x.span)) o 0 ≤ greatest_span
    by None = omega arith
    by (Some q) = clipped (span_of size (count_in x q.slot) x.span)

overhead_few : (states : States) (parent snapshot : List ℕ) (size : ℕ) → overhead (span_among states slots parent snapshot size) ≤ overhead greatest_span
overhead_few states parent snapshot size = overhead_grows (span_among states slots parent snapshot size) greatest_span (first_few (λ slot. span_at (state_at states slot) snapshot size) greatest_span states (λ slot. span_few (state_at states slot) snapshot size) slots parent) (omega arith)

-- so it is of a mirror, which copies no more than its size
wide_few : (o : Option VolumeState) (size : ℕ) → wide_at o size ≤ greatest_span
wide_few None size = omega arith
wide_few (Some x) size = clipped (span_of size 0 x.span)

held_within : (size count : ℕ) → copies_within size count ≤ size
held_within size count = by (nat_le count size) refl
  where
    by : (b : Bool) → nat_le count size ≡ b → (if b then count else size) ≤ size
    by true e = grind (arith, nat_tests, e)
    by false e = omega arith

within_grows : (size a b : ℕ) → a ≤ b → copies_within size a ≤ copies_within size b
within_grows size a b less = by (nat_le a size) (nat_le b size) refl refl
  where
    by : (s t : Bool) → nat_le a size ≡ s → nat_le b size ≡ t → (if s then a else size) ≤ (if t then b else size)
    by true true e f = less
    by true false e f = grind (arith, nat_tests, e)
    by false true e f = absurd (let large : size < a = grind (arith, nat_tests, e) in let small : b ≤ size = grind (arith, nat_tests, f) in omega (arith, large, small, less))
    by false false e f = omega arith

copy_few : (o : Option VolumeState) (snapshot : List ℕ) (size : ℕ) → copies_at o snapshot size ≤ size
copy_few None snapshot size = omega arith
copy_few (Some x) snapshot size = by (snap_named x.snapshots snapshot)
  where
    by : (o : Option Snap) → option_map_or (λ q. copies_within size (count_in x q.slot)) o 0 ≤ size
    by None = omega arith
    by (Some q) = held_within size (count_in x q.slot)

mirror_few : (states : States) (source snapshot : List ℕ) (size : ℕ) → overhead (wide_among states slots source size) + copies_among states slots source snapshot size ≤ overhead greatest_span + size
mirror_few states source snapshot size =
    let wide = overhead_grows (wide_among states slots source size) greatest_span (first_few (λ slot. wide_at (state_at states slot) size) greatest_span states (λ slot. wide_few (state_at states slot) size) slots source) (omega arith) in
    let few = first_few (λ slot. copies_at (state_at states slot) snapshot size) size states (λ slot. copy_few (state_at states slot) snapshot size) slots source in
    omega (arith, wide, few)

-- a command that changes no volume that stays makes no snapshot
pub fixed_room : (s : Session) (c : Command) → changes_volume c ≡ false → room_by s.volumes c ≤ most_room c
unfolding room_with
fixed_room s (SnapCreate volume snapshot) none = absurd cc
fixed_room s (CloneCreate clone parent snapshot size kind) none = overhead_few s.volumes parent snapshot size
fixed_room s (Mirror source snapshot mirror size kind) none = mirror_few s.volumes source snapshot size
fixed_room s c none = omega arith

-- ---- by the volume of a slot

module _ (states : States) (slot : ℕ) (name : List ℕ) (has : HasName states slot name) where
  first_in : (at : ℕ → ℕ) (none from count : ℕ) → from ≤ slot → slot < from + count → first_among at none states (range_with_len from count) name ≡ at slot
  unfolding first_among
  first_in at none from zero least most = absurd (omega (arith, least, most))
  first_in at none from (suc count) least most = ⊎_elim
      (λ (before : from < slot).
      ap (λ (t : Bool). if t then at from else first_among at none states (range_with_len (from + 1) count) name) (has.first from before) ∙ first_in at none (from + 1) count (omega (arith, before)) (omega (arith, most)))
      (λ (reached : slot ≤ from).
      let here : from ≡ slot = omega (arith, least, reached) in
      ap (λ (t : Bool). if t then at from else first_among at none states (range_with_len (from + 1) count) name) (ap (λ (s : ℕ). is_named (state_at states s) name) here ∙ has.named) ∙ ap at here)
      (cases_lt from slot)

  first_there : (at : ℕ → ℕ) (none : ℕ) → slot < 64 → first_among at none states slots name ≡ at slot
  unfolding slots
  first_there at none within = first_in at none 0 64 (omega arith) (omega (arith, within))

  -- the first volume of a name has its map
  pub map_there : slot < 64 → map_among states slots name ≡ map_at (state_at states slot)
  map_there within = first_there (λ slot. map_at (state_at states slot)) 0 within

  -- and a clone of a snapshot of it has its span
  pub span_there : (snapshot : List ℕ) (size : ℕ) → slot < 64 → span_among states slots name snapshot size ≡ span_at (state_at states slot) snapshot size
  span_there snapshot size within = first_there (λ slot. span_at (state_at states slot) snapshot size) 0 within

  -- and a mirror of it has its span, and copies so many blocks of a snapshot of it
  pub wide_there : (size : ℕ) → slot < 64 → wide_among states slots name size ≡ wide_at (state_at states slot) size
  wide_there size within = first_there (λ slot. wide_at (state_at states slot) size) 0 within

  pub copies_there : (snapshot : List ℕ) (size : ℕ) → slot < 64 → copies_among states slots name snapshot size ≡ copies_at (state_at states slot) snapshot size
  copies_there snapshot size within = first_there (λ slot. copies_at (state_at states slot) snapshot size) 0 within

  -- it is the slot that the name names
  pub slot_there : slot < 64 → slot_named states name ≡ slot
  slot_there within = first_there (λ slot. slot) slot_count within

-- ---- in the machine

-- What is told of each volume in its slot stands in this relation to what is told of it in the machine. So it is with the first volume
-- of a name.
module _ (disk : Shown) (pool : Pool) (states : States) (R : ℕ → ℕ → Type 0) (none : R 0 0) (told : Volume → ℕ) (at : Option VolumeState → ℕ) (each : (s : ℕ) (y : VolumeState) → state_at states s ≡ Some y → R (at (Some y)) (told (volume_for disk pool y))) (name : List ℕ) where
  abbrev first_in_slots : List ℕ → ℕ
  first_in_slots some = first_among (λ slot. at (state_at states slot)) 0 states some name

  abbrev found : List ℕ → ℕ
  found some = option_map_or told (find name_cmp name (flat_map (λ s. named_held disk pool (state_at states s)) some)) 0

  found_one : (y : VolumeState) → R (at (Some y)) (told (volume_for disk pool y)) → (others : List (List ℕ × Volume)) (left : ℕ) → R left (option_map_or told (find name_cmp name others) 0)
      → R (if is_same_name y.name name then at (Some y) else left) (option_map_or told (find name_cmp name ((y.name, volume_for disk pool y) ∷ others)) 0)
  found_one y its others left rest = by (is_eq (name_cmp name y.name)) (is_same_name y.name name) refl refl
    where
      by : (t u : Bool) → is_eq (name_cmp name y.name) ≡ t → is_same_name y.name name ≡ u
          → R (if u then at (Some y) else left) (option_map_or told (cond t (Some (volume_for disk pool y)) (find name_cmp name others)) 0)
      by true true found named = its
      by false false found named = rest
      by true false found named = absurd (true≢false (sym (itself y.name) ∙ ap (λ (n : List ℕ). is_same_name y.name n) (sym (same_name name y.name found)) ∙ named))
      by false true found named = absurd (true≢false (sym (itself name) ∙ ap (λ (n : List ℕ). is_same_name name n) (sym (same_name y.name name named)) ∙ found))

  found_among : (some : List ℕ) → R (first_in_slots some) (found some)
  unfolding first_among
  found_among [] = none
  found_among (slot ∷ rest) = by (state_at states slot) refl (found_among rest)
    where
      others : List (List ℕ × Volume)
      others = flat_map (λ s. named_held disk pool (state_at states s)) rest

      by : (o : Option VolumeState) → state_at states slot ≡ o → R (first_in_slots rest) (found rest)
          → R (if is_named o name then at o else first_in_slots rest) (option_map_or told (find name_cmp name (named_held disk pool o ++ others)) 0)
      by None there left = left
      by (Some y) there left = found_one y (each slot y there) others (first_in_slots rest) left

  first_held : R (first_in_slots slots) (option_map_or told (fin.get (machine_held disk pool states).volumes name) 0)
  unfolding machine_held
  first_held = subst (R (first_in_slots slots))
      (sym (ap (λ (o : Option Volume). option_map_or told o 0) (fin.get-from_entries name_total (flat_map (λ s. named_held disk pool (state_at states s)) slots) name))) (found_among slots)

-- A snapshot's map slot has no number that isn't one of its table's: what grows with the numbers of the one is no more than by those of
-- the other.
module _ (disk : Shown) (pool : Pool) (snapshot : List ℕ) (grown : ℕ → ℕ) (grows : (a b : ℕ) → a ≤ b → grown a ≤ grown b) (s : ℕ) (y : VolumeState) (held : IsHeldIn disk pool s y) where
  abbrev by_slot : Option Snap → ℕ
  by_slot o = option_map_or (λ (q : Snap). grown (count_in y q.slot)) o 0

  abbrev by_table : Option Table → ℕ
  by_table o = option_map_or (λ (t : Table). grown (set.len (ids_of t))) o 0

  few_ids : by_slot (snap_named y.snapshots snapshot) ≤ by_table (fin.get (volume_for disk pool y).snapshots snapshot)
  few_ids = by (snap_named y.snapshots snapshot) refl
    where
      table : Snap → Table
      table q = table_told (standing_kept (blocks_in disk pool y) q)

      on : (o : Option Snap) → snap_named y.snapshots snapshot ≡ o → by_table (fin.get (volume_for disk pool y).snapshots snapshot) ≡ by_table (option_map table o)
      on o e = ap by_table (told_named (blocks_in disk pool y) snapshot y.snapshots ∙ ap (option_map table) e)

      by : (o : Option Snap) → snap_named y.snapshots snapshot ≡ o → by_slot (snap_named y.snapshots snapshot) ≤ by_table (fin.get (volume_for disk pool y).snapshots snapshot)
      by None e = let none : by_slot (snap_named y.snapshots snapshot) ≡ 0 = ap by_slot e in omega (arith, none)
      by (Some q) e =
          let there : In q (tables_of y) = in_right q (base_table y.base) y.snapshots (named_there snapshot y.snapshots q e).0 in
          let lies : IsKeptTable disk pool y q = all_in (IsKeptTable disk pool y) (tables_of y) held.stands.kept q there in
          let few : count_in y q.slot ≤ set.len (ids_of (table q)) = slot_ids_most disk pool y held.stands.shared q there lies.1 in
          let less = grows (count_in y q.slot) (set.len (ids_of (table q))) few in
          let at : by_slot (snap_named y.snapshots snapshot) ≡ grown (count_in y q.slot) = ap by_slot e in
          let told : by_table (fin.get (volume_for disk pool y).snapshots snapshot) ≡ grown (set.len (ids_of (table q))) = on (Some q) e in
          omega (arith, less, at, told)

module _ (disk : Shown) (pool : Pool) (states : States) where
  pub map_held : (name : List ℕ) → map_in (machine_held disk pool states) name ≡ map_among states slots name
  map_held name = sym (first_held disk pool states (λ a b. a ≡ b) refl (λ v. map_blocks v.span) map_at (λ s y there. refl) name)

  wide_held : (name : List ℕ) (size : ℕ) → wide_in (machine_held disk pool states) name size ≡ wide_among states slots name size
  wide_held name size = sym (first_held disk pool states (λ a b. a ≡ b) refl (λ v. span_within (span_of size 0 v.span)) (λ o. wide_at o size) (λ s y there. refl) name)

  module _ (each : (s : ℕ) → IfSome (state_at states s) (IsHeldIn disk pool s)) (name snapshot : List ℕ) (size : ℕ) where
    one : (s : ℕ) (y : VolumeState) → state_at states s ≡ Some y → IsHeldIn disk pool s y
    one s y there = subst (λ (o : Option VolumeState). IfSome o (IsHeldIn disk pool s)) there (each s)

    span_held : span_among states slots name snapshot size ≤ span_in (machine_held disk pool states) name snapshot size
    span_held = first_held disk pool states (λ a b. a ≤ b) (omega arith) (λ v. span_on v snapshot size) (λ o. span_at o snapshot size)
        (λ s y there. few_ids disk pool snapshot (λ n. span_within (span_of size n y.span)) (λ a b less. clipped_grows (span_of size a y.span) (span_of size b y.span) (omega (arith, less))) s y (one s y there)) name

    copies_held : copies_among states slots name snapshot size ≤ copies_in (machine_held disk pool states) name snapshot size
    copies_held = first_held disk pool states (λ a b. a ≤ b) (omega arith) (λ v. copies_on v snapshot size) (λ o. copies_at o snapshot size)
        (λ s y there. few_ids disk pool snapshot (copies_within size) (within_grows size) s y (one s y there)) name

-- where a session stands for a machine the room of a command by its volumes is no more than that in the machine
pub room_stands : (d : Shown) (s : Session) (last m : Machine) → StandsFor d s last m → (c : Command) → room_by s.volumes c ≤ room_of m c
room_stands d s last m is c = rooms_with (λ a b. a ≤ b) (λ n. omega arith) (map_among s.volumes slots) (map_in m) (span_among s.volumes slots) (span_in m) (wide_among s.volumes slots) (wide_in m) (copies_among s.volumes slots) (copies_in m)
    (λ volume. let same : map_among s.volumes slots volume ≡ map_in m volume = sym (map_held d s.pool s.volumes volume) ∙ ap (λ (k : Machine). map_in k volume) is.machine in omega (arith, same))
    (λ parent snapshot size. overhead_grows (span_among s.volumes slots parent snapshot size) (span_in m parent snapshot size)
    (subst (λ (k : Machine). span_among s.volumes slots parent snapshot size ≤ span_in k parent snapshot size) is.machine (span_held d s.pool s.volumes is.held.each parent snapshot size)) (in_few m parent snapshot size))
    (λ source snapshot size.
    let wide : wide_among s.volumes slots source size ≡ wide_in m source size = sym (wide_held d s.pool s.volumes source size) ∙ ap (λ (k : Machine). wide_in k source size) is.machine in
    let over : overhead (wide_among s.volumes slots source size) ≡ overhead (wide_in m source size) = ap overhead wide in
    let few = subst (λ (k : Machine). copies_among s.volumes slots source snapshot size ≤ copies_in k source snapshot size) is.machine (copies_held d s.pool s.volumes is.held.each source snapshot size) in
    omega (arith, over, few)) c
  where
    on_few : (v : Volume) (snapshot : List ℕ) (size : ℕ) (o : Option Table) → option_map_or (λ t. span_within (span_of size (set.len (ids_of t)) v.span)) o 0 ≤ greatest_span
    on_few v snapshot size None = omega arith
    on_few v snapshot size (Some t) = clipped (span_of size (set.len (ids_of t)) v.span)

    in_few : (m : Machine) (parent snapshot : List ℕ) (size : ℕ) → span_in m parent snapshot size ≤ greatest_span
    in_few m parent snapshot size = by (fin.get m.volumes parent)
      where
        by : (o : Option Volume) → option_map_or (λ v. span_on v snapshot size) o 0 ≤ greatest_span
        by None = omega arith
        by (Some v) = on_few v snapshot size (fin.get v.snapshots snapshot)

-- ---- at most

module _ (d : Shown) (s : Session) (stands : StandsReady d s) where
  few_at : (slot : ℕ) → map_at (state_at s.volumes slot) ≤ snap_room
  few_at slot = by (state_at s.volumes slot) (stands.ready slot)
    where
      by : (o : Option VolumeState) → IfSome o (IsReadyIn d s.pool slot) → map_at o ≤ snap_room
      by None ready = omega arith
      by (Some x) ready = let span = ready.ready.labelled.span in omega (arith, span)

  -- a session that stands on a disk has no more room of a command than the most
  pub room_most : (c : Command) → room_by s.volumes c ≤ most_room c
  room_most c = rooms_with (λ a b. a ≤ b) (λ n. omega arith) (map_among s.volumes slots) (λ volume. snap_room) (span_among s.volumes slots) (λ parent snapshot size. greatest_span) (wide_among s.volumes slots) (λ source size. greatest_span) (copies_among s.volumes slots) (λ source snapshot size. size) (λ name. first_few (λ slot. map_at (state_at s.volumes slot)) snap_room s.volumes few_at slots name) (overhead_few s.volumes) (mirror_few s.volumes) c
