-- A volume without one of its snapshots, of whose active table nothing is in memory.
use Rattle.std.proofs.Common.{◌≡◌, ◌≢◌, ℕ, zero, suc, ◌+◌, ◌<◌, ◌≤◌, Bool, true, false, ◌||◌, List, [], ◌∷◌, ◌++◌, length, map, take, drop, get_or, get_or-set_other, inl, inr, Option, Some, None, is_some, refl, sym, ap, subst, ◌∙◌, ⊎_elim, arith}
use Rattle.std.specs.Prelude.{◌==◌, All, find, slice_index_or, slice_set, if◌then◌else◌}
use Rattle.std.specs.List.{list_any}
use Rattle.std.specs.FinMap as fin
use Rattle.std.proofs.lemmas.Bool.{cases_eq, true≢false}
use Rattle.std.proofs.lemmas.Bool.Decides.{nat_tests}
use Rattle.std.proofs.lemmas.List.Elements.{All-append, All-cons, All-head, All-tail}
use Rattle.fv_disk.specs.Shown.{Shown as Disk}
use Rattle.std.specs.FinSet as set
use Rattle.fv_model.specs.Space.{base_ids}
use Rattle.fv_model.specs.Spelling.{name_cmp}
use Rattle.fv_model.specs.Volumes.{Volume}
use Rattle.fv_model.specs.Tables.{Table}
use Rattle.fv_laws.proofs.Lists.{In, in_left, in_right}
use Rattle.fv_files.specs.Numbering.{AreNumbersIf}
use Rattle.fv_charge.specs.declared.ledger.Ledger.{Ledger}
use Rattle.fv_charge.specs.Ledgers.{IsLedgerOf}
use Rattle.fv_image.specs.ReachRules.{are_distinct}
use Rattle.fv_image.specs.Views.{Snap as HeadSnap}
use Rattle.fv_image.specs.Volumes.{snap_at}
use Rattle.fv_image.proofs.SnapLists.{distinct_without}
use Rattle.fv_volmap.specs.Slots.{IsVolume, has, slot_at, slot_of_base, taken_in, with_slot, stored_count}
use Rattle.fv_pool.specs.declared.pool.Pool.{Pool}
use Rattle.fv_volume.specs.declared.state.Snap.{Snap}
use Rattle.fv_volume.specs.declared.state.VolumeState.{VolumeState}
use Rattle.fv_volume.specs.Files.{HasSlotsOf, IsLabelled}
use Rattle.fv_volume.specs.Held.{IsHeldIn}
use Rattle.fv_volume.specs.Labels.{label_said}
use Rattle.fv_pool.specs.Lending.{IsTold}
use Rattle.fv_volume.specs.OneVolume.{base_table, tables_of, blocks_in, snaps_by, table_for, volume_as, volume_for, IsBooked, IsKeptTable, IsReady, IsStanding, RootStands}
use Rattle.fv_volume.specs.SnapRecords.{AreSayable, IsSayableSnap}
use Rattle.fv_volume.specs.Snapshots.{FindsSnap}
use Rattle.fv_volume.specs.States.{head_in, snap_in, snaps_in}
use Rattle.fv_volume.proofs.ActiveRoot.{root_leads, root_standing, root_well}
use Rattle.fv_volume.proofs.CountedMaps.{slot_with}
use Rattle.fv_volume.proofs.EachRoot.{all_among}
use Rattle.fv_volume.proofs.Labels.{label_turned}
use Rattle.fv_volume.proofs.ActiveStands.{active_stands}
use Rattle.fv_volume.proofs.SlotMoves.{blocks_move, less_told, root_moves, taken_set}
use Rattle.fv_volume.proofs.SnapRecords.{all_said}
use Rattle.fv_volume.proofs.SnapSlots.{removed_in}
use Rattle.fv_volume.proofs.TablesOf.{snaps_all}
use Rattle.fv_volume.proofs.SnapNames.{names_in}
use Rattle.fv_volume.proofs.AllRoots.{active_root, are_shared, base_kept, base_told, base_was, each_shares, root_moved, roots, roots_moved, shares_again, table_moves, EachShares, WasRoot}
use Rattle.fv_snapshot.proofs.Changed.{ready_again, relabelled}
use Rattle.fv_snapshot.proofs.Removing.{find_left, left_apart, left_of, slot_there, slots_left, told_left}
use Rattle.fv_snapshot.proofs.Told.{distinct_told, snaps_fewer}

-- ---- lists

-- some of a list passes where one is found
any_found : {X : Type 0} (test : X → Bool) (xs : List X) → list_any test xs ≡ is_some (find test xs)
any_found test [] = refl
any_found test (x ∷ xs) = by (test x) (any_found test xs)
  where
    by : (b : Bool) → list_any test xs ≡ is_some (find test xs) → (b || list_any test xs) ≡ is_some (if b then Some x else find test xs)
    by true rest = refl
    by false rest = rest

-- a mark that was taken away is away
cleared : (xs : List Bool) (n : ℕ) → get_or (slice_set xs n false) n false ≡ false
cleared [] n = refl
cleared (x ∷ xs) zero = refl
cleared (x ∷ xs) (suc n) = cleared xs n

-- what holds of each snapshot of a head holds of those that are left
heads_left : (P : HeadSnap → Type 0) (snaps : List Snap) (at : ℕ) → All P (snaps_in snaps) → All P (snaps_in (left_of at snaps))
heads_left P [] zero all = all
heads_left P [] (suc at) all = all
heads_left P (q ∷ qs) zero all = All-tail P (snap_in q) (snaps_in qs) all
heads_left P (q ∷ qs) (suc at) all = All-cons P (snap_in q) (snaps_in (left_of at qs)) (All-head P (snap_in q) (snaps_in qs) all) (heads_left P qs at (All-tail P (snap_in q) (snaps_in qs) all))

-- ---- the volume

module _ (x : VolumeState) (whole : IsVolume x.map) (labelled : IsLabelled x.slot x) (at : ℕ) (d : Snap) (within : at < length x.snapshots) (ledger : Ledger) where
  -- its snapshot that goes
  abbrev pub gone : Snap
  gone = slice_index_or x.snapshots at d

  -- without it
  abbrev pub y : VolumeState
  y = record x { snapshots = left_of at x.snapshots; map = with_slot x.map gone.slot None; ledger = ledger; fresh = slice_set x.fresh gone.slot false; changed = true }

  -- it has a slot from 1 to 24
  pub bounds : (1 ≤ gone.slot) × (gone.slot < stored_count)
  bounds = slot_there x.snapshots at d labelled.snapshots.slots.within within

  -- the maps have the slot
  long : gone.slot < length x.map.slots
  long = let count = whole.count in let low = bounds.1 in omega (arith, count, low)

  -- numbers that differ fail the test
  differ : (a b : ℕ) → a ≢ b → (a == b) ≡ false
  differ a b other = grind (arith, nat_tests, other)

  -- each other slot has what it had
  at_other : (k : ℕ) → k ≢ gone.slot → slot_at y.map k ≡ slot_at x.map k
  at_other k other = get_or-set_other x.map.slots gone.slot k None None other

  -- that of the base isn't the one that goes,
  at_base : slot_at y.map slot_of_base ≡ slot_at x.map slot_of_base
  at_base = at_other slot_of_base (let low = bounds.1 in λ same. absurd (omega (arith, low, same)))

  -- and neither is the active slot
  not_active : 0 ≢ gone.slot
  not_active = let above = bounds.0 in λ same. absurd (omega (arith, above, same))

  -- no more is held than before
  pub less : (v : ℕ) → taken_in y.map.slots v ≡ true → taken_in x.map.slots v ≡ true
  less v is = ⊎_elim (λ (one : has v None ≡ true). absurd (true≢false (sym one))) (λ was. was) (taken_set x.map.slots gone.slot None v is)

  -- ---- its label

  -- records can say the snapshots that are left
  sayable : AreSayable (head_in y)
  sayable = record { slots = slots_left (head_in x) x.snapshots at refl labelled.snapshots.slots; each = heads_left IsSayableSnap x.snapshots at labelled.snapshots.each }

  -- which has a slot now
  found_now : (k : ℕ) → snap_at (head_in y) k ≡ (if k == gone.slot then None else snap_at (head_in x) k)
  unfolding snap_at
  found_now k = find_left x.snapshots at d labelled.snapshots.slots.rising within k

  -- each used slot is a snapshot's
  slots_now : HasSlotsOf (head_in y) y.map
  slots_now = record {
    each = λ k other not_base. ap (λ (s : Option (List Bool)). is_some s) (slot_with x.map gone.slot None long k) ∙ by k (k == gone.slot) (labelled.slots.each k other not_base) ∙ sym (ap (λ (o : Option HeadSnap). is_some o) (found_now k));
    base = ap (λ (s : Option (List Bool)). is_some s) at_base ∙ labelled.slots.base;
  }
    where
      by : (k : ℕ) (b : Bool) → is_some (slot_at x.map k) ≡ is_some (snap_at (head_in x) k) → is_some {T = List Bool} (if b then None else slot_at x.map k) ≡ is_some {T = HeadSnap} (if b then None else snap_at (head_in x) k)
      by k true same = refl
      by k false same = same

  -- each map that waits is one's
  waits_now : (k : ℕ) → get_or y.fresh k false ≡ true → list_any (λ p. p.slot == k) (head_in y).snapshots ≡ true
  unfolding snap_at
  waits_now k on = ⊎_elim
      (λ (here : k ≡ gone.slot). absurd (true≢false (sym on ∙ ap (λ (n : ℕ). get_or y.fresh n false) here ∙ cleared x.fresh gone.slot)))
      (λ (other : k ≢ gone.slot).
      any_found (λ p. p.slot == k) (snaps_in y.snapshots) ∙ ap (λ (o : Option HeadSnap). is_some o) (found_now k)
      ∙ ap (λ (b : Bool). is_some {T = HeadSnap} (if b then None else find (λ p. p.slot == k) (snaps_in x.snapshots))) (differ k gone.slot other)
      ∙ sym (any_found (λ p. p.slot == k) (snaps_in x.snapshots)) ∙ labelled.waits k (sym (get_or-set_other x.fresh gone.slot k false false other) ∙ on))
      (cases_eq k gone.slot)

  -- Its label can be written.
  pub unsnapped_labelled : ledger.span ≡ x.span → IsLabelled x.slot y
  unfolding label_said
  unsnapped_labelled counts = relabelled x y refl labelled labelled.map sayable slots_now waits_now counts labelled.levels
      (λ container height low least most. let is = labelled.label container height low least most in label_turned x x.active y.snapshots container height is is.levels is.root (all_said (head_in y) sayable))

  -- Calls can be made on it.
  pub unsnapped_ready : (d : Disk) (p : Pool) → IsBooked y → IsReady d p x → IsReady d p y
  unsnapped_ready d p booked is = ready_again d p x y refl (record { within = is.lent.within; stands = is.lent.stands; few = is.lent.few; entries = is.lent.entries }) (unsnapped_labelled booked.span) booked is

  -- ---- what it stands for

  module _ (disk : Disk) (p : Pool) (held : IsHeldIn disk p x.slot x) (none : x.files ≡ None) where
    root : RootStands disk p x 0 x.active
    root = active_stands disk p x held.stands none held.led held.well

    pub root_now : RootStands disk p y 0 y.active
    root_now = root_moves disk p x y refl 0 0 (at_other 0 not_active) refl refl x.active root

    table_is : table_for disk p y ≡ table_for disk p x
    table_is = table_moves disk p x y refl refl none none root root_now (at_other 0 not_active)

    pub kept_now : All (IsKeptTable disk p y) (tables_of y)
    kept_now = All-append (IsKeptTable disk p y) (base_table x.base) y.snapshots (base_kept disk p x y refl refl at_base refl held.stands.kept) (left_apart (IsKeptTable disk p x) (IsKeptTable disk p y) x.snapshots at d labelled.snapshots.slots.rising within
        (λ q differs is. (is.0, root_moves disk p x y refl q.slot q.slot (at_other q.slot differs) refl refl q.table is.1)) (snaps_all (IsKeptTable disk p x) x held.stands.kept))

    pub numbers_now : AreNumbersIf y.numbers (table_for disk p y)
    numbers_now = subst (AreNumbersIf x.numbers) (sym table_is) held.stands.numbers

    pub told_now : IsTold disk p y.map y.slot
    told_now = less_told disk p x y refl less held.stands.told

    -- each root was one
    was_root : (q : Snap) → In q (roots y) → WasRoot disk p x y (roots x) q
    was_root = roots_moved disk p x y refl (roots x) (root_moved disk p x y refl (roots x) (active_root y) (active_root x) refl (inl refl) (at_other 0 not_active))
        (All-append (WasRoot disk p x y (roots x)) (base_table x.base) y.snapshots (base_was disk p x y refl refl at_base (roots x) (λ q one. inr (in_left q (base_table x.base) x.snapshots one))) (left_apart (λ (r : Snap). In r (roots x)) (WasRoot disk p x y (roots x)) x.snapshots at d labelled.snapshots.slots.rising within
        (λ r differs one. root_moved disk p x y refl (roots x) r r refl one (at_other r.slot differs)) (all_among (λ (r : Snap). In r (roots x)) x.snapshots (λ r one. inr (in_right r (base_table x.base) x.snapshots one)))))

    pub each_now : EachShares disk p y (roots y)
    each_now = shares_again disk p x y (roots x) was_root (each_shares disk p x none root held.stands.shared)

    module _ (name : List ℕ) (finds : FindsSnap x.snapshots name (Some at)) where
      distinct : are_distinct (map (λ p. p.name) (snaps_in x.snapshots)) ≡ true
      distinct = distinct_told x.snapshots held.stands.names

      next : suc at ≡ at + 1
      next = omega arith

      snaps_are : snaps_by (blocks_in disk p y) y.snapshots ≡ fin.remove (snaps_by (blocks_in disk p x) x.snapshots) name
      snaps_are =
          ap (λ (es : List (List ℕ × Table)). fin.from_entries {R = name_cmp} es)
          (told_left (blocks_in disk p y) (blocks_in disk p x) x.snapshots at d labelled.snapshots.slots.rising within (λ k differs. blocks_move disk p x y refl k k (at_other k differs)))
          ∙ ap (λ (n : ℕ). snaps_by (blocks_in disk p x) (take at x.snapshots ++ drop n x.snapshots)) next
          ∙ snaps_fewer (blocks_in disk p x) x.snapshots name at finds distinct

      -- It stands for the volume without the snapshot,
      pub unsnapped_volume : volume_for disk p y ≡ record (volume_for disk p x) { snapshots = fin.remove (volume_for disk p x).snapshots name }
      unsnapped_volume = λ i. volume_as x (record { active = table_is i; snapshots = snaps_are i; base = base_told disk p x y refl refl at_base i })

      pub names_now : are_distinct (map (λ q. q.name) y.snapshots) ≡ true
      names_now =
          ap are_distinct (names_in y.snapshots ∙ ap (λ (n : ℕ). map (λ (p : HeadSnap). p.name) (snaps_in (take at x.snapshots ++ drop n x.snapshots))) next
          ∙ ap (map (λ (p : HeadSnap). p.name)) (removed_in x.snapshots name at finds distinct))
          ∙ distinct_without name (snaps_in x.snapshots) distinct

      -- where its ledger is that volume's,
      pub unsnapped_standing : IsLedgerOf (volume_for disk p y) ledger → IsStanding disk p y
      unsnapped_standing right = root_standing disk p y root_now none told_now kept_now names_now (are_shared disk p y none root_now each_now) right numbers_now

      -- and is what it is between points.
      pub unsnapped_held : IsBooked y → IsLedgerOf (volume_for disk p y) ledger → ledger.charge ≤ x.size → IsHeldIn disk p x.slot y
      unsnapped_held booked right fits = record { slot = held.slot; ready = unsnapped_ready disk p booked held.ready; stands = unsnapped_standing right; led = root_leads disk p y root_now none; well = root_well disk p y root_now none; wide = subst (λ (v : Volume). v.most + (set.len (base_ids v.base) + 256) ≤ v.span) (sym unsnapped_volume) held.wide; within = fits }
