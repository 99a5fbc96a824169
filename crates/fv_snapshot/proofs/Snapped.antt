-- A volume with a snapshot of its active table more, of which nothing is in memory.
use Rattle.std.proofs.Common.{◌≡◌, ◌≢◌, ℕ, zero, suc, ◌+◌, ◌<◌, ◌≤◌, Bool, true, false, ◌||◌, List, [], ◌∷◌, ◌++◌, length, map, take, drop, get_or, inl, inr, Option, Some, None, refl, sym, ap, ap₂, subst, ◌∙◌, ⊎_elim, arith, get_or-set_other, get_or-set_same}
use Rattle.std.specs.Prelude.{◌==◌, All, nat_lt}
use Rattle.std.specs.List.{list_any, position_or_len}
use Rattle.std.specs.Option.{option_map}
use Rattle.std.specs.FinMap as fin
use Rattle.std.proofs.lemmas.Bool.{cases_eq, or_left, or_parts, or_right, true≢false}
use Rattle.std.proofs.lemmas.Bool.Decides.{nat_tests}
use Rattle.std.proofs.lemmas.List.Elements.{All-append, All-cons, All-drop, All-head, All-nil, All-tail, All-take}
use Rattle.fv_disk.specs.Shown.{Shown as Disk}
use Rattle.fv_codec.specs.Blocks.{IsLabel}
use Rattle.fv_model.specs.Spelling.{is_name, name_cmp}
use Rattle.std.specs.FinSet as set
use Rattle.fv_model.specs.Space.{base_ids, map_blocks}
use Rattle.fv_model.specs.Tables.{Table}
use Rattle.fv_model.specs.Volumes.{Volume}
use Rattle.fv_laws.proofs.Lists.{In, in_left, in_right}
use Rattle.fv_laws.proofs.PathCharges.{no_need}
use Rattle.fv_laws.proofs.Snapshots.{create_charge}
use Rattle.fv_tables.specs.Spelled.{Under}
use Rattle.fv_tables.specs.Told.{standing_at, table_told}
use Rattle.fv_files.specs.Numbering.{AreNumbersIf}
use Rattle.fv_charge.specs.Ledgers.{IsLedgerOf}
use Rattle.fv_image.specs.Mapped.{AreInSlots}
use Rattle.fv_image.specs.ReachRules.{are_distinct}
use Rattle.fv_image.specs.Turned.{turned}
use Rattle.fv_image.specs.Views.{Snap as HeadSnap}
use Rattle.fv_image.specs.Volumes.{snap_at}
use Rattle.fv_image.proofs.SnapLists.{distinct_added, slots_added}
use Rattle.fv_volmap.specs.Slots.{IsVolume, has, active_of, slot_at, slot_of_base, taken_in}
use Rattle.fv_pool.specs.declared.pool.Pool.{Pool}
use Rattle.fv_volume.specs.declared.state.Snap.{Snap}
use Rattle.fv_volume.specs.declared.state.VolumeState.{VolumeState}
use Rattle.fv_volume.specs.declared.tables.TableAsked.TheVariants.{Kept}
use Rattle.fv_volume.specs.Asking.{snap_named, standing_of}
use Rattle.fv_volume.specs.Files.{HasSlotsOf, IsLabelled}
use Rattle.fv_volume.specs.Held.{IsHeldIn}
use Rattle.fv_volume.specs.Labels.{label_said}
use Rattle.fv_volume.specs.OneVolume.{IsBooked, base_table, tables_of, blocks_in, snap_by, snaps_by, table_for, trees_for, volume_as, volume_for, IsKeptTable, IsReady, IsStanding, RootStands}
use Rattle.fv_volume.specs.Sharing.{AreShared}
use Rattle.fv_volume.specs.SnapRecords.{AreSayable, IsSayableSnap}
use Rattle.fv_volume.specs.Snaps.{with_snapshot}
use Rattle.fv_volume.specs.Snapshots.{IsLeastFree, has_slot}
use Rattle.fv_volume.specs.States.{head_in, snap_in, snaps_in, table_in}
use Rattle.fv_volume.proofs.ActiveRoot.{root_leads, root_standing, root_table, root_well}
use Rattle.fv_volume.proofs.EachRoot.{all_among}
use Rattle.fv_pool.proofs.Holding.{has_taken}
use Rattle.fv_volume.proofs.Labels.{label_turned}
use Rattle.fv_volume.proofs.ActiveStands.{active_stands}
use Rattle.fv_volume.proofs.SlotMoves.{blocks_move, less_told, root_moves, taken_set}
use Rattle.fv_volume.proofs.SnapReads.{asked_table}
use Rattle.fv_volume.proofs.TablesOf.{snaps_all}
use Rattle.fv_volume.proofs.SnapRecords.{all_said}
use Rattle.fv_volume.proofs.SnapSlots.{added_in, least_is_free, slots_more}
use Rattle.fv_volume.proofs.SnapNames.{names_in}
use Rattle.fv_volume.proofs.AllRoots.{active_root, are_shared, base_kept, base_told, base_was, each_shares, root_moved, roots, roots_moved, shares_again, table_moves, WasRoot}
use Rattle.fv_snapshot.proofs.Changed.{ready_again, relabelled}
use Rattle.fv_snapshot.proofs.Told.{distinct_told, none_named, snaps_more}

-- ---- lists

-- what holds of each of a list and of one more holds of each with it
all_inserted : {X : Type 0} (P : X → Type 0) (xs : List X) (n : ℕ) (x : X) → All P xs → P x → All P (take n xs ++ x ∷ drop n xs)
all_inserted P xs n x all one = All-append P (take n xs) (x ∷ drop n xs) (All-take P n xs all) (All-cons P x (drop n xs) one (All-drop P n xs all))

-- what one of a list or one more passes one of the list with it passes
any_inserted : {X Y : Type 0} (f : X → Y) (test : Y → Bool) (xs : List X) (n : ℕ) (x : X) → (test (f x) || list_any test (map f xs)) ≡ true → list_any test (map f (take n xs ++ x ∷ drop n xs)) ≡ true
any_inserted f test xs zero x is = is
any_inserted f test [] (suc n) x is = is
any_inserted f test (y ∷ ys) (suc n) x is = by (test (f y)) (test (f x)) (list_any test (map f ys)) is (any_inserted f test ys n x)
  where
    by : (a b c : Bool) → (b || (a || c)) ≡ true → ((b || c) ≡ true → list_any test (map f (take n ys ++ x ∷ drop n ys)) ≡ true) → (a || list_any test (map f (take n ys ++ x ∷ drop n ys))) ≡ true
    by true b c is rest = refl
    by false b c is rest = rest is

module _ (slot : ℕ) where
  -- slots whose test fails differ
  test_false : (a : ℕ) → (a == slot) ≡ false → a ≢ slot
  test_false a isnt = λ same. let is : (a == slot) ≡ true = grind (arith, nat_tests, same) in true≢false (sym is ∙ isnt)

  -- what holds of each turns to what it becomes in slots that aren't this one
  pub all_apart : (P Q : Snap → Type 0) → ((q : Snap) → q.slot ≢ slot → P q → Q q) → (snaps : List Snap) → has_slot snaps slot ≡ false → All P snaps → All Q snaps
  all_apart P Q keep [] free all = All-nil Q
  all_apart P Q keep (q ∷ qs) free all =
      let parts = or_parts (q.slot == slot) (has_slot qs slot) free in
      All-cons Q q qs (keep q (test_false q.slot parts.0) (All-head P q qs all)) (all_apart P Q keep qs parts.1 (All-tail P q qs all))

  -- and what is told of each stays, where it does in those
  pub told_apart : (b c : ℕ → Under) → ((k : ℕ) → k ≢ slot → b k ≡ c k) → (snaps : List Snap) → has_slot snaps slot ≡ false → map (snap_by b) snaps ≡ map (snap_by c) snaps
  told_apart b c same [] free = refl
  told_apart b c same (q ∷ qs) free =
      let parts = or_parts (q.slot == slot) (has_slot qs slot) free in
      ap₂ (λ t ts. t ∷ ts) (ap (λ (u : Under). snap_by (λ k. u) q) (same q.slot (test_false q.slot parts.0))) (told_apart b c same qs parts.1)

-- ---- the volume

module _ (x : VolumeState) (whole : IsVolume x.map) (slot : ℕ) (free : IsLeastFree x.snapshots slot) (name : List ℕ) where
  abbrev y : VolumeState
  y = with_snapshot x slot name

  abbrev new : Snap
  new = record { slot = slot; name = name; table = x.active }

  -- the maps have the slot
  long : slot < length x.map.slots
  long = let count = whole.count in let low = free.stored in omega (arith, count, low)

  -- a number equals itself
  itself : (n : ℕ) → (n == n) ≡ true
  itself n = grind (arith, nat_tests)

  -- the new slot has the active map,
  at_new : slot_at y.map slot ≡ slot_at x.map 0
  at_new = get_or-set_same x.map.slots slot (Some (active_of x.map)) None long ∙ sym whole.active

  -- and each other has what it had
  at_other : (k : ℕ) → k ≢ slot → slot_at y.map k ≡ slot_at x.map k
  at_other k other = get_or-set_other x.map.slots slot k (Some (active_of x.map)) None other

  -- that of the base isn't the new one,
  at_base : slot_at y.map slot_of_base ≡ slot_at x.map slot_of_base
  at_base = at_other slot_of_base (let low = free.stored in λ same. absurd (omega (arith, low, same)))

  -- and neither is the active slot
  not_active : 0 ≢ slot
  not_active = let above = free.above in λ same. absurd (omega (arith, above, same))

  -- no more is held than before
  less : (v : ℕ) → taken_in y.map.slots v ≡ true → taken_in x.map.slots v ≡ true
  less v is = ⊎_elim (λ (one : has v (Some (active_of x.map)) ≡ true). has_taken x.map.slots 0 v (ap (has v) whole.active ∙ one)) (λ was. was) (taken_set x.map.slots slot (Some (active_of x.map)) v is)

  -- ---- its label

  -- no snapshot has it
  free_slot : snap_at (head_in x) slot ≡ None
  free_slot = least_is_free (head_in x) x.snapshots slot refl free

  module _ (labelled : IsLabelled x.slot x) (named : is_name name ≡ true) where
    said_now : IsLabel (label_said x 0 1)
    said_now = labelled.label 0 1 (omega arith) (omega arith) (omega arith)

    one_sayable : IsSayableSnap (snap_in new)
    unfolding label_said
    one_sayable = record { name = named; levels = labelled.levels; root = said_now.root }

    sayable : AreSayable (head_in y)
    sayable = record {
      slots = subst (λ (ps : List HeadSnap). AreInSlots (turned (head_in x) (table_in x.active) ps)) (sym (added_in new x.snapshots))
          (slots_added (snap_in new) (head_in x) (table_in x.active) labelled.snapshots.slots free.above free.stored free_slot);
      each = all_heads x.snapshots (position_or_len (λ q. nat_lt slot q.slot) x.snapshots) labelled.snapshots.each;
    }
      where
        all_heads : (snaps : List Snap) (n : ℕ) → All IsSayableSnap (snaps_in snaps) → All IsSayableSnap (snaps_in (take n snaps ++ new ∷ drop n snaps))
        all_heads snaps zero all = All-cons IsSayableSnap (snap_in new) (snaps_in snaps) one_sayable all
        all_heads [] (suc n) all = All-cons IsSayableSnap (snap_in new) [] one_sayable all
        all_heads (q ∷ qs) (suc n) all = All-cons IsSayableSnap (snap_in q) (snaps_in (take n qs ++ new ∷ drop n qs)) (All-head IsSayableSnap (snap_in q) (snaps_in qs) all) (all_heads qs n (All-tail IsSayableSnap (snap_in q) (snaps_in qs) all))

    slots_now : HasSlotsOf (head_in y) y.map
    slots_now = subst (λ (ps : List HeadSnap). HasSlotsOf (turned (head_in x) (table_in x.active) ps) y.map) (sym (added_in new x.snapshots))
        (slots_more (head_in x) (table_in x.active) x.map (let count = whole.count in omega (arith, count)) labelled.slots (snap_in new) (active_of x.map) free.above free.stored free_slot)

    waits_now : (k : ℕ) → get_or y.fresh k false ≡ true → list_any (λ p. p.slot == k) (head_in y).snapshots ≡ true
    waits_now k on = any_inserted snap_in (λ p. p.slot == k) x.snapshots (position_or_len (λ q. nat_lt slot q.slot) x.snapshots) new (⊎_elim
        (λ (here : k ≡ slot). or_left (slot == k) _ (ap (λ (n : ℕ). slot == n) here ∙ itself slot))
        (λ (other : k ≢ slot). or_right (slot == k) (list_any (λ p. p.slot == k) (snaps_in x.snapshots)) (labelled.waits k (sym (get_or-set_other x.fresh slot k true false other) ∙ on)))
        (cases_eq k slot))

    -- Its label can be written.
    pub snapped_labelled : IsLabelled x.slot y
    unfolding label_said
    snapped_labelled = relabelled x y refl labelled labelled.map sayable slots_now waits_now labelled.counts labelled.levels
        (λ container height low least most. let is = labelled.label container height low least most in label_turned x x.active y.snapshots container height is is.levels is.root (all_said (head_in y) sayable))

    its_size : x.size ≤ 500000
    unfolding label_said
    its_size = let greatest = said_now.size_greatest in omega (arith, greatest)

    -- Calls can be made on it.
    pub snapped_ready : (d : Disk) (p : Pool) → x.ledger.charge + map_blocks x.span ≤ x.size → IsReady d p x → IsReady d p y
    snapped_ready d p fits is =
        let booked : IsBooked y = record { size = is.booked.size; kind = is.booked.kind; span = is.booked.span; need = is.booked.need; charge = (let few = its_size in omega (arith, fits, few)) } in
        ready_again d p x y refl (record { within = is.lent.within; stands = is.lent.stands; few = is.lent.few; entries = is.lent.entries }) snapped_labelled booked is

  -- ---- what it stands for

  module _ (d : Disk) (p : Pool) (held : IsHeldIn d p x.slot x) (none : x.files ≡ None) (other : snap_named x.snapshots name ≡ None) where
    root : RootStands d p x 0 x.active
    root = active_stands d p x held.stands none held.led held.well

    root_now : RootStands d p y 0 y.active
    root_now = root_moves d p x y refl 0 0 (at_other 0 not_active) refl refl x.active root

    table_is : table_for d p y ≡ table_for d p x
    table_is = table_moves d p x y refl refl none none root root_now (at_other 0 not_active)

    kept_now : All (IsKeptTable d p y) (tables_of y)
    kept_now = All-append (IsKeptTable d p y) (base_table x.base) y.snapshots (base_kept d p x y refl refl at_base refl held.stands.kept) (all_inserted (IsKeptTable d p y) x.snapshots (position_or_len (λ q. nat_lt slot q.slot) x.snapshots) new
        (all_apart slot (IsKeptTable d p x) (IsKeptTable d p y) (λ q differs is. (is.0, root_moves d p x y refl q.slot q.slot (at_other q.slot differs) refl refl q.table is.1)) x.snapshots free.free (snaps_all (IsKeptTable d p x) x held.stands.kept))
        (not_first, root_moves d p x y refl slot 0 at_new refl refl x.active root))
      where
        not_first : slot ≢ 0
        not_first = let above = free.above in λ same. absurd (omega (arith, above, same))

    snaps_are : snaps_by (blocks_in d p y) y.snapshots ≡ fin.insert (snaps_by (blocks_in d p x) x.snapshots) name (table_for d p x)
    snaps_are =
        snaps_more (blocks_in d p y) new x.snapshots other
        ∙ ap₂ (λ (es : List (List ℕ × Table)) (t : Table). fin.insert (fin.from_entries {R = name_cmp} es) name t)
        (told_apart slot (blocks_in d p y) (blocks_in d p x) (λ k differs. blocks_move d p x y refl k k (at_other k differs)) x.snapshots free.free)
        (ap (λ (u : Under). table_told (standing_at u x.active.levels x.active.root)) (blocks_move d p x y refl slot 0 at_new) ∙ sym (root_table d p x root none))

    -- It stands for the volume with the snapshot,
    pub snapped_volume : volume_for d p y ≡ record (volume_for d p x) { snapshots = fin.insert (volume_for d p x).snapshots name (volume_for d p x).active }
    snapped_volume = λ i. volume_as x (record { active = table_is i; snapshots = snaps_are i; base = base_told d p x y refl refl at_base i })

    new_name : fin.get (volume_for d p x).snapshots name ≡ None
    new_name =
        asked_table d p x held.stands (Some name)
        ∙ ap (λ (o : Option Snap). option_map table_told (option_map (standing_of d p x) (option_map (λ (q : Snap). Kept q.table) o))) other

    ledger_now : IsLedgerOf (volume_for d p y) y.ledger
    ledger_now = subst (λ (v : Volume). IsLedgerOf v y.ledger) (sym snapped_volume) (record {
      charged = (let was = held.stands.ledger.charged in let more = create_charge (volume_for d p x) name new_name in omega (arith, was, more));
      needed = held.stands.ledger.needed ∙ no_need (volume_for d p x) held.stands.reserves ∙ sym (no_need _ held.stands.reserves);
      size = held.stands.ledger.size;
      kind = held.stands.ledger.kind;
      span = held.stands.ledger.span;
    })

    names_now : are_distinct (map (λ q. q.name) y.snapshots) ≡ true
    names_now =
        ap are_distinct (names_in y.snapshots ∙ ap (map (λ (p : HeadSnap). p.name)) (added_in new x.snapshots))
        ∙ distinct_added (snap_in new) (snaps_in x.snapshots) (distinct_told x.snapshots held.stands.names) (none_named x.snapshots name other)

    -- each root was one
    was_root : (q : Snap) → In q (roots y) → WasRoot d p x y (roots x) q
    was_root = roots_moved d p x y refl (roots x) (root_moved d p x y refl (roots x) (active_root y) (active_root x) refl (inl refl) (at_other 0 not_active))
        (All-append (WasRoot d p x y (roots x)) (base_table x.base) y.snapshots (base_was d p x y refl refl at_base (roots x) (λ q one. inr (in_left q (base_table x.base) x.snapshots one))) (all_inserted (WasRoot d p x y (roots x)) x.snapshots (position_or_len (λ q. nat_lt slot q.slot) x.snapshots) new
        (all_apart slot (λ (r : Snap). In r (roots x)) (WasRoot d p x y (roots x)) (λ r differs one. root_moved d p x y refl (roots x) r r refl one (at_other r.slot differs))
        x.snapshots free.free (all_among (λ (r : Snap). In r (roots x)) x.snapshots (λ r one. inr (in_right r (base_table x.base) x.snapshots one))))
        (root_moved d p x y refl (roots x) new (active_root x) refl (inl refl) at_new)))

    shared_now : AreShared (trees_for d p y) (blocks_in d p y) (tables_of y)
    shared_now = are_shared d p y none root_now (shares_again d p x y (roots x) was_root (each_shares d p x none root held.stands.shared))

    pub snapped_standing : IsStanding d p y
    snapped_standing = root_standing d p y root_now none (less_told d p x y refl less held.stands.told) kept_now names_now shared_now ledger_now (subst (AreNumbersIf x.numbers) (sym table_is) held.stands.numbers)

    -- and is what it is between points.
    pub snapped_held : is_name name ≡ true → x.ledger.charge + map_blocks x.span ≤ x.size → IsHeldIn d p x.slot y
    snapped_held named fits = record {
      slot = held.slot;
      ready = snapped_ready held.ready.labelled named d p fits held.ready;
      stands = snapped_standing;
      led = root_leads d p y root_now none;
      well = root_well d p y root_now none;
      wide = subst (λ (v : Volume). v.most + (set.len (base_ids v.base) + 256) ≤ v.span) (sym snapped_volume) held.wide;
      within = fits;
    }
