-- What the machine says of the commands on snapshots, and what it says of one that is judged.
use Rattle.std.proofs.Common.{◌≡◌, ℕ, ◌+◌, ◌<◌, ◌≤◌, Bool, true, false, cond, List, [], ◌∷◌, length, map, Option, Some, None, Result, Ok, Err, is_some, is_none, refl, sym, ap, ap₂, ◌∙◌, arith, subst}
use Rattle.std.proofs.lemmas.Int.{ints}
use Rattle.std.specs.List.{range_with_len}
use Rattle.std.specs.Prelude.{if◌then◌else◌, IfOk, OnOk, nat_le, pos, ◌+ℤ◌}
use Rattle.std.specs.Option.{option_map, option_map_or}
use Rattle.std.specs.FinMap as fin
use Rattle.std.proofs.lemmas.Bool.{true≢false}
use Rattle.std.proofs.lemmas.Bool.Decides.{nat_tests}
use Rattle.std.proofs.lemmas.List.{length-map}
use Rattle.fv_disk.specs.Shown.{Shown as Disk}
use Rattle.fv_model.specs.declared.answers.Refusal.{Refusal}
use Rattle.fv_model.specs.declared.answers.Refusal.TheVariants.{NoSnapshot, NoVolume, SnapshotExists, SnapshotInUse, TooMany}
use Rattle.fv_model.specs.declared.commands.Command.TheVariants.{SnapCreate, SnapDelete, SnapRestore}
use Rattle.fv_model.specs.Effects.{Becomes, Stays, at_snapshot, change_of}
use Rattle.fv_model.specs.Machines.{Machine, capacity}
use Rattle.fv_model.specs.Numbers.{most_snapshots}
use Rattle.fv_model.specs.Refusals.{conditions, first_of, is_base, refusal, space, table_asked}
use Rattle.fv_model.specs.Space.{map_blocks}
use Rattle.fv_model.specs.Spelling.{is_same_name, name_cmp}
use Rattle.fv_laws.proofs.Lists.{from_range, in_range}
use Rattle.fv_laws.proofs.Orders.{name_total}
use Rattle.fv_laws.proofs.Tests.{from_all, to_all}
use Rattle.fv_model.specs.Tables.{Table}
use Rattle.fv_model.specs.Volumes.{Volume}
use Rattle.fv_laws.proofs.PathCharges.{no_need}
use Rattle.fv_laws.proofs.Snapshots.{create_charge}
use Rattle.fv_tables.specs.Spelled.{Under}
use Rattle.fv_tables.specs.Told.{table_told}
use Rattle.fv_charge.specs.declared.delta.Delta.{Delta}
use Rattle.fv_charge.specs.declared.ledger.Ledger.{Ledger}
use Rattle.fv_charge.specs.Changes.{IsChanged, IsLeft, admission, answer_of, machine_answer}
use Rattle.fv_charge.specs.Ledgers.{IsLedgerOf}
use Rattle.fv_image.specs.ReachRules.{are_distinct}
use Rattle.fv_image.proofs.SnapTables.{count_told}
use Rattle.fv_pool.specs.declared.pool.Pool.{Pool}
use Rattle.fv_volume.specs.declared.state.Snap.{Snap}
use Rattle.fv_volume.specs.declared.state.VolumeState.{VolumeState}
use Rattle.fv_volume.specs.declared.tables.TableAsked.TheVariants.{Kept}
use Rattle.fv_volume.specs.Asking.{snap_named, standing_of}
use Rattle.fv_volume.specs.Files.{IsLabelled}
use Rattle.fv_volume.specs.OneVolume.{snap_by, snaps_by, volume_as, volume_for, IsBooked, IsStanding}
use Rattle.fv_volume.specs.Promising.{CanHave}
use Rattle.fv_volume.specs.Snapshots.{AreSlotsFull, IsLeastFree, has_slot}
use Rattle.fv_volume.specs.States.{snap_in, snaps_in}
use Rattle.fv_volume.proofs.Changed.{within_size}
use Rattle.fv_volume.proofs.Charging.{left_by}
use Rattle.fv_volume.proofs.SnapReads.{asked_table}
use Rattle.fv_charge.proofs.Admissions.{machine_admits, one_ledger}
use Rattle.fv_snapshot.specs.Creating.{IsGranted, JudgesCreation, are_full, content_by, creation_refusal, refusal_in}
use Rattle.fv_snapshot.specs.Granting.{slot_granted}
use Rattle.fv_snapshot.specs.declared.creating.Granted.{Granted}
use Rattle.fv_snapshot.proofs.Full.{free_few, full_many, some_slots}
use Rattle.fv_snapshot.proofs.Told.{by_heads, table_of}

-- ---- by the machine

module _ (m : Machine) (v : List ℕ) (x : Volume) (there : fin.get m.volumes v ≡ Some x) (s : List ℕ) where
  abbrev create_chain : Bool → Bool → Option Refusal
  create_chain exists full = cond exists (Some SnapshotExists) (cond full (Some TooMany) (first_of (space m (SnapCreate v s) v)))

  -- what the machine asks of `snap create`
  pub create_by : refusal m (SnapCreate v s) ≡ create_chain (is_some (fin.get x.snapshots s)) (nat_le most_snapshots (fin.len x.snapshots))
  unfolding conditions
  create_by = λ j. first_of (
      (NoVolume, is_none (there j))
      ∷ (SnapshotExists, option_map_or (λ (y : Volume). is_some (fin.get y.snapshots s)) (there j) false)
      ∷ (TooMany, option_map_or (λ (y : Volume). nat_le most_snapshots (fin.len y.snapshots)) (there j) false)
      ∷ space m (SnapCreate v s) v)

  -- and what the volume becomes by it
  pub create_change : change_of m (SnapCreate v s) ≡ Becomes v (record x { snapshots = fin.insert x.snapshots s x.active })
  unfolding change_of
  create_change = ap (λ (o : Option Volume). option_map_or (λ (y : Volume). Becomes v (record y { snapshots = fin.insert y.snapshots s y.active })) o Stays) there

  -- what it asks of `snap delete`
  pub delete_by : refusal m (SnapDelete v s) ≡ cond (is_none (fin.get x.snapshots s)) (Some NoSnapshot) (cond (is_base m v s) (Some SnapshotInUse) None)
  unfolding conditions
  delete_by = λ j. first_of (
      (NoVolume, is_none (there j))
      ∷ (NoSnapshot, option_map_or (λ (y : Volume). is_none (table_asked y (Some s))) (there j) false)
      ∷ (SnapshotInUse, is_base m v s) ∷ [])

  -- and what the volume becomes by it
  pub delete_change : change_of m (SnapDelete v s) ≡ Becomes v (record x { snapshots = fin.remove x.snapshots s })
  unfolding change_of
  delete_change = ap (λ (o : Option Volume). option_map_or (λ (y : Volume). Becomes v (record y { snapshots = fin.remove y.snapshots s })) o Stays) there

  -- what it asks of `snap restore`
  pub restore_by : refusal m (SnapRestore v s) ≡ cond (is_none (fin.get x.snapshots s)) (Some NoSnapshot) (first_of (space m (SnapRestore v s) v))
  unfolding conditions
  restore_by = λ j. first_of (
      (NoVolume, is_none (there j))
      ∷ (NoSnapshot, option_map_or (λ (y : Volume). is_none (table_asked y (Some s))) (there j) false)
      ∷ space m (SnapRestore v s) v)

  -- and what the volume becomes by it
  pub restore_change : (t : Table) → fin.get x.snapshots s ≡ Some t → change_of m (SnapRestore v s) ≡ Becomes v (record x { active = t })
  unfolding change_of
  restore_change t its =
      ap (λ (o : Option Volume). option_map_or (λ (y : Volume). at_snapshot y s (λ t. Becomes v (record y { active = t }))) o Stays) there
      ∙ ap (λ (o : Option Table). option_map_or (λ t. Becomes v (record x { active = t })) o Stays) its

-- ---- slots

-- each slot is one's, where the test says so,
all_slots : (snaps : List Snap) → AreSlotsFull snaps → are_full snaps ≡ true
all_slots snaps full = to_all (λ k. has_slot snaps k) (range_with_len 1 most_snapshots) (λ k among. let low = from_range 1 most_snapshots k among in full.full k (omega (arith, low.0)) (omega (arith, low.1)))

-- and not where one is free
some_free : (snaps : List Snap) (slot : ℕ) → IsLeastFree snaps slot → are_full snaps ≡ false
some_free snaps slot free = by (are_full snaps) refl
  where
    by : (t : Bool) → are_full snaps ≡ t → t ≡ false
    by false e = refl
    by true e =
        let above = free.above in
        let stored = free.stored in
        absurd (true≢false (sym (from_all (λ k. has_slot snaps k) (range_with_len 1 most_snapshots) e slot (in_range 1 most_snapshots slot (omega (arith, above)) (omega (arith, stored)))) ∙ free.free))

-- ---- a volume

module _ (x : VolumeState) (name : List ℕ) where
  -- what is found under a name is the table of the snapshot of it
  pub found_is : (d : Disk) (p : Pool) → IsStanding d p x → fin.get (volume_for d p x).snapshots name ≡ option_map table_told (option_map (standing_of d p x) (option_map (λ (q : Snap). Kept q.table) (snap_named x.snapshots name)))
  found_is d p is = asked_table d p x is (Some name)

  -- none is where no snapshot has the name
  pub none_found : (d : Disk) (p : Pool) → IsStanding d p x → snap_named x.snapshots name ≡ None → fin.get (volume_for d p x).snapshots name ≡ None
  none_found d p is none = found_is d p is ∙ ap (λ (o : Option Snap). option_map table_told (option_map (standing_of d p x) (option_map (λ (q : Snap). Kept q.table) o))) none

  -- and some where one has
  pub some_found : (d : Disk) (p : Pool) → IsStanding d p x → (q : Snap) → snap_named x.snapshots name ≡ Some q → is_some (fin.get (volume_for d p x).snapshots name) ≡ true
  some_found d p is q found = ap (λ (o : Option Table). is_some o) (found_is d p is ∙ ap (λ (o : Option Snap). option_map table_told (option_map (standing_of d p x) (option_map (λ (q : Snap). Kept q.table) o))) found)

  -- so it is whatever lies in the blocks
  found_by : (b : ℕ → Under) (snaps : List Snap) → fin.find name_cmp name (map (snap_by b) snaps) ≡ option_map (λ (q : Snap). (snap_by b q).1) (snap_named snaps name)
  found_by b [] = refl
  found_by b (q ∷ qs) = by (is_same_name name q.name) (found_by b qs)
    where
      by : (t : Bool) → fin.find name_cmp name (map (snap_by b) qs) ≡ option_map (λ (q : Snap). (snap_by b q).1) (snap_named qs name)
          → cond t (Some (snap_by b q).1) (fin.find name_cmp name (map (snap_by b) qs)) ≡ option_map (λ (q : Snap). (snap_by b q).1) (if t then Some q else snap_named qs name)
      by true later = refl
      by false later = later

  -- what is found under a name is the table of the first snapshot of it
  get_by : (b : ℕ → Under) → fin.get (snaps_by b x.snapshots) name ≡ option_map (λ (q : Snap). (snap_by b q).1) (snap_named x.snapshots name)
  get_by b = fin.get-from_entries name_total (map (snap_by b) x.snapshots) name ∙ found_by b x.snapshots

  -- none where no snapshot has it
  none_by : (b : ℕ → Under) → snap_named x.snapshots name ≡ None → fin.get (snaps_by b x.snapshots) name ≡ None
  none_by b none = get_by b ∙ ap (λ (o : Option Snap). option_map (λ (q : Snap). (snap_by b q).1) o) none

  -- and some where one has
  some_by : (b : ℕ → Under) (q : Snap) → snap_named x.snapshots name ≡ Some q → is_some (fin.get (snaps_by b x.snapshots) name) ≡ true
  some_by b q found = ap (λ (o : Option Table). is_some o) (get_by b ∙ ap (λ (o : Option Snap). option_map (λ (q : Snap). (snap_by b q).1) o) found)

  -- as many are told as there are
  many : (b : ℕ → Under) → are_distinct (map (λ p. p.name) (snaps_in x.snapshots)) ≡ true → fin.len (snaps_by b x.snapshots) ≡ length x.snapshots
  many b distinct =
      ap (λ (es : List (List ℕ × Table)). fin.len (fin.from_entries {R = name_cmp} es)) (by_heads b x.snapshots)
      ∙ count_told (table_of b) (snaps_in x.snapshots) distinct ∙ length-map x.snapshots snap_in

  module _ (labelled : IsLabelled x.slot x) (blocks others : ℕ) where
    -- the refusal by what is in memory, step by step
    abbrev by_ledger : Option Refusal
    by_ledger = refusal_in (admission (record x.ledger { charge = x.ledger.charge + map_blocks x.ledger.span }) others (capacity blocks))

    by_name : (t : Bool) → t ≡ true → cond t (Some SnapshotExists) (cond (are_full x.snapshots) (Some TooMany) by_ledger) ≡ Some SnapshotExists
    by_name t is = ap (λ (t : Bool). cond t (Some SnapshotExists) (cond (are_full x.snapshots) (Some TooMany) by_ledger)) is

    by_count : snap_named x.snapshots name ≡ None → (t : Bool) → t ≡ true → cond (is_some (snap_named x.snapshots name)) (Some SnapshotExists) (cond t (Some TooMany) by_ledger) ≡ Some TooMany
    by_count none t is = ap₂ (λ (o : Option Snap) (t : Bool). cond (is_some o) (Some SnapshotExists) (cond t (Some TooMany) by_ledger)) none is

    by_space : snap_named x.snapshots name ≡ None → are_full x.snapshots ≡ false → creation_refusal x.snapshots x.ledger blocks others name ≡ by_ledger
    by_space none free = ap₂ (λ (o : Option Snap) (t : Bool). cond (is_some o) (Some SnapshotExists) (cond t (Some TooMany) by_ledger)) none free

    -- A name that is taken is refused,
    pub judged_exists : (q : Snap) → snap_named x.snapshots name ≡ Some q → JudgesCreation x blocks others name (Err SnapshotExists)
    judged_exists q found = record {
      agrees = λ a b m is distinct has. create_by m x.name (volume_as x (content_by a b x)) has.there name ∙ ap (λ (t : Bool). create_chain m x.name (volume_as x (content_by a b x)) has.there name t (nat_le most_snapshots (fin.len (snaps_by b x.snapshots)))) (some_by b q found);
      same = sym (by_name (is_some (snap_named x.snapshots name)) (ap (λ (o : Option Snap). is_some o) found));
      slot = tt;
      none = tt;
      fits = tt;
    }

    pub judged_some : is_some (snap_named x.snapshots name) ≡ true → JudgesCreation x blocks others name (Err SnapshotExists)
    judged_some is = by (snap_named x.snapshots name) refl is
      where
        by : (o : Option Snap) → snap_named x.snapshots name ≡ o → is_some o ≡ true → JudgesCreation x blocks others name (Err SnapshotExists)
        by None e is = absurd (true≢false (sym is))
        by (Some q) e is = judged_exists q e

    -- and one more than 24,
    pub judged_full : snap_named x.snapshots name ≡ None → AreSlotsFull x.snapshots → JudgesCreation x blocks others name (Err TooMany)
    judged_full none full = record {
      agrees = λ a b m is distinct has.
          let slots = some_slots x.snapshots labelled.snapshots.slots.within in
          let least = full_many x.snapshots labelled.snapshots.slots.rising slots.0 full in
          let same = many b distinct in
          let past : nat_le most_snapshots (fin.len (snaps_by b x.snapshots)) ≡ true = (let enough : most_snapshots ≤ fin.len (snaps_by b x.snapshots) = omega (arith, least, same) in grind (arith, nat_tests, enough)) in
          create_by m x.name (volume_as x (content_by a b x)) has.there name
          ∙ ap₂ (λ (s t : Bool). create_chain m x.name (volume_as x (content_by a b x)) has.there name s t) (ap (λ (o : Option Table). is_some o) (none_by b none)) past;
      same = sym (by_count none (are_full x.snapshots) (all_slots x.snapshots full));
      slot = tt;
      none = tt;
      fits = tt;
    }

    -- the ledger with the blocks of one map more
    abbrev more : Ledger
    more = record x.ledger { charge = x.ledger.charge + map_blocks x.span }

    more_books : (a : Table) (b : ℕ → Under) → CanHave x (content_by a b x) → snap_named x.snapshots name ≡ None → IsLedgerOf (record (volume_as x (content_by a b x)) { snapshots = fin.insert (snaps_by b x.snapshots) name a }) more
    more_books a b is none = record {
      charged = (let was = is.ledger.charged in let grown = create_charge (volume_as x (content_by a b x)) name (none_by b none) in omega (arith, was, grown));
      needed = is.ledger.needed ∙ no_need (volume_as x (content_by a b x)) is.reserves ∙ sym (no_need _ is.reserves);
      size = is.ledger.size;
      kind = is.ledger.kind;
      span = is.ledger.span;
    }

    -- what is answered by the space that there is
    abbrev given : ℕ → Result Unit Refusal → Result ℕ Refusal
    given slot (Ok done) = Ok slot
    given slot (Err r) = Err r

    -- and else it is judged by the space that there is.
    pub judged_space : IsBooked x → snap_named x.snapshots name ≡ None → (slot : ℕ) → IsLeastFree x.snapshots slot → (delta : Delta) → delta.charge ≡ pos (map_blocks x.span) → delta.need ≡ pos 0 → delta.size ≡ x.ledger.size → delta.kind ≡ x.ledger.kind
        → (r : Result Unit Refusal) → ((l : Ledger) → IsChanged x.ledger delta l → r ≡ admission l others (capacity blocks))
        → ((m : Machine) (c : _) (v : List ℕ) (l : Ledger) → IsChanged x.ledger delta l → IsLeft m c v l others (capacity blocks) → r ≡ machine_answer m c v)
        → JudgesCreation x blocks others name (given slot r)
    judged_space booked none slot free delta charged needed size kind r exact says = record {
      agrees = λ a b m is distinct has.
          let slots = some_slots x.snapshots labelled.snapshots.slots.within in
          let few = free_few x.snapshots slot labelled.snapshots.slots.rising slots.0 slots.1 free in
          let same = many b distinct in
          let low : nat_le most_snapshots (fin.len (snaps_by b x.snapshots)) ≡ false = (let less : fin.len (snaps_by b x.snapshots) < most_snapshots = omega (arith, few, same) in grind (arith, nat_tests, less)) in
          create_by m x.name (volume_as x (content_by a b x)) has.there name
          ∙ ap₂ (λ (s t : Bool). create_chain m x.name (volume_as x (content_by a b x)) has.there name s t) (ap (λ (o : Option Table). is_some o) (none_by b none)) low
          ∙ said r (first_of (space m (SnapCreate x.name name) x.name)) (says m (SnapCreate x.name name) x.name more moved
          (left_by m (SnapCreate x.name name) x.name (volume_as x (content_by a b x)) _ more others (capacity blocks) has.there (create_change m x.name (volume_as x (content_by a b x)) has.there name) has.sum (more_books a b is none) (ap capacity (sym has.blocks))));
      same = refused_given r _ (exact (record x.ledger { charge = x.ledger.charge + map_blocks x.ledger.span }) (subst (λ (n : ℕ). IsChanged x.ledger delta (record x.ledger { charge = x.ledger.charge + map_blocks n })) (sym booked.span) moved)) ∙ sym (by_space none (some_free x.snapshots slot free));
      slot = slot_given r;
      none = none_given r;
      fits = fits_given r (exact more moved);
    }
      where
        moved : IsChanged x.ledger delta more
        moved = record {
          charge = (let e : pos (x.ledger.charge + map_blocks x.span) ≡ (pos x.ledger.charge +ℤ pos (map_blocks x.span)) = omega (arith, ints) in e ∙ ap (λ n. pos x.ledger.charge +ℤ n) (sym charged));
          need = (let e : pos x.ledger.need ≡ (pos x.ledger.need +ℤ pos 0) = omega (arith, ints) in e ∙ ap (λ n. pos x.ledger.need +ℤ n) (sym needed));
          size = sym size;
          kind = sym kind;
          span = refl;
        }

        said : (r : Result Unit Refusal) (o : Option Refusal) → r ≡ answer_of o → o ≡ refusal_in (given slot r)
        said r o e = back o ∙ ap (λ (r : Result Unit Refusal). refusal_in (given slot r)) (sym e)
          where
            back : (o : Option Refusal) → o ≡ refusal_in (given slot (answer_of o))
            back None = refl
            back (Some r) = refl

        refused_given : (r wanted : Result Unit Refusal) → r ≡ wanted → refusal_in (given slot r) ≡ refusal_in wanted
        refused_given (Ok done) wanted e = ap refusal_in e
        refused_given (Err s) wanted e = ap refusal_in e

        slot_given : (r : Result Unit Refusal) → IfOk (given slot r) (IsLeastFree x.snapshots)
        slot_given (Ok done) = free
        slot_given (Err r) = tt

        none_given : (r : Result Unit Refusal) → OnOk (given slot r) (snap_named x.snapshots name ≡ None)
        none_given (Ok done) = none
        none_given (Err r) = tt

        fits_given : (r : Result Unit Refusal) → r ≡ admission more others (capacity blocks) → OnOk (given slot r) (x.ledger.charge + map_blocks x.span ≤ x.size)
        fits_given (Ok done) e = let fits = within_size more others (capacity blocks) e in let none = booked.need in let size = booked.size in omega (arith, fits, none, size)
        fits_given (Err r) e = tt

    -- A snapshot that isn't refused by what is in memory is made by each machine.
    pub judged_granted : IsBooked x → (slot : ℕ) → IsGranted x name slot → creation_refusal x.snapshots x.ledger blocks others name ≡ None → JudgesCreation x blocks others name (Ok slot)
    judged_granted booked slot granted accepted =
        judged_space booked granted.none slot granted.free delta refl refl refl refl (Ok tt) admitted (λ m c v l changed left. admitted l changed ∙ machine_admits m c v l others (capacity blocks) left)
      where
        delta : Delta
        delta = record { charge = pos (map_blocks x.span); need = pos 0; size = x.ledger.size; kind = x.ledger.kind }

        grown : Ledger
        grown = record x.ledger { charge = x.ledger.charge + map_blocks x.ledger.span }

        moved : IsChanged x.ledger delta grown
        moved = record {
          charge = (let e : pos (x.ledger.charge + map_blocks x.ledger.span) ≡ (pos x.ledger.charge +ℤ pos (map_blocks x.ledger.span)) = omega (arith, ints) in e ∙ ap (λ (n : ℕ). pos x.ledger.charge +ℤ pos (map_blocks n)) booked.span);
          need = (let e : pos x.ledger.need ≡ (pos x.ledger.need +ℤ pos 0) = omega (arith, ints) in e);
          size = refl;
          kind = refl;
          span = refl;
        }

        accepts : (r : Result Unit Refusal) → refusal_in r ≡ None → Ok tt ≡ r
        accepts (Ok done) e = refl
        accepts (Err r) e = absurd cc

        admitted : (l : Ledger) → IsChanged x.ledger delta l → Ok tt ≡ admission l others (capacity blocks)
        admitted l changed =
            accepts (admission grown others (capacity blocks)) (sym (by_space granted.none (some_free x.snapshots slot granted.free)) ∙ accepted)
            ∙ ap (λ (k : Ledger). admission k others (capacity blocks)) (one_ledger x.ledger delta grown l moved changed)

-- ---- what is granted

-- What was judged is granted, and isn't refused.
module _ (x : VolumeState) (blocks others : ℕ) (name : List ℕ) where
  granted_is : (r : Result Granted Refusal) (granted : Granted) → r ≡ Ok granted → JudgesCreation x blocks others name (slot_granted r) → JudgesCreation x blocks others name (Ok granted.slot)
  granted_is r granted is judged = subst (λ (q : Result Granted Refusal). JudgesCreation x blocks others name (slot_granted q)) is judged

  pub is_granted : (r : Result Granted Refusal) (granted : Granted) → r ≡ Ok granted → JudgesCreation x blocks others name (slot_granted r) → IsGranted x name granted.slot
  is_granted r granted is judged = let its = granted_is r granted is judged in record { free = its.slot; none = its.none; fits = its.fits }

  pub not_refused : (r : Result Granted Refusal) (granted : Granted) → r ≡ Ok granted → JudgesCreation x blocks others name (slot_granted r) → creation_refusal x.snapshots x.ledger blocks others name ≡ None
  not_refused r granted is judged = let its = granted_is r granted is judged in sym its.same
