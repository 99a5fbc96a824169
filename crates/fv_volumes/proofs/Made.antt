-- A new volume, and the machine with it.
use Rattle.std.proofs.Common.{◌≡◌, ◌≢◌, ◌<◌, ◌≤◌, ◌+◌, ◌*◌, ℕ, Bool, true, false, cond, not, List, [], length, Option, Some, None, sum_by, true≢false, refl, sym, ap, subst, ◌∙◌, ⊎_elim, arith, length-set}
use Rattle.std.specs.Prelude.{IfSome, replicate}
use Rattle.std.specs.Option.{is_some, option_map, option_map_or}
use Rattle.std.specs.FinMap as fin
use Rattle.std.specs.Ordering.{nat_cmp, eq_by_cmp}
use Rattle.std.specs.FinMap.{find}
use Rattle.std.proofs.lemmas.Bool.{cases_eq}
use Rattle.std.proofs.lemmas.Bool.Decides.{nat_tests}
use Rattle.std.proofs.lemmas.List.Elements.{All-nil}
use Rattle.std.proofs.lemmas.List.{get_or-set_same, get_or-set_other}
use Rattle.fv_disk.specs.Shown.{Image}
use Rattle.fv_image.specs.WholeMachine.{has_form}
use Rattle.fv_model.specs.declared.answers.Refusal.{Refusal}
use Rattle.fv_model.specs.declared.answers.Refusal.TheVariants.{VolumeExists, AggregateFull, Range, TooMany}
use Rattle.fv_model.specs.declared.commands.Command.TheVariants.{VolCreate}
use Rattle.fv_model.specs.declared.commands.Kind.{Kind}
use Rattle.fv_model.specs.Numbers.{greatest_span, is_size}
use Rattle.fv_codec.specs.Blocks.{IsPointer}
use Rattle.fv_model.specs.Spelling.{is_name, is_same_name, name_cmp}
use Rattle.fv_model.specs.Tables.{File, Table, empty_table}
use Rattle.fv_model.specs.Volumes.{Volume}
use Rattle.fv_model.specs.Machines.{Machine, capacity}
use Rattle.fv_model.specs.Space.{commits, overhead, span_of, use_of}
use Rattle.fv_model.specs.Effects.{change_of, effect, empty_volume}
use Rattle.fv_model.specs.Refusals.{conditions, has_all_volumes, is_aggregate_full, is_taken, next, refusal}
use Rattle.fv_laws.proofs.Orders.{name_total, name_ties}
use Rattle.fv_laws.specs.WellFormed.{IsWellTable}
use Rattle.fv_laws.specs.Positions.{HasNoReserve}
use Rattle.fv_laws.proofs.Changes.{itself, same_name}
use Rattle.fv_laws.proofs.Commits.{commit_at, commits_new}
use Rattle.fv_laws.proofs.Tables.{empty_well}
use Rattle.fv_tables.proofs.Bare.{bare_table}
use Rattle.fv_image.specs.Volumes.{empty_volume_of, standing_of, table_at, volume_with, told_with}
use Rattle.fv_image.proofs.Uses.{uses_nothing}
use Rattle.fv_charge.specs.declared.ledger.Ledger.{Ledger}
use Rattle.fv_charge.specs.Ledgers.{IsLedgerOf}
use Rattle.fv_container.specs.Chains.{container_at, map_in, own_entry}
use Rattle.fv_container.specs.Paged.{empty_paged}
use Rattle.fv_image.specs.Chains.{under}
use Rattle.fv_image.specs.Views.{Head, View, entry_count}
use Rattle.fv_volmap.specs.Slots.{Volume as MapSlots, empty_volume as no_numbers, stored_count}
use Rattle.fv_pool.specs.declared.pool.Pool.{Pool}
use Rattle.fv_volume.specs.declared.state.VolumeState.{VolumeState}
use Rattle.fv_volumes.specs.Creating.{Admits, Refuses, new_ledger_of, with_holes_on}
use Rattle.fv_volume.specs.SnapRecords.{hole, AreSayable, IsSayableSnap}
use Rattle.fv_volume.proofs.Labels.{IsSayable, IsSayableBase, label_range}
use Rattle.fv_volume.specs.Slots.{is_named, HasName, HaveSpans, HasSpan, IsFirstFree, IsFull, NoneHasName, sum_of}
use Rattle.fv_volume.proofs.StayingMaps.{no_waits}
use Rattle.fv_volume.specs.Files.{AreNamed, AreStates, HasSlotsOf, IsLabelled, IsState}
use Rattle.fv_volume.proofs.MapSlots.{one_empty, slots_of_one}
use Rattle.fv_volume.specs.States.{States, empty_head, head_in, ledger_of_empty, placed_in, state_at, view_over, with_state}
use Rattle.fv_volume.specs.Trees.{Trees, active_by, active_in, machine_in}
use Rattle.fv_volumes.proofs.Told.{Named, AreDistinct, named_from, volume_by, all_named, counted, distinct_from, fewer_named, find_set, head_there, is_inside, ledger_commit, none_named, none_some, same_named, some_named, summed, summed_states, volumes_are}
use Rattle.fv_volumes.specs.Footing.{AreFooted}
use Rattle.fv_volumes.proofs.AddedView.{base_same, under_same}
use Rattle.fv_volumes.proofs.Trees.{told_alike, same_active, same_snaps}

-- ---- the new volume

-- the table of a new volume has no file
new_table : (w : View) (s : ℕ) (name : List ℕ) (size : ℕ) (kind : Kind) (span : ℕ) → table_at w s (empty_head name size kind span).active ≡ empty_table
new_table w s name size kind span = bare_table (standing_of w s (empty_head name size kind span).active) refl

-- the head of a new volume is told as the machine's new volume
pub told_new : (w : View) (s : ℕ) (name : List ℕ) (size : ℕ) (kind : Kind) → volume_with w s (empty_head name size kind (span_of size 0 0)) empty_table ≡ empty_volume size kind
unfolding volume_with
told_new w s name size kind = refl

pub ledger_new : (size : ℕ) (kind : Kind) → IsLedgerOf (empty_volume size kind) (ledger_of_empty size kind (span_of size 0 0))
unfolding empty_volume_of
ledger_new size kind =
    let none : use_of (empty_volume size kind) ≡ 0 = uses_nothing (empty_head [] size kind (span_of size 0 0)) in
    record {
      charged = omega (arith, none);
      needed = omega (arith, none);
      size = refl;
      kind = refl;
      span = refl;
    }

-- ---- names

-- no two slots have one name, slot by slot
pub from_pairs : (states : States) → ((s k : ℕ) (a b : VolumeState) → state_at states s ≡ Some a → state_at states k ≡ Some b → a.name ≡ b.name → s ≡ k) → AreNamed states
from_pairs states each s k = so (state_at states s) refl
  where
    last : (a : VolumeState) → state_at states s ≡ Some a → (o : Option VolumeState) → state_at states k ≡ o → IfSome o (λ b. a.name ≡ b.name → s ≡ k)
    last a here None there = tt
    last a here (Some b) there = each s k a b here there

    so : (o : Option VolumeState) → state_at states s ≡ o → IfSome o (λ a. IfSome (state_at states k) (λ b. a.name ≡ b.name → s ≡ k))
    so None here = tt
    so (Some a) here = last a here (state_at states k) refl

pub to_pair : (states : States) → AreNamed states → (s k : ℕ) (a b : VolumeState) → state_at states s ≡ Some a → state_at states k ≡ Some b → a.name ≡ b.name → s ≡ k
to_pair states names s k a b here there =
    subst (λ (o : Option VolumeState). IfSome o (λ b. a.name ≡ b.name → s ≡ k)) there
    (subst (λ (o : Option VolumeState). IfSome o (λ a. IfSome (state_at states k) (λ b. a.name ≡ b.name → s ≡ k))) here (names s k))

-- ---- the machine of a session

module _ (pool : Pool) (states : States) (trees : Trees) (i : Image) (long : length states ≡ 64) where
  abbrev w : View
  w = view_over pool states i

  abbrev m : Machine
  m = machine_in pool states trees i

  abbrev meant : ℕ → VolumeState → Volume
  meant = volume_by w (active_in w trees)

  pub volumes_by_name : m.volumes ≡ fin.from_entries {R = name_cmp} (named_from meant 0 states)
  unfolding machine_in told_with
  volumes_by_name = ap (λ (es : Named). fin.from_entries {R = name_cmp} es) (volumes_are pool states i (active_in w trees) long)

  pub blocks_are : m.blocks ≡ pool.found.blocks
  unfolding machine_in told_with view_over
  blocks_are = refl

  at_name : (name : List ℕ) → fin.get m.volumes name ≡ find name_cmp name (named_from meant 0 states)
  at_name name = ap (λ v. fin.get v name) volumes_by_name ∙ fin.get-from_entries name_total (named_from meant 0 states) name

  pub unnamed : (name : List ℕ) → NoneHasName states name → find name_cmp name (named_from meant 0 states) ≡ None
  unnamed name no_name = none_named meant states 0 name (λ s lt. no_name.none s (omega (arith, lt, long)))

  pub not_there : (name : List ℕ) → NoneHasName states name → fin.get m.volumes name ≡ None
  not_there name no_name = at_name name ∙ unnamed name no_name

  taken : (name : List ℕ) (slot : ℕ) → HasName states slot name → is_taken m name ≡ true
  taken name slot has = ap is_some (at_name name) ∙ some_named meant states 0 slot name has.named

  module _ (are : AreStates w trees states) where
    distinct : AreDistinct (named_from meant 0 states)
    distinct = distinct_from meant states 0 (λ e s x y lt here there. so e s x y lt here there (is_same_name y.name x.name) refl)
      where
        so : (e s : ℕ) (x y : VolumeState) → e < s → state_at states e ≡ Some x → state_at states s ≡ Some y → (b : Bool) → is_same_name y.name x.name ≡ b → b ≡ false
        so e s x y lt here there false is = refl
        so e s x y lt here there true is =
            let one : e ≡ s = to_pair states are.names e s x y here there (sym (same_name y.name x.name is)) in
            absurd (omega (arith, lt, one))

    how_many : fin.len m.volumes ≡ length (named_from meant 0 states)
    how_many = ap fin.len volumes_by_name ∙ counted (named_from meant 0 states) distinct

    no_more : IsFull states → has_all_volumes m ≡ true
    no_more full =
        let all : length (named_from meant 0 states) ≡ length states = all_named meant states 0 (λ s lt. full.full s (omega (arith, lt, long))) in
        grind (arith, nat_tests, how_many, all, long)

    some_more : (slot : ℕ) → IsFirstFree states slot → has_all_volumes m ≡ false
    some_more slot free =
        let few : length (named_from meant 0 states) < length states = fewer_named meant states 0 slot (omega (arith, free.within, long)) free.free in
        grind (arith, nat_tests, how_many, few, long)

    -- what holds of each slot holds of one in use
    state_is : (s : ℕ) (x : VolumeState) → state_at states s ≡ Some x → IsState w trees s x
    state_is s x is = subst (λ (o : Option VolumeState). IfSome o (IsState w trees s)) is (are.each s)

    pub commits_are : commits m ≡ sum_of states
    commits_are = ap (λ v. sum_by commit_at (fin.entries v)) volumes_by_name ∙ summed (named_from meant 0 states) distinct
        ∙ sym (summed_states meant states 0 (λ s x is. let zero_is : 0 + s ≡ s = omega arith in subst (λ (n : ℕ). IsLedgerOf (meant n x) x.ledger) (sym zero_is) (state_is s x is).ledger))

    after : (name : List ℕ) (size : ℕ) (kind : Kind) → NoneHasName states name → commits (effect m (VolCreate name size kind)) ≡ sum_of states + new_ledger_of size kind
    unfolding change_of
    after name size kind no_name =
        commits_new m name (empty_volume size kind) (not_there name no_name)
        ∙ (λ j. commits_are j + sym (ledger_commit (empty_volume size kind) (ledger_of_empty size kind (span_of size 0 0)) (ledger_new size kind)) j)

    size_after : (name : List ℕ) (size : ℕ) (kind : Kind) → (effect m (VolCreate name size kind)).blocks ≡ pool.found.blocks
    unfolding change_of
    size_after name size kind = blocks_are

    -- the conditions in their order
    chain : Bool → Bool → Bool → Bool → Option Refusal
    chain a b c d = cond a (Some Range) (cond b (Some VolumeExists) (cond c (Some TooMany) (cond d (Some AggregateFull) None)))

    tried : (name : List ℕ) (size : ℕ) (kind : Kind) → refusal m (VolCreate name size kind) ≡ chain (not (is_size size)) (is_taken m name) (has_all_volumes m) (is_aggregate_full (effect m (VolCreate name size kind)))
    unfolding conditions chain
    tried name size kind = refl

    is_free : (name : List ℕ) → NoneHasName states name → is_taken m name ≡ false
    is_free name no_name = ap is_some (not_there name no_name)

    pub refused_as : (name : List ℕ) (size : ℕ) (kind : Kind) (r : Refusal) → Refuses states pool.found.blocks name size kind r → refusal m (VolCreate name size kind) ≡ Some r
    unfolding chain
    refused_as name size kind Range is = tried name size kind ∙ (λ j. chain (not (is j)) (is_taken m name) (has_all_volumes m) (is_aggregate_full (effect m (VolCreate name size kind))))
    refused_as name size kind VolumeExists is = tried name size kind ∙ (λ j. chain (not (is.0 j)) (taken name is.1.0 is.1.1 j) (has_all_volumes m) (is_aggregate_full (effect m (VolCreate name size kind))))
    refused_as name size kind TooMany is = tried name size kind ∙ (λ j. chain (not (is.0 j)) (is_free name is.1.0 j) (no_more is.1.1 j) (is_aggregate_full (effect m (VolCreate name size kind))))
    refused_as name size kind AggregateFull is =
        let full : is_aggregate_full (effect m (VolCreate name size kind)) ≡ true = grind (arith, nat_tests, after name size kind is.1.0, size_after name size kind, is.1.1.1.1) in
        tried name size kind ∙ (λ j. chain (not (is.0 j)) (is_free name is.1.0 j) (some_more is.1.1.0 is.1.1.1.0 j) (full j))
    refused_as name size kind r is = absurd is.1.1

    pub accepted : (name : List ℕ) (size : ℕ) (kind : Kind) (slot span : ℕ) → Admits states pool.found.blocks name size kind slot span → refusal m (VolCreate name size kind) ≡ None
    unfolding chain
    accepted name size kind slot span is =
        let room : is_aggregate_full (effect m (VolCreate name size kind)) ≡ false = grind (arith, nat_tests, after name size kind is.name_is, size_after name size kind, is.room) in
        tried name size kind ∙ (λ j. chain (not (is.size_is j)) (is_free name is.name_is j) (some_more slot is.free j) (room j))

    -- what all volumes commit leaves the capacity room for the new one's overhead twice
    pub room_beside : (name : List ℕ) (size : ℕ) (kind : Kind) (slot span blocks : ℕ) → Admits states blocks name size kind slot span → commits m + 2 * overhead span ≤ capacity blocks
    room_beside name size kind slot span blocks is =
        let same : overhead span ≡ overhead (span_of size 0 0) = ap overhead is.span_is in
        omega (arith, commits_are, is.room, same)

-- ---- the numbers of the new volume

form_new : (name : List ℕ) (size : ℕ) (kind : Kind) (span : ℕ) → has_form (empty_head name size kind span) ≡ true
form_new name size kind span = refl

new_sayable : (name : List ℕ) (size : ℕ) (kind : Kind) (span : ℕ) → AreSayable (empty_head name size kind span)
new_sayable name size kind span = record { slots = record { within = refl; rising = refl }; each = All-nil IsSayableSnap }

-- a label can say it
sayable_new : (y : VolumeState) (name : List ℕ) (size : ℕ) (kind : Kind) (span : ℕ) → span ≤ greatest_span → span ≡ span_of size 0 0 → head_in y ≡ empty_head name size kind span → is_size size ≡ true → is_name name ≡ true → IsSayable y
sayable_new y name size kind span fits is head sized named =
    let size_is : y.size ≡ size = ap (λ h. h.size) head in
    let most_is : y.most ≡ 2 * size = ap (λ h. h.most) head in
    let span_is : y.span ≡ span = ap (λ h. h.span) head in
    let now_is : y.now ≡ 0 = ap (λ h. h.now) head in
    let levels_are : y.active.levels ≡ 0 = ap (λ h. h.active.levels) head in
    let root_is : y.active.root ≡ hole = ap (λ h. h.active.root) head in
    let least : 1 ≤ size = grind (arith, nat_tests, sized) in
    let greatest : size ≤ 500000 = grind (arith, nat_tests, sized) in
    record {
      name = ap is_name (ap (λ h. h.name) head) ∙ named;
      size_least = omega (arith, size_is, least);
      size_greatest = omega (arith, size_is, most_is, greatest);
      most_least = omega (arith, most_is, least);
      most_greatest = omega (arith, most_is, greatest);
      span_least = omega (arith, span_is, is);
      span_greatest = omega (arith, span_is, fits);
      span_step = omega (arith, span_is, is);
      now = rw now_is (omega arith);
      levels = omega (arith, levels_are);
      base = subst (λ (h : Head). IfSome h.base IsSayableBase) (sym head) tt;
      root = subst IsPointer (sym root_is) (record { vvbn = omega arith; pvbn = omega arith; stamp = omega arith });
      snapshots = subst AreSayable (sym head) (new_sayable name size kind span);
    }

-- a new volume in its slot
pub new_labelled : (y : VolumeState) (slot : ℕ) (name : List ℕ) (size : ℕ) (kind : Kind) (span : ℕ) → span ≤ greatest_span → span ≡ span_of size 0 0 → y.slot ≡ slot → head_in y ≡ empty_head name size kind span → y.ledger ≡ ledger_of_empty size kind span
    → is_size size ≡ true → is_name name ≡ true → y.map ≡ no_numbers span → y.fresh ≡ replicate stored_count false → IsLabelled slot y
new_labelled y slot name size kind span fits is at head ledger sized named map settled =
    let span_is : y.span ≡ span = ap (λ h. h.span) head in
    let levels : y.active.levels ≡ 0 = ap (λ h. h.active.levels) head in
    record {
      slot_is = at;
      form = ap has_form head ∙ form_new name size kind span;
      span = omega (arith, span_is, fits);
      map = ap (λ (x : MapSlots). x.span) map ∙ sym span_is;
      snapshots = subst AreSayable (sym head) (new_sayable name size kind span);
      slots = subst (λ (h : Head). HasSlotsOf h y.map) (sym head) (subst (HasSlotsOf (empty_head name size kind span)) (sym map) (slots_of_one (empty_head name size kind span) (no_numbers span) refl refl (one_empty span)));
      waits = no_waits y settled;
      counts = ap (λ (l : Ledger). l.span) ledger ∙ sym span_is;
      levels = omega (arith, levels);
      named = ap is_name (ap (λ h. h.name) head) ∙ named;
      label = label_range y (sayable_new y name size kind span fits is head sized named);
    }

put_at : (P : ℕ → VolumeState → Type 0) (states : States) (slot : ℕ) (y : VolumeState) → slot < length states → P slot y → ((s : ℕ) → s ≢ slot → IfSome (state_at states s) (P s)) → (s : ℕ) → IfSome (state_at (with_state states slot (Some y)) s) (P s)
put_at P states slot y within is each s = ⊎_elim
    (λ (same : s ≡ slot). subst (λ (x : Option VolumeState). IfSome x (P s)) (sym (ap (state_at (with_state states slot (Some y))) same ∙ get_or-set_same states slot (Some y) None within)) (subst (λ k. P k y) (sym same) is))
    (λ (other : s ≢ slot). subst (λ (x : Option VolumeState). IfSome x (P s)) (sym (get_or-set_other states slot s (Some y) None other)) (each s other))
    (cases_eq s slot)

pub each_made : (states : States) (slot : ℕ) (name : List ℕ) (size : ℕ) (kind : Kind) (span blocks : ℕ) (y : VolumeState) → length states ≡ 64 → ((s : ℕ) → IfSome (state_at states s) (IsLabelled s)) → Admits states blocks name size kind slot span
    → y.slot ≡ slot → head_in y ≡ empty_head name size kind span → y.ledger ≡ ledger_of_empty size kind span → is_name name ≡ true → y.map ≡ no_numbers span → y.fresh ≡ replicate stored_count false → (s : ℕ) → IfSome (state_at (with_state states slot (Some y)) s) (IsLabelled s)
each_made states slot name size kind span blocks y long each is at head ledger named map settled =
    put_at IsLabelled states slot y (omega (arith, is.free.within, long)) (new_labelled y slot name size kind span is.most is.span_is at head ledger is.size_is named map settled) (λ s other. each s)

-- the ledgers' spans are such as a volume can have
pub have_spans : (states : States) → ((s : ℕ) → IfSome (state_at states s) (IsLabelled s)) → HaveSpans states
have_spans states each = record { each = λ s lt. span_at s (state_at states s) (each s) }
  where
    span_at : (s : ℕ) (x : Option VolumeState) → IfSome x (IsLabelled s) → HasSpan x
    span_at s None is = tt
    span_at s (Some x) is = omega (arith, is.counts, is.span)

-- ---- a session with the new volume

-- A new volume lies in a free slot, with a container of holes.
pub record IsAdded (pool : Pool) (states : States) (slot : ℕ) (name : List ℕ) (size : ℕ) (kind : Kind) (y : VolumeState) (new_pool : Pool) : Type 0 where
  pub long : length states ≡ 64
  pub admits : (span : ℕ) × Admits states pool.found.blocks name size kind slot span
  pub head : head_in y ≡ empty_head name size kind (span_of size 0 0)
  pub labelled : IsLabelled slot y
  pub ledger : y.ledger ≡ ledger_of_empty size kind (span_of size 0 0)
  pub found : new_pool.found ≡ pool.found
  pub version : new_pool.version ≡ pool.version
  pub kept : new_pool.kept ≡ pool.kept
  pub others : (s : ℕ) → s ≢ slot → container_at new_pool.containers s ≡ container_at pool.containers s

pub added_by : (pool : Pool) (states : States) (slot : ℕ) (name : List ℕ) (size : ℕ) (kind : Kind) (span : ℕ) (y : VolumeState) (new_pool : Pool) → length states ≡ 64 → Admits states pool.found.blocks name size kind slot span
    → y.slot ≡ slot → head_in y ≡ empty_head name size kind span → y.ledger ≡ ledger_of_empty size kind span → is_name name ≡ true → y.map ≡ no_numbers span → y.fresh ≡ replicate stored_count false
    → new_pool ≡ with_holes_on pool y.slot y.span None → IsAdded pool states slot name size kind y new_pool
added_by pool states slot name size kind span y new_pool long is at head ledger named map settled holes = record {
  long = long;
  admits = (span, is);
  head = head ∙ ap (empty_head name size kind) is.span_is;
  labelled = new_labelled y slot name size kind span is.most is.span_is at head ledger is.size_is named map settled;
  ledger = ledger ∙ ap (ledger_of_empty size kind) is.span_is;
  found = ap (λ (p : Pool). p.found) holes;
  version = ap (λ (p : Pool). p.version) holes;
  kept = ap (λ (p : Pool). p.kept) holes;
  others = λ s other. ap (λ (p : Pool). container_at p.containers s) holes ∙ ap map_in (get_or-set_other pool.containers.containers y.slot s (Some (empty_paged (entry_count y.span))) None (λ same. other (same ∙ at)));
}

module _ (pool : Pool) (states : States) (slot : ℕ) (name : List ℕ) (size : ℕ) (kind : Kind) (y : VolumeState) (new_pool : Pool) (is : IsAdded pool states slot name size kind y new_pool) (trees : Trees) (i : Image)
    (are : AreStates (view_over pool states i) trees states) (footed : AreFooted states pool.containers) where
  abbrev new_states : States
  new_states = with_state states slot (Some y)

  abbrev before : View
  before = view_over pool states i

  abbrev now : View
  now = view_over new_pool new_states i

  free : IsFirstFree states slot
  free = is.admits.1.free

  there : slot < length states
  there = let within = free.within in let all = is.long in omega (arith, within, all)

  new_long : length new_states ≡ 64
  new_long = length-set states slot (Some y) ∙ is.long

  -- ---- the other slots

  other_state : (s : ℕ) → s ≢ slot → state_at new_states s ≡ state_at states s
  other_state s other = get_or-set_other states slot s (Some y) None other

  all_heads : (s : ℕ) → s ≢ slot → now.head s ≡ before.head s
  unfolding view_over
  all_heads s other = ap (option_map head_in) (other_state s other)

  all_entries : (s : ℕ) → s ≢ slot → (v : ℕ) → now.entry s v ≡ before.entry s v
  unfolding view_over
  all_entries s other v = (λ j. placed_in (is.kept j) i (own_entry (is.others s other j) v))

  -- another volume leads to what it led to
  other_under : (s : ℕ) (x : VolumeState) → state_at states s ≡ Some x → under now s ≡ under before s
  other_under = under_same states pool.containers footed slot free.free before now (head_there pool states i) all_heads all_entries

  module _ (s : ℕ) (other : s ≢ slot) where
    other_head : now.head s ≡ before.head s
    other_head = all_heads s other

    other_active : (x : VolumeState) → state_at states s ≡ Some x → active_in now trees s ≡ active_in before trees s
    other_active x in_slot = same_active before now s (other_under s x in_slot) other_head (trees s)

    -- so it is told as it was
    other_told : (x : VolumeState) → state_at states s ≡ Some x → volume_by now (active_in now trees) s x ≡ volume_by before (active_in before trees) s x
    other_told x in_slot = told_alike before now s (head_in x) (head_in x).active (active_in before trees s) (active_in now trees s)
        (base_same states pool.containers footed slot free.free before now (head_there pool states i) all_heads all_entries s x in_slot)
        (same_snaps before now s (head_in x).snapshots (other_under s x in_slot)) (other_active x in_slot)

  -- ---- the new one

  no_trees_there : trees slot ≡ None
  no_trees_there = are.empty slot free.free

  new_head : now.head slot ≡ Some (head_in y)
  unfolding view_over
  new_head = ap (option_map head_in) (get_or-set_same states slot (Some y) None there)

  new_active : active_in now trees slot ≡ empty_table
  new_active =
      ap (active_by now slot) no_trees_there
      ∙ ap (λ (o : Option Head). option_map_or (λ h. table_at now slot h.active) o empty_table) (new_head ∙ ap Some is.head)
      ∙ new_table now slot name size kind (span_of size 0 0)

  new_volume : volume_with now slot (head_in y) (active_in now trees slot) ≡ empty_volume size kind
  new_volume = (λ j. volume_with now slot (is.head j) (new_active j)) ∙ told_new now slot name size kind

  new_state : IsState now trees slot y
  new_state = record {
    labelled = is.labelled;
    table = subst (λ (t : Table). IsWellTable y.now t) (sym new_active) (empty_well y.now);
    reserves = subst HasNoReserve (sym new_active) none;
    ledger = subst (λ (v : Volume). IsLedgerOf v y.ledger) (sym new_volume) (subst (IsLedgerOf (empty_volume size kind)) (sym is.ledger) (ledger_new size kind));
  }
    where
      none : HasNoReserve empty_table
      none n f found = absurd (some_is (sym (fin.get-empty nat_cmp n) ∙ found))
        where
          some_is : ◌≡◌ {A = Option File} None (Some f) → ⊥
          some_is e = cc

  -- a volume of another slot is one still
  old_state : (s : ℕ) → s ≢ slot → (x : VolumeState) → state_at states s ≡ Some x → IsState before trees s x → IsState now trees s x
  old_state s other x in_slot was =
      let active = other_active s other x in_slot in
      record {
        labelled = was.labelled;
        table = subst (λ (t : Table). IsWellTable x.now t) (sym active) was.table;
        reserves = subst HasNoReserve (sym active) was.reserves;
        ledger = subst (λ (v : Volume). IsLedgerOf v x.ledger) (sym (other_told s other x in_slot)) was.ledger;
      }

  old_each : (s : ℕ) → s ≢ slot → (o : Option VolumeState) → state_at states s ≡ o → IfSome o (IsState before trees s) → IfSome o (IsState now trees s)
  old_each s other None in_slot was = tt
  old_each s other (Some x) in_slot was = old_state s other x in_slot was

  new_name : (s : ℕ) (x : VolumeState) → state_at states s ≡ Some x → y.name ≡ x.name → ⊥
  new_name s x in_slot same =
      let called : y.name ≡ name = ap (λ h. h.name) is.head in
      let within : s < 64 = is_inside states s x is.long in_slot in
      let none : is_named (state_at states s) name ≡ false = is.admits.1.name_is.none s within in
      let some : is_named (Some x) name ≡ true = ap (λ (n : List ℕ). is_same_name x.name n) (sym called ∙ same) ∙ itself x.name in
      true≢false (sym some ∙ ap (λ (o : Option VolumeState). is_named o name) (sym in_slot) ∙ none)

  -- The volumes are those of the machine with the new one.
  pub added_states : AreStates now trees new_states
  added_states = record {
    each = put_at (IsState now trees) states slot y there new_state (λ s other. old_each s other (state_at states s) refl (are.each s));
    names = names;
    empty = λ s none. ⊎_elim
        (λ (same : s ≡ slot). absurd (none_some y (sym (get_or-set_same states slot (Some y) None there) ∙ ap (state_at new_states) (sym same) ∙ none)))
        (λ (other : s ≢ slot). are.empty s (sym (other_state s other) ∙ none))
        (cases_eq s slot);
  }
    where
      names : AreNamed new_states
      names = from_pairs new_states (λ s k a b here there same. ⊎_elim
          (λ (first : s ≡ slot). ⊎_elim
          (λ (second : k ≡ slot). first ∙ sym second)
          (λ (other : k ≢ slot). absurd (new_name k b (sym (other_state k other) ∙ there) (ap (λ (x : VolumeState). x.name) (the_new s a first here) ∙ same)))
          (cases_eq k slot))
          (λ (other : s ≢ slot). ⊎_elim
          (λ (second : k ≡ slot). absurd (new_name s a (sym (other_state s other) ∙ here) (ap (λ (x : VolumeState). x.name) (the_new k b second there) ∙ sym same)))
          (λ (differs : k ≢ slot). to_pair states are.names s k a b (sym (other_state s other) ∙ here) (sym (other_state k differs) ∙ there) same)
          (cases_eq k slot))
          (cases_eq s slot))
        where
          the_new : (s : ℕ) (a : VolumeState) → s ≡ slot → state_at new_states s ≡ Some a → y ≡ a
          the_new s a same here = same_some (sym (get_or-set_same states slot (Some y) None there) ∙ ap (state_at new_states) (sym same) ∙ here)
            where
              same_some : {a b : VolumeState} → Some a ≡ Some b → a ≡ b
              same_some e = cc

  -- ---- the machine with the new volume is the next one

  old_same : named_from (volume_by now (active_in now trees)) 0 states ≡ named_from (volume_by before (active_in before trees)) 0 states
  old_same = same_named (volume_by before (active_in before trees)) (volume_by now (active_in now trees)) states 0 (λ k x in_slot.
      let zero_is : 0 + k ≡ k = omega arith in
      subst (λ (n : ℕ). volume_by now (active_in now trees) n x ≡ volume_by before (active_in before trees) n x) (sym zero_is)
      (other_told k (λ same. none_some x (sym in_slot ∙ ap (state_at states) same ∙ free.free)) x in_slot))

  pub made_next : machine_in new_pool new_states trees i ≡ next (machine_in pool states trees i) (VolCreate name size kind)
  unfolding change_of machine_in told_with view_over
  made_next =
      let called : y.name ≡ name = ap (λ h. h.name) is.head in
      let zero_is : 0 + slot ≡ slot = omega arith in
      let volume : volume_by now (active_in now trees) (0 + slot) y ≡ empty_volume size kind = ap (λ (n : ℕ). volume_by now (active_in now trees) n y) zero_is ∙ new_volume in
      let unnamed_yet : find name_cmp y.name (named_from (volume_by now (active_in now trees)) 0 states) ≡ None = (λ j. find name_cmp (called j) (old_same j)) ∙ unnamed pool states trees i is.long name is.admits.1.name_is in
      let map : (machine_in new_pool new_states trees i).volumes ≡ fin.insert (machine_in pool states trees i).volumes name (empty_volume size kind) =
      volumes_by_name new_pool new_states trees i new_long ∙ fin.same_map name_total name_ties _ _ (λ q.
      fin.get-from_entries name_total (named_from (volume_by now (active_in now trees)) 0 new_states) q
      ∙ find_set (volume_by now (active_in now trees)) y states 0 slot there free.free unnamed_yet q
      ∙ (λ j. cond (eq_by_cmp name_cmp q (called j)) (Some (volume j)) (find name_cmp q (old_same j)))
      ∙ ap (λ (o : Option Volume). cond (eq_by_cmp name_cmp q name) (Some (empty_volume size kind)) o) (sym (at_name pool states trees i is.long q))
      ∙ sym (fin.get-insert name_total (machine_in pool states trees i).volumes name (empty_volume size kind) q)) in
      (λ j. record { blocks = (is.found j).blocks; version = is.version j; volumes = map j })
      ∙ sym (ap (λ (r : Option Refusal). cond (is_some r) (machine_in pool states trees i) (effect (machine_in pool states trees i) (VolCreate name size kind))) (accepted pool states trees i is.long are name size kind slot is.admits.0 is.admits.1))
