-- A new volume beside those of a session between points: all of them are what they were, and the machine has one more.
use Rattle.std.proofs.Common.{◌≡◌, ◌≢◌, ℕ, ◌+◌, ◌<◌, ◌≤◌, true, false, List, length, Option, Some, None, true≢false, refl, sym, ap, subst, ◌∙◌, ⊎_elim, arith, length-set}
use Rattle.std.specs.Prelude.{cond, IfSome, ◌⊎◌}
use Rattle.std.specs.Option.{is_some, option_map}
use Rattle.std.specs.Ordering.{eq_by_cmp}
use Rattle.std.specs.FinMap as fin
use Rattle.std.specs.FinMap.{find}
use Rattle.std.specs.FinSet as set
use Rattle.std.proofs.lemmas.Bool.{both_ways, cases_eq}
use Rattle.std.proofs.lemmas.List.{get_or-set_other, get_or-set_same, length-replicate}
use Rattle.std.proofs.lemmas.List.Sums.{sum_by-set}
use Rattle.std.proofs.lemmas.Option.{none-some, same_Some}
use Rattle.fv_disk.specs.Shown.{Shown}
use Rattle.fv_bits.specs.Members.{is_member}
use Rattle.fv_model.specs.Machines.{Machine, capacity}
use Rattle.fv_model.specs.Space.{base_ids}
use Rattle.fv_model.specs.Spelling.{is_same_name, name_cmp}
use Rattle.fv_model.specs.Volumes.{Volume}
use Rattle.fv_laws.proofs.Changes.{itself}
use Rattle.fv_laws.proofs.Orders.{name_total, name_ties}
use Rattle.fv_container.specs.declared.entry.Entry.{Entry}
use Rattle.fv_image.specs.Views.{entry_count}
use Rattle.fv_charge.specs.Ledgers.{committed}
use Rattle.fv_container.proofs.Clean.{clean_none}
use Rattle.fv_container.specs.Mapped.{Mapped, empty_map, node_count}
use Rattle.fv_container.specs.Spelled.{names}
use Rattle.fv_container.specs.Clean.{IsCleanOn}
use Rattle.fv_container.specs.Paged.{Paged, empty_paged}
use Rattle.fv_container.specs.Chains.{AreCleanOn, IsSlots, container_at, map_in, own_entry, paged_at, parent_at}
use Rattle.fv_store.specs.Held.{StandsOn}
use Rattle.fv_volmap.specs.Slots.{has, slot_at, slot_of_base}
use Rattle.fv_pool.specs.declared.pool.Pool.{Pool}
use Rattle.fv_pool.specs.BlocksOver.{entries_in}
use Rattle.fv_volume.specs.declared.state.Base.{Base}
use Rattle.fv_volume.specs.declared.state.VolumeState.{VolumeState}
use Rattle.fv_volume.specs.Files.{AreNamed, IsLabelled}
use Rattle.fv_volume.specs.Loading.{Houses}
use Rattle.fv_volume.specs.OneVolume.{volume_for, IsReady}
use Rattle.fv_volume.specs.Placing.{StaysBeside}
use Rattle.fv_volume.specs.Slots.{committed_by, is_named, sum_of, NoneHasName}
use Rattle.fv_volume.specs.States.{States, parent_in, state_at, with_state}
use Rattle.fv_volume.specs.Stored.{AreSpacedIn, has_block, has_stored_map, place_in}
use Rattle.fv_volumes.specs.Creating.{with_holes_on}
use Rattle.fv_volumes.specs.Footing.{AreFooted, IsFooted, IsOnBase}
use Rattle.fv_volumes.specs.Housed.{AreHoused}
use Rattle.fv_volumes.proofs.AddedClone.{footed_added}
use Rattle.fv_volumes.proofs.Beside.{beside_off, StandOff}
use Rattle.fv_volumes.proofs.HoleContainers.{none_led, none_named_in, none_of, none_under}
use Rattle.fv_volumes.proofs.Made.{from_pairs, to_pair}
use Rattle.fv_volumes.proofs.Told.{find_set, is_inside, named_from, none_named as none_found, same_named}
use Rattle.fv_cp.proofs.CameIn.{lent_clean}
use Rattle.fv_cp.specs.Held.{machine_held, IsHeld, IsHeldIn}
use Rattle.fv_cp.specs.Lent.{FitTogether, IsLentAt, IsLentSlot}
use Rattle.fv_cp.specs.Placing.{AreReady, HaveNoFiles, IsReadyIn}
use Rattle.fv_aggregate.specs.Adding.{IsYetToWrite}
use Rattle.fv_aggregate.proofs.HeldMachine.{at_name, one}
use Rattle.fv_aggregate.proofs.YetToWrite.{none_stored}

-- ---- what calls need of it

module _ (disk : Shown) (pool : Pool) (states : States) (x : VolumeState) (fit : FitTogether pool states) (few : IsSlots pool.containers) (within : x.slot < 64) (free : state_at states x.slot ≡ None) (is : IsYetToWrite x) where
  abbrev slot : ℕ
  slot = x.slot

  abbrev after : Pool
  after = with_holes_on pool x.slot x.span (parent_in (Some x))

  abbrev new : States
  new = with_state states x.slot (Some x)

  here : IsLabelled slot x
  here = is.labelled

  inside : slot < length states
  inside = let all = fit.housed.long in omega (arith, within, all)

  pub there_now : state_at new slot ≡ Some x
  there_now = get_or-set_same states slot (Some x) None inside

  pub elsewhere : (s : ℕ) → s ≢ slot → state_at new s ≡ state_at states s
  elsewhere s ne = get_or-set_other states slot s (Some x) None ne

  paged_here : paged_at after.containers slot ≡ Some (empty_paged (entry_count x.span))
  paged_here = get_or-set_same pool.containers.containers slot (Some (empty_paged (entry_count x.span))) None (let all = few.containers in omega (arith, within, all))

  paged_elsewhere : (s : ℕ) → s ≢ slot → paged_at after.containers s ≡ paged_at pool.containers s
  paged_elsewhere s ne = get_or-set_other pool.containers.containers slot s (Some (empty_paged (entry_count x.span))) None ne

  -- its container has holes
  pub holes : container_at after.containers slot ≡ Some (empty_map (entry_count x.span))
  holes = ap map_in paged_here

  pub container_elsewhere : (s : ℕ) → s ≢ slot → container_at after.containers s ≡ container_at pool.containers s
  container_elsewhere s ne = ap map_in (paged_elsewhere s ne)

  parent_here : parent_at after.containers slot ≡ parent_in (Some x)
  parent_here = get_or-set_same pool.containers.parents slot (parent_in (Some x)) None (let all = few.parents in omega (arith, within, all))

  parent_elsewhere : (s : ℕ) → s ≢ slot → parent_at after.containers s ≡ parent_at pool.containers s
  parent_elsewhere s ne = get_or-set_other pool.containers.parents slot s (parent_in (Some x)) None ne

  -- what holds of the new volume, and stays of each other one, holds of each
  put : (P Q : ℕ → VolumeState → Type 0) → Q slot x → ((s : ℕ) (y : VolumeState) → s ≢ slot → state_at states s ≡ Some y → P s y → Q s y) → ((s : ℕ) → IfSome (state_at states s) (P s)) → (s : ℕ) → IfSome (state_at new s) (Q s)
  put P Q new_is stays was s = ⊎_elim
      (λ (same : s ≡ slot). subst (λ (k : ℕ). IfSome (state_at new k) (Q k)) (sym same) (subst (λ (o : Option VolumeState). IfSome o (Q slot)) (sym there_now) new_is))
      (λ (other : s ≢ slot). subst (λ (o : Option VolumeState). IfSome o (Q s)) (sym (elsewhere s other)) (by other (state_at states s) refl (was s)))
      (cases_eq s slot)
    where
      by : s ≢ slot → (o : Option VolumeState) → state_at states s ≡ o → IfSome o (P s) → IfSome o (Q s)
      by other None there none = tt
      by other (Some y) there one = stays s y other there one

  -- a new volume is in order beside those that were
  pub housed_beside : AreHoused after.containers new
  housed_beside = record {
    long = length-set states slot (Some x) ∙ fit.housed.long;
    volumes = put IsLabelled IsLabelled here (λ s y other there one. one) fit.housed.volumes;
    each = λ s. ⊎_elim
        (λ (at : s ≡ slot). subst (λ (k : ℕ). Houses (state_at new k) (container_at after.containers k)) (sym at)
        (subst (λ (o : Option VolumeState). Houses o (container_at after.containers slot)) (sym there_now) (subst (λ (c : Option Mapped). Houses (Some x) c) (sym holes) (length-replicate (entry_count x.span) None))))
        (λ (other : s ≢ slot). subst (λ (o : Option VolumeState). Houses o (container_at after.containers s)) (sym (elsewhere s other))
        (subst (λ (c : Option Mapped). Houses (state_at states s) c) (sym (container_elsewhere s other)) (fit.housed.each s)))
        (cases_eq s slot);
    parents = λ s. ⊎_elim
        (λ (at : s ≡ slot). ap (parent_at after.containers) at ∙ parent_here ∙ sym (ap (λ (k : ℕ). parent_in (state_at new k)) at ∙ ap parent_in there_now))
        (λ (other : s ≢ slot). parent_elsewhere s other ∙ fit.housed.parents s ∙ ap parent_in (sym (elsewhere s other)))
        (cases_eq s slot);
  }

  -- so they fit together with what they share
  pub fit_beside : FitTogether after new
  fit_beside = record { range = fit.range; size = fit.size; version = fit.version; housed = housed_beside; kept = fit.kept }

  not_changed : x.changed ≡ false → ⊥
  not_changed e = true≢false (sym is.changed ∙ e)

  many : x.map.span ≤ length (entries_in (container_at after.containers x.slot))
  many = subst (λ (c : Option Mapped). x.map.span ≤ length (entries_in c)) (sym holes)
      (let count : length (entries_in (Some (empty_map (entry_count x.span)))) ≡ entry_count x.span = length-replicate (entry_count x.span) None in
      let span = here.map in omega (arith, count, span))

  pub ready_new : StandsOn disk pool.store.pairs → IsReady disk after x
  ready_new stands = record {
    lent = record {
      within = within;
      stands = stands;
      few = (let span = here.map in let most = here.span in omega (arith, span, most));
      entries = many;
    };
    labelled = here;
    booked = is.booked;
    blocks = fit.range.size;
    changed = λ isnt. absurd (not_changed isnt);
    fresh = λ isnt. absurd (not_changed isnt);
  }

  ready_old : (s : ℕ) (y : VolumeState) → s ≢ slot → y.slot ≡ s → IsReady disk pool y → IsReady disk after y
  ready_old s y other at ready = record {
    lent = record {
      within = ready.lent.within;
      stands = ready.lent.stands;
      few = ready.lent.few;
      entries = subst (λ (c : Option Mapped). y.map.span ≤ length (entries_in c)) (sym (container_elsewhere y.slot (λ e. other (sym at ∙ e)))) ready.lent.entries;
    };
    labelled = ready.labelled;
    booked = ready.booked;
    blocks = ready.blocks;
    changed = ready.changed;
    fresh = ready.fresh;
  }

  pub ready_beside : StandsOn disk pool.store.pairs → AreReady disk pool states → AreReady disk after new
  ready_beside stands ready = put (IsReadyIn disk pool) (IsReadyIn disk after) (record { slot = refl; ready = ready_new stands })
      (λ s y other there one. record { slot = one.slot; ready = ready_old s y other one.slot one.ready }) ready

  pub none_beside : HaveNoFiles states → HaveNoFiles new
  none_beside none = put (λ s y. y.files ≡ None) (λ s y. y.files ≡ None) is.files (λ s y other there no. no) none

  -- ---- where the session stands for a machine

  module _ (last : Machine) (held : IsHeld disk pool states last) where
    mine : (s : ℕ) (y : VolumeState) → state_at states s ≡ Some y → IsHeldIn disk pool s y
    mine s y there = one disk pool states fit.housed.long last held s y there

    -- each container is clean on the disk
    pub clean_now : AreCleanOn disk.reads after.containers
    clean_now s = ⊎_elim
        (λ (at : s ≡ slot). subst (λ (k : ℕ). IfSome (paged_at after.containers k) (IsCleanOn disk.reads)) (sym at) (subst (λ (c : Option Paged). IfSome c (IsCleanOn disk.reads)) (sym paged_here) (clean_none disk.reads (entry_count x.span))))
        (λ (other : s ≢ slot). subst (λ (c : Option Paged). IfSome c (IsCleanOn disk.reads)) (sym (paged_elsewhere s other)) (lent_clean disk.reads pool.found states pool.containers few fit.housed held.slots s))
        (cases_eq s slot)

    -- each volume on which one stands is there, and the slot of the new one was free
    off : StandOff pool.containers slot states
    off s t y other at up = by y.base (sym (ap parent_in at) ∙ sym (fit.housed.parents s) ∙ up)
        (subst (λ (o : Option VolumeState). IfSome o (λ c. IfSome c.base (λ b. IsFooted states c b × IsOnBase pool.containers c))) at (held.footed.each s))
      where
        by : (o : Option Base) → option_map (λ (b : Base). b.parent) o ≡ Some t → IfSome o (λ b. IsFooted states y b × IsOnBase pool.containers y) → (t ≢ slot) × (is_some (state_at states t) ≡ true)
        by None e its = absurd (none-some t e)
        by (Some b) e its =
            let used : state_at states t ≡ Some its.0.parent = ap (state_at states) (sym (same_Some b.parent t e)) ∙ its.0.there in
            ((λ same. none-some its.0.parent (sym free ∙ ap (state_at states) (sym same) ∙ used)), ap is_some used)

    module _ (s : ℕ) (y : VolumeState) (other : s ≢ slot) (there : state_at states s ≡ Some y) where
      was : IsHeldIn disk pool s y
      was = mine s y there

      -- no volume stands on the new one
      pub stays_old : StaysBeside disk pool disk after y
      stays_old = beside_off disk disk pool after states slot off container_elsewhere parent_elsewhere refl refl
          y (ap (state_at states) was.slot ∙ there) (λ e. other (sym was.slot ∙ e)) (λ k v z e off here own. refl) next clean_now was.stands
        where
          next : (k v : ℕ) (z : VolumeState) (e : Entry) → k ≢ slot → state_at states k ≡ Some z → own_entry (container_at pool.containers k) v ≡ Some e → is_member pool.map.next e.pvbn ≡ true
          next k v z e off here own = let one = mine k z here in one.stands.told.1.own v e (ap (λ (n : ℕ). own_entry (container_at pool.containers n) v) one.slot ∙ own)

      volume_old : volume_for disk after y ≡ volume_for disk pool y
      volume_old = stays_old.volume

      held_old : IsHeldIn disk after s y
      held_old = record {
        slot = was.slot;
        ready = ready_old s y other was.slot was.ready;
        stands = stays_old.standing;
        led = stays_old.led was.led;
        well = stays_old.well was.well;
        wide = subst (λ (v : Volume). v.most + (set.len (base_ids v.base) + 256) ≤ v.span) (sym stays_old.volume) was.wide;
        within = was.within;
      }

    -- each volume that stands on another does still
    on_base : (s : ℕ) (c : VolumeState) → s ≢ slot → state_at states s ≡ Some c → IsOnBase pool.containers c → IsOnBase after.containers c
    on_base s c other there on =
        let same : container_at after.containers c.slot ≡ container_at pool.containers c.slot = container_elsewhere c.slot (λ e. other (sym (mine s c there).slot ∙ e)) in
        record {
          leaves = λ v has. ap (λ (m : Option Mapped). own_entry m v) same ∙ on.leaves v has;
          rests = λ k v low has_it. subst (λ (m : Option Mapped). (is_some (own_entry m v) ≡ true) ⊎ (has v (slot_at c.map slot_of_base) ≡ true)) (sym same) (on.rests k v low has_it);
        }

    -- and so does the new one, which stands on one of them, or on none
    pub footed_beside : IfSome x.base (λ b. IsFooted states x b × IsOnBase after.containers x) → AreFooted new after.containers
    footed_beside its = footed_added states new slot within free x there_now elsewhere pool.containers held.footed after.containers on_base its

    -- ---- the blocks

    slot_new : IsLentSlot disk.reads pool.found slot x (empty_paged (entry_count x.span))
    slot_new = record {
      label = λ some. absurd (some is.label);
      nodes = λ b named. absurd (both_ways (names (empty_map (entry_count x.span)).tree b) (none_named_in (node_count (entry_count x.span)) b) named);
      clean = clean_none disk.reads (entry_count x.span);
      apart = record {
        some = λ v. subst (λ o. IfSome o (λ e. 1 ≤ e.pvbn)) (sym (none_under (entry_count x.span) v)) tt;
        entries = λ v w lt within some same. some (ap place_in (none_under (entry_count x.span) v));
        nodes = λ b named. none_led (entry_count x.span) (entry_count x.span) b;
        label = none_led (entry_count x.span) (entry_count x.span) x.label;
      };
      maps = λ k j on within. absurd (both_ways (has_stored_map x k) (none_stored x is k) on);
      unchanged = λ e. absurd (not_changed e);
    }

    pub slots_now : (s : ℕ) → s < 64 → IsLentAt disk.reads pool.found s (state_at new s) (paged_at after.containers s)
    slots_now s inside = ⊎_elim
        (λ (here : s ≡ slot). subst (λ (k : ℕ). IsLentAt disk.reads pool.found k (state_at new k) (paged_at after.containers k)) (sym here)
        (subst (λ (o : Option VolumeState). IsLentAt disk.reads pool.found slot o (paged_at after.containers slot)) (sym there_now)
        (subst (λ (c : Option Paged). IsLentAt disk.reads pool.found slot (Some x) c) (sym paged_here) slot_new)))
        (λ (other : s ≢ slot). subst (λ (o : Option VolumeState). IsLentAt disk.reads pool.found s o (paged_at after.containers s)) (sym (elsewhere s other))
        (subst (λ (c : Option Paged). IsLentAt disk.reads pool.found s (state_at states s) c) (sym (paged_elsewhere s other)) (held.slots s inside)))
        (cases_eq s slot)

    -- the new volume has no block yet
    none_new : (b : ℕ) → has_block (state_at new slot) (container_at after.containers slot) b ≡ false
    none_new b = (λ i. has_block (there_now i) (holes i) b) ∙ none_of x (entry_count x.span) b is.label

    has_as_before : (s b : ℕ) → s ≢ slot → has_block (state_at new s) (container_at after.containers s) b ≡ has_block (state_at states s) (container_at pool.containers s) b
    has_as_before s b other = λ i. has_block (elsewhere s other i) (container_elsewhere s other i) b

    not_here : (s b : ℕ) → has_block (state_at new s) (container_at after.containers s) b ≡ true → s ≢ slot
    not_here s b there here = both_ways _ (ap (λ (k : ℕ). has_block (state_at new k) (container_at after.containers k) b) here ∙ none_new b) there

    was_there : (s b : ℕ) → has_block (state_at states s) (container_at pool.containers s) b ≡ true → s ≢ slot
    was_there s b there here = both_ways _ (ap (λ (k : ℕ). has_block (state_at states k) (container_at pool.containers k) b) here ∙ ap (λ (o : Option VolumeState). has_block o (container_at pool.containers slot) b) free) there

    pub spaced_now : AreSpacedIn pool.found.blocks pool.map.next (state_at new) (container_at after.containers)
    spaced_now = record {
      apart = λ s k b small large other here there.
          held.spaced.apart s k b small large other (sym (has_as_before s b (not_here s b here)) ∙ here) (sym (has_as_before k b (not_here k b there)) ∙ there);
      held = λ s b small there. held.spaced.held s b small (sym (has_as_before s b (not_here s b there)) ∙ there);
      set = λ b set. let s = held.spaced.set b set in (s.0, s.1, has_as_before s.0 b (was_there s.0 b s.2) ∙ s.2);
    }

    module _ (name_is : NoneHasName states x.name) (commits : sum_of states + committed x.ledger ≤ capacity pool.found.blocks) where
      -- ---- its name, and what it commits

      new_name : (s : ℕ) (y : VolumeState) → state_at states s ≡ Some y → x.name ≡ y.name → ⊥
      new_name s y there same =
          let none : is_named (state_at states s) x.name ≡ false = name_is.none s (is_inside states s y fit.housed.long there) in
          let some : is_named (Some y) x.name ≡ true = ap (λ (n : List ℕ). is_same_name y.name n) same ∙ itself y.name in
          true≢false (sym some ∙ ap (λ (o : Option VolumeState). is_named o x.name) (sym there) ∙ none)

      the_new : (s : ℕ) (a : VolumeState) → s ≡ slot → state_at new s ≡ Some a → x ≡ a
      the_new s a same there = same_Some x a (sym there_now ∙ ap (state_at new) (sym same) ∙ there)

      names_now : AreNamed new
      names_now = from_pairs new (λ s k a b first second same. ⊎_elim
          (λ (e : s ≡ slot). ⊎_elim
          (λ (f : k ≡ slot). e ∙ sym f)
          (λ (differs : k ≢ slot). absurd (new_name k b (sym (elsewhere k differs) ∙ second) (ap (λ (z : VolumeState). z.name) (the_new s a e first) ∙ same)))
          (cases_eq k slot))
          (λ (other : s ≢ slot). ⊎_elim
          (λ (f : k ≡ slot). absurd (new_name s a (sym (elsewhere s other) ∙ first) (ap (λ (z : VolumeState). z.name) (the_new k b f second) ∙ sym same)))
          (λ (differs : k ≢ slot). to_pair states held.names s k a b (sym (elsewhere s other) ∙ first) (sym (elsewhere k differs) ∙ second) same)
          (cases_eq k slot))
          (cases_eq s slot))

      commits_now : sum_of new ≤ capacity pool.found.blocks
      commits_now =
          let sum : sum_of new + committed_by (state_at states slot) ≡ sum_of states + committed_by (Some x) = sum_by-set committed_by states slot (Some x) None inside in
          let nothing : committed_by (state_at states slot) ≡ 0 = ap committed_by free in
          omega (arith, sum, nothing, commits)

      pub held_beside : IsHeldIn disk after slot x → AreFooted new after.containers → IsHeld disk after new last
      held_beside held_new footed = record {
        found = held.found;
        tells = held.tells;
        keeps = held.keeps;
        map = record { len = held.map.len; bits = held.map.bits };
        slots = slots_now;
        spaced = spaced_now;
        names = names_now;
        each = put (IsHeldIn disk pool) (IsHeldIn disk after) held_new (λ s y other there was. held_old s y other there) held.each;
        commits = commits_now;
        footed = footed;
      }

      -- ---- the machine

      abbrev meant : ℕ → VolumeState → Volume
      meant s y = volume_for disk pool y

      abbrev now_meant : ℕ → VolumeState → Volume
      now_meant s y = volume_for disk after y

      old_same : named_from now_meant 0 states ≡ named_from meant 0 states
      old_same = same_named meant now_meant states 0 (λ k y there. volume_old k y (λ same. none-some y (sym free ∙ ap (state_at states) (sym same) ∙ there)) there)

      -- it has the new volume beside those that were
      pub machine_beside : machine_held disk after new ≡ record (machine_held disk pool states) { volumes = fin.insert (machine_held disk pool states).volumes x.name (volume_for disk after x) }
      unfolding machine_held
      machine_beside =
          let m : Machine = machine_held disk pool states in
          let unnamed : find name_cmp x.name (named_from now_meant 0 states) ≡ None = (λ j. find name_cmp x.name (old_same j)) ∙ none_found meant states 0 x.name (λ s lt. name_is.none s (let all = fit.housed.long in omega (arith, lt, all))) in
          let map : (machine_held disk after new).volumes ≡ fin.insert m.volumes x.name (volume_for disk after x) =
          fin.same_map name_total name_ties _ _ (λ q.
          at_name disk after new housed_beside.long q
          ∙ find_set now_meant x states 0 slot inside free unnamed q
          ∙ (λ j. cond (eq_by_cmp name_cmp q x.name) (Some (volume_for disk after x)) (find name_cmp q (old_same j)))
          ∙ ap (λ (o : Option Volume). cond (eq_by_cmp name_cmp q x.name) (Some (volume_for disk after x)) o) (sym (at_name disk pool states fit.housed.long q))
          ∙ sym (fin.get-insert name_total m.volumes x.name (volume_for disk after x) q)) in
          (λ j. record { blocks = pool.found.blocks; version = pool.version; volumes = map j })
