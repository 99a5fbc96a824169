-- A volume that was put into a free slot of a session: where it lies, and that the others lie, and are held, as before.
use Rattle.std.proofs.Common.{◌≡◌, ◌≢◌, ◌⊎◌, ◌+◌, ◌<◌, ◌≤◌, ℕ, true, false, List, length, Option, Some, None, true≢false, sym, ap, subst, ◌∙◌, ⊎_elim, arith, length-set, refl}
use Rattle.std.specs.Prelude.{IfSome, is_some}
use Rattle.std.specs.FinSet as set
use Rattle.std.proofs.lemmas.Bool.{cases_eq}
use Rattle.std.proofs.lemmas.List.{get_or-set_other, get_or-set_same}
use Rattle.std.proofs.lemmas.Option.{none-some, same_Some}
use Rattle.fv_disk.specs.Shown.{Shown as Disk}
use Rattle.fv_bits.specs.Members.{is_member}
use Rattle.fv_charge.specs.Ledgers.{committed}
use Rattle.fv_laws.proofs.Changes.{itself}
use Rattle.fv_model.specs.Space.{base_ids}
use Rattle.fv_model.specs.Spelling.{is_same_name}
use Rattle.fv_model.specs.Volumes.{Volume}
use Rattle.fv_root.specs.Formatted.{IsSize}
use Rattle.fv_store.specs.Held.{StandsOn}
use Rattle.fv_container.specs.declared.entry.Entry.{Entry}
use Rattle.fv_container.specs.Chains.{Slots, AreCleanOn, container_at, map_in, own_entry, paged_at, parent_at, slot_count, with_container, with_parent}
use Rattle.fv_container.specs.Clean.{IsCleanOn}
use Rattle.fv_container.specs.Mapped.{Mapped}
use Rattle.fv_container.specs.Paged.{Paged}
use Rattle.fv_image.specs.Views.{entry_count}
use Rattle.fv_volmap.specs.Slots.{has, slot_at, slot_of_base}
use Rattle.fv_pool.specs.declared.pool.Pool.{Pool}
use Rattle.fv_pool.specs.BlocksOver.{entries_in}
use Rattle.fv_volume.specs.declared.state.VolumeState.{VolumeState}
use Rattle.fv_volume.specs.Files.{AreNamed, IsLabelled}
use Rattle.fv_volume.specs.Held.{IsHeldIn}
use Rattle.fv_volume.specs.Loading.{Houses}
use Rattle.fv_volume.specs.OneVolume.{IsBooked, IsReady}
use Rattle.fv_volume.specs.Placing.{StaysBeside}
use Rattle.fv_volume.specs.Slots.{committed_by, is_named, sum_of, NoneHasName}
use Rattle.fv_volume.specs.States.{States, parent_in, state_at, with_state}
use Rattle.fv_volume.proofs.Committed.{sum_with}
use Rattle.fv_volumes.specs.Footing.{AreFooted, IsFooted, IsOnBase}
use Rattle.fv_volumes.specs.Housed.{AreHoused}
use Rattle.fv_volumes.proofs.AddedClone.{footed_added}
use Rattle.fv_volumes.proofs.Made.{from_pairs, to_pair}
use Rattle.fv_volumes.proofs.Told.{is_inside}

-- The volume lies in a slot that was free, with this container, and stands on the volume of another slot, or on none.
pub record IsPut (states : States) (slots : Slots) (slot : ℕ) (x : VolumeState) (paged : Paged) (parent : Option ℕ) (new : States) (after : Slots) : Type 0 where
  pub long : length states ≡ slot_count
  pub inside : slot < slot_count
  pub free : state_at states slot ≡ None
  pub row : new ≡ with_state states slot (Some x)
  pub there : paged_at after slot ≡ Some paged
  pub containers : after ≡ with_parent (with_container slots slot (Some paged)) slot parent

-- The block of an entry of a volume is held.
pub entry_held : (disk : Disk) (pool : Pool) (s : ℕ) (z : VolumeState) → IsHeldIn disk pool s z → (v : ℕ) (e : Entry) → own_entry (container_at pool.containers s) v ≡ Some e → is_member pool.map.next e.pvbn ≡ true
entry_held disk pool s z held v e own = held.stands.told.1.own v e (ap (λ (n : ℕ). own_entry (container_at pool.containers n) v) held.slot ∙ own)

module _ {states : States} {slots : Slots} {slot : ℕ} {x : VolumeState} {paged : Paged} {parent : Option ℕ} {new : States} {after : Slots} (put : IsPut states slots slot x paged parent new after) where
  -- ---- the slots

  pub put_there : state_at new slot ≡ Some x
  put_there = ap (λ (xs : States). state_at xs slot) put.row ∙ get_or-set_same states slot (Some x) None (let low = put.inside in let long = put.long in omega (arith, low, long))

  pub others_stay : (s : ℕ) → s ≢ slot → state_at new s ≡ state_at states s
  others_stay s other = ap (λ (xs : States). state_at xs s) put.row ∙ get_or-set_other states slot s (Some x) None other

  -- a volume that was there lies in another slot
  pub is_other : (s : ℕ) (z : VolumeState) → state_at states s ≡ Some z → s ≢ slot
  is_other s z there same = none-some z (sym put.free ∙ ap (state_at states) (sym same) ∙ there)

  pub still_there : (s : ℕ) (z : VolumeState) → state_at states s ≡ Some z → state_at new s ≡ Some z
  still_there s z there = others_stay s (is_other s z there) ∙ there

  pub paged_elsewhere : (s : ℕ) → s ≢ slot → paged_at after s ≡ paged_at slots s
  paged_elsewhere s other = ap (λ (c : Slots). paged_at c s) put.containers ∙ get_or-set_other slots.containers slot s (Some paged) None other

  pub container_elsewhere : (s : ℕ) → s ≢ slot → container_at after s ≡ container_at slots s
  container_elsewhere s other = ap map_in (paged_elsewhere s other)

  pub parent_elsewhere : (s : ℕ) → s ≢ slot → parent_at after s ≡ parent_at slots s
  parent_elsewhere s other = ap (λ (c : Slots). parent_at c s) put.containers ∙ get_or-set_other slots.parents slot s parent None other

  -- What holds of each of the others in its slot, and of the new one, holds of each.
  pub each_put : (P : ℕ → VolumeState → Type 0) → P slot x → ((s : ℕ) (z : VolumeState) → state_at states s ≡ Some z → P s z) → (s : ℕ) → IfSome (state_at new s) (P s)
  each_put P its each s = ⊎_elim
      (λ (e : s ≡ slot). subst (λ (k : ℕ). IfSome (state_at new k) (P k)) (sym e) (subst (λ (o : Option VolumeState). IfSome o (P slot)) (sym put_there) its))
      (λ (other : s ≢ slot). subst (λ (o : Option VolumeState). IfSome o (P s)) (sym (others_stay s other)) (by s (state_at states s) refl))
      (cases_eq s slot)
    where
      by : (s : ℕ) (o : Option VolumeState) → state_at states s ≡ o → IfSome o (P s)
      by s None there = tt
      by s (Some z) there = each s z there

  -- ---- the volumes in order

  pub housed_put : AreHoused slots states → IsLabelled slot x → length paged.map.entries ≡ entry_count x.span → parent_at after slot ≡ parent_in (Some x) → AreHoused after new
  housed_put housed labelled entries parents = record {
    long = ap (λ (xs : States). length xs) put.row ∙ length-set states slot (Some x) ∙ housed.long;
    volumes = each_put IsLabelled labelled (λ s z there. subst (λ (o : Option VolumeState). IfSome o (IsLabelled s)) there (housed.volumes s));
    each = λ s. ⊎_elim
        (λ (e : s ≡ slot). subst (λ (k : ℕ). Houses (state_at new k) (container_at after k)) (sym e)
        (subst (λ (o : Option VolumeState). Houses o (container_at after slot)) (sym put_there)
        (subst (λ (c : Option Paged). Houses (Some x) (map_in c)) (sym put.there) entries)))
        (λ (other : s ≢ slot). subst (λ (o : Option VolumeState). Houses o (container_at after s)) (sym (others_stay s other))
        (subst (λ (c : Option Mapped). Houses (state_at states s) c) (sym (container_elsewhere s other)) (housed.each s)))
        (cases_eq s slot);
    parents = λ s. ⊎_elim
        (λ (e : s ≡ slot). ap (parent_at after) e ∙ parents ∙ sym (ap (λ (k : ℕ). parent_in (state_at new k)) e ∙ ap parent_in put_there))
        (λ (other : s ≢ slot). parent_elsewhere s other ∙ housed.parents s ∙ ap parent_in (sym (others_stay s other)))
        (cases_eq s slot);
  }

  -- All clones stand on what they stood on, and the new volume on one of them, or on none.
  pub footed_put : AreHoused slots states → AreFooted states slots → IfSome x.base (λ b. IsFooted states x b × IsOnBase after x) → AreFooted new after
  footed_put housed footed its = footed_added states new slot put.inside put.free x put_there others_stay slots footed after rest its
    where
      rest : (s : ℕ) (z : VolumeState) → s ≢ slot → state_at states s ≡ Some z → IsOnBase slots z → IsOnBase after z
      rest s z other there is =
          let at : z.slot ≡ s = (subst (λ (o : Option VolumeState). IfSome o (IsLabelled s)) there (housed.volumes s)).slot_is in
          let same : container_at after z.slot ≡ container_at slots z.slot = container_elsewhere z.slot (λ e. other (sym at ∙ e)) in
          record {
            leaves = λ v has_it. ap (λ (c : Option Mapped). own_entry c v) same ∙ is.leaves v has_it;
            rests = λ k v low has_it. subst (λ (c : Option Mapped). (is_some (own_entry c v) ≡ true) ⊎ (has v (slot_at z.map slot_of_base) ≡ true)) (sym same) (is.rests k v low has_it);
          }

  -- ---- names, and what all commit

  pub named_put : (name : List ℕ) → NoneHasName states name → x.name ≡ name → AreNamed states → AreNamed new
  named_put name none called named = from_pairs new (λ s k c d first second same. ⊎_elim
      (λ (e : s ≡ slot). ⊎_elim
      (λ (f : k ≡ slot). e ∙ sym f)
      (λ (differs : k ≢ slot). absurd (new_name k d (sym (others_stay k differs) ∙ second) (ap (λ (z : VolumeState). z.name) (the_new s c e first) ∙ same)))
      (cases_eq k slot))
      (λ (other : s ≢ slot). ⊎_elim
      (λ (f : k ≡ slot). absurd (new_name s c (sym (others_stay s other) ∙ first) (ap (λ (z : VolumeState). z.name) (the_new k d f second) ∙ sym same)))
      (λ (differs : k ≢ slot). to_pair states named s k c d (sym (others_stay s other) ∙ first) (sym (others_stay k differs) ∙ second) same)
      (cases_eq k slot))
      (cases_eq s slot))
    where
      new_name : (s : ℕ) (z : VolumeState) → state_at states s ≡ Some z → x.name ≡ z.name → ⊥
      new_name s z there same =
          let none_there : is_named (state_at states s) name ≡ false = none.none s (is_inside states s z put.long there) in
          let some : is_named (Some z) name ≡ true = ap (λ (n : List ℕ). is_same_name z.name n) (sym called ∙ same) ∙ itself z.name in
          true≢false (sym some ∙ ap (λ (o : Option VolumeState). is_named o name) (sym there) ∙ none_there)

      the_new : (s : ℕ) (c : VolumeState) → s ≡ slot → state_at new s ≡ Some c → x ≡ c
      the_new s c same there = same_Some x c (sym put_there ∙ ap (state_at new) (sym same) ∙ there)

  pub commits_put : (most : ℕ) → sum_of states + committed x.ledger ≤ most → sum_of new ≤ most
  commits_put most room =
      let low = put.inside in
      let long = put.long in
      let nothing : committed_by (state_at states slot) ≡ 0 = ap committed_by put.free in
      let sum = sum_with states slot (omega (arith, low, long)) (Some x) (sum_of states) (omega (arith, nothing)) in
      let whole : sum_of new ≡ sum_of (with_state states slot (Some x)) = ap (λ (xs : States). sum_of xs) put.row in
      omega (arith, sum, whole, room)

  -- ---- what is held

  pub clean_put : (reads : ℕ → List ℕ) → IsCleanOn reads paged → ((s : ℕ) → IfSome (paged_at slots s) (IsCleanOn reads)) → AreCleanOn reads after
  clean_put reads its each s = ⊎_elim
      (λ (e : s ≡ slot). subst (λ (k : ℕ). IfSome (paged_at after k) (IsCleanOn reads)) (sym e) (subst (λ (c : Option Paged). IfSome c (IsCleanOn reads)) (sym put.there) its))
      (λ (other : s ≢ slot). subst (λ (c : Option Paged). IfSome c (IsCleanOn reads)) (sym (paged_elsewhere s other)) (each s))
      (cases_eq s slot)

module _ {states : States} {slot : ℕ} {x : VolumeState} {paged : Paged} {parent : Option ℕ} {new : States} (disk later : Disk) (pool left : Pool) (put : IsPut states pool.containers slot x paged parent new left.containers)
    (cache : StandsOn later left.store.pairs) (sized : IsSize left.found.blocks) where
  -- A volume that stands for what it stood for is held as it was,
  pub held_still : (s : ℕ) (z : VolumeState) → state_at states s ≡ Some z → IsHeldIn disk pool s z → StaysBeside disk pool later left z → IsHeldIn later left s z
  held_still s z there was stays =
      let same : container_at left.containers z.slot ≡ container_at pool.containers z.slot = container_elsewhere put z.slot (λ e. is_other put s z there (sym was.slot ∙ e)) in
      record {
        slot = was.slot;
        ready = record {
          lent = record {
            within = was.ready.lent.within;
            stands = cache;
            few = was.ready.lent.few;
            entries = subst (λ (c : Option Mapped). z.map.span ≤ length (entries_in c)) (sym same) was.ready.lent.entries;
          };
          labelled = was.ready.labelled;
          booked = was.ready.booked;
          blocks = sized;
          changed = was.ready.changed;
          fresh = was.ready.fresh;
        };
        stands = stays.standing;
        led = stays.led was.led;
        well = stays.well was.well;
        wide = subst (λ (v : Volume). v.most + (set.len (base_ids v.base) + 256) ≤ v.span) (sym stays.volume) was.wide;
        within = was.within;
      }

  -- and calls can be made on the new one.
  pub ready_put : IsLabelled slot x → IsBooked x → x.changed ≡ true → length paged.map.entries ≡ entry_count x.span → IsReady later left x
  ready_put labelled booked changed entries =
      let at = labelled.slot_is in
      let span = labelled.map in
      record {
        lent = record {
          within = (let low = put.inside in omega (arith, low, at));
          stands = cache;
          few = (let most = labelled.span in omega (arith, most, span));
          entries = subst (λ (c : Option Paged). x.map.span ≤ length (entries_in (map_in c))) (sym (ap (paged_at left.containers) at ∙ put.there)) (omega (arith, entries, span));
        };
        labelled = subst (λ (n : ℕ). IsLabelled n x) (sym at) labelled;
        booked = booked;
        blocks = sized;
        changed = λ e. absurd (true≢false (sym changed ∙ e));
        fresh = λ e. absurd (true≢false (sym changed ∙ e));
      }
