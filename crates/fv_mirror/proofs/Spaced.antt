-- The blocks of a mirror that was made: its label and its nodes lie nowhere, and its copies lie apart from the blocks of all other volumes.
use Rattle.std.proofs.Common.{◌≡◌, ◌≢◌, ◌⊎◌, ◌<◌, ◌≤◌, ◌+◌, ℕ, Bool, true, false, ◌||◌, List, length, Option, Some, None, inl, inr, refl, sym, ap, subst, ◌∙◌, ⊎_elim, arith}
use Rattle.std.specs.Prelude.{IfSome}
use Rattle.std.proofs.lemmas.Bool.{both_ways, cases_eq, cases_lt}
use Rattle.std.proofs.lemmas.Bool.Decides.{nat_tests}
use Rattle.std.proofs.lemmas.List.{get_or_past}
use Rattle.std.proofs.lemmas.Option.{none-some, same_Some}
use Rattle.fv_disk.specs.Shown.{Shown as Disk}
use Rattle.fv_bits.specs.Members.{is_member}
use Rattle.fv_aggmap.specs.Space.{IsFree}
use Rattle.fv_container.specs.declared.entry.Entry.{Entry}
use Rattle.fv_container.specs.Chains.{container_at, map_in}
use Rattle.fv_container.specs.Leading.{place_in}
use Rattle.fv_container.specs.Mapped.{entry_under}
use Rattle.fv_container.specs.Paged.{Paged}
use Rattle.fv_container.specs.Spelled.{is_at, names}
use Rattle.fv_container.proofs.Leading.{any_in_range, range_has}
use Rattle.fv_container.proofs.Named.{at_none}
use Rattle.fv_image.specs.Reclaimed.{IsAllocatable}
use Rattle.fv_image.specs.Views.{entry_count}
use Rattle.fv_model.specs.declared.commands.Kind.{Kind}
use Rattle.fv_model.specs.Machines.{first_block}
use Rattle.fv_pool.specs.declared.pool.Pool.{Pool}
use Rattle.fv_copies.specs.Landings.{LeadsTo}
use Rattle.fv_volume.specs.declared.state.VolumeState.{VolumeState}
use Rattle.fv_volume.specs.States.{States, state_at}
use Rattle.fv_volume.specs.Stored.{has_block, is_of, leads, AreApartIn, AreSpacedIn}
use Rattle.fv_volumes.specs.Housed.{AreHoused}
use Rattle.fv_mirror.specs.declared.admitting.Admitted.{Admitted}
use Rattle.fv_mirror.specs.Making.{HasCopies, IsMirrored}
use Rattle.fv_volumes.proofs.Added.{container_elsewhere, others_stay, put_there, IsPut}
use Rattle.fv_mirror.proofs.Placed.{made, made_span, put}
use Rattle.fv_mirror.proofs.Source.{next_taken}

-- a block that an entry leads to
led_by : (b place : ℕ) → is_at b place ≡ true → place ≡ b
led_by b place is = grind (arith, nat_tests, is)

leads_by : (b place : ℕ) → place ≡ b → 1 ≤ b → is_at b place ≡ true
leads_by b place is some = grind (arith, nat_tests, is, some)

first_some : (blocks b : ℕ) → first_block blocks ≤ b → 1 ≤ b
first_some blocks b low = omega (arith, low)

-- ---- the container of a mirror

module _ (disk : Disk) (pool : Pool) (source : ℕ) (bits : List Bool) (container : Paged) (after : Disk) (left : Pool) (copies : HasCopies disk pool source bits container after left) where
  -- each entry leads to a block that was free, and is held now
  pub entry_free : (v : ℕ) (e : Entry) → entry_under container.map v ≡ Some e → IsFree pool.map e.pvbn × (is_member left.map.next e.pvbn ≡ true)
  entry_free v e at = by (is_member bits v) refl
    where
      by : (b : Bool) → is_member bits v ≡ b → IsFree pool.map e.pvbn × (is_member left.map.next e.pvbn ≡ true)
      by true member =
          let c = copies.copies v member in
          let same : c.entry ≡ e = same_Some c.entry e (sym c.here ∙ at) in
          subst (λ (z : Entry). IsFree pool.map z.pvbn × (is_member left.map.next z.pvbn ≡ true)) same (c.free, c.taken)
      by false member = absurd (none-some e (sym (copies.holes v member) ∙ at))

  pub entry_some : (v : ℕ) (e : Entry) → entry_under container.map v ≡ Some e → 1 ≤ e.pvbn
  entry_some v e at = let free = (entry_free v e at).0 in first_some (length pool.map.committed) e.pvbn free.after

  -- it leads to the blocks of its entries, and to no others
  pub lead_to : (entries b : ℕ) → leads container.map entries b ≡ true → LeadsTo container b
  unfolding leads
  lead_to entries b is =
      let k = any_in_range (λ v. is_at b (place_in (entry_under container.map v))) 0 entries is in
      by k.0 (entry_under container.map k.0) refl k.3
    where
      by : (v : ℕ) (o : Option Entry) → entry_under container.map v ≡ o → is_at b (place_in o) ≡ true → LeadsTo container b
      by v None at met = absurd (both_ways (is_at b 0) (at_none b) met)
      by v (Some e) at met = record { number = v; entry = e; there = at; place = led_by b e.pvbn met }

  pub lead_from : (entries b : ℕ) → length container.map.entries ≡ entries → LeadsTo container b → leads container.map entries b ≡ true
  unfolding leads
  lead_from entries b long is =
      range_has (λ v. is_at b (place_in (entry_under container.map v))) is.number 0 entries (omega arith) (inside (cases_lt is.number (length container.map.entries)))
      (ap (λ (o : Option Entry). is_at b (place_in o)) is.there ∙ leads_by b is.entry.pvbn is.place (let some = entry_some is.number is.entry is.there in let at = is.place in omega (arith, some, at)))
    where
      inside : (is.number < length container.map.entries) ⊎ (length container.map.entries ≤ is.number) → is.number < 0 + entries
      inside (inl low) = omega (arith, low, long)
      inside (inr past) = absurd (none-some is.entry (sym (get_or_past container.map.entries is.number None past) ∙ is.there))

  lead_none : (entries : ℕ) → leads container.map entries 0 ≡ false
  lead_none entries = by (leads container.map entries 0) refl
    where
      by : (t : Bool) → leads container.map entries 0 ≡ t → t ≡ false
      by false is = refl
      by true is =
          let at = lead_to entries 0 is in
          let some = entry_some at.number at.entry at.there in
          let place = at.place in
          absurd (omega (arith, some, place))

  module _ (nowhere : (b : ℕ) → names container.map.tree b ≡ false) (x : VolumeState) (none : x.label ≡ 0) where
    -- So these are all blocks of the mirror,
    pub of_mirror : (b : ℕ) → is_of x x.label container.map b ≡ leads container.map (entry_count x.span) b
    of_mirror b = (λ i. is_at b (none i) || (nowhere b i || leads container.map (entry_count x.span) b)) ∙ (λ i. at_none b i || (false || leads container.map (entry_count x.span) b))

    -- and they lie apart.
    pub mirror_apart : AreApartIn x container.map
    mirror_apart = record {
      some = λ v. each v (entry_under container.map v) refl;
      entries = λ v w lt within some same. differ v w lt (entry_under container.map v) refl (entry_under container.map w) refl some same;
      nodes = λ b named. absurd (both_ways (names container.map.tree b) (nowhere b) named);
      label = ap (λ (b : ℕ). leads container.map (entry_count x.span) b) none ∙ lead_none (entry_count x.span);
    }
      where
        each : (v : ℕ) (o : Option Entry) → entry_under container.map v ≡ o → IfSome o (λ e. 1 ≤ e.pvbn)
        each v None at = tt
        each v (Some e) at = entry_some v e at

        differ : (v w : ℕ) → v < w → (o : Option Entry) → entry_under container.map v ≡ o → (p : Option Entry) → entry_under container.map w ≡ p → place_in o ≢ 0 → place_in o ≡ place_in p → ⊥
        differ v w lt None at p there some same = some refl
        differ v w lt (Some e) at None there some same = some same
        differ v w lt (Some e) at (Some f) there some same = copies.apart v w (λ eq. absurd (omega (arith, lt, eq))) e f at there (sym same)

-- ---- among the volumes of a session

module _ (disk : Disk) (pool : Pool) (states : States) (name : List ℕ) (size : ℕ) (kind : Kind) (a : Admitted) (after : Disk) (new : States) (left : Pool) (mirrored : IsMirrored disk states pool name size kind a after new left) (housed : AreHoused pool.containers states)
    (bits : List Bool) (copies : HasCopies disk pool a.source.parent bits mirrored.container after left) (spaced : AreSpacedIn pool.found.blocks pool.map.next (state_at states) (container_at pool.containers)) (sized : length pool.map.committed ≡ pool.found.blocks) where
  abbrev x : VolumeState
  x = made disk pool states name size kind a after new left mirrored housed

  abbrev its : IsPut states pool.containers a.slot x mirrored.container None new left.containers
  its = put disk pool states name size kind a after new left mirrored housed

  long : length mirrored.container.map.entries ≡ entry_count x.span
  long = mirrored.long ∙ ap entry_count (sym (made_span disk pool states name size kind a after new left mirrored housed))

  has_new : (b : ℕ) → has_block (state_at new a.slot) (container_at left.containers a.slot) b ≡ leads mirrored.container.map (entry_count x.span) b
  has_new b =
      (λ i. has_block (put_there its i) (map_in (mirrored.there i)) b)
      ∙ of_mirror disk pool a.source.parent bits mirrored.container after left copies mirrored.nowhere x mirrored.is.label b

  has_old : (s b : ℕ) → s ≢ a.slot → has_block (state_at new s) (container_at left.containers s) b ≡ has_block (state_at states s) (container_at pool.containers s) b
  has_old s b other = λ i. has_block (others_stay its s other i) (container_elsewhere its s other i) b

  new_leads : (s b : ℕ) → s ≡ a.slot → has_block (state_at new s) (container_at left.containers s) b ≡ true → LeadsTo mirrored.container b
  new_leads s b same has_it = lead_to disk pool a.source.parent bits mirrored.container after left copies (entry_count x.span) b
      (sym (has_new b) ∙ ap (λ (k : ℕ). has_block (state_at new k) (container_at left.containers k) b) (sym same) ∙ has_it)

  -- a block of the mirror was free
  new_free : (b : ℕ) → LeadsTo mirrored.container b → IsFree pool.map b × (is_member left.map.next b ≡ true)
  new_free b is = subst (λ (n : ℕ). IsFree pool.map n × (is_member left.map.next n ≡ true)) is.place (entry_free disk pool a.source.parent bits mirrored.container after left copies is.number is.entry is.there)

  -- so no other volume has it
  not_both : (s b : ℕ) → s < 64 → LeadsTo mirrored.container b → has_block (state_at states s) (container_at pool.containers s) b ≡ true → ⊥
  not_both s b low is has_it = next_taken pool.map b (spaced.held s b low has_it).0 (new_free b is).0

  was_other : (s b : ℕ) → has_block (state_at states s) (container_at pool.containers s) b ≡ true → s ≢ a.slot
  was_other s b has_it same =
      both_ways _ (ap (λ (k : ℕ). has_block (state_at states k) (container_at pool.containers k) b) same ∙ ap (λ (o : Option VolumeState). has_block o (container_at pool.containers a.slot) b) mirrored.admits.free.free) has_it

  pub spaced_now : AreSpacedIn pool.found.blocks left.map.next (state_at new) (container_at left.containers)
  spaced_now = record {
    apart = λ s k b small large other here there. ⊎_elim
        (λ (e : s ≡ a.slot). not_both k b large (new_leads s b e here) (sym (has_old k b (λ f. other (e ∙ sym f))) ∙ there))
        (λ (first : s ≢ a.slot). ⊎_elim
        (λ (f : k ≡ a.slot). not_both s b small (new_leads k b f there) (sym (has_old s b first) ∙ here))
        (λ (second : k ≢ a.slot). spaced.apart s k b small large other (sym (has_old s b first) ∙ here) (sym (has_old k b second) ∙ there))
        (cases_eq k a.slot))
        (cases_eq s a.slot);
    held = λ s b small has_it. ⊎_elim
        (λ (e : s ≡ a.slot).
        let free = new_free b (new_leads s b e has_it) in
        (free.1, subst (λ (n : ℕ). IsAllocatable n b) sized (free.0.after, free.0.within)))
        (λ (other : s ≢ a.slot).
        let was = spaced.held s b small (sym (has_old s b other) ∙ has_it) in
        (copies.stay b was.0, was.1))
        (cases_eq s a.slot);
    set = λ b set. ⊎_elim
        (λ (was : is_member pool.map.next b ≡ true). let s = spaced.set b was in (s.0, s.1, has_old s.0 b (was_other s.0 b s.2) ∙ s.2))
        (λ (is : LeadsTo mirrored.container b).
        (a.slot, mirrored.admits.free.within, has_new b ∙ lead_from disk pool a.source.parent bits mirrored.container after left copies (entry_count x.span) b long is))
        (copies.come b set);
  }
