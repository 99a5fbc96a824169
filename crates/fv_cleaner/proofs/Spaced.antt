-- Where a block of a volume was cleaned the volumes of a session are spaced as before, and each slot stands beside what the root on the disk names.
use Rattle.std.proofs.Common.{◌≡◌, ◌≢◌, ◌<◌, ℕ, zero, suc, Bool, true, false, true≢false, not, ◌&&◌, ◌||◌, List, [], length, Option, Some, None, inl, inr, refl, sym, ap, subst, ◌∙◌, ⊎_elim, arith, get_or-set_same, get_or-set_other}
use Rattle.std.specs.Prelude.{IfSome, cond, is_some, nat_le}
use Rattle.std.proofs.lemmas.Bool.{both_ways, cases_eq}
use Rattle.std.proofs.lemmas.Option.{same_Some}
use Rattle.fv_disk.specs.Shown.{Image, Shown as Disk}
use Rattle.fv_disk.specs.DiskCalls.{OnlyReads}
use Rattle.fv_bits.specs.Members.{is_member}
use Rattle.fv_aggmap.specs.Space.{blocks_of}
use Rattle.fv_container.specs.declared.entry.Entry.{Entry}
use Rattle.fv_container.specs.Clean.{IsCleanOn}
use Rattle.fv_container.specs.Mapped.{Mapped}
use Rattle.fv_container.specs.Paged.{Paged}
use Rattle.fv_container.specs.Spelled.{names}
use Rattle.fv_container.specs.Chains.{AreCleanOn, TellsEntries, chain_entry, container_at, map_in, own_entry, paged_at, slot_count}
use Rattle.fv_image.specs.Reclaimed.{IsAllocatable}
use Rattle.fv_image.specs.Views.{entry_count, map_vvbn}
use Rattle.fv_root.specs.declared.find.Found.{Found}
use Rattle.fv_volmap.specs.Slots.{Volume as Maps, has, slot_at}
use Rattle.fv_pool.specs.declared.pool.Pool.{Pool}
use Rattle.fv_pool.specs.BlocksOver.{AreApart, entries_in, held_entry, tree_in}
use Rattle.fv_pool.specs.Lending.{GoesOver, IsOwn, MayTake, lent_by, lent_for, no_damage}
use Rattle.fv_volume.specs.declared.state.VolumeState.{VolumeState}
use Rattle.fv_volume.specs.Held.{IsHeldIn}
use Rattle.fv_volume.specs.Loading.{Houses}
use Rattle.fv_volume.specs.OneVolume.{home_in}
use Rattle.fv_volume.specs.States.{States, state_at, with_state}
use Rattle.fv_volume.specs.Stored.{AreApartIn, AreSpacedIn, has_block, is_of}
use Rattle.fv_volumes.specs.UnderRoot.{IsLentAt, IsLentSlot, StandMaps}
use Rattle.fv_volumes.proofs.LentSlots.{lent_again, lent_slot}
use Rattle.fv_volumes.proofs.Owned.{apart_now, bits, from_free, lies_well, own_at}
use Rattle.fv_volumes.proofs.Spacing.{spaced_next}
use Rattle.fv_cleaner.specs.Staying.{MayBeCleaned}
use Rattle.fv_cleaner.specs.Stepping.{CleansBlock}
use Rattle.fv_cleaner.proofs.Beside.{cleared, committed_same, kept_other, next_new, next_other}
use Rattle.fv_cleaner.proofs.Lowers.{moved}

-- a slot with a container
pub some_paged : (c : Option Paged) → is_some (map_in c) ≡ true → (paged : Paged) × (c ≡ Some paged)
some_paged None isnt = absurd cc
some_paged (Some paged) there = (paged, refl)

pub housed_some : (x : VolumeState) (c : Option Mapped) → Houses (Some x) c → (is_some c ≡ true) × (length (entries_in c) ≡ entry_count x.span)
housed_some x None was = absurd was
housed_some x (Some m) was = (refl, was)

module _ (disk after : Disk) (pool left : Pool) (states : States) (x y : VolumeState) (may : MayBeCleaned disk pool states x.slot x) (cleans : CleansBlock disk pool x left y) (reads : OnlyReads disk after) where
  abbrev s : ℕ
  s = x.slot

  abbrev v : ℕ
  v = cleans.vvbn

  mine : IsHeldIn disk pool s x
  mine = subst (λ (o : Option VolumeState). IfSome o (IsHeldIn disk pool s)) may.there (may.each s)

  tells : TellsEntries disk pool.containers
  tells = (mine.stands.told.0, mine.stands.told.2)

  -- maps of which no slot has a number: of blocks alone no map tells
  abbrev bare : Maps
  bare = record { span = x.map.span; slots = [] }

  none_in : (k w : ℕ) → has w (slot_at bare k) ≡ false
  none_in zero w = refl
  none_in (suc k) w = refl

  apart_left : AreApart left x.map s
  apart_left = (moved disk pool x left y cleans tells mine.stands.told.1).apart tells mine.stands.told.1

  back : (e : Entry) → own_entry (container_at pool.containers s) v ≡ Some e → is_member pool.map.next e.pvbn ≡ true
  back e own = mine.stands.told.1.own v e own

  told : AreApart left bare s
  unfolding held_entry
  told = record {
    own = apart_left.own;
    held = λ w e held. absurd (no_entry w e held);
    own_apart = apart_left.own_apart;
    held_apart = λ a w other e own f held. absurd (no_entry w f held);
  }
    where
      no_entry : (w : ℕ) (e : Entry) → held_entry bare left.containers s w ≡ Some e → ⊥
      no_entry w e held = by (nat_le w 1048575) held
        where
          by : (a : Bool) → cond (a && false) (chain_entry left.containers s w) None ≡ Some e → ⊥
          by true f = cc
          by false f = cc

  may_take : MayTake (TellsEntries disk pool.containers) pool.map pool.containers s cleans.moves.place
  may_take = record {
    lies = (cleans.moves.takes.free.after, cleans.moves.takes.free.within);
    spare = neither (is_member pool.map.committed cleans.moves.place) (is_member pool.map.next cleans.moves.place) cleans.moves.takes.free.free;
    free = λ t. inl cleans.moves.takes.free.free;
  }
    where
      neither : (a b : Bool) → (a || b) ≡ false → a ≡ false
      neither true b e = absurd cc
      neither false b e = refl

  -- What was done to the blocks is what calls over these do.
  over : GoesOver (lent_for pool bare disk 0 (home_in x) 0) (lent_by left bare after 0 (home_in x) 0 0 no_damage)
  over = record {
    home = refl;
    found = cleans.moves.found;
    version = cleans.moves.version;
    room = omega arith;
    spends = λ some. absurd (omega (arith, some));
    steps = omega arith;
    only_reads = reads;
    noted = inl refl;
    committed = committed_same disk pool left s v cleans.kind cleans.block cleans.moves tells;
    loses = λ t b had gone. loses b had gone (own_entry (container_at pool.containers s) v) refl;
    gains = λ t b has_it. ⊎_elim
        (λ (same : b ≡ cleans.moves.place). inl (record { vvbn = v; entry = record { pvbn = cleans.moves.place; kind = cleans.kind }; stands = cleans.moves.entry.here; leads = sym same }))
        (λ (other : b ≢ cleans.moves.place). inr (still b other has_it (own_entry (container_at pool.containers s) v) refl, λ own. goes_on b has_it own))
        (cases_eq b cleans.moves.place);
    entries = λ w. ⊎_elim
        (λ (same : w ≡ v). inr (record { entry = record { pvbn = cleans.moves.place; kind = cleans.kind }; stands = ap (own_entry (container_at left.containers s)) same ∙ cleans.moves.entry.here; takes = may_take }))
        (λ (other : w ≢ v). inl (cleans.moves.entry.rest w other))
        (cases_eq w v);
    beyond = λ w past. cleans.moves.entry.rest w (λ same. let low = cleans.within in omega (arith, low, past, same));
    kept = λ b. ⊎_elim
        (λ (same : b ≡ cleans.moves.place). inr (subst (λ (k : ℕ). MayTake (TellsEntries disk pool.containers) pool.map pool.containers s k) (sym same) may_take))
        (λ (other : b ≢ cleans.moves.place). inl (kept_other disk pool left s v cleans.kind cleans.block cleans.moves tells b other))
        (cases_eq b cleans.moves.place);
    shape = cleans.moves.entry.shape;
    others = cleans.moves.entry.others;
    parents = cleans.moves.entry.parents;
    span = refl;
    snapshots = λ k other. refl;
    clean = λ t. subst (λ (i : Image). AreCleanOn i left.containers) (sym reads.stays.reads) (cleans.moves.entry.clean t);
    keeps = λ t apart. record {
      apart = told;
      entries = λ k w other had. absurd (both_ways (has w (slot_at bare k)) (none_in k w) had);
      blocks = λ k w other had. absurd (both_ways (has w (slot_at bare k)) (none_in k w) had);
    };
    own_kept = λ k w other had. absurd (both_ways (has w (slot_at bare k)) (none_in k w) had);
    own_new = λ w had. inl had;
  }
    where
      loses : (b : ℕ) → is_member pool.map.next b ≡ true → is_member left.map.next b ≡ false → (o : Option Entry) → own_entry (container_at pool.containers s) v ≡ o → IsOwn pool.containers s b
      loses b had gone o own = ⊎_elim
          (λ (same : b ≡ cleans.moves.place). absurd (both_ways (is_member left.map.next b) gone (ap (is_member left.map.next) same ∙ next_new disk pool left s v cleans.kind cleans.block cleans.moves tells back)))
          (λ (other : b ≢ cleans.moves.place). by o own other)
          (cases_eq b cleans.moves.place)
        where
          by : (o : Option Entry) → own_entry (container_at pool.containers s) v ≡ o → b ≢ cleans.moves.place → IsOwn pool.containers s b
          by None own other = absurd (both_ways (is_member left.map.next b) gone (next_other disk pool left s v cleans.kind cleans.block cleans.moves tells b other (λ e is. absurd (none_is e (sym own ∙ is))) ∙ had))
            where
              none_is : (e : Entry) → ◌≡◌ {A = Option Entry} None (Some e) → ⊥
              none_is e f = cc
          by (Some e) own other = ⊎_elim
              (λ (same : b ≡ e.pvbn). record { vvbn = v; entry = e; stands = own; leads = sym same })
              (λ (differ : b ≢ e.pvbn). absurd (both_ways (is_member left.map.next b) gone (next_other disk pool left s v cleans.kind cleans.block cleans.moves tells b other (λ f is same. differ (same ∙ sym (ap (λ (z : Entry). z.pvbn) (same_Some e f (sym own ∙ is))))) ∙ had)))
              (cases_eq b e.pvbn)

      still : (b : ℕ) → b ≢ cleans.moves.place → is_member left.map.next b ≡ true → (o : Option Entry) → own_entry (container_at pool.containers s) v ≡ o → is_member pool.map.next b ≡ true
      still b other has_it None own = sym (next_other disk pool left s v cleans.kind cleans.block cleans.moves tells b other (λ e is. absurd (none_is e (sym own ∙ is)))) ∙ has_it
        where
          none_is : (e : Entry) → ◌≡◌ {A = Option Entry} None (Some e) → ⊥
          none_is e f = cc
      still b other has_it (Some e) own = ⊎_elim
          (λ (same : b ≡ e.pvbn). ap (is_member pool.map.next) same ∙ back e own)
          (λ (differ : b ≢ e.pvbn). sym (next_other disk pool left s v cleans.kind cleans.block cleans.moves tells b other (λ f is same. differ (same ∙ sym (ap (λ (z : Entry). z.pvbn) (same_Some e f (sym own ∙ is)))))) ∙ has_it)
          (cases_eq b e.pvbn)

      goes_on : (b : ℕ) → is_member left.map.next b ≡ true → IsOwn pool.containers s b → IsOwn left.containers s b
      goes_on b has_it own = ⊎_elim
          (λ (same : own.vvbn ≡ v).
          let gone = cleared disk pool left s v cleans.kind cleans.block cleans.moves tells own.entry (ap (own_entry (container_at pool.containers s)) (sym same) ∙ own.stands) in
          absurd (both_ways (is_member left.map.next b) (ap (is_member left.map.next) (sym own.leads) ∙ gone) has_it))
          (λ (other : own.vvbn ≢ v). record { vvbn = own.vvbn; entry = own.entry; stands = cleans.moves.entry.rest own.vvbn other ∙ own.stands; leads = own.leads })
          (cases_eq own.vvbn v)

  module _ (size : blocks_of pool.map ≡ pool.found.blocks) (slots : (k : ℕ) → k < slot_count → IsLentAt disk.reads pool.found k (state_at states k) (paged_at pool.containers k))
      (spaced : AreSpacedIn pool.found.blocks pool.map.next (state_at states) (container_at pool.containers)) where
    inside : s < 64
    inside = mine.ready.lent.within

    abbrev stay : States
    stay = with_state states s (Some y)

    here : state_at stay s ≡ Some y
    here = get_or-set_same states s (Some y) None (let long = may.housed.long in omega (arith, inside, long))

    other_state : (k : ℕ) → k ≢ s → state_at stay k ≡ state_at states k
    other_state k differ = get_or-set_other states s k (Some y) None differ

    houses : (is_some (container_at pool.containers s) ≡ true) × (length (entries_in (container_at pool.containers s)) ≡ entry_count x.span)
    houses = housed_some x (container_at pool.containers s) (subst (λ (o : Option VolumeState). Houses o (container_at pool.containers s)) may.there (may.housed.each s))

    was : (paged : Paged) × (paged_at pool.containers s ≡ Some paged)
    was = some_paged (paged_at pool.containers s) houses.0

    is : (paged : Paged) × (paged_at left.containers s ≡ Some paged)
    is = some_paged (paged_at left.containers s) (cleans.moves.entry.shape.there ∙ houses.0)

    abbrev was_map : Mapped
    was_map = was.0.map

    abbrev is_map : Mapped
    is_map = is.0.map

    was_lies : container_at pool.containers s ≡ Some was_map
    was_lies = ap map_in was.1

    is_lies : container_at left.containers s ≡ Some is_map
    is_lies = ap map_in is.1

    long : length was_map.entries ≡ entry_count x.span
    long = ap (λ (c : Option Mapped). length (entries_in c)) (sym was_lies) ∙ houses.1

    lent : IsLentSlot disk.reads pool.found s x was.0
    lent = lent_slot disk.reads pool.found s (state_at states s) (paged_at pool.containers s) x was.0 may.there was.1 (slots s inside)

    -- the volume with those maps
    abbrev b_x : VolumeState
    b_x = record x { map = bare }

    was_apart : AreApartIn b_x was_map
    was_apart = record { some = lent.apart.some; entries = lent.apart.entries; nodes = lent.apart.nodes; label = lent.apart.label }

    has_was : (b : ℕ) → has_block (state_at states s) (container_at pool.containers s) b ≡ is_of x x.label was_map b
    has_was b = λ k. has_block (may.there k) (was_lies k) b

    has_now : (b : ℕ) → has_block (state_at stay s) (container_at left.containers s) b ≡ is_of x x.label is_map b
    has_now b = (λ k. has_block (here k) (is_lies k) b) ∙ ap (λ (z : VolumeState). is_of z z.label is_map b) cleans.state

    of_held : (b : ℕ) → is_of b_x b_x.label was_map b ≡ true → (is_member pool.map.next b ≡ true) × IsAllocatable pool.found.blocks b
    of_held b of = spaced.held s b inside (has_was b ∙ of)

    pub spaced_now : AreSpacedIn left.found.blocks left.map.next (state_at stay) (container_at left.containers)
    spaced_now = subst (λ (f : Found). AreSpacedIn f.blocks left.map.next (state_at stay) (container_at left.containers)) (sym cleans.moves.found)
        (spaced_next pool.found.blocks pool.map.next left.map.next (state_at states) (state_at stay) (container_at pool.containers) (container_at left.containers) s inside spaced
        (λ k b differ. (λ j. has_block (other_state k differ j) (cleans.moves.entry.others k differ j) b))
        (λ b. bits disk after pool left b_x x.active bare x.files true 0 0 0 0 no_damage over was_map is_map was_lies is_lies long was_apart pool.found.blocks size of_held told tells b
        ∙ (λ j. sym (has_now b) j || (is_member pool.map.next b && not (sym (has_was b) j))))
        (λ b of. ⊎_elim (λ own. inl (has_was b ∙ own)) (λ clear. inr clear)
        (from_free disk after pool left b_x x.active bare x.files true 0 0 0 0 no_damage over was_map is_map was_lies is_lies long was_apart pool.found.blocks size of_held told tells b (sym (has_now b) ∙ of)))
        (λ b of. lies_well disk after pool left b_x x.active bare x.files true 0 0 0 0 no_damage over was_map is_map was_lies is_lies long was_apart pool.found.blocks size of_held told tells b (sym (has_now b) ∙ of)))

    -- ---- beside what the root on the disk names

    clean_now : AreCleanOn disk.reads left.containers
    clean_now = cleans.moves.entry.clean tells

    tree_now : is_map.tree ≡ was_map.tree
    tree_now = ap tree_in (sym is_lies) ∙ cleans.moves.entry.shape.tree ∙ ap tree_in was_lies

    now_apart : AreApartIn y is_map
    now_apart = subst (λ (z : VolumeState). AreApartIn z is_map) (sym cleans.state) (let a = apart_now disk after pool left b_x x.active bare x.files true 0 0 0 0 no_damage over was_map is_map was_lies is_lies long was_apart pool.found.blocks size of_held told tells in
        record { some = a.some; entries = a.entries; nodes = a.nodes; label = a.label })

    maps_now : StandMaps disk.reads pool.found (record x { changed = true }) is_map
    maps_now k j stored low =
        let m = lent.maps k j stored low in
        let behind : map_vvbn x.span k j ≢ v = λ same. (let span = mine.ready.labelled.map in let within = cleans.within in omega (arith, same, span, within)) in
        record {
          place = m.place;
          some = m.some;
          there = sym (own_at left.containers s is_map is_lies (map_vvbn x.span k j)) ∙ cleans.moves.entry.rest (map_vvbn x.span k j) behind ∙ own_at pool.containers s was_map was_lies (map_vvbn x.span k j) ∙ m.there;
          held = m.held;
          bits = m.bits;
        }

    slot_here : IsLentAt disk.reads pool.found s (state_at stay s) (paged_at left.containers s)
    slot_here = subst (λ (o : Option VolumeState). IsLentAt disk.reads pool.found s o (paged_at left.containers s)) (sym here) (subst (λ (c : Option Paged). IsLentAt disk.reads pool.found s (Some y) c) (sym is.1) (record {
      label = λ some. let same = ap (λ (z : VolumeState). z.label) cleans.state in same ∙ lent.label (λ none. some (same ∙ none));
      nodes = λ b node. lent.nodes b (subst (λ (t : List ℕ). names t b ≡ true) tree_now node);
      clean = subst (λ (c : Option Paged). IfSome c (IsCleanOn disk.reads)) is.1 (clean_now s);
      apart = now_apart;
      maps = subst (λ (z : VolumeState). StandMaps disk.reads pool.found z is_map) (sym cleans.state) maps_now;
      unchanged = λ e. absurd (true≢false (sym (ap (λ (z : VolumeState). z.changed) cleans.state) ∙ e));
    }))

    pub slots_now : (k : ℕ) → k < 64 → IsLentAt after.reads left.found k (state_at stay k) (paged_at left.containers k)
    slots_now k low = subst (λ (i : Image). IsLentAt i left.found k (state_at stay k) (paged_at left.containers k)) (sym reads.stays.reads) (subst (λ (f : Found). IsLentAt disk.reads f k (state_at stay k) (paged_at left.containers k)) (sym cleans.moves.found)
        (⊎_elim
        (λ (e : k ≡ s). subst (λ (n : ℕ). IsLentAt disk.reads pool.found n (state_at stay n) (paged_at left.containers n)) (sym e) slot_here)
        (λ (differ : k ≢ s). subst (λ (o : Option VolumeState). IsLentAt disk.reads pool.found k o (paged_at left.containers k)) (sym (other_state k differ))
        (lent_again disk.reads pool.found k (state_at states k) (paged_at pool.containers k) (paged_at left.containers k) (cleans.moves.entry.others k differ) (clean_now k) (slots k low)))
        (cases_eq k s)))
