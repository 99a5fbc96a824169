-- What loading a block, placing one and giving one up show to a tree.
use Rattle.std.proofs.Common.{rules, Result, ◌≤◌, ◌+◌, ◌≡◌, ◌≢◌, ℕ, false, true, cond, List, Option, Some, None, Ok, Err, slice_set, refl, sym, ap, subst, ◌∙◌, ⊎_elim, arith}
use Rattle.std.specs.Prelude.{IsTrue}
use Rattle.std.specs.Coded.{Coded-set, coded_list, coded_option, coded_ℕ}
use Rattle.std.proofs.Math.Logic.{∥∥₁_elim, ∥∥₁_map}
use Rattle.fv_disk.specs.Shown.{Rose, Shown as Disk}
use Rattle.fv_disk.specs.DiskCalls.{OnlyReads}
use Rattle.fv_disk.specs.Faults.{HasBlockCause}
use Rattle.fv_disk.specs.declared.fault.BlockFault.{BlockFault}
use Rattle.fv_disk.specs.declared.fault.BlockFault.TheVariants.{DiskFault, Damaged, Memory}
use Rattle.fv_bits.specs.Members.{is_member}
use Rattle.fv_aggmap.specs.Space.{free_blocks}
use Rattle.fv_image.specs.Layout.{root_place}
use Rattle.fv_codec.specs.Blocks.{last_place}
use Rattle.fv_codec.specs.declared.pointer.Pointer.{Pointer}
use Rattle.fv_container.specs.declared.entry.Entry.{Entry}
use Rattle.fv_container.specs.Chains.{AreCleanOn, Slots}
use Rattle.fv_container.proofs.Damage.{none_damaged}
use Rattle.fv_volmap.specs.Slots.{IsVolume, Volume, active_of, with_slot}
use Rattle.fv_tree.specs.declared.blocks.Placed.{Placed}
use Rattle.fv_tree.specs.Sources.{Counts, Drops, HasCause, IsDamaged, IsUntouched, Loads, Places, Shown}
use Rattle.fv_pool.specs.declared.blocks.Home.{Home}
use Rattle.fv_pool.specs.declared.noted.Noted.{Noted}
use Rattle.fv_pool.specs.declared.pool.Pool.{Pool}
use Rattle.fv_pool.specs.BlocksOver.{AreApart, HoldsMore, IsLooseFault, LacksPlace, LeavesPool, LoadsPool, PlacesBlock, TellsEntries, block_of, free_numbers, held_block, held_entry, place_read, steps_by, IsRightPlace}
use Rattle.fv_pool.specs.Lending.{Lent, Notes, blocks_held, lent_by, place_or_none, shown_over, use_of}
use Rattle.fv_pool.specs.Putting.{trusting}
use Rattle.fv_pool.proofs.Failing.{still_shown}
use Rattle.fv_pool.proofs.Going.{room_lacks}
use Rattle.fv_pool.proofs.Holding.{held_kept}
use Rattle.fv_pool.proofs.Shows.{get_held, held_gone, held_more, held_same_map, loose_none, not_active, unused_member, use_gone, use_none, use_placed, used_member}

block_prop : {a b : Option (List ℕ)} → IsProp (a ≡ b)
block_prop = Coded-set (coded_option (coded_list coded_ℕ)) _ _

number_prop : {a b : ℕ} → IsProp (a ≡ b)
number_prop = Coded-set coded_ℕ _ _

-- entries are told where the containers are clean on the disk
entries_told : {told : Type 0} (lent : Lent) → (told → IsTrue lent.disk.tells) → (told → ∥ AreCleanOn lent.disk.reads lent.pool.containers ∥₁) → told → ∥ TellsEntries lent.disk lent.pool.containers ∥₁
entries_told lent tells clean is = ∥∥₁_map (clean is) (λ was. (tells is, was))

module _ (lent : Lent) (pool : Pool) (disk : Disk) (steps : ℕ) (told : Type 0) (tells : told → IsTrue lent.disk.tells) (clean : told → ∥ AreCleanOn lent.disk.reads lent.pool.containers ∥₁) (leaves : LeavesPool lent.pool pool) (reads : OnlyReads lent.disk disk)
    (pointer : Pointer) (block : List ℕ) where
  abbrev left : Noted → Shown
  left noted = shown_over (lent_by pool lent.map disk steps lent.home lent.room lent.strays noted)

  abbrev entry : Option Entry
  entry = held_entry lent.map lent.pool.containers lent.home.slot pointer.vvbn

  abbrev Told : Type 0
  Told = TellsEntries lent.disk lent.pool.containers

  pub loaded_shown : (pvbn : ℕ) → (Told → IsRightPlace entry pointer.pvbn → held_block lent.map lent.pool lent.home.slot lent.disk.reads pointer.vvbn ≡ Some block) → (Told → place_read entry pointer.pvbn ≡ Some pvbn) → pvbn ≤ last_place
      → steps ≡ lent.steps + steps_by pointer.pvbn → Counts {T = ℕ} {E = BlockFault} (shown_over lent) (left lent.noted) (Ok pvbn) → Loads told (shown_over lent) pointer (left lent.noted) block (Ok pvbn)
  loaded_shown pvbn gives place range spent counts = record {
    untouched = still_shown lent.map lent.pool pool lent.disk disk lent.steps steps lent.home lent.room lent.strays lent.noted lent.noted leaves reads;
    gives = λ is right. ∥∥₁_elim (entries_told lent tells clean is) block_prop (λ entries. get_held lent.map lent.pool lent.home.slot lent.disk.reads pointer.vvbn ∙ gives entries right);
    answers = λ is. ∥∥₁_elim (entries_told lent tells clean is) number_prop (λ entries.
        sym (ap place_or_none (place entries)) ∙ ap (λ (s : Slots). place_or_none (place_read (held_entry lent.map s lent.home.slot pointer.vvbn) pointer.pvbn)) (sym leaves.containers));
    range = range;
    spent = spent;
    counts = counts;
    cause = tt;
    loose = λ _. tt;
  }

  pub failed_shown : (now : Noted) (e fault : BlockFault) → e ≡ fault → IsLooseFault lent.disk lent.pool.containers entry lent.home.label fault → Counts {T = ℕ} (shown_over lent) (left now) (Err e) → HasCause (shown_over lent) (left now) e
      → Loads told (shown_over lent) pointer (left now) block (Err e)
  failed_shown now e fault same loose counts cause = record {
    untouched = still_shown lent.map lent.pool pool lent.disk disk lent.steps steps lent.home lent.room lent.strays lent.noted now leaves reads;
    gives = λ _ _. tt;
    answers = λ _. tt;
    range = tt;
    spent = tt;
    counts = counts;
    cause = cause;
    loose = λ is damaged. ∥∥₁_elim (entries_told lent tells clean is) block_prop (λ entries.
        get_held lent.map lent.pool lent.home.slot lent.disk.reads pointer.vvbn
        ∙ ap (block_of lent.pool.kept lent.disk.reads) (loose_none lent.disk lent.pool.containers entry lent.home.label fault entries loose (subst IsDamaged same damaged)));
  }

module _ (pool new : Pool) (map after : Volume) (disk later : Disk) (steps : ℕ) (home : Home) (room less strays : ℕ) (noted : Noted) (told : Type 0) (apart : told → AreApart pool map home.slot)
    (kind : ℕ) (block : List ℕ) (placed : Placed) (valid : IsVolume map) (places : PlacesBlock disk pool map home.slot kind block new after placed) (holds : HoldsMore disk pool map home.slot kind block new after placed)
    (within : placed.vvbn ≤ last_place) (fewer : room ≤ less + 1) (reads : OnlyReads disk later) (calm : later.faults ≡ disk.faults) where
  pub placed_shown : Places told (shown_over (lent_by pool map disk steps home room strays noted)) kind block (shown_over (lent_by new after later steps home less strays noted)) (Ok placed)
  placed_shown = record {
    fresh = get_held map pool home.slot disk.reads placed.vvbn ∙ ap (block_of pool.kept disk.reads) holds.fresh;
    unused = use_none map pool.containers home.slot placed.vvbn (not_active map placed.vvbn valid places.takes.number.free);
    held = λ is. ap (blocks_held after new home.slot) reads.stays.reads
        ∙ held_more map after pool new home.slot disk.reads placed.vvbn block (holds.content disk.reads) (λ w other. holds.contents (apart is) disk.reads w other);
    used = use_placed map after placed.vvbn valid places.takes.number pool.containers new.containers home.slot (record { pvbn = placed.pvbn; kind = kind }) holds.entry holds.others;
    vvbn = within;
    pvbn = places.takes.greatest;
    strays = refl;
    room = fewer;
    enough = λ _ _. tt;
    spent = refl;
    failed = tt;
    counts = record { faults = omega (arith, calm); damages = omega arith; spent = omega arith; calm = record { faults = calm; damages = refl; spent = omega arith } };
    cause = tt;
  }

-- a placement that failed, and left what is shown but the counts
unplaced : (told : Type 0) (old new : Shown) (kind : ℕ) (block : List ℕ) (e : BlockFault) → IsUntouched old new → new.spent ≡ old.spent → (told → old.room ≢ 0 → IsDamaged e → ⊥) → Counts {T = Placed} old new (Err e)
    → HasCause old new e → Places told old kind block new (Err e)
unplaced told old new kind block e untouched spent enough counts cause = record { fresh = tt; unused = tt; held = λ _. tt; used = tt; vvbn = tt; pvbn = tt; strays = untouched.strays; room = tt; enough = enough; spent = spent; failed = untouched; counts = counts; cause = cause }

module _ (lent : Lent) (pool : Pool) (disk : Disk) (after : Noted) (told : Type 0) (tells : told → IsTrue lent.disk.tells) (clean : told → ∥ AreCleanOn lent.disk.reads lent.pool.containers ∥₁) (loads : LoadsPool lent.disk lent.pool pool)
    (reads : OnlyReads lent.disk disk) (kind : ℕ) (block : List ℕ) where
  abbrev behind : Volume → Noted → Shown
  behind map noted = shown_over (lent_by pool map disk lent.steps lent.home lent.room lent.strays noted)

  abbrev Fails : BlockFault → Volume → Noted → Type 0
  Fails e map noted = Places told (shown_over lent) kind block (behind map noted) (Err e)

  same_entries : (w : ℕ) → held_entry lent.map pool.containers lent.home.slot w ≡ held_entry lent.map lent.pool.containers lent.home.slot w
  same_entries w = held_kept lent.disk lent.map lent.pool.containers pool.containers lent.home.slot w loads.containers

  still : (n : Noted) → IsUntouched (shown_over lent) (behind lent.map n)
  still n = record {
    held = ap (blocks_held lent.map pool lent.home.slot) reads.stays.reads ∙ held_same_map lent.map lent.map lent.pool pool lent.home.slot lent.disk.reads
        (λ w. ap (block_of pool.kept lent.disk.reads) (same_entries w) ∙ ap (λ k. block_of k lent.disk.reads (held_entry lent.map lent.pool.containers lent.home.slot w)) loads.kept);
    used = λ j. λ v. cond (is_member (active_of lent.map) v) (Some (use_of (same_entries v j))) None;
    strays = refl;
    room = refl;
    cost = refl;
    right = λ v pvbn is. subst (λ o. IsRightPlace o pvbn) (sym (same_entries v)) is;
  }

  fails : (fault : BlockFault) → LacksPlace lent.disk lent.pool.containers lent.pool.map lent.map (root_place lent.pool.found.slot) lent.home.label fault → Notes lent.noted fault after → lent.room ≤ free_numbers lent.map → lent.room ≤ free_blocks lent.pool.map
      → HasBlockCause {T = Placed} lent.disk.faults disk.faults (Err fault) → Fails fault lent.map after
  fails DiskFault lacks notes numbers blocks cause = subst (λ (n : Noted). Fails DiskFault lent.map n) (sym notes)
      (unplaced told (shown_over lent) (behind lent.map lent.noted) kind block DiskFault (still lent.noted) refl (λ _ _ damaged. absurd damaged)
      (record { faults = reads.faults; damages = omega arith; spent = omega arith; calm = tt })
      (cause, refl))
  fails (Damaged at want found) lacks notes numbers blocks cause =
      let why : HasCause (shown_over lent) (behind lent.map after) (Damaged at want found) = search rules in
      unplaced told (shown_over lent) (behind lent.map after) kind block (Damaged at want found) (still after) refl
      (λ is some damaged. ⊎_elim
      (λ room_is. some (⊎_elim (λ none. omega (arith, none, numbers)) (λ none. omega (arith, none, blocks)) (room_lacks lent.pool.map lent.map (root_place lent.pool.found.slot) lent.home.label at want found room_is)))
      (λ leaf. ∥∥₁_elim (entries_told lent tells clean is) (λ x y. absurd x) (λ entries. none_damaged lent.disk.reads lent.pool.containers at want found entries.1 (leaf entries.0)))
      lacks)
      (record { faults = reads.faults; damages = notes.1; spent = omega arith; calm = tt })
      why
  fails Memory lacks notes numbers blocks cause = subst (λ (n : Noted). Fails Memory lent.map n) (sym notes)
      (unplaced told (shown_over lent) (behind lent.map lent.noted) kind block Memory (still lent.noted) refl (λ _ _ damaged. absurd damaged)
      (record { faults = reads.faults; damages = omega arith; spent = omega arith; calm = tt })
      (record { faults = cause; damages = refl; spent = omega arith }))

  pub unplaced_shown : (e fault : BlockFault) (map : Volume) → e ≡ fault → map ≡ lent.map → LacksPlace lent.disk lent.pool.containers lent.pool.map lent.map (root_place lent.pool.found.slot) lent.home.label fault → Notes lent.noted fault after
      → lent.room ≤ free_numbers lent.map → lent.room ≤ free_blocks lent.pool.map → HasBlockCause {T = Placed} lent.disk.faults disk.faults (Err fault) → Fails e map after
  unplaced_shown e fault map same stays lacks notes numbers blocks cause =
      subst (λ x. Fails x map after) (sym same) (subst (λ (m : Volume). Fails fault m after) (sym stays) (fails fault lacks notes numbers blocks cause))

module _ (pool : Pool) (map after : Volume) (disk : Disk) (steps : ℕ) (home : Home) (room strays more : ℕ) (noted : Noted) (v : ℕ) (valid : IsVolume map)
    (released : after ≡ with_slot map 0 (Some (slice_set (active_of map) v false))) (named : is_member (active_of map) v ≡ true → more ≡ strays) (stray : is_member (active_of map) v ≡ false → Rose strays more) where
  pub gone_shown : Drops (shown_over (lent_by pool map disk steps home room strays noted)) v (shown_over (lent_by pool after disk steps home room more noted))
  gone_shown = record {
    held = held_gone map after v valid released pool.containers home.slot pool disk.reads refl;
    used = use_gone map after v valid released pool.containers home.slot;
    named = λ some. named (used_member map pool.containers home.slot v some);
    stray = λ none. stray (unused_member map pool.containers home.slot v none);
    room = omega arith;
    spent = refl;
    calm = record { faults = refl; damages = refl; spent = omega arith };
  }

-- ---- a source that no block is asked of

trusting_untouched : (old new : Shown) → IsUntouched old new → IsUntouched (trusting old) (trusting new)
trusting_untouched old new is = record { held = is.held; used = is.used; strays = is.strays; room = is.room; cost = is.cost; right = λ v pvbn right. right }

trusting_cause : (old new : Shown) (e : BlockFault) → HasCause old new e → HasCause (trusting old) (trusting new) e
trusting_cause old new DiskFault is = is
trusting_cause old new (Damaged at want found) is = is
trusting_cause old new Memory is = record { faults = is.faults; damages = is.damages; spent = is.spent }

pub trusting_places : (told : Type 0) (old new : Shown) (kind : ℕ) (block : List ℕ) (result : Result Placed BlockFault) → Places told old kind block new result → Places told (trusting old) kind block (trusting new) result
trusting_places told old new kind block (Ok placed) is = record {
  fresh = is.fresh;
  unused = is.unused;
  held = is.held;
  used = is.used;
  vvbn = is.vvbn;
  pvbn = is.pvbn;
  strays = is.strays;
  room = is.room;
  enough = is.enough;
  spent = is.spent;
  failed = tt;
  counts = record { faults = is.counts.faults; damages = is.counts.damages; spent = is.counts.spent; calm = record { faults = is.counts.calm.faults; damages = is.counts.calm.damages; spent = is.counts.calm.spent } };
  cause = tt;
}
trusting_places told old new kind block (Err e) is = record {
  fresh = tt;
  unused = tt;
  held = λ _. tt;
  used = tt;
  vvbn = tt;
  pvbn = tt;
  strays = is.strays;
  room = tt;
  enough = is.enough;
  spent = is.spent;
  failed = trusting_untouched old new is.failed;
  counts = record { faults = is.counts.faults; damages = is.counts.damages; spent = is.counts.spent; calm = tt };
  cause = trusting_cause old new e is.cause;
}

pub trusting_drops : (old new : Shown) (v : ℕ) → Drops old v new → Drops (trusting old) v (trusting new)
trusting_drops old new v is = record {
  held = is.held;
  used = is.used;
  named = is.named;
  stray = is.stray;
  room = is.room;
  spent = is.spent;
  calm = record { faults = is.calm.faults; damages = is.calm.damages; spent = is.calm.spent };
}
