-- The course of a consistency point: its start, a slot that is passed, and a slot that is written, also as the code goes it.
use Rattle.std.proofs.Common.{◌≡◌, ◌≢◌, ℕ, suc, ◌<◌, ◌≤◌, Bool, true, false, cond, List, get_or, nat_eq, refl, sym, ap, subst, ◌∙◌, arith, ⊎_elim, ◌+◌, length, All, Ok, Result, length-set, drop, drop-cons}
use Rattle.fv_bits.specs.Members.{is_member}
use Rattle.std.specs.Prelude.{◌||◌, Option, Some, None, IfSome, IsTrue, sum_by}
use Rattle.std.proofs.lemmas.Bool.{cases_eq, or_right}
use Rattle.std.proofs.lemmas.Bool.Decides.{nat_tests}
use Rattle.std.proofs.lemmas.List.{get_or-set_same, get_or-set_other}
use Rattle.std.proofs.lemmas.Option.{none-some}
use Rattle.fv_disk.specs.Shown.{Image, Shown}
use Rattle.fv_model.specs.Machines.{Machine}
use Rattle.fv_image.specs.Views.{entry_count}
use Rattle.fv_image.proofs.Named.{node_held}
use Rattle.fv_container.specs.Clean.{IsCleanOn}
use Rattle.fv_container.proofs.Clean.{clean_still}
use Rattle.fv_container.specs.Leading.{HasEmptied, place_at, place_in}
use Rattle.fv_container.specs.Mapped.{Mapped, entry_under}
use Rattle.fv_container.specs.Paged.{Paged}
use Rattle.fv_container.specs.Spelled.{is_at, names}
use Rattle.fv_container.specs.Chains.{Slots, container_at, map_in, paged_at}
use Rattle.fv_aggmap.specs.Space.{blocks_of, Space, free_blocks}
use Rattle.fv_pool.specs.declared.pool.Pool.{Pool}
use Rattle.fv_volume.specs.declared.state.VolumeState.{VolumeState}
use Rattle.fv_volumes.specs.Housed.{as_written, AreHoused}
use Rattle.fv_pool.specs.Keeping.{seen}
use Rattle.fv_volume.specs.States.{States, state_at}
use Rattle.fv_delay.specs.Reclaims.{HasReclaimed, goes_with}
use Rattle.fv_volume.specs.Files.{IsLabelled}
use Rattle.fv_volume.specs.Loading.{Houses}
use Rattle.fv_volume.specs.Stored.{AreApartIn, AreSpacedIn, IsStored, has_block}
use Rattle.fv_volume.specs.Writing.{HasOwnBlocks, IsWritten, IsTaken, on_disk}
use Rattle.fv_volumes.proofs.Drawing.{leads_at}
use Rattle.fv_volumes.proofs.Spacing.{LeavesSpaced, written_leaves}
use Rattle.fv_volumes.proofs.Reclaiming.{emptied_apart, emptied_leaves, emptied_own, stays_left}
use Rattle.fv_volume.proofs.StayingMaps.{stays_unwritten, stays_within}
use Rattle.fv_volumes.proofs.Stored.{stored, stored_still}
use Rattle.fv_volumes.proofs.Waiting.{waits_first, waits_on}
use Rattle.fv_cp.specs.Lent.{IsLent, IsLentAt, IsLentSlot, asked_by, blocks_asked}
use Rattle.fv_cp.specs.Course.{AreHereIn, AreNamedFor, HasCome, HaveHere, IsAsLent, IsCourse, IsOnCourse, IsSlotWritten, as_lent, label_lent, renewed, GoesPast, IsPassed, asked_from}
use Rattle.fv_volumes.proofs.LentSlots.{held_taken, lent_slot, own_blocks}
use Rattle.std.specs.FinMap as fin
use Rattle.std.proofs.lemmas.List.Elements.{All-set}
use Rattle.fv_disk.specs.declared.Failed.{Failed}
use Rattle.fv_disk.specs.Sparing.{Spares}
use Rattle.fv_codec.specs.Blocks.{last_place}
use Rattle.fv_root.specs.Finding.{IsInRange, root_found}
use Rattle.fv_store.specs.Held.{StandsOn}
use Rattle.fv_volumes.proofs.Housing.{housed_put}
use Rattle.fv_volumes.proofs.Sparing.{then_spares}
use Rattle.std.proofs.Math.ListN.{drop_of_length-le}
use Rattle.std.proofs.lemmas.List.Sums.{sum_by-cons}

-- ---- the start

pub course_begins : (regions : ℕ → ℕ → Bool) (disk : Shown) (pool : Pool) (states : States) (before : Machine) → IsLent disk pool states before → (labels : List ℕ) → AreNamedFor states pool.found.root.labels labels → (first i : Image) → ((b : ℕ) → i b ≡ first b) → IsCourse regions pool states first 0 labels pool.map.next pool.containers i
course_begins regions disk pool states before lent labels named first i reads = record {
  now = state_at states;
  spaced = lent.spaced;
  each = λ s inside. as_lent (waits_first s (state_at states s)) (record { state = refl; lies = refl; named = named.each s inside; stay = λ x map there lies v on some. reads (place_at map v) });
}

-- the course under other names of the same
pub same_course : (regions : ℕ → ℕ → Bool) (pool : Pool) (states : States) (first : Image) (count : ℕ) (labels named : List ℕ) (next map : List Bool) (containers left : Slots) (i j : Image) → named ≡ labels → map ≡ next → left ≡ containers → j ≡ i
    → IsCourse regions pool states first count labels next containers i → IsCourse regions pool states first count named map left j
same_course regions pool states first count labels named next map containers left i j e f g h is =
    subst (λ (xs : List ℕ). IsCourse regions pool states first count xs map left j) (sym e) (subst (λ (bs : List Bool). IsCourse regions pool states first count labels bs left j) (sym f)
    (subst (λ (c : Slots). IsCourse regions pool states first count labels next c j) (sym g) (subst (λ (c : Image). IsCourse regions pool states first count labels next containers c) (sym h) is)))

-- ---- a slot more

or_left : (a b : Bool) → (a || b) ≡ false → a ≡ false
or_left true b is = is
or_left false b is = refl

module _ (regions : ℕ → ℕ → Bool) (pool : Pool) (states : States) (first : Image) (s k : ℕ) (now : Option VolumeState) (label : ℕ) (container : Option Paged) (i : Image) (alike : k ≡ s → IfSome (state_at states k) (λ x. x.changed ≡ false)) where
  -- a slot of which nothing is written in the step
  one_more : IsOnCourse regions pool states first s k now label container i → IsOnCourse regions pool states first (suc s) k now label container i
  one_more (renewed x low there changed is r) = renewed x (omega (arith, low)) there changed is r
  one_more (as_lent waits is) = as_lent (waits_on s k (state_at states k) alike waits) is

-- a slot is passed
pub course_passes : (regions : ℕ → ℕ → Bool) (pool : Pool) (states : States) (first : Image) (s : ℕ) (labels : List ℕ) (next : List Bool) (containers : Slots) (i : Image) → IfSome (state_at states s) (λ x. x.changed ≡ false)
    → IsCourse regions pool states first s labels next containers i → IsCourse regions pool states first (suc s) labels next containers i
course_passes regions pool states first s labels next containers i unchanged is = record {
  now = is.now;
  spaced = is.spaced;
  each = λ k inside. one_more regions pool states first s k (is.now k) (get_or labels k 0) (paged_at containers k) i (λ e. subst (λ (n : ℕ). IfSome (state_at states n) (λ x. x.changed ≡ false)) (sym e) unchanged) (is.each k inside);
}

-- ---- what stands

-- The container of a slot that was lent is clean, since nothing is written over its nodes: the root on the disk holds them.
pub clean_lent : (disk : Shown) (pool : Pool) (states : States) (before : Machine) → IsLent disk pool states before → IsTrue disk.tells → (mid : Shown) → Spares (IsTaken (on_disk pool.map)) disk mid (Ok tt) → (s : ℕ) → s < 64 → IfSome (paged_at pool.containers s) (IsCleanOn mid.reads)
clean_lent disk pool states before lent tells mid spares s inside = by (state_at states s) (paged_at pool.containers s) (lent.slots s inside)
  where
    by : (o : Option VolumeState) (c : Option Paged) → IsLentAt disk.reads pool.found s o c → IfSome c (IsCleanOn mid.reads)
    by None None is = tt
    by None (Some paged) is = absurd is
    by (Some x) None is = tt
    by (Some x) (Some paged) is = clean_still disk.reads mid.reads paged (λ b named.
        let node = is.nodes b named in
        spares.reads tells b (held_taken disk.reads pool.found pool.map lent.tells.sound lent.map b (node_held (root_found pool.found) disk.reads s b node.0 inside node.1 node.2))) is.clean

-- So is that of a slot that wasn't written yet.
pub clean_come : (regions : ℕ → ℕ → Bool) (disk : Shown) (pool : Pool) (states : States) (before : Machine) → IsLent disk pool states before → IsTrue disk.tells → (s : ℕ) → s < 64 → (labels : List ℕ) (left : Pool) (mid : Shown) → HasCome regions (HaveHere regions pool.containers) disk pool states s labels left mid
    → IfSome (paged_at left.containers s) (IsCleanOn mid.reads)
clean_come regions disk pool states before lent tells s inside labels left mid come =
    subst (λ (c : Option Paged). IfSome c (IsCleanOn mid.reads)) (sym (come.rest s (omega arith))) (clean_lent disk pool states before lent tells mid come.spares s inside)

-- ---- a slot that is written

-- the leaves that are taken are in memory in a slot that wasn't written yet
here_come : (regions : ℕ → ℕ → Bool) (pool left : Pool) (s : ℕ) (old : Paged) → s < 64 → paged_at left.containers s ≡ paged_at pool.containers s → paged_at left.containers s ≡ Some old → HaveHere regions pool.containers → AreHereIn (regions s) old
here_come regions pool left s old inside rest there here = subst (λ (c : Option Paged). IfSome c (AreHereIn (regions s))) (sym rest ∙ there) (here s inside)

module _ (regions : ℕ → ℕ → Bool) (disk : Shown) (pool : Pool) (states : States) (before : Machine) (lent : IsLent disk pool states before) (tells : IsTrue disk.tells) (s : ℕ) (inside : s < 64) (labels : List ℕ) (left : Pool) (mid : Shown) (come : HasCome regions (HaveHere regions pool.containers) disk pool states s labels left mid)
    (size : blocks_of left.map ≡ pool.found.blocks) (x : VolumeState) (there : state_at states s ≡ Some x) (changed : x.changed ≡ true) (now : List ℕ) (after : Pool) (new : Shown) (did : IsSlotWritten (regions s) x s labels left mid now after new) (here : HaveHere regions pool.containers) where
  abbrev first : Image
  first = seen pool.kept disk.reads

  abbrev i : Image
  i = mid.reads

  abbrev j : Image
  j = new.reads

  is : IsCourse regions pool states first s labels left.map.next left.containers i
  is = come.written tells before lent here

  -- the slot is as it was lent
  lent_here : IsAsLent pool states first s (is.now s) (get_or labels s 0) (paged_at left.containers s) i
  lent_here = by (is.each s inside)
    where
      by : IsOnCourse regions pool states first s s (is.now s) (get_or labels s 0) (paged_at left.containers s) i → IsAsLent pool states first s (is.now s) (get_or labels s 0) (paged_at left.containers s) i
      by (renewed y low at differs same r) = absurd (omega (arith, low))
      by (as_lent waits at) = at

  there_map : container_at left.containers s ≡ Some did.old.map
  there_map = ap map_in did.there

  was : (is.now s ≡ Some x) × (paged_at pool.containers s ≡ Some did.old)
  was = (lent_here.state ∙ there, sym lent_here.lies ∙ did.there)

  slot : IsLentSlot disk.reads pool.found s x did.old
  slot = lent_slot disk.reads pool.found s (state_at states s) (paged_at pool.containers s) x did.old there was.1 (lent.slots s inside)

  labelled : IsLabelled s x
  labelled = subst (λ (o : Option VolumeState). IfSome o (IsLabelled s)) there (come.housed.volumes s)

  long_old : length did.old.map.entries ≡ entry_count x.span
  long_old = subst (Houses (Some x)) there_map (subst (λ (o : Option VolumeState). Houses o (container_at left.containers s)) there (come.housed.each s))

  own_old : HasOwnBlocks x did.old.map left.map
  own_old = own_blocks disk.reads pool.found pool.map lent.tells.sound lent.map s x did.old left.map inside slot come.committed (λ b of. (is.spaced.held s b inside ((λ k. has_block (was.0 k) (there_map k) b) ∙ of)).0)

  clean_old : IsCleanOn i did.old
  clean_old = subst (λ (c : Option Paged). IfSome c (IsCleanOn i)) did.there (clean_come regions disk pool states before lent tells s inside labels left mid come)

  -- ---- once its regions were reclaimed

  abbrev goes : ℕ → Bool
  goes = goes_with x.map did.old.map (regions s)

  reclaimed : HasReclaimed x.map (regions s) did.old left.map did.mid did.space
  reclaimed = did.reclaimed (subst IsTrue (sym come.spares.counted.tells) tells) clean_old (here_come regions pool left s did.old inside (come.rest s (omega arith)) did.there here)

  emptied : HasEmptied did.old goes did.mid
  emptied = reclaimed.entries

  apart_mid : AreApartIn x did.mid.map
  apart_mid = emptied_apart x did.old goes did.mid emptied slot.apart

  own : HasOwnBlocks x did.mid.map did.space
  own = emptied_own x did.old goes did.mid emptied slot.apart long_old left.map did.space reclaimed.blocks own_old

  -- the containers then
  abbrev mid_at : ℕ → Option Mapped
  mid_at k = cond (nat_eq k s) (Some did.mid.map) (container_at left.containers k)

  mid_here : mid_at s ≡ Some did.mid.map
  mid_here = let test : nat_eq s s ≡ true = grind (arith, nat_tests) in ap (λ (b : Bool). cond b (Some did.mid.map) (container_at left.containers s)) test

  mid_other : (k : ℕ) → k ≢ s → mid_at k ≡ container_at left.containers k
  mid_other k other = let test : nat_eq k s ≡ false = grind (arith, nat_tests, other) in ap (λ (b : Bool). cond b (Some did.mid.map) (container_at left.containers k)) test

  spaced_mid : AreSpacedIn pool.found.blocks did.space.next is.now mid_at
  spaced_mid = emptied_leaves pool.found.blocks left.map did.space is.now (container_at left.containers) mid_at s inside is.spaced x did.old did.mid was.0 there_map mid_here mid_other slot.apart long_old goes emptied reclaimed.blocks

  clean_mid : IsCleanOn i did.mid
  clean_mid = emptied.clean i clean_old

  size_mid : blocks_of did.space ≡ pool.found.blocks
  size_mid = ap length reclaimed.blocks.committed ∙ size

  -- ---- once it was written

  wrote : IsWritten x did.mid.map i did.space did.label did.new.map j after.map
  wrote = did.written (subst IsTrue (sym come.spares.counted.tells) tells) own clean_mid

  -- the volumes then
  abbrev then_at : ℕ → Option VolumeState
  then_at k = cond (nat_eq k s) (Some (as_written x did.label)) (is.now k)

  then_here : then_at s ≡ Some (as_written x did.label)
  then_here = let test : nat_eq s s ≡ true = grind (arith, nat_tests) in ap (λ (b : Bool). cond b (Some (as_written x did.label)) (is.now s)) test

  then_other : (k : ℕ) → k ≢ s → then_at k ≡ is.now k
  then_other k other = let test : nat_eq k s ≡ false = grind (arith, nat_tests, other) in ap (λ (b : Bool). cond b (Some (as_written x did.label)) (is.now k)) test

  paged_here : paged_at after.containers s ≡ Some did.new
  paged_here = ap (λ (c : Slots). paged_at c s) did.containers ∙ get_or-set_same left.containers.containers s (Some did.new) None (omega (arith, inside, did.few))

  paged_other : (k : ℕ) → k ≢ s → paged_at after.containers k ≡ paged_at left.containers k
  paged_other k other = ap (λ (c : Slots). paged_at c k) did.containers ∙ get_or-set_other left.containers.containers s k (Some did.new) None other

  container_here : container_at after.containers s ≡ Some did.new.map
  container_here = ap map_in paged_here

  container_other : (k : ℕ) → k ≢ s → container_at after.containers k ≡ container_at left.containers k
  container_other k other = ap map_in (paged_other k other)

  label_other : (k : ℕ) → k ≢ s → get_or now k 0 ≡ get_or labels k 0
  label_other k other = ap (λ (xs : List ℕ). get_or xs k 0) did.named ∙ get_or-set_other labels s k did.label 0 other

  label_here : get_or now s 0 ≡ did.label
  label_here = ap (λ (xs : List ℕ). get_or xs s 0) did.named ∙ get_or-set_same labels s did.label 0 (omega (arith, inside, come.long))

  leaves : LeavesSpaced pool.found.blocks after.map is.now then_at mid_at (container_at after.containers) s x did.mid.map i j
  leaves = written_leaves pool.found.blocks did.space after.map is.now then_at mid_at (container_at after.containers) s inside spaced_mid size_mid x did.mid.map did.new.map did.label was.0 mid_here then_here container_here then_other
      (λ k other. container_other k other ∙ sym (mid_other k other)) i j apart_mid own wrote

  -- the blocks of another slot aren't written
  others_stay : (k b : ℕ) → k < 64 → k ≢ s → has_block (is.now k) (container_at left.containers k) b ≡ true → j b ≡ i b
  others_stay k b small other has = leaves.others k b small other ((λ l. has_block (is.now k) (mid_other k other l) b) ∙ has)

  -- another slot stays as it is
  still : (k : ℕ) → k < 64 → k ≢ s → IsOnCourse regions pool states first s k (is.now k) (get_or labels k 0) (paged_at left.containers k) i → IsOnCourse regions pool states first s k (is.now k) (get_or labels k 0) (paged_at left.containers k) j
  still k small other on = by on
    where
      same_at : (y : VolumeState) (map : Mapped) (b v : ℕ) → is.now k ≡ Some y → container_at left.containers k ≡ Some map → v < entry_count y.span → place_at map v ≡ b → b ≢ 0 → j b ≡ i b
      same_at y map b v at lies low place some = others_stay k b small other ((λ l. has_block (at l) (lies l) b) ∙ or_right (is_at b y.label) _ (or_right (names map.tree b) _ (leads_at map (entry_count y.span) v b low place some)))

      by : IsOnCourse regions pool states first s k (is.now k) (get_or labels k 0) (paged_at left.containers k) i → IsOnCourse regions pool states first s k (is.now k) (get_or labels k 0) (paged_at left.containers k) j
      by (as_lent waits at) = as_lent waits (record {
        state = at.state;
        lies = at.lies;
        named = at.named;
        stay = λ y map here lies v on some. same_at y map (place_at map v) v (at.state ∙ here) (ap map_in at.lies ∙ lies) (stays_within y v on) refl some ∙ at.stay y map here lies v on some;
      })
      by (renewed y low at differs same r) = renewed y low at differs same (record {
        old = r.old;
        was = r.was;
        mid = r.mid;
        reclaimed = r.reclaimed;
        new = r.new;
        now = r.now;
        valid = r.valid;
        stored = stored_still y r.mid.map (get_or labels k 0) r.new.map i j r.stored (λ b of. others_stay k b small other ((λ l. has_block (same l) (map_in (r.now l)) b) ∙ of));
        memory = r.memory;
        stay = λ v on some.
            let state : IsLabelled k y = subst (λ (o : Option VolumeState). IfSome o (IsLabelled k)) at (come.housed.volumes k) in
            let kept : entry_under r.new.map v ≡ entry_under r.old.map v = r.stored.kept v (stays_unwritten y v on) ∙ stays_left k y state (regions k) r.old r.mid r.reclaimed v on in
            same_at (as_written y (get_or labels k 0)) r.new.map (place_at r.old.map v) v same (ap map_in r.now) (stays_within y v on) (ap place_in kept) some ∙ r.stay v on some;
        fresh = r.fresh;
      })

  other_on_course : (k : ℕ) → k < 64 → k ≢ s → IsOnCourse regions pool states first (suc s) k (then_at k) (get_or now k 0) (paged_at after.containers k) j
  other_on_course k small other =
      subst (λ (o : Option VolumeState). IsOnCourse regions pool states first (suc s) k o (get_or now k 0) (paged_at after.containers k) j) (sym (then_other k other))
      (subst (λ (n : ℕ). IsOnCourse regions pool states first (suc s) k (is.now k) n (paged_at after.containers k) j) (sym (label_other k other))
      (subst (λ (c : Option Paged). IsOnCourse regions pool states first (suc s) k (is.now k) (get_or labels k 0) c j) (sym (paged_other k other))
      (one_more regions pool states first s k (is.now k) (get_or labels k 0) (paged_at left.containers k) j (λ e. absurd (other e)) (still k small other (is.each k small)))))

  -- One slot more is written.
  pub course_goes_on : IsCourse regions pool states first (suc s) now after.map.next after.containers j
  course_goes_on = record {
    now = then_at;
    spaced = leaves.spaced;
    each = λ k small. ⊎_elim
        (λ (e : k ≡ s). subst (λ (n : ℕ). IsOnCourse regions pool states first (suc s) n (then_at n) (get_or now n 0) (paged_at after.containers n) j) (sym e)
        (renewed x (omega arith) there changed (then_here ∙ ap (λ (n : ℕ). Some (as_written x n)) (sym label_here)) (record {
          old = did.old;
          was = was.1;
          mid = did.mid;
          reclaimed = emptied;
          new = did.new;
          now = paged_here;
          valid = did.valid;
          stored = subst (λ (n : ℕ). IsStored x did.mid.map n did.new.map j) (sym label_here) (stored x did.mid.map i did.space did.label did.new.map j after.map wrote own (λ v. apart_mid.some v));
          memory = did.memory (subst IsTrue (sym come.spares.counted.tells) tells) own clean_mid;
          stay = λ v on some.
              let place : place_at did.mid.map v ≡ place_at did.old.map v = ap place_in (stays_left s x labelled (regions s) did.old did.mid emptied v on) in
              subst (λ (b : ℕ). j b ≡ i b) place (leaves.own v (stays_unwritten x v on) (λ none. some (sym place ∙ none))) ∙ lent_here.stay x did.old.map there (ap map_in was.1) v on some;
          fresh = λ v on.
              let free = wrote.fresh_maps v on in
              let none : is_member wrote.given.committed (place_at did.new.map v) ≡ false = or_left _ _ free.free in
              sym (ap (λ (c : List Bool). is_member c (place_at did.new.map v)) (wrote.gave.committed ∙ reclaimed.blocks.committed ∙ come.committed)) ∙ none;
        })))
        (λ (other : k ≢ s). other_on_course k small other)
        (cases_eq k s);
  }

-- ---- as the code goes it

-- ---- what is asked for

pub asked_on : (states : States) (s : ℕ) → s < length states → asked_from s states ≡ asked_by (state_at states s) + asked_from (s + 1) states
asked_on states s lt = ap (λ (xs : States). sum_by asked_by xs) (drop-cons states s None lt) ∙ sum_by-cons asked_by (get_or states s None) (drop (suc s) states) ∙ ap (λ (n : ℕ). asked_by (state_at states s) + sum_by asked_by (drop n states)) next
  where
    next : suc s ≡ s + 1
    next = omega arith

pub asked_none : (states : States) (s : ℕ) → length states ≤ s → asked_from s states ≡ 0
asked_none states s past = ap (λ (xs : States). sum_by asked_by xs) (drop_of_length-le states {i = s} past)

-- ---- the start

pub come_first : (regions : ℕ → ℕ → Bool) (disk mid : Shown) (pool left : Pool) (states : States) (labels : List ℕ) → AreNamedFor states pool.found.root.labels labels → StandsOn mid left.store.pairs → AreHoused pool.containers states → blocks_asked states ≤ free_blocks pool.map
    → left.map ≡ pool.map → left.containers ≡ pool.containers → left.found ≡ pool.found → left.version ≡ pool.version → left.kept ≡ fin.empty → Spares (IsTaken (on_disk pool.map)) disk mid (Ok tt)
    → (IsTrue disk.tells → (b : ℕ) → mid.reads b ≡ seen pool.kept disk.reads b) → HasCome regions (HaveHere regions pool.containers) disk pool states 0 labels left mid
come_first regions disk mid pool left states labels are stands housed room map containers found version kept spares reads = record {
  long = are.long;
  places = are.places;
  free = λ s low none. are.each s low ∙ ap (λ (o : Option VolumeState). label_lent o (get_or pool.found.root.labels s 0)) none;
  stands = stands;
  housed = subst (λ (c : Slots). AreHoused c states) (sym containers) housed;
  rest = λ s past. ap (λ (c : Slots). paged_at c s) containers;
  room = subst (λ (m : Space). blocks_asked states ≤ free_blocks m) (sym map) room;
  committed = ap (λ (m : Space). m.committed) map;
  found = found;
  version = version;
  kept = kept;
  spares = spares;
  written = λ tells before lent here. same_course regions pool states (seen pool.kept disk.reads) 0 labels labels pool.map.next left.map.next pool.containers left.containers mid.reads mid.reads refl (ap (λ (m : Space). m.next) map) containers refl
      (course_begins regions disk pool states before lent labels are (seen pool.kept disk.reads) mid.reads (reads tells));
}

-- ---- a slot more

-- what can't be written depends on the root on the disk alone
pub taken_alike : (space mid : Space) (b : ℕ) → mid.committed ≡ space.committed → IsTaken (on_disk space) b → IsTaken (on_disk mid) b
taken_alike space mid b same is = subst (λ (xs : List Bool). IsTaken (record { committed = xs; next = xs }) b) (sym same) is

-- a volume that changed was written
pub past_written : (regions : ℕ → ℕ → Bool) (o : Option VolumeState) (x : VolumeState) (s : ℕ) (labels : List ℕ) (pool : Pool) (disk : Shown) (now : List ℕ) (left : Pool) (after : Shown) → o ≡ Some x → x.changed ≡ true → IsSlotWritten (regions s) x s labels pool disk now left after → GoesPast regions o s labels pool disk now left after
past_written regions o x s labels pool disk now left after there changed is = subst (λ (p : Option VolumeState). GoesPast regions p s labels pool disk now left after) (sym there)
    (subst (λ (b : Bool). cond b (IsSlotWritten (regions s) x s labels pool disk now left after) (IsPassed labels pool disk now left after)) (sym changed) is)

-- what is taken of the slot may be said by other regions that are the same there
pub past_alike : (regions others : ℕ → ℕ → Bool) (o : Option VolumeState) (s : ℕ) (labels : List ℕ) (pool : Pool) (disk : Shown) (now : List ℕ) (left : Pool) (after : Shown) → regions s ≡ others s → GoesPast regions o s labels pool disk now left after → GoesPast others o s labels pool disk now left after
past_alike regions others None s labels pool disk now left after same is = is
past_alike regions others (Some x) s labels pool disk now left after same is = subst (λ (f : ℕ → Bool). cond x.changed (IsSlotWritten f x s labels pool disk now left after) (IsPassed labels pool disk now left after)) same is

module _ (regions : ℕ → ℕ → Bool) (disk : Shown) (pool : Pool) (states : States) (s : ℕ) (inside : s < 64) (size : blocks_of pool.map ≡ pool.found.blocks) (range : IsInRange pool.found) (labels : List ℕ) (left : Pool) (mid : Shown) (come : HasCome regions (HaveHere regions pool.containers) disk pool states s labels left mid)
    (now : List ℕ) (after : Pool) (new : Shown) where
  more_room : free_blocks left.map ≤ free_blocks after.map + asked_by (state_at states s) → asked_from (suc s) states ≤ free_blocks after.map
  more_room count =
      let on = asked_on states s (omega (arith, inside, come.housed.long)) in
      let next : s + 1 ≡ suc s = omega arith in
      subst (λ (n : ℕ). asked_from n states ≤ free_blocks after.map) next (omega (arith, on, come.room, count))

  -- what the slot leaves of labels, containers and images
  record Leaves : Type 0 where
    pub long : length now ≡ 64
    pub places : All (λ place. place ≤ last_place) now
    pub free : (k : ℕ) → k < 64 → state_at states k ≡ None → get_or now k 0 ≡ 0
    pub housed : AreHoused after.containers states
    pub rest : (k : ℕ) → suc s ≤ k → paged_at after.containers k ≡ paged_at pool.containers k
    pub written : IsTrue disk.tells → (before : Machine) → IsLent disk pool states before → HaveHere regions pool.containers → IsCourse regions pool states (seen pool.kept disk.reads) (suc s) now after.map.next after.containers new.reads

  passes : IfSome (state_at states s) (λ x. x.changed ≡ false) → IsPassed labels left mid now after new → Leaves
  passes unchanged is = record {
    long = ap (λ (xs : List ℕ). length xs) is.named ∙ come.long;
    places = subst (λ (xs : List ℕ). All (λ place. place ≤ last_place) xs) (sym is.named) come.places;
    free = λ k low none. ap (λ (xs : List ℕ). get_or xs k 0) is.named ∙ come.free k low none;
    housed = subst (λ (c : Slots). AreHoused c states) (sym is.containers) come.housed;
    rest = λ k past. ap (λ (c : Slots). paged_at c k) is.containers ∙ come.rest k (omega (arith, past));
    written = λ tells before lent here. same_course regions pool states (seen pool.kept disk.reads) (suc s) labels now left.map.next after.map.next left.containers after.containers mid.reads new.reads is.named (ap (λ (m : Space). m.next) is.map) is.containers is.reads
        (course_passes regions pool states (seen pool.kept disk.reads) s labels left.map.next left.containers mid.reads unchanged (come.written tells before lent here));
  }

  size_now : blocks_of left.map ≡ pool.found.blocks
  size_now = ap (λ (xs : List Bool). length xs) come.committed ∙ size

  writes : (x : VolumeState) → state_at states s ≡ Some x → x.changed ≡ true → IsSlotWritten (regions s) x s labels left mid now after new → Leaves
  writes x there changed is = record {
    long = ap (λ (xs : List ℕ). length xs) is.named ∙ length-set labels s is.label ∙ come.long;
    places = subst (λ (xs : List ℕ). All (λ place. place ≤ last_place) xs) (sym is.named) (All-set (λ place. place ≤ last_place) labels s is.label (omega (arith, is.within, size_now, range.size.greatest)) come.places);
    free = λ k low none. ⊎_elim
        (λ (here : k ≡ s). absurd (none-some x (sym none ∙ ap (state_at states) here ∙ there)))
        (λ (differ : k ≢ s). ap (λ (xs : List ℕ). get_or xs k 0) is.named ∙ get_or-set_other labels s k is.label 0 differ ∙ come.free k low none)
        (cases_eq k s);
    housed = subst (λ (c : Slots). AreHoused c states) (sym is.containers) (housed_put left.containers states s x is.new (omega (arith, inside, is.few)) there is.long come.housed);
    rest = λ k past. ap (λ (c : Slots). paged_at c k) is.containers ∙ get_or-set_other left.containers.containers s k (Some is.new) None (omega (arith, past)) ∙ come.rest k (omega (arith, past));
    written = λ tells before lent here. course_goes_on regions disk pool states before lent tells s inside labels left mid come size_now x there changed now after new is here;
  }

  step_leaves : (o : Option VolumeState) → state_at states s ≡ o → GoesPast regions o s labels left mid now after new → Leaves
  step_leaves None there is = passes (subst (λ (o : Option VolumeState). IfSome o (λ x. x.changed ≡ false)) (sym there) tt) is
  step_leaves (Some x) there is = so x.changed refl is
    where
      so : (t : Bool) → x.changed ≡ t → cond t (IsSlotWritten (regions s) x s labels left mid now after new) (IsPassed labels left mid now after new) → Leaves
      so true e did = writes x there e did
      so false e did = passes (subst (λ (o : Option VolumeState). IfSome o (λ x. x.changed ≡ false)) (sym there) e) did

  pub spares_on : (result : Result (Unit {0}) Failed) → Spares (IsTaken (on_disk left.map)) mid new result → Spares (IsTaken (on_disk pool.map)) disk new result
  spares_on result second = then_spares (IsTaken (on_disk pool.map)) (IsTaken (on_disk pool.map)) (IsTaken (on_disk left.map)) disk mid new result (λ b is. is)
      (λ b is. taken_alike pool.map left.map b come.committed is) come.spares second

  pub come_more : GoesPast regions (state_at states s) s labels left mid now after new → free_blocks left.map ≤ free_blocks after.map + asked_by (state_at states s) → Spares (IsTaken (on_disk left.map)) mid new (Ok tt)
      → after.map.committed ≡ left.map.committed → after.found ≡ left.found → after.version ≡ left.version → after.kept ≡ left.kept → StandsOn new after.store.pairs → HasCome regions (HaveHere regions pool.containers) disk pool states (suc s) now after new
  come_more past count spares committed found version kept stands =
      let l = step_leaves (state_at states s) refl past in
      record { long = l.long; places = l.places; free = l.free; stands = stands; housed = l.housed; rest = l.rest; room = more_room count; committed = committed ∙ come.committed; found = found ∙ come.found; version = version ∙ come.version; kept = kept ∙ come.kept; spares = spares_on (Ok tt) spares; written = l.written }
