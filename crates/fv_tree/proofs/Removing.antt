-- Whole removals, over the blocks that there were before and over those that there are afterwards.
use Rattle.std.proofs.Common.{◌≡◌, ◌≤◌, ℕ, ◌+◌, ◌/◌, ◌^◌, ◌⊎◌, inl, inr, Bool, false, ◌||◌, Result, Ok, Err, IfOk, OnOk, OnErr, None, cond, nat_eq, refl, sym, ap, subst, ◌∙◌, arith}
use Rattle.std.specs.FinMap as fin
use Rattle.std.proofs.lemmas.Bool.{cases_eq}
use Rattle.std.proofs.lemmas.Bool.Decides.{nat_tests}
use Rattle.std.proofs.lemmas.Result.{on_ok_weaker}
use Rattle.fv_codec.specs.declared.pointer.Pointer.{Pointer}
use Rattle.fv_model.specs.Trees.{fan}
use Rattle.fv_tree.specs.declared.kept.Tree.{Tree}
use Rattle.fv_disk.specs.declared.fault.BlockFault.{BlockFault}
use Rattle.fv_tree.specs.Writing.{Remains}
use Rattle.fv_tree.specs.Spelled.{Under, Rooted, pointer_at, stamp_in}
use Rattle.fv_tree.specs.Sources.{Shown, IsCalm, IsUntouched}
use Rattle.fv_tree.specs.Standing.{standing, under}
use Rattle.fv_tree.specs.Keeping.{IsSame, IsKept}
use Rattle.fv_tree.specs.Erasing.{StandsAt, HoldsCells, IsErased, Erases}
use Rattle.fv_tree.specs.Releasing.{IsDropped, KeepsBlocks, Releases, Removes}
use Rattle.fv_tree.specs.Flushing.{Leads, IsSound, Stands, loaded, loaded_over}
use Rattle.fv_tree.specs.Leading.{KeepsHints, LeadsNoMore, Carries}
use Rattle.fv_tree.specs.Counting.{positions_of}
use Rattle.fv_tree.specs.Removal.{Removal}
use Rattle.fv_tree.specs.Calls.{ErasesCell, Removing}
use Rattle.fv_tree.specs.Unlinking.{HasWay, CellGoes}
use Rattle.fv_tree.proofs.Counts.{alike_count}
use Rattle.fv_tree.proofs.Erased.{nothing_erased, erased_then, erased_as, holds_cells, stands_as, no_choice, choice}
use Rattle.fv_tree.proofs.Marks.{erases}
use Rattle.fv_tree.proofs.Raised.{past_at}
use Rattle.fv_tree.proofs.Writes.{no_stamp, same_alike}
use Rattle.fv_tree.proofs.Stored.{stored_off, tells_on}
use Rattle.fv_tree.specs.Altering.{Alters, Leaves}
use Rattle.fv_tree.proofs.Altered.{alters_over, alters_then, leaves_blocks, only_leaves}
use Rattle.fv_tree.proofs.Released.{nothing_released, released_then, released_as, keeps_then, led_before, moved_leads, moved_keeps, moved_pointers, blocks_stay, released_alike, released_sound, sound_used, erased_alike}

-- a tree that is the same over the same blocks
pub same_over : (old new : Under) (t u : Tree) → new ≡ old → IsSame (standing old t) (standing new u) → IsSame (standing old t) (standing old u)
same_over old new t u held same = subst (λ b. IsSame (standing old t) (standing b u)) held same

-- a tree that stands on the same blocks
stands_over : (old new : Shown) (u : Tree) → new.held ≡ old.held → new.used ≡ old.used → Stands new u → IsSound old.used (loaded_over (under old) u)
stands_over old new u held used stands = subst (λ h. IsSound old.used (loaded_over (λ v. fin.get h v) u)) held (subst (λ f. IsSound f (loaded_over (under new) u)) used stands)

-- ---- over the blocks of before

-- nothing went
pub removes_nothing : (old new : Shown) (t u : Tree) (gone : ℕ → Bool) (start s : ℕ) → IsUntouched old new → IsCalm old new
    → IsSame (standing (under old) t) (standing (under new) u) → KeepsBlocks (under old) t u → (Stands old t → Stands new u) → Leaves (loaded old t) (loaded new u) → ((i : ℕ) → StandsAt (standing (under old) t) 0 i → gone i ≡ false) → Removes old new t u gone start s
removes_nothing old new t u gone start s untouched calm same keeps sound leaves none =
    let held = untouched.held in
    let used = untouched.used in
    let here = same_over (under old) (under new) t u (ap (λ h v. fin.get h v) held) same in record {
      cells = λ i. ap stamp_in (here.pointers 0 i) ∙ elim (cases_eq (pointer_at (standing (under old) t) 0 i).stamp 0) [
        | inl hole ↦ no_stamp (pointer_at (standing (under old) t) 0 i) hole ∙ sym (ap (cond (gone i) None) (no_stamp (pointer_at (standing (under old) t) 0 i) hole) ∙ no_choice (gone i))
        | inr stands ↦ sym (ap (λ b. cond b None (stamp_in (pointer_at (standing (under old) t) 0 i))) (none i stands))
      ];
      erased = λ holds. nothing_erased (standing (under old) t) (standing (under old) u) gone start s here holds none;
      keeps = keeps;
      sound = λ stands. stands_over old new u held used (sound stands);
      released = released_as old new _ _ (nothing_released old new held used calm) (λ v never. absurd never) (λ v dropped. dropped.led.some (ap (λ (p : Pointer). p.stamp) (sym (here.pointers dropped.level dropped.place)) ∙ dropped.goes));
      strays = λ _. untouched.strays;
      alters = only_leaves s (loaded old t) (loaded_over (under old) u) (leaves_blocks old new t u held leaves);
    }

-- one more cell goes
module _ (a b c : Shown) (t u w : Tree) (gone both : ℕ → Bool) (index start s : ℕ) (first : Removes a b t u gone start s)
    (goes : CellGoes (under a) u w index start s) (released : Releases b c (IsDropped (under a) u w)) (strays : IsSound b.used (loaded_over (under a) u) → c.strays ≡ b.strays) (joint : (i : ℕ) → both i ≡ (gone i || nat_eq index i))
    (holds_then : HoldsCells (standing (under a) t) → HoldsCells (standing (under a) u)) where
  keeps : KeepsBlocks (under a) u w
  keeps = goes.keeps

  earlier : (v : ℕ) → IsDropped (under a) t u v → IsDropped (under a) t w v
  earlier v dropped = record {
    level = dropped.level;
    place = dropped.place;
    led = dropped.led;
    goes = elim (cases_eq (pointer_at (standing (under a) w) dropped.level dropped.place).stamp 0) [
      | inl none ↦ none
      | inr stands ↦ absurd (keeps.stood dropped.level dropped.place stands dropped.goes)
    ];
  }

  later : (v : ℕ) → IsDropped (under a) u w v → IsDropped (under a) t w v
  later v dropped = record {
    level = dropped.level;
    place = dropped.place;
    led = led_before (under a) t u dropped.level dropped.place v first.keeps dropped.led;
    goes = dropped.goes;
  }

  either_one : (v : ℕ) → IsDropped (under a) t w v → IsDropped (under a) t u v ⊎ IsDropped (under a) u w v
  either_one v dropped = elim (cases_eq (pointer_at (standing (under a) u) dropped.level dropped.place).stamp 0) [
    | inl none ↦ inl (record { level = dropped.level; place = dropped.place; led = dropped.led; goes = none })
    | inr stands ↦ inr (record {
      level = dropped.level;
      place = dropped.place;
      led = record {
        some = stands;
        placed = first.keeps.block dropped.level dropped.place stands ∙ dropped.led.placed;
        vvbn = first.keeps.number dropped.level dropped.place stands ∙ dropped.led.vvbn;
      };
      goes = dropped.goes;
    })
  ]

  pub removes_then : Removes a c t w both start s
  removes_then = record {
    cells = λ i. goes.cells i ∙ ap (cond (nat_eq index i) None) (first.cells i) ∙ choice (gone i) (nat_eq index i) (stamp_in (pointer_at (standing (under a) t) 0 i)) ∙ ap (λ x. cond x None (stamp_in (pointer_at (standing (under a) t) 0 i))) (sym (joint i));
    erased = λ holds. erased_then (standing (under a) t) (standing (under a) u) (standing (under a) w) gone both index start s (first.erased holds) (goes.erased (holds_then holds)) joint;
    keeps = keeps_then (under a) t u w first.keeps keeps;
    sound = λ sound. goes.sound a.used (first.sound sound);
    released = released_then a b c (IsDropped (under a) t u) (IsDropped (under a) u w) (IsDropped (under a) t w) first.released released earlier later either_one;
    strays = λ sound. strays (sound_used a b t u sound first.keeps first.released (first.sound sound)) ∙ first.strays sound;
    alters = alters_then s (loaded_over (under a) t) (loaded_over (under a) u) (loaded_over (under a) w) first.alters goes.alters;
  }

-- a cell that is left
pub removes_stands : (old new : Shown) (t u : Tree) (gone : ℕ → Bool) (start s : ℕ) → Removes old new t u gone start s → (i : ℕ) → StandsAt (standing (under old) t) 0 i → gone i ≡ false → StandsAt (standing (under old) u) 0 i
removes_stands old new t u gone start s is i stands stays =
    stands_as (pointer_at (standing (under old) u) 0 i) (pointer_at (standing (under old) t) 0 i) (is.cells i ∙ ap (λ b. cond b None (stamp_in (pointer_at (standing (under old) t) 0 i))) stays) stands

-- no mark is left over holes alone
pub removes_holds : (old new : Shown) (t u : Tree) (gone : ℕ → Bool) (start s : ℕ) → Removes old new t u gone start s → HoldsCells (standing (under old) t) → HoldsCells (standing (under old) u)
removes_holds old new t u gone start s is holds = holds_cells (standing (under old) t) (standing (under old) u) gone start s (is.erased holds)

-- the same cells, told in another way
pub removes_as : (old new : Shown) (t u : Tree) (gone other : ℕ → Bool) (start s : ℕ) → Removes old new t u gone start s → ((i : ℕ) → StandsAt (standing (under old) t) 0 i → other i ≡ gone i) → Removes old new t u other start s
removes_as old new t u gone other start s is same = record {
  cells = λ i. is.cells i ∙ elim (cases_eq (pointer_at (standing (under old) t) 0 i).stamp 0) [
    | inl hole ↦ ap (cond (gone i) None) (no_stamp (pointer_at (standing (under old) t) 0 i) hole) ∙ no_choice (gone i) ∙ sym (ap (cond (other i) None) (no_stamp (pointer_at (standing (under old) t) 0 i) hole) ∙ no_choice (other i))
    | inr some ↦ ap (λ x. cond x None (stamp_in (pointer_at (standing (under old) t) 0 i))) (sym (same i some))
  ];
  erased = λ holds. erased_as (standing (under old) t) (standing (under old) u) gone other start s (is.erased holds) same;
  keeps = is.keeps;
  sound = is.sound;
  released = is.released;
  strays = is.strays;
  alters = is.alters;
}

-- no mark lies over holes alone in a tree that is the same
pub same_holds : (old new : Under) (t u : Tree) → new ≡ old → IsSame (standing old t) (standing new u) → HoldsCells (standing old t) → HoldsCells (standing old u)
same_holds old new t u held same holds level place stands holes =
    let here = same_over old new t u held same in
    let stamps : (k q : ℕ) → (pointer_at (standing old u) k q).stamp ≡ (pointer_at (standing old t) k q).stamp = λ k q. ap (λ (p : Pointer). p.stamp) (here.pointers k q) in
    holds level place (λ none. stands (stamps level place ∙ none)) (λ i at. sym (stamps 0 i) ∙ holes i at)

-- one cell goes of a tree that was loaded
pub removes_one : (a b c : Shown) (t u w : Tree) (i start s count : ℕ) → IsUntouched a b → IsCalm a b → IsSame (standing (under a) t) (standing (under b) u) → KeepsBlocks (under a) t u → (Stands a t → Stands b u) → Leaves (loaded a t) (loaded b u)
    → ErasesCell (under a) b c u w i start s count → Removes a c t w (nat_eq i) start s
removes_one a b c t u w i start s count untouched calm same keeps sound leaves erases =
    removes_then a b c t u w (λ _. false) (nat_eq i) i start s (removes_nothing a b t u (λ _. false) start s untouched calm same keeps sound leaves (λ _ _. refl)) erases.goes erases.released erases.strays (λ _. refl)
    (same_holds (under a) (under b) t u (ap (λ h v. fin.get h v) untouched.held) same)

-- a cell past the levels
pub none_past : (t : Rooted) (i : ℕ) → fan ^ t.levels ≤ i → (pointer_at t 0 i).stamp ≡ 0
none_past t i le = let first : i / fan ^ 0 ≡ i = omega arith in ap (λ q. (pointer_at t 0 q).stamp) (sym first) ∙ ap (λ (p : Pointer). p.stamp) (past_at t i 0 le (omega arith))

-- no cell is one that is a hole
pub not_a_hole : (t : Rooted) (i : ℕ) → (pointer_at t 0 i).stamp ≡ 0 → (k : ℕ) → StandsAt t 0 k → nat_eq i k ≡ false
not_a_hole t i none k stands = elim (cases_eq i k) [
  | inl same ↦ absurd (stands (ap (λ j. (pointer_at t 0 j).stamp) (sym same) ∙ none))
  | inr differs ↦ grind (arith, nat_tests)
]

-- the nodes over a cell
pub way_kept : (blocks : Under) (t : Tree) (i levels : ℕ) → t.levels ≡ levels → ((level : ℕ) → 1 ≤ level → level ≤ levels → IsKept (standing blocks t) level (i / fan ^ level)) → HasWay t i
way_kept blocks t i levels same kept level low high = let node = kept level low (omega (arith, high, same)) in (node.pointers, node.node)

-- ---- over the blocks of afterwards
module _ (old new : Shown) (t u : Tree) (gone : ℕ → Bool) (start s : ℕ) (is : Removes old new t u gone start s) (stands : Stands old t) where
  pub removed : HoldsCells (standing (under old) t) → IsErased (standing (under old) t) (standing (under new) u) gone start s
  removed holds = erased_alike (standing (under old) t) (standing (under old) u) (standing (under new) u) gone start s (is.erased holds) (released_alike old new t u stands is.keeps is.released)

  pub removed_seen : Erases (standing (under old) t) (standing (under new) u) gone start s
  removed_seen = erases (standing (under old) t) (standing (under new) u) gone start s removed

  pub removed_stands : Stands new u
  removed_stands = released_sound old new t u stands is.keeps is.released (is.sound stands)

  -- what it leads to
  before : (level place v : ℕ) → StandsAt (standing (under old) u) level place → Leads (loaded old t) level place v → Leads (loaded_over (under old) u) level place v
  before level place v there led = record { some = there; placed = is.keeps.block level place there ∙ led.placed; vvbn = is.keeps.number level place there ∙ led.vvbn }

  pub removed_leads : LeadsNoMore (loaded old t) (loaded new u)
  removed_leads level place v led = led_before (under old) t u level place v is.keeps (moved_leads (under old) (under new) u (blocks_stay old new t u stands is.keeps is.released) level place v led)

  pub removed_alters : Alters s (loaded old t) (loaded new u)
  removed_alters = alters_over s (loaded old t) (under old) (under new) u (moved_pointers (under old) (under new) u (blocks_stay old new t u stands is.keeps is.released)) is.alters

  pub removed_hints : KeepsHints (loaded old t) (loaded new u)
  removed_hints level place v led =
      let same = moved_pointers (under old) (under new) u (blocks_stay old new t u stands is.keeps is.released) level place in
      ap (λ (p : Pointer). p.pvbn) same ∙ is.keeps.hint level place (λ none. led.some (ap (λ (p : Pointer). p.stamp) same ∙ none))

  pub removed_lets_go : (level place v : ℕ) → Leads (loaded old t) level place v → Leads (loaded new u) level place v ⊎ (new.used v ≡ None)
  removed_lets_go level place v led = elim (cases_eq (pointer_at (standing (under old) u) level place).stamp 0) [
    | inl hole ↦ inr (is.released.gone v (record { level = level; place = place; led = led; goes = hole }))
    | inr there ↦ inl (moved_keeps (under old) (under new) u (blocks_stay old new t u stands is.keeps is.released) level place v (before level place v there led))
  ]

-- ---- what a call answered

pub stands_after : {X : Type 0} (r : Result X BlockFault) (old new : Shown) (t u : Tree) (gone : ℕ → Bool) (start s : ℕ) → OnOk r (Removes old new t u gone start s) → OnErr r (Carries old new t u)
    → Stands old t → Stands new u
stands_after (Ok x) old new t u gone start s done stays stands = removed_stands old new t u gone start s done stands
stands_after (Err e) old new t u gone start s done stays stands = stays.stands stands

pub leads_after : {X : Type 0} (r : Result X BlockFault) (old new : Shown) (t u : Tree) (gone : ℕ → Bool) (start s : ℕ) → OnOk r (Removes old new t u gone start s) → OnErr r (Carries old new t u)
    → Stands old t → LeadsNoMore (loaded old t) (loaded new u)
leads_after (Ok x) old new t u gone start s done stays stands = removed_leads old new t u gone start s done stands
leads_after (Err e) old new t u gone start s done stays stands = stays.leads

pub alters_after : {X : Type 0} (r : Result X BlockFault) (old new : Shown) (t u : Tree) (gone : ℕ → Bool) (start s : ℕ) → OnOk r (Removes old new t u gone start s) → OnErr r (Leaves (loaded old t) (loaded new u))
    → Stands old t → Alters s (loaded old t) (loaded new u)
alters_after (Ok x) old new t u gone start s done leaves stands = removed_alters old new t u gone start s done stands
alters_after (Err e) old new t u gone start s done leaves stands = only_leaves s (loaded old t) (loaded new u) leaves

pub hints_after : {X : Type 0} (r : Result X BlockFault) (old new : Shown) (t u : Tree) (gone : ℕ → Bool) (start s : ℕ) → OnOk r (Removes old new t u gone start s) → OnErr r (Carries old new t u)
    → Stands old t → KeepsHints (loaded old t) (loaded new u)
hints_after (Ok x) old new t u gone start s done stays stands = removed_hints old new t u gone start s done stands
hints_after (Err e) old new t u gone start s done stays stands = stays.hints

may_go_after : {X : Type 0} (r : Result X BlockFault) (old new : Shown) (t u : Tree) (gone : ℕ → Bool) (start s : ℕ) → OnOk r (Removes old new t u gone start s) → OnErr r (IsUntouched old new)
    → (v : ℕ) → (under new v ≡ under old v) ⊎ (under new v ≡ None)
may_go_after (Ok x) old new t u gone start s done untouched v = done.released.may_go v
may_go_after (Err e) old new t u gone start s done untouched v = inl (λ j. fin.get (untouched.held j) v)

pub lets_go_after : {X : Type 0} (r : Result X BlockFault) (old new : Shown) (t u : Tree) (gone : ℕ → Bool) (start s : ℕ) → OnOk r (Removes old new t u gone start s) → OnErr r (Carries old new t u)
    → Stands old t → (level place v : ℕ) → Leads (loaded old t) level place v → Leads (loaded new u) level place v ⊎ (new.used v ≡ None)
lets_go_after (Ok x) old new t u gone start s done stays stands = removed_lets_go old new t u gone start s done stands
lets_go_after (Err e) old new t u gone start s done stays stands = λ level place v led. inl (stays.keeps level place v led)

pub count_after : (r : Result ℕ BlockFault) (old new : Shown) (t u : Tree) (gone : ℕ → Bool) (start s : ℕ) → OnOk r (Removes old new t u gone start s)
    → IfOk r (λ count. positions_of (standing (under old) t) ≡ positions_of (standing (under old) u) + count)
    → IfOk r (λ count. Stands old t → positions_of (standing (under old) t) ≡ positions_of (standing (under new) u) + count)
count_after (Ok x) old new t u gone start s done count = λ stands. count ∙ ap (λ n. n + x) (sym (alike_count (standing (under old) u) (standing (under new) u) (released_alike old new t u stands done.keeps done.released)))
count_after (Err e) old new t u gone start s done count = tt

pub strays_after : {X : Type 0} (r : Result X BlockFault) (old new : Shown) (t u : Tree) (gone : ℕ → Bool) (start s : ℕ) → OnOk r (Removes old new t u gone start s) → OnErr r (IsUntouched old new)
    → Stands old t → new.strays ≡ old.strays
strays_after (Ok x) old new t u gone start s done untouched stands = done.strays stands
strays_after (Err e) old new t u gone start s done untouched stands = untouched.strays

pub remains_after : {X : Type 0} (r : Result X BlockFault) (t u : Rooted) → OnErr r (IsSame t u) → OnErr r (Remains t u)
remains_after (Ok x) t u same = tt
remains_after (Err e) t u same = λ seen contents shows.
    let alike = same_alike t u same in record {
      levels = shows.levels ∙ sym alike.levels;
      stamps = λ level place. shows.stamps level place ∙ sym (alike.stamps level place);
      blocks = λ i. shows.blocks i ∙ sym (alike.blocks i);
    }

-- a whole removal, from what it did over the blocks of before
pub removal_after : (told calls : Type 0) (r : Result ℕ BlockFault) (old new : Shown) (t u : Tree) (gone : ℕ → Bool) (start s : ℕ) → Removing told calls old new t u gone start s r → Removal told calls old new t u gone start s r
removal_after told calls r old new t u gone start s did = record {
  erased = λ tells. on_ok_weaker r (removed_seen old new t u gone start s) (did.done tells);
  place_by_place = λ tells. on_ok_weaker r (removed old new t u gone start s) (did.done tells);
  strays = λ tells. strays_after r old new t u gone start s (did.done tells) did.untouched;
  released = λ tells. on_ok_weaker r (λ removes. removes.released) (did.done tells);
  owner = did.owner;
  stands = λ tells. stands_after r old new t u gone start s (did.done tells) (did.stays tells);
  leads = λ tells. leads_after r old new t u gone start s (did.done tells) (did.stays tells);
  stored_well = λ tells stood. stored_off (loaded old t) (loaded new u) new.used (stands_after r old new t u gone start s (did.done tells) (did.stays tells) stood) did.owner
      (λ v. may_go_after r old new t u gone start s (did.done tells) did.untouched v) (leads_after r old new t u gone start s (did.done tells) (did.stays tells) stood);
  tells = λ tells stood. tells_on (loaded old t) (loaded new u) (leads_after r old new t u gone start s (did.done tells) (did.stays tells) stood) (hints_after r old new t u gone start s (did.done tells) (did.stays tells) stood);
  lets_go = λ tells. lets_go_after r old new t u gone start s (did.done tells) (did.stays tells);
  count = λ tells. count_after r old new t u gone start s (did.done tells) (did.count tells);
  alters = λ tells. alters_after r old new t u gone start s (did.done tells) (did.leaves tells);
  leaves = did.leaves;
  failed = λ tells. remains_after r (standing (under old) t) (standing (under new) u) (did.failed tells);
  untouched = did.untouched;
  room = did.room;
  pending = did.still;
  cells = did.held;
  called = did.calls;
  counts = did.counts;
  cause = did.cause;
}
