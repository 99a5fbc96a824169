-- A change of an inode file after a call that left it seen as before.
use Rattle.std.proofs.Common.{◌≡◌, ℕ, ◌/◌, ◌^◌, inl, inr, ⊎_elim, Bool, cond, nat_eq, List, refl, sym, ap, ◌∙◌, arith}
use Rattle.std.specs.Prelude.{Option, None, Ok, Err}
use Rattle.fv_disk.specs.declared.fault.BlockFault.{BlockFault}
use Rattle.fv_codec.specs.declared.pointer.Pointer.{Pointer}
use Rattle.fv_codec.specs.declared.inode.InodeRecord.{InodeRecord}
use Rattle.fv_model.specs.Trees.{fan, levels_with}
use Rattle.fv_tables.specs.Spelled.{Rooted, pointer_at}
use Rattle.fv_tables.proofs.Pointers.{no_stamp}
use Rattle.fv_tree.specs.declared.kept.Tree.{Tree}
use Rattle.fv_tree.specs.Sources.{Shown}
use Rattle.fv_tree.specs.Standing.{standing, under}
use Rattle.fv_tree.specs.Writing.{IsAlike, IsWritten}
use Rattle.fv_tree.specs.Erasing.{HoldsCells, Erases}
use Rattle.fv_tree.specs.Releasing.{IsDropped}
use Rattle.fv_tree.specs.Flushing.{loaded}
use Rattle.fv_tree.specs.Altering.{Leaves}
use Rattle.fv_tree.specs.Leading.{LeadsNoMore}
use Rattle.fv_tree.proofs.Altered.{leaves_alters, only_leaves}
use Rattle.fv_tree.proofs.Causes.{counts_then}
use Rattle.fv_tree.proofs.Counts.{alike_count}
use Rattle.fv_tree.proofs.Erased.{hole_of}
use Rattle.fv_tree.proofs.Held.{at_root}
use Rattle.fv_tree.proofs.Levels.{fan_pos}
use Rattle.fv_tree.proofs.Released.{released_as}
use Rattle.fv_tree.proofs.Seen.{remains}
use Rattle.fv_inode.specs.Failing.{OnlyLoads}
use Rattle.fv_inode.specs.Changing.{Rewrites, HasNeighbor, Takes, TakesFile}
use Rattle.fv_inode.proofs.Indexed.{alike_indexes}
use Rattle.fv_inode.proofs.Looked.{earlier, loaded_as, released_on}
use Rattle.fv_inode.proofs.Slots.{alike_files}

pub alike_itself : (t : Rooted) → IsAlike t t
alike_itself t = record { levels = refl; stamps = λ level place. refl; blocks = λ index. refl }

module _ (t u : Rooted) (alike : IsAlike t u) where
  hole_after : (level place : ℕ) → (pointer_at t level place).stamp ≡ 0 → (pointer_at u level place).stamp ≡ 0
  hole_after level place none = hole_of (pointer_at u level place) (alike.stamps level place ∙ no_stamp (pointer_at t level place) none)

  hole_before : (level place : ℕ) → (pointer_at u level place).stamp ≡ 0 → (pointer_at t level place).stamp ≡ 0
  hole_before level place none = hole_of (pointer_at t level place) (sym (alike.stamps level place) ∙ no_stamp (pointer_at u level place) none)

  root_stamp : (v : Rooted) → v.root.stamp ≡ (pointer_at v v.levels (0 / fan ^ v.levels)).stamp
  root_stamp v = ap (λ (p : Pointer). p.stamp) (at_root v 0 (fan_pos v.levels))

  at_levels : (pointer_at t t.levels (0 / fan ^ t.levels)).stamp ≡ (pointer_at t u.levels (0 / fan ^ u.levels)).stamp
  at_levels = ap (λ l. (pointer_at t l (0 / fan ^ l)).stamp) (sym alike.levels)

  bare_after : t.root.stamp ≡ 0 → u.root.stamp ≡ 0
  bare_after none = root_stamp u ∙ hole_after u.levels (0 / fan ^ u.levels) (sym at_levels ∙ sym (root_stamp t) ∙ none)

  bare_before : u.root.stamp ≡ 0 → t.root.stamp ≡ 0
  bare_before none = root_stamp t ∙ at_levels ∙ hole_before u.levels (0 / fan ^ u.levels) (sym (root_stamp u) ∙ none)

  -- ---- a write

  written_after : (w : Rooted) (i s : ℕ) (block : List ℕ) → IsWritten u w i s block → IsWritten t w i s block
  written_after w i s block is = record {
    levels = is.levels ∙ ap (λ l. levels_with l i) alike.levels;
    more = omega (arith, is.more, alike.levels);
    way = is.way;
    grown = λ some level low high. is.grown (λ none. some (bare_before none)) level (omega (arith, low, alike.levels)) high;
    others = λ level place off where_. is.others level place off (⊎_elim (λ le. inl (omega (arith, le, alike.levels))) (λ o. inr (⊎_elim (λ apart. inl apart) (λ none. inr (bare_after none)) o)) where_) ∙ alike.stamps level place;
    cell = is.cell;
    blocks = λ index off. is.blocks index off ∙ alike.blocks index;
  }

  pub rewrites_after : (w : Rooted) (n s : ℕ) (now : Option InodeRecord) → Rewrites u w n s now → Rewrites t w n s now
  rewrites_after w n s now is = record {
    files = λ k. is.files k ∙ ap (λ o. cond (nat_eq k n) now o) (alike_files t u alike k);
    block = is.block;
    inodes = is.inodes;
    spelled = is.spelled;
    written = λ seen contents shows. is.written seen contents (remains t u alike seen contents shows);
    place_by_place = written_after w (n / 16) s is.block is.place_by_place;
  }

  -- ---- a removal

  pub holds_after : HoldsCells t → HoldsCells u
  holds_after holds level place some holes =
      holds level place (λ none. some (hole_after level place none)) (λ i at. hole_before 0 i (holes i at))

  neighbor_after : (n : ℕ) → HasNeighbor u n → HasNeighbor t n
  neighbor_after n has = record { other = has.other; file = has.file; apart = has.apart; beside = has.beside; there = sym (alike_files t u alike has.other) ∙ has.there }

  neighbor_before : (n : ℕ) → HasNeighbor t n → HasNeighbor u n
  neighbor_before n has = record { other = has.other; file = has.file; apart = has.apart; beside = has.beside; there = alike_files t u alike has.other ∙ has.there }

  erases_after : (w : Rooted) (gone : ℕ → Bool) (start s : ℕ) → Erases u w gone start s → Erases t w gone start s
  erases_after w gone start s is seen contents rest goes left shows = is seen contents rest goes left (remains t u alike seen contents shows)

  pub takes_after : (w : Rooted) (n s : ℕ) → Takes u w n s → Takes t w n s
  takes_after w n s is = record {
    files = λ k. is.files k ∙ ap (λ o. cond (nat_eq k n) None o) (alike_files t u alike k);
    indexes = λ named. is.indexes (alike_indexes t u alike named);
    tree = ⊎_elim (λ beside. inl (neighbor_after n beside.0, rewrites_after w n s None beside.1)) (λ last. inr ((λ has. last.0 (neighbor_before n has)), erases_after w (nat_eq (n / 16)) 0 s last.1)) is.tree;
  }

-- ---- what a removal drops

drops_as : (old : Shown) (t u w : Tree) (v : ℕ) → LeadsNoMore (loaded old t) (loaded old u) → IsDropped (under old) u w v → IsDropped (under old) t w v
drops_as old t u w v leads drops = record { level = drops.level; place = drops.place; led = leads drops.level drops.place v drops.led; goes = drops.goes }

-- a removal after a call that only loaded
pub takes_then : {S : Type 0} (told before calls : Type 0) (old mid new : Shown) (t u w : Tree) (n s count : ℕ) (x : S) → OnlyLoads told old mid t u (Ok x) → (told → IsAlike (standing (under old) t) (standing (under mid) u)) → (told → Leaves (loaded old t) (loaded mid u))
    → calls → TakesFile told before mid new u w n s (Ok count) → TakesFile told calls old new t w n s (Ok count)
takes_then told before calls old mid new t u w n s count x first alike leaves called second = record {
  removed = λ is sound holds. takes_after (standing (under old) t) (standing (under mid) u) (alike is) (standing (under new) w) n s
      (second.removed is (first.stands is sound) (holds_after (standing (under old) t) (standing (under mid) u) (alike is) holds));
  count = λ is sound. sym (alike_count (standing (under old) t) (standing (under mid) u) (alike is)) ∙ second.count is (first.stands is sound);
  strays = λ is sound. second.strays is (first.stands is sound) ∙ first.looks.untouched.strays;
  room = omega (arith, second.room, first.looks.untouched.room);
  released = λ is.
      let less : LeadsNoMore (loaded old t) (loaded old u) = earlier (λ v. LeadsNoMore (loaded old t) (loaded_as u v)) u old mid first.looks.untouched.held (first.leads is) in
      let more : LeadsNoMore (loaded old u) (loaded old t) = earlier (λ v. LeadsNoMore (loaded_as u v) (loaded old t)) u old mid first.looks.untouched.held (first.keeps is) in
      released_as old new (IsDropped (under old) u w) (IsDropped (under old) t w) (released_on u w old mid new first.looks.untouched.held first.looks.untouched.used first.looks.counts.calm (second.released is))
      (λ v. drops_as old t u w v less) (λ v. drops_as old u t w v more);
  leads = λ is sound level place v led. first.leads is level place v (second.leads is (first.stands is sound) level place v led);
  stored_well = λ is sound was. second.stored_well is (first.stands is sound) (first.stored_well is was);
  tells = λ is sound was. second.tells is (first.stands is sound) (first.tells is was);
  lets_go = λ is sound level place v led. second.lets_go is (first.stands is sound) level place v (first.keeps is level place v led);
  alters = λ is sound. leaves_alters s (loaded old t) (loaded mid u) (loaded new w) (leaves is) (second.alters is (first.stands is sound));
  leaves = λ is. tt;
  failed = λ is. tt;
  owner = second.owner ∙ first.owner;
  stands = λ is sound. second.stands is (first.stands is sound);
  untouched = tt;
  called = called;
  counts = counts_then old mid new (Ok count) first.looks.counts.calm second.counts;
  cause = tt;
}

-- a call that failed before it
pub takes_failed : {S : Type 0} (told calls : Type 0) (old new : Shown) (t u : Tree) (n s : ℕ) (e : BlockFault) → OnlyLoads {T = S} told old new t u (Err e) → calls → TakesFile told calls old new t u n s (Err e)
takes_failed told calls old new t u n s e first called = record {
  removed = λ is. tt;
  count = λ is. tt;
  strays = λ is sound. first.looks.untouched.strays;
  room = omega (arith, first.looks.untouched.room);
  released = λ is. tt;
  leads = λ is sound. first.leads is;
  stored_well = λ is sound. first.stored_well is;
  tells = λ is sound. first.tells is;
  lets_go = λ is sound level place v led. inl (first.keeps is level place v led);
  alters = λ is sound. only_leaves s (loaded old t) (loaded new u) (first.leaves is);
  leaves = first.leaves;
  failed = first.failed;
  owner = first.owner;
  stands = first.stands;
  untouched = first.looks.untouched;
  called = called;
  counts = record { faults = first.looks.counts.faults; damages = first.looks.counts.damages; spent = first.looks.counts.spent; calm = tt };
  cause = first.looks.cause;
}

-- over content that isn't told, no file had the number
pub takes_none : {S : Type 0} (told calls : Type 0) (old new : Shown) (t u : Tree) (n s : ℕ) (x : S) → OnlyLoads told old new t u (Ok x) → (told → ⊥) → calls → TakesFile told calls old new t u n s (Ok 0)
takes_none told calls old new t u n s x first silent called = record {
  removed = λ is. absurd (silent is);
  count = λ is. absurd (silent is);
  strays = λ is sound. first.looks.untouched.strays;
  room = omega (arith, first.looks.untouched.room);
  released = λ is. absurd (silent is);
  leads = λ is sound. first.leads is;
  stored_well = λ is sound. first.stored_well is;
  tells = λ is sound. first.tells is;
  lets_go = λ is sound level place v led. inl (first.keeps is level place v led);
  alters = λ is sound. absurd (silent is);
  leaves = λ is. tt;
  failed = λ is. tt;
  owner = first.owner;
  stands = first.stands;
  untouched = tt;
  called = called;
  counts = record { faults = first.looks.counts.faults; damages = first.looks.counts.damages; spent = first.looks.counts.spent; calm = first.looks.counts.calm };
  cause = tt;
}
