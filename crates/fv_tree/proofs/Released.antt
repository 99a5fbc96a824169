-- Blocks that go out of use, one after another, and the tree over those that stay.
use Rattle.std.proofs.Common.{◌≡◌, ◌≢◌, ℕ, ◌+◌, ◌/◌, ◌%◌, ◌^◌, ◌⊎◌, inl, inr, Bool, true, false, cond, List, Option, Some, None, get_or, is_some, refl, sym, ap, ◌∙◌, arith, nat_eq, ◌==◌, if◌then◌else◌}
use Rattle.std.specs.Ordering.{nat_cmp, eq_by_cmp}
use Rattle.std.specs.Cmp.{nat_cmp_total}
use Rattle.std.specs.BTreeMap as tree
use Rattle.std.specs.FinMap as fin
use Rattle.std.specs.Option.{option_map}
use Rattle.std.proofs.lemmas.Bool.{cases_eq}
use Rattle.std.proofs.lemmas.Bool.Decides.{nat_tests}
use Rattle.fv_codec.specs.declared.pointer.Pointer.{Pointer}
use Rattle.fv_model.specs.Trees.{fan, spot_cmp}
use Rattle.fv_tree.specs.declared.kept.Tree.{Tree}
use Rattle.fv_tree.specs.declared.kept.KeptNode.{KeptNode}
use Rattle.fv_tree.specs.declared.kept.KeptCell.{KeptCell}
use Rattle.fv_tree.specs.Spelled.{Under, Rooted, hole, pointers_at, pointers_in, pointer_at, stamp_in, block_at}
use Rattle.fv_tree.specs.Sources.{Shown, IsCalm, Drops, Use}
use Rattle.fv_tree.specs.Standing.{standing, under, node_in, cell_in, IsSameBut}
use Rattle.fv_tree.specs.Erasing.{StandsAt, IsErased}
use Rattle.fv_tree.specs.Keeping.{IsSame}
use Rattle.fv_tree.specs.Writing.{IsAlike}
use Rattle.fv_tree.specs.Releasing.{IsDropped, Releases, KeepsBlocks}
use Rattle.fv_tree.specs.Carried.{Brings}
use Rattle.fv_tree.specs.Flushing.{Leads, IsSound, loaded, loaded_over, node_placed, cell_placed, placed_in, placed_of, kind_for}
use Rattle.fv_tree.proofs.Below.{no_pointers, kept_pointers, read_pointers}
use Rattle.fv_tree.proofs.Causes.{calm_then}
use Rattle.fv_tree.proofs.Hints.{right_as}
use Rattle.fv_tree.proofs.Ways.{IsWay, own_way, spot_is, brings_seen, way_pointers}
use Rattle.fv_tree.proofs.Writes.{block_none, block_here}

-- ---- one after another

pub nothing_released : (old new : Shown) → new.held ≡ old.held → new.used ≡ old.used → IsCalm old new → Releases old new (λ v. ⊥)
nothing_released old new held used calm = record {
  gone = λ v none. absurd none;
  used = λ v _. ap (λ f. f v) used;
  held = λ v _. ap (λ m. fin.get m v) held;
  unused = λ v none. ap (λ f. f v) used ∙ none;
  may_go = λ v. inl (ap (λ m. fin.get m v) held);
  calm = calm;
}

pub one_released : (old new : Shown) (vvbn : ℕ) → Drops old vvbn new → Releases old new (λ v. v ≡ vvbn)
one_released old new vvbn drops = record {
  gone = λ v same. let test : nat_eq v vvbn ≡ true = grind (arith, nat_tests) in drops.used v ∙ ap (λ b. cond b None (old.used v)) test;
  used = λ v differs. drops.used v ∙ ap (λ b. cond b None (old.used v)) (apart v differs);
  held = λ v differs. elim drops.held [
    | inl removed ↦ ap (λ m. fin.get m v) removed ∙ fin.get-remove nat_cmp_total old.held vvbn v ∙ ap (λ b. cond b None (fin.get old.held v)) (turned v vvbn ∙ apart v differs)
    | inr same ↦ ap (λ m. fin.get m v) same
  ];
  unused = λ v none. drops.used v ∙ stays (nat_eq v vvbn) (old.used v) none;
  may_go = λ v. elim drops.held [
    | inl removed ↦ either_way v (eq_by_cmp nat_cmp v vvbn) (ap (λ m. fin.get m v) removed ∙ fin.get-remove nat_cmp_total old.held vvbn v)
    | inr same ↦ inl (ap (λ m. fin.get m v) same)
  ];
  calm = drops.calm;
}
  where
    apart : (v : ℕ) → (v ≡ vvbn → ⊥) → nat_eq v vvbn ≡ false
    apart v differs = elim (cases_eq v vvbn) [
      | inl same ↦ absurd (differs same)
      | inr other ↦ grind (arith, nat_tests)
    ]

    turned : (q k : ℕ) → eq_by_cmp nat_cmp q k ≡ nat_eq q k
    turned q k = grind (arith, nat_tests)

    stays : (b : Bool) (c : Option Use) → c ≡ None → cond b None c ≡ None
    stays true c e = refl
    stays false c e = e

    either_way : (v : ℕ) (b : Bool) → fin.get new.held v ≡ cond b None (fin.get old.held v) → (fin.get new.held v ≡ fin.get old.held v) ⊎ (fin.get new.held v ≡ None)
    either_way v true e = inr e
    either_way v false e = inl e

pub released_then : (a b c : Shown) (P Q R : ℕ → Type 0) → Releases a b P → Releases b c Q → ((v : ℕ) → P v → R v) → ((v : ℕ) → Q v → R v) → ((v : ℕ) → R v → P v ⊎ Q v) → Releases a c R
released_then a b c P Q R first second one other split = record {
  gone = λ v r. elim (split v r) [
    | inl p ↦ second.unused v (first.gone v p)
    | inr q ↦ second.gone v q
  ];
  used = λ v not_. second.used v (λ q. not_ (other v q)) ∙ first.used v (λ p. not_ (one v p));
  held = λ v not_. second.held v (λ q. not_ (other v q)) ∙ first.held v (λ p. not_ (one v p));
  unused = λ v none. second.unused v (first.unused v none);
  may_go = λ v. elim (second.may_go v) [
    | inl same ↦ elim (first.may_go v) [
      | inl too ↦ inl (same ∙ too)
      | inr none ↦ inr (same ∙ none)
    ]
    | inr none ↦ inr none
  ];
  calm = calm_then a b c first.calm second.calm;
}

pub released_as : (a b : Shown) (P R : ℕ → Type 0) → Releases a b P → ((v : ℕ) → P v → R v) → ((v : ℕ) → R v → P v) → Releases a b R
released_as a b P R is to from = record {
  gone = λ v r. is.gone v (from v r);
  used = λ v not_. is.used v (λ p. not_ (to v p));
  held = λ v not_. is.held v (λ p. not_ (to v p));
  unused = is.unused;
  may_go = is.may_go;
  calm = is.calm;
}

pub block_read : (t : Rooted) (i : ℕ) → StandsAt t 0 i → t.cells i ≡ None → block_at t i ≡ t.under (pointer_at t 0 i).vvbn
unfolding block_at
block_read t i stands cell = let test : ((pointer_at t 0 i).stamp == 0) ≡ false = grind (arith, nat_tests) in rw (test, cell) refl

-- ---- a tree over blocks of which those under it stay

-- the VVBN to which a place leads
abbrev pub Led : Under → Tree → ℕ → ℕ → Type 0
Led blocks t level place = Leads (loaded_over blocks t) level place (pointer_at (standing blocks t) level place).vvbn

module _ (old new : Under) (u : Tree) (stay : (level place : ℕ) → Led old u level place → new (pointer_at (standing old u) level place).vvbn ≡ old (pointer_at (standing old u) level place).vvbn) where
  abbrev t : Rooted
  t = standing old u

  abbrev w : Rooted
  w = standing new u

  read_block : (level place : ℕ) → StandsAt t level place → (o : Option KeptNode) → tree.get spot_cmp u.nodes (level, place) ≡ o → option_map (λ (kept : KeptNode). kept.children) o ≡ None → level ≢ 0 → Led old u level place
  read_block level place stands o is none some = record {
    some = stands;
    placed = (let test : (level == 0) ≡ false = grind (arith, nat_tests) in ap (λ b. if b then cell_placed (tree.get nat_cmp u.cells place) else placed_in u.nodes level place) test) ∙ ap node_placed is ∙ unkept o none;
    vvbn = refl;
  }
    where
      unkept : (o : Option KeptNode) → option_map (λ (kept : KeptNode). kept.children) o ≡ None → node_placed o ≡ true
      unkept None e = refl
      unkept (Some kept) e = absurd cc

  read_cell_block : (i : ℕ) → StandsAt t 0 i → (o : Option KeptCell) → tree.get nat_cmp u.cells i ≡ o → option_map (λ (kept : KeptCell). kept.block.value) o ≡ None → Led old u 0 i
  read_cell_block i stands o is none = record {
    some = stands;
    placed = ap cell_placed is ∙ unkept o none;
    vvbn = refl;
  }
    where
      unkept : (o : Option KeptCell) → option_map (λ (kept : KeptCell). kept.block.value) o ≡ None → cell_placed o ≡ true
      unkept None e = refl
      unkept (Some kept) e = absurd cc

  same_children : (level place : ℕ) → level ≢ 0 → (o : Option (List Pointer)) → node_in u level place ≡ o → pointers_at w level place (pointer_at t level place) ≡ pointers_at t level place (pointer_at t level place)
  same_children level place some o is = elim (cases_eq (pointer_at t level place).stamp 0) [
    | inl none ↦ no_pointers w level place (pointer_at t level place) none ∙ sym (no_pointers t level place (pointer_at t level place) none)
    | inr stands ↦ at o is stands
  ]
    where
      at : (o : Option (List Pointer)) → node_in u level place ≡ o → StandsAt t level place → pointers_at w level place (pointer_at t level place) ≡ pointers_at t level place (pointer_at t level place)
      at (Some xs) is stands = kept_pointers w level place (pointer_at t level place) xs stands is ∙ sym (kept_pointers t level place (pointer_at t level place) xs stands is)
      at None is stands =
          read_pointers w level place (pointer_at t level place) stands is
          ∙ ap pointers_in (stay level place (read_block level place stands (tree.get spot_cmp u.nodes (level, place)) refl is some))
          ∙ sym (read_pointers t level place (pointer_at t level place) stands is)

  moved_way : IsWay w (pointer_at t)
  moved_way = record {
    top = (own_way t).top;
    down = λ level place lt. (own_way t).down level place lt ∙ sym (ap (λ (xs : List Pointer). get_or xs (place % fan) hole) (same_children (level + 1) (place / fan) (λ e. absurd (omega (arith, e))) (node_in u (level + 1) (place / fan)) refl));
  }

  pub moved_pointers : (level place : ℕ) → pointer_at w level place ≡ pointer_at t level place
  moved_pointers = way_pointers w t refl moved_way

  pub moved_blocks : (i : ℕ) → block_at w i ≡ block_at t i
  moved_blocks i = elim (cases_eq (pointer_at t 0 i).stamp 0) [
    | inl none ↦ block_none w i (ap (λ (p : Pointer). p.stamp) (moved_pointers 0 i) ∙ none) ∙ sym (block_none t i none)
    | inr stands ↦ at (cell_in u i) refl stands
  ]
    where
      at : (o : Option (List ℕ)) → cell_in u i ≡ o → StandsAt t 0 i → block_at w i ≡ block_at t i
      at (Some block) is stands = block_here w i block (λ none. stands (ap (λ (p : Pointer). p.stamp) (sym (moved_pointers 0 i)) ∙ none)) is ∙ sym (block_here t i block stands is)
      at None is stands =
          block_read w i (λ none. stands (ap (λ (p : Pointer). p.stamp) (sym (moved_pointers 0 i)) ∙ none)) is
          ∙ ap (λ (p : Pointer). new p.vvbn) (moved_pointers 0 i)
          ∙ stay 0 i (read_cell_block i stands (tree.get nat_cmp u.cells i) refl is)
          ∙ sym (block_read t i stands is)

  pub moved_alike : IsAlike t w
  moved_alike = record {
    levels = refl;
    stamps = λ level place. ap stamp_in (moved_pointers level place);
    blocks = moved_blocks;
  }

  pub moved_leads : (level place v : ℕ) → Leads (loaded_over new u) level place v → Leads (loaded_over old u) level place v
  moved_leads level place v led = record {
    some = λ none. led.some (ap (λ (p : Pointer). p.stamp) (moved_pointers level place) ∙ none);
    placed = led.placed;
    vvbn = ap (λ (p : Pointer). p.vvbn) (sym (moved_pointers level place)) ∙ led.vvbn;
  }

  pub moved_keeps : (level place v : ℕ) → Leads (loaded_over old u) level place v → Leads (loaded_over new u) level place v
  moved_keeps level place v led = record {
    some = λ none. led.some (ap (λ (p : Pointer). p.stamp) (sym (moved_pointers level place)) ∙ none);
    placed = led.placed;
    vvbn = ap (λ (p : Pointer). p.vvbn) (moved_pointers level place) ∙ led.vvbn;
  }

-- ---- a tree that stands on its blocks

-- what is led to is led to as before
pub led_before : (blocks : Under) (t u : Tree) (level place v : ℕ) → KeepsBlocks blocks t u → Leads (loaded_over blocks u) level place v → Leads (loaded_over blocks t) level place v
led_before blocks t u level place v keeps led = record {
  some = keeps.stood level place led.some;
  placed = sym (keeps.block level place led.some) ∙ led.placed;
  vvbn = sym (keeps.number level place led.some) ∙ led.vvbn;
}

module _ (old new : Shown) (t u : Tree) (stands : IsSound old.used (loaded old t)) (keeps : KeepsBlocks (under old) t u) (released : Releases old new (IsDropped (under old) t u)) where
  -- what is led to isn't dropped
  not_dropped : (level place v : ℕ) → Leads (loaded_over (under old) u) level place v → IsDropped (under old) t u v → ⊥
  not_dropped level place v led dropped =
      let same = stands.once level place dropped.level dropped.place v (led_before (under old) t u level place v keeps led) dropped.led in
      led.some ((λ j. (pointer_at (standing (under old) u) (same.0 j) (same.1 j)).stamp) ∙ dropped.goes)

  -- so the tree over the blocks of before has what it leads to in use as before
  pub sound_used : IsSound old.used (loaded_over (under old) u) → IsSound new.used (loaded_over (under old) u)
  sound_used sound = record {
    once = sound.once;
    held = sound.held;
    used = λ level place v led.
        right_as (kind_for u.owner level) (kind_for u.owner level) refl (pointer_at (standing (under old) u) level place) (pointer_at (standing (under old) u) level place) (old.used v) (new.used v) refl (released.used v (not_dropped level place v led)) (sound.used level place v led);
    over = sound.over;
    same = sound.same;
    cells = sound.cells;
    empty = sound.empty;
  }

  pub blocks_stay : (level place : ℕ) → Led (under old) u level place → under new (pointer_at (standing (under old) u) level place).vvbn ≡ under old (pointer_at (standing (under old) u) level place).vvbn
  blocks_stay level place led = let v = (pointer_at (standing (under old) u) level place).vvbn in released.held v (not_dropped level place v led)

  pub released_alike : IsAlike (standing (under old) u) (standing (under new) u)
  released_alike = moved_alike (under old) (under new) u blocks_stay

  pub released_sound : IsSound old.used (loaded_over (under old) u) → IsSound new.used (loaded new u)
  released_sound sound =
      let pointers = moved_pointers (under old) (under new) u blocks_stay in
      let leads = moved_leads (under old) (under new) u blocks_stay in
      let stood : (level place : ℕ) → StandsAt (standing (under new) u) level place → StandsAt (standing (under old) u) level place = λ level place there none. there (ap (λ (p : Pointer). p.stamp) (pointers level place) ∙ none) in record {
        once = λ level place k q v one other. sound.once level place k q v (leads level place v one) (leads k q v other);
        held = λ level place v led. ap is_some (released.held v (not_dropped level place v (leads level place v led))) ∙ sound.held level place v (leads level place v led);
        used = λ level place v led.
            right_as (kind_for u.owner level) (kind_for u.owner level) refl (pointer_at (standing (under old) u) level place) (pointer_at (standing (under new) u) level place) (old.used v) (new.used v) (ap (λ (p : Pointer). p.pvbn) (pointers level place)) (released.used v (not_dropped level place v (leads level place v led))) (sound.used level place v (leads level place v led));
        over = λ level place changed there lt. sound.over level place changed (stood level place there) lt;
        same = λ level place xs low node unchanged there.
            let was = sound.same level place xs low node unchanged (stood level place there) in
            let led : Led (under old) u level place = record { some = stood level place there; placed = was.1; vvbn = refl } in
            (ap (λ (p : Pointer). pointers_in (under new p.vvbn)) (pointers level place) ∙ ap pointers_in (blocks_stay level place led) ∙ was.0, was.1);
        cells = λ index block cell unchanged there.
            let was = sound.cells index block cell unchanged (stood 0 index there) in
            let led : Led (under old) u 0 index = record { some = stood 0 index there; placed = was.1; vvbn = refl } in
            (ap (λ (p : Pointer). under new p.vvbn) (pointers 0 index) ∙ blocks_stay 0 index led ∙ was.0, was.1);
        empty = λ level place low none where_. sound.empty level place low (ap (λ (p : Pointer). p.stamp) (sym (pointers level place)) ∙ none) where_;
      }

-- ---- what isn't lost in memory

pub keeps_then : (blocks : Under) (t u v : Tree) → KeepsBlocks blocks t u → KeepsBlocks blocks u v → KeepsBlocks blocks t v
keeps_then blocks t u v first second = record {
  stood = λ level place there. first.stood level place (second.stood level place there);
  number = λ level place there. second.number level place there ∙ first.number level place (second.stood level place there);
  block = λ level place there. second.block level place there ∙ first.block level place (second.stood level place there);
  hint = λ level place there. second.hint level place there ∙ first.hint level place (second.stood level place there);
}

pub keeps_self : (blocks : Under) (t : Tree) → KeepsBlocks blocks t t
keeps_self blocks t = record { stood = λ level place there. there; number = λ level place there. refl; block = λ level place there. refl; hint = λ level place there. refl }

-- a removal of cells, over another map in which it is the same
pub erased_alike : (a b c : Rooted) (gone : ℕ → Bool) (start s : ℕ) → IsErased a b gone start s → IsAlike b c → IsErased a c gone start s
erased_alike a b c gone start s is alike = record {
  cells = λ i. alike.stamps 0 i ∙ is.cells i;
  blocks = λ i. alike.blocks i ∙ is.blocks i;
  bare = λ level place goes. alike.stamps level place ∙ is.bare level place goes;
  over = λ level i j le there stays stood goes at. alike.stamps level (i / fan ^ level) ∙ is.over level i j le there stays stood goes at;
  others = λ level place stay. alike.stamps level place ∙ is.others level place stay;
  some = λ i there stays. alike.levels ∙ is.some i there stays;
  none = λ stay. alike.levels ∙ is.none stay;
  back = λ goes j stood. alike.levels ∙ is.back goes j stood;
}

-- ---- what comes into memory

same_block : (t u : Tree) (level place : ℕ) → u.cells ≡ t.cells → (level ≢ 0 → placed_in u.nodes level place ≡ placed_in t.nodes level place) → placed_of u level place ≡ placed_of t level place
same_block t u level place cells nodes = elim (cases_eq level 0) [
  | inl low ↦ let test : (level == 0) ≡ true = grind (arith, nat_tests) in rw test (ap (λ (m : tree.BTreeMap ℕ KeptCell). cell_placed (tree.get nat_cmp m place)) cells)
  | inr high ↦ let test : (level == 0) ≡ false = grind (arith, nat_tests) in rw test (nodes high)
]

-- a tree that is the same, where a node came into memory that is led to, or nothing leads to
keeps_same_blocks : (old new : Under) (t u : Tree) (level place : ℕ) (p : Pointer) → new ≡ old → IsSame (standing old t) (standing new u) → pointer_at (standing old t) level place ≡ p → u.cells ≡ t.cells
    → ((k q : ℕ) → ((k ≢ level) ⊎ (q ≢ place)) ⊎ (p.stamp ≢ 0) → placed_in u.nodes k q ≡ placed_in t.nodes k q) → KeepsBlocks old t u
keeps_same_blocks old new t u level place p under same at cells nodes = record {
  stood = stood;
  number = λ k q there. ap (λ (p : Pointer). p.vvbn) (pointers k q);
  block = λ k q there. same_block t u k q cells (λ _. nodes k q (elim (spot_is k q level place) [
    | inl here ↦ inr (λ none. stood k q there ((λ j. (pointer_at (standing old t) (here.0 j) (here.1 j)).stamp) ∙ ap (λ (p : Pointer). p.stamp) at ∙ none))
    | inr other ↦ inl other
  ]));
  hint = λ k q there. ap (λ (p : Pointer). p.pvbn) (pointers k q);
}
  where
    pointers : (k q : ℕ) → pointer_at (standing old u) k q ≡ pointer_at (standing old t) k q
    pointers k q = ap (λ (b : Under). pointer_at (standing b u) k q) (sym under) ∙ same.pointers k q

    stood : (k q : ℕ) → StandsAt (standing old u) k q → StandsAt (standing old t) k q
    stood k q there none = there (ap (λ (p : Pointer). p.stamp) (pointers k q) ∙ none)

brings_placed : (blocks : Under) (t u : Tree) (level place : ℕ) (p : Pointer) → Brings blocks t u level place p → (k q : ℕ) → ((k ≢ level) ⊎ (q ≢ place)) ⊎ (p.stamp ≢ 0) → placed_in u.nodes k q ≡ placed_in t.nodes k q
brings_placed blocks t u level place p brings = brings_seen node_placed blocks t u level place p brings (λ none read. ap node_placed read.is ∙ read.placed ∙ sym (ap node_placed none))

pub keeps_brought : (old new : Under) (t u : Tree) (level place : ℕ) (p : Pointer) → new ≡ old → IsSame (standing old t) (standing new u) → pointer_at (standing old t) level place ≡ p → IsSameBut t u → Brings old t u level place p → KeepsBlocks old t u
keeps_brought old new t u level place p under same at fields brings = keeps_same_blocks old new t u level place p under same at fields.cells (brings_placed old t u level place p brings)
