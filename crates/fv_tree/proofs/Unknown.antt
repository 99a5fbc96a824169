-- Unknown pointers of a tree: through each change they stand where they may, and a flush leaves just those that were to be expected.
use Rattle.std.proofs.Common.{◌≡◌, ◌≢◌, ◌<◌, ℕ, zero, suc, ◌+◌, ◌*◌, ◌/◌, ◌%◌, inl, inr, Bool, true, false, not, ◌&&◌, List, Option, Some, refl, sym, ap, subst, ◌∙◌, arith, ◌==◌, if◌then◌else◌}
use Rattle.std.specs.Prelude.{count_by}
use Rattle.std.specs.List.{list_any, range_with_len}
use Rattle.std.proofs.lemmas.Bool.{cases_eq, cases_lt, and_parts}
use Rattle.std.proofs.lemmas.Bool.Decides.{nat_tests}
use Rattle.fv_codec.specs.declared.pointer.Pointer.{Pointer}
use Rattle.fv_model.specs.Trees.{fan, Spot}
use Rattle.fv_tables.specs.Told.{spots}
use Rattle.fv_tables.proofs.Lists.{any_in_range}
use Rattle.fv_tree.specs.declared.kept.Tree.{Tree}
use Rattle.fv_tree.specs.Spelled.{Under, Rooted, stored, block_at, pointer_at}
use Rattle.fv_tree.specs.Sources.{Use}
use Rattle.fv_tree.specs.Standing.{standing}
use Rattle.fv_tree.specs.Writing.{IsAlike}
use Rattle.fv_tree.specs.Altering.{Alters, IsAsBefore, Leaves}
use Rattle.fv_tree.specs.Beside.{unread}
use Rattle.fv_tree.specs.Flushing.{Loaded, IsSound, IsFlushed, Flushes, has_unknown_root, is_unknown, loaded_over}
use Rattle.fv_tree.specs.Unknown.{KeepsContents, LeadsUnknown, asks_unknown, unknown_in, unknown_root_in, will_be_unknown}
use Rattle.fv_tree.proofs.Cases.{bit, there, false_is_true, first_true}
use Rattle.fv_tree.proofs.Hints.{unknown_is}
use Rattle.fv_tree.proofs.Unchanged.{block_read}
use Rattle.fv_tree.proofs.Ways.{past, under_none}
use Rattle.fv_tree.proofs.Writes.{block_here, none_at}

-- ---- tests

iff : (a b : Bool) → (a ≡ true → b ≡ true) → (b ≡ true → a ≡ true) → a ≡ b
iff true b to back = sym (to refl)
iff false true to back = back refl
iff false false to back = refl

made_unknown : (p : Pointer) → p.stamp ≢ 0 → p.pvbn ≡ 0 → is_unknown p ≡ true
made_unknown p some none =
    let one : (p.stamp == 0) ≡ false = grind (arith, nat_tests) in
    let two : (p.pvbn == 0) ≡ true = grind (arith, nat_tests) in
    λ i. not (one i) && two i

no_zero : (p : Pointer) → p.stamp ≢ 0 → (p.stamp == 0) ≡ false
no_zero p some = grind (arith, nat_tests)

some_stamp : (p : Pointer) → not (p.stamp == 0) ≡ true → p.stamp ≢ 0
some_stamp p test = grind (arith, nat_tests)

-- a number of a range that passes
any_at : (test : ℕ → Bool) (from count : ℕ) → list_any test (range_with_len from count) ≡ true → (k : ℕ) × (k < from + count) × (test k ≡ true)
any_at test from zero e = false_is_true false refl e
any_at test from (suc count) e = elim (first_true (test from) (list_any test (range_with_len (from + 1) count)) e) [
  | inl here ↦ (from, omega arith, here)
  | inr later ↦ let rest = any_at test (from + 1) count later in (rest.0, omega (arith, rest.1), rest.2)
]

next : (n : ℕ) → suc n ≡ n + 1
next n = omega arith

child_over : (place slot : ℕ) → slot < fan → (fan * place + slot) / fan ≡ place
child_over place slot low = omega (arith, low)

child_number : (n place : ℕ) → n / fan ≡ place → fan * place + n % fan ≡ n
child_number n place e = omega (arith, e)

child_slot : (n : ℕ) → n % fan < 0 + fan
child_slot n = omega arith

-- ---- a flush

module _ {hides : Bool} (old new : Loaded) (used uses : ℕ → Option Use) (flushes : Flushes hides old used new uses) (sound : IsSound used old) where
  stood : (level place : ℕ) → (pointer_at new.tree level place).stamp ≢ 0 → (pointer_at old.tree level place).stamp ≢ 0
  stood level place some e = some (flushes.stamps level place ∙ e)

  nodes : LeadsUnknown old → (level place : ℕ) → (pointer_at new.tree level place).stamp ≢ 0 → (pointer_at new.tree level place).pvbn ≡ 0 → level < new.tree.levels → new.changed (level + 1) (place / fan) ≡ false
      → (pointer_at new.tree (level + 1) (place / fan)).pvbn ≡ 0
  nodes leads level place some none low still =
      let under : level < old.tree.levels = omega (arith, low, flushes.alike.levels) in
      let before = stood level place some in
      elim (bit (old.changed (level + 1) (place / fan))) [
        | inr was ↦ flushes.unknown level place (record { was = was; done = still; some = λ e. before (under_none old.tree level place under e) }) some none
        | inl same ↦ elim (bit (old.changed level place)) [
          | inr child ↦ false_is_true (old.changed (level + 1) (place / fan)) same (sound.over level place child before under)
          | inl child ↦
              ap (λ (p : Pointer). p.pvbn) (flushes.stays (level + 1) (place / fan) (inr same))
              ∙ leads.nodes level place before (sym (ap (λ (p : Pointer). p.pvbn) (flushes.stays level place (inr child))) ∙ none) under same
        ]
      ]

  roots : LeadsUnknown old → (place : ℕ) (block : List ℕ) → (pointer_at new.tree 0 place).stamp ≢ 0 → new.changed 0 place ≡ false → block_at new.tree place ≡ Some block → has_unknown_root new.tree.owner block ≡ true
      → (pointer_at new.tree 0 place).pvbn ≡ 0
  roots leads place block some still holds unknown = elim (bit (old.changed 0 place)) [
    | inr was ↦ flushes.unknown_roots place block (record { was = was; done = still; some = stood 0 place some }) holds unknown
    | inl same ↦
        ap (λ (p : Pointer). p.pvbn) (flushes.stays 0 place (inr same))
        ∙ leads.roots place block (stood 0 place some) same (sym (flushes.alike.blocks place) ∙ holds) (ap (λ (o : ℕ). has_unknown_root o block) (sym flushes.owner) ∙ unknown)
  ]

  -- Unknown pointers still stand only where they may.
  pub keeps_unknown : LeadsUnknown old → LeadsUnknown new
  keeps_unknown leads = record { nodes = nodes leads; roots = roots leads }

  -- Everything was placed, what was placed has its place, and an unknown pointer was to be written to each cell that holds an unknown root.
  module _ (asks : ℕ → Bool) (tells : hides ≡ false) (done : (level place : ℕ) → new.changed level place ≡ false)
      (asked : (place : ℕ) → IsFlushed old new 0 place → asks place ≡ asks_unknown old.tree place)
      (places : (level place : ℕ) (x : Use) → IsFlushed old new level place → uses (pointer_at new.tree level place).vvbn ≡ Some x → x.pvbn ≢ 0) where
    now_stands : (level place : ℕ) → (pointer_at old.tree level place).stamp ≢ 0 → (pointer_at new.tree level place).stamp ≢ 0
    now_stands level place some e = some (sym (flushes.stamps level place) ∙ e)

    -- a cell
    cell_asks : (place : ℕ) → IsFlushed old new 0 place → is_unknown (pointer_at new.tree 0 place) ≡ true → asks_unknown old.tree place ≡ true
    cell_asks place flushed unknown = elim (flushes.told tells 0 place flushed) [
      | inl use_ ↦ absurd (places 0 place _ flushed use_ (unknown_is (pointer_at new.tree 0 place) unknown).1)
      | inr (inl holds) ↦ let up = holds.up in absurd (omega (arith, up))
      | inr (inr root) ↦
          ap (unknown_root_in old.tree.owner) (sym (flushes.alike.blocks place) ∙ root.holds) ∙ ap (λ (o : ℕ). has_unknown_root o root.block) (sym flushes.owner) ∙ root.unknown
    ]

    cell_unknown : (place : ℕ) → IsFlushed old new 0 place → asks_unknown old.tree place ≡ true → is_unknown (pointer_at new.tree 0 place) ≡ true
    cell_unknown place flushed asking = elim (there (block_at old.tree place)) [
      | inl none ↦ false_is_true (asks_unknown old.tree place) (ap (unknown_root_in old.tree.owner) none) asking
      | inr held ↦ made_unknown (pointer_at new.tree 0 place) (now_stands 0 place flushed.some)
          (flushes.unknown_roots place held.0 flushed (flushes.alike.blocks place ∙ held.1)
          (ap (λ (o : ℕ). has_unknown_root o held.0) flushes.owner ∙ sym (ap (unknown_root_in old.tree.owner) held.1) ∙ asking))
    ]

    module _ (level place : ℕ) (flushed : IsFlushed old new (suc level) place)
        (each : (q : ℕ) → (pointer_at old.tree level q).stamp ≢ 0 → is_unknown (pointer_at new.tree level q) ≡ will_be_unknown old asks level q) where
      abbrev child : ℕ → Bool
      child slot = not ((pointer_at old.tree level (fan * place + slot)).stamp == 0) && will_be_unknown old asks level (fan * place + slot)

      -- a node that is led to by an unknown pointer holds one
      node_asks : is_unknown (pointer_at new.tree (suc level) place) ≡ true → list_any child (range_with_len 0 fan) ≡ true
      node_asks unknown = elim (flushes.told tells (suc level) place flushed) [
        | inl use_ ↦ absurd (places (suc level) place _ flushed use_ (unknown_is (pointer_at new.tree (suc level) place) unknown).1)
        | inr (inr root) ↦ let cell = root.cell in absurd (omega (arith, cell))
        | inr (inl holds) ↦
            let up = holds.up in
            let at : holds.below ≡ level = omega (arith, up) in
            let stands : (pointer_at new.tree level holds.child).stamp ≢ 0 = subst (λ (k : ℕ). (pointer_at new.tree k holds.child).stamp ≢ 0) at holds.some in
            let none : (pointer_at new.tree level holds.child).pvbn ≡ 0 = subst (λ (k : ℕ). (pointer_at new.tree k holds.child).pvbn ≡ 0) at holds.unknown in
            let before : (pointer_at old.tree level holds.child).stamp ≢ 0 = stood level holds.child stands in
            let is : will_be_unknown old asks level holds.child ≡ true = sym (each holds.child before) ∙ made_unknown (pointer_at new.tree level holds.child) stands none in
            let test : ((pointer_at old.tree level holds.child).stamp == 0) ≡ false = no_zero (pointer_at old.tree level holds.child) before in
            any_in_range child (holds.child % fan) 0 fan (omega arith) (child_slot holds.child)
            (ap (λ (q : ℕ). not ((pointer_at old.tree level q).stamp == 0) && will_be_unknown old asks level q) (child_number holds.child place holds.over) ∙ (λ i. not (test i) && is i))
      ]

      -- a node that holds an unknown pointer is led to by one
      node_unknown : list_any child (range_with_len 0 fan) ≡ true → is_unknown (pointer_at new.tree (suc level) place) ≡ true
      node_unknown any =
          let found = any_at child 0 fan any in
          let q : ℕ = fan * place + found.0 in
          let parts = and_parts (not ((pointer_at old.tree level q).stamp == 0)) (will_be_unknown old asks level q) found.2 in
          let before : (pointer_at old.tree level q).stamp ≢ 0 = some_stamp (pointer_at old.tree level q) parts.0 in
          let unknown : is_unknown (pointer_at new.tree level q) ≡ true = each q before ∙ parts.1 in
          let over : q / fan ≡ place = child_over place found.0 (omega (arith, found.1)) in
          let above : IsFlushed old new (level + 1) (q / fan) = subst (λ (k : ℕ). IsFlushed old new k (q / fan)) (next level) (subst (λ (z : ℕ). IsFlushed old new (suc level) z) (sym over) flushed) in
          let none : (pointer_at new.tree (level + 1) (q / fan)).pvbn ≡ 0 = flushes.unknown level q above (now_stands level q before) (unknown_is (pointer_at new.tree level q) unknown).1 in
          made_unknown (pointer_at new.tree (suc level) place) (now_stands (suc level) place flushed.some)
          (subst (λ (k : ℕ). (pointer_at new.tree k place).pvbn ≡ 0) (sym (next level)) (subst (λ (z : ℕ). (pointer_at new.tree (level + 1) z).pvbn ≡ 0) over none))

    -- Just those pointers are unknown that were to be expected.
    pub expected : (level place : ℕ) → (pointer_at old.tree level place).stamp ≢ 0 → is_unknown (pointer_at new.tree level place) ≡ will_be_unknown old asks level place
    unfolding will_be_unknown
    expected zero place some = elim (bit (old.changed 0 place)) [
      | inr was ↦
          let flushed : IsFlushed old new 0 place = record { was = was; done = done 0 place; some = some } in
          iff (is_unknown (pointer_at new.tree 0 place)) (asks_unknown old.tree place) (cell_asks place flushed) (cell_unknown place flushed) ∙ sym (asked place flushed)
          ∙ sym (λ i. if was i then asks place else is_unknown (pointer_at old.tree 0 place))
      | inl same ↦ ap is_unknown (flushes.stays 0 place (inr same)) ∙ sym (λ i. if same i then asks place else is_unknown (pointer_at old.tree 0 place))
    ]
    expected (suc level) place some = elim (bit (old.changed (suc level) place)) [
      | inr was ↦
          let flushed : IsFlushed old new (suc level) place = record { was = was; done = done (suc level) place; some = some } in
          iff (is_unknown (pointer_at new.tree (suc level) place)) (list_any (child level place flushed (expected level)) (range_with_len 0 fan)) (node_asks level place flushed (expected level)) (node_unknown level place flushed (expected level))
          ∙ sym (λ i. if was i then list_any (child level place flushed (expected level)) (range_with_len 0 fan) else is_unknown (pointer_at old.tree (suc level) place))
      | inl same ↦
          ap is_unknown (flushes.stays (suc level) place (inr same))
          ∙ sym (λ i. if same i then list_any (λ slot. not ((pointer_at old.tree level (fan * place + slot)).stamp == 0) && will_be_unknown old asks level (fan * place + slot)) (range_with_len 0 fan)
          else is_unknown (pointer_at old.tree (suc level) place))
    ]

    one_place : (p : Spot) → is_unknown (pointer_at new.tree p.0 p.1) ≡ (not ((pointer_at old.tree p.0 p.1).stamp == 0) && will_be_unknown old asks p.0 p.1)
    one_place p = elim (cases_eq (pointer_at old.tree p.0 p.1).stamp 0) [
      | inl e ↦
          ap (λ (n : ℕ). not (n == 0) && ((pointer_at new.tree p.0 p.1).pvbn == 0)) (flushes.stamps p.0 p.1 ∙ e)
          ∙ sym (ap (λ (n : ℕ). not (n == 0) && will_be_unknown old asks p.0 p.1) e)
      | inr some ↦
          let test : ((pointer_at old.tree p.0 p.1).stamp == 0) ≡ false = no_zero (pointer_at old.tree p.0 p.1) some in
          expected p.0 p.1 some ∙ sym (ap (λ (b : Bool). not b && will_be_unknown old asks p.0 p.1) test)
    ]

    -- So as many pointers are unknown after the flush.
    pub count_same : count_by (λ (p : Spot). is_unknown (pointer_at new.tree p.0 p.1)) (spots new.tree.levels) ≡ unknown_in old asks
    count_same = λ i. count_by (λ (p : Spot). one_place p i) (spots (flushes.alike.levels i))

-- ---- a change

module _ (old new : Loaded) (owner : new.tree.owner ≡ old.tree.owner) (contents : KeepsContents old new) where
  -- neither a place nor the one above it changed
  before_nodes : LeadsUnknown old → (level place : ℕ) → (pointer_at new.tree level place).stamp ≢ 0 → (pointer_at new.tree level place).pvbn ≡ 0 → level < new.tree.levels → new.changed (level + 1) (place / fan) ≡ false
      → IsAsBefore old new level place → IsAsBefore old new (level + 1) (place / fan) → (pointer_at new.tree (level + 1) (place / fan)).pvbn ≡ 0
  before_nodes leads level place some none low still one above = elim (cases_lt level old.tree.levels) [
    | inl lt ↦
        ap (λ (p : Pointer). p.pvbn) above.pointer
        ∙ leads.nodes level place (λ e. some (ap (λ (p : Pointer). p.stamp) one.pointer ∙ e)) (sym (ap (λ (p : Pointer). p.pvbn) one.pointer) ∙ none) lt (sym above.changed ∙ still)
    | inr le ↦ absurd (some (under_none new.tree level place low (ap (λ (p : Pointer). p.stamp) (above.pointer ∙ past old.tree (level + 1) (place / fan) (omega (arith, le))))))
  ]

  before_roots : LeadsUnknown old → (place : ℕ) (block : List ℕ) → (pointer_at new.tree 0 place).stamp ≢ 0 → new.changed 0 place ≡ false → block_at new.tree place ≡ Some block → has_unknown_root new.tree.owner block ≡ true
      → IsAsBefore old new 0 place → (pointer_at new.tree 0 place).pvbn ≡ 0
  before_roots leads place block some still holds unknown is =
      ap (λ (p : Pointer). p.pvbn) is.pointer
      ∙ leads.roots place block (λ e. some (ap (λ (p : Pointer). p.stamp) is.pointer ∙ e)) (sym is.changed ∙ still) (contents place block some still holds)
      (ap (λ (o : ℕ). has_unknown_root o block) (sym owner) ∙ unknown)

  -- Over what changed stands a node that changed, so under what didn't all is as before.
  pub alters_unknown : (uses : ℕ → Option Use) (s : ℕ) → IsSound uses new → Alters s old new → LeadsUnknown old → LeadsUnknown new
  alters_unknown uses s sound alters leads = record {
    nodes = λ level place some none low still. elim (alters level place) [
      | inl hole ↦ absurd (some hole)
      | inr (inl now) ↦ false_is_true (new.changed (level + 1) (place / fan)) still (sound.over level place now.changed some low)
      | inr (inr one) ↦ elim (alters (level + 1) (place / fan)) [
        | inl hole ↦ absurd (some (under_none new.tree level place low hole))
        | inr (inl now) ↦ false_is_true (new.changed (level + 1) (place / fan)) still now.changed
        | inr (inr above) ↦ before_nodes leads level place some none low still one above
      ]
    ];
    roots = λ place block some still holds unknown. elim (alters 0 place) [
      | inl hole ↦ absurd (some hole)
      | inr (inl now) ↦ false_is_true (new.changed 0 place) still now.changed
      | inr (inr is) ↦ before_roots leads place block some still holds unknown is
    ];
  }

  pub leaves_unknown : Leaves old new → LeadsUnknown old → LeadsUnknown new
  leaves_unknown leaves leads = record {
    nodes = λ level place some none low still. elim (leaves.places level place) [
      | inl hole ↦ absurd (some hole)
      | inr one ↦ elim (leaves.places (level + 1) (place / fan)) [
        | inl hole ↦ absurd (some (under_none new.tree level place low hole))
        | inr above ↦ before_nodes leads level place some none low still one above
      ]
    ];
    roots = λ place block some still holds unknown. elim (leaves.places 0 place) [
      | inl hole ↦ absurd (some hole)
      | inr is ↦ before_roots leads place block some still holds unknown is
    ];
  }

-- ---- contents that stay

-- the cells have the blocks that they had
pub alike_contents : (old new : Loaded) → IsAlike old.tree new.tree → KeepsContents old new
alike_contents old new alike place block some still holds = sym (alike.blocks place) ∙ holds

-- no block came into the map, or changed there
module _ (old new : Loaded) (used uses : ℕ → Option Use) (was : IsSound used old) (now : IsSound uses new) (under : (v : ℕ) (block : List ℕ) → new.tree.under v ≡ Some block → old.tree.under v ≡ Some block) where
  before_contents : (place : ℕ) (block : List ℕ) → (pointer_at new.tree 0 place).stamp ≢ 0 → new.changed 0 place ≡ false → block_at new.tree place ≡ Some block → IsAsBefore old new 0 place → block_at old.tree place ≡ Some block
  before_contents place block some still holds is =
      let stood : (pointer_at old.tree 0 place).stamp ≢ 0 = λ e. some (ap (λ (p : Pointer). p.stamp) is.pointer ∙ e) in
      let lies : new.tree.under (pointer_at new.tree 0 place).vvbn ≡ Some block = elim (there (new.tree.cells place)) [
        | inl none ↦ sym (block_read new.tree place some none) ∙ holds
        | inr held ↦ (now.cells place held.0 held.1 still some).0 ∙ sym (block_here new.tree place held.0 some held.1) ∙ holds
      ] in
      let lay : old.tree.under (pointer_at old.tree 0 place).vvbn ≡ Some block = ap (λ (p : Pointer). old.tree.under p.vvbn) (sym is.pointer) ∙ under (pointer_at new.tree 0 place).vvbn block lies in
      elim (there (old.tree.cells place)) [
        | inl none ↦ block_read old.tree place stood none ∙ lay
        | inr held ↦ block_here old.tree place held.0 stood held.1 ∙ sym (was.cells place held.0 held.1 (sym is.changed ∙ still) stood).0 ∙ lay
      ]

  pub alters_contents : (s : ℕ) → Alters s old new → KeepsContents old new
  alters_contents s alters place block some still holds = elim (alters 0 place) [
    | inl hole ↦ absurd (some hole)
    | inr (inl now) ↦ false_is_true (new.changed 0 place) still now.changed
    | inr (inr is) ↦ before_contents place block some still holds is
  ]

  pub leaves_contents : Leaves old new → KeepsContents old new
  leaves_contents leaves place block some still holds = elim (leaves.places 0 place) [
    | inl hole ↦ absurd (some hole)
    | inr is ↦ before_contents place block some still holds is
  ]

-- ---- a tree of which nothing is in memory

-- one that is held in memory from now on
pub unread_unknown : (blocks : Under) (t : Tree) (r : Rooted) → standing blocks t ≡ r → LeadsUnknown (unread r) → LeadsUnknown (loaded_over blocks t)
unread_unknown blocks t r same leads = let is = subst (λ (q : Rooted). LeadsUnknown (unread q)) (sym same) leads in record {
  nodes = λ level place some none low _. is.nodes level place some none low refl;
  roots = λ place block some _ holds unknown. is.roots place block some refl holds unknown;
}

-- one that was flushed, by the root that the flush answers
pub reread_unknown : (blocks : Under) (t : Tree) (owner levels : ℕ) (root : Pointer) → standing blocks t ≡ stored blocks owner levels root → ((level place : ℕ) → (loaded_over blocks t).changed level place ≡ false) → LeadsUnknown (loaded_over blocks t)
    → LeadsUnknown (unread (stored blocks owner levels root))
reread_unknown blocks t owner levels root same done leads = subst (λ (q : Rooted). LeadsUnknown (unread q)) same (record {
  nodes = λ level place some none low _. leads.nodes level place some none low (done (level + 1) (place / fan));
  roots = λ place block some _ holds unknown. leads.roots place block some (done 0 place) holds unknown;
})

-- one that leads to nothing
pub none_unknown : (s : Loaded) → s.tree.root.stamp ≡ 0 → LeadsUnknown s
none_unknown s none = record {
  nodes = λ level place some _ _ _. absurd (some (none_at s.tree none level place));
  roots = λ place block some _ _ _. absurd (some (none_at s.tree none 0 place));
}
