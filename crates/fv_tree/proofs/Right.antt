-- A tree whose pointers are right: so they stay, and by them what isn't in memory may be loaded.
use Rattle.std.proofs.Common.{◌≡◌, ◌≢◌, ◌≤◌, ℕ, Bool, List, [], length, ◌-◌, ◌/◌, ◌^◌, true, false, is_some, Option, Some, None, Result, cond, nat_cmp, refl, sym, ap, subst, ◌∙◌, arith, ◌==◌, inl, inr}
use Rattle.std.proofs.lemmas.Bool.Decides.{nat_tests}
use Rattle.std.specs.BTreeMap as tree
use Rattle.std.specs.FinMap as fin
use Rattle.std.specs.Option.{option_map}
use Rattle.fv_disk.specs.declared.fault.BlockFault.{BlockFault}
use Rattle.fv_codec.specs.declared.pointer.Pointer.{Pointer}
use Rattle.fv_model.specs.Trees.{fan, spot_cmp}
use Rattle.fv_tree.specs.declared.kept.Tree.{Tree}
use Rattle.fv_tree.specs.declared.kept.KeptNode.{KeptNode}
use Rattle.fv_tree.specs.declared.kept.KeptCell.{KeptCell}
use Rattle.fv_tree.specs.Spelled.{Rooted, Under, block_at, pointer_at, pointer_below, pointers_at, pointers_in}
use Rattle.fv_tree.specs.Sources.{Shown, IsUntouched, Use}
use Rattle.fv_tree.specs.Standing.{standing, under, cell_in, node_in}
use Rattle.fv_tree.specs.Flushing.{Loaded, loaded, loaded_over, cell_changed, changed_in, changed_of, placed_of, cell_placed, node_placed, kind_for, IsRight, IsSound}
use Rattle.fv_tree.specs.Beside.{unread}
use Rattle.fv_tree.specs.Calls.{Loading}
use Rattle.fv_tree.specs.Leading.{KeepsHints, LeadsNoMore, Carries}
use Rattle.fv_tree.specs.Places.{AreRight, HasRightPlaces, IsReadable, MayLoad, MayRead, TrustsAll}
use Rattle.fv_tree.proofs.Below.{kept_pointers, on_the_way, read_pointers}
use Rattle.fv_tree.proofs.Unlinked.{long_node}
use Rattle.fv_tree.proofs.Unchanged.{block_read}
use Rattle.fv_tree.proofs.Writes.{block_here}
use Rattle.fv_tree.proofs.Leading.{carries_untouched, keeps_leads}

-- A tree that leads to no more, by pointers that tell the same places, over a source that nothing was placed in or dropped from.
pub right_led : (old new : Shown) (t u : Tree) → IsUntouched old new → LeadsNoMore (loaded old t) (loaded new u) → KeepsHints (loaded old t) (loaded new u) → HasRightPlaces old t → HasRightPlaces new u
right_led old new t u untouched leads hints right level place v led =
    untouched.right v (pointer_at (loaded new u).tree level place).pvbn (subst (old.right v) (sym (hints level place v led)) (right level place v (leads level place v led)))

pub right_carried : (old new : Shown) (t u : Tree) → IsUntouched old new → Carries old new t u → HasRightPlaces old t → HasRightPlaces new u
right_carried old new t u untouched carries = right_led old new t u untouched carries.leads carries.hints

-- after calls that only load
pub right_on : (old new : Shown) (t : Tree) → IsUntouched old new → HasRightPlaces old t → HasRightPlaces new t
right_on old new t untouched = right_carried old new t t untouched (carries_untouched old new t untouched)

-- What isn't in memory is led to by the pointer to it.
no_node : (o : Option KeptNode) → is_some (option_map (λ (kept : KeptNode). kept.children) o) ≡ false → node_placed o ≡ true
no_node None none = refl
no_node (Some kept) none = absurd (let wrong : true ≡ false = none in cc)

no_cell : (o : Option KeptCell) → is_some (option_map (λ (kept : KeptCell). kept.block.value) o) ≡ false → cell_placed o ≡ true
no_cell None none = refl
no_cell (Some kept) none = absurd (let wrong : true ≡ false = none in cc)

node_led : (t : Tree) (level place : ℕ) → 1 ≤ level → is_some (node_in t level place) ≡ false → placed_of t level place ≡ true
node_led t level place low none =
    let test : (level == 0) ≡ false = grind (arith, nat_tests) in
    ap (λ b. cond b (cell_placed (tree.get nat_cmp t.cells place)) (node_placed (tree.get spot_cmp t.nodes (level, place)))) test
    ∙ no_node (tree.get spot_cmp t.nodes (level, place)) none

-- by which pointer a node may be loaded
pub node_loads : (source : Shown) (t : Tree) (level place : ℕ) (p : Pointer) → 1 ≤ level → p ≡ pointer_at (standing (under source) t) level place → HasRightPlaces source t → MayLoad source (is_some (node_in t level place)) p
node_loads source t level place p low is right none some =
    let q = pointer_at (standing (under source) t) level place in
    subst (λ (r : Pointer). source.right r.vvbn r.pvbn) (sym is) (right level place q.vvbn (record {
      some = λ hole. some (ap (λ (r : Pointer). r.stamp) is ∙ hole);
      placed = node_led t level place low none;
      vvbn = refl;
    }))

-- by which one a node over a cell may be
pub way_loads : (source : Shown) (t : Tree) (level i place : ℕ) (p : Pointer) → 1 ≤ level → level ≤ t.levels → place ≡ i / fan ^ level → p ≡ pointer_below (standing (under source) t) (t.levels - level) (i / fan ^ level)
    → HasRightPlaces source t → MayLoad source (is_some (node_in t level place)) p
way_loads source t level i place p low high at is =
    node_loads source t level place p low (is ∙ sym (on_the_way (standing (under source) t) level i high) ∙ ap (pointer_at (standing (under source) t) level) (sym at))

-- by which one a cell may be
pub cell_loads : (source : Shown) (t : Tree) (i : ℕ) (p : Pointer) → p ≡ pointer_at (standing (under source) t) 0 i → HasRightPlaces source t → MayLoad source (is_some (cell_in t i)) p
cell_loads source t i p is right none some =
    let q = pointer_at (standing (under source) t) 0 i in
    subst (λ (r : Pointer). source.right r.vvbn r.pvbn) (sym is) (right 0 i q.vvbn (record {
      some = λ hole. some (ap (λ (r : Pointer). r.stamp) is ∙ hole);
      placed = no_cell (tree.get nat_cmp t.cells i) none;
      vvbn = refl;
    }))

-- after a call that holds nodes in memory
pub right_loaded : {T : Type 0} {told reading : Type 0} {old new : Shown} {t u : Tree} {result : Result T BlockFault} → Loading told reading old new t u result → told → HasRightPlaces old t → HasRightPlaces new u
right_loaded {old = old} {new = new} {t = t} {u = u} loading tells =
    right_led old new t u loading.untouched (keeps_leads old new t u loading.untouched.held (loading.blocks tells)) (λ level place v led. ap (λ (p : Pointer). p.pvbn) ((loading.same tells).pointers level place))

-- ---- trees that may be read by their pointers alone

-- so they stay after calls that only load
pub may_read_on : (old new : ℕ → ℕ → Type 0) (s : Loaded) → ((v pvbn : ℕ) → old v pvbn → new v pvbn) → MayRead old s → MayRead new s
may_read_on old new s still may = record { pointers = λ level place v led. still v (pointer_at s.tree level place).pvbn (may.pointers level place v led); same = may.same; cells = may.cells }

pub readable_on : (old new : Shown) (t : Tree) → IsUntouched old new → IsReadable old t → IsReadable new t
readable_on old new t untouched readable =
    let held : under old ≡ under new = λ j v. fin.get (sym untouched.held j) v in
    may_read_on old.right new.right (loaded new t) untouched.right (subst (λ (u : Under). MayRead old.right (loaded_over u t)) held readable)

-- A node or a cell that didn't change is led to by its pointer, whether it is in memory or not.
-- The test of the level of a node.
not_cell : (level : ℕ) → 1 ≤ level → (level == 0) ≡ false
not_cell level low = grind (arith, nat_tests)

pub node_changed_of : (t : Tree) (level place : ℕ) → 1 ≤ level → changed_of t level place ≡ changed_in t.nodes level place
node_changed_of t level place low = ap (λ b. cond b (cell_changed (tree.get nat_cmp t.cells place)) (changed_in t.nodes level place)) (not_cell level low)

module _ (source : Shown) (t : Tree) (readable : IsReadable source t) where
  -- a node
  module _ (level place : ℕ) (p : Pointer) (low : 1 ≤ level) (is : p ≡ pointer_at (standing (under source) t) level place) (same : changed_in t.nodes level place ≡ false) (some : p.stamp ≢ 0) where
    abbrev at : Pointer
    at = pointer_at (standing (under source) t) level place

    there : at.stamp ≢ 0
    there hole = some (ap (λ (r : Pointer). r.stamp) is ∙ hole)

    node_placed_by : (o : Option (List Pointer)) → node_in t level place ≡ o → placed_of t level place ≡ true
    node_placed_by None none = node_led t level place low (ap is_some none)
    node_placed_by (Some xs) node = (readable.same level place xs low node (node_changed_of t level place low ∙ same) there).1

    pub node_right : source.right p.vvbn p.pvbn
    node_right = subst (λ (r : Pointer). source.right r.vvbn r.pvbn) (sym is) (readable.pointers level place at.vvbn (record { some = there; placed = node_placed_by (node_in t level place) refl; vvbn = refl }))

    -- its block spells it
    pointers_by : (o : Option (List Pointer)) → node_in t level place ≡ o → pointers_at (standing (under source) t) level place p ≡ pointers_in (under source p.vvbn)
    pointers_by None none = read_pointers (standing (under source) t) level place p some none
    pointers_by (Some xs) node =
        kept_pointers (standing (under source) t) level place p xs some node
        ∙ sym (ap (λ (r : Pointer). pointers_in (under source r.vvbn)) is ∙ (readable.same level place xs low node (node_changed_of t level place low ∙ same) there).0)

    pub node_spelled : pointers_at (standing (under source) t) level place p ≡ pointers_in (under source p.vvbn)
    node_spelled = pointers_by (node_in t level place) refl

  -- a cell
  module _ (i : ℕ) (p : Pointer) (is : p ≡ pointer_at (standing (under source) t) 0 i) (same : cell_changed (tree.get nat_cmp t.cells i) ≡ false) (some : p.stamp ≢ 0) where
    abbrev cell_at : Pointer
    cell_at = pointer_at (standing (under source) t) 0 i

    cell_there : cell_at.stamp ≢ 0
    cell_there hole = some (ap (λ (r : Pointer). r.stamp) is ∙ hole)

    cell_placed_by : (o : Option (List ℕ)) → cell_in t i ≡ o → placed_of t 0 i ≡ true
    cell_placed_by None none = no_cell (tree.get nat_cmp t.cells i) (ap is_some none)
    cell_placed_by (Some block) cell = (readable.cells i block cell same cell_there).1

    pub cell_right : source.right p.vvbn p.pvbn
    cell_right = subst (λ (r : Pointer). source.right r.vvbn r.pvbn) (sym is) (readable.pointers 0 i cell_at.vvbn (record { some = cell_there; placed = cell_placed_by (cell_in t i) refl; vvbn = refl }))

    pub cell_lies : (block : List ℕ) → cell_in t i ≡ Some block → under source p.vvbn ≡ Some block
    cell_lies block cell = ap (λ (r : Pointer). under source r.vvbn) is ∙ (readable.cells i block cell same cell_there).0

not_true : (b : Bool) → (b ≡ true → ⊥) → b ≡ false
not_true true never = absurd (never refl)
not_true false never = refl

-- memory has no node that didn't change over a block without pointers
pub node_empty : (source : Shown) (t : Tree) → IsReadable source t → (level place : ℕ) (p : Pointer) → 1 ≤ level → p ≡ pointer_at (standing (under source) t) level place → (changed_in t.nodes level place ≡ true → ⊥) → p.stamp ≢ 0 → pointers_in (under source p.vvbn) ≡ []
    → is_some (node_in t level place) ≡ true → ⊥
node_empty source t readable level place p low is never some none there = by (node_in t level place) refl there
  where
    by : (o : Option (List Pointer)) → node_in t level place ≡ o → is_some o ≡ true → ⊥
    by None node it = let wrong : true ≡ false = sym it in cc
    by (Some xs) node it =
        let empty : xs ≡ [] = sym (kept_pointers (standing (under source) t) level place p xs some node) ∙ node_spelled source t readable level place p low is (not_true (changed_in t.nodes level place) never) some ∙ none in
        let long : 0 ≡ 128 = sym (ap length empty) ∙ long_node t level place xs node in
        absurd (omega (arith, long))

-- nor a cell that didn't over a VVBN that isn't held
pub cell_empty : (source : Shown) (t : Tree) → IsReadable source t → (i : ℕ) (p : Pointer) → p ≡ pointer_at (standing (under source) t) 0 i → (cell_changed (tree.get nat_cmp t.cells i) ≡ true → ⊥) → p.stamp ≢ 0 → under source p.vvbn ≡ None
    → is_some (cell_in t i) ≡ true → ⊥
cell_empty source t readable i p is never some none there = by (cell_in t i) refl there
  where
    by : (o : Option (List ℕ)) → cell_in t i ≡ o → is_some o ≡ true → ⊥
    by None cell it = let wrong : true ≡ false = sym it in cc
    by (Some block) cell it =
        let both : ◌≡◌ {A = Option (List ℕ)} None (Some block) = sym none ∙ cell_lies source t readable i p is (not_true (cell_changed (tree.get nat_cmp t.cells i)) never) some block cell in
        cc

-- where a cell didn't change its block is that under its pointer
pub cell_read : (source : Shown) (t : Tree) → IsReadable source t → (i : ℕ) (p : Pointer) (block : List ℕ) → p ≡ pointer_at (standing (under source) t) 0 i → cell_changed (tree.get nat_cmp t.cells i) ≡ false → p.stamp ≢ 0
    → (source.right p.vvbn p.pvbn → under source p.vvbn ≡ Some block) → block_at (standing (under source) t) i ≡ Some block
cell_read source t readable i p block is same some gives = by (cell_in t i) refl
  where
    lies : under source p.vvbn ≡ Some block
    lies = gives (cell_right source t readable i p is same some)

    leads : (pointer_at (standing (under source) t) 0 i).stamp ≢ 0
    leads hole = some (ap (λ (r : Pointer). r.stamp) is ∙ hole)

    by : (o : Option (List ℕ)) → cell_in t i ≡ o → block_at (standing (under source) t) i ≡ Some block
    by None none = block_read (standing (under source) t) i leads none ∙ ap (λ (r : Pointer). under source r.vvbn) (sym is) ∙ lies
    by (Some kept) cell = block_here (standing (under source) t) i kept leads cell ∙ sym (cell_lies source t readable i p is same some kept cell) ∙ lies

-- a node over a cell
module _ (source : Shown) (t : Tree) (level i place : ℕ) (p : Pointer) (low : 1 ≤ level) (high : level ≤ t.levels) (over : place ≡ i / fan ^ level) (is : p ≡ pointer_below (standing (under source) t) (t.levels - level) (i / fan ^ level)) (readable : IsReadable source t) where
  way_at : p ≡ pointer_at (standing (under source) t) level place
  way_at = is ∙ sym (on_the_way (standing (under source) t) level i high) ∙ ap (pointer_at (standing (under source) t) level) (sym over)

  pub way_right : MayLoad source (changed_in t.nodes level place) p
  way_right same some = node_right source t readable level place p low way_at same some

  pub way_spelled : changed_in t.nodes level place ≡ false → p.stamp ≢ 0 → pointers_at (standing (under source) t) level place p ≡ pointers_in (under source p.vvbn)
  way_spelled same some = node_spelled source t readable level place p low way_at same some

-- ---- trees whose pointers are right

-- A tree of which nothing is in memory.
pub unread_right : (right : ℕ → ℕ → Type 0) (blocks : Under) (t : Tree) (r : Rooted) → standing blocks t ≡ r → AreRight right (unread r) → AreRight right (loaded_over blocks t)
unread_right right blocks t r is are level place v led =
    subst (λ (s : Rooted). right v (pointer_at s level place).pvbn) (sym is) (are level place v (record {
      some = λ none. led.some (ap (λ (s : Rooted). (pointer_at s level place).stamp) is ∙ none);
      placed = refl;
      vvbn = ap (λ (s : Rooted). (pointer_at s level place).vvbn) (sym is) ∙ led.vvbn;
    }))

-- A tree that stands on its blocks, where what is in use has the place that is told of it.
pub sound_right : (right : ℕ → ℕ → Type 0) (used : ℕ → Option Use) (s : Loaded) → ((v : ℕ) → right v 0) → ((v : ℕ) (x : Use) → used v ≡ Some x → right v x.pvbn) → IsSound used s → AreRight right s
sound_right right used s unknown told sound level place v led = by (used v) refl (sound.used level place v led)
  where
    pvbn : ℕ
    pvbn = (pointer_at s.tree level place).pvbn

    by : (o : Option Use) → used v ≡ o → IsRight (kind_for s.tree.owner level) (pointer_at s.tree level place) o → right v pvbn
    by None at is = absurd is
    by (Some x) at is = elim is.0 [
      | inl none ↦ subst (right v) (sym none) (unknown v)
      | inr same ↦ subst (right v) (sym same) (told v x at)
    ]

-- Such a tree may be read by its pointers alone.
pub sound_may_read : (right : ℕ → ℕ → Type 0) (used : ℕ → Option Use) (s : Loaded) → ((v : ℕ) → right v 0) → ((v : ℕ) (x : Use) → used v ≡ Some x → right v x.pvbn) → IsSound used s → MayRead right s
sound_may_read right used s unknown told sound = record { pointers = sound_right right used s unknown told sound; same = sound.same; cells = sound.cells }

-- So may one of which nothing is in memory, where its pointers are right.
pub bare_may_read : (right : ℕ → ℕ → Type 0) (s : Loaded) → ((level place : ℕ) → s.tree.nodes level place ≡ None) → ((index : ℕ) → s.tree.cells index ≡ None) → AreRight right s → MayRead right s
bare_may_read right s nodes cells are = record {
  pointers = are;
  same = λ level place xs low node same some. absurd (let both : ◌≡◌ {A = Option (List Pointer)} None (Some xs) = sym (nodes level place) ∙ node in cc);
  cells = λ index block cell same some. absurd (let both : ◌≡◌ {A = Option (List ℕ)} None (Some block) = sym (cells index) ∙ cell in cc);
}

pub unread_may_read : (right : ℕ → ℕ → Type 0) (blocks : Under) (t : Tree) (r : Rooted) → standing blocks t ≡ r → ((level place : ℕ) → r.nodes level place ≡ None) → ((index : ℕ) → r.cells index ≡ None) → AreRight right (unread r) → MayRead right (loaded_over blocks t)
unread_may_read right blocks t r is nodes cells are =
    bare_may_read right (loaded_over blocks t) (λ level place. ap (λ (s : Rooted). s.nodes level place) is ∙ nodes level place) (λ index. ap (λ (s : Rooted). s.cells index) is ∙ cells index) (unread_right right blocks t r is are)

-- Each tree over a source that is read by any pointer.
pub trusted_tree : {B : Type 0} (shown : B → Shown) → TrustsAll shown → (blocks : B) (t : Tree) → HasRightPlaces (shown blocks) t
trusted_tree shown trusts blocks t level place v led = trusts blocks v (pointer_at (loaded (shown blocks) t).tree level place).pvbn
