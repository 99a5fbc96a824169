-- What follows of a tree whose pointers tell no places where a later flush writes them.
use Rattle.std.proofs.Common.{cond, ◌≡◌, ◌≢◌, ◌⊎◌, inl, inr, ℕ, ◌+◌, ◌/◌, Bool, true, false, ◌||◌, ◌==◌, Option, refl, sym, ap, subst, ◌∙◌, arith}
use Rattle.std.specs.BTreeMap as maps
use Rattle.std.proofs.lemmas.Bool.Decides.{nat_tests}
use Rattle.fv_codec.specs.declared.pointer.Pointer.{Pointer}
use Rattle.fv_model.specs.Trees.{fan}
use Rattle.fv_tables.specs.Alike.{hintless}
use Rattle.fv_tree.specs.declared.kept.Tree.{Tree}
use Rattle.fv_tree.specs.declared.kept.KeptCell.{KeptCell}
use Rattle.fv_tree.specs.Spelled.{Under, pointer_at}
use Rattle.fv_tree.specs.Sources.{Use}
use Rattle.fv_tree.specs.Writing.{Remains}
use Rattle.fv_tree.specs.Places.{AreRight}
use Rattle.fv_tree.specs.Costs.{Rises}
use Rattle.fv_tree.specs.Flushing.{Flushes, IsFlushed, Loaded, has_unknown_root, loaded_over}
use Rattle.fv_tree.specs.Unknown.{KnowsRoots}
use Rattle.fv_tree.specs.Blanking.{will_be_written, Blanks, IsBlanked, WritesUnknown}
use Rattle.fv_tree.proofs.Blanked.{hintless_if, if_stamp, if_vvbn}
use Rattle.fv_tree.proofs.Cases.{bit, or_true}
use Rattle.fv_tree.proofs.Seen.{remains}

if_place : (b : Bool) (p : Pointer) → ((hintless_if b p).pvbn ≡ 0) ⊎ ((hintless_if b p).pvbn ≡ p.pvbn)
if_place true p = inl refl
if_place false p = inr refl

-- pointers that lost their places where they will be written
pub hintless_unknown : (s w : Loaded) → w.tree.levels ≡ s.tree.levels → ((level place : ℕ) → w.changed level place ≡ s.changed level place)
    → ((level place : ℕ) → pointer_at w.tree level place ≡ cond (will_be_written s level place) (hintless (pointer_at s.tree level place)) (pointer_at s.tree level place)) → WritesUnknown w
hintless_unknown s w levels changed pointers level place written =
    let before : will_be_written s level place ≡ true = (λ j. level == sym levels j || sym (changed (level + 1) (place / fan)) j) ∙ written in
    ap (λ (q : Pointer). q.pvbn) (pointers level place ∙ ap (λ b. hintless_if b (pointer_at s.tree level place)) before)

module _ (t u : Tree) (is : Blanks t u) where
  -- no more differs from its block, and no cell came into memory
  pub blank_rises : Rises t u 0 0
  blank_rises =
      let same = is.pending in
      let held = ap (λ (m : maps.BTreeMap ℕ KeptCell). maps.btree_map_len m) is.cells in
      record { pending = omega (arith, same); cells = omega (arith, held) }

  module _ (held : Under) where
    abbrev s : Loaded
    s = loaded_over held t

    abbrev w : Loaded
    w = loaded_over held u

    -- it is seen as it was
    pub blank_remains : Remains s.tree w.tree
    blank_remains = remains s.tree w.tree (is.alike held)

    -- place by place
    pub blank_places : (level place : ℕ) → IsBlanked s w level place
    blank_places level place =
        let b = will_be_written s level place in
        let p = pointer_at s.tree level place in
        let now = is.pointers held level place in record {
          vvbn = ap (λ (q : Pointer). q.vvbn) now ∙ if_vvbn b p;
          stamp = ap (λ (q : Pointer). q.stamp) now ∙ if_stamp b p;
          pvbn = subst (λ (q : Pointer). (q.pvbn ≡ 0) ⊎ (q.pvbn ≡ p.pvbn)) (sym now) (if_place b p);
          changed = is.changed level place;
          placed = is.placed level place;
        }

    -- pointers that were right are, where one that tells no place is
    pub blank_right : (right : ℕ → ℕ → Type 0) → ((v pvbn : ℕ) → right v pvbn → right v 0) → AreRight right s → AreRight right w
    blank_right right none before level place v led =
        let was = before level place v (is.leads held level place v led) in
        elim (blank_places level place).pvbn [
          | inl gone ↦ subst (right v) (sym gone) (none v (pointer_at s.tree level place).pvbn was)
          | inr same ↦ subst (right v) (sym same) was
        ]

    -- inode blocks stay, so an unknown root stands in none that changed, if it stood in none
    pub blank_knows_roots : KnowsRoots s → KnowsRoots w
    blank_knows_roots knows place block now lies =
        ap (λ n. has_unknown_root n block) is.owner ∙ knows place block (sym (is.changed 0 place) ∙ now) (sym ((is.alike held).blocks place) ∙ lies)

    -- each pointer that a later flush writes tells no place
    pub blank_unknown : WritesUnknown w
    blank_unknown = hintless_unknown s w is.levels is.changed (is.pointers held)

-- ---- a flush that hides places

-- of a tree of which each pointer that it writes tells no place
module _ (w : Loaded) (unknown : WritesUnknown w) (used : ℕ → Option Use) (new : Loaded) (uses : ℕ → Option Use) (flush : Flushes true w used new uses) where
  -- it writes unknown pointers alone
  pub flush_writes : (level place : ℕ) → will_be_written w level place ≡ true → (pointer_at new.tree level place).stamp ≢ 0 → (pointer_at new.tree level place).pvbn ≡ 0
  flush_writes level place written some = elim (bit (new.changed level place)) [
    | inr still ↦ ap (λ (q : Pointer). q.pvbn) (flush.stays level place (inl still)) ∙ unknown level place written
    | inl done ↦ elim (bit (w.changed level place)) [
      | inl same ↦ ap (λ (q : Pointer). q.pvbn) (flush.stays level place (inr same)) ∙ unknown level place written
      | inr was ↦ flush.hidden refl level place (record { was = was; done = done; some = λ none. some (flush.stamps level place ∙ none) })
    ]
  ]

  -- each pointer in a node that it placed is unknown
  pub blank_flush : (level place : ℕ) → IsFlushed w new (level + 1) (place / fan) → (pointer_at new.tree level place).stamp ≢ 0 → (pointer_at new.tree level place).pvbn ≡ 0
  blank_flush level place node some = flush_writes level place (ap (λ b. level == w.tree.levels || b) node.was ∙ or_true (level == w.tree.levels)) some

  -- so is the root, whatever it placed
  pub blank_flush_root : (place : ℕ) → (pointer_at new.tree w.tree.levels place).stamp ≢ 0 → (pointer_at new.tree w.tree.levels place).pvbn ≡ 0
  blank_flush_root place some =
      let top = w.tree.levels in
      let test : (top == top) ≡ true = grind (arith, nat_tests) in
      flush_writes top place (ap (λ b. b || w.changed (top + 1) (place / fan)) test) some
