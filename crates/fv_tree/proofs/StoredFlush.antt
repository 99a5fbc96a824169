-- What a flush places is as the pointers to it say.
use Rattle.std.proofs.Common.{◌≡◌, ◌≢◌, ◌<◌, ◌⊎◌, inl, inr, ℕ, zero, suc, ◌+◌, ◌/◌, Bool, true, false, refl, sym, ap, subst, ◌∙◌, arith}
use Rattle.fv_codec.specs.declared.pointer.Pointer.{Pointer}
use Rattle.fv_model.specs.Trees.{fan}
use Rattle.fv_tree.specs.declared.kept.Tree.{Tree}
use Rattle.fv_tree.specs.Spelled.{pointer_at}
use Rattle.fv_tree.specs.Sources.{Shown}
use Rattle.fv_tree.specs.Flushing.{Loaded, Leads, Stands, Flushes, IsFlushed, IsNodeOf, HoldsUnknownRoot, has_unknown_root, loaded}
use Rattle.fv_tree.specs.Stored.{IsStoredWell, HasPlaces, TellsPlaces}
use Rattle.fv_tree.specs.Unknown.{KnowsRoots}
use Rattle.fv_tree.proofs.Cases.{bit, false_is_true}
use Rattle.fv_tree.proofs.Ways.{reached_within}
use Rattle.fv_tree.proofs.Unchanged.{unchanged_placed}
use Rattle.fv_tree.proofs.Gone.{is_memory}
use Rattle.fv_tree.proofs.Leading.{not_replaced, placed_as, stays_or_done, was_some}

module _ {hides : Bool} (old new : Shown) (t u : Tree) (stands : Stands old t) (is : Flushes hides (loaded old t) old.used (loaded new u) new.used) where
  abbrev s : Loaded
  s = loaded old t

  abbrev w : Loaded
  w = loaded new u

  before : (level place v : ℕ) → (w.changed level place ≡ true) ⊎ (s.changed level place ≡ false) → Leads w level place v → Leads s level place v
  before level place v stays led = let some = was_some old new t u stands is level place led.some in record {
    some = some;
    placed = sym (placed_as old new t u stands is level place stays some) ∙ led.placed;
    vvbn = ap (λ (p : Pointer). p.vvbn) (sym (is.stays level place stays)) ∙ led.vvbn;
  }

  pub stored_flush : IsStoredWell s → IsStoredWell w
  stored_flush stored level place v low led = elim (stays_or_done old new t u stands is level place (was_some old new t u stands is level place led.some)) [
    | inr done ↦ subst (λ x. IsNodeOf w.tree.owner level place (w.tree.under x)) led.vvbn (is.positions level place low done)
    | inl stays ↦
        let was = before level place v stays led in
        let node = stored level place v low was in
        subst (λ (o : ℕ). IsNodeOf o level place (w.tree.under v)) (sym is.owner) (record {
          block = node.block;
          lies = is.blocks v node.block (not_replaced old new t u stands is level place v stays was) node.lies;
          children = node.children;
          spells = node.spells;
        })
  ]

  -- what a node that was placed leads to was placed, too
  child_led : (level place : ℕ) → IsFlushed s w level place → (below child : ℕ) → below + 1 ≡ level → child / fan ≡ place → (pointer_at w.tree level place).stamp ≢ 0 → (pointer_at w.tree below child).stamp ≢ 0
      → Leads w below child (pointer_at w.tree below child).vvbn
  child_led level place done below child up over reached some = record {
    some = some;
    placed = elim (bit (w.changed below child)) [
      | inl same ↦ unchanged_placed w new.used is.sound (is_memory new u) below child same some
      | inr now ↦
          let le = reached_within w.tree level place reached in
          let above = is.sound.over below child now some (omega (arith, up, le)) in
          false_is_true (w.changed level place) done.done ((λ j. w.changed (sym up j) (sym over j)) ∙ above)
    ];
    vvbn = refl;
  }

  module _ (tell : hides ≡ false) (places : HasPlaces new.used) (roots : KnowsRoots s) (told : TellsPlaces s) where
    -- the block of a cell that was placed holds no unknown root
    known_root : {P : Type 0} (level place : ℕ) → IsFlushed s w level place → HoldsUnknownRoot w.tree level place → P
    known_root level place done holds = false_is_true (has_unknown_root s.tree.owner holds.block)
        (roots place holds.block ((λ j. s.changed (sym holds.cell j) place) ∙ done.was) (sym (is.alike.blocks place) ∙ holds.holds))
        (ap (λ (o : ℕ). has_unknown_root o holds.block) (sym is.owner) ∙ holds.unknown)

    known_below : (bound level place v : ℕ) → level < bound → Leads w level place v → (pointer_at w.tree level place).pvbn ≢ 0
    known_below zero level place v lt led = absurd (omega (arith, lt))
    known_below (suc bound) level place v lt led = elim (stays_or_done old new t u stands is level place (was_some old new t u stands is level place led.some)) [
      | inl stays ↦ λ none. told level place v (before level place v stays led) (ap (λ (p : Pointer). p.pvbn) (sym (is.stays level place stays)) ∙ none)
      | inr done ↦ elim (is.told tell level place done) [
        | inl used ↦ places (pointer_at w.tree level place).vvbn _ used
        | inr (inl holds) ↦ absurd (known_below bound holds.below holds.child _ (let up = holds.up in omega (arith, up, lt)) (child_led level place done holds.below holds.child holds.up holds.over led.some holds.some) holds.unknown)
        | inr (inr holds) ↦ known_root level place done holds
      ]
    ]

    pub tells_flush : TellsPlaces w
    tells_flush level place v = known_below (suc level) level place v (omega arith)
