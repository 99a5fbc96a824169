-- What a tree leads to, over calls that drop nothing and over a flush.
use Rattle.std.proofs.Common.{◌≡◌, ℕ, ◌⊎◌, inl, inr, Bool, true, false, refl, sym, ap, subst, ◌∙◌}
use Rattle.std.specs.Ordering.{nat_cmp}
use Rattle.std.specs.BTreeMap as tree
use Rattle.std.specs.FinMap as fin
use Rattle.fv_codec.specs.declared.pointer.Pointer.{Pointer}
use Rattle.fv_tree.specs.declared.kept.Tree.{Tree}
use Rattle.fv_tree.specs.Sources.{Shown, IsUntouched}
use Rattle.fv_tree.specs.Standing.{standing, under, IsSameButCells}
use Rattle.fv_tree.specs.Keeping.{IsSame}
use Rattle.fv_tree.specs.Erasing.{StandsAt}
use Rattle.fv_tree.specs.Releasing.{KeepsBlocks}
use Rattle.fv_tree.specs.Flushing.{Loaded, Leads, IsSound, Stands, Flushes, IsFlushed, IsPlaced, IsReplaced, loaded, loaded_over}
use Rattle.fv_tree.specs.Spelled.{pointer_at}
use Rattle.fv_tree.specs.Leading.{KeepsHints, LeadsNoMore, Carries}
use Rattle.fv_tree.proofs.Cases.{bit, false_is_true}
use Rattle.fv_tree.proofs.Unchanged.{unchanged_placed}
use Rattle.fv_tree.proofs.Gone.{is_memory}
use Rattle.fv_tree.proofs.Ready.{cells_loaded, stands_again}
use Rattle.fv_tree.proofs.Released.{led_before}
use Rattle.fv_tree.proofs.Removing.{same_over}

-- ---- one after another

pub leads_then : (a b c : Loaded) → LeadsNoMore a b → LeadsNoMore b c → LeadsNoMore a c
leads_then a b c first second level place v led = first level place v (second level place v led)

pub hints_then : (a b c : Loaded) → KeepsHints a b → LeadsNoMore b c → KeepsHints b c → KeepsHints a c
hints_then a b c first no_more second level place v led = second level place v led ∙ first level place v (no_more level place v led)

pub carries_then : (a b c : Shown) (t u w : Tree) → Carries a b t u → Carries b c u w → Carries a c t w
carries_then a b c t u w first second = record {
  stands = λ stands. second.stands (first.stands stands);
  leads = leads_then (loaded a t) (loaded b u) (loaded c w) first.leads second.leads;
  keeps = leads_then (loaded c w) (loaded b u) (loaded a t) second.keeps first.keeps;
  hints = hints_then (loaded a t) (loaded b u) (loaded c w) first.hints second.leads second.hints;
}

-- ---- a tree that is the same

pub keeps_leads : (old new : Shown) (t u : Tree) → new.held ≡ old.held → KeepsBlocks (under old) t u → LeadsNoMore (loaded old t) (loaded new u)
keeps_leads old new t u held keeps level place v led =
    led_before (under old) t u level place v keeps (subst (λ h. Leads (loaded_over (λ w. fin.get h w) u) level place v) held led)

pub same_leads : (old new : Shown) (t u : Tree) → new.held ≡ old.held → IsSame (standing (under old) t) (standing (under new) u) → KeepsBlocks (under old) t u → LeadsNoMore (loaded new u) (loaded old t)
same_leads old new t u held same keeps level place v led =
    let here = same_over (under old) (under new) t u (ap (λ h w. fin.get h w) held) same in
    let stands : StandsAt (standing (under old) u) level place = λ none. led.some (ap (λ (p : Pointer). p.stamp) (sym (here.pointers level place)) ∙ none) in record {
      some = λ none. led.some (ap (λ (p : Pointer). p.stamp) (sym (same.pointers level place)) ∙ none);
      placed = keeps.block level place stands ∙ led.placed;
      vvbn = ap (λ (p : Pointer). p.vvbn) (same.pointers level place) ∙ led.vvbn;
    }

pub carries_same : (old new : Shown) (t u : Tree) → IsUntouched old new → IsSame (standing (under old) t) (standing (under new) u) → KeepsBlocks (under old) t u → (Stands old t → Stands new u) → Carries old new t u
carries_same old new t u untouched same keeps stands = record {
  stands = stands;
  leads = keeps_leads old new t u untouched.held keeps;
  keeps = same_leads old new t u untouched.held same keeps;
  hints = λ level place v led. ap (λ (p : Pointer). p.pvbn) (same.pointers level place);
}

-- the same tree over a source that shows the same
pub carries_untouched : (old new : Shown) (t : Tree) → IsUntouched old new → Carries old new t t
carries_untouched old new t untouched = record {
  stands = stands_again old new t t untouched.held untouched.used refl;
  leads = λ level place v led. subst (λ h. Leads (loaded_over (λ w. fin.get h w) t) level place v) untouched.held led;
  keeps = λ level place v led. subst (λ h. Leads (loaded_over (λ w. fin.get h w) t) level place v) (sym untouched.held) led;
  hints = λ level place v led j. (pointer_at (standing (λ w. fin.get (untouched.held j) w) t) level place).pvbn;
}

-- a cell that found no memory
pub carries_cells : (source : Shown) (t u : Tree) → IsSameButCells t u → ((i : ℕ) → tree.get nat_cmp u.cells i ≡ tree.get nat_cmp t.cells i) → Carries source source t u
carries_cells source t u same cells = let seen = cells_loaded (under source) t u same cells in record {
  stands = subst (IsSound source.used) (sym seen);
  leads = λ level place v led. subst (λ s. Leads s level place v) seen led;
  keeps = λ level place v led. subst (λ s. Leads s level place v) (sym seen) led;
  hints = λ level place v led. ap (λ (s : Loaded). (pointer_at s.tree level place).pvbn) seen;
}

-- ---- a flush

module _ {hides : Bool} (old new : Shown) (t u : Tree) (stands : Stands old t) (is : Flushes hides (loaded old t) old.used (loaded new u) new.used) where
  abbrev s : Loaded
  s = loaded old t

  abbrev w : Loaded
  w = loaded new u

  pub was_some : (level place : ℕ) → StandsAt w.tree level place → StandsAt s.tree level place
  was_some level place some none = some (is.stamps level place ∙ none)

  now_some : (level place : ℕ) → StandsAt s.tree level place → StandsAt w.tree level place
  now_some level place some none = some (sym (is.stamps level place) ∙ none)

  -- what wasn't placed leads to its block as before
  pub placed_as : (level place : ℕ) → (w.changed level place ≡ true) ⊎ (s.changed level place ≡ false) → StandsAt s.tree level place → w.placed level place ≡ s.placed level place
  placed_as level place (inl now) some = (is.fewer level place now).1
  placed_as level place (inr same) some = elim (bit (w.changed level place)) [
    | inl unchanged ↦ unchanged_placed w new.used is.sound (is_memory new u) level place unchanged (now_some level place some) ∙ sym (unchanged_placed s old.used stands (is_memory old t) level place same some)
    | inr now ↦ (is.fewer level place now).1
  ]

  -- a block that was replaced was led to from what was placed
  pub not_replaced : (level place v : ℕ) → (w.changed level place ≡ true) ⊎ (s.changed level place ≡ false) → Leads s level place v → IsReplaced s w v → ⊥
  not_replaced level place v (inl now) led replaced =
      let same = stands.once level place replaced.level replaced.place v led replaced.leads in
      false_is_true (w.changed replaced.level replaced.place) replaced.flushed.done ((λ j. w.changed (sym same.0 j) (sym same.1 j)) ∙ now)
  not_replaced level place v (inr same) led replaced =
      let at = stands.once level place replaced.level replaced.place v led replaced.leads in
      false_is_true (s.changed replaced.level replaced.place) ((λ j. s.changed (sym at.0 j) (sym at.1 j)) ∙ same) replaced.flushed.was

  -- a cell or node stays as it is, or it was placed
  pub stays_or_done : (level place : ℕ) → StandsAt s.tree level place → ((w.changed level place ≡ true) ⊎ (s.changed level place ≡ false)) ⊎ IsFlushed s w level place
  stays_or_done level place some = elim (bit (w.changed level place)) [
    | inr now ↦ inl (inl now)
    | inl done ↦ elim (bit (s.changed level place)) [
      | inl same ↦ inl (inr same)
      | inr was ↦ inr (record { was = was; done = done; some = some })
    ]
  ]

  -- What the tree leads to was placed, or it led to it and that wasn't replaced.
  pub flush_leads : (level place v : ℕ) → Leads w level place v → IsPlaced s w v ⊎ (Leads s level place v × (IsReplaced s w v → ⊥))
  flush_leads level place v led = elim (stays_or_done level place (was_some level place led.some)) [
    | inr done ↦ inl (record { level = level; place = place; flushed = done; vvbn = led.vvbn })
    | inl stays ↦
        let before : Leads s level place v = record {
          some = was_some level place led.some;
          placed = sym (placed_as level place stays (was_some level place led.some)) ∙ led.placed;
          vvbn = ap (λ (p : Pointer). p.vvbn) (sym (is.stays level place stays)) ∙ led.vvbn;
        } in
        inr (before, not_replaced level place v stays before)
  ]

  -- What the tree led to it still leads to, or that was replaced.
  pub flush_keeps : (level place v : ℕ) → Leads s level place v → Leads w level place v ⊎ IsReplaced s w v
  flush_keeps level place v led = elim (stays_or_done level place led.some) [
    | inr done ↦ inr (record { level = level; place = place; flushed = done; leads = led })
    | inl stays ↦ inl (record {
      some = now_some level place led.some;
      placed = placed_as level place stays led.some ∙ led.placed;
      vvbn = ap (λ (p : Pointer). p.vvbn) (is.stays level place stays) ∙ led.vvbn;
    })
  ]
