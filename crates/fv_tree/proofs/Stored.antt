-- What a tree leads to stays as its pointers say.
use Rattle.std.proofs.Common.{◌≡◌, ◌⊎◌, ℕ, true, false, List, Option, None, is_some, sym, ap, subst, ◌∙◌, ⊎_elim}
use Rattle.fv_tree.specs.Spelled.{Under}
use Rattle.fv_tree.specs.Sources.{Use}
use Rattle.fv_tree.specs.Flushing.{Loaded, IsSound, IsNodeOf}
use Rattle.fv_tree.specs.Leading.{KeepsHints, LeadsNoMore}
use Rattle.fv_tree.specs.Stored.{IsStoredWell, TellsPlaces}

-- a node's block under another owner that is the same
node_as : (owner other level place : ℕ) (held now : Option (List ℕ)) → other ≡ owner → now ≡ held → IsNodeOf owner level place held → IsNodeOf other level place now
node_as owner other level place held now same lies is =
    subst (IsNodeOf other level place) (sym lies) (subst (λ (o : ℕ). IsNodeOf o level place held) (sym same) is)

-- the map stays
pub stored_on : (s w : Loaded) → w.tree.owner ≡ s.tree.owner → w.tree.under ≡ s.tree.under → LeadsNoMore s w → IsStoredWell s → IsStoredWell w
stored_on s w owner under no_more is level place v low led =
    node_as s.tree.owner w.tree.owner level place (s.tree.under v) (w.tree.under v) owner (ap (λ (u : Under). u v) under) (is level place v low (no_more level place v led))

-- some blocks go from the map, and none that is led to
pub stored_off : (s w : Loaded) (uses : ℕ → Option Use) → IsSound uses w → w.tree.owner ≡ s.tree.owner → ((v : ℕ) → (w.tree.under v ≡ s.tree.under v) ⊎ (w.tree.under v ≡ None)) → LeadsNoMore s w → IsStoredWell s → IsStoredWell w
stored_off s w uses sound owner may no_more is level place v low led =
    node_as s.tree.owner w.tree.owner level place (s.tree.under v) (w.tree.under v) owner
    (⊎_elim (λ same. same) (λ none. absurd (gone (w.tree.under v) none (sound.held level place v led))) (may v)) (is level place v low (no_more level place v led))
  where
    gone : (o : Option (List ℕ)) → o ≡ None → is_some o ≡ true → ⊥
    gone o none there = let wrong : false ≡ true = sym (ap is_some none) ∙ there in cc

-- nothing more is led to, by pointers that tell what they told
pub tells_on : (s w : Loaded) → LeadsNoMore s w → KeepsHints s w → TellsPlaces s → TellsPlaces w
tells_on s w no_more hints tells level place v led none = tells level place v (no_more level place v led) (sym (hints level place v led) ∙ none)
