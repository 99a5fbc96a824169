-- Lines of the steps of a walk, pointer by pointer, and two lists of lines for each of some elements.
use Rattle.std.proofs.Common.{◌≡◌, ℕ, List, [], ◌∷◌, ◌++◌, sym, ap, ◌∙◌, ⊎_elim}
use Rattle.std.specs.Prelude.{flat_map}
use Rattle.std.proofs.lemmas.List.{append-nil, append_assoc}
use Rattle.std.proofs.lemmas.List.Concat.{flat_map-append}
use Rattle.fv_laws.proofs.Lists.{In, in_left, in_right, in_either, in_flat_map, from_flat_map}
use Rattle.fv_faults.specs.declared.fault.Fault.{Fault}
use Rattle.fv_faults.specs.Walks.{Ground, Step, step}
use Rattle.fv_faults.specs.Met.{Spot, run}

-- What is said of a step by its pointer alone is said of all steps by all that is met.
module _ (g : Ground) (f : Step → List Fault) (h : Spot → List Fault) (same : (done : List Step) (p : Spot) → f (step g done p.0 p.1) ≡ h p) where
  pub run_lines : (done : List Step) (ps : List Spot) → flat_map f (run g done ps) ≡ flat_map f done ++ flat_map h ps
  unfolding run
  run_lines done [] = sym (append-nil (flat_map f done))
  run_lines done (p ∷ ps) =
      run_lines (done ++ (step g done p.0 p.1 ∷ [])) ps
      ∙ ap (λ ls. ls ++ flat_map h ps) (flat_map-append f done (step g done p.0 p.1 ∷ []))
      ∙ append_assoc (flat_map f done) (f (step g done p.0 p.1) ++ []) (flat_map h ps)
      ∙ ap (λ ls. flat_map f done ++ (ls ++ flat_map h ps)) (append-nil (f (step g done p.0 p.1)) ∙ same done p)

-- two lists for each element
module _ {X : Type 0} (a b : X → List Fault) (xs : List X) (f : Fault) where
  pub spread : In f (flat_map (λ x. a x ++ b x) xs) → In f (flat_map a xs ++ flat_map b xs)
  spread there =
      let at = from_flat_map (λ x. a x ++ b x) f xs there in ⊎_elim
      (λ one. in_left f (flat_map a xs) (flat_map b xs) (in_flat_map a at.0 f xs at.1 one))
      (λ two. in_right f (flat_map a xs) (flat_map b xs) (in_flat_map b at.0 f xs at.1 two))
      (in_either f (a at.0) (b at.0) at.2)

  pub gathered : In f (flat_map a xs ++ flat_map b xs) → In f (flat_map (λ x. a x ++ b x) xs)
  gathered there = ⊎_elim
      (λ one. let at = from_flat_map a f xs one in in_flat_map (λ x. a x ++ b x) at.0 f xs at.1 (in_left f (a at.0) (b at.0) at.2))
      (λ two. let at = from_flat_map b f xs two in in_flat_map (λ x. a x ++ b x) at.0 f xs at.1 (in_right f (a at.0) (b at.0) at.2))
      (in_either f (flat_map a xs) (flat_map b xs) there)
