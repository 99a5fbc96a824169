-- What a judge of ids says of pointers that it is shown is what rule 10 says of steps.
use Rattle.std.proofs.Common.{◌≡◌, ℕ, Bool, true, false, List, [], ◌∷◌, ◌++◌, map, inl, inr, refl, sym, ap, ◌∙◌}
use Rattle.std.specs.Prelude.{flat_map, find, Option, Some, None, if◌then◌else◌}
use Rattle.std.specs.Option.{option_map, option_map_or}
use Rattle.std.proofs.lemmas.List.{append-nil, append_assoc, map-append}
use Rattle.std.proofs.lemmas.List.Concat.{flat_map-append}
use Rattle.fv_image.specs.Views.{Rooted}
use Rattle.fv_faults.specs.declared.fault.Fault.{Fault}
use Rattle.fv_faults.specs.Met.{IsClean, Spot, met, run}
use Rattle.fv_faults.specs.ThirdPass.{one_to_one_lines, twins, vvbn_lines, id_lines}
use Rattle.fv_faults.specs.ThirdPass as third
use Rattle.fv_faults.specs.Walks.{Ground, Step, step, steps}
use Rattle.fv_faults.proofs.Plain.{steps_are}
use Rattle.fv_walk.specs.declared.visit.Visit.{Visit}
use Rattle.fv_walk.specs.Sights.{sight_of}
use Rattle.fv_walk.specs.Visits.{rooted, visit_of}
use Rattle.fv_third_pass.specs.declared.roots.MapRoot.{MapRoot}
use Rattle.fv_third_pass.specs.Twinned.{id_line, same_id, same_vvbn, twin_lines, visits, vvbn_line}
use Rattle.fv_third_pass.specs.Volumes.{AreClean, root_of, shown, shown_one, visit_at}

-- ---- pairs

module _ (same : Step → Step → Bool) (alike : Visit → Visit → Bool) (is : (a b : Step) → same a b ≡ alike (visit_at a) (visit_at b))
    (f : Step × Step → List Fault) (h : Visit × Visit → List Fault) (says : (a b : Step) → f (a, b) ≡ h (visit_at a, visit_at b)) where
  found : (s : Step) (bs : List Step) → find (λ v. alike v (visit_at s)) (map visit_at bs) ≡ option_map visit_at (find (λ b. same b s) bs)
  found s [] = refl
  found s (b ∷ bs) = ap (λ (t : Bool). if t then Some (visit_at b) else find (λ v. alike v (visit_at s)) (map visit_at bs)) (sym (is b s)) ∙ either (same b s) (found s bs)
    where
      either : (t : Bool) → find (λ v. alike v (visit_at s)) (map visit_at bs) ≡ option_map visit_at (find (λ b. same b s) bs)
          → (if t then Some (visit_at b) else find (λ v. alike v (visit_at s)) (map visit_at bs)) ≡ option_map visit_at (if t then Some b else find (λ b. same b s) bs)
      either true rest = refl
      either false rest = rest

  one : (s : Step) (o : Option Step) → flat_map h (option_map_or (λ first. (first, visit_at s) ∷ []) (option_map visit_at o) []) ≡ flat_map f (option_map_or (λ first. (first, s) ∷ []) o [])
  one s None = refl
  one s (Some b) = ap (λ ls. ls ++ []) (sym (says b s))

  pub pairs_same : (bs ss : List Step) → flat_map h (twins alike (map visit_at bs) (map visit_at ss)) ≡ flat_map f (twins same bs ss)
  unfolding twins
  pairs_same bs [] = refl
  pairs_same bs (s ∷ ss) =
      flat_map-append h (option_map_or (λ first. (first, visit_at s) ∷ []) (find (λ v. alike v (visit_at s)) (map visit_at bs)) []) (twins alike (map visit_at bs ++ (visit_at s ∷ [])) (map visit_at ss))
      ∙ ap (λ o. flat_map h (option_map_or (λ first. (first, visit_at s) ∷ []) o []) ++ flat_map h (twins alike (map visit_at bs ++ (visit_at s ∷ [])) (map visit_at ss))) (found s bs)
      ∙ ap (λ ls. ls ++ flat_map h (twins alike (map visit_at bs ++ (visit_at s ∷ [])) (map visit_at ss))) (one s (find (λ b. same b s) bs))
      ∙ ap (λ vs. flat_map f (option_map_or (λ first. (first, s) ∷ []) (find (λ b. same b s) bs) []) ++ flat_map h (twins alike vs (map visit_at ss))) (sym (map-append visit_at bs (s ∷ [])))
      ∙ ap (λ ls. flat_map f (option_map_or (λ first. (first, s) ∷ []) (find (λ b. same b s) bs) []) ++ ls) (pairs_same (bs ++ (s ∷ [])) ss)
      ∙ sym (flat_map-append f (option_map_or (λ first. (first, s) ∷ []) (find (λ b. same b s) bs) []) (twins same (bs ++ (s ∷ [])) ss))

pub one_to_one_is : (ss : List Step) → twin_lines [] (map visit_at ss) ≡ one_to_one_lines ss
unfolding one_to_one_lines
one_to_one_is ss =
    ap (λ ls. ls ++ flat_map id_line (twins same_vvbn [] (map visit_at ss))) (pairs_same third.same_id same_id (λ a b. refl) vvbn_lines vvbn_line (λ a b. refl) [] ss)
    ∙ ap (λ ls. flat_map vvbn_lines (twins third.same_id [] ss) ++ ls) (pairs_same third.same_vvbn same_vvbn (λ a b. refl) id_lines id_line (λ a b. refl) [] ss)

-- ---- walks

module _ (g : Ground) where
  run_visits : (done : List Step) (ps : List Spot) → map visit_at (run g done ps) ≡ map visit_at done ++ map visit_of ps
  unfolding run step
  run_visits done [] = sym (append-nil (map visit_at done))
  run_visits done (p ∷ ps) =
      run_visits (done ++ (step g done p.0 p.1 ∷ [])) ps
      ∙ ap (λ vs. vs ++ map visit_of ps) (map-append visit_at done (step g done p.0 p.1 ∷ []))
      ∙ append_assoc (map visit_at done) (visit_of p ∷ []) (map visit_of ps)

  shown_visits : (ps : List Spot) → visits (map (sight_of g) ps) ≡ map visit_of ps
  shown_visits [] = refl
  shown_visits (p ∷ ps) = ap (λ vs. visit_of p ∷ vs) (shown_visits ps)

  pub visits_are : (label : ℕ) (r : Rooted) → IsClean (steps g label r) → shown_one g label r ≡ map visit_at (steps g label r)
  unfolding run
  visits_are label r clean = shown_visits (met g label r) ∙ sym (ap (map visit_at) (steps_are g label r clean) ∙ run_visits [] (met g label r))

  pub all_visits : (label : ℕ) (rs : List MapRoot) → AreClean g label rs → visits (shown g label rs) ≡ map visit_at (flat_map (λ (r : ℕ × Rooted). steps g label r.1) (map root_of rs))
  unfolding shown
  all_visits label [] clean = refl
  all_visits label (r ∷ rs) clean =
      map-append (λ s. s.visit) (map (sight_of g) (met g label (rooted r.table))) (shown g label rs)
      ∙ ap (λ vs. vs ++ visits (shown g label rs)) (visits_are label (rooted r.table) (clean r (inl refl)))
      ∙ ap (λ vs. map visit_at (steps g label (rooted r.table)) ++ vs) (all_visits label rs (λ q there. clean q (inr there)))
      ∙ sym (map-append visit_at (steps g label (rooted r.table)) (flat_map (λ (r : ℕ × Rooted). steps g label r.1) (map root_of rs)))
