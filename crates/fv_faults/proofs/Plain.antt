-- The walk without its stops. Where either finds nothing, they are one.
use Rattle.std.proofs.Common.{◌≡◌, ℕ, zero, suc, Bool, true, false, List, [], ◌∷◌, ◌++◌, refl, sym, ap, subst, ◌∙◌}
use Rattle.std.specs.Prelude.{Option, Some, None, flat_map, ◌==◌, if◌then◌else◌}
use Rattle.std.specs.Option.{option_map_or}
use Rattle.std.proofs.lemmas.List.Concat.{flat_map-append}
use Rattle.fv_tables.specs.Reached.{Item}
use Rattle.fv_image.specs.Views.{Placed, Rooted}
use Rattle.fv_image.specs.Chains.{place}
use Rattle.fv_faults.specs.declared.fault.Fault.{Fault}
use Rattle.fv_faults.specs.Walks.{Step, Ground, step, Going, each, below_if, onward, along_one, go, nothing, into_files, pointers_under, root_item, steps}
use Rattle.fv_faults.proofs.Clean.{parts_nil}
pub use Rattle.fv_faults.specs.Met.{Spot, place_at, plain_one, no_more, files_met, IsClean}
unfoldable pub use Rattle.fv_faults.specs.Met.{plain, met, run}

clean_parts : (ss ts : List Step) → IsClean (ss ++ ts) → IsClean ss × IsClean ts
clean_parts ss ts clean = parts_nil (flat_map (λ s. s.lines) ss) (flat_map (λ s. s.lines) ts) (sym (flat_map-append (λ (s : Step). s.lines) ss ts) ∙ clean)

one_clean : (s : Step) → IsClean (s ∷ []) → s.lines ≡ []
one_clean s clean = (parts_nil s.lines [] clean).0

module _ (g : Ground) where
  run_append : (done : List Step) (ps qs : List Spot) → run g done (ps ++ qs) ≡ run g (run g done ps) qs
  unfolding run
  run_append done [] qs = refl
  run_append done (p ∷ ps) qs = run_append (done ++ (step g done p.0 p.1 ∷ [])) ps qs

  pub run_keeps : (done : List Step) (ps : List Spot) → IsClean (run g done ps) → IsClean done
  unfolding run
  run_keeps done [] clean = clean
  run_keeps done (p ∷ ps) clean = (clean_parts done _ (run_keeps (done ++ (step g done p.0 p.1 ∷ [])) ps clean)).0

  -- a walk that goes as the plain one does, where either finds nothing
  pub record Follows (visit : Going) (plan : List Spot) : Type 0 where
    pub keeps : (done : List Step) → IsClean (visit done) → IsClean done
    pub sound : (done : List Step) → IsClean (visit done) → visit done ≡ run g done plan
    pub whole : (done : List Step) → IsClean (run g done plan) → visit done ≡ run g done plan

  nowhere : Follows (λ done. done) []
  unfolding run
  nowhere = record { keeps = λ done clean. clean; sound = λ done clean. refl; whole = λ done clean. refl }

  follows_each : {X : Type 0} (visit : X → Going) (plan : X → List Spot) → ((x : X) → Follows (visit x) (plan x)) → (xs : List X) → Follows (each visit xs) (flat_map plan xs)
  follows_each visit plan one [] = nowhere
  follows_each visit plan one (x ∷ xs) =
      let rest = follows_each visit plan one xs in record {
        keeps = λ done clean. (one x).keeps done (rest.keeps (visit x done) clean);
        sound = λ done clean.
            rest.sound (visit x done) clean
            ∙ ap (λ d. run g d (flat_map plan xs)) ((one x).sound done (rest.keeps (visit x done) clean))
            ∙ sym (run_append done (plan x) (flat_map plan xs));
        whole = λ done clean.
            let apart : IsClean (run g (run g done (plan x)) (flat_map plan xs)) = subst IsClean (run_append done (plan x) (flat_map plan xs)) clean in
            let first = (one x).whole done (run_keeps (run g done (plan x)) (flat_map plan xs) apart) in
            rest.whole (visit x done) (subst (λ d. IsClean (run g d (flat_map plan xs))) (sym first) apart)
            ∙ ap (λ d. run g d (flat_map plan xs)) first
            ∙ sym (run_append done (plan x) (flat_map plan xs));
      }

  module _ (below : Placed → Going) (plan : Placed → List Spot) (goes : (x : Placed) → Follows (below x) (plan x)) where
    abbrev after : Option Placed → List Spot
    after at = option_map_or plan at []

    onward_keeps : (fs : List Fault) (at : Option Placed) (done : List Step) → IsClean (below_if below fs at done) → IsClean done
    onward_keeps [] None done clean = clean
    onward_keeps [] (Some x) done clean = (goes x).keeps done clean
    onward_keeps (f ∷ fs) at done clean = clean

    onward_sound : (fs : List Fault) (at : Option Placed) (done : List Step) → fs ≡ [] → IsClean (below_if below fs at done) → below_if below fs at done ≡ run g done (after at)
    unfolding run
    onward_sound [] None done none clean = refl
    onward_sound [] (Some x) done none clean = (goes x).sound done clean
    onward_sound (f ∷ fs) at done none clean = absurd cc

    onward_whole : (fs : List Fault) (at : Option Placed) (done : List Step) → fs ≡ [] → IsClean (run g done (after at)) → below_if below fs at done ≡ run g done (after at)
    unfolding run
    onward_whole [] None done none clean = refl
    onward_whole [] (Some x) done none clean = (goes x).whole done clean
    onward_whole (f ∷ fs) at done none clean = absurd cc

  step_at : (done : List Step) (e : Item) (block : ℕ) → (step g done e block).at ≡ place_at g e
  unfolding step
  step_at done e block = refl

  follows_one : (below : Item → Placed → Going) (plan : Item → Placed → List Spot) → ((e : Item) (x : Placed) → Follows (below e x) (plan e x))
      → (e : Item) (block : ℕ) → Follows (along_one g below e block) (plain_one g plan e block)
  unfolding run
  follows_one below plan goes e block = so (e.pointer.stamp == 0)
    where
      here : List Step → Step
      here done = step g done e block

      last : (done : List Step) → IsClean (done ++ (here done ∷ [])) → (here done).lines ≡ []
      last done clean = one_clean (here done) (clean_parts done (here done ∷ []) clean).1

      so : (hole : Bool) → Follows (λ done. if hole then done else onward (below e) (step g done e block) done) (if hole then [] else (e, block) ∷ option_map_or (plan e) (place_at g e) [])
      so true = nowhere
      so false = record {
        keeps = λ done clean. (clean_parts done (here done ∷ []) (onward_keeps (below e) (plan e) (goes e) (here done).lines (here done).at (done ++ (here done ∷ [])) clean)).0;
        sound = λ done clean.
            onward_sound (below e) (plan e) (goes e) (here done).lines (here done).at (done ++ (here done ∷ []))
            (last done (onward_keeps (below e) (plan e) (goes e) (here done).lines (here done).at (done ++ (here done ∷ [])) clean)) clean
            ∙ ap (λ at. run g (done ++ (here done ∷ [])) (option_map_or (plan e) at [])) (step_at done e block);
        whole = λ done clean.
            let same = ap (λ at. run g (done ++ (here done ∷ [])) (option_map_or (plan e) at [])) (step_at done e block) in
            let again : IsClean (run g (done ++ (here done ∷ [])) (option_map_or (plan e) (here done).at [])) = subst IsClean (sym same) clean in
            onward_whole (below e) (plan e) (goes e) (here done).lines (here done).at (done ++ (here done ∷ []))
            (last done (run_keeps (done ++ (here done ∷ [])) (option_map_or (plan e) (here done).at []) again)) again
            ∙ same;
      }

  follows_go : (cell : Item → Placed → Going) (plan : Item → Placed → List Spot) → ((e : Item) (x : Placed) → Follows (cell e x) (plan e x))
      → (level : ℕ) (e : Item) (block : ℕ) → Follows (go g cell level e block) (plain g plan level e block)
  unfolding go plain
  follows_go cell plan goes zero e block = follows_one cell plan goes e block
  follows_go cell plan goes (suc level) e block =
      follows_one (λ e x. each (λ c. go g cell level c x.pvbn) (pointers_under e x)) (λ e x. flat_map (λ c. plain g plan level c x.pvbn) (pointers_under e x))
      (λ e x. follows_each (λ c. go g cell level c x.pvbn) (λ c. plain g plan level c x.pvbn) (λ c. follows_go cell plan goes level c x.pvbn) (pointers_under e x)) e block

  follows_files : (e : Item) (x : Placed) → Follows (into_files g e x) (files_met g e x)
  follows_files e x = follows_each (λ c. go g nothing c.levels c x.pvbn) (λ c. plain g no_more c.levels c x.pvbn) (λ c. follows_go nothing no_more (λ e x. nowhere) c.levels c x.pvbn) (pointers_under e x)

  -- The steps of a root that find nothing are those to all that it meets.
  pub steps_are : (label : ℕ) (r : Rooted) → IsClean (steps g label r) → steps g label r ≡ run g [] (met g label r)
  unfolding steps met
  steps_are label r clean = (follows_go (into_files g) (files_met g) follows_files r.levels (root_item r) label).sound [] clean

  -- And where steps to all that it meets find nothing, they are its steps.
  pub steps_from : (label : ℕ) (r : Rooted) → IsClean (run g [] (met g label r)) → steps g label r ≡ run g [] (met g label r)
  unfolding steps met
  steps_from label r clean = (follows_go (into_files g) (files_met g) follows_files r.levels (root_item r) label).whole [] clean
