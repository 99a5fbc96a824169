-- Several tables, one after another.
use Rattle.std.proofs.Common.{◌≡◌, ℕ, ◌+◌, ◌<◌, ◌≤◌, List, [], ◌∷◌, ◌++◌, length, get_or, take, sym, ap, subst, ◌∙◌}
use Rattle.std.specs.Prelude.{flat_map, map}
use Rattle.std.proofs.lemmas.List.{append-nil, take_more, take_all}
use Rattle.std.proofs.lemmas.List.Concat.{flat_map-append}
use Rattle.fv_faults.specs.Met.{met}
use Rattle.fv_faults.specs.Walks.{Ground}
use Rattle.fv_walk.specs.Sights.{Sight, sight_of}
use Rattle.fv_walk.specs.Visits.{rooted}
use Rattle.fv_third_pass.specs.declared.roots.MapRoot.{MapRoot}
use Rattle.fv_third_pass.specs.declared.twins.IdJudge.{IdJudge}
use Rattle.fv_third_pass.specs.TwinJudges.{Twins, twins_none, twins_on}
use Rattle.fv_third_pass.specs.Volumes.{shown}

module _ (g : Ground) (label : ℕ) (rs : List MapRoot) where
  abbrev sights : MapRoot → List Sight
  sights r = map (sight_of g) (met g label (rooted r.table))

  pub shown_first : (judge : IdJudge) → Twins judge (shown g label (take 0 rs)) judge
  unfolding shown
  shown_first judge = twins_none judge

  pub shown_more : (k : ℕ) (d : MapRoot) (old mid new : IdJudge) → k < length rs → Twins old (shown g label (take k rs)) mid → Twins mid (sights (get_or rs k d)) new → Twins old (shown g label (take (k + 1) rs)) new
  unfolding shown
  shown_more k d old mid new low first one =
      subst (λ ss. Twins old ss new)
      (ap (λ ss. flat_map sights (take k rs) ++ ss) (sym (append-nil (sights (get_or rs k d)))) ∙ sym (flat_map-append sights (take k rs) (get_or rs k d ∷ [])) ∙ ap (flat_map sights) (sym (take_more rs k d low)))
      (twins_on old mid new (flat_map sights (take k rs)) (sights (get_or rs k d)) first one)

  pub shown_near : (k : ℕ) (d : MapRoot) (old mid new : IdJudge) (h : Ground) → h ≡ g → k < length rs → Twins old (shown g label (take k rs)) mid
      → Twins mid (map (sight_of h) (met h label (rooted (get_or rs k d).table))) new → Twins old (shown g label (take (k + 1) rs)) new
  shown_near k d old mid new h near low first one =
      shown_more k d old mid new low first (subst (λ (h : Ground). Twins mid (map (sight_of h) (met h label (rooted (get_or rs k d).table))) new) near one)

  pub shown_all : (k : ℕ) (old new : IdJudge) → length rs ≤ k → Twins old (shown g label (take k rs)) new → Twins old (shown g label rs) new
  shown_all k old new long saw = subst (λ qs. Twins old (shown g label qs) new) (take_all k rs long) saw
