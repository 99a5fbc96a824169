-- What is noted of a volume, part by part, is what the third pass says of it.
use Rattle.std.proofs.Common.{◌≡◌, ℕ, List, [], ◌∷◌, ◌++◌, map, refl, sym, ap, subst, ◌∙◌, ⊎_elim}
use Rattle.std.specs.Prelude.{flat_map}
use Rattle.std.proofs.lemmas.List.Concat.{flat_map-append}
use Rattle.std.proofs.lemmas.List.{map-append}
use Rattle.std.proofs.lemmas.List.Folds.{flat_map-map}
use Rattle.fv_laws.proofs.Lists.{In, in_left, in_right, in_either, in_flat_map, from_flat_map}
use Rattle.fv_image.specs.Views.{Head, Rooted, View}
use Rattle.fv_image.specs.Held.{Layout}
use Rattle.fv_image.specs.Seen.{roots_of}
use Rattle.fv_faults.specs.declared.fault.Fault.{Fault}
use Rattle.fv_faults.specs.SecondPass.{ground, root_steps}
use Rattle.fv_faults.specs.ThirdPass.{base_steps, file_level_lines, kind_lines, length_lines, level_lines, map_kind_lines, mark_lines, one_to_one_lines, reach_lines, span_lines, stamp_lines, table_lines, twins, volume_lines}
use Rattle.fv_faults.specs.Walks.{Ground, Step, met_in, steps}
use Rattle.fv_walk.specs.declared.visit.Visit.{Visit}
use Rattle.fv_third_pass.specs.declared.roots.MapRoot.{MapRoot}
use Rattle.fv_third_pass.specs.TwinJudges.{twins_append}
use Rattle.fv_third_pass.specs.Twinned.{id_line, same_id, same_vvbn, twin_lines, visits, vvbn_line}
use Rattle.fv_third_pass.specs.Volumes.{AreClean, map_lines, own_table, own_tables, root_of, shown, visit_at}
use Rattle.fv_third_pass.proofs.SameLines.{Same, same_back, same_crossed, same_is, same_spread, same_table, same_then}
use Rattle.fv_third_pass.proofs.TwinSteps.{all_visits, one_to_one_is}

same_each : {X : Type 0} (a b : X → List Fault) (xs : List X) → ((x : X) → Same (a x) (b x)) → Same (flat_map a xs) (flat_map b xs)
same_each a b xs each = record {
  to = λ f there. let at = from_flat_map a f xs there in in_flat_map b at.0 f xs at.1 ((each at.0).to f at.2);
  from = λ f there. let at = from_flat_map b f xs there in in_flat_map a at.0 f xs at.1 ((each at.0).from f at.2);
}

-- ---- the parts together

module _ (a k m o t u b n r w : List Fault) (tables : Same (m ++ o) (n ++ r)) (ids : Same (t ++ u) w) where
  abbrev noted : List Fault
  noted = ((a ++ (k ++ m)) ++ (o ++ t)) ++ (u ++ b)

  abbrev said : List Fault
  said = a ++ (k ++ (n ++ (w ++ (r ++ b))))

  module _ (f : Fault) where
    n_to : In f n → In f said
    n_to there = in_right f a _ (in_right f k _ (in_left f n _ there))

    w_to : In f w → In f said
    w_to there = in_right f a _ (in_right f k _ (in_right f n _ (in_left f w _ there)))

    r_to : In f r → In f said
    r_to there = in_right f a _ (in_right f k _ (in_right f n _ (in_right f w _ (in_left f r b there))))

    b_to : In f b → In f said
    b_to there = in_right f a _ (in_right f k _ (in_right f n _ (in_right f w _ (in_right f r b there))))

    both_to : In f (m ++ o) → In f said
    both_to there = ⊎_elim n_to r_to (in_either f n r (tables.to f there))

    noted_to : In f noted → In f said
    noted_to there = ⊎_elim
        (λ front. ⊎_elim
        (λ early. ⊎_elim (λ one. in_left f a _ one) (λ two. ⊎_elim (λ one. in_right f a _ (in_left f k _ one)) (λ one. both_to (in_left f m o one)) (in_either f k m two)) (in_either f a (k ++ m) early))
        (λ late. ⊎_elim (λ one. both_to (in_right f m o one)) (λ one. w_to (ids.to f (in_left f t u one))) (in_either f o t late))
        (in_either f (a ++ (k ++ m)) (o ++ t) front))
        (λ back. ⊎_elim (λ one. w_to (ids.to f (in_right f t u one))) b_to (in_either f u b back))
        (in_either f ((a ++ (k ++ m)) ++ (o ++ t)) (u ++ b) there)

    front_from : In f (a ++ (k ++ m)) → In f noted
    front_from there = in_left f ((a ++ (k ++ m)) ++ (o ++ t)) (u ++ b) (in_left f (a ++ (k ++ m)) (o ++ t) there)

    late_from : In f (o ++ t) → In f noted
    late_from there = in_left f ((a ++ (k ++ m)) ++ (o ++ t)) (u ++ b) (in_right f (a ++ (k ++ m)) (o ++ t) there)

    back_from : In f (u ++ b) → In f noted
    back_from there = in_right f ((a ++ (k ++ m)) ++ (o ++ t)) (u ++ b) there

    both_from : In f (n ++ r) → In f noted
    both_from there = ⊎_elim (λ one. front_from (in_right f a (k ++ m) (in_right f k m one))) (λ one. late_from (in_left f o t one)) (in_either f m o (tables.from f there))

    w_from : In f w → In f noted
    w_from there = ⊎_elim (λ one. late_from (in_right f o t one)) (λ one. back_from (in_left f u b one)) (in_either f t u (ids.from f there))

    said_from : In f said → In f noted
    said_from there = ⊎_elim (λ one. front_from (in_left f a (k ++ m) one))
        (λ rest. ⊎_elim (λ one. front_from (in_right f a (k ++ m) (in_left f k m one)))
        (λ more. ⊎_elim (λ one. both_from (in_left f n r one))
        (λ last. ⊎_elim w_from (λ end. ⊎_elim (λ one. both_from (in_right f n r one)) (λ one. back_from (in_right f u b one)) (in_either f r b end)) (in_either f w (r ++ b) last))
        (in_either f n (w ++ (r ++ b)) more))
        (in_either f k (n ++ (w ++ (r ++ b))) rest))
        (in_either f a (k ++ (n ++ (w ++ (r ++ b)))) there)

  pub same_parts : Same noted said
  same_parts = record { to = noted_to; from = said_from }

-- ---- ids

pub same_twins : (vs us : List Visit) → Same (twin_lines [] vs ++ twin_lines vs us) (twin_lines [] (vs ++ us))
same_twins vs us =
    let a : List Fault = flat_map vvbn_line (twins same_id [] vs) in
    let b : List Fault = flat_map id_line (twins same_vvbn [] vs) in
    let c : List Fault = flat_map vvbn_line (twins same_id vs us) in
    let d : List Fault = flat_map id_line (twins same_vvbn vs us) in
    same_then ((a ++ b) ++ (c ++ d)) ((a ++ c) ++ (b ++ d)) (twin_lines [] (vs ++ us)) (same_crossed a b c d)
    (same_is ((a ++ c) ++ (b ++ d)) (twin_lines [] (vs ++ us))
    (sym (ap (λ ps. flat_map vvbn_line ps ++ flat_map id_line (twins same_vvbn [] (vs ++ us))) (twins_append same_id [] vs us)
    ∙ ap (λ ps. flat_map vvbn_line (twins same_id [] vs ++ twins same_id vs us) ++ flat_map id_line ps) (twins_append same_vvbn [] vs us)
    ∙ ap (λ ls. ls ++ flat_map id_line (twins same_vvbn [] vs ++ twins same_vvbn vs us)) (flat_map-append vvbn_line (twins same_id [] vs) (twins same_id vs us))
    ∙ ap (λ ls. (a ++ c) ++ ls) (flat_map-append id_line (twins same_vvbn [] vs) (twins same_vvbn vs us)))))

-- ---- tables

module _ (w : View) (s at : ℕ) (h : Head) where
  abbrev g : Ground
  g = ground w s h

  abbrev of : ℕ × Rooted → List Step
  of r = steps g at r.1

  abbrev table : ℕ × Rooted → List Fault
  table r = table_lines w s at h r (of r)

  abbrev stamps : ℕ × Rooted → List Fault
  stamps r = flat_map (stamp_lines h.now) (of r)

  abbrev noted_of : ℕ × Rooted → List Fault
  noted_of r = own_table at h.now r.1 (of r)

  one_table : (r : ℕ × Rooted) → Same (reach_lines w s h r.0 (of r) ++ noted_of r) (table r ++ stamps r)
  unfolding table_lines own_table
  one_table r = same_table (reach_lines w s h r.0 (of r)) (flat_map kind_lines (of r)) (flat_map mark_lines (of r)) (flat_map file_level_lines (of r)) (stamps r)
      (flat_map (length_lines (flat_map met_in (of r))) (of r)) (level_lines at 0 r.1.levels r.1.root)

  stamps_are : (rs : List (ℕ × Rooted)) → flat_map stamps rs ≡ flat_map (stamp_lines h.now) (flat_map of rs)
  stamps_are [] = refl
  stamps_are (r ∷ rs) = ap (λ ls. stamps r ++ ls) (stamps_are rs) ∙ sym (flat_map-append (stamp_lines h.now) (of r) (flat_map of rs))

  pub same_tables : (rs : List (ℕ × Rooted)) → Same (map_lines w s h of rs ++ flat_map noted_of rs) (flat_map table rs ++ flat_map (stamp_lines h.now) (flat_map of rs))
  same_tables rs =
      let reaches : ℕ × Rooted → List Fault = λ r. reach_lines w s h r.0 (of r) in
      same_then (flat_map reaches rs ++ flat_map noted_of rs) (flat_map (λ r. reaches r ++ noted_of r) rs) (flat_map table rs ++ flat_map (stamp_lines h.now) (flat_map of rs))
      (same_back (flat_map (λ r. reaches r ++ noted_of r) rs) (flat_map reaches rs ++ flat_map noted_of rs) (same_spread reaches noted_of rs))
      (same_then (flat_map (λ r. reaches r ++ noted_of r) rs) (flat_map (λ r. table r ++ stamps r) rs) (flat_map table rs ++ flat_map (stamp_lines h.now) (flat_map of rs))
      (same_each (λ r. reaches r ++ noted_of r) (λ r. table r ++ stamps r) rs one_table)
      (same_then (flat_map (λ r. table r ++ stamps r) rs) (flat_map table rs ++ flat_map stamps rs) (flat_map table rs ++ flat_map (stamp_lines h.now) (flat_map of rs))
      (same_spread table stamps rs)
      (same_is (flat_map table rs ++ flat_map stamps rs) (flat_map table rs ++ flat_map (stamp_lines h.now) (flat_map of rs)) (ap (λ ls. flat_map table rs ++ ls) (stamps_are rs)))))

-- ---- a volume

module _ (y : Layout) (s at : ℕ) (h : Head) (roots : List MapRoot) (are : map root_of roots ≡ roots_of h) (clean : AreClean (ground y.view s h) at roots) where
  abbrev v : View
  v = y.view

  abbrev k : Ground
  k = ground y.view s h

  abbrev along : ℕ × Rooted → List Step
  along r = steps k at r.1

  abbrev own : List Step
  own = root_steps v s at h

  abbrev base : List Step
  base = base_steps y h.base

  tables_are : own_tables k at h.now roots ≡ flat_map (λ (r : ℕ × Rooted). own_table at h.now r.1 (along r)) (roots_of h)
  tables_are = sym (flat_map-map (λ (r : ℕ × Rooted). own_table at h.now r.1 (along r)) root_of roots) ∙ ap (flat_map (λ (r : ℕ × Rooted). own_table at h.now r.1 (along r))) are

  own_visits : visits (shown k at roots) ≡ map visit_at own
  own_visits = all_visits k at roots clean ∙ ap (λ rs. map visit_at (flat_map along rs)) are

  pub volume_same : Same (((span_lines v s at h ++ (map_kind_lines v s at h ++ map_lines v s h along (roots_of h)))
      ++ (own_tables k at h.now roots ++ twin_lines [] (visits (shown k at roots))))
      ++ (twin_lines (visits (shown k at roots)) (map visit_at base) ++ flat_map (stamp_lines h.now) base)) (volume_lines y s at h)
  unfolding volume_lines
  volume_same =
      let vs = visits (shown k at roots) in
      let us = map visit_at base in
      let tables = flat_map (λ (r : ℕ × Rooted). table_lines v s at h r (along r)) (roots_of h) in
      let own_stamps = flat_map (stamp_lines h.now) own in
      let base_stamps = flat_map (stamp_lines h.now) base in
      let maps = map_lines v s h along (roots_of h) in
      let noted = own_tables k at h.now roots in
      let lines = one_to_one_lines (own ++ base) in
      same_then _ (span_lines v s at h ++ (map_kind_lines v s at h ++ (tables ++ (lines ++ (own_stamps ++ base_stamps))))) _
      (same_parts (span_lines v s at h) (map_kind_lines v s at h) maps noted (twin_lines [] vs) (twin_lines vs us) base_stamps tables own_stamps lines
      (subst (λ ls. Same (maps ++ ls) (tables ++ own_stamps)) (sym tables_are) (same_tables v s at h (roots_of h)))
      (same_then (twin_lines [] vs ++ twin_lines vs us) (twin_lines [] (vs ++ us)) lines (same_twins vs us)
      (same_is (twin_lines [] (vs ++ us)) lines
      (ap (λ xs. twin_lines [] (xs ++ us)) own_visits ∙ ap (twin_lines []) (sym (map-append visit_at own base)) ∙ one_to_one_is (own ++ base)))))
      (same_is _ _ (ap (λ ls. span_lines v s at h ++ (map_kind_lines v s at h ++ (tables ++ (lines ++ ls)))) (sym (flat_map-append (stamp_lines h.now) own base))))
