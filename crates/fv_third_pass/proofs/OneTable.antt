-- Along one table no two pointers have one id or one VVBN.
use Rattle.std.proofs.Common.{◌≡◌, ℕ, ◌<◌, ◌≤◌, Bool, true, false, not, List, [], ◌∷◌, ◌++◌, length, get_or, map, inl, refl, sym, ap, subst, ◌∙◌, arith}
use Rattle.std.specs.Prelude.{flat_map, find, None, Some, ◌&&◌, ◌||◌, ◌==◌, if◌then◌else◌}
use Rattle.std.specs.List.{list_any}
use Rattle.std.specs.Option.{option_map_or}
use Rattle.std.proofs.lemmas.Bool.{and_parts}
use Rattle.std.proofs.lemmas.List.{append-nil, append_assoc}
use Rattle.fv_laws.proofs.Lists.{In}
use Rattle.fv_image.specs.ReachRules.{is_same_position}
use Rattle.fv_image.specs.TableRules.{has_same_id}
use Rattle.fv_image.specs.Views.{Rooted}
use Rattle.fv_faults.specs.declared.fault.Fault.{Fault}
use Rattle.fv_faults.specs.declared.lines.Lines.{Lines}
use Rattle.fv_faults.specs.Adding.{Adds}
use Rattle.fv_faults.specs.Met.{IsClean, Spot, met, run}
use Rattle.fv_faults.specs.ThirdPass.{id_lines, one_to_one_lines, same_id, same_vvbn, twins, vvbn_lines}
use Rattle.fv_faults.specs.Walks.{Ground, Step, step, steps}
use Rattle.fv_faults.proofs.Clean.{nil_parts}
use Rattle.fv_faults.proofs.Members.{all_met}
use Rattle.fv_faults.proofs.Plain.{steps_are}
use Rattle.fv_faults.proofs.Positions.{IsDistinct}
use Rattle.fv_faults.proofs.Reached.{AreNew, all_fresh, fresh_new}
use Rattle.fv_faults.proofs.TablePositions.{met_once}
use Rattle.fv_walk.specs.Visits.{rooted}
use Rattle.fv_third_pass.specs.declared.roots.MapRoot.{MapRoot}
use Rattle.fv_third_pass.specs.Twinned.{twin_lines, visits}
use Rattle.fv_third_pass.specs.Volumes.{AreClean, AreFew, own_table, own_tables, root_of, shown, visit_at}
use Rattle.fv_third_pass.proofs.OwnTables.{in_at}
use Rattle.fv_third_pass.proofs.TwinSteps.{all_visits, one_to_one_is}

-- what is nowhere isn't found
nowhere : (p : Step → Bool) (ss : List Step) → list_any p ss ≡ false → find p ss ≡ None
nowhere p [] none = refl
nowhere p (s ∷ ss) none = so (nowhere p ss) (p s) none
  where
    so : (list_any p ss ≡ false → find p ss ≡ None) → (b : Bool) → (b || list_any p ss) ≡ false → (if b then Some s else find p ss) ≡ None
    so rest true e = absurd cc
    so rest false e = rest e

-- each of some steps is at another position than each of a list
abbrev AreOff : List Step → List Spot → Type 0
AreOff [] ps = Unit {0}
AreOff (s ∷ ss) ps = (all_met (λ e. not (is_same_position s.item e)) ps ≡ true) × AreOff ss ps

off_first : (done : List Step) (p : Spot) (ps : List Spot) → AreOff done (p ∷ ps) → list_any (λ y. has_same_id y.item p.0) done ≡ false
off_first [] p ps off = refl
off_first (s ∷ ss) p ps off =
    so (is_same_position s.item p.0) (s.item.pointer.stamp == p.0.pointer.stamp) (and_parts (not (is_same_position s.item p.0)) _ off.0).0 (off_first ss p ps off.1)
  where
    so : (same stamp : Bool) → not same ≡ true → list_any (λ y. has_same_id y.item p.0) ss ≡ false → ((same && stamp) || list_any (λ y. has_same_id y.item p.0) ss) ≡ false
    so true stamp e rest = absurd cc
    so false stamp e rest = rest

off_rest : (done : List Step) (p : Spot) (ps : List Spot) → AreOff done (p ∷ ps) → AreOff done ps
off_rest [] p ps off = tt
off_rest (s ∷ ss) p ps off = ((and_parts (not (is_same_position s.item p.0)) _ off.0).1, off_rest ss p ps off.1)

off_more : (done : List Step) (s : Step) (ps : List Spot) → AreOff done ps → all_met (λ e. not (is_same_position s.item e)) ps ≡ true → AreOff (done ++ (s ∷ [])) ps
off_more [] s ps off here = (here, tt)
off_more (t ∷ ts) s ps off here = (off.0, off_more ts s ps off.1 here)

module _ (g : Ground) where
  -- the steps to each of a list, behind those that were made
  made : List Step → List Spot → List Step
  made done [] = []
  made done (p ∷ ps) = step g done p.0 p.1 ∷ made (done ++ (step g done p.0 p.1 ∷ [])) ps

  run_made : (done : List Step) (ps : List Spot) → run g done ps ≡ done ++ made done ps
  unfolding run made
  run_made done [] = sym (append-nil done)
  run_made done (p ∷ ps) =
      run_made (done ++ (step g done p.0 p.1 ∷ [])) ps
      ∙ append_assoc done (step g done p.0 p.1 ∷ []) (made (done ++ (step g done p.0 p.1 ∷ [])) ps)

  no_vvbn_twins : (done : List Step) (ps : List Spot) → AreNew g done ps → twins same_vvbn done (made done ps) ≡ []
  unfolding twins made step
  no_vvbn_twins done [] new = refl
  no_vvbn_twins done (p ∷ ps) new =
      let s : Step = step g done p.0 p.1 in
      nil_parts (option_map_or (λ first. (first, s) ∷ []) (find (λ y. same_vvbn y s) done) []) (twins same_vvbn (done ++ (s ∷ [])) (made (done ++ (s ∷ [])) ps))
      (ap (λ o. option_map_or (λ first. (first, s) ∷ []) o []) (nowhere (λ y. same_vvbn y s) done new.0))
      (no_vvbn_twins (done ++ (s ∷ [])) ps new.1.1)

  no_id_twins : (done : List Step) (ps : List Spot) → AreOff done ps → IsDistinct ps → twins same_id done (made done ps) ≡ []
  unfolding twins made step
  no_id_twins done [] off distinct = refl
  no_id_twins done (p ∷ ps) off distinct =
      let s : Step = step g done p.0 p.1 in
      nil_parts (option_map_or (λ first. (first, s) ∷ []) (find (λ y. same_id y s) done) []) (twins same_id (done ++ (s ∷ [])) (made (done ++ (s ∷ [])) ps))
      (ap (λ o. option_map_or (λ first. (first, s) ∷ []) o []) (nowhere (λ y. same_id y s) done (off_first done p ps off)))
      (no_id_twins (done ++ (s ∷ [])) ps (off_more done s ps (off_rest done p ps off) distinct.0) distinct.1)

  one_to_one : (label : ℕ) (r : Rooted) → r.levels ≤ 2 → IsClean (steps g label r) → one_to_one_lines (steps g label r) ≡ []
  unfolding one_to_one_lines
  one_to_one label r low clean =
      let ps : List Spot = met g label r in
      let runs = steps_are g label r clean in
      ap one_to_one_lines (runs ∙ run_made [] ps)
      ∙ nil_parts (flat_map vvbn_lines (twins same_id [] (made [] ps))) (flat_map id_lines (twins same_vvbn [] (made [] ps)))
      (ap (flat_map vvbn_lines) (no_id_twins [] ps tt (met_once g r low label)))
      (ap (flat_map id_lines) (no_vvbn_twins [] ps (fresh_new g [] ps (all_fresh g [] ps (subst IsClean runs clean)))))

  -- so nothing is said of the ids of one table
  no_twins : (label : ℕ) (rs : List MapRoot) (q : MapRoot) → rs ≡ q ∷ [] → q.table.levels ≤ 2 → AreClean g label rs → twin_lines [] (visits (shown g label rs)) ≡ []
  no_twins label rs q is low clean =
      let ss : List Step = steps g label (rooted q.table) in
      ap (twin_lines [])
      (all_visits g label rs clean
      ∙ ap (λ (qs : List MapRoot). map visit_at (flat_map (λ (r : ℕ × Rooted). steps g label r.1) (map root_of qs))) is
      ∙ ap (map visit_at) (append-nil ss))
      ∙ one_to_one_is ss
      ∙ one_to_one label (rooted q.table) low (clean q (subst (In q) (sym is) (inl refl)))

  one_of : (rs : List MapRoot) (d : MapRoot) → length rs ≡ 1 → rs ≡ get_or rs 0 d ∷ []
  one_of [] d one = absurd (omega (arith, one))
  one_of (q ∷ []) d one = refl
  one_of (q ∷ (r ∷ rs)) d one = absurd (omega (arith, one))

  -- and what is said of it is all that is said of a volume's tables
  pub alone_added : (label last : ℕ) (rs : List MapRoot) (d : MapRoot) (old new : Lines) → length rs ≡ 1 → AreFew rs → AreClean g label rs
      → (IsClean (steps g label (rooted (get_or rs 0 d).table)) → Adds (own_table label last (rooted (get_or rs 0 d).table) (steps g label (rooted (get_or rs 0 d).table))) old new)
      → Adds (own_tables g label last rs ++ twin_lines [] (visits (shown g label rs))) old new
  alone_added label last rs d old new one few clean adds =
      let q : MapRoot = get_or rs 0 d in
      let is : rs ≡ q ∷ [] = one_of rs d one in
      let first : 0 < length rs = omega (arith, one) in
      let own : List Fault = own_table label last (rooted q.table) (steps g label (rooted q.table)) in
      subst (λ ls. Adds ls old new)
      (sym (ap (λ ls. own_tables g label last rs ++ ls) (no_twins label rs q is (few 0 d first) clean)
      ∙ append-nil (own_tables g label last rs)
      ∙ ap (own_tables g label last) is
      ∙ append-nil own))
      (adds (clean q (in_at rs 0 d first)))
