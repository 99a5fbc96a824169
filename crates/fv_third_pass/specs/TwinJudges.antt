-- What being shown pointers makes of a judge of ids.
use Rattle.std.proofs.Common.{◌≡◌, List, [], ◌∷◌, ◌++◌, flat_map, refl, sym, ap, subst, ◌∙◌, ⊎_elim}
use Rattle.std.specs.Prelude.{Bool, find}
use Rattle.std.specs.Option.{option_map_or}
use Rattle.std.proofs.lemmas.List.{append-nil, append_assoc, map-append}
use Rattle.std.proofs.lemmas.List.Concat.{flat_map-append}
use Rattle.fv_laws.proofs.Lists.{In, in_left, in_right, in_either}
use Rattle.fv_faults.specs.declared.fault.Fault.{Fault}
use Rattle.fv_faults.specs.declared.lines.Lines.{Lines}
use Rattle.fv_faults.specs.Adding.{Adds}
use Rattle.fv_faults.specs.ThirdPass.{twins}
use Rattle.fv_faults.proofs.Adding.{adds_none, adds_then, same_added}
use Rattle.fv_walk.specs.declared.visit.Visit.{Visit}
use Rattle.fv_walk.specs.Sights.{Sight}
use Rattle.fv_third_pass.specs.declared.twins.IdJudge.{IdJudge}
use Rattle.fv_third_pass.specs.Twinned.{HasSeen, id_line, same_id, same_vvbn, twin_lines, visits, vvbn_line}

-- What it saw it keeps, and says of each what those before say of it.
pub record Twins (old : IdJudge) (sights : List Sight) (new : IdJudge) : Type 0 where
  pub seen : (done : List Visit) → HasSeen done old → HasSeen (done ++ visits sights) new
  pub adds : (done : List Visit) → HasSeen done old → Adds (twin_lines done (visits sights)) old.lines new.lines

pub twins_none : (judge : IdJudge) → Twins judge [] judge
unfolding twins
twins_none judge = record {
  seen = λ done has. subst (λ vs. HasSeen vs judge) (sym (append-nil done)) has;
  adds = λ done has. adds_none judge.lines judge.lines refl;
}

pub twins_append : (same : Visit → Visit → Bool) (done vs us : List Visit) → twins same done (vs ++ us) ≡ twins same done vs ++ twins same (done ++ vs) us
unfolding twins
twins_append same done [] us = ap (λ xs. twins same xs us) (sym (append-nil done))
twins_append same done (v ∷ vs) us =
    ap (λ ps. option_map_or (λ first. (first, v) ∷ []) (find (λ y. same y v) done) [] ++ ps)
    (twins_append same (done ++ (v ∷ [])) vs us ∙ ap (λ xs. twins same (done ++ (v ∷ [])) vs ++ twins same xs us) (append_assoc done (v ∷ []) vs))
    ∙ sym (append_assoc (option_map_or (λ first. (first, v) ∷ []) (find (λ y. same y v) done) []) (twins same (done ++ (v ∷ [])) vs) (twins same (done ++ (v ∷ vs)) us))

module _ (a b c d : List Fault) (f : Fault) where
  crossed : In f ((a ++ b) ++ (c ++ d)) → In f ((a ++ c) ++ (b ++ d))
  crossed there = ⊎_elim
      (λ one. ⊎_elim (λ here. in_left f (a ++ c) (b ++ d) (in_left f a c here)) (λ here. in_right f (a ++ c) (b ++ d) (in_left f b d here)) (in_either f a b one))
      (λ two. ⊎_elim (λ here. in_left f (a ++ c) (b ++ d) (in_right f a c here)) (λ here. in_right f (a ++ c) (b ++ d) (in_right f b d here)) (in_either f c d two))
      (in_either f (a ++ b) (c ++ d) there)

twin_lines_append : (done vs us : List Visit) (old new : Lines) → Adds (twin_lines done vs ++ twin_lines (done ++ vs) us) old new → Adds (twin_lines done (vs ++ us)) old new
twin_lines_append done vs us old new adds =
    let a : List Fault = flat_map vvbn_line (twins same_id done vs) in
    let b : List Fault = flat_map id_line (twins same_vvbn done vs) in
    let c : List Fault = flat_map vvbn_line (twins same_id (done ++ vs) us) in
    let d : List Fault = flat_map id_line (twins same_vvbn (done ++ vs) us) in
    subst (λ ls. Adds ls old new)
    (sym (ap (λ ps. flat_map vvbn_line ps ++ flat_map id_line (twins same_vvbn done (vs ++ us))) (twins_append same_id done vs us)
    ∙ ap (λ ps. flat_map vvbn_line (twins same_id done vs ++ twins same_id (done ++ vs) us) ++ flat_map id_line ps) (twins_append same_vvbn done vs us)
    ∙ ap (λ ls. ls ++ flat_map id_line (twins same_vvbn done vs ++ twins same_vvbn (done ++ vs) us)) (flat_map-append vvbn_line (twins same_id done vs) (twins same_id (done ++ vs) us))
    ∙ ap (λ ls. (a ++ c) ++ ls) (flat_map-append id_line (twins same_vvbn done vs) (twins same_vvbn (done ++ vs) us))))
    (same_added ((a ++ b) ++ (c ++ d)) ((a ++ c) ++ (b ++ d)) old new (crossed a b c d) (crossed a c b d) adds)

pub twins_on : (old mid new : IdJudge) (first second : List Sight) → Twins old first mid → Twins mid second new → Twins old (first ++ second) new
twins_on old mid new first second one two = record {
  seen = λ done has. subst (λ vs. HasSeen vs new)
      (append_assoc done (visits first) (visits second) ∙ ap (λ vs. done ++ vs) (sym (map-append (λ (s : Sight). s.visit) first second)))
      (two.seen (done ++ visits first) (one.seen done has));
  adds = λ done has. subst (λ vs. Adds (twin_lines done vs) old.lines new.lines) (sym (map-append (λ (s : Sight). s.visit) first second))
      (twin_lines_append done (visits first) (visits second) old.lines new.lines
      (adds_then (twin_lines done (visits first)) (twin_lines (done ++ visits first) (visits second)) old.lines mid.lines new.lines (one.adds done has) (two.adds (done ++ visits first) (one.seen done has))));
}
