-- What is noted and counted root by root along the tables of a volume.
use Rattle.std.proofs.Common.{◌≡◌, ℕ, ◌+◌, ◌<◌, ◌≤◌, Bool, true, false, List, [], ◌∷◌, ◌++◌, length, get_or, take, map, refl, sym, ap, subst, ◌∙◌, arith, inl, inr}
use Rattle.std.specs.Prelude.{Option, Some, None, ◌||◌, ◌==◌, ◌-◌, if◌then◌else◌}
use Rattle.std.proofs.lemmas.Bool.Decides.{nat_tests}
use Rattle.std.proofs.lemmas.List.{append-nil, append_assoc}
use Rattle.fv_codec.specs.declared.label.Label.{Label}
use Rattle.fv_codec.specs.Blocks.{IsLabel}
use Rattle.fv_codec.specs.Fields.{up_to}
use Rattle.fv_image.specs.HintRules.{is_splitting}
use Rattle.fv_image.specs.Seen.{roots_of}
use Rattle.fv_image.specs.Views.{Head, Rooted, View, footing_of, head_of}
use Rattle.fv_faults.specs.declared.fault.Fault.{Fault}
use Rattle.fv_faults.specs.declared.lines.Lines.{Lines}
use Rattle.fv_faults.specs.Adding.{Adds}
use Rattle.fv_faults.specs.FourthPass.{known_in, none_of, not_on_base, own_over_base, place_lines, unknown_in}
use Rattle.fv_faults.specs.Met.{IsClean, met}
use Rattle.fv_faults.specs.Walks.{Ground, steps}
use Rattle.fv_faults.proofs.Adding.{adds_none, adds_then}
use Rattle.fv_walk.specs.Sights.{sight_of}
use Rattle.fv_walk.specs.Visits.{rooted}
use Rattle.fv_third_pass.specs.declared.roots.MapRoot.{MapRoot}
use Rattle.fv_third_pass.specs.Volumes.{AreClean, root_of}
use Rattle.fv_third_pass.proofs.Noting.{each_all, each_first, each_next}
use Rattle.fv_third_pass.proofs.OwnTables.{in_at}
use Rattle.fv_fourth_pass.specs.declared.hints.HintJudge.{HintJudge}
use Rattle.fv_fourth_pass.specs.Hinted.{hinted_lines}
use Rattle.fv_fourth_pass.specs.Hinting.{Hints}
use Rattle.fv_fourth_pass.specs.Noted.{hinted_roots}
use Rattle.fv_fourth_pass.specs.Placed.{IsBased}
use Rattle.fv_fourth_pass.specs.declared.tally.Tally.{Tally}
use Rattle.fv_fourth_pass.specs.Tallied.{how_many_in}
use Rattle.fv_fourth_pass.specs.Tallying.{Gains}
use Rattle.fv_fourth_pass.specs.WalkedTables.{IsAskedOf, is_asked, number_lines}
use Rattle.fv_fourth_pass.proofs.Copies.{known_none, known_some, split_many, unknown_many, unknown_none, unknown_some}
use Rattle.fv_fourth_pass.proofs.Gaining.{gains_on}
use Rattle.fv_fourth_pass.proofs.Hinted.{hinted_added}

-- ---- hints, table by table

module _ (g : Ground) (label : ℕ) (rs : List MapRoot) where
  abbrev said : MapRoot → List Fault
  said r = hinted_lines (steps g label (rooted r.table))

  pub hinted_none : (x : Lines) → Adds (hinted_roots g label (take 0 rs)) x x
  hinted_none x = each_first said rs x

  pub hinted_next : (k : ℕ) (d : MapRoot) (old : Lines) (mid new : HintJudge) (h : Ground) → h ≡ g → k < length rs → AreClean g label rs → Adds (hinted_roots g label (take k rs)) old mid.lines
      → Hints mid (map (sight_of h) (met h label (rooted (get_or rs k d).table))) new → Adds (hinted_roots g label (take (k + 1) rs)) old new.lines
  hinted_next k d old mid new h near low clean first one =
      each_next said rs k d old mid.lines new.lines low first
      (hinted_added g label (rooted (get_or rs k d).table) (clean (get_or rs k d) (in_at rs k d low)) mid.lines new.lines
      (subst (λ (h : Ground). Hints mid (map (sight_of h) (met h label (rooted (get_or rs k d).table))) new) near one).adds)

  pub hinted_all : (k : ℕ) (old new : Lines) → length rs ≤ k → Adds (hinted_roots g label (take k rs)) old new → Adds (hinted_roots g label rs) old new
  hinted_all k old new long adds = each_all said rs k old new long adds

-- ---- the numbers of rule 13

-- a volume of which all places are known isn't being split
known_whole : (l : Label) → IsLabel l → (l.known == 1) ≡ true → is_splitting (footing_of l) ≡ false
known_whole l is known = so (l.splitting == 0) refl (l.parent == 0)
  where
    so : (b : Bool) → (l.splitting == 0) ≡ b → (p : Bool) → is_splitting (if p then None else Some (record { parent = l.parent - 1; slot = l.base_slot; splitting = l.splitting == 1 })) ≡ false
    so b e true = refl
    so true e false = let none : (l.splitting == 1) ≡ false = grind (arith, nat_tests, e) in none
    so false e false =
        let one : l.known ≡ 1 = grind (arith, nat_tests, known) in
        let most : l.known ≤ 0 = subst (λ (b : Bool). l.known ≤ up_to b 1) e is.known in
        absurd (omega (arith, one, most))

module _ (w : View) (s place : ℕ) (l : Label) (is : IsLabel l) where
  abbrev both_lines : ℕ → ℕ → List Fault
  both_lines unknown known = none_of place unknown ++ none_of place known

  pub numbers_none : (x : Lines) → is_asked l ≡ false → Adds (number_lines w s place (head_of l)) x x
  unfolding head_of
  numbers_none x none = so (l.known == 1) refl (is_splitting (footing_of l)) refl none
    where
      so : (a : Bool) → (l.known == 1) ≡ a → (b : Bool) → is_splitting (footing_of l) ≡ b → (a || b) ≡ false → Adds (number_lines w s place (head_of l)) x x
      so true known b split none = absurd cc
      so false known true split none = absurd cc
      so false known false split none = subst (λ ls. Adds ls x x) (λ i. both_lines (unknown_none w s (head_of l) 0 known i) (known_none w s (head_of l) 0 split i)) (adds_none x x refl)

  pub numbers_added : (n : ℕ) (old new : Lines) → is_asked l ≡ true → ((l.known == 1) ≡ true → n ≡ unknown_in w s (head_of l))
      → ((l.known == 1) ≡ false → is_splitting (footing_of l) ≡ true → n ≡ known_in w s (head_of l)) → Adds (none_of place n) old new
      → Adds (number_lines w s place (head_of l)) old new
  unfolding head_of
  numbers_added n old new asked unknown known adds = so (l.known == 1) refl (is_splitting (footing_of l)) refl asked
    where
      so : (a : Bool) → (l.known == 1) ≡ a → (b : Bool) → is_splitting (footing_of l) ≡ b → (a || b) ≡ true → Adds (number_lines w s place (head_of l)) old new
      so true all b split asked =
          subst (λ ls. Adds ls old new) (sym (append-nil (none_of place n)) ∙ (λ i. both_lines (unknown all i) (known_none w s (head_of l) 0 (known_whole l is all) i))) adds
      so false all true split asked =
          subst (λ ls. Adds ls old new) (λ i. both_lines (unknown_none w s (head_of l) 0 all i) (known all split i)) adds
      so false all false split asked = absurd cc

-- and those of its sets after them
pub places_walked : (w : View) (s at : ℕ) (h : Head) (hints : List Fault) (old mid new : Lines) → Adds (hints ++ number_lines w s at h) old mid
    → Adds (none_of at (own_over_base w s h) ++ none_of at (not_on_base w s h)) mid new → Adds (hints ++ place_lines w s at h) old new
unfolding place_lines
places_walked w s at h hints old mid new one two =
    let unknown = none_of at (unknown_in w s h) in
    let known = none_of at (known_in w s h) in
    let based = none_of at (own_over_base w s h) ++ none_of at (not_on_base w s h) in
    subst (λ ls. Adds ls old new) (append_assoc hints (unknown ++ known) based ∙ ap (λ ls. hints ++ ls) (append_assoc unknown known based))
    (adds_then (hints ++ number_lines w s at h) based old mid new one two)

module _ (g : Ground) (l : Label) (base : Option (List Bool)) (row : List ℕ) (copies : Option (List Bool)) (is : IsAskedOf l base row copies) (rs : List (ℕ × Rooted)) (roots : rs ≡ roots_of (head_of l)) (n : ℕ) (counted : n ≡ how_many_in g copies rs) where
  pub counted_unknown : (l.known == 1) ≡ true → n ≡ unknown_in g.view g.slot (head_of l)
  unfolding head_of
  counted_unknown known = unknown_some g.view g.slot (head_of l) n known (counted ∙ (λ i. how_many_in g (is.unknown known i) (roots i)) ∙ unknown_many g (head_of l))

  pub counted_known : IsBased g.view g.slot (head_of l) base row → (l.known == 1) ≡ false → is_splitting (footing_of l) ≡ true → n ≡ known_in g.view g.slot (head_of l)
  unfolding head_of
  counted_known based known split =
      let set = is.known known in
      known_some g.view g.slot (head_of l) n split (counted ∙ (λ i. how_many_in g (set.1.0 i) (roots i)) ∙ split_many g (head_of l) base row based set.0 set.1.1)

-- ---- the first root and the others

module _ (g h : Ground) (near : h ≡ g) (label : ℕ) (rs : List MapRoot) (first : MapRoot) (rest : List MapRoot) (is : rs ≡ first ∷ rest) where
  pub roots_added : AreClean g label rs → (old mid new end : Lines) (numbers : List Fault)
      → (IsClean (steps g label (rooted first.table)) → Adds (hinted_lines (steps g label (rooted first.table))) old mid) → (AreClean h label rest → Adds (hinted_roots h label rest) mid new)
      → Adds numbers new end → Adds (hinted_roots g label rs ++ numbers) old end
  roots_added clean old mid new end numbers one others third =
      let all : AreClean g label (first ∷ rest) = subst (λ rs. AreClean g label rs) is clean in
      let a : Adds (hinted_lines (steps g label (rooted first.table))) old mid = one (all first (inl refl)) in
      let b : Adds (hinted_roots g label rest) mid new = subst (λ (h : Ground). AreClean h label rest → Adds (hinted_roots h label rest) mid new) near others (λ r there. all r (inr there)) in
      subst (λ rs. Adds (hinted_roots g label rs ++ numbers) old end) (sym is)
      (adds_then (hinted_roots g label (first ∷ rest)) numbers old new end (adds_then (hinted_lines (steps g label (rooted first.table))) (hinted_roots g label rest) old mid new a b) third)

  pub roots_gained : (old mid new : Tally) → Gains g label (root_of first ∷ []) old mid → Gains h label (map root_of rest) mid new → Gains g label (map root_of rs) old new
  roots_gained old mid new one others =
      subst (λ (rs : List MapRoot). Gains g label (map root_of rs) old new) (sym is)
      (gains_on g label (root_of first ∷ []) (map root_of rest) old mid new one (subst (λ (h : Ground). Gains h label (map root_of rest) mid new) near others))
