-- What a tally gains root by root.
use Rattle.std.proofs.Common.{◌≡◌, ℕ, ◌+◌, ◌<◌, ◌≤◌, true, false, List, [], ◌∷◌, ◌++◌, length, get_or, take, map, refl, sym, ap, subst, ◌∙◌}
use Rattle.std.proofs.Math.Bool.{or-false, or_assoc}
use Rattle.std.specs.Prelude.{◌&&◌, ◌||◌}
use Rattle.std.specs.Ordering.{eq_by_cmp}
use Rattle.std.specs.BTreeSet as tree
use Rattle.std.proofs.lemmas.List.{take_more, take_all, map-append}
use Rattle.std.proofs.lemmas.List.Folds.{list_any-append}
use Rattle.fv_image.specs.Views.{Rooted}
use Rattle.fv_faults.specs.Met.{met}
use Rattle.fv_faults.specs.Walks.{Ground}
use Rattle.fv_walk.specs.Sights.{Sight, sight_of}
use Rattle.fv_walk.specs.Visits.{item_of}
use Rattle.fv_third_pass.specs.declared.roots.MapRoot.{MapRoot}
use Rattle.fv_third_pass.specs.Volumes.{root_of}
use Rattle.fv_fourth_pass.specs.declared.tally.Mark.{Mark}
use Rattle.fv_fourth_pass.specs.declared.tally.Tally.{Tally}
use Rattle.fv_fourth_pass.specs.Tallied.{among, counts, is_marked, mark_cmp, mark_of, met_marked}
use Rattle.fv_fourth_pass.specs.Tallying.{Gains, Tallies}
use Rattle.fv_fourth_pass.proofs.Once.{any_mapped}

module _ (g : Ground) (label : ℕ) where
  pub gains_none : (tally : Tally) → Gains g label [] tally tally
  gains_none tally = record { copies = refl; marks = λ k. sym (or-false (tree.contains mark_cmp tally.marks k)) }

  pub gains_on : (first second : List (ℕ × Rooted)) (old mid new : Tally) → Gains g label first old mid → Gains g label second mid new → Gains g label (first ++ second) old new
  gains_on first second old mid new one two = record {
    copies = two.copies ∙ one.copies;
    marks = λ k.
        two.marks k
        ∙ (λ i. one.marks k i || among g label (one.copies i) k second)
        ∙ or_assoc (tree.contains mark_cmp old.marks k) (among g label old.copies k first) (among g label old.copies k second)
        ∙ ap (λ b. tree.contains mark_cmp old.marks k || b) (sym (list_any-append (λ (r : ℕ × Rooted). met_marked old.copies k (r.0 + 1) (met g label r.1)) first second));
  }

  -- one root
  pub gains_one : (r : ℕ × Rooted) (old start new : Tally) → start.copies ≡ old.copies → start.marks ≡ old.marks → start.root ≡ r.0 + 1 → Tallies start (map (sight_of g) (met g label r.1)) new → Gains g label (r ∷ []) old new
  gains_one r old start new copies marks root tallies = record {
    copies = tallies.copies ∙ copies;
    marks = λ k.
        tallies.marks k
        ∙ ap (λ b. tree.contains mark_cmp start.marks k || b) (any_mapped (λ s. is_marked start.copies start.root k (item_of s.visit)) (sight_of g) (met g label r.1) ∙ sym (or-false _))
        ∙ (λ i. tree.contains mark_cmp (marks i) k || (met_marked (copies i) k (root i) (met g label r.1) || false));
  }

  module _ (rs : List MapRoot) where
    pub gains_next : (k : ℕ) (d : MapRoot) (old mid new : Tally) (h : Ground) → h ≡ g → k < length rs → Gains g label (map root_of (take k rs)) old mid → Gains h label (root_of (get_or rs k d) ∷ []) mid new → Gains g label (map root_of (take (k + 1) rs)) old new
    gains_next k d old mid new h near low first one =
        subst (λ qs. Gains g label qs old new) (sym (map-append root_of (take k rs) (get_or rs k d ∷ [])) ∙ ap (map root_of) (sym (take_more rs k d low)))
        (gains_on (map root_of (take k rs)) (root_of (get_or rs k d) ∷ []) old mid new first (subst (λ (h : Ground). Gains h label (root_of (get_or rs k d) ∷ []) mid new) near one))

    pub gains_all : (k : ℕ) (old new : Tally) → length rs ≤ k → Gains g label (map root_of (take k rs)) old new → Gains g label (map root_of rs) old new
    gains_all k old new long gains = subst (λ qs. Gains g label (map root_of qs) old new) (take_all k rs long) gains

-- ---- one pointer

pub tally_left : (old : Tally) (s : Sight) → counts old.copies (item_of s.visit) ≡ false → Tallies old (s ∷ []) old
tally_left old s out = record {
  copies = refl;
  root = refl;
  marks = λ k.
      sym (ap (λ b. tree.contains mark_cmp old.marks k || ((b && eq_by_cmp mark_cmp k (mark_of old.root (item_of s.visit))) || false)) out
      ∙ or-false (tree.contains mark_cmp old.marks k));
}

pub tally_kept : (old new : Tally) (s : Sight) → counts old.copies (item_of s.visit) ≡ true → new.copies ≡ old.copies → new.root ≡ old.root
    → ((k : Mark) → tree.contains mark_cmp new.marks k ≡ (tree.contains mark_cmp old.marks k || eq_by_cmp mark_cmp k (mark_of old.root (item_of s.visit)))) → Tallies old (s ∷ []) new
tally_kept old new s counted copies root kept = record {
  copies = copies;
  root = root;
  marks = λ k.
      kept k
      ∙ ap (λ b. tree.contains mark_cmp old.marks k || b) (sym (or-false (eq_by_cmp mark_cmp k (mark_of old.root (item_of s.visit)))))
      ∙ ap (λ b. tree.contains mark_cmp old.marks k || ((b && eq_by_cmp mark_cmp k (mark_of old.root (item_of s.visit))) || false)) (sym counted);
}
