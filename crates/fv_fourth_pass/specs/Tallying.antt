-- What being shown pointers makes of a tally.
use Rattle.std.proofs.Common.{◌≡◌, ℕ, Bool, List, [], ◌++◌, refl, sym, ap, ◌∙◌}
use Rattle.std.proofs.Math.Bool.{or-false, or_assoc}
use Rattle.std.specs.Prelude.{◌||◌, Option}
use Rattle.std.specs.List.{list_any}
use Rattle.std.specs.BTreeSet as tree
use Rattle.std.proofs.lemmas.List.Folds.{list_any-append}
use Rattle.fv_image.specs.Views.{Rooted}
use Rattle.fv_faults.specs.Walks.{Ground}
use Rattle.fv_walk.specs.Sights.{Sight}
use Rattle.fv_walk.specs.Visits.{item_of}
use Rattle.fv_fourth_pass.specs.declared.tally.Mark.{Mark}
use Rattle.fv_fourth_pass.specs.declared.tally.Tally.{Tally}
use Rattle.fv_fourth_pass.specs.Tallied.{among, is_marked, mark_cmp}

abbrev pub seen_marked : Option (List Bool) → ℕ → Mark → List Sight → Bool
seen_marked copies root k ss = list_any (λ (s : Sight). is_marked copies root k (item_of s.visit)) ss

-- it has a mark exactly where it had it, or one of them is counted with it
pub record Tallies (old : Tally) (sights : List Sight) (new : Tally) : Type 0 where
  pub copies : new.copies ≡ old.copies
  pub root : new.root ≡ old.root
  pub marks : (k : Mark) → tree.contains mark_cmp new.marks k ≡ (tree.contains mark_cmp old.marks k || seen_marked old.copies old.root k sights)

pub tallies_none : (tally : Tally) → Tallies tally [] tally
tallies_none tally = record { copies = refl; root = refl; marks = λ k. sym (or-false (tree.contains mark_cmp tally.marks k)) }

pub tallies_on : (old mid new : Tally) (first second : List Sight) → Tallies old first mid → Tallies mid second new → Tallies old (first ++ second) new
tallies_on old mid new first second one two = record {
  copies = two.copies ∙ one.copies;
  root = two.root ∙ one.root;
  marks = λ k.
      two.marks k
      ∙ (λ i. one.marks k i || seen_marked (one.copies i) (one.root i) k second)
      ∙ or_assoc (tree.contains mark_cmp old.marks k) (seen_marked old.copies old.root k first) (seen_marked old.copies old.root k second)
      ∙ ap (λ b. tree.contains mark_cmp old.marks k || b) (sym (list_any-append (λ (s : Sight). is_marked old.copies old.root k (item_of s.visit)) first second));
}

-- it has a mark exactly where it had it, or a pointer of these roots is counted with it
pub record Gains (g : Ground) (label : ℕ) (rs : List (ℕ × Rooted)) (old new : Tally) : Type 0 where
  pub copies : new.copies ≡ old.copies
  pub marks : (k : Mark) → tree.contains mark_cmp new.marks k ≡ (tree.contains mark_cmp old.marks k || among g label old.copies k rs)
