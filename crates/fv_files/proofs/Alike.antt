-- What is shared by the trees of a table is shared by those that are alike.
use Rattle.std.proofs.Common.{◌≡◌, ℕ, Bool, not, ◌&&◌, Option, Some, None, refl, sym, subst, ◌∙◌}
use Rattle.std.specs.Prelude.{◌==◌}
use Rattle.fv_model.specs.Places.{placed}
use Rattle.fv_model.specs.Volumes.{Volume}
use Rattle.fv_laws.specs.Settled.{is_settled}
use Rattle.fv_tables.specs.Spelled.{pointer_at}
use Rattle.fv_tree.specs.Flushing.{Loaded}
use Rattle.fv_tree.specs.Counting.{is_staying}
use Rattle.fv_files.specs.Apart.{AlikeIn, AreAlike, IsAlike, Trees}
use Rattle.fv_files.specs.Sharing.{owner_in, SettlesShared}

-- a tree is alike to itself
pub alike_itself : (o : Option Loaded) → AlikeIn o o
alike_itself None = tt
alike_itself (Some s) = record { tree = refl; changed = λ level place. refl }

-- a place of one leads to a shared block, and doesn't differ from it, where it is so with the other
alike_staying : (s r : Loaded) → IsAlike s r → (shared : ℕ → Bool) (level place : ℕ) → is_staying r shared level place ≡ is_staying s shared level place
alike_staying s r is shared level place =
    sym (λ i. not ((pointer_at (is.tree i) level place).stamp == 0) && (not (is.changed level place i) && shared (pointer_at (is.tree i) level place).vvbn))

-- The ids that stay charged by one table do so by a table alike.
pub settles_alike : (x : Volume) (a b : Trees) (shared : ℕ → Bool) → AreAlike a b → SettlesShared x b shared → SettlesShared x a shared
settles_alike x a b shared alike is = record {
  each = λ o s there level place. so o s (b o) refl (subst (λ (t : Option Loaded). AlikeIn t (b o)) there (alike o)) level place;
}
  where
    so : (o : Option ℕ) (s : Loaded) (t : Option Loaded) → b o ≡ t → AlikeIn (Some s) (b o) → (level place : ℕ) → is_settled x (placed (owner_in o) (level, place)) ≡ is_staying s shared level place
    so o s None at one level place = absurd (subst (AlikeIn (Some s)) at one)
    so o s (Some r) at one level place = is.each o r at level place ∙ alike_staying s r (subst (AlikeIn (Some s)) at one) shared level place
