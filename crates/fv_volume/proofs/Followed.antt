-- Two costs of a path that agree on what is followed, trees that are alike, and the file of a name, whose path it is.
use Rattle.std.proofs.Common.{◌≡◌, ◌≢◌, ℕ, zero, suc, ◌+◌, ◌/◌, ◌^◌, ◌<◌, Bool, true, false, cond, List, ◌||◌, ◌==◌, Option, Some, None, refl, sym, ap, ap₂, ◌∙◌, ⊎_elim, arith}
use Rattle.std.proofs.lemmas.Bool.Decides.{nat_tests}
use Rattle.std.proofs.lemmas.Bool.{cases_lt}
use Rattle.fv_codec.specs.declared.inode.InodeRecord.{InodeRecord}
use Rattle.fv_codec.specs.declared.pointer.Pointer.{Pointer}
use Rattle.fv_model.specs.Trees.{fan}
use Rattle.fv_tables.specs.Spelled.{Rooted as Spelled, Under, pointer_at}
use Rattle.fv_tables.specs.Told.{Standing, file_at, records_each}
use Rattle.fv_tree.specs.Flushing.{Loaded}
use Rattle.fv_tree.specs.Lookups.{cost_below, place_cost, way_cost}
use Rattle.fv_tree.proofs.Costly.{ways_alike}
use Rattle.fv_inode.specs.declared.info.Info.{Info}
use Rattle.fv_inode.specs.Files.{has_name, info_of, IsFirst}
use Rattle.fv_files.specs.declared.files.Files.{Files}
use Rattle.fv_files.specs.Apart.{AlikeIn, AreAlike, Trees}
use Rattle.fv_files.specs.Calls.{path_cost, way_in}
use Rattle.fv_files.specs.Tables.{loaded_trees}
use Rattle.fv_pool.specs.declared.rooted.Rooted.{Rooted}
use Rattle.fv_volume.specs.declared.tables.TableAsked.{TableAsked}
use Rattle.fv_volume.specs.declared.tables.TableAsked.TheVariants.{Active, Kept}
use Rattle.fv_volume.specs.Asking.{trees_opened, OpensAs}
use Rattle.fv_volume.specs.Paths.{unknown_over, StepsTo}

-- ---- one tree

-- two costs that agree on what is followed
module _ (cost other : Pointer → ℕ) (s : Loaded) (agree : (level place : ℕ) → s.changed level place ≡ false → (pointer_at s.tree level place).stamp ≢ 0 → cost (pointer_at s.tree level place) ≡ other (pointer_at s.tree level place)) where
  same_place : (level place : ℕ) → place_cost cost s level place ≡ place_cost other s level place
  same_place level place = by (s.changed level place) refl ((pointer_at s.tree level place).stamp == 0) refl
    where
      by : (c : Bool) → s.changed level place ≡ c → (h : Bool) → ((pointer_at s.tree level place).stamp == 0) ≡ h → ◌≡◌ {A = ℕ} (cond (c || h) 0 (cost (pointer_at s.tree level place))) (cond (c || h) 0 (other (pointer_at s.tree level place)))
      by true changed h is = refl
      by false same true is = refl
      by false same false is = agree level place same (λ none. let wrong : ((pointer_at s.tree level place).stamp == 0) ≡ true = grind (arith, nat_tests, none) in let both : true ≡ false = sym wrong ∙ is in cc)

  same_below : (i levels : ℕ) → cost_below cost s i levels ≡ cost_below other s i levels
  unfolding cost_below
  same_below i zero = refl
  same_below i (suc level) = ap₂ ◌+◌ (same_place level (i / fan ^ level)) (same_below i level)

  pub same_way : (i : ℕ) → way_cost cost s i ≡ way_cost other s i
  same_way i = same_below i (suc s.tree.levels)

-- ---- trees that are alike

way_alike : (cost : Pointer → ℕ) (o r : Option Loaded) → AlikeIn o r → (i : ℕ) → way_in cost o i ≡ way_in cost r i
way_alike cost None None alike i = refl
way_alike cost None (Some u) alike i = absurd alike
way_alike cost (Some s) None alike i = absurd alike
way_alike cost (Some s) (Some u) alike i = ways_alike cost s u alike.changed alike.tree i

pub path_alike : (cost : Pointer → ℕ) (x y : Trees) → AreAlike x y → (n i : ℕ) → path_cost cost x n i ≡ path_cost cost y n i
path_alike cost x y alike n i = ap₂ ◌+◌ (way_alike cost (x None) (y None) (alike None) (n / records_each)) (way_alike cost (x (Some n)) (y (Some n)) (alike (Some n)) i)

-- a table that was taken out has the trees of the one that is asked
pub opened_alike : (active : Rooted) (files : Option Files) (f : Files) (t : TableAsked) → OpensAs active files f t → (blocks : Under) → AreAlike (loaded_trees blocks f) (trees_opened blocks active files t)
opened_alike active files f Active opens = opens.1
opened_alike active files f (Kept root) opens = opens

-- ---- the file of a name

-- the first file of a name is one
module _ (t : Spelled) (name : List ℕ) (a b : Info) (one : IsFirst t name a) (other : IsFirst t name b) where
  not_below : (c e : Info) → IsFirst t name c → IsFirst t name e → c.number < e.number → ⊥
  not_below c e first later less =
      let is : has_name (file_at t c.number) name ≡ true = ap (λ o. has_name o name) first.there ∙ first.named in
      let both : true ≡ false = sym is ∙ later.first c.number less in
      cc

  same_number : a.number ≡ b.number
  same_number = ⊎_elim
      (λ less. absurd (not_below a b one other less))
      (λ most. ⊎_elim (λ less. absurd (not_below b a other one less)) (λ least. omega (arith, most, least)) (cases_lt b.number a.number))
      (cases_lt a.number b.number)

  some_record : (q r : InodeRecord) → Some q ≡ Some r → q ≡ r
  some_record q r same = cc

  same_record : one.file ≡ other.file
  same_record = some_record one.file other.file (sym one.there ∙ ap (file_at t) same_number ∙ other.there)

  pub first_once : a ≡ b
  first_once = one.told ∙ (λ j. info_of (same_number j) (same_record j)) ∙ sym other.told

pub steps_to : (x : Standing) (trees : Trees) (name : List ℕ) (info : Info) → IsFirst x.inode name info → (i before now : ℕ) → now ≡ before + unknown_over trees info.number i → StepsTo x trees name i before now
steps_to x trees name info first i before now is = λ other its. is ∙ ap (λ (k : Info). before + unknown_over trees k.number i) (first_once x.inode name info other first its)
