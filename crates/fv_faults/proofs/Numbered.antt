-- The files that the walk of a root meets have different numbers.
use Rattle.std.proofs.Common.{◌≡◌, ℕ, suc, ◌+◌, ◌*◌, ◌/◌, ◌<◌, ◌≤◌, Bool, true, false, not, List, [], ◌∷◌, ◌++◌, length, inl, inr, refl, sym, ap, ◌∙◌, arith, ⊎_elim, Result, Ok, Err}
use Rattle.std.specs.Prelude.{Option, Some, None, flat_map, ◌==◌, if◌then◌else◌}
use Rattle.std.specs.Option.{option_map_or}
use Rattle.std.proofs.lemmas.Bool.{and_parts, and_from}
use Rattle.std.proofs.lemmas.Bool.Decides.{nat_tests}
use Rattle.std.proofs.lemmas.List.{append_assoc, append-nil}
use Rattle.std.proofs.lemmas.List.Concat.{flat_map-append}
use Rattle.fv_codec.specs.declared.shape.Shape.{Shape}
use Rattle.fv_codec.specs.declared.inode.InodeRecord.{InodeRecord}
use Rattle.fv_codec.specs.declared.inode.InodeBlock.{InodeBlock}
use Rattle.fv_codec.specs.Blocks.{inodes_at}
use Rattle.fv_laws.proofs.Lists.{In, in_either, from_flat_map}
use Rattle.fv_laws.proofs.Tests.{from_all}
use Rattle.fv_tables.specs.Told.{records_each}
use Rattle.fv_image.specs.Views.{Placed}
use Rattle.fv_image.specs.ReachRules.{is_same_position}
use Rattle.fv_image.proofs.WellNodes.{files_of as files_long}
use Rattle.fv_faults.specs.Walks.{Step, Ground, step, used_from, files_of, files_under, is_inode_cell, has_reached, met_in}
use Rattle.fv_faults.proofs.Plain.{Spot, place_at, run}
use Rattle.fv_faults.proofs.Reached.{AreNew}
use Rattle.fv_faults.proofs.Positions.{IsDistinct}

abbrev pub File : Type 0
File = ℕ × InodeRecord

-- each number differs from all later ones
abbrev pub AreNumbered : List File → Type 0
AreNumbered [] = Unit {0}
AreNumbered (f ∷ fs) = ((g : File) → In g fs → f.0 ≡ g.0 → ⊥) × AreNumbered fs

numbered_both : (fs gs : List File) → AreNumbered fs → AreNumbered gs → ((f g : File) → In f fs → In g gs → f.0 ≡ g.0 → ⊥) → AreNumbered (fs ++ gs)
numbered_both [] gs a b apart = b
numbered_both (f ∷ fs) gs a b apart = (
  (λ g there is. ⊎_elim (λ one. a.0 g one is) (λ other. apart f g (inl refl) other is) (in_either g fs gs there)),
  numbered_both fs gs a.1 b (λ e g one other. apart e g (inr one) other),
)

-- ---- the used records of a block

used_within : (a : ℕ) (rs : List InodeRecord) (f : File) → In f (used_from a rs) → (a ≤ f.0) × (f.0 < a + length rs)
unfolding used_from
used_within a [] f there = absurd there
used_within a (r ∷ rs) f there = so (r.name_length == 0) (λ later. used_within (a + 1) rs f later) there
  where
    so : (b : Bool) → (In f (used_from (a + 1) rs) → (a + 1 ≤ f.0) × (f.0 < a + 1 + length rs)) → In f (if b then used_from (a + 1) rs else (a, r) ∷ used_from (a + 1) rs) → (a ≤ f.0) × (f.0 < a + suc (length rs))
    so true rest there = let two = rest there in (omega (arith, two.0), omega (arith, two.1))
    so false rest (inl is) = let same : a ≡ f.0 = ap (λ (e : File). e.0) is in (omega (arith, same), omega (arith, same))
    so false rest (inr there) = let two = rest there in (omega (arith, two.0), omega (arith, two.1))

used_numbered : (a : ℕ) (rs : List InodeRecord) → AreNumbered (used_from a rs)
unfolding used_from
used_numbered a [] = tt
used_numbered a (r ∷ rs) = so (r.name_length == 0) (used_numbered (a + 1) rs)
  where
    so : (b : Bool) → AreNumbered (used_from (a + 1) rs) → AreNumbered (if b then used_from (a + 1) rs else (a, r) ∷ used_from (a + 1) rs)
    so true rest = rest
    so false rest = ((λ g there is. let two = used_within (a + 1) rs g there in absurd (omega (arith, two.0, is))), rest)

-- ---- the files that a spot meets

module _ (g : Ground) where
  abbrev pub found_files : Spot → List File
  found_files p = option_map_or (files_under p.0) (place_at g p.0) []

  -- of the inode block at a cell
  record IsOfCell (p : Spot) (f : File) : Type 0 where
    pub cell : is_inode_cell p.0 ≡ true
    pub home : f.0 / records_each ≡ p.0.place

  of_cell : (p : Spot) (f : File) → In f (found_files p) → IsOfCell p f
  unfolding files_under
  of_cell p f there = so (place_at g p.0) there
    where
      read : (x : Placed) (r : Result InodeBlock Shape) → inodes_at x.block ≡ r → In f (files_of p.0.place r) → f.0 / records_each ≡ p.0.place
      read x (Err e) is there = absurd there
      read x (Ok b) is there =
          let two = used_within (records_each * p.0.place) b.files f there in
          let long = files_long x.block b is in
          omega (arith, two.0, two.1, long)

      cell_of : (x : Placed) (b : Bool) → is_inode_cell p.0 ≡ b → In f (if b then files_of p.0.place (inodes_at x.block) else []) → IsOfCell p f
      cell_of x true is there = record { cell = is; home = read x (inodes_at x.block) refl there }
      cell_of x false is there = absurd there

      so : (o : Option Placed) → In f (option_map_or (files_under p.0) o []) → IsOfCell p f
      so None there = absurd there
      so (Some x) there = cell_of x (is_inode_cell p.0) refl there

  one_cell : (p q : Spot) (f h : File) → IsOfCell p f → IsOfCell q h → f.0 ≡ h.0 → is_same_position p.0 q.0 ≡ true
  one_cell p q f h a b is =
      let x = and_parts (p.0.level == 0) _ a.cell in
      let y = and_parts (q.0.level == 0) _ b.cell in
      let place_is : p.0.place ≡ q.0.place = sym a.home ∙ ap (λ (n : ℕ). n / records_each) is ∙ b.home in
      let owner : (p.0.owner == q.0.owner) ≡ true = grind (arith, nat_tests, x.1, y.1) in
      let level : (p.0.level == q.0.level) ≡ true = grind (arith, nat_tests, x.0, y.0) in
      let place : (p.0.place == q.0.place) ≡ true = grind (arith, nat_tests, place_is) in
      and_from (p.0.owner == q.0.owner) _ owner (and_from (p.0.level == q.0.level) _ level place)

  found_numbered : (p : Spot) → AreNumbered (found_files p)
  unfolding files_under
  found_numbered p = so (place_at g p.0)
    where
      read : (r : Result InodeBlock Shape) → AreNumbered (files_of p.0.place r)
      read (Err e) = tt
      read (Ok b) = used_numbered (records_each * p.0.place) b.files

      cell_of : (x : Placed) (b : Bool) → AreNumbered (if b then files_of p.0.place (inodes_at x.block) else [])
      cell_of x true = read (inodes_at x.block)
      cell_of x false = tt

      so : (o : Option Placed) → AreNumbered (option_map_or (files_under p.0) o [])
      so None = tt
      so (Some x) = cell_of x (is_inode_cell p.0)

  -- Of spots at different positions no two files have one number.
  pub all_numbered : (ps : List Spot) → IsDistinct ps → AreNumbered (flat_map found_files ps)
  all_numbered [] distinct = tt
  all_numbered (p ∷ ps) distinct = numbered_both (found_files p) (flat_map found_files ps) (found_numbered p) (all_numbered ps distinct.1) (λ f h one other is.
      let there = from_flat_map found_files h ps other in
      differ (is_same_position p.0 there.0.0) (one_cell p there.0 f h (of_cell p f one) (of_cell there.0 h there.2) is)
      (from_all (λ (q : Spot). not (is_same_position p.0 q.0)) ps distinct.0 there.0 there.1))
    where
      differ : (b : Bool) → b ≡ true → not b ≡ true → ⊥
      differ true a c = cc
      differ false a c = cc

  -- ---- the steps' files are those of the spots

  pub after_step : (done : List Step) (p : Spot) → has_reached done p.0.pointer.vvbn ≡ false → flat_map met_in (done ++ (step g done p.0 p.1 ∷ [])) ≡ flat_map met_in done ++ found_files p
  unfolding step
  after_step done p new =
      flat_map-append met_in done (step g done p.0 p.1 ∷ [])
      ∙ ap (λ (b : Bool). flat_map met_in done ++ ((if not b then option_map_or (files_under p.0) (place_at g p.0) [] else []) ++ [])) new
      ∙ ap (λ fs. flat_map met_in done ++ fs) (append-nil (found_files p))

  pub run_files : (done : List Step) (ps : List Spot) → AreNew g done ps → flat_map met_in (run g done ps) ≡ flat_map met_in done ++ flat_map found_files ps
  unfolding run
  run_files done [] are = sym (append-nil (flat_map met_in done))
  run_files done (p ∷ ps) are =
      run_files (done ++ (step g done p.0 p.1 ∷ [])) ps are.1.1
      ∙ ap (λ fs. fs ++ flat_map found_files ps) (after_step done p are.0)
      ∙ append_assoc (flat_map met_in done) (found_files p) (flat_map found_files ps)
