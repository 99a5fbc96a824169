-- The walk with its stops from a pointer on, step by step.
use Rattle.std.proofs.Common.{◌≡◌, ◌≢◌, ℕ, zero, suc, ◌+◌, ◌-◌, ◌<◌, Bool, true, false, List, [], ◌∷◌, ◌++◌, length, get_or, take, refl, sym, ap, ◌∙◌, arith}
use Rattle.std.specs.Prelude.{Option, Some, None, Result, Ok, Err, not, ◌&&◌, map, ◌==◌, if◌then◌else◌}
use Rattle.std.specs.List.{enumerate_from}
use Rattle.std.proofs.lemmas.List.{take_more}
use Rattle.std.proofs.lemmas.Bool.Decides.{nat_tests}
use Rattle.fv_codec.specs.declared.shape.Shape.{Shape}
use Rattle.fv_codec.specs.declared.pointer.Pointer.{Pointer}
use Rattle.fv_codec.specs.declared.node.Node.{Node}
use Rattle.fv_codec.specs.declared.inode.InodeRecord.{InodeRecord}
use Rattle.fv_codec.specs.Blocks.{node_at}
use Rattle.fv_tables.specs.Reached.{Item}
use Rattle.fv_image.specs.Views.{Placed, Rooted}
use Rattle.fv_faults.specs.declared.fault.Fault.{Fault}
use Rattle.fv_faults.specs.Walks.{Step, Ground, Going, step, each, below_if, onward, along_one, go, nothing, into_files, child_of, children_of, file_root, files_under, pointers_under, root_item, steps}
use Rattle.fv_walk.specs.Goings.{cell_going, going_from, under_going}

-- ---- one after another

module _ {X : Type 0} (f : X → Going) where
  each_append : (xs ys : List X) (done : List Step) → each f (xs ++ ys) done ≡ each f ys (each f xs done)
  each_append [] ys done = refl
  each_append (x ∷ xs) ys done = each_append xs ys (f x done)

  pub each_more : (xs : List X) (n : ℕ) (d : X) (done : List Step) → n < length xs → each f (take (n + 1) xs) done ≡ f (get_or xs n d) (each f (take n xs) done)
  each_more xs n d done low = ap (λ (ys : List X). each f ys done) (take_more xs n d low) ∙ each_append (take n xs) (get_or xs n d ∷ []) done

pub each_map : {X Y : Type 0} (f : Y → Going) (h : X → Y) (xs : List X) (done : List Step) → each f (map h xs) done ≡ each (λ x. f (h x)) xs done
each_map f h [] done = refl
each_map f h (x ∷ xs) done = each_map f h xs (f (h x) done)

-- ---- below a pointer

-- with the level of each at hand
at_level : (g : Ground) (cell : Item → Placed → Going) (e : Item) (level block : ℕ) (n : Result Node Shape) (done : List Step) → level ≡ e.level - 1
    → each (λ c. go g cell level c block) (children_of e n) done ≡ each (λ c. go g cell c.level c block) (children_of e n) done
at_level g cell e level block (Err shape) done same = refl
at_level g cell e level block (Ok n) done same =
    let cs : List (ℕ × Pointer) = enumerate_from 0 n.children in
    each_map (λ (c : Item). go g cell level c block) (child_of e) cs done
    ∙ ap (λ k. each (λ (x : ℕ × Pointer). go g cell k (child_of e x) block) cs done) same
    ∙ sym (each_map (λ (c : Item). go g cell c.level c block) (child_of e) cs done)

-- a root stands at the top of its tree
at_top : (g : Ground) (cell : Item → Placed → Going) (e : Item) (block : ℕ) (fs : List (ℕ × InodeRecord)) (done : List Step)
    → each (λ c. go g cell c.levels c block) (map (file_root e) fs) done ≡ each (λ c. go g cell c.level c block) (map (file_root e) fs) done
at_top g cell e block fs done =
    each_map (λ (c : Item). go g cell c.levels c block) (file_root e) fs done
    ∙ sym (each_map (λ (c : Item). go g cell c.level c block) (file_root e) fs done)

-- what goes on below a step goes by what it does
same_below : (f h : Placed → Going) → ((x : Placed) (done : List Step) → f x done ≡ h x done)
    → (lines : List Fault) (at : Option Placed) (after : List Step) → below_if f lines at after ≡ below_if h lines at after
same_below f h same [] None after = refl
same_below f h same [] (Some x) after = same x after
same_below f h same (line ∷ lines) at after = refl

module _ (g : Ground) (e : Item) where
  -- by whether the level is that of cells
  abbrev going_by : Bool → Bool → Placed → List Item → Going
  going_by of_inodes cell x cs done = if cell && not of_inodes then done else each (λ c. going_from g (of_inodes && not cell) c x.pvbn) cs done

  abbrev pointers_by : Bool → Placed → List Item
  pointers_by cell x = if cell then map (file_root e) (files_under e x) else children_of e (node_at x.block)

  goes_by : (of_inodes cell : Bool) (x : Placed) (done : List Step) → (e.level == 0) ≡ cell
      → under_going g of_inodes e x done ≡ going_by of_inodes cell x (pointers_by cell x) done
  unfolding pointers_under
  goes_by of_inodes cell x done test = ap (λ t. going_by of_inodes t x (pointers_by t x) done) test

  cells_go : (x : Placed) (done : List Step) → (e.level == 0) ≡ true → into_files g e x done ≡ under_going g true e x done
  unfolding pointers_under
  cells_go x done test =
      ap (λ t. each (λ c. go g nothing c.levels c x.pvbn) (pointers_by t x) done) test
      ∙ at_top g nothing e x.pvbn (files_under e x) done
      ∙ sym (goes_by true true x done test)

  nodes_go : (of_inodes : Bool) (level : ℕ) (x : Placed) (done : List Step) → (e.level == 0) ≡ false → level ≡ e.level - 1
      → each (λ c. go g (cell_going g of_inodes) level c x.pvbn) (pointers_under e x) done ≡ under_going g of_inodes e x done
  unfolding pointers_under
  nodes_go true level x done test same =
      ap (λ t. each (λ c. go g (into_files g) level c x.pvbn) (pointers_by t x) done) test
      ∙ at_level g (into_files g) e level x.pvbn (node_at x.block) done same
      ∙ sym (goes_by true false x done test)
  nodes_go false level x done test same =
      ap (λ t. each (λ c. go g nothing level c x.pvbn) (pointers_by t x) done) test
      ∙ at_level g nothing e level x.pvbn (node_at x.block) done same
      ∙ sym (goes_by false false x done test)

  same_one : (f h : Item → Placed → Going) (block : ℕ) (done : List Step) → ((x : Placed) (d : List Step) → f e x d ≡ h e x d)
      → along_one g f e block done ≡ along_one g h e block done
  same_one f h block done same =
      let s : Step = step g done e block in
      ap (λ (r : List Step). if e.pointer.stamp == 0 then done else r) (same_below (f e) (h e) same s.lines s.at (done ++ (s ∷ [])))

  goes_one : (of_inodes : Bool) (level block : ℕ) (done : List Step) → e.level ≡ level
      → go g (cell_going g of_inodes) level e block done ≡ along_one g (under_going g of_inodes) e block done
  unfolding go
  goes_one true zero block done is = same_one (into_files g) (under_going g true) block done (λ x d. cells_go x d (grind (arith, nat_tests, is)))
  goes_one false zero block done is = same_one nothing (under_going g false) block done (λ x d. sym (goes_by false true x d (grind (arith, nat_tests, is))))
  goes_one of_inodes (suc level) block done is =
      same_one (λ e x. each (λ c. go g (cell_going g of_inodes) level c x.pvbn) (pointers_under e x)) (under_going g of_inodes) block done
      (λ x d. nodes_go of_inodes level x d (grind (arith, nat_tests, is)) (omega (arith, is)))

  -- no step is made along a hole
  pub goes_nowhere : (of_inodes : Bool) (block : ℕ) (done : List Step) → e.pointer.stamp ≡ 0 → going_from g of_inodes e block done ≡ done
  goes_nowhere of_inodes block done none =
      let test : (e.pointer.stamp == 0) ≡ true = grind (arith, nat_tests, none) in
      goes_one of_inodes e.level block done refl
      ∙ ap (λ (t : Bool). if t then done else onward (under_going g of_inodes e) (step g done e block) done) test

  -- along another pointer one is made, and then those below it
  pub goes_on : (of_inodes : Bool) (block : ℕ) (done : List Step) → e.pointer.stamp ≢ 0
      → going_from g of_inodes e block done ≡ onward (under_going g of_inodes e) (step g done e block) done
  goes_on of_inodes block done some =
      let test : (e.pointer.stamp == 0) ≡ false = grind (arith, nat_tests, some) in
      goes_one of_inodes e.level block done refl
      ∙ ap (λ (t : Bool). if t then done else onward (under_going g of_inodes e) (step g done e block) done) test

-- the steps of a root go on from its pointer
pub goes_root : (g : Ground) (label : ℕ) (r : Rooted) → steps g label r ≡ going_from g true (root_item r) label []
unfolding steps
goes_root g label r = refl
