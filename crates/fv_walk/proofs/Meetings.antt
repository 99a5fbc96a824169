-- What is met from a pointer on, step by step.
use Rattle.std.proofs.Common.{◌≡◌, ◌≢◌, ℕ, zero, suc, ◌-◌, Bool, true, false, List, [], ◌∷◌, refl, sym, ap, ◌∙◌, arith}
use Rattle.std.specs.Prelude.{Option, Some, None, Result, Ok, Err, not, ◌&&◌, map, flat_map, ◌==◌, if◌then◌else◌}
use Rattle.std.specs.List.{enumerate_from}
use Rattle.std.specs.Option.{option_map_or}
use Rattle.std.proofs.lemmas.List.Folds.{flat_map-map}
use Rattle.std.proofs.lemmas.Bool.Decides.{nat_tests}
use Rattle.fv_codec.specs.declared.shape.Shape.{Shape}
use Rattle.fv_codec.specs.declared.pointer.Pointer.{Pointer}
use Rattle.fv_codec.specs.declared.node.Node.{Node}
use Rattle.fv_codec.specs.declared.inode.InodeRecord.{InodeRecord}
use Rattle.fv_codec.specs.Blocks.{node_at}
use Rattle.fv_tables.specs.Reached.{Item}
use Rattle.fv_image.specs.Views.{Placed, Rooted}
use Rattle.fv_faults.specs.Walks.{Ground, child_of, children_of, file_root, files_under, pointers_under, root_item}
use Rattle.fv_faults.specs.Met.{Spot, place_at, plain_one, plain, no_more, files_met, met}
use Rattle.fv_walk.specs.Meetings.{cell_met, met_from, under_met}

-- what is met below each of some pointers that stand in one block
abbrev each_met : Ground → (Item → Placed → List Spot) → (Item → ℕ) → ℕ → List Item → List Spot
each_met g cell level block cs = flat_map (λ c. plain g cell (level c) c block) cs

-- with the level of each at hand
at_level : (g : Ground) (cell : Item → Placed → List Spot) (e : Item) (level block : ℕ) (n : Result Node Shape) → level ≡ e.level - 1
    → each_met g cell (λ c. level) block (children_of e n) ≡ each_met g cell (λ c. c.level) block (children_of e n)
at_level g cell e level block (Err shape) same = refl
at_level g cell e level block (Ok n) same =
    let cs : List (ℕ × Pointer) = enumerate_from 0 n.children in
    flat_map-map (λ (c : Item). plain g cell level c block) (child_of e) cs
    ∙ ap (λ k. flat_map (λ (x : ℕ × Pointer). plain g cell k (child_of e x) block) cs) same
    ∙ sym (flat_map-map (λ (c : Item). plain g cell c.level c block) (child_of e) cs)

-- a root stands at the top of its tree
at_top : (g : Ground) (cell : Item → Placed → List Spot) (e : Item) (block : ℕ) (fs : List (ℕ × InodeRecord))
    → each_met g cell (λ c. c.levels) block (map (file_root e) fs) ≡ each_met g cell (λ c. c.level) block (map (file_root e) fs)
at_top g cell e block fs =
    flat_map-map (λ (c : Item). plain g cell c.levels c block) (file_root e) fs
    ∙ sym (flat_map-map (λ (c : Item). plain g cell c.level c block) (file_root e) fs)

module _ (g : Ground) (e : Item) where
  -- what is met below, by whether the level is that of cells
  abbrev below_by : Bool → Bool → Placed → List Item → List Spot
  below_by of_inodes cell x cs = if cell && not of_inodes then [] else flat_map (λ c. met_from g (of_inodes && not cell) c x.pvbn) cs

  abbrev pointers_by : Bool → Placed → List Item
  pointers_by cell x = if cell then map (file_root e) (files_under e x) else children_of e (node_at x.block)

  is_under : (of_inodes cell : Bool) (x : Placed) → (e.level == 0) ≡ cell → under_met g of_inodes e x ≡ below_by of_inodes cell x (pointers_by cell x)
  unfolding pointers_under
  is_under of_inodes cell x test = ap (λ t. below_by of_inodes t x (pointers_by t x)) test

  below_cells : (x : Placed) → (e.level == 0) ≡ true → files_met g e x ≡ under_met g true e x
  unfolding pointers_under
  below_cells x test =
      ap (λ t. flat_map (λ c. plain g no_more c.levels c x.pvbn) (pointers_by t x)) test
      ∙ at_top g no_more e x.pvbn (files_under e x)
      ∙ sym (is_under true true x test)

  below_nodes : (of_inodes : Bool) (level : ℕ) (x : Placed) → (e.level == 0) ≡ false → level ≡ e.level - 1
      → flat_map (λ c. plain g (cell_met g of_inodes) level c x.pvbn) (pointers_under e x) ≡ under_met g of_inodes e x
  unfolding pointers_under
  below_nodes true level x test same =
      ap (λ t. flat_map (λ c. plain g (files_met g) level c x.pvbn) (pointers_by t x)) test
      ∙ at_level g (files_met g) e level x.pvbn (node_at x.block) same
      ∙ sym (is_under true false x test)
  below_nodes false level x test same =
      ap (λ t. flat_map (λ c. plain g no_more level c x.pvbn) (pointers_by t x)) test
      ∙ at_level g no_more e level x.pvbn (node_at x.block) same
      ∙ sym (is_under false false x test)

  same_at : (f h : Placed → List Spot) → ((x : Placed) → f x ≡ h x) → (at : Option Placed) → option_map_or f at [] ≡ option_map_or h at []
  same_at f h same None = refl
  same_at f h same (Some x) = same x

  same_one : (f h : Item → Placed → List Spot) (block : ℕ) → ((x : Placed) → f e x ≡ h e x) → plain_one g f e block ≡ plain_one g h e block
  same_one f h block same = ap (λ (r : List Spot). if e.pointer.stamp == 0 then [] else (e, block) ∷ r) (same_at (f e) (h e) same (place_at g e))

  one_by : (of_inodes : Bool) (level block : ℕ) → e.level ≡ level → plain g (cell_met g of_inodes) level e block ≡ plain_one g (under_met g of_inodes) e block
  unfolding plain
  one_by true zero block is = same_one (files_met g) (under_met g true) block (λ x. below_cells x (grind (arith, nat_tests, is)))
  one_by false zero block is =
      same_one no_more (under_met g false) block (λ x. sym (is_under false true x (grind (arith, nat_tests, is))))
  one_by of_inodes (suc level) block is =
      same_one (λ e x. flat_map (λ c. plain g (cell_met g of_inodes) level c x.pvbn) (pointers_under e x)) (under_met g of_inodes) block
      (λ x. below_nodes of_inodes level x (grind (arith, nat_tests, is)) (omega (arith, is)))

  -- nothing is met from a hole on
  pub met_none : (of_inodes : Bool) (block : ℕ) → e.pointer.stamp ≡ 0 → met_from g of_inodes e block ≡ []
  met_none of_inodes block none =
      let test : (e.pointer.stamp == 0) ≡ true = grind (arith, nat_tests, none) in
      one_by of_inodes e.level block refl
      ∙ ap (λ (t : Bool). if t then [] else (e, block) ∷ option_map_or (under_met g of_inodes e) (place_at g e) []) test

  -- from another pointer on it is met, and then what lies below it
  pub met_one : (of_inodes : Bool) (block : ℕ) → e.pointer.stamp ≢ 0
      → met_from g of_inodes e block ≡ (e, block) ∷ option_map_or (under_met g of_inodes e) (place_at g e) []
  met_one of_inodes block some =
      let test : (e.pointer.stamp == 0) ≡ false = grind (arith, nat_tests, some) in
      one_by of_inodes e.level block refl
      ∙ ap (λ (t : Bool). if t then [] else (e, block) ∷ option_map_or (under_met g of_inodes e) (place_at g e) []) test

-- what a root meets, is met from its pointer on
pub met_root : (g : Ground) (label : ℕ) (r : Rooted) → met g label r ≡ met_from g true (root_item r) label
unfolding met
met_root g label r = refl
