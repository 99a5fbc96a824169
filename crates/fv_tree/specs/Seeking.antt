-- The first cell from an index on.
use Rattle.std.specs.Prelude.{◌≡◌, ◌≢◌, ◌≤◌, ◌<◌, ℕ, ◌/◌, ◌%◌, List, Option, Some, None, get_or}
use Rattle.fv_codec.specs.declared.pointer.Pointer.{Pointer}
use Rattle.fv_model.specs.Trees.{fan}
use Rattle.fv_tree.specs.declared.next.Landing.{Landing}
use Rattle.fv_tree.specs.declared.next.Landing.TheVariants.{Cell, Past}
use Rattle.fv_tree.specs.Spelled.{Rooted, hole, pointer_at}
use Rattle.fv_tree.specs.Erasing.{StandsAt}

-- no cell of these stands
abbrev pub AreHoles : Rooted → ℕ → ℕ → Type 0
AreHoles t from to = (i : ℕ) → from ≤ i → i < to → (pointer_at t 0 i).stamp ≡ 0

-- the first cell from an index on, or none
abbrev pub IsNextCell : Rooted → ℕ → Option ℕ → Type 0
IsNextCell t from None = (i : ℕ) → from ≤ i → (pointer_at t 0 i).stamp ≡ 0
IsNextCell t from (Some at) = (from ≤ at) × StandsAt t 0 at × AreHoles t from at

-- the first pointer of a node from one on that leads somewhere
pub record IsFirstLed (xs : List Pointer) (first q : ℕ) (p : Pointer) : Type 0 where
  pub low : first ≤ q
  pub high : q / fan ≡ first / fan
  pub pointer : p ≡ get_or xs (q % fan) hole
  pub some : p.stamp ≢ 0
  pub before : (r : ℕ) → first ≤ r → r < q → (get_or xs (r % fan) hole).stamp ≡ 0

-- the pointer to a range, where nothing leads to those of its level from one on before it
pub record IsFirstChild (t : Rooted) (level first q : ℕ) (p : Pointer) : Type 0 where
  pub pointer : p ≡ pointer_at t level q
  pub before : (r : ℕ) → first ≤ r → r < q → (pointer_at t level r).stamp ≡ 0

-- the way to an index ends at the first cell from it on, or past holes
abbrev pub Lands : Rooted → ℕ → Landing → Type 0
Lands t from (Cell at) = (from ≤ at) × StandsAt t 0 at × AreHoles t from at
Lands t from (Past next) = AreHoles t from next

abbrev pub IsFurther : ℕ → Landing → Type 0
IsFurther from (Cell at) = Unit {0}
IsFurther from (Past next) = from < next
