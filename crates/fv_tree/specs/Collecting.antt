-- The ranges of a level that stand and reach past a length, and the nodes over them.
use Rattle.std.specs.Prelude.{◌≡◌, ◌≢◌, ◌≤◌, ◌<◌, ◌⊎◌, ℕ, ◌-◌, ◌/◌, ◌%◌, ◌^◌, List, Some, get_or, length}
use Rattle.fv_codec.specs.declared.pointer.Pointer.{Pointer}
use Rattle.fv_model.specs.Trees.{fan}
use Rattle.fv_tree.specs.declared.kept.Tree.{Tree}
use Rattle.fv_tree.specs.Spelled.{Rooted, hole}
use Rattle.fv_tree.specs.Standing.{node_in}
use Rattle.fv_tree.specs.Erasing.{StandsAt}
use Rattle.fv_tree.specs.Unlinking.{IsOver}

abbrev pub IsIn : List ℕ → ℕ → Type 0
IsIn xs q = (j : ℕ) × (j < length xs) × (get_or xs j 0 ≡ q)

abbrev pub IsRising : List ℕ → Type 0
IsRising xs = (j k : ℕ) → j < k → k < length xs → get_or xs j 0 < get_or xs k 0

-- all numbers of a list are below a bound
abbrev pub AllBelow : List ℕ → ℕ → Type 0
AllBelow xs bound = (j : ℕ) → j < length xs → get_or xs j 0 < bound

-- a range of a level stands and has an index from `most` on
pub record IsPast (t : Rooted) (level most place : ℕ) : Type 0 where
  pub stands : StandsAt t level place
  pub far : most / fan ^ level ≤ place

-- these are such ranges, all of them
pub record Collects (t : Rooted) (level most : ℕ) (places : List ℕ) : Type 0 where
  pub rising : IsRising places
  pub past : (j : ℕ) → j < length places → IsPast t level most (get_or places j 0)
  pub whole : (q : ℕ) → IsPast t level most q → IsIn places q

-- the node of a range is in memory
abbrev pub IsHeld : Tree → ℕ → ℕ → Type 0
IsHeld t level place = (xs : List Pointer) × (node_in t level place ≡ Some xs)

abbrev pub StillHeld : Tree → Tree → Type 0
StillHeld old new = (level place : ℕ) → IsHeld old level place → IsHeld new level place

-- such nodes above a level are in memory
abbrev pub AreHeld : Tree → Rooted → ℕ → ℕ → Type 0
AreHeld t s level most = (k q : ℕ) → level < k → k ≤ s.levels → IsPast s k most q → IsHeld t k q

-- numbers with a property came behind others: all of them
pub record Extends (P : ℕ → Type 0) (old new : List ℕ) : Type 0 where
  pub only : (j : ℕ) → j < length new → IsIn old (get_or new j 0) ⊎ P (get_or new j 0)
  pub stay : (q : ℕ) → IsIn old q → IsIn new q
  pub all : (q : ℕ) → P q → IsIn new q

-- a pointer of a node that isn't a hole, to a range past `most` one level below
pub record IsChildPast (xs : List Pointer) (level most place q : ℕ) : Type 0 where
  pub under : q / fan ≡ place
  pub some : (get_or xs (q % fan) hole).stamp ≢ 0
  pub far : most / fan ^ (level - 1) ≤ q

-- that range, where a pointer leads to it and it is far enough
pub record IsAdded (p : Pointer) (far place q : ℕ) : Type 0 where
  pub same : q ≡ place
  pub some : p.stamp ≢ 0
  pub enough : far ≤ q

-- a range past `most` under one of a level
pub record IsUnder (t : Rooted) (level most place q : ℕ) : Type 0 where
  pub under : q / fan ≡ place
  pub past : IsPast t (level - 1) most q

-- a place lies over a cell from `most` on
pub record IsOverPast (most level place : ℕ) : Type 0 where
  pub cell : ℕ
  pub far : most ≤ cell
  pub over : IsOver cell level place
