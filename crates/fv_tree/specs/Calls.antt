-- What the calls of a tree leave of the tree, of its blocks and of what they were lent: a record for each family of calls.
--
-- `told` says that content is told; `reading` is what loads leave of a source, and `going` what all calls leave.
use Rattle.std.specs.Prelude.{◌≡◌, ◌≢◌, ◌≤◌, ◌+◌, ℕ, Bool, Option, Result, IfOk, IfErr, OnOk, OnErr}
use Rattle.fv_disk.specs.declared.fault.BlockFault.{BlockFault}
use Rattle.fv_tree.specs.declared.kept.Tree.{Tree}
use Rattle.fv_tree.specs.Spelled.{Under}
use Rattle.fv_tree.specs.Sources.{Shown, Use, Counts, HasCause, IsDamaged, IsUntouched, WasFree}
use Rattle.fv_tree.specs.Standing.{standing, under, Fails, IsSameBut}
use Rattle.fv_tree.specs.Keeping.{IsSame}
use Rattle.fv_tree.specs.Carried.{MarksNoMore}
use Rattle.fv_tree.specs.Flushing.{loaded, loaded_over, Flushes, IsLeft, IsPlaced, IsSound, Stands}
use Rattle.fv_tree.specs.Altering.{Leaves, PlacesAnew}
use Rattle.fv_tree.specs.Counting.{positions_of}
use Rattle.fv_tree.specs.Leading.{Carries, KeepsHints, LeadsNoMore}
use Rattle.fv_tree.specs.Readying.{KeepsReady}
use Rattle.fv_tree.specs.Releasing.{IsDropped, KeepsBlocks, Releases, Removes}
use Rattle.fv_tree.specs.Stored.{IsStoredWell, TellsPlaces, KeepsPlaces}
use Rattle.fv_tree.specs.Unlinking.{CellGoes}
use Rattle.fv_tree.specs.Costs.{cells_held, changes_in, pending, Fits, IsEnough, Rises}

-- ---- calls that place and drop nothing

-- A source was only loaded from: it is as it was but for the count of look-ups, and `fails` says why the call failed.
pub record LoadsFrom {T : Type 0} (reading : Type 0) (fails : BlockFault → Type 0) (old new : Shown)
    (result : Result T BlockFault) : Type 0 where
  pub untouched : IsUntouched old new
  pub reads : reading
  pub counts : Counts old new result
  pub cause : IfErr result fails

-- A call that changes at most what is in memory. The tree stands on its blocks if it did, and leads to the same ones from the same places.
-- Each cell that was ready still is. At most `more` more cells and nodes differ from their blocks, and at most `brought` more cells are in
-- memory.
pub record Steady {T : Type 0} (told reading : Type 0) (old new : Shown) (t u : Tree) (more brought : ℕ)
    (result : Result T BlockFault) : Type 0 where
  pub owner : u.owner ≡ t.owner
  pub stands : told → Stands old t → Stands new u
  pub leads : told → LeadsNoMore (loaded old t) (loaded new u)
  pub keeps : told → LeadsNoMore (loaded new u) (loaded old t)
  pub hints : told → KeepsHints (loaded old t) (loaded new u)
  pub stored_well : told → IsStoredWell (loaded old t) → IsStoredWell (loaded new u)
  pub tells : told → TellsPlaces (loaded old t) → TellsPlaces (loaded new u)
  pub keeps_ready : KeepsReady t u
  pub rises : Rises t u more brought
  pub untouched : IsUntouched old new
  pub reads : reading
  pub counts : Counts old new result
  pub cause : IfErr result (Fails told (standing (under old) t) old new)

-- the same of a call that isn't lent a source, over whatever blocks
pub record SteadyHeld (t u : Tree) (more brought : ℕ) : Type 0 where
  pub owner : u.owner ≡ t.owner
  pub stands : (held : Under) (used : ℕ → Option Use) → IsSound used (loaded_over held t) → IsSound used (loaded_over held u)
  pub leads : (held : Under) → LeadsNoMore (loaded_over held t) (loaded_over held u)
  pub keeps : (held : Under) → LeadsNoMore (loaded_over held u) (loaded_over held t)
  pub hints : (held : Under) → KeepsHints (loaded_over held t) (loaded_over held u)
  pub keeps_ready : KeepsReady t u
  pub rises : Rises t u more brought

-- A call that holds nodes in memory. The tree is the same, and no more of it differs from its blocks.
pub record Loading {T : Type 0} (told reading : Type 0) (old new : Shown) (t u : Tree) (result : Result T BlockFault) : Type 0 where
  pub fields : IsSameBut t u
  pub same : told → IsSame (standing (under old) t) (standing (under new) u)
  pub blocks : told → KeepsBlocks (under old) t u
  pub leaves : told → Leaves (loaded old t) (loaded new u)
  pub stands : told → Stands old t → Stands new u
  pub changes : changes_in u.nodes ≤ changes_in t.nodes
  pub marks : told → MarksNoMore t u
  pub untouched : IsUntouched old new
  pub reads : reading
  pub counts : Counts old new result
  pub cause : IfErr result (Fails told (standing (under old) t) old new)

-- ---- removals

-- A call that removes cells, those for which `gone` is true, by a change with the stamp s; it answers how many positions went. After a
-- fault the tree is the same, and no block was named as gone.
pub record Removing (told going : Type 0) (old new : Shown) (t u : Tree) (gone : ℕ → Bool) (start s : ℕ)
    (result : Result ℕ BlockFault) : Type 0 where
  pub done : told → OnOk result (Removes old new t u gone start s)
  pub count : told → IfOk result (λ count. positions_of (standing (under old) t) ≡ positions_of (standing (under old) u) + count)
  pub failed : told → OnErr result (IsSame (standing (under old) t) (standing (under new) u))
  pub owner : u.owner ≡ t.owner
  pub stays : told → OnErr result (Carries old new t u)
  pub leaves : told → OnErr result (Leaves (loaded old t) (loaded new u))
  pub untouched : OnErr result (IsUntouched old new)
  pub room : old.room ≤ new.room
  pub still : OnErr result (pending u ≤ pending t)
  pub held : cells_held u ≤ cells_held t
  pub calls : going
  pub counts : Counts old new result
  pub cause : IfErr result (Fails told (standing (under old) t) old new)

-- One cell that stood goes, over whatever blocks lie under the tree; so many positions go with it.
pub record ErasesCell (held : Under) (old new : Shown) (t u : Tree) (i start s gone : ℕ) : Type 0 where
  pub goes : CellGoes held t u i start s
  pub released : Releases old new (IsDropped held t u)
  pub strays : IsSound old.used (loaded_over held t) → new.strays ≡ old.strays
  pub count : positions_of (standing held t) ≡ positions_of (standing held u) + gone

-- ---- flushes

-- A call that places one block at most, and names at most one as gone.
pub record PlacesOne {T : Type 0} (told known going : Type 0) (old new : Shown) (result : Result T BlockFault) : Type 0 where
  pub places : known → KeepsPlaces old new
  pub room : OnOk result (old.room ≤ new.room + 1)
  pub enough : told → old.room ≢ 0 → IfErr result (λ e. IsDamaged e → ⊥)
  pub spent : new.spent ≡ old.spent
  pub untouched : OnErr result (IsUntouched old new)
  pub calls : going
  pub counts : Counts old new result
  pub cause : IfErr result (HasCause old new)

-- A call that places what differs from its block, all of it or a part; the first six fields hold of a tree that stands on its blocks.
-- Where it `hides` places, pointers to what is placed are unknown. `known` says that the source answers the place of what it places, and
-- `stays` what stays under a VVBN.
pub record PlacesChanged {B T : Type 0} (hides : Bool) (told known : Type 0) (shown : B → Shown) (goes : B → B → Type 0) (stays : ℕ → B → B → Type 0)
    (old new : B) (t u : Tree) (result : Result T BlockFault) : Type 0 where
  pub flushes : told → Stands (shown old) t → Flushes hides (loaded (shown old) t) (shown old).used (loaded (shown new) u) (shown new).used
  pub anew : told → Stands (shown old) t → PlacesAnew (loaded (shown old) t) (WasFree shown goes old new) (loaded (shown new) u)
  pub keeps : told → Stands (shown old) t
      → (v : ℕ) → (IsPlaced (loaded (shown old) t) (loaded (shown new) u) v → ⊥) → stays v old new
  pub strays : told → Stands (shown old) t → (shown new).strays ≡ (shown old).strays
  pub fits : told → Stands (shown old) t → Fits (shown old) t (shown new) u
  pub enough : told → Stands (shown old) t → IsEnough (pending t) (shown old).room result
  pub left : IsLeft t u
  pub spent : (shown new).spent ≡ (shown old).spent
  pub places : known → KeepsPlaces (shown old) (shown new)
  pub calls : goes old new
  pub counts : Counts (shown old) (shown new) result
  pub cause : IfErr result (HasCause (shown old) (shown new))
