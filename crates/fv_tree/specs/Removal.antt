-- What a removal of cells answers, and what it does to a tree and its blocks.
use Rattle.std.specs.Prelude.{◌≡◌, ◌⊎◌, ◌+◌, None, ℕ, Bool, Result, IfOk, OnOk, OnErr, IfErr, ◌≤◌}
use Rattle.fv_disk.specs.declared.fault.BlockFault.{BlockFault}
use Rattle.fv_tree.specs.declared.kept.Tree.{Tree}
use Rattle.fv_tree.specs.Sources.{Shown, Counts, IsUntouched}
use Rattle.fv_tree.specs.Standing.{standing, under, Fails}
use Rattle.fv_tree.specs.Writing.{Remains}
use Rattle.fv_tree.specs.Counting.{positions_of}
use Rattle.fv_tree.specs.Erasing.{HoldsCells, IsErased, Erases}
use Rattle.fv_tree.specs.Releasing.{IsDropped, Releases}
use Rattle.fv_tree.specs.Flushing.{Leads, Stands, loaded}
use Rattle.fv_tree.specs.Altering.{Alters, Leaves}
use Rattle.fv_tree.specs.Leading.{LeadsNoMore}
use Rattle.fv_tree.specs.Stored.{IsStoredWell, TellsPlaces}
use Rattle.fv_tree.specs.Costs.{cells_held, pending}

-- The cells for which `gone` is true were removed by a change with the stamp s; with no cell left the levels became `start`. After a
-- fault the tree is seen as before, no block was named as gone, and no more of the tree differs from its blocks. The room doesn't fall. `calls` says what the calls to the blocks were, and `told` whether
-- content is told.
pub record Removal (told calls : Type 0) (old new : Shown) (t u : Tree) (gone : ℕ → Bool) (start s : ℕ) (result : Result ℕ BlockFault) : Type 0 where
  pub erased : told → OnOk result (Stands old t → Erases (standing (under old) t) (standing (under new) u) gone start s)
  pub place_by_place : told → OnOk result (Stands old t → HoldsCells (standing (under old) t) → IsErased (standing (under old) t) (standing (under new) u) gone start s)
  pub strays : told → Stands old t → new.strays ≡ old.strays
  pub released : told → OnOk result (Releases old new (IsDropped (under old) t u))
  pub owner : u.owner ≡ t.owner
  pub stands : told → Stands old t → Stands new u
  pub leads : told → Stands old t → LeadsNoMore (loaded old t) (loaded new u)
  pub stored_well : told → Stands old t → IsStoredWell (loaded old t) → IsStoredWell (loaded new u)
  pub tells : told → Stands old t → TellsPlaces (loaded old t) → TellsPlaces (loaded new u)
  -- what the tree doesn't lead to any more is out of use
  pub lets_go : told → Stands old t → (level place v : ℕ) → Leads (loaded old t) level place v → Leads (loaded new u) level place v ⊎ (new.used v ≡ None)
  -- how many positions went
  pub count : told → IfOk result (λ count. Stands old t → positions_of (standing (under old) t) ≡ positions_of (standing (under new) u) + count)
  -- each place that still stands got the stamp, or is as before; after a fault nothing changed
  pub alters : told → Stands old t → Alters s (loaded old t) (loaded new u)
  pub leaves : told → OnErr result (Leaves (loaded old t) (loaded new u))
  pub failed : told → OnErr result (Remains (standing (under old) t) (standing (under new) u))
  pub untouched : OnErr result (IsUntouched old new)
  pub room : old.room ≤ new.room
  pub pending : OnErr result (pending u ≤ pending t)
  -- no cell came into memory
  pub cells : cells_held u ≤ cells_held t
  pub called : calls
  pub counts : Counts old new result
  pub cause : IfErr result (Fails told (standing (under old) t) old new)
