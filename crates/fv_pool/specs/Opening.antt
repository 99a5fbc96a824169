-- What opening the pool of an aggregate does.
use Rattle.std.specs.Prelude.{◌≡◌, IsTrue, Result, IfOk, IfErr}
use Rattle.std.specs.FinMap as fin
use Rattle.fv_disk.specs.Shown.{Shown}
use Rattle.fv_disk.specs.DiskCalls.{OnlyReads}
use Rattle.fv_disk.specs.Faults.{HasBlockCause}
use Rattle.fv_disk.specs.declared.fault.BlockFault.{BlockFault}
use Rattle.fv_store.specs.Held.{StandsOn}
use Rattle.fv_root.specs.declared.find.Found.{Found}
use Rattle.fv_container.specs.Chains.{no_containers}
use Rattle.fv_aggmap.specs.Loading.{IsFault as IsMapFault, IsLoaded as IsMapLoaded}
use Rattle.fv_aggmap.specs.Space.{blocks_of}
use Rattle.fv_pool.specs.declared.pool.Pool.{Pool}

-- What is in memory of a pool says nothing else than the root that was found: no block is kept, and the next root will have its version.
pub record IsAsFound (pool : Pool) : Type 0 where
  pub kept : pool.kept ≡ fin.empty
  pub version : pool.version ≡ pool.found.root.version

-- The aggregate map of the root that was found is read, nothing is kept, and no slot has a container.
pub record OpensPool (old : Shown) (root : Found) (new : Shown) (result : Result Pool BlockFault) : Type 0 where
  pub map : IsTrue old.tells → IfOk result (λ pool. IsMapLoaded old.reads root pool.map)
  pub size : IfOk result (λ pool. blocks_of pool.map ≡ root.blocks)
  pub empty : IfOk result (λ pool. pool.kept ≡ fin.empty)
  pub holeless : IfOk result (λ pool. pool.containers ≡ no_containers)
  pub found : IfOk result (λ pool. pool.found ≡ root)
  pub version : IfOk result (λ pool. pool.version ≡ root.root.version)
  pub stands : IfOk result (λ pool. StandsOn new pool.store.pairs)
  -- a bit of the map is set past the last block
  pub fault : IsTrue old.tells → IfErr result (IsMapFault old.reads root)
  pub only_reads : OnlyReads old new
  pub cause : HasBlockCause old.faults new.faults result
