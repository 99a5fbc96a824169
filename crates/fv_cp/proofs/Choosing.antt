-- What a point counts as missing.
use Rattle.std.proofs.Common.{◌≡◌, ℕ, ◌+◌, ◌-◌, ◌≤◌, min, max, List, length, drop, ap, arith}
use Rattle.std.specs.Prelude.{sum_by}
use Rattle.std.proofs.Math.ListN.{drop_of_length-le}
use Rattle.fv_model.specs.Machines.{first_block}
use Rattle.fv_delay.specs.ByThreshold.{most_blocks}
use Rattle.fv_delay.specs.Choice.{total}
use Rattle.fv_delay.specs.Holding.{counts_of}
use Rattle.fv_pool.specs.declared.pool.Pool.{Pool}
use Rattle.fv_volume.specs.States.{States}
use Rattle.fv_cp.specs.Choosing.{greatest_number, holdings, claimed, missing_for}

-- nothing is left of a row to sum at its end
pub sum_done : {X : Type 0} (f : X → ℕ) (xs : List X) (k : ℕ) → length xs ≤ k → sum_by f (drop k xs) ≡ 0
sum_done f xs k past = ap (sum_by f) (drop_of_length-le xs {i = k} past)

-- what is missing, by the delayed entries of all volumes as far as 64 bits go
pub missing_of : (pool : Pool) (states : States) (want delayed : ℕ) → delayed ≡ min (total (counts_of (holdings pool.containers states))) most_blocks
    → min ((max 256 want + claimed states) + delayed) greatest_number - (pool.found.blocks - first_block pool.found.blocks) ≡ missing_for pool states want
unfolding missing_for
missing_of pool states want delayed is = omega (arith, is)
