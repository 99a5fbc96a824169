use Rattle.std.proofs.Common.{length, ap, ◌∙◌}
use Rattle.std.specs.Prelude.{Option, is_some}
use Rattle.fv_container.specs.Chains.{map_in}
use Rattle.fv_container.specs.Paged.{Paged}
use Rattle.fv_pool.specs.BlocksOver.{entries_in}
use Rattle.fv_core_rows.proofs.trees.pool_of.Goals as goal

pub returns-clause-there : goal.returns-clause-there
returns-clause-there g c = ap (λ (p : Option Paged). is_some (map_in p)) c.put.ensures.there

pub returns-clause-entries : goal.returns-clause-entries
returns-clause-entries g c = ap (λ (p : Option Paged). length (entries_in (map_in p))) c.put.ensures.there ∙ c.in_ok-container.ensures.size
