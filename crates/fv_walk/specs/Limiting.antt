-- What numbers in pointers may be.
use Rattle.std.specs.Prelude.{◌≡◌, ◌≤◌, ◌<◌, ◌^◌, length}
use Rattle.fv_model.specs.Machines.{first_block}
use Rattle.fv_faults.specs.Walks.{Ground}
use Rattle.fv_walk.specs.declared.limits.Limits.{Limits}
use Rattle.fv_walk.specs.declared.state.State.{State}

-- there are blocks and VVBNs, and the first block is the one of the format
pub record IsLimits (l : Limits) : Type 0 where
  pub blocks : 1 ≤ l.blocks
  pub first : l.first ≡ first_block l.blocks
  pub span : 1 ≤ l.span

-- they are those of the volume in which a walk goes
pub record IsLimitsOf (g : Ground) (l : Limits) : Type 0 where
  pub blocks : l.blocks ≡ g.view.blocks
  pub span : l.span ≡ g.span

-- there is a bit for each VVBN
pub record IsReady (s : State) : Type 0 where
  pub limits : IsLimits s.limits
  pub bits : length s.reach ≡ s.limits.span
  pub small : s.limits.span < 2 ^ 32
