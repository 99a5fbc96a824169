-- What a call does that makes a volume, for room that it may ask for.
use Rattle.std.specs.Prelude.{◌≡◌, ◌≤◌, ◌+◌, ℕ, IfErr, Result}
use Rattle.fv_disk.specs.Shown.{Shown}
use Rattle.fv_model.specs.declared.answers.Reply.{Reply}
use Rattle.fv_model.specs.Machines.{Machine}
use Rattle.fv_aggregate.specs.declared.fault.Fault.{Fault}
use Rattle.fv_aggregate.specs.declared.fault.Fault.TheVariants.{Memory}
use Rattle.fv_aggregate.specs.declared.session.Session.{Session}
use Rattle.fv_aggregate.specs.Calls.{KeepsHolding, MakesNoHoles, Runs}
use Rattle.fv_aggregate.specs.Commands.{AsksNothing, dirty_limit}
use Rattle.fv_aggregate.specs.Reclaiming.{MakesRoom}

-- It may run a point for `room` blocks, and makes `next m` of the machine `m`. With that room within the dirty limit it doesn't reach the disk: it
-- leaves the map of the next root's blocks, makes no hole, and changes nothing where memory ran out.
pub record MakesVolume {D : Type 0} (shown : D → Shown) (room : ℕ) (next : Machine → Machine) (before : D) (old : Session) (after : D) (new : Session)
    (result : Result Reply Fault) : Type 0 where
  pub runs : Runs room AsksNothing next (shown before) old (shown after) new result
  pub calm : old.pending + room ≤ dirty_limit → after ≡ before
  pub map : old.pending + room ≤ dirty_limit → new.pool.map ≡ old.pool.map
  pub entries : old.pending + room ≤ dirty_limit → MakesNoHoles old new
  pub holding : KeepsHolding (shown before) old new result
  pub wanting : old.pending + room ≤ dirty_limit → IfErr result (λ e. e ≡ Memory → new ≡ old)
  pub roomy : MakesRoom room (shown before) old (shown after) result
