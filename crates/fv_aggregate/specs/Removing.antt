-- The removal of a volume in a session, by what its volumes answer.
use Rattle.std.specs.Prelude.{◌≡◌, ℕ, List, Result, IfOk, IsTrue}
use Rattle.fv_disk.specs.Shown.{Shown}
use Rattle.fv_disk.specs.DiskCalls.{OnlyReads}
use Rattle.fv_model.specs.declared.answers.Reply.{Reply}
use Rattle.fv_store.specs.Held.{StandsOn}
use Rattle.fv_container.specs.Chains.{IsSlots}
use Rattle.fv_pool.specs.declared.fault.VolumeFault.{VolumeFault}
use Rattle.fv_pool.specs.Causes.{HasVolumeCause}
use Rattle.fv_volumes.specs.Destroying.{Destroys}
use Rattle.fv_aggregate.specs.declared.fault.Fault.{Fault}
use Rattle.fv_aggregate.specs.declared.session.Session.{Session}
use Rattle.fv_aggregate.specs.Calls.{IsUntouched}
use Rattle.fv_aggregate.specs.Commands.{is_refusal}
use Rattle.fv_aggregate.specs.Looking.{Replied, done_as}

-- A removal was answered by the volumes, and what they answered is the session's answer: it may fail for a read. Nothing was written, and refused it
-- leaves all as it was.
pub record HasRemoved {D : Type 0} (before : Shown) (disk : D) (old : Session) (name : List ℕ) (after : Shown) (left : D) (new : Session) (result : Result Reply Fault) : Type 0 where
  -- the session once the volumes answered
  pub mid : Session
  pub rest : mid ≡ record old { volumes = mid.volumes; pool = mid.pool }
  pub few : IsSlots old.pool.containers
  pub made : Result Unit VolumeFault
  pub answers : Destroys before old.volumes old.pool name mid.volumes mid.pool made
  pub replied : Replied after (done_as made) mid new result
  pub refused : IfOk result (λ reply. IsTrue (is_refusal reply) → IsUntouched disk old left new)
  pub cause : HasVolumeCause before.faults after.faults made
  pub stands : StandsOn after mid.pool.store.pairs
  pub only_reads : OnlyReads before after
