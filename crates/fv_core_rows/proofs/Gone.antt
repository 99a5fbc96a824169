-- A session that goes on stands on its disk, whatever command was applied.
use Rattle.std.proofs.Common.{ℕ, Bool, true, false, Result}
use Rattle.std.specs.Prelude.{IsNone}
use Rattle.fv_disk.specs.Shown.{Shown}
use Rattle.fv_aggregate.specs.declared.fault.Fault.{Fault}
use Rattle.fv_aggregate.specs.declared.session.Session.{Session}
use Rattle.fv_aggregate.specs.Cleaning.{GoesAs}
use Rattle.fv_aggregate.specs.Commands.{Asked}
use Rattle.fv_aggregate.specs.Standing.{StandsReady}

pub still_ready : {T : Type 0} (steps : Bool) (room : ℕ) (asked : Asked) (before : Shown) (old : Session) (after : Shown) (new : Session)
    (result : Result T Fault) → GoesAs steps room asked before old after new result → IsNone new.failed → StandsReady after new
still_ready false room asked before old after new result is = is.stands
still_ready true room asked before old after new result is = is.stands
