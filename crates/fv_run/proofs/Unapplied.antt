-- A line isn't applied: the call of the session for its command ended with a fault.
use Rattle.std.proofs.Common.{◌≡◌, ◌≤◌, ℕ, false, subst, ap}
use Rattle.std.specs.Prelude.{Err, IsTrue, IsNone}
use Rattle.fv_disk.specs.Shown.{Shown, Ends, Rose}
use Rattle.fv_disk.specs.Crash.{Leaves}
use Rattle.fv_model.specs.declared.answers.Reply.{Reply}
use Rattle.fv_model.specs.declared.commands.Command.{Command}
use Rattle.fv_model.specs.Machines.{Machine}
use Rattle.fv_model.specs.Runs.{Line, Says}
use Rattle.fv_lines.specs.Counts.{Counts}
use Rattle.fv_aggregate.specs.declared.fault.Fault.{Fault as SessionFault}
use Rattle.fv_aggregate.specs.declared.fault.Fault.TheVariants as session_fault
use Rattle.fv_aggregate.specs.declared.session.Session.{Session}
use Rattle.fv_aggregate.specs.Calls.{GoesFor, IsNoDamage}
use Rattle.fv_aggregate.specs.Causes.{KeepsEnds}
use Rattle.fv_aggregate.specs.Commands.{machine_after, room_by}
use Rattle.fv_aggregate.specs.Standing.{OneOf, StandsFor}
use Rattle.fv_run.specs.Endings.{count_of, of_session, IsWholeFault}
use Rattle.fv_run.specs.Built.{built}
use Rattle.fv_run.specs.Running.{asks_point}
use Rattle.fv_run.specs.Answering.{Applies, IsSessionFault}
use Rattle.fv_run.proofs.Built.{after_said}

whole_by : (fault : SessionFault) → IsNoDamage fault → IsWholeFault (of_session fault)
whole_by session_fault.DiskFault whole = tt
whole_by session_fault.Memory whole = tt
whole_by (session_fault.Damaged at want found) whole = absurd whole
whole_by (session_fault.Failed faults) whole = tt

module _ (session new_session : Session) (line : Line) (command : Command) (old new : Shown) (says : line ≡ Says command) (kept : KeepsEnds old new)
    (calm : (pending : ℕ) → session.pending ≤ pending → asks_point (room_by session.volumes) pending (built line) ≡ false → new.reads ≡ old.reads) where
  -- whether the call takes background steps or not
  pub stopped_by : (fault : SessionFault) → (IsTrue old.tells → (last m : Machine) → StandsFor old session last m → GoesFor {T = Reply} old last m (machine_after m command) new new_session (Err fault))
      → Counts old new (count_of (of_session fault)) → (¬ Rose old.write_faults new.write_faults → IsNone new_session.failed) → IsSessionFault (built line) old session new (of_session fault)
      → Applies session (built line) old new_session new (Err (of_session fault))
  stopped_by fault goes_for counts lives ends = record {
    done = λ tells last m so_far. tt;
    any_moment = λ tells last m so_far.
        subst (λ (x : Machine). Leaves old new (λ c g. OneOf last m x c × (g ≡ old.given))) (after_said line command says m)
        (goes_for tells last m so_far).any_moment;
    still = λ tells last m so_far calm. (goes_for tells last m so_far).still (lives calm);
    no_damage = λ tells last m so_far. whole_by fault (goes_for tells last m so_far).whole;
    ready = tt;
    ends = ends;
    read = tt;
    led = λ tells. tt;
    asks = λ tells same room asks. tt;
    given = kept.given;
    left = ap (λ (e : Ends). e.left) kept.ends;
    counts = counts;
    writes = tt;
    less = λ tells last m so_far none. tt;
    paths = λ tells last m so_far. tt;
    calm = calm;
  }
