-- A command on a whole volume as `apply` has it: it reaches no disk, and the session's last point stays.
use Rattle.std.proofs.Common.{◌≡◌, ◌≢◌, ℕ, List, Some, None, Ok, false, true≢false, inl, refl, sym, ap, subst, ◌∙◌, arith}
use Rattle.std.specs.Prelude.{IsNone}
use Rattle.fv_disk.specs.Shown.{IsDisk, Shown}
use Rattle.fv_model.specs.declared.answers.Reply.{Reply}
use Rattle.fv_model.specs.declared.commands.Command.{Command}
use Rattle.fv_model.specs.declared.commands.Command.TheVariants.{Cp, SnapList, VolList}
use Rattle.fv_model.specs.Machines.{Machine}
use Rattle.fv_image.specs.Held.{view_at}
use Rattle.fv_image.specs.Views.{overheads}
use Rattle.fv_root.specs.declared.find.Found.{Found}
use Rattle.fv_root.specs.Finding.{root_found}
use Rattle.fv_aggregate.specs.declared.session.Session.{Session}
use Rattle.fv_aggregate.specs.Calls.{Goes, GoesFor, IsPlain, KeepsAsking}
use Rattle.fv_aggregate.specs.Commands.{Asked, changes_volume, machine_after, removes_volume, snapped_by}
use Rattle.fv_aggregate.specs.Deciding.{makes_volume}
use Rattle.fv_aggregate.specs.Standing.{StandsFor, StandsReady}
use Rattle.fv_aggregate.proofs.Calls.{same_counts, same_ends}
use Rattle.fv_aggregate.proofs.Decided.{undecided}
use Rattle.fv_aggregate.proofs.Managed.{IsManagedOver}
use Rattle.fv_aggregate.proofs.Standing.{rests_for_last}

some_none : (v : List ℕ) → Some v ≡ None → ⊥
some_none v e = cc

module _ (disk : Shown) (old : Session) (c : Command) (new : Session) (reply : Reply) (over : IsManagedOver disk old c new reply) where
  pub managed_goes : {asked : Asked} (room : ℕ) → IsNone old.failed → StandsReady disk old → Goes room asked disk old disk new (Ok reply)
  managed_goes room fresh stands = record {
    ends = same_ends disk;
    stands = λ none. over.stands stands;
    done = record { was = fresh; goes_on = subst IsNone (sym over.failed) fresh; counts = same_counts disk; root = λ tells. inl over.found };
    fault = tt;
    pending = (let same = over.pending in omega (arith, same));
  }

  pub managed_asks : (room : ℕ) → changes_volume c ≡ false → KeepsAsking room disk old disk new
  managed_asks room calm tells kept asks none =
      let fewer = over.asked calm in
      let pending = over.pending in
      let held : overheads (view_at (root_found new.pool.found) disk.reads) ≡ overheads (view_at (root_found old.pool.found) disk.reads) = ap (λ (f : Found). overheads (view_at (root_found f) disk.reads)) over.found in
      record { asked = omega (arith, fewer, pending, held, asks.asked); pending = omega (arith, pending, asks.pending) }

  pub managed_for : IsDisk disk → StandsReady disk old → (last m : Machine) → StandsFor disk old last m → GoesFor disk last m (machine_after m c) disk new (Ok reply)
  managed_for laws there last m stands = record {
    any_moment = rests_for_last disk old last m (machine_after m c) laws stands;
    done = record { point = last; one = inl refl; stands = over.stands_for there last m stands };
    still = λ none. tt;
    whole = tt;
  }

  pub managed_plain : {D : Type 0} (at : D) → removes_volume c ≡ false → c ≢ VolList → c ≢ Cp → ((name : List ℕ) → c ≢ SnapList name) → snapped_by c ≡ None → makes_volume c ≡ false → IsPlain c disk at old disk at new (Ok reply)
  managed_plain at stays no_list no_point no_names no_snap no_making = record {
    refused = λ refused. (refl, over.refused refused);
    calm = λ other once idle few. refl;
    idle = λ other once gone none few. refl;
    map = λ other once kept places few. over.map kept;
    wanting = λ other once idle few. tt;
    damage = λ once. tt;
    unbuilt = λ fresh none. ap Ok (over.unbuilt none);
    listed = λ list. absurd (no_list list);
    untouched = λ list. absurd (no_list list);
    pointed = λ cp. absurd (no_point cp);
    unpointed = λ cp. absurd (no_point cp);
    removed = λ fresh name its. absurd (true≢false (sym (ap removes_volume its) ∙ stays));
    managed = λ fresh name of kept. record { reply = reply; is = refl; managed = over.managed name of };
    snapped = λ fresh name of. absurd (some_none name (sym of ∙ no_snap));
    snapshots = λ fresh name is. absurd (no_names name is);
    made = undecided old.volumes old.pool.found.blocks c no_making (Ok reply);
  }
