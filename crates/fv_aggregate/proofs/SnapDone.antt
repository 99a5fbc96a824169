-- How a command on snapshots ends for which there is room: it was done, it was refused, or files couldn't be placed. Nothing is written.
use Rattle.std.proofs.Common.{◌≡◌, ◌≢◌, ◌≤◌, ◌+◌, ◌⊎◌, ℕ, true, false, Option, Some, Result, Ok, Err, inl, inr, true≢false, refl, sym, subst, ◌∙◌, arith}
use Rattle.std.specs.Prelude.{IfErr, IfOk, IsNone}
use Rattle.fv_disk.specs.Shown.{IsDisk, Rose, Shown}
use Rattle.fv_disk.specs.DiskCalls.{OnlyReads}
use Rattle.fv_model.specs.declared.answers.Refusal.{Refusal}
use Rattle.fv_model.specs.declared.answers.Reply.{Reply}
use Rattle.fv_model.specs.declared.answers.Reply.TheVariants.{Done, Refused}
use Rattle.fv_model.specs.declared.commands.Command.{Command}
use Rattle.fv_model.specs.Machines.{Machine}
use Rattle.fv_model.specs.Refusals.{next, refusal}
use Rattle.fv_model.specs.Replies.{Allows}
use Rattle.fv_pool.specs.Calls.{Reads}
use Rattle.fv_cp.specs.Placing.{HaveNoFiles}
use Rattle.fv_aggregate.specs.declared.fault.Fault.{Fault}
use Rattle.fv_aggregate.specs.declared.fault.Fault.TheVariants.{Damaged, DiskFault, Memory}
use Rattle.fv_aggregate.specs.declared.session.Session.{Session}
use Rattle.fv_aggregate.specs.Calls.{GoesFor, KeepsEntries, WasRead}
use Rattle.fv_aggregate.specs.Commands.{asked_by, is_refusal, places_files, room_by}
use Rattle.fv_aggregate.specs.Damages.{HasUnplaced}
use Rattle.fv_aggregate.specs.Known.{KeepsNumbersBut, MayLose}
use Rattle.fv_aggregate.specs.Looking.{HasSnapped}
use Rattle.fv_aggregate.specs.Standing.{IsWithoutFiles, StandsFor, StandsReady}
use Rattle.fv_aggregate.proofs.Holes.{kept_entries}
use Rattle.fv_aggregate.proofs.Applying.{same_map}
use Rattle.fv_aggregate.proofs.CallEnds.{goes_broken, goes_damaged, goes_done, goes_for_broken, goes_for_done, goes_for_fault, goes_wanting}
use Rattle.fv_aggregate.proofs.Damages.{unplaced_after}
use Rattle.fv_aggregate.proofs.Looked.{reads_alone, stands_for_read, stands_read}
use Rattle.fv_aggregate.proofs.Roots.{found_read}
use Rattle.fv_aggregate.proofs.Missing.{refused_allows, refused_next}

-- A command for which there is room was carried out. Without a file in memory memory alone can lack, and a snapshot that was accepted is made.
pub record IsCarried {D : Type 0} (d : Shown) (disk : D) (s : Session) (c : Command) (room : ℕ) (e : Shown) (left : D) (new : Session) (result : Result Reply Fault) : Type 0 where
  pub snapped : HasSnapped d disk s c e left new result
  pub only_reads : OnlyReads d e
  pub placed : HaveNoFiles s.volumes → IfErr result (λ e. e ≡ Memory)
  pub accepted : room ≢ 0 → IfOk result (λ reply. is_refusal reply ≡ false)

-- over a disk of which blocks were read a session that is as it was
module _ (d e : Shown) (reads : OnlyReads d e) (s : Session) (stands : StandsReady d s) where
  over : Reads d s.pool e s.pool
  over = reads_alone d e s.pool reads stands.stands.cache

  stands_over : StandsReady e s
  stands_over = stands_read d e s s.pool over stands

  for_over : (last m : Machine) → StandsFor d s last m → StandsFor e s last m
  for_over last m is = stands_for_read d e s s.pool over last m is

  read_over : WasRead d s e s
  read_over = record { only_reads = reads; pool = record { map = refl; containers = refl; kept = refl; found = refl; version = refl }; volumes = λ k. refl; same = refl }

-- what a command that was refused did: nothing
pub refused_snapped : {D : Type 0} (d e : Shown) (disk left : D) (laws : IsDisk d) (reads : OnlyReads d e) → e.faults ≡ d.faults → left ≡ disk → (s : Session) → IsNone s.failed → StandsReady d s → (c : Command) (r : Refusal) → ((last m : Machine) → StandsFor d s last m → refusal m c ≡ Some r)
    → HasSnapped d disk s c e left s (Ok (Refused r))
refused_snapped d e disk left laws reads counts quiet s fresh stands c r why = record {
  makes = record {
    goes = goes_done d e laws s s (room_by s.volumes c) reads fresh fresh (stands_over d e reads s stands) (Refused r) counts (omega arith) (λ tells. refl);
    goes_for = λ tells last m is. subst (λ (n : Machine). GoesFor d last m n e s (Ok (Refused r))) (sym (refused_next m c r (why last m is)))
        (goes_for_done d e laws s s (room_by s.volumes c) reads fresh fresh (stands_over d e reads s stands) (Refused r) last m m is (for_over d e reads s stands last m is));
    reply = λ tells last m is. refused_allows m c r (why last m is);
    refused = λ tells last m is refused. read_over d e reads s stands;
    still = λ low refused. read_over d e reads s stands;
    calm = λ low. reads;
    entries = λ low. kept_entries s s refl;
  };
  damage = tt;
  refused = λ refused. (quiet, refl);
  calm = λ none few. quiet;
  only_reads = λ few. reads;
  idle = λ none few. quiet;
  map = λ none. refl;
  sure = λ none. tt;
  files = λ tells without. without;
  same = λ tells which same. same;
  numbers = λ none k known stays. known;
}

module _ {D : Type 0} (d e : Shown) (disk left : D) (laws : IsDisk d) (reads : OnlyReads d e) (s : Session) (fresh : IsNone s.failed) (c : Command) (room : ℕ) where
  pub carried_refused : StandsReady d s → e.faults ≡ d.faults → left ≡ disk → (r : Refusal) → ((last m : Machine) → StandsFor d s last m → refusal m c ≡ Some r) → room ≡ 0 → IsCarried d disk s c room e left s (Ok (Refused r))
  carried_refused stands counts quiet r why none = record { snapped = refused_snapped d e disk left laws reads counts quiet s fresh stands c r why; only_reads = reads; placed = λ nothing. tt; accepted = λ some. absurd (some none) }

  module _ (after : Session) (still : IsNone after.failed) (stands : StandsReady e after) (few : after.pending ≤ s.pending + room_by s.volumes c) (numbers : KeepsNumbersBut (MayLose c s.volumes) s.volumes after.volumes) (entries : KeepsEntries s after) where
    pub carried_done : e.faults ≡ d.faults → (places_files c ≡ false → left ≡ disk) → (HaveNoFiles s.volumes → left ≡ disk) → ((last m : Machine) → StandsFor d s last m → StandsFor e after last (next m c)) → ((last m : Machine) → StandsFor d s last m → Allows m c Done) → (IsWithoutFiles s → IsWithoutFiles after)
        → ((places_files c ≡ false) ⊎ IsWithoutFiles s → after.pool.map ≡ s.pool.map) → StandsReady d s → IsCarried d disk s c room e left after (Ok Done)
    carried_done counts quiet idle for allowed files map stood = record {
      snapped = record {
        makes = record {
          goes = goes_done d e laws s after (room_by s.volumes c) reads fresh still stands Done counts few (λ tells. found_read d e s after reads tells stood stands);
          goes_for = λ tells last m is. goes_for_done d e laws s after (room_by s.volumes c) reads fresh still stands Done last m (next m c) is (for last m is);
          reply = λ tells last m is. allowed last m is;
          refused = λ tells last m is refused. absurd (true≢false (sym refused));
          still = λ low refused. absurd (true≢false (sym refused));
          calm = λ low. reads;
          entries = λ low. entries;
        };
        damage = tt;
        refused = λ refused. absurd (true≢false (sym refused));
        calm = λ none low. quiet none;
        only_reads = λ low. reads;
        idle = λ none low. idle none;
        map = λ none. map (inl none);
        sure = λ none. tt;
        files = λ tells without. files without;
        same = λ tells which same. same_map s after (map which) same;
        numbers = λ none. numbers;
      };
      only_reads = reads;
      placed = λ nothing. tt;
      accepted = λ some. refl;
    }

    module _ (places : places_files c ≡ true) where
      never : {X : Type 0} → places_files c ≡ false → X
      never none = absurd (true≢false (sym places ∙ none))

      pub carried_wanting : e.faults ≡ d.faults → (HaveNoFiles s.volumes → left ≡ disk) → ((last m : Machine) → StandsFor d s last m → StandsFor e after last m) → IsCarried d disk s c room e left after (Err Memory)
      carried_wanting counts idle for = record {
        snapped = record {
          makes = record {
            goes = goes_wanting d e laws s after (room_by s.volumes c) reads fresh still stands counts few;
            goes_for = λ tells last m is. goes_for_fault d e laws s after (room_by s.volumes c) reads fresh still stands Memory last m (next m c) tt is (for last m is);
            reply = λ tells last m is. tt;
            refused = λ tells last m is. tt;
            still = λ low. tt;
            calm = λ low. reads;
            entries = λ low. entries;
          };
          damage = tt;
          refused = tt;
          calm = λ none low. never none;
          only_reads = λ low. reads;
          idle = λ none low. idle none;
          map = λ none. never none;
          sure = λ none. never none;
          files = λ tells without. tt;
          same = λ tells which same. tt;
          numbers = λ none. numbers;
        };
        only_reads = reads;
        placed = λ nothing. refl;
        accepted = λ some. tt;
      }

      -- a read failed: the session goes on, but where the count of failed writes stands at its greatest value
      pub carried_broken : (o : Option ℕ) → (HaveNoFiles s.volumes → ⊥) → Rose d.faults e.faults → (Rose e.write_faults e.write_faults → o ≡ Some e.faults) → ((Rose e.write_faults e.write_faults → ⊥) → IsNone o)
          → ((last m : Machine) → StandsFor d s last m → StandsFor e after last m) → IsCarried d disk s c room e left (record after { failed = o }) (Err DiskFault)
      carried_broken o filed rose written unwritten for = record {
        snapped = record {
          makes = record {
            goes = goes_broken d e laws s after (room_by s.volumes c) reads fresh still stands o rose written unwritten few;
            goes_for = λ tells last m is. goes_for_broken d e laws s after (room_by s.volumes c) reads fresh still stands o last m (next m c) is (for last m is);
            reply = λ tells last m is. tt;
            refused = λ tells last m is. tt;
            still = λ low. tt;
            calm = λ low. reads;
            entries = λ low. entries;
          };
          damage = tt;
          refused = tt;
          calm = λ none low. never none;
          only_reads = λ low. reads;
          idle = λ none low. absurd (filed none);
          map = λ none. never none;
          sure = λ none. never none;
          files = λ tells without. tt;
          same = λ tells which same. tt;
          numbers = λ none. numbers;
        };
        only_reads = reads;
        placed = λ nothing. absurd (filed nothing);
        accepted = λ some. tt;
      }

      pub carried_damaged : (at want found : ℕ) → (counts : e.faults ≡ d.faults) → HasUnplaced (room_by s.volumes c) (asked_by s.volumes c) d s at want found → ((last m : Machine) → StandsFor d s last m → ⊥) → IsCarried d disk s c room e left after (Err (Damaged at want found))
      carried_damaged at want found counts unplaced whole = record {
        snapped = record {
          makes = record {
            goes = goes_damaged d e laws s after (room_by s.volumes c) reads fresh still stands at want found counts
                (inl (reads, inl (inr (inl (unplaced_after d e reads.stays.tells reads.stays.reads counts s at want found (room_by s.volumes c) (asked_by s.volumes c) unplaced))))) few;
            goes_for = λ tells last m is. absurd (whole last m is);
            reply = λ tells last m is. tt;
            refused = λ tells last m is. tt;
            still = λ low. tt;
            calm = λ low. reads;
            entries = λ low. entries;
          };
          damage = (reads, inr (inl unplaced.files));
          refused = tt;
          calm = λ none low. never none;
          only_reads = λ low. reads;
          idle = λ none low. absurd (unplaced.files.files none);
          map = λ none. never none;
          sure = λ none. never none;
          files = λ tells without. tt;
          same = λ tells which same. tt;
          numbers = λ none. numbers;
        };
        only_reads = reads;
        placed = λ nothing. absurd (unplaced.files.files nothing);
        accepted = λ some. tt;
      }
