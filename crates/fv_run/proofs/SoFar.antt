-- What stands behind the lines that were answered so far.
use Rattle.std.proofs.Common.{◌≡◌, ◌⊎◌, inl, inr, ⊎_elim, ℕ, ◌++◌, List, [], refl, sym, ap, ◌∙◌, true≢false, arith, append-nil}
use Rattle.std.specs.Prelude.{IsTrue}
use Rattle.fv_disk.specs.Shown.{Shown, IsDisk}
use Rattle.fv_disk.specs.HostCalls.{Rests}
use Rattle.fv_model.specs.Runs.{Line, whole}
use Rattle.fv_lines.specs.Held.{Held, none_taken}
use Rattle.fv_lines.proofs.Counting.{counts_none}
use Rattle.fv_aggregate.specs.declared.session.Session.{Session}
use Rattle.fv_run.specs.Built.{lines_built}
use Rattle.fv_run.specs.Running.{HasChanged, most_rooms}
use Rattle.fv_run.specs.Answering.{AsksFor, IsReady, StandsAt}
use Rattle.fv_run.proofs.Limits.{same_behind}
use Rattle.fv_run.proofs.Counted.{counted_none}
use Rattle.fv_run.proofs.LeftAlong.{along_none}
use Rattle.fv_run.proofs.Courses.{undergoes_none}
use Rattle.fv_run.proofs.Sessions.{rests_asking}
use Rattle.fv_run.proofs.Answered.{none_answered}

-- before the first line
pub starts : (limit : ℕ) (first : Session) (old : Shown) → IsDisk old → IsReady old first → StandsAt limit first old (none_taken limit) first old 0
starts limit first old laws ready = record {
  ready = ready;
  counts = counts_none old;
  writes = refl;
  room = omega arith;
  reads = λ tells. record { output = []; given = sym (append-nil old.given); answered = refl; read = []; front = refl; room = omega arith; ended = inl refl; most = omega arith; all = λ going. refl; piece = omega arith; knows = λ ended. absurd (true≢false (sym ended)) };
  lines = λ tells line is. is;
  behind = λ tells. refl;
  course = λ tells. undergoes_none (lines_built old.ends.left) old.reads first;
  counted = λ tells none. counted_none most_rooms (lines_built old.ends.left) old first none;
  asks = λ tells asks none. inl (record { none = none; room = 0; line = inl refl; asks = asks });
  less = λ tells m stands. along_none m (lines_built old.ends.left) old.reads first;
  answers = λ tells m stands. none_answered m (lines_built old.ends.left) old first laws stands;
}

module _ {limit : ℕ} {first : Session} {old : Shown} {held : Held} {session : Session} {now : Shown} {count : ℕ} (so_far : StandsAt limit first old held session now count) where
  pub told : IsTrue old.tells → IsTrue now.tells
  told tells = rw so_far.counts.tells tells

  -- what was given so far answers the lines so far
  pub answered_by : (new : Shown) (tells : IsTrue old.tells) (output : List ℕ) → new.given ≡ now.given → new.given ≡ old.given ++ output → whole output ≡ count
  answered_by new tells output same given =
      let read = so_far.reads tells in
      ap whole (same_behind old.given output read.output (sym given ∙ same ∙ read.given)) ∙ read.answered

-- while the source is asked a session asks for what it did
pub asks_still : (lines : List Line) (session : Session) (now mid : Shown) (count : ℕ) → Rests now mid → AsksFor lines now session ⊎ HasChanged lines count → AsksFor lines mid session ⊎ HasChanged lines count
asks_still lines session now mid count rests asks = ⊎_elim
    (λ (few : AsksFor lines now session).
    inl (record { none = few.none; room = few.room; line = few.line; asks = rests_asking now mid session few.room rests few.asks }))
    (λ (changed : HasChanged lines count). inr changed)
    asks
