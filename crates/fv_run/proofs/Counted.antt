-- What is pending behind some lines, and that the disk stays while none of them asks for a point, with the rooms by which both are counted.
use Rattle.std.proofs.Common.{◌≡◌, ◌≤◌, ◌+◌, ℕ, List, false, refl, subst, ◌∙◌, arith}
use Rattle.fv_disk.specs.Shown.{Shown}
use Rattle.fv_model.specs.declared.commands.Command.{Command}
use Rattle.fv_model.specs.Runs.{Line, whole}
use Rattle.fv_aggregate.specs.declared.session.Session.{Session}
use Rattle.fv_aggregate.specs.Commands.{most_room, room_by, room_of}
use Rattle.fv_aggregate.specs.Standing.{StandsFor, StandsReady}
use Rattle.fv_aggregate.proofs.Rooms.{room_most, room_stands}
use Rattle.fv_model.specs.Machines.{Machine}
use Rattle.fv_run.specs.Promises.{line_at}
use Rattle.fv_run.specs.Running.{asks_behind, asks_point, left_by, pending_behind, AsksNone}
use Rattle.fv_run.specs.Answering.{IsCounted}
use Rattle.fv_run.proofs.Rooms.{asks_less, behind_more, behind_none}

-- ---- what bounds the rooms by a session's volumes

pub bound_most : (disk : Shown) (session : Session) → StandsReady disk session → (c : Command) → room_by session.volumes c ≤ most_room c
bound_most disk session stands c = room_most disk session stands c

pub bound_for : (disk : Shown) (session : Session) (last m : Machine) → StandsFor disk session last m → (c : Command) → room_by session.volumes c ≤ room_of m c
bound_for disk session last m stands c = room_stands disk session last m stands c

-- ---- line by line

module _ (rooms : ℕ → Command → ℕ) (lines : List Line) (old : Shown) (session : Session) where
  -- before the first line
  pub counted_none : session.pending ≡ 0 → IsCounted rooms lines old session old 0
  counted_none none = record { pending = omega (arith, none, behind_none rooms lines); quiet = λ none. refl }

  module _ (now : Shown) (count : ℕ) (so_far : IsCounted rooms lines old session now count) where
    -- the disk holds what it held
    pub counted_still : (mid : Shown) → mid.reads ≡ now.reads → IsCounted rooms lines old session mid count
    counted_still mid same = record { pending = so_far.pending; quiet = λ none. same ∙ so_far.quiet none }

    -- an output answers these lines, and asks for no point
    pub quiet_still : (output : List ℕ) → AsksNone rooms lines output → whole output ≡ count → now.reads ≡ old.reads
    quiet_still output asks answered = so_far.quiet (λ line low. asks.none line (omega (arith, low, answered)))

    -- the next line is applied, which has no more room than these
    module _ (line : Line) (is : line_at lines count ≡ line) (bound : (c : Command) → room_by session.volumes c ≤ rooms count c) (end : Shown)
        (calm : (pending : ℕ) → session.pending ≤ pending → asks_point (room_by session.volumes) pending line ≡ false → end.reads ≡ now.reads) where
      pub calm_next : asks_point (rooms count) (pending_behind rooms lines count) line ≡ false → end.reads ≡ now.reads
      calm_next none = calm (pending_behind rooms lines count) so_far.pending (asks_less (room_by session.volumes) (rooms count) bound (pending_behind rooms lines count) line none)

      calm_at : asks_behind rooms lines count ≡ false → end.reads ≡ now.reads
      calm_at none = calm_next (subst (λ (l : Line). asks_point (rooms count) (pending_behind rooms lines count) l ≡ false) is none)

      pub quiet_next : (output : List ℕ) → AsksNone rooms lines output → whole output ≡ count → end.reads ≡ old.reads
      quiet_next output asks answered = calm_at (asks.none count (omega (arith, answered))) ∙ quiet_still output asks answered

      pub counted_next : (next : Session) (new : Shown) → new.reads ≡ end.reads → next.pending ≤ left_by (room_by session.volumes) session.pending line → IsCounted rooms lines old next new (count + 1)
      counted_next next new same left = record {
        pending = behind_more rooms lines count line is (room_by session.volumes) bound session.pending next.pending so_far.pending left;
        quiet = λ none. same ∙ calm_at (none count (omega arith)) ∙ so_far.quiet (λ k low. none k (omega (arith, low)));
      }
