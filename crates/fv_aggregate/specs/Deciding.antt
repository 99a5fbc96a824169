-- What decides whether a volume is made, also over an image that stands for no machine: the volumes before it, and the blocks of the aggregate.
use Rattle.std.specs.Prelude.{ℕ, List, true, false, Bool}
use Rattle.fv_model.specs.declared.answers.Refusal.{Refusal}
use Rattle.fv_model.specs.declared.answers.Reply.{Reply}
use Rattle.fv_model.specs.declared.answers.Reply.TheVariants.{Done, Refused}
use Rattle.fv_model.specs.declared.commands.Command.{Command}
use Rattle.fv_model.specs.declared.commands.Command.TheVariants.{VolCreate, CloneCreate, Mirror}
use Rattle.fv_model.specs.declared.commands.Kind.{Kind}
use Rattle.fv_volume.specs.States.{States}
use Rattle.fv_volumes.specs.Creating as volumes
use Rattle.fv_clone.specs.declared.admitting.Admitted.{Admitted}
use Rattle.fv_clone.specs.Admitting as clones
use Rattle.fv_mirror.specs.declared.admitting.Admitted.{Admitted as MirrorAdmitted}
use Rattle.fv_mirror.specs.Admitting as mirrors

-- a new volume is admitted: a slot is free for it, with its span
pub record CanCreate (states : States) (blocks : ℕ) (name : List ℕ) (size : ℕ) (kind : Kind) : Type 0 where
  pub slot : ℕ
  pub span : ℕ
  pub admits : volumes.Admits states blocks name size kind slot span

-- a clone of this snapshot of this volume is admitted
pub record CanClone (states : States) (blocks : ℕ) (clone parent snapshot : List ℕ) (size : ℕ) (kind : Kind) : Type 0 where
  pub admitted : Admitted
  pub admits : clones.Admits states blocks clone size kind admitted
  pub named : clones.IsBaseNamed parent snapshot admitted.base

-- a mirror of this snapshot of this volume is admitted
pub record CanMirror (states : States) (blocks : ℕ) (source snapshot mirror : List ℕ) (size : ℕ) (kind : Kind) : Type 0 where
  pub admitted : MirrorAdmitted
  pub admits : mirrors.Admits states blocks mirror size kind admitted
  pub named : clones.IsBaseNamed source snapshot admitted.source

-- a refusal has its cause, and else it's done, which comes only where it was admitted
abbrev pub IsDecided : (Refusal → Type 0) → Type 0 → Reply → Type 0
IsDecided cause admitted (Refused refusal) = cause refusal
IsDecided cause admitted Done = admitted
IsDecided cause admitted other = ⊥

-- whether a command makes a volume
abbrev pub makes_volume : Command → Bool
makes_volume (VolCreate name size kind) = true
makes_volume (CloneCreate clone parent snapshot size kind) = true
makes_volume (Mirror source snapshot mirror size kind) = true
makes_volume command = false

-- A reply to a command that makes a volume is decided by the volumes and the blocks before it. Of each other command it says nothing.
abbrev pub DecidesMaking : States → ℕ → Command → Reply → Type 0
DecidesMaking states blocks (VolCreate name size kind) reply =
    IsDecided (volumes.Refuses states blocks name size kind) (CanCreate states blocks name size kind) reply
DecidesMaking states blocks (CloneCreate clone parent snapshot size kind) reply =
    IsDecided (clones.Refuses states blocks parent snapshot clone size kind) (CanClone states blocks clone parent snapshot size kind) reply
DecidesMaking states blocks (Mirror source snapshot mirror size kind) reply =
    IsDecided (mirrors.Refuses states blocks source snapshot mirror size kind) (CanMirror states blocks source snapshot mirror size kind) reply
DecidesMaking states blocks command reply = Unit {0}
