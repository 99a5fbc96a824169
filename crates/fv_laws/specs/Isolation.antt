-- What of a machine stays, and what a volume's commands rest on.
use Rattle.std.specs.Prelude.{◌≡◌, ℕ, Bool, true, false, not, ◌&&◌, ◌||◌, List, Some}
use Rattle.std.specs.Option.{option_map_or}
use Rattle.std.specs.FinMap as fin
use Rattle.fv_model.specs.declared.answers.Refusal.{Refusal}
use Rattle.fv_model.specs.declared.answers.Refusal.TheVariants.{AggregateFull, SnapshotInUse, VolumeInUse}
use Rattle.fv_model.specs.declared.answers.Reply.{Reply}
use Rattle.fv_model.specs.declared.commands.Kind.{Kind}
use Rattle.fv_model.specs.declared.commands.Kind.TheVariants.{Volume as Whole, File as ByFile, Thin}
use Rattle.fv_model.specs.declared.commands.Command.{Command}
use Rattle.fv_model.specs.declared.commands.Command.TheVariants.{VolStat, New, Put, Get, Len, Cut, Remove, Ls, SnapCreate, SnapDelete, SnapRestore, SnapList, SplitStart, SplitFinish, Clean, Probe}
use Rattle.fv_model.specs.Volumes.{Volume}
use Rattle.fv_model.specs.Machines.{Machine}
use Rattle.fv_model.specs.Refusals.{refusal, next, home}
use Rattle.fv_model.specs.Replies.{Allows}

-- two machines have the same volume under a name, or none
abbrev pub IsSameAt : List ℕ → Machine → Machine → Type 0
IsSameAt name m n = fin.get n.volumes name ≡ fin.get m.volumes name

-- the commands that look at their home alone
abbrev pub is_local : Command → Bool
is_local (VolStat v) = true
is_local (New v f reserve) = true
is_local (Put v f i block) = true
is_local (Get v s f i) = true
is_local (Len v s f) = true
is_local (Cut v f length) = true
is_local (Remove v f) = true
is_local (Ls v s) = true
is_local (SnapCreate v s) = true
is_local (SnapDelete v s) = true
is_local (SnapRestore v s) = true
is_local (SnapList v) = true
is_local (SplitStart c) = true
is_local (SplitFinish c) = true
is_local (Clean v) = true
is_local (Probe v f i) = true
is_local c = false

-- the refusals that rest on other volumes: a clone stands on the snapshot, or on the volume that is to be split off
abbrev pub is_snapshot_in_use : Refusal → Bool
is_snapshot_in_use SnapshotInUse = true
is_snapshot_in_use r = false

abbrev pub is_volume_in_use : Refusal → Bool
is_volume_in_use VolumeInUse = true
is_volume_in_use r = false

abbrev pub is_for_clones : Command → Refusal → Bool
is_for_clones (SnapDelete v s) r = is_snapshot_in_use r
is_for_clones (SplitStart c) r = is_volume_in_use r
is_for_clones c r = false

-- and the aggregate is full, in a volume of another kind than `volume`
abbrev pub is_for_aggregate : Refusal → Bool
is_for_aggregate AggregateFull = true
is_for_aggregate r = false

abbrev pub is_whole : Kind → Bool
is_whole Whole = true
is_whole ByFile = false
is_whole Thin = false

abbrev pub rests_elsewhere : Kind → Command → Refusal → Bool
rests_elsewhere kind c r = is_for_clones c r || (is_for_aggregate r && not (is_whole kind))

-- two machines of one version that hold one volume under its name, and a command there that looks at its home alone and
-- that neither machine refuses for another volume's sake
pub record AreAlike (m n : Machine) (v : List ℕ) (c : Command) : Type 0 where
  pub version : m.version ≡ n.version
  pub volume : Volume
  pub first : fin.get m.volumes v ≡ Some volume
  pub second : fin.get n.volumes v ≡ Some volume
  pub local : is_local c ≡ true
  pub here : home c ≡ Some v
  pub first_own : option_map_or (rests_elsewhere volume.kind c) (refusal m c) false ≡ false
  pub second_own : option_map_or (rests_elsewhere volume.kind c) (refusal n c) false ≡ false

-- the command has the same allowed replies in both, and leaves the same volume
pub record IsIsolated (m n : Machine) (v : List ℕ) (c : Command) : Type 0 where
  pub replies : (r : Reply) → (Allows m c r → Allows n c r) × (Allows n c r → Allows m c r)
  pub left : IsSameAt v (next m c) (next n c)
