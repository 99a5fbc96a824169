-- What a consistency point makes of the entries of a session's volumes, as the image shows them.
use Rattle.std.specs.Prelude.{◌≡◌, ◌≢◌, ◌<◌, ◌+◌, ◌&&◌, ℕ, Bool, true, false, List, Option, Some, None, Result, OnErr, OnOk, IfOk, IsNone, IsTrue, if◌then◌else◌}
use Rattle.std.specs.Option.{option_map}
use Rattle.std.specs.FinMap as fin
use Rattle.fv_disk.specs.Shown.{Shown}
use Rattle.fv_bits.specs.Members.{is_member}
use Rattle.fv_model.specs.declared.answers.Reply.{Reply}
use Rattle.fv_model.specs.Machines.{Machine}
use Rattle.fv_image.specs.Held.{view_at}
use Rattle.fv_image.specs.Views.{Placed}
use Rattle.fv_root.specs.Finding.{root_found}
use Rattle.fv_container.specs.declared.entry.Entry.{Entry}
use Rattle.fv_container.specs.Chains.{container_at, slot_count}
use Rattle.fv_container.specs.Mapped.{Mapped, entry_under}
use Rattle.fv_delay.specs.declared.regions.Region.{Region}
use Rattle.fv_delay.specs.Holding.{has_region}
use Rattle.fv_delay.specs.Reclaims.{goes_with}
use Rattle.fv_pool.specs.BlocksOver.{LeavesPool}
use Rattle.fv_pool.specs.declared.pool.Pool.{Pool}
use Rattle.fv_volume.specs.declared.state.VolumeState.{VolumeState}
use Rattle.fv_volume.specs.States.{States, placed_in, state_at}
use Rattle.fv_volume.specs.Stored.{is_map_written, map_entry}
use Rattle.fv_cp.specs.Choosing.{CountsMissing, regions_chosen, LeavesRoom}
use Rattle.fv_cp.specs.Settling.{OldOrHeld}
use Rattle.fv_disk.specs.Crash.{Leaves}
use Rattle.fv_cp.specs.Placing.{AreButPlaced, LeavesUnused, PlacesEntries, RestsPlaced}
use Rattle.fv_cp.specs.Points.{is_due, IsNextRoot}
use Rattle.fv_aggregate.specs.declared.fault.Fault.{Fault}
use Rattle.fv_aggregate.specs.declared.session.Session.{Session}
use Rattle.fv_aggregate.specs.Adding.{IsPointed}
use Rattle.fv_aggregate.specs.Calls.{IsUnpointed, SameButNumbers}
use Rattle.fv_aggregate.specs.Commands.{dirty_limit, is_refusal}
use Rattle.fv_aggregate.specs.Standing.{StandsFor}

-- the entry under a VVBN of the volume of a slot, as an image shows it under the root of a session
abbrev pub entry_shown : Shown → Session → ℕ → ℕ → Option Placed
entry_shown disk session s v = (view_at (root_found session.pool.found) disk.reads).entry s v

-- an entry of a container with the block that stands in an image at its place
abbrev pub shown_as : Shown → Option Entry → Option Placed
shown_as disk entry = placed_in fin.empty disk.reads entry

-- whether a point that reclaims some regions writes the block under a VVBN: it writes the volume, and the map to which the block belongs
abbrev pub writes_map : List Region → ℕ → VolumeState → ℕ → Bool
writes_map regions s x v = is_due regions s x && is_map_written x v

-- What a point that wants so many blocks makes of the entries of a session's volumes. First files are placed: each entry stays or leads to a block
-- that the root on the disk doesn't hold. Regions are chosen by what the volumes are then. Their delayed entries are holes in the image, and
-- no other entry does: the blocks of maps that are written have new entries, and every other stays. An entry is delayed where the volume's
-- maps, which are those behind the point, don't hold its number.
pub record ReclaimsEntries (want : ℕ) (old : Session) (after : Shown) (new : Session) : Type 0 where
  -- what the volumes share and the volumes, once the files are placed
  pub mid : Pool
  pub between : States
  pub found : mid.found ≡ old.pool.found
  pub version : mid.version ≡ old.pool.version
  pub same : AreButPlaced old.volumes between
  pub maps : (s : ℕ) → option_map (λ (x : VolumeState). x.map) (state_at new.volumes s) ≡ option_map (λ (x : VolumeState). x.map) (state_at between s)
  pub placed : PlacesEntries old.pool.map old.pool.containers mid.containers
  -- What isn't in use then has the entry that it had. So the session's entries and the maps behind the point tell which are delayed.
  pub unused : LeavesUnused old.pool mid between
  -- of a volume without files in memory nothing was placed
  pub rest : RestsPlaced old.pool old.volumes mid between
  -- So the regions are those that are chosen by the session's entries and the volumes behind the point.
  pub chosen : regions_chosen mid between want ≡ regions_chosen old.pool new.volumes want
  -- they are chosen for just what the space rule lacks by the image, with what was delayed once the files were placed
  pub missing : CountsMissing mid between (view_at (root_found new.pool.found) after.reads) want
  pub there : (s : ℕ) (x : VolumeState) → state_at between s ≡ Some x → (map : Mapped) × (container_at mid.containers s ≡ Some map)
  pub written : (s v : ℕ) (x : VolumeState) (map : Mapped) → s < slot_count → state_at between s ≡ Some x → container_at mid.containers s ≡ Some map → writes_map (regions_chosen mid between want) s x v ≡ true
      → (place : ℕ) × ((is_member old.pool.map.committed place ≡ false) × (entry_shown after new s v ≡ shown_as after (Some (map_entry place))))
  pub others : (s v : ℕ) (x : VolumeState) (map : Mapped) → s < slot_count → state_at between s ≡ Some x → container_at mid.containers s ≡ Some map → writes_map (regions_chosen mid between want) s x v ≡ false
      → entry_shown after new s v ≡ shown_as after (if goes_with x.map map (has_region (regions_chosen mid between want) s) v then None else entry_under map v)

-- What a point leaves that was done in a session that stood for a machine: another root counts, the session stands for that machine, and so does the
-- image. The space rule holds, with the room that was wanted where the commits leave that.
pub record HasPointed (want : ℕ) (old : Session) (after : Shown) (new : Session) (m : Machine) : Type 0 where
  pub next : IsNextRoot old.pool.found new.pool.found
  pub stands : StandsFor after new m m
  pub room : LeavesRoom (view_at (root_found new.pool.found) after.reads) want
  pub entries : ReclaimsEntries want old after new

-- A point made room for a command. What the command read before it changed the cache and the numbers of files in memory alone, so that the session
-- was `first` then. Of that the point left what a point leaves, for the room of the command, and the session `mid`, on which the command was
-- carried out. All this is there still behind the command: copies of blocks are written to blocks that neither root holds, and of `mid`
-- only the cache is that behind the copies.
pub record HasMadeRoom (room : ℕ) (old : Session) (after : Shown) (m : Machine) : Type 0 where
  pub first : Session
  pub read : LeavesPool old.pool first.pool
  pub same : SameButNumbers old.volumes first.volumes
  pub mid : Session
  pub pointed : HasPointed room first after mid m

-- So it is where the room of a command that isn't refused passes the dirty limit with what is pending, and the session stands for a machine.
abbrev pub MakesRoom : ℕ → Shown → Session → Shown → Result Reply Fault → Type 0
MakesRoom room before old after result = IsTrue before.tells → (last m : Machine) → StandsFor before old last m → room ≢ 0 → dirty_limit < old.pending + room
    → IfOk result (λ reply. is_refusal reply ≡ false → HasMadeRoom room old after m)

-- A consistency point ran for an event of this room, or not. Done, it is what is said of one; and each image on its way is of one side of it. Where it
-- wasn't done and the session goes on, it only read.
pub record Points {T : Type 0} (want : ℕ) (before : Shown) (old : Session) (after : Shown) (new : Session)
    (result : Result T Fault) : Type 0 where
  pub point : IsTrue before.tells → (last m : Machine) → StandsFor before old last m → OnOk result (HasPointed want old after new m)
  pub sides : IsTrue before.tells → (last m : Machine) → StandsFor before old last m
      → Leaves before after (OldOrHeld before old.pool old.volumes last)
  pub left : OnOk result (IsPointed before old new)
  pub undone : IsNone new.failed → OnErr result (IsUnpointed before old after new)
