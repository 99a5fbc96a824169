-- What is damaged where a call of a session answers so: blocks are lacking, files couldn't be placed, a table isn't as it has to be, or a leaf of a
-- container isn't there.
use Rattle.std.specs.Prelude.{◌≡◌, ◌≢◌, ◌<◌, ◌≤◌, ◌+◌, ◌⊎◌, ℕ, IsTrue, IsNone, IsSome, List, Option, Some, Bool}
use Rattle.fv_disk.specs.Shown.{Shown}
use Rattle.fv_disk.specs.DiskCalls.{OnlyReads}
use Rattle.fv_disk.specs.declared.fault.BlockFault.TheVariants as block
use Rattle.fv_image.specs.Layout.{root_place}
use Rattle.fv_model.specs.declared.commands.Kind.{Kind}
use Rattle.fv_aggmap.specs.Space.{free_blocks}
use Rattle.fv_container.specs.Chains.{container_at}
use Rattle.fv_pool.specs.declared.fault.VolumeFault.TheVariants as volume
use Rattle.fv_pool.specs.declared.pool.Pool.{Pool}
use Rattle.fv_pool.specs.BlocksOver.{LacksLeaf, LeavesPool, LoadsPool}
use Rattle.fv_pool.specs.Calls.{GivesUp, TableFails}
use Rattle.fv_pool.specs.Lending.{lent_for}
use Rattle.fv_volume.specs.declared.state.VolumeState.{VolumeState}
use Rattle.fv_volume.specs.declared.tables.TableAsked.{TableAsked}
use Rattle.fv_volume.specs.Asking.{standing_of, table_named, TellsBy}
use Rattle.fv_volume.specs.OneVolume.{home_in}
use Rattle.fv_volume.specs.States.{States, state_at}
use Rattle.fv_mirror.specs.declared.admitting.Admitted.{Admitted}
use Rattle.fv_mirror.specs.Admitting.{Admits, CanMake}
use Rattle.fv_mirror.specs.Making.{CanCopy}
use Rattle.fv_cp.specs.Lent.{blocks_asked}
use Rattle.fv_cp.specs.Placing.{AreButPlaced, HaveNoFiles, HaveNoneBefore, KeepShapes, MayFail, PlacesEntries, RestsPlaced}
use Rattle.fv_aggregate.specs.declared.session.Session.{Session}
use Rattle.fv_aggregate.specs.Adding.{IsPointed}
use Rattle.fv_aggregate.specs.Asking.{AsksWithin, IsShort}
use Rattle.fv_aggregate.specs.Commands.{dirty_limit, Asked, AsksCopies, AsksLeaves, AsksPlacing, AsksPoint, AsksTable}
use Rattle.fv_aggregate.specs.Reading.{IsAsRead}
use Rattle.fv_aggregate.specs.Standing.{taken_since}

-- what is pending and some room pass the dirty limit together, so that a call that may add this room is preceded by a consistency point
abbrev pub PassesLimit : ℕ → ℕ → Type 0
PassesLimit pending room = (0 < room) × (dirty_limit < pending + room)

-- ---- at a point

-- all of a session stayed, but leaves of containers that came into memory, and its cache
abbrev pub HasLoaded : Shown → Session → Session → Type 0
HasLoaded disk old new = LoadsPool disk old.pool new.pool × (new ≡ record old { pool = new.pool })

-- Fewer blocks are free in the session's map than a consistency point of it asks for, with the files in their places; and so it is in the
-- image, beside the blocks that were placed. Without a file in memory the session is as it was, but for leaves that came into memory.
pub record LacksBlocks (before : Shown) (old new : Session) (at want found : ℕ) : Type 0 where
  pub fresh : IsNone old.failed
  pub place : at ≡ root_place old.pool.found.slot
  pub asked : want ≡ blocks_asked old.volumes
  pub free : found ≡ free_blocks new.pool.map
  pub short : found < want
  pub image : IsTrue before.tells → (room : ℕ) → AsksWithin before old room → IsShort before.reads room (taken_since new.pool.map) at want found
  pub same : HaveNoFiles old.volumes → HasLoaded before old new

-- The files of a volume of the session couldn't be placed, since no number of the volume was free, or no block, or a leaf of its container isn't there.
-- What the volumes share was `mid` then, and the volumes were `between`: this one and each behind it as before, with their containers, and those
-- before it too, but for the placing of their files, none of which is in memory any more; or nothing was placed before. No tree of a container moved
-- on the disk. Where none of those slots has files in memory all stayed.
pub record HasFilesToPlace (disk : Shown) (session : Session) (at want found : ℕ) : Type 0 where
  pub fresh : IsNone session.failed
  pub files : HaveNoFiles session.volumes → ⊥
  pub slot : ℕ
  pub state : VolumeState
  pub there : state_at session.volumes slot ≡ Some state
  pub mid : Pool
  pub root : mid.found ≡ session.pool.found
  pub committed : mid.map.committed ≡ session.pool.map.committed
  pub placed : PlacesEntries session.pool.map session.pool.containers mid.containers
  pub shapes : KeepShapes session.pool.containers mid.containers
  pub entries : container_at mid.containers slot ≡ container_at session.pool.containers slot
  pub between : States
  pub ahead : (s : ℕ) → slot ≤ s → (state_at between s ≡ state_at session.volumes s) × (container_at mid.containers s ≡ container_at session.pool.containers s)
  pub others : AreButPlaced session.volumes between
  pub rest : RestsPlaced session.pool session.volumes mid between
  pub done : HaveNoneBefore between slot ⊎ ((mid ≡ session.pool) × (between ≡ session.volumes))
  pub first : HaveNoneBefore session.volumes slot → mid ≡ session.pool
  pub fails : MayFail disk mid (Some state) (volume.Damaged at want found)

-- A leaf of the container of a volume of the session doesn't stand where that has it. At a point files may have been placed before. In the
-- session that is left no tree of a container moved on the disk, and each entry is as it was or leads to a block that the root on the disk
-- doesn't hold. The volumes are as they were but for what placing changes; each one without files in memory stayed, with its container. Of
-- the session all else stayed. Without a file in memory it is as it was, but for leaves that came into memory.
pub record HasLostLeaf (disk : Shown) (session new : Session) (at want found : ℕ) : Type 0 where
  pub fresh : IsNone session.failed
  pub leaf : LacksLeaf disk session.pool.containers at want found
  -- what is left of it
  pub root : new.pool.found ≡ session.pool.found
  pub version : new.pool.version ≡ session.pool.version
  pub committed : new.pool.map.committed ≡ session.pool.map.committed
  pub shapes : KeepShapes session.pool.containers new.pool.containers
  pub parents : new.pool.containers.parents ≡ session.pool.containers.parents
  pub placed : PlacesEntries session.pool.map session.pool.containers new.pool.containers
  pub others : AreButPlaced session.volumes new.volumes
  pub rest : RestsPlaced session.pool session.volumes new.pool new.volumes
  pub parts : new ≡ record session { pool = new.pool; volumes = new.volumes }
  pub same : HaveNoFiles session.volumes → HasLoaded disk session new

-- ---- in a table

-- A block of the table that a call asks for isn't as it has to be, or a pointer of it leads nowhere: the slot, its volume, the table, and
-- why the call on it failed. The session that it left has of what the volumes share all but the cache, and of that volume all but its files
-- in memory and the numbers that these gave up.
pub record HasBadTable (asked : Asked) (disk : Shown) (session new : Session) (at want found : ℕ) : Type 0 where
  pub fresh : IsNone session.failed
  pub slot : ℕ
  pub snapshot : Option (List ℕ)
  pub cell : Bool
  pub asks : asked ≡ AsksTable slot snapshot cell
  pub state : VolumeState
  pub there : state_at session.volumes slot ≡ Some state
  pub table : TableAsked
  pub named : table_named state snapshot ≡ Some table
  pub fails : TableFails (TellsBy cell disk session.pool state table) (standing_of disk session.pool state table) (lent_for session.pool state.map disk 0 (home_in state) 0) disk.faults (block.Damaged at want found)
  -- what is left of it
  pub pool : LeavesPool session.pool new.pool
  pub now : VolumeState
  pub left : state_at new.volumes slot ≡ Some now
  pub same : now ≡ record state { map = now.map; files = now.files; changed = now.changed }
  pub maps : GivesUp state.map now.map

-- ---- in copies

-- The mirror for which copies are asked was admitted by the session before the call, and they can't be made of what this one has:
-- its snapshot of that name isn't whole, or too few blocks are free.
pub record HasBadCopies (asked : Asked) (old : Session) (disk : Shown) (session : Session) : Type 0 where
  pub fresh : IsNone old.failed
  pub name : List ℕ
  pub size : ℕ
  pub kind : Kind
  pub admitted : Admitted
  pub asks : asked ≡ AsksCopies admitted.source.parent admitted.source.snapshot name size kind
  pub admits : Admits old.volumes old.pool.found.blocks name size kind admitted
  -- the snapshot has the same map slot still
  pub still : CanMake session.volumes session.pool.found.blocks name size kind admitted
  pub not : CanCopy disk session.volumes session.pool admitted → ⊥

-- ---- in a call

-- a call comes to a consistency point, since it asks for one, or to make room
abbrev pub ComesToPoint : ℕ → Asked → Session → Type 0
ComesToPoint room asked session = (asked ≡ AsksPoint) ⊎ PassesLimit session.pending room

-- it comes to place the files of the volume of a slot, at a point or by itself
abbrev pub ComesToPlace : ℕ → Asked → Session → ℕ → Type 0
ComesToPlace room asked session slot = (asked ≡ AsksPlacing slot) ⊎ ComesToPoint room asked session

-- it comes to read leaves of containers: to place files, or for the leaves of a volume's container
abbrev pub ComesToLeaves : ℕ → Asked → Session → Type 0
ComesToLeaves room asked session = (slot : ℕ) × ((asked ≡ AsksLeaves slot) ⊎ ComesToPlace room asked session slot)

-- A call that places files found those of a volume that couldn't be placed. But where it places this volume by itself, those of the slots before it
-- were placed.
pub record HasUnplaced (room : ℕ) (asked : Asked) (disk : Shown) (session : Session) (at want found : ℕ) : Type 0 where
  pub files : HasFilesToPlace disk session at want found
  pub comes : ComesToPlace room asked session files.slot
  pub before : asked ≢ AsksPlacing files.slot → HaveNoneBefore files.between files.slot

-- Blocks are lacking for a point, or files couldn't be placed, or a leaf isn't there, where a call that may add `room` blocks comes to that; or the
-- table that it asks for isn't as it has to be.
abbrev pub HasDamageIn : ℕ → Asked → Shown → Session → Session → ℕ → ℕ → ℕ → Type 0
HasDamageIn room asked disk session new at want found =
    (ComesToPoint room asked session × LacksBlocks disk session new at want found)
    ⊎ (HasUnplaced room asked disk session at want found
    ⊎ ((ComesToLeaves room asked session × HasLostLeaf disk session new at want found) ⊎ HasBadTable asked disk session new at want found))

-- a session of which blocks were read for a call that asks for a table
pub record HasReadFor (asked : Asked) (old session : Session) : Type 0 where
  pub fresh : IsNone old.failed
  pub slot : ℕ
  pub snapshot : Option (List ℕ)
  pub cell : Bool
  pub asks : asked ≡ AsksTable slot snapshot cell
  pub there : IsSome (state_at old.volumes slot)
  pub read : IsAsRead old session

-- it came to the damage once blocks were read
pub record HasDamageLater (room : ℕ) (asked : Asked) (disk : Shown) (old new : Session) (at want found : ℕ) : Type 0 where
  pub session : Session
  pub read : HasReadFor asked old session
  pub damage : HasDamageIn room asked disk session new at want found

-- it came to a bad table behind the point that made room for it
pub record HasDamageBehind (asked : Asked) (disk : Shown) (old new : Session) (at want found : ℕ) : Type 0 where
  pub session : Session
  pub read : HasReadFor asked old session
  pub pointed : Session
  pub left : IsPointed disk session pointed
  pub bad : HasBadTable asked disk pointed new at want found

-- So it is behind a point that made room for the copies: the session that is left, which but for its cache is as the point left it,
-- can't make them.
pub record HasBadCopiesBehind (asked : Asked) (disk : Shown) (old new : Session) : Type 0 where
  pub left : IsPointed disk old new
  pub bad : HasBadCopies asked old disk new

-- What is damaged where a call that may add `room` blocks, and asks for this, answers so, by what the disk shows then, and of copies
-- without a point by what it showed before. Nothing was written, but where a point made room for a command that passes the dirty limit,
-- and where blocks are copied.
abbrev pub HasDamage : ℕ → Asked → Shown → Session → Shown → Session → ℕ → ℕ → ℕ → Type 0
HasDamage room asked before old after new at want found =
    (OnlyReads before after × (HasDamageIn room asked after old new at want found ⊎ HasDamageLater room asked after old new at want found))
    ⊎ ((PassesLimit old.pending room × HasDamageBehind asked after old new at want found)
    ⊎ (HasBadCopies asked old before old ⊎ (PassesLimit old.pending room × HasBadCopiesBehind asked after old new)))
