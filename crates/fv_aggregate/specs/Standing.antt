-- Where a session stands: on a disk, and for the machines that the two stand for together.
use Rattle.std.specs.Prelude.{◌≡◌, ◌≤◌, ◌<◌, ◌+◌, ◌-◌, ◌⊎◌, ℕ, max, true, IsTrue, Option, Some, None}
use Rattle.std.specs.List.{sum_by}
use Rattle.std.specs.FinMap as fin
use Rattle.fv_bits.specs.Members.{is_member}
use Rattle.fv_model.specs.Space.{charge, overhead}
use Rattle.fv_disk.specs.Shown.{Image, Shown, IsSettled}
use Rattle.fv_store.specs.Held.{StandsOn}
use Rattle.fv_model.specs.Machines.{Machine, first_block}
use Rattle.fv_image.specs.Held.{view_at}
use Rattle.fv_image.specs.Views.{overheads}
use Rattle.fv_image.specs.WholeMachine.{machine_of}
use Rattle.fv_root.specs.Finding.{root_found}
use Rattle.fv_root.specs.Commits.{IsFoundOn}
use Rattle.fv_aggmap.specs.Space.{Space, blocks_of, free_blocks, free_from}
use Rattle.fv_volume.specs.declared.state.VolumeState.{VolumeState}
use Rattle.fv_volume.specs.States.{States}
use Rattle.fv_volumes.specs.UnderRoot.{IsMapOf}
use Rattle.fv_cp.specs.Held.{machine_held, IsHeld}
use Rattle.fv_cp.specs.Known.{AreKnown}
use Rattle.fv_cp.specs.Lent.{maps_waiting}
use Rattle.fv_cp.specs.Placing.{pending_files, AreReady, HaveNoFiles}
use Rattle.fv_aggregate.specs.declared.session.Session.{Session}
use Rattle.fv_aggregate.specs.Commands.{dirty_limit}

-- A session stands on a disk: its root is what `find_root` would answer, over what reads give and over each image that a crash now
-- may leave, with the blocks whose bits are set in that root's map area; and each block in its cache is what the disk reads there.
pub record Stands (disk : Shown) (session : Session) : Type 0 where
  pub found : IsTrue disk.tells → IsFoundOn disk session.pool.found
  pub map : IsTrue disk.tells → IsMapOf disk.reads session.pool.found session.pool.map
  pub cache : StandsOn disk session.pool.store.pairs

-- It stands there, and calls can be made on each of its volumes. What they need beside the cache each session has that hasn't failed.
pub record StandsReady (disk : Shown) (session : Session) : Type 0 where
  pub stands : Stands disk session
  pub ready : AreReady disk session.pool session.volumes

-- how many blocks the root on the disk leaves free
abbrev pub clear_blocks : Space → ℕ
clear_blocks space = free_from space.committed space.committed (first_block (blocks_of space))

-- how many of those were taken since the last point: the next root will hold them
abbrev pub taken_since : Space → ℕ
taken_since space = clear_blocks space - free_blocks space

-- The blocks that the disk hasn't, beside the overheads: those of files that a flush places at most, those of maps that wait, and those that
-- have their places already.
abbrev pub unwritten : Session → ℕ
unwritten session = pending_files session.volumes + maps_waiting session.volumes + taken_since session.pool.map

-- no file is in memory, and no block was taken for one since the last point
pub record IsWithoutFiles (session : Session) : Type 0 where
  pub none : HaveNoFiles session.volumes
  pub taken : (b : ℕ) → is_member session.pool.map.next b ≡ true → is_member session.pool.map.committed b ≡ true

-- the next root would hold what the root on the disk holds: what was taken since the last point was given back, and nothing else was
abbrev pub HoldsAsCommitted : Session → Type 0
HoldsAsCommitted session = session.pool.map.next ≡ session.pool.map.committed

-- the overheads of all volumes of a session, whether they changed or not
abbrev pub overhead_by : Option VolumeState → ℕ
overhead_by None = 0
overhead_by (Some x) = overhead x.span

abbrev pub overheads_in : States → ℕ
overheads_in states = sum_by overhead_by states

-- A session stands for a machine, each volume by its files in memory and in its blocks, and the image of its last consistency point for
-- that point's machine. It knows of which volumes no entry is delayed there.
pub record StandsFor (disk : Shown) (session : Session) (last now : Machine) : Type 0 where
  pub held : IsHeld disk session.pool session.volumes last
  pub machine : machine_held disk session.pool session.volumes ≡ now
  pub settled : IsSettled disk
  pub delays : AreKnown disk.reads session.pool.found session.delays
  -- among the pending blocks are the unwritten ones, and those by which the overheads have passed those of the last point
  pub pending : unwritten session + overheads_in session.volumes ≤ overheads (view_at (root_found session.pool.found) disk.reads) + session.pending
  pub files : unwritten session ≤ session.pending
  -- a flush places fewer blocks than the dirty limit, and fewer than are free
  pub few : pending_files session.volumes < dirty_limit
  pub free : pending_files session.volumes < free_blocks session.pool.map
  -- beside the overheads of the last point there is room for what is pending, and for 256 blocks at least
  pub room : overheads (view_at (root_found session.pool.found) disk.reads) + max 256 session.pending ≤ clear_blocks session.pool.map

-- an image stands for the machine of the last point, for the machine before a command, or for the one after it
abbrev pub OneOf : Machine → Machine → Machine → Image → Type 0
OneOf last before after c = (machine_of c ≡ Some last) ⊎ ((machine_of c ≡ Some before) ⊎ (machine_of c ≡ Some after))

-- After a call on a session that stood for `m` and its last point for `last`: the session stands for a machine, and its last point for
-- one of those two.
pub record StandsAfter (disk : Shown) (session : Session) (last m now : Machine) : Type 0 where
  pub point : Machine
  pub one : (point ≡ last) ⊎ (point ≡ m)
  pub stands : StandsFor disk session point now

-- the charges of all volumes
abbrev pub charged_in : Machine → ℕ
charged_in m = sum_by (λ e. charge e.1) (fin.entries m.volumes)
