-- What a consistency point asks for, also where the image stands for no machine, and when that is too much.
use Rattle.std.specs.Prelude.{◌≡◌, ◌≤◌, ◌<◌, ◌+◌, ◌-◌, ℕ, max, not, count_by, Some}
use Rattle.std.specs.List.{range_with_len}
use Rattle.fv_disk.specs.Shown.{Image, Shown}
use Rattle.fv_model.specs.Machines.{first_block}
use Rattle.fv_image.specs.Layout.{root_place}
use Rattle.fv_image.specs.Maps.{map_bit}
use Rattle.fv_image.specs.NewerRoot.{Taken, root_of}
use Rattle.fv_image.specs.Held.{view_at}
use Rattle.fv_image.specs.Views.{overheads}
use Rattle.fv_root.specs.Finding.{root_found}
use Rattle.fv_cp.specs.Lent.{blocks_asked}
use Rattle.fv_aggregate.specs.declared.session.Session.{Session}
use Rattle.fv_aggregate.specs.Commands.{dirty_limit}

-- how many blocks the aggregate map under a root leaves free
unfoldable pub free_under : Taken → Image → ℕ
free_under t i = count_by (λ b. not (map_bit t i b)) (range_with_len (first_block t.blocks) (t.blocks - first_block t.blocks))

-- A point of a session asks for no more blocks than the space rule keeps: for the overheads of the volumes that the root on the disk
-- names, and for what is pending, which is at most the dirty limit or the room of an event.
pub record AsksWithin (disk : Shown) (session : Session) (room : ℕ) : Type 0 where
  pub asked : blocks_asked session.volumes ≤ overheads (view_at (root_found session.pool.found) disk.reads) + session.pending
  pub pending : session.pending ≤ max dirty_limit room

-- An image lacks blocks: its aggregate map leaves `found` of them free, beside those in which files were placed since, and `want`, which is
-- more, is at most the overheads of its volumes and what may be pending with an event of this room. The space rule with that room keeps so
-- many free, and the overheads once more. `at` is the place of the root that counts.
pub record IsShort (i : Image) (room placed at want found : ℕ) : Type 0 where
  pub root : Taken
  pub counts : root_of i ≡ Some root
  pub place : at ≡ root_place root.slot
  pub free : found + placed ≡ free_under root i
  pub within : want ≤ overheads (view_at root i) + max dirty_limit room
  pub short : found < want
