-- The point that made room for a mirror, behind its copies: what it made of the entries is there still, and the session that it left stands for the same
-- machine, with the cache that is left.
use Rattle.std.proofs.Common.{◌≡◌, ◌∙◌, inr, ℕ, List, refl, sym, subst}
use Rattle.std.specs.Prelude.{IsTrue}
use Rattle.fv_disk.specs.Shown.{IsDisk, IsSettled, Shown}
use Rattle.fv_image.specs.Held.{view_at}
use Rattle.fv_image.specs.Views.{View}
use Rattle.fv_model.specs.declared.commands.Kind.{Kind}
use Rattle.fv_model.specs.Machines.{Machine}
use Rattle.fv_root.specs.Finding.{root_found}
use Rattle.fv_pool.specs.declared.pool.Pool.{Pool}
use Rattle.fv_mirror.specs.declared.admitting.Admitted.{Admitted}
use Rattle.fv_mirror.specs.Making.{LeavesOthers}
use Rattle.fv_cp.specs.Choosing.{LeavesRoom}
use Rattle.fv_aggregate.specs.declared.session.Session.{Session}
use Rattle.fv_aggregate.specs.Mirroring.{IsMirrorAdded, LeavesCopies}
use Rattle.fv_aggregate.specs.Reclaiming.{HasMadeRoom, HasPointed}
use Rattle.fv_aggregate.specs.Standing.{StandsFor}
use Rattle.fv_aggregate.proofs.MadeRoom.{entries_over, made_room}
use Rattle.fv_aggregate.proofs.MirroredDisk.{view_free, writes_free}
use Rattle.fv_aggregate.proofs.MirroredStands.{none_stands}
use Rattle.fv_aggregate.proofs.MirroredUnmade.{unmade_held, unmade_machine}

-- ---- the point

module _ (disk : Shown) (session : Session) (name : List ℕ) (size : ℕ) (kind : Kind) (a : Admitted) (room : ℕ) (after : Shown) (new : Session) (leaves : LeavesCopies disk session after new) (added : IsMirrorAdded disk session name size kind a room after new)
    (laws : IsDisk disk) (tells : IsTrue disk.tells) (settled : IsSettled after) where
  -- as the point left it, with the cache behind the copies
  abbrev left : Pool
  left = record session.pool { store = new.pool.store }

  abbrev pointed : Session
  pointed = record session { pool = left }

  others : LeavesOthers disk session.pool after left
  others = record {
    containers = refl;
    found = refl;
    version = refl;
    committed = refl;
    free = λ b free. free;
    held = λ b is. is;
    kept = λ b taken. refl;
    fewer = λ b. inr refl;
    tells = leaves.others.tells;
    given = leaves.others.given;
    ends = leaves.others.ends;
    reads = leaves.others.reads;
    images = leaves.others.images;
    any_moment = leaves.others.any_moment;
  }

  module _ (point m : Machine) (stands : StandsFor disk session point m) where
    view : view_at (root_found session.pool.found) after.reads ≡ view_at (root_found session.pool.found) disk.reads
    view = view_free disk session.pool session.volumes point stands.held after (writes_free disk session.pool after left others) laws tells

    stands_still : StandsFor after pointed point m
    stands_still = none_stands disk session after pointed (record { others = others; cache = leaves.cache; delays = refl }) laws tells settled point m stands (record { states = refl; map = refl; containers = refl }) refl
        (unmade_held disk session.pool session.volumes a.slot added.mirrored.admits.free added.fit added.few after left others refl refl laws tells point stands.held leaves.cache)
        (unmade_machine disk session.pool session.volumes a.slot added.mirrored.admits.free added.fit added.few after left others refl refl laws tells point stands.held ∙ stands.machine)

  -- What a point is said to have done is said of it behind the copies, too.
  pub room_behind : (want : ℕ) (old : Session) (m : Machine) → HasPointed want old disk session m → HasMadeRoom want old after m
  room_behind want old m is = made_room want old after pointed m (record {
    next = is.next;
    stands = stands_still m m is.stands;
    room = subst (λ (w : View). LeavesRoom w want) (sym (view m m is.stands)) is.room;
    entries = entries_over want old session new.pool.store disk after (view m m is.stands) is.entries;
  })
