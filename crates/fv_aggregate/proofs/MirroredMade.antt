-- A mirror that was made in a session, or not, and for which machine the session stands then.
use Rattle.std.proofs.Common.{◌≡◌, ◌≤◌, ◌+◌, ℕ, List, None, sym, ap, subst, ◌∙◌, arith}
use Rattle.std.specs.Prelude.{IsNone, IsTrue}
use Rattle.fv_disk.specs.Shown.{IsDisk, IsSettled, Shown}
use Rattle.fv_aggmap.specs.Space.{free_blocks}
use Rattle.fv_model.specs.declared.commands.Kind.{Kind}
use Rattle.fv_model.specs.declared.commands.Command.TheVariants.{Mirror}
use Rattle.fv_model.specs.Machines.{Machine}
use Rattle.fv_model.specs.Refusals.{next, refusal}
use Rattle.fv_model.specs.Space.{overhead}
use Rattle.fv_volume.specs.States.{States}
use Rattle.fv_mirror.specs.declared.admitting.Admitted.{Admitted}
use Rattle.fv_mirror.specs.Admitting.{CanMake}
use Rattle.fv_mirror.specs.Making.{source_bits, CanCopy}
use Rattle.fv_cp.specs.Held.{machine_held, IsHeld}
use Rattle.fv_aggregate.specs.declared.fault.Fault.{Fault}
use Rattle.fv_aggregate.specs.declared.session.Session.{Session}
use Rattle.fv_aggregate.specs.Adding.{HasRoom}
use Rattle.fv_aggregate.specs.Mirroring.{IsMirrorAdded, IsNoneAdded, LeavesCopies}
use Rattle.fv_aggregate.specs.Standing.{StandsFor}
use Rattle.fv_aggregate.proofs.MirroredCounts.{copies_spent}
use Rattle.fv_aggregate.proofs.MirroredHeld.{all_copies, mirror_held, mirror_machine, HasCountIn}
use Rattle.fv_aggregate.proofs.MirroredStands.{copies_fit, mirror_stands, none_stands}
use Rattle.fv_aggregate.proofs.MirroredUnmade.{unmade_held, unmade_machine}
use Rattle.fv_aggregate.proofs.MirroredWhole.{bits_counted, can_copy}

module _ (disk : Shown) (session : Session) (name : List ℕ) (size : ℕ) (kind : Kind) (a : Admitted) (room : ℕ) (after : Shown) (new : Session) (leaves : LeavesCopies disk session after new) (point m : Machine) (stands : StandsFor disk session point m) where
  -- none was made
  module _ (f : Fault) (none : IsNoneAdded disk session a room after new f) (can : CanMake session.volumes session.pool.found.blocks name size kind a) where
    pub can_be_copied : HasCountIn m a → room ≡ overhead a.span + a.count → HasRoom disk session room → CanCopy disk session.volumes session.pool a
    can_be_copied count room_is enough = can_copy disk session none.fit none.few name size kind a can none.maps point m stands count (copies_fit disk session point m stands a room room_is enough)

    pub still_stands : IsDisk disk → IsTrue disk.tells → IsNone new.failed → IsSettled after → StandsFor after new point m
    still_stands laws tells alive settled =
        let unmade = none.same alive in
        let held : IsHeld after new.pool session.volumes point =
        unmade_held disk session.pool session.volumes a.slot can.free none.fit none.few after new.pool leaves.others unmade.map unmade.containers laws tells point stands.held leaves.cache in
        let machine : machine_held after new.pool session.volumes ≡ m =
        unmade_machine disk session.pool session.volumes a.slot can.free none.fit none.few after new.pool leaves.others unmade.map unmade.containers laws tells point stands.held ∙ stands.machine in
        none_stands disk session after new leaves laws tells settled point m stands unmade (none.pending alive)
        (subst (λ (xs : States). IsHeld after new.pool xs point) (sym unmade.states) held)
        (ap (machine_held after new.pool) unmade.states ∙ machine)

  -- the mirror was made
  module _ (added : IsMirrorAdded disk session name size kind a room after new) (laws : IsDisk disk) (tells : IsTrue disk.tells) (count : HasCountIn m a) where
    spent : free_blocks session.pool.map ≤ free_blocks new.pool.map + a.count
    spent =
        let copied = copies_spent disk session.pool a.source.parent (source_bits added.mirrored.admits.asked.source.home.volume a.source.slot) added.mirrored.container after new.pool leaves.others.committed
        (all_copies disk session name size kind a room after new added leaves laws tells point m stands) in
        let number = bits_counted disk session added.fit added.few name size kind a added.mirrored.admits added.maps point m stands count in
        omega (arith, copied, number)

    pub made_stands : IsSettled after → HasRoom disk session room → refusal m (Mirror a.source.name a.source.snapshot name size kind) ≡ None
        → StandsFor after new point (next m (Mirror a.source.name a.source.snapshot name size kind))
    made_stands settled enough accepts = mirror_stands disk session after new leaves laws tells settled point m stands name size kind a room added
        (next m (Mirror a.source.name a.source.snapshot name size kind)) spent enough
        (mirror_held disk session name size kind a room after new added leaves laws tells point m stands count)
        (mirror_machine disk session name size kind a room after new added leaves laws tells point m stands accepts)
