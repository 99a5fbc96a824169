use Rattle.std.proofs.Common.{◌≡◌, length, Ok, Some, Err, Option, refl, sym, subst}
use Rattle.std.specs.Prelude.{IsNone}
use Rattle.fv_model.specs.declared.answers.Reply.{Reply}
use Rattle.fv_volume.specs.declared.state.VolumeState.{VolumeState}
use Rattle.fv_volume.specs.States.{state_at}
use Rattle.fv_aggregate.specs.declared.session.Session.{Session}
use Rattle.fv_aggregate.specs.Looking.{HasSnapped}
use Rattle.fv_aggregate.specs.Snapping.{HasGrant, JudgesSnap}
use Rattle.fv_aggregate.proofs.Commits.{commits_most}
use Rattle.fv_aggregate.proofs.Calls.{reads_itself}
use Rattle.fv_aggregate.proofs.Returned.{same_there}
use Rattle.fv_aggregate.specs.Commands.{room_by}
use Rattle.fv_aggregate.specs.Reclaiming.{MakesRoom}
use Rattle.fv_aggregate.proofs.MadeRoom.{refused_roomy}
use Rattle.fv_aggregate.proofs.SnapLost.{judged_needs, needs_none}
use Rattle.fv_aggregate.proofs.SnapDone.{refused_snapped}
use Rattle.fv_aggregate.proofs.SnapRoom.{grant_given, refused_given}
use Rattle.fv_aggregate.proofs.session.Session.snap_at.Goals as goal

pub commits_beside-others-requires-clause-few : goal.commits_beside-others-requires-clause-few
commits_beside-others-requires-clause-few g c =
    let fresh = subst (λ (n : Session). IsNone n.failed) (sym c.self.view_is) c.requires.fresh in
    commits_most (g.D.Disk.shown c.args.disk.now) c.args.self.now.pool c.args.self.now.volumes (subst (λ (n : Session). length n.volumes ≡ 64) c.self.view_is (c.self.invariant.0 fresh).housed.long) c.requires.stands.ready

pub snap_with-requires-clause-granted : goal.snap_with-requires-clause-granted
snap_with-requires-clause-granted g c =
    let s = c.args.self.now in
    let aimed = c.requires.aimed in
    let x = c.volume_in-state.result.now in
    let there : state_at s.volumes c.args.slot ≡ Some x = subst (λ (n : Session). state_at n.volumes c.args.slot ≡ Some x) c.self.view_is c.volume_in-state.ensures in
    let said = subst (λ (n : Session). JudgesSnap x n.pool.found.blocks c.commits_beside-others.result c.args.command.now (Ok c.in-Ok.granted)) c.self.view_is c.in-Ok.ensures in
    subst (λ (o : Option VolumeState). HasGrant o s.pool.found.blocks c.commits_beside-others.result c.args.command.now c.in-Ok.granted) (sym there)
    (grant_given x s.pool.found.blocks c.commits_beside-others.result c.in-Ok.granted aimed.state.name c.args.command.now aimed.snaps said)

pub returns-in-Err : goal.returns-in-Err
returns-in-Err g c =
    let d = g.D.Disk.shown c.args.disk.now in
    let s = c.args.self.now in
    let aimed = c.requires.aimed in
    let command = c.args.command.now in
    let slot = c.args.slot in
    let x = c.volume_in-state.result.now in
    let there : state_at s.volumes slot ≡ Some x = subst (λ (n : Session). state_at n.volumes slot ≡ Some x) c.self.view_is c.volume_in-state.ensures in
    let fresh = subst (λ (n : Session). IsNone n.failed) (sym c.self.view_is) c.requires.fresh in
    let long = subst (λ (n : Session). length n.volumes ≡ 64) c.self.view_is (c.self.invariant.0 fresh).housed.long in
    let others = c.commits_beside-others.ensures.sum in
    let said = subst (λ (n : Session). JudgesSnap x n.pool.found.blocks c.commits_beside-others.result command (Err c.in-Err.refusal)) c.self.view_is c.in-Err.ensures in
    record {
      snapped = subst (λ (z : Reply). HasSnapped d c.args.disk.now s command d c.args.disk.now s (Ok z)) (sym c.refuse.ensures) (refused_snapped d d c.args.disk.now c.args.disk.now (g.met.D.Disk.laws c.args.disk.now) (reads_itself d) refl refl s c.requires.fresh c.requires.stands command c.in-Err.refusal
          (refused_given d s long slot aimed.state aimed.there c.commits_beside-others.result others c.in-Err.refusal command aimed.snaps (subst (λ (z : VolumeState). JudgesSnap z s.pool.found.blocks c.commits_beside-others.result command (Err c.in-Err.refusal)) (same_there _ _ _ there aimed.there) said)));
      needs = needs_none s.volumes command _ (judged_needs x s.pool.found.blocks c.commits_beside-others.result c.in-Err.refusal aimed.state.name command aimed.snaps said);
      roomy = subst (λ (z : Reply). MakesRoom (room_by s.volumes command) d s d (Ok z)) (sym c.refuse.ensures) (refused_roomy (room_by s.volumes command) d s d c.in-Err.refusal);
    }
