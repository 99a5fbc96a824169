use Rattle.std.proofs.Common.{◌≡◌, ◌<◌, Option, Some, inr, sym, ap, subst}
use Rattle.std.specs.Prelude.{IfSome}
use Rattle.fv_aggregate.specs.Calls.{TellsSnapshots}
use Rattle.fv_model.specs.declared.answers.Reply.TheVariants.{Names}
use Rattle.fv_volume.specs.declared.state.VolumeState.{VolumeState}
use Rattle.fv_volume.specs.Slots.{HasName}
use Rattle.fv_volume.specs.Snaps.{names_kept}
use Rattle.fv_volume.specs.States.{state_at}
use Rattle.fv_aggregate.specs.declared.session.Session.{Session}
use Rattle.fv_aggregate.proofs.SnapListed.{names_listed}
use Rattle.fv_aggregate.proofs.session.Session.snapshots.Goals as goal

pub returns : goal.returns
returns c =
    let slot = c.in-Some.slot in
    let z = c.volume_in.result.now in
    let found = subst (λ (n : Session). (slot < 64) × HasName n.volumes slot c.args.volume.now) c.self.view_is c.in-Some.ensures.some in
    let there : state_at c.args.self.now.volumes slot ≡ Some z = subst (λ (n : Session). state_at n.volumes slot ≡ Some z) c.self.view_is c.volume_in.ensures in
    let names = c.in_ok-names.names in
    subst (TellsSnapshots c.args.self.now c.args.volume.now) (sym c.list.ensures) (inr (slot, (found.0, (found.1, subst (λ (o : Option VolumeState). IfSome o (λ x. Names names ≡ Names (names_kept x.snapshots))) (sym there) (ap Names (names_listed z.snapshots names c.in_ok-names.ensures))))))
