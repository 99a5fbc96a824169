use Rattle.std.proofs.Common.{◌≡◌, ℕ, None, Some, true≢false, sym, subst, ◌∙◌, false}
use Rattle.std.specs.Prelude.{IfOk, IfSome, IsTrue}
use Rattle.fv_model.specs.Machines.{Machine}
use Rattle.fv_volume.specs.States.{state_at}
use Rattle.fv_aggregate.specs.Answers.{answer}
use Rattle.fv_aggregate.specs.Commands.{AsksTable, file_room, changed_by}
use Rattle.fv_aggregate.specs.Looking.{Looks, Makes}
use Rattle.fv_aggregate.specs.Probing.{CountsPath}
use Rattle.fv_aggregate.specs.Standing.{StandsFor}
use Rattle.fv_aggregate.proofs.Aimed.{suits_as}
use Rattle.fv_aggregate.proofs.Asked.{asked_at}
use Rattle.fv_aggregate.proofs.Carried.{aimed_at}
use Rattle.fv_aggregate.proofs.Changing.{change_of_volume}
use Rattle.fv_aggregate.proofs.Lost.{lacking, of_lacking}
use Rattle.fv_aggregate.proofs.Rooms.{slot_there}
use Rattle.fv_aggregate.proofs.Serving.{knows_on, look_applied, loses_named, make_applied, not_none, snap_applied}
use Rattle.fv_aggregate.proofs.SnapApplied.{snap_aimed_at}
use Rattle.fv_aggregate.proofs.Unmade.{unmade_named}
use Rattle.fv_aggregate.proofs.session.Session.carry.Goals as goal

pub look_at-requires-clause-asked : goal.look_at-requires-clause-asked
look_at-requires-clause-asked g c = asked_at c.args.self.now.volumes c.args.aim.slot c.requires.aimed.name c.args.command.now c.requires.aimed.within c.requires.aimed.near c.requires.aimed.named.named (suits_as _ _ _ _ _ c.in-Look.is c.requires.aimed)

pub change_at-requires-clause-aimed : goal.change_at-requires-clause-aimed
change_at-requires-clause-aimed g c = aimed_at c.args.self.now.volumes c.args.aim.slot c.requires.aimed.name c.args.command.now c.requires.aimed.within c.requires.aimed.named.named (suits_as _ _ _ _ _ c.in-Change.is c.requires.aimed)

pub snap_at-requires-clause-aimed : goal.snap_at-requires-clause-aimed
snap_at-requires-clause-aimed g c = snap_aimed_at c.args.self.now.volumes c.args.aim.slot c.requires.aimed.name c.args.command.now c.requires.aimed.within c.requires.aimed.named (suits_as _ _ _ _ _ c.in-Snap.is c.requires.aimed)

pub returns-in-Look : goal.returns-in-Look
returns-in-Look g c =
    let s = c.args.self.now in let slot = c.args.aim.slot in let command = c.args.command.now in let aimed = c.requires.aimed in
    let did = c.look_at.ensures in
    look_applied command aimed.name (suits_as _ _ _ _ _ c.in-Look.is aimed) (g.D.Disk.shown c.args.disk.now) c.args.disk.now s c.args.steps.now (g.D.Disk.shown c.look_at.new.disk) c.look_at.new.disk c.look_at.new.self c.look_at.new.steps (answer c.look_at.new.into c.look_at.result)
    c.requires.fresh (subst (λ (k : ℕ). Looks k (g.D.Disk.shown c.args.disk.now) s command (g.D.Disk.shown c.look_at.new.disk) c.look_at.new.self (answer c.look_at.new.into c.look_at.result)) (sym (slot_there s.volumes slot aimed.name aimed.named aimed.within)) did.looks) (record {
      range = λ far. absurd (true≢false (sym aimed.near ∙ far));
      missing = λ near none. not_none _ s.volumes slot aimed.name aimed.within aimed.named none;
      lost = λ near lacks. of_lacking s.volumes slot aimed.name command aimed.named lacks _ (did.lost near);
      only = λ said. lacking s.volumes slot aimed.name command aimed.within aimed.named (did.only said);
      other = did.steps;
      known = did.known;
      counts = subst (λ (k : ℕ). IsTrue (g.D.Disk.shown c.args.disk.now).tells → (last m : Machine) → StandsFor (g.D.Disk.shown c.args.disk.now) s last m → IfOk (answer c.look_at.new.into c.look_at.result) (λ reply. IfSome (state_at s.volumes k) (λ x. CountsPath (g.D.Disk.shown c.args.disk.now) s.pool x c.args.steps.now c.look_at.new.steps reply command)))
          (sym (slot_there s.volumes slot aimed.name aimed.named aimed.within)) did.counts;
      kept = did.kept;
      finds = λ finds near. knows_on s.volumes aimed.name slot c.look_at.new.self.volumes aimed.named (answer c.look_at.new.into c.look_at.result) (did.finds finds);
    })

pub returns-in-Change : goal.returns-in-Change
returns-in-Change g c =
    let s = c.args.self.now in let slot = c.args.aim.slot in let command = c.args.command.now in let aimed = c.requires.aimed in
    let did = c.change_at.ensures in
    let change : changed_by command ≡ Some aimed.name = suits_as _ _ _ _ _ c.in-Change.is aimed in
    make_applied command aimed.name change (g.D.Disk.shown c.args.disk.now) c.args.disk.now s (g.D.Disk.shown c.change_at.new.disk) c.change_at.new.disk c.change_at.new.self c.args.steps.now (answer c.change_at.new.into c.change_at.result)
    c.requires.fresh (subst (λ (k : ℕ). Makes file_room (AsksTable k None false) (g.D.Disk.shown c.args.disk.now) s command (g.D.Disk.shown c.change_at.new.disk) c.change_at.new.self (answer c.change_at.new.into c.change_at.result)) (sym (slot_there s.volumes slot aimed.name aimed.named aimed.within)) did.makes) did.roomy
    (λ low. unmade_named (g.D.Disk.shown c.args.disk.now) s slot aimed.name (g.D.Disk.shown c.change_at.new.disk) c.change_at.new.self aimed.within aimed.named (answer c.change_at.new.into c.change_at.result) (did.unmade low))
    (record {
      range = λ far. absurd (true≢false (sym aimed.near ∙ far));
      missing = λ near none. not_none _ s.volumes slot aimed.name aimed.within aimed.named none;
      kept = λ alive. loses_named command aimed.name (change_of_volume aimed.name command change) s.volumes slot aimed.named.named c.change_at.new.self.volumes (did.kept alive);
      finds = λ finds near. knows_on s.volumes aimed.name slot c.change_at.new.self.volumes aimed.named (answer c.change_at.new.into c.change_at.result) (did.finds finds);
    })

pub returns-in-Snap : goal.returns-in-Snap
returns-in-Snap g c =
    let aimed = c.requires.aimed in
    snap_applied c.args.command.now aimed.name (suits_as _ _ _ _ _ c.in-Snap.is aimed) g.D.Disk.shown c.args.disk.now c.args.self.now c.snap_at.new.disk c.snap_at.new.self c.args.steps.now (answer c.snap_at.new.into c.snap_at.result)
    c.requires.fresh c.snap_at.ensures.snapped (λ none. not_none _ c.args.self.now.volumes c.args.aim.slot aimed.name aimed.within aimed.named none) c.snap_at.ensures.needs c.snap_at.ensures.roomy
