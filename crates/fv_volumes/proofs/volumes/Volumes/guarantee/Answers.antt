use Rattle.std.proofs.Common.{refl, arith}
use Rattle.fv_model.specs.declared.commands.Command.TheVariants.{VolGuarantee}
use Rattle.fv_volume.proofs.Committed.{commits_most}
use Rattle.fv_volumes.proofs.PromisedOne.{found_promises, guarantee_missing}
use Rattle.fv_volumes.proofs.volumes.Volumes.guarantee.Goals as goal

pub returns-in-Some-clause-promises : goal.returns-in-Some-clause-promises
returns-in-Some-clause-promises c = found_promises c.args.self.now c.args.blocks (λ n. VolGuarantee n c.args.kind) (λ x. x.size) (λ x. c.args.kind) c.in-Some.slot c.in-Some.ensures.some.0
    c.args.name.now c.guarantee_at.new.self c.guarantee_at.result refl c.requires.each c.in-Some.ensures.some.1 c.guarantee_at.ensures.promises

pub returns-in-None-clause-promises : goal.returns-in-None-clause-promises
returns-in-None-clause-promises c = guarantee_missing c.args.self.now c.args.blocks c.args.name.now (λ x. x.size) (λ x. c.args.kind) c.args.kind c.in-None.ensures.none

pub guarantee_at-requires-clause-few : goal.guarantee_at-requires-clause-few
guarantee_at-requires-clause-few c =
    let most = commits_most c.args.self.now c.find.ensures.long c.requires.each c.requires.booked in
    let sum = c.requires.sum in
    omega (arith, sum, most)
