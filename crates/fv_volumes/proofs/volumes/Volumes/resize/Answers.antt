use Rattle.std.proofs.Common.{◌≡◌, false, true, rules, arith}
use Rattle.fv_model.specs.declared.commands.Command.TheVariants.{VolResize}
use Rattle.fv_model.specs.Numbers.{is_size}
use Rattle.fv_volume.proofs.Committed.{commits_most}
use Rattle.fv_volumes.proofs.PromisedOne.{far_promises, found_promises, resize_missing}
use Rattle.fv_volumes.proofs.volumes.Volumes.resize.Goals as goal

pub returns-then-not-in_size-clause-promises : goal.returns-then-not-in_size-clause-promises
returns-then-not-in_size-clause-promises c =
    let far : is_size c.args.size ≡ false = search rules in
    far_promises c.args.self.now c.args.blocks c.args.name.now (λ x. c.args.size) (λ x. x.kind) c.args.size far

pub returns-in-Some-clause-promises : goal.returns-in-Some-clause-promises
returns-in-Some-clause-promises c =
    let near : is_size c.args.size ≡ true = search rules in
    found_promises c.args.self.now c.args.blocks (λ n. VolResize n c.args.size) (λ x. c.args.size) (λ x. x.kind) c.in-Some.slot c.in-Some.ensures.some.0
    c.args.name.now c.resize_at.new.self c.resize_at.result near c.requires.each c.in-Some.ensures.some.1 c.resize_at.ensures.promises

pub returns-in-None-clause-promises : goal.returns-in-None-clause-promises
returns-in-None-clause-promises c =
    let near : is_size c.args.size ≡ true = search rules in
    resize_missing c.args.self.now c.args.blocks c.args.name.now (λ x. c.args.size) (λ x. x.kind) c.args.size near c.in-None.ensures.none

pub resize_at-requires-clause-few : goal.resize_at-requires-clause-few
resize_at-requires-clause-few c =
    let most = commits_most c.args.self.now c.find.ensures.long c.requires.each c.requires.booked in
    let sum = c.requires.sum in
    omega (arith, sum, most)
