use Rattle.std.proofs.Common.{◌*◌, ◌^◌, ap}
use Rattle.std.proofs.Math.Nat.{mod-add-mod}
use Rattle.fv_script.specs.Generated.{after, below}
use Rattle.fv_script.proofs.generate.draw.Goals as goal

pub returns-clause-state : goal.returns-clause-state
unfolding after
returns-clause-state c = mod-add-mod (c.args.state.now * 6364136223846793005) (2 ^ 64) 1442695040888963407

pub returns-clause-number : goal.returns-clause-number
unfolding after below
returns-clause-number c = ap (below c.args.most) (mod-add-mod (c.args.state.now * 6364136223846793005) (2 ^ 64) 1442695040888963407)
