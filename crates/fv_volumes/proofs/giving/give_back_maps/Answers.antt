use Rattle.std.proofs.Common.{arith}
use Rattle.fv_delay.proofs.Reclaimed.{some_none, some_then}
use Rattle.fv_volume.specs.Writing.{has_maps_at}
use Rattle.fv_volumes.proofs.Drawing.{given_none, maps_given, maps_none}
use Rattle.fv_volumes.proofs.giving.give_back_maps.Goals as goal

pub loop-vvbn-init : goal.loop-vvbn-init
loop-vvbn-init c =
    let x = c.args.state.now in
    let old = c.args.container.now.map in
    record { past = omega arith; given = λ sure. given_none c.args.map.now (has_maps_at x old x.span) (maps_none x old); some = some_none c.args.map.now }

pub loop-vvbn-preserved : goal.loop-vvbn-preserved
loop-vvbn-preserved c =
    let was = c.loop-vvbn.invariant in
    let step = c.give_back_map.ensures in
    let at = c.loop-vvbn.vvbn in
    record {
      past = omega (arith, was.past);
      given = λ sure. maps_given c.args.state.now c.args.container.now.map at c.args.map.now c.loop-vvbn.map c.give_back_map.new.map (was.given sure) step.same (λ on. step.given (sure at on) on);
      some = some_then c.args.map.now c.loop-vvbn.map c.give_back_map.new.map was.some step.some;
    }
