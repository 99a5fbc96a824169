use Rattle.std.proofs.Common.{◌<◌, arith}
use Rattle.fv_bits.specs.Bits.{block_bits}
use Rattle.fv_bits.proofs.Maps.{first_within, above_from}
use Rattle.fv_bits.proofs.map.first_past.Goals as goal

pub overflow_cast-result : goal.overflow_cast-result
overflow_cast-result c = omega (arith, first_within c.args.read.now _ c.in_ok-at.at c.in_ok-at.ensures.first)

pub overflow_add-result : goal.overflow_add-result
overflow_add-result c = omega (arith, first_within c.args.read.now _ c.in_ok-at.at c.in_ok-at.ensures.first)

pub returns-clause-first : goal.returns-clause-first
returns-clause-first c =
    let inside : c.in_ok-at.at < block_bits = omega (arith, first_within c.args.read.now _ c.in_ok-at.at c.in_ok-at.ensures.first) in
    above_from c.args.read.now c.args.index c.args.len c.in_ok-at.at c.requires inside c.in_ok-at.ensures.first
