use Rattle.std.proofs.Common.{sym}
use Rattle.fv_clone.proofs.Made.{cloned_by, inside_of, used_of}
use Rattle.fv_clone.proofs.creating.make.Goals as goal

pub clone_of-requires-clause-base : goal.clone_of-requires-clause-base
clone_of-requires-clause-base c = inside_of c.args.volumes.now c.args.pool.now c.args.name.now c.args.size c.args.kind c.args.admitted c.requires.admitted c.requires.each c.in-Some.parent.now (sym c.in-Some.ensures)

pub clone_of-requires-clause-used : goal.clone_of-requires-clause-used
clone_of-requires-clause-used c = used_of c.args.volumes.now c.args.pool.now c.args.name.now c.args.size c.args.kind c.args.admitted c.requires.admitted c.requires.each c.in-Some.parent.now (sym c.in-Some.ensures)

pub returns-clause-cloned : goal.returns-clause-cloned
returns-clause-cloned c = cloned_by c.args.volumes.now c.args.pool.now c.args.name.now c.args.size c.args.kind c.args.admitted c.requires.admitted c.requires.each c.in-Some.parent.now (sym c.in-Some.ensures)
    c.in_ok-state.state c.in_ok-state.ensures c.put.new.self c.put.result c.put.ensures.row c.put.new.pool c.put.ensures.holes c.put.ensures.container c.put.ensures.parent
