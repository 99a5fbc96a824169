use Rattle.std.proofs.Common.{[], ap}
use Rattle.fv_aggmap.specs.Space.{Space}
use Rattle.fv_copies.proofs.Landed.{lacks_empty, landed_none, leaves_back}
use Rattle.fv_copies.proofs.Marking.{marked_none}
use Rattle.fv_copies.proofs.landing.copy_into.Goals as goal

pub copy_blocks-requires-clause-lacks : goal.copy_blocks-requires-clause-lacks
copy_blocks-requires-clause-lacks g c = λ v is. lacks_empty c.args.map.now c.args.landing.now.container c.requires.empty c.requires.within v is

pub returns-in-Err-clause-enough : goal.returns-in-Err-clause-enough
returns-in-Err-clause-enough g c = λ source whole room.
    c.in-Err.ensures.enough source whole [] (landed_none _ c.args.landing.now.container c.args.landing.now.marks c.args.pool.now _ c.requires.empty c.requires.marks source.tells.0) room

pub returns-in-Err-clause-map : goal.returns-in-Err-clause-map
returns-in-Err-clause-map g c = c.give_back.ensures c.args.pool.now.map (c.in-Err.ensures.goes.marked c.args.pool.now.map (marked_none c.args.pool.now.map c.args.landing.now.marks c.requires.marks))

pub returns-in-Err-clause-leaves : goal.returns-in-Err-clause-leaves
returns-in-Err-clause-leaves g c =
    leaves_back (Unit {0}) (g.D.Disk.shown c.args.disk.now) c.args.pool.now (g.D.Disk.shown c.copy_blocks.new.disk) c.copy_blocks.new.pool _ c.in-Err.ensures.leaves
    (ap (λ (s : Space). record c.copy_blocks.new.pool { map = s }) (c.give_back.ensures c.args.pool.now.map (c.in-Err.ensures.goes.marked c.args.pool.now.map (marked_none c.args.pool.now.map c.args.landing.now.marks c.requires.marks))))

pub returns-clause-copied : goal.returns-clause-copied
returns-clause-copied g c = λ source. c.in_default.ensures.copied source [] (landed_none _ c.args.landing.now.container c.args.landing.now.marks c.args.pool.now _ c.requires.empty c.requires.marks source.tells.0)
