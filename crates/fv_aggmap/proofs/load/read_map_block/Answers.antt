use Rattle.std.proofs.Common.{◌∙◌, ap}
use Rattle.fv_aggmap.proofs.Areas.{read_more, read_past}
use Rattle.fv_aggmap.proofs.load.read_map_block.Goals as goal

pub returns-in-None-clause-read : goal.returns-in-None-clause-read
returns-in-None-clause-read g c = λ tells so_far.
    let i = (g.D.Disk.shown c.args.disk.now).reads in
    read_more i c.args.found.now c.args.into.now c.from_block.new.self c.args.k c.read.new.into c.requires.within (c.in_ok-read.ensures.gives tells ∙ ap i c.area_place-at.ensures) so_far c.in-None.ensures.taken

pub returns-in-Some-clause-fault : goal.returns-in-Some-clause-fault
returns-in-Some-clause-fault g c = λ tells so_far.
    let i = (g.D.Disk.shown c.args.disk.now).reads in
    rw (c.area_place-at.ensures, c.from.ensures, c.from-in-Some.ensures) (read_past i c.args.found.now c.args.into.now c.args.k c.in-Some.number c.read.new.into c.requires.within (c.in_ok-read.ensures.gives tells ∙ ap i c.area_place-at.ensures) so_far c.in-Some.ensures.past)
