use Rattle.fv_copies.specs.Copying.{IsUndamaged}
use Rattle.fv_mirror.proofs.Made.{can_put_over, enough_by, fits_new, inside_of, inside_slots, is_there, is_used, leaves_put, made_by, new_empty, passed_up, used_of, wide_of}
use Rattle.fv_mirror.proofs.making.make.Goals as goal

pub volume_in-state-requires-clause-slot : goal.volume_in-state-requires-clause-slot
volume_in-state-requires-clause-slot g c = inside_slots c.args.volumes.now c.args.pool.now c.args.name.now c.args.size c.args.kind c.args.admitted c.requires.admitted c.requires.each

pub volume_in-state-requires-clause-there : goal.volume_in-state-requires-clause-there
volume_in-state-requires-clause-there g c = is_there c.args.volumes.now c.args.pool.now c.args.name.now c.args.size c.args.kind c.args.admitted c.requires.admitted c.requires.each

pub map_in-map-requires-clause-slot : goal.map_in-map-requires-clause-slot
map_in-map-requires-clause-slot g c = inside_of c.args.volumes.now c.args.pool.now c.args.name.now c.args.size c.args.kind c.args.admitted c.requires.admitted c.requires.each

pub map_in-map-requires-clause-used : goal.map_in-map-requires-clause-used
map_in-map-requires-clause-used g c = is_used c.args.volumes.now c.args.pool.now c.args.name.now c.args.size c.args.kind c.args.admitted c.requires.admitted c.requires.each c.volume_in-state.result.now c.volume_in-state.ensures

pub mirror_of-requires-clause-base : goal.mirror_of-requires-clause-base
mirror_of-requires-clause-base g c = inside_of c.args.volumes.now c.args.pool.now c.args.name.now c.args.size c.args.kind c.args.admitted c.requires.admitted c.requires.each

pub mirror_of-requires-clause-used : goal.mirror_of-requires-clause-used
mirror_of-requires-clause-used g c = used_of c.args.volumes.now c.args.pool.now c.args.name.now c.args.size c.args.kind c.args.admitted c.requires.admitted c.requires.each c.volume_in-state.result.now c.volume_in-state.ensures

pub mirror_of-requires-clause-span : goal.mirror_of-requires-clause-span
mirror_of-requires-clause-span g c = wide_of c.args.volumes.now c.args.pool.now c.args.name.now c.args.size c.args.kind c.args.admitted c.requires.admitted c.requires.each c.volume_in-state.result.now c.volume_in-state.ensures

pub copy_into-requires-clause-within : goal.copy_into-requires-clause-within
copy_into-requires-clause-within g c = fits_new c.args.volumes.now c.args.pool.now c.args.name.now c.args.size c.args.kind c.args.admitted c.requires.admitted c.requires.each c.volume_in-state.result.now c.volume_in-state.ensures
    c.map_in-map.result.now c.map_in-map.ensures.bits (g.D.Disk.shown c.args.disk.now) c.map_in-map.ensures.whole c.in_ok-landing.landing.container c.entry_count.result c.entry_count.ensures.value c.in_ok-landing.ensures.container

pub copy_into-requires-clause-empty : goal.copy_into-requires-clause-empty
copy_into-requires-clause-empty g c = new_empty c.in_ok-landing.landing.container c.entry_count.result c.in_ok-landing.ensures.container

pub put_with-requires-clause-can : goal.put_with-requires-clause-can
put_with-requires-clause-can g c = can_put_over c.args.volumes.now c.args.pool.now c.args.name.now c.args.size c.args.kind c.args.admitted c.requires.admitted c.requires.each c.volume_in-state.result.now c.volume_in-state.ensures
    c.copy_into.new.pool c.copy_into.ensures.leaves.found c.in_ok-mirror.mirror c.in_ok-mirror.ensures

pub returns-clause-leaves : goal.returns-clause-leaves
returns-clause-leaves g c = leaves_put (g.D.Disk.shown c.args.disk.now) c.args.pool.now (g.D.Disk.shown c.copy_into.new.disk) c.copy_into.new.pool c.put_with.new.pool c.in_ok-mirror.mirror.slot c.into_container.result _
    c.copy_into.ensures.leaves c.put_with.ensures.holds

pub returns-clause-mirrored : goal.returns-clause-mirrored
returns-clause-mirrored g c = made_by c.args.volumes.now c.args.pool.now c.args.name.now c.args.size c.args.kind c.args.admitted c.requires.admitted c.requires.each c.volume_in-state.result.now c.volume_in-state.ensures
    c.map_in-map.result.now c.map_in-map.ensures.bits (g.D.Disk.shown c.args.disk.now) c.in_ok-mirror.mirror c.in_ok-mirror.ensures (g.D.Disk.shown c.copy_into.new.disk) c.copy_into.new.pool c.in_ok-landing.landing c.copy_into.new.landing
    c.entry_count.result c.entry_count.ensures.value c.in_ok-landing.ensures.container c.in_ok-landing.ensures.marks c.in_ok-copy_into.ensures.lands c.copy_into.ensures.leaves c.in_ok-copy_into.ensures.copied
    c.into_container.result c.into_container.ensures c.put_with.new.self c.put_with.ensures.row c.put_with.new.pool c.put_with.ensures.holds c.put_with.ensures.container

pub returns-in_err-copy_into-clause-enough : goal.returns-in_err-copy_into-clause-enough
returns-in_err-copy_into-clause-enough g c can = passed_up c.from_residual-in_err-copy_into.result c.in_err-copy_into.field-0.0 IsUndamaged c.from_residual-in_err-copy_into.ensures.1
    (enough_by c.args.volumes.now c.args.pool.now c.args.name.now c.args.size c.args.kind c.args.admitted c.requires.admitted c.requires.each c.volume_in-state.result.now c.volume_in-state.ensures
    c.map_in-map.result.now c.map_in-map.ensures.bits (g.D.Disk.shown c.args.disk.now) can (IsUndamaged c.in_err-copy_into.field-0.0) c.in_err-copy_into.ensures.enough)
