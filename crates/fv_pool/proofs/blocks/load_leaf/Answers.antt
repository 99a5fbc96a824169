use Rattle.std.proofs.Common.{◌<◌, ◌*◌, Option, sym, subst}
use Rattle.std.specs.Prelude.{length}
use Rattle.fv_container.specs.Chains.{map_in}
use Rattle.fv_container.specs.Paged.{Paged}
use Rattle.fv_container.proofs.Changing.{maps_same}
use Rattle.fv_pool.specs.BlocksOver.{entries_in}
use Rattle.fv_pool.proofs.Setting.{leaf_here, leaf_hold_fault, leaf_kept}
use Rattle.fv_pool.proofs.blocks.load_leaf.Goals as goal

pub returns-in_default-clause-maps : goal.returns-in_default-clause-maps
returns-in_default-clause-maps g c = maps_same (g.D.Disk.shown c.args.disk.now) c.args.containers.now

pub load-requires-clause-within : goal.load-requires-clause-within
load-requires-clause-within g c = subst (λ (held : Option Paged). 256 * c.args.region < length (entries_in (map_in held))) (sym c.in-Some.ensures.container) c.requires.within

pub returns-clause-maps : goal.returns-clause-maps
returns-clause-maps g c =
    leaf_kept (g.D.Disk.shown c.args.disk.now) c.args.containers.now c.args.slot c.args.region c.in-Some.container.now c.load.new.self (sym c.in-Some.ensures.container) c.load.result c.load.ensures.loaded c.load.ensures.failed

pub returns-clause-here : goal.returns-clause-here
returns-clause-here g c =
    leaf_here (g.D.Disk.shown c.args.disk.now) c.args.containers.now c.args.slot c.args.region c.in-Some.container.now c.load.new.self (sym c.in-Some.ensures.container) c.load.result c.load.ensures.loaded

pub returns-clause-fault : goal.returns-clause-fault
returns-clause-fault g c =
    leaf_hold_fault (g.D.Disk.shown c.args.disk.now) c.args.containers.now c.args.slot c.args.region c.in-Some.container.now (sym c.in-Some.ensures.container)
    (subst (λ (held : Option Paged). 256 * c.args.region < length (entries_in (map_in held))) (sym c.in-Some.ensures.container) c.requires.within) c.load.result c.load.ensures.fault
