use Rattle.std.proofs.Common.{◌≡◌, ◌+◌, None, sym, subst, arith}
use Rattle.fv_container.specs.Chains.{paged_at}
use Rattle.fv_volume.specs.Loading.{LoadedTo, ReadTo}
use Rattle.fv_volume.specs.States.{States}
use Rattle.fv_volumes.proofs.Stepping.{loaded_more, no_parent_yet, read_more}
use Rattle.fv_volumes.proofs.load.load_next.Goals as goal

pub load_volume-requires-clause-parent : goal.load_volume-requires-clause-parent
load_volume-requires-clause-parent g c = no_parent_yet c.args.slot c.args.states.now.items c.args.containers.now c.requires.read

pub returns-clause-read : goal.returns-clause-read
returns-clause-read g c =
    let did = c.in_ok-state.ensures in
    subst (λ (xs : States). ReadTo (c.args.slot + 1) xs c.load_volume.new.containers) (sym c.in_ok-add.ensures.added)
    (read_more c.args.slot c.args.states.now.items c.args.containers.now c.in_ok-state.state c.load_volume.new.containers c.requires.read did.leaves did.filled)

pub returns-clause-loaded : goal.returns-clause-loaded
returns-clause-loaded g c = λ tells was.
    let did = c.in_ok-state.ensures in
    let i = (g.D.Disk.shown c.args.disk.now).reads in
    let empty : paged_at c.args.containers.now c.args.slot ≡ None = c.requires.read.free c.args.slot (omega arith) in
    subst (λ (xs : States). LoadedTo i c.args.found.now (c.args.slot + 1) xs c.load_volume.new.containers) (sym c.in_ok-add.ensures.added)
    (loaded_more i c.args.found.now c.args.slot c.args.states.now.items c.args.containers.now c.in_ok-state.state c.load_volume.new.containers c.requires.read was did.leaves.others (did.loaded tells empty))
