use Rattle.std.proofs.Common.{◌≡◌, ◌∙◌, Some, None, Result, Err, rules, sym, ap, subst}
use Rattle.std.specs.Prelude.{IfErr, IsTrue, false, replicate}
use Rattle.fv_disk.specs.declared.fault.BlockFault.{BlockFault}
use Rattle.fv_aggregate.specs.declared.fault.OpenFault.{OpenFault}
use Rattle.fv_aggregate.specs.declared.session.Session.{Session}
use Rattle.fv_aggregate.specs.Causes.{IsOpenFault, of_block}
use Rattle.fv_model.specs.Machines.{Machine}
use Rattle.fv_root.specs.Formatted.{IsSize}
use Rattle.fv_volmap.specs.Slots.{IsVolume, stored_count}
use Rattle.fv_aggregate.proofs.Opened.{counted_each, fits_opened, found_tells, load_fault, ready_each}
use Rattle.fv_disk.specs.Shown.{Image}
use Rattle.fv_root.specs.declared.find.Found.{Found}
use Rattle.fv_container.specs.Chains.{slot_count}
use Rattle.fv_image.specs.Held.{layout_at, view_at}
use Rattle.fv_image.specs.WholeMachine.{Tells, machine_of}
use Rattle.fv_root.specs.Finding.{IsFound, root_found}
use Rattle.fv_aggmap.specs.Space.{Space}
use Rattle.fv_aggmap.specs.Loading.{IsLoaded}
use Rattle.fv_pool.specs.Opening.{IsAsFound}
use Rattle.fv_volume.specs.Loading.{IsLoadFault, LoadedTo}
use Rattle.fv_volume.specs.States.{view_over}
use Rattle.fv_volume.specs.Trees.{machine_in, no_trees}
use Rattle.fv_volume.specs.Files.{AreStates}
use Rattle.fv_aggregate.proofs.Asking.{asked_opened}
use Rattle.fv_aggregate.proofs.Ready.{ready_set}
use Rattle.fv_aggregate.proofs.opening.load.Goals as goal

pub invariant_of-result : goal.invariant_of-result
invariant_of-result g c = (
  λ fresh.
      let was = c.in_ok-pool.ensures in
      let e = c.in_ok-volumes.ensures in
      fits_opened c.in_ok-found.found c.in_ok-pool.pool c.open-2.new.pool c.in_ok-volumes.volumes c.in_ok-found.ensures.range was.size was.found was.version was.empty e.states e.map e.kept e.found e.version,
  λ fresh. c.commits-commits.ensures.exact,
  λ fresh.
      let e = c.in_ok-volumes.ensures in
      ready_set (g.D.Disk.shown c.open-2.new.disk) c.open-2.new.pool c.in_ok-volumes.volumes
      (ready_each (g.D.Disk.shown c.open-2.new.disk) c.open-2.new.pool c.in_ok-volumes.volumes e.states.each (e.ready (subst (λ (f : Found). IsSize f.blocks) (sym c.in_ok-pool.ensures.found) c.in_ok-found.ensures.range.size))),
)

pub returns-clause-loaded : goal.returns-clause-loaded
returns-clause-loaded g c = λ tells.
    let i = (g.D.Disk.shown c.args.disk.now).reads in
    let j = (g.D.Disk.shown c.open.new.disk).reads in
    let first = c.find_root.ensures.only_reads.stays in
    let second = c.open.ensures.only_reads.stays in
    let told : IsTrue (g.D.Disk.shown c.find_root.new.disk).tells = subst IsTrue (sym first.tells) tells in
    let still = subst IsTrue (sym second.tells) told in
    let same : j ≡ i = second.reads ∙ first.reads in
    let pool = c.open-2.new.pool in
    let was : c.in_ok-pool.pool.found ≡ c.in_ok-found.found = c.in_ok-pool.ensures.found in
    let now : pool.found ≡ c.in_ok-pool.pool.found = c.open-2.ensures.found in
    let map : IsLoaded i c.in_ok-found.found c.in_ok-pool.pool.map = subst (λ (k : Image). IsLoaded k c.in_ok-found.found c.in_ok-pool.pool.map) first.reads (c.in_ok-pool.ensures.map told) in
    let fresh : IsAsFound c.in_ok-pool.pool = record { kept = c.in_ok-pool.ensures.empty; version = c.in_ok-pool.ensures.version ∙ sym (ap (λ (f : Found). f.root.version) c.in_ok-pool.ensures.found) } in
    let volumes = c.in_ok-volumes.volumes in
    let e = c.in_ok-volumes.ensures in
    record {
      found = subst (IsFound i) (sym (now ∙ was)) (c.in_ok-found.ensures.finds tells);
      map = subst (λ (m : Space). IsLoaded i pool.found m) (sym e.map) (subst (λ (f : Found). IsLoaded i f c.in_ok-pool.pool.map) (sym (now ∙ was)) map);
      few = e.states.few;
      slots = subst (λ (f : Found). LoadedTo i f slot_count volumes pool.containers) (sym now) (subst (λ (k : Image). LoadedTo k c.in_ok-pool.pool.found slot_count volumes pool.containers) same (e.loaded still));
      view = ap (λ (k : Image). view_over pool volumes k) (sym same) ∙ e.view still fresh ∙ (λ t. view_at (root_found (sym now t)) (same t));
      machine = λ m is. ap (λ (k : Image). machine_in pool volumes no_trees k) (sym same) ∙ e.machine still fresh m (subst (λ (k : Image). Tells (layout_at (root_found c.in_ok-pool.pool.found) k) m) (sym same) (subst (λ (f : Found). Tells (layout_at (root_found f) i) m) now is));
      states = λ m is. subst (λ (k : Image). AreStates (view_over pool volumes k) no_trees volumes) same (e.whole still fresh m (subst (λ (k : Image). Tells (layout_at (root_found c.in_ok-pool.pool.found) k) m) (sym same) (subst (λ (f : Found). Tells (layout_at (root_found f) i) m) now is)));
    }

pub returns-clause-each : goal.returns-clause-each
returns-clause-each g c =
    let i = (g.D.Disk.shown c.args.disk.now).reads in
    let j = (g.D.Disk.shown c.open.new.disk).reads in
    let first = c.find_root.ensures.only_reads.stays in
    let second = c.open.ensures.only_reads.stays in
    let third = c.in_ok-volumes.ensures.only_reads.stays in
    let same : j ≡ i = second.reads ∙ first.reads in
    let was = c.in_ok-pool.ensures in
    let fresh : IsAsFound c.in_ok-pool.pool = record { kept = c.in_ok-pool.ensures.empty; version = c.in_ok-pool.ensures.version ∙ sym (ap (λ (f : Found). f.root.version) c.in_ok-pool.ensures.found) } in
    let e = c.in_ok-volumes.ensures in
    let pool = c.open-2.new.pool in
    let states = c.in_ok-volumes.volumes in
    let disk = g.D.Disk.shown c.open-2.new.disk in
    let told : IsTrue disk.tells → IsTrue (g.D.Disk.shown c.open.new.disk).tells = λ tells. subst IsTrue third.tells tells in
    let still : IsTrue disk.tells → IsTrue (g.D.Disk.shown c.find_root.new.disk).tells = λ tells. subst IsTrue second.tells (told tells) in
    let firstly : IsTrue disk.tells → IsTrue (g.D.Disk.shown c.args.disk.now).tells = λ tells. subst IsTrue first.tells (still tells) in
    let means : (m : Machine) → IsTrue disk.tells → machine_of i ≡ Some m → Tells (layout_at (root_found c.in_ok-pool.pool.found) j) m = λ m tells machine.
    subst (λ (k : Image). Tells (layout_at (root_found c.in_ok-pool.pool.found) k) m) (sym same)
    (subst (λ (f : Found). Tells (layout_at (root_found f) i) m) (sym was.found) (found_tells i c.in_ok-found.found m (c.in_ok-found.ensures.finds (firstly tells)) machine)) in
    let map : IsTrue disk.tells → IsLoaded j c.in_ok-pool.pool.found c.in_ok-pool.pool.map = λ tells.
    subst (λ (f : Found). IsLoaded j f c.in_ok-pool.pool.map) (sym was.found) (subst (λ (k : Image). IsLoaded k c.in_ok-found.found c.in_ok-pool.pool.map) (sym second.reads) (was.map (still tells))) in
    record {
      fit = fits_opened c.in_ok-found.found c.in_ok-pool.pool pool states c.in_ok-found.ensures.range was.size was.found was.version was.empty e.states e.map e.kept e.found e.version;
      ready = ready_each disk pool states e.states.each (e.ready (subst (λ (f : Found). IsSize f.blocks) (sym was.found) c.in_ok-found.ensures.range.size));
      none = counted_each (λ x. x.files ≡ None) (λ x is. is.none) states e.states.counted;
      waiting = counted_each (λ x. x.fresh ≡ replicate stored_count false) (λ x is. is.fresh) states e.states.counted;
      maps = counted_each (λ x. IsVolume x.map) (λ x is. is.valid) states e.states.counted;
      knows = e.bases;
      standing = λ m tells machine. e.standing (told tells) fresh (map tells) m (means m tells machine);
      led = λ m tells machine. e.led (told tells) fresh m (means m tells machine);
      well = λ m tells machine. e.well (told tells) fresh m (means m tells machine);
    }

pub returns-clause-asked : goal.returns-clause-asked
returns-clause-asked g c = λ tells.
    asked_opened c.open-2.new.pool c.in_ok-volumes.volumes (g.D.Disk.shown c.args.disk.now).reads c.in_ok-volumes.ensures.states.long
    (counted_each (λ x. x.fresh ≡ replicate stored_count false) (λ x is. is.fresh) c.in_ok-volumes.volumes c.in_ok-volumes.ensures.states.counted) (returns-clause-loaded g c tells).view

pub returns-in_err-volumes-clause-fault : goal.returns-in_err-volumes-clause-fault
returns-in_err-volumes-clause-fault g c = λ tells.
    let i = (g.D.Disk.shown c.args.disk.now).reads in
    let first = c.find_root.ensures.only_reads.stays in
    let second = c.open.ensures.only_reads.stays in
    let told = subst IsTrue (sym (second.tells ∙ first.tells)) tells in
    let e : BlockFault = c.in_err-volumes.field-0.0 in
    let fault : IsLoadFault i c.in_ok-found.found e = subst (λ (j : Image). IsLoadFault j c.in_ok-found.found e) (second.reads ∙ first.reads)
    (subst (λ (f : Found). IsLoadFault (g.D.Disk.shown c.open.new.disk).reads f e) c.in_ok-pool.ensures.found (c.in_err-volumes.ensures.fault told)) in
    let failed : c.from_residual-in_err-volumes.result ≡ Err (of_block e) = search rules in
    subst (λ (r : Result Session OpenFault). IfErr r (IsOpenFault i)) (sym failed) (load_fault i c.in_ok-found.found (c.in_ok-found.ensures.finds tells) e fault)
