use Rattle.std.proofs.Common.{◌≡◌, ℕ, length, refl, arith}
use Rattle.std.specs.Prelude.{IsTrue}
use Rattle.fv_volumes.proofs.Openings.{all_led, all_ready, all_standing, all_well}
use Rattle.fv_volumes.proofs.LoadedStates.{loaded_states}
use Rattle.fv_volumes.proofs.Viewed.{loaded_machine, viewed}
use Rattle.fv_pool.specs.Calls.{Reads}
use Rattle.fv_pool.specs.declared.pool.Pool.{Pool}
use Rattle.fv_pool.specs.Opening.{IsAsFound}
use Rattle.fv_volumes.proofs.volumes.Volumes.open.Goals as goal

pub returns : goal.returns
returns g c =
    let i = (g.D.Disk.shown c.args.disk.now).reads in
    let disk = g.D.Disk.shown c.args.disk.now in
    let laws = g.met.D.Disk.laws c.args.disk.now in
    let whole : IsTrue disk.tells → (b : ℕ) → length (disk.reads b) ≡ 4096 = λ tells b. (laws.blocks disk.moment disk.reads disk.given (laws.counts_now disk.moment disk.reads (omega arith) (laws.read_is_image tells)) b).long in
    let states = c.in_ok-states.states.items in
    let did = c.in_ok-states.ensures in
    let left : Pool = record c.args.pool.now { store = c.load_states.new.store; containers = c.load_states.new.containers } in
    let same : IsAsFound c.args.pool.now → IsAsFound left = λ as_found. record { kept = as_found.kept; version = as_found.version } in
    let reads : Reads disk left (g.D.Disk.shown c.load_states.new.disk) left = record { leaves = record { map = refl; containers = refl; kept = refl; found = refl; version = refl }; only_reads = did.only_reads; stands = did.stands } in
    record {
      loaded = did.loaded;
      states = did.kept;
      bases = did.bases;
      view = λ tells none. viewed left i states did.kept.long did.kept.few (did.loaded tells) (same none);
      machine = λ tells none m is. loaded_machine left i states did.kept (did.loaded tells) (same none) m is;
      whole = λ tells none m is. loaded_states disk left states did.kept (did.loaded tells) (same none) did.bases m is (whole tells);
      ready = λ size s. all_ready (g.D.Disk.shown c.load_states.new.disk) left states did.kept did.stands size s;
      led = λ tells none m is s. all_led disk (g.D.Disk.shown c.load_states.new.disk) left states reads did.kept tells (whole tells) (did.loaded tells) (same none) m is s;
      well = λ tells none m is s. all_well disk (g.D.Disk.shown c.load_states.new.disk) left states reads did.kept (whole tells) (did.loaded tells) (same none) m is s;
      standing = λ tells none map m is s. all_standing disk (g.D.Disk.shown c.load_states.new.disk) left states reads did.kept did.bases tells (whole tells) (did.loaded tells) (same none) map m is s;
      map = refl;
      kept = refl;
      found = refl;
      version = refl;
      failed = tt;
      fault = λ tells. tt;
      only_reads = did.only_reads;
      stands = did.stands;
      cause = did.cause;
    }
