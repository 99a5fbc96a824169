use Rattle.std.proofs.Common.{◌≡◌, ◌<◌, false, length, get_or, Option, Err, Result, sym, subst, ◌∙◌, rules}
use Rattle.std.specs.Prelude.{IfErr, is_some}
use Rattle.fv_disk.specs.declared.fault.BlockFault.{BlockFault}
use Rattle.fv_disk.proofs.Resting.{reads_then}
use Rattle.fv_cleaner.specs.declared.searching.Found.{Found}
use Rattle.fv_cleaner.specs.Searching.{CanFollow, IsUndamaged}
use Rattle.fv_cleaner.proofs.Lying.{leaves_then, same_lies, tells_on}
use Rattle.fv_cleaner.proofs.RootsWalked.{item_clear, item_leads}
use Rattle.fv_cleaner.proofs.stepping.find_in.Goals as goal

pub returns-in_err-next-clause-undamaged : goal.returns-in_err-next-clause-undamaged
returns-in_err-next-clause-undamaged g c = λ tells follow lead.
    let was = c.loop-snap.invariant in
    let x = c.args.state.now in
    let item = c.snap-item.result in
    let is : item ≡ get_or x.snapshots c.loop-snap.snap-index item = search rules in
    let within : c.loop-snap.snap-index < length x.snapshots = search rules in
    let fault = c.in_err-next.ensures.undamaged (tells_on x.map c.args.pool.now c.loop-snap.pool (g.D.Disk.shown c.args.disk.now) (g.D.Disk.shown c.loop-snap.disk) c.args.home.now.slot was.leaves was.only_reads tells)
    (subst CanFollow (sym (same_lies x.map c.args.pool.now c.loop-snap.pool (g.D.Disk.shown c.args.disk.now) (g.D.Disk.shown c.loop-snap.disk) c.args.home.now.slot was.leaves was.only_reads)) follow) (item_leads x (g.D.Disk.shown c.args.disk.now) (g.D.Disk.shown c.loop-snap.disk) c.args.pool.now c.loop-snap.pool c.args.home.now.slot was.leaves was.only_reads c.loop-snap.snap-index item is within lead) in
    let failed : c.from_residual-in_err-next.result ≡ Err c.in_err-next.field-0.0 = search rules in
    subst (λ (r : Result (Option Found) BlockFault). IfErr r IsUndamaged) (sym failed) fault

pub loop-snap-preserved : goal.loop-snap-preserved
loop-snap-preserved g c =
    let was = c.loop-snap.invariant in
    let x = c.args.state.now in
    let item = c.snap-item.result in
    let is : item ≡ get_or x.snapshots c.loop-snap.snap-index item = search rules in
    let within : c.loop-snap.snap-index < length x.snapshots = search rules in
    let none : is_some c.in_ok-next.next ≡ false = search rules in
    record {
      active = was.active;
      clear = λ tells rest. was.clear tells (item_clear x (g.D.Disk.shown c.args.disk.now) (g.D.Disk.shown c.loop-snap.disk) c.args.pool.now c.loop-snap.pool c.args.home.now.slot was.leaves was.only_reads c.loop-snap.snap-index item is within
          c.find_from-in-loop-snap.new.into c.in_ok-next.next none c.in_ok-next.ensures.searches tells rest);
      leaves = leaves_then c.args.pool.now c.loop-snap.pool c.find_from-in-loop-snap.new.pool was.leaves c.find_from-in-loop-snap.ensures.leaves;
      stands = c.find_from-in-loop-snap.ensures.stands;
      only_reads = reads_then (g.D.Disk.shown c.args.disk.now) (g.D.Disk.shown c.loop-snap.disk) (g.D.Disk.shown c.find_from-in-loop-snap.new.disk) was.only_reads c.find_from-in-loop-snap.ensures.only_reads;
      calm = c.in_ok-next.ensures.cause ∙ was.calm;
    }
