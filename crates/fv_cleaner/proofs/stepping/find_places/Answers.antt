use Rattle.std.proofs.Common.{◌≡◌, ◌<◌, ◌≤◌, ◌+◌, ℕ, List, length, length-set, take, get_or, Err, Result, refl, sym, subst, ◌∙◌, rules, arith}
use Rattle.std.specs.Prelude.{All, IfErr, slice_set}
use Rattle.fv_container.specs.Chains.{TellsEntries}
use Rattle.fv_disk.specs.declared.fault.BlockFault.{BlockFault}
use Rattle.fv_disk.proofs.Resting.{reads_then}
use Rattle.fv_volume.specs.declared.state.Snap.{Snap}
use Rattle.fv_cleaner.specs.Searching.{IsUndamaged, lies_in}
use Rattle.fv_cleaner.specs.Stepping.{IsPlaceOf}
use Rattle.fv_cleaner.proofs.Lying.{leaves_then, tells_on}
use Rattle.fv_cleaner.proofs.Rooted.{places_active, places_end, places_more, slot_within}
use Rattle.fv_cleaner.proofs.RootsWalked.{item_leads, item_place}
use Rattle.fv_cleaner.proofs.stepping.find_places.Goals as goal

pub loop-snap-init : goal.loop-snap-init
loop-snap-init g c = record {
  long = refl;
  active = c.in_ok-active.ensures.place;
  snapshots = λ k d low. absurd (omega (arith, low));
  leaves = c.place_of.ensures.leaves;
  stands = c.place_of.ensures.stands;
  only_reads = c.place_of.ensures.only_reads;
  calm = c.in_ok-active.ensures.cause;
}

pub bounds-places-at : goal.bounds-places-at
bounds-places-at g c =
    let x = c.args.state.now in
    let index = c.loop-snap.snap-index in
    let item = c.snap-item.result in
    let is : item ≡ get_or x.snapshots index item = search rules in
    let within : index < length x.snapshots = search rules in
    let low : item.slot < 25 = subst (λ (q : Snap). q.slot < 25) (sym is) (slot_within x c.requires.slots index item within).1 in
    omega (arith, low, c.loop-snap.invariant.long)

pub returns-in_err-place-clause-undamaged : goal.returns-in_err-place-clause-undamaged
returns-in_err-place-clause-undamaged g c = λ tells lead.
    let was = c.loop-snap.invariant in
    let x = c.args.state.now in
    let item = c.snap-item.result in
    let is : item ≡ get_or x.snapshots c.loop-snap.snap-index item = search rules in
    let within : c.loop-snap.snap-index < length x.snapshots = search rules in
    let fault = c.in_err-place.ensures.undamaged (tells_on x.map c.args.pool.now c.loop-snap.pool (g.D.Disk.shown c.args.disk.now) (g.D.Disk.shown c.loop-snap.disk) c.args.home.now.slot was.leaves was.only_reads tells)
    (item_leads x (g.D.Disk.shown c.args.disk.now) (g.D.Disk.shown c.loop-snap.disk) c.args.pool.now c.loop-snap.pool c.args.home.now.slot was.leaves was.only_reads c.loop-snap.snap-index item is within lead) in
    let failed : c.from_residual-in_err-place.result ≡ Err c.in_err-place.field-0.0 = search rules in
    subst (λ (r : Result (List ℕ) BlockFault). IfErr r IsUndamaged) (sym failed) fault

pub loop-snap-preserved : goal.loop-snap-preserved
loop-snap-preserved g c =
    let was = c.loop-snap.invariant in
    let x = c.args.state.now in
    let item = c.snap-item.result in
    let is : item ≡ get_or x.snapshots c.loop-snap.snap-index item = search rules in
    let within : c.loop-snap.snap-index < length x.snapshots = search rules in
    let told = TellsEntries (g.D.Disk.shown c.args.disk.now) c.args.pool.now.containers in
    let at = lies_in x.map c.args.pool.now c.args.home.now.slot (g.D.Disk.shown c.args.disk.now).reads in
    let place = c.in_ok-place.place in
    let places = c.loop-snap.places in
    let here = item_place x (g.D.Disk.shown c.args.disk.now) (g.D.Disk.shown c.loop-snap.disk) c.args.pool.now c.loop-snap.pool c.args.home.now.slot was.leaves was.only_reads c.loop-snap.snap-index item is within place c.in_ok-place.ensures.place in
    record {
      long = length-set places item.slot place ∙ was.long;
      active = subst (λ (q : Snap). IsPlaceOf told at x.active.root (get_or (slice_set places q.slot place) 0 0)) (sym is) (places_active told at x c.requires.slots c.loop-snap.snap-index item within places place was.long was.active);
      snapshots = subst (λ (r : Snap). All (λ (q : Snap). IsPlaceOf told at q.table.root (get_or (slice_set places r.slot place) q.slot 0)) (take (c.loop-snap.snap-index + 1) x.snapshots)) (sym is)
          (places_more told at x c.requires.slots c.loop-snap.snap-index item within places place was.long was.snapshots (subst (λ (q : Snap). IsPlaceOf told at q.table.root place) is here));
      leaves = leaves_then c.args.pool.now c.loop-snap.pool c.place_of-in-loop-snap.new.pool was.leaves c.place_of-in-loop-snap.ensures.leaves;
      stands = c.place_of-in-loop-snap.ensures.stands;
      only_reads = reads_then (g.D.Disk.shown c.args.disk.now) (g.D.Disk.shown c.loop-snap.disk) (g.D.Disk.shown c.place_of-in-loop-snap.new.disk) was.only_reads c.place_of-in-loop-snap.ensures.only_reads;
      calm = c.in_ok-place.ensures.cause ∙ was.calm;
    }

pub returns-clause-places : goal.returns-clause-places
returns-clause-places g c =
    let disk = g.D.Disk.shown c.args.disk.now in
    let was = c.loop-snap.invariant in
    let x = c.args.state.now in
    let past : length x.snapshots ≤ c.loop-snap.snap-index = search rules in
    places_end (TellsEntries disk c.args.pool.now.containers) (lies_in x.map c.args.pool.now c.args.home.now.slot disk.reads) x c.loop-snap.snap-index c.loop-snap.places past was.active was.snapshots
