use Rattle.std.proofs.Common.{◌≡◌, true, Bool, length, Option, Err, Result, inl, sym, ap, subst, rules, arith}
use Rattle.std.specs.Prelude.{IfErr, IfSome}
use Rattle.fv_container.specs.Chains.{TellsEntries, container_at}
use Rattle.fv_disk.specs.declared.fault.BlockFault.{BlockFault}
use Rattle.fv_disk.proofs.Resting.{reads_then}
use Rattle.fv_pool.specs.BlocksOver.{entries_in}
use Rattle.fv_volume.specs.declared.state.VolumeState.{VolumeState}
use Rattle.fv_cleaner.specs.declared.searching.Found.{Found}
use Rattle.fv_cleaner.specs.Searching.{IsFoundIn, IsUndamaged, lies_in}
use Rattle.fv_cleaner.specs.Stepping.{CleansVolume, PlacesRoots, SearchesRoots, roots_of}
use Rattle.fv_cleaner.proofs.Lying.{leaves_then}
use Rattle.fv_cleaner.proofs.Stepped.{cleaned, cleaned_roots, found_leads, if_ok, moves_undamaged, on_ok, roots_lead, roots_step, still_outside, still_unled, taken_low, tells_after}
use Rattle.fv_cleaner.proofs.Unled.{moves_outside, moves_unled}
use Rattle.fv_cleaner.proofs.stepping.clean_volume.Given as given
use Rattle.fv_cleaner.proofs.stepping.clean_volume.Goals as goal

pub move_block-requires-clause-within : goal.move_block-requires-clause-within
move_block-requires-clause-within g c =
    let pool = c.args.pool.now in
    let x = c.args.state.now in
    let held = c.find_in.new.pool in
    let leaves = c.find_in.ensures.leaves in
    let b = c.find_in.new.into in
    let f = c.in-Some.found in
    let found = subst (λ (o : Option Found). IfSome o (λ (n : Found). IsFoundIn x.map n b)) c.in-Some.is c.in_ok-found.ensures.found in
    let low = taken_low x.map f.vvbn c.known_maps.ensures found.taken in
    let same = leaves_then pool held c.fill_all.new.pool leaves c.fill_all.ensures.leaves in
    let long = ap (λ s. length (entries_in (container_at s x.slot))) same.containers in
    omega (arith, low, long, c.requires.ready.lent.entries)

-- the step that moved a block
moved : (g : given.Over) (c : goal.After-mark g) → CleansVolume (g.D.Disk.shown c.args.disk.now) c.args.pool.now c.args.state.now c.move_block.new.pool c.mark.new.self true
moved g c =
    let disk = g.D.Disk.shown c.args.disk.now in
    let pool = c.args.pool.now in
    let x = c.args.state.now in
    let mid = g.D.Disk.shown c.find_in.new.disk in
    let held = c.find_in.new.pool in
    let leaves = c.find_in.ensures.leaves in
    let reads = c.find_in.ensures.only_reads in
    let at = lies_in x.map pool x.slot disk.reads in
    let b = c.find_in.new.into in
    let f = c.in-Some.found in
    let searches = λ (tells : TellsEntries disk pool.containers). subst (SearchesRoots at (roots_of x) b) c.in-Some.is (c.in_ok-found.ensures.searches tells) in
    let found = subst (λ (o : Option Found). IfSome o (λ (n : Found). IsFoundIn x.map n b)) c.in-Some.is c.in_ok-found.ensures.found in
    let later = g.D.Disk.shown c.fill_all.new.disk in
    let left = c.move_block.new.pool in
    let block = cleaned disk mid pool held x leaves reads later c.fill_all.new.pool left f b c.fill_all.new.block c.fill_all.ensures.leaves c.fill_all.ensures.only_reads c.known_maps.ensures
    found searches c.in_ok-fill_all-in-Some.ensures.fills c.in_ok-fill_all-in-Some.ensures.places c.in_ok-move_block-in-Some.ensures.moved in
    subst (λ (y : VolumeState). CleansVolume disk pool x left y true) (sym c.mark.ensures) (inl block)

pub returns-in_ok-move_block-in-Some-clause-cleans : goal.returns-in_ok-move_block-in-Some-clause-cleans
returns-in_ok-move_block-in-Some-clause-cleans g c = moved g c

pub returns-in_ok-move_block-in-Some-clause-unled : goal.returns-in_ok-move_block-in-Some-clause-unled
returns-in_ok-move_block-in-Some-clause-unled g c = moves_unled (g.D.Disk.shown c.args.disk.now) c.args.pool.now c.args.state.now c.move_block.new.pool c.mark.new.self true (moved g c)

pub returns-in_ok-move_block-in-Some-clause-outside : goal.returns-in_ok-move_block-in-Some-clause-outside
returns-in_ok-move_block-in-Some-clause-outside g c = moves_outside (g.D.Disk.shown c.args.disk.now) c.args.pool.now c.args.state.now c.move_block.new.pool c.mark.new.self true (moved g c)

pub returns-in-None-clause-cleans : goal.returns-in-None-clause-cleans
returns-in-None-clause-cleans g c =
    let disk = g.D.Disk.shown c.args.disk.now in
    let pool = c.args.pool.now in
    let x = c.args.state.now in
    let mid = g.D.Disk.shown c.find_in.new.disk in
    let held = c.find_in.new.pool in
    let leaves = c.find_in.ensures.leaves in
    let reads = c.find_in.ensures.only_reads in
    let at = lies_in x.map pool x.slot disk.reads in
    let b = c.find_in.new.into in
    let searches = λ (tells : TellsEntries disk pool.containers). subst (SearchesRoots at (roots_of x) b) c.in-None.is (c.in_ok-found.ensures.searches tells) in
    if_ok (PlacesRoots (TellsEntries mid held.containers) (lies_in x.map held x.slot mid.reads) x c.place_roots.new.state) (CleansVolume disk pool x c.place_roots.new.pool c.place_roots.new.state) c.place_roots.result
    (λ some places. roots_step disk pool x c.place_roots.new.pool c.place_roots.new.state some
    (cleaned_roots disk mid pool held x leaves reads b c.place_roots.new.pool c.place_roots.new.state some searches c.place_roots.ensures.leaves places))
    c.place_roots.ensures.places

pub returns-in-None-clause-unled : goal.returns-in-None-clause-unled
returns-in-None-clause-unled g c =
    let disk = g.D.Disk.shown c.args.disk.now in
    let pool = c.args.pool.now in
    let x = c.args.state.now in
    let held = c.find_in.new.pool in
    let leaves = c.find_in.ensures.leaves in
    on_ok _ c.place_roots.result (still_unled disk pool x c.place_roots.new.pool (leaves_then pool held c.place_roots.new.pool leaves c.place_roots.ensures.leaves))

pub returns-in-None-clause-outside : goal.returns-in-None-clause-outside
returns-in-None-clause-outside g c =
    let disk = g.D.Disk.shown c.args.disk.now in
    let pool = c.args.pool.now in
    let x = c.args.state.now in
    let held = c.find_in.new.pool in
    let leaves = c.find_in.ensures.leaves in
    on_ok _ c.place_roots.result (still_outside disk pool x c.place_roots.new.pool (leaves_then pool held c.place_roots.new.pool leaves c.place_roots.ensures.leaves))

pub returns-in-None-clause-undamaged : goal.returns-in-None-clause-undamaged
returns-in-None-clause-undamaged g c = λ can.
    let disk = g.D.Disk.shown c.args.disk.now in
    let pool = c.args.pool.now in
    let x = c.args.state.now in
    let mid = g.D.Disk.shown c.find_in.new.disk in
    let held = c.find_in.new.pool in
    let leaves = c.find_in.ensures.leaves in
    let reads = c.find_in.ensures.only_reads in
    c.place_roots.ensures.undamaged (tells_after disk mid pool held x leaves reads can) (roots_lead disk mid pool held x leaves reads can)

pub returns-in_err-fill_all-in-Some-clause-undamaged : goal.returns-in_err-fill_all-in-Some-clause-undamaged
returns-in_err-fill_all-in-Some-clause-undamaged g c = λ can.
    let disk = g.D.Disk.shown c.args.disk.now in
    let pool = c.args.pool.now in
    let x = c.args.state.now in
    let mid = g.D.Disk.shown c.find_in.new.disk in
    let held = c.find_in.new.pool in
    let leaves = c.find_in.ensures.leaves in
    let reads = c.find_in.ensures.only_reads in
    let at = lies_in x.map pool x.slot disk.reads in
    let b = c.find_in.new.into in
    let f = c.in-Some.found in
    let searches = λ (tells : TellsEntries disk pool.containers). subst (SearchesRoots at (roots_of x) b) c.in-Some.is (c.in_ok-found.ensures.searches tells) in
    let fault = c.in_err-fill_all-in-Some.ensures.undamaged (tells_after disk mid pool held x leaves reads can) (found_leads disk mid pool held x leaves reads f b can searches) in
    let failed : c.from_residual-in_err-fill_all-in-Some.result ≡ Err c.in_err-fill_all-in-Some.field-0.0 = search rules in
    subst (λ (r : Result Bool BlockFault). IfErr r IsUndamaged) (sym failed) fault

pub returns-in_err-move_block-in-Some-clause-undamaged : goal.returns-in_err-move_block-in-Some-clause-undamaged
returns-in_err-move_block-in-Some-clause-undamaged g c = λ can.
    let disk = g.D.Disk.shown c.args.disk.now in
    let pool = c.args.pool.now in
    let x = c.args.state.now in
    let mid = g.D.Disk.shown c.find_in.new.disk in
    let held = c.find_in.new.pool in
    let leaves = c.find_in.ensures.leaves in
    let reads = c.find_in.ensures.only_reads in
    let later = g.D.Disk.shown c.fill_all.new.disk in
    let fault = moves_undamaged x.map x.slot disk later pool c.fill_all.new.pool (leaves_then pool held c.fill_all.new.pool leaves c.fill_all.ensures.leaves) (reads_then disk mid later reads c.fill_all.ensures.only_reads)
    _ c.in_err-move_block-in-Some.field-0.0 can.told can.free c.in_err-move_block-in-Some.ensures.fault in
    let failed : c.from_residual-in_err-move_block-in-Some.result ≡ Err c.in_err-move_block-in-Some.field-0.0 = search rules in
    subst (λ (r : Result Bool BlockFault). IfErr r IsUndamaged) (sym failed) fault
