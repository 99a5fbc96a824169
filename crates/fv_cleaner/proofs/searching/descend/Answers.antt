use Rattle.std.proofs.Common.{◌≡◌, Err, Result, refl, sym, subst, rules, arith}
use Rattle.std.specs.Prelude.{IfErr}
use Rattle.fv_disk.specs.declared.fault.BlockFault.{BlockFault}
use Rattle.fv_places.specs.ByKind.{form_of, pointers_by}
use Rattle.fv_cleaner.specs.declared.searching.Found.{Found}
use Rattle.fv_cleaner.specs.Searching.{CanFollow, IsUndamaged, LeadBelow, Lies, found_block}
use Rattle.fv_cleaner.proofs.Lying.{leaves_itself, only_itself, same_lies, tells_on}
use Rattle.fv_cleaner.proofs.searching.descend.Goals as goal

pub loop-init : goal.loop-init
loop-init g c = record {
  falls = omega (arith, c.requires.first.greatest);
  found = c.requires.first;
  unclear = λ tells unclear. unclear;
  leaves = leaves_itself c.args.pool.now;
  stands = c.requires.stands;
  only_reads = only_itself (g.D.Disk.shown c.args.disk.now);
  calm = refl;
}

pub returns-clause-next : goal.returns-clause-next
returns-clause-next g c = λ tells unclear. absurd (omega (arith, c.loop.invariant.falls, c.loop.invariant.found.least, c.loop-test.false))

-- what was found leads where the search goes on
pub returns-in_err-next-clause-undamaged : goal.returns-in_err-next-clause-undamaged
returns-in_err-next-clause-undamaged g c = λ tells follow unclear.
    let disk = g.D.Disk.shown c.args.disk.now in
    let now = g.D.Disk.shown c.loop.disk in
    let was = c.loop.invariant in
    let same = same_lies c.args.map.now c.args.pool.now c.loop.pool disk now c.args.home.now.slot was.leaves was.only_reads in
    let told = tells_on c.args.map.now c.args.pool.now c.loop.pool disk now c.args.home.now.slot was.leaves was.only_reads tells in
    let here = was.unclear tells unclear in
    let kind = c.loop.found.entry.kind in
    let fault = c.in_err-next.ensures.undamaged told (subst CanFollow (sym same) follow) was.found.shaped
    (subst (λ (a : Lies). LeadBelow a kind (pointers_by (form_of kind) c.loop.into)) (sym same) (follow.below c.loop.found.vvbn (found_block c.loop.found c.loop.into) here.there)) in
    let failed : c.from_residual.result ≡ Err c.in_err-next.field-0.0 = search rules in
    subst (λ (r : Result Found BlockFault). IfErr r IsUndamaged) (sym failed) fault
