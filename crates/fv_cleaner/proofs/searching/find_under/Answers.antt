use Rattle.std.proofs.Common.{◌≡◌, Option, Err, Result, sym, subst, rules}
use Rattle.std.specs.Prelude.{IfErr}
use Rattle.fv_disk.specs.declared.fault.BlockFault.{BlockFault}
use Rattle.fv_cleaner.specs.declared.searching.Found.{Found}
use Rattle.fv_cleaner.specs.Searching.{CanFollow, IsUnclear, IsUndamaged, Lies, Looks, found_block, lies_in}
use Rattle.fv_cleaner.proofs.Lying.{same_lies, tells_on}
use Rattle.fv_cleaner.proofs.searching.find_under.Goals as goal

pub returns-in_err-descend-in-Some-clause-undamaged : goal.returns-in_err-descend-in-Some-clause-undamaged
returns-in_err-descend-in-Some-clause-undamaged g c = λ tells follow leads.
    let disk = g.D.Disk.shown c.args.disk.now in
    let later = g.D.Disk.shown c.look.new.disk in
    let slot = c.args.home.now.slot in
    let same = same_lies c.args.map.now c.args.pool.now c.look.new.pool disk later slot c.look.ensures.leaves c.look.ensures.only_reads in
    let told = tells_on c.args.map.now c.args.pool.now c.look.new.pool disk later slot c.look.ensures.leaves c.look.ensures.only_reads tells in
    let found = c.in-Some.found in
    let unclear = subst (Looks (lies_in c.args.map.now c.args.pool.now slot disk.reads) c.args.vvbn c.look.new.into) c.in-Some.is (c.in_ok-found.ensures.looks tells) in
    let fault = c.in_err-descend-in-Some.ensures.undamaged told (subst CanFollow (sym same) follow)
    (subst (λ (a : Lies). IsUnclear a found.vvbn (found_block found c.look.new.into)) (sym same) unclear) in
    let failed : c.from_residual-in_err-descend-in-Some.result ≡ Err c.in_err-descend-in-Some.field-0.0 = search rules in
    subst (λ (r : Result (Option Found) BlockFault). IfErr r IsUndamaged) (sym failed) fault
