use Rattle.std.proofs.Common.{sym, subst}
use Rattle.fv_places.specs.ByKind.{form_of, pointers_by}
use Rattle.fv_cleaner.specs.Searching.{CanFollow, LeadBelow, Lies}
use Rattle.fv_cleaner.proofs.Lying.{same_lies, tells_on}
use Rattle.fv_cleaner.proofs.searching.look_below.Goals as goal

-- the second look is over what the first one left
pub returns-clause-undamaged : goal.returns-clause-undamaged
returns-clause-undamaged g c = λ tells follow shaped lead.
    let disk = g.D.Disk.shown c.args.disk.now in
    let now = g.D.Disk.shown c.look_from.new.disk in
    let slot = c.args.home.now.slot in
    let leaves = c.look_from.ensures.leaves in
    let reads = c.look_from.ensures.only_reads in
    let same = same_lies c.args.map.now c.args.pool.now c.look_from.new.pool disk now slot leaves reads in
    let told = tells_on c.args.map.now c.args.pool.now c.look_from.new.pool disk now slot leaves reads tells in
    let kind = c.args.found.now.entry.kind in
    let ps = pointers_by (form_of kind) c.args.block.now in
    c.look_from-2.ensures.undamaged told (subst CanFollow (sym same) follow) shaped (subst (λ (a : Lies). LeadBelow a kind ps) (sym same) lead)
