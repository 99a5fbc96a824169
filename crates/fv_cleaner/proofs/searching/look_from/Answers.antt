use Rattle.std.proofs.Common.{◌≡◌, Option, Some, Err, Result, sym, subst, rules, arith}
use Rattle.std.specs.Prelude.{IfErr}
use Rattle.fv_disk.specs.declared.fault.BlockFault.{BlockFault}
use Rattle.fv_places.specs.ByKind.{form_of, pointers_by}
use Rattle.fv_places.specs.Firsts.{IsFirst}
use Rattle.fv_cleaner.specs.declared.searching.Found.{Found}
use Rattle.fv_cleaner.specs.Searching.{CanFollow, IsUndamaged, lies_in}
use Rattle.fv_cleaner.proofs.Lying.{same_lies, tells_on}
use Rattle.fv_cleaner.proofs.Undamaged.{first_leads, leads_as}
use Rattle.fv_cleaner.proofs.Searched.{clear_past, few_pointers, fits_behind}
use Rattle.fv_cleaner.proofs.searching.look_from.Goals as goal

pub overflow_add-from : goal.overflow_add-from
overflow_add-from g c =
    let few = few_pointers (form_of c.args.found.now.entry.kind) c.args.block.now in
    let is : c.in-Ok-Some.field-0 ≡ Some c.in-Ok-Some.first = search rules in
    let low = fits_behind (pointers_by (form_of c.args.found.now.entry.kind) c.args.block.now) c.loop.from c.in-Ok-Some.field-0 c.in-Ok-Some.first is c.in-Ok-Some.ensures.exact few in omega (arith, low)

pub returns-clause-looks : goal.returns-clause-looks
returns-clause-looks g c = λ tells.
    let few = few_pointers (form_of c.args.found.now.entry.kind) c.args.block.now in
    clear_past _ (pointers_by (form_of c.args.found.now.entry.kind) c.args.block.now) c.args.start c.loop.from (c.loop.invariant.clear tells) (omega (arith, few, c.loop.invariant.past, c.loop-test.false))

pub returns-in_err-next-clause-undamaged : goal.returns-in_err-next-clause-undamaged
returns-in_err-next-clause-undamaged g c = λ tells follow shaped lead.
    let disk = g.D.Disk.shown c.args.disk.now in
    let now = g.D.Disk.shown c.loop.disk in
    let was = c.loop.invariant in
    let slot = c.args.home.now.slot in
    let same = same_lies c.args.map.now c.args.pool.now c.loop.pool disk now slot was.leaves was.only_reads in
    let told = tells_on c.args.map.now c.args.pool.now c.loop.pool disk now slot was.leaves was.only_reads tells in
    let kind = c.args.found.now.entry.kind in
    let ps = pointers_by (form_of kind) c.args.block.now in
    let is : c.in-Ok-Some.field-0 ≡ Some c.in-Ok-Some.first = search rules in
    let first = subst (IsFirst ps c.loop.from) is c.in-Ok-Some.ensures.exact in
    let at = lies_in c.args.map.now c.args.pool.now slot disk.reads in
    let after = lies_in c.args.map.now c.loop.pool slot now.reads in
    let leads = first_leads at kind c.loop.from ps c.in-Ok-Some.first first lead in
    let fault = c.in_err-next.ensures.undamaged told (subst CanFollow (sym same) follow)
    (leads_as at after kind _ c.in-Ok-Some.first.1.vvbn was.most same leads) in
    let failed : c.from_residual.result ≡ Err c.in_err-next.field-0.0 = search rules in
    subst (λ (r : Result (Option Found) BlockFault). IfErr r IsUndamaged) (sym failed) fault
