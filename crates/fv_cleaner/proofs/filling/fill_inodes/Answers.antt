use Rattle.std.proofs.Common.{◌≡◌, List, Result, Err, length, rules, subst, sym, ◌∙◌}
use Rattle.std.specs.Prelude.{IfErr}
use Rattle.fv_codec.specs.declared.pointer.Pointer.{Pointer}
use Rattle.fv_disk.specs.declared.fault.BlockFault.{BlockFault}
use Rattle.fv_cleaner.specs.Filling.{FillsUpTo}
use Rattle.fv_cleaner.specs.Searching.{IsUndamaged, LeadBelow, lies_in}
use Rattle.fv_cleaner.proofs.Filled.{inodes_fill, inodes_range, places_as, roots_are, roots_by}
use Rattle.fv_cleaner.proofs.filling.fill_inodes.Goals as goal

pub returns-in_err-fill_each-clause-undamaged : goal.returns-in_err-fill_each-clause-undamaged
returns-in_err-fill_each-clause-undamaged g c = λ tells lead.
    let kind = c.args.entry.now.kind in
    let at = lies_in c.args.map.now c.args.pool.now c.args.home.now.slot (g.D.Disk.shown c.args.disk.now).reads in
    let same = roots_by kind c.args.block.now c.in-Ok.inodes c.requires.form (sym c.in-Ok.ensures.exact) ∙ sym c.roots_of-roots.ensures in
    let fault = c.in_err-fill_each.ensures.undamaged tells (subst (LeadBelow at kind) same lead) in
    let failed : c.from_residual.result ≡ Err c.in_err-fill_each.field-0.0 = search rules in
    subst (λ (r : Result Unit BlockFault). IfErr r IsUndamaged) (sym failed) fault

pub encode-requires : goal.encode-requires
encode-requires g c =
    let qs = c.fill_each.new.pointers in
    let fills = subst (λ (ps : List Pointer). FillsUpTo ps (length ps) qs) c.roots_of-roots.ensures c.in_ok-fill_each.ensures.fills in
    inodes_range c.in-Ok.inodes c.set_roots.new.files qs fills c.set_roots.ensures c.in-Ok.ensures.in_range

pub returns-clause-fills : goal.returns-clause-fills
returns-clause-fills g c =
    let qs = c.fill_each.new.pointers in
    let fills = subst (λ (ps : List Pointer). FillsUpTo ps (length ps) qs) c.roots_of-roots.ensures c.in_ok-fill_each.ensures.fills in
    inodes_fill c.args.entry.now.kind c.args.block.now c.encode.new.into c.in-Ok.inodes c.set_roots.new.files qs
    c.requires.form c.requires.shaped (sym c.in-Ok.ensures.exact) c.encode.ensures.reads_back fills c.set_roots.ensures

pub returns-clause-places : goal.returns-clause-places
returns-clause-places g c = λ tells.
    let kind = c.args.entry.now.kind in
    let at = lies_in c.args.map.now c.args.pool.now c.args.home.now.slot (g.D.Disk.shown c.args.disk.now).reads in
    let qs = c.fill_each.new.pointers in
    let fills = subst (λ (ps : List Pointer). FillsUpTo ps (length ps) qs) c.roots_of-roots.ensures c.in_ok-fill_each.ensures.fills in
    places_as at kind _ qs _ _
    (roots_by kind c.args.block.now c.in-Ok.inodes c.requires.form (sym c.in-Ok.ensures.exact) ∙ sym c.roots_of-roots.ensures)
    (roots_by kind c.encode.new.into _ c.requires.form c.encode.ensures.reads_back
    ∙ roots_are c.in-Ok.inodes.files c.set_roots.new.files qs fills c.set_roots.ensures)
    (c.in_ok-fill_each.ensures.places tells)
