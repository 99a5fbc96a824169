use Rattle.std.proofs.Common.{◌≡◌, sym, ap, ◌∙◌, arith}
use Rattle.fv_places.specs.ByKind.{form_of, shape_in}
use Rattle.fv_pool.specs.Keeping.{seen}
use Rattle.fv_cleaner.specs.Searching.{placed_by}
use Rattle.fv_cleaner.proofs.Lying.{data_clear, read_lies, tells_on}
use Rattle.fv_cleaner.proofs.Undamaged.{no_bad_shape}
use Rattle.fv_cleaner.proofs.searching.look.Goals as goal

pub returns-then-entry-eq-DATA-clause-looks : goal.returns-then-entry-eq-DATA-clause-looks
returns-then-entry-eq-DATA-clause-looks g c = λ tells.
    let reads = (g.D.Disk.shown c.args.disk.now).reads in
    let e = c.in_ok-entry.entry in
    let one : c.in_ok-entry.entry.kind ≡ 1 = omega (arith, c.if-entry-eq-DATA.true) in
    data_clear _ c.args.vvbn e.pvbn e.kind (seen c.args.pool.now.kept reads e.pvbn) one (ap (placed_by c.args.pool.now.kept reads) (c.in_ok-entry.ensures.entry tells))

pub returns-in-Ok-false-clause-looks : goal.returns-in-Ok-false-clause-looks
returns-in-Ok-false-clause-looks g c = λ tells.
    let disk = g.D.Disk.shown c.args.disk.now in
    let later = g.D.Disk.shown c.find_held.new.disk in
    let slot = c.args.home.now.slot in
    let e = c.in_ok-entry.entry in
    let told = tells_on c.args.map.now c.args.pool.now c.find_held.new.pool disk later slot c.find_held.ensures.leaves c.find_held.ensures.only_reads tells in
    record {
      block = record { pvbn = e.pvbn; kind = e.kind; block = c.read.new.into };
      there = read_lies c.args.map.now c.args.pool.now c.find_held.new.pool disk later slot c.find_held.ensures.leaves c.find_held.ensures.only_reads c.args.vvbn e c.read.new.into (c.in_ok-entry.ensures.entry tells) (c.in_ok-read.ensures.block told.0);
      none = sym c.in-Ok-false.ensures.exact ∙ c.in-Ok-false.field-0-test;
    }

pub returns-in-Err-clause-undamaged : goal.returns-in-Err-clause-undamaged
returns-in-Err-clause-undamaged g c = λ tells follow leads.
    let disk = g.D.Disk.shown c.args.disk.now in
    let later = g.D.Disk.shown c.find_held.new.disk in
    let slot = c.args.home.now.slot in
    let e = c.in_ok-entry.entry in
    let told = tells_on c.args.map.now c.args.pool.now c.find_held.new.pool disk later slot c.find_held.ensures.leaves c.find_held.ensures.only_reads tells in
    let there = read_lies c.args.map.now c.args.pool.now c.find_held.new.pool disk later slot c.find_held.ensures.leaves c.find_held.ensures.only_reads c.args.vvbn e c.read.new.into
    (c.in_ok-entry.ensures.entry tells) (c.in_ok-read.ensures.block told.0) in
    absurd (no_bad_shape (shape_in (form_of e.kind) c.read.new.into) c.in-Err.shape (follow.shaped c.args.vvbn _ there) c.in-Err.ensures.shape)
