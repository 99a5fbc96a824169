use Rattle.std.proofs.Common.{Err, refl}
use Rattle.std.proofs.lemmas.Result.{err_from_is_err_and}
use Rattle.fv_tree.specs.Sources.{WasFree}
use Rattle.fv_tree.proofs.Anew.{free_later, free_sooner}
use Rattle.fv_files.proofs.Changed.{with_inode}
use Rattle.fv_files.proofs.Laid.{places_then}
use Rattle.fv_files.proofs.Flushed.{lays_failed}
use Rattle.fv_files.proofs.Unplaced.{inode_keeps, keeps_then, keeps_unused}
use Rattle.fv_files.proofs.Ended.{Places, last_lays, last_places, flush_done, flush_failed, flush_stores, flush_under}
use Rattle.fv_files.proofs.files.Files.flush.Goals as goal

pub returns-in_err-flush_trees-clause-flushes : goal.returns-in_err-flush_trees-clause-flushes
returns-in_err-flush_trees-clause-flushes g c =
    let old = g.B.Blocks.shown c.args.blocks.now in
    let new = g.B.Blocks.shown c.flush_trees.new.blocks in
    let e = c.in_err-flush_trees.field-0.0 in
    let p = err_from_is_err_and c.from_residual.result c.from_residual.ensures.1 in
    rw (p.1, p.2) (flush_failed g.B.Blocks.told old new c.args.self.now c.flush_trees.new.files e (lays_failed g.B.Blocks.told old new c.args.self.now c.flush_trees.new.files e c.in_err-flush_trees.ensures.lays))

pub returns : goal.returns
returns g c =
    let is = c.flush.ensures in
    let first = c.in_ok-flush_trees.ensures in
    let old = g.B.Blocks.shown c.args.blocks.now in
    let mid = g.B.Blocks.shown c.flush_trees.new.blocks in
    let new = g.B.Blocks.shown c.flush.new.blocks in
    let last : Places g.B.Blocks.told mid new c.flush_trees.new.files.inode c.flush.new.self c.flush.result = record { flushes = is.flushing.flushes; stored_well = is.stored_well; tells = λ told stands. is.tells told stands refl; strays = is.flushing.strays; left = is.flushing.left; fits = is.flushing.fits; enough = is.flushing.enough; nothing = is.pending; root = is.root; pointer = is.pointer; spelled = is.stored; reaches = is.reaches; counts = is.flushing.counts; cause = is.flushing.cause } in
    let done = flush_done g.B.Blocks.told old mid new c.args.self.now c.flush_trees.new.files c.flush.new.self c.flush.result first.lays first.none last in
    let ends = last_places g.B.Blocks.told mid new c.flush_trees.new.files c.flush.new.self c.flush.result last first.none (WasFree g.B.Blocks.shown g.B.Blocks.goes c.flush_trees.new.blocks c.flush.new.blocks) is.flushing.anew in
    record {
      flushes = done;
      places = places_then g.B.Blocks.told (WasFree g.B.Blocks.shown g.B.Blocks.goes c.args.blocks.now c.flush_trees.new.blocks) (WasFree g.B.Blocks.shown g.B.Blocks.goes c.flush_trees.new.blocks c.flush.new.blocks) (WasFree g.B.Blocks.shown g.B.Blocks.goes c.args.blocks.now c.flush.new.blocks)
          (free_sooner g.B.Blocks.shown g.B.Blocks.goes g.met.B.Blocks.goes_on c.args.blocks.now c.flush_trees.new.blocks c.flush.new.blocks is.flushing.calls) (free_later g.B.Blocks.shown g.B.Blocks.goes g.met.B.Blocks.goes_on c.args.blocks.now c.flush_trees.new.blocks c.flush.new.blocks first.calls)
          old mid new c.args.self.now c.flush_trees.new.files (with_inode c.flush_trees.new.files c.flush.new.self) tt first.lays first.places ends;
      keeps = keeps_unused g.B.Blocks.told (λ v. g.B.Blocks.keeps v c.args.blocks.now c.flush.new.blocks) old new c.args.self.now (with_inode c.flush_trees.new.files c.flush.new.self) c.flush.result done.lays
          (keeps_then g.B.Blocks.told (WasFree g.B.Blocks.shown g.B.Blocks.goes c.args.blocks.now c.flush_trees.new.blocks) (WasFree g.B.Blocks.shown g.B.Blocks.goes c.flush_trees.new.blocks c.flush.new.blocks)
          (λ v. g.B.Blocks.keeps v c.args.blocks.now c.flush_trees.new.blocks) (λ v. g.B.Blocks.keeps v c.flush_trees.new.blocks c.flush.new.blocks) (λ v. g.B.Blocks.keeps v c.args.blocks.now c.flush.new.blocks)
          (λ v. g.met.B.Blocks.keeps_on v c.args.blocks.now c.flush_trees.new.blocks c.flush.new.blocks) old mid new c.args.self.now c.flush_trees.new.files (with_inode c.flush_trees.new.files c.flush.new.self) tt c.flush.result first.lays
          (last_lays g.B.Blocks.told mid new c.flush_trees.new.files c.flush.new.self c.flush.result last first.none) first.places ends first.keeps
          (inode_keeps g.B.Blocks.told (λ v. g.B.Blocks.keeps v c.flush_trees.new.blocks c.flush.new.blocks) mid new c.flush_trees.new.files c.flush.new.self is.flushing.keeps));
      stored_well = λ told known all. flush_stores g.B.Blocks.told old mid new c.args.self.now c.flush_trees.new.files c.flush.new.self c.flush.result first.lays first.none last told (first.places.laid told) known (first.stored_well told known all) (λ one. is.flushing.places (all one));
      stored_under = λ told known all. flush_under g.B.Blocks.told old mid new c.args.self.now c.flush_trees.new.files c.flush.new.self c.flush.result first.lays first.none last told (first.places.laid told) known (first.stored_well told known all) (λ one. is.flushing.places (all one));
      calls = g.met.B.Blocks.goes_on c.args.blocks.now c.flush_trees.new.blocks c.flush.new.blocks first.calls is.flushing.calls;
    }

pub returns-in_err-flush_trees-clause-keeps : goal.returns-in_err-flush_trees-clause-keeps
returns-in_err-flush_trees-clause-keeps g c =
    keeps_unused g.B.Blocks.told (λ v. g.B.Blocks.keeps v c.args.blocks.now c.flush_trees.new.blocks) (g.B.Blocks.shown c.args.blocks.now) (g.B.Blocks.shown c.flush_trees.new.blocks) c.args.self.now c.flush_trees.new.files
    (Err c.in_err-flush_trees.field-0.0) c.in_err-flush_trees.ensures.lays c.in_err-flush_trees.ensures.keeps
