use Rattle.std.proofs.Common.{arith, Err, Ok}
use Rattle.std.proofs.lemmas.Result.{err_from_is_err_and}
use Rattle.fv_tree.specs.Sources.{WasFree}
use Rattle.fv_tree.proofs.Anew.{free_later, free_sooner}
use Rattle.fv_files.proofs.Laid.{lays_then, places_then, stores_then}
use Rattle.fv_files.proofs.Unplaced.{keeps_then}
use Rattle.fv_files.proofs.flush.flush_trees.Goals as goal

pub loop-preserved : goal.loop-preserved
loop-preserved g c =
    let was = c.loop.invariant in
    let now = c.in_ok-flush_first.ensures in record {
      lays = lays_then g.B.Blocks.told (g.B.Blocks.shown c.args.blocks.now) (g.B.Blocks.shown c.loop.blocks) (g.B.Blocks.shown c.flush_first.new.blocks) c.args.files.now c.loop.files c.flush_first.new.files tt (Ok tt) was.lays now.lays;
      places = places_then g.B.Blocks.told (WasFree g.B.Blocks.shown g.B.Blocks.goes c.args.blocks.now c.loop.blocks) (WasFree g.B.Blocks.shown g.B.Blocks.goes c.loop.blocks c.flush_first.new.blocks) (WasFree g.B.Blocks.shown g.B.Blocks.goes c.args.blocks.now c.flush_first.new.blocks)
          (free_sooner g.B.Blocks.shown g.B.Blocks.goes g.met.B.Blocks.goes_on c.args.blocks.now c.loop.blocks c.flush_first.new.blocks c.in_ok-flush_first.ensures.calls) (free_later g.B.Blocks.shown g.B.Blocks.goes g.met.B.Blocks.goes_on c.args.blocks.now c.loop.blocks c.flush_first.new.blocks c.loop.invariant.calls)
          (g.B.Blocks.shown c.args.blocks.now) (g.B.Blocks.shown c.loop.blocks) (g.B.Blocks.shown c.flush_first.new.blocks) c.args.files.now c.loop.files c.flush_first.new.files tt c.loop.invariant.lays c.loop.invariant.places c.in_ok-flush_first.ensures.places;
      keeps = keeps_then g.B.Blocks.told (WasFree g.B.Blocks.shown g.B.Blocks.goes c.args.blocks.now c.loop.blocks) (WasFree g.B.Blocks.shown g.B.Blocks.goes c.loop.blocks c.flush_first.new.blocks) (λ v. g.B.Blocks.keeps v c.args.blocks.now c.loop.blocks)
          (λ v. g.B.Blocks.keeps v c.loop.blocks c.flush_first.new.blocks) (λ v. g.B.Blocks.keeps v c.args.blocks.now c.flush_first.new.blocks) (λ v. g.met.B.Blocks.keeps_on v c.args.blocks.now c.loop.blocks c.flush_first.new.blocks)
          (g.B.Blocks.shown c.args.blocks.now) (g.B.Blocks.shown c.loop.blocks) (g.B.Blocks.shown c.flush_first.new.blocks) c.args.files.now c.loop.files c.flush_first.new.files tt (Ok tt) was.lays now.lays was.places now.places was.keeps now.keeps;
      stored_well = λ told known all. stores_then g.B.Blocks.told (g.B.Blocks.shown c.args.blocks.now) (g.B.Blocks.shown c.loop.blocks) (g.B.Blocks.shown c.flush_first.new.blocks) c.args.files.now c.loop.files c.flush_first.new.files tt known was.lays told
          (was.places.laid told) (was.stored_well told known all) (now.stored_well told known all);
      count = omega (arith, now.fewer, was.count);
      calls = g.met.B.Blocks.goes_on c.args.blocks.now c.loop.blocks c.flush_first.new.blocks was.calls now.calls;
    }

pub returns-in_err-flush_first-clause-lays : goal.returns-in_err-flush_first-clause-lays
returns-in_err-flush_first-clause-lays g c =
    let e = c.in_err-flush_first.field-0.0 in
    let p = err_from_is_err_and c.from_residual.result c.from_residual.ensures.1 in
    rw (p.1, p.2) (lays_then g.B.Blocks.told (g.B.Blocks.shown c.args.blocks.now) (g.B.Blocks.shown c.loop.blocks) (g.B.Blocks.shown c.flush_first.new.blocks) c.args.files.now c.loop.files c.flush_first.new.files tt (Err e) c.loop.invariant.lays
    c.in_err-flush_first.ensures.lays)

pub returns-in_err-flush_first-clause-stored_well : goal.returns-in_err-flush_first-clause-stored_well
returns-in_err-flush_first-clause-stored_well g c = λ told known all.
    stores_then g.B.Blocks.told (g.B.Blocks.shown c.args.blocks.now) (g.B.Blocks.shown c.loop.blocks) (g.B.Blocks.shown c.flush_first.new.blocks) c.args.files.now c.loop.files c.flush_first.new.files tt known c.loop.invariant.lays told
    (c.loop.invariant.places.laid told) (c.loop.invariant.stored_well told known all) (c.in_err-flush_first.ensures.stored_well told known all)

pub returns-in_err-flush_first-clause-places : goal.returns-in_err-flush_first-clause-places
returns-in_err-flush_first-clause-places g c =
    places_then g.B.Blocks.told (WasFree g.B.Blocks.shown g.B.Blocks.goes c.args.blocks.now c.loop.blocks) (WasFree g.B.Blocks.shown g.B.Blocks.goes c.loop.blocks c.flush_first.new.blocks) (WasFree g.B.Blocks.shown g.B.Blocks.goes c.args.blocks.now c.flush_first.new.blocks)
    (free_sooner g.B.Blocks.shown g.B.Blocks.goes g.met.B.Blocks.goes_on c.args.blocks.now c.loop.blocks c.flush_first.new.blocks c.in_err-flush_first.ensures.calls) (free_later g.B.Blocks.shown g.B.Blocks.goes g.met.B.Blocks.goes_on c.args.blocks.now c.loop.blocks c.flush_first.new.blocks c.loop.invariant.calls)
    (g.B.Blocks.shown c.args.blocks.now) (g.B.Blocks.shown c.loop.blocks) (g.B.Blocks.shown c.flush_first.new.blocks) c.args.files.now c.loop.files c.flush_first.new.files tt c.loop.invariant.lays c.loop.invariant.places c.in_err-flush_first.ensures.places

pub returns-in_err-flush_first-clause-keeps : goal.returns-in_err-flush_first-clause-keeps
returns-in_err-flush_first-clause-keeps g c =
    let e = c.in_err-flush_first.field-0.0 in
    keeps_then g.B.Blocks.told (WasFree g.B.Blocks.shown g.B.Blocks.goes c.args.blocks.now c.loop.blocks) (WasFree g.B.Blocks.shown g.B.Blocks.goes c.loop.blocks c.flush_first.new.blocks) (λ v. g.B.Blocks.keeps v c.args.blocks.now c.loop.blocks)
    (λ v. g.B.Blocks.keeps v c.loop.blocks c.flush_first.new.blocks) (λ v. g.B.Blocks.keeps v c.args.blocks.now c.flush_first.new.blocks) (λ v. g.met.B.Blocks.keeps_on v c.args.blocks.now c.loop.blocks c.flush_first.new.blocks)
    (g.B.Blocks.shown c.args.blocks.now) (g.B.Blocks.shown c.loop.blocks) (g.B.Blocks.shown c.flush_first.new.blocks) c.args.files.now c.loop.files c.flush_first.new.files tt (Err e) c.loop.invariant.lays
    c.in_err-flush_first.ensures.lays c.loop.invariant.places c.in_err-flush_first.ensures.places c.loop.invariant.keeps c.in_err-flush_first.ensures.keeps
