use Rattle.std.proofs.Common.{arith}
use Rattle.fv_inode.specs.Files.{with_info}
use Rattle.fv_files.specs.Altering.{AltersPlaces}
use Rattle.fv_files.specs.Calls.{longer, Changes}
use Rattle.fv_files.proofs.Looked.{handed_on}
use Rattle.fv_files.proofs.Steps.{put_failed, put_done, put_led, put_led_alone, put_pending, put_table_done, put_table_failed, Restates}
use Rattle.fv_files.proofs.Wrote.{restates_as, rewrites_as, written_table}
use Rattle.fv_files.proofs.write.write_ready.Given as given
use Rattle.fv_files.proofs.write.write_ready.Goals as goal

pub returns-in_err-put_kept-clause-changes : goal.returns-in_err-put_kept-clause-changes
returns-in_err-put_kept-clause-changes g c =
    handed_on (Changes _ _ _ _ _ _ _) _ c.from_residual.result c.from_residual.ensures.1 (put_failed _ _ _ _ _ _ _ _ _ _ _ c.in_err-put_kept.ensures.puts)

pub returns-clause-written : goal.returns-clause-written
returns-clause-written g c = λ told.
    let puts = c.in_ok-put_kept.ensures.puts in
    let f = c.args.files.now in
    let info = c.args.info.now in
    written_table (g.B.Blocks.shown c.args.blocks.now) (g.B.Blocks.shown c.put_kept.new.blocks) f c.put_kept.new.trees c.rewrite.new.self info c.args.stamp puts.tree puts.next puts.becomes (c.requires.prepared.there told) c.args.index c.args.block.now puts.untouched.held
    (rewrites_as f.inode c.rewrite.new.self c.args.stamp c.longer.result (longer info c.args.index) c.longer.ensures.is c.rewrite.ensures.rewrites) (puts.written told)

-- the record that the file gets
restated : (g : given.Over) (c : goal.After-rewrite g) → Restates c.args.files.now c.rewrite.new.self c.args.info.now.number c.args.stamp (with_info (longer c.args.info.now c.args.index))
restated g c = restates_as c.args.files.now c.rewrite.new.self c.args.stamp c.longer.result (longer c.args.info.now c.args.index) c.longer.ensures.is c.rewrite.ensures.rewrites c.rewrite.ensures.alters c.rewrite.ensures.marked

pub returns-clause-changes : goal.returns-clause-changes
returns-clause-changes g c =
    put_done g.B.Blocks.told (Unit {0}) (g.B.Blocks.shown c.args.blocks.now) (g.B.Blocks.shown c.put_kept.new.blocks) c.args.files.now c.put_kept.new.trees c.args.info.now.number c.args.index c.args.stamp c.args.block.now
    c.rewrite.new.self (with_info (longer c.args.info.now c.args.index)) tt c.in_ok-put_kept.ensures.puts (restated g c)

pub returns-in_err-put_kept-clause-led : goal.returns-in_err-put_kept-clause-led
returns-in_err-put_kept-clause-led g c =
    put_led_alone g.B.Blocks.told (Unit {0}) (g.B.Blocks.shown c.args.blocks.now) (g.B.Blocks.shown c.put_kept.new.blocks) c.args.files.now c.put_kept.new.trees c.args.info.now.number c.args.index c.args.stamp c.args.block.now _ c.in_err-put_kept.ensures.puts

pub returns-clause-led : goal.returns-clause-led
returns-clause-led g c =
    put_led g.B.Blocks.told (Unit {0}) (g.B.Blocks.shown c.args.blocks.now) (g.B.Blocks.shown c.put_kept.new.blocks) c.args.files.now c.put_kept.new.trees c.args.info.now.number c.args.index c.args.stamp c.args.block.now _ c.in_ok-put_kept.ensures.puts
    c.rewrite.new.self (with_info (longer c.args.info.now c.args.index)) (restated g c)

pub returns-in_err-put_kept-clause-pending : goal.returns-in_err-put_kept-clause-pending
returns-in_err-put_kept-clause-pending g c =
    let most = put_pending g.B.Blocks.told (Unit {0}) (g.B.Blocks.shown c.args.blocks.now) (g.B.Blocks.shown c.put_kept.new.blocks) c.args.files.now c.put_kept.new.trees c.args.info.now.number c.args.index c.args.stamp c.args.block.now _ c.in_err-put_kept.ensures.puts in
    omega (arith, most)

pub returns-clause-pending : goal.returns-clause-pending
returns-clause-pending g c =
    let most = put_pending g.B.Blocks.told (Unit {0}) (g.B.Blocks.shown c.args.blocks.now) (g.B.Blocks.shown c.put_kept.new.blocks) c.args.files.now c.put_kept.new.trees c.args.info.now.number c.args.index c.args.stamp c.args.block.now _ c.in_ok-put_kept.ensures.puts in
    omega (arith, most, c.rewrite.ensures.rises.pending)

pub returns-in_err-put_kept-clause-alters : goal.returns-in_err-put_kept-clause-alters
returns-in_err-put_kept-clause-alters g c =
    handed_on (AltersPlaces _ _ _ _ _ _ _) _ c.from_residual.result c.from_residual.ensures.1 (put_table_failed _ _ _ _ _ _ _ _ _ _ _ c.in_err-put_kept.ensures.puts)

pub returns-clause-alters : goal.returns-clause-alters
returns-clause-alters g c =
    put_table_done g.B.Blocks.told (Unit {0}) (g.B.Blocks.shown c.args.blocks.now) (g.B.Blocks.shown c.put_kept.new.blocks) c.args.files.now c.put_kept.new.trees c.args.info.now.number c.args.index c.args.stamp c.args.block.now
    c.rewrite.new.self (with_info (longer c.args.info.now c.args.index)) tt c.in_ok-put_kept.ensures.puts (restated g c)
