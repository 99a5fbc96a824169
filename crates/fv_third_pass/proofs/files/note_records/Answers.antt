use Rattle.std.proofs.Common.{arith}
use Rattle.fv_third_pass.specs.Files.{record_lines}
use Rattle.fv_third_pass.proofs.Noting.{each_next}
use Rattle.fv_third_pass.proofs.files.note_records.Goals as goal

pub loop-k-preserved : goal.loop-k-preserved
loop-k-preserved c = record {
  adds = each_next (record_lines c.args.block) c.args.records.now c.loop-k.k _ c.args.lines.now c.loop-k.lines c.note_record.new.lines
      (let low = c.loop-k-test.true in let end = c.loop-k.auto.k-end in omega (arith, low, end)) c.loop-k.invariant.adds c.in_ok-note_record.ensures;
}
