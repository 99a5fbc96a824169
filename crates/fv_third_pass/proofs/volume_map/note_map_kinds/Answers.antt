use Rattle.std.proofs.Common.{◌+◌, ℕ, get_or, subst, arith}
use Rattle.fv_faults.specs.Adding.{Adds}
use Rattle.fv_first_pass.specs.Records.{free}
use Rattle.fv_third_pass.specs.Maps.{kinds_if}
use Rattle.fv_third_pass.proofs.MapKinds.{kinds_none, kinds_more, kinds_added}
use Rattle.fv_third_pass.proofs.volume_map.note_map_kinds.Goals as goal

pub loop-j-init : goal.loop-j-init
loop-j-init c = record {
  adds = kinds_none c.args.row.now c.args.at c.args.label.now.span c.args.label.now.snapshots c.args.lines.now c.note_kinds.new.lines c.in_ok-note_kinds.ensures;
}

pub loop-j-preserved : goal.loop-j-preserved
loop-j-preserved c = record {
  adds = kinds_more c.args.row.now c.args.at c.args.label.now.span c.args.label.now.snapshots c.loop-j.j c.args.lines.now c.loop-j.lines c.note_snapshot_kinds.new.lines
      (let long = c.requires in let low = c.loop-j-test.true in omega (arith, long, low)) c.loop-j.invariant.adds
      (subst (λ (n : ℕ). Adds (kinds_if c.args.row.now c.args.at c.args.label.now.span (c.loop-j.j + 1) (get_or c.args.label.now.snapshots n free)) c.loop-j.lines c.note_snapshot_kinds.new.lines)
      c.from.ensures c.in_ok-note_snapshot_kinds.ensures);
}

pub returns : goal.returns
returns c = λ i w s words.
    kinds_added i w s c.args.row.now c.args.at c.args.label.now words c.loop-j.j c.args.lines.now c.loop-j.lines (let long = c.requires in let past = c.loop-j-test.false in omega (arith, long, past)) c.loop-j.invariant.adds
