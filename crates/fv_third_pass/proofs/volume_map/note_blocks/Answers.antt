use Rattle.std.proofs.Common.{rules, get_or, subst, arith}
use Rattle.std.specs.Prelude.{IsTrue}
use Rattle.fv_disk.specs.Shown.{Image}
use Rattle.fv_image.specs.Views.{map_vvbn}
use Rattle.fv_faults.specs.Adding.{Adds}
use Rattle.fv_third_pass.specs.Maps.{block_lines, reach_to}
use Rattle.fv_third_pass.proofs.Noting.{range_first, range_next}
use Rattle.fv_third_pass.proofs.volume_map.note_blocks.Given as given
use Rattle.fv_third_pass.proofs.volume_map.note_blocks.Goals as goal

told : (g : given.Over) (c : goal.In_ok-note_map_block g) → IsTrue (g.D.Disk.shown c.args.disk.now).tells → IsTrue (g.D.Disk.shown c.loop-k.disk).tells
told g c tells = rw c.loop-k.invariant.only_reads.stays.tells tells

pub loop-k-init : goal.loop-k-init
unfolding reach_to
loop-k-init g c = record {
  adds = λ tells.
      range_first (λ k. block_lines (g.D.Disk.shown c.args.disk.now).reads (get_or c.args.row.now (map_vvbn c.args.map.span c.args.map.slot k) 0) c.args.reach.now k) 0 c.args.lines.now;
  only_reads = search rules;
  faults = search rules;
}

pub loop-k-preserved : goal.loop-k-preserved
unfolding reach_to
loop-k-preserved g c = record {
  adds = λ tells.
      range_next (λ k. block_lines (g.D.Disk.shown c.args.disk.now).reads (get_or c.args.row.now (map_vvbn c.args.map.span c.args.map.slot k) 0) c.args.reach.now k) 0 c.loop-k.k c.loop-k.k
      c.args.lines.now c.loop-k.lines c.note_map_block.new.lines (omega arith) (c.loop-k.invariant.adds tells)
      (subst (λ (i : Image). Adds (block_lines i (get_or c.args.row.now (map_vvbn c.args.map.span c.args.map.slot c.loop-k.k) 0) c.args.reach.now c.loop-k.k) c.loop-k.lines c.note_map_block.new.lines)
      c.loop-k.invariant.only_reads.stays.reads
      (subst (λ word. Adds (block_lines (g.D.Disk.shown c.loop-k.disk).reads word c.args.reach.now c.loop-k.k) c.loop-k.lines c.note_map_block.new.lines) c.block_word.ensures
      (c.in_ok-note_map_block.ensures.adds (told g c tells))));
  only_reads = search rules;
  faults = search rules;
}
