use Rattle.std.proofs.Common.{rules, subst, arith}
use Rattle.std.specs.Prelude.{IsTrue, None}
use Rattle.fv_disk.specs.Shown.{Image}
use Rattle.fv_image.specs.Layout.{area_place}
use Rattle.fv_faults.specs.Adding.{Adds}
use Rattle.fv_third_pass.specs.Bits.{area_to, differing}
use Rattle.fv_third_pass.proofs.Noting.{range_first, range_next}
use Rattle.fv_third_pass.proofs.map.note_area.Given as given
use Rattle.fv_third_pass.proofs.map.note_area.Goals as goal

told : (g : given.Over) (c : goal.In_ok-note_map_block g) → IsTrue (g.D.Disk.shown c.args.disk.now).tells → IsTrue (g.D.Disk.shown c.loop-k.disk).tells
told g c tells = rw c.loop-k.invariant.only_reads.stays.tells tells

pub loop-k-init : goal.loop-k-init
unfolding area_to
loop-k-init g c = record {
  adds = λ tells. range_first (λ k. differing 8 None c.args.holders.now.held k ((g.D.Disk.shown c.args.disk.now).reads (area_place c.args.found.now.blocks c.args.found.now.slot k))) 0 c.args.lines.now;
  only_reads = search rules;
  faults = search rules;
}

pub loop-k-preserved : goal.loop-k-preserved
unfolding area_to
loop-k-preserved g c = record {
  adds = λ tells.
      range_next (λ k. differing 8 None c.args.holders.now.held k ((g.D.Disk.shown c.args.disk.now).reads (area_place c.args.found.now.blocks c.args.found.now.slot k))) 0 c.loop-k.k c.loop-k.k
      c.args.lines.now c.loop-k.lines c.note_map_block.new.lines (omega arith) (c.loop-k.invariant.adds tells)
      (subst (λ (i : Image). Adds (differing 8 None c.args.holders.now.held c.loop-k.k (i (area_place c.args.found.now.blocks c.args.found.now.slot c.loop-k.k))) c.loop-k.lines c.note_map_block.new.lines)
      c.loop-k.invariant.only_reads.stays.reads (c.in_ok-note_map_block.ensures.adds (told g c tells)));
  only_reads = search rules;
  faults = search rules;
}
