use Rattle.std.proofs.Common.{rules, ◌<◌, length, get_or, sym, subst, arith}
use Rattle.std.specs.Prelude.{IsTrue}
use Rattle.fv_disk.specs.Shown.{Image}
use Rattle.fv_laws.proofs.Lists.{in_map}
use Rattle.fv_third_pass.specs.Maps.{HasWords}
use Rattle.fv_third_pass.specs.Volumes.{IsReachIn, root_of}
use Rattle.fv_third_pass.proofs.MapsOfRoots.{maps_all, maps_first, maps_next}
use Rattle.fv_third_pass.proofs.OwnTables.{in_at}
use Rattle.fv_third_pass.proofs.reaching.note_root_maps.Given as given
use Rattle.fv_third_pass.proofs.reaching.note_root_maps.Goals as goal

told : (g : given.Over) (c : goal.In_ok-note_root_map g) → IsTrue (g.D.Disk.shown c.args.disk.now).tells → IsTrue (g.D.Disk.shown c.loop-k.disk).tells
told g c tells = rw c.loop-k.invariant.only_reads.stays.tells tells

pub loop-k-init : goal.loop-k-init
loop-k-init g c = record {
  adds = λ tells w s h of wide words reach. maps_first w s h of c.args.volume.now.roots.now c.args.lines.now;
  only_reads = search rules;
  faults = search rules;
}

pub loop-k-preserved : goal.loop-k-preserved
loop-k-preserved g c =
    let low : c.loop-k.k < length c.args.volume.now.roots.now = (let test = c.loop-k-test.true in let end = c.loop-k.auto.k-end in omega (arith, test, end)) in
    record {
      adds = λ tells w s h of wide words reach.
          maps_next w s h of c.args.volume.now.roots.now c.loop-k.k _ c.args.lines.now c.loop-k.lines c.note_root_map.new.lines low (c.loop-k.invariant.adds tells w s h of wide words reach)
          (c.in_ok-note_root_map.ensures.adds (told g c tells) w s h (of (root_of (get_or c.args.volume.now.roots.now c.loop-k.k _))) wide
          (subst (λ (i : Image). HasWords i w s c.args.row.now) (sym c.loop-k.invariant.only_reads.stays.reads) words)
          (subst (IsReachIn c.args.volume.now.label.now.span (of (root_of (get_or c.args.volume.now.roots.now c.loop-k.k _)))) (sym c.of.ensures)
          (reach (root_of (get_or c.args.volume.now.roots.now c.loop-k.k _)) (in_map root_of (get_or c.args.volume.now.roots.now c.loop-k.k _) c.args.volume.now.roots.now (in_at c.args.volume.now.roots.now c.loop-k.k _ low)))));
      only_reads = search rules;
      faults = search rules;
    }

pub returns-clause-adds : goal.returns-clause-adds
returns-clause-adds g c = λ tells w s h of wide words reach.
    maps_all w s h of c.args.volume.now.roots.now c.loop-k.k c.args.lines.now c.loop-k.lines
    (let past = c.loop-k-test.false in let end = c.loop-k.auto.k-end in omega (arith, past, end)) (c.loop-k.invariant.adds tells w s h of wide words reach)
