use Rattle.std.proofs.Common.{rules, ◌≡◌, sym, subst, refl, get_or}
use Rattle.std.specs.Prelude.{IsTrue}
use Rattle.std.proofs.lemmas.List.{places}
use Rattle.fv_disk.specs.Shown.{Image}
use Rattle.fv_disk.proofs.Resting.{reads_then}
use Rattle.fv_container.specs.Loading.{Marks}
use Rattle.fv_container.specs.Paged.{leaf_here}
use Rattle.fv_container.specs.Seeing.{leads_seen}
use Rattle.fv_container.proofs.Marked.{all_more, all_none}
use Rattle.fv_container.proofs.Reading.{reads_none}
use Rattle.fv_container.proofs.marking.mark_all.Goals as goal

pub loop-k-init : goal.loop-k-init
loop-k-init g c = record { stands = c.requires.stands; marked = λ tells. all_none (g.D.Disk.shown c.args.disk.now).reads c.args.count c.args.leaves.now c.args.tree.now c.args.bits.now; only_reads = reads_none (g.D.Disk.shown c.args.disk.now); faults = refl }

pub loop-k-preserved : goal.loop-k-preserved
loop-k-preserved g c =
    let inv = c.loop-k.invariant in
    let i : Image = (g.D.Disk.shown c.args.disk.now).reads in
    let k = c.loop-k.k in
    record {
      stands = search rules;
      marked = λ tells.
          let told : IsTrue (g.D.Disk.shown c.loop-k.disk).tells = subst IsTrue (sym inv.only_reads.stays.tells) tells in
          let here : c.index-leaves-k.result ≡ leaf_here c.args.leaves.now k = search (rules, places) in
          let marks : Marks c.loop-k.bits (leads_seen (g.D.Disk.shown c.loop-k.disk).reads c.args.count (get_or c.args.tree.now k 0) k c.index-leaves-k.result) c.mark_region.new.bits = c.in_ok-mark_region.ensures.marked told in
          all_more i c.args.count c.args.leaves.now c.args.tree.now c.args.bits.now c.loop-k.bits c.mark_region.new.bits k (inv.marked tells)
          (rw (← here, ← inv.only_reads.stays.reads) marks);
      only_reads = reads_then (g.D.Disk.shown c.args.disk.now) (g.D.Disk.shown c.loop-k.disk) (g.D.Disk.shown c.mark_region.new.disk) inv.only_reads c.mark_region.ensures.read.only_reads;
      faults = search rules;
    }
