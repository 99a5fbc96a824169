use Rattle.std.proofs.Common.{◌≡◌, ℕ, List, take}
use Rattle.std.specs.Prelude.{IsTrue, map}
use Rattle.fv_disk.specs.DiskCalls.{OnlyReads}
use Rattle.fv_image.specs.Views.{Head, Rooted, View}
use Rattle.fv_faults.specs.Adding.{Adds}
use Rattle.fv_faults.specs.Walks.{Step}
use Rattle.fv_third_pass.specs.Maps.{HasWords}
use Rattle.fv_third_pass.specs.Volumes.{AreReachIn, map_lines, reach_at, root_of}
use Rattle.fv_third_pass.proofs.reaching.note_root_maps.Given as goal

abbrev pub invariant-loop-k : goal.invariant-loop-k
invariant-loop-k g l = record {
  adds : IsTrue (g.D.Disk.shown l.fn.disk).tells → (w : View) (s : ℕ) (h : Head) (of : ℕ × Rooted → List Step) → h.span ≡ l.volume.label.now.span
      → HasWords (g.D.Disk.shown l.fn.disk).reads w s l.row → AreReachIn l.volume.label.now.span of (reach_at l.volume.survey.now.reached.now l.volume.slot) (map root_of l.volume.roots.now)
      → Adds (map_lines w s h of (map root_of (take l.k l.volume.roots.now))) l.fn.lines l.lines;
  only_reads : OnlyReads (g.D.Disk.shown l.fn.disk) (g.D.Disk.shown l.disk);
  faults : (g.D.Disk.shown l.disk).faults ≡ (g.D.Disk.shown l.fn.disk).faults;
}
