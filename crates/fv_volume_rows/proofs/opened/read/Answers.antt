use Rattle.std.proofs.Common.{sym, ap, subst, ◌∙◌}
use Rattle.std.specs.Prelude.{IsTrue}
use Rattle.std.specs.Ordering.{nat_cmp}
use Rattle.std.specs.FinMap as fin
use Rattle.fv_disk.proofs.Resting.{reads_then}
use Rattle.fv_root.specs.declared.find.Found.{Found}
use Rattle.fv_root.specs.Commits.{IsFoundOn}
use Rattle.fv_root.specs.Finding.{IsInRange}
use Rattle.fv_aggmap.specs.Space.{blocks_of}
use Rattle.fv_pool.specs.Keeping.{Blocks}
use Rattle.fv_volume_rows.proofs.Fitting.{root_on}
use Rattle.fv_volume_rows.proofs.opened.read.Goals as goal

-- nothing waits to be written, and the root was found on a settled disk
pub returns-clause-fit : goal.returns-clause-fit
returns-clause-fit g c =
    let first = g.D.Disk.shown c.barrier.new.self in
    let second = g.D.Disk.shown c.root_of.new.disk in
    let third = g.D.Disk.shown c.open.new.disk in
    let last = g.D.Disk.shown c.open-2.new.disk in
    let was = c.in_ok-pool.ensures in
    let is = c.in_ok-volumes.ensures in
    let one = c.root_of.ensures.only_reads in
    let two = c.open.ensures.only_reads in
    let three = c.open-2.ensures.only_reads in
    let same = is.found ∙ was.found in
    let all = reads_then first third last (reads_then first second third one two) three in
    record {
      fit = record {
        range = subst IsInRange (sym same) c.in_ok-found.ensures.range;
        size = ap blocks_of is.map ∙ was.size ∙ ap (λ (f : Found). f.blocks) (sym same);
        version = is.version ∙ was.version ∙ ap (λ (f : Found). f.root.version) (sym same);
        housed = record { long = is.states.long; volumes = is.states.each; each = is.states.housed; parents = is.states.parents };
        kept = λ b taken. ap (λ (k : Blocks). fin.get k b) (is.kept ∙ was.empty) ∙ fin.get-empty nat_cmp b;
      };
      root = λ tells.
          let told = subst IsTrue all.stays.tells tells in
          subst (IsFoundOn last) (sym same) (root_on first second third last c.in_ok-found.found (c.in_ok-barrier.ensures.durable (subst IsTrue c.barrier.ensures.tells told)) (c.in_ok-found.ensures.finds told) one two three);
    }
