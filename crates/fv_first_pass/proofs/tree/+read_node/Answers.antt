use Rattle.std.proofs.Common.{rules, ◌≡◌, ◌≢◌, ℕ, suc, ◌+◌, ◌-◌, ◌*◌, List, refl, sym, subst, ◌∙◌, arith}
use Rattle.std.specs.Prelude.{IsTrue, Option, Some}
use Rattle.fv_disk.specs.Shown.{Image}
use Rattle.fv_codec.specs.declared.container.ContainerInner.{ContainerInner}
use Rattle.fv_codec.specs.Blocks.{inner_at}
use Rattle.fv_image.specs.Containers.{fan}
use Rattle.fv_faults.specs.declared.lines.Lines.{Lines}
use Rattle.fv_faults.specs.Adding.{Adds}
use Rattle.fv_faults.specs.FirstPass.{inner_lines}
use Rattle.fv_first_pass.specs.declared.site.Site.{Site}
use Rattle.fv_first_pass.specs.Sites.{bare}
use Rattle.fv_first_pass.specs.Below.{below, child_at}
use Rattle.fv_first_pass.specs.Filled.{Fills, Judges, lines_to}
use Rattle.fv_first_pass.proofs.AddingOn.{nothing_first}
use Rattle.fv_first_pass.proofs.Filling.{adds_at, clean_adds, clean_fills, clean_first, faulty_adds, faulty_fills, fills_at, no_children, no_lines, one_adds, one_fills, over_children}
use Rattle.fv_first_pass.proofs.tree.+read_node.Goals as goal

over_is : (level : ℕ) → level ≢ 0 → level ≡ suc (level - 1)
over_is level some = omega (arith, some)

abbrev JudgesAt : Site → ℕ → ℕ → List ℕ → Option ContainerInner → ℕ → Type 0
JudgesAt site number at block answer level = Judges (inner_lines (bare site.blocks) site.label level number at (inner_at block)) (inner_at block) answer

abbrev AddsAt : Site → ℕ → ℕ → List ℕ → Lines → Lines → ℕ → Type 0
AddsAt site number at block old new level = Adds (inner_lines (bare site.blocks) site.label level number at (inner_at block)) old new

pub returns-in_default-clause-adds : goal.returns-in_default-clause-adds
returns-in_default-clause-adds g t c = λ tells.
    let i : Image = (g.D.Disk.shown c.args.disk.now).reads in
    let site : Site = c.args.site.now in
    let number : ℕ = c.args.spot.number in
    let at : ℕ = c.args.spot.at in
    let block : List ℕ = c.in_ok-block.block in
    let e = over_is c.args.level c.if-level-eq0.false in
    subst (λ n. Adds (below i site n number at) c.args.lines.now c.judge_inner.new.lines) (sym e)
    (faulty_adds i site (c.args.level - 1) number at block (let some = c.if-spot-eq0.false in some) (c.in_ok-block.ensures.value tells) _ c.args.lines.now c.judge_inner.new.lines
    (subst (JudgesAt site number at block _) e c.in_ok-node.ensures.judges) c.in_default.is
    (subst (AddsAt site number at block c.args.lines.now c.judge_inner.new.lines) e c.in_ok-node.ensures.adds))

pub returns-in_default-clause-filled : goal.returns-in_default-clause-filled
returns-in_default-clause-filled g t c = λ tells.
    let i : Image = (g.D.Disk.shown c.args.disk.now).reads in
    let site : Site = c.args.site.now in
    let number : ℕ = c.args.spot.number in
    let at : ℕ = c.args.spot.at in
    let block : List ℕ = c.in_ok-block.block in
    let e = over_is c.args.level c.if-level-eq0.false in
    subst (λ n. Fills i site n number at c.args.entries.now c.args.entries.now) (sym e)
    (faulty_fills i site (c.args.level - 1) number at block (let some = c.if-spot-eq0.false in some) (c.in_ok-block.ensures.value tells) _ c.args.entries.now
    (subst (JudgesAt site number at block _) e c.in_ok-node.ensures.judges) c.in_default.is)

pub loop-c-init : goal.loop-c-init
loop-c-init g t c = record {
  adds = λ tells. no_lines (g.D.Disk.shown c.args.disk.now).reads c.args.site.now (c.args.level - 1) c.args.spot.number c.in-Some.node c.judge_inner.new.lines;
  filled = λ tells. no_children (g.D.Disk.shown c.args.disk.now).reads c.args.site.now (c.args.level - 1) c.args.spot.number c.in-Some.node
      (over_children c.args.level c.if-level-eq0.false c.requires.level) c.args.entries.now;
  only_reads = c.in_ok-block.ensures.read.only_reads;
  faults = c.in_ok-block.ensures.read.cause;
}

pub loop-c-preserved : goal.loop-c-preserved
loop-c-preserved g t c =
    let i : Image = (g.D.Disk.shown c.args.disk.now).reads in
    let site : Site = c.args.site.now in
    let level : ℕ = c.args.level - 1 in
    let number : ℕ = c.args.spot.number in
    let q : ℕ = fan * c.args.spot.number + c.loop-c.c in
    let node : ContainerInner = c.in-Some.node in
    let told : IsTrue (g.D.Disk.shown c.args.disk.now).tells → IsTrue (g.D.Disk.shown c.loop-c.disk).tells = λ tells. rw c.loop-c.invariant.only_reads.stays.tells tells in
    record {
      adds = λ tells.
          one_adds i site level number node c.loop-c.c c.judge_inner.new.lines c.loop-c.lines c.read_node.new.lines (c.loop-c.invariant.adds tells)
          (subst (λ (j : Image). Adds (below j site level q (child_at site level (Some node) q)) c.loop-c.lines c.read_node.new.lines) c.loop-c.invariant.only_reads.stays.reads
          (adds_at (g.D.Disk.shown c.loop-c.disk).reads site level c.child_of-child.result.number c.child_of-child.result.at q (child_at site level (Some node) q)
          c.child_of-child.ensures.number c.child_of-child.ensures.at c.loop-c.lines c.read_node.new.lines (c.in_ok-read_node.ensures.adds (told tells))));
      filled = λ tells.
          one_fills i site level number node (over_children c.args.level c.if-level-eq0.false c.requires.level) c.loop-c.c c.loop-c-test.true c.args.entries.now c.loop-c.entries c.read_node.new.entries
          (c.loop-c.invariant.filled tells)
          (subst (λ (j : Image). Fills j site level q (child_at site level (Some node) q) c.loop-c.entries c.read_node.new.entries) c.loop-c.invariant.only_reads.stays.reads
          (fills_at (g.D.Disk.shown c.loop-c.disk).reads site level c.child_of-child.result.number c.child_of-child.result.at q (child_at site level (Some node) q)
          c.child_of-child.ensures.number c.child_of-child.ensures.at c.loop-c.entries c.read_node.new.entries (c.in_ok-read_node.ensures.filled (told tells))));
      only_reads = search rules;
      faults = search rules;
    }

pub returns-clause-adds : goal.returns-clause-adds
returns-clause-adds g t c = λ tells.
    let i : Image = (g.D.Disk.shown c.args.disk.now).reads in
    let site : Site = c.args.site.now in
    let number : ℕ = c.args.spot.number in
    let at : ℕ = c.args.spot.at in
    let block : List ℕ = c.in_ok-block.block in
    let node : ContainerInner = c.in-Some.node in
    let e = over_is c.args.level c.if-level-eq0.false in
    let judges = subst (JudgesAt site number at block _) e c.in_ok-node.ensures.judges in
    let end : c.loop-c.c ≡ 256 = (let past = c.loop-c-test.false in let last = c.loop-c.auto.c-end in omega (arith, past, last)) in
    subst (λ n. Adds (below i site n number at) c.args.lines.now c.loop-c.lines) (sym e)
    (clean_adds i site (c.args.level - 1) number at block (let some = c.if-spot-eq0.false in some) (c.in_ok-block.ensures.value tells) node _ judges c.in-Some.is c.loop-c.c c.args.lines.now c.loop-c.lines end
    (nothing_first (lines_to i site (c.args.level - 1) number node c.loop-c.c) c.args.lines.now c.judge_inner.new.lines c.loop-c.lines
    (clean_first i site (c.args.level - 1) number at block (let some = c.if-spot-eq0.false in some) (c.in_ok-block.ensures.value tells) node _ judges c.in-Some.is c.args.lines.now c.judge_inner.new.lines
    (subst (AddsAt site number at block c.args.lines.now c.judge_inner.new.lines) e c.in_ok-node.ensures.adds))
    (c.loop-c.invariant.adds tells)))

pub returns-clause-filled : goal.returns-clause-filled
returns-clause-filled g t c = λ tells.
    let i : Image = (g.D.Disk.shown c.args.disk.now).reads in
    let site : Site = c.args.site.now in
    let number : ℕ = c.args.spot.number in
    let at : ℕ = c.args.spot.at in
    let block : List ℕ = c.in_ok-block.block in
    let node : ContainerInner = c.in-Some.node in
    let e = over_is c.args.level c.if-level-eq0.false in
    let judges = subst (JudgesAt site number at block _) e c.in_ok-node.ensures.judges in
    let end : c.loop-c.c ≡ 256 = (let past = c.loop-c-test.false in let last = c.loop-c.auto.c-end in omega (arith, past, last)) in
    subst (λ n. Fills i site n number at c.args.entries.now c.loop-c.entries) (sym e)
    (clean_fills i site (c.args.level - 1) number at block (let some = c.if-spot-eq0.false in some) (c.in_ok-block.ensures.value tells) node _ judges c.in-Some.is
    (over_children c.args.level c.if-level-eq0.false c.requires.level) c.loop-c.c c.args.entries.now c.loop-c.entries end (c.loop-c.invariant.filled tells))
