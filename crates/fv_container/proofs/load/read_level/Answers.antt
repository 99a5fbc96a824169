use Rattle.std.proofs.Common.{rules, ◌≡◌, ◌≢◌, ℕ, ◌+◌, ◌*◌, true, get_or, sym, subst, ◌∙◌, arith, Ok}
use Rattle.std.specs.Prelude.{IsTrue}
use Rattle.fv_disk.specs.Shown.{Image}
use Rattle.fv_codec.specs.Blocks.{inner_at}
use Rattle.fv_container.specs.Reading.{IsInnerAs, StandInner}
use Rattle.fv_container.proofs.Nodes.{fill_bounded}
use Rattle.fv_container.proofs.Positions.{inner_more}
use Rattle.fv_disk.proofs.Resting.{reads_then}
use Rattle.fv_container.proofs.Whole.{inner_kept}
use Rattle.fv_container.proofs.load.read_level.Given as given
use Rattle.fv_container.proofs.load.read_level.Goals as goal

-- so many nodes and one more are the ones of their positions
one_more : (g : given.Over) (c : goal.After-both-whole g) → IsTrue (g.D.Disk.shown c.args.disk.now).tells → c.both-whole.result ≡ true → StandInner (g.D.Disk.shown c.args.disk.now).reads c.args.places.now c.args.leaves (c.loop-q.q + 1)
one_more g c tells is =
    let told : IsTrue (g.D.Disk.shown c.loop-q.disk).tells = rw c.loop-q.invariant.only_reads.stays.tells tells in
    let at : ℕ = get_or c.loop-q.places (c.args.leaves + c.loop-q.q) 0 in
    inner_more (g.D.Disk.shown c.args.disk.now).reads c.args.places.now c.args.leaves c.loop-q.q at c.in_ok-node.node c.loop-q.whole c.is_inner_as.result (c.loop-q.invariant.past (c.args.leaves + c.loop-q.q) (omega arith))
    (subst (λ (x : Image). at ≢ 0 → inner_at (x at) ≡ Ok c.in_ok-node.node) c.loop-q.invariant.only_reads.stays.reads (c.in_ok-node.ensures.said told)) (subst (λ (w : ℕ). c.is_inner_as.result ≡ true → at ≢ 0 → IsInnerAs c.in_ok-node.node 1 c.loop-q.q w) c.saturating_sub.ensures c.is_inner_as.ensures.whole) (c.loop-q.invariant.whole tells) (sym c.both-whole.ensures ∙ is)

one_kept : (g : given.Over) (c : goal.After-both-whole g) → IsTrue (g.D.Disk.shown c.args.disk.now).tells → StandInner (g.D.Disk.shown c.args.disk.now).reads c.args.places.now c.args.leaves (c.loop-q.q + 1) → c.both-whole.result ≡ true
one_kept g c tells all =
    let told : IsTrue (g.D.Disk.shown c.loop-q.disk).tells = rw c.loop-q.invariant.only_reads.stays.tells tells in
    let at : ℕ = get_or c.loop-q.places (c.args.leaves + c.loop-q.q) 0 in
    c.both-whole.ensures ∙ inner_kept (g.D.Disk.shown c.args.disk.now).reads c.args.places.now c.args.leaves c.loop-q.q at c.in_ok-node.node c.loop-q.whole c.is_inner_as.result (c.loop-q.invariant.past (c.args.leaves + c.loop-q.q) (omega arith))
    (subst (λ (x : Image). at ≢ 0 → inner_at (x at) ≡ Ok c.in_ok-node.node) c.loop-q.invariant.only_reads.stays.reads (c.in_ok-node.ensures.said told)) (subst (λ (w : ℕ). (at ≢ 0 → IsInnerAs c.in_ok-node.node 1 c.loop-q.q w) → c.is_inner_as.result ≡ true) c.saturating_sub.ensures c.is_inner_as.ensures.kept) (c.loop-q.invariant.kept tells) all

pub loop-q-preserved : goal.loop-q-preserved
loop-q-preserved g c = record { len = search rules; stands = search rules; leaves = search rules; bounded = λ was. fill_bounded c.loop-q.places c.fill_children.new.places c.in_ok-node.node.children (256 * c.loop-q.q) c.args.leaves c.fill_children.ensures.filled c.fill_children.ensures.outside c.in_ok-node.ensures.bounded (c.loop-q.invariant.bounded was); past = search rules; shaped = search rules; whole = one_more g c; kept = one_kept g c; only_reads = reads_then (g.D.Disk.shown c.args.disk.now) (g.D.Disk.shown c.loop-q.disk) (g.D.Disk.shown c.read_inner.new.disk) c.loop-q.invariant.only_reads c.in_ok-node.ensures.read.only_reads; faults = search rules }

pub returns-clause-kept : goal.returns-clause-kept
returns-clause-kept g c = λ tells all. c.loop-q.invariant.kept tells (λ q within some. all q (omega (arith, within, c.loop-q.auto.q-end)) some)
