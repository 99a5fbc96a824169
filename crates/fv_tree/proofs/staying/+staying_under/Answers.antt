use Rattle.std.proofs.Common.{◌≡◌, ◌≤◌, ◌+◌, ◌-◌, ◌*◌, ◌^◌, inl, inr, refl, sym, ◌∙◌, arith}
use Rattle.std.specs.FinMap as fin
use Rattle.std.proofs.lemmas.Result.{err_from_is_err_and}
use Rattle.fv_model.specs.Trees.{fan}
use Rattle.fv_tree.specs.Standing.{standing, under}
use Rattle.fv_tree.specs.Flushing.{loaded, loaded_over}
use Rattle.fv_tree.specs.Counting.{staying_under}
use Rattle.fv_tree.proofs.Causes.{calm_then, fails_on, node_fails, untouched_then}
use Rattle.fv_tree.proofs.Stays.{child_meets, range_low, few_all, few_end, few_fit, few_more, some_all, some_more, some_none, under_end}
use Rattle.fv_tree.proofs.Right.{node_loads}
use Rattle.fv_tree.proofs.staying.+staying_under.Goals.{then-level-eq0-via-then-level-eq0, then-level-eq0-via-else-level-eq0+then-pointer-eq0}
use Rattle.fv_tree.proofs.staying.+staying_under.Goals as goal

pub returns-then-level-eq0-clause-staying : goal.returns-then-level-eq0-clause-staying
returns-then-level-eq0-clause-staying g t c = λ told.
    under_end (loaded (g.B.Blocks.shown c.args.blocks.now) c.args.tree.now) (g.B.Sharing.shared c.args.blocks.now) c.args.level c.args.place c.stays_at-count.result c.args.pointer.now (c.requires.pointer told) c.stays_at-count.ensures.exact c.requires.high
    (elim c.then-level-eq0.branch [
      | then-level-eq0-via-then-level-eq0 w ↦ inl w.if-level-eq0.true
      | then-level-eq0-via-else-level-eq0+then-pointer-eq0 w ↦ inr w.if-pointer-eq0.true
    ])

pub returns-then-level-eq0-clause-few : goal.returns-then-level-eq0-clause-few
returns-then-level-eq0-clause-few g t c = few_end c.stays_at-count.result c.args.level c.stays_at-count.ensures.few

pub loop-slot-init : goal.loop-slot-init
loop-slot-init g t c =
    let few : c.stays_at-count.result ≤ 1 = c.stays_at-count.ensures.few in record {
      count = λ told. some_none (loaded (g.B.Blocks.shown c.args.blocks.now) c.args.tree.now) (g.B.Sharing.shared c.args.blocks.now) c.args.level c.args.place c.stays_at-count.result c.args.pointer.now (c.requires.pointer told) c.stays_at-count.ensures.exact;
      few = omega (arith, few);
      untouched = c.in_ok-children.ensures.untouched;
      calm = c.in_ok-children.ensures.counts.calm;
      reads = c.in_ok-children.ensures.reads;
    }

pub overflow_mul-place : goal.overflow_mul-place
overflow_mul-place g t c = let small = range_low c.args.tree.now c.args.level c.args.place c.if-level-eq0.false c.requires.high c.requires.range in omega (arith, small)

pub overflow_add-place : goal.overflow_add-place
overflow_add-place g t c = let small = range_low c.args.tree.now c.args.level c.args.place c.if-level-eq0.false c.requires.high c.requires.range in omega (arith, small, c.loop-slot-test.true)

pub staying_under-requires : goal.staying_under-requires
staying_under-requires g t c κs within = let measure = c.decreases in
    (omega (arith, measure, c.if-level-eq0.false), (within, child_meets g.B.Blocks.told (g.B.Blocks.shown c.args.blocks.now) (g.B.Blocks.shown c.loop-slot.blocks) c.args.tree.now c.args.level c.args.place c.loop-slot.slot c.args.pointer.now c.in_ok-children.children c.loop-slot.invariant.untouched c.if-level-eq0.false c.requires.high c.requires.range c.requires.pointer c.in_ok-children.ensures.children c.requires.right c.loop-slot-test.true))

pub returns-in_err-children-clause-cause : goal.returns-in_err-children-clause-cause
returns-in_err-children-clause-cause g t c =
    let old = g.B.Blocks.shown c.args.blocks.now in
    let new = g.B.Blocks.shown c.children_of.new.blocks in
    let low : 1 ≤ c.args.level = omega (arith, c.if-level-eq0.false) in
    let p = err_from_is_err_and c.from_residual.result c.from_residual.ensures.1 in
    rw (p.1, p.2) (node_fails g.B.Blocks.told (standing (under old) c.args.tree.now) old new c.args.level c.args.place c.args.pointer.now c.in_err-children.field-0.0 refl low c.requires.high (λ told. sym (c.requires.pointer told)) (λ _. c.in_err-children.ensures.held) c.in_err-children.ensures.cause)

pub returns-in_err-count-clause-untouched : goal.returns-in_err-count-clause-untouched
returns-in_err-count-clause-untouched g t c =
    untouched_then (g.B.Blocks.shown c.args.blocks.now) (g.B.Blocks.shown c.loop-slot.blocks) (g.B.Blocks.shown c.staying_under.new.blocks) c.loop-slot.invariant.untouched c.in_err-count.ensures.untouched

pub returns-in_err-count-clause-reads : goal.returns-in_err-count-clause-reads
returns-in_err-count-clause-reads g t c = g.met.B.Blocks.reads_on c.args.blocks.now c.loop-slot.blocks c.staying_under.new.blocks c.loop-slot.invariant.reads c.in_err-count.ensures.reads

pub returns-in_err-count-clause-cause : goal.returns-in_err-count-clause-cause
returns-in_err-count-clause-cause g t c =
    fails_on g.B.Blocks.told c.args.tree.now _ _ _ c.from_residual-in_err-count.result _ c.from_residual-in_err-count.ensures.1 c.loop-slot.invariant.calm c.loop-slot.invariant.untouched c.in_err-count.ensures.cause

pub overflow_add-count : goal.overflow_add-count
overflow_add-count g t c =
    let low : 1 ≤ c.args.level = omega (arith, c.if-level-eq0.false) in
    let fits = few_fit c.loop-slot.count c.in_ok-count.field-0 c.loop-slot.slot c.args.level low (let few = c.args.tree.now.few in omega (arith, few, c.requires.high)) c.loop-slot-test.true c.loop-slot.invariant.few c.in_ok-count.ensures.few in
    omega (arith, fits)

pub loop-slot-preserved : goal.loop-slot-preserved
loop-slot-preserved g t c =
    let b = g.B.Blocks.shown c.loop-slot.blocks in
    let s = loaded (g.B.Blocks.shown c.args.blocks.now) c.args.tree.now in
    let level = c.args.level in
    let place = c.args.place in
    let slot = c.loop-slot.slot in
    let was = c.loop-slot.invariant in
    let now = c.in_ok-count.ensures in
    let same : staying_under (loaded b c.args.tree.now) (g.B.Sharing.shared c.loop-slot.blocks) (level - 1) (place * fan + slot) ≡ staying_under s (g.B.Sharing.shared c.args.blocks.now) (level - 1) (place * fan + slot) =
    λ j. staying_under (loaded_over (λ v. fin.get (was.untouched.held j) v) c.args.tree.now) (λ v. g.met.B.Sharing.reads_share c.args.blocks.now c.loop-slot.blocks was.reads v j) (level - 1) (place * fan + slot) in record {
      count = λ told. some_more s (g.B.Sharing.shared c.args.blocks.now) level place slot c.loop-slot.count c.in_ok-count.field-0 (was.count told) (now.staying told ∙ same);
      few = few_more c.loop-slot.count c.in_ok-count.field-0 slot (2 * fan ^ (level - 1)) was.few now.few;
      untouched = untouched_then _ _ _ was.untouched now.untouched;
      calm = calm_then _ _ _ was.calm now.counts.calm;
      reads = g.met.B.Blocks.reads_on c.args.blocks.now c.loop-slot.blocks c.staying_under.new.blocks was.reads now.reads;
    }

pub returns-clause-staying : goal.returns-clause-staying
returns-clause-staying g t c = λ told.
    let low : 1 ≤ c.args.level = omega (arith, c.if-level-eq0.false) in
    let all : c.loop-slot.slot ≡ fan = omega (arith, c.loop-slot-test.false) in
    some_all (loaded (g.B.Blocks.shown c.args.blocks.now) c.args.tree.now) (g.B.Sharing.shared c.args.blocks.now) c.args.level c.args.place c.loop-slot.slot c.loop-slot.count low all (c.loop-slot.invariant.count told)

pub returns-clause-few : goal.returns-clause-few
returns-clause-few g t c =
    let low : 1 ≤ c.args.level = omega (arith, c.if-level-eq0.false) in
    let all : c.loop-slot.slot ≡ fan = omega (arith, c.loop-slot-test.false) in
    few_all c.loop-slot.count c.loop-slot.slot c.args.level low all c.loop-slot.invariant.few

pub children_of-requires-clause-right : goal.children_of-requires-clause-right
children_of-requires-clause-right g t c = λ told. let low : 1 ≤ c.args.level = omega (arith, c.if-level-eq0.false) in node_loads (g.B.Blocks.shown c.args.blocks.now) c.args.tree.now c.args.level c.args.place c.args.pointer.now low (c.requires.pointer told) (c.requires.right told)
