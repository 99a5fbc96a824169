use Rattle.std.proofs.Common.{◌≡◌, ℕ, List, get_or, refl, ap, ◌∙◌, arith, sym}
use Rattle.std.proofs.lemmas.Result.{on_ok_weaker, err_from_is_err_and}
use Rattle.fv_tree.specs.Spelled.{hole, pointers_at, pointer_at}
use Rattle.fv_tree.specs.Standing.{standing, under}
use Rattle.fv_tree.specs.Collecting.{IsChildPast, IsUnder}
use Rattle.std.specs.Option.{option_map}
use Rattle.fv_codec.specs.declared.pointer.Pointer.{Pointer}
use Rattle.fv_tree.specs.declared.kept.KeptNode.{KeptNode}
use Rattle.fv_tree.proofs.Brought.{some_same}
use Rattle.fv_tree.proofs.Causes.{kept_damage, node_fails}
use Rattle.fv_tree.proofs.Collected.{pointer_in_is, range_within, under_as, under_from, extends_as, pointer_in_at}
use Rattle.fv_tree.proofs.Calls.{loading_brought, loading_none, loading_then, loads_err, loads_ok}
use Rattle.fv_tree.proofs.Right.{node_loads}
use Rattle.fv_tree.proofs.cut.keep_range.Goals as goal

pub add_ranges-requires-clause-range : goal.add_ranges-requires-clause-range
add_ranges-requires-clause-range g c = range_within c.args.level c.args.place c.requires.low (omega (arith, c.requires.high, c.args.tree.now.few)) c.requires.range

pub returns-in-Some-clause-added : goal.returns-in-Some-clause-added
returns-in-Some-clause-added g c = λ told.
    let old = under (g.B.Blocks.shown c.args.blocks.now) in
    let s = standing old c.args.tree.now in
    let is = c.pointer_in-pointer.ensures.is ∙ pointer_in_is old c.args.tree.now c.args.level c.args.place (c.requires.stands told) (c.requires.node told) in
    let xs = c.in-Some.node.now.children in
    let held = c.in_ok-keep_node.ensures.spells in
    let same : xs ≡ held.pointers = some_same xs held.pointers (ap (option_map (λ (kept : KeptNode). kept.children)) c.in-Some.ensures.value ∙ held.node) in
    let spelled : (slot : ℕ) → get_or xs slot hole ≡ get_or (pointers_at s c.args.level c.args.place (pointer_at s c.args.level c.args.place)) slot hole = λ slot. ap (λ (ys : List Pointer). get_or ys slot hole) same ∙ held.children told slot ∙ ap (λ p. get_or (pointers_at s c.args.level c.args.place p) slot hole) is in
    on_ok_weaker c.add_ranges.result (λ added. extends_as (IsChildPast xs c.args.level c.args.most c.args.place) (IsUnder s c.args.level c.args.most c.args.place) c.args.below.now.items c.add_ranges.new.below.items added
    (under_as s c.args.level c.args.most c.args.place xs c.requires.low c.requires.high spelled) (under_from s c.args.level c.args.most c.args.place xs c.requires.low c.requires.high spelled)) c.add_ranges.ensures.added

pub returns-in_err-keep_node-clause-loading : goal.returns-in_err-keep_node-clause-loading
returns-in_err-keep_node-clause-loading g c = let old = g.B.Blocks.shown c.args.blocks.now in
    let new = g.B.Blocks.shown c.keep_node.new.blocks in
    let t = standing (under old) c.args.tree.now in
    let q = c.pointer_in-pointer.result in
    let at = pointer_in_at g.B.Blocks.told (under old) c.args.tree.now c.args.level c.args.place q c.pointer_in-pointer.ensures.is c.requires.stands c.requires.node in
    let node = c.in_err-keep_node.ensures in
    let e = c.in_err-keep_node.field-0.0 in
    let p = err_from_is_err_and c.from_residual.result c.from_residual.ensures.1 in
    rw (p.1, p.2) (loading_brought g.B.Blocks.told _ old new c.args.tree.now c.keep_node.new.tree c.args.level c.args.place q _ c.requires.low at node.keeps node.brings node.fields node.changes (loads_err node.loads)
    (node_fails g.B.Blocks.told t old new c.args.level c.args.place q e refl c.requires.low c.requires.high at (kept_damage c.args.tree.now c.args.level c.args.place e node.held) node.loads.cause))

pub returns-in-Some-clause-loading : goal.returns-in-Some-clause-loading
returns-in-Some-clause-loading g c = let old = g.B.Blocks.shown c.args.blocks.now in
    let new = g.B.Blocks.shown c.keep_node.new.blocks in
    let q = c.pointer_in-pointer.result in
    let at = pointer_in_at g.B.Blocks.told (under old) c.args.tree.now c.args.level c.args.place q c.pointer_in-pointer.ensures.is c.requires.stands c.requires.node in
    let node = c.in_ok-keep_node.ensures in
    loading_then {T = ℕ} (g.met.B.Blocks.reads_on c.args.blocks.now c.keep_node.new.blocks c.keep_node.new.blocks)
    (loading_brought g.B.Blocks.told _ old new c.args.tree.now c.keep_node.new.tree c.args.level c.args.place q _ c.requires.low at node.keeps node.brings node.fields node.changes (loads_ok 0 node.loads) tt)
    (loading_none g.B.Blocks.told new c.keep_node.new.tree c.add_ranges.result (g.met.B.Blocks.reads_nothing c.keep_node.new.blocks) c.add_ranges.ensures.memory)

pub keep_node-requires : goal.keep_node-requires
keep_node-requires g c = record {
  right = λ told.
      let old = (g.B.Blocks.shown c.args.blocks.now) in
      let at = pointer_in_at g.B.Blocks.told (under old) c.args.tree.now c.args.level c.args.place c.pointer_in-pointer.result c.pointer_in-pointer.ensures.is c.requires.stands c.requires.node in
      node_loads old c.args.tree.now c.args.level c.args.place c.pointer_in-pointer.result c.requires.low (sym (at told)) (c.requires.right told);
}
