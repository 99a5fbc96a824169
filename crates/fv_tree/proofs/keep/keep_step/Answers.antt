use Rattle.std.proofs.Common.{◌≡◌, ◌≤◌, ◌+◌, ◌/◌, ◌%◌, ◌-◌, ◌^◌, ℕ, inl, List, Option, Some, get_or, refl, sym, ap, subst, ◌∙◌, arith}
use Rattle.std.proofs.lemmas.Result.{err_from_is_err_and}
use Rattle.std.specs.Option.{option_map}
use Rattle.fv_tree.specs.declared.kept.KeptNode.{KeptNode}
use Rattle.fv_codec.specs.declared.pointer.Pointer.{Pointer}
use Rattle.fv_model.specs.Trees.{fan}
use Rattle.fv_tree.specs.Spelled.{Rooted, hole, pointers_at, pointer_at}
use Rattle.fv_tree.specs.Carried.{kept_at, IsBlank}
use Rattle.fv_tree.specs.Keeping.{Keeps, IsSame}
use Rattle.fv_tree.specs.Flushing.{child_of, pointer_in}
use Rattle.fv_tree.specs.Standing.{standing, under, node_in}
use Rattle.fv_tree.proofs.Below.{range_above}
use Rattle.fv_tree.proofs.Held.{next_pointer, now_kept}
use Rattle.fv_tree.proofs.Readied.{pointer_low}
use Rattle.fv_tree.proofs.StillReady.{step_ready}
use Rattle.fv_tree.proofs.Brought.{leads_on}
use Rattle.fv_tree.proofs.Causes.{kept_damage, node_fails}
use Rattle.fv_tree.proofs.Ways.{keeps_same}
use Rattle.fv_tree.proofs.Calls.{loading_brought, loads_err, loads_ok}
use Rattle.fv_tree.specs.declared.kept.Tree.{Tree}
use Rattle.fv_tree.proofs.Right.{node_loads}
use Rattle.fv_tree.proofs.keep.keep_step.Given as given
use Rattle.fv_tree.proofs.keep.keep_step.Goals as goal

-- the tree is the same, where the node at the way's place came into memory
stays : (t u : Rooted) (level i width : ℕ) (p : Pointer) → width ≡ fan ^ level → p ≡ pointer_at t level (i / fan ^ level) → Keeps t u level (i / width) p → IsSame t u
stays t u level i width p is way keeps =
    keeps_same t u level (i / fan ^ level) (subst (λ q. Keeps t u level (i / fan ^ level) q) way (subst (λ w. Keeps t u level (i / w) p) is keeps))

-- what the node spells
spells : (t : Rooted) (level i width slot : ℕ) (p : Pointer) (xs : List Pointer) → width ≡ fan ^ level → p ≡ pointer_at t level (i / fan ^ level)
    → ((slot : ℕ) → get_or xs slot hole ≡ get_or (pointers_at t level (i / width) p) slot hole)
    → get_or xs slot hole ≡ get_or (pointers_at t level (i / fan ^ level) (pointer_at t level (i / fan ^ level))) slot hole
spells t level i width slot p xs is way xs_are = xs_are slot ∙ (λ j. get_or (pointers_at t level (i / is j) (way j)) slot hole)

-- the pointer one level below, as the node in memory has it
child_is : (u : Tree) (level i : ℕ) (xs : List Pointer) → 1 ≤ level → level ≤ u.levels → node_in u level (i / fan ^ level) ≡ Some xs → pointer_in u (level - 1) (i / fan ^ (level - 1)) ≡ get_or xs (i / fan ^ (level - 1) % fan) hole
child_is u level i xs low high node =
    let k = level - 1 in
    let n : k + 1 ≡ level = omega (arith, low) in
    let there : node_in u (k + 1) (i / fan ^ k / fan) ≡ Some xs = ap (node_in u (k + 1)) (range_above i level low) ∙ ap (λ m. node_in u m (i / fan ^ level)) n ∙ node in
    pointer_low u k (i / fan ^ k) (omega (arith, n, high)) ∙ ap (λ (o : Option (List Pointer)). child_of o (i / fan ^ k % fan)) there

node_here : (g : given.Over) (c : goal.After-pointer_in g) → node_in c.keep_node.new.tree c.args.level (c.args.index / fan ^ c.args.level) ≡ Some c.in_ok-keep_node.ensures.spells.pointers
node_here g c = ap (λ w. node_in c.keep_node.new.tree c.args.level (c.args.index / w)) (sym c.width.ensures.is) ∙ c.in_ok-keep_node.ensures.spells.node

child_here : (g : given.Over) (c : goal.After-pointer_in g) → pointer_in c.keep_node.new.tree (c.args.level - 1) (c.args.index / fan ^ (c.args.level - 1)) ≡ get_or c.in_ok-keep_node.ensures.spells.pointers (c.args.index / fan ^ (c.args.level - 1) % fan) hole
child_here g c = child_is c.keep_node.new.tree c.args.level c.args.index c.in_ok-keep_node.ensures.spells.pointers c.requires.low (let same = c.keep_node.ensures.fields.levels in let high = c.requires.high in omega (arith, same, high)) (node_here g c)

result_is : (g : given.Over) (c : goal.After-pointer_in g) → c.pointer_in.result ≡ pointer_in c.keep_node.new.tree (c.args.level - 1) (c.args.index / fan ^ (c.args.level - 1))
result_is g c = c.pointer_in.ensures.is ∙ ap (λ w. pointer_in c.keep_node.new.tree (c.args.level - 1) (c.args.index / w)) c.width-2.ensures.is

pub returns-clause-below : goal.returns-clause-below
returns-clause-below g c = λ told.
    let t = standing (under (g.B.Blocks.shown c.args.blocks.now)) c.args.tree.now in
    result_is g c ∙ child_here g c
    ∙ spells t c.args.level c.args.index c.width.result (c.args.index / fan ^ (c.args.level - 1) % fan) c.args.pointer.now c.in_ok-keep_node.ensures.spells.pointers c.width.ensures.is (c.requires.pointer told) (c.in_ok-keep_node.ensures.spells.children told)
    ∙ next_pointer t c.args.level c.args.index c.requires.low c.requires.high

pub returns-clause-keeps : goal.returns-clause-keeps
returns-clause-keeps g c = λ told.
    let t = standing (under (g.B.Blocks.shown c.args.blocks.now)) c.args.tree.now in
    let u = standing (under (g.B.Blocks.shown c.keep_node.new.blocks)) c.keep_node.new.tree in
    now_kept t u c.args.level (c.args.index / fan ^ c.args.level) c.in_ok-keep_node.ensures.spells.pointers
    (stays t u c.args.level c.args.index c.width.result c.args.pointer.now c.width.ensures.is (c.requires.pointer told) (c.keep_node.ensures.keeps told))
    (subst (λ w. u.nodes c.args.level (c.args.index / w) ≡ Some c.in_ok-keep_node.ensures.spells.pointers) c.width.ensures.is c.in_ok-keep_node.ensures.spells.node)
    c.in_ok-keep_node.ensures.spells.long
    (λ slot. spells t c.args.level c.args.index c.width.result slot c.args.pointer.now c.in_ok-keep_node.ensures.spells.pointers c.width.ensures.is (c.requires.pointer told) (c.in_ok-keep_node.ensures.spells.children told))

pub returns-clause-blank : goal.returns-clause-blank
returns-clause-blank g c = λ none. subst (λ w. IsBlank (kept_at c.keep_node.new.tree c.args.level (c.args.index / w))) c.width.ensures.is (c.in_ok-keep_node.ensures.blank none)

pub returns-in_err-keep_node-clause-others : goal.returns-in_err-keep_node-clause-others
returns-in_err-keep_node-clause-others g c = λ k q differs. ap (option_map (λ (kept : KeptNode). kept.children)) (c.keep_node.ensures.others k q (inl differs))

pub returns-clause-others : goal.returns-clause-others
returns-clause-others g c = λ k q differs. ap (option_map (λ (kept : KeptNode). kept.children)) (c.keep_node.ensures.others k q (inl differs))

pub returns-clause-keeps_ready : goal.returns-clause-keeps_ready
returns-clause-keeps_ready g c = λ here.
    let t = c.args.tree.now in
    let place : c.args.index / c.width.result ≡ c.args.index / fan ^ c.args.level = ap (λ w. c.args.index / w) c.width.ensures.is in
    step_ready t c.keep_node.new.tree c.args.level (c.args.index / c.width.result) c.keep_node.ensures.fields c.keep_node.ensures.others
    (λ some there. c.keep_node.ensures.stays (λ none. some ((λ j. (pointer_in t c.args.level (place j)).stamp) ∙ ap (λ (p : Pointer). p.stamp) (sym here) ∙ none)) there)

pub returns-in_err-keep_node-clause-keeps_ready : goal.returns-in_err-keep_node-clause-keeps_ready
returns-in_err-keep_node-clause-keeps_ready g c = λ here.
    let t = c.args.tree.now in
    let place : c.args.index / c.width.result ≡ c.args.index / fan ^ c.args.level = ap (λ w. c.args.index / w) c.width.ensures.is in
    step_ready t c.keep_node.new.tree c.args.level (c.args.index / c.width.result) c.keep_node.ensures.fields c.keep_node.ensures.others
    (λ some there. c.keep_node.ensures.stays (λ none. some ((λ j. (pointer_in t c.args.level (place j)).stamp) ∙ ap (λ (p : Pointer). p.stamp) (sym here) ∙ none)) there)

pub returns-clause-child : goal.returns-clause-child
returns-clause-child g c = record {
  is = sym (result_is g c);
  leads = λ some.
      leads_on c.keep_node.new.tree c.args.level (c.args.index / c.width.result) (c.args.index / fan ^ (c.args.level - 1) % fan) c.args.pointer.now c.in_ok-keep_node.ensures.spells.pointers c.in_ok-keep_node.ensures.spells.node c.in_ok-keep_node.ensures.blank
      (λ none. some (ap (λ (p : Pointer). p.stamp) (result_is g c ∙ child_here g c) ∙ none));
}

pub returns-in_err-keep_node-clause-loading : goal.returns-in_err-keep_node-clause-loading
returns-in_err-keep_node-clause-loading g c = let old = g.B.Blocks.shown c.args.blocks.now in
    let new = g.B.Blocks.shown c.keep_node.new.blocks in
    let t = standing (under old) c.args.tree.now in
    let place = c.args.index / c.width.result in
    let at : g.B.Blocks.told → pointer_at t c.args.level place ≡ c.args.pointer.now = λ told. (λ j. pointer_at t c.args.level (c.args.index / c.width.ensures.is j)) ∙ sym (c.requires.pointer told) in
    let node = c.in_err-keep_node.ensures in
    let e = c.in_err-keep_node.field-0.0 in
    let p = err_from_is_err_and c.from_residual.result c.from_residual.ensures.1 in
    rw (p.1, p.2) (loading_brought g.B.Blocks.told _ old new c.args.tree.now c.keep_node.new.tree c.args.level place c.args.pointer.now _ c.requires.low at node.keeps node.brings node.fields node.changes (loads_err node.loads)
    (node_fails g.B.Blocks.told t old new c.args.level place c.args.pointer.now e refl c.requires.low c.requires.high at (kept_damage c.args.tree.now c.args.level place e node.held) node.loads.cause))

pub returns-clause-loading : goal.returns-clause-loading
returns-clause-loading g c = let old = g.B.Blocks.shown c.args.blocks.now in
    let new = g.B.Blocks.shown c.keep_node.new.blocks in
    let t = standing (under old) c.args.tree.now in
    let place = c.args.index / c.width.result in
    let at : g.B.Blocks.told → pointer_at t c.args.level place ≡ c.args.pointer.now = λ told. (λ j. pointer_at t c.args.level (c.args.index / c.width.ensures.is j)) ∙ sym (c.requires.pointer told) in
    let node = c.in_ok-keep_node.ensures in
    loading_brought g.B.Blocks.told _ old new c.args.tree.now c.keep_node.new.tree c.args.level place c.args.pointer.now _ c.requires.low at node.keeps node.brings node.fields node.changes (loads_ok _ node.loads) tt

pub keep_node-requires : goal.keep_node-requires
keep_node-requires g c = record {
  right = λ told.
      let old = (g.B.Blocks.shown c.args.blocks.now) in
      node_loads old c.args.tree.now c.args.level (c.args.index / c.width.result) c.args.pointer.now c.requires.low (c.requires.pointer told ∙ sym (λ j. pointer_at (standing (under old) c.args.tree.now) c.args.level (c.args.index / c.width.ensures.is j))) (c.requires.right told);
}
