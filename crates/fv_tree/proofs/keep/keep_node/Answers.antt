use Rattle.std.proofs.Common.{inl, inr, get_or, List, ap, sym, refl, ◌∙◌}
use Rattle.std.specs.FinMap as fin
use Rattle.std.proofs.lemmas.Result.{on_ok_weaker}
use Rattle.fv_tree.proofs.Brought.{brought, but_one, blank_now}
use Rattle.fv_codec.specs.declared.pointer.Pointer.{Pointer}
use Rattle.fv_tree.specs.Spelled.{hole}
use Rattle.fv_tree.specs.Standing.{standing, under}
use Rattle.fv_tree.proofs.Held.{kept_as, empty_as, read_as}
use Rattle.fv_tree.proofs.Spelling.{not_held, not_there, spells_held, spells_put}
use Rattle.fv_tree.proofs.keep.keep_node.Goals as goal

pub returns-then-pointer-eq0-clause-keeps : goal.returns-then-pointer-eq0-clause-keeps
returns-then-pointer-eq0-clause-keeps g c = λ told.
    let old = under (g.B.Blocks.shown c.args.blocks.now) in
    kept_as old old refl c.args.tree.now c.keep.new.tree c.args.level c.args.place c.args.pointer.now _ c.keep.result c.keep.ensures.fields c.keep.ensures.node c.keep.ensures.failed c.empty_node.result.long (λ slot. ap (λ (ys : List Pointer). get_or ys slot hole) c.empty_node.ensures.children ∙ empty_as (standing old c.args.tree.now) c.args.level c.args.place c.args.pointer.now c.if-pointer-eq0.true slot)

pub returns-then-pointer-eq0-clause-spells : goal.returns-then-pointer-eq0-clause-spells
returns-then-pointer-eq0-clause-spells g c =
    let old = under (g.B.Blocks.shown c.args.blocks.now) in
    spells_put g.B.Blocks.told old old c.args.tree.now c.keep.new.tree c.args.level c.args.place c.args.pointer.now c.empty_node.result.children c.keep.result c.keep.ensures.node c.empty_node.result.long
    (λ told slot. ap (λ (ys : List Pointer). get_or ys slot hole) c.empty_node.ensures.children ∙ empty_as (standing old c.args.tree.now) c.args.level c.args.place c.args.pointer.now c.if-pointer-eq0.true slot)

pub returns-then-contains_key-clause-spells : goal.returns-then-contains_key-clause-spells
returns-then-contains_key-clause-spells g c =
    let old = under (g.B.Blocks.shown c.args.blocks.now) in
    spells_held g.B.Blocks.told old c.args.tree.now c.args.level c.args.place c.args.pointer.now c.if-pointer-eq0.false _ refl (sym c.contains_key.ensures ∙ c.if-contains_key.true)

pub returns-clause-spells : goal.returns-clause-spells
returns-clause-spells g c =
    let old = under (g.B.Blocks.shown c.args.blocks.now) in
    spells_put g.B.Blocks.told old (under (g.B.Blocks.shown c.load_node.new.blocks)) c.args.tree.now c.keep-2.new.tree c.args.level c.args.place c.args.pointer.now c.read_node.result.children c.keep-2.result c.keep-2.ensures.node c.read_node.result.long
    (λ told slot. ap (λ (ys : List Pointer). get_or ys slot hole) c.read_node.ensures.children ∙ read_as (standing old c.args.tree.now) c.args.level c.args.place c.args.pointer.now _ c.if-pointer-eq0.false (not_held _ (sym c.contains_key.ensures ∙ c.if-contains_key.false)) (c.in_ok-node.ensures.node told) slot)

pub returns-clause-keeps : goal.returns-clause-keeps
returns-clause-keeps g c = λ told.
    let old = under (g.B.Blocks.shown c.args.blocks.now) in
    let new = under (g.B.Blocks.shown c.load_node.new.blocks) in
    kept_as old new (ap (λ h v. fin.get h v) c.in_ok-node.ensures.untouched.held) c.args.tree.now c.keep-2.new.tree c.args.level c.args.place c.args.pointer.now _ c.keep-2.result c.keep-2.ensures.fields c.keep-2.ensures.node c.keep-2.ensures.failed c.read_node.result.long
    (λ slot. ap (λ (ys : List Pointer). get_or ys slot hole) c.read_node.ensures.children ∙ read_as (standing old c.args.tree.now) c.args.level c.args.place c.args.pointer.now _ c.if-pointer-eq0.false (not_held _ (sym c.contains_key.ensures ∙ c.if-contains_key.false)) (c.in_ok-node.ensures.node told) slot)

pub returns-then-pointer-eq0-clause-brings : goal.returns-then-pointer-eq0-clause-brings
returns-then-pointer-eq0-clause-brings g c = λ told.
    let made = c.empty_node.ensures in
    brought (under (g.B.Blocks.shown c.args.blocks.now)) c.args.tree.now c.keep.new.tree c.args.level c.args.place c.args.pointer.now c.empty_node.result c.keep.result c.keep.ensures.kept c.keep.ensures.same
    (λ is. inl (c.if-pointer-eq0.true, record { node = c.empty_node.result; is = is; children = made.children; changed = made.changed; placed = made.placed }))

pub returns-then-pointer-eq0-clause-blank : goal.returns-then-pointer-eq0-clause-blank
returns-then-pointer-eq0-clause-blank g c =
    let made = c.empty_node.ensures in
    on_ok_weaker c.keep.result (λ blank _. blank) (blank_now c.args.tree.now c.keep.new.tree c.args.level c.args.place c.empty_node.result c.keep.result made.children made.changed made.placed c.keep.ensures.kept)

pub returns-clause-brings : goal.returns-clause-brings
returns-clause-brings g c = λ told.
    let made = c.read_node.ensures in
    brought (under (g.B.Blocks.shown c.args.blocks.now)) c.args.tree.now c.keep-2.new.tree c.args.level c.args.place c.args.pointer.now c.read_node.result c.keep-2.result c.keep-2.ensures.kept c.keep-2.ensures.same
    (λ is. inr (c.if-pointer-eq0.false, not_there _ (sym c.contains_key.ensures ∙ c.if-contains_key.false), record { node = c.read_node.result; is = is; spelled = c.in_ok-node.ensures.node told ∙ sym made.children; changed = made.changed; placed = made.placed }))

pub returns-then-pointer-eq0-clause-others : goal.returns-then-pointer-eq0-clause-others
returns-then-pointer-eq0-clause-others g c =
    but_one c.args.tree.now c.keep.new.tree c.args.level c.args.place c.empty_node.result c.keep.result c.keep.ensures.kept c.keep.ensures.same

pub returns-clause-others : goal.returns-clause-others
returns-clause-others g c =
    but_one c.args.tree.now c.keep-2.new.tree c.args.level c.args.place c.read_node.result c.keep-2.result c.keep-2.ensures.kept c.keep-2.ensures.same
