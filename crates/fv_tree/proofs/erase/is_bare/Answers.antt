use Rattle.std.proofs.Common.{◌≡◌, ◌/◌, ◌%◌, List, Some, get_or, sym, ap, ◌∙◌}
use Rattle.std.specs.Option.{option_map}
use Rattle.fv_codec.specs.declared.pointer.Pointer.{Pointer}
use Rattle.fv_model.specs.Trees.{fan}
use Rattle.fv_tree.specs.declared.kept.KeptNode.{KeptNode}
use Rattle.fv_tree.specs.Spelled.{hole}
use Rattle.fv_tree.specs.Standing.{node_in}
use Rattle.fv_tree.proofs.erase.is_bare.Goals as goal

some_same : (xs ys : List Pointer) → Some xs ≡ Some ys → xs ≡ ys
some_same xs ys e = cc

pub returns-in-Some-clause-bare : goal.returns-in-Some-clause-bare
returns-in-Some-clause-bare c = λ bare xs is other differs.
    let node : Some c.in-Some.node.now.children ≡ Some xs =
    ap (option_map (λ (kept : KeptNode). kept.children)) c.in-Some.ensures.value ∙ ap (λ w. node_in c.args.tree.now c.args.level (c.args.index / w)) c.width-2.ensures.is ∙ is in
    ap (λ (ys : List Pointer). (get_or ys other hole).stamp) (sym (some_same c.in-Some.node.now.children xs node))
    ∙ c.has_no_other.ensures.bare bare other (λ e. differs (e ∙ ap (λ w. c.args.index / w % fan) c.width.ensures.is))

pub returns-in-Some-clause-other : goal.returns-in-Some-clause-other
returns-in-Some-clause-other c = λ is_other xs is.
    let node : Some c.in-Some.node.now.children ≡ Some xs =
    ap (option_map (λ (kept : KeptNode). kept.children)) c.in-Some.ensures.value ∙ ap (λ w. node_in c.args.tree.now c.args.level (c.args.index / w)) c.width-2.ensures.is ∙ is in
    let found = c.has_no_other.ensures.other is_other in
    (found.0, (λ e. found.1 (e ∙ sym (ap (λ w. c.args.index / w % fan) c.width.ensures.is))), (λ none. found.2 (ap (λ (ys : List Pointer). (get_or ys found.0 hole).stamp) (some_same c.in-Some.node.now.children xs node) ∙ none)))
