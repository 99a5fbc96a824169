use Rattle.std.proofs.Common.{◌≡◌, ◌/◌, ◌^◌, ◌+◌, inl, inr, ap, sym, ◌∙◌, Some, arith}
use Rattle.std.proofs.lemmas.Bool.{cases_eq}
use Rattle.fv_model.specs.Trees.{fan}
use Rattle.fv_tree.specs.Standing.{node_in}
use Rattle.fv_tree.proofs.Held.{but_then, put_there, put_elsewhere}
use Rattle.fv_tree.proofs.Newly.{more_blank, more_blanks}
use Rattle.fv_tree.proofs.grow.keep_new_path.Goals as goal

pub loop-below-preserved : goal.loop-below-preserved
loop-below-preserved c =
    let was = c.loop-below.invariant in
    let now = c.in_ok-keep.ensures in
    let made = c.empty_node.ensures in
    let below = c.loop-below.below in
    let at : c.args.index / c.width.result ≡ c.args.index / fan ^ (below + 1) = ap (λ w. c.args.index / w) c.width.ensures.is in record {
      fields = but_then c.args.tree.now c.loop-below.tree c.keep.new.tree was.fields c.keep.ensures.fields;
      changes = let more = c.keep.ensures.unchanged made.changed in omega (arith, was.changes, more);
      way = λ level low le. elim (cases_eq level (below + 1)) [
        | inl e ↦ (λ i. node_in c.keep.new.tree (e i) (c.args.index / fan ^ (e i))) ∙ ap (node_in c.keep.new.tree (below + 1)) (sym at) ∙ put_there c.loop-below.tree c.keep.new.tree (below + 1) (c.args.index / c.width.result) c.empty_node.result.children now.node ∙ ap Some made.children
        | inr differs ↦ put_elsewhere c.loop-below.tree c.keep.new.tree (below + 1) (c.args.index / c.width.result) c.empty_node.result.children now.node level (c.args.index / fan ^ level) (inl differs) ∙ was.way level low (omega arith)
      ];
      brings = more_blank c.args.tree.now c.loop-below.tree c.keep.new.tree c.args.index (below + 1) (c.args.index / c.width.result) c.empty_node.result now.kept at made.children made.changed made.placed was.brings;
      blank = more_blanks c.loop-below.tree c.keep.new.tree c.args.index below (c.args.index / c.width.result) c.empty_node.result now.kept at made.children made.changed made.placed was.blank;
      others = λ level place differs. put_elsewhere c.loop-below.tree c.keep.new.tree (below + 1) (c.args.index / c.width.result) c.empty_node.result.children now.node level place (elim (cases_eq level (below + 1)) [
        | inl e ↦ inr (λ same. differs (same ∙ at ∙ (λ i. c.args.index / fan ^ (sym e i))))
        | inr level ↦ inl level
      ]) ∙ was.others level place differs;
    }
