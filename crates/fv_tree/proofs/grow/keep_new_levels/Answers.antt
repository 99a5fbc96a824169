use Rattle.std.proofs.Common.{◌/◌, ◌^◌, inl, inr, subst, arith, sym, ap, ◌∙◌}
use Rattle.std.proofs.lemmas.Result.{on_ok_weaker}
use Rattle.fv_codec.specs.declared.pointer.Pointer.{Pointer}
use Rattle.fv_model.specs.Trees.{fan}
use Rattle.fv_tree.specs.Carried.{IsBlank}
use Rattle.fv_tree.proofs.Levels.{not_first, fan_pos}
use Rattle.fv_tree.proofs.Newly.{brings_both}
use Rattle.fv_tree.proofs.Causes.{at_err, at_ok}
use Rattle.fv_tree.proofs.Grown.{new_levels, old_nodes}
use Rattle.fv_tree.proofs.grow.keep_new_levels.Goals as goal

pub returns-clause-grows : goal.returns-clause-grows
returns-clause-grows c =
    let path = c.in_ok-keep_new_path.ensures in
    on_ok_weaker c.keep_grown.result (λ grown. new_levels c.args.tree.now c.keep_new_path.new.tree c.keep_grown.new.tree c.args.levels c.args.index c.args.stamp (sym path.fields.levels) (sym path.fields.root) (λ e. c.if-tree-eq0.false (ap (λ r. r.stamp) path.fields.root ∙ e)) c.requires.past c.requires.least path.way path.others grown c.keep_grown.ensures.others) c.keep_grown.ensures.grown

pub returns-clause-failed : goal.returns-clause-failed
returns-clause-failed c =
    let path = c.in_ok-keep_new_path.ensures in
    at_err c.keep_grown.result (old_nodes c.args.tree.now c.keep_new_path.new.tree c.keep_grown.new.tree c.args.index (sym path.fields.levels) path.others c.keep_grown.ensures.others)

pub returns-clause-blank : goal.returns-clause-blank
returns-clause-blank c =
    let path = c.in_ok-keep_new_path.ensures in
    at_ok c.keep_grown.result (λ level low high first. elim first [
      | inl lt ↦ subst IsBlank (sym (c.keep_grown.ensures.same level (c.args.index / fan ^ level) (inr (not_first c.args.index (fan ^ level) (fan_pos level) (c.requires.least level lt))))) (path.blank level low high)
      | inr none ↦ absurd (c.if-tree-eq0.false (ap (λ (p : Pointer). p.stamp) path.fields.root ∙ none))
    ])

pub returns-clause-tops : goal.returns-clause-tops
returns-clause-tops c =
    let path = c.in_ok-keep_new_path.ensures in
    on_ok_weaker c.keep_grown.result (λ tops _ level lt le. tops level (omega (arith, lt, path.fields.levels)) le) c.keep_grown.ensures.tops

pub returns-clause-brings : goal.returns-clause-brings
returns-clause-brings c =
    let path = c.in_ok-keep_new_path.ensures in
    brings_both c.args.tree.now c.keep_new_path.new.tree c.keep_grown.new.tree c.args.index (λ e. c.if-tree-eq0.false (ap (λ (p : Pointer). p.stamp) path.fields.root ∙ e)) (sym path.fields.levels) path.brings c.keep_grown.ensures.same
