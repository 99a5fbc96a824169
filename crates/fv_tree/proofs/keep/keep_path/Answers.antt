use Rattle.std.proofs.Common.{Ok, ◌≡◌, ◌≢◌, inl, inr, ap, subst, refl, sym, ◌∙◌, arith, ◌+◌, ◌/◌, ◌-◌, ◌^◌}
use Rattle.fv_model.specs.Trees.{fan}
use Rattle.fv_tree.specs.Standing.{standing, under}
use Rattle.std.proofs.Math.Nat.{div-eq_of_lt}
use Rattle.std.proofs.lemmas.Bool.{cases_eq}
use Rattle.fv_codec.specs.declared.pointer.Pointer.{Pointer}
use Rattle.fv_tree.specs.Spelled.{pointer_at}
use Rattle.fv_tree.specs.Flushing.{node_placed, pointer_in}
use Rattle.fv_tree.specs.Carried.{kept_at, IsBlank}
use Rattle.fv_tree.proofs.Brought.{blank_unplaced}
use Rattle.fv_tree.proofs.Held.{at_root, kept_from}
use Rattle.fv_tree.proofs.Leading.{carries_same}
use Rattle.fv_tree.proofs.Readied.{pointer_as, pointer_top}
use Rattle.fv_tree.proofs.StillReady.{node_there, ready_then}
use Rattle.std.proofs.lemmas.Result.{err_from_is_err_and}
use Rattle.fv_tree.proofs.Calls.{loading_none, loading_ok, loading_then}
use Rattle.fv_tree.proofs.Right.{right_loaded}
use Rattle.fv_tree.proofs.keep.keep_path.Goals as goal

pub loop-level-init : goal.loop-level-init
loop-level-init g c =
    let t = standing (under (g.B.Blocks.shown c.args.blocks.now)) c.args.tree.now in record {
      high = omega arith;
      pointer = λ _. at_root t c.args.index c.requires.index;
      kept = λ _ k lt le. absurd (omega arith);
      unplaced = λ _ k lt le. absurd (omega arith);
      way = λ some k low high.
          let at : k ≡ c.args.tree.now.levels = omega (arith, low, high) in
          let first : c.args.index / fan ^ k ≡ 0 = (λ j. c.args.index / fan ^ at j) ∙ div-eq_of_lt c.requires.index in
          λ none. some (ap (λ (p : Pointer). p.stamp) (sym (pointer_top c.args.tree.now k (c.args.index / fan ^ k) at first)) ∙ none);
      keeps_ready = λ _ ready. ready;
      here = sym (pointer_top c.args.tree.now c.args.tree.now.levels (c.args.index / fan ^ c.args.tree.now.levels) refl (div-eq_of_lt c.requires.index));
      below = λ _ _ _. refl;
      loading = loading_none g.B.Blocks.told (g.B.Blocks.shown c.args.blocks.now) c.args.tree.now (Ok 0) (g.met.B.Blocks.reads_nothing c.args.blocks.now) tt;
    }

pub loop-level-preserved : goal.loop-level-preserved
loop-level-preserved g c =
    let s = standing (under (g.B.Blocks.shown c.args.blocks.now)) c.args.tree.now in
    let t = standing (under (g.B.Blocks.shown c.loop-level.blocks)) c.loop-level.tree in
    let u = standing (under (g.B.Blocks.shown c.keep_step.new.blocks)) c.keep_step.new.tree in
    let old = under (g.B.Blocks.shown c.args.blocks.now) in
    let now = c.in_ok-pointer.ensures in
    let was = c.loop-level.invariant in record {
      high = omega arith;
      pointer = λ told. now.below told ∙ sym ((now.loading.same told).pointers (c.loop-level.level - 1) (c.args.index / fan ^ (c.loop-level.level - 1)));
      kept = λ told k lt le. kept_from t u c.loop-level.level c.args.index (omega arith) (now.loading.same told) now.others (now.keeps told) (λ k lt le. was.kept told k lt (omega (arith, le, was.loading.fields.levels))) k lt (omega (arith, le, was.loading.fields.levels));
      unplaced = λ told k lt le none. elim (cases_eq k c.loop-level.level) [
        | inl e ↦ blank_unplaced c.keep_step.new.tree k (c.args.index / fan ^ k) (subst (λ n. IsBlank (kept_at c.keep_step.new.tree n (c.args.index / fan ^ n))) (sym e) (now.blank
            (ap (λ (p : Pointer). p.stamp) (was.pointer told ∙ (was.loading.same told).pointers c.loop-level.level (c.args.index / fan ^ c.loop-level.level) ∙ (λ i. pointer_at s (sym e i) (c.args.index / fan ^ (sym e i)))) ∙ none)))
        | inr differs ↦ ap node_placed ((now.brings told).others k (c.args.index / fan ^ k) (inl differs)) ∙ was.unplaced told k (omega arith) le none
      ];
      way = λ some k low high. elim (cases_eq k (c.loop-level.level - 1)) [
        | inl e ↦ λ none. some (ap (λ (p : Pointer). p.stamp) (sym now.child.is ∙ (λ j. pointer_in c.keep_step.new.tree (sym e j) (c.args.index / fan ^ (sym e j)))) ∙ none)
        | inr differs ↦ λ none. was.way (now.child.leads some) k (omega (arith, low, differs)) high
            (ap (λ (p : Pointer). p.stamp) (sym (pointer_as c.loop-level.tree c.keep_step.new.tree k (c.args.index / fan ^ k) now.loading.fields.levels now.loading.fields.root (λ _. now.others (k + 1) (c.args.index / fan ^ k / fan) (let apart : k + 1 ≢ c.loop-level.level = λ e. absurd (omega (arith, e, low, differs)) in apart)))) ∙ none)
      ];
      keeps_ready = ready_then c.args.tree.now c.loop-level.tree c.keep_step.new.tree was.keeps_ready (now.keeps_ready was.here);
      here = sym now.child.is;
      below = λ k place le. let differs : k ≢ c.loop-level.level = λ e. absurd (omega (arith, e, le)) in now.others k place differs ∙ was.below k place (omega (arith, le));
      loading = loading_ok 0 (loading_then (g.met.B.Blocks.reads_on c.args.blocks.now c.loop-level.blocks c.keep_step.new.blocks) was.loading now.loading);
    }

pub returns-in_err-pointer-clause-keeps_ready : goal.returns-in_err-pointer-clause-keeps_ready
returns-in_err-pointer-clause-keeps_ready g c =
    let was = c.loop-level.invariant in
    ready_then c.args.tree.now c.loop-level.tree c.keep_step.new.tree was.keeps_ready (c.keep_step.ensures.keeps_ready was.here)

pub returns-in_err-pointer-clause-held : goal.returns-in_err-pointer-clause-held
returns-in_err-pointer-clause-held g c = λ way.
    let was = c.loop-level.invariant in
    let level = c.loop-level.level in
    let place = c.args.index / fan ^ level in
    let node = way level (omega arith) (omega (arith, was.high)) in
    let p = err_from_is_err_and c.from_residual.result c.from_residual.ensures.1 in
    rw (p.1, p.2) (c.in_err-pointer.ensures.held (node_there c.loop-level.tree level place node.0 (was.below level place (omega arith) ∙ node.1)))

pub returns-in_err-pointer-clause-loading : goal.returns-in_err-pointer-clause-loading
returns-in_err-pointer-clause-loading g c = let p = err_from_is_err_and c.from_residual.result c.from_residual.ensures.1 in
    rw (p.1, p.2) (loading_then (g.met.B.Blocks.reads_on c.args.blocks.now c.loop-level.blocks c.keep_step.new.blocks) c.loop-level.invariant.loading c.in_err-pointer.ensures.loading)

pub returns-in_err-pointer-clause-carries : goal.returns-in_err-pointer-clause-carries
returns-in_err-pointer-clause-carries g c = λ told.
    let did = returns-in_err-pointer-clause-loading g c in
    carries_same (g.B.Blocks.shown c.args.blocks.now) (g.B.Blocks.shown c.keep_step.new.blocks) c.args.tree.now c.keep_step.new.tree did.untouched (did.same told) (did.blocks told) (did.stands told)

pub returns-clause-loading : goal.returns-clause-loading
returns-clause-loading g c = loading_ok _ c.loop-level.invariant.loading

pub returns-clause-carries : goal.returns-clause-carries
returns-clause-carries g c = λ told.
    let did = c.loop-level.invariant.loading in
    carries_same (g.B.Blocks.shown c.args.blocks.now) (g.B.Blocks.shown c.loop-level.blocks) c.args.tree.now c.loop-level.tree did.untouched (did.same told) (did.blocks told) (did.stands told)

pub keep_step-requires-clause-right : goal.keep_step-requires-clause-right
keep_step-requires-clause-right g c = λ told. right_loaded c.loop-level.invariant.loading told (c.requires.right told)
