use Rattle.std.proofs.Common.{rules, ◌≡◌, ◌+◌, ◌<◌, ◌++◌, ◌∷◌, [], length, get_or, arith, sym, ap, ◌∙◌}
use Rattle.std.specs.Prelude.{map}
use Rattle.fv_first_pass.specs.Records.{free}
use Rattle.fv_second_pass.specs.Reaching.{roots_if}
use Rattle.fv_third_pass.specs.declared.roots.MapRoot.{MapRoot}
use Rattle.fv_third_pass.specs.Volumes.{root_of}
use Rattle.fv_third_pass.proofs.MapRoots.{few_more, few_none, roots_all, roots_first, roots_more}
use Rattle.fv_third_pass.proofs.roots.roots_of.Goals as goal

pub loop-slot-init : goal.loop-slot-init
loop-slot-init c =
    let none : c.in_ok-roots.roots.items ≡ [] = search rules in
    let active : MapRoot = record { slot = 0; table = record { levels = c.args.label.now.levels; root = c.args.label.now.root } } in
    record {
      roots = ap (map root_of) (c.in_ok-push_root.ensures ∙ ap (λ rs. rs ++ active ∷ []) none) ∙ sym (roots_first c.args.label.now);
      few = few_more c.in_ok-roots.roots.items c.push_root.new.roots.items active c.in_ok-push_root.ensures c.requires.label.levels (few_none c.in_ok-roots.roots.items none);
    }

pub loop-slot-preserved : goal.loop-slot-preserved
loop-slot-preserved c =
    let size = c.requires.long in
    let test = c.loop-slot-test.true in
    let low : c.loop-slot.slot < length c.args.label.now.snapshots = omega (arith, test, size) in
    record {
      roots = c.in_ok-add_root.ensures.roots ∙ ap (λ n. map root_of c.loop-slot.roots.items ++ roots_if (c.loop-slot.slot + 1) (get_or c.args.label.now.snapshots n free)) c.from.ensures ∙ ap (λ rs. rs ++ roots_if (c.loop-slot.slot + 1) (get_or c.args.label.now.snapshots c.loop-slot.slot free)) c.loop-slot.invariant.roots ∙ sym (roots_more c.args.label.now c.loop-slot.slot low);
      few = c.in_ok-add_root.ensures.levels c.loop-slot.invariant.few;
    }

pub returns-clause-roots : goal.returns-clause-roots
returns-clause-roots c =
    let past = c.loop-slot-test.false in
    let size = c.requires.long in
    c.loop-slot.invariant.roots ∙ roots_all c.args.label.now c.loop-slot.slot (omega (arith, past, size))
