use Rattle.std.proofs.Common.{refl}
use Rattle.fv_third_pass.proofs.MapRoots.{few_levels, few_more, free_root, used_root}
use Rattle.fv_third_pass.proofs.roots.add_root.Goals as goal

pub returns-then-snapshot-eq0-clause-roots : goal.returns-then-snapshot-eq0-clause-roots
returns-then-snapshot-eq0-clause-roots c = free_root c.args.roots.now.items c.args.slot c.args.snapshot.now c.if-snapshot-eq0.true

pub returns-clause-roots : goal.returns-clause-roots
returns-clause-roots c = used_root c.args.roots.now.items c.push_root.new.roots.items c.args.slot c.args.snapshot.now _ c.if-snapshot-eq0.false refl c.in_ok-push_root.ensures

pub returns-clause-levels : goal.returns-clause-levels
returns-clause-levels c = λ few. few_more c.args.roots.now.items c.push_root.new.roots.items _ c.in_ok-push_root.ensures (few_levels c.args.snapshot.now c.requires) few
