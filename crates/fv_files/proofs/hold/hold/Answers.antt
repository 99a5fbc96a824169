use Rattle.std.proofs.Common.{◌≡◌, true, false, arith, rules}
use Rattle.std.specs.Prelude.{is_some}
use Rattle.std.specs.Ordering.{nat_cmp}
use Rattle.std.specs.BTreeMap as maps
use Rattle.std.proofs.lemmas.Result.{on_ok_weaker}
use Rattle.fv_files.proofs.Prepared.{holds_already, holds_new}
use Rattle.fv_files.proofs.hold.hold.Goals as goal

pub returns-then-is_some-clause-holds : goal.returns-then-is_some-clause-holds
returns-then-is_some-clause-holds c =
    let there : is_some (maps.get nat_cmp c.args.trees.now c.args.info.now.number) ≡ true = search rules in
    holds_already c.args.trees.now c.args.info.now there

pub returns-clause-holds : goal.returns-clause-holds
returns-clause-holds c =
    let none : is_some (maps.get nat_cmp c.args.trees.now c.args.info.now.number) ≡ false = search rules in
    on_ok_weaker c.insert.result (λ inserted. holds_new c.args.trees.now c.insert.new.trees c.args.info.now c.stored_tree.result none (record { is = c.stored_tree.ensures.stored; stands = c.stored_tree.ensures.stands; pending = c.stored_tree.ensures.pending }) inserted) c.insert.ensures.inserted

pub returns-clause-cost : goal.returns-clause-cost
returns-clause-cost c = let none = c.stored_tree.ensures.pending in omega (arith, none, c.insert.ensures.cost)
