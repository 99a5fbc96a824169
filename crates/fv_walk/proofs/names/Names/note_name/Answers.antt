use Rattle.std.proofs.Common.{◌≡◌, Some, None, arith}
use Rattle.std.specs.BTreeMap as maps
use Rattle.fv_model.specs.Spelling.{name_cmp}
use Rattle.fv_walk.proofs.Naming.{named_before, named_first}
use Rattle.fv_walk.proofs.names.Names.note_name.Goals as goal

pub returns-in_ok-note-in-Some-clause-names : goal.returns-in_ok-note-in-Some-clause-names
returns-in_ok-note-in-Some-clause-names c =
    let has : maps.get name_cmp c.args.self.now.firsts c.args.name.now ≡ Some c.in-Some.first.now = grind (arith, c.in-Some.ensures.value) in
    named_before c.args.self.now c.args.name.now c.in-Some.first.now c.args.number has

pub returns-in_ok-insert-in-None-clause-names : goal.returns-in_ok-insert-in-None-clause-names
returns-in_ok-insert-in-None-clause-names c =
    let free : maps.get name_cmp c.args.self.now.firsts c.args.name.now ≡ None = grind (arith, c.in-None.ensures.value) in
    named_first c.args.self.now (record { firsts = c.insert.new.self }) c.args.name.now c.args.number free c.in_ok-insert-in-None.ensures.updates.0
