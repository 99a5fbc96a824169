use Rattle.std.proofs.Common.{◌≡◌, ℕ, List, [], sym, ap, subst, ◌∙◌}
use Rattle.std.specs.Prelude.{Option}
use Rattle.std.specs.Option.{unwrap_or}
use Rattle.std.specs.BTreeMap as maps
use Rattle.fv_model.specs.Spelling.{name_cmp}
use Rattle.fv_walk.specs.Naming.{name_of, twins, IsNamed}
use Rattle.fv_walk.specs.Noting.{AddsAll}
use Rattle.fv_walk.proofs.Naming.{free_says, free_names, used_says, used_names}
use Rattle.fv_walk.proofs.names.Names.note_record.Goals as goal

pub returns-then-file-eq0-clause-lines : goal.returns-then-file-eq0-clause-lines
returns-then-file-eq0-clause-lines c = λ met is. free_says c.args.block met c.args.number c.args.file.now c.args.lines.now c.if-file-eq0.true

pub returns-then-file-eq0-clause-names : goal.returns-then-file-eq0-clause-names
returns-then-file-eq0-clause-names c = λ met is. free_names c.args.block met c.args.number c.args.file.now c.args.self.now c.if-file-eq0.true is

pub returns-clause-lines : goal.returns-clause-lines
returns-clause-lines c = λ met is.
    let named : c.in-Some.name ≡ name_of c.args.file.now = ap (λ (o : Option (List ℕ)). unwrap_or o []) (sym c.in-Some.is ∙ c.name_in.ensures) in
    used_says c.args.block met c.args.number c.args.file.now c.args.self.now c.args.lines.now c.note_name.new.lines c.in_ok-clean.clean c.if-file-eq0.false is
    (subst (λ (n : List ℕ). AddsAll (twins c.args.block c.args.number (maps.get name_cmp c.args.self.now.firsts n)) c.args.lines.now c.note_name.new.lines c.in_ok-clean.clean)
    named c.in_ok-clean.ensures.lines)

pub returns-clause-names : goal.returns-clause-names
returns-clause-names c = λ met is.
    let named : c.in-Some.name ≡ name_of c.args.file.now = ap (λ (o : Option (List ℕ)). unwrap_or o []) (sym c.in-Some.is ∙ c.name_in.ensures) in
    used_names c.args.block met c.args.number c.args.file.now c.args.self.now c.note_name.new.self c.if-file-eq0.false is
    (subst (λ (n : List ℕ). IsNamed c.args.self.now n c.args.number c.note_name.new.self) named c.in_ok-clean.ensures.names)
