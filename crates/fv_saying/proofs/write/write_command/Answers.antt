use Rattle.std.proofs.Common.{◌≡◌, ◌∙◌, ℕ, List, [], ◌++◌, ap, rules}
use Rattle.fv_script_laws.proofs.Shown.{shows}
use Rattle.fv_saying.specs.Saying.{block_line, HasBlock}
use Rattle.fv_saying.proofs.Written.{has_block, tells, tells_block}
use Rattle.fv_saying.proofs.write.write_command.Goals as goal

pub returns-in-Put-clause-reads : goal.returns-in-Put-clause-reads
returns-in-Put-clause-reads g c = shows _ (c.spelled-line.ensures.can (has_block _ _ _ _ _ c.in-Put.is c.write_both.ensures.block))

pub returns-in-Put-clause-told : goal.returns-in-Put-clause-told
returns-in-Put-clause-told g c =
    tells_block _ _ _ _ _ _ _ _ _ c.in-Put.is (ap (λ (l : List ℕ). l ++ block_line c.args.command.now) c.as_slice.ensures.value ∙ c.spelled-line.ensures.line) c.write_both.ensures.told

pub returns-in_default-clause-reads : goal.returns-in_default-clause-reads
returns-in_default-clause-reads g c =
    let has : HasBlock c.args.command.now = search rules in
    shows _ (c.spelled-line.ensures.can has)

pub returns-in_default-clause-told : goal.returns-in_default-clause-told
returns-in_default-clause-told g c =
    let none : block_line c.args.command.now ≡ [] = search rules in
    tells _ _ _ _ _ (ap (λ (l : List ℕ). l ++ block_line c.args.command.now) c.as_slice-in_default.ensures.value ∙ c.spelled-line.ensures.line) none
    (record { gives = c.give_all.ensures.gives; any_moment = c.give_all.ensures.any_moment })
