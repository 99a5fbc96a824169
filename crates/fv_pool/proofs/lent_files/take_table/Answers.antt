use Rattle.std.proofs.Common.{Option, Some, None, rules, sym, subst, ap, ◌∙◌, ◌≡◌}
use Rattle.fv_files.specs.declared.files.Files.{Files}
use Rattle.fv_files.specs.Apart.{AlikeIn, AreAlike}
use Rattle.fv_files.specs.Tables.{loaded_trees}
use Rattle.fv_files.proofs.Alike.{alike_itself}
use Rattle.fv_pool.specs.Tables.{standing_by, AreLedBy, AreStoredBy, trees_by}
use Rattle.fv_pool.proofs.lent_files.take_table.Goals as goal

pub returns-in-None-clause-table : goal.returns-in-None-clause-table
returns-in-None-clause-table c = λ blocks.
    let none : c.args.files.now ≡ None = search rules in
    c.at.ensures.stored blocks ∙ sym (ap (λ (f : Option Files). standing_by blocks c.args.active.now f) none)

pub returns-in-None-clause-led : goal.returns-in-None-clause-led
returns-in-None-clause-led c = λ blocks used led.
    let none : c.args.files.now ≡ None = search rules in
    c.at.ensures.led blocks used (subst (AreLedBy blocks used c.args.active.now) none led)

pub returns-in-None-clause-well : goal.returns-in-None-clause-well
returns-in-None-clause-well c = λ known blocks well.
    let none : c.args.files.now ≡ None = search rules in
    c.at.ensures.well known blocks (subst (AreStoredBy known blocks c.args.active.now) none well)

pub returns-in-None-clause-alike : goal.returns-in-None-clause-alike
returns-in-None-clause-alike c = λ blocks.
    let none : c.args.files.now ≡ None = search rules in
    subst (λ (f : Option Files). AreAlike (loaded_trees blocks c.at.result) (trees_by blocks c.args.active.now f)) (sym none) (c.at.ensures.alike blocks)

pub returns-in-Some-clause-alike : goal.returns-in-Some-clause-alike
returns-in-Some-clause-alike c = λ blocks a.
    let some : c.args.files.now ≡ Some c.in-Some.table = search rules in
    subst (λ (f : Option Files). AlikeIn (loaded_trees blocks c.in-Some.table a) (trees_by blocks c.args.active.now f a)) (sym some) (alike_itself (loaded_trees blocks c.in-Some.table a))
