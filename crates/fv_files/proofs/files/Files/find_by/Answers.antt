use Rattle.std.proofs.Common.{sym, ◌∙◌}
use Rattle.std.proofs.lemmas.Result.{IfOk-weaker}
use Rattle.fv_inode.specs.Files.{Finds}
use Rattle.fv_files.specs.Tables.{table_in}
use Rattle.fv_files.proofs.Numbering.{finds_none, finds_some}
use Rattle.fv_files.proofs.files.Files.find_by.Goals as goal

pub returns-in-None-clause-found : goal.returns-in-None-clause-found
returns-in-None-clause-found g c = λ told.
    finds_none (table_in (g.B.Blocks.shown c.args.blocks.now) c.args.self.now) c.args.numbers.now (c.requires.numbers told) c.args.name.now (sym c.get.ensures ∙ c.in-None.is)

pub returns-in-Some-clause-found : goal.returns-in-Some-clause-found
returns-in-Some-clause-found g c = λ told.
    let x = table_in (g.B.Blocks.shown c.args.blocks.now) c.args.self.now in
    IfOk-weaker c.look_held.result _ (Finds x.inode c.args.name.now) (λ o is. finds_some x c.args.numbers.now (c.requires.numbers told) c.args.name.now c.in-Some.number o (sym c.get.ensures ∙ c.in-Some.is) is) (c.look_held.ensures.found told)
