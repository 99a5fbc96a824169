use Rattle.std.proofs.Common.{◌%◌, sym, ap, ◌∙◌}
use Rattle.std.specs.Prelude.{is_some}
use Rattle.fv_tables.specs.Told.{free_record}
use Rattle.fv_inode.proofs.Readied.{in_use}
use Rattle.fv_inode.proofs.Single.{single, none_formed, own_single, held_in}
use Rattle.fv_inode.proofs.ready.has_record.Goals as goal

pub returns-then-not-has_form : goal.returns-then-not-has_form
returns-then-not-has_form c = λ blocks.
    let n = c.args.number in
    let block = c.content.new.into in
    ap is_some (held_in c.args.tree.now n block c.requires.ready c.content.ensures.memory blocks ∙ none_formed block (n % 16) (sym c.has_form.ensures ∙ c.if-not-has_form.true))

pub returns : goal.returns
returns c = λ blocks.
    let n = c.args.number in
    let block = c.content.new.into in
    let one = single block (n % 16) c.record.result (sym c.has_form.ensures ∙ c.if-not-has_form.false) (c.record.ensures.file free_record) in
    ap is_some (held_in c.args.tree.now n block c.requires.ready c.content.ensures.memory blocks ∙ own_single block (n % 16) c.record.result one)
    ∙ in_use c.record.result
