use Rattle.std.proofs.Common.{◌∙◌, replicate, sym, ap, subst}
use Rattle.std.proofs.lemmas.List.{with_items_is}
use Rattle.fv_first_pass.specs.Filled.{IsRead}
use Rattle.fv_first_pass.proofs.Entries.{is_read}
use Rattle.fv_first_pass.proofs.container.read_row.Goals as goal

pub returns-clause-entries : goal.returns-clause-entries
returns-clause-entries g c = λ tells.
    subst (λ row. IsRead (g.D.Disk.shown c.args.disk.now).reads c.args.site.now row) (sym (with_items_is c.in_ok-row.row c.read_node.new.entries (c.read_node.auto.entries ∙ c.deref_mut.ensures.len)))
    (is_read (g.D.Disk.shown c.args.disk.now).reads c.args.site.now _ c.read_node.new.entries
    (c.deref_mut.ensures.value ∙ c.in_ok-row.ensures.items_if_clones_equal (λ y is. is) ∙ ap (λ n. replicate n 0) c.entry_count-count.ensures.value) (c.in_ok-read_node.ensures.filled tells))
