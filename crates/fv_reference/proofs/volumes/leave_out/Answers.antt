use Rattle.std.proofs.Common.{◌≡◌, sym, ◌∙◌, true}
use Rattle.fv_model.specs.Places.{id_cmp}
use Rattle.fv_reference.specs.Maps.{set_of}
use Rattle.fv_reference.proofs.Finite.{difference_end}
use Rattle.fv_laws.proofs.Orders.{id_total, id_ties}
use Rattle.fv_reference.proofs.volumes.leave_out.Goals as goal

pub returns-in-None : goal.returns-in-None
returns-in-None c = rw c.in-None.is (sym (difference_end id_total id_ties (set_of id_cmp c.args.ids.now)))

pub returns-then-is_splitting : goal.returns-then-is_splitting
returns-then-is_splitting c =
    let splits : c.in-Some.base.splitting ≡ true = sym c.is_splitting.ensures ∙ c.if-is_splitting.true in
    rw c.in-Some.is (rw splits (sym (difference_end id_total id_ties (set_of id_cmp c.args.ids.now))))
