use Rattle.std.proofs.Common.{Option, refl, sym, subst}
use Rattle.fv_charge.specs.declared.delta.Delta.{Delta}
use Rattle.fv_volume.specs.Changing.{IsDeltaBy}
use Rattle.fv_volume.proofs.removing.removal_delta.Goals as goal

pub returns-in-Some : goal.returns-in-Some
returns-in-Some c = record { by = subst (λ (o : Option Delta). IsDeltaBy c.args.ledger.now o c.args.count c.in-Some.delta) (sym c.in-Some.is) refl }

pub returns-in-None : goal.returns-in-None
returns-in-None c =
    let is = c.fewer_blocks.ensures in
    record {
      by = subst (λ (o : Option Delta). IsDeltaBy c.args.ledger.now o c.args.count c.fewer_blocks.result) (sym c.in-None.is) (record {
        charge = is.charge;
        need = is.need;
        size = is.size;
        kind = is.kind;
        can = is.fits;
        less = is.less;
      });
    }
