use Rattle.std.proofs.Common.{◌≡◌, ℕ, sym, subst}
use Rattle.std.specs.Prelude.{IsTrue}
use Rattle.fv_root.specs.Formatted.{IsSize}
use Rattle.fv_volume_rows.proofs.Fitting.{are_ready, each_ready}
use Rattle.fv_point_rows.proofs.points.point.Goals as goal

pub full_point-requires-clause-ready : goal.full_point-requires-clause-ready
full_point-requires-clause-ready g c = are_ready (g.D.Disk.shown c.args.disk.now) c.args.pool.now c.args.volumes.now c.requires.held

pub returns-clause-held : goal.returns-clause-held
returns-clause-held g c =
    let on = c.in_ok-full_point.ensures.goes_on in
    record {
      long = on.fit.housed.long;
      size = subst IsSize (sym on.blocks) c.requires.held.size;
      stands = on.stands;
      labelled = on.fit.housed.volumes;
      ready = each_ready (g.D.Disk.shown c.full_point.new.disk) c.full_point.new.pool c.full_point.new.volumes on.ready;
    }

pub returns-clause-fit : goal.returns-clause-fit
returns-clause-fit g c =
    let on = c.in_ok-full_point.ensures.goes_on in
    record { fit = on.fit; root = λ tells. on.found (subst IsTrue c.full_point.ensures.counts.tells tells) }
