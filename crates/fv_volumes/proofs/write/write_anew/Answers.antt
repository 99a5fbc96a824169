use Rattle.std.specs.Prelude.{Ok, Err}
use Rattle.fv_volume.specs.Writing.{IsOther, IsTaken, IsTakenOther}
use Rattle.fv_volumes.proofs.Storing.{blocks_still}
use Rattle.fv_volumes.proofs.Sparing.{failed_as, then_spares}
use Rattle.fv_volumes.proofs.write.write_anew.Goals as goal

pub returns-in_err-write_label-clause-spares : goal.returns-in_err-write_label-clause-spares
returns-in_err-write_label-clause-spares g c =
    let space = c.args.map.now in
    let label = c.args.label in
    failed_as (IsTakenOther space label) _ _ c.in_err-write_label.field-0.0 c.from_residual-in_err-write_label.result
    (then_spares (IsTakenOther space label) (IsTaken space) (IsOther label) _ _ _ (Err c.in_err-write_label.field-0.0) (λ b is. is.0) (λ b is. is.1) c.in_ok-root.ensures.spares c.in_err-write_label.ensures.spares)
    c.from_residual-in_err-write_label.ensures.0

pub returns-clause-spares : goal.returns-clause-spares
returns-clause-spares g c =
    let space = c.args.map.now in
    let label = c.args.label in
    then_spares (IsTakenOther space label) (IsTaken space) (IsOther label) _ _ _ (Ok tt) (λ b is. is.0) (λ b is. is.1) c.in_ok-root.ensures.spares c.in_ok-write_label.ensures.spares

pub returns-clause-written : goal.returns-clause-written
returns-clause-written g c = λ tells can lacks.
    let blocks = c.in_ok-root.ensures in
    let labelled = c.in_ok-write_label.ensures in
    let tells_on = blocks.spares.counted.tells in
    record {
      root = c.in_ok-root.root;
      root_least = blocks.root.0;
      root_greatest = blocks.root.1;
      said = labelled.said (rw tells_on tells);
      blocks = blocks_still c.args.state.now c.args.container.now.map c.args.map.now c.write_blocks.new.map c.in_ok-root.root c.args.label c.write_blocks.new.container.map (g.D.Disk.shown c.write_blocks.new.disk).reads (g.D.Disk.shown c.write_label.new.disk).reads
          (blocks.written tells can) c.requires.taken lacks (λ b other. labelled.spares.reads (rw tells_on tells) b other);
    }
