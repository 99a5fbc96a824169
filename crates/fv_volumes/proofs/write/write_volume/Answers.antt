use Rattle.std.proofs.Common.{◌/◌, ℕ, arith, subst}
use Rattle.std.specs.Prelude.{Ok, Err}
use Rattle.fv_container.specs.Clean.{IsCleanOn}
use Rattle.fv_container.specs.Spelled.{is_at}
use Rattle.fv_image.specs.Views.{entry_count}
use Rattle.fv_volume.specs.Writing.{CanFlush, HasGiven, HasOwnBlocks, IsTaken, IsTakenOther, has_maps_at, on_disk}
use Rattle.fv_volumes.proofs.Counting.{room_for_label}
use Rattle.fv_volumes.proofs.Renewing.{label_free, no_old_node, nodes_next, renewed_volume, spared}
use Rattle.fv_volumes.proofs.Sparing.{failed_value, spares_fewer}
use Rattle.fv_volumes.proofs.write.write_volume.Given as given
use Rattle.fv_volumes.proofs.write.write_volume.Goals as goal

pub take_block-label-requires : goal.take_block-label-requires
take_block-label-requires g c = room_for_label c.args.state.now _ (omega (arith, c.requires.room, c.give_back_maps.ensures.some.given.count))

pub returns-in_err-write_anew-clause-spares : goal.returns-in_err-write_anew-clause-spares
returns-in_err-write_anew-clause-spares g c =
    let space = c.args.map.now in
    let took = c.take_block-label.ensures in
    failed_value (IsTaken (on_disk space)) _ _ c.in_err-write_anew.field-0.0 c.from_residual.result
    (spares_fewer (IsTakenOther c.take_block-label.new.map c.take_block-label.result) (IsTaken (on_disk space)) _ _ (Err c.in_err-write_anew.field-0.0)
    (spared space c.give_back_maps.new.map c.take_block-label.new.map _ c.take_block-label.result c.give_back_maps.ensures.some.given took.drawn took.least) c.in_err-write_anew.ensures.spares)
    c.from_residual.ensures.0

pub returns-clause-spares : goal.returns-clause-spares
returns-clause-spares g c =
    let space = c.args.map.now in
    let took = c.take_block-label.ensures in
    spares_fewer (IsTakenOther c.take_block-label.new.map c.take_block-label.result) (IsTaken (on_disk space)) _ _ (Ok tt)
    (spared space c.give_back_maps.new.map c.take_block-label.new.map _ c.take_block-label.result c.give_back_maps.ensures.some.given took.drawn took.least) c.in_ok-write_anew.ensures.spares

-- the old blocks of the maps were given back, and the old nodes are to be held still
gave : (g : given.Over) (c : goal.After-give_back g) → IsCleanOn (g.D.Disk.shown c.args.disk.now).reads c.args.container.now
    → HasGiven c.args.map.now (has_maps_at c.args.state.now c.args.container.now.map (entry_count c.args.state.now.span)) c.give_back_maps.new.map
gave g c clean = c.give_back_maps.ensures.given (λ v written. clean.here (v / 256) (c.requires.loaded v written))

can : (g : given.Over) (c : goal.After-give_back g) → HasOwnBlocks c.args.state.now c.args.container.now.map c.args.map.now → IsCleanOn (g.D.Disk.shown c.args.disk.now).reads c.args.container.now
    → CanFlush (g.D.Disk.shown c.args.disk.now).reads c.take_block-label.new.map c.args.container.now
can g c own clean = record { next = nodes_next c.args.state.now c.args.map.now c.give_back_maps.new.map c.take_block-label.new.map c.args.container.now.map c.take_block-label.result own (gave g c clean) c.take_block-label.ensures.drawn; clean = clean }

pub returns-clause-written : goal.returns-clause-written
returns-clause-written g c = λ tells own clean.
    let x = c.args.state.now in
    let old = c.args.container.now.map in
    let space = c.args.map.now in
    let drawn = c.take_block-label.new.map in
    let took = c.take_block-label.ensures in
    let wrote = c.in_ok-write_anew.ensures in
    let given_back = gave g c clean in
    renewed_volume x (g.D.Disk.shown c.args.disk.now).reads (g.D.Disk.shown c.write_anew.new.disk).reads space c.give_back_maps.new.map drawn c.write_anew.new.map c.give_back.new.self c.take_block-label.result old c.write_anew.new.container.map own
    given_back took.drawn took.least
    (wrote.written tells (can g c own clean) (no_old_node x space c.give_back_maps.new.map old c.take_block-label.result given_back.committed own (label_free space c.give_back_maps.new.map drawn _ c.take_block-label.result given_back took.drawn took.least)))
    (subst (λ (p : ℕ). HasGiven c.write_anew.new.map (λ b. is_at b p) c.give_back.new.self) c.label_place.ensures c.give_back.ensures)
    wrote.committed wrote.entries (λ b is. wrote.spares.reads tells b is)

pub returns-clause-memory : goal.returns-clause-memory
returns-clause-memory g c = λ tells own clean. c.in_ok-write_anew.ensures.memory tells (can g c own clean)
