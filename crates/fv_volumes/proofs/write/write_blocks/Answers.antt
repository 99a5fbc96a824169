use Rattle.std.proofs.Common.{length, ◌∙◌, ap}
use Rattle.std.specs.Prelude.{Ok, Err}
use Rattle.fv_container.specs.Flushed.{WasTaken}
use Rattle.fv_aggmap.specs.Freeing.{room_of}
use Rattle.fv_image.specs.Views.{entry_count}
use Rattle.fv_volume.specs.Writing.{IsTaken, has_maps_at}
use Rattle.fv_volumes.proofs.Counting.{blocks_taken, room_for_maps, room_for_tree}
use Rattle.fv_volumes.proofs.Storing.{blocks_written, memory_right, was_taken}
use Rattle.fv_volumes.proofs.Sparing.{failed_value, then_spares}
use Rattle.fv_volumes.proofs.write.write_blocks.Goals as goal

pub write_maps-requires-clause-room : goal.write_maps-requires-clause-room
write_maps-requires-clause-room g c = room_for_maps c.args.state.now _ c.requires.space.room

pub flush-requires-clause-room : goal.flush-requires-clause-room
flush-requires-clause-room g c =
    let x = c.args.state.now in
    room_for_tree x c.write_maps.new.container c.write_maps.ensures.entries c.args.map.now c.write_maps.new.map c.requires.space.size (has_maps_at x c.write_maps.new.container.map (entry_count x.span)) c.in_ok-write_maps.ensures.drawn c.requires.space.room

pub returns-in_err-root-clause-spares : goal.returns-in_err-root-clause-spares
returns-in_err-root-clause-spares g c =
    let x = c.args.state.now in
    let s0 = c.args.map.now in
    let s1 = c.write_maps.new.map in
    failed_value (IsTaken s0) _ _ c.in_err-root.field-0.0 c.from_residual-in_err-root.result
    (then_spares (IsTaken s0) (IsTaken s0) (WasTaken (room_of s1)) _ _ _ (Err c.in_err-root.field-0.0) (λ b is. is)
    (λ b is. was_taken s0 s1 (has_maps_at x c.write_maps.new.container.map (entry_count x.span)) _ b c.in_ok-write_maps.ensures.drawn is) c.in_ok-write_maps.ensures.spares c.in_err-root.ensures.writes)
    c.from_residual-in_err-root.ensures.0

pub returns-clause-spares : goal.returns-clause-spares
returns-clause-spares g c =
    let x = c.args.state.now in
    let s0 = c.args.map.now in
    let s1 = c.write_maps.new.map in
    then_spares (IsTaken s0) (IsTaken s0) (WasTaken (room_of s1)) _ _ _ (Ok tt) (λ b is. is)
    (λ b is. was_taken s0 s1 (has_maps_at x c.write_maps.new.container.map (entry_count x.span)) _ b c.in_ok-write_maps.ensures.drawn is) c.in_ok-write_maps.ensures.spares c.in_ok-root.ensures.writes

pub returns-clause-count : goal.returns-clause-count
returns-clause-count g c =
    let x = c.args.state.now in
    blocks_taken x c.write_maps.new.container c.write_maps.ensures.entries c.args.map.now c.write_maps.new.map c.requires.space.size (has_maps_at x c.write_maps.new.container.map (entry_count x.span)) c.in_ok-write_maps.ensures.drawn
    c.flush.new.map _ _ c.in_ok-root.ensures.moved.map c.in_ok-root.ensures.moved.count

pub returns-clause-written : goal.returns-clause-written
returns-clause-written g c = λ tells can.
    let x = c.args.state.now in
    let mapped = c.in_ok-write_maps.ensures in
    let flushed = c.in_ok-root.ensures in
    let tells_on = mapped.spares.counted.tells in
    blocks_written x c.args.container.now c.args.map.now c.write_maps.new.map c.flush.new.map c.in_ok-root.root c.write_maps.new.container c.flush.new.self
    (g.D.Disk.shown c.write_maps.new.disk).reads (g.D.Disk.shown c.flush.new.disk).reads
    mapped.map (mapped.bits tells) mapped.drawn c.write_maps.ensures.tree c.flush.ensures.entries c.flush.ensures.valid.0 flushed.moved.map
    (λ apart clean. flushed.flushed (rw tells_on tells) apart clean) (λ apart clean. flushed.over (rw tells_on tells) apart clean) (ap length c.flush.ensures.entries ∙ c.write_maps.ensures.entries)
    (λ b is. flushed.writes.reads (rw tells_on tells) b is) (g.D.Disk.shown c.args.disk.now).reads can c.write_maps.ensures.clean (λ b is. mapped.spares.reads tells b is)

pub returns-clause-memory : goal.returns-clause-memory
returns-clause-memory g c = λ tells can.
    let x = c.args.state.now in
    let mapped = c.in_ok-write_maps.ensures in
    let flushed = c.in_ok-root.ensures in
    let tells_on = mapped.spares.counted.tells in
    memory_right x c.args.container.now c.args.map.now c.write_maps.new.map c.flush.new.map c.in_ok-root.root c.write_maps.new.container c.flush.new.self
    (g.D.Disk.shown c.write_maps.new.disk).reads (g.D.Disk.shown c.flush.new.disk).reads
    mapped.map (mapped.bits tells) mapped.drawn c.write_maps.ensures.tree c.flush.ensures.entries c.flush.ensures.valid.0 flushed.moved.map
    (λ apart clean. flushed.flushed (rw tells_on tells) apart clean) (λ apart clean. flushed.over (rw tells_on tells) apart clean) (ap length c.flush.ensures.entries ∙ c.write_maps.ensures.entries)
    (λ b is. flushed.writes.reads (rw tells_on tells) b is) (g.D.Disk.shown c.args.disk.now).reads can c.write_maps.ensures.clean (λ b is. mapped.spares.reads tells b is)
