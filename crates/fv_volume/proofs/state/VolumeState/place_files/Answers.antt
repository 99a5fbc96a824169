use Rattle.std.proofs.Common.{arith}
use Rattle.fv_volume.proofs.Spending.{may_fail, place_cause, spends_held}
use Rattle.fv_volume.proofs.state.VolumeState.place_files.Goals as goal

pub returns-clause-placed : goal.returns-clause-placed
returns-clause-placed g c =
    let did = c.flush-flushed.ensures in
    record {
      keeps = did.keeps;
      ready = did.ready;
      changed = did.files.changed;
      idle = λ none. let all = did.idle none in (all.0, all.1.0);
      standing = λ is. (did.places is).standing;
      volume = λ is. (did.places is).volume;
      led = λ is. (did.places is).led;
      well = λ is led well. (did.places is).well led well;
      unused = did.unused;
      room = c.room_to_place-room.result;
      rest = c.flush-flushed.new.room;
      goes = did.goes;
      spent = λ is. spends_held (g.D.Disk.shown c.args.disk.now) (g.D.Disk.shown c.flush-flushed.new.disk) c.args.pool.now c.args.self.now c.room_to_place-room.result c.flush-flushed.new.pool c.flush-flushed.new.self c.flush-flushed.new.room c.room_to_place-room.ensures.exact
          (λ none. let all = did.idle none in (all.0, all.1.0)) did.goes (did.places is).fits;
    }

pub returns-clause-idle : goal.returns-clause-idle
returns-clause-idle g c = λ none. (c.flush-flushed.ensures.idle none).1.1.1

pub returns-clause-fails : goal.returns-clause-fails
returns-clause-fails g c =
    may_fail (g.D.Disk.shown c.args.disk.now) c.args.pool.now c.args.self.now c.room_to_place-room.result (g.D.Disk.shown c.flush-flushed.new.disk).faults c.flush-flushed.new.room c.flush-flushed.result
    (λ filed numbers blocks. let exact = c.room_to_place-room.ensures.exact filed in omega (arith, exact, numbers, blocks)) c.flush-flushed.ensures.enough c.flush-flushed.ensures.files.filed c.flush-flushed.ensures.cause

pub returns-clause-whole : goal.returns-clause-whole
returns-clause-whole g c = c.known_maps.ensures

pub returns-clause-cause : goal.returns-clause-cause
returns-clause-cause g c =
    place_cause (g.D.Disk.shown c.args.disk.now) (g.D.Disk.shown c.flush-flushed.new.disk) c.args.pool.now c.args.self.now c.room_to_place-room.result c.flush-flushed.new.room c.flush-flushed.result
    c.flush-flushed.ensures.cause
