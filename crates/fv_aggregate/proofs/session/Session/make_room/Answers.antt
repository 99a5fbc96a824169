use Rattle.std.proofs.Common.{arith, refl}
use Rattle.fv_aggregate.specs.Commands.{AsksNothing}
use Rattle.fv_aggregate.proofs.Applied.{rests_for}
use Rattle.fv_aggregate.proofs.Applying.{pointed_files, pointed_same}
use Rattle.fv_aggregate.proofs.Calls.{asks_within, goes_more, rests_asks, rests_done}
use Rattle.fv_aggregate.proofs.Holes.{passes_limit}
use Rattle.fv_aggregate.proofs.session.Session.make_room.Goals as goal

pub returns-then-has_room-clause-runs : goal.returns-then-has_room-clause-runs
returns-then-has_room-clause-runs g c = record {
  goes = rests_done tt c.args.room (g.D.Disk.shown c.args.disk.now) c.args.self.now c.requires.fresh c.requires.stands;
  asks = rests_asks c.args.room (g.D.Disk.shown c.args.disk.now) c.args.self.now;
  damage = tt;
  goes_for = λ tells last m stands. rests_for tt (g.D.Disk.shown c.args.disk.now) c.args.self.now last m m (g.met.D.Disk.laws c.args.disk.now) refl stands;
  numbers = λ alive s known. known;
}

pub returns-then-has_room-clause-holding : goal.returns-then-has_room-clause-holding
returns-then-has_room-clause-holding g c = record { files = λ tells without. without; same = λ tells same. same }

pub returns-else-has_room-clause-runs : goal.returns-else-has_room-clause-runs
returns-else-has_room-clause-runs g c =
    let runs = c.point.ensures in
    record {
      goes = goes_more AsksNothing c.args.room (g.D.Disk.shown c.args.disk.now) c.args.self.now (g.D.Disk.shown c.point.new.disk) c.point.new.self c.point.result (c.requires.some, passes_limit c.args.self.now.pending c.args.room _ c.has_room.ensures c.if-has_room.false) runs.goes;
      asks = asks_within 0 c.args.room (omega arith) (g.D.Disk.shown c.args.disk.now) c.args.self.now (g.D.Disk.shown c.point.new.disk) c.point.new.self runs.asks;
      damage = runs.damage;
      goes_for = runs.goes_for;
      numbers = runs.numbers;
    }

pub returns-else-has_room-clause-holding : goal.returns-else-has_room-clause-holding
returns-else-has_room-clause-holding g c = record {
  files = λ tells without. pointed_files (g.D.Disk.shown c.args.disk.now) c.args.self.now c.point.new.self c.point.result c.point.ensures.points.left tells;
  same = λ tells same. pointed_same (g.D.Disk.shown c.args.disk.now) c.args.self.now c.point.new.self c.point.result c.point.ensures.points.left tells;
}

pub returns-else-has_room-clause-room : goal.returns-else-has_room-clause-room
returns-else-has_room-clause-room g c = λ tells last m stands fits. c.point.ensures.room tells last m stands fits

pub returns-then-has_room-clause-cores : goal.returns-then-has_room-clause-cores
returns-then-has_room-clause-cores g c = λ s. refl

pub returns-else-has_room-clause-reclaimed : goal.returns-else-has_room-clause-reclaimed
returns-else-has_room-clause-reclaimed g c = λ tells last m stands past. c.point.ensures.points.point tells last m stands

pub returns-else-has_room-clause-shown : goal.returns-else-has_room-clause-shown
returns-else-has_room-clause-shown g c = λ tells last m stands past. c.point.ensures.shown tells last m stands

pub returns-else-has_room-clause-undone : goal.returns-else-has_room-clause-undone
returns-else-has_room-clause-undone g c = λ alive. c.point.ensures.points.undone alive
