use Rattle.std.proofs.Common.{◌≡◌, ◌≤◌, length}
use Rattle.std.specs.Prelude.{IsTrue, Ok}
use Rattle.fv_disk.specs.Sparing.{Spares}
use Rattle.fv_container.specs.Clean.{StaysClean}
use Rattle.fv_store.specs.Held.{StandsOn}
use Rattle.fv_volume.specs.Writing.{HasDrawn, HasMaps, IsTaken, StandBits, has_maps_at, map_writes}
use Rattle.fv_volumes.proofs.taking.write_maps.Given as goal

abbrev pub invariant-loop-vvbn : goal.invariant-loop-vvbn
invariant-loop-vvbn g l = record {
  stands : StandsOn (g.D.Disk.shown l.disk) l.store.pairs;
  past : l.state.span ≤ l.vvbn;
  long : length l.container.map.entries ≡ length l.fn.container.map.entries;
  here : l.container.here ≡ l.fn.container.here;
  tree : l.container.map.tree ≡ l.fn.container.map.tree;
  clean : StaysClean l.fn.container l.container;
  map : HasMaps l.state l.vvbn l.fn.container.map l.container.map;
  bits : IsTrue (g.D.Disk.shown l.fn.disk).tells → StandBits l.state l.vvbn l.container.map (g.D.Disk.shown l.disk).reads;
  drawn : HasDrawn l.fn.map (has_maps_at l.state l.container.map l.vvbn) (map_writes l.state l.vvbn) l.map;
  spares : Spares (IsTaken l.fn.map) (g.D.Disk.shown l.fn.disk) (g.D.Disk.shown l.disk) (Ok tt);
}
