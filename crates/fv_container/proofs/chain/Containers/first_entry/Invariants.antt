use Rattle.std.proofs.Common.{◌≡◌, ◌<◌, ◌-◌, Some}
use Rattle.std.specs.Prelude.{IsTrue}
use Rattle.fv_store.specs.Held.{StandsOn}
use Rattle.fv_disk.specs.DiskCalls.{OnlyReads}
use Rattle.fv_container.specs.Chains.{AreCleanOn, along, chain_entry}
use Rattle.fv_container.proofs.chain.Containers.first_entry.Given as goal

abbrev pub invariant-loop : goal.invariant-loop
invariant-loop g l = record {
  within : l.at < 64;
  stands : StandsOn (g.D.Disk.shown l.disk) l.store.pairs;
  only_reads : OnlyReads (g.D.Disk.shown l.fn.disk) (g.D.Disk.shown l.disk);
  faults : (g.D.Disk.shown l.disk).faults ≡ (g.D.Disk.shown l.fn.disk).faults;
  rest : IsTrue (g.D.Disk.shown l.fn.disk).tells → AreCleanOn (g.D.Disk.shown l.fn.disk).reads l.self → along l.self (64 - l.counter) (Some l.at) l.vvbn ≡ chain_entry l.self l.slot l.vvbn;
}
