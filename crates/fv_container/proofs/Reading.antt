-- Reads one after another.
use Rattle.std.proofs.Common.{refl, inl, arith}
use Rattle.fv_disk.specs.Shown.{Shown}
use Rattle.fv_disk.specs.DiskCalls.{OnlyReads}

pub reads_none : (disk : Shown) → OnlyReads disk disk
reads_none disk = record {
  stays = record { tells = refl; reads = refl; no_more = λ c now. now; no_fewer = λ c now. now };
  time = record { later = omega arith; nothing_else = λ t c g le left. inl left; keeps = λ t c g le left. left };
  given = refl;
  ends = refl;
  faults = omega arith;
  write_faults = refl;
}
