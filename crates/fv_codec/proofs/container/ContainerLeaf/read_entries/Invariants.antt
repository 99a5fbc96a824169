use Rattle.std.proofs.Common.{◌≡◌, ◌-◌, ◌*◌, length, take, drop}
use Rattle.fv_codec.specs.Fields.{each, items}
use Rattle.fv_codec.specs.Blocks.{asks_entry, place_of, kind_of}
use Rattle.fv_codec.proofs.container.ContainerLeaf.read_entries.Given as goal

abbrev pub invariant-loop-i : goal.invariant-loop-i
invariant-loop-i l = record {
  verdict : each (length l.fn.pvbns) 12 (asks_entry l.fn.most_kind) l.bytes ≡ each (length l.fn.pvbns - l.i) 12 (asks_entry l.fn.most_kind) (drop (12 * l.i) l.bytes);
  pvbns : take l.i l.pvbns ≡ items l.i 12 place_of l.bytes;
  kinds : take l.i l.kinds ≡ items l.i 12 kind_of l.bytes;
}
