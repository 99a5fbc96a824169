use Rattle.std.proofs.Common.{rules, drop}
use Rattle.fv_memdisk.specs.Lived.{story_of}
use Rattle.fv_memdisk.specs.Blocks.{disk_of}
use Rattle.fv_memdisk.proofs.Images.{settled_new, moment_new}
use Rattle.fv_memdisk.proofs.host.MemHost.over.Goals as goal

pub returns-clause-begins : goal.returns-clause-begins
returns-clause-begins c =
    let s = story_of c.new.result in
    record {
      told = search rules;
      settled = settled_new (disk_of c.args.blocks) s 0 0 (record { left = drop 0 c.args.source.items; source_faults = 0; sink_faults = 0 }) c.new.ensures;
      moment = moment_new (disk_of c.args.blocks) s c.new.ensures;
      given = c.new.ensures.given;
      faults = search rules;
      write_faults = search rules;
      ends = search rules;
      starved = search rules;
      calls = c.new-2.ensures;
    }
