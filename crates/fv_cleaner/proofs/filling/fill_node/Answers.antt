use Rattle.std.proofs.Common.{sym}
use Rattle.fv_cleaner.proofs.Filled.{node_fills, node_range}
use Rattle.fv_cleaner.proofs.filling.fill_node.Goals as goal

pub encode-requires : goal.encode-requires
encode-requires g c = node_range c.in-Ok.node c.fill_each.new.pointers c.in_ok-fill_each.ensures.fills c.in-Ok.ensures.in_range

pub returns-clause-fills : goal.returns-clause-fills
returns-clause-fills g c =
    node_fills c.args.entry.now.kind c.args.block.now c.encode.new.into c.in-Ok.node c.fill_each.new.pointers
    c.requires.form c.requires.shaped (sym c.in-Ok.ensures.exact) c.encode.ensures.reads_back c.in_ok-fill_each.ensures.fills
