use Rattle.std.proofs.Common.{rules}
use Rattle.fv_root.specs.Formatted.{IsSize}
use Rattle.fv_aggmap.specs.Space.{blocks_of}
use Rattle.fv_volumes.proofs.Destroyed.{nodes_given}
use Rattle.fv_volumes.proofs.destroying.give_back_nodes.Goals as goal

pub returns : goal.returns
returns c =
    let size : IsSize (blocks_of c.args.map.now) = search rules in
    nodes_given c.args.map.now c.release_tree.new.map c.args.container.now.map.tree size c.release_tree.ensures
