use Rattle.fv_reference.proofs.space.+nodes_above.Given as goal

abbrev pub decreases-nodes_above : goal.decreases-nodes_above
decreases-nodes_above l = l.fuel
