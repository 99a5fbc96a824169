use Rattle.std.proofs.Common.{ap, ◌∙◌, Bool}
use Rattle.std.specs.Prelude.{if◌then◌else◌}
use Rattle.fv_codec.specs.Blocks.{node_at, inodes_at}
use Rattle.fv_scan.specs.Judging.{judgement, judged_inodes, judged_node}
use Rattle.fv_walk.proofs.look.look.Goals as goal

pub returns-clause-judged : goal.returns-clause-judged
unfolding judgement
returns-clause-judged g c =
    c.judge-judged.ensures ∙ ap (λ (b : Bool). if b then judged_inodes (inodes_at c.in_ok-item.item.body) else judged_node (node_at c.in_ok-item.item.body)) c.in_ok-item.ensures.kind
