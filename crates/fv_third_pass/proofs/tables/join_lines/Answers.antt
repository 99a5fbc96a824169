use Rattle.fv_third_pass.proofs.Noting.{all_added}
use Rattle.fv_third_pass.proofs.tables.join_lines.Goals as goal

pub returns : goal.returns
returns c = all_added c.args.others.lines.keys c.args.lines.now _ c.in_ok-append.ensures.inserts_all.0
