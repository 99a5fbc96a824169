use Rattle.std.proofs.Common.{List, [], sym, ap, subst, ◌∙◌}
use Rattle.std.proofs.lemmas.List.{get_or-replicate}
use Rattle.fv_delay.specs.declared.counts.Count.{Count}
use Rattle.fv_delay.specs.declared.threshold.Table.{Table}
use Rattle.fv_delay.specs.declared.threshold.Threshold.{Threshold}
use Rattle.fv_delay.specs.ByThreshold.{IsTable, threshold_for}
use Rattle.fv_delay.specs.Holding.{counts_of}
use Rattle.fv_cp.specs.Choosing.{holdings}
use Rattle.fv_cp.specs.Planning.{IsPlan, no_table}
use Rattle.fv_cp.proofs.Choosing.{missing_of}
use Rattle.fv_cp.proofs.planning.plan_for.Goals as goal

pub count_all-requires-clause-empty : goal.count_all-requires-clause-empty
count_all-requires-clause-empty c = λ s inside. subst (λ (t : Table). IsTable t []) (sym (get_or-replicate 64 s c.new-tables.result no_table inside)) c.new-tables.ensures

pub returns : goal.returns
returns c sure counted =
    let volumes = holdings c.args.pool.now.containers c.args.volumes.now in
    let counts : List Count = counts_of volumes in
    let table : IsTable c.count_all.new.all counts = c.count_all.ensures.all sure counted c.new-all.ensures in
    let lacks = c.missing-missing.ensures ∙ missing_of c.args.pool.now c.args.volumes.now c.args.want c.total.result (c.total.ensures counts table) in
    subst (λ (t : Threshold). IsPlan volumes t c.plan_by.new.plan) (c.threshold.ensures.chosen counts table ∙ ap (threshold_for counts) lacks) (c.plan_by.ensures volumes (c.count_all.ensures.each sure counted))
