use Rattle.std.proofs.Common.{sym, ◌∙◌}
use Rattle.fv_volume.proofs.SlotCounts.{counted, counted_within, none_counted}
use Rattle.fv_volume.proofs.state.VolumeState.count_in.Goals as goal

pub returns-in-Some-clause-count : goal.returns-in-Some-clause-count
returns-in-Some-clause-count c = c.count.ensures ∙ counted c.args.self.now.map c.args.slot c.in-Some.map.now c.snapshot.ensures.valid c.requires (sym c.in-Some.ensures.set)

pub returns-in-Some-clause-most : goal.returns-in-Some-clause-most
returns-in-Some-clause-most c = counted_within c.args.self.now.map c.args.slot c.count.result (returns-in-Some-clause-count c)

pub returns-in-None-clause-count : goal.returns-in-None-clause-count
returns-in-None-clause-count c = none_counted c.args.self.now.map c.args.slot (sym c.in-None.ensures.set)
