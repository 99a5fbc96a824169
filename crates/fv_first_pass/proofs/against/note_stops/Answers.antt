use Rattle.fv_first_pass.proofs.Stopped.{stops_added, stops_none}
use Rattle.fv_first_pass.proofs.against.note_stops.Goals as goal

pub returns-clause-adds : goal.returns-clause-adds
returns-clause-adds c = λ y is. stops_added y c.args.labels.now c.args.site.now.blocks c.args.site.now.slot c.args.at c.args.site.now.label c.requires.site.slot is c.args.lines.now _ c.in_ok-clean.ensures.adds

pub returns-clause-clean : goal.returns-clause-clean
returns-clause-clean c = λ y is. stops_none y c.args.labels.now c.args.site.now.blocks c.args.site.now.slot c.args.at c.args.site.now.label c.requires.site.slot is c.in_ok-clean.clean c.in_ok-clean.ensures.clean
