use Rattle.fv_copies.proofs.Marking.{long_marks, none_marked}
use Rattle.fv_copies.proofs.landing.Landing.new.Goals as goal

pub invariant_of-result : goal.invariant_of-result
invariant_of-result c = record { all = long_marks 1048576 c.in_ok-new-2.field-0 c.in_ok-new-2.ensures.empty }

pub returns-clause-marks : goal.returns-clause-marks
returns-clause-marks c = none_marked 1048576 c.in_ok-new-2.field-0 c.in_ok-new-2.ensures.empty
