use Rattle.fv_files.proofs.Numbering.{all_by, least_by}
use Rattle.fv_files.proofs.numbers.FileNumbers.free_number.Goals as goal

pub returns-then-number-lt-MOST_FILES-clause-number : goal.returns-then-number-lt-MOST_FILES-clause-number
returns-then-number-lt-MOST_FILES-clause-number c = λ x are. least_by x c.args.self.now are c.least_free-number.result c.if-number-lt-MOST_FILES.true c.least_free-number.ensures.free c.least_free-number.ensures.least

pub returns-else-number-lt-MOST_FILES-clause-number : goal.returns-else-number-lt-MOST_FILES-clause-number
returns-else-number-lt-MOST_FILES-clause-number c = λ x are. all_by x c.args.self.now are c.least_free-number.result c.if-number-lt-MOST_FILES.false c.least_free-number.ensures.least
