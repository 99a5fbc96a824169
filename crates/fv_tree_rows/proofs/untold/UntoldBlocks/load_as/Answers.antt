use Rattle.fv_tree_rows.proofs.untold.UntoldBlocks.load_as.Goals as goal

pub returns-clause-loads : goal.returns-clause-loads
returns-clause-loads c = let did = c.load_as.ensures.loads in record {
  untouched = did.untouched;
  gives = λ told. absurd told;
  answers = λ told. absurd told;
  range = did.range;
  spent = did.spent;
  counts = did.counts;
  cause = did.cause;
  loose = λ told. absurd told;
}
