use Rattle.fv_tree_rows.proofs.untold.UntoldBlocks.place.Goals as goal

pub returns-clause-places : goal.returns-clause-places
returns-clause-places c = let did = c.place.ensures.places in record {
  fresh = did.fresh;
  unused = did.unused;
  held = λ told. absurd told;
  used = did.used;
  vvbn = did.vvbn;
  pvbn = did.pvbn;
  strays = did.strays;
  room = did.room;
  enough = λ told. absurd told;
  spent = did.spent;
  failed = did.failed;
  counts = did.counts;
  cause = did.cause;
}
