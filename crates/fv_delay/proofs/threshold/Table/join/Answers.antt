use Rattle.std.proofs.Common.{◌<◌, subst, sym, length-set, ◌∙◌, refl, arith, rules}
use Rattle.std.specs.Prelude.{ℕ}
use Rattle.fv_delay.proofs.Joining.{joined_more, joined_rest, table_joined}
use Rattle.fv_delay.proofs.threshold.Table.join.Goals as goal

pub loop-level-init : goal.loop-level-init
loop-level-init c = record {
  all = c.saturating_add-self.ensures;
  full = c.saturating_add-self-2.ensures;
  long = search (rules, c.fits-self);
  done = λ n d lt. absurd (omega (arith, lt));
  rest = λ n le. refl;
}

pub loop-level-preserved : goal.loop-level-preserved
loop-level-preserved c =
    let was = c.loop-level.invariant in
    let at = c.loop-level.level in
    let here = was.rest at (omega arith) in
    record {
      all = was.all;
      full = was.full;
      long = length-set c.loop-level.self.partial at c.saturating_add.result ∙ was.long;
      done = joined_more c.args.self.now.partial c.args.other.now.partial c.loop-level.self.partial at c.saturating_add.result (subst (λ (n : ℕ). at < n) (sym was.long) c.loop-level-test.true) c.saturating_add.ensures here was.done;
      rest = joined_rest c.args.self.now.partial c.loop-level.self.partial at c.saturating_add.result was.rest;
    }

pub returns : goal.returns
returns c counts more is other =
    let end = c.loop-level.invariant in
    table_joined c.args.self.now c.args.other.now c.loop-level.self counts more is other end.all end.full (λ n d lt. end.done n d (omega (arith, lt, c.loop-level-test.false)))
