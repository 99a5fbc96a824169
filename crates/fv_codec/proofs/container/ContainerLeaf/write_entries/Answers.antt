use Rattle.std.proofs.Common.{◌++◌, List, ℕ, ap, sym, ◌∙◌, arith, append_assoc, get_or, take}
use Rattle.std.specs.List.{flat_map, zip}
use Rattle.fv_codec.specs.Spelling.{entry_bytes}
use Rattle.fv_codec.proofs.Leaves.{entries_more, entries_all}
use Rattle.fv_codec.proofs.container.ContainerLeaf.write_entries.Goals as goal

pub loop-i-preserved : goal.loop-i-preserved
loop-i-preserved c =
    let ps = c.args.pvbns.now in
    let ks = c.args.kinds.now in
    let i = c.loop-i.i in
    record {
      long = omega (arith, c.write_entry.ensures.length, c.loop-i.invariant.long);
      written = c.write_entry.ensures.written
          ∙ ap (λ (xs : List ℕ). xs ++ entry_bytes (get_or ps i 0, get_or ks i 0)) c.loop-i.invariant.written
          ∙ append_assoc c.args.page.now (flat_map entry_bytes (take i (zip ps ks))) (entry_bytes (get_or ps i 0, get_or ks i 0))
          ∙ ap (λ (xs : List ℕ). c.args.page.now ++ xs) (sym (entries_more ps ks i c.requires.same c.loop-i-test.true));
    }

pub returns-clause-written : goal.returns-clause-written
returns-clause-written c = c.loop-i.invariant.written ∙ ap (λ (es : List (ℕ × ℕ)). c.args.page.now ++ flat_map entry_bytes es) (entries_all c.args.pvbns.now c.args.kinds.now c.loop-i.i c.requires.same c.loop-i-test.false)
