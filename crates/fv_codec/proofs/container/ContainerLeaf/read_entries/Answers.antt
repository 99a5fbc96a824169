use Rattle.std.proofs.Common.{◌≡◌, ◌-◌, length, refl, sym, ap, ◌∙◌, arith}
use Rattle.std.proofs.lemmas.Result.{err_from_is_err_and}
use Rattle.fv_codec.specs.Fields.{items}
use Rattle.fv_codec.specs.Blocks.{asks_entry, place_of, kind_of}
use Rattle.fv_codec.proofs.Items.{own_says, each_next, each_fails, each_ends, items_next, items_all}
use Rattle.fv_codec.proofs.container.ContainerLeaf.read_entries.Goals as goal

pub loop-i-init : goal.loop-i-init
unfolding items
loop-i-init c =
    let e : length c.args.pvbns.now - 0 ≡ length c.args.pvbns.now = omega arith in
    record { verdict = rw e refl; pvbns = refl; kinds = refl }

pub returns-in_err-entry-clause-verdict : goal.returns-in_err-entry-clause-verdict
returns-in_err-entry-clause-verdict c =
    let p = err_from_is_err_and c.from_residual.result c.from_residual.ensures.1 in
    rw (p.1, p.2) (sym (each_fails (length c.args.pvbns.now) c.loop-i.i 12 (asks_entry c.args.most_kind) c.args.bytes.now c.in_err-entry.field-0.0 _ c.loop-i-test.true (own_says (asks_entry c.args.most_kind) c.tail.ensures.value c.in_err-entry.ensures.verdict) c.loop-i.invariant.verdict))

pub loop-i-preserved : goal.loop-i-preserved
loop-i-preserved c = record {
  verdict = each_next (length c.args.pvbns.now) c.loop-i.i 12 (asks_entry c.args.most_kind) c.args.bytes.now _ (omega arith) (own_says (asks_entry c.args.most_kind) c.tail.ensures.value c.in_ok-entry.ensures.verdict) c.loop-i.invariant.verdict;
  pvbns = items_next place_of 12 c.loop-i.pvbns c.loop-i.i c.in_ok-entry.entry.0 c.args.bytes.now (omega arith) (c.in_ok-entry.ensures.value.0 ∙ ap place_of c.tail.ensures.value) c.loop-i.invariant.pvbns;
  kinds = items_next kind_of 12 c.loop-i.kinds c.loop-i.i c.in_ok-entry.entry.1 c.args.bytes.now (omega arith) (c.in_ok-entry.ensures.value.1 ∙ ap kind_of c.tail.ensures.value) c.loop-i.invariant.kinds;
}

pub returns-clause-verdict : goal.returns-clause-verdict
returns-clause-verdict c = sym (each_ends (length c.args.pvbns.now) c.loop-i.i 12 (asks_entry c.args.most_kind) c.args.bytes.now _ (omega arith) c.loop-i.invariant.verdict)

pub returns-clause-pvbns : goal.returns-clause-pvbns
returns-clause-pvbns c = items_all place_of 12 c.loop-i.pvbns (length c.args.pvbns.now) c.loop-i.i c.args.bytes.now (omega arith) (omega arith) (omega arith) c.loop-i.invariant.pvbns

pub returns-clause-kinds : goal.returns-clause-kinds
returns-clause-kinds c = items_all kind_of 12 c.loop-i.kinds (length c.args.pvbns.now) c.loop-i.i c.args.bytes.now (omega arith) (omega arith) (omega arith) c.loop-i.invariant.kinds
