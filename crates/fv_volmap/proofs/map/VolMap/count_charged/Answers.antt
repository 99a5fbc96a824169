use Rattle.std.proofs.Common.{◌≡◌, ◌≤◌, None, length, ap, sym, subst, ◌∙◌, arith}
use Rattle.std.proofs.lemmas.List.{get_or_read_under}
use Rattle.fv_volmap.specs.Kept.{IsBare, union_or}
use Rattle.fv_volmap.specs.Slots.{snapshot_count, AreUnited, Volume, slot_of_base, slot_at, count_beside}
use Rattle.fv_volmap.proofs.Counting.{beside_le}
use Rattle.fv_volmap.proofs.Rows.{is_united}
use Rattle.fv_volmap.proofs.map.VolMap.count_charged.Goals as goal

pub unite_stored-requires-clause-bare : goal.unite_stored-requires-clause-bare
unite_stored-requires-clause-bare c = subst (IsBare c.self.inside.union) (sym c.deref.ensures.value) c.self.invariant.bare

pub returns-clause-charged : goal.returns-clause-charged
returns-clause-charged c =
    let inside = c.self.inside in
    let kept = c.self.invariant in
    let others = inside.others.items in
    let union = c.union_or.result.now in
    let base : c.index.result.now ≡ slot_at c.args.self.now slot_of_base =
    get_or_read_under others snapshot_count slot_of_base c.index.result.now None c.index.ensures (omega arith) (sym kept.count) ∙ ap (λ (volume : Volume). slot_at volume slot_of_base) c.self.view_is in
    record {
      union = union;
      united = subst (AreUnited c.args.self.now) (sym c.union_or.ensures) (is_united c.args.self.now inside.span inside.active others c.deref.result.now (union_or inside.active c.unite_stored.new.union) c.self.view_is c.deref.ensures.value kept.active_long c.unite_stored.ensures.unites);
      count_is = c.count_beside.ensures ∙ ap (count_beside union) base;
    }

pub returns-clause-most : goal.returns-clause-most
returns-clause-most c =
    let span : c.self.inside.span ≡ c.args.self.now.span = ap (λ (volume : Volume). volume.span) c.self.view_is in
    let union = c.union_or.result.now in
    let few : count_beside union c.index.result.now ≤ length union = beside_le union c.index.result.now in
    let len : length union ≡ length c.self.inside.active = ap length c.union_or.ensures ∙ c.unite_stored.ensures.unites.len in
    omega (arith, c.count_beside.ensures, few, len, c.self.invariant.active_long, span)
