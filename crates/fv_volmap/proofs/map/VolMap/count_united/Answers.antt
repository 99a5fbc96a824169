use Rattle.std.proofs.Common.{◌≡◌, ◌≤◌, length, ap, sym, subst, ◌∙◌, arith}
use Rattle.fv_bits.specs.Members.{count_of}
use Rattle.fv_bits.proofs.Laws.{count_of-le}
use Rattle.fv_volmap.specs.Slots.{AreUnited, Volume}
use Rattle.fv_volmap.specs.Kept.{IsBare, union_or}
use Rattle.fv_volmap.proofs.Rows.{is_united}
use Rattle.fv_volmap.proofs.map.VolMap.count_united.Goals as goal

pub unite_stored-requires-clause-bare : goal.unite_stored-requires-clause-bare
unite_stored-requires-clause-bare c = subst (IsBare c.self.inside.union) (sym c.deref.ensures.value) c.self.invariant.bare

pub returns-clause-united : goal.returns-clause-united
returns-clause-united c =
    let inside = c.self.inside in
    let kept = c.self.invariant in
    record {
      union = c.union_or.result.now;
      united = subst (AreUnited c.args.self.now) (sym c.union_or.ensures) (is_united c.args.self.now inside.span inside.active inside.others.items c.deref.result.now (union_or inside.active c.unite_stored.new.union) c.self.view_is c.deref.ensures.value kept.active_long c.unite_stored.ensures.unites);
      count_is = c.count.ensures;
    }

pub returns-clause-most : goal.returns-clause-most
returns-clause-most c =
    let span : c.self.inside.span ≡ c.args.self.now.span = ap (λ (volume : Volume). volume.span) c.self.view_is in
    let union = c.union_or.result.now in
    let few : count_of union ≤ length union = count_of-le union in
    let len : length union ≡ length c.self.inside.active = ap length c.union_or.ensures ∙ c.unite_stored.ensures.unites.len in
    omega (arith, c.count.ensures, few, len, c.self.invariant.active_long, span)
