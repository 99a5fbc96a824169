use Rattle.std.proofs.Common.{◌≤◌, sym, ap, ◌∙◌, arith}
use Rattle.fv_volmap.specs.Slots.{Volume, is_elsewhere}
use Rattle.fv_volmap.proofs.Rows.{past_all}
use Rattle.fv_volmap.proofs.map.VolMap.is_elsewhere.Goals as goal

pub returns-then-vvbn-from : goal.returns-then-vvbn-from
returns-then-vvbn-from c =
    let past : c.self.inside.span ≤ c.args.vvbn = omega (arith, c.from.ensures, c.if-vvbn-from.true) in
    sym (ap (λ (map : Volume). is_elsewhere map c.args.vvbn) (sym c.self.view_is) ∙ past_all c.self.inside.span c.args.vvbn c.self.inside.others.items c.self.invariant.others_long past)
