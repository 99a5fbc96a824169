use Rattle.std.proofs.Common.{◌≡◌, ◌==◌, Bool, true, false, refl, drop, not, take, subst, sym, ap, ◌∙◌, arith}
use Rattle.std.specs.Prelude.{is_some}
use Rattle.std.specs.List.{list_any}
use Rattle.std.proofs.lemmas.Bool.Decides.{nat_tests}
use Rattle.fv_volmap.specs.Slots.{Volume, active_of, snapshot_count, stored_count, taken_in}
use Rattle.fv_bits.specs.Members.{is_member}
use Rattle.fv_volmap.proofs.Rows.{active_alone, used_some}
use Rattle.fv_volmap.proofs.map.VolMap.is_alone.Goals as goal

twice_not : (t : Bool) → not (not t) ≡ t
twice_not true = refl
twice_not false = refl

pub returns-clause-exact : goal.returns-clause-exact
returns-clause-exact c =
    let map = c.self.inside in
    sym (ap not (used_some map.others.items map.used c.self.invariant.count c.self.invariant.used_to) ∙ twice_not (map.used == 0))
    ∙ ap (λ (volume : Volume). not (list_any is_some (take snapshot_count (drop 1 volume.slots)))) c.self.view_is

pub returns-clause-alone : goal.returns-clause-alone
returns-clause-alone c = λ test v.
    let map = c.self.inside in
    let none : map.used ≡ 0 = grind (arith, nat_tests, test) in
    subst (λ (volume : Volume). taken_in (take stored_count volume.slots) v ≡ is_member (active_of volume) v) c.self.view_is (active_alone map.active map.others.items map.used c.self.invariant.used_to none v)
