use Rattle.std.proofs.Common.{◌≤◌, ◌+◌, length, sym, subst, ℕ}
use Rattle.std.specs.Prelude.{OnOk, Result, Ok, Err}
use Rattle.fv_disk.specs.declared.fault.BlockFault.{BlockFault}
use Rattle.fv_container.specs.Finding.{AreAway}
use Rattle.fv_container.proofs.Found.{row_out, row_opened}
use Rattle.fv_container.proofs.container.Container.find_row.Goals as goal

-- what is said of a call that was done
both_done : (result : Result (Unit {0}) BlockFault) (P Q R : Type 0) → OnOk result P → OnOk result Q → (P → Q → R) → OnOk result R
both_done (Ok unit) P Q R p q make = make p q
both_done (Err fault) P Q R p q make = tt

pub returns-clause-entries : goal.returns-clause-entries
returns-clause-entries g c = λ tells clean.
    let within : c.args.first + length c.look_row.new.into ≤ length c.args.self.now.map.entries = subst (λ (n : ℕ). c.args.first + n ≤ length c.args.self.now.map.entries) (sym c.look_row.ensures.len) c.requires.within in
    both_done c.look_row.result _ _ _ c.look_row.ensures.looked c.look_row.ensures.held (λ looked held.
    row_out (g.D.Disk.shown c.args.disk.now) c.args.self.now c.self.inside.told.entries c.self.inside.tree.items c.deref-2.result.now c.self.inside.dirty.items c.self.inside.leaves.items c.deref.result.now c.self.inside.known.items c.self.inside.told.sure c.self.inside.used c.self.inside.next.items c.self.inside.fresh.items c.self.inside.count
    c.args.first c.look_row.new.into c.self.view_is c.self.invariant.0 within tells c.deref.ensures.value c.deref-2.ensures.value looked held clean)

pub returns-clause-opened : goal.returns-clause-opened
returns-clause-opened g c = λ root height tells opened away.
    let within : c.args.first + length c.look_row.new.into ≤ length c.args.self.now.map.entries = subst (λ (n : ℕ). c.args.first + n ≤ length c.args.self.now.map.entries) (sym c.look_row.ensures.len) c.requires.within in
    both_done c.look_row.result _ _ _ c.look_row.ensures.looked c.look_row.ensures.held (λ looked held.
    row_opened (g.D.Disk.shown c.args.disk.now) c.args.self.now c.self.inside.told.entries c.self.inside.tree.items c.deref-2.result.now c.self.inside.dirty.items c.self.inside.leaves.items c.deref.result.now c.self.inside.known.items c.self.inside.told.sure c.self.inside.used c.self.inside.next.items c.self.inside.fresh.items c.self.inside.count
    c.args.first c.look_row.new.into c.self.view_is c.self.invariant.0 within tells c.deref.ensures.value c.deref-2.ensures.value looked held root height opened (subst (λ (n : ℕ). AreAway c.args.self.now c.args.first n) (sym c.look_row.ensures.len) away))
