use Rattle.std.proofs.Common.{rules, ◌≡◌, sym, subst}
use Rattle.std.specs.Prelude.{IsTrue, Ok, Err, Result}
use Rattle.fv_first_pass.specs.declared.verdict.Verdict.{Verdict}
use Rattle.fv_first_pass.specs.declared.verdict.Verdict.TheVariants.{Faults, Valid}
use Rattle.fv_first_pass.specs.Verdicts.{Says}
use Rattle.fv_run.specs.declared.ending.Fault.{Fault}
use Rattle.fv_run.specs.Checking.{IsChecked}
use Rattle.fv_run.specs.Endings.{of_check}
use Rattle.fv_run.proofs.Checked.{told_faults, told_valid, unchecked, untold_faults}
use Rattle.fv_run.proofs.checking.check.Goals as goal

pub returns-in_err-volumes : goal.returns-in_err-volumes
returns-in_err-volumes g c =
    let failed : c.from_residual.result ≡ Err (of_check c.in_err-volumes.field-0.0) = search rules in
    let checked = c.in_err-volumes.ensures in
    subst (λ (r : Result Unit Fault). IsChecked (g.H.Disk.shown c.args.host.now) (g.H.Disk.shown c.check.new.disk) r) (sym failed)
    (unchecked (g.H.Disk.shown c.args.host.now) (g.H.Disk.shown c.check.new.disk) (g.met.H.Disk.laws c.args.host.now) checked.read.only_reads c.in_err-volumes.field-0.0 checked.read.cause checked.says)

pub returns-in-Valid : goal.returns-in-Valid
returns-in-Valid g c =
    let old = g.H.Disk.shown c.args.host.now in
    let checked = c.in_ok-volumes.ensures in
    let is : c.in_ok-volumes.field-0 ≡ Valid c.in-Valid.volumes c.in-Valid.charged = search rules in
    let says = subst (λ (v : Verdict). IsTrue old.tells → Says old.reads (Ok v)) is checked.says in
    told_valid old (g.H.Disk.shown c.check.new.disk) (g.met.H.Disk.laws c.args.host.now) checked.read.only_reads checked.read.cause (g.H.Disk.shown c.tell_valid.new.host) c.in-Valid.volumes c.in-Valid.charged
    (λ tells. (says tells).1) c.tell_valid.result c.tell_valid.ensures

pub returns-in_ok-tell_faults-in-Faults : goal.returns-in_ok-tell_faults-in-Faults
returns-in_ok-tell_faults-in-Faults g c =
    let old = g.H.Disk.shown c.args.host.now in
    let checked = c.in_ok-volumes.ensures in
    let is : c.in_ok-volumes.field-0 ≡ Faults c.in-Faults.lines = search rules in
    told_faults old (g.H.Disk.shown c.check.new.disk) (g.met.H.Disk.laws c.args.host.now) checked.read.only_reads checked.read.cause (g.H.Disk.shown c.tell_faults.new.host) c.in-Faults.lines
    (subst (λ (v : Verdict). IsTrue old.tells → Says old.reads (Ok v)) is checked.says) c.in_ok-tell_faults-in-Faults.ensures

pub returns-in_err-tell_faults-in-Faults : goal.returns-in_err-tell_faults-in-Faults
returns-in_err-tell_faults-in-Faults g c =
    let old = g.H.Disk.shown c.args.host.now in
    let checked = c.in_ok-volumes.ensures in
    let is : c.in_ok-volumes.field-0 ≡ Faults c.in-Faults.lines = search rules in
    let failed : c.from_residual-in_err-tell_faults-in-Faults.result ≡ Err c.in_err-tell_faults-in-Faults.field-0.0 = search rules in
    subst (λ (r : Result Unit Fault). IsChecked old (g.H.Disk.shown c.tell_faults.new.host) r) (sym failed)
    (untold_faults old (g.H.Disk.shown c.check.new.disk) (g.met.H.Disk.laws c.args.host.now) checked.read.only_reads checked.read.cause (g.H.Disk.shown c.tell_faults.new.host) c.in-Faults.lines
    (subst (λ (v : Verdict). IsTrue old.tells → Says old.reads (Ok v)) is checked.says) c.in_err-tell_faults-in-Faults.field-0.0 c.in_err-tell_faults-in-Faults.ensures)
