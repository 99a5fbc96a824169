use Rattle.std.proofs.Common.{◌≡◌, ◌≢◌, ℕ, Err, rules, sym, subst}
use Rattle.std.specs.Prelude.{IfErr, Result}
use Rattle.fv_model.specs.declared.answers.Refusal.TheVariants.{NoSnapshot}
use Rattle.fv_model.specs.declared.commands.Command.TheVariants.{Probe}
use Rattle.fv_pool.specs.declared.fault.VolumeFault.{VolumeFault}
use Rattle.fv_pool.specs.declared.fault.VolumeFault.TheVariants.{Refused}
use Rattle.fv_volume.specs.Calls.{Agrees}
use Rattle.fv_volume.proofs.Probed.{few_unknown, never_lost, probe_done, probe_fails, told_number}
use Rattle.fv_volume.proofs.probing.count_path.Goals as goal

pub returns-in_err-get-clause-agrees : goal.returns-in_err-get-clause-agrees
returns-in_err-get-clause-agrees g c = λ is m there.
    let x = c.args.volume.now in let fault = c.in_err-get.field-0.0 in
    let failed : c.from_residual.result ≡ Err fault = search rules in
    subst (λ (r : Result ℕ VolumeFault). Agrees m (Probe x.name c.args.file.now c.args.index) r) (sym failed)
    (probe_fails m x.name c.args.file.now c.args.index fault ((c.in_err-get.ensures.asked is).agrees m there))

pub returns-clause-agrees : goal.returns-clause-agrees
returns-clause-agrees g c = λ is m there.
    probe_done m c.args.volume.now.name c.args.file.now c.args.index ((c.in_ok-get.ensures.asked is).agrees m there) c.pointers.result

pub returns-clause-path : goal.returns-clause-path
returns-clause-path g c = λ is info first.
    told_number c.pointers.result c.counted.result c.get.new.steps c.open-steps.result _ c.pointers.ensures c.counted.ensures c.open-steps.ensures (c.in_ok-get.ensures.steps is info first)
    (few_unknown (g.D.Disk.shown c.args.disk.now) c.args.pool.now c.args.volume.now is info.number c.args.index)

pub returns-in_err-get-clause-there : goal.returns-in_err-get-clause-there
returns-in_err-get-clause-there g c =
    let fault = c.in_err-get.field-0.0 in
    let failed : c.from_residual.result ≡ Err fault = search rules in
    subst (λ (r : Result ℕ VolumeFault). IfErr r (λ e. e ≢ Refused NoSnapshot)) (sym failed)
    (never_lost c.args.volume.now c.args.disk.now c.args.pool.now c.get.new.disk c.get.new.pool c.args.index fault c.in_err-get.ensures.range c.in_err-get.ensures.snapshot)
