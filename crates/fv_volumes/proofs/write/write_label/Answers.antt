use Rattle.std.proofs.Common.{◌<◌, ◌≤◌, Option, Some, None, arith}
use Rattle.std.specs.Prelude.{IfSome}
use Rattle.std.specs.Option.{option_map}
use Rattle.fv_container.specs.Chains.{slot_count}
use Rattle.fv_volume.specs.declared.state.Base.{Base}
use Rattle.fv_volume.specs.Labels.{label_said, parent_said}
use Rattle.fv_volume.specs.States.{footing_in}
use Rattle.fv_volumes.proofs.write.write_label.Goals as goal

said_below : (base : Option Base) → parent_said (option_map footing_in base) ≤ 64 → IfSome base (λ b. b.parent < slot_count)
said_below None said = tt
said_below (Some b) said = omega (arith, said)

pub label-requires : goal.label-requires
unfolding label_said
label-requires g c = record { base = said_below c.args.state.now.base (c.requires.state.label 0 1 (omega arith) (omega arith) (omega arith)).parent }
