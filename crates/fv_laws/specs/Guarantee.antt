-- What a volume of kind `volume` is promised.
use Rattle.std.specs.Prelude.{◌≡◌, ℕ, Bool, true, false, cond, nat_lt, List, Option, Some, None}
use Rattle.std.specs.FinMap as fin
use Rattle.fv_model.specs.declared.answers.Refusal.{Refusal}
use Rattle.fv_model.specs.declared.answers.Refusal.TheVariants.{VolumeFull, AggregateFull}
use Rattle.fv_model.specs.declared.commands.Kind.TheVariants.{Volume as Whole}
use Rattle.fv_model.specs.declared.commands.Command.{Command}
use Rattle.fv_model.specs.declared.commands.Command.TheVariants.{New, Put, Cut, Remove}
use Rattle.fv_model.specs.Volumes.{Volume}
use Rattle.fv_model.specs.Machines.{Machine}
use Rattle.fv_model.specs.Space.{charge}
use Rattle.fv_model.specs.Effects.{effect}
use Rattle.fv_model.specs.Refusals.{of_volume, refusal, home}

-- the four commands that change a table
abbrev pub is_change : Command → Bool
is_change (New v f reserve) = true
is_change (Put v f i block) = true
is_change (Cut v f length) = true
is_change (Remove v f) = true
is_change c = false

-- a refusal that is tried before the two of space, which come last
abbrev pub is_early : Option Refusal → Bool
is_early None = false
is_early (Some VolumeFull) = false
is_early (Some AggregateFull) = false
is_early (Some r) = true

-- the volume of a name is charged for more than its size
abbrev pub is_overcharged : Machine → List ℕ → Bool
is_overcharged m v = of_volume m v (λ x. nat_lt x.size (charge x))

-- a change of this volume, which is of kind `volume`, that meets no earlier refusal
pub record IsChangeOf (m : Machine) (v : List ℕ) (c : Command) : Type 0 where
  pub volume : Volume
  pub there : fin.get m.volumes v ≡ Some volume
  pub kind : volume.kind ≡ Whole
  pub changes : is_change c ≡ true
  pub here : home c ≡ Some v
  pub late : is_early (refusal m c) ≡ false

-- refused for the size exactly where the charge after it would pass that, and else accepted
abbrev pub IsGuaranteed : Machine → List ℕ → Command → Type 0
IsGuaranteed m v c = refusal m c ≡ cond (is_overcharged (effect m c) v) (Some VolumeFull) None
