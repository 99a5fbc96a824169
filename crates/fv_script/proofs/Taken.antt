-- The command that a generated script leaves in the place lent.
use Rattle.std.proofs.Common.{◌≡◌, Bool, true, false, List, [], ◌∷◌}
use Rattle.fv_model.specs.declared.commands.Command.{Command}
use Rattle.fv_script.specs.Generated.{Takes, taken}

pub one_taken : (there : Bool) (old new : List Command) (command : Command) → Takes old (taken there command) new → there ≡ true → old ≡ command ∷ new
one_taken true old new command takes is = takes
one_taken false old new command takes is = absurd cc

pub none_taken : (there : Bool) (old new : List Command) (command : Command) → Takes old (taken there command) new → there ≡ false → old ≡ []
none_taken true old new command takes is = absurd cc
none_taken false old new command takes is = takes.0
