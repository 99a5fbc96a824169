-- What a call that notes lines says of them.
use Rattle.std.specs.Prelude.{◌≡◌, Bool, true, false, List, [], ◌∷◌, Result, IfOk}
use Rattle.std.specs.declared.alloc.AllocError.{AllocError}
use Rattle.fv_faults.specs.declared.fault.Fault.{Fault}
use Rattle.fv_faults.specs.declared.lines.Lines.{Lines}
use Rattle.fv_faults.specs.Adding.{Adds}

abbrev pub is_none : List Fault → Bool
is_none [] = true
is_none (f ∷ fs) = false

-- it adds these lines, and answers whether there are none
pub record AddsAll (lines : List Fault) (old new : Lines) (answer : Bool) : Type 0 where
  pub adds : Adds lines old new
  pub clean : answer ≡ is_none lines

abbrev pub Notes : List Fault → Lines → Lines → Result Bool AllocError → Type 0
Notes lines old new result = IfOk result (AddsAll lines old new)
