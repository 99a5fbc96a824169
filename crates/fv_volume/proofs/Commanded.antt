-- The commands that change a file of a volume, as calls on it.
use Rattle.std.proofs.Common.{◌≡◌, ℕ, List, sym, ap, subst, ◌∙◌, Err, None}
use Rattle.fv_model.specs.declared.commands.Command.{Command}
use Rattle.fv_model.specs.declared.commands.Command.TheVariants.{Put, Cut, Remove}
use Rattle.fv_model.specs.Machines.{Machine}
use Rattle.fv_model.specs.Refusals.{refusal}
use Rattle.fv_model.specs.Volumes.{Volume}
use Rattle.fv_pool.specs.declared.fault.VolumeFault.{VolumeFault}
use Rattle.fv_volume.specs.Calls.{Agrees, HasBeside, HasWithin}
use Rattle.fv_volume.specs.Changing.{IsChangeOf, RefusedIn}

-- ---- which command it is

pub of_put : (c : Command) (name v f : List ℕ) (i : ℕ) (block : List ℕ) → c ≡ Put v f i block → IsChangeOf name c → Put name f i block ≡ c
of_put c name v f i block is change = let of : v ≡ name = subst (IsChangeOf name) is change in ap (λ (n : List ℕ). Put n f i block) (sym of) ∙ sym is

pub of_cut : (c : Command) (name v f : List ℕ) (length : ℕ) → c ≡ Cut v f length → IsChangeOf name c → Cut name f length ≡ c
of_cut c name v f length is change = let of : v ≡ name = subst (IsChangeOf name) is change in ap (λ (n : List ℕ). Cut n f length) (sym of) ∙ sym is

pub of_removal : (c : Command) (name v f : List ℕ) → c ≡ Remove v f → IsChangeOf name c → Remove name f ≡ c
of_removal c name v f is change = let of : v ≡ name = subst (IsChangeOf name) is change in ap (λ (n : List ℕ). Remove n f) (sym of) ∙ sym is

-- ---- how it is judged

module _ (name : List ℕ) (old : Volume) (others size : ℕ) (c d : Command) (same : c ≡ d) where
  pub refused_beside : (e : VolumeFault) → RefusedIn (HasBeside name old others size) c e → (m : Machine) → HasWithin name old others size m → Agrees {T = Unit {0}} m d (Err e)
  refused_beside e refused m has = subst (λ (x : Command). Agrees {T = Unit {0}} m x (Err e)) same (refused m has.beside)

  pub accepted_within : ((m : Machine) → HasWithin name old others size m → refusal m c ≡ None) → (m : Machine) → HasWithin name old others size m → refusal m d ≡ None
  accepted_within accepted m has = subst (λ (x : Command). refusal m x ≡ None) same (accepted m has)
