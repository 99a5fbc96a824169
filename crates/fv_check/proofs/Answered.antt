-- What the passes say is the answer of the check.
use Rattle.std.proofs.Common.{◌≡◌, ℕ, subst, sym, ⊎_elim}
use Rattle.std.specs.Prelude.{IfOk, IsTrue, Option, Some, None, Result, Ok, Err}
use Rattle.fv_disk.specs.Shown.{Image, Shown}
use Rattle.fv_disk.specs.DiskCalls.{OnlyReads}
use Rattle.fv_disk.proofs.Resting.{reads_then}
use Rattle.fv_image.specs.NewerRoot.{Taken, root_of}
use Rattle.fv_root.specs.declared.find.Found.{Found}
use Rattle.fv_root.specs.declared.find.RootFault.{RootFault}
use Rattle.fv_root.specs.declared.find.RootFault.TheVariants as root
use Rattle.fv_root.specs.Finding.{IsDamaged, IsFound, IsNoAggregate}
use Rattle.fv_root.proofs.Laws.{none_counts, one_answer}
use Rattle.fv_first_pass.specs.declared.fault.CheckFault.{CheckFault}
use Rattle.fv_first_pass.specs.declared.fault.CheckFault.TheVariants.{DiskFault, NotAggregate, Memory}
use Rattle.fv_first_pass.specs.declared.verdict.Verdict.{Verdict}
use Rattle.fv_first_pass.specs.Causes.{HasCheckCause, HasPassCause, HasRead}
use Rattle.fv_first_pass.specs.Verdicts.{Checks, IsVerdict, Says}

-- ---- there is an aggregate

-- two answers are one
abbrev AreSame : RootFault → RootFault → Type 0
AreSame x y = ◌≡◌ {A = Result Found RootFault} (Err x) (Err y)

module _ (i : Image) where
  pub found_one : (f : Found) → IsFound i f → IsNoAggregate i → ⊥
  found_one f is none = so (root_of i) _ (none_counts i none) is.root
    where
      so : (o : Option Taken) (t : Taken) → o ≡ None → o ≡ Some t → ⊥
      so o t none some = cc

  pub damaged_one : (at want found : ℕ) → IsDamaged i at want found → IsNoAggregate i → ⊥
  damaged_one at want found is none =
      ⊎_elim (λ (e : AreSame (root.Damaged at want found) root.DiskFault). cc)
      (λ e. ⊎_elim (λ (e : AreSame root.NotAggregate root.DiskFault). cc) (λ (e : AreSame (root.Damaged at want found) root.NotAggregate). cc) e)
      (one_answer i (Err (root.Damaged at want found)) (Err root.NotAggregate) is none)

-- ---- answers

says_verdict : (i : Image) (r : Result Verdict CheckFault) (before now : ℕ) → HasPassCause before now r → (IsNoAggregate i → ⊥) → IfOk r (IsVerdict i) → Says i r
says_verdict i (Ok v) before now cause there is = (there, is)
says_verdict i (Err DiskFault) before now cause there is = tt
says_verdict i (Err NotAggregate) before now cause there is = absurd cause
says_verdict i (Err Memory) before now cause there is = tt

as_checked : (r : Result Verdict CheckFault) (before now : ℕ) → HasPassCause before now r → HasCheckCause before now r
as_checked (Ok v) before now cause = cause
as_checked (Err DiskFault) before now cause = cause
as_checked (Err NotAggregate) before now cause = absurd cause
as_checked (Err Memory) before now cause = cause

-- passes behind a first look
pub checks_after : (old mid new : Shown) (r : Result Verdict CheckFault) → OnlyReads old mid → mid.faults ≡ old.faults → HasRead mid new r
    → (IsTrue old.tells → (IsNoAggregate old.reads → ⊥) × IfOk r (IsVerdict old.reads)) → Checks old new r
checks_after old mid new r first calm second says =
    let cause : HasPassCause old.faults new.faults r = subst (λ n. HasPassCause n new.faults r) calm second.cause in
    record {
      says = λ tells. says_verdict old.reads r old.faults new.faults cause (says tells).0 (says tells).1;
      read = record { only_reads = reads_then old mid new first second.only_reads; cause = as_checked r old.faults new.faults cause };
    }

-- of an aggregate of which a root behind an open gate hasn't its shape, by what is read later
pub damaged_later : (i j : Image) (r : Result Verdict CheckFault) → j ≡ i → (at want found : ℕ) → IsDamaged i at want found
    → ((at want found : ℕ) → IsDamaged j at want found → IfOk r (IsVerdict j)) → (IsNoAggregate i → ⊥) × IfOk r (IsVerdict i)
damaged_later i j r same at want found is says =
    (damaged_one i at want found is, subst (λ (k : Image). IfOk r (IsVerdict k)) same (says at want found (subst (λ (k : Image). IsDamaged k at want found) (sym same) is)))
