-- The four commands that give space back raise nothing.
use Rattle.std.proofs.Common.{◌≡◌, ℕ, ◌≤◌, true, List, Some, None, ⊎_elim, refl, ap, ◌∙◌, arith}
use Rattle.std.specs.FinMap as fin
use Rattle.fv_model.specs.declared.commands.Command.{Command}
use Rattle.fv_model.specs.declared.commands.Command.TheVariants.{VolDestroy, SnapDelete, SplitFinish, Clean}
use Rattle.fv_model.specs.Volumes.{Volume}
use Rattle.fv_model.specs.Machines.{Machine}
use Rattle.fv_model.specs.Space.{use_of}
use Rattle.fv_model.specs.Effects.{Becomes, changed, change_of, effect}
use Rattle.fv_model.specs.Refusals.{conditions, next}
use Rattle.fv_laws.specs.Releases.{is_release, RaisesNothing}
use Rattle.fv_laws.proofs.Orders.{name_total, name_ties}
use Rattle.fv_laws.proofs.Changes.{by_next, volume_of}
use Rattle.fv_laws.proofs.Maps.{sum-remove-le}
use Rattle.fv_laws.proofs.Commits.{commit_at, HasBudgetOf, commits_put, less_commit}
use Rattle.fv_laws.proofs.Release.{use_without_snapshot, use_once_split, use_once_clean}
use Rattle.fv_laws.proofs.Halves.{NoneHolds, none_holds}
use Rattle.fv_laws.proofs.Admission.{splits}
use Rattle.fv_laws.proofs.Bases.{here_or_old, not_gone}

same : (m : Machine) → RaisesNothing m m
same m = record { uses = λ name y e. (y, e, omega arith); commits = omega arith }

-- a volume that uses no more in place of another
less : (m : Machine) (v : List ℕ) (x y : Volume) → fin.get m.volumes v ≡ Some x → HasBudgetOf x y → use_of y ≤ use_of x → RaisesNothing m (changed m (Becomes v y))
less m v x y e budget le = record {
  uses = λ name z there. ⊎_elim
      (λ l. let is : use_of z ≡ use_of y = ap use_of l.1 in (x, ap (fin.get m.volumes) l.0 ∙ e, omega (arith, le, is)))
      (λ r. (z, r.1, omega arith))
      (here_or_old m v y name z there);
  commits = let sum = commits_put m v x y e in let down = less_commit x y budget le in omega (arith, sum, down);
}

releases : (m : Machine) (c : Command) → is_release c ≡ true → NoneHolds (conditions m c) → RaisesNothing m (effect m c)
unfolding conditions change_of
releases m (VolDestroy v) is h = record { uses = λ name y e. (y, not_gone m v name y e, omega arith); commits = sum-remove-le name_total name_ties commit_at m.volumes v }
releases m (SnapDelete v s) is h = volume_of m v (λ x. Becomes v (record x { snapshots = fin.remove x.snapshots s })) (λ c. RaisesNothing m (changed m c)) (same m) (λ x e.
    less m v x (record x { snapshots = fin.remove x.snapshots s }) e (record { kind = refl; size = refl; span = refl }) (use_without_snapshot x s))
releases m (SplitFinish v) is h = volume_of m v (λ x. Becomes v (record x { base = None })) (λ c. RaisesNothing m (changed m c)) (same m) (λ x e.
    less m v x (record x { base = None }) e (record { kind = refl; size = refl; span = refl }) (use_once_split x (splits (fin.get m.volumes v) x e h.1.0)))
releases m (Clean v) is h = volume_of m v (λ x. Becomes v (record x { known = true })) (λ c. RaisesNothing m (changed m c)) (same m) (λ x e.
    less m v x (record x { known = true }) e (record { kind = refl; size = refl; span = refl }) (let is : use_of (record x { known = true }) ≡ use_of x = use_once_clean x in omega (arith, is)))
releases m c is h = absurd cc

pub raises_nothing : (m : Machine) (c : Command) → is_release c ≡ true → RaisesNothing m (next m c)
raises_nothing m c is = by_next m c (RaisesNothing m) (same m) (λ e. releases m c is (none_holds (conditions m c) e))
