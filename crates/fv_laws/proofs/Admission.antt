-- Every command keeps the admission rule.
use Rattle.std.proofs.Common.{◌≡◌, ℕ, ◌≤◌, Bool, true, false, cond, not, nat_lt, List, [], ◌∷◌, Option, Some, None, sum_by, length, refl, sym, ap, subst, ◌∙◌, arith}
use Rattle.std.specs.Option.{option_map_or}
use Rattle.std.specs.FinMap as fin
use Rattle.std.proofs.lemmas.Bool.Decides.{nat_tests}
use Rattle.fv_model.specs.declared.commands.Kind.{Kind}
use Rattle.fv_model.specs.declared.commands.Command.{Command}
use Rattle.fv_model.specs.declared.commands.Command.TheVariants.{VolCreate, VolDestroy, VolResize, VolGuarantee, VolList, VolStat, New, Put, Get, Len, Cut, Remove, Ls, SnapCreate, SnapDelete, SnapRestore, SnapList, CloneCreate, SplitStart, SplitFinish, Mirror, Clean, Probe, Work, Cp}
use Rattle.fv_model.specs.Spelling.{name_cmp}
use Rattle.fv_model.specs.Volumes.{Volume}
use Rattle.fv_model.specs.Machines.{Machine, empty_machine, capacity}
use Rattle.fv_model.specs.Space.{use_of, commits, IsAdmitted}
use Rattle.fv_model.specs.Effects.{Becomes, Goes, changed, change_of, effect, empty_volume}
use Rattle.fv_model.specs.Refusals.{of_volume, conditions, next, home, is_volume_full, is_aggregate_full, is_splitting}
use Rattle.fv_model.specs.Runs.{Line, after}
use Rattle.fv_laws.proofs.Orders.{name_total, name_ties}
use Rattle.fv_laws.proofs.Halves.{NoneHolds, none_holds}
use Rattle.fv_laws.proofs.Changes.{along, IsOf, at_home, by_next, volume_of, itself}
use Rattle.fv_laws.proofs.Maps.{sum-remove-le}
use Rattle.fv_laws.proofs.Release.{use_without_snapshot, use_once_split, use_once_clean, use_when_empty}
use Rattle.fv_laws.proofs.Commits.{now_there, commit_at, is_within, admitted_change, uses_less}

-- what the two conditions of space say where neither holds
record Fits (m : Machine) (c : Command) : Type 0 where
  name : List ℕ
  here : home c ≡ Some name
  volume : is_volume_full (effect m c) name ≡ false
  aggregate : is_aggregate_full (effect m c) ≡ false

kept_by_fits : (m : Machine) (c : Command) → IsAdmitted m → Fits m c → IsAdmitted (effect m c)
kept_by_fits m c ok fits =
    admitted_change m fits.name (change_of m c) (subst (λ (o : Option (List ℕ)). IsOf o (change_of m c)) fits.here (at_home m c)) ok fits.volume fits.aggregate

clean : (m : Machine) (v : List ℕ) → IsAdmitted m → IsAdmitted (effect m (Clean v))
unfolding change_of
clean m v ok = volume_of m v (λ x. Becomes v (record x { known = true })) (λ c. IsAdmitted (changed m c)) ok (λ x e.
    uses_less m v x (record x { known = true }) e (record { kind = refl; size = refl; span = refl }) (let same : use_of (record x { known = true }) ≡ use_of x = use_once_clean x in omega (arith, same)) ok)

-- a snapshot that goes raises nothing
forget : (m : Machine) (v s : List ℕ) → IsAdmitted m → IsAdmitted (effect m (SnapDelete v s))
unfolding change_of
forget m v s ok = volume_of m v (λ x. Becomes v (record x { snapshots = fin.remove x.snapshots s })) (λ c. IsAdmitted (changed m c)) ok (λ x e.
    uses_less m v x (record x { snapshots = fin.remove x.snapshots s }) e (record { kind = refl; size = refl; span = refl }) (use_without_snapshot x s) ok)

-- nor does the end of a split
not_not : (b : Bool) → not b ≡ false → b ≡ true
not_not true e = refl
not_not false e = absurd cc

pub splits : (o : Option Volume) (x : Volume) → o ≡ Some x → option_map_or (λ w. not (is_splitting w)) o false ≡ false → is_splitting x ≡ true
splits o x e h = not_not (is_splitting x) (ap (λ (o : Option Volume). option_map_or (λ w. not (is_splitting w)) o false) (sym e) ∙ h)

end_split : (m : Machine) (c : List ℕ) → IsAdmitted m → of_volume m c (λ x. not (is_splitting x)) ≡ false → IsAdmitted (effect m (SplitFinish c))
unfolding change_of
end_split m c ok h = volume_of m c (λ x. Becomes c (record x { base = None })) (λ y. IsAdmitted (changed m y)) ok (λ x e.
    uses_less m c x (record x { base = None }) e (record { kind = refl; size = refl; span = refl }) (use_once_split x (splits (fin.get m.volumes c) x e h)) ok)

destroy : (m : Machine) (v : List ℕ) → IsAdmitted m → IsAdmitted (effect m (VolDestroy v))
unfolding change_of
destroy m v ok =
    let gone : fin.get (fin.remove m.volumes v) v ≡ None = fin.get-remove name_total m.volumes v v ∙ ap (λ (b : Bool). cond b None (fin.get m.volumes v)) (itself v) in
    let less = sum-remove-le name_total name_ties commit_at m.volumes v in
    let all : commits m ≤ capacity m.blocks = ok.aggregate in
    admitted_change m v (Goes v) refl ok
    (ap (λ (o : Option Volume). option_map_or (λ (w : Volume). nat_lt w.size (use_of w)) o false) gone)
    (is_within (changed m (Goes v)) (omega (arith, less, all)))

create : (m : Machine) (v : List ℕ) (size : ℕ) (kind : Kind) → IsAdmitted m → is_aggregate_full (effect m (VolCreate v size kind)) ≡ false → IsAdmitted (effect m (VolCreate v size kind))
unfolding change_of
create m v size kind ok all =
    admitted_change m v (Becomes v (empty_volume size kind)) refl ok
    (ap (λ (o : Option Volume). option_map_or (λ (w : Volume). nat_lt w.size (use_of w)) o false) (now_there m v (empty_volume size kind)) ∙ (let zero : use_of (empty_volume size kind) ≡ 0 = use_when_empty size kind in grind (arith, nat_tests)))
    all

kept : (m : Machine) (c : Command) → IsAdmitted m → NoneHolds (conditions m c) → IsAdmitted (effect m c)
unfolding conditions change_of
kept m (VolCreate v size kind) ok h = create m v size kind ok h.1.1.1.0
kept m (VolDestroy v) ok h = destroy m v ok
kept m (VolResize v size) ok h = kept_by_fits m (VolResize v size) ok (record { name = v; here = refl; volume = h.1.1.1.0; aggregate = h.1.1.1.1.0 })
kept m (VolGuarantee v kind) ok h = kept_by_fits m (VolGuarantee v kind) ok (record { name = v; here = refl; volume = h.1.0; aggregate = h.1.1.0 })
kept m (New v f reserve) ok h = kept_by_fits m (New v f reserve) ok (record { name = v; here = refl; volume = h.1.1.1.1.1.0; aggregate = h.1.1.1.1.1.1.0 })
kept m (Put v f i block) ok h = kept_by_fits m (Put v f i block) ok (record { name = v; here = refl; volume = h.1.1.1.1.0; aggregate = h.1.1.1.1.1.0 })
kept m (Cut v f length) ok h = kept_by_fits m (Cut v f length) ok (record { name = v; here = refl; volume = h.1.1.1.1.1.0; aggregate = h.1.1.1.1.1.1.0 })
kept m (Remove v f) ok h = kept_by_fits m (Remove v f) ok (record { name = v; here = refl; volume = h.1.1.1.0; aggregate = h.1.1.1.1.0 })
kept m (SnapCreate v s) ok h = kept_by_fits m (SnapCreate v s) ok (record { name = v; here = refl; volume = h.1.1.1.0; aggregate = h.1.1.1.1.0 })
kept m (SnapDelete v s) ok h = forget m v s ok
kept m (SnapRestore v s) ok h = kept_by_fits m (SnapRestore v s) ok (record { name = v; here = refl; volume = h.1.1.0; aggregate = h.1.1.1.0 })
kept m (CloneCreate c v s size kind) ok h = kept_by_fits m (CloneCreate c v s size kind) ok (record { name = c; here = refl; volume = h.1.1.1.1.1.1.1.1.0; aggregate = h.1.1.1.1.1.1.1.1.1.0 })
kept m (SplitStart c) ok h = kept_by_fits m (SplitStart c) ok (record { name = c; here = refl; volume = h.1.1.1.0; aggregate = h.1.1.1.1.0 })
kept m (SplitFinish c) ok h = end_split m c ok h.1.0
kept m (Mirror v s w size kind) ok h = kept_by_fits m (Mirror v s w size kind) ok (record { name = w; here = refl; volume = h.1.1.1.1.1.1.0; aggregate = h.1.1.1.1.1.1.1.0 })
kept m (Clean v) ok h = clean m v ok
kept m VolList ok h = ok
kept m (VolStat v) ok h = ok
kept m (Get v s f i) ok h = ok
kept m (Len v s f) ok h = ok
kept m (Ls v s) ok h = ok
kept m (SnapList v) ok h = ok
kept m (Probe v f i) ok h = ok
kept m (Work n) ok h = ok
kept m Cp ok h = ok

pub admitted : (m : Machine) (c : Command) → IsAdmitted m → IsAdmitted (next m c)
admitted m c ok = by_next m c IsAdmitted ok (λ e. kept m c ok (none_holds (conditions m c) e))

no_entries : {A : Type 0} (es : List A) → length es ≡ 0 → es ≡ []
no_entries [] e = refl
no_entries (x ∷ es) e = absurd (omega arith)

no_volumes : (blocks : ℕ) → commits (empty_machine blocks) ≡ 0
no_volumes blocks = ap (λ (es : List (List ℕ × Volume)). sum_by commit_at es) (no_entries _ (sym (fin.len-entries (fin.empty {K = List ℕ} {X = Volume} {R = name_cmp})) ∙ fin.len-empty name_cmp Volume))

-- no volume commits nothing
pub admitted_empty : (blocks : ℕ) → IsAdmitted (empty_machine blocks)
admitted_empty blocks = record {
  volumes = λ name v there. let none : Some v ≡ None = sym there ∙ fin.get-empty name_cmp name in absurd cc;
  aggregate = rw (no_volumes blocks) (omega arith);
}

pub admitted_after : (m : Machine) (lines : List Line) (k : ℕ) → IsAdmitted m → IsAdmitted (after m lines k)
admitted_after = along IsAdmitted admitted
