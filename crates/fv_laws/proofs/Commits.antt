-- What a change of one volume does to the commits.
use Rattle.std.proofs.Common.{◌≡◌, ◌≢◌, ℕ, ◌+◌, ◌*◌, ◌≤◌, Bool, true, false, cond, nat_lt, List, Option, Some, None, refl, sym, ap, ◌∙◌, arith}
use Rattle.std.specs.Option.{option_map_or}
use Rattle.std.specs.Ordering.{eq_by_cmp}
use Rattle.std.specs.FinMap as fin
use Rattle.std.proofs.lemmas.Bool.Decides.{nat_tests}
use Rattle.fv_model.specs.declared.commands.Kind.{Kind}
use Rattle.fv_model.specs.declared.commands.Kind.TheVariants.{Volume as Whole, File as ByFile, Thin}
use Rattle.fv_model.specs.Spelling.{name_cmp}
use Rattle.fv_model.specs.Volumes.{Volume}
use Rattle.fv_model.specs.Machines.{Machine, capacity}
use Rattle.fv_model.specs.Space.{use_of, overhead, promised, commit, commits, IsAdmitted}
use Rattle.fv_model.specs.Effects.{Change, Becomes, changed}
use Rattle.fv_model.specs.Refusals.{is_volume_full, is_aggregate_full}
use Rattle.fv_laws.proofs.Orders.{name_total, name_ties}
use Rattle.fv_laws.proofs.Changes.{IsOf, elsewhere, same_name, itself}
use Rattle.fv_laws.proofs.Maps.{sum-insert}

abbrev pub commit_at : List ℕ × Volume → ℕ
commit_at e = commit e.1

pub now_there : (m : Machine) (v : List ℕ) (y : Volume) → fin.get (fin.insert m.volumes v y) v ≡ Some y
now_there m v y = fin.get-insert name_total m.volumes v y v ∙ ap (λ (b : Bool). cond b (Some y) (fin.get m.volumes v)) (itself v)

-- the commits after a volume was put in place of another
pub commits_put : (m : Machine) (v : List ℕ) (x y : Volume) → fin.get m.volumes v ≡ Some x → commits (changed m (Becomes v y)) + commit x ≡ commits m + commit y
commits_put m v x y e =
    ap (λ (o : Option Volume). commits (changed m (Becomes v y)) + option_map_or (λ w. commit_at (v, w)) o 0) (sym e) ∙ sum-insert name_total name_ties commit_at m.volumes v y

-- the commits after a new volume
pub commits_new : (m : Machine) (v : List ℕ) (y : Volume) → fin.get m.volumes v ≡ None → commits (changed m (Becomes v y)) ≡ commits m + commit y
commits_new m v y e =
    let sum = ap (λ (o : Option Volume). commits (changed m (Becomes v y)) + option_map_or (λ w. commit_at (v, w)) o 0) (sym e) ∙ sum-insert name_total name_ties commit_at m.volumes v y in
    omega (arith, sum)

-- two volumes of one span, kind and size
pub record HasBudgetOf (x y : Volume) : Type 0 where
  pub kind : y.kind ≡ x.kind
  pub size : y.size ≡ x.size
  pub span : y.span ≡ x.span

promised_whole : (x y : Volume) (k : Kind) → k ≡ Whole → y.size ≡ x.size → promised y k ≡ promised x k
promised_whole x y k is size = rw is size

-- of kind `volume` they commit the same
pub same_commit : (x y : Volume) → HasBudgetOf x y → x.kind ≡ Whole → commit y ≡ commit x
same_commit x y h whole =
    (λ i. 2 * overhead (h.span i) + promised y (h.kind i)) ∙ ap (λ n. 2 * overhead x.span + n) (promised_whole x y x.kind whole h.size)

promised_less : (x y : Volume) (k : Kind) → y.size ≡ x.size → use_of y ≤ use_of x → promised y k ≤ promised x k
promised_less x y Whole size le = omega arith
promised_less x y ByFile size le = le
promised_less x y Thin size le = le

-- who uses no more commits no more
pub less_commit : (x y : Volume) → HasBudgetOf x y → use_of y ≤ use_of x → commit y ≤ commit x
less_commit x y h le =
    let less : promised y x.kind ≤ promised x x.kind = promised_less x y x.kind h.size le in
    let same : commit y ≡ 2 * overhead x.span + promised y x.kind = λ i. 2 * overhead (h.span i) + promised y (h.kind i) in
    rw same (omega (arith, less))

-- a volume by its name in a machine that keeps the rule
pub fits : (m : Machine) (v : List ℕ) (x : Volume) → is_volume_full m v ≡ false → fin.get m.volumes v ≡ Some x → use_of x ≤ x.size
fits m v x full e =
    let no : nat_lt x.size (use_of x) ≡ false = ap (λ (o : Option Volume). option_map_or (λ (w : Volume). nat_lt w.size (use_of w)) o false) (sym e) ∙ full in
    grind (arith, nat_tests)

pub within : (m : Machine) → is_aggregate_full m ≡ false → commits m ≤ capacity m.blocks
within m full = grind (arith, nat_tests)

pub is_within : (m : Machine) → commits m ≤ capacity m.blocks → is_aggregate_full m ≡ false
is_within m le = grind (arith, nat_tests)

apart : (name v : List ℕ) → eq_by_cmp name_cmp name v ≡ false → Some v ≢ Some name
apart name v e s = let same : v ≡ name = cc in let yes : eq_by_cmp name_cmp name v ≡ true = rw same (itself name) in cc

-- a change of one name keeps the rule where neither that volume nor the aggregate is full after it
pub admitted_change : (m : Machine) (v : List ℕ) (x : Change) → IsOf (Some v) x → IsAdmitted m → is_volume_full (changed m x) v ≡ false → is_aggregate_full (changed m x) ≡ false → IsAdmitted (changed m x)
admitted_change m v x of ok full all = record {
  volumes = λ name y there.
      elim (eq_by_cmp name_cmp name v) as (λ b. eq_by_cmp name_cmp name v ≡ b → use_of y ≤ y.size) [
        | true ↦ λ e. fits (changed m x) v y full (ap (fin.get (changed m x).volumes) (sym (same_name name v e)) ∙ there)
        | false ↦ λ e. ok.volumes name y (sym (elsewhere m x (Some v) name of (apart name v e)) ∙ there)
      ] refl;
  aggregate = within (changed m x) all;
}

-- likewise where it leaves a volume that uses no more than the one before
pub uses_less : (m : Machine) (v : List ℕ) (x y : Volume) → fin.get m.volumes v ≡ Some x → HasBudgetOf x y → use_of y ≤ use_of x → IsAdmitted m → IsAdmitted (changed m (Becomes v y))
uses_less m v x y e h le ok =
    let was : use_of x ≤ x.size = ok.volumes v x e in
    let size : y.size ≡ x.size = h.size in
    let sum = commits_put m v x y e in
    let less = less_commit x y h le in
    let all : commits m ≤ capacity m.blocks = ok.aggregate in
    admitted_change m v (Becomes v y) refl ok
    (ap (λ (o : Option Volume). option_map_or (λ (w : Volume). nat_lt w.size (use_of w)) o false) (now_there m v y) ∙ grind (arith, nat_tests))
    (is_within (changed m (Becomes v y)) (omega (arith, sum, less, all)))
