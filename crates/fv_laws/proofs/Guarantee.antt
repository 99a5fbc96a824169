-- A change in a volume of kind `volume` is refused for space exactly where its charge would pass its size.
use Rattle.std.proofs.Common.{◌≡◌, ℕ, ◌≤◌, Bool, true, false, cond, nat_lt, List, [], ◌∷◌, ◌++◌, Option, Some, None, refl, sym, ap, subst, ◌∙◌, arith}
use Rattle.std.specs.Option.{option_map_or}
use Rattle.std.specs.FinMap as fin
use Rattle.fv_model.specs.declared.answers.Refusal.TheVariants.{NoVolume, NoFile, FileExists, VolumeFull, AggregateFull, Range, TooMany, WrongKind}
use Rattle.fv_model.specs.declared.commands.Kind.TheVariants.{Volume as Whole}
use Rattle.fv_model.specs.declared.commands.Command.{Command}
use Rattle.fv_model.specs.declared.commands.Command.TheVariants.{New, Put, Cut, Remove}
use Rattle.fv_model.specs.Volumes.{Volume}
use Rattle.fv_model.specs.Machines.{Machine, capacity}
use Rattle.fv_model.specs.Space.{charge, need, use_of, commit, commits, IsAdmitted}
use Rattle.fv_model.specs.Effects.{Change, Stays, Becomes, Goes, changed, change_of, effect}
use Rattle.fv_model.specs.Refusals.{Condition, conditions, first_of, home, space, is_volume_full, is_aggregate_full}
use Rattle.fv_laws.specs.Isolation.{is_local}
use Rattle.fv_laws.specs.Guarantee.{is_change, is_early, is_overcharged, IsChangeOf, IsGuaranteed}
use Rattle.fv_laws.proofs.Changes.{by_cases, IsOf, at_home}
use Rattle.fv_laws.proofs.Commits.{now_there, commits_put, HasBudgetOf, same_commit, is_within}

-- conditions that come before the two of space
abbrev pub AreEarly : List Condition → Type 0
AreEarly [] = Unit {0}
AreEarly (r ∷ rs) = (is_early (Some r.0) ≡ true) × AreEarly rs

abbrev pub last_two : Bool → Bool → List Condition
last_two full all = (VolumeFull, full) ∷ (AggregateFull, all) ∷ []

-- where no early condition holds, the two of space decide
late : (early : List Condition) (full all : Bool) → AreEarly early → is_early (first_of (early ++ last_two full all)) ≡ false → first_of (early ++ last_two full all) ≡ first_of (last_two full all)
late [] full all are not_early = refl
late (r ∷ rs) full all are not_early =
    elim r.1 as (λ b. is_early (cond b (Some r.0) (first_of (rs ++ last_two full all))) ≡ false → cond b (Some r.0) (first_of (rs ++ last_two full all)) ≡ first_of (last_two full all)) [
      | true ↦ λ e. let early : is_early (Some r.0) ≡ true = are.0 in cc
      | false ↦ λ e. late rs full all are.1 e
    ] not_early

-- a command with early conditions, and then those of space at this volume
pub record EndsInSpace (m : Machine) (v : List ℕ) (c : Command) : Type 0 where
  pub early : List Condition
  pub are : AreEarly early
  pub all : conditions m c ≡ early ++ space m c v

at_new : (m : Machine) (v f : List ℕ) (reserve : ℕ) → EndsInSpace m v (New v f reserve)
unfolding conditions
at_new m v f reserve = record { early = (Range, _) ∷ (NoVolume, _) ∷ (FileExists, _) ∷ (WrongKind, _) ∷ (TooMany, _) ∷ []; are = (refl, (refl, (refl, (refl, (refl, tt))))); all = refl }

at_put : (m : Machine) (v f : List ℕ) (i : ℕ) (block : List ℕ) → EndsInSpace m v (Put v f i block)
unfolding conditions
at_put m v f i block = record { early = (Range, _) ∷ (NoVolume, _) ∷ (NoFile, _) ∷ (TooMany, _) ∷ []; are = (refl, (refl, (refl, (refl, tt)))); all = refl }

at_cut : (m : Machine) (v f : List ℕ) (length : ℕ) → EndsInSpace m v (Cut v f length)
unfolding conditions
at_cut m v f length = record { early = (Range, _) ∷ (NoVolume, _) ∷ (NoFile, _) ∷ (Range, _) ∷ (TooMany, _) ∷ []; are = (refl, (refl, (refl, (refl, (refl, tt))))); all = refl }

at_remove : (m : Machine) (v f : List ℕ) → EndsInSpace m v (Remove v f)
unfolding conditions
at_remove m v f = record { early = (NoVolume, _) ∷ (NoFile, _) ∷ (TooMany, _) ∷ []; are = (refl, (refl, (refl, tt))); all = refl }

pub ends_in_space : (m : Machine) (v : List ℕ) (c : Command) → is_change c ≡ true → home c ≡ Some v → EndsInSpace m v c
ends_in_space m v (New w f reserve) is h = let same : w ≡ v = cc in subst (λ u. EndsInSpace m u (New w f reserve)) same (at_new m w f reserve)
ends_in_space m v (Put w f i block) is h = let same : w ≡ v = cc in subst (λ u. EndsInSpace m u (Put w f i block)) same (at_put m w f i block)
ends_in_space m v (Cut w f length) is h = let same : w ≡ v = cc in subst (λ u. EndsInSpace m u (Cut w f length)) same (at_cut m w f length)
ends_in_space m v (Remove w f) is h = let same : w ≡ v = cc in subst (λ u. EndsInSpace m u (Remove w f)) same (at_remove m w f)
ends_in_space m v c is h = absurd cc

-- a change keeps span, kind and size of the volume
abbrev pub KeepsBudget : Machine → Change → Type 0
KeepsBudget m Stays = Unit {0}
KeepsBudget m (Becomes v y) = (x : Volume) → fin.get m.volumes v ≡ Some x → HasBudgetOf x y
KeepsBudget m (Goes v) = ⊥

pub budget : (x y : Volume) → y.kind ≡ x.kind → y.size ≡ x.size → y.span ≡ x.span → HasBudgetOf x y
budget x y kind size span = record { kind = kind; size = size; span = span }

pub one_volume : (x y : Volume) (o : Option Volume) → o ≡ Some x → o ≡ Some y → x ≡ y
one_volume x y o e d = cc

same_budget : (x y z : Volume) → x ≡ y → z.kind ≡ x.kind → z.size ≡ x.size → z.span ≡ x.span → HasBudgetOf y z
same_budget x y z same kind size span = record { kind = kind ∙ (λ i. (same i).kind); size = size ∙ (λ i. (same i).size); span = span ∙ (λ i. (same i).span) }

pub keeps_budget : (m : Machine) (c : Command) → is_local c ≡ true → KeepsBudget m (change_of m c)
keeps_budget m c is = by_cases m (λ c x. is_local c ≡ true → KeepsBudget m x) (record {
  stays = λ c is. tt;
  creates = λ v size kind is. absurd cc;
  destroys = λ v is. absurd cc;
  resizes = λ v size x e is. absurd cc;
  guarantees = λ v kind x e is. absurd cc;
  news = λ v f reserve x e is y d. same_budget x y _ (one_volume x y _ e d) refl refl refl;
  puts = λ v f i block x e n file g is y d. same_budget x y _ (one_volume x y _ e d) refl refl refl;
  cuts = λ v f length x e n file g is y d. same_budget x y _ (one_volume x y _ e d) refl refl refl;
  removes = λ v f x e n file g is y d. same_budget x y _ (one_volume x y _ e d) refl refl refl;
  keeps = λ v s x e is y d. same_budget x y _ (one_volume x y _ e d) refl refl refl;
  forgets = λ v s x e is y d. same_budget x y _ (one_volume x y _ e d) refl refl refl;
  restores = λ v s x e t g is y d. same_budget x y _ (one_volume x y _ e d) refl refl refl;
  clones = λ c v s size kind x e t d is. absurd cc;
  mirrors = λ v s w size kind x e t d is. absurd cc;
  splits = λ c x e is y d. same_budget x y _ (one_volume x y _ e d) refl refl refl;
  ends = λ c x e is y d. same_budget x y _ (one_volume x y _ e d) refl refl refl;
  cleans = λ v x e is y d. same_budget x y _ (one_volume x y _ e d) refl refl refl;
}) c is

keeps : (m : Machine) (c : Command) → is_change c ≡ true → KeepsBudget m (change_of m c)
keeps m c is = keeps_budget m c (local c is)
  where
    local : (c : Command) → is_change c ≡ true → is_local c ≡ true
    local (New v f reserve) is = refl
    local (Put v f i block) is = refl
    local (Cut v f length) is = refl
    local (Remove v f) is = refl
    local c is = absurd cc

-- of kind `volume`, the use is the charge
no_need : (x : Volume) → x.kind ≡ Whole → need x ≡ 0
unfolding need
no_need x whole = rw whole refl

used : (n : Machine) (v : List ℕ) (x : Volume) → fin.get n.volumes v ≡ Some x → x.kind ≡ Whole → is_volume_full n v ≡ is_overcharged n v
used n v x e whole =
    ap (λ (o : Option Volume). option_map_or (λ (w : Volume). nat_lt w.size (use_of w)) o false) e
    ∙ (let same : use_of x ≡ charge x = omega (arith, no_need x whole) in ap (nat_lt x.size) same)
    ∙ ap (λ (o : Option Volume). option_map_or (λ (w : Volume). nat_lt w.size (charge w)) o false) (sym e)

-- what a change of a volume of kind `volume` leaves: the commits, and a charge that is its use
pub record Afterwards (n : Machine) (v : List ℕ) : Type 0 where
  pub within : is_aggregate_full n ≡ false
  pub used : is_volume_full n v ≡ is_overcharged n v

pub afterwards : (m : Machine) (v : List ℕ) (x : Volume) (change : Change) → IsAdmitted m → fin.get m.volumes v ≡ Some x → x.kind ≡ Whole → IsOf (Some v) change → KeepsBudget m change → Afterwards (changed m change) v
afterwards m v x Stays ok e whole of keeps = record { within = is_within m ok.aggregate; used = used m v x e whole }
afterwards m v x (Becomes w y) ok e whole of keeps =
    let same : v ≡ w = cc in
    let there : fin.get m.volumes w ≡ Some x = ap (fin.get m.volumes) (sym same) ∙ e in
    let h = keeps x there in
    let kind : y.kind ≡ x.kind = h.kind in
    let commit_is : commit y ≡ commit x = same_commit x y h whole in
    let sum = commits_put m w x y there in
    let all : commits m ≤ capacity m.blocks = ok.aggregate in
    record {
      within = is_within (changed m (Becomes w y)) (omega (arith, sum, commit_is, all));
      used = used (changed m (Becomes w y)) v y (ap (fin.get (changed m (Becomes w y)).volumes) same ∙ now_there m w y) (kind ∙ whole);
    }
afterwards m v x (Goes w) ok e whole of keeps = absurd keeps

decided : (full all b : Bool) → all ≡ false → full ≡ b → first_of (last_two full all) ≡ cond b (Some VolumeFull) None
decided full all b none is = λ i. first_of (last_two (is i) (none i))

pub guaranteed : (m : Machine) (v : List ℕ) (c : Command) → IsAdmitted m → IsChangeOf m v c → IsGuaranteed m v c
guaranteed m v c ok h =
    let form = ends_in_space m v c h.changes h.here in
    let left = afterwards m v h.volume (change_of m c) ok h.there h.kind (subst (λ (o : Option (List ℕ)). IsOf o (change_of m c)) h.here (at_home m c)) (keeps m c h.changes) in
    ap first_of form.all
    ∙ late form.early (is_volume_full (effect m c) v) (is_aggregate_full (effect m c)) form.are (ap (λ (cs : List Condition). is_early (first_of cs)) (sym form.all) ∙ h.late)
    ∙ decided (is_volume_full (effect m c) v) (is_aggregate_full (effect m c)) (is_overcharged (effect m c) v) left.within left.used
