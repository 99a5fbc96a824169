-- No command makes a volume use more than its size.
use Rattle.std.proofs.Common.{◌≡◌, ◌≤◌, ℕ, Bool, true, false, cond, not, nat_lt, List, refl, sym, ap, subst, ◌∙◌, arith, Option, Some, None, is_some, unwrap_or}
use Rattle.std.specs.Ordering.{eq_by_cmp, is_eq}
use Rattle.std.specs.Cmp.{Equal-is, tied_itself}
use Rattle.std.specs.Option.{option_map_or}
use Rattle.std.specs.FinMap as fin
use Rattle.std.proofs.lemmas.Bool.Decides.{nat_tests}
use Rattle.fv_model.specs.declared.commands.Command.{Command}
use Rattle.fv_model.specs.declared.commands.Command.TheVariants.{VolCreate, VolDestroy, VolResize, VolGuarantee, VolList, VolStat, New, Put, Get, Len, Cut, Remove, Ls, SnapCreate, SnapDelete, SnapRestore, SnapList, CloneCreate, SplitStart, SplitFinish, Mirror, Clean, Probe, Work, Cp}
use Rattle.fv_model.specs.Spelling.{name_cmp}
use Rattle.fv_model.specs.Tables.{File, Table, file_named, put, cut, rm}
use Rattle.fv_model.specs.Volumes.{Volume}
use Rattle.fv_model.specs.Machines.{Machine, empty_machine}
use Rattle.fv_model.specs.Space.{use_of}
use Rattle.fv_model.specs.Effects.{Change, Stays, Becomes, Goes, changed, at_volume, at_file, at_snapshot, stamped, clone_of, mirror_of, change_of, effect, empty_volume}
use Rattle.fv_model.specs.Refusals.{of_volume, is_splitting, is_volume_full, conditions, first_of, refusal, next}
use Rattle.fv_laws.specs.Halves.{before_space, for_space}
use Rattle.fv_laws.specs.Within.{IsWithin}
use Rattle.fv_laws.proofs.Orders.{name_total, name_ties}
use Rattle.fv_laws.proofs.Halves.{accepted, not_first}
use Rattle.fv_laws.proofs.Release.{use_without_snapshot, use_once_split, use_once_clean, use_when_empty}

abbrev AllFit : Machine → Type 0
AllFit m = (name : List ℕ) (v : Volume) → fin.get m.volumes name ≡ Some v → use_of v ≤ v.size

-- a change is of a name where it touches no other volume
abbrev IsOf : List ℕ → Change → Type 0
IsOf name Stays = Unit
IsOf name (Becomes n x) = n ≡ name
IsOf name (Goes n) = n ≡ name

optional : {A : Type 0} (name : List ℕ) (happens : A → Change) (o : Option A) → ((x : A) → IsOf name (happens x)) → IsOf name (option_map_or happens o Stays)
optional name happens None each = tt
optional name happens (Some x) each = each x

of_a_file : (name : List ℕ) (x : Volume) (f : List ℕ) (table : ℕ → File → ℕ → Table) → IsOf name (at_file x f (λ n file. Becomes name (stamped x (table n file))))
of_a_file name x f table = optional name (λ (e : ℕ × File). Becomes name (stamped x (table e.0 e.1))) (file_named x.active f) (λ e. refl)

of_a_snapshot : (name : List ℕ) (x : Volume) (s : List ℕ) (volume : Table → Volume) → IsOf name (at_snapshot x s (λ t. Becomes name (volume t)))
of_a_snapshot name x s volume = optional name (λ (t : Table). Becomes name (volume t)) (fin.get x.snapshots s) (λ t. refl)

apart : (n name q : List ℕ) → n ≡ name → eq_by_cmp name_cmp q name ≡ false → eq_by_cmp name_cmp q n ≡ false
apart n name q is other = ap (eq_by_cmp name_cmp q) is ∙ other

others : (m : Machine) (name : List ℕ) (c : Change) → IsOf name c → (q : List ℕ) → eq_by_cmp name_cmp q name ≡ false → fin.get (changed m c).volumes q ≡ fin.get m.volumes q
others m name Stays of q other = refl
others m name (Becomes n x) of q other = fin.get-insert name_total m.volumes n x q ∙ ap (λ b. cond b (Some x) (fin.get m.volumes q)) (apart n name q of other)
others m name (Goes n) of q other = fin.get-remove name_total m.volumes n q ∙ ap (λ b. cond b None (fin.get m.volumes q)) (apart n name q of other)

abbrev Fits : Machine → List ℕ → Type 0
Fits m name = (v : Volume) → fin.get m.volumes name ≡ Some v → use_of v ≤ v.size

-- so it is the volume of that name that has to be looked at
one_within : (m : Machine) (name : List ℕ) (c : Change) → IsOf name c → AllFit m → Fits (changed m c) name → AllFit (changed m c)
one_within m name c of was fits q v there =
    elim (eq_by_cmp name_cmp q name) as (λ b. eq_by_cmp name_cmp q name ≡ b → use_of v ≤ v.size) [
      | true ↦ λ tie. fits v (ap (fin.get (changed m c).volumes) (sym (name_ties q name ((Equal-is (name_cmp q name)).0 tie))) ∙ there)
      | false ↦ λ other. was q v (sym (others m name c of q other) ∙ there)
    ] refl

not_more : (size used : ℕ) → nat_lt size used ≡ false → used ≤ size
not_more size used e = grind (arith, nat_tests)

-- a test of a volume that is there
tested : (m : Machine) (name : List ℕ) (test : Volume → Bool) (b : Bool) → of_volume m name test ≡ b → (v : Volume) → fin.get m.volumes name ≡ Some v → test v ≡ b
tested m name test b e v there = sym (ap (λ (o : Option Volume). option_map_or test o false) there) ∙ e

not_full : (m : Machine) (name : List ℕ) → is_volume_full m name ≡ false → Fits m name
not_full m name e v there = not_more v.size (use_of v) (tested m name (λ x. nat_lt x.size (use_of x)) false e v there)

by_space : (m : Machine) (c : Command) (name : List ℕ) → IsOf name (change_of m c) → AllFit m → is_volume_full (effect m c) name ≡ false → AllFit (effect m c)
by_space m c name of was e = one_within m name (change_of m c) of was (not_full (effect m c) name e)

same_volume : (x y : Volume) → Some x ≡ Some y → x ≡ y
same_volume x y e = ap (λ (o : Option Volume). unwrap_or o x) e

becomes : (m : Machine) (name : List ℕ) (x : Volume) → AllFit m → use_of x ≤ x.size → AllFit (changed m (Becomes name x))
becomes m name x was fits = one_within m name (Becomes name x) refl was (λ v there.
    subst (λ (y : Volume). use_of y ≤ y.size) (same_volume x v (sym (fin.get-insert name_total m.volumes name x name ∙ ap (λ r. cond (is_eq r) (Some x) (fin.get m.volumes name)) (tied_itself name_total name)) ∙ there)) fits)

goes : (m : Machine) (name : List ℕ) → AllFit m → AllFit (changed m (Goes name))
goes m name was = one_within m name (Goes name) refl was (λ v there.
    let none : None ≡ Some v = sym (fin.get-remove name_total m.volumes name name ∙ ap (λ r. cond (is_eq r) None (fin.get m.volumes name)) (tied_itself name_total name)) ∙ there in cc)

by_less : (m : Machine) (name : List ℕ) (f : Volume → Volume) → AllFit m → ((x : Volume) → fin.get m.volumes name ≡ Some x → use_of (f x) ≤ (f x).size) → AllFit (changed m (at_volume m name (λ x. Becomes name (f x))))
by_less m name f was fits =
    elim (fin.get m.volumes name) as (λ o. fin.get m.volumes name ≡ o → AllFit (changed m (option_map_or (λ x. Becomes name (f x)) o Stays))) [
      | None ↦ λ there. was
      | Some x ↦ λ there. becomes m name (f x) was (fits x there)
    ] refl

at_most : (a b c : ℕ) → a ≤ b → b ≤ c → a ≤ c
at_most a b c first second = omega (arith, first, second)

splits : (b : Bool) → not b ≡ false → b ≡ true
splits true e = refl
splits false e = cc

abbrev Accepted : Machine → Command → Type 0
Accepted m c = (first_of (before_space m c) ≡ None) × (first_of (for_space m c) ≡ None)

kept : (m : Machine) (c : Command) → AllFit m → Accepted m c → AllFit (effect m c)
unfolding conditions change_of
kept m (VolCreate v size kind) was ok = becomes m v (empty_volume size kind) was (at_most _ 0 size (subst (λ (n : ℕ). n ≤ 0) (sym (use_when_empty size kind)) (omega arith)) (omega arith))
kept m (VolDestroy v) was ok = goes m v was
kept m (VolResize v size) was ok = by_space m (VolResize v size) v (optional v _ (fin.get m.volumes v) (λ x. refl)) was (not_first _ _ _ ok.1).0
kept m (VolGuarantee v kind) was ok = by_space m (VolGuarantee v kind) v (optional v _ (fin.get m.volumes v) (λ x. refl)) was (not_first _ _ _ ok.1).0
kept m VolList was ok = was
kept m (VolStat v) was ok = was
kept m (New v f reserve) was ok = by_space m (New v f reserve) v (optional v _ (fin.get m.volumes v) (λ x. refl)) was (not_first _ _ _ ok.1).0
kept m (Put v f i block) was ok = by_space m (Put v f i block) v (optional v _ (fin.get m.volumes v) (λ x. of_a_file v x f (λ n file. put x.active n file i block))) was (not_first _ _ _ ok.1).0
kept m (Get v s f i) was ok = was
kept m (Len v s f) was ok = was
kept m (Cut v f length) was ok = by_space m (Cut v f length) v (optional v _ (fin.get m.volumes v) (λ x. of_a_file v x f (λ n file. cut x.active n file length))) was (not_first _ _ _ ok.1).0
kept m (Remove v f) was ok = by_space m (Remove v f) v (optional v _ (fin.get m.volumes v) (λ x. of_a_file v x f (λ n file. rm x.active n))) was (not_first _ _ _ ok.1).0
kept m (Ls v s) was ok = was
kept m (SnapCreate v s) was ok = by_space m (SnapCreate v s) v (optional v _ (fin.get m.volumes v) (λ x. refl)) was (not_first _ _ _ ok.1).0
kept m (SnapDelete v s) was ok = by_less m v (λ x. record x { snapshots = fin.remove x.snapshots s }) was (λ x there. at_most _ (use_of x) x.size (use_without_snapshot x s) (was v x there))
kept m (SnapRestore v s) was ok = by_space m (SnapRestore v s) v (optional v _ (fin.get m.volumes v) (λ x. of_a_snapshot v x s (λ t. record x { active = t }))) was (not_first _ _ _ ok.1).0
kept m (SnapList v) was ok = was
kept m (CloneCreate c v s size kind) was ok = by_space m (CloneCreate c v s size kind) c (optional c _ (fin.get m.volumes v) (λ x. of_a_snapshot c x s (λ t. clone_of v x s t size kind))) was (not_first _ _ _ ok.1).0
kept m (SplitStart c) was ok = by_space m (SplitStart c) c (optional c _ (fin.get m.volumes c) (λ x. refl)) was (not_first _ _ _ ok.1).0
kept m (SplitFinish c) was ok = by_less m c (λ x. record x { base = None }) was (λ x there.
    at_most _ (use_of x) x.size (use_once_split x (splits (is_splitting x) (tested m c (λ y. not (is_splitting y)) false (not_first _ _ _ (not_first _ _ _ ok.0).1).0 x there))) (was c x there))
kept m (Mirror v s w size kind) was ok = by_space m (Mirror v s w size kind) w (optional w _ (fin.get m.volumes v) (λ x. of_a_snapshot w x s (λ t. mirror_of x t size kind))) was (not_first _ _ _ ok.1).0
kept m (Clean v) was ok = by_less m v (λ x. record x { known = true }) was (λ x there. subst (λ (n : ℕ). n ≤ x.size) (sym (use_once_clean x)) (was v x there))
kept m (Probe v f i) was ok = was
kept m (Work n) was ok = was
kept m Cp was ok = was

pub effect_within : (m : Machine) (c : Command) → IsWithin m → refusal m c ≡ None → IsWithin (effect m c)
effect_within m c was ok = record { volumes = kept m c was.volumes (accepted m c ok) }

pub next_within : (m : Machine) (c : Command) → IsWithin m → IsWithin (next m c)
next_within m c was =
    elim (refusal m c) as (λ o. refusal m c ≡ o → IsWithin (cond (is_some o) m (effect m c))) [
      | None ↦ λ ok. effect_within m c was ok
      | Some r ↦ λ refused. was
    ] refl

pub empty_within : (blocks : ℕ) → IsWithin (empty_machine blocks)
empty_within blocks = record { volumes = λ name v there. let none : None ≡ Some v = sym (fin.get-empty name_cmp name) ∙ there in cc }
