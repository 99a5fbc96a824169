-- A command that looks at its home alone does the same in two machines that have the same volume there.
use Rattle.std.proofs.Common.{◌⊎◌, ◌≡◌, ℕ, Bool, true, false, cond, nat_lt, List, [], ◌∷◌, Option, Some, None, inl, inr, is_some, refl, sym, ap, subst, ◌∙◌}
use Rattle.std.specs.Option.{option_map_or}
use Rattle.std.specs.Ordering.{eq_by_cmp}
use Rattle.std.specs.FinMap as fin
use Rattle.fv_model.specs.declared.answers.Refusal.{Refusal}
use Rattle.fv_model.specs.declared.answers.Refusal.TheVariants.{AggregateFull}
use Rattle.fv_model.specs.declared.answers.Reply.{Reply}
use Rattle.fv_model.specs.declared.commands.Kind.{Kind}
use Rattle.fv_model.specs.declared.commands.Kind.TheVariants.{Volume as Whole, File as ByFile, Thin}
use Rattle.fv_model.specs.declared.commands.Command.{Command}
use Rattle.fv_model.specs.declared.commands.Command.TheVariants.{VolStat, New, Put, Get, Len, Cut, Remove, Ls, SnapCreate, SnapDelete, SnapRestore, SnapList, SplitStart, SplitFinish, Clean, Probe}
use Rattle.fv_model.specs.Spelling.{name_cmp}
use Rattle.fv_model.specs.Volumes.{Volume}
use Rattle.fv_model.specs.Machines.{Machine}
use Rattle.fv_model.specs.Space.{use_of, IsAdmitted}
use Rattle.fv_model.specs.Effects.{Change, Stays, Becomes, Goes, changed, change_of, effect}
use Rattle.fv_model.specs.Refusals.{Condition, conditions, first_of, refusal, home, is_volume_full, is_aggregate_full}
use Rattle.fv_model.specs.Replies.{AllowsBy, IsAnswer, is_open, answer}
use Rattle.fv_laws.specs.Isolation.{is_local, rests_elsewhere, AreAlike, IsIsolated}
use Rattle.fv_laws.proofs.Orders.{name_total}
use Rattle.fv_laws.proofs.Changes.{IsOf, at_home}
use Rattle.fv_laws.proofs.Guarantee.{keeps_budget, afterwards}
use Rattle.fv_laws.proofs.SetCounts.{or_true}

-- ---- lists of conditions that agree but where others are looked at
abbrev One : (Refusal → Bool) → Condition → Condition → Type 0
One elsewhere r q = (r.0 ≡ q.0) × ((r.1 ≡ q.1) ⊎ (elsewhere r.0 ≡ true))

abbrev Agree : (Refusal → Bool) → List Condition → List Condition → Type 0
Agree elsewhere [] [] = Unit {0}
Agree elsewhere [] (q ∷ qs) = ⊥
Agree elsewhere (r ∷ rs) [] = ⊥
Agree elsewhere (r ∷ rs) (q ∷ qs) = One elsewhere r q × Agree elsewhere rs qs

abbrev told : (Refusal → Bool) → Option Refusal → Bool
told elsewhere o = option_map_or elsewhere o false

one_test : (elsewhere : Refusal → Bool) (r q : Refusal) (a b : Bool) (o p : Option Refusal) → r ≡ q → (a ≡ b) ⊎ (elsewhere r ≡ true) → (told elsewhere o ≡ false → told elsewhere p ≡ false → o ≡ p) → told elsewhere (cond a (Some r) o) ≡ false → told elsewhere (cond b (Some q) p) ≡ false → cond a (Some r) o ≡ cond b (Some q) p
one_test elsewhere r q true true o p same tests rest f g = ap Some same
one_test elsewhere r q false false o p same tests rest f g = rest f g
one_test elsewhere r q true false o p same (inl wrong) rest f g = absurd cc
one_test elsewhere r q false true o p same (inl wrong) rest f g = absurd cc
one_test elsewhere r q true false o p same (inr is) rest f g = let no : true ≡ false = sym is ∙ f in absurd cc
one_test elsewhere r q false true o p same (inr is) rest f g = let no : true ≡ false = sym is ∙ ap elsewhere same ∙ g in absurd cc

same_first : (elsewhere : Refusal → Bool) (rs qs : List Condition) → Agree elsewhere rs qs → told elsewhere (first_of rs) ≡ false → told elsewhere (first_of qs) ≡ false → first_of rs ≡ first_of qs
same_first elsewhere [] [] agree f g = refl
same_first elsewhere [] (q ∷ qs) agree f g = absurd agree
same_first elsewhere (r ∷ rs) [] agree f g = absurd agree
same_first elsewhere (r ∷ rs) (q ∷ qs) agree f g = one_test elsewhere r.0 q.0 r.1 q.1 (first_of rs) (first_of qs) agree.0.0 agree.0.1 (same_first elsewhere rs qs agree.1) f g

-- ---- what two machines with the same home have in common
abbrev SameHome : Machine → Machine → Command → Type 0
SameHome m n c = (v : List ℕ) → home c ≡ Some v → fin.get m.volumes v ≡ fin.get n.volumes v

same_change : (m n : Machine) (c : Command) → is_local c ≡ true → SameHome m n c → change_of m c ≡ change_of n c
unfolding change_of
same_change m n (VolStat v) is h = refl
same_change m n (New v f reserve) is h = rw (h v refl) refl
same_change m n (Put v f i block) is h = rw (h v refl) refl
same_change m n (Get v s f i) is h = refl
same_change m n (Len v s f) is h = refl
same_change m n (Cut v f length) is h = rw (h v refl) refl
same_change m n (Remove v f) is h = rw (h v refl) refl
same_change m n (Ls v s) is h = refl
same_change m n (SnapCreate v s) is h = rw (h v refl) refl
same_change m n (SnapDelete v s) is h = rw (h v refl) refl
same_change m n (SnapRestore v s) is h = rw (h v refl) refl
same_change m n (SnapList v) is h = refl
same_change m n (SplitStart v) is h = rw (h v refl) refl
same_change m n (SplitFinish v) is h = rw (h v refl) refl
same_change m n (Clean v) is h = rw (h v refl) refl
same_change m n (Probe v f i) is h = refl
same_change m n c is h = absurd cc

same_volume : (m n : Machine) (x : Change) (v : List ℕ) → fin.get m.volumes v ≡ fin.get n.volumes v → fin.get (changed m x).volumes v ≡ fin.get (changed n x).volumes v
same_volume m n Stays v e = e
same_volume m n (Becomes w y) v e =
    fin.get-insert name_total m.volumes w y v ∙ ap (cond (eq_by_cmp name_cmp v w) (Some y)) e ∙ sym (fin.get-insert name_total n.volumes w y v)
same_volume m n (Goes w) v e =
    fin.get-remove name_total m.volumes w v ∙ ap (cond (eq_by_cmp name_cmp v w) None) e ∙ sym (fin.get-remove name_total n.volumes w v)

same_answer : (m n : Machine) (c : Command) → is_local c ≡ true → SameHome m n c → answer m c ≡ answer n c
unfolding answer
same_answer m n (VolStat v) is h = rw (h v refl) refl
same_answer m n (New v f reserve) is h = refl
same_answer m n (Put v f i block) is h = refl
same_answer m n (Get v s f i) is h = rw (h v refl) refl
same_answer m n (Len v s f) is h = rw (h v refl) refl
same_answer m n (Cut v f length) is h = refl
same_answer m n (Remove v f) is h = refl
same_answer m n (Ls v s) is h = rw (h v refl) refl
same_answer m n (SnapCreate v s) is h = refl
same_answer m n (SnapDelete v s) is h = refl
same_answer m n (SnapRestore v s) is h = refl
same_answer m n (SnapList v) is h = rw (h v refl) refl
same_answer m n (SplitStart v) is h = refl
same_answer m n (SplitFinish v) is h = refl
same_answer m n (Clean v) is h = refl
same_answer m n (Probe v f i) is h = refl
same_answer m n c is h = absurd cc

same_open : (m n : Machine) (c : Command) → SameHome m n c → is_open m c ≡ is_open n c
same_open m n (Probe v f i) h = rw (h v refl) refl
same_open m n c h = refl

-- ---- the conditions
abbrev SameFull : Machine → Machine → Command → Type 0
SameFull m n c = (v : List ℕ) → home c ≡ Some v → is_volume_full (effect m c) v ≡ is_volume_full (effect n c) v

abbrev SameAggregate : (Refusal → Bool) → Machine → Machine → Command → Type 0
SameAggregate elsewhere m n c = (is_aggregate_full (effect m c) ≡ is_aggregate_full (effect n c)) ⊎ (elsewhere AggregateFull ≡ true)

agree : (k : Kind) (m n : Machine) (c : Command) → is_local c ≡ true → SameHome m n c → SameFull m n c → SameAggregate (rests_elsewhere k c) m n c → Agree (rests_elsewhere k c) (conditions m c) (conditions n c)
unfolding conditions
agree k m n (VolStat v) is h full all = let e = h v refl in ((refl, inl (rw e refl)), tt)
agree k m n (New v f reserve) is h full all = let e = h v refl in
    ((refl, inl refl), ((refl, inl (rw e refl)), ((refl, inl (rw e refl)), ((refl, inl (rw e refl)), ((refl, inl (rw e refl)), ((refl, inl (full v refl)), ((refl, all), tt)))))))
agree k m n (Put v f i block) is h full all = let e = h v refl in
    ((refl, inl refl), ((refl, inl (rw e refl)), ((refl, inl (rw e refl)), ((refl, inl (rw e refl)), ((refl, inl (full v refl)), ((refl, all), tt))))))
agree k m n (Get v s f i) is h full all = let e = h v refl in
    ((refl, inl refl), ((refl, inl (rw e refl)), ((refl, inl (rw e refl)), ((refl, inl (rw e refl)), ((refl, inl (rw e refl)), tt)))))
agree k m n (Len v s f) is h full all = let e = h v refl in ((refl, inl (rw e refl)), ((refl, inl (rw e refl)), ((refl, inl (rw e refl)), tt)))
agree k m n (Cut v f length) is h full all = let e = h v refl in
    ((refl, inl refl), ((refl, inl (rw e refl)), ((refl, inl (rw e refl)), ((refl, inl (rw e refl)), ((refl, inl (rw e refl)), ((refl, inl (full v refl)), ((refl, all), tt)))))))
agree k m n (Remove v f) is h full all = let e = h v refl in
    ((refl, inl (rw e refl)), ((refl, inl (rw e refl)), ((refl, inl (rw e refl)), ((refl, inl (full v refl)), ((refl, all), tt)))))
agree k m n (Ls v s) is h full all = let e = h v refl in ((refl, inl (rw e refl)), ((refl, inl (rw e refl)), tt))
agree k m n (SnapCreate v s) is h full all = let e = h v refl in
    ((refl, inl (rw e refl)), ((refl, inl (rw e refl)), ((refl, inl (rw e refl)), ((refl, inl (full v refl)), ((refl, all), tt)))))
agree k m n (SnapDelete v s) is h full all = let e = h v refl in
    ((refl, inl (rw e refl)), ((refl, inl (rw e refl)), ((refl, inr refl), tt)))
agree k m n (SnapRestore v s) is h full all = let e = h v refl in
    ((refl, inl (rw e refl)), ((refl, inl (rw e refl)), ((refl, inl (full v refl)), ((refl, all), tt))))
agree k m n (SnapList v) is h full all = let e = h v refl in ((refl, inl (rw e refl)), tt)
agree k m n (SplitStart v) is h full all = let e = h v refl in
    ((refl, inl (rw e refl)), ((refl, inl (rw e refl)), ((refl, inr refl), ((refl, inl (full v refl)), ((refl, all), tt)))))
agree k m n (SplitFinish v) is h full all = let e = h v refl in ((refl, inl (rw e refl)), ((refl, inl (rw e refl)), tt))
agree k m n (Clean v) is h full all = let e = h v refl in ((refl, inl (rw e refl)), ((refl, inl (rw e refl)), tt))
agree k m n (Probe v f i) is h full all = let e = h v refl in
    ((refl, inl refl), ((refl, inl (rw e refl)), ((refl, inl (rw e refl)), ((refl, inl (rw e refl)), tt))))
agree k m n c is h full all = absurd cc

-- ---- commits of a volume of kind `volume` stay
is_within_after : (m : Machine) (v : List ℕ) (c : Command) (x : Volume) → IsAdmitted m → fin.get m.volumes v ≡ Some x → x.kind ≡ Whole → is_local c ≡ true → home c ≡ Some v → is_aggregate_full (effect m c) ≡ false
is_within_after m v c x ok there whole local here =
    (afterwards m v x (change_of m c) ok there whole (subst (λ (o : Option (List ℕ)). IsOf o (change_of m c)) here (at_home m c)) (keeps_budget m c local)).within

same_aggregate : (m n : Machine) (v : List ℕ) (c : Command) (x : Volume) → IsAdmitted m → IsAdmitted n → fin.get m.volumes v ≡ Some x → fin.get n.volumes v ≡ Some x → is_local c ≡ true → home c ≡ Some v → (k : Kind) → x.kind ≡ k → SameAggregate (rests_elsewhere k c) m n c
same_aggregate m n v c x ok fine first second local here Whole is = inl (is_within_after m v c x ok first is local here ∙ sym (is_within_after n v c x fine second is local here))
same_aggregate m n v c x ok fine first second local here ByFile is = inr (or_true _)
same_aggregate m n v c x ok fine first second local here Thin is = inr (or_true _)

-- ---- replies and volumes
allows : (m n : Machine) (c : Command) (o p : Option Refusal) → o ≡ p → is_open m c ≡ is_open n c → answer m c ≡ answer n c → (r : Reply) → AllowsBy o m c r → AllowsBy p n c r
allows m n c o p same opens answers r h = subst (λ (q : Option Refusal). AllowsBy q n c r) same (by o h)
  where
    by : (o : Option Refusal) → AllowsBy o m c r → AllowsBy o n c r
    by None h = subst (λ (b : Bool). IsAnswer b (answer n c) r) opens (subst (λ (a : Reply). IsAnswer (is_open m c) a r) answers h)
    by (Some q) h = h

volume_after : (m n : Machine) (v : List ℕ) (c : Command) (o p : Option Refusal) → o ≡ p → fin.get m.volumes v ≡ fin.get n.volumes v → fin.get (effect m c).volumes v ≡ fin.get (effect n c).volumes v → fin.get (cond (is_some p) n (effect n c)).volumes v ≡ fin.get (cond (is_some o) m (effect m c)).volumes v
volume_after m n v c o p same before after = ap (λ (q : Option Refusal). fin.get (cond (is_some q) n (effect n c)).volumes v) (sym same) ∙ by o
  where
    by : (o : Option Refusal) → fin.get (cond (is_some o) n (effect n c)).volumes v ≡ fin.get (cond (is_some o) m (effect m c)).volumes v
    by None = sym after
    by (Some q) = sym before

pub isolated : (m n : Machine) (v : List ℕ) (c : Command) → IsAdmitted m → IsAdmitted n → AreAlike m n v c → IsIsolated m n v c
isolated m n v c ok fine h =
    let x = h.volume in
    let at_v : fin.get m.volumes v ≡ fin.get n.volumes v = h.first ∙ sym h.second in
    let homes : SameHome m n c = λ w here. let same : v ≡ w = cc in subst (λ (u : List ℕ). fin.get m.volumes u ≡ fin.get n.volumes u) same at_v in
    let change : change_of m c ≡ change_of n c = same_change m n c h.local homes in
    let after : (w : List ℕ) → fin.get m.volumes w ≡ fin.get n.volumes w → fin.get (effect m c).volumes w ≡ fin.get (effect n c).volumes w = λ w e. same_volume m n (change_of m c) w e ∙ ap (λ (ch : Change). fin.get (changed n ch).volumes w) change in
    let full : SameFull m n c = λ w here. ap (λ (o : Option Volume). option_map_or (λ (y : Volume). nat_lt y.size (use_of y)) o false) (after w (homes w here)) in
    let same : refusal m c ≡ refusal n c = same_first (rests_elsewhere x.kind c) (conditions m c) (conditions n c) (agree x.kind m n c h.local homes full (same_aggregate m n v c x ok fine h.first h.second h.local h.here x.kind refl)) h.first_own h.second_own in
    let answers = same_answer m n c h.local homes in
    let opens = same_open m n c homes in
    record {
      replies = λ r. (allows m n c (refusal m c) (refusal n c) same opens answers r, allows n m c (refusal n c) (refusal m c) (sym same) (sym opens) (sym answers) r);
      left = volume_after m n v c (refusal m c) (refusal n c) same at_v (after v at_v);
    }
