-- A write below a reserve is never refused for space.
use Rattle.std.proofs.Common.{◌⊎◌, ◌≡◌, ◌≢◌, ℕ, ◌≤◌, Bool, true, false, cond, nat_lt, List, [], ◌∷◌, ◌++◌, find, Option, Some, inl, inr, refl, sym, ap, ◌∙◌, arith, T, Less}
use Rattle.std.specs.declared.cmp.Ordering.{Ordering}
use Rattle.std.specs.Option.{option_map_or}
use Rattle.std.specs.Ordering.{is_eq, ordering_reverse}
use Rattle.std.specs.Cmp.{IsTotalOrder, tied_itself, nat_cmp_total}
use Rattle.std.specs.FinMap as fin
use Rattle.std.specs.FinMap.{is_sorted, find as looked_up}
use Rattle.std.specs.FinMap.Entries.{below_all}
use Rattle.std.proofs.lemmas.Bool.Decides.{nat_tests}
use Rattle.fv_model.specs.declared.answers.Refusal.{Refusal}
use Rattle.fv_model.specs.declared.answers.Refusal.TheVariants.{VolumeFull, AggregateFull}
use Rattle.fv_model.specs.declared.commands.Command.TheVariants.{Put}
use Rattle.fv_model.specs.Spelling.{is_same_name}
use Rattle.fv_model.specs.Tables.{File, Table, file_named, put}
use Rattle.fv_model.specs.Volumes.{Volume}
use Rattle.fv_model.specs.Machines.{Machine}
use Rattle.fv_model.specs.Space.{use_of, is_file_kind, IsAdmitted}
use Rattle.fv_model.specs.Effects.{Change, Stays, Becomes, changed, change_of, effect, at_file, stamped}
use Rattle.fv_model.specs.Refusals.{Condition, conditions, first_of, is_volume_full, is_aggregate_full}
use Rattle.fv_laws.specs.Guarantee.{is_early}
use Rattle.fv_laws.specs.Reserve.{IsReserved, HasRoom}
use Rattle.fv_laws.proofs.Lists.{In}
use Rattle.fv_laws.proofs.Maps.{first, second, less}
use Rattle.fv_laws.proofs.Commits.{now_there, is_within, uses_less}
use Rattle.fv_laws.proofs.Guarantee.{AreEarly, last_two, ends_in_space}
use Rattle.fv_laws.proofs.Reserve.{IsSound, put_below}

-- what is found is among the entries, and there under its key
pub found_among : {X : Type 0} (test : X → Bool) (x : X) (xs : List X) → find test xs ≡ Some x → In x xs
found_among test x [] e = absurd cc
found_among test x (y ∷ ys) e =
    elim (test y) as (λ b. cond b (Some y) (find test ys) ≡ Some x → (y ≡ x) ⊎ In x ys) [ true ↦ λ h. let same : y ≡ x = cc in inl same | false ↦ λ h. inr (found_among test x ys h) ] e

module _ {K X : Type 0} {R : K → K → Ordering} (o : IsTotalOrder R) where
  above : (x : K) (e : K × X) (es : List (K × X)) → T (below_all R x es) → In e es → R x e.0 ≡ Less
  above x e [] h there = absurd there
  above x e (y ∷ es) h (inl same) = ap (λ (z : K × X). R x z.0) (sym same) ∙ less _ (first _ _ h)
  above x e (y ∷ es) h (inr there) = above x e es (second _ _ h) there

  by_key : (e : K × X) (es : List (K × X)) → T (is_sorted R es) → In e es → looked_up R e.0 es ≡ Some e.1
  by_key e [] h there = absurd there
  by_key e (y ∷ es) h (inl same) = ap (λ (z : K × X). cond (is_eq (R e.0 z.0)) (Some z.1) (looked_up R e.0 es)) same ∙ ap (λ r. cond (is_eq r) (Some e.1) (looked_up R e.0 es)) (tied_itself o e.0)
  by_key e (y ∷ es) h (inr there) =
      ap (λ r. cond (is_eq r) (Some y.1) (looked_up R e.0 es)) (o.antisymm e.0 y.0 ∙ ap ordering_reverse (above y.0 e es (first _ _ h) there)) ∙ by_key e es (second _ _ h) there

  pub entry_there : (m : fin.FinMap R X) (e : K × X) → In e (fin.entries m) → fin.get m e.0 ≡ Some e.1
  entry_there m e there = fin.get-entries m e.0 ∙ by_key e (fin.entries m) (fin.entries_sorted m) there

pub named_there : (t : Table) (name : List ℕ) (n : ℕ) (f : File) → file_named t name ≡ Some (n, f) → fin.get t.files n ≡ Some f
named_there t name n f e = entry_there nat_cmp_total t.files (n, f) (found_among (λ (e : ℕ × File). is_same_name e.1.name name) (n, f) (fin.entries t.files) e)

-- where the two of space don't hold, neither is the answer
not_late : (early : List Condition) (r : Refusal) → AreEarly early → is_early (Some r) ≡ false → first_of (early ++ last_two false false) ≢ Some r
not_late [] r are late = λ e. absurd cc
not_late (c ∷ cs) r are late =
    elim c.1 as (λ b. cond b (Some c.0) (first_of (cs ++ last_two false false)) ≢ Some r) [
      | true ↦ λ e. let no : true ≡ false = sym are.0 ∙ ap is_early e ∙ late in absurd cc
      | false ↦ not_late cs r are.1 late
    ]

never : (m : Machine) (v f : List ℕ) (i : ℕ) (block : List ℕ) (r : Refusal) → is_early (Some r) ≡ false → is_volume_full (effect m (Put v f i block)) v ≡ false → is_aggregate_full (effect m (Put v f i block)) ≡ false → first_of (conditions m (Put v f i block)) ≢ Some r
never m v f i block r late full all e =
    let form = ends_in_space m v (Put v f i block) refl refl in
    not_late form.early r form.are late (sym (ap first_of form.all ∙ (λ j. first_of (form.early ++ last_two (full j) (all j)))) ∙ e)

put_is : (m : Machine) (v f : List ℕ) (i : ℕ) (block : List ℕ) (x : Volume) (n : ℕ) (file : File) → fin.get m.volumes v ≡ Some x → file_named x.active f ≡ Some (n, file) → change_of m (Put v f i block) ≡ Becomes v (stamped x (put x.active n file i block))
unfolding change_of
put_is m v f i block x n file there named =
    ap (λ (o : Option Volume). option_map_or (λ (y : Volume). at_file y f (λ n file. Becomes v (stamped y (put y.active n file i block)))) o Stays) there
    ∙ ap (λ (o : Option (ℕ × File)). option_map_or (λ (e : ℕ × File). Becomes v (stamped x (put x.active e.0 e.1 i block))) o Stays) named

pub has_room : (m : Machine) (v f : List ℕ) (i : ℕ) (block : List ℕ) → IsAdmitted m → (h : IsReserved m v f i) → IsSound h.volume → HasRoom m v f i block
has_room m v f i block ok h sound =
    let x = h.volume in
    let y = stamped x (put x.active h.number h.file i block) in
    let less_used = put_below x sound (ap is_file_kind h.kind) h.number h.file (named_there x.active f h.number h.file h.named) i h.below block in
    let left : IsAdmitted (changed m (Becomes v y)) = uses_less m v x y h.there (record { kind = refl; size = refl; span = refl }) less_used ok in
    let fits : use_of y ≤ y.size = left.volumes v y (now_there m v y) in
    let change = put_is m v f i block x h.number h.file h.there h.named in
    let full : is_volume_full (effect m (Put v f i block)) v ≡ false =
    ap (λ (c : Change). is_volume_full (changed m c) v) change ∙ ap (λ (o : Option Volume). option_map_or (λ (w : Volume). nat_lt w.size (use_of w)) o false) (now_there m v y) ∙ (let no : nat_lt y.size (use_of y) ≡ false = grind (arith, nat_tests) in no) in
    let all : is_aggregate_full (effect m (Put v f i block)) ≡ false =
    ap (λ (c : Change). is_aggregate_full (changed m c)) change ∙ is_within (changed m (Becomes v y)) left.aggregate in
    (never m v f i block VolumeFull refl full all, never m v f i block AggregateFull refl full all)
