-- Bases lead to parents that are there, by chains that end, whatever happens to one volume.
use Rattle.std.proofs.Common.{◌⊎◌, ◌≡◌, ◌≢◌, ℕ, ◌+◌, ◌-◌, ◌<◌, ◌≤◌, Bool, true, false, cond, ◌||◌, List, [], ◌∷◌, Option, Some, None, is_some, inl, inr, ⊎_elim, refl, sym, ap, subst, ◌∙◌, arith, Less, Equal, Greater}
use Rattle.std.specs.List.{list_any}
use Rattle.std.specs.Option.{option_map_or}
use Rattle.std.specs.Ordering.{eq_by_cmp, is_eq}
use Rattle.std.specs.FinMap as fin
use Rattle.std.specs.FinMap.{find}
use Rattle.fv_model.specs.Numbers.{most_volumes}
use Rattle.fv_model.specs.Spelling.{name_cmp, is_same_name}
use Rattle.fv_model.specs.Volumes.{Base, Volume}
use Rattle.fv_model.specs.Machines.{Machine}
use Rattle.fv_model.specs.Effects.{Becomes, Goes, changed}
use Rattle.fv_model.specs.Refusals.{some_base, is_parent, is_base, is_splitting}
use Rattle.fv_laws.specs.WellFormed.{IsWellVolume, IsParent, IsWell}
use Rattle.fv_laws.proofs.Orders.{name_total, name_ties}
use Rattle.fv_laws.proofs.Changes.{same_name, differs, itself}
use Rattle.fv_laws.proofs.Commits.{now_there}
use Rattle.fv_laws.proofs.Lists.{In}

-- ---- volumes by name
found_in : (n : List ℕ) (x : Volume) (es : List (List ℕ × Volume)) → find name_cmp n es ≡ Some x → In (n, x) es
found_in n x [] e = absurd cc
found_in n x (y ∷ es) e =
    elim (name_cmp n y.0) as (λ r. name_cmp n y.0 ≡ r → cond (is_eq r) (Some y.1) (find name_cmp n es) ≡ Some x → (y ≡ (n, x)) ⊎ In (n, x) es) [
      | Less ↦ λ d h. inr (found_in n x es h)
      | Greater ↦ λ d h. inr (found_in n x es h)
      | Equal ↦ λ d h. let value : y.1 ≡ x = cc in let key : n ≡ y.0 = name_ties n y.0 d in inl (λ i. (sym key i, value i))
    ] refl e

neither : (a b : Bool) → (a || b) ≡ false → (a ≡ false) × (b ≡ false)
neither true b e = absurd cc
neither false b e = (refl, e)

fails : (test : List ℕ × Volume → Bool) (es : List (List ℕ × Volume)) → list_any test es ≡ false → (e : List ℕ × Volume) → In e es → test e ≡ false
fails test [] none e h = absurd h
fails test (x ∷ es) none e (inl same) = ap test (sym same) ∙ (neither (test x) (list_any test es) none).0
fails test (x ∷ es) none e (inr there) = fails test es (neither (test x) (list_any test es) none).1 e there

-- no base passes a test that some_base denies
pub no_base : (m : Machine) (test : Base → Bool) → some_base m test ≡ false → (name : List ℕ) (x : Volume) (b : Base) → fin.get m.volumes name ≡ Some x → x.base ≡ Some b → test b ≡ false
no_base m test none name x b there has =
    ap (λ (o : Option Base). option_map_or test o false) (sym has)
    ∙ fails (λ (e : List ℕ × Volume). option_map_or test e.1.base false) (fin.entries m.volumes) none (name, x) (found_in name x (fin.entries m.volumes) (sym (fin.get-entries m.volumes name) ∙ there))

pub no_child : (m : Machine) (v : List ℕ) → is_parent m v ≡ false → (name : List ℕ) (x : Volume) (b : Base) → fin.get m.volumes name ≡ Some x → x.base ≡ Some b → b.parent ≢ v
no_child m v none name x b there has same =
    let no = no_base m (λ (b : Base). is_same_name b.parent v) none name x b there has in
    let yes : is_same_name b.parent v ≡ true = ap (λ (p : List ℕ). is_same_name p v) same ∙ itself v in
    let wrong : true ≡ false = sym yes ∙ no in cc

pub no_holder : (m : Machine) (v s : List ℕ) → is_base m v s ≡ false → (name : List ℕ) (x : Volume) (b : Base) → fin.get m.volumes name ≡ Some x → x.base ≡ Some b → b.parent ≡ v → b.snapshot ≢ s
no_holder m v s none name x b there has same held =
    let no = no_base m (λ (b : Base). cond (is_same_name b.parent v) (is_same_name b.snapshot s) false) none name x b there has in
    let yes : cond (is_same_name b.parent v) (is_same_name b.snapshot s) false ≡ true = (λ i. cond (is_same_name (same i) v) (is_same_name (held i) s) false) ∙ ap (λ a. cond a (is_same_name s s) false) (itself v) ∙ itself s in
    let wrong : true ≡ false = sym yes ∙ no in cc

-- ---- one volume in place of another
pub here_or_old : (m : Machine) (v : List ℕ) (y : Volume) (name : List ℕ) (z : Volume) → fin.get (fin.insert m.volumes v y) name ≡ Some z → ((name ≡ v) × (z ≡ y)) ⊎ ((name ≢ v) × (fin.get m.volumes name ≡ Some z))
here_or_old m v y name z e =
    elim (eq_by_cmp name_cmp name v) as (λ b. eq_by_cmp name_cmp name v ≡ b → cond b (Some y) (fin.get m.volumes name) ≡ Some z → ((name ≡ v) × (z ≡ y)) ⊎ ((name ≢ v) × (fin.get m.volumes name ≡ Some z))) [
      | true ↦ λ d h. let same : z ≡ y = cc in inl (same_name name v d, same)
      | false ↦ λ d h. inr ((λ same. let yes : eq_by_cmp name_cmp name v ≡ true = ap (λ (n : List ℕ). eq_by_cmp name_cmp n v) same ∙ itself v in let wrong : true ≡ false = sym yes ∙ d in cc), h)
    ] refl (sym (fin.get-insert name_total m.volumes v y name) ∙ e)

still : (m : Machine) (v : List ℕ) (y : Volume) (name : List ℕ) → name ≢ v → fin.get (fin.insert m.volumes v y) name ≡ fin.get m.volumes name
still m v y name ne = fin.get-insert name_total m.volumes v y name ∙ ap (λ (b : Bool). cond b (Some y) (fin.get m.volumes name)) (differs name v ne)

-- a parent that isn't touched stays one
untouched : (m : Machine) (v : List ℕ) (y x : Volume) (b : Base) → b.parent ≢ v → IsParent m x b → IsParent (changed m (Becomes v y)) x b
untouched m v y x b ne is = record { parent = is.parent; there = still m v y b.parent ne ∙ is.there; held = is.held; known = is.known; whole = is.whole; span = is.span }

-- a volume as a parent: what a clone of it wants
pub record Serves (y : Volume) (b : Base) : Type 0 where
  pub held : fin.get y.snapshots b.snapshot ≡ Some b.table
  pub known : y.known ≡ true
  pub whole : is_splitting y ≡ false

pub record HasBaseOf (x y : Volume) : Type 0 where
  pub base : (b : Base) → y.base ≡ Some b → (a : Base) × (x.base ≡ Some a) × (a.parent ≡ b.parent) × (a.snapshot ≡ b.snapshot) × (a.table ≡ b.table)

-- what a volume serves its clones with
pub serves : (m : Machine) → IsWell m → (v : List ℕ) (x : Volume) → fin.get m.volumes v ≡ Some x → (name : List ℕ) (z : Volume) (b : Base) → fin.get m.volumes name ≡ Some z → z.base ≡ Some b → b.parent ≡ v → Serves x b
serves m is v x e name z b there has same =
    let parent = is.bases name z b there has in
    let one : parent.parent ≡ x = by (fin.get m.volumes b.parent) parent.parent x parent.there (ap (fin.get m.volumes) same ∙ e) in
    record {
      held = ap (λ (p : Volume). fin.get p.snapshots b.snapshot) (sym one) ∙ parent.held;
      known = ap (λ (p : Volume). p.known) (sym one) ∙ parent.known;
      whole = ap is_splitting (sym one) ∙ parent.whole;
    }
  where
    by : (o : Option Volume) (p q : Volume) → o ≡ Some p → o ≡ Some q → p ≡ q
    by o p q e d = cc

-- a volume changes, and still serves its clones
pub update_well : (m : Machine) → IsWell m → (v : List ℕ) (x y : Volume) → fin.get m.volumes v ≡ Some x → IsWellVolume y → y.most ≡ x.most → y.span ≡ x.span → HasBaseOf x y →
    ((name : List ℕ) (z : Volume) (b : Base) → fin.get m.volumes name ≡ Some z → z.base ≡ Some b → b.parent ≡ v → Serves y b) → IsWell (changed m (Becomes v y))
update_well m is v x y e good most span base children = record {
  volumes = λ name z there. ⊎_elim (λ l. subst IsWellVolume (sym l.1) good) (λ r. is.volumes name z r.1) (here_or_old m v y name z there);
  count = subst (λ c. c ≤ most_volumes) (sym (fin.len-insert name_total m.volumes v y ∙ ap (λ (o : Option Volume). cond (is_some o) (fin.len m.volumes) (fin.len m.volumes + 1)) e)) is.count;
  bases = λ name z b there has. ⊎_elim (λ l. own name z b l has) (λ r. old name z b r has) (here_or_old m v y name z there);
  rooted = record {
    rank = is.rooted.rank;
    falls = λ name z b there has. ⊎_elim
        (λ l. let was = base.base b (sym (ap (λ (w : Volume). w.base) l.1) ∙ has) in
        let less = is.rooted.falls v x was.0 e was.1 in
        let from : is.rooted.rank was.0.parent ≡ is.rooted.rank b.parent = ap is.rooted.rank was.2 in
        let to : is.rooted.rank name ≡ is.rooted.rank v = ap is.rooted.rank l.0 in omega (arith, less, from, to))
        (λ r. is.rooted.falls name z b r.1 has)
        (here_or_old m v y name z there);
  };
}
  where
    own : (name : List ℕ) (z : Volume) (b : Base) → (name ≡ v) × (z ≡ y) → z.base ≡ Some b → IsParent (changed m (Becomes v y)) z b
    own name z b l has =
        let was = base.base b (sym (ap (λ (w : Volume). w.base) l.1) ∙ has) in
        let parent = is.bases v x was.0 e was.1 in
        let less = is.rooted.falls v x was.0 e was.1 in
        let apart : b.parent ≢ v = λ same. (let equal : is.rooted.rank was.0.parent ≡ is.rooted.rank v = ap is.rooted.rank (was.2 ∙ same) in absurd (omega (arith, less, equal))) in
        record {
          parent = parent.parent;
          there = still m v y b.parent apart ∙ ap (fin.get m.volumes) (sym was.2) ∙ parent.there;
          held = ap (fin.get parent.parent.snapshots) (sym was.3) ∙ parent.held ∙ ap Some was.4;
          known = parent.known;
          whole = parent.whole;
          span = let width : z.span ≡ x.span = ap (λ (w : Volume). w.span) l.1 ∙ span in let fits = parent.span in omega (arith, width, fits);
        }

    old : (name : List ℕ) (z : Volume) (b : Base) → (name ≢ v) × (fin.get m.volumes name ≡ Some z) → z.base ≡ Some b → IsParent (changed m (Becomes v y)) z b
    old name z b r has =
        elim (eq_by_cmp name_cmp b.parent v) as (λ t. eq_by_cmp name_cmp b.parent v ≡ t → IsParent (changed m (Becomes v y)) z b) [
          | true ↦ λ d.
              let same = same_name b.parent v d in
              let parent = is.bases name z b r.1 has in
              let one : parent.parent ≡ x = by (fin.get m.volumes b.parent) parent.parent x parent.there (ap (fin.get m.volumes) same ∙ e) in
              let service = children name z b r.1 has same in
              let width : parent.parent.span ≡ y.span = ap (λ (w : Volume). w.span) one ∙ sym span in
              record {
                parent = y;
                there = ap (fin.get (fin.insert m.volumes v y)) same ∙ now_there m v y;
                held = service.held;
                known = service.known;
                whole = service.whole;
                span = let fits = parent.span in omega (arith, width, fits);
              }
          | false ↦ λ d. untouched m v y z b (λ same. let yes : eq_by_cmp name_cmp b.parent v ≡ true = ap (λ (n : List ℕ). eq_by_cmp name_cmp n v) same ∙ itself v in let wrong : true ≡ false = sym yes ∙ d in cc) (is.bases name z b r.1 has)
        ] refl
      where
        by : (o : Option Volume) (p q : Volume) → o ≡ Some p → o ≡ Some q → p ≡ q
        by o p q e d = cc

-- ---- a new volume
-- a parent is there, so its name isn't a new one
not_new : (m : Machine) (v : List ℕ) (x : Volume) (b : Base) → fin.get m.volumes v ≡ None → IsParent m x b → b.parent ≢ v
not_new m v x b none is same = let wrong : None ≡ Some is.parent = sym none ∙ ap (fin.get m.volumes) (sym same) ∙ is.there in cc

pub fresh_well : (m : Machine) → IsWell m → (v : List ℕ) (y : Volume) → fin.get m.volumes v ≡ None → IsWellVolume y → fin.len m.volumes < most_volumes → ((b : Base) → y.base ≡ Some b → IsParent m y b) → IsWell (changed m (Becomes v y))
fresh_well m is v y none good few base = record {
  volumes = λ name z there. ⊎_elim (λ l. subst IsWellVolume (sym l.1) good) (λ r. is.volumes name z r.1) (here_or_old m v y name z there);
  count = subst (λ c. c ≤ most_volumes) (sym (fin.len-insert name_total m.volumes v y ∙ ap (λ (o : Option Volume). cond (is_some o) (fin.len m.volumes) (fin.len m.volumes + 1)) none)) (omega (arith, few));
  bases = λ name z b there has. ⊎_elim
      (λ l. let mine = base b (sym (ap (λ (w : Volume). w.base) l.1) ∙ has) in
      subst (λ (w : Volume). IsParent (changed m (Becomes v y)) w b) (sym l.1) (untouched m v y y b (not_new m v y b none mine) mine))
      (λ r. let kept = is.bases name z b r.1 has in untouched m v y z b (not_new m v z b none kept) kept)
      (here_or_old m v y name z there);
  rooted = record {
    rank = rank;
    falls = λ name z b there has. ⊎_elim
        (λ l. let of_y = sym (ap (λ (w : Volume). w.base) l.1) ∙ has in
        let mine = base b of_y in
        let top : rank name ≡ is.rooted.rank b.parent + 1 = ap rank l.0 ∙ at_v b of_y in
        let same : rank b.parent ≡ is.rooted.rank b.parent = elsewhere b.parent (not_new m v y b none mine) in
        omega (arith, top, same))
        (λ r. let kept = is.bases name z b r.1 has in
        let less = is.rooted.falls name z b r.1 has in
        let same : rank b.parent ≡ is.rooted.rank b.parent = elsewhere b.parent (not_new m v z b none kept) in
        let also : rank name ≡ is.rooted.rank name = elsewhere name r.0 in
        omega (arith, less, same, also))
        (here_or_old m v y name z there);
  };
}
  where
    rank : List ℕ → ℕ
    rank name = cond (eq_by_cmp name_cmp name v) (option_map_or (λ (b : Base). is.rooted.rank b.parent + 1) y.base 0) (is.rooted.rank name)

    elsewhere : (name : List ℕ) → name ≢ v → rank name ≡ is.rooted.rank name
    elsewhere name ne = ap (λ b. cond b (option_map_or (λ (b : Base). is.rooted.rank b.parent + 1) y.base 0) (is.rooted.rank name)) (differs name v ne)

    at_v : (b : Base) → y.base ≡ Some b → rank v ≡ is.rooted.rank b.parent + 1
    at_v b has = ap (λ t. cond t (option_map_or (λ (b : Base). is.rooted.rank b.parent + 1) y.base 0) (is.rooted.rank v)) (itself v) ∙ ap (λ (o : Option Base). option_map_or (λ (b : Base). is.rooted.rank b.parent + 1) o 0) has

-- ---- a volume that goes
pub not_gone : (m : Machine) (v name : List ℕ) (z : Volume) → fin.get (fin.remove m.volumes v) name ≡ Some z → fin.get m.volumes name ≡ Some z
not_gone m v name z e = by (eq_by_cmp name_cmp name v) (sym (fin.get-remove name_total m.volumes v name) ∙ e)
  where
    by : (b : Bool) → cond b None (fin.get m.volumes name) ≡ Some z → fin.get m.volumes name ≡ Some z
    by true e = absurd cc
    by false e = e

at_most_all : (b : Bool) (n : ℕ) → cond b (n - 1) n ≤ n
at_most_all true n = omega arith
at_most_all false n = omega arith

pub gone_well : (m : Machine) → IsWell m → (v : List ℕ) → is_parent m v ≡ false → IsWell (changed m (Goes v))
gone_well m is v none = record {
  volumes = λ name z there. is.volumes name z (not_gone m v name z there);
  count = let few = is.count in let less : fin.len (fin.remove m.volumes v) ≤ fin.len m.volumes = subst (λ c. c ≤ fin.len m.volumes) (sym (fin.len-remove name_total m.volumes v)) (at_most_all (fin.contains_key m.volumes v) (fin.len m.volumes)) in omega (arith, few, less);
  bases = λ name z b there has.
      let was = not_gone m v name z there in
      let parent = is.bases name z b was has in
      record {
        parent = parent.parent;
        there = fin.get-remove name_total m.volumes v b.parent ∙ ap (λ (t : Bool). cond t None (fin.get m.volumes b.parent)) (differs b.parent v (no_child m v none name z b was has)) ∙ parent.there;
        held = parent.held;
        known = parent.known;
        whole = parent.whole;
        span = parent.span;
      };
  rooted = record { rank = is.rooted.rank; falls = λ name z b there has. is.rooted.falls name z b (not_gone m v name z there) has };
}
