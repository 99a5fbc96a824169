-- A tree whose nodes are there is one of the machine's: its stamps stand exactly over its cells.
use Rattle.std.proofs.Common.{◌≡◌, ◌≢◌, ℕ, zero, suc, ◌+◌, ◌-◌, ◌*◌, ◌/◌, ◌%◌, ◌^◌, ◌<◌, ◌≤◌, Bool, true, false, List, [], ◌∷◌, length, refl, sym, ap, subst, ◌∙◌, arith, ⊎_elim, get_or, add-one}
use Rattle.std.specs.Prelude.{Option, Some, None, ◌&&◌, ◌==◌, nat_le, if◌then◌else◌}
use Rattle.std.specs.Option.{is_some}
use Rattle.std.proofs.lemmas.Bool.{cases_eq, cases_lt, and_from}
use Rattle.std.proofs.lemmas.Bool.Decides.{nat_tests}
use Rattle.std.proofs.lemmas.Nat.{div-mul-add}
use Rattle.fv_codec.specs.declared.pointer.Pointer.{Pointer}
use Rattle.fv_model.specs.Trees.{fan, holds_one}
use Rattle.fv_laws.specs.WellFormed.{IsTree}
use Rattle.fv_laws.proofs.Lists.{In}
use Rattle.fv_laws.proofs.Levels.{up, from_holds, holds, in_all}
use Rattle.fv_tables.specs.Spelled.{Rooted, hole, pointers_at, pointer_below, pointer_at, stamp_in}
use Rattle.fv_tables.specs.Told.{tree_told}
use Rattle.fv_tables.proofs.Pointers.{none_under, past, above}
use Rattle.fv_tables.proofs.Tables.{stamps_told}

-- ---- from level to level

by_place : (t : Rooted) (level place : ℕ) → level ≤ t.levels → pointer_at t level place ≡ pointer_below t (t.levels - level) place
unfolding pointer_at
by_place t level place low = let test : nat_le level t.levels ≡ true = grind (arith, nat_tests) in rw test refl

-- the pointer of a position stands in the node over it
pub in_node : (t : Rooted) (level place : ℕ) → level < t.levels → pointer_at t level place ≡ get_or (pointers_at t (level + 1) (place / fan) (pointer_at t (level + 1) (place / fan))) (place % fan) hole
unfolding pointer_below
in_node t level place low =
    let steps : t.levels - level ≡ suc (t.levels - (level + 1)) = omega (arith, low) in
    let back : t.levels - (t.levels - (level + 1)) ≡ level + 1 = omega (arith, low) in
    by_place t level place (omega (arith, low))
    ∙ ap (λ n. pointer_below t n place) steps
    ∙ ap (λ k. get_or (pointers_at t k (place / fan) (pointer_below t (t.levels - (level + 1)) (place / fan))) (place % fan) hole) back
    ∙ ap (λ q. get_or (pointers_at t (level + 1) (place / fan) q) (place % fan) hole) (sym (by_place t (level + 1) (place / fan) (omega (arith, low))))

abbrev pub StandsAt : Rooted → ℕ → ℕ → Type 0
StandsAt t level place = (pointer_at t level place).stamp ≢ 0

one_above : (t : Rooted) (level place : ℕ) → level < t.levels → StandsAt t level place → StandsAt t (level + 1) (place / fan)
one_above t level place low some none = some (ap (λ (p : Pointer). p.stamp) (in_node t level place low)
    ∙ ap (λ (xs : List Pointer). (get_or xs (place % fan) hole).stamp) (none_under t (level + 1) (place / fan) (pointer_at t (level + 1) (place / fan)) none))

by_one : (i : ℕ) → i / fan ^ 0 ≡ i
by_one i = omega arith

-- a mark stands over each cell
over_cell : (t : Rooted) (k i : ℕ) → k ≤ t.levels → StandsAt t 0 i → StandsAt t k (i / fan ^ k)
over_cell t zero i low some = subst (StandsAt t 0) (sym (by_one i)) some
over_cell t (suc k) i low some =
    let next = one_above t k (i / fan ^ k) (omega (arith, low)) (over_cell t k i (omega (arith, low)) some) in
    subst (λ (n : ℕ). StandsAt t n (i / fan ^ n)) (add-one k) (subst (StandsAt t (k + 1)) (up i k) next)

-- what the nodes, stamps and levels of a tree are
pub record IsNoded (now start : ℕ) (t : Rooted) : Type 0 where
  -- a node that stands has a pointer that isn't a hole
  pub some : (level place : ℕ) → level < t.levels → StandsAt t (level + 1) place → (c : ℕ) × ((c < fan) × ((get_or (pointers_at t (level + 1) place (pointer_at t (level + 1) place)) c hole).stamp ≢ 0))
  pub stamps : (level place : ℕ) → StandsAt t level place → (pointer_at t level place).stamp ≤ now
  pub marks : (level place : ℕ) → level < t.levels → StandsAt t level place → (pointer_at t level place).stamp ≤ (pointer_at t (level + 1) (place / fan)).stamp
  pub starts : start ≤ t.levels
  pub bare : t.root.stamp ≡ 0 → t.levels ≡ start

module _ (now start : ℕ) (t : Rooted) (is : IsNoded now start t) where
  one_below : (level place : ℕ) → level < t.levels → StandsAt t (level + 1) place → (c : ℕ) × ((c < fan) × StandsAt t level (place * fan + c))
  one_below level place low stands =
      let one = is.some level place low stands in
      let c : ℕ = one.0 in
      let inside : c < fan = one.1.0 in
      let div : (place * fan + c) / fan ≡ place = div-mul-add place fan c inside in
      let rem : (place * fan + c) % fan ≡ c = omega (arith, inside) in
      let same : pointer_at t level (place * fan + c) ≡ get_or (pointers_at t (level + 1) place (pointer_at t (level + 1) place)) c hole =
      in_node t level (place * fan + c) low
      ∙ ap (λ (p : ℕ). get_or (pointers_at t (level + 1) p (pointer_at t (level + 1) p)) ((place * fan + c) % fan) hole) div
      ∙ ap (λ (k : ℕ). get_or (pointers_at t (level + 1) place (pointer_at t (level + 1) place)) k hole) rem in
      (c, (inside, λ none. one.1.1 (sym (ap (λ (p : Pointer). p.stamp) same) ∙ none)))

  -- a cell lies under each mark
  cell_under : (k place : ℕ) → k ≤ t.levels → StandsAt t k place → (i : ℕ) × (StandsAt t 0 i × (i / fan ^ k ≡ place))
  cell_under zero place low some = (place, (some, by_one place))
  cell_under (suc k) place low some =
      let down = one_below k place (omega (arith, low)) (subst (λ (n : ℕ). StandsAt t n place) (sym (add-one k)) some) in
      let rest = cell_under k (place * fan + down.0) (omega (arith, low)) down.1.1 in
      let inside : down.0 < fan = down.1.0 in
      let at : rest.0 / fan ^ (k + 1) ≡ place = sym (up rest.0 k) ∙ ap (λ (n : ℕ). n / fan) rest.1.1 ∙ div-mul-add place fan down.0 inside in
      (rest.0, (rest.1.0, subst (λ (n : ℕ). rest.0 / fan ^ n ≡ place) (add-one k) at))

  high_level : (level place : ℕ) → StandsAt t level place → level ≤ t.levels
  high_level level place some = ⊎_elim
      (λ (high : t.levels < level). absurd (some (ap (λ (p : Pointer). p.stamp) (above t level place high))))
      (λ low. low)
      (cases_lt t.levels level)

  -- a stamp that is told is that of a pointer
  stamp_of : (p : Pointer) (s : ℕ) → stamp_in p ≡ Some s → (p.stamp ≢ 0) × (p.stamp ≡ s)
  stamp_of p s e = ⊎_elim
      (λ (none : p.stamp ≡ 0). let test : (p.stamp == 0) ≡ true = grind (arith, nat_tests) in absurd (differ (sym (ap (λ (b : Bool). if b then None else Some p.stamp) test) ∙ e)))
      (λ (some : p.stamp ≢ 0). let test : (p.stamp == 0) ≡ false = grind (arith, nat_tests) in (some, same (sym (ap (λ (b : Bool). if b then None else Some p.stamp) test) ∙ e)))
      (cases_eq p.stamp 0)
    where
      differ : ◌≡◌ {A = Option ℕ} None (Some s) → ⊥
      differ e = cc

      same : ◌≡◌ {A = Option ℕ} (Some p.stamp) (Some s) → p.stamp ≡ s
      same e = cc

  module _ (cells : List ℕ) (from : (i : ℕ) → In i cells → StandsAt t 0 i) (to : (i : ℕ) → StandsAt t 0 i → In i cells) where
    exact : (level place : ℕ) → is_some (stamp_in (pointer_at t level place)) ≡ (nat_le level t.levels && holds_one cells (level, place))
    exact level place = ⊎_elim
        (λ (none : (pointer_at t level place).stamp ≡ 0).
        let test : ((pointer_at t level place).stamp == 0) ≡ true = grind (arith, nat_tests) in
        ap (λ (b : Bool). is_some (if b then None else Some (pointer_at t level place).stamp)) test ∙ sym (never none (nat_le level t.levels) refl (holds_one cells (level, place)) refl))
        (λ (some : (pointer_at t level place).stamp ≢ 0).
        let test : ((pointer_at t level place).stamp == 0) ≡ false = grind (arith, nat_tests) in
        let low : level ≤ t.levels = high_level level place some in
        let fits : nat_le level t.levels ≡ true = grind (arith, nat_tests, low) in
        let cell = cell_under level place low some in
        ap (λ (b : Bool). is_some (if b then None else Some (pointer_at t level place).stamp)) test
        ∙ sym (and_from (nat_le level t.levels) _ fits (holds cells (level, place) cell.0 (to cell.0 cell.1.0) cell.1.1)))
        (cases_eq (pointer_at t level place).stamp 0)
      where
        never : (pointer_at t level place).stamp ≡ 0 → (a : Bool) → nat_le level t.levels ≡ a → (b : Bool) → holds_one cells (level, place) ≡ b → (nat_le level t.levels && holds_one cells (level, place)) ≡ false
        never none false e b f = rw e refl
        never none true e false f = rw (e, f) refl
        never none true e true f =
            let at = from_holds cells (level, place) f in
            let low : level ≤ t.levels = grind (arith, nat_tests, e) in
            absurd (subst (StandsAt t level) at.2 (over_cell t level at.0 low (from at.0 at.1)) none)

    some_cell : (i : ℕ) → In i cells → length cells ≡ 0 → ⊥
    some_cell i there none = so cells there none
      where
        so : (xs : List ℕ) → In i xs → length xs ≡ 0 → ⊥
        so [] there none = there
        so (x ∷ xs) there none = absurd (omega (arith, none))

    root_is : pointer_at t t.levels 0 ≡ t.root
    unfolding pointer_below
    root_is = by_place t t.levels 0 (omega arith) ∙ ap (λ n. pointer_below t n 0) (let none : t.levels - t.levels ≡ 0 = omega arith in none)

    -- It is a tree of the machine over its cells.
    pub well_tree : IsTree now start cells (tree_told t)
    unfolding tree_told
    well_tree = record {
      starts = is.starts;
      shrinks = λ none. ⊎_elim
          (λ (bare : t.root.stamp ≡ 0). is.bare bare)
          (λ (some : t.root.stamp ≢ 0).
          let cell = cell_under t.levels 0 (omega arith) (λ e. some (sym (ap (λ (p : Pointer). p.stamp) root_is) ∙ e)) in
          absurd (some_cell cell.0 (to cell.0 cell.1.0) none))
          (cases_eq t.root.stamp 0);
      covers = in_all (λ i. i < fan ^ t.levels) cells (λ i there. ⊎_elim
          (λ (low : i < fan ^ t.levels). low)
          (λ (far : fan ^ t.levels ≤ i).
          let whole : fan ^ (t.levels - 0) ≡ fan ^ t.levels = ap (λ k. fan ^ k) (let e : t.levels - 0 ≡ t.levels = omega arith in e) in
          absurd (from i there (ap (λ (p : Pointer). p.stamp) (past t 0 i (omega (arith, far, whole))))))
          (cases_lt i (fan ^ t.levels)));
      exact = λ p. ap (λ (o : Option ℕ). is_some o) (stamps_told t p.0 p.1) ∙ exact p.0 p.1;
      stamps = λ p s e.
          let at = stamp_of (pointer_at t p.0 p.1) s (sym (stamps_told t p.0 p.1) ∙ e) in
          subst (λ (n : ℕ). n ≤ now) at.1 (is.stamps p.0 p.1 at.0);
      rises = λ k i s u e f.
          let low = stamp_of (pointer_at t k i) s (sym (stamps_told t k i) ∙ e) in
          let high = stamp_of (pointer_at t (k + 1) (i / fan)) u (sym (stamps_told t (k + 1) (i / fan)) ∙ f) in
          let fits : k + 1 ≤ t.levels = high_level (k + 1) (i / fan) high.0 in
          let rises = is.marks k i (omega (arith, fits)) low.0 in
          let first : (pointer_at t k i).stamp ≡ s = low.1 in
          let second : (pointer_at t (k + 1) (i / fan)).stamp ≡ u = high.1 in
          omega (arith, rises, first, second);
    }
