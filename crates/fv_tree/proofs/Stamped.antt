-- Stamps on the way to a cell.
use Rattle.std.proofs.Common.{◌≡◌, ◌≢◌, ◌≤◌, ◌<◌, ℕ, ◌+◌, ◌-◌, ◌*◌, ◌/◌, ◌%◌, ◌^◌, inl, inr, true, false, cond, List, Some, get_or, length, refl, sym, ap, subst, ◌∙◌, arith, ◌==◌, nat_eq, if◌then◌else◌}
use Rattle.std.specs.Option.{option_map}
use Rattle.std.proofs.Math.Nat.{div-eq_of_lt}
use Rattle.std.proofs.lemmas.Bool.{cases_eq}
use Rattle.std.proofs.lemmas.Bool.Decides.{nat_tests}
use Rattle.std.proofs.lemmas.List.{get_or-set_same, get_or-set_other}
use Rattle.std.proofs.lemmas.Nat.{div-add-mod'}
use Rattle.fv_codec.specs.declared.pointer.Pointer.{Pointer}
use Rattle.fv_model.specs.Trees.{fan}
use Rattle.fv_tree.specs.Spelled.{Rooted, hole, pointers_at, pointer_at}
use Rattle.fv_tree.specs.Keeping.{IsKept}
use Rattle.fv_tree.specs.Writing.{stamped, stamped_in, slot_of}
use Rattle.fv_tree.proofs.Below.{no_pointers, kept_pointers, range_above}
use Rattle.fv_tree.proofs.Ways.{IsWay, own_way, alike}

-- each range under which an index lies has the stamp s, and the others have what they had
unfoldable pub on_way : (ℕ → ℕ → Pointer) → ℕ → ℕ → ℕ → ℕ → Pointer
on_way f i s level place = cond (nat_eq place (i / fan ^ level)) (stamped (f level place) s) (f level place)

pub on : (f : ℕ → ℕ → Pointer) (i s level place : ℕ) → place ≡ i / fan ^ level → on_way f i s level place ≡ stamped (f level place) s
unfolding on_way
on f i s level place e = let test : nat_eq place (i / fan ^ level) ≡ true = grind (arith, nat_tests) in rw test refl

pub off : (f : ℕ → ℕ → Pointer) (i s level place : ℕ) → place ≢ i / fan ^ level → on_way f i s level place ≡ f level place
unfolding on_way
off f i s level place e = let test : nat_eq place (i / fan ^ level) ≡ false = grind (arith, nat_tests) in rw test refl

-- the pointers of a node in memory are those of the tree
pub child_kept : (t : Rooted) (level place : ℕ) → level < t.levels → (kept : IsKept t (level + 1) (place / fan)) → pointer_at t level place ≡ get_or kept.pointers (place % fan) hole
child_kept t level place lt kept = (own_way t).down level place lt ∙ elim (cases_eq (pointer_at t (level + 1) (place / fan)).stamp 0) [
  | inl e ↦ ap (λ (xs : List Pointer). get_or xs (place % fan) hole) (no_pointers t (level + 1) (place / fan) (pointer_at t (level + 1) (place / fan)) e) ∙ sym (kept.empty e (place % fan))
  | inr some ↦ ap (λ (xs : List Pointer). get_or xs (place % fan) hole) (kept_pointers t (level + 1) (place / fan) (pointer_at t (level + 1) (place / fan)) kept.pointers some kept.node)
]

-- two ranges with one range above are told apart by their places in it
pub apart : (place other : ℕ) → place / fan ≡ other / fan → place ≢ other → place % fan ≢ other % fan
apart place other above differs same = differs (sym (div-add-mod' place fan) ∙ (λ j. above j * fan + same j) ∙ div-add-mod' other fan)

pub one_stamped : (xs : List Pointer) (slot other s : ℕ) → other ≢ slot → get_or (stamped_in slot s xs) other hole ≡ get_or xs other hole
one_stamped xs slot other s differs = get_or-set_other xs slot other (stamped (get_or xs slot hole) s) hole differs

pub this_stamped : (xs : List Pointer) (slot s : ℕ) → slot < length xs → get_or (stamped_in slot s xs) slot hole ≡ stamped (get_or xs slot hole) s
this_stamped xs slot s lt = get_or-set_same xs slot (stamped (get_or xs slot hole) s) hole lt

pub above : (i level : ℕ) → i / fan ^ level / fan ≡ i / fan ^ (level + 1)
above i level = let n : (level + 1) - 1 ≡ level = omega arith in ap (λ k. i / fan ^ k / fan) (sym n) ∙ range_above i (level + 1) (omega arith)

-- what stamping does to a tree of which the way to a cell is in memory
pub record StampsWay (t u : Rooted) (i s : ℕ) : Type 0 where
  pub owner : u.owner ≡ t.owner
  pub under : u.under ≡ t.under
  pub levels : u.levels ≡ t.levels
  pub root : u.root ≡ stamped t.root s
  pub way : (level : ℕ) → 1 ≤ level → level ≤ t.levels → u.nodes level (i / fan ^ level) ≡ option_map (stamped_in (slot_of i level) s) (t.nodes level (i / fan ^ level))
  pub others : (level place : ℕ) → place ≢ i / fan ^ level → u.nodes level place ≡ t.nodes level place

-- a node on the way
node_stamped : (t u : Rooted) (i s level place : ℕ) → StampsWay t u i s → s ≢ 0 → level < t.levels → place / fan ≡ i / fan ^ (level + 1) → IsKept t (level + 1) (i / fan ^ (level + 1)) → (p : Pointer) → p.stamp ≡ s
    → get_or (pointers_at u (level + 1) (place / fan) p) (place % fan) hole ≡ on_way (pointer_at t) i s level place
node_stamped t u i s level place stamps some lt at kept p stamp =
    let here : IsKept t (level + 1) (place / fan) = subst (IsKept t (level + 1)) (sym at) kept in
    let n : (level + 1) - 1 ≡ level = omega arith in
    let node : u.nodes (level + 1) (place / fan) ≡ Some (stamped_in (i / fan ^ level % fan) s here.pointers) =
    ap (u.nodes (level + 1)) at ∙ stamps.way (level + 1) (omega arith) (omega arith) ∙ (λ j. option_map (stamped_in (i / fan ^ n j % fan) s) (t.nodes (level + 1) (sym at j))) ∙ ap (option_map (stamped_in (i / fan ^ level % fan) s)) here.node in
    let list : pointers_at u (level + 1) (place / fan) p ≡ stamped_in (i / fan ^ level % fan) s here.pointers = kept_pointers u (level + 1) (place / fan) p _ (λ e. some (sym stamp ∙ e)) node in
    ap (λ (xs : List Pointer). get_or xs (place % fan) hole) list ∙ elim (cases_eq place (i / fan ^ level)) [
      | inl same ↦
          ap (λ q. get_or (stamped_in (i / fan ^ level % fan) s here.pointers) (q % fan) hole) same
          ∙ this_stamped here.pointers (i / fan ^ level % fan) s (omega (arith, here.long))
          ∙ ap (λ q. stamped (get_or here.pointers (q % fan) hole) s) (sym same)
          ∙ ap (λ q. stamped q s) (sym (child_kept t level place lt here))
          ∙ sym (on (pointer_at t) i s level place same)
      | inr differs ↦
          one_stamped here.pointers (i / fan ^ level % fan) (place % fan) s (apart place (i / fan ^ level) (at ∙ sym (above i level)) differs)
          ∙ sym (child_kept t level place lt here)
          ∙ sym (off (pointer_at t) i s level place differs)
    ]

pub stamped_way : (t u : Rooted) (i s : ℕ) → StampsWay t u i s → s ≢ 0 → i < fan ^ t.levels → ((level : ℕ) → 1 ≤ level → level ≤ t.levels → IsKept t level (i / fan ^ level)) → IsWay u (on_way (pointer_at t) i s)
stamped_way t u i s stamps some lt kept =
    let none : i / fan ^ t.levels ≡ 0 = div-eq_of_lt lt in record {
      top = λ place. ap (λ n. on_way (pointer_at t) i s n place) stamps.levels ∙ elim (cases_eq place 0) [
        | inl zero ↦
            on (pointer_at t) i s t.levels place (zero ∙ sym none) ∙ ap (λ p. stamped p s) ((own_way t).top place ∙ ap (λ q. if q == 0 then t.root else hole) zero) ∙ sym stamps.root ∙ sym (ap (λ q. if q == 0 then u.root else hole) zero)
        | inr differs ↦
            let test : (place == 0) ≡ false = grind (arith, nat_tests) in
            off (pointer_at t) i s t.levels place (λ e. differs (e ∙ none)) ∙ (own_way t).top place ∙ ap (λ b. if b then t.root else hole) test ∙ sym (ap (λ b. if b then u.root else hole) test)
      ];
      down = λ level place below. let less : level < t.levels = omega (arith, below, stamps.levels) in elim (cases_eq (place / fan) (i / fan ^ (level + 1))) [
        | inl at ↦
            sym (node_stamped t u i s level place stamps some less at (kept (level + 1) (omega arith) (omega arith)) (on_way (pointer_at t) i s (level + 1) (place / fan)) (ap (λ (p : Pointer). p.stamp) (on (pointer_at t) i s (level + 1) (place / fan) at)))
        | inr differs ↦
            off (pointer_at t) i s level place (λ e. differs (ap (λ q. q / fan) e ∙ above i level)) ∙ (own_way t).down level place less
            ∙ ap (λ p. get_or (pointers_at t (level + 1) (place / fan) p) (place % fan) hole) (sym (off (pointer_at t) i s (level + 1) (place / fan) differs))
            ∙ sym (ap (λ (xs : List Pointer). get_or xs (place % fan) hole) (alike t u (level + 1) (place / fan) (on_way (pointer_at t) i s (level + 1) (place / fan)) stamps.owner stamps.under (stamps.others (level + 1) (place / fan) differs)))
      ];
    }
