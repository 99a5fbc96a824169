-- The pointers of a node, and the way from the root down.
use Rattle.std.proofs.Common.{◌≡◌, ◌≢◌, ◌≤◌, ℕ, suc, ◌-◌, ◌/◌, ◌%◌, ◌^◌, true, false, List, [], Option, Some, None, get_or, refl, sym, ap, ◌∙◌, arith, ◌==◌}
use Rattle.std.proofs.Math.Nat.{div-div-eq-div-mul, pow-suc}
use Rattle.std.proofs.lemmas.Bool.Decides.{nat_tests}
use Rattle.std.specs.Option.{option_map}
use Rattle.fv_codec.specs.declared.pointer.Pointer.{Pointer}
use Rattle.fv_model.specs.Trees.{fan}
use Rattle.fv_tree.specs.Spelled.{Rooted, hole, pointers_at, pointers_in, pointer_below, pointer_at}

nothing : (n : ℕ) → n ≡ 0 → (n == 0) ≡ true
nothing n e = grind (arith, nat_tests)

something : (n : ℕ) → n ≢ 0 → (n == 0) ≡ false
something n e = grind (arith, nat_tests)

pub no_pointers : (t : Rooted) (level place : ℕ) (p : Pointer) → p.stamp ≡ 0 → pointers_at t level place p ≡ []
unfolding pointers_at
no_pointers t level place p e = rw (nothing p.stamp e) refl

pub kept_pointers : (t : Rooted) (level place : ℕ) (p : Pointer) (xs : List Pointer) → p.stamp ≢ 0 → t.nodes level place ≡ Some xs → pointers_at t level place p ≡ xs
unfolding pointers_at
kept_pointers t level place p xs some is = rw (something p.stamp some, is) refl

pub read_pointers : (t : Rooted) (level place : ℕ) (p : Pointer) → p.stamp ≢ 0 → t.nodes level place ≡ None → pointers_at t level place p ≡ pointers_in (t.under p.vvbn)
unfolding pointers_at
read_pointers t level place p some is = rw (something p.stamp some, is) refl

-- one pointer of a node in memory
pub own_child : (t : Rooted) (level place slot : ℕ) (p child : Pointer) → p.stamp ≢ 0 → option_map (λ (xs : List Pointer). get_or xs slot hole) (t.nodes level place) ≡ Some child → child ≡ get_or (pointers_at t level place p) slot hole
own_child t level place slot p child some is = by (t.nodes level place) refl is
  where
    by : (o : Option (List Pointer)) → t.nodes level place ≡ o → option_map (λ (xs : List Pointer). get_or xs slot hole) o ≡ Some child → child ≡ get_or (pointers_at t level place p) slot hole
    by None none own = absurd cc
    by (Some xs) node own = (let same : get_or xs slot hole ≡ child = cc in sym same) ∙ sym (ap (λ (ys : List Pointer). get_or ys slot hole) (kept_pointers t level place p xs some node))

pub range_above : (i level : ℕ) → 1 ≤ level → i / fan ^ (level - 1) / fan ≡ i / fan ^ level
range_above i level low =
    div-div-eq-div-mul i (fan ^ (level - 1)) fan ∙ ap (λ n. i / n) (sym (pow-suc fan (level - 1)) ∙ (let e : suc (level - 1) ≡ level = omega arith in ap (λ n. fan ^ n) e))

-- one step down
pub below : (t : Rooted) (level i : ℕ) (p : Pointer) → 1 ≤ level → level ≤ t.levels → p ≡ pointer_below t (t.levels - level) (i / fan ^ level)
    → get_or (pointers_at t level (i / fan ^ level) p) (i / fan ^ (level - 1) % fan) hole ≡ pointer_below t (t.levels - (level - 1)) (i / fan ^ (level - 1))
unfolding pointer_below
below t level i p low high is =
    let n : t.levels - (level - 1) ≡ suc (t.levels - level) = omega arith in
    let m : t.levels - (t.levels - level) ≡ level = omega arith in
    rw (n, m, range_above i level low, sym is) refl

-- a pointer on the way to a cell
pub on_the_way : (t : Rooted) (level i : ℕ) → level ≤ t.levels → pointer_at t level (i / fan ^ level) ≡ pointer_below t (t.levels - level) (i / fan ^ level)
unfolding pointer_at
on_the_way t level i high = grind (arith, nat_tests)

pub at_the_cell : (t : Rooted) (level i : ℕ) (p : Pointer) → level ≡ 0 → p ≡ pointer_below t (t.levels - level) (i / fan ^ level) → p ≡ pointer_at t 0 i
at_the_cell t level i p none is =
    let n : i / fan ^ 0 ≡ i = omega arith in
    is ∙ (λ j. pointer_below t (t.levels - none j) (i / fan ^ none j)) ∙ sym (on_the_way t 0 i (omega arith)) ∙ ap (pointer_at t 0) n
