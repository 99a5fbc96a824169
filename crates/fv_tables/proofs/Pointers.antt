-- The pointers of a tree: none past its positions, and the same ones where the same blocks stand under what is reached.
use Rattle.std.proofs.Common.{◌≡◌, ◌≢◌, ℕ, zero, suc, ◌-◌, ◌*◌, ◌/◌, ◌%◌, ◌^◌, ◌<◌, ◌≤◌, Bool, true, false, List, [], refl, sym, ap, ◌∙◌, arith, get_or, ⊎_elim}
use Rattle.std.specs.Prelude.{Option, None, ◌==◌, nat_le, if◌then◌else◌}
use Rattle.std.proofs.lemmas.Nat.{le-div}
use Rattle.std.proofs.Math.Nat.{pow-suc}
use Rattle.std.proofs.lemmas.Bool.{cases_eq}
use Rattle.std.proofs.lemmas.Bool.Decides.{nat_tests}
use Rattle.fv_codec.specs.declared.pointer.Pointer.{Pointer}
use Rattle.fv_model.specs.Trees.{fan}
use Rattle.fv_tables.specs.Spelled.{Under, Rooted, hole, kept_or, pointers_in, pointers_at, pointer_below, pointer_at, stamp_in, block_or, block_at}
use Rattle.fv_tables.specs.Kept.{over, AgreeOnTree}

-- ---- past the positions of a tree

-- nothing stands under a hole
pub none_under : (t : Rooted) (level place : ℕ) (p : Pointer) → p.stamp ≡ 0 → pointers_at t level place p ≡ []
unfolding pointers_at
none_under t level place p none = rw none refl

pub past_below : (t : Rooted) (steps place : ℕ) → fan ^ steps ≤ place → pointer_below t steps place ≡ hole
unfolding pointer_below
past_below t zero place past = let test : (place == 0) ≡ false = grind (arith, nat_tests) in rw test refl
past_below t (suc steps) place past =
    let wide : fan ^ suc steps ≡ fan ^ steps * fan = pow-suc fan steps in
    let over : fan ^ steps ≤ place / fan = le-div (fan ^ steps) place fan (omega arith) (omega (arith, past, wide)) in
    let up : pointer_below t steps (place / fan) ≡ hole = past_below t steps (place / fan) over in
    ap (λ q. get_or (pointers_at t (t.levels - steps) (place / fan) q) (place % fan) hole) up
    ∙ ap (λ (xs : List Pointer). get_or xs (place % fan) hole) (none_under t (t.levels - steps) (place / fan) hole refl)

-- a pointer that stands has one of the positions
pub past : (t : Rooted) (level place : ℕ) → fan ^ (t.levels - level) ≤ place → pointer_at t level place ≡ hole
unfolding pointer_at
past t level place far = so (nat_le level t.levels)
  where
    so : (b : Bool) → (if b then pointer_below t (t.levels - level) place else hole) ≡ hole
    so true = past_below t (t.levels - level) place far
    so false = refl

pub above : (t : Rooted) (level place : ℕ) → t.levels < level → pointer_at t level place ≡ hole
unfolding pointer_at
above t level place lt = let test : nat_le level t.levels ≡ false = grind (arith, nat_tests) in rw test refl

pub no_stamp : (p : Pointer) → p.stamp ≡ 0 → stamp_in p ≡ None
no_stamp p none = rw none refl

pub no_block : (t : Rooted) (index : ℕ) → (pointer_at t 0 index).stamp ≡ 0 → block_at t index ≡ None
unfolding block_at
no_block t index none = rw none refl

-- ---- the same blocks under what is reached

-- a pointer of a position by the steps that lead there
pub by_steps : (t : Rooted) (steps place : ℕ) → steps ≤ t.levels → pointer_at t (t.levels - steps) place ≡ pointer_below t steps place
unfolding pointer_at
by_steps t steps place le =
    let test : nat_le (t.levels - steps) t.levels ≡ true = grind (arith, nat_tests) in
    let back : t.levels - (t.levels - steps) ≡ steps = omega arith in
    rw (test, back) refl

module _ (t : Rooted) (n : Under) (agree : AgreeOnTree t n) where
  same_under : (level place : ℕ) (p : Pointer) → (p.stamp ≢ 0 → n p.vvbn ≡ t.under p.vvbn) → pointers_at (over n t) level place p ≡ pointers_at t level place p
  unfolding pointers_at
  same_under level place p same = ⊎_elim
      (λ (e : p.stamp ≡ 0). let test : (p.stamp == 0) ≡ true = grind (arith, nat_tests) in rw test refl)
      (λ (some : p.stamp ≢ 0). ap (λ (b : Option (List ℕ)). if p.stamp == 0 then [] else kept_or (t.nodes level place) (pointers_in b)) (same some))
      (cases_eq p.stamp 0)

  same_below : (steps place : ℕ) → steps ≤ t.levels → pointer_below (over n t) steps place ≡ pointer_below t steps place
  unfolding pointer_below
  same_below zero place le = refl
  same_below (suc steps) place le =
      let up : pointer_below (over n t) steps (place / fan) ≡ pointer_below t steps (place / fan) = same_below steps (place / fan) (omega arith) in
      let at : pointer_at t (t.levels - steps) (place / fan) ≡ pointer_below t steps (place / fan) = by_steps t steps (place / fan) (omega arith) in
      ap (λ q. get_or (pointers_at (over n t) (t.levels - steps) (place / fan) q) (place % fan) hole) up
      ∙ ap (λ (xs : List Pointer). get_or xs (place % fan) hole) (same_under (t.levels - steps) (place / fan) (pointer_below t steps (place / fan))
      (λ some. ap (λ (q : Pointer). n q.vvbn) (sym at) ∙ agree (t.levels - steps) (place / fan) (λ e. some (ap (λ (q : Pointer). q.stamp) (sym at) ∙ e)) ∙ ap (λ (q : Pointer). t.under q.vvbn) at))

  -- the pointers are the same
  pub same_pointer : (level place : ℕ) → pointer_at (over n t) level place ≡ pointer_at t level place
  unfolding pointer_at
  same_pointer level place = so (nat_le level t.levels)
    where
      so : (b : Bool) → (if b then pointer_below (over n t) (t.levels - level) place else hole) ≡ (if b then pointer_below t (t.levels - level) place else hole)
      so true = same_below (t.levels - level) place (omega arith)
      so false = refl

  -- and so are the blocks of its cells
  pub same_block : (index : ℕ) → block_at (over n t) index ≡ block_at t index
  unfolding block_at
  same_block index = ⊎_elim
      (λ (e : (pointer_at t 0 index).stamp ≡ 0).
      let left : (pointer_at (over n t) 0 index).stamp ≡ 0 = ap (λ (q : Pointer). q.stamp) (same_pointer 0 index) ∙ e in
      no_block (over n t) index left ∙ sym (no_block t index e))
      (λ (some : (pointer_at t 0 index).stamp ≢ 0).
      ap (λ (q : Pointer). if q.stamp == 0 then None else block_or (t.cells index) (n q.vvbn)) (same_pointer 0 index)
      ∙ ap (λ (b : Option (List ℕ)). if (pointer_at t 0 index).stamp == 0 then None else block_or (t.cells index) b) (agree 0 index some))
      (cases_eq (pointer_at t 0 index).stamp 0)
