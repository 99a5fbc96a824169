-- What didn't change and is led to has its block.
use Rattle.std.proofs.Common.{◌≡◌, ◌≢◌, ◌≤◌, ℕ, inl, inr, true, false, Option, None, refl, sym, ◌∙◌, arith, ◌==◌, ◌⊎◌}
use Rattle.fv_tree.proofs.Ways.{spot_is}
use Rattle.std.proofs.lemmas.Bool.{cases_eq}
use Rattle.std.proofs.lemmas.Bool.Decides.{nat_tests}
use Rattle.fv_tree.specs.Sources.{Use}
use Rattle.fv_tree.specs.Spelled.{Rooted, pointer_at, block_at}
use Rattle.fv_tree.specs.Flushing.{Loaded, IsSound}
use Rattle.fv_tree.proofs.Cases.{there, false_is_true}

-- the block of a cell that isn't in memory
pub block_read : (t : Rooted) (i : ℕ) → (pointer_at t 0 i).stamp ≢ 0 → t.cells i ≡ None → block_at t i ≡ t.under (pointer_at t 0 i).vvbn
unfolding block_at
block_read t i some none = let test : ((pointer_at t 0 i).stamp == 0) ≡ false = grind (arith, nat_tests) in rw (test, none) refl

-- where one place and no other doesn't differ any more, what still differs is another place, and differed before
pub changed_before : (s u : Loaded) (k q : ℕ) → u.changed k q ≡ false → ((j c : ℕ) → (j ≢ k) ⊎ (c ≢ q) → u.changed j c ≡ s.changed j c) → (j c : ℕ) → u.changed j c ≡ true → ((j ≢ k) ⊎ (c ≢ q)) × (s.changed j c ≡ true)
changed_before s u k q own others j c changed = elim (spot_is j c k q) [
  | inl at ↦ false_is_true (u.changed j c) ((λ i. u.changed (at.0 i) (at.1 i)) ∙ own) changed
  | inr other ↦ (other, sym (others j c other) ∙ changed)
]

-- what is said not to lead to its block is in memory
pub record IsMemory (s : Loaded) : Type 0 where
  pub nodes : (level place : ℕ) → 1 ≤ level → s.tree.nodes level place ≡ None → s.placed level place ≡ true
  pub cells : (place : ℕ) → s.tree.cells place ≡ None → s.placed 0 place ≡ true

-- what didn't change and is led to has its block
pub unchanged_placed : (s : Loaded) (used : ℕ → Option Use) → IsSound used s → IsMemory s → (j c : ℕ) → s.changed j c ≡ false → (pointer_at s.tree j c).stamp ≢ 0 → s.placed j c ≡ true
unchanged_placed s used sound memory j c same some = elim (cases_eq j 0) [
  | inl e ↦ (λ i. s.placed (e i) c) ∙ elim (there (s.tree.cells c)) [
    | inl absent ↦ memory.cells c absent
    | inr held ↦ (sound.cells c held.0 held.1 (sym (λ i. s.changed (e i) c) ∙ same) (λ none. some ((λ i. (pointer_at s.tree (e i) c).stamp) ∙ none))).1
  ]
  | inr low ↦ elim (there (s.tree.nodes j c)) [
    | inl absent ↦ memory.nodes j c (omega arith) absent
    | inr held ↦ (sound.same j c held.0 (omega arith) held.1 same some).1
  ]
]
