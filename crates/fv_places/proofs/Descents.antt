-- From a pointer of a tree to the block in which it stands: a node for one below the top, the record of the file for a root.
use Rattle.std.proofs.Common.{◌≡◌, ◌≢◌, ℕ, ◌+◌, ◌-◌, ◌/◌, ◌%◌, ◌^◌, ◌<◌, ◌≤◌, Bool, true, false, List, refl, sym, ap, subst, ◌∙◌, arith, ⊎_elim, get_or}
use Rattle.std.specs.Prelude.{Some, None, ◌==◌, nat_le, if◌then◌else◌}
use Rattle.std.proofs.lemmas.Bool.{cases_eq, cases_lt}
use Rattle.std.proofs.lemmas.Bool.Decides.{nat_tests}
use Rattle.fv_codec.specs.declared.pointer.Pointer.{Pointer}
use Rattle.fv_codec.specs.declared.inode.InodeRecord.{InodeRecord}
use Rattle.fv_model.specs.Trees.{fan}
use Rattle.fv_tables.specs.Spelled.{Under, Rooted, hole, pointer_below, pointer_at, block_at}
use Rattle.fv_tables.specs.Told.{standing_at, records_each, records_in, free_record, used_record, file_at}
use Rattle.fv_tables.proofs.Pointers.{above, past, none_under}
use Rattle.fv_image.proofs.WellTrees.{in_node}

-- ---- a tree

-- a pointer that stands has one that stands over it
pub over_stands : (t : Rooted) (level place : ℕ) → level < t.levels → (pointer_at t level place).stamp ≢ 0
    → (pointer_at t (level + 1) (place / fan)).stamp ≢ 0
over_stands t level place low some gone = some (ap (λ (p : Pointer). p.stamp) (in_node t level place low)
    ∙ ap (λ (xs : List Pointer). (get_or xs (place % fan) hole).stamp)
    (none_under t (level + 1) (place / fan) (pointer_at t (level + 1) (place / fan)) gone))

-- it is within the levels
pub within : (t : Rooted) (level place : ℕ) → (pointer_at t level place).stamp ≢ 0 → level ≤ t.levels
within t level place some = ⊎_elim
    (λ (high : t.levels < level). absurd (some (ap (λ (p : Pointer). p.stamp) (above t level place high))))
    (λ le. le)
    (cases_lt t.levels level)

-- at the top it is the root
pub top_is : (t : Rooted) (level place : ℕ) → t.levels ≤ level → (pointer_at t level place).stamp ≢ 0 → pointer_at t level place ≡ t.root
unfolding pointer_at pointer_below
top_is t level place high some = so (nat_le level t.levels) refl some
  where
    none : (b : Bool) → (if b then t.root else hole).stamp ≢ 0 → (if b then t.root else hole) ≡ t.root
    none true some = refl
    none false some = absurd (some refl)

    so : (b : Bool) → nat_le level t.levels ≡ b → (if b then pointer_below t (t.levels - level) place else hole).stamp ≢ 0
        → (if b then pointer_below t (t.levels - level) place else hole) ≡ t.root
    so false test some = absurd (some refl)
    so true test some = let same : t.levels - level ≡ 0 = omega (arith, high) in
        subst (λ (n : ℕ). (pointer_below t n place).stamp ≢ 0 → pointer_below t n place ≡ t.root) (sym same) (none (place == 0)) some

-- and stands at place 0
pub only_root : (t : Rooted) (place : ℕ) → (pointer_at t t.levels place).stamp ≢ 0 → place ≡ 0
only_root t place some = ⊎_elim
    (λ (e : place ≡ 0). e)
    (λ (ne : place ≢ 0). absurd (some (ap (λ (p : Pointer). p.stamp) (past t t.levels place (far t.levels ne)))))
    (cases_eq place 0)
  where
    far : (n : ℕ) → place ≢ 0 → fan ^ (n - n) ≤ place
    far n ne = let e : n - n ≡ 0 = omega arith in subst (λ (k : ℕ). fan ^ k ≤ place) (sym e) (omega (arith, ne))

-- where the root is
pub root_at : (t : Rooted) → pointer_at t t.levels 0 ≡ t.root
unfolding pointer_at pointer_below
root_at t =
    let a : nat_le t.levels t.levels ≡ true = grind (arith, nat_tests) in let b : t.levels - t.levels ≡ 0 = omega arith in rw (a, b) refl

-- ---- a record

-- a used record is itself
used_is : (f g : InodeRecord) → used_record f ≡ Some g → f ≡ g
used_is f g e = so (f.name_length == 0) e
  where
    so : (b : Bool) → (if b then None else Some f) ≡ Some g → f ≡ g
    so true e = absurd cc
    so false e = cc

-- The record of a file stands in the inode block over it, to which a pointer leads that stands.
pub record_at : (under : Under) (levels : ℕ) (root : Pointer) (k : ℕ) (f : InodeRecord)
    → file_at (standing_at under levels root).inode k ≡ Some f
    → ((pointer_at (standing_at under levels root).inode 0 (k / records_each)).stamp ≢ 0)
    × (f ≡ get_or (records_in (under (pointer_at (standing_at under levels root).inode 0 (k / records_each)).vvbn))
    (k % records_each) free_record)
unfolding file_at block_at records_in
record_at under levels root k f is = so (p.stamp == 0) refl (used_is _ f is)
  where
    p : Pointer
    p = pointer_at (standing_at under levels root).inode 0 (k / records_each)

    none_is : (f : InodeRecord) → used_record free_record ≡ Some f → ⊥
    none_is f e = absurd cc

    so : (b : Bool) → (p.stamp == 0) ≡ b → get_or (records_in (if b then None else under p.vvbn)) (k % records_each) free_record ≡ f
        → (p.stamp ≢ 0) × (f ≡ get_or (records_in (under p.vvbn)) (k % records_each) free_record)
    so false test e = (λ z. apart p.stamp test z, sym e)
      where
        apart : (n : ℕ) → (n == 0) ≡ false → n ≢ 0
        apart n e z = let t : (n == 0) ≡ true = grind (arith, nat_tests) in let wrong : false ≡ true = sym e ∙ t in cc
    so true test e =
        absurd (none_is f (subst
        (λ (o : Bool). used_record (get_or (records_in (if o then None else under p.vvbn)) (k % records_each) free_record)
        ≡ Some f) test is))
