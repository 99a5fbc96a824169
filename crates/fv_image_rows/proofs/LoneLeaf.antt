-- The map of a container whose only leaf is leaf 16, with a map block in its first entry.
use Rattle.std.proofs.Common.{◌≡◌, ℕ, zero, suc, ◌-◌, ◌/◌, ◌%◌, ◌<◌, ◌≤◌, Bool, true, false, ◌∷◌, ◌++◌, length, replicate, refl, ap, ◌∙◌, arith, ⊎_elim, get_or}
use Rattle.std.specs.Prelude.{Some, nat_lt, ◌==◌, if◌then◌else◌}
use Rattle.std.proofs.lemmas.List.{get_or_append_left, get_or-append_right, length-replicate}
use Rattle.std.proofs.lemmas.Bool.{cases_lt}
use Rattle.std.proofs.lemmas.Bool.Decides.{nat_tests}
use Rattle.fv_disk.specs.Shown.{Image}
use Rattle.fv_codec.specs.declared.container.ContainerLeaf.{ContainerLeaf}
use Rattle.fv_codec.specs.declared.container.ContainerInner.{ContainerInner}
use Rattle.fv_codec.specs.Blocks.{inner_at, leaf_at}
use Rattle.fv_image.specs.Containers.{lying, entry_in, node_below, container_entry}
use Rattle.fv_image.proofs.Zeros.{zero_in}

-- ---- lists with one number that isn't 0

lone_after : (after x k : ℕ) → get_or (x ∷ replicate after 0) k 0 ≡ (if k == 0 then x else 0)
lone_after after x zero = refl
lone_after after x (suc k) = let test : (suc k == 0) ≡ false = grind (arith, nat_tests) in rw test (zero_in after k)

pub lone_in : (before after x k : ℕ) → get_or (replicate before 0 ++ x ∷ replicate after 0) k 0 ≡ (if k == before then x else 0)
lone_in before after x k = ⊎_elim
    (λ (inside : k < before). let test : (k == before) ≡ false = grind (arith, nat_tests) in
    rw test (get_or_append_left (replicate {A = ℕ} before 0) (x ∷ replicate after 0) 0 k (let e : length (replicate {A = ℕ} before 0) ≡ before = length-replicate {A = ℕ} before 0 in omega (arith, inside, e)) ∙ zero_in before k))
    (λ (past : before ≤ k). let same : (k - before == 0) ≡ (k == before) = grind (arith, nat_tests) in
    get_or-append_right (replicate {A = ℕ} before 0) (x ∷ replicate after 0) before k 0 (length-replicate {A = ℕ} before 0) past ∙ lone_after after x (k - before) ∙ ap (λ (b : Bool). if b then x else 0) same)
    (cases_lt k before)

-- ---- the container

-- a container of 4121 entries, of which leaf 16 has the only one, a map block
pub record HasLoneLeaf (i : Image) (root leaf place : ℕ) : Type 0 where
  pub node : ContainerInner
  pub is_node : lying inner_at i root ≡ Some node
  pub children : node.children ≡ replicate 16 0 ++ leaf ∷ replicate 239 0
  pub entries : ContainerLeaf
  pub is_leaf : lying leaf_at i leaf ≡ Some entries
  pub pvbns : entries.pvbns ≡ place ∷ replicate 255 0
  pub kinds : entries.kinds ≡ 8 ∷ replicate 255 0

pub lone_node : (i : Image) (root leaf place number : ℕ) → HasLoneLeaf i root leaf place → number < 17 → node_below i root 1 number ≡ (if number == 16 then leaf else 0)
unfolding node_below
lone_node i root leaf place number is within =
    let top : number / 256 ≡ 0 = omega (arith, within) in
    let same : number % 256 ≡ number = omega (arith, within) in
    rw (top, is.is_node, same, is.children) (lone_in 16 239 leaf number)

pub lone_entry : (i : Image) (root leaf place v : ℕ) → HasLoneLeaf i root leaf place → container_entry i root 1 4121 v ≡ (if v == 4096 then (place, 8) else (0, 0))
unfolding container_entry
lone_entry i root leaf place v is = ⊎_elim
    (λ (inside : v < 4121). let test : nat_lt v 4121 ≡ true = grind (arith, nat_tests) in rw (test, lone_node i root leaf place (v / 256) is (omega (arith, inside))) (by_leaf (v / 256 == 16) refl inside))
    (λ (past : 4121 ≤ v). let test : nat_lt v 4121 ≡ false = grind (arith, nat_tests) in let other : (v == 4096) ≡ false = grind (arith, nat_tests) in rw (test, other) refl)
    (cases_lt v 4121)
  where
    by_entry : (here : Bool) → (v % 256 == 0) ≡ here → v < 4121 → v / 256 ≡ 16 → ◌≡◌ {A = ℕ × ℕ} (if here then place else 0, if here then 8 else 0) (if v == 4096 then (place, 8) else (0, 0))
    by_entry true e inside leaf-is = let test : (v == 4096) ≡ true = grind (arith, nat_tests) in rw test refl
    by_entry false e inside leaf-is = let test : (v == 4096) ≡ false = grind (arith, nat_tests) in rw test refl

    by_leaf : (here : Bool) → (v / 256 == 16) ≡ here → v < 4121 → entry_in (lying leaf_at i (if here then leaf else 0)) (v % 256) ≡ (if v == 4096 then (place, 8) else (0, 0))
    by_leaf true e inside =
        let leaf-is : v / 256 ≡ 16 = grind (arith, nat_tests) in
        rw (is.is_leaf, is.pvbns, is.kinds, lone_in 0 255 place (v % 256), lone_in 0 255 8 (v % 256)) (by_entry (v % 256 == 0) refl inside leaf-is)
    by_leaf false e inside =
        let other : (v == 4096) ≡ false = grind (arith, nat_tests) in rw other refl
