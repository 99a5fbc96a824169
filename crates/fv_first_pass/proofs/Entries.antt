-- The entries of a container that was read, against those that the image spells.
use Rattle.std.proofs.Common.{◌≡◌, ℕ, suc, ◌/◌, ◌%◌, ◌^◌, ◌<◌, ◌≤◌, Bool, true, false, List, length, get_or, replicate, refl, sym, ap, subst, ◌∙◌, arith, ⊎_elim, ◌⊎◌, inl, inr}
use Rattle.std.specs.Prelude.{Option, nat_le, nat_lt, ◌==◌, if◌then◌else◌}
use Rattle.std.proofs.lemmas.Bool.{cases_lt}
use Rattle.std.proofs.lemmas.Bool.Decides.{nat_tests}
use Rattle.std.proofs.lemmas.List.{get_or-replicate, get_or_past, length-replicate}
use Rattle.fv_disk.specs.Shown.{Image}
use Rattle.fv_codec.specs.declared.container.ContainerInner.{ContainerInner}
use Rattle.fv_codec.specs.Blocks.{leaf_at, inner_at}
use Rattle.fv_image.specs.Containers.{fan, level_width, lying, child_in, entry_in, height_of, node_below, container_entry}
use Rattle.fv_image.specs.Views.{entry_count}
use Rattle.fv_first_pass.specs.declared.site.Site.{Site}
use Rattle.fv_first_pass.specs.Below.{child_at, entry_under}
use Rattle.fv_first_pass.specs.Filled.{Fills, IsRead}

zero_row : (n v : ℕ) → ◌≡◌ {A = ℕ} (get_or (replicate n 0) v 0) 0
zero_row n v = ⊎_elim (λ (low : v < n). get_or-replicate {A = ℕ} n v 0 0 low) (λ (past : n ≤ v). get_or_past (replicate {A = ℕ} n 0) v 0 (let long : length (replicate {A = ℕ} n 0) ≡ n = length-replicate {A = ℕ} n 0 in omega (arith, past, long))) (cases_lt v n)

-- a row that was filled over holes
pub is_read : (i : Image) (site : Site) (old new : List ℕ) → old ≡ replicate (entry_count site.label.span) 0 → Fills i site site.label.height 0 site.label.container old new → IsRead i site new
is_read i site old new holes fills =
    let long : length old ≡ entry_count site.label.span = ap length holes ∙ length-replicate {A = ℕ} (entry_count site.label.span) 0 in
    record {
      long = fills.long ∙ long;
      words = λ quiet v over inside. fills.kept quiet v over (omega (arith, inside, long)) (ap (λ xs. get_or xs v 0) holes ∙ zero_row (entry_count site.label.span) v);
    }

-- ---- against the image's entries

module _ (i : Image) (site : Site) (root v : ℕ) (inside : v < entry_count site.label.span) where
  abbrev entries : ℕ
  entries = entry_count site.label.span

  covered : v / fan < level_width entries 0
  covered = omega (arith, inside)

  covered_twice : v / fan ^ 2 < level_width entries 1
  covered_twice = omega (arith, inside)

  low : (level : ℕ) (node : Option ContainerInner) (q : ℕ) → q < level_width entries level → child_at site level node q ≡ child_in node (q % fan)
  low level node q within =
      let test : nat_lt q (level_width entries level) ≡ true = grind (arith, nat_tests, within) in
      ap (λ (b : Bool). if b then child_in node (q % fan) else 0) test

  top : (q : ℕ) → q ≡ 0 → node_below i root 0 q ≡ root
  unfolding node_below
  top q none = ap (λ n. if n == 0 then root else 0) none

  spelled : (h : ℕ) (leaf : ℕ) → leaf ≡ node_below i root h (v / fan) → entry_in (lying leaf_at i leaf) (v % fan) ≡ container_entry i root h entries v
  unfolding container_entry
  spelled h leaf is =
      let test : nat_lt v entries ≡ true = grind (arith, nat_tests, inside) in
      ap (λ p. entry_in (lying leaf_at i p) (v % fan)) is
      ∙ sym (ap (λ (b : Bool). if b then entry_in (lying leaf_at i (node_below i root h (v / fan))) (v % fan) else (0, 0)) test)

  one_level : v / fan ^ 2 ≡ 0 → child_at site 0 (lying inner_at i root) (v / fan ^ 1) ≡ node_below i root 1 (v / fan)
  unfolding node_below
  one_level over =
      low 0 (lying inner_at i root) (v / fan) covered
      ∙ ap (λ p. child_in (lying inner_at i p) (v / fan % fan)) (sym (top (v / fan / fan) (let e : v / 256 / 256 ≡ 0 = omega (arith, over) in e)))

  two_levels : v / fan ^ 3 ≡ 0 → child_at site 0 (lying inner_at i (child_at site 1 (lying inner_at i root) (v / fan ^ 2))) (v / fan ^ 1) ≡ node_below i root 2 (v / fan)
  unfolding node_below
  two_levels over =
      let turn : v / fan ^ 2 ≡ v / fan / fan = (let e : v / 65536 ≡ v / 256 / 256 = omega arith in e) in
      low 0 (lying inner_at i (child_at site 1 (lying inner_at i root) (v / fan ^ 2))) (v / fan) covered
      ∙ ap (λ p. child_in (lying inner_at i p) (v / fan % fan))
      (low 1 (lying inner_at i root) (v / fan ^ 2) covered_twice
      ∙ ap (λ q. child_in (lying inner_at i root) (q % fan)) turn
      ∙ ap (λ p. child_in (lying inner_at i p) (v / fan / fan % fan)) (sym (top (v / fan / fan / fan) (let e : v / 256 / 256 / 256 ≡ 0 = omega (arith, over) in e))))

  pub entry_is : (h : ℕ) → (h ≡ 1) ⊎ (h ≡ 2) → v / fan ^ suc h ≡ 0 → entry_under i site h root v ≡ container_entry i root h entries v
  unfolding entry_under
  entry_is h (inl one) over =
      ap (λ h. entry_under i site h root v) one
      ∙ spelled 1 (child_at site 0 (lying inner_at i root) (v / fan ^ 1)) (one_level (subst (λ h. v / fan ^ suc h ≡ 0) one over))
      ∙ sym (ap (λ h. container_entry i root h entries v) one)
  entry_is h (inr two) over =
      ap (λ h. entry_under i site h root v) two
      ∙ spelled 2 (child_at site 0 (lying inner_at i (child_at site 1 (lying inner_at i root) (v / fan ^ 2))) (v / fan ^ 1)) (two_levels (subst (λ h. v / fan ^ suc h ≡ 0) two over))
      ∙ sym (ap (λ h. container_entry i root h entries v) two)

-- the least height covers the entries
pub high_enough : (entries h v : ℕ) → entries ≤ 1049376 → h ≡ height_of entries → v < entries → ((h ≡ 1) ⊎ (h ≡ 2)) × (v / fan ^ suc h ≡ 0)
high_enough entries h v few is inside = so (nat_le (level_width entries 0) fan) refl is
  where
    so : (b : Bool) → nat_le (level_width entries 0) fan ≡ b → h ≡ (if b then 1 else 2) → ((h ≡ 1) ⊎ (h ≡ 2)) × (v / fan ^ suc h ≡ 0)
    so true test is =
        let narrow : level_width entries 0 ≤ fan = grind (arith, nat_tests, test) in
        (inl is, ap (λ h. v / fan ^ suc h) is ∙ (let e : v / 65536 ≡ 0 = omega (arith, narrow, inside) in e))
    so false test is = (inr is, ap (λ h. v / fan ^ suc h) is ∙ (let e : v / 16777216 ≡ 0 = omega (arith, few, inside) in e))
