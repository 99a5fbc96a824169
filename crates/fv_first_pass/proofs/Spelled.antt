-- The entries of a row as words, against what the VVBNs of an image lead to.
use Rattle.std.proofs.Common.{◌≡◌, ℕ, zero, suc, ◌+◌, ◌*◌, ◌/◌, ◌%◌, ◌<◌, ◌≤◌, Bool, true, false, List, length, get_or, refl, sym, ap, ◌∙◌, arith, ⊎_elim, Ok, Err}
use Rattle.std.specs.Prelude.{Result, nat_lt, drop, if◌then◌else◌}
use Rattle.std.proofs.lemmas.Bool.{cases_lt}
use Rattle.std.proofs.lemmas.Bool.Decides.{nat_tests}
use Rattle.std.proofs.lemmas.List.{get_or_past}
use Rattle.fv_disk.specs.Shown.{Image}
use Rattle.fv_codec.specs.declared.shape.Shape.{Shape}
use Rattle.fv_codec.specs.declared.container.ContainerLeaf.{ContainerLeaf}
use Rattle.fv_codec.specs.Fields.{Verdict, reading, verdicts}
use Rattle.fv_codec.specs.Blocks.{leaf_at, leaf_in, greatest_kind, leaf_fields, place_of, kind_of}
use Rattle.fv_codec.proofs.Decoded.{leaf_in_range}
use Rattle.fv_image.specs.Containers.{fan, shaped, lying, entry_in, node_below, container_entry}
use Rattle.fv_image.specs.Held.{placed}
use Rattle.fv_image.proofs.WellNodes.{length_items}
use Rattle.fv_first_pass.specs.Below.{entry_word}
use Rattle.fv_first_pass.specs.Passed.{spelled}
use Rattle.fv_first_pass.proofs.Words.{entry_of, few}

-- ---- a word tells its entry

apart : (p k : ℕ) → p < 16777216 → ◌≡◌ {A = ℕ × ℕ} ((k * 16777216 + p) % 16777216, (k * 16777216 + p) / 16777216) (p, k)
apart p k low =
    let place : (k * 16777216 + p) % 16777216 ≡ p = omega (arith, low) in
    let kind : (k * 16777216 + p) / 16777216 ≡ k = omega (arith, low) in
    rw (place, kind) refl

pub word_told : (i : Image) (e : ℕ × ℕ) → e.0 < 16777216 → spelled i (entry_word e) ≡ placed i e
word_told i e low = ap (placed i) (apart e.0 e.1 low)

-- ---- the place of an entry has 24 bits

read_as : {X Y : Type 0} (f : X → Y) (v : Verdict) (x y : X) → reading v x ≡ Ok y → f x ≡ f y
read_as f (Ok fine) x y e = let same : x ≡ y = cc in ap f same
read_as f (Err fault) x y e = absurd cc

pvbns_long : (block : List ℕ) (l : ContainerLeaf) → leaf_at block ≡ Ok l → length l.pvbns ≡ 256
unfolding leaf_in
pvbns_long block l e = sym (read_as (λ (l : ContainerLeaf). length l.pvbns) (verdicts (leaf_fields greatest_kind) block) _ l e) ∙ length_items 256 12 place_of (drop 1024 block)

kinds_long : (block : List ℕ) (l : ContainerLeaf) → leaf_at block ≡ Ok l → length l.kinds ≡ 256
unfolding leaf_in
kinds_long block l e = sym (read_as (λ (l : ContainerLeaf). length l.kinds) (verdicts (leaf_fields greatest_kind) block) _ l e) ∙ length_items 256 12 kind_of (drop 1024 block)

module _ (i : Image) (long : (b : ℕ) → length (i b) ≡ 4096) where
  in_leaf : (p c : ℕ) → c < 256 → (entry_in (lying leaf_at i p) c).0 < 16777216
  in_leaf zero c low = omega arith
  in_leaf (suc p) c low = so (leaf_at (i (suc p))) refl
    where
      so : (r : Result ContainerLeaf Shape) → leaf_at (i (suc p)) ≡ r → (entry_in (shaped r) c).0 < 16777216
      so (Err fault) is = omega arith
      so (Ok l) is =
          let range = leaf_in_range greatest_kind (i (suc p)) (Ok l) (long (suc p)) (sym is) in
          let most = (few (get_or l.pvbns c 0) (get_or l.kinds c 0) (entry_of l c range (pvbns_long (i (suc p)) l is) (kinds_long (i (suc p)) l is) low)).0 in
          omega (arith, most)

  pub entry_low : (root height entries v : ℕ) → (container_entry i root height entries v).0 < 16777216
  unfolding container_entry
  entry_low root height entries v = so (nat_lt v entries)
    where
      so : (b : Bool) → (if b then entry_in (lying leaf_at i (node_below i root height (v / fan))) (v % fan) else (0, 0)).0 < 16777216
      so true = in_leaf (node_below i root height (v / fan)) (v % fan) (let rest : v % 256 < 256 = omega arith in rest)
      so false = omega arith

  -- a row that has the word of each entry
  pub row_told : (root height entries : ℕ) (row : List ℕ) → length row ≡ entries → ((v : ℕ) → v < entries → get_or row v 0 ≡ entry_word (container_entry i root height entries v))
      → (v : ℕ) → placed i (container_entry i root height entries v) ≡ spelled i (get_or row v 0)
  unfolding container_entry
  row_told root height entries row size words v = ⊎_elim
      (λ (inside : v < entries). sym (ap (spelled i) (words v inside) ∙ word_told i (container_entry i root height entries v) (entry_low root height entries v)))
      (λ (past : entries ≤ v).
      let test : nat_lt v entries ≡ false = grind (arith, nat_tests, past) in
      ap (λ (b : Bool). placed i (if b then entry_in (lying leaf_at i (node_below i root height (v / fan))) (v % fan) else (0, 0))) test
      ∙ sym (ap (spelled i) (get_or_past row v 0 (omega (arith, size, past)))))
      (cases_lt v entries)
