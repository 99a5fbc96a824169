-- Tests of all that is listed: of ranges, parts, lists and the positions of a container's tree.
use Rattle.std.proofs.Common.{◌≡◌, ℕ, zero, suc, ◌+◌, ◌<◌, ◌≤◌, Bool, true, List, [], ◌∷◌, refl, ◌∙◌, arith, Result, Ok, Err}
use Rattle.std.specs.Prelude.{◌==◌, flat_map}
use Rattle.std.specs.List.{list_all, list_any, range_with_len}
use Rattle.std.specs.Option.{is_some}
use Rattle.std.proofs.lemmas.Bool.{and_from, or_left, or_right}
use Rattle.std.proofs.lemmas.Bool.Decides.{nat_tests}
use Rattle.std.proofs.lemmas.List.Folds.{list_all-append}
use Rattle.fv_codec.specs.declared.shape.Shape.{Shape}
use Rattle.fv_codec.specs.declared.label.Label.{Label}
use Rattle.fv_codec.specs.Fields.{Verdict, verdict_of, in_range, ◌then◌}
use Rattle.fv_codec.specs.Blocks.{leaf_at, inner_at}
use Rattle.fv_image.specs.Containers.{shaped, level_width, judged, leaf_for, inner_for, node_verdict}
use Rattle.fv_image.specs.Views.{entry_count}
use Rattle.fv_image.specs.Held.{at_positions}
use Rattle.fv_image.specs.BlockRules.{is_fine, has_node_shape}

-- ---- tests of all that is listed

-- a test that holds of each number of a range
pub all_between : (test : ℕ → Bool) (from count : ℕ) → ((k : ℕ) → from ≤ k → k < from + count → test k ≡ true) → list_all test (range_with_len from count) ≡ true
all_between test from zero each = refl
all_between test from (suc count) each = and_from (test from) _ (each from (omega arith) (omega arith)) (all_between test (from + 1) count (λ k low high. each k (omega arith) (omega arith)))

-- a test that holds of each part
pub all_parts : {X : Type 0} (test : X → Bool) (part : ℕ → List X) (from count : ℕ) → ((k : ℕ) → from ≤ k → k < from + count → list_all test (part k) ≡ true) → list_all test (flat_map part (range_with_len from count)) ≡ true
all_parts test part from zero each = refl
all_parts test part from (suc count) each =
    list_all-append test (part from) (flat_map part (range_with_len (from + 1) count))
    ∙ and_from (list_all test (part from)) _ (each from (omega arith) (omega arith)) (all_parts test part (from + 1) count (λ k low high. each k (omega arith) (omega arith)))

-- a test that holds of each number that is in a list
pub all_listed : (test : ℕ → Bool) (xs : List ℕ) → ((b : ℕ) → list_any (λ x. x == b) xs ≡ true → test b ≡ true) → list_all test xs ≡ true
all_listed test [] each = refl
all_listed test (x ∷ xs) each = and_from (test x) (list_all test xs) (each x (or_left (x == x) _ (grind (arith, nat_tests)))) (all_listed test xs (λ b there. each b (or_right (x == b) _ there)))

pub all_positions : (l : Label) (test : ℕ → ℕ → Bool) → ((level number : ℕ) → level ≤ l.height → number < level_width (entry_count l.span) level → test level number ≡ true) → list_all (λ good. good) (at_positions l (λ k n. test k n ∷ [])) ≡ true
unfolding at_positions
all_positions l test each =
    all_parts (λ (good : Bool). good) (λ level. flat_map (λ n. test level n ∷ []) (range_with_len 0 (level_width (entry_count l.span) level))) 0 (suc l.height) (λ level low high.
    all_parts (λ (good : Bool). good) (λ n. test level n ∷ []) 0 (level_width (entry_count l.span) level) (λ number least within.
    and_from (test level number) true (each level number (omega (arith, high)) (omega (arith, within))) refl))

-- ---- nodes

pub fine_from : (verdict : Verdict) → verdict ≡ Ok tt → is_fine verdict ≡ true
fine_from (Ok fine) e = refl
fine_from (Err fault) e = absurd cc

-- what is judged well has its shape
pub shape_of : {X : Type 0} (read : Result X Shape) (asks : X → Verdict) → verdict_of (judged read asks) ≡ Ok tt → is_some (shaped read) ≡ true
shape_of (Ok x) asks e = refl
shape_of (Err fault) asks e = absurd cc

-- a node of a position has the shape of its level
pub node_shape : (level number : ℕ) (block : List ℕ) → node_verdict level number block ≡ Ok tt → has_node_shape level block ≡ true
unfolding leaf_for inner_for
node_shape zero number block e = shape_of (leaf_at block) (λ l. in_range number number l.index) e
node_shape (suc level) number block e = shape_of (inner_at block) (λ n. in_range (suc level) (suc level) n.level then in_range number number n.place) e

-- ---- from the layout to its slots

pub ok_of : (r : Result Label Shape) → is_some (shaped r) ≡ true → (l : Label) × (r ≡ Ok l)
ok_of (Ok l) e = (l, refl)
ok_of (Err fault) e = absurd cc
