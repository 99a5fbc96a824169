-- A test of the blocks that a volume has beside what its roots reach, as a test of each root's map blocks.
use Rattle.std.proofs.Common.{◌≡◌, ℕ, Bool, List, [], ◌∷◌, refl, ◌∙◌}
use Rattle.std.specs.Prelude.{◌&&◌, flat_map, map}
use Rattle.std.specs.List.{list_all, range_with_len}
use Rattle.std.proofs.lemmas.List.Folds.{list_all-append, list_all-map}
use Rattle.fv_model.specs.Space.{map_blocks}
use Rattle.fv_image.specs.Views.{Rooted, Head, map_kind, map_vvbn}
use Rattle.fv_image.specs.Seen.{own_blocks, roots_of}

own_from : (test : ℕ × ℕ → Bool) (span : ℕ) (rs : List (ℕ × Rooted))
    → list_all test (flat_map (λ (r : ℕ × Rooted). map (λ k. (map_vvbn span r.0 k, map_kind)) (range_with_len 0 (map_blocks span))) rs)
    ≡ list_all (λ (r : ℕ × Rooted). list_all (λ k. test (map_vvbn span r.0 k, map_kind)) (range_with_len 0 (map_blocks span))) rs
own_from test span [] = refl
own_from test span (r ∷ rs) =
    list_all-append test (map (λ k. (map_vvbn span r.0 k, map_kind)) (range_with_len 0 (map_blocks span)))
    (flat_map (λ (r : ℕ × Rooted). map (λ k. (map_vvbn span r.0 k, map_kind)) (range_with_len 0 (map_blocks span))) rs)
    ∙ (λ i. list_all-map test (λ k. (map_vvbn span r.0 k, map_kind)) (range_with_len 0 (map_blocks span)) i && own_from test span rs i)

pub own_tests : (test : ℕ × ℕ → Bool) (version : ℕ) (h : Head)
    → list_all test (own_blocks version h) ≡ list_all (λ (r : ℕ × Rooted). list_all (λ k. test (map_vvbn h.span r.0 k, map_kind)) (range_with_len 0 (map_blocks h.span))) (roots_of h)
own_tests test version h = own_from test h.span (roots_of h)
