-- What a rule that looks at each pointer asks of a volume, root by root: a test of all that the root reaches.
use Rattle.std.proofs.Common.{◌≡◌, ℕ, Bool, true, map, sym, ◌∙◌}
use Rattle.std.specs.List.{list_all}
use Rattle.std.proofs.lemmas.List.Folds.{list_all-map}
use Rattle.fv_laws.proofs.Lists.{In, in_map}
use Rattle.fv_laws.proofs.Tests.{from_all}
use Rattle.fv_tables.specs.Reached.{items}
use Rattle.fv_image.specs.Views.{Rooted, Head, View}
use Rattle.fv_image.specs.Volumes.{standing_of}
use Rattle.fv_image.specs.Seen.{Reached, Root, reached_at, root_seen, roots_of, volume_seen}
use Rattle.fv_places.specs.OneVolume.{of_reached}

pub all_asked : (w : View) (s : ℕ) (h : Head) (test : Root → Reached → Bool) → of_reached test (volume_seen w s h) ≡ true
    → (m : ℕ) (r : Rooted) → In {X = ℕ × Rooted} (m, r) (roots_of h)
    → list_all (λ e. test (root_seen w s m r) (reached_at w s e)) (items (standing_of w s r)) ≡ true
unfolding volume_seen root_seen
all_asked w s h test all m r there =
    sym (list_all-map (test (root_seen w s m r)) (reached_at w s) (items (standing_of w s r)))
    ∙ from_all (λ (z : Root). list_all (test z) z.reached) (map (λ (r : ℕ × Rooted). root_seen w s r.0 r.1) (roots_of h)) all
    (root_seen w s m r)
    (in_map (λ (r : ℕ × Rooted). root_seen w s r.0 r.1) (m, r) (roots_of h) there)
