-- The places of a level's nodes, one by one.
use Rattle.std.proofs.Common.{◌≡◌, ◌≢◌, ℕ, ◌+◌, ◌/◌, ◌%◌, List, [], ◌∷◌, ◌++◌, get_or, sym, ap, subst, ◌∙◌, arith}
use Rattle.std.specs.Prelude.{Option}
use Rattle.std.proofs.lemmas.List.FromFn.{map-range_with_len_more}
use Rattle.fv_disk.specs.Shown.{Image}
use Rattle.fv_codec.specs.declared.container.ContainerInner.{ContainerInner}
use Rattle.fv_codec.specs.Blocks.{inner_at}
use Rattle.fv_image.specs.Containers.{fan, lying, child_in}
use Rattle.fv_third_pass.specs.declared.holders.Holders.{Holders}
use Rattle.fv_third_pass.specs.Tallied.{Tallies}
use Rattle.fv_third_pass.specs.Nodes.{over, level_below, at_places}

-- the node over the next one, unless that is the first below another node
pub next_over : (i : Image) (above : List ℕ) (n : ℕ) (parent : Option ContainerInner) → parent ≡ over i above n → (n + 1) % fan ≢ 0 → parent ≡ over i above (n + 1)
next_over i above n parent is inside =
    let turn : (n + 1) % 256 ≢ 0 = inside in
    let same : n / 256 ≡ (n + 1) / 256 = omega (arith, turn) in
    is ∙ ap (λ q. lying inner_at i (get_or above q 0)) same

pub level_more : (i : Image) (above : List ℕ) (n : ℕ) (parent : Option ContainerInner) (places : List ℕ) → parent ≡ over i above n → places ≡ level_below i above n
    → places ++ child_in parent (n % fan) ∷ [] ≡ level_below i above (n + 1)
level_more i above n parent places is so_far =
    ap (λ ps. ps ++ child_in parent (n % fan) ∷ []) so_far
    ∙ ap (λ o. level_below i above n ++ child_in o (n % fan) ∷ []) is
    ∙ sym (map-range_with_len_more (λ q. child_in (over i above q) (q % fan)) 0 n n (omega arith))

-- places that are those of a level
pub level_tallied : (list places level : List ℕ) (h : Holders) → places ≡ level → Tallies (list ++ at_places places) h → Tallies (list ++ at_places level) h
level_tallied list places level h is tallies = subst (λ ps. Tallies (list ++ at_places ps) h) is tallies
