-- The roots of a label, record by record.
use Rattle.std.proofs.Common.{◌≡◌, ◌≢◌, ℕ, ◌+◌, ◌<◌, ◌≤◌, Bool, true, false, List, [], ◌∷◌, ◌++◌, length, get_or, take, refl, sym, ap, subst, ◌∙◌, arith}
use Rattle.std.specs.Prelude.{map, ◌==◌, if◌then◌else◌}
use Rattle.std.proofs.lemmas.Bool.Decides.{nat_tests}
use Rattle.std.proofs.lemmas.List.{take_all, append-nil, map-append}
use Rattle.fv_codec.specs.declared.label.SnapRecord.{SnapRecord}
use Rattle.fv_codec.specs.declared.label.Label.{Label}
use Rattle.fv_codec.specs.Fields.{up_to}
use Rattle.fv_codec.specs.Blocks.{IsSnapRecord, is_used}
use Rattle.fv_image.specs.Views.{Rooted, head_of, snaps_from}
use Rattle.fv_image.specs.Seen.{roots_of}
use Rattle.fv_first_pass.specs.Records.{free, snap_if, snap_in}
use Rattle.fv_first_pass.proofs.Snaps.{snaps_more}
use Rattle.fv_second_pass.specs.Reaching.{roots_if}
use Rattle.fv_second_pass.specs.Reaching as reaching
use Rattle.fv_walk.proofs.Lists.{all_more, none_holds}
use Rattle.fv_third_pass.specs.declared.roots.MapRoot.{MapRoot}
use Rattle.fv_third_pass.specs.Volumes.{AreFew, root_of}

-- the root of the active table, and those of the first so many records
unfoldable pub roots_to : Label → ℕ → List (ℕ × Rooted)
roots_to l n = (0, record { levels = l.levels; root = l.root }) ∷ map reaching.root_of (snaps_from 1 (take n l.snapshots))

pub roots_first : (l : Label) → roots_to l 0 ≡ (0, record { levels = l.levels; root = l.root }) ∷ []
unfolding snaps_from roots_to
roots_first l = refl

pub roots_more : (l : Label) (n : ℕ) → n < length l.snapshots → roots_to l (n + 1) ≡ roots_to l n ++ roots_if (n + 1) (get_or l.snapshots n free)
unfolding roots_to
roots_more l n low =
    ap (λ ps. (0, record { levels = l.levels; root = l.root }) ∷ map reaching.root_of ps) (snaps_more l.snapshots 1 n free low)
    ∙ ap (λ rs. (0, record { levels = l.levels; root = l.root }) ∷ rs) (map-append reaching.root_of (snaps_from 1 (take n l.snapshots)) (snap_if (1 + n) (get_or l.snapshots n free)))
    ∙ ap (λ k. (0, record { levels = l.levels; root = l.root }) ∷ map reaching.root_of (snaps_from 1 (take n l.snapshots)) ++ roots_if k (get_or l.snapshots n free)) (let e : 1 + n ≡ n + 1 = omega arith in e)

pub roots_all : (l : Label) (n : ℕ) → length l.snapshots ≤ n → roots_to l n ≡ roots_of (head_of l)
unfolding head_of roots_to
roots_all l n past = ap (λ rs. (0, record { levels = l.levels; root = l.root }) ∷ map reaching.root_of (snaps_from 1 rs)) (take_all n l.snapshots past)

-- ---- one record

pub free_root : (old : List MapRoot) (j : ℕ) (s : SnapRecord) → s.name_length ≡ 0 → map root_of old ≡ map root_of old ++ roots_if j s
free_root old j s none = sym (ap (λ n. map root_of old ++ map reaching.root_of (if n == 0 then [] else snap_in j s ∷ [])) none ∙ append-nil (map root_of old))

pub used_root : (old new : List MapRoot) (j : ℕ) (s : SnapRecord) (r : MapRoot) → s.name_length ≢ 0 → root_of r ≡ (j, record { levels = s.levels; root = s.root }) → new ≡ old ++ r ∷ [] → map root_of new ≡ map root_of old ++ roots_if j s
used_root old new j s r used is pushed =
    let test : (s.name_length == 0) ≡ false = grind (arith, nat_tests, used) in
    ap (map root_of) pushed ∙ map-append root_of old (r ∷ [])
    ∙ ap (λ q. map root_of old ++ q ∷ []) is
    ∙ ap (λ (b : Bool). map root_of old ++ map reaching.root_of (if b then [] else snap_in j s ∷ [])) (sym test)

pub few_more : (old new : List MapRoot) (r : MapRoot) → new ≡ old ++ r ∷ [] → r.table.levels ≤ 2 → AreFew old → AreFew new
few_more old new r pushed few are = subst AreFew (sym pushed) (all_more (λ (r : MapRoot). r.table.levels ≤ 2) old r are few)

pub few_none : (rs : List MapRoot) → rs ≡ [] → AreFew rs
few_none rs none = none_holds (λ (r : MapRoot). r.table.levels ≤ 2) rs none

pub few_levels : (s : SnapRecord) → IsSnapRecord s → s.levels ≤ 2
few_levels s is = so (is_used s.name_length) is.levels
  where
    so : (b : Bool) → s.levels ≤ up_to b 2 → s.levels ≤ 2
    so true low = low
    so false low = omega (arith, low)
