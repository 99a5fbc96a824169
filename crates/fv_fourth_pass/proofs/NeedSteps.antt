-- How the counts of reserves are raised by one pointer.
use Rattle.std.proofs.Common.{◌≡◌, ◌≢◌, ℕ, suc, ◌+◌, ◌-◌, ◌*◌, ◌/◌, ◌%◌, ◌^◌, ◌<◌, List, [], ◌∷◌, refl, sym, ap, subst, ◌∙◌, arith}
use Rattle.std.specs.Prelude.{min, sum_by}
use Rattle.std.specs.List.{range_with_len}
use Rattle.std.specs.Int.{div_ceil}
use Rattle.std.proofs.Math.Nat.{add-mul-div_right, div-div-eq-div-mul, pow-suc}
use Rattle.std.proofs.lemmas.List.Sums.{sum_by-cons}
use Rattle.fv_codec.specs.declared.inode.InodeRecord.{InodeRecord}
use Rattle.fv_codec.specs.declared.inode.InodeBlock.{InodeBlock}
use Rattle.fv_model.specs.Trees.{fan}
use Rattle.fv_walk.specs.declared.below.Below.{Below}
use Rattle.fv_walk.specs.declared.below.Below.TheVariants.{Nothing, Node, Inodes}
use Rattle.fv_walk.specs.Sights.{Sight}
use Rattle.fv_fourth_pass.specs.declared.needs.NeedTally.{NeedTally}
use Rattle.fv_fourth_pass.specs.Needed.{files_after, files_along, is_standing, one_if, ranges, ranges_at, reserved_in, standing_along}
use Rattle.fv_fourth_pass.specs.Needing.{IsRaised, Needs}
use Rattle.fv_fourth_pass.proofs.Reserved.{wide}
use Rattle.fv_fourth_pass.proofs.TreeSums.{sum_more}

-- a level more
pub ranges_next : (r k : ℕ) → k ≢ 0 → div_ceil (ranges_at r (k - 1)) 128 ≡ ranges_at r k
ranges_next r k some =
    let low : 0 < fan ^ (k - 1) = wide (k - 1) in
    let q : ℕ = ranges_at r (k - 1) in
    let up : q / 128 + min 1 (q % 128) ≡ (q + 127) / 128 = rounded q in
    let more : (r + fan ^ (k - 1) - 1 + 127 * fan ^ (k - 1)) / fan ^ (k - 1) ≡ q + 127 = add-mul-div_right (r + fan ^ (k - 1) - 1) 127 low in
    let all : r + fan ^ (k - 1) - 1 + 127 * fan ^ (k - 1) ≡ r + fan ^ (k - 1) * 128 - 1 = omega (arith, low) in
    let next : suc (k - 1) ≡ k = omega (arith, some) in
    let power : fan ^ (k - 1) * 128 ≡ fan ^ k = sym (pow-suc fan (k - 1)) ∙ ap (λ n. fan ^ n) next in
    up
    ∙ ap (λ n. n / 128) (sym more)
    ∙ div-div-eq-div-mul (r + fan ^ (k - 1) - 1 + 127 * fan ^ (k - 1)) (fan ^ (k - 1)) 128
    ∙ ap (λ n. n / (fan ^ (k - 1) * 128)) all
    ∙ ap (λ n. (r + n - 1) / n) power
  where
    rounded : (q : ℕ) → q / 128 + min 1 (q % 128) ≡ (q + 127) / 128
    rounded q = omega arith

pub ranges_none : (r : ℕ) → r ≡ ranges_at r 0
ranges_none r = let e : r ≡ (r + 1 - 1) / 1 = omega arith in e

-- and the next of a sum
pub ranges_more : (r level count one : ℕ) → count ≡ sum_by (ranges_at r) (range_with_len 0 level) → one ≡ ranges_at r level → count + one ≡ sum_by (ranges_at r) (range_with_len 0 (level + 1))
ranges_more r level count one so_far is =
    let more = sum_more (ranges_at r) 0 level in
    let last : ranges_at r (0 + level) ≡ ranges_at r level = ap (ranges_at r) (let e : 0 + level ≡ level = omega arith in e) in
    omega (arith, more, last, so_far, is)

pub ranges_all : (r levels level count : ℕ) → count ≡ sum_by (ranges_at r) (range_with_len 0 level) → level ≡ levels + 1 → count ≡ ranges r levels
unfolding ranges
ranges_all r levels level count so_far end = so_far ∙ ap (λ n. sum_by (ranges_at r) (range_with_len 0 n)) end

-- records stay where no inode block is shown
pub files_stay : (fs : List InodeRecord) (below : Below) → ((b : InodeBlock) → below ≡ Inodes b → ⊥) → fs ≡ files_after fs below
files_stay fs Nothing other = refl
files_stay fs (Node n) other = refl
files_stay fs (Inodes b) other = absurd (other b refl)

pub needs_one : (old new : NeedTally) (s : Sight) → new.shared ≡ old.shared → new.top ≡ old.top → new.files ≡ files_after old.files s.below
    → IsRaised old.reserved (reserved_in old.shared old.top s) new.reserved → IsRaised old.standing (one_if (is_standing old.shared old.files s.visit)) new.standing → Needs old (s ∷ []) new
unfolding files_along standing_along
needs_one old new s shared top files reserved standing = record {
  shared = shared;
  top = top;
  files = files;
  reserved = subst (λ n. IsRaised old.reserved n new.reserved) (sym (sum_by-cons (reserved_in old.shared old.top) s [] ∙ none (reserved_in old.shared old.top s))) reserved;
  standing = subst (λ n. IsRaised old.standing n new.standing) (sym (none (one_if (is_standing old.shared old.files s.visit)))) standing;
}
  where
    none : (n : ℕ) → n + 0 ≡ n
    none n = omega arith
