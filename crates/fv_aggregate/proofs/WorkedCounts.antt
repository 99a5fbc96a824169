-- What a block that moves leaves of the map of the next root's blocks: the root on the disk holds what it held, and at most one block
-- fewer is free.
use Rattle.std.proofs.Common.{◌≡◌, ◌≢◌, ◌≤◌, ◌<◌, ◌+◌, ◌-◌, ℕ, zero, suc, Bool, true, false, cond, not, List, ◌∷◌, [], length, Option, Some, None, refl, ap, ◌∙◌, ⊎_elim, arith, get_or-set_other}
use Rattle.std.specs.Prelude.{◌||◌, slice_set, sum_by}
use Rattle.std.specs.List.{range_with_len}
use Rattle.std.proofs.lemmas.Bool.{cases_eq}
use Rattle.std.proofs.lemmas.List.Sums.{sum_by-cons}
use Rattle.fv_bits.specs.Members.{is_member}
use Rattle.fv_model.specs.Machines.{first_block}
use Rattle.fv_aggmap.specs.Space.{Space, blocks_of, free_blocks, free_from, is_held}
use Rattle.fv_container.specs.declared.entry.Entry.{Entry}
use Rattle.fv_pool.specs.BlocksOver.{given_back}
use Rattle.fv_pool.specs.Moving.{TakesPlace}

-- ---- sums over numbers

module _ (f g : ℕ → ℕ) (v : ℕ) (less : (w : ℕ) → w ≢ v → f w ≤ g w) (one : f v ≤ 1) where
  past : (from count : ℕ) → v < from → sum_by f (range_with_len from count) ≤ sum_by g (range_with_len from count)
  past from zero low = omega arith
  past from (suc count) low =
      let left = sum_by-cons f from (range_with_len (from + 1) count) in
      let right = sum_by-cons g from (range_with_len (from + 1) count) in
      let first = less from (λ e. absurd (omega (arith, e, low))) in
      let rest = past (from + 1) count (omega (arith, low)) in
      omega (arith, left, right, first, rest)

  -- what is no less at each number but one falls by what is at that one at most
  pub one_fewer : (from count : ℕ) → sum_by f (range_with_len from count) ≤ sum_by g (range_with_len from count) + 1
  one_fewer from zero = omega arith
  one_fewer from (suc count) =
      let left = sum_by-cons f from (range_with_len (from + 1) count) in
      let right = sum_by-cons g from (range_with_len (from + 1) count) in
      ⊎_elim
      (λ (e : from ≡ v). let rest = past (from + 1) count (omega (arith, e)) in
      let was : f from ≡ f v = ap f e in omega (arith, left, right, rest, was, one))
      (λ (ne : from ≢ v). let rest = one_fewer (from + 1) count in let first = less from ne in omega (arith, left, right, rest, first))
      (cases_eq from v)

-- ---- a block that moved

-- a number that was taken out isn't in the set
cleared_here : (xs : List Bool) (d : ℕ) → is_member (slice_set xs d false) d ≡ false
unfolding is_member
cleared_here [] zero = refl
cleared_here [] (suc d) = refl
cleared_here (b ∷ bs) zero = refl
cleared_here (b ∷ bs) (suc d) = cleared_here bs d

set_other : (xs : List Bool) (d w : ℕ) (b : Bool) → w ≢ d → is_member (slice_set xs d b) w ≡ is_member xs w
unfolding is_member
set_other xs d w b differ = get_or-set_other xs d w b false differ

module _ (old taken new : Space) (place : ℕ) (before : Option Entry)
    (takes : TakesPlace old place taken) (is : new ≡ given_back taken before) where
  pub committed_moved : new.committed ≡ old.committed
  committed_moved = ap (λ (s : Space). s.committed) is ∙ back before ∙ ap (λ (s : Space). s.committed) takes.taken
    where
      back : (o : Option Entry) → (given_back taken o).committed ≡ taken.committed
      back None = refl
      back (Some e) = refl

  -- no number comes in but the place
  out_moved : (w : ℕ) → w ≢ place → is_member old.next w ≡ false → is_member new.next w ≡ false
  out_moved w differ out = ap (λ (s : Space). is_member s.next w) is ∙ back before
    where
      still : is_member taken.next w ≡ false
      still = ap (λ (s : Space). is_member s.next w) takes.taken ∙ set_other old.next place w true differ ∙ out

      back : (o : Option Entry) → is_member (given_back taken o).next w ≡ false
      back None = still
      back (Some e) = ⊎_elim
          (λ (same : w ≡ e.pvbn). ap (is_member (slice_set taken.next e.pvbn false)) same ∙ cleared_here taken.next e.pvbn)
          (λ (apart : w ≢ e.pvbn). set_other taken.next e.pvbn w false apart ∙ still)
          (cases_eq w e.pvbn)

  abbrev free_at : List Bool → ℕ → ℕ
  free_at next w = cond {A = ℕ} (not (is_held old.committed next w)) 1 0

  less : (w : ℕ) → w ≢ place → free_at old.next w ≤ free_at new.next w
  less w differ = by (is_member old.committed w) (is_member old.next w) (is_member new.next w) (out_moved w differ)
    where
      by : (c b n : Bool) → (b ≡ false → n ≡ false) → cond {A = ℕ} (not (c || b)) 1 0 ≤ cond {A = ℕ} (not (c || n)) 1 0
      by true b n none = omega arith
      by false true n none = omega arith
      by false false true none = absurd (let e = none refl in cc)
      by false false false none = omega arith

  most : free_at old.next place ≤ 1
  most = by (not (is_held old.committed old.next place))
    where
      by : (b : Bool) → cond {A = ℕ} b 1 0 ≤ 1
      by true = omega arith
      by false = omega arith

  pub free_moved : free_blocks old ≤ free_blocks new + 1
  unfolding free_from
  free_moved =
      let first = first_block (blocks_of old) in
      let fewer : free_blocks old ≤ free_from old.committed new.next (first_block (blocks_of old)) + 1 =
      one_fewer (free_at old.next) (free_at new.next) place less most first (blocks_of old - first) in
      let same : free_blocks new ≡ free_from old.committed new.next (first_block (blocks_of old)) =
      ap (λ (c : List Bool). free_from c new.next (first_block (length c))) committed_moved in
      omega (arith, fewer, same)
