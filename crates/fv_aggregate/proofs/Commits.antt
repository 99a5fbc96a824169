-- What all volumes commit together: after a point, and where one volume changed.
use Rattle.std.proofs.Common.{◌≡◌, ◌+◌, ◌-◌, ◌^◌, ◌≤◌, ℕ, suc, [], ◌∷◌, length, Option, Some, None, sum_by, refl, sym, ap, subst, ◌∙◌, arith}
use Rattle.std.specs.Prelude.{IfSome}
use Rattle.std.specs.Option.{option_map}
use Rattle.std.proofs.lemmas.List.Sums.{sum_by-cons}
use Rattle.fv_disk.specs.Shown.{Shown}
use Rattle.fv_charge.specs.Ledgers.{committed}
use Rattle.fv_pool.specs.declared.pool.Pool.{Pool}
use Rattle.fv_volume.specs.declared.state.VolumeState.{VolumeState}
use Rattle.fv_volume.specs.Files.{IsLabelled}
use Rattle.fv_volume.specs.OneVolume.{IsBooked}
use Rattle.fv_volume.specs.Slots.{committed_by, sum_of}
use Rattle.fv_volume.specs.States.{States, state_at, with_state}
use Rattle.fv_volume.proofs.Committed.{commits_most as sum_most, sum_with}
use Rattle.fv_cp.specs.Placing.{AreReady, IsReadyIn, KeepCores, core_of}
use Rattle.fv_aggregate.proofs.Replaced.{same_sum, within}

-- a sum over slots by what is at each, whatever free slots there are at the end
pub same_sums : (f : Option VolumeState → ℕ) → f None ≡ 0 → (xs ys : States) → ((k : ℕ) → f (state_at ys k) ≡ f (state_at xs k)) → sum_by f ys ≡ sum_by f xs
same_sums f none [] [] same = refl
same_sums f none [] (y ∷ ys) same = let first : f y ≡ 0 = same 0 ∙ none in let rest = same_sums f none [] ys (λ k. same (suc k)) in omega (arith, first, rest, sum_by-cons f y ys)
same_sums f none (x ∷ xs) [] same = let first : 0 ≡ f x = sym none ∙ same 0 in let rest = same_sums f none xs [] (λ k. same (suc k)) in omega (arith, first, rest, sum_by-cons f x xs)
same_sums f none (x ∷ xs) (y ∷ ys) same = let first : f y ≡ f x = same 0 in let rest = same_sums f none xs ys (λ k. same (suc k)) in omega (arith, first, rest, sum_by-cons f x xs, sum_by-cons f y ys)

-- ---- where the cores stay

module _ (states stay : States) (cores : KeepCores states stay) where
  -- each volume commits what it did
  pub commits_still : (s : ℕ) → committed_by (state_at stay s) ≡ committed_by (state_at states s)
  commits_still s = sym (by (state_at stay s)) ∙ ap committed_by (cores s) ∙ by (state_at states s)
    where
      by : (o : Option VolumeState) → committed_by (option_map core_of o) ≡ committed_by o
      by None = refl
      by (Some x) = refl

  -- and all together
  pub commits_kept : sum_of stay ≡ sum_of states
  commits_kept = same_sums committed_by refl states stay commits_still

-- ---- where one volume changed

module _ (states : States) (long : length states ≡ 64) (slot : ℕ) (x y : VolumeState) (there : state_at states slot ≡ Some x) where
  -- the others and what it commits now
  pub commits_with : (others : ℕ) → others ≡ sum_of states - committed_by (state_at states slot) → others + committed y.ledger ≡ sum_of (with_state states slot (Some y))
  commits_with = sum_with states slot (within states long slot x y there) (Some y)

  -- one that commits what it did
  pub commits_same : committed y.ledger ≡ committed x.ledger → sum_of (with_state states slot (Some y)) ≡ sum_of states
  commits_same same = same_sum states long slot x y there committed_by same

-- ---- how much it is at most

-- Where calls can be made on each volume, all together commit no more than this.
pub commits_most : (disk : Shown) (pool : Pool) (states : States) → length states ≡ 64 → AreReady disk pool states → sum_of states ≤ 2 ^ 40
commits_most disk pool states long ready = sum_most states long (λ s. label (state_at states s) s (ready s)) (λ s. book (state_at states s) s (ready s))
  where
    label : (o : Option VolumeState) (s : ℕ) → IfSome o (IsReadyIn disk pool s) → IfSome o (IsLabelled s)
    label None s is = tt
    label (Some x) s is = subst (λ (n : ℕ). IsLabelled n x) is.slot is.ready.labelled

    book : (o : Option VolumeState) (s : ℕ) → IfSome o (IsReadyIn disk pool s) → IfSome o IsBooked
    book None s is = tt
    book (Some x) s is = is.ready.booked
