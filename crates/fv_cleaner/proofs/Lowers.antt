-- A clean step makes less of what is left to do: by the unknown pointers that the block had, or by those of the label.
use Rattle.std.proofs.Common.{◌≡◌, ◌≢◌, ℕ, zero, suc, ◌+◌, ◌<◌, ◌≤◌, Bool, true, false, cond, List, [], ◌∷◌, map, Option, Some, None, refl, sym, ap, ap₂, ◌∙◌, arith, ⊎_elim, inl, inr, get_or}
use Rattle.std.specs.Prelude.{All, not, ◌&&◌, ◌||◌, ◌⊎◌, count_by, sum_by, ◌==◌, if◌then◌else◌}
use Rattle.std.specs.List.{list_any, range_with_len}
use Rattle.std.proofs.lemmas.Bool.{cases_eq}
use Rattle.std.proofs.lemmas.Bool.Decides.{nat_tests}
use Rattle.std.proofs.lemmas.List.Elements.{All-head, All-tail}
use Rattle.std.proofs.lemmas.List.Sums.{sum_by-cons}
use Rattle.std.proofs.lemmas.Option.{same_Some}
use Rattle.fv_disk.specs.Shown.{Shown as Disk}
use Rattle.fv_codec.specs.declared.pointer.Pointer.{Pointer}
use Rattle.fv_container.specs.declared.entry.Entry.{Entry}
use Rattle.fv_container.specs.Chains.{TellsEntries}
use Rattle.fv_image.specs.Views.{Placed}
use Rattle.fv_image.specs.HintRules.{is_unknown}
use Rattle.fv_pool.specs.declared.pool.Pool.{Pool}
use Rattle.fv_pool.specs.BlocksOver.{AreApart, block_of, held_entry}
use Rattle.fv_pool.specs.Keeping.{seen}
use Rattle.fv_pool.specs.Moving.{HoldsMoved}
use Rattle.fv_pool.proofs.Moved.{holds_moved}
use Rattle.fv_volume.specs.declared.state.Snap.{Snap}
use Rattle.fv_volume.specs.declared.state.VolumeState.{VolumeState}
use Rattle.fv_volume.specs.Placements.{put_at, snap_at}
use Rattle.fv_places.specs.ByKind.{form_of, pointers_by}
use Rattle.fv_cleaner.specs.Left.{left_in, unknown_among, unknown_inside, unknown_under}
use Rattle.fv_cleaner.specs.Searching.{Lies, lies_in, placed_by, pointers_of}
use Rattle.fv_cleaner.specs.Stepping.{CleansBlock, CleansRoots, CleansVolume, FillsRoots, IsPlaceOf, root_of_snap, roots_of}

-- ---- counts

counted : {X : Type 0} (p : X → Bool) (x : X) (xs : List X) → count_by p (x ∷ xs) ≡ cond {A = ℕ} (p x) 1 0 + count_by p xs
counted p x xs = sum_by-cons (λ z. cond {A = ℕ} (p z) 1 0) x xs

-- where none passes the count is 0, and where some does it isn't
pub none_counted : {X : Type 0} (p : X → Bool) (xs : List X) → list_any p xs ≡ false → count_by p xs ≡ 0
none_counted p [] none = refl
none_counted p (x ∷ xs) none = by (p x) refl none (none_counted p xs)
  where
    by : (b : Bool) → p x ≡ b → (b || list_any p xs) ≡ false → (list_any p xs ≡ false → count_by p xs ≡ 0) → count_by p (x ∷ xs) ≡ 0
    by true e none rest = absurd cc
    by false e none rest = counted p x xs ∙ ap₂ (λ (c : Bool) (n : ℕ). cond {A = ℕ} c 1 0 + n) e (rest none)

pub some_counted : {X : Type 0} (p : X → Bool) (xs : List X) → list_any p xs ≡ true → 1 ≤ count_by p xs
some_counted p [] some = absurd cc
some_counted p (x ∷ xs) some = by (p x) refl some (some_counted p xs)
  where
    by : (b : Bool) → p x ≡ b → (b || list_any p xs) ≡ true → (list_any p xs ≡ true → 1 ≤ count_by p xs) → 1 ≤ count_by p (x ∷ xs)
    by true e some rest = let all = counted p x xs in let one : cond {A = ℕ} (p x) 1 0 ≡ 1 = ap (λ (b : Bool). cond {A = ℕ} b 1 0) e in omega (arith, all, one)
    by false e some rest = let all = counted p x xs in let more = rest some in omega (arith, all, more)

-- ---- sums over numbers

-- what agrees past a number has the same sum past it
sum_past : (f g : ℕ → ℕ) (v from count : ℕ) → v < from → ((w : ℕ) → w ≢ v → g w ≡ f w) → sum_by g (range_with_len from count) ≡ sum_by f (range_with_len from count)
sum_past f g v from zero low same = refl
sum_past f g v from (suc count) low same =
    sum_by-cons g from (range_with_len (from + 1) count)
    ∙ ap₂ (λ (m n : ℕ). m + n) (same from (λ e. absurd (omega (arith, e, low)))) (sum_past f g v (from + 1) count (omega (arith, low)) same)
    ∙ sym (sum_by-cons f from (range_with_len (from + 1) count))

-- A sum falls by what it falls at one number, where all else agrees.
pub sum_falls : (f g : ℕ → ℕ) (v from count : ℕ) → from ≤ v → v < from + count → ((w : ℕ) → w ≢ v → g w ≡ f w) → g v ≡ 0
    → sum_by g (range_with_len from count) + f v ≡ sum_by f (range_with_len from count)
sum_falls f g v from zero low high same none = absurd (omega (arith, low, high))
sum_falls f g v from (suc count) low high same none =
    let left = sum_by-cons g from (range_with_len (from + 1) count) in
    let right = sum_by-cons f from (range_with_len (from + 1) count) in ⊎_elim
    (λ (e : from ≡ v).
    let rest = sum_past f g v (from + 1) count (omega (arith, e)) same in
    let was : f from ≡ f v = ap f e in
    let now : g from ≡ 0 = ap g e ∙ none in
    omega (arith, left, right, rest, was, now))
    (λ (ne : from ≢ v).
    let rest = sum_falls f g v (from + 1) count (omega (arith, low, ne)) (omega (arith, high)) same none in
    let one = same from ne in
    omega (arith, left, right, rest, one))
    (cases_eq from v)

-- ---- a block

module _ (disk : Disk) (pool : Pool) (x : VolumeState) (left : Pool) (y : VolumeState) (cleans : CleansBlock disk pool x left y) (told : TellsEntries disk pool.containers) (apart : AreApart pool x.map x.slot) where
  abbrev at : Lies
  at = lies_in x.map pool x.slot disk.reads

  abbrev now : Lies
  now = lies_in x.map left x.slot disk.reads

  abbrev was : Placed
  was = record { pvbn = (cleans.next told).0; kind = cleans.kind; block = cleans.was }

  abbrev is : Placed
  is = record { pvbn = cleans.moves.place; kind = cleans.kind; block = cleans.block }

  pub moved : HoldsMoved disk pool x.map x.slot cleans.vvbn cleans.kind cleans.block left cleans.moves.place
  moved = holds_moved disk pool x.map x.slot cleans.vvbn cleans.kind cleans.block left cleans.moves cleans.low cleans.taken

  -- the block lay there,
  pub there : at cleans.vvbn ≡ Some was
  there = (cleans.next told).1.unclear.there

  -- lies elsewhere,
  pub here : now cleans.vvbn ≡ Some is
  here = by (held_entry x.map left.containers x.slot cleans.vvbn) moved.entry (moved.content disk.reads)
    where
      by : (o : Option Entry) → o ≡ Some (record { pvbn = cleans.moves.place; kind = cleans.kind }) → block_of left.kept disk.reads o ≡ Some cleans.block → placed_by left.kept disk.reads o ≡ Some is
      by None e b = absurd cc
      by (Some z) e b =
          let same : z ≡ record { pvbn = cleans.moves.place; kind = cleans.kind } = same_Some z _ e in
          let block : seen left.kept disk.reads z.pvbn ≡ cleans.block = same_Some _ cleans.block b in
          λ i. Some (record { pvbn = (same i).pvbn; kind = (same i).kind; block = block i })

  -- and the others lie where they lay.
  pub others : (w : ℕ) → w ≢ cleans.vvbn → now w ≡ at w
  others w other =
      ap (placed_by left.kept disk.reads) (moved.others w other) ∙ by (held_entry x.map pool.containers x.slot w)
      (sym (ap (block_of left.kept disk.reads) (moved.others w other)) ∙ moved.contents apart disk.reads w other)
    where
      by : (o : Option Entry) → block_of left.kept disk.reads o ≡ block_of pool.kept disk.reads o → placed_by left.kept disk.reads o ≡ placed_by pool.kept disk.reads o
      by None e = refl
      by (Some z) e = let same = same_Some (seen left.kept disk.reads z.pvbn) (seen pool.kept disk.reads z.pvbn) e in λ i. Some (record { pvbn = z.pvbn; kind = z.kind; block = same i })

  -- What is left falls by the unknown pointers that the block had.
  pub block_lowers : left_in disk.reads left y + unknown_among (pointers_by (form_of cleans.kind) cleans.was) ≡ left_in disk.reads pool x
  unfolding left_in
  block_lowers =
      let low = cleans.within in
      let none : unknown_inside (now cleans.vvbn) ≡ 0 = ap unknown_inside here ∙ none_counted is_unknown (pointers_of is) cleans.fills.known in
      let falls = sum_falls (λ v. unknown_inside (at v)) (λ v. unknown_inside (now v)) cleans.vvbn 0 x.map.span (omega arith) (omega (arith, low)) (λ w other. ap unknown_inside (others w other)) none in
      let fell : unknown_inside (at cleans.vvbn) ≡ unknown_among (pointers_by (form_of cleans.kind) cleans.was) = ap unknown_inside there in
      let state : unknown_among (roots_of y) + unknown_under (lies_in y.map left y.slot disk.reads) y.map.span ≡ unknown_among (roots_of x) + unknown_under now x.map.span =
      ap (λ (z : VolumeState). unknown_among (roots_of z) + unknown_under (lies_in z.map left z.slot disk.reads) z.map.span) cleans.state in
      omega (arith, falls, fell, state)

  -- and it had some.
  pub block_some : 1 ≤ unknown_among (pointers_by (form_of cleans.kind) cleans.was)
  block_some = some_counted is_unknown (pointers_of was) (cleans.next told).1.unclear.unknown

-- ---- the roots of the label

-- a pointer that gets its place is known
module _ (told : Type 0) (at : Lies) where
  pub root_known : (p : Pointer) (place : ℕ) → IsPlaceOf told at p place → is_unknown (put_at place p) ≡ false
  root_known p place is = by (place == 0) refl
    where
      by : (b : Bool) → (place == 0) ≡ b → is_unknown (if b then p else record { vvbn = p.vvbn; pvbn = place; stamp = p.stamp }) ≡ false
      by true e = ⊎_elim
          (λ (unknown : is_unknown p ≡ true). let none : place ≡ 0 = grind (arith, nat_tests) in absurd (is.some unknown none))
          (λ known. known)
          (either (is_unknown p))
        where
          either : (b : Bool) → (b ≡ true) ⊎ (b ≡ false)
          either true = inl refl
          either false = inr refl
      by false e = last (p.stamp == 0)
        where
          last : (b : Bool) → (not b && (place == 0)) ≡ false
          last true = refl
          last false = e

  -- so those of snapshots
  snaps_known : (places : List ℕ) (snaps : List Snap) → All (λ (q : Snap). IsPlaceOf told at q.table.root (get_or places q.slot 0)) snaps → list_any is_unknown (map root_of_snap (map (snap_at places) snaps)) ≡ false
  snaps_known places [] each = refl
  snaps_known places (q ∷ qs) each =
      let one = root_known q.table.root (get_or places q.slot 0) (All-head (λ (q : Snap). IsPlaceOf told at q.table.root (get_or places q.slot 0)) q qs each) in
      let rest = snaps_known places qs (All-tail (λ (q : Snap). IsPlaceOf told at q.table.root (get_or places q.slot 0)) q qs each) in
      λ i. one i || rest i

  -- and all of the label
  pub roots_known : (x y : VolumeState) → FillsRoots told at x y → list_any is_unknown (roots_of y) ≡ false
  roots_known x y fills =
      let first = root_known x.active.root (get_or fills.places 0 0) fills.are.active in
      let rest = snaps_known fills.places x.snapshots fills.are.snapshots in
      ap (λ (z : VolumeState). list_any is_unknown (roots_of z)) fills.state ∙ (λ i. first i || rest i)

-- What is left falls by the unknown pointers that the label had.
pub roots_lower : (disk : Disk) (pool : Pool) (x : VolumeState) (left : Pool) (y : VolumeState) → CleansRoots disk pool x left y true
    → left_in disk.reads left y + unknown_among (roots_of x) ≡ left_in disk.reads pool x
unfolding left_in
roots_lower disk pool x left y cleans =
    let none : unknown_among (roots_of y) ≡ 0 = none_counted is_unknown (roots_of y) (roots_known (TellsEntries disk pool.containers) (lies_in x.map pool x.slot disk.reads) x y cleans.roots) in
    let maps : unknown_under (lies_in y.map left y.slot disk.reads) y.map.span ≡ unknown_under (lies_in x.map left x.slot disk.reads) x.map.span =
    ap (λ (z : VolumeState). unknown_under (lies_in z.map left z.slot disk.reads) z.map.span) cleans.roots.state in
    let same : unknown_under (lies_in x.map left x.slot disk.reads) x.map.span ≡ unknown_under (lies_in x.map pool x.slot disk.reads) x.map.span =
    λ i. unknown_under (λ v. placed_by (cleans.leaves.kept i) disk.reads (held_entry x.map (cleans.leaves.containers i) x.slot v)) x.map.span in
    omega (arith, none, maps, same)

-- ---- a step

-- A step that was taken makes less of what is left to do.
pub lowers : (disk : Disk) (pool : Pool) (x : VolumeState) (left : Pool) (y : VolumeState) → TellsEntries disk pool.containers → AreApart pool x.map x.slot
    → CleansVolume disk pool x left y true → left_in disk.reads left y < left_in disk.reads pool x
lowers disk pool x left y told apart (inl block) =
    let falls = block_lowers disk pool x left y block told apart in
    let some = block_some disk pool x left y block told apart in omega (arith, falls, some)
lowers disk pool x left y told apart (inr roots) =
    let falls = roots_lower disk pool x left y roots in
    let some = some_counted is_unknown (roots_of x) roots.roots.unknown in omega (arith, falls, some)
