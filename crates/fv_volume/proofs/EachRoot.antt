-- The roots of a volume, the active one and those of its snapshots: what holds of each holds of all that its head names.
use Rattle.std.proofs.Common.{◌≡◌, ℕ, ◌==◌, Bool, true, false, List, [], ◌∷◌, Some, inl, inr, refl, subst, arith}
use Rattle.std.specs.Prelude.{All, find, if◌then◌else◌, map}
use Rattle.std.specs.Option.{option_map}
use Rattle.std.proofs.lemmas.Bool.Decides.{nat_tests}
use Rattle.std.proofs.lemmas.List.Elements.{All-cons, All-head, All-nil, All-tail}
use Rattle.fv_laws.proofs.Lists.{In}
use Rattle.fv_image.specs.Mapped.{root_at}
use Rattle.fv_image.specs.Seen.{roots_of}
use Rattle.fv_image.specs.Views.{Head, Rooted as Table, Snap}
use Rattle.fv_image.specs.Volumes.{snap_at}
use Rattle.fv_pool.specs.declared.rooted.Rooted.{Rooted}
use Rattle.fv_volume.specs.declared.state.Snap.{Snap as Kept}
use Rattle.fv_volume.specs.declared.state.VolumeState.{VolumeState}
use Rattle.fv_volume.specs.States.{head_in, rooted_as, snap_in}

-- ---- lists of snapshots

-- what holds of each snapshot of a list holds of all
pub all_among : (P : Kept → Type 0) (snaps : List Kept) → ((q : Kept) → In q snaps → P q) → All P snaps
all_among P [] each = All-nil P
all_among P (q ∷ qs) each = All-cons P q qs (each q (inl refl)) (all_among P qs (λ p there. each p (inr there)))

-- and what holds of all, of each
pub all_in : (P : Kept → Type 0) (snaps : List Kept) → All P snaps → (q : Kept) → In q snaps → P q
all_in P [] all q there = absurd there
all_in P (s ∷ ss) all q (inl e) = subst P e (All-head P s ss all)
all_in P (s ∷ ss) all q (inr there) = all_in P ss (All-tail P s ss all) q there

-- ---- roots

-- the root of a slot is one of the roots of its head
pub root_there : (h : Head) (k : ℕ) (r : Table) → root_at h k ≡ Some r → In {X = ℕ × Table} (k, r) (roots_of h)
unfolding snap_at
root_there h k r at = by (k == 0) refl at
  where
    some_same : (a b : Table) → Some a ≡ Some b → a ≡ b
    some_same a b e = cc

    found : (ps : List Snap) → option_map (λ (p : Snap). p.table) (find (λ p. p.slot == k) ps) ≡ Some r → In {X = ℕ × Table} (k, r) (map (λ (p : Snap). (p.slot, p.table)) ps)
    found [] e = absurd cc
    found (p ∷ ps) e = so (p.slot == k) refl e (λ later. found ps later)
      where
        so : (b : Bool) → (p.slot == k) ≡ b → option_map (λ (p : Snap). p.table) (if b then Some p else find (λ p. p.slot == k) ps) ≡ Some r
            → (option_map (λ (p : Snap). p.table) (find (λ p. p.slot == k) ps) ≡ Some r → In {X = ℕ × Table} (k, r) (map (λ (p : Snap). (p.slot, p.table)) ps))
            → In {X = ℕ × Table} (k, r) (map (λ (p : Snap). (p.slot, p.table)) (p ∷ ps))
        so true same e rest =
            let slot : p.slot ≡ k = grind (arith, nat_tests, same) in
            let table : p.table ≡ r = some_same p.table r e in
            inl (λ i. (slot i, table i))
        so false other e rest = inr (rest e)

    by : (b : Bool) → (k == 0) ≡ b → (if b then Some h.active else option_map (λ (p : Snap). p.table) (find (λ p. p.slot == k) h.snapshots)) ≡ Some r → In {X = ℕ × Table} (k, r) (roots_of h)
    by true is e =
        let slot : 0 ≡ k = grind (arith, nat_tests, is) in
        let table : h.active ≡ r = some_same h.active r e in
        inl (λ i. (slot i, table i))
    by false is e = inr (found h.snapshots e)

-- What holds of the active root and of that of each snapshot holds of each root.
module _ (x : VolumeState) (P : ℕ → Rooted → Type 0) (active : P 0 x.active) (kept : All (λ (q : Kept). P q.slot q.table) x.snapshots) where
  among : (k : ℕ) (r : Table) (snaps : List Kept) → All (λ (q : Kept). P q.slot q.table) snaps → In {X = ℕ × Table} (k, r) (map (λ (p : Snap). (p.slot, p.table)) (map snap_in snaps)) → P k (rooted_as r)
  among k r [] all there = absurd there
  among k r (q ∷ qs) all (inl e) = subst (λ (p : ℕ × Table). P p.0 (rooted_as p.1)) e (All-head (λ (q : Kept). P q.slot q.table) q qs all)
  among k r (q ∷ qs) all (inr there) = among k r qs (All-tail (λ (q : Kept). P q.slot q.table) q qs all) there

  pub each_root : (k : ℕ) (r : Table) → In {X = ℕ × Table} (k, r) (roots_of (head_in x)) → P k (rooted_as r)
  each_root k r (inl e) = subst (λ (p : ℕ × Table). P p.0 (rooted_as p.1)) e active
  each_root k r (inr there) = among k r x.snapshots kept there
