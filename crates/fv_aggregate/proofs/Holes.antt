-- Where no consistency point runs no entry of a volume becomes a hole: each stays, or leads to a block that the last root doesn't hold.
use Rattle.std.proofs.Common.{◌≡◌, ◌≢◌, ◌≤◌, ◌<◌, ◌+◌, ◌⊎◌, ℕ, Bool, true, false, Option, None, inl, inr, true≢false, sym, ap, subst, ◌∙◌, arith, get_or-set_other}
use Rattle.std.specs.Prelude.{IsSome, nat_le}
use Rattle.std.proofs.lemmas.Bool.Decides.{nat_tests}
use Rattle.fv_aggmap.specs.Space.{Space}
use Rattle.fv_container.specs.Chains.{Slots, container_at, map_in, own_entry}
use Rattle.fv_container.specs.Mapped.{Mapped}
use Rattle.fv_pool.specs.declared.pool.Pool.{Pool}
use Rattle.fv_volume.specs.declared.state.VolumeState.{VolumeState}
use Rattle.fv_pool.specs.BlocksOver.{LeavesPool}
use Rattle.fv_volume.specs.States.{state_at}
use Rattle.fv_cp.specs.Placing.{PlacesEntries}
use Rattle.fv_aggregate.specs.declared.session.Session.{Session}
use Rattle.fv_aggregate.specs.Adding.{IsAdded}
use Rattle.fv_aggregate.specs.Calls.{KeepsEntries, MakesNoHoles}

-- the containers are as they were
pub kept_entries : (old new : Session) → new.pool.containers ≡ old.pool.containers → KeepsEntries old new
kept_entries old new same s v = inl (ap (λ (c : Slots). own_entry (container_at c s) v) same)

-- blocks were read first
pub read_entries : (old mid new : Session) → LeavesPool old.pool mid.pool → KeepsEntries mid new → KeepsEntries old new
read_entries old mid new leaves keeps =
    subst (λ (m : Space). PlacesEntries m old.pool.containers new.pool.containers) leaves.map (subst (λ (c : Slots). PlacesEntries mid.pool.map c new.pool.containers) leaves.containers keeps)

-- a volume was added in a free slot
pub added_entries : (old : Session) (x : VolumeState) (room : ℕ) (new : Session) → IsAdded old x room new → MakesNoHoles old new
added_entries old x room new added s there v = inl (ap (λ (c : Option Mapped). own_entry c v) (ap (λ (p : Pool). container_at p.containers s) added.put.holes ∙ ap map_in (get_or-set_other old.pool.containers.containers x.slot s _ None differ)))
  where
    none : (o : Option VolumeState) → o ≡ None → IsSome o → ⊥
    none o is some = true≢false (sym (subst IsSome is some))

    differ : s ≢ x.slot
    differ e = none (state_at old.volumes x.slot) added.put.free (subst (λ (n : ℕ). IsSome (state_at old.volumes n)) e there)

-- so it is of each volume
pub no_holes : (old new : Session) → KeepsEntries old new → MakesNoHoles old new
no_holes old new keeps s there v = keeps s v

-- a room that doesn't fit passes the dirty limit
pub passes_limit : (pending room : ℕ) (fits : Bool) → fits ≡ nat_le (pending + room) 256 → fits ≡ false → 256 < pending + room
passes_limit pending room fits is none = let full : nat_le (pending + room) 256 ≡ false = sym is ∙ none in grind (arith, nat_tests, full)

-- and it does
pub keeps_limit : (pending room : ℕ) (fits : Bool) → fits ≡ nat_le (pending + room) 256 → fits ≡ true → pending + room ≤ 256
keeps_limit pending room fits is some = let within : nat_le (pending + room) 256 ≡ true = sym is ∙ some in grind (arith, nat_tests, within)

-- no room had to be made where room had to be made
pub never_within : {X : Type 0} (room pending : ℕ) → (room ≡ 0 → ⊥) → 256 < pending + room → (room ≡ 0) ⊎ (pending + room ≤ 256) → X
never_within room pending some past (inl nothing) = absurd (some nothing)
never_within room pending some past (inr low) = absurd (omega (arith, low, past))
