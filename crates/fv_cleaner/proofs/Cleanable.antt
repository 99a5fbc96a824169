-- A volume that may be cleaned can be: where a block is free, nothing stands in the way of a clean step. So a step on a volume that stands for
-- one of the machine tells damage only for want of a block.
use Rattle.std.proofs.Common.{◌≡◌, ◌≤◌, ℕ, zero, suc, Bool, true, false, List, [], ◌∷◌, map, Option, Some, inl, inr, refl, subst, arith}
use Rattle.std.specs.Prelude.{IfSome}
use Rattle.fv_disk.specs.Shown.{Shown as Disk}
use Rattle.fv_aggmap.specs.Space.{free_blocks}
use Rattle.fv_bits.specs.Members.{is_member}
use Rattle.fv_container.specs.Chains.{container_at}
use Rattle.fv_container.specs.Mapped.{Mapped}
use Rattle.fv_image.specs.HintRules.{is_unknown}
use Rattle.fv_image.specs.Views.{Placed}
use Rattle.fv_laws.proofs.Lists.{In, in_right}
use Rattle.fv_model.specs.Machines.{first_block}
use Rattle.fv_volmap.specs.Slots.{slot_at}
use Rattle.fv_pool.specs.declared.pool.Pool.{Pool}
use Rattle.fv_volume.specs.declared.state.Snap.{Snap}
use Rattle.fv_volume.specs.declared.state.VolumeState.{VolumeState}
use Rattle.fv_volume.specs.Held.{IsHeldIn}
use Rattle.fv_volume.specs.OneVolume.{base_table, blocks_in, uses_in}
use Rattle.fv_volume.specs.States.{States, state_at}
use Rattle.fv_volume.specs.Stored.{AreSpacedIn}
use Rattle.fv_volume.proofs.AllRoots.{active_root, roots}
use Rattle.fv_cleaner.specs.Searching.{CanFollow, LeadBelow, LeadsBelow, Lies, lies_in}
use Rattle.fv_cleaner.specs.Staying.{MayBeCleaned}
use Rattle.fv_cleaner.specs.Stepping.{CanClean, root_of_snap, roots_of}
use Rattle.fv_cleaner.proofs.Followed.{IsFollowed, root_leads, table_followed}
use Rattle.fv_cleaner.proofs.SlotTables.{root_over, root_stands, slot_lies}

-- the next root holds only blocks that can be allocated, so not block 0
spare_first : (blocks : ℕ) (next : List Bool) (state : ℕ → Option VolumeState) (container : ℕ → Option Mapped)
    → AreSpacedIn blocks next state container → is_member next 0 ≡ false
spare_first blocks next state container spaced = by (is_member next 0) refl
  where
    by : (b : Bool) → is_member next 0 ≡ b → b ≡ false
    by false e = refl
    by true e =
        let one = spaced.set 0 e in
        let low : first_block blocks ≤ 0 = (spaced.held one.0 0 one.1 one.2).1.0 in
        absurd (omega (arith, low))

-- what holds of each snapshot's root
of_snaps : (at : Lies) (snaps : List Snap) → ((q : Snap) → In q snaps → is_unknown q.table.root ≡ true → LeadsBelow at 8 q.table.root.vvbn)
    → LeadBelow at 8 (map root_of_snap snaps)
of_snaps at [] each i inside unknown = absurd (omega (arith, inside))
of_snaps at (q ∷ qs) each zero inside unknown = each q (inl refl) unknown
of_snaps at (q ∷ qs) each (suc i) inside unknown = of_snaps at qs (λ p one. each p (inr one)) i (omega (arith, inside)) unknown

-- That volumes are spaced says that no entry leads to block 0, which a look-up would take for no place.
module _ (disk : Disk) (pool : Pool) (states : States) (slot : ℕ) (x : VolumeState) (may : MayBeCleaned disk pool states slot x)
    (spaced : AreSpacedIn pool.found.blocks pool.map.next (state_at states) (container_at pool.containers)) where
  held : IsHeldIn disk pool slot x
  held = subst (λ (o : Option VolumeState). IfSome o (IsHeldIn disk pool slot)) may.there (may.each slot)

  abbrev at : Lies
  at = lies_in x.map pool x.slot disk.reads

  spare : is_member pool.map.next 0 ≡ false
  spare = spare_first pool.found.blocks pool.map.next (state_at states) (container_at pool.containers) spaced

  followed : (v : ℕ) (z : Placed) → at v ≡ Some z → IsFollowed at z
  followed v z lie =
      let over = root_over disk pool slot x held may.files v z lie in
      let k = over.root.slot in
      table_followed at (blocks_in disk pool x k) (uses_in pool x k) (slot_lies disk pool slot x held may.files spare k)
      x.known (slot_at x.map k) x.now over.root.table (root_stands disk pool slot x held may.files over.root over.one) v z lie over.member

  -- its unknown pointers can be followed,
  pub can_follow : CanFollow at
  can_follow = record { shaped = λ v z lie. (followed v z lie).shaped; below = λ v z lie. (followed v z lie).below }

  root_below : (q : Snap) → In q (roots x) → is_unknown q.table.root ≡ true → LeadsBelow at 8 q.table.root.vvbn
  root_below q one =
      root_leads at (blocks_in disk pool x q.slot) (uses_in pool x q.slot) (slot_lies disk pool slot x held may.files spare q.slot)
      x.known (slot_at x.map q.slot) x.now q.table (root_stands disk pool slot x held may.files q one)

  -- from the roots too.
  pub roots_lead : LeadBelow at 8 (roots_of x)
  roots_lead zero inside unknown = root_below (active_root x) (inl refl) unknown
  roots_lead (suc i) inside unknown =
      of_snaps at x.snapshots (λ q one. root_below q (inr (in_right q (base_table x.base) x.snapshots one))) i (omega (arith, inside)) unknown

  -- So it can be cleaned.
  pub can_clean : 1 ≤ free_blocks pool.map → CanClean disk pool x
  can_clean free = record { told = (held.stands.told.0, held.stands.told.2); follow = can_follow; roots = roots_lead; free = free }
