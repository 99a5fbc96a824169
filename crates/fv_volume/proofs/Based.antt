-- A slot of a volume that stands on a snapshot of another: its blocks are those of the snapshot's slot, read through the other.
use Rattle.std.proofs.Common.{◌≡◌, ℕ, Bool, true, false, ◌&&◌, cond, Option, Some, None, refl, sym, ap, subst, ◌∙◌}
use Rattle.std.specs.Prelude.{nat_le}
use Rattle.fv_disk.specs.Shown.{Shown as Disk}
use Rattle.fv_tables.specs.Spelled.{Under}
use Rattle.fv_tables.specs.Told.{standing_at, table_told}
use Rattle.fv_tree.specs.Sources.{Use}
use Rattle.fv_files.specs.Tables.{AreReached, IsStoredUnder}
use Rattle.fv_container.specs.declared.entry.Entry.{Entry}
use Rattle.fv_container.specs.Chains.{along, chain_entry, or_else, parent_at}
use Rattle.fv_volmap.specs.Slots.{has, slot_at, taken_in}
use Rattle.fv_laws.specs.Positions.{HasNoReserve}
use Rattle.fv_laws.specs.WellFormed.{IsWellTable}
use Rattle.fv_tables.specs.Reached.{is_listed, items}
use Rattle.fv_pool.specs.declared.pool.Pool.{Pool}
use Rattle.fv_pool.specs.declared.rooted.Rooted.{Rooted}
use Rattle.fv_volume.specs.declared.state.VolumeState.{VolumeState}
use Rattle.fv_pool.specs.BlocksOver.{block_of, held_block, held_entry}
use Rattle.fv_pool.specs.Lending.{use_of}
use Rattle.fv_volume.specs.NewClone.{RestsOn}
use Rattle.fv_volume.specs.OneVolume.{blocks_in, uses_in, RootStands}
use Rattle.fv_pool.proofs.Holding.{has_taken}
use Rattle.fv_pool.proofs.OverBlocks.{less_known}

module _ (disk : Disk) (pool : Pool) (x : VolumeState) (k : ℕ) (y : VolumeState) (j : ℕ) (rests : RestsOn pool.containers x k y j) where
  chain_same : (v : ℕ) → has v (slot_at x.map k) ≡ true → chain_entry pool.containers x.slot v ≡ chain_entry pool.containers y.slot v
  unfolding along
  chain_same v member =
      ap (λ (o : Option Entry). or_else o (along pool.containers 63 (parent_at pool.containers x.slot) v)) (rests.holes v member)
      ∙ ap (λ (o : Option ℕ). along pool.containers 63 o v) rests.parent ∙ sym (rests.ends v)

  pub held_same : (v : ℕ) → has v (slot_at x.map k) ≡ true → held_entry x.map pool.containers x.slot v ≡ held_entry y.map pool.containers y.slot v
  unfolding held_entry
  held_same v member =
      let mine : taken_in x.map.slots v ≡ true = has_taken x.map.slots k v member in
      let its : taken_in y.map.slots v ≡ true = has_taken y.map.slots j v (sym (rests.same v) ∙ member) in
      λ i. cond (nat_le v 1048575 && (mine ∙ sym its) i) (chain_same v member i) None

  -- The blocks of the slot are those of the parent's slot,
  pub based_blocks : blocks_in disk pool x k ≡ blocks_in disk pool y j
  based_blocks = λ i v. (so v (has v (slot_at x.map k)) refl) i
    where
      so : (v : ℕ) (b : Bool) → has v (slot_at x.map k) ≡ b → blocks_in disk pool x k v ≡ blocks_in disk pool y j v
      so v true member =
          ap (λ (t : Bool). cond t (held_block x.map pool x.slot disk.reads v) None) member ∙ ap (block_of pool.kept disk.reads) (held_same v member)
          ∙ sym (ap (λ (t : Bool). cond t (held_block y.map pool y.slot disk.reads v) None) (sym (rests.same v) ∙ member))
      so v false free =
          ap (λ (t : Bool). cond t (held_block x.map pool x.slot disk.reads v) None) free
          ∙ sym (ap (λ (t : Bool). cond t (held_block y.map pool y.slot disk.reads v) None) (sym (rests.same v) ∙ free))

  -- what is in use there is the same,
  pub based_uses : uses_in pool x k ≡ uses_in pool y j
  based_uses = λ i v. (so v (has v (slot_at x.map k)) refl) i
    where
      so : (v : ℕ) (b : Bool) → has v (slot_at x.map k) ≡ b → uses_in pool x k v ≡ uses_in pool y j v
      so v true member =
          ap (λ (t : Bool). cond t (Some (use_of (held_entry x.map pool.containers x.slot v))) None) member ∙ ap (λ (o : Option Entry). Some (use_of o)) (held_same v member)
          ∙ sym (ap (λ (t : Bool). cond t (Some (use_of (held_entry y.map pool.containers y.slot v))) None) (sym (rests.same v) ∙ member))
      so v false free =
          ap (λ (t : Bool). cond t (Some (use_of (held_entry x.map pool.containers x.slot v))) None) free
          ∙ sym (ap (λ (t : Bool). cond t (Some (use_of (held_entry y.map pool.containers y.slot v))) None) (sym (rests.same v) ∙ free))

  -- So the table of a root that lies whole there lies whole here, where it is well-formed after the changes that this volume counts, and where the
  -- parent knows all places if this volume does.
  pub based_root : (x.known ≡ true → y.known ≡ true) → (root : Rooted) → RootStands disk pool y j root → IsWellTable x.now (table_told (standing_at (blocks_in disk pool y j) root.levels root.root)) → RootStands disk pool x k root
  based_root known root is well = record {
    table = subst (λ (b : Under). IsWellTable x.now (table_told (standing_at b root.levels root.root))) (sym based_blocks) well;
    reserves = subst (λ (b : Under). HasNoReserve (table_told (standing_at b root.levels root.root))) (sym based_blocks) is.reserves;
    trees = subst (λ (b : Under). AreReached b (uses_in pool x k) root.levels root.root) (sym based_blocks) (subst (λ (o : ℕ → Option Use). AreReached (blocks_in disk pool y j) o root.levels root.root) (sym based_uses) is.trees);
    well = subst (λ (b : Under). IsStoredUnder x.known b root.levels root.root) (sym based_blocks) (less_known (blocks_in disk pool y j) root.levels root.root y.known x.known known is.well);
    reach = λ v. rests.same v ∙ is.reach v ∙ sym (ap (λ (b : Under). is_listed (items (standing_at b root.levels root.root)) v) based_blocks);
  }
