-- Why removals from a volume's table fail, over what a session lends.
use Rattle.std.proofs.Common.{◌≡◌, ℕ, Bool, true, false, cond, List, Option, Some, None, is_some, inl, inr, refl, sym, ap, ◌∙◌}
use Rattle.std.specs.Prelude.{Result, Ok, Err, OnErr, IfErr, nat_le, ◌&&◌, ◌==◌, if◌then◌else◌}
use Rattle.std.specs.FinMap as fin
use Rattle.fv_disk.specs.Shown.{Image, Shown as Disk}
use Rattle.fv_store.specs.Held.{StandsOn}
use Rattle.fv_disk.specs.declared.fault.BlockFault.{BlockFault}
use Rattle.fv_disk.specs.declared.fault.BlockFault.TheVariants as block
use Rattle.fv_codec.specs.declared.pointer.Pointer.{Pointer}
use Rattle.fv_container.specs.declared.entry.Entry.{Entry}
use Rattle.fv_container.specs.Chains.{Slots, chain_entry}
use Rattle.fv_tables.specs.Spelled.{Under, Rooted, pointer_at, block_at, block_or}
use Rattle.fv_tables.specs.Told.{Standing}
use Rattle.fv_tree.specs.Sources.{Counts, IsUntouched}
use Rattle.fv_tree.specs.Standing.{Fails, under}
use Rattle.fv_tree.specs.Reading.{cell_read_at}
use Rattle.fv_inode.specs.Failing.{InodeFails}
use Rattle.fv_files.specs.Failing.{FilesFail}
use Rattle.fv_volmap.specs.Slots.{Volume, taken_in}
use Rattle.fv_pool.specs.declared.blocks.Home.{Home}
use Rattle.fv_pool.specs.declared.noted.Noted.{Noted}
use Rattle.fv_pool.specs.declared.pool.Pool.{Pool}
use Rattle.fv_pool.specs.BlocksOver.{block_of, held_block, held_entry, place_read}
use Rattle.fv_pool.specs.Calls.{BlockCause, GivesUp, Reads, TableFails}
use Rattle.fv_pool.specs.Dropping.{DropsOver}
use Rattle.fv_pool.specs.Keeping.{Blocks}
use Rattle.fv_pool.specs.Lending.{Lent, ReadFails, lent_by, place_or_none, shown_over}
use Rattle.fv_pool.proofs.Failing.{hole_fails, inode_damage, node_damage, noted_hole}
use Rattle.fv_pool.proofs.Shows.{get_held}

-- a block that is held is that of the entry along the chain
entry_of : (kept : Blocks) (i : Image) (o : Option Entry) (content : List ℕ) → block_of kept i o ≡ Some content → (e : Entry) × (o ≡ Some e)
entry_of kept i None content is = absurd cc
entry_of kept i (Some e) content is = (e, refl)

chain_is : (map : Volume) (slots : Slots) (slot v : ℕ) (e : Entry) → held_entry map slots slot v ≡ Some e → chain_entry slots slot v ≡ Some e
unfolding held_entry
chain_is map slots slot v e is = by (nat_le v 1048575 && taken_in map.slots v) is
  where
    by : (b : Bool) → cond b (chain_entry slots slot v) None ≡ Some e → chain_entry slots slot v ≡ Some e
    by true is = is
    by false is = absurd cc

some_entry : (a b : Entry) → Some a ≡ Some b → a ≡ b
some_entry a b same = cc

module _ (old new : Lent) (drops : DropsOver old new) (held : (shown_over new).held ≡ (shown_over old).held) where
  -- a pointer whose block is held is read where it was before
  read_there : (p : Pointer) (content : List ℕ) → under (shown_over old) p.vvbn ≡ Some content → (shown_over new).read_at p ≡ (shown_over old).read_at p
  read_there p content lies =
      let v = p.vvbn in
      let was : held_block old.map old.pool old.home.slot old.disk.reads v ≡ Some content = sym (get_held old.map old.pool old.home.slot old.disk.reads v) ∙ lies in
      let is : held_block new.map new.pool new.home.slot new.disk.reads v ≡ Some content = sym (get_held new.map new.pool new.home.slot new.disk.reads v) ∙ ap (λ m. fin.get m v) held ∙ lies in
      let first = entry_of old.pool.kept old.disk.reads (held_entry old.map old.pool.containers old.home.slot v) content was in
      let second = entry_of new.pool.kept new.disk.reads (held_entry new.map new.pool.containers new.home.slot v) content is in
      let one = chain_is old.map old.pool.containers old.home.slot v first.0 first.1 in
      let other = chain_is new.map new.pool.containers new.home.slot v second.0 second.1 in
      let chains : chain_entry new.pool.containers new.home.slot v ≡ chain_entry old.pool.containers old.home.slot v = (λ j. chain_entry (drops.containers j) (drops.home j).slot v) in
      let same : second.0 ≡ first.0 = some_entry second.0 first.0 (sym other ∙ chains ∙ one) in
      ap (λ o. place_or_none (place_read o p.pvbn)) second.1 ∙ ap (λ (e : Entry). place_or_none (place_read (Some e) p.pvbn)) same ∙ sym (ap (λ o. place_or_none (place_read o p.pvbn)) first.1)

  -- so is a cell of a tree over those blocks
  cell_there : (t : Rooted) → t.under ≡ under (shown_over old) → (cell : ℕ) (content : List ℕ) → block_at t cell ≡ Some content → cell_read_at t (shown_over new) cell ≡ cell_read_at t (shown_over old) cell
  unfolding block_at
  cell_there t same cell content lies = by (t.cells cell) refl ((pointer_at t 0 cell).stamp == 0) refl
    where
      by : (o : Option (List ℕ)) → t.cells cell ≡ o → (b : Bool) → ((pointer_at t 0 cell).stamp == 0) ≡ b → cell_read_at t (shown_over new) cell ≡ cell_read_at t (shown_over old) cell
      by (Some kept) e b d = ap (λ o. cond (is_some o) 0 ((shown_over new).read_at (pointer_at t 0 cell))) e ∙ sym (ap (λ o. cond (is_some o) 0 ((shown_over old).read_at (pointer_at t 0 cell))) e)
      by None e true d = let wrong : None ≡ Some content = sym (ap (λ (b : Bool). if b then None else block_or (t.cells cell) (t.under (pointer_at t 0 cell).vvbn)) d) ∙ lies in absurd cc
      by None e false d =
          let here : t.under (pointer_at t 0 cell).vvbn ≡ Some content =
          sym (ap (λ o. block_or o (t.under (pointer_at t 0 cell).vvbn)) e) ∙ sym (ap (λ (b : Bool). if b then None else block_or (t.cells cell) (t.under (pointer_at t 0 cell).vvbn)) d) ∙ lies in
          ap (λ n. cond (is_some (t.cells cell)) 0 n) (read_there (pointer_at t 0 cell) content (sym (ap (λ (u : Under). u (pointer_at t 0 cell).vvbn) same) ∙ here))

  module _ (told : Type 0) (none : old.noted.count ≡ 0) where
    loads_fail : (t : Rooted) (e : BlockFault) → Fails told t (shown_over old) (shown_over new) e → ReadFails told t old new.disk.faults e
    loads_fail t block.DiskFault cause = cause.0
    loads_fail t (block.Damaged at want found) (faults, inl (was, lacks)) = hole_fails told t old new.disk.faults at want found faults lacks (noted_hole old new none drops.noted at want found was)
    loads_fail t (block.Damaged at want found) (faults, inr (same, node)) =
        (faults, inr (inl (λ is. node_damage t (shown_over old) (shown_over new) (shown_over old) (shown_over old) at want found (λ p content lies. (lies, read_there p content lies)) (node is))))
    loads_fail t block.Memory cause = cause.faults

    inodes_fail : (x : Standing) → x.inode.under ≡ under (shown_over old) → (e : BlockFault) → InodeFails told x.inode (shown_over old) (shown_over new) e → TableFails told x old new.disk.faults e
    inodes_fail x same e (inl fails) = inl (loads_fail x.inode e fails)
    inodes_fail x same e (inr bad) = inr (inl (record { calm = bad.0.faults; damage = inode_damage told told (λ is. is) x.inode (shown_over new) (shown_over old) (cell_there x.inode same) e bad.1 }))

    table_fails : (x : Standing) → x.inode.under ≡ under (shown_over old) → (e : BlockFault) → FilesFail told x (shown_over old) (shown_over new) e → TableFails told x old new.disk.faults e
    table_fails x same e (inl fails) = inodes_fail x same e fails
    table_fails x same e (inr fails) = inr (inr (record { tree = fails.tree; of_file = fails.of_file; fails = loads_fail fails.tree e fails.fails }))

-- a call that took blocks away, or failed and left them
pub drops_cause : {T : Type 0} (told : Type 0) (x : Standing) (old new : Lent) (r : Result T BlockFault) → DropsOver old new → old.noted.count ≡ 0 → x.inode.under ≡ under (shown_over old) → Counts (shown_over old) (shown_over new) r
    → OnErr r (IsUntouched (shown_over old) (shown_over new)) → IfErr r (FilesFail told x (shown_over old) (shown_over new)) → BlockCause told x old new.disk.faults r
drops_cause told x old new (Ok y) drops none same counts untouched fails = counts.calm.faults
drops_cause told x old new (Err e) drops none same counts untouched fails = table_fails old new drops untouched.held told none x same e fails

-- ---- what calls that place nothing leave of pool and disk, and of the volume's maps

pub drops_reads : (p q : Pool) (m n : Volume) (d e : Disk) (s t : ℕ) (h k : Home) (r u : ℕ) (a b : ℕ) (v w : Noted) → DropsOver (lent_by p m d s h r a v) (lent_by q n e t k u b w) → StandsOn e q.store.pairs → Reads d p e q
drops_reads p q m n d e s t h k r u a b v w drops stands = record {
  leaves = record { map = drops.space; containers = drops.containers; kept = drops.kept; found = drops.found; version = drops.version };
  only_reads = drops.only_reads;
  stands = stands;
}

pub drops_maps : (p q : Pool) (m n : Volume) (d e : Disk) (s t : ℕ) (h k : Home) (r u : ℕ) (a b : ℕ) (v w : Noted) → DropsOver (lent_by p m d s h r a v) (lent_by q n e t k u b w) → GivesUp m n
drops_maps p q m n d e s t h k r u a b v w drops = record { span = drops.span; snapshots = drops.snapshots; numbers = drops.numbers; active = drops.active }
