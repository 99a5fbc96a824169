-- Why calls on a volume fail, as calls of its table over what a session lends.
use Rattle.std.proofs.Common.{◌≡◌, ℕ, cond, is_some, inl, inr, refl, sym, subst}
use Rattle.std.specs.Prelude.{Result, Ok, Err, IfErr}
use Rattle.fv_disk.specs.declared.fault.BlockFault.{BlockFault}
use Rattle.fv_disk.specs.declared.fault.BlockFault.TheVariants as block
use Rattle.fv_disk.specs.Shown.{Shown as Disk}
use Rattle.fv_tables.specs.Spelled.{Rooted, pointer_at}
use Rattle.fv_tables.specs.Told.{Standing}
use Rattle.fv_tree.specs.Sources.{Counts}
use Rattle.fv_tree.specs.Reading.{cell_read_at}
use Rattle.fv_inode.specs.Failing as inodes
use Rattle.fv_inode.specs.Failing.{InodeFails}
use Rattle.fv_files.specs.Failing.{FilesFail, Looks}
use Rattle.fv_model.specs.declared.answers.Refusal.{Refusal}
use Rattle.fv_pool.specs.declared.fault.VolumeFault.{VolumeFault}
use Rattle.fv_pool.specs.declared.fault.VolumeFault.TheVariants.{Refused}
use Rattle.fv_pool.specs.Causes.{of_block}
use Rattle.fv_store.specs.Held.{StandsOn}
use Rattle.fv_volmap.specs.Slots.{Volume}
use Rattle.fv_pool.specs.declared.blocks.Home.{Home}
use Rattle.fv_pool.specs.declared.noted.Noted.{Noted}
use Rattle.fv_pool.specs.declared.pool.Pool.{Pool}
use Rattle.fv_pool.specs.Calls.{BlockCause, CallCause, CallFails, IsBadInodes, Reads, TableFails}
use Rattle.fv_pool.specs.Lending.{Lent, ReadFails, ReadsOver, lent_by, place_or_none, shown_over}
use Rattle.fv_pool.specs.BlocksOver.{held_entry, place_read}
use Rattle.fv_pool.proofs.Failing.{inode_damage, read_fails}

module _ (told : Type 0) (x : Standing) (old new : Lent) (reads : ReadsOver old new) (none : old.noted.count ≡ 0) where
  -- a cell is read where it was before
  same_place : (cell : ℕ) → cell_read_at x.inode (shown_over new) cell ≡ cell_read_at x.inode (shown_over old) cell
  same_place cell = λ j. cond (is_some (x.inode.cells cell)) 0
      (place_or_none (place_read (held_entry (reads.map j) (reads.containers j) (reads.home j).slot (pointer_at x.inode 0 cell).vvbn) (pointer_at x.inode 0 cell).pvbn))

  inode_fails : (e : BlockFault) → InodeFails told x.inode (shown_over old) (shown_over new) e → TableFails told x old new.disk.faults e
  inode_fails e (inl fails) = inl (read_fails told x.inode old new e reads none fails)
  inode_fails e (inr bad) = inr (inl (record { calm = bad.0.faults; damage = inode_damage told told (λ is. is) x.inode (shown_over new) (shown_over old) (λ cell content lies. same_place cell) e bad.1 }))

  files_fail : (e : BlockFault) → FilesFail told x (shown_over old) (shown_over new) e → TableFails told x old new.disk.faults e
  files_fail e (inl fails) = inode_fails e fails
  files_fail e (inr fails) = inr (inr (record { tree = fails.tree; of_file = fails.of_file; fails = read_fails told fails.tree old new e reads none fails.fails }))

  -- a call that only looks at the inode file
  pub inode_cause : {T : Type 0} (r : Result T BlockFault) → inodes.Looks told x.inode (shown_over old) (shown_over new) r → BlockCause told x old new.disk.faults r
  inode_cause (Ok y) looks = looks.counts.calm.faults
  inode_cause (Err e) looks = inode_fails e looks.cause

  -- or at the table
  pub table_cause : {T : Type 0} (r : Result T BlockFault) → Looks told x (shown_over old) (shown_over new) r → BlockCause told x old new.disk.faults r
  table_cause (Ok y) looks = looks.counts.calm.faults
  table_cause (Err e) looks = files_fail e looks.cause

  -- or that changes it, and only loads
  pub change_cause : {T : Type 0} (r : Result T BlockFault) → Counts (shown_over old) (shown_over new) r → IfErr r (FilesFail told x (shown_over old) (shown_over new)) → BlockCause told x old new.disk.faults r
  change_cause (Ok y) counts fails = counts.calm.faults
  change_cause (Err e) counts fails = files_fail e fails

-- ---- as causes of calls on volumes

fails_as : (told : Type 0) (x : Standing) (old : Lent) (faults : ℕ) (e : BlockFault) → TableFails told x old faults e → CallFails told x old faults (of_block e)
fails_as told x old faults block.DiskFault fails = fails
fails_as told x old faults (block.Damaged at want found) fails = fails
fails_as told x old faults block.Memory fails = fails

-- ---- under a narrower statement, and of the same table

module _ (narrow wide : Type 0) (widens : narrow → wide) (old : Lent) (faults : ℕ) where
  reads_narrow : (t : Rooted) (e : BlockFault) → ReadFails wide t old faults e → ReadFails narrow t old faults e
  reads_narrow t block.DiskFault fails = fails
  reads_narrow t (block.Damaged at want found) (same, inl hole) = (same, inl (hole.0, λ told. hole.1 (widens told)))
  reads_narrow t (block.Damaged at want found) (same, inr (inl node)) = (same, inr (inl (λ told. node (widens told))))
  reads_narrow t (block.Damaged at want found) (same, inr (inr leaf)) = (same, inr (inr leaf))
  reads_narrow t block.Memory fails = fails

  inodes_narrow : (t : Rooted) (e : BlockFault) → IsBadInodes wide t old faults e → IsBadInodes narrow t old faults e
  inodes_narrow t e bad = record { calm = bad.calm; damage = inode_damage wide narrow widens t (shown_over old) (shown_over old) (λ cell content lies. refl) e bad.damage }

  table_narrow : (x : Standing) (e : BlockFault) → TableFails wide x old faults e → TableFails narrow x old faults e
  table_narrow x e (inl fails) = inl (reads_narrow x.inode e fails)
  table_narrow x e (inr (inl bad)) = inr (inl (inodes_narrow x.inode e bad))
  table_narrow x e (inr (inr fails)) = inr (inr (record { tree = fails.tree; of_file = λ told. fails.of_file (widens told); fails = reads_narrow fails.tree e fails.fails }))

  pub cause_for : {T : Type 0} (x y : Standing) (r : Result T BlockFault) → x ≡ y → BlockCause wide x old faults r → BlockCause narrow y old faults r
  cause_for x y (Ok z) same cause = cause
  cause_for x y (Err e) same cause = subst (λ (s : Standing). TableFails narrow s old faults e) same (table_narrow x e cause)

-- ---- what reads of all that was lent leave of pool and disk

pub lent_reads : (p q : Pool) (m n : Volume) (d e : Disk) (s t : ℕ) (h k : Home) (r u : ℕ) (a b : ℕ) (v w : Noted) → ReadsOver (lent_by p m d s h r a v) (lent_by q n e t k u b w) → StandsOn e q.store.pairs → Reads d p e q
lent_reads p q m n d e s t h k r u a b v w reads stands = record {
  leaves = record { map = reads.space; containers = reads.containers; kept = reads.kept; found = reads.found; version = reads.version };
  only_reads = reads.only_reads;
  stands = stands;
}

pub lent_map : (p q : Pool) (m n : Volume) (d e : Disk) (s t : ℕ) (h k : Home) (r u : ℕ) (a b : ℕ) (v w : Noted) → ReadsOver (lent_by p m d s h r a v) (lent_by q n e t k u b w) → n ≡ m
lent_map p q m n d e s t h k r u a b v w reads = reads.map

-- an answer by a fault of blocks
pub failed_cause : {T : Type 0} (told : Type 0) (x : Standing) (old : Lent) (faults : ℕ) (e : BlockFault) (r : Result T VolumeFault) → r ≡ Err (of_block e) → TableFails told x old faults e → CallCause told x old faults r
failed_cause told x old faults e r failed fails = subst (λ y. CallCause told x old faults y) (sym failed) (fails_as told x old faults e fails)

-- a refusal, where no read failed
pub refused_cause : {T : Type 0} (told : Type 0) (x : Standing) (old : Lent) (faults : ℕ) (fault : VolumeFault) (r : Result T VolumeFault) → r ≡ Err fault → (w : Refusal) × (fault ≡ Refused w) → faults ≡ old.disk.faults → CallCause told x old faults r
refused_cause told x old faults fault r failed refused calm = subst (CallCause told x old faults) (sym failed) (subst (CallFails told x old faults) (sym refused.1) calm)

-- a fault of blocks is no refusal
pub not_refused : (b : BlockFault) (r : Refusal) → of_block b ≡ Refused r → ⊥
not_refused block.DiskFault r same = cc
not_refused (block.Damaged at want found) r same = cc
not_refused block.Memory r same = cc
