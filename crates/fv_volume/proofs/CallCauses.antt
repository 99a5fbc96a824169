-- Why calls on a volume fail after others that only read.
use Rattle.std.proofs.Common.{◌≡◌, ℕ, cond, is_some, inl, inr, sym, ap, subst, ◌∙◌}
use Rattle.std.specs.Prelude.{Result, Ok, Err}
use Rattle.fv_disk.specs.declared.fault.BlockFault.{BlockFault}
use Rattle.fv_disk.specs.declared.fault.BlockFault.TheVariants as block
use Rattle.fv_disk.specs.Shown.{Rose, Shown as Disk}
use Rattle.fv_disk.specs.DiskCalls.{Stays}
use Rattle.fv_codec.specs.declared.pointer.Pointer.{Pointer}
use Rattle.fv_tables.specs.Spelled.{Rooted, pointer_at}
use Rattle.fv_tables.specs.Told.{Standing}
use Rattle.fv_tree.specs.Standing.{under, IsNodeDamage}
use Rattle.fv_pool.specs.declared.fault.VolumeFault.{VolumeFault}
use Rattle.fv_pool.specs.Causes.{of_block}
use Rattle.fv_pool.specs.declared.pool.Pool.{Pool}
use Rattle.fv_volume.specs.declared.state.VolumeState.{VolumeState}
use Rattle.fv_pool.specs.Calls.{BlockCause, CallCause, FileFails, IsBadInodes, Reads, TableFails}
use Rattle.fv_volume.specs.declared.tables.TableAsked.TheVariants.{Active}
use Rattle.fv_volume.specs.Asking.{TellsActive}
use Rattle.fv_volume.specs.OneVolume.{home_in, standing_for}
use Rattle.fv_pool.specs.Lending.{Lent, ReadFails, lent_for, place_or_none, shown_over}
use Rattle.fv_pool.specs.BlocksOver.{LacksLeaf, held_entry, place_read}
use Rattle.fv_pool.specs.LendingLaws.{leaf_before}
use Rattle.fv_container.specs.Chains.{Slots}
use Rattle.fv_volume.proofs.OneVolumes.{still_table, still_under}
use Rattle.fv_volume.proofs.RightTables.{still_tells}
use Rattle.fv_pool.proofs.CallCauses.{failed_cause}
use Rattle.fv_pool.proofs.Failing.{inode_damage, node_damage}

-- ---- after reads that were done

-- What is told before them is told after.
module _ (d e : Disk) (p q : Pool) (reads : Reads d p e q) (x : VolumeState) (calm : e.faults ≡ d.faults) (start steps : ℕ) (told after : Type 0) (still : told → after) where
  abbrev before : Lent
  before = lent_for p x.map d start (home_in x) 0

  abbrev later : Lent
  later = lent_for q x.map e steps (home_in x) 0

  abbrev stays : Stays d e
  stays = reads.only_reads.stays

  read_there : (r : Pointer) → (shown_over later).read_at r ≡ (shown_over before).read_at r
  read_there r = λ j. place_or_none (place_read (held_entry x.map (reads.leaves.containers j) x.slot r.vvbn) r.pvbn)

  held_there : (v : ℕ) → under (shown_over later) v ≡ under (shown_over before) v
  held_there v = λ j. still_under d e p q reads x j v

  node_there : (t : Rooted) (at want found : ℕ) → IsNodeDamage t (shown_over later) (shown_over later) at want found → IsNodeDamage t (shown_over before) (shown_over before) at want found
  node_there t at want found n =
      node_damage t (shown_over later) (shown_over later) (shown_over before) (shown_over before) at want found (λ r content lies. (sym (held_there r.vvbn) ∙ lies, read_there r)) n

  reads_fail : (t : Rooted) (faults : ℕ) (f : BlockFault) → ReadFails after t later faults f → ReadFails told t before faults f
  reads_fail t faults block.DiskFault fails = subst (λ n. Rose n faults) calm fails
  reads_fail t faults (block.Damaged at want found) (same, inl hole) = (same ∙ calm, inl (hole.0, λ is. hole.1 (still is)))
  reads_fail t faults (block.Damaged at want found) (same, inr (inl node)) = (same ∙ calm, inr (inl (λ is. node_there t at want found (node (still is)))))
  reads_fail t faults (block.Damaged at want found) (same, inr (inr leaf)) =
      (same ∙ calm, inr (inr (leaf_before d e p.containers at want found stays.tells stays.reads (subst (λ (s : Slots). LacksLeaf e s at want found) reads.leaves.containers leaf))))
  reads_fail t faults block.Memory fails = fails ∙ calm

  inodes_bad : (t : Rooted) (faults : ℕ) (f : BlockFault) → IsBadInodes after t later faults f → IsBadInodes told t before faults f
  inodes_bad t faults f bad = record {
    calm = bad.calm ∙ calm;
    damage = inode_damage after told still t (shown_over later) (shown_over before)
        (λ cell content lies. ap (λ n. cond (is_some (t.cells cell)) 0 n) (read_there (pointer_at t 0 cell)))
        f
        bad.damage;
  }

  file_fails : (y : Standing) (faults : ℕ) (f : BlockFault) → FileFails after y later faults f → FileFails told y before faults f
  file_fails y faults f fails = record {
    tree = fails.tree;
    of_file = λ is. fails.of_file (still is);
    fails = reads_fail fails.tree faults f fails.fails;
  }

  table_fails : (y : Standing) (faults : ℕ) (f : BlockFault) → TableFails after y later faults f → TableFails told y before faults f
  table_fails y faults f (inl fails) = inl (reads_fail y.inode faults f fails)
  table_fails y faults f (inr (inl bad)) = inr (inl (inodes_bad y.inode faults f bad))
  table_fails y faults f (inr (inr fails)) = inr (inr (file_fails y faults f fails))

  -- a call after reads that were done fails as one of before, on a table that is the same
  pub fails_on : {T : Type 0} (y z : Standing) → y ≡ z → (faults : ℕ) (r : Result T BlockFault) → BlockCause after y later faults r → BlockCause told z before faults r
  fails_on y z same faults (Ok w) cause = cause ∙ calm
  fails_on y z same faults (Err f) cause = subst (λ (s : Standing). TableFails told s before faults f) same (table_fails y faults f cause)

pub fails_later : (d e : Disk) (p q : Pool) (reads : Reads d p e q) (x : VolumeState) → e.faults ≡ d.faults → (steps : ℕ) {T : Type 0} (faults : ℕ) (r : Result T BlockFault)
    → BlockCause (TellsActive e q x) (standing_for e q x) (lent_for q x.map e steps (home_in x) 0) faults r → BlockCause (TellsActive d p x) (standing_for d p x) (lent_for p x.map d 0 (home_in x) 0) faults r
fails_later d e p q reads x calm steps faults r cause =
    fails_on d e p q reads x calm 0 steps (TellsActive d p x) (TellsActive e q x) (still_tells d e p q reads x Active) (standing_for e q x) (standing_for d p x) (still_table d e p q reads x) faults r cause

-- A change fails after its judgement, which left the volume as it was, as one of before.
pub fails_then : (d e : Disk) (p q : Pool) (reads : Reads d p e q) (x v : VolumeState) → v ≡ x → e.faults ≡ d.faults → (faults : ℕ) (b : BlockFault)
    → TableFails (TellsActive e q v) (standing_for e q v) (lent_for q v.map e 0 (home_in v) 0) faults b → TableFails (TellsActive d p x) (standing_for d p x) (lent_for p x.map d 0 (home_in x) 0) faults b
fails_then d e p q reads x v same calm faults b cause =
    fails_on d e p q reads x calm 0 0 (TellsActive d p x) (TellsActive e q x) (still_tells d e p q reads x Active) {T = Unit {0}} (standing_for e q x) (standing_for d p x) (still_table d e p q reads x) faults (Err b)
    (subst (λ (z : VolumeState). TableFails (TellsActive e q z) (standing_for e q z) (lent_for q z.map e 0 (home_in z) 0) faults b) same cause)

pub failed_change_cause : (d e : Disk) (p q : Pool) (reads : Reads d p e q) (x v : VolumeState) → v ≡ x → e.faults ≡ d.faults → (faults : ℕ) (b : BlockFault) {U : Type 0} (r : Result U VolumeFault) → r ≡ Err (of_block b)
    → TableFails (TellsActive e q v) (standing_for e q v) (lent_for q v.map e 0 (home_in v) 0) faults b → CallCause (TellsActive d p x) (standing_for d p x) (lent_for p x.map d 0 (home_in x) 0) faults r
failed_change_cause d e p q reads x v same calm faults b r failed cause =
    failed_cause (TellsActive d p x) (standing_for d p x) (lent_for p x.map d 0 (home_in x) 0) faults b r failed (fails_then d e p q reads x v same calm faults b cause)
