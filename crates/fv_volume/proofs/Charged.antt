-- What of a change of a volume's table stays charged, because a snapshot has it: what the calls of the table count is what the machine charges.
use Rattle.std.proofs.Common.{◌≡◌, ◌≤◌, ℕ, ℤ, pos, ◌+ℤ◌, ◌+◌, List, [], ◌∷◌, length, Option, Some, None, refl, sym, ap, subst, ◌∙◌, arith}
use Rattle.std.specs.Prelude.{Err}
use Rattle.std.specs.FinMap as fin
use Rattle.std.proofs.lemmas.Int.{ints}
use Rattle.fv_disk.specs.Shown.{Shown as Disk}
use Rattle.fv_model.specs.Tables.{File}
use Rattle.fv_model.specs.Volumes.{Volume}
use Rattle.fv_laws.specs.Paths.{cut_path, new_path, put_path}
use Rattle.fv_laws.specs.Positions.{rm_places, staying, taken_by_cut, taken_by_rm}
use Rattle.fv_laws.specs.WellFormed.{IsWellTable}
use Rattle.fv_laws.proofs.PathCharges.{none_stay}
use Rattle.fv_tables.specs.Spelled.{Under}
use Rattle.fv_tables.specs.Told.{Standing, file_at, file_in, table_told}
use Rattle.fv_tables.proofs.Tables.{files_told}
use Rattle.fv_tree.specs.declared.taken.Taken.{Taken}
use Rattle.fv_tree.specs.Standing.{under}
use Rattle.fv_inode.specs.declared.info.Info.{Info}
use Rattle.fv_inode.specs.Files.{IsFirst}
use Rattle.fv_files.specs.declared.files.Files.{Files}
use Rattle.fv_files.specs.Sharing.{staying_by_new, staying_by_put, SettlesShared}
use Rattle.fv_files.specs.Tables.{changed, loaded_trees, table_in, IsInfoOf}
use Rattle.fv_files.specs.Taking.{CutTakes, RemovalTakes}
use Rattle.fv_files.specs.Trees.{standing_in}
use Rattle.fv_files.proofs.Settled.{new_stays, put_stays, rm_stays}
use Rattle.fv_files.proofs.TakenCells.{cut_stays}
use Rattle.fv_files.proofs.Alike.{settles_alike}
use Rattle.fv_files.specs.Apart.{AreAlike}
use Rattle.fv_volmap.specs.Slots.{has, is_elsewhere}
use Rattle.fv_pool.specs.declared.pool.Pool.{Pool}
use Rattle.fv_volume.specs.declared.state.VolumeState.{VolumeState}
use Rattle.fv_charge.specs.declared.delta.Delta.{Delta}
use Rattle.fv_disk.specs.declared.fault.BlockFault.TheVariants as block
use Rattle.fv_model.specs.declared.commands.Command.{Command}
use Rattle.fv_model.specs.Machines.{Machine}
use Rattle.fv_root.specs.declared.find.Found.{Found}
use Rattle.fv_pool.specs.declared.fault.VolumeFault.{VolumeFault}
use Rattle.fv_pool.specs.declared.fault.VolumeFault.TheVariants.{Refused, DiskFault, Damaged, Memory}
use Rattle.fv_pool.specs.Calls.{CallFails, Reads}
use Rattle.fv_volume.specs.Calls.{HasBeside, HasWithin}
use Rattle.fv_volume.specs.Changing.{AcceptsCut, AcceptsRemoval, IsDeltaBy, MovesIn, RefusedIn}
use Rattle.fv_volume.specs.Charging.{CutMoves, MovesBlocks, RemovalMoves, StaysByNew, StaysByPut}
use Rattle.fv_pool.specs.Lending.{lent_for}
use Rattle.fv_pool.specs.Tables.{standing_by, trees_by}
use Rattle.fv_volume.specs.OneVolume.{home_in, shows, standing_for, table_for, tables_of, trees_for, volume_for, IsReady, IsStanding}
use Rattle.fv_volume.specs.Asking.{TellsActive}
use Rattle.fv_volume.proofs.CallCauses.{fails_later}
use Rattle.fv_volume.proofs.FileCounts.{least_is}
use Rattle.fv_volume.proofs.OneVolumes.{still_standing, still_table, still_volume}
use Rattle.fv_volume.proofs.KeptTables.{is_alone}
use Rattle.fv_volume.proofs.SettledTables.{settled_for}

-- ---- where no table is kept beside the active one

module _ (d : Disk) (p : Pool) (x : VolumeState) (none : tables_of x ≡ []) where
  pub none_by_put : (n i : ℕ) → StaysByPut d p x n i 0
  none_by_put n i f there = sym (none_stay (volume_for d p x) (is_alone d p x none) (put_path (table_for d p x) n f i))

  pub none_by_new : (n : ℕ) → StaysByNew d p x n 0
  none_by_new n free = sym (none_stay (volume_for d p x) (is_alone d p x none) (new_path (table_for d p x)))

-- ---- a table that was taken out

-- The ids that stay charged are those whose blocks are shared.
settles : (d : Disk) (p : Pool) (x : VolumeState) → IsReady d p x → IsStanding d p x → (f : Files) → AreAlike (loaded_trees (under (shows d p x)) f) (trees_for d p x)
    → SettlesShared (volume_for d p x) (loaded_trees (under (shows d p x)) f) (is_elsewhere x.map)
settles d p x ready is f alike = settles_alike (volume_for d p x) (loaded_trees (under (shows d p x)) f) (trees_for d p x) (is_elsewhere x.map) alike (settled_for d p x is ready.labelled)

-- ---- by the calls of the table

module _ (d : Disk) (p : Pool) (x : VolumeState) (ready : IsReady d p x) (is : IsStanding d p x) (f : Files) (takes : (blocks : Under) → standing_in blocks (changed f) ≡ standing_by blocks x.active x.files)
    (alike : (blocks : Under) → AreAlike (loaded_trees blocks f) (trees_by blocks x.active x.files)) where
  table : table_in (shows d p x) f ≡ standing_for d p x
  table = takes (under (shows d p x))

  are : SettlesShared (volume_for d p x) (loaded_trees (under (shows d p x)) f) (is_elsewhere x.map)
  are = settles d p x ready is f (alike (under (shows d p x)))

  told : table_for d p x ≡ table_told (standing_in (under (shows d p x)) (changed f))
  told = ap table_told (sym table)

  in_table : (n : ℕ) (file : File) → file_in (standing_for d p x) n ≡ Some file → fin.get (table_for d p x).files n ≡ Some file
  in_table n file there = files_told (standing_for d p x) n ∙ there

  module _ (info : Info) (known : IsInfoOf (standing_for d p x).inode info) where
    at : file_at (table_in (shows d p x) f).inode info.number ≡ Some known.file
    at = ap (λ (s : Standing). file_at s.inode info.number) table ∙ known.there

    pub counts_put : (i count : ℕ) → count ≡ staying_by_put (loaded_trees (under (shows d p x)) f) (is_elsewhere x.map) info.number i → StaysByPut d p x info.number i count
    counts_put i count counted file there = counted
        ∙ put_stays (volume_for d p x) (under (shows d p x)) f (is_elsewhere x.map) told are info.number known.file at file (in_table info.number file there) x.now is.table i

    pub counts_cut : (length : ℕ) (taken : Taken) → CutTakes (table_in (shows d p x) f) (loaded_trees (under (shows d p x)) f) (is_elsewhere x.map) info.number length taken → CutMoves d p x info.number length taken
    counts_cut length taken takes = record {
      gone = λ file there. takes.gone x.now file (subst (λ (s : Standing). IsWellTable x.now (table_told s)) (sym table) is.table) (ap (λ (s : Standing). file_in s info.number) table ∙ there);
      stays = λ file there. takes.staying x.now (subst (λ (s : Standing). IsWellTable x.now (table_told s)) (sym table) is.table)
          ∙ cut_stays (volume_for d p x) (under (shows d p x)) f (is_elsewhere x.map) told are info.number known.file at file (in_table info.number file there) x.now is.table length;
    }

    pub counts_removal : (taken : Taken) → RemovalTakes (table_in (shows d p x) f) (loaded_trees (under (shows d p x)) f) (is_elsewhere x.map) info.number taken → RemovalMoves d p x info.number taken
    counts_removal taken takes = record {
      gone = λ file there. takes.gone x.now file (subst (λ (s : Standing). IsWellTable x.now (table_told s)) (sym table) is.table) (ap (λ (s : Standing). file_in s info.number) table ∙ there)
          ∙ ap (λ (s : Standing). taken_by_rm (table_told s) info.number file) table;
      stays = λ file there. takes.staying x.now (subst (λ (s : Standing). IsWellTable x.now (table_told s)) (sym table) is.table)
          ∙ rm_stays (volume_for d p x) (under (shows d p x)) f (is_elsewhere x.map) told are info.number known.file at file (in_table info.number file there) x.now is.table;
    }

  pub counts_new : (n count : ℕ) → count ≡ staying_by_new (loaded_trees (under (shows d p x)) f) (is_elsewhere x.map) n → StaysByNew d p x n count
  counts_new n count counted free = counted
      ∙ ap (staying_by_new (loaded_trees (under (shows d p x)) f) (is_elsewhere x.map)) (sym (least_is (standing_for d p x) n free.free free.least))
      ∙ new_stays (volume_for d p x) (under (shows d p x)) f (is_elsewhere x.map) told are x.now is.table

-- ---- what a removal that was made charges

moved_none : (count taken stays : ℕ) (z : ℤ) → count ≡ taken → stays ≡ 0 → (z +ℤ pos count) ≡ pos 0 → (z +ℤ pos taken) ≡ pos (0 + stays)
moved_none count taken stays z same none is = omega (arith, ints, same, none, is)

-- By what was told before it was made, and in a volume without a table that is kept by how many positions went.
pub made_moves : (d : Disk) (p : Pool) (x : VolumeState) → IsReady d p x → (known : Option Delta) (count stays taken : ℕ) (by : Delta) → MovesIn x (volume_for d p x) stays taken known → IsDeltaBy x.ledger known count by
    → (tables_of x ≡ [] → stays ≡ 0) → count ≡ taken → (tables_of x ≡ [] → count ≤ x.ledger.charge) → MovesBlocks (volume_for d p x) 0 stays taken by
made_moves d p x ready None count stays taken by none is nothing same low = record {
  charge = moved_none count taken stays by.charge same (nothing none) (is.charge (low none));
  need = is.need;
  size = is.size ∙ ready.booked.size;
  kind = is.kind ∙ ready.booked.kind;
}
made_moves d p x ready (Some delta) count stays taken by moves is nothing same low = subst (λ z. MovesBlocks (volume_for d p x) 0 stays taken z) (sym is) moves

-- ---- what was said after reads that left the volume as it was is so before them

module _ (d e : Disk) (p q : Pool) (reads : Reads d p e q) (x y : VolumeState) (same : y ≡ x) where
  pub told_before : (says : Standing → Volume → Type 0) → (IsStanding e q y → says (standing_for e q y) (volume_for e q y)) → IsStanding d p x → says (standing_for d p x) (volume_for d p x)
  told_before says made is =
      subst (λ (v : Volume). says (standing_for d p x) v) (still_volume d e p q reads x)
      (subst (λ (s : Standing). says s (volume_for e q x)) (still_table d e p q reads x)
      (subst (λ (z : VolumeState). IsStanding e q z → says (standing_for e q z) (volume_for e q z)) same made (still_standing d e p q reads x is)))

  pub refused_before : (others : ℕ) (c : List ℕ → Command) (fault : VolumeFault) → (IsStanding e q y → RefusedIn (HasBeside y.name (volume_for e q y) others q.found.blocks) (c y.name) fault)
      → IsStanding d p x → RefusedIn (HasBeside x.name (volume_for d p x) others p.found.blocks) (c x.name) fault
  refused_before others c fault made is =
      subst (λ (f : Found). RefusedIn (HasBeside x.name (volume_for d p x) others f.blocks) (c x.name) fault) reads.leaves.found
      (subst (λ (v : Volume). RefusedIn (HasBeside x.name v others q.found.blocks) (c x.name) fault) (still_volume d e p q reads x)
      (subst (λ (z : VolumeState). IsStanding e q z → RefusedIn (HasBeside z.name (volume_for e q z) others q.found.blocks) (c z.name) fault) same made (still_standing d e p q reads x is)))

  within_after : (others : ℕ) (m : Machine) → HasWithin x.name (volume_for d p x) others p.found.blocks m → HasWithin x.name (volume_for e q x) others q.found.blocks m
  within_after others m has =
      subst (λ (v : Volume). HasWithin x.name v others q.found.blocks m) (sym (still_volume d e p q reads x))
      (subst (λ (f : Found). HasWithin x.name (volume_for d p x) others f.blocks m) (sym reads.leaves.found) has)

  pub cut_before : (others : ℕ) (name : List ℕ) (most : ℕ) (info : Info) (known : Option Delta) → (IsStanding e q y → AcceptsCut e q y others name most info known) → IsStanding d p x → AcceptsCut d p x others name most info known
  cut_before others name most info known made is =
      let a = subst (λ (z : VolumeState). IsStanding e q z → AcceptsCut e q z others name most info known) same made (still_standing d e p q reads x is) in record {
        near = a.near;
        first = subst (λ (s : Standing). IsFirst s.inode name info) (still_table d e p q reads x) a.first;
        moves = subst (λ (v : Volume). (f : File) → file_in (standing_for d p x) info.number ≡ Some f → MovesIn x v (staying v (cut_path (table_for d p x) info.number f most)) (taken_by_cut f most) known) (still_volume d e p q reads x)
            (subst (λ (s : Standing). (f : File) → file_in s info.number ≡ Some f → MovesIn x (volume_for e q x) (staying (volume_for e q x) (cut_path (table_told s) info.number f most)) (taken_by_cut f most) known) (still_table d e p q reads x) a.moves);
        accepted = λ m has. a.accepted m (within_after others m has);
      }

  pub removal_before : (others : ℕ) (name : List ℕ) (info : Info) (known : Option Delta) → (IsStanding e q y → AcceptsRemoval e q y others name info known) → IsStanding d p x → AcceptsRemoval d p x others name info known
  removal_before others name info known made is =
      let a = subst (λ (z : VolumeState). IsStanding e q z → AcceptsRemoval e q z others name info known) same made (still_standing d e p q reads x is) in record {
        first = subst (λ (s : Standing). IsFirst s.inode name info) (still_table d e p q reads x) a.first;
        moves = subst (λ (v : Volume). (f : File) → file_in (standing_for d p x) info.number ≡ Some f → MovesIn x v (staying v (rm_places (table_for d p x) info.number f)) (taken_by_rm (table_for d p x) info.number f) known) (still_volume d e p q reads x)
            (subst (λ (s : Standing). (f : File) → file_in s info.number ≡ Some f → MovesIn x (volume_for e q x) (staying (volume_for e q x) (rm_places (table_told s) info.number f)) (taken_by_rm (table_told s) info.number f) known) (still_table d e p q reads x) a.moves);
        accepted = λ m has. a.accepted m (within_after others m has);
      }

  -- and a call that failed failed for the same cause
  pub cause_before : e.faults ≡ d.faults → (faults : ℕ) (fault : VolumeFault) → CallFails (TellsActive e q y) (standing_for e q y) (lent_for q y.map e 0 (home_in y) 0) faults fault → CallFails (TellsActive d p x) (standing_for d p x) (lent_for p x.map d 0 (home_in x) 0) faults fault
  cause_before calm faults fault fails = so fault (subst (λ (z : VolumeState). CallFails (TellsActive e q z) (standing_for e q z) (lent_for q z.map e 0 (home_in z) 0) faults fault) same fails)
    where
      so : (fault : VolumeFault) → CallFails (TellsActive e q x) (standing_for e q x) (lent_for q x.map e 0 (home_in x) 0) faults fault → CallFails (TellsActive d p x) (standing_for d p x) (lent_for p x.map d 0 (home_in x) 0) faults fault
      so (Refused r) h = h ∙ calm
      so DiskFault h = fails_later d e p q reads x calm 0 {T = Unit {0}} faults (Err block.DiskFault) h
      so (Damaged at want found) h = fails_later d e p q reads x calm 0 {T = Unit {0}} faults (Err (block.Damaged at want found)) h
      so Memory h = fails_later d e p q reads x calm 0 {T = Unit {0}} faults (Err block.Memory) h
