-- The file that a change finds by its name, before and after reads that were done.
use Rattle.std.proofs.Common.{◌≡◌, ℕ, List, Some, sym, ap, subst, ◌∙◌}
use Rattle.std.specs.FinMap as fin
use Rattle.fv_disk.specs.Shown.{Shown as Disk}
use Rattle.fv_model.specs.Tables.{File, file_named}
use Rattle.fv_laws.specs.WellFormed.{IsWellTable}
use Rattle.fv_tables.specs.Told.{Standing, file_in, table_told}
use Rattle.fv_inode.specs.declared.info.Info.{Info}
use Rattle.fv_inode.specs.Files.{IsFirst}
use Rattle.fv_pool.specs.declared.pool.Pool.{Pool}
use Rattle.fv_volume.specs.declared.state.VolumeState.{VolumeState}
use Rattle.fv_pool.specs.Calls.{Reads}
use Rattle.fv_volume.specs.OneVolume.{standing_for, IsStanding}
use Rattle.fv_volume.proofs.Asked.{file, file_there, found, in_table}
use Rattle.fv_volume.proofs.OneVolumes.{still_table}

-- the file of a name and a number in the active table, which is well-formed
pub record FoundFile (d e : Disk) (p q : Pool) (x : VolumeState) (name : List ℕ) (number : ℕ) : Type 0 where
  pub its : File
  pub named : file_named (table_told (standing_for d p x)) name ≡ Some (number, its)
  pub there : file_in (standing_for d p x) number ≡ Some its
  pub in_table : fin.get (table_told (standing_for d p x)).files number ≡ Some its
  pub later : file_in (standing_for e q x) number ≡ Some its
  pub well : IsWellTable x.now (table_told (standing_for e q x))

abbrev pub file_found : (d e : Disk) (p q : Pool) → Reads d p e q → (x : VolumeState) → IsStanding d p x → (name : List ℕ) (info : Info) → IsFirst (standing_for d p x).inode name info → FoundFile d e p q x name info.number
file_found d e p q reads x is name info first = record {
  its = file d p x is name info first;
  named = found d p x is name info first;
  there = file_there d p x is name info first;
  in_table = in_table d p x is name info first;
  later = ap (λ (s : Standing). file_in s info.number) (still_table d e p q reads x) ∙ file_there d p x is name info first;
  well = subst (λ (s : Standing). IsWellTable x.now (table_told s)) (sym (still_table d e p q reads x)) is.table;
}
