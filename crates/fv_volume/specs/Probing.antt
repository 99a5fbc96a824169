-- What a probe of a file's cell answers.
use Rattle.std.specs.Prelude.{◌≡◌, ℕ, List}
use Rattle.fv_tables.specs.Told.{Standing}
use Rattle.fv_inode.specs.declared.info.Info.{Info}
use Rattle.fv_inode.specs.Files.{IsFirst}
use Rattle.fv_files.specs.Apart.{Trees}
use Rattle.fv_volume.specs.Paths.{unknown_over}

-- So many unknown pointers lie on the path to cell i of the file of a name, in a table with these trees.
abbrev pub IsPath : Standing → Trees → List ℕ → ℕ → ℕ → Type 0
IsPath x trees name i count = (info : Info) → IsFirst x.inode name info → count ≡ unknown_over trees info.number i
