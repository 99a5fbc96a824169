-- What a volume's blocks are reached through, and what reads leave of it.
use Rattle.std.specs.Prelude.{◌≡◌, ℕ}
use Rattle.fv_disk.specs.Shown.{Shown}
use Rattle.fv_disk.specs.DiskCalls.{OnlyReads}
use Rattle.fv_root.specs.declared.find.Found.{Found}
use Rattle.fv_root.specs.Finding.{root_found}
use Rattle.fv_faults.specs.Walks.{Ground}
use Rattle.fv_first_pass.specs.declared.first.Known.{Known}
use Rattle.fv_second_pass.specs.Told.{IsVolume, ground_at}

-- the disk with its root, what the first pass read of it, and the volume that is meant
pub record Lent : Type 1 where
  pub disk : Shown
  pub found : Found
  pub known : Known
  pub slot : ℕ
  pub span : ℕ

abbrev pub lent_by : Shown → Found → Known → ℕ → ℕ → Lent
lent_by disk found known slot span = record { disk = disk; found = found; known = known; slot = slot; span = span }

abbrev pub volume_of : Lent → Ground
volume_of l = ground_at (root_found l.found) l.disk.reads l.slot l.span

abbrev pub Fits : Lent → Type 0
Fits l = IsVolume (root_found l.found) l.disk l.known l.slot l.span

-- blocks were read, and nothing else
pub record ReadsOver (old new : Lent) : Type 0 where
  pub only_reads : OnlyReads old.disk new.disk
  pub found : new.found ≡ old.found
  pub known : new.known ≡ old.known
  pub slot : new.slot ≡ old.slot
  pub span : new.span ≡ old.span
