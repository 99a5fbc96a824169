-- What reads leave, one after another.
use Rattle.std.proofs.Common.{◌≡◌, refl, ap, ◌∙◌, inl, arith}
use Rattle.fv_disk.specs.Shown.{Image, Shown}
use Rattle.fv_disk.specs.DiskCalls.{OnlyReads}
use Rattle.fv_disk.proofs.Resting.{reads_then as disk_then, stays_itself}
use Rattle.fv_root.specs.declared.find.Found.{Found}
use Rattle.fv_root.specs.Finding.{root_found}
use Rattle.fv_second_pass.specs.Told.{ground_at}
use Rattle.fv_second_pass.specs.Lent.{Fits, Lent, ReadsOver, volume_of}

disk_itself : (disk : Shown) → OnlyReads disk disk
disk_itself disk = record {
  stays = stays_itself disk;
  time = record { later = omega arith; nothing_else = λ t c g le left. inl left; keeps = λ t c g le left. left };
  given = refl;
  ends = refl;
  faults = omega arith;
  write_faults = refl;
}

pub reads_itself : (l : Lent) → ReadsOver l l
reads_itself l = record { only_reads = disk_itself l.disk; found = refl; known = refl; slot = refl; span = refl }

pub reads_then : (old mid new : Lent) → ReadsOver old mid → ReadsOver mid new → ReadsOver old new
reads_then old mid new first second = record {
  only_reads = disk_then old.disk mid.disk new.disk first.only_reads second.only_reads;
  found = second.found ∙ first.found;
  known = second.known ∙ first.known;
  slot = second.slot ∙ first.slot;
  span = second.span ∙ first.span;
}

-- the volume stays, and so does what is said of it
pub same_volume : (old new : Lent) → ReadsOver old new → volume_of new ≡ volume_of old
same_volume old new reads =
    ap (λ (f : Found). ground_at (root_found f) new.disk.reads new.slot new.span) reads.found
    ∙ ap (λ (i : Image). ground_at (root_found old.found) i new.slot new.span) reads.only_reads.stays.reads
    ∙ ap (λ s. ground_at (root_found old.found) old.disk.reads s new.span) reads.slot
    ∙ ap (λ n. ground_at (root_found old.found) old.disk.reads old.slot n) reads.span

pub fits_then : (old new : Lent) → ReadsOver old new → Fits old → Fits new
fits_then old new reads fits = record {
  tells = rw reads.only_reads.stays.tells fits.tells;
  spells = rw (reads.found, reads.known, reads.only_reads.stays.reads) fits.spells;
  range = rw reads.known fits.range;
  low = rw reads.slot fits.low;
  wide = rw (reads.found, reads.slot, reads.only_reads.stays.reads) (reads.span ∙ fits.wide);
}
