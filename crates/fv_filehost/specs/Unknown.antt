-- What a host shows that tells nothing but its counts.
use Rattle.std.specs.Prelude.{◌≡◌, ℕ, [], false, refl}
use Rattle.std.proofs.lemmas.Bool.{false≢true}
use Rattle.fv_disk.specs.Shown.{Image, IsBlock, Ends, Shown, IsDisk}

-- any content at all
abbrev pub AreBlocks : Image → Type 0
AreBlocks c = (a : ℕ) → IsBlock (c a)

abbrev pub no_ends : ℕ → ℕ → Ends
no_ends source_faults sink_faults = record { left = []; source_faults = source_faults; sink_faults = sink_faults }

-- its four counts: failed disk calls, failed writes and barriers, failed takes, failed gives
abbrev pub unknown : ℕ → ℕ → ℕ → ℕ → Shown
unknown faults write_faults source_faults sink_faults = record {
  tells = false;
  reads = λ a. [];
  images = AreBlocks;
  moment = 0;
  since = λ t c g. AreBlocks c × (g ≡ []);
  given = [];
  faults = faults;
  write_faults = write_faults;
  ends = no_ends source_faults sink_faults;
}

pub is_disk : (faults write_faults source_faults sink_faults : ℕ) → IsDisk (unknown faults write_faults source_faults sink_faults)
is_disk faults write_faults source_faults sink_faults = record {
  read_is_image = λ tells. absurd (false≢true tells);
  counts_now = λ t c le now. (now, refl);
  only_now = λ c g left. left;
  earlier = λ s t c g le left. left;
  blocks = λ t c g left. left.0;
}
