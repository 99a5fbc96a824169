-- What a host in memory has lived through, and what it shows.
use Rattle.std.specs.Prelude.{◌≡◌, ◌≤◌, ◌-◌, ◌+◌, ℕ, Bool, true, List, [], ◌∷◌, ◌++◌, length, take, drop, map, slice_index, nat_le}
use Rattle.std.specs.List.{list_all}
use Rattle.fv_disk.specs.Shown.{Image, IsBlock, Ends, Shown}
use Rattle.fv_memdisk.specs.declared.kept.Event.{Event}
use Rattle.fv_memdisk.specs.declared.kept.Event.TheVariants.{Write, Torn, Barrier, Give}
use Rattle.fv_memdisk.specs.declared.kept.Kept.{Kept}
use Rattle.fv_memdisk.specs.Past.{State, blank, put, replay, IsLeft}

pub record Story : Type 0 where
  -- the disk at the start
  pub base : Image
  pub reads : Image
  -- the calls since then
  pub past : List Kept
  -- how many of them were in earlier runs
  pub run : ℕ
  -- the output of this run
  pub given : List ℕ
  -- the forgotten writes: after how many calls, and where
  pub places : List (ℕ × ℕ)

-- the disk after so many calls
abbrev pub state_at : Image → List Kept → ℕ → State
state_at base past count = replay (blank base) (take count past)

-- the lengths of the output at the moments of this run
abbrev pub outputs : List Kept → ℕ → List ℕ
outputs past run = 0 ∷ map (λ k. k.output) (drop run past)

-- what a crash since a moment might have left
pub record IsLeftSince (s : Story) (t : ℕ) (c : Image) (g : List ℕ) : Type 0 where
  pub moment : ℕ
  pub later : t ≤ moment
  pub reached : s.run + moment ≤ length s.past
  pub image : IsLeft (state_at s.base s.past (s.run + moment)) s.places c
  pub output : g ≡ take (slice_index (outputs s.past s.run) moment) s.given

-- what the host shows, with these counts of faults and these ends
abbrev pub shown_at : Story → ℕ → ℕ → Ends → Shown
shown_at s faults write_faults ends = record {
  tells = true;
  reads = s.reads;
  images = λ c. IsLeft (state_at s.base s.past (length s.past)) s.places c;
  moment = length s.past - s.run;
  since = λ t c g. IsLeftSince s t c g;
  given = s.given;
  faults = faults;
  write_faults = write_faults;
  ends = ends;
}

-- no write was forgotten after more calls than there were
abbrev pub are_known : ℕ → List (ℕ × ℕ) → Bool
are_known count places = list_all (λ p. nat_le p.0 count) places

-- what holds of each such story
pub record IsSound (s : Story) : Type 0 where
  pub run : s.run ≤ length s.past
  pub reads : (a : ℕ) → (state_at s.base s.past (length s.past)).reads a ≡ s.reads a
  pub whole : (i a : ℕ) → IsBlock ((state_at s.base s.past i).reads a)
  pub whole_settled : (i a : ℕ) → IsBlock ((state_at s.base s.past i).settled a)
  pub within : (m : ℕ) → slice_index (outputs s.past s.run) m ≤ length s.given
  pub full : slice_index (outputs s.past s.run) (length s.past - s.run) ≡ length s.given
  pub known : are_known (length s.past) s.places ≡ true

-- what reads give after one call more
abbrev pub read_after : Event → Image → Image
read_after (Write at block) image = put image at block
read_after (Torn at) image = image
read_after Barrier image = image
read_after Give image = image

-- one call more is kept, with these bytes given out
pub record Adds (old new : Story) (event : Event) (bytes : List ℕ) : Type 0 where
  pub base : new.base ≡ old.base
  pub reads : (a : ℕ) → new.reads a ≡ read_after event old.reads a
  pub past : new.past ≡ old.past ++ record { event = event; output = length (old.given ++ bytes) } ∷ []
  pub run : new.run ≡ old.run
  pub given : new.given ≡ old.given ++ bytes
  pub places : new.places ≡ old.places

-- a write there is forgotten
pub record Forgets (old new : Story) (at : ℕ) : Type 0 where
  pub base : new.base ≡ old.base
  pub reads : new.reads ≡ old.reads
  pub past : new.past ≡ old.past
  pub run : new.run ≡ old.run
  pub given : new.given ≡ old.given
  pub places : new.places ≡ (length old.past, at) ∷ old.places

-- no call was made
pub record IsNew (base : Image) (s : Story) : Type 0 where
  pub base_is : s.base ≡ base
  pub reads : (a : ℕ) → s.reads a ≡ base a
  pub past : s.past ≡ []
  pub run : s.run ≡ 0
  pub given : s.given ≡ []
  pub places : s.places ≡ []

-- the output is emptied, and the moments begin anew
pub record BeginsRun (old new : Story) : Type 0 where
  pub base : new.base ≡ old.base
  pub reads : new.reads ≡ old.reads
  pub past : new.past ≡ old.past
  pub run : new.run ≡ length old.past
  pub given : new.given ≡ []
  pub places : new.places ≡ old.places

-- how many calls of this run are kept
abbrev pub moment_of : Story → ℕ
moment_of s = length s.past - s.run

-- the disk at a moment of this run
abbrev pub state_of : Story → ℕ → State
state_of s moment = state_at s.base s.past (s.run + moment)

-- the length of the output then
abbrev pub output_at : Story → ℕ → ℕ
output_at s moment = slice_index (outputs s.past s.run) moment
