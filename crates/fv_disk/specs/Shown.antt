-- What a disk shows: its content, what a crash may leave of it, and how often it has failed. A host, which is a disk with a
-- source and a sink of bytes, shows those, too: the three share one clock, and no call of the disk changes the other two.
use Rattle.std.specs.Prelude.{◌≡◌, ◌≢◌, ◌<◌, ◌≤◌, ◌-◌, ◌^◌, ◌⊎◌, ℕ, Bool, List, length, slice_index, IsTrue, Result, OnOk, OnErr}

-- the block under each number
abbrev pub Image : Type 0
Image = ℕ → List ℕ

-- 4096 bytes
pub record IsBlock (block : List ℕ) : Type 0 where
  pub long : length block ≡ 4096
  pub bytes : (k : ℕ) → slice_index block k < 256

-- the images agree on every block but this one
abbrev pub SameBut : ℕ → Image → Image → Type 0
SameBut at old new = (a : ℕ) → a ≢ at → new a ≡ old a

-- the two ends of a host: the bytes that its source has left, where the content is told, and the counts of failed takes and
-- gives; of no meaning for a disk that is no host
pub record Ends : Type 0 where
  pub left : List ℕ
  pub source_faults : ℕ
  pub sink_faults : ℕ

-- A moment is a number that never falls. `since t c g` says that a crash at some moment from t on
-- might have left the image c when the bytes g had been given out.
pub record Shown : Type 1 where
  -- whether the content and the bytes given out are told
  pub tells : Bool
  -- what reads give
  pub reads : Image
  -- what a crash now may leave
  pub images : Image → Type 0
  pub moment : ℕ
  pub since : ℕ → Image → List ℕ → Type 0
  -- the bytes given out so far
  pub given : List ℕ
  -- failed reads, writes and barriers
  pub faults : ℕ
  -- failed writes and barriers
  pub write_faults : ℕ
  pub ends : Ends

-- what holds of a disk at every moment
pub record IsDisk (disk : Shown) : Type 0 where
  -- the disk as it reads is one of its images
  pub read_is_image : IsTrue disk.tells → disk.images disk.reads
  -- this moment is one of those since an earlier one
  pub counts_now : (t : ℕ) (c : Image) → t ≤ disk.moment → disk.images c → disk.since t c disk.given
  -- since this moment there is no other
  pub only_now : (c : Image) (g : List ℕ) → disk.since disk.moment c g → disk.images c × (g ≡ disk.given)
  -- what was left since a time was left since each earlier time
  pub earlier : (s t : ℕ) (c : Image) (g : List ℕ) → s ≤ t → disk.since t c g → disk.since s c g
  pub blocks : (t : ℕ) (c : Image) (g : List ℕ) → disk.since t c g → (a : ℕ) → IsBlock (c a)

-- a crash now leaves what reads give and nothing else
abbrev pub IsSettled : Shown → Type 0
IsSettled disk = (c : Image) → disk.images c → (a : ℕ) → c a ≡ disk.reads a

-- Time goes on: a crash since t might have left what it might have left before, or what it may leave now.
pub record Elapses (old new : Shown) : Type 0 where
  pub later : old.moment ≤ new.moment
  pub nothing_else : (t : ℕ) (c : Image) (g : List ℕ) → t ≤ old.moment → new.since t c g → old.since t c g ⊎ (new.images c × (g ≡ new.given))
  pub keeps : (t : ℕ) (c : Image) (g : List ℕ) → t ≤ old.moment → old.since t c g → new.since t c g

-- A count of faults rose. One that has reached 2^64 - 1 stays there and counts as risen.
abbrev pub Rose : ℕ → ℕ → Type 0
Rose before now = (before < now) ⊎ (now ≡ 2 ^ 64 - 1)

-- The count never falls, stays where the call was done, and rose where it failed.
pub record HasCause {T E : Type 0} (before now : ℕ) (result : Result T E) : Type 0 where
  pub later : before ≤ now
  pub calm : OnOk result (now ≡ before)
  pub rose : OnErr result (Rose before now)
