-- What a reclaim makes of a container and of the blocks of the aggregate.
use Rattle.std.specs.Prelude.{◌≡◌, ℕ, ◌&&◌, Bool, length}
use Rattle.fv_aggmap.specs.Space.{Space}
use Rattle.fv_container.specs.Clean.{StaysClean}
use Rattle.fv_container.specs.Mapped.{Mapped}
use Rattle.fv_container.specs.Paged.{Paged}
use Rattle.fv_volmap.specs.Slots.{Volume}
use Rattle.fv_delay.specs.Delay.{is_delayed, region_of}
pub use Rattle.fv_aggmap.specs.Giving.{HasGiven}
pub use Rattle.fv_container.specs.Leading.{HasEmptied, lead_to}

-- the entries that go with some regions: those that are delayed there
abbrev pub goes_with : Volume → Mapped → (ℕ → Bool) → ℕ → Bool
goes_with map container regions v = is_delayed map container v && regions (region_of v)

-- Some regions of a container were reclaimed: their delayed entries are holes and every other entry stays, and the blocks to which those led
-- are given back.
pub record HasReclaimed (map : Volume) (regions : ℕ → Bool) (old : Paged) (space : Space) (new : Paged) (left : Space) : Type 0 where
  pub entries : HasEmptied old (goes_with map old.map regions) new
  pub blocks : HasGiven space (lead_to old.map (goes_with map old.map regions) 0 (length old.map.entries)) left

-- ---- whatever the leaves in memory say

-- Entries were emptied: the tree stays and the number of entries, and so does what is in memory of which regions, and what is known of them.
-- What was clean is clean.
pub record HasStayed (old new : Paged) : Type 0 where
  pub long : length new.map.entries ≡ length old.map.entries
  pub tree : new.map.tree ≡ old.map.tree
  pub here : new.here ≡ old.here
  pub known : new.known ≡ old.known
  pub sure : new.sure ≡ old.sure
  pub clean : StaysClean old new

-- some blocks were given back
pub record HasGivenSome (old new : Space) : Type 0 where
  pub blocks : ℕ → Bool
  pub given : HasGiven old blocks new
