-- What a host in memory shows, and which of its calls fail.
use Rattle.std.specs.Prelude.{◌≡◌, ◌<◌, ◌⊎◌, ℕ, List, [], true, drop, IsTrue, Result, IsErr, OnOk}
use Rattle.fv_disk.specs.declared.Failed.{Failed}
use Rattle.fv_disk.specs.Shown.{Image, Ends, Shown, IsSettled, Rose}
use Rattle.fv_memdisk.specs.declared.call.Call.{Call}
use Rattle.fv_memdisk.specs.declared.host.MemHost.{MemHost}
use Rattle.fv_memdisk.specs.Story.{Story, shown_at}
use Rattle.fv_memdisk.specs.Lived.{story_of}
use Rattle.fv_memdisk.specs.Tallies.{is_named, IsFresh, CountsOne, SameTallies}

-- what the host has lived through
abbrev pub story : MemHost → Story
story h = story_of h.history

abbrev pub ends_of : MemHost → Ends
ends_of h = record { left = drop h.taken h.source.items; source_faults = h.source_faults; sink_faults = h.sink_faults }

abbrev pub shown_of : MemHost → Shown
shown_of h = shown_at (story h) h.faults h.write_faults (ends_of h)

-- how many writes, barriers and gives were refused for want of memory
abbrev pub starved_of : MemHost → ℕ
starved_of h = h.starved

-- The call failed exactly where `fail` had named it or memory was wanting, and one call more is counted.
pub record Answers {T : Type 0} (call : Call) (old new : MemHost) (result : Result T Failed) : Type 0 where
  pub counts : CountsOne call old.tallies new.tallies
  pub named : is_named old.tallies call ≡ true → IsErr result
  pub starved : starved_of old < starved_of new → IsErr result
  pub cause : IsErr result → (is_named old.tallies call ≡ true) ⊎ Rose (starved_of old) (starved_of new)
  pub calm : OnOk result (starved_of new ≡ starved_of old)

-- The host has just begun, with these bytes in its source.
pub record Begins (h : MemHost) (left : List ℕ) : Type 0 where
  pub told : IsTrue (shown_of h).tells
  pub settled : IsSettled (shown_of h)
  pub moment : (shown_of h).moment ≡ 0
  pub given : (shown_of h).given ≡ []
  pub faults : (shown_of h).faults ≡ 0
  pub write_faults : (shown_of h).write_faults ≡ 0
  pub ends : ends_of h ≡ record { left = left; source_faults = 0; sink_faults = 0 }
  pub starved : starved_of h ≡ 0
  pub calls : IsFresh h.tallies

-- What is shown stays.
pub record ShowsTheSame (old new : MemHost) : Type 0 where
  pub lived : story new ≡ story old
  pub faults : (shown_of new).faults ≡ (shown_of old).faults
  pub write_faults : (shown_of new).write_faults ≡ (shown_of old).write_faults
  pub ends : ends_of new ≡ ends_of old
  pub starved : starved_of new ≡ starved_of old

-- Another run begins with these bytes in the source. The disk stays, the output is empty, and the moments begin anew.
pub record BeginsAgain (old new : MemHost) (source : List ℕ) : Type 0 where
  pub reads : (shown_of new).reads ≡ (shown_of old).reads
  pub no_more : (c : Image) → (shown_of new).images c → (shown_of old).images c
  pub no_fewer : (c : Image) → (shown_of old).images c → (shown_of new).images c
  pub moment : (shown_of new).moment ≡ 0
  pub given : (shown_of new).given ≡ []
  pub faults : (shown_of new).faults ≡ (shown_of old).faults
  pub write_faults : (shown_of new).write_faults ≡ (shown_of old).write_faults
  pub ends : ends_of new ≡ record { left = source; source_faults = (ends_of old).source_faults; sink_faults = (ends_of old).sink_faults }
  pub starved : starved_of new ≡ starved_of old
  pub calls : SameTallies old.tallies new.tallies
