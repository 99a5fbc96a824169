-- Reading a script from its front.
use Rattle.std.specs.Prelude.{◌≡◌, ◌<◌, ◌≤◌, ◌+◌, ◌⊎◌, ℕ, Bool, true, false, not, nat_eq, List, [], ◌∷◌, ◌++◌, length, take, IsTrue, Result, IfOk, OnOk, OnErr}
use Rattle.std.specs.List.{All, prefix_len}
use Rattle.fv_disk.specs.declared.Failed.{Failed}
use Rattle.fv_disk.specs.Shown.{Image, Shown, HasCause}
use Rattle.fv_disk.specs.HostCalls.{Rests}
use Rattle.fv_disk.specs.Crash.{Leaves}
use Rattle.fv_model.specs.Runs.{whole}
use Rattle.fv_model.specs.Lines.{line_of, lines}
use Rattle.fv_lines.specs.declared.script.Next.{Next}
use Rattle.fv_lines.specs.declared.script.Next.TheVariants as next
use Rattle.fv_lines.specs.declared.reading.Found.{Found}
use Rattle.fv_lines.specs.declared.reading.Found.TheVariants as found
use Rattle.fv_lines.specs.Held.{Held}

-- what is still to come of a source that has these bytes left: none, once it has said that it ends
abbrev pub to_come : Bool → List ℕ → List ℕ
to_come true left = []
to_come false left = left

-- the bytes of the script that aren't read yet: those that were taken, and then those that are still to come
abbrev pub unread : Held → Shown → List ℕ
unread held host = held.bytes ++ to_come held.ended host.ends.left

-- where a source has said that it ends, it has none left
abbrev pub KnowsEnd : Held → Shown → Type 0
KnowsEnd held host = held.ended ≡ true → host.ends.left ≡ []

-- an image of a crash as before, with the bytes that had been given
abbrev pub IsStill : Shown → Image → List ℕ → Type 0
IsStill old c g = old.images c × (g ≡ old.given)

-- Calls of the source alone: the disk rests at each moment, and nothing is given.
pub record Asks {T : Type 0} (old new : Shown) (result : Result T Failed) : Type 0 where
  pub rests : Rests old new
  pub any_moment : Leaves old new (IsStill old)
  pub given : new.given ≡ old.given
  pub sink_faults : new.ends.sink_faults ≡ old.ends.sink_faults
  pub cause : HasCause old.ends.source_faults new.ends.source_faults result

-- no byte of it ends a line
abbrev pub HasNoEnd : List ℕ → Type 0
HasNoEnd bytes = All (λ b. nat_eq b 10 ≡ false) bytes

-- how many bytes stand before the first that ends a line
abbrev pub letters : List ℕ → ℕ
letters bytes = prefix_len (λ b. not (nat_eq b 10)) bytes

-- So many bytes of a line show what it says: two lines that have them alike say the same, whatever follows.
abbrev pub SaysAs : List ℕ → List ℕ → Type 0
SaysAs line other = take 9001 line ≡ take 9001 other

-- these bytes of those that were taken go to the line
abbrev pub Pops : Held → Next → List ℕ → Held → Type 0
Pops old next.Line run new = (old.bytes ≡ run ++ 10 ∷ new.bytes) × (old.room ≡ length run + (1 + new.room))
Pops old next.Part run new = (old.bytes ≡ run) × (new.bytes ≡ []) × (0 < length run) × (old.room ≡ length run + new.room) × (new.closed ≡ false)
Pops old next.End run new = (old.bytes ≡ []) × (run ≡ []) × (new.bytes ≡ []) × (new.room ≡ old.room)
Pops old next.PastLimit run new = (old.bytes ≡ run ++ new.bytes) × (0 < length new.bytes) × (old.room ≡ length run) × (new.room ≡ 0) × (new.ended ≡ false)

-- What is held is read, up to the first end of a line and as far as it may be.
pub record ReadsOn (old : Held) (n : Next) (new : Held) : Type 0 where
  pub run : List ℕ
  pub one : HasNoEnd run
  pub line : new.line ≡ old.line ++ run
  pub ended : new.ended ≡ old.ended
  pub pops : Pops old n run new

-- Nothing is read. Where no byte is held then, the source has said that it ends, or it failed. No more is held than one piece that was taken. Of a
-- line that is too long bytes may be forgotten.
pub record Fills (old_held : Held) (old : Shown) (new_held : Held) (new : Shown) (result : Result Unit Failed) : Type 0 where
  pub same : IsTrue old.tells → unread old_held old ≡ unread new_held new
  pub line : SaysAs new_held.line old_held.line
  pub closed : new_held.closed ≡ old_held.closed
  pub room : new_held.room ≡ old_held.room
  pub end : OnOk result (new_held.bytes ≡ [] → new_held.ended ≡ true)
  pub none : OnErr result (new_held.bytes ≡ [])
  pub few : length new_held.bytes ≤ 65536
  pub going : OnErr result (new_held.ended ≡ false)
  pub stays : old_held.ended ≡ true → new_held.ended ≡ true
  pub knows : IsTrue old.tells → KnowsEnd old_held old → KnowsEnd new_held new
  pub asks : Asks old new result

-- these bytes of the script are read, and the end of the line where it is there; a byte that may not be read is held
abbrev pub Reads : Next → List ℕ → List ℕ → List ℕ → Type 0
Reads next.Line run old new = old ≡ run ++ 10 ∷ new
Reads next.Part run old new = old ≡ run ++ new
Reads next.End run old new = (old ≡ []) × (new ≡ [])
Reads next.PastLimit run old new = old ≡ run ++ new

abbrev pub TakesRoom : Next → List ℕ → Held → Held → Type 0
TakesRoom next.Line run old new = old.room ≡ length run + (1 + new.room)
TakesRoom next.Part run old new = (0 < length run) × (old.room ≡ length run + new.room)
TakesRoom next.End run old new = (run ≡ []) × (new.room ≡ old.room)
TakesRoom next.PastLimit run old new = (0 < length new.bytes) × (old.room ≡ length run) × (new.room ≡ 0) × (new.ended ≡ false)

-- a line goes on, and the end of the script is where the source has said that it ends
abbrev pub GoesOn : Next → Held → Type 0
GoesOn next.Part held = held.closed ≡ false
GoesOn next.End held = held.ended ≡ true
GoesOn n held = Unit {0}

-- The next bytes of a line are read.
pub record IsNext (old_held : Held) (old : Shown) (new_held : Held) (new : Shown) (result : Result Next Failed) : Type 0 where
  pub run : List ℕ
  pub one : HasNoEnd run
  pub line : OnOk result (SaysAs new_held.line (old_held.line ++ run))
  pub bytes : IsTrue old.tells → IfOk result (λ n. Reads n run (unread old_held old) (unread new_held new))
  pub room : IfOk result (λ n. TakesRoom n run old_held new_held)
  pub on : IfOk result (λ n. GoesOn n new_held)
  pub same : IsTrue old.tells → OnErr result (unread old_held old ≡ unread new_held new)
  pub none : OnErr result ((new_held.bytes ≡ []) × (new_held.room ≡ old_held.room))
  pub few : length new_held.bytes ≤ 65536
  pub going : OnErr result (new_held.ended ≡ false)
  pub stays : old_held.ended ≡ true → new_held.ended ≡ true
  pub knows : IsTrue old.tells → KnowsEnd old_held old → KnowsEnd new_held new
  pub asks : Asks old new result

-- what the bytes before the end of a script are
abbrev pub found_last : List ℕ → Found
found_last [] = found.End
found_last (byte ∷ bytes) = found.Line

-- The first line of the script is read: its bytes and its end, or all bytes that there are. Or there is none; or none that ends before
-- the limit.
abbrev pub IsFound : Found → List ℕ → List ℕ → List ℕ → List ℕ → Type 0
IsFound found.Line line read old new = (lines old ≡ line_of line ∷ lines new) × ((whole read ≡ 1) ⊎ (new ≡ []))
IsFound found.End line read old new = (old ≡ []) × (new ≡ [])
IsFound found.PastLimit line read old new = whole read ≡ 0

-- a line takes some room, and a byte past the limit is held, with no room left
abbrev pub HasRoom : Found → Held → Held → Type 0
HasRoom found.Line old new = new.room < old.room
HasRoom found.End old new = new.room ≤ old.room
HasRoom found.PastLimit old new = (0 < length new.bytes) × (new.room ≡ 0) × (new.ended ≡ false)

-- a line has its end, or it is the last, and the source has said that it ends; so it has at the end of the script
abbrev pub HasEnded : Found → List ℕ → Held → Type 0
HasEnded found.Line read new = (whole read ≡ 1) ⊎ (new.ended ≡ true)
HasEnded found.End read new = new.ended ≡ true
HasEnded found.PastLimit read new = Unit {0}

-- where there is no line more, the source has said that it ends, whatever it tells
abbrev pub IsOver : Found → Held → Type 0
IsOver found.End held = held.ended ≡ true
IsOver f held = Unit {0}

-- These bytes are read from the front of the script: one line at most, and none where the source failed.
pub record IsRead (old_held : Held) (old : Shown) (new_held : Held) (new : Shown) (line : List ℕ) (result : Result Found Failed) : Type 0 where
  pub read : List ℕ
  pub front : unread old_held old ≡ read ++ unread new_held new
  pub room : old_held.room ≡ length read + new_held.room
  pub found : IfOk result (λ f. IsFound f line read (unread old_held old) (unread new_held new))
  pub ended : IfOk result (λ f. HasEnded f read new_held)
  pub one : whole read ≤ 1
  pub part : OnErr result (whole read ≡ 0)

-- The next line of the script is found, or there is none. The source has failed only where all that it gave was read, and it hadn't said that it
-- ends. Of what it gave at most one piece isn't read.
pub record Finds (old_held : Held) (old : Shown) (new_held : Held) (new : Shown) (line : List ℕ) (result : Result Found Failed) : Type 0 where
  pub reads : IsTrue old.tells → IsRead old_held old new_held new line result
  pub room : IfOk result (λ f. HasRoom f old_held new_held)
  pub over : IfOk result (λ f. IsOver f new_held)
  pub none : OnErr result (new_held.bytes ≡ [])
  pub few : length new_held.bytes ≤ 65536
  pub going : OnErr result (new_held.ended ≡ false)
  pub stays : old_held.ended ≡ true → new_held.ended ≡ true
  pub knows : IsTrue old.tells → KnowsEnd old_held old → KnowsEnd new_held new
  pub asks : Asks old new result
