-- Running a script on an aggregate: the headline, clause by clause.
use Rattle.std.specs.Prelude.{◌≡◌, ◌⊎◌, ◌<◌, ◌≤◌, ◌+◌, ◌%◌, ◌^◌, ◌||◌, ◌&&◌, ℕ, zero, suc, nat_lt, if◌then◌else◌, Bool, true, false, List, [], ◌++◌, ◌≢◌, length, take, get_or, is_some, Some, Contains, IsTrue, Result, Ok, Err, IsErr, IfErr, OnOk}
use Rattle.fv_disk.specs.Shown.{Image, Shown, IsSettled, Rose}
use Rattle.fv_disk.specs.Crash.{Leaves}
use Rattle.fv_lines.specs.Counts.{Counts}
use Rattle.fv_model.specs.declared.answers.Reply.{Reply}
use Rattle.fv_model.specs.declared.commands.Command.{Command}
use Rattle.fv_model.specs.declared.commands.Command.TheVariants.{Cp}
use Rattle.fv_model.specs.Machines.{Machine}
use Rattle.fv_model.specs.Runs.{Line, Says, NoCommand, OutOfRange, after, Full, Follows, is_cp, whole, acked}
use Rattle.fv_image.specs.WholeMachine.{machine_of}
use Rattle.fv_root.specs.declared.find.Found.{Found}
use Rattle.fv_root.specs.Finding.{IsFound, IsNoAggregate}
use Rattle.fv_container.specs.Chains.{IsLeafDamage}
use Rattle.fv_volumes.specs.UnderRoot.{IsMapOf}
use Rattle.fv_aggregate.specs.declared.fault.OpenFault.TheVariants as opening
use Rattle.fv_aggregate.specs.declared.session.Session.{Session}
use Rattle.fv_aggregate.specs.Adding.{IsPointed}
use Rattle.fv_aggregate.specs.Asking.{IsShort}
use Rattle.fv_aggregate.specs.Calls.{IsPlain, IsUntouched, IsWithinLimit, KeepsRoot, MakesNoHoles}
use Rattle.fv_aggregate.specs.Causes.{IsOpenFault, IsUnwritten}
use Rattle.fv_aggregate.specs.Commands.{asked_by, Asked, AsksNothing, AsksPoint, changes_volume, dirty_limit, most_room, reaches_disk, reads_files, room_by, room_of, takes_steps, volume_asked, is_refusal, removes_volume}
use Rattle.fv_aggregate.specs.Damages.{HasBadCopies, HasBadCopiesBehind, HasDamageBehind, HasDamageIn, HasDamageLater, PassesLimit}
use Rattle.fv_aggregate.specs.Opening.{IsOpened}
use Rattle.fv_aggregate.specs.Reading.{IsAsRead}
use Rattle.fv_aggregate.specs.Reclaiming.{HasPointed}
use Rattle.fv_aggregate.specs.Standing.{IsWithoutFiles, StandsFor, StandsReady}
use Rattle.fv_aggregate.specs.Working.{HasWorkDamage}
use Rattle.fv_run.specs.declared.ending.Fault.{Fault}
use Rattle.fv_run.specs.declared.ending.Fault.TheVariants.{Usage, Unsound, NotAggregate, Source, Sink, Disk, Memory, Damaged, Limit}
use Rattle.fv_run.specs.Endings.{EndsWith, IsWholeFault, raised_by}
use Rattle.fv_run.specs.Built.{lines_built}
use Rattle.fv_run.specs.Left.{AllKeepTodo, FallsByWorks}
use Rattle.fv_run.specs.Probes.{AnswersProbes}
use Rattle.fv_run.specs.Promises.{AreGuaranteed, AreIsolated, line_at}

-- ---- replies

-- What this call gave is a prefix of the machine's replies to the lines, and of `done` with their number. While no line before a probe has
-- changed anything, the reply to it is told by the image at entry.
pub record HasFollowed (m : Machine) (lines : List Line) (old new : Shown) : Type 0 where
  pub output : List ℕ
  pub given : new.given ≡ old.given ++ output
  pub follows : Follows m lines output
  pub probes : AnswersProbes m lines old.reads output

-- All replies and `done` were given, and the aggregate on the disk is the machine after all lines.
pub record HasAnsweredAll (m : Machine) (lines : List Line) (old new : Shown) : Type 0 where
  pub output : List ℕ
  pub given : new.given ≡ old.given ++ output
  pub full : Full m lines output
  pub stands : machine_of new.reads ≡ Some (after m lines (length lines))
  pub settled : IsSettled new

-- ---- crashes

-- An image stands for the machine after the first `count` lines: at least those that the output acknowledges, and at most one more than
-- it answers.
pub record IsAfterSome (m : Machine) (lines : List Line) (output : List ℕ) (c : Image) : Type 0 where
  pub count : ℕ
  pub acknowledged : acked lines output ≤ count
  pub all : count ≤ length lines
  pub answered : count ≤ whole output + 1
  pub machine : machine_of c ≡ Some (after m lines count)

-- what a crash leaves of a run that began when `before` had been given, with all that had been given by then
abbrev pub Survives : Machine → List Line → List ℕ → Image → List ℕ → Type 0
Survives m lines before c g = (output : List ℕ) × (g ≡ before ++ output) × IsAfterSome m lines output c

-- the same of a run from a disk with writes in flight: with nothing given yet, also what a crash might have left before it
abbrev pub SurvivesFrom : Machine → List Line → Shown → Image → List ℕ → Type 0
SurvivesFrom m lines old c g = (old.images c × (g ≡ old.given)) ⊎ Survives m lines old.given c g

-- ---- consistency points

-- the room of a line, where those of commands are these
abbrev pub room_in : (Command → ℕ) → Line → ℕ
room_in rooms (Says command) = rooms command
room_in rooms NoCommand = 0
room_in rooms OutOfRange = 0

-- whether a line reaches the disk beside what it reads and the point that makes room for it: it copies blocks of a volume at once, or takes
-- background steps
abbrev pub reaches : Line → Bool
reaches (Says command) = reaches_disk command
reaches NoCommand = false
reaches OutOfRange = false

-- whether a line takes background steps, with as many points between them as they need
abbrev pub takes : Line → Bool
takes (Says command) = takes_steps command
takes NoCommand = false
takes OutOfRange = false

-- whether a line asks for a consistency point where so many blocks may be pending: a `cp` does, and so does a command with room that would pass the
-- dirty limit with them, before which a point makes room for it; one that copies blocks or takes background steps counts as one of these, whatever
-- its room is
abbrev pub asks_point : (Command → ℕ) → ℕ → Line → Bool
asks_point rooms pending line = is_cp line || (reaches line || (nat_lt 0 (room_in rooms line) && nat_lt dirty_limit (pending + room_in rooms line)))

-- so many blocks a line may leave pending beside those that were: its room, or after background steps the dirty limit
abbrev pub added_by : (Command → ℕ) → Line → ℕ
added_by rooms line = if takes line then dirty_limit else room_in rooms line

-- how many blocks may be pending once a line is answered: none after a `cp`
abbrev pub left_by : (Command → ℕ) → ℕ → Line → ℕ
left_by rooms pending line = if is_cp line then 0 else pending + added_by rooms line

-- the rooms of commands behind the first `count` lines, in the machine that those make of `m`
abbrev pub rooms_along : Machine → List Line → ℕ → Command → ℕ
rooms_along m lines count = room_of (after m lines count)

-- the most that they may be, whatever stands behind those lines
abbrev pub most_rooms : ℕ → Command → ℕ
most_rooms count = most_room

-- how many may be once the first `count` lines are: the rooms of those behind the last `cp`
unfoldable pub pending_behind : (ℕ → Command → ℕ) → List Line → ℕ → ℕ
pending_behind rooms lines zero = 0
pending_behind rooms lines (suc count) = left_by (rooms count) (pending_behind rooms lines count) (line_at lines count)

-- whether the line behind the first `count` does
abbrev pub asks_behind : (ℕ → Command → ℕ) → List Line → ℕ → Bool
asks_behind rooms lines count = asks_point (rooms count) (pending_behind rooms lines count) (get_or lines count NoCommand)

-- There is a line behind those that an output answers, and neither it nor one of those asks for a point.
pub record AsksNone (rooms : ℕ → Command → ℕ) (lines : List Line) (output : List ℕ) : Type 0 where
  pub more : whole output < length lines
  pub none : (line : ℕ) → line ≤ whole output → asks_behind rooms lines line ≡ false

-- a run that ended so wrote nothing
abbrev pub IsQuiet : (ℕ → Command → ℕ) → List Line → Shown → Shown → Type 0
IsQuiet rooms lines old new = (output : List ℕ) → new.given ≡ old.given ++ output → AsksNone rooms lines output → new.reads ≡ old.reads

-- the sink failed in the last line, which comes after the point that the end of the script asks for
pub record IsUntold (lines : List Line) (output : List ℕ) (result : Result Unit Fault) (count : ℕ) : Type 0 where
  pub sink : result ≡ Err Sink
  pub answered : whole output ≡ length lines
  pub all : count ≡ length lines

-- how many lines were begun: those that are answered, and one more but where the source failed or the limit was passed, which ends a run
-- between lines
abbrev pub begun : Result Unit Fault → List ℕ → ℕ
begun (Err Source) output = whole output
begun (Err Limit) output = whole output
begun result output = whole output + 1

-- The first `count` lines are those before a point that was asked for: all that the output acknowledges, or those before a line that was begun
-- and asks for a point, done or not: a `cp`, or a command whose room passes the dirty limit with the rooms of the lines behind the `cp` before it.
-- No fault asks for one but in such a line.
abbrev pub IsAskedFor : Machine → List Line → List ℕ → Result Unit Fault → ℕ → Type 0
IsAskedFor m lines output result count = (count ≡ acked lines output) ⊎ (((count < begun result output) × (asks_behind (rooms_along m lines) lines count ≡ true)) ⊎ IsUntold lines output result count)

-- The disk once a run has ended: nothing is in flight, and the image stands for the machine after
-- the first `count` lines: at least those that the output acknowledges, and none that it doesn't answer. It is that of the last acknowledged
-- point, or of one that a later line asked for.
pub record IsAtRest (m : Machine) (lines : List Line) (result : Result Unit Fault) (old new : Shown) : Type 0 where
  pub output : List ℕ
  pub given : new.given ≡ old.given ++ output
  pub count : ℕ
  pub acknowledged : acked lines output ≤ count
  pub all : count ≤ length lines
  pub answered : count ≤ whole output
  pub asked : IsAskedFor m lines output result count
  pub machine : machine_of new.reads ≡ Some (after m lines count)
  pub settled : IsSettled new

-- ---- the last point

-- a settled disk with an image, of which all is told
abbrev pub still_disk : Image → Shown
still_disk i = record { tells = true; reads = i; images = λ c. c ≡ i; moment = 0; since = λ t c given. (c ≡ i) × (given ≡ []); given = []; faults = 0; write_faults = 0; ends = record { left = []; source_faults = 0; sink_faults = 0 } }

-- The last point of a run over the image `first` of a machine. A session stood for the machine after all lines, over the image `before`, which stood for
-- the one after the first `count` of them: the beginning's own image where no line asks for a point. What a point without room leaves of that session
-- it left: the machine on the disk, the space rule as far as the commits leave it, and each delayed entry of a chosen region a hole in the image.
pub record IsLastFor (m : Machine) (lines : List Line) (first before : Image) (last : Session) (new : Shown) (next : Session) : Type 0 where
  pub count : ℕ
  pub all : count ≤ length lines
  pub stood : StandsFor (still_disk before) last (after m lines count) (after m lines (length lines))
  pub quiet : ((line : ℕ) → line < length lines → asks_behind (rooms_along m lines) lines line ≡ false) → before ≡ first
  pub pointed : HasPointed 0 last new next (after m lines (length lines))

-- A session stands on an image: its root is the one that counts there, and its map is that of the root's area.
pub record StandsOnImage (i : Image) (session : Session) : Type 0 where
  pub found : IsFound i session.pool.found
  pub map : IsMapOf i session.pool.found session.pool.map

-- how many of the first `count` lines are a `cp`
unfoldable pub cps_behind : List Line → ℕ → ℕ
cps_behind lines zero = 0
cps_behind lines (suc count) = cps_behind lines count + (if is_cp (line_at lines count) then 1 else 0)

-- A root counts in an image, so many generations on from the one that counts in another. Generations wrap at 2^64.
pub record IsPointsOn (points : ℕ) (i j : Image) : Type 0 where
  pub old : Found
  pub new : Found
  pub counted : IsFound i old
  pub counts : IsFound j new
  pub generation : new.root.generation ≡ (old.root.generation + points) % 2 ^ 64

-- so many points were made in all, the last one among them: one for each `cp`, and at most one for each other line
pub record CountsPoints (lines : List Line) (old new : Shown) : Type 0 where
  pub points : ℕ
  pub least : cps_behind lines (length lines) < points
  pub most : points ≤ length lines + 1
  pub on : IsPointsOn points old.reads new.reads

-- A run ended in a consistency point: of the session `last`, over the image `before`. It left the session `next`, which stands on the disk, with nothing
-- pending and no file in memory, and another root counts. The points are counted where no line takes background steps: those make as many as they need.
pub record EndsInPoint (lines : List Line) (old new : Shown) : Type 0 where
  pub before : Image
  pub last : Session
  pub next : Session
  pub over : StandsOnImage before last
  pub quiet : ((line : ℕ) → asks_behind most_rooms lines line ≡ false) → before ≡ old.reads
  pub counted : ((line : ℕ) → takes (line_at lines line) ≡ false) → CountsPoints lines old new
  pub left : IsPointed new last next
  pub stands : StandsReady new next
  pub machine : (m : Machine) → machine_of old.reads ≡ Some m → IsLastFor m lines old.reads before last new next
  -- where each line only asks, is a `cp` or a `work`, or is refused, what is left to do fell by the steps of the `work` lines, or is none
  pub lowered : (m : Machine) → machine_of old.reads ≡ Some m → AllKeepTodo m lines → FallsByWorks lines old.reads new.reads

-- ---- what is read

-- A run keeps up with what it reads, as far as its end shows: of all that the source gave it has read the front, and no line of that but one that was
-- begun isn't answered. The rest is one piece at most, which was taken last; where the source failed it is none. Of a longer script than its
-- limit it takes no more than that piece, either.
pub record KeepsUp (limit : ℕ) (old new : Shown) (result : Result Unit Fault) : Type 0 where
  pub output : List ℕ
  pub given : new.given ≡ old.given ++ output
  pub read : List ℕ
  pub ahead : List ℕ
  pub taken : old.ends.left ≡ read ++ (ahead ++ new.ends.left)
  pub within : length read ≤ limit
  pub piece : length ahead ≤ 65536
  pub none : result ≡ Err Source → ahead ≡ []
  pub answered : whole read ≤ begun result output

-- ---- causes

-- the source gave a byte past the limit, and each line that ends before it was answered
pub record IsPastLimit (limit : ℕ) (old new : Shown) : Type 0 where
  pub output : List ℕ
  pub given : new.given ≡ old.given ++ output
  pub taken : limit + length new.ends.left < length old.ends.left
  pub answered : whole output ≡ whole (take limit old.ends.left)

-- The source gave a byte past the limit, and each line that ends before it was answered; more may have been given.
pub record IsOverLimit (limit : ℕ) (old new : Shown) : Type 0 where
  pub output : List ℕ
  pub given : new.given ≡ old.given ++ output
  pub taken : limit + length new.ends.left < length old.ends.left
  pub answered : whole (take limit old.ends.left) ≤ whole output

-- the most room of a consistency point that a line asks for, or that of one that none asks for
abbrev pub IsRoomIn : List Line → ℕ → Type 0
IsRoomIn lines room = (room ≡ 0) ⊎ ((command : Command) × Contains lines (Says command) × (room ≡ most_room command))

-- what a line asks a session for
abbrev pub asked_in : (Command → Asked) → Line → Asked
asked_in asked (Says command) = asked command
asked_in asked NoCommand = AsksNothing
asked_in asked OutOfRange = AsksNothing

-- whether a line changes a volume that was there before it and is there after it: its files, its snapshots, its size or its kind of guarantee; one that
-- copies blocks or takes background steps counts as one that does
abbrev pub changes_volumes : Line → Bool
changes_volumes (Says command) = changes_volume command || reaches_disk command
changes_volumes NoCommand = false
changes_volumes OutOfRange = false

-- whether a line reads blocks of a volume; one that changes its files does, and so does one that copies them, or takes background steps
abbrev pub reads_blocks : Line → Bool
reads_blocks (Says command) = reads_files command || reaches_disk command
reads_blocks NoCommand = false
reads_blocks OutOfRange = false

-- one of the first `count` lines changes a volume that stays
pub record HasChanged (lines : List Line) (count : ℕ) : Type 0 where
  pub line : ℕ
  pub before : line < count
  pub changes : changes_volumes (line_at lines line) ≡ true

-- A consistency point lacks blocks: the root at `at`, which counts, leaves `found` of them free, and `want`, which is more, is at most the
-- overheads of its volumes and what may be pending with an event of that room.
pub record IsLacking (lines : List Line) (i : Image) : Type 0 where
  pub room : ℕ
  pub asks : IsRoomIn lines room
  pub at : ℕ
  pub want : ℕ
  pub found : ℕ
  pub short : IsShort i room 0 at want found

-- The script came to what volumes hold: the line behind those that are answered reads blocks of files, or a line that is answered changes the files
-- of a volume, its snapshots, its size or its kind of guarantee. `MeetsDamage` says what was damaged.
pub record IsFileDamage (lines : List Line) (old end : Shown) : Type 0 where
  pub output : List ℕ
  pub given : end.given ≡ old.given ++ output
  pub line : (reads_blocks (line_at lines (whole output)) ≡ true) ⊎ HasChanged lines (whole output)

-- whether a line only asks for files, which leaves the session but for its cache and the numbers of files in memory
abbrev pub only_asks : Line → Bool
only_asks (Says command) = is_some (volume_asked command)
only_asks NoCommand = false
only_asks OutOfRange = false

-- ---- the sessions of a run

-- A session over the image `i` carried out a command, and left `next` over `j`. Of a command that reads no file this is all that a
-- session's call says of one. One on files that is refused, with room within the dirty limit, leaves all but the cache and the numbers of
-- files in memory. With such room no entry of a volume that stays becomes a hole, but at a `cp` and by background steps, which run points.
pub record UndergoesCommand (command : Command) (i : Image) (session : Session) (j : Image) (next : Session) (reply : Reply) : Type 0 where
  pub plain : reads_files command ≡ false → IsPlain command (still_disk i) i session (still_disk j) j next (Ok reply)
  pub refused : reads_files command ≡ true → IsWithinLimit session command → IsTrue (is_refusal reply) → IsAsRead session next
  pub entries : command ≢ Cp → takes_steps command ≡ false → IsWithinLimit session command → removes_volume command ≡ false → MakesNoHoles session next

-- a line that says no command leaves all as it was
abbrev pub UndergoesSaid : Line → Image → Session → Image → Session → Reply → Type 0
UndergoesSaid (Says command) i session j next reply = UndergoesCommand command i session j next reply
UndergoesSaid NoCommand i session j next reply = IsUntouched i session j next
UndergoesSaid OutOfRange i session j next reply = IsUntouched i session j next

-- A line was applied to a session that stood on the image `i`, whatever that stands for, and was answered. The session `next` was left,
-- which stands on `j`.
pub record UndergoesLine (line : Line) (i : Image) (session : Session) (j : Image) (next : Session) : Type 0 where
  pub stands : StandsOnImage j next
  pub reply : Reply
  pub said : UndergoesSaid line i session j next reply
  -- at most one point was made, but by background steps
  pub root : takes line ≡ false → KeepsRoot session next
  -- one that only asks for files leaves all but the cache and the numbers of files in memory
  pub read : only_asks line ≡ true → IsAsRead session next
  -- one that changes no volume that stays brings no file into memory
  pub files : changes_volumes line ≡ false → IsWithoutFiles session → IsWithoutFiles next
  -- one that asks for no point writes nothing
  pub calm : asks_point (room_by session.volumes) session.pending line ≡ false → j ≡ i
  pub pending : next.pending ≤ left_by (room_by session.volumes) session.pending line

-- The first `count` lines were applied, one after another, each to the session that the one before it left, over the image of that moment.
-- The first session was opened on `i`, and the last one stands on `j`.
abbrev pub UndergoesLines : List Line → ℕ → Image → Session → Image → Session → Type 0
UndergoesLines lines zero i first j session = (session ≡ first) × (j ≡ i)
UndergoesLines lines (suc count) i first j session = (mid : Session) × (k : Image) × UndergoesLines lines count i first k mid × UndergoesLine (line_at lines count) k mid j session

-- A leaf of the container of a volume isn't there. The session at work behind the lines that are answered, with no file in memory, has it
-- at `at`, where the image at the end has another block. Those lines led to that session from the one that was opened, each over the
-- image of its moment.
pub record IsLeafLost (lines : List Line) (first : Session) (old end : Shown) : Type 0 where
  pub output : List ℕ
  pub given : end.given ≡ old.given ++ output
  pub session : Session
  pub course : UndergoesLines lines (whole output) old.reads first end.reads session
  pub none : IsWithoutFiles session
  pub at : ℕ
  pub want : ℕ
  pub found : ℕ
  pub leaf : IsLeafDamage end.reads session.pool.containers at want found

-- what a session is damaged by: at the end a point lacks blocks, or its lines came to what volumes hold, or to a leaf that isn't there
abbrev pub IsSessionDamage : List Line → Session → Shown → Shown → Type 0
IsSessionDamage lines first old end = IsLacking lines end.reads ⊎ (IsFileDamage lines old end ⊎ IsLeafLost lines first old end)

-- A call of a session that may add `room` blocks, and asks for this, met damage, by what the disk shows at the end, and left the session
-- so: blocks are lacking, or the files of a volume couldn't be placed, where the call comes to a point or to placing; or a leaf of a container
-- isn't there, where it comes to that; or the table that it asks for isn't as it has to be, with room that passes the dirty limit also behind a point.
-- Or it asks for copies, for a mirror that the session admits, which couldn't be made of what stood in the image `over` before the call;
-- or, with room that passes the dirty limit, can't be made of what stands at the end, behind a point.
pub record IsHurt (room : ℕ) (asked : Asked) (over : Image) (session : Session) (end : Shown) (left : Session) : Type 0 where
  pub at : ℕ
  pub want : ℕ
  pub found : ℕ
  pub damage : (HasDamageIn room asked end session left at want found ⊎ HasDamageLater room asked end session left at want found)
      ⊎ ((PassesLimit session.pending room × HasDamageBehind asked end session left at want found)
      ⊎ ((IsTrue end.tells → HasBadCopies asked session (still_disk over) session)
      ⊎ (PassesLimit session.pending room × HasBadCopiesBehind asked end session left)))

-- background steps met damage, by what the disk shows at the end, and left the session so
abbrev pub IsHurtInSteps : Shown → Session → Type 0
IsHurtInSteps end left = (at : ℕ) × (want : ℕ) × (found : ℕ) × HasWorkDamage end left at want found

-- what a line asked for met damage: its steps, where it takes some, and else its call
abbrev pub IsHurtIn : Line → Image → Session → Shown → Session → Type 0
IsHurtIn line over session end left =
    IsHurt (room_in (room_by session.volumes) line) (asked_in (asked_by session.volumes) line) over session end left
    ⊎ ((takes line ≡ true) × IsHurtInSteps end left)

-- The call of a session that was at work behind the first `count` lines met damage: the one that the next line asked for, or, where there
-- is no further line, the point at the end.
abbrev pub IsHurtNext : List Line → ℕ → Image → Session → Shown → Session → Type 0
IsHurtNext lines count over session end left =
    IsHurtIn (line_at lines count) over session end left ⊎ ((length lines ≤ count) × IsHurt 0 AsksPoint over session end left)

-- So it was. Those lines led to that session from the one that was opened on the image `i`, each over the image of its moment. The session
-- that the call left stands on the disk. Where each of those lines only asks for files, the session is the one that was opened, but for its
-- cache and the numbers of files in memory.
pub record IsHurtBehind (lines : List Line) (count : ℕ) (i : Image) (first : Session) (end : Shown) : Type 0 where
  pub session : Session
  pub over : Image
  pub course : IsTrue end.tells → UndergoesLines lines count i first over session
  pub opened : ((j : ℕ) → j < count → only_asks (line_at lines j) ≡ true) → IsAsRead first session
  pub left : Session
  pub stands : StandsReady end left
  pub hurt : IsHurtNext lines count over session end left

-- the call at work behind the lines that are answered met damage
pub record MeetsDamage (lines : List Line) (first : Session) (old end : Shown) : Type 0 where
  pub output : List ℕ
  pub given : end.given ≡ old.given ++ output
  pub call : IsHurtBehind lines (whole output) old.reads first end

-- a session was opened, and then met damage
pub record IsDamagedOpen (old end : Shown) : Type 0 where
  pub first : Session
  pub opened : IsOpened old.reads first
  pub meets : MeetsDamage (lines_built old.ends.left) first old end
  pub why : IsSessionDamage (lines_built old.ends.left) first old end

-- Opening found a block without the shape of its kind, or a number past its bound, and nothing was written or given; or the session that was
-- opened is damaged.
abbrev pub IsDamage : Shown → Shown → Type 0
IsDamage old end = (IsUnwritten old end × ((at want found : ℕ) × IsOpenFault old.reads (opening.Damaged at want found))) ⊎ IsDamagedOpen old end

-- Why a run ended, with its status. A fault of the source, the sink or the disk has its count, and want of memory has no cause.
abbrev pub HasReason : ℕ → Shown → Shown → Fault → Type 0
-- 1
HasReason limit old new Unsound = ⊥
-- 2
HasReason limit old new NotAggregate = IsUnwritten old new × (IsTrue old.tells → IsNoAggregate old.reads)
-- 3
HasReason limit old new Source = Unit {0}
-- 4
HasReason limit old new Sink = Unit {0}
-- 5
HasReason limit old new Disk = Unit {0}
-- 6
HasReason limit old new Memory = Unit {0}
-- 7
HasReason limit old new Usage = ⊥
-- 8
HasReason limit old new Damaged = IsTrue old.tells → IsDamage old new
-- 9
HasReason limit old new Limit = IsTrue old.tells → IsPastLimit limit old new

-- an image opens as a session, which has its root, its map and its volumes, all of them of their shapes
abbrev pub Opens : Image → Type 0
Opens i = (session : Session) × IsOpened i session

-- how a run may end that isn't opened
abbrev pub IsUnopened : Result Unit Fault → Type 0
IsUnopened (Err NotAggregate) = Unit {0}
IsUnopened (Err Disk) = Unit {0}
IsUnopened (Err Memory) = Unit {0}
IsUnopened result = ⊥

-- Of a run over a machine's image: the replies, what a crash at any moment leaves, the disk at the end where no write and no barrier
-- failed, and that it stays as it is while no line asks for a point.
pub record Holds (m : Machine) (result : Result Unit Fault) (old new : Shown) : Type 0 where
  pub replies : HasFollowed m (lines_built old.ends.left) old new
  pub crash : Leaves old new (Survives m (lines_built old.ends.left) old.given)
  pub at_rest : ¬ Rose old.write_faults new.write_faults → IsAtRest m (lines_built old.ends.left) result old new
  pub quiet : IsQuiet (rooms_along m (lines_built old.ends.left)) (lines_built old.ends.left) old new

-- A run, over any source and any disk.
pub record Ran (limit : ℕ) (old new : Shown) (result : Result Unit Fault) : Type 0 where
  -- Over the image of a machine: at each exit a prefix of its replies was given; at Ok all of them, and the disk has the machine after all
  -- lines; and a crash at any moment leaves the machine after some of the lines, all acknowledged ones among them.
  pub replies : IsTrue old.tells → (m : Machine) → machine_of old.reads ≡ Some m → HasFollowed m (lines_built old.ends.left) old new
  pub done : IsTrue old.tells → (m : Machine) → machine_of old.reads ≡ Some m → OnOk result (HasAnsweredAll m (lines_built old.ends.left) old new)
  pub crash : IsTrue old.tells → (m : Machine) → machine_of old.reads ≡ Some m → IsSettled old → Leaves old new (Survives m (lines_built old.ends.left) old.given)
  -- the same where writes are in flight when it begins
  pub crash_from : IsTrue old.tells → (m : Machine) → machine_of old.reads ≡ Some m → Leaves old new (SurvivesFrom m (lines_built old.ends.left) old)
  -- Where no write and no barrier failed, the disk is settled, and has the image of the last acknowledged point, or of one that a later line or
  -- the end asked for. So after a fault between lines, or in a line that asks for no point, no further one was made.
  pub at_rest : IsTrue old.tells → (m : Machine) → machine_of old.reads ≡ Some m → ¬ Rose old.write_faults new.write_faults → IsAtRest m (lines_built old.ends.left) result old new
  -- At Ok a consistency point is behind all lines, whatever they were: another root counts than at the beginning, as many generations on as points
  -- were made.
  pub pointed : IsTrue old.tells → OnOk result (EndsInPoint (lines_built old.ends.left) old new)
  pub no_damage : IsTrue old.tells → (m : Machine) → machine_of old.reads ≡ Some m → IfErr result IsWholeFault
  -- Its lines are isolated by their homes, and in a volume of kind `volume` the size is guaranteed.
  pub isolated : IsTrue old.tells → (m : Machine) → machine_of old.reads ≡ Some m → AreIsolated m (lines_built old.ends.left)
  pub guaranteed : IsTrue old.tells → (m : Machine) → machine_of old.reads ≡ Some m → AreGuaranteed m (lines_built old.ends.left)
  -- each fault has its cause, and leaves the counts of the others; where none rose the run ends with Ok or a fault that has no count
  pub counts : Counts old new (raised_by result)
  pub reason : IfErr result (HasReason limit old new)
  pub unopened : IsTrue old.tells → IsNoAggregate old.reads → IsUnopened result
  -- what opens stays as it is while no line asks for a point, by the rooms in the machine, or by the most where it stands for none
  pub quiet_for : IsTrue old.tells → (m : Machine) → machine_of old.reads ≡ Some m → IsQuiet (rooms_along m (lines_built old.ends.left)) (lines_built old.ends.left) old new
  pub quiet : IsTrue old.tells → IsQuiet most_rooms (lines_built old.ends.left) old new
  -- what doesn't open stays as it is, whatever the fault, and nothing is given
  pub opened : IsTrue old.tells → Opens old.reads ⊎ (IsErr result × IsUnwritten old new)
  pub cut_off : IsTrue old.tells → IsOverLimit limit old new → result ≡ Err Limit
  -- each line that was read is answered, but for the one at work
  pub keeps_up : IsTrue old.tells → KeepsUp limit old new result

-- a run, with the status that tells how it ended
abbrev pub IsRun : ℕ → Shown → Shown → ℕ → Type 0
IsRun limit old new status = EndsWith (Ran limit old new) status
