-- Answering the lines of a script, one after another.
use Rattle.std.specs.Prelude.{◌≡◌, ◌⊎◌, ◌<◌, ◌≤◌, ◌+◌, ℕ, List, [], ◌∷◌, ◌++◌, length, take, drop, flat_map, true, false, max, None, Contains, IsTrue, IsNone, Result, Ok, Err, IfOk, IfErr, OnOk, OnErr}
use Rattle.fv_disk.specs.Shown.{Image, Shown, Rose}
use Rattle.fv_disk.specs.Crash.{Leaves}
use Rattle.fv_model.specs.declared.answers.Reply.{Reply}
use Rattle.fv_model.specs.declared.commands.Command.{Command}
use Rattle.fv_model.specs.Machines.{Machine}
use Rattle.fv_model.specs.Runs.{Line, after, after_line, AllowsAt, AnswersAll, is_cp, up_to_cp, whole}
use Rattle.fv_model.specs.Texts.{text}
use Rattle.fv_script.specs.Telling.{Tells, unnamed}
use Rattle.fv_lines.specs.Counts.{Counts}
use Rattle.fv_lines.specs.Held.{Held}
use Rattle.fv_lines.specs.Reading.{KnowsEnd, unread}
use Rattle.fv_container.specs.Chains.{IsLeafDamage}
use Rattle.fv_aggregate.specs.declared.session.Session.{Session}
use Rattle.fv_aggregate.specs.Asking.{AsksWithin, IsShort}
use Rattle.fv_aggregate.specs.Commands.{Asked, room_by}
use Rattle.fv_aggregate.specs.PathShown.{HasPathsOf}
use Rattle.fv_aggregate.specs.Reading.{IsAsRead}
use Rattle.fv_aggregate.specs.Standing.{IsWithoutFiles, OneOf, StandsAfter, StandsFor, StandsReady}
use Rattle.fv_run.specs.declared.ending.Fault.{Fault}
use Rattle.fv_run.specs.declared.ending.Fault.TheVariants.{Source, Sink, Disk, Memory, Damaged, Limit}
use Rattle.fv_run.specs.Endings.{IsWholeFault, count_of, raised_by}
use Rattle.fv_run.specs.Built.{lines_built}
use Rattle.fv_run.specs.Left.{LessAlong, LessByLine}
use Rattle.fv_run.specs.Probes.{HasPathsBehind, PathsByLine, TellPaths}
use Rattle.fv_run.specs.Running.{asks_behind, asks_point, changes_volumes, HasChanged, Holds, IsOverLimit, IsHurt, IsHurtIn, IsPastLimit, IsRoomIn, IsSessionDamage, KeepsUp, MeetsDamage, most_rooms, only_asks, reads_blocks, rooms_along, Survives, pending_behind, IsQuiet, UndergoesLine, UndergoesLines}

-- ---- lines and their replies

-- bytes that end once, with the last of them
pub record IsLine (bytes : List ℕ) : Type 0 where
  pub front : List ℕ
  pub is : bytes ≡ front ++ 10 ∷ []
  pub none : whole front ≡ 0

-- all bytes of a line are given, or a part of them, and never all, where the sink failed
pub record TellsLine (old : Shown) (bytes : List ℕ) (new : Shown) (result : Result Unit Fault) : Type 0 where
  pub tells : Tells old bytes new (unnamed result)
  pub sink : IfErr result (λ fault. fault ≡ Sink)
  pub line : IsLine bytes

-- ---- one line

-- a consistency point lacks blocks that keeps room for an event with this room
abbrev pub Lacks : ℕ → Image → Type 0
Lacks room i = (at want found : ℕ) × IsShort i room 0 at want found

-- a call of a session with no file in memory left the disk as it was, on which a leaf isn't there that one of the session's containers
-- has at `at`
pub record LosesLeaf (old : Shown) (session : Session) (end : Shown) : Type 0 where
  pub still : end.reads ≡ old.reads
  pub none : IsWithoutFiles session
  pub at : ℕ
  pub want : ℕ
  pub found : ℕ
  pub leaf : IsLeafDamage end.reads session.pool.containers at want found

-- a consistency point lacks blocks, where nothing of files waits for it, or a leaf of a container isn't there
abbrev pub LacksSpace : Shown → Session → Shown → Type 0
LacksSpace old session new = IsTrue old.tells → IsWithoutFiles session → (room : ℕ) → AsksWithin old session room → Lacks room new.reads ⊎ LosesLeaf old session new

-- a call of a session over an image, which asks for this, met damage, and left the session standing
abbrev pub IsHurtBy : ℕ → Asked → Image → Session → Shown → Type 0
IsHurtBy room asked over session new = (left : Session) × (StandsReady new left × IsHurt room asked over session new left)

-- so it is of what a line asked for
abbrev pub IsHurtLine : Line → Image → Session → Shown → Type 0
IsHurtLine line over session new = (left : Session) × (StandsReady new left × IsHurtIn line over session new left)

-- a fault of a session's calls in a line, each with its reason beside the counts
abbrev pub IsSessionFault : Line → Shown → Session → Shown → Fault → Type 0
IsSessionFault line old session new Disk = Unit {0}
IsSessionFault line old session new Memory = Unit {0}
IsSessionFault line old session new Damaged = IsHurtLine line old.reads session new × ((reads_blocks line ≡ true) ⊎ LacksSpace old session new)
IsSessionFault line old session new fault = ⊥

-- a session that hasn't failed, on its disk
pub record IsReady (disk : Shown) (session : Session) : Type 0 where
  pub unfailed : IsNone session.failed
  pub stands : StandsReady disk session

-- After a line the session stands for the next machine, and its last consistency point for that of before or for an earlier one; after a
-- `cp` the point stands for the next machine, too.
pub record StandsOnward (disk : Shown) (session : Session) (last m : Machine) (line : Line) : Type 0 where
  pub after : StandsAfter disk session last m (after_line m line)
  pub point : is_cp line ≡ true → StandsFor disk session (after_line m line) (after_line m line)

-- nothing of files waits in a session, and it asks for no more than the space rule keeps, for the event of a line or for none
pub record AsksFor (lines : List Line) (disk : Shown) (session : Session) : Type 0 where
  pub none : IsWithoutFiles session
  pub room : ℕ
  pub line : IsRoomIn lines room
  pub asks : AsksWithin disk session room

-- a session begins for a machine: it stands for it, and so does its last point, with nothing pending, and with the paths that its image shows
pub record BeginsFor (disk : Shown) (session : Session) (m : Machine) : Type 0 where
  pub stands : StandsFor disk session m m
  pub pending : session.pending ≡ 0
  pub paths : HasPathsOf disk.reads disk.reads session

-- A line is applied, and nothing is given.
pub record Applies (session : Session) (line : Line) (old : Shown) (new_session : Session) (new : Shown) (result : Result Reply Fault) : Type 0 where
  pub done : IsTrue old.tells → (last m : Machine) → StandsFor old session last m → IfOk result (λ reply. AllowsAt m line reply × StandsOnward new new_session last m line)
  pub any_moment : IsTrue old.tells → (last m : Machine) → StandsFor old session last m → Leaves old new (λ c g. OneOf last m (after_line m line) c × (g ≡ old.given))
  pub still : IsTrue old.tells → (last m : Machine) → StandsFor old session last m → ¬ Rose old.write_faults new.write_faults → OnErr result (StandsAfter new new_session last m m)
  pub no_damage : IsTrue old.tells → (last m : Machine) → StandsFor old session last m → IfErr result IsWholeFault
  pub ready : OnOk result (IsReady new new_session)
  pub ends : IfErr result (IsSessionFault line old session new)
  pub read : OnOk result (only_asks line ≡ true → IsAsRead session new_session)
  -- whatever the images stand for
  pub led : IsTrue old.tells → OnOk result (UndergoesLine line old.reads session new.reads new_session)
  pub asks : IsTrue old.tells → changes_volumes line ≡ false → (room : ℕ) → AsksWithin old session room → OnOk result ((more : ℕ) × IsRoomIn (line ∷ []) more × AsksWithin new new_session (max room more))
  pub given : new.given ≡ old.given
  pub left : new.ends.left ≡ old.ends.left
  pub counts : Counts old new (raised_by result)
  pub writes : OnOk result (new.write_faults ≡ old.write_faults)
  -- what is left to do
  pub less : LessByLine session line old new_session new result
  -- the paths to cells, and what a probe answers
  pub paths : PathsByLine session line old new_session new result
  pub calm : (pending : ℕ) → session.pending ≤ pending → asks_point (room_by session.volumes) pending line ≡ false → new.reads ≡ old.reads

-- ---- all lines

-- What was read and given so far: as many bytes of the script as the room fell by, and a line for each line read. A last line may have had
-- no end, where the source has said that it ends. At most one piece that was taken isn't read.
pub record HasRead (limit : ℕ) (old : Shown) (held : Held) (now : Shown) (count : ℕ) : Type 0 where
  pub output : List ℕ
  pub given : now.given ≡ old.given ++ output
  pub answered : whole output ≡ count
  pub read : List ℕ
  pub front : old.ends.left ≡ read ++ unread held now
  pub room : limit ≡ length read + held.room
  pub ended : (whole read ≡ count) ⊎ (unread held now ≡ [])
  pub most : whole read ≤ count
  pub all : held.ended ≡ false → whole read ≡ count
  pub piece : length held.bytes ≤ 65536
  pub knows : KnowsEnd held now

-- The last point of a session that answered the first `count` lines is after the last `cp` of them, or before one that asks for a point.
abbrev pub IsLastPoint : Machine → List Line → ℕ → ℕ → Type 0
IsLastPoint m lines count point = (point ≡ up_to_cp (take count lines)) ⊎ ((point < count) × (asks_behind (rooms_along m lines) lines point ≡ true))

-- With these rooms a session has no more pending than the first `count` lines leave, and the disk stays as it was while none of them asks for a point.
pub record IsCounted (rooms : ℕ → Command → ℕ) (lines : List Line) (old : Shown) (session : Session) (now : Shown) (count : ℕ) : Type 0 where
  pub pending : session.pending ≤ pending_behind rooms lines count
  pub quiet : ((line : ℕ) → line < count → asks_behind rooms lines line ≡ false) → now.reads ≡ old.reads

-- The first `count` of these lines are applied, whatever was said of them. The session stands for the machine after them, and its last
-- consistency point for the one after `point` of them.
pub record HasApplied (m : Machine) (lines : List Line) (old : Shown) (session : Session) (now : Shown) (count : ℕ) : Type 0 where
  pub within : count ≤ length lines
  pub point : ℕ
  pub least : up_to_cp (take count lines) ≤ point
  pub most : point ≤ count
  pub asked : IsLastPoint m lines count point
  pub counted : IsCounted (rooms_along m lines) lines old session now count
  pub stands : StandsFor now session (after m lines point) (after m lines count)

-- They are answered, too, and `left` are the others.
pub record HasAnswered (m : Machine) (lines left : List Line) (old : Shown) (session : Session) (now : Shown) (count : ℕ) : Type 0 where
  pub applied : HasApplied m lines old session now count
  pub replies : List Reply
  pub allowed : AnswersAll m (take count lines) replies
  pub given : now.given ≡ old.given ++ flat_map text replies
  pub answered : whole (flat_map text replies) ≡ count
  pub left_over : left ≡ drop count lines
  pub paths : HasPathsBehind m lines count old.reads now.reads session
  pub probes : TellPaths m lines old.reads replies
  pub crash : Leaves old now (Survives m lines old.given)

-- so many lines of a script are answered, on a session that began at `old`
pub record StandsAt (limit : ℕ) (first : Session) (old : Shown) (held : Held) (session : Session) (now : Shown) (count : ℕ) : Type 0 where
  pub ready : IsReady now session
  pub counts : Counts old now None
  pub writes : now.write_faults ≡ old.write_faults
  pub room : count + held.room ≤ limit
  pub reads : IsTrue old.tells → HasRead limit old held now count
  pub lines : IsTrue old.tells → (line : Line) → Contains (lines_built (unread held now)) line → Contains (lines_built old.ends.left) line
  pub behind : IsTrue old.tells → lines_built (unread held now) ≡ drop count (lines_built old.ends.left)
  -- each line was applied to the session that the one before it left
  pub course : IsTrue old.tells → UndergoesLines (lines_built old.ends.left) count old.reads first now.reads session
  -- over any disk
  pub counted : IsTrue old.tells → first.pending ≡ 0 → IsCounted most_rooms (lines_built old.ends.left) old session now count
  -- until a line has changed a volume that stays
  pub asks : IsTrue old.tells → AsksWithin old first 0 → IsWithoutFiles first → AsksFor (lines_built old.ends.left) now session ⊎ HasChanged (lines_built old.ends.left) count
  pub less : IsTrue old.tells → (m : Machine) → BeginsFor old first m → LessAlong m (lines_built old.ends.left) old.reads first now.reads session count
  pub answers : IsTrue old.tells → (m : Machine) → BeginsFor old first m → HasAnswered m (lines_built old.ends.left) (lines_built (unread held now)) old session now count

-- All lines are answered, and so many there are.
pub record IsAtEnd (limit : ℕ) (first : Session) (old : Shown) (session : Session) (now : Shown) (count : ℕ) : Type 0 where
  pub held : Held
  pub stands : StandsAt limit first old held session now count
  pub none : IsTrue old.tells → unread held now ≡ []

-- why a run that was opened ended, beside the counts of faults
abbrev pub IsEndOf : ℕ → Session → Shown → Shown → Fault → Type 0
IsEndOf limit first old new Source = Unit {0}
IsEndOf limit first old new Sink = Unit {0}
IsEndOf limit first old new Disk = Unit {0}
IsEndOf limit first old new Memory = Unit {0}
IsEndOf limit first old new Damaged = IsTrue old.tells → MeetsDamage (lines_built old.ends.left) first old new × (AsksWithin old first 0 → IsWithoutFiles first → IsSessionDamage (lines_built old.ends.left) first old new)
IsEndOf limit first old new Limit = IsTrue old.tells → IsPastLimit limit old new
IsEndOf limit first old new fault = ⊥

-- A run that ended before all was done.
pub record Stopped (limit : ℕ) (first : Session) (old new : Shown) (fault : Fault) : Type 0 where
  pub holds : IsTrue old.tells → (m : Machine) → BeginsFor old first m → Holds m (Err fault) old new × IsWholeFault fault
  pub counts : Counts old new (count_of fault)
  pub reason : IsEndOf limit first old new fault
  pub cut_off : IsTrue old.tells → IsOverLimit limit old new → fault ≡ Limit
  pub keeps_up : IsTrue old.tells → KeepsUp limit old new (Err fault)
  pub quiet : IsTrue old.tells → first.pending ≡ 0 → IsQuiet most_rooms (lines_built old.ends.left) old new

abbrev pub AnswersLines : ℕ → Session → Shown → Session → Shown → Result ℕ Fault → Type 0
AnswersLines limit first old session new (Ok count) = IsAtEnd limit first old session new count
AnswersLines limit first old session new (Err fault) = Stopped limit first old new fault
