-- Which commands are carried out so far, what a session answers to each, and how many blocks it may add.
use Rattle.std.specs.Prelude.{◌≡◌, ◌+◌, ℕ, ◌==◌, List, [], ◌∷◌, Option, Some, None, Bool, true, false, ◌||◌, if◌then◌else◌, nat_le}
use Rattle.std.specs.Option.{is_none, is_some, option_map_or}
use Rattle.std.specs.FinMap as fin
use Rattle.std.specs.FinSet as set
use Rattle.fv_model.specs.declared.answers.Refusal.TheVariants.{Syntax}
use Rattle.fv_model.specs.declared.answers.Reply.{Reply}
use Rattle.fv_model.specs.declared.answers.Reply.TheVariants.{Refused}
use Rattle.fv_model.specs.declared.commands.Command.{Command}
use Rattle.fv_model.specs.declared.commands.Command.TheVariants.{VolCreate, VolDestroy, VolResize, VolGuarantee, VolList, VolStat, New, Put, Get, Len, Cut, Remove, Ls, SnapCreate, SnapDelete, SnapRestore, SnapList, CloneCreate, SplitStart, SplitFinish, Mirror, Clean, Probe, Work, Cp}
use Rattle.fv_model.specs.declared.commands.Kind.{Kind}
use Rattle.fv_model.specs.Machines.{Machine}
use Rattle.fv_model.specs.Numbers.{greatest_span, is_index, is_reserve, is_size}
use Rattle.fv_model.specs.Places.{ids_of}
use Rattle.fv_model.specs.Refusals.{next}
use Rattle.fv_model.specs.Replies.{Allows}
use Rattle.fv_model.specs.Space.{map_blocks, overhead, span_of}
use Rattle.fv_model.specs.Volumes.{Volume}
use Rattle.fv_image.specs.Views.{slots}
use Rattle.fv_container.specs.Chains.{slot_count}
use Rattle.fv_volume.specs.declared.state.VolumeState.{VolumeState}
use Rattle.fv_volume.specs.Asking.{snap_named}
use Rattle.fv_volume.specs.Cloning.{count_in}
use Rattle.fv_volume.specs.Slots.{is_named}
use Rattle.fv_volume.specs.States.{States, state_at}

-- the commands that are built; the others are refused as no command, until they are. A file with a reserve is one of those.
unfoldable pub is_built : Command → Bool
is_built (New volume file reserve) = reserve == 0
is_built (SplitStart volume) = false
is_built (SplitFinish volume) = false
is_built command = true

-- whether a command counts the unknown pointers that it passes
unfoldable pub is_get : Command → Bool
is_get (Get volume snapshot file index) = true
is_get command = false

-- whether a command reads a block of a file
abbrev pub reads_cell : Command → Bool
reads_cell (Get volume snapshot file index) = true
reads_cell (Probe volume file index) = true
reads_cell command = false

-- whether a reply refuses the command
abbrev pub is_refusal : Reply → Bool
is_refusal (Refused refusal) = true
is_refusal reply = false

-- the machine after a command
unfoldable pub machine_after : Machine → Command → Machine
machine_after m command = if is_built command then next m command else m

-- a reply to a command
abbrev pub RepliesBy : Bool → Machine → Command → Reply → Type 0
RepliesBy true m command reply = Allows m command reply
RepliesBy false m command reply = reply ≡ Refused Syntax

abbrev pub Replies : Machine → Command → Reply → Type 0
Replies m command reply = RepliesBy (is_built command) m command reply

-- the volume whose files a command changes that is built
abbrev pub changed_by : Command → Option (List ℕ)
changed_by (New volume file reserve) = if reserve == 0 then Some volume else None
changed_by (Put volume file index block) = Some volume
changed_by (Cut volume file length) = Some volume
changed_by (Remove volume file) = Some volume
changed_by command = None

-- the volume that a command is about as a whole: it tells of it, gives it another size or kind of guarantee, or removes it
abbrev pub managed_by : Command → Option (List ℕ)
managed_by (VolDestroy volume) = Some volume
managed_by (VolResize volume size) = Some volume
managed_by (VolGuarantee volume kind) = Some volume
managed_by (VolStat volume) = Some volume
managed_by command = None

-- the volume of which a command makes, removes or restores a snapshot
abbrev pub snapped_by : Command → Option (List ℕ)
snapped_by (SnapCreate volume snapshot) = Some volume
snapped_by (SnapDelete volume snapshot) = Some volume
snapped_by (SnapRestore volume snapshot) = Some volume
snapped_by command = None

-- the volume and the snapshot of it that a command removes, or makes the active table
abbrev pub snapshot_needed : Command → Option (List ℕ × List ℕ)
snapshot_needed (SnapDelete volume snapshot) = Some (volume, snapshot)
snapshot_needed (SnapRestore volume snapshot) = Some (volume, snapshot)
snapshot_needed command = None

-- whether a command places what changed of a volume's files, for which it takes blocks and numbers
abbrev pub places_files : Command → Bool
places_files (SnapCreate volume snapshot) = true
places_files (SnapDelete volume snapshot) = true
places_files command = false

-- whether a command changes a volume that was there before it and is there after it, so that the next consistency point writes that volume
abbrev pub changes_volume : Command → Bool
changes_volume (VolResize volume size) = true
changes_volume (VolGuarantee volume kind) = true
changes_volume command = is_some (changed_by command) || is_some (snapped_by command)

-- whether a command removes a volume, which gives all its blocks back in memory
abbrev pub removes_volume : Command → Bool
removes_volume (VolDestroy volume) = true
removes_volume command = false

-- whether a command that reads no file may read leaves of containers: it removes a volume, or places what changed of a volume's files
abbrev pub reads_leaves : Command → Bool
reads_leaves command = removes_volume command || places_files command

-- the volume that a command asks for files
abbrev pub volume_asked : Command → Option (List ℕ)
volume_asked (Get volume snapshot file index) = Some volume
volume_asked (Len volume snapshot file) = Some volume
volume_asked (Ls volume snapshot) = Some volume
volume_asked (Probe volume file index) = Some volume
volume_asked command = None

-- the commands that are built and read blocks of files; each other one reaches the disk by a consistency point, or to read leaves of containers
unfoldable pub reads_files : Command → Bool
reads_files command = is_some (changed_by command) || is_some (volume_asked command)

-- Whether a command takes background steps, which fill in places of volumes that don't know them, with consistency points between the steps where
-- room is lacking. Each step has its own room, places the files in memory and changes a volume: what is said in this file of a command's room, of
-- the files that it places and of the volume that it changes is said of the other commands.
abbrev pub takes_steps : Command → Bool
takes_steps (Clean volume) = true
takes_steps (Work steps) = true
takes_steps command = false

-- whether a command reaches the disk beside what it reads and the point that makes room for it: it copies blocks, or takes steps
abbrev pub reaches_disk : Command → Bool
reaches_disk (Mirror source snapshot mirror size kind) = true
reaches_disk (Clean volume) = true
reaches_disk (Work steps) = true
reaches_disk command = false

-- whether a command that is done leaves to background steps what there was to do, where no file is in memory: it only asks, or is a `cp`
abbrev pub keeps_todo : Command → Bool
keeps_todo VolList = true
keeps_todo (VolStat volume) = true
keeps_todo (Get volume snapshot file index) = true
keeps_todo (Len volume snapshot file) = true
keeps_todo (Ls volume snapshot) = true
keeps_todo (SnapList volume) = true
keeps_todo (Probe volume file index) = true
keeps_todo Cp = true
keeps_todo command = false

-- the snapshot of it that is asked
abbrev pub snapshot_asked : Command → Option (List ℕ)
snapshot_asked (Get volume snapshot file index) = snapshot
snapshot_asked (Len volume snapshot file) = snapshot
snapshot_asked (Ls volume snapshot) = snapshot
snapshot_asked command = None

-- whether a command finds a file of the active table of a volume by its name, and leaves the names of all files: afterwards their numbers are in
-- memory
abbrev pub finds_file : Command → Bool
finds_file (Put volume file index block) = true
finds_file (Get volume snapshot file index) = is_none snapshot
finds_file (Len volume snapshot file) = is_none snapshot
finds_file (Cut volume file length) = true
finds_file (Probe volume file index) = true
finds_file command = false

-- the volume that may lose the numbers of its files: a file of it is made or removed, for which memory can lack, its active table becomes another
-- one, or it is removed itself
abbrev pub loses_numbers : Command → Option (List ℕ)
loses_numbers (New volume file reserve) = Some volume
loses_numbers (Remove volume file) = Some volume
loses_numbers (VolDestroy volume) = Some volume
loses_numbers (SnapRestore volume snapshot) = Some volume
loses_numbers command = None

-- whether the number of a command on a volume that is there is in its range
abbrev pub has_range : Command → Bool
has_range (VolResize volume size) = is_size size
has_range (Put volume file index block) = is_index index
has_range (Get volume snapshot file index) = is_index index
has_range (Cut volume file length) = is_reserve length
has_range (Probe volume file index) = is_index index
has_range command = true

-- so many blocks a command that changes a file adds at most
abbrev pub file_room : ℕ
file_room = 16

-- So many overheads a volume has at most, with the greatest span, 1,048,576: a label; 32 blocks of its active map; 4,100 leaves of its container, each for 256 of
-- 1,048,576 + 25 * 32 numbers; and 18 nodes above them, 17 and 1.
abbrev pub most_overhead : ℕ
most_overhead = 4151

-- so many blocks the map of a snapshot has at most: one for each 32,768 numbers of the greatest span
abbrev pub snap_room : ℕ
snap_room = 32

-- The room of a command: so many blocks it may add. A snapshot that is made adds the blocks of its map, and `maps` tells of each volume how many those
-- are. A volume that is made adds its overhead. A clone's comes of its span, and `spans` tells that of each volume, snapshot of it and size. A mirror's
-- comes of its span, which `wides` tells of each volume and size; and it adds the blocks that it copies, too, and `copies` tells of each volume,
-- snapshot of it and size how many those are.
unfoldable pub room_with : (List ℕ → ℕ) → (List ℕ → List ℕ → ℕ → ℕ) → (List ℕ → ℕ → ℕ) → (List ℕ → List ℕ → ℕ → ℕ) → Command → ℕ
room_with maps spans wides copies (VolCreate volume size kind) = overhead (span_of size 0 0)
room_with maps spans wides copies (New volume file reserve) = if reserve == 0 then file_room else 0
room_with maps spans wides copies (Put volume file index block) = file_room
room_with maps spans wides copies (Cut volume file length) = file_room
room_with maps spans wides copies (Remove volume file) = file_room
room_with maps spans wides copies (SnapCreate volume snapshot) = maps volume
room_with maps spans wides copies (CloneCreate clone parent snapshot size kind) = overhead (spans parent snapshot size)
room_with maps spans wides copies (Mirror source snapshot mirror size kind) = overhead (wides source size) + copies source snapshot size
room_with maps spans wides copies command = 0

-- the blocks of the map of a snapshot of a machine's volume; none where no volume has the name
abbrev pub map_in : Machine → List ℕ → ℕ
map_in m volume = option_map_or (λ v. map_blocks v.span) (fin.get m.volumes volume) 0

-- a span, no greater than a volume can have
abbrev pub span_within : ℕ → ℕ
span_within span = if nat_le span greatest_span then span else greatest_span

-- the span of a clone of this size of a snapshot of a volume, as far as a volume can have it; none where the volume hasn't that snapshot
abbrev pub span_on : Volume → List ℕ → ℕ → ℕ
span_on v snapshot size = option_map_or (λ t. span_within (span_of size (set.len (ids_of t)) v.span)) (fin.get v.snapshots snapshot) 0

-- that in a machine; none where no volume has the name
abbrev pub span_in : Machine → List ℕ → List ℕ → ℕ → ℕ
span_in m parent snapshot size = option_map_or (λ v. span_on v snapshot size) (fin.get m.volumes parent) 0

-- the span of a mirror of this size of a machine's volume, as far as a volume can have it; none where no volume has the name
abbrev pub wide_in : Machine → List ℕ → ℕ → ℕ
wide_in m source size = option_map_or (λ v. span_within (span_of size 0 v.span)) (fin.get m.volumes source) 0

-- so many blocks a mirror copies, no more than its size
abbrev pub copies_within : ℕ → ℕ → ℕ
copies_within size count = if nat_le count size then count else size

-- those of a snapshot of a volume; none where the volume hasn't that snapshot
abbrev pub copies_on : Volume → List ℕ → ℕ → ℕ
copies_on v snapshot size = option_map_or (λ t. copies_within size (set.len (ids_of t))) (fin.get v.snapshots snapshot) 0

-- that in a machine; none where no volume has the name
abbrev pub copies_in : Machine → List ℕ → List ℕ → ℕ → ℕ
copies_in m source snapshot size = option_map_or (λ v. copies_on v snapshot size) (fin.get m.volumes source) 0

-- the room of a command in a machine
abbrev pub room_of : Machine → Command → ℕ
room_of m command = room_with (map_in m) (span_in m) (wide_in m) (copies_in m) command

-- What is told of the slot of the first volume of a name in these slots; and what is told where no volume has it.
unfoldable pub first_among : (ℕ → ℕ) → ℕ → States → List ℕ → List ℕ → ℕ
first_among at none states [] name = none
first_among at none states (slot ∷ rest) name = if is_named (state_at states slot) name then at slot else first_among at none states rest name

-- the blocks of the map of a snapshot of a slot's volume; none of a free slot
abbrev pub map_at : Option VolumeState → ℕ
map_at None = 0
map_at (Some x) = map_blocks x.span

-- those of the first volume of a name in these slots; none where no volume has it
abbrev pub map_among : States → List ℕ → List ℕ → ℕ
map_among states some name = first_among (λ slot. map_at (state_at states slot)) 0 states some name

-- the span of a clone of a snapshot of a slot's volume, by the numbers in the snapshot's map slot; none of a free slot
abbrev pub span_at : Option VolumeState → List ℕ → ℕ → ℕ
span_at None snapshot size = 0
span_at (Some x) snapshot size = option_map_or (λ q. span_within (span_of size (count_in x q.slot) x.span)) (snap_named x.snapshots snapshot) 0

-- that of the first volume of a name in these slots; none where no volume has it
abbrev pub span_among : States → List ℕ → List ℕ → List ℕ → ℕ → ℕ
span_among states some parent snapshot size = first_among (λ slot. span_at (state_at states slot) snapshot size) 0 states some parent

-- the span of a mirror of a slot's volume; none of a free slot
abbrev pub wide_at : Option VolumeState → ℕ → ℕ
wide_at None size = 0
wide_at (Some x) size = span_within (span_of size 0 x.span)

-- that of the first volume of a name in these slots; none where no volume has it
abbrev pub wide_among : States → List ℕ → List ℕ → ℕ → ℕ
wide_among states some source size = first_among (λ slot. wide_at (state_at states slot) size) 0 states some source

-- so many blocks a mirror of a snapshot of a slot's volume copies, by the numbers in the snapshot's map slot; none of a free slot
abbrev pub copies_at : Option VolumeState → List ℕ → ℕ → ℕ
copies_at None snapshot size = 0
copies_at (Some x) snapshot size = option_map_or (λ q. copies_within size (count_in x q.slot)) (snap_named x.snapshots snapshot) 0

-- that of the first volume of a name in these slots; none where no volume has it
abbrev pub copies_among : States → List ℕ → List ℕ → List ℕ → ℕ → ℕ
copies_among states some source snapshot size = first_among (λ slot. copies_at (state_at states slot) snapshot size) 0 states some source

-- the room of a command by a session's volumes
abbrev pub room_by : States → Command → ℕ
room_by states command = room_with (map_among states slots) (span_among states slots) (wide_among states slots) (copies_among states slots) command

-- the most room of a command, whatever the volume and the snapshot
abbrev pub most_room : Command → ℕ
most_room command = room_with (λ volume. snap_room) (λ parent snapshot size. greatest_span) (λ source size. greatest_span) (λ source snapshot size. size) command

-- so many blocks may be pending, with the room of the next command, before a consistency point makes room for it
abbrev pub dirty_limit : ℕ
dirty_limit = 256

-- ---- what is asked for

-- what a call of a session asks for beside its room
pub data Asked : Type 0 where
  -- nothing
  AsksNothing : Asked
  -- a consistency point
  AsksPoint : Asked
  -- that what changed of the files of a slot's volume is placed
  AsksPlacing : (slot : ℕ) → Asked
  -- the leaves of the container of a slot's volume
  AsksLeaves : (slot : ℕ) → Asked
  -- the active table of a slot's volume, or that of a snapshot of it, and whether a cell of a file is read in it
  AsksTable : (slot : ℕ) (snapshot : Option (List ℕ)) (cell : Bool) → Asked
  -- copies of the blocks of a snapshot of a slot's volume, for a mirror of this name, size and kind
  AsksCopies : (slot : ℕ) (snapshot mirror : List ℕ) (size : ℕ) (kind : Kind) → Asked

-- it is copies that are asked for
abbrev pub AsksCopy : Asked → Type 0
AsksCopy (AsksCopies slot snapshot mirror size kind) = Unit {0}
AsksCopy asked = ⊥

-- the slot of the first volume of a name in these slots, and the one behind the last where none of them has it
abbrev pub slot_among : States → List ℕ → List ℕ → ℕ
slot_among states some name = first_among (λ slot. slot) slot_count states some name

abbrev pub slot_named : States → List ℕ → ℕ
slot_named states name = slot_among states slots name

-- What a command asks for by a session's volumes: a `cp` asks for a point; a snapshot that is made or removed for the placing of its
-- volume's files; the removal of a volume for the leaves of its container; a mirror for copies of its snapshot; a change of a file for the active
-- table of its volume, and a look at files for the table that it names.
unfoldable pub asked_by : States → Command → Asked
asked_by states (New volume file reserve) = if reserve == 0 then AsksTable (slot_named states volume) None false else AsksNothing
asked_by states (Put volume file index block) = AsksTable (slot_named states volume) None false
asked_by states (Get volume snapshot file index) = AsksTable (slot_named states volume) snapshot true
asked_by states (Len volume snapshot file) = AsksTable (slot_named states volume) snapshot false
asked_by states (Cut volume file length) = AsksTable (slot_named states volume) None false
asked_by states (Remove volume file) = AsksTable (slot_named states volume) None false
asked_by states (Ls volume snapshot) = AsksTable (slot_named states volume) snapshot false
asked_by states (Probe volume file index) = AsksTable (slot_named states volume) None true
asked_by states (SnapCreate volume snapshot) = AsksPlacing (slot_named states volume)
asked_by states (SnapDelete volume snapshot) = AsksPlacing (slot_named states volume)
asked_by states (VolDestroy volume) = AsksLeaves (slot_named states volume)
asked_by states (Mirror source snapshot mirror size kind) = AsksCopies (slot_named states source) snapshot mirror size kind
asked_by states Cp = AsksPoint
asked_by states command = AsksNothing
