-- The ranges and limits of the machine's numbers, and the numbers of refusals.
use Rattle.std.specs.Prelude.{ℕ, Bool, ◌+◌, ◌-◌, ◌/◌, ◌^◌, ◌&&◌, nat_le}
use Rattle.fv_model.specs.declared.answers.Refusal.{Refusal}
use Rattle.fv_model.specs.declared.answers.Refusal.TheVariants.{Syntax, NoVolume, VolumeExists, NoFile, FileExists, NoSnapshot, SnapshotExists, VolumeFull, AggregateFull, Range, TooMany, SnapshotInUse, VolumeInUse, NotClone, ParentNotClean, WrongKind}

-- how many parts of size n are needed to hold a
abbrev pub ceil_div : ℕ → ℕ → ℕ
ceil_div a n = (a + n - 1) / n

-- the sizes that a volume can have
abbrev pub is_size : ℕ → Bool
is_size n = nat_le 1 n && nat_le n 500000

-- the reserves and lengths that a file can have
abbrev pub is_reserve : ℕ → Bool
is_reserve n = nat_le n 2097152

-- the indexes that a cell can have
abbrev pub is_index : ℕ → Bool
is_index n = nat_le n 2097151

-- the numbers of background steps that a command can ask for
abbrev pub is_step_count : ℕ → Bool
is_step_count n = nat_le n 1000000

abbrev pub most_volumes : ℕ
most_volumes = 64

abbrev pub most_snapshots : ℕ
most_snapshots = 24

abbrev pub most_files : ℕ
most_files = 262144

abbrev pub most_changes : ℕ
most_changes = 2 ^ 62

abbrev pub greatest_span : ℕ
greatest_span = 1048576

-- ---- the greatest numbers of blocks that follow from the greatest span

-- the blocks of a map of the greatest span: 32,768 bits a block
abbrev pub most_map_blocks : ℕ
most_map_blocks = 32

-- the overhead of the greatest span: the label, 32 blocks of the active map, and the container of 1,048,576 + 25 * 32 entries, which has
-- 4100 leaves of 256 entries with 17 nodes and a root over them
abbrev pub most_overhead : ℕ
most_overhead = 4151

-- the maps of 24 snapshots
abbrev pub most_snapshot_blocks : ℕ
most_snapshot_blocks = 768

-- what a volume asks a consistency point for: its overhead, and the maps of its snapshots
abbrev pub most_asked : ℕ
most_asked = 4919

-- the number under which users know a refusal
abbrev pub number_of : Refusal → ℕ
number_of Syntax = 1
number_of NoVolume = 2
number_of VolumeExists = 3
number_of NoFile = 4
number_of FileExists = 5
number_of NoSnapshot = 6
number_of SnapshotExists = 7
number_of VolumeFull = 8
number_of AggregateFull = 9
number_of Range = 10
number_of TooMany = 11
number_of SnapshotInUse = 12
number_of VolumeInUse = 13
number_of NotClone = 14
number_of ParentNotClean = 15
number_of WrongKind = 16
