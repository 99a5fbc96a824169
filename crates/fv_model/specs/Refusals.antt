-- When a command is refused, and the machine after it.
use Rattle.std.specs.Prelude.{ℕ, Bool, false, cond, not, ◌||◌, nat_lt, nat_le, List, [], ◌∷◌, Option, Some, None}
use Rattle.std.specs.List.{list_any}
use Rattle.std.specs.Option.{is_some, is_none, option_map_or}
use Rattle.std.specs.FinMap as fin
use Rattle.std.specs.FinSet as set
use Rattle.fv_model.specs.declared.answers.Refusal.{Refusal}
use Rattle.fv_model.specs.declared.answers.Refusal.TheVariants.{NoVolume, VolumeExists, NoFile, FileExists, NoSnapshot, SnapshotExists, VolumeFull, AggregateFull, Range, TooMany, SnapshotInUse, VolumeInUse, NotClone, ParentNotClean, WrongKind}
use Rattle.fv_model.specs.declared.commands.Command.{Command}
use Rattle.fv_model.specs.declared.commands.Command.TheVariants.{VolCreate, VolDestroy, VolResize, VolGuarantee, VolList, VolStat, New, Put, Get, Len, Cut, Remove, Ls, SnapCreate, SnapDelete, SnapRestore, SnapList, CloneCreate, SplitStart, SplitFinish, Mirror, Clean, Probe, Work, Cp}
use Rattle.fv_model.specs.Numbers.{is_size, is_reserve, is_index, is_step_count, most_volumes, most_snapshots, most_files, most_changes, greatest_span}
use Rattle.fv_model.specs.Spelling.{is_same_name}
use Rattle.fv_model.specs.Tables.{File, Table, file_named}
use Rattle.fv_model.specs.Places.{ids_of}
use Rattle.fv_model.specs.Volumes.{Base, Volume}
use Rattle.fv_model.specs.Machines.{Machine, capacity}
use Rattle.fv_model.specs.Space.{use_of, commits, span_of, is_file_kind}
use Rattle.fv_model.specs.Effects.{effect}

-- a test of the volume of a name, false where there is none
abbrev pub of_volume : Machine → List ℕ → (Volume → Bool) → Bool
of_volume m v test = option_map_or test (fin.get m.volumes v) false

-- the table that is asked: the active one, or that of a snapshot
abbrev pub table_asked : Volume → Option (List ℕ) → Option Table
table_asked x None = Some x.active
table_asked x (Some s) = fin.get x.snapshots s

-- a test of the table that is asked, and of a file in it; false where there is none
abbrev pub of_table : Machine → List ℕ → Option (List ℕ) → (Table → Bool) → Bool
of_table m v s test = of_volume m v (λ x. option_map_or test (table_asked x s) false)

abbrev pub of_file : Machine → List ℕ → Option (List ℕ) → List ℕ → (File → Bool) → Bool
of_file m v s f test = of_table m v s (λ t. option_map_or (λ e. test e.1) (file_named t f) false)

-- the volume isn't there, or is
abbrev pub is_missing : Machine → List ℕ → Bool
is_missing m v = is_none (fin.get m.volumes v)

abbrev pub is_taken : Machine → List ℕ → Bool
is_taken m v = is_some (fin.get m.volumes v)

-- the table that is asked has no such file, or has it
abbrev pub lacks_file : Machine → List ℕ → Option (List ℕ) → List ℕ → Bool
lacks_file m v s f = of_table m v s (λ t. is_none (file_named t f))

abbrev pub has_file : Machine → List ℕ → List ℕ → Bool
has_file m v f = of_table m v None (λ t. is_some (file_named t f))

-- the volume has no such snapshot, or has it
abbrev pub lacks_snapshot : Machine → List ℕ → Option (List ℕ) → Bool
lacks_snapshot m v s = of_volume m v (λ x. is_none (table_asked x s))

abbrev pub has_snapshot : Machine → List ℕ → List ℕ → Bool
has_snapshot m v s = of_volume m v (λ x. is_some (fin.get x.snapshots s))

-- the base of some volume passes a test
abbrev pub some_base : Machine → (Base → Bool) → Bool
some_base m test = list_any (λ e. option_map_or test e.1.base false) (fin.entries m.volumes)

-- a clone, being split or not, stands on the volume, or on its snapshot
abbrev pub is_parent : Machine → List ℕ → Bool
is_parent m v = some_base m (λ b. is_same_name b.parent v)

abbrev pub is_base : Machine → List ℕ → List ℕ → Bool
is_base m v s = some_base m (λ b. cond (is_same_name b.parent v) (is_same_name b.snapshot s) false)

-- a clone that is being split from its base; a clone that isn't
abbrev pub is_splitting : Volume → Bool
is_splitting x = option_map_or (λ b. b.splitting) x.base false

abbrev pub is_whole_clone : Volume → Bool
is_whole_clone x = option_map_or (λ b. not b.splitting) x.base false

-- one more volume, change, snapshot or file would be too many
abbrev pub has_all_volumes : Machine → Bool
has_all_volumes m = nat_le most_volumes (fin.len m.volumes)

abbrev pub has_all_changes : Machine → List ℕ → Bool
has_all_changes m v = of_volume m v (λ x. nat_le most_changes x.now)

abbrev pub has_all_files : Machine → List ℕ → Bool
has_all_files m v = of_table m v None (λ t. nat_le most_files (fin.len t.files))

abbrev pub has_all_snapshots : Machine → List ℕ → Bool
has_all_snapshots m v = of_volume m v (λ x. nat_le most_snapshots (fin.len x.snapshots))

-- the new volume's span would be too great: of a clone, and of a mirror
abbrev pub is_clone_too_wide : Machine → List ℕ → List ℕ → ℕ → Bool
is_clone_too_wide m v s size =
    of_volume m v (λ x. option_map_or (λ t. nat_lt greatest_span (span_of size (set.len (ids_of t)) x.span)) (fin.get x.snapshots s) false)

abbrev pub is_mirror_too_wide : Machine → List ℕ → ℕ → Bool
is_mirror_too_wide m v size = of_volume m v (λ x. nat_lt greatest_span (span_of size 0 x.span))

-- in the machine after a command, the volume uses more than its size; all volumes commit more than the capacity
abbrev pub is_volume_full : Machine → List ℕ → Bool
is_volume_full after v = of_volume after v (λ x. nat_lt x.size (use_of x))

abbrev pub is_aggregate_full : Machine → Bool
is_aggregate_full after = nat_lt (capacity after.blocks) (commits after)

-- a refusal with the condition under which it comes
abbrev pub Condition : Type 0
Condition = Refusal × Bool

abbrev pub space : Machine → Command → List ℕ → List Condition
space m c v = (VolumeFull, is_volume_full (effect m c) v) ∷ (AggregateFull, is_aggregate_full (effect m c)) ∷ []

-- what a command can be refused for, in the order in which it is tried
unfoldable pub conditions : Machine → Command → List Condition
conditions m (VolCreate v size kind) =
    (Range, not (is_size size)) ∷ (VolumeExists, is_taken m v) ∷ (TooMany, has_all_volumes m)
    ∷ (AggregateFull, is_aggregate_full (effect m (VolCreate v size kind))) ∷ []
conditions m (VolDestroy v) = (NoVolume, is_missing m v) ∷ (VolumeInUse, is_parent m v) ∷ []
conditions m (VolResize v size) =
    (Range, not (is_size size)) ∷ (NoVolume, is_missing m v) ∷ (Range, of_volume m v (λ x. nat_lt x.most size))
    ∷ space m (VolResize v size) v
conditions m (VolGuarantee v kind) = (NoVolume, is_missing m v) ∷ space m (VolGuarantee v kind) v
conditions m VolList = []
conditions m (VolStat v) = (NoVolume, is_missing m v) ∷ []
conditions m (New v f reserve) =
    (Range, not (is_reserve reserve)) ∷ (NoVolume, is_missing m v) ∷ (FileExists, has_file m v f)
    ∷ (WrongKind, of_volume m v (λ x. cond (nat_lt 0 reserve) (not (is_file_kind x.kind)) false))
    ∷ (TooMany, has_all_files m v || has_all_changes m v) ∷ space m (New v f reserve) v
conditions m (Put v f i block) =
    (Range, not (is_index i)) ∷ (NoVolume, is_missing m v) ∷ (NoFile, lacks_file m v None f)
    ∷ (TooMany, has_all_changes m v) ∷ space m (Put v f i block) v
conditions m (Get v s f i) =
    (Range, not (is_index i)) ∷ (NoVolume, is_missing m v) ∷ (NoSnapshot, lacks_snapshot m v s)
    ∷ (NoFile, lacks_file m v s f) ∷ (Range, of_file m v s f (λ file. nat_le file.length i)) ∷ []
conditions m (Len v s f) =
    (NoVolume, is_missing m v) ∷ (NoSnapshot, lacks_snapshot m v s) ∷ (NoFile, lacks_file m v s f) ∷ []
conditions m (Cut v f length) =
    (Range, not (is_reserve length)) ∷ (NoVolume, is_missing m v) ∷ (NoFile, lacks_file m v None f)
    ∷ (Range, of_file m v None f (λ file. nat_lt file.length length)) ∷ (TooMany, has_all_changes m v)
    ∷ space m (Cut v f length) v
conditions m (Remove v f) =
    (NoVolume, is_missing m v) ∷ (NoFile, lacks_file m v None f) ∷ (TooMany, has_all_changes m v)
    ∷ space m (Remove v f) v
conditions m (Ls v s) = (NoVolume, is_missing m v) ∷ (NoSnapshot, lacks_snapshot m v s) ∷ []
conditions m (SnapCreate v s) =
    (NoVolume, is_missing m v) ∷ (SnapshotExists, has_snapshot m v s) ∷ (TooMany, has_all_snapshots m v)
    ∷ space m (SnapCreate v s) v
conditions m (SnapDelete v s) =
    (NoVolume, is_missing m v) ∷ (NoSnapshot, lacks_snapshot m v (Some s)) ∷ (SnapshotInUse, is_base m v s) ∷ []
conditions m (SnapRestore v s) =
    (NoVolume, is_missing m v) ∷ (NoSnapshot, lacks_snapshot m v (Some s)) ∷ space m (SnapRestore v s) v
conditions m (SnapList v) = (NoVolume, is_missing m v) ∷ []
conditions m (CloneCreate c v s size kind) =
    (Range, not (is_size size)) ∷ (NoVolume, is_missing m v) ∷ (NoSnapshot, lacks_snapshot m v (Some s))
    ∷ (VolumeExists, is_taken m c) ∷ (VolumeInUse, of_volume m v is_splitting)
    ∷ (ParentNotClean, of_volume m v (λ x. not x.known)) ∷ (Range, is_clone_too_wide m v s size)
    ∷ (TooMany, has_all_volumes m) ∷ space m (CloneCreate c v s size kind) c
conditions m (SplitStart c) =
    (NoVolume, is_missing m c) ∷ (NotClone, of_volume m c (λ x. not (is_whole_clone x))) ∷ (VolumeInUse, is_parent m c)
    ∷ space m (SplitStart c) c
conditions m (SplitFinish c) = (NoVolume, is_missing m c) ∷ (NotClone, of_volume m c (λ x. not (is_splitting x))) ∷ []
conditions m (Mirror v s w size kind) =
    (Range, not (is_size size)) ∷ (NoVolume, is_missing m v) ∷ (NoSnapshot, lacks_snapshot m v (Some s))
    ∷ (VolumeExists, is_taken m w) ∷ (Range, is_mirror_too_wide m v size) ∷ (TooMany, has_all_volumes m)
    ∷ space m (Mirror v s w size kind) w
conditions m (Clean v) = (NoVolume, is_missing m v) ∷ (VolumeInUse, of_volume m v is_splitting) ∷ []
conditions m (Probe v f i) =
    (Range, not (is_index i)) ∷ (NoVolume, is_missing m v) ∷ (NoFile, lacks_file m v None f)
    ∷ (Range, of_file m v None f (λ file. nat_le file.length i)) ∷ []
conditions m (Work n) = (Range, not (is_step_count n)) ∷ []
conditions m Cp = []

-- the first refusal whose condition holds
abbrev pub first_of : List Condition → Option Refusal
first_of [] = None
first_of (r ∷ rs) = cond r.1 (Some r.0) (first_of rs)

abbrev pub refusal : Machine → Command → Option Refusal
refusal m c = first_of (conditions m c)

-- the machine after a command: as it was where the command is refused
abbrev pub next : Machine → Command → Machine
next m c = cond (is_some (refusal m c)) m (effect m c)

-- the volume that a command makes or names
abbrev pub home : Command → Option (List ℕ)
home (VolCreate v size kind) = Some v
home (VolDestroy v) = Some v
home (VolResize v size) = Some v
home (VolGuarantee v kind) = Some v
home VolList = None
home (VolStat v) = Some v
home (New v f reserve) = Some v
home (Put v f i block) = Some v
home (Get v s f i) = Some v
home (Len v s f) = Some v
home (Cut v f length) = Some v
home (Remove v f) = Some v
home (Ls v s) = Some v
home (SnapCreate v s) = Some v
home (SnapDelete v s) = Some v
home (SnapRestore v s) = Some v
home (SnapList v) = Some v
home (CloneCreate c v s size kind) = Some c
home (SplitStart c) = Some c
home (SplitFinish c) = Some c
home (Mirror v s w size kind) = Some w
home (Clean v) = Some v
home (Probe v f i) = Some v
home (Work n) = None
home Cp = None
