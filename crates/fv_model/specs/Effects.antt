-- What each command does to a machine, looking at no limit.
use Rattle.std.specs.Prelude.{ℕ, ◌+◌, ◌*◌, Bool, true, false, List, Option, Some, None}
use Rattle.std.specs.Option.{option_map, option_map_or}
use Rattle.std.specs.FinMap as fin
use Rattle.std.specs.FinSet as set
use Rattle.fv_model.specs.declared.commands.Kind.{Kind}
use Rattle.fv_model.specs.declared.commands.Command.{Command}
use Rattle.fv_model.specs.declared.commands.Command.TheVariants.{VolCreate, VolDestroy, VolResize, VolGuarantee, New, Put, Cut, Remove, SnapCreate, SnapDelete, SnapRestore, CloneCreate, SplitStart, SplitFinish, Mirror, Clean}
use Rattle.fv_model.specs.Tables.{File, Table, empty_table, file_named, new, put, cut, rm}
use Rattle.fv_model.specs.Places.{ids_of}
use Rattle.fv_model.specs.Volumes.{Base, Volume}
use Rattle.fv_model.specs.Machines.{Machine}
use Rattle.fv_model.specs.Space.{span_of}

-- a command leaves the machine as it is, gives one name a volume, or takes one volume away
pub data Change : Type 0 where
  Stays : Change
  Becomes : (name : List ℕ) (volume : Volume) → Change
  Goes : (name : List ℕ) → Change

abbrev pub changed : Machine → Change → Machine
changed m Stays = m
changed m (Becomes name volume) = record m { volumes = fin.insert m.volumes name volume }
changed m (Goes name) = record m { volumes = fin.remove m.volumes name }

-- what happens to the volume of a name; nothing where there is none
abbrev pub at_volume : Machine → List ℕ → (Volume → Change) → Change
at_volume m v happens = option_map_or happens (fin.get m.volumes v) Stays

-- likewise with the number and the file of a name, and with the table of a snapshot
abbrev pub at_file : Volume → List ℕ → (ℕ → File → Change) → Change
at_file x f happens = option_map_or (λ e. happens e.0 e.1) (file_named x.active f) Stays

abbrev pub at_snapshot : Volume → List ℕ → (Table → Change) → Change
at_snapshot x s happens = option_map_or happens (fin.get x.snapshots s) Stays

-- a volume after a change: one more, and the new active table is made with its number as the stamp
abbrev pub stamped : Volume → (ℕ → Table) → Volume
stamped x table = record x { now = x.now + 1; active = table (x.now + 1) }

-- a new volume: its table is active, it has no snapshots, and it takes `now` from where its table came from
abbrev pub new_volume : ℕ → Kind → ℕ → ℕ → Table → Option Base → Bool → Volume
new_volume size kind span now table base known = record {
  kind = kind;
  size = size;
  most = 2 * size;
  span = span;
  now = now;
  active = table;
  snapshots = fin.empty;
  base = base;
  known = known;
}

abbrev pub empty_volume : ℕ → Kind → Volume
empty_volume size kind = new_volume size kind (span_of size 0 0) 0 empty_table None true

-- a clone of the volume x, named v, on the table t of its snapshot s
abbrev pub clone_of : List ℕ → Volume → List ℕ → Table → ℕ → Kind → Volume
clone_of v x s t size kind =
    new_volume size kind (span_of size (set.len (ids_of t)) x.span) x.now t (Some (record { parent = v; snapshot = s; table = t; splitting = false })) true

-- a mirror of the volume x with the table t of one of its snapshots
abbrev pub mirror_of : Volume → Table → ℕ → Kind → Volume
mirror_of x t size kind = new_volume size kind (span_of size 0 x.span) x.now t None false

abbrev pub being_split : Base → Base
being_split base = record base { splitting = true }

-- what each command changes; those that ask, `work` and `cp` change nothing
unfoldable pub change_of : Machine → Command → Change
change_of m (VolCreate v size kind) = Becomes v (empty_volume size kind)
change_of m (VolDestroy v) = Goes v
change_of m (VolResize v size) = at_volume m v (λ x. Becomes v (record x { size = size }))
change_of m (VolGuarantee v kind) = at_volume m v (λ x. Becomes v (record x { kind = kind }))
change_of m (New v f reserve) = at_volume m v (λ x. Becomes v (stamped x (new x.active f reserve)))
change_of m (Put v f i block) = at_volume m v (λ x. at_file x f (λ n file. Becomes v (stamped x (put x.active n file i block))))
change_of m (Cut v f length) = at_volume m v (λ x. at_file x f (λ n file. Becomes v (stamped x (cut x.active n file length))))
change_of m (Remove v f) = at_volume m v (λ x. at_file x f (λ n file. Becomes v (stamped x (rm x.active n))))
change_of m (SnapCreate v s) = at_volume m v (λ x. Becomes v (record x { snapshots = fin.insert x.snapshots s x.active }))
change_of m (SnapDelete v s) = at_volume m v (λ x. Becomes v (record x { snapshots = fin.remove x.snapshots s }))
change_of m (SnapRestore v s) = at_volume m v (λ x. at_snapshot x s (λ t. Becomes v (record x { active = t })))
change_of m (CloneCreate c v s size kind) = at_volume m v (λ x. at_snapshot x s (λ t. Becomes c (clone_of v x s t size kind)))
change_of m (Mirror v s w size kind) = at_volume m v (λ x. at_snapshot x s (λ t. Becomes w (mirror_of x t size kind)))
change_of m (SplitStart c) = at_volume m c (λ x. Becomes c (record x { base = option_map being_split x.base; known = false }))
change_of m (SplitFinish c) = at_volume m c (λ x. Becomes c (record x { base = None }))
change_of m (Clean v) = at_volume m v (λ x. Becomes v (record x { known = true }))
change_of m c = Stays

abbrev pub effect : Machine → Command → Machine
effect m c = changed m (change_of m c)
