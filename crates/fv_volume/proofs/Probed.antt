-- A probe of a cell is refused as a read of it is. The path to a cell of a table that a volume stands for has at most seven pointers.
use Rattle.std.proofs.Common.{◌≡◌, ◌≢◌, ℕ, zero, suc, ◌+◌, ◌/◌, ◌^◌, ◌≤◌, Bool, true, false, cond, not, ◌||◌, ◌==◌, nat_le, List, [], ◌∷◌, Option, Some, None, refl, sym, ap, subst, ◌∙◌, arith}
use Rattle.std.proofs.Math.Nat.{min-eq_left}
use Rattle.std.specs.Prelude.{min, Result, Ok, Err}
use Rattle.std.specs.Option.{is_none, option_map, option_map_or}
use Rattle.std.specs.FinMap as fin
use Rattle.fv_disk.specs.Shown.{Shown as Disk}
use Rattle.fv_codec.specs.Blocks.{greatest_word}
use Rattle.fv_codec.specs.declared.inode.InodeRecord.{InodeRecord}
use Rattle.fv_laws.specs.WellFormed.{IsWellTable}
use Rattle.fv_model.specs.declared.answers.Refusal.{Refusal}
use Rattle.fv_model.specs.declared.answers.Refusal.TheVariants.{NoFile, NoSnapshot, NoVolume, Range}
use Rattle.fv_model.specs.declared.commands.Command.TheVariants.{Get, Probe}
use Rattle.fv_model.specs.Machines.{Machine}
use Rattle.fv_model.specs.Numbers.{is_index}
use Rattle.fv_model.specs.Refusals.{conditions, first_of, refusal, table_asked}
use Rattle.fv_model.specs.Tables.{File, file_named}
use Rattle.fv_model.specs.Trees.{fan}
use Rattle.fv_model.specs.Volumes.{Volume}
use Rattle.fv_tables.specs.Spelled.{Rooted as Spelled, Under, pointer_at, stored}
use Rattle.fv_tables.specs.Told.{Standing, file_at, file_told, records_each, table_told, tree_of, tree_or, tree_told}
use Rattle.fv_tables.proofs.Tables.{files_told}
use Rattle.fv_tree.specs.declared.kept.Tree.{Tree}
use Rattle.fv_tree.specs.Beside.{unread}
use Rattle.fv_tree.specs.Flushing.{Loaded}
use Rattle.fv_tree.specs.Lookups.{cost_below, place_cost, way_cost}
use Rattle.fv_tree.specs.Standing.{standing, under}
use Rattle.fv_files.specs.declared.files.Files.{Files}
use Rattle.fv_files.specs.Calls.{way_in}
use Rattle.fv_files.specs.Tables.{file_loaded, tree_in}
use Rattle.fv_pool.specs.declared.fault.VolumeFault.{VolumeFault}
use Rattle.fv_pool.specs.declared.fault.VolumeFault.TheVariants.{Refused, DiskFault, Damaged, Memory}
use Rattle.fv_pool.specs.declared.pool.Pool.{Pool}
use Rattle.fv_pool.specs.declared.rooted.Rooted.{Rooted}
use Rattle.fv_pool.specs.Tables.{standing_by, trees_by}
use Rattle.fv_volume.specs.declared.state.VolumeState.{VolumeState}
use Rattle.fv_volume.specs.Asking.{table_named, IsRefusedUnread, RefusesLost}
use Rattle.fv_volume.specs.Calls.{Agrees}
use Rattle.fv_volume.specs.OneVolume.{shows, trees_for, IsStanding}
use Rattle.fv_volume.specs.Paths.{if_unknown, unknown_over}
use Rattle.fv_volume.proofs.Lookups.{told_by}

-- ---- refusals

-- a probe is refused as a read of the active table is
pub refused_alike : (m : Machine) (v f : List ℕ) (i : ℕ) → refusal m (Get v None f i) ≡ refusal m (Probe v f i)
unfolding conditions
refused_alike m v f i = by (fin.get m.volumes v)
  where
    by : (o : Option Volume) → first_of (
        (Range, not (is_index i))
        ∷ (NoVolume, is_none o)
        ∷ (NoSnapshot, option_map_or (λ (y : Volume). is_none (table_asked y None)) o false)
        ∷ (NoFile, option_map_or (λ (y : Volume). option_map_or (λ t. is_none (file_named t f)) (table_asked y None) false) o false)
        ∷ (Range, option_map_or (λ (y : Volume). option_map_or (λ t. option_map_or (λ (e : ℕ × File). nat_le e.1.length i) (file_named t f) false) (table_asked y None) false) o false)
        ∷ [])
        ≡ first_of (
        (Range, not (is_index i))
        ∷ (NoVolume, is_none o)
        ∷ (NoFile, option_map_or (λ (y : Volume). option_map_or (λ t. is_none (file_named t f)) (table_asked y None) false) o false)
        ∷ (Range, option_map_or (λ (y : Volume). option_map_or (λ t. option_map_or (λ (e : ℕ × File). nat_le e.1.length i) (file_named t f) false) (table_asked y None) false) o false)
        ∷ [])
    by None = refl
    by (Some y) = refl

pub probe_done : (m : Machine) (v f : List ℕ) (i : ℕ) → Agrees {T = Unit {0}} m (Get v None f i) (Ok tt) → (n : ℕ) → Agrees {T = ℕ} m (Probe v f i) (Ok n)
probe_done m v f i was n = sym (refused_alike m v f i) ∙ was

pub probe_fails : (m : Machine) (v f : List ℕ) (i : ℕ) (e : VolumeFault) → Agrees {T = Unit {0}} m (Get v None f i) (Err e) → Agrees {T = ℕ} m (Probe v f i) (Err e)
probe_fails m v f i (Refused r) was = sym (refused_alike m v f i) ∙ was
probe_fails m v f i DiskFault was = tt
probe_fails m v f i (Damaged at want found) was = tt
probe_fails m v f i Memory was = tt

-- a read of the active table is never refused for want of a snapshot
same_err : (a b : VolumeFault) → ◌≡◌ {A = Result (Unit {0}) VolumeFault} (Err a) (Err b) → a ≡ b
same_err a b is = cc

range_lost : Refused Range ≡ Refused NoSnapshot → ⊥
range_lost is = cc

active_lost : (x : VolumeState) → table_named x None ≡ None → ⊥
active_lost x none = cc

pub never_lost : {D : Type 0} (x : VolumeState) (old : D) (pool : Pool) (new : D) (left : Pool) (i : ℕ) (e : VolumeFault) → (is_index i ≡ false → IsRefusedUnread {T = Unit {0}} Range old pool new left (Err e))
    → (is_index i ≡ true → RefusesLost {T = Unit {0}} x None old pool new left (Err e)) → e ≢ Refused NoSnapshot
never_lost x old pool new left i e far near is = by (is_index i) refl
  where
    by : (b : Bool) → is_index i ≡ b → ⊥
    by false out = range_lost (sym (same_err e (Refused Range) (far out).answer) ∙ is)
    by true within = active_lost x ((near within).only (ap Err is))

-- ---- how many pointers a path has

-- a pointer counts one at most
one_place : (s : Loaded) (level place : ℕ) → place_cost if_unknown s level place ≤ 1
one_place s level place = by (s.changed level place || (pointer_at s.tree level place).stamp == 0) ((pointer_at s.tree level place).pvbn == 0)
  where
    by : (hole unknown : Bool) → cond hole 0 (cond unknown 1 0) ≤ 1
    by true unknown = omega arith
    by false true = omega arith
    by false false = omega arith

few_below : (s : Loaded) (i levels : ℕ) → cost_below if_unknown s i levels ≤ levels
unfolding cost_below
few_below s i zero = omega arith
few_below s i (suc level) = let here = one_place s level (i / fan ^ level) in let below = few_below s i level in omega (arith, here, below)

few_way : (s : Loaded) (most i : ℕ) → s.tree.levels ≤ most → way_cost if_unknown s i ≤ suc most
few_way s most i few = let below = few_below s i (suc s.tree.levels) in omega (arith, few, below)

-- the levels that a table tells are those of its trees
inode_levels : (now : ℕ) (t : Standing) → IsWellTable now (table_told t) → t.inode.levels ≤ 2
unfolding table_told tree_told
inode_levels now t well = well.levels

told_levels : (u : Spelled) (r : InodeRecord) → (file_told u r).tree.levels ≤ 3 → u.levels ≤ 3
unfolding file_told tree_told
told_levels u r few = few

file_levels : (now : ℕ) (t : Standing) → IsWellTable now (table_told t) → (n : ℕ) (r : InodeRecord) → file_at t.inode n ≡ Some r → (tree_of t n r).levels ≤ 3
file_levels now t well n r at = told_levels (tree_of t n r) r (well.files n (file_told (tree_of t n r) r) (files_told t n ∙ told_by t [] n r at)).levels

module _ (now : ℕ) (blocks : Under) (active : Rooted) (i : ℕ) where
  few_inodes : (o : Option Files) → IsWellTable now (table_told (standing_by blocks active o)) → way_in if_unknown (trees_by blocks active o None) i ≤ 3
  few_inodes None well = few_way _ 2 i (inode_levels now (standing_by blocks active None) well)
  few_inodes (Some f) well = few_way _ 2 i (inode_levels now (standing_by blocks active (Some f)) well)

  of_stored : (n : ℕ) (o : Option InodeRecord) → ((r : InodeRecord) → o ≡ Some r → r.levels ≤ 3) → way_in if_unknown (option_map (λ r. unread (stored blocks n r.levels r.root)) o) i ≤ 4
  of_stored n None few = omega arith
  of_stored n (Some r) few = few_way _ 3 i (few r refl)

  of_loaded : (n : ℕ) (f : Files) (o : Option InodeRecord) → ((r : InodeRecord) → o ≡ Some r → (tree_of (standing_by blocks active (Some f)) n r).levels ≤ 3) → way_in if_unknown (option_map (λ r. file_loaded blocks n r (tree_in f n)) o) i ≤ 4
  of_loaded n f None few = omega arith
  of_loaded n f (Some r) few = by (tree_in f n) (few r refl)
    where
      by : (u : Option Tree) → (tree_or (option_map (standing blocks) u) (stored blocks n r.levels r.root)).levels ≤ 3 → way_cost if_unknown (file_loaded blocks n r u) i ≤ 4
      by None low = few_way _ 3 i low
      by (Some t) low = few_way _ 3 i low

  few_file : (n : ℕ) (o : Option Files) → IsWellTable now (table_told (standing_by blocks active o)) → way_in if_unknown (trees_by blocks active o (Some n)) i ≤ 4
  few_file n None well = of_stored n (file_at (stored blocks greatest_word active.levels active.root) n) (file_levels now (standing_by blocks active None) well n)
  few_file n (Some f) well = of_loaded n f (file_at (standing blocks f.inode.tree) n) (file_levels now (standing_by blocks active (Some f)) well n)

-- at most seven unknown pointers lie on the path to a cell
pub few_unknown : (d : Disk) (p : Pool) (x : VolumeState) → IsStanding d p x → (n i : ℕ) → unknown_over (trees_for d p x) n i ≤ 7
few_unknown d p x is n i =
    let inodes = few_inodes x.now (under (shows d p x)) x.active (n / records_each) x.files is.table in
    let cells = few_file x.now (under (shows d p x)) x.active i n x.files is.table in
    omega (arith, inodes, cells)

-- ---- the number that is answered

pub told_number : (number count steps start path : ℕ) → number ≡ min count 7 → (steps ≤ greatest_word → count ≡ steps) → start ≡ 0 → steps ≡ start + path → path ≤ 7 → number ≡ path
told_number number count steps start path is counted none rose few =
    let same : steps ≡ path = omega (arith, none, rose) in
    let exact : count ≡ path = counted (omega (arith, same, few)) ∙ same in
    is ∙ ap (λ (n : ℕ). min n 7) exact ∙ min-eq_left few
