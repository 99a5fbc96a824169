-- What a session with trees in memory tells.
use Rattle.std.proofs.Common.{◌≡◌, ℕ, List, map, Option, Some, None, ap}
use Rattle.std.specs.Option.{option_map_or}
use Rattle.std.specs.FinMap as fin
use Rattle.fv_disk.specs.Shown.{Image}
use Rattle.fv_model.specs.Spelling.{name_cmp}
use Rattle.fv_model.specs.Tables.{Table, empty_table}
use Rattle.fv_tables.specs.Spelled.{Under}
use Rattle.fv_tables.specs.Told.{standing_at, table_told}
use Rattle.fv_image.specs.Chains.{under}
use Rattle.fv_image.specs.Views.{Rooted, Snap, Head, View}
use Rattle.fv_image.specs.Volumes.{snap_told, base_from, volume_with, told_with, told}
use Rattle.fv_pool.specs.declared.pool.Pool.{Pool}
use Rattle.fv_volume.specs.States.{States, view_over}
use Rattle.fv_volume.specs.Trees.{Changed, Trees, active_by, machine_in, standing_in}

-- With no tree in memory a session stands for what its view tells.
pub unchanged_machine : (pool : Pool) (states : States) (trees : Trees) (i : Image) → ((s : ℕ) → trees s ≡ None) → machine_in pool states trees i ≡ told (view_over pool states i)
unfolding machine_in
unchanged_machine pool states trees i none = λ j. told_with (view_over pool states i) (λ s. active_by (view_over pool states i) s (none s j))

-- Over the same blocks snapshots have the same tables.
pub same_snaps : (w u : View) (s : ℕ) (snaps : List Snap) → under u s ≡ under w s → map (snap_told u s) snaps ≡ map (snap_told w s) snaps
same_snaps w u s snaps same = ap (λ (blocks : Under). map (λ (p : Snap). (p.name, table_told (standing_at blocks p.table.levels p.table.root))) snaps) same

-- A volume is told by its head, its active table, the tables of its snapshots and its base alone.
pub told_alike : (w u : View) (s : ℕ) (h : Head) (root : Rooted) (a b : Table) → base_from u h.base ≡ base_from w h.base → map (snap_told u s) h.snapshots ≡ map (snap_told w s) h.snapshots → b ≡ a
    → volume_with u s (record h { active = root }) b ≡ volume_with w s h a
unfolding volume_with
told_alike w u s h root a b base snaps same = λ i. record { kind = h.kind; size = h.size; most = h.most; span = h.span; now = h.now; active = same i; snapshots = fin.from_entries {R = name_cmp} (snaps i); base = base i; known = h.known }

-- A slot with the same head, over the same blocks, has the same active table.
pub same_active : (w u : View) (k : ℕ) → under u k ≡ under w k → u.head k ≡ w.head k → (o : Option Changed) → active_by u k o ≡ active_by w k o
same_active w u k same head None = λ i. option_map_or (λ (h : Head). table_told (standing_at (same i) h.active.levels h.active.root)) (head i) empty_table
same_active w u k same head (Some c) = ap (λ (blocks : Under). table_told (standing_in blocks c)) same
