-- What the maps of a volume with nothing of it in memory have is what its roots reach, in any view of a session in which it lies.
use Rattle.std.proofs.Common.{◌≡◌, ℕ, Some, None, sym, ap, ◌∙◌}
use Rattle.std.specs.Prelude.{slice_index_or}
use Rattle.fv_disk.specs.Shown.{Shown as Disk}
use Rattle.fv_tables.specs.Reached.{items, is_listed}
use Rattle.fv_tables.specs.Told.{standing_at}
use Rattle.fv_tables.proofs.Items.{kept_items}
use Rattle.fv_files.specs.Tables.{AreReached}
use Rattle.fv_image.specs.Chains.{under}
use Rattle.fv_image.specs.Views.{View}
use Rattle.fv_image.specs.Volumes.{standing_of}
use Rattle.fv_container.specs.Chains.{parent_at}
use Rattle.fv_volmap.specs.Slots.{IsVolume, has, slot_at}
use Rattle.fv_pool.specs.declared.pool.Pool.{Pool}
use Rattle.fv_pool.specs.declared.rooted.Rooted.{Rooted}
use Rattle.fv_volume.specs.declared.state.Snap.{Snap}
use Rattle.fv_volume.specs.declared.state.VolumeState.{VolumeState}
use Rattle.fv_volumes.specs.Housed.{ReachesAll}
use Rattle.fv_volume.specs.OneVolume.{blocks_in, uses_in, IsKeptTable, IsStanding}
use Rattle.fv_volume.specs.Placing.{IsLedTo}
use Rattle.fv_volume.specs.States.{States, head_in, parent_in, state_at, table_in, view_over}
use Rattle.fv_volume.proofs.EachRoot.{each_root, root_there}
use Rattle.fv_volume.proofs.ActiveStands.{active_reach, active_reached}
use Rattle.fv_volumes.proofs.Agreed.{root_agrees}
use Rattle.fv_volume.proofs.TablesOf.{snaps_all}

-- ---- in a view

module _ (disk : Disk) (pool : Pool) (states : States) (x : VolumeState) (there : state_at states x.slot ≡ Some x) (parents : (s : ℕ) → parent_at pool.containers s ≡ parent_in (state_at states s)) (whole : IsVolume x.map) (span : x.map.span ≡ x.span) where
  abbrev u : View
  u = view_over pool states disk.reads

  -- a slot has the numbers that a root reaches in the view
  abbrev Reaches : ℕ → Rooted → Type 0
  Reaches k root = (v : ℕ) → has v (slot_at x.map k) ≡ is_listed (items (standing_of u x.slot (table_in root))) v

  root_reaches : (k : ℕ) (root : Rooted) → AreReached (blocks_in disk pool x k) (uses_in pool x k) root.levels root.root
      → ((v : ℕ) → has v (slot_at x.map k) ≡ is_listed (items (standing_at (blocks_in disk pool x k) root.levels root.root)) v) → Reaches k root
  root_reaches k root trees reach v =
      reach v ∙ sym (ap (λ es. is_listed es v) (kept_items (blocks_in disk pool x k) (under u x.slot) root.levels root.root (root_agrees disk pool states parents x there whole span k root trees)))

  kept_reaches : (q : Snap) → IsKeptTable disk pool x q → Reaches q.slot q.table
  kept_reaches q kept = root_reaches q.slot q.table kept.1.trees kept.1.reach

  -- So each slot has the numbers that its root reaches, as a consistency point asks.
  pub standing_reach : IsStanding disk pool x → x.files ≡ None → IsLedTo disk pool x → ReachesAll u x.slot x
  standing_reach is none led k r at = each_root x Reaches
      (root_reaches 0 x.active (active_reached disk pool x is none) (active_reach disk pool x is none led))
      (λ n q lt. kept_reaches (slice_index_or x.snapshots n q) (snaps_all (IsKeptTable disk pool x) x is.kept n q lt))
      k r (root_there (head_in x) k r at)
