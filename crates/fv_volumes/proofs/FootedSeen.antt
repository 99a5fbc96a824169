-- The view of a session tells the base of each clone as the clone does by the slot of its base.
use Rattle.std.proofs.Common.{◌≡◌, ◌<◌, ℕ, Option, Some, None, refl, sym, ap, subst, ◌∙◌}
use Rattle.std.specs.Option.{option_map}
use Rattle.fv_disk.specs.Shown.{Shown as Disk}
use Rattle.fv_laws.proofs.Lists.{In, from_map}
use Rattle.fv_tables.specs.Told.{standing_at, table_told}
use Rattle.fv_container.specs.Chains.{parent_at, slot_count}
use Rattle.fv_image.specs.Views.{Snap as HeadSnap, View}
use Rattle.fv_image.specs.Volumes.{base_from, snap_at, standing_of, table_at}
use Rattle.fv_volmap.specs.Slots.{IsVolume, slot_of_base}
use Rattle.fv_pool.specs.declared.pool.Pool.{Pool}
use Rattle.fv_volume.specs.declared.state.Base.{Base}
use Rattle.fv_volume.specs.declared.state.Snap.{Snap}
use Rattle.fv_volume.specs.declared.state.VolumeState.{VolumeState}
use Rattle.fv_volumes.specs.Footing.{AreFooted, IsFooted}
use Rattle.fv_volume.specs.OneVolume.{base_by, blocks_in, IsKeptTable, IsStanding, RootStands}
use Rattle.fv_volume.specs.NewClone.{RestsOn}
use Rattle.fv_volume.specs.States.{States, footing_in, head_in, parent_in, snap_in, state_at, table_in, view_over}
use Rattle.fv_volume.proofs.Based.{based_blocks}
use Rattle.fv_volume.proofs.EachRoot.{all_in}
use Rattle.fv_tables.specs.Spelled.{Under}
use Rattle.fv_tables.specs.Reached.{items}
use Rattle.fv_tables.proofs.Items.{kept_items}
use Rattle.fv_tables.proofs.Tables.{kept_table}
use Rattle.fv_image.specs.Chains.{under}
use Rattle.fv_pool.specs.declared.rooted.Rooted.{Rooted}
use Rattle.fv_volumes.proofs.Agreed.{root_agrees}
use Rattle.fv_volumes.proofs.BaseTold.{footed_base}
use Rattle.fv_volumes.proofs.OnChains.{rests_on, stands_on}
use Rattle.fv_volume.proofs.KnownBases.{found_slot}
use Rattle.fv_volume.proofs.TablesOf.{snaps_all}

-- The slot of a base, read through the parent, has the table that the view tells of the parent's snapshot.
based_table : (disk : Disk) (pool : Pool) (x : VolumeState) (k : ℕ) (y : VolumeState) (j : ℕ) → RestsOn pool.containers x k y j → (states : States) (parents : (s : ℕ) → parent_at pool.containers s ≡ parent_in (state_at states s))
    → state_at states y.slot ≡ Some y → IsVolume y.map → y.map.span ≡ y.span → (root : Rooted) → RootStands disk pool y j root
    → table_at (view_over pool states disk.reads) y.slot (record { levels = root.levels; root = root.root }) ≡ table_told (standing_at (blocks_in disk pool x k) root.levels root.root)
based_table disk pool x k y j rests states parents there whole span root is =
    kept_table (blocks_in disk pool y j) (under (view_over pool states disk.reads) y.slot) root.levels root.root (root_agrees disk pool states parents y there whole span j root is.trees)
    ∙ ap (λ (b : Under). table_told (standing_at b root.levels root.root)) (sym (based_blocks disk pool x k y j rests))

module _ (disk : Disk) (pool : Pool) (states : States) (parents : (s : ℕ) → parent_at pool.containers s ≡ parent_in (state_at states s)) (are : AreFooted states pool.containers) (s : ℕ) (low : s < slot_count) (x : VolumeState) (at : x.slot ≡ s) (there : state_at states s ≡ Some x)
    (others : (t : ℕ) (y : VolumeState) → state_at states t ≡ Some y → (y.slot ≡ t) × (IsStanding disk pool y × (IsVolume y.map × (y.map.span ≡ y.span)))) where
  abbrev u : View
  u = view_over pool states disk.reads

  module _ (b : Base) (based : x.base ≡ Some b) where
    abbrev is : IsFooted states x b
    is = stands_on states pool.containers parents are s low x at there b based

    abbrev y : VolumeState
    y = is.parent

    abbrev its : (y.slot ≡ b.parent) × (IsStanding disk pool y × (IsVolume y.map × (y.map.span ≡ y.span)))
    its = others b.parent y is.there

    rests : RestsOn pool.containers x slot_of_base y b.slot
    rests = rests_on states pool.containers parents are s low x at there b based y its.0 is.there

    -- the snapshot's table lies in its slot
    in_slot : (q : Snap) × In q y.snapshots × (snap_in q ≡ snap_in is.snap)
    unfolding snap_at
    in_slot = from_map snap_in (snap_in is.snap) y.snapshots (found_slot b.slot (head_in y).snapshots (snap_in is.snap) is.found).0

    slot_is : is.snap.slot ≡ b.slot
    unfolding snap_at
    slot_is = (found_slot b.slot (head_in y).snapshots (snap_in is.snap) is.found).1

    table_is : in_slot.0.table ≡ is.snap.table
    table_is = λ i. record { levels = (in_slot.2 i).table.levels; root = (in_slot.2 i).table.root }

    stood : RootStands disk pool y b.slot is.snap.table
    stood = subst (RootStands disk pool y b.slot) table_is (subst (λ (k : ℕ). RootStands disk pool y k in_slot.0.table) (ap (λ (p : HeadSnap). p.slot) in_slot.2 ∙ slot_is)
        (all_in (IsKeptTable disk pool y) y.snapshots (snaps_all (IsKeptTable disk pool y) y its.1.0.kept) in_slot.0 in_slot.1).1)

    told_alike : table_at u b.parent (table_in is.snap.table) ≡ table_told (standing_at (blocks_in disk pool x slot_of_base) b.table.levels b.table.root)
    told_alike =
        ap (λ (n : ℕ). table_at u n (table_in is.snap.table)) (sym its.0)
        ∙ based_table disk pool x slot_of_base y b.slot rests states parents (ap (state_at states) its.0 ∙ is.there) its.1.1.0 its.1.1.1 is.snap.table stood
        ∙ (λ i. table_told (standing_at (blocks_in disk pool x slot_of_base) (sym is.table i).levels (sym is.table i).root))

    -- What the base table reaches in the view is what it reaches over the slot of the base.
    pub base_reached : items (standing_of u b.parent (table_in b.table)) ≡ items (standing_at (blocks_in disk pool x slot_of_base) b.table.levels b.table.root)
    base_reached =
        (λ i. items (standing_of u (sym its.0 i) (table_in (is.table i))))
        ∙ kept_items (blocks_in disk pool y b.slot) (under u y.slot) is.snap.table.levels is.snap.table.root
        (root_agrees disk pool states parents y (ap (state_at states) its.0 ∙ is.there) its.1.1.0 its.1.1.1 b.slot is.snap.table stood.trees)
        ∙ ap (λ (n : Under). items (standing_at n is.snap.table.levels is.snap.table.root)) (sym (based_blocks disk pool x slot_of_base y b.slot rests))
        ∙ (λ i. items (standing_at (blocks_in disk pool x slot_of_base) (sym is.table i).levels (sym is.table i).root))

    base_there : base_from u (Some (footing_in b)) ≡ base_by (blocks_in disk pool x) (Some b)
    base_there = footed_base pool states disk.reads x b is (blocks_in disk pool x) told_alike

  -- So it is with a volume that stands on none, too.
  pub base_seen : base_from u (head_in x).base ≡ base_by (blocks_in disk pool x) x.base
  base_seen = by x.base refl
    where
      by : (o : Option Base) → x.base ≡ o → base_from u (option_map footing_in o) ≡ base_by (blocks_in disk pool x) o
      by None e = refl
      by (Some b) e = base_there b e
