-- A clone of a session that has nothing in memory: what the rules of soundness ask of the table that it stands on.
use Rattle.std.proofs.Common.{◌≡◌, ◌⊎◌, ℕ, ◌<◌, ◌≤◌, true, false, not, ◌++◌, List, Option, Some, None, inl, inr, is_some, refl, sym, ap, subst, ◌∙◌, ⊎_elim, arith}
use Rattle.std.specs.Prelude.{map, nat_le}
use Rattle.std.specs.Option.{option_map, option_map_or}
use Rattle.std.proofs.lemmas.Bool.{and_from}
use Rattle.std.proofs.lemmas.Bool.Decides.{nat_tests}
use Rattle.fv_disk.specs.Shown.{Shown as Disk}
use Rattle.fv_laws.proofs.Lists.{In, from_map, in_map}
use Rattle.fv_tables.specs.Reached.{Item, is_listed, items}
use Rattle.fv_tables.specs.Told.{standing_at}
use Rattle.fv_tables.proofs.Items.{kept_items}
use Rattle.fv_image.specs.Chains.{under}
use Rattle.fv_image.specs.HintRules.{is_splitting}
use Rattle.fv_image.specs.Mapped.{AreInSlots}
use Rattle.fv_image.specs.Seen.{VolumeSeen, base_root, roots_of, seen, volume_seen}
use Rattle.fv_image.specs.Views.{Head, Rooted, Snap as HeadSnap, View}
use Rattle.fv_image.specs.Volumes.{snap_at, standing_of}
use Rattle.fv_image.specs.VolumeRules.{can_bear, has_footing}
use Rattle.fv_image.proofs.SameSeen.{seen_at}
use Rattle.fv_container.specs.declared.entry.Entry.{Entry}
use Rattle.fv_container.specs.Chains.{container_at, own_entry, parent_at, slot_count}
use Rattle.fv_volmap.specs.Slots.{IsVolume, has, slot_at, slot_of_base, stored_count}
use Rattle.fv_pool.specs.declared.pool.Pool.{Pool}
use Rattle.fv_volume.specs.declared.state.Base.{Base}
use Rattle.fv_volume.specs.declared.state.Snap.{Snap}
use Rattle.fv_volume.specs.declared.state.VolumeState.{VolumeState}
use Rattle.fv_volume.specs.OneVolume.{IsKeptTable, IsStanding, RootStands, base_table, blocks_in, tables_of}
use Rattle.fv_volume.specs.States.{States, footing_in, head_in, parent_in, placed_in, state_at, table_in, view_over}
use Rattle.fv_volume.proofs.EachRoot.{all_in}
use Rattle.fv_volume.proofs.KeptSlots.{snap_low}
use Rattle.fv_volumes.specs.Footing.{AreFooted, IsFooted, IsOnBase}
use Rattle.fv_volumes.proofs.Agreed.{root_agrees}
use Rattle.fv_volumes.proofs.BaseTold.{footed_root}
use Rattle.fv_volumes.proofs.FootedSeen.{base_reached}
use Rattle.fv_volumes.proofs.OnChains.{rests_by, stands_on}
use Rattle.fv_volumes.proofs.Told.{head_there}

-- the base table of a volume as one that it keeps
abbrev pub based_at : Base → Snap
based_at b = record { slot = slot_of_base; name = b.snapshot; table = b.table }

pub base_kept : (x : VolumeState) (b : Base) → x.base ≡ Some b → In (based_at b) (tables_of x)
base_kept x b based = subst (λ (o : Option Base). In (based_at b) (base_table o ++ x.snapshots)) (sym based) (inl refl)

pub snap_kept : (x : VolumeState) (q : Snap) → In q x.snapshots → In q (tables_of x)
snap_kept x q there = by x.base
  where
    by : (o : Option Base) → In q (base_table o ++ x.snapshots)
    by None = there
    by (Some b) = inr there

-- the slot of a root is one that stands on the disk
pub root_low : (h : Head) → AreInSlots h → (k : ℕ) (r : Rooted) → In {X = ℕ × Rooted} (k, r) (roots_of h) → k < stored_count
root_low h slots k r (inl e) = let zero_is : 0 ≡ k = ap (λ (p : ℕ × Rooted). p.0) e in omega (arith, zero_is)
root_low h slots k r (inr there) =
    let one = from_map (λ (p : HeadSnap). (p.slot, p.table)) (k, r) h.snapshots there in
    snap_low h slots k (subst (λ (n : ℕ). In n (map (λ (p : HeadSnap). p.slot) h.snapshots)) (ap (λ (p : ℕ × Rooted). p.0) one.2) (in_map (λ (p : HeadSnap). p.slot) one.0 h.snapshots one.1))

module _ (disk : Disk) (pool : Pool) (states : States) (parents : (s : ℕ) → parent_at pool.containers s ≡ parent_in (state_at states s)) (footed : AreFooted states pool.containers)
    (x : VolumeState) (low : x.slot < slot_count) (there : state_at states x.slot ≡ Some x) (others : (t : ℕ) (y : VolumeState) → state_at states t ≡ Some y → (y.slot ≡ t) × (IsStanding disk pool y × (IsVolume y.map × (y.map.span ≡ y.span)))) (b : Base) (based : x.base ≡ Some b) where
  abbrev w : View
  w = view_over pool states disk.reads

  abbrev s : ℕ
  s = x.slot

  abbrev h : Head
  h = head_in x

  abbrev root : Rooted
  root = table_in b.table

  abbrev es : List Item
  es = items (standing_of w s root)

  abbrev mine : (x.slot ≡ s) × (IsStanding disk pool x × (IsVolume x.map × (x.map.span ≡ x.span)))
  mine = others s x there

  on : IsFooted states x b
  on = stands_on states pool.containers parents footed s low x refl there b based

  -- The table lies whole in the slot of the base,
  pub base_stands : RootStands disk pool x slot_of_base b.table
  base_stands = (all_in (IsKeptTable disk pool x) (tables_of x) mine.1.0.kept (based_at b) (base_kept x b based)).1

  -- is a root of the parent,
  pub base_found : base_root w (footing_in b) ≡ Some root
  base_found = footed_root pool states disk.reads x b on ∙ (λ i. Some (table_in (sym on.table i)))

  here : es ≡ items (standing_at (blocks_in disk pool x slot_of_base) b.table.levels b.table.root)
  here = kept_items (blocks_in disk pool x slot_of_base) (under w s) b.table.levels b.table.root (root_agrees disk pool states parents x there mine.1.1.0 mine.1.1.1 slot_of_base b.table base_stands.trees)

  -- and reaches there what it reaches here.
  pub base_same : items (standing_of w b.parent root) ≡ es
  base_same = base_reached disk pool states parents footed s low x refl there others b based ∙ sym here

  member : (v : ℕ) → has v (slot_at x.map slot_of_base) ≡ is_listed es v
  member v = base_stands.reach v ∙ sym (ap (λ (is : List Item). is_listed is v) here)

  rests : IsOnBase pool.containers x
  rests = rests_by states pool.containers parents footed s low x refl there b based

  -- No entry of the volume's own lies under what it reaches,
  pub base_leaves : (v : ℕ) → is_listed es v ≡ true → is_some (w.entry s v) ≡ false
  unfolding view_over
  base_leaves v listed = ap (λ (o : Option Entry). is_some (placed_in pool.kept disk.reads o)) (rests.leaves v (member v ∙ listed))

  -- and what a slot of the volume has rests on it, or on an entry of its own.
  pub base_rests : (k v : ℕ) → k < stored_count → has v (slot_at x.map k) ≡ true → (is_some (w.entry s v) ≡ true) ⊎ (is_listed es v ≡ true)
  unfolding view_over
  base_rests k v few has_it = ⊎_elim
      (λ own. inl (placed (own_entry (container_at pool.containers s) v) own))
      (λ out. inr (sym (member v) ∙ out))
      (rests.rests k v few has_it)
    where
      placed : (o : Option Entry) → is_some o ≡ true → is_some (placed_in pool.kept disk.reads o) ≡ true
      placed None e = e
      placed (Some x) e = refl

  -- The parent can bear it.
  pub base_borne : has_footing (seen w) (volume_seen w s h) (footing_in b) ≡ true
  unfolding volume_seen
  base_borne =
      ap (λ (o : Option VolumeSeen). option_map_or (can_bear (volume_seen w s h) (footing_in b)) o false) (seen_at w b.parent (head_in on.parent) on.inside (head_there pool states disk.reads b.parent on.parent on.there))
      ∙ and_from (is_some (snap_at (head_in on.parent) b.slot)) _ (ap is_some on.found)
      (and_from (nat_le on.parent.span x.span) _ (at_most on.parent.span x.span on.span) (and_from on.parent.known _ on.known (whole_is on.parent.base on.whole)))
    where
      at_most : (a c : ℕ) → a ≤ c → nat_le a c ≡ true
      at_most a c le = grind (arith, nat_tests, le)

      whole_is : (o : Option Base) → option_map_or (λ (c : Base). c.splitting) o false ≡ false → not (is_splitting (option_map footing_in o)) ≡ true
      whole_is None e = refl
      whole_is (Some c) e = ap not e
