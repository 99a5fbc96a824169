-- What all roots of a volume reach has an id of its own under each VVBN.
use Rattle.std.proofs.Common.{◌≡◌, ◌≢◌, ℕ, ◌≤◌, Bool, true, false, not, ◌&&◌, List, [], ◌∷◌, ◌++◌, flat_map, inl, inr, Option, Some, None, refl, sym, ap, subst, ◌∙◌, arith}
use Rattle.std.specs.Prelude.{◌==◌, All}
use Rattle.std.specs.List.{list_all}
use Rattle.std.specs.Option.{option_map_or}
use Rattle.std.proofs.lemmas.Bool.{and_from, and_parts}
use Rattle.std.proofs.lemmas.Bool.Decides.{nat_tests}
use Rattle.fv_disk.specs.Shown.{Shown as Disk}
use Rattle.fv_codec.specs.declared.inode.InodeRecord.{InodeRecord}
use Rattle.fv_codec.specs.declared.pointer.Pointer.{Pointer}
use Rattle.fv_model.specs.Places.{Id, InodeFile, OfFile, Owner}
use Rattle.fv_laws.proofs.Lists.{In, from_flat_map, from_map, in_either, in_left, in_right}
use Rattle.fv_laws.proofs.Tests.{from_all}
use Rattle.fv_tables.specs.Ids.{id_of, owner_of}
use Rattle.fv_tables.specs.Reached.{Item, items}
use Rattle.fv_tables.specs.Spelled.{Under, hole, pointer_at}
use Rattle.fv_tables.specs.Told.{standing_at, tree_of}
use Rattle.fv_tables.proofs.Items.{from_trees}
use Rattle.fv_tables.proofs.Listed.{IsOneToOne}
use Rattle.fv_tables.proofs.TablePlaces as place
use Rattle.fv_files.specs.Apart.{Trees, stored_trees}
use Rattle.fv_files.specs.Sharing.{owner_in}
use Rattle.fv_image.specs.Views.{Rooted as Table, Snap as HeadSnap}
use Rattle.fv_tree.specs.Sources.{Use}
use Rattle.fv_pool.specs.declared.pool.Pool.{Pool}
use Rattle.fv_pool.specs.declared.rooted.Rooted.{Rooted}
use Rattle.fv_volmap.specs.Slots.{Slot, slot_of_base}
use Rattle.fv_volume.specs.declared.state.Base.{Base as StateBase}
use Rattle.fv_volume.specs.declared.state.Snap.{Snap}
use Rattle.fv_volume.specs.declared.state.VolumeState.{VolumeState}
use Rattle.fv_volume.specs.OneVolume.{base_table, blocks_in, standing_kept, tables_of, IsKeptTable, IsTableIn, RootStands}
use Rattle.fv_volume.specs.Sharing.{differs_in, pointer_in, trees_kept, SharesWith}
use Rattle.fv_volume.specs.States.{head_in, snap_in, snaps_in}
use Rattle.fv_volume.proofs.EachRoot.{all_in}
use Rattle.fv_volume.proofs.SettledTables.{few_levels}
use Rattle.fv_volume.proofs.SharedRoots.{same_number, stored_place, stored_same}
use Rattle.fv_volume.proofs.AllRoots.{active_root, roots, EachShares}

-- ---- what a table reaches, by its places

-- An item stands at a place of a tree of a table, with the pointer there.
record StandsAt (trees : Trees) (e : Item) : Type 0 where
  owner : Option ℕ
  named : owner_in owner ≡ owner_of e.owner
  some : (pointer_in (trees owner) e.level e.place).stamp ≢ 0
  stamp : (pointer_in (trees owner) e.level e.place).stamp ≡ e.pointer.stamp
  vvbn : (pointer_in (trees owner) e.level e.place).vvbn ≡ e.pointer.vvbn

module _ (blocks : Under) (levels : ℕ) (root : Pointer) (few : levels ≤ 2) where
  abbrev at : Owner → ℕ → ℕ → Pointer
  at = place.pointer_in blocks levels root

  -- the pointer of an item is that of its place, and leads somewhere
  abbrev is_stood : Item → Bool
  is_stood e = not (e.pointer.stamp == 0) && ((e.pointer.stamp == (at (owner_of e.owner) e.level e.place).stamp) && (e.pointer.vvbn == (at (owner_of e.owner) e.level e.place).vvbn))

  -- a pointer that leads somewhere passes with itself
  stood : (p q : Pointer) → p.stamp ≢ 0 → q ≡ p → (not (p.stamp == 0) && ((p.stamp == q.stamp) && (p.vvbn == q.vvbn))) ≡ true
  stood p q some same =
      let first : (p.stamp == 0) ≡ false = grind (arith, nat_tests, some) in
      let stamps : p.stamp ≡ q.stamp = ap (λ (r : Pointer). r.stamp) (sym same) in
      let vvbns : p.vvbn ≡ q.vvbn = ap (λ (r : Pointer). r.vvbn) (sym same) in
      let second : (p.stamp == q.stamp) ≡ true = grind (arith, nat_tests, stamps) in
      let third : (p.vvbn == q.vvbn) ≡ true = grind (arith, nat_tests, vvbns) in
      and_from (not (p.stamp == 0)) _ (ap not first) (and_from (p.stamp == q.stamp) _ second third)

  -- so does each item that a table reaches
  all_stood : list_all is_stood (items (standing_at blocks levels root)) ≡ true
  all_stood = from_trees is_stood (standing_at blocks levels root)
      (λ level index some. stood (at InodeFile level index) (at InodeFile level index) some refl)
      (λ n r is level index some.
      let same : at (OfFile n) level index ≡ pointer_at (tree_of (standing_at blocks levels root) n r) level index = ap (λ (o : Option InodeRecord). option_map_or (λ r. pointer_at (tree_of (standing_at blocks levels root) n r) level index) o hole) is in
      let leads : (at (OfFile n) level index).stamp ≢ 0 = subst (λ (q : Pointer). q.stamp ≢ 0) (sym same) some in
      stood (pointer_at (tree_of (standing_at blocks levels root) n r) level index) (at (owner_of n) level index) some (ap (λ (o : Owner). at o level index) (place.owner_is blocks levels root few n level index leads) ∙ same))

  -- the tree of an owner
  number_of : Owner → Option ℕ
  number_of InodeFile = None
  number_of (OfFile n) = Some n

  -- whose owner it is
  owner_back : (o : Owner) → owner_in (number_of o) ≡ o
  unfolding number_of
  owner_back InodeFile = refl
  owner_back (OfFile n) = refl

  -- So each item that a table reaches stands at a place.
  stands_at : (e : Item) → In e (items (standing_at blocks levels root)) → StandsAt (stored_trees blocks levels root) e
  stands_at e there =
      let parts = and_parts (not (e.pointer.stamp == 0)) _ (from_all is_stood (items (standing_at blocks levels root)) all_stood e there) in
      let both = and_parts (e.pointer.stamp == (at (owner_of e.owner) e.level e.place).stamp) _ parts.1 in
      let stamps : e.pointer.stamp ≡ (at (owner_of e.owner) e.level e.place).stamp = grind (arith, nat_tests, both.0) in
      let vvbns : e.pointer.vvbn ≡ (at (owner_of e.owner) e.level e.place).vvbn = grind (arith, nat_tests, both.1) in
      let here : pointer_in (stored_trees blocks levels root (number_of (owner_of e.owner))) e.level e.place ≡ at (owner_of e.owner) e.level e.place =
      stored_place blocks levels root (number_of (owner_of e.owner)) e.level e.place ∙ ap (λ (o : Owner). at o e.level e.place) (owner_back (owner_of e.owner)) in
      let stamp = ap (λ (q : Pointer). q.stamp) here ∙ sym stamps in
      record {
        owner = number_of (owner_of e.owner);
        named = owner_back (owner_of e.owner);
        some = λ none. (let test : (e.pointer.stamp == 0) ≡ true = (let zero_is : e.pointer.stamp ≡ 0 = sym stamp ∙ none in grind (arith, nat_tests, zero_is)) in wrong (sym (ap not test) ∙ parts.0));
        stamp = stamp;
        vvbn = ap (λ (q : Pointer). q.vvbn) here ∙ sym vvbns;
      }
    where
      wrong : false ≡ true → ⊥
      wrong e = cc

-- ---- two tables

module _ (a b : Trees) (still : (o : Option ℕ) (level place : ℕ) → differs_in (a o) level place ≡ false) (still_too : (o : Option ℕ) (level place : ℕ) → differs_in (b o) level place ≡ false) (is : SharesWith a b)
    (e f : Item) (here : StandsAt a e) (there : StandsAt b f) where
  -- items of tables that share as they have to have one id where they have one VVBN,
  one_id : e.pointer.vvbn ≡ f.pointer.vvbn → id_of e ≡ id_of f
  one_id same =
      let one = is.back here.owner there.owner e.level e.place f.level f.place e.pointer.vvbn
      (record { some = here.some; same = still here.owner e.level e.place; vvbn = here.vvbn })
      (record { some = there.some; same = still_too there.owner f.level f.place; vvbn = there.vvbn ∙ sym same }) in
      let owner : owner_of e.owner ≡ owner_of f.owner = sym here.named ∙ ap owner_in one.tree ∙ there.named in
      let stamp : e.pointer.stamp ≡ f.pointer.stamp = sym here.stamp ∙ one.stamp ∙ there.stamp in
      λ i. (record { owner = owner i; level = one.level_is i; index = one.place_is i }, stamp i)

  -- and one VVBN where they have one id
  one_vvbn : id_of e ≡ id_of f → e.pointer.vvbn ≡ f.pointer.vvbn
  one_vvbn same =
      let owner : here.owner ≡ there.owner = same_number here.owner there.owner (there.named ∙ ap (λ (i : Id). i.0.owner) (sym same) ∙ sym here.named) in
      let level : e.level ≡ f.level = ap (λ (i : Id). i.0.level) same in
      let index : e.place ≡ f.place = ap (λ (i : Id). i.0.index) same in
      let stamp : f.pointer.stamp ≡ e.pointer.stamp = ap (λ (i : Id). i.1) (sym same) in
      let at : pointer_in (b here.owner) e.level e.place ≡ pointer_in (b there.owner) f.level f.place = λ i. pointer_in (b (owner i)) (level i) (index i) in
      let one = is.same here.owner e.level e.place here.some (ap (λ (q : Pointer). q.stamp) at ∙ there.stamp ∙ stamp ∙ sym here.stamp) in
      sym here.vvbn ∙ one.first.vvbn ∙ sym one.second.vvbn ∙ ap (λ (q : Pointer). q.vvbn) at ∙ there.vvbn

-- ---- one table

-- Where a table that lies whole in a slot shares with itself as tables have to, the VVBNs and ids of what it reaches are one to one.
pub one_table : (known : Bool) (blocks : Under) (uses : ℕ → Option Use) (slot : Slot) (now : ℕ) (root : Rooted) → IsTableIn known blocks uses slot now root
    → SharesWith (stored_trees blocks root.levels root.root) (stored_trees blocks root.levels root.root) → IsOneToOne (items (standing_at blocks root.levels root.root))
one_table known blocks uses slot now root is shares = record {
  ids = λ a b one two. one_id (stored_trees blocks root.levels root.root) (stored_trees blocks root.levels root.root) still still shares a b (stands a one) (stands b two);
  vvbns = λ a b one two. one_vvbn (stored_trees blocks root.levels root.root) (stored_trees blocks root.levels root.root) still still shares a b (stands a one) (stands b two);
}
  where
    still : (o : Option ℕ) (level place : ℕ) → differs_in (stored_trees blocks root.levels root.root o) level place ≡ false
    still = stored_same blocks root.levels root.root

    stands : (e : Item) → In e (items (standing_at blocks root.levels root.root)) → StandsAt (stored_trees blocks root.levels root.root) e
    stands = stands_at blocks root.levels root.root (few_levels now blocks root.levels root.root is.table)

-- ---- a volume

-- what the root of a map slot reaches, over the blocks of that slot
abbrev pub items_in : Disk → Pool → VolumeState → ℕ → Table → List Item
items_in d p x k r = items (standing_at (blocks_in d p x k) r.levels r.root)

-- what all roots of a volume reach
abbrev pub all_items : Disk → Pool → VolumeState → List Item
all_items d p x = items_in d p x 0 (head_in x).active ++ flat_map (λ (q : HeadSnap). items_in d p x q.slot q.table) (snaps_in x.snapshots)

-- the roots of a volume's own tables, the active one and those of its snapshots
abbrev pub own_roots : VolumeState → List Snap
own_roots x = active_root x ∷ x.snapshots

-- they are among all
pub own_root : (x : VolumeState) (q : Snap) → In q (own_roots x) → In q (roots x)
own_root x q (inl same) = inl same
own_root x q (inr there) = inr (in_right q (base_table x.base) x.snapshots there)

-- what the base table of a volume reaches, over the blocks of the slot of its base
abbrev pub out_of : Disk → Pool → VolumeState → Option StateBase → List Item
out_of d p x None = []
out_of d p x (Some b) = items (standing_at (blocks_in d p x slot_of_base) b.table.levels b.table.root)

module _ (d : Disk) (p : Pool) (x : VolumeState) where
  -- an item that the roots of a volume reach is one of some root's
  pub of_own : (e : Item) → In e (all_items d p x) → (q : Snap) × (In q (own_roots x) × In e (items (standing_kept (blocks_in d p x) q)))
  of_own e there = elim (in_either e (items_in d p x 0 (head_in x).active) (flat_map (λ (q : HeadSnap). items_in d p x q.slot q.table) (snaps_in x.snapshots)) there) [
    | inl first ↦ (active_root x, (inl refl, first))
    | inr later ↦ (
        let head = from_flat_map (λ (q : HeadSnap). items_in d p x q.slot q.table) e (snaps_in x.snapshots) later in
        let snap = from_map snap_in head.0 x.snapshots head.1 in
        (snap.0, (inr snap.1, subst (λ (q : HeadSnap). In e (items_in d p x q.slot q.table)) (sym snap.2) head.2)))
  ]

  pub of_table : (e : Item) → In e (all_items d p x ++ out_of d p x x.base) → (q : Snap) × (In q (roots x) × In e (items (standing_kept (blocks_in d p x) q)))
  of_table e there = elim (in_either e (all_items d p x) (out_of d p x x.base) there) [
    | inl own ↦ (let q = of_own e own in (q.0, (own_root x q.0 q.1.0, q.1.1)))
    | inr out ↦ (let at = by x.base out in (at.0, (inr (in_left at.0 (base_table x.base) x.snapshots at.1.0), at.1.1)))
  ]
    where
      by : (o : Option StateBase) → In e (out_of d p x o) → (q : Snap) × (In q (base_table o) × In e (items (standing_kept (blocks_in d p x) q)))
      by None none = absurd none
      by (Some b) out = (record { slot = slot_of_base; name = b.snapshot; table = b.table }, (inl refl, out))

  module _ (root : RootStands d p x 0 x.active) (kept : All (IsKeptTable d p x) (tables_of x)) where
    -- the table of each root lies whole in its slot
    pub root_lies : (q : Snap) → In q (roots x) → RootStands d p x q.slot q.table
    root_lies q (inl e) = subst (λ (s : Snap). RootStands d p x s.slot s.table) e root
    root_lies q (inr there) = (all_in (IsKeptTable d p x) (tables_of x) kept q there).1

    stands_in : (q : Snap) → In q (roots x) → (e : Item) → In e (items (standing_kept (blocks_in d p x) q)) → StandsAt (trees_kept (blocks_in d p x) q) e
    stands_in q here = stands_at (blocks_in d p x q.slot) q.table.levels q.table.root (few_levels x.now (blocks_in d p x q.slot) q.table.levels q.table.root (root_lies q here).table)

    still_in : (q : Snap) (o : Option ℕ) (level place : ℕ) → differs_in (trees_kept (blocks_in d p x) q o) level place ≡ false
    still_in q = stored_same (blocks_in d p x q.slot) q.table.levels q.table.root

    -- Where each root shares with each, VVBNs and ids are one to one.
    pub own_ids : EachShares d p x (roots x) → IsOneToOne (all_items d p x ++ out_of d p x x.base)
    own_ids each = record {
      ids = λ a b one two. let q = of_table a one in let r = of_table b two in
          one_id (trees_kept (blocks_in d p x) q.0) (trees_kept (blocks_in d p x) r.0) (still_in q.0) (still_in r.0) (each q.0 r.0 q.1.0 r.1.0) a b (stands_in q.0 q.1.0 a q.1.1) (stands_in r.0 r.1.0 b r.1.1);
      vvbns = λ a b one two. let q = of_table a one in let r = of_table b two in
          one_vvbn (trees_kept (blocks_in d p x) q.0) (trees_kept (blocks_in d p x) r.0) (still_in q.0) (still_in r.0) (each q.0 r.0 q.1.0 r.1.0) a b (stands_in q.0 q.1.0 a q.1.1) (stands_in r.0 r.1.0 b r.1.1);
    }
