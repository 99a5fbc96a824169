-- The ids of a volume's snapshots are those of their tables, and the id at a place of a table is that of its pointer there.
use Rattle.std.proofs.Common.{◌≡◌, ℕ, Bool, true, false, cond, not, ◌||◌, List, [], ◌∷◌, map, Option, Some, None, inl, inr, refl, sym, ap, subst, ◌∙◌}
use Rattle.std.specs.List.{list_any}
use Rattle.std.specs.Option.{option_and_then, option_map}
use Rattle.std.specs.Ordering.{eq_by_cmp}
use Rattle.std.specs.FinMap as fin
use Rattle.std.specs.FinSet as set
use Rattle.std.proofs.lemmas.Bool.{and_parts, false_from_ne_true, not-true, or_left, or_right}
use Rattle.std.proofs.lemmas.Cmp.{eq_by_cmp_equiv}
use Rattle.fv_codec.specs.declared.inode.InodeRecord.{InodeRecord}
use Rattle.fv_model.specs.Spelling.{is_same_name, name_cmp}
use Rattle.fv_model.specs.Places.{Id, Owner, ids_of, placed, stamps_of}
use Rattle.fv_model.specs.Space.{ids_in_any}
use Rattle.fv_model.specs.Tables.{Table}
use Rattle.fv_laws.proofs.Ids.{contains-ids, is_stamp, nat_same}
use Rattle.fv_laws.proofs.Lists.{In, from_map, in_map}
use Rattle.fv_laws.proofs.Orders.{name_total}
use Rattle.fv_laws.proofs.Paths.{is_there}
use Rattle.fv_laws.proofs.Release.{in_any}
use Rattle.fv_laws.proofs.Room.{entry_there}
use Rattle.fv_laws.proofs.Stamps.{get-stamps_of, stands}
use Rattle.fv_laws.proofs.Tests.{from_any, none_of}
use Rattle.fv_tables.specs.Spelled.{Under, pointer_at, stamp_in, stored}
use Rattle.fv_tables.specs.Told.{file_at, file_in, file_told, table_told, tree_of, tree_or}
use Rattle.fv_tables.proofs.TablePlaces as place
use Rattle.fv_tables.proofs.Tables.{files_told, stamps_told}
use Rattle.fv_tree.specs.declared.kept.Tree.{Tree}
use Rattle.fv_tree.specs.Standing.{standing}
use Rattle.fv_files.specs.declared.files.Files.{Files}
use Rattle.fv_files.specs.Sharing.{owner_in}
use Rattle.fv_files.specs.Tables.{changed, file_loaded, tree_in}
use Rattle.fv_files.specs.Trees.{standing_in}
use Rattle.fv_image.specs.ReachRules.{are_distinct}
use Rattle.fv_pool.specs.declared.rooted.Rooted.{Rooted}
use Rattle.fv_volume.specs.declared.state.Snap.{Snap}
use Rattle.fv_pool.specs.Tables.{standing_by, trees_by}
use Rattle.fv_volume.specs.OneVolume.{snap_by, snaps_by, standing_kept}
use Rattle.fv_volume.specs.Sharing.{pointer_in}
use Rattle.fv_volume.proofs.SharedRoots.{stored_place}

-- ---- a place of a table

-- The stamp at a place of a table, some of whose trees may be in memory, is that of the pointer there.
pub by_stamp : (blocks : Under) (root : Rooted) (files : Option Files) (o : Option ℕ) (level index : ℕ) → stands (table_told (standing_by blocks root files)) (owner_in o) (level, index) ≡ stamp_in (pointer_in (trees_by blocks root files o) level index)
unfolding table_told file_in file_told
by_stamp blocks root None o level index = place.stamp_is blocks root.levels root.root (owner_in o) level index ∙ ap stamp_in (sym (stored_place blocks root.levels root.root o level index))
by_stamp blocks root (Some f) None level index = stamps_told (standing blocks f.inode.tree) level index
by_stamp blocks root (Some f) (Some n) level index =
    ap (λ o. option_and_then (λ f. fin.get f.tree.stamps (level, index)) o) (files_told (standing_in blocks (changed f)) n) ∙ so (file_at (standing blocks f.inode.tree) n)
  where
    one_tree : (r : InodeRecord) (o : Option Tree) → tree_or (option_map (standing blocks) o) (stored blocks n r.levels r.root) ≡ (file_loaded blocks n r o).tree
    one_tree r None = refl
    one_tree r (Some t) = refl

    so : (o : Option InodeRecord) → option_and_then (λ f. fin.get f.tree.stamps (level, index)) (option_map (λ r. file_told (tree_of (standing_in blocks (changed f)) n r) r) o)
        ≡ stamp_in (pointer_in (option_map (λ r. file_loaded blocks n r (tree_in f n)) o) level index)
    so None = refl
    so (Some r) = stamps_told (tree_of (standing_in blocks (changed f)) n r) level index ∙ ap (λ t. stamp_in (pointer_at t level index)) (one_tree r (tree_in f n))

-- A table has an id at a place exactly where this stamp stands there.
module _ (t : Table) (o : Owner) (level index s : ℕ) where
  id_there : set.contains (ids_of t) (placed o (level, index), s) ≡ is_stamp s (stands t o (level, index))
  id_there = contains-ids (stamps_of t) (placed o (level, index)) s ∙ ap (is_stamp s) (get-stamps_of t o (level, index))

  pub has_id : stands t o (level, index) ≡ Some s → set.contains (ids_of t) (placed o (level, index), s) ≡ true
  has_id is = id_there ∙ is_there s (stands t o (level, index)) is

  pub of_id : set.contains (ids_of t) (placed o (level, index), s) ≡ true → stands t o (level, index) ≡ Some s
  of_id has = by (stands t o (level, index)) (sym id_there ∙ has)
    where
      by : (at : Option ℕ) → is_stamp s at ≡ true → at ≡ Some s
      by None passes = absurd cc
      by (Some u) passes = ap (λ (n : ℕ). Some n) (sym (nat_same s u passes))

-- ---- the snapshots of a volume

module _ (blocks : ℕ → Under) where
  abbrev told : Snap → Table
  told q = table_told (standing_kept blocks q)

  -- a table that is found under a name is that of a snapshot
  named : (snaps : List Snap) (name : List ℕ) (t : Table) → fin.find name_cmp name (map (snap_by blocks) snaps) ≡ Some t → (q : Snap) × (In q snaps × (told q ≡ t))
  named [] name t e = absurd cc
  named (q ∷ qs) name t e = so (eq_by_cmp name_cmp name q.name) (λ f. named qs name t f) e
    where
      so : (b : Bool) → (fin.find name_cmp name (map (snap_by blocks) qs) ≡ Some t → (p : Snap) × (In p qs × (told p ≡ t))) → cond b (Some (told q)) (fin.find name_cmp name (map (snap_by blocks) qs)) ≡ Some t → (p : Snap) × (In p (q ∷ qs) × (told p ≡ t))
      so true rest e = (q, (inl refl, cc))
      so false rest e = let p = rest e in (p.0, (inr p.1.0, p.1.1))

  -- Where names differ a snapshot is found under its own.
  found : (snaps : List Snap) → are_distinct (map (λ (q : Snap). q.name) snaps) ≡ true → (q : Snap) → In q snaps → fin.find name_cmp q.name (map (snap_by blocks) snaps) ≡ Some (told q)
  found [] distinct q there = absurd there
  found (p ∷ ps) distinct q (inl e) = ap (λ (b : Bool). cond b (Some (told p)) (fin.find name_cmp q.name (map (snap_by blocks) ps))) (subst (λ (r : Snap). eq_by_cmp name_cmp r.name p.name ≡ true) e ((eq_by_cmp_equiv name_total).refl p.name)) ∙ ap (λ (r : Snap). Some (told r)) e
  found (p ∷ ps) distinct q (inr there) =
      let parts = and_parts (not (list_any (is_same_name p.name) (map (λ (q : Snap). q.name) ps))) _ distinct in
      let other : eq_by_cmp name_cmp q.name p.name ≡ false = false_from_ne_true _ (λ same. differ (none_of (is_same_name p.name) (map (λ (q : Snap). q.name) ps) (not-true _ parts.0) q.name (in_map (λ (q : Snap). q.name) q ps there)) ((eq_by_cmp_equiv name_total).symm p.name q.name ∙ same)) in
      ap (λ (b : Bool). cond b (Some (told p)) (fin.find name_cmp q.name (map (snap_by blocks) ps))) other ∙ found ps parts.1 q there
    where
      differ : {b : Bool} → b ≡ false → b ≡ true → ⊥
      differ isnt is = let wrong : false ≡ true = sym isnt ∙ is in cc

  module _ (snaps : List Snap) where
    abbrev all : fin.FinMap name_cmp Table
    all = snaps_by blocks snaps

    -- An id of theirs is one of the table of some snapshot,
    pub of_kept : (i : Id) → set.contains (ids_in_any (fin.values all)) i ≡ true → (q : Snap) × (In q snaps × (set.contains (ids_of (told q)) i ≡ true))
    of_kept i has =
        let one = from_any (λ t. set.contains (ids_of t) i) (fin.values all) (sym (in_any (fin.values all) i) ∙ has) in
        let e = from_map (λ (e : List ℕ × Table). e.1) one.0 (fin.entries all) one.1.0 in
        let q = named snaps e.0.0 e.0.1 (sym (fin.get-from_entries name_total (map (snap_by blocks) snaps) e.0.0) ∙ entry_there name_total all e.0 e.1) in
        (q.0, (q.1.0, ap (λ (t : Table). set.contains (ids_of t) i) (q.1.1 ∙ e.2) ∙ one.1.1))

    -- and one of the table of a snapshot is theirs.
    pub in_kept : are_distinct (map (λ (q : Snap). q.name) snaps) ≡ true → (q : Snap) → In q snaps → (i : Id) → set.contains (ids_of (told q)) i ≡ true → set.contains (ids_in_any (fin.values all)) i ≡ true
    in_kept distinct q there i has = in_any (fin.values all) i ∙ listed (fin.entries all) q.name (told q) (sym (fin.get-entries all q.name) ∙ fin.get-from_entries name_total (map (snap_by blocks) snaps) q.name ∙ found snaps distinct q there) has
      where
        listed : (es : List (List ℕ × Table)) (name : List ℕ) (t : Table) → fin.find name_cmp name es ≡ Some t → set.contains (ids_of t) i ≡ true → list_any (λ t. set.contains (ids_of t) i) (map (λ (e : List ℕ × Table). e.1) es) ≡ true
        listed [] name t e is = absurd cc
        listed (x ∷ xs) name t e is = so (eq_by_cmp name_cmp name x.0) (λ f. listed xs name t f is) e
          where
            so : (here : Bool) → (fin.find name_cmp name xs ≡ Some t → list_any (λ t. set.contains (ids_of t) i) (map (λ (e : List ℕ × Table). e.1) xs) ≡ true) → cond here (Some x.1) (fin.find name_cmp name xs) ≡ Some t
                → (set.contains (ids_of x.1) i || list_any (λ t. set.contains (ids_of t) i) (map (λ (e : List ℕ × Table). e.1) xs)) ≡ true
            so true rest e = let same : x.1 ≡ t = cc in or_left (set.contains (ids_of x.1) i) _ (ap (λ (t : Table). set.contains (ids_of t) i) same ∙ is)
            so false rest e = or_right (set.contains (ids_of x.1) i) _ (rest e)
