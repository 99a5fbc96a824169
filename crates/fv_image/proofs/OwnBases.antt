-- What a clone holds of its own it is charged for: its base's ids are those of other blocks.
use Rattle.std.proofs.Common.{◌≡◌, ◌≢◌, ℕ, ◌/◌, ◌<◌, ◌≤◌, Bool, true, false, cond, not, List, [], ◌++◌, refl, sym, ap, subst, ◌∙◌, arith, ⊎_elim}
use Rattle.std.specs.Prelude.{Option, Some, None, count_by, ◌&&◌, ◌==◌, map, flat_map, if◌then◌else◌}
use Rattle.std.specs.List.{list_all}
use Rattle.std.specs.Option.{is_some, option_map, option_map_or, option_and_then}
use Rattle.std.specs.Ordering.{nat_cmp, eq_by_cmp}
use Rattle.std.specs.FinMap as fin
use Rattle.std.specs.FinSet as set
use Rattle.std.proofs.lemmas.Bool.{and_parts, both_ways, cases_eq, not-true}
use Rattle.std.proofs.lemmas.Bool.Decides.{nat_tests}
use Rattle.std.proofs.lemmas.List.Folds.{list_all-append, list_all-map}
use Rattle.fv_codec.specs.declared.pointer.Pointer.{Pointer}
use Rattle.fv_codec.specs.declared.inode.InodeRecord.{InodeRecord}
use Rattle.fv_codec.specs.Blocks.{greatest_word}
use Rattle.fv_model.specs.Tables.{File}
use Rattle.fv_model.specs.Places.{InodeFile, OfFile, placed, id_cmp, ids_of, stamps_of}
use Rattle.fv_laws.proofs.Ids.{is_stamp, contains-ids}
use Rattle.fv_laws.proofs.Stamps.{get-stamps_of}
use Rattle.fv_tables.specs.Spelled.{hole, pointer_at, stamp_in}
use Rattle.fv_tables.specs.Told.{Standing, records_each, file_at, file_told, file_in, tree_of, table_told}
use Rattle.fv_tables.specs.Reached.{Item, item_of, items, is_listed}
use Rattle.fv_tables.proofs.Tables.{stamps_told, files_told}
use Rattle.fv_tables.specs.Ids.{id_of}
use Rattle.fv_tables.proofs.Items.{at_inode, at_file}
use Rattle.fv_tables.proofs.Listed.{picked, picked_all, picked_is}
use Rattle.fv_model.specs.Volumes.{Base}
use Rattle.fv_model.specs.Space.{ids_left_out, use_of}
use Rattle.fv_image.specs.Views.{Footing, Head, View, Rooted as Root, vvbns, is_own}
use Rattle.fv_image.specs.Volumes.{standing_of, table_at, snap_at, base_on, base_told, base_from, volume_with, volume_told}
use Rattle.fv_image.specs.BlockRules.{agree}
use Rattle.fv_image.specs.Seen.{Reached, Root as RootSeen, Based, VolumeSeen, roots_of, base_root, based_at, based_on, base_seen, volume_seen, seen}
use Rattle.fv_image.specs.TableRules.{all_items, has_same_id, has_one_to_one}
use Rattle.fv_image.specs.HintRules.{leaves_base}
use Rattle.fv_image.specs.Soundness.{AreTables, AreMaps}
use Rattle.fv_image.specs.Staying.{own_items}
use Rattle.fv_image.proofs.SameSeen.{of_volume, Stands, stands}
use Rattle.fv_image.proofs.Points.{UsesOwn}
use Rattle.fv_image.proofs.OwnUses.{HasLabelNumbers, seen_items, own_within}

-- ---- an id of a table is that of a pointer

-- a stamp that stands
stamp_there : (s : ℕ) (p : Pointer) → is_stamp s (stamp_in p) ≡ true → (p.stamp ≢ 0) × (p.stamp ≡ s)
stamp_there s p is = ⊎_elim
    (λ (none : p.stamp ≡ 0). let test : (p.stamp == 0) ≡ true = grind (arith, nat_tests, none) in absurd (wrong (sym (ap (λ (b : Bool). is_stamp s (if b then None else Some p.stamp)) test) ∙ is)))
    (λ (some : p.stamp ≢ 0).
    let test : (p.stamp == 0) ≡ false = grind (arith, nat_tests, some) in
    (some, same s p.stamp (sym (ap (λ (b : Bool). is_stamp s (if b then None else Some p.stamp)) test) ∙ is)))
    (cases_eq p.stamp 0)
  where
    wrong : false ≡ true → ⊥
    wrong e = cc

    same : (s n : ℕ) → eq_by_cmp nat_cmp s n ≡ true → n ≡ s
    same s n e = grind (arith, nat_tests, e)

-- a pointer of a table with the id of another one
pub record HasPointer (x : Standing) (e : Item) : Type 0 where
  pub pointer : Item
  pub id : has_same_id e pointer ≡ true
  pub each : (test : Item → Bool) → list_all test (items x) ≡ true → test pointer ≡ true

same_id : (e b : Item) → b.owner ≡ e.owner → b.level ≡ e.level → b.place ≡ e.place → b.pointer.stamp ≡ e.pointer.stamp → has_same_id e b ≡ true
same_id e b owner level place stamp = rw (owner, level, place, stamp) (itself e.owner e.level e.place e.pointer.stamp)
  where
    itself : (n k q t : ℕ) → (((n == n) && ((k == k) && (q == q))) && (t == t)) ≡ true
    itself n k q t = grind (arith, nat_tests)

module _ (w : View) (s : ℕ) (r : Root) (e : Item) where
  abbrev x : Standing
  x = standing_of w s r

  by_inode : e.owner ≡ greatest_word → set.contains (ids_of (table_told x)) (placed InodeFile (e.level, e.place), e.pointer.stamp) ≡ true → HasPointer x e
  unfolding table_told
  by_inode owner there =
      let at : is_stamp e.pointer.stamp (stamp_in (pointer_at x.inode e.level e.place)) ≡ true =
      sym (contains-ids (stamps_of (table_told x)) (placed InodeFile (e.level, e.place)) e.pointer.stamp
      ∙ ap (is_stamp e.pointer.stamp) (get-stamps_of (table_told x) InodeFile (e.level, e.place) ∙ stamps_told x.inode e.level e.place)) ∙ there in
      let stands = stamp_there e.pointer.stamp (pointer_at x.inode e.level e.place) at in
      record {
        pointer = item_of hole x.inode e.level e.place;
        id = same_id e (item_of hole x.inode e.level e.place) (sym owner) refl refl stands.1;
        each = λ test all. at_inode test x all e.level e.place stands.0;
      }

  by_file : (o : Option InodeRecord) → file_at x.inode e.owner ≡ o → set.contains (ids_of (table_told x)) (placed (OfFile e.owner) (e.level, e.place), e.pointer.stamp) ≡ true → HasPointer x e
  unfolding file_in file_told
  by_file None is there =
      let none : fin.get (table_told x).files e.owner ≡ None = files_told x e.owner ∙ ap (λ (o : Option InodeRecord). option_map (λ r. file_told (tree_of x e.owner r) r) o) is in
      absurd (wrong (sym (contains-ids (stamps_of (table_told x)) (placed (OfFile e.owner) (e.level, e.place)) e.pointer.stamp
      ∙ ap (is_stamp e.pointer.stamp) (get-stamps_of (table_told x) (OfFile e.owner) (e.level, e.place) ∙ ap (λ (o : Option File). option_and_then (λ f. fin.get f.tree.stamps (e.level, e.place)) o) none)) ∙ there))
    where
      wrong : false ≡ true → ⊥
      wrong e = cc
  by_file (Some q) is there =
      let file : fin.get (table_told x).files e.owner ≡ Some (file_told (tree_of x e.owner q) q) = files_told x e.owner ∙ ap (λ (o : Option InodeRecord). option_map (λ r. file_told (tree_of x e.owner r) r) o) is in
      let at : is_stamp e.pointer.stamp (stamp_in (pointer_at (tree_of x e.owner q) e.level e.place)) ≡ true =
      sym (contains-ids (stamps_of (table_told x)) (placed (OfFile e.owner) (e.level, e.place)) e.pointer.stamp
      ∙ ap (is_stamp e.pointer.stamp) (get-stamps_of (table_told x) (OfFile e.owner) (e.level, e.place)
      ∙ ap (λ (o : Option File). option_and_then (λ f. fin.get f.tree.stamps (e.level, e.place)) o) file ∙ stamps_told (tree_of x e.owner q) e.level e.place)) ∙ there in
      let stands = stamp_there e.pointer.stamp (pointer_at (tree_of x e.owner q) e.level e.place) at in
      record {
        pointer = item_of (pointer_at x.inode 0 (e.owner / records_each)) (tree_of x e.owner q) e.level e.place;
        id = same_id e (item_of (pointer_at x.inode 0 (e.owner / records_each)) (tree_of x e.owner q) e.level e.place) refl refl refl stands.1;
        each = λ test all. at_file test x all e.owner q is e.level e.place stands.0;
      }

  -- An id of a table is that of one of its pointers.
  pub pointer_of_id : set.contains (ids_of (table_at w s r)) (id_of e) ≡ true → HasPointer x e
  pointer_of_id there = so (e.owner == greatest_word) refl there
    where
      so : (b : Bool) → (e.owner == greatest_word) ≡ b → set.contains (ids_of (table_at w s r)) (placed (if b then InodeFile else OfFile e.owner) (e.level, e.place), e.pointer.stamp) ≡ true → HasPointer x e
      so true test there = by_inode (grind (arith, nat_tests, test)) there
      so false test there = by_file (file_at x.inode e.owner) refl there

-- ---- what a clone isn't charged for

-- what is asked of all that a base table reaches
of_based : (w : View) (s : ℕ) (b : Footing) (r : Root) (test : Based → Bool) → base_root w b ≡ Some r → list_all test (base_seen w s (Some b)) ≡ true → list_all (λ e. test (based_at w s b.splitting e)) (items (standing_of w b.parent r)) ≡ true
unfolding base_seen
of_based w s b r test root all = sym (list_all-map test (based_at w s b.splitting) (items (standing_of w b.parent r))) ∙ subst (λ (o : Option Root). list_all test (option_map_or (based_on w s b) o []) ≡ true) root all

of_based_items : (w : View) (s : ℕ) (b : Footing) (r : Root) (test : Item → Bool) → base_root w b ≡ Some r → list_all test (map (λ (b : Based). b.item) (base_seen w s (Some b))) ≡ true → list_all test (items (standing_of w b.parent r)) ≡ true
of_based_items w s b r test root all = of_based w s b r (λ (b : Based). test b.item) root (sym (list_all-map test (λ (b : Based). b.item) (base_seen w s (Some b))) ∙ all)

module _ (w : View) (s : ℕ) (h : Head) (small : s < 64) (there : w.head s ≡ Some h) (tables : AreTables (seen w)) where
  -- a pointer of the volume and one of its base table
  pair : (b : Footing) (r : Root) → h.base ≡ Some b → base_root w b ≡ Some r → (v : ℕ) → is_listed (own_items w s h) v ≡ true
      → list_all (λ q. agree (has_same_id (picked (own_items w s h) v) q) ((picked (own_items w s h) v).pointer.vvbn == q.pointer.vvbn)) (items (standing_of w b.parent r)) ≡ true
  unfolding has_one_to_one volume_seen
  pair b r based root v listed =
      let x : VolumeSeen = volume_seen w s h in
      let xs = flat_map (λ (r : RootSeen). map (λ (e : Reached). e.item) r.reached) x.roots in
      let ys = map (λ (b : Based). b.item) x.base in
      let whole : list_all (λ a. list_all (λ q. agree (has_same_id a q) (a.pointer.vvbn == q.pointer.vvbn)) (xs ++ ys)) (xs ++ ys) ≡ true =
      of_volume w (λ s x. list_all (λ a. list_all (λ b. agree (has_same_id a b) (a.pointer.vvbn == b.pointer.vvbn)) (all_items x)) (all_items x)) s h tables.ids small there in
      let first = (and_parts (list_all (λ a. list_all (λ q. agree (has_same_id a q) (a.pointer.vvbn == q.pointer.vvbn)) (xs ++ ys)) xs) _ (sym (list_all-append (λ a. list_all (λ q. agree (has_same_id a q) (a.pointer.vvbn == q.pointer.vvbn)) (xs ++ ys)) xs ys) ∙ whole)).0 in
      let mine = subst (λ (es : List Item). list_all (λ a. list_all (λ q. agree (has_same_id a q) (a.pointer.vvbn == q.pointer.vvbn)) (xs ++ ys)) es ≡ true) (seen_items w s (roots_of h)) first in
      let e : Item = picked (own_items w s h) v in
      let row : list_all (λ q. agree (has_same_id e q) (e.pointer.vvbn == q.pointer.vvbn)) (xs ++ ys) ≡ true = picked_all (λ a. list_all (λ q. agree (has_same_id a q) (a.pointer.vvbn == q.pointer.vvbn)) (xs ++ ys)) (own_items w s h) v listed mine in
      let second = (and_parts (list_all (λ q. agree (has_same_id e q) (e.pointer.vvbn == q.pointer.vvbn)) xs) _ (sym (list_all-append (λ q. agree (has_same_id e q) (e.pointer.vvbn == q.pointer.vvbn)) xs ys) ∙ row)).1 in
      of_based_items w s b r (λ q. agree (has_same_id e q) (e.pointer.vvbn == q.pointer.vvbn)) root
      (subst (λ (o : Option Footing). list_all (λ q. agree (has_same_id e q) (e.pointer.vvbn == q.pointer.vvbn)) (map (λ (b : Based). b.item) (base_seen w s o)) ≡ true) based second)

  -- the volume has no entry of its own under what its base table reaches
  none_own : (b : Footing) (r : Root) → h.base ≡ Some b → base_root w b ≡ Some r → list_all (λ e. not (not b.splitting && is_some (w.entry s e.pointer.vvbn))) (items (standing_of w b.parent r)) ≡ true
  unfolding leaves_base volume_seen
  none_own b r based root =
      let all : list_all (λ (b : Based). not b.own) (base_seen w s h.base) ≡ true = of_volume w (λ s x. list_all (λ b. not b.own) x.base) s h tables.leaves small there in
      of_based w s b r (λ (b : Based). not b.own) root (subst (λ (o : Option Footing). list_all (λ (b : Based). not b.own) (base_seen w s o) ≡ true) based all)

  apart_at : (b : Footing) (footing : Stands w b) → h.base ≡ Some b → b.splitting ≡ false → (v : ℕ) → is_listed (own_items w s h) v ≡ true → is_own w s h v ≡ true
      → set.contains (ids_of (table_at w b.parent footing.snap.table)) (id_of (picked (own_items w s h) v)) ≡ false
  apart_at b footing based whole v listed own = so (set.contains (ids_of (table_at w b.parent footing.snap.table)) (id_of (picked (own_items w s h) v))) refl
    where
      root : base_root w b ≡ Some footing.snap.table
      root = ap (option_and_then (λ g. option_map (λ p. p.table) (snap_at g b.slot))) footing.there ∙ ap (option_map (λ p. p.table)) footing.found

      equal : (a q : Item) → has_same_id a q ≡ true → agree (has_same_id a q) (a.pointer.vvbn == q.pointer.vvbn) ≡ true → a.pointer.vvbn ≡ q.pointer.vvbn
      equal a q id one = let same : (a.pointer.vvbn == q.pointer.vvbn) ≡ true = sym (ap (λ (t : Bool). agree t (a.pointer.vvbn == q.pointer.vvbn)) id) ∙ one in grind (arith, nat_tests, same)

      so : (t : Bool) → set.contains (ids_of (table_at w b.parent footing.snap.table)) (id_of (picked (own_items w s h) v)) ≡ t → t ≡ false
      so false e = refl
      so true e =
          let other = pointer_of_id w b.parent footing.snap.table (picked (own_items w s h) v) e in
          let one = other.each (λ q. agree (has_same_id (picked (own_items w s h) v) q) ((picked (own_items w s h) v).pointer.vvbn == q.pointer.vvbn)) (pair b footing.snap.table based root v listed) in
          let vvbn : other.pointer.pointer.vvbn ≡ v = sym (equal (picked (own_items w s h) v) other.pointer other.id one) ∙ picked_is (own_items w s h) v listed in
          let none = other.each (λ e. not (not b.splitting && is_some (w.entry s e.pointer.vvbn))) (none_own b footing.snap.table based root) in
          let at : not (is_some (w.entry s v)) ≡ true = subst (λ (n : ℕ). not (is_some (w.entry s n)) ≡ true) vvbn (subst (λ (t : Bool). not (not t && is_some (w.entry s other.pointer.pointer.vvbn)) ≡ true) whole none) in
          absurd (both_ways (is_some (w.entry s v)) (not-true (is_some (w.entry s v)) at) (and_parts (is_some (w.entry s v)) _ own).0)

  left_out_at : (base : Option Footing) → h.base ≡ base → (v : ℕ) → is_listed (own_items w s h) v ≡ true → is_own w s h v ≡ true → set.contains (ids_left_out (base_from w base)) (id_of (picked (own_items w s h) v)) ≡ false
  left_out_at None based v listed own = set.contains-empty id_cmp (id_of (picked (own_items w s h) v))
  left_out_at (Some b) based v listed own =
      let footing : Stands w b = stands w tables.bases tables.rests s h b small there based in
      let told : base_told w b (w.head b.parent) ≡ Some (base_on w b footing.parent footing.snap) = ap (base_told w b) footing.there ∙ ap (option_map (base_on w b footing.parent)) footing.found in
      ap (λ (o : Option Base). set.contains (ids_left_out o) (id_of (picked (own_items w s h) v))) told ∙ so footing b.splitting refl
    where
      so : (footing : Stands w b) → (t : Bool) → b.splitting ≡ t → set.contains (cond b.splitting set.empty (ids_of (table_at w b.parent footing.snap.table))) (id_of (picked (own_items w s h) v)) ≡ false
      so footing true e = ap (λ (t : Bool). set.contains (cond t set.empty (ids_of (table_at w b.parent footing.snap.table))) (id_of (picked (own_items w s h) v))) e ∙ set.contains-empty id_cmp (id_of (picked (own_items w s h) v))
      so footing false e = ap (λ (t : Bool). set.contains (cond t set.empty (ids_of (table_at w b.parent footing.snap.table))) (id_of (picked (own_items w s h) v))) e ∙ apart_at b footing based e v listed own

  -- A volume of a sound image has at most as many entries of its own as it uses.
  pub within_use : AreMaps w → HasLabelNumbers h → count_by (is_own w s h) (vvbns h.span) ≤ use_of (volume_told w s h)
  unfolding volume_with
  within_use maps numbers = own_within w s h small there tables maps numbers (left_out_at h.base refl)

-- So it is of all volumes.
pub uses_own : (w : View) → AreTables (seen w) → AreMaps w → ((s : ℕ) (h : Head) → s < 64 → w.head s ≡ Some h → HasLabelNumbers h) → UsesOwn w
uses_own w tables maps numbers = record { own = λ s h small is. within_use w s h small is tables maps (numbers s h small is) }
