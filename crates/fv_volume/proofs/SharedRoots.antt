-- Two tables of a volume, of its roots or of its base, lead to one VVBN exactly where they have one id, where the rule of soundness on ids is kept.
use Rattle.std.proofs.Common.{◌≡◌, ◌≢◌, ℕ, ◌<◌, ◌≤◌, Bool, true, false, List, [], Option, Some, None, refl, sym, ap, subst, ◌∙◌}
use Rattle.std.specs.Prelude.{◌==◌, flat_map, map}
use Rattle.std.specs.List.{list_all}
use Rattle.std.specs.Option.{option_map, option_map_or}
use Rattle.std.proofs.lemmas.Bool.{and_parts}
use Rattle.std.proofs.lemmas.List.Folds.{list_all-append, list_all-map}
use Rattle.fv_codec.specs.declared.inode.InodeRecord.{InodeRecord}
use Rattle.fv_codec.specs.declared.pointer.Pointer.{Pointer}
use Rattle.fv_codec.specs.Blocks.{greatest_word}
use Rattle.fv_model.specs.Places.{Id, Owner}
use Rattle.fv_laws.proofs.Lists.{In}
use Rattle.fv_tables.specs.Ids.{id_of, owner_of}
use Rattle.fv_tables.specs.Reached.{Item, items}
use Rattle.fv_tables.specs.Spelled.{Under, hole, pointer_at, stored}
use Rattle.fv_tables.specs.Told.{file_at}
use Rattle.fv_tables.proofs.Lists.{all_flat}
use Rattle.fv_tables.proofs.TablePlaces as place
use Rattle.fv_tree.specs.Beside.{unread}
use Rattle.fv_files.specs.Apart.{Trees, stored_trees}
use Rattle.fv_files.specs.Sharing.{owner_in}
use Rattle.fv_image.specs.Chains.{under}
use Rattle.fv_image.specs.Seen.{Based, Reached, Root, base_root, base_seen, based_at, based_on, reached_at, root_seen, roots_of, seen, volume_seen}
use Rattle.fv_image.specs.BlockRules.{agree}
use Rattle.fv_image.specs.TableRules.{all_items, has_one_to_one, has_same_id}
use Rattle.fv_image.specs.Views.{Footing, Head, Rooted, View}
use Rattle.fv_image.specs.Volumes.{standing_of}
use Rattle.fv_image.proofs.OwnIds.{one_id, one_vvbn}
use Rattle.fv_image.proofs.SameSeen.{of_volume}
use Rattle.fv_image.proofs.WellRoots.{all_one}
use Rattle.fv_volume.specs.Sharing.{differs_in, pointer_in, SharesWith}
use Rattle.fv_volume.proofs.Ruled.{AreOneToOne}

-- one owner is one tree's
pub same_number : (a b : Option ℕ) → owner_in b ≡ owner_in a → a ≡ b
same_number None None e = refl
same_number None (Some n) e = absurd cc
same_number (Some n) None e = absurd cc
same_number (Some n) (Some k) e = let same : k ≡ n = cc in ap (λ (j : ℕ). Some j) (sym same)

-- ---- tables of which nothing is in memory, by their places

-- the pointer at each place of a table
abbrev pub Places : Type 0
Places = Option ℕ → ℕ → ℕ → Pointer

module _ (blocks : Under) (levels : ℕ) (root : Pointer) where
  -- it is that of the tree,
  pub stored_place : (o : Option ℕ) (level index : ℕ) → pointer_in (stored_trees blocks levels root o) level index ≡ place.pointer_in blocks levels root (owner_in o) level index
  stored_place None level index = refl
  stored_place (Some n) level index = by (file_at (stored blocks greatest_word levels root) n)
    where
      by : (o : Option InodeRecord) → pointer_in (option_map (λ r. unread (stored blocks n r.levels r.root)) o) level index ≡ option_map_or (λ (r : InodeRecord). pointer_at (stored blocks n r.levels r.root) level index) o hole
      by None = refl
      by (Some r) = refl

  -- which doesn't differ from its block
  pub stored_same : (o : Option ℕ) (level index : ℕ) → differs_in (stored_trees blocks levels root o) level index ≡ false
  stored_same None level index = refl
  stored_same (Some n) level index = by (file_at (stored blocks greatest_word levels root) n)
    where
      by : (o : Option InodeRecord) → differs_in (option_map (λ r. unread (stored blocks n r.levels r.root)) o) level index ≡ false
      by None = refl
      by (Some r) = refl

-- Of such tables what they share is said by their pointers.
module _ (a b : Trees) (one other : Places) (first : (o : Option ℕ) (level index : ℕ) → pointer_in (a o) level index ≡ one o level index) (second : (o : Option ℕ) (level index : ℕ) → pointer_in (b o) level index ≡ other o level index)
    (same : (o : Option ℕ) (level index : ℕ) → differs_in (a o) level index ≡ false) (same_too : (o : Option ℕ) (level index : ℕ) → differs_in (b o) level index ≡ false) where
  some_one : (o : Option ℕ) (level index : ℕ) → (pointer_in (a o) level index).stamp ≢ 0 → (one o level index).stamp ≢ 0
  some_one o level index = subst (λ (p : Pointer). p.stamp ≢ 0) (first o level index)

  some_other : (o : Option ℕ) (level index : ℕ) → (pointer_in (b o) level index).stamp ≢ 0 → (other o level index).stamp ≢ 0
  some_other o level index = subst (λ (p : Pointer). p.stamp ≢ 0) (second o level index)

  pub shares_alike : AreOneToOne one other → SharesWith a b
  shares_alike is = record {
    same = λ o level index some stamp.
        let v = is.vvbn o level index (some_one o level index some) (ap (λ (p : Pointer). p.stamp) (sym (second o level index)) ∙ stamp ∙ ap (λ (p : Pointer). p.stamp) (first o level index)) in
        record {
          vvbn = (one o level index).vvbn;
          first = record { some = some; same = same o level index; vvbn = ap (λ (p : Pointer). p.vvbn) (first o level index) };
          second = record { some = λ none. some (sym stamp ∙ none); same = same_too o level index; vvbn = ap (λ (p : Pointer). p.vvbn) (second o level index) ∙ v };
        };
    back = λ o u level index k q v here there.
        let at = is.place o u level index k q (some_one o level index here.some) (some_other u k q there.some)
        (ap (λ (p : Pointer). p.vvbn) (sym (first o level index)) ∙ here.vvbn ∙ sym there.vvbn ∙ ap (λ (p : Pointer). p.vvbn) (second u k q)) in
        record {
          tree = at.0;
          level_is = at.1.0;
          place_is = at.1.1.0;
          stamp = ap (λ (p : Pointer). p.stamp) (first o level index) ∙ at.1.1.1 ∙ ap (λ (p : Pointer). p.stamp) (sym (second u k q));
        };
  }

  pub alike_shares : SharesWith a b → AreOneToOne one other
  alike_shares is = record {
    vvbn = λ o level index some stamp.
        let at = is.same o level index (subst (λ (p : Pointer). p.stamp ≢ 0) (sym (first o level index)) some)
        (ap (λ (p : Pointer). p.stamp) (second o level index) ∙ stamp ∙ ap (λ (p : Pointer). p.stamp) (sym (first o level index))) in
        ap (λ (p : Pointer). p.vvbn) (sym (second o level index)) ∙ at.second.vvbn ∙ sym at.first.vvbn ∙ ap (λ (p : Pointer). p.vvbn) (first o level index);
    place = λ o u level index k q here there alike.
        let at = is.back o u level index k q (one o level index).vvbn
        (record { some = subst (λ (p : Pointer). p.stamp ≢ 0) (sym (first o level index)) here; same = same o level index; vvbn = ap (λ (p : Pointer). p.vvbn) (first o level index) })
        (record { some = subst (λ (p : Pointer). p.stamp ≢ 0) (sym (second u k q)) there; same = same_too u k q; vvbn = ap (λ (p : Pointer). p.vvbn) (second u k q) ∙ sym alike }) in
        (at.tree, (at.level_is, (at.place_is, ap (λ (p : Pointer). p.stamp) (sym (first o level index)) ∙ at.stamp ∙ ap (λ (p : Pointer). p.stamp) (second u k q))));
  }

-- ---- two tables of a volume in a view

-- What holds of all pointers that a volume's roots and its base table reach holds of those of a table, which lies in a slot.
abbrev pub AreAmong : View → ℕ → Head → ℕ → Rooted → Type 0
AreAmong w s h n t = (test : Item → Bool) → list_all test (all_items (volume_seen w s h)) ≡ true → list_all test (items (standing_of w n t)) ≡ true

module _ (w : View) (s : ℕ) (h : Head) where
  abbrev listed : Root → List Item
  listed x = map (λ (e : Reached). e.item) x.reached

  abbrev rooted : ℕ × Rooted → Root
  rooted p = root_seen w s p.0 p.1

  -- So it is with the table of each root,
  pub roots_among : (k : ℕ) (r : Rooted) → In {X = ℕ × Rooted} (k, r) (roots_of h) → AreAmong w s h s r
  unfolding volume_seen root_seen
  roots_among k r one test all =
      let roots = (and_parts _ _ (sym (list_all-append test (flat_map listed (map rooted (roots_of h))) (map (λ (b : Based). b.item) (base_seen w s h.base))) ∙ all)).0 in
      let mine = all_one (λ (x : Root). list_all test (listed x)) rooted (roots_of h) (k, r) (sym (all_flat test listed (map rooted (roots_of h))) ∙ roots) one in
      sym (list_all-map (λ (e : Reached). test e.item) (reached_at w s) (items (standing_of w s r))) ∙ sym (list_all-map test (λ (e : Reached). e.item) (map (reached_at w s) (items (standing_of w s r)))) ∙ mine

  -- and with the table that the volume stands on, which is one of another slot.
  pub base_among : (b : Footing) (r : Rooted) → h.base ≡ Some b → base_root w b ≡ Some r → AreAmong w s h b.parent r
  unfolding volume_seen base_seen
  base_among b r based found test all =
      let last = (and_parts _ _ (sym (list_all-append test (flat_map listed (map rooted (roots_of h))) (map (λ (c : Based). c.item) (base_seen w s h.base))) ∙ all)).1 in
      let items_are : base_seen w s h.base ≡ map (based_at w s b.splitting) (items (standing_of w b.parent r)) =
      ap (λ (o : Option Footing). option_map_or (λ (c : Footing). option_map_or (based_on w s c) (base_root w c) []) o []) based ∙ ap (λ (o : Option Rooted). option_map_or (based_on w s b) o []) found in
      sym (list_all-map (λ (c : Based). test c.item) (based_at w s b.splitting) (items (standing_of w b.parent r)))
      ∙ ap (list_all (λ (c : Based). test c.item)) (sym items_are) ∙ sym (list_all-map test (λ (c : Based). c.item) (base_seen w s h.base)) ∙ last

module _ (w : View) (s : ℕ) (h : Head) (small : s < 64) (there : w.head s ≡ Some h) (ids : has_one_to_one (seen w) ≡ true) (n : ℕ) (r : Rooted) (one : AreAmong w s h n r) (m : ℕ) (q : Rooted) (two : AreAmong w s h m q)
    (few : r.levels ≤ 2) (few_too : q.levels ≤ 2) where
  abbrev agrees : Item → Item → Bool
  agrees a b = agree (has_same_id a b) (a.pointer.vvbn == b.pointer.vvbn)

  pairs : list_all (λ a. list_all (agrees a) (all_items (volume_seen w s h))) (items (standing_of w n r)) ≡ true
  unfolding has_one_to_one
  pairs = one (λ a. list_all (agrees a) (all_items (volume_seen w s h))) (of_volume w (λ s x. list_all (λ a. list_all (agrees a) (all_items x)) (all_items x)) s h ids small there)

  abbrev at : Owner → ℕ → ℕ → Pointer
  at = place.pointer_in (under w n) r.levels r.root

  abbrev at_too : Owner → ℕ → ℕ → Pointer
  at_too = place.pointer_in (under w m) q.levels q.root

  -- the items at two places agree
  record Agreed (o u : Option ℕ) (level index l i : ℕ) : Type 0 where
    a : Item
    b : Item
    agree_is : agrees a b ≡ true
    pointer : a.pointer ≡ at (owner_in o) level index
    pointer_too : b.pointer ≡ at_too (owner_in u) l i
    owner : a.owner ≡ place.number (under w n) r.levels r.root (owner_in o)
    owner_too : b.owner ≡ place.number (under w m) q.levels q.root (owner_in u)
    level_is : a.level ≡ level
    level_too : b.level ≡ l
    place_is : a.place ≡ index
    place_too : b.place ≡ i

  agreed : (o u : Option ℕ) (level index l i : ℕ) → (at (owner_in o) level index).stamp ≢ 0 → (at_too (owner_in u) l i).stamp ≢ 0 → Agreed o u level index l i
  agreed o u level index l i some some_too =
      let first = place.at_place (under w n) r.levels r.root (λ a. list_all (agrees a) (all_items (volume_seen w s h))) pairs (owner_in o) level index some in
      let second = place.at_place (under w m) q.levels q.root (agrees first.item) (two (agrees first.item) first.passes) (owner_in u) l i some_too in
      record {
        a = first.item;
        b = second.item;
        agree_is = second.passes;
        pointer = first.pointer;
        pointer_too = second.pointer;
        owner = first.owner;
        owner_too = second.owner;
        level_is = first.level_is;
        level_too = second.level_is;
        place_is = first.place_is;
        place_too = second.place_is;
      }

  -- the number of a place's tree stands for its owner
  own : (o : Option ℕ) (level index : ℕ) → (at (owner_in o) level index).stamp ≢ 0 → owner_of (place.number (under w n) r.levels r.root (owner_in o)) ≡ owner_in o
  own None level index some = refl
  own (Some k) level index some = place.owner_is (under w n) r.levels r.root few k level index some

  own_too : (o : Option ℕ) (level index : ℕ) → (at_too (owner_in o) level index).stamp ≢ 0 → owner_of (place.number (under w m) q.levels q.root (owner_in o)) ≡ owner_in o
  own_too None level index some = refl
  own_too (Some k) level index some = place.owner_is (under w m) q.levels q.root few_too k level index some

  -- Their pointers are one to one.
  pub tables_one : AreOneToOne (λ o. at (owner_in o)) (λ o. at_too (owner_in o))
  tables_one = record { vvbn = vvbn; place = position }
    where
      vvbn : (o : Option ℕ) (level index : ℕ) → (at (owner_in o) level index).stamp ≢ 0 → (at_too (owner_in o) level index).stamp ≡ (at (owner_in o) level index).stamp → (at_too (owner_in o) level index).vvbn ≡ (at (owner_in o) level index).vvbn
      vvbn o level index some stamp =
          let e = agreed o o level index level index some (λ none. some (sym stamp ∙ none)) in
          let owner : owner_of e.a.owner ≡ owner_of e.b.owner = ap owner_of e.owner ∙ own o level index some ∙ sym (own_too o level index (λ none. some (sym stamp ∙ none))) ∙ ap owner_of (sym e.owner_too) in
          let stamps : e.a.pointer.stamp ≡ e.b.pointer.stamp = ap (λ (p : Pointer). p.stamp) e.pointer ∙ sym stamp ∙ ap (λ (p : Pointer). p.stamp) (sym e.pointer_too) in
          let id : id_of e.a ≡ id_of e.b = λ i. (record { owner = owner i; level = (e.level_is ∙ sym e.level_too) i; index = (e.place_is ∙ sym e.place_too) i }, stamps i) in
          ap (λ (p : Pointer). p.vvbn) (sym e.pointer_too) ∙ sym (one_vvbn e.a e.b e.agree_is id) ∙ ap (λ (p : Pointer). p.vvbn) e.pointer

      position : (o u : Option ℕ) (level index l i : ℕ) → (at (owner_in o) level index).stamp ≢ 0 → (at_too (owner_in u) l i).stamp ≢ 0 → (at (owner_in o) level index).vvbn ≡ (at_too (owner_in u) l i).vvbn
          → (o ≡ u) × ((level ≡ l) × ((index ≡ i) × ((at (owner_in o) level index).stamp ≡ (at_too (owner_in u) l i).stamp)))
      position o u level index l i some some_too alike =
          let e = agreed o u level index l i some some_too in
          let id : id_of e.a ≡ id_of e.b = one_id e.a e.b e.agree_is (ap (λ (p : Pointer). p.vvbn) e.pointer ∙ alike ∙ ap (λ (p : Pointer). p.vvbn) (sym e.pointer_too)) in
          let owner : owner_in u ≡ owner_in o =
          sym (own_too u l i some_too) ∙ ap owner_of (sym e.owner_too) ∙ sym (ap (λ (n : Id). n.0.owner) id) ∙ ap owner_of e.owner ∙ own o level index some in (
            same_number o u owner,
            (
              sym e.level_is ∙ ap (λ (n : Id). n.0.level) id ∙ e.level_too,
              (
                sym e.place_is ∙ ap (λ (n : Id). n.0.index) id ∙ e.place_too,
                ap (λ (p : Pointer). p.stamp) (sym e.pointer) ∙ ap (λ (n : Id). n.1) id ∙ ap (λ (p : Pointer). p.stamp) e.pointer_too,
              ),
            ),
          )
