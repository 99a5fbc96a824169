-- What soundness gives of each root of a volume, the active one and those of snapshots. Its table leads to each VVBN from one place, each of
-- those VVBNs has an entry with the kind of its block, and they are the bits of the root's map.
use Rattle.std.proofs.Common.{◌≡◌, ◌≢◌, ℕ, ◌*◌, ◌<◌, ◌≤◌, Bool, true, false, not, List, inl, inr, refl, sym, ap, subst, ◌∙◌, arith}
use Rattle.std.specs.Prelude.{◌⊎◌, Option, Some, None, ◌&&◌, ◌||◌, ◌==◌, nat_lt, map}
use Rattle.std.specs.List.{list_all, range_with_len}
use Rattle.std.specs.Option.{is_some, option_map_or}
use Rattle.std.proofs.lemmas.Bool.{and_parts, and_from}
use Rattle.std.proofs.lemmas.Bool.Decides.{nat_tests}
use Rattle.std.proofs.lemmas.List.Folds.{list_all-map}
use Rattle.fv_codec.specs.declared.pointer.Pointer.{Pointer}
use Rattle.fv_codec.specs.declared.inode.InodeRecord.{InodeRecord}
use Rattle.fv_model.specs.Places.{Owner, InodeFile, OfFile}
use Rattle.fv_model.specs.Space.{map_blocks}
use Rattle.fv_laws.proofs.Lists.{In}
use Rattle.fv_laws.proofs.Tests.{from_all, to_all}
use Rattle.fv_tables.specs.Spelled.{hole, pointer_at}
use Rattle.fv_tables.specs.Told.{tree_of}
use Rattle.fv_tables.specs.Reached.{Item, items, is_listed}
use Rattle.fv_tables.specs.Ids.{owner_of}
use Rattle.fv_tables.proofs.Lists.{all_in_range}
use Rattle.fv_tables.proofs.Items.{from_trees}
use Rattle.fv_tables.proofs.Listed.{picked, picked_all, picked_is}
use Rattle.fv_tables.proofs.TablePlaces.{pointer_in, number, at_place, listed_place, owner_is}
use Rattle.fv_image.specs.Layout.{block_bits}
use Rattle.fv_image.specs.Chains.{place, under}
use Rattle.fv_image.specs.Views.{Placed, Rooted, Head, View, volume_bit, kind_at}
use Rattle.fv_image.specs.BlockRules.{agree}
use Rattle.fv_image.specs.Volumes.{standing_of}
use Rattle.fv_image.specs.Seen.{Reached, Root, VolumeSeen, reached_at, root_seen, roots_of, volume_seen, seen}
use Rattle.fv_image.specs.ReachRules.{kind_of, is_same_position, is_hint, has_pointers_in_range, reaches_once, has_reached_kinds, is_reach, has_maps_of_reach}
use Rattle.fv_image.specs.HintRules.{is_true_hint, has_true_hints}
use Rattle.fv_image.specs.Soundness.{AreTables, AreMaps}
use Rattle.fv_image.proofs.SoundFacts.{of_slot, agree_same}
use Rattle.fv_image.proofs.SameSeen.{of_volume}
use Rattle.fv_image.proofs.WellRoots.{all_one}
use Rattle.fv_image.proofs.ChargeBits.{led_once}
use Rattle.fv_image.proofs.LoneTables.{kind_led, IsLedEntry}

module _ (w : View) (s : ℕ) (h : Head) (small : s < 64) (there : w.head s ≡ Some h) (tables : AreTables (seen w)) (slot : ℕ) (r : Rooted) (one : In (slot, r) (roots_of h)) where
  abbrev es : List Item
  es = items (standing_of w s r)

  -- what is asked of all that the roots reach is asked of what this root does
  pub of_root : (test : VolumeSeen → Root → Reached → Bool) → list_all (λ r. list_all (test (volume_seen w s h) r) r.reached) (volume_seen w s h).roots ≡ true
      → list_all (λ e. test (volume_seen w s h) (root_seen w s slot r) (reached_at w s e)) es ≡ true
  unfolding volume_seen root_seen
  of_root test all =
      sym (list_all-map (test (volume_seen w s h) (root_seen w s slot r)) (reached_at w s) es)
      ∙ all_one (λ r. list_all (test (volume_seen w s h) r) r.reached) (λ (r : ℕ × Rooted). root_seen w s r.0 r.1) (roots_of h) (slot, r) all one

  weaker : (p q : Item → Bool) (xs : List Item) → ((e : Item) → p e ≡ true → q e ≡ true) → list_all p xs ≡ true → list_all q xs ≡ true
  weaker p q xs each is = to_all q xs (λ e there. each e (from_all p xs is e there))

  root_below : list_all (λ e. nat_lt e.pointer.vvbn h.span) es ≡ true
  unfolding has_pointers_in_range volume_seen seen
  root_below = weaker (λ e. nat_lt e.pointer.vvbn h.span && is_hint w.blocks e.pointer.pvbn) (λ e. nat_lt e.pointer.vvbn h.span) es (λ e is. (and_parts (nat_lt e.pointer.vvbn h.span) _ is).0)
      (of_root (λ x r e. nat_lt e.item.pointer.vvbn x.head.span && is_hint w.blocks e.item.pointer.pvbn)
      (of_volume w (λ s x. list_all (λ r. list_all (λ e. nat_lt e.item.pointer.vvbn x.head.span && is_hint w.blocks e.item.pointer.pvbn) r.reached) x.roots) s h tables.ranges small there))

  once_there : list_all (λ a. is_some (place w s a.pointer.vvbn) && list_all (λ b. not (a.pointer.vvbn == b.pointer.vvbn) || is_same_position a b) es) es ≡ true
  unfolding reaches_once root_seen
  once_there =
      let all = of_root (λ x r a. is_some a.at && list_all (λ b. not (a.item.pointer.vvbn == b.item.pointer.vvbn) || is_same_position a.item b.item) r.reached)
      (of_volume w (λ s x. list_all (λ r. list_all (λ a. is_some a.at && list_all (λ b. not (a.item.pointer.vvbn == b.item.pointer.vvbn) || is_same_position a.item b.item) r.reached) r.reached) x.roots) s h tables.once small there) in
      weaker (λ a. is_some (reached_at w s a).at && list_all (λ b. not (a.pointer.vvbn == b.item.pointer.vvbn) || is_same_position a b.item) (map (reached_at w s) es))
      (λ a. is_some (place w s a.pointer.vvbn) && list_all (λ b. not (a.pointer.vvbn == b.pointer.vvbn) || is_same_position a b) es) es
      (λ a is. let parts = and_parts (is_some (place w s a.pointer.vvbn)) _ is in
      and_from (is_some (place w s a.pointer.vvbn)) _ parts.0 (sym (list_all-map (λ (b : Reached). not (a.pointer.vvbn == b.item.pointer.vvbn) || is_same_position a b.item) (reached_at w s) es) ∙ parts.1)) all

  root_once : list_all (λ a. list_all (λ b. not (a.pointer.vvbn == b.pointer.vvbn) || is_same_position a b) es) es ≡ true
  root_once = weaker _ (λ a. list_all (λ b. not (a.pointer.vvbn == b.pointer.vvbn) || is_same_position a b) es) es (λ a is. (and_parts (is_some (place w s a.pointer.vvbn)) _ is).1) once_there

  -- ---- places

  -- the pointer of its table at a place
  abbrev pub pointer_of : Owner → ℕ → ℕ → Pointer
  pointer_of o level index = pointer_in (under w s) r.levels r.root o level index

  -- Its VVBN is one of the span.
  pub led_below : (o : Owner) (level index : ℕ) → (pointer_of o level index).stamp ≢ 0 → (pointer_of o level index).vvbn < h.span
  led_below o level index some =
      let at = at_place (under w s) r.levels r.root (λ e. nat_lt e.pointer.vvbn h.span) root_below o level index some in
      let test : nat_lt (pointer_of o level index).vvbn h.span ≡ true = ap (λ (p : Pointer). nat_lt p.vvbn h.span) (sym at.pointer) ∙ at.passes in
      grind (arith, nat_tests, test)

  abbrev is_led : Item → Bool
  is_led e = is_some (place w s e.pointer.vvbn) && ((kind_at (place w s e.pointer.vvbn) == kind_of e) && is_true_hint e.pointer (place w s e.pointer.vvbn))

  all_led : list_all is_led es ≡ true
  unfolding has_reached_kinds has_true_hints
  all_led =
      let kinds = of_root (λ x r e. kind_at e.at == kind_of e.item) (of_volume w (λ s y. list_all (λ r. list_all (λ e. kind_at e.at == kind_of e.item) r.reached) y.roots) s h tables.kinds small there) in
      let hints = of_root (λ x r e. is_true_hint e.item.pointer e.at) (of_volume w (λ s y. list_all (λ r. list_all (λ e. is_true_hint e.item.pointer e.at) r.reached) y.roots) s h tables.hints small there) in
      to_all is_led es (λ e here. and_from (is_some (place w s e.pointer.vvbn)) _
      ((and_parts (is_some (place w s e.pointer.vvbn)) _ (from_all _ es once_there e here)).0)
      (and_from (kind_at (place w s e.pointer.vvbn) == kind_of e) _ (from_all (λ e. kind_at (place w s e.pointer.vvbn) == kind_of e) es kinds e here) (from_all (λ e. is_true_hint e.pointer (place w s e.pointer.vvbn)) es hints e here)))

  -- What a place leads to is found along the chain of bases, with the kind of its block, and the pointer tells where or nothing.
  pub led_entry : (o : Owner) (level index : ℕ) → (pointer_of o level index).stamp ≢ 0
      → (e : Placed) × ((place w s (pointer_of o level index).vvbn ≡ Some e) × IsLedEntry (kind_led (number (under w s) r.levels r.root o) level) (pointer_of o level index) e)
  led_entry o level index some =
      let at = at_place (under w s) r.levels r.root is_led all_led o level index some in
      let kind : kind_of at.item ≡ kind_led (number (under w s) r.levels r.root o) level = (λ i. kind_led (at.owner i) (at.level_is i)) in
      by (pointer_of o level index).vvbn at.item (place w s (pointer_of o level index).vvbn) refl kind at.pointer
      (subst (λ (p : Pointer). (is_some (place w s p.vvbn) && ((kind_at (place w s p.vvbn) == kind_of at.item) && is_true_hint at.item.pointer (place w s p.vvbn))) ≡ true) at.pointer at.passes)
    where
      by : (v : ℕ) {kind : ℕ} {p : Pointer} (item : Item) (o : Option Placed) → place w s v ≡ o → kind_of item ≡ kind → item.pointer ≡ p → (is_some o && ((kind_at o == kind_of item) && is_true_hint item.pointer o)) ≡ true
          → (e : Placed) × ((place w s v ≡ Some e) × IsLedEntry kind p e)
      by v item None is kind same passes = absurd cc
      by v {kind} {p} item (Some e) is kind_is same passes =
          let parts = and_parts (e.kind == kind_of item) _ passes in
          let first : e.kind ≡ kind_of item = grind (arith, nat_tests, parts.0) in
          (e, (is, record { hint = subst (λ (q : Pointer). (q.pvbn ≡ 0) ⊎ (q.pvbn ≡ e.pvbn)) same (hinted item.pointer e parts.1); kind_is = first ∙ kind_is }))
        where
          hinted : (q : Pointer) (e : Placed) → ((q.pvbn == 0) || (e.pvbn == q.pvbn)) ≡ true → (q.pvbn ≡ 0) ⊎ (q.pvbn ≡ e.pvbn)
          hinted q e test = so (q.pvbn == 0) refl
            where
              so : (b : Bool) → (q.pvbn == 0) ≡ b → (q.pvbn ≡ 0) ⊎ (q.pvbn ≡ e.pvbn)
              so true zero_is = inl (grind (arith, nat_tests, zero_is))
              so false some_is = inr (grind (arith, nat_tests, some_is, test))

  module _ (few : r.levels ≤ 2) where
    -- One VVBN is led to from one place of one tree.
    pub root_led_once : (o k : Owner) (level index l j : ℕ) → (pointer_of o level index).stamp ≢ 0 → (pointer_of k l j).stamp ≢ 0 → (pointer_of k l j).vvbn ≡ (pointer_of o level index).vvbn → (k ≡ o) × ((l ≡ level) × (j ≡ index))
    root_led_once = led_once (under w s) r.levels r.root few root_once

    module _ (maps : AreMaps w) where
      -- Its map is what it reaches.
      pub root_reach : (v : ℕ) → volume_bit w s h.span slot v ≡ is_listed es v
      unfolding has_maps_of_reach volume_bit
      root_reach v = so (nat_lt v (block_bits * map_blocks h.span)) refl
        where
          maps_here : list_all (is_reach w s h) (roots_of h) ≡ true
          maps_here = subst (λ (o : Option Head). option_map_or (λ h. list_all (is_reach w s h) (roots_of h)) o true ≡ true) there (of_slot (λ s. option_map_or (λ h. list_all (is_reach w s h) (roots_of h)) (w.head s) true) s maps.reach small)

          inside : list_all (λ v. agree (volume_bit w s h.span slot v) (is_listed es v)) (range_with_len 0 (block_bits * map_blocks h.span)) ≡ true
          inside = from_all (is_reach w s h) (roots_of h) maps_here (slot, r) one

          far : h.span ≤ v → (b : Bool) → is_listed es v ≡ b → b ≡ false
          far past false e = refl
          far past true e =
              let low : nat_lt (picked es v).pointer.vvbn h.span ≡ true = picked_all (λ e. nat_lt e.pointer.vvbn h.span) es v e root_below in
              let at = picked_is es v e in
              absurd (let lt : (picked es v).pointer.vvbn < h.span = grind (arith, nat_tests, low) in omega (arith, lt, at, past))

          so : (b : Bool) → nat_lt v (block_bits * map_blocks h.span) ≡ b → volume_bit w s h.span slot v ≡ is_listed es v
          so true e = agree_same _ _ (all_in_range (λ v. agree (volume_bit w s h.span slot v) (is_listed es v)) v 0 (block_bits * map_blocks h.span) inside (omega arith) (let lt : v < block_bits * map_blocks h.span = grind (arith, nat_tests, e) in omega (arith, lt)))
          so false e = let past : block_bits * map_blocks h.span ≤ v = grind (arith, nat_tests, e) in rw e (sym (far (omega (arith, past)) (is_listed es v) refl))

      -- Each VVBN that it leads to has its bit,
      pub root_bit : (o : Owner) (level index : ℕ) → (pointer_of o level index).stamp ≢ 0 → volume_bit w s h.span slot (pointer_of o level index).vvbn ≡ true
      root_bit o level index some = root_reach (pointer_of o level index).vvbn ∙ listed_place (under w s) r.levels r.root o level index some

      -- and each bit is of one.
      pub record IsRootLed (v : ℕ) : Type 0 where
        pub owner : Owner
        pub level : ℕ
        pub index : ℕ
        -- a pointer that leads there
        pub some : (pointer_of owner level index).stamp ≢ 0
        pub vvbn : (pointer_of owner level index).vvbn ≡ v

      abbrev is_stood : Item → Bool
      is_stood e = not ((pointer_of (owner_of e.owner) e.level e.place).stamp == 0) && (e.pointer.vvbn == (pointer_of (owner_of e.owner) e.level e.place).vvbn)

      stood : (p : Pointer) (v : ℕ) → p.stamp ≢ 0 → p.vvbn ≡ v → (not (p.stamp == 0) && (v == p.vvbn)) ≡ true
      stood p v some is = let first : (p.stamp == 0) ≡ false = grind (arith, nat_tests, some) in let second : (v == p.vvbn) ≡ true = grind (arith, nat_tests, is) in (λ i. not (first i) && second i)

      all_stood : list_all is_stood es ≡ true
      all_stood = from_trees is_stood (standing_of w s r)
          (λ level index some. stood (pointer_of InodeFile level index) (pointer_of InodeFile level index).vvbn some refl)
          (λ n q is level index some.
          let at : pointer_of (OfFile n) level index ≡ pointer_at (tree_of (standing_of w s r) n q) level index = ap (λ (o : Option InodeRecord). option_map_or (λ q. pointer_at (tree_of (standing_of w s r) n q) level index) o hole) is in
          let stands : (pointer_of (OfFile n) level index).stamp ≢ 0 = subst (λ (p : Pointer). p.stamp ≢ 0) (sym at) some in
          let owner : owner_of n ≡ OfFile n = owner_is (under w s) r.levels r.root few n level index stands in
          let here : pointer_of (owner_of n) level index ≡ pointer_at (tree_of (standing_of w s r) n q) level index = ap (λ (o : Owner). pointer_of o level index) owner ∙ at in
          subst (λ (p : Pointer). (not (p.stamp == 0) && ((pointer_at (tree_of (standing_of w s r) n q) level index).vvbn == p.vvbn)) ≡ true) (sym here) (stood (pointer_at (tree_of (standing_of w s r) n q) level index) (pointer_at (tree_of (standing_of w s r) n q) level index).vvbn some refl))

      pub root_led : (v : ℕ) → volume_bit w s h.span slot v ≡ true → IsRootLed v
      root_led v bit =
          let listed : is_listed es v ≡ true = sym (root_reach v) ∙ bit in
          let e : Item = picked es v in
          let test = picked_all is_stood es v listed all_stood in
          let parts = and_parts (not ((pointer_of (owner_of e.owner) e.level e.place).stamp == 0)) _ test in
          let same : e.pointer.vvbn ≡ (pointer_of (owner_of e.owner) e.level e.place).vvbn = grind (arith, nat_tests, parts.1) in
          record {
            owner = owner_of e.owner;
            level = e.level;
            index = e.place;
            some = λ none. let zero_is : ((pointer_of (owner_of e.owner) e.level e.place).stamp == 0) ≡ true = grind (arith, nat_tests, none) in wrong (sym (ap not zero_is) ∙ parts.0);
            vvbn = sym same ∙ picked_is es v listed;
          }
        where
          wrong : false ≡ true → ⊥
          wrong e = cc
