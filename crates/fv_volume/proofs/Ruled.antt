-- What the rules of soundness ask of a volume without a base, by what is known of each pointer that its roots reach.
use Rattle.std.proofs.Common.{◌≡◌, ◌≢◌, ◌⊎◌, ℕ, ◌<◌, ◌≤◌, Bool, true, false, not, ◌&&◌, ◌||◌, Option, Some, None, is_some, refl, sym, ap, subst, ◌∙◌, arith, ⊎_elim}
use Rattle.std.specs.Prelude.{flat_map, map, nat_le, nat_lt, ◌==◌}
use Rattle.std.specs.List.{list_all}
use Rattle.std.specs.Option.{is_none}
use Rattle.std.proofs.lemmas.Bool.{and_from, and_parts, cases_Bool, or_left, or_right}
use Rattle.std.proofs.lemmas.Bool.Decides.{nat_tests}
use Rattle.std.proofs.lemmas.List.Folds.{list_all-append, list_all-map}
use Rattle.fv_codec.specs.declared.pointer.Pointer.{Pointer}
use Rattle.fv_codec.specs.Blocks.{greatest_word}
use Rattle.fv_laws.proofs.Lists.{In}
use Rattle.fv_laws.proofs.Tests.{to_all}
use Rattle.fv_model.specs.Machines.{first_block}
use Rattle.fv_tables.specs.Reached.{Item, items}
use Rattle.fv_tables.proofs.Lists.{all_flat}
use Rattle.fv_image.specs.Chains.{place}
use Rattle.fv_image.specs.HintRules.{is_in_label, is_splitting, is_true_hint, is_unknown}
use Rattle.fv_image.specs.ReachRules.{block_is, is_hint, is_of_position, is_same_position, kind_of, shape_for}
use Rattle.fv_image.specs.Seen.{Based, Reached, Root, base_seen, reached_at, root_seen, roots_of, volume_seen}
use Rattle.fv_image.specs.BlockRules.{agree, is_fine}
use Rattle.fv_image.specs.TableRules.{all_items, has_same_id, is_below_mark}
use Rattle.fv_image.specs.Views.{Footing, Head, Placed, Rooted, View, kind_at}
use Rattle.fv_image.specs.Volumes.{standing_of}

-- ---- what is known of a pointer

-- the owner of a tree of a table: its inode file, or that of a file
abbrev pub owner_number : Option ℕ → ℕ
owner_number None = greatest_word
owner_number (Some n) = n

-- What is known of a pointer that a table reaches, where `led` is the pointer of each place of each tree.
pub record IsRuled (w : View) (s : ℕ) (h : Head) (led : Option ℕ → ℕ → ℕ → Pointer) (e : Item) : Type 0 where
  pub from : Option ℕ
  pub owner : e.owner ≡ owner_number from
  pub stands : e.pointer ≡ led from e.level e.place
  pub some : e.pointer.stamp ≢ 0
  pub low : e.pointer.vvbn < h.span
  pub at : Placed
  pub lies : place w s e.pointer.vvbn ≡ Some at
  pub kind : at.kind ≡ kind_of e
  -- its place, where all are known, and what leads to the block in which it stands, where it tells none
  pub known : h.known ≡ true → e.pointer.pvbn ≢ 0
  pub unknown : e.pointer.pvbn ≡ 0 → (e.holder.stamp ≡ 0) ⊎ (e.holder.pvbn ≡ 0)
  pub hint : (e.pointer.pvbn ≡ 0) ⊎ (e.pointer.pvbn ≡ at.pvbn)
  pub least : first_block w.blocks ≤ at.pvbn
  pub greatest : at.pvbn < w.blocks
  pub shape : is_fine (shape_for e at.block) ≡ true
  pub position : is_of_position e at.block ≡ true
  pub stamp : e.pointer.stamp ≤ h.now
  pub mark : e.level < e.levels → e.pointer.stamp ≤ e.holder.stamp

-- the pointers of the table of one root: so much is known of each, one VVBN is led to from one place of one tree, and the number of a
-- file isn't that of the inode file
pub record AreRuled (w : View) (s : ℕ) (h : Head) (r : Rooted) (led : Option ℕ → ℕ → ℕ → Pointer) : Type 0 where
  pub each : (test : Item → Bool) → ((e : Item) → IsRuled w s h led e → test e ≡ true) → list_all test (items (standing_of w s r)) ≡ true
  pub once : (a b : Option ℕ) (level index k j : ℕ) → (led a level index).stamp ≢ 0 → (led b k j).stamp ≢ 0 → (led a level index).vvbn ≡ (led b k j).vvbn → (a ≡ b) × ((level ≡ k) × (index ≡ j))
  pub numbers : (n level index : ℕ) → (led (Some n) level index).stamp ≢ 0 → n ≢ greatest_word

-- Pointers of two tables of a volume lead to one VVBN where they have one id, and have one id where they lead to one VVBN. A pointer's id is
-- its tree, its place there and its stamp.
pub record AreOneToOne (one other : Option ℕ → ℕ → ℕ → Pointer) : Type 0 where
  pub vvbn : (a : Option ℕ) (level index : ℕ) → (one a level index).stamp ≢ 0 → (other a level index).stamp ≡ (one a level index).stamp → (other a level index).vvbn ≡ (one a level index).vvbn
  pub place : (a b : Option ℕ) (level index k j : ℕ) → (one a level index).stamp ≢ 0 → (other b k j).stamp ≢ 0 → (one a level index).vvbn ≡ (other b k j).vvbn
      → (a ≡ b) × ((level ≡ k) × ((index ≡ j) × ((one a level index).stamp ≡ (other b k j).stamp)))

-- so do those of one table
pub one_itself : (w : View) (s : ℕ) (h : Head) (r : Rooted) (led : Option ℕ → ℕ → ℕ → Pointer) → AreRuled w s h r led → AreOneToOne led led
one_itself w s h r led is = record {
  vvbn = λ a level index some stamp. refl;
  place = λ a b level index k j first second alike.
      let one = is.once a b level index k j first second alike in
      (one.0, (one.1.0, (one.1.1, λ i. (led (one.0 i) (one.1.0 i) (one.1.1 i)).stamp)));
}

equals : (a b : ℕ) → a ≡ b → (a == b) ≡ true
equals a b e = grind (arith, nat_tests, e)

meant : (a b : ℕ) → (a == b) ≡ true → a ≡ b
meant a b e = grind (arith, nat_tests, e)

at_most : (a b : ℕ) → a ≤ b → nat_le a b ≡ true
at_most a b le = grind (arith, nat_tests, le)

below : (a b : ℕ) → a < b → nat_lt a b ≡ true
below a b low = grind (arith, nat_tests, low)

either : (b c : Bool) → (b ≡ true → c ≡ true) → (not b || c) ≡ true
either true c so = so refl
either false c so = refl

-- ---- two pointers of a volume

module _ (w : View) (s : ℕ) (h : Head) (one other : Option ℕ → ℕ → ℕ → Pointer) (a b : Item) (k : IsRuled w s h one a) (j : IsRuled w s h other b)
    (files : (n level index : ℕ) → (one (Some n) level index).stamp ≢ 0 → n ≢ greatest_word) (others : (n level index : ℕ) → (other (Some n) level index).stamp ≢ 0 → n ≢ greatest_word) (alike : AreOneToOne one other) where
  first : (one k.from a.level a.place).stamp ≢ 0
  first = subst (λ (p : Pointer). p.stamp ≢ 0) k.stands k.some

  second : (other j.from b.level b.place).stamp ≢ 0
  second = subst (λ (p : Pointer). p.stamp ≢ 0) j.stands j.some

  same_tree : owner_number k.from ≡ owner_number j.from → k.from ≡ j.from
  same_tree = by k.from j.from first second
    where
      by : (c d : Option ℕ) → (one c a.level a.place).stamp ≢ 0 → (other d b.level b.place).stamp ≢ 0 → owner_number c ≡ owner_number d → c ≡ d
      by None None one two same = refl
      by None (Some n) one two same = absurd (others n b.level b.place two (sym same))
      by (Some n) None one two same = absurd (files n a.level a.place one same)
      by (Some n) (Some m) one two same = ap (λ (i : ℕ). Some i) same

  -- those that lead to one VVBN have one id
  led_to_one : a.pointer.vvbn ≡ b.pointer.vvbn → has_same_id a b ≡ true
  led_to_one same =
      let at = alike.place k.from j.from a.level a.place b.level b.place first second (ap (λ (p : Pointer). p.vvbn) (sym k.stands) ∙ same ∙ ap (λ (p : Pointer). p.vvbn) j.stands) in
      let stamp : a.pointer.stamp ≡ b.pointer.stamp = ap (λ (p : Pointer). p.stamp) k.stands ∙ at.1.1.1 ∙ ap (λ (p : Pointer). p.stamp) (sym j.stands) in
      and_from (is_same_position a b) _
      (and_from (a.owner == b.owner) _ (equals a.owner b.owner (k.owner ∙ ap owner_number at.0 ∙ sym j.owner)) (and_from (a.level == b.level) _ (equals a.level b.level at.1.0) (equals a.place b.place at.1.1.0)))
      (equals a.pointer.stamp b.pointer.stamp stamp)

  -- and those of one id lead to one
  of_one_id : has_same_id a b ≡ true → a.pointer.vvbn ≡ b.pointer.vvbn
  of_one_id is =
      let parts = and_parts (is_same_position a b) (a.pointer.stamp == b.pointer.stamp) is in
      let positions = and_parts (a.owner == b.owner) _ parts.0 in
      let levels = and_parts (a.level == b.level) _ positions.1 in
      let tree : k.from ≡ j.from = same_tree (sym k.owner ∙ meant a.owner b.owner positions.0 ∙ j.owner) in
      let level : a.level ≡ b.level = meant a.level b.level levels.0 in
      let index : a.place ≡ b.place = meant a.place b.place levels.1 in
      let stands : b.pointer ≡ other k.from a.level a.place = j.stands ∙ (λ i. other (sym tree i) (sym level i) (sym index i)) in
      let stamp : (other k.from a.level a.place).stamp ≡ (one k.from a.level a.place).stamp =
      ap (λ (p : Pointer). p.stamp) (sym stands) ∙ sym (meant a.pointer.stamp b.pointer.stamp parts.1) ∙ ap (λ (p : Pointer). p.stamp) k.stands in
      ap (λ (p : Pointer). p.vvbn) k.stands ∙ sym (alike.vvbn k.from a.level a.place first stamp) ∙ ap (λ (p : Pointer). p.vvbn) (sym stands)

  pub same_id : agree (has_same_id a b) (a.pointer.vvbn == b.pointer.vvbn) ≡ true
  same_id = ⊎_elim
      (λ (is : has_same_id a b ≡ true). ap (λ (t : Bool). agree t (a.pointer.vvbn == b.pointer.vvbn)) is ∙ equals a.pointer.vvbn b.pointer.vvbn (of_one_id is))
      (λ (isnt : has_same_id a b ≡ false). ap (λ (t : Bool). agree t (a.pointer.vvbn == b.pointer.vvbn)) isnt ∙ differs (a.pointer.vvbn == b.pointer.vvbn) refl isnt)
      (cases_Bool (has_same_id a b))
    where
      differs : (t : Bool) → (a.pointer.vvbn == b.pointer.vvbn) ≡ t → has_same_id a b ≡ false → not t ≡ true
      differs false e isnt = refl
      differs true e isnt = sym isnt ∙ led_to_one (meant a.pointer.vvbn b.pointer.vvbn e)

-- ---- the rules

module _ (w : View) (s : ℕ) (h : Head) (led : ℕ → Rooted → Option ℕ → ℕ → ℕ → Pointer) (is : (k : ℕ) (r : Rooted) → In {X = ℕ × Rooted} (k, r) (roots_of h) → AreRuled w s h r (led k r)) where
  -- what holds of each root holds of all that are seen
  pub of_roots : (test : Root → Bool) → ((k : ℕ) (r : Rooted) → In {X = ℕ × Rooted} (k, r) (roots_of h) → test (root_seen w s k r) ≡ true) → list_all test (volume_seen w s h).roots ≡ true
  unfolding volume_seen
  of_roots test each = list_all-map test (λ (r : ℕ × Rooted). root_seen w s r.0 r.1) (roots_of h) ∙ to_all (λ (r : ℕ × Rooted). test (root_seen w s r.0 r.1)) (roots_of h) (λ r there. each r.0 r.1 there)

  -- what holds of each pointer holds of all that the roots reach
  pub of_each : (test : Reached → Bool) → ((places : Option ℕ → ℕ → ℕ → Pointer) (e : Item) → IsRuled w s h places e → test (reached_at w s e) ≡ true) → list_all (λ (r : Root). list_all test r.reached) (volume_seen w s h).roots ≡ true
  unfolding root_seen
  of_each test f = of_roots (λ (r : Root). list_all test r.reached)
      (λ k r one. list_all-map test (reached_at w s) (items (standing_of w s r)) ∙ (is k r one).each (λ e. test (reached_at w s e)) (f (led k r)))

  pub shapes : list_all (λ (r : Root). list_all (λ e. block_is (λ block. is_fine (shape_for e.item block)) e.at) r.reached) (volume_seen w s h).roots ≡ true
  shapes = of_each (λ e. block_is (λ block. is_fine (shape_for e.item block)) e.at) (λ places e k. ap (block_is (λ block. is_fine (shape_for e block))) k.lies ∙ k.shape)

  pub ranges : list_all (λ (r : Root). list_all (λ e. nat_lt e.item.pointer.vvbn h.span && is_hint w.blocks e.item.pointer.pvbn) r.reached) (volume_seen w s h).roots ≡ true
  ranges = of_each (λ e. nat_lt e.item.pointer.vvbn h.span && is_hint w.blocks e.item.pointer.pvbn) (λ places e k. and_from (nat_lt e.pointer.vvbn h.span) _ (below e.pointer.vvbn h.span k.low) (⊎_elim
      (λ (none : e.pointer.pvbn ≡ 0). or_left (e.pointer.pvbn == 0) _ (equals e.pointer.pvbn 0 none))
      (λ (told : e.pointer.pvbn ≡ k.at.pvbn). or_right (e.pointer.pvbn == 0) _ (ap (λ (p : ℕ). nat_le (first_block w.blocks) p && nat_lt p w.blocks) told
      ∙ and_from (nat_le (first_block w.blocks) k.at.pvbn) (nat_lt k.at.pvbn w.blocks) (at_most (first_block w.blocks) k.at.pvbn k.least) (below k.at.pvbn w.blocks k.greatest)))
      k.hint))

  pub positions : list_all (λ (r : Root). list_all (λ e. block_is (is_of_position e.item) e.at) r.reached) (volume_seen w s h).roots ≡ true
  positions = of_each (λ e. block_is (is_of_position e.item) e.at) (λ places e k. ap (block_is (is_of_position e)) k.lies ∙ k.position)

  pub kinds : list_all (λ (r : Root). list_all (λ e. kind_at e.at == kind_of e.item) r.reached) (volume_seen w s h).roots ≡ true
  kinds = of_each (λ e. kind_at e.at == kind_of e.item) (λ places e k. equals (kind_at (place w s e.pointer.vvbn)) (kind_of e) (ap kind_at k.lies ∙ k.kind))

  pub marks : list_all (λ (r : Root). list_all (λ e. not (is_below_mark e.item) || nat_le e.item.pointer.stamp e.item.holder.stamp) r.reached) (volume_seen w s h).roots ≡ true
  marks = of_each (λ e. not (is_below_mark e.item) || nat_le e.item.pointer.stamp e.item.holder.stamp)
      (λ places e k. either (is_below_mark e) _ (λ under. at_most e.pointer.stamp e.holder.stamp (k.mark (lower e.level e.levels under))))
    where
      lower : (a b : ℕ) → nat_lt a b ≡ true → a < b
      lower a b test = grind (arith, nat_tests, test)

  pub hints : list_all (λ (r : Root). list_all (λ e. is_true_hint e.item.pointer e.at) r.reached) (volume_seen w s h).roots ≡ true
  hints = of_each (λ e. is_true_hint e.item.pointer e.at) (λ places e k. ap (is_true_hint e.pointer) k.lies ∙ ⊎_elim
      (λ (none : e.pointer.pvbn ≡ 0). or_left (e.pointer.pvbn == 0) (k.at.pvbn == e.pointer.pvbn) (equals e.pointer.pvbn 0 none))
      (λ (told : e.pointer.pvbn ≡ k.at.pvbn). or_right (e.pointer.pvbn == 0) (k.at.pvbn == e.pointer.pvbn) (equals k.at.pvbn e.pointer.pvbn (sym told)))
      k.hint)

  -- an unknown pointer has no place
  tells_none : (e : Item) → is_unknown e.pointer ≡ true → e.pointer.pvbn ≡ 0
  tells_none e so = meant e.pointer.pvbn 0 (and_parts (not (e.pointer.stamp == 0)) (e.pointer.pvbn == 0) so).1

  isnt_unknown : (e : Item) → e.pointer.pvbn ≢ 0 → is_unknown e.pointer ≡ false
  isnt_unknown e known = by (is_unknown e.pointer) refl
    where
      by : (t : Bool) → is_unknown e.pointer ≡ t → t ≡ false
      by true so = absurd (known (tells_none e so))
      by false so = refl

  pub unknown : list_all (λ (r : Root). list_all (λ e. not (is_unknown e.item.pointer) || (is_in_label e.item || (e.item.holder.pvbn == 0))) r.reached) (volume_seen w s h).roots ≡ true
  unknown = of_each (λ e. not (is_unknown e.item.pointer) || (is_in_label e.item || (e.item.holder.pvbn == 0))) (λ places e k. either (is_unknown e.pointer) _ (λ so. ⊎_elim
      (λ (none : e.holder.stamp ≡ 0). or_left (is_in_label e) (e.holder.pvbn == 0) (equals e.holder.stamp 0 none))
      (λ (none : e.holder.pvbn ≡ 0). or_right (is_in_label e) (e.holder.pvbn == 0) (equals e.holder.pvbn 0 none))
      (k.unknown (tells_none e so))))

  pub known_places : list_all (λ (r : Root). list_all (λ e. not h.known || not (is_unknown e.item.pointer)) r.reached) (volume_seen w s h).roots ≡ true
  known_places = of_each (λ e. not h.known || not (is_unknown e.item.pointer)) (λ places e k. either h.known _ (λ all. ap not (isnt_unknown e (k.known all))))

  -- ---- one place for each VVBN of a root

  pub once : list_all (λ (r : Root). list_all (λ a. is_some a.at && list_all (λ b. not (a.item.pointer.vvbn == b.item.pointer.vvbn) || is_same_position a.item b.item) r.reached) r.reached) (volume_seen w s h).roots ≡ true
  unfolding root_seen
  once = of_roots (λ (r : Root). list_all (λ a. is_some a.at && list_all (λ b. not (a.item.pointer.vvbn == b.item.pointer.vvbn) || is_same_position a.item b.item) r.reached) r.reached)
      (λ k r one.
      let rules = is k r one in
      let es = items (standing_of w s r) in
      list_all-map (λ a. is_some a.at && list_all (λ b. not (a.item.pointer.vvbn == b.item.pointer.vvbn) || is_same_position a.item b.item) (map (reached_at w s) es)) (reached_at w s) es
      ∙ rules.each (λ a. is_some (place w s a.pointer.vvbn) && list_all (λ b. not (a.pointer.vvbn == b.item.pointer.vvbn) || is_same_position a b.item) (map (reached_at w s) es))
      (λ a first. and_from (is_some (place w s a.pointer.vvbn)) _ (ap is_some first.lies)
      (list_all-map (λ b. not (a.pointer.vvbn == b.item.pointer.vvbn) || is_same_position a b.item) (reached_at w s) es
      ∙ rules.each (λ b. not (a.pointer.vvbn == b.pointer.vvbn) || is_same_position a b) (λ b second. either (a.pointer.vvbn == b.pointer.vvbn) _ (λ alike.
      (and_parts (is_same_position a b) _ (led_to_one w s h (led k r) (led k r) a b first second rules.numbers rules.numbers (one_itself w s h r (led k r) rules) (meant a.pointer.vvbn b.pointer.vvbn alike))).0)))))

  -- ---- without a base

  module _ (base : h.base ≡ None) where
    nothing : (test : Based → Bool) → list_all test (volume_seen w s h).base ≡ true
    unfolding volume_seen base_seen
    nothing test = ap (λ (o : Option Footing). list_all test (base_seen w s o)) base

    -- what holds of each pointer of each root holds of all items
    of_items : (test : Item → Bool) → ((k : ℕ) (r : Rooted) → In {X = ℕ × Rooted} (k, r) (roots_of h) → list_all test (items (standing_of w s r)) ≡ true) → list_all test (all_items (volume_seen w s h)) ≡ true
    unfolding root_seen
    of_items test f =
        list_all-append test (flat_map (λ (r : Root). map (λ (e : Reached). e.item) r.reached) (volume_seen w s h).roots) (map (λ (b : Based). b.item) (volume_seen w s h).base)
        ∙ and_from _ _
        (all_flat test (λ (r : Root). map (λ (e : Reached). e.item) r.reached) (volume_seen w s h).roots ∙ of_roots (λ (r : Root). list_all test (map (λ (e : Reached). e.item) r.reached)) (λ k r one.
        list_all-map test (λ (e : Reached). e.item) (map (reached_at w s) (items (standing_of w s r))) ∙ list_all-map (λ (e : Reached). test e.item) (reached_at w s) (items (standing_of w s r)) ∙ f k r one))
        (list_all-map test (λ (b : Based). b.item) (volume_seen w s h).base ∙ nothing (λ (b : Based). test b.item))

    pub ids : ((k : ℕ) (r : Rooted) (j : ℕ) (q : Rooted) → In {X = ℕ × Rooted} (k, r) (roots_of h) → In {X = ℕ × Rooted} (j, q) (roots_of h) → AreOneToOne (led k r) (led j q))
        → list_all (λ a. list_all (λ b. agree (has_same_id a b) (a.pointer.vvbn == b.pointer.vvbn)) (all_items (volume_seen w s h))) (all_items (volume_seen w s h)) ≡ true
    ids pairs = of_items (λ a. list_all (λ b. agree (has_same_id a b) (a.pointer.vvbn == b.pointer.vvbn)) (all_items (volume_seen w s h)))
        (λ k r one. (is k r one).each _ (λ a first. of_items (λ b. agree (has_same_id a b) (a.pointer.vvbn == b.pointer.vvbn))
        (λ j q two. (is j q two).each (λ b. agree (has_same_id a b) (a.pointer.vvbn == b.pointer.vvbn))
        (λ b second. same_id w s h (led k r) (led j q) a b first second (is k r one).numbers (is j q two).numbers (pairs k r j q one two)))))

    pub stamps : list_all (λ e. nat_le e.pointer.stamp h.now) (all_items (volume_seen w s h)) ≡ true
    stamps = of_items (λ e. nat_le e.pointer.stamp h.now) (λ k r one. (is k r one).each (λ e. nat_le e.pointer.stamp h.now) (λ e known. at_most e.pointer.stamp h.now known.stamp))

    pub split : (test : Root → Bool) → list_all (λ (r : Root). not (is_splitting h.base) || test r) (volume_seen w s h).roots ≡ true
    split test = of_roots (λ (r : Root). not (is_splitting h.base) || test r) (λ k r one. ap (λ (o : Option Footing). not (is_splitting o) || test (root_seen w s k r)) base)

    pub leaves : list_all (λ (b : Based). not b.own) (volume_seen w s h).base ≡ true
    leaves = nothing (λ (b : Based). not b.own)

    pub rests : (test : Root → Bool) → list_all (λ (r : Root). is_none h.base || test r) (volume_seen w s h).roots ≡ true
    rests test = of_roots (λ (r : Root). is_none h.base || test r) (λ k r one. ap (λ (o : Option Footing). is_none o || test (root_seen w s k r)) base)
