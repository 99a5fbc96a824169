-- Both steps make less of what is left to do. A clean step makes pointers known, and none unknown. A split step does with one block.
use Rattle.std.proofs.Common.{◌≡◌, ◌≢◌, ℕ, ◌+◌, ◌*◌, ◌%◌, ◌<◌, ◌≤◌, Bool, true, false, not, List, [], ◌∷◌, map, flat_map, inr, refl, sym, ap, subst, ◌∙◌, arith, ⊎_elim, get_or}
use Rattle.std.specs.Prelude.{◌&&◌, ◌||◌, ◌==◌, nat_lt, if◌then◌else◌}
use Rattle.std.specs.List.{list_any}
use Rattle.std.specs.Option.{is_none}
use Rattle.std.proofs.lemmas.Bool.{both_ways, and_parts}
use Rattle.std.proofs.lemmas.Bool.Decides.{nat_tests}
use Rattle.fv_codec.specs.declared.pointer.Pointer.{Pointer}
use Rattle.fv_bits.specs.Bits.{bit_of_area}
use Rattle.fv_model.specs.Trees.{fan}
use Rattle.fv_model.specs.Space.{map_blocks}
use Rattle.fv_laws.proofs.Lists.{In, from_flat_map, from_map, in_flat_map, in_map}
use Rattle.fv_laws.proofs.Tests.{from_any, to_any, from_all}
use Rattle.fv_tables.specs.Spelled.{hole}
use Rattle.fv_tables.specs.Told.{records_each}
use Rattle.fv_tables.specs.Reached.{Item, items}
use Rattle.fv_tables.specs.Alike.{hintless_item}
use Rattle.fv_image.specs.Layout.{block_bits}
use Rattle.fv_image.specs.Views.{Placed, Rooted, Head, View, kind_at, map_vvbn, map_slot, block_in, volume_bit, used_slots, is_held_in}
use Rattle.fv_image.specs.BlockRules.{agree}
use Rattle.fv_image.specs.ReachRules.{is_same_position}
use Rattle.fv_image.specs.HintRules.{is_unknown, is_known, is_in_label, is_splitting}
use Rattle.fv_image.specs.Chains.{place}
use Rattle.fv_image.specs.Volumes.{standing_of}
use Rattle.fv_image.specs.Seen.{roots_of}
use Rattle.fv_image.specs.Staying.{own_items}
use Rattle.fv_image.specs.Moves.{Moves, FitsRoots}
use Rattle.fv_image.specs.Places.{Held, is_one_pointer, pointers, holds_known, is_left, todo_of}
use Rattle.fv_places.specs.Inside.{pointers_under, index_at, StandsIn, IsBlank, is_unknown_in}
use Rattle.fv_places.specs.Origins.{IsPair, Beside}
use Rattle.fv_places.proofs.Pairs.{parts}
use Rattle.fv_places.proofs.MovedPairs.{moved_beside}
use Rattle.fv_places.proofs.InBlocks.{all_inside}
use Rattle.fv_places.proofs.Counts.{once_beside, once_keeps, any_beside, none_beside, fewer, count_falls}

module _ (w u : View) (s v : ℕ) (was now : Placed) (moves : Moves w u s v was now) (h : Head) (fits : FitsRoots w s h) where
  -- ---- the pointers of all roots, before and after

  abbrev of_root : View → ℕ × Rooted → List Held
  of_root z r = map (λ (e : Item). record { map = r.0; item = e }) (items (standing_of z s r.1))

  abbrev all_held : View → List Held
  all_held z = flat_map (of_root z) (roots_of h)

  abbrev Pair : Held → Held → Type 0
  Pair a b = (b.map ≡ a.map) × IsPair (StandsIn now) v a.item b.item

  -- with their roots
  root_beside : (k : ℕ) (es fs : List Item) → Beside (IsPair (StandsIn now) v) es fs
      → Beside Pair (map (λ (e : Item). record { map = k; item = e }) es) (map (λ (e : Item). record { map = k; item = e }) fs)
  root_beside k [] [] is = tt
  root_beside k [] (f ∷ fs) is = absurd is
  root_beside k (e ∷ es) [] is = absurd is
  root_beside k (e ∷ es) (f ∷ fs) is = ((refl, is.0), root_beside k es fs is.1)

  -- of all roots
  held_beside : Beside Pair (all_held w) (all_held u)
  held_beside = parts Pair (of_root w) (of_root u) (roots_of h) (λ r there.
      root_beside r.0 (items (standing_of w s r.1)) (items (standing_of u s r.1))
      (moved_beside w u s v was now moves r.1 (fits r.0 r.1 there)))

  -- two are one pointer as they were
  one_alike : (a b c d : Held) → Pair a b → Pair c d → is_one_pointer b d ≡ is_one_pointer a c
  one_alike a b c d p q = λ i. is_one_pointer (as_one a b p i) (as_one c d q i)
    where
      as_one : (a b : Held) → Pair a b
          → ◌≡◌ {A = Held} (record { map = b.map; item = hintless_item b.item }) (record { map = a.map; item = hintless_item a.item })
      as_one a b p = λ i. record { map = p.0 i; item = p.1.same i }

  -- so the pointers of the volume stand pair by pair, each once
  pointers_beside : Beside Pair (pointers w s h) (pointers u s h)
  unfolding pointers
  pointers_beside = once_beside Pair is_one_pointer one_alike (all_held w) (all_held u) held_beside

  -- ---- each pointer stands in one block at one index

  abbrev at_index : Item → Bool
  at_index e = is_unknown (get_or (pointers_under w s v) (index_at (place w s v) e) hole)

  abbrev is_inside : Item → Bool
  is_inside e = is_in_label e || (not (e.holder.vvbn == v) || agree (is_unknown e.pointer) (at_index e))

  -- of all that a root reached
  stood : (a : Held) → In a (all_held w) → is_inside a.item ≡ true
  stood a there =
      let r = from_flat_map (of_root w) a (roots_of h) there in
      let e = from_map (λ (e : Item). record { map = r.0.0; item = e }) a (items (standing_of w s r.0.1)) r.2 in
      subst (λ (c : Held). is_inside c.item ≡ true) e.2
      (from_all is_inside (items (standing_of w s r.0.1)) (all_inside w s v r.0.1 (fits r.0.0 r.0.1 r.1) is_unknown) e.0 e.1)

  -- one position has one index
  same_index : (a b : Item) → is_same_position a b ≡ true → index_at (place w s v) a ≡ index_at (place w s v) b
  same_index a b same =
      let one = and_parts (a.owner == b.owner) _ same in
      let two = and_parts (a.level == b.level) _ one.1 in
      let owner : a.owner ≡ b.owner = is_equal a.owner b.owner one.0 in
      let spot : a.place ≡ b.place = is_equal a.place b.place two.1 in
      λ i. if kind_at (place w s v) == 5 then owner i % records_each else spot i % fan
    where
      is_equal : (m n : ℕ) → (m == n) ≡ true → m ≡ n
      is_equal m n e = grind (arith, nat_tests)

  -- so what is one pointer with an unknown one in the block is an unknown one in it
  marked_alike : (a b : Held) → In a (all_held w) → In b (all_held w) → is_one_pointer a b ≡ true → is_unknown_in v b.item ≡ true
      → is_unknown_in v a.item ≡ true
  marked_alike a b left right one mark =
      so (is_in_label a.item) (is_in_label b.item) (is_unknown a.item.pointer) (is_unknown b.item.pointer) (a.map == b.map)
      (a.item.holder.vvbn == b.item.holder.vvbn) (is_same_position a.item b.item)
      (a.item.holder.vvbn == v) (b.item.holder.vvbn == v) (at_index a.item) (at_index b.item)
      (through a.item.holder.vvbn b.item.holder.vvbn)
      (λ same. ap (λ (n : ℕ). is_unknown (get_or (pointers_under w s v) n hole)) (same_index a.item b.item same)) one (stood a left)
      (stood b right) mark
    where
      through : (m n : ℕ) → (m == n) ≡ true → (n == v) ≡ true → (m == v) ≡ true
      through m n e f = grind (arith, nat_tests)

      so : (la lb ua ub maps holders spot va vb ia ib : Bool) → (holders ≡ true → vb ≡ true → va ≡ true) → (spot ≡ true → ia ≡ ib)
          → (if la then lb && maps else (not lb && (holders && spot))) ≡ true → (la || (not va || agree ua ia)) ≡ true
          → (lb || (not vb || agree ub ib)) ≡ true
          → (ub && (not lb && vb)) ≡ true → (ua && (not la && va)) ≡ true
      so true true ua ub maps holders spot va vb ia ib through index one a b mark = absurd (no_and ub mark)
        where
          no_and : (c : Bool) → (c && false) ≡ true → ⊥
          no_and true e = cc
          no_and false e = cc
      so true false ua ub maps holders spot va vb ia ib through index one a b mark = absurd cc
      so false true ua ub maps holders spot va vb ia ib through index one a b mark = absurd cc
      so false false ua true maps true true va true ia ib through index one a b mark = by va ia ib (through refl refl) (index refl) a b
        where
          by : (va ia ib : Bool) → va ≡ true → ia ≡ ib → (not va || agree ua ia) ≡ true → agree true ib ≡ true → (ua && va) ≡ true
          by true true true e f a b = and_true ua (agree_true ua a)
            where
              agree_true : (c : Bool) → agree c true ≡ true → c ≡ true
              agree_true true e = refl
              agree_true false e = absurd cc

              and_true : (c : Bool) → c ≡ true → (c && true) ≡ true
              and_true true e = refl
              and_true false e = absurd cc
          by true true false e f a b = absurd cc
          by true false true e f a b = absurd cc
          by true false false e f a b = absurd cc
          by false ia ib e f a b = absurd cc
      so false false ua false maps holders spot va vb ia ib through index one a b mark = absurd cc
      so false false ua true maps holders spot va false ia ib through index one a b mark = absurd cc
      so false false ua true maps false spot va true ia ib through index one a b mark = absurd cc
      so false false ua true maps true false va true ia ib through index one a b mark = absurd cc

  -- ---- a clean step

  module _ (filled : (q : Pointer) → StandsIn now q → q.stamp ≢ 0 → q.pvbn ≢ 0) where
    -- no pointer in the new block is unknown
    known : (q : Pointer) → StandsIn now q → q.stamp ≢ 0 → is_unknown q ≡ false
    known q of some = let place = filled q of some in let a : (q.pvbn == 0) ≡ false = grind (arith, nat_tests) in
        (λ i. not (q.stamp == 0) && a i) ∙ none (not (q.stamp == 0))
      where
        none : (b : Bool) → (b && false) ≡ false
        none true = refl
        none false = refl

    -- none becomes unknown
    keeps : (a b : Held) → Pair a b → is_unknown b.item.pointer ≡ true → is_unknown a.item.pointer ≡ true
    keeps a b pair unknown = ⊎_elim
        (λ stays. subst (λ (q : Pointer). is_unknown q ≡ true) stays.0 unknown)
        (λ moved. absurd (both_ways (is_unknown b.item.pointer) (known b.item.pointer moved.1.1 pair.1.stands) unknown))
        pair.1.pointer

    -- and one that was unknown in the block becomes known
    drops : (a b : Held) → Pair a b → is_unknown_in v a.item ≡ true
        → (is_unknown a.item.pointer ≡ true) × (is_unknown b.item.pointer ≡ false)
    drops a b pair mark =
        let one = and_parts (is_unknown a.item.pointer) _ mark in
        let two = and_parts (not (is_in_label a.item)) _ one.1 in (
          one.0,
          ⊎_elim
              (λ stays. absurd (⊎_elim (λ (z : a.item.holder.stamp ≡ 0). no_zero a.item.holder.stamp two.0 z)
              (λ other. other (grind (arith, nat_tests))) stays.1))
              (λ moved. known b.item.pointer moved.1.1 pair.1.stands)
              pair.1.pointer,
        )
      where
        no_zero : (n : ℕ) → not (n == 0) ≡ true → n ≡ 0 → ⊥
        no_zero n e z =
            let t : (n == 0) ≡ true = grind (arith, nat_tests) in let wrong : false ≡ true = sym (ap (λ (b : Bool). not b) t) ∙ e in cc

    -- what a root reaches is among the pointers of all
    held_any : list_any (is_unknown_in v) (own_items w s h) ≡ true → list_any (λ (a : Held). is_unknown_in v a.item) (all_held w) ≡ true
    held_any any =
        let e = from_any (is_unknown_in v) (own_items w s h) any in
        let r = from_flat_map (λ (r : ℕ × Rooted). items (standing_of w s r.1)) e.0 (roots_of h) e.1.0 in
        to_any (λ (a : Held). is_unknown_in v a.item) (record { map = r.0.0; item = e.0 }) (all_held w)
        (in_flat_map (of_root w) r.0 (record { map = r.0.0; item = e.0 }) (roots_of h) r.1
        (in_map (λ (d : Item). record { map = r.0.0; item = d }) e.0 (items (standing_of w s r.0.1)) r.2)) e.1.1

    -- Where a root reaches an unknown pointer that stands in the block, less is left to do.
    pub clean_lowers : is_splitting h.base ≡ false → list_any (is_unknown_in v) (own_items w s h) ≡ true
        → todo_of u s h + 1 ≤ todo_of w s h
    unfolding todo_of pointers
    clean_lowers whole any = rw whole
        (fewer Pair (λ a. is_unknown a.item.pointer) (λ a. is_unknown a.item.pointer) (λ a. is_unknown_in v a.item) keeps drops
        (pointers w s h) (pointers u s h) pointers_beside
        (once_keeps is_one_pointer (λ a. is_unknown_in v a.item) (all_held w) marked_alike (held_any any)))

  -- ---- a split step

  module _ (blank : IsBlank now) (low : v < h.span) where
    abbrev known_in : ℕ → Held → Bool
    known_in q a = is_known a.item.pointer && (not (is_in_label a.item) && (a.item.holder.vvbn == q))

    label_same : (a b : Held) → Pair a b → is_in_label b.item ≡ is_in_label a.item
    label_same a b pair = ap (λ (e : Item). e.holder.stamp == 0) pair.1.same

    holder_same : (a b : Held) → Pair a b → b.item.holder.vvbn ≡ a.item.holder.vvbn
    holder_same a b pair = ap (λ (e : Item). e.holder.vvbn) pair.1.same

    -- a pointer that stands elsewhere is in no block under q
    elsewhere : (a : Held) (q : ℕ) → a.item.holder.vvbn ≢ q → known_in q a ≡ false
    elsewhere a q other = let test : (a.item.holder.vvbn == q) ≡ false = grind (arith, nat_tests) in
        (λ i. is_known a.item.pointer && (not (is_in_label a.item) && test i)) ∙ none (is_known a.item.pointer) (not (is_in_label a.item))
      where
        none : (b c : Bool) → (b && (c && false)) ≡ false
        none true true = refl
        none true false = refl
        none false c = refl

    -- another block holds a known pointer where it held one
    others_same : (q : ℕ) → q ≢ v → holds_known (pointers u s h) q ≡ holds_known (pointers w s h) q
    others_same q other = any_beside Pair (known_in q) (known_in q) (pointers w s h) (pointers u s h) pointers_beside (λ a b pair. ⊎_elim
        (λ stays. λ i. is_known (stays.0 i) && (not (label_same a b pair i) && (holder_same a b pair i == q)))
        (λ moved. elsewhere b q (λ e. other (sym e ∙ holder_same a b pair ∙ moved.0)) ∙ sym (elsewhere a q (λ e. other (sym e ∙ moved.0))))
        pair.1.pointer)

    -- and this one holds none
    none_here : holds_known (pointers u s h) v ≡ false
    none_here = none_beside Pair (known_in v) (pointers w s h) (pointers u s h) pointers_beside (λ a b pair. ⊎_elim
        (λ stays. ⊎_elim
        (λ (label : a.item.holder.stamp ≡ 0). let test : (a.item.holder.stamp == 0) ≡ true = grind (arith, nat_tests) in
        (λ i. is_known b.item.pointer && (not ((label_same a b pair ∙ test) i) && (b.item.holder.vvbn == v)))
        ∙ no_and (is_known b.item.pointer))
        (λ other. elsewhere b v (λ e. other (sym (holder_same a b pair) ∙ e)))
        stays.1)
        (λ moved. let zero = blank b.item.pointer moved.1.1 in let test : (b.item.pointer.pvbn == 0) ≡ true = grind (arith, nat_tests) in
        (λ i. (not (b.item.pointer.stamp == 0) && not (test i)) && (not (is_in_label b.item) && (b.item.holder.vvbn == v)))
        ∙ no_first (not (b.item.pointer.stamp == 0)) _)
        pair.1.pointer)
      where
        no_and : (b : Bool) → (b && false) ≡ false
        no_and true = refl
        no_and false = refl

        no_first : (b c : Bool) → ((b && false) && c) ≡ false
        no_first true c = refl
        no_first false c = refl

    -- no block of a map is under v, so the maps hold what they held
    bit_same : (slot q : ℕ) → volume_bit u s h.span slot q ≡ volume_bit w s h.span slot q
    unfolding volume_bit
    bit_same slot q =
        λ i. nat_lt q (block_bits * map_blocks h.span)
        && bit_of_area (λ k. block_in (moves.others s (map_vvbn h.span slot k) (inr (λ e. absurd (omega (arith, low, e)))) i)) q

    held_same : (q : ℕ) → is_held_in u s h q ≡ is_held_in w s h q
    unfolding is_held_in
    held_same q =
        λ i. if nat_lt q h.span then list_any (λ slot. bit_same slot q i) (used_slots h)
        else list_any (λ slot. slot == map_slot h.span q) (used_slots h)

    left_same : (q : ℕ) → q ≢ v → is_left u s h (pointers u s h) q ≡ is_left w s h (pointers w s h) q
    left_same q other = λ i. held_same q i && (is_none (moves.others s q (inr other) i) || others_same q other i)

    left_none : is_left u s h (pointers u s h) v ≡ false
    left_none = (λ i. is_held_in u s h v && (is_none (moves.here i) || none_here i)) ∙ no_and (is_held_in u s h v)
      where
        no_and : (b : Bool) → (b && false) ≡ false
        no_and true = refl
        no_and false = refl

    -- Where the block was left to do, one less is.
    pub split_lowers : is_splitting h.base ≡ true → is_left w s h (pointers w s h) v ≡ true → todo_of u s h + 1 ≡ todo_of w s h
    unfolding todo_of
    split_lowers split left =
        rw split (count_falls (is_left w s h (pointers w s h)) (is_left u s h (pointers u s h)) v 0 h.span (omega arith)
        (omega (arith, low)) left_same left left_none)
