-- The items of a root before and after a block moved, pair by pair: each is what it was but for hints, and comes from where it stood or
-- from the block that moved.
use Rattle.std.proofs.Common.{◌≡◌, ◌≢◌, ◌⊎◌, ℕ, ◌+◌, ◌/◌, ◌<◌, ◌≤◌, Bool, true, false, List, [], ◌∷◌, ◌++◌, flat_map, inl, inr, refl, sym, ap, subst, ◌∙◌, arith, ⊎_elim}
use Rattle.std.specs.Prelude.{Option, Some, None, ◌==◌, nat_lt, if◌then◌else◌}
use Rattle.std.specs.List.{list_all}
use Rattle.std.specs.Option.{option_map}
use Rattle.std.proofs.lemmas.Bool.{cases_eq, cases_lt, and_from}
use Rattle.std.proofs.lemmas.Bool.Decides.{nat_tests}
use Rattle.fv_codec.specs.declared.pointer.Pointer.{Pointer}
use Rattle.fv_codec.specs.declared.inode.InodeRecord.{InodeRecord}
use Rattle.fv_codec.specs.Blocks.{greatest_word}
use Rattle.fv_model.specs.Trees.{fan, Spot}
use Rattle.fv_laws.proofs.Lists.{In}
use Rattle.fv_tables.specs.Spelled.{Under, Rooted, stored, hole, pointer_at}
use Rattle.fv_tables.specs.Told.{Standing, standing_at, spots, records_each, file_at, numbers}
use Rattle.fv_tables.specs.Reached.{Item, holder_of, item_of, reached_one, tree_items, file_items, items}
use Rattle.fv_tables.specs.Alike.{hintless_record, hintless_item, AreAlike}
use Rattle.fv_tables.proofs.AlikeTables.{alike_item, inode_pointer, alike_record}
use Rattle.fv_places.specs.Origins.{ComesFrom, IsPair, Beside, SpellsInside}
use Rattle.fv_places.proofs.Descents.{over_stands, record_at}
use Rattle.fv_places.proofs.Origins.{inode_comes, file_comes, records_alike}

-- ---- lists, pair by pair

-- one list behind another
join : {X : Type 0} (R : X → X → Type 0) (xs ys cs bs : List X) → Beside R xs ys → Beside R cs bs → Beside R (xs ++ cs) (ys ++ bs)
join R [] [] cs bs a b = b
join R [] (y ∷ ys) cs bs a b = absurd a
join R (x ∷ xs) [] cs bs a b = absurd a
join R (x ∷ xs) (y ∷ ys) cs bs a b = (a.0, join R xs ys cs bs a.1 b)

-- and lists of parts
pub parts : {X Y : Type 0} (R : X → X → Type 0) (f g : Y → List X) (ks : List Y) → ((k : Y) → In k ks → Beside R (f k) (g k))
    → Beside R (flat_map f ks) (flat_map g ks)
parts R f g [] each = tt
parts R f g (k ∷ ks) each =
    join R (f k) (g k) (flat_map f ks) (flat_map g ks) (each k (inl refl)) (parts R f g ks (λ n there. each n (inr there)))

-- what holds of each by the one beside it, holds of all
all_by_pairs : {X : Type 0} (R : X → X → Type 0) (test : X → Bool) (xs ys : List X) → Beside R xs ys
    → ((x y : X) → R x y → In x xs → test y ≡ true) → list_all test ys ≡ true
all_by_pairs R test [] [] is each = refl
all_by_pairs R test [] (y ∷ ys) is each = absurd is
all_by_pairs R test (x ∷ xs) [] is each = absurd is
all_by_pairs R test (x ∷ xs) (y ∷ ys) is each =
    and_from (test y) (list_all test ys) (each x y is.0 (inl refl))
    (all_by_pairs R test xs ys is.1 (λ a b pair there. each a b pair (inr there)))

-- ---- the items of a table

module _ (m n : Under) (v : ℕ) (same : (q : ℕ) → q ≢ v → n q ≡ m q) (Inside : Pointer → Type 0) (levels : ℕ) (root : Pointer)
    (alike : AreAlike m n levels root)
    (inside : SpellsInside m levels root Inside v (n v)) where
  abbrev x : Standing
  x = standing_at m levels root

  abbrev y : Standing
  y = standing_at n levels root

  abbrev Pair : Item → Item → Type 0
  Pair = IsPair Inside v

  -- a pointer is what it was, or stands in the block that moved
  brief : (p q h : Pointer) → ComesFrom Inside v p q h → (q ≡ p) ⊎ Inside q
  brief p q h from = ⊎_elim (λ stays. inl stays.0) (λ moved. inr moved.1.1) from

  -- The pointer to the block in which a pointer of a tree stands is what it was, too, or stands in the block that moved.
  holder_from : (owner lv : ℕ) (a b top now : Pointer)
      → ((level place : ℕ) → (pointer_at (stored n owner lv b) level place).stamp ≢ 0
      → ComesFrom Inside v (pointer_at (stored m owner lv a) level place) (pointer_at (stored n owner lv b) level place)
      (holder_of top (stored m owner lv a) level place))
      → ((now ≡ top) ⊎ Inside now) → (level place : ℕ) → (pointer_at (stored n owner lv b) level place).stamp ≢ 0
      → (holder_of now (stored n owner lv b) level place ≡ holder_of top (stored m owner lv a) level place)
      ⊎ Inside (holder_of now (stored n owner lv b) level place)
  holder_from owner lv a b top now comes start level place some = ⊎_elim
      (λ (low : level < lv). let test : nat_lt level lv ≡ true = grind (arith, nat_tests) in
      subst (λ (c : Bool).
      ((if c then pointer_at (stored n owner lv b) (level + 1) (place / fan) else now)
      ≡ (if c then pointer_at (stored m owner lv a) (level + 1) (place / fan) else top))
      ⊎ Inside (if c then pointer_at (stored n owner lv b) (level + 1) (place / fan) else now)) (sym test)
      (brief (pointer_at (stored m owner lv a) (level + 1) (place / fan)) (pointer_at (stored n owner lv b) (level + 1) (place / fan))
      (holder_of top (stored m owner lv a) (level + 1) (place / fan))
      (comes (level + 1) (place / fan) (over_stands (stored n owner lv b) level place low some))))
      (λ (high : lv ≤ level). let test : nat_lt level lv ≡ false = grind (arith, nat_tests) in
      subst (λ (c : Bool).
      ((if c then pointer_at (stored n owner lv b) (level + 1) (place / fan) else now)
      ≡ (if c then pointer_at (stored m owner lv a) (level + 1) (place / fan) else top))
      ⊎ Inside (if c then pointer_at (stored n owner lv b) (level + 1) (place / fan) else now)) (sym test) start)
      (cases_lt level lv)

  -- an item that doesn't stand now didn't stand before
  one_beside : (e f : Item) → hintless_item f ≡ hintless_item e → (f.pointer.stamp ≢ 0 → Pair e f)
      → Beside Pair (reached_one e) (reached_one f)
  one_beside e f alike pair = ⊎_elim
      (λ (none : e.pointer.stamp ≡ 0).
      let gone : f.pointer.stamp ≡ 0 = ap (λ (z : Item). z.pointer.stamp) alike ∙ none in
      let a : (e.pointer.stamp == 0) ≡ true = grind (arith, nat_tests) in
      let b : (f.pointer.stamp == 0) ≡ true = grind (arith, nat_tests) in rw (a, b) tt)
      (λ (some : e.pointer.stamp ≢ 0).
      let stamp : f.pointer.stamp ≡ e.pointer.stamp = ap (λ (z : Item). z.pointer.stamp) alike in
      let stands : f.pointer.stamp ≢ 0 = λ z. some (sym stamp ∙ z) in
      let a : (e.pointer.stamp == 0) ≡ false = grind (arith, nat_tests) in
      let b : (f.pointer.stamp == 0) ≡ false = grind (arith, nat_tests) in rw (a, b) (pair stands, tt))
      (cases_eq e.pointer.stamp 0)

  -- of the inode file
  inode_beside : Beside Pair (tree_items hole x.inode) (tree_items hole y.inode)
  unfolding tree_items
  inode_beside = parts Pair (λ (p : Spot). reached_one (item_of hole x.inode p.0 p.1))
      (λ (p : Spot). reached_one (item_of hole y.inode p.0 p.1)) (spots levels) (λ p there.
      let one = alike_item m n greatest_word levels root root refl alike.nodes hole hole refl p.0 p.1 in
      one_beside (item_of hole x.inode p.0 p.1) (item_of hole y.inode p.0 p.1) one (λ some. record {
        same = one;
        stands = some;
        pointer = inode_comes m n v same Inside levels root alike inside p.0 p.1 some;
        holder =
            holder_from greatest_word levels root root hole hole (inode_comes m n v same Inside levels root alike inside)
            (inl refl) p.0 p.1 some;
      }))

  -- of a file
  file_beside : (k : ℕ) (f g : InodeRecord) → file_at x.inode k ≡ Some f → file_at y.inode k ≡ Some g
      → Beside Pair (file_items x k (Some f)) (file_items y k (Some g))
  unfolding tree_items
  file_beside k f g was now = subst (λ (t : Rooted). Beside Pair (tree_items over told) (tree_items top t)) (sym tree)
      (parts Pair (λ (p : Spot). reached_one (item_of over told p.0 p.1)) (λ (p : Spot). reached_one (item_of top anew p.0 p.1))
      (spots f.levels) (λ p there.
      let one = alike_item m n k f.levels f.root g.root (ap (λ (z : InodeRecord). z.root) like) (alike.file_nodes k f was) over top
      (inode_pointer m n levels root root refl alike 0 (k / records_each)) p.0 p.1 in
      one_beside (item_of over told p.0 p.1) (item_of top anew p.0 p.1) one (λ some. record {
        same = one;
        stands = some;
        pointer = comes p.0 p.1 some;
        holder = holder_from k f.levels f.root g.root over top comes
            (brief over top (holder_of hole x.inode 0 (k / records_each))
            (inode_comes m n v same Inside levels root alike inside 0 (k / records_each)
            (record_at n levels root k g now).0)) p.0 p.1 some;
      })))
    where
      told : Rooted
      told = stored m k f.levels f.root

      anew : Rooted
      anew = stored n k f.levels g.root

      over : Pointer
      over = pointer_at x.inode 0 (k / records_each)

      top : Pointer
      top = pointer_at y.inode 0 (k / records_each)

      like : hintless_record g ≡ hintless_record f
      like = records_alike m n v same Inside levels root alike inside k f g was now

      tree : stored n k g.levels g.root ≡ stored n k f.levels g.root
      tree = ap (λ (l : ℕ). stored n k l g.root) (ap (λ (z : InodeRecord). z.levels) like)

      comes : (level place : ℕ) → (pointer_at anew level place).stamp ≢ 0
          → ComesFrom Inside v (pointer_at told level place) (pointer_at anew level place) (holder_of over told level place)
      comes level place some = subst
          (λ (t : Rooted). ComesFrom Inside v (pointer_at told level place) (pointer_at t level place)
          (holder_of over told level place)) tree
          (file_comes m n v same Inside levels root alike inside k f g was now level place
          (subst (λ (t : Rooted). (pointer_at t level place).stamp ≢ 0) (sym tree) some))

  -- of a number, which has a file where it had one
  number_beside : (k : ℕ) → Beside Pair (file_items x k (file_at x.inode k)) (file_items y k (file_at y.inode k))
  number_beside k = so (file_at x.inode k) (file_at y.inode k) refl refl (alike_record m n levels root root refl alike k)
    where
      so : (o p : Option InodeRecord) → file_at x.inode k ≡ o → file_at y.inode k ≡ p
          → option_map hintless_record p ≡ option_map hintless_record o → Beside Pair (file_items x k o) (file_items y k p)
      so None None a b e = tt
      so None (Some g) a b e = absurd cc
      so (Some f) None a b e = absurd cc
      so (Some f) (Some g) a b e = file_beside k f g a b

  -- All items stand beside what they were.
  pub all_beside : Beside Pair (items x) (items y)
  unfolding items
  all_beside =
      join Pair (tree_items hole x.inode) (tree_items hole y.inode) _ _ inode_beside
      (parts Pair (λ k. file_items x k (file_at x.inode k)) (λ k. file_items y k (file_at y.inode k)) (numbers x)
      (λ k there. number_beside k))

  -- So what holds of each item now, by what it was, holds of all.
  pub by_pairs : (test : Item → Bool) → ((e f : Item) → IsPair Inside v e f → In e (items x) → test f ≡ true)
      → list_all test (items y) ≡ true
  by_pairs test = all_by_pairs Pair test (items x) (items y) all_beside
