-- A table whose blocks say the same but for hints is told as the same, and reaches the same but for hints.
use Rattle.std.proofs.Common.{◌≡◌, ◌≢◌, ℕ, zero, suc, ◌+◌, ◌-◌, ◌/◌, ◌%◌, ◌≤◌, Bool, true, false, List, [], ◌∷◌, ◌++◌, refl, sym, ap, ap₂, subst, ◌∙◌, arith, ⊎_elim, get_or}
use Rattle.std.specs.Prelude.{Option, Some, None, map, flat_map, nat_le, nat_lt, ◌==◌, if◌then◌else◌}
use Rattle.std.specs.Option.{option_map}
use Rattle.std.proofs.lemmas.Bool.{cases_eq}
use Rattle.std.proofs.lemmas.Bool.Decides.{nat_tests}
use Rattle.fv_codec.specs.declared.pointer.Pointer.{Pointer}
use Rattle.fv_codec.specs.declared.inode.InodeRecord.{InodeRecord}
use Rattle.fv_codec.specs.Blocks.{greatest_word}
use Rattle.fv_model.specs.Trees.{fan, Spot}
use Rattle.fv_tables.specs.Spelled.{Under, Rooted, hole, stored, pointers_in, pointers_at, pointer_below, pointer_at, stamp_in, block_at}
use Rattle.fv_tables.specs.Told.{listed, entry_or, spots, AreTold, records_each, records_in, free_record, used_record, file_at, Standing, standing_at, numbers, records, table_told}
use Rattle.fv_tables.specs.Reached.{Item, item_of, reached_one, tree_items, file_items, items}
use Rattle.fv_tables.specs.Kept.{SaysSame, IsPlacedFile}
use Rattle.fv_tables.proofs.Pointers.{by_steps, no_block}
use Rattle.fv_tables.proofs.Tables.{placed_table}
use Rattle.fv_tables.specs.Alike.{hintless, hintless_record, hintless_item, SpellAlike, HasAlikeNodes, AreAlike}

-- ---- lists

got_bare : (xs : List Pointer) (k : ℕ) → hintless (get_or xs k hole) ≡ get_or (map hintless xs) k hole
got_bare [] zero = refl
got_bare [] (suc k) = refl
got_bare (x ∷ xs) zero = refl
got_bare (x ∷ xs) (suc k) = got_bare xs k

got_record : (xs : List InodeRecord) (k : ℕ) → hintless_record (get_or xs k free_record) ≡ get_or (map hintless_record xs) k free_record
got_record [] zero = refl
got_record [] (suc k) = refl
got_record (x ∷ xs) zero = refl
got_record (x ∷ xs) (suc k) = got_record xs k

-- ---- a tree

-- the same tree from another root over other blocks, whose nodes say the same but for hints
module _ (m n : Under) (owner levels : ℕ) (root new : Pointer) (top : hintless new ≡ hintless root) (alike : HasAlikeNodes (stored m owner levels root) n) where
  abbrev t : Rooted
  t = stored m owner levels root

  abbrev u : Rooted
  u = stored n owner levels new

  stamps_of : (p q : Pointer) → hintless q ≡ hintless p → q.stamp ≡ p.stamp
  stamps_of p q e = ap (λ (x : Pointer). x.stamp) e

  vvbns_of : (p q : Pointer) → hintless q ≡ hintless p → q.vvbn ≡ p.vvbn
  vvbns_of p q e = ap (λ (x : Pointer). x.vvbn) e

  -- what stands under two pointers that are the same but for hints
  alike_under : (level place : ℕ) (p q : Pointer) → hintless q ≡ hintless p → (p.stamp ≢ 0 → SpellAlike (m p.vvbn) (n p.vvbn)) → map hintless (pointers_at u level place q) ≡ map hintless (pointers_at t level place p)
  unfolding pointers_at
  alike_under level place p q same says = ⊎_elim
      (λ (e : p.stamp ≡ 0).
      let left : (p.stamp == 0) ≡ true = grind (arith, nat_tests) in
      let none : q.stamp ≡ 0 = stamps_of p q same ∙ e in
      let right : (q.stamp == 0) ≡ true = grind (arith, nat_tests) in
      rw (left, right) refl)
      (λ (some : p.stamp ≢ 0).
      let stamp : q.stamp ≡ p.stamp = stamps_of p q same in
      let left : (p.stamp == 0) ≡ false = grind (arith, nat_tests) in
      let right : (q.stamp == 0) ≡ false = grind (arith, nat_tests) in
      rw (left, right) (ap (λ (v : ℕ). map hintless (pointers_in (n v))) (vvbns_of p q same) ∙ says some))
      (cases_eq p.stamp 0)

  alike_below : (steps place : ℕ) → steps ≤ levels → hintless (pointer_below u steps place) ≡ hintless (pointer_below t steps place)
  unfolding pointer_below
  alike_below zero place le = so (place == 0)
    where
      so : (b : Bool) → hintless (if b then new else hole) ≡ hintless (if b then root else hole)
      so true = top
      so false = refl
  alike_below (suc steps) place le =
      let up = alike_below steps (place / fan) (omega arith) in
      let at : pointer_at t (levels - steps) (place / fan) ≡ pointer_below t steps (place / fan) = by_steps t steps (place / fan) (omega arith) in
      let says : (pointer_below t steps (place / fan)).stamp ≢ 0 → SpellAlike (m (pointer_below t steps (place / fan)).vvbn) (n (pointer_below t steps (place / fan)).vvbn) =
      λ some. subst (λ (p : Pointer). SpellAlike (m p.vvbn) (n p.vvbn)) at (alike (levels - steps) (place / fan) (omega (arith, le)) (λ e. some (ap (λ (p : Pointer). p.stamp) (sym at) ∙ e))) in
      got_bare (pointers_at u (levels - steps) (place / fan) (pointer_below u steps (place / fan))) (place % fan)
      ∙ ap (λ (xs : List Pointer). get_or xs (place % fan) hole) (alike_under (levels - steps) (place / fan) (pointer_below t steps (place / fan)) (pointer_below u steps (place / fan)) up says)
      ∙ sym (got_bare (pointers_at t (levels - steps) (place / fan) (pointer_below t steps (place / fan))) (place % fan))

  -- Each pointer is the same but for its hint.
  pub alike_pointer : (level place : ℕ) → hintless (pointer_at u level place) ≡ hintless (pointer_at t level place)
  unfolding pointer_at
  alike_pointer level place = so (nat_le level levels)
    where
      so : (b : Bool) → hintless (if b then pointer_below u (levels - level) place else hole) ≡ hintless (if b then pointer_below t (levels - level) place else hole)
      so true = alike_below (levels - level) place (omega arith)
      so false = refl

  pub alike_stamp : (level place : ℕ) → (pointer_at u level place).stamp ≡ (pointer_at t level place).stamp
  alike_stamp level place = stamps_of (pointer_at t level place) (pointer_at u level place) (alike_pointer level place)

  pub alike_vvbn : (level place : ℕ) → (pointer_at u level place).vvbn ≡ (pointer_at t level place).vvbn
  alike_vvbn level place = vvbns_of (pointer_at t level place) (pointer_at u level place) (alike_pointer level place)

  -- and so is each item
  pub alike_item : (p q : Pointer) → hintless q ≡ hintless p → (level place : ℕ) → hintless_item (item_of q u level place) ≡ hintless_item (item_of p t level place)
  alike_item p q same level place = λ i. record {
    owner = owner;
    levels = levels;
    level = level;
    place = place;
    pointer = alike_pointer level place i;
    holder = so (nat_lt level levels) i;
  }
    where
      so : (b : Bool) → hintless (if b then pointer_at u (level + 1) (place / fan) else q) ≡ hintless (if b then pointer_at t (level + 1) (place / fan) else p)
      so true = alike_pointer (level + 1) (place / fan)
      so false = same

  hintless_one : (e : Item) → map hintless_item (reached_one e) ≡ reached_one (hintless_item e)
  hintless_one e = so (e.pointer.stamp == 0)
    where
      so : (b : Bool) → map hintless_item (if b then [] else e ∷ []) ≡ (if b then [] else hintless_item e ∷ [])
      so true = refl
      so false = refl

  pub alike_items : (p q : Pointer) → hintless q ≡ hintless p → map hintless_item (tree_items q u) ≡ map hintless_item (tree_items p t)
  unfolding tree_items
  alike_items p q same = so (spots levels)
    where
      so : (ss : List Spot) → map hintless_item (flat_map (λ (spot : Spot). reached_one (item_of q u spot.0 spot.1)) ss) ≡ map hintless_item (flat_map (λ (spot : Spot). reached_one (item_of p t spot.0 spot.1)) ss)
      so [] = refl
      so (x ∷ ss) = spread (reached_one (item_of q u x.0 x.1)) _
          ∙ ap₂ (λ (a b : List Item). a ++ b) (hintless_one (item_of q u x.0 x.1) ∙ ap reached_one (alike_item p q same x.0 x.1) ∙ sym (hintless_one (item_of p t x.0 x.1))) (so ss)
          ∙ sym (spread (reached_one (item_of p t x.0 x.1)) _)
        where
          spread : (a b : List Item) → map hintless_item (a ++ b) ≡ map hintless_item a ++ map hintless_item b
          spread [] b = refl
          spread (e ∷ a) b = ap (λ (es : List Item). hintless_item e ∷ es) (spread a b)

-- ---- a table

-- the block of a cell that stands and isn't in memory
pub stands : (t : Rooted) (place : ℕ) → (pointer_at t 0 place).stamp ≢ 0 → t.cells place ≡ None → block_at t place ≡ t.under (pointer_at t 0 place).vvbn
unfolding block_at
stands t place some none = let test : ((pointer_at t 0 place).stamp == 0) ≡ false = grind (arith, nat_tests) in rw (test, none) refl

used_bare : (r q : InodeRecord) → hintless_record q ≡ hintless_record r → option_map hintless_record (used_record q) ≡ option_map hintless_record (used_record r)
used_bare r q same = so (q.name_length == 0) (r.name_length == 0) (ap (λ (x : InodeRecord). x.name_length == 0) same)
  where
    so : (b c : Bool) → b ≡ c → option_map hintless_record (if b then None else Some q) ≡ option_map hintless_record (if c then None else Some r)
    so true true e = refl
    so false false e = ap (λ (x : InodeRecord). Some x) same
    so true false e = absurd cc
    so false true e = absurd cc

module _ (m n : Under) (levels : ℕ) (root new : Pointer) (top : hintless new ≡ hintless root) (alike : AreAlike m n levels root) where
  abbrev x : Standing
  x = standing_at m levels root

  abbrev y : Standing
  y = standing_at n levels new

  pub inode_pointer : (level place : ℕ) → hintless (pointer_at y.inode level place) ≡ hintless (pointer_at x.inode level place)
  inode_pointer = alike_pointer m n greatest_word levels root new top alike.nodes

  inode_records : (place : ℕ) → map hintless_record (records_in (block_at y.inode place)) ≡ map hintless_record (records_in (block_at x.inode place))
  inode_records place = ⊎_elim
      (λ (e : (pointer_at x.inode 0 place).stamp ≡ 0).
      ap (λ (o : Option (List ℕ)). map hintless_record (records_in o)) (no_block y.inode place (alike_stamp m n greatest_word levels root new top alike.nodes 0 place ∙ e))
      ∙ sym (ap (λ (o : Option (List ℕ)). map hintless_record (records_in o)) (no_block x.inode place e)))
      (λ (some : (pointer_at x.inode 0 place).stamp ≢ 0).
      ap (λ (o : Option (List ℕ)). map hintless_record (records_in o)) (stands y.inode place (λ e. some (sym (alike_stamp m n greatest_word levels root new top alike.nodes 0 place) ∙ e)) refl)
      ∙ ap (λ (v : ℕ). map hintless_record (records_in (n v))) (alike_vvbn m n greatest_word levels root new top alike.nodes 0 place)
      ∙ alike.inodes place some
      ∙ sym (ap (λ (o : Option (List ℕ)). map hintless_record (records_in o)) (stands x.inode place some refl)))
      (cases_eq (pointer_at x.inode 0 place).stamp 0)

  -- each record is the same but for the hint of its root
  pub alike_record : (k : ℕ) → option_map hintless_record (file_at y.inode k) ≡ option_map hintless_record (file_at x.inode k)
  unfolding file_at
  alike_record k = used_bare (get_or (records_in (block_at x.inode (k / records_each))) (k % records_each) free_record) (get_or (records_in (block_at y.inode (k / records_each))) (k % records_each) free_record)
      (got_record (records_in (block_at y.inode (k / records_each))) (k % records_each)
      ∙ ap (λ (rs : List InodeRecord). get_or rs (k % records_each) free_record) (inode_records (k / records_each))
      ∙ sym (got_record (records_in (block_at x.inode (k / records_each))) (k % records_each)))

  -- the trees of a file
  module _ (k : ℕ) (r q : InodeRecord) (there : file_at x.inode k ≡ Some r) (same : hintless_record q ≡ hintless_record r) where
    abbrev told : Rooted
    told = stored m k r.levels r.root

    abbrev anew : Rooted
    anew = stored n k q.levels q.root

    as_one : anew ≡ stored n k r.levels q.root
    as_one = ap (λ (l : ℕ). stored n k l q.root) (ap (λ (z : InodeRecord). z.levels) same)

    abbrev start : hintless q.root ≡ hintless r.root
    start = ap (λ (z : InodeRecord). z.root) same

    pub file_pointer : (level place : ℕ) → hintless (pointer_at anew level place) ≡ hintless (pointer_at told level place)
    file_pointer level place = ap (λ (z : Rooted). hintless (pointer_at z level place)) as_one ∙ alike_pointer m n k r.levels r.root q.root start (alike.file_nodes k r there) level place

    file_block : (index : ℕ) → block_at anew index ≡ block_at told index
    unfolding block_at
    file_block index = ⊎_elim
        (λ (e : (pointer_at told 0 index).stamp ≡ 0). no_block anew index (ap (λ (p : Pointer). p.stamp) (file_pointer 0 index) ∙ e) ∙ sym (no_block told index e))
        (λ (some : (pointer_at told 0 index).stamp ≢ 0).
        let stamp : (pointer_at anew 0 index).stamp ≡ (pointer_at told 0 index).stamp = ap (λ (p : Pointer). p.stamp) (file_pointer 0 index) in
        let vvbn : (pointer_at anew 0 index).vvbn ≡ (pointer_at told 0 index).vvbn = ap (λ (p : Pointer). p.vvbn) (file_pointer 0 index) in
        ap (λ (s : ℕ). if s == 0 then None else n (pointer_at anew 0 index).vvbn) stamp ∙ ap (λ (v : ℕ). if (pointer_at told 0 index).stamp == 0 then None else n v) vvbn
        ∙ ap (λ (o : Option (List ℕ)). if (pointer_at told 0 index).stamp == 0 then None else o) (alike.cells k r there index some))
        (cases_eq (pointer_at told 0 index).stamp 0)

    file_told_alike : AreTold told anew
    file_told_alike = record {
      levels = ap (λ (z : InodeRecord). z.levels) same;
      stamps = λ level place. ap stamp_in (file_pointer level place);
      blocks = file_block;
    }

    file_says : SaysSame r q
    file_says = record {
      name_length = ap (λ (z : InodeRecord). z.name_length) same;
      name = ap (λ (z : InodeRecord). z.name) same;
      length = ap (λ (z : InodeRecord). z.length) same;
      reserve = ap (λ (z : InodeRecord). z.reserve) same;
    }

    pub file_items_alike : (a b : Pointer) → hintless b ≡ hintless a → map hintless_item (tree_items b anew) ≡ map hintless_item (tree_items a told)
    file_items_alike a b e = ap (λ (z : Rooted). map hintless_item (tree_items b z)) as_one ∙ alike_items m n k r.levels r.root q.root start (alike.file_nodes k r there) a b e

  placed : (k : ℕ) → IsPlacedFile x y k (file_at x.inode k) (file_at y.inode k)
  placed k = so (file_at x.inode k) (file_at y.inode k) refl (alike_record k)
    where
      so : (o p : Option InodeRecord) → file_at x.inode k ≡ o → option_map hintless_record p ≡ option_map hintless_record o → IsPlacedFile x y k o p
      so None None there same = tt
      so None (Some q) there same = absurd cc
      so (Some r) None there same = absurd cc
      so (Some r) (Some q) there same = let one : hintless_record q ≡ hintless_record r = cc in (file_says k r q there one, file_told_alike k r q there one)

  -- The table is told as the same.
  pub alike_table : table_told y ≡ table_told x
  alike_table = placed_table x y (record {
    levels = refl;
    stamps = λ level place. ap stamp_in (inode_pointer level place);
    files = placed;
  })

  abbrev of_number : (z : Standing) → ℕ → List Item
  of_number z k = file_items z k (file_at z.inode k)

  number_items : (k : ℕ) → map hintless_item (of_number y k) ≡ map hintless_item (of_number x k)
  number_items k = so (file_at x.inode k) (file_at y.inode k) refl (alike_record k)
    where
      so : (o p : Option InodeRecord) → file_at x.inode k ≡ o → option_map hintless_record p ≡ option_map hintless_record o → map hintless_item (file_items y k p) ≡ map hintless_item (file_items x k o)
      so None None there same = refl
      so None (Some q) there same = absurd cc
      so (Some r) None there same = absurd cc
      so (Some r) (Some q) there same =
          let one : hintless_record q ≡ hintless_record r = cc in
          file_items_alike k r q there one (pointer_at x.inode 0 (k / records_each)) (pointer_at y.inode 0 (k / records_each)) (inode_pointer 0 (k / records_each))

  -- It reaches the same but for hints.
  pub alike_reach : map hintless_item (items y) ≡ map hintless_item (items x)
  unfolding items
  alike_reach = spread (tree_items hole y.inode) _
      ∙ ap₂ (λ (a b : List Item). a ++ b) (alike_items m n greatest_word levels root new top alike.nodes hole hole refl) (so (numbers x))
      ∙ sym (spread (tree_items hole x.inode) _)
    where
      spread : (a b : List Item) → map hintless_item (a ++ b) ≡ map hintless_item a ++ map hintless_item b
      spread [] b = refl
      spread (e ∷ a) b = ap (λ (es : List Item). hintless_item e ∷ es) (spread a b)

      so : (ns : List ℕ) → map hintless_item (flat_map (of_number y) ns) ≡ map hintless_item (flat_map (of_number x) ns)
      so [] = refl
      so (k ∷ ns) = spread (of_number y k) (flat_map (of_number y) ns) ∙ ap₂ (λ (a b : List Item). a ++ b) (number_items k) (so ns) ∙ sym (spread (of_number x k) (flat_map (of_number x) ns))

  abbrev named : ℕ × InodeRecord → ℕ × InodeRecord
  named f = (f.0, hintless_record f.1)

  -- and has the same records but for hints
  pub alike_records : map named (records y) ≡ map named (records x)
  unfolding records listed
  alike_records = so (numbers x)
    where
      one : (k : ℕ) (o p : Option InodeRecord) → option_map hintless_record p ≡ option_map hintless_record o → map named (entry_or k p) ≡ map named (entry_or k o)
      one k None None same = refl
      one k None (Some q) same = absurd cc
      one k (Some r) None same = absurd cc
      one k (Some r) (Some q) same = let e : hintless_record q ≡ hintless_record r = cc in ap (λ (z : InodeRecord). (k, z) ∷ []) e

      spread : (a b : List (ℕ × InodeRecord)) → map named (a ++ b) ≡ map named a ++ map named b
      spread [] b = refl
      spread (e ∷ a) b = ap (λ (es : List (ℕ × InodeRecord)). named e ∷ es) (spread a b)

      so : (ns : List ℕ) → map named (flat_map (λ k. entry_or k (file_at y.inode k)) ns) ≡ map named (flat_map (λ k. entry_or k (file_at x.inode k)) ns)
      so [] = refl
      so (k ∷ ns) = spread (entry_or k (file_at y.inode k)) _ ∙ ap₂ (λ (a b : List (ℕ × InodeRecord)). a ++ b) (one k (file_at x.inode k) (file_at y.inode k) (alike_record k)) (so ns) ∙ sym (spread (entry_or k (file_at x.inode k)) _)
