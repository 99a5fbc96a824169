-- Images whose volumes are empty and have containers with one leaf: their layout, and what the rules ask of it.
use Rattle.std.proofs.Common.{◌≡◌, ◌≢◌, ℕ, zero, suc, ◌+◌, ◌/◌, ◌%◌, ◌<◌, ◌≤◌, Bool, true, false, List, [], ◌∷◌, replicate, refl, sym, ap, subst, ◌∙◌, arith, ⊎_elim}
use Rattle.std.specs.Prelude.{◌*◌, Option, Some, None, fold, sum_by, count_by, not, nat_lt, nat_le, ◌==◌, if◌then◌else◌, cond}
use Rattle.std.specs.List.{list_all, range_with_len}
use Rattle.std.specs.Option.{option_map, option_map_or}
use Rattle.std.proofs.lemmas.Bool.{cases_eq, cases_lt, and_right}
use Rattle.std.proofs.lemmas.Bool.Decides.{nat_tests}
use Rattle.fv_disk.specs.Shown.{Image}
use Rattle.fv_codec.specs.declared.label.Label.{Label}
use Rattle.fv_bits.specs.Bits.{bit_of_area}
use Rattle.fv_model.specs.Space.{use_of, map_blocks}
use Rattle.fv_image.specs.Layout.{block_bits}
use Rattle.fv_image.specs.NewerRoot.{Taken}
use Rattle.fv_image.specs.Volumes.{empty_volume_of}
use Rattle.fv_image.proofs.Heads.{head_told}
use Rattle.fv_image.proofs.Uses.{uses_nothing}
use Rattle.fv_image.proofs.Empty.{all_of_range}
use Rattle.fv_image.specs.Maps.{map_bit}
use Rattle.fv_image.specs.Containers.{node_below}
use Rattle.fv_image.specs.Views.{Placed, Head, View, head_of, slots, vvbns, is_own, is_delayed, own, delayed, volume_bit, is_held_in}
use Rattle.fv_image.specs.Held.{Lying, Layout, layout_at, view_at, lying_at, label_place, label_lying, label_in, node_from, entry_from, placed}
use Rattle.fv_image_rows.specs.EmptySound.{all_heads, has_true_maps, is_in_size}
use Rattle.fv_image_rows.proofs.LoneLeaf.{HasLoneLeaf, lone_node, lone_entry}
use Rattle.fv_image.proofs.Zeros.{bit_of_zero_block}

-- a volume: the places of its label, its leaf and its map block, and what its label says
pub record Given : Type 0 where
  pub label : ℕ
  pub leaf : ℕ
  pub map : ℕ
  pub says : Label

-- it lies in a slot
pub record IsVolume (t : Taken) (i : Image) (s : ℕ) (g : Given) : Type 0 where
  pub place : label_place t s ≡ g.label
  pub says : label_in (lying_at i g.label) ≡ Some g.says
  pub height : g.says.height ≡ 1
  pub span : g.says.span ≡ 4096
  pub tree : HasLoneLeaf i g.says.container g.leaf g.map
  pub clear : i g.map ≡ replicate 4096 0

abbrev pub HasSlot : Taken → Image → ℕ → Option Given → Type 0
HasSlot t i s None = label_place t s ≡ 0
HasSlot t i s (Some g) = IsVolume t i s g

-- ---- the layout that is meant

abbrev pub head_meant : Option Given → Option Head
head_meant None = None
head_meant (Some g) = Some (head_of g.says)

abbrev pub entry_meant : Option Given → ℕ → Option Placed
entry_meant None v = None
entry_meant (Some g) v = if v == 4096 then Some (record { pvbn = g.map; kind = 8; block = replicate 4096 0 }) else None

abbrev pub label_meant : Image → Option Given → Option Lying
label_meant i None = None
label_meant i (Some g) = lying_at i g.label

abbrev pub node_meant : Image → Option Given → ℕ → ℕ → Option Lying
node_meant i None level number = None
node_meant i (Some g) zero number = if number == 16 then lying_at i g.leaf else None
node_meant i (Some g) (suc zero) number = if number == 0 then lying_at i g.says.container else None
node_meant i (Some g) (suc (suc level)) number = None

abbrev pub view_meant : Taken → (ℕ → Option Given) → View
view_meant t given = record { blocks = t.blocks; version = t.root.version; head = λ s. head_meant (given s); entry = λ s. entry_meant (given s) }

abbrev pub meant : Taken → Image → (ℕ → Option Given) → (ℕ → Bool) → Layout
meant t i given bits = record { view = view_meant t given; label = λ s. label_meant i (given s); node = λ s. node_meant i (given s); bit = bits }

-- ---- it is the layout of the image

label_is : (t : Taken) (i : Image) (s : ℕ) (o : Option Given) → HasSlot t i s o → label_lying t i s ≡ label_meant i o
label_is t i s None is = ap (lying_at i) is
label_is t i s (Some g) is = ap (lying_at i) is.place

-- what the label says
abbrev said : Option Given → Option Label
said None = None
said (Some g) = Some g.says

said_is : (t : Taken) (i : Image) (s : ℕ) (o : Option Given) → HasSlot t i s o → label_in (label_lying t i s) ≡ said o
unfolding label_in
said_is t i s None is = ap label_in (label_is t i s None is)
said_is t i s (Some g) is = ap label_in (label_is t i s (Some g) is) ∙ is.says

head_is : (o : Option Given) → option_map head_of (said o) ≡ head_meant o
head_is None = refl
head_is (Some g) = refl

entry_is : (t : Taken) (i : Image) (s : ℕ) (o : Option Given) → HasSlot t i s o → (v : ℕ) → entry_from (said o) i v ≡ entry_meant o v
unfolding entry_from
entry_is t i s None is v = refl
entry_is t i s (Some g) is v = rw (is.height, is.span, lone_entry i g.says.container g.leaf g.map v is.tree) (so (v == 4096))
  where
    so : (here : Bool) → placed i (if here then (g.map, 8) else (0, 0)) ≡ (if here then Some (record { pvbn = g.map; kind = 8; block = replicate 4096 0 }) else None)
    so true = rw is.clear refl
    so false = refl

leaf_or_none : (i : Image) (g : Given) (here : Bool) → lying_at i (if here then g.leaf else 0) ≡ (if here then lying_at i g.leaf else None)
leaf_or_none i g true = refl
leaf_or_none i g false = refl

node_is : (t : Taken) (i : Image) (s : ℕ) (o : Option Given) → HasSlot t i s o → (level number : ℕ) → node_from (said o) i level number ≡ node_meant i o level number
unfolding node_from node_below
node_is t i s None is level number = refl
node_is t i s (Some g) is zero number = rw (is.height, is.span) (⊎_elim
    (λ (inside : number < 17). let test : nat_lt number 17 ≡ true = grind (arith, nat_tests) in
    rw (test, lone_node i g.says.container g.leaf g.map number is.tree inside) (leaf_or_none i g (number == 16)))
    (λ (past : 17 ≤ number). let test : nat_lt number 17 ≡ false = grind (arith, nat_tests) in
    let other : (number == 16) ≡ false = grind (arith, nat_tests) in rw (test, other) refl)
    (cases_lt number 17))
node_is t i s (Some g) is (suc zero) number = rw (is.height, is.span) (⊎_elim
    (λ (e : number ≡ 0). rw e refl)
    (λ (ne : number ≢ 0). let test : nat_lt number 1 ≡ false = grind (arith, nat_tests) in
    let other : (number == 0) ≡ false = grind (arith, nat_tests) in rw (test, other) refl)
    (cases_eq number 0))
node_is t i s (Some g) is (suc (suc level)) number =
    let test : nat_le (suc (suc level)) 1 ≡ false = grind (arith, nat_tests) in rw (is.height, test) refl

pub is_meant : (t : Taken) (i : Image) (given : ℕ → Option Given) (bits : ℕ → Bool) → ((s : ℕ) → HasSlot t i s (given s)) → ((b : ℕ) → map_bit t i b ≡ bits b) → layout_at t i ≡ meant t i given bits
unfolding layout_at view_at
is_meant t i given bits are same = λ k. record {
  view = record {
    blocks = t.blocks;
    version = t.root.version;
    head = λ s. heads s k;
    entry = λ s v. entries s v k;
  };
  label = λ s. label_is t i s (given s) (are s) k;
  node = λ s level number. nodes s level number k;
  bit = λ b. same b k;
}
  where
    heads : (s : ℕ) → (view_at t i).head s ≡ head_meant (given s)
    heads s = head_told t i s ∙ ap (option_map head_of) (said_is t i s (given s) (are s)) ∙ head_is (given s)

    entries : (s v : ℕ) → entry_from (label_in (label_lying t i s)) i v ≡ entry_meant (given s) v
    entries s v = ap (λ (o : Option Label). entry_from o i v) (said_is t i s (given s) (are s)) ∙ entry_is t i s (given s) (are s) v

    nodes : (s level number : ℕ) → node_from (label_in (label_lying t i s)) i level number ≡ node_meant i (given s) level number
    nodes s level number = ap (λ (o : Option Label). node_from o i level number) (said_is t i s (given s) (are s)) ∙ node_is t i s (given s) (are s) level number

-- ---- what the rules ask of it

abbrev pub HasSpan : Option Given → Type 0
HasSpan None = Unit {0}
HasSpan (Some g) = g.says.span ≡ 4096

all_heads_from : (y : Layout) (test : ℕ → Head → Bool) → ((s : ℕ) → option_map_or (test s) (y.view.head s) true ≡ true) → all_heads y test ≡ true
all_heads_from y test each = all slots
  where
    all : (xs : List ℕ) → list_all (λ s. option_map_or (test s) (y.view.head s) true) xs ≡ true
    all [] = refl
    all (x ∷ xs) = rw (each x, all xs) refl

folded : (number : ℕ → ℕ) → ((k : ℕ) → number k ≡ 0) → (start : ℕ) (xs : List ℕ) → fold (λ a x. a + number x) start xs ≡ start
folded number none start [] = refl
folded number none start (x ∷ xs) = let same : start + number x ≡ start = omega (arith, none x) in rw same (folded number none start xs)

sum_none : (number : ℕ → ℕ) → ((k : ℕ) → number k ≡ 0) → (xs : List ℕ) → sum_by number xs ≡ 0
sum_none number none xs = folded number none 0 xs

count_none : (test : ℕ → Bool) → ((k : ℕ) → test k ≡ false) → (xs : List ℕ) → count_by test xs ≡ 0
count_none test never xs = sum_none (λ x. cond (test x) 1 0) (λ k. rw (never k) refl) xs

span_of_head : (g : Given) → g.says.span ≡ 4096 → (head_of g.says).span ≡ 4096
unfolding head_of
span_of_head g span = span

none_fit : (n : ℕ) → nat_le 0 n ≡ true
none_fit n = grind (arith, nat_tests)

module _ (t : Taken) (given : ℕ → Option Given) (spans : (s : ℕ) → HasSpan (given s)) where
  abbrev w : View
  w = view_meant t given

  -- the entries that aren't holes are blocks of the active map
  not_own : (s : ℕ) (g : Given) → given s ≡ Some g → g.says.span ≡ 4096 → (v : ℕ) → is_own w s (head_of g.says) v ≡ false
  unfolding head_of
  not_own s g is span v = rw (is, span) (⊎_elim
      (λ (e : v ≡ 4096). rw e (and_right _ false refl))
      (λ (ne : v ≢ 4096). let test : (v == 4096) ≡ false = grind (arith, nat_tests) in rw test refl)
      (cases_eq v 4096))

  not_delayed : (s : ℕ) (g : Given) → given s ≡ Some g → g.says.span ≡ 4096 → (v : ℕ) → is_delayed w s (head_of g.says) v ≡ false
  unfolding head_of is_held_in
  not_delayed s g is span v = rw (is, span) (⊎_elim
      (λ (e : v ≡ 4096). rw e refl)
      (λ (ne : v ≢ 4096). let test : (v == 4096) ≡ false = grind (arith, nat_tests) in rw test refl)
      (cases_eq v 4096))

  -- a test that no VVBN of a volume passes counts none
  none_counted : (test : ℕ → Head → ℕ → Bool) → ((s : ℕ) (g : Given) → given s ≡ Some g → g.says.span ≡ 4096 → (v : ℕ) → test s (head_of g.says) v ≡ false)
      → sum_by (λ s. option_map_or (λ h. count_by (test s h) (vvbns h.span)) (w.head s) 0) slots ≡ 0
  none_counted test never = sum_none (λ s. option_map_or (λ h. count_by (test s h) (vvbns h.span)) (w.head s) 0) (λ s. so s (given s) refl (spans s)) slots
    where
      so : (s : ℕ) (o : Option Given) → given s ≡ o → HasSpan o → option_map_or (λ h. count_by (test s h) (vvbns h.span)) (head_meant o) 0 ≡ 0
      so s None is span = refl
      so s (Some g) is span = count_none (test s (head_of g.says)) (never s g is span) (vvbns (head_of g.says).span)

  pub none_own : own w ≡ 0
  unfolding own
  none_own = none_counted (is_own w) not_own

  pub none_delayed : delayed w ≡ 0
  unfolding delayed
  none_delayed = none_counted (is_delayed w) not_delayed

  -- the active maps are clear
  bit_is_clear : (s : ℕ) (g : Given) → given s ≡ Some g → (v : ℕ) → volume_bit w s 4096 0 v ≡ false
  unfolding volume_bit bit_of_area
  bit_is_clear s g is v = ⊎_elim
      (λ (inside : v < 32768). let first : v / 32768 ≡ 0 = omega (arith, inside) in
      rw (first, is) (and_right (nat_lt v 32768) _ (bit_of_zero_block (v % 32768))))
      (λ (past : 32768 ≤ v). let test : nat_lt v 32768 ≡ false = grind (arith, nat_tests) in rw test refl)
      (cases_lt v 32768)

  pub maps_are_clear : (i : Image) (bits : ℕ → Bool) → has_true_maps (meant t i given bits) ≡ true
  unfolding has_true_maps
  maps_are_clear i bits = all_heads_from (meant t i given bits) (λ s h. list_all (λ v. not (volume_bit w s h.span 0 v)) (range_with_len 0 (block_bits * map_blocks h.span))) (λ s. so s (given s) refl (spans s))
    where
      so : (s : ℕ) (o : Option Given) → given s ≡ o → HasSpan o
          → option_map_or (λ h. list_all (λ v. not (volume_bit w s h.span 0 v)) (range_with_len 0 (block_bits * map_blocks h.span))) (head_meant o) true ≡ true
      so s None is span = refl
      so s (Some g) is span = subst (λ (n : ℕ). list_all (λ v. not (volume_bit w s n 0 v)) (range_with_len 0 (block_bits * map_blocks n)) ≡ true) (sym (span_of_head g span))
          (all_of_range (λ v. not (volume_bit w s 4096 0 v)) (λ v. ap not (bit_is_clear s g is v)) 0 32768)

  pub sizes_fit : (i : Image) (bits : ℕ → Bool) → is_in_size (meant t i given bits) ≡ true
  unfolding is_in_size
  sizes_fit i bits = all_heads_from (meant t i given bits) (λ s h. nat_le (use_of (empty_volume_of h)) h.size) (λ s. so (given s))
    where
      so : (o : Option Given) → option_map_or (λ h. nat_le (use_of (empty_volume_of h)) h.size) (head_meant o) true ≡ true
      so None = refl
      so (Some g) = rw (uses_nothing (head_of g.says)) (none_fit (head_of g.says).size)
