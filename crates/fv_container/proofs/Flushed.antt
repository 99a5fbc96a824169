-- A tree that was written.
use Rattle.std.proofs.Common.{◌≡◌, ◌≢◌, ℕ, suc, ◌+◌, ◌-◌, ◌*◌, ◌/◌, ◌%◌, ◌<◌, ◌≤◌, List, length, get_or, take, Bool, true, false, not, ◌&&◌, refl, sym, ap, subst, ◌∙◌, arith, ⊎_elim, Result, Ok, Option, None}
use Rattle.std.specs.Prelude.{nat_lt, nat_le, ◌||◌, ◌==◌, if◌then◌else◌, IfSome}
use Rattle.std.specs.Option.{is_some}
use Rattle.std.specs.FinSet as set
use Rattle.std.proofs.lemmas.Bool.{cases_Bool, cases_eq, cases_lt, or_left, or_right}
use Rattle.std.proofs.lemmas.Bool.Decides.{nat_tests}
use Rattle.std.proofs.lemmas.List.{get_or_past}
use Rattle.fv_disk.specs.Shown.{Image}
use Rattle.fv_codec.specs.declared.shape.Shape.{Shape}
use Rattle.fv_codec.specs.declared.container.ContainerLeaf.{ContainerLeaf}
use Rattle.fv_codec.specs.declared.container.ContainerInner.{ContainerInner}
use Rattle.fv_codec.specs.Fields.{in_range}
use Rattle.fv_codec.specs.Blocks.{inner_at, leaf_at}
use Rattle.fv_image.specs.Containers.{child_in, entry_in, has_none_past, height_of, inner_for, leaf_for, level_width, lying, most_entries, node_below, node_verdict, shaped, IsWholeTree}
use Rattle.fv_image.proofs.NodesOnce.{shaped_when_whole}
use Rattle.fv_image.proofs.WholeSlots.{all_between}
use Rattle.fv_container.specs.declared.entry.Entry.{Entry}
use Rattle.fv_container.specs.Kept.{map_of}
use Rattle.fv_container.specs.Mapped.{IsHeld, node_count}
use Rattle.fv_container.specs.Paged.{AreWell, Leaves, leaf_here}
use Rattle.fv_container.specs.Clean.{IsOver}
use Rattle.fv_container.specs.Reading.{TreeAt}
use Rattle.fv_container.specs.Storing.{AreSaid}
use Rattle.fv_container.specs.Spelled.{names, pair_of}
use Rattle.fv_container.specs.Freeing.{Room}
use Rattle.fv_container.specs.Written.{AreWritten, IsInnerOf, IsLeafOf, HasTaken, is_above, is_full, is_there, root_number}
use Rattle.fv_container.specs.Flushed.{IsFlushed, Loses}
use Rattle.fv_container.proofs.Nodes.{lying_read}
use Rattle.fv_container.proofs.Regions.{bare_holes}
use Rattle.fv_container.proofs.Trees.{each_node, spelled}

-- ---- one node

range_of : (x y : ℕ) → y ≡ x → in_range x x y ≡ Ok tt
range_of x y same = let test : nat_lt x x ≡ false = grind (arith, nat_tests) in rw (same, test) refl

pub leaf_whole : (es : List (Option Entry)) (index : ℕ) (block : List ℕ) → IsLeafOf es index block → node_verdict 0 index block ≡ Ok tt
unfolding leaf_for
leaf_whole es index block is = rw (is.said, range_of index is.leaf.index is.index_said) refl

pub inner_whole : (places : List ℕ) (level number from end : ℕ) (block : List ℕ) → IsInnerOf places (suc level) number from end block → node_verdict (suc level) number block ≡ Ok tt
unfolding inner_for
inner_whole places level number from end block is = rw (is.said, range_of (suc level) is.node.level is.level_said, range_of number is.node.place is.number_said) refl

child_of : (i : Image) (places : List ℕ) (level number from end p c : ℕ) → IsInnerOf places level number from end (i p) → p ≢ 0 → c < 256 → from + c < end → child_in (lying inner_at i p) c ≡ get_or places (from + c) 0
child_of i places level number from end p c is some lt inside =
    let test : nat_lt (from + c) end ≡ true = grind (arith, nat_tests) in
    ap (λ n. child_in n c) (lying_read inner_at i p is.node some is.said) ∙ is.children c lt ∙ rw test refl

-- ---- nothing past the entries

is_less : (a b : ℕ) → a < b → nat_lt a b ≡ true
is_less a b lt = grind (arith, nat_tests)

is_none : (a : ℕ) → a ≡ 0 → (a == 0) ≡ true
is_none a none = grind (arith, nat_tests)

leaf_ends : (es : List (Option Entry)) (index : ℕ) (block : List ℕ) → IsLeafOf es index block → has_none_past (length es) 0 index block ≡ true
leaf_ends es index block is = all_between (λ c. nat_lt (index * 256 + c) (length es) || ((entry_in (shaped (leaf_at block)) c).1 == 0)) 0 256 (λ c low high. ⊎_elim
    (λ (inside : index * 256 + c < length es). or_left (nat_lt (index * 256 + c) (length es)) _ (is_less (index * 256 + c) (length es) inside))
    (λ (past : length es ≤ index * 256 + c).
    let kind : (entry_in (shaped (leaf_at block)) c).1 ≡ 0 =
    ap (λ (r : Result ContainerLeaf Shape). (entry_in (shaped r) c).1) is.said ∙ ap (λ (e : ℕ × ℕ). e.1) (is.entries c (omega (arith, high)))
    ∙ ap (λ (e : Option Entry). (pair_of e).1) (get_or_past es (256 * index + c) None (omega (arith, past))) in
    or_right (nat_lt (index * 256 + c) (length es)) _ (is_none _ kind))
    (cases_lt (index * 256 + c) (length es)))

inner_ends : (places : List ℕ) (entries level number from end : ℕ) (block : List ℕ) → IsInnerOf places (suc level) number from end block
    → ((c : ℕ) → level_width entries level ≤ number * 256 + c → end ≤ from + c) → has_none_past entries (suc level) number block ≡ true
inner_ends places entries level number from end block is far =
    all_between (λ c. nat_lt (number * 256 + c) (level_width entries level) || (child_in (shaped (inner_at block)) c == 0)) 0 256 (λ c low high. ⊎_elim
    (λ (inside : number * 256 + c < level_width entries level). or_left (nat_lt (number * 256 + c) (level_width entries level)) _ (is_less (number * 256 + c) (level_width entries level) inside))
    (λ (past : level_width entries level ≤ number * 256 + c).
    let out : nat_lt (from + c) end ≡ false = not_less (from + c) end (far c past) in
    let child : child_in (shaped (inner_at block)) c ≡ 0 =
    ap (λ (r : Result ContainerInner Shape). child_in (shaped r) c) is.said ∙ is.children c (omega (arith, high)) ∙ ap (λ (t : Bool). if t then get_or places (from + c) 0 else 0) out in
    or_right (nat_lt (number * 256 + c) (level_width entries level)) _ (is_none _ child))
    (cases_lt (number * 256 + c) (level_width entries level)))
  where
    not_less : (a b : ℕ) → b ≤ a → nat_lt a b ≡ false
    not_less a b le = grind (arith, nat_tests)

-- ---- which nodes are written

module _ (es : List (Option Entry)) (few : length es ≤ most_entries) where
  abbrev pub n : ℕ
  n = length es

  abbrev pub leaves : ℕ
  leaves = level_width n 0

  abbrev pub inner : ℕ
  inner = level_width n 1

  inner_is : (q : ℕ) → q < inner → is_above n (leaves + q) ≡ true
  inner_is q within =
      let inside : nat_lt (leaves + q) (leaves + inner) ≡ true = grind (arith, nat_tests) in
      ap (λ (t : Bool). t || nat_lt 1 inner) inside

  top_if : is_above n (leaves + inner) ≡ nat_lt 1 inner
  top_if =
      let end : nat_lt (leaves + inner) (leaves + inner) ≡ false = grind (arith, nat_tests) in
      ap (λ (t : Bool). t || nat_lt 1 inner) end

  low_inner : leaves ≤ 256 → inner ≡ 1
  low_inner low = omega (arith, low)

  high_inner : 256 < leaves → 1 < inner
  high_inner high = omega (arith, high)

  few_inner : inner ≤ 256
  few_inner = omega (arith, few)

  -- ---- the tree

  module _ (i : Image) (ps : List ℕ) (dirty : List Bool) (long : length ps ≡ node_count n) (written : AreWritten es ps (length ps) i)
      (placed : (m : ℕ) → m < length ps → leaves ≤ m → is_above n m ≡ true → get_or ps m 0 ≢ 0)
      (absent : (m : ℕ) → m < length ps → leaves ≤ m → is_above n m ≡ false → get_or ps m 0 ≡ 0)
      (holes : (k c : ℕ) → k < leaves → get_or ps k 0 ≡ 0 → c < 256 → get_or es (256 * k + c) None ≡ None)
    where
      inner_place : (q : ℕ) → q < inner → get_or ps (leaves + q) 0 ≢ 0
      inner_place q within = placed (leaves + q) (omega (arith, long, within)) (omega arith) (inner_is q within)

      inner_block : (q : ℕ) → q < inner → IsInnerOf ps 1 q (256 * q) leaves (i (get_or ps (leaves + q) 0))
      inner_block q within =
          let node = written (leaves + q) (omega (arith, long, within)) (inner_place q within) in
          let same : leaves + q - leaves ≡ q = omega arith in
          subst (λ (k : ℕ). IsInnerOf ps 1 k (256 * k) leaves (i (get_or ps (leaves + q) 0))) same (node.inner (omega arith) (omega (arith, within)))

      leaf_child : (k : ℕ) → k < leaves → child_in (lying inner_at i (get_or ps (leaves + k / 256) 0)) (k % 256) ≡ get_or ps k 0
      leaf_child k within =
          let up : k / 256 < inner = omega (arith, within) in
          let at : 256 * (k / 256) + k % 256 ≡ k = omega arith in
          child_of i ps 1 (k / 256) (256 * (k / 256)) leaves (get_or ps (leaves + k / 256) 0) (k % 256) (inner_block (k / 256) up) (inner_place (k / 256) up) (omega arith) (omega (arith, at, within))
          ∙ ap (λ (m : ℕ). get_or ps m 0) at

      leaves_whole : (k : ℕ) → k < leaves → get_or ps k 0 ≢ 0 → node_verdict 0 k (i (get_or ps k 0)) ≡ Ok tt
      leaves_whole k within some = leaf_whole es k (i (get_or ps k 0)) ((written k (omega (arith, long, within)) some).leaf within)

      inner_all_whole : (q : ℕ) → q < inner → get_or ps (leaves + q) 0 ≢ 0 → node_verdict 1 q (i (get_or ps (leaves + q) 0)) ≡ Ok tt
      inner_all_whole q within some = inner_whole ps 0 q (256 * q) leaves (i (get_or ps (leaves + q) 0)) (inner_block q within)

      leaves_end : (k : ℕ) → k < leaves → get_or ps k 0 ≢ 0 → has_none_past n 0 k (i (get_or ps k 0)) ≡ true
      leaves_end k within some = leaf_ends es k (i (get_or ps k 0)) ((written k (omega (arith, long, within)) some).leaf within)

      inner_end : (q : ℕ) → q < inner → get_or ps (leaves + q) 0 ≢ 0 → has_none_past n 1 q (i (get_or ps (leaves + q) 0)) ≡ true
      inner_end q within some = inner_ends ps n 0 q (256 * q) leaves (i (get_or ps (leaves + q) 0)) (inner_block q within) (λ c past. omega (arith, past))

      read : (v : ℕ) → v < n → pair_of (get_or es v None) ≡ entry_in (lying leaf_at i (get_or ps (v / 256) 0)) (v % 256)
      read v within =
          let k = v / 256 in
          let up : k < leaves = omega (arith, within) in
          let at : 256 * k + v % 256 ≡ v = omega arith in
          ⊎_elim
          (λ (none : get_or ps k 0 ≡ 0).
          let hole : get_or es v None ≡ None = ap (λ (m : ℕ). get_or es m None) (sym at) ∙ holes k (v % 256) up none (omega arith) in
          ap pair_of hole ∙ sym (ap (λ (p : ℕ). entry_in (lying leaf_at i p) (v % 256)) none))
          (λ (some : get_or ps k 0 ≢ 0).
          let leaf = (written k (omega (arith, long, up)) some).leaf up in
          sym (ap (λ l. entry_in l (v % 256)) (lying_read leaf_at i (get_or ps k 0) leaf.leaf some leaf.said) ∙ leaf.entries (v % 256) (omega arith) ∙ ap (λ (m : ℕ). pair_of (get_or es m None)) at))
          (cases_eq (get_or ps k 0) 0)

      -- a tree with these places, whose top node ends and is whole
      flushed : (root height : ℕ) → TreeAt i root height n ps → (height ≡ 2 → (node_verdict 2 0 (i root) ≡ Ok tt) × (has_none_past n 2 0 (i root) ≡ true)) → IsFlushed i root height (map_of es ps dirty)
      flushed root height tree top =
          let whole : IsWholeTree i root height n = record {
            nodes = each_node i root height n ps tree (λ level number b. node_verdict level number b ≡ Ok tt) leaves_whole inner_all_whole (λ two some. (top two).0);
          } in
          record {
            spelled = spelled i root height es ps tree (shaped_when_whole i root height n whole) read dirty;
            whole = whole;
            ends = record { nodes = each_node i root height n ps tree (λ level number b. has_none_past n level number b ≡ true) leaves_end inner_end (λ two some. (top two).1) };
          }

      module _ (low : leaves ≤ 256) where
        low_height : height_of n ≡ 1
        low_height = let test : nat_le leaves 256 ≡ true = grind (arith, nat_tests) in rw test refl

        low_root : root_number n ≡ leaves
        low_root = let test : nat_lt 1 inner ≡ false = grind (arith, nat_tests, low_inner low) in rw test refl

        plus_none : leaves + 0 ≡ leaves
        plus_none = omega arith

        low_tree : TreeAt i (get_or ps leaves 0) 1 n ps
        unfolding node_below
        low_tree = record {
          few = few;
          least = omega arith;
          greatest = omega arith;
          long = long;
          leaf = λ k within.
              let up : k / 256 ≡ 0 = omega (arith, within, low) in
              let child : child_in (lying inner_at i (get_or ps leaves 0)) (k % 256) ≡ get_or ps k 0 = ap (λ (m : ℕ). child_in (lying inner_at i (get_or ps m 0)) (k % 256)) (sym plus_none ∙ ap (λ (m : ℕ). leaves + m) (sym up)) ∙ leaf_child k within in
              sym (rw up child);
          inner = λ q within.
              let first : q ≡ 0 = omega (arith, within, low_inner low) in
              rw (first, plus_none) refl;
          top = absent (leaves + inner) (omega (arith, long)) (omega arith) (top_if ∙ alone);
        }
          where
            alone : nat_lt 1 inner ≡ false
            alone = grind (arith, nat_tests, low_inner low)

        low_flushed : IsFlushed i (get_or ps (root_number n) 0) (height_of n) (map_of es ps dirty)
        low_flushed = rw (low_height, low_root) (flushed (get_or ps leaves 0) 1 low_tree (λ high. absurd (omega (arith, high))))

      module _ (high : 256 < leaves) where
        high_height : height_of n ≡ 2
        high_height = let test : nat_le leaves 256 ≡ false = grind (arith, nat_tests) in rw test refl

        more : nat_lt 1 inner ≡ true
        more = grind (arith, nat_tests, high_inner high)

        high_root : root_number n ≡ leaves + inner
        high_root = rw more refl

        top_place : get_or ps (leaves + inner) 0 ≢ 0
        top_place = placed (leaves + inner) (omega (arith, long)) (omega arith) (top_if ∙ more)

        top_block : IsInnerOf ps 2 0 leaves (leaves + inner) (i (get_or ps (leaves + inner) 0))
        top_block = (written (leaves + inner) (omega (arith, long)) top_place).top refl

        high_inner_at : (q : ℕ) → q < inner → get_or ps (leaves + q) 0 ≡ node_below i (get_or ps (leaves + inner) 0) 1 q
        unfolding node_below
        high_inner_at q within =
            let up : q / 256 ≡ 0 = omega (arith, within, few_inner) in
            let itself : q % 256 ≡ q = omega (arith, within, few_inner) in
            rw (up, itself) (sym (child_of i ps 2 0 leaves (leaves + inner) (get_or ps (leaves + inner) 0) q top_block top_place (omega (arith, within, few_inner)) (omega (arith, within))))

        high_tree : TreeAt i (get_or ps (leaves + inner) 0) 2 n ps
        unfolding node_below
        high_tree = record { few = few; least = omega arith; greatest = omega arith; long = long; leaf = λ k within. sym (ap (λ (p : ℕ). child_in (lying inner_at i p) (k % 256)) (sym (high_inner_at (k / 256) (omega (arith, within)))) ∙ leaf_child k within); inner = high_inner_at; top = refl }

        high_flushed : IsFlushed i (get_or ps (root_number n) 0) (height_of n) (map_of es ps dirty)
        high_flushed = rw (high_height, high_root) (flushed (get_or ps (leaves + inner) 0) 2 high_tree (λ two. (
          inner_whole ps 1 0 leaves (leaves + inner) (i (get_or ps (leaves + inner) 0)) top_block,
          inner_ends ps n 1 0 leaves (leaves + inner) (i (get_or ps (leaves + inner) 0)) top_block (λ c past. omega (arith, past)),
        )))

      pub tree_flushed : IsFlushed i (get_or ps (root_number n) 0) (height_of n) (map_of es ps dirty)
      tree_flushed = ⊎_elim high_flushed low_flushed (cases_lt 256 leaves)

-- ---- the map

pub lost : (old mid : Room) (test : ℕ → Bool) (fresh : List ℕ) (n : ℕ) → HasTaken old test fresh n mid → Loses old mid
lost old mid test fresh n takes = record {
  free = λ b now. first (set.contains old.free b) (names (take n fresh) b) (sym (takes.left b) ∙ now);
  committed = takes.committed;
}
  where
    first : (o t : Bool) → (o && not t) ≡ true → o ≡ true
    first true t is = refl
    first false t is = is

pub root_placed : (entries : ℕ) (ps : List ℕ) → length ps ≡ node_count entries → ((m : ℕ) → m < length ps → level_width entries 0 ≤ m → is_above entries m ≡ true → get_or ps m 0 ≢ 0) → 1 ≤ get_or ps (root_number entries) 0
root_placed entries ps long placed =
    let leaves = level_width entries 0 in
    let inner = level_width entries 1 in
    ⊎_elim
    (λ (high : 1 < inner).
    let test : nat_lt 1 inner ≡ true = grind (arith, nat_tests) in
    let some = placed (leaves + inner) (omega (arith, long)) (omega arith) (or_right (nat_lt (leaves + inner) (leaves + inner)) (nat_lt 1 inner) test) in
    rw test (omega (arith, some)))
    (λ (low : inner ≤ 1).
    let test : nat_lt 1 inner ≡ false = grind (arith, nat_tests) in
    let inside : nat_lt leaves (leaves + inner) ≡ true = grind (arith, nat_tests) in
    let some : get_or ps leaves 0 ≢ 0 = placed leaves (omega (arith, long)) (omega arith) (or_left (nat_lt leaves (leaves + inner)) (nat_lt 1 inner) inside) in
    rw test (omega (arith, some)))
    (cases_lt 1 inner)

-- ---- the tree that a flush leaves

-- a node above the leaves is there by its number alone
pub there_above : (held : Leaves) (tree : List ℕ) (dirty : List Bool) (entries m : ℕ) → level_width entries 0 ≤ m → is_there held tree dirty entries m ≡ is_above entries m
unfolding is_there
there_above held tree dirty entries m past = let test : nat_lt m (level_width entries 0) ≡ false = grind (arith, nat_tests) in rw test refl

there_leaf : (held : Leaves) (tree : List ℕ) (dirty : List Bool) (entries k : ℕ) → k < level_width entries 0 → is_there held tree dirty entries k ≡ (if get_or dirty k true then is_full (leaf_here held k) else not (get_or tree k 0 == 0))
unfolding is_there
there_leaf held tree dirty entries k low = let test : nat_lt k (level_width entries 0) ≡ true = grind (arith, nat_tests) in rw test refl

module _ (held : Leaves) (es : List (Option Entry)) (tree : List ℕ) (dirty : List Bool) (i : Image)
    (well : AreWell held) (entries_held : (v : ℕ) → IfSome (get_or es v None) IsHeld) (here : (k : ℕ) → k < level_width (length es) 0 → get_or dirty k true ≡ true → is_some (leaf_here held k) ≡ true)
    (said : AreSaid es held dirty) (over : IsOver i (map_of es tree dirty))
  where
    -- a leaf that the next tree hasn't has holes
    pub gone_holes : (k c : ℕ) → k < level_width (length es) 0 → is_there held tree dirty (length es) k ≡ false → c < 256 → get_or es (256 * k + c) None ≡ None
    gone_holes k c low gone lt = ⊎_elim
        (λ (marked : get_or dirty k true ≡ true).
        let bare : is_full (leaf_here held k) ≡ false = sym (ap (λ (t : Bool). if t then is_full (leaf_here held k) else not (get_or tree k 0 == 0)) marked) ∙ (sym (there_leaf held tree dirty (length es) k low) ∙ gone) in
        bare_holes es k (leaf_here held k) (here k low marked) (said k marked) (well k) bare entries_held c lt)
        (λ (clean : get_or dirty k true ≡ false).
        let none : not (get_or tree k 0 == 0) ≡ false = sym (ap (λ (t : Bool). if t then is_full (leaf_here held k) else not (get_or tree k 0 == 0)) clean) ∙ (sym (there_leaf held tree dirty (length es) k low) ∙ gone) in
        over.absent k c clean (no_place (get_or tree k 0) none) lt)
        (cases_Bool (get_or dirty k true))
      where
        no_place : (a : ℕ) → not (a == 0) ≡ false → a ≡ 0
        no_place a none = grind (arith, nat_tests, none)

    module _ (next : List ℕ) (there : (m : ℕ) → m < length next → is_there held tree dirty (length es) m ≡ true → get_or next m 0 ≢ 0) (long : length next ≡ node_count (length es)) where
      pub absent_holes : (k c : ℕ) → k < level_width (length es) 0 → get_or next k 0 ≡ 0 → c < 256 → get_or es (256 * k + c) None ≡ None
      absent_holes k c low none lt = ⊎_elim
          (λ (is : is_there held tree dirty (length es) k ≡ true). absurd (there k (omega (arith, low, long)) is none))
          (λ (gone : is_there held tree dirty (length es) k ≡ false). gone_holes k c low gone lt)
          (cases_Bool (is_there held tree dirty (length es) k))
