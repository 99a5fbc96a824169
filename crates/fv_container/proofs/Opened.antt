-- A container that is made or opened.
use Rattle.std.proofs.Common.{◌≡◌, ◌<◌, ◌≤◌, ◌+◌, ◌-◌, ◌*◌, ◌/◌, ◌%◌, ◌∷◌, ℕ, zero, suc, Bool, true, false, ◌&&◌, List, length, get_or, drop, replicate, Option, Some, None, refl, sym, ap, subst, ◌∙◌, arith, ⊎_elim}
use Rattle.std.specs.Prelude.{All, IfOk, IfSome, IsTrue, Result, Ok, Err, nat_le, nat_lt, if◌then◌else◌}
use Rattle.std.specs.Option.{is_some}
use Rattle.std.specs.Global.{Box}
use Rattle.std.proofs.lemmas.Bool.{and_from, cases_lt, true≢false}
use Rattle.std.proofs.lemmas.Bool.Decides.{nat_tests}
use Rattle.std.proofs.lemmas.List.{get_or-append-add, get_or-replicate, get_or_append_left, get_or_past, length-append, length-replicate}
use Rattle.std.proofs.lemmas.List.Elements.{All-from_get_or, All-replicate}
use Rattle.std.proofs.lemmas.List.FromFn.{get_or-map-range_with_len, length-map-range_with_len}
use Rattle.fv_disk.specs.Shown.{Image, IsBlock, IsDisk, Shown}
use Rattle.fv_codec.specs.declared.container.ContainerLeaf.{ContainerLeaf}
use Rattle.fv_codec.specs.declared.shape.Shape.{Shape}
use Rattle.fv_codec.specs.Blocks.{IsContainerLeaf, IsEntry as IsLeafEntry, is_used, greatest_kind, kind_of, last_place, leaf_at, leaf_in, place_of}
use Rattle.fv_codec.specs.Fields.{Verdict, items, reading, up_to}
use Rattle.fv_codec.proofs.Decoded.{leaf_in_range}
use Rattle.fv_image.specs.Containers.{entry_in, level_width, lying, most_entries, shaped}
use Rattle.fv_container.specs.declared.entry.Entry.{Entry}
use Rattle.fv_container.specs.Kept.{IsKept, map_of, paged_of}
use Rattle.fv_container.specs.Mapped.{IsHeld, empty_map, grown, marks_above, node_count}
use Rattle.fv_container.specs.Paged.{IsLeafFor, IsSureOf, Leaves, empty_paged, entries_spelled, entry_for, here_of, is_as_said, is_right, is_told, leaf_here, pair_there}
use Rattle.fv_container.specs.Spelled.{IsOpened, IsShapedAbove, pair_of}
use Rattle.fv_container.specs.Clean.{IsCleanOn, IsCleanTree, IsOver}
use Rattle.fv_container.specs.Reading.{TreeAt}
use Rattle.fv_container.proofs.Nodes.{leaf_range}
use Rattle.fv_container.proofs.Loaded.{here_at}
use Rattle.fv_container.proofs.Positions.{read_over}
use Rattle.fv_container.proofs.Whole.{leaves_stand, whole_inner, whole_top}
use Rattle.fv_container.proofs.Tests.{none_said, right_of}
use Rattle.fv_container.proofs.Trees.{opened}

-- ---- entries by their pairs

test_parts : (b : Bool) (p k : ℕ) → (nat_lt 0 k && (nat_lt k 9 && nat_le p last_place)) ≡ b → IfSome (if b then Some (record { pvbn = p; kind = k }) else None) IsHeld
test_parts true p k is = record { place = grind (arith, nat_tests, is); kind_least = grind (arith, nat_tests, is); kind_greatest = grind (arith, nat_tests, is) }
test_parts false p k is = tt

pub for_held : (q : ℕ × ℕ) → IfSome (entry_for q) IsHeld
for_held q = test_parts (nat_lt 0 q.1 && (nat_lt q.1 9 && nat_le q.0 last_place)) q.0 q.1 refl

pair_test : (b : Bool) (p k : ℕ) → (nat_lt 0 k && (nat_lt k 9 && nat_le p last_place)) ≡ b → k ≤ 8 → p ≤ last_place → (k ≡ 0 → p ≡ 0) → pair_of (if b then Some (record { pvbn = p; kind = k }) else None) ≡ (p, k)
pair_test true p k is few low hole = refl
pair_test false p k is few low hole =
    let none : k ≡ 0 = grind (arith, nat_tests, is, few, low) in
    ap (λ (n : ℕ). (0, n)) (sym none) ∙ ap (λ (n : ℕ). (n, k)) (sym (hole none))

bound_of : (u : Bool) → up_to u last_place ≤ last_place
bound_of true = omega arith
bound_of false = omega arith

pub pair_for : (q : ℕ × ℕ) → IsLeafEntry q → pair_of (entry_for q) ≡ q
pair_for q is = pair_test (nat_lt 0 q.1 && (nat_lt q.1 9 && nat_le q.0 last_place)) q.0 q.1 refl is.1 (omega (arith, is.0, bound_of (is_used q.1))) (λ none.
    let e : q.0 ≤ up_to (is_used 0) last_place = subst (λ (k : ℕ). q.0 ≤ up_to (is_used k) last_place) none is.0 in omega (arith, e))

-- ---- leaves that lie on a disk are in range

items_long : {X : Type 0} (n size : ℕ) (value : List ℕ → X) (bytes : List ℕ) → length (items n size value bytes) ≡ n
unfolding items
items_long zero size value bytes = refl
items_long (suc n) size value bytes = ap suc (items_long n size value (drop size bytes))

abbrev IsLong : ContainerLeaf → Type 0
IsLong l = (length l.pvbns ≡ 256) × (length l.kinds ≡ 256)

by_verdict : (v : Verdict) (x : ContainerLeaf) (r : Result ContainerLeaf Shape) → r ≡ reading v x → IsLong x → IfOk r IsLong
by_verdict (Ok u) x r is long = subst (λ (q : Result ContainerLeaf Shape). IfOk q IsLong) (sym is) long
by_verdict (Err s) x r is long = subst (λ (q : Result ContainerLeaf Shape). IfOk q IsLong) (sym is) tt

rows_long : (block : List ℕ) (r : Result ContainerLeaf Shape) → r ≡ leaf_at block → IfOk r IsLong
unfolding leaf_in
rows_long block r is = by_verdict _ _ r is (items_long 256 12 place_of (drop 1024 block), items_long 256 12 kind_of (drop 1024 block))

block_long : (disk : Shown) → IsTrue disk.tells → IsDisk disk → (at : ℕ) → length (disk.reads at) ≡ 4096
block_long disk tells laws at =
    let now = laws.counts_now disk.moment disk.reads (omega arith) (laws.read_is_image tells) in
    let block : IsBlock (disk.reads at) = laws.blocks disk.moment disk.reads disk.given now at in
    block.long

said_range : (block : List ℕ) (leaf : ContainerLeaf) → length block ≡ 4096 → leaf_at block ≡ Ok leaf → (c : ℕ) → c < 256 → IsLeafEntry (get_or leaf.pvbns c 0, get_or leaf.kinds c 0)
said_range block leaf long said =
    let range : IsContainerLeaf leaf = subst (λ (r : Result ContainerLeaf Shape). IfOk r IsContainerLeaf) said (leaf_in_range greatest_kind block (leaf_at block) long refl) in
    let rows : IsLong leaf = subst (λ (r : Result ContainerLeaf Shape). IfOk r IsLong) said (rows_long block (leaf_at block) refl) in
    leaf_range leaf range rows.0 rows.1

pub range_there : (disk : Shown) → IsTrue disk.tells → IsDisk disk → (at : ℕ) (leaf : ContainerLeaf) → leaf_at (disk.reads at) ≡ Ok leaf → (c : ℕ) → c < 256 → IsLeafEntry (get_or leaf.pvbns c 0, get_or leaf.kinds c 0)
range_there disk tells laws at leaf said = said_range (disk.reads at) leaf (block_long disk tells laws at) said

hole_range : IsLeafEntry (0, 0)
hole_range = (omega arith, omega arith)

by_shape : (block : List ℕ) (r : Result ContainerLeaf Shape) → leaf_at block ≡ r → length block ≡ 4096 → (c : ℕ) → c < 256 → IsLeafEntry (entry_in (shaped r) c)
by_shape block (Ok leaf) said long c lt = said_range block leaf long said c lt
by_shape block (Err shape) said long c lt = hole_range

pub pair_range : (disk : Shown) → IsTrue disk.tells → IsDisk disk → (at c : ℕ) → c < 256 → IsLeafEntry (pair_there disk.reads at c)
pair_range disk tells laws zero c lt = hole_range
pair_range disk tells laws (suc p) c lt = by_shape (disk.reads (suc p)) (leaf_at (disk.reads (suc p))) refl (block_long disk tells laws (suc p)) c lt

-- ---- what is spelled

spelled_at : (i : Image) (tree : List ℕ) (count v : ℕ) → v < count → get_or (entries_spelled i tree count) v None ≡ entry_for (pair_there i (get_or tree (v / 256) 0) (v % 256))
unfolding entries_spelled
spelled_at i tree count v lt = get_or-map-range_with_len (λ (w : ℕ). entry_for (pair_there i (get_or tree (w / 256) 0) (w % 256))) 0 count v v None lt (omega arith)

pub spelled_long : (i : Image) (tree : List ℕ) (count : ℕ) → length (entries_spelled i tree count) ≡ count
unfolding entries_spelled
spelled_long i tree count = length-map-range_with_len (λ (w : ℕ). entry_for (pair_there i (get_or tree (w / 256) 0) (w % 256))) 0 count

spelled_held : (i : Image) (tree : List ℕ) (count : ℕ) → All (λ e. IfSome e IsHeld) (entries_spelled i tree count)
spelled_held i tree count = All-from_get_or (λ e. IfSome e IsHeld) (entries_spelled i tree count) None (λ v lt.
    subst (λ (o : Option Entry). IfSome o IsHeld) (sym (spelled_at i tree count v (omega (arith, lt, spelled_long i tree count)))) (for_held (pair_there i (get_or tree (v / 256) 0) (v % 256))))

pub spelled_read : (disk : Shown) (tree : List ℕ) (count : ℕ) → IsTrue disk.tells → IsDisk disk → (v : ℕ) → v < count
    → pair_of (get_or (entries_spelled disk.reads tree count) v None) ≡ entry_in (lying leaf_at disk.reads (get_or tree (v / 256) 0)) (v % 256)
spelled_read disk tree count tells laws v lt = ap pair_of (spelled_at disk.reads tree count v lt) ∙ pair_for (pair_there disk.reads (get_or tree (v / 256) 0) (v % 256)) (pair_range disk tells laws (get_or tree (v / 256) 0) (v % 256) (omega arith))

-- the entries of an absent leaf are holes
pub spelled_none : (i : Image) (tree : List ℕ) (count k c : ℕ) → get_or tree k 0 ≡ 0 → c < 256 → get_or (entries_spelled i tree count) (256 * k + c) None ≡ None
spelled_none i tree count k c none lt = ⊎_elim
    (λ (inside : 256 * k + c < count).
    let up : (256 * k + c) / 256 ≡ k = omega (arith, lt) in
    spelled_at i tree count (256 * k + c) inside ∙ ap (λ (n : ℕ). entry_for (pair_there i (get_or tree n 0) ((256 * k + c) % 256))) up ∙ ap (λ (p : ℕ). entry_for (pair_there i p ((256 * k + c) % 256))) none)
    (λ (past : count ≤ 256 * k + c). get_or_past (entries_spelled i tree count) (256 * k + c) None (omega (arith, past, spelled_long i tree count)))
    (cases_lt (256 * k + c) count)

-- ---- rows

no_leaf : (n k : ℕ) → leaf_here (replicate n None) k ≡ None
no_leaf n k = ⊎_elim
    (λ (lt : k < n). get_or-replicate n k None None lt)
    (λ (past : n ≤ k). get_or_past (replicate n None) k None (omega (arith, past, length-replicate {A = Option (Box ContainerLeaf)} n None)))
    (cases_lt k n)

no_bit : (n v : ℕ) → get_or (replicate n false) v false ≡ false
no_bit n v = ⊎_elim
    (λ (lt : v < n). get_or-replicate n v false false lt)
    (λ (past : n ≤ v). get_or_past (replicate n false) v false (omega (arith, past, length-replicate {A = Bool} n false)))
    (cases_lt v n)

marks_long : (n : ℕ) (value : Bool) → length (marks_above n value) ≡ node_count n
marks_long n value = length-append (replicate (level_width n 0) false) (replicate (level_width n 1 + 1) value)
    ∙ (let a = length-replicate {A = Bool} (level_width n 0) false in let b = length-replicate {A = Bool} (level_width n 1 + 1) value in omega (arith, a, b))

marks_low : (n m : ℕ) (value : Bool) → m < level_width n 0 → get_or (marks_above n value) m true ≡ false
marks_low n m value lt =
    let long = length-replicate {A = Bool} (level_width n 0) false in
    get_or_append_left (replicate (level_width n 0) false) (replicate (level_width n 1 + 1) value) true m (omega (arith, lt, long)) ∙ get_or-replicate (level_width n 0) m false true lt

marks_high : (n m : ℕ) (value : Bool) → level_width n 0 ≤ m → m < node_count n → get_or (marks_above n value) m true ≡ value
marks_high n m value le lt =
    let long = length-replicate {A = Bool} (level_width n 0) false in
    let rest : length (replicate (level_width n 0) false) + (m - level_width n 0) ≡ m = omega (arith, le, long) in
    ap (λ (k : ℕ). get_or (marks_above n value) k true) (sym rest)
    ∙ get_or-append-add (replicate (level_width n 0) false) (replicate (level_width n 1 + 1) value) (m - level_width n 0) true
    ∙ get_or-replicate (level_width n 1 + 1) (m - level_width n 0) value true (omega (arith, le, lt))

-- no node is dirty, where those above the leaves aren't
pub marks_clean : (n m : ℕ) → m < length (marks_above n false) → get_or (marks_above n false) m true ≡ false
marks_clean n m lt = ⊎_elim
    (λ (low : m < level_width n 0). marks_low n m false low)
    (λ (high : level_width n 0 ≤ m). marks_high n m false high (omega (arith, lt, marks_long n false)))
    (cases_lt m (level_width n 0))

-- a region that is absent is told
none_told : (es : List (Option Entry)) (k n : ℕ) → ((c : ℕ) → c < 256 → get_or es (256 * k + c) None ≡ None) → is_told es k None (replicate n false) ≡ true
none_told es k n holes = and_from (is_as_said es k None) (is_right es k (replicate n false)) (none_said es k) (right_of es k (replicate n false) (λ c lt. no_bit n (256 * k + c) ∙ ap is_some (sym (holes c lt))))

-- ---- a container of which no leaf is in memory

module _ (n : ℕ) (es : List (Option Entry)) (tree : List ℕ) (value : Bool) (known : List Bool) (size : length es ≡ n) where
  none_here : (k : ℕ) → get_or (here_of (replicate (level_width n 0) None)) k false ≡ false
  none_here k = here_at (replicate (level_width n 0) None) k ∙ ap is_some (no_leaf (level_width n 0) k)

  pub fresh_kept : (next fresh : List ℕ) → n ≤ most_entries → All (λ e. IfSome e IsHeld) es → length tree ≡ node_count n → ((m : ℕ) → get_or (marks_above n value) m true ≡ false → get_or tree m 0 ≤ last_place) → length known ≡ level_width n 0
      → ((k c : ℕ) → get_or known k false ≡ true → c < 256 → get_or es (256 * k + c) None ≡ None) → length next ≡ node_count n → length fresh ≡ node_count n
      → IsKept (paged_of es tree (marks_above n value) (replicate (level_width n 0) None) known known) n (replicate (level_width n 0) None) (replicate (grown n) false) next fresh
  fresh_kept next fresh few held long bounded wide holes room anew = record {
    mapped = record {
      few = omega (arith, few, size);
      entries = held;
      tree = long ∙ ap node_count (sym size);
      dirty = marks_long n value ∙ ap node_count (sym size);
      places = bounded;
    };
    size = sym size;
    room = room;
    anew = anew;
    long = length-replicate {A = Option (Box ContainerLeaf)} (level_width n 0) None;
    known = wide;
    sure = wide;
    bits = (let e = length-replicate {A = Bool} (grown n) false in omega (arith, e));
    well = λ k. subst (λ (b : Option (Box ContainerLeaf)). IfSome b (λ x. IsLeafFor k x.value)) (sym (no_leaf (level_width n 0) k)) tt;
    learned = λ k is. absurd (true≢false (sym is ∙ ap is_some (no_leaf (level_width n 0) k)));
    held = λ k lt is. absurd (true≢false (sym is ∙ marks_low n k value (let e = length-replicate {A = Option (Box ContainerLeaf)} (level_width n 0) None in omega (arith, lt, e))));
    told = λ k. by k (get_or known k false) refl;
  }
    where
      by : (k : ℕ) (b : Bool) → get_or known k false ≡ b → IsSureOf es k b (leaf_here (replicate (level_width n 0) None) k) (replicate (grown n) false)
      by k true is = subst (λ (b : Option (Box ContainerLeaf)). is_told es k b (replicate (grown n) false) ≡ true) (sym (no_leaf (level_width n 0) k)) (none_told es k (grown n) (λ c lt. holes k c is lt))
      by k false is = tt

  pub fresh_clean : (i : Image) → IsOver i (map_of es tree (marks_above n value)) → IsCleanOn i (paged_of es tree (marks_above n value) (replicate (level_width n 0) None) known known)
  fresh_clean i over = record {
    over = over;
    here = λ k is. absurd (true≢false (sym is ∙ none_here k));
    known = λ k is. is;
  }

-- a tree that is clean on the disk spells the entries of a container that is opened
pub opened_over : (disk : Shown) (root height n : ℕ) (tree : List ℕ) (dirty : List Bool) → IsTrue disk.tells → IsDisk disk → TreeAt disk.reads root height n tree → IsCleanTree disk.reads root height n → IsOver disk.reads (map_of (entries_spelled disk.reads tree n) tree dirty)
opened_over disk root height n tree dirty tells laws at clean =
    let es = entries_spelled disk.reads tree n in
    let size : length es ≡ n = spelled_long disk.reads tree n in
    record {
      stored = es;
      long = refl;
      written = read_over disk.reads root height es tree (rw size at)
          (λ v lt. spelled_read disk tree n tells laws v (omega (arith, lt, size)))
          (rw size (leaves_stand disk.reads root height n tree at clean (range_there disk tells laws)))
          (rw size (whole_inner disk.reads root height n tree at clean))
          (rw size (whole_top disk.reads root height n clean));
      same = λ v un. refl;
      absent = λ k c un none lt. spelled_none disk.reads tree n k c none lt;
    }

-- ---- as calls say it

here_none : (n : ℕ) → here_of (replicate n None) ≡ replicate n false
here_none zero = refl
here_none (suc n) = ap (λ (l : List Bool). false ∷ l) (here_none n)

none_of : (n v : ℕ) → ◌≡◌ {A = Option Entry} (get_or (replicate n None) v None) None
none_of n v = ⊎_elim
    (λ (lt : v < n). get_or-replicate n v None None lt)
    (λ (past : n ≤ v). get_or_past (replicate n None) v None (omega (arith, past, length-replicate {A = Option Entry} n None)))
    (cases_lt v n)

zero_of : (n m : ℕ) → ◌≡◌ {A = ℕ} (get_or (replicate n 0) m 0) 0
zero_of n m = ⊎_elim
    (λ (lt : m < n). get_or-replicate n m 0 0 lt)
    (λ (past : n ≤ m). get_or_past (replicate n 0) m 0 (omega (arith, past, length-replicate {A = ℕ} n 0)))
    (cases_lt m n)

pub made_kept : (n : ℕ) (es : List (Option Entry)) (tree : List ℕ) (dirty : List Bool) (leaves : Leaves) (known sure used : List Bool) (next fresh : List ℕ) → n ≤ most_entries
    → es ≡ replicate n None → tree ≡ replicate (node_count n) 0 → dirty ≡ marks_above n true → leaves ≡ replicate (level_width n 0) None → known ≡ replicate (level_width n 0) true → sure ≡ known → used ≡ replicate (grown n) false
    → next ≡ replicate (node_count n) 0 → fresh ≡ replicate (node_count n) 0 → IsKept (paged_of es tree dirty leaves known sure) n leaves used next fresh
made_kept n es tree dirty leaves known sure used next fresh few es_is tree_is dirty_is leaves_is known_is sure_is used_is next_is fresh_is = rw (sure_is, es_is, tree_is, dirty_is, leaves_is, known_is, used_is, next_is, fresh_is)
    (fresh_kept n (replicate n None) (replicate (node_count n) 0) true (replicate (level_width n 0) true) (length-replicate {A = Option Entry} n None) (replicate (node_count n) 0) (replicate (node_count n) 0) few
    (All-replicate (λ e. IfSome e IsHeld) n None tt) (length-replicate {A = ℕ} (node_count n) 0) (λ m un. let zero = zero_of (node_count n) m in omega (arith, zero)) (length-replicate {A = Bool} (level_width n 0) true)
    (λ k c is lt. none_of n (256 * k + c)) (length-replicate {A = ℕ} (node_count n) 0) (length-replicate {A = ℕ} (node_count n) 0))

pub made_empty : (n : ℕ) (es : List (Option Entry)) (tree : List ℕ) (dirty : List Bool) (leaves : Leaves) (known sure : List Bool)
    → es ≡ replicate n None → tree ≡ replicate (node_count n) 0 → dirty ≡ marks_above n true → leaves ≡ replicate (level_width n 0) None → known ≡ replicate (level_width n 0) true → sure ≡ known
    → paged_of es tree dirty leaves known sure ≡ empty_paged n
made_empty n es tree dirty leaves known sure es_is tree_is dirty_is leaves_is known_is sure_is = rw (sure_is, es_is, tree_is, dirty_is, leaves_is, known_is)
    (ap (λ (l : List Bool). record { map = empty_map n; here = l; known = replicate (level_width n 0) true; sure = replicate (level_width n 0) true }) (here_none (level_width n 0)))

module _ (i : Image) (n : ℕ) (value : Bool) (es : List (Option Entry)) (tree : List ℕ) (dirty : List Bool) (leaves : Leaves) (known sure used : List Bool) (next fresh : List ℕ)
    (few : n ≤ most_entries) (es_is : es ≡ entries_spelled i tree n) (long : length tree ≡ node_count n) (low : (m : ℕ) → m < level_width n 0 → get_or tree m 0 ≤ last_place) (high : value ≡ false → (m : ℕ) → get_or tree m 0 ≤ last_place)
    (dirty_is : dirty ≡ marks_above n value) (leaves_is : leaves ≡ replicate (level_width n 0) None) (wide : length known ≡ level_width n 0) (absent : (k : ℕ) → k < level_width n 0 → get_or known k false ≡ true → get_or tree k 0 ≡ 0)
    (sure_is : sure ≡ known) (used_is : used ≡ replicate (grown n) false) (room : length next ≡ node_count n) (anew : length fresh ≡ node_count n)
  where
    bounded : (m : ℕ) → get_or (marks_above n value) m true ≡ false → get_or tree m 0 ≤ last_place
    bounded m un = ⊎_elim
        (λ (below : m < level_width n 0). low m below)
        (λ (above : level_width n 0 ≤ m). ⊎_elim
        (λ (inside : m < node_count n). high (sym (marks_high n m value above inside) ∙ un) m)
        (λ (past : node_count n ≤ m). let none = get_or_past tree m 0 (omega (arith, past, long)) in omega (arith, none))
        (cases_lt m (node_count n)))
        (cases_lt m (level_width n 0))

    gone : (k : ℕ) → get_or known k false ≡ true → get_or tree k 0 ≡ 0
    gone k is = ⊎_elim
        (λ (inside : k < level_width n 0). absent k inside is)
        (λ (past : level_width n 0 ≤ k). absurd (true≢false (sym is ∙ get_or_past known k false (omega (arith, past, wide)))))
        (cases_lt k (level_width n 0))

    pub opened_kept : IsKept (paged_of es tree dirty leaves known sure) n leaves used next fresh
    opened_kept = rw (sure_is, es_is, dirty_is, leaves_is, used_is)
        (fresh_kept n (entries_spelled i tree n) tree value known (spelled_long i tree n) next fresh few (spelled_held i tree n) long bounded wide (λ k c is lt. spelled_none i tree n k c (gone k is) lt) room anew)

    pub opened_clean : IsOver i (map_of (entries_spelled i tree n) tree (marks_above n value)) → IsCleanOn i (paged_of es tree dirty leaves known sure)
    opened_clean over = rw (sure_is, es_is, dirty_is, leaves_is) (fresh_clean n (entries_spelled i tree n) tree value known (spelled_long i tree n) i over)

-- no leaf is in memory
pub absent_at : (n k : ℕ) → leaf_here (replicate n None) k ≡ None
absent_at n k = ⊎_elim
    (λ (lt : k < n). get_or-replicate n k None None lt)
    (λ (past : n ≤ k). get_or_past (replicate n None) k None (omega (arith, past, length-replicate {A = Option (Box ContainerLeaf)} n None)))
    (cases_lt k n)

-- a tree that was read down to its leaves' places spells the entries
pub opened_spelled : (disk : Shown) (root height n : ℕ) (tree : List ℕ) (dirty : List Bool) (es : List (Option Entry)) → IsTrue disk.tells → IsDisk disk → es ≡ entries_spelled disk.reads tree n → TreeAt disk.reads root height n tree → IsShapedAbove disk.reads root height n
    → IsOpened disk.reads root height (map_of es tree dirty)
opened_spelled disk root height n tree dirty es tells laws is at above =
    let size : length es ≡ n = ap (λ (l : List (Option Entry)). length l) is ∙ spelled_long disk.reads tree n in
    opened disk.reads root height es tree (rw size at) (rw size above)
    (λ v lt. ap (λ (l : List (Option Entry)). pair_of (get_or l v None)) is ∙ spelled_read disk tree n tells laws v (omega (arith, lt, size))) dirty
