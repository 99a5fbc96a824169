-- A rule on a pointer and those in its block, said of the first or of each of the others: on all that a root meets both hold together.
use Rattle.std.proofs.Common.{◌≡◌, ◌≢◌, ℕ, zero, suc, ◌+◌, ◌-◌, ◌*◌, ◌/◌, ◌<◌, ◌≤◌, Bool, true, false, not, List, [], ◌∷◌, map, length, inl, inr, refl, sym, ap, subst, ◌∙◌, arith, ⊎_elim, Result, Ok, Err}
use Rattle.std.specs.Prelude.{Option, Some, None, flat_map, ◌&&◌, ◌||◌, ◌==◌, nat_lt, if◌then◌else◌}
use Rattle.std.specs.List.{enumerate_from}
use Rattle.std.specs.Option.{option_map_or}
use Rattle.std.proofs.lemmas.Bool.{and_parts, and_from, or_left, or_right, cases_eq}
use Rattle.std.proofs.lemmas.Bool.Decides.{nat_tests}
use Rattle.fv_codec.specs.declared.shape.Shape.{Shape}
use Rattle.fv_codec.specs.declared.node.Node.{Node}
use Rattle.fv_codec.specs.declared.inode.InodeRecord.{InodeRecord}
use Rattle.fv_codec.specs.declared.inode.InodeBlock.{InodeBlock}
use Rattle.fv_codec.specs.Blocks.{greatest_word, node_at, inodes_at}
use Rattle.fv_laws.proofs.Lists.{In, from_map}
use Rattle.fv_tables.specs.Told.{records_each}
use Rattle.fv_tables.specs.Reached.{Item, item_of}
use Rattle.fv_tables.specs.Spelled.{hole}
use Rattle.fv_image.specs.Views.{Placed, Rooted}
use Rattle.fv_image.proofs.WellTrees.{StandsAt}
use Rattle.fv_image.proofs.WellNodes.{files_of as files_long}
use Rattle.fv_faults.specs.Walks.{root_item, Ground, used_from, files_of, child_of, children_of, file_root, files_under, pointers_under}
use Rattle.fv_faults.proofs.Plain.{Spot, place_at, plain_one, plain, no_more, files_met, met}
use Rattle.fv_faults.proofs.Members.{all_met, both_met, met_both, to_plain}
use Rattle.fv_faults.proofs.TableMembers.{top_item}
use Rattle.fv_faults.proofs.TablePositions.{trunk, foreign, small_cell}
use Rattle.fv_faults.proofs.Unknown.{none_in_data}

-- `says` of a pointer that stands, with its block, gives `heard` of each pointer in the block.
module _ (g : Ground) (says heard : Item → Bool)
    (led_below : (e : Item) (x : Placed) → e.pointer.stamp ≢ 0 → place_at g e ≡ Some x → says e ≡ true → (c : Item) → In c (pointers_under e x) → heard c ≡ true) where
  -- ---- along lists of children

  down_each : (f : Item → List Spot) (cs : List Item) → ((c : Item) → In c cs → all_met says (f c) ≡ true → heard c ≡ true → all_met heard (f c) ≡ true) → ((c : Item) → In c cs → heard c ≡ true) → all_met says (flat_map f cs) ≡ true → all_met heard (flat_map f cs) ≡ true
  down_each f [] each led all = refl
  down_each f (c ∷ cs) each led all =
      let parts = both_met says (f c) (flat_map f cs) all in
      met_both heard (f c) (flat_map f cs) (each c (inl refl) parts.0 (led c (inl refl))) (down_each f cs (λ d there. each d (inr there)) (λ d there. led d (inr there)) parts.1)

  -- ---- one pointer with what is below it

  down_one : (below : Item → Placed → List Spot) (e : Item) (block : ℕ) → ((x : Placed) → e.pointer.stamp ≢ 0 → place_at g e ≡ Some x → says e ≡ true → all_met says (below e x) ≡ true → all_met heard (below e x) ≡ true)
      → all_met says (plain_one g below e block) ≡ true → heard e ≡ true → all_met heard (plain_one g below e block) ≡ true
  down_one below e block rest all led = so (e.pointer.stamp == 0) refl (place_at g e) refl all
    where
      so : (b : Bool) → (e.pointer.stamp == 0) ≡ b → (o : Option Placed) → place_at g e ≡ o → all_met says (if b then [] else (e, block) ∷ option_map_or (below e) o []) ≡ true → all_met heard (if b then [] else (e, block) ∷ option_map_or (below e) o []) ≡ true
      so true is o found all = refl
      so false is None found all = and_from (heard e) true led refl
      so false is (Some x) found all =
          let parts = and_parts (says e) _ all in
          let some : e.pointer.stamp ≢ 0 = grind (arith, nat_tests, is) in
          and_from (heard e) _ led (rest x some found parts.0 parts.1)

  -- ---- down from what a block holds

  down_plain : (cell : Item → Placed → List Spot) → ((e : Item) (x : Placed) → e.pointer.stamp ≢ 0 → place_at g e ≡ Some x → says e ≡ true → all_met says (cell e x) ≡ true → all_met heard (cell e x) ≡ true)
      → (level : ℕ) (e : Item) (block : ℕ) → all_met says (plain g cell level e block) ≡ true → heard e ≡ true → all_met heard (plain g cell level e block) ≡ true
  unfolding plain
  down_plain cell on_cell zero e block all led = down_one cell e block (on_cell e) all led
  down_plain cell on_cell (suc k) e block all led =
      down_one (λ e x. flat_map (λ c. plain g cell k c x.pvbn) (pointers_under e x)) e block
      (λ x some found on rest. down_each (λ c. plain g cell k c x.pvbn) (pointers_under e x) (λ c there all led. down_plain cell on_cell k c x.pvbn all led) (led_below e x some found on) rest) all led

  down_files : (e : Item) (x : Placed) → e.pointer.stamp ≢ 0 → place_at g e ≡ Some x → says e ≡ true → all_met says (files_met g e x) ≡ true → all_met heard (files_met g e x) ≡ true
  down_files e x some found on rest =
      down_each (λ c. plain g no_more c.levels c x.pvbn) (pointers_under e x) (λ c there all led. down_plain no_more (λ e x some found on all. refl) c.levels c x.pvbn all led) (led_below e x some found on) rest

  pub met_down : (label : ℕ) (r : Rooted) → heard (root_item r) ≡ true → all_met says (met g label r) ≡ true → all_met heard (met g label r) ≡ true
  unfolding met
  met_down label r first all = down_plain (files_met g) down_files r.levels (root_item r) label all first

-- And `heard` of those that stand in its block gives `says` of a pointer.
module _ (g : Ground) (says heard : Item → Bool)
    (leads_from : (e : Item) (x : Placed) → e.pointer.stamp ≢ 0 → place_at g e ≡ Some x → ((c : Item) → In c (pointers_under e x) → c.pointer.stamp ≢ 0 → heard c ≡ true) → says e ≡ true)
    (alone : (e : Item) → place_at g e ≡ None → says e ≡ true) where
  standing : (e : Item) → e.pointer.stamp ≢ 0 → (e.pointer.stamp == 0) ≡ false
  standing e some = grind (arith, nat_tests, some)

  up_each : (f : Item → List Spot) (cs : List Item) → ((c : Item) → In c cs → all_met heard (f c) ≡ true → all_met says (f c) ≡ true) → all_met heard (flat_map f cs) ≡ true → all_met says (flat_map f cs) ≡ true
  up_each f [] each all = refl
  up_each f (c ∷ cs) each all =
      let parts = both_met heard (f c) (flat_map f cs) all in
      met_both says (f c) (flat_map f cs) (each c (inl refl) parts.0) (up_each f cs (λ d there. each d (inr there)) parts.1)

  part_of : (f : Item → List Spot) (cs : List Item) (test : Item → Bool) → all_met test (flat_map f cs) ≡ true → (c : Item) → In c cs → all_met test (f c) ≡ true
  part_of f [] test all c there = absurd there
  part_of f (d ∷ ds) test all c (inl is) = subst (λ e. all_met test (f e) ≡ true) is (both_met test (f d) (flat_map f ds) all).0
  part_of f (d ∷ ds) test all c (inr there) = part_of f ds test (both_met test (f d) (flat_map f ds) all).1 c there

  first_met : (below : Item → Placed → List Spot) (e : Item) (block : ℕ) (test : Item → Bool) → e.pointer.stamp ≢ 0 → all_met test (plain_one g below e block) ≡ true → (test e ≡ true) × (all_met test (option_map_or (below e) (place_at g e) []) ≡ true)
  first_met below e block test some all =
      and_parts (test e) _ (sym (ap (λ (b : Bool). all_met test (if b then [] else (e, block) ∷ option_map_or (below e) (place_at g e) [])) (standing e some)) ∙ all)

  up_one : (below : Item → Placed → List Spot) (e : Item) (block : ℕ) → ((x : Placed) → e.pointer.stamp ≢ 0 → place_at g e ≡ Some x → all_met heard (below e x) ≡ true → (says e ≡ true) × (all_met says (below e x) ≡ true))
      → all_met heard (plain_one g below e block) ≡ true → all_met says (plain_one g below e block) ≡ true
  up_one below e block rest all = so (e.pointer.stamp == 0) refl (place_at g e) refl all
    where
      so : (b : Bool) → (e.pointer.stamp == 0) ≡ b → (o : Option Placed) → place_at g e ≡ o → all_met heard (if b then [] else (e, block) ∷ option_map_or (below e) o []) ≡ true → all_met says (if b then [] else (e, block) ∷ option_map_or (below e) o []) ≡ true
      so true is o found all = refl
      so false is None found all = and_from (says e) true (alone e found) refl
      so false is (Some x) found all =
          let some : e.pointer.stamp ≢ 0 = grind (arith, nat_tests, is) in
          let both = rest x some found (and_parts (heard e) _ all).1 in
          and_from (says e) _ both.0 both.1

  -- ---- and up from what leads to a block

  first_plain : (cell : Item → Placed → List Spot) (level : ℕ) (e : Item) (block : ℕ) (test : Item → Bool) → e.pointer.stamp ≢ 0 → all_met test (plain g cell level e block) ≡ true → test e ≡ true
  unfolding plain
  first_plain cell zero e block test some all = (first_met cell e block test some all).0
  first_plain cell (suc k) e block test some all = (first_met (λ e x. flat_map (λ c. plain g cell k c x.pvbn) (pointers_under e x)) e block test some all).0

  -- the pointers of a node are a level below it, of the same tree
  child_level : (e c : Item) (x : Placed) (k : ℕ) → e.level ≡ suc k → In c (pointers_under e x) → (c.level ≡ k) × (c.owner ≡ e.owner)
  unfolding pointers_under
  child_level e c x k level there =
      let above : (e.level == 0) ≡ false = grind (arith, nat_tests, level) in
      so (node_at x.block) (subst (λ (b : Bool). In c (if b then map (file_root e) (files_under e x) else children_of e (node_at x.block))) above there)
    where
      so : (r : Result Node Shape) → In c (children_of e r) → (c.level ≡ k) × (c.owner ≡ e.owner)
      so (Err f) there = absurd there
      so (Ok n) there =
          let one = from_map (child_of e) c (enumerate_from 0 n.children) there in
          let same : c.level ≡ e.level - 1 = ap (λ (d : Item). d.level) (sym one.2) in
          (omega (arith, same, level), ap (λ (d : Item). d.owner) (sym one.2))

  -- below a node
  up_node : (cell : Item → Placed → List Spot) (k : ℕ) (e : Item) (block : ℕ) → ((c : Item) (b : ℕ) → c.level ≡ k → c.owner ≡ e.owner → all_met heard (plain g cell k c b) ≡ true → all_met says (plain g cell k c b) ≡ true) → e.level ≡ suc k
      → all_met heard (plain g cell (suc k) e block) ≡ true → all_met says (plain g cell (suc k) e block) ≡ true
  unfolding plain
  up_node cell k e block below level all =
      up_one (λ e x. flat_map (λ c. plain g cell k c x.pvbn) (pointers_under e x)) e block
      (λ x some found rest. (
        leads_from e x some found (λ c there stands. first_plain cell k c x.pvbn heard stands (part_of (λ c. plain g cell k c x.pvbn) (pointers_under e x) heard rest c there)),
        up_each (λ c. plain g cell k c x.pvbn) (pointers_under e x) (λ c there all. let is = child_level e c x k level there in below c x.pvbn is.0 is.1 all) rest,
      ))
      all

  up_data : (e : Item) (block : ℕ) → e.level ≡ 0 → e.owner ≢ greatest_word → all_met heard (plain g no_more zero e block) ≡ true → all_met says (plain g no_more zero e block) ≡ true
  unfolding plain
  up_data e block level other all =
      up_one no_more e block (λ x some found rest. (leads_from e x some found (λ c there stands. absurd (subst (In c) (none_in_data e x level other) there)), refl)) all

  up_file : (k : ℕ) (e : Item) (block : ℕ) → e.level ≡ k → e.owner ≢ greatest_word → all_met heard (plain g no_more k e block) ≡ true → all_met says (plain g no_more k e block) ≡ true
  up_file zero e block level other all = up_data e block level other all
  up_file (suc k) e block level other all = up_node no_more k e block (λ c b low same all. up_file k c b low (λ wrong. other (sym same ∙ wrong)) all) level all

  -- what stands in an inode block: a file's root is at the top of its tree
  root_level : (e c : Item) (x : Placed) → e.level ≡ 0 → In c (pointers_under e x) → c.level ≡ c.levels
  unfolding pointers_under
  root_level e c x level there =
      let low : (e.level == 0) ≡ true = grind (arith, nat_tests, level) in
      let one = from_map (file_root e) c (files_under e x) (subst (λ (b : Bool). In c (if b then map (file_root e) (files_under e x) else children_of e (node_at x.block))) low there) in
      ap (λ (d : Item). d.level) (sym one.2) ∙ ap (λ (d : Item). d.levels) one.2

  up_files : (e : Item) (x : Placed) → e.level ≡ 0 → ((c : Item) → In c (pointers_under e x) → c.owner ≢ greatest_word) → all_met heard (files_met g e x) ≡ true
      → ((c : Item) → In c (pointers_under e x) → c.pointer.stamp ≢ 0 → heard c ≡ true) × (all_met says (files_met g e x) ≡ true)
  up_files e x level other rest = (
    (λ c there stands. first_plain no_more c.levels c x.pvbn heard stands (part_of (λ c. plain g no_more c.levels c x.pvbn) (pointers_under e x) heard rest c there)),
    up_each (λ c. plain g no_more c.levels c x.pvbn) (pointers_under e x) (λ c there all. up_file c.levels c x.pvbn (root_level e c x level there) (other c there) all) rest,
  )

  -- the files of an inode block have numbers below 262,144, where its place is one of a table's
  used_below : (n a : ℕ) (f : InodeRecord) (rs : List InodeRecord) → In (n, f) (used_from a rs) → n < a + length rs
  unfolding used_from
  used_below n a f [] there = absurd there
  used_below n a f (q ∷ rs) there = so (λ there. used_below n (a + 1) f rs there) (q.name_length == 0) there
    where
      so : (In (n, f) (used_from (a + 1) rs) → n < a + 1 + length rs) → (b : Bool) → In (n, f) (if b then used_from (a + 1) rs else (a, q) ∷ used_from (a + 1) rs) → n < a + length (q ∷ rs)
      so rest true there = let low = rest there in omega (arith, low)
      so rest false (inl is) = let same : a ≡ n = ap (λ (p : ℕ × InodeRecord). p.0) is in omega (arith, same)
      so rest false (inr later) = let low = rest later in omega (arith, low)

  file_owner : (e c : Item) (x : Placed) → e.level ≡ 0 → e.place < 16384 → In c (pointers_under e x) → c.owner ≢ greatest_word
  unfolding pointers_under files_under
  file_owner e c x level small there wrong =
      let low : (e.level == 0) ≡ true = grind (arith, nat_tests, level) in
      let one = from_map (file_root e) c (files_under e x) (subst (λ (b : Bool). In c (if b then map (file_root e) (files_under e x) else children_of e (node_at x.block))) low there) in
      let number = numbered ((e.level == 0) && (e.owner == greatest_word)) (inodes_at x.block) refl one.0 one.1 in
      let same : c.owner ≡ one.0.0 = ap (λ (d : Item). d.owner) (sym one.2) in
      absurd (omega (arith, number, same, wrong))
    where
      numbered : (b : Bool) (r : Result InodeBlock Shape) → inodes_at x.block ≡ r → (f : ℕ × InodeRecord) → In f (if b then files_of e.place (inodes_at x.block) else []) → f.0 < 262144
      numbered false r is f there = absurd there
      numbered true (Err fault) is f there = absurd (subst (λ (r : Result InodeBlock Shape). In f (files_of e.place r)) is there)
      numbered true (Ok b) is f there =
          let low = used_below f.0 (records_each * e.place) f.1 b.files (subst (λ (r : Result InodeBlock Shape). In f (files_of e.place r)) is there) in
          let long = files_long x.block b is in
          omega (arith, low, long, small)

  -- a cell of the inode file has one of the places of a table
  abbrev is_small : Item → Bool
  is_small e = not (e.level == 0) || (not (e.owner == greatest_word) || nat_lt e.place 16384)

  -- the inode file's tree
  up_cell : (e : Item) (block : ℕ) → e.level ≡ 0 → e.owner ≡ greatest_word → all_met is_small (plain g (files_met g) zero e block) ≡ true → all_met heard (plain g (files_met g) zero e block) ≡ true → all_met says (plain g (files_met g) zero e block) ≡ true
  unfolding plain
  up_cell e block level owner small all =
      up_one (files_met g) e block (λ x some found rest.
      let test = first_plain (files_met g) zero e block is_small some small in
      let low : (e.level == 0) ≡ true = grind (arith, nat_tests, level) in
      let trunk_is : (e.owner == greatest_word) ≡ true = grind (arith, nat_tests, owner) in
      let near : nat_lt e.place 16384 ≡ true = sym (λ i. not (low i) || (not (trunk_is i) || nat_lt e.place 16384)) ∙ test in
      let fits : e.place < 16384 = grind (arith, nat_tests, near) in
      let both = up_files e x level (λ c there. file_owner e c x level fits there) rest in
      (leads_from e x some found both.0, both.1)) all

  up_trunk : (k : ℕ) (e : Item) (block : ℕ) → e.level ≡ k → e.owner ≡ greatest_word → all_met is_small (plain g (files_met g) k e block) ≡ true → all_met heard (plain g (files_met g) k e block) ≡ true → all_met says (plain g (files_met g) k e block) ≡ true
  unfolding plain
  up_trunk zero e block level owner small all = up_cell e block level owner small all
  up_trunk (suc k) e block level owner small all =
      up_one (λ e x. flat_map (λ c. plain g (files_met g) k c x.pvbn) (pointers_under e x)) e block
      (λ x some found rest.
      let inner : all_met is_small (flat_map (λ c. plain g (files_met g) k c x.pvbn) (pointers_under e x)) ≡ true =
      sym (ap (λ (o : Option Placed). all_met is_small (option_map_or (λ x. flat_map (λ c. plain g (files_met g) k c x.pvbn) (pointers_under e x)) o [])) found)
      ∙ (first_met (λ e x. flat_map (λ c. plain g (files_met g) k c x.pvbn) (pointers_under e x)) e block is_small some small).1 in (
        leads_from e x some found (λ c there stands. first_plain (files_met g) k c x.pvbn heard stands (part_of (λ c. plain g (files_met g) k c x.pvbn) (pointers_under e x) heard rest c there)),
        up_each (λ c. plain g (files_met g) k c x.pvbn) (pointers_under e x)
            (λ c there all. let is = child_level e c x k level there in up_trunk k c x.pvbn is.0 (is.1 ∙ owner) (part_of (λ c. plain g (files_met g) k c x.pvbn) (pointers_under e x) is_small inner c there) all) rest,
      ))
      all

  all_small : (label : ℕ) (r : Rooted) → r.levels ≤ 2 → all_met is_small (met g label r) ≡ true
  unfolding met
  all_small label r fits =
      subst (λ e. all_met is_small (plain g (files_met g) r.levels e label) ≡ true) (top_item (trunk g r fits) hole)
      (to_plain is_small g (files_met g) greatest_word r.levels r.root hole r.levels 0 label (omega arith) (record {
        positions = λ l p le at some. ⊎_elim
            (λ (low : l ≡ 0). or_right (not (l == 0)) _ (or_right (not (greatest_word == greatest_word)) _ (let near = small_cell g r fits p (subst (λ n. StandsAt (trunk g r fits) n p) low some) in let test : nat_lt p 16384 ≡ true = grind (arith, nat_tests, near) in test)))
            (λ (high : l ≢ 0). or_left (not (l == 0)) _ (let test : (l == 0) ≡ false = grind (arith, nat_tests, high) in ap not test))
            (cases_eq l 0);
        cells = λ p x at some found. files_small p (files_met g (item_of hole (trunk g r fits) 0 p) x) ((foreign g r fits).told p x some found);
      }))
    where
      files_small : (p : ℕ) (ps : List Spot) → all_met (λ e. not (e.owner == greatest_word) && (e.owner / 16 == p)) ps ≡ true → all_met is_small ps ≡ true
      files_small p [] all = refl
      files_small p (q ∷ ps) all =
          let parts = and_parts (not (q.0.owner == greatest_word) && (q.0.owner / 16 == p)) _ all in
          and_from (is_small q.0) _ (or_right (not (q.0.level == 0)) _ (or_left (not (q.0.owner == greatest_word)) _ (and_parts (not (q.0.owner == greatest_word)) _ parts.0).0)) (files_small p ps parts.1)

  pub met_up : (label : ℕ) (r : Rooted) → r.levels ≤ 2 → all_met heard (met g label r) ≡ true → all_met says (met g label r) ≡ true
  unfolding met
  met_up label r fits all = up_trunk r.levels (root_item r) label refl refl (all_small label r fits) all
