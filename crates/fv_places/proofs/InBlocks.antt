-- Each pointer of a table stands in the block that its holder leads to, at the index of its position.
use Rattle.std.proofs.Common.{◌≡◌, ◌≢◌, ℕ, ◌+◌, ◌/◌, ◌%◌, ◌<◌, ◌≤◌, Bool, true, false, not, List, [], map, refl, sym, ap, ◌∙◌, arith, ⊎_elim, get_or}
use Rattle.std.specs.Prelude.{Option, Some, None, ◌==◌, ◌||◌, nat_lt, if◌then◌else◌}
use Rattle.std.specs.List.{list_all}
use Rattle.std.specs.Option.{option_map, option_map_or}
use Rattle.std.proofs.lemmas.Bool.{cases_eq, cases_lt}
use Rattle.std.proofs.lemmas.Bool.Decides.{nat_tests}
use Rattle.fv_codec.specs.declared.pointer.Pointer.{Pointer}
use Rattle.fv_codec.specs.declared.inode.InodeRecord.{InodeRecord}
use Rattle.fv_codec.specs.Blocks.{greatest_word}
use Rattle.fv_model.specs.Trees.{fan}
use Rattle.fv_tables.specs.Spelled.{Rooted as Tree, stored, hole, pointers_in, pointers_at, pointer_at}
use Rattle.fv_tables.specs.Told.{Standing, file_at, records_each, records_in}
use Rattle.fv_tables.specs.Reached.{Item, items, item_of}
use Rattle.fv_tables.proofs.Items.{from_trees}
use Rattle.fv_image.specs.Views.{Placed, Rooted, View, kind_at}
use Rattle.fv_image.specs.BlockRules.{agree}
use Rattle.fv_image.specs.HintRules.{is_in_label}
use Rattle.fv_image.specs.Chains.{place, under}
use Rattle.fv_image.specs.Volumes.{standing_of}
use Rattle.fv_image.specs.Moves.{FitsRoot}
use Rattle.fv_image.proofs.WellTrees.{in_node}
use Rattle.fv_places.specs.Inside.{pointers_inside, pointers_under, index_at}
use Rattle.fv_places.proofs.Descents.{over_stands, top_is, record_at}
use Rattle.fv_places.proofs.Fitting.{node_inside, inode_inside, root_got, no_leaf, inode_kind, file_node}

-- ---- the block under a VVBN, by its kind

module _ (w : View) (s : ℕ) where
  -- what stands in a node
  under_node : (v : ℕ) → kind_at (place w s v) ≢ 1 → kind_at (place w s v) ≢ 5 → pointers_under w s v ≡ pointers_in (under w s v)
  unfolding under
  under_node v one five = so (place w s v) one five
    where
      so : (o : Option Placed) → kind_at o ≢ 1 → kind_at o ≢ 5
          → option_map_or pointers_inside o [] ≡ pointers_in (option_map (λ (z : Placed). z.block) o)
      so None one five = refl
      so (Some z) one five = node_inside z one five

  -- and in an inode block
  under_inodes : (v : ℕ) → kind_at (place w s v) ≡ 5 → pointers_under w s v ≡ map (λ (r : InodeRecord). r.root) (records_in (under w s v))
  unfolding under records_in
  under_inodes v five = so (place w s v) five
    where
      so : (o : Option Placed) → kind_at o ≡ 5
          → option_map_or pointers_inside o [] ≡ map (λ (r : InodeRecord). r.root) (records_in (option_map (λ (z : Placed). z.block) o))
      so None five = refl
      so (Some z) five = inode_inside z five

-- ---- a test of pointers, of each and of what stands at its index under v

module _ (w : View) (s v : ℕ) (r : Rooted) (fits : FitsRoot w s r) (test : Pointer → Bool) where
  abbrev x : Standing
  x = standing_of w s r

  abbrev inside : Item → Pointer
  inside e = get_or (pointers_under w s v) (index_at (place w s v) e) hole

  abbrev pub stands_inside : Item → Bool
  stands_inside e = is_in_label e || (not (e.holder.vvbn == v) || agree (test e.pointer) (test (inside e)))

  -- where the pointer is the one at its index
  same_inside : (e : Item) → (e.holder.stamp ≢ 0 → e.holder.vvbn ≡ v → e.pointer ≡ inside e) → stands_inside e ≡ true
  same_inside e is = ⊎_elim
      (λ (label : e.holder.stamp ≡ 0). let a : (e.holder.stamp == 0) ≡ true = grind (arith, nat_tests) in
      λ i. a i || (not (e.holder.vvbn == v) || agree (test e.pointer) (test (inside e))))
      (λ (some : e.holder.stamp ≢ 0). ⊎_elim
      (λ (at : e.holder.vvbn ≡ v). (λ i. is_in_label e || (not (e.holder.vvbn == v) || agree (test (is some at i)) (test (inside e))))
      ∙ last (is_in_label e) (not (e.holder.vvbn == v)) (test (inside e)))
      (λ other. let a : (e.holder.vvbn == v) ≡ false = grind (arith, nat_tests) in
      (λ i. is_in_label e || (not (a i) || agree (test e.pointer) (test (inside e)))) ∙ first (is_in_label e))
      (cases_eq e.holder.vvbn v))
      (cases_eq e.holder.stamp 0)
    where
      first : (b : Bool) → (b || true) ≡ true
      first true = refl
      first false = refl

      last : (b c d : Bool) → (b || (c || agree d d)) ≡ true
      last true c d = refl
      last false true d = refl
      last false false true = refl
      last false false false = refl

  -- ---- a tree

  -- a pointer below the top stands in the node over it
  in_tree : (owner lv : ℕ) (root : Pointer) (level p : ℕ) → level < lv → (pointer_at (stored (under w s) owner lv root) level p).stamp ≢ 0
      → (pointer_at (stored (under w s) owner lv root) (level + 1) (p / fan)).vvbn ≡ v → kind_at (place w s v) ≢ 1
      → kind_at (place w s v) ≢ 5
      → pointer_at (stored (under w s) owner lv root) level p ≡ inside (item_of hole (stored (under w s) owner lv root) level p)
  unfolding pointers_at
  in_tree owner lv root level p low some at one five =
      let t : Tree = stored (under w s) owner lv root in
      let h : Pointer = pointer_at t (level + 1) (p / fan) in
      let stands : h.stamp ≢ 0 = over_stands t level p low some in
      let test : (h.stamp == 0) ≡ false = grind (arith, nat_tests) in
      let node : (kind_at (place w s v) == 5) ≡ false = grind (arith, nat_tests) in
      in_node t level p low
      ∙ ap (λ (b : Bool). get_or (if b then [] else pointers_in (under w s h.vvbn)) (p % fan) hole) test
      ∙ ap (λ (n : ℕ). get_or (pointers_in (under w s n)) (p % fan) hole) at
      ∙ ap (λ (ps : List Pointer). get_or ps (p % fan) hole) (sym (under_node w s v one five))
      ∙ sym (ap (λ (b : Bool). get_or (pointers_under w s v) (if b then owner % records_each else p % fan) hole) node)

  -- the kind of what is led to
  kind_here : (n : ℕ) → n ≡ v → kind_at (place w s n) ≡ kind_at (place w s v)
  kind_here n at = ap (λ (k : ℕ). kind_at (place w s k)) at

  -- of the inode file
  inode_inside_it : (level p : ℕ) → (pointer_at x.inode level p).stamp ≢ 0 → stands_inside (item_of hole x.inode level p) ≡ true
  inode_inside_it level p some = same_inside (item_of hole x.inode level p) (λ stands at. ⊎_elim
      (λ (low : level < r.levels).
      let here : nat_lt level r.levels ≡ true = grind (arith, nat_tests) in
      let h : Pointer = pointer_at x.inode (level + 1) (p / fan) in
      let over = over_stands x.inode level p low some in
      let same : h.vvbn ≡ v = sym (λ i. (if here i then h else hole).vvbn) ∙ at in
      let kinds = no_leaf (level + 1) (kind_at (place w s v)) (omega arith)
      (sym (kind_here h.vvbn same) ∙ inode_kind w s r fits (level + 1) (p / fan) over) in
      in_tree greatest_word r.levels r.root level p low some same kinds.0 kinds.1)
      (λ (high : r.levels ≤ level). let past : nat_lt level r.levels ≡ false = grind (arith, nat_tests) in
      absurd (stands (λ i. (if past i then pointer_at x.inode (level + 1) (p / fan) else hole).stamp)))
      (cases_lt level r.levels))

  -- and of a file, whose root stands in an inode block
  file_inside_it : (k : ℕ) (f : InodeRecord) → file_at x.inode k ≡ Some f → (level p : ℕ)
      → (pointer_at (stored (under w s) k f.levels f.root) level p).stamp ≢ 0
      → stands_inside (item_of (pointer_at x.inode 0 (k / records_each)) (stored (under w s) k f.levels f.root) level p) ≡ true
  file_inside_it k f is level p some =
      let t : Tree = stored (under w s) k f.levels f.root in
      let top : Pointer = pointer_at x.inode 0 (k / records_each) in
      same_inside (item_of top t level p) (λ stands at. ⊎_elim
      (λ (low : level < f.levels).
      let here : nat_lt level f.levels ≡ true = grind (arith, nat_tests) in
      let h : Pointer = pointer_at t (level + 1) (p / fan) in
      let over = over_stands t level p low some in
      let same : h.vvbn ≡ v = sym (λ i. (if here i then h else top).vvbn) ∙ at in
      let kinds = file_node w s r fits k f is (level + 1) (p / fan) (omega arith) over in
      in_tree k f.levels f.root level p low some same (λ e. kinds.0 (kind_here h.vvbn same ∙ e))
      (λ e. kinds.1 (kind_here h.vvbn same ∙ e)))
      (λ (high : f.levels ≤ level).
      let past : nat_lt level f.levels ≡ false = grind (arith, nat_tests) in
      let same : top.vvbn ≡ v = sym (λ i. (if past i then pointer_at t (level + 1) (p / fan) else top).vvbn) ∙ at in
      let record_is = record_at (under w s) r.levels r.root k f is in
      let five : kind_at (place w s v) ≡ 5 = sym (kind_here top.vvbn same) ∙ inode_kind w s r fits 0 (k / records_each) record_is.0 in
      let block : (kind_at (place w s v) == 5) ≡ true = grind (arith, nat_tests) in
      top_is t level p high some ∙ ap (λ (z : InodeRecord). z.root) record_is.1
      ∙ root_got (records_in (under w s top.vvbn)) (k % records_each)
      ∙ ap (λ (n : ℕ). get_or (map (λ (r : InodeRecord). r.root) (records_in (under w s n))) (k % records_each) hole) same
      ∙ ap (λ (ps : List Pointer). get_or ps (k % records_each) hole) (sym (under_inodes w s v five))
      ∙ sym (ap (λ (b : Bool). get_or (pointers_under w s v) (if b then k % records_each else p % fan) hole) block))
      (cases_lt level f.levels))

  -- The test says of each pointer that stands under v what it says of the one at its index there.
  pub all_inside : list_all stands_inside (items x) ≡ true
  all_inside = from_trees stands_inside x inode_inside_it file_inside_it
