-- Why the cleaner may move a block: a block that holds an unknown pointer is led to by unknown ones alone, in each tree of a table.
use Rattle.std.proofs.Common.{◌≡◌, ◌≢◌, ℕ, zero, suc, ◌+◌, ◌*◌, ◌/◌, ◌%◌, ◌<◌, ◌≤◌, Bool, true, false, List, [], ◌∷◌, map, length, get_or, Option, Some, None, refl, sym, ap, subst, ◌∙◌, arith, ⊎_elim}
use Rattle.std.specs.Prelude.{not, ◌&&◌, ◌||◌, ◌==◌, if◌then◌else◌, min}
use Rattle.std.specs.List.{list_any}
use Rattle.std.proofs.lemmas.Bool.{cases_eq}
use Rattle.std.proofs.lemmas.Bool.Decides.{nat_tests}
use Rattle.fv_codec.specs.declared.pointer.Pointer.{Pointer}
use Rattle.fv_codec.specs.declared.inode.InodeRecord.{InodeRecord}
use Rattle.fv_codec.specs.Blocks.{greatest_word}
use Rattle.fv_model.specs.Trees.{fan}
use Rattle.fv_tables.specs.Spelled.{Under, Rooted, stored, hole, pointers_in, pointers_at, pointer_at, block_at, block_or}
use Rattle.fv_tables.specs.Told.{records_in}
use Rattle.fv_tree.specs.Beside.{unread}
use Rattle.fv_tree.specs.Flushing.{kind_for}
use Rattle.fv_tree.specs.Unknown.{LeadsUnknown}
use Rattle.fv_image.specs.HintRules.{is_unknown}
use Rattle.fv_image.proofs.WellTrees.{in_node}
use Rattle.fv_places.specs.ByKind.{form_of, pointers_by}
use Rattle.fv_places.proofs.Descents.{within}
use Rattle.fv_cleaner.proofs.Searched.{few_pointers}

-- ---- unknown pointers

some_by : (p : Pointer) (ps : List Pointer) (b : Bool) → is_unknown p ≡ b
    → (list_any is_unknown ps ≡ true → (i : ℕ) × ((i < length ps) × (is_unknown (get_or ps i hole) ≡ true)))
    → (b || list_any is_unknown ps) ≡ true → (i : ℕ) × ((i < suc (length ps)) × (is_unknown (get_or (p ∷ ps) i hole) ≡ true))
some_by p ps true is rest any = (0, (omega arith, is))
some_by p ps false is rest any = let r = rest any in (suc r.0, (omega (arith, r.1.0), r.1.1))

-- where one of a list is unknown it stands at an index
some_at : (ps : List Pointer) → list_any is_unknown ps ≡ true → (i : ℕ) × ((i < length ps) × (is_unknown (get_or ps i hole) ≡ true))
some_at [] any = absurd cc
some_at (p ∷ ps) any = some_by p ps (is_unknown p) refl (λ rest. some_at ps rest) any

-- an unknown pointer stands and has no place
pub pointer_unknown : (p : Pointer) → is_unknown p ≡ true → (p.stamp ≢ 0) × (p.pvbn ≡ 0)
pointer_unknown p unknown = (
  λ none. let a : (p.stamp == 0) ≡ true = grind (arith, nat_tests) in wrong (sym (λ i. not (a i) && (p.pvbn == 0)) ∙ unknown),
  let zero : (p.pvbn == 0) ≡ true = right (not (p.stamp == 0)) (p.pvbn == 0) unknown in grind (arith, nat_tests),
)
  where
    wrong : false ≡ true → ⊥
    wrong e = cc

    right : (a b : Bool) → (a && b) ≡ true → b ≡ true
    right true b e = e
    right false b e = absurd cc

any_roots : (rs : List InodeRecord) → list_any is_unknown (map (λ (r : InodeRecord). r.root) rs) ≡ list_any (λ (r : InodeRecord). is_unknown r.root) rs
any_roots [] = refl
any_roots (r ∷ rs) = ap (λ (b : Bool). is_unknown r.root || b) (any_roots rs)

-- ---- a tree

-- under a pointer to a node stand the pointers of its block
pub child_at : (blocks : Under) (owner lv : ℕ) (root : Pointer) (level p i : ℕ) (block : List ℕ) → i < fan → (pointer_at (stored blocks owner lv root) (suc level) p).stamp ≢ 0 → suc level ≤ lv
    → blocks (pointer_at (stored blocks owner lv root) (suc level) p).vvbn ≡ Some block → pointer_at (stored blocks owner lv root) level (fan * p + i) ≡ get_or (pointers_in (Some block)) i hole
unfolding pointers_at
child_at blocks owner lv root level p i block small some low there =
    let one : (fan * p + i) / fan ≡ p = omega (arith, small) in
    let two : (fan * p + i) % fan ≡ i = omega (arith, small) in
    let up : level + 1 ≡ suc level = omega arith in
    let test : ((pointer_at (stored blocks owner lv root) (suc level) p).stamp == 0) ≡ false = grind (arith, nat_tests) in
    in_node (stored blocks owner lv root) level (fan * p + i) (omega (arith, low))
    ∙ (λ k. get_or (pointers_at (stored blocks owner lv root) (up k) (one k) (pointer_at (stored blocks owner lv root) (up k) (one k))) (two k) hole)
    ∙ ap (λ (b : Bool). get_or (if b then [] else pointers_in (blocks (pointer_at (stored blocks owner lv root) (suc level) p).vvbn)) i hole) test
    ∙ ap (λ (o : Option (List ℕ)). get_or (pointers_in o) i hole) there

module _ (blocks : Under) (owner lv : ℕ) (root : Pointer) (leads : LeadsUnknown (unread (stored blocks owner lv root))) where
  abbrev t : Rooted
  t = stored blocks owner lv root

  node_rule : (level p : ℕ) (block : List ℕ) → (pointer_at t (suc level) p).stamp ≢ 0 → suc level ≤ lv → blocks (pointer_at t (suc level) p).vvbn ≡ Some block
      → length (pointers_in (Some block)) ≤ fan → list_any is_unknown (pointers_in (Some block)) ≡ true → (pointer_at t (suc level) p).pvbn ≡ 0
  node_rule level p block some low there few any =
      let r = some_at (pointers_in (Some block)) any in
      let small : r.0 < fan = omega (arith, few, r.1.0) in
      let child = child_at blocks owner lv root level p r.0 block small some low there in
      let is = pointer_unknown (pointer_at t level (fan * p + r.0)) (ap is_unknown child ∙ r.1.1) in
      let one : p ≡ (fan * p + r.0) / fan = omega (arith, small) in
      let up : suc level ≡ level + 1 = omega arith in
      (λ k. (pointer_at t (up k) (one k)).pvbn) ∙ leads.nodes level (fan * p + r.0) is.0 is.1 (omega (arith, low)) refl

  inode_rule : owner ≡ greatest_word → (p : ℕ) (block : List ℕ) → (pointer_at t 0 p).stamp ≢ 0 → blocks (pointer_at t 0 p).vvbn ≡ Some block
      → list_any is_unknown (map (λ (r : InodeRecord). r.root) (records_in (Some block))) ≡ true → (pointer_at t 0 p).pvbn ≡ 0
  unfolding block_at
  inode_rule same p block some there any =
      let test : ((pointer_at t 0 p).stamp == 0) ≡ false = grind (arith, nat_tests) in
      let holds : block_at t p ≡ Some block =
      ap (λ (b : Bool). if b then None else block_or None (blocks (pointer_at t 0 p).vvbn)) test ∙ there in
      let inode : (owner == greatest_word) ≡ true = grind (arith, nat_tests, same) in
      leads.roots p block some refl holds (λ i. inode i && (sym (any_roots (records_in (Some block))) ∙ any) i)

  -- A block that holds an unknown pointer by the kind of its level is led to by an unknown one.
  pub led_unknown : (level p : ℕ) (block : List ℕ) → (owner ≡ greatest_word → lv ≤ 2) → (owner ≢ greatest_word → lv ≤ 3)
      → (pointer_at t level p).stamp ≢ 0 → blocks (pointer_at t level p).vvbn ≡ Some block
      → list_any is_unknown (pointers_by (form_of (kind_for owner level)) block) ≡ true → (pointer_at t level p).pvbn ≡ 0
  led_unknown level p block low-inode low-file some there any = ⊎_elim
      (λ (same : owner ≡ greatest_word).
      let test : (owner == greatest_word) ≡ true = grind (arith, nat_tests, same) in
      let kind : kind_for owner level ≡ 5 + min level 2 = ap (λ (b : Bool). if b then 5 + min level 2 else 1 + level) test in
      inode_file same level p some (omega (arith, within t level p some, low-inode same)) (within t level p some) there
      (subst (λ (k : ℕ). list_any is_unknown (pointers_by (form_of k) block) ≡ true) kind any))
      (λ (other : owner ≢ greatest_word).
      let test : (owner == greatest_word) ≡ false = grind (arith, nat_tests, other) in
      let kind : kind_for owner level ≡ 1 + level = ap (λ (b : Bool). if b then 5 + min level 2 else 1 + level) test in
      of_file level p some (omega (arith, within t level p some, low-file other)) (within t level p some) there
      (subst (λ (k : ℕ). list_any is_unknown (pointers_by (form_of k) block) ≡ true) kind any))
      (cases_eq owner greatest_word)
    where
      few : length (pointers_in (Some block)) ≤ fan
      few = few_pointers (form_of 2) block

      inode_file : owner ≡ greatest_word → (level p : ℕ) → (pointer_at t level p).stamp ≢ 0 → level ≤ 2 → level ≤ lv → blocks (pointer_at t level p).vvbn ≡ Some block
          → list_any is_unknown (pointers_by (form_of (5 + min level 2)) block) ≡ true → (pointer_at t level p).pvbn ≡ 0
      inode_file same zero p some low in-tree there any = inode_rule same p block some there any
      inode_file same (suc zero) p some low in-tree there any = node_rule 0 p block some in-tree there few any
      inode_file same (suc (suc zero)) p some low in-tree there any = node_rule 1 p block some in-tree there few any
      inode_file same (suc (suc (suc n))) p some low in-tree there any = absurd (omega (arith, low))

      of_file : (level p : ℕ) → (pointer_at t level p).stamp ≢ 0 → level ≤ 3 → level ≤ lv → blocks (pointer_at t level p).vvbn ≡ Some block
          → list_any is_unknown (pointers_by (form_of (1 + level)) block) ≡ true → (pointer_at t level p).pvbn ≡ 0
      of_file zero p some low in-tree there any = absurd cc
      of_file (suc zero) p some low in-tree there any = node_rule 0 p block some in-tree there few any
      of_file (suc (suc zero)) p some low in-tree there any = node_rule 1 p block some in-tree there few any
      of_file (suc (suc (suc zero))) p some low in-tree there any = node_rule 2 p block some in-tree there few any
      of_file (suc (suc (suc (suc n)))) p some low in-tree there any = absurd (omega (arith, low))
