-- Unknown pointers of a table of which nothing is in memory, and the pointers to the blocks in which they stand: soundness asks of each
-- pointer by its holder what is said of each tree.
--
-- An example: the record of file 3 has an unknown root. Then the pointer to the inode block with that record is unknown, too.
use Rattle.std.proofs.Common.{◌≡◌, ◌≢◌, ◌⊎◌, ℕ, zero, suc, ◌+◌, ◌*◌, ◌/◌, ◌%◌, ◌<◌, ◌≤◌, Bool, true, false, not, ◌&&◌, ◌||◌, List, [], ◌∷◌, Option, Some, None, inl, inr, get_or, refl, sym, ap, subst, ◌∙◌, arith}
use Rattle.std.specs.Prelude.{nat_lt, ◌==◌, if◌then◌else◌}
use Rattle.std.specs.List.{list_all, list_any}
use Rattle.std.specs.Option.{option_map_or}
use Rattle.std.proofs.lemmas.Bool.{cases_eq, cases_lt, or_right}
use Rattle.std.proofs.lemmas.Bool.Decides.{nat_tests}
use Rattle.fv_codec.specs.declared.inode.InodeRecord.{InodeRecord}
use Rattle.fv_codec.specs.declared.pointer.Pointer.{Pointer}
use Rattle.fv_codec.specs.Blocks.{greatest_word}
use Rattle.fv_model.specs.Trees.{fan}
use Rattle.fv_tables.specs.Reached.{Item, holder_of, item_of, items}
use Rattle.fv_tables.specs.Spelled.{Rooted as Tree, Under, block_at, hole, pointer_at, stored}
use Rattle.fv_tables.specs.Told.{Standing, file_at, free_record, records_each, records_in, standing_at, used_record}
use Rattle.fv_tables.proofs.Items.{at_file, at_inode}
use Rattle.fv_tables.proofs.TablePlaces.{small_number}
use Rattle.fv_tree.specs.Beside.{unread}
use Rattle.fv_tree.specs.Flushing.{has_unknown_root}
use Rattle.fv_tree.specs.Unknown.{LeadsUnknown}
use Rattle.fv_tree.proofs.Ways.{own_way, reached_within, top_is_first, under_none}
use Rattle.fv_inode.proofs.Slots.{file_is}
use Rattle.fv_files.proofs.Roots.{block_roots}
use Rattle.fv_image.specs.HintRules.{is_in_label, is_unknown}

-- ---- tests

not_both : false ≡ true → ⊥
not_both e = cc

-- what one of a list passes, some one does
any_one : {X : Type 0} (test : X → Bool) (xs : List X) (k : ℕ) (d : X) → test d ≡ false → test (get_or xs k d) ≡ true → list_any test xs ≡ true
any_one test [] k d none is = absurd (not_both (sym none ∙ is))
any_one test (x ∷ xs) zero d none is = ap (λ b. b || list_any test xs) is
any_one test (x ∷ xs) (suc k) d none is = or_right (test x) (list_any test xs) (any_one test xs k d none is)

pub seems_unknown : (p : Pointer) → p.stamp ≢ 0 → p.pvbn ≡ 0 → is_unknown p ≡ true
seems_unknown p some none =
    let there : (p.stamp == 0) ≡ false = grind (arith, nat_tests, some) in
    let zero_is : (p.pvbn == 0) ≡ true = grind (arith, nat_tests, none) in
    λ i. not (there i) && zero_is i

-- ---- a pointer and its holder

-- an unknown pointer stands in the label, or what leads to its block is unknown
abbrev pub is_led : Item → Bool
is_led e = not (is_unknown e.pointer) || (is_in_label e || (e.holder.pvbn == 0))

abbrev pub IsHeldUnknown : Pointer → Type 0
IsHeldUnknown holder = (holder.stamp ≡ 0) ⊎ (holder.pvbn ≡ 0)

holder_unknown : (e : Item) → is_led e ≡ true → e.pointer.stamp ≢ 0 → e.pointer.pvbn ≡ 0 → e.holder.stamp ≢ 0 → e.holder.pvbn ≡ 0
holder_unknown e test some none held =
    let there : (e.holder.stamp == 0) ≡ false = grind (arith, nat_tests, held) in
    let is : (e.holder.pvbn == 0) ≡ true = sym (λ i. not (seems_unknown e.pointer some none i) || (there i || (e.holder.pvbn == 0))) ∙ test in
    grind (arith, nat_tests, is)

module _ (top : Pointer) (t : Tree) where
  -- under the root a pointer stands in a node
  in_node : (level place : ℕ) → level < t.levels → holder_of top t level place ≡ pointer_at t (level + 1) (place / fan)
  in_node level place low = let test : nat_lt level t.levels ≡ true = grind (arith, nat_tests, low) in ap (λ (b : Bool). if b then pointer_at t (level + 1) (place / fan) else top) test

  -- and the root stands where its holder has it
  over_root : (level place : ℕ) → t.levels ≤ level → holder_of top t level place ≡ top
  over_root level place high = let test : nat_lt level t.levels ≡ false = grind (arith, nat_tests, high) in ap (λ (b : Bool). if b then pointer_at t (level + 1) (place / fan) else top) test

  -- what is asked by holders is said of its nodes,
  nodes_led : ((level place : ℕ) → (pointer_at t level place).stamp ≢ 0 → is_led (item_of top t level place) ≡ true) → (level place : ℕ) → (pointer_at t level place).stamp ≢ 0 → (pointer_at t level place).pvbn ≡ 0 → level < t.levels
      → (pointer_at t (level + 1) (place / fan)).pvbn ≡ 0
  nodes_led each level place some none low =
      let at = in_node level place low in
      ap (λ (p : Pointer). p.pvbn) (sym at)
      ∙ holder_unknown (item_of top t level place) (each level place some) some none (λ e. some (under_none t level place low (ap (λ (p : Pointer). p.stamp) (sym at) ∙ e)))

  -- and what is said of its nodes is asked, where the root's holder is as it has to be
  pub held_unknown : LeadsUnknown (unread t) → (t.root.stamp ≢ 0 → t.root.pvbn ≡ 0 → IsHeldUnknown top) → (level place : ℕ) → (pointer_at t level place).stamp ≢ 0 → (pointer_at t level place).pvbn ≡ 0 → IsHeldUnknown (holder_of top t level place)
  held_unknown leads root level place some none = elim (cases_lt level t.levels) [
    | inl low ↦ inr (ap (λ (p : Pointer). p.pvbn) (in_node level place low) ∙ leads.nodes level place some none low refl)
    | inr high ↦
        let within = reached_within t level place some in
        let same : level ≡ t.levels = omega (arith, high, within) in
        let first : place ≡ 0 = top_is_first t place (subst (λ (l : ℕ). (pointer_at t l place).stamp ≢ 0) same some) in
        let is : pointer_at t level place ≡ t.root = (λ i. pointer_at t (same i) (first i)) ∙ (own_way t).top 0 in
        subst IsHeldUnknown (sym (over_root level place high)) (root (λ e. some (ap (λ (p : Pointer). p.stamp) is ∙ e)) (ap (λ (p : Pointer). p.pvbn) (sym is) ∙ none))
  ]

-- ---- a table

module _ (blocks : Under) (levels : ℕ) (root : Pointer) where
  abbrev x : Standing
  x = standing_at blocks levels root

  abbrev inodes : Tree
  inodes = stored blocks greatest_word levels root

  abbrev tree : ℕ → InodeRecord → Tree
  tree n r = stored blocks n r.levels r.root

  -- the pointer to the inode block with the record of a file
  abbrev pub top_of : ℕ → Pointer
  top_of n = pointer_at inodes 0 (n / records_each)

  -- ---- what is asked is said

  module _ (few : levels ≤ 2) (rule : list_all is_led (items x) ≡ true) where
    root_led : (n : ℕ) (r : InodeRecord) → file_at inodes n ≡ Some r → r.root.stamp ≢ 0 → r.root.pvbn ≡ 0 → (top_of n).stamp ≢ 0 → (top_of n).pvbn ≡ 0
    root_led n r found some none held =
        let t = tree n r in
        let is : pointer_at t t.levels 0 ≡ r.root = (own_way t).top 0 in
        let over = over_root (top_of n) t t.levels 0 (omega arith) in
        let there : (pointer_at t t.levels 0).stamp ≢ 0 = λ e. some (ap (λ (p : Pointer). p.stamp) (sym is) ∙ e) in
        ap (λ (p : Pointer). p.pvbn) (sym over)
        ∙ holder_unknown (item_of (top_of n) t t.levels 0) (at_file is_led x rule n r found t.levels 0 there) there (ap (λ (p : Pointer). p.pvbn) is ∙ none) (λ e. held (ap (λ (p : Pointer). p.stamp) (sym over) ∙ e))

    inode_roots : (place : ℕ) (block : List ℕ) → (pointer_at inodes 0 place).stamp ≢ 0 → block_at inodes place ≡ Some block → has_unknown_root greatest_word block ≡ true → (pointer_at inodes 0 place).pvbn ≡ 0
    inode_roots place block some lies holds = elim (cases_eq (pointer_at inodes 0 place).pvbn 0) [
      | inl none ↦ none
      | inr known ↦ absurd (not_both (sym (block_roots greatest_word block (none_here known)) ∙ holds))
    ]
      where
        none_here : (pointer_at inodes 0 place).pvbn ≢ 0 → (k : ℕ) (r : InodeRecord) → k < 16 → used_record (get_or (records_in (Some block)) k free_record) ≡ Some r → r.root.stamp ≢ 0 → r.root.pvbn ≢ 0
        none_here known k r low used there none =
            let cell : (16 * place + k) / records_each ≡ place = omega (arith, low) in
            let found : file_at inodes (16 * place + k) ≡ Some r = file_is inodes place k low ∙ ap (λ b. used_record (get_or (records_in b) k free_record)) lies ∙ used in
            let held : (top_of (16 * place + k)).stamp ≢ 0 = λ e. some (ap (λ (c : ℕ). (pointer_at inodes 0 c).stamp) (sym cell) ∙ e) in
            known (ap (λ (c : ℕ). (pointer_at inodes 0 c).pvbn) (sym cell) ∙ root_led (16 * place + k) r found there none held)

    pub inode_leads : LeadsUnknown (unread inodes)
    inode_leads = record {
      nodes = λ level place some none low same. nodes_led hole inodes (at_inode is_led x rule) level place some none low;
      roots = λ place block some same lies holds. inode_roots place block some lies holds;
    }

    pub file_leads : (n : ℕ) (r : InodeRecord) → file_at inodes n ≡ Some r → LeadsUnknown (unread (tree n r))
    file_leads n r found = record {
      nodes = λ level place some none low same. nodes_led (top_of n) (tree n r) (at_file is_led x rule n r found) level place some none low;
      roots = λ place block some same lies holds.
          let here : (option_map_or (λ r. pointer_at (tree n r) 0 place) (file_at inodes n) hole).stamp ≢ 0 = subst (λ (o : Option InodeRecord). (option_map_or (λ r. pointer_at (tree n r) 0 place) o hole).stamp ≢ 0) (sym found) some in
          let small = small_number blocks levels root few n 0 place here in
          let other : (n == greatest_word) ≡ false = grind (arith, nat_tests, small) in
          absurd (not_both (sym (ap (λ (b : Bool). b && list_any (λ (r : InodeRecord). is_unknown r.root) (records_in (Some block))) other) ∙ holds));
    }

  -- ---- what is said is asked

  -- an unknown root of a file stands in an inode block to which an unknown pointer leads
  pub root_unknown : LeadsUnknown (unread inodes) → (n : ℕ) (r : InodeRecord) → file_at inodes n ≡ Some r → r.root.stamp ≢ 0 → r.root.pvbn ≡ 0 → (top_of n).pvbn ≡ 0
  unfolding file_at block_at records_in
  root_unknown leads n r found some none = by (block_at inodes (n / records_each)) refl found
    where
      no_record : ◌≡◌ {A = Option InodeRecord} None (Some r) → ⊥
      no_record e = cc

      of_used : (q : InodeRecord) (b : Bool) → (q.name_length == 0) ≡ b → (if b then None else Some q) ≡ Some r → q ≡ r
      of_used q true free e = absurd (no_record e)
      of_used q false used e = cc

      stands : (b : Bool) → ((top_of n).stamp == 0) ≡ b → (block : List ℕ) → (if b then None else blocks (top_of n).vvbn) ≡ Some block → (top_of n).stamp ≢ 0
      stands true is block e = absurd (let wrong : ◌≡◌ {A = Option (List ℕ)} None (Some block) = e in cc)
      stands false is block e = let there : (top_of n).stamp ≢ 0 = grind (arith, nat_tests, is) in there

      by : (o : Option (List ℕ)) → block_at inodes (n / records_each) ≡ o → used_record (get_or (records_in o) (n % records_each) free_record) ≡ Some r → (top_of n).pvbn ≡ 0
      by None lies e = absurd (no_record e)
      by (Some block) lies e =
          let q = get_or (records_in (Some block)) (n % records_each) free_record in
          let same : q ≡ r = of_used q (q.name_length == 0) refl e in
          let holds : list_any (λ (r : InodeRecord). is_unknown r.root) (records_in (Some block)) ≡ true =
          any_one (λ (r : InodeRecord). is_unknown r.root) (records_in (Some block)) (n % records_each) free_record refl (ap (λ (r : InodeRecord). is_unknown r.root) same ∙ seems_unknown r.root some none) in
          leads.roots (n / records_each) block (stands ((top_of n).stamp == 0) refl block lies) refl lies holds
