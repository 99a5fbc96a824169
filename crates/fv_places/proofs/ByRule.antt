-- Why a clean step may move a block: a block that holds an unknown pointer is led to by unknown ones alone, in each table of the volume.
use Rattle.std.proofs.Common.{◌≡◌, ◌≢◌, ℕ, zero, suc, ◌+◌, ◌*◌, ◌/◌, ◌%◌, ◌<◌, ◌≤◌, Bool, true, false, not, List, [], refl, sym, ap, ◌∙◌, arith, ⊎_elim, get_or}
use Rattle.std.specs.Prelude.{Option, Some, None, ◌&&◌, ◌==◌, ◌||◌, nat_lt, if◌then◌else◌}
use Rattle.std.specs.List.{list_all}
use Rattle.std.specs.Option.{option_map}
use Rattle.std.proofs.lemmas.Bool.{cases_eq}
use Rattle.std.proofs.lemmas.Bool.Decides.{nat_tests}
use Rattle.fv_codec.specs.declared.pointer.Pointer.{Pointer}
use Rattle.fv_codec.specs.declared.inode.InodeRecord.{InodeRecord}
use Rattle.fv_codec.specs.Blocks.{greatest_word}
use Rattle.fv_model.specs.Trees.{fan}
use Rattle.fv_tables.specs.Spelled.{Rooted as Tree, stored, hole, pointers_in, pointers_at, pointer_at, block_at}
use Rattle.fv_tables.specs.Told.{Standing, file_at, used_record, records_each, records_in, free_record}
use Rattle.fv_tables.specs.Reached.{Item, items, item_of, holder_of}
use Rattle.fv_tables.proofs.Items.{at_inode, at_file, from_trees}
use Rattle.fv_tables.proofs.AlikeTables.{stands}
use Rattle.fv_image.specs.Views.{Placed, Rooted, Head, View, kind_at}
use Rattle.fv_image.specs.Chains.{place, under}
use Rattle.fv_image.specs.Volumes.{standing_of}
use Rattle.fv_image.specs.HintRules.{is_unknown, leads_unknown}
use Rattle.fv_image.specs.Seen.{seen}
use Rattle.fv_image.specs.Soundness.{AreTables}
use Rattle.fv_image.specs.Moves.{StandsAlone, LeadsUnknownTo, MayMove, FitsRoot, FitsRoots}
use Rattle.fv_image.proofs.SameSeen.{of_volume}
use Rattle.fv_image.proofs.Moved.{alone_may_move}
use Rattle.fv_image.proofs.WellTrees.{in_node}
use Rattle.fv_places.specs.OneVolume.{of_reached, is_led}
use Rattle.fv_places.specs.Inside.{HoldsUnknown}
use Rattle.fv_places.proofs.Asked.{all_asked}
use Rattle.fv_places.proofs.Descents.{within, root_at}
use Rattle.fv_places.proofs.Fitting.{inode_kind, file_kind, file_low, no_leaf}

-- an unknown pointer is no hole
stamp_some : (p : Pointer) → is_unknown p ≡ true → p.stamp ≢ 0
stamp_some p e none = let a : (p.stamp == 0) ≡ true = grind (arith, nat_tests) in wrong (sym (λ i. not (a i) && (p.pvbn == 0)) ∙ e)
  where
    wrong : false ≡ true → ⊥
    wrong e = cc

module _ (w : View) (s v : ℕ) (was : Placed) (there : place w s v ≡ Some was) (r : Rooted) (fits : FitsRoot w s r)
    (rule : list_all is_led (items (standing_of w s r)) ≡ true) (holds : HoldsUnknown was) where
  abbrev x : Standing
  x = standing_of w s r

  abbrev tree : ℕ → ℕ → Pointer → Tree
  tree owner levels root = stored (under w s) owner levels root

  -- what a pointer to v leads to has this kind
  was_kind : (q kind : ℕ) → kind_at (place w s q) ≡ kind → q ≡ v → was.kind ≡ kind
  was_kind q kind is at = sym (ap (λ (n : ℕ). kind_at (place w s n)) at ∙ ap kind_at there) ∙ is

  -- its block
  under_was : under w s v ≡ Some was.block
  unfolding under
  under_was = ap (option_map (λ (z : Placed). z.block)) there

  -- the holder of an unknown pointer that isn't in the label is unknown
  holder_zero : (e : Item) → is_led e ≡ true → is_unknown e.pointer ≡ true → e.holder.stamp ≢ 0 → e.holder.pvbn ≡ 0
  holder_zero e test unknown some =
      let out : (e.holder.stamp == 0) ≡ false = grind (arith, nat_tests) in
      let zero : (e.holder.pvbn == 0) ≡ true = sym (λ i. not (unknown i) || (out i || (e.holder.pvbn == 0))) ∙ test in
      grind (arith, nat_tests)

  -- ---- in a tree

  -- under a pointer to v stand the pointers of its block
  child_at : (owner lv : ℕ) (root : Pointer) (level p i : ℕ) → i < fan → (pointer_at (tree owner lv root) (suc level) p).stamp ≢ 0
      → suc level ≤ lv → (pointer_at (tree owner lv root) (suc level) p).vvbn ≡ v
      → pointer_at (tree owner lv root) level (fan * p + i) ≡ get_or (pointers_in (Some was.block)) i hole
  unfolding pointers_at
  child_at owner lv root level p i small some low at =
      let t : Tree = tree owner lv root in
      let one : (fan * p + i) / fan ≡ p = omega (arith, small) in
      let two : (fan * p + i) % fan ≡ i = omega (arith, small) in
      let up : level + 1 ≡ suc level = omega arith in
      let test : ((pointer_at t (suc level) p).stamp == 0) ≡ false = grind (arith, nat_tests) in
      in_node t level (fan * p + i) (omega (arith, low))
      ∙ (λ k. get_or (pointers_at t (up k) (one k) (pointer_at t (up k) (one k))) (two k) hole)
      ∙ ap (λ (b : Bool). get_or (if b then [] else pointers_in (under w s (pointer_at t (suc level) p).vvbn)) i hole) test
      ∙ ap (λ (q : ℕ). get_or (pointers_in (under w s q)) i hole) at
      ∙ ap (λ (o : Option (List ℕ)). get_or (pointers_in o) i hole) under_was

  -- and they stand in the block to which it leads
  holder_is : (top : Pointer) (owner lv : ℕ) (root : Pointer) (level p i : ℕ) → i < fan → suc level ≤ lv
      → holder_of top (tree owner lv root) level (fan * p + i) ≡ pointer_at (tree owner lv root) (suc level) p
  holder_is top owner lv root level p i small low =
      let test : nat_lt level lv ≡ true = grind (arith, nat_tests) in
      let one : (fan * p + i) / fan ≡ p = omega (arith, small) in
      let up : level + 1 ≡ suc level = omega arith in
      λ k. if test k then pointer_at (tree owner lv root) (up k) (one k) else top

  -- ---- pointers of the inode file and of files to v

  -- a pointer of the inode file to v is unknown: one under it is
  inode_zero : (level p : ℕ) → (pointer_at x.inode level p).stamp ≢ 0 → (pointer_at x.inode level p).vvbn ≡ v
      → (pointer_at x.inode level p).pvbn ≡ 0
  unfolding file_at records_in
  inode_zero zero p some at =
      let one = holds.inode (was_kind _ 5 (inode_kind w s r fits 0 p some) at) in
      let i : ℕ = one.0 in
      let n : ℕ = records_each * p + i in
      let f : InodeRecord = get_or (records_in (Some was.block)) i free_record in
      let small = one.1.0 in
      let cell : n / records_each ≡ p = omega (arith, small) in
      let slot : n % records_each ≡ i = omega (arith, small) in
      let block : block_at x.inode p ≡ Some was.block = stands x.inode p some refl ∙ ap (under w s) at ∙ under_was in
      let record_is : file_at x.inode n ≡ Some f =
      (λ k. used_record (get_or (records_in (block_at x.inode (cell k))) (slot k) free_record))
      ∙ ap (λ (o : Option (List ℕ)). used_record (get_or (records_in o) i free_record)) block
      ∙ (λ k. if one.1.1.1 k then None else Some f) in
      let stood : f.root.stamp ≢ 0 = stamp_some f.root one.1.1.0 in
      let top : pointer_at (tree n f.levels f.root) f.levels 0 ≡ f.root = root_is n f in
      let item : Item = item_of (pointer_at x.inode 0 (n / records_each)) (tree n f.levels f.root) f.levels 0 in
      let test : is_led item ≡ true =
      at_file is_led x rule n f record_is f.levels 0 (λ e. stood (sym (ap (λ (q : Pointer). q.stamp) top) ∙ e)) in
      let over : item.holder ≡ pointer_at x.inode 0 p =
      not_less f.levels (pointer_at (tree n f.levels f.root) (f.levels + 1) (0 / fan)) (pointer_at x.inode 0 (n / records_each))
      ∙ ap (pointer_at x.inode 0) cell in
      sym (ap (λ (q : Pointer). q.pvbn) over)
      ∙ holder_zero item test (ap is_unknown top ∙ one.1.1.0) (λ e. some (sym (ap (λ (q : Pointer). q.stamp) over) ∙ e))
    where
      not_less : (n : ℕ) (a b : Pointer) → (if nat_lt n n then a else b) ≡ b
      not_less n a b = let t : nat_lt n n ≡ false = grind (arith, nat_tests) in λ k. if t k then a else b

      root_is : (n : ℕ) (f : InodeRecord) → pointer_at (stored (under w s) n f.levels f.root) f.levels 0 ≡ f.root
      root_is n f = root_at (stored (under w s) n f.levels f.root)
  inode_zero (suc level) p some at =
      let kinds = no_leaf (suc level) was.kind (omega arith) (was_kind _ _ (inode_kind w s r fits (suc level) p some) at) in
      let one = holds.node kinds.1 in
      let i : ℕ = one.0 in
      let low : suc level ≤ r.levels = within x.inode (suc level) p some in
      let child = child_at greatest_word r.levels r.root level p i one.1.0 some low at in
      let unknown : is_unknown (pointer_at x.inode level (fan * p + i)) ≡ true = ap is_unknown child ∙ one.1.1 in
      let test : is_led (item_of hole x.inode level (fan * p + i)) ≡ true =
      at_inode is_led x rule level (fan * p + i) (stamp_some (pointer_at x.inode level (fan * p + i)) unknown) in
      let over = holder_is hole greatest_word r.levels r.root level p i one.1.0 low in
      sym (ap (λ (q : Pointer). q.pvbn) over)
      ∙ holder_zero (item_of hole x.inode level (fan * p + i)) test unknown (λ e. some (sym (ap (λ (q : Pointer). q.stamp) over) ∙ e))

  -- and so is one of a file
  file_zero : (k : ℕ) (f : InodeRecord) → file_at x.inode k ≡ Some f → (level p : ℕ)
      → (pointer_at (tree k f.levels f.root) level p).stamp ≢ 0 → (pointer_at (tree k f.levels f.root) level p).vvbn ≡ v
      → (pointer_at (tree k f.levels f.root) level p).pvbn ≡ 0
  file_zero k f is zero p some at = absurd (holds.not_data (was_kind _ 1 (file_kind w s r fits k f is 0 p some) at))
  file_zero k f is (suc level) p some at =
      let t : Tree = tree k f.levels f.root in
      let kind : was.kind ≡ 1 + suc level = was_kind _ _ (file_kind w s r fits k f is (suc level) p some) at in
      let high = file_low w s r fits k f is (suc level) p some in
      let low : suc level ≤ f.levels = within t (suc level) p some in
      let one = holds.node (λ e. absurd (omega (arith, kind, e, high))) in
      let i : ℕ = one.0 in
      let child = child_at k f.levels f.root level p i one.1.0 some low at in
      let unknown : is_unknown (pointer_at t level (fan * p + i)) ≡ true = ap is_unknown child ∙ one.1.1 in
      let item : Item = item_of (pointer_at x.inode 0 (k / records_each)) t level (fan * p + i) in
      let test : is_led item ≡ true =
      at_file is_led x rule k f is level (fan * p + i) (stamp_some (pointer_at t level (fan * p + i)) unknown) in
      let over = holder_is (pointer_at x.inode 0 (k / records_each)) k f.levels f.root level p i one.1.0 low in
      sym (ap (λ (q : Pointer). q.pvbn) over) ∙ holder_zero item test unknown (λ e. some (sym (ap (λ (q : Pointer). q.stamp) over) ∙ e))

  -- as a test of a pointer
  test_of : (p : Pointer) → (p.vvbn ≡ v → p.pvbn ≡ 0) → (not (p.vvbn == v) || (p.pvbn == 0)) ≡ true
  test_of p is = ⊎_elim
      (λ (at : p.vvbn ≡ v). let z = is at in let a : (p.vvbn == v) ≡ true = grind (arith, nat_tests) in
      let b : (p.pvbn == 0) ≡ true = grind (arith, nat_tests) in λ i. not (a i) || b i)
      (λ other. let a : (p.vvbn == v) ≡ false = grind (arith, nat_tests) in λ i. not (a i) || (p.pvbn == 0))
      (cases_eq p.vvbn v)

  -- All pointers to the block are unknown.
  pub unknown_by_rule : list_all (λ (e : Item). not (e.pointer.vvbn == v) || (e.pointer.pvbn == 0)) (items x) ≡ true
  unknown_by_rule = from_trees (λ (e : Item). not (e.pointer.vvbn == v) || (e.pointer.pvbn == 0)) x
      (λ level p some. test_of (pointer_at x.inode level p) (inode_zero level p some))
      (λ k f is level p some. test_of (pointer_at (tree k f.levels f.root) level p) (file_zero k f is level p some))

-- ---- in all tables

module _ (w : View) (s v : ℕ) (was : Placed) (there : place w s v ≡ Some was) (h : Head) (small : s < 64) (head : w.head s ≡ Some h)
    (fits : FitsRoots w s h) (is : AreTables (seen w)) (holds : HoldsUnknown was) where
  -- All pointers of a sound volume to the block are unknown,
  pub unknown_everywhere : LeadsUnknownTo w s h v
  unfolding leads_unknown
  unknown_everywhere m r root = unknown_by_rule w s v was there r (fits m r root)
      (all_asked w s h (λ q e. is_led e.item)
      (of_volume w (λ k x. of_reached (λ q e. is_led e.item) x) s h is.unknown small head) m r root) holds

  -- so where no volume stands on this one, the moving rule lets the block move.
  pub may_move : StandsAlone w s → MayMove w s v
  may_move alone = alone_may_move w s alone h v head unknown_everywhere
