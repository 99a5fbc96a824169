-- What a walk without stops meets from a root is what the root's table reaches.
use Rattle.std.proofs.Common.{◌≡◌, ◌≢◌, ℕ, zero, suc, ◌+◌, ◌-◌, ◌*◌, ◌/◌, ◌%◌, ◌^◌, ◌<◌, ◌≤◌, Bool, true, false, List, [], ◌∷◌, length, get_or, refl, sym, ap, subst, ◌∙◌, arith, ⊎_elim, Result, Ok, Err}
use Rattle.std.specs.Prelude.{Option, Some, None, flat_map, ◌==◌, nat_lt, nat_le, if◌then◌else◌}
use Rattle.std.specs.List.{list_all}
use Rattle.std.specs.Option.{option_map}
use Rattle.std.proofs.lemmas.Bool.{cases_eq, cases_lt}
use Rattle.std.proofs.lemmas.Bool.Decides.{nat_tests}
use Rattle.fv_codec.specs.declared.shape.Shape.{Shape}
use Rattle.fv_codec.specs.declared.pointer.Pointer.{Pointer}
use Rattle.fv_codec.specs.declared.inode.InodeRecord.{InodeRecord}
use Rattle.fv_codec.specs.declared.inode.InodeBlock.{InodeBlock}
use Rattle.fv_codec.specs.Blocks.{greatest_word, inodes_at}
use Rattle.fv_model.specs.Trees.{fan}
use Rattle.fv_tables.specs.Spelled.{Rooted, hole, stored, pointer_below, pointer_at, block_at}
use Rattle.fv_tables.specs.Told.{Standing, records_each, free_record, records_of, records_in, used_record, file_at}
use Rattle.fv_tables.specs.Reached.{Item, item_of, items}
use Rattle.fv_tables.proofs.Pointers.{past, above, no_block}
use Rattle.fv_tables.proofs.Items.{at_inode, at_file, from_trees}
use Rattle.fv_image.specs.Views.{Placed, Rooted as TableRoot}
use Rattle.fv_image.specs.Chains.{place, under}
use Rattle.fv_image.specs.Volumes.{standing_of}
use Rattle.fv_image.proofs.WellTrees.{StandsAt}
use Rattle.fv_image.proofs.WellNodes.{files_of as files_long}
use Rattle.fv_faults.specs.Walks.{Ground, used_from, files_of, file_root, files_under, pointers_under}
use Rattle.fv_faults.proofs.Plain.{Spot, place_at, plain, no_more, files_met, met}
use Rattle.fv_faults.proofs.Members.{all_met, both_met, met_both, flat_mapped, Passes, from_plain, to_plain}

-- the root's pointer is the one at the top position
root_pointer : (t : Rooted) → pointer_at t t.levels 0 ≡ t.root
unfolding pointer_at pointer_below
root_pointer t =
    let test : nat_le t.levels t.levels ≡ true = grind (arith, nat_tests) in
    let none : t.levels - t.levels ≡ 0 = omega arith in
    ap (λ (b : Bool). if b then pointer_below t (t.levels - t.levels) 0 else hole) test ∙ ap (λ n. pointer_below t n 0) none

pub top_item : (t : Rooted) (top : Pointer) → item_of top t t.levels 0 ≡ record { owner = t.owner; levels = t.levels; level = t.levels; place = 0; pointer = t.root; holder = top }
top_item t top =
    let test : nat_lt t.levels t.levels ≡ false = grind (arith, nat_tests) in
    let holder : (if nat_lt t.levels t.levels then pointer_at t (t.levels + 1) (0 / fan) else top) ≡ top = ap (λ (b : Bool). if b then pointer_at t (t.levels + 1) (0 / fan) else top) test in
    λ i. record { owner = t.owner; levels = t.levels; level = t.levels; place = 0; pointer = root_pointer t i; holder = holder i }

-- what stands lies below the top
low_level : (t : Rooted) (l p : ℕ) → StandsAt t l p → l ≤ t.levels
low_level t l p some = ⊎_elim
    (λ (high : t.levels < l). absurd (some (ap (λ (p : Pointer). p.stamp) (above t l p high))))
    (λ low. low)
    (cases_lt t.levels l)

below_root : (t : Rooted) (l p : ℕ) → StandsAt t l p → p / fan ^ (t.levels - l) ≡ 0
below_root t l p some = ⊎_elim
    (λ (inside : p < fan ^ (t.levels - l)). small p (fan ^ (t.levels - l)) inside)
    (λ far. absurd (some (ap (λ (p : Pointer). p.stamp) (past t l p far))))
    (cases_lt p (fan ^ (t.levels - l)))
  where
    small : (a b : ℕ) → a < b → a / b ≡ 0
    small a b lt = grind (arith, lt)

-- ---- the used records of an inode block

module _ (test : Item → Bool) (f : ℕ × InodeRecord → List Spot) where
  at_used : (a i : ℕ) (rs : List InodeRecord) (r : InodeRecord) → all_met test (flat_map f (used_from a rs)) ≡ true → used_record (get_or rs i free_record) ≡ Some r → all_met test (f (a + i, r)) ≡ true
  unfolding used_from
  at_used a i [] r all used = absurd cc
  at_used a zero (q ∷ rs) r all used = so (q.name_length == 0) all used
    where
      so : (b : Bool) → all_met test (flat_map f (if b then used_from (a + 1) rs else (a, q) ∷ used_from (a + 1) rs)) ≡ true → (if b then None else Some q) ≡ Some r → all_met test (f (a + 0, r)) ≡ true
      so true all used = absurd cc
      so false all used =
          let same : a ≡ a + 0 = omega arith in
          let is : q ≡ r = cc in
          subst (λ n. all_met test (f (n, r)) ≡ true) same (subst (λ (r : InodeRecord). all_met test (f (a, r)) ≡ true) is (both_met test (f (a, q)) _ all).0)
  at_used a (suc i) (q ∷ rs) r all used =
      let same : a + 1 + i ≡ a + suc i = omega arith in
      subst (λ n. all_met test (f (n, r)) ≡ true) same (at_used (a + 1) i rs r (so (q.name_length == 0) all) used)
    where
      so : (b : Bool) → all_met test (flat_map f (if b then used_from (a + 1) rs else (a, q) ∷ used_from (a + 1) rs)) ≡ true → all_met test (flat_map f (used_from (a + 1) rs)) ≡ true
      so true all = all
      so false all = (both_met test (f (a, q)) _ all).1

  of_used : (a : ℕ) (rs : List InodeRecord) → ((i : ℕ) (r : InodeRecord) → i < length rs → used_record (get_or rs i free_record) ≡ Some r → all_met test (f (a + i, r)) ≡ true) → all_met test (flat_map f (used_from a rs)) ≡ true
  unfolding used_from
  of_used a [] each = refl
  of_used a (q ∷ rs) each = so (q.name_length == 0) refl (of_used (a + 1) rs (λ i r low used.
      let same : a + suc i ≡ a + 1 + i = omega arith in
      subst (λ n. all_met test (f (n, r)) ≡ true) same (each (suc i) r (omega (arith, low)) used)))
    where
      so : (b : Bool) → (q.name_length == 0) ≡ b → all_met test (flat_map f (used_from (a + 1) rs)) ≡ true → all_met test (flat_map f (if b then used_from (a + 1) rs else (a, q) ∷ used_from (a + 1) rs)) ≡ true
      so true e rest = rest
      so false e rest =
          let same : a + 0 ≡ a = omega arith in
          met_both test (f (a, q)) _ (subst (λ n. all_met test (f (n, q)) ≡ true) same (each 0 q (omega arith) (ap (λ (b : Bool). if b then None else Some q) e))) rest

module _ (test : Item → Bool) (g : Ground) (r : TableRoot) where
  abbrev pub x : Standing
  x = standing_of g.view g.slot r

  abbrev pub inode : Rooted
  inode = stored (under g.view g.slot) greatest_word r.levels r.root

  abbrev pub file_tree : ℕ → InodeRecord → Rooted
  file_tree n f = stored (under g.view g.slot) n f.levels f.root

  -- what is met of a file, from the inode block under cell p
  abbrev pub of_file : ℕ → ℕ → ℕ × InodeRecord → List Spot
  of_file p block f = plain g no_more f.1.levels (file_root (item_of hole inode 0 p) f) block

  pub files_are : (p : ℕ) (at : Placed) → files_met g (item_of hole inode 0 p) at ≡ flat_map (of_file p at.pvbn) (files_of p (inodes_at at.block))
  unfolding pointers_under files_under
  files_are p at = flat_mapped (λ c. plain g no_more c.levels c at.pvbn) (file_root (item_of hole inode 0 p)) (files_of p (inodes_at at.block))

  -- the root of a file as the top position of its tree
  pub file_top : (p n : ℕ) (f : InodeRecord) → file_root (item_of hole inode 0 p) (n, f) ≡ item_of (pointer_at inode 0 p) (file_tree n f) f.levels 0
  file_top p n f = sym (top_item (file_tree n f) (pointer_at inode 0 p))

  file_passes : (p n block : ℕ) (f : InodeRecord) → all_met test (of_file p block (n, f)) ≡ true → Passes test g no_more n f.levels f.root (pointer_at inode 0 p) f.levels 0
  file_passes p n block f all = from_plain test g no_more n f.levels f.root (pointer_at inode 0 p) f.levels 0 block (omega arith) (subst (λ e. all_met test (plain g no_more f.levels e block) ≡ true) (file_top p n f) all)

  passes_file : (p n block : ℕ) (f : InodeRecord) → ((l q : ℕ) → StandsAt (file_tree n f) l q → test (item_of (pointer_at inode 0 p) (file_tree n f) l q) ≡ true) → all_met test (of_file p block (n, f)) ≡ true
  passes_file p n block f each = subst (λ e. all_met test (plain g no_more f.levels e block) ≡ true) (sym (file_top p n f))
      (to_plain test g no_more n f.levels f.root (pointer_at inode 0 p) f.levels 0 block (omega arith)
      (record { positions = λ l q le at some. each l q some; cells = λ q x at some found. refl }))

  -- where the record of a file stands
  pub record HasRecord (n : ℕ) (f : InodeRecord) : Type 0 where
    pub stands : StandsAt inode 0 (n / records_each)
    pub at : Placed
    pub found : place_at g (item_of hole inode 0 (n / records_each)) ≡ Some at
    pub block : InodeBlock
    pub reads : inodes_at at.block ≡ Ok block
    pub used : used_record (get_or block.files (n % records_each) free_record) ≡ Some f

  pub has_record : (n : ℕ) (f : InodeRecord) → file_at inode n ≡ Some f → HasRecord n f
  unfolding file_at block_at under records_in
  has_record n f is = ⊎_elim
      (λ (none : (pointer_at inode 0 (n / records_each)).stamp ≡ 0).
      absurd (empty (sym (ap (λ (o : Option (List ℕ)). used_record (get_or (records_in o) (n % records_each) free_record)) (no_block inode (n / records_each) none)) ∙ is)))
      (λ (some : (pointer_at inode 0 (n / records_each)).stamp ≢ 0).
      let test : ((pointer_at inode 0 (n / records_each)).stamp == 0) ≡ false = grind (arith, nat_tests, some) in
      so some (place g.view g.slot (pointer_at inode 0 (n / records_each)).vvbn) refl
      (sym (ap (λ (b : Bool). used_record (get_or (records_in (if b then None else option_map (λ x. x.block) (place g.view g.slot (pointer_at inode 0 (n / records_each)).vvbn))) (n % records_each) free_record)) test) ∙ is))
      (cases_eq (pointer_at inode 0 (n / records_each)).stamp 0)
    where
      empty : used_record (get_or [] (n % records_each) free_record) ≡ Some f → ⊥
      empty e = cc

      so : StandsAt inode 0 (n / records_each) → (o : Option Placed) → place g.view g.slot (pointer_at inode 0 (n / records_each)).vvbn ≡ o
          → used_record (get_or (records_in (option_map (λ x. x.block) (place g.view g.slot (pointer_at inode 0 (n / records_each)).vvbn))) (n % records_each) free_record) ≡ Some f → HasRecord n f
      so some None found is = absurd (empty (sym (ap (λ (o : Option Placed). used_record (get_or (records_in (option_map (λ x. x.block) o)) (n % records_each) free_record)) found) ∙ is))
      so some (Some at) found is = read (inodes_at at.block) refl (sym (ap (λ (o : Option Placed). used_record (get_or (records_in (option_map (λ x. x.block) o)) (n % records_each) free_record)) found) ∙ is)
        where
          read : (b : Result InodeBlock Shape) → inodes_at at.block ≡ b → used_record (get_or (records_of (inodes_at at.block)) (n % records_each) free_record) ≡ Some f → HasRecord n f
          read (Err fault) reads is = absurd (empty (sym (ap (λ (b : Result InodeBlock Shape). used_record (get_or (records_of b) (n % records_each) free_record)) reads) ∙ is))
          read (Ok block) reads is = record {
            stands = some;
            at = at;
            found = found;
            block = block;
            reads = reads;
            used = sym (ap (λ (b : Result InodeBlock Shape). used_record (get_or (records_of b) (n % records_each) free_record)) reads) ∙ is;
          }

  pub record_has : (p i : ℕ) (at : Placed) (block : InodeBlock) (f : InodeRecord) → StandsAt inode 0 p → place_at g (item_of hole inode 0 p) ≡ Some at → inodes_at at.block ≡ Ok block → i < records_each
      → used_record (get_or block.files i free_record) ≡ Some f → file_at inode (records_each * p + i) ≡ Some f
  unfolding file_at block_at under records_in
  record_has p i at block f some found reads low used =
      let div : (records_each * p + i) / records_each ≡ p = omega (arith, low) in
      let rem : (records_each * p + i) % records_each ≡ i = omega (arith, low) in
      let test : ((pointer_at inode 0 p).stamp == 0) ≡ false = grind (arith, nat_tests, some) in
      ap (λ n. used_record (get_or (records_in (block_at inode n)) ((records_each * p + i) % records_each) free_record)) div
      ∙ ap (λ n. used_record (get_or (records_in (block_at inode p)) n free_record)) rem
      ∙ ap (λ (b : Bool). used_record (get_or (records_in (if b then None else option_map (λ x. x.block) (place g.view g.slot (pointer_at inode 0 p).vvbn))) i free_record)) test
      ∙ ap (λ (o : Option Placed). used_record (get_or (records_in (option_map (λ x. x.block) o)) i free_record)) found
      ∙ ap (λ (b : Result InodeBlock Shape). used_record (get_or (records_of b) i free_record)) reads
      ∙ used

  -- A test of all that is met is one of all that is reached.
  pub reached_from : (label : ℕ) → all_met test (met g label r) ≡ true → list_all test (items x) ≡ true
  unfolding met
  reached_from label all =
      let is = from_plain test g (files_met g) greatest_word r.levels r.root hole r.levels 0 label (omega arith) (subst (λ e. all_met test (plain g (files_met g) r.levels e label) ≡ true) (sym (top_item inode hole)) all) in
      from_trees test x
      (λ l p some. is.positions l p (low_level inode l p some) (below_root inode l p some) some)
      (λ n f at_file l q some.
      let has = has_record n f at_file in
      let p : ℕ = n / records_each in
      let none : r.levels - 0 ≡ r.levels = omega arith in
      let under_root : n / records_each / fan ^ r.levels ≡ 0 = subst (λ k. n / records_each / fan ^ k ≡ 0) none (below_root inode 0 (n / records_each) has.stands) in
      let cell = is.cells (n / records_each) has.at under_root has.stands has.found in
      let flat : all_met test (flat_map (of_file (n / records_each) has.at.pvbn) (used_from (records_each * (n / records_each)) has.block.files)) ≡ true =
      sym (ap (all_met test) (files_are (n / records_each) has.at ∙ ap (λ (b : Result InodeBlock Shape). flat_map (of_file (n / records_each) has.at.pvbn) (files_of (n / records_each) b)) has.reads)) ∙ cell in
      let one = at_used test (of_file (n / records_each) has.at.pvbn) (records_each * (n / records_each)) (n % records_each) has.block.files f flat has.used in
      let whole : records_each * (n / records_each) + n % records_each ≡ n = omega arith in
      let file = file_passes (n / records_each) n has.at.pvbn f (subst (λ k. all_met test (of_file (n / records_each) has.at.pvbn (k, f)) ≡ true) whole one) in
      file.positions l q (low_level (file_tree n f) l q some) (below_root (file_tree n f) l q some) some)

  pub reached_to : (label : ℕ) → list_all test (items x) ≡ true → all_met test (met g label r) ≡ true
  unfolding met
  reached_to label all =
      subst (λ e. all_met test (plain g (files_met g) r.levels e label) ≡ true) (top_item inode hole)
      (to_plain test g (files_met g) greatest_word r.levels r.root hole r.levels 0 label (omega arith) (record {
        positions = λ l p le at some. at_inode test x all l p some;
        cells = λ p at low some found. read p at some found (inodes_at at.block) refl;
      }))
    where
      read : (p : ℕ) (at : Placed) → StandsAt inode 0 p → place_at g (item_of hole inode 0 p) ≡ Some at → (b : Result InodeBlock Shape) → inodes_at at.block ≡ b → all_met test (files_met g (item_of hole inode 0 p) at) ≡ true
      read p at some found (Err fault) reads = ap (all_met test) (files_are p at ∙ ap (λ (b : Result InodeBlock Shape). flat_map (of_file p at.pvbn) (files_of p b)) reads)
      read p at some found (Ok block) reads =
          ap (all_met test) (files_are p at ∙ ap (λ (b : Result InodeBlock Shape). flat_map (of_file p at.pvbn) (files_of p b)) reads)
          ∙ of_used test (of_file p at.pvbn) (records_each * p) block.files (λ i f inside used.
          let long = files_long at.block block reads in
          let low : i < records_each = omega (arith, inside, long) in
          let div : (records_each * p + i) / records_each ≡ p = omega (arith, low) in
          passes_file p (records_each * p + i) at.pvbn f (λ l q stands.
          subst (λ n. test (item_of (pointer_at inode 0 n) (file_tree (records_each * p + i) f) l q) ≡ true) div
          (at_file test x all (records_each * p + i) f (record_has p i at block f some found reads low used) l q stands)))
