-- No position of a table is met twice.
use Rattle.std.proofs.Common.{◌≡◌, ◌≢◌, ℕ, zero, suc, ◌+◌, ◌-◌, ◌*◌, ◌/◌, ◌^◌, ◌<◌, ◌≤◌, Bool, true, false, not, List, [], ◌∷◌, length, refl, sym, ap, subst, ◌∙◌, arith, ⊎_elim, Result, Ok, Err}
use Rattle.std.specs.Prelude.{flat_map, ◌&&◌, ◌==◌, nat_le, if◌then◌else◌}
use Rattle.std.proofs.lemmas.Bool.{and_parts, and_from, cases_lt}
use Rattle.std.proofs.lemmas.Bool.Decides.{nat_tests}
use Rattle.fv_codec.specs.declared.shape.Shape.{Shape}
use Rattle.fv_codec.specs.declared.pointer.Pointer.{Pointer}
use Rattle.fv_codec.specs.declared.inode.InodeRecord.{InodeRecord}
use Rattle.fv_codec.specs.declared.inode.InodeBlock.{InodeBlock}
use Rattle.fv_codec.specs.Blocks.{greatest_word, inodes_at}
use Rattle.fv_model.specs.Trees.{fan}
use Rattle.fv_tables.specs.Spelled.{Rooted, hole, stored, pointer_at}
use Rattle.fv_tables.specs.Told.{records_each}
use Rattle.fv_tables.specs.Reached.{Item, item_of}
use Rattle.fv_tables.proofs.Pointers.{past}
use Rattle.fv_image.specs.Views.{Placed, Rooted as TableRoot}
use Rattle.fv_image.specs.Chains.{under}
use Rattle.fv_image.specs.ReachRules.{is_same_position}
use Rattle.fv_image.proofs.WellTrees.{StandsAt}
use Rattle.fv_image.proofs.WellNodes.{files_of as files_long}
use Rattle.fv_faults.specs.Walks.{Ground, used_from, files_of}
use Rattle.fv_faults.proofs.Plain.{Spot, plain, no_more, files_met, met}
use Rattle.fv_faults.proofs.Members.{all_met, met_both, to_plain}
use Rattle.fv_faults.proofs.TableMembers.{of_file, files_are, file_top, top_item}
use Rattle.fv_faults.proofs.Positions.{IsDistinct, one_place, distinct_both, apart_by, AreForeign, distinct_tree}

-- ---- the files of an inode block

module _ (f : ℕ × InodeRecord → List Spot) (told : (n : ℕ) (r : InodeRecord) → all_met (λ e. e.owner == n) (f (n, r)) ≡ true) (once : (n : ℕ) (r : InodeRecord) → IsDistinct (f (n, r))) where
  abbrev from_on : ℕ → Item → Bool
  from_on b e = nat_le b e.owner

  all_from : (n b : ℕ) (ps : List Spot) → b ≤ n → all_met (λ e. e.owner == n) ps ≡ true → all_met (from_on b) ps ≡ true
  all_from n b [] low all = refl
  all_from n b (p ∷ ps) low all =
      let parts = and_parts (p.0.owner == n) _ all in
      let is : p.0.owner ≡ n = (let test = parts.0 in grind (arith, nat_tests, test)) in
      let here : nat_le b p.0.owner ≡ true = grind (arith, nat_tests, is, low) in
      and_from (from_on b p.0) _ here (all_from n b ps low parts.1)

  later_from : (a : ℕ) (rs : List InodeRecord) → all_met (from_on a) (flat_map f (used_from a rs)) ≡ true
  unfolding used_from
  later_from a [] = refl
  later_from a (r ∷ rs) = so (later_from (a + 1) rs) (r.name_length == 0)
    where
      wider : (ps : List Spot) → all_met (from_on (a + 1)) ps ≡ true → all_met (from_on a) ps ≡ true
      wider [] all = refl
      wider (p ∷ ps) all =
          let parts = and_parts (from_on (a + 1) p.0) _ all in
          let here : nat_le a p.0.owner ≡ true = (let test = parts.0 in grind (arith, nat_tests, test)) in
          and_from (from_on a p.0) _ here (wider ps parts.1)

      so : all_met (from_on (a + 1)) (flat_map f (used_from (a + 1) rs)) ≡ true → (b : Bool) → all_met (from_on a) (flat_map f (if b then used_from (a + 1) rs else (a, r) ∷ used_from (a + 1) rs)) ≡ true
      so rest true = wider (flat_map f (used_from (a + 1) rs)) rest
      so rest false = met_both (from_on a) (f (a, r)) _ (all_from a a (f (a, r)) (omega arith) (told a r)) (wider (flat_map f (used_from (a + 1) rs)) rest)

  -- those of greater numbers differ
  never : (a : ℕ) (d e : Item) → (d.owner == a) ≡ true → from_on (a + 1) e ≡ true → is_same_position d e ≡ true → ⊥
  never a d e x y same =
      let one = one_place d e same in
      let left : d.owner ≡ a = grind (arith, nat_tests, x) in
      let right : a + 1 ≤ e.owner = grind (arith, nat_tests, y) in
      absurd (omega (arith, left, right, one.owner))

  pub distinct_files : (a : ℕ) (rs : List InodeRecord) → IsDistinct (flat_map f (used_from a rs))
  unfolding used_from
  distinct_files a [] = tt
  distinct_files a (r ∷ rs) = so (distinct_files (a + 1) rs) (r.name_length == 0)
    where
      so : IsDistinct (flat_map f (used_from (a + 1) rs)) → (b : Bool) → IsDistinct (flat_map f (if b then used_from (a + 1) rs else (a, r) ∷ used_from (a + 1) rs))
      so rest true = rest
      so rest false = distinct_both (f (a, r)) _ (once a r) rest (apart_by (λ e. e.owner == a) (from_on (a + 1)) (never a) (f (a, r)) _ (told a r) (later_from (a + 1) rs))

module _ (f : ℕ × InodeRecord → List Spot) (told : (n : ℕ) (r : InodeRecord) → all_met (λ e. e.owner == n) (f (n, r)) ≡ true) (p : ℕ) (small : p < 16384) where
  -- files of the inode block under cell p
  one_foreign : (n : ℕ) → records_each * p ≤ n → n < records_each * p + 16 → (ps : List Spot) → all_met (λ e. e.owner == n) ps ≡ true → all_met (λ e. not (e.owner == greatest_word) && (e.owner / 16 == p)) ps ≡ true
  one_foreign n low high [] all = refl
  one_foreign n low high (q ∷ ps) all =
      let parts = and_parts (q.0.owner == n) _ all in
      let is : q.0.owner ≡ n = (let test = parts.0 in grind (arith, nat_tests, test)) in
      let home : q.0.owner / 16 ≡ p = omega (arith, is, low, high) in
      let at : (q.0.owner / 16 == p) ≡ true = grind (arith, nat_tests, home) in
      let fits : q.0.owner < 262144 = omega (arith, is, low, high, small) in
      let other : not (q.0.owner == greatest_word) ≡ true = (let differs : q.0.owner ≢ greatest_word = (λ e. absurd (omega (arith, e, fits))) in let no : (q.0.owner == greatest_word) ≡ false = grind (arith, nat_tests, differs) in ap not no) in
      and_from (not (q.0.owner == greatest_word) && (q.0.owner / 16 == p)) _ (and_from (not (q.0.owner == greatest_word)) _ other at) (one_foreign n low high ps parts.1)

  all_foreign : (a : ℕ) (rs : List InodeRecord) → records_each * p ≤ a → a + length rs ≤ records_each * p + 16 → all_met (λ e. not (e.owner == greatest_word) && (e.owner / 16 == p)) (flat_map f (used_from a rs)) ≡ true
  unfolding used_from
  all_foreign a [] low high = refl
  all_foreign a (r ∷ rs) low high = so (all_foreign (a + 1) rs (omega (arith, low)) (omega (arith, high))) (r.name_length == 0)
    where
      so : all_met (λ e. not (e.owner == greatest_word) && (e.owner / 16 == p)) (flat_map f (used_from (a + 1) rs)) ≡ true → (b : Bool)
          → all_met (λ e. not (e.owner == greatest_word) && (e.owner / 16 == p)) (flat_map f (if b then used_from (a + 1) rs else (a, r) ∷ used_from (a + 1) rs)) ≡ true
      so rest true = rest
      so rest false = met_both (λ e. not (e.owner == greatest_word) && (e.owner / 16 == p)) (f (a, r)) _ (one_foreign a low (omega (arith, high)) (f (a, r)) (told a r)) rest

-- ---- a table

module _ (g : Ground) (r : TableRoot) (fits : r.levels ≤ 2) where
  abbrev pub trunk : Rooted
  trunk = stored (under g.view g.slot) greatest_word r.levels r.root

  of : ℕ → ℕ → ℕ × InodeRecord → List Spot
  of p block = of_file (λ e. true) g r p block

  file_told : (p block n : ℕ) (f : InodeRecord) → all_met (λ e. e.owner == n) (of p block (n, f)) ≡ true
  unfolding of
  file_told p block n f = subst (λ e. all_met (λ e. e.owner == n) (plain g no_more f.levels e block) ≡ true) (sym (file_top (λ e. true) g r p n f))
      (to_plain (λ e. e.owner == n) g no_more n f.levels f.root (pointer_at trunk 0 p) f.levels 0 block (omega arith)
      (record { positions = λ l q le at some. (let own : (n == n) ≡ true = grind (arith, nat_tests) in own); cells = λ q x at some found. refl }))

  file_once : (p block n : ℕ) (f : InodeRecord) → IsDistinct (of p block (n, f))
  unfolding of
  file_once p block n f = subst (λ e. IsDistinct (plain g no_more f.levels e block)) (sym (file_top (λ e. true) g r p n f))
      (distinct_tree g no_more n f.levels f.root (pointer_at trunk 0 p) (record { told = λ q x some found. refl; once = λ q x some found. tt }) f.levels 0 block (omega arith))

  pub small_cell : (p : ℕ) → StandsAt trunk 0 p → p < 16384
  small_cell p some = ⊎_elim (λ (low : p < fan ^ (r.levels - 0)). wide r.levels fits low) (λ far. absurd (some (ap (λ (q : Pointer). q.stamp) (past trunk 0 p far)))) (cases_lt p (fan ^ (r.levels - 0)))
    where
      wide : (n : ℕ) → n ≤ 2 → p < fan ^ (n - 0) → p < 16384
      wide zero le low = omega (arith, low)
      wide (suc zero) le low = omega (arith, low)
      wide (suc (suc zero)) le low = low
      wide (suc (suc (suc n))) le low = absurd (omega (arith, le))

  pub foreign : AreForeign g (files_met g) greatest_word r.levels r.root hole
  unfolding of
  foreign = record {
    told = λ p x some found. told_in p x (small_cell p some) (inodes_at x.block) refl;
    once = λ p x some found. once_in p x (inodes_at x.block) refl;
  }
    where
      cell_is : (p : ℕ) (x : Placed) (b : Result InodeBlock Shape) → inodes_at x.block ≡ b → files_met g (item_of hole trunk 0 p) x ≡ flat_map (of p x.pvbn) (files_of p b)
      cell_is p x b is = files_are (λ e. true) g r p x ∙ ap (λ (b : Result InodeBlock Shape). flat_map (of p x.pvbn) (files_of p b)) is

      told_in : (p : ℕ) (x : Placed) → p < 16384 → (b : Result InodeBlock Shape) → inodes_at x.block ≡ b → all_met (λ e. not (e.owner == greatest_word) && (e.owner / 16 == p)) (files_met g (item_of hole trunk 0 p) x) ≡ true
      told_in p x small (Err e) is = ap (all_met (λ e. not (e.owner == greatest_word) && (e.owner / 16 == p))) (cell_is p x (Err e) is)
      told_in p x small (Ok b) is = ap (all_met (λ e. not (e.owner == greatest_word) && (e.owner / 16 == p))) (cell_is p x (Ok b) is)
          ∙ all_foreign (of p x.pvbn) (file_told p x.pvbn) p small (records_each * p) b.files (omega arith) (let long = files_long x.block b is in omega (arith, long))

      once_in : (p : ℕ) (x : Placed) (b : Result InodeBlock Shape) → inodes_at x.block ≡ b → IsDistinct (files_met g (item_of hole trunk 0 p) x)
      once_in p x (Err e) is = subst IsDistinct (sym (cell_is p x (Err e) is)) tt
      once_in p x (Ok b) is = subst IsDistinct (sym (cell_is p x (Ok b) is)) (distinct_files (of p x.pvbn) (file_told p x.pvbn) (file_once p x.pvbn) (records_each * p) b.files)

  -- No position of the table of a root is met twice.
  pub met_once : (label : ℕ) → IsDistinct (met g label r)
  unfolding met
  met_once label = subst (λ e. IsDistinct (plain g (files_met g) r.levels e label)) (top_item trunk hole)
      (distinct_tree g (files_met g) greatest_word r.levels r.root hole foreign r.levels 0 label (omega arith))
