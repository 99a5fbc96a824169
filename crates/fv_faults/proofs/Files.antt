-- The records in the blocks that a root meets are the records of its table. Rule 10, lengths and levels.
use Rattle.std.proofs.Common.{◌≡◌, ◌≢◌, ℕ, zero, suc, ◌+◌, ◌*◌, ◌/◌, ◌%◌, ◌^◌, ◌<◌, ◌≤◌, Bool, true, false, not, List, [], ◌∷◌, ◌++◌, length, get_or, inl, inr, refl, sym, ap, subst, ◌∙◌, arith, Result, Ok, Err}
use Rattle.std.specs.Prelude.{Option, Some, None, flat_map, ◌&&◌, ◌||◌, ◌==◌, nat_lt, if◌then◌else◌}
use Rattle.std.specs.List.{list_all}
use Rattle.std.specs.Option.{option_map_or}
use Rattle.std.proofs.lemmas.Bool.{and_parts, and_from}
use Rattle.std.proofs.lemmas.Bool.Decides.{nat_tests}
use Rattle.std.proofs.lemmas.List.Concat.{flat_map-append}
use Rattle.std.proofs.lemmas.List.Folds.{list_all-append}
use Rattle.fv_codec.specs.declared.shape.Shape.{Shape}
use Rattle.fv_codec.specs.declared.inode.InodeRecord.{InodeRecord}
use Rattle.fv_codec.specs.declared.inode.InodeBlock.{InodeBlock}
use Rattle.fv_codec.specs.Blocks.{greatest_word, inodes_at}
use Rattle.fv_model.specs.Trees.{fan}
use Rattle.fv_laws.proofs.Lists.{In, in_range}
use Rattle.fv_tables.specs.Spelled.{hole, pointer_at}
use Rattle.fv_tables.specs.Told.{Standing, listed, entry_or, numbers, records, records_each, free_record, used_record, file_at, tree_of}
use Rattle.fv_tables.specs.Reached.{Item, item_of, items}
use Rattle.fv_tables.proofs.Items.{at_inode, from_trees, number_within}
use Rattle.fv_image.specs.Views.{Placed, Rooted}
use Rattle.fv_image.specs.Volumes.{standing_of}
use Rattle.fv_image.proofs.WellTrees.{StandsAt}
use Rattle.fv_image.proofs.WellNodes.{files_of as files_long}
use Rattle.fv_image.specs.TableRules.{is_cell_of, are_levels}
use Rattle.fv_faults.specs.declared.fault.Fault.{Fault}
use Rattle.fv_faults.specs.Lines.{line, unless}
use Rattle.fv_faults.specs.ThirdPass.{before, length_lines, level_lines, file_level_lines}
use Rattle.fv_faults.proofs.Clean.{all_from, clean_from, holds_from, none_from}
use Rattle.fv_faults.proofs.Reached.{AreNew, fresh_new, all_fresh, passes, silent_where}
use Rattle.fv_faults.specs.Walks.{Step, Ground, step, steps, used_from, files_of, files_under, met_in}
use Rattle.fv_faults.proofs.Plain.{Spot, place_at, met, run, IsClean, steps_are}
use Rattle.fv_faults.proofs.Members.{all_met}
use Rattle.fv_faults.proofs.TableMembers.{inode, has_record, record_has, reached_from, reached_to}

-- ---- lists of entries and of used records

module _ (q : ℕ × InodeRecord → Bool) where
  entries_from : (f : ℕ → Option InodeRecord) (keys : List ℕ) → ((k : ℕ) (r : InodeRecord) → f k ≡ Some r → q (k, r) ≡ true) → list_all q (listed f keys) ≡ true
  unfolding listed
  entries_from f [] each = refl
  entries_from f (k ∷ ks) each = list_all-append q (entry_or k (f k)) (flat_map (λ k. entry_or k (f k)) ks) ∙ and_from (list_all q (entry_or k (f k))) _ (one (f k) refl) (entries_from f ks each)
    where
      one : (o : Option InodeRecord) → f k ≡ o → list_all q (entry_or k o) ≡ true
      one None is = refl
      one (Some r) is = and_from (q (k, r)) true (each k r is) refl

  entry_of : (f : ℕ → Option InodeRecord) (keys : List ℕ) (k : ℕ) (r : InodeRecord) → list_all q (listed f keys) ≡ true → In k keys → f k ≡ Some r → q (k, r) ≡ true
  unfolding listed
  entry_of f [] k r all there is = absurd there
  entry_of f (j ∷ js) k r all (inl same) is =
      let here = (and_parts (list_all q (entry_or j (f j))) _ (sym (list_all-append q (entry_or j (f j)) (flat_map (λ k. entry_or k (f k)) js)) ∙ all)).0 in
      (and_parts (q (k, r)) true (sym (ap (λ (o : Option InodeRecord). list_all q (entry_or k o)) is) ∙ subst (λ n. list_all q (entry_or n (f n)) ≡ true) same here)).0
  entry_of f (j ∷ js) k r all (inr there) is =
      entry_of f js k r (and_parts (list_all q (entry_or j (f j))) _ (sym (list_all-append q (entry_or j (f j)) (flat_map (λ k. entry_or k (f k)) js)) ∙ all)).1 there is

  used_one : (a i : ℕ) (rs : List InodeRecord) (r : InodeRecord) → list_all q (used_from a rs) ≡ true → used_record (get_or rs i free_record) ≡ Some r → q (a + i, r) ≡ true
  unfolding used_from
  used_one a i [] r all used = absurd cc
  used_one a zero (p ∷ rs) r all used = so (p.name_length == 0) all used
    where
      so : (b : Bool) → list_all q (if b then used_from (a + 1) rs else (a, p) ∷ used_from (a + 1) rs) ≡ true → (if b then None else Some p) ≡ Some r → q (a + 0, r) ≡ true
      so true all used = absurd cc
      so false all used =
          let same : a ≡ a + 0 = omega arith in
          let is : p ≡ r = cc in
          subst (λ n. q (n, r) ≡ true) same (subst (λ (r : InodeRecord). q (a, r) ≡ true) is (and_parts (q (a, p)) _ all).0)
  used_one a (suc i) (p ∷ rs) r all used =
      let same : a + 1 + i ≡ a + suc i = omega arith in
      subst (λ n. q (n, r) ≡ true) same (used_one (a + 1) i rs r (so (p.name_length == 0) all) used)
    where
      so : (b : Bool) → list_all q (if b then used_from (a + 1) rs else (a, p) ∷ used_from (a + 1) rs) ≡ true → list_all q (used_from (a + 1) rs) ≡ true
      so true all = all
      so false all = (and_parts (q (a, p)) _ all).1

  used_all : (a : ℕ) (rs : List InodeRecord) → ((i : ℕ) (r : InodeRecord) → i < length rs → used_record (get_or rs i free_record) ≡ Some r → q (a + i, r) ≡ true) → list_all q (used_from a rs) ≡ true
  unfolding used_from
  used_all a [] each = refl
  used_all a (p ∷ rs) each = so (p.name_length == 0) refl (used_all (a + 1) rs (λ i r low used.
      let same : a + suc i ≡ a + 1 + i = omega arith in
      subst (λ n. q (n, r) ≡ true) same (each (suc i) r (omega (arith, low)) used)))
    where
      so : (b : Bool) → (p.name_length == 0) ≡ b → list_all q (used_from (a + 1) rs) ≡ true → list_all q (if b then used_from (a + 1) rs else (a, p) ∷ used_from (a + 1) rs) ≡ true
      so true e rest = rest
      so false e rest =
          let same : a + 0 ≡ a = omega arith in
          and_from (q (a, p)) _ (subst (λ n. q (n, p) ≡ true) same (each 0 p (omega arith) (ap (λ (b : Bool). if b then None else Some p) e))) rest

-- ---- the records of a table

module _ (g : Ground) (q : ℕ × InodeRecord → Bool) where
  -- of the records in the block to which a pointer leads
  abbrev pub in_block : Item → Bool
  in_block e = option_map_or (λ x. list_all q (files_under e x)) (place_at g e) true

  -- the steps' files by what was met
  of_steps : (done : List Step) (ps : List Spot) → AreNew g done ps → list_all q (flat_map met_in (run g done ps)) ≡ (list_all q (flat_map met_in done) && all_met in_block ps)
  unfolding run step
  of_steps done [] are = so (list_all q (flat_map met_in done))
    where
      so : (b : Bool) → b ≡ (b && true)
      so true = refl
      so false = refl
  of_steps done (p ∷ ps) are =
      of_steps (done ++ (step g done p.0 p.1 ∷ [])) ps are.1.1
      ∙ ap (λ b. b && all_met in_block ps)
      (ap (list_all q) (flat_map-append met_in done (step g done p.0 p.1 ∷ [])) ∙ list_all-append q (flat_map met_in done) (met_in (step g done p.0 p.1) ++ [])
      ∙ ap (λ b. list_all q (flat_map met_in done) && b) (list_all-append q (met_in (step g done p.0 p.1)) [] ∙ ap (λ (b : Bool). list_all q (if not b then option_map_or (files_under p.0) (place_at g p.0) [] else []) && true) are.0 ∙ so (place_at g p.0)))
      ∙ turned (list_all q (flat_map met_in done)) (in_block p.0) (all_met in_block ps)
    where
      so : (o : Option Placed) → (list_all q (option_map_or (files_under p.0) o []) && true) ≡ option_map_or (λ x. list_all q (files_under p.0 x)) o true
      so None = refl
      so (Some x) = same (list_all q (files_under p.0 x))
        where
          same : (b : Bool) → (b && true) ≡ b
          same true = refl
          same false = refl

      turned : (a b c : Bool) → ((a && b) && c) ≡ (a && (b && c))
      turned true b c = refl
      turned false b c = refl

  module _ (r : Rooted) where
    abbrev x : Standing
    x = standing_of g.view g.slot r

    record_from : list_all in_block (items x) ≡ true → list_all q (records x) ≡ true
    unfolding records files_under
    record_from all = entries_from q (file_at x.inode) (numbers x) each
      where
        each : (n : ℕ) (f : InodeRecord) → file_at x.inode n ≡ Some f → q (n, f) ≡ true
        each n f is =
            let has = has_record (λ e. true) g r n f is in
            let here = at_inode in_block x all 0 (n / records_each) has.stands in
            let block : list_all q (files_of (n / records_each) (inodes_at has.at.block)) ≡ true =
            sym (ap (λ (o : Option Placed). option_map_or (λ y. list_all q (files_under (item_of hole x.inode 0 (n / records_each)) y)) o true) has.found) ∙ here in
            let whole : records_each * (n / records_each) + n % records_each ≡ n = omega arith in
            subst (λ k. q (k, f) ≡ true) whole
            (used_one q (records_each * (n / records_each)) (n % records_each) has.block.files f (subst (λ (b : Result InodeBlock Shape). list_all q (files_of (n / records_each) b) ≡ true) has.reads block) has.used)

    pub to_record : r.levels ≤ 2 → list_all q (records x) ≡ true → list_all in_block (items x) ≡ true
    unfolding records files_under
    to_record fits all = from_trees in_block x trunk file
      where
        said : (n : ℕ) (f : InodeRecord) → file_at x.inode n ≡ Some f → q (n, f) ≡ true
        said n f is = entry_of q (file_at x.inode) (numbers x) n f all (in_range 0 (records_each * fan ^ x.inode.levels) n (omega arith) (let low = number_within (λ e. true) x n f is in omega (arith, low))) is

        cell : (p : ℕ) → StandsAt (inode (λ e. true) g r) 0 p → (o : Option Placed) → place_at g (item_of hole x.inode 0 p) ≡ o → option_map_or (λ y. list_all q (files_under (item_of hole x.inode 0 p) y)) o true ≡ true
        cell p some None found = refl
        cell p some (Some at) found = read (inodes_at at.block) refl
          where
            read : (b : Result InodeBlock Shape) → inodes_at at.block ≡ b → list_all q (files_of p (inodes_at at.block)) ≡ true
            read (Err fault) reads = ap (λ (b : Result InodeBlock Shape). list_all q (files_of p b)) reads
            read (Ok block) reads = ap (λ (b : Result InodeBlock Shape). list_all q (files_of p b)) reads
                ∙ used_all q (records_each * p) block.files (λ i f inside used.
                let long = files_long at.block block reads in
                let low : i < records_each = omega (arith, inside, long) in
                said (records_each * p + i) f (record_has (λ e. true) g r p i at block f some found reads low used))

        none_there : (e : Item) → ((e.level == 0) && (e.owner == greatest_word)) ≡ false → in_block e ≡ true
        none_there e other = so (place_at g e)
          where
            so : (o : Option Placed) → option_map_or (λ y. list_all q (files_under e y)) o true ≡ true
            so None = refl
            so (Some y) = ap (λ (b : Bool). list_all q (if b then files_of e.place (inodes_at y.block) else [])) other

        trunk : (level place : ℕ) → (pointer_at x.inode level place).stamp ≢ 0 → in_block (item_of hole x.inode level place) ≡ true
        trunk zero place some = cell place some (place_at g (item_of hole x.inode 0 place)) refl
        trunk (suc k) place some = none_there (item_of hole x.inode (suc k) place) (let high : (suc k == 0) ≡ false = grind (arith, nat_tests) in ap (λ (b : Bool). b && (x.inode.owner == greatest_word)) high)

        file : (n : ℕ) (f : InodeRecord) → file_at x.inode n ≡ Some f → (level place : ℕ) → (pointer_at (tree_of x n f) level place).stamp ≢ 0 → in_block (item_of (pointer_at x.inode 0 (n / records_each)) (tree_of x n f) level place) ≡ true
        file n f is level place some = none_there (item_of (pointer_at x.inode 0 (n / records_each)) (tree_of x n f) level place) (so (level == 0) (n == greatest_word) other)
          where
            so : (a b : Bool) → b ≡ false → (a && b) ≡ false
            so true b e = e
            so false b e = refl

            other : (n == greatest_word) ≡ false
            other =
                let low = number_within (λ e. true) x n f is in
                let few : fan ^ r.levels ≤ 16384 = three r.levels fits in
                let far : n ≢ greatest_word = omega (arith, low, few) in
                grind (arith, nat_tests, far)
              where
                three : (k : ℕ) → k ≤ 2 → fan ^ k ≤ 16384
                three zero low = omega arith
                three (suc zero) low = omega arith
                three (suc (suc zero)) low = omega arith
                three (suc (suc (suc k))) low = absurd (omega (arith, low))

    news : (label : ℕ) → IsClean (steps g label r) → AreNew g [] (met g label r)
    news label clean = fresh_new g [] (met g label r) (all_fresh g [] (met g label r) (subst IsClean (steps_are g label r clean) clean))

    -- A test of the files that the steps met is one of the table's records.
    pub files_from : (label : ℕ) → IsClean (steps g label r) → list_all q (flat_map met_in (steps g label r)) ≡ true → list_all q (records x) ≡ true
    files_from label clean all =
        record_from (reached_from in_block g r label (sym (of_steps [] (met g label r) (news label clean)) ∙ sym (ap (λ ss. list_all q (flat_map met_in ss)) (steps_are g label r clean)) ∙ all))

    pub files_to : (label : ℕ) → r.levels ≤ 2 → IsClean (steps g label r) → list_all q (records x) ≡ true → list_all q (flat_map met_in (steps g label r)) ≡ true
    files_to label fits clean all =
        ap (λ ss. list_all q (flat_map met_in ss)) (steps_are g label r clean) ∙ of_steps [] (met g label r) (news label clean) ∙ reached_to in_block g r label (to_record fits all)

-- ---- rule 10, levels and lengths

module _ (g : Ground) where
  abbrev starts : ℕ × InodeRecord → Bool
  starts f = are_levels f.1.reserve f.1.levels f.1.root.stamp

  abbrev levels_of : Item → ℕ → Option Placed → List Fault
  levels_of e block at = option_map_or (λ x. flat_map (λ (f : ℕ × InodeRecord). level_lines x.pvbn f.1.reserve f.1.levels f.1.root) (files_under e x)) at []

  levels_say : (e : Item) (b : ℕ) → levels_of e b (place_at g e) ≡ [] → in_block g starts e ≡ true
  levels_say e b none = so (place_at g e) none
    where
      so : (o : Option Placed) → levels_of e b o ≡ [] → option_map_or (λ x. list_all starts (files_under e x)) o true ≡ true
      so None none = refl
      so (Some x) none = all_from (λ (f : ℕ × InodeRecord). level_lines x.pvbn f.1.reserve f.1.levels f.1.root) starts (λ f. holds_from (starts f) _) (files_under e x) none

  levels_silent : (e : Item) (b : ℕ) → in_block g starts e ≡ true → levels_of e b (place_at g e) ≡ []
  levels_silent e b all = so (place_at g e) all
    where
      so : (o : Option Placed) → option_map_or (λ x. list_all starts (files_under e x)) o true ≡ true → levels_of e b o ≡ []
      so None all = refl
      so (Some x) all = clean_from (λ (f : ℕ × InodeRecord). level_lines x.pvbn f.1.reserve f.1.levels f.1.root) starts (λ f. none_from (starts f) _) (files_under e x) all

  module _ (r : Rooted) (label : ℕ) (clean : IsClean (steps g label r)) where
    pub levels_true : flat_map file_level_lines (steps g label r) ≡ [] → list_all starts (records (standing_of g.view g.slot r)) ≡ true
    unfolding file_level_lines
    levels_true none = record_from g starts r (passes g levels_of (in_block g starts) levels_say levels_silent label r clean none)

    pub no_level_lines : r.levels ≤ 2 → list_all starts (records (standing_of g.view g.slot r)) ≡ true → flat_map file_level_lines (steps g label r) ≡ []
    unfolding file_level_lines
    no_level_lines fits all = silent_where g levels_of (in_block g starts) levels_say levels_silent label r clean (to_record g starts r fits all)

    -- lengths
    abbrev within : ℕ × InodeRecord → Item → Bool
    within f e = not (is_cell_of f.0 e) || nat_lt e.place f.1.length

    abbrev lengths_of : List (ℕ × InodeRecord) → Item → ℕ → Option Placed → List Fault
    lengths_of fs e block at = flat_map (λ (f : ℕ × InodeRecord). unless (within f e) (line 10 block (before f.1.length) e.place)) fs

    abbrev met_files : List (ℕ × InodeRecord)
    met_files = flat_map met_in (steps g label r)

    abbrev is_long : ℕ × InodeRecord → Bool
    is_long f = list_all (within f) (items (standing_of g.view g.slot r))

    crossed : (fs : List (ℕ × InodeRecord)) (es : List Item) → list_all (λ e. list_all (λ f. within f e) fs) es ≡ true → list_all (λ f. list_all (within f) es) fs ≡ true
    crossed fs [] all = none fs
      where
        none : (fs : List (ℕ × InodeRecord)) → list_all (λ (f : ℕ × InodeRecord). true) fs ≡ true
        none [] = refl
        none (f ∷ fs) = none fs
    crossed fs (e ∷ es) all =
        let parts = and_parts (list_all (λ f. within f e) fs) _ all in
        joined fs parts.0 (crossed fs es parts.1)
      where
        joined : (fs : List (ℕ × InodeRecord)) → list_all (λ f. within f e) fs ≡ true → list_all (λ f. list_all (within f) es) fs ≡ true → list_all (λ f. within f e && list_all (within f) es) fs ≡ true
        joined [] a b = refl
        joined (f ∷ fs) a b =
            let one = and_parts (within f e) _ a in
            let more = and_parts (list_all (within f) es) _ b in
            and_from (within f e && list_all (within f) es) _ (and_from (within f e) _ one.0 more.0) (joined fs one.1 more.1)

    crosses : (fs : List (ℕ × InodeRecord)) (es : List Item) → list_all (λ f. list_all (within f) es) fs ≡ true → list_all (λ e. list_all (λ f. within f e) fs) es ≡ true
    crosses fs [] all = refl
    crosses fs (e ∷ es) all = let parts = parted fs all in and_from (list_all (λ f. within f e) fs) _ parts.0 (crosses fs es parts.1)
      where
        parted : (fs : List (ℕ × InodeRecord)) → list_all (λ f. within f e && list_all (within f) es) fs ≡ true → (list_all (λ f. within f e) fs ≡ true) × (list_all (λ f. list_all (within f) es) fs ≡ true)
        parted [] all = (refl, refl)
        parted (f ∷ fs) all =
            let here = and_parts (within f e && list_all (within f) es) _ all in
            let both = and_parts (within f e) _ here.0 in
            let rest = parted fs here.1 in
            (and_from (within f e) _ both.0 rest.0, and_from (list_all (within f) es) _ both.1 rest.1)

    lengths_say : (fs : List (ℕ × InodeRecord)) (e : Item) (b : ℕ) → lengths_of fs e b (place_at g e) ≡ [] → list_all (λ f. within f e) fs ≡ true
    lengths_say fs e b none = all_from (λ (f : ℕ × InodeRecord). unless (within f e) (line 10 b (before f.1.length) e.place)) (λ f. within f e) (λ f. holds_from (within f e) _) fs none

    lengths_silent : (fs : List (ℕ × InodeRecord)) (e : Item) (b : ℕ) → list_all (λ f. within f e) fs ≡ true → lengths_of fs e b (place_at g e) ≡ []
    lengths_silent fs e b all = clean_from (λ (f : ℕ × InodeRecord). unless (within f e) (line 10 b (before f.1.length) e.place)) (λ f. within f e) (λ f. none_from (within f e) _) fs all

    pub lengths_true : flat_map (length_lines met_files) (steps g label r) ≡ [] → list_all is_long (records (standing_of g.view g.slot r)) ≡ true
    unfolding length_lines
    lengths_true none = files_from g is_long r label clean (crossed met_files (items (standing_of g.view g.slot r))
        (passes g (lengths_of met_files) (λ e. list_all (λ f. within f e) met_files) (lengths_say met_files) (lengths_silent met_files) label r clean none))

    pub no_length_lines : r.levels ≤ 2 → list_all is_long (records (standing_of g.view g.slot r)) ≡ true → flat_map (length_lines met_files) (steps g label r) ≡ []
    unfolding length_lines
    no_length_lines fits all = silent_where g (lengths_of met_files) (λ e. list_all (λ f. within f e) met_files) (lengths_say met_files) (lengths_silent met_files) label r clean
        (crosses met_files (items (standing_of g.view g.slot r)) (files_to g is_long r label fits clean all))
