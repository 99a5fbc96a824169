-- What is said of cells by the lengths of files is what rule 10 says by the files themselves.
use Rattle.std.proofs.Common.{◌≡◌, ℕ, ◌≤◌, Bool, true, false, not, List, [], map, refl, sym, ap, subst, ◌∙◌, arith}
use Rattle.std.specs.Prelude.{flat_map, nat_lt, ◌||◌, ◌&&◌, Option, Some, None, ◌==◌, if◌then◌else◌}
use Rattle.std.proofs.lemmas.Bool.{and_from}
use Rattle.std.proofs.lemmas.Bool.Decides.{nat_tests}
use Rattle.fv_codec.specs.Blocks.{greatest_word}
use Rattle.fv_laws.proofs.Lists.{In, in_flat_map, from_flat_map}
use Rattle.fv_tables.specs.Reached.{Item}
use Rattle.fv_image.specs.Views.{Rooted}
use Rattle.fv_image.specs.TableRules.{is_cell_of}
use Rattle.fv_faults.specs.declared.fault.Fault.{Fault}
use Rattle.fv_faults.specs.declared.lines.Lines.{Lines}
use Rattle.fv_faults.specs.Adding.{Adds}
use Rattle.fv_faults.specs.Lines.{line, unless}
use Rattle.fv_faults.specs.Walks.{Ground, Step, step, steps, met_in}
use Rattle.fv_faults.specs.Met.{Spot, met, IsClean}
use Rattle.fv_faults.specs.ThirdPass.{before, length_lines}
use Rattle.fv_faults.proofs.Plain.{steps_are}
use Rattle.fv_walk.specs.Sights.{sight_of}
use Rattle.fv_third_pass.specs.declared.lengths.Records.{Records}
use Rattle.fv_third_pass.specs.Lengths.{length_if, lengths_along}
use Rattle.fv_third_pass.proofs.Behind.{File, said, said_along}
use Rattle.fv_third_pass.proofs.Keeping.{HasLengths, are_known, last_length, lengths_are}
use Rattle.fv_faults.proofs.Adding.{same_added}
use Rattle.fv_faults.proofs.LinesAlong.{run_lines}

-- ---- of one pointer

module _ (long : ℕ → Option ℕ) (files : List File) (has : HasLengths long files) (e : Item) (block : ℕ) (f : Fault) where
  abbrev of_file : File → List Fault
  of_file h = unless (not (is_cell_of h.0 e) || nat_lt e.place h.1.length) (line 10 block (before h.1.length) e.place)

  look : (o : Option ℕ) → long e.owner ≡ o → (e.level == 0) ≡ true → In f (length_if block e.place o) → In f (flat_map of_file files)
  look None found is there = absurd there
  look (Some n) found is there =
      let one = has.only e.owner n found in
      let number = one.number in
      let owner : (e.owner == one.file.0) ≡ true = grind (arith, nat_tests, number) in
      let cell : is_cell_of one.file.0 e ≡ true = and_from (e.owner == one.file.0) _ owner is in
      in_flat_map of_file one.file f files one.there
      (subst (In f)
      (sym (ap (λ (c : Bool). unless (not c || nat_lt e.place one.file.1.length) (line 10 block (before one.file.1.length) e.place)) cell
      ∙ ap (λ (n : ℕ). unless (nat_lt e.place n) (line 10 block (before n) e.place)) one.long))
      there)

  abbrev by : Bool → Bool → List Fault
  by cell inodes = if not cell || inodes then [] else length_if block e.place (long e.owner)

  cell_to : In f (by (e.level == 0) (e.owner == greatest_word)) → In f (flat_map of_file files)
  cell_to there = so (e.level == 0) (e.owner == greatest_word) refl there
    where
      so : (cell inodes : Bool) → (e.level == 0) ≡ cell → In f (by cell inodes) → In f (flat_map of_file files)
      so false inodes is there = absurd there
      so true true is there = absurd there
      so true false is there = look (long e.owner) refl is there

  of_one : (h : File) → In h files → (b : Bool) → (e.owner == h.0) ≡ b → (c : Bool) → (i : Bool) → (e.owner == greatest_word) ≡ i
      → In f (unless (not (b && c) || nat_lt e.place h.1.length) (line 10 block (before h.1.length) e.place)) → In f (by c i)
  of_one h inside false owner c i top there = absurd there
  of_one h inside true owner false i top there = absurd there
  of_one h inside true owner true true top there = absurd (has.far h inside (let same : h.0 ≡ greatest_word = grind (arith, nat_tests, owner, top) in same))
  of_one h inside true owner true false top there =
      let same : e.owner ≡ h.0 = grind (arith, nat_tests, owner) in
      let found : long e.owner ≡ Some h.1.length = ap long same ∙ has.held h inside in
      subst (λ (o : Option ℕ). In f (length_if block e.place o)) (sym found) there

  cell_from : In f (flat_map of_file files) → In f (by (e.level == 0) (e.owner == greatest_word))
  cell_from there = let at = from_flat_map of_file f files there in of_one at.0 at.1 (e.owner == at.0.0) refl (e.level == 0) (e.owner == greatest_word) refl at.2

-- ---- of a walk

-- what the files say of a pointer
abbrev of_files : List File → Spot → List Fault
of_files files p = flat_map (λ (h : File). unless (not (is_cell_of h.0 p.0) || nat_lt p.0.place h.1.length) (line 10 p.1 (before h.1.length) p.0.place)) files

of_step : (g : Ground) (files : List File) (done : List Step) (p : Spot) → length_lines files (step g done p.0 p.1) ≡ of_files files p
unfolding length_lines step
of_step g files done p = refl

module _ (g : Ground) (label : ℕ) (r : Rooted) (clean : IsClean (steps g label r)) where
  abbrev ps : List Spot
  ps = met g label r

  abbrev files : List File
  files = flat_map met_in (steps g label r)

  along : flat_map (length_lines files) (steps g label r) ≡ flat_map (of_files files) ps
  along = ap (flat_map (length_lines files)) (steps_are g label r clean) ∙ run_lines g (length_lines files) (of_files files) (of_step g files) [] ps

  pub lengths_added : r.levels ≤ 2 → (q : Option Records) (old new : Lines) → Adds (lengths_along q (map (sight_of g) ps)) old new → Adds (flat_map (length_lines files) (steps g label r)) old new
  lengths_added fits q old new adds =
      let long : ℕ → Option ℕ = last_length files in
      let has : HasLengths long files = lengths_are g label r clean fits in
      subst (λ ls. Adds ls old new) (sym along)
      (same_added (flat_map (said g long) ps) (flat_map (of_files files) ps) old new
      (λ f there. let at = from_flat_map (said g long) f ps there in in_flat_map (of_files files) at.0 f ps at.1 (cell_to long files has at.0.0 at.0.1 f at.2))
      (λ f there. let at = from_flat_map (of_files files) f ps there in in_flat_map (said g long) at.0 f ps at.1 (cell_from long files has at.0.0 at.0.1 f at.2))
      (subst (λ ls. Adds ls old new) (said_along g long label r (are_known g label r clean long has) q) adds))
