-- What is judged along a clean walk is what rules 9 and 10 say of its steps.
use Rattle.std.proofs.Common.{◌≡◌, ℕ, ◌+◌, ◌*◌, Bool, true, false, List, [], ◌∷◌, ◌++◌, map, refl, sym, ap, subst, ◌∙◌, ⊎_elim, arith, Ok, Err}
use Rattle.std.specs.Prelude.{flat_map, fold, max, nat_le, ◌&&◌, Option, Some, None, Result, ◌==◌, if◌then◌else◌}
use Rattle.std.specs.Option.{option_map, option_map_or}
use Rattle.std.specs.List.{enumerate_from}
use Rattle.std.proofs.lemmas.Bool.Decides.{nat_tests}
use Rattle.std.proofs.lemmas.List.Folds.{flat_map-map}
use Rattle.fv_codec.specs.declared.shape.Shape.{Shape}
use Rattle.fv_codec.specs.declared.pointer.Pointer.{Pointer}
use Rattle.fv_codec.specs.declared.node.Node as nodes
use Rattle.fv_codec.specs.declared.inode.InodeRecord.{InodeRecord}
use Rattle.fv_codec.specs.declared.inode.InodeBlock.{InodeBlock}
use Rattle.fv_codec.specs.Blocks.{greatest_word, node_at, inodes_at}
use Rattle.fv_laws.proofs.Lists.{In, in_left, in_right, in_either, from_flat_map}
use Rattle.fv_tables.specs.Told.{records_each}
use Rattle.fv_tables.specs.Reached.{Item}
use Rattle.fv_image.specs.Views.{Placed, Rooted, kind_at}
use Rattle.fv_image.specs.ReachRules.{kind_of}
use Rattle.fv_faults.specs.declared.fault.Fault.{Fault}
use Rattle.fv_faults.specs.declared.lines.Lines.{Lines}
use Rattle.fv_faults.specs.Adding.{Adds}
use Rattle.fv_faults.specs.Lines.{expects, unless, line}
use Rattle.fv_faults.specs.Walks.{Ground, Step, step, steps, child_of, children_of, file_root, files_of, files_under, used_from, pointers_under}
use Rattle.fv_faults.specs.Met.{Spot, place_at, met, IsClean}
use Rattle.fv_faults.specs.ThirdPass.{kind_lines, mark_lines, level_lines, file_level_lines, stamp_lines, greatest_stamp}
use Rattle.fv_faults.proofs.Plain.{steps_are}
use Rattle.fv_walk.specs.Sources.{found_of}
use Rattle.fv_walk.specs.declared.below.Below.TheVariants.{Nothing}
use Rattle.fv_walk.specs.Sights.{sight_of, spelled, node_in, inodes_in, below_of}
use Rattle.fv_third_pass.specs.Files.{levels_in, levels_of, record_lines}
use Rattle.fv_third_pass.specs.Judged.{kind_found, kinds_of, marks_in, marks_of, stamps_of, own_lines, judged, judged_lines}
use Rattle.fv_faults.proofs.Adding.{same_added}
use Rattle.fv_faults.proofs.LinesAlong.{run_lines, spread, gathered}

-- ---- of one step

kind_same : (at : Option Placed) → kind_found (option_map found_of at) ≡ kind_at at
kind_same None = refl
kind_same (Some x) = refl

-- the stamps of the children of a node
greatest_same : (e : Item) (k n : ℕ) (cs : List Pointer) → fold (λ n (c : Item). max n c.pointer.stamp) n (map (child_of e) (enumerate_from k cs)) ≡ fold (λ n (p : Pointer). max n p.stamp) n cs
greatest_same e k n [] = refl
greatest_same e k n (c ∷ cs) = greatest_same e (k + 1) (max n c.stamp) cs

abbrev mark_by : Item → ℕ → Placed → List Fault
mark_by e block x = unless (nat_le (greatest_stamp (pointers_under e x)) e.pointer.stamp) (line 10 block (greatest_stamp (pointers_under e x)) e.pointer.stamp)

marks_by : (e : Item) (block : ℕ) (at : Option Placed) → marks_in block e.pointer.stamp (below_of e at) ≡ (if e.level == 0 then [] else option_map_or (mark_by e block) at [])
unfolding below_of spelled pointers_under
marks_by e block None = so (e.level == 0)
  where
    so : (b : Bool) → ◌≡◌ {A = List Fault} [] (if b then [] else [])
    so true = refl
    so false = refl
marks_by e block (Some x) = so (e.level == 0)
  where
    inodes : (r : Result InodeBlock Shape) → marks_in block e.pointer.stamp (inodes_in r) ≡ []
    inodes (Ok b) = refl
    inodes (Err shape) = refl

    cells : (b : Bool) → marks_in block e.pointer.stamp (if b then inodes_in (inodes_at x.block) else Nothing) ≡ []
    cells true = inodes (inodes_at x.block)
    cells false = refl

    by_most : ℕ → List Fault
    by_most n = unless (nat_le n e.pointer.stamp) (line 10 block n e.pointer.stamp)

    node : (r : Result nodes.Node Shape) → marks_in block e.pointer.stamp (node_in r) ≡ by_most (greatest_stamp (children_of e r))
    node (Ok n) = ap by_most (sym (greatest_same e 0 0 n.children))
    node (Err shape) = let low : nat_le 0 e.pointer.stamp ≡ true = grind (arith, nat_tests) in sym (ap (λ b. unless b (line 10 block 0 e.pointer.stamp)) low)

    so : (b : Bool) → marks_in block e.pointer.stamp (if b then (if e.owner == greatest_word then inodes_in (inodes_at x.block) else Nothing) else node_in (node_at x.block))
        ≡ (if b then [] else by_most (greatest_stamp (if b then map (file_root e) (files_under e x) else children_of e (node_at x.block))))
    so true = cells (e.owner == greatest_word)
    so false = node (node_at x.block)

-- the files of the records in a block
abbrev file_levels : ℕ → ℕ × InodeRecord → List Fault
file_levels at f = level_lines at f.1.reserve f.1.levels f.1.root

used_same : (at n : ℕ) (rs : List InodeRecord) → flat_map (record_lines at) rs ≡ flat_map (file_levels at) (used_from n rs)
unfolding used_from
used_same at n [] = refl
used_same at n (r ∷ rs) = so (r.name_length == 0) (used_same at (n + 1) rs)
  where
    so : (b : Bool) → flat_map (record_lines at) rs ≡ flat_map (file_levels at) (used_from (n + 1) rs)
        → (if b then [] else level_lines at r.reserve r.levels r.root) ++ flat_map (record_lines at) rs ≡ flat_map (file_levels at) (if b then used_from (n + 1) rs else (n, r) ∷ used_from (n + 1) rs)
    so true rest = rest
    so false rest = ap (λ ls. level_lines at r.reserve r.levels r.root ++ ls) rest

levels_by : (e : Item) (at : Option Placed) → option_map_or (λ f. levels_in f.pvbn (below_of e at)) (option_map found_of at) [] ≡ option_map_or (λ x. flat_map (file_levels x.pvbn) (files_under e x)) at []
unfolding below_of spelled files_under
levels_by e None = refl
levels_by e (Some x) = so (e.level == 0) (e.owner == greatest_word)
  where
    inodes : (r : Result InodeBlock Shape) → levels_in x.pvbn (inodes_in r) ≡ flat_map (file_levels x.pvbn) (files_of e.place r)
    inodes (Ok b) = used_same x.pvbn (records_each * e.place) b.files
    inodes (Err shape) = refl

    node : (r : Result nodes.Node Shape) → levels_in x.pvbn (node_in r) ≡ []
    node (Ok n) = refl
    node (Err shape) = refl

    so : (b c : Bool) → levels_in x.pvbn (if b then (if c then inodes_in (inodes_at x.block) else Nothing) else node_in (node_at x.block))
        ≡ flat_map (file_levels x.pvbn) (if b && c then files_of e.place (inodes_at x.block) else [])
    so true true = inodes (inodes_at x.block)
    so true false = refl
    so false c = node (node_at x.block)

module _ (g : Ground) (done : List Step) (p : Spot) where
  kinds_are : kinds_of (sight_of g p) ≡ kind_lines (step g done p.0 p.1)
  unfolding kind_lines step
  kinds_are = ap (λ n. expects 9 p.1 (kind_of p.0) n) (kind_same (place_at g p.0))

  stamps_are : (last : ℕ) → stamps_of last (sight_of g p) ≡ stamp_lines last (step g done p.0 p.1)
  unfolding stamp_lines step
  stamps_are last = refl

  marks_are : marks_of (sight_of g p) ≡ mark_lines (step g done p.0 p.1)
  unfolding mark_lines step
  marks_are = marks_by p.0 p.1 (place_at g p.0)

  levels_are : levels_of (sight_of g p) ≡ file_level_lines (step g done p.0 p.1)
  unfolding file_level_lines step
  levels_are = levels_by p.0 (place_at g p.0)

-- ---- of a walk

module _ (g : Ground) (label : ℕ) (r : Rooted) (last : ℕ) (clean : IsClean (steps g label r)) where
  abbrev ps : List Spot
  ps = met g label r

  -- the lines of the steps, pointer by pointer
  kinds_along : flat_map kind_lines (steps g label r) ≡ flat_map (λ p. kinds_of (sight_of g p)) ps
  kinds_along = ap (flat_map kind_lines) (steps_are g label r clean) ∙ run_lines g kind_lines (λ p. kinds_of (sight_of g p)) (λ done p. sym (kinds_are g done p)) [] ps

  marks_along : flat_map mark_lines (steps g label r) ≡ flat_map (λ p. marks_of (sight_of g p)) ps
  marks_along = ap (flat_map mark_lines) (steps_are g label r clean) ∙ run_lines g mark_lines (λ p. marks_of (sight_of g p)) (λ done p. sym (marks_are g done p)) [] ps

  levels_along : flat_map file_level_lines (steps g label r) ≡ flat_map (λ p. levels_of (sight_of g p)) ps
  levels_along = ap (flat_map file_level_lines) (steps_are g label r clean) ∙ run_lines g file_level_lines (λ p. levels_of (sight_of g p)) (λ done p. sym (levels_are g done p)) [] ps

  stamps_along : flat_map (stamp_lines last) (steps g label r) ≡ flat_map (λ p. stamps_of last (sight_of g p)) ps
  stamps_along = ap (flat_map (stamp_lines last)) (steps_are g label r clean) ∙ run_lines g (stamp_lines last) (λ p. stamps_of last (sight_of g p)) (λ done p. sym (stamps_are g done p last)) [] ps

  abbrev kinds_shown : List Fault
  kinds_shown = flat_map (λ p. kinds_of (sight_of g p)) ps

  abbrev marks_shown : List Fault
  marks_shown = flat_map (λ p. marks_of (sight_of g p)) ps

  abbrev levels_shown : List Fault
  levels_shown = flat_map (λ p. levels_of (sight_of g p)) ps

  own_along : (own : Bool) → (if own then flat_map kind_lines (steps g label r) ++ (flat_map mark_lines (steps g label r) ++ flat_map file_level_lines (steps g label r)) else [])
      ≡ (if own then kinds_shown ++ (marks_shown ++ levels_shown) else [])
  own_along true =
      ap (λ ls. ls ++ (flat_map mark_lines (steps g label r) ++ flat_map file_level_lines (steps g label r))) kinds_along
      ∙ ap (λ ls. kinds_shown ++ (ls ++ flat_map file_level_lines (steps g label r))) marks_along
      ∙ ap (λ ls. kinds_shown ++ (marks_shown ++ ls)) levels_along
  own_along false = refl

  own_to : (own : Bool) (f : Fault) → In f (flat_map (λ p. own_lines own (sight_of g p)) ps) → In f (if own then kinds_shown ++ (marks_shown ++ levels_shown) else [])
  own_to true f there =
      let both = spread (λ p. kinds_of (sight_of g p)) (λ p. marks_of (sight_of g p) ++ levels_of (sight_of g p)) ps f there in
      let shown : List Fault = flat_map (λ p. marks_of (sight_of g p) ++ levels_of (sight_of g p)) ps in ⊎_elim
      (λ one. in_left f kinds_shown (marks_shown ++ levels_shown) one)
      (λ two. in_right f kinds_shown (marks_shown ++ levels_shown) (spread (λ p. marks_of (sight_of g p)) (λ p. levels_of (sight_of g p)) ps f two))
      (in_either f kinds_shown shown both)
  own_to false f there = let at = from_flat_map {X = Spot} (λ p. []) f ps there in absurd at.2

  own_from : (own : Bool) (f : Fault) → In f (if own then kinds_shown ++ (marks_shown ++ levels_shown) else []) → In f (flat_map (λ p. own_lines own (sight_of g p)) ps)
  own_from true f there =
      let shown : List Fault = flat_map (λ p. marks_of (sight_of g p) ++ levels_of (sight_of g p)) ps in
      gathered (λ p. kinds_of (sight_of g p)) (λ p. marks_of (sight_of g p) ++ levels_of (sight_of g p)) ps f (⊎_elim
      (λ one. in_left f kinds_shown shown one)
      (λ two. in_right f kinds_shown shown (gathered (λ p. marks_of (sight_of g p)) (λ p. levels_of (sight_of g p)) ps f two))
      (in_either f kinds_shown (marks_shown ++ levels_shown) there))
  own_from false f there = absurd there

  pub judged_added : (own : Bool) (old new : Lines) → Adds (flat_map (judged own last) (map (sight_of g) ps)) old new → Adds (judged_lines own last (steps g label r)) old new
  judged_added own old new adds =
      let stamps : List Fault = flat_map (λ p. stamps_of last (sight_of g p)) ps in
      let mine : List Fault = if own then kinds_shown ++ (marks_shown ++ levels_shown) else [] in
      let owned : List Fault = flat_map (λ p. own_lines own (sight_of g p)) ps in
      subst (λ ls. Adds ls old new) (sym (ap (λ ls. ls ++ flat_map (stamp_lines last) (steps g label r)) (own_along own) ∙ ap (λ ls. mine ++ ls) stamps_along))
      (same_added (flat_map (λ p. judged own last (sight_of g p)) ps) (mine ++ stamps) old new
      (λ f there. ⊎_elim
      (λ one. in_left f mine stamps (own_to own f one))
      (λ two. in_right f mine stamps two)
      (in_either f owned stamps (spread (λ p. own_lines own (sight_of g p)) (λ p. stamps_of last (sight_of g p)) ps f there)))
      (λ f there. gathered (λ p. own_lines own (sight_of g p)) (λ p. stamps_of last (sight_of g p)) ps f (⊎_elim
      (λ one. in_left f owned stamps (own_from own f one))
      (λ two. in_right f owned stamps two)
      (in_either f mine stamps there)))
      (subst (λ ls. Adds ls old new) (flat_map-map (judged own last) (sight_of g) ps) adds))
