-- What is judged along a clean walk is what rules 11 and 12 say of its steps.
use Rattle.std.proofs.Common.{◌≡◌, ℕ, ◌+◌, ◌*◌, Bool, true, false, List, [], ◌∷◌, ◌++◌, map, refl, sym, ap, subst, ◌∙◌, arith, Ok, Err}
use Rattle.std.specs.Prelude.{flat_map, count_by, cond, not, ◌&&◌, ◌||◌, Option, Some, None, Result, ◌==◌, if◌then◌else◌}
use Rattle.std.specs.Option.{option_map}
use Rattle.std.specs.List.{enumerate_from}
use Rattle.std.proofs.lemmas.List.Sums.{sum_by-cons}
use Rattle.std.proofs.lemmas.List.Folds.{flat_map-map}
use Rattle.fv_codec.specs.declared.shape.Shape.{Shape}
use Rattle.fv_codec.specs.declared.pointer.Pointer.{Pointer}
use Rattle.fv_codec.specs.declared.node.Node as nodes
use Rattle.fv_codec.specs.declared.inode.InodeRecord.{InodeRecord}
use Rattle.fv_codec.specs.declared.inode.InodeBlock.{InodeBlock}
use Rattle.fv_codec.specs.Blocks.{greatest_word, node_at, inodes_at}
use Rattle.fv_tables.specs.Told.{records_each}
use Rattle.fv_tables.specs.Reached.{Item}
use Rattle.fv_image.specs.Views.{Placed, Rooted}
use Rattle.fv_image.specs.HintRules.{is_known, is_true_hint, is_unknown}
use Rattle.fv_faults.specs.declared.lines.Lines.{Lines}
use Rattle.fv_faults.specs.Adding.{Adds}
use Rattle.fv_faults.specs.Lines.{unless, line}
use Rattle.fv_faults.specs.Walks.{Ground, Step, step, steps, child_of, children_of, file_root, files_of, files_under, pointers_under, used_from}
use Rattle.fv_faults.specs.Met.{Spot, place_at, met, IsClean}
use Rattle.fv_faults.specs.ThirdPass.{pvbn_at}
use Rattle.fv_faults.specs.FourthPass.{hint_lines, unknown_lines, unknown_under}
use Rattle.fv_faults.proofs.Plain.{steps_are}
use Rattle.fv_walk.specs.Sources.{found_of}
use Rattle.fv_walk.specs.declared.below.Below.TheVariants.{Nothing}
use Rattle.fv_walk.specs.Sights.{sight_of, spelled, node_in, inodes_in, below_of}
use Rattle.fv_fourth_pass.specs.Hinted.{has_unknown_root, hinted_lines, hints_of, is_right, judged, place_found, unknown_in, unknowns_of}
use Rattle.fv_faults.proofs.LinesAlong.{gathered, run_lines, spread}
use Rattle.fv_faults.proofs.Adding.{same_added}

-- ---- of one step

place_same : (at : Option Placed) → place_found (option_map found_of at) ≡ pvbn_at at
place_same None = refl
place_same (Some x) = refl

right_same : (p : Pointer) (at : Option Placed) → is_right p.pvbn (option_map found_of at) ≡ is_true_hint p at
right_same p None = refl
right_same p (Some x) = refl

-- the unknown pointers of a node
children_same : (e : Item) (k : ℕ) (cs : List Pointer) → count_by (λ (c : Item). is_unknown c.pointer) (map (child_of e) (enumerate_from k cs)) ≡ count_by is_unknown cs
children_same e k [] = refl
children_same e k (c ∷ cs) =
    let one = sum_by-cons (λ (c : Item). cond (is_unknown c.pointer) 1 0) (child_of e (k, c)) (map (child_of e) (enumerate_from (k + 1) cs)) in
    let other = sum_by-cons (λ (p : Pointer). cond (is_unknown p) 1 0) c cs in
    let rest = children_same e (k + 1) cs in
    omega (arith, one, other, rest)

-- those of the used records of an inode block
abbrev roots_unknown : Item → List (ℕ × InodeRecord) → ℕ
roots_unknown e fs = count_by (λ (c : Item). is_unknown c.pointer) (map (file_root e) fs)

roots_same : (e : Item) (n : ℕ) (rs : List InodeRecord) → roots_unknown e (used_from n rs) ≡ count_by has_unknown_root rs
unfolding used_from
roots_same e n [] = refl
roots_same e n (r ∷ rs) = so (roots_same e (n + 1) rs) (r.name_length == 0) ∙ sym (sum_by-cons (λ r. cond (has_unknown_root r) 1 0) r rs)
  where
    so : roots_unknown e (used_from (n + 1) rs) ≡ count_by has_unknown_root rs → (b : Bool)
        → roots_unknown e (if b then used_from (n + 1) rs else (n, r) ∷ used_from (n + 1) rs) ≡ cond (not b && is_unknown r.root) 1 0 + count_by has_unknown_root rs
    so rest true = let whole : roots_unknown e (used_from (n + 1) rs) ≡ 0 + count_by has_unknown_root rs = omega (arith, rest) in whole
    so rest false =
        let one : roots_unknown e ((n, r) ∷ used_from (n + 1) rs) ≡ cond (is_unknown r.root) 1 0 + roots_unknown e (used_from (n + 1) rs) = sum_by-cons (λ (c : Item). cond (is_unknown c.pointer) 1 0) (file_root e (n, r)) (map (file_root e) (used_from (n + 1) rs)) in
        one ∙ ap (λ m. cond (is_unknown r.root) 1 0 + m) rest

unknown_same : (e : Item) (at : Option Placed) → unknown_in (below_of e at) ≡ unknown_under e at
unfolding below_of spelled pointers_under files_under
unknown_same e None = refl
unknown_same e (Some x) = so (e.level == 0)
  where
    inodes : (r : Result InodeBlock Shape) → unknown_in (inodes_in r) ≡ roots_unknown e (files_of e.place r)
    inodes (Ok b) = sym (roots_same e (records_each * e.place) b.files)
    inodes (Err shape) = refl

    cells : (b : Bool) → unknown_in (if b then inodes_in (inodes_at x.block) else Nothing) ≡ roots_unknown e (if b then files_of e.place (inodes_at x.block) else [])
    cells true = inodes (inodes_at x.block)
    cells false = refl

    node : (r : Result nodes.Node Shape) → unknown_in (node_in r) ≡ count_by (λ (c : Item). is_unknown c.pointer) (children_of e r)
    node (Ok n) = sym (children_same e 0 n.children)
    node (Err shape) = refl

    so : (b : Bool) → unknown_in (if b then (if e.owner == greatest_word then inodes_in (inodes_at x.block) else Nothing) else node_in (node_at x.block))
        ≡ count_by (λ (c : Item). is_unknown c.pointer) (if b then map (file_root e) (if b && (e.owner == greatest_word) then files_of e.place (inodes_at x.block) else []) else children_of e (node_at x.block))
    so true = cells (e.owner == greatest_word)
    so false = node (node_at x.block)

module _ (g : Ground) (done : List Step) (p : Spot) where
  hints_are : hints_of (sight_of g p) ≡ hint_lines (step g done p.0 p.1)
  unfolding hint_lines step
  hints_are =
      ap (λ n. unless (is_right p.0.pointer.pvbn (option_map found_of (place_at g p.0))) (line 11 p.1 n p.0.pointer.pvbn)) (place_same (place_at g p.0))
      ∙ ap (λ b. unless b (line 11 p.1 (pvbn_at (place_at g p.0)) p.0.pointer.pvbn)) (right_same p.0.pointer (place_at g p.0))

  unknowns_are : unknowns_of (sight_of g p) ≡ unknown_lines (step g done p.0 p.1)
  unfolding unknown_lines step
  unknowns_are = ap (λ n. unless (not (is_known p.0.pointer) || (n == 0)) (line 12 p.1 0 n)) (unknown_same p.0 (place_at g p.0))

  judged_is : hint_lines (step g done p.0 p.1) ++ unknown_lines (step g done p.0 p.1) ≡ judged (sight_of g p)
  judged_is = sym (ap (λ ls. ls ++ unknowns_of (sight_of g p)) hints_are ∙ ap (λ ls. hint_lines (step g done p.0 p.1) ++ ls) unknowns_are)

-- ---- of a walk

module _ (g : Ground) (label : ℕ) (r : Rooted) (clean : IsClean (steps g label r)) where
  abbrev ss : List Step
  ss = steps g label r

  -- the lines of the steps, pointer by pointer
  along : flat_map (λ st. hint_lines st ++ unknown_lines st) ss ≡ flat_map (λ p. judged (sight_of g p)) (met g label r)
  along =
      ap (flat_map (λ st. hint_lines st ++ unknown_lines st)) (steps_are g label r clean)
      ∙ run_lines g (λ st. hint_lines st ++ unknown_lines st) (λ p. judged (sight_of g p)) (λ done p. judged_is g done p) [] (met g label r)

  pub hinted_added : (old new : Lines) → Adds (flat_map judged (map (sight_of g) (met g label r))) old new → Adds (hinted_lines ss) old new
  hinted_added old new adds =
      same_added (flat_map (λ st. hint_lines st ++ unknown_lines st) ss) (hinted_lines ss) old new
      (λ f there. spread hint_lines unknown_lines ss f there)
      (λ f there. gathered hint_lines unknown_lines ss f there)
      (subst (λ ls. Adds ls old new) (sym along)
      (subst (λ ls. Adds ls old new) (flat_map-map judged (sight_of g) (met g label r)) adds))
