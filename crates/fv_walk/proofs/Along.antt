-- How a walk with its stops goes on from a pointer.
use Rattle.std.proofs.Common.{◌≡◌, ◌≢◌, ℕ, ◌+◌, ◌<◌, Bool, true, false, List, [], ◌∷◌, ◌++◌, length, get_or, take, cond, refl, sym, ap, subst, ◌∙◌, arith}
use Rattle.std.specs.Prelude.{Some, None, not, ◌&&◌, map, ◌==◌, if◌then◌else◌}
use Rattle.std.specs.List.{All}
use Rattle.std.proofs.lemmas.Bool.Decides.{nat_tests}
use Rattle.fv_tables.specs.Reached.{Item}
use Rattle.fv_image.specs.Views.{Placed}
use Rattle.fv_faults.specs.declared.lines.Lines.{Lines}
use Rattle.fv_faults.specs.Walks.{Step, Ground, step, each, below_if, pointers_under}
use Rattle.fv_walk.specs.declared.limits.Limits.{Limits}
use Rattle.fv_walk.specs.declared.state.State.{State}
use Rattle.fv_walk.specs.declared.visit.Visit.{Visit}
use Rattle.fv_walk.specs.Visits.{IsUnder, IsVisit, item_of, visit_of}
use Rattle.fv_walk.specs.Blocks.{IsInRange}
use Rattle.fv_walk.specs.Limiting.{IsLimitsOf}
use Rattle.fv_walk.specs.Goings.{going_from, under_going, StepsTo, Tracks}
use Rattle.fv_walk.proofs.Goings.{each_map, each_more, goes_nowhere, goes_on}
use Rattle.fv_walk.proofs.Steps.{item_is}

-- ---- what stays from one pointer to the next

pub limits_stay : (g h : Ground) (l m : Limits) → h ≡ g → m ≡ l → IsLimitsOf g l → IsLimitsOf h m
limits_stay g h l m same kept of = subst (λ (k : Ground). IsLimitsOf k m) (sym same) (subst (IsLimitsOf g) (sym kept) of)

pub range_stays : (l m : Limits) (w : Visit) → m ≡ l → IsInRange l w → IsInRange m w
range_stays l m w kept range = subst (λ (x : Limits). IsInRange x w) (sym kept) range

pub all_visits : (v : Visit) (l m : Limits) (ws : List Visit) → m ≡ l → All (λ w. IsUnder v w × IsInRange l w) ws → All (λ w. IsVisit w × IsInRange m w) ws
all_visits v l m ws kept under = λ k d low. ((under k d low).0.is, range_stays l m (get_or ws k d) kept (under k d low).1)

pub tracks_as : (g : Ground) (before : Lines) (done : List Step) (s t : State) (x y : Lines) → t ≡ s → y ≡ x → Tracks g before done s x → Tracks g before done t y
tracks_as g before done s t x y state lines tracks = subst (λ ls. Tracks g before done t ls) (sym lines) (subst (λ r. Tracks g before done r x) (sym state) tracks)

-- each pointer below another one is lower, where those of files are lower than those of the inode file
pub falls : (of_inodes inside : Bool) (v w : Visit) → inside ≡ (of_inodes && not (v.level == 0)) → ((v.level == 0) && not of_inodes) ≡ false → IsUnder v w
    → cond inside 4 0 + w.level < cond of_inodes 4 0 + v.level
falls of_inodes inside v w is test under =
    subst (λ (b : Bool). cond b 4 0 + w.level < cond of_inodes 4 0 + v.level) (sym is) (so of_inodes (v.level == 0) refl test)
  where
    so : (i cell : Bool) → (v.level == 0) ≡ cell → (cell && not i) ≡ false → cond (i && not cell) 4 0 + w.level < cond i 4 0 + v.level
    so true true is_cell some = let low = under.is.level in omega (arith, low)
    so true false is_cell some = let lower = under.lower (grind (arith, nat_tests, is_cell)) in omega (arith, lower)
    so false true is_cell never = absurd cc
    so false false is_cell some = let lower = under.lower (grind (arith, nat_tests, is_cell)) in omega (arith, lower)

-- ---- the steps along a pointer, and those below it

module _ (g : Ground) (of_inodes : Bool) (v : Visit) (done : List Step) where
  abbrev pub here : Step
  here = step g done (item_of v) v.block

  abbrev pub all : List Step
  all = going_from g of_inodes (item_of v) v.block done

  -- the steps along pointers below it
  abbrev pub along : List Visit → List Step → List Step
  along vs = each (λ (w : Visit). going_from g (of_inodes && not (v.level == 0)) (item_of w) w.block) vs

  pub going_hole : v.pointer.stamp ≡ 0 → done ≡ all
  going_hole none = sym (goes_nowhere g (item_of v) of_inodes v.block done none)

  pub going_ends : v.pointer.stamp ≢ 0 → StepsTo here None → done ++ (here ∷ []) ≡ all
  going_ends some ends = sym (goes_on g (item_of v) of_inodes v.block done some ∙ ends (under_going g of_inodes (item_of v)) (done ++ (here ∷ [])))

  goes_below : (x : Placed) → v.pointer.stamp ≢ 0 → here.lines ≡ [] → here.at ≡ Some x → all ≡ under_going g of_inodes (item_of v) x (done ++ (here ∷ []))
  goes_below x some silent found =
      goes_on g (item_of v) of_inodes v.block done some
      ∙ ap (λ ls. below_if (under_going g of_inodes (item_of v)) ls here.at (done ++ (here ∷ []))) silent
      ∙ ap (λ at. below_if (under_going g of_inodes (item_of v)) [] at (done ++ (here ∷ []))) found

  by_test : (x : Placed) (t : Bool) → ((v.level == 0) && not of_inodes) ≡ t
      → under_going g of_inodes (item_of v) x (done ++ (here ∷ []))
      ≡ (if t then done ++ (here ∷ []) else each (λ c. going_from g (of_inodes && not (v.level == 0)) c x.pvbn) (pointers_under (item_of v) x) (done ++ (here ∷ [])))
  by_test x t test = ap (λ b. if b then done ++ (here ∷ []) else each (λ c. going_from g (of_inodes && not (v.level == 0)) c x.pvbn) (pointers_under (item_of v) x) (done ++ (here ∷ []))) test

  pub going_cell : (vs : List Visit) → v.pointer.stamp ≢ 0 → StepsTo here (Some vs) → ((v.level == 0) && not of_inodes) ≡ true → done ++ (here ∷ []) ≡ all
  going_cell vs some goes test = sym (goes_below goes.0 some goes.2 goes.1 ∙ by_test goes.0 true test)

  pub going_block : (vs : List Visit) → v.pointer.stamp ≢ 0 → StepsTo here (Some vs) → ((v.level == 0) && not of_inodes) ≡ false → along vs (done ++ (here ∷ [])) ≡ all
  going_block vs some goes test =
      let x : Placed = goes.0 in
      let are : vs ≡ map (λ (c : Item). visit_of (c, x.pvbn)) (pointers_under (item_of v) x) =
      goes.3 ∙ ap (λ e. map (λ (c : Item). visit_of (c, x.pvbn)) (pointers_under e x)) (item_is g (item_of v) v.block done) in
      ap (λ ws. along ws (done ++ (here ∷ []))) are
      ∙ each_map (λ (w : Visit). going_from g (of_inodes && not (v.level == 0)) (item_of w) w.block) (λ (c : Item). visit_of (c, x.pvbn)) (pointers_under (item_of v) x) (done ++ (here ∷ []))
      ∙ sym (goes_below x some goes.2 goes.1 ∙ by_test x false test)

  -- nothing stands below a data block
  pub going_data : v.pointer.stamp ≢ 0 → StepsTo here (Some []) → done ++ (here ∷ []) ≡ all
  going_data some goes = so ((v.level == 0) && not of_inodes) refl
    where
      so : (t : Bool) → ((v.level == 0) && not of_inodes) ≡ t → done ++ (here ∷ []) ≡ all
      so true test = going_cell [] some goes test
      so false test = going_block [] some goes test

  along_more : (vs : List Visit) (n : ℕ) (d : Visit) (from : List Step) → n < length vs
      → along (take (n + 1) vs) from
      ≡ going_from g (of_inodes && not (v.level == 0)) (item_of (get_or vs n d)) (get_or vs n d).block (along (take n vs) from)
  along_more vs n d from low =
      each_more (λ (w : Visit). going_from g (of_inodes && not (v.level == 0)) (item_of w) w.block) vs n d from low

  -- one pointer more, along which a call went in the same volume
  pub tracks_more : (h : Ground) (inside : Bool) (before : Lines) (mid new : State) (lines left : Lines) (vs : List Visit) (n : ℕ) (d : Visit) (from : List Step)
      → h ≡ g → inside ≡ (of_inodes && not (v.level == 0)) → n < length vs
      → (Tracks h before (along (take n vs) from) mid lines
      → Tracks h before (going_from h inside (item_of (get_or vs n d)) (get_or vs n d).block (along (take n vs) from)) new left)
      → Tracks g before (along (take n vs) from) mid lines → Tracks g before (along (take (n + 1) vs) from) new left
  tracks_more h inside before mid new lines left vs n d from same is low call tracks =
      let w : Visit = get_or vs n d in
      let so_far : List Step = along (take n vs) from in
      let went : Tracks g before (going_from g inside (item_of w) w.block so_far) new left =
      subst (λ (k : Ground). Tracks k before so_far mid lines → Tracks k before (going_from k inside (item_of w) w.block so_far) new left) same call tracks in
      subst (λ (ds : List Step). Tracks g before ds new left) (sym (along_more vs n d from low))
      (subst (λ (b : Bool). Tracks g before (going_from g b (item_of w) w.block so_far) new left) is went)
