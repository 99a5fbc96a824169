-- What a step leaves of what a walk keeps.
use Rattle.std.proofs.Common.{◌≡◌, ◌≢◌, ℕ, ◌<◌, Bool, true, false, List, [], ◌∷◌, ◌++◌, refl, sym, ap, subst, ◌∙◌, length, set, cond, arith}
use Rattle.std.specs.Prelude.{Option, Some, None, not, ◌||◌, flat_map, ◌==◌, if◌then◌else◌}
use Rattle.std.specs.Option.{option_map_or}
use Rattle.std.proofs.Math.Bool.{or-false, or-true}
use Rattle.std.proofs.lemmas.Bool.Decides.{nat_tests}
use Rattle.std.proofs.lemmas.List.{append-nil}
use Rattle.std.proofs.lemmas.List.Concat.{flat_map-append}
use Rattle.std.proofs.lemmas.List.Folds.{list_any-append}
use Rattle.fv_bits.specs.Members.{is_member}
use Rattle.fv_bits.proofs.Laws.{is_member-set}
use Rattle.fv_codec.specs.declared.inode.InodeRecord.{InodeRecord}
use Rattle.fv_tables.specs.Reached.{Item}
use Rattle.fv_image.specs.Views.{Placed}
use Rattle.fv_faults.specs.declared.fault.Fault.{Fault}
use Rattle.fv_faults.specs.declared.lines.Lines.{Lines}
use Rattle.fv_faults.specs.Lines.{line}
use Rattle.fv_faults.specs.Adding.{Adds}
use Rattle.fv_faults.specs.Walks.{Step, Ground, Going, step, below_if, block_lines, step_lines, files_under, has_reached, met_in}
use Rattle.fv_faults.specs.Met.{place_at}
use Rattle.fv_faults.proofs.Adding.{adds_then}
use Rattle.fv_walk.specs.declared.state.State.{State}
use Rattle.fv_walk.specs.Goings.{Tracks}
use Rattle.fv_walk.specs.Naming.{IsNames}

module _ (g : Ground) (e : Item) (block : ℕ) (done : List Step) where
  -- ---- what a step says, by whether its VVBN was reached before and by where that is found

  abbrev lines_by : Bool → Option Placed → List Fault
  lines_by reached at = if reached then line 5 block 1 2 ∷ []
      else option_map_or (block_lines g.view.blocks g.span (flat_map met_in done) e) at (line 5 block 1 0 ∷ [])

  abbrev met_by : Bool → Option Placed → List (ℕ × InodeRecord)
  met_by reached at = if not reached then option_map_or (files_under e) at [] else []

  lines_are : (reached : Bool) (at : Option Placed) → has_reached done e.pointer.vvbn ≡ reached → place_at g e ≡ at → (step g done e block).lines ≡ lines_by reached at
  unfolding step step_lines
  lines_are reached at test found = ap (λ t. lines_by t (place_at g e)) test ∙ ap (lines_by reached) found

  met_are : (reached : Bool) (at : Option Placed) → has_reached done e.pointer.vvbn ≡ reached → place_at g e ≡ at → met_in (step g done e block) ≡ met_by reached at
  unfolding step
  met_are reached at test found = ap (λ t. met_by t (place_at g e)) test ∙ ap (met_by reached) found

  pub at_is : (step g done e block).at ≡ place_at g e
  unfolding step
  at_is = refl

  pub item_is : (step g done e block).item ≡ e
  unfolding step
  item_is = refl

  -- ---- what was reached

  reached_more : (v : ℕ) → has_reached (done ++ (step g done e block ∷ [])) v ≡ (has_reached done v || (e.pointer.vvbn == v))
  unfolding step
  reached_more v =
      list_any-append (λ (s : Step). s.item.pointer.vvbn == v) done (step g done e block ∷ [])
      ∙ ap (λ (b : Bool). has_reached done v || b) (or-false (e.pointer.vvbn == v))

  -- ---- one step more

  module _ (before : Lines) (old new : State) (lines left : Lines) (tracks : Tracks g before done old lines) where
    -- where these are its lines and the files that it meets
    tracks_with : (ls : List Fault) (fs : List (ℕ × InodeRecord)) → (step g done e block).lines ≡ ls → met_in (step g done e block) ≡ fs
        → ((v : ℕ) → v < g.span → is_member new.reach v ≡ (is_member old.reach v || (e.pointer.vvbn == v)))
        → Adds ls lines left → IsNames (flat_map met_in done ++ fs) new.names → Tracks g before (done ++ (step g done e block ∷ [])) new left
    tracks_with ls fs says meets grows adds names =
        let s : Step = step g done e block in
        let all_lines : flat_map (λ (t : Step). t.lines) (done ++ (s ∷ [])) ≡ flat_map (λ (t : Step). t.lines) done ++ ls =
        flat_map-append (λ (t : Step). t.lines) done (s ∷ []) ∙ ap (λ xs. flat_map (λ (t : Step). t.lines) done ++ xs) (append-nil s.lines ∙ says) in
        let all_met : flat_map met_in (done ++ (s ∷ [])) ≡ flat_map met_in done ++ fs =
        flat_map-append met_in done (s ∷ []) ∙ ap (λ xs. flat_map met_in done ++ xs) (append-nil (met_in s) ∙ meets) in
        record {
          reach = λ v low. grows v low ∙ ap (λ (b : Bool). b || (e.pointer.vvbn == v)) (tracks.reach v low) ∙ sym (reached_more v);
          names = subst (λ met. IsNames met new.names) (sym all_met) names;
          lines = subst (λ ls. Adds ls before left) (sym all_lines) (adds_then (flat_map (λ (t : Step). t.lines) done) ls before lines left tracks.lines adds);
        }

    -- a VVBN that was reached before
    pub tracks_again : has_reached done e.pointer.vvbn ≡ true
        → ((v : ℕ) → v < g.span → is_member new.reach v ≡ (is_member old.reach v || (e.pointer.vvbn == v)))
        → Adds (line 5 block 1 2 ∷ []) lines left → new.names ≡ old.names → Tracks g before (done ++ (step g done e block ∷ [])) new left
    tracks_again test grows adds same =
        tracks_with (line 5 block 1 2 ∷ []) [] (lines_are true (place_at g e) test refl) (met_are true (place_at g e) test refl) grows adds
        (subst (IsNames (flat_map met_in done ++ [])) (sym same) (subst (λ met. IsNames met old.names) (sym (append-nil (flat_map met_in done))) tracks.names))

    -- a VVBN that is a hole along the chain
    pub tracks_hole : has_reached done e.pointer.vvbn ≡ false → place_at g e ≡ None
        → ((v : ℕ) → v < g.span → is_member new.reach v ≡ (is_member old.reach v || (e.pointer.vvbn == v)))
        → Adds (line 5 block 1 0 ∷ []) lines left → new.names ≡ old.names → Tracks g before (done ++ (step g done e block ∷ [])) new left
    tracks_hole test none grows adds same =
        tracks_with (line 5 block 1 0 ∷ []) [] (lines_are false None test none) (met_are false None test none) grows adds
        (subst (IsNames (flat_map met_in done ++ [])) (sym same) (subst (λ met. IsNames met old.names) (sym (append-nil (flat_map met_in done))) tracks.names))

    -- a VVBN that leads to a block
    pub tracks_block : (x : Placed) → has_reached done e.pointer.vvbn ≡ false → place_at g e ≡ Some x
        → ((v : ℕ) → v < g.span → is_member new.reach v ≡ (is_member old.reach v || (e.pointer.vvbn == v)))
        → Adds (block_lines g.view.blocks g.span (flat_map met_in done) e x) lines left → IsNames (flat_map met_in done ++ files_under e x) new.names
        → Tracks g before (done ++ (step g done e block ∷ [])) new left
    tracks_block x test found grows adds names =
        tracks_with (block_lines g.view.blocks g.span (flat_map met_in done) e x) (files_under e x)
        (lines_are false (Some x) test found) (met_are false (Some x) test found) grows adds names

  -- ---- whether the walk goes on

  -- it doesn't where there are lines
  pub ends_with : (ls : List Fault) → (step g done e block).lines ≡ ls → ls ≢ [] → (below : Placed → Going) (after : List Step)
      → below_if below (step g done e block).lines (step g done e block).at after ≡ after
  ends_with ls says some below after = ap (λ xs. below_if below xs (step g done e block).at after) says ∙ so ls some
    where
      so : (xs : List Fault) → xs ≢ [] → below_if below xs (step g done e block).at after ≡ after
      so [] never = absurd (never refl)
      so (f ∷ fs) has = refl

  pub again_lines : has_reached done e.pointer.vvbn ≡ true → (step g done e block).lines ≡ line 5 block 1 2 ∷ []
  again_lines test = lines_are true (place_at g e) test refl

  pub hole_lines : has_reached done e.pointer.vvbn ≡ false → place_at g e ≡ None → (step g done e block).lines ≡ line 5 block 1 0 ∷ []
  hole_lines test none = lines_are false None test none

  pub lines_of_block : (x : Placed) → has_reached done e.pointer.vvbn ≡ false → place_at g e ≡ Some x
      → (step g done e block).lines ≡ block_lines g.view.blocks g.span (flat_map met_in done) e x
  lines_of_block x test found = lines_are false (Some x) test found

-- ---- the bits

-- a bit that was set says no more
pub same_grows : (reach : List Bool) (w v : ℕ) → is_member reach w ≡ true → is_member reach v ≡ (is_member reach v || (w == v))
same_grows reach w v has = so (w == v) refl
  where
    so : (b : Bool) → (w == v) ≡ b → is_member reach v ≡ (is_member reach v || b)
    so false test = sym (or-false (is_member reach v))
    so true test =
        let same : w ≡ v = grind (arith, nat_tests, test) in
        let holds : is_member reach v ≡ true = ap (is_member reach) (sym same) ∙ has in
        holds ∙ sym (ap (λ (x : Bool). x || true) holds)

-- one that is set now is the one more
pub set_grows : (reach : List Bool) (w v : ℕ) → w < length reach → is_member (set reach w true) v ≡ (is_member reach v || (w == v))
set_grows reach w v low = is_member-set reach w true v low ∙ so (v == w) (w == v) refl refl
  where
    so : (a b : Bool) → (v == w) ≡ a → (w == v) ≡ b → cond a true (is_member reach v) ≡ (is_member reach v || b)
    so true true x y = sym (or-true (is_member reach v))
    so false false x y = sym (or-false (is_member reach v))
    so true false x y = absurd (grind (arith, nat_tests, x, y))
    so false true x y = absurd (grind (arith, nat_tests, x, y))
