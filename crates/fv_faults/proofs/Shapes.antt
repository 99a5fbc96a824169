-- Rules 1 and 4 of a block that a pointer leads to, as the one of its position: no line exactly where soundness' tests hold; and what a walk that finds nothing says of all.
use Rattle.std.proofs.Common.{◌≡◌, ℕ, Bool, true, false, not, List, [], ◌∷◌, ◌++◌, refl, ap, subst, ◌∙◌, arith, Result, Ok, Err}
use Rattle.std.specs.Prelude.{◌||◌, ◌==◌, nat_lt, if◌then◌else◌}
use Rattle.std.specs.List.{list_all}
use Rattle.std.proofs.lemmas.Bool.{and_from}
use Rattle.std.proofs.lemmas.List.Folds.{list_all-map}
use Rattle.std.proofs.lemmas.Bool.Decides.{nat_tests}
use Rattle.fv_codec.specs.declared.shape.Shape.{Shape}
use Rattle.fv_codec.specs.declared.node.Node.{Node}
use Rattle.fv_codec.specs.declared.inode.InodeBlock.{InodeBlock}
use Rattle.fv_codec.specs.Fields.{Verdict, in_range, verdict_of, ◌then◌}
use Rattle.fv_codec.specs.Blocks.{greatest_word, node_at, inodes_at}
use Rattle.fv_tables.specs.Reached.{Item, items}
use Rattle.fv_image.specs.Views.{Placed, Rooted}
use Rattle.fv_image.specs.Volumes.{standing_of}
use Rattle.fv_image.specs.Seen.{reached_at}
use Rattle.fv_image.specs.BlockRules.{is_fine}
use Rattle.fv_image.specs.ReachRules.{shape_for, block_is, is_of_position, node_is, inodes_are}
use Rattle.fv_faults.specs.Lines.{expects}
use Rattle.fv_faults.specs.Walks.{Ground, Step, step, block_lines, shape_lines, node_lines, inodes_lines, steps}
use Rattle.fv_faults.proofs.Clean.{parts_nil, nil_parts, holds_from, none_from}
use Rattle.fv_faults.proofs.Plain.{Spot, place_at, met, IsClean, steps_are}
use Rattle.fv_faults.proofs.Members.{all_met}
use Rattle.fv_faults.proofs.TableMembers.{reached_from}
use Rattle.fv_faults.proofs.Reached.{reached, IsFresh, AreFresh, all_fresh}

-- a number that is the wanted one
pub fine_one : (w f : ℕ) → (w == f) ≡ true → in_range w w f ≡ Ok tt
fine_one w f is =
    let low : nat_lt f w ≡ false = grind (arith, nat_tests, is) in
    let high : nat_lt w f ≡ false = grind (arith, nat_tests, is) in
    rw (low, high) refl

pub one_fine : (w f : ℕ) → is_fine (in_range w w f) ≡ true → (w == f) ≡ true
one_fine w f fine = so (nat_lt f w) refl (nat_lt w f) refl fine
  where
    so : (l : Bool) → nat_lt f w ≡ l → (h : Bool) → nat_lt w f ≡ h → is_fine (if l then Err (record { want = w; found = f }) else if h then Err (record { want = w; found = f }) else Ok tt) ≡ true → (w == f) ≡ true
    so true i h j fine = absurd cc
    so false i true j fine = absurd cc
    so false i false j fine = grind (arith, nat_tests, i, j)

pub then_fine : (a b : Verdict) → is_fine (a then b) ≡ true → (is_fine a ≡ true) × (is_fine b ≡ true)
then_fine (Ok fine) b is = (refl, is)
then_fine (Err fault) b is = absurd cc

-- ---- a node, and an inode block

node_fine : (at : ℕ) (e : Item) (r : Result Node Shape) → node_lines at e r ≡ [] → (is_fine (verdict_of r) ≡ true) × (node_is e r ≡ true)
node_fine at e (Err fault) none = absurd cc
node_fine at e (Ok n) none =
    let a = parts_nil (expects 4 at e.level n.level) _ none in
    let b = parts_nil (expects 4 at e.owner n.owner) _ a.1 in
    let level = fine_one e.level n.level (holds_from (e.level == n.level) _ a.0) in
    let owner = fine_one e.owner n.owner (holds_from (e.owner == n.owner) _ b.0) in
    let place_is = fine_one e.place n.place (holds_from (e.place == n.place) _ b.1) in
    (refl, λ i. is_fine ((level i) then ((owner i) then (place_is i))))

fine_node : (at : ℕ) (e : Item) (r : Result Node Shape) → is_fine (verdict_of r) ≡ true → node_is e r ≡ true → node_lines at e r ≡ []
fine_node at e (Err fault) shape is = absurd cc
fine_node at e (Ok n) shape is =
    let a = then_fine (in_range e.level e.level n.level) _ is in
    let b = then_fine (in_range e.owner e.owner n.owner) _ a.1 in
    nil_parts (expects 4 at e.level n.level) _ (none_from (e.level == n.level) _ (one_fine e.level n.level a.0))
    (nil_parts (expects 4 at e.owner n.owner) _ (none_from (e.owner == n.owner) _ (one_fine e.owner n.owner b.0)) (none_from (e.place == n.place) _ (one_fine e.place n.place b.1)))

inodes_fine : (at : ℕ) (e : Item) (r : Result InodeBlock Shape) → inodes_lines at e r ≡ [] → (is_fine (verdict_of r) ≡ true) × (inodes_are e r ≡ true)
inodes_fine at e (Err fault) none = absurd cc
inodes_fine at e (Ok b) none = (refl, ap is_fine (fine_one e.place b.index (holds_from (e.place == b.index) _ none)))

fine_inodes : (at : ℕ) (e : Item) (r : Result InodeBlock Shape) → is_fine (verdict_of r) ≡ true → inodes_are e r ≡ true → inodes_lines at e r ≡ []
fine_inodes at e (Err fault) shape is = absurd cc
fine_inodes at e (Ok b) shape is = none_from (e.place == b.index) _ (one_fine e.place b.index is)

-- ---- a block

pub shape_fine : (e : Item) (x : Placed) → shape_lines e x ≡ [] → (is_fine (shape_for e x.block) ≡ true) × (is_of_position e x.block ≡ true)
unfolding shape_lines
shape_fine e x none = so (e.level == 0) (e.owner == greatest_word) none
  where
    so : (l o : Bool) → (if l then (if o then inodes_lines x.pvbn e (inodes_at x.block) else []) else node_lines x.pvbn e (node_at x.block)) ≡ []
        → (is_fine (if l then (if o then verdict_of (inodes_at x.block) else Ok tt) else verdict_of (node_at x.block)) ≡ true) × ((if l then (not o || inodes_are e (inodes_at x.block)) else node_is e (node_at x.block)) ≡ true)
    so true true none = inodes_fine x.pvbn e (inodes_at x.block) none
    so true false none = (refl, refl)
    so false o none = node_fine x.pvbn e (node_at x.block) none

pub fine_shape : (e : Item) (x : Placed) → is_fine (shape_for e x.block) ≡ true → is_of_position e x.block ≡ true → shape_lines e x ≡ []
unfolding shape_lines
fine_shape e x shape is = so (e.level == 0) (e.owner == greatest_word) shape is
  where
    so : (l o : Bool) → is_fine (if l then (if o then verdict_of (inodes_at x.block) else Ok tt) else verdict_of (node_at x.block)) ≡ true → (if l then (not o || inodes_are e (inodes_at x.block)) else node_is e (node_at x.block)) ≡ true
        → (if l then (if o then inodes_lines x.pvbn e (inodes_at x.block) else []) else node_lines x.pvbn e (node_at x.block)) ≡ []
    so true true shape is = fine_inodes x.pvbn e (inodes_at x.block) shape is
    so true false shape is = refl
    so false o shape is = fine_node x.pvbn e (node_at x.block) shape is

-- ---- all that a root reaches

module _ (g : Ground) where
  pub fresh_all : (test : Item → Bool) → ((done : List Step) (p : Spot) → IsFresh g done p → test p.0 ≡ true) → (done : List Step) (ps : List Spot) → AreFresh g done ps → all_met test ps ≡ true
  fresh_all test each done [] are = refl
  fresh_all test each done (p ∷ ps) are = and_from (test p.0) _ (each done p are.0) (fresh_all test each (done ++ (step g done p.0 p.1 ∷ [])) ps are.1)

  of_shape : (done : List Step) (p : Spot) (is : IsFresh g done p) → shape_lines p.0 is.at ≡ []
  unfolding block_lines
  of_shape done p is = (parts_nil (shape_lines p.0 is.at) _ is.block).0

  has_shape : Item → Bool
  has_shape e = block_is (λ block. is_fine (shape_for e block)) (place_at g e)

  in_place : Item → Bool
  in_place e = block_is (is_of_position e) (place_at g e)

  -- Where the walk of a root finds nothing, each block that it reaches has its shape and is the one of its position.
  pub shapes_and_positions : (label : ℕ) (r : Rooted) → IsClean (steps g label r)
      → (list_all (λ e. block_is (λ block. is_fine (shape_for e.item block)) e.at) (reached g r) ≡ true) × (list_all (λ e. block_is (is_of_position e.item) e.at) (reached g r) ≡ true)
  unfolding has_shape in_place
  shapes_and_positions label r clean =
      let are = all_fresh g [] (met g label r) (subst IsClean (steps_are g label r clean) clean) in (
        list_all-map (λ e. block_is (λ block. is_fine (shape_for e.item block)) e.at) (reached_at g.view g.slot) (items (standing_of g.view g.slot r))
            ∙ reached_from has_shape g r label (fresh_all has_shape (λ done p is. ap (block_is (λ block. is_fine (shape_for p.0 block))) is.found ∙ (shape_fine p.0 is.at (of_shape done p is)).0) [] (met g label r) are),
        list_all-map (λ e. block_is (is_of_position e.item) e.at) (reached_at g.view g.slot) (items (standing_of g.view g.slot r))
            ∙ reached_from in_place g r label (fresh_all in_place (λ done p is. ap (block_is (is_of_position p.0)) is.found ∙ (shape_fine p.0 is.at (of_shape done p is)).1) [] (met g label r) are),
      )
