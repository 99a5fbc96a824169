-- What is seen along a walk.
use Rattle.std.proofs.Common.{◌≡◌, ◌≢◌, ℕ, ◌+◌, ◌<◌, Bool, true, false, List, [], ◌∷◌, ◌++◌, length, get_or, take, refl, sym, ap, subst, ◌∙◌}
use Rattle.std.specs.Prelude.{Option, Some, None, not, ◌&&◌, ◌||◌, map, flat_map, ◌==◌, if◌then◌else◌}
use Rattle.std.specs.Option.{is_some, option_map, option_map_or}
use Rattle.std.proofs.lemmas.List.{append-nil, map-append, take_more}
use Rattle.std.proofs.lemmas.List.Folds.{flat_map-map}
use Rattle.std.proofs.lemmas.Grind.{flat_map-append}
use Rattle.fv_codec.specs.Blocks.{greatest_word, node_at, inodes_at}
use Rattle.fv_tables.specs.Reached.{Item}
use Rattle.fv_image.specs.Views.{Placed}
use Rattle.fv_image.specs.Chains.{place}
use Rattle.fv_faults.specs.Walks.{Ground, pointers_under}
use Rattle.fv_faults.specs.Met.{Spot, place_at}
use Rattle.fv_walk.specs.declared.source.Found.{Found}
use Rattle.fv_walk.specs.declared.visit.Visit.{Visit}
use Rattle.fv_walk.specs.declared.below.Below.{Below}
use Rattle.fv_walk.specs.declared.below.Below.TheVariants.{Nothing}
use Rattle.fv_walk.specs.Sources.{found_of, found_at, IsBlockAt}
use Rattle.fv_walk.specs.Visits.{item_of, spot_of, visit_of, leads_on}
use Rattle.fv_walk.specs.Sights.{Sight, node_in, inodes_in, below_of, spelled, pointers_in, sight_of}
use Rattle.fv_walk.specs.Meetings.{met_from, under_met}
use Rattle.fv_walk.proofs.Spelled.{spelled_pointers}
use Rattle.fv_walk.proofs.Blocks.{no_pointers}
use Rattle.fv_walk.proofs.Meetings.{met_none, met_one}

-- ---- where a VVBN is found

pub record IsFoundAt (g : Ground) (e : Item) (f : Found) : Type 0 where
  pub x : Placed
  pub is : place_at g e ≡ Some x
  pub found : f ≡ found_of x

not_none : (f : Found) → Some f ≡ None → ⊥
not_none f e = cc

pub found_there : (g : Ground) (e : Item) (f : Found) → Some f ≡ found_at g e.pointer.vvbn → IsFoundAt g e f
found_there g e f is = so (place g.view g.slot e.pointer.vvbn) refl is
  where
    so : (at : Option Placed) → place g.view g.slot e.pointer.vvbn ≡ at → Some f ≡ option_map found_of at → IsFoundAt g e f
    so None here e = absurd (not_none f e)
    so (Some x) here e = record { x = x; is = here; found = ap (λ (o : Option Found). option_map_or (λ (y : Found). y) o f) e }

pub found_nowhere : (g : Ground) (e : Item) → None ≡ found_at g e.pointer.vvbn → place_at g e ≡ None
found_nowhere g e is = so (place g.view g.slot e.pointer.vvbn) refl is
  where
    so : (at : Option Placed) → place g.view g.slot e.pointer.vvbn ≡ at → None ≡ option_map found_of at → place_at g e ≡ None
    so None here e = here
    so (Some x) here e = absurd (not_none (found_of x) (sym e))

pub found_is : (g : Ground) (e : Item) (f : Found) (x : Placed) → Some f ≡ found_at g e.pointer.vvbn → place_at g e ≡ Some x → f ≡ found_of x
found_is g e f x is there = ap (λ (o : Option Found). option_map_or (λ (y : Found). y) o f) (is ∙ ap (option_map found_of) there)

-- by a test whether there is a place
pub lacks_place : (g : Ground) (e : Item) (at : Option Found) → at ≡ found_at g e.pointer.vvbn → is_some at ≡ false → place_at g e ≡ None
lacks_place g e None is none = found_nowhere g e is
lacks_place g e (Some f) is none = absurd cc

pub has_place : (g : Ground) (e : Item) (at : Option Found) → at ≡ found_at g e.pointer.vvbn → is_some at ≡ true → (x : Placed) × (place_at g e ≡ Some x)
has_place g e None is some = absurd cc
has_place g e (Some f) is some = let there = found_there g e f is in (there.x, there.is)

-- ---- what stands there

pub below_nowhere : (g : Ground) (e : Item) → None ≡ found_at g e.pointer.vvbn → Nothing ≡ below_of e (place_at g e)
unfolding below_of
below_nowhere g e is = sym (ap (below_of e) (found_nowhere g e is))

pub below_data : (v : Visit) (at : Option Placed) → leads_on v ≡ false → Nothing ≡ below_of (item_of v) at
unfolding below_of spelled
below_data v None holds = refl
below_data v (Some x) holds = so (v.level == 0) (v.owner == greatest_word) holds
  where
    so : (cell inodes : Bool) → (not cell || inodes) ≡ false → Nothing ≡ (if cell then (if inodes then inodes_in (inodes_at x.block) else Nothing) else node_in (node_at x.block))
    so true false e = refl
    so true true e = absurd cc
    so false inodes e = absurd cc

pub below_block : (g : Ground) (e : Item) (f : Found) (block : List ℕ) (below : Below) → Some f ≡ found_at g e.pointer.vvbn → IsBlockAt g f.pvbn block → below ≡ spelled e block
    → below ≡ below_of e (place_at g e)
unfolding below_of
below_block g e f block below is gives spells =
    let there = found_there g e f is in
    spells
    ∙ ap (spelled e) (gives e.pointer.vvbn there.x there.is (sym (ap (λ (y : Found). y.pvbn) there.found)))
    ∙ sym (ap (below_of e) there.is)

pub sight_is : (g : Ground) (v : Visit) (at : Option Found) (below : Below) → at ≡ found_at g v.pointer.vvbn → below ≡ below_of (item_of v) (place_at g (item_of v))
    → ◌≡◌ {A = Sight} (record { visit = v; at = at; below = below }) (sight_of g (spot_of v))
sight_is g v at below found stands = λ i. record { visit = v; at = found i; below = stands i }

-- ---- what is met

module _ (g : Ground) (of_inodes : Bool) (v : Visit) where
  -- below pointers that a walk goes along
  abbrev pub met_along : List Visit → List Spot
  met_along vs = flat_map (λ (w : Visit). met_from g (of_inodes && not (v.level == 0)) (item_of w) w.block) vs

  pub met_hole : v.pointer.stamp ≡ 0 → [] ≡ met_from g of_inodes (item_of v) v.block
  met_hole none = sym (met_none g (item_of v) of_inodes v.block none)

  pub met_nowhere : v.pointer.stamp ≢ 0 → place_at g (item_of v) ≡ None → spot_of v ∷ [] ≡ met_from g of_inodes (item_of v) v.block
  met_nowhere some none = sym (met_one g (item_of v) of_inodes v.block some ∙ ap (λ at. spot_of v ∷ option_map_or (under_met g of_inodes (item_of v)) at []) none)

  pub met_cell : (x : Placed) → v.pointer.stamp ≢ 0 → place_at g (item_of v) ≡ Some x → ((v.level == 0) && not of_inodes) ≡ true
      → spot_of v ∷ [] ≡ met_from g of_inodes (item_of v) v.block
  met_cell x some is test =
      sym (met_one g (item_of v) of_inodes v.block some
      ∙ ap (λ at. spot_of v ∷ option_map_or (under_met g of_inodes (item_of v)) at []) is
      ∙ ap (λ (b : Bool). spot_of v ∷ (if b then [] else flat_map (λ c. met_from g (of_inodes && not (v.level == 0)) c x.pvbn) (pointers_under (item_of v) x))) test)

  -- the pointers of its block
  abbrev pub visits_in : ℕ → List Item → List Visit
  visits_in block es = map (λ (e : Item). visit_of (e, block)) es

  pub met_block : (x : Placed) (vs : List Visit) → v.pointer.stamp ≢ 0 → place_at g (item_of v) ≡ Some x → ((v.level == 0) && not of_inodes) ≡ false
      → vs ≡ visits_in x.pvbn (pointers_under (item_of v) x) → spot_of v ∷ met_along vs ≡ met_from g of_inodes (item_of v) v.block
  met_block x vs some is test are =
      ap (λ ws. spot_of v ∷ met_along ws) are
      ∙ ap (λ ss. spot_of v ∷ ss) (flat_map-map (λ (w : Visit). met_from g (of_inodes && not (v.level == 0)) (item_of w) w.block) (λ (e : Item). visit_of (e, x.pvbn)) (pointers_under (item_of v) x))
      ∙ sym (met_one g (item_of v) of_inodes v.block some
      ∙ ap (λ at. spot_of v ∷ option_map_or (under_met g of_inodes (item_of v)) at []) is
      ∙ ap (λ (b : Bool). spot_of v ∷ (if b then [] else flat_map (λ c. met_from g (of_inodes && not (v.level == 0)) c x.pvbn) (pointers_under (item_of v) x))) test)

  -- nothing is met below a data block
  pub met_data : v.pointer.stamp ≢ 0 → leads_on v ≡ false → spot_of v ∷ [] ≡ met_from g of_inodes (item_of v) v.block
  met_data some quiet = so (place_at g (item_of v)) refl
    where
      by : (x : Placed) → place_at g (item_of v) ≡ Some x → (t : Bool) → ((v.level == 0) && not of_inodes) ≡ t → spot_of v ∷ [] ≡ met_from g of_inodes (item_of v) v.block
      by x is true test = met_cell x some is test
      by x is false test = met_block x [] some is test (sym (ap (visits_in x.pvbn) (no_pointers v x quiet)))

      so : (at : Option Placed) → place_at g (item_of v) ≡ at → spot_of v ∷ [] ≡ met_from g of_inodes (item_of v) v.block
      so None is = met_nowhere some is
      so (Some x) is = by x is ((v.level == 0) && not of_inodes) refl

  -- one pointer more
  pub along_more : (vs : List Visit) (k : ℕ) (d : Visit) (inside : Bool) → k < length vs → inside ≡ (of_inodes && not (v.level == 0))
      → (spot_of v ∷ met_along (take k vs)) ++ met_from g inside (item_of (get_or vs k d)) (get_or vs k d).block ≡ spot_of v ∷ met_along (take (k + 1) vs)
  along_more vs k d inside low is =
      ap (λ (b : Bool). spot_of v ∷ (met_along (take k vs) ++ met_from g b (item_of (get_or vs k d)) (get_or vs k d).block)) is
      ∙ ap (λ ss. spot_of v ∷ (met_along (take k vs) ++ ss)) (sym (append-nil (met_from g (of_inodes && not (v.level == 0)) (item_of (get_or vs k d)) (get_or vs k d).block)))
      ∙ ap (λ ss. spot_of v ∷ ss) (sym (flat_map-append (λ (w : Visit). met_from g (of_inodes && not (v.level == 0)) (item_of w) w.block) (take k vs) (get_or vs k d ∷ [])))
      ∙ ap (λ ws. spot_of v ∷ met_along ws) (sym (take_more vs k d low))

  -- one pointer more that a visitor is shown, in the same volume
  pub sees_more : {X : Type 0} (sees : X → List Sight → X → Type 0) (sees_on : (old mid new : X) (first second : List Sight) → sees old first mid → sees mid second new → sees old (first ++ second) new)
      (vs : List Visit) (k : ℕ) (d : Visit) (inside : Bool) (old mid new : X) (h : Ground) → h ≡ g → k < length vs → inside ≡ (of_inodes && not (v.level == 0))
      → sees old (map (sight_of g) (spot_of v ∷ met_along (take k vs))) mid
      → sees mid (map (sight_of h) (met_from h inside (item_of (get_or vs k d)) (get_or vs k d).block)) new
      → sees old (map (sight_of g) (spot_of v ∷ met_along (take (k + 1) vs))) new
  sees_more sees sees_on vs k d inside old mid new h same low is before after =
      let w : Visit = get_or vs k d in
      let first : List Spot = spot_of v ∷ met_along (take k vs) in
      let second : List Spot = met_from g inside (item_of w) w.block in
      subst (λ (ss : List Spot). sees old (map (sight_of g) ss) new) (along_more vs k d inside low is)
      (subst (λ (xs : List Sight). sees old xs new) (sym (map-append (sight_of g) first second))
      (sees_on old mid new (map (sight_of g) first) (map (sight_of g) second) before
      (subst (λ (j : Ground). sees mid (map (sight_of j) (met_from j inside (item_of w) w.block)) new) same after)))

  -- the pointers that stand below are those of the block there
  pub under_block : (x : Placed) (f : Found) (below : Below) (vs : List Visit) → place_at g (item_of v) ≡ Some x → f ≡ found_of x
      → below ≡ below_of (item_of v) (place_at g (item_of v)) → vs ≡ visits_in f.pvbn (pointers_in (item_of v) below) → vs ≡ visits_in x.pvbn (pointers_under (item_of v) x)
  unfolding below_of
  under_block x f below vs is found stands are =
      are
      ∙ ap (λ (y : Found). visits_in y.pvbn (pointers_in (item_of v) below)) found
      ∙ ap (λ w. visits_in x.pvbn (pointers_in (item_of v) w)) (stands ∙ ap (below_of (item_of v)) is)
      ∙ ap (visits_in x.pvbn) (spelled_pointers (item_of v) x)
