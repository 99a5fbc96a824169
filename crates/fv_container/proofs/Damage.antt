-- A leaf that has to stand somewhere on a disk, and doesn't.
use Rattle.std.proofs.Common.{◌≡◌, ◌≢◌, ℕ, ◌*◌, ◌/◌, ◌<◌, ◌≤◌, List, length, get_or, refl, sym, ap, subst, ◌∙◌, arith, ⊎_elim, Result, Ok, Err, Option, Some, None}
use Rattle.std.specs.Prelude.{IfSome}
use Rattle.std.proofs.lemmas.Bool.{cases_lt}
use Rattle.std.proofs.lemmas.List.{get_or_past}
use Rattle.fv_disk.specs.Shown.{Image}
use Rattle.fv_disk.specs.declared.fault.BlockFault.TheVariants.{Damaged}
use Rattle.fv_codec.specs.declared.shape.Shape.{Shape}
use Rattle.fv_image.specs.Containers.{IsNodeFault, level_width, node_shape}
use Rattle.fv_image.proofs.NodesOnce.{has_shape}
use Rattle.fv_container.specs.Mapped.{Mapped}
use Rattle.fv_container.specs.Paged.{Paged}
use Rattle.fv_container.specs.Clean.{IsCleanOn, IsOver}
use Rattle.fv_container.specs.Reading.{IsBadNode}
use Rattle.fv_container.specs.Spelled.{IsOpened}
use Rattle.fv_container.specs.Chains.{AreCleanOn, IsBadLeaf, IsFaultIn, IsLeafDamage, IsLeafFault, Slots, container_at, map_in, paged_at}
use Rattle.fv_container.proofs.Flushed.{leaf_whole}

-- each leaf of a tree that stands in an image does
leaf_stands : (i : Image) (map : Mapped) (k : ℕ) → IsOver i map → k < level_width (length map.entries) 0 → get_or map.tree k 0 ≢ 0 → node_shape 0 (i (get_or map.tree k 0)) ≡ Ok tt
leaf_stands i map k over low some =
    let within : k < length map.tree = ⊎_elim (λ (is : k < length map.tree). is) (λ (past : length map.tree ≤ k). absurd (some (get_or_past map.tree k 0 past))) (cases_lt k (length map.tree)) in
    has_shape 0 k (i (get_or map.tree k 0)) (leaf_whole over.stored k (i (get_or map.tree k 0)) ((over.written k within some).leaf (rw (over.long) low)))

map_over : (i : Image) (held : Option Paged) (map : Mapped) → IfSome held (IsCleanOn i) → map_in held ≡ Some map → IsOver i map
map_over i None map clean there = absurd cc
map_over i (Some paged) map clean there = let same : paged.map ≡ map = cc in subst (IsOver i) same clean.over

-- so none is damaged where the container is clean,
pub none_bad : (i : Image) (map : Mapped) (at want found : ℕ) → IsOver i map → IsBadLeaf i map at want found → ⊥
none_bad i map at want found over bad =
    let stands = leaf_stands i map bad.region over bad.within (λ none. bad.some (bad.place ∙ none)) in
    let wrong : ◌≡◌ {A = Result (Unit {0}) Shape} (Ok tt) (Err (record { want = want; found = found })) = sym stands ∙ ap (λ (p : ℕ). node_shape 0 (i p)) (sym bad.place) ∙ bad.fault in
    cc

-- and none of all where all are
pub none_damaged : (i : Image) (slots : Slots) (at want found : ℕ) → AreCleanOn i slots → IsLeafDamage i slots at want found → ⊥
none_damaged i slots at want found clean bad = none_bad i bad.map at want found (map_over i (paged_at slots bad.slot) bad.map (clean bad.slot) bad.there) bad.leaf

-- a fault of the leaf of a region
pub bad_leaf : (i : Image) (map : Mapped) (region at want found : ℕ) → 256 * region < length map.entries → IsBadNode i (get_or map.tree region 0) 0 (Damaged at want found) → IsBadLeaf i map at want found
bad_leaf i map region at want found inside (place, some, fault) = record {
  region = region;
  within = omega (arith, inside);
  place = place;
  some = λ none. some (sym place ∙ none);
  fault = subst (λ (p : ℕ). node_shape 0 (i p) ≡ Err (record { want = want; found = found })) (sym place) fault;
}

pub leaf_damage : (i : Image) (slots : Slots) (slot : ℕ) (paged : Paged) (region at want found : ℕ) → paged_at slots slot ≡ Some paged → 256 * region < length paged.map.entries
    → IsBadNode i (get_or paged.map.tree region 0) 0 (Damaged at want found) → IsLeafDamage i slots at want found
leaf_damage i slots slot paged region at want found there inside bad = record { slot = slot; map = paged.map; there = ap map_in there; leaf = bad_leaf i paged.map region at want found inside bad }

-- a fault that a look-up along a chain answers
pub chain_damage : (i : Image) (slots : Slots) (v at want found : ℕ) → IsLeafFault i slots v (Damaged at want found) → IsLeafDamage i slots at want found
chain_damage i slots v at want found bad = by (paged_at slots bad.slot) refl bad.reason
  where
    by : (held : Option Paged) → paged_at slots bad.slot ≡ held → IsFaultIn i held v (Damaged at want found) → IsLeafDamage i slots at want found
    by None there reason = absurd reason
    by (Some paged) there (within, reason) = leaf_damage i slots bad.slot paged (v / 256) at want found there (let inside : v < length paged.map.entries = within in omega (arith, inside)) reason

-- a leaf of a container that was opened is a node of its tree
pub opened_fault : (i : Image) (root height : ℕ) (map : Mapped) (at want found : ℕ) → IsOpened i root height map → IsBadLeaf i map at want found → IsNodeFault i root height (length map.entries) at want found
opened_fault i root height map at want found opened bad = record {
  node = record {
    level = 0;
    number = bad.region;
    below = omega arith;
    within = bad.within;
    place = bad.place ∙ opened.leaves bad.region bad.within;
    some = bad.some;
  };
  fault = bad.fault;
}

-- the tree of each container stands where it stood
abbrev pub HasTree : Mapped → Option Mapped → Type 0
HasTree map None = ⊥
HasTree map (Some now) = (now.tree ≡ map.tree) × (length now.entries ≡ length map.entries)

abbrev pub KeepTrees : Slots → Slots → Type 0
KeepTrees old new = (s : ℕ) → IfSome (container_at old s) (λ map. HasTree map (container_at new s))

-- and so does what isn't there
pub damage_stays : (i : Image) (old new : Slots) (at want found : ℕ) → KeepTrees old new → IsLeafDamage i old at want found → IsLeafDamage i new at want found
damage_stays i old new at want found keep bad = by (container_at new bad.slot) refl (subst (λ (held : Option Mapped). IfSome held (λ map. HasTree map (container_at new bad.slot))) bad.there (keep bad.slot))
  where
    by : (held : Option Mapped) → container_at new bad.slot ≡ held → HasTree bad.map (container_at new bad.slot) → IsLeafDamage i new at want found
    by None there tree = absurd (subst (HasTree bad.map) there tree)
    by (Some now) there tree = let same = subst (HasTree bad.map) there tree in record {
      slot = bad.slot;
      map = now;
      there = there;
      leaf = record {
        region = bad.leaf.region;
        within = subst (λ (n : ℕ). bad.leaf.region < level_width n 0) (sym same.1) bad.leaf.within;
        place = bad.leaf.place ∙ ap (λ (tree : List ℕ). get_or tree bad.leaf.region 0) (sym same.0);
        some = bad.leaf.some;
        fault = bad.leaf.fault;
      };
    }
