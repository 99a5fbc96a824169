-- A tree that was read from its root down.
use Rattle.std.proofs.Common.{◌≡◌, ℕ, suc, ◌+◌, ◌-◌, ◌/◌, ◌%◌, ◌<◌, ◌≤◌, List, length, get_or, ◌==◌, if◌then◌else◌, refl, sym, ap, ◌∙◌, arith, Result, Ok, Err}
use Rattle.std.specs.Prelude.{IfErr, OnOk}
use Rattle.fv_disk.specs.Shown.{Image}
use Rattle.fv_codec.specs.Blocks.{inner_at}
use Rattle.fv_image.specs.Containers.{child_in, level_width, lying, most_entries, node_below, node_of}
use Rattle.fv_disk.specs.declared.fault.BlockFault.{BlockFault}
use Rattle.fv_disk.specs.declared.fault.BlockFault.TheVariants.{DiskFault, Damaged, Memory}
use Rattle.fv_container.specs.Mapped.{node_count}
use Rattle.fv_container.specs.Spelled.{IsFault}
use Rattle.fv_container.specs.Reading.{AreChildren, AreShaped, IsBadNode, IsLevelFault, TreeAt}

pub fault_root : (i : Image) (root height entries : ℕ) (fault : BlockFault) → height ≡ 2 → IsBadNode i root 1 fault → IsFault i root height entries fault
unfolding node_below
fault_root i root height entries DiskFault high bad = tt
fault_root i root height entries Memory high bad = tt
fault_root i root height entries (Damaged at want found) high bad = record {
  node = record {
    level = 2;
    number = 0;
    below = omega (arith, high);
    within = omega arith;
    place = bad.0 ∙ rw high refl;
    some = λ none. bad.1 (sym bad.0 ∙ none);
  };
  fault = rw (bad.0) (bad.2);
}

pub fault_level : (i j : Image) (root height entries level from : ℕ) (places : List ℕ) (fault : BlockFault) → j ≡ i → level ≤ height → ((q : ℕ) → q < level_width entries level → get_or places (from + q) 0 ≡ node_of i root height level q)
    → IsLevelFault j level places from (level_width entries level) fault → IsFault i root height entries fault
fault_level i j root height entries level from places DiskFault same le at bad = tt
fault_level i j root height entries level from places Memory same le at bad = tt
fault_level i j root height entries level from places (Damaged place want found) same le at bad = record {
  node = record {
    level = level;
    number = bad.number;
    below = le;
    within = bad.within;
    place = bad.place ∙ at bad.number bad.within;
    some = bad.some;
  };
  fault = rw (← same) (bad.fault);
}

pub leaf_of : (i : Image) (root height k : ℕ) → 1 ≤ height → child_in (lying inner_at i (node_below i root (height - 1) (k / 256))) (k % 256) ≡ node_of i root height 0 k
unfolding node_below
leaf_of i root height k least =
    let up : height - 0 ≡ suc (height - 1) = omega (arith, least) in
    rw up refl

module _ (i j : Image) (root height entries : ℕ) (above places : List ℕ)
    (few : entries ≤ most_entries) (least : 1 ≤ height) (greatest : height ≤ 2) (long : length places ≡ node_count entries) (same : j ≡ i)
    (inner : (q : ℕ) → q < level_width entries 1 → get_or above (level_width entries 0 + q) 0 ≡ node_below i root (height - 1) q)
    (top : get_or above (level_width entries 0 + level_width entries 1) 0 ≡ (if height == 2 then root else 0))
    (leaves : AreChildren j above places (level_width entries 0) (level_width entries 0))
    (past : (m : ℕ) → level_width entries 0 ≤ m → get_or places m 0 ≡ get_or above m 0)
  where
    pub tree_read : TreeAt i root height entries places
    tree_read = record {
      few = few;
      least = least;
      greatest = greatest;
      long = long;
      leaf = λ k within.
          leaves k within ∙ ap (λ (x : Image). child_in (lying inner_at x (get_or above (level_width entries 0 + k / 256) 0)) (k % 256)) same
          ∙ ap (λ (p : ℕ). child_in (lying inner_at i p) (k % 256)) (inner (k / 256) (omega (arith, within)))
          ∙ leaf_of i root height k least;
      inner = λ q within. past (level_width entries 0 + q) (omega arith) ∙ inner q within;
      top = past (level_width entries 0 + level_width entries 1) (omega arith) ∙ top;
    }

pub shaped_at : (i j : Image) (level from count : ℕ) (above places : List ℕ) → j ≡ i → ((m : ℕ) → from ≤ m → get_or places m 0 ≡ get_or above m 0) → AreShaped j level above from count → AreShaped i level places from count
shaped_at i j level from count above places same past shaped = λ q within some.
    let at : get_or places (from + q) 0 ≡ get_or above (from + q) 0 = past (from + q) (omega arith) in
    rw (at, ← same) (shaped q within (λ none. some (at ∙ none)))

pub fault_of : (result : Result (Unit {0}) BlockFault) (P Q : BlockFault → Type 0) → ((fault : BlockFault) → P fault → Q fault) → IfErr result P → IfErr result Q
fault_of (Ok unit) P Q weaker holds = tt
fault_of (Err fault) P Q weaker holds = weaker fault holds

pub both_ok : (result : Result (Unit {0}) BlockFault) (P Q R : Type 0) → (P → Q → R) → OnOk result P → OnOk result Q → OnOk result R
both_ok (Ok unit) P Q R gives p q = gives p q
both_ok (Err fault) P Q R gives p q = tt
