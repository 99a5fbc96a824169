-- Images that agree on the nodes of a container's tree spell the same map.
use Rattle.std.proofs.Common.{◌≡◌, ◌≢◌, ℕ, zero, suc, ◌-◌, ◌/◌, ◌%◌, ◌<◌, ◌≤◌, List, refl, sym, ap, subst, ◌∙◌, arith, ⊎_elim}
use Rattle.std.specs.Prelude.{Result, nat_lt, true, false}
use Rattle.std.proofs.lemmas.Bool.{cases_lt}
use Rattle.std.proofs.lemmas.Bool.Decides.{nat_tests}
use Rattle.fv_disk.specs.Shown.{Image}
use Rattle.fv_codec.specs.declared.shape.Shape.{Shape}
use Rattle.fv_codec.specs.Blocks.{inner_at, leaf_at}
use Rattle.fv_image.specs.Containers.{level_width, lying, child_in, entry_in, node_below, node_of, container_entry, has_none_past, HasNonePast, IsNodePlace}

-- the images agree on each node of the tree
abbrev pub AgreeOnTree : Image → Image → ℕ → ℕ → ℕ → Type 0
AgreeOnTree i j root height entries = (b : ℕ) → IsNodePlace i root height entries b → j b ≡ i b

same_lying : {X : Type 0} (read : List ℕ → Result X Shape) (i j : Image) (p : ℕ) → (p ≢ 0 → j p ≡ i p) → lying read j p ≡ lying read i p
same_lying read i j zero same = refl
same_lying {X} read i j (suc p) same = ap (λ (b : List ℕ). lying read (λ _. b) (suc p)) (same (omega arith))

-- the parent of a node of a level is a node of the level above
parent_within : (entries level q : ℕ) → q < level_width entries level → q / 256 < level_width entries (suc level)
parent_within entries level q within = omega (arith, within)

pub same_node : (i j : Image) (root height entries steps q : ℕ) → AgreeOnTree i j root height entries → steps ≤ height → q < level_width entries (height - steps) → node_below j root steps q ≡ node_below i root steps q
unfolding node_below
same_node i j root height entries zero q agree le within = refl
same_node i j root height entries (suc steps) q agree le within =
    let up : suc (height - suc steps) ≡ height - steps = omega (arith, le) in
    let inside : q / 256 < level_width entries (height - steps) = rw (← up) (parent_within entries (height - suc steps) q within) in
    let same : node_below j root steps (q / 256) ≡ node_below i root steps (q / 256) = same_node i j root height entries steps (q / 256) agree (omega (arith, le)) inside in
    let level : height - (height - steps) ≡ steps = omega (arith, le) in
    let p = node_below i root steps (q / 256) in
    rw same (ap (λ n. child_in n (q % 256)) (same_lying inner_at i j p (λ some. agree p (record {
      level = height - steps;
      number = q / 256;
      below = omega arith;
      within = inside;
      place = rw level refl;
      some = some;
    }))))

-- each node lies at the same place
pub same_place : (i j : Image) (root height entries level number : ℕ) → AgreeOnTree i j root height entries → level ≤ height → number < level_width entries level → node_of j root height level number ≡ node_of i root height level number
same_place i j root height entries level number agree low within =
    let back : height - (height - level) ≡ level = omega (arith, low) in
    same_node i j root height entries (height - level) number agree (omega arith) (subst (λ (k : ℕ). number < level_width entries k) (sym back) within)

-- so what is said of each node stays
pub nodes_still : (i j : Image) (root height entries : ℕ) (Says : ℕ → ℕ → List ℕ → Type 0) → AgreeOnTree i j root height entries
    → ((level number : ℕ) → level ≤ height → number < level_width entries level → node_of i root height level number ≢ 0 → Says level number (i (node_of i root height level number)))
    → (level number : ℕ) → level ≤ height → number < level_width entries level → node_of j root height level number ≢ 0 → Says level number (j (node_of j root height level number))
nodes_still i j root height entries Says agree each level number low within some =
    let same : node_of j root height level number ≡ node_of i root height level number = same_place i j root height entries level number agree low within in
    let there : node_of i root height level number ≢ 0 = λ none. some (same ∙ none) in
    let block : j (node_of i root height level number) ≡ i (node_of i root height level number) = agree (node_of i root height level number) (record {
      level = level;
      number = number;
      below = low;
      within = within;
      place = refl;
      some = there;
    }) in
    subst (λ (b : List ℕ). Says level number b) (sym (ap j same ∙ block)) (each level number low within there)

-- and so does that no node has anything past the entries
pub ends_still : (i j : Image) (root height entries : ℕ) → AgreeOnTree i j root height entries → HasNonePast i root height entries → HasNonePast j root height entries
ends_still i j root height entries agree is = record { nodes = nodes_still i j root height entries (λ level number b. has_none_past entries level number b ≡ true) agree is.nodes }

pub same_entries : (i j : Image) (root height entries : ℕ) → AgreeOnTree i j root height entries → (v : ℕ) → container_entry j root height entries v ≡ container_entry i root height entries v
unfolding container_entry
same_entries i j root height entries agree v = ⊎_elim
    (λ (inside : v < entries).
    let test : nat_lt v entries ≡ true = grind (arith, nat_tests) in
    let leaf : v / 256 < level_width entries (height - height) = rw (none height) (omega (arith, inside)) in
    let same : node_below j root height (v / 256) ≡ node_below i root height (v / 256) = same_node i j root height entries height (v / 256) agree (omega arith) leaf in
    let p = node_below i root height (v / 256) in
    rw (test, same) (ap (λ n. entry_in n (v % 256)) (same_lying leaf_at i j p (λ some. agree p (record {
      level = 0;
      number = v / 256;
      below = omega arith;
      within = omega (arith, inside);
      place = rw (all height) refl;
      some = some;
    })))))
    (λ (past : entries ≤ v).
    let test : nat_lt v entries ≡ false = grind (arith, nat_tests) in
    rw test refl)
    (cases_lt v entries)
  where
    none : (h : ℕ) → h - h ≡ 0
    none h = omega arith

    all : (h : ℕ) → h - 0 ≡ h
    all h = omega arith
