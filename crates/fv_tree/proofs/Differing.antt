-- How much of what is in memory differs from its blocks, where a flush places a block.
use Rattle.std.proofs.Common.{rules, ◌≡◌, ◌≢◌, ◌≤◌, ◌<◌, ℕ, ◌+◌, ◌/◌, Bool, true, false, cond, Option, Some, None, refl, sym, ap, ◌∙◌, arith}
use Rattle.std.specs.Prelude.{unwrap_or}
use Rattle.std.specs.Option.{option_map}
use Rattle.std.specs.Ordering.{is_eq, nat_cmp}
use Rattle.std.specs.Cmp.{IsTotalOrder}
use Rattle.std.specs.Cmp.Rules.{comparing}
use Rattle.std.specs.Map.{remove_entry, set_value}
use Rattle.std.specs.BTreeMap as maps
use Rattle.fv_codec.specs.declared.pointer.Pointer.{Pointer}
use Rattle.fv_model.specs.Trees.{fan, Spot, spot_cmp}
use Rattle.fv_tree.specs.declared.kept.Tree.{Tree}
use Rattle.fv_tree.specs.declared.kept.KeptNode.{KeptNode}
use Rattle.fv_tree.specs.declared.kept.KeptCell.{KeptCell}
use Rattle.fv_tree.specs.Sources.{Shown}
use Rattle.fv_tree.specs.Flushing.{cell_changed, changed_in, changed_of, node_changed, node_placed, pointer_in, Stands}
use Rattle.fv_tree.specs.Carried.{MarksNode}
use Rattle.fv_tree.specs.Costs.{cells_changed, changes_in, pending, Fits}
use Rattle.fv_tree.proofs.Gone.{spot_changed}
use Rattle.fv_tree.proofs.MapMarks.{counted, few_marked, one_fewer, set_again, set_one, some_marked}
use Rattle.fv_tree.proofs.Moved.{shown_is}
use Rattle.fv_tree.proofs.Observed.{elsewhere_same, here_now, observed}

pub spot_total : IsTotalOrder spot_cmp
spot_total = search (comparing, rules)

abbrev pub node_mark : KeptNode → Bool
node_mark kept = kept.changed

abbrev pub cell_mark : KeptCell → Bool
cell_mark kept = kept.changed

node_weighs : (o : Option KeptNode) → node_changed o ≡ true → unwrap_or (option_map (λ (kept : KeptNode). counted kept.changed) o) 0 ≡ 1
node_weighs None changed = absurd (let wrong : false ≡ true = changed in grind (arith, wrong))
node_weighs (Some kept) changed = ap counted changed

cell_weighs : (o : Option KeptCell) → cell_changed o ≡ true → unwrap_or (option_map (λ (kept : KeptCell). counted kept.changed) o) 0 ≡ 1
cell_weighs None changed = absurd (let wrong : false ≡ true = changed in grind (arith, wrong))
cell_weighs (Some kept) changed = ap counted changed

-- what a node or a cell counts for, where there is one
pub node_weight : (o : Option KeptNode) → unwrap_or (option_map (λ (kept : KeptNode). counted kept.changed) o) 0 ≡ counted (node_changed o)
node_weight None = refl
node_weight (Some kept) = refl

pub cell_weight : (o : Option KeptCell) → unwrap_or (option_map (λ (kept : KeptCell). counted kept.changed) o) 0 ≡ counted (cell_changed o)
cell_weight None = refl
cell_weight (Some kept) = refl

-- ---- a node or a cell that changed

pub node_again : (o n : maps.BTreeMap Spot KeptNode) (k : Spot) (was now : KeptNode) → Some was ≡ maps.get spot_cmp o k → n.entries ≡ set_value (maps.is_at (spot_cmp k)) o.entries now → node_changed (maps.get spot_cmp o k) ≡ true
    → changes_in n ≤ changes_in o
node_again o n k was now held is changed = set_again spot_cmp node_mark o n k was now held is (ap node_changed held ∙ changed)

-- a node that was written is changed, and lies where it did
pub marks_node : (o n : maps.BTreeMap Spot KeptNode) (level place : ℕ) (was now : KeptNode) → ((q : Spot) → maps.get spot_cmp n q ≡ cond (is_eq (spot_cmp (level, place) q)) (Some now) (maps.get spot_cmp o q)) → Some was ≡ maps.get spot_cmp o (level, place)
    → n.entries ≡ set_value (maps.is_at (spot_cmp (level, place))) o.entries now → now.changed ≡ true → now.placed ≡ was.placed → MarksNode o n level place
marks_node o n level place was now updates held is changed placed = record {
  placed = observed o n level place was now updates held node_placed placed;
  changed = λ _. ap node_changed (here_now o n level place was now updates held) ∙ changed;
  others = elsewhere_same o n level place was now updates held;
  count = set_one spot_cmp node_mark o n (level, place) was now held is;
}

pub node_fewer : (o n : maps.BTreeMap Spot KeptNode) (k : Spot) → n.entries ≡ remove_entry (maps.is_at (spot_cmp k)) o.entries → node_changed (maps.get spot_cmp o k) ≡ true → changes_in n + 1 ≡ changes_in o
node_fewer o n k is changed = one_fewer spot_cmp node_mark o n k is (node_weighs (maps.get spot_cmp o k) changed)

pub cell_fewer : (o n : maps.BTreeMap ℕ KeptCell) (k : ℕ) → n.entries ≡ remove_entry (maps.is_at (nat_cmp k)) o.entries → cell_changed (maps.get nat_cmp o k) ≡ true → cells_changed n + 1 ≡ cells_changed o
cell_fewer o n k is changed = one_fewer nat_cmp cell_mark o n k is (cell_weighs (maps.get nat_cmp o k) changed)

pub some_count : (o : maps.BTreeMap Spot KeptNode) (k : Spot) → node_changed (maps.get spot_cmp o k) ≡ true → 1 ≤ changes_in o
some_count o k changed = some_marked spot_cmp node_mark o k (node_weighs (maps.get spot_cmp o k) changed)

pub some_cell : (o : maps.BTreeMap ℕ KeptCell) (k : ℕ) → cell_changed (maps.get nat_cmp o k) ≡ true → 1 ≤ cells_changed o
some_cell o k changed = some_marked nat_cmp cell_mark o k (cell_weighs (maps.get nat_cmp o k) changed)

-- ---- a whole tree

pub none_pending : (t : Tree) → maps.btree_map_len t.nodes ≡ 0 → maps.btree_map_len t.cells ≡ 0 → pending t ≡ 0
none_pending t nodes cells = let few = few_marked spot_cmp node_mark t.nodes in let fewer = few_marked nat_cmp cell_mark t.cells in omega (arith, few, fewer, nodes, cells)

-- over what changed, where a pointer in memory leads to it, stands a node that changed
pub marked_over : (source : Shown) (t : Tree) (k q : ℕ) → Stands source t → changed_of t k q ≡ true → (pointer_in t k q).stamp ≢ 0 → k < t.levels → changed_in t.nodes (k + 1) (q / fan) ≡ true
marked_over source t k q stands was some lt =
    let same = shown_is source t stands k q was some in
    sym (spot_changed t (k + 1) (q / fan) (omega arith)) ∙ stands.over k q was (λ none. some (ap (λ (p : Pointer). p.stamp) same ∙ none)) lt

-- ---- the steps of a flush

pub fits_itself : (source : Shown) (t : Tree) → Fits source t source t
fits_itself source t = record { fewer = omega arith; room = omega arith }

pub fits_then : (old mid new : Shown) (t u w : Tree) → Fits old t mid u → Fits mid u new w → Fits old t new w
fits_then old mid new t u w first second = record { fewer = omega (arith, first.fewer, second.fewer); room = omega (arith, first.room, second.room) }

-- nothing was placed
pub fits_still : (old new : Shown) (t u : Tree) → u ≡ t → new.room ≡ old.room → Fits old t new u
fits_still old new t u same room = let p : pending u ≡ pending t = ap pending same in record { fewer = omega (arith, p); room = omega (arith, p, room) }

-- a cell was placed at most, where it changed, and goes out of memory
pub fits_cell : (old new : Shown) (t mid u : Tree) (b : Bool) → changes_in mid.nodes ≤ changes_in t.nodes → mid.cells ≡ t.cells → u.nodes ≡ mid.nodes → cells_changed u.cells ≤ cells_changed mid.cells
    → (b ≡ true → cells_changed u.cells + 1 ≡ cells_changed mid.cells) → (b ≡ false → old.room ≤ new.room) → old.room ≤ new.room + 1 → Fits old t new u
fits_cell old new t mid u true count cells nodes no_more fewer still room =
    let c : cells_changed mid.cells ≡ cells_changed t.cells = ap cells_changed cells in
    let n : changes_in u.nodes ≡ changes_in mid.nodes = ap changes_in nodes in
    let less = fewer refl in
    record { fewer = omega (arith, c, n, count, less); room = omega (arith, c, n, count, less, room) }
fits_cell old new t mid u false count cells nodes no_more fewer still room =
    let c : cells_changed mid.cells ≡ cells_changed t.cells = ap cells_changed cells in
    let n : changes_in u.nodes ≡ changes_in mid.nodes = ap changes_in nodes in
    let r = still refl in
    record { fewer = omega (arith, c, n, count, no_more); room = omega (arith, c, n, count, no_more, r) }

-- a node was placed at most, where it changed, and goes out of memory
pub fits_node : (old new : Shown) (t mid u : Tree) (b : Bool) → changes_in mid.nodes ≤ changes_in t.nodes → mid.cells ≡ t.cells → u.cells ≡ mid.cells → changes_in u.nodes ≤ changes_in mid.nodes
    → (b ≡ true → changes_in u.nodes + 1 ≡ changes_in mid.nodes) → (b ≡ false → old.room ≤ new.room) → old.room ≤ new.room + 1 → Fits old t new u
fits_node old new t mid u true count cells_mid cells no_more fewer still room =
    let c : cells_changed u.cells ≡ cells_changed t.cells = ap cells_changed (cells ∙ cells_mid) in
    let n = fewer refl in
    record { fewer = omega (arith, c, n, count); room = omega (arith, c, n, count, room) }
fits_node old new t mid u false count cells_mid cells no_more fewer still room =
    let c : cells_changed u.cells ≡ cells_changed t.cells = ap cells_changed (cells ∙ cells_mid) in
    let r = still refl in
    record { fewer = omega (arith, c, no_more, count); room = omega (arith, c, no_more, count, r) }
