-- A cell that has another content, under the stamps that it had.
use Rattle.std.proofs.Common.{◌≡◌, ◌≢◌, ◌≤◌, ℕ, ◌/◌, ◌^◌, inl, inr, Bool, true, false, cond, List, Option, Some, is_some, nat_eq, refl, sym, ap, ◌∙◌, arith}
use Rattle.std.specs.Ordering.{nat_cmp, eq_by_cmp}
use Rattle.std.specs.Cmp.{nat_cmp_total}
use Rattle.std.specs.Option.{option_map}
use Rattle.std.specs.BTreeMap as tree
use Rattle.std.specs.FinMap as fin
use Rattle.std.proofs.lemmas.Bool.{cases_eq}
use Rattle.std.proofs.lemmas.Bool.Decides.{nat_tests}
use Rattle.fv_codec.specs.declared.pointer.Pointer.{Pointer}
use Rattle.fv_model.specs.Trees.{fan, Spot}
use Rattle.fv_tree.specs.declared.kept.Tree.{Tree}
use Rattle.fv_tree.specs.declared.kept.KeptNode.{KeptNode}
use Rattle.fv_tree.specs.declared.kept.KeptCell.{KeptCell}
use Rattle.fv_tree.specs.Spelled.{Under, Rooted, pointer_at, stamp_in, block_at}
use Rattle.fv_tree.specs.Standing.{standing, node_in, cell_in, children_in, IsSameBut, IsSameButCells}
use Rattle.fv_tree.specs.Keeping.{IsKept, IsSame}
use Rattle.fv_tree.specs.Erasing.{StandsAt}
use Rattle.fv_tree.specs.Refilling.{IsRefilled, Refills}
use Rattle.fv_tree.specs.Flushing.{cell_changed, loaded_over}
use Rattle.fv_tree.specs.Carried.{Marks}
use Rattle.fv_tree.proofs.Erased.{stamp_there}
use Rattle.fv_tree.proofs.Marked.{IsMarked}
use Rattle.fv_tree.proofs.Ready.{nodes_alone, way_changed, others_changed, all_led}
use Rattle.fv_tree.proofs.Unlinked.{marks_above}
use Rattle.fv_tree.proofs.Writes.{no_stamp, none_at, block_here, block_none, block_same, same_alike}

-- ---- a hole

pub refilled_none : (t u : Rooted) (i : ℕ) (block : List ℕ) → IsSame t u → (pointer_at t 0 i).stamp ≡ 0 → IsRefilled t u i block false
refilled_none t u i block same none = let alike = same_alike t u same in record {
  stands = ap is_some (no_stamp (pointer_at t 0 i) none);
  levels = alike.levels;
  stamps = alike.stamps;
  cell = block_none u i (ap (λ (p : Pointer). p.stamp) (same.pointers 0 i) ∙ none);
  blocks = λ j _. alike.blocks j;
}

-- ---- a cell

module _ (blocks : Under) (v w u : Tree) (i : ℕ) (block : List ℕ) (fields : IsSameButCells v w) (put : (j : ℕ) → cell_in w j ≡ cond (nat_eq j i) (Some block) (cell_in v j)) (but : IsSameBut w u)
    (nodes : (level place : ℕ) → node_in u level place ≡ node_in w level place) where
  same_nodes : (k q : ℕ) → node_in u k q ≡ node_in v k q
  same_nodes k q = nodes k q ∙ ap (λ (m : tree.BTreeMap Spot KeptNode). children_in m k q) fields.nodes

  pointers : (k q : ℕ) → pointer_at (standing blocks u) k q ≡ pointer_at (standing blocks v) k q
  pointers = nodes_alone (standing blocks v) (standing blocks u) (but.owner ∙ fields.owner) refl (but.levels ∙ fields.levels) (but.root ∙ fields.root) same_nodes

  cells : (j : ℕ) → cell_in u j ≡ cond (nat_eq j i) (Some block) (cell_in v j)
  cells j = ap (λ (m : tree.BTreeMap ℕ KeptCell). option_map (λ (kept : KeptCell). kept.block.value) (tree.get nat_cmp m j)) but.cells ∙ put j

  pub refilled_is : (t : Rooted) → IsSame t (standing blocks v) → StandsAt t 0 i → IsRefilled t (standing blocks u) i block true
  refilled_is t same stands = record {
    stands = ap is_some (stamp_there (pointer_at t 0 i) stands);
    levels = but.levels ∙ fields.levels ∙ same.levels;
    stamps = λ level place. ap stamp_in (pointers level place ∙ same.pointers level place);
    cell = block_here (standing blocks u) i block (λ none. stands (ap (λ (p : Pointer). p.stamp) (sym (pointers 0 i ∙ same.pointers 0 i)) ∙ none)) (cells i ∙ (let test : nat_eq i i ≡ true = grind (arith, nat_tests) in ap (λ b. cond b (Some block) (cell_in v i)) test));
    blocks = λ j differs. block_same t (standing blocks u) j (pointers 0 j ∙ same.pointers 0 j)
        (cells j ∙ (let test : nat_eq j i ≡ false = grind (arith, nat_tests) in ap (λ b. cond b (Some block) (cell_in v j)) test) ∙ (λ k. same.cells k j)) same.under;
  }

-- ---- how it stands to its blocks

module _ (blocks : Under) (w u : Tree) (i : ℕ) (but : IsSameBut w u) (nodes : (level place : ℕ) → node_in u level place ≡ node_in w level place) (marks : Marks w u i) (stands : StandsAt (standing blocks w) 0 i)
    (kept : (level : ℕ) → 1 ≤ level → level ≤ w.levels → IsKept (standing blocks w) level (i / fan ^ level)) (cell : cell_changed (tree.get nat_cmp w.cells i) ≡ true) where
  still : (k q : ℕ) → pointer_at (standing blocks u) k q ≡ pointer_at (standing blocks w) k q
  still = nodes_alone (standing blocks w) (standing blocks u) but.owner refl but.levels but.root nodes

  pub remarked_is : IsMarked (loaded_over blocks w) (loaded_over blocks u) i
  remarked_is = record {
    owner = but.owner;
    under = refl;
    levels = but.levels;
    root = λ none. stands (ap (λ (p : Pointer). p.stamp) (sym (still 0 i)) ∙ none_at (standing blocks u) none 0 i);
    reached = λ level le. let is = still level (i / fan ^ level) in record {
      vvbn = ap (λ (p : Pointer). p.vvbn) is;
      pvbn = ap (λ (p : Pointer). p.pvbn) is;
      some = λ none. marks_above (standing blocks w) level i le stands (ap (λ (p : Pointer). p.stamp) (sym is) ∙ none);
    };
    beside = λ level place _ _. still level place;
    nodes = λ level place _. nodes level place;
    cells = λ index. ap (λ (m : tree.BTreeMap ℕ KeptCell). option_map (λ (kept : KeptCell). kept.block.value) (tree.get nat_cmp m index)) but.cells;
    placed = all_led blocks w u i but.cells marks kept cell;
    way = way_changed blocks w u i but.cells marks kept cell;
    others = others_changed blocks w u i but.cells marks kept cell;
  }

-- ---- what it is seen as

pub unstamped_none : (p : Pointer) → is_some (stamp_in p) ≡ false → p.stamp ≡ 0
unstamped_none p none = elim (cases_eq p.stamp 0) [
  | inl e ↦ e
  | inr some ↦ absurd (let both : true ≡ false = sym (ap is_some (stamp_there p some)) ∙ none in grind (arith, both))
]

inserted : (contents : fin.FinMap nat_cmp (List ℕ)) (i : ℕ) (block : List ℕ) (j : ℕ) (o : Option (List ℕ)) → (j ≡ i → o ≡ Some block) → (j ≢ i → o ≡ fin.get contents j) → fin.get (fin.insert contents i block) j ≡ o
inserted contents i block j o here other = fin.get-insert nat_cmp_total contents i block j ∙ elim (cases_eq j i) [
  | inl e ↦ let test : eq_by_cmp nat_cmp j i ≡ true = grind (arith, nat_tests) in ap (λ b. cond b (Some block) (fin.get contents j)) test ∙ sym (here e)
  | inr differs ↦ let test : eq_by_cmp nat_cmp j i ≡ false = grind (arith, nat_tests) in ap (λ b. cond b (Some block) (fin.get contents j)) test ∙ sym (other differs)
]

pub refills : (old new : Rooted) (i : ℕ) (block : List ℕ) (there : Bool) → IsRefilled old new i block there → Refills old new i block there
refills old new i block true is seen contents shows = record {
  levels = shows.levels ∙ sym is.levels;
  stamps = λ level place. shows.stamps level place ∙ sym (is.stamps level place);
  blocks = λ j. inserted contents i block j (block_at new j) (λ e. ap (block_at new) e ∙ is.cell) (λ differs. is.blocks j differs ∙ sym (shows.blocks j));
}
refills old new i block false is seen contents shows = record {
  levels = shows.levels ∙ sym is.levels;
  stamps = λ level place. shows.stamps level place ∙ sym (is.stamps level place);
  blocks = λ j. elim (cases_eq j i) [
    | inl e ↦ shows.blocks j ∙ ap (block_at old) e ∙ block_none old i (unstamped_none (pointer_at old 0 i) is.stands) ∙ sym (ap (block_at new) e ∙ is.cell)
    | inr differs ↦ shows.blocks j ∙ sym (is.blocks j differs)
  ];
}
