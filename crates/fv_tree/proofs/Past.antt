-- A write past the levels, from its steps.
use Rattle.std.proofs.Common.{◌≡◌, ◌≢◌, ◌≤◌, ◌<◌, ℕ, ◌/◌, ◌^◌, ◌⊎◌, inl, inr, Some, replicate, refl, sym, ap, ◌∙◌, arith}
use Rattle.std.proofs.Math.Nat.{pow-le-pow_right, div-eq_of_lt}
use Rattle.std.proofs.lemmas.Bool.{cases_eq, cases_lt}
use Rattle.std.proofs.lemmas.List.{length-replicate}
use Rattle.fv_codec.specs.declared.pointer.Pointer.{Pointer}
use Rattle.fv_model.specs.Trees.{fan, levels_with}
use Rattle.fv_tree.specs.declared.kept.Tree.{Tree}
use Rattle.fv_tree.specs.Spelled.{Under, hole, pointer_at, stamp_in}
use Rattle.fv_tree.specs.Standing.{standing, node_in}
use Rattle.fv_tree.specs.Keeping.{IsKept}
use Rattle.fv_tree.specs.Writing.{HasNewLevels, new_child}
use Rattle.fv_tree.proofs.Raised.{IsRaised, lone, lone_way, lone_elsewhere, raised, raised_way, raised_old, raised_first, raised_other}
use Rattle.fv_tree.proofs.Ways.{is_way, past, nothing_there}
use Rattle.fv_tree.proofs.Writes.{IsBase, some_stamp, no_stamp, none_at}

-- what a tree is like once its levels are raised
pub record Raises (t v : Tree) (i s : ℕ) : Type 0 where
  pub owner : v.owner ≡ t.owner
  pub root : v.root ≡ new_child s
  pub levels : v.levels ≡ levels_with t.levels i
  pub far : fan ^ t.levels ≤ i
  pub covers : i < fan ^ v.levels
  pub nodes : HasNewLevels t v v.levels i s

module _ (blocks : Under) (t v : Tree) (i s : ℕ) (is : Raises t v i s) (some : s ≢ 0) where
  pub more : t.levels < v.levels
  more = elim (cases_lt t.levels v.levels) [
    | inl lt ↦ lt
    | inr le ↦ let up : fan ^ v.levels ≤ fan ^ t.levels = pow-le-pow_right {n = fan} (omega arith) {i = v.levels} {j = t.levels} le in absurd (omega (arith, up, is.far, is.covers))
  ]

  pub top : i / fan ^ v.levels ≡ 0
  top = div-eq_of_lt is.covers

  new_stamp : stamp_in (new_child s) ≡ Some s
  new_stamp = some_stamp (new_child s) s some

  first_place : i / fan ^ 0 ≡ i
  first_place = omega arith

  empty_kept : (level : ℕ) → node_in v level (i / fan ^ level) ≡ Some (replicate 128 hole) → IsKept (standing blocks v) level (i / fan ^ level)
  empty_kept level node = record {
    pointers = replicate 128 hole;
    node = node;
    long = length-replicate {A = Pointer} 128 hole;
    empty = λ _ slot. nothing_there slot;
  }

  -- a tree that holds cells
  module _ (cell : t.root.stamp ≢ 0) where
    lies : IsRaised (standing blocks t) (standing blocks v) i s
    lies = record {
      owner = is.owner;
      under = refl;
      more = more;
      root = is.root;
      past = is.far;
      old_nodes = is.nodes.old_nodes;
      grown = λ level lt le. let node = is.nodes.grown cell level lt le in (node.pointers, node.node, node.lowest, node.higher, node.others);
    }

    pub seen : (level place : ℕ) → level ≤ v.levels → pointer_at (standing blocks v) level place ≡ raised (standing blocks t) s level place
    seen level place le = is_way (standing blocks v) (raised (standing blocks t) s) (raised_way (standing blocks t) (standing blocks v) i s lies some) level place le

    top_kept : (level : ℕ) → level ≡ v.levels → IsKept (standing blocks v) level (i / fan ^ level)
    top_kept level same =
        let node = is.nodes.grown cell level (omega (arith, same, more)) (omega (arith, same)) in
        let first : i / fan ^ level ≡ 0 = ap (λ k. i / fan ^ k) same ∙ top in record {
          pointers = node.pointers;
          node = ap (node_in v level) first ∙ node.node;
          long = node.long;
          empty = λ e. absurd (some (sym (ap (λ (p : Pointer). p.stamp) (seen level (i / fan ^ level) (omega (arith, same)) ∙ raised_first (standing blocks t) s level (i / fan ^ level) (omega (arith, same, more)) first)) ∙ e));
        }

    other_marks : (level place : ℕ) → level ≤ v.levels → place ≢ i / fan ^ level → (level ≤ t.levels) ⊎ ((place ≢ 0) ⊎ (t.root.stamp ≡ 0)) → pointer_at (standing blocks v) level place ≡ pointer_at (standing blocks t) level place
    other_marks level place le differs (inl old) = seen level place le ∙ raised_old (standing blocks t) s level place old
    other_marks level place le differs (inr (inr none)) = absurd (cell none)
    other_marks level place le differs (inr (inl other)) = elim (cases_lt t.levels level) [
      | inl lt ↦ seen level place le ∙ raised_other (standing blocks t) s level place lt other ∙ sym (past (standing blocks t) level place lt)
      | inr old ↦ seen level place le ∙ raised_old (standing blocks t) s level place old
    ]

    pub raised_base : IsBase (standing blocks t) (standing blocks v) i s
    raised_base = record {
      levels = is.levels;
      more = omega (arith, more);
      covers = is.covers;
      kept = λ level low high. elim (cases_eq level v.levels) [
        | inl same ↦ top_kept level same
        | inr differs ↦ empty_kept level (is.nodes.way level low high (inl (omega arith)))
      ];
      others = λ level place le differs old. ap stamp_in (other_marks level place le differs old);
      grown = λ _ level lt le. ap stamp_in (seen level 0 le ∙ raised_first (standing blocks t) s level 0 lt refl) ∙ new_stamp;
      cells = λ j differs. inl (seen 0 j (omega arith) ∙ raised_old (standing blocks t) s 0 j (omega arith));
      under = refl;
    }

  -- a tree without a cell
  module _ (none : t.root.stamp ≡ 0) where
    pub alone : (level place : ℕ) → level ≤ v.levels → pointer_at (standing blocks v) level place ≡ lone v.levels s level place
    alone level place le = is_way (standing blocks v) (lone v.levels s)
        (lone_way (standing blocks v) s some is.root (λ low. sym (ap (node_in v v.levels) top) ∙ is.nodes.way v.levels low (omega arith) (inr none))) level place le

    other_alone : (level place : ℕ) → level ≤ v.levels → place ≢ i / fan ^ level → pointer_at (standing blocks v) level place ≡ hole
    other_alone level place le differs = alone level place le ∙ lone_elsewhere v.levels s level place (elim (cases_eq level v.levels) [
      | inl same ↦ inr (λ e. differs (e ∙ sym (ap (λ k. i / fan ^ k) same ∙ top)))
      | inr below ↦ inl below
    ])

    pub lone_base : IsBase (standing blocks t) (standing blocks v) i s
    lone_base = record {
      levels = is.levels;
      more = omega (arith, more);
      covers = is.covers;
      kept = λ level low high. empty_kept level (is.nodes.way level low high (inr none));
      others = λ level place le differs old. ap stamp_in (other_alone level place le differs) ∙ sym (no_stamp (pointer_at (standing blocks t) level place) (none_at (standing blocks t) none level place));
      grown = λ cell. absurd (cell none);
      cells = λ j differs. inr (ap (λ (p : Pointer). p.stamp) (other_alone 0 j (omega arith) (λ e. differs (e ∙ first_place))), none_at (standing blocks t) none 0 j);
      under = refl;
    }

  pub past_base : IsBase (standing blocks t) (standing blocks v) i s
  past_base = elim (cases_eq t.root.stamp 0) [
    | inl none ↦ lone_base none
    | inr cell ↦ raised_base cell
  ]
