-- When a search for the next node to clean may say that there is none: where the block under a root pointer holds no unknown pointer, no
-- pointer of the root's table is unknown but that in the label.
use Rattle.std.proofs.Common.{◌≡◌, ◌≢◌, ◌⊎◌, ℕ, zero, suc, ◌+◌, ◌-◌, ◌/◌, ◌<◌, ◌≤◌, Bool, true, false, not, inl, inr, refl, sym, ap, subst, ◌∙◌, arith, ⊎_elim}
use Rattle.std.specs.Prelude.{Some, ◌&&◌, ◌==◌, ◌||◌, nat_lt, if◌then◌else◌}
use Rattle.std.specs.List.{list_all}
use Rattle.std.proofs.lemmas.Bool.{cases_eq, cases_lt, both_ways}
use Rattle.std.proofs.lemmas.Bool.Decides.{nat_tests}
use Rattle.fv_codec.specs.declared.pointer.Pointer.{Pointer}
use Rattle.fv_codec.specs.declared.inode.InodeRecord.{InodeRecord}
use Rattle.fv_model.specs.Trees.{fan}
use Rattle.fv_tables.specs.Spelled.{Under, Rooted as Tree, stored, hole, pointer_at}
use Rattle.fv_tables.specs.Told.{Standing, standing_at, file_at, records_each}
use Rattle.fv_tables.specs.Reached.{Item, items, item_of}
use Rattle.fv_tables.proofs.Items.{at_inode, at_file, from_trees}
use Rattle.fv_image.specs.Views.{Rooted}
use Rattle.fv_image.specs.HintRules.{is_unknown, is_in_label}
use Rattle.fv_places.specs.OneVolume.{is_led}
use Rattle.fv_places.specs.Steps.{is_known_or_label}
use Rattle.fv_places.proofs.Descents.{over_stands, within, root_at, only_root, record_at}

-- a test says one or the other
by_test : (b : Bool) → (b ≡ true) ⊎ (b ≡ false)
by_test true = inl refl
by_test false = inr refl

-- a pointer that stands and has no place is unknown
unknown_is : (p : Pointer) → p.stamp ≢ 0 → p.pvbn ≡ 0 → is_unknown p ≡ true
unknown_is p some none =
    let a : (p.stamp == 0) ≡ false = grind (arith, nat_tests) in let b : (p.pvbn == 0) ≡ true = grind (arith, nat_tests) in
    λ i. not (a i) && b i

-- what leads to the block of an unknown pointer is unknown
up : (e : Item) → is_led e ≡ true → is_unknown e.pointer ≡ true → e.holder.stamp ≢ 0 → is_unknown e.holder ≡ true
up e test unknown some =
    let out : (e.holder.stamp == 0) ≡ false = grind (arith, nat_tests) in
    let zero : (e.holder.pvbn == 0) ≡ true = sym (λ i. not (unknown i) || (out i || (e.holder.pvbn == 0))) ∙ test in
    unknown_is e.holder some (grind (arith, nat_tests))

-- ---- a tree

-- no pointer at a level that stands is unknown
abbrev IsKnownAt : Tree → ℕ → Type 0
IsKnownAt t level = (p : ℕ) → (pointer_at t level p).stamp ≢ 0 → is_unknown (pointer_at t level p) ≡ false

-- where none at a level is unknown, none below is
module _ (t : Tree) (top : Pointer) (rule : (level p : ℕ) → (pointer_at t level p).stamp ≢ 0 → is_led (item_of top t level p) ≡ true) where
  -- level by level
  down : (d level : ℕ) → IsKnownAt t (level + d) → level + d ≤ t.levels → IsKnownAt t level
  down zero level high le p some =
      let e : level + 0 ≡ level = omega arith in
      subst (λ (k : ℕ). is_unknown (pointer_at t k p) ≡ false) e
      (high p (subst (λ (k : ℕ). (pointer_at t k p).stamp ≢ 0) (sym e) some))
  down (suc d) level high le p some =
      let low : level < t.levels = omega (arith, le) in
      let same : level + suc d ≡ (level + 1) + d = omega arith in
      let over = over_stands t level p low some in
      let none : is_unknown (pointer_at t (level + 1) (p / fan)) ≡ false =
      down d (level + 1) (subst (IsKnownAt t) same high) (omega (arith, le)) (p / fan) over in
      ⊎_elim
      (λ (unknown : is_unknown (pointer_at t level p) ≡ true).
      let test : nat_lt level t.levels ≡ true = grind (arith, nat_tests) in
      let holder : (item_of top t level p).holder ≡ pointer_at t (level + 1) (p / fan) =
      λ i. if test i then pointer_at t (level + 1) (p / fan) else top in
      let is : is_unknown (item_of top t level p).holder ≡ true =
      up (item_of top t level p) (rule level p some) unknown (λ e. over (sym (ap (λ (q : Pointer). q.stamp) holder) ∙ e)) in
      absurd (both_ways (is_unknown (pointer_at t (level + 1) (p / fan))) none (sym (ap is_unknown holder) ∙ is)))
      (λ e. e)
      (by_test (is_unknown (pointer_at t level p)))

  -- from any level on
  none_below : (k : ℕ) → k ≤ t.levels → IsKnownAt t k → (level : ℕ) → level ≤ k → IsKnownAt t level
  none_below k le high level low p some = let e : level + (k - level) ≡ k = omega (arith, low) in
      down (k - level) level (subst (IsKnownAt t) (sym e) high) (omega (arith, low, le)) p some

-- ---- a table

module _ (blocks : Under) (r : Rooted) (rule : list_all is_led (items (standing_at blocks r.levels r.root)) ≡ true)
    -- the block under the root holds no unknown pointer: those of a node, or, where the root leads to an inode block, the roots in that
    (node : (level : ℕ) → suc level ≡ r.levels → IsKnownAt (standing_at blocks r.levels r.root).inode level)
    (inode : r.levels ≡ 0 → (k : ℕ) (f : InodeRecord) → file_at (standing_at blocks r.levels r.root).inode k ≡ Some f → f.root.stamp ≢ 0
    → is_unknown f.root ≡ false) where
  abbrev x : Standing
  x = standing_at blocks r.levels r.root

  -- no pointer of the inode file below its root is unknown
  inode_none : (level : ℕ) → level < r.levels → IsKnownAt x.inode level
  inode_none level low p some = by r.levels refl low
    where
      by : (n : ℕ) → r.levels ≡ n → level < n → is_unknown (pointer_at x.inode level p) ≡ false
      by zero e lt = absurd (omega (arith, lt))
      by (suc n) e lt =
          none_below x.inode hole (λ level p some. at_inode is_led x rule level p some) n (omega (arith, e)) (node n (sym e)) level
          (omega (arith, lt)) p some

  -- no root of a file is
  root_none : (k : ℕ) (f : InodeRecord) → file_at x.inode k ≡ Some f → (pointer_at (stored blocks k f.levels f.root) f.levels 0).stamp ≢ 0
      → is_unknown (pointer_at (stored blocks k f.levels f.root) f.levels 0) ≡ false
  root_none k f is some = ⊎_elim
      (λ (none : r.levels ≡ 0). ap is_unknown (root_at (stored blocks k f.levels f.root))
      ∙ inode none k f is (λ e. some (ap (λ (q : Pointer). q.stamp) (root_at (stored blocks k f.levels f.root)) ∙ e)))
      (λ (any : r.levels ≢ 0).
      let over : Pointer = pointer_at x.inode 0 (k / records_each) in
      let stands = (record_at blocks r.levels r.root k f is).0 in
      let known : is_unknown over ≡ false = inode_none 0 (omega (arith, any)) (k / records_each) stands in ⊎_elim
      (λ (unknown : is_unknown (pointer_at (stored blocks k f.levels f.root) f.levels 0) ≡ true).
      let e : Item = item_of over (stored blocks k f.levels f.root) f.levels 0 in
      let holder : e.holder ≡ over = not_less f.levels (pointer_at (stored blocks k f.levels f.root) (f.levels + 1) (0 / fan)) over in
      absurd (both_ways (is_unknown over) known
      (sym (ap is_unknown holder)
      ∙ up e (at_file is_led x rule k f is f.levels 0 some) unknown (λ z. stands (sym (ap (λ (q : Pointer). q.stamp) holder) ∙ z)))))
      (λ e. e)
      (by_test (is_unknown (pointer_at (stored blocks k f.levels f.root) f.levels 0))))
      (cases_eq r.levels 0)
    where
      not_less : (n : ℕ) (a b : Pointer) → (if nat_lt n n then a else b) ≡ b
      not_less n a b = let t : nat_lt n n ≡ false = grind (arith, nat_tests) in λ i. if t i then a else b

  -- as a test
  not_unknown : (e : Item) → is_unknown e.pointer ≡ false → is_known_or_label e ≡ true
  not_unknown e none = λ i. not (none i) || is_in_label e

  -- No pointer of the table is unknown but that in the label.
  pub none_unknown : list_all is_known_or_label (items x) ≡ true
  none_unknown = from_trees is_known_or_label x
      (λ level p some. ⊎_elim
      (λ (low : level < r.levels). not_unknown (item_of hole x.inode level p) (inode_none level low p some))
      (λ (high : r.levels ≤ level). let test : nat_lt level r.levels ≡ false = grind (arith, nat_tests) in
      label_last (is_unknown (pointer_at x.inode level p)) (is_in_label (item_of hole x.inode level p))
      (λ i. (if test i then pointer_at x.inode (level + 1) (p / fan) else hole).stamp == 0))
      (cases_lt level r.levels))
      (λ k f is level p some. not_unknown (item_of (pointer_at x.inode 0 (k / records_each)) (stored blocks k f.levels f.root) level p)
      (none_below (stored blocks k f.levels f.root) (pointer_at x.inode 0 (k / records_each))
      (λ level p some. at_file is_led x rule k f is level p some) f.levels (omega arith) (tops k f is) level
      (within (stored blocks k f.levels f.root) level p some) p some))
    where
      label_last : (a b : Bool) → b ≡ true → (not a || b) ≡ true
      label_last true b e = e
      label_last false b e = refl

      tops : (k : ℕ) (f : InodeRecord) → file_at x.inode k ≡ Some f → IsKnownAt (stored blocks k f.levels f.root) f.levels
      tops k f is p some = let one : p ≡ 0 = only_root (stored blocks k f.levels f.root) p some in
          subst (λ (q : ℕ). is_unknown (pointer_at (stored blocks k f.levels f.root) f.levels q) ≡ false) (sym one)
          (root_none k f is (subst (λ (q : ℕ). (pointer_at (stored blocks k f.levels f.root) f.levels q).stamp ≢ 0) one some))
