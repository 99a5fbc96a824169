-- Each pointer of a tree and of a table over blocks of which one was written anew stands as it stood, or in that block.
use Rattle.std.proofs.Common.{◌≡◌, ◌≢◌, ℕ, ◌+◌, ◌/◌, ◌%◌, ◌<◌, ◌≤◌, Bool, true, false, List, [], inl, inr, refl, sym, ap, subst, ◌∙◌, arith, ⊎_elim, get_or}
use Rattle.std.specs.Option.{option_map}
use Rattle.std.specs.Prelude.{Option, Some, ◌==◌, nat_lt, if◌then◌else◌}
use Rattle.std.proofs.lemmas.Bool.{cases_eq, cases_lt}
use Rattle.std.proofs.lemmas.Bool.Decides.{nat_tests}
use Rattle.fv_codec.specs.declared.pointer.Pointer.{Pointer}
use Rattle.fv_codec.specs.declared.inode.InodeRecord.{InodeRecord}
use Rattle.fv_codec.specs.Blocks.{greatest_word}
use Rattle.fv_model.specs.Trees.{fan}
use Rattle.fv_tables.specs.Spelled.{Under, Rooted, stored, hole, pointers_in, pointers_at, pointer_at}
use Rattle.fv_tables.specs.Told.{Standing, standing_at, records_each, records_in, free_record, file_at}
use Rattle.fv_tables.specs.Reached.{holder_of}
use Rattle.fv_tables.specs.Alike.{hintless, hintless_record, AreAlike, HasAlikeNodes}
use Rattle.fv_tables.proofs.AlikeTables.{alike_pointer, inode_pointer, alike_record}
use Rattle.fv_image.proofs.WellTrees.{in_node}
use Rattle.fv_places.specs.Origins.{ComesFrom, HasInside, SpellsInside}
use Rattle.fv_places.proofs.Descents.{over_stands, top_is, record_at}

-- ---- a tree

module _ (m n : Under) (v : ℕ) (same : (q : ℕ) → q ≢ v → n q ≡ m q) (Inside : Pointer → Type 0) (owner levels : ℕ) (root new : Pointer)
    (like : hintless new ≡ hintless root)
    (alike : HasAlikeNodes (stored m owner levels root) n) (nodes : HasInside (stored m owner levels root) Inside v (n v)) where
  abbrev t : Rooted
  t = stored m owner levels root

  abbrev u : Rooted
  u = stored n owner levels new

  -- a pointer below the top
  below_comes : (level place : ℕ) → level < levels → (pointer_at u level place).stamp ≢ 0
      → ComesFrom Inside v (pointer_at t level place) (pointer_at u level place) (pointer_at t (level + 1) (place / fan))
  unfolding pointers_at
  below_comes level place low some = ⊎_elim
      (λ (at : p.vvbn ≡ v). inr (
        at,
        (
          there,
          subst Inside (sym (now ∙ ap (λ (k : ℕ). get_or (pointers_in (n k)) (place % fan) hole) (vvbn ∙ at)))
              (nodes (level + 1) (place / fan) (omega arith) there at (place % fan)),
        ),
      ))
      (λ other. inl (
        now ∙ ap (λ (k : ℕ). get_or (pointers_in (n k)) (place % fan) hole) vvbn
            ∙ ap (λ (o : Option (List ℕ)). get_or (pointers_in o) (place % fan) hole) (same p.vvbn other) ∙ sym before,
        inr other,
      ))
      (cases_eq p.vvbn v)
    where
      p : Pointer
      p = pointer_at t (level + 1) (place / fan)

      q : Pointer
      q = pointer_at u (level + 1) (place / fan)

      one : hintless q ≡ hintless p
      one = alike_pointer m n owner levels root new like alike (level + 1) (place / fan)

      over : q.stamp ≢ 0
      over = over_stands u level place low some

      there : p.stamp ≢ 0
      there e = over (ap (λ (x : Pointer). x.stamp) one ∙ e)

      vvbn : q.vvbn ≡ p.vvbn
      vvbn = ap (λ (x : Pointer). x.vvbn) one

      now : pointer_at u level place ≡ get_or (pointers_in (n q.vvbn)) (place % fan) hole
      now = let test : (q.stamp == 0) ≡ false = (let o = over in grind (arith, nat_tests)) in
          in_node u level place low ∙ ap (λ (b : Bool). get_or (if b then [] else pointers_in (n q.vvbn)) (place % fan) hole) test

      before : pointer_at t level place ≡ get_or (pointers_in (m p.vvbn)) (place % fan) hole
      before = let test : (p.stamp == 0) ≡ false = (let o = there in grind (arith, nat_tests)) in
          in_node t level place low ∙ ap (λ (b : Bool). get_or (if b then [] else pointers_in (m p.vvbn)) (place % fan) hole) test

  -- Where the root comes from somewhere, so does each pointer.
  tree_comes : (top : Pointer) → ComesFrom Inside v root new top → (level place : ℕ) → (pointer_at u level place).stamp ≢ 0
      → ComesFrom Inside v (pointer_at t level place) (pointer_at u level place) (holder_of top t level place)
  tree_comes top start level place some = ⊎_elim
      (λ (low : level < levels). let test : nat_lt level levels ≡ true = grind (arith, nat_tests) in
      subst (λ (b : Bool). ComesFrom Inside v (pointer_at t level place) (pointer_at u level place)
      (if b then pointer_at t (level + 1) (place / fan) else top)) (sym test) (below_comes level place low some))
      (λ (high : levels ≤ level). let test : nat_lt level levels ≡ false = grind (arith, nat_tests) in
      let stamp : (pointer_at u level place).stamp ≡ (pointer_at t level place).stamp =
      ap (λ (x : Pointer). x.stamp) (alike_pointer m n owner levels root new like alike level place) in
      let now : pointer_at u level place ≡ new = top_is u level place high some in
      let was : pointer_at t level place ≡ root = top_is t level place high (λ e. some (stamp ∙ e)) in
      subst (λ (b : Bool). ComesFrom Inside v (pointer_at t level place) (pointer_at u level place)
      (if b then pointer_at t (level + 1) (place / fan) else top)) (sym test)
      (subst (λ (x : Pointer). ComesFrom Inside v x (pointer_at u level place) top) (sym was)
      (subst (λ (x : Pointer). ComesFrom Inside v root x top) (sym now) start)))
      (cases_lt level levels)

-- ---- a table

module _ (m n : Under) (v : ℕ) (same : (q : ℕ) → q ≢ v → n q ≡ m q) (Inside : Pointer → Type 0) (levels : ℕ) (root : Pointer)
    (alike : AreAlike m n levels root)
    (inside : SpellsInside m levels root Inside v (n v)) where
  abbrev x : Standing
  x = standing_at m levels root

  abbrev y : Standing
  y = standing_at n levels root

  -- of the inode file
  pub inode_comes : (level place : ℕ) → (pointer_at y.inode level place).stamp ≢ 0
      → ComesFrom Inside v (pointer_at x.inode level place) (pointer_at y.inode level place) (holder_of hole x.inode level place)
  inode_comes = tree_comes m n v same Inside greatest_word levels root root refl alike.nodes inside.nodes hole (inl (refl, inl refl))

  -- the tree of a file
  module _ (k : ℕ) (f g : InodeRecord) (was : file_at x.inode k ≡ Some f) (now : file_at y.inode k ≡ Some g) where
    abbrev over : Pointer
    over = pointer_at x.inode 0 (k / records_each)

    -- a file has its record but for hints
    some_record : (o p : Option InodeRecord) → o ≡ Some f → p ≡ Some g → option_map hintless_record p ≡ option_map hintless_record o
        → hintless_record g ≡ hintless_record f
    some_record o p a b e =
        let z : ◌≡◌ {A = Option InodeRecord} (Some (hintless_record g)) (Some (hintless_record f)) =
        sym (ap (option_map hintless_record) b) ∙ e ∙ ap (option_map hintless_record) a in cc

    pub records_alike : hintless_record g ≡ hintless_record f
    records_alike = some_record (file_at x.inode k) (file_at y.inode k) was now (alike_record m n levels root root refl alike k)

    -- its root stands in an inode block
    root_comes : ComesFrom Inside v f.root g.root over
    root_comes =
        let one : hintless (pointer_at y.inode 0 (k / records_each)) ≡ hintless over =
        inode_pointer m n levels root root refl alike 0 (k / records_each) in
        let vvbn : (pointer_at y.inode 0 (k / records_each)).vvbn ≡ over.vvbn = ap (λ (z : Pointer). z.vvbn) one in
        let old = record_at m levels root k f was in
        let new = record_at n levels root k g now in ⊎_elim
        (λ (at : over.vvbn ≡ v). inr (
          at,
          (
            old.0,
            subst Inside
                (sym (ap (λ (z : InodeRecord). z.root)
                (new.1 ∙ ap (λ (q : ℕ). get_or (records_in (n q)) (k % records_each) free_record) (vvbn ∙ at))))
                (inside.inodes (k / records_each) old.0 at (k % records_each)),
          ),
        ))
        (λ other. inl (
          ap (λ (z : InodeRecord). z.root)
              (new.1 ∙ ap (λ (q : ℕ). get_or (records_in (n q)) (k % records_each) free_record) vvbn
              ∙ ap (λ (o : Option (List ℕ)). get_or (records_in o) (k % records_each) free_record) (same over.vvbn other)
              ∙ sym old.1),
          inr other,
        ))
        (cases_eq over.vvbn v)

    -- and so its tree comes from where its root does
    pub file_comes : (level place : ℕ) → (pointer_at (stored n k g.levels g.root) level place).stamp ≢ 0
        → ComesFrom Inside v (pointer_at (stored m k f.levels f.root) level place) (pointer_at (stored n k g.levels g.root) level place)
        (holder_of over (stored m k f.levels f.root) level place)
    file_comes level place some =
        let levels_same : g.levels ≡ f.levels = ap (λ (z : InodeRecord). z.levels) records_alike in
        let there : (pointer_at (stored n k f.levels g.root) level place).stamp ≢ 0 =
        subst (λ (l : ℕ). (pointer_at (stored n k l g.root) level place).stamp ≢ 0) levels_same some in
        subst (λ (l : ℕ). ComesFrom Inside v (pointer_at (stored m k f.levels f.root) level place)
        (pointer_at (stored n k l g.root) level place) (holder_of over (stored m k f.levels f.root) level place)) (sym levels_same)
        (tree_comes m n v same Inside k f.levels f.root g.root (ap (λ (z : InodeRecord). z.root) records_alike) (alike.file_nodes k f was)
        (inside.file_nodes k f was) over root_comes level place there)
