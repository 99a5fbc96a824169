-- A cell or node in memory of which the block is placed.
use Rattle.std.proofs.Common.{◌≡◌, ◌≢◌, ◌≤◌, ◌<◌, ℕ, ◌+◌, ◌*◌, ◌-◌, ◌/◌, ◌%◌, ◌⊎◌, inl, inr, Bool, true, false, cond, ◌&&◌, List, Option, Some, None, get_or, length, is_some, slice_set, refl, sym, ap, subst, ◌∙◌, arith, ◌==◌, nat_eq, if◌then◌else◌}
use Rattle.std.proofs.lemmas.Bool.{cases_eq, cases_lt}
use Rattle.std.proofs.lemmas.Bool.Decides.{nat_tests}
use Rattle.std.proofs.lemmas.List.{get_or-set_same, get_or-set_other}
use Rattle.fv_codec.specs.declared.pointer.Pointer.{Pointer}
use Rattle.fv_model.specs.Trees.{fan}
use Rattle.fv_tree.specs.Sources.{Use}
use Rattle.fv_tree.specs.Spelled.{hole, pointers_at, pointers_in, pointer_at, block_at}
use Rattle.fv_tree.specs.Flushing.{Loaded, Leads, IsRight, IsSound, IsEmptyNode, IsFlushed, IsReplaced, IsPlaced, HoldsUnknown, HoldsUnknownRoot, has_unknown_root, IsNodeOf, NamesPosition, Flushes, kind_for, use_told, HasKind}
use Rattle.fv_tree.proofs.Below.{no_pointers, kept_pointers, read_pointers}
use Rattle.fv_tree.proofs.Cases.{false_is_true, none_some, some_none, there}
use Rattle.fv_tree.proofs.Hints.{HasUnknown, HasUnknownRoot, right_as, right_kind, same_root}
use Rattle.fv_tree.proofs.Spots.{here, elsewhere}
use Rattle.fv_tree.proofs.Stamped.{apart}
use Rattle.fv_tree.proofs.Unchanged.{IsMemory, block_read, changed_before}
use Rattle.fv_tree.proofs.Ways.{own_way, is_way, past, reached_within, spot_is, top_is_first, under_none}
use Rattle.fv_tree.proofs.Writes.{block_here, block_none}

-- the pointer to a cell or node leads to a new block of it, and it goes out of memory
pub record Replaces (hides : Bool) (s : Loaded) (used : ℕ → Option Use) (u : Loaded) (uses : ℕ → Option Use) (k q : ℕ) (p : Pointer) : Type 0 where
  pub was : s.changed k q ≡ true
  pub some : (pointer_at s.tree k q).stamp ≢ 0
  pub stamp : p.stamp ≡ (pointer_at s.tree k q).stamp
  pub first : (j c : ℕ) → j + 1 ≡ k → s.changed j c ≡ false
  pub owner : u.tree.owner ≡ s.tree.owner
  pub levels : u.tree.levels ≡ s.tree.levels
  pub low : k < s.tree.levels → u.tree.root ≡ s.tree.root
  pub top : s.tree.levels ≤ k → u.tree.root ≡ p
  pub over : k < s.tree.levels → (xs : List Pointer) × (s.tree.nodes (k + 1) (q / fan) ≡ Some xs) × (u.tree.nodes (k + 1) (q / fan) ≡ Some (slice_set xs (q % fan) p)) × (length xs ≡ 128)
  pub own : 1 ≤ k → u.tree.nodes k q ≡ None
  pub own_cell : k ≡ 0 → u.tree.cells q ≡ None
  pub nodes : (j c : ℕ) → 1 ≤ j → (j ≢ k) ⊎ (c ≢ q) → (j ≢ k + 1) ⊎ (c ≢ q / fan) → u.tree.nodes j c ≡ s.tree.nodes j c
  pub cells : (i : ℕ) → (k ≢ 0) ⊎ (i ≢ q) → u.tree.cells i ≡ s.tree.cells i
  pub node : 1 ≤ k → (xs : List Pointer) × (s.tree.nodes k q ≡ Some xs) × (pointers_in (u.tree.under p.vvbn) ≡ xs)
      × ((slot : ℕ) → (get_or xs slot hole).stamp ≢ 0 → (get_or xs slot hole).pvbn ≡ 0 → p.pvbn ≡ 0)
  pub names : 1 ≤ k → IsNodeOf s.tree.owner k q (u.tree.under p.vvbn)
  pub cell : k ≡ 0 → (block : List ℕ) × (s.tree.cells q ≡ Some block) × (u.tree.under p.vvbn ≡ Some block) × (has_unknown_root s.tree.owner block ≡ true → p.pvbn ≡ 0)
  pub fresh : s.tree.under p.vvbn ≡ None
  pub unused : used p.vvbn ≡ None
  pub now : is_some (u.tree.under p.vvbn) ≡ true
  pub taken : IsRight (kind_for s.tree.owner k) p (uses p.vvbn)
  pub hidden : hides ≡ true → p.pvbn ≡ 0
  pub told : hides ≡ false → (uses p.vvbn ≡ Some (use_told p (kind_for s.tree.owner k))) ⊎ (((1 ≤ k) × HasUnknown (s.tree.nodes k q)) ⊎ ((k ≡ 0) × HasUnknownRoot s.tree.owner (s.tree.cells q)))
  pub others : (v : ℕ) → v ≢ p.vvbn → (Leads s k q v → ⊥) → (u.tree.under v ≡ s.tree.under v) × (uses v ≡ used v)
  pub gone : (v : ℕ) → Leads s k q v → v ≢ p.vvbn → uses v ≡ None
  pub changed : u.changed k q ≡ false
  pub changed_others : (j c : ℕ) → (j ≢ k) ⊎ (c ≢ q) → u.changed j c ≡ s.changed j c
  pub placed : u.placed k q ≡ true
  pub placed_others : (j c : ℕ) → (j ≢ k) ⊎ (c ≢ q) → u.placed j c ≡ s.placed j c

-- one pointer is another
unfoldable pub moved_to : (ℕ → ℕ → Pointer) → ℕ → ℕ → Pointer → ℕ → ℕ → Pointer
moved_to f k q p level place = cond (nat_eq level k && nat_eq place q) p (f level place)

moved_here : (f : ℕ → ℕ → Pointer) (k q : ℕ) (p : Pointer) (j c : ℕ) → j ≡ k → c ≡ q → moved_to f k q p j c ≡ p
unfolding moved_to
moved_here f k q p j c e g = ap (λ b. cond b p (f j c)) ((λ i. nat_eq (e i) k && nat_eq (g i) q) ∙ here k q)

moved_elsewhere : (f : ℕ → ℕ → Pointer) (k q : ℕ) (p : Pointer) (j c : ℕ) → (j ≢ k) ⊎ (c ≢ q) → moved_to f k q p j c ≡ f j c
unfolding moved_to
moved_elsewhere f k q p j c other = ap (λ b. cond b p (f j c)) (elsewhere j c k q other)

module _ {hides : Bool} (s : Loaded) (used : ℕ → Option Use) (u : Loaded) (uses : ℕ → Option Use) (k q : ℕ) (p : Pointer) (sound : IsSound used s) (memory : IsMemory s) (is : Replaces hides s used u uses k q p) where
  abbrev pub f : ℕ → ℕ → Pointer
  f = moved_to (pointer_at s.tree) k q p

  within : k ≤ s.tree.levels
  within = reached_within s.tree k q is.some

  some : p.stamp ≢ 0
  some e = is.some (sym is.stamp ∙ e)

  over_some : k < s.tree.levels → (pointer_at s.tree (k + 1) (q / fan)).stamp ≢ 0
  over_some lt e = is.some (under_none s.tree k q lt e)

  -- blocks of others stay
  stays_under : (j c v : ℕ) → Leads s j c v → (j ≢ k) ⊎ (c ≢ q) → (u.tree.under v ≡ s.tree.under v) × (uses v ≡ used v)
  stays_under j c v leads other = is.others v
      (λ e. none_some (s.tree.under v) (ap s.tree.under e ∙ is.fresh) (sound.held j c v leads))
      (λ own. let at = sound.once j c k q v leads own in elim other [
        | inl differs ↦ differs at.0
        | inr differs ↦ differs at.1
      ])

  -- ---- the pointers

  way_top : (place : ℕ) → f u.tree.levels place ≡ (if place == 0 then u.tree.root else hole)
  way_top place = ap (λ n. f n place) is.levels ∙ elim (cases_eq k s.tree.levels) [
    | inl top ↦
        let first : q ≡ 0 = top_is_first s.tree q (subst (λ n. (pointer_at s.tree n q).stamp ≢ 0) top is.some) in
        elim (cases_eq place 0) [
          | inl e ↦ moved_here (pointer_at s.tree) k q p s.tree.levels place (sym top) (e ∙ sym first) ∙ sym (is.top (omega (arith, top))) ∙ sym (ap (λ n. if n == 0 then u.tree.root else hole) e)
          | inr differs ↦
              let test : (place == 0) ≡ false = grind (arith, nat_tests) in
              moved_elsewhere (pointer_at s.tree) k q p s.tree.levels place (inr (λ e. differs (e ∙ first))) ∙ (own_way s.tree).top place ∙ ap (λ b. if b then s.tree.root else hole) test ∙ sym (ap (λ b. if b then u.tree.root else hole) test)
        ]
    | inr below ↦
        moved_elsewhere (pointer_at s.tree) k q p s.tree.levels place (inl (λ e. below (sym e))) ∙ (own_way s.tree).top place
        ∙ ap (λ r. if place == 0 then r else hole) (sym (is.low (omega (arith, within, below))))
  ]

  -- the children of what was placed
  way_own : (j c : ℕ) → j < s.tree.levels → j + 1 ≡ k → c / fan ≡ q → f j c ≡ get_or (pointers_at u.tree (j + 1) (c / fan) (f (j + 1) (c / fan))) (c % fan) hole
  way_own j c lt up at =
      let node = is.node (omega (arith, up)) in
      let reached : (pointer_at s.tree (j + 1) (c / fan)).stamp ≢ 0 = λ e. is.some (sym (λ i. (pointer_at s.tree (up i) (at i)).stamp) ∙ e) in
      let held : s.tree.nodes (j + 1) (c / fan) ≡ Some node.0 = (λ i. s.tree.nodes (up i) (at i)) ∙ node.1 in
      let read : pointers_at u.tree k q p ≡ node.0 = read_pointers u.tree k q p some (is.own (omega (arith, up))) ∙ node.2 in
      moved_elsewhere (pointer_at s.tree) k q p j c (inl (omega (arith, up))) ∙ (own_way s.tree).down j c lt
      ∙ ap (λ (xs : List Pointer). get_or xs (c % fan) hole) (kept_pointers s.tree (j + 1) (c / fan) (pointer_at s.tree (j + 1) (c / fan)) node.0 reached held)
      ∙ sym (ap (λ (xs : List Pointer). get_or xs (c % fan) hole) ((λ i. pointers_at u.tree (up i) (at i) (moved_here (pointer_at s.tree) k q p (j + 1) (c / fan) up at i)) ∙ read))

  -- the pointer itself
  way_here : (j c : ℕ) → j < s.tree.levels → j ≡ k → c ≡ q → f j c ≡ get_or (pointers_at u.tree (j + 1) (c / fan) (f (j + 1) (c / fan))) (c % fan) hole
  way_here j c lt up at =
      let less : k < s.tree.levels = omega (arith, lt, up) in
      let node = is.over less in
      let above : f (k + 1) (q / fan) ≡ pointer_at s.tree (k + 1) (q / fan) = moved_elsewhere (pointer_at s.tree) k q p (k + 1) (q / fan) (inl (omega arith)) in
      let reached : (f (k + 1) (q / fan)).stamp ≢ 0 = λ e. over_some less (sym (ap (λ (p : Pointer). p.stamp) above) ∙ e) in
      moved_here (pointer_at s.tree) k q p j c up at
      ∙ sym ((λ i. get_or (pointers_at u.tree (up i + 1) (at i / fan) (f (up i + 1) (at i / fan))) (at i % fan) hole)
      ∙ ap (λ (xs : List Pointer). get_or xs (q % fan) hole) (kept_pointers u.tree (k + 1) (q / fan) (f (k + 1) (q / fan)) (slice_set node.0 (q % fan) p) reached node.2)
      ∙ get_or-set_same node.0 (q % fan) p hole (omega (arith, node.3)))

  -- the other pointers of the node over it
  way_beside : (j c : ℕ) → j < s.tree.levels → j ≡ k → c / fan ≡ q / fan → c ≢ q → f j c ≡ get_or (pointers_at u.tree (j + 1) (c / fan) (f (j + 1) (c / fan))) (c % fan) hole
  way_beside j c lt up at differs =
      let less : k < s.tree.levels = omega (arith, lt, up) in
      let node = is.over less in
      let above : f (j + 1) (c / fan) ≡ pointer_at s.tree (j + 1) (c / fan) = moved_elsewhere (pointer_at s.tree) k q p (j + 1) (c / fan) (inl (omega (arith, up))) in
      let next : j + 1 ≡ k + 1 = omega (arith, up) in
      let reached : (pointer_at s.tree (j + 1) (c / fan)).stamp ≢ 0 = λ e. over_some less (sym (λ i. (pointer_at s.tree (next i) (at i)).stamp) ∙ e) in
      moved_elsewhere (pointer_at s.tree) k q p j c (inr differs) ∙ (own_way s.tree).down j c lt
      ∙ ap (λ (xs : List Pointer). get_or xs (c % fan) hole) (kept_pointers s.tree (j + 1) (c / fan) (pointer_at s.tree (j + 1) (c / fan)) node.0 reached ((λ i. s.tree.nodes (next i) (at i)) ∙ node.1))
      ∙ sym (get_or-set_other node.0 (q % fan) (c % fan) p hole (apart c q at differs))
      ∙ sym (ap (λ (xs : List Pointer). get_or xs (c % fan) hole) (ap (pointers_at u.tree (j + 1) (c / fan)) above ∙ kept_pointers u.tree (j + 1) (c / fan) (pointer_at s.tree (j + 1) (c / fan)) (slice_set node.0 (q % fan) p) reached ((λ i. u.tree.nodes (next i) (at i)) ∙ node.2)))

  -- the pointers of all other nodes
  same_pointers : (j c : ℕ) → 1 ≤ j → (j ≢ k) ⊎ (c ≢ q) → (j ≢ k + 1) ⊎ (c ≢ q / fan) → pointers_at u.tree j c (pointer_at s.tree j c) ≡ pointers_at s.tree j c (pointer_at s.tree j c)
  same_pointers j c low other beside = elim (cases_eq (pointer_at s.tree j c).stamp 0) [
    | inl e ↦ no_pointers u.tree j c (pointer_at s.tree j c) e ∙ sym (no_pointers s.tree j c (pointer_at s.tree j c) e)
    | inr reached ↦ elim (there (s.tree.nodes j c)) [
      | inl none ↦
          let leads : Leads s j c (pointer_at s.tree j c).vvbn = record { some = reached; placed = memory.nodes j c low none; vvbn = refl } in
          read_pointers u.tree j c (pointer_at s.tree j c) reached (is.nodes j c low other beside ∙ none)
          ∙ ap pointers_in (stays_under j c (pointer_at s.tree j c).vvbn leads other).0
          ∙ sym (read_pointers s.tree j c (pointer_at s.tree j c) reached none)
      | inr held ↦ kept_pointers u.tree j c (pointer_at s.tree j c) held.0 reached (is.nodes j c low other beside ∙ held.1) ∙ sym (kept_pointers s.tree j c (pointer_at s.tree j c) held.0 reached held.1)
    ]
  ]

  way_other : (j c : ℕ) → j < s.tree.levels → (j + 1 ≢ k) ⊎ (c / fan ≢ q) → (j + 1 ≢ k + 1) ⊎ (c / fan ≢ q / fan) → f j c ≡ get_or (pointers_at u.tree (j + 1) (c / fan) (f (j + 1) (c / fan))) (c % fan) hole
  way_other j c lt other beside =
      let own : (j ≢ k) ⊎ (c ≢ q) = elim beside [
        | inl differs ↦ inl (λ e. differs (ap (λ n. n + 1) e))
        | inr differs ↦ inr (λ e. differs (ap (λ n. n / fan) e))
      ] in
      moved_elsewhere (pointer_at s.tree) k q p j c own ∙ (own_way s.tree).down j c lt
      ∙ ap (λ (xs : List Pointer). get_or xs (c % fan) hole) (sym (same_pointers (j + 1) (c / fan) (omega arith) other beside))
      ∙ sym (ap (λ r. get_or (pointers_at u.tree (j + 1) (c / fan) r) (c % fan) hole) (moved_elsewhere (pointer_at s.tree) k q p (j + 1) (c / fan) other))

  way_down : (j c : ℕ) → j < u.tree.levels → f j c ≡ get_or (pointers_at u.tree (j + 1) (c / fan) (f (j + 1) (c / fan))) (c % fan) hole
  way_down j c less = let lt : j < s.tree.levels = omega (arith, less, is.levels) in elim (spot_is (j + 1) (c / fan) k q) [
    | inl own ↦ way_own j c lt own.0 own.1
    | inr other ↦ elim (spot_is j c k q) [
      | inl here ↦ way_here j c lt here.0 here.1
      | inr differs ↦ elim (spot_is (j + 1) (c / fan) (k + 1) (q / fan)) [
        | inl beside ↦ way_beside j c lt (omega (arith, beside.0)) beside.1 (elim differs [
          | inl level ↦ absurd (level (omega (arith, beside.0)))
          | inr place ↦ place
        ])
        | inr apart ↦ way_other j c lt other apart
      ]
    ]
  ]

  pub pointers : (j c : ℕ) → j ≤ s.tree.levels → pointer_at u.tree j c ≡ f j c
  pointers j c le = is_way u.tree f (record { top = way_top; down = way_down }) j c (omega (arith, le, is.levels))

  pub pointer_here : pointer_at u.tree k q ≡ p
  pointer_here = pointers k q within ∙ moved_here (pointer_at s.tree) k q p k q refl refl

  pub pointer_there : (j c : ℕ) → (j ≢ k) ⊎ (c ≢ q) → pointer_at u.tree j c ≡ pointer_at s.tree j c
  pointer_there j c other = elim (cases_lt s.tree.levels j) [
    | inl lt ↦ past u.tree j c (omega (arith, lt, is.levels)) ∙ sym (past s.tree j c lt)
    | inr le ↦ pointers j c le ∙ moved_elsewhere (pointer_at s.tree) k q p j c other
  ]

  pub same_stamps : (j c : ℕ) → (pointer_at u.tree j c).stamp ≡ (pointer_at s.tree j c).stamp
  same_stamps j c = elim (spot_is j c k q) [
    | inl at ↦ (λ i. (pointer_at u.tree (at.0 i) (at.1 i)).stamp) ∙ ap (λ (p : Pointer). p.stamp) pointer_here ∙ is.stamp ∙ sym (λ i. (pointer_at s.tree (at.0 i) (at.1 i)).stamp)
    | inr other ↦ ap (λ (p : Pointer). p.stamp) (pointer_there j c other)
  ]

  -- ---- the cells' blocks

  block_own : k ≡ 0 → block_at u.tree q ≡ block_at s.tree q
  block_own none =
      let cell = is.cell none in
      let now : pointer_at u.tree 0 q ≡ p = (λ i. pointer_at u.tree (sym none i) q) ∙ pointer_here in
      let reached : (pointer_at s.tree 0 q).stamp ≢ 0 = subst (λ n. (pointer_at s.tree n q).stamp ≢ 0) none is.some in
      block_read u.tree q (λ e. some (sym (ap (λ (p : Pointer). p.stamp) now) ∙ e)) (is.own_cell none) ∙ ap (λ (r : Pointer). u.tree.under r.vvbn) now ∙ cell.2 ∙ sym (block_here s.tree q cell.0 reached cell.1)

  block_other : (i : ℕ) → (0 ≢ k) ⊎ (i ≢ q) → block_at u.tree i ≡ block_at s.tree i
  block_other i other =
      let pointer : pointer_at u.tree 0 i ≡ pointer_at s.tree 0 i = pointer_there 0 i other in
      let cell : u.tree.cells i ≡ s.tree.cells i = is.cells i (elim other [
        | inl level ↦ inl (λ e. level (sym e))
        | inr place ↦ inr place
      ]) in
      elim (cases_eq (pointer_at s.tree 0 i).stamp 0) [
        | inl e ↦ block_none u.tree i (ap (λ (p : Pointer). p.stamp) pointer ∙ e) ∙ sym (block_none s.tree i e)
        | inr reached ↦
            let too : (pointer_at u.tree 0 i).stamp ≢ 0 = λ e. reached (sym (ap (λ (p : Pointer). p.stamp) pointer) ∙ e) in
            elim (there (s.tree.cells i)) [
              | inl none ↦
                  let leads : Leads s 0 i (pointer_at s.tree 0 i).vvbn = record { some = reached; placed = memory.cells i none; vvbn = refl } in
                  block_read u.tree i too (cell ∙ none) ∙ ap (λ (r : Pointer). u.tree.under r.vvbn) pointer ∙ (stays_under 0 i (pointer_at s.tree 0 i).vvbn leads other).0 ∙ sym (block_read s.tree i reached none)
              | inr held ↦ block_here u.tree i held.0 too (cell ∙ held.1) ∙ sym (block_here s.tree i held.0 reached held.1)
            ]
      ]

  pub same_blocks : (i : ℕ) → block_at u.tree i ≡ block_at s.tree i
  same_blocks i = elim (spot_is 0 i k q) [
    | inl at ↦ ap (block_at u.tree) at.1 ∙ block_own (sym at.0) ∙ sym (ap (block_at s.tree) at.1)
    | inr other ↦ block_other i other
  ]

  -- ---- the tree stands on its blocks

  leads_old : (j c v : ℕ) → (j ≢ k) ⊎ (c ≢ q) → Leads u j c v → Leads s j c v
  leads_old j c v other leads = record {
    some = λ e. leads.some (ap (λ (p : Pointer). p.stamp) (pointer_there j c other) ∙ e);
    placed = sym (is.placed_others j c other) ∙ leads.placed;
    vvbn = sym (ap (λ (p : Pointer). p.vvbn) (pointer_there j c other)) ∙ leads.vvbn;
  }

  own_vvbn : (j c v : ℕ) → j ≡ k → c ≡ q → Leads u j c v → p.vvbn ≡ v
  own_vvbn j c v e g leads = ap (λ (p : Pointer). p.vvbn) (sym ((λ i. pointer_at u.tree (e i) (g i)) ∙ pointer_here)) ∙ leads.vvbn

  -- no other leads to the new block
  not_new : {P : Type 0} (j c v : ℕ) → (j ≢ k) ⊎ (c ≢ q) → Leads u j c v → p.vvbn ≡ v → P
  not_new j c v other leads e = none_some (s.tree.under v) (ap s.tree.under (sym e) ∙ is.fresh) (sound.held j c v (leads_old j c v other leads))

  once : (j c m n v : ℕ) → Leads u j c v → Leads u m n v → (j ≡ m) × (c ≡ n)
  once j c m n v first second = elim (spot_is j c k q) [
    | inl one ↦ elim (spot_is m n k q) [
      | inl two ↦ (one.0 ∙ sym two.0, one.1 ∙ sym two.1)
      | inr other ↦ not_new m n v other second (own_vvbn j c v one.0 one.1 first)
    ]
    | inr other ↦ elim (spot_is m n k q) [
      | inl two ↦ not_new j c v other first (own_vvbn m n v two.0 two.1 second)
      | inr too ↦ sound.once j c m n v (leads_old j c v other first) (leads_old m n v too second)
    ]
  ]

  held : (j c v : ℕ) → Leads u j c v → is_some (u.tree.under v) ≡ true
  held j c v leads = elim (spot_is j c k q) [
    | inl at ↦ ap (λ w. is_some (u.tree.under w)) (sym (own_vvbn j c v at.0 at.1 leads)) ∙ is.now
    | inr other ↦ let was = leads_old j c v other leads in ap is_some (stays_under j c v was other).0 ∙ sound.held j c v was
  ]

  same_kind : (j : ℕ) → j ≡ k → kind_for u.tree.owner j ≡ kind_for s.tree.owner k
  same_kind j e = λ i. kind_for (is.owner i) (e i)

  in_use : (j c v : ℕ) → Leads u j c v → IsRight (kind_for u.tree.owner j) (pointer_at u.tree j c) (uses v)
  in_use j c v leads = elim (spot_is j c k q) [
    | inl at ↦ right_as (kind_for s.tree.owner k) (kind_for u.tree.owner j) (same_kind j at.0) p (pointer_at u.tree j c) (uses p.vvbn) (uses v) (ap (λ (p : Pointer). p.pvbn) ((λ i. pointer_at u.tree (at.0 i) (at.1 i)) ∙ pointer_here)) (ap uses (sym (own_vvbn j c v at.0 at.1 leads))) is.taken
    | inr other ↦
        let was = leads_old j c v other leads in
        right_as (kind_for s.tree.owner j) (kind_for u.tree.owner j) (ap (λ (o : ℕ). kind_for o j) is.owner) (pointer_at s.tree j c) (pointer_at u.tree j c) (used v) (uses v) (ap (λ (p : Pointer). p.pvbn) (pointer_there j c other)) (stays_under j c v was other).1 (sound.used j c v was)
  ]

  -- what still differs from its block is another
  still : (j c : ℕ) → u.changed j c ≡ true → ((j ≢ k) ⊎ (c ≢ q)) × (s.changed j c ≡ true)
  still = changed_before s u k q is.changed is.changed_others

  over : (j c : ℕ) → u.changed j c ≡ true → (pointer_at u.tree j c).stamp ≢ 0 → j < u.tree.levels → u.changed (j + 1) (c / fan) ≡ true
  over j c changed reached lt =
      let above : s.changed (j + 1) (c / fan) ≡ true = sound.over j c (still j c changed).1 (λ e. reached (same_stamps j c ∙ e)) (omega (arith, lt, is.levels)) in
      elim (spot_is (j + 1) (c / fan) k q) [
        | inl at ↦ false_is_true (s.changed j c) (is.first j c at.0) (still j c changed).1
        | inr other ↦ is.changed_others (j + 1) (c / fan) other ∙ above
      ]

  -- a node that is neither the one that went nor the one over it
  same_other : (j c : ℕ) (xs : List Pointer) → 1 ≤ j → u.tree.nodes j c ≡ Some xs → u.changed j c ≡ false → (pointer_at u.tree j c).stamp ≢ 0 → (j ≢ k) ⊎ (c ≢ q) → (j ≢ k + 1) ⊎ (c ≢ q / fan)
      → (pointers_in (u.tree.under (pointer_at u.tree j c).vvbn) ≡ xs) × (u.placed j c ≡ true)
  same_other j c xs low node changed reached other beside =
      let pointer : pointer_at u.tree j c ≡ pointer_at s.tree j c = pointer_there j c other in
      let some_old : (pointer_at s.tree j c).stamp ≢ 0 = λ e. reached (same_stamps j c ∙ e) in
      let was = sound.same j c xs low (sym (is.nodes j c low other beside) ∙ node) (sym (is.changed_others j c other) ∙ changed) some_old in
      let leads : Leads s j c (pointer_at s.tree j c).vvbn = record { some = some_old; placed = was.1; vvbn = refl } in (
        (λ i. pointers_in (u.tree.under (pointer i).vvbn)) ∙ ap pointers_in (stays_under j c (pointer_at s.tree j c).vvbn leads other).0 ∙ was.0,
        is.placed_others j c other ∙ was.1,
      )

  same : (j c : ℕ) (xs : List Pointer) → 1 ≤ j → u.tree.nodes j c ≡ Some xs → u.changed j c ≡ false → (pointer_at u.tree j c).stamp ≢ 0
      → (pointers_in (u.tree.under (pointer_at u.tree j c).vvbn) ≡ xs) × (u.placed j c ≡ true)
  same j c xs low node changed reached = elim (spot_is j c k q) [
    | inl at ↦ some_none (u.tree.nodes j c) xs ((λ i. u.tree.nodes (at.0 i) (at.1 i)) ∙ is.own (omega (arith, low, at.0))) node
    | inr other ↦ elim (spot_is j c (k + 1) (q / fan)) [
      | inl above ↦
          let lt : k < s.tree.levels = omega (arith, above.0, is.levels, reached_within u.tree j c reached) in
          let still : u.changed j c ≡ true = is.changed_others j c other ∙ (λ i. s.changed (above.0 i) (above.1 i)) ∙ sound.over k q is.was is.some lt in
          false_is_true (u.changed j c) changed still
      | inr beside ↦ same_other j c xs low node changed reached other beside
    ]
  ]

  cells_other : (index : ℕ) (block : List ℕ) → u.tree.cells index ≡ Some block → u.changed 0 index ≡ false → (pointer_at u.tree 0 index).stamp ≢ 0 → (0 ≢ k) ⊎ (index ≢ q)
      → (u.tree.under (pointer_at u.tree 0 index).vvbn ≡ Some block) × (u.placed 0 index ≡ true)
  cells_other index block cell changed reached other =
      let pointer : pointer_at u.tree 0 index ≡ pointer_at s.tree 0 index = pointer_there 0 index other in
      let some_old : (pointer_at s.tree 0 index).stamp ≢ 0 = λ e. reached (same_stamps 0 index ∙ e) in
      let apart : (k ≢ 0) ⊎ (index ≢ q) = elim other [
        | inl level ↦ inl (λ e. level (sym e))
        | inr place ↦ inr place
      ] in
      let was = sound.cells index block (sym (is.cells index apart) ∙ cell) (sym (is.changed_others 0 index other) ∙ changed) some_old in
      let leads : Leads s 0 index (pointer_at s.tree 0 index).vvbn = record { some = some_old; placed = was.1; vvbn = refl } in
      ((λ i. u.tree.under (pointer i).vvbn) ∙ (stays_under 0 index (pointer_at s.tree 0 index).vvbn leads other).0 ∙ was.0, is.placed_others 0 index other ∙ was.1)

  in_cells : (index : ℕ) (block : List ℕ) → u.tree.cells index ≡ Some block → u.changed 0 index ≡ false → (pointer_at u.tree 0 index).stamp ≢ 0
      → (u.tree.under (pointer_at u.tree 0 index).vvbn ≡ Some block) × (u.placed 0 index ≡ true)
  in_cells index block cell changed reached = elim (spot_is 0 index k q) [
    | inl at ↦ some_none (u.tree.cells index) block (ap u.tree.cells at.1 ∙ is.own_cell (sym at.0)) cell
    | inr other ↦ cells_other index block cell changed reached other
  ]

  empty_other : (j c : ℕ) → 1 ≤ j → (pointer_at u.tree j c).stamp ≡ 0 → (j ≤ u.tree.levels) ⊎ ((c ≢ 0) ⊎ (u.tree.root.stamp ≡ 0)) → (j ≢ k) ⊎ (c ≢ q) → (j ≢ k + 1) ⊎ (c ≢ q / fan) → IsEmptyNode u.tree j c
  empty_other j c low none where_ other beside xs node = sound.empty j c low (sym (same_stamps j c) ∙ none) (elim where_ [
    | inl le ↦ inl (omega (arith, le, is.levels))
    | inr (inl differs) ↦ inr (inl differs)
    | inr (inr hole) ↦ inr (inr (elim (cases_lt k s.tree.levels) [
      | inl lt ↦ sym (ap (λ (p : Pointer). p.stamp) (is.low lt)) ∙ hole
      | inr le ↦ absurd (some (sym (ap (λ (p : Pointer). p.stamp) (is.top le)) ∙ hole))
    ]))
  ]) xs (sym (is.nodes j c low other beside) ∙ node)

  -- above the levels nothing but the first range isn't empty
  not_above : {P : Type 0} (j c : ℕ) → j ≡ k + 1 → c ≡ q / fan → s.tree.levels ≤ k → (j ≤ u.tree.levels) ⊎ ((c ≢ 0) ⊎ (u.tree.root.stamp ≡ 0)) → P
  not_above j c up at le where_ =
      let top : k ≡ s.tree.levels = omega (arith, le, within) in
      let first : q ≡ 0 = top_is_first s.tree q (subst (λ n. (pointer_at s.tree n q).stamp ≢ 0) top is.some) in
      elim where_ [
        | inl low ↦ absurd (omega (arith, low, up, le, is.levels))
        | inr (inl differs) ↦ absurd (differs (at ∙ ap (λ n. n / fan) first))
        | inr (inr hole) ↦ absurd (some (sym (ap (λ (p : Pointer). p.stamp) (is.top le)) ∙ hole))
      ]

  empty : (j c : ℕ) → 1 ≤ j → (pointer_at u.tree j c).stamp ≡ 0 → (j ≤ u.tree.levels) ⊎ ((c ≢ 0) ⊎ (u.tree.root.stamp ≡ 0)) → IsEmptyNode u.tree j c
  empty j c low none where_ = elim (spot_is j c k q) [
    | inl at ↦ absurd (is.some (sym ((λ i. (pointer_at u.tree (at.0 i) (at.1 i)).stamp) ∙ same_stamps k q) ∙ none))
    | inr other ↦ elim (spot_is j c (k + 1) (q / fan)) [
      | inl above ↦ elim (cases_lt k s.tree.levels) [
        | inl lt ↦ absurd (over_some lt (sym ((λ i. (pointer_at u.tree (above.0 i) (above.1 i)).stamp) ∙ same_stamps (k + 1) (q / fan)) ∙ none))
        | inr le ↦ not_above j c above.0 above.1 le where_
      ]
      | inr beside ↦ empty_other j c low none where_ other beside
    ]
  ]

  pub stands : IsSound uses u
  stands = record { once = once; held = held; used = in_use; over = over; same = same; cells = in_cells; empty = empty }

  -- ---- what was placed and replaced

  -- nothing but the one was placed
  only_flushed : (j c : ℕ) → IsFlushed s u j c → (j ≡ k) × (c ≡ q)
  only_flushed j c flushed = elim (spot_is j c k q) [
    | inl at ↦ at
    | inr other ↦ false_is_true (s.changed j c) (sym (is.changed_others j c other) ∙ flushed.done) flushed.was
  ]

  flushed_here : IsFlushed s u k q
  flushed_here = record { was = is.was; done = is.changed; some = is.some }

  replaced_here : (v : ℕ) → Leads s k q v → IsReplaced s u v
  replaced_here v leads = record { level = k; place = q; flushed = flushed_here; leads = leads }

  placed_here : (v : ℕ) → v ≡ p.vvbn → IsPlaced s u v
  placed_here v e = record { level = k; place = q; flushed = flushed_here; vvbn = ap (λ (p : Pointer). p.vvbn) pointer_here ∙ sym e }

  stays : (j c : ℕ) → (u.changed j c ≡ true) ⊎ (s.changed j c ≡ false) → pointer_at u.tree j c ≡ pointer_at s.tree j c
  stays j c (inl changed) = pointer_there j c (still j c changed).0
  stays j c (inr before) = pointer_there j c (elim (spot_is j c k q) [
    | inl at ↦ false_is_true (s.changed j c) before ((λ i. s.changed (at.0 i) (at.1 i)) ∙ is.was)
    | inr other ↦ other
  ])

  gone : (v : ℕ) → IsReplaced s u v → (IsPlaced s u v → ⊥) → uses v ≡ None
  gone v replaced not_placed =
      let at = only_flushed replaced.level replaced.place replaced.flushed in
      is.gone v (subst (λ n. Leads s n q v) at.0 (subst (λ n. Leads s replaced.level n v) at.1 replaced.leads)) (λ e. not_placed (placed_here v e))

  -- the children of what was placed
  child_is : (j c : ℕ) (xs : List Pointer) → j + 1 ≡ k → c / fan ≡ q → s.tree.nodes k q ≡ Some xs → pointer_at u.tree j c ≡ get_or xs (c % fan) hole
  child_is j c xs up at held =
      let reached : (pointer_at s.tree (j + 1) (c / fan)).stamp ≢ 0 = λ e. is.some (sym (λ i. (pointer_at s.tree (up i) (at i)).stamp) ∙ e) in
      pointer_there j c (inl (omega (arith, up))) ∙ (own_way s.tree).down j c (omega (arith, up, within))
      ∙ ap (λ (xs : List Pointer). get_or xs (c % fan) hole) (kept_pointers s.tree (j + 1) (c / fan) (pointer_at s.tree (j + 1) (c / fan)) xs reached ((λ i. s.tree.nodes (up i) (at i)) ∙ held))

  unknown : (j c : ℕ) → IsFlushed s u (j + 1) (c / fan) → (pointer_at u.tree j c).stamp ≢ 0 → (pointer_at u.tree j c).pvbn ≡ 0 → (pointer_at u.tree (j + 1) (c / fan)).pvbn ≡ 0
  unknown j c flushed reached none =
      let at = only_flushed (j + 1) (c / fan) flushed in
      let node = is.node (omega (arith, at.0)) in
      let child : pointer_at u.tree j c ≡ get_or node.0 (c % fan) hole = child_is j c node.0 at.0 at.1 node.1 in
      ap (λ (p : Pointer). p.pvbn) ((λ i. pointer_at u.tree (at.0 i) (at.1 i)) ∙ pointer_here)
      ∙ node.3 (c % fan) (λ e. reached (ap (λ (p : Pointer). p.stamp) child ∙ e)) (sym (ap (λ (p : Pointer). p.pvbn) child) ∙ none)

  holds_unknown : (j c : ℕ) → j ≡ k → c ≡ q → 1 ≤ k → HasUnknown (s.tree.nodes k q) → HoldsUnknown u.tree j c
  holds_unknown j c level place low has =
      let over : (q * fan + has.slot) / fan ≡ q = omega (arith, has.low) in
      let slot : (q * fan + has.slot) % fan ≡ has.slot = omega (arith, has.low) in
      let child : pointer_at u.tree (k - 1) (q * fan + has.slot) ≡ get_or has.xs has.slot hole = child_is (k - 1) (q * fan + has.slot) has.xs (omega (arith, low)) over has.held ∙ ap (λ n. get_or has.xs n hole) slot in record {
        below = k - 1;
        child = q * fan + has.slot;
        up = omega (arith, level, low);
        over = over ∙ sym place;
        some = λ e. has.some (sym (ap (λ (p : Pointer). p.stamp) child) ∙ e);
        unknown = ap (λ (p : Pointer). p.pvbn) child ∙ has.unknown;
      }

  -- the cell that was placed has the block that it had in memory
  own_block : (c : ℕ) (block : List ℕ) → 0 ≡ k → c ≡ q → s.tree.cells q ≡ Some block → block_at u.tree c ≡ Some block
  own_block c block level place held =
      ap (block_at u.tree) place ∙ block_own (sym level) ∙ block_here s.tree q block (subst (λ (n : ℕ). (pointer_at s.tree n q).stamp ≢ 0) (sym level) is.some) held

  unknown_roots : (c : ℕ) (block : List ℕ) → IsFlushed s u 0 c → block_at u.tree c ≡ Some block → has_unknown_root u.tree.owner block ≡ true → (pointer_at u.tree 0 c).pvbn ≡ 0
  unknown_roots c block flushed holds root =
      let at = only_flushed 0 c flushed in
      let cell = is.cell (sym at.0) in
      let same : Some cell.0 ≡ Some block = sym (own_block c cell.0 at.0 at.1 cell.1) ∙ holds in
      ap (λ (p : Pointer). p.pvbn) ((λ i. pointer_at u.tree (at.0 i) (at.1 i)) ∙ pointer_here)
      ∙ cell.3 (same_root s.tree.owner u.tree.owner cell.0 block is.owner same ∙ root)

  hidden : hides ≡ true → (j c : ℕ) → IsFlushed s u j c → (pointer_at u.tree j c).pvbn ≡ 0
  hidden hide j c flushed = let at = only_flushed j c flushed in ap (λ (p : Pointer). p.pvbn) ((λ i. pointer_at u.tree (at.0 i) (at.1 i)) ∙ pointer_here) ∙ is.hidden hide

  holds_root : (j c : ℕ) → j ≡ k → c ≡ q → k ≡ 0 → HasUnknownRoot s.tree.owner (s.tree.cells q) → HoldsUnknownRoot u.tree j c
  holds_root j c level place first has =
      record { cell = level ∙ first; block = has.block; holds = own_block c has.block (sym first) place has.held; unknown = ap (λ (o : ℕ). has_unknown_root o has.block) is.owner ∙ has.unknown }

  told : hides ≡ false → (j c : ℕ) → IsFlushed s u j c → (uses (pointer_at u.tree j c).vvbn ≡ Some (use_told (pointer_at u.tree j c) (kind_for u.tree.owner j))) ⊎ (HoldsUnknown u.tree j c ⊎ HoldsUnknownRoot u.tree j c)
  told tells j c flushed =
      let at = only_flushed j c flushed in
      let own : pointer_at u.tree j c ≡ p = (λ i. pointer_at u.tree (at.0 i) (at.1 i)) ∙ pointer_here in
      elim (is.told tells) [
        | inl same ↦ inl (ap (λ (r : Pointer). uses r.vvbn) own ∙ same ∙ sym (λ i. Some (use_told (own i) (same_kind j at.0 i))))
        | inr (inl node) ↦ inr (inl (holds_unknown j c at.0 at.1 node.0 node.1))
        | inr (inr root) ↦ inr (inr (holds_root j c at.0 at.1 root.0 root.1))
      ]

  kinds : (j c : ℕ) → IsFlushed s u j c → HasKind (kind_for u.tree.owner j) (uses (pointer_at u.tree j c).vvbn)
  kinds j c flushed =
      let at = only_flushed j c flushed in
      let own : pointer_at u.tree j c ≡ p = (λ i. pointer_at u.tree (at.0 i) (at.1 i)) ∙ pointer_here in
      subst (λ (kind : ℕ). HasKind kind (uses (pointer_at u.tree j c).vvbn)) (sym (same_kind j at.0))
      (subst (λ (r : Pointer). HasKind (kind_for s.tree.owner k) (uses r.vvbn)) (sym own) (right_kind (kind_for s.tree.owner k) p (uses p.vvbn) is.taken))

  positions : (j c : ℕ) → 1 ≤ j → IsFlushed s u j c → NamesPosition u.tree j c
  positions j c low flushed =
      let at = only_flushed j c flushed in
      let own : pointer_at u.tree j c ≡ p = (λ i. pointer_at u.tree (at.0 i) (at.1 i)) ∙ pointer_here in
      subst (λ (r : Pointer). IsNodeOf u.tree.owner j c (u.tree.under r.vvbn)) (sym own)
      (subst (λ (o : ℕ). IsNodeOf o j c (u.tree.under p.vvbn)) (sym is.owner)
      (subst (λ (n : ℕ). IsNodeOf s.tree.owner n c (u.tree.under p.vvbn)) (sym at.0)
      (subst (λ (n : ℕ). IsNodeOf s.tree.owner k n (u.tree.under p.vvbn)) (sym at.1) (is.names (omega (arith, low, at.0))))))

  pub placed_fresh : (v : ℕ) → IsPlaced s u v → (s.tree.under v ≡ None) × (used v ≡ None)
  placed_fresh v placed =
      let at = only_flushed placed.level placed.place placed.flushed in
      let own : p.vvbn ≡ v = ap (λ (p : Pointer). p.vvbn) (sym ((λ i. pointer_at u.tree (at.0 i) (at.1 i)) ∙ pointer_here)) ∙ placed.vvbn in
      (ap s.tree.under (sym own) ∙ is.fresh, ap used (sym own) ∙ is.unused)

  pub flushes_placed : Flushes hides s used u uses
  flushes_placed = record {
    owner = is.owner;
    sound = stands;
    alike = record { levels = is.levels; stamps = λ j c. (λ i. if same_stamps j c i == 0 then None else Some (same_stamps j c i)); blocks = same_blocks };
    stamps = same_stamps;
    fewer = λ j c changed. ((still j c changed).1, is.placed_others j c (still j c changed).0);
    stays = stays;
    blocks = λ v block not_replaced there. (is.others v (λ e. some_none (s.tree.under v) block (ap s.tree.under e ∙ is.fresh) there) (λ leads. not_replaced (replaced_here v leads))).0 ∙ there;
    others = λ v not_replaced not_placed. is.others v (λ e. not_placed (placed_here v e)) (λ leads. not_replaced (replaced_here v leads));
    fresh = λ v placed _. placed_fresh v placed;
    gone = gone;
    unknown = unknown;
    unknown_roots = unknown_roots;
    hidden = hidden;
    told = told;
    kinds = kinds;
    positions = positions;
  }
