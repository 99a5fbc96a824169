-- A tree some nodes of which stay at their places.
use Rattle.std.proofs.Common.{◌≡◌, ◌≢◌, ℕ, ◌+◌, ◌-◌, ◌*◌, ◌/◌, ◌<◌, ◌≤◌, ◌⊎◌, List, length, get_or, take, Bool, true, false, not, ◌&&◌, ◌||◌, refl, sym, ap, subst, ◌∙◌, arith, inl, inr, ⊎_elim, Ok, Option, None, Some}
use Rattle.std.specs.Prelude.{nat_lt, ◌==◌, if◌then◌else◌, IfSome}
use Rattle.std.specs.FinSet as set
use Rattle.std.proofs.lemmas.Bool.{and_parts, cases_eq, cases_lt, true≢false}
use Rattle.std.proofs.lemmas.Bool.Decides.{nat_tests}
use Rattle.std.proofs.lemmas.List.{get_or_past}
use Rattle.std.proofs.Math.Seq.{take-length}
use Rattle.fv_disk.specs.Shown.{Image}
use Rattle.fv_codec.specs.Blocks.{last_place}
use Rattle.fv_image.specs.Containers.{level_width}
use Rattle.std.specs.Global.{Box}
use Rattle.fv_codec.specs.declared.container.ContainerLeaf.{ContainerLeaf}
use Rattle.fv_codec.specs.Blocks.{leaf_at}
use Rattle.fv_container.specs.declared.entry.Entry.{Entry}
use Rattle.fv_container.specs.Kept.{map_of}
use Rattle.fv_container.specs.Mapped.{node_count}
use Rattle.fv_container.specs.Spelled.{names, pair_of}
use Rattle.fv_container.specs.Freeing.{IsRoom, Room}
use Rattle.fv_container.specs.Paged.{IsLeafFor, Leaves, is_as_said, leaf_here}
use Rattle.fv_container.specs.Written.{AreAnew, AreLeft, ArePlaced, AreWritten, HasReleased, HasTaken, IsInnerOf, IsLeafOf, IsNodeOf, IsPutOf, Stays, child_from, is_above, is_full, is_there, may_move, passed_before}
use Rattle.fv_container.specs.Clean.{IsOver}
use Rattle.fv_container.specs.Flushed.{AreRows, IsApart, IsOnce, is_kept}
use Rattle.fv_container.specs.Storing.{AreSaid, HasMoved}
use Rattle.fv_container.proofs.Named.{named_at, named_where}
use Rattle.fv_container.proofs.Tests.{said_as}

module _ (held : Leaves) (entries : ℕ) (tree : List ℕ) (dirty : List Bool) (fresh places next room_row : List ℕ) (rows : AreRows held entries tree dirty next room_row)
    (len : length places ≡ length next) (anew_len : length fresh ≡ length room_row) (placed : ArePlaced (is_there held tree dirty entries) entries tree dirty fresh places (length places))
  where
    tree_long : length tree ≡ node_count entries
    tree_long = rows.tree

    pub long : length places ≡ node_count entries
    long = len ∙ rows.nodes

    fresh_long : length fresh ≡ length places
    fresh_long = anew_len ∙ (rows.fresh ∙ sym long)

    abbrev leaves : ℕ
    leaves = level_width entries 0

    abbrev inner : ℕ
    inner = level_width entries 1

    -- a node that isn't dirty has a place of its own
    abbrev Alone : Type 0
    Alone = (m k : ℕ) → m ≢ k → get_or dirty m true ≡ false → get_or tree m 0 ≢ 0 → get_or tree m 0 ≢ get_or tree k 0

    within : (ps : List ℕ) (m : ℕ) → get_or ps m 0 ≢ 0 → m < length ps
    within ps m some = ⊎_elim (λ (is : m < length ps). is) (λ (past : length ps ≤ m). absurd (some (get_or_past ps m 0 past))) (cases_lt m (length ps))

    inside_tree : (m : ℕ) → get_or tree m 0 ≢ 0 → m < length places
    inside_tree m some = omega (arith, within tree m some, tree_long, long)

    pub all_bounded : (room : Room) (new : Room) → HasTaken room (may_move held dirty entries) fresh (length fresh) new → (m : ℕ) → get_or places m 0 ≤ last_place
    all_bounded room new taken m = ⊎_elim
        (λ (none : get_or places m 0 ≡ 0). omega (arith, none))
        (λ (some : get_or places m 0 ≢ 0).
        let lt = within places m some in
        ⊎_elim
        (λ (stays : get_or fresh m 0 ≡ 0). let is = (placed m lt).stays stays some in rw is.place (rows.places m is.clean))
        (λ (anew : get_or fresh m 0 ≢ 0). rw ((placed m lt).anew anew) (taken.bounded m (omega (arith, lt, fresh_long))))
        (cases_eq (get_or fresh m 0) 0))
        (cases_eq (get_or places m 0) 0)

    -- ---- what stands on the disk

    module _ (es : List (Option Entry)) (size : length es ≡ entries) where
      -- a leaf that is written anew is in memory, and as the entries say
      put_leaf : (m : ℕ) (block : List ℕ) (b : Option (Box ContainerLeaf)) → is_full b ≡ true → is_as_said es m b ≡ true → IfSome b (λ x. IsLeafFor m x.value) → IfSome b (λ x. leaf_at block ≡ Ok x.value) → IsLeafOf es m block
      put_leaf m block None full said well stands = absurd (true≢false (sym full))
      put_leaf m block (Some x) full said well stands = record { leaf = x.value; said = stands; index_said = well.index; entries = said_as es m x said }

      moves_leaf : (m : ℕ) → m < level_width entries 0 → may_move held dirty entries m ≡ true → (get_or dirty m true ≡ true) × (is_full (leaf_here held m) ≡ true)
      unfolding may_move
      moves_leaf m low is =
          let test : nat_lt m (level_width entries 0) ≡ true = grind (arith, nat_tests) in
          and_parts (get_or dirty m true) (is_full (leaf_here held m)) (sym (ap (λ (t : Bool). if t then (get_or dirty m true && is_full (leaf_here held m)) else is_above entries m) test) ∙ is)

      put_node : (m : ℕ) (block : List ℕ) → may_move held dirty entries m ≡ true → AreSaid es held dirty → IsPutOf held entries places m block → IsNodeOf es places m block
      put_node m block moves said is = record {
        leaf = λ low.
            let low_n : m < level_width entries 0 = rw (← size) low in
            let both = moves_leaf m low_n moves in
            put_leaf m block (leaf_here held m) both.1 (said m both.0) (rows.well m) (is.leaf low_n);
        inner = λ low high. rw size (is.inner (rw (← size) low) (rw (← size) high));
        top = λ top. rw size (is.top (rw (← size) top));
      }

      module _ (stored : List (Option Entry)) (stored_long : length stored ≡ length es) (same : (v : ℕ) → get_or dirty (v / 256) true ≡ false → get_or es v None ≡ get_or stored v None) where
        child_same : (from end c : ℕ) → ((k : ℕ) → from ≤ k → k < from + 256 → k < end → get_or places k 0 ≡ get_or tree k 0) → c < 256 → child_from tree from end c ≡ child_from places from end c
        child_same from end c below lt = ⊎_elim
            (λ (inside : from + c < end).
            let test : nat_lt (from + c) end ≡ true = grind (arith, nat_tests) in
            rw test (sym (below (from + c) (omega arith) (omega (arith, lt)) inside)))
            (λ (past : end ≤ from + c).
            let test : nat_lt (from + c) end ≡ false = grind (arith, nat_tests) in
            rw test refl)
            (cases_lt (from + c) end)

        inner_same : (level number from end : ℕ) (block : List ℕ) → ((k : ℕ) → from ≤ k → k < from + 256 → k < end → get_or places k 0 ≡ get_or tree k 0) → IsInnerOf tree level number from end block → IsInnerOf places level number from end block
        inner_same level number from end block below is = record {
          node = is.node;
          said = is.said;
          level_said = is.level_said;
          number_said = is.number_said;
          children = λ c lt. is.children c lt ∙ child_same from end c below lt;
        }

        node_same : (m : ℕ) (block : List ℕ) → Stays (length es) tree dirty places m → IsNodeOf stored tree m block → IsNodeOf es places m block
        node_same m block stays is = record {
          leaf = λ low. let leaf = is.leaf (rw stored_long low) in record {
            leaf = leaf.leaf;
            said = leaf.said;
            index_said = leaf.index_said;
            entries = λ c lt.
                let at : (256 * m + c) / 256 ≡ m = omega (arith, lt) in
                leaf.entries c lt ∙ ap pair_of (sym (same (256 * m + c) (ap (λ (k : ℕ). get_or dirty k true) at ∙ stays.clean)));
          };
          inner = λ low high.
              inner_same 1 (m - (level_width (length es) 0)) (256 * (m - (level_width (length es) 0))) (level_width (length es) 0) block (λ k from to end. stays.below.inner low high k from to end) (rw (← stored_long) (is.inner (rw stored_long low) (rw stored_long high)));
          top = λ top.
              inner_same 2 0 (level_width (length es) 0) (level_width (length es) 0 + level_width (length es) 1) block (λ k from to end. stays.below.top top k from end) (rw (← stored_long) (is.top (rw stored_long top)));
        }

      pub all_written : (room mid : Room) (i j : Image) → HasTaken room (may_move held dirty entries) fresh (length fresh) mid → AreSaid es held dirty → IsApart room tree → IsOver i (map_of es tree dirty)
          → ((b : ℕ) → names fresh b ≡ false → j b ≡ i b) → AreAnew held entries places fresh (length fresh) j → AreWritten es places (length places) j
      all_written room mid i j taken said apart over still anew m lt some = ⊎_elim
          (λ (none : get_or fresh m 0 ≡ 0).
          let stays = (placed m lt).stays none some in
          let there : get_or tree m 0 ≢ 0 = λ z. some (stays.place ∙ z) in
          let inside : m < length tree = within tree m there in
          let named : names tree (get_or tree m 0) ≡ true = named_at tree m (get_or tree m 0) inside refl there in
          let spared : names fresh (get_or tree m 0) ≡ false = not_true (names fresh (get_or tree m 0)) (λ is. true≢false (sym named ∙ apart (get_or tree m 0) (taken.free (get_or tree m 0) (ap (λ (l : List ℕ). names l (get_or tree m 0)) (take-length fresh) ∙ is)))) in
          let stands : IsNodeOf over.stored tree m (j (get_or tree m 0)) = subst (IsNodeOf over.stored tree m) (sym (still (get_or tree m 0) spared)) (over.written m inside there) in
          subst (λ (p : ℕ). IsNodeOf es places m (j p)) (sym stays.place) (node_same over.stored over.long over.same m (j (get_or tree m 0)) (subst (λ (n : ℕ). Stays n tree dirty places m) (sym size) stays) stands))
          (λ (is : get_or fresh m 0 ≢ 0).
          let inside : m < length fresh = omega (arith, lt, fresh_long) in
          subst (λ (p : ℕ). IsNodeOf es places m (j p)) (sym ((placed m lt).anew is)) (put_node m (j (get_or fresh m 0)) (taken.wanted m inside is) said (anew m inside is)))
          (cases_eq (get_or fresh m 0) 0)
        where
          not_true : (t : Bool) → (t ≡ true → ⊥) → t ≡ false
          not_true true wrong = absurd (wrong refl)
          not_true false wrong = refl

    -- ---- the map

    -- a place of the new tree is new, or the node stays
    record Kept (b : ℕ) : Type 0 where
      number : ℕ
      stays : Stays (entries) tree dirty places number
      place : get_or places number 0 ≡ b
      some : b ≢ 0

    new_or_kept : (b : ℕ) → names places b ≡ true → (names fresh b ≡ true) ⊎ Kept b
    new_or_kept b named =
        let at = named_where places b named in
        ⊎_elim
        (λ (none : get_or fresh at.number 0 ≡ 0). inr (record { number = at.number; stays = (placed at.number at.within).stays none (λ z. at.some (sym at.place ∙ z)); place = at.place; some = at.some }))
        (λ (is : get_or fresh at.number 0 ≢ 0). inl (named_at fresh at.number b (omega (arith, at.within, fresh_long)) (sym ((placed at.number at.within).anew is) ∙ at.place) at.some))
        (cases_eq (get_or fresh at.number 0) 0)

    kept_was : (b : ℕ) → Kept b → names tree b ≡ true
    kept_was b kept =
        let place : get_or tree kept.number 0 ≡ b = sym kept.stays.place ∙ kept.place in
        named_at tree kept.number b (within tree kept.number (λ z. kept.some (sym place ∙ z))) place kept.some

    new_named : (b : ℕ) → names fresh b ≡ true → names places b ≡ true
    new_named b named =
        let at = named_where fresh b named in
        let inside : at.number < length places = omega (arith, at.within, fresh_long) in
        named_at places at.number b inside ((placed at.number inside).anew (λ z. at.some (sym at.place ∙ z)) ∙ at.place) at.some

    not_true : (t : Bool) → (t ≡ true → ⊥) → t ≡ false
    not_true true wrong = absurd (wrong refl)
    not_true false wrong = refl

    and_first : (s t : Bool) → (s && not t) ≡ true → (s ≡ true) × (t ≡ false)
    and_first true false is = (refl, refl)
    and_first true true is = absurd (true≢false (sym is))
    and_first false t is = absurd (true≢false (sym is))

    module _ (given : List ℕ) (given_is : length given ≡ length fresh) (left : AreLeft tree places given (length given)) (room mid new : Room) (laws : IsRoom room)
        (taken : HasTaken room (may_move held dirty entries) fresh (length fresh) mid) (released : HasReleased mid given (length given) new)
      where
        given_long : length given ≡ length places
        given_long = given_is ∙ fresh_long

        all_taken : (b : ℕ) → names (take (length fresh) fresh) b ≡ names fresh b
        all_taken b = ap (λ (l : List ℕ). names l b) (take-length fresh)

        all_given : (b : ℕ) → names (take (length given) given) b ≡ names given b
        all_given b = ap (λ (l : List ℕ). names l b) (take-length given)

        new_free : (b : ℕ) → names fresh b ≡ true → set.contains room.free b ≡ true
        new_free b named = taken.free b (all_taken b ∙ named)

        -- what is given back was a place of the old tree, at a node that doesn't stay
        record Given (b : ℕ) : Type 0 where
          number : ℕ
          inside : number < length places
          place : get_or tree number 0 ≡ b
          other : get_or places number 0 ≢ get_or tree number 0
          some : b ≢ 0

        given_where : (b : ℕ) → names given b ≡ true → Given b
        given_where b named =
            let at = named_where given b named in
            ⊎_elim
            (λ (same : get_or places at.number 0 ≡ get_or tree at.number 0). absurd (at.some (sym at.place ∙ (left at.number at.within).0 same)))
            (λ (other : get_or places at.number 0 ≢ get_or tree at.number 0). record {
              number = at.number;
              inside = omega (arith, at.within, given_long);
              place = sym ((left at.number at.within).1 other) ∙ at.place;
              other = other;
              some = at.some;
            })
            (cases_eq (get_or places at.number 0) (get_or tree at.number 0))

        given_was : (b : ℕ) → names given b ≡ true → names tree b ≡ true
        given_was b named = let at = given_where b named in named_at tree at.number b (omega (arith, at.inside, long, tree_long)) at.place at.some

        -- what was a place of the old tree is one of the new, or is given back
        left_or_given : (b : ℕ) → names tree b ≡ true → names places b ≡ false → names given b ≡ true
        left_or_given b named lacks =
            let at = named_where tree b named in
            let inside : at.number < length places = omega (arith, at.within, long, tree_long) in
            let other : get_or places at.number 0 ≢ get_or tree at.number 0 = λ same. true≢false (sym (named_at places at.number b inside (same ∙ at.place) at.some) ∙ lacks) in
            let last : at.number < length given = omega (arith, inside, given_long) in
            named_at given at.number b last ((left at.number last).1 other ∙ at.place) at.some

        mid_free : (b : ℕ) → set.contains mid.free b ≡ true → (set.contains room.free b ≡ true) × (names fresh b ≡ false)
        mid_free b free = let both = and_first (set.contains room.free b) (names (take (length fresh) fresh) b) (sym (taken.left b) ∙ free) in (both.0, sym (all_taken b) ∙ both.1)

        held_now : (b : ℕ) → new.held b ≡ (not (names given b) && (names fresh b || room.held b))
        held_now b = released.held b ∙ ap (λ t. not t && mid.held b) (all_given b) ∙ ap (λ t. not (names given b) && t) (taken.held b ∙ ap (λ t. t || room.held b) (all_taken b))

        module _ (apart : IsApart room tree) (alone : Alone) where
          not_new : (b : ℕ) → names tree b ≡ true → names fresh b ≡ false
          not_new b named = not_true (names fresh b) (λ is. true≢false (sym named ∙ apart b (new_free b is)))

          kept_not_given : (b : ℕ) → Kept b → names given b ≡ false
          kept_not_given b kept = not_true (names given b) (λ is.
              let at = given_where b is in
              let place : get_or tree kept.number 0 ≡ b = sym kept.stays.place ∙ kept.place in
              ⊎_elim
              (λ (e : kept.number ≡ at.number). at.other (subst (λ (k : ℕ). get_or places k 0 ≡ get_or tree k 0) e kept.stays.place))
              (λ (ne : kept.number ≢ at.number). alone kept.number at.number ne kept.stays.clean (λ z. kept.some (sym place ∙ z)) (place ∙ sym at.place))
              (cases_eq kept.number at.number))

          abbrev Holds : ℕ → Type 0
          Holds b = new.held b ≡ (if names places b then (not (names tree b) || room.held b) else (not (names tree b) && room.held b))

          held_so : (b : ℕ) → (p t g f : Bool) → names places b ≡ p → names tree b ≡ t → names given b ≡ g → names fresh b ≡ f → (not g && (f || room.held b)) ≡ (if p then (not t || room.held b) else (not t && room.held b)) → Holds b
          held_so b p t g f is_p is_t is_g is_f e = held_now b ∙ rw (is_p, is_t, is_g, is_f) e

          held_by : (b : ℕ) → Holds b
          held_by b = by (names places b) (names tree b) refl refl
            where
              by : (p t : Bool) → names places b ≡ p → names tree b ≡ t → Holds b
              by true true is_p is_t =
                  let fresh_not = not_new b is_t in
                  let kept : Kept b = ⊎_elim (λ is. absurd (true≢false (sym is ∙ fresh_not))) (λ kept. kept) (new_or_kept b is_p) in
                  held_so b true true false false is_p is_t (kept_not_given b kept) fresh_not refl
              by true false is_p is_t =
                  let is_new : names fresh b ≡ true = ⊎_elim (λ is. is) (λ kept. absurd (true≢false (sym (kept_was b kept) ∙ is_t))) (new_or_kept b is_p) in
                  held_so b true false false true is_p is_t (not_true (names given b) (λ is. true≢false (sym (given_was b is) ∙ is_t))) is_new refl
              by false true is_p is_t =
                  held_so b false true true false is_p is_t (left_or_given b is_t is_p) (not_new b is_t) refl
              by false false is_p is_t =
                  held_so b false false false false is_p is_t (not_true (names given b) (λ is. true≢false (sym (given_was b is) ∙ is_t))) (not_true (names fresh b) (λ is. true≢false (sym (new_named b is) ∙ is_p))) refl

          once : IsOnce places
          once m k lt below some same =
              let first : m < length places = omega (arith, lt, below) in
              let there : get_or places m 0 ≢ 0 = λ z. some (sym same ∙ z) in
              ⊎_elim
              (λ (no_m : get_or fresh m 0 ≡ 0).
              let a = (placed m first).stays no_m there in
              let old_m : names tree (get_or places m 0) ≡ true = kept_was (get_or places m 0) (record { number = m; stays = a; place = refl; some = there }) in
              ⊎_elim
              (λ (no_k : get_or fresh k 0 ≡ 0).
              let b = (placed k below).stays no_k some in
              alone m k (omega (arith, lt)) a.clean (λ z. there (a.place ∙ z)) (sym a.place ∙ same ∙ b.place))
              (λ (new_k : get_or fresh k 0 ≢ 0).
              let named : names fresh (get_or places m 0) ≡ true = named_at fresh k (get_or places m 0) (omega (arith, below, fresh_long)) (sym ((placed k below).anew new_k) ∙ sym same) there in
              true≢false (sym named ∙ not_new (get_or places m 0) old_m))
              (cases_eq (get_or fresh k 0) 0))
              (λ (new_m : get_or fresh m 0 ≢ 0).
              let named : names fresh (get_or places m 0) ≡ true = named_at fresh m (get_or places m 0) (omega (arith, first, fresh_long)) (sym ((placed m first).anew new_m)) there in
              ⊎_elim
              (λ (no_k : get_or fresh k 0 ≡ 0).
              let b = (placed k below).stays no_k some in
              let old_k : names tree (get_or places m 0) ≡ true = kept_was (get_or places m 0) (record { number = k; stays = b; place = sym same; some = there }) in
              true≢false (sym named ∙ not_new (get_or places m 0) old_k))
              (λ (new_k : get_or fresh k 0 ≢ 0).
              taken.once m k lt (omega (arith, below, fresh_long)) new_k (sym ((placed m first).anew new_m) ∙ same ∙ (placed k below).anew new_k))
              (cases_eq (get_or fresh k 0) 0))
              (cases_eq (get_or fresh m 0) 0)

        there_kept : (n : ℕ) → is_kept entries n ≡ true → get_or tree n 0 ≢ 0 → get_or dirty n true ≡ false → is_there held tree dirty entries n ≡ true
        unfolding is_there
        there_kept n is some clean = ⊎_elim
            (λ (low : n < level_width entries 0).
            let test : nat_lt n (level_width entries 0) ≡ true = grind (arith, nat_tests) in
            let none : (get_or tree n 0 == 0) ≡ false = grind (arith, nat_tests, some) in
            rw (test, clean, none) refl)
            (λ (high : level_width entries 0 ≤ n).
            let test : nat_lt n (level_width entries 0) ≡ false = grind (arith, nat_tests) in
            rw test (ap (λ (t : Bool). t || is_above entries n) (sym test) ∙ is))
            (cases_lt n (level_width entries 0))

        -- a leaf that isn't dirty stays, and is absent where it was
        leaf_kept : (n : ℕ) → n < level_width entries 0 → get_or dirty n true ≡ false → get_or places n 0 ≡ get_or tree n 0
        unfolding is_there
        leaf_kept n low clean = ⊎_elim
            (λ (none : get_or tree n 0 ≡ 0). (placed n inside).absent (gone none) ∙ sym none)
            (λ (some : get_or tree n 0 ≢ 0). (placed n inside).keeps (there_kept n kept some clean) some clean (record {
              inner = λ past high k from to end. absurd (omega (arith, low, past));
              top = λ is k from to. absurd (omega (arith, low, is));
            }))
            (cases_eq (get_or tree n 0) 0)
          where
            inside : n < length places
            inside = omega (arith, low, long)

            test : nat_lt n (level_width entries 0) ≡ true
            test = grind (arith, nat_tests)

            kept : is_kept entries n ≡ true
            kept = ap (λ (t : Bool). t || is_above entries n) test

            gone : get_or tree n 0 ≡ 0 → is_there held tree dirty entries n ≡ false
            gone none = let zero : (get_or tree n 0 == 0) ≡ true = grind (arith, nat_tests, none) in rw (test, clean, zero) refl

        pub all_moved : HasMoved room held entries tree dirty places new
        all_moved = record {
          exchanges = λ es. record {
            free = λ b named lacks. ⊎_elim (new_free b) (λ kept. absurd (true≢false (sym (kept_was b kept) ∙ lacks))) (new_or_kept b named);
            stay = λ b free lacks.
                released.keeps b (taken.left b ∙ ap (λ t. set.contains room.free b && not t) (all_taken b ∙ not_true (names fresh b) (λ is. true≢false (sym (new_named b is) ∙ lacks))) ∙ ap (λ t. t && true) free);
            come = λ b free lacks. ⊎_elim
                (λ (was : set.contains mid.free b ≡ true).
                let both = mid_free b was in (
                  both.0,
                  not_true (names places b) (λ named. ⊎_elim (λ is. true≢false (sym is ∙ both.1)) (λ kept. true≢false (sym (kept_was b kept) ∙ lacks)) (new_or_kept b named)),
                ))
                (λ (back : names (take (length given) given) b ≡ true). absurd (true≢false (sym (given_was b (sym (all_given b) ∙ back)) ∙ lacks)))
                (released.adds b free);
            held = held_by;
            committed = released.committed ∙ taken.committed;
          };
          once = λ es. once;
          count =
              let needed : passed_before (may_move held dirty entries) (length fresh) ≡ passed_before (may_move held dirty entries) (node_count entries) = ap (passed_before (may_move held dirty entries)) (fresh_long ∙ long) in
              omega (arith, taken.fewer, released.grows, needed);
          stays = λ m kept some so below. (placed m (inside_tree m some)).keeps (there_kept m kept some so) some so below;
          clean = leaf_kept;
        }
