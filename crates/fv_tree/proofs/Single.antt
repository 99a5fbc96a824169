-- The removal of one cell, from the pointers that it leaves.
use Rattle.std.proofs.Common.{◌≡◌, ◌≢◌, ◌≤◌, ◌<◌, ℕ, zero, suc, ◌+◌, ◌-◌, ◌/◌, ◌^◌, ◌⊎◌, inl, inr, true, false, cond, List, Option, Some, None, refl, sym, ap, subst, ◌∙◌, arith, is_some, nat_eq, ◌==◌, if◌then◌else◌}
use Rattle.std.proofs.Math.Nat.{div-eq_of_lt, pow-le-pow_right}
use Rattle.std.specs.Option.{option_map}
use Rattle.std.specs.BTreeMap as tree
use Rattle.std.specs.Ordering.{nat_cmp}
use Rattle.std.proofs.lemmas.Bool.{cases_eq, cases_lt}
use Rattle.std.proofs.lemmas.Bool.Decides.{nat_tests}
use Rattle.fv_codec.specs.declared.pointer.Pointer.{Pointer}
use Rattle.fv_model.specs.Trees.{fan}
use Rattle.fv_tree.specs.Sources.{Use}
use Rattle.fv_tree.specs.declared.kept.Tree.{Tree}
use Rattle.fv_tree.specs.Spelled.{Under, Rooted, pointers_in, pointer_at, stamp_in, block_at}
use Rattle.fv_tree.specs.Standing.{standing, node_in}
use Rattle.fv_tree.specs.Writing.{stamped, stamped_in, slot_of}
use Rattle.fv_tree.specs.Erasing.{StandsAt, HoldsCells, IsErased}
use Rattle.fv_tree.specs.Releasing.{IsDropped, KeepsBlocks}
use Rattle.fv_tree.specs.Flushing.{Leads, IsSound, IsEmptyNode, loaded_over, placed_of, changed_in, changed_of, cell_changed, pointer_in, kind_for}
use Rattle.fv_tree.specs.Unlinking.{HasWay, AreBare, Unlinks, CellGoes, cleared_in, IsOnWay, IsNamed, NamesOnce}
use Rattle.fv_tree.specs.Altering.{Alters}
use Rattle.fv_tree.proofs.Gone.{spot_changed}
use Rattle.fv_tree.proofs.Hints.{right_as, right_some}
use Rattle.fv_tree.proofs.Erased.{hole_of, not_both, stamp_there}
use Rattle.fv_tree.proofs.Collected.{pointer_in_is}
use Rattle.fv_tree.proofs.Stamped.{above}
use Rattle.fv_tree.proofs.Unlinked.{hole_below, new_root, marks_above, cell_within, mark_within, alone, lone, another, emptied, low, high, off_same, same_levels, unlinked}
use Rattle.fv_tree.proofs.Ways.{past}
use Rattle.fv_tree.proofs.Writes.{no_stamp, some_stamp, block_none, block_same}

-- no cell of a range stands, so nothing stands there
pub none_stands : (t : Rooted) (level place : ℕ) → HoldsCells t → ((k : ℕ) → k / fan ^ level ≡ place → StandsAt t 0 k → ⊥) → (pointer_at t level place).stamp ≡ 0
none_stands t level place holds none = elim (cases_eq (pointer_at t level place).stamp 0) [
  | inl e ↦ e
  | inr some ↦ absurd (holds level place some (λ k at. elim (cases_eq (pointer_at t 0 k).stamp 0) [
    | inl e ↦ e
    | inr stands ↦ absurd (none k at stands)
  ]))
]

same_above : (level more k i : ℕ) → k / fan ^ level ≡ i / fan ^ level → k / fan ^ (level + more) ≡ i / fan ^ (level + more)
same_above level zero k i at = let n : level + 0 ≡ level = omega arith in ap (λ m. k / fan ^ m) n ∙ at ∙ ap (λ m. i / fan ^ m) (sym n)
same_above level (suc more) k i at =
    let n : level + suc more ≡ level + more + 1 = omega arith in
    ap (λ m. k / fan ^ m) n ∙ sym (above k (level + more)) ∙ ap (λ q. q / fan) (same_above level more k i at) ∙ above i (level + more) ∙ ap (λ m. i / fan ^ m) (sym n)

same_cell : (i k : ℕ) → nat_eq i k ≡ true → k ≡ i
same_cell i k e = grind (arith, nat_tests)

other_cell : (i k : ℕ) → nat_eq i k ≡ false → k ≢ i
other_cell i k e same = absurd (grind (arith, nat_tests))

this_cell : (i : ℕ) → nat_eq i i ≡ true
this_cell i = grind (arith, nat_tests)

module _ (blocks : Under) (t u : Tree) (i lost start stamp : ℕ) (way : HasWay t i) (are : AreBare t i lost) (stands : StandsAt (standing blocks t) 0 i) (is : Unlinks t u i lost start stamp) (some : stamp ≢ 0) where
  abbrev s : Rooted
  s = standing blocks t

  abbrev v : Rooted
  v = standing blocks u

  all_or_not : (lost ≡ t.levels) ⊎ (lost < t.levels)
  all_or_not = let few = are.few in elim (cases_eq lost t.levels) [
    | inl all ↦ inl all
    | inr less ↦ inr (omega (arith, few))
  ]

  new_levels : lost < t.levels → u.levels ≡ t.levels
  new_levels lt = same_levels blocks t i lost way are stands u start stamp is some lt

  -- a pointer off the way
  beside : (level place : ℕ) → place ≢ i / fan ^ level → (pointer_at v level place ≡ pointer_at s level place) ⊎ (((pointer_at v level place).stamp ≡ 0) × ((pointer_at s level place).stamp ≡ 0))
  beside level place differs = elim all_or_not [
    | inl all ↦ inr (emptied blocks t i lost way are stands u start stamp is some all level place, lone blocks t i lost way are stands level place all differs)
    | inr lt ↦ elim (cases_lt t.levels level) [
      | inl over ↦ inl (past v level place (omega (arith, over, new_levels lt)) ∙ sym (past s level place over))
      | inr le ↦
          let here = unlinked blocks t i lost way are stands u start stamp is some lt level place le in
          elim (off_same blocks t i lost way are stands u start stamp is some level place differs) [
            | inl same ↦ inl (here ∙ same)
            | inr none ↦ inr (ap (λ (p : Pointer). p.stamp) here ∙ none.0, none.1)
          ]
    ]
  ]

  beside_stamp : (level place : ℕ) → place ≢ i / fan ^ level → stamp_in (pointer_at v level place) ≡ stamp_in (pointer_at s level place)
  beside_stamp level place differs = elim (beside level place differs) [
    | inl same ↦ ap stamp_in same
    | inr none ↦ no_stamp (pointer_at v level place) none.0 ∙ sym (no_stamp (pointer_at s level place) none.1)
  ]

  -- the pointers on the way
  gone_below : (level place : ℕ) → place ≡ i / fan ^ level → level ≤ lost → (pointer_at v level place).stamp ≡ 0
  gone_below level place at le = elim all_or_not [
    | inl all ↦ emptied blocks t i lost way are stands u start stamp is some all level place
    | inr lt ↦ ap (λ (p : Pointer). p.stamp) (unlinked blocks t i lost way are stands u start stamp is some lt level place (omega (arith, le, lt)) ∙ low blocks t i lost way are stands u start stamp is some level place at le)
  ]

  above_lost : (level place : ℕ) → lost < level → level ≤ t.levels → place ≡ i / fan ^ level → pointer_at v level place ≡ stamped (pointer_at s level place) stamp
  above_lost level place lt le at = unlinked blocks t i lost way are stands u start stamp is some (omega (arith, lt, le)) level place le ∙ high blocks t i lost way are stands u start stamp is some level place at lt

  -- the positions that go, and those that stay
  pub on_way_goes : (level : ℕ) → level ≤ lost → (pointer_at v level (i / fan ^ level)).stamp ≡ 0
  on_way_goes level le = gone_below level (i / fan ^ level) refl le

  pub other_stays : (level place : ℕ) → (lost < level) ⊎ (place ≢ i / fan ^ level) → is_some (stamp_in (pointer_at v level place)) ≡ is_some (stamp_in (pointer_at s level place))
  other_stays level place other = elim (cases_eq place (i / fan ^ level)) [
    | inr differs ↦ ap is_some (beside_stamp level place differs)
    | inl at ↦ elim other [
      | inr differs ↦ absurd (differs at)
      | inl lt ↦ elim (cases_lt t.levels level) [
        | inr le ↦
            ap is_some (ap stamp_in (above_lost level place lt le at) ∙ some_stamp (pointer_at s level place) stamp some)
            ∙ sym (ap is_some (stamp_there (pointer_at s level place) (λ none. marks_above s level i le stands (ap (λ q. (pointer_at s level q).stamp) (sym at) ∙ none))))
        | inl over ↦ ap is_some (no_stamp (pointer_at v level place) (elim all_or_not [
          | inl all ↦ emptied blocks t i lost way are stands u start stamp is some all level place
          | inr less ↦ ap (λ (p : Pointer). p.stamp) (past v level place (omega (arith, over, new_levels less)))
        ]) ∙ sym (no_stamp (pointer_at s level place) (ap (λ (p : Pointer). p.stamp) (past s level place over))))
      ]
    ]
  ]

  first_range : i ≡ i / fan ^ 0
  first_range = omega arith

  pub cells_left : (k : ℕ) → stamp_in (pointer_at v 0 k) ≡ cond (nat_eq i k) None (stamp_in (pointer_at s 0 k))
  cells_left k = elim (cases_eq k i) [
    | inl same ↦
        let test : nat_eq i k ≡ true = grind (arith, nat_tests) in
        no_stamp (pointer_at v 0 k) (gone_below 0 k (same ∙ first_range) (omega arith)) ∙ sym (ap (λ b. cond b None (stamp_in (pointer_at s 0 k))) test)
    | inr differs ↦
        let test : nat_eq i k ≡ false = grind (arith, nat_tests) in
        beside_stamp 0 k (λ e. differs (e ∙ sym first_range)) ∙ sym (ap (λ b. cond b None (stamp_in (pointer_at s 0 k))) test)
  ]

  module _ (holds : HoldsCells s) where
    bare : (level place : ℕ) → ((k : ℕ) → k / fan ^ level ≡ place → StandsAt s 0 k → nat_eq i k ≡ true) → stamp_in (pointer_at v level place) ≡ None
    bare level place only = no_stamp (pointer_at v level place) (elim (cases_eq place (i / fan ^ level)) [
      | inr differs ↦
          let none = none_stands s level place holds (λ k at there. differs (sym at ∙ ap (λ n. n / fan ^ level) (same_cell i k (only k at there)))) in
          hole_of (pointer_at v level place) (beside_stamp level place differs ∙ no_stamp (pointer_at s level place) none)
      | inl at ↦ elim (cases_lt lost level) [
        | inr le ↦ gone_below level place at le
        | inl lt ↦ elim all_or_not [
          | inl all ↦ emptied blocks t i lost way are stands u start stamp is some all level place
          | inr less ↦ elim (cases_lt t.levels level) [
            | inl over ↦ ap (λ (p : Pointer). p.stamp) (past v level place (omega (arith, over, new_levels less)))
            | inr le ↦
                let other = another blocks t i lost way are stands less in
                absurd (other.3 (none_stands s lost other.0 holds (λ k under there. other.1 (sym under ∙ ap (λ n. n / fan ^ lost) (same_cell i k (only k (below level k lt (ap (λ q. q / fan) under ∙ other.2) ∙ sym at) there))))))
          ]
        ]
      ]
    ])
      where
        below : (level k : ℕ) → lost < level → k / fan ^ lost / fan ≡ i / fan ^ (lost + 1) → k / fan ^ level ≡ i / fan ^ level
        below level k lt under =
            let n : lost + 1 + (level - (lost + 1)) ≡ level = omega arith in
            subst (λ m. k / fan ^ m ≡ i / fan ^ m) n (same_above (lost + 1) (level - (lost + 1)) k i (sym (above k lost) ∙ under))

    over : (level k j : ℕ) → level ≤ t.levels → StandsAt s 0 k → nat_eq i k ≡ false → StandsAt s 0 j → nat_eq i j ≡ true → j / fan ^ level ≡ k / fan ^ level → stamp_in (pointer_at v level (k / fan ^ level)) ≡ Some stamp
    over level k j le there stays stood goes at =
        let same : k / fan ^ level ≡ i / fan ^ level = sym at ∙ ap (λ n. n / fan ^ level) (same_cell i j goes) in
        elim (cases_lt lost level) [
          | inr low ↦ absurd (there (alone blocks t i lost way are stands level k low same (other_cell i k stays)))
          | inl lt ↦ ap stamp_in (above_lost level (k / fan ^ level) lt le same) ∙ some_stamp (pointer_at s level (k / fan ^ level)) stamp some
        ]

    contents : (k : ℕ) → block_at v k ≡ cond (nat_eq i k) None (block_at s k)
    contents k = elim (cases_eq k i) [
      | inl same ↦
          let test : nat_eq i k ≡ true = grind (arith, nat_tests) in
          block_none v k (gone_below 0 k (same ∙ first_range) (omega arith)) ∙ sym (ap (λ b. cond b None (block_at s k)) test)
      | inr differs ↦
          let test : nat_eq i k ≡ false = grind (arith, nat_tests) in
          (elim all_or_not [
            | inl all ↦ block_none v k (emptied blocks t i lost way are stands u start stamp is some all 0 k) ∙ sym (block_none s k (lone blocks t i lost way are stands 0 k all (λ e. differs (e ∙ sym first_range))))
            | inr lt ↦ elim (beside 0 k (λ e. differs (e ∙ sym first_range))) [
              | inl same ↦ block_same s v k same (is.cells lt k differs) refl
              | inr none ↦ block_none v k none.0 ∙ sym (block_none s k none.1)
            ]
          ]) ∙ sym (ap (λ b. cond b None (block_at s k)) test)
    ]

    pub one_erased : IsErased s v (nat_eq i) start stamp
    one_erased = record {
      cells = cells_left;
      blocks = contents;
      bare = bare;
      over = over;
      others = λ level place none. beside_stamp level place (λ at. absurd (not_this (none i (sym at) stands)));
      some = λ k there stays. elim all_or_not [
        | inl all ↦ absurd (there (lone blocks t i lost way are stands 0 k all (λ e. other_cell i k stays (e ∙ sym first_range))))
        | inr lt ↦ new_levels lt
      ];
      none = λ none. absurd (not_this (none i stands));
      back = λ only j there. elim all_or_not [
        | inl all ↦ is.levels ∙ (let test : nat_eq lost t.levels ≡ true = grind (arith, nat_tests) in ap (λ b. cond b start t.levels) test)
        | inr lt ↦
            let other = another blocks t i lost way are stands lt in
            absurd (other.3 (none_stands s lost other.0 holds (λ k under there. other.1 (sym under ∙ ap (λ n. n / fan ^ lost) (same_cell i k (only k there))))))
      ];
    }
      where
        not_this : nat_eq i i ≡ false → ⊥
        not_this e = absurd (let yes_ = this_cell i in grind (arith, nat_tests))

  -- ---- what goes, and what stays

  way_is : (level : ℕ) → level ≤ t.levels → pointer_in t level (i / fan ^ level) ≡ pointer_at s level (i / fan ^ level)
  way_is level le = pointer_in_is blocks t level (i / fan ^ level) (marks_above s level i le stands) (λ lt. let node = way (level + 1) (omega arith) (omega (arith, lt)) in (node.0, ap (node_in t (level + 1)) (above i level) ∙ node.1))

  -- a mark on the way that still stands
  still : (level : ℕ) → StandsAt v level (i / fan ^ level) → (lost < level) × (level ≤ t.levels)
  still level there = elim (cases_lt lost level) [
    | inr le ↦ absurd (there (gone_below level (i / fan ^ level) refl le))
    | inl lt ↦ (
      lt,
      elim all_or_not [
        | inl all ↦ absurd (there (emptied blocks t i lost way are stands u start stamp is some all level (i / fan ^ level)))
        | inr less ↦ let le = mark_within v level (i / fan ^ level) there in omega (arith, le, new_levels less)
      ],
    )
  ]

  pub one_dropped : (vvbn : ℕ) → IsDropped blocks t u vvbn → IsOnWay t i (lost + 1) vvbn
  one_dropped vvbn dropped = elim (cases_eq dropped.place (i / fan ^ dropped.level)) [
    | inl at ↦
        let le = mark_within s dropped.level dropped.place dropped.led.some in
        elim (cases_lt lost dropped.level) [
          | inl lt ↦ absurd (some (sym (ap (λ (p : Pointer). p.stamp) (above_lost dropped.level dropped.place lt le at)) ∙ dropped.goes))
          | inr low ↦ record {
            level = dropped.level;
            low = omega (arith, low);
            named = record {
              block = ap (placed_of t dropped.level) (sym at) ∙ dropped.led.placed;
              number = ap (λ (p : Pointer). p.vvbn) (way_is dropped.level le ∙ ap (pointer_at s dropped.level) (sym at)) ∙ dropped.led.vvbn;
            };
          }
        ]
    | inr differs ↦ elim (beside dropped.level dropped.place differs) [
      | inl same ↦ absurd (dropped.led.some (ap (λ (p : Pointer). p.stamp) (sym same) ∙ dropped.goes))
      | inr none ↦ absurd (dropped.led.some none.1)
    ]
  ]

  pub one_named : (vvbn : ℕ) → IsOnWay t i (lost + 1) vvbn → IsDropped blocks t u vvbn
  one_named vvbn named =
      let few = are.few in
      let low_enough = named.low in
      let le : named.level ≤ t.levels = omega (arith, few, low_enough) in record {
        level = named.level;
        place = i / fan ^ named.level;
        led = record { some = marks_above s named.level i le stands; placed = named.named.block; vvbn = ap (λ (p : Pointer). p.vvbn) (sym (way_is named.level le)) ∙ named.named.number };
        goes = gone_below named.level (i / fan ^ named.level) refl (omega (arith, low_enough));
      }

  leads_named : (level v : ℕ) → level < lost + 1 → IsNamed t level i v → Leads (loaded_over blocks t) level (i / fan ^ level) v
  leads_named level v lt named =
      let few = are.few in
      let le : level ≤ t.levels = omega (arith, few, lt) in record {
        some = marks_above s level i le stands;
        placed = named.block;
        vvbn = ap (λ (p : Pointer). p.vvbn) (sym (way_is level le)) ∙ named.number;
      }

  -- a tree that stands on its blocks has each of them in use, and once
  pub named_once : (used : ℕ → Option Use) → IsSound used (loaded_over blocks t) → NamesOnce used t i (lost + 1)
  named_once used sound = record {
    in_use = λ level v lt named. right_some (kind_for t.owner level) (pointer_at s level (i / fan ^ level)) (used v) (sound.used level (i / fan ^ level) v (leads_named level v lt named));
    once = λ k l v first second one two. (sound.once k (i / fan ^ k) l (i / fan ^ l) v (leads_named k v first one) (leads_named l v second two)).0;
  }

  -- what still stands
  not_all : (level place : ℕ) → StandsAt v level place → lost < t.levels
  not_all level place there = elim all_or_not [
    | inl all ↦ absurd (there (emptied blocks t i lost way are stands u start stamp is some all level place))
    | inr lt ↦ lt
  ]

  kept : (level place : ℕ) → StandsAt v level place → (StandsAt s level place) × ((pointer_at v level place).vvbn ≡ (pointer_at s level place).vvbn) × (placed_of u level place ≡ placed_of t level place) × ((pointer_at v level place).pvbn ≡ (pointer_at s level place).pvbn)
  kept level place there = let lt = not_all level place there in elim (cases_eq place (i / fan ^ level)) [
    | inl at ↦
        let high_enough = still level (subst (StandsAt v level) at there) in (
          subst (StandsAt s level) (sym at) (marks_above s level i high_enough.1 stands),
          ap (λ (p : Pointer). p.vvbn) (above_lost level place high_enough.0 high_enough.1 at),
          is.blocks lt level place (inl high_enough.0),
          ap (λ (p : Pointer). p.pvbn) (above_lost level place high_enough.0 high_enough.1 at),
        )
    | inr differs ↦ elim (beside level place differs) [
      | inl same ↦ ((λ none. there (ap (λ (p : Pointer). p.stamp) same ∙ none)), ap (λ (p : Pointer). p.vvbn) same, is.blocks lt level place (inr differs), ap (λ (p : Pointer). p.pvbn) same)
      | inr none ↦ absurd (there none.0)
    ]
  ]

  pub one_keeps : KeepsBlocks blocks t u
  one_keeps = record {
    stood = λ level place there. (kept level place there).0;
    number = λ level place there. (kept level place there).1;
    block = λ level place there. (kept level place there).2;
    hint = λ level place there. (kept level place there).3;
  }

  -- the nodes over another cell that still stands
  one_ways : (k : ℕ) → StandsAt v 0 k → HasWay t k → HasWay u k
  one_ways k there had level low high =
      let lt = not_all 0 k there in
      let le : level ≤ t.levels = omega (arith, high, new_levels lt) in
      let node = had level low le in
      elim (cases_eq (k / fan ^ level) (i / fan ^ level)) [
        | inr differs ↦ (node.0, is.others lt level (k / fan ^ level) differs ∙ node.1)
        | inl at ↦
            let mine : node_in t level (i / fan ^ level) ≡ Some node.0 = ap (node_in t level) (sym at) ∙ node.1 in
            elim (cases_eq level (lost + 1)) [
              | inl same ↦ (_, ap (node_in u level) at ∙ ap (λ n. node_in u n (i / fan ^ n)) same ∙ is.lowest lt ∙ ap (option_map (cleared_in (slot_of i (lost + 1)))) (ap (λ n. node_in t n (i / fan ^ n)) (sym same) ∙ mine))
              | inr other ↦
                  let higher : lost + 1 < level = (let above_it = (still level (subst (StandsAt v level) at (marks_above v level k high there))).0 in omega (arith, above_it, other)) in
                  (_, ap (node_in u level) at ∙ is.above level higher le ∙ ap (option_map (stamped_in (slot_of i level) stamp)) mine)
            ]
      ]

  -- how it stands to its blocks
  led : (level place w : ℕ) → Leads (loaded_over blocks u) level place w → Leads (loaded_over blocks t) level place w
  led level place w leads = let was_so = kept level place leads.some in record {
    some = was_so.0;
    placed = sym was_so.2 ∙ leads.placed;
    vvbn = sym was_so.1 ∙ leads.vvbn;
  }

  node_of : (level q : ℕ) → changed_of u (level + 1) q ≡ changed_in u.nodes (level + 1) q
  node_of level q = let test : (level + 1 == 0) ≡ false = grind (arith, nat_tests) in ap (λ b. if b then cell_changed (tree.get nat_cmp u.cells q) else changed_in u.nodes (level + 1) q) test

  changed_above : (level place : ℕ) → StandsAt v level place → level < t.levels → (place ≢ i / fan ^ level → changed_of t (level + 1) (place / fan) ≡ true) → changed_of u (level + 1) (place / fan) ≡ true
  changed_above level place there lt off = elim (cases_eq (place / fan) (i / fan ^ (level + 1))) [
    | inl at ↦
        let up : StandsAt v (level + 1) (i / fan ^ (level + 1)) = subst (StandsAt v (level + 1)) at (λ none. there (hole_below v level place (omega (arith, lt, new_levels (not_all level place there))) none)) in
        node_of level (place / fan) ∙ ap (changed_in u.nodes (level + 1)) at ∙ is.marked (level + 1) (still (level + 1) up).0 (omega arith)
    | inr other ↦
        let differs : place ≢ i / fan ^ level = λ e. other (ap (λ q. q / fan) e ∙ above i level) in
        is.unmarked (not_all level place there) (level + 1) (place / fan) other ∙ off differs
  ]

  same_node : (level place : ℕ) (xs : List Pointer) → node_in u level place ≡ Some xs → changed_of u level place ≡ false → 1 ≤ level → StandsAt v level place → place ≢ i / fan ^ level
  same_node level place xs node unchanged low there at =
      let high_enough = still level (subst (StandsAt v level) at there) in
      let n : (level - 1) + 1 ≡ level = omega arith in
      not_both (changed_of u level place) (subst (λ k. changed_of u k place ≡ changed_in u.nodes k place) n (node_of (level - 1) place) ∙ ap (changed_in u.nodes level) at ∙ is.marked level high_enough.0 high_enough.1) unchanged

  no_node : (level place : ℕ) (xs : List Pointer) → node_in u level place ≡ None → node_in u level place ≡ Some xs → ⊥
  no_node level place xs none node = absurd (let both : None ≡ Some xs = sym none ∙ node in none_is xs both)
    where
      none_is : (xs : List Pointer) → None ≡ Some xs → ⊥
      none_is xs e = absurd cc

  empty_there : (used : ℕ → Option Use) → IsSound used (loaded_over blocks t) → (level place : ℕ) → 1 ≤ level → (pointer_at v level place).stamp ≡ 0 → (level ≤ u.levels) ⊎ ((place ≢ 0) ⊎ (u.root.stamp ≡ 0)) → IsEmptyNode v level place
  empty_there used sound level place low none where_ xs node = elim all_or_not [
    | inl all ↦ absurd (no_node level place xs (is.emptied all level place) node)
    | inr lt ↦
        let rooted : u.root.stamp ≡ 0 → ⊥ = λ e. some (sym (ap (λ (p : Pointer). p.stamp) (new_root blocks t i lost way are stands u start stamp is some lt)) ∙ e) in
        elim (cases_eq place (i / fan ^ level)) [
          | inr differs ↦
              let hole_was : (pointer_at s level place).stamp ≡ 0 = hole_of (pointer_at s level place) (sym (beside_stamp level place differs) ∙ no_stamp (pointer_at v level place) none) in
              sound.empty level place low hole_was (elim where_ [
                | inl le ↦ inl (omega (arith, le, new_levels lt))
                | inr far ↦ elim far [
                  | inl other ↦ inr (inl other)
                  | inr e ↦ absurd (rooted e)
                ]
              ]) xs (sym (is.others lt level place differs) ∙ node)
          | inl at ↦ elim (cases_lt lost level) [
            | inr le ↦ absurd (no_node level place xs (ap (node_in u level) at ∙ is.forgotten level low le) node)
            | inl over ↦ elim (cases_lt t.levels level) [
              | inr high_enough ↦ absurd (some (sym (ap (λ (p : Pointer). p.stamp) (above_lost level place over high_enough at)) ∙ none))
              | inl past_it ↦ absurd (elim where_ [
                | inl le ↦ absurd (omega (arith, le, past_it, new_levels lt))
                | inr far ↦ elim far [
                  | inl other ↦ other (at ∙ far_up_none level past_it)
                  | inr e ↦ rooted e
                ]
              ])
            ]
          ]
        ]
  ]
    where
      far_up_none : (level : ℕ) → t.levels < level → i / fan ^ level ≡ 0
      far_up_none level lt =
          let more : fan ^ t.levels ≤ fan ^ level = pow-le-pow_right {n = fan} (omega arith) {i = t.levels} {j = level} (omega (arith, lt)) in
          div-eq_of_lt (let within = cell_within s i stands in omega (arith, more, within))

  one_sound : (used : ℕ → Option Use) → IsSound used (loaded_over blocks t) → IsSound used (loaded_over blocks u)
  one_sound used sound = record {
    once = λ level place k q w one other. sound.once level place k q w (led level place w one) (led k q w other);
    held = λ level place w leads. sound.held level place w (led level place w leads);
    used = λ level place w leads. right_as (kind_for t.owner level) (kind_for u.owner level) (ap (λ (o : ℕ). kind_for o level) is.owner) (pointer_at s level place) (pointer_at v level place) (used w) (used w) (kept level place leads.some).3 refl (sound.used level place w (led level place w leads));
    over = λ level place changed there lt.
        let less : level < t.levels = omega (arith, lt, new_levels (not_all level place there)) in
        changed_above level place there less (λ differs. sound.over level place (sym (is.unmarked (not_all level place there) level place differs) ∙ changed) (kept level place there).0 less);
    same = λ level place xs low node unchanged there.
        let differs = same_node level place xs node unchanged low there in
        let lt = not_all level place there in
        let was_so = kept level place there in
        let before_it = sound.same level place xs low (sym (is.others lt level place differs) ∙ node) (sym (is.unmarked lt level place differs) ∙ unchanged) was_so.0 in
        ((λ j. pointers_in (blocks (was_so.1 j))) ∙ before_it.0, was_so.2 ∙ before_it.1);
    cells = λ index block cell unchanged there.
        let differs : index ≢ i / fan ^ 0 = λ at. there ((λ j. (pointer_at v 0 (at j)).stamp) ∙ on_way_goes 0 (omega arith)) in
        let off : index ≢ i = λ e. differs (let first : i / fan ^ 0 ≡ i = omega arith in e ∙ sym first) in
        let lt = not_all 0 index there in
        let was_so = kept 0 index there in
        let before_it = sound.cells index block (sym (is.cells lt index off) ∙ cell) (sym (is.unmarked lt 0 index differs) ∙ unchanged) was_so.0 in
        ((λ j. blocks (was_so.1 j)) ∙ before_it.0, was_so.2 ∙ before_it.1);
    empty = empty_there used sound;
  }

  one_alters : Alters stamp (loaded_over blocks t) (loaded_over blocks u)
  one_alters level place = elim (cases_eq (pointer_at v level place).stamp 0) [
    | inl none ↦ inl none
    | inr there ↦ let lt = not_all level place there in elim (cases_eq place (i / fan ^ level)) [
      | inl at ↦ let up = still level (subst (StandsAt v level) at there) in inr (inl (record {
        stamped = ap (λ (p : Pointer). p.stamp) (above_lost level place up.0 up.1 at);
        changed = spot_changed u level place (omega (arith, up.0)) ∙ ap (changed_in u.nodes level) at ∙ is.marked level up.0 up.1;
      }))
      | inr differs ↦ elim (beside level place differs) [
        | inl same ↦ inr (inr (record { pointer = same; changed = is.unmarked lt level place differs }))
        | inr none ↦ inl none.0
      ]
    ]
  ]

  pub one_goes : CellGoes blocks t u i start stamp
  one_goes = record { erased = one_erased; cells = cells_left; keeps = one_keeps; ways = one_ways; sound = one_sound; alters = one_alters }
