-- Removals of cells, one after another.
use Rattle.std.proofs.Common.{◌≡◌, ◌≢◌, ◌≤◌, ℕ, ◌/◌, ◌^◌, ◌⊎◌, inl, inr, Bool, true, false, ◌||◌, cond, Option, Some, None, nat_eq, refl, sym, ap, ◌∙◌, arith}
use Rattle.std.proofs.lemmas.Bool.{cases_eq}
use Rattle.std.proofs.lemmas.Bool.Decides.{nat_tests}
use Rattle.fv_codec.specs.declared.pointer.Pointer.{Pointer}
use Rattle.fv_model.specs.Trees.{fan}
use Rattle.fv_tree.specs.Spelled.{Rooted, pointer_at, stamp_in, block_at}
use Rattle.fv_tree.specs.Keeping.{IsSame}
use Rattle.fv_tree.specs.Erasing.{StandsAt, HoldsCells, IsErased}
use Rattle.fv_tree.proofs.Writes.{no_stamp, some_stamp, block_none, same_alike}

-- ---- tests

pub either : (b : Bool) → (b ≡ true) ⊎ (b ≡ false)
either true = inl refl
either false = inr refl

apart : true ≡ false → ⊥
apart e = absurd cc

pub not_both : (b : Bool) → b ≡ true → b ≡ false → ⊥
not_both b is isnt = apart (sym is ∙ isnt)

pub no_choice : {X : Type 0} (b : Bool) → cond {A = Option X} b None None ≡ None
no_choice true = refl
no_choice false = refl

pub choice : {X : Type 0} (x y : Bool) (o : Option X) → cond y None (cond x None o) ≡ cond (x || y) None o
choice true y o = no_choice y
choice false y o = refl

none_some : (s : ℕ) → Some s ≡ None → ⊥
none_some s e = absurd cc

-- ---- stamps

pub stamp_there : (p : Pointer) → p.stamp ≢ 0 → stamp_in p ≡ Some p.stamp
stamp_there p some = some_stamp p p.stamp some

pub stands_of : (p : Pointer) (s : ℕ) → stamp_in p ≡ Some s → p.stamp ≢ 0
stands_of p s is none = none_some s (sym is ∙ no_stamp p none)

pub hole_of : (p : Pointer) → stamp_in p ≡ None → p.stamp ≡ 0
hole_of p none = elim (cases_eq p.stamp 0) [
  | inl e ↦ e
  | inr some ↦ absurd (none_some p.stamp (sym (stamp_there p some) ∙ none))
]

pub stands_as : (p q : Pointer) → stamp_in p ≡ stamp_in q → q.stamp ≢ 0 → p.stamp ≢ 0
stands_as p q same some = stands_of p q.stamp (same ∙ stamp_there q some)

module _ (old new : Rooted) (gone : ℕ → Bool) (start s : ℕ) (is : IsErased old new gone start s) where
  -- what is left of the cells
  pub still : (i : ℕ) → StandsAt old 0 i → gone i ≡ false → StandsAt new 0 i
  still i some stays = stands_as (pointer_at new 0 i) (pointer_at old 0 i) (is.cells i ∙ ap (λ b. cond b None (stamp_in (pointer_at old 0 i))) stays) some

  pub was : (i : ℕ) → StandsAt new 0 i → (gone i ≡ false) × StandsAt old 0 i
  was i some = elim (either (gone i)) [
    | inl goes ↦ absurd (some (hole_of (pointer_at new 0 i) (is.cells i ∙ ap (λ b. cond b None (stamp_in (pointer_at old 0 i))) goes)))
    | inr stays ↦ (stays, stands_as (pointer_at old 0 i) (pointer_at new 0 i) (sym (is.cells i ∙ ap (λ b. cond b None (stamp_in (pointer_at old 0 i))) stays)) some)
  ]

  -- no mark is left over holes alone
  pub holds_cells : HoldsCells new
  holds_cells level place some holes = some (hole_of (pointer_at new level place) (is.bare level place (λ i in_range stands. elim (either (gone i)) [
    | inl goes ↦ goes
    | inr stays ↦ absurd (still i stands stays (holes i in_range))
  ])))

-- nothing goes
pub nothing_erased : (t u : Rooted) (gone : ℕ → Bool) (start s : ℕ) → IsSame t u → HoldsCells t → ((i : ℕ) → StandsAt t 0 i → gone i ≡ false) → IsErased t u gone start s
nothing_erased t u gone start s same holds none =
    let alike = same_alike t u same in record {
      cells = λ i. alike.stamps 0 i ∙ kept i;
      blocks = λ i. alike.blocks i ∙ kept_block i;
      bare = λ level place goes. alike.stamps level place ∙ elim (cases_eq (pointer_at t level place).stamp 0) [
        | inl hole ↦ no_stamp (pointer_at t level place) hole
        | inr some ↦ absurd (holds level place some (λ i in_range. elim (cases_eq (pointer_at t 0 i).stamp 0) [
          | inl e ↦ e
          | inr stands ↦ absurd (not_both (gone i) (goes i in_range stands) (none i stands))
        ]))
      ];
      over = λ level i j le some stays there goes at. absurd (not_both (gone j) goes (none j there));
      others = λ level place stay. alike.stamps level place;
      some = λ i some stays. alike.levels;
      none = λ stay. alike.levels;
      back = λ goes j there. absurd (not_both (gone j) (goes j there) (none j there));
    }
  where
    kept : (i : ℕ) → stamp_in (pointer_at t 0 i) ≡ cond (gone i) None (stamp_in (pointer_at t 0 i))
    kept i = elim (cases_eq (pointer_at t 0 i).stamp 0) [
      | inl hole ↦ no_stamp (pointer_at t 0 i) hole ∙ sym (ap (cond (gone i) None) (no_stamp (pointer_at t 0 i) hole) ∙ no_choice (gone i))
      | inr some ↦ sym (ap (λ b. cond b None (stamp_in (pointer_at t 0 i))) (none i some))
    ]

    kept_block : (i : ℕ) → block_at t i ≡ cond (gone i) None (block_at t i)
    kept_block i = elim (cases_eq (pointer_at t 0 i).stamp 0) [
      | inl hole ↦ block_none t i hole ∙ sym (ap (cond (gone i) None) (block_none t i hole) ∙ no_choice (gone i))
      | inr some ↦ sym (ap (λ b. cond b None (block_at t i)) (none i some))
    ]

-- a cell that goes after others went
module _ (a b c : Rooted) (gone both : ℕ → Bool) (index start s : ℕ) (first : IsErased a b gone start s) (second : IsErased b c (nat_eq index) start s)
    (joint : (i : ℕ) → both i ≡ (gone i || nat_eq index i)) where
  neither : (i : ℕ) → both i ≡ false → (gone i ≡ false) × (nat_eq index i ≡ false)
  neither i stays = split (gone i) (nat_eq index i) (sym (joint i) ∙ stays)
    where
      split : (x y : Bool) → (x || y) ≡ false → (x ≡ false) × (y ≡ false)
      split true y e = absurd (apart e)
      split false y e = (refl, e)

  one_of : (i : ℕ) → both i ≡ true → (gone i ≡ true) ⊎ ((gone i ≡ false) × (nat_eq index i ≡ true))
  one_of i goes = split (gone i) (nat_eq index i) (sym (joint i) ∙ goes)
    where
      split : (x y : Bool) → (x || y) ≡ true → (x ≡ true) ⊎ ((x ≡ false) × (y ≡ true))
      split true y e = inl refl
      split false y e = inr (refl, e)

  before : (i : ℕ) → StandsAt b 0 i → (gone i ≡ false) × StandsAt a 0 i
  before = was a b gone start s first

  after : (i : ℕ) → StandsAt a 0 i → gone i ≡ false → StandsAt b 0 i
  after = still a b gone start s first

  same_index : (i : ℕ) → nat_eq index i ≡ true → index ≡ i
  same_index i e = grind (arith, nat_tests)

  -- what goes last, where it stands over there
  bare_then : (level place : ℕ) → ((i : ℕ) → i / fan ^ level ≡ place → StandsAt a 0 i → both i ≡ true) → stamp_in (pointer_at c level place) ≡ None
  bare_then level place goes = second.bare level place (λ i at stands. let old = before i stands in elim (one_of i (goes i at old.1)) [
    | inl earlier ↦ absurd (not_both (gone i) earlier old.0)
    | inr last ↦ last.1
  ])

  -- a mark that stands over a cell that went before
  later_mark : (level i : ℕ) → level ≤ a.levels → b.levels ≡ a.levels → StandsAt a 0 i → both i ≡ false → stamp_in (pointer_at b level (i / fan ^ level)) ≡ Some s → stamp_in (pointer_at c level (i / fan ^ level)) ≡ Some s
  later_mark level i le same there stays stamped =
      let no = neither i stays in
      elim (cases_eq (pointer_at b 0 index).stamp 0) [
        | inl none ↦ second.others level (i / fan ^ level) (λ j at stands. elim (either (nat_eq index j)) [
          | inl e ↦ absurd (stands (ap (λ k. (pointer_at b 0 k).stamp) (sym (same_index j e)) ∙ none))
          | inr differs ↦ differs
        ]) ∙ stamped
        | inr some ↦ elim (cases_eq (index / fan ^ level) (i / fan ^ level)) [
          | inl at ↦ second.over level i index (omega (arith, le, same)) (after i there no.0) no.1 some (grind (arith, nat_tests)) at
          | inr elsewhere ↦ second.others level (i / fan ^ level) (λ j at stands. elim (either (nat_eq index j)) [
            | inl e ↦ absurd (elsewhere (ap (λ k. k / fan ^ level) (same_index j e) ∙ at))
            | inr differs ↦ differs
          ]) ∙ stamped
        ]
      ]

  over_then : (level i j : ℕ) → level ≤ a.levels → StandsAt a 0 i → both i ≡ false → StandsAt a 0 j → both j ≡ true → j / fan ^ level ≡ i / fan ^ level → stamp_in (pointer_at c level (i / fan ^ level)) ≡ Some s
  over_then level i j le there stays stood goes at =
      let no = neither i stays in
      let same = first.some i there no.0 in
      elim (one_of j goes) [
        | inl earlier ↦ later_mark level i le same there stays (first.over level i j le there no.0 stood earlier at)
        | inr last ↦ second.over level i j (omega (arith, le, same)) (after i there no.0) no.1 (after j stood last.0) last.1 at
      ]

  levels_back : ((i : ℕ) → StandsAt a 0 i → both i ≡ true) → (j : ℕ) → StandsAt a 0 j → c.levels ≡ start
  levels_back goes j stood = elim (cases_eq (pointer_at b 0 index).stamp 0) [
    | inl none ↦
        let stay : c.levels ≡ b.levels = second.none (λ i stands. elim (either (nat_eq index i)) [
          | inl e ↦ absurd (stands (ap (λ k. (pointer_at b 0 k).stamp) (sym (same_index i e)) ∙ none))
          | inr differs ↦ differs
        ]) in
        stay ∙ first.back (λ i there. elim (one_of i (goes i there)) [
          | inl earlier ↦ earlier
          | inr last ↦ absurd (after i there last.0 (ap (λ k. (pointer_at b 0 k).stamp) (sym (same_index i last.1)) ∙ none))
        ]) j stood
    | inr some ↦ second.back (λ i stands. let old = before i stands in elim (one_of i (goes i old.1)) [
      | inl earlier ↦ absurd (not_both (gone i) earlier old.0)
      | inr last ↦ last.1
    ]) index some
  ]

  pub erased_then : IsErased a c both start s
  erased_then = record {
    cells = λ i. second.cells i ∙ ap (cond (nat_eq index i) None) (first.cells i) ∙ choice (gone i) (nat_eq index i) (stamp_in (pointer_at a 0 i)) ∙ ap (λ x. cond x None (stamp_in (pointer_at a 0 i))) (sym (joint i));
    blocks = λ i. second.blocks i ∙ ap (cond (nat_eq index i) None) (first.blocks i) ∙ choice (gone i) (nat_eq index i) (block_at a i) ∙ ap (λ x. cond x None (block_at a i)) (sym (joint i));
    bare = bare_then;
    over = over_then;
    others = λ level place stay. second.others level place (λ i at stands. (neither i (stay i at (before i stands).1)).1) ∙ first.others level place (λ i at there. (neither i (stay i at there)).0);
    some = λ i there stays. let no = neither i stays in second.some i (after i there no.0) no.1 ∙ first.some i there no.0;
    none = λ stay. second.none (λ i stands. (neither i (stay i (before i stands).1)).1) ∙ first.none (λ i there. (neither i (stay i there)).0);
    back = levels_back;
  }

-- the same cells, told in another way
pub erased_as : (a b : Rooted) (gone other : ℕ → Bool) (start s : ℕ) → IsErased a b gone start s → ((i : ℕ) → StandsAt a 0 i → other i ≡ gone i) → IsErased a b other start s
erased_as a b gone other start s is same = record {
  cells = λ i. is.cells i ∙ elim (cases_eq (pointer_at a 0 i).stamp 0) [
    | inl hole ↦ ap (cond (gone i) None) (no_stamp (pointer_at a 0 i) hole) ∙ no_choice (gone i) ∙ sym (ap (cond (other i) None) (no_stamp (pointer_at a 0 i) hole) ∙ no_choice (other i))
    | inr some ↦ ap (λ x. cond x None (stamp_in (pointer_at a 0 i))) (sym (same i some))
  ];
  blocks = λ i. is.blocks i ∙ elim (cases_eq (pointer_at a 0 i).stamp 0) [
    | inl hole ↦ ap (cond (gone i) None) (block_none a i hole) ∙ no_choice (gone i) ∙ sym (ap (cond (other i) None) (block_none a i hole) ∙ no_choice (other i))
    | inr some ↦ ap (λ x. cond x None (block_at a i)) (sym (same i some))
  ];
  bare = λ level place goes. is.bare level place (λ i at some. sym (same i some) ∙ goes i at some);
  over = λ level i j le some stays stood goes at. is.over level i j le some (sym (same i some) ∙ stays) stood (sym (same j stood) ∙ goes) at;
  others = λ level place stay. is.others level place (λ i at some. sym (same i some) ∙ stay i at some);
  some = λ i some stays. is.some i some (sym (same i some) ∙ stays);
  none = λ stay. is.none (λ i some. sym (same i some) ∙ stay i some);
  back = λ goes j stood. is.back (λ i some. sym (same i some) ∙ goes i some) j stood;
}
