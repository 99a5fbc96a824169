-- What a tree of a slot is after a block of the slot was cleaned: each pointer is the same but for its place. It is as it was, or it stands in that
-- block, was unknown, and has the place of its VVBN now.
use Rattle.std.proofs.Common.{◌≡◌, ◌≢◌, ◌⊎◌, ℕ, zero, suc, ◌+◌, ◌/◌, ◌%◌, ◌<◌, ◌≤◌, Bool, true, false, List, [], ◌∷◌, length, get_or, Option, Some, inl, inr, refl, sym, ap, subst, ◌∙◌, arith, ⊎_elim}
use Rattle.std.specs.Prelude.{is_some, not, ◌&&◌, ◌||◌, ◌==◌, if◌then◌else◌, min}
use Rattle.std.specs.List.{list_any}
use Rattle.std.proofs.lemmas.Bool.{cases_eq, cases_lt, both_ways}
use Rattle.std.proofs.lemmas.Bool.Decides.{nat_tests}
use Rattle.std.proofs.lemmas.List.{get_or_past}
use Rattle.std.proofs.lemmas.Option.{same_Some}
use Rattle.fv_codec.specs.declared.form.Form.{Form}
use Rattle.fv_codec.specs.declared.form.Form.TheVariants.{Node as OfNode}
use Rattle.fv_codec.specs.declared.pointer.Pointer.{Pointer}
use Rattle.fv_codec.specs.Blocks.{greatest_word, node_at}
use Rattle.fv_model.specs.Trees.{fan}
use Rattle.fv_tables.specs.Alike.{hintless, HasAlikeNodes, SpellAlike}
use Rattle.fv_tables.specs.Spelled.{Under, Rooted, stored, hole, pointers_in, pointers_at, pointer_at, block_at}
use Rattle.fv_tables.proofs.AlikeTables.{alike_pointer}
use Rattle.fv_tree.specs.Beside.{unread}
use Rattle.fv_tree.specs.Flushing.{IsNodeOf, IsRight, ReachesOnce, has_unknown_root, kind_for}
use Rattle.fv_tree.specs.Sources.{Use}
use Rattle.fv_files.specs.Apart.{IsAsSaid}
use Rattle.fv_image.specs.Views.{Placed}
use Rattle.fv_image.specs.HintRules.{is_unknown}
use Rattle.fv_image.proofs.WellTrees.{in_node}
use Rattle.fv_places.specs.ByKind.{form_of, pointers_by}
use Rattle.fv_places.specs.Changed.{KeepsPosition}
use Rattle.fv_places.proofs.Descents.{over_stands, within, root_at, only_root}
use Rattle.fv_places.proofs.Positions.{read_node}
use Rattle.fv_cleaner.specs.Filling.{GetsPlace, IsPlacedAs}
use Rattle.fv_cleaner.specs.Searching.{IsClear, Lies, holds_unknown, pointers_of}
use Rattle.fv_cleaner.specs.Staying.{CleansUnder}
use Rattle.fv_cleaner.proofs.Ruled.{led_unknown}

-- ---- pointers of lists

-- of a list of which none is unknown, none is at an index
pub none_at : (ps : List Pointer) → list_any is_unknown ps ≡ false → (i : ℕ) → is_unknown (get_or ps i hole) ≡ false
none_at [] none zero = refl
none_at [] none (suc i) = refl
none_at (p ∷ ps) none zero = first (is_unknown p) (list_any is_unknown ps) none
  where
    first : (a b : Bool) → (a || b) ≡ false → a ≡ false
    first true b e = absurd cc
    first false b e = refl
none_at (p ∷ ps) none (suc i) = none_at ps (rest (is_unknown p) (list_any is_unknown ps) none) i
  where
    rest : (a b : Bool) → (a || b) ≡ false → b ≡ false
    rest true b e = absurd cc
    rest false b e = e

-- a pointer that stands without a place is unknown
pub is_without : (p : Pointer) → p.stamp ≢ 0 → p.pvbn ≡ 0 → is_unknown p ≡ true
is_without p some none =
    let a : (p.stamp == 0) ≡ false = grind (arith, nat_tests, some) in
    let b : (p.pvbn == 0) ≡ true = grind (arith, nat_tests, none) in
    λ i. not (a i) && b i

-- ---- kinds

-- a node of a tree has the form of one
pub node_form : (owner level : ℕ) → 1 ≤ level → (owner ≡ greatest_word → level ≤ 2) → (owner ≢ greatest_word → level ≤ 3) → (form_of (kind_for owner level) ≡ Some OfNode) × ((kind_for owner level ≢ 1) × ((kind_for owner level ≢ 5) × (2 ≤ kind_for owner level)))
node_form owner level low inode file = ⊎_elim
    (λ (same : owner ≡ greatest_word).
    let test : (owner == greatest_word) ≡ true = grind (arith, nat_tests, same) in
    subst (λ (k : ℕ). (form_of k ≡ Some OfNode) × ((k ≢ 1) × ((k ≢ 5) × (2 ≤ k)))) (sym (ap (λ (b : Bool). if b then 5 + min level 2 else 1 + level) test)) (of_inode level low (inode same)))
    (λ (other : owner ≢ greatest_word).
    let test : (owner == greatest_word) ≡ false = grind (arith, nat_tests, other) in
    subst (λ (k : ℕ). (form_of k ≡ Some OfNode) × ((k ≢ 1) × ((k ≢ 5) × (2 ≤ k)))) (sym (ap (λ (b : Bool). if b then 5 + min level 2 else 1 + level) test)) (of_file level low (file other)))
    (cases_eq owner greatest_word)
  where
    of_inode : (level : ℕ) → 1 ≤ level → level ≤ 2 → (form_of (5 + min level 2) ≡ Some OfNode) × ((5 + min level 2 ≢ 1) × ((5 + min level 2 ≢ 5) × (2 ≤ 5 + min level 2)))
    of_inode zero low high = absurd (omega (arith, low))
    of_inode (suc zero) low high = (refl, ((λ e. omega (arith, e)), ((λ e. omega (arith, e)), omega arith)))
    of_inode (suc (suc zero)) low high = (refl, ((λ e. omega (arith, e)), ((λ e. omega (arith, e)), omega arith)))
    of_inode (suc (suc (suc n))) low high = absurd (omega (arith, high))

    of_file : (level : ℕ) → 1 ≤ level → level ≤ 3 → (form_of (1 + level) ≡ Some OfNode) × ((1 + level ≢ 1) × ((1 + level ≢ 5) × (2 ≤ 1 + level)))
    of_file zero low high = absurd (omega (arith, low))
    of_file (suc zero) low high = (refl, ((λ e. omega (arith, e)), ((λ e. omega (arith, e)), omega arith)))
    of_file (suc (suc zero)) low high = (refl, ((λ e. omega (arith, e)), ((λ e. omega (arith, e)), omega arith)))
    of_file (suc (suc (suc zero))) low high = (refl, ((λ e. omega (arith, e)), ((λ e. omega (arith, e)), omega arith)))
    of_file (suc (suc (suc (suc n)))) low high = absurd (omega (arith, high))

module _ (at : Lies) (old new : Under) (uses now : ℕ → Option Use) (v place : ℕ) (x : Placed) (block : List ℕ) (cleans : CleansUnder at old uses v x new now place block) where
  -- ---- the block

  -- A pointer stands in the block at an index, was unknown, and has a place now.
  pub record Got (p q : Pointer) : Type 0 where
    pub index : ℕ
    pub inside : index < length (pointers_of x)
    pub was : p ≡ get_or (pointers_of x) index hole
    pub is : q ≡ get_or (pointers_by (form_of x.kind) block) index hole
    pub gets : GetsPlace at x.kind p q

  abbrev pub From : Pointer → Pointer → Type 0
  From p q = (q ≡ p) ⊎ Got p q

  pub from_block : (i : ℕ) → From (get_or (pointers_of x) i hole) (get_or (pointers_by (form_of x.kind) block) i hole)
  from_block i = ⊎_elim
      (λ (low : i < length (pointers_of x)). by low (cleans.places i low))
      (λ (past : length (pointers_of x) ≤ i). inl (get_or_past (pointers_by (form_of x.kind) block) i hole (omega (arith, past, cleans.fills.count)) ∙ sym (get_or_past (pointers_of x) i hole past)))
      (cases_lt i (length (pointers_of x)))
    where
      by : i < length (pointers_of x) → IsPlacedAs at x.kind (get_or (pointers_of x) i hole) (get_or (pointers_by (form_of x.kind) block) i hole) → From (get_or (pointers_of x) i hole) (get_or (pointers_by (form_of x.kind) block) i hole)
      by low (inl stays) = inl stays.1
      by low (inr gets) = inr (record { index = i; inside = low; was = refl; is = refl; gets = gets })

  -- what got its place isn't unknown
  got_known : (p q : Pointer) → Got p q → is_unknown q ≡ false
  got_known p q got = ap is_unknown got.is ∙ none_at (pointers_by (form_of x.kind) block) cleans.fills.known got.index

  -- and doesn't lead to the block itself
  pub got_other : (p q : Pointer) → Got p q → p.vvbn ≢ v
  got_other p q got same =
      let is : got.gets.block ≡ x = same_Some got.gets.block x (sym got.gets.there ∙ ap at same ∙ cleans.next.unclear.there) in
      let kinds : got.gets.block.kind ≡ x.kind = ap (λ (z : Placed). z.kind) is in
      omega (arith, kinds, got.gets.lower)

  -- what an unknown pointer of the block leads to holds none itself, but data
  pub got_clear : (p q : Pointer) → Got p q → 2 < x.kind → IsClear at p.vvbn
  got_clear p q got high = subst (λ (z : Pointer). IsClear at z.vvbn) (sym got.was) (cleans.next.below high got.index got.inside (ap is_unknown (sym got.was) ∙ got.gets.unknown))

  -- ---- a tree

  module _ (owner lv : ℕ) (root fresh : Pointer) (top : hintless fresh ≡ hintless root) (from_top : From root fresh) (reached : ReachesOnce uses (stored old owner lv root)) (few_inode : owner ≡ greatest_word → lv ≤ 2) (few_file : owner ≢ greatest_word → lv ≤ 3)
      (said : IsAsSaid false (unread (stored old owner lv root))) where
    abbrev t : Rooted
    t = stored old owner lv root

    abbrev u : Rooted
    u = stored new owner lv fresh

    -- the block has the kind of a position that leads to it
    pub kind_is : (level p : ℕ) → (pointer_at t level p).stamp ≢ 0 → (pointer_at t level p).vvbn ≡ v → x.kind ≡ kind_for owner level
    kind_is level p some there = (subst (IsRight (kind_for owner level) (pointer_at t level p)) (ap uses there ∙ cleans.used) (reached.used level p some)).1

    form_here : (level p : ℕ) → 1 ≤ level → (pointer_at t level p).stamp ≢ 0 → (form_of (kind_for owner level) ≡ Some OfNode) × ((kind_for owner level ≢ 1) × ((kind_for owner level ≢ 5) × (2 ≤ kind_for owner level)))
    form_here level p low some = let high = within t level p some in node_form owner level low (λ e. let few = few_inode e in omega (arith, high, few)) (λ e. let few = few_file e in omega (arith, high, few))

    pub alike_nodes : HasAlikeNodes t new
    alike_nodes level p low some = ⊎_elim
        (λ (same : (pointer_at t level p).vvbn ≡ v).
        let kind = kind_is level p some same in
        let form = form_here level p low some in
        subst (λ (n : ℕ). SpellAlike (old n) (new n)) (sym same) (subst (λ (o : Option (List ℕ)). SpellAlike o (new v)) (sym cleans.there) (subst (λ (o : Option (List ℕ)). SpellAlike (Some x.block) o) (sym cleans.here)
        (cleans.fills.says.nodes (λ e. form.1.0 (sym kind ∙ e)) (λ e. form.1.1.0 (sym kind ∙ e))))))
        (λ other. subst (λ (o : Option (List ℕ)). SpellAlike (old (pointer_at t level p).vvbn) o) (sym (cleans.others (pointer_at t level p).vvbn other)) refl)
        (cases_eq (pointer_at t level p).vvbn v)

    pub same_pointer : (level p : ℕ) → hintless (pointer_at u level p) ≡ hintless (pointer_at t level p)
    same_pointer = alike_pointer old new owner lv root fresh top alike_nodes

    pub same_stamp : (level p : ℕ) → (pointer_at u level p).stamp ≡ (pointer_at t level p).stamp
    same_stamp level p = ap (λ (q : Pointer). q.stamp) (same_pointer level p)

    pub same_vvbn : (level p : ℕ) → (pointer_at u level p).vvbn ≡ (pointer_at t level p).vvbn
    same_vvbn level p = ap (λ (q : Pointer). q.vvbn) (same_pointer level p)

    some_old : (level p : ℕ) → (pointer_at u level p).stamp ≢ 0 → (pointer_at t level p).stamp ≢ 0
    some_old level p some none = some (same_stamp level p ∙ none)

    -- the pointers in a node, before and after
    in_old : (level p : ℕ) → level < lv → (pointer_at t (level + 1) (p / fan)).stamp ≢ 0 → pointer_at t level p ≡ get_or (pointers_in (old (pointer_at t (level + 1) (p / fan)).vvbn)) (p % fan) hole
    unfolding pointers_at
    in_old level p low some =
        let test : ((pointer_at t (level + 1) (p / fan)).stamp == 0) ≡ false = grind (arith, nat_tests, some) in
        in_node t level p low ∙ ap (λ (b : Bool). get_or (if b then [] else pointers_in (old (pointer_at t (level + 1) (p / fan)).vvbn)) (p % fan) hole) test

    in_new : (level p : ℕ) → level < lv → (pointer_at u (level + 1) (p / fan)).stamp ≢ 0 → pointer_at u level p ≡ get_or (pointers_in (new (pointer_at u (level + 1) (p / fan)).vvbn)) (p % fan) hole
    unfolding pointers_at
    in_new level p low some =
        let test : ((pointer_at u (level + 1) (p / fan)).stamp == 0) ≡ false = grind (arith, nat_tests, some) in
        in_node u level p low ∙ ap (λ (b : Bool). get_or (if b then [] else pointers_in (new (pointer_at u (level + 1) (p / fan)).vvbn)) (p % fan) hole) test

    -- Each pointer that stands is as it was, or it got its place in the block.
    pub origin : (level p : ℕ) → (pointer_at t level p).stamp ≢ 0 → From (pointer_at t level p) (pointer_at u level p)
    origin level p some = ⊎_elim
        (λ (low : level < lv).
        let over = over_stands t level p low some in
        let over_new : (pointer_at u (level + 1) (p / fan)).stamp ≢ 0 = λ none. over (sym (same_stamp (level + 1) (p / fan)) ∙ none) in
        let was = in_old level p low over in
        let vvbn = same_vvbn (level + 1) (p / fan) in
        let is : pointer_at u level p ≡ get_or (pointers_in (new (pointer_at t (level + 1) (p / fan)).vvbn)) (p % fan) hole = in_new level p low over_new ∙ ap (λ (n : ℕ). get_or (pointers_in (new n)) (p % fan) hole) vvbn in
        ⊎_elim
        (λ (same : (pointer_at t (level + 1) (p / fan)).vvbn ≡ v).
        let kind = kind_is (level + 1) (p / fan) over same in
        let form : form_of x.kind ≡ Some OfNode = ap form_of kind ∙ (form_here (level + 1) (p / fan) (omega arith) over).0 in
        let one : pointer_at t level p ≡ get_or (pointers_of x) (p % fan) hole = was ∙ ap (λ (o : Option (List ℕ)). get_or (pointers_in o) (p % fan) hole) (ap old same ∙ cleans.there) ∙ ap (λ (f : Option Form). get_or (pointers_by f x.block) (p % fan) hole) (sym form) in
        let two : pointer_at u level p ≡ get_or (pointers_by (form_of x.kind) block) (p % fan) hole = is ∙ ap (λ (o : Option (List ℕ)). get_or (pointers_in o) (p % fan) hole) (ap new same ∙ cleans.here) ∙ ap (λ (f : Option Form). get_or (pointers_by f block) (p % fan) hole) (sym form) in
        subst (λ (a : Pointer). From a (pointer_at u level p)) (sym one) (subst (From (get_or (pointers_of x) (p % fan) hole)) (sym two) (from_block (p % fan))))
        (λ other. inl (is ∙ ap (λ (o : Option (List ℕ)). get_or (pointers_in o) (p % fan) hole) (cleans.others (pointer_at t (level + 1) (p / fan)).vvbn other) ∙ sym was))
        (cases_eq (pointer_at t (level + 1) (p / fan)).vvbn v))
        (λ (high : lv ≤ level).
        let low = within t level p some in
        let level_is : level ≡ lv = omega (arith, low, high) in
        let first : p ≡ 0 = only_root t p (subst (λ (n : ℕ). (pointer_at t n p).stamp ≢ 0) level_is some) in
        let one : pointer_at t level p ≡ root = (λ i. pointer_at t (level_is i) (first i)) ∙ root_at t in
        let two : pointer_at u level p ≡ fresh = (λ i. pointer_at u (level_is i) (first i)) ∙ root_at u in
        subst (λ (a : Pointer). From a (pointer_at u level p)) (sym one) (subst (From root) (sym two) from_top))
        (cases_lt level lv)

    -- all pointers to the block are unknown
    unknown_to : (level p : ℕ) → (pointer_at t level p).stamp ≢ 0 → (pointer_at t level p).vvbn ≡ v → (pointer_at t level p).pvbn ≡ 0
    unknown_to level p some there =
        led_unknown old owner lv root said.leads level p x.block few_inode few_file some (ap old there ∙ cleans.there)
        (subst (λ (k : ℕ). list_any is_unknown (pointers_by (form_of k) x.block) ≡ true) (kind_is level p some there) cleans.next.unclear.unknown)

    -- ---- it stands on the blocks

    right_now : (level p : ℕ) → (pointer_at t level p).stamp ≢ 0 → IsRight (kind_for owner level) (pointer_at u level p) (now (pointer_at t level p).vvbn)
    right_now level p some = ⊎_elim
        (λ (same : (pointer_at t level p).vvbn ≡ v).
        subst (IsRight (kind_for owner level) (pointer_at u level p)) (sym (ap now same ∙ cleans.use_now)) (
          inl (⊎_elim
              (λ (stays : pointer_at u level p ≡ pointer_at t level p). ap (λ (q : Pointer). q.pvbn) stays ∙ unknown_to level p some same)
              (λ (got : Got (pointer_at t level p) (pointer_at u level p)). absurd (got_other (pointer_at t level p) (pointer_at u level p) got same))
              (origin level p some)),
          kind_is level p some same,
        ))
        (λ (other : (pointer_at t level p).vvbn ≢ v). subst (IsRight (kind_for owner level) (pointer_at u level p)) (sym (cleans.uses_same (pointer_at t level p).vvbn other)) (⊎_elim
        (λ (stays : pointer_at u level p ≡ pointer_at t level p). subst (λ (q : Pointer). IsRight (kind_for owner level) q (uses (pointer_at t level p).vvbn)) (sym stays) (reached.used level p some))
        (λ (got : Got (pointer_at t level p) (pointer_at u level p)).
        let used : uses (pointer_at t level p).vvbn ≡ Some (record { pvbn = got.gets.block.pvbn; kind = got.gets.block.kind }) = (cleans.lies (pointer_at t level p).vvbn got.gets.block got.gets.there (reached.held level p some)).1 in
        let was = subst (IsRight (kind_for owner level) (pointer_at t level p)) used (reached.used level p some) in
        subst (IsRight (kind_for owner level) (pointer_at u level p)) (sym used) (inr (ap (λ (q : Pointer). q.pvbn) got.gets.is), was.1))
        (origin level p some)))
        (cases_eq (pointer_at t level p).vvbn v)

    pub reached_now : ReachesOnce now u
    reached_now = record {
      once = λ level p k q some other same. reached.once level p k q (some_old level p some) (some_old k q other) (sym (same_vvbn level p) ∙ same ∙ same_vvbn k q);
      held = λ level p some. subst (λ (n : ℕ). is_some (new n) ≡ true) (sym (same_vvbn level p)) (there (pointer_at t level p).vvbn (reached.held level p (some_old level p some)));
      used = λ level p some. subst (λ (n : ℕ). IsRight (kind_for owner level) (pointer_at u level p) (now n)) (sym (same_vvbn level p)) (right_now level p (some_old level p some));
    }
      where
        there : (w : ℕ) → is_some (old w) ≡ true → is_some (new w) ≡ true
        there w some = ⊎_elim
            (λ (same : w ≡ v). ap is_some (ap new same ∙ cleans.here))
            (λ (other : w ≢ v). ap is_some (cleans.others w other) ∙ some)
            (cases_eq w v)

    -- ---- it is as its pointers say

    position_now : (level p : ℕ) → 1 ≤ level → (pointer_at t level p).stamp ≢ 0 → IsNodeOf owner level p (new (pointer_at t level p).vvbn)
    position_now level p low some = ⊎_elim
        (λ (same : (pointer_at t level p).vvbn ≡ v).
        let was = subst (IsNodeOf owner level p) (ap old same ∙ cleans.there) before in
        let b : was.block ≡ x.block = sym (same_Some x.block was.block was.lies) in
        let form : form_of x.kind ≡ Some OfNode = ap form_of (kind_is level p some same) ∙ (form_here level p low some).0 in
        let keeps : KeepsPosition (Some OfNode) x.block block = subst (λ (f : Option Form). KeepsPosition f x.block block) form cleans.fills.position in
        let one = read_node x.block _ (record { level = level; owner = owner; place = p; children = was.children }) keeps (ap node_at (sym b) ∙ was.spells) in
        subst (IsNodeOf owner level p) (sym (ap new same ∙ cleans.here)) (record { block = block; lies = refl; children = one.0; spells = one.1 }))
        (λ other. subst (IsNodeOf owner level p) (sym (cleans.others (pointer_at t level p).vvbn other)) before)
        (cases_eq (pointer_at t level p).vvbn v)
      where
        before : IsNodeOf owner level p (old (pointer_at t level p).vvbn)
        before = said.positions level p (pointer_at t level p).vvbn low (record { some = some; placed = refl; vvbn = refl })

    -- where a pointer got a place, what it leads to holds nothing unknown
    clear_under : (level p : ℕ) → 1 ≤ level → (some : (pointer_at t level p).stamp ≢ 0) → Got (pointer_at t level p) (pointer_at u level p) → (i : ℕ) → is_unknown (get_or (pointers_in (old (pointer_at t level p).vvbn)) i hole) ≡ true → ⊥
    clear_under level p low some got i unknown =
        let used = cleans.lies (pointer_at t level p).vvbn got.gets.block got.gets.there (reached.held level p some) in
        let kind : got.gets.block.kind ≡ kind_for owner level = (subst (IsRight (kind_for owner level) (pointer_at t level p)) used.1 (reached.used level p some)).1 in
        let form = form_here level p low some in
        let clear = got_clear (pointer_at t level p) (pointer_at u level p) got (let two = form.1.1.1 in omega (arith, two, kind, got.gets.lower)) in
        let same : clear.block ≡ got.gets.block = same_Some clear.block got.gets.block (sym clear.there ∙ got.gets.there) in
        let none : holds_unknown got.gets.block ≡ false = ap holds_unknown (sym same) ∙ clear.none in
        let as_node : pointers_of got.gets.block ≡ pointers_in (Some got.gets.block.block) = ap (λ (f : Option Form). pointers_by f got.gets.block.block) (ap form_of kind ∙ form.0) in
        both_ways (is_unknown (get_or (pointers_in (Some got.gets.block.block)) i hole))
        (none_at (pointers_in (Some got.gets.block.block)) (ap (list_any is_unknown) (sym as_node) ∙ none) i)
        (ap (λ (o : Option (List ℕ)). is_unknown (get_or (pointers_in o) i hole)) (sym used.0) ∙ unknown)

    -- an unknown pointer was one
    unknown_was : (level p : ℕ) → (pointer_at u level p).stamp ≢ 0 → (pointer_at u level p).pvbn ≡ 0 → (pointer_at u level p ≡ pointer_at t level p) × ((pointer_at t level p).pvbn ≡ 0)
    unknown_was level p some none = ⊎_elim
        (λ (stays : pointer_at u level p ≡ pointer_at t level p). (stays, ap (λ (q : Pointer). q.pvbn) (sym stays) ∙ none))
        (λ (got : Got (pointer_at t level p) (pointer_at u level p)). absurd (both_ways (is_unknown (pointer_at u level p)) (got_known (pointer_at t level p) (pointer_at u level p) got) (is_without (pointer_at u level p) some none)))
        (origin level p (some_old level p some))

    nodes_now : (level p : ℕ) → (pointer_at u level p).stamp ≢ 0 → (pointer_at u level p).pvbn ≡ 0 → level < lv → (pointer_at u (level + 1) (p / fan)).pvbn ≡ 0
    nodes_now level p some none low =
        let was = unknown_was level p some none in
        let stood = some_old level p some in
        let over = over_stands t level p low stood in
        let above : (pointer_at t (level + 1) (p / fan)).pvbn ≡ 0 = said.leads.nodes level p stood was.1 low refl in
        ⊎_elim
        (λ (stays : pointer_at u (level + 1) (p / fan) ≡ pointer_at t (level + 1) (p / fan)). ap (λ (q : Pointer). q.pvbn) stays ∙ above)
        (λ (got : Got (pointer_at t (level + 1) (p / fan)) (pointer_at u (level + 1) (p / fan))).
        absurd (clear_under (level + 1) (p / fan) (omega arith) over got (p % fan) (ap is_unknown (sym (in_old level p low over)) ∙ is_without (pointer_at t level p) stood was.1)))
        (origin (level + 1) (p / fan) over)

    -- where an inode block holds an unknown root, so it did
    module _ (roots_now : (p : ℕ) (b : List ℕ) → (pointer_at u 0 p).stamp ≢ 0 → block_at u p ≡ Some b → has_unknown_root owner b ≡ true → (pointer_at u 0 p).pvbn ≡ 0) where
      pub said_now : IsAsSaid false (unread u)
      said_now = record {
        positions = λ level p n low led. subst (λ (k : ℕ). IsNodeOf owner level p (new k)) (sym (same_vvbn level p) ∙ led.vvbn) (position_now level p low (some_old level p led.some));
        leads = record {
          nodes = λ level p some none low still. nodes_now level p some none low;
          roots = λ p b some still there unknown. roots_now p b some there unknown;
        };
        places = λ all. absurd (wrong all);
      }
        where
          wrong : false ≡ true → ⊥
          wrong e = cc
