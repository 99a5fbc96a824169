-- A tree whose pointers tell no places where a later flush writes them.
use Rattle.std.proofs.Common.{◌≡◌, ◌≢◌, ◌≤◌, ◌<◌, ◌⊎◌, inl, inr, ℕ, zero, suc, ◌+◌, ◌/◌, ◌%◌, ◌^◌, Bool, true, false, cond, map, ◌&&◌, ◌||◌, ◌==◌, if◌then◌else◌, List, [], ◌∷◌, length, get_or, Option, Some, None, is_some, refl, sym, ap, subst, ◌∙◌, arith}
use Rattle.std.specs.Prelude.{count_by}
use Rattle.std.specs.List.{All}
use Rattle.std.specs.Map.{lookup, values_of}
use Rattle.std.specs.Map.Calls.{RetainsPairs}
use Rattle.std.specs.Option.{option_map}
use Rattle.std.specs.Ordering.{nat_cmp}
use Rattle.std.specs.BTreeMap as maps
use Rattle.std.proofs.lemmas.Bool.{cases_lt}
use Rattle.std.proofs.lemmas.Bool.Decides.{nat_tests}
use Rattle.std.proofs.lemmas.List.Elements.{All-map}
use Rattle.std.proofs.lemmas.List.Sums.{sum_by-cons}
use Rattle.std.proofs.lemmas.Map.Made.{lookup-map_values}
use Rattle.fv_codec.specs.declared.pointer.Pointer.{Pointer}
use Rattle.fv_codec.specs.Blocks.{IsPointer, all_holes}
use Rattle.fv_model.specs.Trees.{fan, Spot, spot_cmp}
use Rattle.fv_tree.specs.declared.kept.Tree.{Tree}
use Rattle.fv_tree.specs.declared.kept.KeptNode.{KeptNode}
use Rattle.fv_tree.specs.declared.kept.KeptCell.{KeptCell}
use Rattle.fv_tree.specs.Spelled.{Under, hole, kept_or, pointers_at, pointers_in, pointer_at, block_at, block_or}
use Rattle.fv_tree.specs.Sources.{Use}
use Rattle.fv_tree.specs.Standing.{node_in, cell_in}
use Rattle.fv_tree.specs.Writing.{IsAlike}
use Rattle.fv_tree.specs.Flushing.{Loaded, IsNodeOf, IsRight, IsSound, child_of, has_unknown_root, kind_for, loaded_over, node_changed, node_placed, cell_changed, cell_placed, changed_in, changed_of, placed_of, pointer_in}
use Rattle.fv_tree.specs.Leading.{LeadsNoMore}
use Rattle.fv_tree.specs.Stored.{IsStoredWell}
use Rattle.fv_tree.specs.Unknown.{LeadsUnknown}
use Rattle.fv_tree.specs.Readying.{KeepsReady}
use Rattle.fv_tree.specs.Costs.{cells_changed}
use Rattle.fv_tables.specs.Alike.{hintless}
use Rattle.fv_tree.specs.Blanking.{hintless_in, will_be_written, Blanks, BlanksNodes}
use Rattle.fv_tree.proofs.Cases.{none_some}
use Rattle.fv_tree.proofs.Readied.{pointer_low, pointer_up}
use Rattle.fv_tree.proofs.Ways.{IsWay, is_way, own_way, past}

-- ---- pointers

pub blanked_fits : (p : Pointer) → IsPointer p → IsPointer (hintless p)
blanked_fits p is = record { vvbn = is.vvbn; pvbn = omega arith; stamp = is.stamp }

pub all_fit : (xs : List Pointer) → All IsPointer xs → All IsPointer (map hintless xs)
all_fit xs fit = All-map IsPointer hintless xs (λ k d lt. blanked_fits (get_or xs k d) (fit k d lt))

pub same_holes : (xs : List Pointer) → all_holes (map hintless xs) ≡ all_holes xs
same_holes [] = refl
same_holes (x ∷ xs) = ap (λ b. (x.stamp == 0) && b) (same_holes xs)

pub got_hintless : (xs : List Pointer) (slot : ℕ) → get_or (map hintless xs) slot hole ≡ hintless (get_or xs slot hole)
got_hintless [] slot = refl
got_hintless (x ∷ xs) zero = refl
got_hintless (x ∷ xs) (suc slot) = got_hintless xs slot

-- lists of one length with the same items
pub same_items : {X : Type 0} (none : X) (xs ys : List X) → length xs ≡ length ys → ((slot : ℕ) → get_or xs slot none ≡ get_or ys slot none) → xs ≡ ys
same_items none [] [] long same = refl
same_items none [] (y ∷ ys) long same = absurd (omega (arith, long))
same_items none (x ∷ xs) [] long same = absurd (omega (arith, long))
same_items none (x ∷ xs) (y ∷ ys) long same = let rest = same_items none xs ys (omega (arith, long)) (λ slot. same (suc slot)) in λ j. same 0 j ∷ rest j

-- a pointer that is blanked, or not
abbrev pub hintless_if : Bool → Pointer → Pointer
hintless_if b p = cond b (hintless p) p

hole_stays : (b : Bool) → hintless_if b hole ≡ hole
hole_stays true = refl
hole_stays false = refl

pub if_stamp : (b : Bool) (p : Pointer) → (hintless_if b p).stamp ≡ p.stamp
if_stamp true p = refl
if_stamp false p = refl

pub if_vvbn : (b : Bool) (p : Pointer) → (hintless_if b p).vvbn ≡ p.vvbn
if_vvbn true p = refl
if_vvbn false p = refl

-- one without a place stays so
if_unknown : (b : Bool) (p : Pointer) → p.pvbn ≡ 0 → (hintless_if b p).pvbn ≡ 0
if_unknown true p none = refl
if_unknown false p none = none

if_right : (k : ℕ) (b : Bool) (p : Pointer) (o : Option Use) → IsRight k p o → IsRight k (hintless_if b p) o
if_right k b p None is = is
if_right k true p (Some x) is = (inl refl, is.1)
if_right k false p (Some x) is = is

-- ---- nodes

-- the pointers of a node, whether it differs from its block, and whether it replaces one
abbrev pub Sight : Type 0
Sight = List Pointer × Bool × Bool

-- what is seen of a node, and what of one whose places are taken out
abbrev pub shows : KeptNode → Sight
shows kept = (kept.children, kept.changed, kept.placed)

abbrev pub shows_blanked : KeptNode → Sight
shows_blanked kept = (hintless_in kept, kept.changed, kept.placed)

-- the same of an entry of a map
abbrev pub entry : (KeptNode → Sight) → Spot × KeptNode → Spot × Sight
entry g e = (e.0, g e.1)

module _ {F : Type 0} (T : F → Spot → KeptNode → Bool → KeptNode → F → Type 0) (f : F)
    (each : (k : Spot) (v : KeptNode) (b : Bool) (w : KeptNode) (g : F) → T f k v b w g → (b ≡ true) × (g ≡ f) × (w.children ≡ hintless_in v) × (w.changed ≡ v.changed) × (w.placed ≡ v.placed)) where
  pub retained : (es kept : List (Spot × KeptNode)) → RetainsPairs T f es kept → map (entry shows) kept ≡ map (entry shows_blanked) es
  retained [] kept r = ap (map (entry shows)) r
  retained (e ∷ es) kept r =
      let a = each e.0 e.1 r.0 r.1 r.2 r.4 in
      let rest = retained es r.3 (subst (λ u. RetainsPairs T u es r.3) a.1 r.5) in
      ap (map (entry shows)) (r.6 ∙ ap (λ b. cond b ((e.0, r.1) ∷ r.3) r.3) a.0) ∙ (λ j. (e.0, (a.2 j, a.3 j, a.4 j)) ∷ rest j)

through : {X Y Z : Type 0} (f : Y → Z) (g : X → Y) (o : Option X) → option_map f (option_map g o) ≡ option_map (λ x. f (g x)) o
through f g None = refl
through f g (Some x) = refl

flag : (Sight → Bool) → Bool → Option Sight → Bool
flag f none None = none
flag f none (Some x) = f x

counted : (es : List (Spot × KeptNode)) → count_by (λ (kept : KeptNode). kept.changed) (values_of es) ≡ count_by (λ (e : Spot × Sight). e.1.1) (map (entry shows) es)
counted [] = refl
counted (e ∷ es) =
    sum_by-cons (λ (kept : KeptNode). cond kept.changed 1 0) e.1 (values_of es) ∙ ap (λ n. cond e.1.changed 1 0 + n) (counted es)
    ∙ sym (sum_by-cons (λ (e : Spot × Sight). cond e.1.1 1 0) (entry shows e) (map (entry shows) es))

counted_blanked : (es : List (Spot × KeptNode)) → count_by (λ (kept : KeptNode). kept.changed) (values_of es) ≡ count_by (λ (e : Spot × Sight). e.1.1) (map (entry shows_blanked) es)
counted_blanked [] = refl
counted_blanked (e ∷ es) =
    sum_by-cons (λ (kept : KeptNode). cond kept.changed 1 0) e.1 (values_of es) ∙ ap (λ n. cond e.1.changed 1 0 + n) (counted_blanked es)
    ∙ sym (sum_by-cons (λ (e : Spot × Sight). cond e.1.1 1 0) (entry shows_blanked e) (map (entry shows_blanked) es))

module _ (o n : maps.BTreeMap Spot KeptNode) (is : map (entry shows) n.entries ≡ map (entry shows_blanked) o.entries) where
  seen : (k : Spot) → option_map shows (maps.get spot_cmp n k) ≡ option_map shows_blanked (maps.get spot_cmp o k)
  seen k =
      let test = maps.is_at (spot_cmp k) in
      sym (lookup-map_values shows test n.entries) ∙ ap (lookup test) is ∙ lookup-map_values shows_blanked test o.entries

  changed_shown : (x : Option KeptNode) → node_changed x ≡ flag (λ s. s.1) false (option_map shows x)
  unfolding flag
  changed_shown None = refl
  changed_shown (Some x) = refl

  changed_blanked : (x : Option KeptNode) → node_changed x ≡ flag (λ s. s.1) false (option_map shows_blanked x)
  unfolding flag
  changed_blanked None = refl
  changed_blanked (Some x) = refl

  placed_shown : (x : Option KeptNode) → node_placed x ≡ flag (λ s. s.2) true (option_map shows x)
  unfolding flag
  placed_shown None = refl
  placed_shown (Some x) = refl

  placed_blanked : (x : Option KeptNode) → node_placed x ≡ flag (λ s. s.2) true (option_map shows_blanked x)
  unfolding flag
  placed_blanked None = refl
  placed_blanked (Some x) = refl

  pub blanks_nodes : BlanksNodes o n
  blanks_nodes = record {
    children = λ level place. sym (through (λ s. s.0) shows (maps.get spot_cmp n (level, place))) ∙ ap (option_map (λ s. s.0)) (seen (level, place)) ∙ through (λ s. s.0) shows_blanked (maps.get spot_cmp o (level, place));
    changed = λ level place. changed_shown (maps.get spot_cmp n (level, place)) ∙ ap (flag (λ s. s.1) false) (seen (level, place)) ∙ sym (changed_blanked (maps.get spot_cmp o (level, place)));
    placed = λ level place. placed_shown (maps.get spot_cmp n (level, place)) ∙ ap (flag (λ s. s.2) true) (seen (level, place)) ∙ sym (placed_blanked (maps.get spot_cmp o (level, place)));
    count = counted n.entries ∙ ap (count_by (λ (e : Spot × Sight). e.1.1)) is ∙ sym (counted_blanked o.entries);
  }

-- the pointers of a node in memory, or of its block, and which of them are hintless
got_if : (kept : KeptNode) (slot : ℕ) → get_or (hintless_in kept) slot hole ≡ hintless_if kept.changed (get_or kept.children slot hole)
got_if kept slot = by kept.changed
  where
    by : (b : Bool) → get_or (cond b (map hintless kept.children) kept.children) slot hole ≡ hintless_if b (get_or kept.children slot hole)
    by true = got_hintless kept.children slot
    by false = refl

got_kept : (o : Option KeptNode) (xs : List Pointer) (slot : ℕ)
    → get_or (kept_or (option_map hintless_in o) xs) slot hole ≡ hintless_if (node_changed o) (get_or (kept_or (option_map (λ (kept : KeptNode). kept.children) o) xs) slot hole)
got_kept None xs slot = refl
got_kept (Some kept) xs slot = got_if kept slot

-- a node that didn't change stays
kept_unchanged : (o : Option KeptNode) → node_changed o ≡ false → option_map hintless_in o ≡ option_map (λ (kept : KeptNode). kept.children) o
kept_unchanged None same = refl
kept_unchanged (Some kept) same = ap (λ b. Some (cond b (map hintless kept.children) kept.children)) same

-- one that holds nothing still does
kept_empty : (o : Option KeptNode) (ys : List Pointer) → option_map hintless_in o ≡ Some ys → ((xs : List Pointer) → option_map (λ (kept : KeptNode). kept.children) o ≡ Some xs → (slot : ℕ) → get_or xs slot hole ≡ hole) → (slot : ℕ) → get_or ys slot hole ≡ hole
kept_empty None ys is empty slot = none_some {X = List Pointer} None refl (ap is_some is)
kept_empty (Some kept) ys is empty slot =
    let same : ys ≡ hintless_in kept = ap (λ (o : Option (List Pointer)). kept_or o []) (sym is) in
    ap (λ zs. get_or zs slot hole) same ∙ got_if kept slot ∙ ap (hintless_if kept.changed) (empty kept.children refl slot) ∙ hole_stays kept.changed

kept_there : (o : Option KeptNode) → is_some (option_map hintless_in o) ≡ is_some (option_map (λ (kept : KeptNode). kept.children) o)
kept_there None = refl
kept_there (Some kept) = refl

child_stamp : (o : Option KeptNode) (slot : ℕ) → (child_of (option_map hintless_in o) slot).stamp ≡ (child_of (option_map (λ (kept : KeptNode). kept.children) o) slot).stamp
child_stamp None slot = refl
child_stamp (Some kept) slot = ap (λ (p : Pointer). p.stamp) (got_if kept slot) ∙ if_stamp kept.changed (get_or kept.children slot hole)

-- ---- a whole tree

module _ (t u : Tree) (owner : u.owner ≡ t.owner) (levels : u.levels ≡ t.levels) (root : u.root ≡ hintless t.root) (cells : u.cells ≡ t.cells) (nodes : BlanksNodes t.nodes u.nodes) where
  abbrev at : ℕ → ℕ → Option KeptNode
  at level place = maps.get spot_cmp t.nodes (level, place)

  changed : (level place : ℕ) → changed_of u level place ≡ changed_of t level place
  changed level place = λ j. if level == 0 then cell_changed (maps.get nat_cmp (cells j) place) else nodes.changed level place j

  placed : (level place : ℕ) → placed_of u level place ≡ placed_of t level place
  placed level place = λ j. if level == 0 then cell_placed (maps.get nat_cmp (cells j) place) else nodes.placed level place j

  same_cell : (i : ℕ) → cell_in u i ≡ cell_in t i
  same_cell i = ap (λ (m : maps.BTreeMap ℕ KeptCell). option_map (λ (kept : KeptCell). kept.block.value) (maps.get nat_cmp m i)) cells

  node_above : (level place : ℕ) → changed_of t (level + 1) place ≡ node_changed (at (level + 1) place)
  node_above level place = let test : (level + 1 == 0) ≡ false = grind (arith, nat_tests) in ap (λ b. if b then cell_changed (maps.get nat_cmp t.cells place) else changed_in t.nodes (level + 1) place) test

  low_node : (level place : ℕ) → 1 ≤ level → changed_of t level place ≡ node_changed (at level place)
  low_node level place low = let test : (level == 0) ≡ false = grind (arith, nat_tests) in ap (λ b. if b then cell_changed (maps.get nat_cmp t.cells place) else changed_in t.nodes level place) test

  module _ (held : Under) where
    abbrev s : Loaded
    s = loaded_over held t

    abbrev w : Loaded
    w = loaded_over held u

    abbrev p : ℕ → ℕ → Pointer
    p = pointer_at s.tree

    abbrev told : ℕ → ℕ → Pointer
    told level place = hintless_if (will_be_written s level place) (p level place)

    at_top : (place : ℕ) → will_be_written s t.levels place ≡ true
    at_top place = let test : (t.levels == t.levels) ≡ true = grind (arith, nat_tests) in ap (λ b. b || s.changed (t.levels + 1) (place / fan)) test

    below_top : (level place : ℕ) → level < t.levels → will_be_written s level place ≡ node_changed (at (level + 1) (place / fan))
    below_top level place lt = let test : (level == t.levels) ≡ false = grind (arith, nat_tests) in ap (λ b. b || s.changed (level + 1) (place / fan)) test ∙ node_above level (place / fan)

    hintless_record : (b : Bool) → hintless (if b then t.root else hole) ≡ (if b then hintless t.root else hole)
    hintless_record true = refl
    hintless_record false = refl

    under : (k c slot : ℕ) (old new : Pointer) → new.stamp ≡ old.stamp → new.vvbn ≡ old.vvbn
        → get_or (pointers_at w.tree k c new) slot hole ≡ hintless_if (node_changed (at k c)) (get_or (pointers_at s.tree k c old) slot hole)
    unfolding pointers_at
    under k c slot old new stamp vvbn =
        (λ j. get_or (if stamp j == 0 then [] else kept_or (nodes.children k c j) (pointers_in (held (vvbn j)))) slot hole) ∙ by (old.stamp == 0)
      where
        by : (b : Bool) → get_or (if b then [] else kept_or (option_map hintless_in (at k c)) (pointers_in (held old.vvbn))) slot hole
            ≡ hintless_if (node_changed (at k c)) (get_or (if b then [] else kept_or (node_in t k c) (pointers_in (held old.vvbn))) slot hole)
        by true = sym (hole_stays (node_changed (at k c)))
        by false = got_kept (at k c) (pointers_in (held old.vvbn)) slot

    way : IsWay w.tree told
    way = record {
      top = λ place. ap (λ n. told n place) levels ∙ ap (λ b. hintless_if b (p t.levels place)) (at_top place) ∙ ap hintless ((own_way s.tree).top place) ∙ hintless_record (place == 0) ∙ ap (λ r. if place == 0 then r else hole) (sym root);
      down = λ level place lt.
          let less : level < t.levels = omega (arith, lt, levels) in
          let over = p (level + 1) (place / fan) in
          let b = will_be_written s (level + 1) (place / fan) in
          ap (λ c. hintless_if c (p level place)) (below_top level place less)
          ∙ ap (hintless_if (node_changed (at (level + 1) (place / fan)))) ((own_way s.tree).down level place less)
          ∙ sym (under (level + 1) (place / fan) (place % fan) over (hintless_if b over) (if_stamp b over) (if_vvbn b over));
    }

    pointers : (level place : ℕ) → pointer_at w.tree level place ≡ told level place
    pointers level place = elim (cases_lt t.levels level) [
      | inl lt ↦ past w.tree level place (omega (arith, lt, levels)) ∙ sym (ap (hintless_if (will_be_written s level place)) (past s.tree level place lt) ∙ hole_stays (will_be_written s level place))
      | inr le ↦ is_way w.tree told way level place (omega (arith, le, levels))
    ]

    stamp : (level place : ℕ) → (pointer_at w.tree level place).stamp ≡ (p level place).stamp
    stamp level place = ap (λ (q : Pointer). q.stamp) (pointers level place) ∙ if_stamp (will_be_written s level place) (p level place)

    vvbn : (level place : ℕ) → (pointer_at w.tree level place).vvbn ≡ (p level place).vvbn
    vvbn level place = ap (λ (q : Pointer). q.vvbn) (pointers level place) ∙ if_vvbn (will_be_written s level place) (p level place)

    leads : LeadsNoMore s w
    leads level place v led = record {
      some = λ none. led.some (stamp level place ∙ none);
      placed = sym (placed level place) ∙ led.placed;
      vvbn = sym (vvbn level place) ∙ led.vvbn;
    }

    keeps : LeadsNoMore w s
    keeps level place v led = record {
      some = λ none. led.some (sym (stamp level place) ∙ none);
      placed = placed level place ∙ led.placed;
      vvbn = vvbn level place ∙ led.vvbn;
    }

    block : (i : ℕ) → block_at w.tree i ≡ block_at s.tree i
    unfolding block_at
    block i = λ j. if stamp 0 i j == 0 then None else block_or (same_cell i j) (held (vvbn 0 i j))

    alike : IsAlike s.tree w.tree
    alike = record {
      levels = levels;
      stamps = λ level place. ap (λ n. if n == 0 then None else Some n) (stamp level place);
      blocks = block;
    }

    stored_well : IsStoredWell s → IsStoredWell w
    stored_well well level place v low led = subst (λ n. IsNodeOf n level place (held v)) (sym owner) (well level place v low (leads level place v led))

    sound : (used : ℕ → Option Use) → IsSound used s → IsSound used w
    sound used is = record {
      once = λ level place k q v one other. is.once level place k q v (leads level place v one) (leads k q v other);
      held = λ level place v led. is.held level place v (leads level place v led);
      used = λ level place v led. subst (λ n. IsRight (kind_for n level) (pointer_at w.tree level place) (used v)) (sym owner)
          (subst (λ q. IsRight (kind_for t.owner level) q (used v)) (sym (pointers level place)) (if_right (kind_for t.owner level) (will_be_written s level place) (p level place) (used v) (is.used level place v (leads level place v led))));
      over = λ level place was some lt. changed (level + 1) (place / fan) ∙ is.over level place (sym (changed level place) ∙ was) (λ none. some (stamp level place ∙ none)) (omega (arith, lt, levels));
      same = λ level place xs low node unchanged some.
          let was = sym (changed level place) ∙ unchanged in
          let before = is.same level place xs low (sym (kept_unchanged (at level place) (sym (low_node level place low) ∙ was)) ∙ sym (nodes.children level place) ∙ node) was (λ none. some (stamp level place ∙ none)) in
          (ap (λ v. pointers_in (held v)) (vvbn level place) ∙ before.0, placed level place ∙ before.1);
      cells = λ i content cell unchanged some.
          let before = is.cells i content (sym (same_cell i) ∙ cell) (sym (changed 0 i) ∙ unchanged) (λ none. some (stamp 0 i ∙ none)) in
          (ap held (vvbn 0 i) ∙ before.0, placed 0 i ∙ before.1);
      empty = λ level place low none within xs node slot. kept_empty (at level place) xs (sym (nodes.children level place) ∙ node) (is.empty level place low (sym (stamp level place) ∙ none) (lies level place within)) slot;
    }
      where
        lies : (level place : ℕ) → (level ≤ u.levels) ⊎ ((place ≢ 0) ⊎ (u.root.stamp ≡ 0)) → (level ≤ t.levels) ⊎ ((place ≢ 0) ⊎ (t.root.stamp ≡ 0))
        lies level place (inl le) = inl (omega (arith, le, levels))
        lies level place (inr (inl some)) = inr (inl some)
        lies level place (inr (inr none)) = inr (inr (ap (λ (q : Pointer). q.stamp) (sym root) ∙ none))

    unknown : (level place : ℕ) → (p level place).pvbn ≡ 0 → (pointer_at w.tree level place).pvbn ≡ 0
    unknown level place none = ap (λ (q : Pointer). q.pvbn) (pointers level place) ∙ if_unknown (will_be_written s level place) (p level place) none

    -- what stands in a node that didn't change is as it was
    stays : (level place : ℕ) → level < t.levels → s.changed (level + 1) (place / fan) ≡ false → pointer_at w.tree level place ≡ p level place
    stays level place lt same = pointers level place ∙ ap (λ b. hintless_if b (p level place)) (below_top level place lt ∙ sym (node_above level (place / fan)) ∙ same)

    leads_unknown : LeadsUnknown s → LeadsUnknown w
    leads_unknown is = record {
      nodes = λ level place some none lt same.
          let less : level < t.levels = omega (arith, lt, levels) in
          let was = sym (changed (level + 1) (place / fan)) ∙ same in
          unknown (level + 1) (place / fan) (is.nodes level place (λ e. some (stamp level place ∙ e)) (ap (λ (q : Pointer). q.pvbn) (sym (stays level place less was)) ∙ none) less was);
      roots = λ place content some same lies holds.
          unknown 0 place (is.roots place content (λ e. some (stamp 0 place ∙ e)) (sym (changed 0 place) ∙ same) (sym (block place) ∙ lies) (ap (λ n. has_unknown_root n content) (sym owner) ∙ holds));
    }

  in_stamp : (level place : ℕ) → (pointer_in u level place).stamp ≡ (pointer_in t level place).stamp
  in_stamp level place = elim (cases_lt level t.levels) [
    | inl lt ↦ ap (λ (q : Pointer). q.stamp) (pointer_low u level place (omega (arith, lt, levels))) ∙ ap (λ o. (child_of o (place % fan)).stamp) (nodes.children (level + 1) (place / fan))
        ∙ child_stamp (at (level + 1) (place / fan)) (place % fan) ∙ ap (λ (q : Pointer). q.stamp) (sym (pointer_low t level place lt))
    | inr le ↦ ap (λ (q : Pointer). q.stamp) (pointer_up u level place (omega (arith, le, levels)) ∙ (λ j. if level == levels j && place == 0 then root j else hole)) ∙ by (level == t.levels && place == 0)
        ∙ ap (λ (q : Pointer). q.stamp) (sym (pointer_up t level place le))
  ]
    where
      by : (b : Bool) → (if b then hintless t.root else hole).stamp ≡ (if b then t.root else hole).stamp
      by true = refl
      by false = refl

  ready : KeepsReady t u
  ready i is = record {
    covers = subst (λ n. i < fan ^ n) (sym levels) is.covers;
    cell = ap is_some (same_cell i) ∙ is.cell;
    way = λ level le none. is.way level (omega (arith, le, levels)) (sym (in_stamp level (i / fan ^ level)) ∙ none);
  }

  pub blanks : Blanks t u
  blanks = record {
    owner = owner;
    levels = levels;
    cells = cells;
    root = root;
    kept = λ level place. ap is_some (nodes.children level place) ∙ kept_there (at level place);
    changed = changed;
    placed = placed;
    pending = λ j. cells_changed (cells j) + nodes.count j;
    pointers = pointers;
    alike = alike;
    sound = sound;
    leads = leads;
    keeps = keeps;
    stored_well = stored_well;
    leads_unknown = leads_unknown;
    keeps_ready = ready;
  }
