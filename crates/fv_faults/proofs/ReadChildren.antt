-- Pass 1 in one node of a container: it has no line exactly where it is the one of its position, has nothing past the entries, its children lie
-- where blocks of volumes can, and each VVBN under it that has to have an entry has a child over it.
use Rattle.std.proofs.Common.{◌≡◌, ◌≢◌, ℕ, zero, suc, ◌+◌, ◌-◌, ◌*◌, ◌^◌, ◌<◌, ◌≤◌, Bool, true, false, List, [], ◌∷◌, ◌++◌, length, get_or, refl, sym, ap, subst, ◌∙◌, arith, ⊎_elim, Result, Ok, Err, drop}
use Rattle.std.specs.Prelude.{flat_map, ◌&&◌, ◌||◌, ◌==◌, nat_le, nat_lt, if◌then◌else◌}
use Rattle.std.specs.List.{range_with_len, enumerate_from, zip}
use Rattle.std.proofs.lemmas.Bool.{and_parts, and_from, or_left, or_right, cases_eq}
use Rattle.std.proofs.lemmas.Bool.Decides.{nat_tests}
use Rattle.std.proofs.lemmas.Slice.Zip.{get_or-zip, length-zip}
use Rattle.fv_codec.specs.declared.shape.Shape.{Shape}
use Rattle.fv_codec.specs.declared.label.Label.{Label}
use Rattle.fv_codec.specs.declared.container.ContainerLeaf.{ContainerLeaf}
use Rattle.fv_codec.specs.declared.container.ContainerInner.{ContainerInner}
use Rattle.fv_codec.specs.Bytes.{word_at}
use Rattle.fv_codec.specs.Fields.{Verdict, verdict_of, verdicts, reading, items, in_range, ◌then◌}
use Rattle.fv_codec.specs.Blocks.{leaf_at, leaf_in, inner_at, greatest_kind, leaf_fields, inner_fields, place_of, kind_of}
use Rattle.fv_image.proofs.WellNodes.{length_items}
use Rattle.fv_model.specs.Machines.{first_block}
use Rattle.fv_image.specs.Containers.{fan, level_width, shaped, child_in, entry_in, judged, leaf_for, inner_for, node_verdict, has_none_past}
use Rattle.fv_image.specs.Views.{View, entry_count}
use Rattle.fv_image.specs.BlockRules.{is_fine}
use Rattle.fv_image.proofs.WholeSlots.{all_between}
use Rattle.fv_laws.proofs.Lists.{in_range as in_numbers}
use Rattle.fv_laws.proofs.Tests.{from_all}
use Rattle.fv_faults.specs.Lines.{expects, within, leads}
use Rattle.fv_faults.specs.FirstPass.{wanted, covers, child_lines, leaf_lines, inner_lines}
use Rattle.fv_faults.proofs.Clean.{parts_nil, nil_parts, holds_from, none_from}
use Rattle.fv_faults.proofs.Shapes.{fine_one, one_fine, then_fine}
use Rattle.fv_faults.proofs.InRange.{says_within, within_says}
use Rattle.fv_faults.proofs.ReadNodes.{node_lines}

-- ---- lists with their numbers

module _ {X A : Type 0} (f : ℕ × X → List A) (d : X) where
  each_number : (a : ℕ) (xs : List X) → flat_map f (enumerate_from a xs) ≡ [] → (c : ℕ) → c < length xs → f (a + c, get_or xs c d) ≡ []
  each_number a [] none c low = absurd (omega (arith, low))
  each_number a (x ∷ xs) none zero low = let same : a ≡ a + 0 = omega arith in subst (λ n. f (n, x) ≡ []) same (parts_nil (f (a, x)) _ none).0
  each_number a (x ∷ xs) none (suc c) low =
      let same : a + 1 + c ≡ a + suc c = omega arith in
      subst (λ n. f (n, get_or xs c d) ≡ []) same (each_number (a + 1) xs (parts_nil (f (a, x)) _ none).1 c (omega (arith, low)))

  all_numbers : (a : ℕ) (xs : List X) → ((c : ℕ) → c < length xs → f (a + c, get_or xs c d) ≡ []) → flat_map f (enumerate_from a xs) ≡ []
  all_numbers a [] each = refl
  all_numbers a (x ∷ xs) each =
      let same : a + 0 ≡ a = omega arith in
      nil_parts (f (a, x)) _ (subst (λ n. f (n, x) ≡ []) same (each 0 (omega arith)))
      (all_numbers (a + 1) xs (λ c low. let shift : a + suc c ≡ a + 1 + c = omega arith in subst (λ n. f (n, get_or xs c d) ≡ []) shift (each (suc c) (omega (arith, low)))))

-- ---- lengths

leaf_long : (block : List ℕ) (n : ContainerLeaf) → leaf_at block ≡ Ok n → (length n.pvbns ≡ 256) × (length n.kinds ≡ 256)
unfolding leaf_in
leaf_long block n e = so (verdicts (leaf_fields greatest_kind) block) e
  where
    so : (v : Verdict) → reading v (record { index = word_at 8 block; pvbns = items 256 12 place_of (drop 1024 block); kinds = items 256 12 kind_of (drop 1024 block) }) ≡ Ok n → (length n.pvbns ≡ 256) × (length n.kinds ≡ 256)
    so (Ok fine) e =
        let first : items 256 12 place_of (drop 1024 block) ≡ n.pvbns = cc in
        let second : items 256 12 kind_of (drop 1024 block) ≡ n.kinds = cc in
        (ap (λ (ps : List ℕ). length ps) (sym first) ∙ length_items 256 12 place_of (drop 1024 block), ap (λ (ps : List ℕ). length ps) (sym second) ∙ length_items 256 12 kind_of (drop 1024 block))
    so (Err fault) e = absurd cc

inner_long : (block : List ℕ) (n : ContainerInner) → inner_at block ≡ Ok n → length n.children ≡ 256
unfolding inner_at
inner_long block n e = so (verdicts inner_fields block) e
  where
    so : (v : Verdict) → reading v (record { level = word_at 8 block; place = word_at 16 block; children = items 256 8 place_of (drop 1024 block) }) ≡ Ok n → length n.children ≡ 256
    so (Ok fine) e = let same : items 256 8 place_of (drop 1024 block) ≡ n.children = cc in ap (λ (ps : List ℕ). length ps) (sym same) ∙ length_items 256 8 place_of (drop 1024 block)
    so (Err fault) e = absurd cc

-- ---- one child

module _ (w : View) (l : Label) (some_entries : 0 < entry_count l.span) (some_blocks : 0 < w.blocks) where
  -- where a block of a volume can lie
  abbrev pub is_place : ℕ → Bool
  is_place p = nat_le (first_block w.blocks) p && nat_lt p w.blocks

  -- a child of a number, by its place and its kind, or its place twice: what has to hold of it
  pub record IsFineChild (level q : ℕ) (e : ℕ × ℕ) : Type 0 where
    pub place : e.1 ≢ 0 → is_place e.0 ≡ true
    pub first : e.1 ≢ 0 → q * fan ^ level < entry_count l.span
    pub hole : e.1 ≡ 0 → covers (wanted w l) level q ≡ false

  pub place_from : (at p : ℕ) → leads w.blocks at p ≡ [] → is_place p ≡ true
  place_from at p none =
      let both = and_parts (nat_le (first_block w.blocks) p) _ (says_within at (first_block w.blocks) (w.blocks - 1) p none) in
      let most = both.1 in
      let high : nat_lt p w.blocks ≡ true = grind (arith, nat_tests, most, some_blocks) in
      and_from (nat_le (first_block w.blocks) p) _ both.0 high

  pub place_to : (at p : ℕ) → is_place p ≡ true → leads w.blocks at p ≡ []
  place_to at p is =
      let both = and_parts (nat_le (first_block w.blocks) p) _ is in
      let test = both.1 in
      let high : nat_le p (w.blocks - 1) ≡ true = grind (arith, nat_tests, test) in
      within_says at (first_block w.blocks) (w.blocks - 1) p (and_from (nat_le (first_block w.blocks) p) _ both.0 high)

  -- 0 is no place
  pub never_zero : is_place 0 ≡ true → ⊥
  never_zero is =
      let low = (and_parts (nat_le (first_block w.blocks) 0) _ is).0 in
      let least : first_block w.blocks ≤ 0 = grind (arith, nat_tests, low) in
      omega (arith, least)

  child_fine : (at level q : ℕ) (e : ℕ × ℕ) → child_lines w l at level (q, e) ≡ [] → IsFineChild level q e
  child_fine at level q e none = so (e.1 == 0) refl none
    where
      so : (b : Bool) → (e.1 == 0) ≡ b → (if b then (if covers (wanted w l) level q then leads w.blocks at 0 else []) else leads w.blocks at e.0 ++ within at 0 (entry_count l.span - 1) (q * fan ^ level)) ≡ [] → IsFineChild level q e
      so true is none = record {
        place = λ some. absurd (let zero_is : e.1 ≡ 0 = grind (arith, nat_tests, is) in some zero_is);
        first = λ some. absurd (let zero_is : e.1 ≡ 0 = grind (arith, nat_tests, is) in some zero_is);
        hole = λ _. covered (covers (wanted w l) level q) none;
      }
        where
          covered : (b : Bool) → (if b then leads w.blocks at 0 else []) ≡ [] → b ≡ false
          covered true none = absurd (never_zero (place_from at 0 none))
          covered false none = refl
      so false is none =
          let parts = parts_nil (leads w.blocks at e.0) _ none in
          record {
            place = λ some. place_from at e.0 parts.0;
            first = λ some.
                let test = (and_parts (nat_le 0 (q * fan ^ level)) _ (says_within at 0 (entry_count l.span - 1) (q * fan ^ level) parts.1)).1 in
                let le : q * fan ^ level ≤ entry_count l.span - 1 = grind (arith, nat_tests, test) in
                lower (q * fan ^ level) (entry_count l.span) le some_entries;
            hole = λ none. absurd (let zero_is : (e.1 == 0) ≡ true = grind (arith, nat_tests, none) in differ (sym is ∙ zero_is));
          }
        where
          differ : false ≡ true → ⊥
          differ e = cc

          lower : (a b : ℕ) → a ≤ b - 1 → 0 < b → a < b
          lower a b le some = omega (arith, le, some)

  fine_child : (at level q : ℕ) (e : ℕ × ℕ) → IsFineChild level q e → child_lines w l at level (q, e) ≡ []
  fine_child at level q e is = so (e.1 == 0) refl
    where
      so : (b : Bool) → (e.1 == 0) ≡ b → (if b then (if covers (wanted w l) level q then leads w.blocks at 0 else []) else leads w.blocks at e.0 ++ within at 0 (entry_count l.span - 1) (q * fan ^ level)) ≡ []
      so true t = let zero_is : e.1 ≡ 0 = grind (arith, nat_tests, t) in ap (λ (b : Bool). if b then leads w.blocks at 0 else []) (is.hole zero_is)
      so false t =
          let some : e.1 ≢ 0 = grind (arith, nat_tests, t) in
          let below = is.first some in
          let low : nat_le 0 (q * fan ^ level) ≡ true = grind (arith, nat_tests) in
          let le : q * fan ^ level ≤ entry_count l.span - 1 = lower (q * fan ^ level) (entry_count l.span) below in
          let high : nat_le (q * fan ^ level) (entry_count l.span - 1) ≡ true = grind (arith, nat_tests, le) in
          nil_parts (leads w.blocks at e.0) _ (place_to at e.0 (is.place some))
          (within_says at 0 (entry_count l.span - 1) (q * fan ^ level) (and_from (nat_le 0 (q * fan ^ level)) _ low high))
        where
          lower : (a b : ℕ) → a < b → a ≤ b - 1
          lower a b lt = omega (arith, lt)

-- ---- one node

-- what a node's block has under a number: an entry's place and kind, or a child's place twice
abbrev pub child : ℕ → List ℕ → ℕ → ℕ × ℕ
child zero block c = entry_in (shaped (leaf_at block)) c
child (suc level) block c = (child_in (shaped (inner_at block)) c, child_in (shaped (inner_at block)) c)

module _ (w : View) (l : Label) (some_entries : 0 < entry_count l.span) (some_blocks : 0 < w.blocks) where
  -- what has to hold of a node at a position
  pub record IsFineNode (level number : ℕ) (block : List ℕ) : Type 0 where
    pub verdict : node_verdict level number block ≡ Ok tt
    pub children : (c : ℕ) → c < fan → IsFineChild w l some_entries some_blocks level (fan * number + c) (child level block c)

  leaf_is : (number : ℕ) (r : Result ContainerLeaf Shape) (leaf : ContainerLeaf) → r ≡ Ok leaf → (number == leaf.index) ≡ true → verdict_of (judged r (λ l. in_range number number l.index)) ≡ Ok tt
  leaf_is number r leaf is same = ap (λ (r : Result ContainerLeaf Shape). verdict_of (judged r (λ l. in_range number number l.index))) is ∙ ap (λ (v : Verdict). verdict_of (reading v leaf)) (fine_one number leaf.index same)

  inner_is : (level number : ℕ) (r : Result ContainerInner Shape) (node : ContainerInner) → r ≡ Ok node → (level == node.level) ≡ true → (number == node.place) ≡ true
      → verdict_of (judged r (λ n. in_range level level n.level then in_range number number n.place)) ≡ Ok tt
  inner_is level number r node is same also =
      ap (λ (r : Result ContainerInner Shape). verdict_of (judged r (λ n. in_range level level n.level then in_range number number n.place))) is
      ∙ (λ i. verdict_of (reading (fine_one level node.level same i then fine_one number node.place also i) node))

  leaf_pair : (block : List ℕ) (leaf : ContainerLeaf) → leaf_at block ≡ Ok leaf → (c : ℕ) → c < 256 → get_or (zip leaf.pvbns leaf.kinds) c (0, 0) ≡ child 0 block c
  leaf_pair block leaf reads c low =
      let long = leaf_long block leaf reads in
      let one = long.0 in
      let two = long.1 in
      get_or-zip leaf.pvbns leaf.kinds c (0, 0) (omega (arith, low, one)) (omega (arith, low, two))
      ∙ sym (ap (λ (r : Result ContainerLeaf Shape). entry_in (shaped r) c) reads)

  inner_pair : (level : ℕ) (block : List ℕ) (node : ContainerInner) → inner_at block ≡ Ok node → (c : ℕ) → c < 256 → get_or (zip node.children node.children) c (0, 0) ≡ child (suc level) block c
  inner_pair level block node reads c low =
      let long = inner_long block node reads in
      get_or-zip node.children node.children c (0, 0) (omega (arith, low, long)) (omega (arith, low, long))
      ∙ sym (ap (λ (r : Result ContainerInner Shape). (child_in (shaped r) c, child_in (shaped r) c)) reads)

  leaf_pairs_long : (block : List ℕ) (leaf : ContainerLeaf) → leaf_at block ≡ Ok leaf → length (zip leaf.pvbns leaf.kinds) ≡ 256
  leaf_pairs_long block leaf reads =
      let long = leaf_long block leaf reads in
      let one = long.0 in
      let two = long.1 in
      length-zip leaf.pvbns leaf.kinds ∙ omega (arith, one, two)

  inner_pairs_long : (block : List ℕ) (node : ContainerInner) → inner_at block ≡ Ok node → length (zip node.children node.children) ≡ 256
  inner_pairs_long block node reads =
      let long = inner_long block node reads in
      length-zip node.children node.children ∙ omega (arith, long)

  pub node_fine : (level number place : ℕ) (block : List ℕ) → node_lines w l level number place block ≡ [] → IsFineNode level number block
  unfolding leaf_for inner_for
  node_fine zero number place block none = so (leaf_at block) refl none
    where
      so : (r : Result ContainerLeaf Shape) → leaf_at block ≡ r → leaf_lines w l number place r ≡ [] → IsFineNode 0 number block
      so (Err shape) reads none = absurd cc
      so (Ok leaf) reads none =
          let parts = parts_nil (expects 4 place number leaf.index) _ none in
          record {
            verdict = leaf_is number (leaf_at block) leaf reads (holds_from (number == leaf.index) _ parts.0);
            children = λ c low.
                let long = leaf_pairs_long block leaf reads in
                child_fine w l some_entries some_blocks place 0 (fan * number + c) (child 0 block c)
                (subst (λ (e : ℕ × ℕ). child_lines w l place 0 (fan * number + c, e) ≡ []) (leaf_pair block leaf reads c low)
                (each_number (child_lines w l place 0) (0, 0) (fan * number) (zip leaf.pvbns leaf.kinds) parts.1 c (omega (arith, low, long))));
          }
  node_fine (suc level) number place block none = so (inner_at block) refl none
    where
      so : (r : Result ContainerInner Shape) → inner_at block ≡ r → inner_lines w l (suc level) number place r ≡ [] → IsFineNode (suc level) number block
      so (Err shape) reads none = absurd cc
      so (Ok node) reads none =
          let parts = parts_nil (expects 4 place (suc level) node.level) _ none in
          let more = parts_nil (expects 4 place number node.place) _ parts.1 in
          record {
            verdict = inner_is (suc level) number (inner_at block) node reads (holds_from (suc level == node.level) _ parts.0) (holds_from (number == node.place) _ more.0);
            children = λ c low.
                let long = inner_pairs_long block node reads in
                child_fine w l some_entries some_blocks place (suc level) (fan * number + c) (child (suc level) block c)
                (subst (λ (e : ℕ × ℕ). child_lines w l place (suc level) (fan * number + c, e) ≡ []) (inner_pair level block node reads c low)
                (each_number (child_lines w l place (suc level)) (0, 0) (fan * number) (zip node.children node.children) more.1 c (omega (arith, low, long))));
          }

  pub fine_node : (level number place : ℕ) (block : List ℕ) → IsFineNode level number block → node_lines w l level number place block ≡ []
  unfolding leaf_for inner_for
  fine_node zero number place block is = so (leaf_at block) refl (ap is_fine is.verdict)
    where
      so : (r : Result ContainerLeaf Shape) → leaf_at block ≡ r → is_fine (verdict_of (judged (leaf_at block) (λ l. in_range number number l.index))) ≡ true → leaf_lines w l number place r ≡ []
      so (Err shape) reads fine = absurd (never (sym (ap (λ (r : Result ContainerLeaf Shape). is_fine (verdict_of (judged r (λ l. in_range number number l.index)))) reads) ∙ fine))
        where
          never : false ≡ true → ⊥
          never e = cc
      so (Ok leaf) reads fine =
          nil_parts (expects 4 place number leaf.index) _
          (none_from (number == leaf.index) _ (one_fine number leaf.index (was (in_range number number leaf.index) (sym (ap (λ (r : Result ContainerLeaf Shape). is_fine (verdict_of (judged r (λ l. in_range number number l.index)))) reads) ∙ fine))))
          (all_numbers (child_lines w l place 0) (0, 0) (fan * number) (zip leaf.pvbns leaf.kinds) (λ c low.
          let long = leaf_pairs_long block leaf reads in
          let inside : c < 256 = omega (arith, low, long) in
          subst (λ (e : ℕ × ℕ). child_lines w l place 0 (fan * number + c, e) ≡ []) (sym (leaf_pair block leaf reads c inside))
          (fine_child w l some_entries some_blocks place 0 (fan * number + c) (child 0 block c) (is.children c inside))))
        where
          was : (v : Verdict) → is_fine (verdict_of (reading v leaf)) ≡ true → is_fine v ≡ true
          was (Ok fine) e = refl
          was (Err fault) e = absurd cc
  fine_node (suc level) number place block is = so (inner_at block) refl (ap is_fine is.verdict)
    where
      so : (r : Result ContainerInner Shape) → inner_at block ≡ r → is_fine (verdict_of (judged (inner_at block) (λ n. in_range (suc level) (suc level) n.level then in_range number number n.place))) ≡ true → inner_lines w l (suc level) number place r ≡ []
      so (Err shape) reads fine = absurd (never (sym (ap (λ (r : Result ContainerInner Shape). is_fine (verdict_of (judged r (λ n. in_range (suc level) (suc level) n.level then in_range number number n.place)))) reads) ∙ fine))
        where
          never : false ≡ true → ⊥
          never e = cc
      so (Ok node) reads fine =
          let both = then_fine (in_range (suc level) (suc level) node.level) (in_range number number node.place)
          (was (in_range (suc level) (suc level) node.level then in_range number number node.place) (sym (ap (λ (r : Result ContainerInner Shape). is_fine (verdict_of (judged r (λ n. in_range (suc level) (suc level) n.level then in_range number number n.place)))) reads) ∙ fine)) in
          nil_parts (expects 4 place (suc level) node.level) _ (none_from (suc level == node.level) _ (one_fine (suc level) node.level both.0))
          (nil_parts (expects 4 place number node.place) _ (none_from (number == node.place) _ (one_fine number node.place both.1))
          (all_numbers (child_lines w l place (suc level)) (0, 0) (fan * number) (zip node.children node.children) (λ c low.
          let long = inner_pairs_long block node reads in
          let inside : c < 256 = omega (arith, low, long) in
          subst (λ (e : ℕ × ℕ). child_lines w l place (suc level) (fan * number + c, e) ≡ []) (sym (inner_pair level block node reads c inside))
          (fine_child w l some_entries some_blocks place (suc level) (fan * number + c) (child (suc level) block c) (is.children c inside)))))
        where
          was : (v : Verdict) → is_fine (verdict_of (reading v node)) ≡ true → is_fine v ≡ true
          was (Ok fine) e = refl
          was (Err fault) e = absurd cc

  -- ---- the entries' end

  abbrev entries : ℕ
  entries = entry_count l.span

  pub below_width : (level q : ℕ) → level ≤ 1 → q * fan ^ suc level < entries → q < level_width entries level
  below_width zero q low below = omega (arith, below)
  below_width (suc zero) q low below = omega (arith, below)
  below_width (suc (suc level)) q low below = absurd (omega (arith, low))

  width_below : (level q : ℕ) → level ≤ 1 → q < level_width entries level → q * fan ^ suc level < entries
  width_below zero q low below = omega (arith, below)
  width_below (suc zero) q low below = omega (arith, below, some_entries)
  width_below (suc (suc level)) q low below = absurd (omega (arith, low))

  pub ends_from : (level number : ℕ) (block : List ℕ) → level ≤ 2 → IsFineNode level number block → has_none_past entries level number block ≡ true
  ends_from zero number block low is = all_between (λ c. nat_lt (number * fan + c) entries || ((entry_in (shaped (leaf_at block)) c).1 == 0)) 0 fan (λ c least most.
      ⊎_elim
      (λ (none : (child 0 block c).1 ≡ 0). or_right (nat_lt (number * fan + c) entries) _ (let test : ((child 0 block c).1 == 0) ≡ true = grind (arith, nat_tests, none) in test))
      (λ (some : (child 0 block c).1 ≢ 0). or_left (nat_lt (number * fan + c) entries) _ (lower number c ((is.children c (omega (arith, most))).first some)))
      (cases_eq (child 0 block c).1 0))
    where
      lower : (number c : ℕ) → (fan * number + c) * fan ^ 0 < entries → nat_lt (number * fan + c) entries ≡ true
      lower number c below = let lt : number * fan + c < entries = omega (arith, below) in grind (arith, nat_tests, lt)
  ends_from (suc level) number block low is = all_between (λ c. nat_lt (number * fan + c) (level_width entries level) || (child_in (shaped (inner_at block)) c == 0)) 0 fan (λ c least most.
      ⊎_elim
      (λ (none : child_in (shaped (inner_at block)) c ≡ 0). or_right (nat_lt (number * fan + c) (level_width entries level)) _ (let test : (child_in (shaped (inner_at block)) c == 0) ≡ true = grind (arith, nat_tests, none) in test))
      (λ (some : child_in (shaped (inner_at block)) c ≢ 0). or_left (nat_lt (number * fan + c) (level_width entries level)) _ (lower number c ((is.children c (omega (arith, most))).first some)))
      (cases_eq (child_in (shaped (inner_at block)) c) 0))
    where
      lower : (number c : ℕ) → (fan * number + c) * fan ^ suc level < entries → nat_lt (number * fan + c) (level_width entries level) ≡ true
      lower number c below =
          let lt : fan * number + c < level_width entries level = below_width level (fan * number + c) (omega (arith, low)) below in
          let turned : number * fan + c < level_width entries level = omega (arith, lt) in
          grind (arith, nat_tests, turned)

  other : (n : ℕ) → n ≢ 0 → (n == 0) ≡ false
  other n some = grind (arith, nat_tests, some)

  or_not : (a b : Bool) → b ≡ false → (a || b) ≡ true → a ≡ true
  or_not true b e is = refl
  or_not false true e is = absurd cc
  or_not false false e is = absurd cc

  pub first_from : (level number : ℕ) (block : List ℕ) → level ≤ 2 → has_none_past entries level number block ≡ true → (c : ℕ) → c < fan → (child level block c).1 ≢ 0 → (fan * number + c) * fan ^ level < entries
  first_from zero number block low ends c inside some = lower (or_not (nat_lt (number * fan + c) entries) ((child 0 block c).1 == 0) (other (child 0 block c).1 some)
      (from_all (λ c. nat_lt (number * fan + c) entries || ((entry_in (shaped (leaf_at block)) c).1 == 0)) (range_with_len 0 fan) ends c (in_numbers 0 fan c (omega arith) (omega (arith, inside)))))
    where
      lower : nat_lt (number * fan + c) entries ≡ true → (fan * number + c) * fan ^ 0 < entries
      lower test = let lt : number * fan + c < entries = grind (arith, nat_tests, test) in omega (arith, lt)
  first_from (suc level) number block low ends c inside some = lower (or_not (nat_lt (number * fan + c) (level_width entries level)) (child_in (shaped (inner_at block)) c == 0) (other (child_in (shaped (inner_at block)) c) some)
      (from_all (λ c. nat_lt (number * fan + c) (level_width entries level) || (child_in (shaped (inner_at block)) c == 0)) (range_with_len 0 fan) ends c (in_numbers 0 fan c (omega arith) (omega (arith, inside)))))
    where
      lower : nat_lt (number * fan + c) (level_width entries level) ≡ true → (fan * number + c) * fan ^ suc level < entries
      lower test =
          let lt : number * fan + c < level_width entries level = grind (arith, nat_tests, test) in
          let turned : fan * number + c < level_width entries level = omega (arith, lt) in
          width_below level (fan * number + c) (omega (arith, low)) turned
