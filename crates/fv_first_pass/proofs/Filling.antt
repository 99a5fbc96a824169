-- The nodes of a container, as they are read one after the other: what each step adds to the lines, and what it keeps of entries.
use Rattle.std.proofs.Common.{◌≡◌, ◌≢◌, ℕ, zero, suc, ◌+◌, ◌-◌, ◌*◌, ◌/◌, ◌%◌, ◌^◌, ◌<◌, ◌≤◌, Bool, true, false, List, [], ◌∷◌, ◌++◌, length, get_or, refl, sym, ap, subst, ◌∙◌, arith, ⊎_elim, Ok, Err}
use Rattle.std.specs.Prelude.{Option, Some, None, Result, flat_map, nat_lt, if◌then◌else◌}
use Rattle.std.specs.List.{range_with_len}
use Rattle.std.specs.Option.{is_some}
use Rattle.std.proofs.lemmas.Bool.{cases_eq}
use Rattle.fv_disk.specs.Shown.{Image}
use Rattle.fv_codec.specs.declared.shape.Shape.{Shape}
use Rattle.fv_codec.specs.declared.container.ContainerLeaf.{ContainerLeaf}
use Rattle.fv_codec.specs.declared.container.ContainerInner.{ContainerInner}
use Rattle.fv_codec.specs.Blocks.{leaf_at, inner_at}
use Rattle.fv_image.specs.Containers.{fan, level_width, shaped, lying, entry_in}
use Rattle.fv_image.specs.Views.{entry_count}
use Rattle.fv_faults.specs.declared.fault.Fault.{Fault}
use Rattle.fv_faults.specs.declared.lines.Lines.{Lines}
use Rattle.fv_faults.specs.Lines.{or_next}
use Rattle.fv_faults.specs.Adding.{Adds}
use Rattle.fv_faults.specs.FirstPass.{leaf_lines, inner_lines}
use Rattle.fv_faults.proofs.Clean.{parts_nil}
use Rattle.fv_faults.proofs.Adding.{adds_none, adds_then}
use Rattle.fv_first_pass.specs.declared.site.Site.{Site}
use Rattle.fv_first_pass.specs.Sites.{bare}
use Rattle.fv_first_pass.specs.Below.{below, child_at, entry_under, entry_word}
use Rattle.fv_first_pass.proofs.Ranges.{parts_more}
use Rattle.fv_first_pass.specs.Filled.{FillsLeaf, Fills, Judges, FillsTo, BelowTo, lines_to}

-- ---- where a node is absent

pub absent_adds : (i : Image) (site : Site) (level number at : ℕ) (x : Lines) → at ≡ 0 → Adds (below i site level number at) x x
unfolding below
absent_adds i site zero number at x none = rw none (adds_none x x refl)
absent_adds i site (suc level) number at x none = rw none (adds_none x x refl)

nothing_under : (i : Image) (site : Site) (level v : ℕ) → entry_under i site level 0 v ≡ (0, 0)
unfolding entry_under
nothing_under i site zero v = refl
nothing_under i site (suc level) v =
    ap (λ at. entry_under i site level at v) (so (nat_lt (v / fan ^ suc level) (level_width (entry_count site.label.span) level))) ∙ nothing_under i site level v
  where
    so : (b : Bool) → ◌≡◌ {A = ℕ} (if b then 0 else 0) 0
    so true = refl
    so false = refl

pub absent_fills : (i : Image) (site : Site) (level number at : ℕ) (xs : List ℕ) → at ≡ 0 → Fills i site level number at xs xs
absent_fills i site level number at xs none = record {
  long = refl;
  kept = λ quiet v over inside hole. hole ∙ sym (ap (λ at. entry_word (entry_under i site level at v)) none ∙ ap entry_word (nothing_under i site level v));
  outside = λ v other. refl;
}

-- ---- a leaf

pub leaf_there : (i : Image) (site : Site) (number at : ℕ) → at ≢ 0 → below i site 0 number at ≡ leaf_lines (bare site.blocks) site.label number at (leaf_at (i at))
unfolding below
leaf_there i site number zero some = absurd (some refl)
leaf_there i site number (suc p) some = refl

leaf_lying : (i : Image) (at : ℕ) → at ≢ 0 → lying leaf_at i at ≡ shaped (leaf_at (i at))
leaf_lying i zero some = absurd (some refl)
leaf_lying i (suc p) some = refl

quiet_leaf : (site : Site) (number at : ℕ) (r : Result ContainerLeaf Shape) → leaf_lines (bare site.blocks) site.label number at r ≡ [] → is_some (shaped r) ≡ true
quiet_leaf site number at (Ok leaf) none = refl
quiet_leaf site number at (Err shape) none = absurd cc

pub leaf_adds : (i : Image) (site : Site) (number at : ℕ) (block : List ℕ) (old new : Lines) → at ≢ 0 → block ≡ i at
    → Adds (leaf_lines (bare site.blocks) site.label number at (leaf_at block)) old new → Adds (below i site 0 number at) old new
leaf_adds i site number at block old new some is adds =
    subst (λ ls. Adds ls old new) (ap (λ b. leaf_lines (bare site.blocks) site.label number at (leaf_at b)) is ∙ sym (leaf_there i site number at some)) adds

pub leaf_fills : (i : Image) (site : Site) (number at : ℕ) (block old new : List ℕ) → at ≢ 0 → block ≡ i at → FillsLeaf number (shaped (leaf_at block)) old new → Fills i site 0 number at old new
unfolding entry_under
leaf_fills i site number at block old new some is fills = record {
  long = fills.long;
  kept = λ quiet v over inside hole.
      let whole : fan * number + v % fan ≡ v = omega (arith, over) in
      let rest : v % fan < fan = omega arith in
      let same : shaped (leaf_at block) ≡ lying leaf_at i at = ap (λ b. shaped (leaf_at b)) is ∙ sym (leaf_lying i at some) in
      ap (λ n. get_or new n 0) (sym whole)
      ∙ fills.kept (quiet_leaf site number at (leaf_at block) (ap (λ b. leaf_lines (bare site.blocks) site.label number at (leaf_at b)) is ∙ sym (leaf_there i site number at some) ∙ quiet)) (v % fan) rest (omega (arith, whole, inside))
      ∙ ap (λ o. entry_word (entry_in o (v % fan))) same;
  outside = λ v other. fills.outside v (λ over. other over);
}

-- ---- an inner node

pub inner_there : (i : Image) (site : Site) (level number at : ℕ) → at ≢ 0 → below i site (suc level) number at
    ≡ or_next (inner_lines (bare site.blocks) site.label (suc level) number at (inner_at (i at))) (flat_map (λ q. below i site level q (child_at site level (shaped (inner_at (i at))) q)) (range_with_len (fan * number) fan))
unfolding below
inner_there i site level number zero some = absurd (some refl)
inner_there i site level number (suc p) some = refl

inner_lying : (i : Image) (at : ℕ) → at ≢ 0 → lying inner_at i at ≡ shaped (inner_at (i at))
inner_lying i zero some = absurd (some refl)
inner_lying i (suc p) some = refl

module _ (i : Image) (site : Site) (level number at : ℕ) (block : List ℕ) (some : at ≢ 0) (is : block ≡ i at) where
  abbrev own : List Fault
  own = inner_lines (bare site.blocks) site.label (suc level) number at (inner_at block)

  open_node : below i site (suc level) number at ≡ or_next own (flat_map (λ q. below i site level q (child_at site level (shaped (inner_at block)) q)) (range_with_len (fan * number) fan))
  open_node = inner_there i site level number at some
      ∙ ap (λ b. or_next (inner_lines (bare site.blocks) site.label (suc level) number at (inner_at b)) (flat_map (λ q. below i site level q (child_at site level (shaped (inner_at b)) q)) (range_with_len (fan * number) fan))) (sym is)

  -- one with lines
  faulty_is : own ≢ [] → below i site (suc level) number at ≡ own
  faulty_is lines = open_node ∙ so own lines
    where
      so : (ls : List Fault) → ls ≢ [] → or_next ls (flat_map (λ q. below i site level q (child_at site level (shaped (inner_at block)) q)) (range_with_len (fan * number) fan)) ≡ ls
      so [] some = absurd (some refl)
      so (f ∷ fs) some = refl

  pub faulty_adds : (answer : Option ContainerInner) (old new : Lines) → Judges own (inner_at block) answer → answer ≡ None → Adds own old new → Adds (below i site (suc level) number at) old new
  faulty_adds answer old new judges none adds = subst (λ ls. Adds ls old new) (sym (faulty_is (judges.faulty none))) adds

  pub faulty_fills : (answer : Option ContainerInner) (xs : List ℕ) → Judges own (inner_at block) answer → answer ≡ None → Fills i site (suc level) number at xs xs
  faulty_fills answer xs judges none = record {
    long = refl;
    kept = λ quiet v over inside hole. absurd (judges.faulty none (sym (faulty_is (judges.faulty none)) ∙ quiet));
    outside = λ v other. refl;
  }

  module _ (node : ContainerInner) (answer : Option ContainerInner) (judges : Judges own (inner_at block) answer) (answered : answer ≡ Some node) where
    clean : own ≡ []
    clean = (judges.clean node answered).0

    node_is : inner_at block ≡ Ok node
    node_is = (judges.clean node answered).1

    -- one without lines
    clean_is : below i site (suc level) number at ≡ lines_to i site level number node fan
    clean_is = open_node
        ∙ ap (λ ls. or_next ls (flat_map (λ q. below i site level q (child_at site level (shaped (inner_at block)) q)) (range_with_len (fan * number) fan))) clean
        ∙ ap (λ r. flat_map (λ q. below i site level q (child_at site level (shaped r) q)) (range_with_len (fan * number) fan)) node_is

    pub clean_first : (old new : Lines) → Adds own old new → BelowTo i site level number node 0 old new
    clean_first old new adds = subst (λ ls. Adds ls old new) clean adds

    pub clean_adds : (c : ℕ) (old new : Lines) → c ≡ fan → BelowTo i site level number node c old new → Adds (below i site (suc level) number at) old new
    clean_adds c old new all adds = subst (λ ls. Adds ls old new) (ap (lines_to i site level number node) all ∙ sym clean_is) adds

    pub clean_fills : (turn : (v : ℕ) → v / fan ^ suc (suc level) ≡ v / fan ^ suc level / fan) (c : ℕ) (old new : List ℕ) → c ≡ fan → FillsTo i site level number node c old new → Fills i site (suc level) number at old new
    unfolding entry_under
    clean_fills turn c old new all fills = record {
      long = fills.long;
      kept = λ quiet v over inside hole.
          let high : v / fan ^ suc level / fan ≡ number = sym (turn v) ∙ over in
          let within : v / fan ^ suc level < fan * number + fan = below_all (v / fan ^ suc level) high in
          fills.kept (ap (lines_to i site level number node) all ∙ sym clean_is ∙ quiet) v over (subst (λ c. v / fan ^ suc level < fan * number + c) (sym all) within) inside hole
          ∙ ap (λ o. entry_word (entry_under i site level (child_at site level o (v / fan ^ suc level)) v)) (sym (ap shaped node_is) ∙ ap (λ b. shaped (inner_at b)) is ∙ sym (inner_lying i at some));
      outside = fills.outside;
    }
      where
        below_all : (q : ℕ) → q / fan ≡ number → q < fan * number + fan
        below_all q e = omega (arith, e)

-- ---- the children of an inner node

module _ (i : Image) (site : Site) (level number : ℕ) (node : ContainerInner) where
  abbrev child : ℕ → ℕ
  child q = child_at site level (Some node) q

  module _ (turn : (v : ℕ) → v / fan ^ suc (suc level) ≡ v / fan ^ suc level / fan) where
    -- a number under the node is one of a child of it
    from_first : (q : ℕ) → q / fan ≡ number → fan * number ≤ q
    from_first q e = omega (arith, e)

    pub no_children : (xs : List ℕ) → FillsTo i site level number node 0 xs xs
    no_children xs = record {
      long = refl;
      kept = λ quiet v over under inside hole. let least = from_first (v / fan ^ suc level) (sym (turn v) ∙ over) in absurd (no (v / fan ^ suc level) least under);
      later = λ v over past. refl;
      outside = λ v other. refl;
    }
      where
        no : (q : ℕ) → fan * number ≤ q → q < fan * number + 0 → ⊥
        no q least under = omega (arith, least, under)

  pub no_lines : (x : Lines) → BelowTo i site level number node 0 x x
  no_lines x = adds_none x x refl

  lines_more : (c : ℕ) → lines_to i site level number node (c + 1) ≡ lines_to i site level number node c ++ below i site level (fan * number + c) (child (fan * number + c))
  lines_more c = parts_more (λ q. below i site level q (child q)) (fan * number) c (fan * number + c) refl

  pub one_adds : (c : ℕ) (old mid new : Lines) → BelowTo i site level number node c old mid → Adds (below i site level (fan * number + c) (child (fan * number + c))) mid new → BelowTo i site level number node (c + 1) old new
  one_adds c old mid new first one = subst (λ ls. Adds ls old new) (sym (lines_more c)) (adds_then (lines_to i site level number node c) (below i site level (fan * number + c) (child (fan * number + c))) old mid new first one)

  module _ (turn : (v : ℕ) → v / fan ^ suc (suc level) ≡ v / fan ^ suc level / fan) (c : ℕ) (low : c < fan) (old mid new : List ℕ) (first : FillsTo i site level number node c old mid) (one : Fills i site level (fan * number + c) (child (fan * number + c)) mid new) where
    one_kept : lines_to i site level number node (c + 1) ≡ [] → (v : ℕ) → v / fan ^ suc (suc level) ≡ number → v / fan ^ suc level < fan * number + (c + 1) → v < length old → get_or old v 0 ≡ 0
        → get_or new v 0 ≡ entry_word (entry_under i site level (child (v / fan ^ suc level)) v)
    one_kept quiet v over under inside hole =
        let parts = parts_nil (lines_to i site level number node c) (below i site level (fan * number + c) (child (fan * number + c))) (sym (lines_more c) ∙ quiet) in
        ⊎_elim
        (λ (same : v / fan ^ suc level ≡ fan * number + c).
        one.kept parts.1 v same (let long = first.long in omega (arith, inside, long)) (first.later v over (at_last (v / fan ^ suc level) same) ∙ hole)
        ∙ ap (λ q. entry_word (entry_under i site level (child q) v)) (sym same))
        (λ (other : v / fan ^ suc level ≢ fan * number + c).
        one.outside v other ∙ first.kept parts.0 v over (before (v / fan ^ suc level) other under) inside hole)
        (cases_eq (v / fan ^ suc level) (fan * number + c))
      where
        at_last : (q : ℕ) → q ≡ fan * number + c → fan * number + c ≤ q
        at_last q e = omega (arith, e)

        before : (q : ℕ) → q ≢ fan * number + c → q < fan * number + (c + 1) → q < fan * number + c
        before q other under = omega (arith, other, under)

    one_later : (v : ℕ) → v / fan ^ suc (suc level) ≡ number → fan * number + (c + 1) ≤ v / fan ^ suc level → get_or new v 0 ≡ get_or old v 0
    one_later v over past = one.outside v (λ same. no (v / fan ^ suc level) same past) ∙ first.later v over (less (v / fan ^ suc level) past)
      where
        no : (q : ℕ) → q ≡ fan * number + c → fan * number + (c + 1) ≤ q → ⊥
        no q same past = omega (arith, same, past)

        less : (q : ℕ) → fan * number + (c + 1) ≤ q → fan * number + c ≤ q
        less q past = omega (arith, past)

    one_outside : (v : ℕ) → v / fan ^ suc (suc level) ≢ number → get_or new v 0 ≡ get_or old v 0
    one_outside v other = one.outside v (λ same. other (turn v ∙ high (v / fan ^ suc level) same)) ∙ first.outside v other
      where
        high : (q : ℕ) → q ≡ fan * number + c → q / fan ≡ number
        high q same = omega (arith, same, low)

    pub one_fills : FillsTo i site level number node (c + 1) old new
    one_fills = record { long = one.long ∙ first.long; kept = one_kept; later = one_later; outside = one_outside }

-- a node by equal numbers
pub adds_at : (i : Image) (site : Site) (level n a m b : ℕ) → n ≡ m → a ≡ b → (old new : Lines) → Adds (below i site level n a) old new → Adds (below i site level m b) old new
adds_at i site level n a m b number place old new adds = subst (λ m. Adds (below i site level m b) old new) number (subst (λ b. Adds (below i site level n b) old new) place adds)

pub fills_at : (i : Image) (site : Site) (level n a m b : ℕ) → n ≡ m → a ≡ b → (old new : List ℕ) → Fills i site level n a old new → Fills i site level m b old new
fills_at i site level n a m b number place old new fills = subst (λ m. Fills i site level m b old new) number (subst (λ b. Fills i site level n b old new) place fills)

-- ---- the two levels of inner nodes

pub over_children : (level : ℕ) → level ≢ 0 → level ≤ 2 → (v : ℕ) → v / fan ^ suc (suc (level - 1)) ≡ v / fan ^ suc (level - 1) / fan
over_children level some most v = ⊎_elim
    (λ (one : level ≡ 1). subst (λ n. v / fan ^ suc (suc n) ≡ v / fan ^ suc n / fan) (let e : 0 ≡ level - 1 = omega (arith, one) in e) (let e : v / 65536 ≡ v / 256 / 256 = omega arith in e))
    (λ (other : level ≢ 1). subst (λ n. v / fan ^ suc (suc n) ≡ v / fan ^ suc n / fan) (let e : 1 ≡ level - 1 = omega (arith, other, some, most) in e) (let e : v / 16777216 ≡ v / 65536 / 256 = omega arith in e))
    (cases_eq level 1)
