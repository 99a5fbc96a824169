-- Pass 1 in the tree of a container: it finds nothing exactly where soundness' tests of nodes and entries hold, and the entries that have to be
-- there are.
use Rattle.std.proofs.Common.{◌≡◌, ◌≢◌, ℕ, zero, suc, ◌+◌, ◌-◌, ◌*◌, ◌/◌, ◌%◌, ◌^◌, ◌<◌, ◌≤◌, Bool, true, false, refl, sym, ap, subst, ◌∙◌, arith, ⊎_elim, Ok}
use Rattle.std.specs.Prelude.{Some, ◌==◌, nat_le, nat_lt, if◌then◌else◌}
use Rattle.std.proofs.lemmas.Bool.{cases_lt, cases_eq}
use Rattle.std.proofs.lemmas.Bool.Decides.{nat_tests}
use Rattle.fv_disk.specs.Shown.{Image}
use Rattle.fv_codec.specs.declared.label.Label.{Label}
use Rattle.fv_codec.specs.Blocks.{leaf_at, inner_at}
use Rattle.fv_laws.proofs.Lists.{In}
use Rattle.fv_laws.proofs.Tests.{from_any, to_any}
use Rattle.fv_image.specs.Containers.{fan, most_entries, level_width, height_of, shaped, lying, child_in, entry_in, node_of, node_below, container_entry, node_verdict, has_none_past}
use Rattle.fv_image.specs.NewerRoot.{Taken}
use Rattle.fv_image.specs.Views.{View, entry_count}
use Rattle.fv_image.specs.Held.{label_in, label_lying, view_at}
use Rattle.fv_image.specs.Reclaimed.{entry_at}
use Rattle.fv_faults.specs.FirstPass.{wanted, covers}
use Rattle.fv_faults.proofs.ReadNodes.{AreQuiet}
use Rattle.fv_faults.proofs.ReadChildren.{child, is_place, IsFineChild, IsFineNode, node_fine, fine_node, ends_from, first_from, never_zero, below_width}

module _ (t : Taken) (i : Image) (s : ℕ) (l : Label) (there : label_in (label_lying t i s) ≡ Some l)
    (height_is : l.height ≡ height_of (entry_count l.span)) (some_entries : 0 < entry_count l.span) (few_entries : entry_count l.span ≤ most_entries) (some_blocks : 0 < (view_at t i).blocks) where
  abbrev w : View
  w = view_at t i

  abbrev count : ℕ
  count = entry_count l.span

  abbrev node : ℕ → ℕ → ℕ
  node level number = node_of i l.container l.height level number

  abbrev pub is_room : ℕ → Bool
  is_room = is_place w l some_entries some_blocks

  -- what soundness asks of a container, and that the entries that have to be there are
  pub record IsReadTree : Type 0 where
    pub verdicts : (level number : ℕ) → level ≤ l.height → number < level_width count level → node level number ≢ 0 → node_verdict level number (i (node level number)) ≡ Ok tt
    pub ends : (level number : ℕ) → level ≤ l.height → number < level_width count level → node level number ≢ 0 → has_none_past count level number (i (node level number)) ≡ true
    pub nodes : (level number : ℕ) → level ≤ l.height → number < level_width count level → node level number ≢ 0 → is_room (node level number) ≡ true
    pub held : (v : ℕ) → v < count → (entry_at i l v).1 ≢ 0 → is_room (entry_at i l v).0 ≡ true
    pub wanted_there : (v : ℕ) → v < count → In v (wanted w l) → (entry_at i l v).1 ≢ 0

  low_height : l.height ≤ 2
  low_height = so (nat_le (level_width count 0) fan) height_is
    where
      so : (b : Bool) → l.height ≡ (if b then 1 else 2) → l.height ≤ 2
      so true e = omega (arith, e)
      so false e = omega (arith, e)

  -- ---- a node and the one over it

  -- the place of a node by the block of the one over it
  by_parent : (level number : ℕ) → suc level ≤ l.height → node (suc level) (number / fan) ≢ 0 → node level number ≡ (child (suc level) (i (node (suc level) (number / fan))) (number % fan)).0
  unfolding node_below
  by_parent level number low some = opened (l.height - level) (l.height - suc level) (omega (arith, low)) ∙ lies (node (suc level) (number / fan)) some
    where
      opened : (a b : ℕ) → a ≡ suc b → node_below i l.container a number ≡ child_in (lying inner_at i (node_below i l.container b (number / fan))) (number % fan)
      opened a b e = ap (λ n. node_below i l.container n number) e

      lies : (p : ℕ) → p ≢ 0 → child_in (lying inner_at i p) (number % fan) ≡ child_in (shaped (inner_at (i p))) (number % fan)
      lies zero some = absurd (some refl)
      lies (suc p) some = refl

  no_parent : (level number : ℕ) → suc level ≤ l.height → node (suc level) (number / fan) ≡ 0 → node level number ≡ 0
  unfolding node_below
  no_parent level number low none = opened (l.height - level) (l.height - suc level) (omega (arith, low)) ∙ ap (λ (p : ℕ). child_in (lying inner_at i p) (number % fan)) none
    where
      opened : (a b : ℕ) → a ≡ suc b → node_below i l.container a number ≡ child_in (lying inner_at i (node_below i l.container b (number / fan))) (number % fan)
      opened a b e = ap (λ n. node_below i l.container n number) e

  at_top : node l.height 0 ≡ l.container
  unfolding node_below
  at_top = let none : l.height - l.height ≡ 0 = omega arith in ap (λ n. node_below i l.container n 0) none

  beside_top : (number : ℕ) → number ≢ 0 → node l.height number ≡ 0
  unfolding node_below
  beside_top number some =
      let none : l.height - l.height ≡ 0 = omega arith in
      let other : (number == 0) ≡ false = grind (arith, nat_tests, some) in
      ap (λ n. node_below i l.container n number) none ∙ ap (λ (b : Bool). if b then l.container else 0) other

  leaf_level : (q : ℕ) → node_below i l.container l.height q ≡ node 0 q
  leaf_level q = let all : l.height ≡ l.height - 0 = omega arith in ap (λ n. node_below i l.container n q) all

  -- an entry by the block of its leaf
  by_leaf : (v : ℕ) → v < count → node 0 (v / fan) ≢ 0 → entry_at i l v ≡ child 0 (i (node 0 (v / fan))) (v % fan)
  unfolding container_entry
  by_leaf v low some =
      let test : nat_lt v count ≡ true = grind (arith, nat_tests, low) in
      ap (λ (b : Bool). if b then entry_in (lying leaf_at i (node_below i l.container l.height (v / fan))) (v % fan) else (0, 0)) test ∙ ap (λ (p : ℕ). entry_in (lying leaf_at i p) (v % fan)) (leaf_level (v / fan)) ∙ lies (node 0 (v / fan)) some
    where
      lies : (p : ℕ) → p ≢ 0 → entry_in (lying leaf_at i p) (v % fan) ≡ entry_in (shaped (leaf_at (i p))) (v % fan)
      lies zero some = absurd (some refl)
      lies (suc p) some = refl

  no_leaf : (v : ℕ) → (entry_at i l v).1 ≢ 0 → (v < count) × (node 0 (v / fan) ≢ 0)
  unfolding container_entry
  no_leaf v some = so (nat_lt v count) refl some
    where
      so : (b : Bool) → nat_lt v count ≡ b → (if b then entry_in (lying leaf_at i (node_below i l.container l.height (v / fan))) (v % fan) else (0, 0)).1 ≢ 0 → (v < count) × (node 0 (v / fan) ≢ 0)
      so true e some = ((let low : v < count = grind (arith, nat_tests, e) in low), λ none. some (ap (λ (p : ℕ). (entry_in (lying leaf_at i p) (v % fan)).1) (leaf_level (v / fan) ∙ none)))
      so false e some = absurd (some refl)

  wider : (level q : ℕ) → q < level_width count level → q / fan < level_width count (suc level)
  wider level q within = omega (arith, within)

  -- ---- from the pass

  module _ (root : is_room l.container ≡ true) (quiet : AreQuiet t i s l there) where
    fine : (level number : ℕ) → level ≤ l.height → number < level_width count level → node level number ≢ 0 → IsFineNode w l some_entries some_blocks level number (i (node level number))
    fine level number low within some = node_fine w l some_entries some_blocks level number (node level number) (i (node level number)) (quiet.nodes level number low within some)

    over : (level number : ℕ) → suc level ≤ l.height → node level number ≢ 0 → node (suc level) (number / fan) ≢ 0
    over level number low some none = some (no_parent level number low none)

    node_room : (level number : ℕ) → level ≤ l.height → number < level_width count level → node level number ≢ 0 → is_room (node level number) ≡ true
    node_room level number low within some = ⊎_elim
        (λ (below : level < l.height).
        let up = over level number (omega (arith, below)) some in
        let rest : number % fan < fan = omega arith in
        let here = by_parent level number (omega (arith, below)) up in
        let is = (fine (suc level) (number / fan) (omega (arith, below)) (wider level number within) up).children (number % fan) rest in
        subst (λ (p : ℕ). is_room p ≡ true) (sym here) (is.place (λ none. some (here ∙ none))))
        (λ (top : l.height ≤ level).
        let same : level ≡ l.height = omega (arith, top, low) in
        subst (λ n. is_room (node n number) ≡ true) (sym same) (⊎_elim
        (λ (first : number ≡ 0). subst (λ n. is_room (node l.height n) ≡ true) (sym first) (subst (λ (p : ℕ). is_room p ≡ true) (sym at_top) root))
        (λ (other : number ≢ 0). absurd (some (ap (λ n. node n number) same ∙ beside_top number other)))
        (cases_eq number 0)))
        (cases_lt level l.height)

    entry_room : (v : ℕ) → v < count → (entry_at i l v).1 ≢ 0 → is_room (entry_at i l v).0 ≡ true
    entry_room v low some =
        let leaf = (no_leaf v some).1 in
        let within : v / fan < level_width count 0 = omega (arith, low) in
        let rest : v % fan < fan = omega arith in
        let here = by_leaf v low leaf in
        let is = (fine 0 (v / fan) (omega arith) within leaf).children (v % fan) rest in
        subst (λ (e : ℕ × ℕ). is_room e.0 ≡ true) (sym here) (is.place (λ none. some (ap (λ (e : ℕ × ℕ). e.1) here ∙ none)))

    -- of a VVBN that has to have an entry

    covered : (v level : ℕ) → In v (wanted w l) → covers (wanted w l) level (v / fan ^ level) ≡ true
    covered v level one = to_any (λ u. u / fan ^ level == v / fan ^ level) v (wanted w l) one (same (v / fan ^ level))
      where
        same : (n : ℕ) → (n == n) ≡ true
        same n = grind (arith, nat_tests)

    differ : true ≡ false → ⊥
    differ e = cc

    down_to : (v level : ℕ) → In v (wanted w l) → suc level ≤ l.height → v / fan ^ suc level < level_width count level → node (suc level) (v / fan ^ suc level / fan) ≢ 0 → node level (v / fan ^ suc level) ≢ 0
    down_to v level one low within up none =
        let q : ℕ = v / fan ^ suc level in
        let rest : v / fan ^ suc level % fan < fan = omega arith in
        let whole : fan * (v / fan ^ suc level / fan) + v / fan ^ suc level % fan ≡ v / fan ^ suc level = omega arith in
        let is = (fine (suc level) (v / fan ^ suc level / fan) low (wider level (v / fan ^ suc level) within) up).children (v / fan ^ suc level % fan) rest in
        let here = by_parent level (v / fan ^ suc level) low up in
        differ (sym (covered v (suc level) one) ∙ sym (ap (covers (wanted w l) (suc level)) whole) ∙ is.hole (sym here ∙ none))

    root_some : l.container ≢ 0
    root_some none = never_zero w l some_entries some_blocks (subst (λ (p : ℕ). is_room p ≡ true) none root)

    leaf_there : (v : ℕ) → v < count → In v (wanted w l) → node 0 (v / fan) ≢ 0
    leaf_there v low one = so (nat_le (level_width count 0) fan) refl height_is
      where
        so : (b : Bool) → nat_le (level_width count 0) fan ≡ b → l.height ≡ (if b then 1 else 2) → node 0 (v / fan) ≢ 0
        so true fits height =
            let few : level_width count 0 ≤ fan = grind (arith, nat_tests, fits) in
            let first : v / fan ^ 1 / fan ≡ 0 = omega (arith, low, few) in
            let above : node 1 (v / fan ^ 1 / fan) ≢ 0 = λ none. root_some (sym at_top ∙ ap (λ n. node n 0) height ∙ ap (node 1) (sym first) ∙ none) in
            let within : v / fan ^ 1 < level_width count 0 = omega (arith, low) in
            down_to v 0 one (omega (arith, height)) within above
        so false fits height =
            let first : v / fan ^ 2 / fan ≡ 0 = omega (arith, low, few_entries) in
            let above : node 2 (v / fan ^ 2 / fan) ≢ 0 = λ none. root_some (sym at_top ∙ ap (λ n. node n 0) height ∙ ap (node 2) (sym first) ∙ none) in
            let wide : v / fan ^ 2 < level_width count 1 = omega (arith, low) in
            let middle = down_to v 1 one (omega (arith, height)) wide above in
            let same : v / fan ^ 2 ≡ v / fan ^ 1 / fan = omega arith in
            let within : v / fan ^ 1 < level_width count 0 = omega (arith, low) in
            down_to v 0 one (omega (arith, height)) within (subst (λ n. node 1 n ≢ 0) same middle)

    entry_there : (v : ℕ) → v < count → In v (wanted w l) → (entry_at i l v).1 ≢ 0
    entry_there v low one none =
        let leaf = leaf_there v low one in
        let within : v / fan < level_width count 0 = omega (arith, low) in
        let rest : v % fan < fan = omega arith in
        let whole : fan * (v / fan) + v % fan ≡ v / fan ^ 0 = omega arith in
        let is = (fine 0 (v / fan) (omega arith) within leaf).children (v % fan) rest in
        differ (sym (covered v 0 one) ∙ sym (ap (covers (wanted w l) 0) whole) ∙ is.hole (sym (ap (λ (e : ℕ × ℕ). e.1) (by_leaf v low leaf)) ∙ none))

    pub read_from : IsReadTree
    read_from = record {
      verdicts = λ level number low within some. (fine level number low within some).verdict;
      ends = λ level number low within some. ends_from w l some_entries some_blocks level number (i (node level number)) (omega (arith, low, low_height)) (fine level number low within some);
      nodes = node_room;
      held = entry_room;
      wanted_there = entry_there;
    }

  -- ---- and the other way round

  module _ (is : IsReadTree) where
    entry_child : (number c : ℕ) → c < fan → fan * number + c < count → node 0 number ≢ 0 → entry_at i l (fan * number + c) ≡ child 0 (i (node 0 number)) c
    entry_child number c inside low some =
        let div : (fan * number + c) / fan ≡ number = omega (arith, inside) in
        let rem : (fan * number + c) % fan ≡ c = omega (arith, inside) in
        by_leaf (fan * number + c) low (subst (λ n. node 0 n ≢ 0) (sym div) some) ∙ (λ k. child 0 (i (node 0 (div k))) (rem k))

    node_child : (level number c : ℕ) → suc level ≤ l.height → c < fan → node (suc level) number ≢ 0 → node level (fan * number + c) ≡ (child (suc level) (i (node (suc level) number)) c).0
    node_child level number c low inside some =
        let div : (fan * number + c) / fan ≡ number = omega (arith, inside) in
        let rem : (fan * number + c) % fan ≡ c = omega (arith, inside) in
        by_parent level (fan * number + c) low (subst (λ n. node (suc level) n ≢ 0) (sym div) some) ∙ (λ k. (child (suc level) (i (node (suc level) (div k))) (rem k)).0)

    -- the nodes over an entry that isn't a hole
    nodes_over : (v level : ℕ) → v < count → (entry_at i l v).1 ≢ 0 → level ≤ l.height → node level (v / fan ^ suc level) ≢ 0
    nodes_over v zero low some high none = (no_leaf v some).1 (ap (node 0) (first v) ∙ none)
      where
        first : (v : ℕ) → v / fan ≡ v / fan ^ 1
        first v = omega arith
    nodes_over v (suc zero) low some high none = (nodes_over v zero low some (omega arith)) (no_parent zero (v / fan ^ 1) high (ap (node 1) (next v) ∙ none))
      where
        next : (v : ℕ) → v / fan ^ 1 / fan ≡ v / fan ^ 2
        next v = omega arith
    nodes_over v (suc (suc zero)) low some high none = (nodes_over v (suc zero) low some (omega (arith, high))) (no_parent (suc zero) (v / fan ^ 2) high (ap (node 2) (next v) ∙ none))
      where
        next : (v : ℕ) → v / fan ^ 2 / fan ≡ v / fan ^ 3
        next v = omega arith
    nodes_over v (suc (suc (suc level))) low some high none = absurd (omega (arith, high, low_height))

    -- where nothing stands no VVBN has to have an entry
    no_cover : (level q : ℕ) → ((v : ℕ) → In v (wanted w l) → v / fan ^ level ≡ q → ⊥) → covers (wanted w l) level q ≡ false
    no_cover level q never = so (covers (wanted w l) level q) refl
      where
        so : (b : Bool) → covers (wanted w l) level q ≡ b → b ≡ false
        so true e = absurd (let one = from_any (λ v. v / fan ^ level == q) (wanted w l) e in never one.0 one.1.0 (same (one.0 / fan ^ level) one.1.1))
          where
            same : (n : ℕ) → (n == q) ≡ true → n ≡ q
            same n test = grind (arith, nat_tests, test)
        so false e = refl

    module _ (all_within : (v : ℕ) → In v (wanted w l) → v < count) where
      fine_entry : (number c : ℕ) → number < level_width count 0 → node 0 number ≢ 0 → c < fan → IsFineChild w l some_entries some_blocks 0 (fan * number + c) (child 0 (i (node 0 number)) c)
      fine_entry number c within some inside = record {
        place = λ there. let low = first there in subst (λ (e : ℕ × ℕ). is_room e.0 ≡ true) (entry_child number c inside low some)
            (is.held (fan * number + c) low (λ none. there (sym (ap (λ (e : ℕ × ℕ). e.1) (entry_child number c inside low some)) ∙ none)));
        first = λ there. let low = first there in whole (fan * number + c) low;
        hole = λ none. no_cover 0 (fan * number + c) (λ v one at.
            let low = all_within v one in
            let same : v ≡ fan * number + c = alone v (fan * number + c) at in
            is.wanted_there v low one (ap (λ n. (entry_at i l n).1) same ∙ ap (λ (e : ℕ × ℕ). e.1) (entry_child number c inside (subst (λ n. n < count) same low) some) ∙ none));
      }
        where
          first : (child 0 (i (node 0 number)) c).1 ≢ 0 → fan * number + c < count
          first there = once (fan * number + c) (first_from w l some_entries some_blocks 0 number (i (node 0 number)) (omega arith) (is.ends 0 number (omega arith) within some) c inside there)
            where
              once : (n : ℕ) → n * fan ^ 0 < count → n < count
              once n low = omega (arith, low)

          whole : (n : ℕ) → n < count → n * fan ^ 0 < count
          whole n low = omega (arith, low)

          alone : (v q : ℕ) → v / fan ^ 0 ≡ q → v ≡ q
          alone v q at = omega (arith, at)

      fine_below : (level number c : ℕ) → suc level ≤ l.height → number < level_width count (suc level) → node (suc level) number ≢ 0 → c < fan
          → IsFineChild w l some_entries some_blocks (suc level) (fan * number + c) (child (suc level) (i (node (suc level) number)) c)
      fine_below level number c low within some inside = record {
        place = λ there.
            let wide = below_width w l some_entries some_blocks level (fan * number + c) (omega (arith, low, low_height)) (first there) in
            let here = node_child level number c low inside some in
            subst (λ (p : ℕ). is_room p ≡ true) here (is.nodes level (fan * number + c) (omega (arith, low)) wide (λ none. there (sym here ∙ none)));
        first = first;
        hole = λ none. no_cover (suc level) (fan * number + c) (λ v one at.
            let least = all_within v one in
            nodes_over v level least (is.wanted_there v least one) (omega (arith, low)) (ap (node level) at ∙ node_child level number c low inside some ∙ none));
      }
        where
          first : (child (suc level) (i (node (suc level) number)) c).1 ≢ 0 → (fan * number + c) * fan ^ suc level < count
          first there = first_from w l some_entries some_blocks (suc level) number (i (node (suc level) number)) (omega (arith, low, low_height)) (is.ends (suc level) number low within some) c inside there

      quiet_node : (level number : ℕ) → level ≤ l.height → number < level_width count level → node level number ≢ 0 → IsFineNode w l some_entries some_blocks level number (i (node level number))
      quiet_node zero number low within some = record { verdict = is.verdicts 0 number low within some; children = λ c inside. fine_entry number c within some inside }
      quiet_node (suc level) number low within some = record { verdict = is.verdicts (suc level) number low within some; children = λ c inside. fine_below level number c low within some inside }

      pub read_to : AreQuiet t i s l there
      read_to = record { nodes = λ level number low within some. fine_node w l some_entries some_blocks level number (node level number) (i (node level number)) (quiet_node level number low within some) }
