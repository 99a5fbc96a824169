-- How many entries a volume has: those of the VVBNs that it holds, as many as it is charged for, and the delayed ones.
use Rattle.std.proofs.Common.{◌≡◌, ℕ, zero, suc, ◌+◌, ◌-◌, ◌*◌, ◌<◌, ◌≤◌, Bool, true, false, cond, not, ◌&&◌, inl, refl, sym, ap, subst, ◌∙◌, arith}
use Rattle.std.specs.Prelude.{Option, Some, None, IfSome, ◌==◌, nat_lt, nat_le, count_by, sum_by, if◌then◌else◌}
use Rattle.std.specs.List.{list_all, list_any, range_with_len}
use Rattle.std.specs.Option.{is_some, option_map, option_map_or}
use Rattle.std.proofs.lemmas.Bool.{and_from, and_parts, and_right, both_ways, or_left}
use Rattle.std.proofs.lemmas.Bool.Decides.{nat_tests}
use Rattle.std.proofs.lemmas.Option.{none-some, same_Some}
use Rattle.std.proofs.lemmas.List.Sums.{sum_by-cons}
use Rattle.fv_disk.specs.Shown.{Image}
use Rattle.fv_bits.proofs.Counts.{passing, passing-add, passing-suc, passing_same, none_pass}
use Rattle.fv_laws.proofs.Lists.{in_range}
use Rattle.fv_laws.proofs.Tests.{from_all}
use Rattle.fv_model.specs.Numbers.{most_snapshots}
use Rattle.fv_model.specs.Space.{charge, map_blocks}
use Rattle.fv_image.specs.HintRules.{is_splitting}
use Rattle.fv_image.specs.Mapped.{AreInSlots}
use Rattle.fv_image.specs.ReachRules.{has_map_blocks}
use Rattle.fv_image.specs.Seen.{own_blocks, roots_of, seen}
use Rattle.fv_image.specs.Soundness.{AreMaps, AreTables}
use Rattle.fv_image.specs.Views.{Head, Rooted, View, delayed, entry_count, is_active_map, is_delayed, is_held_in, is_own, map_slot, map_vvbn, slots, used_slots, volume_bit, vvbns}
use Rattle.fv_image.specs.Volumes.{volume_told, volume_with}
use Rattle.fv_image.proofs.Behind.{first_there}
use Rattle.fv_image.proofs.CountedCharge.{HasParentNumbers}
use Rattle.fv_image.proofs.Counts.{none_between}
use Rattle.fv_image.proofs.LabelNumbers.{label_numbers}
use Rattle.fv_image.proofs.OwnBlocks.{own_tests}
use Rattle.fv_image.proofs.OwnUses.{HasLabelNumbers}
use Rattle.fv_image.proofs.SoundFacts.{of_slot}
use Rattle.fv_container.specs.declared.entry.Entry.{Entry}
use Rattle.fv_container.specs.Chains.{container_at, own_entry, slot_count}
use Rattle.fv_container.specs.Mapped.{Mapped, entry_under}
use Rattle.fv_pool.specs.declared.pool.Pool.{Pool}
use Rattle.fv_pool.specs.Keeping.{Blocks}
use Rattle.fv_volume.specs.declared.state.VolumeState.{VolumeState}
use Rattle.fv_volume.specs.Files.{AreStates, IsState}
use Rattle.fv_volume.specs.Labels.{label_said}
use Rattle.fv_volume.specs.Loading.{Houses}
use Rattle.fv_volume.specs.States.{States, head_in, placed_in, state_at, view_over}
use Rattle.fv_volume.specs.Trees.{no_trees}
use Rattle.fv_volume.proofs.Labels.{label_head}
use Rattle.fv_volumes.proofs.Standings.{active_is}
use Rattle.fv_volumes.proofs.Told.{head_at, head_there}
use Rattle.fv_cp.proofs.OwnCharged.{all_pass, own_charged}
use Rattle.fv_aggregate.specs.Delayed.{held_by, held_in}
use Rattle.fv_aggregate.proofs.UnderEntries.{entries_at, entries_of}
use Rattle.fv_volume.proofs.TablesOf.{head_whole}

-- ---- tests of ranges

-- what passes one test passes just one of three others
of_three : (p q r t : ℕ → Bool) (a n : ℕ) → ((k : ℕ) → cond {A = ℕ} (p k) 1 0 ≡ cond (q k) 1 0 + cond (r k) 1 0 + cond (t k) 1 0) → passing p a n ≡ passing q a n + passing r a n + passing t a n
of_three p q r t a zero each = refl
of_three p q r t a (suc n) each = omega (arith, passing-suc p a n, passing-suc q a n, passing-suc r a n, passing-suc t a n, each a, of_three p q r t (a + 1) n each)

-- the active map has just so many blocks
active_count : (h : Head) → count_by (is_active_map h) (vvbns h.span) ≡ map_blocks h.span
unfolding vvbns
active_count h =
    let p = is_active_map h in
    let m = map_blocks h.span in
    let below = none_between p 0 h.span (λ k low high. let test : nat_le h.span k ≡ false = grind (arith, nat_tests, high) in ap (λ (t : Bool). t && nat_lt k (h.span + m)) test) in
    let inside = all_pass p h.span m (λ k low high. let least : nat_le h.span k ≡ true = grind (arith, nat_tests, low) in let most : nat_lt k (h.span + m) ≡ true = grind (arith, nat_tests, high) in and_from (nat_le h.span k) _ least most) in
    let above = none_pass p (h.span + m) (most_snapshots * m) (λ k from. let test : nat_lt k (h.span + m) ≡ false = grind (arith, nat_tests, from) in and_right (nat_le h.span k) _ test) in
    let sizes : entry_count h.span ≡ h.span + (m + most_snapshots * m) = omega arith in
    let whole : count_by p (vvbns h.span) ≡ passing p 0 (h.span + (m + most_snapshots * m)) = ap (passing p 0) sizes in
    let start : 0 + h.span ≡ h.span = omega arith in
    let moved = ap (λ (a : ℕ). passing p a (m + most_snapshots * m)) start in
    omega (arith, whole, moved, passing-add p 0 h.span (m + most_snapshots * m), passing-add p h.span m (most_snapshots * m), below, inside, above)

-- ---- one volume

module _ (w : View) (s : ℕ) (h : Head) (small : s < 64) (there : w.head s ≡ Some h) (tables : AreTables (seen w)) (maps : AreMaps w) (numbers : HasLabelNumbers h) (order : AreInSlots h) (parents : HasParentNumbers w h.base) (whole : is_splitting h.base ≡ false) where
  some_blocks : 0 < map_blocks h.span
  some_blocks = let span = numbers.span in omega (arith, span)

  abbrev blocks_there : ℕ × Rooted → Bool
  blocks_there r = list_all (λ k. is_some (w.entry s (map_vvbn h.span r.0 k))) (range_with_len 0 (map_blocks h.span))

  -- each block of the active map is there
  map_there : (j : ℕ) → j < map_blocks h.span → is_some (w.entry s (map_vvbn h.span 0 j)) ≡ true
  unfolding has_map_blocks
  map_there j within =
      let own : ℕ → Head → Bool = λ s h. list_all (λ (b : ℕ × ℕ). is_some (w.entry s b.0)) (own_blocks w.version h) in
      let all : list_all blocks_there (roots_of h) ≡ true = sym (own_tests (λ b. is_some (w.entry s b.0)) w.version h)
      ∙ subst (λ (o : Option Head). option_map_or (own s) o true ≡ true) there (of_slot (λ s. option_map_or (own s) (w.head s) true) s maps.there small) in
      from_all (λ k. is_some (w.entry s (map_vvbn h.span 0 k))) (range_with_len 0 (map_blocks h.span)) (from_all blocks_there (roots_of h) all (0, h.active) (inl refl)) j (in_range 0 (map_blocks h.span) j (omega arith) (omega (arith, within)))

  -- a VVBN of the active map is held, and has an entry
  active_held : (v : ℕ) → is_active_map h v ≡ true → (is_held_in w s h v ≡ true) × (is_some (w.entry s v) ≡ true)
  unfolding is_held_in
  active_held v is =
      let parts = and_parts (nat_le h.span v) (nat_lt v (h.span + map_blocks h.span)) is in
      let low : h.span ≤ v = grind (arith, nat_tests, parts.0) in
      let high : v < h.span + map_blocks h.span = grind (arith, nat_tests, parts.1) in
      let index : v - h.span < map_blocks h.span = omega (arith, low, high) in
      let past : nat_lt v h.span ≡ false = grind (arith, nat_tests, low) in
      let zero_slot : map_slot h.span v ≡ 0 = first_there h.span v low high in
      let first : (0 == map_slot h.span v) ≡ true = grind (arith, nat_tests, zero_slot) in
      let at : map_vvbn h.span 0 (v - h.span) ≡ v = omega (arith, low) in (
        ap (λ (b : Bool). if b then list_any (λ slot. volume_bit w s h.span slot v) (used_slots h) else list_any (λ slot. slot == map_slot h.span v) (used_slots h)) past
            ∙ or_left (0 == map_slot h.span v) _ first,
        subst (λ (n : ℕ). is_some (w.entry s n) ≡ true) at (map_there (v - h.span) index),
      )

  -- An entry is a volume's own, is delayed, or is a block of the active map.
  entries_are : count_by (λ v. is_some (w.entry s v)) (vvbns h.span) ≡ charge (volume_told w s h) + map_blocks h.span + count_by (is_delayed w s h) (vvbns h.span)
  unfolding vvbns
  entries_are =
      let three = of_three (λ v. is_some (w.entry s v)) (is_own w s h) (is_delayed w s h) (is_active_map h) 0 (entry_count h.span) (λ k. one (is_some (w.entry s k)) (is_held_in w s h k) (is_active_map h k) (λ on. active_held k on)) in
      omega (arith, three, own_charged w s h small there tables maps numbers order parents whole, active_count h)
    where
      one : (e held active : Bool) → (active ≡ true → (held ≡ true) × (e ≡ true)) → cond {A = ℕ} e 1 0 ≡ cond (e && (held && not active)) 1 0 + cond (e && not held) 1 0 + cond active 1 0
      one true true true from = refl
      one true true false from = refl
      one true false true from = absurd (both_ways false refl (from refl).0)
      one true false false from = refl
      one false held true from = absurd (both_ways false refl (from refl).1)
      one false held false from = refl

-- ---- all volumes

-- two sums as one
both_sums : (a b c : ℕ → ℕ) (from count : ℕ) → ((k : ℕ) → from ≤ k → k < from + count → a k ≡ b k + c k) → sum_by a (range_with_len from count) ≡ sum_by b (range_with_len from count) + sum_by c (range_with_len from count)
both_sums a b c from zero each = refl
both_sums a b c from (suc count) each =
    let rest = range_with_len (from + 1) count in
    omega (arith, sum_by-cons a from rest, sum_by-cons b from rest, sum_by-cons c from rest, each from (omega arith) (omega arith), both_sums a b c (from + 1) count (λ k low high. each k (omega (arith, low)) (omega (arith, high))))

-- a hole has no block
placed_some : (kept : Blocks) (i : Image) (o : Option Entry) → is_some (placed_in kept i o) ≡ is_some o
placed_some kept i None = refl
placed_some kept i (Some e) = refl

module _ (pool : Pool) (states : States) (i : Image) (are : AreStates (view_over pool states i) no_trees states) (tables : AreTables (seen (view_over pool states i))) (maps : AreMaps (view_over pool states i))
    (housed : (s : ℕ) → Houses (state_at states s) (container_at pool.containers s)) where
  abbrev w : View
  w = view_over pool states i

  abbrev delayed_at : ℕ → ℕ
  delayed_at s = option_map_or (λ h. count_by (is_delayed w s h) (vvbns h.span)) (w.head s) 0

  entry_is : (s v : ℕ) → is_some (w.entry s v) ≡ is_some (own_entry (container_at pool.containers s) v)
  unfolding view_over
  entry_is s v = placed_some pool.kept i (own_entry (container_at pool.containers s) v)

  -- each label has its numbers
  label_has : (s : ℕ) (h : Head) → w.head s ≡ Some h → HasLabelNumbers h
  label_has s h there = by (state_at states s) refl (are.each s)
    where
      by : (o : Option VolumeState) → state_at states s ≡ o → IfSome o (IsState w no_trees s) → HasLabelNumbers h
      by None is none = absurd (none-some h (sym (head_at pool states i s ∙ ap (option_map head_in) is) ∙ there))
      by (Some x) is state =
          let label = state.labelled in
          let head : head_in x ≡ h = same_Some (head_in x) h (sym (head_there pool states i s x is) ∙ there) in
          subst HasLabelNumbers (label_head x label.named label.snapshots 0 1 ∙ head) (label_numbers (label_said x 0 1) (label.label 0 1 (omega arith) (omega arith) (omega arith)))

  slot_entries : (s : ℕ) → s < 64 → entries_at pool states s ≡ held_by (state_at states s) + delayed_at s
  unfolding volume_with vvbns
  slot_entries s inside = by (state_at states s) refl (container_at pool.containers s) refl (housed s)
    where
      none_at : state_at states s ≡ None → delayed_at s ≡ 0
      none_at e = ap (λ (o : Option Head). option_map_or (λ h. count_by (is_delayed w s h) (vvbns h.span)) o 0) (head_at pool states i s ∙ ap (option_map head_in) e)

      some_at : (x : VolumeState) → state_at states s ≡ Some x → delayed_at s ≡ count_by (is_delayed w s (head_in x)) (vvbns x.span)
      some_at x e = ap (λ (o : Option Head). option_map_or (λ h. count_by (is_delayed w s h) (vvbns h.span)) o 0) (head_there pool states i s x e)

      of_state : (x : VolumeState) → state_at states s ≡ Some x → IsState w no_trees s x → count_by (λ v. is_some (w.entry s v)) (vvbns x.span) ≡ x.ledger.charge + map_blocks x.span + count_by (is_delayed w s (head_in x)) (vvbns x.span)
      of_state x e state =
          let label = state.labelled in
          let there = head_there pool states i s x e in
          let whole : is_splitting (head_in x).base ≡ false = head_whole s x label in
          let same = entries_are w s (head_in x) inside there tables maps (label_has s (head_in x) there) label.snapshots.slots (λ b g based parent. label_has b.parent g parent) whole in
          let charged : x.ledger.charge ≡ charge (volume_told w s (head_in x)) = state.ledger.charged ∙ ap charge (ap (volume_with w s (head_in x)) (active_is w s (head_in x) there)) in
          omega (arith, same, charged)

      with_map : (x : VolumeState) → state_at states s ≡ Some x → (m : Mapped) → container_at pool.containers s ≡ Some m → passing (λ v. is_some (entry_under m v)) 0 (entry_count x.span) ≡ count_by (λ v. is_some (w.entry s v)) (vvbns x.span)
      with_map x e m lies = passing_same (λ v. is_some (entry_under m v)) (λ v. is_some (w.entry s v)) 0 0 (entry_count x.span) (λ j lt. sym (entry_is s (0 + j) ∙ ap (λ (c : Option Mapped). is_some (own_entry c (0 + j))) lies))

      by : (o : Option VolumeState) → state_at states s ≡ o → (c : Option Mapped) → container_at pool.containers s ≡ c → Houses (state_at states s) (container_at pool.containers s) → entries_at pool states s ≡ held_by (state_at states s) + delayed_at s
      by None e c lies house =
          let none : entries_at pool states s ≡ 0 = ap (λ (o : Option VolumeState). entries_of o (container_at pool.containers s)) e in
          let held : held_by (state_at states s) ≡ 0 = ap held_by e in
          omega (arith, none, held, none_at e)
      by (Some x) e None lies house = absurd (subst (Houses (Some x)) lies (subst (λ (o : Option VolumeState). Houses o (container_at pool.containers s)) e house))
      by (Some x) e (Some m) lies house =
          let some : entries_at pool states s ≡ passing (λ v. is_some (entry_under m v)) 0 (entry_count x.span) = (λ k. entries_of (e k) (lies k)) in
          let held : held_by (state_at states s) ≡ x.ledger.charge + map_blocks x.span = ap held_by e in
          omega (arith, some, held, with_map x e m lies, some_at x e, of_state x e (subst (λ (o : Option VolumeState). IfSome o (IsState w no_trees s)) e (are.each s)))

  -- The entries of all volumes are those that they hold, and the delayed ones.
  pub held_and_delayed : sum_by (entries_at pool states) (range_with_len 0 64) ≡ held_in states slot_count + delayed w
  unfolding delayed slots
  held_and_delayed = both_sums (entries_at pool states) (λ s. held_by (state_at states s)) delayed_at 0 64 (λ s low high. slot_entries s (omega (arith, high)))
