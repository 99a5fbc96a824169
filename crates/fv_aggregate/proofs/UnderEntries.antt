-- The blocks that are held beside labels and nodes are those under entries, of which each has one.
use Rattle.std.proofs.Common.{◌≡◌, ◌≢◌, ℕ, zero, suc, ◌+◌, ◌-◌, ◌<◌, ◌≤◌, Bool, true, false, cond, not, ◌&&◌, ◌||◌, length, refl, sym, ap, subst, ◌∙◌, ⊎_elim, arith}
use Rattle.std.specs.Prelude.{Option, Some, None, IfSome, ◌==◌, nat_eq, sum_by}
use Rattle.std.specs.List.{list_any, range_with_len}
use Rattle.std.specs.Option.{is_some}
use Rattle.std.proofs.lemmas.Bool.{and_from, and_parts, and_right, both_ways, cases_eq, not-true, or_cases, or_left, or_right}
use Rattle.std.proofs.lemmas.Bool.Decides.{nat_tests}
use Rattle.std.proofs.lemmas.List.Sums.{sum_by-cons}
use Rattle.fv_disk.specs.Shown.{Image}
use Rattle.fv_bits.specs.Members.{is_member}
use Rattle.fv_bits.proofs.Counts.{passing, passing-add, passing-suc, passing_same}
use Rattle.fv_laws.proofs.Tests.{iff}
use Rattle.fv_image.specs.Views.{entry_count}
use Rattle.fv_image.proofs.Counts.{none_between, same_sum}
use Rattle.fv_container.specs.declared.entry.Entry.{Entry}
use Rattle.fv_container.specs.Chains.{map_in, paged_at, slot_count}
use Rattle.fv_container.specs.Mapped.{Mapped, entry_under}
use Rattle.fv_container.specs.Paged.{Paged}
use Rattle.fv_container.specs.Spelled.{is_at, names}
use Rattle.fv_container.proofs.Leading.{any_in_range, range_has}
use Rattle.fv_root.specs.declared.find.Found.{Found}
use Rattle.fv_pool.specs.declared.pool.Pool.{Pool}
use Rattle.fv_volume.specs.declared.state.VolumeState.{VolumeState}
use Rattle.fv_volume.specs.States.{States, state_at}
use Rattle.fv_volume.specs.Stored.{AreApartIn, AreSpacedIn, has_block, leads, place_at, place_in}
use Rattle.fv_volumes.specs.UnderRoot.{IsLentAt}
use Rattle.fv_volumes.proofs.SlotBlocks.{at_is}
use Rattle.fv_cp.proofs.OwnCharged.{passing_either}
use Rattle.fv_container.specs.Chains.{container_at}
use Rattle.fv_aggregate.specs.Delayed.{blocks_under, is_frame, is_framed}

-- ---- tests of ranges

-- where no number of a range passes, none is found
none_in_range : (p : ℕ → Bool) (a n : ℕ) → ((k : ℕ) → a ≤ k → k < a + n → p k ≡ false) → list_any p (range_with_len a n) ≡ false
none_in_range p a n none = so (list_any p (range_with_len a n)) refl
  where
    so : (t : Bool) → list_any p (range_with_len a n) ≡ t → t ≡ false
    so false e = refl
    so true e = let k = any_in_range p a n e in absurd (both_ways (p k.0) (none k.0 k.1 k.2) k.3)

-- tests of which each block passes one at most
parts_apart : (p : ℕ → ℕ → Bool) (a n size : ℕ) → ((s k b : ℕ) → a ≤ s → s < k → k < a + n → p s b ≡ true → p k b ≡ false)
    → passing (λ b. list_any (λ s. p s b) (range_with_len a n)) 0 size ≡ sum_by (λ s. passing (p s) 0 size) (range_with_len a n)
parts_apart p a zero size apart = none_between (λ b. false) 0 size (λ k low high. refl)
parts_apart p a (suc n) size apart =
    let two = passing_either (p a) (λ b. list_any (λ s. p s b) (range_with_len (a + 1) n)) 0 size (λ b here. none_in_range (λ s. p s b) (a + 1) n (λ k low high. apart a k b (omega arith) (omega (arith, low)) (omega (arith, high)) here)) in
    omega (
      arith,
      two,
      sum_by-cons (λ s. passing (p s) 0 size) a (range_with_len (a + 1) n),
      parts_apart p (a + 1) n size (λ s k b low order high. apart s k b (omega (arith, low)) order (omega (arith, high))),
    )

-- ---- one entry

-- a place is one block
at_once : (p size : ℕ) → p ≢ 0 → p < size → passing (λ b. is_at b p) 0 size ≡ 1
at_once p size some within =
    let f : ℕ → Bool = λ b. is_at b p in
    let rest : ℕ = size - p - 1 in
    let whole : passing f 0 size ≡ passing f 0 (p + suc rest) = ap (passing f 0) (let e : size ≡ p + suc rest = omega (arith, within) in e) in
    let start : passing f (0 + p) (suc rest) ≡ passing f p (suc rest) = ap (λ (k : ℕ). passing f k (suc rest)) (let e : 0 + p ≡ p = omega arith in e) in
    let before = none_between f 0 p (λ k low high. other k (omega (arith, high))) in
    let behind = none_between f (p + 1) rest (λ k low high. other k (omega (arith, low))) in
    let here : cond {A = ℕ} (f p) 1 0 ≡ 1 = ap (λ (t : Bool). cond {A = ℕ} t 1 0) itself in
    omega (arith, whole, passing-add f 0 p (suc rest), start, before, passing-suc f p rest, behind, here)
  where
    other : (k : ℕ) → k ≢ p → is_at k p ≡ false
    other k differs = so (is_at k p) refl
      where
        so : (t : Bool) → is_at k p ≡ t → t ≡ false
        so false e = refl
        so true e = absurd (differs (at_is k p e).0)

    itself : is_at p p ≡ true
    itself = let first : nat_eq p p ≡ true = grind (arith, nat_tests) in let second : not (p == 0) ≡ true = grind (arith, nat_tests, some) in and_from (nat_eq p p) (not (p == 0)) first second

-- no block is at no place
at_none : (b : ℕ) → is_at b 0 ≡ false
at_none b = and_right (nat_eq b 0) (not (0 == 0)) refl

-- ---- one volume

-- its entries, but for holes
abbrev pub entries_of : Option VolumeState → Option Mapped → ℕ
entries_of None c = 0
entries_of (Some x) None = 0
entries_of (Some x) (Some map) = passing (λ v. is_some (entry_under map v)) 0 (entry_count x.span)

-- whether one of them leads to a block
abbrev leads_in : Option VolumeState → Option Mapped → ℕ → Bool
leads_in None c b = false
leads_in (Some x) None b = false
leads_in (Some x) (Some map) b = leads map (entry_count x.span) b

-- each leads to a block of its own
leads_count : (x : VolumeState) (map : Mapped) (size : ℕ) → AreApartIn x map → ((b : ℕ) → leads map (entry_count x.span) b ≡ true → b < size)
    → passing (leads map (entry_count x.span)) 0 size ≡ passing (λ v. is_some (entry_under map v)) 0 (entry_count x.span)
unfolding leads
leads_count x map size is within =
    parts_apart (λ v b. is_at b (place_in (entry_under map v))) 0 (entry_count x.span) size (λ v w b low order high here. apart v w b order (omega (arith, high)) (at_is b (place_at map v) here))
    ∙ same_sum (λ v. passing (λ b. is_at b (place_in (entry_under map v))) 0 size) (λ v. cond {A = ℕ} (is_some (entry_under map v)) 1 0) 0 (entry_count x.span) (λ v low high. each v (omega (arith, high)) (entry_under map v) refl)
  where
    apart : (v w b : ℕ) → v < w → w < entry_count x.span → (b ≡ place_at map v) × (place_at map v ≢ 0) → is_at b (place_at map w) ≡ false
    apart v w b order high first = so (is_at b (place_at map w)) refl
      where
        so : (t : Bool) → is_at b (place_at map w) ≡ t → t ≡ false
        so false e = refl
        so true e = absurd (is.entries v w order high first.1 (sym first.0 ∙ (at_is b (place_at map w) e).0))

    each : (v : ℕ) → v < entry_count x.span → (o : Option Entry) → entry_under map v ≡ o → passing (λ b. is_at b (place_in (entry_under map v))) 0 size ≡ cond {A = ℕ} (is_some (entry_under map v)) 1 0
    each v low None e = subst (λ (o : Option Entry). passing (λ b. is_at b (place_in o)) 0 size ≡ cond {A = ℕ} (is_some o) 1 0) (sym e) (none_between (λ b. is_at b 0) 0 size (λ b low high. at_none b))
    each v low (Some y) e = subst (λ (o : Option Entry). passing (λ b. is_at b (place_in o)) 0 size ≡ cond {A = ℕ} (is_some o) 1 0) (sym e) (at_once y.pvbn size some (within y.pvbn there))
      where
        least : 1 ≤ y.pvbn
        least = subst (λ (o : Option Entry). IfSome o (λ e. 1 ≤ e.pvbn)) e (is.some v)

        some : y.pvbn ≢ 0
        some = omega (arith, least)

        there : list_any (λ v. is_at y.pvbn (place_in (entry_under map v))) (range_with_len 0 (entry_count x.span)) ≡ true
        there = range_has (λ v. is_at y.pvbn (place_in (entry_under map v))) v 0 (entry_count x.span) (omega arith) (omega (arith, low)) (ap (λ (o : Option Entry). is_at y.pvbn (place_in o)) e ∙ itself)
          where
            itself : is_at y.pvbn y.pvbn ≡ true
            itself = let first : nat_eq y.pvbn y.pvbn ≡ true = grind (arith, nat_tests) in let second : not (y.pvbn == 0) ≡ true = grind (arith, nat_tests, some) in and_from (nat_eq y.pvbn y.pvbn) (not (y.pvbn == 0)) first second

-- its blocks are its label and nodes, and those that its entries lead to
parts_of : (i : Image) (found : Found) (s : ℕ) (o : Option VolumeState) (c : Option Paged) → IsLentAt i found s o c → (b : ℕ) → has_block o (map_in c) b ≡ (is_frame o c b || leads_in o (map_in c) b)
parts_of i found s None None lent b = sym (ap (λ (t : Bool). (t || false) || false) (at_none b))
parts_of i found s None (Some paged) lent b = absurd lent
parts_of i found s (Some x) None lent b = absurd lent
parts_of i found s (Some x) (Some paged) lent b = grouped (is_at b x.label) (names paged.map.tree b) (leads paged.map (entry_count x.span) b)
  where
    grouped : (a n l : Bool) → (a || (n || l)) ≡ ((a || n) || l)
    grouped true n l = refl
    grouped false n l = refl

-- and these are other ones
frame_apart : (i : Image) (found : Found) (s : ℕ) (o : Option VolumeState) (c : Option Paged) → IsLentAt i found s o c → (b : ℕ) → is_frame o c b ≡ true → leads_in o (map_in c) b ≡ false
frame_apart i found s None None lent b here = refl
frame_apart i found s None (Some paged) lent b here = absurd lent
frame_apart i found s (Some x) None lent b here = absurd lent
frame_apart i found s (Some x) (Some paged) lent b here = ⊎_elim
    (λ (label : is_at b x.label ≡ true). ap (leads paged.map (entry_count x.span)) (at_is b x.label label).0 ∙ lent.apart.label)
    (λ (node : names paged.map.tree b ≡ true). lent.apart.nodes b node)
    (or_cases (is_at b x.label) (names paged.map.tree b) here)

-- ---- all volumes

-- the entries of the volume of a slot, but for holes
abbrev pub entries_at : Pool → States → ℕ → ℕ
entries_at pool states s = entries_of (state_at states s) (container_at pool.containers s)

module _ (i : Image) (found : Found) (blocks : ℕ) (pool : Pool) (states : States) (spaced : AreSpacedIn blocks pool.map.next (state_at states) (container_at pool.containers))
    (lent : (s : ℕ) → s < 64 → IsLentAt i found s (state_at states s) (paged_at pool.containers s)) (long : length pool.map.next ≡ blocks) where
  abbrev frame_at : ℕ → ℕ → Bool
  frame_at s b = is_frame (state_at states s) (paged_at pool.containers s) b

  abbrev leads_at : ℕ → ℕ → Bool
  leads_at s b = leads_in (state_at states s) (container_at pool.containers s) b

  abbrev has_at : ℕ → ℕ → Bool
  has_at s b = has_block (state_at states s) (container_at pool.containers s) b

  has_is : (s b : ℕ) → s < 64 → has_at s b ≡ (frame_at s b || leads_at s b)
  has_is s b inside = parts_of i found s (state_at states s) (paged_at pool.containers s) (lent s inside) b

  led : (s b : ℕ) → s < 64 → leads_at s b ≡ true → has_at s b ≡ true
  led s b inside there = has_is s b inside ∙ or_right (frame_at s b) (leads_at s b) there

  framed : (s b : ℕ) → s < 64 → frame_at s b ≡ true → has_at s b ≡ true
  framed s b inside there = has_is s b inside ∙ or_left (frame_at s b) (leads_at s b) there

  -- a block that is held and is no label and no node is under an entry
  under_is : (b : ℕ) → (is_member pool.map.next b && not (is_framed states pool.containers slot_count b)) ≡ list_any (λ s. leads_at s b) (range_with_len 0 64)
  under_is b = iff _ _ there back
    where
      there : (is_member pool.map.next b && not (is_framed states pool.containers slot_count b)) ≡ true → list_any (λ s. leads_at s b) (range_with_len 0 64) ≡ true
      there is =
          let parts = and_parts (is_member pool.map.next b) (not (is_framed states pool.containers slot_count b)) is in
          let one = spaced.set b parts.0 in
          ⊎_elim
          (λ (frame : frame_at one.0 b ≡ true). absurd (both_ways (is_framed states pool.containers slot_count b) (not-true (is_framed states pool.containers slot_count b) parts.1) (range_has (λ s. frame_at s b) one.0 0 64 (omega arith) (omega (arith, one.1)) frame)))
          (λ (entry : leads_at one.0 b ≡ true). range_has (λ s. leads_at s b) one.0 0 64 (omega arith) (omega (arith, one.1)) entry)
          (or_cases (frame_at one.0 b) (leads_at one.0 b) (sym (has_is one.0 b one.1) ∙ one.2))

      back : list_any (λ s. leads_at s b) (range_with_len 0 64) ≡ true → (is_member pool.map.next b && not (is_framed states pool.containers slot_count b)) ≡ true
      back is =
          let one = any_in_range (λ s. leads_at s b) 0 64 is in
          let inside : one.0 < 64 = omega (arith, one.2) in
          let here = led one.0 b inside one.3 in
          and_from (is_member pool.map.next b) (not (is_framed states pool.containers slot_count b)) (spaced.held one.0 b inside here).0
          (ap not (none_in_range (λ s. frame_at s b) 0 64 (λ k low high. off k (omega (arith, high)) one.0 inside one.3 here (frame_at k b) refl)))
        where
          off : (k : ℕ) → k < 64 → (s : ℕ) → s < 64 → leads_at s b ≡ true → has_at s b ≡ true → (t : Bool) → frame_at k b ≡ t → t ≡ false
          off k inside s small entry here false e = refl
          off k inside s small entry here true e = ⊎_elim
              (λ (same : k ≡ s). absurd (both_ways (leads_at s b) (frame_apart i found s (state_at states s) (paged_at pool.containers s) (lent s small) b (subst (λ (n : ℕ). frame_at n b ≡ true) same e)) entry))
              (λ (other : k ≢ s). absurd (spaced.apart k s b inside small other (framed k b inside e) here))
              (cases_eq k s)

  slot_count_is : (s : ℕ) → s < 64 → passing (leads_at s) 0 (length pool.map.next) ≡ entries_at pool states s
  slot_count_is s inside = by (state_at states s) (paged_at pool.containers s) (lent s inside) (λ b there. let lies = (spaced.held s b inside (led s b inside there)).1 in omega (arith, lies.1, long))
    where
      by : (o : Option VolumeState) (c : Option Paged) → IsLentAt i found s o c → ((b : ℕ) → leads_in o (map_in c) b ≡ true → b < length pool.map.next)
          → passing (leads_in o (map_in c)) 0 (length pool.map.next) ≡ entries_of o (map_in c)
      by None c is within = none_between (λ b. false) 0 (length pool.map.next) (λ k low high. refl)
      by (Some x) None is within = none_between (λ b. false) 0 (length pool.map.next) (λ k low high. refl)
      by (Some x) (Some paged) is within = leads_count x paged.map (length pool.map.next) is.apart within

  -- Each block that is held, but for labels and nodes, is under one entry.
  pub under_entries : blocks_under pool states ≡ sum_by (entries_at pool states) (range_with_len 0 64)
  unfolding blocks_under
  under_entries =
      passing_same (λ b. is_member pool.map.next b && not (is_framed states pool.containers slot_count b)) (λ b. list_any (λ s. leads_at s b) (range_with_len 0 64)) 0 0 (length pool.map.next) (λ j lt. under_is (0 + j))
      ∙ parts_apart leads_at 0 64 (length pool.map.next) (λ s k b low order high here. apart s k b order (omega (arith, high)) here (leads_at k b) refl)
      ∙ same_sum (λ s. passing (leads_at s) 0 (length pool.map.next)) (entries_at pool states) 0 64 (λ s low high. slot_count_is s (omega (arith, high)))
    where
      apart : (s k b : ℕ) → s < k → k < 64 → leads_at s b ≡ true → (t : Bool) → leads_at k b ≡ t → t ≡ false
      apart s k b order high here false e = refl
      apart s k b order high here true e = absurd (spaced.apart s k b (omega (arith, order, high)) high (omega (arith, order)) (led s b (omega (arith, order, high)) here) (led k b high e))
