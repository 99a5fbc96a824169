-- The regions that have entries.
use Rattle.std.proofs.Common.{◌≡◌, ◌≢◌, ◌<◌, ◌≤◌, ◌+◌, ◌*◌, ◌/◌, ◌⊎◌, ℕ, Bool, true, false, List, length, get_or, set, replicate, Option, Some, None, IfSome, IfNone, refl, sym, ap, subst, ◌∙◌, inl, inr, arith, ⊎_elim, get_or-set_same, get_or-set_other, length-set}
use Rattle.std.specs.Prelude.{count_by, nat_lt}
use Rattle.std.specs.Option.{is_some}
use Rattle.std.specs.List.{range_with_len}
use Rattle.std.proofs.lemmas.Bool.{cases_eq, cases_lt, true≢false}
use Rattle.std.proofs.lemmas.Bool.Decides.{nat_tests}
use Rattle.std.proofs.lemmas.List.{get_or_past, length-replicate}
use Rattle.fv_bits.specs.Members.{HasNoneFrom, IsFirstMember, is_member}
use Rattle.fv_bits.proofs.Counts.{none_pass, passing_same}
use Rattle.fv_bits.proofs.Laws.{is_member-replicate}
use Rattle.fv_image.specs.Containers.{level_width}
use Rattle.fv_image.proofs.Counts.{none_between}
use Rattle.fv_container.specs.declared.entry.Entry.{Entry}
use Rattle.fv_container.specs.Kept.{AreOccupied, IsKept, has_number, paged_of}
use Rattle.fv_container.specs.Loading.{HasNoRegionFrom, IsNextRegion, entries_in_region, has_entry_at}
use Rattle.fv_container.specs.Mapped.{Mapped, grown}
use Rattle.fv_container.specs.Paged.{Leaves, Paged, is_sure}
use Rattle.fv_container.proofs.Counting.{entries_out}

-- numbers of a region that are members as they were
same_number : (old new : List Bool) (k : ℕ) → ((c : ℕ) → c < 256 → get_or new (256 * k + c) false ≡ get_or old (256 * k + c) false) → has_number new k ≡ has_number old k
same_number old new k same = ap (nat_lt 0) (passing_same (λ v. get_or new v false) (λ v. get_or old v false) (256 * k) (256 * k) 256 same)

-- at first there is none
pub none_occupied : (count n room : ℕ) (used occupied : List Bool) → level_width (grown count) 0 ≤ room → used ≡ replicate n false → occupied ≡ replicate room false → AreOccupied count used occupied
unfolding is_member
none_occupied count n room used occupied enough is_used is_occupied = record {
  room = omega (arith, enough, ap (λ (l : List Bool). length l) is_occupied, length-replicate room false);
  within = λ k is. absurd (true≢false (sym is ∙ clear k));
  exact = λ k lt.
      let none : count_by (λ v. get_or used v false) (range_with_len (256 * k) 256) ≡ 0 =
      none_pass (λ v. get_or used v false) (256 * k) 256 (λ v from. ap (λ (l : List Bool). get_or l v false) is_used ∙ is_member-replicate n v) in
      let test : nat_lt 0 0 ≡ false = grind (arith, nat_tests) in
      clear k ∙ sym (ap (nat_lt 0) none ∙ test);
}
  where
    clear : (k : ℕ) → get_or occupied k false ≡ false
    clear k = ap (λ (l : List Bool). get_or l k false) is_occupied ∙ is_member-replicate room k

-- the regions that there may be have room
pub room_for : (count k : ℕ) (used occupied : List Bool) → AreOccupied count used occupied → 256 * k < count → k < length occupied
room_for count k used occupied was inside = omega (arith, was.room, inside)

-- numbers of one region change
pub occupied_after : (count r : ℕ) (old new occupied given : List Bool) → AreOccupied count old occupied → 256 * r < count → ((v : ℕ) → (v < 256 * r) ⊎ (256 * r + 256 ≤ v) → get_or new v false ≡ get_or old v false)
    → given ≡ set occupied r (has_number new r) → AreOccupied count new given
occupied_after count r old new occupied given was inside others is = record {
  room = omega (arith, was.room, ap (λ (l : List Bool). length l) is, length-set occupied r (has_number new r));
  within = λ k on. ⊎_elim
      (λ (e : k ≡ r). subst (λ (n : ℕ). 256 * n < count) (sym e) inside)
      (λ (ne : k ≢ r). was.within k (sym (other k ne) ∙ on))
      (cases_eq k r);
  exact = λ k lt. ⊎_elim
      (λ (e : k ≡ r). subst (λ (n : ℕ). get_or given n false ≡ has_number new n) (sym e) here)
      (λ (ne : k ≢ r). other k ne ∙ was.exact k lt ∙ sym (same_number old new k (λ c few. others (256 * k + c) (apart k c few ne))))
      (cases_eq k r);
}
  where
    here : get_or given r false ≡ has_number new r
    here = ap (λ (l : List Bool). get_or l r false) is ∙ get_or-set_same occupied r (has_number new r) false (room_for count r old occupied was inside)

    other : (k : ℕ) → k ≢ r → get_or given k false ≡ get_or occupied k false
    other k ne = ap (λ (l : List Bool). get_or l k false) is ∙ get_or-set_other occupied r k (has_number new r) false ne

    apart : (k c : ℕ) → c < 256 → k ≢ r → (256 * k + c < 256 * r) ⊎ (256 * r + 256 ≤ 256 * k + c)
    apart k c few ne = ⊎_elim
        (λ (low : k < r). inl (let lt : 256 * k + c < 256 * r = omega (arith, low, few) in lt))
        (λ (high : r ≤ k). inr (let le : 256 * r + 256 ≤ 256 * k + c = omega (arith, high, ne) in le))
        (cases_lt k r)

-- so it is where one number is put
pub occupied_put : (count v : ℕ) (value : Bool) (old new occupied given : List Bool) → AreOccupied count old occupied → v < count → new ≡ set old v value → given ≡ set occupied (v / 256) (has_number new (v / 256)) → AreOccupied count new given
occupied_put count v value old new occupied given was inside puts is =
    occupied_after count (v / 256) old new occupied given was (let lt : 256 * (v / 256) < count = omega (arith, inside) in lt) (λ w away. ap (λ (l : List Bool). get_or l w false) puts ∙ get_or-set_other old v w value false (apart w away)) is
  where
    apart : (w : ℕ) → (w < 256 * (v / 256)) ⊎ (256 * (v / 256) + 256 ≤ w) → w ≢ v
    apart w (inl low) e = absurd (omega (arith, low, e))
    apart w (inr high) e = absurd (omega (arith, high, e))

-- ---- as calls on a container say it

-- a region or a number that a call names is one of those that there are
pub reached : (now : Paged) (es : List (Option Entry)) (tree : List ℕ) (dirty : List Bool) (leaves : Leaves) (known sure used : List Bool) (next fresh : List ℕ) (count k : ℕ)
    → paged_of es tree dirty leaves known sure ≡ now → IsKept (paged_of es tree dirty leaves known sure) count leaves used next fresh → 256 * k < length now.map.entries → 256 * k < count
reached now es tree dirty leaves known sure used next fresh count k view is within = omega (arith, within, is.size, ap (λ (p : Paged). length p.map.entries) view)

pub below : (now : Paged) (es : List (Option Entry)) (tree : List ℕ) (dirty : List Bool) (leaves : Leaves) (known sure used : List Bool) (next fresh : List ℕ) (count v : ℕ)
    → paged_of es tree dirty leaves known sure ≡ now → IsKept (paged_of es tree dirty leaves known sure) count leaves used next fresh → v < length now.map.entries → v < count
below now es tree dirty leaves known sure used next fresh count v view is within = omega (arith, within, is.size, ap (λ (p : Paged). length p.map.entries) view)

-- ---- the next one

none_counted : (n : ℕ) → nat_lt 0 n ≡ false → n ≡ 0
none_counted n is = grind (arith, nat_tests, is)

some_counted : (n : ℕ) → nat_lt 0 n ≡ true → n ≢ 0
some_counted n is none = (let h = rw none at is in grind (arith, nat_tests, h))

past_region : (map : Mapped) (k : ℕ) → length map.entries ≤ 256 * k → entries_in_region map k ≡ 0
unfolding entries_in_region
past_region map k past = none_between (has_entry_at map) (256 * k) 256 (λ v low high. ap is_some (get_or_past map.entries v None (let le : length map.entries ≤ v = omega (arith, past, low) in le)))

module _ (now : Paged) (es : List (Option Entry)) (tree : List ℕ) (dirty : List Bool) (leaves : Leaves) (known sure used occupied : List Bool) (next fresh : List ℕ) (count : ℕ)
    (view : paged_of es tree dirty leaves known sure ≡ now) (is : IsKept (paged_of es tree dirty leaves known sure) count leaves used next fresh) (has : AreOccupied count used occupied) where
  long : count ≡ length now.map.entries
  long = is.size ∙ ap (λ (p : Paged). length p.map.entries) view

  bare_region : (k : ℕ) → get_or occupied k false ≡ false → is_sure now k ≡ true → entries_in_region now.map k ≡ 0
  bare_region k off sured = ⊎_elim
      (λ (inside : 256 * k < count).
      let none = none_counted (count_by (λ v. get_or used v false) (range_with_len (256 * k) 256)) (sym (has.exact k inside) ∙ off) in
      sym (entries_out now es tree dirty leaves known sure used next fresh count k 0 view is sured (sym none)))
      (λ (past : count ≤ 256 * k). past_region now.map k (let le : length now.map.entries ≤ 256 * k = omega (arith, past, long) in le))
      (cases_lt (256 * k) count)

  full_region : (k : ℕ) → get_or occupied k false ≡ true → is_sure now k ≡ true → entries_in_region now.map k ≢ 0
  full_region k on sured none =
      let counted = entries_out now es tree dirty leaves known sure used next fresh count k (count_by (λ v. get_or used v false) (range_with_len (256 * k) 256)) view is sured refl in
      some_counted (count_by (λ v. get_or used v false) (range_with_len (256 * k) 256)) (sym (has.exact k (has.within k on)) ∙ on) (counted ∙ none)

  pub next_none : (from : ℕ) (r : Option ℕ) → IfNone r (HasNoneFrom occupied from) → IfNone r (HasNoRegionFrom now from)
  unfolding is_member
  next_none from None none = record { none = λ k low sured. bare_region k (none.none k low) sured }
  next_none from (Some r) none = none

  pub next_some : (from : ℕ) (r : Option ℕ) → IfSome r (IsFirstMember occupied from) → IfSome r (IsNextRegion now from)
  unfolding is_member
  next_some from None first = first
  next_some from (Some r) first = record {
    after = first.after;
    within = subst (λ (n : ℕ). 256 * r < n) long (has.within r first.here);
    before = λ k low high sured. bare_region k (first.before k low high) sured;
    some = λ sured. full_region r first.here sured;
  }
