-- Volumes stay spaced where one of them is written.
use Rattle.std.proofs.Common.{◌≡◌, ◌≢◌, ℕ, ◌<◌, Bool, true, false, List, Some, not, ◌&&◌, ◌||◌, refl, sym, subst, ◌∙◌, ⊎_elim, inl, inr, ◌⊎◌}
use Rattle.std.specs.Prelude.{Option}
use Rattle.fv_disk.specs.Shown.{Image}
use Rattle.std.proofs.lemmas.Bool.{and_parts, and_from, both_ways, cases_eq, or_cases, or_left, or_right}
use Rattle.fv_bits.specs.Members.{is_member}
use Rattle.fv_image.specs.Reclaimed.{IsAllocatable}
use Rattle.fv_container.specs.Leading.{place_at}
use Rattle.fv_container.specs.Mapped.{Mapped}
use Rattle.fv_volume.specs.declared.state.VolumeState.{VolumeState}
use Rattle.fv_image.specs.Views.{entry_count}
use Rattle.fv_container.specs.Spelled.{is_at, names}
use Rattle.fv_aggmap.specs.Space.{Space, blocks_of}
use Rattle.fv_volumes.specs.Housed.{as_written}
use Rattle.fv_volume.specs.Stored.{AreApartIn, AreSpacedIn, has_block, is_map_written, is_of}
use Rattle.fv_volume.specs.Writing.{HasOwnBlocks, IsWritten, has_maps_at}
use Rattle.fv_volumes.proofs.Drawing.{leads_at, maps_where, or_neither}
use Rattle.fv_volumes.proofs.Stored.{from_old, new_lies, stay_taken}

-- they are spaced alike where they are the same
pub spaced_same : (blocks : ℕ) (next : List Bool) (state now : ℕ → Option VolumeState) (container left : ℕ → Option Mapped) → ((s : ℕ) → s < 64 → now s ≡ state s) → ((s : ℕ) → s < 64 → left s ≡ container s) → AreSpacedIn blocks next state container → AreSpacedIn blocks next now left
spaced_same blocks next state now container left states containers is = record {
  apart = λ s k b small large other here there. is.apart s k b small large other (sym (has s b small) ∙ here) (sym (has k b large) ∙ there);
  held = λ s b small there. is.held s b small (sym (has s b small) ∙ there);
  set = λ b bit. let s = is.set b bit in (s.0, s.1, has s.0 b s.1 ∙ s.2);
}
  where
    has : (s b : ℕ) → s < 64 → has_block (now s) (left s) b ≡ has_block (state s) (container s) b
    has s b small = (λ i. has_block (states s small i) (containers s small i) b)

-- ---- one slot anew

module _ (blocks : ℕ) (next after : List Bool) (state now : ℕ → Option VolumeState) (container left : ℕ → Option Mapped) (s : ℕ) (inside : s < 64) (is : AreSpacedIn blocks next state container)
    (others : (k b : ℕ) → k ≢ s → has_block (now k) (left k) b ≡ has_block (state k) (container k) b)
    (bits : (b : ℕ) → is_member after b ≡ (has_block (now s) (left s) b || (is_member next b && not (has_block (state s) (container s) b))))
    (from : (b : ℕ) → has_block (now s) (left s) b ≡ true → (has_block (state s) (container s) b ≡ true) ⊎ (is_member next b ≡ false))
    (lies : (b : ℕ) → has_block (now s) (left s) b ≡ true → IsAllocatable blocks b) where
  abbrev has : ℕ → ℕ → Bool
  has k b = has_block (state k) (container k) b

  abbrev has_now : ℕ → ℕ → Bool
  has_now k b = has_block (now k) (left k) b

  -- another slot hasn't what this one has now
  not_shared : (k b : ℕ) → k < 64 → k ≢ s → has_now s b ≡ true → has k b ≡ true → ⊥
  not_shared k b small other here there = ⊎_elim
      (λ (own : has s b ≡ true). is.apart k s b small inside other there own)
      (λ (clear : is_member next b ≡ false). both_ways _ clear (is.held k b small there).0)
      (from b here)

  differs : (h : Bool) → not h ≡ true → h ≡ true → ⊥
  differs true n e = both_ways _ refl n
  differs false n e = both_ways _ refl e

  not_there : (h : Bool) → (h ≡ true → ⊥) → not h ≡ true
  not_there true never = absurd (never refl)
  not_there false never = refl

  pub spaced_next : AreSpacedIn blocks after now left
  spaced_next = record {
    apart = λ k j b small large differ first second. ⊎_elim
        (λ (e : k ≡ s). let other : j ≢ s = λ same. differ (e ∙ sym same) in not_shared j b large other (subst (λ (n : ℕ). has_now n b ≡ true) e first) (sym (others j b other) ∙ second))
        (λ (other : k ≢ s). ⊎_elim
        (λ (f : j ≡ s). not_shared k b small other (subst (λ (n : ℕ). has_now n b ≡ true) f second) (sym (others k b other) ∙ first))
        (λ (too : j ≢ s). is.apart k j b small large differ (sym (others k b other) ∙ first) (sym (others j b too) ∙ second))
        (cases_eq j s))
        (cases_eq k s);
    held = λ k b small there. ⊎_elim
        (λ (e : k ≡ s).
        let here : has_now s b ≡ true = subst (λ (n : ℕ). has_now n b ≡ true) e there in
        (bits b ∙ or_left (has_now s b) _ here, lies b here))
        (λ (other : k ≢ s).
        let before : has k b ≡ true = sym (others k b other) ∙ there in
        let was = is.held k b small before in
        (bits b ∙ or_right (has_now s b) _ (and_from (is_member next b) _ was.0 (not_there (has s b) (λ own. is.apart k s b small inside other before own))), was.1))
        (cases_eq k s);
    set = λ b bit. ⊎_elim
        (λ (here : has_now s b ≡ true). (s, inside, here))
        (λ (rest : (is_member next b && not (has s b)) ≡ true).
        let parts = and_parts (is_member next b) (not (has s b)) rest in
        let k = is.set b parts.0 in
        let other : k.0 ≢ s = λ e. differs (has s b) parts.1 (subst (λ (n : ℕ). has n b ≡ true) e k.2) in
        (k.0, k.1, others k.0 b other ∙ k.2))
        (or_cases (has_now s b) (is_member next b && not (has s b)) (sym (bits b) ∙ bit));
  }

-- ---- a volume that was written

-- What the writing of one slot's volume leaves: the volumes stay spaced, a block of another one isn't written, and neither is the block of
-- an entry that isn't of a map that is written.
pub record LeavesSpaced (blocks : ℕ) (after : Space) (state now : ℕ → Option VolumeState) (container left : ℕ → Option Mapped) (s : ℕ) (x : VolumeState) (old : Mapped) (i j : Image) : Type 0 where
  pub spaced : AreSpacedIn blocks after.next now left
  pub others : (k b : ℕ) → k < 64 → k ≢ s → has_block (state k) (container k) b ≡ true → j b ≡ i b
  pub own : (v : ℕ) → is_map_written x v ≡ false → place_at old v ≢ 0 → j (place_at old v) ≡ i (place_at old v)

module _ (blocks : ℕ) (space after : Space) (state now : ℕ → Option VolumeState) (container left : ℕ → Option Mapped) (s : ℕ) (inside : s < 64) (is : AreSpacedIn blocks space.next state container) (size : blocks_of space ≡ blocks)
    (x : VolumeState) (old new : Mapped) (label : ℕ) (there : state s ≡ Some x) (lies : container s ≡ Some old) (there_now : now s ≡ Some (as_written x label)) (lies_now : left s ≡ Some new)
    (other_state : (k : ℕ) → k ≢ s → now k ≡ state k) (other_container : (k : ℕ) → k ≢ s → left k ≡ container k)
    (i j : Image) (apart : AreApartIn x old) (own : HasOwnBlocks x old space) (w : IsWritten x old i space label new j after) where
  has_old : (b : ℕ) → has_block (state s) (container s) b ≡ is_of x x.label old b
  has_old b = (λ k. has_block (there k) (lies k) b)

  has_new : (b : ℕ) → has_block (now s) (left s) b ≡ is_of x label new b
  has_new b = (λ k. has_block (there_now k) (lies_now k) b)

  spaced_written : AreSpacedIn blocks after.next now left
  spaced_written = spaced_next blocks space.next after.next state now container left s inside is (λ k b other l. has_block (other_state k other l) (other_container k other l) b)
      (λ b. w.held b ∙ (λ k. sym (has_new b) k || (is_member space.next b && not (sym (has_old b) k))))
      (λ b here. ⊎_elim (λ own. inl (has_old b ∙ own)) (λ clear. inr clear) (from_old x old i space label new j after w own (λ v. apart.some v) b (sym (has_new b) ∙ here)))
      (λ b here. subst (λ (n : ℕ). IsAllocatable n b) size (new_lies x old i space label new j after w own (λ v. apart.some v)
      (λ b of. subst (λ (n : ℕ). IsAllocatable n b) (sym size) (is.held s b inside (has_old b ∙ of)).1) b (sym (has_new b) ∙ here)))

  other_stays : (k b : ℕ) → k < 64 → k ≢ s → has_block (state k) (container k) b ≡ true → j b ≡ i b
  other_stays k b small other has = w.others b (λ free.
      let none = (or_neither (is_member w.given.committed b) (is_member w.given.next b) free.free).1 in
      by (is_member space.next b) (has_maps_at x old (entry_count x.span) b) refl refl (is.held k b small has).0 (sym (w.gave.held b) ∙ none))
    where
      by : (m a : Bool) → is_member space.next b ≡ m → has_maps_at x old (entry_count x.span) b ≡ a → is_member space.next b ≡ true → (m && not a) ≡ false → ⊥
      by true true e f held g =
          let at = maps_where x old (entry_count x.span) b f in
          let led = leads_at old (entry_count x.span) at.vvbn b at.within at.place at.some in
          is.apart k s b small inside other has (has_old b ∙ or_right (is_at b x.label) _ (or_right (names old.tree b) _ led))
      by true false e f held g = both_ways true g refl
      by false a e f held g = both_ways _ e held

  pub written_leaves : LeavesSpaced blocks after state now container left s x old i j
  written_leaves = record {
    spaced = spaced_written;
    others = other_stays;
    own = λ v on some. w.others (place_at old v) (stay_taken x old i space label new j after w own (λ v. apart.some v) v on some);
  }
