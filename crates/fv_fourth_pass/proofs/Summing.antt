-- What volumes take is added up slot by slot.
use Rattle.std.proofs.Common.{◌≡◌, ◌≢◌, ℕ, ◌+◌, ◌<◌, ◌≤◌, List, [], ◌∷◌, ◌++◌, length, get_or, sym, ap, ◌∙◌, arith, ⊎_elim}
use Rattle.std.specs.Prelude.{Option, Some, None, count_by}
use Rattle.std.specs.Option.{option_map_or}
use Rattle.std.proofs.lemmas.Bool.{cases_eq, cases_lt}
use Rattle.std.proofs.Math.Seq.{get_or-append_seam}
use Rattle.std.proofs.lemmas.List.{get_or_append_left, get_or_past, length-append}
use Rattle.fv_model.specs.Space.{use_of}
use Rattle.fv_image.specs.Views.{Head, View, delayed, is_delayed, is_own, own, slots, vvbns}
use Rattle.fv_image.specs.Volumes.{volume_told}
use Rattle.fv_fourth_pass.specs.declared.space_sums.Sums.{Sums}
use Rattle.fv_fourth_pass.specs.declared.space_sums.VolumeSpace.{VolumeSpace}
use Rattle.fv_fourth_pass.specs.Spaced.{HasUses}
use Rattle.fv_fourth_pass.specs.Summed.{AreSums, AreWithin, IsSpace, IsSpaceAt, IsWithin, delayed_at, own_at}
use Rattle.fv_fourth_pass.proofs.Sums.{sum_next}

module _ (old new : Sums) (x : VolumeSpace) (n : ℕ) (at : length old.uses.items ≡ n) (uses : new.uses.items ≡ old.uses.items ++ x.used ∷ [])
    (mine : new.filled.own ≡ old.filled.own + x.filled.own) (late : new.filled.delayed ≡ old.filled.delayed + x.filled.delayed) where
  pub longer : length new.uses.items ≡ n + 1
  longer = ap (λ (ns : List ℕ). length ns) uses ∙ length-append old.uses.items (x.used ∷ []) ∙ ap (λ k. k + 1) at

  here : get_or new.uses.items n 0 ≡ x.used
  here = ap (λ (ns : List ℕ). get_or ns n 0) uses ∙ ap (λ k. get_or (old.uses.items ++ x.used ∷ []) k 0) (sym at) ∙ get_or-append_seam old.uses.items x.used [] 0

  before : (s : ℕ) → s < n → get_or new.uses.items s 0 ≡ get_or old.uses.items s 0
  before s low = ap (λ (ns : List ℕ). get_or ns s 0) uses ∙ get_or_append_left old.uses.items (x.used ∷ []) 0 s (omega (arith, low, at))

  behind : (s : ℕ) → n < s → get_or new.uses.items s 0 ≡ 0
  behind s high = get_or_past new.uses.items s 0 (let e = longer in omega (arith, e, high))

  pub still_within : AreWithin old → IsWithin x → AreWithin new
  still_within are is = record {
    used = λ s. ⊎_elim
        (λ (low : s < n). let e = before s low in let bound = are.used s in omega (arith, e, bound))
        (λ (past : n ≤ s). ⊎_elim
        (λ (same : s ≡ n). let e : get_or new.uses.items s 0 ≡ x.used = ap (λ k. get_or new.uses.items k 0) same ∙ here in let bound = is.used in omega (arith, e, bound))
        (λ (apart : s ≢ n). let e = behind s (omega (arith, past, apart)) in omega (arith, e))
        (cases_eq s n))
        (cases_lt s n);
    own = let size = longer in let so_far = are.own in let more = is.own in omega (arith, mine, at, size, so_far, more);
    delayed = let size = longer in let so_far = are.delayed in let more = is.delayed in omega (arith, late, at, size, so_far, more);
  }

  pub sums_next : (w : View) → AreSums w n old → IsSpaceAt w n x → AreSums w (n + 1) new
  sums_next w are is = record {
    used = λ s h low head. ⊎_elim
        (λ (below : s < n). before s below ∙ are.used s h below head)
        (λ (past : n ≤ s).
        let same : s ≡ n = omega (arith, low, past) in
        ap (λ k. get_or new.uses.items k 0) same ∙ here ∙ is.used h (sym (ap (λ k. w.head k) same) ∙ head) ∙ sym (ap (λ k. use_of (volume_told w k h)) same))
        (cases_lt s n);
    own = let next = sum_next (own_at w) n in let so_far = are.own in let one = is.own in omega (arith, mine, next, so_far, one);
    delayed = let next = sum_next (delayed_at w) n in let so_far = are.delayed in let one = is.delayed in omega (arith, late, next, so_far, one);
  }

-- ---- one slot

one_head : (h g : Head) → ◌≡◌ {A = Option Head} (Some h) (Some g) → h ≡ g
one_head h g e = cc

module _ (w : View) (s : ℕ) (x : VolumeSpace) where
  pub some_space : (h : Head) → w.head s ≡ Some h → IsSpace w s h x → IsSpaceAt w s x
  some_space h head is = record {
    used = λ g there. is.used ∙ ap (λ (g : Head). use_of (volume_told w s g)) (one_head h g (sym head ∙ there));
    own = is.own ∙ sym (ap (λ (o : Option Head). option_map_or (λ (h : Head). count_by (is_own w s h) (vvbns h.span)) o 0) head);
    delayed = is.delayed ∙ sym (ap (λ (o : Option Head). option_map_or (λ (h : Head). count_by (is_delayed w s h) (vvbns h.span)) o 0) head);
  }

  no_head : (g : Head) → ◌≡◌ {A = Option Head} None (Some g) → ⊥
  no_head g e = cc

  pub no_space : w.head s ≡ None → x.filled.own ≡ 0 → x.filled.delayed ≡ 0 → IsSpaceAt w s x
  no_space none mine late = record {
    used = λ g there. absurd (no_head g (sym none ∙ there));
    own = mine ∙ sym (ap (λ (o : Option Head). option_map_or (λ (h : Head). count_by (is_own w s h) (vvbns h.span)) o 0) none);
    delayed = late ∙ sym (ap (λ (o : Option Head). option_map_or (λ (h : Head). count_by (is_delayed w s h) (vvbns h.span)) o 0) none);
  }

-- ---- all slots

module _ (w : View) (sums : Sums) where
  pub sums_first : sums.filled.own ≡ 0 → sums.filled.delayed ≡ 0 → AreSums w 0 sums
  sums_first mine late = record { used = λ s h low head. absurd (omega (arith, low)); own = mine; delayed = late }

  module _ (are : AreSums w 64 sums) where
    pub has_uses : HasUses w sums.uses.items
    has_uses = record { each = λ s h low head. are.used s h low head }

    pub own_all : sums.filled.own ≡ own w
    unfolding own slots
    own_all = are.own

    pub delayed_all : sums.filled.delayed ≡ delayed w
    unfolding delayed slots
    delayed_all = are.delayed
