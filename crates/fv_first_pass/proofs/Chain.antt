-- The chain of bases, by the labels that were read.
use Rattle.std.proofs.Common.{◌≡◌, ◌≢◌, ℕ, suc, ◌-◌, ◌+◌, ◌<◌, ◌≤◌, Bool, true, false, List, [], ◌∷◌, ◌++◌, length, get_or, take, refl, sym, ap, ◌∙◌, arith, ⊎_elim}
use Rattle.std.specs.Prelude.{Option, Some, None, not, find, nat_le, nat_lt, ◌||◌, ◌&&◌, ◌==◌, if◌then◌else◌}
use Rattle.std.specs.List.{list_any}
use Rattle.std.specs.Option.{is_some, option_map, option_map_or, option_and_then}
use Rattle.std.proofs.lemmas.Bool.{cases_lt}
use Rattle.std.proofs.lemmas.Bool.Decides.{nat_tests}
use Rattle.std.proofs.lemmas.List.{take_all, get_or_past, append-nil}
use Rattle.std.proofs.lemmas.List.Folds.{list_any-append}
use Rattle.std.specs.Prelude.{Result}
use Rattle.fv_codec.specs.declared.shape.Shape.{Shape}
use Rattle.fv_codec.specs.declared.label.SnapRecord.{SnapRecord}
use Rattle.fv_codec.specs.declared.label.Label.{Label}
use Rattle.fv_image.specs.Views.{Snap, Footing, Head, snaps_from, head_of}
use Rattle.fv_image.specs.Held.{Lying, Layout}
use Rattle.fv_image.specs.Volumes.{snap_at}
use Rattle.fv_image.specs.Seen.{VolumeSeen, volume_seen, seen, head_at}
use Rattle.fv_image.specs.VolumeRules.{footing_in, comes_to_end}
use Rattle.fv_faults.specs.FirstPass.{base_lines, can_carry, stands_on}
use Rattle.fv_faults.specs.declared.fault.Fault.{Fault}
use Rattle.fv_faults.specs.Lines.{line, unless}
use Rattle.fv_image.specs.HintRules.{is_splitting}
use Rattle.fv_first_pass.specs.Records.{free, snap_if}
use Rattle.fv_first_pass.specs.Heads.{HasLabels, carried, ends, footing, head_in, label_read, parent_in}
use Rattle.fv_first_pass.proofs.Snaps.{snaps_more}

module _ (y : Layout) (labels : List (Option (Result Label Shape))) (has : HasLabels y labels) where
  -- the heads by slot, also past the slots
  head_is : (s : ℕ) → head_at y.view s ≡ head_in (get_or labels s None)
  head_is s = ⊎_elim
      (λ (low : s < 64). let test : nat_lt s 64 ≡ true = grind (arith, nat_tests, low) in ap (λ (b : Bool). if b then y.view.head s else None) test ∙ has.heads s low)
      (λ (past : 64 ≤ s). let test : nat_lt s 64 ≡ false = grind (arith, nat_tests, past) in ap (λ (b : Bool). if b then y.view.head s else None) test
      ∙ sym (ap head_in (get_or_past labels s None (let long = has.long in omega (arith, long, past)))))
      (cases_lt s 64)

  footing_is : (s : ℕ) → footing_in (seen y.view) s ≡ option_and_then (λ (h : Head). h.base) (head_in (get_or labels s None))
  unfolding seen volume_seen
  footing_is s = so (head_at y.view s) ∙ ap (option_and_then (λ (h : Head). h.base)) (head_is s)
    where
      so : (o : Option Head) → option_and_then (λ (x : VolumeSeen). x.head.base) (option_map (volume_seen y.view s) o) ≡ option_and_then (λ (h : Head). h.base) o
      so None = refl
      so (Some h) = refl

  step_from : (n : ℕ) (at : Option ℕ) → ends y.view n (option_and_then (λ s. parent_in labels s) at) ≡ ends y.view (suc n) at
  unfolding comes_to_end
  step_from n None = refl
  step_from n (Some s) = so (option_and_then (λ (h : Head). h.base) (head_in (get_or labels s None))) ∙ ap (λ (o : Option Footing). option_map_or (λ b. comes_to_end (seen y.view) n b.parent) o true) (sym (footing_is s))
    where
      so : (o : Option Footing) → ends y.view n (option_map (λ b. b.parent) o) ≡ option_map_or (λ b. comes_to_end (seen y.view) n b.parent) o true
      so None = refl
      so (Some b) = refl

  -- one step of the chain
  pub chain_step : (k : ℕ) (at next : Option ℕ) (s : Option ℕ) → k < 64 → next ≡ option_and_then (λ s. parent_in labels s) at → ends y.view (64 - k) at ≡ ends y.view 64 s → ends y.view (64 - (k + 1)) next ≡ ends y.view 64 s
  chain_step k at next s low is so =
      ap (ends y.view (64 - (k + 1))) is ∙ step_from (64 - (k + 1)) at ∙ ap (λ n. ends y.view n at) (let e : suc (64 - (k + 1)) ≡ 64 - k = omega (arith, low) in e) ∙ so

  -- and its end
  pub chain_ends : (k : ℕ) (at : Option ℕ) (s : ℕ) (gone : Bool) → 64 ≤ k → is_some at ≡ not gone → ends y.view (64 - k) at ≡ ends y.view 64 (Some s) → gone ≡ comes_to_end (seen y.view) 64 s
  unfolding comes_to_end
  chain_ends k at s gone past is so = last gone at is ∙ ap (λ n. ends y.view n at) (let e : 0 ≡ 64 - k = omega (arith, past) in e) ∙ so
    where
      last : (gone : Bool) (o : Option ℕ) → is_some o ≡ not gone → gone ≡ ends y.view 0 o
      last true None e = refl
      last true (Some s) e = absurd cc
      last false None e = absurd cc
      last false (Some s) e = refl

  -- whether a volume stands on its base
  pub stands_is : (s : ℕ) (l : Label) → l.parent ≢ 0 → l.parent ≤ 64 → (there carries ends rest : Bool) → rest ≡ (carries && ends)
      → there ≡ is_some (get_or labels (l.parent - 1) None) → carries ≡ carried (head_in (get_or labels (l.parent - 1) None)) l → ends ≡ comes_to_end (seen y.view) 64 s
      → (there && rest) ≡ stands_on y s (head_of l) (footing l)
  stands_is s l based low there carries ends rest both found carry end =
      let inside : l.parent - 1 < 64 = omega (arith, based, low) in
      ap (λ (b : Bool). there && b) both
      ∙ ap (λ (b : Bool). b && (carries && ends)) (found ∙ ap is_some (has.reads (l.parent - 1) inside) ∙ so (y.label (l.parent - 1)))
      ∙ ap (λ (b : Bool). is_some (y.label (l.parent - 1)) && (b && ends)) (carry ∙ ap (λ (o : Option Head). carried o l) (sym (has.heads (l.parent - 1) inside)))
      ∙ ap (λ (b : Bool). is_some (y.label (l.parent - 1)) && (carried (y.view.head (l.parent - 1)) l && b)) end
    where
      so : (o : Option Lying) → is_some (label_read o) ≡ is_some o
      so None = refl
      so (Some x) = refl

-- ---- whether there is a snapshot in a map slot

any_found : (p : Snap → Bool) (ps : List Snap) → is_some (find p ps) ≡ list_any p ps
any_found p [] = refl
any_found p (q ∷ qs) = so (any_found p qs) (p q)
  where
    so : is_some (find p qs) ≡ list_any p qs → (b : Bool) → is_some (if b then Some q else find p qs) ≡ (b || list_any p qs)
    so rest true = refl
    so rest false = rest

module _ (p : Snap → Bool) (rs : List SnapRecord) where
  pub slot_first : false ≡ list_any p (snaps_from 1 (take 0 rs))
  unfolding snaps_from
  slot_first = refl

  pub slot_step : (k : ℕ) (any one : Bool) → k < length rs → any ≡ list_any p (snaps_from 1 (take k rs)) → one ≡ list_any p (snap_if (1 + k) (get_or rs k free)) → (one || any) ≡ list_any p (snaps_from 1 (take (k + 1) rs))
  slot_step k any one low is so = rw (is, so) (turned (list_any p (snap_if (1 + k) (get_or rs k free))) (list_any p (snaps_from 1 (take k rs)))
      ∙ sym (ap (list_any p) (snaps_more rs 1 k free low) ∙ list_any-append p (snaps_from 1 (take k rs)) (snap_if (1 + k) (get_or rs k free))))
    where
      turned : (a b : Bool) → (a || b) ≡ (b || a)
      turned true true = refl
      turned true false = refl
      turned false true = refl
      turned false false = refl

pub slot_all : (l : Label) (slot k : ℕ) (any : Bool) → length l.snapshots ≤ k → any ≡ list_any (λ (p : Snap). p.slot == slot) (snaps_from 1 (take k l.snapshots)) → any ≡ is_some (snap_at (head_of l) slot)
unfolding snap_at head_of
slot_all l slot k any past is = is ∙ ap (λ rs. list_any (λ (p : Snap). p.slot == slot) (snaps_from 1 rs)) (take_all k l.snapshots past) ∙ sym (any_found (λ (p : Snap). p.slot == slot) (snaps_from 1 l.snapshots))

-- ---- one base

pub carry_is : (l parent : Label) (there room whole rest all : Bool) → all ≡ (there && rest) → rest ≡ (room && whole) → there ≡ is_some (snap_at (head_of parent) l.base_slot) → room ≡ nat_le parent.span l.span
    → whole ≡ ((head_of parent).known && not (is_splitting (head_of parent).base)) → all ≡ can_carry (head_of l) (footing l) (head_of parent)
unfolding head_of
carry_is l parent there room whole rest all a b c d e =
    a
    ∙ ap (λ (r : Bool). there && r) b
    ∙ ap (λ (t : Bool). t && (room && whole)) c
    ∙ ap (λ (r : Bool). is_some (snap_at (head_of parent) l.base_slot) && (r && whole)) d
    ∙ ap (λ (o : Bool). is_some (snap_at (head_of parent) l.base_slot) && (nat_le parent.span l.span && o)) e

pub no_base : (y : Layout) (s at : ℕ) (l : Label) (old : List Fault) → l.parent ≡ 0 → old ≡ old ++ base_lines y s at (head_of l)
unfolding base_lines head_of
no_base y s at l old none =
    let test : (l.parent == 0) ≡ true = grind (arith, nat_tests, none) in
    sym (ap (λ (b : Bool). old ++ option_map_or (λ b. unless (stands_on y s (head_of l) b) (line 3 at 1 0)) (if b then None else Some (footing l)) []) test ∙ append-nil old)

pub one_base : (y : Layout) (s at : ℕ) (l : Label) → l.parent ≢ 0 → base_lines y s at (head_of l) ≡ unless (stands_on y s (head_of l) (footing l)) (line 3 at 1 0)
unfolding base_lines head_of
one_base y s at l some =
    let test : (l.parent == 0) ≡ false = grind (arith, nat_tests, some) in
    ap (λ (b : Bool). option_map_or (λ b. unless (stands_on y s (head_of l) b) (line 3 at 1 0)) (if b then None else Some (footing l)) []) test
