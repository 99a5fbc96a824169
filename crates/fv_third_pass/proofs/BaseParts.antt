-- What is noted of a base table is what is said of the volume's base.
use Rattle.std.proofs.Common.{◌≡◌, ◌≢◌, ℕ, ◌-◌, ◌<◌, ◌≤◌, Bool, true, false, arith, List, [], ◌++◌, length, get_or, refl, sym, ap, subst, ◌∙◌, Ok}
use Rattle.std.specs.Prelude.{flat_map, Option, Some, None}
use Rattle.std.specs.Option.{option_map}
use Rattle.fv_disk.specs.Shown.{Image}
use Rattle.std.proofs.lemmas.Bool.Decides.{nat_tests}
use Rattle.fv_codec.specs.declared.label.Label.{Label}
use Rattle.fv_codec.specs.Fields.{up_to}
use Rattle.fv_codec.specs.Blocks.{IsLabel, is_used}
use Rattle.fv_image.specs.NewerRoot.{Taken}
use Rattle.fv_image.specs.Views.{Rooted, Snap, head_of}
use Rattle.fv_image.specs.Held.{layout_at}
use Rattle.fv_image.specs.Volumes.{snap_at}
use Rattle.fv_faults.specs.declared.lines.Lines.{Lines}
use Rattle.fv_faults.specs.Adding.{Adds}
use Rattle.fv_faults.specs.Met.{IsClean}
use Rattle.fv_faults.specs.ThirdPass.{base_steps, stamp_lines, twins}
use Rattle.fv_faults.specs.Walks.{Ground, steps}
use Rattle.fv_faults.proofs.Adding.{adds_none}
use Rattle.fv_walk.specs.declared.visit.Visit.{Visit}
use Rattle.fv_first_pass.specs.declared.first.Known.{Known}
use Rattle.fv_second_pass.specs.declared.reached.Reached as sets
use Rattle.fv_second_pass.specs.Told.{IsLabelled, ground_at}
use Rattle.fv_third_pass.specs.Counted.{label_of}
use Rattle.fv_third_pass.specs.Twinned.{twin_lines}
use Rattle.fv_third_pass.specs.Volumes.{IsWalked, base_said, shown_one}
use Rattle.fv_third_pass.proofs.TwinSteps.{visits_are}
use Rattle.fv_third_pass.proofs.VolumeParts as parts

nothing_said : (last : ℕ) (done : List Visit) → base_said last done [] ≡ []
unfolding twins
nothing_said last done = refl

-- the map slot of a base is one of 24
pub base_slots : (l : Label) → l.parent ≢ 0 → IsLabel l → (1 ≤ l.base_slot) × (l.base_slot ≤ 24)
base_slots l some is = so (is_used l.parent) (let used : is_used l.parent ≡ true = grind (arith, nat_tests, some) in used) is.base_least is.base_greatest
  where
    so : (b : Bool) → b ≡ true → up_to b 1 ≤ l.base_slot → l.base_slot ≤ up_to b 24 → (1 ≤ l.base_slot) × (l.base_slot ≤ 24)
    so true used least most = (least, most)
    so false used least most = absurd cc

module _ (t : Taken) (i : Image) (long : (b : ℕ) → length (i b) ≡ 4096) (size : 1 ≤ t.blocks) (known : Known) (reached : sets.Reached) (walked : IsWalked t i known reached)
    (s : ℕ) (low : s < 64) (l : Label) (label : get_or known.labels.items s None ≡ Some (Ok l)) where
  pub none_noted : l.parent ≡ 0 → (last : ℕ) (done : List Visit) (x : Lines) → Adds (base_said last done (base_steps (layout_at t i) (head_of l).base)) x x
  none_noted none last done x =
      subst (λ ss. Adds (base_said last done ss) x x) (sym (parts.base_nothing t i long size known reached walked s low l label none))
      (subst (λ ls. Adds ls x x) (sym (nothing_said last done)) (adds_none x x refl))

  module _ (some : l.parent ≢ 0) where
    abbrev p : ℕ
    p = l.parent - 1

    abbrev at : ℕ
    at = get_or t.root.labels p 0

    abbrev parent : Label
    parent = parts.parent t i long size known reached walked s low l label some

    abbrev table : Rooted
    table = parts.table t i long size known reached walked s low l label some

    read : get_or known.labels.items p None ≡ Some (Ok parent)
    read = parts.parent_read t i long size known reached walked s low l label some

    found : option_map (λ (q : Snap). q.table) (snap_at (head_of parent) l.base_slot) ≡ Some table
    found = parts.table_found t i long size known reached walked s low l label some

    pub has_parent : label_of (get_or known.labels.items p None) ≡ None → ⊥
    has_parent none = let e : ◌≡◌ {A = Option Label} (Some parent) None = sym (ap label_of read) ∙ none in differ e
      where
        differ : {x : Label} → ◌≡◌ {A = Option Label} (Some x) None → ⊥
        differ e = cc

    same_parent : (q : Label) → label_of (get_or known.labels.items p None) ≡ Some q → parent ≡ q
    same_parent q is = let e : Some parent ≡ Some q = sym (ap label_of read) ∙ is in cc

    pub has_table : (q : Label) → label_of (get_or known.labels.items p None) ≡ Some q → option_map (λ (q : Snap). q.table) (snap_at (head_of q) l.base_slot) ≡ None → ⊥
    has_table q is none = differ (sym found ∙ subst (λ (q : Label). option_map (λ (q : Snap). q.table) (snap_at (head_of q) l.base_slot) ≡ None) (sym (same_parent q is)) none)
      where
        differ : {x : Rooted} → ◌≡◌ {A = Option Rooted} (Some x) None → ⊥
        differ e = cc

    abbrev Noted : Label → Rooted → ℕ → List Visit → Lines → Lines → Type 0
    Noted q r last done old new = IsLabelled t i known p q → IsClean (steps (ground_at t i p q.span) at r)
        → Adds (twin_lines done (shown_one (ground_at t i p q.span) at r) ++ flat_map (stamp_lines last) (steps (ground_at t i p q.span) at r)) old new

    own_noted : (last : ℕ) (done : List Visit) (old new : Lines) → Noted parent table last done old new → Adds (base_said last done (base_steps (layout_at t i) (head_of l).base)) old new
    unfolding head_of
    own_noted last done old new noted =
        let g : Ground = ground_at t i p parent.span in
        let clean : IsClean (steps g at table) = parts.base_clean t i long size known reached walked s low l label some in
        subst (λ ss. Adds (base_said last done ss) old new) (sym (parts.base_are t i long size known reached walked s low l label some))
        (subst (λ vs. Adds (twin_lines done vs ++ flat_map (stamp_lines last) (steps g at table)) old new) (visits_are g at table clean)
        (noted (record { passed = walked.passed; label = read }) clean))

    pub some_noted : (q : Label) (r : Rooted) → label_of (get_or known.labels.items p None) ≡ Some q → Some r ≡ option_map (λ (q : Snap). q.table) (snap_at (head_of q) l.base_slot)
        → (last : ℕ) (done : List Visit) (old new : Lines) → Noted q r last done old new → Adds (base_said last done (base_steps (layout_at t i) (head_of l).base)) old new
    some_noted q r is there last done old new noted =
        let at_parent : Some r ≡ option_map (λ (q : Snap). q.table) (snap_at (head_of parent) l.base_slot) = subst (λ (q : Label). Some r ≡ option_map (λ (q : Snap). q.table) (snap_at (head_of q) l.base_slot)) (sym (same_parent q is)) there in
        let same : r ≡ table = one r table (at_parent ∙ found) in
        own_noted last done old new (subst (λ (q : Label). Noted q table last done old new) (sym (same_parent q is)) (subst (λ (r : Rooted). Noted q r last done old new) same noted))
      where
        one : (a b : Rooted) → Some a ≡ Some b → a ≡ b
        one a b e = cc
