-- What labels tell together is what the view does.
use Rattle.std.proofs.Common.{◌≡◌, ℕ, ◌+◌, ◌*◌, Bool, true, false, List, [], ◌∷◌, refl, sym, ap, subst, ◌∙◌, arith, inl, inr}
use Rattle.std.specs.Prelude.{cond, count_by, sum_by, get_or, nat_le, nat_lt, Option, Some, None, Result, Ok, Err, ◌-◌, ◌==◌, if◌then◌else◌}
use Rattle.std.specs.Option.{option_map, option_map_or}
use Rattle.std.proofs.lemmas.Bool.Decides.{nat_tests}
use Rattle.std.proofs.lemmas.List.Sums.{sum_by-cons}
use Rattle.fv_codec.specs.declared.shape.Shape.{Shape}
use Rattle.fv_codec.specs.declared.label.Label.{Label}
use Rattle.fv_laws.proofs.Lists.{In}
use Rattle.fv_model.specs.declared.commands.Kind.TheVariants.{Volume as Whole, File as ByFile, Thin}
use Rattle.fv_model.specs.Machines.{first_block, capacity}
use Rattle.fv_model.specs.Volumes.{Volume}
use Rattle.fv_model.specs.Space.{overhead, use_of, commit, promised}
use Rattle.fv_image.specs.Views.{Head, View, slots, overheads, own, delayed, kind_named, head_of}
use Rattle.fv_image.specs.Held.{Layout}
use Rattle.fv_image.specs.Seen.{VolumeSeen, seen, volume_seen}
use Rattle.fv_image.specs.Volumes.{volume_told, volume_with}
use Rattle.fv_image.specs.VolumeRules.{commits_seen}
use Rattle.fv_faults.specs.declared.fault.Fault.{Fault}
use Rattle.fv_faults.specs.declared.lines.Lines.{Lines}
use Rattle.fv_faults.specs.Adding.{Adds}
use Rattle.fv_faults.specs.Lines.{line, unless}
use Rattle.fv_faults.specs.FourthPass.{commit_lines, room_lines}
use Rattle.fv_faults.proofs.EachVolume.{slot_below}
use Rattle.fv_first_pass.specs.Heads.{HasLabels, head_in}
use Rattle.fv_fourth_pass.specs.Spaced.{HasUses, overhead_in, commit_in, overheads_to, commits_to}

-- sums of numbers that are the same
same_sums : {X : Type 0} → (f g : X → ℕ) (xs : List X) → ((x : X) → In x xs → f x ≡ g x) → sum_by f xs ≡ sum_by g xs
same_sums f g [] same = refl
same_sums f g (x ∷ xs) same =
    let first = same x (inl refl) in
    let rest = same_sums f g xs (λ y there. same y (inr there)) in
    omega (arith, first, rest, sum_by-cons f x xs, sum_by-cons g x xs)

pub same_counts : {X : Type 0} → (p q : X → Bool) (xs : List X) → ((x : X) → p x ≡ q x) → count_by p xs ≡ count_by q xs
same_counts p q xs same = same_sums (λ x. cond (p x) 1 0) (λ x. cond (q x) 1 0) xs (λ x there. ap {B = ℕ} (λ (b : Bool). cond b 1 0) (same x))

-- ---- of one slot

one_overhead : (o : Option (Result Label Shape)) → option_map_or (λ (h : Head). overhead h.span) (head_in o) 0 ≡ overhead_in o
unfolding head_of
one_overhead None = refl
one_overhead (Some (Ok l)) = refl
one_overhead (Some (Err shape)) = refl

promised_by : (v : Volume) (n : ℕ) → promised v (kind_named n) ≡ (if n == 0 then v.size else use_of v)
promised_by v n = so (n == 0) (n == 1)
  where
    so : (a b : Bool) → promised v (if a then Whole else (if b then ByFile else Thin)) ≡ (if a then v.size else use_of v)
    so true b = refl
    so false true = refl
    so false false = refl

module _ (w : View) (s : ℕ) where
  abbrev commit_of : Option Head → ℕ
  commit_of o = option_map_or (λ (x : VolumeSeen). commit x.volume) (option_map (volume_seen w s) o) 0

  one_commit : (o : Option (Result Label Shape)) (used : ℕ) → ((h : Head) → head_in o ≡ Some h → used ≡ use_of (volume_told w s h)) → commit_of (head_in o) ≡ commit_in o used
  unfolding volume_seen volume_with head_of
  one_commit None used is = refl
  one_commit (Some (Err shape)) used is = refl
  one_commit (Some (Ok l)) used is =
      ap (λ n. 2 * overhead l.span + n) (promised_by (volume_told w s (head_of l)) l.kind ∙ ap (λ n. if l.kind == 0 then l.size else n) (sym (is (head_of l) refl)))

-- ---- of all slots

module _ (y : Layout) (labels : List (Option (Result Label Shape))) (are : HasLabels y labels) where
  overheads_are : overheads y.view ≡ overheads_to labels 64
  unfolding overheads overheads_to slots
  overheads_are = same_sums (λ s. option_map_or (λ h. overhead h.span) (y.view.head s) 0) (λ s. overhead_in (get_or labels s None)) slots (λ s there.
      ap (λ (o : Option Head). option_map_or (λ h. overhead h.span) o 0) (are.heads s (slot_below s there)) ∙ one_overhead (get_or labels s None))

  commits_are : (uses : List ℕ) → HasUses y.view uses → commits_seen (seen y.view) ≡ commits_to labels uses 64
  unfolding commits_seen seen commits_to slots
  commits_are uses used = same_sums (λ s. option_map_or (λ x. commit x.volume) ((seen y.view).volume s) 0) (λ s. commit_in (get_or labels s None) (get_or uses s 0)) slots (λ s there.
      let low = slot_below s there in
      let test : nat_lt s 64 ≡ true = grind (arith, nat_tests, low) in
      ap (λ (b : Bool). commit_of y.view s (if b then y.view.head s else None)) test
      ∙ ap (commit_of y.view s) (are.heads s low)
      ∙ one_commit y.view s (get_or labels s None) (get_or uses s 0) (λ h is. used.each s h low (are.heads s low ∙ is)))

  pub commits_added : (uses : List ℕ) → HasUses y.view uses → (blocks root : ℕ) (old new : Lines) → y.view.blocks ≡ blocks
      → Adds (unless (nat_le (commits_to labels uses 64) (capacity blocks)) (line 14 root (capacity blocks) (commits_to labels uses 64))) old new → Adds (commit_lines root y.view) old new
  unfolding commit_lines
  commits_added uses used blocks root old new size adds =
      subst (λ n. Adds (unless (nat_le n (capacity y.view.blocks)) (line 14 root (capacity y.view.blocks) n)) old new) (sym (commits_are uses used))
      (subst (λ n. Adds (unless (nat_le (commits_to labels uses 64) (capacity n)) (line 14 root (capacity n) (commits_to labels uses 64))) old new) (sym size) adds)

  abbrev room : ℕ → ℕ → ℕ → ℕ → ℕ → List Fault
  room root blocks over mine late =
      unless (nat_le (2 * over + 256) (blocks - first_block blocks - mine - late)) (line 14 root (2 * over + 256) (blocks - first_block blocks - mine - late))

  pub room_added : (blocks root mine late : ℕ) (old new : Lines) → y.view.blocks ≡ blocks → mine ≡ own y.view → late ≡ delayed y.view
      → Adds (room root blocks (overheads_to labels 64) mine late) old new → Adds (room_lines root y.view) old new
  unfolding room_lines
  room_added blocks root mine late old new size owned waits adds =
      subst (λ n. Adds (room root n (overheads y.view) (own y.view) (delayed y.view)) old new) (sym size)
      (subst (λ n. Adds (room root blocks n (own y.view) (delayed y.view)) old new) (sym overheads_are)
      (subst (λ n. Adds (room root blocks (overheads_to labels 64) n (delayed y.view)) old new) owned
      (subst (λ n. Adds (room root blocks (overheads_to labels 64) mine n) old new) waits adds)))
