-- The head of a label with its own records, record by record; and so the heads of an image.
use Rattle.std.proofs.Common.{◌≡◌, ℕ, zero, suc, ◌+◌, ◌≤◌, Bool, true, false, cond, List, [], ◌∷◌, length, refl, sym, ap, ◌∙◌, arith, Result, Ok, Err}
use Rattle.std.specs.Prelude.{Option, Some, None, ◌==◌, nat_lt, take, drop, filter_map, if◌then◌else◌}
use Rattle.std.specs.List.{range_with_len, slice_get, cons_option}
use Rattle.std.specs.Option.{option_map, option_and_then}
use Rattle.fv_disk.specs.Shown.{Image}
use Rattle.fv_codec.specs.declared.shape.Shape.{Shape}
use Rattle.fv_codec.specs.declared.label.SnapRecord.{SnapRecord}
use Rattle.fv_codec.specs.declared.label.Label.{Label}
use Rattle.fv_codec.specs.Fields.{Verdict, items, reading, verdicts}
use Rattle.fv_codec.specs.Blocks.{label_fields, label_at, snap_of}
use Rattle.fv_image.specs.NewerRoot.{Taken}
use Rattle.fv_image.specs.Containers.{shaped}
use Rattle.fv_image.specs.Views.{Snap, SnapsSaid, Head, View, snapshot_slots, snap_told, snaps_told, head_at_slot, said_by, label_records, snaps_from, label_head, head_of}
use Rattle.fv_image.specs.Held.{Lying, view_at, label_lying, label_in, entry_from}

-- ---- a label with its records

-- what the record of a map slot says, with its snapshot in that slot
abbrev snap_said : SnapsSaid → ℕ → Option Snap
snap_said said slot = option_map (snap_told slot) (said slot)

first : (j : ℕ) → j ≡ j + 0
first j = omega arith

next : (j k : ℕ) → j + 1 + k ≡ j + suc k
next j k = omega arith

one_on : (k : ℕ) → 1 + k ≡ suc k
one_on k = omega arith

-- past the records nothing is told of
none_after : (n j : ℕ) (said : SnapsSaid) → ((k : ℕ) → said (j + k) ≡ None) → filter_map (snap_said said) (range_with_len j n) ≡ []
none_after zero j said none = refl
none_after (suc n) j said none =
    ap (λ o. cons_option (option_map (snap_told j) o) (filter_map (snap_said said) (range_with_len (j + 1) n))) (ap said (first j) ∙ none 0)
    ∙ none_after n (j + 1) said (λ k. ap said (next j k) ∙ none (suc k))

told_from : (n j : ℕ) (rs : List SnapRecord) (said : SnapsSaid) → ((k : ℕ) → said (j + k) ≡ option_and_then said_by (slice_get rs k)) → length rs ≤ n
    → filter_map (snap_said said) (range_with_len j n) ≡ snaps_from j rs
unfolding snaps_from
told_from n j [] said are few = none_after n j said are
told_from zero j (r ∷ rs) said are few = absurd (omega (arith, few))
told_from (suc n) j (r ∷ rs) said are few =
    ap (λ o. cons_option (option_map (snap_told j) o) (filter_map (snap_said said) (range_with_len (j + 1) n))) (ap said (first j) ∙ are 0)
    ∙ ap (cons_option (option_map (snap_told j) (said_by r))) (told_from n (j + 1) rs said (λ k. ap said (next j k) ∙ are (suc k)) (omega (arith, few)))
    ∙ so (r.name_length == 0)
  where
    so : (free : Bool) → cons_option (option_map (snap_told j) (if free then None else Some (record { name = take r.name_length r.name; table = record { levels = r.levels; root = r.root } }))) (snaps_from (j + 1) rs)
        ≡ (if free then snaps_from (j + 1) rs else record { slot = j; name = take r.name_length r.name; table = record { levels = r.levels; root = r.root } } ∷ snaps_from (j + 1) rs)
    so true = refl
    so false = refl

many_slots : (version : ℕ) → 24 ≤ snapshot_slots version
many_slots version = so (nat_lt 1 version)
  where
    so : (later : Bool) → 24 ≤ cond later 255 24
    so true = omega arith
    so false = omega arith

-- A label with its own records has the head that it spells record by record, in each version.
pub own_head : (version : ℕ) (l : Label) → length l.snapshots ≡ 24 → head_at_slot version l (label_records l) ≡ head_of l
unfolding head_at_slot snaps_told head_of
own_head version l long =
    let many = many_slots version in
    ap (label_head l) (told_from (snapshot_slots version) 1 l.snapshots (label_records l) (λ k. ap (label_records l) (one_on k)) (omega (arith, long, many)))

-- ---- a label in a block

read_as : {X Y : Type 0} (f : X → Y) (v : Verdict) (x y : X) → reading v x ≡ Ok y → f x ≡ f y
read_as f (Ok fine) x y e = let same : x ≡ y = cc in ap f same
read_as f (Err fault) x y e = absurd cc

length_records : (n : ℕ) (bytes : List ℕ) → length (items n 128 snap_of bytes) ≡ n
unfolding items
length_records zero bytes = refl
length_records (suc n) bytes = let rest = length_records n (drop 128 bytes) in omega (arith, rest)

pub few_records : (block : List ℕ) (l : Label) → label_at block ≡ Ok l → length l.snapshots ≡ 24
unfolding label_at
few_records block l e = sym (read_as (λ (l : Label). length l.snapshots) (verdicts (label_fields block) block) _ l e) ∙ length_records 24 (drop 256 block)

-- ---- the heads of an image

lying_head : (version : ℕ) (o : Option Lying) → option_map (λ l. head_at_slot version l (label_records l)) (label_in o) ≡ option_map head_of (label_in o)
unfolding label_in
lying_head version None = refl
lying_head version (Some x) = so (label_at x.block) refl
  where
    so : (r : Result Label Shape) → label_at x.block ≡ r → option_map (λ l. head_at_slot version l (label_records l)) (shaped r) ≡ option_map head_of (shaped r)
    so (Ok l) is = ap (λ (h : Head). Some h) (own_head version l (few_records x.block l is))
    so (Err fault) is = refl

-- The head of each slot of an image is that which its label spells.
pub head_told : (t : Taken) (i : Image) (s : ℕ) → (view_at t i).head s ≡ option_map head_of (label_in (label_lying t i s))
unfolding view_at
head_told t i s = lying_head t.root.version (label_lying t i s)

-- so in place of the view stands the one with the heads that the labels spell
abbrev pub spelled_view : Taken → Image → View
spelled_view t i = record {
  blocks = t.blocks;
  version = t.root.version;
  head = λ s. option_map head_of (label_in (label_lying t i s));
  entry = λ s v. entry_from (label_in (label_lying t i s)) i v;
}

pub view_told : (t : Taken) (i : Image) → view_at t i ≡ spelled_view t i
unfolding view_at
view_told t i = λ k. record {
  blocks = t.blocks;
  version = t.root.version;
  head = λ s. lying_head t.root.version (label_lying t i s) k;
  entry = λ s v. entry_from (label_in (label_lying t i s)) i v;
}
