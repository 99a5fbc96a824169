-- The records of snapshots that a label is written with are in range, and say the same snapshots again.
use Rattle.std.proofs.Common.{◌≡◌, ◌≢◌, ℕ, zero, suc, ◌+◌, ◌-◌, ◌<◌, ◌≤◌, Bool, true, false, not, List, [], ◌∷◌, ◌++◌, map, length, take, get_or, replicate, set, append_assoc, length-append, Option, Some, None, inl, inr, refl, sym, ap, ap₂, subst, ◌∙◌, arith}
use Rattle.std.specs.Prelude.{◌&&◌, ◌==◌, find, nat_lt, nat_le, if◌then◌else◌}
use Rattle.std.specs.List.{All, list_all}
use Rattle.std.proofs.Math.Seq.{take-append_seam}
use Rattle.std.proofs.lemmas.Bool.{and_parts}
use Rattle.std.proofs.lemmas.Bool.Decides.{nat_tests}
use Rattle.std.proofs.lemmas.List.{append-nil, length-replicate, map-append, set_at}
use Rattle.std.proofs.lemmas.List.Elements.{All-nil, All-cons, All-head, All-tail}
use Rattle.std.proofs.lemmas.List.Folds.{list_all-map}
use Rattle.fv_codec.specs.declared.label.SnapRecord.{SnapRecord}
use Rattle.fv_codec.specs.declared.label.Label.{Label}
use Rattle.fv_codec.specs.Blocks.{IsLabel, IsPointerIf, IsSnapRecord, is_used}
use Rattle.fv_codec.specs.Fields.{all_name, name_filled, up_to}
use Rattle.fv_model.specs.Numbers.{most_snapshots}
use Rattle.fv_model.specs.Spelling.{is_name}
use Rattle.fv_laws.proofs.Lists.{In}
use Rattle.fv_laws.proofs.Room.{found_among}
use Rattle.fv_laws.proofs.Tests.{from_all}
use Rattle.fv_image.specs.Views.{Snap, Head, head_of, snaps_from}
use Rattle.fv_image.specs.Mapped.{stored_slots, is_rising}
use Rattle.std.specs.Option.{option_map}
use Rattle.fv_volume.specs.declared.state.Snap.{Snap as StateSnap}
use Rattle.fv_volume.specs.States.{snap_in, snaps_in}
use Rattle.fv_image.proofs.LabelSlots.{label_slots}
use Rattle.fv_volume.specs.SnapRecords.{free_record, record_said, records_from, records_said, snap_said, snaps_recorded, AreSayable, IsSayableSnap}
use Rattle.fv_volume.proofs.Naming.{parts, filled, zeros, named as is_named}

named : (w : List ℕ) → is_name w ≡ true → (length w == 0) ≡ false
named w is = let some = (parts w is).0 in grind (arith, nat_tests, some)

-- ---- in range

pub records_long : (n slot : ℕ) (ps : List Snap) → length (records_from n slot ps) ≡ n
unfolding records_from
records_long zero slot ps = refl
records_long (suc n) slot ps = ap suc (records_long n (slot + 1) ps)

free_in_range : IsSnapRecord free_record
unfolding name_filled all_name
free_in_range = record {
  name_length = omega arith;
  name_long = refl;
  name = zeros 64;
  levels = omega arith;
  root = record { vvbn = omega arith; pvbn = omega arith; stamp = omega arith };
}

record_in_range : (o : Option Snap) → ((p : Snap) → o ≡ Some p → IsSayableSnap p) → IsSnapRecord (record_said o)
record_in_range None each = free_in_range
record_in_range (Some p) each =
    let is = each p refl in
    let used : is_used (length p.name) ≡ true = ap not (named p.name is.name) in
    let short : length p.name ≤ 64 = (parts p.name is.name).1.0 in
    record {
      name_length = short;
      name_long = length-append p.name (replicate (64 - length p.name) 0) ∙ (let rest = length-replicate {A = ℕ} (64 - length p.name) 0 in omega (arith, rest, short));
      name = filled p.name is.name;
      levels = subst (λ (b : Bool). p.table.levels ≤ up_to b 2) (sym used) is.levels;
      root = subst (λ (b : Bool). IsPointerIf b p.table.root) (sym used) is.root;
    }

pub records_in_range : (n slot : ℕ) (ps : List Snap) → ((p : Snap) → In p ps → IsSayableSnap p) → All IsSnapRecord (records_from n slot ps)
unfolding records_from
records_in_range zero slot ps each = All-nil IsSnapRecord
records_in_range (suc n) slot ps each = All-cons IsSnapRecord (record_said (find (λ p. p.slot == slot) ps)) (records_from n (slot + 1) ps)
    (record_in_range (find (λ p. p.slot == slot) ps) (λ p e. each p (found_among (λ p. p.slot == slot) p ps e))) (records_in_range n (slot + 1) ps each)

among : (p : Snap) (ps : List Snap) → All IsSayableSnap ps → In p ps → IsSayableSnap p
among p [] all there = absurd there
among p (q ∷ qs) all (inl e) = subst IsSayableSnap e (All-head IsSayableSnap q qs all)
among p (q ∷ qs) all (inr there) = among p qs (All-tail IsSayableSnap q qs all) there

pub all_said : (h : Head) → AreSayable h → All IsSnapRecord (records_said h.snapshots)
all_said h said = records_in_range most_snapshots 1 h.snapshots (λ p there. among p h.snapshots said.each there)

-- ---- what they say

unequal : (a b : ℕ) → a ≢ b → (a == b) ≡ false
unequal a b e = grind (arith, nat_tests, e)

-- from a slot on, a snapshot of a lower slot says nothing
passed : (n slot : ℕ) (p : Snap) (ps : List Snap) → p.slot < slot → records_from n slot (p ∷ ps) ≡ records_from n slot ps
unfolding records_from
passed zero slot p ps lt = refl
passed (suc n) slot p ps lt =
    let other : p.slot ≢ slot = (λ e. absurd (omega (arith, lt, e))) in
    ap₂ (λ (o : Option Snap) (rs : List SnapRecord). record_said o ∷ rs)
    (ap (λ (b : Bool). if b then Some p else find (λ q. q.slot == slot) ps) (unequal p.slot slot other)) (passed n (slot + 1) p ps (omega (arith, lt)))

none_found : (slot : ℕ) (ps : List Snap) → ((q : Snap) → In q ps → slot < q.slot) → find (λ q. q.slot == slot) ps ≡ None
none_found slot [] each = refl
none_found slot (q ∷ qs) each =
    let gt = each q (inl refl) in
    let other : q.slot ≢ slot = (λ e. absurd (omega (arith, gt, e))) in
    ap (λ (b : Bool). if b then Some q else find (λ q. q.slot == slot) qs) (unequal q.slot slot other) ∙ none_found slot qs (λ d there. each d (inr there))

-- the snapshots of later slots are said again
abbrev Tail : ℕ → ℕ → List Snap → Type 0
Tail n slot ps = ((q : Snap) → In q ps → (slot + 1 ≤ q.slot) × (q.slot < slot + 1 + n)) → is_rising (map (λ (p : Snap). p.slot) ps) ≡ true → snaps_from (slot + 1) (records_from n (slot + 1) ps) ≡ ps

again : (n slot : ℕ) (ps : List Snap) → ((p : Snap) → In p ps → (slot ≤ p.slot) × (p.slot < slot + n)) → is_rising (map (λ (p : Snap). p.slot) ps) ≡ true → ((p : Snap) → In p ps → is_name p.name ≡ true)
    → snaps_from slot (records_from n slot ps) ≡ ps
unfolding records_from snaps_from
again zero slot [] bounds rising names = refl
again zero slot (p ∷ ps) bounds rising names = let b = bounds p (inl refl) in absurd (let low = b.0 in let high = b.1 in omega (arith, low, high))
again (suc n) slot [] bounds rising names = again n (slot + 1) [] (λ p there. absurd there) refl (λ p there. absurd there)
again (suc n) slot (p ∷ ps) bounds rising names = so (p.slot == slot) refl (λ within all. again n (slot + 1) ps within all (λ q there. names q (inr there))) (λ within. again n (slot + 1) (p ∷ ps) within rising names)
  where
    behind : (q : Snap) → In q ps → p.slot < q.slot
    behind q there =
        let all = (and_parts (list_all (nat_lt p.slot) (map (λ (p : Snap). p.slot) ps)) _ rising).0 in
        let is : nat_lt p.slot q.slot ≡ true = from_all (λ (d : Snap). nat_lt p.slot d.slot) ps (sym (list_all-map (nat_lt p.slot) (λ (d : Snap). d.slot) ps) ∙ all) q there in
        grind (arith, nat_tests, is)

    rest : is_rising (map (λ (p : Snap). p.slot) ps) ≡ true
    rest = (and_parts (list_all (nat_lt p.slot) (map (λ (p : Snap). p.slot) ps)) _ rising).1

    here : (slot ≤ p.slot) × (p.slot < slot + suc n)
    here = bounds p (inl refl)

    later : p.slot ≡ slot → Tail n slot ps → snaps_from (slot + 1) (records_from n (slot + 1) (p ∷ ps)) ≡ ps
    later at tail =
        ap (snaps_from (slot + 1)) (passed n (slot + 1) p ps (omega (arith, at)))
        ∙ tail (λ q there. let gt = behind q there in let high = (bounds q (inr there)).1 in (omega (arith, gt, at), omega (arith, high))) rest

    above : p.slot ≢ slot → (q : Snap) → In q (p ∷ ps) → (slot + 1 ≤ q.slot) × (q.slot < slot + 1 + n)
    above other q (inl e) = let low = here.0 in let high = here.1 in subst (λ (d : Snap). (slot + 1 ≤ d.slot) × (d.slot < slot + 1 + n)) e (omega (arith, low, other), omega (arith, high))
    above other q (inr there) = let gt = behind q there in let low = here.0 in let high = (bounds q (inr there)).1 in (omega (arith, gt, low), omega (arith, high))

    so : (b : Bool) → (p.slot == slot) ≡ b → Tail n slot ps → (((q : Snap) → In q (p ∷ ps) → (slot + 1 ≤ q.slot) × (q.slot < slot + 1 + n)) → snaps_from (slot + 1) (records_from n (slot + 1) (p ∷ ps)) ≡ p ∷ ps)
        → snaps_from slot (record_said (if b then Some p else find (λ q. q.slot == slot) ps) ∷ records_from n (slot + 1) (p ∷ ps)) ≡ p ∷ ps
    so true is tail whole =
        let at : p.slot ≡ slot = grind (arith, nat_tests, is) in
        ap (λ (b : Bool). if b then snaps_from (slot + 1) (records_from n (slot + 1) (p ∷ ps)) else record { slot = slot; name = take (length p.name) (p.name ++ replicate (64 - length p.name) 0); table = p.table } ∷ snaps_from (slot + 1) (records_from n (slot + 1) (p ∷ ps))) (named p.name (names p (inl refl)))
        ∙ (λ i. record { slot = sym at i; name = take-append_seam p.name (replicate (64 - length p.name) 0) i; table = p.table } ∷ later at tail i)
    so false is tail whole =
        let other : p.slot ≢ slot = (λ e. absurd (let same : (p.slot == slot) ≡ true = grind (arith, nat_tests, e) in wrong (sym is ∙ same))) in
        let low = here.0 in
        ap (λ (o : Option Snap). snaps_from slot (record_said o ∷ records_from n (slot + 1) (p ∷ ps))) (none_found slot ps (λ q there. let gt = behind q there in omega (arith, gt, low)))
        ∙ whole (above other)
      where
        wrong : false ≡ true → ⊥
        wrong e = cc

-- A label says the snapshots again that it was written with.
pub snaps_again : (h : Head) → AreSayable h → snaps_from 1 (records_said h.snapshots) ≡ h.snapshots
snaps_again h said = again most_snapshots 1 h.snapshots within said.slots.rising (λ p there. (among p h.snapshots said.each there).name)
  where
    within : (p : Snap) → In p h.snapshots → (1 ≤ p.slot) × (p.slot < 1 + most_snapshots)
    within p there =
        let is = and_parts (nat_le 1 p.slot) (nat_lt p.slot stored_slots) (from_all (λ p. nat_le 1 p.slot && nat_lt p.slot stored_slots) h.snapshots said.slots.within p there) in
        let low = is.0 in
        let high = is.1 in
        (grind (arith, nat_tests, low), let lt : p.slot < stored_slots = grind (arith, nat_tests, high) in omega (arith, lt))

-- ---- what a label says

-- a snapshot that a record of a label says can be said again
again_sayable : (r : SnapRecord) → IsSnapRecord r → (r.name_length == 0) ≡ false → (slot : ℕ) → IsSayableSnap (snap_said slot r)
again_sayable r is used slot =
    let some : 1 ≤ r.name_length = grind (arith, nat_tests, used) in
    record {
      name = is_named r.name r.name_length is.name_long some is.name_length is.name;
      levels = subst (λ (b : Bool). r.levels ≤ up_to (not b) 2) used is.levels;
      root = subst (λ (b : Bool). IsPointerIf (not b) r.root) used is.root;
    }

each_sayable : (rs : List SnapRecord) (slot : ℕ) → All IsSnapRecord rs → All IsSayableSnap (snaps_from slot rs)
unfolding snaps_from
each_sayable [] slot all = All-nil IsSayableSnap
each_sayable (r ∷ rs) slot all = so (r.name_length == 0) refl (each_sayable rs (slot + 1) (All-tail IsSnapRecord r rs all))
  where
    so : (b : Bool) → (r.name_length == 0) ≡ b → All IsSayableSnap (snaps_from (slot + 1) rs) → All IsSayableSnap (if b then snaps_from (slot + 1) rs else snap_said slot r ∷ snaps_from (slot + 1) rs)
    so true is rest = rest
    so false is rest = All-cons IsSayableSnap (snap_said slot r) (snaps_from (slot + 1) rs) (again_sayable r (All-head IsSnapRecord r rs all) is slot) rest

pub label_sayable : (l : Label) → IsLabel l → length l.snapshots ≡ most_snapshots → AreSayable (head_of l)
unfolding head_of
label_sayable l range long = record { slots = label_slots l long; each = each_sayable l.snapshots 1 range.snapshots }

-- ---- record by record

pub snaps_more : (rs : List SnapRecord) (slot n : ℕ) (d : SnapRecord) → n < length rs → snaps_from slot (take (n + 1) rs) ≡ snaps_from slot (take n rs) ++ snaps_recorded (slot + n) (get_or rs n d)
unfolding snaps_from
snaps_more [] slot n d within = absurd (omega (arith, within))
snaps_more (r ∷ rs) slot zero d within = ap (λ (j : ℕ). snaps_recorded j r) (let same : slot ≡ slot + 0 = omega arith in same)
snaps_more (r ∷ rs) slot (suc n) d within =
    ap (λ (m : ℕ). snaps_from slot (take m (r ∷ rs))) (let next : suc n + 1 ≡ suc (n + 1) = omega arith in next)
    ∙ so (r.name_length == 0) (snaps_more rs (slot + 1) n d (omega (arith, within)) ∙ ap (λ (j : ℕ). snaps_from (slot + 1) (take n rs) ++ snaps_recorded j (get_or rs n d)) (let at : slot + 1 + n ≡ slot + suc n = omega arith in at))
  where
    so : (b : Bool) → snaps_from (slot + 1) (take (n + 1) rs) ≡ snaps_from (slot + 1) (take n rs) ++ snaps_recorded (slot + suc n) (get_or rs n d)
        → (if b then snaps_from (slot + 1) (take (n + 1) rs) else snap_said slot r ∷ snaps_from (slot + 1) (take (n + 1) rs)) ≡ (if b then snaps_from (slot + 1) (take n rs) else snap_said slot r ∷ snaps_from (slot + 1) (take n rs)) ++ snaps_recorded (slot + suc n) (get_or rs n d)
    so true rest = rest
    so false rest = ap (λ (ps : List Snap). snap_said slot r ∷ ps) rest

-- one more of those that were taken
pub said_more : (rs : List SnapRecord) (n : ℕ) (d : SnapRecord) (old new : List StateSnap) → n < length rs → snaps_in old ≡ snaps_from 1 (take n rs) → snaps_in new ≡ snaps_in old ++ snaps_recorded (n + 1) (get_or rs n d) → snaps_in new ≡ snaps_from 1 (take (n + 1) rs)
said_more rs n d old new within before more =
    more ∙ ap₂ (λ (ps : List Snap) (j : ℕ). ps ++ snaps_recorded j (get_or rs n d)) before (let at : n + 1 ≡ 1 + n = omega arith in at) ∙ sym (snaps_more rs 1 n d within)

pub none_said : (r : SnapRecord) (slot : ℕ) (ps : List Snap) → r.name_length ≡ 0 → ps ≡ ps ++ snaps_recorded slot r
none_said r slot ps free = sym (ap (λ (b : Bool). ps ++ (if b then [] else snap_said slot r ∷ [])) (let is : (r.name_length == 0) ≡ true = grind (arith, nat_tests, free) in is) ∙ append-nil ps)

pub one_said : (r : SnapRecord) (slot : ℕ) (old new : List StateSnap) (p : StateSnap) → r.name_length ≢ 0 → snap_in p ≡ snap_said slot r → new ≡ old ++ p ∷ [] → snaps_in new ≡ snaps_in old ++ snaps_recorded slot r
one_said r slot old new p used is added =
    ap snaps_in added ∙ map-append snap_in old (p ∷ []) ∙ ap (λ (d : Snap). snaps_in old ++ d ∷ []) is
    ∙ sym (ap (λ (b : Bool). snaps_in old ++ (if b then [] else snap_said slot r ∷ [])) (let isnt : (r.name_length == 0) ≡ false = grind (arith, nat_tests, used) in isnt))

records_more : (n slot : ℕ) (ps : List Snap) → records_from (n + 1) slot ps ≡ records_from n slot ps ++ record_said (find (λ p. p.slot == slot + n) ps) ∷ []
unfolding records_from
records_more zero slot ps = ap (λ (j : ℕ). record_said (find (λ p. p.slot == j) ps) ∷ []) (let same : slot ≡ slot + 0 = omega arith in same)
records_more (suc n) slot ps =
    ap (λ (m : ℕ). records_from m slot ps) (let next : suc n + 1 ≡ suc (n + 1) = omega arith in next)
    ∙ ap (λ (rs : List SnapRecord). record_said (find (λ p. p.slot == slot) ps) ∷ rs) (records_more n (slot + 1) ps ∙ ap (λ (j : ℕ). records_from n (slot + 1) ps ++ record_said (find (λ p. p.slot == j) ps) ∷ []) (let at : slot + 1 + n ≡ slot + suc n = omega arith in at))

-- the record of one slot more is written over a free one
record_put : (n m : ℕ) (ps : List Snap) (x : SnapRecord) → x ≡ record_said (find (λ p. p.slot == n + 1) ps) → set (records_from n 1 ps ++ replicate (suc m) free_record) n x ≡ records_from (n + 1) 1 ps ++ replicate m free_record
record_put n m ps x is =
    set_at (records_from n 1 ps) free_record (replicate m free_record) x n (records_long n 1 ps)
    ∙ sym (append_assoc (records_from n 1 ps) (x ∷ []) (replicate m free_record))
    ∙ ap (λ (rs : List SnapRecord). rs ++ replicate m free_record) (ap (λ (r : SnapRecord). records_from n 1 ps ++ r ∷ []) (is ∙ ap (λ (j : ℕ). record_said (find (λ p. p.slot == j) ps)) (let at : n + 1 ≡ 1 + n = omega arith in at)) ∙ sym (records_more n 1 ps))

pub record_next : (n : ℕ) (ps : List Snap) (x : SnapRecord) (rs : List SnapRecord) → n < most_snapshots → rs ≡ records_from n 1 ps ++ replicate (most_snapshots - n) free_record → x ≡ record_said (find (λ p. p.slot == n + 1) ps) → set rs n x ≡ records_from (n + 1) 1 ps ++ replicate (most_snapshots - (n + 1)) free_record
record_next n ps x rs within before is =
    ap (λ (old : List SnapRecord). set old n x) (before ∙ ap (λ (k : ℕ). records_from n 1 ps ++ replicate k free_record) (let left : most_snapshots - n ≡ suc (most_snapshots - (n + 1)) = omega (arith, within) in left))
    ∙ record_put n (most_snapshots - (n + 1)) ps x is

pub records_first : (ps : List Snap) → replicate most_snapshots free_record ≡ records_from 0 1 ps ++ replicate (most_snapshots - 0) free_record
unfolding records_from
records_first ps = refl

pub records_all : (n : ℕ) (ps : List Snap) (rs : List SnapRecord) → n ≡ most_snapshots → rs ≡ records_from n 1 ps ++ replicate (most_snapshots - n) free_record → rs ≡ records_said ps
records_all n ps rs all before = before ∙ ap (λ (k : ℕ). records_from k 1 ps ++ replicate (most_snapshots - k) free_record) all ∙ append-nil (records_said ps)

-- the snapshot of a slot, as a head has it
found_in : (snaps : List StateSnap) (slot : ℕ) → find (λ p. p.slot == slot) (snaps_in snaps) ≡ option_map snap_in (find (λ p. p.slot == slot) snaps)
found_in [] slot = refl
found_in (p ∷ ps) slot = so (p.slot == slot) (found_in ps slot)
  where
    so : (b : Bool) → find (λ q. q.slot == slot) (snaps_in ps) ≡ option_map snap_in (find (λ q. q.slot == slot) ps) → (if b then Some (snap_in p) else find (λ q. q.slot == slot) (snaps_in ps)) ≡ option_map snap_in (if b then Some p else find (λ q. q.slot == slot) ps)
    so true rest = refl
    so false rest = rest

pub record_found : (snaps : List StateSnap) (slot : ℕ) (o : Option StateSnap) → o ≡ find (λ p. p.slot == slot) snaps → record_said (option_map snap_in o) ≡ record_said (find (λ p. p.slot == slot) (snaps_in snaps))
record_found snaps slot o is = ap (λ (p : Option StateSnap). record_said (option_map snap_in p)) is ∙ ap record_said (sym (found_in snaps slot))
