-- The names of a volume's snapshots in byte order, and a map slot that is free again.
use Rattle.std.proofs.Common.{◌+◌, ◌≡◌, ◌<◌, ◌-◌, ℕ, zero, suc, List, [], ◌∷◌, length, drop, map, None, refl, sym, ap, ◌∙◌, arith, Less, Equal, Greater}
use Rattle.std.specs.Prelude.{slice_index_or, slice_set}
use Rattle.std.specs.Ordering.{match_ordering}
use Rattle.std.specs.declared.cmp.Ordering.{Ordering}
use Rattle.std.specs.BTreeSet.{insert_key}
use Rattle.std.specs.FinMap as fin
use Rattle.std.specs.FinMap.{put}
use Rattle.std.specs.FinMap.Entries.{by_order}
use Rattle.fv_model.specs.Spelling.{name_cmp}
use Rattle.fv_laws.proofs.Orders.{name_total}
use Rattle.fv_image.specs.Views.{Snap as Named}
use Rattle.fv_image.proofs.Uses.{no_entries}
use Rattle.fv_tables.specs.Spelled.{Under}
use Rattle.fv_model.specs.Tables.{Table}
use Rattle.fv_volmap.specs.Slots.{Slot, Volume as Maps, slot_at, with_slot}
use Rattle.fv_volume.specs.declared.state.Snap.{Snap}
use Rattle.fv_volume.specs.OneVolume.{snap_by, snaps_by}
use Rattle.fv_volume.specs.Snaps.{names_kept}
use Rattle.fv_volume.specs.States.{snap_in}

-- ---- names

module _ {X : Type 0} where
  keys_chosen : (r : Ordering) (a b c : List (List ℕ × X)) → map (λ e. e.0) (by_order r a b c) ≡ match_ordering r (map (λ e. e.0) a) (map (λ e. e.0) b) (map (λ e. e.0) c)
  keys_chosen Less a b c = refl
  keys_chosen Equal a b c = refl
  keys_chosen Greater a b c = refl

  -- a name that is put among others is put among their keys
  pub keys_put : (es : List (List ℕ × X)) (k : List ℕ) (v : X) → map (λ e. e.0) (put name_cmp k v es) ≡ insert_key name_cmp (map (λ e. e.0) es) k
  keys_put [] k v = refl
  keys_put (e ∷ es) k v = keys_chosen (name_cmp k e.0) _ _ _
      ∙ ap (λ (rest : List (List ℕ)). match_ordering (name_cmp k e.0) (k ∷ e.0 ∷ map (λ e. e.0) es) (e.0 ∷ map (λ e. e.0) es) (e.0 ∷ rest)) (keys_put es k v)

-- The names are those under which tables are told.
pub names_told : (snaps : List Snap) (blocks : ℕ → Under) → names_kept snaps ≡ fin.keys (snaps_by blocks snaps)
unfolding names_kept
names_told [] blocks = sym (ap (λ (es : List (List ℕ × Table)). map (λ e. e.0) es) (no_entries name_cmp))
names_told (q ∷ qs) blocks =
    let m : fin.FinMap name_cmp Table = snaps_by blocks qs in
    let e = snap_by blocks q in
    sym (ap (λ (es : List (List ℕ × Table)). map (λ e. e.0) es) (fin.entries-insert name_total m e.0 e.1)
    ∙ keys_put (fin.entries m) e.0 e.1 ∙ ap (λ (names : List (List ℕ)). insert_key name_cmp names q.name) (sym (names_told qs blocks)))

names_end : (snaps : List Snap) → names_kept (drop (length snaps) snaps) ≡ []
unfolding names_kept
names_end [] = refl
names_end (q ∷ qs) = names_end qs

pub names_none : (snaps : List Snap) → names_kept (drop (length snaps - 0) snaps) ≡ []
names_none snaps = ap (λ (n : ℕ). names_kept (drop n snaps)) (let all : length snaps - 0 ≡ length snaps = omega arith in all) ∙ names_end snaps

names_at : (snaps : List Snap) (k : ℕ) (d : Snap) → k < length snaps → names_kept (drop k snaps) ≡ insert_key name_cmp (names_kept (drop (suc k) snaps)) (slice_index_or snaps k d).name
unfolding names_kept
names_at [] k d within = absurd (omega (arith, within))
names_at (q ∷ qs) zero d within = refl
names_at (q ∷ qs) (suc k) d within = names_at qs k d (omega (arith, within))

pub names_more : (snaps : List Snap) (k : ℕ) (d : Snap) → k < length snaps
    → names_kept (drop (length snaps - (k + 1)) snaps) ≡ insert_key name_cmp (names_kept (drop (length snaps - k) snaps)) (slice_index_or snaps (length snaps - 1 - k) d).name
names_more snaps k d within =
    let low : length snaps - (k + 1) < length snaps = omega (arith, within) in
    let next : suc (length snaps - (k + 1)) ≡ length snaps - k = omega (arith, within) in
    let same : length snaps - (k + 1) ≡ length snaps - 1 - k = omega (arith, within) in
    names_at snaps (length snaps - (k + 1)) d low
    ∙ (λ i. insert_key name_cmp (names_kept (drop (next i) snaps)) (slice_index_or snaps (same i) d).name)

-- One name more is put among those of the snapshots behind it.
pub names_step : (snaps : List Snap) (k : ℕ) (d : Snap) (old new : List (List ℕ)) → k < length snaps
    → new ≡ insert_key name_cmp old (slice_index_or snaps (length snaps - 1 - k) d).name → old ≡ names_kept (drop (length snaps - k) snaps) → new ≡ names_kept (drop (length snaps - (k + 1)) snaps)
names_step snaps k d old new within put was = put ∙ ap (λ (keys : List (List ℕ)). insert_key name_cmp keys (slice_index_or snaps (length snaps - 1 - k) d).name) was ∙ sym (names_more snaps k d within)

-- ---- a free slot

set_twice : (slots : List Slot) (j : ℕ) (x : Slot) → slice_index_or slots j None ≡ None → slice_set (slice_set slots j x) j None ≡ slots
set_twice [] j x free = refl
set_twice (s ∷ ss) zero x free = ap (λ (t : Slot). t ∷ ss) (sym free)
set_twice (s ∷ ss) (suc j) x free = ap (λ (rest : List Slot). s ∷ rest) (set_twice ss j x free)

-- a slot that was free is so again
pub slot_back : (m : Maps) (j : ℕ) (x : Slot) → slot_at m j ≡ None → with_slot (with_slot m j x) j None ≡ m
slot_back m j x free = ap (λ (slots : List Slot). record { span = m.span; slots = slots }) (set_twice m.slots j x free)

-- a head has the names of its snapshots
pub names_in : (snaps : List Snap) → map (λ (q : Snap). q.name) snaps ≡ map (λ (p : Named). p.name) (map snap_in snaps)
names_in [] = refl
names_in (q ∷ qs) = ap (λ (ns : List (List ℕ)). q.name ∷ ns) (names_in qs)
