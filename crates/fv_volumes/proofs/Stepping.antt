-- One slot more is loaded.
use Rattle.std.proofs.Common.{◌≡◌, ◌≢◌, ◌<◌, ◌≤◌, ◌+◌, ℕ, zero, suc, [], ◌∷◌, ◌++◌, length, length-append, replicate, Option, Some, None, refl, sym, ap, subst, ◌∙◌, ⊎_elim, arith}
use Rattle.std.specs.Prelude.{IfSome, slice_index_or}
use Rattle.std.proofs.lemmas.Bool.{cases_eq, cases_lt}
use Rattle.std.proofs.lemmas.List.{get_or_past, length-replicate}
use Rattle.fv_disk.specs.Shown.{Image}
use Rattle.fv_codec.specs.declared.label.Label.{Label}
use Rattle.fv_image.specs.Views.{Head, entry_count, head_of}
use Rattle.fv_container.specs.Chains.{Slots, container_at, map_in, no_containers, paged_at, parent_at, slot_count}
use Rattle.fv_container.specs.Mapped.{Mapped}
use Rattle.fv_container.specs.Paged.{Paged}
use Rattle.fv_root.specs.declared.find.Found.{Found}
use Rattle.fv_volume.specs.declared.state.VolumeState.{VolumeState}
use Rattle.fv_volume.specs.Files.{IsLabelled}
use Rattle.fv_volume.specs.Loading.{Houses, IsFilled, IsLoaded, IsRead, KeepsOthers, LoadedTo, ReadTo}
use Rattle.fv_volume.specs.States.{States, head_in, parent_in, state_at}

at_front : (xs : States) (x : Option VolumeState) (s : ℕ) → s < length xs → state_at (xs ++ x ∷ []) s ≡ state_at xs s
at_front [] x s lt = absurd (omega (arith, lt))
at_front (y ∷ ys) x zero lt = refl
at_front (y ∷ ys) x (suc s) lt = at_front ys x s (omega (arith, lt))

at_end : (xs : States) (x : Option VolumeState) → state_at (xs ++ x ∷ []) (length xs) ≡ x
at_end [] x = refl
at_end (y ∷ ys) x = at_end ys x

past_end : (xs : States) (x : Option VolumeState) (s : ℕ) → length xs < s → state_at (xs ++ x ∷ []) s ≡ None
past_end [] x zero lt = absurd (omega (arith, lt))
past_end [] x (suc s) lt = refl
past_end (y ∷ ys) x zero lt = absurd (omega (arith, lt))
past_end (y ∷ ys) x (suc s) lt = past_end ys x s (omega (arith, lt))

pub loaded_more : (i : Image) (found : Found) (count : ℕ) (states : States) (old : Slots) (x : Option VolumeState) (new : Slots) → ReadTo count states old → LoadedTo i found count states old
    → ((s : ℕ) → s ≢ count → paged_at new s ≡ paged_at old s) → IsLoaded i found count x (paged_at new count) → LoadedTo i found (count + 1) (states ++ x ∷ []) new
loaded_more i found count states old x new kept was others now = record {
  each = λ s lt. ⊎_elim
      (λ (here : s ≡ count). subst (λ k. IsLoaded i found k (state_at (states ++ x ∷ []) k) (paged_at new k)) (sym here)
      (subst (λ (y : Option VolumeState). IsLoaded i found count y (paged_at new count)) (sym (ap (state_at (states ++ x ∷ [])) (sym kept.long) ∙ at_end states x)) now))
      (λ (other : s ≢ count).
      let before : s < length states = omega (arith, lt, other, kept.long) in
      subst (λ c. IsLoaded i found s (state_at (states ++ x ∷ []) s) c) (sym (others s other))
      (subst (λ (y : Option VolumeState). IsLoaded i found s y (paged_at old s)) (sym (at_front states x s before)) (was.each s (omega (arith, before, kept.long)))))
      (cases_eq s count);
}

-- what holds of each volume of the slots holds with one slot more
each_more : (P : ℕ → VolumeState → Type 0) (count : ℕ) (states : States) (x : Option VolumeState) → length states ≡ count → ((s : ℕ) → IfSome (state_at states s) (P s)) → IfSome x (P count)
    → (s : ℕ) → IfSome (state_at (states ++ x ∷ []) s) (P s)
each_more P count states x long each one s = ⊎_elim
    (λ (here : s ≡ count). subst (λ k. IfSome (state_at (states ++ x ∷ []) k) (P k)) (sym here)
    (subst (λ (y : Option VolumeState). IfSome y (P count)) (sym (ap (state_at (states ++ x ∷ [])) (sym long) ∙ at_end states x)) one))
    (λ (other : s ≢ count). ⊎_elim
    (λ (before : s < length states). subst (λ (y : Option VolumeState). IfSome y (P s)) (sym (at_front states x s before)) (each s))
    (λ (after : length states ≤ s). let past : length states < s = omega (arith, after, other, long) in subst (λ (y : Option VolumeState). IfSome y (P s)) (sym (past_end states x s past)) tt)
    (cases_lt s (length states)))
    (cases_eq s count)

pub read_more : (count : ℕ) (states : States) (old : Slots) (x : Option VolumeState) (new : Slots) → ReadTo count states old → KeepsOthers count old new → IsFilled count new x
    → ReadTo (count + 1) (states ++ x ∷ []) new
read_more count states old x new kept leaves filled = record {
  long = length-append states (x ∷ []) ∙ omega (arith, kept.long);
  few = leaves.few;
  free = λ s le. leaves.others s (omega (arith, le)) ∙ kept.free s (omega (arith, le));
  each = each_more IsLabelled count states x kept.long kept.each filled.state;
  read = each_more (λ s. IsRead) count states x kept.long kept.read filled.read;
  housed = λ s. ⊎_elim
      (λ (here : s ≡ count). subst (λ k. Houses (state_at (states ++ x ∷ []) k) (container_at new k)) (sym here)
      (subst (λ (y : Option VolumeState). Houses y (container_at new count)) (sym (ap (state_at (states ++ x ∷ [])) (sym kept.long) ∙ at_end states x)) filled.housed))
      (λ (other : s ≢ count). ⊎_elim
      (λ (before : s < length states). subst (λ (c : Option Paged). Houses (state_at (states ++ x ∷ []) s) (map_in c)) (sym (leaves.others s other))
      (subst (λ (y : Option VolumeState). Houses y (container_at old s)) (sym (at_front states x s before)) (kept.housed s)))
      (λ (after : length states ≤ s). let past : length states < s = omega (arith, after, other, kept.long) in subst (λ (y : Option VolumeState). Houses y (container_at new s)) (sym (past_end states x s past)) tt)
      (cases_lt s (length states)))
      (cases_eq s count);
  parents = λ s. ⊎_elim
      (λ (here : s ≡ count). ap (parent_at new) here ∙ filled.parent ∙ ap parent_in (sym (ap (state_at (states ++ x ∷ [])) (here ∙ sym kept.long) ∙ at_end states x)))
      (λ (other : s ≢ count). leaves.parents s other ∙ kept.parents s ∙ ap parent_in (⊎_elim
      (λ (before : s < length states). sym (at_front states x s before))
      (λ (after : length states ≤ s). get_or_past states s None after ∙ sym (past_end states x s (omega (arith, after, other, kept.long))))
      (cases_lt s (length states))))
      (cases_eq s count);
}

-- a slot that isn't filled yet has no parent
pub no_parent_yet : (count : ℕ) (states : States) (slots : Slots) → ReadTo count states slots → parent_at slots count ≡ None
no_parent_yet count states slots kept = kept.parents count ∙ ap parent_in (get_or_past states count None (omega (arith, kept.long)))

pub none_in : {X : Type 0} (n s : ℕ) → ◌≡◌ {A = Option X} (slice_index_or (replicate n None) s None) None
none_in zero s = refl
none_in (suc n) zero = refl
none_in (suc n) (suc s) = none_in n s

-- a volume has the container that was read by its label
pub has_container : (l : Label) (x : VolumeState) (paged : Paged) (c : Option Paged) → head_in x ≡ head_of l → length paged.map.entries ≡ entry_count l.span → c ≡ Some paged → Houses (Some x) (map_in c)
unfolding head_of
has_container l x paged c head long there =
    let span : x.span ≡ l.span = ap (λ (h : Head). h.span) head in
    subst (λ (o : Option Paged). Houses (Some x) (map_in o)) (sym there) (long ∙ ap entry_count (sym span))

-- no slot is loaded yet
pub read_none : (states : States) (containers : Slots) → states ≡ [] → containers ≡ no_containers → ReadTo 0 states containers
read_none states containers empty none = record {
  long = ap length empty;
  few = ap (λ (c : Slots). length c.containers) none ∙ length-replicate {A = Option Paged} slot_count None;
  free = λ s le. ap (λ (c : Slots). paged_at c s) none ∙ none_in slot_count s;
  each = λ s. subst (λ (xs : States). IfSome (state_at xs s) (IsLabelled s)) (sym empty) (nothing IsLabelled s);
  read = λ s. subst (λ (xs : States). IfSome (state_at xs s) IsRead) (sym empty) (nothing (λ s. IsRead) s);
  housed = λ s. subst (λ (xs : States). Houses (state_at xs s) (container_at containers s)) (sym empty) (homeless s (container_at containers s));
  parents = λ s. ap (λ (c : Slots). parent_at c s) none ∙ none_in slot_count s ∙ sym (ap (λ (xs : States). parent_in (state_at xs s)) empty ∙ parentless s);
}
  where
    homeless : (s : ℕ) (c : Option Mapped) → Houses (state_at [] s) c
    homeless zero c = tt
    homeless (suc s) c = tt

    parentless : (s : ℕ) → parent_in (state_at [] s) ≡ None
    parentless zero = refl
    parentless (suc s) = refl

    nothing : (P : ℕ → VolumeState → Type 0) (s : ℕ) → IfSome (state_at [] s) (P s)
    nothing P zero = tt
    nothing P (suc s) = tt
