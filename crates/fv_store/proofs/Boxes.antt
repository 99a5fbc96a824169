-- Each call does to the blocks what it does to their boxes.
use Rattle.std.proofs.Common.{◌≡◌, ℕ, ◌-◌, Bool, true, false, cond, List, [], ◌∷◌, take, Option, Some, None, refl, sym, ap, ◌∙◌, nat_eq}
use Rattle.std.specs.Prelude.{option_map}
use Rattle.std.specs.Global.{Box}
use Rattle.std.specs.Option.{option_map_or}
use Rattle.std.specs.Map.{lookup, lookup_entry, remove_entry, set_value}
use Rattle.std.proofs.lemmas.List.{take-map}
use Rattle.std.proofs.lemmas.Map.Made.{lookup-map_values}
use Rattle.lru.specs.LruCache.{lru_cache, promoted, put_entries}
use Rattle.fv_store.specs.Held.{block_at}
use Rattle.fv_store.specs.Boxed.{unboxed}

abbrev Boxes : Type 0
Boxes = List (ℕ × Box (List ℕ))

pub found_in : (es : Boxes) (k : ℕ) → block_at (unboxed es) k ≡ option_map (λ box. box.value) (lookup (nat_eq k) es)
found_in es k = lookup-map_values (λ box. box.value) (nat_eq k) es

pub removed_in : (es : Boxes) (k : ℕ) → unboxed (remove_entry (nat_eq k) es) ≡ remove_entry (nat_eq k) (unboxed es)
removed_in [] k = refl
removed_in (e ∷ es) k = by (nat_eq k e.0) (removed_in es k)
  where
    by : (b : Bool) → unboxed (remove_entry (nat_eq k) es) ≡ remove_entry (nat_eq k) (unboxed es) → unboxed (cond b es (e ∷ remove_entry (nat_eq k) es)) ≡ cond b (unboxed es) ((e.0, e.1.value) ∷ remove_entry (nat_eq k) (unboxed es))
    by true rest = refl
    by false rest = ap (λ l. (e.0, e.1.value) ∷ l) rest

pub overwritten_in : (es : Boxes) (k : ℕ) (box : Box (List ℕ)) → unboxed (set_value (nat_eq k) es box) ≡ set_value (nat_eq k) (unboxed es) box.value
overwritten_in [] k box = refl
overwritten_in (e ∷ es) k box = by (nat_eq k e.0) (overwritten_in es k box)
  where
    by : (b : Bool) → unboxed (set_value (nat_eq k) es box) ≡ set_value (nat_eq k) (unboxed es) box.value → unboxed (cond b ((e.0, box) ∷ es) (e ∷ set_value (nat_eq k) es box)) ≡ cond b ((e.0, box.value) ∷ unboxed es) ((e.0, e.1.value) ∷ set_value (nat_eq k) (unboxed es) box.value)
    by true rest = refl
    by false rest = ap (λ l. (e.0, e.1.value) ∷ l) rest

entry_in : (es : Boxes) (k : ℕ) → lookup_entry (nat_eq k) (unboxed es) ≡ option_map (λ e. (e.0, e.1.value)) (lookup_entry (nat_eq k) es)
entry_in [] k = refl
entry_in (e ∷ es) k = by (nat_eq k e.0) (entry_in es k)
  where
    by : (b : Bool) → lookup_entry (nat_eq k) (unboxed es) ≡ option_map (λ e. (e.0, e.1.value)) (lookup_entry (nat_eq k) es) → cond b (Some (e.0, e.1.value)) (lookup_entry (nat_eq k) (unboxed es)) ≡ option_map (λ e. (e.0, e.1.value)) (cond b (Some e) (lookup_entry (nat_eq k) es))
    by true rest = refl
    by false rest = rest

pub promoted_in : (es : Boxes) (k : ℕ) → unboxed (promoted (nat_eq k) es) ≡ promoted (nat_eq k) (unboxed es)
promoted_in es k = by (lookup_entry (nat_eq k) es) ∙ sym (ap (λ o. option_map_or (λ e. e ∷ remove_entry (nat_eq k) (unboxed es)) o (unboxed es)) (entry_in es k))
  where
    by : (o : Option (ℕ × Box (List ℕ))) → unboxed (option_map_or (λ e. e ∷ remove_entry (nat_eq k) es) o es) ≡ option_map_or (λ e. e ∷ remove_entry (nat_eq k) (unboxed es)) (option_map (λ e. (e.0, e.1.value)) o) (unboxed es)
    by None = refl
    by (Some e) = ap (λ l. (e.0, e.1.value) ∷ l) (removed_in es k)

pub put_in : (es : Boxes) (capacity k : ℕ) (box : Box (List ℕ)) → unboxed (put_entries nat_eq (lru_cache es capacity) k box) ≡ put_entries nat_eq (lru_cache (unboxed es) capacity) k box.value
put_in es capacity k box = by (lookup_entry (nat_eq k) es) ∙ sym (ap (λ (o : Option (ℕ × List ℕ)). option_map_or (λ (e : ℕ × List ℕ). (e.0, box.value) ∷ remove_entry (nat_eq k) (unboxed es)) o ((k, box.value) ∷ take (capacity - 1) (unboxed es))) (entry_in es k))
  where
    by : (o : Option (ℕ × Box (List ℕ))) → unboxed (option_map_or (λ (e : ℕ × Box (List ℕ)). (e.0, box) ∷ remove_entry (nat_eq k) es) o ((k, box) ∷ take (capacity - 1) es)) ≡ option_map_or (λ (e : ℕ × List ℕ). (e.0, box.value) ∷ remove_entry (nat_eq k) (unboxed es)) (option_map (λ e. (e.0, e.1.value)) o) ((k, box.value) ∷ take (capacity - 1) (unboxed es))
    by None = ap (λ l. (k, box.value) ∷ l) (sym (take-map (λ (e : ℕ × Box (List ℕ)). (e.0, e.1.value)) (capacity - 1) es))
    by (Some e) = ap (λ l. (e.0, box.value) ∷ l) (removed_in es k)
