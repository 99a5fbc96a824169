-- What the calls of the cache make of the list.
use Rattle.std.proofs.Common.{◌≡◌, ℕ, List, Option, Some, None, Result, Ok, Err, OnOk, OnErr, refl, ap, ◌∙◌, inl, inr, Bool, true, false, cond, nat_eq}
use Rattle.std.specs.Global.{Box}
use Rattle.std.specs.Map.{remove_entry, set_value}
use Rattle.lru.specs.LruCache.{lru_cache, promoted, put_entries}
use Rattle.fv_store.specs.Held.{block_at, without, to_front, IsStore, Keeps, Renews}
use Rattle.fv_store.specs.Boxed.{Cache, unboxed, held_in}
use Rattle.fv_store.proofs.Boxes.{removed_in, promoted_in, put_in}
use Rattle.fv_store.proofs.Lists.{removed_is, promoted_is, promoted_none, put_absent, store_front, store_more, store_without, overwritten_absent, overwritten_front}

module _ (old new : Cache) (k : ℕ) where
  pub popped : IsStore (held_in old) → new ≡ lru_cache (remove_entry (nat_eq k) old.entries) old.cap → unboxed new.entries ≡ without (unboxed old.entries) k
  popped store is = ap (λ c. unboxed c.entries) is ∙ removed_in old.entries k ∙ removed_is (unboxed old.entries) old.cap k store

  pub popped_store : new ≡ lru_cache (remove_entry (nat_eq k) old.entries) old.cap → IsStore (held_in old) → IsStore (held_in new)
  popped_store is store =
      let entries : unboxed new.entries ≡ without (unboxed old.entries) k = popped store is in
      let cap : new.cap ≡ old.cap = ap (λ c. c.cap) is in
      rw (entries, cap) (store_without (unboxed old.entries) old.cap k store)

  module _ (v : List ℕ) where
    pub to_front_or_not : (found : Bool) → new ≡ lru_cache (promoted (nat_eq k) old.entries) old.cap → block_at (unboxed old.entries) k ≡ cond found (Some v) None → IsStore (held_in old) → unboxed new.entries ≡ cond found (to_front (unboxed old.entries) k v) (unboxed old.entries)
    to_front_or_not true is found store = ap (λ c. unboxed c.entries) is ∙ promoted_in old.entries k ∙ promoted_is (unboxed old.entries) old.cap k v store found
    to_front_or_not false is absent store = ap (λ c. unboxed c.entries) is ∙ promoted_in old.entries k ∙ promoted_none (unboxed old.entries) k absent

    pub to_front_store : (found : Bool) → new ≡ lru_cache (promoted (nat_eq k) old.entries) old.cap → block_at (unboxed old.entries) k ≡ cond found (Some v) None → IsStore (held_in old) → IsStore (held_in new)
    to_front_store true is found store =
        let entries : unboxed new.entries ≡ to_front (unboxed old.entries) k v = to_front_or_not true is found store in
        let cap : new.cap ≡ old.cap = ap (λ c. c.cap) is in
        rw (entries, cap) (store_front (unboxed old.entries) old.cap k v v store found)
    to_front_store false is absent store =
        let entries : unboxed new.entries ≡ unboxed old.entries = to_front_or_not false is absent store in
        let cap : new.cap ≡ old.cap = ap (λ c. c.cap) is in
        rw (entries, cap) store

    module _ {T E : Type 0} (result : Result T E) (box : Box (List ℕ)) (is : box.value ≡ v) where
      pub put_new : block_at (unboxed old.entries) k ≡ None → OnOk result (new ≡ lru_cache (put_entries nat_eq old k box) old.cap) → OnErr result (new ≡ old) → Keeps (unboxed old.entries) old.cap k v (unboxed new.entries)
      put_new absent done kept = by result done kept
        where
          by : (r : Result T E) → OnOk r (new ≡ lru_cache (put_entries nat_eq old k box) old.cap) → OnErr r (new ≡ old) → Keeps (unboxed old.entries) old.cap k v (unboxed new.entries)
          by (Ok x) done kept = inl (ap (λ c. unboxed c.entries) done ∙ put_in old.entries old.cap k box ∙ ap (put_entries nat_eq (lru_cache (unboxed old.entries) old.cap) k) is ∙ put_absent (unboxed old.entries) old.cap k v absent)
          by (Err e) done kept = inr (ap (λ c. unboxed c.entries) kept)

      pub put_new_cap : OnOk result (new ≡ lru_cache (put_entries nat_eq old k box) old.cap) → OnErr result (new ≡ old) → new.cap ≡ old.cap
      put_new_cap done kept = by result done kept
        where
          by : (r : Result T E) → OnOk r (new ≡ lru_cache (put_entries nat_eq old k box) old.cap) → OnErr r (new ≡ old) → new.cap ≡ old.cap
          by (Ok x) done kept = ap (λ c. c.cap) done
          by (Err e) done kept = ap (λ c. c.cap) kept

-- what is kept is a store again
pub kept_store : (old new : Cache) (k : ℕ) (v : List ℕ) → IsStore (held_in old) → block_at (unboxed old.entries) k ≡ None → Keeps (unboxed old.entries) old.cap k v (unboxed new.entries) → new.cap ≡ old.cap → IsStore (held_in new)
kept_store old new k v store absent (inl more) cap = rw (more, cap) (store_more (unboxed old.entries) old.cap k v store absent)
kept_store old new k v store absent (inr same) cap = rw (same, cap) store

-- a block is written over a held one, which then comes to the front
module _ (old mid new : Cache) (k : ℕ) (v : List ℕ) (store : IsStore (held_in old)) (over : unboxed mid.entries ≡ set_value (nat_eq k) (unboxed old.entries) v) (is : new ≡ lru_cache (promoted (nat_eq k) mid.entries) mid.cap) where
  now : unboxed new.entries ≡ promoted (nat_eq k) (set_value (nat_eq k) (unboxed old.entries) v)
  now = ap (λ c. unboxed c.entries) is ∙ promoted_in mid.entries k ∙ ap (promoted (nat_eq k)) over

  pub renewed : Renews (unboxed old.entries) k v (unboxed new.entries)
  renewed = by (block_at (unboxed old.entries) k) refl
    where
      by : (o : Option (List ℕ)) → block_at (unboxed old.entries) k ≡ o → Renews (unboxed old.entries) k v (unboxed new.entries)
      by None absent = record {
        held = rw absent tt;
        absent = rw absent (now ∙ ap (promoted (nat_eq k)) (overwritten_absent (unboxed old.entries) k v absent) ∙ promoted_none (unboxed old.entries) k absent);
      }
      by (Some b) found = record {
        held = rw found (now ∙ overwritten_front (unboxed old.entries) old.cap k b v store found);
        absent = rw found tt;
      }

  pub renewed_store : mid.cap ≡ old.cap → IsStore (held_in new)
  renewed_store cap = by (block_at (unboxed old.entries) k) refl
    where
      same : new.cap ≡ old.cap
      same = ap (λ c. c.cap) is ∙ cap

      by : (o : Option (List ℕ)) → block_at (unboxed old.entries) k ≡ o → IsStore (held_in new)
      by None absent =
          let entries : unboxed new.entries ≡ unboxed old.entries = rw absent at renewed.absent in
          rw (entries, same) store
      by (Some b) found =
          let entries : unboxed new.entries ≡ to_front (unboxed old.entries) k v = rw found at renewed.held in
          rw (entries, same) (store_front (unboxed old.entries) old.cap k b v store found)
