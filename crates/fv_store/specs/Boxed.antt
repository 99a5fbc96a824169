-- How a cache of boxed blocks is seen.
use Rattle.std.specs.Prelude.{ℕ, List, map}
use Rattle.std.specs.Global.{Box}
use Rattle.lru.specs.LruCache.{LruCache}
use Rattle.fv_store.specs.Held.{Pairs, Held, held}

abbrev pub Cache : Type 0
Cache = LruCache ℕ (Box (List ℕ))

-- each number with the block in its box
abbrev pub unboxed : List (ℕ × Box (List ℕ)) → Pairs
unboxed = map (λ entry. (entry.0, entry.1.value))

abbrev pub held_in : Cache → Held
held_in cache = held (unboxed cache.entries) cache.cap
