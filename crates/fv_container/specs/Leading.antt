-- Which blocks the entries of a container lead to, and entries that became holes.
use Rattle.std.specs.Prelude.{◌≡◌, ℕ, Bool, ◌&&◌, length, Option, Some, None, if◌then◌else◌}
use Rattle.std.specs.List.{list_any, range_with_len}
use Rattle.fv_container.specs.declared.entry.Entry.{Entry}
use Rattle.fv_container.specs.Mapped.{Mapped, entry_under}
use Rattle.fv_container.specs.Spelled.{is_at}
use Rattle.fv_container.specs.Paged.{Paged}
use Rattle.fv_container.specs.Clean.{StaysClean}

-- the place of an entry; a hole has none
abbrev pub place_in : Option Entry → ℕ
place_in None = 0
place_in (Some entry) = entry.pvbn

-- the place under a VVBN; under a hole there is none
abbrev pub place_at : Mapped → ℕ → ℕ
place_at map v = place_in (entry_under map v)

-- whether one of some entries, of those that pass a test, leads to a block
abbrev pub lead_to : Mapped → (ℕ → Bool) → ℕ → ℕ → ℕ → Bool
lead_to map goes from count b = list_any (λ v. goes v && is_at b (place_at map v)) (range_with_len from count)

-- some entries became holes, and every other is as it was; what was clean is clean
pub record HasEmptied (old : Paged) (goes : ℕ → Bool) (new : Paged) : Type 0 where
  pub entries : (v : ℕ) → entry_under new.map v ≡ (if goes v then None else entry_under old.map v)
  pub long : length new.map.entries ≡ length old.map.entries
  pub tree : new.map.tree ≡ old.map.tree
  pub clean : StaysClean old new
