-- The entries that lead to the maps of slots.
use Rattle.std.specs.Prelude.{◌≡◌, ◌<◌, ℕ, List, Option, None, get_or}
use Rattle.fv_model.specs.Space.{map_blocks}
use Rattle.fv_image.specs.Views.{map_vvbn}
use Rattle.fv_container.specs.declared.entry.Entry.{Entry}
use Rattle.fv_container.specs.Mapped.{Mapped, entry_under}

-- a row begins with the entries of the blocks of a slot's map
abbrev pub AreMapEntries : Mapped → ℕ → ℕ → List (Option Entry) → Type 0
AreMapEntries map span slot row = (k : ℕ) → k < map_blocks span → get_or row k None ≡ entry_under map (map_vvbn span slot k)
