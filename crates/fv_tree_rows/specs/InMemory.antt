-- What blocks in memory show.
use Rattle.std.specs.Prelude.{ℕ, ◌+◌, ◌-◌, List, map, Option, refl}
use Rattle.std.specs.Option.{option_map}
use Rattle.std.specs.Ordering.{nat_cmp}
use Rattle.std.specs.BTreeMap as tree
use Rattle.std.specs.FinMap as fin
use Rattle.fv_tree.specs.Sources.{Shown, Use, IsSource}

-- the blocks that are held
abbrev pub held_in_memory : tree.BTreeMap ℕ (List ℕ × ℕ × ℕ) → fin.FinMap nat_cmp (List ℕ)
held_in_memory blocks = fin.from_entries (map (λ entry. (entry.0, entry.1.0)) blocks.entries)

abbrev pub use_in_memory : List ℕ × ℕ × ℕ → Use
use_in_memory kept = record { pvbn = kept.1; kind = kept.2 }

-- what is held is in use, with the PVBN that was told when it was placed, and its kind
abbrev pub used_in_memory : tree.BTreeMap ℕ (List ℕ × ℕ × ℕ) → ℕ → Option Use
used_in_memory blocks v = option_map use_in_memory (tree.get nat_cmp blocks v)

-- the block under a VVBN reads at the place after it, each load is one look-up, and no damage is answered; the VVBNs from the next one on
-- can be placed
abbrev pub shown_in_memory : tree.BTreeMap ℕ (List ℕ × ℕ × ℕ) → ℕ → ℕ → ℕ → ℕ → Shown
shown_in_memory blocks next loads strays faults = record {
  held = held_in_memory blocks;
  used = used_in_memory blocks;
  strays = strays;
  right = λ v pvbn. Unit {0};
  read_at = λ p. p.vvbn + 1;
  room = 1000000 - next;
  cost = λ p. 1;
  spent = loads;
  faults = faults;
  damages = 0;
  last = record { at = 0; want = 0; found = 0 };
  is_damage = λ d. ⊥;
}

pub in_memory_is_source : (blocks : tree.BTreeMap ℕ (List ℕ × ℕ × ℕ)) (next loads strays faults : ℕ) → IsSource (shown_in_memory blocks next loads strays faults)
in_memory_is_source blocks next loads strays faults = record { damage = λ some. absurd (some refl) }
