-- How many pointers pass a test, each counted once for the block in which it stands: by what tells it from all others.
use Rattle.std.specs.Prelude.{ℕ, ◌+◌, Bool, ◌&&◌, ◌||◌, List, flat_map, filter, length, map, Option, Some, None, if◌then◌else◌}
use Rattle.std.specs.declared.cmp.Ordering.{Ordering}
use Rattle.std.specs.Ordering.{eq_by_cmp, nat_cmp, on, then_cmp}
use Rattle.std.specs.List.{list_any}
use Rattle.fv_bits.specs.Members.{is_member}
use Rattle.fv_tables.specs.Reached.{Item, items}
use Rattle.fv_image.specs.Views.{Rooted}
use Rattle.fv_image.specs.Volumes.{standing_of}
use Rattle.fv_image.specs.HintRules.{is_in_label, is_known, is_unknown}
use Rattle.fv_image.specs.Places.{Held, is_one_pointer, once_each}
use Rattle.fv_faults.specs.Met.{Spot, met}
use Rattle.fv_faults.specs.Walks.{Ground}
use Rattle.fv_fourth_pass.specs.declared.tally.Mark.{Mark}

-- by root, VVBN, owner, level and place
abbrev pub mark_cmp : Mark → Mark → Ordering
mark_cmp =
    then_cmp (on (λ (m : Mark). m.root) nat_cmp)
    (then_cmp (on (λ (m : Mark). m.vvbn) nat_cmp)
    (then_cmp (on (λ (m : Mark). m.owner) nat_cmp)
    (then_cmp (on (λ (m : Mark). m.level) nat_cmp) (on (λ (m : Mark). m.place) nat_cmp))))

-- of a pointer that the root of a number reaches; the number is one more than that of its map slot
abbrev pub mark_of : ℕ → Item → Mark
mark_of root e = if is_in_label e
    then record { root = root; vvbn = 0; owner = 0; level = 0; place = 0 }
    else record { root = 0; vvbn = e.holder.vvbn; owner = e.owner; level = e.level; place = e.place }

-- What is counted: without copies the unknown pointers; with copies, as VVBNs, the known pointers that stand in the label, lead to a copy or
-- stand in one.
abbrev pub counts : Option (List Bool) → Item → Bool
counts None e = is_unknown e.pointer
counts (Some copies) e = is_known e.pointer && (is_in_label e || (is_member copies e.pointer.vvbn || is_member copies e.holder.vvbn))

-- it is counted, with this mark
abbrev pub is_marked : Option (List Bool) → ℕ → Mark → Item → Bool
is_marked copies root k e = counts copies e && eq_by_cmp mark_cmp k (mark_of root e)

-- ---- what a walk along roots meets

abbrev pub met_marked : Option (List Bool) → Mark → ℕ → List Spot → Bool
met_marked copies k root ps = list_any (λ (p : Spot). is_marked copies root k p.0) ps

-- one of the pointers of these roots is counted with this mark
abbrev pub among : Ground → ℕ → Option (List Bool) → Mark → List (ℕ × Rooted) → Bool
among g label copies k rs = list_any (λ (r : ℕ × Rooted). met_marked copies k (r.0 + 1) (met g label r.1)) rs

-- ---- what roots reach

abbrev pub reached_by : Ground → List (ℕ × Rooted) → List Held
reached_by g rs = flat_map (λ (r : ℕ × Rooted). map (λ (e : Item). record { map = r.0; item = e }) (items (standing_of g.view g.slot r.1))) rs

-- how many pointers of roots are counted, each once for the block in which it stands
unfoldable pub how_many_in : Ground → Option (List Bool) → List (ℕ × Rooted) → ℕ
how_many_in g copies rs = length (once_each is_one_pointer (filter (λ (p : Held). counts copies p.item) (reached_by g rs)))
