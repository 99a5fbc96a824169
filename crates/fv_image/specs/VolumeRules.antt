-- The rules on volumes as a whole: spans, bases, names and space.
use Rattle.std.specs.Prelude.{ℕ, zero, suc, ◌+◌, Bool, true, false, not, ◌&&◌, map, sum_by, Option, Some, None, nat_le}
use Rattle.std.specs.List.{list_all, range_with_len}
use Rattle.std.specs.Option.{is_some, option_map_or, option_and_then}
use Rattle.std.specs.FinSet as set
use Rattle.fv_model.specs.Spelling.{is_same_name}
use Rattle.fv_model.specs.Machines.{capacity}
use Rattle.fv_model.specs.Space.{base_ids, use_of, commit}
use Rattle.fv_image.specs.Views.{Footing, Head, slots}
use Rattle.fv_image.specs.Held.{Layout}
use Rattle.fv_image.specs.Volumes.{snap_at}
use Rattle.fv_image.specs.Seen.{VolumeSeen, Seen}
use Rattle.fv_image.specs.ReachRules.{all_volumes, are_distinct}
use Rattle.fv_image.specs.HintRules.{is_splitting}

-- Rule 2, spans: each has room for `most` blocks, for the ids of the base, and for 256 more.
unfoldable pub has_wide_spans : Seen → Bool
has_wide_spans w = all_volumes w (λ s x. nat_le (x.head.most + (set.len (base_ids x.volume.base) + 256)) x.head.span)

-- what a volume in a slot stands on
abbrev pub footing_in : Seen → ℕ → Option Footing
footing_in w s = option_and_then (λ x. x.head.base) (w.volume s)

-- whether the chain of bases from a slot comes to an end within so many volumes
unfoldable pub comes_to_end : Seen → ℕ → ℕ → Bool
comes_to_end w zero s = false
comes_to_end w (suc n) s = option_map_or (λ b. comes_to_end w n b.parent) (footing_in w s) true

-- whether a volume can stand on a snapshot of this one
abbrev pub can_bear : VolumeSeen → Footing → VolumeSeen → Bool
can_bear x b parent = is_some (snap_at parent.head b.slot) && (nat_le parent.head.span x.head.span && (parent.head.known && not (is_splitting parent.head.base)))

abbrev pub has_footing : Seen → VolumeSeen → Footing → Bool
has_footing w x b = option_map_or (can_bear x b) (w.volume b.parent) false

-- Rule 3, bases: each leads to a snapshot that is there, of a known volume that isn't being split and whose span isn't greater; and
-- no chain of bases comes back to itself.
unfoldable pub has_bases : Seen → Bool
has_bases w = all_volumes w (λ s x. comes_to_end w 64 s && option_map_or (has_footing w x) x.head.base true)

-- whether the heads of two slots have one name
abbrev pub share_name : Option Head → Option Head → Bool
share_name None other = false
share_name (Some h) None = false
share_name (Some h) (Some other) = is_same_name h.name other.name

-- Rule 4, names: no two volumes have one name.
unfoldable pub has_distinct_names : Layout → Bool
has_distinct_names y = list_all (λ s. list_all (λ earlier. not (share_name (y.view.head earlier) (y.view.head s))) (range_with_len 0 s)) slots

-- Rule 4, names: no two snapshots of a volume have one name.
unfoldable pub has_distinct_snapshots : Seen → Bool
has_distinct_snapshots w = all_volumes w (λ s x. are_distinct (map (λ p. p.name) x.head.snapshots))

-- Rule 14, use: no volume uses more than its size.
unfoldable pub has_use_in_size : Seen → Bool
has_use_in_size w = all_volumes w (λ s x. nat_le (use_of x.volume) x.head.size)

-- what all volumes use together
unfoldable pub uses_seen : Seen → ℕ
uses_seen w = sum_by (λ s. option_map_or (λ x. use_of x.volume) (w.volume s) 0) slots

-- what all volumes commit together
unfoldable pub commits_seen : Seen → ℕ
commits_seen w = sum_by (λ s. option_map_or (λ x. commit x.volume) (w.volume s) 0) slots

-- Rule 14, commits: they fit the capacity.
unfoldable pub has_commits_in_capacity : Seen → Bool
has_commits_in_capacity w = nat_le (commits_seen w) (capacity w.blocks)
