-- The rules on the PVBNs in pointers. Such a PVBN is a hint: 0 where the place isn't known, else the place of the pointer's VVBN.
use Rattle.std.specs.Prelude.{ℕ, Bool, false, not, ◌&&◌, ◌||◌, Option, ◌==◌}
use Rattle.std.specs.List.{list_all, list_any}
use Rattle.std.specs.Option.{is_none, option_map_or}
use Rattle.fv_codec.specs.declared.pointer.Pointer.{Pointer}
use Rattle.fv_tables.specs.Reached.{Item}
use Rattle.fv_image.specs.Views.{Placed, Footing}
use Rattle.fv_image.specs.Seen.{Root, VolumeSeen, Seen}
use Rattle.fv_image.specs.ReachRules.{all_volumes, all_roots, all_reached}

-- a pointer whose place isn't known; a hole leads nowhere
abbrev pub is_unknown : Pointer → Bool
is_unknown p = not (p.stamp == 0) && (p.pvbn == 0)

-- a pointer whose place is known; a hole leads nowhere
abbrev pub is_known : Pointer → Bool
is_known p = not (p.stamp == 0) && not (p.pvbn == 0)

-- a hint that is right where it is known
abbrev pub is_true_hint : Pointer → Option Placed → Bool
is_true_hint p at = (p.pvbn == 0) || option_map_or (λ x. x.pvbn == p.pvbn) at false

-- Rule 11, hints: a known pointer leads to the place of its VVBN.
unfoldable pub has_true_hints : Seen → Bool
has_true_hints w = all_reached w (λ x e. is_true_hint e.item.pointer e.at)

-- whether a pointer stands in the label
abbrev pub is_in_label : Item → Bool
is_in_label e = e.holder.stamp == 0

-- Rule 12, unknown pointers: no known pointer leads to a node or an inode block that holds an unknown one.
unfoldable pub leads_unknown : Seen → Bool
leads_unknown w = all_reached w (λ x e. not (is_unknown e.item.pointer) || (is_in_label e.item || (e.item.holder.pvbn == 0)))

-- Rule 13, known volumes: where a label says that all places are known, no pointer in its tables is unknown.
unfoldable pub has_known_places : Seen → Bool
has_known_places w = all_reached w (λ x e. not x.head.known || not (is_unknown e.item.pointer))

abbrev pub is_splitting : Option Footing → Bool
is_splitting base = option_map_or (λ b. b.splitting) base false

-- whether the base table of a volume reaches a VVBN
abbrev pub is_based : VolumeSeen → ℕ → Bool
is_based x v = list_any (λ b. b.item.pointer.vvbn == v) x.base

-- whether a VVBN that a root reaches has a copy of the volume's own in place of its base's block
abbrev pub is_copied : VolumeSeen → Root → ℕ → Bool
is_copied x r v = is_based x v && list_any (λ a. (a.item.pointer.vvbn == v) && a.own) r.reached

-- Rule 13, splitting: in a volume that is being split, the pointers in the label are unknown, and so are all pointers to a copy and all
-- pointers in one.
unfoldable pub has_split_places : Seen → Bool
has_split_places w = all_roots w (λ x r. not (is_splitting x.head.base) || list_all (λ e. not (is_known e.item.pointer)
    || not (is_in_label e.item || (is_copied x r e.item.pointer.vvbn || is_copied x r e.item.holder.vvbn))) r.reached)

-- Rule 13, clones: a volume that has a base and isn't being split has no entry of its own under a VVBN that its base table reaches.
unfoldable pub leaves_base : Seen → Bool
leaves_base w = all_volumes w (λ s x. list_all (λ b. not b.own) x.base)

-- Rule 13, what a volume with a base reaches: each VVBN has an entry of its own, or is reached by its base table. (So a clone rests on
-- nothing that only its parent's active table or an entry that waits in the parent holds.)
unfoldable pub rests_on_base : Seen → Bool
rests_on_base w = all_roots w (λ x r. is_none x.head.base || list_all (λ e. e.own || is_based x e.item.pointer.vvbn) r.reached)
