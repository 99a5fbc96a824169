-- What each rule on tables asks of one volume as it is seen. `fv_image` asks the same of all volumes at once; a step that changes one
-- volume has to show the rules of that one alone. The rules on bases and on commits look at several volumes, so they aren't here.
use Rattle.std.specs.Prelude.{◌≡◌, ℕ, ◌+◌, Bool, true, not, ◌&&◌, ◌||◌, map, take, ◌==◌, nat_lt, nat_le}
use Rattle.std.specs.List.{list_all}
use Rattle.std.specs.Option.{is_some, is_none}
use Rattle.std.specs.FinSet as set
use Rattle.fv_codec.specs.declared.inode.InodeRecord.{InodeRecord}
use Rattle.fv_model.specs.Space.{base_ids, use_of}
use Rattle.fv_tables.specs.Reached.{Item}
use Rattle.fv_image.specs.Views.{Snap, kind_at}
use Rattle.fv_image.specs.Seen.{Reached, Root, Based, VolumeSeen}
use Rattle.fv_image.specs.BlockRules.{is_fine, agree}
use Rattle.fv_image.specs.ReachRules.{kind_of, shape_for, block_is, is_hint, is_of_position, are_distinct, is_same_position}
use Rattle.fv_image.specs.TableRules.{all_items, has_same_id, is_below_mark, is_cell_of, are_levels}
use Rattle.fv_image.specs.HintRules.{is_known, is_unknown, is_true_hint, is_in_label, is_splitting, is_based, is_copied}

-- a test of each pointer that a root reaches
abbrev pub of_reached : (Root → Reached → Bool) → VolumeSeen → Bool
of_reached test x = list_all (λ r. list_all (test r) r.reached) x.roots

-- ---- rules that look at no hint

-- rule 2, spans
abbrev pub spans_rule : VolumeSeen → Bool
spans_rule x = nat_le (x.head.most + (set.len (base_ids x.volume.base) + 256)) x.head.span

-- rule 4, names of snapshots
abbrev pub snapshots_rule : VolumeSeen → Bool
snapshots_rule x = are_distinct (map (λ (p : Snap). p.name) x.head.snapshots)

-- rule 4, names of files, of a root and of the volume
abbrev pub has_own_names : Root → Bool
has_own_names r = are_distinct (map (λ (f : ℕ × InodeRecord). take f.1.name_length f.1.name) r.files)

abbrev pub files_rule : VolumeSeen → Bool
files_rule x = list_all has_own_names x.roots

-- rule 5, reach
abbrev pub is_once : Root → Bool
is_once r =
    list_all (λ a. is_some a.at
    && list_all (λ b. not (a.item.pointer.vvbn == b.item.pointer.vvbn) || is_same_position a.item b.item) r.reached) r.reached

abbrev pub once_rule : VolumeSeen → Bool
once_rule x = list_all is_once x.roots

-- rule 9, kinds
abbrev pub has_kinds : Root → Bool
has_kinds r = list_all (λ e. kind_at e.at == kind_of e.item) r.reached

abbrev pub kinds_rule : VolumeSeen → Bool
kinds_rule x = list_all has_kinds x.roots

-- equal ids have equal VVBNs, and the other way round
abbrev pub agree_in_id : Item → Item → Bool
agree_in_id a b = agree (has_same_id a b) (a.pointer.vvbn == b.pointer.vvbn)

-- rule 10, ids
abbrev pub ids_rule : VolumeSeen → Bool
ids_rule x = list_all (λ a. list_all (agree_in_id a) (all_items x)) (all_items x)

-- rule 10, stamps
abbrev pub stamps_rule : VolumeSeen → Bool
stamps_rule x = list_all (λ e. nat_le e.pointer.stamp x.head.now) (all_items x)

-- rule 10, marks
abbrev pub has_marks : Root → Bool
has_marks r = list_all (λ e. not (is_below_mark e.item) || nat_le e.item.pointer.stamp e.item.holder.stamp) r.reached

abbrev pub marks_rule : VolumeSeen → Bool
marks_rule x = list_all has_marks x.roots

-- rule 10, lengths
abbrev pub has_cells_inside : Root → Bool
has_cells_inside r =
    list_all (λ (f : ℕ × InodeRecord). list_all (λ e. not (is_cell_of f.0 e.item) || nat_lt e.item.place f.1.length) r.reached) r.files

abbrev pub cells_rule : VolumeSeen → Bool
cells_rule x = list_all has_cells_inside x.roots

-- rule 10, levels
abbrev pub has_fit_levels : Root → Bool
has_fit_levels r =
    are_levels 0 r.rooted.levels r.rooted.root.stamp
    && list_all (λ (f : ℕ × InodeRecord). are_levels f.1.reserve f.1.levels f.1.root.stamp) r.files

abbrev pub levels_rule : VolumeSeen → Bool
levels_rule x = list_all has_fit_levels x.roots

-- rule 13, clones
abbrev pub leaves_rule : VolumeSeen → Bool
leaves_rule x = list_all (λ (b : Based). not b.own) x.base

-- rule 14, use
abbrev pub sizes_rule : VolumeSeen → Bool
sizes_rule x = nat_le (use_of x.volume) x.head.size

-- ---- rules that look at hints, at blocks or at own entries

-- rule 1, shapes
abbrev pub has_shape : Reached → Bool
has_shape e = block_is (λ block. is_fine (shape_for e.item block)) e.at

-- rule 4, positions
abbrev pub has_position : Reached → Bool
has_position e = block_is (is_of_position e.item) e.at

-- rule 2, ranges: in an aggregate of so many blocks, below a span
abbrev pub is_within : ℕ → ℕ → Item → Bool
is_within blocks span e = nat_lt e.pointer.vvbn span && is_hint blocks e.pointer.pvbn

-- rule 12: an unknown pointer stands in the label, or under an unknown one
abbrev pub is_led : Item → Bool
is_led e = not (is_unknown e.pointer) || (is_in_label e || (e.holder.pvbn == 0))

-- rule 13, splitting: a known pointer leads to no copy, and stands in none and not in the label
abbrev pub is_apart : VolumeSeen → Root → Item → Bool
is_apart x r e = not (is_known e.pointer) || not (is_in_label e || (is_copied x r e.pointer.vvbn || is_copied x r e.holder.vvbn))

-- What these rules ask of a volume, in an aggregate of so many blocks.
pub record SeesHints (blocks : ℕ) (x : VolumeSeen) : Type 0 where
  pub shapes : of_reached (λ r e. has_shape e) x ≡ true
  pub ranges : of_reached (λ r e. is_within blocks x.head.span e.item) x ≡ true
  pub positions : of_reached (λ r e. has_position e) x ≡ true
  pub hints : of_reached (λ r e. is_true_hint e.item.pointer e.at) x ≡ true
  pub unknown : of_reached (λ r e. is_led e.item) x ≡ true
  pub known : of_reached (λ r e. not x.head.known || not (is_unknown e.item.pointer)) x ≡ true
  pub split : list_all (λ r. not (is_splitting x.head.base) || list_all (λ e. is_apart x r e.item) r.reached) x.roots ≡ true
  pub rests : list_all (λ r. is_none x.head.base || list_all (λ e. e.own || is_based x e.item.pointer.vvbn) r.reached) x.roots ≡ true
