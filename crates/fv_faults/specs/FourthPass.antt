-- Pass 4: hints, what labels say of them, and space.
use Rattle.std.specs.Prelude.{ℕ, ◌+◌, ◌-◌, ◌*◌, max, Bool, not, ◌&&◌, ◌||◌, List, ◌++◌, map, filter, length, flat_map, count_by, Option, nat_le, ◌==◌, if◌then◌else◌}
use Rattle.std.specs.List.{range_with_len}
use Rattle.std.specs.Option.{is_some, is_none, option_map_or}
use Rattle.fv_model.specs.Machines.{first_block, capacity}
use Rattle.fv_model.specs.Space.{use_of}
use Rattle.fv_tables.specs.Reached.{Item, items, is_listed}
use Rattle.fv_image.specs.Views.{Placed, Rooted, Head, View, own, delayed}
use Rattle.fv_image.specs.Held.{Layout}
use Rattle.fv_image.specs.HintRules.{is_unknown}
use Rattle.fv_image.specs.Views.{overheads, leaves_room}
use Rattle.fv_image.specs.Seen.{seen, roots_of}
use Rattle.fv_image.specs.Volumes.{volume_told, standing_of}
use Rattle.fv_image.specs.Staying.{own_items, base_items}
use Rattle.fv_image.specs.Places.{Held, once_each, is_one_pointer}
use Rattle.fv_image.specs.HintRules.{is_known, is_true_hint, is_in_label, is_splitting}
use Rattle.fv_image.specs.VolumeRules.{commits_seen}
use Rattle.fv_faults.specs.declared.fault.Fault.{Fault}
use Rattle.fv_faults.specs.Lines.{line, unless, expects}
use Rattle.fv_faults.specs.Walks.{Step, pointers_under}
use Rattle.fv_faults.specs.SecondPass.{in_volumes, root_steps}
use Rattle.fv_faults.specs.ThirdPass.{pvbn_at}

-- Rule 11: a known pointer leads to the place of its VVBN.
unfoldable pub hint_lines : Step → List Fault
hint_lines st = unless (is_true_hint st.item.pointer st.at) (line 11 st.block (pvbn_at st.at) st.item.pointer.pvbn)

-- the unknown pointers in the block to which a pointer leads
abbrev pub unknown_under : Item → Option Placed → ℕ
unknown_under e at = option_map_or (λ x. count_by (λ c. is_unknown c.pointer) (pointers_under e x)) at 0

-- Rule 12: no known pointer leads to a node or an inode block that holds an unknown one.
unfoldable pub unknown_lines : Step → List Fault
unknown_lines st = unless (not (is_known st.item.pointer) || (unknown_under st.item st.at == 0)) (line 12 st.block 0 (unknown_under st.item st.at))

-- ---- rule 13, each by a number that has to be 0

abbrev pub none_of : ℕ → ℕ → List Fault
none_of label n = expects 13 label 0 n

-- the pointers of a volume, once for each root that reaches them
abbrev pub all_held : View → ℕ → Head → List Held
all_held w s h = flat_map (λ (r : ℕ × Rooted). map (λ (e : Item). record { map = r.0; item = e }) (items (standing_of w s r.1))) (roots_of h)

-- how many of them pass a test, each counted once for the block that holds it
abbrev pub how_many : View → ℕ → Head → (Item → Bool) → ℕ
how_many w s h test = length (once_each is_one_pointer (filter (λ (p : Held). test p.item) (all_held w s h)))

-- the unknown pointers of a volume of which all places are known
abbrev pub unknown_in : View → ℕ → Head → ℕ
unknown_in w s h = if h.known then how_many w s h (λ e. is_unknown e.pointer) else 0

-- a VVBN that the base table reaches and under which the volume has an entry of its own
abbrev pub is_copy : View → ℕ → Head → ℕ → Bool
is_copy w s h v = is_listed (base_items w h.base) v && is_some (w.entry s v)

-- of a volume that is being split: the known pointers that stand in the label, lead to a copy or stand in one
abbrev pub is_split_fault : View → ℕ → Head → Item → Bool
is_split_fault w s h e = is_known e.pointer && (is_in_label e || (is_copy w s h e.pointer.vvbn || is_copy w s h e.holder.vvbn))

abbrev pub known_in : View → ℕ → Head → ℕ
known_in w s h = if is_splitting h.base then how_many w s h (is_split_fault w s h) else 0

-- of one with a base that isn't being split: the entries of its own under what its base table reaches
abbrev pub own_over_base : View → ℕ → Head → ℕ
own_over_base w s h = if is_splitting h.base then 0 else count_by (is_copy w s h) (range_with_len 0 h.span)

-- of one with a base: the VVBNs that its roots reach, without an entry of its own and not reached by its base table
abbrev pub rests_elsewhere : View → ℕ → Head → ℕ → Bool
rests_elsewhere w s h v = is_listed (own_items w s h) v && (is_none (w.entry s v) && not (is_listed (base_items w h.base) v))

abbrev pub not_on_base : View → ℕ → Head → ℕ
not_on_base w s h = if is_none h.base then 0 else count_by (rests_elsewhere w s h) (range_with_len 0 h.span)

unfoldable pub place_lines : View → ℕ → ℕ → Head → List Fault
place_lines w s label h = none_of label (unknown_in w s h) ++ (none_of label (known_in w s h) ++ (none_of label (own_over_base w s h) ++ none_of label (not_on_base w s h)))

-- ---- rule 14

unfoldable pub use_lines : View → ℕ → ℕ → Head → List Fault
use_lines w s label h = unless (nat_le (use_of (volume_told w s h)) h.size) (line 14 label h.size (use_of (volume_told w s h)))

unfoldable pub commit_lines : ℕ → View → List Fault
commit_lines root w = unless (nat_le (commits_seen (seen w)) (capacity w.blocks)) (line 14 root (capacity w.blocks) (commits_seen (seen w)))

unfoldable pub room_lines : ℕ → View → List Fault
room_lines root w = unless (leaves_room w 0) (line 14 root (2 * overheads w + max 256 0) (w.blocks - first_block w.blocks - own w - delayed w))

unfoldable pub fourth_pass : ℕ → Layout → List Fault
fourth_pass root y =
    in_volumes y (λ s label h.
    flat_map hint_lines (root_steps y.view s label h) ++ (flat_map unknown_lines (root_steps y.view s label h)
    ++ (place_lines y.view s label h ++ use_lines y.view s label h)))
    ++ (commit_lines root y.view ++ room_lines root y.view)
