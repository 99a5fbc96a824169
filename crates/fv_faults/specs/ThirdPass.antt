-- Pass 3: spans, volume maps, held blocks, the aggregate map, kinds, and what stands in tables.
use Rattle.std.specs.Prelude.{ℕ, ◌+◌, ◌-◌, ◌*◌, ◌/◌, max, Bool, not, ◌||◌, List, [], ◌∷◌, ◌++◌, flat_map, find, fold, count_by, Option, nat_lt, nat_le, ◌==◌, if◌then◌else◌}
use Rattle.std.specs.List.{list_any, range_with_len}
use Rattle.std.specs.Option.{option_map_or}
use Rattle.std.specs.FinSet as set
use Rattle.fv_codec.specs.declared.pointer.Pointer.{Pointer}
use Rattle.fv_codec.specs.declared.inode.InodeRecord.{InodeRecord}
use Rattle.fv_codec.specs.Fields.{in_range}
use Rattle.fv_codec.specs.Blocks.{greatest_word}
use Rattle.fv_model.specs.Trees.{least_levels}
use Rattle.fv_model.specs.Space.{map_blocks, base_ids}
use Rattle.fv_tables.specs.Reached.{Item}
use Rattle.fv_image.specs.Layout.{block_bits}
use Rattle.fv_image.specs.Maps.{area_bits}
use Rattle.fv_image.specs.Views.{Placed, Rooted, Footing, Head, View, map_vvbn, volume_bit}
use Rattle.fv_image.specs.Held.{Lying, Layout, held, is_held}
use Rattle.fv_image.specs.BlockRules.{agree}
use Rattle.fv_image.specs.Views.{kind_at}
use Rattle.fv_image.specs.Seen.{own_blocks, roots_of, base_root}
use Rattle.fv_image.specs.Volumes.{volume_told}
use Rattle.fv_image.specs.ReachRules.{kind_of}
use Rattle.fv_image.specs.TableRules.{has_same_id, is_cell_of, are_levels}
use Rattle.fv_faults.specs.declared.fault.Fault.{Fault}
use Rattle.fv_faults.specs.Lines.{line, unless, says, expects}
use Rattle.fv_faults.specs.Walks.{Step, steps, pointers_under, files_under, met_in}
use Rattle.fv_faults.specs.SecondPass.{in_volumes, ground, root_steps}

-- ---- blocks

-- how often a block is held
abbrev pub holders : Layout → ℕ → ℕ
holders y b = count_by (λ x. x == b) (held y)

-- Rule 7: no block is held twice.
unfoldable pub twice_held : Layout → List Fault
twice_held y = flat_map (λ b. unless (nat_le (holders y b) 1) (line 7 b 1 (holders y b))) (held y)

-- a bit as a number
abbrev pub bit_number : Bool → ℕ
bit_number b = if b then 1 else 0

abbrev pub bit_lines : ℕ → ℕ → Bool → Bool → List Fault
bit_lines rule block want found = unless (agree found want) (line rule block (bit_number want) (bit_number found))

-- Rule 8: a bit of the aggregate map is set exactly where its block is held.
unfoldable pub map_lines : Layout → List Fault
map_lines y = flat_map (λ b. bit_lines 8 b (is_held y b) (y.bit b)) (range_with_len 0 (area_bits y.view.blocks))

-- ---- volumes

-- Rule 2, spans
unfoldable pub span_lines : View → ℕ → ℕ → Head → List Fault
span_lines w s label h = unless (nat_le (h.most + (set.len (base_ids (volume_told w s h).base) + 256)) h.span)
    (line 2 label (h.most + (set.len (base_ids (volume_told w s h).base) + 256)) h.span)

abbrev pub pvbn_at : Option Placed → ℕ
pvbn_at at = option_map_or (λ x. x.pvbn) at 0

-- Rule 6: a bit of the map of each used slot is set exactly where the slot's root reaches that VVBN.
unfoldable pub reach_lines : View → ℕ → Head → ℕ → List Step → List Fault
reach_lines w s h slot ss = flat_map (λ v.
    bit_lines 6 (pvbn_at (w.entry s (map_vvbn h.span slot (v / block_bits)))) (list_any (λ st. st.item.pointer.vvbn == v) ss) (volume_bit w s h.span slot v))
    (range_with_len 0 (block_bits * map_blocks h.span))

-- Rule 9: the entry that a VVBN is found at has the kind of its block. For the blocks of maps the label stands in for what holds a pointer.
unfoldable pub kind_lines : Step → List Fault
kind_lines st = expects 9 st.block (kind_of st.item) (kind_at st.at)

unfoldable pub map_kind_lines : View → ℕ → ℕ → Head → List Fault
map_kind_lines w s label h = flat_map (λ (b : ℕ × ℕ). expects 9 label b.1 (kind_at (w.entry s b.0))) (own_blocks w.version h)

-- ---- rule 10

-- each element with the first before it that is the same
unfoldable pub twins : {X : Type 0} → (X → X → Bool) → List X → List X → List (X × X)
twins same before [] = []
twins same before (x ∷ xs) = option_map_or (λ first. (first, x) ∷ []) (find (λ y. same y x) before) [] ++ twins same (before ++ (x ∷ [])) xs

abbrev pub same_id : Step → Step → Bool
same_id a b = has_same_id a.item b.item

abbrev pub same_vvbn : Step → Step → Bool
same_vvbn a b = a.item.pointer.vvbn == b.item.pointer.vvbn

-- the first of stamp, place, level and owner that differ, and no line where none does
abbrev pub id_lines : Step × Step → List Fault
id_lines p = if p.0.item.pointer.stamp == p.1.item.pointer.stamp
    then (if p.0.item.place == p.1.item.place
    then (if p.0.item.level == p.1.item.level
    then expects 10 p.1.block p.0.item.owner p.1.item.owner
    else line 10 p.1.block p.0.item.level p.1.item.level ∷ [])
    else line 10 p.1.block p.0.item.place p.1.item.place ∷ [])
    else line 10 p.1.block p.0.item.pointer.stamp p.1.item.pointer.stamp ∷ []

abbrev pub vvbn_lines : Step × Step → List Fault
vvbn_lines p = expects 10 p.1.block p.0.item.pointer.vvbn p.1.item.pointer.vvbn

-- Ids and VVBNs are one to one.
unfoldable pub one_to_one_lines : List Step → List Fault
one_to_one_lines all = flat_map vvbn_lines (twins same_id [] all) ++ flat_map id_lines (twins same_vvbn [] all)

-- No stamp is above the volume's last.
unfoldable pub stamp_lines : ℕ → Step → List Fault
stamp_lines now st = says 10 st.block (in_range 0 now st.item.pointer.stamp)

-- the greatest stamp of the pointers in a block
abbrev pub greatest_stamp : List Item → ℕ
greatest_stamp es = fold (λ n e. max n e.pointer.stamp) 0 es

-- No mark has a stamp below one directly under it.
unfoldable pub mark_lines : Step → List Fault
mark_lines st = if st.item.level == 0 then [] else
    option_map_or (λ x. unless (nat_le (greatest_stamp (pointers_under st.item x)) st.item.pointer.stamp) (line 10 st.block (greatest_stamp (pointers_under st.item x)) st.item.pointer.stamp)) st.at []

-- the number before, which for 0 wraps
abbrev pub before : ℕ → ℕ
before n = if n == 0 then greatest_word else n - 1

-- No cell of a file is at or past its length.
unfoldable pub length_lines : List (ℕ × InodeRecord) → Step → List Fault
length_lines files st = flat_map (λ (f : ℕ × InodeRecord). unless (not (is_cell_of f.0 st.item) || nat_lt st.item.place f.1.length) (line 10 st.block (before f.1.length) st.item.place)) files

-- A file has the levels of its reserve at least, and just those without cells. The reserve of an inode file is 0.
abbrev pub level_lines : ℕ → ℕ → ℕ → Pointer → List Fault
level_lines block reserve levels p = unless (are_levels reserve levels p.stamp) (line 10 block (least_levels reserve) levels)

unfoldable pub file_level_lines : Step → List Fault
file_level_lines st = option_map_or (λ x. flat_map (λ (f : ℕ × InodeRecord). level_lines x.pvbn f.1.reserve f.1.levels f.1.root) (files_under st.item x)) st.at []

-- what is asked of one root
unfoldable pub table_lines : View → ℕ → ℕ → Head → ℕ × Rooted → List Step → List Fault
table_lines w s label h r ss =
    reach_lines w s h r.0 ss
    ++ (flat_map kind_lines ss
    ++ (flat_map mark_lines ss
    ++ (flat_map (length_lines (flat_map met_in ss)) ss
    ++ (level_lines label 0 r.1.levels r.1.root ++ flat_map file_level_lines ss))))

-- the steps of the base table of a volume, through its parent; the label that holds the root is the parent's
abbrev pub place_or : Option Lying → ℕ
place_or x = option_map_or (λ x. x.place) x 0

abbrev pub steps_on : Layout → Footing → Head → Rooted → List Step
steps_on y b parent r = steps (ground y.view b.parent parent) (place_or (y.label b.parent)) r

unfoldable pub base_steps : Layout → Option Footing → List Step
base_steps y base = option_map_or (λ b. option_map_or (λ g. option_map_or (steps_on y b g) (base_root y.view b) []) (y.view.head b.parent) []) base []

unfoldable pub volume_lines : Layout → ℕ → ℕ → Head → List Fault
volume_lines y s label h =
    let all = root_steps y.view s label h ++ base_steps y h.base in
    span_lines y.view s label h
    ++ (map_kind_lines y.view s label h
    ++ (flat_map (λ r. table_lines y.view s label h r (steps (ground y.view s h) label r.1)) (roots_of h)
    ++ (one_to_one_lines all ++ flat_map (stamp_lines h.now) all)))

unfoldable pub third_pass : Layout → List Fault
third_pass y = twice_held y ++ (map_lines y ++ in_volumes y (volume_lines y))
