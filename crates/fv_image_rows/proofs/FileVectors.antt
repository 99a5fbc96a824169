-- Images with files, snapshots, clones and delayed entries, as an independent implementation of the format wrote them, with the machines
-- of its scripts. The trees of all tables have no levels.
use Rattle.std.specs.Prelude.{ℕ, Bool, ◌++◌, true, false, List, [], ◌∷◌, Option, Some, None, replicate}
use Rattle.std.specs.FinMap as fin
use Rattle.fv_disk.specs.Shown.{Image}
use Rattle.fv_codec.specs.Bytes.{zeros}
use Rattle.fv_model.specs.declared.commands.Kind.TheVariants.{Volume as Whole, Thin}
use Rattle.fv_model.specs.Trees.{Tree}
use Rattle.fv_model.specs.Tables.{Table}
use Rattle.fv_model.specs.Volumes.{Base, Volume}
use Rattle.fv_model.specs.Machines.{Machine}
use Rattle.fv_image.specs.NewerRoot.{Taken}
use Rattle.fv_image.specs.Views.{Rooted, Snap, Footing, Head, View}
use Rattle.fv_image.specs.Held.{view_at}
use Rattle.fv_image_rows.proofs.Vectors.{image_of}

-- ---- the blocks that several images have

abbrev pub super_1024 : List ℕ
super_1024 = 70 ∷ 86 ∷ 65 ∷ 71 ∷ 71 ∷ 82 ∷ 48 ∷ 49 ∷ (zeros 6 ++ (4 ∷ zeros 4081))

abbrev pub gate : List ℕ
gate = 71 ∷ 65 ∷ 84 ∷ 69 ∷ 79 ∷ 80 ∷ 69 ∷ 78 ∷ zeros 4088

abbrev pub first_root : List ℕ
first_root = 70 ∷ 86 ∷ 82 ∷ 79 ∷ 79 ∷ 84 ∷ 48 ∷ 48 ∷ (zeros 7 ++ (1 ∷ (zeros 7 ++ (1 ∷ zeros 4072))))

-- what the file's cell has, first and after it was written again
abbrev pub hi : List ℕ
hi = 104 ∷ 105 ∷ zeros 4094

abbrev pub z : List ℕ
z = 122 ∷ zeros 4095

abbrev pub mark : List ℕ
mark = 33 ∷ zeros 4095

-- the inode block with a file f of length 1, whose root has this VVBN, PVBN and stamp
abbrev pub inodes_with : ℕ → ℕ → ℕ → List ℕ
inodes_with vvbn pvbn stamp = 70 ∷ 86 ∷ 73 ∷ 78 ∷ 79 ∷ 68 ∷ 69 ∷ 83 ∷ (zeros 248 ++ (1 ∷ 102 ∷ (zeros 77 ++ (1 ∷ (zeros 23 ++ (vvbn ∷ (zeros 7 ++ (pvbn ∷ (zeros 7 ++ (stamp ∷ zeros 3720))))))))))

-- the root of a container with leaves 0 and 16
abbrev pub inner_with : ℕ → ℕ → List ℕ
inner_with first last = 70 ∷ 86 ∷ 67 ∷ 73 ∷ 78 ∷ 78 ∷ 69 ∷ 82 ∷ (zeros 7 ++ (1 ∷ (zeros 1015 ++ (first ∷ (zeros 127 ++ (last ∷ zeros 2936))))))

-- leaf 16 with the block of the active map, and with that of a snapshot's map, too
abbrev pub map_leaf : ℕ → List ℕ
map_leaf active = 70 ∷ 86 ∷ 67 ∷ 76 ∷ 69 ∷ 65 ∷ 70 ∷ 48 ∷ (zeros 7 ++ (16 ∷ (zeros 1015 ++ (active ∷ 0 ∷ 0 ∷ 0 ∷ 8 ∷ zeros 3060))))

abbrev map_leaves : ℕ → ℕ → List ℕ
map_leaves active kept = 70 ∷ 86 ∷ 67 ∷ 76 ∷ 69 ∷ 65 ∷ 70 ∷ 48 ∷ (zeros 7 ++ (16 ∷ (zeros 1015 ++ (active ∷ 0 ∷ 0 ∷ 0 ∷ 8 ∷ (zeros 7 ++ (kept ∷ 0 ∷ 0 ∷ 0 ∷ 8 ∷ zeros 3048))))))

-- leaf 0 with the inode block and the cell of one table, and with those of two
abbrev leaf_of_file : List ℕ
leaf_of_file = 70 ∷ 86 ∷ 67 ∷ 76 ∷ 69 ∷ 65 ∷ 70 ∷ 48 ∷ (zeros 1023 ++ (7 ∷ 0 ∷ 0 ∷ 0 ∷ 5 ∷ (zeros 7 ++ (8 ∷ 0 ∷ 0 ∷ 0 ∷ 1 ∷ zeros 3048))))

abbrev leaf_of_both : List ℕ
leaf_of_both = 70 ∷ 86 ∷ 67 ∷ 76 ∷ 69 ∷ 65 ∷ 70 ∷ 48 ∷ (zeros 1023 ++ (7 ∷ 0 ∷ 0 ∷ 0 ∷ 5 ∷ (zeros 7 ++ (8 ∷ 0 ∷ 0 ∷ 0 ∷ 5 ∷ (zeros 7 ++ (9 ∷ 0 ∷ 0 ∷ 0 ∷ 1 ∷ (zeros 7 ++ (10 ∷ 0 ∷ 0 ∷ 0 ∷ 1 ∷ zeros 3024))))))))

-- ---- what labels and machines have

-- the root that counts, with these labels
abbrev pub taken : List ℕ → Taken
taken labels = record { blocks = 1024; slot = 1; root = record { generation = 2; version = 1; labels = labels } }

-- the root of a table by its VVBN, its PVBN and its stamp
abbrev pub rooted : ℕ → ℕ → ℕ → Rooted
rooted vvbn pvbn stamp = record { levels = 0; root = record { vvbn = vvbn; pvbn = pvbn; stamp = stamp } }

-- the volume a of kind `volume`, and one of kind `none`
abbrev pub head_whole : ℕ → Rooted → List Snap → Head
head_whole now active snapshots = record { name = 97 ∷ []; kind = Whole; size = 100; most = 200; span = 4096; now = now; base = None; known = true; active = active; snapshots = snapshots }

abbrev pub head_thin : List ℕ → ℕ → Option Footing → Bool → Rooted → Head
head_thin name now base known active = record { name = name; kind = Thin; size = 100; most = 200; span = 4096; now = now; base = base; known = known; active = active; snapshots = [] }

-- the snapshot s in map slot 1
abbrev pub snaps_with : Rooted → List Snap
snaps_with table = record { slot = 1; name = 115 ∷ []; table = table } ∷ []

-- a tree of one cell
abbrev pub one_cell : ℕ → Tree
one_cell stamp = record { levels = 0; stamps = fin.from_entries (((0, 0), stamp) ∷ []) }

-- the table with the file f, whose cell was written in the change with this stamp
abbrev pub table_of : ℕ → List ℕ → Table
table_of stamp content = record { files = fin.from_entries ((0, record { name = 102 ∷ []; length = 1; reserve = 0; blocks = fin.from_entries ((0, content) ∷ []); tree = one_cell stamp }) ∷ []); inode = one_cell stamp }

-- the volumes of those heads
abbrev pub whole : ℕ → Table → List (List ℕ × Table) → Volume
whole now active snapshots = record { kind = Whole; size = 100; most = 200; span = 4096; now = now; active = active; snapshots = fin.from_entries snapshots; base = None; known = true }

abbrev pub thin : ℕ → Table → Option Base → Bool → Volume
thin now active base known = record { kind = Thin; size = 100; most = 200; span = 4096; now = now; active = active; snapshots = fin.from_entries []; base = base; known = known }

-- the base of a clone of a's snapshot
abbrev pub base_of : Bool → Base
base_of splitting = record { parent = 97 ∷ []; snapshot = 115 ∷ []; table = table_of 2 hi; splitting = splitting }

abbrev pub machine_with : List (List ℕ × Volume) → Machine
machine_with volumes = record { blocks = 1024; version = 1; volumes = fin.from_entries volumes }

-- ---- one file

abbrev pub one_file : Image
one_file = image_of (
    super_1024 ∷ gate ∷ gate ∷ first_root ∷
    (70 ∷ 86 ∷ 82 ∷ 79 ∷ 79 ∷ 84 ∷ 48 ∷ 48 ∷ (zeros 7 ++ (2 ∷ (zeros 7 ++ (1 ∷ (zeros 47 ++ (13 ∷ zeros 4024))))))) ∷
    zeros 4096 ∷
    (128 ∷ 63 ∷ zeros 4094) ∷
    inodes_with 1 8 2 ∷
    hi ∷
    (3 ∷ zeros 4095) ∷
    leaf_of_file ∷
    map_leaf 9 ∷
    inner_with 10 11 ∷
    (70 ∷ 86 ∷ 76 ∷ 65 ∷ 66 ∷ 69 ∷ 76 ∷ 48 ∷ (zeros 7 ++ (1 ∷ 97 ∷ (zeros 78 ++ (100 ∷ (zeros 7 ++ (200 ∷ (zeros 6 ++ (16 ∷ (zeros 8 ++ (2 ∷ (zeros 31 ++ (1 ∷ (zeros 7 ++ (12 ∷ (zeros 7 ++ (1 ∷ (zeros 23 ++ (7 ∷ (zeros 7 ++ (2 ∷ zeros 3896))))))))))))))))))))) ∷ [])

abbrev pub one_file_root : Taken
one_file_root = taken (13 ∷ replicate 63 0)

abbrev pub one_file_view : View
one_file_view = view_at one_file_root one_file

abbrev pub one_file_head : Head
one_file_head = head_whole 2 (rooted 0 7 2) []

abbrev pub one_volume : Volume
one_volume = whole 2 (table_of 2 hi) []

abbrev pub one_file_machine : Machine
one_file_machine = machine_with ((97 ∷ [], one_volume) ∷ [])

-- ---- snapshot

abbrev pub snapshot : Image
snapshot = image_of (
    super_1024 ∷ gate ∷ gate ∷ first_root ∷
    (70 ∷ 86 ∷ 82 ∷ 79 ∷ 79 ∷ 84 ∷ 48 ∷ 48 ∷ (zeros 7 ++ (2 ∷ (zeros 7 ++ (1 ∷ (zeros 47 ++ (16 ∷ zeros 4024))))))) ∷
    zeros 4096 ∷
    (128 ∷ 255 ∷ 1 ∷ zeros 4093) ∷
    inodes_with 2 9 2 ∷
    inodes_with 3 10 3 ∷
    hi ∷
    z ∷
    (10 ∷ zeros 4095) ∷
    (5 ∷ zeros 4095) ∷
    leaf_of_both ∷
    map_leaves 11 12 ∷
    inner_with 13 14 ∷
    (70 ∷ 86 ∷ 76 ∷ 65 ∷ 66 ∷ 69 ∷ 76 ∷ 48 ∷ (zeros 7 ++ (1 ∷ 97 ∷ (zeros 78 ++ (100 ∷ (zeros 7 ++ (200 ∷ (zeros 6 ++ (16 ∷ (zeros 8 ++ (3 ∷ (zeros 31 ++ (1 ∷ (zeros 7 ++ (15 ∷ (zeros 7 ++ (1 ∷ (zeros 15 ++ (1 ∷ (zeros 7 ++ (8 ∷ (zeros 7 ++ (3 ∷ (zeros 63 ++ (1 ∷ 115 ∷ (zeros 86 ++ (7 ∷ (zeros 7 ++ (2 ∷ zeros 3736))))))))))))))))))))))))))))) ∷ [])

abbrev pub snapshot_root : Taken
snapshot_root = taken (16 ∷ replicate 63 0)

abbrev pub snapshot_view : View
snapshot_view = view_at snapshot_root snapshot

abbrev pub parent_head : Head
parent_head = head_whole 3 (rooted 1 8 3) (snaps_with (rooted 0 7 2))

abbrev pub parent_volume : Volume
parent_volume = whole 3 (table_of 3 z) ((115 ∷ [], table_of 2 hi) ∷ [])

abbrev pub snapshot_machine : Machine
snapshot_machine = machine_with ((97 ∷ [], parent_volume) ∷ [])

-- ---- clone

abbrev pub clone : Image
clone = image_of (
    super_1024 ∷ gate ∷ gate ∷ first_root ∷
    (70 ∷ 86 ∷ 82 ∷ 79 ∷ 79 ∷ 84 ∷ 48 ∷ 48 ∷ (zeros 7 ++ (2 ∷ (zeros 7 ++ (1 ∷ (zeros 47 ++ (18 ∷ (zeros 7 ++ (23 ∷ zeros 4016))))))))) ∷
    zeros 4096 ∷
    (128 ∷ 255 ∷ 255 ∷ zeros 4093) ∷
    inodes_with 2 9 2 ∷
    inodes_with 3 10 3 ∷
    hi ∷
    z ∷
    inodes_with 3 12 4 ∷
    (33 ∷ zeros 4095) ∷
    (10 ∷ zeros 4095) ∷
    (5 ∷ zeros 4095) ∷
    leaf_of_both ∷
    map_leaves 13 14 ∷
    inner_with 15 16 ∷
    (70 ∷ 86 ∷ 76 ∷ 65 ∷ 66 ∷ 69 ∷ 76 ∷ 48 ∷ (zeros 7 ++ (1 ∷ 97 ∷ (zeros 78 ++ (100 ∷ (zeros 7 ++ (200 ∷ (zeros 6 ++ (16 ∷ (zeros 8 ++ (3 ∷ (zeros 31 ++ (1 ∷ (zeros 7 ++ (17 ∷ (zeros 7 ++ (1 ∷ (zeros 15 ++ (1 ∷ (zeros 7 ++ (8 ∷ (zeros 7 ++ (3 ∷ (zeros 63 ++ (1 ∷ 115 ∷ (zeros 86 ++ (7 ∷ (zeros 7 ++ (2 ∷ zeros 3736))))))))))))))))))))))))))))) ∷
    (10 ∷ zeros 4095) ∷
    (70 ∷ 86 ∷ 67 ∷ 76 ∷ 69 ∷ 65 ∷ 70 ∷ 48 ∷ (zeros 1035 ++ (11 ∷ 0 ∷ 0 ∷ 0 ∷ 5 ∷ (zeros 19 ++ (12 ∷ 0 ∷ 0 ∷ 0 ∷ 1 ∷ zeros 3024))))) ∷
    map_leaf 19 ∷
    inner_with 20 21 ∷
    (70 ∷ 86 ∷ 76 ∷ 65 ∷ 66 ∷ 69 ∷ 76 ∷ 48 ∷ (zeros 7 ++ (1 ∷ 99 ∷ (zeros 70 ++ (2 ∷ (zeros 7 ++ (100 ∷ (zeros 7 ++ (200 ∷ (zeros 6 ++ (16 ∷ (zeros 8 ++ (4 ∷ (zeros 7 ++ (1 ∷ (zeros 7 ++ (1 ∷ (zeros 15 ++ (1 ∷ (zeros 7 ++ (22 ∷ (zeros 7 ++ (1 ∷ (zeros 15 ++ (1 ∷ (zeros 7 ++ (11 ∷ (zeros 7 ++ (4 ∷ zeros 3896))))))))))))))))))))))))))))) ∷ [])

abbrev pub clone_root : Taken
clone_root = taken (18 ∷ 23 ∷ replicate 62 0)

abbrev pub clone_view : View
clone_view = view_at clone_root clone

abbrev pub clone_head : Head
clone_head = head_thin (99 ∷ []) 4 (Some (record { parent = 0; slot = 1; splitting = false })) true (rooted 1 11 4)

abbrev pub clone_volume : Volume
clone_volume = thin 4 (table_of 4 mark) (Some (base_of false)) true

abbrev pub clone_machine : Machine
clone_machine = machine_with ((97 ∷ [], parent_volume) ∷ (99 ∷ [], clone_volume) ∷ [])

-- ---- splitting

abbrev pub splitting : Image
splitting = image_of (
    super_1024 ∷ gate ∷ gate ∷ first_root ∷
    (70 ∷ 86 ∷ 82 ∷ 79 ∷ 79 ∷ 84 ∷ 48 ∷ 48 ∷ (zeros 7 ++ (2 ∷ (zeros 7 ++ (1 ∷ (zeros 47 ++ (16 ∷ (zeros 7 ++ (20 ∷ zeros 4016))))))))) ∷
    zeros 4096 ∷
    (128 ∷ 255 ∷ 31 ∷ zeros 4093) ∷
    inodes_with 2 9 2 ∷
    inodes_with 3 10 3 ∷
    hi ∷
    z ∷
    (10 ∷ zeros 4095) ∷
    (5 ∷ zeros 4095) ∷
    leaf_of_both ∷
    map_leaves 11 12 ∷
    inner_with 13 14 ∷
    (70 ∷ 86 ∷ 76 ∷ 65 ∷ 66 ∷ 69 ∷ 76 ∷ 48 ∷ (zeros 7 ++ (1 ∷ 97 ∷ (zeros 78 ++ (100 ∷ (zeros 7 ++ (200 ∷ (zeros 6 ++ (16 ∷ (zeros 8 ++ (3 ∷ (zeros 31 ++ (1 ∷ (zeros 7 ++ (15 ∷ (zeros 7 ++ (1 ∷ (zeros 15 ++ (1 ∷ (zeros 7 ++ (8 ∷ (zeros 7 ++ (3 ∷ (zeros 63 ++ (1 ∷ 115 ∷ (zeros 86 ++ (7 ∷ (zeros 7 ++ (2 ∷ zeros 3736))))))))))))))))))))))))))))) ∷
    (5 ∷ zeros 4095) ∷
    map_leaf 17 ∷
    inner_with 0 18 ∷
    (70 ∷ 86 ∷ 76 ∷ 65 ∷ 66 ∷ 69 ∷ 76 ∷ 48 ∷ (zeros 7 ++ (1 ∷ 99 ∷ (zeros 70 ++ (2 ∷ (zeros 7 ++ (100 ∷ (zeros 7 ++ (200 ∷ (zeros 6 ++ (16 ∷ (zeros 8 ++ (3 ∷ (zeros 7 ++ (1 ∷ (zeros 7 ++ (1 ∷ (zeros 7 ++ (1 ∷ (zeros 15 ++ (19 ∷ (zeros 7 ++ (1 ∷ (zeros 31 ++ (2 ∷ zeros 3896))))))))))))))))))))))))) ∷ [])

abbrev pub splitting_root : Taken
splitting_root = taken (16 ∷ 20 ∷ replicate 62 0)

abbrev pub splitting_view : View
splitting_view = view_at splitting_root splitting

abbrev pub splitting_head : Head
splitting_head = head_thin (99 ∷ []) 3 (Some (record { parent = 0; slot = 1; splitting = true })) false (rooted 0 0 2)

abbrev pub splitting_volume : Volume
splitting_volume = thin 3 (table_of 2 hi) (Some (base_of true)) false

abbrev pub splitting_machine : Machine
splitting_machine = machine_with ((97 ∷ [], parent_volume) ∷ (99 ∷ [], splitting_volume) ∷ [])

-- ---- mirror

abbrev pub mirror : Image
mirror = image_of (
    super_1024 ∷ gate ∷ gate ∷ first_root ∷
    (70 ∷ 86 ∷ 82 ∷ 79 ∷ 79 ∷ 84 ∷ 48 ∷ 48 ∷ (zeros 7 ++ (2 ∷ (zeros 7 ++ (1 ∷ (zeros 47 ++ (16 ∷ (zeros 7 ++ (21 ∷ zeros 4016))))))))) ∷
    zeros 4096 ∷
    (128 ∷ 255 ∷ 63 ∷ zeros 4093) ∷
    inodes_with 1 8 2 ∷
    hi ∷
    inodes_with 1 0 2 ∷
    hi ∷
    (3 ∷ zeros 4095) ∷
    (3 ∷ zeros 4095) ∷
    leaf_of_file ∷
    map_leaves 11 12 ∷
    inner_with 13 14 ∷
    (70 ∷ 86 ∷ 76 ∷ 65 ∷ 66 ∷ 69 ∷ 76 ∷ 48 ∷ (zeros 7 ++ (1 ∷ 97 ∷ (zeros 78 ++ (100 ∷ (zeros 7 ++ (200 ∷ (zeros 6 ++ (16 ∷ (zeros 8 ++ (2 ∷ (zeros 31 ++ (1 ∷ (zeros 7 ++ (15 ∷ (zeros 7 ++ (1 ∷ (zeros 23 ++ (7 ∷ (zeros 7 ++ (2 ∷ (zeros 63 ++ (1 ∷ 115 ∷ (zeros 86 ++ (7 ∷ (zeros 7 ++ (2 ∷ zeros 3736))))))))))))))))))))))))))) ∷
    (3 ∷ zeros 4095) ∷
    (70 ∷ 86 ∷ 67 ∷ 76 ∷ 69 ∷ 65 ∷ 70 ∷ 48 ∷ (zeros 1023 ++ (9 ∷ 0 ∷ 0 ∷ 0 ∷ 5 ∷ (zeros 7 ++ (10 ∷ 0 ∷ 0 ∷ 0 ∷ 1 ∷ zeros 3048))))) ∷
    map_leaf 17 ∷
    inner_with 18 19 ∷
    (70 ∷ 86 ∷ 76 ∷ 65 ∷ 66 ∷ 69 ∷ 76 ∷ 48 ∷ (zeros 7 ++ (1 ∷ 119 ∷ (zeros 70 ++ (2 ∷ (zeros 7 ++ (100 ∷ (zeros 7 ++ (200 ∷ (zeros 6 ++ (16 ∷ (zeros 8 ++ (2 ∷ (zeros 39 ++ (20 ∷ (zeros 7 ++ (1 ∷ (zeros 31 ++ (2 ∷ zeros 3896))))))))))))))))))) ∷ [])

abbrev pub mirror_root : Taken
mirror_root = taken (16 ∷ 21 ∷ replicate 62 0)

abbrev pub mirror_view : View
mirror_view = view_at mirror_root mirror

abbrev pub source_head : Head
source_head = head_whole 2 (rooted 0 7 2) (snaps_with (rooted 0 7 2))

abbrev pub source_volume : Volume
source_volume = whole 2 (table_of 2 hi) ((115 ∷ [], table_of 2 hi) ∷ [])

abbrev pub mirror_head : Head
mirror_head = head_thin (119 ∷ []) 2 None false (rooted 0 0 2)

abbrev pub mirror_volume : Volume
mirror_volume = thin 2 (table_of 2 hi) None false

abbrev pub mirror_machine : Machine
mirror_machine = machine_with ((97 ∷ [], source_volume) ∷ (119 ∷ [], mirror_volume) ∷ [])

-- ---- delayed file

abbrev pub delayed_file : Image
delayed_file = image_of (
    super_1024 ∷ gate ∷ gate ∷ first_root ∷
    (70 ∷ 86 ∷ 82 ∷ 79 ∷ 79 ∷ 84 ∷ 48 ∷ 48 ∷ (zeros 7 ++ (2 ∷ (zeros 7 ++ (1 ∷ (zeros 47 ++ (16 ∷ zeros 4024))))))) ∷
    zeros 4096 ∷
    (128 ∷ 255 ∷ 1 ∷ zeros 4093) ∷
    inodes_with 1 8 2 ∷
    hi ∷
    zeros 4096 ∷
    zeros 4096 ∷
    zeros 4096 ∷
    (3 ∷ zeros 4095) ∷
    (70 ∷ 86 ∷ 67 ∷ 76 ∷ 69 ∷ 65 ∷ 70 ∷ 48 ∷ (zeros 1023 ++ (7 ∷ 0 ∷ 0 ∷ 0 ∷ 5 ∷ (zeros 7 ++ (8 ∷ 0 ∷ 0 ∷ 0 ∷ 1 ∷ (zeros 7 ++ (9 ∷ 0 ∷ 0 ∷ 0 ∷ 1 ∷ (zeros 7 ++ (10 ∷ 0 ∷ 0 ∷ 0 ∷ 1 ∷ (zeros 7 ++ (11 ∷ 0 ∷ 0 ∷ 0 ∷ 1 ∷ zeros 3012))))))))))) ∷
    map_leaf 12 ∷
    inner_with 13 14 ∷
    (70 ∷ 86 ∷ 76 ∷ 65 ∷ 66 ∷ 69 ∷ 76 ∷ 48 ∷ (zeros 7 ++ (1 ∷ 97 ∷ (zeros 78 ++ (100 ∷ (zeros 7 ++ (200 ∷ (zeros 6 ++ (16 ∷ (zeros 8 ++ (2 ∷ (zeros 31 ++ (1 ∷ (zeros 7 ++ (15 ∷ (zeros 7 ++ (1 ∷ (zeros 23 ++ (7 ∷ (zeros 7 ++ (2 ∷ zeros 3896))))))))))))))))))))) ∷ [])

abbrev pub delayed_file_root : Taken
delayed_file_root = taken (16 ∷ replicate 63 0)

abbrev pub delayed_file_view : View
delayed_file_view = view_at delayed_file_root delayed_file

abbrev pub delayed_file_machine : Machine
delayed_file_machine = machine_with ((97 ∷ [], one_volume) ∷ [])
