-- What the decoders read is in range, and a fault's numbers differ.
use Rattle.std.proofs.Common.{◌≡◌, ℕ, ◌+◌, ◌%◌, ◌≤◌, ◌==◌, ◌≢◌, Bool, true, eqb, min, List, length, take, drop, Result, Ok, sym, subst, ◌∙◌, arith, length-drop, length-take}
use Rattle.std.specs.Prelude.{IfOk, IfErr}
use Rattle.std.specs.List.{All}
use Rattle.std.proofs.lemmas.Bool.{eqb-true}
use Rattle.fv_codec.specs.declared.shape.Shape.{Shape}
use Rattle.fv_codec.specs.declared.superblock.Super.{Super}
use Rattle.fv_codec.specs.declared.root.Root.{Root}
use Rattle.fv_codec.specs.declared.node.Node.{Node}
use Rattle.fv_codec.specs.declared.inode.InodeBlock.{InodeBlock}
use Rattle.fv_codec.specs.declared.label.Label.{Label}
use Rattle.fv_codec.specs.declared.container.ContainerLeaf.{ContainerLeaf}
use Rattle.fv_codec.specs.declared.container.ContainerInner.{ContainerInner}
use Rattle.fv_codec.specs.Bytes.{word_at, half_at, byte_at}
use Rattle.fv_codec.specs.Fields.{none_filled, up_to}
use Rattle.fv_codec.specs.Blocks.{super_fields, super_at, IsSuper, asks_place, place_of, root_fields, root_at, IsRoot, last_place, greatest_word, pointed, pointer_fields, asks_pointer, pointer_of, IsPointerIf, IsPointer, node_fields, node_at, IsNode, is_hole_at, is_used, most_cells, file_fields, asks_file, file_of, IsInodeRecord, inodes_fields, inodes_at, IsInodeBlock, is_free_at, inner_fields, inner_at, IsContainerInner, entry_fields, asks_entry, leaf_fields, leaf_in, IsEntryIn, IsLeafIn, snap_fields, asks_snap, snap_of, IsSnapRecord, most_stamps, label_fields, label_at, IsLabel}
use Rattle.fv_codec.proofs.Differs.{Differs, in_range_differs, verdicts_differ, read_differs}
use Rattle.fv_codec.proofs.Ranges.{then_ok, as_said, within, divided, filled, in_range_of, all_are}
use Rattle.fv_codec.proofs.Nodes.{holes_alone}
use Rattle.fv_codec.proofs.Inodes.{free_alone}
use Rattle.fv_codec.proofs.Leaves.{zip_items, entry_of}

-- ---- the superblock and the root

pub super_in_range : (block : List ℕ) (r : Result Super Shape) → r ≡ super_at block → IfOk r IsSuper
unfolding super_at
super_in_range block r is = in_range_of super_fields block _ IsSuper r is (λ f.
    let blocks = within 512 1048576 (word_at 8 block) f.1.0 in
    record { least = blocks.0; greatest = blocks.1 })

pub super_differs : (block : List ℕ) (r : Result Super Shape) → r ≡ super_at block → IfErr r (λ s. s.want ≢ s.found)
unfolding super_at
super_differs block r is = read_differs super_fields block _ r (tt, (tt, (tt, tt))) is

place_differs : (item : List ℕ) → Differs (asks_place item)
place_differs item = in_range_differs 0 last_place (word_at 0 item)

place_is : (item : List ℕ) → 8 ≤ length item → asks_place item ≡ Ok tt → place_of item ≤ last_place
place_is item room said = (within 0 last_place (word_at 0 item) said).1

pub root_in_range : (block : List ℕ) (r : Result Root Shape) → length block ≡ 4096 → r ≡ root_at block → IfOk r IsRoot
unfolding root_at
root_in_range block r long is = in_range_of root_fields block _ IsRoot r is (λ f.
    let version = within 1 1 (word_at 16 block) f.1.1.0 in
    record {
      least = version.0;
      greatest = version.1;
      labels = all_are 8 asks_place place_of (λ place. place ≤ last_place) place_is 64 (drop 64 block) (omega (arith, length-drop 64 block)) f.1.1.1.1.0;
    })

pub root_differs : (block : List ℕ) (r : Result Root Shape) → r ≡ root_at block → IfErr r (λ s. s.want ≢ s.found)
unfolding root_at
root_differs block r is = read_differs root_fields block _ r (tt, (tt, (tt, (tt, (place_differs, (tt, tt)))))) is

-- ---- pointers and nodes

pub pointer_is : (used : Bool) (item : List ℕ) → 24 ≤ length item → asks_pointer used item ≡ Ok tt → IsPointerIf used (pointer_of item)
unfolding asks_pointer pointer_of
pointer_is used item room said =
    let f = as_said (pointer_fields used item) item said in
    record {
      vvbn = (within 0 (pointed used (word_at 16 item)) (word_at 0 item) f.0).1;
      pvbn = (within 0 (pointed used (word_at 16 item)) (word_at 8 item) f.1.0).1;
      stamp = (within 0 (up_to used greatest_word) (word_at 16 item) f.1.1.0).1;
    }

pointer_differs : (used : Bool) (item : List ℕ) → Differs (asks_pointer used item)
unfolding asks_pointer
pointer_differs used item = verdicts_differ (pointer_fields used item) item (tt, (tt, (tt, tt)))

pub node_in_range : (block : List ℕ) (r : Result Node Shape) → length block ≡ 4096 → r ≡ node_at block → IfOk r IsNode
unfolding node_at
node_in_range block r long is = in_range_of node_fields block _ IsNode r is (λ f.
    let level = within 1 3 (word_at 8 block) f.1.0 in
    record {
      least = level.0;
      greatest = level.1;
      children = all_are 24 (asks_pointer true) pointer_of IsPointer (pointer_is true) 128 (drop 1024 block) (omega (arith, length-drop 1024 block)) f.1.1.1.1.1.0;
      some = sym (holes_alone 128 24 (drop 1024 block)) ∙ filled (none_filled 128 24 is_hole_at (drop 1024 block)) f.1.1.1.1.1.1.0;
    })

pub node_differs : (block : List ℕ) (r : Result Node Shape) → r ≡ node_at block → IfErr r (λ s. s.want ≢ s.found)
unfolding node_at
node_differs block r is = read_differs node_fields block _ r (tt, (tt, (tt, (tt, (tt, (pointer_differs true, (tt, tt))))))) is

-- ---- files and inode blocks

length-part : (at n : ℕ) (bytes : List ℕ) → at + n ≤ length bytes → length (take n (drop at bytes)) ≡ n
length-part at n bytes room = omega (arith, length-take n (drop at bytes), length-drop at bytes)

pub file_is : (item : List ℕ) → 240 ≤ length item → asks_file item ≡ Ok tt → IsInodeRecord (file_of item)
unfolding asks_file file_of
file_is item room said =
    let f = as_said (file_fields item) item said in
    let used = is_used (byte_at 0 item) in
    record {
      name_length = (within 0 64 (byte_at 0 item) f.0).1;
      name_long = length-part 1 64 item (omega arith);
      name = f.1.0;
      length = (within 0 (up_to used most_cells) (word_at 72 item) f.1.1.1.0).1;
      reserve = (within 0 (up_to used most_cells) (word_at 80 item) f.1.1.1.1.0).1;
      levels = (within 0 (up_to used 3) (word_at 88 item) f.1.1.1.1.1.0).1;
      root = pointer_is used (drop 96 item) (omega (arith, length-drop 96 item)) f.1.1.1.1.1.1.0;
    }

file_differs : (item : List ℕ) → Differs (asks_file item)
unfolding asks_file
file_differs item = verdicts_differ (file_fields item) item (tt, (tt, (tt, (tt, (tt, (tt, (pointer_differs (is_used (byte_at 0 item)), (tt, tt))))))))

pub inodes_in_range : (block : List ℕ) (r : Result InodeBlock Shape) → length block ≡ 4096 → r ≡ inodes_at block → IfOk r IsInodeBlock
unfolding inodes_at
inodes_in_range block r long is = in_range_of inodes_fields block _ IsInodeBlock r is (λ f. record {
  files = all_are 240 asks_file file_of IsInodeRecord file_is 16 (drop 256 block) (omega (arith, length-drop 256 block)) f.1.1.1.0;
  some = sym (free_alone 16 240 (drop 256 block)) ∙ filled (none_filled 16 240 is_free_at (drop 256 block)) f.1.1.1.1.0;
})

pub inodes_differs : (block : List ℕ) (r : Result InodeBlock Shape) → r ≡ inodes_at block → IfErr r (λ s. s.want ≢ s.found)
unfolding inodes_at
inodes_differs block r is = read_differs inodes_fields block _ r (tt, (tt, (tt, (file_differs, (tt, tt))))) is

-- ---- containers

pub inner_in_range : (block : List ℕ) (r : Result ContainerInner Shape) → length block ≡ 4096 → r ≡ inner_at block → IfOk r IsContainerInner
unfolding inner_at
inner_in_range block r long is = in_range_of inner_fields block _ IsContainerInner r is (λ f.
    let level = within 1 2 (word_at 8 block) f.1.0 in
    record {
      least = level.0;
      greatest = level.1;
      children = all_are 8 asks_place place_of (λ place. place ≤ last_place) place_is 256 (drop 1024 block) (omega (arith, length-drop 1024 block)) f.1.1.1.1.0;
    })

pub inner_differs : (block : List ℕ) (r : Result ContainerInner Shape) → r ≡ inner_at block → IfErr r (λ s. s.want ≢ s.found)
unfolding inner_at
inner_differs block r is = read_differs inner_fields block _ r (tt, (tt, (tt, (tt, (place_differs, (tt, tt)))))) is

entry_is : (most : ℕ) (item : List ℕ) → 12 ≤ length item → asks_entry most item ≡ Ok tt → IsEntryIn most (entry_of item)
unfolding asks_entry
entry_is most item room said =
    let f = as_said (entry_fields most item) item said in
    ((within 0 (up_to (is_used (half_at 8 item)) last_place) (word_at 0 item) f.0).1, (within 0 most (half_at 8 item) f.1.0).1)

entry_differs : (most : ℕ) (item : List ℕ) → Differs (asks_entry most item)
unfolding asks_entry
entry_differs most item = verdicts_differ (entry_fields most item) item (tt, (tt, tt))

pub leaf_in_range : (most : ℕ) (block : List ℕ) (r : Result ContainerLeaf Shape) → length block ≡ 4096 → r ≡ leaf_in most block → IfOk r (IsLeafIn most)
unfolding leaf_in
leaf_in_range most block r long is = in_range_of (leaf_fields most) block _ (IsLeafIn most) r is (λ f. record {
  entries = subst (All (IsEntryIn most)) (sym (zip_items 256 12 (drop 1024 block))) (
      all_are 12 (asks_entry most) entry_of (IsEntryIn most) (entry_is most) 256 (drop 1024 block) (omega (arith, length-drop 1024 block)) f.1.1.1.0
      );
})

pub leaf_differs : (most : ℕ) (block : List ℕ) (r : Result ContainerLeaf Shape) → r ≡ leaf_in most block → IfErr r (λ s. s.want ≢ s.found)
unfolding leaf_in
leaf_differs most block r is = read_differs (leaf_fields most) block _ r (tt, (tt, (tt, (entry_differs most, tt)))) is

-- ---- snapshots and labels

snap_is : (item : List ℕ) → 128 ≤ length item → asks_snap item ≡ Ok tt → IsSnapRecord (snap_of item)
unfolding asks_snap snap_of
snap_is item room said =
    let f = as_said (snap_fields item) item said in
    let used = is_used (word_at 0 item) in
    record {
      name_length = (within 0 64 (word_at 0 item) f.0).1;
      name_long = length-part 8 64 item (omega arith);
      name = f.1.0;
      levels = (within 0 (up_to used 2) (word_at 72 item) f.1.1.0).1;
      root = pointer_is used (drop 80 item) (omega (arith, length-drop 80 item)) f.1.1.1.0;
    }

snap_differs : (item : List ℕ) → Differs (asks_snap item)
unfolding asks_snap
snap_differs item = verdicts_differ (snap_fields item) item (tt, (tt, (tt, (pointer_differs (is_used (word_at 0 item)), (tt, tt)))))

pub label_in_range : (block : List ℕ) (r : Result Label Shape) → length block ≡ 4096 → r ≡ label_at block → IfOk r IsLabel
unfolding label_at
label_in_range block r long is = in_range_of (label_fields block) block _ IsLabel r is (λ f.
    let based = is_used (word_at 120 block) in
    let name_length = within 1 64 (word_at 8 block) f.1.0 in
    let size = within 1 (min 500000 (word_at 96 block)) (word_at 88 block) f.1.1.1.1.0 in
    let most = within 2 1000000 (word_at 96 block) f.1.1.1.1.1.0 in
    let base = within (up_to based 1) (up_to based 24) (word_at 128 block) f.1.1.1.1.1.1.1.1.1.0 in
    let height = within 1 2 (word_at 160 block) f.1.1.1.1.1.1.1.1.1.1.1.1.1.0 in
    let steps = then_ok _ _ f.1.1.1.1.1.1.0 in
    let span = within 4096 1048576 (word_at 104 block) steps.0 in
    record {
      name_least = name_length.0;
      name_greatest = name_length.1;
      name = f.1.1.0;
      kind = (within 0 2 (word_at 80 block) f.1.1.1.0).1;
      size_least = size.0;
      size_greatest = size.1;
      most_least = most.0;
      most_greatest = most.1;
      span_least = span.0;
      span_greatest = span.1;
      span_step = eqb-true (word_at 104 block % 4096) 0 (divided (eqb (word_at 104 block % 4096) 0) _ steps.1);
      now = (within 0 most_stamps (word_at 112 block) f.1.1.1.1.1.1.1.0).1;
      parent = (within 0 64 (word_at 120 block) f.1.1.1.1.1.1.1.1.0).1;
      base_least = base.0;
      base_greatest = base.1;
      splitting = (within 0 (up_to based 1) (word_at 136 block) f.1.1.1.1.1.1.1.1.1.1.0).1;
      known = (within 0 (up_to (word_at 136 block == 0) 1) (word_at 144 block) f.1.1.1.1.1.1.1.1.1.1.1.0).1;
      container = (within 0 last_place (word_at 152 block) f.1.1.1.1.1.1.1.1.1.1.1.1.0).1;
      height_least = height.0;
      height_greatest = height.1;
      levels = (within 0 2 (word_at 168 block) f.1.1.1.1.1.1.1.1.1.1.1.1.1.1.0).1;
      root = pointer_is true (drop 176 block) (omega (arith, length-drop 176 block)) f.1.1.1.1.1.1.1.1.1.1.1.1.1.1.1.0;
      snapshots = all_are 128 asks_snap snap_of IsSnapRecord snap_is 24 (drop 256 block) (omega (arith, length-drop 256 block)) f.1.1.1.1.1.1.1.1.1.1.1.1.1.1.1.1.1.0;
    })

pub label_differs : (block : List ℕ) (r : Result Label Shape) → r ≡ label_at block → IfErr r (λ s. s.want ≢ s.found)
unfolding label_at
label_differs block r is = read_differs (label_fields block) block _ r (tt, (tt, (tt, (tt, (tt, (tt, (tt, (tt, (tt, (tt, (tt, (tt, (tt, (tt, (tt, (pointer_differs true, (tt, (snap_differs, (tt, tt))))))))))))))))))) is
