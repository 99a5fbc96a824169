-- The bytes that the encoders write, front to back. That they are the format's is what `reads_back` says.
use Rattle.std.specs.Prelude.{ℕ, List, [], ◌∷◌, ◌++◌}
use Rattle.std.specs.List.{flat_map, zip}
use Rattle.fv_codec.specs.declared.superblock.Super.{Super}
use Rattle.fv_codec.specs.declared.root.Root.{Root}
use Rattle.fv_codec.specs.declared.pointer.Pointer.{Pointer}
use Rattle.fv_codec.specs.declared.node.Node.{Node}
use Rattle.fv_codec.specs.declared.inode.InodeRecord.{InodeRecord}
use Rattle.fv_codec.specs.declared.inode.InodeBlock.{InodeBlock}
use Rattle.fv_codec.specs.declared.label.SnapRecord.{SnapRecord}
use Rattle.fv_codec.specs.declared.label.Label.{Label}
use Rattle.fv_codec.specs.declared.container.ContainerLeaf.{ContainerLeaf}
use Rattle.fv_codec.specs.declared.container.ContainerInner.{ContainerInner}
use Rattle.fv_codec.specs.Bytes.{word, half, zeros}

abbrev pub super_bytes : Super → List ℕ
super_bytes s = word 0x4656414747523031 ++ (word s.blocks ++ zeros 4080)

abbrev pub root_bytes : Root → List ℕ
root_bytes r = word 0x4656524f4f543030 ++ (word r.generation ++ (word r.version ++ (zeros 40 ++ (flat_map word r.labels ++ zeros 3520))))

unfoldable pub pointer_bytes : Pointer → List ℕ
pointer_bytes p = word p.vvbn ++ (word p.pvbn ++ word p.stamp)

abbrev pub node_bytes : Node → List ℕ
node_bytes n = word 0x46564e4f44453030 ++ (word n.level ++ (word n.owner ++ (word n.place ++ (zeros 992 ++ flat_map pointer_bytes n.children))))

unfoldable pub file_bytes : InodeRecord → List ℕ
file_bytes r = (r.name_length ∷ []) ++ (r.name ++ (zeros 7 ++ (word r.length ++ (word r.reserve ++ (word r.levels ++ (pointer_bytes r.root ++ zeros 120))))))

abbrev pub inodes_bytes : InodeBlock → List ℕ
inodes_bytes b = word 0x4656494e4f444553 ++ (word b.index ++ (zeros 240 ++ flat_map file_bytes b.files))

abbrev pub inner_bytes : ContainerInner → List ℕ
inner_bytes n = word 0x465643494e4e4552 ++ (word n.level ++ (word n.place ++ (zeros 1000 ++ (flat_map word n.children ++ zeros 1024))))

unfoldable pub entry_bytes : ℕ × ℕ → List ℕ
entry_bytes entry = word entry.0 ++ half entry.1

abbrev pub leaf_bytes : ContainerLeaf → List ℕ
leaf_bytes l = word 0x4656434c45414630 ++ (word l.index ++ (zeros 1008 ++ flat_map entry_bytes (zip l.pvbns l.kinds)))

unfoldable pub snap_bytes : SnapRecord → List ℕ
snap_bytes s = word s.name_length ++ (s.name ++ (word s.levels ++ (pointer_bytes s.root ++ zeros 24)))

-- the label's name and numbers, up to its root pointer
unfoldable pub label_numbers : Label → List ℕ
label_numbers l = word l.base_slot ++ (word l.splitting ++ (word l.known ++ (word l.container ++ (word l.height ++ word l.levels))))

unfoldable pub label_head : Label → List ℕ
label_head l = word 0x46564c4142454c30 ++ (word l.name_length ++ (l.name ++ (word l.kind ++ (word l.size ++ (word l.most ++ (word l.span ++ (word l.now ++ word l.parent)))))))

abbrev pub label_bytes : Label → List ℕ
label_bytes l = label_head l ++ (label_numbers l ++ (pointer_bytes l.root ++ (zeros 56 ++ (flat_map snap_bytes l.snapshots ++ zeros 768))))
