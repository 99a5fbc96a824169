-- The entries of a leaf as words.
use Rattle.std.proofs.Common.{◌≡◌, ℕ, ◌<◌, ◌≤◌, Bool, true, false, length, get_or, subst, arith}
use Rattle.std.specs.List.{zip}
use Rattle.std.proofs.lemmas.List.Elements.{All-get_or}
use Rattle.std.proofs.lemmas.Slice.Zip.{get_or-zip, length-zip}
use Rattle.fv_codec.specs.declared.container.ContainerLeaf.{ContainerLeaf}
use Rattle.fv_codec.specs.Fields.{up_to}
use Rattle.fv_codec.specs.Blocks.{IsContainerLeaf, IsEntry, is_used, last_place}

-- the numbers of an entry are small
pub few : (pvbn kind : ℕ) → IsEntry (pvbn, kind) → (pvbn ≤ 1048575) × (kind ≤ 8)
few pvbn kind is = (so (is_used kind) is.0, is.1)
  where
    so : (b : Bool) → pvbn ≤ up_to b last_place → pvbn ≤ 1048575
    so true low = low
    so false low = omega (arith, low)

-- one entry of a leaf
pub entry_of : (leaf : ContainerLeaf) (c : ℕ) → IsContainerLeaf leaf → length leaf.pvbns ≡ 256 → length leaf.kinds ≡ 256 → c < 256 → IsEntry (get_or leaf.pvbns c 0, get_or leaf.kinds c 0)
entry_of leaf c is a b low =
    let long = length-zip leaf.pvbns leaf.kinds in
    subst IsEntry (get_or-zip leaf.pvbns leaf.kinds c (0, 0) (omega (arith, a, low)) (omega (arith, b, low))) (All-get_or IsEntry (zip leaf.pvbns leaf.kinds) c (0, 0) (omega (arith, a, b, low, long)) is.entries)
