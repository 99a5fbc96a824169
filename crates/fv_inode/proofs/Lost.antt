-- Whether a file has another one beside it, by the records of its inode block.
use Rattle.std.proofs.Common.{◌≡◌, ℕ, ◌/◌, ◌%◌, true, false, List, length, nat_eq, inl, inr, refl}
use Rattle.std.specs.Prelude.{slice_set}
use Rattle.fv_codec.specs.declared.inode.InodeRecord.{InodeRecord}
use Rattle.fv_codec.specs.Blocks.{all_free}
use Rattle.fv_tables.specs.Spelled.{Rooted}
use Rattle.fv_tree.specs.Taking.{gone_with}
use Rattle.fv_inode.specs.Files.{AreRecords, blank_record}
use Rattle.fv_inode.specs.Losing.{IsLost}
use Rattle.fv_inode.proofs.Taken.{neighbor, no_neighbor}

module _ (t : Rooted) (n : ℕ) (fs : List InodeRecord) (long : length fs ≡ 16) (are : AreRecords t (n / 16) fs) where
  pub lost_beside : all_free (slice_set fs (n % 16) blank_record) ≡ false → IsLost t n 0
  lost_beside some = inl (neighbor t n fs blank_record long are refl some, refl)

  pub lost_alone : all_free (slice_set fs (n % 16) blank_record) ≡ true → (count : ℕ) → count ≡ gone_with t (nat_eq (n / 16)) → IsLost t n count
  lost_alone all count is = inr (no_neighbor t n fs blank_record long are refl all, is)
