-- A disk that tells its reads gives whole blocks.
use Rattle.std.proofs.Common.{◌≡◌, ℕ, length, arith}
use Rattle.std.specs.Prelude.{IsTrue}
use Rattle.fv_disk.specs.Shown.{Shown, IsDisk}

pub reads_whole : (disk : Shown) → IsDisk disk → IsTrue disk.tells → (b : ℕ) → length (disk.reads b) ≡ 4096
reads_whole disk laws tells b = (laws.blocks disk.moment disk.reads disk.given (laws.counts_now disk.moment disk.reads (omega arith) (laws.read_is_image tells)) b).long
