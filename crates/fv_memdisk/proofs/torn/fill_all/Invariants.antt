use Rattle.std.proofs.Common.{◌≡◌, ℕ, take, replicate, cond}
use Rattle.fv_memdisk.specs.Past.{is_among}
use Rattle.fv_memdisk.specs.Blocks.{disk_of}
use Rattle.fv_memdisk.proofs.torn.fill_all.Given as goal

abbrev pub invariant-loop-at : goal.invariant-loop-at
invariant-loop-at l = (a : ℕ) → disk_of l.blocks a ≡ cond (is_among (take l.at-index l.places) a) (replicate 4096 l.byte) (disk_of l.initial.blocks a)
