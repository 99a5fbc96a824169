use Rattle.fv_memdisk.proofs.Images.{zeros_whole}
use Rattle.fv_memdisk.proofs.host.MemHost.new.Goals as goal

pub over-requires : goal.over-requires
over-requires c = zeros_whole c.new.result c.new.ensures
