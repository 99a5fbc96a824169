use Rattle.fv_filehost.proofs.Written.{written}
use Rattle.fv_filehost.proofs.calls.FileHostDisk.write.Goals as goal

pub returns : goal.returns
returns g c = written _ _ _ _ _ _ _ _ _ (rw c.counted.ensures.same c.counted-done.ensures.cause) c.counted.ensures.cause
