use Rattle.fv_inode.proofs.Blanking.{blanks_files}
use Rattle.fv_inode.proofs.file.InodeFile.blank.Goals as goal

pub returns : goal.returns
returns c = blanks_files c.args.self.now.tree _ _ c.blank.ensures c.blank_roots.ensures
