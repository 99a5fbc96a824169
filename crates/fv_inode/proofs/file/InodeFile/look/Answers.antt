use Rattle.std.proofs.Common.{ap, ◌∙◌}
use Rattle.std.specs.Option.{option_map}
use Rattle.fv_tree.specs.Standing.{standing, under}
use Rattle.fv_inode.specs.Files.{info_of}
use Rattle.fv_inode.proofs.Looked.{looks_done}
use Rattle.fv_inode.proofs.file.InodeFile.look.Goals as goal

pub returns-clause-found : goal.returns-clause-found
returns-clause-found g c = λ told. c.info_in.ensures.told ∙ ap (option_map (info_of c.args.number)) (c.in_ok-file.ensures.file told)

pub returns-clause-looks : goal.returns-clause-looks
returns-clause-looks g c =
    let old = g.B.Blocks.shown c.args.blocks.now in
    looks_done g.B.Blocks.told (standing (under old) c.args.self.now.tree) old (g.B.Blocks.shown c.read_file.new.blocks) c.in_ok-file.file c.info_in.result c.in_ok-file.ensures.looks
